use Rattle.nv_inspect.proofs.Dying.{none_held}
use Rattle.nv_inspect.proofs.Steps.{no_pieces}
use Rattle.nv_inspect.proofs.held.Held.new.Goals as goal

pub returns : goal.returns
returns c s kind = none_held s kind c.args.created
    (record { size = c.new.result; mode = c.new-2.result; owner = c.new-3.result; group = c.new-4.result; links = c.new-5.result; time = c.new-6.result; pages = c.new-7.result; names = c.new-8.result })
    c.new.ensures c.new-2.ensures c.new-3.ensures c.new-4.ensures c.new-5.ensures c.new-6.ensures (no_pieces c.new-7.result.entries c.new-7.ensures.empty) c.new-8.ensures.names c.new-8.ensures.holders
