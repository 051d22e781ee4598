use Rattle.std.proofs.lemmas.Result.{IfErr-weaker}
use Rattle.nova_c.specs.Codes.{RefusesFormat, RefusesMount}
use Rattle.nova_c.specs.Mounted.{blank}
use Rattle.nova_c.proofs.Refusals.{formatted_refusal}
use Rattle.nova_c.proofs.opening.formatted.Goals as goal

pub returns-clause-refused : goal.returns-clause-refused
returns-clause-refused c =
    IfErr-weaker c.mounted.result (RefusesMount c.format.new.memory) (RefusesFormat (blank c.args.blocks) c.args.cpus c.args.tables)
    (λ status. formatted_refusal (blank c.args.blocks) _ c.format.new.memory _ c.args.time c.args.cpus c.args.tables status c.in_default.ensures.done)
    c.mounted.ensures.refused
