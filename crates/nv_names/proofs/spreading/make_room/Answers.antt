use Rattle.std.proofs.Common.{◌≡◌, length, ap, sym, ◌∙◌, arith}
use Rattle.nv_names.specs.Names.{found_in}
use Rattle.nv_names.proofs.Choosing.{not_many, lines_alone, lines_many, only_many}
use Rattle.nv_names.proofs.spreading.make_room.Goals as goal

pub returns-in_ok-many-clause-buckets : goal.returns-in_ok-many-clause-buckets
returns-in_ok-many-clause-buckets c = only_many c.new.result c.in_ok-many.field-0.items c.new.ensures c.in_ok-many.ensures.many

pub returns-in_ok-many-clause-names : goal.returns-in_ok-many-clause-names
returns-in_ok-many-clause-names c = λ q.
    let len : length c.args.many.now.items ≡ c.args.many.now.len = omega arith in
    ap (λ es. found_in es q) (lines_many c.new.result c.in_ok-many.field-0.items c.new.ensures)
    ∙ c.in_ok-many.ensures.names q
    ∙ ap (λ es. found_in es q) (sym (lines_alone c.args.one.now c.args.many.now.items (not_many c.args.many.now.items c.args.many.now.len c.is_empty.result len c.is_empty.ensures c.if-is_empty.true)))

pub returns-in_ok-many-clause-len : goal.returns-in_ok-many-clause-len
returns-in_ok-many-clause-len c =
    let len : length c.args.many.now.items ≡ c.args.many.now.len = omega arith in
    ap length (lines_many c.new.result c.in_ok-many.field-0.items c.new.ensures)
    ∙ c.in_ok-many.ensures.len
    ∙ ap length (sym (lines_alone c.args.one.now c.args.many.now.items (not_many c.args.many.now.items c.args.many.now.len c.is_empty.result len c.is_empty.ensures c.if-is_empty.true)))
