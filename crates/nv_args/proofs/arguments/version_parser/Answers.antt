use Rattle.nv_args.proofs.arguments.version_parser.Goals as goal

pub returns : goal.returns
returns c =
    let narrowed = rw c.value_parser.ensures at c.range.ensures in
    rw (c.new.ensures.start, c.new.ensures.end) at narrowed
