use Rattle.std.proofs.Common.{rules, Some, ◌≡◌, ◌∙◌, ap, pos}
use Rattle.clap.specs.declared.builder.value_parser.ValueParser.TheVariants as parsers
use Rattle.nv_args.proofs.arguments.version.Goals as goal

pub returns-clause-rule : goal.returns-clause-rule
returns-clause-rule c =
    let given = c.value_parser.ensures.given in
    let parser_is : c.value_parser.result.value_parser ≡ Some (parsers.Signed (pos 1) (pos 2)) = given.1 ∙ ap Some (given.2 ∙ c.version_parser.ensures) in
    rw (c.value_parser.ensures.others, parser_is, c.help.ensures, c.long.ensures) (search rules)
