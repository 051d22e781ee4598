use Rattle.std.proofs.Common.{ap, sym, ◌∙◌, cond, Some, None}
use Rattle.std.proofs.lemmas.List.Elements.{recursion_from_All}
use Rattle.nv_names.proofs.First.{first_at}
use Rattle.nv_names.proofs.bucket.find_first.Goals as goal

pub returns-then-is_of : goal.returns-then-is_of
returns-then-is_of c =
    ap Some c.target.ensures
    ∙ sym (first_at c.args.first.now.entries c.args.key c.args.name.now (Some c.in-Some.held.now) (recursion_from_All _ _ c.requires.keyed) c.requires.once c.requires.key c.in-Some.ensures.value
    ∙ ap (λ b. cond b (Some (c.in-Some.held.now.1, c.in-Some.held.now.2)) None) (sym c.is_of.ensures ∙ c.if-is_of.true))

pub returns-else-is_of : goal.returns-else-is_of
returns-else-is_of c =
    sym (first_at c.args.first.now.entries c.args.key c.args.name.now (Some c.in-Some.held.now) (recursion_from_All _ _ c.requires.keyed) c.requires.once c.requires.key c.in-Some.ensures.value
    ∙ ap (λ b. cond b (Some (c.in-Some.held.now.1, c.in-Some.held.now.2)) None) (sym c.is_of.ensures ∙ c.if-is_of.false))

pub returns-in-None : goal.returns-in-None
returns-in-None c = sym (first_at c.args.first.now.entries c.args.key c.args.name.now None (recursion_from_All _ _ c.requires.keyed) c.requires.once c.requires.key c.in-None.ensures.value)
