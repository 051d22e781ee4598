use Rattle.std.proofs.Common.{◌∙◌, ap, sym, refl, inl, inr}
use Rattle.std.specs.Cmp.Lexicographic.{bytes_decides, nat_list_cmp_total, texts_ties}
use Rattle.std.specs.Ordering.{is_eq, ordering_reverse}
use Rattle.nv_difference.specs.Names.{name_bytes}
use Rattle.nv_difference.proofs.merging.lesser.Goals as goal

pub returns-in-Less : goal.returns-in-Less
returns-in-Less c = record { among = inl refl; first = inl refl; second = inr (sym c.cmp.ensures ∙ c.in-Less.is) }

pub returns-in-Equal : goal.returns-in-Equal
returns-in-Equal c = record {
  among = inl refl;
  first = inl refl;
  second = inl ((bytes_decides (name_bytes c.args.x) (name_bytes c.args.y)).0 (texts_ties (name_bytes c.args.x) (name_bytes c.args.y) ∙ ap is_eq (sym c.cmp.ensures ∙ c.in-Equal.is)));
}

pub returns-in-Greater-clause-first : goal.returns-in-Greater-clause-first
returns-in-Greater-clause-first c = inr (nat_list_cmp_total.antisymm (name_bytes c.args.y) (name_bytes c.args.x) ∙ ap ordering_reverse (sym c.cmp.ensures ∙ c.in-Greater.is))
