use Rattle.std.proofs.Common.{◌++◌, ◌∙◌, ℕ, List, ap, refl}
use Rattle.nv_scan.proofs.Scanning.{filled}
use Rattle.nv_scan.proofs.scan.fill_row.Goals as goal

pub returns : goal.returns
returns c = filled _ _ _ _ _ _ c.set.result (refl, refl, refl, refl, refl, refl) (c.in_ok-extend_pages.ensures ∙ ap (λ (before : List ℕ). before ++ c.args.pages.now) c.requires.no_pages) c.set.ensures.index c.set.ensures.claims
