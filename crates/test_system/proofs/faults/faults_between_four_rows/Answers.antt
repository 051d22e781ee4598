use Rattle.std.proofs.Common.{◌≡◌, ◌∙◌, ℕ, zero, suc, ◌<◌, eqb, List, [], ◌∷◌, get_or, map, refl, ap, sym, subst, arith, eq-eqb}
use Rattle.std.specs.List.{IsDistinct}
use Rattle.std.proofs.lemmas.Bool.{true≢false}
use Rattle.std.proofs.lemmas.Map.Keys.{apart_from_distinct}
use Rattle.nv_super.specs.Layout.{Layout, inode_limit}
use Rattle.nv_super.specs.declared.superblock.Super.{Super}
use Rattle.nv_inode.specs.Numbers.{number_end}
use Rattle.nv_scan.specs.declared.piece.Row.{Row}
use Rattle.nv_numbered.specs.Values.{AreNumbersBelow}
use Rattle.test_system.proofs.faults.faults_between_four_rows.Goals as goal

abbrev small : Super
small = record { version = 1; cpus = 1; blocks = 16; table_blocks = 1; state = 0 }

abbrev numbers : List ℕ
numbers = 3 ∷ 1 ∷ 4 ∷ 2 ∷ []

distinct : IsDistinct eqb numbers
unfolding IsDistinct
distinct = ((refl, (refl, (refl, tt))), ((refl, (refl, tt)), ((refl, tt), (tt, tt))))

below : (k : ℕ) → k < 4 → get_or numbers k 0 < inode_limit small
below zero lt = omega arith
below (suc zero) lt = omega arith
below (suc (suc zero)) lt = omega arith
below (suc (suc (suc zero))) lt = omega arith
below (suc (suc (suc (suc k)))) lt = absurd (omega (arith, lt))

numbers_apart : AreNumbersBelow (inode_limit small) numbers
numbers_apart = record {
  below = below;
  once = λ j k order inside same. true≢false (sym (eq-eqb _ _ same) ∙ apart_from_distinct eqb numbers j k 0 distinct order inside);
}

module _ (a b c d : Row) (p : a.inode ≡ 3) (q : b.inode ≡ 1) (r : c.inode ≡ 4) (s : d.inode ≡ 2) where
  apart : AreNumbersBelow (inode_limit small) (map (λ (x : Row). x.inode) (a ∷ b ∷ c ∷ d ∷ []))
  apart = subst (AreNumbersBelow (inode_limit small)) (sym (λ i. p i ∷ q i ∷ r i ∷ s i ∷ [])) numbers_apart

pub cross_faults-requires : goal.cross_faults-requires
cross_faults-requires g c =
    subst (λ (l : Layout). AreNumbersBelow (number_end l) (map (λ (x : Row). x.inode) c.in_ok-rows.rows.items)) (sym c.in_ok-tables.ensures)
    (rw (c.in_ok-rows.ensures, c.in_ok-push-4.ensures.ok, c.in_ok-push-3.ensures.ok, c.in_ok-push-2.ensures.ok, c.in_ok-push.ensures.ok, c.new-rows.ensures)
    (apart c.row.result c.row-2.result c.row-3.result c.row-4.result c.row.ensures c.row-2.ensures c.row-3.ensures c.row-4.ensures))
