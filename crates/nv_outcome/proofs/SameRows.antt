-- Rows that are the same, one by one: each has its like, and they rise together.
use Rattle.std.proofs.Common.{◌≡◌, ℕ, zero, suc, List, [], ◌∷◌, subst, arith}
use Rattle.std.specs.Ordering.{nat_cmp}
use Rattle.std.specs.declared.cmp.Ordering.TheVariants.{Less}
use Rattle.std.specs.Cmp.Lexicographic.{slice_cmp}
use Rattle.std.specs.List.{Contains}
use Rattle.nv_super.specs.Order.{Rises}
use Rattle.nv_super.proofs.Rising.{Contains-head, Contains-tail}
use Rattle.nv_scan.specs.declared.piece.Row.{Row}
use Rattle.nv_outcome.specs.Same.{SameRow, SameRows}

-- a row of the second list, and the one that it is the same as
pub from_second : (xs ys : List Row) → SameRows xs ys → (y : Row) → Contains ys y → (x : Row) × Contains xs x × SameRow x y
from_second [] [] same y c = absurd (omega (arith, c.1))
from_second [] (v ∷ ys) same y c = absurd same
from_second (u ∷ xs) [] same y c = absurd same
from_second (u ∷ xs) (v ∷ ys) same y (zero, below, is) = (u, Contains-head u xs, subst (λ (r : Row). SameRow u r) is same.0)
from_second (u ∷ xs) (v ∷ ys) same y (suc k, below, is) = let w = from_second xs ys same.1 y (k, (omega (arith, below)), is) in (w.0, Contains-tail u xs w.0 w.1, w.2)

-- and the other way
pub from_first : (xs ys : List Row) → SameRows xs ys → (x : Row) → Contains xs x → (y : Row) × Contains ys y × SameRow x y
from_first [] [] same x c = absurd (omega (arith, c.1))
from_first [] (v ∷ ys) same x c = absurd same
from_first (u ∷ xs) [] same x c = absurd same
from_first (u ∷ xs) (v ∷ ys) same x (zero, below, is) = (v, Contains-head v ys, subst (λ (r : Row). SameRow r v) is same.0)
from_first (u ∷ xs) (v ∷ ys) same x (suc k, below, is) = let w = from_first xs ys same.1 x (k, (omega (arith, below)), is) in (w.0, Contains-tail v ys w.0 w.1, w.2)

-- they rise too
pub rises_too : (key : Row → List ℕ) → ((a b : Row) → SameRow a b → key a ≡ key b) → (xs ys : List Row) → SameRows xs ys → Rises key xs → Rises key ys
rises_too key keeps xs [] same h = tt
rises_too key keeps xs (v ∷ []) same h = tt
rises_too key keeps [] (v ∷ w ∷ ys) same h = absurd same
rises_too key keeps (u ∷ []) (v ∷ w ∷ ys) same h = absurd same.1
rises_too key keeps (u ∷ t ∷ xs) (v ∷ w ∷ ys) same h =
    (subst (λ x. slice_cmp nat_cmp x (key w) ≡ Less) (keeps u v same.0) (subst (λ x. slice_cmp nat_cmp (key u) x ≡ Less) (keeps t w same.1.0) h.0), rises_too key keeps (t ∷ xs) (w ∷ ys) same.1 h.1)
