-- For callers of `from_rows`: rows that rise already.
use Rattle.std.proofs.Common.{◌≡◌, ℕ, zero, suc, ◌<◌, List, ◌∷◌, [], length, get_or, arith, Contains}
use Rattle.std.specs.List.Sorted.{IsPermutation}
use Rattle.std.proofs.lemmas.List.Sorted.{IsPermutation-map}
use Rattle.nv_super.specs.Order.{Rises, SortedOf}
use Rattle.nv_super.proofs.Rising.{Contains-head, Contains-tail, head_least, tail_rises, Lists-only}
use Rattle.nv_scan.specs.declared.piece.Row.{Row}
use Rattle.nv_scan.proofs.RowKeys.{key_less}
use Rattle.nv_numbered.specs.Values.{AreNumbersBelow}
use Rattle.nv_numbered.proofs.Permuted.{numbers_permute}
use Rattle.nv_rows.specs.Rows.{row_key, inodes_of}

-- what holds of each row's number
holds_at : (P : ℕ → Type 0) (rows : List Row) → ((row : Row) → Contains rows row → P row.inode) → (k : ℕ) → k < length (inodes_of rows) → P (get_or (inodes_of rows) k 0)
holds_at P [] each k inside = absurd (omega (arith, inside))
holds_at P (x ∷ rows) each zero inside = each x (Contains-head x rows)
holds_at P (x ∷ rows) each (suc k) inside = holds_at P rows (λ row listed. each row (Contains-tail x rows row listed)) k (omega (arith, inside))

-- a later row has a greater number
less_at : (rows : List Row) → Rises row_key rows → (j k : ℕ) → j < k → k < length (inodes_of rows) → get_or (inodes_of rows) j 0 < get_or (inodes_of rows) k 0
less_at [] up j k order inside = absurd (omega (arith, inside))
less_at (x ∷ rows) up j zero order inside = absurd (omega (arith, order))
less_at (x ∷ rows) up zero (suc k) order inside =
    holds_at (λ n. x.inode < n) rows (λ row listed. key_less x.inode row.inode (head_least row_key x rows up row listed)) k (omega (arith, inside))
less_at (x ∷ rows) up (suc j) (suc k) order inside = less_at rows (tail_rises row_key x rows up) j k (omega (arith, order)) (omega (arith, inside))

-- they may be given
pub rising_given : (limit : ℕ) (rows : List Row) → Rises row_key rows → ((row : Row) → Contains rows row → row.inode < limit) → AreNumbersBelow limit (inodes_of rows)
rising_given limit rows up each =
    record {
      below = holds_at (λ n. n < limit) rows each;
      once = λ j k order inside same. let less = less_at rows up j k order inside in absurd (omega (arith, less, same));
    }

-- in another order too
pub moved_given : (limit : ℕ) (rows given : List Row) → Rises row_key rows → ((row : Row) → Contains rows row → row.inode < limit) → IsPermutation rows given → AreNumbersBelow limit (inodes_of given)
moved_given limit rows given up each moved =
    numbers_permute limit (inodes_of rows) (inodes_of given) (IsPermutation-map (λ (row : Row). row.inode) rows given moved) (rising_given limit rows up each)

-- and stay the list that they were
pub rising_stay : (rows given : List Row) → Rises row_key given → SortedOf row_key given rows → rows ≡ given
rising_stay rows given up sorted =
    Lists-only row_key (Contains given) rows given
    (record { rising = sorted.rising; each = sorted.from; all = sorted.kept })
    (record { rising = up; each = λ row listed. listed; all = λ row listed. listed })
