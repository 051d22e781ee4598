-- Two rows that were lent, changed and given back, as the rows at their two places.
use Rattle.std.proofs.Common.{◌≡◌, ◌≢◌, ℕ, List, [], ◌∷◌, set, slice_get, ap, subst, sym, ◌∙◌, Some}
use Rattle.std.proofs.lemmas.Option.{same_Some}
use Rattle.nv_region.specs.Region.{Region}
use Rattle.nv_alloc.specs.FreeValue.{FreeLists}
use Rattle.nv_entry.specs.declared.entry.Entry.{Entry}
use Rattle.nv_scan.specs.declared.piece.Row.{Row}
use Rattle.nv_rows.specs.Rows.{row_of, place_in, IsInUse, IsLent}
use Rattle.nv_super.specs.Order.{Rises}
use Rattle.nv_super.specs.Layout.{Layout}
use Rattle.nv_cross_check.specs.Cross.{row_key}
use Rattle.nv_rows.proofs.Places.{at_place, in_use, others_lent, places_apart, row_in_use, set_rising, used_back, used_lent}
use Rattle.nv_outcome.specs.Same.{SameRow}
use Rattle.nv_steps.specs.MoreNames.{GrowsTwo}
use Rattle.nv_calls.specs.AtPlaces.{LeavesRows}
use Rattle.nv_steps.specs.Steps.{LeavesStep}
use Rattle.nv_steps.proofs.RowsAt.{other_set}
use Rattle.nv_steps.proofs.SetRows.{both_same}

-- ---- while a row is lent

module _ (rows mid : List Row) (i j : ℕ) (apart : i ≢ j) (used : IsInUse rows i) (lent : IsLent rows mid i) where
  -- another inode is in use still
  pub used_still : IsInUse rows j → IsInUse mid j
  used_still other_used =
      let r = row_in_use rows j other_used in
      in_use mid j r.0 (others_lent rows mid i j apart used lent ∙ r.1)

  -- and has the row that it had
  pub row_stays : (row : Row) → row_of mid j ≡ Some row → row_of rows j ≡ Some row
  row_stays row at = sym (others_lent rows mid i j apart used lent) ∙ at

  -- What is so of both rows that were lent is so of the rows of those numbers.
  pub of_lent : (Q : Row → Row → Type 0) (one two row other : Row) → row_of rows i ≡ Some one → row_of mid j ≡ Some two → Q one two → row_of rows i ≡ Some row → row_of rows j ≡ Some other → Q row other
  of_lent Q one two row other one_at two_at known at other_at = subst (λ (r : Row). Q r other) (same_Some _ _ (sym one_at ∙ at)) (subst (Q one) (same_Some _ _ (sym (row_stays two two_at) ∙ other_at)) known)

-- the one that was lent last can be given back
pub last_used : (mid rest : List Row) (j : ℕ) (row : Row) → IsInUse mid j → IsLent mid rest j → row.inode ≡ j → IsInUse rest row.inode
last_used mid rest j row used lent number = subst (IsInUse rest) (sym number) (used_lent mid rest j used lent)

-- and then the one that was lent first
pub first_used : (rows mid rest one : List Row) (i j : ℕ) (row other : Row) → i ≢ j → IsInUse rows i → IsInUse rows j → IsLent rows mid i → IsLent mid rest j → other.inode ≡ j → one ≡ set rest (place_in rest other.inode) other → row.inode ≡ i → IsInUse one row.inode
first_used rows mid rest one i j row other apart used other_used lent other_lent other_number back number =
    let used_j = used_still rows mid i j apart used lent other_used in
    let used_i = used_still mid rest j i (λ e. apart (sym e)) used_j other_lent (used_lent rows mid i used lent) in
    subst (IsInUse one) (sym number) (used_back rest one i j other apart (used_lent mid rest j used_j other_lent) other_number back used_i)

-- ---- both given back

module _ (rows news : List Row) (i j : ℕ) (a b c d : Row) (apart : i ≢ j) (at : row_of rows i ≡ Some a) (other_at : row_of rows j ≡ Some b) (put : news ≡ set (set rows (place_in rows i) c) (place_in rows j) d) where
  -- what was done to the two is done at their places
  pub lifted : {R S : Region} {l : Layout} {free after : FreeLists} {cpu : ℕ} {first second : Row} {entries others : List Entry} {Becomes Other : List ℕ → Row → Type 0} → GrowsTwo R S l free after cpu (a ∷ b ∷ []) (c ∷ d ∷ []) 0 first entries 1 second others Becomes Other
      → GrowsTwo R S l free after cpu rows news (place_in rows i) first entries (place_in rows j) second others Becomes Other
  lifted step =
      let first_is : c ≡ step.first_now = (let e = step.put in cc) in
      let second_is : d ≡ step.second_now = (let e = step.put in cc) in
      record {
        first_now = step.first_now;
        second_now = step.second_now;
        at = at_place rows i ∙ at ∙ step.at;
        other_at = at_place rows j ∙ other_at ∙ step.other_at;
        fresh = step.fresh;
        more = step.more;
        taken = step.taken;
        count = step.count;
        more_count = step.more_count;
        is = step.is;
        other_is = step.other_is;
        once = step.once;
        other_once = step.other_once;
        put = put ∙ ap (λ (r : Row). set (set rows (place_in rows i) r) (place_in rows j) d) first_is ∙ ap (λ (r : Row). set (set rows (place_in rows i) step.first_now) (place_in rows j) r) second_is;
        shows = step.shows;
      }

  -- and what was refused has changed nothing
  pub left_two : {P : Type 0} (memory now : P) (free after : FreeLists) → LeavesStep memory now free after a c → SameRow b d → LeavesRows memory now free after rows news
  left_two memory now free after left other = record {
    memory = left.memory;
    free = left.free;
    rows = rw put (both_same rows (place_in rows i) (place_in rows j) a c b d (at_place rows i ∙ at) (at_place rows j ∙ other_at) (places_apart rows i j (in_use rows i a at) (in_use rows j b other_at) apart) left.row other);
  }

-- they rise where both numbers stay
pub both_rise : (rows : List Row) (i j : ℕ) (a b c d : Row) → slice_get rows i ≡ Some a → slice_get rows j ≡ Some b → i ≢ j → Rises row_key rows → c.inode ≡ a.inode → d.inode ≡ b.inode → Rises row_key (set (set rows i c) j d)
both_rise rows i j a b c d at other_at differ rising number other_number = set_rising (set rows i c) j b d (set_rising rows i a c rising at number) (other_set rows i j c differ ∙ other_at) other_number
