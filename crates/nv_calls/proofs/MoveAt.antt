-- The choice between one directory and two.
use Rattle.std.proofs.Common.{◌≡◌, ◌≢◌, ℕ, ◌+◌, ◌%◌, cond, nat_eq, Bool, true, false, List, set, slice_get, ap, sym, ◌∙◌, subst, arith, inl, Some}
use Rattle.std.proofs.lemmas.Bool.Decides.{nat_tests}
use Rattle.nv_region.specs.Region.{Region}
use Rattle.nv_alloc.specs.FreeValue.{FreeLists}
use Rattle.nv_entry.specs.declared.entry.Operation.TheVariants.{Add, Remove}
use Rattle.nv_logpage.specs.Append.{needed}
use Rattle.nv_scan.specs.declared.piece.Row.{Row}
use Rattle.nv_calls.specs.MoveCalls.{MovesAt, move_blocks, MovesAcross}
use Rattle.nv_steps.specs.Moves.{MovesWithin, move_entries}
use Rattle.nv_steps.specs.NameEntries.{name_entries}
use Rattle.nv_steps.specs.MoreNames.{GetsName, GrowsTwo}
use Rattle.nv_steps.specs.Unlinks.{LosesName}
use Rattle.nv_super.specs.Layout.{Layout}

pub across_count : (place end : ℕ) (from to : Row) (i : ℕ) (name other : List ℕ) (time : ℕ) → place ≢ end → move_blocks place end from to i name other time ≡ needed (from.tail % 4096) (name_entries Remove i name time) + needed (to.tail % 4096) (name_entries Add i other time)
across_count place end from to i name other time differ =
    let off : nat_eq place end ≡ false = grind (arith, nat_tests) in
    ap (λ (b : Bool). cond b (needed (from.tail % 4096) (move_entries i name other time)) (needed (from.tail % 4096) (name_entries Remove i name time) + needed (to.tail % 4096) (name_entries Add i other time))) off

pub within_count : (place end : ℕ) (from to : Row) (i : ℕ) (name other : List ℕ) (time : ℕ) → place ≡ end → move_blocks place end from to i name other time ≡ needed (from.tail % 4096) (move_entries i name other time)
within_count place end from to i name other time same =
    let on : nat_eq place end ≡ true = grind (arith, nat_tests) in
    ap (λ (b : Bool). cond b (needed (from.tail % 4096) (move_entries i name other time)) (needed (from.tail % 4096) (name_entries Remove i name time) + needed (to.tail % 4096) (name_entries Add i other time))) on

-- how many blocks the entries take, by another's words for the same
pub here_count : {a from : Row} {i j : ℕ} {n name o other : List ℕ} {t time : ℕ} → a ≡ from → i ≡ j → n ≡ name → o ≡ other → t ≡ time → needed (a.tail % 4096) (move_entries i n o t) ≡ needed (from.tail % 4096) (move_entries j name other time)
here_count from_is number name_is other_is time_is = λ k. needed ((from_is k).tail % 4096) (move_entries (number k) (name_is k) (other_is k) (time_is k))

-- In one directory.
pub moves_here : {R S : Region} {l : Layout} {free after : FreeLists} {cpu : ℕ} (rows : List Row) {place end target i : ℕ} {n name o other : List ℕ} {t time : ℕ} (row now moved : Row) → place ≡ end → slice_get rows end ≡ Some row → slice_get rows target ≡ Some moved → i ≡ moved.inode → n ≡ name → o ≡ other → t ≡ time
    → MovesWithin R S l free after cpu row now i n o t → MovesAt R S l free after cpu rows (set rows end now) place target end name other time
moves_here {R} {S} {l} {free} {after} {cpu} rows {i = i} {n = n} {name = name} {o = o} {other = other} {t = t} {time = time} row now moved same at moved_at number name_is other_is time_is step =
    let words : (i, n, o, t) ≡ (moved.inode, name, other, time) = λ k. (number k, name_is k, other_is k, time_is k) in
    inl (
      same,
      record {
        row = row;
        now = now;
        moved = moved;
        at = ap (slice_get rows) same ∙ at;
        moved_at = moved_at;
        step = subst (λ (w : ℕ × List ℕ × List ℕ × ℕ). MovesWithin R S l free after cpu row now w.0 w.1 w.2 w.3) words step;
        put = ap (λ (k : ℕ). set rows k now) (sym same);
      },
    )

-- how many blocks they take
pub both_count : {a from b to : Row} {i j : ℕ} {n name o other : List ℕ} {t time : ℕ} → a ≡ from → b ≡ to → i ≡ j → n ≡ name → o ≡ other → t ≡ time
    → needed (a.tail % 4096) (name_entries Remove i n t) + needed (b.tail % 4096) (name_entries Add i o t) ≡ needed (from.tail % 4096) (name_entries Remove j name time) + needed (to.tail % 4096) (name_entries Add j other time)
both_count from_is to_is number name_is other_is time_is = λ k. needed ((from_is k).tail % 4096) (name_entries Remove (number k) (name_is k) (time_is k)) + needed ((to_is k).tail % 4096) (name_entries Add (number k) (other_is k) (time_is k))

-- the move, by the row of the inode
pub moves_across : {R S : Region} {l : Layout} {free after : FreeLists} {cpu : ℕ} {rows news : List Row} {place target end : ℕ} {from to : Row} {i : ℕ} {n name o other : List ℕ} {t time : ℕ} (moved : Row) → slice_get rows target ≡ Some moved → i ≡ moved.inode → n ≡ name → o ≡ other → t ≡ time
    → GrowsTwo R S l free after cpu rows news place from (name_entries Remove i n t) end to (name_entries Add i o t) (λ fresh now. LosesName from n i t fresh now) (λ more now. GetsName to o i t more now) → MovesAcross R S l free after cpu rows news place target end name other time
moves_across {R} {S} {l} {free} {after} {cpu} {rows} {news} {place} {target} {end} {from} {to} {i} {n} {name} {o} {other} {t} {time} moved moved_at number name_is other_is time_is step =
    let same : (i, n, o, t) ≡ (moved.inode, name, other, time) = λ k. (number k, name_is k, other_is k, time_is k) in
    record {
      from = from;
      to = to;
      moved = moved;
      moved_at = moved_at;
      step = subst (λ (w : ℕ × List ℕ × List ℕ × ℕ). GrowsTwo R S l free after cpu rows news place from (name_entries Remove w.0 w.1 w.3) end to (name_entries Add w.0 w.2 w.3) (λ fresh now. LosesName from w.1 w.0 w.3 fresh now) (λ more now. GetsName to w.2 w.0 w.3 more now)) same step;
    }
