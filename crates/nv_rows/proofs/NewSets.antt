-- The sets of tables of which no number is in use.
use Rattle.std.proofs.Common.{◌≡◌, ℕ, ◌+◌, ◌/◌, ◌%◌, ◌<◌, List, [], length, get_or, replicate, map, sym, ap, ◌∙◌, inl, inr, arith}
use Rattle.std.specs.Prelude.{Some}
use Rattle.std.specs.List.{range_with_len}
use Rattle.std.proofs.lemmas.Bool.{cases_lt}
use Rattle.std.proofs.lemmas.List.{get_or_past, length-replicate}
use Rattle.std.proofs.lemmas.List.FromFn.{length-map-range_with_len}
use Rattle.std.proofs.lemmas.Option.{get_or_from_slice_get}
use Rattle.nv_blockset.specs.BlockSet.{has, words_for}
use Rattle.nv_blockset.proofs.Sets.{has_none}
use Rattle.nv_super.specs.Layout.{Layout}
use Rattle.nv_inode.specs.Chains.{IsLaid}
use Rattle.nv_inode.specs.Numbers.{sizes_of, table_size}
use Rattle.nv_inode.proofs.NumberEnds.{size_small}
use Rattle.nv_inode.proofs.TicketBlocks.{range_at}
use Rattle.nv_rows.specs.InUse.{has_number, set_of, HaveRoom}

-- what stands at a place of a list that is made of places
pub made_at : {A : Type 0} (f : ℕ → A) (n k : ℕ) (d : A) → k < n → get_or (map f (range_with_len 0 n)) k d ≡ f k
made_at {A} f n k d below = get_or_from_slice_get (map f (range_with_len 0 n)) k (f k) d (range_at f 0 n k below ∙ (let same : 0 + k ≡ k = omega arith in ap (λ (j : ℕ). Some (f j)) same))

-- the set of a table without numbers in use
abbrev pub bare_set : Layout → ℕ → List ℕ
bare_set l cpu = replicate (words_for (table_size l cpu)) 0

-- those of the first CPUs
abbrev pub bare_sets : Layout → ℕ → List (List ℕ)
bare_sets l n = map (bare_set l) (range_with_len 0 n)

none_there : (l : Layout) (n cpu place : ℕ) → has (set_of (bare_sets l n) cpu) place ≡ 0
none_there l n cpu place = elim (cases_lt cpu n) [
  | inl below ↦ ap (λ (w : List ℕ). has w place) (made_at (bare_set l) n cpu [] below) ∙ has_none (words_for (table_size l cpu)) place
  | inr past ↦ ap (λ (w : List ℕ). has w place) (get_or_past (bare_sets l n) cpu [] (let long = length-map-range_with_len (bare_set l) 0 n in omega (arith, long, past))) ∙ has_none 0 place
]

pub none_used : (l : Layout) (n i : ℕ) → has_number (bare_sets l n) i ≡ 0
none_used l n i = none_there l n (i % length (bare_sets l n)) (i / length (bare_sets l n))

-- the size of a CPU's table
pub size_of : (l : Layout) (cpu : ℕ) → cpu < l.sup.cpus → get_or (sizes_of l) cpu 0 ≡ table_size l cpu
size_of l cpu below = made_at (table_size l) l.sup.cpus cpu 0 below

-- each table has numbers
size_some : (l : Layout) (cpu : ℕ) → IsLaid l → 0 < table_size l cpu
size_some l cpu laid = let tables = laid.layout.tables_from in omega (arith, tables)

pub bare_room : (l : Layout) → IsLaid l → HaveRoom (sizes_of l) (bare_sets l l.sup.cpus)
bare_room l laid = record {
  as_many = length-map-range_with_len (bare_set l) 0 l.sup.cpus ∙ sym long;
  cpus = (let from = laid.layout.cpus_from in let e = long in omega (arith, from, e));
  some = λ cpu below. (let is = size_of l cpu (inside cpu below) in let most = size_some l cpu laid in omega (arith, is, most));
  small = λ cpu below. (let is = size_of l cpu (inside cpu below) in let most = size_small l cpu laid in omega (arith, is, most));
  room = λ cpu below. (
      let is = size_of l cpu (inside cpu below) in
      let bare = ap (λ (w : List ℕ). length w) (made_at (bare_set l) l.sup.cpus cpu [] (inside cpu below)) in
      let many = length-replicate {A = ℕ} (words_for (table_size l cpu)) 0 in
      omega (arith, is, bare, many));
} where
  long : length (sizes_of l) ≡ l.sup.cpus
  long = length-map-range_with_len (table_size l) 0 l.sup.cpus

  inside : (cpu : ℕ) → cpu < length (sizes_of l) → cpu < l.sup.cpus
  inside cpu below = let e = long in omega (arith, e, below)
