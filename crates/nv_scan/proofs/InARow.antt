-- Write entries that are taken together: what is kept, with the numbers and the row that stand beside it meanwhile.
use Rattle.std.proofs.Common.{◌≡◌, ◌∙◌, ℕ, ◌+◌, ◌-◌, ◌*◌, ◌<◌, ◌≤◌, Bool, true, false, not, cond, nat_le, ◌∷◌, ◌++◌, [], append-nil, ap, refl, sym, subst, Option, Some, None, unwrap_or, arith, inl, inr}
use Rattle.std.specs.List.{cons_option}
use Rattle.std.proofs.lemmas.Bool.{cases_lt}
use Rattle.std.proofs.lemmas.Bool.Decides.{nat_tests}
use Rattle.nv_region.specs.Region.{Region}
use Rattle.nv_super.specs.Layout.{system_blocks}
use Rattle.nv_super.specs.declared.superblock.Super.{Super}
use Rattle.nv_super.specs.declared.kind.Kind.TheVariants.{File}
use Rattle.nv_entry.specs.declared.content.ContentFault.{ContentFault}
use Rattle.nv_entry.specs.declared.content.ContentFault.TheVariants.{OutOfRange}
use Rattle.nv_entry.specs.declared.entry.WriteEntry.{WriteEntry}
use Rattle.nv_entry.specs.declared.entry.Entry.TheVariants.{Write}
use Rattle.nv_entry.specs.Content.{content_fault, is_good, is_write_out_of_range}
use Rattle.nv_logpage.specs.Progress.{Progress}
use Rattle.nv_logpage.specs.Reads.{placed}
use Rattle.nv_names.specs.Names.{name_at}
use Rattle.nv_radix.specs.Pages.{in_run}
use Rattle.nv_radix.specs.Runs.{Runs, block_by}
use Rattle.nv_scan.specs.State.{block_in, says_block, says_name}
use Rattle.nv_scan.specs.Fold.{Counts, Takes, fault_with, word_after}
use Rattle.nv_scan.specs.Reading.{IsReadSoFar}
use Rattle.nv_scan.specs.declared.fold.Fold.{Fold}
use Rattle.nv_scan.specs.declared.numbers.Numbers.{Numbers}

-- what is kept, with other numbers and other pages
abbrev pub kept_with : Fold → Numbers → Runs → Fold
kept_with f n x = record f { numbers = n; extents = x }

-- the pages behind a row of so many
abbrev pub row_before : WriteEntry → ℕ → Runs → Runs
row_before first count x = (first.offset, record { start = first.block; count = count }) ∷ x

-- ---- a good write entry

module _ (s : Super) (e : WriteEntry) (fine : is_write_out_of_range s e ≡ false) where
  good_write : is_good s File (Write e) ≡ true
  good_write = ap not fine

  no_fault : content_fault s File (Write e) ≡ None
  no_fault = ap (λ (b : Bool). cond b (Some OutOfRange) None) fine

  -- taken, where the pages become what it says
  pub takes_write : (i at : ℕ) (f : Fold) (old new : Numbers) (x y : Runs) → new ≡ record old { size = e.size; time = e.time }
      → ((p : ℕ) → block_by y p ≡ unwrap_or (block_in p (Write e)) (block_by x p)) → Takes s File i (placed at (Write e)) (kept_with f old x) (kept_with f new y)
  takes_write i at f old new x y is pages = record {
    numbers = subst (λ (g : Bool). Counts g (placed at (Write e)) old new) (sym good_write) (record {
      size = ap (λ (n : Numbers). n.size) is;
      mode = ap (λ (n : Numbers). n.mode) is;
      owner = ap (λ (n : Numbers). n.owner) is;
      group = ap (λ (n : Numbers). n.group) is;
      links = ap (λ (n : Numbers). n.links) is;
      time = ap (λ (n : Numbers). n.time) is;
    });
    extents = λ p. subst (λ (g : Bool). block_by y p ≡ word_after g (says_block p (placed at (Write e))) (block_by x p)) (sym good_write) (pages p);
    names = λ q. subst (λ (g : Bool). name_at f.names q ≡ word_after g (says_name q (placed at (Write e))) (name_at f.names q)) (sym good_write) refl;
    found = subst (λ (c : Option ContentFault). f.faults.items ≡ f.faults.items ++ cons_option (fault_with i (name_at f.names) (placed at (Write e)) c) []) (sym no_fault) (sym (append-nil f.faults.items));
  }

  pub few_pages : e.offset + e.count ≤ 262144
  few_pages = grind (arith, nat_tests)

  pub few_blocks : e.block + e.count ≤ s.blocks
  few_blocks = grind (arith, nat_tests)

  pub some_pages : 0 < e.count
  some_pages = grind (arith, nat_tests)

  pub ends_below : (e.offset + e.count - 1) * 4096 < e.size
  ends_below = grind (arith, nat_tests)

-- a write of one page is good by these
pub good_page : (s : Super) (e : WriteEntry) (past : ℕ) → e.count ≡ 1 → nat_le past e.offset ≡ nat_le e.size (e.offset * 4096) → e.size ≤ 1073741824 → e.offset < past → system_blocks s ≤ e.block → e.block < s.blocks
    → is_write_out_of_range s e ≡ false
good_page s e past one begins size below from to =
    let within : e.offset * 4096 < e.size = grind (arith, nat_tests, begins, below) in
    let few : e.offset + 1 ≤ 262144 = omega (arith, within, size) in
    grind (arith, nat_tests, one, within, few, size, from, to)

-- that an entry has no fault
pub fine_write : (b : Bool) → None ≡ cond b (Some OutOfRange) None → b ≡ false
fine_write false h = refl
fine_write true h = absurd (cc)

-- ---- a page

-- a page after the cut and the run
by_tests : (run cut test : Bool) (b : ℕ) (old new : Option ℕ) → test ≡ cut → new ≡ cond run (Some b) (cond test None old) → new ≡ unwrap_or (cond run (Some (Some b)) (cond cut (Some None) None)) old
by_tests true cut test b old new same is = is
by_tests false true test b old new same is = is ∙ ap (λ (t : Bool). cond t None old) same
by_tests false false test b old new same is = is ∙ ap (λ (t : Bool). cond t None old) same

-- what an entry of one page makes of a page
pub page_written : (e : WriteEntry) (end : ℕ) (x y : Runs) → e.count ≡ 1 → ((p : ℕ) → nat_le end p ≡ nat_le e.size (p * 4096))
    → ((p : ℕ) → block_by y p ≡ cond (in_run e.offset 1 p) (Some (e.block + (p - e.offset))) (cond (nat_le end p) None (block_by x p)))
    → (p : ℕ) → block_by y p ≡ unwrap_or (block_in p (Write e)) (block_by x p)
page_written e end x y one past wrote p =
    subst (λ (n : ℕ). block_by y p ≡ unwrap_or (cond (in_run e.offset n p) (Some (Some (e.block + (p - e.offset)))) (cond (nat_le e.size (p * 4096)) (Some None) None)) (block_by x p)) (sym one)
    (by_tests (in_run e.offset 1 p) (nat_le e.size (p * 4096)) (nat_le end p) (e.block + (p - e.offset)) (block_by x p) (block_by y p) (past p) (wrote p))

-- ---- a row

-- a page after the cut and the run of an entry that goes on with a row, where nothing is mapped that it cuts
row_block : (o b count eo eb ce size p : ℕ) (rest : Option ℕ) → o + count ≡ eo → b + count ≡ eb → 0 < ce → (eo + ce - 1) * 4096 < size → (size ≤ p * 4096 → rest ≡ None)
    → cond (in_run o (count + ce) p) (Some (b + (p - o))) rest
    ≡ unwrap_or (cond (in_run eo ce p) (Some (Some (eb + (p - eo)))) (cond (nat_le size (p * 4096)) (Some None) None)) (cond (in_run o count p) (Some (b + (p - o))) rest)
row_block o b count eo eb ce size p rest at bt some below none = elim (cases_lt (p * 4096) size) [
  | inl within ↦ grind (arith, nat_tests, at, bt, some, below, within)
  | inr past ↦ (
      let no : rest ≡ None = none (omega (arith, past)) in
      grind (arith, nat_tests, at, bt, some, below, past, no))
]

-- one entry more of a row
pub row_more : (s : Super) (first e : WriteEntry) (count : ℕ) (x : Runs) → is_write_out_of_range s e ≡ false → first.offset + count ≡ e.offset → first.block + count ≡ e.block → first.size ≤ e.size
    → ((p : ℕ) → first.size ≤ p * 4096 → block_by x p ≡ None)
    → (p : ℕ) → block_by (row_before first (count + e.count) x) p ≡ unwrap_or (block_in p (Write e)) (block_by (row_before first count x) p)
row_more s first e count x fine at bt more none p =
    row_block first.offset first.block count e.offset e.block e.count e.size p (block_by x p) at bt (some_pages s e fine) (ends_below s e fine) (λ past. none p (omega (arith, past, more)))

-- a row of no pages maps none
pub no_row : (first : WriteEntry) (x : Runs) (p : ℕ) → block_by (row_before first 0 x) p ≡ block_by x p
no_row first x p = grind (arith, nat_tests)

-- ---- what was read goes by what pages map to

pub read_same : (R : Region) (head i created : ℕ) (r : Progress) (f : Fold) (n : Numbers) (x y : Runs) → ((p : ℕ) → block_by y p ≡ block_by x p)
    → IsReadSoFar R head File i created r (kept_with f n x) → IsReadSoFar R head File i created r (kept_with f n y)
read_same R head i created r f n x y same so_far = record {
  entries = so_far.entries;
  leads = so_far.leads;
  holds = record {
    numbers = so_far.holds.numbers;
    extents = λ p. same p ∙ so_far.holds.extents p;
    names = so_far.holds.names;
    found = so_far.holds.found;
    once = so_far.holds.once;
  };
}
