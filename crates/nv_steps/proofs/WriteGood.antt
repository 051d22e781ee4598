-- The entries of a write behind a log: they are good, clean and quiet, and what they write was free.
use Rattle.std.proofs.Common.{◌≡◌, ℕ, ◌+◌, ◌-◌, ◌*◌, ◌<◌, ◌≤◌, nat_lt, nat_le, Bool, true, false, not, ◌||◌, ◌==◌, List, [], ◌∷◌, ◌++◌, append_assoc, get_or, length, refl, ap, sym, ◌∙◌, subst, arith, Some, None, inl, inr}
use Rattle.std.specs.List.{All, Contains, cons_option}
use Rattle.std.proofs.lemmas.List.{append-nil}
use Rattle.std.proofs.lemmas.List.Elements.{Contains-get_or}
use Rattle.std.proofs.lemmas.Bool.Decides.{nat_tests}
use Rattle.nv_super.specs.declared.owners.Run.{Run}
use Rattle.nv_super.specs.declared.superblock.Super.{Super}
use Rattle.nv_super.specs.declared.kind.Kind.{Kind}
use Rattle.nv_super.specs.declared.kind.Kind.TheVariants.{File}
use Rattle.nv_super.specs.Layout.{Layout, system_blocks}
use Rattle.nv_super.proofs.Members.{none_in}
use Rattle.nv_super.proofs.Rising.{Contains-cons, Contains-head, Contains-tail}
use Rattle.nv_alloc.specs.Taking.{Disjoint, HasBlock}
use Rattle.nv_entry.specs.declared.entry.WriteEntry.{WriteEntry}
use Rattle.nv_entry.specs.declared.entry.Entry.{Entry}
use Rattle.nv_entry.specs.declared.entry.Entry.TheVariants.{Write}
use Rattle.nv_entry.specs.Content.{content_fault, is_good, is_write_out_of_range}
use Rattle.nv_entry.specs.Spelling.{entry_length}
use Rattle.nv_logpage.specs.declared.found.Placed.{Placed}
use Rattle.nv_logpage.specs.Append.{appended, pages_after, place_of}
use Rattle.nv_logpage.specs.Reads.{placed}
use Rattle.nv_scan.specs.State.{says_size, says_time}
use Rattle.nv_scan.proofs.Blocks.{in_range}
use Rattle.nv_graph.specs.Step.{IsQuiet}
use Rattle.nv_mounted.specs.Held.{Held, Store}
use Rattle.nv_mounted.specs.Blocks.{IsUnowned}
use Rattle.nv_mounted.specs.Grows.{NoEntryFault}
use Rattle.nv_mounted.specs.Writes.{WritesData, blocks_in_entry, pages_in_entry, written_blocks, written_pages}
use Rattle.nv_mounted.proofs.Faultless.{clean_more}
use Rattle.nv_steps.specs.Written.{entry_blocks, entry_pages}
use Rattle.nv_steps.specs.declared.planning.Plan.{Plan}
use Rattle.nv_steps.proofs.DataEntries.{Describes}

-- ---- entries at their places

-- each stands somewhere
pub placed_entry : (fresh : List ℕ) (k p : ℕ) (entries : List Entry) (x : Placed) → Contains (appended fresh k p entries) x → Contains entries x.entry
placed_entry fresh k p [] x c = absurd (none_in x c)
placed_entry fresh k p (e ∷ entries) x c = elim (Contains-cons (placed (place_of fresh k p e) e) (appended fresh (pages_after k p e) (place_of fresh k p e + entry_length e) entries) x c) [
  | inl same ↦ subst (λ (y : Entry). Contains (e ∷ entries) y) (sym (ap (λ (y : Placed). y.entry) same)) (Contains-head e entries)
  | inr rest ↦ Contains-tail e entries x.entry (placed_entry fresh (pages_after k p e) (place_of fresh k p e + entry_length e) entries x rest)
]

pub entry_placed : (fresh : List ℕ) (k p : ℕ) (entries : List Entry) (e : Entry) → Contains entries e → (x : Placed) × Contains (appended fresh k p entries) x × (x.entry ≡ e)
entry_placed fresh k p [] e c = absurd (none_in e c)
entry_placed fresh k p (a ∷ entries) e c = elim (Contains-cons a entries e c) [
  | inl same ↦ (placed (place_of fresh k p a) a, Contains-head (placed (place_of fresh k p a) a) (appended fresh (pages_after k p a) (place_of fresh k p a + entry_length a) entries), sym same)
  | inr rest ↦
      let w = entry_placed fresh (pages_after k p a) (place_of fresh k p a + entry_length a) entries e rest in
      (w.0, Contains-tail (placed (place_of fresh k p a) a) (appended fresh (pages_after k p a) (place_of fresh k p a + entry_length a) entries) w.0 w.1, w.2)
]

pub placed_blocks : (fresh : List ℕ) (k p : ℕ) (entries : List Entry) → written_blocks (appended fresh k p entries) ≡ entry_blocks entries
placed_blocks fresh k p [] = refl
placed_blocks fresh k p (e ∷ entries) = ap (cons_option (blocks_in_entry e)) (placed_blocks fresh (pages_after k p e) (place_of fresh k p e + entry_length e) entries)

pub placed_pages : (fresh : List ℕ) (k p : ℕ) (entries : List Entry) → written_pages (appended fresh k p entries) ≡ entry_pages entries
placed_pages fresh k p [] = refl
placed_pages fresh k p (e ∷ entries) = ap (cons_option (pages_in_entry e)) (placed_pages fresh (pages_after k p e) (place_of fresh k p e + entry_length e) entries)

pub placed_count : (fresh : List ℕ) (k p : ℕ) (entries : List Entry) → length (appended fresh k p entries) ≡ length entries
placed_count fresh k p [] = refl
placed_count fresh k p (e ∷ entries) = (let rest = placed_count fresh (pages_after k p e) (place_of fresh k p e + entry_length e) entries in omega (arith, rest))

-- ---- one entry

not_less : (a b : ℕ) → b ≤ a → nat_lt a b ≡ false
not_less a b above = grind (arith, nat_tests)

not_up_to : (a b : ℕ) → b < a → nat_le a b ≡ false
not_up_to a b above = grind (arith, nat_tests)

not_none : (n : ℕ) → 0 < n → (n == 0) ≡ false
not_none n some = grind (arith, nat_tests)

none_of : (a b c d e f : Bool) → a ≡ false → b ≡ false → c ≡ false → d ≡ false → e ≡ false → f ≡ false → (a || b || c || d || e || f) ≡ false
none_of a b c d e f none_a none_b none_c none_d none_e none_f = rw (none_a, none_b, none_c, none_d, none_e, none_f) refl

-- a write entry whose pages and blocks are right
write_good : (s : Super) (w : WriteEntry) → 0 < w.count → w.offset + w.count ≤ 262144 → system_blocks s ≤ w.block → w.block + w.count ≤ s.blocks → w.size ≤ 1073741824 → (w.offset + w.count - 1) * 4096 < w.size → is_good s File (Write w) ≡ true
write_good s w some pages from to small last =
    ap not (none_of _ _ _ _ _ _ (not_none w.count some) (not_less 262144 (w.offset + w.count) pages) (not_less w.block (system_blocks s) from) (not_less s.blocks (w.block + w.count) to) (not_less 1073741824 w.size small) (not_up_to w.size ((w.offset + w.count - 1) * 4096) last))

good_content : (s : Super) (w : WriteEntry) → is_good s File (Write w) ≡ true → content_fault s File (Write w) ≡ None
good_content s w good = (let right : is_write_out_of_range s w ≡ false = in_range s File (Write w) good in rw right refl)

quiet_write : (x : Placed) (w : WriteEntry) → x.entry ≡ Write w → IsQuiet x
quiet_write x w is = subst (λ (y : Placed). IsQuiet y) (let back : placed x.at (Write w) ≡ x = (λ k. record { at = x.at; entry = sym is k }) in back) (record { links = refl; name = λ q. refl })

-- a write entry brings no fault
write_clean : (s : Super) (i : ℕ) (es : List Placed) (x : Placed) (w : WriteEntry) → x.entry ≡ Write w → is_good s File (Write w) ≡ true → NoEntryFault s File i es → NoEntryFault s File i (es ++ x ∷ [])
write_clean s i es x w is good clean = subst (λ (y : Placed). NoEntryFault s File i (es ++ y ∷ [])) (let back : placed x.at (Write w) ≡ x = (λ k. record { at = x.at; entry = sym is k }) in back)
    (clean_more s File i es (placed x.at (Write w)) clean (let none = good_content s w good in rw none refl))

-- ---- all of them

-- good write entries
abbrev pub AreGoodWrites : Super → List Placed → Type 0
AreGoodWrites s more = (x : Placed) → Contains more x → (w : WriteEntry) × (x.entry ≡ Write w) × (is_good s File (Write w) ≡ true)

pub all_clean : (s : Super) (i : ℕ) (es more : List Placed) → AreGoodWrites s more → NoEntryFault s File i es → NoEntryFault s File i (es ++ more)
all_clean s i es [] writes clean = subst (λ (xs : List Placed). NoEntryFault s File i xs) (sym (append-nil es)) clean
all_clean s i es (x ∷ more) writes clean =
    let w = writes x (Contains-head x more) in
    subst (λ (xs : List Placed). NoEntryFault s File i xs) (append_assoc es (x ∷ []) more)
    (all_clean s i (es ++ x ∷ []) more (λ y c. writes y (Contains-tail x more y c)) (write_clean s i es x w.0 w.1 w.2 clean))

pub all_quiet : (s : Super) (more : List Placed) → AreGoodWrites s more → All IsQuiet more
all_quiet s more writes k d below = (let x = get_or more k d in let w = writes x (Contains-get_or more k d below) in quiet_write x w.0 w.1)

module _ (l : Layout) (held : Store) (h : Held) (file : h.kind ≡ File) (plan : Plan) (runs : List Run) (entries : List Entry) (d : Describes plan runs entries) (fresh others : List ℕ)
    (free : (b : ℕ) → HasBlock runs b → IsUnowned l held b) (apart : (b : ℕ) → HasBlock runs b → Contains others b → ⊥)
    (small : plan.size ≤ 1073741824) (top : plan.first + plan.pages ≤ 262144) (last : (plan.first + plan.pages - 1) * 4096 < plan.size) where
  entry_good : (e : Entry) → Contains entries e → (w : WriteEntry) × (e ≡ Write w) × (is_good l.sup File (Write w) ≡ true) × (w.size ≡ plan.size) × (w.time ≡ plan.time)
  entry_good e c =
      let v = d.each e c in
      let w = v.0 in
      let first = free w.block (v.6 w.block (omega arith) (omega (arith, v.2))) in
      let end = free (w.block + w.count - 1) (v.6 (w.block + w.count - 1) (omega (arith, v.2)) (omega (arith, v.2))) in
      let from = first.from in
      let below = end.below in
      let size = v.4 in
      let pages = v.3 in
      (w, v.1, write_good l.sup w v.2 (omega (arith, pages, top)) from (omega (arith, below, v.2)) (omega (arith, size, small)) (omega (arith, pages, last, size, v.2)), size, v.5)

  abbrev more : ℕ → List Placed
  more tail = appended fresh 0 tail entries

  pub good_writes : (tail : ℕ) → AreGoodWrites l.sup (more tail)
  good_writes tail x c = let v = entry_good x.entry (placed_entry fresh 0 tail entries x c) in (v.0, v.1, v.2)

  pub sized : (tail : ℕ) (x : Placed) → Contains (more tail) x → says_size x ≡ Some plan.size
  sized tail x c =
      let v = entry_good x.entry (placed_entry fresh 0 tail entries x c) in
      ap (λ (e : Entry). says_size (placed x.at e)) v.1 ∙ ap (λ (n : ℕ). Some n) v.3

  pub timed : (tail : ℕ) (x : Placed) → Contains (more tail) x → says_time x ≡ Some plan.time
  timed tail x c =
      let v = entry_good x.entry (placed_entry fresh 0 tail entries x c) in
      ap (λ (e : Entry). says_time (placed x.at e)) v.1 ∙ ap (λ (n : ℕ). Some n) v.4

  -- They write data over free blocks.
  pub writes_data : (tail : ℕ) → WritesData l held h (more tail) others plan.size
  writes_data tail = record {
    good = λ x c. (let v = entry_good x.entry (placed_entry fresh 0 tail entries x c) in
        subst (λ (k : Kind). is_good l.sup k x.entry ≡ true) (sym file) (ap (is_good l.sup File) v.1 ∙ v.2));
    sized = sized tail;
    free = λ b w. free b ((d.blocks b).0 (subst (λ (xs : List Run). HasBlock xs b) (placed_blocks fresh 0 tail entries) w));
    apart = λ b w c. apart b ((d.blocks b).0 (subst (λ (xs : List Run). HasBlock xs b) (placed_blocks fresh 0 tail entries) w)) c;
    blocks_once = subst Disjoint (sym (placed_blocks fresh 0 tail entries)) d.blocks_once;
    pages_once = subst Disjoint (sym (placed_pages fresh 0 tail entries)) d.pages_once;
  }
