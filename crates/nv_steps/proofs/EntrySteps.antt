-- One step of a walk over runs or entries: blocks given back, pages mapped.
use Rattle.std.proofs.Common.{◌≡◌, ℕ, ◌+◌, ◌-◌, ◌<◌, ◌≤◌, inl, inr, Bool, true, false, cond, List, [], ◌∷◌, ◌++◌, zero, suc, refl, ap, sym, ◌∙◌, subst, arith, Option, Some, None}
use Rattle.std.specs.List.{cons_option}
use Rattle.std.specs.Option.{option_map}
use Rattle.std.proofs.lemmas.Bool.Decides.{nat_tests}
use Rattle.nv_super.specs.declared.owners.Run.{Run}
use Rattle.nv_super.specs.declared.superblock.Super.{Super}
use Rattle.nv_super.specs.Layout.{system_blocks}
use Rattle.nv_super.specs.Runs.{InRun}
use Rattle.nv_super.proofs.Rising.{Contains-cons, Contains-tail}
use Rattle.nv_alloc.specs.FreeValue.{FreeLists}
use Rattle.nv_alloc.specs.FreeLists.{CanJoin, Joins}
use Rattle.nv_alloc.specs.Taking.{Disjoint, HasBlock, block_run}
use Rattle.nv_alloc.proofs.Leaving.{first_block, later_block}
use Rattle.nv_alloc.proofs.Sound.{joins_from}
use Rattle.nv_entry.specs.declared.entry.WriteEntry.{WriteEntry}
use Rattle.nv_entry.specs.declared.entry.Entry.{Entry}
use Rattle.nv_entry.specs.declared.entry.Entry.TheVariants.{Write}
use Rattle.nv_radix.specs.Pages.{Pages, block_at, in_run, is_ready}
use Rattle.nv_mounted.proofs.DataGrows.{in_run_from}
use Rattle.nv_steps.specs.Writes.{CanGive, page_blocks}
use Rattle.nv_steps.specs.Written.{AreSettled, MapsEntries, entry_pages}
use Rattle.nv_steps.proofs.StoredEntries.{no_pages, some_write}

-- ---- blocks given back

pub first_can_join : (a : FreeLists) (r : Run) (runs : List Run) → CanGive a (r ∷ runs) → CanJoin a r
first_can_join a r runs can = record { «data» = λ b w. can.data b (first_block r runs b w); used = λ c b w free. can.used c b (first_block r runs b w) free }

pub rest_can_be_given : (a b : FreeLists) (r : Run) (runs : List Run) → CanGive a (r ∷ runs) → Joins a r b → CanGive b runs
rest_can_be_given a b r runs can joins = record {
  «data» = λ k w. subst (λ (s : Super). (system_blocks s ≤ k) × (k < s.blocks)) (sym joins.sup) (can.data k (later_block r runs k w));
  used = λ c k w free. elim (joins_from a b r joins c k free) [ inl was ↦ can.used c k (later_block r runs k w) was | inr own ↦ can.once.0 k own w ];
  once = can.once.1;
}

-- ---- pages mapped

-- the pages of an entry
abbrev pub pages_of : WriteEntry → Run
pages_of w = record { start = w.offset; count = w.count }

in_it : (first count p : ℕ) → InRun (record { start = first; count = count }) p → in_run first count p ≡ true
in_it first count p w = in_run_from first count p w.0 w.1

out_of_it : (first count p : ℕ) → (InRun (record { start = first; count = count }) p → ⊥) → in_run first count p ≡ false
out_of_it first count p away = by (in_run first count p) refl where
  by : (t : Bool) → in_run first count p ≡ t → in_run first count p ≡ false
  by true on = absurd (away (grind (arith, nat_tests), grind (arith, nat_tests)))
  by false off = off

pub maps_step : (old mid final : Pages) (w : WriteEntry) (rest : List Entry) → Disjoint (entry_pages (Write w ∷ rest)) → ((p : ℕ) → block_at mid p ≡ cond (in_run w.offset w.count p) (Some (w.block + (p - w.offset))) (block_at old p))
    → MapsEntries mid rest final → MapsEntries old (Write w ∷ rest) final
maps_step old mid final w rest once step maps = record {
  here = λ v c k low. elim (Contains-cons (Write w) rest (Write v) c) [
    | inl same ↦ subst (λ (u : WriteEntry). (j : ℕ) → j < u.count → block_at final (u.offset + j) ≡ Some (u.block + j)) (sym (some_write v w same)) own k low
    | inr c ↦ maps.here v c k low
  ];
  others = λ p away. maps.others p (λ h. away (later_block (pages_of w) (entry_pages rest) p h)) ∙ step p ∙ ap (λ (t : Bool). cond t (Some (w.block + (p - w.offset))) (block_at old p)) (out_of_it w.offset w.count p (λ h. away (first_block (pages_of w) (entry_pages rest) p h)));
} where
  own : (j : ℕ) → j < w.count → block_at final (w.offset + j) ≡ Some (w.block + j)
  own j low =
      let inside : InRun (pages_of w) (w.offset + j) = (omega arith, omega (arith, low)) in
      maps.others (w.offset + j) (λ h. once.0 (w.offset + j) inside h) ∙ step (w.offset + j)
      ∙ ap (λ (t : Bool). cond t (Some (w.block + ((w.offset + j) - w.offset))) (block_at old (w.offset + j))) (in_it w.offset w.count (w.offset + j) inside) ∙ ap (λ (n : ℕ). Some (w.block + n)) (let back : (w.offset + j) - w.offset ≡ j = omega arith in back)

pub settled_step : (old mid : Pages) (w : WriteEntry) (rest : List Entry) → AreSettled old (Write w ∷ rest) → ((p : ℕ) → is_ready mid p ≡ is_ready old p) → AreSettled mid rest
settled_step old mid w rest settled same v c = (let s = settled v (Contains-tail (Write w) rest (Write v) c) in ((λ p low high. same p ∙ s.0 p low high), s.1))

-- an entry that isn't a write entry is passed over
pub maps_skip : (old final : Pages) (e : Entry) (rest : List Entry) → ((w : WriteEntry) → e ≡ Write w → ⊥) → MapsEntries old rest final → MapsEntries old (e ∷ rest) final
maps_skip old final e rest other maps = record {
  here = λ w c k low. elim (Contains-cons e rest (Write w) c) [ inl is ↦ absurd (other w (sym is)) | inr c ↦ maps.here w c k low ];
  others = λ p away. maps.others p (λ h. away (subst (λ (o : Option Run). HasBlock (cons_option o (entry_pages rest)) p) (sym (no_pages e other)) h));
}

pub skip_once : (e : Entry) (rest : List Entry) → ((w : WriteEntry) → e ≡ Write w → ⊥) → Disjoint (entry_pages (e ∷ rest)) → Disjoint (entry_pages rest)
skip_once e rest other once = subst (λ (o : Option Run). Disjoint (cons_option o (entry_pages rest))) (no_pages e other) once

-- ---- blocks of pages

-- those of one page more
pub page_more : (m : Pages) (first count : ℕ) → page_blocks m first (suc count) ≡ page_blocks m first count ++ cons_option (option_map block_run (block_at m (first + count))) []
page_more m first zero = ap (λ (p : ℕ). cons_option (option_map block_run (block_at m p)) []) (let same : first ≡ first + 0 = omega arith in same)
page_more m first (suc count) = step (block_at m first) _ _ _ (page_more m (first + 1) count ∙ ap (λ (p : ℕ). page_blocks m (first + 1) count ++ cons_option (option_map block_run (block_at m p)) []) (let same : (first + 1) + count ≡ first + suc count = omega arith in same)) where
  step : (o : Option ℕ) (xs ys zs : List Run) → xs ≡ ys ++ zs → cons_option (option_map block_run o) xs ≡ cons_option (option_map block_run o) ys ++ zs
  step None xs ys zs same = same
  step (Some b) xs ys zs same = ap (λ (rest : List Run). block_run b ∷ rest) same
