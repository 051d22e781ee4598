-- What rolling the journals back leaves of the words that no record may name: in version 1 those of the data blocks among them.
use Rattle.std.proofs.Common.{◌≡◌, ◌≢◌, ◌<◌, ℕ, zero, suc, ◌+◌, ◌*◌, ◌/◌, ◌%◌, ◌≤◌, inl, inr, Bool, true, false, cond, List, [], ◌∷◌, length, refl, ap, sym, ◌∙◌, arith}
use Rattle.std.proofs.lemmas.Bool.{cases_lt, true≢false}
use Rattle.std.proofs.lemmas.Bool.Decides.{nat_tests}
use Rattle.std.proofs.lemmas.List.{get_or_past}
use Rattle.nv_region.specs.Region.{Region, word}
use Rattle.nv_super.specs.declared.superblock.Super.{Super}
use Rattle.nv_super.specs.Layout.{IsLayout, system_blocks}
use Rattle.nv_inode.specs.Chains.{layout_of}
use Rattle.nv_inode.specs.Permitted.{LiesBehind, is_permitted, is_permitted_by}
use Rattle.nv_inode.proofs.ReadChains.{region_laid}
use Rattle.nv_journal.specs.Undo.{all_records, is_sound, journal, journal_records, pending_count, pending_from, permitted, settled_word, undo, undone, undone_word, value_named}
use Rattle.nv_journal.proofs.Fixed.{permits_fixed}
use Rattle.nv_journal.proofs.Partly.{low_rule}
use Rattle.nv_journal.proofs.Undone.{length_undo, not_here, value_append, word_undo}

module _ (permits : ℕ → Bool) where
  not_test : (r : ℕ × ℕ) (records : List (ℕ × ℕ)) (at other : ℕ) (b : Bool) → permits r.0 ≡ b → permits at ≡ false → value_named (permitted permits records) at other ≡ other
      → value_named (cond b (r ∷ permitted permits records) (permitted permits records)) at other ≡ other
  not_test r records at other false named off rest = rest
  not_test r records at other true named off rest = not_here r (permitted permits records) at other (λ same. true≢false (sym named ∙ ap permits same ∙ off)) ∙ rest

  value_not : (records : List (ℕ × ℕ)) (at other : ℕ) → permits at ≡ false → value_named (permitted permits records) at other ≡ other
  value_not [] at other off = refl
  value_not (r ∷ records) at other off = not_test r records at other (permits r.0) refl off (value_not records at other off)

  journal_not : (R : Region) (cpu at other : ℕ) (b : Bool) → is_sound R cpu ≡ b → permits at ≡ false → value_named (cond b (permitted permits (pending_from R cpu 0 (pending_count R cpu))) []) at other ≡ other
  journal_not R cpu at other true sound off = value_not (pending_from R cpu 0 (pending_count R cpu)) at other off
  journal_not R cpu at other false sound off = refl

  pub all_not : (R : Region) (k at other : ℕ) → permits at ≡ false → value_named (all_records permits R k) at other ≡ other
  all_not R zero at other off = refl
  all_not R (suc k) at other off =
      value_append (journal_records permits R k) (all_records permits R k) at other ∙ journal_not R k at (value_named (all_records permits R k) at other) (is_sound R k) refl off ∙ all_not R k at other off

-- a word that is no dequeue word is not settled
settled_off : (R : Region) (k at : ℕ) → ((cpu : ℕ) → cpu < k → journal cpu ≢ at) → settled_word R k at ≡ word R at
settled_off R zero at apart = refl
settled_off R (suc k) at apart = skip (apart k (omega arith)) ∙ settled_off R k at (λ cpu less. apart cpu (omega arith))
  where
    skip : journal k ≢ at → settled_word R (suc k) at ≡ settled_word R k at
    skip differ = grind (arith, nat_tests)

-- a word that no record may name, and that is no dequeue word, stays
pub word_kept : (permits : ℕ → Bool) (cpus : ℕ) → LiesBehind permits ((1 + cpus) * 4096) → (R : Region) (at : ℕ) → at % 8 ≡ 0 → permits at ≡ false → ((cpu : ℕ) → cpu < cpus → journal cpu ≢ at)
    → word (undo permits cpus R) at ≡ word R at
word_kept permits cpus rule R at aligned off apart = elim (cases_lt (at / 8) (length R.words)) [
  | inl within ↦ (
      let whole : 8 * (at / 8) ≡ at = omega (arith, aligned) in
      word_undo permits ((1 + cpus) * 4096) rule cpus R (at / 8) within ∙ ap (undone_word permits cpus R) whole
      ∙ all_not permits R cpus at (settled_word R cpus at) off ∙ settled_off R cpus at apart)
  | inr past ↦ get_or_past (undo permits cpus R).words (at / 8) 0 (let same = length_undo permits ((1 + cpus) * 4096) rule cpus R in omega (arith, same, past)) ∙ sym (get_or_past R.words (at / 8) 0 past)
]

not_permitted : (s : Super) (at : ℕ) → system_blocks s * 4096 ≤ at → is_permitted s at ≡ false
not_permitted s at high = grind (arith, nat_tests)

-- in version 1 the words of the data blocks are as before
pub data_word : (s : Super) (R : Region) → IsLayout s → s.version ≡ 1 → (at : ℕ) → at % 8 ≡ 0 → 4096 * system_blocks s ≤ at → word (undone s R) at ≡ word R at
data_word s R layout one at aligned high =
    word_kept (is_permitted_by (layout_of s R)) s.cpus (low_rule (layout_of s R) (region_laid s R layout)) R at aligned
    (ap (λ (permits : ℕ → Bool). permits at) (permits_fixed s R one) ∙ not_permitted s at (omega (arith, high))) (λ cpu less same. omega (arith, same, high, less))
