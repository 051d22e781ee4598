use Rattle.std.proofs.Common.{rules, ℕ, suc, List, [], ◌∷◌, ◌++◌, ◌+◌, ◌*◌, ◌≡◌, ◌<◌, ◌∙◌, ap, arith, length, length-take, take, get_or, append-nil}
use Rattle.std.proofs.lemmas.List.{get_or-take}
use Rattle.std.proofs.lemmas.Result.{on_ok_weaker}
use Rattle.nv_region.specs.Region.{Region, word}
use Rattle.nv_entry.specs.Name.{IsName}
use Rattle.nv_entry.specs.Text.{text_word}
use Rattle.nv_entry.specs.Spelling.{IsNameAt, first_word, operation_code, words_for}
use Rattle.nv_entry.specs.Written.{HoldsWords}
use Rattle.nv_entry.specs.declared.entry.NameEntry.{NameEntry}
use Rattle.nv_entry.proofs.writing.store_name_entry.Goals as goal

-- three words and those of the name, of a row with room for 32 more
name_written : (R : Region) (at first : ℕ) (e : NameEntry) (text : List ℕ) → HoldsWords R at (take (3 + words_for (length e.name)) (first ∷ e.inode ∷ e.time ∷ (text ++ []))) → length text ≡ 32 → IsName e.name
    → first ≡ first_word 3 (operation_code e.operation) (8 * (3 + words_for (length e.name))) (length e.name) → ((k : ℕ) → 8 * k < length e.name → get_or text k 0 ≡ text_word e.name (8 * k)) → IsNameAt R at e
name_written R at first e text held long is is_first spelled = record {
  first = ap (word R) (let start : at ≡ at + 8 * 0 = omega arith in start) ∙ there 0 (omega arith) ∙ is_first ∙ ap (λ (n : ℕ). first_word 3 (operation_code e.operation) n (length e.name)) (omega arith);
  inode = there 1 (omega arith);
  time = there 2 (omega arith);
  name = λ k inside.
      ap (word R) (let place : at + 24 + 8 * k ≡ at + 8 * suc (suc (suc k)) = omega arith in place) ∙ there (suc (suc (suc k))) (omega (arith, inside))
      ∙ ap (λ (l : List ℕ). get_or l k 0) (append-nil text) ∙ spelled k inside;
  is_name = is;
}
  where
    row : List ℕ
    row = first ∷ e.inode ∷ e.time ∷ (text ++ [])

    enough : length row ≡ 35
    enough = ap (λ (l : List ℕ). length (first ∷ e.inode ∷ e.time ∷ l)) (append-nil text) ∙ omega (arith, long)

    there : (k : ℕ) → k < 3 + words_for (length e.name) → word R (at + 8 * k) ≡ get_or row k 0
    there k below =
        held k (omega (arith, below, enough, is.fits, length-take (3 + words_for (length e.name)) row)) ∙ get_or-take (3 + words_for (length e.name)) row k 0 below

pub returns-clause-spelled : goal.returns-clause-spelled
returns-clause-spelled g c =
    on_ok_weaker c.store_words.result
    (λ held. name_written _ c.args.at c.first_word_of.result c.args.e.now c.spell_text.new.words (rw c.as_slice-name.ensures.value at held) c.spell_text.ensures.as_long c.as_slice-name.ensures.is_name (search rules) (rw c.as_slice-name.ensures.value at c.spell_text.ensures.text))
    c.store_words.ensures.held
