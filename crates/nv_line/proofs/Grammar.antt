-- What is read of a line is spelled so, and what is spelled so is read.
use Rattle.std.proofs.Common.{◌≡◌, ℕ, zero, suc, ◌<◌, Bool, true, false, ◌&&◌, not, eqb, List, [], ◌∷◌, length, slice_index_or, Some, None, Option, option_map, refl, sym, ap, subst, ◌∙◌, arith, inr}
use Rattle.std.specs.List.{slice_split, join_with_byte, list_all, Contains, AllByRecursion}
use Rattle.std.proofs.lemmas.Bool.{and_parts}
use Rattle.std.proofs.lemmas.List.Splits.{join_with_byte-slice_split}
use Rattle.nv_line.specs.Request.{Request}
use Rattle.nv_line.specs.Lines.{IsSkipped, IsBad}
use Rattle.nv_line.specs.Table.{Row, row_of, commands, rows, names}
use Rattle.nv_line.specs.Shapes.{Values, words_of, CanBeWritten}
use Rattle.nv_line.specs.Spelling.{Says}
use Rattle.nv_line.specs.Reading.{request_of, request_of_words, request_by}
use Rattle.nv_line.proofs.Words.{AreWords, IsUnspaced, text_unspaced, unspaced_parts, split-join}
use Rattle.nv_line.proofs.ShapedWords.{values_unspaced}
use Rattle.nv_line.proofs.Rows.{are_distinct, found_by_name, as_row, read_by_row, row_says, row_again}

-- ---- the names of the table

-- no two commands have one name
all_distinct : are_distinct commands ≡ true
unfolding commands row_of
all_distinct = refl

-- a name has no space, and doesn't begin as a comment does
abbrev begins_a_command : List ℕ → Bool
begins_a_command [] = false
begins_a_command (b ∷ bs) = not (eqb b 35)

abbrev is_name : List ℕ → Bool
is_name name = list_all (λ b. not (eqb b 32)) name && begins_a_command name

rows_named : list_all (λ (row : Row). is_name row.name) rows ≡ true
unfolding rows commands row_of
rows_named = refl

all_at : (table : List Row) (row : Row) → list_all (λ (row : Row). is_name row.name) table ≡ true → (k : ℕ) → k < length table → slice_index_or table k row ≡ row → is_name row.name ≡ true
all_at [] row all k below is = absurd (omega (arith, below))
all_at (x ∷ table) row all zero below is = subst (λ (y : Row). is_name y.name ≡ true) is (and_parts _ _ all).0
all_at (x ∷ table) row all (suc k) below is = all_at table row (and_parts _ _ all).1 k (omega (arith, below)) is

named : (row : Row) → Contains rows row → (list_all (λ b. not (eqb b 32)) row.name ≡ true) × (begins_a_command row.name ≡ true)
named row c = and_parts _ _ (all_at rows row rows_named c.0 c.1 c.2)

-- the words of a row have no space
spelled_unspaced : (row : Row) → Contains rows row → (vs : Values row.shape) → CanBeWritten row.shape vs → AreWords (row.name ∷ words_of row.shape vs)
spelled_unspaced row c vs can = (text_unspaced row.name (named row c).0, values_unspaced row.shape vs can)

-- ---- both ways

both_parts : (name verb : List ℕ) (words others : List (List ℕ)) → name ≡ verb → words ≡ others → name ∷ words ≡ verb ∷ others
both_parts name verb words others a b = cc

-- words that are read are a line that says so
words_say : (line : List ℕ) (words : List (List ℕ)) (r : Request) → slice_split (λ b. eqb b 32) line ≡ words → AllByRecursion IsUnspaced words → request_of_words words ≡ Some r → Says line r
unfolding request_of_words rows names
words_say line [] r is free e = absurd (cc)
words_say line (name ∷ words) r is free e =
    let by = read_by_row commands name words r e in
    let said = row_says by.row words r free.1 by.reads in
    let both : (name ∷ words) ≡ by.row.name ∷ words_of by.row.shape said.values = both_parts _ _ _ _ by.named said.write in
    record {
      row = by.row;
      listed = by.listed;
      values = said.values;
      fits = said.can;
      spelled = sym (join_with_byte-slice_split 32 line) ∙ ap (join_with_byte 32) (is ∙ both);
      made = said.made;
    }

-- what is read is spelled so
pub line_says : (line : List ℕ) (r : Request) → request_of line ≡ Some r → Says line r
unfolding request_of
line_says line r e = words_say line (slice_split (λ b. eqb b 32) line) r refl (unspaced_parts line) e

words_again : (row : Row) → Contains rows row → (vs : Values row.shape) → CanBeWritten row.shape vs → (r : Request) → request_by row.shape row.make (words_of row.shape vs) ≡ Some r → request_of_words (row.name ∷ words_of row.shape vs) ≡ Some r
unfolding request_of_words rows names
words_again row c vs can r e =
    let found = found_by_name commands row all_distinct c in
    rw found.named (as_row found.form _ ∙ subst (λ (y : Row). request_by y.shape y.make (words_of row.shape vs) ≡ Some r) (sym found.is) e)

-- what is spelled so is read
pub line_again : (line : List ℕ) (r : Request) → Says line r → request_of line ≡ Some r
unfolding request_of
line_again line r says =
    rw (says.spelled, split-join _ (spelled_unspaced says.row says.listed says.values says.fits))
    (words_again says.row says.listed says.values says.fits r (row_again says.row says.values says.fits ∙ ap Some (sym says.made)))

-- no line asks for two things
pub one_request : (line : List ℕ) (a b : Request) → Says line a → Says line b → a ≡ b
one_request line a b x y = let p = line_again line a x in let q = line_again line b y in cc

begun_so : (name : List ℕ) (words : List (List ℕ)) → begins_a_command name ≡ true → IsSkipped (join_with_byte 32 (name ∷ words)) → ⊥
begun_so [] words e h = absurd (cc)
begun_so (b ∷ bs) [] e h = let is : b ≡ 35 = h in let test : not (eqb 35 35) ≡ true = subst (λ c. not (eqb c 35) ≡ true) is e in absurd (cc)
begun_so (b ∷ bs) (word ∷ words) e h = let is : b ≡ 35 = h in let test : not (eqb 35 35) ≡ true = subst (λ c. not (eqb c 35) ≡ true) is e in absurd (cc)

-- a skipped line asks for nothing
pub skipped_says : (line : List ℕ) (r : Request) → IsSkipped line → Says line r → ⊥
skipped_says line r skipped says = begun_so says.row.name (words_of says.row.shape says.values) (named says.row says.listed).1 (subst IsSkipped says.spelled skipped)

-- a line that isn't skipped, and that asks for nothing
pub is_bad : {A : Type 0} (line : List ℕ) (view : A → Request) (found : Option A) → found ≡ None → (IsSkipped line → ⊥) → ((request : Request) → Says line request → option_map view found ≡ Some request) → IsBad line
is_bad line view found none kept only = inr (kept, λ request says. (let bad : None ≡ Some request = sym (ap (option_map view) none) ∙ only request says in cc))
