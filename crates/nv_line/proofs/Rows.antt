-- What is read of a line's words by a table is spelled by one of its rows, and what a row spells is read by it.
use Rattle.std.proofs.Common.{◌≡◌, ℕ, zero, suc, ◌<◌, Bool, true, false, ◌&&◌, not, cond, List, [], ◌∷◌, length, map, slice_index_or, Some, None, Option, option_map, refl, sym, ◌∙◌, arith, subst}
use Rattle.std.specs.Prelude.{option_and_then, bytes_eq}
use Rattle.std.specs.List.{list_all, Contains, AllByRecursion}
use Rattle.std.proofs.lemmas.Bool.{and_parts}
use Rattle.std.proofs.lemmas.Slice.Eq.{bytes_eq-Decides}
use Rattle.nv_line.specs.Request.{Request}
use Rattle.nv_line.specs.declared.reasons.Form.{Form}
use Rattle.nv_line.specs.declared.reasons.Form.TheVariants as forms
use Rattle.nv_line.specs.Table.{Row, row_of, named, form_in}
use Rattle.nv_line.specs.Shapes.{Values, made_of, words_of, CanBeWritten}
use Rattle.nv_line.specs.Reading.{values_of, request_by, request_as}
use Rattle.nv_line.proofs.Words.{IsUnspaced, same_bytes}
use Rattle.nv_line.proofs.ShapedWords.{values_say, values_again}

-- ---- rows by their names

-- each name is that of one command
abbrev pub are_distinct : List Form → Bool
are_distinct [] = true
are_distinct (form ∷ forms) = list_all (λ (other : Form). not (bytes_eq (row_of other).name (row_of form).name)) forms && are_distinct forms

-- the command whose row this is, by the row's name
pub record Found (forms : List Form) (row : Row) : Type 0 where
  pub form : Form
  pub named : form_in (map named forms) row.name ≡ Some form
  pub is : row_of form ≡ row

not_true : (b : Bool) → not b ≡ true → b ≡ false
not_true true e = absurd (cc)
not_true false e = refl

listed_not : (forms : List Form) (row : Row) (name : List ℕ) → list_all (λ (other : Form). not (bytes_eq (row_of other).name name)) forms ≡ true → (k : ℕ) → k < length (map row_of forms) → slice_index_or (map row_of forms) k row ≡ row → bytes_eq row.name name ≡ false
listed_not [] row name all k below is = absurd (omega (arith, below))
listed_not (x ∷ forms) row name all zero below is =
    not_true _ (subst (λ (y : Row). not (bytes_eq y.name name) ≡ true) is (and_parts _ _ all).0)
listed_not (x ∷ forms) row name all (suc k) below is = listed_not forms row name (and_parts _ _ all).1 k (omega (arith, below)) is

-- a row is found by its name
found_at : (forms : List Form) (row : Row) → are_distinct forms ≡ true → (k : ℕ) → k < length (map row_of forms) → slice_index_or (map row_of forms) k row ≡ row → Found forms row
unfolding form_in
found_at [] row apart k below is = absurd (omega (arith, below))
found_at (x ∷ forms) row apart zero below is =
    let same : bytes_eq row.name (row_of x).name ≡ true = subst (λ (y : Row). bytes_eq y.name (row_of x).name ≡ true) is ((bytes_eq-Decides (row_of x).name (row_of x).name).1 refl) in
    record { form = x; named = rw same refl; is = is }
found_at (x ∷ forms) row apart (suc k) below is =
    let both : (list_all (λ (other : Form). not (bytes_eq (row_of other).name (row_of x).name)) forms ≡ true) × (are_distinct forms ≡ true) = and_parts _ _ apart in
    let rest = found_at forms row both.1 k (omega (arith, below)) is in
    let other = listed_not forms row (row_of x).name both.0 k (omega (arith, below)) is in
    record { form = rest.form; named = rw other rest.named; is = rest.is }

pub found_by_name : (forms : List Form) (row : Row) → are_distinct forms ≡ true → Contains (map row_of forms) row → Found forms row
found_by_name forms row apart c = found_at forms row apart c.0 c.1 c.2

-- ---- a name that is found

-- the row by which a name was read
pub record ReadBy (rows : List Row) (name : List ℕ) (words : List (List ℕ)) (r : Request) : Type 0 where
  pub row : Row
  pub listed : Contains rows row
  pub named : name ≡ row.name
  pub reads : request_by row.shape row.make words ≡ Some r

one_later : (x : Row) (rows : List Row) (name : List ℕ) (words : List (List ℕ)) (r : Request) → ReadBy rows name words r → ReadBy (x ∷ rows) name words r
one_later x rows name words r by = record {
  row = by.row;
  listed = (suc by.listed.0, (let below = by.listed.1 in omega (arith, below)), by.listed.2);
  named = by.named;
  reads = by.reads;
}

-- what the words behind a name make by these commands
abbrev made_by : List Form → List ℕ → List (List ℕ) → Option Request
made_by forms name words = option_and_then (λ form. request_as form words) (form_in (map named forms) name)

-- a command makes what its row makes
pub as_row : (form : Form) (words : List (List ℕ)) → request_as form words ≡ request_by (row_of form).shape (row_of form).make words
unfolding request_as
as_row forms.Format words = refl
as_row form words = refl

pub read_by_row : (forms : List Form) (name : List ℕ) (words : List (List ℕ)) (r : Request) → made_by forms name words ≡ Some r → ReadBy (map row_of forms) name words r
unfolding form_in
read_by_row [] name words r e = absurd (cc)
read_by_row (x ∷ forms) name words r e = at (bytes_eq name (row_of x).name) refl (read_by_row forms name words r) e where
  at : (b : Bool) → bytes_eq name (row_of x).name ≡ b → (made_by forms name words ≡ Some r → ReadBy (map row_of forms) name words r)
      → option_and_then (λ form. request_as form words) (cond b (Some x) (form_in (map named forms) name)) ≡ Some r → ReadBy (map row_of (x ∷ forms)) name words r
  at true test rest e = record { row = row_of x; listed = (0, (omega arith), refl); named = same_bytes name (row_of x).name test; reads = sym (as_row x words) ∙ e }
  at false test rest e = one_later (row_of x) (map row_of forms) name words r (rest e)

-- ---- the values of a row

-- the row's words write values, of which the request is made
pub record RowSays (row : Row) (words : List (List ℕ)) (r : Request) : Type 0 where
  pub values : Values row.shape
  pub can : CanBeWritten row.shape values
  pub write : words ≡ words_of row.shape values
  pub made : r ≡ made_of row.shape row.make values

pub row_says : (row : Row) (words : List (List ℕ)) (r : Request) → AllByRecursion IsUnspaced words → request_by row.shape row.make words ≡ Some r → RowSays row words r
unfolding request_by
row_says row words r free e = by (values_of row.shape words) refl e where
  by : (o : Option (Values row.shape)) → values_of row.shape words ≡ o → option_map (made_of row.shape row.make) o ≡ Some r → RowSays row words r
  by None read e = absurd (cc)
  by (Some vs) read e =
      let said = values_say row.shape words vs free read in
      record { values = vs; can = said.can; write = said.write; made = (let same : made_of row.shape row.make vs ≡ r = cc in sym same) }

pub row_again : (row : Row) (vs : Values row.shape) → CanBeWritten row.shape vs → request_by row.shape row.make (words_of row.shape vs) ≡ Some (made_of row.shape row.make vs)
unfolding request_by
row_again row vs can = rw (values_again row.shape vs can) refl
