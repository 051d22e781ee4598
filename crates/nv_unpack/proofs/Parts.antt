-- The parts of a path, one after the other.
use Rattle.std.proofs.Common.{◌≡◌, ℕ, ◌+◌, ◌<◌, Bool, true, false, List, [], ◌∷◌, ◌++◌, All, length, take, drop, Some, None, refl, sym, ap, ◌∙◌, arith}
use Rattle.std.specs.List.{flat_map, onto_first, position, slice_split}
use Rattle.std.proofs.lemmas.Grind.{flat_map-append}
use Rattle.std.proofs.lemmas.List.{append_assoc}
use Rattle.std.proofs.lemmas.List.Elements.{All-from_get_or}
use Rattle.std.proofs.lemmas.List.Splits.{length-slice_split, slice_split-cons_no, slice_split-cons_yes, slice_split_first, slice_split_none}
use Rattle.std.proofs.lemmas.List.Sums.{fails_before_first}
use Rattle.nv_tree.specs.Path.{is_slash}
use Rattle.nv_untar.specs.Items.{joined}
use Rattle.nv_untar.proofs.Positions.{found_at, found_nowhere}
use Rattle.nv_unpack.specs.Places.{part_text, parts_text}

abbrev parts : List ℕ → List (List ℕ)
parts path = slice_split is_slash path

-- ---- a path behind another

onto_append : (x : ℕ) (these more : List (List ℕ)) → 0 < length these → onto_first x (these ++ more) ≡ onto_first x these ++ more
onto_append x [] more some = absurd (omega (arith, some))
onto_append x (part ∷ these) more some = refl

parts_append : (path more : List ℕ) → parts (path ++ 47 ∷ more) ≡ parts path ++ parts more
parts_append [] more = slice_split-cons_yes is_slash 47 more refl
parts_append (b ∷ path) more = by (is_slash b) refl (parts_append path more)
  where
    by : (at : Bool) → is_slash b ≡ at → parts (path ++ 47 ∷ more) ≡ parts path ++ parts more → parts ((b ∷ path) ++ 47 ∷ more) ≡ parts (b ∷ path) ++ parts more
    by true here rest = slice_split-cons_yes is_slash b (path ++ 47 ∷ more) here ∙ ap (λ (these : List (List ℕ)). [] ∷ these) rest
        ∙ ap (λ (these : List (List ℕ)). these ++ parts more) (sym (slice_split-cons_yes is_slash b path here))
    by false other rest = slice_split-cons_no is_slash b (path ++ 47 ∷ more) other ∙ ap (onto_first b) rest
        ∙ onto_append b (parts path) (parts more) (omega (arith, length-slice_split is_slash path))
        ∙ ap (λ (these : List (List ℕ)). these ++ parts more) (sym (slice_split-cons_no is_slash b path other))

pub parts_joined : (prefix path : List ℕ) → parts_text (joined prefix path) ≡ parts_text prefix ++ parts_text path
parts_joined [] path = refl
parts_joined (b ∷ bs) path = ap (flat_map part_text) (parts_append (b ∷ bs) path) ∙ flat_map-append part_text (parts (b ∷ bs)) (parts path)

-- ---- a path cut at its first `/`

pub parts_cut : (path : List ℕ) (i : ℕ) → position is_slash path ≡ Some i → parts_text path ≡ part_text (take i path) ++ parts_text (drop (i + 1) path)
parts_cut path i at =
    let found = found_at is_slash path i at in
    ap (flat_map part_text) (slice_split_first is_slash path 0 found.1) ∙ ap (λ n. part_text (take n path) ++ parts_text (drop (n + 1) path)) (sym found.0)

pub parts_whole : (path : List ℕ) → position is_slash path ≡ None → parts_text path ≡ part_text path
parts_whole path none =
    let len = found_nowhere is_slash path none in
    let fails : All (λ b. is_slash b ≡ false) path = All-from_get_or (λ b. is_slash b ≡ false) path 0 (λ k inside. fails_before_first is_slash path k 0 (omega (arith, len, inside))) in
    ap (flat_map part_text) (slice_split_none is_slash path fails) ∙ one (part_text path)
  where
    one : (text : List ℕ) → text ++ [] ≡ text
    one [] = refl
    one (b ∷ bs) = ap (λ (t : List ℕ). b ∷ t) (one bs)

-- ---- what is pushed

pub pushed : (old new left whole : List ℕ) (i : ℕ) → position is_slash left ≡ Some i → new ≡ old ++ part_text (take i left) → old ++ parts_text left ≡ whole → new ++ parts_text (drop (i + 1) left) ≡ whole
pushed old new left whole i at more all =
    ap (λ (t : List ℕ). t ++ parts_text (drop (i + 1) left)) more ∙ append_assoc old (part_text (take i left)) (parts_text (drop (i + 1) left))
    ∙ ap (λ (t : List ℕ). old ++ t) (sym (parts_cut left i at)) ∙ all

pub pushed_last : (old new left whole : List ℕ) → position is_slash left ≡ None → new ≡ old ++ part_text left → old ++ parts_text left ≡ whole → new ≡ whole
pushed_last old new left whole none more all = more ∙ ap (λ (t : List ℕ). old ++ t) (sym (parts_whole left none)) ∙ all

pub placed : (base prefix path one two three : List ℕ) → one ≡ parts_text base → two ≡ one ++ parts_text prefix → three ≡ two ++ parts_text path → three ≡ parts_text base ++ parts_text (joined prefix path)
placed base prefix path one two three first second third =
    third ∙ ap (λ (t : List ℕ). t ++ parts_text path) (second ∙ ap (λ (t : List ℕ). t ++ parts_text prefix) first)
    ∙ append_assoc (parts_text base) (parts_text prefix) (parts_text path) ∙ ap (λ (t : List ℕ). parts_text base ++ t) (sym (parts_joined prefix path))
