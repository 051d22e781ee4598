-- The lines of the entries that are left, with the next one in front.
use Rattle.std.proofs.Common.{◌≡◌, ◌∙◌, ◌+◌, ◌/◌, ◌<◌, ℕ, suc, List, ◌∷◌, ◌++◌, length, get_or, drop, ap, sym, arith, append_assoc}
use Rattle.std.proofs.Math.Seq.{drop-cons}
use Rattle.std.proofs.lemmas.List.{get_or_default}
use Rattle.nv_super.specs.declared.superblock.Super.{Super}
use Rattle.nv_logpage.specs.declared.found.Placed.{Placed}
use Rattle.nv_scan.specs.declared.piece.Row.{Row}
use Rattle.nv_inspect.specs.declared.fate.Fate.{Fate}
use Rattle.nv_inspect.specs.declared.fate.Fate.TheVariants.{Stands}
use Rattle.nv_inspect.specs.Entry.{entry_line}
use Rattle.nv_inspect.specs.Log.{lines_of, links_to, pages_from}

next_place : (n : ℕ) → suc n ≡ n + 1
next_place n = omega arith

front_of : (fates : List Fate) (place : ℕ) (fate : Fate) → place < length fates → fate ≡ get_or fates place fate → drop place fates ≡ fate ∷ drop (place + 1) fates
front_of fates place fate below is = drop-cons fates place fate below ∙ ap (λ (f : Fate). f ∷ drop (suc place) fates) (sym is) ∙ ap (λ (n : ℕ). fate ∷ drop n fates) (next_place place)

first_of : (entries : List Placed) (place : ℕ) (x : Placed) → place < length entries → x ≡ get_or entries place x → drop place entries ≡ x ∷ drop (place + 1) entries
first_of entries place x below is = drop-cons entries place x below ∙ ap (λ (y : Placed). y ∷ drop (suc place) entries) (sym is) ∙ ap (λ (n : ℕ). x ∷ drop n entries) (next_place place)

pub lines_next : (s : Super) (row : Row) (fates : List Fate) (left : List ℕ) (entries : List Placed) (place : ℕ) (x : Placed) (fate : Fate) → length fates ≡ length entries → place < length entries → x ≡ get_or entries place x → fate ≡ get_or fates place Stands
    → lines_of s row (drop place fates) left (drop place entries) ≡ links_to (x.at / 4096) left ++ entry_line s row fate x ++ lines_of s row (drop (place + 1) fates) (pages_from (x.at / 4096) left) (drop (place + 1) entries)
lines_next s row fates left entries place x fate long below is fate_is =
    ap (lines_of s row (drop place fates) left) (first_of entries place x below is)
    ∙ ap (λ (fs : List Fate). lines_of s row fs left (x ∷ drop (place + 1) entries)) (front_of fates place fate (omega (arith, long, below)) (fate_is ∙ get_or_default fates place Stands fate (omega (arith, long, below))))

-- a text with a line more, and the lines that are left
pub lines_step : (before linked told links entry rest lines whole : List ℕ) → linked ≡ before ++ links → told ≡ linked ++ entry → lines ≡ links ++ entry ++ rest → before ++ lines ≡ whole → told ++ rest ≡ whole
lines_step before linked told links entry rest lines whole first second next so_far =
    ap (λ (t : List ℕ). t ++ rest) (second ∙ ap (λ (t : List ℕ). t ++ entry) first ∙ append_assoc before links entry) ∙ append_assoc before (links ++ entry) rest ∙ ap (λ (t : List ℕ). before ++ t) (sym next) ∙ so_far
