-- A drawing grows by the squares of a cell, or of a use, at a time.
use Rattle.std.proofs.Common.{◌≡◌, ℕ, ◌+◌, ◌*◌, ◌/◌, ◌%◌, ◌<◌, ◌≤◌, List, ◌∷◌, ◌++◌, length, get_or, drop, ap, sym, ◌∙◌, append_assoc, append-nil, add-one, drop-cons}
use Rattle.std.proofs.Math.ListN.{drop_of_length-le}
use Rattle.nv_map.specs.declared.uses.BlockUse.{BlockUse}
use Rattle.nv_map.specs.declared.shares.Share.{Share}
use Rattle.nv_image_files.specs.Drawing.{number_at, cell_line, square_line, words_line, use_name, cell_lines, use_lines}

drop_next : {X : Type 0} (items : List X) (place : ℕ) (d : X) → place < length items → drop place items ≡ get_or items place d ∷ drop (place + 1) items
drop_next items place d here = rw add-one (drop-cons items place d here)

-- the squares from a cell on are its own and those from the next on
pub cell_more : (out mid new all : List ℕ) (shares : List Share) (place : ℕ) (d : Share) → place < length shares → out ++ cell_lines place (drop place shares) ≡ all
    → mid ≡ out ++ number_at place (get_or shares place d).first → new ≡ mid ++ cell_line (40 + place % 64 * 10) (place / 64 * 10) (get_or shares place d)
    → new ++ cell_lines (place + 1) (drop (place + 1) shares) ≡ all
unfolding cell_lines
cell_more out mid new all shares place d here before number square =
    let next = ap (λ rest. out ++ cell_lines place rest) (drop_next shares place d here) in
    let own = number_at place (get_or shares place d).first in
    let cell = cell_line (40 + place % 64 * 10) (place / 64 * 10) (get_or shares place d) in
    let whole : new ≡ out ++ (own ++ cell) = square ∙ ap (λ text. text ++ cell) number ∙ append_assoc out own cell in
    ap (λ text. text ++ cell_lines (place + 1) (drop (place + 1) shares)) whole
    ∙ append_assoc out (own ++ cell) (cell_lines (place + 1) (drop (place + 1) shares))
    ∙ sym next
    ∙ before

-- behind the last cell there are none
pub no_cells : (out all : List ℕ) (uses : List Share) (place : ℕ) → length uses ≤ place → out ++ cell_lines place (drop place uses) ≡ all → out ≡ all
unfolding cell_lines
no_cells out all uses place behind before =
    sym (append-nil out) ∙ sym (ap (λ rest. out ++ cell_lines place rest) (drop_of_length-le uses behind)) ∙ before

pub use_more : (out mid new all : List ℕ) (uses : List BlockUse) (y place : ℕ) (d : BlockUse) → place < length uses → out ++ use_lines y place (drop place uses) ≡ all → mid ≡ out ++ square_line (40 + place * 8 * 10) y (get_or uses place d) → new ≡ mid ++ words_line (40 + place * 8 * 10 + 14) y (use_name (get_or uses place d)) → new ++ use_lines y (place + 1) (drop (place + 1) uses) ≡ all
unfolding use_lines
use_more out mid new all uses y place d here before square words =
    let next = ap (λ rest. out ++ use_lines y place rest) (drop_next uses place d here) in
    let whole : new ≡ out ++ (square_line (40 + place * 8 * 10) y (get_or uses place d) ++ words_line (40 + place * 8 * 10 + 14) y (use_name (get_or uses place d))) =
    words ∙ ap (λ text. text ++ words_line (40 + place * 8 * 10 + 14) y (use_name (get_or uses place d))) square ∙ append_assoc out _ _ in
    ap (λ text. text ++ use_lines y (place + 1) (drop (place + 1) uses)) whole
    ∙ append_assoc out _ _
    ∙ sym next
    ∙ before

pub no_uses : (out all : List ℕ) (uses : List BlockUse) (y place : ℕ) → length uses ≤ place → out ++ use_lines y place (drop place uses) ≡ all → out ≡ all
unfolding use_lines
no_uses out all uses y place behind before =
    sym (append-nil out) ∙ sym (ap (λ rest. out ++ use_lines y place rest) (drop_of_length-le uses behind)) ∙ before

-- a text behind which five others were put, one by one
pub five_parts : (out a b c d e one two three four all : List ℕ) → one ≡ out ++ a → two ≡ one ++ b → three ≡ two ++ c → four ≡ three ++ d → all ≡ four ++ e
    → all ≡ out ++ ((((a ++ b) ++ c) ++ d) ++ e)
five_parts out a b c d e one two three four all p q r s t =
    t
    ∙ ap (λ text. text ++ e) (s ∙ ap (λ text. text ++ d) (r ∙ ap (λ text. text ++ c) (q ∙ ap (λ text. text ++ b) p ∙ append_assoc out a b) ∙ append_assoc out (a ++ b) c) ∙ append_assoc out ((a ++ b) ++ c) d)
    ∙ append_assoc out (((a ++ b) ++ c) ++ d) e
