-- A buffer that is filled from its front on.
use Rattle.std.proofs.Common.{◌≡◌, ℕ, ◌+◌, ◌-◌, ◌/◌, ◌%◌, ◌<◌, ◌≤◌, min, List, ◌++◌, take, drop, length, map, ap, sym, ◌∙◌, arith, append_assoc, length-append, length-take, length-drop}
use Rattle.std.specs.List.{range_with_len}
use Rattle.std.proofs.lemmas.List.{take_at}
use Rattle.std.proofs.lemmas.List.FromFn.{length-map-range_with_len}
use Rattle.nv_super.proofs.Ranges.{range_more}
use Rattle.nv_bytes.proofs.Ranges.{same_range}

-- a piece more behind what is filled
pub filled_more : (f : ℕ → ℕ) (start done n : ℕ) (so_far piece rest : List ℕ) → so_far ≡ map f (range_with_len start done) → piece ≡ map f (range_with_len (start + done) n)
    → take (done + n) (so_far ++ (piece ++ rest)) ≡ map f (range_with_len start (done + n))
filled_more f start done n so_far piece rest first next =
    let whole : so_far ++ piece ≡ map f (range_with_len start (done + n)) =
    ap (λ (l : List ℕ). l ++ piece) first ∙ ap (λ (l : List ℕ). map f (range_with_len start done) ++ l) next ∙ range_more f start done n in
    ap (take (done + n)) (sym (append_assoc so_far piece rest) ∙ ap (λ (l : List ℕ). l ++ rest) whole)
    ∙ take_at (map f (range_with_len start (done + n))) rest (done + n) (length-map-range_with_len f start (done + n))

-- the same with a piece of one page, of whose bytes another function tells
pub page_filled : (f g : ℕ → ℕ) (start done stop : ℕ) (so_far piece rest : List ℕ) → done ≤ stop → so_far ≡ map f (range_with_len start done) → piece ≡ map g (range_with_len (start + done) (stop - done))
    → ((x : ℕ) → start + done ≤ x → x < start + done + (stop - done) → g x ≡ f x) → take stop (so_far ++ (piece ++ rest)) ≡ map f (range_with_len start stop)
page_filled f g start done stop so_far piece rest rises first next same =
    let whole : done + (stop - done) ≡ stop = omega arith in
    ap (λ (n : ℕ). take n (so_far ++ (piece ++ rest))) (sym whole)
    ∙ filled_more f start done (stop - done) so_far piece rest first (next ∙ same_range g f (start + done) (stop - done) same)
    ∙ ap (λ (n : ℕ). map f (range_with_len start n)) whole

-- a piece in the place of as many bytes
pub still_as_long : (buffer piece : List ℕ) (done n : ℕ) → done + n ≤ length buffer → length piece ≡ n → length (take done buffer ++ (piece ++ drop n (drop done buffer))) ≡ length buffer
still_as_long buffer piece done n within long = simp (length-append, length-take, length-drop) (omega arith)

-- ---- up to the end of a page, or to that of the buffer

pub on_page_up : (start done count stop x : ℕ) → stop ≡ min count (done + (4096 - (start + done) % 4096)) → done < count → start + done ≤ x → x < start + done + (stop - done) → (start + done) / 4096 ≡ x / 4096
on_page_up start done count stop x is more low high = omega arith
