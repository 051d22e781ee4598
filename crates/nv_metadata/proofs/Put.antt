-- A word that is put in the place of its eight bytes.
use Rattle.std.proofs.Common.{◌≡◌, ℕ, zero, suc, ◌+◌, ◌-◌, ◌*◌, ◌/◌, ◌%◌, ◌<◌, ◌≤◌, ◌^◌, List, [], ◌∷◌, ◌++◌, length, take, drop, set, ap, ◌∙◌, arith, length-drop, append-nil}
use Rattle.std.proofs.lemmas.List.{drop-drop, drop_all, take_all}
use borrow.Rule.Slice.PartMut.{mid_of, put_mid}
use Rattle.byteorder.specs.Endian.{little_number, little_bytes}
use Rattle.byteorder.specs.Numbers.{little_number-reads_back}
use Rattle.nv_region.specs.Region.{words_of}

-- the words of bytes of which eight are a word's
pub words_put : (k : ℕ) (bytes : List ℕ) (x : ℕ) → x < 256 ^ 8 → 8 * k + 8 ≤ length bytes → words_of (take (8 * k) bytes ++ (little_bytes 8 x ++ drop (8 * k + 8) bytes)) ≡ set (words_of bytes) k x
words_put zero (a ∷ b ∷ c ∷ d ∷ e ∷ f ∷ g ∷ h ∷ rest) x small within = (λ i. number i ∷ words_of rest)
  where
    number : little_number 8 (little_bytes 8 x) ≡ x
    number = little_number-reads_back 8 x [] small
words_put (suc k) (a ∷ b ∷ c ∷ d ∷ e ∷ f ∷ g ∷ h ∷ rest) x small within =
    (λ i. words_of (take (front i) (a ∷ b ∷ c ∷ d ∷ e ∷ f ∷ g ∷ h ∷ rest) ++ (little_bytes 8 x ++ drop (behind i) (a ∷ b ∷ c ∷ d ∷ e ∷ f ∷ g ∷ h ∷ rest))))
    ∙ ap (λ (l : List ℕ). little_number 8 (a ∷ b ∷ c ∷ d ∷ e ∷ f ∷ g ∷ h ∷ []) ∷ l) (words_put k rest x small (omega arith))
  where
    front : 8 * suc k ≡ suc (suc (suc (suc (suc (suc (suc (suc (8 * k))))))))
    front = omega arith

    behind : 8 * suc k + 8 ≡ suc (suc (suc (suc (suc (suc (suc (suc (8 * k + 8))))))))
    behind = omega arith
words_put k (a ∷ b ∷ c ∷ d ∷ e ∷ f ∷ g ∷ []) x small within = absurd (omega arith)
words_put k (a ∷ b ∷ c ∷ d ∷ e ∷ f ∷ []) x small within = absurd (omega arith)
words_put k (a ∷ b ∷ c ∷ d ∷ e ∷ []) x small within = absurd (omega arith)
words_put k (a ∷ b ∷ c ∷ d ∷ []) x small within = absurd (omega arith)
words_put k (a ∷ b ∷ c ∷ []) x small within = absurd (omega arith)
words_put k (a ∷ b ∷ []) x small within = absurd (omega arith)
words_put k (a ∷ []) x small within = absurd (omega arith)
words_put k [] x small within = absurd (omega arith)

-- after a write to the part from an address on
pub words_put_at : (at : ℕ) (bytes : List ℕ) (x : ℕ) (part : List ℕ) → x < 2 ^ 64 → at % 8 ≡ 0 → at + 8 ≤ length bytes → part ≡ little_bytes 8 x ++ drop 8 (mid_of at (length bytes - at) bytes)
    → words_of (put_mid at (length bytes - at) bytes part) ≡ set (words_of bytes) (at / 8) x
words_put_at at bytes x part small aligned within is =
    let e : at ≡ 8 * (at / 8) = omega (arith, aligned) in
    let long : length (drop at bytes) ≡ length bytes - at = length-drop at bytes in
    let all : take (length bytes - at) (drop at bytes) ≡ drop at bytes = take_all (length bytes - at) (drop at bytes) (omega (arith, long)) in
    let none : drop (length bytes - at) (drop at bytes) ≡ [] = drop_all (length bytes - at) (drop at bytes) (omega (arith, long)) in
    (λ i. words_of (take at bytes ++ (is i ++ none i)))
    ∙ ap (λ (l : List ℕ). words_of (take at bytes ++ l)) (append-nil (little_bytes 8 x ++ drop 8 (mid_of at (length bytes - at) bytes)))
    ∙ ap (λ (l : List ℕ). words_of (take at bytes ++ (little_bytes 8 x ++ l))) (ap (drop 8) all ∙ drop-drop 8 at bytes)
    ∙ (λ i. words_of (take (e i) bytes ++ (little_bytes 8 x ++ drop (e i + 8) bytes)))
    ∙ words_put (at / 8) bytes x (omega (arith, small)) (omega (arith, e, within))
