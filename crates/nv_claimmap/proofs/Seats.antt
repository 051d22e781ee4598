-- The seats of a map that was just opened, and what a draw leaves of the tickets.
use Rattle.std.proofs.Common.{◌≡◌, ℕ, zero, suc, ◌+◌, ◌-◌, ◌<◌, ◌≤◌, List, [], ◌∷◌, ◌++◌, cond, leb, max, refl, sym, ap, ◌∙◌, add-one, arith}
use Rattle.std.specs.List.{All}
use Rattle.std.proofs.lemmas.Bool.{lt-leb, le-leb}
use Rattle.std.proofs.lemmas.List.Elements.{All-nil, All-push}
use Rattle.std.proofs.lemmas.List.Sums.{sum_by_push}
use Rattle.nv_claimcore.specs.declared.view.View.{View}
use Rattle.nv_claimcore.specs.Claims.{nothing, past, above, with_number}
use Rattle.nv_claimcore.proofs.Keeps.{above_push}
use Rattle.nv_claimmap.specs.Held.{MapId, Held, held, fresh}

-- each is of the map and has drawn and claimed nothing
pub fresh_all : (m : MapId) (n : ℕ) → All (λ (h : Held). (h.map ≡ m) × (h.view ≡ nothing 1)) (fresh m n)
fresh_all m zero = All-nil (λ (h : Held). (h.map ≡ m) × (h.view ≡ nothing 1))
fresh_all m (suc n) = All-push (λ (h : Held). (h.map ≡ m) × (h.view ≡ nothing 1)) (fresh m n) (held m n (nothing 1)) (fresh_all m n) (refl, refl)

-- a draw leaves less above the seat's numbers, which is a measure for a loop of draws
pub fewer_left : (tickets t : ℕ) (v u : View) → above v.numbers ≤ t → t < tickets → u ≡ with_number v t → tickets - above u.numbers < tickets - above v.numbers
fewer_left tickets t v u low l is = let now : above u.numbers ≡ max (above v.numbers) (t + 1) = ap (λ (w : View). above w.numbers) is ∙ above_push v.numbers t in omega arith

-- one seat more
pub fresh_more : (m : MapId) (k : ℕ) (xs ys : List Held) (x : Held) → xs ≡ fresh m k → x ≡ held m k (nothing 1) → ys ≡ xs ++ x ∷ [] → ys ≡ fresh m (k + 1)
fresh_more m k xs ys x before is now = now ∙ ap (λ l. l ++ x ∷ []) before ∙ ap (λ y. fresh m k ++ y ∷ []) is ∙ ap (fresh m) (sym (add-one k))

-- a ticket adds no number past the end
pub drawn_below : (tickets n : ℕ) (v u : View) → u ≡ with_number v n → past tickets v.numbers ≡ 0 → n < tickets → past tickets u.numbers ≡ 0
drawn_below tickets n v u is none l =
    let more = sum_by_push (λ y. cond (leb tickets y) 1 0) v.numbers n in
    let one : cond {A = ℕ} (leb tickets n) 1 0 ≡ 0 = ap (λ b. cond b 1 0) (lt-leb tickets n l) in
    ap (λ (w : View). past tickets w.numbers) is ∙ (more ∙ omega (arith, none, one))

-- any other number is one
pub drawn_past : (tickets n : ℕ) (v u : View) → u ≡ with_number v n → tickets ≤ n → 0 < past tickets u.numbers
drawn_past tickets n v u is l =
    let more = sum_by_push (λ y. cond (leb tickets y) 1 0) v.numbers n in
    let one : cond {A = ℕ} (leb tickets n) 1 0 ≡ 1 = ap (λ b. cond b 1 0) (le-leb tickets n l) in
    let now : past tickets u.numbers ≡ past tickets v.numbers + cond (leb tickets n) 1 0 = ap (λ (w : View). past tickets w.numbers) is ∙ more in
    omega (arith, one, now)
