-- One write after another, and what it adds.
use Rattle.std.proofs.Common.{◌≡◌, ℕ, ◌+◌, ◌-◌, List, [], ◌++◌, length, take, drop, Option, Some, None, sym, ap, ◌∙◌, arith, append_assoc, append-nil, length-drop, length-append}
use Rattle.std.proofs.Math.Seq.{take-add, take-append-add, take-length}
use Rattle.std.proofs.lemmas.List.{take_all}
use Rattle.std.specs.Io.KnownBytes.{Appends}
use Rattle.nv_stream.specs.Streams.{AppendsFront, AppendsShort}

-- the second write is of the rest of the text, as `&text[m..]`
pub appends_more : (a b c : Option (List ℕ)) (text : List ℕ) (m n : ℕ) → Appends a b (take m text) → Appends b c (take n (take (length text - m) (drop m text))) → Appends a c (take (m + n) text)
appends_more None b c text m n p q = tt
appends_more (Some xs) None c text m n p q = absurd p
appends_more (Some xs) (Some ys) None text m n p q = q
appends_more (Some xs) (Some ys) (Some zs) text m n p q =
    let whole : take (length text - m) (drop m text) ≡ drop m text = take_all (length text - m) (drop m text) (omega (arith, length-drop m text)) in
    let q' : zs ≡ ys ++ take n (drop m text) = q ∙ ap (λ t. ys ++ take n t) whole in
    q' ∙ ap (λ front. front ++ take n (drop m text)) p ∙ append_assoc xs (take m text) _ ∙ ap (λ t. xs ++ t) (sym (take-add m n text))

-- nothing was added
pub appends_none : (old : Option (List ℕ)) → Appends old old []
appends_none None = tt
appends_none (Some xs) = sym (append-nil xs)

-- one text, and then another
pub appends_both : (a b c : Option (List ℕ)) (x y : List ℕ) → Appends a b x → Appends b c y → Appends a c (x ++ y)
appends_both None b c x y p q = tt
appends_both (Some xs) None c x y p q = absurd p
appends_both (Some xs) (Some ys) None x y p q = q
appends_both (Some xs) (Some ys) (Some zs) x y p q = q ∙ ap (λ front. front ++ y) p ∙ append_assoc xs x y

-- a text, and then a front of another
pub appends_front : (a b c : Option (List ℕ)) (x y : List ℕ) → Appends a b x → AppendsFront b c y → AppendsFront a c (x ++ y)
appends_front a b c x y p (n, q) = (length x + n, rw take-append-add (appends_both a b c x (take n y) p q))

-- the same, and not all of the other
pub appends_short : (a b c : Option (List ℕ)) (x y : List ℕ) → Appends a b x → AppendsShort b c y → AppendsShort a c (x ++ y)
appends_short a b c x y p (n, less, q) = (length x + n, simp length-append (omega arith), rw take-append-add (appends_both a b c x (take n y) p q))

-- a whole text is a front of itself
pub front_of_whole : (old new : Option (List ℕ)) (text : List ℕ) → Appends old new text → AppendsFront old new text
front_of_whole old new text added = (length text, rw take-length added)
