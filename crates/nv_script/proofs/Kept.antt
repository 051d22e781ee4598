-- What a shell's host keeps, line after line.
use Rattle.std.proofs.Common.{◌≡◌, List, [], ◌++◌, Option, Some, None, sym, ap, ◌∙◌, append_assoc, append-nil}
use Rattle.nv_script.specs.Shell.{Kept, Grows}

-- by nothing
pub grows_none : (a : Option (List Kept)) → Grows a a []
grows_none None = tt
grows_none (Some a) = sym (append-nil a)

-- by some, and then by others
pub grows_both : (a b c : Option (List Kept)) (xs ys : List Kept) → Grows a b xs → Grows b c ys → Grows a c (xs ++ ys)
grows_both None b c xs ys p q = tt
grows_both (Some a) None c xs ys p q = absurd p
grows_both (Some a) (Some b) None xs ys p q = absurd q
grows_both (Some a) (Some b) (Some c) xs ys p q = q ∙ ap (λ l. l ++ ys) p ∙ append_assoc a xs ys

-- by some, and then by nothing
pub grows_still : (a b c : Option (List Kept)) (xs : List Kept) → Grows a b xs → Grows b c [] → Grows a c xs
grows_still None b c xs p q = tt
grows_still (Some a) None c xs p q = absurd p
grows_still (Some a) (Some b) None xs p q = absurd q
grows_still (Some a) (Some b) (Some c) xs p q = q ∙ append-nil b ∙ p

-- by nothing, and then by some
pub grows_then : (a b c : Option (List Kept)) (xs : List Kept) → Grows a b [] → Grows b c xs → Grows a c xs
grows_then a b c xs p q = grows_both a b c [] xs p q
