-- The names of one bucket on their way into many.
use Rattle.std.proofs.Common.{◌≡◌, ℕ, ◌+◌, true, cond, nat_eq, List, [], ◌∷◌, ◌++◌, length, map, Option, Some, None, is_some, refl, sym, ap, subst, ◌∙◌, arith, length-append}
use Rattle.std.proofs.lemmas.List.{append-nil, map-append, length-map}
use Rattle.std.specs.List.{IsDistinct}
use Rattle.std.specs.Option.{option_map, option_or}
use Rattle.std.specs.Cmp.Lexicographic.{pointwise, nat_list_eq_equiv}
use Rattle.nv_names.specs.declared.named.Named.{Named}
use Rattle.nv_names.specs.declared.target.Target.{Target}
use Rattle.nv_names.specs.Names.{found_in, names_of, line_of, inode_and_place}
use Rattle.nv_names.specs.Table.{PutsAt, FindSame, AreBeside}
use Rattle.nv_names.proofs.Entries.{found_in-append, some_of}
use Rattle.nv_names.proofs.Beside.{moved}
use Rattle.nv_names.proofs.Choosing.{Lines}

-- The buckets and the lines that are left have together the names of the one bucket, each once.
pub record Moves (one buckets : Lines) (left : List Named) : Type 0 where
  pub beside : AreBeside buckets (map line_of left)
  pub same : FindSame one (buckets ++ map line_of left)
  pub count : length buckets + length left ≡ length one

-- so it is where no name has moved
pub moves_begin : (one buckets : Lines) (left : List Named) → buckets ≡ [] → map line_of left ≡ one → IsDistinct (pointwise nat_eq) (names_of one) → Moves one buckets left
moves_begin one buckets left none all once = subst (λ ts. Moves one ts left) (sym none) record {
  beside = record { once = subst (λ es. IsDistinct (pointwise nat_eq) (names_of es)) (sym all) once; apart = λ q some. refl };
  same = λ q. ap (λ es. found_in es q) all;
  count = let lines = ap length all in omega (arith, lines, length-map left line_of);
}

-- the last name isn't in the buckets
last_lacks : (buckets ms : Lines) (x : List ℕ × ℕ × ℕ) → AreBeside buckets (ms ++ x ∷ []) → found_in buckets x.0 ≡ None
last_lacks buckets ms x beside = beside.apart x.0 (subst (λ o. is_some o ≡ true) (sym here) (some (found_in ms x.0)))
  where
    here : found_in (ms ++ x ∷ []) x.0 ≡ option_or (found_in ms x.0) (Some (x.1, x.2))
    here = found_in-append ms (x ∷ []) x.0 ∙ ap (λ b. option_or (found_in ms x.0) (cond b (Some (x.1, x.2)) None)) (nat_list_eq_equiv.refl x.0)

    some : (o : Option (ℕ × ℕ)) → is_some (option_or o (Some (x.1, x.2))) ≡ true
    some None = refl
    some (Some v) = refl

-- and is once the last line has moved
pub moves_on : (one a d : Lines) (left rest : List Named) (line : Named) (had : Option Target) → Moves one a left → left ≡ rest ++ line ∷ [] → option_map inode_and_place had ≡ found_in a line.name.now
    → PutsAt a d line.name.now (Some (line.inode, line.place)) → length d ≡ length a + cond (is_some had) 0 1 → Moves one d rest
moves_on one a d left rest line had moves split found puts more = record {
  beside = both.0;
  same = λ q. both.1 q ∙ ap (λ es. found_in (a ++ es) q) (sym lines) ∙ moves.same q;
  count = let all = moves.count in let len = ap length split in omega (arith, all, len, length-append rest (line ∷ []), new, more);
}
  where
    lines : map line_of left ≡ map line_of rest ++ line_of line ∷ []
    lines = ap (map line_of) split ∙ map-append line_of rest (line ∷ [])

    apart : AreBeside a (map line_of rest ++ line_of line ∷ [])
    apart = subst (AreBeside a) lines moves.beside

    both : AreBeside d (map line_of rest) × FindSame (a ++ (map line_of rest ++ line_of line ∷ [])) (d ++ map line_of rest)
    both = moved a d (map line_of rest) (line_of line) apart puts

    new : cond {A = ℕ} (is_some had) 0 1 ≡ 1
    new = ap (λ b. cond b 0 1) (some_of had ∙ ap is_some (found ∙ last_lacks a (map line_of rest) (line_of line) apart))

-- in the end the buckets have all names
pub moves_end : (one buckets : Lines) (left : List Named) → Moves one buckets left → length left ≡ 0 → FindSame one buckets × (length buckets ≡ length one)
moves_end one buckets [] moves none = (λ q. ap (λ es. found_in es q) (sym (append-nil buckets)) ∙ moves.same q, let all = moves.count in omega (arith, all))
moves_end one buckets (line ∷ left) moves none = absurd (omega (arith, none))
