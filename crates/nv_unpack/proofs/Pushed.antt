-- What stands behind the calls that were there.
use Rattle.std.proofs.Common.{◌≡◌, ◌∙◌, Bool, true, false, IsTrue, List, [], ◌∷◌, ◌++◌, map, sym, ap}
use Rattle.std.proofs.lemmas.List.{append_assoc, map-append}
use Rattle.nv_history.specs.declared.calls.Call.{Call}
use Rattle.nv_history.specs.Said.{Said, said}
use Rattle.nv_unpack.specs.Calls.{Adds}

-- one more
pub adds_one : (IsKind : List Said → Type 0) (before after : List Call) (a : Call) → after ≡ before ++ a ∷ [] → IsKind (said a ∷ []) → Adds IsKind before after
adds_one IsKind before after a more is = (said a ∷ [], is, ap (map said) more ∙ map-append said before (a ∷ []))

-- one more, where none came before
pub adds_behind : (IsKind : List Said → Type 0) (before one after : List Call) (a : Call) → one ≡ before → after ≡ one ++ a ∷ [] → IsKind (said a ∷ []) → Adds IsKind before after
adds_behind IsKind before one after a same more is = adds_one IsKind before after a (more ∙ ap (λ (l : List Call). l ++ a ∷ []) same) is

-- two more
pub adds_two : (IsKind : List Said → Type 0) (before one after : List Call) (a b : Call) → one ≡ before ++ a ∷ [] → after ≡ one ++ b ∷ [] → IsKind (said a ∷ said b ∷ []) → Adds IsKind before after
adds_two IsKind before one after a b first second is = (
  said a ∷ said b ∷ [],
  is,
  ap (map said) (second ∙ ap (λ (l : List Call). l ++ b ∷ []) first ∙ append_assoc before (a ∷ []) (b ∷ [])) ∙ map-append said before (a ∷ b ∷ []),
)

-- three more
pub adds_three : (IsKind : List Said → Type 0) (before one two after : List Call) (a b c : Call) → one ≡ before ++ a ∷ [] → two ≡ one ++ b ∷ [] → after ≡ two ++ c ∷ []
    → IsKind (said a ∷ said b ∷ said c ∷ []) → Adds IsKind before after
adds_three IsKind before one two after a b c first second third is = (
  said a ∷ said b ∷ said c ∷ [],
  is,
  ap (map said) (third ∙ ap (λ (l : List Call). l ++ c ∷ []) second ∙ append_assoc one (b ∷ []) (c ∷ []) ∙ ap (λ (l : List Call). l ++ (b ∷ c ∷ [])) first ∙ append_assoc before (a ∷ []) (b ∷ c ∷ []))
      ∙ map-append said before (a ∷ b ∷ c ∷ []),
)

pub off_never : (b : Bool) → b ≡ false → IsTrue b → ⊥
off_never b off on = absurd (let never : true ≡ false = sym on ∙ off in cc)
