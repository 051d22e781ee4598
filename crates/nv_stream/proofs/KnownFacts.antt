-- A fact that follows from another, where the bytes are known.
use Rattle.std.specs.Prelude.{ℕ, List, Option, Some, None}
use Rattle.nv_stream.specs.Known.{IfKnown}

pub known_map : (a b : Option (List ℕ)) (P Q : List ℕ → List ℕ → Type 0) → ((x y : List ℕ) → P x y → Q x y) → IfKnown a b P → IfKnown a b Q
known_map None b P Q f p = tt
known_map (Some x) None P Q f p = absurd p
known_map (Some x) (Some y) P Q f p = f x y p
