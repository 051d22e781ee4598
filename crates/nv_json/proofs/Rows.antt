-- One inode more.
use Rattle.std.proofs.Common.{List, [], ◌∷◌, ◌++◌, refl, ap}
use Rattle.serde_json.specs.Data.{Data}
use Rattle.nv_scan.specs.declared.piece.Row.{Row}
use Rattle.nv_json.specs.Json.{IsRow, AreRows}

pub adds_row : (rows : List Row) (ds : List Data) (row : Row) (d : Data) → AreRows rows ds → IsRow row d → AreRows (rows ++ row ∷ []) (ds ++ d ∷ [])
adds_row [] ds row d are is = (d, [], is, refl, ap (λ (xs : List Data). xs ++ d ∷ []) are)
adds_row (r ∷ rows) ds row d (first, rest, shown, others, whole) is =
    (first, rest ++ d ∷ [], shown, adds_row rows rest row d others is, ap (λ (xs : List Data). xs ++ d ∷ []) whole)
