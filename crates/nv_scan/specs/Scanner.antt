-- What every scanner keeps.
use Rattle.std.specs.Prelude.{◌≡◌}
use Rattle.std.specs.Option.{IfSome}
use Rattle.nv_super.specs.Layout.{IsLayout}
use Rattle.nv_scan.specs.declared.scan.Scanner.TheInside.{Inside}

-- its reader, once there is one, is of the same region
pub record IsScanner (s : Inside) : Type 0 where
  pub layout : IsLayout s.sup
  pub reader : IfSome s.reader (λ r. r.sup ≡ s.sup)
