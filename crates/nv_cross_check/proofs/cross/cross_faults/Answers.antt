use Rattle.std.proofs.lemmas.Result.{IfOk-weaker}
use Rattle.nv_super.specs.declared.faults.Fault.{Fault}
use Rattle.nv_super.specs.Order.{Lists, fault_key}
use Rattle.std.specs.declared.vec.Vec.{Vec}
use Rattle.std.specs.declared.alloc.Global.{Global}
use Rattle.nv_cross_check.specs.Cross.{IsCrossFaultIn}
use Rattle.nv_cross_check.specs.Listings.{IsFault}
use Rattle.nv_cross_check.proofs.CrossRows.{cross_listed}
use Rattle.nv_cross_check.proofs.cross.cross_faults.Goals as goal

pub returns : goal.returns
returns c =
    let listings = c.in_ok-tables.tables.listings in
    IfOk-weaker c.sorted_faults.result (λ (found : Vec Fault Global). Lists fault_key (IsFault listings) found.items) (λ (found : Vec Fault Global). Lists fault_key (IsCrossFaultIn c.args.rows.now.items) found.items)
    (λ found l. cross_listed _ c.args.rows.now.items listings c.in_ok-tables.ensures.listings c.requires found.items l) c.sorted_faults.ensures
