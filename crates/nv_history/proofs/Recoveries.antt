-- However often recoveries are stopped and begun again, they find the same.
use Rattle.std.proofs.Common.{◌≡◌, List, refl, ◌∙◌, subst}
use Rattle.nv_region.specs.Region.{Region}
use Rattle.nv_super.specs.declared.superblock.Super.{Super}
use Rattle.nv_super.specs.declared.owners.Run.{Run}
use Rattle.nv_super.specs.Super.{IsSuper}
use Rattle.nv_super.specs.Layout.{Layout}
use Rattle.nv_journal.specs.Undo.{undone}
use Rattle.nv_scan.specs.declared.piece.Row.{Row}
use Rattle.nv_outcome.proofs.SuperOf.{one_super}
use Rattle.nv_calls.specs.Stopped.{RecoversTo}
use Rattle.nv_calls.proofs.Recoveries.{later_same}
use Rattle.nv_history.specs.Stopping.{AlwaysRecoversTo, StoppedRecoveries, none, again}

-- the superblock stays, and the journals roll back to the same region
pub undoes_same : {left next : Region} → StoppedRecoveries left next → (s : Super) → IsSuper left s → IsSuper next s × (undone s next ≡ undone s left)
undoes_same none s is = (is, refl)
undoes_same (again mid next before step) s is =
    let so_far = undoes_same before s is in
    let one : step.0 ≡ s = one_super mid s step.0 so_far.0 step.1 in
    (subst (λ (t : Super). IsSuper next t) one step.2, subst (λ (t : Super). undone t next ≡ undone t mid) one step.3 ∙ so_far.1)

pub always : (left : Region) (l : Layout) (rows : List Row) (free : List (List Run)) → RecoversTo left l rows free → AlwaysRecoversTo left l rows free
always left l rows free found = record {
  first = found;
  sup = λ next stops. (undoes_same stops l.sup found.sup).0;
  undoes = λ next stops. (undoes_same stops l.sup found.sup).1;
  finds = λ next o stops is. (let same = undoes_same stops l.sup found.sup in later_same found same.0 same.1 o is);
}
