-- A journal that is emptied.
use Rattle.std.proofs.Common.{◌≡◌, ◌≤◌, ◌<◌, ◌+◌, ◌*◌, ◌/◌, ℕ, length, sym, ap, ◌∙◌, arith}
use Rattle.std.proofs.lemmas.List.{get_or-set_same}
use Rattle.nv_region.specs.Region.{Region, put}
use Rattle.nv_journal.specs.Undo.{journal, dequeue, enqueue}
use Rattle.nv_journal.specs.Pending.{IsEmpty}
use Rattle.nv_region.proofs.Puts.{put_other}

pub emptied : (R X : Region) (cpu : ℕ) → journal cpu + 4096 ≤ 8 * length R.words → X ≡ put R (journal cpu) (enqueue R cpu) → enqueue R cpu < 252 → IsEmpty X cpu
emptied R X cpu whole is small = (ap (λ (Y : Region). dequeue Y cpu) is ∙ get_or-set_same R.words (journal cpu / 8) (enqueue R cpu) 0 (omega (arith, whole)) ∙ sym same, omega (arith, same, small))
  where
    same : enqueue X cpu ≡ enqueue R cpu
    same = ap (λ (Y : Region). enqueue Y cpu) is ∙ put_other R (journal cpu) (enqueue R cpu) (journal cpu + 8) (λ e. omega (arith, e))
