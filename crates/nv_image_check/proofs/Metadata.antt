-- A check of what was gathered of a region is a check of the region.
use Rattle.std.proofs.Common.{◌≡◌, ◌⊎◌, inl, inr, ◌*◌, ◌≤◌, ℕ, Bool, true, false, IsTrue, List, sym, subst, arith}
use Rattle.std.specs.Prelude.{MatchBool, Option, codes}
use Rattle.nv_region.specs.Region.{Region, region_of}
use Rattle.nv_region.specs.Fuses.{KeepsFuse}
use Rattle.nv_region.specs.ImageState.{ImageState, fuse_state, is_open_to}
use Rattle.nv_super.specs.declared.superblock.Super.{Super}
use Rattle.nv_super.specs.Super.{IsSuper}
use Rattle.nv_journal.specs.Permitted.{slots_end}
use Rattle.nv_outcome.proofs.SuperOf.{one_super}
use Rattle.nv_metadata.specs.Memory.{MetadataState, IsReady}
use Rattle.nv_metadata.specs.Gathered.{IsGathered}
use Rattle.nv_metadata.proofs.Same.{gathered_super, whole_outcome}
use Rattle.nv_recover.specs.Behind.{BehindSlots}
use Rattle.nv_stream.specs.Streams.{AppendsFront}
use Rattle.nv_stream.specs.declared.fault.ScriptError.{ScriptError}
use Rattle.nv_stream.specs.declared.fault.ScriptError.TheVariants.{Write}
use Rattle.nv_image_check.specs.Answering.{IsOpenInFront}
use Rattle.nv_text.specs.declared.output.Output.{Output}
use Rattle.nv_image_check.specs.Workers.{is_worker_count}
use Rattle.nv_image_check.specs.Checking.{IsRefusal, IsSuperRefusal, IsOutput, IsCheckAs, FailsCheckAs}

-- up to its front a memory takes stores while no fuse has burnt
open_front : (m : ImageState) (n : ℕ) → m.front ≡ n → m.burnt ≡ false → IsTrue (is_open_to m n)
open_front m n front unburnt = grind arith

-- the memory takes each store to a block in which slots can stand
pub ready_open : (s : Super) (m : MetadataState) → IsReady s m → IsOpenInFront m.memory.region (is_open_to m.memory)
ready_open s m ready t is =
    let same : t ≡ s = one_super m.memory.region s t ready.superblock is in
    subst (λ (x : Super). IsTrue (is_open_to m.memory (4096 * slots_end x))) (sym same) (open_front m.memory (4096 * slots_end s) ready.front ready.unburnt)

-- and so it does behind a recovery
pub still_open : (s : Super) (old new : MetadataState) → IsReady s old → KeepsFuse (BehindSlots old.memory.region) (fuse_state old.memory) (fuse_state new.memory) → IsOpenInFront old.memory.region (is_open_to new.memory)
still_open s old new ready keeps t is =
    keeps.stays_open (4096 * slots_end t) (λ u other. subst (λ (x : Super). 4096 * slots_end x ≤ 4096 * slots_end t) (sym (one_super old.memory.region t u is other)) (at_least (4096 * slots_end t))) (ready_open s old ready t is)
  where
    at_least : (n : ℕ) → n ≤ n
    at_least n = omega arith

-- by the outcome, which is the same
module _ (s : Super) (R S : Region) (is : IsSuper R s) (g : IsGathered s R S) (output : Output) (text : List ℕ) (status : ℕ) where
  output_of_whole : IsSuperRefusal S text status ⊎ IsOutput output S text status → IsSuperRefusal R text status ⊎ IsOutput output R text status
  output_of_whole (inl refused) = absurd ((gathered_super s R S is g).sound refused.0 refused.1.applies)
  output_of_whole (inr o) = inr (o.0, whole_outcome s R S is g o.0 (one_super S s o.0.sup (gathered_super s R S is g) o.1.sup) o.1, o.2, o.3)

  pub check_of_whole : (workers : ℕ) → IsCheckAs output S workers text status → IsCheckAs output R workers text status
  check_of_whole workers h = by_count (is_worker_count workers) h where
    by_count : (b : Bool) → MatchBool b (IsSuperRefusal S text status ⊎ IsOutput output S text status) (IsRefusal (codes "Workers") text status)
        → MatchBool b (IsSuperRefusal R text status ⊎ IsOutput output R text status) (IsRefusal (codes "Workers") text status)
    by_count true h = output_of_whole h
    by_count false h = h

-- a front of its text was written where the writer failed
pub write_fails : (output : Output) (bytes : List ℕ) (workers : ℕ) (text : List ℕ) (status : ℕ) (e : ScriptError) (old new : Option (List ℕ)) → IsCheckAs output (region_of bytes) workers text status
    → (e ≡ Write) × AppendsFront old new text → FailsCheckAs output bytes workers e old new
write_fails output bytes workers text status e old new checked failed = subst (λ (x : ScriptError). FailsCheckAs output bytes workers x old new) (sym failed.0) (text, status, checked, failed.1)
