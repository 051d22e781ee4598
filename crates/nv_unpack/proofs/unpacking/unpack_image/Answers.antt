use Rattle.std.proofs.Common.{inl, IsTrue, subst, sym}
use Rattle.std.proofs.lemmas.Result.{IfOk-weaker}
use Rattle.nv_region.specs.Region.{Region}
use Rattle.nv_region.specs.RegionState.{RegionState, is_steady}
use Rattle.nv_outcome.specs.Answer.{outcome_of}
use Rattle.nv_script.specs.Cleaning.{IsOpenedAs}
use Rattle.nv_script.proofs.CleanedImage.{can_open, opened_as, steady_off}
use Rattle.nv_unpack.proofs.Made.{by_outcome}
use Rattle.nv_unpack.proofs.unpacking.unpack_image.Goals as goal

pub recover_alone-requires : goal.recover_alone-requires
recover_alone-requires c = record { taken = inl (steady_off c.keep_all-memory.result c.keep_all-memory.ensures.fuse) }

pub open-requires : goal.open-requires
open-requires c =
    let can = can_open c.keep_all-memory.result.region c.recover_alone.new.memory.region c.in_ok-answer.answer c.in-Recovered.recovered c.in_ok-answer.ensures.ok c.in_ok-answer.ensures.lists c.in-Recovered.is in
    record { outcome = can.0; lists = can.2; own = can.1; numbers = can.3; tables = can.4; settled = c.in_ok-answer.ensures.settled c.keep_all-memory.ensures.settled }

pub unpack_mount-requires : goal.unpack_mount-requires
unpack_mount-requires c =
    let fuse = c.in_ok-answer.ensures.keeps_fuse in
    record {
      runs = c.open.ensures.stopped;
      steady = subst (λ (m : RegionState). IsTrue (is_steady m)) (sym c.open.ensures.memory) (fuse.steady (steady_off c.keep_all-memory.result c.keep_all-memory.ensures.fuse));
    }

pub returns-in-Recovered : goal.returns-in-Recovered
returns-in-Recovered c =
    let opens = c.open.ensures in
    let can = can_open c.keep_all-memory.result.region c.recover_alone.new.memory.region c.in_ok-answer.answer c.in-Recovered.recovered c.in_ok-answer.ensures.ok c.in_ok-answer.ensures.lists c.in-Recovered.is in
    let R : Region = c.args.memory.region in
    let o = outcome_of c.in-Recovered.recovered in
    let is = subst (λ (R : Region). IsOpenedAs R o c.open.result) c.keep_all-memory.ensures.region
    (opened_as c.keep_all-memory.result.region c.recover_alone.new.memory.region c.in_ok-answer.answer c.in-Recovered.recovered c.open.result c.in_ok-answer.ensures.ok c.in-Recovered.is (λ i. (opens.memory i).region) opens.sup opens.layout can.4 opens.rows opens.read_only) in
    IfOk-weaker c.unpack_mount.result _ _ (λ x came. by_outcome R o c.args.base.now c.args.items.now c.args.maker is.is x came) (c.unpack_mount.ensures R o is)
