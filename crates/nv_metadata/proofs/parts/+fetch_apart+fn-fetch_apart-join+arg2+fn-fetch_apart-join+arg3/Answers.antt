use Rattle.std.proofs.Common.{◌≡◌, ◌∙◌, List, Ok, Some, ℕ, take, subst, sym, ap}
use Rattle.std.proofs.lemmas.Result.{err_from_is_err_and}
use Rattle.nv_region.specs.Region.{region_of}
use Rattle.nv_metadata.specs.Blocks.{AreBytesAt}
use Rattle.nv_metadata.specs.Parts.{HasFetched, IsPart}
use Rattle.nv_metadata.specs.declared.logs.LogEnds.{LogEnds}
use Rattle.nv_metadata.proofs.Joined.{fetched_both, linked_inside, part_failed}
use Rattle.nv_metadata.proofs.Ready.{read_first}
use Rattle.nv_metadata.proofs.parts.+fetch_apart+fn-fetch_apart-join+arg2+fn-fetch_apart-join+arg3.Goals as goal

pub returns-in_err-hold_all : goal.returns-in_err-hold_all
returns-in_err-hold_all g t c =
    let error = err_from_is_err_and c.from_residual-in_err-hold_all.result c.from_residual-in_err-hold_all.ensures.1 in
    part_failed _ _ _ _ c.from_residual-in_err-hold_all.result error.0 error.1 (λ image known long. error.2)

pub returns : goal.returns
returns g t c =
    let s = c.args.sup.now in
    let known : List ℕ → Type 0 = λ image. g.B.Blocks.bytes c.args.source.now ≡ Some image in
    let here = c.halves.result.0.now in
    let more = c.halves.result.1.now in
    let alone = c.in_ok-alone.alone.items in
    let left : IsPart known s c.args.front.items here (Ok c.in_ok-memory.memory) = subst (IsPart known s c.args.front.items here) c.in_ok-memory.was c.join-left.ensures.first in
    let right : IsPart known s alone more (Ok c.in_ok-other.other) = subst (IsPart known s alone more) c.in_ok-other.was c.join-left.ensures.second in
    record {
      can = c.hold_all.ensures.can;
      opens = (c.hold_all.ensures.front.0 ∙ left.opens.0, c.hold_all.ensures.front.1 ∙ left.opens.1);
      fetched = λ image is long are. (
          let R = region_of image in
          let begins : AreBytesAt image 0 alone = subst (λ (l : List ℕ). AreBytesAt image 0 l) (sym (c.in_ok-alone.ensures.bytes ∙ ap (take 4096) c.deref.ensures.value)) (read_first image c.args.front.items 4096 are c.requires.front.begins) in
          subst (λ (l : List LogEnds). HasFetched s R l c.hold_all.new.memory) c.halves.ensures.all
          (fetched_both s R here more c.in_ok-memory.memory c.in_ok-other.other c.hold_all.new.memory (λ log b has linked. linked_inside R s log.head log.tail b (c.halves.ensures.second log has) linked)
          (left.fetched image is long are) (right.fetched image is long begins) c.in_ok-hold_all.ensures.joined));
      known = λ image is long. tt;
    }
