use Rattle.std.proofs.Common.{◌++◌, ◌∙◌, rules}
use Rattle.std.specs.Slice.Iter.{chunks_rest}
use Rattle.std.specs.List.{flat_map}
use Rattle.byteorder.specs.Endian.{little_bytes}
use Rattle.nv_region.proofs.Added.{words_written, words_left, all_written}
use Rattle.nv_region.proofs.pieces.write_words.Goals as goal

pub loop-some-preserved : goal.loop-some-preserved
loop-some-preserved g c =
    let (next, finite, size, done, so_far, before) = c.loop-some.invariant in
    let steps = c.in-Some.ensures.steps in
    let some = c.in-Some.some.now in (
      search rules,
      tt,
      steps.0 ∙ size,
      done ++ flat_map (little_bytes 8) some,
      words_left c.args.words.now _ some (chunks_rest c.next.new.self) done steps.1.0 so_far,
      words_written _ _ _ done some c.clear.new.self.items _ c.clear.ensures.items (c.deref.ensures.value ∙ c.in_ok-push_bytes.ensures) before c.in_ok-write_all.ensures.bytes,
    )

pub returns : goal.returns
returns g c =
    let (next, finite, size, done, so_far, before) = c.loop-some.invariant in
    all_written _ _ c.args.words.now _ done c.in-None.ensures.steps.1.0 so_far before
