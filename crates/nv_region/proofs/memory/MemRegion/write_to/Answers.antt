use Rattle.std.proofs.lemmas.Result.{on_ok_weaker}
use Rattle.nv_region.proofs.Added.{region_written}
use Rattle.nv_region.proofs.memory.MemRegion.write_to.Goals as goal

pub returns : goal.returns
returns g c =
    let region = c.args.self.now.region in
    on_ok_weaker c.write_all.result (λ now. region_written _ _ _ region.words region.rest _ _ c.parts.ensures.words c.parts.ensures.rest c.in_ok-write_words.ensures now) c.write_all.ensures.bytes
