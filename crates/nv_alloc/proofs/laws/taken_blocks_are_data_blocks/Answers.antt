use Rattle.nv_alloc.proofs.Sound.{data_block}
use Rattle.nv_alloc.proofs.laws.taken_blocks_are_data_blocks.Goals as goal

pub returns : goal.returns
returns c = λ old new n runs b sound leave has.
    let free = leave.free b has in
    let lies = data_block old sound free.0 b free.1 in
    (lies.0, lies.1, λ cpu still. leave.gone cpu b still has)
