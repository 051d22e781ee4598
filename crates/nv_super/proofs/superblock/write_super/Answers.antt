use Rattle.std.proofs.Common.{refl}
use Rattle.nv_region.proofs.RowStores.{row_stores}
use Rattle.nv_super.proofs.superblock.write_super.Goals as goal

pub returns-clause-wrote : goal.returns-clause-wrote
returns-clause-wrote g c = row_stores c.store_words.result _ _ 8 _ 5 _ _ refl c.store_words.ensures.stored c.store_words.ensures.may_keep c.store_words.ensures.refused
