use Rattle.std.proofs.Common.{◌+◌, arith}
use Rattle.nv_region.proofs.RowStores.{row_stores}
use Rattle.nv_inode.proofs.words.store_slot.Goals as goal

pub returns-clause-wrote : goal.returns-clause-wrote
returns-clause-wrote g c = row_stores c.store_words.result _ _ (c.args.at + 8) _ 4 _ _ (omega (arith, c.requires.whole)) c.store_words.ensures.stored c.store_words.ensures.may_keep c.store_words.ensures.refused
