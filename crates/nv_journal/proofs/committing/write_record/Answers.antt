use Rattle.nv_region.proofs.RowStores.{row_stores}
use Rattle.nv_journal.proofs.committing.write_record.Goals as goal

pub returns-clause-wrote : goal.returns-clause-wrote
returns-clause-wrote g c = row_stores c.store_words.result _ _ c.args.place _ 2 _ _ c.requires.aligned c.store_words.ensures.stored c.store_words.ensures.may_keep c.store_words.ensures.refused
