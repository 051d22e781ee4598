use Rattle.nv_region.proofs.RowStores.{row_stores}
use Rattle.nv_format.proofs.formatting.write_root_entry.Goals as goal

pub returns-clause-wrote : goal.returns-clause-wrote
returns-clause-wrote g c = row_stores c.store_words.result _ _ c.args.at _ 4 _ _ c.requires.aligned c.store_words.ensures.stored c.store_words.ensures.may_keep c.store_words.ensures.refused
