use Rattle.std.proofs.lemmas.Result.{on_ok_weaker}
use Rattle.nv_region.proofs.RowStores.{row_stores}
use Rattle.nv_entry.proofs.Rows.{words_held, others_stay}
use Rattle.nv_entry.proofs.writing.store_words.Goals as goal

pub returns-clause-held : goal.returns-clause-held
returns-clause-held g c = on_ok_weaker c.store_words.result (words_held _ _ c.args.at c.args.words.now c.requires.aligned c.requires.inside c.len-length.ensures.short) c.store_words.ensures.stored

pub returns-clause-rest : goal.returns-clause-rest
returns-clause-rest g c =
    others_stay _ _ c.args.at _ (row_stores c.store_words.result _ _ c.args.at _ _ _ _ c.requires.aligned c.store_words.ensures.stored c.store_words.ensures.may_keep c.store_words.ensures.refused).mixed

pub returns-clause-wrote : goal.returns-clause-wrote
returns-clause-wrote g c =
    row_stores c.store_words.result _ _ c.args.at _ _ _ _ c.requires.aligned c.store_words.ensures.stored c.store_words.ensures.may_keep c.store_words.ensures.refused
