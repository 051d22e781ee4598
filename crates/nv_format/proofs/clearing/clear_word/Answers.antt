use Rattle.nv_region.proofs.Wordwise.{stored_only}
use Rattle.nv_format.proofs.clearing.clear_word.Goals as goal

pub returns-clause-wrote : goal.returns-clause-wrote
returns-clause-wrote g c = stored_only c.store_word.result _ _ c.args.at 0 _ _ c.requires.aligned c.store_word.ensures.stored c.store_word.ensures.refused c.store_word.ensures.may_keep
