use Rattle.nv_names.proofs.fresh.is_other.Goals as goal

pub returns : goal.returns
returns c = cc
