use Rattle.nv_looks.proofs.gathered.look_at_names.Goals as goal

pub returns : goal.returns
returns c R are = c.names_in-look.ensures c.args.gathered R c.in_ok-opened.ensures are
