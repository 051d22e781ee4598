use Rattle.nv_looks.proofs.gathered.look_at_numbers.Goals as goal

pub returns : goal.returns
returns c R are = c.numbers_in-look.ensures c.args.gathered R c.in_ok-opened.ensures are
