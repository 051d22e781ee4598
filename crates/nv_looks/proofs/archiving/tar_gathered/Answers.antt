use Rattle.nv_looks.proofs.archiving.tar_gathered.Goals as goal

pub tar_opened-answered-requires : goal.tar_opened-answered-requires
tar_opened-answered-requires g c = (c.args.gathered, c.in_ok-opened.ensures)

pub returns-clause-ok : goal.returns-clause-ok
returns-clause-ok g c bytes known are = c.tar_opened-answered.ensures.ok c.args.gathered bytes c.in_ok-opened.ensures c.is_whole-whole.ensures known are

pub returns-clause-err : goal.returns-clause-err
returns-clause-err g c bytes known are = c.tar_opened-answered.ensures.err c.args.gathered bytes c.in_ok-opened.ensures c.is_whole-whole.ensures known are
