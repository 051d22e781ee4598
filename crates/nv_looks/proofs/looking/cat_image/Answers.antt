use Rattle.nv_looks.proofs.looking.cat_image.Goals as goal

pub cat_opened-answered-requires : goal.cat_opened-answered-requires
cat_opened-answered-requires g c = (c.args.bytes.now, c.in_ok-opened.ensures)

pub returns-clause-ok : goal.returns-clause-ok
returns-clause-ok g c = c.cat_opened-answered.ensures.ok c.args.bytes.now c.in_ok-opened.ensures

pub returns-clause-err : goal.returns-clause-err
returns-clause-err g c = c.cat_opened-answered.ensures.err c.args.bytes.now c.in_ok-opened.ensures
