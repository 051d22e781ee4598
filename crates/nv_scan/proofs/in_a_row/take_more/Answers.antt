use Rattle.nv_scan.proofs.in_a_row.take_more.Goals as goal

pub returns-clause-read : goal.returns-clause-read
returns-clause-read g c = λ head i created so_far. c.take_row.ensures.read head i created (c.take_pages-at.ensures.read head i created so_far)
