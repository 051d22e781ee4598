use Rattle.std.proofs.Common.{sym, arith}
use Rattle.std.proofs.lemmas.Nat.{div-add-mod'}
use Rattle.nv_radix.proofs.row.split.Goals as goal

pub returns-clause-whole : goal.returns-clause-whole
returns-clause-whole g c = rw (c.PAGES.ensures, c.PAGES-2.ensures, g.met.N.Child.spans) (sym (div-add-mod' c.args.page g.N.Node.span))

pub returns-clause-low : goal.returns-clause-low
returns-clause-low g c = rw (c.PAGES-2.ensures, g.met.N.Child.spans) (omega (arith, g.met.N.Node.some))
