use Rattle.std.proofs.Common.{◌≡◌, Some, None, sym, ap, subst, refl, ◌∙◌}
use Rattle.std.specs.Option.{option_map, option_copied}
use Rattle.nv_graph.specs.Read.{row_of}
use Rattle.nv_paths.specs.Seen.{node_of}
use Rattle.nv_rows.proofs.Places.{numbered}
use Rattle.nv_calls.specs.Mount.{Mount}
use Rattle.nv_calls.proofs.RowChange.{row_there}
use Rattle.nv_calls.proofs.fs.Fs.row_of.Goals as goal

pub returns-in-Some-clause-row : goal.returns-in-Some-clause-row
returns-in-Some-clause-row g c =
    ap (option_map (node_of (g.P.Pmem.region c.args.self.now.memory))) (subst (λ (m : Mount g.row.P.Denot). row_of m.rows c.args.inode ≡ Some c.in-Some.row.now) c.self.view_is (sym c.get.ensures ∙ ap option_copied c.in-Some.is))

pub returns-in-Some-clause-number : goal.returns-in-Some-clause-number
returns-in-Some-clause-number g c =
    numbered c.args.self.now.rows c.args.inode c.in-Some.row.now (subst (λ (m : Mount g.row.P.Denot). row_of m.rows c.args.inode ≡ Some c.in-Some.row.now) c.self.view_is (sym c.get.ensures ∙ ap option_copied c.in-Some.is))

pub returns-in-Some-clause-held : goal.returns-in-Some-clause-held
returns-in-Some-clause-held g c =
    row_there c.args.self.now.rows c.args.inode c.in-Some.row.now (subst (λ (m : Mount g.row.P.Denot). row_of m.rows c.args.inode ≡ Some c.in-Some.row.now) c.self.view_is (sym c.get.ensures ∙ ap option_copied c.in-Some.is))

pub returns-in-None-clause-refused : goal.returns-in-None-clause-refused
returns-in-None-clause-refused g c runs = (
  refl,
  ap (option_map (node_of (g.P.Pmem.region c.args.self.now.memory))) (subst (λ (m : Mount g.row.P.Denot). row_of m.rows c.args.inode ≡ None) c.self.view_is (sym c.get.ensures ∙ ap option_copied c.in-None.is)),
)
