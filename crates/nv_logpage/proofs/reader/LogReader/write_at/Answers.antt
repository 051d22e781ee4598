use Rattle.std.proofs.Common.{◌+◌, ◌≤◌, ℕ, Option, Some, None, IfNone, arith, sym, subst}
use Rattle.std.proofs.lemmas.Option.{IfSome_then}
use Rattle.nv_entry.specs.declared.entry.WriteEntry.{WriteEntry}
use Rattle.nv_logpage.specs.Progress.{gone_to}
use Rattle.nv_logpage.specs.Reads.{found_write}
use Rattle.nv_logpage.proofs.Progress.{continues}
use Rattle.nv_logpage.proofs.Writes.{write_ends, write_found, write_stands}
use Rattle.nv_logpage.proofs.reader.LogReader.write_at.Goals as goal

none_then : {A B : Type 0} (r : Option WriteEntry) → IfNone r A → (A → B) → IfNone r B
none_then None h f = f h
none_then (Some e) h f = tt

pub returns-then-end-at-clause-none : goal.returns-then-end-at-clause-none
returns-then-end-at-clause-none g c e found =
    let ends = subst (λ (n : ℕ). c.args.at + 40 ≤ n) (sym c.requires.place.end_is) (write_ends (g.P.Pmem.region c.args.memory.now) c.args.self.now.sup c.args.self.now.tail c.args.self.now.pages c.args.at e found) in
    absurd (omega (arith, ends, c.if-end-at.true))

pub returns-clause-finds : goal.returns-clause-finds
returns-clause-finds g c =
    let fits = subst (λ (n : ℕ). c.args.at + 40 ≤ n) c.requires.place.end_is c.if-end-at.false in
    IfSome_then c.read_write.result c.read_write.ensures.found (λ e h. write_found (g.P.Pmem.region c.args.memory.now) c.args.self.now.sup c.args.self.now.tail c.args.self.now.pages c.args.at e fits h.0)

pub returns-clause-none : goal.returns-clause-none
returns-clause-none g c =
    none_then c.read_write.result c.read_write.ensures.none (λ none e found. none e (write_stands (g.P.Pmem.region c.args.memory.now) c.args.self.now.sup c.args.self.now.tail c.args.self.now.pages c.args.at e found) (omega arith))

pub returns-clause-leads : goal.returns-clause-leads
returns-clause-leads g c head es leads =
    IfSome_then c.read_write.result (returns-clause-finds g c) (λ e found. continues (g.P.Pmem.region c.args.memory.now) head (gone_to c.args.self.now c.args.at) es (found_write c.args.at e) found leads)
