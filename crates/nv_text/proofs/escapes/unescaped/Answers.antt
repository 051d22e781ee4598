use Rattle.std.proofs.Common.{◌≡◌, ℕ, List, Some, ap, sym, subst}
use Rattle.nv_text.specs.Escapes.{SpellsName, AreBytes}
use Rattle.nv_text.specs.Names.{escaped}
use Rattle.nv_text.proofs.Spellings.{reads_byte, reads_all, reads_refused, name_one, printed_spells, is_none, is_some}
use Rattle.nv_text.proofs.escapes.unescaped.Goals as goal

-- the text in which a name is printed spells it
printed : (text name : List ℕ) → AreBytes name → text ≡ escaped name → SpellsName text name
printed text name bytes is = subst (λ (x : List ℕ). SpellsName x name) (sym is) (printed_spells name bytes)

pub loop-rest-preserved : goal.loop-rest-preserved
loop-rest-preserved c =
    rw c.in_ok-push.ensures.items (reads_byte c.args.text.now c.loop-rest.name.items c.loop-rest.rest.now c.in-Some.byte c.in-Some.behind.now c.loop-rest.invariant c.in-Some.ensures.found)

pub returns-clause-found : goal.returns-clause-found
returns-clause-found c =
    reads_all c.args.text.now c.loop-rest.name.items c.loop-rest.rest.now c.loop-rest.invariant (is_none c.loop-rest.rest.now c.is_empty.result c.is_empty.ensures c.loop-rest-test.false)

pub returns-clause-only : goal.returns-clause-only
returns-clause-only c name spells = ap Some (name_one c.args.text.now c.loop-rest.name.items name (returns-clause-found c) spells)

pub returns-clause-printed : goal.returns-clause-printed
returns-clause-printed c name bytes is = returns-clause-only c name (printed c.args.text.now name bytes is)

pub returns-in_default-clause-only : goal.returns-in_default-clause-only
returns-in_default-clause-only c name spells =
    absurd (reads_refused c.args.text.now c.loop-rest.name.items c.loop-rest.rest.now c.loop-rest.invariant (is_some c.loop-rest.rest.now c.is_empty.result c.is_empty.ensures c.loop-rest-test.true) c.in_default.ensures.none name spells)

pub returns-in_default-clause-printed : goal.returns-in_default-clause-printed
returns-in_default-clause-printed c name bytes is = returns-in_default-clause-only c name (printed c.args.text.now name bytes is)
