use Rattle.std.proofs.Common.{◌≡◌, ℕ, ◌≤◌, List, sym, ap, ◌∙◌, subst}
use Rattle.std.proofs.lemmas.Result.{err_from_is_err_and}
use Rattle.std.proofs.Math.Nat.{le_of_eq}
use Rattle.nv_names.specs.Names.{Names, name_at}
use Rattle.nv_names.specs.Table.{names_held}
use Rattle.nv_names.proofs.index.NameIndex.reserve.Goals as goal

pub returns-in_err-reserve-in-None-clause-names : goal.returns-in_err-reserve-in-None-clause-names
returns-in_err-reserve-in-None-clause-names c = λ q. ap (λ (n : Names). name_at n q) c.self.view_is

pub returns-in_err-reserve-in-None-clause-ready : goal.returns-in_err-reserve-in-None-clause-ready
returns-in_err-reserve-in-None-clause-ready c = let w = err_from_is_err_and c.from_residual.result c.from_residual.ensures.1 in rw w.1 tt

pub returns-in_err-reserve-in-None-clause-room : goal.returns-in_err-reserve-in-None-clause-room
returns-in_err-reserve-in-None-clause-room c = le_of_eq (sym (ap (λ (n : Names). n.room) c.self.view_is))

pub returns-in_err-new-in-None-clause-names : goal.returns-in_err-new-in-None-clause-names
returns-in_err-new-in-None-clause-names c = λ q. ap (λ (n : Names). name_at n q) c.self.view_is

pub returns-in_err-new-in-None-clause-ready : goal.returns-in_err-new-in-None-clause-ready
returns-in_err-new-in-None-clause-ready c = let w = err_from_is_err_and c.from_residual-in_err-new-in-None.result c.from_residual-in_err-new-in-None.ensures.1 in rw w.1 tt

pub returns-in_err-new-in-None-clause-room : goal.returns-in_err-new-in-None-clause-room
returns-in_err-new-in-None-clause-room c = le_of_eq (sym (ap (λ (n : Names). n.room) c.self.view_is))

pub returns-in-Some-clause-names : goal.returns-in-Some-clause-names
returns-in-Some-clause-names c = subst (λ (n : Names). (q : List ℕ) → name_at c.reserve.new.self q ≡ name_at n q) (c.deref_mut.ensures.value ∙ (ap names_held (sym c.in-Some.is) ∙ c.self.view_is)) c.reserve.ensures.names

pub returns-in-Some-clause-room : goal.returns-in-Some-clause-room
returns-in-Some-clause-room c = subst (λ (n : Names). n.room ≤ c.reserve.new.self.room) (c.deref_mut.ensures.value ∙ (ap names_held (sym c.in-Some.is) ∙ c.self.view_is)) c.reserve.ensures.room

pub returns-in-Some-clause-ready : goal.returns-in-Some-clause-ready
returns-in-Some-clause-ready c = c.reserve.ensures.ready
