use Rattle.std.proofs.Common.{◌≡◌, ℕ, ◌+◌, ◌<◌, ◌≤◌, ◌^◌, cond, refl, Some, is_some, length, ap, sym, subst, ◌∙◌, arith}
use Rattle.std.proofs.lemmas.List.Elements.{recursion_from_All}
use Rattle.std.proofs.lemmas.Result.{IfOk-weaker, on_err_weaker, err_from_is_err_and}
use Rattle.std.proofs.Math.Nat.{le_of_eq}
use mathlib.Core.Bool.{Bool}
use Rattle.nv_names.specs.Names.{inode_and_place, found_in}
use Rattle.nv_names.specs.Bucket.{IsBucket, lines_of}
use Rattle.nv_names.proofs.First.{key_found}
use Rattle.nv_names.proofs.Keeping.{Changes, Puts, full_puts, full_more, put_keyed, new_put, new_had, new_more, again_put, again_had, again_more, other_puts, other_had, other_more, no_other_more, one_more, no_more}
use Rattle.nv_names.proofs.bucket.Bucket.put_by_key.Goals as goal

-- a word counts the names before, and one more
few : (n m first others more : ℕ) → n + m < 9223372036854775807 → n ≡ first → m ≡ others → more ≤ others + 1 → first + more < 2 ^ 63
few n m first others more room a b c = omega arith

few_first : (n m first others more less : ℕ) → n + m < 9223372036854775807 → n ≡ first → m ≡ others → more ≤ first + 1 → less ≤ others → more + less < 2 ^ 63
few_first n m first others more less room a b c d = omega arith

less_or_same : (n m : ℕ) (b : Bool) → n + cond b 1 0 ≡ m → n ≤ m
less_or_same n m b e = omega (arith, e)

-- the arms that put the name among the others, where so many stand by their keys
full : (c : goal.After-put_other) → Puts c.put_other.result c.self.inside.first.entries c.self.inside.first.entries c.self.inside.others.entries c.put_other.new.others.entries c.args.name.now (Some (inode_and_place c.args.target))
full c =
    let room = c.if-len-ge-MOST.false in let first = c.len.ensures.len in let others = c.len-2.ensures.len in let more = c.put_other.ensures.len in
    full_puts c.put_other.result c.self.inside.first.entries c.self.inside.others.entries c.put_other.new.others.entries c.args.key c.args.name.now (Some (inode_and_place c.args.target)) c.self.invariant c.requires (c.takes.ensures c.if-not-takes.true)
    (few _ _ _ _ _ room first others more) c.put_other.ensures.ok c.put_other.ensures.err

-- where the key is new
fresh : (c : goal.After-take_other) → Changes c.self.inside.first.entries c.insert.new.self.entries c.self.inside.others.entries c.take_other.new.others.entries c.args.name.now (Some (inode_and_place c.args.target))
fresh c =
    let more = one_more _ _ _ c.in_ok-insert.ensures.len in let room = c.if-len-ge-MOST.false in let first = c.len.ensures.len in let others = c.len-2.ensures.len in let less = c.take_other.ensures.len in
    new_put _ c.self.inside.first.entries c.insert.new.self.entries c.self.inside.others.entries c.take_other.new.others.entries c.args.key c.args.name.now c.in_ok-held.held (inode_and_place c.args.target) c.self.invariant c.requires c.in_ok-held.ensures
    (sym c.in-None.is ∙ c.in_ok-insert.ensures.old) c.in_ok-insert.ensures.entries c.insert.ensures.unique c.in_ok-insert.ensures.updates.0 c.take_other.ensures.names
    (few_first _ _ _ _ _ _ room first others more (less_or_same _ _ _ less))

-- where the key had the name already
again : (c : goal.Joined-before) → Changes c.self.inside.first.entries c.insert.new.self.entries c.self.inside.others.entries c.self.inside.others.entries c.args.name.now (Some (inode_and_place c.args.target))
again c =
    let more = one_more _ _ _ c.in_ok-insert.ensures.len in let room = c.if-len-ge-MOST.false in let first = c.len.ensures.len in let others = c.len-2.ensures.len in
    again_put _ c.self.inside.first.entries c.insert.new.self.entries c.self.inside.others.entries c.args.key c.args.name.now c.in_ok-held.held c.in-Some.before (inode_and_place c.args.target) c.self.invariant c.requires c.in_ok-held.ensures
    (sym c.in-Some.is ∙ c.in_ok-insert.ensures.old) (sym c.is_of.ensures ∙ c.if-is_of.true) c.in_ok-insert.ensures.entries c.insert.ensures.unique c.in_ok-insert.ensures.updates.0
    (few_first _ _ _ _ _ _ room first others more (le_of_eq refl))

-- where another name has the key
other : (c : goal.After-put_other-in-Some) → Puts c.put_other-in-Some.result c.self.inside.first.entries c.put_back.new.first.entries c.self.inside.others.entries c.put_other-in-Some.new.others.entries c.args.name.now (Some (inode_and_place c.args.target))
other c =
    let same = no_more _ _ _ (ap is_some c.in-Some.is) c.in_ok-insert.ensures.len in let back = c.put_back.ensures.len in let room = c.if-len-ge-MOST.false in let first = c.len.ensures.len in let others = c.len-2.ensures.len in let more = c.put_other-in-Some.ensures.len in
    other_puts c.put_other-in-Some.result c.self.inside.first.entries c.insert.new.self.entries c.put_back.new.first.entries c.self.inside.others.entries c.put_other-in-Some.new.others.entries c.args.key c.args.name.now c.in_ok-held.held c.in-Some.before (Some (inode_and_place c.args.target)) c.self.invariant c.requires
    (sym c.in-Some.is ∙ c.in_ok-insert.ensures.old) (sym c.is_of.ensures ∙ c.if-is_of.false) c.put_back.ensures.keyed c.put_back.ensures.once c.in_ok-insert.ensures.updates.0 c.put_back.ensures.put
    (few _ _ _ _ _ room (first ∙ sym (back ∙ same)) others more)
    c.put_other-in-Some.ensures.ok c.put_other-in-Some.ensures.err

pub invariant_of-self : goal.invariant_of-self
invariant_of-self c = (full c).bucket

pub returns-then-not-takes-clause-ok : goal.returns-then-not-takes-clause-ok
returns-then-not-takes-clause-ok c = rw (← c.self.view_is) (full c).ok

pub returns-then-not-takes-clause-had : goal.returns-then-not-takes-clause-had
returns-then-not-takes-clause-had c =
    rw (← c.self.view_is)
    (IfOk-weaker c.put_other.result _ _ (λ had found. new_had c.self.inside.first.entries c.self.inside.others.entries c.args.key c.args.name.now _ c.self.invariant c.requires (sym (c.takes.ensures c.if-not-takes.true)) found) c.put_other.ensures.had)

pub invariant_of-self-in-None : goal.invariant_of-self-in-None
invariant_of-self-in-None c = (fresh c).bucket

pub returns-in-None-clause-ok : goal.returns-in-None-clause-ok
returns-in-None-clause-ok c = rw (← c.self.view_is) (fresh c).names

pub returns-in-None-clause-had : goal.returns-in-None-clause-had
returns-in-None-clause-had c = rw (← c.self.view_is) (new_had c.self.inside.first.entries c.self.inside.others.entries c.args.key c.args.name.now _ c.self.invariant c.requires (sym c.in-None.is ∙ c.in_ok-insert.ensures.old) c.take_other.ensures.had)

pub invariant_of-self-then-is_of : goal.invariant_of-self-then-is_of
invariant_of-self-then-is_of c = (again c).bucket

pub returns-then-is_of-clause-ok : goal.returns-then-is_of-clause-ok
returns-then-is_of-clause-ok c = rw (← c.self.view_is) (again c).names

pub returns-then-is_of-clause-had : goal.returns-then-is_of-clause-had
returns-then-is_of-clause-had c =
    rw (← c.self.view_is)
    (ap Some c.target.ensures ∙ again_had c.self.inside.first.entries c.self.inside.others.entries c.args.key c.args.name.now c.in-Some.before c.self.invariant c.requires (sym c.in-Some.is ∙ c.in_ok-insert.ensures.old) (sym c.is_of.ensures ∙ c.if-is_of.true))

pub put_back-requires-clause-keyed : goal.put_back-requires-clause-keyed
put_back-requires-clause-keyed c = put_keyed _ c.self.inside.first.entries c.insert.new.self.entries c.args.key c.args.name.now c.in_ok-held.held (inode_and_place c.args.target) c.self.invariant.keyed c.requires c.in_ok-held.ensures c.in_ok-insert.ensures.entries

pub put_back-requires-clause-key : goal.put_back-requires-clause-key
put_back-requires-clause-key c = key_found c.self.inside.first.entries c.args.key c.in-Some.before (recursion_from_All _ _ c.self.invariant.keyed) (sym (sym c.in-Some.is ∙ c.in_ok-insert.ensures.old))

pub invariant_of-self-in-Some : goal.invariant_of-self-in-Some
invariant_of-self-in-Some c = (other c).bucket

pub returns-else-is_of-clause-ok : goal.returns-else-is_of-clause-ok
returns-else-is_of-clause-ok c = rw (← c.self.view_is) (other c).ok

pub returns-else-is_of-clause-err : goal.returns-else-is_of-clause-err
returns-else-is_of-clause-err c = rw (← c.self.view_is) (other c).err

pub returns-else-is_of-clause-had : goal.returns-else-is_of-clause-had
returns-else-is_of-clause-had c =
    rw (← c.self.view_is)
    (IfOk-weaker c.put_other-in-Some.result _ _ (λ had found. other_had c.self.inside.first.entries c.self.inside.others.entries c.args.key c.args.name.now c.in-Some.before _ c.self.invariant c.requires (sym c.in-Some.is ∙ c.in_ok-insert.ensures.old) (sym c.is_of.ensures ∙ c.if-is_of.false) found) c.put_other-in-Some.ensures.had)

pub returns-in-None-clause-more : goal.returns-in-None-clause-more
returns-in-None-clause-more c =
    rw (← c.self.view_is)
    (new_more c.self.inside.first.entries c.insert.new.self.entries c.self.inside.others.entries c.take_other.new.others.entries _ _ (ap is_some c.in-None.is) c.in_ok-insert.ensures.len c.take_other.ensures.len)

pub returns-then-is_of-clause-more : goal.returns-then-is_of-clause-more
returns-then-is_of-clause-more c =
    rw (← c.self.view_is) (again_more c.self.inside.first.entries c.insert.new.self.entries c.self.inside.others.entries _ (ap is_some c.in-Some.is) c.in_ok-insert.ensures.len)

pub returns-else-is_of-clause-more : goal.returns-else-is_of-clause-more
returns-else-is_of-clause-more c =
    rw (← c.self.view_is)
    (IfOk-weaker c.put_other-in-Some.result _ _ (λ had more. other_more c.self.inside.first.entries c.insert.new.self.entries c.put_back.new.first.entries c.self.inside.others.entries c.put_other-in-Some.new.others.entries _ _ (ap is_some c.in-Some.is) c.in_ok-insert.ensures.len c.put_back.ensures.len more) c.put_other-in-Some.ensures.more)

pub returns-else-is_of-clause-no_more : goal.returns-else-is_of-clause-no_more
returns-else-is_of-clause-no_more c =
    rw (← c.self.view_is)
    (on_err_weaker c.put_other-in-Some.result (λ same. no_other_more c.self.inside.first.entries c.insert.new.self.entries c.put_back.new.first.entries c.self.inside.others.entries c.put_other-in-Some.new.others.entries _ (ap is_some c.in-Some.is) c.in_ok-insert.ensures.len c.put_back.ensures.len same) c.put_other-in-Some.ensures.err)

pub returns-then-not-takes-clause-err : goal.returns-then-not-takes-clause-err
returns-then-not-takes-clause-err c = rw (← c.self.view_is) (full c).err

pub returns-then-not-takes-clause-more : goal.returns-then-not-takes-clause-more
returns-then-not-takes-clause-more c =
    rw (← c.self.view_is)
    (IfOk-weaker c.put_other.result _ _ (λ had more. full_more c.self.inside.first.entries c.self.inside.others.entries c.put_other.new.others.entries _ more) c.put_other.ensures.more)

pub returns-then-not-takes-clause-no_more : goal.returns-then-not-takes-clause-no_more
returns-then-not-takes-clause-no_more c =
    rw (← c.self.view_is)
    (on_err_weaker c.put_other.result (λ same. ap (λ os. length (lines_of c.self.inside.first.entries os)) same) c.put_other.ensures.err)

pub returns-in_err-held-clause-had : goal.returns-in_err-held-clause-had
returns-in_err-held-clause-had c = let w = err_from_is_err_and c.from_residual.result c.from_residual.ensures.1 in rw w.1 tt

pub returns-in_err-insert-clause-had : goal.returns-in_err-insert-clause-had
returns-in_err-insert-clause-had c = let w = err_from_is_err_and c.from_residual-in_err-insert.result c.from_residual-in_err-insert.ensures.1 in rw w.1 tt

pub returns-in_err-held-clause-ok : goal.returns-in_err-held-clause-ok
returns-in_err-held-clause-ok c = let w = err_from_is_err_and c.from_residual.result c.from_residual.ensures.1 in rw w.1 tt

pub returns-in_err-insert-clause-ok : goal.returns-in_err-insert-clause-ok
returns-in_err-insert-clause-ok c = let w = err_from_is_err_and c.from_residual-in_err-insert.result c.from_residual-in_err-insert.ensures.1 in rw w.1 tt

pub returns-in_err-held-clause-more : goal.returns-in_err-held-clause-more
returns-in_err-held-clause-more c = let w = err_from_is_err_and c.from_residual.result c.from_residual.ensures.1 in rw w.1 tt

pub returns-in_err-insert-clause-more : goal.returns-in_err-insert-clause-more
returns-in_err-insert-clause-more c = let w = err_from_is_err_and c.from_residual-in_err-insert.result c.from_residual-in_err-insert.ensures.1 in rw w.1 tt

pub invariant_of-self-in_err-insert : goal.invariant_of-self-in_err-insert
invariant_of-self-in_err-insert c = subst (λ es. IsBucket es c.self.inside.others.entries) (sym c.in_err-insert.ensures.err) c.self.invariant

pub returns-in_err-insert-clause-err : goal.returns-in_err-insert-clause-err
returns-in_err-insert-clause-err c =
    let w = err_from_is_err_and c.from_residual-in_err-insert.result c.from_residual-in_err-insert.ensures.1 in
    rw (← c.self.view_is) (rw w.1 (λ q. ap (λ es. found_in (lines_of es c.self.inside.others.entries) q) c.in_err-insert.ensures.err))

pub returns-in_err-insert-clause-no_more : goal.returns-in_err-insert-clause-no_more
returns-in_err-insert-clause-no_more c =
    let w = err_from_is_err_and c.from_residual-in_err-insert.result c.from_residual-in_err-insert.ensures.1 in
    rw (← c.self.view_is) (rw w.1 (ap (λ es. length (lines_of es c.self.inside.others.entries)) c.in_err-insert.ensures.err))
