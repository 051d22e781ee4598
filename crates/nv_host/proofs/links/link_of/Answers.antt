use Rattle.std.proofs.Common.{◌≡◌, ◌∙◌, true, false, sym}
use Rattle.nv_host.specs.Links.{is_shared}
use Rattle.nv_host.proofs.Linked.{kept_again, kept_alone, kept_first, none_first}
use Rattle.nv_host.proofs.links.link_of.Goals as goal

pub returns-then-not-is_shared-clause-link : goal.returns-then-not-is_shared-clause-link
returns-then-not-is_shared-clause-link c before keeps =
    let alone : is_shared c.args.entry.now.found ≡ false = sym c.is_shared.ensures ∙ c.if-not-is_shared.true in
    sym (none_first before c.args.entry.now.found alone)

pub returns-then-not-is_shared-clause-keeps : goal.returns-then-not-is_shared-clause-keeps
returns-then-not-is_shared-clause-keeps c before keeps =
    let alone : is_shared c.args.entry.now.found ≡ false = sym c.is_shared.ensures ∙ c.if-not-is_shared.true in
    kept_alone before c.args.entry.now c.args.firsts.now alone keeps

pub returns-in-Some-clause-keeps : goal.returns-in-Some-clause-keeps
returns-in-Some-clause-keeps c before keeps = kept_again before c.args.entry.now c.args.firsts.now c.in-Some.path.now (sym c.in-Some.ensures.value) keeps

pub returns-in_ok-insert-in-None-clause-keeps : goal.returns-in_ok-insert-in-None-clause-keeps
returns-in_ok-insert-in-None-clause-keeps c before keeps =
    let two : is_shared c.args.entry.now.found ≡ true = sym c.is_shared.ensures ∙ c.if-not-is_shared.false in
    kept_first before c.args.entry.now c.args.firsts.now c.insert.new.self c.as_str.result two (sym c.in-None.ensures.value) c.as_str.ensures.value
    c.in_ok-insert-in-None.ensures.updates keeps
