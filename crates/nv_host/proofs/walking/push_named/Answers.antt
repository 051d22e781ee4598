use Rattle.std.proofs.Common.{◌∙◌, ◌++◌, ℕ, List, [], ◌∷◌, Bor, map, take, sym, ap, subst, append_assoc, append-nil, take_all}
use Rattle.nv_host.specs.declared.walking.HostEntry.{HostEntry}
use Rattle.nv_host.specs.Walking.{AreNamed}
use Rattle.nv_host.proofs.Walked.{names_taken, no_names, one_more}
use Rattle.nv_host.proofs.walking.push_named.Goals as goal

pub loop-name-init : goal.loop-name-init
loop-name-init g c = ([], sym (append-nil c.args.entries.now.items), no_names c.args.path.now c.args.place.now)

pub loop-name-preserved : goal.loop-name-preserved
loop-name-preserved g c =
    let added = c.loop-name.invariant in
    let entry = c.in_ok-entry_below.field-0 in
    let names = c.args.names.now in
    let i = c.loop-name.name-index in
    let shown = map (λ (name : Bor (List ℕ)). name.now) (take i names) in (
      added.0 ++ entry ∷ [],
      c.in_ok-push.ensures.items ∙ ap (λ (items : List HostEntry). items ++ entry ∷ []) added.1 ∙ append_assoc c.args.entries.now.items added.0 (entry ∷ []),
      subst (λ (now : List (List ℕ)). AreNamed c.args.path.now c.args.place.now now (added.0 ++ entry ∷ [])) (sym (names_taken names i _ c.loop-name-test.true))
          (one_more c.args.path.now c.args.place.now shown added.0 _ entry added.2 c.in_ok-entry_below.ensures.path c.in_ok-entry_below.ensures.place),
    )

pub returns : goal.returns
returns g c =
    let added = c.loop-name.invariant in
    let all = take_all c.loop-name.name-index c.args.names.now c.loop-name-test.false in
    (added.0, added.1, subst (λ (names : List (Bor (List ℕ))). AreNamed c.args.path.now c.args.place.now (map (λ (name : Bor (List ℕ)). name.now) names) added.0) all added.2)
