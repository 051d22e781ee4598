use Rattle.std.proofs.Common.{◌≡◌, ◌∙◌, ◌++◌, ℕ, ◌+◌, List, [], ◌∷◌, Bor, map, take, drop, sym, ap}
use Rattle.std.specs.List.{filter}
use Rattle.std.proofs.lemmas.List.{drop-drop, take_rest}
use Rattle.std.proofs.lemmas.Result.{on_ok_weaker}
use Rattle.nv_host.specs.Names.{is_name, names_listed}
use Rattle.nv_host.proofs.Listed.{pushed, pushed_last}
use Rattle.nv_host.proofs.names.push_names.Goals as goal

abbrev shown : List (Bor (List ℕ)) → List (List ℕ)
shown names = map (λ (name : Bor (List ℕ)). name.now) names

pub loop-at-preserved : goal.loop-at-preserved
loop-at-preserved c =
    let old = shown c.loop-at.names.items in
    let new = shown c.push_name.new.names.items in
    let left = c.loop-at.left.now in
    let i = c.in-Some.at in
    let name = c.split_at.result.0.now in
    let rest = c.split_at.result.1.now in
    let more : new ≡ old ++ filter is_name (take i left ∷ []) = c.in_ok-push_name.ensures ∙ ap (λ (t : List ℕ). old ++ filter is_name (t ∷ [])) c.split_at.ensures.front in
    let behind : drop 1 rest ≡ drop (i + 1) left = ap (drop 1) c.split_at.ensures.back ∙ drop-drop 1 i left in
    ap (λ (t : List ℕ). new ++ names_listed t) (take_rest rest 1 ∙ behind)
    ∙ pushed old new left (shown c.args.names.now.items ++ names_listed c.args.listing.now) i (sym c.in-Some.ensures) more c.loop-at.invariant

pub returns : goal.returns
returns c = on_ok_weaker c.push_name-2.result
    (λ more. pushed_last (shown c.loop-at.names.items) (shown c.push_name-2.new.names.items) c.loop-at.left.now (shown c.args.names.now.items ++ names_listed c.args.listing.now) (sym c.in_default.ensures) more c.loop-at.invariant)
    c.push_name-2.ensures
