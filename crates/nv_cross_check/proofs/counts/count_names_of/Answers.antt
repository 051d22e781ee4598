use Rattle.std.proofs.Common.{◌≡◌, ◌+◌, ◌++◌, ◌∷◌, [], ◌<◌, length, get_or, arith, sym, ap, ◌∙◌}
use Rattle.std.proofs.Math.ListN.{set, length-set}
use Rattle.std.proofs.lemmas.List.{get_or_default}
use Rattle.nv_super.specs.declared.faults.Fault.TheVariants as faults
use Rattle.nv_cross_check.proofs.Follow.{head_at}
use Rattle.nv_cross_check.proofs.NamesCounted.{name_counted, name_skipped, used_passed, unused_told, all_counted, all_told}
use Rattle.nv_cross_check.proofs.counts.count_names_of.Goals as goal
use Rattle.nv_cross_check.proofs.counts.count_names_of.Goals.{in-Some+in_ok-counts-in-Some, in-None+in_ok-push-in-None}

pub loop-name-preserved : goal.loop-name-preserved
loop-name-preserved c =
    let lt = c.loop-name-test.true in
    elim c.match-find.branch [
      | in-Some+in_ok-counts-in-Some w ↦ (
          let counts = c.loop-name.counts.items in let place = w.in-Some.named in
          let at = sym c.find.ensures ∙ w.in-Some.is in
          let inside = c.requires.table.within _ _ at in
          let within : place < length counts = omega (arith, inside, c.loop-name.invariant.long) in
          let value : w.index.result.now ≡ get_or counts place 0 = w.index.ensures ∙ get_or_default _ _ _ 0 within in
          let set_to : c.match-find.counts.items ≡ set counts place (get_or counts place 0 + 1) =
          ap (λ v. v.items) w.counts-is ∙ ap (λ n. set counts place n) (w.in_ok-counts-in-Some.ensures ∙ ap (λ n. n + 1) value) in
          record {
            long = ap length set_to ∙ length-set counts place (get_or counts place 0 + 1) ∙ c.loop-name.invariant.long;
            counts = rw set_to (name_counted _ _ _ _ lt _ _ c.loop-name.invariant.counts place c.requires.table at);
            unused = used_passed _ _ _ _ _ lt _ _ _ c.loop-name.invariant.unused place at (ap (λ v. v.items) w.unused-is);
          })
      | in-None+in_ok-push-in-None w ↦ (
          let at = sym c.find.ensures ∙ w.in-None.is in
          let same : c.match-find.counts.items ≡ c.loop-name.counts.items = ap (λ v. v.items) w.counts-is in
          let told = ap (λ v. v.items) w.unused-is ∙ w.in_ok-push-in-None.ensures.items ∙ ap (λ d. c.loop-name.unused.items ++ faults.C1 d _ ∷ []) (sym (head_at c.args.listings.now c.args.place w.head.result w.head.ensures)) in
          record {
            long = ap length same ∙ c.loop-name.invariant.long;
            counts = rw same (name_skipped _ _ _ _ lt _ _ c.loop-name.invariant.counts at);
            unused = unused_told _ _ _ _ _ lt _ _ _ c.loop-name.invariant.unused at told;
          })
    ]

pub returns-clause-counts : goal.returns-clause-counts
returns-clause-counts c l at = all_counted c.args.listings.now c.args.place l _ _ at c.names-name-items.ensures c.loop-name-test.false _ _ _ c.loop-name.invariant.counts

pub returns-clause-unused : goal.returns-clause-unused
returns-clause-unused c l at = all_told c.args.listings.now c.args.place l _ _ at c.names-name-items.ensures c.loop-name-test.false _ _ _ c.loop-name.invariant.unused
