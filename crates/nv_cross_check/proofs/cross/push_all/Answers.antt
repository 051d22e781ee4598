use Rattle.std.proofs.Common.{◌≡◌, ◌++◌, ◌∙◌, sym, ap, subst, List, ℕ}
use Rattle.std.specs.List.{filter_map}
use Rattle.std.proofs.lemmas.Result.{on_ok_weaker}
use Rattle.nv_super.specs.declared.faults.Fault.{Fault}
use Rattle.nv_cross_check.specs.Steps.{unused_faults, count_fault, AreNumbersOfNames}
use Rattle.nv_cross_check.proofs.Together.{all_faults, from_both, into_both}
use Rattle.nv_cross_check.proofs.cross.push_all.Goals as goal

pub returns : goal.returns
returns c =
    let t = c.args.tables.now in
    let listings = t.listings in let table = t.places in
    let one = unused_faults table listings in let two = filter_map (count_fault listings) listings in
    let first : c.extend_from_slice.new.self.items ≡ one =
    c.in_ok-extend_from_slice.ensures.items ∙ (λ i. c.requires.none i ++ c.deref.ensures.value i) ∙ c.requires.unused in
    let near : c.push_counts.new.faults.items ≡ one ++ two = c.in_ok-push_counts.ensures ∙ ap (λ (fs : List Fault). fs ++ two) first in
    on_ok_weaker c.push_far.result (λ far. all_faults listings table c.requires.places c.push_counts.new.faults.items c.push_far.new.faults.items (from_both _ one two near) (into_both _ one two near) far) c.push_far.ensures

pub push_counts-requires : goal.push_counts-requires
push_counts-requires c =
    let N : List ℕ → Type 0 = λ ns. AreNumbersOfNames c.args.tables.now.listings ns in subst N (sym c.deref-2.ensures.value) c.requires.counts
