use Rattle.std.proofs.Common.{◌≡◌, ◌*◌, ◌/◌, ℕ, List, set, length, ap, sym, subst, ◌∙◌, arith, length-set}
use Rattle.std.specs.Vec.{with_items}
use Rattle.std.proofs.lemmas.List.{take_at}
use Rattle.nv_region.specs.Region.{put}
use Rattle.nv_region.specs.RegionState.{RegionState}
use Rattle.nv_region.specs.Recent.{AreHeld, taken_back}
use Rattle.nv_region.specs.StoredLines.{words_before}
use Rattle.nv_region.proofs.memory.MemRegion.put.Goals as goal

pub returns : goal.returns
returns c =
    let words : List ℕ = c.self.inside.words.items in
    let rows = c.self.inside.stored.rows in
    let kept : List ℕ = c.self.inside.stored.kept in
    let number : ℕ = c.args.number in
    let value : ℕ = c.args.value in
    let new = c.hold.new in
    let lent = c.deref_mut.ensures.value in
    let same : new.words ≡ words = c.hold.ensures.same ∙ lent in
    let items : (with_items c.self.inside.words new.words).items ≡ words = take_at new.words _ c.self.inside.words.len (omega (arith, ap length same, c.self.inside.words.ok)) ∙ same in
    let place : number ≡ 8 * number / 8 = omega arith in
    let before : words_before new.stored.rows new.stored.kept (taken_back new.recent (set (with_items c.self.inside.words new.words).items number value)) ≡ words_before rows kept (taken_back c.self.inside.recent words) =
    ap (λ (l : List ℕ). words_before new.stored.rows new.stored.kept (taken_back new.recent (set l number value))) (items ∙ sym lent)
    ∙ c.hold.ensures.before ∙ ap (λ (l : List ℕ). words_before rows kept (taken_back c.self.inside.recent l)) lent in
    (λ k. record {
      region = record { words = set (items k) (place k) value; rest = c.self.inside.rest.items };
      fenced = before k;
      fuse = c.self.inside.fuse;
      burnt = c.self.inside.burnt;
    })
    ∙ ap (λ (m : RegionState). record m { region = put m.region (8 * number) value }) c.self.view_is

pub invariant_of-self : goal.invariant_of-self
invariant_of-self c =
    let new = c.hold.new in
    let number : ℕ = c.args.number in
    let value : ℕ = c.args.value in
    let same : new.words ≡ c.self.inside.words.items = c.hold.ensures.same ∙ c.deref_mut.ensures.value in
    let items : (with_items c.self.inside.words new.words).items ≡ c.self.inside.words.items = take_at new.words _ c.self.inside.words.len (omega (arith, ap length same, c.self.inside.words.ok)) ∙ same in
    let long = length-set (with_items c.self.inside.words new.words).items number value ∙ ap length items in
    record {
      short = c.self.invariant.short;
      small = omega (arith, long, c.self.invariant.small);
      count = c.hold.ensures.total ∙ c.self.invariant.count ∙ sym long;
      held = subst (λ (l : List ℕ). AreHeld new.recent (set l number value)) (c.deref_mut.ensures.value ∙ sym items) c.hold.ensures.held;
    }
