use Rattle.std.proofs.Common.{◌≡◌, ◌≤◌, ◌∙◌, ◌+◌, ◌-◌, ◌*◌, ◌/◌, ℕ, List, length, sym, subst, ap, arith}
use Rattle.nv_region.specs.StoredLines.{word_before, words_before}
use Rattle.nv_region.specs.Recent.{AreHeld, taken_back}
use Rattle.nv_region.specs.declared.recent.StoredWord.{StoredWord}
use Rattle.std.specs.Vec.{with_items}
use Rattle.std.proofs.lemmas.List.{take_at}
use borrow.Rule.Slice.PartMut.{put_mid}
use Rattle.nv_region.specs.Region.{Region}
use Rattle.nv_region.specs.RegionState.{RegionState}
use Rattle.nv_region.specs.Lines.{put_words}
use Rattle.nv_region.proofs.Before.{row_before}
use Rattle.nv_region.proofs.Lines.{words_copied, put_words_long, put_words_rest, row_other}
use Rattle.nv_region.proofs.RecentStores.{none_held}
use Rattle.nv_region.proofs.memory.MemRegion.put_lines.Goals as goal

pub returns : goal.returns
returns c =
    let first : ℕ = c.args.first in
    let n : ℕ = length c.args.words.now in
    let R : Region = record { words = c.self.inside.words.items; rest = c.self.inside.rest.items } in
    let stored = c.note_recent.new.stored in
    let lent = c.deref_mut.ensures.value in
    let same : c.note_recent.new.words ≡ R.words = c.note_recent.ensures.same ∙ lent in
    let back : (with_items c.self.inside.words c.note_recent.new.words).items ≡ R.words = take_at c.note_recent.new.words _ c.self.inside.words.len (omega (arith, ap length same, c.self.inside.words.ok)) ∙ same in
    let read : c.deref.result.now ≡ R.words = c.deref.ensures.value ∙ back in
    let made : List ℕ = put_mid first (first + n - first) c.deref_mut-2.result.now c.copy_from_slice.new.self in
    let after : List ℕ = (put_words R (8 * first) c.args.words.now n).words in
    let within : first + n ≤ length R.words = omega (arith, c.requires.within, ap (λ (m : RegionState). length m.region.words) c.self.view_is) in
    let words : made ≡ after =
    ap (λ (l : List ℕ). put_mid first (first + n - first) l c.copy_from_slice.new.self) (c.deref_mut-2.ensures.value ∙ back) ∙ words_copied R c.copy_from_slice.new.self c.args.words.now first n (omega arith) within c.copy_from_slice.ensures.after in
    let items : (with_items (with_items c.self.inside.words c.note_recent.new.words) made).items ≡ made = take_at made _ c.self.inside.words.len (omega (arith, ap length words, put_words_long R (8 * first) c.args.words.now n, c.self.inside.words.ok)) in
    let rows = c.self.inside.stored.rows in
    let kept : List ℕ = c.self.inside.stored.kept in
    let noted : words_before stored.rows stored.kept R.words ≡ words_before rows kept (taken_back c.self.inside.recent R.words) =
    ap (λ (l : List ℕ). words_before stored.rows stored.kept l) (sym lent) ∙ c.note_recent.ensures.before ∙ ap (λ (l : List ℕ). words_before rows kept (taken_back c.self.inside.recent l)) lent in
    let before : words_before c.note_row.new.self.rows c.note_row.new.self.kept (taken_back c.note_recent.new.recent (with_items (with_items c.self.inside.words c.note_recent.new.words) made).items) ≡ words_before rows kept (taken_back c.self.inside.recent R.words) =
    ap (λ (stores : List StoredWord). words_before c.note_row.new.self.rows c.note_row.new.self.kept (taken_back stores (with_items (with_items c.self.inside.words c.note_recent.new.words) made).items)) c.note_recent.ensures.none
    ∙ ap (λ (l : List ℕ). words_before c.note_row.new.self.rows c.note_row.new.self.kept l) (items ∙ words)
    ∙ row_before stored.rows c.note_row.new.self.rows stored.kept c.note_row.new.self.kept R.words after (first / 8) c.lines_of.result
    (λ i within from to. c.note_row.ensures.here after i (rw read within) from to ∙ ap (λ (l : List ℕ). word_before stored.rows stored.kept l i) read)
    (λ i within away. c.note_row.ensures.others after i (rw read within) away) (put_words_long R (8 * first) c.args.words.now n)
    (λ i away. row_other R first c.args.words.now n i (λ from to. away from (omega (arith, to, c.lines_of.ensures))))
    ∙ noted in
    (λ k. record {
      region = record { words = (items ∙ words) k; rest = (sym (put_words_rest R (8 * first) c.args.words.now n)) k };
      fenced = before k;
      fuse = c.self.inside.fuse;
      burnt = c.self.inside.burnt;
    })
    ∙ ap (λ (m : RegionState). record m { region = put_words m.region (8 * first) c.args.words.now n }) c.self.view_is

pub invariant_of-self : goal.invariant_of-self
invariant_of-self c =
    let first : ℕ = c.args.first in
    let n : ℕ = length c.args.words.now in
    let R : Region = record { words = c.self.inside.words.items; rest = c.self.inside.rest.items } in
    let same : c.note_recent.new.words ≡ R.words = c.note_recent.ensures.same ∙ c.deref_mut.ensures.value in
    let back : (with_items c.self.inside.words c.note_recent.new.words).items ≡ R.words = take_at c.note_recent.new.words _ c.self.inside.words.len (omega (arith, ap length same, c.self.inside.words.ok)) ∙ same in
    let made : List ℕ = put_mid first (first + n - first) c.deref_mut-2.result.now c.copy_from_slice.new.self in
    let within : first + n ≤ length R.words = omega (arith, c.requires.within, ap (λ (m : RegionState). length m.region.words) c.self.view_is) in
    let words : made ≡ (put_words R (8 * first) c.args.words.now n).words =
    ap (λ (l : List ℕ). put_mid first (first + n - first) l c.copy_from_slice.new.self) (c.deref_mut-2.ensures.value ∙ back) ∙ words_copied R c.copy_from_slice.new.self c.args.words.now first n (omega arith) within c.copy_from_slice.ensures.after in
    let long : length made ≡ length R.words = ap length words ∙ put_words_long R (8 * first) c.args.words.now n in
    let items : (with_items (with_items c.self.inside.words c.note_recent.new.words) made).items ≡ made = take_at made _ c.self.inside.words.len (omega (arith, long, c.self.inside.words.ok)) in
    record {
      short = c.self.invariant.short;
      small = omega (arith, ap length items, long, c.self.invariant.small);
      count = c.note_row.ensures.total ∙ c.note_recent.ensures.total ∙ c.self.invariant.count ∙ sym (ap length items ∙ long);
      held = subst (λ (stores : List StoredWord). AreHeld stores (with_items (with_items c.self.inside.words c.note_recent.new.words) made).items) (sym c.note_recent.ensures.none) (none_held _);
    }
