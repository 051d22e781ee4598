use Rattle.std.proofs.Common.{◌≡◌, ◌∙◌, ◌++◌, ◌∷◌, [], ℕ, List, ap, sym, subst, map, replicate, arith}
use Rattle.std.specs.List.{range_with_len}
use Rattle.std.specs.Global.{Vec}
use Rattle.std.proofs.lemmas.List.{map-append}
use Rattle.std.proofs.lemmas.List.FromFn.{map-range_with_len_more}
use Rattle.nv_blockset.specs.BlockSet.{words_for}
use Rattle.nv_inode.specs.Numbers.{sizes_of, table_size}
use Rattle.nv_inode.specs.Tables.{lists_of}
use Rattle.nv_rows.specs.InUse.{has_number, HaveRoom}
use Rattle.nv_rows.proofs.NewSets.{bare_room, bare_set, bare_sets, none_used}
use Rattle.nv_rows.proofs.used.UsedNumbers.new.Goals as goal

pub loop-cpu-preserved : goal.loop-cpu-preserved
loop-cpu-preserved c =
    let l = c.args.tables.now.layout in
    let cpu = c.loop-cpu.cpu in
    let bare : c.in_ok-vec.field-0.items ≡ bare_set l cpu =
    c.in_ok-vec.ensures.items_if_clones_equal (λ y h. h) ∙ ap (λ (n : ℕ). replicate n 0) (c.words_for.ensures ∙ ap words_for c.table_size-size.ensures.value) in
    record {
      sizes = c.in_ok-push.ensures.items ∙ (λ i. c.loop-cpu.invariant.sizes i ++ c.table_size-size.ensures.value i ∷ []) ∙ sym (map-range_with_len_more (table_size l) 0 cpu cpu (omega arith));
      sets = ap lists_of c.in_ok-push-2.ensures.items ∙ map-append (λ (v : Vec ℕ). v.items) c.loop-cpu.sets.items (c.in_ok-vec.field-0 ∷ [])
          ∙ (λ i. c.loop-cpu.invariant.sets i ++ bare i ∷ []) ∙ sym (map-range_with_len_more (bare_set l) 0 cpu cpu (omega arith));
    }

pub invariant_of-result : goal.invariant_of-result
invariant_of-result c =
    let l = c.args.tables.now.layout in
    let all : c.loop-cpu.cpu ≡ l.sup.cpus = omega (arith, c.loop-cpu-test.false, c.loop-cpu.auto.cpu-end, c.cpus-cpus.ensures) in
    subst (λ (sizes : List ℕ). HaveRoom sizes (lists_of c.loop-cpu.sets.items)) (sym (c.loop-cpu.invariant.sizes ∙ ap (λ (n : ℕ). map (table_size l) (range_with_len 0 n)) all))
    (subst (λ (sets : List (List ℕ)). HaveRoom (sizes_of l) sets) (sym (c.loop-cpu.invariant.sets ∙ ap (bare_sets l) all)) (bare_room l c.are_laid.ensures))

pub returns-clause-none : goal.returns-clause-none
returns-clause-none c i = ap (λ (sets : List (List ℕ)). has_number sets i) c.loop-cpu.invariant.sets ∙ none_used c.args.tables.now.layout c.loop-cpu.cpu i
