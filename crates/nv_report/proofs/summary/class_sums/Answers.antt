use Rattle.std.proofs.Common.{[], ◌∙◌, refl, ap, sym, arith}
use Rattle.std.proofs.lemmas.List.{get_or-take}
use Rattle.nv_super.specs.Classes.{class_names, fault_class_names}
use Rattle.nv_super.proofs.ClassNames.{fault_classes_long}
use Rattle.nv_report.proofs.ClassSums.{one_more, none_more, all_summed}
use Rattle.nv_report.proofs.summary.class_sums.Goals as goal
use Rattle.nv_report.proofs.summary.class_sums.Goals.{then-count-gt0+in_ok-push, else-count-gt0}

pub loop-number-preserved : goal.loop-number-preserved
loop-number-preserved c = elim c.if-count-gt0.branch [
  | then-count-gt0+in_ok-push w ↦ one_more c.args.faults.now fault_class_names c.loop-number.number (omega (arith, fault_classes_long)) c.class_name-class.result.now c.count_class-count.result (c.class_name-class.ensures ∙ sym (get_or-take 21 class_names c.loop-number.number [] (omega arith))) c.count_class-count.ensures
      c.loop-number.sums.items c.if-count-gt0.sums.items c.loop-number.invariant (record { class = c.class_name-class.result; count = c.count_class-count.result }) (ap (λ v. v.items) w.sums-is ∙ w.in_ok-push.ensures.items) refl w.if-count-gt0.true
  | else-count-gt0 w ↦ rw w.sums-is (none_more c.args.faults.now fault_class_names c.loop-number.number (omega (arith, fault_classes_long)) c.class_name-class.result.now c.count_class-count.result (c.class_name-class.ensures ∙ sym (get_or-take 21 class_names c.loop-number.number [] (omega arith))) c.count_class-count.ensures
      c.loop-number.sums.items c.loop-number.invariant w.if-count-gt0.false)
]

pub returns : goal.returns
returns c = c.loop-number.invariant ∙ all_summed c.args.faults.now fault_class_names c.loop-number.number (omega (arith, fault_classes_long))
