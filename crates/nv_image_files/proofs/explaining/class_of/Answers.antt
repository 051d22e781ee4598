use Rattle.std.proofs.Common.{◌∙◌, refl}
use Rattle.std.specs.Str.{str_eq_ignore_ascii_case}
use Rattle.nv_super.specs.declared.classes.FaultClass.{FaultClass}
use Rattle.nv_super.specs.Classes.{class_names}
use Rattle.nv_image_files.proofs.Classes.{next_name, this_name, tested}
use Rattle.nv_image_files.proofs.explaining.class_of.Goals as goal

pub loop-class-init : goal.loop-class-init
unfolding class_names
loop-class-init c = record { all = record { same = refl }; none = refl }

pub returns-then-eq_ignore_ascii_case : goal.returns-then-eq_ignore_ascii_case
returns-then-eq_ignore_ascii_case c =
    let test = tested c.eq_ignore_ascii_case.result _ c.args.name.now c.eq_ignore_ascii_case.ensures.test ∙ c.if-eq_ignore_ascii_case.true in
    this_name (λ (class : FaultClass). class.name.now) (λ name. str_eq_ignore_ascii_case name c.args.name.now) c.loop-class.class-index
    c.loop-class.invariant.all c.loop-class-test.true _ _ c.loop-class.invariant.none test

pub loop-class-preserved : goal.loop-class-preserved
loop-class-preserved c =
    let test = tested c.eq_ignore_ascii_case.result _ c.args.name.now c.eq_ignore_ascii_case.ensures.test ∙ c.if-eq_ignore_ascii_case.false in
    record {
      all = c.loop-class.invariant.all;
      none = next_name (λ (class : FaultClass). class.name.now) (λ name. str_eq_ignore_ascii_case name c.args.name.now) c.loop-class.class-index
          c.loop-class.invariant.all c.loop-class-test.true _ _ c.loop-class.invariant.none test;
    }
