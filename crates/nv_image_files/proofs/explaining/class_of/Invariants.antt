use Rattle.std.proofs.Common.{◌≡◌, find, drop}
use Rattle.std.specs.Str.{str_eq_ignore_ascii_case}
use Rattle.nv_super.specs.declared.classes.FaultClass.{FaultClass}
use Rattle.nv_super.specs.Classes.{class_names}
use Rattle.nv_image_files.specs.Explaining.{class_named}
use Rattle.nv_image_files.proofs.Classes.{AreNames}
use Rattle.nv_image_files.proofs.explaining.class_of.Given as goal

abbrev pub invariant-loop-class : goal.invariant-loop-class
invariant-loop-class l = record {
  all : AreNames (λ (class : FaultClass). class.name.now) l.class-items class_names;
  none : find (λ name. str_eq_ignore_ascii_case name l.name) (drop l.class-index class_names) ≡ class_named l.name;
}
