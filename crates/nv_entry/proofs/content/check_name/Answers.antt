use Rattle.std.proofs.Common.{◌≡◌, ◌∙◌, Bool, true, false, Some, None, ap, cond, is_none, not, refl}
use Rattle.nv_entry.specs.declared.content.ContentFault.{ContentFault}
use Rattle.nv_entry.specs.declared.content.ContentFault.TheVariants.{OutOfRange}
use Rattle.nv_entry.specs.Light.{with_name}
use Rattle.nv_entry.proofs.content.check_name.Goals as goal

no_fault : (bad : Bool) (fault : ContentFault) → is_none (cond bad (Some fault) None) ≡ not bad
no_fault true fault = refl
no_fault false fault = refl

pub returns-in-Directory-clause-fault : goal.returns-in-Directory-clause-fault
returns-in-Directory-clause-fault c = rw c.in-Directory.is (c.out_of_range_if.ensures ∙ ap (λ (bad : Bool). cond bad (Some OutOfRange) None) (c.is_name_out_of_range.ensures (with_name c.args.e.now c.args.name.now) refl refl))

pub returns-in-Directory-clause-good : goal.returns-in-Directory-clause-good
returns-in-Directory-clause-good c =
    rw c.in-Directory.is (ap is_none c.out_of_range_if.ensures ∙ no_fault c.is_name_out_of_range.result OutOfRange ∙ ap not (c.is_name_out_of_range.ensures (with_name c.args.e.now c.args.name.now) refl refl))
