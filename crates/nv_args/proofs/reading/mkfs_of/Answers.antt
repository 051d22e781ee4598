use Rattle.std.proofs.Common.{refl, codes}
use Rattle.clap.specs.Walk.{first_of, rows_of}
use Rattle.clap.specs.Matches.{found_of}
use Rattle.nv_args.specs.declared.todo.LayoutVersion.{LayoutVersion}
use Rattle.nv_args.specs.Words.{IsLayout}
use Rattle.nv_args.proofs.Sizing.{no_image, no_layout}
use Rattle.nv_args.proofs.reading.mkfs_of.Goals as goal

pub returns-in_err-blocks-clause-none : goal.returns-in_err-blocks-clause-none
returns-in_err-blocks-clause-none c none = no_image (rows_of (found_of c.args.values.now)) (c.in_err-blocks.ensures.none refl)

pub returns-clause-some : goal.returns-clause-some
returns-clause-some c =
    (refl, (rw c.in_ok-image.was at c.text_of.ensures, c.in_ok-blocks.ensures.some, rw c.text_of-2.ensures c.in_ok-layout.ensures.some, c.is_given-force.ensures))

pub returns-in_err-layout-clause-none : goal.returns-in_err-layout-clause-none
returns-in_err-layout-clause-none c none =
    let unread : (layout : LayoutVersion) → ¬ IsLayout (first_of (codes "layout") (rows_of (found_of c.args.values.now))) layout =
    rw c.text_of-2.ensures (c.in_err-layout.ensures.none refl) in
    no_layout (rows_of (found_of c.args.values.now)) unread
