use Rattle.nv_script.proofs.Cleanings.{memory_alone}
use Rattle.nv_script.proofs.cleaning.dead_pages.Goals as goal
