use Rattle.nv_mounted.proofs.Commits as made
use Rattle.nv_mounted.proofs.stores.one_slot_changes.Goals as goal

pub returns : goal.returns
returns c = λ l held R S i a o slots at same shows here. made.changed l held R S (made.pages_clear slots) i a at same shows o here
