use Rattle.nv_mounted.proofs.Cleaned as made
use Rattle.nv_mounted.proofs.shorter.unlinked_page_is_free.Goals as goal

pub returns-clause-free : goal.returns-clause-free
returns-clause-free c = λ R S s held i a h k m at is dead stored. made.freed R S s held i a h k m at is dead.more stored dead

pub returns-clause-lists : goal.returns-clause-lists
returns-clause-lists c = λ R S s held i a h k old new m at is dead stored. made.lists_cleaned R S s held i a h k m at is dead.more stored dead old new
