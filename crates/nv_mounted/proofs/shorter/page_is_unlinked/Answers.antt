use Rattle.nv_mounted.proofs.Cleaned as made
use Rattle.nv_mounted.proofs.shorter.page_is_unlinked.Goals as goal

pub returns-clause-shown : goal.returns-clause-shown
returns-clause-shown c = λ R S s held i a h k m at is more stored. (made.same_front R S s held i a h k m at is more stored, made.shows_cleaned R S s held i a h k m at is more stored)

pub returns-clause-sound : goal.returns-clause-sound
returns-clause-sound c = λ R S s held i a h k m at is dead stored. made.sound_cleaned R S s held i a h k m at is dead.more stored dead

pub returns-clause-bytes : goal.returns-clause-bytes
returns-clause-bytes c = λ R S s held i a h k m at is more stored. made.bytes_stay R S s held i a h k m at is more stored
