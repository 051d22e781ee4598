use Rattle.nv_graph.proofs.Sound.{sound, faultless}
use Rattle.nv_graph.proofs.Changes.{unlinked_sound, last_removed_sound, some_link}
use Rattle.nv_graph.proofs.faultless_calls.unlink_keeps.Goals as goal

pub returns-clause-more_left : goal.returns-clause-more_left
returns-clause-more_left c = λ g d name i n f named is file more. faultless _ (unlinked_sound g d name i n (sound g f) named is file more)

pub returns-clause-last : goal.returns-clause-last
returns-clause-last c = λ g d name i n f named is file last. faultless _ (last_removed_sound g d name i n (sound g f) named is file last)

pub returns-clause-some_link : goal.returns-clause-some_link
returns-clause-some_link c = λ g d name i n f named is file. some_link g d name i n (sound g f) named is file
