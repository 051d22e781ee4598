use Rattle.nv_scan.proofs.BlockSlots.{stands_at}
use Rattle.nv_scan.proofs.Drawn.{each_once, number_there}
use Rattle.nv_scan.proofs.laws.tickets_are_blocks_of_slots.Goals as goal

pub returns-clause-slots : goal.returns-clause-slots
returns-clause-slots c = λ l t j x laid at less some. stands_at l t j x laid at less some

pub returns-clause-numbers : goal.returns-clause-numbers
returns-clause-numbers c = λ l t j x at less some. number_there l t j x at less some

pub returns-clause-once : goal.returns-clause-once
returns-clause-once c = λ l i a laid e. each_once l laid i a e
