use Rattle.std.proofs.Common.{refl}
use Rattle.nv_history.proofs.NewNumbers.{numbers_same, same_by_layout}
use Rattle.nv_history.proofs.laws.new_numbers_are_the_same.Goals as goal

pub returns-clause-laid : goal.returns-clause-laid
returns-clause-laid c = λ l region rows cpu laid below slots room. same_by_layout l rows laid cpu below slots region room

pub returns-clause-mounted : goal.returns-clause-mounted
returns-clause-mounted c = λ region s l rows free faults cpu kept below. numbers_same kept refl refl cpu below
