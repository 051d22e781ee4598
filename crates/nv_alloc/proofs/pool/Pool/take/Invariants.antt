use Rattle.std.proofs.Common.{◌+◌, ◌≤◌, vec_len, vec_capacity}
use Rattle.nv_super.specs.Runs.{Apart}
use Rattle.nv_alloc.specs.PoolValue.{SamePlace}
use Rattle.nv_alloc.specs.Inside.{TakesSome}
use Rattle.nv_alloc.proofs.pool.Pool.take.Given as goal

-- what remains to take makes up the rest
abbrev pub invariant-loop-rest : goal.invariant-loop-rest
invariant-loop-rest l = record {
  apart : Apart l.self.runs → Apart l.initial.self.runs;
  steps : TakesSome l.need l.initial.self.runs l.initial.out.items l.rest l.self.runs l.out.items;
  room : vec_len l.out + l.rest ≤ vec_capacity l.out;
  place : SamePlace l.initial.self l.self;
}

abbrev pub decreases-loop-rest : goal.decreases-loop-rest
decreases-loop-rest l = l.rest
