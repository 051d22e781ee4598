use Rattle.std.proofs.lemmas.Bool.{true≢false}
use Rattle.nv_scan.proofs.working.worker.Goals as goal

pub returns-in-Ok-clause-returned : goal.returns-in-Ok-clause-returned
returns-in-Ok-clause-returned g c = record {
  map = c.draw_all.ensures.seat.0;
  seats = c.draw_all.ensures.seat.2;
  ended = λ _. c.in-Ok.ensures.done.ended;
  work = λ _. c.in-Ok.ensures.done.work;
}

pub returns-in-Err-clause-returned : goal.returns-in-Err-clause-returned
returns-in-Err-clause-returned g c = record {
  map = c.draw_all.ensures.seat.0;
  seats = c.draw_all.ensures.seat.2;
  ended = λ e. absurd (true≢false e);
  work = λ e. absurd (true≢false e);
}

pub returns-in-Ok-clause-entered : goal.returns-in-Ok-clause-entered
returns-in-Ok-clause-entered g c whole = c.in-Ok.ensures.entered

pub returns-in-Err-clause-entered : goal.returns-in-Err-clause-entered
returns-in-Err-clause-entered g c e = absurd (true≢false e)
