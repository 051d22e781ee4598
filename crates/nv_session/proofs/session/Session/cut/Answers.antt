use Rattle.std.proofs.Common.{◌∙◌, ◌≡◌, Option, false, nat_le, refl, sym, subst, ap, arith}
use Rattle.std.proofs.lemmas.Bool.{le-leb, lt-leb}
use Rattle.std.proofs.lemmas.Result.{IfOk-weaker}
use Rattle.nv_region.specs.Region.{size}
use Rattle.nv_region.specs.RegionState.{RegionState}
use Rattle.nv_session.specs.Machine.{front}
use Rattle.nv_session.specs.Sessions.{StandsFor, region_in, memory_in}
use Rattle.nv_session.specs.declared.session.Session.{Session}
use Rattle.nv_session.specs.declared.store.Store.{Store}
use Rattle.nv_session.proofs.Moved.{cuts_moves}
use Rattle.nv_session.proofs.session.Session.cut.Goals as goal

pub returns : goal.returns
returns c = IfOk-weaker c.put_front.result _ _ (λ text w. cuts_moves (memory_in c.in-Some.store).region c.args.length w.1 c.args.self.now c.put_front.new.self _ (ap region_in (sym c.in-Some.ensures.value))
    (le-leb _ _ (let bytes = c.len.ensures.bytes in let within = c.if-length-len.false in let same = ap (λ (m : RegionState). size m.region) c.memory.ensures in omega (arith, bytes, within, same)))
    (w.2 ∙ ap (λ (m : RegionState). front m.region c.args.length) c.into_memory.ensures) w.3 w.4 w.0) c.put_front.ensures

pub returns-then-length-len : goal.returns-then-length-len
returns-then-length-len c =
    let same = c.hold.ensures ∙ ap (λ (x : Option Store). record c.args.self.now { store = x }) c.in-Some.ensures.value in
    let bytes = c.len.ensures.bytes in
    let beyond = c.if-length-len.true in
    let memory = ap (λ (m : RegionState). size m.region) c.memory.ensures in
    let too_long : nat_le c.args.length (size (memory_in c.in-Some.store).region) ≡ false = lt-leb _ _ (omega (arith, bytes, beyond, memory)) in
    IfOk-weaker c.refused_text-then-length-len.result _ _ (λ text said state stands. (state, rw (stands.region, ap region_in (sym c.in-Some.ensures.value), too_long) (said, refl), subst (λ (s : Session). StandsFor s state) (sym same) stands)) c.refused_text-then-length-len.ensures
