use Rattle.std.proofs.Common.{◌∙◌, ◌≡◌, Option, false, refl, sym, subst, ap, rules}
use Rattle.std.proofs.lemmas.Result.{IfOk-weaker}
use Rattle.nv_region.specs.Region.{put}
use Rattle.nv_region.specs.RegionState.{RegionState}
use Rattle.nv_session.specs.Machine.{has_word}
use Rattle.nv_session.specs.Sessions.{StandsFor, region_in, memory_in}
use Rattle.nv_session.specs.declared.session.Session.{Session}
use Rattle.nv_session.specs.declared.store.Store.{Store}
use Rattle.nv_session.proofs.Moved.{pokes_moves}
use Rattle.nv_session.proofs.session.Session.poke.Goals as goal

pub returns : goal.returns
returns c = IfOk-weaker c.ok_text.result _ _ (λ text said. pokes_moves (memory_in c.in-Some.store).region c.args.at c.args.value c.poked.result c.args.self.now c.put.new.self _ (ap region_in (sym c.in-Some.ensures.value))
    (search rules) (c.poked.ensures.region ∙ ap (λ (m : RegionState). put m.region c.args.at c.args.value) c.into_memory.ensures) c.poked.ensures.settled c.put.ensures said) c.ok_text.ensures

pub returns-then-not-has_word : goal.returns-then-not-has_word
returns-then-not-has_word c =
    let same = c.hold.ensures ∙ ap (λ (x : Option Store). record c.args.self.now { store = x }) c.in-Some.ensures.value in
    let no_word : has_word (memory_in c.in-Some.store).region c.args.at ≡ false = search rules in
    IfOk-weaker c.refused_text-then-not-has_word.result _ _ (λ text said state stands. (state, rw (stands.region, ap region_in (sym c.in-Some.ensures.value), no_word) (said, refl), subst (λ (s : Session). StandsFor s state) (sym same) stands)) c.refused_text-then-not-has_word.ensures
