use Rattle.std.proofs.Common.{◌≡◌, ◌∙◌, ◌≤◌, ℕ, true, false, inl, inr, subst, sym}
use Rattle.std.proofs.lemmas.Result.{IfErr-weaker, on_ok_weaker}
use Rattle.nv_alloc.specs.Taking.{all_blocks}
use Rattle.nv_rows.specs.Rows.{place_in}
use Rattle.nv_rows.proofs.Places.{at_place}
use Rattle.nv_tree.specs.declared.refusal.Refusal.{Refusal}
use Rattle.nv_steps.specs.Across.{LessenedAcross, TookAcross}
use Rattle.nv_steps.specs.Steps.{RefusesStep}
use Rattle.nv_calls.specs.ReplaceCalls.{ReplacedOver}
use Rattle.nv_calls.proofs.ReplaceAt.{more_links, over_blocks_go, over_blocks_stay, stays_at}
use Rattle.nv_calls.proofs.Stopped.{left_made}
use Rattle.nv_calls.proofs.replacing_across.replace_over.Goals as goal

pub lessen_over-requires : goal.lessen_over-requires
lessen_over-requires g c =
    record {
      move = c.requires.take.move;
      there = c.requires.there;
      apart = c.requires.apart;
      file_stands = c.requires.there_stands;
      more = λ file there.
          more_links file (stays_at true c.args.rows.now.items (place_in c.args.rows.now.items c.args.there) c.row.result.now c.keeps_others.result (at_place c.args.rows.now.items c.args.there ∙ c.row.ensures) c.keeps_others.ensures c.if-keeps_others.true file (at_place c.args.rows.now.items c.args.there ∙ there));
    }

pub take_over-requires : goal.take_over-requires
take_over-requires g c = c.requires.take

pub returns-then-keeps_others-clause-replaced : goal.returns-then-keeps_others-clause-replaced
returns-then-keeps_others-clause-replaced g c =
    on_ok_weaker c.lessen_over.result (λ step. inl (stays_at true c.args.rows.now.items (place_in c.args.rows.now.items c.args.there) c.row.result.now c.keeps_others.result (at_place c.args.rows.now.items c.args.there ∙ c.row.ensures) c.keeps_others.ensures c.if-keeps_others.true, step)) c.lessen_over.ensures.lessened

pub returns-then-keeps_others-clause-needs : goal.returns-then-keeps_others-clause-needs
returns-then-keeps_others-clause-needs g c from to file at to_at there =
    record {
      enough =
          let same = over_blocks_stay from to file c.args.moved.now.from.target c.args.moved.now.from.name.now c.args.moved.now.name.now c.args.time (stays_at true c.args.rows.now.items (place_in c.args.rows.now.items c.args.there) c.row.result.now c.keeps_others.result (at_place c.args.rows.now.items c.args.there ∙ c.row.ensures) c.keeps_others.ensures c.if-keeps_others.true file (at_place c.args.rows.now.items c.args.there ∙ there)) in
          on_ok_weaker c.lessen_over.result (λ enough. subst (λ (n : ℕ). n ≤ all_blocks c.args.free.now.pools) same enough) (c.lessen_over.ensures.enough from to file at to_at there);
      refused =
          let same = over_blocks_stay from to file c.args.moved.now.from.target c.args.moved.now.from.name.now c.args.moved.now.name.now c.args.time (stays_at true c.args.rows.now.items (place_in c.args.rows.now.items c.args.there) c.row.result.now c.keeps_others.result (at_place c.args.rows.now.items c.args.there ∙ c.row.ensures) c.keeps_others.ensures c.if-keeps_others.true file (at_place c.args.rows.now.items c.args.there ∙ there)) in
          IfErr-weaker c.lessen_over.result _ _ (λ (e : Refusal) refused. subst (λ (n : ℕ). RefusesStep e n c.args.free.now) same refused) (c.lessen_over.ensures.refused from to file at to_at there);
    }

pub returns-then-keeps_others-clause-any_stop : goal.returns-then-keeps_others-clause-any_stop
returns-then-keeps_others-clause-any_stop g c from to file held h k f at to_at there here other last settled left may =
    let is = stays_at true c.args.rows.now.items (place_in c.args.rows.now.items c.args.there) c.row.result.now c.keeps_others.result (at_place c.args.rows.now.items c.args.there ∙ c.row.ensures) c.keeps_others.ensures c.if-keeps_others.true file (at_place c.args.rows.now.items c.args.there ∙ there) in
    left_made (LessenedAcross (g.P.Pmem.region c.args.memory.now) c.args.tables.now.layout c.args.free.now c.args.cpu from to file c.args.moved.now.from.target c.args.moved.now.from.name.now c.args.moved.now.name.now c.args.time) (ReplacedOver (g.P.Pmem.region c.args.memory.now) c.args.tables.now.layout c.args.free.now c.args.cpu from to file c.args.moved.now.from.target c.args.moved.now.from.name.now c.args.moved.now.name.now c.args.time) (λ S w. inl (is, w)) left (c.lessen_over.ensures.any_stop from to file held h k f at to_at there here other last settled left may)

pub returns-then-keeps_others-clause-in_order : goal.returns-then-keeps_others-clause-in_order
returns-then-keeps_others-clause-in_order g c from to file held h k f at to_at there here other last said = c.lessen_over.ensures.in_order from to file held h k f at to_at there here other last

pub returns-then-keeps_others-clause-last_in_order : goal.returns-then-keeps_others-clause-last_in_order
returns-then-keeps_others-clause-last_in_order g c from to file held h k at to_at there here other said =
    let clash : true ≡ false = sym (stays_at true c.args.rows.now.items (place_in c.args.rows.now.items c.args.there) c.row.result.now c.keeps_others.result (at_place c.args.rows.now.items c.args.there ∙ c.row.ensures) c.keeps_others.ensures c.if-keeps_others.true file (at_place c.args.rows.now.items c.args.there ∙ there)) ∙ said in
    absurd (cc)

pub returns-then-keeps_others-clause-wrote : goal.returns-then-keeps_others-clause-wrote
returns-then-keeps_others-clause-wrote g c from to file held h k f at to_at there here other last said = c.lessen_over.ensures.wrote from to file held h k f at to_at there here other last

pub returns-then-keeps_others-clause-last_wrote : goal.returns-then-keeps_others-clause-last_wrote
returns-then-keeps_others-clause-last_wrote g c from to file held h k at to_at there here other said =
    let clash : true ≡ false = sym (stays_at true c.args.rows.now.items (place_in c.args.rows.now.items c.args.there) c.row.result.now c.keeps_others.result (at_place c.args.rows.now.items c.args.there ∙ c.row.ensures) c.keeps_others.ensures c.if-keeps_others.true file (at_place c.args.rows.now.items c.args.there ∙ there)) ∙ said in
    absurd (cc)

pub returns-else-keeps_others-clause-replaced : goal.returns-else-keeps_others-clause-replaced
returns-else-keeps_others-clause-replaced g c =
    on_ok_weaker c.take_over.result (λ step. inr (stays_at false c.args.rows.now.items (place_in c.args.rows.now.items c.args.there) c.row.result.now c.keeps_others.result (at_place c.args.rows.now.items c.args.there ∙ c.row.ensures) c.keeps_others.ensures c.if-keeps_others.false, step)) c.take_over.ensures.taken

pub returns-else-keeps_others-clause-needs : goal.returns-else-keeps_others-clause-needs
returns-else-keeps_others-clause-needs g c from to file at to_at there =
    record {
      enough =
          let same = over_blocks_go from to file c.args.moved.now.from.target c.args.moved.now.from.name.now c.args.moved.now.name.now c.args.time (stays_at false c.args.rows.now.items (place_in c.args.rows.now.items c.args.there) c.row.result.now c.keeps_others.result (at_place c.args.rows.now.items c.args.there ∙ c.row.ensures) c.keeps_others.ensures c.if-keeps_others.false file (at_place c.args.rows.now.items c.args.there ∙ there)) in
          on_ok_weaker c.take_over.result (λ enough. subst (λ (n : ℕ). n ≤ all_blocks c.args.free.now.pools) same enough) (c.take_over.ensures.enough from to file at to_at there);
      refused =
          let same = over_blocks_go from to file c.args.moved.now.from.target c.args.moved.now.from.name.now c.args.moved.now.name.now c.args.time (stays_at false c.args.rows.now.items (place_in c.args.rows.now.items c.args.there) c.row.result.now c.keeps_others.result (at_place c.args.rows.now.items c.args.there ∙ c.row.ensures) c.keeps_others.ensures c.if-keeps_others.false file (at_place c.args.rows.now.items c.args.there ∙ there)) in
          IfErr-weaker c.take_over.result _ _ (λ (e : Refusal) refused. subst (λ (n : ℕ). RefusesStep e n c.args.free.now) same refused) (c.take_over.ensures.refused from to file at to_at there);
    }

pub returns-else-keeps_others-clause-any_stop : goal.returns-else-keeps_others-clause-any_stop
returns-else-keeps_others-clause-any_stop g c from to file held h k f at to_at there here other last settled left may =
    let is = stays_at false c.args.rows.now.items (place_in c.args.rows.now.items c.args.there) c.row.result.now c.keeps_others.result (at_place c.args.rows.now.items c.args.there ∙ c.row.ensures) c.keeps_others.ensures c.if-keeps_others.false file (at_place c.args.rows.now.items c.args.there ∙ there) in
    left_made (TookAcross (g.P.Pmem.region c.args.memory.now) c.args.tables.now.layout c.args.free.now c.args.cpu from to c.args.moved.now.from.target file.inode c.args.moved.now.from.name.now c.args.moved.now.name.now c.args.time) (ReplacedOver (g.P.Pmem.region c.args.memory.now) c.args.tables.now.layout c.args.free.now c.args.cpu from to file c.args.moved.now.from.target c.args.moved.now.from.name.now c.args.moved.now.name.now c.args.time) (λ S w. inr (is, w)) left (c.take_over.ensures.any_stop from to file held h k at to_at there here other settled left may)

pub returns-else-keeps_others-clause-in_order : goal.returns-else-keeps_others-clause-in_order
returns-else-keeps_others-clause-in_order g c from to file held h k f at to_at there here other last said =
    let clash : false ≡ true = sym (stays_at false c.args.rows.now.items (place_in c.args.rows.now.items c.args.there) c.row.result.now c.keeps_others.result (at_place c.args.rows.now.items c.args.there ∙ c.row.ensures) c.keeps_others.ensures c.if-keeps_others.false file (at_place c.args.rows.now.items c.args.there ∙ there)) ∙ said in
    absurd (cc)

pub returns-else-keeps_others-clause-last_in_order : goal.returns-else-keeps_others-clause-last_in_order
returns-else-keeps_others-clause-last_in_order g c from to file held h k at to_at there here other said = c.take_over.ensures.in_order from to file held h k at to_at there here other

pub returns-else-keeps_others-clause-wrote : goal.returns-else-keeps_others-clause-wrote
returns-else-keeps_others-clause-wrote g c from to file held h k f at to_at there here other last said =
    let clash : false ≡ true = sym (stays_at false c.args.rows.now.items (place_in c.args.rows.now.items c.args.there) c.row.result.now c.keeps_others.result (at_place c.args.rows.now.items c.args.there ∙ c.row.ensures) c.keeps_others.ensures c.if-keeps_others.false file (at_place c.args.rows.now.items c.args.there ∙ there)) ∙ said in
    absurd (cc)

pub returns-else-keeps_others-clause-last_wrote : goal.returns-else-keeps_others-clause-last_wrote
returns-else-keeps_others-clause-last_wrote g c from to file held h k at to_at there here other said = c.take_over.ensures.wrote from to file held h k at to_at there here other
