use Rattle.std.proofs.Common.{◌≡◌, ◌∙◌, ◌≤◌, ℕ, true, false, inl, inr, subst, sym}
use Rattle.std.proofs.lemmas.Result.{IfErr-weaker, on_ok_weaker}
use Rattle.nv_alloc.specs.Taking.{all_blocks}
use Rattle.nv_rows.specs.Rows.{place_in}
use Rattle.nv_rows.proofs.Places.{at_place}
use Rattle.nv_tree.specs.declared.refusal.Refusal.{Refusal}
use Rattle.nv_steps.specs.Lessens.{Lessened}
use Rattle.nv_steps.specs.Steps.{RefusesStep}
use Rattle.nv_steps.specs.Takes.{TookWithin}
use Rattle.nv_calls.specs.ReplaceCalls.{ReplacedHere}
use Rattle.nv_calls.proofs.ReplaceAt.{stays_at, blocks_go, blocks_stay, more_links}
use Rattle.nv_calls.proofs.Stopped.{left_made}
use Rattle.nv_calls.proofs.replacing.replace_within.Goals as goal

pub lessen_at-requires-clause-can : goal.lessen_at-requires-clause-can
lessen_at-requires-clause-can g c =
    record {
      directory = c.requires.directory;
      target = c.requires.target;
      apart = c.requires.apart;
      more = λ file there.
          more_links file (stays_at true c.args.rows.now.items (place_in c.args.rows.now.items c.args.there) c.row.result.now c.keeps_others.result (at_place c.args.rows.now.items c.args.there ∙ c.row.ensures) c.keeps_others.ensures c.if-keeps_others.true file (at_place c.args.rows.now.items c.args.there ∙ there));
      stands = c.requires.stands;
      file_stands = c.requires.file_stands;
      name = c.requires.name;
    }

pub take_at-requires-clause-can : goal.take_at-requires-clause-can
take_at-requires-clause-can g c =
    record {
      directory = c.requires.directory;
      target = c.requires.target;
      stands = λ row at. (c.requires.stands row at).0;
      can = c.requires.can;
      owns = c.requires.owns;
      name = c.requires.name;
    }

pub returns-then-keeps_others-clause-replaced : goal.returns-then-keeps_others-clause-replaced
returns-then-keeps_others-clause-replaced g c =
    on_ok_weaker c.lessen_at.result (λ step. inl (stays_at true c.args.rows.now.items (place_in c.args.rows.now.items c.args.there) c.row.result.now c.keeps_others.result (at_place c.args.rows.now.items c.args.there ∙ c.row.ensures) c.keeps_others.ensures c.if-keeps_others.true, step)) c.lessen_at.ensures.lessened

pub returns-then-keeps_others-clause-needs : goal.returns-then-keeps_others-clause-needs
returns-then-keeps_others-clause-needs g c row file at there =
    record {
      enough =
          let same = blocks_stay row file c.args.moved.now.from.target c.args.moved.now.from.name.now c.args.moved.now.name.now c.args.time (stays_at true c.args.rows.now.items (place_in c.args.rows.now.items c.args.there) c.row.result.now c.keeps_others.result (at_place c.args.rows.now.items c.args.there ∙ c.row.ensures) c.keeps_others.ensures c.if-keeps_others.true file (at_place c.args.rows.now.items c.args.there ∙ there)) in
          on_ok_weaker c.lessen_at.result (λ enough. subst (λ (n : ℕ). n ≤ all_blocks c.args.free.now.pools) same enough) (c.lessen_at.ensures.enough row file at there);
      refused =
          let same = blocks_stay row file c.args.moved.now.from.target c.args.moved.now.from.name.now c.args.moved.now.name.now c.args.time (stays_at true c.args.rows.now.items (place_in c.args.rows.now.items c.args.there) c.row.result.now c.keeps_others.result (at_place c.args.rows.now.items c.args.there ∙ c.row.ensures) c.keeps_others.ensures c.if-keeps_others.true file (at_place c.args.rows.now.items c.args.there ∙ there)) in
          IfErr-weaker c.lessen_at.result _ _ (λ (e : Refusal) refused. subst (λ (n : ℕ). RefusesStep e n c.args.free.now) same refused) (c.lessen_at.ensures.refused row file at there);
    }

pub returns-then-keeps_others-clause-any_stop : goal.returns-then-keeps_others-clause-any_stop
returns-then-keeps_others-clause-any_stop g c row file held h f at there here other settled left may =
    let is = stays_at true c.args.rows.now.items (place_in c.args.rows.now.items c.args.there) c.row.result.now c.keeps_others.result (at_place c.args.rows.now.items c.args.there ∙ c.row.ensures) c.keeps_others.ensures c.if-keeps_others.true file (at_place c.args.rows.now.items c.args.there ∙ there) in
    left_made (Lessened (g.P.Pmem.region c.args.memory.now) c.args.tables.now.layout c.args.free.now c.args.cpu row file c.args.moved.now.from.target c.args.moved.now.from.name.now c.args.moved.now.name.now c.args.time) (ReplacedHere (g.P.Pmem.region c.args.memory.now) c.args.tables.now.layout c.args.free.now c.args.cpu row file c.args.moved.now.from.target c.args.moved.now.from.name.now c.args.moved.now.name.now c.args.time) (λ S w. inl (is, w)) left (c.lessen_at.ensures.any_stop row file held h f at there here other settled left may)

pub returns-then-keeps_others-clause-in_order : goal.returns-then-keeps_others-clause-in_order
returns-then-keeps_others-clause-in_order g c row file held h f at there here other said = c.lessen_at.ensures.in_order row file held h f at there here other

pub returns-then-keeps_others-clause-last_in_order : goal.returns-then-keeps_others-clause-last_in_order
returns-then-keeps_others-clause-last_in_order g c row file held h at there here said =
    let clash : true ≡ false = sym (stays_at true c.args.rows.now.items (place_in c.args.rows.now.items c.args.there) c.row.result.now c.keeps_others.result (at_place c.args.rows.now.items c.args.there ∙ c.row.ensures) c.keeps_others.ensures c.if-keeps_others.true file (at_place c.args.rows.now.items c.args.there ∙ there)) ∙ said in
    absurd (cc)

pub returns-then-keeps_others-clause-wrote : goal.returns-then-keeps_others-clause-wrote
returns-then-keeps_others-clause-wrote g c row file held h f at there here other said = c.lessen_at.ensures.wrote row file held h f at there here other

pub returns-then-keeps_others-clause-last_wrote : goal.returns-then-keeps_others-clause-last_wrote
returns-then-keeps_others-clause-last_wrote g c row file held h at there here said =
    let clash : true ≡ false = sym (stays_at true c.args.rows.now.items (place_in c.args.rows.now.items c.args.there) c.row.result.now c.keeps_others.result (at_place c.args.rows.now.items c.args.there ∙ c.row.ensures) c.keeps_others.ensures c.if-keeps_others.true file (at_place c.args.rows.now.items c.args.there ∙ there)) ∙ said in
    absurd (cc)

pub returns-else-keeps_others-clause-replaced : goal.returns-else-keeps_others-clause-replaced
returns-else-keeps_others-clause-replaced g c =
    on_ok_weaker c.take_at.result (λ step. inr (stays_at false c.args.rows.now.items (place_in c.args.rows.now.items c.args.there) c.row.result.now c.keeps_others.result (at_place c.args.rows.now.items c.args.there ∙ c.row.ensures) c.keeps_others.ensures c.if-keeps_others.false, step)) c.take_at.ensures.taken

pub returns-else-keeps_others-clause-needs : goal.returns-else-keeps_others-clause-needs
returns-else-keeps_others-clause-needs g c row file at there =
    record {
      enough =
          let same = blocks_go row file c.args.moved.now.from.target c.args.moved.now.from.name.now c.args.moved.now.name.now c.args.time (stays_at false c.args.rows.now.items (place_in c.args.rows.now.items c.args.there) c.row.result.now c.keeps_others.result (at_place c.args.rows.now.items c.args.there ∙ c.row.ensures) c.keeps_others.ensures c.if-keeps_others.false file (at_place c.args.rows.now.items c.args.there ∙ there)) in
          on_ok_weaker c.take_at.result (λ enough. subst (λ (n : ℕ). n ≤ all_blocks c.args.free.now.pools) same enough) (c.take_at.ensures.enough row file at there);
      refused =
          let same = blocks_go row file c.args.moved.now.from.target c.args.moved.now.from.name.now c.args.moved.now.name.now c.args.time (stays_at false c.args.rows.now.items (place_in c.args.rows.now.items c.args.there) c.row.result.now c.keeps_others.result (at_place c.args.rows.now.items c.args.there ∙ c.row.ensures) c.keeps_others.ensures c.if-keeps_others.false file (at_place c.args.rows.now.items c.args.there ∙ there)) in
          IfErr-weaker c.take_at.result _ _ (λ (e : Refusal) refused. subst (λ (n : ℕ). RefusesStep e n c.args.free.now) same refused) (c.take_at.ensures.refused row file at there);
    }

pub returns-else-keeps_others-clause-any_stop : goal.returns-else-keeps_others-clause-any_stop
returns-else-keeps_others-clause-any_stop g c row file held h f at there here other settled left may =
    let is = stays_at false c.args.rows.now.items (place_in c.args.rows.now.items c.args.there) c.row.result.now c.keeps_others.result (at_place c.args.rows.now.items c.args.there ∙ c.row.ensures) c.keeps_others.ensures c.if-keeps_others.false file (at_place c.args.rows.now.items c.args.there ∙ there) in
    left_made (TookWithin (g.P.Pmem.region c.args.memory.now) c.args.tables.now.layout c.args.free.now c.args.cpu row c.args.moved.now.from.target file.inode c.args.moved.now.from.name.now c.args.moved.now.name.now c.args.time) (ReplacedHere (g.P.Pmem.region c.args.memory.now) c.args.tables.now.layout c.args.free.now c.args.cpu row file c.args.moved.now.from.target c.args.moved.now.from.name.now c.args.moved.now.name.now c.args.time) (λ S w. inr (is, w)) left (c.take_at.ensures.any_stop row file held h at there here settled left may)

pub returns-else-keeps_others-clause-in_order : goal.returns-else-keeps_others-clause-in_order
returns-else-keeps_others-clause-in_order g c row file held h f at there here other said =
    let clash : false ≡ true = sym (stays_at false c.args.rows.now.items (place_in c.args.rows.now.items c.args.there) c.row.result.now c.keeps_others.result (at_place c.args.rows.now.items c.args.there ∙ c.row.ensures) c.keeps_others.ensures c.if-keeps_others.false file (at_place c.args.rows.now.items c.args.there ∙ there)) ∙ said in
    absurd (cc)

pub returns-else-keeps_others-clause-last_in_order : goal.returns-else-keeps_others-clause-last_in_order
returns-else-keeps_others-clause-last_in_order g c row file held h at there here said = c.take_at.ensures.in_order row file held h at there here

pub returns-else-keeps_others-clause-wrote : goal.returns-else-keeps_others-clause-wrote
returns-else-keeps_others-clause-wrote g c row file held h f at there here other said =
    let clash : false ≡ true = sym (stays_at false c.args.rows.now.items (place_in c.args.rows.now.items c.args.there) c.row.result.now c.keeps_others.result (at_place c.args.rows.now.items c.args.there ∙ c.row.ensures) c.keeps_others.ensures c.if-keeps_others.false file (at_place c.args.rows.now.items c.args.there ∙ there)) ∙ said in
    absurd (cc)

pub returns-else-keeps_others-clause-last_wrote : goal.returns-else-keeps_others-clause-last_wrote
returns-else-keeps_others-clause-last_wrote g c row file held h at there here said = c.take_at.ensures.wrote row file held h at there here
