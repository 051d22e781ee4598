use Rattle.std.proofs.Common.{◌∙◌, ◌≤◌, ℕ, inl, inr, subst, arith}
use Rattle.std.proofs.lemmas.Result.{IfErr-weaker, on_ok_weaker}
use Rattle.nv_alloc.specs.Taking.{all_blocks}
use Rattle.nv_rows.specs.Rows.{place_in}
use Rattle.nv_rows.proofs.Places.{at_place}
use Rattle.nv_tree.specs.declared.refusal.Refusal.{Refusal}
use Rattle.nv_steps.specs.Stopped.{Cut, Unlinked}
use Rattle.nv_steps.specs.Steps.{RefusesStep}
use Rattle.nv_calls.specs.Stopped.{Released}
use Rattle.nv_calls.proofs.Stopped.{left_made}
use Rattle.nv_calls.proofs.Released.{all_last, all_more, blocks_last, blocks_more}
use Rattle.nv_calls.proofs.unlinking.release_at.Goals as goal

pub unlink_at-requires : goal.unlink_at-requires
unlink_at-requires g c =
    record {
      directory = c.requires.directory;
      target = c.requires.target;
      apart = c.requires.apart;
      more = λ file there. all_more c.args.rows.now.items (place_in c.args.rows.now.items c.args.named.now.target) c.row.result.now (at_place c.args.rows.now.items c.args.named.now.target ∙ c.row.ensures) c.has_more_links.result c.has_more_links.ensures c.if-has_more_links.true file (at_place c.args.rows.now.items c.args.named.now.target ∙ there);
      stands = c.requires.stands;
      file_stands = c.requires.file_stands;
      name = c.requires.name;
    }

pub remove_named-requires-clause-stands : goal.remove_named-requires-clause-stands
remove_named-requires-clause-stands g c row at = (c.requires.stands row at).0

pub returns-then-has_more_links-clause-released : goal.returns-then-has_more_links-clause-released
returns-then-has_more_links-clause-released g c = on_ok_weaker c.unlink_at.result (λ step. inl (all_more c.args.rows.now.items (place_in c.args.rows.now.items c.args.named.now.target) c.row.result.now (at_place c.args.rows.now.items c.args.named.now.target ∙ c.row.ensures) c.has_more_links.result c.has_more_links.ensures c.if-has_more_links.true, step)) c.unlink_at.ensures.unlinked

pub returns-then-has_more_links-clause-enough : goal.returns-then-has_more_links-clause-enough
returns-then-has_more_links-clause-enough g c row file at there =
    let same = blocks_more row file c.args.named.now.name.now c.args.time (all_more c.args.rows.now.items (place_in c.args.rows.now.items c.args.named.now.target) c.row.result.now (at_place c.args.rows.now.items c.args.named.now.target ∙ c.row.ensures) c.has_more_links.result c.has_more_links.ensures c.if-has_more_links.true file (at_place c.args.rows.now.items c.args.named.now.target ∙ there)) in
    on_ok_weaker c.unlink_at.result (λ enough. subst (λ (n : ℕ). n ≤ all_blocks c.args.free.now.pools) same enough) (c.unlink_at.ensures.enough row file at there)

pub returns-then-has_more_links-clause-refused : goal.returns-then-has_more_links-clause-refused
returns-then-has_more_links-clause-refused g c row file at there =
    let same = blocks_more row file c.args.named.now.name.now c.args.time (all_more c.args.rows.now.items (place_in c.args.rows.now.items c.args.named.now.target) c.row.result.now (at_place c.args.rows.now.items c.args.named.now.target ∙ c.row.ensures) c.has_more_links.result c.has_more_links.ensures c.if-has_more_links.true file (at_place c.args.rows.now.items c.args.named.now.target ∙ there)) in
    IfErr-weaker c.unlink_at.result _ _ (λ (e : Refusal) refused. subst (λ (n : ℕ). RefusesStep e n c.args.free.now) same refused) (c.unlink_at.ensures.refused row file at there)

pub returns-else-has_more_links-clause-released : goal.returns-else-has_more_links-clause-released
returns-else-has_more_links-clause-released g c = on_ok_weaker c.remove_named.result (λ step. inr (all_last c.args.rows.now.items (place_in c.args.rows.now.items c.args.named.now.target) c.row.result.now (at_place c.args.rows.now.items c.args.named.now.target ∙ c.row.ensures) c.has_more_links.result c.has_more_links.ensures c.if-has_more_links.false, step)) c.remove_named.ensures.removed

pub returns-else-has_more_links-clause-enough : goal.returns-else-has_more_links-clause-enough
returns-else-has_more_links-clause-enough g c row file at there =
    let same = blocks_last row file c.args.named.now.name.now c.args.time (all_last c.args.rows.now.items (place_in c.args.rows.now.items c.args.named.now.target) c.row.result.now (at_place c.args.rows.now.items c.args.named.now.target ∙ c.row.ensures) c.has_more_links.result c.has_more_links.ensures c.if-has_more_links.false file (at_place c.args.rows.now.items c.args.named.now.target ∙ there)) in
    on_ok_weaker c.remove_named.result (λ enough. subst (λ (n : ℕ). n ≤ all_blocks c.args.free.now.pools) same enough) (c.remove_named.ensures.enough row file at there)

pub returns-else-has_more_links-clause-refused : goal.returns-else-has_more_links-clause-refused
returns-else-has_more_links-clause-refused g c row file at there =
    let same = blocks_last row file c.args.named.now.name.now c.args.time (all_last c.args.rows.now.items (place_in c.args.rows.now.items c.args.named.now.target) c.row.result.now (at_place c.args.rows.now.items c.args.named.now.target ∙ c.row.ensures) c.has_more_links.result c.has_more_links.ensures c.if-has_more_links.false file (at_place c.args.rows.now.items c.args.named.now.target ∙ there)) in
    IfErr-weaker c.remove_named.result _ _ (λ (e : Refusal) refused. subst (λ (n : ℕ). RefusesStep e n c.args.free.now) same refused) (c.remove_named.ensures.refused row file at there)

pub returns-then-has_more_links-clause-any_stop : goal.returns-then-has_more_links-clause-any_stop
returns-then-has_more_links-clause-any_stop g c row file held h f at there here other settled left may =
    let links = all_more c.args.rows.now.items (place_in c.args.rows.now.items c.args.named.now.target) c.row.result.now (at_place c.args.rows.now.items c.args.named.now.target ∙ c.row.ensures) c.has_more_links.result c.has_more_links.ensures c.if-has_more_links.true file (at_place c.args.rows.now.items c.args.named.now.target ∙ there) in
    left_made (Unlinked (g.P.Pmem.region c.args.memory.now) c.args.tables.now.layout c.args.free.now c.args.cpu row file c.args.named.now.name.now c.args.time) (Released (g.P.Pmem.region c.args.memory.now) c.args.tables.now.layout c.args.free.now c.args.cpu row file c.args.named.now.name.now c.args.time) (λ S w. inl (links, w)) left (c.unlink_at.ensures.any_stop row file held h f at there here other settled left may)

pub returns-else-has_more_links-clause-any_stop : goal.returns-else-has_more_links-clause-any_stop
returns-else-has_more_links-clause-any_stop g c row file held h f at there here other settled left may =
    let links = all_last c.args.rows.now.items (place_in c.args.rows.now.items c.args.named.now.target) c.row.result.now (at_place c.args.rows.now.items c.args.named.now.target ∙ c.row.ensures) c.has_more_links.result c.has_more_links.ensures c.if-has_more_links.false file (at_place c.args.rows.now.items c.args.named.now.target ∙ there) in
    left_made (Cut (g.P.Pmem.region c.args.memory.now) c.args.tables.now.layout c.args.free.now c.args.cpu row file.inode c.args.time c.args.named.now.name.now) (Released (g.P.Pmem.region c.args.memory.now) c.args.tables.now.layout c.args.free.now c.args.cpu row file c.args.named.now.name.now c.args.time) (λ S w. inr (links, w)) left (c.remove_named.ensures.any_stop row file held h at there here settled left may)

pub returns-then-has_more_links-clause-in_order : goal.returns-then-has_more_links-clause-in_order
returns-then-has_more_links-clause-in_order g c row file held h f at there here other some = c.unlink_at.ensures.in_order row file held h f at there here other

pub returns-then-has_more_links-clause-last_in_order : goal.returns-then-has_more_links-clause-last_in_order
returns-then-has_more_links-clause-last_in_order g c row file held h f at there here other few =
    let links = all_more c.args.rows.now.items (place_in c.args.rows.now.items c.args.named.now.target) c.row.result.now (at_place c.args.rows.now.items c.args.named.now.target ∙ c.row.ensures) c.has_more_links.result c.has_more_links.ensures c.if-has_more_links.true file (at_place c.args.rows.now.items c.args.named.now.target ∙ there) in
    absurd (omega (arith, links, few))

pub returns-else-has_more_links-clause-in_order : goal.returns-else-has_more_links-clause-in_order
returns-else-has_more_links-clause-in_order g c row file held h f at there here other some =
    let links = all_last c.args.rows.now.items (place_in c.args.rows.now.items c.args.named.now.target) c.row.result.now (at_place c.args.rows.now.items c.args.named.now.target ∙ c.row.ensures) c.has_more_links.result c.has_more_links.ensures c.if-has_more_links.false file (at_place c.args.rows.now.items c.args.named.now.target ∙ there) in
    absurd (omega (arith, links, some))

pub returns-else-has_more_links-clause-last_in_order : goal.returns-else-has_more_links-clause-last_in_order
returns-else-has_more_links-clause-last_in_order g c row file held h f at there here other few = c.remove_named.ensures.in_order row file held h at there here

pub returns-then-has_more_links-clause-wrote : goal.returns-then-has_more_links-clause-wrote
returns-then-has_more_links-clause-wrote g c row file held h f at there here other some = c.unlink_at.ensures.wrote row file held h f at there here other

pub returns-else-has_more_links-clause-wrote : goal.returns-else-has_more_links-clause-wrote
returns-else-has_more_links-clause-wrote g c row file held h f at there here other some =
    let links = all_last c.args.rows.now.items (place_in c.args.rows.now.items c.args.named.now.target) c.row.result.now (at_place c.args.rows.now.items c.args.named.now.target ∙ c.row.ensures) c.has_more_links.result c.has_more_links.ensures c.if-has_more_links.false file (at_place c.args.rows.now.items c.args.named.now.target ∙ there) in
    absurd (omega (arith, links, some))

pub returns-then-has_more_links-clause-last_wrote : goal.returns-then-has_more_links-clause-last_wrote
returns-then-has_more_links-clause-last_wrote g c row file held h f at there here other few =
    let links = all_more c.args.rows.now.items (place_in c.args.rows.now.items c.args.named.now.target) c.row.result.now (at_place c.args.rows.now.items c.args.named.now.target ∙ c.row.ensures) c.has_more_links.result c.has_more_links.ensures c.if-has_more_links.true file (at_place c.args.rows.now.items c.args.named.now.target ∙ there) in
    absurd (omega (arith, links, few))

pub returns-else-has_more_links-clause-last_wrote : goal.returns-else-has_more_links-clause-last_wrote
returns-else-has_more_links-clause-last_wrote g c row file held h f at there here other few = c.remove_named.ensures.wrote row file held h at there here
