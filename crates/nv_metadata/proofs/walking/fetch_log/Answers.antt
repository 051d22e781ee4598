use Rattle.std.proofs.Common.{◌≡◌, ℕ, ◌≤◌, ◌/◌, refl, ap, ◌∙◌, sym, subst, arith, length, take, rules}
use Rattle.std.proofs.lemmas.List.{length-take}
use Rattle.nv_blockset.specs.Listed.{Listed}
use Rattle.nv_region.specs.Region.{region_of}
use Rattle.nv_logpage.proofs.Steps.{start_inside}
use Rattle.nv_metadata.proofs.Same.{start_behind}
use Rattle.nv_metadata.specs.Linked.{link_in}
use Rattle.nv_metadata.specs.Memory.{held}
use Rattle.nv_metadata.proofs.SameLogs.{right_start}
use Rattle.nv_metadata.proofs.Walked.{IsWalked, walked_first, walked_on, walked_all}
use Rattle.nv_metadata.proofs.walking.fetch_log.Goals as goal

pub pages-init : goal.pages-init
pages-init g c =
    let s = c.args.sup.now in
    let head = c.args.log.head in
    let start = right_start s head c.args.log.tail c.requires.log.right in
    let inside = start_inside s head start in record {
      can = c.requires.log.can;
      front = (refl, refl);
      bound = ap (λ (l : Listed). l.bound) c.restart.ensures ∙ c.requires.all_blocks;
      few = omega (arith, ap (λ (l : Listed). l.bound) c.restart.ensures, ap (λ (l : Listed). length l.blocks) c.restart.ensures, c.requires.all_blocks, inside);
      behind = start_behind s head start;
      inside = inside;
      room = c.requires.room;
      walked = λ image known shows. subst (λ (l : Listed). IsWalked s (region_of image) head c.args.log.tail c.args.memory.now c.args.memory.now l.blocks (head / 4096)) (sym c.restart.ensures) (walked_first s (region_of image) head c.args.log.tail c.args.memory.now shows);
    }

pub pages-preserved : goal.pages-preserved
pages-preserved g c =
    let s = c.args.sup.now in
    let link = link_in c.fetch.new.memory.memory.region c.pages.block in
    let said = c.in-Some.ensures in
    let long : length (take c.wanted.result c.pages.room) ≡ c.wanted.result = (let n = length-take c.wanted.result c.pages.room in let room = c.pages.invariant.room in let few = c.wanted.ensures.some in omega (arith, n, room, few)) in
    let leads = said.next in
    let behind = start_behind s link said.start in
    let inside = start_inside s link said.start in record {
      can = c.fetch.ensures.can;
      front = (c.fetch.ensures.front.0 ∙ c.pages.invariant.front.0, c.fetch.ensures.front.1 ∙ c.pages.invariant.front.1);
      bound = ap (λ (l : Listed). l.bound) c.in_ok-push-in-Some.ensures.pushed ∙ c.pages.invariant.bound;
      few = c.push.ensures.few;
      behind = omega (arith, behind, leads);
      inside = omega (arith, inside, leads);
      room = search rules;
      walked = λ image known shows. (
          let is = c.pages.invariant.walked image known shows in
          let fetched = c.in_ok-fetch.ensures in
          subst (λ (l : Listed). IsWalked s (region_of image) c.args.log.head c.args.log.tail c.args.memory.now c.fetch.new.memory l.blocks c.in-Some.next) (sym c.in_ok-push-in-Some.ensures.pushed)
          (walked_on s (region_of image) c.args.log.head c.args.log.tail c.args.memory.now c.pages.memory c.fetch.new.memory c.pages.walked.blocks c.pages.block is
          (record { shows = fetched.shows image known is.shows; high = c.fetch.ensures.can.front; behind = c.pages.invariant.behind; here = subst (λ (n : ℕ). n ≤ held c.fetch.new.memory c.pages.block) (long ∙ c.wanted.ensures.wanted) fetched.more.here; keeps = fetched.more.keeps; only = fetched.more.only }) c.in-Some.next said.apart said.start leads));
    }

pub returns-in-None-clause-fetched : goal.returns-in-None-clause-fetched
returns-in-None-clause-fetched g c image known shows =
    let long : length (take c.wanted.result c.pages.room) ≡ c.wanted.result = (let n = length-take c.wanted.result c.pages.room in let room = c.pages.invariant.room in let few = c.wanted.ensures.some in omega (arith, n, room, few)) in
    let is = c.pages.invariant.walked image known shows in
    let fetched = c.in_ok-fetch.ensures in
    walked_all c.args.sup.now (region_of image) c.args.log.head c.args.log.tail c.args.memory.now c.pages.memory c.fetch.new.memory c.pages.walked.blocks c.pages.block is
    (record { shows = fetched.shows image known is.shows; high = c.fetch.ensures.can.front; behind = c.pages.invariant.behind; here = subst (λ (n : ℕ). n ≤ held c.fetch.new.memory c.pages.block) (long ∙ c.wanted.ensures.wanted) fetched.more.here; keeps = fetched.more.keeps; only = fetched.more.only }) c.in-None.ensures.none
