-- Blocks of an index's pages: they can be given back, and which are free then.
use Rattle.std.proofs.Common.{◌≡◌, ◌↔◌, ℕ, ◌+◌, ◌<◌, ◌≤◌, ◌⊎◌, inl, inr, List, [], ◌∷◌, ◌++◌, length, get_or, remove, refl, ap, sym, ◌∙◌, subst, arith, Option, Some, None, IfSome}
use Rattle.std.proofs.lemmas.Bool.{cases_lt}
use Rattle.nv_super.specs.declared.superblock.Super.{Super}
use Rattle.nv_super.specs.declared.owners.Run.{Run}
use Rattle.nv_super.specs.Layout.{system_blocks}
use Rattle.nv_super.specs.Runs.{InRun}
use Rattle.nv_super.proofs.Members.{none_in}
use Rattle.nv_super.proofs.Rising.{Contains-cons, Contains-head, Contains-tail}
use Rattle.nv_alloc.specs.FreeValue.{FreeLists}
use Rattle.nv_alloc.specs.FreeLists.{CanJoin, IsFreeIn, JoinAll, Joins, SameLists}
use Rattle.nv_alloc.specs.Taking.{HasBlock, pool_at, block_run}
use Rattle.nv_alloc.proofs.Sound.{free_within}
use Rattle.nv_alloc.proofs.Singly.{block_is}
use Rattle.nv_radix.specs.Pages.{Pages, block_at}
use Rattle.nv_steps.specs.Given.{GivesBlock, GivesPages, MapsOwn}
use Rattle.nv_steps.specs.Taken.{TakesEach, TakesInTurn}
use Rattle.nv_steps.proofs.TakenBlocks.{stays_free, taken_sup}
use Rattle.nv_steps.proofs.OneByOne.{takes_of}

-- ---- runs given back

-- what is free once they were joined was free, or is theirs
pub joined_from : (old new : FreeLists) (runs : List Run) → JoinAll old runs new → (cpu b : ℕ) → IsFreeIn new cpu b → IsFreeIn old cpu b ⊎ HasBlock runs b
joined_from old new [] same cpu b free = inl (subst (λ (a : FreeLists). IsFreeIn a cpu b) (sym same) free)
joined_from old new (run ∷ runs) w cpu b free = elim (joined_from w.0 new runs w.2 cpu b free) [
  | inl next ↦ elim (first next) [ inl was ↦ inl was | inr here ↦ inr (run, Contains-head run runs, here.0, here.1) ]
  | inr later ↦ inr (later.0, Contains-tail run runs later.0 later.1, later.2, later.3)
] where
  first : IsFreeIn w.0 cpu b → IsFreeIn old cpu b ⊎ InRun run b
  first next =
      let joins = w.1 in
      let count = joins.count in
      let inside = free_within w.0.pools cpu b next in
      elim ((joins.each cpu (omega (arith, inside, count))).each next.0 b next.1 next.2 next.3) [ inl was ↦ inl was | inr here ↦ inr here.1 ]

pub joined_sup : (old new : FreeLists) (runs : List Run) → JoinAll old runs new → new.sup ≡ old.sup
joined_sup old new [] same = ap (λ (a : FreeLists). a.sup) (sym same)
joined_sup old new (run ∷ runs) w = joined_sup w.0 new runs w.2 ∙ w.1.sup

pub joined_more : (old mid new : FreeLists) (runs : List Run) (run : Run) → JoinAll old runs mid → Joins mid run new → JoinAll old (runs ++ run ∷ []) new
joined_more old mid new [] run same joins = (new, subst (λ (a : FreeLists). Joins a run new) (sym same) joins, refl)
joined_more old mid new (r ∷ runs) run w joins = (w.0, w.1, joined_more w.0 mid new runs run w.2 joins)

-- ---- one page more

with_run : (runs : List Run) (run : Run) (b : ℕ) → HasBlock (runs ++ run ∷ []) b ↔ (HasBlock runs b ⊎ InRun run b)
with_run [] run b = (
  (λ w. elim (Contains-cons run [] w.0 w.1) [ inl e ↦ inr (subst (λ (r : Run). InRun r b) e (w.2, w.3)) | inr none ↦ absurd (none_in w.0 none) ]),
  (λ either. elim either [ inl none ↦ absurd (none_in none.0 none.1) | inr here ↦ (run, Contains-head run [], here.0, here.1) ]),
)
with_run (r ∷ runs) run b =
    let rest = with_run runs run b in (
      (λ w. elim (Contains-cons r (runs ++ run ∷ []) w.0 w.1) [
        | inl e ↦ (let inside = subst (λ (x : Run). InRun x b) e (w.2, w.3) in inl (r, Contains-head r runs, inside.0, inside.1))
        | inr c ↦ elim (rest.0 (w.0, c, w.2, w.3)) [ inl had ↦ inl (had.0, Contains-tail r runs had.0 had.1, had.2, had.3) | inr here ↦ inr here ]
      ]),
      (λ either. elim either [
        | inl had ↦ elim (Contains-cons r runs had.0 had.1) [
          | inl e ↦ (let inside = subst (λ (x : Run). InRun x b) e (had.2, had.3) in (r, Contains-head r (runs ++ run ∷ []), inside.0, inside.1))
          | inr c ↦ (let w = rest.1 (inl (had.0, c, had.2, had.3)) in (w.0, Contains-tail r (runs ++ run ∷ []) w.0 w.1, w.2, w.3))
        ]
        | inr here ↦ (let w = rest.1 (inr here) in (w.0, Contains-tail r (runs ++ run ∷ []) w.0 w.1, w.2, w.3))
      ]),
    )

-- no page yet
pub gives_none : (free : FreeLists) (m : Pages) (first : ℕ) → GivesPages free m first first free
gives_none free m first = record { runs = []; joined = refl; blocks = λ b. ((λ w. absurd (none_in w.0 w.1)), (λ w. absurd (let from = w.1 in let to = w.2 in omega (arith, from, to)))) }

-- the block of the next page can be given back
pub next_joins : {old now : FreeLists} {m : Pages} {first page : ℕ} → MapsOwn old m → first ≤ page → GivesPages old m first page now → (b : ℕ) → block_at m page ≡ Some b → CanJoin now (block_run b)
next_joins {old} {now} {m} {first} {page} own from given b at = record {
  «data» = λ c here. (let same = block_is b c here in
      subst (λ (s : Super). (system_blocks s ≤ c) × (c < s.blocks)) (sym (joined_sup old now given.runs given.joined)) (own.in_data page c (at ∙ ap Some (sym same))));
  used = λ cpu c here free_now. (let same = block_is b c here in
      elim (joined_from old now given.runs given.joined cpu c free_now) [
        | inl was ↦ own.used page c cpu (at ∙ ap Some (sym same)) was
        | inr gave ↦ (let w = (given.blocks c).0 gave in let page_is = own.once page w.0 c (at ∙ ap Some (sym same)) w.3 in let before = w.2 in absurd (omega (arith, page_is, before)))
      ]);
}

-- once it was
pub gives_next : {old now next : FreeLists} {m : Pages} {first page : ℕ} → first ≤ page → GivesPages old m first page now → (o : Option ℕ) → o ≡ block_at m page → GivesBlock now o next → GivesPages old m first (page + 1) next
gives_next {old} {now} {next} {m} {first} {page} from given None is same = let at : block_at m page ≡ None = sym is in record {
  runs = given.runs;
  joined = subst (λ (a : FreeLists). JoinAll old given.runs a) same given.joined;
  blocks = λ b. (
    (λ has. (let w = (given.blocks b).0 has in let to = w.2 in (w.0, w.1, omega (arith, to), w.3))),
    (λ w. elim (cases_lt w.0 page) [
      | inl before ↦ (given.blocks b).1 (w.0, w.1, before, w.3)
      | inr past ↦ absurd (let to = w.2 in let here : w.0 ≡ page = omega (arith, to, past) in let clash : None ≡ Some b = sym at ∙ ap (block_at m) (sym here) ∙ w.3 in cc)
    ]),
  );
}
gives_next {old} {now} {next} {m} {first} {page} from given (Some a) is joins = let at : block_at m page ≡ Some a = sym is in record {
  runs = given.runs ++ block_run a ∷ [];
  joined = joined_more old now next given.runs (block_run a) given.joined joins;
  blocks = λ b. (
    (λ has. elim ((with_run given.runs (block_run a) b).0 has) [
      | inl had ↦ (let w = (given.blocks b).0 had in let to = w.2 in (w.0, w.1, omega (arith, to), w.3))
      | inr here ↦ (page, from, omega arith, at ∙ ap Some (sym (block_is a b here)))
    ]),
    (λ w. (with_run given.runs (block_run a) b).1 (elim (cases_lt w.0 page) [
      | inl before ↦ inl ((given.blocks b).1 (w.0, w.1, before, w.3))
      | inr past ↦ inr (let to = w.2 in let here : w.0 ≡ page = omega (arith, to, past) in let both : Some a ≡ Some b = sym at ∙ ap (block_at m) (sym here) ∙ w.3 in let same : a ≡ b = cc in (omega (arith, same), omega (arith, same)))
    ])),
  );
}

-- where there is one
pub next_some : {old now : FreeLists} {m : Pages} {first page : ℕ} → MapsOwn old m → first ≤ page → GivesPages old m first page now → (o : Option ℕ) → o ≡ block_at m page → IfSome o (λ b. CanJoin now (block_run b))
next_some own from given None at = tt
next_some own from given (Some b) at = next_joins own from given b (sym at)

-- up to an end behind which no page was given
pub gives_end : {old now : FreeLists} {m : Pages} {first page end : ℕ} → GivesPages old m first page now → end ≤ page → (page ≤ end) ⊎ (page ≤ first) → GivesPages old m first end now
gives_end {old} {now} {m} {first} {page} {end} given past (inl at) = let same : page ≡ end = omega (arith, past, at) in subst (λ (n : ℕ). GivesPages old m first n now) same given
gives_end {old} {now} {m} {first} {page} {end} given past (inr none) = record {
  runs = given.runs;
  joined = given.joined;
  blocks = λ b. ((λ has. absurd (let w = (given.blocks b).0 has in let from = w.1 in let to = w.2 in omega (arith, from, to, none))), (λ w. absurd (let from = w.1 in let to = w.2 in omega (arith, from, to, past, none))));
}

-- ---- the index of a row

-- what is free once blocks were taken was free
pub was_free : {old new : FreeLists} {cpu : ℕ} {fresh : List ℕ} → TakesEach old cpu fresh new → (c b : ℕ) → IsFreeIn new c b → IsFreeIn old c b
was_free {old} {new} {cpu} {fresh} taken c b there = subst (λ (pools : List (List Run)). HasBlock (pool_at pools c) b) taken.same.pools (stays_free taken.from new fresh (takes_of taken) c b there)

-- The blocks of an index are in use also once others were taken.
pub own_taken : {old new : FreeLists} {cpu : ℕ} {fresh : List ℕ} {m : Pages} → TakesEach old cpu fresh new → MapsOwn old m → MapsOwn new m
own_taken {old} {new} {cpu} {fresh} {m} taken own = record {
  in_data = λ p b at. subst (λ (s : Super). (system_blocks s ≤ b) × (b < s.blocks)) (sym (taken_sup taken)) (own.in_data p b at);
  used = λ p b c at there. own.used p b c at (was_free taken c b there);
  once = own.once;
}

first_of : (xs : List ℕ) (a : ℕ) (rest : List ℕ) → 0 < length xs → a ≡ get_or xs 0 a → rest ≡ remove xs 0 → xs ≡ a ∷ rest
first_of [] a rest some at is = absurd (omega (arith, some))
first_of (x ∷ xs) a rest some at is = ap (λ (y : ℕ). y ∷ xs) (sym at) ∙ ap (λ (ys : List ℕ). a ∷ ys) (sym is)

-- Blocks that were taken once there was more room, the first of them by itself.
pub first_taken : {old from new : FreeLists} {cpu : ℕ} {blocks rest : List ℕ} {a : ℕ} → SameLists old from → TakesEach from cpu blocks new → 0 < length blocks → a ≡ get_or blocks 0 a → rest ≡ remove blocks 0 → TakesEach old cpu (a ∷ rest) new
first_taken {old} {from} {new} {cpu} {blocks} {rest} {a} same taken some at is =
    let there = taken.same in record {
      from = taken.from;
      same = record { sup = there.sup ∙ same.sup; pools = there.pools ∙ same.pools };
      sound = taken.sound;
      each = subst (λ (xs : List ℕ). TakesInTurn taken.from cpu xs new) (first_of blocks a rest some at is) taken.each;
    }
