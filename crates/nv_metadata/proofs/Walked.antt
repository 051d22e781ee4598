-- A walk along a log's links: what was walked to, and when all of it was.
use Rattle.std.proofs.Common.{◌≡◌, ◌≢◌, ◌≤◌, ◌⊎◌, inl, inr, ◌+◌, ◌*◌, ◌/◌, ℕ, true, List, [], ◌∷◌, ◌++◌, refl, sym, ap, ◌∙◌, subst, arith}
use Rattle.std.proofs.lemmas.Bool.{cases_eq, ne_eqb}
use Rattle.std.specs.List.{Contains}
use Rattle.std.proofs.lemmas.List.Elements.{Contains-append_left, Contains-append_right, Contains-append_cases}
use Rattle.nv_region.specs.Region.{Region}
use Rattle.nv_super.specs.declared.superblock.Super.{Super}
use Rattle.nv_super.specs.Layout.{is_page_start, system_blocks}
use Rattle.nv_super.proofs.Members.{none_in}
use Rattle.nv_super.proofs.Rising.{Contains-cons, Contains-head}
use Rattle.nv_logpage.proofs.DataBlocks.{contains_snoc}
use Rattle.nv_metadata.specs.Linked.{IsLinked, first, next, link_in, wanted}
use Rattle.nv_metadata.specs.Memory.{MetadataState, Shows, held}
use Rattle.nv_metadata.specs.Walk.{IsFetched, AreFetched}
use Rattle.nv_metadata.specs.declared.logs.LogEnds.{LogEnds}

-- one block was fetched, as much of it as is wanted
pub record Fetched (s : Super) (R : Region) (tail : ℕ) (m new : MetadataState) (block : ℕ) : Type 0 where
  pub shows : Shows R new
  pub high : new.memory.front ≤ 4096 * system_blocks s
  pub behind : system_blocks s ≤ block
  pub here : wanted tail block ≤ held new block
  pub keeps : (b : ℕ) → held m b ≤ held new b
  pub only : (b : ℕ) → b ≢ block → held new b ≡ held m b

-- These blocks were walked to, the last of which is still to be fetched. Of all others as much is held as is wanted, and where they
-- lead was walked to.
pub record IsWalked (s : Super) (R : Region) (head tail : ℕ) (old m : MetadataState) (walked : List ℕ) (block : ℕ) : Type 0 where
  pub shows : Shows R m
  pub begins : Contains walked (head / 4096)
  pub here : Contains walked block
  pub linked : (b : ℕ) → Contains walked b → IsLinked R s head tail b
  pub all : (b : ℕ) → Contains walked b → b ≢ block → wanted tail b ≤ held m b
  pub closed : (b : ℕ) → Contains walked b → b ≢ block → b ≢ tail / 4096 → is_page_start s (link_in R b) ≡ true → Contains walked (link_in R b / 4096)
  pub keeps : (b : ℕ) → held old b ≤ held m b
  pub only : (b : ℕ) → (held m b ≡ held old b) ⊎ Contains walked b

-- of a block that isn't the tail's all bytes are wanted
wanted_all : (tail b : ℕ) → b ≢ tail / 4096 → wanted tail b ≡ 4096
wanted_all tail b apart = rw (ne_eqb b (tail / 4096) apart) refl

module _ (s : Super) (R : Region) (head tail : ℕ) (old : MetadataState) where
  pub walked_first : Shows R old → IsWalked s R head tail old old (head / 4096 ∷ []) (head / 4096)
  walked_first shows = record {
    shows = shows;
    begins = Contains-head (head / 4096) [];
    here = Contains-head (head / 4096) [];
    linked = λ b c. subst (λ (x : ℕ). IsLinked R s head tail x) (sym (alone b c)) first;
    all = λ b c other. absurd (other (alone b c));
    closed = λ b c other. absurd (other (alone b c));
    keeps = λ b. omega arith;
    only = λ b. inl refl;
  } where
    alone : (b : ℕ) → Contains (head / 4096 ∷ []) b → b ≡ head / 4096
    alone b c = elim (contains_snoc [] (head / 4096) b c) [ inl none ↦ absurd (none_in b none) | inr same ↦ same ]

  module _ (m new : MetadataState) (walked : List ℕ) (block : ℕ) (is : IsWalked s R head tail old m walked block) (f : Fetched s R tail m new block) where
    -- a page other than the tail's is held whole, with its link
    link_same : block ≢ tail / 4096 → link_in new.memory.region block ≡ link_in R block
    link_same apart =
        let all = wanted_all tail block apart in
        let some = f.here in
        let behind = f.behind in
        let place : (4096 * block + 4064) / 4096 ≡ block = omega arith in
        let count : held new ((4096 * block + 4064) / 4096) ≡ held new block = ap (held new) place in
        f.shows.pieces (4096 * block + 4064) (omega arith) (let high = f.high in omega (arith, behind, high)) (omega (arith, all, some, count))

    all_now : (b : ℕ) → Contains walked b → wanted tail b ≤ held new b
    all_now b c = elim (cases_eq b block) [
      | inl same ↦ subst (λ (x : ℕ). wanted tail x ≤ held new x) (sym same) f.here
      | inr other ↦ (let before = is.all b c other in let more = f.keeps b in omega (arith, before, more))
    ]

    keeps_now : (b : ℕ) → held old b ≤ held new b
    keeps_now b = (let before = is.keeps b in let more = f.keeps b in omega (arith, before, more))

    only_now : (b : ℕ) → (held new b ≡ held old b) ⊎ Contains walked b
    only_now b = elim (cases_eq b block) [
      | inl same ↦ inr (subst (λ (x : ℕ). Contains walked x) (sym same) is.here)
      | inr other ↦ elim (is.only b) [ inl before ↦ inl (f.only b other ∙ before) | inr c ↦ inr c ]
    ]

    -- where the block leads to one that wasn't walked to
    pub walked_on : (to : ℕ) → block ≢ tail / 4096 → is_page_start s (link_in new.memory.region block) ≡ true → to ≡ link_in new.memory.region block / 4096 → IsWalked s R head tail old new (walked ++ to ∷ []) to
    walked_on to apart start leads = record {
      shows = f.shows;
      begins = more (head / 4096) is.begins;
      here = last;
      linked = λ b c. elim (contains_snoc walked to b c) [ inl before ↦ is.linked b before | inr same ↦ subst (λ (x : ℕ). IsLinked R s head tail x) (sym same) to_linked ];
      all = λ b c other. all_now b (among b c other);
      closed = λ b c other not_tail starts. elim (cases_eq b block) [
        | inl same ↦ subst (λ (x : ℕ). Contains (walked ++ to ∷ []) x) (to_is ∙ ap (λ (x : ℕ). link_in R x / 4096) (sym same)) last
        | inr before ↦ more (link_in R b / 4096) (is.closed b (among b c other) before not_tail starts)
      ];
      keeps = keeps_now;
      only = λ b. elim (only_now b) [ inl before ↦ inl before | inr c ↦ inr (more b c) ];
    } where
      more : (b : ℕ) → Contains walked b → Contains (walked ++ to ∷ []) b
      more b c = Contains-append_left walked (to ∷ []) b c

      last : Contains (walked ++ to ∷ []) to
      last = Contains-append_right walked (to ∷ []) to (Contains-head to [])

      among : (b : ℕ) → Contains (walked ++ to ∷ []) b → b ≢ to → Contains walked b
      among b c other = elim (contains_snoc walked to b c) [ inl before ↦ before | inr same ↦ absurd (other same) ]

      to_is : to ≡ link_in R block / 4096
      to_is = leads ∙ ap (λ (w : ℕ). w / 4096) (link_same apart)

      to_linked : IsLinked R s head tail to
      to_linked = subst (λ (x : ℕ). IsLinked R s head tail x) (sym to_is) (next (is.linked block is.here) apart (ap (is_page_start s) (sym (link_same apart)) ∙ start))

    -- where it leads nowhere else
    pub walked_all : (block ≢ tail / 4096 → is_page_start s (link_in new.memory.region block) ≡ true → Contains walked (link_in new.memory.region block / 4096)) → IsFetched s R head tail old new
    walked_all ends = record {
      shows = f.shows;
      all = λ b h. all_now b (reached b h);
      keeps = keeps_now;
      only = λ b. elim (only_now b) [ inl before ↦ inl before | inr c ↦ inr (is.linked b c) ];
    } where
      leads : (b : ℕ) → Contains walked b → b ≢ tail / 4096 → is_page_start s (link_in R b) ≡ true → Contains walked (link_in R b / 4096)
      leads b c apart start = elim (cases_eq b block) [
        | inl same ↦ (
            let here : block ≢ tail / 4096 = (λ e. apart (same ∙ e)) in
            let link : link_in new.memory.region block ≡ link_in R b = link_same here ∙ ap (link_in R) (sym same) in
            subst (λ (w : ℕ). Contains walked (w / 4096)) link (ends here (ap (is_page_start s) link ∙ start)))
        | inr other ↦ is.closed b c other apart start
      ]

      reached : (b : ℕ) → IsLinked R s head tail b → Contains walked b
      reached _ first = is.begins
      reached _ (next {b} linked apart start) = leads b (reached b linked) apart start

-- ---- one log after another

pub fetched_more : (s : Super) (R : Region) (logs : List LogEnds) (log : LogEnds) (old m new : MetadataState) → AreFetched s R logs old m → IsFetched s R log.head log.tail m new → AreFetched s R (logs ++ log ∷ []) old new
fetched_more s R logs log old m new before this = record {
  shows = this.shows;
  all = λ x b c linked. elim (Contains-append_cases logs (log ∷ []) x c) [
    | inl old ↦ (let was = before.all x b old linked in let more = this.keeps b in omega (arith, was, more))
    | inr new ↦ this_all x b (alone x new) linked
  ];
  only = λ b. elim (this.only b) [
    | inl same ↦ elim (before.only b) [ inl o ↦ inl (same ∙ o) | inr l ↦ inr (l.0, Contains-append_left logs (log ∷ []) l.0 l.1, l.2) ]
    | inr linked ↦ inr (log, Contains-append_right logs (log ∷ []) log (Contains-head log []), linked)
  ];
} where
  alone : (x : LogEnds) → Contains (log ∷ []) x → x ≡ log
  alone x c = elim (Contains-cons log [] x c) [ inl same ↦ same | inr none ↦ absurd (none_in x none) ]

  this_all : (x : LogEnds) (b : ℕ) → x ≡ log → IsLinked R s x.head x.tail b → wanted x.tail b ≤ held new b
  this_all x b same linked = subst (λ (y : LogEnds). wanted y.tail b ≤ held new b) (sym same) (this.all b (subst (λ (y : LogEnds). IsLinked R s y.head y.tail b) same linked))
