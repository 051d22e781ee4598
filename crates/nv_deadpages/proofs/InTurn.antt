-- Pages of a file's log that go one after another, where it says the same without all of them.
use Rattle.std.proofs.Common.{◌≡◌, ◌≢◌, ◌⊎◌, inl, inr, ℕ, zero, suc, ◌+◌, ◌/◌, ◌<◌, ◌≤◌, List, [], ◌∷◌, ◌++◌, length, get_or, append_assoc, refl, ap, sym, ◌∙◌, subst, arith, not, Option, Some, None, unwrap_or}
use Rattle.std.specs.List.{Contains, remove}
use Rattle.std.proofs.Math.Dec.{eqb}
use Rattle.std.proofs.lemmas.List.Edits.{get_or-remove_above, get_or-remove_below, length-remove}
use Rattle.std.proofs.lemmas.List.Elements.{Contains-append_right, Contains-get_or}
use Rattle.nv_super.specs.declared.superblock.Super.{Super}
use Rattle.nv_super.specs.declared.kind.Kind.{Kind}
use Rattle.nv_super.specs.declared.kind.Kind.TheVariants.{File}
use Rattle.nv_super.specs.declared.faults.Fault.{Fault}
use Rattle.nv_super.specs.declared.faults.Fault.TheVariants as faults
use Rattle.nv_super.proofs.Filters.{from_filter, into_filter}
use Rattle.nv_super.proofs.Members.{none_in}
use Rattle.nv_super.proofs.Rising.{Contains-cons, Contains-head}
use Rattle.nv_entry.specs.Content.{is_good}
use Rattle.nv_logpage.specs.declared.found.Placed.{Placed}
use Rattle.nv_logpage.specs.Good.{good_entries}
use Rattle.nv_logpage.specs.Unlinked.{without_page}
use Rattle.nv_logpage.proofs.Unlinked.{gone_all, kept_all, without-append}
use Rattle.nv_scan.specs.LastWord.{last_word}
use Rattle.nv_scan.specs.State.{says_size, says_mode, says_owner, says_group, says_links, says_time, says_block, says_name}
use Rattle.nv_scan.specs.Faults.{IsEntryFault, StandsBehind, e1, e2, e3, e4}
use Rattle.nv_deadpages.specs.Dead.{CanGo, IsDead, SameState}
use Rattle.nv_deadpages.specs.InTurn.{GoInTurn, IsCleanLog}
use Rattle.nv_scan.proofs.Blocks.{last_word-all}
use Rattle.nv_scan.proofs.Words.{last_word-cons, words-more}
use Rattle.nv_deadpages.proofs.InPages.{InPages, at_place, in_pages_without}

-- ---- last words

-- Elements say nothing of a subject, or their last word is the same whatever was said before them.
silent_or_told : {A V : Type 0} (says : A → Option V) (ys : List A) → ((y : A) → Contains ys y → says y ≡ None) ⊎ ((d e : V) → last_word says d ys ≡ last_word says e ys)
silent_or_told says [] = inl (λ y c. absurd (none_in y c))
silent_or_told {A} {V} says (y ∷ ys) = by (says y) refl (silent_or_told says ys) where
  by : (o : Option V) → says y ≡ o → ((z : A) → Contains ys z → says z ≡ None) ⊎ ((d e : V) → last_word says d ys ≡ last_word says e ys)
      → ((z : A) → Contains (y ∷ ys) z → says z ≡ None) ⊎ ((d e : V) → last_word says d (y ∷ ys) ≡ last_word says e (y ∷ ys))
  by (Some u) at rest = inr (λ d e.
      last_word-cons says d y ys ∙ ap (λ (o : Option V). last_word says (unwrap_or o d) ys) at
      ∙ sym (ap (λ (o : Option V). last_word says (unwrap_or o e) ys) at) ∙ sym (last_word-cons says e y ys))
  by None at (inl none) = inl (λ z c. elim (Contains-cons y ys z c) [ inl same ↦ ap says same ∙ at | inr w ↦ none z w ])
  by None at (inr told) = inr (λ d e. last_word-cons says d y ys ∙ told (unwrap_or (says y) d) (unwrap_or (says y) e) ∙ sym (last_word-cons says e y ys))

silent : {A V : Type 0} (says : A → Option V) (ys : List A) → ((y : A) → Contains ys y → says y ≡ None) → (d : V) → last_word says d ys ≡ d
silent {A} {V} says ys none d = last_word-all says (λ (v : V). v ≡ d) d ys refl (λ y v c said. absurd (let clash : Some v ≡ None = sym said ∙ none y c in cc))

module _ (s : Super) (kind : Kind) where
  good : List Placed → List Placed
  good es = good_entries s kind es

  -- where these say nothing, some of them say nothing
  silent_part : {V : Type 0} (says : Placed → Option V) (all part : List Placed) → ((x : Placed) → Contains part x → Contains all x) → ((y : Placed) → Contains (good_entries s kind all) y → says y ≡ None)
      → (d : V) → last_word says d (good_entries s kind part) ≡ d
  silent_part says all part inside none d = silent says (good_entries s kind part) (λ y c. (
      let w = from_filter (λ (x : Placed). is_good s kind x.entry) part y c in
      none y (into_filter (λ (x : Placed). is_good s kind x.entry) all y (inside y w.0) w.1))) d

  module _ {V : Type 0} (says : Placed → Option V) (d : V) (front here behind part : List Placed) (inside : (x : Placed) → Contains part x → Contains behind x) where
    word : List Placed → V
    word es = last_word says d (good_entries s kind es)

    -- what stands behind tells of the subject
    told_behind : ((a b : V) → last_word says a (good_entries s kind behind) ≡ last_word says b (good_entries s kind behind)) → last_word says d (good_entries s kind (front ++ behind)) ≡ last_word says d (good_entries s kind (front ++ (here ++ behind)))
    told_behind told =
        words-more says d s kind front behind ∙ told (last_word says d (good_entries s kind front)) (last_word says d (good_entries s kind (front ++ here)))
        ∙ sym (words-more says d s kind (front ++ here) behind) ∙ ap (λ (es : List Placed). last_word says d (good_entries s kind es)) (append_assoc front here behind)

    none_behind : (xs : List Placed) (es : List Placed) → ((x : Placed) → Contains xs x → Contains behind x) → ((y : Placed) → Contains (good_entries s kind behind) y → says y ≡ None)
        → last_word says d (good_entries s kind (es ++ xs)) ≡ last_word says d (good_entries s kind es)
    none_behind xs es within none = words-more says d s kind es xs ∙ silent_part says behind xs within none (last_word says d (good_entries s kind es))

    -- Where the last word is the same without these and some of those behind them, it is so without these.
    pub without_here : last_word says d (good_entries s kind (front ++ part)) ≡ last_word says d (good_entries s kind (front ++ (here ++ behind)))
        → last_word says d (good_entries s kind (front ++ behind)) ≡ last_word says d (good_entries s kind (front ++ (here ++ behind)))
    without_here same = elim (silent_or_told says (good_entries s kind behind)) [
      | inl none ↦ none_behind behind front (λ x c. c) none ∙ sym (none_behind part front inside none) ∙ same
      | inr told ↦ told_behind told
    ]

    -- Where it is the same without these when some of those behind them are gone, it is so when they are there.
    pub without_before : last_word says d (good_entries s kind (front ++ part)) ≡ last_word says d (good_entries s kind (front ++ (here ++ part)))
        → last_word says d (good_entries s kind (front ++ behind)) ≡ last_word says d (good_entries s kind (front ++ (here ++ behind)))
    without_before same = elim (silent_or_told says (good_entries s kind behind)) [
      | inl none ↦ (
          let all : (es : List Placed) → es ≡ front ++ (here ++ part) → last_word says d (good_entries s kind es) ≡ last_word says d (good_entries s kind (front ++ here)) =
          λ es is. ap (λ (xs : List Placed). last_word says d (good_entries s kind xs)) (is ∙ sym (append_assoc front here part)) ∙ none_behind part (front ++ here) inside none in
          none_behind behind front (λ x c. c) none ∙ sym (none_behind part front inside none) ∙ same ∙ all (front ++ (here ++ part)) refl
          ∙ sym (none_behind behind (front ++ here) (λ x c. c) none) ∙ ap (λ (xs : List Placed). last_word says d (good_entries s kind xs)) (append_assoc front here behind))
      | inr told ↦ told_behind told
    ]

  -- The same of all that is said of an inode.
  module _ (created : ℕ) (front here behind part : List Placed) (inside : (x : Placed) → Contains part x → Contains behind x) where
    pub state_without_here : SameState created (good_entries s kind (front ++ (here ++ behind))) (good_entries s kind (front ++ part)) → SameState created (good_entries s kind (front ++ (here ++ behind))) (good_entries s kind (front ++ behind))
    state_without_here same = record {
      size = without_here says_size 0 front here behind part inside same.size;
      mode = without_here says_mode 0 front here behind part inside same.mode;
      owner = without_here says_owner 0 front here behind part inside same.owner;
      group = without_here says_group 0 front here behind part inside same.group;
      links = without_here says_links 1 front here behind part inside same.links;
      time = without_here says_time created front here behind part inside same.time;
      blocks = λ p. without_here (says_block p) None front here behind part inside (same.blocks p);
      names = λ q. without_here (says_name q) None front here behind part inside (same.names q);
    }

    pub state_without_before : SameState created (good_entries s kind (front ++ (here ++ part))) (good_entries s kind (front ++ part)) → SameState created (good_entries s kind (front ++ (here ++ behind))) (good_entries s kind (front ++ behind))
    state_without_before same = record {
      size = without_before says_size 0 front here behind part inside same.size;
      mode = without_before says_mode 0 front here behind part inside same.mode;
      owner = without_before says_owner 0 front here behind part inside same.owner;
      group = without_before says_group 0 front here behind part inside same.group;
      links = without_before says_links 1 front here behind part inside same.links;
      time = without_before says_time created front here behind part inside same.time;
      blocks = λ p. without_before (says_block p) None front here behind part inside (same.blocks p);
      names = λ q. without_before (says_name q) None front here behind part inside (same.names q);
    }

    -- what two lists say that say the same as a third
    pub state_between : {all one other : List Placed} → SameState created all one → SameState created all other → SameState created one other
    state_between a b = record {
      size = b.size ∙ sym a.size;
      mode = b.mode ∙ sym a.mode;
      owner = b.owner ∙ sym a.owner;
      group = b.group ∙ sym a.group;
      links = b.links ∙ sym a.links;
      time = b.time ∙ sym a.time;
      blocks = λ p. b.blocks p ∙ sym (a.blocks p);
      names = λ q. b.names q ∙ sym (a.names q);
    }

-- ---- entries in which nothing is wrong

split_at : (es : List Placed) (x : Placed) → Contains es x → (before : List Placed) × StandsBehind es before x
split_at [] x c = absurd (none_in x c)
split_at (y ∷ ys) x c = elim (Contains-cons y ys x c) [
  | inl same ↦ ([], (ys, ap (λ (z : Placed). z ∷ ys) (sym same)))
  | inr w ↦ (let r = split_at ys x w in (y ∷ r.0, (r.1.0, ap (λ (zs : List Placed). y ∷ zs) r.1.1)))
]

stands_in : (es before : List Placed) (x : Placed) → StandsBehind es before x → Contains es x
stands_in es before x w = subst (λ (xs : List Placed). Contains xs x) (sym w.1) (Contains-append_right before (x ∷ w.0) x (Contains-head x w.0))

-- Some entries of a file's log in which nothing is wrong with an entry.
pub clean_part : (s : Super) (i : ℕ) (all part : List Placed) → ((x : Placed) → Contains part x → Contains all x) → IsCleanLog s File i all → {f : Fault} → IsEntryFault s File i part f → ⊥
clean_part s i all part inside clean (e1 before x w h) = (let there = split_at all x (inside x (stands_in part before x w)) in clean (faults.E1 i x.at) (e1 there.0 x there.1 h))
clean_part s i all part inside clean (e2 before x w h) = (let there = split_at all x (inside x (stands_in part before x w)) in clean (faults.E2 i x.at) (e2 there.0 x there.1 h))
clean_part s i all part inside clean (e3 before at e old w good add there) = absurd (cc)
clean_part s i all part inside clean (e4 before at e w good removes there) = absurd (cc)

-- ---- pages that are left out one after another

-- the entries without so many pages, which have this place one after another
abbrev pub without_places : ℕ → ℕ → List ℕ → List Placed → List Placed
without_places k zero pages es = es
without_places k (suc n) pages es = without_places k n (remove pages k) (without_page (get_or pages k 0) es)

page_part : (b : ℕ) (es : List Placed) (x : Placed) → Contains (without_page b es) x → Contains es x
page_part b es x c = (from_filter (λ (y : Placed). not (eqb (y.at / 4096) b)) es x c).0

places_part : (k n : ℕ) (pages : List ℕ) (es : List Placed) (x : Placed) → Contains (without_places k n pages es) x → Contains es x
places_part k zero pages es x c = c
places_part k (suc n) pages es x c = page_part (get_or pages k 0) es x (places_part k n (remove pages k) (without_page (get_or pages k 0) es) x c)

abbrev IsBefore : List ℕ → ℕ → List Placed → Type 0
IsBefore pages k es = (x : Placed) → Contains es x → (j : ℕ) → k ≤ j → j < length pages → x.at / 4096 ≢ get_or pages j 0

before_without : (pages : List ℕ) (k : ℕ) (es : List Placed) → k < length pages → IsBefore pages k es → IsBefore (remove pages k) k es
before_without pages k es below before x c j high low same =
    let long : length (remove pages k) + 1 ≡ length pages = length-remove pages k below in
    before x c (j + 1) (omega (arith, high)) (omega (arith, low, long)) (same ∙ get_or-remove_above pages k 0 j high below)

-- entries before the pages stay
places_behind : (k n : ℕ) (pages : List ℕ) (front es : List Placed) → k + n ≤ length pages → IsBefore pages k front → without_places k n pages (front ++ es) ≡ front ++ without_places k n pages es
places_behind k zero pages front es fits before = refl
places_behind k (suc n) pages front es fits before =
    let below : k < length pages = omega (arith, fits) in
    let long : length (remove pages k) + 1 ≡ length pages = length-remove pages k below in
    let b = get_or pages k 0 in
    ap (without_places k n (remove pages k)) (without-append b front es ∙ ap (λ (xs : List Placed). xs ++ without_page b es) (kept_all b front (λ x c. before x c k (omega arith) below)))
    ∙ places_behind k n (remove pages k) front (without_page b es) (omega (arith, fits, long)) (before_without pages k front below before)

-- two pages of a log
pages_apart : (pages : List ℕ) (es : List Placed) → InPages pages es → (j k : ℕ) → j < k → k < length pages → get_or pages j 0 ≢ get_or pages k 0
pages_apart [] es is j k less below same = omega (arith, below)
pages_apart (p ∷ ps) es is zero zero less below same = omega (arith, less)
pages_apart (p ∷ ps) es is zero (suc k) less below same = is.apart (subst (Contains ps) (sym same) (Contains-get_or ps k 0 (omega (arith, below))))
pages_apart (p ∷ ps) es is (suc j) zero less below same = omega (arith, less)
pages_apart (p ∷ ps) es is (suc j) (suc k) less below same = pages_apart ps is.rest is.others j k (omega (arith, less)) (omega (arith, below)) same

module _ (s : Super) (i created : ℕ) where
  abbrev Same : List Placed → List Placed → Type 0
  Same es new = SameState created (good_entries s File es) (good_entries s File new)

  -- Where the log says the same without all of the pages, it says so without the first.
  first_goes : (k n : ℕ) (pages : List ℕ) (es : List Placed) → k + suc n ≤ length pages → InPages pages es → Same es (without_places k (suc n) pages es) → Same es (without_page (get_or pages k 0) es)
  first_goes k n pages es fits is same =
      let below : k < length pages = omega (arith, fits) in
      let long : length (remove pages k) + 1 ≡ length pages = length-remove pages k below in
      let b = get_or pages k 0 in
      let a = at_place pages k es below is in
      let left : without_page b es ≡ a.front ++ a.behind =
      ap (without_page b) a.split ∙ without-append b a.front (a.here ++ a.behind)
      ∙ ap (λ (xs : List Placed). xs ++ without_page b (a.here ++ a.behind)) (kept_all b a.front (λ x c. a.before x c k (omega arith) below))
      ∙ ap (λ (xs : List Placed). a.front ++ xs) (without-append b a.here a.behind ∙ ap (λ (xs : List Placed). xs ++ without_page b a.behind) (gone_all b a.here a.in_page) ∙ kept_all b a.behind (λ x c. a.after x c k (omega arith))) in
      let part = without_places k n (remove pages k) a.behind in
      let all_left : without_places k (suc n) pages es ≡ a.front ++ part =
      ap (without_places k n (remove pages k)) left ∙ places_behind k n (remove pages k) a.front a.behind (omega (arith, fits, long)) (before_without pages k a.front below a.before) in
      subst (λ (z : List Placed × List Placed). Same z.0 z.1) (λ t. (sym a.split t, sym left t))
      (state_without_here s File created a.front a.here a.behind part (places_part k n (remove pages k) a.behind)
      (subst (λ (z : List Placed × List Placed). Same z.0 z.1) (λ t. (a.split t, all_left t)) same))

  -- What the log can do without once a page further on is gone, it could do without before.
  could_go : (j k : ℕ) (pages : List ℕ) (es : List Placed) → j < k → k < length pages → InPages pages es → IsCleanLog s File i es → CanGo s File i created (without_page (get_or pages k 0) es) (get_or pages j 0) → CanGo s File i created es (get_or pages j 0)
  could_go j k pages es less below is clean go =
      let b = get_or pages k 0 in
      let p = get_or pages j 0 in
      let a = at_place pages j es (omega (arith, less, below)) is in
      let part = without_page b a.behind in
      let apart : (x : Placed) → Contains a.here x → x.at / 4096 ≢ b = λ x c same. pages_apart pages es is j k less below (sym (a.in_page x c) ∙ same) in
      let goes : (xs : List Placed) → ((x : Placed) → Contains xs x → Contains a.behind x) → without_page p (a.front ++ (a.here ++ xs)) ≡ a.front ++ xs =
      λ xs within.
      without-append p a.front (a.here ++ xs)
      ∙ ap (λ (ys : List Placed). ys ++ without_page p (a.here ++ xs)) (kept_all p a.front (λ x c. a.before x c j (omega arith) (omega (arith, less, below))))
      ∙ ap (λ (ys : List Placed). a.front ++ ys) (without-append p a.here xs ∙ ap (λ (ys : List Placed). ys ++ without_page p xs) (gone_all p a.here a.in_page) ∙ kept_all p xs (λ x c. a.after x (within x c) j (omega arith))) in
      let shorter : without_page b es ≡ a.front ++ (a.here ++ part) =
      ap (without_page b) a.split ∙ without-append b a.front (a.here ++ a.behind)
      ∙ ap (λ (ys : List Placed). ys ++ without_page b (a.here ++ a.behind)) (kept_all b a.front (λ x c. a.before x c k (omega (arith, less)) below))
      ∙ ap (λ (ys : List Placed). a.front ++ ys) (without-append b a.here a.behind ∙ ap (λ (ys : List Placed). ys ++ part) (kept_all b a.here apart)) in
      record {
        same = subst (λ (z : List Placed × List Placed). Same z.0 z.1) (λ t. (sym a.split t, sym (ap (without_page p) a.split ∙ goes a.behind (λ x c. c)) t))
            (state_without_before s File created a.front a.here a.behind part (page_part b a.behind)
            (subst (λ (z : List Placed × List Placed). Same z.0 z.1) (λ t. (shorter t, (ap (without_page p) shorter ∙ goes part (page_part b a.behind)) t)) go.same));
        clean = λ f. clean_part s i es (without_page p es) (page_part p es) clean;
      }

  -- So they go one after another, if it needs the pages before them.
  pub go_in_turn : (k n : ℕ) (pages : List ℕ) (es : List Placed) → k + n < length pages → InPages pages es → IsCleanLog s File i es → ((j : ℕ) → j < k → IsDead s File i created es pages j → ⊥)
      → Same es (without_places k n pages es) → GoInTurn s File i created k n es pages
  go_in_turn k zero pages es fits is clean needed same = tt
  go_in_turn k (suc n) pages es fits is clean needed same =
      let below : k < length pages = omega (arith, fits) in
      let long : length (remove pages k) + 1 ≡ length pages = length-remove pages k below in
      let b = get_or pages k 0 in
      let goes = first_goes k n pages es (omega (arith, fits)) is same in
      let left : IsCleanLog s File i (without_page b es) = λ f. clean_part s i es (without_page b es) (page_part b es) clean in (
        (record { more = omega (arith, fits); can_go = record { same = goes; clean = left } }, needed),
        go_in_turn k n (remove pages k) (without_page b es) (omega (arith, fits, long)) (in_pages_without pages k es below is) left
            (λ j less dead. needed j less (record {
              more = omega (arith, less, below);
              can_go = could_go j k pages es less below is clean (subst (CanGo s File i created (without_page b es)) (get_or-remove_below pages k 0 j less below) dead.can_go);
            }))
            (state_between s File created [] [] [] [] (λ x c. c) goes same),
      )
