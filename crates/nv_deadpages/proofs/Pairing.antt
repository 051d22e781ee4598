-- Entries of a name that go in pairs: why a log can't do without a page in which they don't, and what is open while it is read.
use Rattle.std.proofs.Common.{◌≡◌, ◌≢◌, ◌⊎◌, inl, inr, ℕ, ◌+◌, ◌/◌, ◌==◌, ◌≤◌, Bool, true, false, not, ◌&&◌, cond, is_some, IsTrue, List, [], ◌∷◌, ◌++◌, length, append-nil, append_assoc, refl, ap, sym, ◌∙◌, subst, arith, Option, Some, None}
use Rattle.std.specs.Prelude.{nat_eq}
use Rattle.std.specs.List.{Contains, list_any}
use Rattle.std.specs.Cmp.Lexicographic.{pointwise}
use Rattle.std.proofs.Math.Dec.{eqb}
use Rattle.std.proofs.lemmas.Bool.{ne_eqb}
use Rattle.std.proofs.lemmas.List.Elements.{filter-append, Contains-append_left}
use Rattle.nv_region.specs.Region.{Region}
use Rattle.nv_super.specs.declared.superblock.Super.{Super}
use Rattle.nv_super.specs.declared.kind.Kind.{Kind}
use Rattle.nv_super.specs.declared.faults.Fault.{Fault}
use Rattle.nv_super.proofs.Members.{no_member, none_in}
use Rattle.nv_super.proofs.Rising.{Contains-head, Contains-tail}
use Rattle.nv_super.proofs.Sorted.{same_keys}
use Rattle.nv_entry.specs.declared.content.ContentFault.TheVariants.{OutOfRange, WrongKind}
use Rattle.nv_entry.specs.declared.entry.Operation.{Operation}
use Rattle.nv_entry.specs.declared.entry.Operation.TheVariants.{Add, Remove}
use Rattle.nv_entry.specs.declared.entry.Entry.{Entry}
use Rattle.nv_entry.specs.declared.entry.Entry.TheVariants.{NextPage, Write, Attr, Name, Links}
use Rattle.nv_entry.specs.Spelling.{entry_length}
use Rattle.nv_entry.specs.Content.{is_good, is_wrong_kind, is_out_of_range}
use Rattle.nv_logpage.specs.declared.found.LogEnd.{LogEnd}
use Rattle.nv_logpage.specs.declared.found.Placed.{Placed}
use Rattle.nv_logpage.specs.declared.found.Finding.{Finding}
use Rattle.nv_logpage.specs.declared.found.Finding.TheVariants as finds
use Rattle.nv_logpage.specs.Good.{good_entries}
use Rattle.nv_logpage.specs.Reads.{Reads, room_at}
use Rattle.nv_logpage.specs.Progress.{Progress, Leads, Continues, at_head, after}
use Rattle.nv_logpage.specs.Unlinked.{without_page}
use Rattle.nv_logpage.proofs.Longer.{eqb_yes}
use Rattle.nv_logpage.proofs.Once.{ReadsOn-only}
use Rattle.nv_logpage.proofs.Progress.{leads_start}
use Rattle.nv_names.specs.Names.{Names, name_at}
use Rattle.nv_scan.specs.State.{named, named_by, name_in, says_name}
use Rattle.nv_scan.specs.Faults.{IsEntryFault}
use Rattle.nv_scan.specs.Fold.{Holds, Takes, word_after, clash, name_fault, fault_with}
use Rattle.nv_deadpages.specs.Pairs.{is_of_name, is_odd, in_page, IsUnpaired, AreOpen, Toggles, AreUnpaired, AreUnpairedSoFar}
use Rattle.nv_deadpages.specs.Needed.{AreNeeded}
use Rattle.nv_scan.specs.declared.fold.Fold.{Fold}
use Rattle.nv_scan.specs.declared.piece.Row.{Row}
use Rattle.nv_scan.proofs.EntryFaults.{fault_behind, fault_is}
use Rattle.nv_deadpages.proofs.Standing.{stand_none, stand_turned, stand_more, none_turned, stays_in}
use Rattle.nv_scan.proofs.Steps.{Holds-more}
use Rattle.nv_scan.proofs.Words.{word-more}

-- ---- odd and even

-- one element more
flipped : (a b o more : Bool) → more ≡ cond b (not o) o → cond a (not more) more ≡ cond b (not (cond a (not o) o)) (cond a (not o) o)
flipped true true o more h = ap not h
flipped true false o more h = ap not h
flipped false true o more h = h
flipped false false o more h = h

odd-more : {A : Type 0} (test : A → Bool) (xs : List A) (x : A) → is_odd test (xs ++ x ∷ []) ≡ cond (test x) (not (is_odd test xs)) (is_odd test xs)
odd-more test [] x = refl
odd-more test (y ∷ ys) x = flipped (test y) (test x) (is_odd test ys) (is_odd test (ys ++ x ∷ [])) (odd-more test ys x)

-- whether one of two is odd and the other even
differ : Bool → Bool → Bool
differ true b = not b
differ false b = b

abbrev IsSplit : (Placed → Bool) → List Placed → List Placed → List Placed → Type 0
IsSplit test all rest part = is_odd test all ≡ differ (is_odd test rest) (is_odd test part)

not_left : (w i : Bool) → not (differ w i) ≡ differ (not w) i
unfolding differ
not_left true true = refl
not_left true false = refl
not_left false i = refl

not_right : (w i : Bool) → not (differ w i) ≡ differ w (not i)
unfolding differ
not_right true i = refl
not_right false i = refl

in_rest : (a o w i : Bool) → o ≡ differ w i → cond a (not o) o ≡ differ (cond a (not w) w) i
in_rest true o w i h = ap not h ∙ not_left w i
in_rest false o w i h = h

in_part : (a o w i : Bool) → o ≡ differ w i → cond a (not o) o ≡ differ w (cond a (not i) i)
in_part true o w i h = ap not h ∙ not_right w i
in_part false o w i h = h

-- the entries in a page and those without it
odd_split : (test : Placed → Bool) (b : ℕ) (es : List Placed) → IsSplit test es (without_page b es) (in_page b es)
unfolding differ
odd_split test b [] = refl
odd_split test b (x ∷ xs) = by_page (x.at / 4096 == b) (odd_split test b xs) where
  by_page : (p : Bool) → IsSplit test xs (without_page b xs) (in_page b xs) → IsSplit test (x ∷ xs) (cond (not p) (x ∷ without_page b xs) (without_page b xs)) (cond p (x ∷ in_page b xs) (in_page b xs))
  by_page true h = in_part (test x) (is_odd test xs) (is_odd test (without_page b xs)) (is_odd test (in_page b xs)) h
  by_page false h = in_rest (test x) (is_odd test xs) (is_odd test (without_page b xs)) (is_odd test (in_page b xs)) h

even_part : (w i : Bool) → w ≡ differ w i → i ≡ false
unfolding differ
even_part true true h = absurd (cc)
even_part true false h = refl
even_part false i h = sym h

-- ---- adds and removals take turns

good_content : (wrong out : Bool) → (not wrong && not out) ≡ true → cond wrong (Some WrongKind) (cond out (Some OutOfRange) None) ≡ None
good_content true out h = absurd (cc)
good_content false true h = absurd (cc)
good_content false false h = refl

module _ (s : Super) (kind : Kind) (i : ℕ) (q : List ℕ) where
  -- an add of a name where it isn't there, or a removal where it is
  by_operation : (at inode : ℕ) (o : Operation) (old v : Option (ℕ × ℕ)) → clash o i at old ≡ None → named_by at inode o ≡ v → not (is_some old) ≡ is_some v
  by_operation at inode Add None v none h = ap is_some h
  by_operation at inode Add (Some w) v none h = absurd (cc)
  by_operation at inode Remove None v none h = absurd (cc)
  by_operation at inode Remove (Some w) v none h = ap is_some h

  takes_turn : (known : List ℕ → Option (ℕ × ℕ)) (at : ℕ) (e : Entry) (v : Option (ℕ × ℕ)) → name_in q at e ≡ Some v → name_fault i known at e ≡ None → not (is_some (known q)) ≡ is_some v
  takes_turn known at (Name e) v says none = by_test (pointwise nat_eq q e.name) refl says where
    by_test : (t : Bool) → pointwise nat_eq q e.name ≡ t → cond t (Some (named_by at e.inode e.operation)) None ≡ Some v → not (is_some (known q)) ≡ is_some v
    by_test true same h = ap (λ (n : List ℕ). not (is_some (known n))) (same_keys q e.name same) ∙ by_operation at e.inode e.operation (known e.name) v none (let is : named_by at e.inode e.operation ≡ v = cc in is)
    by_test false other h = absurd (cc)
  takes_turn known at NextPage v says none = absurd (cc)
  takes_turn known at (Write e) v says none = absurd (cc)
  takes_turn known at (Attr e) v says none = absurd (cc)
  takes_turn known at (Links e) v says none = absurd (cc)

  -- the name is there where it has an odd number of entries
  abbrev Balanced : List Placed → Type 0
  Balanced es = is_odd (is_of_name s kind q) es ≡ is_some (named (good_entries s kind es) q)

  after_entry : (good : Bool) (said : Option (Option (ℕ × ℕ))) (odd : Bool) (old : Option (ℕ × ℕ)) → odd ≡ is_some old → (good ≡ true → (v : Option (ℕ × ℕ)) → said ≡ Some v → not (is_some old) ≡ is_some v)
      → cond (good && is_some said) (not odd) odd ≡ is_some (word_after good said old)
  after_entry true None odd old h turns = h
  after_entry true (Some v) odd old h turns = ap not h ∙ turns refl v refl
  after_entry false said odd old h turns = h

  balanced_more : (es : List Placed) (x : Placed) → fault_behind s kind i es x ≡ None → Balanced es → Balanced (es ++ x ∷ [])
  balanced_more es x none h =
      odd-more (is_of_name s kind q) es x
      ∙ after_entry (is_good s kind x.entry) (says_name q x) (is_odd (is_of_name s kind q) es) (named (good_entries s kind es) q) h
      (λ good v says. takes_turn (named (good_entries s kind es)) x.at x.entry v says
      (sym (ap (fault_with i (named (good_entries s kind es)) x) (good_content (is_wrong_kind x.entry kind) (is_out_of_range s kind x.entry) good)) ∙ none))
      ∙ sym (ap is_some (word-more (says_name q) None s kind es x (is_good s kind x.entry) refl))

  no_fault : (es before : List Placed) (x : Placed) (after : List Placed) → es ≡ before ++ x ∷ after → ((f : Fault) → IsEntryFault s kind i es f → ⊥) → (o : Option Fault) → fault_behind s kind i before x ≡ o → o ≡ None
  no_fault es before x after is clean None h = refl
  no_fault es before x after is clean (Some f) h = absurd (clean f (fault_is s kind i es before x f (after, is) h))

  balanced_on : (before rest : List Placed) → ((f : Fault) → IsEntryFault s kind i (before ++ rest) f → ⊥) → Balanced before → Balanced (before ++ rest)
  balanced_on before [] clean h = subst Balanced (sym (append-nil before)) h
  balanced_on before (x ∷ rest) clean h =
      subst Balanced (append_assoc before (x ∷ []) rest)
      (balanced_on (before ++ x ∷ []) rest (λ f w. clean f (subst (λ (es : List Placed). IsEntryFault s kind i es f) (append_assoc before (x ∷ []) rest) w))
      (balanced_more before x (no_fault (before ++ x ∷ rest) before x rest refl clean (fault_behind s kind i before x) refl) h))

  -- where nothing is wrong with an entry
  balanced : (es : List Placed) → ((f : Fault) → IsEntryFault s kind i es f → ⊥) → Balanced es
  balanced es clean = balanced_on [] es clean refl

-- A log in which nothing is wrong with an entry can't do without a page in which a name has an odd number of entries: without
-- them either the name would be there and not be there, or adds and removals wouldn't take turns.
pub unpaired_needed : (R : Region) (s : Super) (row : Row) (created : ℕ) (fold : Fold) (found pages : List ℕ) (fault : Option LogEnd) → length fold.faults.items ≡ 0 → AreUnpaired R s row created fold found pages fault → AreNeeded R s created row found
unpaired_needed R s row created fold found pages fault none are page c es is go = are.each page c (λ q. subst (λ (xs : List Placed). is_odd (is_of_name s row.kind q) (in_page page xs) ≡ false) (sym same)
    (even_part (is_odd (is_of_name s row.kind q) (without_page page es)) (is_odd (is_of_name s row.kind q) (in_page page es))
    (balanced s row.kind row.inode q (without_page page es) go.clean ∙ ap is_some (go.same.names q) ∙ sym (balanced s row.kind row.inode q es clean) ∙ odd_split (is_of_name s row.kind q) page es))) where
      same : are.entries ≡ es
      same = (ReadsOn-only are.reads is.reads).0

      clean : (f : Fault) → IsEntryFault s row.kind row.inode es f → ⊥
      clean f w = (let d = are.holds.found.all f (subst (λ (xs : List Placed). IsEntryFault s row.kind row.inode xs f) (sym same) w) in let inside = d.1 in omega (arith, inside, none))

-- ---- what is open while the log is read

page-here : (b : ℕ) (es : List Placed) (x : Placed) → x.at / 4096 ≡ b → in_page b (es ++ x ∷ []) ≡ in_page b es ++ x ∷ []
page-here b es x same = filter-append (λ (y : Placed). eqb (y.at / 4096) b) es (x ∷ []) ∙ ap (λ (ys : List Placed). in_page b es ++ ys) (rw (eqb_yes (x.at / 4096) b same) refl)

page-other : (b : ℕ) (es : List Placed) (x : Placed) → x.at / 4096 ≢ b → in_page b (es ++ x ∷ []) ≡ in_page b es
page-other b es x other = filter-append (λ (y : Placed). eqb (y.at / 4096) b) es (x ∷ []) ∙ ap (λ (ys : List Placed). in_page b es ++ ys) (rw (ne_eqb (x.at / 4096) b other) refl) ∙ append-nil (in_page b es)

-- of a page in which no entry stands
page_empty : (b : ℕ) (es : List Placed) → ((x : Placed) → Contains es x → x.at / 4096 ≢ b) → in_page b es ≡ []
page_empty b [] none = refl
page_empty b (x ∷ xs) none = rw (ne_eqb (x.at / 4096) b (none x (Contains-head x xs))) (page_empty b xs (λ y c. none y (Contains-tail x xs y c)))

open_none : (s : Super) (kind : Kind) (es : List Placed) (odd : Names) → es ≡ [] → ((q : List ℕ) → name_at odd q ≡ None) → AreOpen s kind es odd
open_none s kind es odd empty none q = ap (λ (o : Option (ℕ × ℕ)). is_some o) (none q) ∙ sym (ap (is_odd (is_of_name s kind q)) empty)

open_more : (s : Super) (kind : Kind) (es : List Placed) (x : Placed) (old new : Names) → AreOpen s kind es old → Toggles s kind x old new → AreOpen s kind (es ++ x ∷ []) new
open_more s kind es x old new are t q = t q ∙ ap (λ (o : Bool). cond (is_of_name s kind q x) (not o) o) (are q) ∙ sym (odd-more (is_of_name s kind q) es x)

no_name : (o : Option (ℕ × ℕ)) → is_some o ≡ false → o ≡ None
no_name None h = refl
no_name (Some v) h = absurd (cc)

module _ (R : Region) (s : Super) (row : Row) (created : ℕ) where
  pub pairs_none : (fold : Fold) (found : List ℕ) (looks : Bool) (odd : Names) → Holds s row.kind row.inode created [] fold → found ≡ [] → ((q : List ℕ) → name_at odd q ≡ None)
      → AreUnpairedSoFar R row created fold found (at_head s row.head row.tail) looks odd
  pairs_none fold found looks odd h empty none = record {
    entries = [];
    leads = leads_start R s row.head row.tail;
    holds = h;
    stand = stand_none s row.head row.tail;
    each = λ page c. absurd (none_in page (subst (λ (bs : List ℕ). Contains bs page) empty c));
    are_open = λ yes. open_none s row.kind [] odd refl none;
  }

  module _ (r r' : Progress) (finding : Finding) where
    -- at a page that is turned, the one before it was found if a name was open in it
    pub pairs_turned : (old new : List ℕ) (fold : Fold) (looks looks' : Bool) (odd odd' : Names) (a page : ℕ) → AreUnpairedSoFar R row created fold old r looks odd
        → ((h : ℕ) (es : List Placed) → Leads R h r es → Continues R h r' es finding) → finding ≡ finds.Page a → r' ≡ after r (finds.Page a) → list_any (eqb (a / 4096)) r.pages ≡ false → page ≡ r.place / 4096
        → ((b : ℕ) → Contains new b → ((b ≡ page) × IsTrue looks × (((q : List ℕ) → name_at odd q ≡ None) → ⊥)) ⊎ Contains old b) → ((q : List ℕ) → name_at odd' q ≡ None)
        → AreUnpairedSoFar R row created fold new r' looks' odd'
    pairs_turned old new fold looks looks' odd odd' a page so_far goes is moved unread page_is only none = subst (λ (z : Progress). AreUnpairedSoFar R row created fold new z looks' odd') (sym moved) (record {
      entries = so_far.entries;
      leads = subst (λ (z : Progress). Leads R row.head z so_far.entries) moved (subst (λ (f : Finding). Continues R row.head r' so_far.entries f) is (goes row.head so_far.entries so_far.leads));
      holds = so_far.holds;
      stand = stand_turned r so_far.entries a so_far.stand;
      each = λ b c. elim (only b c) [
        | inl w ↦ (let here : b ≡ r.place / 4096 = w.0 ∙ page_is in (
            let in_read : Contains r.pages b = subst (Contains r.pages) (sym here) so_far.stand.here in (
              Contains-append_left r.pages (a / 4096 ∷ []) b in_read,
              λ same. no_member r.pages (a / 4096) unread (subst (Contains r.pages) same in_read),
              λ even. w.2 (λ q. no_name (name_at odd q) (so_far.are_open w.1 q ∙ subst (λ (n : ℕ). is_odd (is_of_name r.sup row.kind q) (in_page n so_far.entries) ≡ false) here (even q))),
            )))
        | inr w ↦ (let e = so_far.each b w in (Contains-append_left r.pages (a / 4096 ∷ []) b e.0, λ same. no_member r.pages (a / 4096) unread (subst (Contains r.pages) same e.0), e.2))
      ];
      are_open = λ yes. open_none r.sup row.kind (in_page (a / 4096) so_far.entries) odd' (page_empty (a / 4096) so_far.entries (none_turned r so_far.entries a so_far.stand unread)) none;
    })

    pub pairs_more : (found : List ℕ) (old new : Fold) (looks : Bool) (odd odd' : Names) (x : Placed) → AreUnpairedSoFar R row created old found r looks odd
        → ((h : ℕ) (es : List Placed) → Leads R h r es → Continues R h r' es finding) → finding ≡ finds.Entry x → r' ≡ after r (finds.Entry x) → r.sup ≡ s → x.at ≡ r.place → entry_length x.entry ≤ room_at r.place
        → Takes s row.kind row.inode x old new → (IsTrue looks → Toggles s row.kind x odd odd') → AreUnpairedSoFar R row created new found r' looks odd'
    pairs_more found old new looks odd odd' x so_far goes is moved p here fits t toggles = subst (λ (z : Progress). AreUnpairedSoFar R row created new found z looks odd') (sym moved) (record {
      entries = so_far.entries ++ x ∷ [];
      leads = subst (λ (z : Progress). Leads R row.head z (so_far.entries ++ x ∷ [])) moved (subst (λ (f : Finding). Continues R row.head r' so_far.entries f) is (goes row.head so_far.entries so_far.leads));
      holds = subst (λ (n : Super). Holds n row.kind row.inode created (so_far.entries ++ x ∷ []) new) (sym p) (Holds-more (subst (λ (n : Super). Holds n row.kind row.inode created so_far.entries old) p so_far.holds) t);
      stand = stand_more r so_far.entries x here fits so_far.stand;
      each = λ b c. (let e = so_far.each b c in (
        e.0,
        λ same. e.1 (same ∙ stays),
        λ even. e.2 (λ q. sym (ap (is_odd (is_of_name r.sup row.kind q)) (page-other b so_far.entries x (λ same. e.1 (sym same ∙ at)))) ∙ even q),
      ));
      are_open = λ yes. subst (λ (n : ℕ). AreOpen r.sup row.kind (in_page n (so_far.entries ++ x ∷ [])) odd') (sym stays)
          (subst (λ (es : List Placed). AreOpen r.sup row.kind es odd') (sym (page-here (r.place / 4096) so_far.entries x at))
          (open_more r.sup row.kind (in_page (r.place / 4096) so_far.entries) x odd odd' (so_far.are_open yes) (subst (λ (n : Super). Toggles n row.kind x odd odd') (sym p) (toggles yes))));
    }) where
      at : x.at / 4096 ≡ r.place / 4096
      at = ap (λ (n : ℕ). n / 4096) here

      stays : (x.at + entry_length x.entry) / 4096 ≡ r.place / 4096
      stays = stays_in r x here fits

    pub pairs_whole : (found : List ℕ) (fold : Fold) (looks : Bool) (odd : Names) (fault : Option LogEnd) → AreUnpairedSoFar R row created fold found r looks odd
        → ((h : ℕ) (es : List Placed) → Leads R h r es → Continues R h r' es finding) → finding ≡ finds.End fault → r.sup ≡ s → r'.sup ≡ s → r'.tail ≡ row.tail → AreUnpaired R s row created fold found r'.pages fault
    pairs_whole found fold looks odd fault so_far goes is p q t = record {
      entries = so_far.entries;
      reads = subst (λ (z : Super × ℕ). Reads R z.0 row.head z.1 so_far.entries r'.pages fault) (λ k. (q k, t k))
          (subst (λ (f : Finding). Continues R row.head r' so_far.entries f) is (goes row.head so_far.entries so_far.leads));
      holds = subst (λ (n : Super). Holds n row.kind row.inode created so_far.entries fold) p so_far.holds;
      each = λ b c. subst (λ (n : Super). IsUnpaired n row.kind so_far.entries b) p (so_far.each b c).2;
    }
