-- The pages of a log that change a page of the file, as the log is read and in all.
use Rattle.std.proofs.Common.{◌≡◌, ◌≢◌, ◌⊎◌, inl, inr, ℕ, ◌+◌, ◌/◌, ◌≤◌, Bool, true, false, List, [], ◌∷◌, ◌++◌, refl, ap, sym, ◌∙◌, subst, Option, Some, None}
use Rattle.std.specs.List.{Contains, list_any}
use Rattle.std.specs.Option.{option_map}
use Rattle.std.proofs.Math.Dec.{eqb}
use Rattle.std.proofs.lemmas.Bool.{cases_eq}
use Rattle.std.proofs.lemmas.List.Elements.{Contains-append_left}
use Rattle.nv_region.specs.Region.{Region}
use Rattle.nv_super.specs.declared.superblock.Super.{Super}
use Rattle.nv_super.proofs.Members.{no_member, none_in}
use Rattle.nv_super.proofs.Rising.{Contains-head}
use Rattle.nv_entry.specs.Spelling.{entry_length}
use Rattle.nv_entry.specs.Content.{is_good}
use Rattle.nv_logpage.specs.declared.found.LogEnd.{LogEnd}
use Rattle.nv_logpage.specs.declared.found.Placed.{Placed}
use Rattle.nv_logpage.specs.declared.found.Finding.{Finding}
use Rattle.nv_logpage.specs.declared.found.Finding.TheVariants as finds
use Rattle.nv_logpage.specs.Good.{good_entries}
use Rattle.nv_logpage.specs.Reads.{Reads, room_at}
use Rattle.nv_logpage.specs.Progress.{Progress, Leads, Continues, at_head, after}
use Rattle.nv_logpage.specs.Unlinked.{without_page}
use Rattle.nv_logpage.proofs.Local.{Contains-last}
use Rattle.nv_logpage.proofs.Once.{ReadsOn-only}
use Rattle.nv_logpage.proofs.Progress.{leads_start}
use Rattle.nv_logpage.proofs.Unlinked.{kept_all}
use Rattle.nv_radix.specs.Pages.{Pages, block_at}
use Rattle.nv_scan.specs.State.{block_of, says_block}
use Rattle.nv_scan.specs.Fold.{Holds, Takes, word_after}
use Rattle.nv_deadpages.specs.Stamps.{page_saying, said_last_in, HasStamps}
use Rattle.nv_deadpages.specs.Changes.{HasChange, AreChanges, ChangesSoFar, AreChangesSoFar}
use Rattle.nv_deadpages.specs.Needed.{AreNeeded}
use Rattle.nv_scan.specs.declared.fold.Fold.{Fold}
use Rattle.nv_scan.specs.declared.piece.Row.{Row}
use Rattle.nv_deadpages.proofs.Standing.{stand_none, stand_turned, stand_more, none_turned, stays_in}
use Rattle.nv_scan.proofs.Words.{word-more}
use Rattle.nv_scan.proofs.Steps.{Holds-more}
use Rattle.nv_deadpages.proofs.ReadWithout.{without_one, without_none}

-- ---- where the reader comes to a page

-- No entry that was read stands in the page. If the map of these is another one than the index at a page of the file that has
-- its stamp, it changes that page: the map is that of all entries so far but for its own.
found_here : (s : Super) (row : Row) (created : ℕ) (stamps index : Pages) (es : List Placed) (r : Progress) (fold : Fold) (page : ℕ) → Holds s row.kind row.inode created es fold
    → Contains r.pages page → ((x : Placed) → Contains es x → x.at / 4096 ≢ page) → HasChange fold.extents stamps index page → ChangesSoFar s row.kind es stamps index r page
found_here s row created stamps index es r fold page holds read none h = record {
  at = h.at;
  stamp = h.stamp;
  stamped = h.stamped;
  by = h.by;
  read = read;
  other = λ last same. h.other (holds.extents h.at ∙ sym (ap (λ (xs : List Placed). block_of (good_entries s row.kind xs) h.at) (kept_all page es none)) ∙ same);
}

-- the first page
pub changes_first : (R : Region) (s : Super) (row : Row) (created : ℕ) (stamps index : Pages) (old new : List ℕ) (fold : Fold) (page : ℕ) → Holds s row.kind row.inode created [] fold → old ≡ [] → page ≡ row.head / 4096
    → ((b : ℕ) → Contains new b → ((b ≡ page) × HasChange fold.extents stamps index page) ⊎ Contains old b)
    → AreChangesSoFar R row created stamps index new (at_head s row.head row.tail) fold
changes_first R s row created stamps index old new fold page h empty is only = record {
  entries = [];
  leads = leads_start R s row.head row.tail;
  holds = h;
  stand = stand_none s row.head row.tail;
  each = λ b c. elim (only b c) [
    | inl w ↦ subst (ChangesSoFar s row.kind [] stamps index (at_head s row.head row.tail)) (sym w.0)
        (found_here s row created stamps index [] (at_head s row.head row.tail) fold page h (subst (Contains (row.head / 4096 ∷ [])) (sym is) (Contains-head (row.head / 4096) [])) (λ x none. absurd (none_in x none)) w.1)
    | inr w ↦ absurd (none_in b (subst (λ (bs : List ℕ). Contains bs b) empty w))
  ];
}

module _ (R : Region) (s : Super) (row : Row) (created : ℕ) (stamps index : Pages) (r : Progress) where
  -- a page that is turned
  pub changes_turned : (r' : Progress) (old new : List ℕ) (fold : Fold) (found : Finding) (a page : ℕ) → AreChangesSoFar R row created stamps index old r fold
      → ((h : ℕ) (es : List Placed) → Leads R h r es → Continues R h r' es found) → found ≡ finds.Page a → r' ≡ after r (finds.Page a) → r.sup ≡ s → list_any (eqb (a / 4096)) r.pages ≡ false → page ≡ a / 4096
      → ((b : ℕ) → Contains new b → ((b ≡ page) × HasChange fold.extents stamps index page) ⊎ Contains old b)
      → AreChangesSoFar R row created stamps index new r' fold
  changes_turned r' old new fold found a page so_far goes is moved p unread page_is only = subst (λ (q : Progress). AreChangesSoFar R row created stamps index new q fold) (sym moved) (record {
    entries = so_far.entries;
    leads = subst (λ (q : Progress). Leads R row.head q so_far.entries) moved (subst (λ (f : Finding). Continues R row.head r' so_far.entries f) is (goes row.head so_far.entries so_far.leads));
    holds = so_far.holds;
    stand = stand_turned r so_far.entries a so_far.stand;
    each = λ b c. elim (only b c) [
      | inl w ↦ subst (ChangesSoFar r.sup row.kind so_far.entries stamps index (after r (finds.Page a))) (sym w.0)
          (found_here r.sup row created stamps index so_far.entries (after r (finds.Page a)) fold page so_far.holds (subst (Contains (r.pages ++ a / 4096 ∷ [])) (sym page_is) (Contains-last r.pages (a / 4096)))
          (λ x d same. none_turned r so_far.entries a so_far.stand unread x d (same ∙ page_is)) w.1)
      | inr w ↦ (let e = so_far.each b w in record {
        at = e.at;
        stamp = e.stamp;
        stamped = e.stamped;
        by = e.by;
        read = Contains-append_left r.pages (a / 4096 ∷ []) b e.read;
        other = λ last. e.other (elim last [ inl same ↦ absurd (no_member r.pages (a / 4096) unread (subst (Contains r.pages) same e.read)) | inr l ↦ inr l ]);
      })
    ];
  })

  -- ---- behind an entry

  -- where the last word stands in another page than the entry, the entry said nothing
  said_before : (good : Bool) (said : Option (Option ℕ)) (at page : ℕ) (last : Option ℕ) (old : Option ℕ) → at ≢ page → word_after good (option_map (λ (o : Option ℕ). Some at) said) last ≡ Some page
      → (last ≡ Some page) × (word_after good said old ≡ old)
  said_before true None at page last old other h = (h, refl)
  said_before true (Some o) at page last old other h = absurd (other (let same : at ≡ page = cc in same))
  said_before false said at page last old other h = (h, refl)

  other_entry : (es : List Placed) (x : Placed) (page at : ℕ) (o : Option ℕ) → x.at / 4096 ≢ page → said_last_in r.sup row.kind (es ++ x ∷ []) at ≡ Some page
      → (said_last_in r.sup row.kind es at ≡ Some page) × (block_of (good_entries r.sup row.kind (without_page page (es ++ x ∷ []))) at ≡ block_of (good_entries r.sup row.kind (without_page page es)) at)
  other_entry es x page at o other last =
      let w = said_before (is_good r.sup row.kind x.entry) (says_block at x) (x.at / 4096) page (said_last_in r.sup row.kind es at) (block_of (good_entries r.sup row.kind (without_page page es)) at) other
      (sym (word-more (page_saying at) None r.sup row.kind es x (is_good r.sup row.kind x.entry) refl) ∙ last) in
      (w.0, ap (λ (xs : List Placed). block_of (good_entries r.sup row.kind xs) at) (without_one page es x other) ∙ word-more (says_block at) None r.sup row.kind (without_page page es) x (is_good r.sup row.kind x.entry) refl ∙ w.1)

  -- what changed a page of the file does so still
  changes_still : (es : List Placed) (x : Placed) (page : ℕ) → x.at ≡ r.place → entry_length x.entry ≤ room_at r.place → ChangesSoFar r.sup row.kind es stamps index r page
      → ChangesSoFar r.sup row.kind (es ++ x ∷ []) stamps index (after r (finds.Entry x)) page
  changes_still es x page here fits e =
      let at : x.at / 4096 ≡ r.place / 4096 = ap (λ (n : ℕ). n / 4096) here in
      let new : (x.at + entry_length x.entry) / 4096 ≡ r.place / 4096 = stays_in r x here fits in
      record {
        at = e.at;
        stamp = e.stamp;
        stamped = e.stamped;
        by = e.by;
        read = e.read;
        other = λ last same. elim (cases_eq page (r.place / 4096)) [
          | inl inside ↦ e.other (inl inside) (sym (ap (λ (xs : List Placed). block_of (good_entries r.sup row.kind xs) e.at) (without_none page es x (at ∙ sym inside))) ∙ same)
          | inr outside ↦ elim last [
            | inl here ↦ absurd (outside (here ∙ new))
            | inr l ↦ (let w = other_entry es x page e.at None (λ q. outside (sym q ∙ at)) l in e.other (inr w.0) (sym w.1 ∙ same))
          ]
        ];
      }

  pub changes_more : (r' : Progress) (found : List ℕ) (old new : Fold) (finding : Finding) (x : Placed) → AreChangesSoFar R row created stamps index found r old
      → ((h : ℕ) (es : List Placed) → Leads R h r es → Continues R h r' es finding) → finding ≡ finds.Entry x → r' ≡ after r (finds.Entry x) → r.sup ≡ s → x.at ≡ r.place → entry_length x.entry ≤ room_at r.place
      → Takes s row.kind row.inode x old new → AreChangesSoFar R row created stamps index found r' new
  changes_more r' found old new finding x so_far goes is moved p here fits t = subst (λ (q : Progress). AreChangesSoFar R row created stamps index found q new) (sym moved) (record {
    entries = so_far.entries ++ x ∷ [];
    leads = subst (λ (q : Progress). Leads R row.head q (so_far.entries ++ x ∷ [])) moved (subst (λ (f : Finding). Continues R row.head r' so_far.entries f) is (goes row.head so_far.entries so_far.leads));
    holds = subst (λ (n : Super). Holds n row.kind row.inode created (so_far.entries ++ x ∷ []) new) (sym p) (Holds-more (subst (λ (n : Super). Holds n row.kind row.inode created so_far.entries old) p so_far.holds) t);
    stand = stand_more r so_far.entries x here fits so_far.stand;
    each = λ b c. changes_still so_far.entries x b here fits (so_far.each b c);
  })

  -- ---- the whole log

  pub changes_whole : (r' : Progress) (found : List ℕ) (fold : Fold) (finding : Finding) (fault : Option LogEnd) → AreChangesSoFar R row created stamps index found r fold
      → ((h : ℕ) (es : List Placed) → Leads R h r es → Continues R h r' es finding) → finding ≡ finds.End fault → r.sup ≡ s → r'.sup ≡ s → r'.tail ≡ row.tail → AreChanges R s row stamps index found r'.pages fault
  changes_whole r' found fold finding fault so_far goes is p q t = record {
    entries = so_far.entries;
    reads = subst (λ (z : Super × ℕ). Reads R z.0 row.head z.1 so_far.entries r'.pages fault) (λ k. (q k, t k))
        (subst (λ (f : Finding). Continues R row.head r' so_far.entries f) is (goes row.head so_far.entries so_far.leads));
    each = λ b c. (let e = so_far.each b c in record {
      at = e.at;
      stamp = e.stamp;
      stamped = e.stamped;
      by = e.by;
      other = λ last. subst (λ (n : Super). block_of (good_entries n row.kind (without_page b so_far.entries)) e.at ≡ block_at index e.at → ⊥) p (e.other (inr (subst (λ (n : Super). said_last_in n row.kind so_far.entries e.at ≡ Some b) (sym p) last)));
    });
  }

-- Where the stamps tell of the log, it can't do without a page that changes a page of the file.
pub changes_needed : (R : Region) (s : Super) (row : Row) (created : ℕ) (stamps : Pages) (found pages : List ℕ) (fault : Option LogEnd) → HasStamps R s row stamps → AreChanges R s row stamps row.index found pages fault → AreNeeded R s created row found
changes_needed R s row created stamps found pages fault told changes page c es is go =
    let e = changes.each page c in
    let first : told.of.entries ≡ es = (ReadsOn-only told.of.reads is.reads).0 in
    let second : changes.entries ≡ es = (ReadsOn-only changes.reads is.reads).0 in
    let last : said_last_in s row.kind told.of.entries e.at ≡ Some page = told.of.tell e.at e.stamp (sym (told.same e.at) ∙ e.stamped) ∙ ap Some e.by in
    e.other (ap (λ (xs : List Placed). said_last_in s row.kind xs e.at) (second ∙ sym first) ∙ last)
    (ap (λ (xs : List Placed). block_of (good_entries s row.kind (without_page page xs)) e.at) second ∙ go.same.blocks e.at ∙ sym (is.index e.at))
