-- What an entry says of each subject, and who loses what.
use Rattle.std.proofs.Common.{◌≡◌, ℕ, List, Option, Some, None, refl, sym, subst, arith, inl, inr, ◌⊎◌}
use Rattle.std.specs.Prelude.{IsTrue}
use Rattle.std.proofs.lemmas.Bool.{false≢true}
use Rattle.nv_entry.specs.declared.entry.WriteEntry.{WriteEntry}
use Rattle.nv_entry.specs.declared.entry.AttrEntry.{AttrEntry}
use Rattle.nv_entry.specs.declared.entry.NameEntry.{NameEntry}
use Rattle.nv_entry.specs.declared.entry.LinksEntry.{LinksEntry}
use Rattle.nv_entry.specs.declared.entry.Entry.{Entry}
use Rattle.nv_entry.specs.declared.entry.Entry.TheVariants.{NextPage, Write, Attr, Name, Links}
use Rattle.nv_logpage.specs.declared.found.Placed.{Placed}
use Rattle.nv_logpage.specs.Reads.{placed}
use Rattle.nv_names.specs.Names.{name_at}
use Rattle.nv_scan.specs.State.{says_size, says_mode, says_owner, says_group, says_links, says_time, says_block, says_name, block_in, cuts, name_in}
use Rattle.nv_inspect.specs.declared.held.Held.{Held}
use Rattle.nv_inspect.specs.Held.{Subject, the_size, the_mode, the_owner, the_group, the_links, the_time, the_page, the_name, says, value_in, holder_in, block_held, page_holder, name_holder, Says, SaysWord, Loses, Marks, HoldsOne, LosesOne, TakesGood, is_among}
use Rattle.nv_inspect.proofs.Among.{among_open}
use Rattle.nv_inspect.proofs.Marking.{marks_as, marks_both, marks_none, marks_then}

pub takes_by : (by : ℕ) (x : Placed) (old new : Held) → SaysWord by (says_size x) old.size new.size → SaysWord by (says_mode x) old.mode new.mode → SaysWord by (says_owner x) old.owner new.owner
    → SaysWord by (says_group x) old.group new.group → SaysWord by (says_links x) old.links new.links → SaysWord by (says_time x) old.time new.time
    → ((p : ℕ) → Says by (says_block p x) (block_held old.pages.entries p) (page_holder old.pages.entries p) (block_held new.pages.entries p) (page_holder new.pages.entries p))
    → ((q : List ℕ) → Says by (says_name q x) (name_at old.names.targets q) (name_holder old.names q) (name_at new.names.targets q) (name_holder new.names q)) → TakesGood by x old new
takes_by by x old new size mode owner group links time pages names the_size = size
takes_by by x old new size mode owner group links time pages names the_mode = mode
takes_by by x old new size mode owner group links time pages names the_owner = owner
takes_by by x old new size mode owner group links time pages names the_group = group
takes_by by x old new size mode owner group links time pages names the_links = links
takes_by by x old new size mode owner group links time pages names the_time = time
takes_by by x old new size mode owner group links time pages names (the_page p) = pages p
takes_by by x old new size mode owner group links time pages names (the_name q) = names q

-- ---- who loses something by an entry of each kind

loses_links : (at : ℕ) (e : LinksEntry) (h : Held) (k : ℕ) (subject : Subject) → Loses (says subject (placed at (Links e))) (holder_in h subject) k → Loses (Some e.count) h.links.holder k ⊎ Loses (Some e.time) h.time.holder k
loses_links at e h k the_size w = absurd (false≢true w.0)
loses_links at e h k the_mode w = absurd (false≢true w.0)
loses_links at e h k the_owner w = absurd (false≢true w.0)
loses_links at e h k the_group w = absurd (false≢true w.0)
loses_links at e h k the_links w = inl w
loses_links at e h k the_time w = inr w
loses_links at e h k (the_page p) w = absurd (false≢true w.0)
loses_links at e h k (the_name q) w = absurd (false≢true w.0)

pub marks_links : (by at : ℕ) (e : LinksEntry) (h : Held) (old mid new : List (Option ℕ)) → Marks by (Loses (Some e.count) h.links.holder) old mid → Marks by (Loses (Some e.time) h.time.holder) mid new
    → Marks by (LosesOne (placed at (Links e)) h) old new
marks_links by at e h old mid new links time = marks_then by (Loses (Some e.count) h.links.holder) (Loses (Some e.time) h.time.holder) (LosesOne (placed at (Links e)) h) old mid new links time
    (λ k w. elim w [ inl a ↦ (the_links, a) | inr b ↦ (the_time, b) ]) (λ k one. loses_links at e h k one.0 one.1)

-- a name of which an entry says something
abbrev pub LosesName : ℕ → NameEntry → Held → ℕ → Type 0
LosesName at e h k = (q : List ℕ) × Loses (name_in q at (Name e)) (name_holder h.names q) k

loses_name : (at : ℕ) (e : NameEntry) (h : Held) (k : ℕ) (subject : Subject) → Loses (says subject (placed at (Name e))) (holder_in h subject) k → Loses (Some e.time) h.time.holder k ⊎ LosesName at e h k
loses_name at e h k the_size w = absurd (false≢true w.0)
loses_name at e h k the_mode w = absurd (false≢true w.0)
loses_name at e h k the_owner w = absurd (false≢true w.0)
loses_name at e h k the_group w = absurd (false≢true w.0)
loses_name at e h k the_links w = absurd (false≢true w.0)
loses_name at e h k the_time w = inl w
loses_name at e h k (the_page p) w = absurd (false≢true w.0)
loses_name at e h k (the_name q) w = inr (q, w)

pub marks_name : (by at : ℕ) (e : NameEntry) (h : Held) (old mid new : List (Option ℕ)) → Marks by (Loses (Some e.time) h.time.holder) old mid → Marks by (LosesName at e h) mid new
    → Marks by (LosesOne (placed at (Name e)) h) old new
marks_name by at e h old mid new time names = marks_then by (Loses (Some e.time) h.time.holder) (LosesName at e h) (LosesOne (placed at (Name e)) h) old mid new time names
    (λ k w. elim w [ inl a ↦ (the_time, a) | inr b ↦ (the_name b.0, b.1) ]) (λ k one. loses_name at e h k one.0 one.1)

-- a page of which an entry says something
abbrev pub LosesPage : (ℕ → Option (Option ℕ)) → Held → ℕ → Type 0
LosesPage said h k = (p : ℕ) × Loses (said p) (page_holder h.pages.entries p) k

abbrev LosesSize : ℕ → ℕ → Held → ℕ → Type 0
LosesSize size time h k = Loses (Some size) h.size.holder k ⊎ Loses (Some time) h.time.holder k

loses_write : (at : ℕ) (e : WriteEntry) (h : Held) (k : ℕ) (subject : Subject) → Loses (says subject (placed at (Write e))) (holder_in h subject) k → LosesSize e.size e.time h k ⊎ LosesPage (λ (p : ℕ). block_in p (Write e)) h k
loses_write at e h k the_size w = inl (inl w)
loses_write at e h k the_mode w = absurd (false≢true w.0)
loses_write at e h k the_owner w = absurd (false≢true w.0)
loses_write at e h k the_group w = absurd (false≢true w.0)
loses_write at e h k the_links w = absurd (false≢true w.0)
loses_write at e h k the_time w = inl (inr w)
loses_write at e h k (the_page p) w = inr (p, w)
loses_write at e h k (the_name q) w = absurd (false≢true w.0)

pub marks_write : (by at : ℕ) (e : WriteEntry) (h : Held) (old mid mid2 new : List (Option ℕ)) → Marks by (Loses (Some e.size) h.size.holder) old mid → Marks by (Loses (Some e.time) h.time.holder) mid mid2
    → Marks by (LosesPage (λ (p : ℕ). block_in p (Write e)) h) mid2 new → Marks by (LosesOne (placed at (Write e)) h) old new
marks_write by at e h old mid mid2 new size time pages =
    marks_then by (LosesSize e.size e.time h) (LosesPage (λ (p : ℕ). block_in p (Write e)) h) (LosesOne (placed at (Write e)) h) old mid2 new
    (marks_both by (Loses (Some e.size) h.size.holder) (Loses (Some e.time) h.time.holder) old mid mid2 size time) pages
    (λ k w. elim w [ inl a ↦ elim a [ inl x ↦ (the_size, x) | inr y ↦ (the_time, y) ] | inr b ↦ (the_page b.0, b.1) ]) (λ k one. loses_write at e h k one.0 one.1)

abbrev LosesMode : AttrEntry → Held → ℕ → Type 0
LosesMode e h k = Loses (Some e.size) h.size.holder k ⊎ Loses (Some e.mode) h.mode.holder k

abbrev LosesOwner : AttrEntry → Held → ℕ → Type 0
LosesOwner e h k = Loses (Some e.owner) h.owner.holder k ⊎ Loses (Some e.group) h.group.holder k

abbrev LosesCut : AttrEntry → Held → ℕ → Type 0
LosesCut e h k = Loses (Some e.time) h.time.holder k ⊎ LosesPage (λ (p : ℕ). cuts e.size p) h k

loses_attr : (at : ℕ) (e : AttrEntry) (h : Held) (k : ℕ) (subject : Subject) → Loses (says subject (placed at (Attr e))) (holder_in h subject) k → (LosesMode e h k ⊎ LosesOwner e h k) ⊎ LosesCut e h k
loses_attr at e h k the_size w = inl (inl (inl w))
loses_attr at e h k the_mode w = inl (inl (inr w))
loses_attr at e h k the_owner w = inl (inr (inl w))
loses_attr at e h k the_group w = inl (inr (inr w))
loses_attr at e h k the_links w = absurd (false≢true w.0)
loses_attr at e h k the_time w = inr (inl w)
loses_attr at e h k (the_page p) w = inr (inr (p, w))
loses_attr at e h k (the_name q) w = absurd (false≢true w.0)

pub marks_attr : (by at : ℕ) (e : AttrEntry) (h : Held) (a b c d f g new : List (Option ℕ)) → Marks by (Loses (Some e.size) h.size.holder) a b → Marks by (Loses (Some e.mode) h.mode.holder) b c
    → Marks by (Loses (Some e.owner) h.owner.holder) c d → Marks by (Loses (Some e.group) h.group.holder) d f → Marks by (Loses (Some e.time) h.time.holder) f g
    → Marks by (LosesPage (λ (p : ℕ). cuts e.size p) h) g new → Marks by (LosesOne (placed at (Attr e)) h) a new
marks_attr by at e h a b c d f g new size mode owner group time pages =
    marks_then by (λ (k : ℕ). LosesMode e h k ⊎ LosesOwner e h k) (LosesCut e h) (LosesOne (placed at (Attr e)) h) a f new
    (marks_both by (LosesMode e h) (LosesOwner e h) a c f (marks_both by (Loses (Some e.size) h.size.holder) (Loses (Some e.mode) h.mode.holder) a b c size mode)
    (marks_both by (Loses (Some e.owner) h.owner.holder) (Loses (Some e.group) h.group.holder) c d f owner group))
    (marks_both by (Loses (Some e.time) h.time.holder) (LosesPage (λ (p : ℕ). cuts e.size p) h) f g new time pages)
    (λ k w. elim w [
      | inl u ↦ elim u [
        | inl v ↦ elim v [ inl x ↦ (the_size, x) | inr y ↦ (the_mode, y) ]
        | inr v ↦ elim v [ inl x ↦ (the_owner, x) | inr y ↦ (the_group, y) ]
      ]
      | inr u ↦ elim u [ inl x ↦ (the_time, x) | inr y ↦ (the_page y.0, y.1) ]
    ])
    (λ k one. loses_attr at e h k one.0 one.1)

-- by one that says nothing
loses_next : (at : ℕ) (h : Held) (k : ℕ) (subject : Subject) → Loses (says subject (placed at NextPage)) (holder_in h subject) k → ⊥
loses_next at h k the_size w = false≢true w.0
loses_next at h k the_mode w = false≢true w.0
loses_next at h k the_owner w = false≢true w.0
loses_next at h k the_group w = false≢true w.0
loses_next at h k the_links w = false≢true w.0
loses_next at h k the_time w = false≢true w.0
loses_next at h k (the_page p) w = false≢true w.0
loses_next at h k (the_name q) w = false≢true w.0

pub marks_next : (by at : ℕ) (h : Held) (old : List (Option ℕ)) → Marks by (LosesOne (placed at NextPage) h) old old
marks_next by at h old = marks_none by (LosesOne (placed at NextPage) h) old (λ k one. loses_next at h k one.0 one.1)

-- ---- who holds something

abbrev pub HoldsAPage : Held → ℕ → Type 0
HoldsAPage h k = (p : ℕ) × (page_holder h.pages.entries p ≡ Some k)

abbrev pub HoldsAName : Held → ℕ → Type 0
HoldsAName h k = (q : List ℕ) × (name_holder h.names q ≡ Some k)

abbrev HoldsNumber : Held → ℕ → Type 0
HoldsNumber h k = (((h.size.holder ≡ Some k) ⊎ (h.mode.holder ≡ Some k)) ⊎ ((h.owner.holder ≡ Some k) ⊎ (h.group.holder ≡ Some k))) ⊎ ((h.links.holder ≡ Some k) ⊎ (h.time.holder ≡ Some k))

holds_part : (h : Held) (k : ℕ) (subject : Subject) → holder_in h subject ≡ Some k → HoldsNumber h k ⊎ (HoldsAPage h k ⊎ HoldsAName h k)
holds_part h k the_size w = inl (inl (inl (inl w)))
holds_part h k the_mode w = inl (inl (inl (inr w)))
holds_part h k the_owner w = inl (inl (inr (inl w)))
holds_part h k the_group w = inl (inl (inr (inr w)))
holds_part h k the_links w = inl (inr (inl w))
holds_part h k the_time w = inl (inr (inr w))
holds_part h k (the_page p) w = inr (inl (p, w))
holds_part h k (the_name q) w = inr (inr (q, w))

holds_whole : (h : Held) (k : ℕ) → HoldsNumber h k ⊎ (HoldsAPage h k ⊎ HoldsAName h k) → HoldsOne h k
holds_whole h k w = elim w [
  | inl n ↦ elim n [
    | inl u ↦ elim u [
      | inl v ↦ elim v [ inl x ↦ (the_size, x) | inr y ↦ (the_mode, y) ]
      | inr v ↦ elim v [ inl x ↦ (the_owner, x) | inr y ↦ (the_group, y) ]
    ]
    | inr u ↦ elim u [ inl x ↦ (the_links, x) | inr y ↦ (the_time, y) ]
  ]
  | inr m ↦ elim m [ inl x ↦ (the_page x.0, x.1) | inr y ↦ (the_name y.0, y.1) ]
]

pub marks_held : (by : ℕ) (h : Held) (a b c d e f g i new : List (Option ℕ)) → Marks by (λ (k : ℕ). h.size.holder ≡ Some k) a b → Marks by (λ (k : ℕ). h.mode.holder ≡ Some k) b c
    → Marks by (λ (k : ℕ). h.owner.holder ≡ Some k) c d → Marks by (λ (k : ℕ). h.group.holder ≡ Some k) d e → Marks by (λ (k : ℕ). h.links.holder ≡ Some k) e f
    → Marks by (λ (k : ℕ). h.time.holder ≡ Some k) f g → Marks by (HoldsAPage h) g i → Marks by (HoldsAName h) i new → Marks by (HoldsOne h) a new
marks_held by h a b c d e f g i new size mode owner group links time pages names =
    marks_then by (HoldsNumber h) (λ (k : ℕ). HoldsAPage h k ⊎ HoldsAName h k) (HoldsOne h) a g new
    (marks_both by (λ (k : ℕ). ((h.size.holder ≡ Some k) ⊎ (h.mode.holder ≡ Some k)) ⊎ ((h.owner.holder ≡ Some k) ⊎ (h.group.holder ≡ Some k))) (λ (k : ℕ). (h.links.holder ≡ Some k) ⊎ (h.time.holder ≡ Some k)) a e g
    (marks_both by (λ (k : ℕ). (h.size.holder ≡ Some k) ⊎ (h.mode.holder ≡ Some k)) (λ (k : ℕ). (h.owner.holder ≡ Some k) ⊎ (h.group.holder ≡ Some k)) a c e
    (marks_both by (λ (k : ℕ). h.size.holder ≡ Some k) (λ (k : ℕ). h.mode.holder ≡ Some k) a b c size mode)
    (marks_both by (λ (k : ℕ). h.owner.holder ≡ Some k) (λ (k : ℕ). h.group.holder ≡ Some k) c d e owner group))
    (marks_both by (λ (k : ℕ). h.links.holder ≡ Some k) (λ (k : ℕ). h.time.holder ≡ Some k) e f g links time))
    (marks_both by (HoldsAPage h) (HoldsAName h) g i new pages names)
    (λ k w. holds_whole h k w) (λ k one. holds_part h k one.0 one.1)

-- ---- an entry that says nothing

takes_nothing : (by at : ℕ) (h : Held) (subject : Subject) → Says by (says subject (placed at NextPage)) (value_in h subject) (holder_in h subject) (value_in h subject) (holder_in h subject)
takes_nothing by at h the_size = (refl, refl)
takes_nothing by at h the_mode = (refl, refl)
takes_nothing by at h the_owner = (refl, refl)
takes_nothing by at h the_group = (refl, refl)
takes_nothing by at h the_links = (refl, refl)
takes_nothing by at h the_time = (refl, refl)
takes_nothing by at h (the_page p) = (refl, refl)
takes_nothing by at h (the_name q) = (refl, refl)

pub takes_next : (by : ℕ) (x : Placed) (h : Held) → x.entry ≡ NextPage → TakesGood by x h h
takes_next by x h is = subst (λ (e : Entry). TakesGood by (placed x.at e) h h) (sym is) (takes_nothing by x.at h)

pub marks_next_entry : (by : ℕ) (x : Placed) (h : Held) (old : List (Option ℕ)) → x.entry ≡ NextPage → Marks by (LosesOne x h) old old
marks_next_entry by x h old is = subst (λ (e : Entry). Marks by (LosesOne (placed x.at e) h) old old) (sym is) (marks_next by x.at h old)

-- all pages are among these
pub marks_each_page : (by : ℕ) (h : Held) (old new : List (Option ℕ)) → Marks by (λ (k : ℕ). (p : ℕ) × IsTrue (is_among 0 None p) × (page_holder h.pages.entries p ≡ Some k)) old new → Marks by (HoldsAPage h) old new
marks_each_page by h old new marks = marks_as by (λ (k : ℕ). (p : ℕ) × IsTrue (is_among 0 None p) × (page_holder h.pages.entries p ≡ Some k)) (HoldsAPage h) old new
    (λ k w. (w.0, w.2)) (λ k w. (w.0, among_open 0 w.0 (omega arith), w.1)) marks
