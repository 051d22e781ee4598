-- Which entry holds a subject of an inode, as the log is read: the one without which the last word on it would be another.
use Rattle.std.specs.Prelude.{◌≡◌, ◌≢◌, ◌⊎◌, ◌+◌, ◌-◌, ◌<◌, ◌≤◌, ℕ, zero, suc, Bool, true, false, nat_le, nat_lt, ◌&&◌, ◌==◌, if◌then◌else◌, List, length, take, get_or, slice_get, Option, Some, None, IsSome, unwrap_or, ⊤}
use Rattle.std.specs.Option.{option_map}
use Rattle.std.specs.Ordering.{nat_cmp}
use Rattle.std.specs.List.{remove}
use Rattle.std.specs.Map.{lookup}
use Rattle.std.specs.BTreeMap.{is_at}
use Rattle.nv_super.specs.Layout.{most_pages}
use Rattle.nv_super.specs.declared.superblock.Super.{Super}
use Rattle.nv_super.specs.declared.kind.Kind.{Kind}
use Rattle.nv_entry.specs.declared.entry.Entry.{Entry}
use Rattle.nv_entry.specs.declared.entry.Entry.TheVariants.{NextPage, Write, Attr, Name, Links}
use Rattle.nv_logpage.specs.declared.found.Placed.{Placed}
use Rattle.nv_logpage.specs.Good.{good_entries}
use Rattle.nv_names.specs.Names.{name_at, IsName}
use Rattle.nv_scan.specs.State.{says_size, says_mode, says_owner, says_group, says_links, says_time, says_block, says_name}
use Rattle.nv_scan.specs.LastWord.{last_word}
use Rattle.nv_inspect.specs.Dead.{IsDead}
use Rattle.nv_inspect.specs.declared.fate.Fate.{Fate}
use Rattle.nv_inspect.specs.declared.fate.Fate.TheVariants.{Stands, ChangesNothing, DeadBy}
use Rattle.nv_inspect.specs.declared.word.Word.{Word}
use Rattle.nv_inspect.specs.declared.pieces.Piece.{Piece}
use Rattle.nv_inspect.specs.declared.names.HeldNames.{HeldNames}
use Rattle.nv_inspect.specs.declared.held.Held.{Held}

-- ---- what holds a subject

-- This entry holds the subject of a word, if there is one: without another the word is the same.
pub record IsHolder {V : Type 0} (word : List Placed → V) (es : List Placed) (holder : Option ℕ) : Type 0 where
  pub by : (k : ℕ) → holder ≡ Some k → (k < length es) × (word (remove es k) ≢ word es)
  pub others : (k : ℕ) → k < length es → holder ≢ Some k → word (remove es k) ≡ word es

-- the word, and what holds it
pub record IsHeld {V : Type 0} (word : List Placed → V) (es : List Placed) (value : V) (holder : Option ℕ) : Type 0 where
  pub is : value ≡ word es
  pub holds : IsHolder word es holder

-- who holds a subject of which entry j says this, where something stood before: no one, where the same stood
abbrev pub IsTaken : {V : Type 0} → ℕ → V → V → Option ℕ → Type 0
IsTaken j before value holder = ((before ≡ value) × (holder ≡ None)) ⊎ ((before ≢ value) × (holder ≡ Some j))

-- what entry j makes of a subject of which it says this, or nothing
abbrev pub Says : {V : Type 0} → ℕ → Option V → V → Option ℕ → V → Option ℕ → Type 0
Says j None old_value old_holder value holder = (value ≡ old_value) × (holder ≡ old_holder)
Says j (Some said) old_value old_holder value holder = (value ≡ said) × IsTaken j old_value said holder

-- the same of a number
abbrev pub SaysWord : ℕ → Option ℕ → Word → Word → Type 0
SaysWord j said old new = Says j said old.value old.holder new.value new.holder

-- ---- what was taken

-- These entries were marked with an entry that took something from them; the others have the mark that they had.
pub record Marks (by : ℕ) (P : ℕ → Type 0) (old new : List (Option ℕ)) : Type 0 where
  pub long : length new ≡ length old
  pub each : (k : ℕ) → k < length old → (P k × (get_or new k None ≡ Some by)) ⊎ ((P k → ⊥) × (get_or new k None ≡ get_or old k None))

-- an entry that holds a subject of which something is said
abbrev pub Loses : {V : Type 0} → Option V → Option ℕ → ℕ → Type 0
Loses said holder k = IsSome said × (holder ≡ Some k)

-- ---- the pages

-- the value of the last of these places up to n that has one
abbrev pub value_at : {V : Type 0} → V → (ℕ → Option V) → ℕ → V
value_at none keys zero = unwrap_or (keys zero) none
value_at none keys (suc n) = unwrap_or (keys (suc n)) (value_at none keys n)

-- a page of which nothing was said
abbrev pub no_piece : Piece
no_piece = record { shift = None; holder = None }

-- the piece that begins at a page, if one does
abbrev pub key_at : List (ℕ × Piece) → ℕ → Option Piece
key_at pieces p = lookup (is_at (nat_cmp p)) pieces

-- the piece in which a page stands: that of the last page up to it where one begins
abbrev pub piece_at : List (ℕ × Piece) → ℕ → Piece
piece_at pieces p = value_at no_piece (key_at pieces) p

-- the block of a page, by how far the blocks of its piece are shifted
abbrev pub block_by_shift : ℕ → Option ℕ → Option ℕ
block_by_shift p shift = option_map (λ (d : ℕ). p + d - most_pages) shift

-- the block of a page
abbrev pub block_held : List (ℕ × Piece) → ℕ → Option ℕ
block_held pieces p = block_by_shift p (piece_at pieces p).shift

-- who holds a page
abbrev pub page_holder : List (ℕ × Piece) → ℕ → Option ℕ
page_holder pieces p = (piece_at pieces p).holder

-- the page lies before this end, if there is one
abbrev pub is_before : Option ℕ → ℕ → Bool
is_before None p = true
is_before (Some end) p = nat_lt p end

-- the page lies from the first one on and before the end
abbrev pub is_among : ℕ → Option ℕ → ℕ → Bool
is_among first end p = nat_le first p && is_before end p

-- as far, or both none
abbrev pub same_shift : Option ℕ → Option ℕ → Bool
same_shift None None = true
same_shift None (Some b) = false
same_shift (Some a) None = false
same_shift (Some a) (Some b) = a == b

-- a piece of pages of which entry j says this
abbrev pub said_piece : ℕ → Option ℕ → Piece → Piece
said_piece j shift old = record { shift = shift; holder = if same_shift old.shift shift then None else Some j }

-- ---- the names

-- the first of two
abbrev pub first_of : ℕ × ℕ → ℕ
first_of x = x.0

-- who holds a name
abbrev pub name_holder : HeldNames → List ℕ → Option ℕ
name_holder names q = option_map first_of (name_at names.holders q)

-- ---- all subjects

-- what the entries of a log speak of
pub data Subject : Type 0 where
  the_size : Subject
  the_mode : Subject
  the_owner : Subject
  the_group : Subject
  the_links : Subject
  the_time : Subject
  the_page : ℕ → Subject
  the_name : List ℕ → Subject

-- what is said of a subject
abbrev pub Value : Subject → Type 0
Value the_size = ℕ
Value the_mode = ℕ
Value the_owner = ℕ
Value the_group = ℕ
Value the_links = ℕ
Value the_time = ℕ
Value (the_page p) = Option ℕ
Value (the_name q) = Option (ℕ × ℕ)

-- what an entry says of a subject, if it says something
abbrev pub says : (subject : Subject) → Placed → Option (Value subject)
says the_size = says_size
says the_mode = says_mode
says the_owner = says_owner
says the_group = says_group
says the_links = says_links
says the_time = says_time
says (the_page p) = says_block p
says (the_name q) = says_name q

-- what stands before the first entry
abbrev pub unsaid : ℕ → (subject : Subject) → Value subject
unsaid created the_size = 0
unsaid created the_mode = 0
unsaid created the_owner = 0
unsaid created the_group = 0
unsaid created the_links = 1
unsaid created the_time = created
unsaid created (the_page p) = None
unsaid created (the_name q) = None

-- the last word on a subject
abbrev pub word_on : Super → Kind → ℕ → (subject : Subject) → List Placed → Value subject
word_on s kind created subject es = last_word (says subject) (unsaid created subject) (good_entries s kind es)

-- what is held of a subject
abbrev pub value_in : Held → (subject : Subject) → Value subject
value_in h the_size = h.size.value
value_in h the_mode = h.mode.value
value_in h the_owner = h.owner.value
value_in h the_group = h.group.value
value_in h the_links = h.links.value
value_in h the_time = h.time.value
value_in h (the_page p) = block_held h.pages.entries p
value_in h (the_name q) = name_at h.names.targets q

-- who holds it
abbrev pub holder_in : Held → Subject → Option ℕ
holder_in h the_size = h.size.holder
holder_in h the_mode = h.mode.holder
holder_in h the_owner = h.owner.holder
holder_in h the_group = h.group.holder
holder_in h the_links = h.links.holder
holder_in h the_time = h.time.holder
holder_in h (the_page p) = page_holder h.pages.entries p
holder_in h (the_name q) = name_holder h.names q

-- each subject is as these entries say, and held by the entry that holds it
abbrev pub HoldsAll : Super → Kind → ℕ → List Placed → Held → Type 0
HoldsAll s kind created es h = (subject : Subject) → IsHeld (word_on s kind created subject) es (value_in h subject) (holder_in h subject)

-- an entry holds a subject
abbrev pub HoldsOne : Held → ℕ → Type 0
HoldsOne h k = (subject : Subject) × (holder_in h subject ≡ Some k)

-- it holds a subject of which an entry says something
abbrev pub LosesOne : Placed → Held → ℕ → Type 0
LosesOne x h k = (subject : Subject) × Loses (says subject x) (holder_in h subject) k

-- what good entry j makes of all subjects
abbrev pub TakesGood : ℕ → Placed → Held → Held → Type 0
TakesGood j x old new = (subject : Subject) → Says j (says subject x) (value_in old subject) (holder_in old subject) (value_in new subject) (holder_in new subject)

-- ---- what the entries took from one another

-- The last entry that took something from entry k, if one did, among entries of which each was taken: where k is dead it is so since
-- then, and not before.
abbrev pub IsTaker : Super → Kind → ℕ → List Placed → ℕ → Option ℕ → Type 0
IsTaker s kind created es k None = IsDead s kind created es k → IsDead s kind created (take (k + 1) es) k
IsTaker s kind created es k (Some m) = (k < m) × (m < length es) × (IsDead s kind created es k → IsDead s kind created (take (m + 1) es) k) × (IsDead s kind created (take m es) k → ⊥)

-- these are the last takers, and none is marked yet that was not taken
pub record AreTakers (s : Super) (kind : Kind) (created : ℕ) (es : List Placed) (takers : List (Option ℕ)) : Type 0 where
  pub each : (k : ℕ) → k < length es → IsTaker s kind created es k (get_or takers k None)
  pub later : (k : ℕ) → length es ≤ k → get_or takers k None ≡ None

-- ---- names

-- an entry with a name has one of 1 to 255 bytes
abbrev pub HasName : Entry → Type 0
HasName NextPage = ⊤
HasName (Write e) = ⊤
HasName (Attr e) = ⊤
HasName (Name e) = IsName e.name
HasName (Links e) = ⊤

-- so it is with each of these
abbrev pub HaveNames : List Placed → Type 0
HaveNames es = (k : ℕ) (x : Placed) → k < length es → x ≡ get_or es k x → HasName x.entry

-- ---- fates

-- the fate of an entry from which the last was taken by this one
abbrev pub killed_by : Option Placed → Fate
killed_by None = ChangesNothing
killed_by (Some x) = DeadBy x.at

-- the fate of an entry with this taker that isn't a holder
abbrev pub fate_by : List Placed → Option ℕ → Fate
fate_by es None = ChangesNothing
fate_by es (Some m) = killed_by (slice_get es m)

-- the fate of an entry with this taker, where it holds something if it is marked
abbrev pub fate_with : List Placed → Option ℕ → Option ℕ → Fate
fate_with es taker (Some mark) = Stands
fate_with es taker None = fate_by es taker
