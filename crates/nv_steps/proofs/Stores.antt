-- Which words a call stores: what the commits store, told of places.
use Rattle.std.proofs.Common.{◌≡◌, ℕ, ◌+◌, ◌-◌, ◌*◌, ◌/◌, ◌%◌, ◌==◌, if◌then◌else◌, inl, inr, Bool, true, false, List, [], ◌∷◌, get_or, refl, ap, sym, ◌∙◌, subst, arith, Some}
use Rattle.std.specs.List.{Contains}
use Rattle.std.proofs.lemmas.List.{get_or_default}
use Rattle.nv_region.specs.Region.{Region}
use Rattle.nv_region.specs.Stops.{Choices, IsMixed, One}
use Rattle.nv_region.proofs.Wordwise.{mixed_word}
use Rattle.nv_super.specs.Layout.{Layout}
use Rattle.nv_super.proofs.Rising.{Contains-head, Contains-tail}
use Rattle.nv_journal.specs.Recorded.{Changes}
use Rattle.nv_entry.specs.declared.entry.Entry.{Entry}
use Rattle.nv_bytes.specs.Storing.{InBlocks}
use Rattle.nv_logpage.specs.Append.{AppendWords, end_of}
use Rattle.nv_logpage.specs.Unlinked.{word_to}
use Rattle.nv_mounted.specs.Held.{Held, Store}
use Rattle.nv_mounted.specs.Blocks.{IsUnowned}
use Rattle.nv_commit.specs.declared.together.Extension.{Extension}
use Rattle.nv_commit.specs.declared.making.NewInode.{NewInode}
use Rattle.nv_commit.specs.Extends.{CanExtend, ExtendWords}
use Rattle.nv_commit.specs.Together.{CanExtendTwo, TogetherWords}
use Rattle.nv_commit.specs.Makes.{CanMake, MakeWords}
use Rattle.nv_commit.specs.Removes.{CanRemove, RemoveWords}
use Rattle.nv_commit.proofs.Extends.{slots}
use Rattle.nv_steps.proofs.SlotPlaces.{slot_known}
use Rattle.nv_steps.specs.Stores.{MayStore, Places, StoresIn, at_commit, behind_tail, in_free, in_journal, in_slot, one_less, one_log, one_more, one_page_less, two_logs}
use Rattle.nv_steps.specs.Slots.{slot_in}

-- where nothing was stored
pub stores_nothing : (l : Layout) (held : Store) (p : Places) (R : Region) → StoresIn l held p R R
stores_nothing l held p R at whole away = refl

module _ {l : Layout} {held : Store} (p : Places) where
  -- words that are all of these places
  pub stores_in : (R S : Region) (these : Choices) → IsMixed R these S → ((k v : ℕ) → these k v → MayStore l held p (8 * k)) → StoresIn l held p R S
  stores_in R S these mixed covers at whole away = mixed_word R S these at whole mixed (λ v w. away (subst (MayStore l held p) (let same : 8 * (at / 8) ≡ at = omega (arith, whole) in same) (covers (at / 8) v w)))

  -- what an append stores
  pub append_in : {R : Region} {i : ℕ} {h : Held} {slot tail : ℕ} {entries : List Entry} {fresh : List ℕ} → CanExtend R l held i h slot tail entries fresh → Contains p.logs i → (k v : ℕ) → AppendWords tail fresh k v → MayStore l held p (8 * k)
  append_in {i = i} {h = h} {tail = tail} can there k v (inl w) = let is = can.tail_is in behind_tail (8 * k) i h there can.holds (w.0 ∙ ap (λ (t : ℕ). t / 4096) (sym is)) (omega (arith, is, w.1))
  append_in {fresh = fresh} can there k v (inr w) = in_free (8 * k) (subst (IsUnowned l held) (sym w.2) (can.free (get_or fresh w.0 0) (w.0, w.1, get_or_default fresh w.0 (get_or fresh w.0 0) 0 w.1)))

  -- one word
  pub word_in : (a : ℕ) → a % 8 ≡ 0 → Contains p.words a → (k : ℕ) → k ≡ a / 8 → MayStore l held p (8 * k)
  word_in a whole there k is = at_commit (8 * k) (subst (Contains p.words) (let same : a ≡ 8 * k = omega (arith, whole, is) in same) there)

  -- two words that change together, and the journal
  pub changes_in : (cpu a v b w : ℕ) → Contains p.journals cpu → a % 8 ≡ 0 → b % 8 ≡ 0 → Contains p.words a → Contains p.words b → (k x : ℕ) → Changes cpu a v b w k x → MayStore l held p (8 * k)
  changes_in cpu a v b w own whole also one two k x (inl c) = in_journal (8 * k) cpu own c.0 c.1
  changes_in cpu a v b w own whole also one two k x (inr (inl c)) = word_in a whole one k c.0
  changes_in cpu a v b w own whole also one two k x (inr (inr c)) = word_in b also two k c.0

pub second_in : (a b : ℕ) → Contains (a ∷ b ∷ []) b
second_in a b = Contains-tail a (b ∷ []) b (Contains-head b [])

-- One log: what is stored of it, in a region that is as the first one, or has other data in free blocks.
pub one_stores : {R mid S : Region} {l : Layout} {held : Store} {i : ℕ} {h : Held} {slot tail : ℕ} {entries : List Entry} {fresh : List ℕ} → CanExtend R l held i h slot tail entries fresh → IsMixed mid (ExtendWords slot tail entries fresh) S → StoresIn l held (one_log l i) mid S
one_stores {R} {mid} {S} {l} {held} {i} {h} {slot} {tail} {entries} {fresh} can mixed =
    let at = slot_known l i slot can.at in
    stores_in (one_log l i) mid S (ExtendWords slot tail entries fresh) mixed (λ k v w. elim w [
      | inl a ↦ append_in (one_log l i) can (Contains-head i []) k v a
      | inr b ↦ (let clear = slots can in let whole = clear.whole i slot can.at in word_in (one_log l i) (slot + 24) (omega (arith, whole)) (subst (λ (a : ℕ). Contains ((a + 24) ∷ []) (slot + 24)) at (Contains-head (slot + 24) [])) k b.0)
    ])

-- Data in blocks that were free.
pub data_stores : {R S : Region} (l : Layout) (held : Store) (p : Places) (Is : ℕ → Type 0) → ((b : ℕ) → Is b → IsUnowned l held b) → IsMixed R (InBlocks Is) S → StoresIn l held p R S
data_stores {R} {S} l held p Is free mixed = stores_in p R S (InBlocks Is) mixed (λ k v w. in_free (8 * k) (free (8 * k / 4096) w))

-- The same of data and then of a log.
pub data_then_log : {R mid S : Region} {l : Layout} {held : Store} {i : ℕ} {h : Held} {slot tail : ℕ} {entries : List Entry} {fresh : List ℕ} (Is : ℕ → Type 0) → CanExtend R l held i h slot tail entries fresh → ((b : ℕ) → Is b → IsUnowned l held b)
    → IsMixed R (InBlocks Is) mid → IsMixed mid (ExtendWords slot tail entries fresh) S → StoresIn l held (one_log l i) R S
data_then_log {R} {mid} {S} {l} {held} {i} Is can free data_mixed log_mixed at whole away = one_stores {mid = mid} {S = S} can log_mixed at whole away ∙ data_stores {R = R} {S = mid} l held (one_log l i) Is free data_mixed at whole away

-- The word that leads to a page of a log.
pub link_stores : {R S : Region} (l : Layout) (held : Store) (i slot place new : ℕ) (given pages : List ℕ) → slot ≡ slot_in l i → slot_in l i % 128 ≡ 0 → given ≡ pages → IsMixed R (One (word_to (slot + 16) given place) new) S → StoresIn l held (one_page_less l i pages (Some place)) R S
link_stores {R} {S} l held i slot place new given pages at whole same mixed =
    let link = word_to (slot + 16) given place in
    let p = one_page_less l i pages (Some place) in
    let there : Contains p.words link = subst (λ (ps : List ℕ). Contains p.words (word_to (slot + 16) ps place)) (sym same) (subst (λ (a : ℕ). Contains p.words (word_to (a + 16) pages place)) (sym at) (Contains-head (word_to (slot_in l i + 16) pages place) [])) in
    stores_in p R S (One link new) mixed (λ k v w. word_in p link (to_whole (place == 0)) there k w.0)
  where
    to_whole : (b : Bool) → (if b then slot + 16 else 4096 * get_or given (place - 1) 0 + 4064) % 8 ≡ 0
    to_whole true = omega (arith, whole, at)
    to_whole false = omega arith

-- two logs
pub two_stores : {R S : Region} {l : Layout} {held : Store} {cpu i : ℕ} {h : Held} {x : Extension} {j : ℕ} {g : Held} {y : Extension} → CanExtendTwo R l held cpu i h x j g y → x.slot ≡ slot_in l i → y.slot ≡ slot_in l j → IsMixed R (TogetherWords cpu x y) S → StoresIn l held (two_logs l cpu i j) R S
two_stores {R} {S} {l} {held} {cpu} {i} {h} {x} {j} {g} {y} can one two mixed =
    let p = two_logs l cpu i j in
    let clear = slots can.first in
    let whole = clear.whole i x.slot can.first.at in
    let also = clear.whole j y.slot can.second.at in
    stores_in p R S (TogetherWords cpu x y) mixed (λ k v w. elim w [
      | inl (inl a) ↦ append_in p can.first (Contains-head i (j ∷ [])) k v a
      | inl (inr b) ↦ append_in p can.second (second_in i j) k v b
      | inr c ↦ changes_in p cpu (x.slot + 24) (end_of x.fresh.now 0 x.tail x.entries.now) (y.slot + 24) (end_of y.fresh.now 0 y.tail y.entries.now) (Contains-head cpu []) (omega (arith, whole)) (omega (arith, also))
          (subst (λ (a : ℕ). Contains p.words (a + 24)) (sym one) (Contains-head (slot_in l i + 24) ((slot_in l j + 24) ∷ [])))
          (subst (λ (a : ℕ). Contains p.words (a + 24)) (sym two) (second_in (slot_in l i + 24) (slot_in l j + 24))) k v c
    ])

-- an inode that comes
pub more_stores : {R S : Region} {l : Layout} {held : Store} {cpu j : ℕ} {n : NewInode} {i : ℕ} {h : Held} {x : Extension} → CanMake R l held cpu j n i h x → n.slot ≡ slot_in l j → x.slot ≡ slot_in l i → IsMixed R (MakeWords cpu n x) S → StoresIn l held (one_more l cpu j i) R S
more_stores {R} {S} {l} {held} {cpu} {j} {n} {i} {h} {x} can one two mixed =
    let p = one_more l cpu j i in
    let clear = slots can.parent in
    let whole = clear.whole j n.slot can.at in
    let also = clear.whole i x.slot can.parent.at in
    stores_in p R S (MakeWords cpu n x) mixed (λ k v w. elim w [
      | inl (inl (inl (inl a))) ↦ in_free (8 * k) (subst (IsUnowned l held) (let here = a.0 in let same : n.page ≡ 8 * k / 4096 = omega (arith, here) in same) can.page)
      | inl (inl (inl (inr a))) ↦ absurd (let none = a.1 in omega (arith, none))
      | inl (inl (inr a)) ↦ in_slot (8 * k) j (Contains-head j []) (let from = a.0 in omega (arith, from, one)) (let below = a.1 in omega (arith, below, one))
      | inl (inr a) ↦ append_in p can.parent (Contains-head i []) k v a
      | inr c ↦ changes_in p cpu n.slot 1 (x.slot + 24) (end_of x.fresh.now 0 x.tail x.entries.now) (Contains-head cpu []) (omega (arith, whole)) (omega (arith, also))
          (subst (Contains p.words) (sym one) (Contains-head (slot_in l j) ((slot_in l i + 24) ∷ [])))
          (subst (λ (a : ℕ). Contains p.words (a + 24)) (sym two) (second_in (slot_in l j) (slot_in l i + 24))) k v c
    ])

-- an inode that goes
pub less_stores : {R S : Region} {l : Layout} {held : Store} {cpu i : ℕ} {h : Held} {x : Extension} {j slot : ℕ} → CanRemove R l held cpu i h x j slot → x.slot ≡ slot_in l i → slot ≡ slot_in l j → IsMixed R (RemoveWords cpu x slot) S → StoresIn l held (one_less l cpu i j) R S
less_stores {R} {S} {l} {held} {cpu} {i} {h} {x} {j} {slot} can one two mixed =
    let p = one_less l cpu i j in
    let clear = slots can.parent in
    let whole = clear.whole i x.slot can.parent.at in
    let also = clear.whole j slot can.at in
    stores_in p R S (RemoveWords cpu x slot) mixed (λ k v w. elim w [
      | inl a ↦ append_in p can.parent (Contains-head i []) k v a
      | inr c ↦ changes_in p cpu (x.slot + 24) (end_of x.fresh.now 0 x.tail x.entries.now) slot 0 (Contains-head cpu []) (omega (arith, whole)) (omega (arith, also))
          (subst (λ (a : ℕ). Contains p.words (a + 24)) (sym one) (Contains-head (slot_in l i + 24) (slot_in l j ∷ [])))
          (subst (Contains p.words) (sym two) (second_in (slot_in l i + 24) (slot_in l j))) k v c
    ])
