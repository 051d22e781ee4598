-- What stores leave of a region's length, and of the bytes of files.
use Rattle.std.proofs.Common.{◌≡◌, ◌≢◌, ℕ, ◌+◌, ◌*◌, ◌/◌, ◌%◌, ◌^◌, inl, inr, length, refl, ap, sym, ◌∙◌, arith, Option, Some, None}
use Rattle.std.proofs.lemmas.Bool.{cases_lt}
use Rattle.nv_region.specs.Region.{Region, size, word}
use Rattle.nv_region.specs.Stops.{Choices, IsMixed}
use Rattle.nv_region.specs.Stored.{SameOutside}
use Rattle.nv_region.proofs.Wordwise.{mixed_word}
use Rattle.nv_super.specs.declared.owners.Owner.TheVariants as owners
use Rattle.nv_super.specs.Layout.{Layout, slot_of}
use Rattle.nv_scan.specs.State.{block_of}
use Rattle.nv_scan.proofs.Blocks.{data_pages}
use Rattle.nv_mounted.specs.Held.{Held, Store, Shows, good_in}
use Rattle.nv_mounted.specs.Blocks.{by_page, NoneDoubled}
use Rattle.nv_mounted.specs.Slots.{SlotsClear}
use Rattle.nv_mounted.specs.Loose.{Loose}
use Rattle.nv_mounted.specs.Front.{SameBehind}
use Rattle.nv_mounted.specs.Bytes.{byte_in, byte_of}
use Rattle.nv_mounted.proofs.Shown.{stands_at}
use Rattle.nv_mounted.proofs.Kept.{page_owner, tail_there}

-- a region that is mixed from another is as long
pub mixed_size : {R S : Region} {these : Choices} → IsMixed R these S → size S ≡ size R
mixed_size mixed k = 8 * mixed.as_long k + length (mixed.same_rest k)

-- a byte is read from one word of its page's block
pub same_byte : (R S : Region) (o : Option ℕ) (x : ℕ) → ((b : ℕ) → o ≡ Some b → word S (b * 4096 + x % 4096 / 8 * 8) ≡ word R (b * 4096 + x % 4096 / 8 * 8)) → byte_in S o x ≡ byte_in R o x
same_byte R S None x same = refl
same_byte R S (Some b) x same = ap (λ (w : ℕ). w / 256 ^ (x % 8) % 256) (same b refl)

-- a byte whose block isn't stored to
pub byte_stays : (R S : Region) (these : Choices) (o : Option ℕ) (x : ℕ) → IsMixed R these S → ((b : ℕ) → o ≡ Some b → (k v : ℕ) → 8 * k / 4096 ≡ b → these k v → ⊥) → byte_in S o x ≡ byte_in R o x
byte_stays R S these o x mixed away = same_byte R S o x (λ b is.
    mixed_word R S these (b * 4096 + x % 4096 / 8 * 8) (omega arith) mixed (λ v w. away b is ((b * 4096 + x % 4096 / 8 * 8) / 8) v (omega arith) w))

-- Where no word of a file's blocks was stored, each of its bytes is where it was.
pub data_stays : (l : Layout) (these : Choices) (R S : Region) (h : Held) → IsMixed R these S
    → ((p b k v : ℕ) → block_of (good_in l h) p ≡ Some b → 8 * k / 4096 ≡ b → these k v → ⊥) → (x : ℕ) → byte_of S l h x ≡ byte_of R l h x
data_stays l these R S h mixed away x = byte_stays R S these (block_of (good_in l h) (x / 4096)) x mixed (λ b maps k v block w. away (x / 4096) b k v maps block w)

-- Loose words are no file's.
pub no_loose_data : (l : Layout) (held : Store) (R : Region) (i : ℕ) (h : Held) → SlotsClear l held → NoneDoubled l held → Shows R l held → held i ≡ Some h
    → (p b k v : ℕ) → block_of (good_in l h) p ≡ Some b → 8 * k / 4096 ≡ b → Loose l held k v → ⊥
no_loose_data l held R i h slots undoubled shows is p b k v maps block (inl free) = free.unowned (owners.Data i p) (by_page is (maps ∙ ap Some (sym block)))
no_loose_data l held R i h slots undoubled shows is p b k v maps block (inr (inl w)) =
    let at = stands_at shows w.0 w.1 w.2 in
    let page : w.1.tail / 4096 ≡ b = sym w.3 ∙ block in
    let o = page_owner l held w.0 (w.1.tail / 4096) w.1 w.2 (tail_there at.is.right at.is.reads) in
    let clash : owners.Log w.0 o.0 ≡ owners.Data i p = undoubled (w.1.tail / 4096) (owners.Log w.0 o.0) (owners.Data i p) o.1 (by_page is (maps ∙ ap Some (sym page))) in
    absurd (cc)
no_loose_data l held R i h slots undoubled shows is p b k v maps block (inr (inr w)) =
    let same : w.1 / 4096 ≡ b = omega (arith, block, w.4, w.5, slots.whole w.0 w.1 w.2) in
    slots.unmapped i p b h is maps w.0 w.1 w.2 same

pub loose_data : (l : Layout) (held : Store) (R left : Region) (i : ℕ) (h : Held) → SlotsClear l held → NoneDoubled l held → Shows R l held → IsMixed R (Loose l held) left → held i ≡ Some h → (x : ℕ) → byte_of left l h x ≡ byte_of R l h x
loose_data l held R left i h slots undoubled shows mixed is = data_stays l (Loose l held) R left h mixed (no_loose_data l held R i h slots undoubled shows is)

-- No slot is.
pub slot_data : (l : Layout) (held : Store) (R S : Region) (j a i : ℕ) (h : Held) → SlotsClear l held → slot_of l j ≡ Some a → SameOutside R a 128 S → held i ≡ Some h → (x : ℕ) → byte_of S l h x ≡ byte_of R l h x
slot_data l held R S j a i h slots at same is x = same_byte R S (block_of (good_in l h) (x / 4096)) x of_block where
  of_block : (b : ℕ) → block_of (good_in l h) (x / 4096) ≡ Some b → word S (b * 4096 + x % 4096 / 8 * 8) ≡ word R (b * 4096 + x % 4096 / 8 * 8)
  of_block b maps =
      let other : a / 4096 ≢ b = slots.unmapped i (x / 4096) b h is maps j a at in
      elim (cases_lt (b * 4096 + x % 4096 / 8 * 8) a) [
        | inl low ↦ same.before (b * 4096 + x % 4096 / 8 * 8) (omega arith) low
        | inr high ↦ same.behind (b * 4096 + x % 4096 / 8 * 8) (omega arith) (omega (arith, high, other, slots.whole j a at))
      ]

-- Files lie behind the journals.
pub data_behind : (l : Layout) (R S : Region) (h : Held) → SameBehind l.sup.cpus R S → (x : ℕ) → byte_of S l h x ≡ byte_of R l h x
data_behind l R S h same x = same_byte R S (block_of (good_in l h) (x / 4096)) x of_block where
  of_block : (b : ℕ) → block_of (good_in l h) (x / 4096) ≡ Some b → word S (b * 4096 + x % 4096 / 8 * 8) ≡ word R (b * 4096 + x % 4096 / 8 * 8)
  of_block b maps =
      let from = (data_pages l.sup h.kind h.entries (x / 4096) b maps).1 in
      same (b * 4096 + x % 4096 / 8 * 8) (omega arith) (omega (arith, from))
