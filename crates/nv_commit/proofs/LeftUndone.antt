-- What rolling the journals back leaves of data blocks, and what is recovered where two words change together.
use Rattle.std.proofs.Common.{◌≡◌, ℕ, ◌+◌, ◌*◌, ◌/◌, ◌%◌, ◌≤◌, inl, inr, Bool, true, false, refl, ap, sym, ◌∙◌, arith, Some}
use Rattle.nv_region.specs.Region.{Region, word}
use Rattle.nv_super.specs.declared.superblock.Super.{Super}
use Rattle.nv_super.specs.Layout.{IsLayout, Layout, system_blocks}
use Rattle.nv_super.specs.Super.{IsSuper}
use Rattle.nv_super.proofs.Accepted.{super_stays}
use Rattle.nv_inode.specs.Chains.{IsLaid, layout_of}
use Rattle.nv_inode.specs.Permitted.{IsKeyWord, is_permitted_by}
use Rattle.nv_inode.proofs.LayoutWords.{lies_behind, permitted_named, slot_stands}
use Rattle.nv_journal.specs.Undo.{journal, undone, undone_by}
use Rattle.nv_journal.proofs.AnyLength.{first_word, undone_size}
use Rattle.nv_journal.proofs.High.{word_kept}
use Rattle.nv_journal.proofs.KeptLinks.{faults_again, own_rule, undone_layout, undone_twice}
use Rattle.nv_outcome.proofs.SuperOf.{layout_of_super}
use Rattle.nv_scan.proofs.Blocks.{data_pages}
use Rattle.nv_mounted.specs.Held.{Held, Store, good_in}
use Rattle.nv_scan.specs.State.{block_of}
use Rattle.nv_mounted.specs.Bytes.{byte_of}
use Rattle.nv_mounted.specs.Slots.{HasNoSlot, SlotsClear}
use Rattle.nv_mounted.specs.Mounted.{AreIdle, IsFaultless, ShowsSound}
use Rattle.nv_mounted.proofs.BytesKept.{same_byte}
use Rattle.nv_mounted.proofs.Fronts.{tables_laid}
use Rattle.nv_mounted.proofs.Idle.{idle_of}
use Rattle.nv_commit.specs.Together.{ShowsIdle, UndoneShows}
use Rattle.nv_commit.specs.Stopped.{CanRecover, RollsBackTo}

-- ---- a block without a slot

-- no word of it is one that a journal may name
unnamed : (l : Layout) (b at : ℕ) → IsLaid l → HasNoSlot l b → at / 4096 ≡ b → is_permitted_by l at ≡ false
unnamed l b at laid none here = by (is_permitted_by l at) refl where
  near : (slot : ℕ) → slot % 128 ≡ 0 → IsKeyWord slot at → slot / 4096 ≡ at / 4096
  near slot whole key = elim key [ inl e ↦ omega (arith, e) | inr other ↦ elim other [ inl e ↦ omega (arith, whole, e) | inr e ↦ omega (arith, whole, e) ] ]

  by : (t : Bool) → is_permitted_by l at ≡ t → t ≡ false
  by false off = refl
  by true on =
      let named = permitted_named l at laid on in
      absurd (none named.0 named.1 named.2 (near named.1 (slot_stands l named.0 (Some named.1) laid (sym named.2)) named.3 ∙ here))

-- so rolling back leaves it, by the region's own tables
pub undone_word : (l : Layout) (left : Region) (b at : ℕ) → IsLaid l → l ≡ layout_of l.sup left → HasNoSlot l b → system_blocks l.sup ≤ b → at % 8 ≡ 0 → at / 4096 ≡ b → word (undone l.sup left) at ≡ word left at
undone_word l left b at laid own none from whole here =
    ap (λ (m : Layout). word (undone_by m left) at) (sym own)
    ∙ word_kept (is_permitted_by l) l.sup.cpus (lies_behind l laid) left at whole (unnamed l b at laid none here) (λ c below same. (let first : journal c ≡ 4096 * (1 + c) = refl in omega (arith, same, first, below, from, here)))

-- ---- what is recovered

-- a region has the superblock that its undone region has
super_back : (s : Super) (R : Region) → IsLayout s → IsSuper (undone s R) s → IsSuper R s
super_back s R layout is = super_stays (undone s R) R (sym (undone_size _ s.cpus (own_rule s R layout) R))
    (λ at whole before. sym (first_word _ s.cpus (own_rule s R layout) R at whole (omega (arith, before)))) s is

module _ {left : Region} {l : Layout} {after : Store} (w : UndoneShows l after left) where
  layout : IsLayout l.sup
  layout = layout_of_super (undone l.sup left) l.sup w.sup

  pub undone_can : CanRecover l.sup left
  undone_can = record { sup = super_back l.sup left layout w.sup; journals = w.journals }

  idle : AreIdle l.sup.cpus (undone l.sup left)
  idle = idle_of l.sup (undone l.sup left) layout (undone_twice l.sup left layout)
      (λ f h. w.journals f ((faults_again l.sup left f layout).0 h).0)

  pub undone_idle : ShowsIdle (undone l.sup left) l after
  undone_idle = record { tables = w.tables; idle = idle; shows = w.shows }

  pub undone_sound : IsFaultless l after → ShowsSound (undone l.sup left) l after
  undone_sound right = record { tables = w.tables; idle = idle; shows = w.shows; faultless = right }

  -- the region has the tables that it has once it is rolled back
  own : l ≡ layout_of l.sup left
  own = w.laid ∙ undone_layout l.sup left layout

  -- a file without a slot in its blocks has its bytes where they were
  pub undone_bytes : (h : Held) → ((p b : ℕ) → block_of (good_in l h) p ≡ Some b → HasNoSlot l b) → (x : ℕ) → byte_of (undone l.sup left) l h x ≡ byte_of left l h x
  undone_bytes h none x = same_byte left (undone l.sup left) (block_of (good_in l h) (x / 4096)) x (λ b maps. (
      undone_word l left b (b * 4096 + x % 4096 / 8 * 8) (tables_laid w.tables) own (none (x / 4096) b maps) (data_pages l.sup h.kind h.entries (x / 4096) b maps).1 (omega arith) (omega arith)))

  module _ (R : Region) {held : Store} (clear : SlotsClear l held) (bytes : (i : ℕ) (h : Held) → held i ≡ Some h → (x : ℕ) → byte_of left l h x ≡ byte_of R l h x) where
    pub undone_files : (i : ℕ) (h : Held) → held i ≡ Some h → (x : ℕ) → byte_of (undone l.sup left) l h x ≡ byte_of R l h x
    undone_files i h is x = undone_bytes h (λ p b maps. clear.unmapped i p b h is maps) x ∙ bytes i h is x

    pub undone_recovers : IsFaultless l after → RollsBackTo R l held after left
    undone_recovers right = record { can = undone_can; sound = undone_sound right; bytes = undone_files }
