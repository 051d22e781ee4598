-- The log of a row has one text, since it is read in one way, and one thing became of each entry.
use Rattle.std.proofs.Common.{◌≡◌, ◌∙◌, ◌<◌, ℕ, Bool, true, false, List, ◌++◌, length, get_or, Option, sym, ap, refl, subst, arith, inl, inr}
use Rattle.std.specs.Prelude.{MatchBool, codes}
use Rattle.std.proofs.lemmas.Bool.{cases_order}
use Rattle.std.proofs.lemmas.List.{ext_get_or}
use Rattle.nv_region.specs.Region.{Region}
use Rattle.nv_super.specs.declared.superblock.Super.{Super}
use Rattle.nv_super.specs.declared.kind.Kind.{Kind}
use Rattle.nv_super.specs.Layout.{Layout}
use Rattle.nv_inode.specs.Slot.{is_right_log}
use Rattle.nv_logpage.specs.declared.found.LogEnd.{LogEnd}
use Rattle.nv_logpage.specs.declared.found.Placed.{Placed}
use Rattle.nv_logpage.specs.Reads.{Reads}
use Rattle.nv_logpage.proofs.Once.{ReadsOn-only}
use Rattle.nv_scan.specs.declared.piece.Row.{Row}
use Rattle.nv_text.specs.Answers.{line}
use Rattle.nv_inspect.specs.declared.fate.Fate.{Fate}
use Rattle.nv_inspect.specs.declared.fate.Fate.TheVariants.{Stands, ChangesNothing, DeadBy}
use Rattle.nv_inspect.specs.Dead.{AreFates, IsDeadBy, IsFate}
use Rattle.nv_inspect.specs.Log.{IsLogText, created_at, head_line, read_text}

module _ (s : Super) (kind : Kind) (created : ℕ) (es : List Placed) where
  one_killer : (k a b : ℕ) → IsDeadBy s kind created es k a → IsDeadBy s kind created es k b → a ≡ b
  one_killer k a b x y = elim (cases_order x.by y.by) [
    | inl same ↦ (let first = x.is in let second = y.is in let killers : x.killer ≡ y.killer = cc in sym x.place ∙ ap (λ (z : Placed). z.at) killers ∙ y.place)
    | inr w ↦ elim w [
      | inl less ↦ absurd (y.from.first x.by less x.from.dead)
      | inr more ↦ absurd (x.from.first y.by more y.from.dead)
    ]
  ]

  fate_once : (k : ℕ) (a b : Fate) → IsFate s kind created es k a → IsFate s kind created es k b → a ≡ b
  fate_once k Stands Stands x y = refl
  fate_once k Stands ChangesNothing x y = absurd (x y.0)
  fate_once k Stands (DeadBy b) x y = absurd (x y.0)
  fate_once k ChangesNothing Stands x y = absurd (y x.0)
  fate_once k ChangesNothing ChangesNothing x y = refl
  fate_once k ChangesNothing (DeadBy b) x y = absurd (y.1.from.first k y.1.later x.1.dead)
  fate_once k (DeadBy a) Stands x y = absurd (y x.0)
  fate_once k (DeadBy a) ChangesNothing x y = absurd (x.1.from.first k x.1.later y.1.dead)
  fate_once k (DeadBy a) (DeadBy b) x y = ap DeadBy (one_killer k a b x.1 y.1)

  fates_once : (f g : List Fate) → AreFates s kind created es f → AreFates s kind created es g → f ≡ g
  fates_once f g x y = ext_get_or Stands f g (x.long ∙ sym y.long) (λ k below.
      (let there : k < length es = (let long = x.long in omega (arith, below, long)) in fate_once k (get_or f k Stands) (get_or g k Stands) (x.each k there) (y.each k there)))

module _ (R : Region) (l : Layout) (row : Row) where
  abbrev Told : List ℕ → Type 0
  Told text = (es : List Placed) × (pages : List ℕ) × (end : Option LogEnd) × (fates : List Fate) × Reads R l.sup row.head row.tail es pages end
      × AreFates l.sup row.kind (created_at R l row.inode) es fates × (text ≡ read_text l.sup row es fates pages end)

  told_once : (text other : List ℕ) → Told text → Told other → text ≡ other
  told_once text other a b =
      let same = ReadsOn-only a.4 b.4 in
      let fates : a.3 ≡ b.3 = fates_once l.sup row.kind (created_at R l row.inode) b.0 a.3 b.3 (subst (λ (es : List Placed). AreFates l.sup row.kind (created_at R l row.inode) es a.3) same.0 a.5) b.5 in
      a.6 ∙ (λ i. read_text l.sup row (same.0 i) (fates i) (same.1 i) (same.2 i)) ∙ sym b.6

  rest_once : (b : Bool) (text other : List ℕ) → MatchBool b (Told text) (text ≡ line (codes "  no log, by I3")) → MatchBool b (Told other) (other ≡ line (codes "  no log, by I3")) → text ≡ other
  rest_once true text other x y = told_once text other x y
  rest_once false text other x y = x ∙ sym y

  pub one_text : (text other : List ℕ) → IsLogText R l row text → IsLogText R l row other → text ≡ other
  one_text text other a b = a.2 ∙ ap (λ (rest : List ℕ). head_line row ++ rest) (rest_once (is_right_log l.sup row.head row.tail) a.0 b.0 a.1 b.1) ∙ sym b.2
