-- Whether a log can do without a page is told by what its other entries say.
use Rattle.std.proofs.Common.{◌≡◌, inl, inr, Bool, true, false, eqb, ℕ, Result, Ok, Err, IfOk, List, [], ◌∷◌, length, refl, ap, sym, ◌∙◌, subst, arith, Option}
use Rattle.std.specs.List.{Contains}
use Rattle.std.proofs.lemmas.Bool.{true≢false}
use Rattle.std.proofs.lemmas.Bool.Decides.{eqb_tells}
use Rattle.nv_region.specs.Region.{Region}
use Rattle.nv_super.specs.declared.superblock.Super.{Super}
use Rattle.nv_super.specs.declared.faults.Fault.{Fault}
use Rattle.nv_super.proofs.Rising.{Contains-head}
use Rattle.nv_logpage.specs.declared.found.LogEnd.{LogEnd}
use Rattle.nv_logpage.specs.declared.found.Placed.{Placed}
use Rattle.nv_logpage.specs.Good.{good_entries}
use Rattle.nv_logpage.specs.Unlinked.{without_page}
use Rattle.nv_logpage.proofs.Once.{ReadsOn-only}
use Rattle.nv_deadpages.specs.Dead.{CanGo, IsSaidBy, SameState}
use Rattle.nv_deadpages.specs.ReadingWithout.{IsReadWithout, SaysRow}
use Rattle.nv_scan.specs.Fold.{Holds}
use Rattle.nv_scan.specs.declared.fold.Fold.{Fold}
use Rattle.nv_scan.specs.declared.numbers.Numbers.{Numbers}
use Rattle.nv_scan.specs.declared.piece.Row.{Row}

-- What is kept of these entries says the same as the row: so do the entries, as all of the log.
pub says_same : {R : Region} {s : Super} {created : ℕ} {es : List Placed} {row : Row} (xs : List Placed) {fold : Fold} → IsSaidBy R s created es row → Holds s row.kind row.inode created xs fold → SaysRow fold row
    → SameState created (good_entries s row.kind es) (good_entries s row.kind xs)
says_same xs is holds says = record {
  size = sym holds.numbers.size ∙ ap (λ (n : Numbers). n.size) says.numbers ∙ is.numbers.size;
  mode = sym holds.numbers.mode ∙ ap (λ (n : Numbers). n.mode) says.numbers ∙ is.numbers.mode;
  owner = sym holds.numbers.owner ∙ ap (λ (n : Numbers). n.owner) says.numbers ∙ is.numbers.owner;
  group = sym holds.numbers.group ∙ ap (λ (n : Numbers). n.group) says.numbers ∙ is.numbers.group;
  links = sym holds.numbers.links ∙ ap (λ (n : Numbers). n.links) says.numbers ∙ is.numbers.links;
  time = sym holds.numbers.time ∙ ap (λ (n : Numbers). n.time) says.numbers ∙ is.numbers.time;
  blocks = λ p. sym (holds.extents p) ∙ says.blocks p ∙ is.index p;
  names = λ q. sym (holds.names q) ∙ says.names q ∙ is.names q;
}

module _ (R : Region) (s : Super) (created : ℕ) (es : List Placed) (row : Row) (page : ℕ) (fold : Fold) (pages : List ℕ) (fault : Option LogEnd) (is : IsSaidBy R s created es row) (w : IsReadWithout R s row created page fold pages fault) where
  holds : Holds s row.kind row.inode created (without_page page es) fold
  holds = subst (λ (xs : List Placed). Holds s row.kind row.inode created (without_page page xs) fold) (ReadsOn-only w.reads is.reads).0 w.holds

  -- where it says the same, and nothing is wrong
  pub can : SaysRow fold row → CanGo s row.kind row.inode created es page
  can says = record {
    same = says_same (without_page page es) is holds says;
    clean = λ f wrong. (let c = holds.found.all f wrong in let inside = c.1 in let none = says.clean in omega (arith, inside, none));
  }

  module _ (go : CanGo s row.kind row.inode created es page) where
    -- what it says then
    faults_are : (xs : List Fault) → ((f : Fault) → Contains xs f → Contains fold.faults.items f) → length xs ≡ 0
    faults_are [] all = refl
    faults_are (f ∷ fs) all = absurd (go.clean f (holds.found.each f (all f (Contains-head f fs))))

    same_numbers : fold.numbers ≡ row.numbers
    same_numbers t = record {
      size = (holds.numbers.size ∙ go.same.size ∙ sym is.numbers.size) t;
      mode = (holds.numbers.mode ∙ go.same.mode ∙ sym is.numbers.mode) t;
      owner = (holds.numbers.owner ∙ go.same.owner ∙ sym is.numbers.owner) t;
      group = (holds.numbers.group ∙ go.same.group ∙ sym is.numbers.group) t;
      links = (holds.numbers.links ∙ go.same.links ∙ sym is.numbers.links) t;
      time = (holds.numbers.time ∙ go.same.time ∙ sym is.numbers.time) t;
    }

    pub says : SaysRow fold row
    says = record {
      clean = faults_are fold.faults.items (λ f c. c);
      numbers = same_numbers;
      names = λ q. holds.names q ∙ go.same.names q ∙ sym (is.names q);
      blocks = λ p. holds.extents p ∙ go.same.blocks p ∙ sym (is.index p);
    }

-- what follows from what a call answers
pub where_done : {T E : Type 0} (result : Result T E) (P Q : T → Type 0) → IfOk result P → ((x : T) → P x → Q x) → IfOk result Q
where_done (Ok x) P Q here more = more x here
where_done (Err e) P Q here more = tt

-- what a list of faults says of whether it is empty
pub none_there : (n : ℕ) (empty : Bool) → empty ≡ eqb n 0 → empty ≡ true → n ≡ 0
none_there n empty says told = elim (eqb_tells n 0) [ inl w ↦ w.1 | inr w ↦ absurd (true≢false (sym told ∙ says ∙ w.0)) ]

pub some_there : (n : ℕ) (empty : Bool) → empty ≡ eqb n 0 → empty ≡ false → n ≡ 0 → ⊥
some_there n empty says told none = elim (eqb_tells n 0) [ inl w ↦ true≢false (sym w.0 ∙ sym says ∙ told) | inr w ↦ w.1 none ]
