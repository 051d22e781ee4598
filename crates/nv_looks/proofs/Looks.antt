-- What looking into a region tells, by what it mounted.
use Rattle.std.proofs.Common.{◌≡◌, ◌∙◌, ℕ, inl, inr, Bool, is_some, List, length, Option, Some, None, refl, sym, ap, subst}
use Rattle.std.specs.Prelude.{if◌then◌else◌}
use Rattle.nv_region.specs.Region.{Region}
use Rattle.nv_region.specs.ImageState.{ImageState}
use Rattle.nv_text.specs.Refusals.{refusal_name}
use Rattle.nv_text.specs.declared.refusals.Refusal as texts
use Rattle.nv_journal.specs.Undo.{undone}
use Rattle.nv_calls.specs.Mount.{Mount}
use Rattle.nv_paths.specs.Seen.{tree_of}
use Rattle.nv_tree.specs.Path.{Says}
use Rattle.nv_tree.specs.Tree.{Tree}
use Rattle.nv_tree.specs.Refusals.{Path, Tests, first_refusal}
use Rattle.nv_tree.specs.declared.refusal.Refusal.{Refusal}
use Rattle.nv_tree.proofs.Texts.{text_says}
use Rattle.nv_image_check.specs.Checking.{IsRefusal}
use Rattle.nv_looks.specs.Looking.{Call, ByPath, IsLook, IsOpened, call_status}
use Rattle.nv_looks.specs.LookingByNumber.{ByNumber}
use Rattle.nv_image_check.specs.declared.answered.Answered.{Answered}
use Rattle.nv_looks.specs.declared.looking.Opened.TheVariants as opened

-- the superblock isn't accepted
pub refused_look : (Tells : Call) (R : Region) (refusal : texts.Refusal) (text : List ℕ) (answered : Answered) → IsOpened R (opened.Refused refusal)
    → IsRefusal (refusal_name refusal) text answered.status × (answered.faults ≡ 0) → IsLook Tells R text answered
refused_look Tells R refusal text answered is said = inl ((is.0, is.1, subst (λ (x : texts.Refusal). IsRefusal (refusal_name x) text answered.status) is.2 said.0), said.1)

call_is : (refusal : Option Refusal) → call_status refusal ≡ (if is_some refusal then 2 else 0)
call_is None = refl
call_is (Some refusal) = refl

module _ (R : Region) (m : Mount ImageState) (is : IsOpened R (opened.Mounted m)) where
  -- what is mounted shows the tree of the outcome
  same_tree : tree_of m.memory.region m.rows ≡ tree_of (undone is.0.sup R) is.0.rows
  same_tree = λ i. tree_of (is.2 i) (is.3 i)

  -- so what a call tells is that of the outcome
  pub mounted_look : (Tells : Call) (text : List ℕ) (answered : Answered) → Tells (tree_of m.memory.region m.rows) text answered.status → answered.faults ≡ length m.faults → IsLook Tells R text answered
  mounted_look Tells text answered told faults = inr (is.0, is.1, subst (λ (t : Tree). Tells t text answered.status) same_tree told, faults ∙ ap length is.4)

-- a call by the path that a text says, which tells whether it is refused
pub call_by_path : (Tells : Tree → Path → List ℕ → Type 0) (tests : Tree → Path → Tests) (path : List ℕ) (t : Tree) (text : List ℕ) (is_refused : Bool) (status : ℕ)
    → ((p : Path) → Says path p → Tells t p text) → ((p : Path) → Says path p → is_refused ≡ is_some (first_refusal (tests t p))) → status ≡ (if is_refused then 2 else 0) → ByPath Tells tests path t text status
call_by_path Tells tests path t text is_refused status tells refused ends =
    let p = text_says path in
    (p.0, p.1, tells p.0 p.1, ends ∙ ap (λ (b : Bool). if b then 2 else 0) (refused p.0 p.1) ∙ sym (call_is (first_refusal (tests t p.0))))

-- the same by an inode's number
pub call_by_number : (Tells : Tree → ℕ → List ℕ → Type 0) (tests : Tree → ℕ → Tests) (i : ℕ) (t : Tree) (text : List ℕ) (is_refused : Bool) (status : ℕ)
    → Tells t i text → is_refused ≡ is_some (first_refusal (tests t i)) → status ≡ (if is_refused then 2 else 0) → ByNumber Tells tests i t text status
call_by_number Tells tests i t text is_refused status tells refused ends =
    (tells, ends ∙ ap (λ (b : Bool). if b then 2 else 0) refused ∙ sym (call_is (first_refusal (tests t i))))
