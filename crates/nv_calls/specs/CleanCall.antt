-- What `clean` makes of a log.
use Rattle.std.specs.Prelude.{◌≡◌, ℕ, [], ◌∷◌, Option, Some, None, get_or, is_none}
use Rattle.nv_region.specs.Region.{Region}
use Rattle.nv_deadpages.specs.Dead.{IsFirstDead}
use Rattle.nv_mounted.specs.Held.{Held, Store, with_inode}
use Rattle.nv_mounted.specs.Cleaned.{cleaned}
use Rattle.nv_mounted.specs.Mounted.{ShowsSound}
use Rattle.nv_steps.specs.Cleans.{IsKnownDead}
use Rattle.nv_tree.specs.Tree.{Tree}
use Rattle.nv_tree.specs.Refusals.{Tests, World}
use Rattle.nv_tree.specs.declared.refusal.Refusal.TheVariants.{NotFound, ReadOnly}
use Rattle.nv_super.specs.Layout.{Layout}

-- The page of this place is the first that the log can do without, its block is this one, and the region is sound and shows what was held, without it.
pub record PageWent (S : Region) (l : Layout) (held : Store) (i : ℕ) (h : Held) (b k : ℕ) : Type 0 where
  pub first : IsFirstDead l.sup h.kind i h.created h.entries h.pages (Some k)
  pub block : b ≡ get_or h.pages k 0
  pub sound : ShowsSound S l (with_inode held i (Some (cleaned h k)))

-- by the answer: the log needs each of its pages, and the region is as before, or one page went
abbrev pub ShowsCleaned : Region → Region → Layout → Store → ℕ → Held → Option ℕ → Type 0
ShowsCleaned R S l held i h None = IsFirstDead l.sup h.kind i h.created h.entries h.pages None × (S ≡ R)
ShowsCleaned R S l held i h (Some b) = ∥ ((k : ℕ) × PageWent S l held i h b k) ∥₁

-- what is known of the first page that the log of this inode can do without: nothing, or its place
abbrev pub IsKnown : Region → Layout → ℕ → Option ℕ → Type 0
IsKnown R l i known = (held : Store) (h : Held) → ShowsSound R l held → held i ≡ Some h → IsKnownDead l.sup h.kind i h.created h.entries h.pages known

-- `clean_inode`: why it is refused, by the number of an inode
abbrev pub clean_inode_tests : World → Tree → ℕ → Tests
clean_inode_tests w t i = (w.read_only, ReadOnly) ∷ (is_none (t i), NotFound) ∷ []

-- what a stop leaves of the log of that inode, where a page went
abbrev pub LosesPage : Region → Layout → ℕ → Region → Type 0
LosesPage R l i T = (held : Store) (h : Held) → ShowsSound R l held → held i ≡ Some h → ∥ ((b k : ℕ) × PageWent T l held i h b k) ∥₁
