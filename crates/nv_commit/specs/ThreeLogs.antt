-- Three logs that grow together, by the journal of a CPU.
use Rattle.std.specs.Prelude.{◌≡◌, ◌≢◌, ◌⊎◌, ℕ, [], ◌∷◌}
use Rattle.std.specs.List.{Contains}
use Rattle.nv_region.specs.Region.{Region}
use Rattle.nv_region.specs.Stops.{Choices}
use Rattle.nv_super.specs.Layout.{Layout}
use Rattle.nv_journal.specs.Several.{ChangesAll}
use Rattle.nv_logpage.specs.Append.{AppendWords, end_of}
use Rattle.nv_mounted.specs.Held.{Held, Store}
use Rattle.nv_mounted.specs.Appended.{Appends}
use Rattle.nv_commit.specs.declared.together.Extension.{Extension}
use Rattle.nv_commit.specs.Extends.{CanExtend, with_log}
use Rattle.nv_commit.specs.Together.{AppendsBoth, BothWords, CanExtendTwo, UndoneShows, with_logs}
use Rattle.nv_commit.specs.Replaces.{new_tail}

-- Three inodes of a sound region can have these behind their logs' tails, over pages that are not the same.
pub record CanExtendThree (R : Region) (l : Layout) (held : Store) (cpu i : ℕ) (h : Held) (x : Extension) (j : ℕ) (g : Held) (y : Extension) (k : ℕ) (f : Held) (z : Extension) : Type 0 where
  pub two : CanExtendTwo R l held cpu i h x j g y
  pub third : CanExtend R l held k f z.slot z.tail z.entries.now z.fresh.now
  pub first_differs : i ≢ k
  pub second_differs : j ≢ k
  pub first_apart : (b : ℕ) → Contains x.fresh.now b → Contains z.fresh.now b → ⊥
  pub second_apart : (b : ℕ) → Contains y.fresh.now b → Contains z.fresh.now b → ⊥

-- what is held once all three logs have grown
abbrev pub with_three : Store → ℕ → Held → Extension → ℕ → Held → Extension → ℕ → Held → Extension → Store
with_three held i h x j g y k f z = with_log (with_logs held i h x j g y) k f z.entries.now z.fresh.now

-- rolled back, the region shows what was held, or that with all three logs grown
abbrev pub BeforeOrThree : Layout → Store → ℕ → Held → Extension → ℕ → Held → Extension → ℕ → Held → Extension → Region → Type 0
BeforeOrThree l held i h x j g y k f z left = UndoneShows l held left ⊎ UndoneShows l (with_three held i h x j g y k f z) left

-- what three appends may store
abbrev pub ThreeWords : Extension → Extension → Extension → Choices
ThreeWords x y z k v = AppendWords z.tail z.fresh.now k v ⊎ BothWords x y k v

-- and with all tails moved: any word of the journal, and the new tails in their words
abbrev pub ThreeTogether : ℕ → Extension → Extension → Extension → Choices
ThreeTogether cpu x y z k v = ThreeWords x y z k v ⊎ ChangesAll cpu (new_tail x ∷ new_tail y ∷ new_tail z ∷ []) k v

-- From one region to the other the entries were written behind the third tail, and then those behind the first and the second.
pub record AppendsThree (R S : Region) (x y z : Extension) (first second third : ℕ) : Type 0 where
  pub before : Region
  pub own : Appends R before z.tail third z.entries.now z.fresh.now
  pub both : AppendsBoth before S x y first second
  pub third_end : third ≡ end_of z.fresh.now 0 z.tail z.entries.now
