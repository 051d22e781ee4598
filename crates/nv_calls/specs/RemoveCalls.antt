-- What `rmdir` and `unlink` leave of the logs.
use Rattle.std.specs.Prelude.{◌≡◌, ℕ, ◌%◌, List, length}
use Rattle.nv_region.specs.Region.{Region}
use Rattle.nv_super.specs.Layout.{Layout}
use Rattle.nv_super.specs.declared.owners.Run.{Run}
use Rattle.nv_entry.specs.declared.entry.Entry.{Entry}
use Rattle.nv_alloc.specs.Taking.{TakesSingly}
use Rattle.nv_logpage.specs.Append.{needed}
use Rattle.nv_mounted.specs.Held.{Held, Store}
use Rattle.nv_mounted.specs.Grows.{AreFree}
use Rattle.nv_mounted.specs.Mounted.{ShowsSound}
use Rattle.nv_steps.specs.NameEntries.{with_gone}

-- The region is sound, and shows what was held without an inode and with these entries behind a directory's log, over free
-- blocks: those that are taken one by one from these pools, by a CPU.
pub record WasRemoved (S : Region) (l : Layout) (pools : List (List Run)) (cpu : ℕ) (held : Store) (d : ℕ) (h : Held) (entries : List Entry) (i : ℕ) : Type 0 where
  pub fresh : List ℕ
  pub rest : List (List Run)
  pub taken : TakesSingly pools cpu fresh rest
  pub free : AreFree l held fresh
  pub count : length fresh ≡ needed (h.tail % 4096) entries
  pub sound : ShowsSound S l (with_gone held d h entries fresh i)

-- there are such blocks
abbrev pub ShowsRemoved : Region → Layout → List (List Run) → ℕ → Store → ℕ → Held → List Entry → ℕ → Type 0
ShowsRemoved S l pools cpu held d h entries i = ∥ (WasRemoved S l pools cpu held d h entries i) ∥₁
