-- A name of one inode that is given to another, where the two names stand in different directories, by the rows that stand for
-- them; and the logs that grow so.
use Rattle.std.specs.Prelude.{◌≡◌, ℕ, ◌+◌, ◌-◌, ◌%◌, List, [], ◌∷◌, ◌++◌, length, None}
use Rattle.nv_region.specs.Region.{Region}
use Rattle.nv_super.specs.Layout.{Layout}
use Rattle.nv_alloc.specs.FreeValue.{FreeLists}
use Rattle.nv_entry.specs.declared.entry.Operation.TheVariants.{Add, Remove}
use Rattle.nv_entry.specs.declared.entry.Entry.{Entry}
use Rattle.nv_entry.specs.declared.entry.Entry.TheVariants.{Name}
use Rattle.nv_entry.specs.Spelling.{entry_length}
use Rattle.nv_logpage.specs.Append.{end_of, needed, pages_after, place_of}
use Rattle.nv_scan.specs.declared.piece.Row.{Row}
use Rattle.nv_mounted.specs.Held.{Held, Store, with_inode}
use Rattle.nv_commit.specs.Extends.{with_log}
use Rattle.nv_steps.specs.MoreNames.{GetsCount, GrowsSame, NamesOnce}
use Rattle.nv_steps.specs.Moves.{HasMoved}
use Rattle.nv_steps.specs.NameEntries.{links_entries, name_entries}
use Rattle.nv_steps.specs.NewNames.{ShowsNamed}
use Rattle.nv_steps.specs.Steps.{ShowsRow}
use Rattle.nv_steps.specs.Taken.{TakesEach}
use Rattle.nv_steps.specs.Unlinks.{LosesName}

-- ---- two logs that grow while another inode goes

-- what is held with entries behind two logs and without an inode
abbrev pub with_two_gone : Store → ℕ → Held → List Entry → List ℕ → ℕ → Held → List Entry → List ℕ → ℕ → Store
with_two_gone held i h entries fresh e g others more j = with_inode (with_log (with_log held i h entries fresh) e g others more) j None

-- Entries were put behind the logs of two rows, over blocks that a CPU took one by one, the first log's first, and another inode
-- is gone. What each row has become is said by its blocks.
pub record GrowsLess (R S : Region) (l : Layout) (free after : FreeLists) (cpu : ℕ) (first : Row) (entries : List Entry) (second : Row) (others : List Entry) (j : ℕ) (Becomes Other : List ℕ
    → Type 0) : Type 0 where
  pub fresh : List ℕ
  pub more : List ℕ
  pub taken : TakesEach free cpu (fresh ++ more) after
  pub count : length fresh ≡ needed (first.tail % 4096) entries
  pub more_count : length more ≡ needed (second.tail % 4096) others
  pub is : Becomes fresh
  pub other_is : Other more
  pub shows : (held : Store) (h g : Held) → ShowsRow R l held h first free → ShowsRow R l held g second free
      → ShowsNamed R S l cpu held (with_two_gone held first.inode h entries fresh second.inode g others more j)

-- what a row becomes whose log has grown, and nothing else
abbrev pub Lengthens : Row → Row → List Entry → List ℕ → Type 0
Lengthens old new entries fresh = GrowsSame old fresh (end_of fresh 0 old.tail entries) new × NamesOnce old new

-- both rows have their new tails and pages
abbrev pub AppendsLogsLess : Region → Region → Layout → FreeLists → FreeLists → ℕ → Row → Row → List Entry → Row → Row → List Entry → ℕ → Type 0
AppendsLogsLess R S l free after cpu first first_now entries second second_now others j = GrowsLess R S l free after cpu first entries second others j (λ fresh. Lengthens first first_now entries
    fresh) (λ more. Lengthens second second_now others more)

-- such a step, whatever the rows and the free lists become
abbrev pub AppendedLogsLess : Region → Layout → FreeLists → ℕ → Row → List Entry → Row → List Entry → ℕ → Region → Type 0
AppendedLogsLess R l free cpu first entries second others j S = (after : FreeLists) × (one : Row) × (two : Row) × AppendsLogsLess R S l free after cpu first one entries second two others j

-- ---- three logs that grow together

-- what is held with entries behind three logs
abbrev pub with_three_logs : Store → ℕ → Held → List Entry → List ℕ → ℕ → Held → List Entry → List ℕ → ℕ → Held → List Entry → List ℕ → Store
with_three_logs held i h entries fresh e g others more j f lasts rest = with_log (with_log (with_log held i h entries fresh) e g others more) j f lasts rest

-- Entries were put behind the logs of three rows, over blocks that a CPU took one by one, log after log. What each row has become
-- is said by its blocks.
pub record GrowsThree (R S : Region) (l : Layout) (free after : FreeLists) (cpu : ℕ) (first : Row) (entries : List Entry) (second : Row) (others : List Entry) (third : Row) (lasts : List
    Entry) (Becomes Other Third : List ℕ → Type 0) : Type 0 where
  pub fresh : List ℕ
  pub more : List ℕ
  pub rest : List ℕ
  pub taken : TakesEach free cpu ((fresh ++ more) ++ rest) after
  pub count : length fresh ≡ needed (first.tail % 4096) entries
  pub more_count : length more ≡ needed (second.tail % 4096) others
  pub rest_count : length rest ≡ needed (third.tail % 4096) lasts
  pub is : Becomes fresh
  pub other_is : Other more
  pub third_is : Third rest
  pub shows : (held : Store) (h g f : Held) → ShowsRow R l held h first free → ShowsRow R l held g second free → ShowsRow R l held f third free
      → ShowsNamed R S l cpu held (with_three_logs held first.inode h entries fresh second.inode g others more third.inode f lasts rest)

-- all rows have their new tails and pages
abbrev pub AppendsThreeLogs : Region → Region → Layout → FreeLists → FreeLists → ℕ → Row → Row → List Entry → Row → Row → List Entry → Row → Row → List Entry → Type 0
AppendsThreeLogs R S l free after cpu first first_now entries second second_now others third third_now lasts = GrowsThree R S l free after cpu first entries second others third lasts (λ
    fresh. Lengthens first first_now entries fresh) (λ more. Lengthens second second_now others more) (λ rest. Lengthens third third_now lasts rest)

-- such a step, whatever the rows and the free lists become
abbrev pub AppendedThreeLogs : Region → Layout → FreeLists → ℕ → Row → List Entry → Row → List Entry → Row → List Entry → Region → Type 0
AppendedThreeLogs R l free cpu first entries second others third lasts S = (after : FreeLists) × (one : Row) × (two : Row) × (three : Row)
    × AppendsThreeLogs R S l free after cpu first one entries second two others third three lasts

-- ---- a name that is given to another inode

-- the entries that take a name from inode j and give it to inode i
abbrev pub handed_entries : ℕ → ℕ → List ℕ → ℕ → List Entry
handed_entries i j name time = Name (record { operation = Remove; inode = j; time = time; name = name }) ∷ Name (record { operation = Add; inode = i; time = time; name = name }) ∷ []

-- where the second of these entries goes
abbrev pub handed_place : List ℕ → ℕ → ℕ → ℕ → List ℕ → ℕ → ℕ
handed_place fresh tail i j name time =
    let removal = Name (record { operation = Remove; inode = j; time = time; name = name }) in
    place_of fresh (pages_after 0 tail removal) (place_of fresh 0 tail removal + entry_length removal) (Name (record { operation = Add; inode = i; time = time; name = name }))

-- what the row of the directory becomes that the inode's old name leaves
abbrev pub IsLeft : Row → Row → ℕ → List ℕ → ℕ → List ℕ → Type 0
IsLeft old new i name time fresh = LosesName old name i time fresh new × NamesOnce old new

-- and that of the one whose name is given: between the two entries it hasn't this name
abbrev pub IsHanded : Row → Row → ℕ → ℕ → List ℕ → ℕ → List ℕ → Type 0
IsHanded old new i j name time more = HasMoved old more (end_of more 0 old.tail (handed_entries i j name time)) name name i (handed_place more old.tail i j name time) time new

-- and that of a file that loses a link
abbrev pub LosesLink : Row → Row → ℕ → List ℕ → Type 0
LosesLink file now time rest = GetsCount file (file.numbers.links - 1) time rest now × NamesOnce file now

-- Inode i has a name less in one directory, and in another the name of inode j, which is gone.
abbrev pub TakesAcross : Region → Region → Layout → FreeLists → FreeLists → ℕ → Row → Row → Row → Row → ℕ → ℕ → List ℕ → List ℕ → ℕ → Type 0
TakesAcross R S l free after cpu from from_now to to_now i j name other time =
    GrowsLess R S l free after cpu from (name_entries Remove i name time) to (handed_entries i j other time) j (λ fresh. IsLeft from from_now i name time fresh) (λ more. IsHanded to to_now i j other
    time more)

-- such a step from two rows
abbrev pub TookAcross : Region → Layout → FreeLists → ℕ → Row → Row → ℕ → ℕ → List ℕ → List ℕ → ℕ → Region → Type 0
TookAcross R l free cpu from to i j name other time S = (after : FreeLists) × (one : Row) × (two : Row) × TakesAcross R S l free after cpu from one to two i j name other time

-- Inode i has a name less in one directory, and in another the name of a file, which counts a link less.
abbrev pub LessensAcross : Region → Region → Layout → FreeLists → FreeLists → ℕ → Row → Row → Row → Row → Row → Row → ℕ → List ℕ → List ℕ → ℕ → Type 0
LessensAcross R S l free after cpu from from_now to to_now file file_now i name other time =
    GrowsThree R S l free after cpu from (name_entries Remove i name time) to (handed_entries i file.inode other time) file (links_entries (file.numbers.links - 1) time)
    (λ fresh. IsLeft from from_now i name time fresh) (λ more. IsHanded to to_now i file.inode other time more) (λ rest. LosesLink file file_now time rest)

-- such a step from three rows
abbrev pub LessenedAcross : Region → Layout → FreeLists → ℕ → Row → Row → Row → ℕ → List ℕ → List ℕ → ℕ → Region → Type 0
LessenedAcross R l free cpu from to file i name other time S = (after : FreeLists) × (one : Row) × (two : Row) × (three : Row)
    × LessensAcross R S l free after cpu from one to two file three i name other time
