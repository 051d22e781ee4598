-- A mounted file system once two logs have grown, and their rows were replaced: what it keeps, its bytes and its logs.
use Rattle.std.proofs.Common.{◌≡◌, ◌≢◌, ℕ, ◌%◌, ◌/◌, Bool, false, List, length, ap, sym, ◌∙◌, subst, Some}
use Rattle.std.specs.List.{Contains}
use Rattle.std.proofs.Math.Logic.{∥∥₁_map}
use Rattle.nv_region.specs.Region.{Region}
use Rattle.nv_super.specs.declared.superblock.Super.{Super}
use Rattle.nv_super.specs.declared.faults.Fault.{Fault}
use Rattle.nv_super.specs.Layout.{Layout}
use Rattle.nv_alloc.specs.FreeValue.{FreeLists}
use Rattle.nv_entry.specs.declared.entry.Entry.{Entry}
use Rattle.nv_logpage.specs.Append.{needed}
use Rattle.nv_radix.specs.Pages.{block_at}
use Rattle.nv_scan.specs.declared.piece.Row.{Row}
use Rattle.nv_mounted.specs.Held.{Held, Store}
use Rattle.nv_mounted.specs.Blocks.{OwnsNew}
use Rattle.nv_mounted.specs.Bytes.{byte_in}
use Rattle.nv_mounted.specs.Grows.{SameFile}
use Rattle.nv_mounted.specs.Mounted.{IsFaultless, IsMounted, KeepsRow, KeepsRows, ShowsSound}
use Rattle.nv_commit.specs.Extends.{extended, with_log}
use Rattle.nv_calls.specs.LinkCalls.{BothGrew, ShowsBothGrew}
use Rattle.nv_steps.specs.MoreNames.{GrowsTwo}
use Rattle.nv_calls.specs.Mount.{IsKept}
use Rattle.nv_steps.specs.Steps.{ShowsRow}
use Rattle.nv_calls.proofs.BothHeld.{apart, both_lists, both_rows, both_sound, fresh_free, more_free, own_first, own_second}
use Rattle.nv_calls.proofs.CreatedRows.{in_rows}
use Rattle.nv_calls.proofs.Mounts.{bytes_stay, kept_of_mounted, mounted_of_kept, mounted_with}
use Rattle.nv_calls.proofs.OneRow.{shows_row}
use Rattle.nv_super.proofs.Members.{stands}
use Rattle.nv_calls.proofs.TakenOut.{places_differ}
use Rattle.nv_steps.proofs.TakenBlocks.{taken_sup}
use Rattle.nv_steps.proofs.OneByOne.{by_rule}

-- What is owed of a call on two logs: its entries leave the files' blocks, both rows are of the new logs, and nothing is wrong
-- with what is held then, where both inodes own what was theirs or free.
pub record IsRight (R : Region) (l : Layout) (free : FreeLists) (rows : List Row) (first : Row) (entries : List Entry) (fresh : List ℕ) (now : Row) (second : Row) (others : List Entry) (more : List ℕ) (other : Row) : Type 0 where
  pub number : now.inode ≡ first.inode
  pub other_number : other.inode ≡ second.inode
  pub stays : (held : Store) (f : Held) → ShowsRow R l held f first free → SameFile l f (extended f entries fresh)
  pub other_stays : (held : Store) (h : Held) → ShowsRow R l held h second free → SameFile l h (extended h others more)
  pub told : (held : Store) (f : Held) → ShowsRow R l held f first free → KeepsRow l (extended f entries fresh) now
  pub other_told : (held : Store) (h : Held) → ShowsRow R l held h second free → KeepsRow l (extended h others more) other
  pub faultless : (held : Store) (f h : Held) → IsMounted R l held rows free.pools → ShowsRow R l held f first free → ShowsRow R l held h second free → OwnsNew l held first.inode (Some (extended f entries fresh))
      → OwnsNew l (with_log held first.inode f entries fresh) second.inode (Some (extended h others more)) → IsFaultless l (with_log (with_log held first.inode f entries fresh) second.inode h others more)

module _ {R S : Region} {s : Super} {l : Layout} {rows news : List Row} {free after : FreeLists} {faults : List Fault} {read_only stopped : Bool} (kept : IsKept R s l rows free faults read_only stopped) (runs : stopped ≡ false) (writes : read_only ≡ false)
    {cpu i j : ℕ} {first second : Row} {entries others : List Entry} {Becomes Other : List ℕ → Row → Type 0} (step : GrowsTwo R S l free after cpu rows news i first entries j second others Becomes Other) (differ : first.inode ≢ second.inode)
    (right : IsRight R l free rows first entries step.fresh step.first_now second others step.more step.second_now) where
  -- what is held, and what it shows of both
  module _ (held : Store) (m : IsMounted R l held rows free.pools) where
    abbrev pub f : Held
    f = (shows_row {free = free} m kept.lists first (stands rows i first step.at)).0

    shows : ShowsRow R l held f first free
    shows = (shows_row {free = free} m kept.lists first (stands rows i first step.at)).1

    abbrev pub h : Held
    h = (shows_row {free = free} m kept.lists second (stands rows j second step.other_at)).0

    shows_other : ShowsRow R l held h second free
    shows_other = (shows_row {free = free} m kept.lists second (stands rows j second step.other_at)).1

    count : length step.fresh ≡ needed (f.tail % 4096) entries
    count = let told = shows.told in step.count ∙ ap (λ (t : ℕ). needed (t % 4096) entries) told.tail

    more_count : length step.more ≡ needed (h.tail % 4096) others
    more_count = let told = shows_other.told in step.more_count ∙ ap (λ (t : ℕ). needed (t % 4096) others) told.tail

    abbrev then : Store
    then = with_log (with_log held first.inode f entries step.fresh) second.inode h others step.more

    sound_then : ShowsSound S l then
    sound_then =
        let seen = step.shows held f h shows shows_other in
        let mine = own_first entries others step.fresh step.more shows shows_other differ (right.stays held f shows) (right.other_stays held h shows_other) kept.lists step.taken count more_count seen.idle in
        let others_own = own_second entries others step.fresh step.more shows shows_other differ (right.stays held f shows) (right.other_stays held h shows_other) kept.lists step.taken count more_count seen.idle in
        both_sound entries others step.fresh step.more shows shows_other differ (right.stays held f shows) (right.other_stays held h shows_other) kept.lists step.taken count more_count seen.idle (right.faultless held f h m shows shows_other mine others_own)

    -- The rows and the free lists are those of what is held.
    pub mounted_then : IsMounted S l then news after.pools
    mounted_then = record {
      sound = sound_then;
      keeps = record {
        in_rows = subst (λ (rs : List Row). KeepsRows l then rs) (sym step.put)
            (both_rows entries others step.fresh step.more shows shows_other differ (right.stays held f shows) (right.other_stays held h shows_other) kept.lists step.taken count more_count rows (in_rows m) i j step.at step.other_at
            (places_differ rows i j first second step.at step.other_at differ) step.first_now step.second_now right.number right.other_number (right.told held f shows) (right.other_told held h shows_other));
        in_lists = both_lists entries others step.fresh step.more shows shows_other differ (right.stays held f shows) (right.other_stays held h shows_other) kept.lists step.taken count more_count;
      };
    }

  -- What is kept then.
  pub both_kept : (now : Bool) → IsKept S s l news after faults read_only now
  both_kept now = kept_of_mounted S s l news after faults read_only now kept.tables kept.writes writes (taken_sup step.taken ∙ kept.lists) (∥∥₁_map (mounted_of_kept kept runs writes) (λ w. (then w.0 w.1, mounted_then w.0 w.1)))

  -- Each byte that a row's file had is where it was.
  pub both_bytes : (r : Row) → Contains rows r → (x : ℕ) → byte_in S (block_at r.index (x / 4096)) x ≡ byte_in R (block_at r.index (x / 4096)) x
  both_bytes = bytes_stay kept runs writes S (λ held m. (let seen = step.shows held (f held m) (h held m) (shows held m) (shows_other held m) in seen.bytes))

  -- Both logs, for whatever is held of the region.
  pub both_logs : (held : Store) (a b : Held) → ShowsSound R l held → held first.inode ≡ Some a → held second.inode ≡ Some b → ShowsBothGrew S l free.pools cpu held first.inode a entries second.inode b others
  both_logs held a b sound is other_is = ∥∥₁_map (mounted_with kept runs held sound) (λ m.
      let shown = shows held m in
      let shown_other = shows_other held m in
      let both : Some (f held m) ≡ Some a = sym shown.holds ∙ is in
      let both_other : Some (h held m) ≡ Some b = sym shown_other.holds ∙ other_is in
      let same : f held m ≡ a = cc in
      let same_other : h held m ≡ b = cc in
      subst (λ (k : Held). BothGrew S l free.pools cpu held first.inode k entries second.inode b others) same
      (subst (λ (k : Held). BothGrew S l free.pools cpu held first.inode (f held m) entries second.inode k others) same_other (record {
        fresh = step.fresh;
        more = step.more;
        rest = after.pools;
        taken = by_rule step.taken;
        free = fresh_free entries others step.fresh step.more shown shown_other differ (right.stays held (f held m) shown) (right.other_stays held (h held m) shown_other) kept.lists step.taken (count held m) (more_count held m);
        more_free = more_free entries others step.fresh step.more shown shown_other differ (right.stays held (f held m) shown) (right.other_stays held (h held m) shown_other) kept.lists step.taken (count held m) (more_count held m);
        apart = apart entries others step.fresh step.more shown shown_other differ (right.stays held (f held m) shown) (right.other_stays held (h held m) shown_other) kept.lists step.taken (count held m) (more_count held m);
        count = count held m;
        more_count = more_count held m;
        sound = sound_then held m;
      })))
