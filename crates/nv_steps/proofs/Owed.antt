-- Logs that grow together, told of their rows, which were made ready: what is owed before the commit, each over blocks of its own
-- that were taken one by one.
use Rattle.std.proofs.Common.{◌≡◌, ◌≢◌, ℕ, ◌+◌, ◌/◌, ◌%◌, ◌<◌, ◌≤◌, List, ◌∷◌, ◌++◌, length, take, drop, inl, inr, ap, sym, ◌∙◌, subst, arith}
use Rattle.std.specs.List.{Contains}
use Rattle.std.proofs.lemmas.List.{append_assoc, length-drop, length-take-le, take-append-drop}
use Rattle.std.proofs.lemmas.List.Elements.{Contains-append_left, Contains-append_right}
use Rattle.smallvec.specs.SmallVec.{HasRoomFor}
use Rattle.nv_region.specs.Region.{Region, size, word}
use Rattle.nv_super.specs.Layout.{Layout}
use Rattle.nv_journal.specs.InOrder.{FirstIsFirst}
use Rattle.nv_alloc.specs.FreeValue.{FreeLists}
use Rattle.nv_entry.specs.declared.entry.Entry.{Entry}
use Rattle.nv_logpage.specs.Append.{EndBy, end_of, needed}
use Rattle.nv_scan.specs.declared.piece.Row.{Row}
use Rattle.nv_mounted.specs.Held.{Held, Store}
use Rattle.nv_commit.specs.declared.together.Extension.{Extension}
use Rattle.nv_commit.specs.Extends.{CanExtend}
use Rattle.nv_commit.specs.Together.{CanCommit, CanExtendTwo}
use Rattle.nv_commit.specs.ThreeLogs.{CanExtendThree}
use Rattle.nv_steps.specs.Across.{Lengthens}
use Rattle.nv_steps.specs.Grown.{HasGrown, StandsRight}
use Rattle.nv_steps.specs.InOrder.{TailIsFirst, TailIsNext}
use Rattle.nv_steps.specs.MoreNames.{AreFew, ReadiesRow}
use Rattle.nv_steps.specs.NewNames.{CanName}
use Rattle.nv_steps.specs.Steps.{ShowsRow}
use Rattle.nv_steps.specs.Taken.{TakesEach}
use Rattle.nv_steps.proofs.AppendedLogs.{grows_same, once_still}
use Rattle.nv_steps.proofs.OneByOne.{by_rule}
use Rattle.nv_steps.proofs.LogGrows.{slot_there}
use Rattle.nv_steps.proofs.TakenBlocks.{all_differ, are_free}
use Rattle.nv_steps.proofs.TwoLogs.{as_extension, cut_each, row_commits, stands_after, taken_apart}
use Rattle.nv_steps.specs.Slots.{slot_in}

-- ---- one of them

-- A row that was made ready for entries, and these behind its log's tail, over blocks that were taken for them.
pub record Owes (R : Region) (l : Layout) (free after : FreeLists) (cpu : ℕ) (old mid : Row) (entries : List Entry) (names : ℕ) (fresh : List ℕ) (x : Extension) : Type 0 where
  pub stands : StandsRight R l free old
  pub can : CanName R l cpu old.inode old
  pub taken : TakesEach free cpu fresh after
  pub count : length fresh ≡ needed (old.tail % 4096) entries
  pub few : AreFew entries
  pub ready : ReadiesRow old mid entries names
  pub slot : x.slot ≡ slot_in l mid.inode
  pub tail : x.tail ≡ mid.tail
  pub said : x.entries.now ≡ entries
  pub blocks : x.fresh.now ≡ fresh

module _ {R : Region} {l : Layout} {free after : FreeLists} {cpu : ℕ} {old mid : Row} {entries : List Entry} {names : ℕ} {fresh : List ℕ} {x : Extension} (o : Owes R l free after cpu old mid entries names fresh x) where
  pub slot_is : x.slot ≡ slot_in l old.inode
  slot_is = let ready = o.ready in let same = ready.same in o.slot ∙ ap (slot_in l) same.inode

  tail_is : x.tail ≡ old.tail
  tail_is = let ready = o.ready in let same = ready.same in o.tail ∙ same.tail

  pub end_is : end_of x.fresh.now 0 x.tail x.entries.now ≡ end_of fresh 0 old.tail entries
  end_is = λ t. end_of (o.blocks t) 0 (tail_is t) (o.said t)

  pub commits : CanCommit R cpu x
  commits = let few = o.few in row_commits entries o.stands o.can o.taken o.count few.given x slot_is tail_is o.said o.blocks

  -- Memory that is open past the region is open past all that is stored.
  pub owed_within : (limit : ℕ) → size R ≤ limit → EndBy (x.tail / 4096 ∷ x.fresh.now) limit × (x.slot + 32 ≤ limit)
  owed_within limit past =
      let a = commits in
      let append = a.append in ((λ k below. (let inside = append.inside k below in omega (arith, inside, past))), (let inside = a.inside in omega (arith, inside, past)))

  -- There is room for the pages.
  pub has_room : {bs : List ℕ} → x.fresh.now ≡ bs → HasRoomFor mid.pages (length bs)
  has_room same =
      let ready = o.ready in
      let room = ready.room in
      let count = o.count in
      subst (λ (b : List ℕ). HasRoomFor mid.pages (length b)) (sym o.blocks ∙ same) (omega (arith, room, count))

  -- the row once it is settled
  pub lengthens : {new : Row} {bs : List ℕ} {end : ℕ} → HasGrown mid bs end new → x.fresh.now ≡ bs → end ≡ end_of x.fresh.now 0 x.tail x.entries.now → Lengthens old new entries fresh
  lengthens grown same ends = let ready = o.ready in (grows_same ready.same grown (sym same ∙ o.blocks) (ends ∙ end_is), once_still old ready.once grown)

  -- where what is held shows the row
  pub extends : {first last : FreeLists} {all : List ℕ} → TakesEach first cpu all last → first.sup ≡ l.sup → ((b : ℕ) → Contains fresh b → Contains all b) → {held : Store} {h : Held} → ShowsRow R l held h old first → CanExtend R l held old.inode h x.slot x.tail x.entries.now x.fresh.now
  extends taken lists among {held} {h} shows =
      let few = o.few in
      as_extension entries o.stands o.can o.taken o.count few.given x slot_is tail_is o.said o.blocks (record {
        sound = shows.sound;
        at = (let sound = shows.sound in slot_there old.inode h sound.shows shows.holds);
        holds = shows.holds;
        tail_is = (let kept = shows.told in sym kept.tail);
        free = λ b c. are_free taken l held shows.lists lists b (among b c);
        differ = all_differ o.taken;
        enough = (let count = o.count in omega (arith, count));
        given = few.given;
        some = few.some;
      })

-- ---- two of them

pub record OwesTwo (R : Region) (l : Layout) (free after : FreeLists) (cpu : ℕ) (first row : Row) (entries : List Entry) (names : ℕ) (second other : Row) (others : List Entry) (more_names : ℕ) (x y : Extension) : Type 0 where
  pub fresh : List ℕ
  pub more : List ℕ
  pub mid : FreeLists
  pub all : TakesEach free cpu (fresh ++ more) after
  pub one : Owes R l free mid cpu first row entries names fresh x
  pub two : Owes R l mid after cpu second other others more_names more y
  pub lists : free.sup ≡ l.sup
  pub journals : cpu < l.sup.cpus
  pub differ : first.inode ≢ second.inode
  pub apart : (b : ℕ) → Contains fresh b → Contains more b → ⊥

-- over blocks that were taken in one go, and split where those of the first log end
pub owes_two : {R : Region} {l : Layout} {free after : FreeLists} {first second row other : Row} {cpu : ℕ} {items : List ℕ} {entries others : List Entry} {names more_names : ℕ} → ReadiesRow first row entries names → ReadiesRow second other others more_names
    → StandsRight R l free first × CanName R l cpu first.inode first → StandsRight R l free second × CanName R l cpu second.inode second → TakesEach free cpu items after → length items ≡ needed (first.tail % 4096) entries + needed (second.tail % 4096) others
    → first.inode ≢ second.inode → AreFew entries → AreFew others → {m : ℕ} {given front back : List ℕ} → m ≡ needed (row.tail % 4096) entries → given ≡ items → front ≡ take m given → back ≡ drop m given
    → (x y : Extension) → x.slot ≡ slot_in l row.inode → x.tail ≡ row.tail → x.entries.now ≡ entries → x.fresh.now ≡ front → y.slot ≡ slot_in l other.inode → y.tail ≡ other.tail → y.entries.now ≡ others → y.fresh.now ≡ back
    → OwesTwo R l free after cpu first row entries names second other others more_names x y
owes_two {R} {l} {free} {after} {first} {second} {row} {other} {cpu} {items} {entries} {others} ready more_ready stands more_stands taken counted differ few more_few {m} m_is value front_is back_is x y slot tail said blocks more_slot more_tail more_said more_blocks =
    let n = needed (first.tail % 4096) entries in
    let so_many : m ≡ n = (let same = ready.same in m_is ∙ ap (λ (t : ℕ). needed (t % 4096) entries) same.tail) in
    let all : TakesEach free cpu (take n items ++ drop n items) after = subst (λ (xs : List ℕ). TakesEach free cpu xs after) (sym (take-append-drop n items)) taken in
    let cut = cut_each (take n items) (drop n items) all in
    record {
      fresh = take n items;
      more = drop n items;
      mid = cut.0;
      all = all;
      one = record {
        stands = stands.0;
        can = stands.1;
        taken = cut.1;
        count = length-take-le n items (omega (arith, counted));
        few = few;
        ready = ready;
        slot = slot;
        tail = tail;
        said = said;
        blocks = blocks ∙ front_is ∙ (λ t. take (so_many t) (value t));
      };
      two = record {
        stands = stands_after more_stands.0 cut.1;
        can = more_stands.1;
        taken = cut.2;
        count = length-drop n items ∙ omega (arith, counted);
        few = more_few;
        ready = more_ready;
        slot = more_slot;
        tail = more_tail;
        said = more_said;
        blocks = more_blocks ∙ back_is ∙ (λ t. drop (so_many t) (value t));
      };
      lists = (let right = stands.0 in right.lists);
      journals = (let can = stands.1 in can.cpu_below);
      differ = differ;
      apart = taken_apart cut.1 cut.2;
    }

module _ {R : Region} {l : Layout} {free after : FreeLists} {cpu : ℕ} {first row : Row} {entries : List Entry} {names : ℕ} {second other : Row} {others : List Entry} {more_names : ℕ} {x y : Extension} (o : OwesTwo R l free after cpu first row entries names second other others more_names x y) where
  pub two_extend : {held : Store} {h g : Held} → ShowsRow R l held h first free → ShowsRow R l held g second free → CanExtendTwo R l held cpu first.inode h x second.inode g y
  two_extend here there = record {
    journals = o.journals;
    first = extends o.one o.all o.lists (λ b c. Contains-append_left o.fresh o.more b c) here;
    second = extends o.two o.all o.lists (λ b c. Contains-append_right o.fresh o.more b c) there;
    differ = o.differ;
    apart = λ b c d. (let one = o.one in let two = o.two in o.apart b (subst (λ (bs : List ℕ). Contains bs b) one.blocks c) (subst (λ (bs : List ℕ). Contains bs b) two.blocks d));
  }

  -- The second tail is stored after the first, and a further word after the second.
  pub first_tail : {S : Region} {at place : ℕ} → at ≡ place → FirstIsFirst R (x.slot + 24) (end_of x.fresh.now 0 x.tail x.entries.now) at S → TailIsFirst R S l free.pools cpu first.inode first.tail entries place
  first_tail {S} same (inl still) = inl (subst (λ (a : ℕ). word S a ≡ word R a) same still)
  first_tail {S} same (inr stored) =
      let one = o.one in
      inr (record {
        fresh = o.fresh;
        rest = o.mid.pools;
        taken = by_rule one.taken;
        count = one.count;
        moved = subst (λ (a : ℕ). word S (a + 24) ≡ end_of o.fresh 0 first.tail entries) (slot_is one) (stored ∙ end_is one);
      })

  pub second_tail : {S : Region} {at place : ℕ} → at ≡ place → FirstIsFirst R (y.slot + 24) (end_of y.fresh.now 0 y.tail y.entries.now) at S → TailIsNext R S l free.pools cpu (needed (first.tail % 4096) entries) second.inode second.tail others place
  second_tail {S} same (inl still) = inl (subst (λ (a : ℕ). word S a ≡ word R a) same still)
  second_tail {S} same (inr stored) =
      let one = o.one in
      let two = o.two in
      inr (record {
        earlier = o.fresh;
        fresh = o.more;
        rest = after.pools;
        taken = by_rule o.all;
        earlier_count = one.count;
        count = two.count;
        moved = subst (λ (a : ℕ). word S (a + 24) ≡ end_of o.more 0 second.tail others) (slot_is two) (stored ∙ end_is two);
      })

-- ---- three of them

pub record OwesThree (R : Region) (l : Layout) (free after : FreeLists) (cpu : ℕ) (first row : Row) (entries : List Entry) (names : ℕ) (second other : Row) (others : List Entry) (more_names : ℕ) (third last : Row) (lasts : List Entry) (last_names : ℕ) (x y z : Extension) : Type 0 where
  pub next : FreeLists
  pub both : OwesTwo R l free next cpu first row entries names second other others more_names x y
  pub rest : List ℕ
  pub all : TakesEach free cpu ((both.fresh ++ both.more) ++ rest) after
  pub three : Owes R l next after cpu third last lasts last_names rest z
  pub first_differs : first.inode ≢ third.inode
  pub second_differs : second.inode ≢ third.inode
  pub apart : (b : ℕ) → Contains (both.fresh ++ both.more) b → Contains rest b → ⊥

module _ {R : Region} {l : Layout} {free after : FreeLists} {cpu : ℕ} {first row : Row} {entries : List Entry} {names : ℕ} {second other : Row} {others : List Entry} {more_names : ℕ} {third last : Row} {lasts : List Entry} {last_names : ℕ} {x y z : Extension}
    (o : OwesThree R l free after cpu first row entries names second other others more_names third last lasts last_names x y z) where
  pub three_extend : {held : Store} {h g f : Held} → ShowsRow R l held h first free → ShowsRow R l held g second free → ShowsRow R l held f third free → CanExtendThree R l held cpu first.inode h x second.inode g y third.inode f z
  three_extend here there also =
      let both = o.both in
      let one = both.one in
      let two = both.two in
      let three = o.three in
      let off : (b : ℕ) → Contains z.fresh.now b → Contains o.rest b = λ b c. subst (λ (bs : List ℕ). Contains bs b) three.blocks c in
      record {
        two = two_extend both here there;
        third = extends three o.all both.lists (λ b c. Contains-append_right (both.fresh ++ both.more) o.rest b c) also;
        first_differs = o.first_differs;
        second_differs = o.second_differs;
        first_apart = λ b c d. o.apart b (Contains-append_left both.fresh both.more b (subst (λ (bs : List ℕ). Contains bs b) one.blocks c)) (off b d);
        second_apart = λ b c d. o.apart b (Contains-append_right both.fresh both.more b (subst (λ (bs : List ℕ). Contains bs b) two.blocks c)) (off b d);
      }

-- over blocks that were taken in one go, and split where those of the first log end and then where those of the second do
pub owes_three : {R : Region} {l : Layout} {free after : FreeLists} {first second third row other last : Row} {cpu : ℕ} {items : List ℕ} {entries others lasts : List Entry} {names more_names last_names : ℕ} → ReadiesRow first row entries names → ReadiesRow second other others more_names → ReadiesRow third last lasts last_names
    → StandsRight R l free first × CanName R l cpu first.inode first → StandsRight R l free second × CanName R l cpu second.inode second → StandsRight R l free third × CanName R l cpu third.inode third → TakesEach free cpu items after
    → length items ≡ needed (first.tail % 4096) entries + needed (second.tail % 4096) others + needed (third.tail % 4096) lasts → (first.inode ≢ second.inode) × (first.inode ≢ third.inode) × (second.inode ≢ third.inode) → AreFew entries → AreFew others → AreFew lasts
    → {m : ℕ} {given front later : List ℕ} → m ≡ needed (row.tail % 4096) entries → given ≡ items → front ≡ take m given → later ≡ drop m given → {n : ℕ} {middle back : List ℕ} → n ≡ needed (other.tail % 4096) others → middle ≡ take n later → back ≡ drop n later
    → (x y z : Extension) → x.slot ≡ slot_in l row.inode → x.tail ≡ row.tail → x.entries.now ≡ entries → x.fresh.now ≡ front → y.slot ≡ slot_in l other.inode → y.tail ≡ other.tail → y.entries.now ≡ others → y.fresh.now ≡ middle → z.slot ≡ slot_in l last.inode → z.tail ≡ last.tail → z.entries.now ≡ lasts → z.fresh.now ≡ back
    → OwesThree R l free after cpu first row entries names second other others more_names third last lasts last_names x y z
owes_three {R} {l} {free} {after} {first} {second} {third} {row} {other} {last} {cpu} {items} {entries} {others} {lasts} ready more_ready last_ready stands more_stands last_stands taken counted differ few more_few last_few {m} m_is value front_is later_is {n} n_is middle_is back_is x y z slot tail said blocks more_slot more_tail more_said more_blocks last_slot last_tail last_said last_blocks =
    let a = needed (first.tail % 4096) entries in
    let b = needed (second.tail % 4096) others in
    let so_many : m ≡ a = (let same = ready.same in m_is ∙ ap (λ (t : ℕ). needed (t % 4096) entries) same.tail) in
    let more_many : n ≡ b = (let same = more_ready.same in n_is ∙ ap (λ (t : ℕ). needed (t % 4096) others) same.tail) in
    let later = drop a items in
    let rest = drop b later in
    let later_count : length later ≡ b + needed (third.tail % 4096) lasts = length-drop a items ∙ omega (arith, counted) in
    let whole : (take a items ++ take b later) ++ rest ≡ items = append_assoc (take a items) (take b later) rest ∙ ap (λ (xs : List ℕ). take a items ++ xs) (take-append-drop b later) ∙ take-append-drop a items in
    let all : TakesEach free cpu ((take a items ++ take b later) ++ rest) after = subst (λ (xs : List ℕ). TakesEach free cpu xs after) (sym whole) taken in
    let cut = cut_each (take a items ++ take b later) rest all in
    let inner = cut_each (take a items) (take b later) cut.1 in
    record {
      next = cut.0;
      both = record {
        fresh = take a items;
        more = take b later;
        mid = inner.0;
        all = cut.1;
        one = record {
          stands = stands.0;
          can = stands.1;
          taken = inner.1;
          count = length-take-le a items (omega (arith, counted));
          few = few;
          ready = ready;
          slot = slot;
          tail = tail;
          said = said;
          blocks = blocks ∙ front_is ∙ (λ t. take (so_many t) (value t));
        };
        two = record {
          stands = stands_after more_stands.0 inner.1;
          can = more_stands.1;
          taken = inner.2;
          count = length-take-le b later (omega (arith, later_count));
          few = more_few;
          ready = more_ready;
          slot = more_slot;
          tail = more_tail;
          said = more_said;
          blocks = more_blocks ∙ middle_is ∙ (λ t. take (more_many t) ((later_is ∙ (λ u. drop (so_many u) (value u))) t));
        };
        lists = (let right = stands.0 in right.lists);
        journals = (let can = stands.1 in can.cpu_below);
        differ = differ.0;
        apart = taken_apart inner.1 inner.2;
      };
      rest = rest;
      all = all;
      three = record {
        stands = stands_after last_stands.0 cut.1;
        can = last_stands.1;
        taken = cut.2;
        count = length-drop b later ∙ omega (arith, later_count);
        few = last_few;
        ready = last_ready;
        slot = last_slot;
        tail = last_tail;
        said = last_said;
        blocks = last_blocks ∙ back_is ∙ (λ t. drop (more_many t) ((later_is ∙ (λ u. drop (so_many u) (value u))) t));
      };
      first_differs = differ.1;
      second_differs = differ.2;
      apart = taken_apart cut.1 cut.2;
    }
