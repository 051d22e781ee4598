-- A new inode and its name, once they are committed and the rows settled.
use Rattle.std.proofs.Common.{◌≡◌, ℕ, zero, suc, ◌+◌, ◌-◌, ◌*◌, ◌/◌, ◌%◌, ◌<◌, ◌≤◌, cond, nat_eq, Bool, true, false, inl, inr, Option, List, [], ◌∷◌, ◌++◌, drop, take, take_all, length, get_or, refl, ap, sym, ◌∙◌, subst, arith, Some, None}
use Rattle.std.specs.Cmp.Lexicographic.{pointwise}
use Rattle.std.specs.List.{AllByRecursion}
use Rattle.std.proofs.lemmas.Map.Keys.{IsDistinct-cons}
use Rattle.nv_region.specs.Region.{Region, size}
use Rattle.nv_region.specs.Stops.{Choices, IsMixed, LeavesOnly, NothingPending}
use Rattle.nv_region.specs.Stored.{StoresOnly}
use Rattle.nv_region.proofs.Stops.{mixed_left}
use Rattle.nv_super.specs.Layout.{Layout}
use Rattle.nv_super.specs.declared.kind.Kind.{Kind}
use Rattle.nv_journal.specs.Undo.{undone}
use Rattle.nv_journal.specs.InOrder.{FirstIsFirst}
use Rattle.nv_alloc.specs.FreeValue.{FreeLists}
use Rattle.nv_entry.specs.declared.entry.Entry.{Entry}
use Rattle.nv_entry.specs.declared.entry.Entry.TheVariants.{Name}
use Rattle.nv_entry.specs.declared.entry.Operation.TheVariants.{Add}
use Rattle.nv_entry.specs.Spelling.{entry_length}
use Rattle.nv_logpage.specs.Append.{EndBy, appended, end_of, needed}
use Rattle.nv_names.specs.Names.{EachOnce, found_in, name_at, names_of}
use Rattle.nv_scan.specs.declared.numbers.Numbers.{Numbers}
use Rattle.nv_scan.specs.declared.piece.Row.{Row}
use Rattle.nv_outcome.specs.Same.{SameRow}
use Rattle.nv_mounted.specs.Held.{Held, Store, with_inode}
use Rattle.nv_mounted.specs.Bytes.{byte_of}
use Rattle.nv_mounted.proofs.Fronts.{sound_clear}
use Rattle.nv_outcome.proofs.SuperOf.{layout_of_super}
use Rattle.nv_commit.specs.declared.together.Extension.{Extension}
use Rattle.nv_commit.specs.declared.making.NewInode.{NewInode}
use Rattle.nv_commit.specs.Extends.{with_log}
use Rattle.nv_commit.specs.Together.{CanCommit, ShowsIdle, UndoneShows}
use Rattle.nv_commit.specs.Makes.{BeforeOrMade, CanBegin, CanMake, MakeWords, begun, tail_of, with_made}
use Rattle.nv_commit.specs.Stopped.{LeavesEither}
use Rattle.nv_commit.proofs.BytesStay.{made_bytes}
use Rattle.nv_commit.proofs.Left.{one_held}
use Rattle.nv_commit.proofs.LeftUndone.{undone_can, undone_files, undone_idle, undone_recovers}
use Rattle.nv_steps.specs.Grown.{StandsRight}
use Rattle.nv_steps.specs.NameEntries.{first_entries, name_entries, new_held, with_named}
use Rattle.nv_steps.specs.NewNames.{CanName, HasNamed, IsNewRow, MakesNamed, place_named}
use Rattle.nv_steps.specs.Steps.{ShowsRow}
use Rattle.nv_steps.specs.Stopped.{Named}
use Rattle.nv_steps.specs.Taken.{TakesEach}
use Rattle.nv_steps.proofs.NewLogs.{can_begin, can_commit, can_make, first_append, second_append, slot_inside}
use Rattle.nv_steps.specs.Fronts.{SameFrontBut}
use Rattle.nv_steps.proofs.OtherJournals.{made_front, undone_front}
use Rattle.nv_steps.specs.Stores.{StoresIn, one_more}
use Rattle.nv_steps.proofs.Stores.{more_stores}
use Rattle.nv_steps.specs.Slots.{slot_in}

-- ---- rows that a stop keeps from being settled

-- the directory's row with the name, as it was before it was made ready
abbrev pub named_row : Row → Row → List ℕ → ℕ → List ℕ → ℕ → ℕ → ℕ → Row
named_row old mid fresh end name j place time = record mid { numbers = record mid.numbers { time = time }; tail = end; pages = record mid.pages { items = mid.pages.items ++ fresh }; names = record old.names { names = (name, j, place) ∷ old.names.names } }

named_row_has : (old mid : Row) (fresh : List ℕ) (end : ℕ) (name : List ℕ) (j place time : ℕ) → SameRow old mid → HasNamed mid fresh end name j place time (named_row old mid fresh end name j place time)
named_row_has old mid fresh end name j place time same = record {
  inode = refl;
  kind = refl;
  numbers = refl;
  head = refl;
  tail = refl;
  pages = refl;
  index = λ p. refl;
  names = λ q. ap (λ (o : Option (ℕ × ℕ)). cond (pointwise nat_eq q name) (Some (j, place)) o) (sym (same.names q));
}

lacks : (es : List (List ℕ × ℕ × ℕ)) (name : List ℕ) → found_in es name ≡ None → AllByRecursion (λ y. pointwise nat_eq name y ≡ false) (names_of es)
lacks [] name none = tt
lacks (e ∷ es) name none = by (pointwise nat_eq name e.0) refl none (lacks es name) where
  by : (b : Bool) → pointwise nat_eq name e.0 ≡ b → cond b (Some (e.1, e.2)) (found_in es name) ≡ None → (found_in es name ≡ None → AllByRecursion (λ y. pointwise nat_eq name y ≡ false) (names_of es)) → AllByRecursion (λ y. pointwise nat_eq name y ≡ false) (names_of (e ∷ es))
  by true is clash others = absurd (cc)
  by false is rest others = (is, others rest)

-- no name is twice in it
pub named_once : (old : Row) (name : List ℕ) (j place : ℕ) → EachOnce old.names → name_at old.names name ≡ None → EachOnce (record old.names { names = (name, j, place) ∷ old.names.names })
named_once old name j place once absent = IsDistinct-cons (pointwise nat_eq) name (names_of old.names.names) (lacks old.names.names name absent) once

-- the row of the new inode
abbrev pub new_row : ℕ → Kind → ℕ → ℕ → ℕ → ℕ → Row
new_row j kind mode time page tail = record {
  inode = j;
  numbers = record { size = 0; mode = mode % 4096; owner = 0; group = 0; links = 1; time = time };
  names = record { names = []; room = 0 };
  kind = kind;
  head = 4096 * page;
  tail = tail;
  pages = record { items = page ∷ []; capacity = 2 };
  index = [];
}

new_row_is : (j : ℕ) (kind : Kind) (mode time page tail : ℕ) → IsNewRow j kind mode time page tail (new_row j kind mode time page tail)
new_row_is j kind mode time page tail = record { inode = refl; is_of_kind = refl; numbers = refl; head = refl; tail_is = refl; pages = refl; index = λ p. refl; names = λ q. refl }

-- ---- blocks

-- blocks as the first and the others
pub cut_first : (xs : List ℕ) (n d : ℕ) → length xs ≡ 1 + n → xs ≡ get_or xs 0 d ∷ drop 1 xs
cut_first [] n d count = absurd (omega (arith, count))
cut_first (x ∷ xs) n d count = refl

pub others_count : (xs : List ℕ) (n : ℕ) → length xs ≡ 1 + n → length (drop 1 xs) ≡ n
others_count [] n count = absurd (omega (arith, count))
others_count (x ∷ xs) n count = omega (arith, count)

pub all_others : (xs : List ℕ) (n : ℕ) → n ≡ length xs → take (n - 1) (drop 1 xs) ≡ drop 1 xs
all_others [] n is = ap (λ (m : ℕ). take (m - 1) (drop 1 [])) is
all_others (x ∷ xs) n is = take_all (n - 1) xs (omega (arith, is))

pub first_is : (xs : List ℕ) (n v : ℕ) → length xs ≡ 1 + n → v ≡ get_or xs 0 v → v ≡ get_or xs 0 0
first_is [] n v count is = absurd (omega (arith, count))
first_is (x ∷ xs) n v count is = is

-- where a name's entry begins, by where it ends
pub place_is : (end len : ℕ) (fresh : List ℕ) (tail j : ℕ) (name : List ℕ) (time : ℕ) → end ≡ end_of fresh 0 tail (name_entries Add j name time) → len ≡ entry_length (Name (record { operation = Add; inode = j; time = time; name = name })) → end - len ≡ place_named fresh tail j name time
place_is end len fresh tail j name time ends is = omega (arith, ends, is)

-- the store by the names of a call
made_store : (held : Store) (n : NewInode) (x : Extension) (kind : Kind) (mode time j d : ℕ) (h : Held) (name : List ℕ) (page : ℕ) (fresh : List ℕ) → n.kind ≡ kind → n.created ≡ time → n.page ≡ page → n.entries.now ≡ first_entries mode time → x.entries.now ≡ name_entries Add j name time → x.fresh.now ≡ fresh
    → with_made held j n d h x ≡ with_named held kind mode time j d h name page fresh
made_store held n x kind mode time j d h name page fresh of_kind created page_is first more blocks =
    let same : begun n ≡ new_held kind mode time page = λ t. record { kind = of_kind t; head = 4096 * page_is t; tail = end_of [] 0 (4096 * page_is t) (first t); created = created t; entries = appended [] 0 (4096 * page_is t) (first t); pages = page_is t ∷ [] } in
    λ t. with_log (with_inode held j (Some (same t))) d h (more t) (blocks t)

-- a row that was made ready and then settled
pub named_after : {old mid new : Row} {fresh others : List ℕ} {end last place spot : ℕ} (name : List ℕ) (j time : ℕ) → SameRow old mid → HasNamed mid fresh end name j place time new → fresh ≡ others → end ≡ last → place ≡ spot → HasNamed old others last name j spot time new
named_after {old} {mid} {new} {fresh} {others} {end} {last} {place} {spot} name j time same named blocks ends at = record {
  inode = named.inode ∙ same.inode;
  kind = named.kind ∙ same.kind;
  numbers = named.numbers ∙ ap (λ (n : Numbers). record n { time = time }) same.numbers;
  head = named.head ∙ same.head;
  tail = named.tail ∙ ends;
  pages = named.pages ∙ (λ t. same.pages t ++ blocks t);
  index = λ p. named.index p ∙ same.index p;
  names = λ q. named.names q ∙ (λ t. cond (pointwise nat_eq q name) (Some (j, at t)) (same.names q t));
}

pub new_row_as : {p page t tail : ℕ} {row : Row} (j : ℕ) (kind : Kind) (mode time : ℕ) → p ≡ page → t ≡ tail → IsNewRow j kind mode time p t row → IsNewRow j kind mode time page tail row
new_row_as {p} {page} {t} {tail} {row} j kind mode time same ends is = subst (λ (m : ℕ). IsNewRow j kind mode time page m row) ends (subst (λ (m : ℕ). IsNewRow j kind mode time m t row) same is)

module _ {R : Region} {l : Layout} {free after : FreeLists} {old mid : Row} {cpu j : ℕ} {items : List ℕ} (stands : StandsRight R l free old) (can : CanName R l cpu j old) (taken : TakesEach free cpu items after) (name : List ℕ) (time : ℕ)
    (counted : length items ≡ 1 + needed (old.tail % 4096) (name_entries Add j name time)) (same : SameRow old mid) where
  abbrev entries : List Entry
  entries = name_entries Add j name time

  abbrev page : ℕ
  page = get_or items 0 0

  abbrev fresh : List ℕ
  fresh = drop 1 items

  all : items ≡ page ∷ fresh
  all = cut_first items (needed (old.tail % 4096) entries) 0 counted

  both_taken : TakesEach free cpu (page ∷ fresh) after
  both_taken = subst (λ (xs : List ℕ). TakesEach free cpu xs after) all taken

  count : length fresh ≡ needed (old.tail % 4096) entries
  count = others_count items (needed (old.tail % 4096) entries) counted

  pub begins : (mode : ℕ) {n : NewInode} → n.slot ≡ slot_in l j → n.page ≡ page → n.entries.now ≡ first_entries mode time → CanBegin R cpu n
  begins mode slot page_is first = can_begin entries stands can both_taken count (refl, tt) mode time slot page_is first

  module _ (x : Extension) (slot : x.slot ≡ slot_in l mid.inode) (tail : x.tail ≡ mid.tail) (more : x.entries.now ≡ entries) (blocks : x.fresh.now ≡ fresh) where
    old_slot : x.slot ≡ slot_in l old.inode
    old_slot = slot ∙ ap (slot_in l) same.inode

    old_tail : x.tail ≡ old.tail
    old_tail = tail ∙ same.tail

    pub commits : CanCommit R cpu x
    commits = can_commit entries stands can both_taken count (refl, tt) old_slot old_tail more blocks

    module _ (kind : Kind) (mode : ℕ) (n : NewInode) (new_slot : n.slot ≡ slot_in l j) (of_kind : n.kind ≡ kind) (created : n.created ≡ time) (page_is : n.page ≡ page) (first : n.entries.now ≡ first_entries mode time) where
      pub can_make_it : (held : Store) (h : Held) → ShowsRow R l held h old free → held j ≡ None → CanMake R l held cpu j n mid.inode h x
      can_make_it held h shows unused = subst (λ (d : ℕ). CanMake R l held cpu j n d h x) (sym same.inode) (can_make entries stands can both_taken count (refl, tt) shows unused (omega arith) mode time new_slot page_is first old_slot old_tail more blocks)

      pub makes_named_by : {S : Region} {new row : Row} (end tail_now place first_page : ℕ) (bs : List ℕ) → bs ≡ fresh → tail_now ≡ tail_of n → end ≡ end_of x.fresh.now 0 x.tail x.entries.now → HasNamed mid bs end name j place time new → place ≡ place_named fresh old.tail j name time
          → EachOnce old.names → EachOnce new.names → first_page ≡ page → IsNewRow j kind mode time first_page tail_now row
          → ((held : Store) (h : Held) → CanMake R l held cpu j n mid.inode h x → ShowsIdle S l (with_made held j n mid.inode h x))
          → ((held : Store) (h : Held) → CanMake R l held cpu j n mid.inode h x → (i : ℕ) (g : Held) → held i ≡ Some g → (y : ℕ) → byte_of S l g y ≡ byte_of R l g y)
          → ((held : Store) (h : Held) → CanMake R l held cpu j n mid.inode h x → SameFrontBut l.sup.cpus cpu R S)
          → MakesNamed R S l free after cpu old new kind mode time j name row
      makes_named_by {S} {new} {row} end tail_now place first_page bs others tails ends named at once once_now paged made shows bytes front = record {
        page = page;
        fresh = fresh;
        taken = both_taken;
        count = count;
        directory = named_after name j time same named others (ends ∙ (λ t. end_of (blocks t) 0 (old_tail t) (more t))) at;
        once = once;
        once_now = once_now;
        row = new_row_as j kind mode time paged (tails ∙ (λ t. end_of [] 0 (4096 * page_is t) (first t))) made;
        shows = λ held h seen unused. record {
          idle = subst (λ (st : Store). ShowsIdle S l st) (made_store held n x kind mode time j old.inode h name page fresh of_kind created page_is first more blocks) (subst (λ (d : ℕ). ShowsIdle S l (with_made held j n d h x)) same.inode (shows held h (can_make_it held h seen unused)));
          bytes = bytes held h (can_make_it held h seen unused);
          front = front held h (can_make_it held h seen unused);
        };
      }

      pub makes_named : {S : Region} {new row : Row} (end tail_now place first_page : ℕ) (bs : List ℕ) → bs ≡ fresh → tail_now ≡ tail_of n → end ≡ end_of x.fresh.now 0 x.tail x.entries.now → HasNamed mid bs end name j place time new → place ≡ place_named fresh old.tail j name time
          → EachOnce old.names → EachOnce new.names → first_page ≡ page → IsNewRow j kind mode time first_page tail_now row
          → ((held : Store) (h : Held) → CanMake R l held cpu j n mid.inode h x → ShowsIdle S l (with_made held j n mid.inode h x)) → IsMixed R (MakeWords cpu n x) S
          → MakesNamed R S l free after cpu old new kind mode time j name row
      makes_named {S} end tail_now place first_page bs others tails ends named at once once_now paged made shows mixed =
          makes_named_by end tail_now place first_page bs others tails ends named at once once_now paged made shows (λ held h can. made_bytes can S mixed) (λ held h can. made_front can S mixed)

      -- What a stop leaves: the row that the directory would have is as it was but for the name, the time and the log.
      -- Nothing else is stored than what the new inode and its name take.
      named_stores : (S : Region) {held : Store} {h : Held} → ShowsRow R l held h old free → held j ≡ None → IsMixed R (MakeWords cpu n x) S → StoresIn l held (one_more l cpu j old.inode) R S
      named_stores S {held} {h} shows unused mixed = subst (λ (d : ℕ). StoresIn l held (one_more l cpu j d) R S) same.inode (more_stores (can_make_it held h shows unused) new_slot slot mixed)

      -- The directory's tail is stored after the valid word.
      named_in_order : (S : Region) {held : Store} {h : Held} → ShowsRow R l held h old free → held j ≡ None → (CanMake R l held cpu j n mid.inode h x → FirstIsFirst R n.slot 1 (x.slot + 24) S) → FirstIsFirst R (slot_in l j) 1 (slot_in l old.inode + 24) S
      named_in_order S {held} {h} shows unused orders =
          subst (λ (a : ℕ). FirstIsFirst R a 1 (slot_in l old.inode + 24) S) new_slot
          (subst (λ (a : ℕ). FirstIsFirst R n.slot 1 (a + 24) S) old_slot (orders (can_make_it held h shows unused)))

      -- Both.
      pub named_told : (S : Region) {held : Store} {h : Held} → ShowsRow R l held h old free → held j ≡ None → (CanMake R l held cpu j n mid.inode h x → FirstIsFirst R n.slot 1 (x.slot + 24) S) → IsMixed R (MakeWords cpu n x) S
          → FirstIsFirst R (slot_in l j) 1 (slot_in l old.inode + 24) S × StoresIn l held (one_more l cpu j old.inode) R S
      named_told S shows unused orders mixed = (named_in_order S shows unused orders, named_stores S shows unused mixed)

      pub left_named : {held : Store} {h : Held} → ShowsRow R l held h old free → held j ≡ None → EachOnce old.names → name_at old.names name ≡ None → (now : Region) (first_may last_may : Choices) → StoresOnly (MakeWords cpu n x) R now first_may last_may → NothingPending R first_may
          → (CanMake R l held cpu j n mid.inode h x → NothingPending R first_may → LeavesOnly now last_may (BeforeOrMade l held j n mid.inode h x)) → LeavesOnly now last_may (LeavesEither R l held (Named R l free cpu old kind mode time j name))
      left_named {held} {h} shows out once absent now first_may last_may wrote settled stops left may = by (stops made_can settled left may) where
        made_can : CanMake R l held cpu j n mid.inode h x
        made_can = can_make_it held h shows out

        mixed : IsMixed R (MakeWords cpu n x) left
        mixed = let stored = wrote.mixed in mixed_left R now (MakeWords cpu n x) first_may last_may stored.as_long stored.same_rest settled wrote.adds left may

        any_idle : (w : UndoneShows l (with_made held j n mid.inode h x) left) (other : Store) (g : Held) → CanMake R l other cpu j n mid.inode g x → ShowsIdle (undone l.sup left) l (with_made other j n mid.inode g x)
        any_idle w other g there =
            let parent = there.parent in
            let one = shows.sound in
            let two = parent.sound in
            let equal : held ≡ other = one_held one.shows two.shows in
            let both : Some h ≡ Some g = sym shows.holds ∙ ap held (sym same.inode) ∙ ap (λ (st : Store). st mid.inode) equal ∙ parent.holds in
            let is : h ≡ g = cc in
            subst (λ (k : Held). ShowsIdle (undone l.sup left) l (with_made other j n mid.inode k x)) is (subst (λ (st : Store). ShowsIdle (undone l.sup left) l (with_made st j n mid.inode h x)) equal (undone_idle w))

        any_bytes : (w : UndoneShows l (with_made held j n mid.inode h x) left) (other : Store) (g : Held) → CanMake R l other cpu j n mid.inode g x → (i : ℕ) (f : Held) → other i ≡ Some f → (y : ℕ) → byte_of (undone l.sup left) l f y ≡ byte_of R l f y
        any_bytes w other g there = let parent = there.parent in undone_files w R (sound_clear parent.sound) (made_bytes there left mixed)

        any_front : (other : Store) (g : Held) → CanMake R l other cpu j n mid.inode g x → SameFrontBut l.sup.cpus cpu R (undone l.sup left)
        any_front other g there = let parent = there.parent in let sound = parent.sound in undone_front l.sup cpu R left (layout_of_super R l.sup sound.sup) sound.idle (made_front there left mixed)

        by : BeforeOrMade l held j n mid.inode h x left → LeavesEither R l held (Named R l free cpu old kind mode time j name) left
        by (inl w) = inl (undone_recovers w R (sound_clear shows.sound) (made_bytes made_can left mixed) (let sound = shows.sound in sound.faultless))
        by (inr w) = inr (
          undone_can w,
          (
            after,
            named_row old mid fresh (end_of x.fresh.now 0 x.tail x.entries.now) name j (place_named fresh old.tail j name time) time,
            new_row j kind mode time page (tail_of n),
            makes_named_by {S = undone l.sup left} (end_of x.fresh.now 0 x.tail x.entries.now) (tail_of n) (place_named fresh old.tail j name time) page fresh refl refl refl (named_row_has old mid fresh (end_of x.fresh.now 0 x.tail x.entries.now) name j (place_named fresh old.tail j name time) time same) refl
                once (named_once old name j (place_named fresh old.tail j name time) once absent) refl (new_row_is j kind mode time page (tail_of n)) (any_idle w) (any_bytes w) any_front,
          ),
        )

  -- Memory that is open past the region is open past all that is stored.
  pub makes_within : (p a b t : ℕ) (bs : List ℕ) → p ≡ page → a ≡ slot_in l j → b ≡ slot_in l mid.inode → t ≡ mid.tail → bs ≡ fresh → (limit : ℕ) → size R ≤ limit
      → EndBy (p ∷ []) limit × EndBy (t / 4096 ∷ bs) limit × (a + 40 ≤ limit) × (b + 32 ≤ limit)
  makes_within p a b t bs page_is new_slot slot tail blocks limit past =
      let first = first_append entries stands can both_taken count (refl, tt) 0 0 in
      let second = second_append entries stands can both_taken count (refl, tt) in
      let page_in = first.inside in
      let pages_in : EndBy (t / 4096 ∷ bs) (size R) = subst (λ (xs : List ℕ). EndBy (t / 4096 ∷ xs) (size R)) (sym blocks) (subst (λ (m : ℕ). EndBy (m / 4096 ∷ fresh) (size R)) (sym (tail ∙ same.tail)) second.inside) in
      let new_inside = slot_inside entries stands can both_taken count (refl, tt) in (
        (λ k below. one k below (page_in 0 (omega arith))),
        (λ k below. (let in_region = pages_in k below in omega (arith, in_region, past))),
        omega (arith, new_inside, new_slot, past),
        (let inside = stands.inside in let here : b ≡ slot_in l old.inode = slot ∙ ap (slot_in l) same.inode in omega (arith, inside, here, past)),
      )
    where
      one : (k : ℕ) → k < 1 → 4096 * (4096 * page / 4096) + 4096 ≤ size R → 4096 * get_or (p ∷ []) k 0 + 4096 ≤ limit
      one zero below inside = omega (arith, inside, past, page_is)
      one (suc k) below inside = absurd (omega (arith, below))
