-- A name that became another in its directory, once its log has grown and its row is settled.
use Rattle.std.proofs.Common.{◌≡◌, ℕ, ◌+◌, ◌-◌, ◌/◌, ◌%◌, ◌≤◌, cond, nat_eq, inl, inr, Option, List, ◌++◌, refl, ap, sym, ◌∙◌, subst, arith, Some, None}
use Rattle.std.specs.Cmp.Lexicographic.{pointwise}
use Rattle.std.specs.Prelude.{IsTrue}
use Rattle.nv_region.specs.Region.{Region, size}
use Rattle.nv_region.specs.Stops.{IsMixed}
use Rattle.nv_super.specs.Layout.{Layout}
use Rattle.nv_inode.specs.Numbers.{has_slot}
use Rattle.nv_alloc.specs.FreeValue.{FreeLists}
use Rattle.nv_alloc.specs.FreeLists.{IsFreeIn}
use Rattle.nv_entry.specs.declared.entry.Entry.{Entry}
use Rattle.nv_entry.specs.declared.entry.Entry.TheVariants.{Name}
use Rattle.nv_entry.specs.declared.entry.Operation.TheVariants.{Add}
use Rattle.nv_entry.specs.Spelling.{entry_length}
use Rattle.nv_logpage.specs.Append.{end_of, needed}
use Rattle.nv_names.specs.Names.{EachOnce, Names, name_at}
use Rattle.nv_outcome.specs.Same.{SameRow}
use Rattle.nv_radix.specs.Pages.{Pages, block_at}
use Rattle.nv_scan.specs.declared.numbers.Numbers.{Numbers}
use Rattle.nv_scan.specs.declared.piece.Row.{Row}
use Rattle.nv_mounted.specs.Held.{Held, Store, good_in}
use Rattle.nv_commit.specs.Stopped.{LeavesEither}
use Rattle.nv_commit.specs.Extends.{CanExtend, ExtendWords, ShowsMoved, with_log}
use Rattle.nv_scan.specs.Rows.{AreNumbers}
use Rattle.nv_steps.specs.Grown.{StandsRight}
use Rattle.nv_steps.specs.MoreNames.{AddsName}
use Rattle.nv_steps.specs.Moves.{MovesWithin, move_entries, move_place}
use Rattle.nv_steps.specs.Steps.{AppendsLog, LeavesStep, ShowsRow}
use Rattle.nv_steps.specs.Stopped.{Appended, MovedHere}
use Rattle.nv_steps.specs.Unlinks.{DropsName}
use Rattle.nv_steps.proofs.LessName.{absent_without, found_without, once_without, without}
use Rattle.nv_steps.proofs.LinkedAt.{added_row}
use Rattle.nv_steps.proofs.MadeNamed.{named_once}
use Rattle.nv_steps.specs.Slots.{slot_in}

-- a row with more room for names is the same
pub more_names : (row : Row) (names : Names) → ((q : List ℕ) → name_at names q ≡ name_at row.names q) → SameRow row (record row { names = names })
more_names row names same = record { inode = refl; kind = refl; numbers = refl; head = refl; tail = refl; pages = refl; index = λ p. refl; names = same }

-- what is known of a row is known of it with more room
pub stands_same : {R : Region} {l : Layout} {free : FreeLists} {old new : Row} → SameRow old new → StandsRight R l free old → StandsRight R l free new
stands_same {R} {l} {free} {old} {new} same stands = record {
  laid = stands.laid;
  lists = stands.lists;
  number = (let number = stands.number in subst (λ (i : ℕ). IsTrue (has_slot l i)) (sym same.inode) number);
  whole = (let whole = stands.whole in subst (λ (i : ℕ). slot_in l i % 128 ≡ 0) (sym same.inode) whole);
  inside = (let inside = stands.inside in subst (λ (i : ℕ). slot_in l i + 128 ≤ size R) (sym same.inode) inside);
  aligned = (let aligned = stands.aligned in let is = same.tail in omega (arith, aligned, is));
  offset = (let offset = stands.offset in let is = same.tail in omega (arith, offset, is));
  blocks = stands.blocks;
  in_blocks = (let below = stands.in_blocks in let is = same.tail in omega (arith, below, is));
  used = λ cpu free_there. stands.used cpu (subst (λ (t : ℕ). IsFreeIn free cpu (t / 4096)) same.tail free_there);
}

-- a step that was refused once there was more room
pub leaves_after : {P : Type 0} {memory now : P} {free after : FreeLists} {old mid new : Row} → SameRow old mid → LeavesStep memory now free after mid new → LeavesStep memory now free after old new
leaves_after {P} {memory} {now} {free} {after} {old} {mid} {new} same left =
    let row = left.row in record {
      memory = left.memory;
      free = left.free;
      row = record {
        inode = row.inode ∙ same.inode;
        kind = row.kind ∙ same.kind;
        numbers = row.numbers ∙ same.numbers;
        head = row.head ∙ same.head;
        tail = row.tail ∙ same.tail;
        pages = row.pages ∙ same.pages;
        index = λ p. row.index p ∙ same.index p;
        names = λ q. row.names q ∙ same.names q;
      };
    }

module _ {R S : Region} {l : Layout} {free after : FreeLists} {cpu : ℕ} {old mid grown : Row} (i : ℕ) (name other : List ℕ) (time : ℕ) (same : SameRow old mid) (grew : AppendsLog R S l free after cpu mid grown (move_entries i name other time)) where
  abbrev entries : List Entry
  entries = move_entries i name other time

  place_is : (len : ℕ) → len ≡ entry_length (Name (record { operation = Add; inode = i; time = time; name = other })) → grown.tail - len ≡ move_place grew.fresh old.tail i name other time
  place_is len is =
      let row = grew.row in
      let ends : grown.tail ≡ end_of grew.fresh 0 old.tail entries = row.tail ∙ ap (λ (t : ℕ). end_of grew.fresh 0 t entries) same.tail in
      omega (arith, ends, is)

  -- The row is settled.
  pub moves_within : {less new : Row} (len : ℕ) → len ≡ entry_length (Name (record { operation = Add; inode = i; time = time; name = other })) → DropsName grown name time less → EachOnce less.names → AddsName less other i (grown.tail - len) time new → EachOnce new.names → EachOnce old.names → MovesWithin R S l free after cpu old new i name other time
  moves_within {less} {new} len length_is drops once_less adds once_new once_old =
      let row = grew.row in
      let lost = drops.rest in
      let got = adds.rest in
      record {
        fresh = grew.fresh;
        taken = grew.taken;
        count = grew.count ∙ ap (λ (t : ℕ). needed (t % 4096) entries) same.tail;
        row = record {
          inode = got.inode ∙ lost.inode ∙ row.inode ∙ same.inode;
          kind = got.kind ∙ lost.kind ∙ row.kind ∙ same.kind;
          numbers = adds.numbers ∙ ap (λ (n : Numbers). record n { time = time }) (drops.numbers ∙ ap (λ (n : Numbers). record n { time = time }) (row.numbers ∙ same.numbers));
          head = got.head ∙ lost.head ∙ row.head ∙ same.head;
          tail = got.tail ∙ lost.tail ∙ row.tail ∙ ap (λ (t : ℕ). end_of grew.fresh 0 t entries) same.tail;
          pages = (λ t. (got.pages t).items) ∙ (λ t. (lost.pages t).items) ∙ row.pages ∙ ap (λ (ps : List ℕ). ps ++ grew.fresh) same.pages;
          index = λ p. (λ t. block_at (got.index t) p) ∙ (λ t. block_at (lost.index t) p) ∙ ap (λ (m : Pages). block_at m p) row.index ∙ same.index p;
          between = less.names;
          lost = λ q. drops.names q ∙ (λ t. cond (pointwise nat_eq q name) None ((ap (λ (m : Names). name_at m q) row.names ∙ same.names q) t));
          names = λ q. adds.names q ∙ (λ t. cond (pointwise nat_eq q other) (Some (i, place_is len length_is t)) (name_at less.names q));
          once = once_old;
          once_between = once_less;
          once_now = once_new;
        };
        moved = λ held h can. subst (λ (n : ℕ). ShowsMoved R l (with_log held n h entries grew.fresh) S) same.inode
            (grew.moved held h (subst (λ (n : ℕ). CanExtend R l held n h (slot_in l n) mid.tail entries grew.fresh) (sym same.inode) (subst (λ (t : ℕ). CanExtend R l held old.inode h (slot_in l old.inode) t entries grew.fresh) (sym same.tail) can)));
        mixed = subst (λ (n : ℕ). IsMixed R (ExtendWords (slot_in l n) old.tail entries grew.fresh) S) same.inode (subst (λ (t : ℕ). IsMixed R (ExtendWords (slot_in l mid.inode) t entries grew.fresh) S) same.tail grew.mixed);
      }

-- ---- a stop

-- what a region shows of a row it shows of it with more room
pub shows_same : {R : Region} {l : Layout} {held : Store} {h : Held} {free : FreeLists} {old new : Row} → SameRow old new → ShowsRow R l held h old free → ShowsRow R l held h new free
shows_same {l = l} {held = held} {h = h} same shows =
    let told = shows.told in
    record {
      sound = shows.sound;
      holds = ap held same.inode ∙ shows.holds;
      told = record {
        kind = same.kind ∙ told.kind;
        numbers = subst (λ (n : Numbers). AreNumbers h.created (good_in l h) n) (sym same.numbers) told.numbers;
        head = same.head ∙ told.head;
        tail = same.tail ∙ told.tail;
        pages = same.pages ∙ told.pages;
        index = λ p. same.index p ∙ told.index p;
        names = λ q. same.names q ∙ told.names q;
      };
      lists = shows.lists;
    }

-- the row without the name, by the names of before
abbrev less_row : Row → Row → List ℕ → ℕ → Row
less_row old grown name time = record grown { numbers = record grown.numbers { time = time }; names = record old.names { names = without name old.names.names } }

-- What a stop leaves of another name in the same directory, by what it leaves of its log.
pub left_here : {R : Region} {l : Layout} {free : FreeLists} {cpu : ℕ} {held : Store} (old mid : Row) (i : ℕ) (name other : List ℕ) (time : ℕ) → SameRow old mid → EachOnce old.names → name_at old.names other ≡ None
    → (left : Region) → LeavesEither R l held (Appended R l free cpu mid (move_entries i name other time)) left → LeavesEither R l held (MovedHere R l free cpu old i name other time) left
left_here old mid i name other time same once absent left (inl stays) = inl stays
left_here old mid i name other time same once absent left (inr w) =
    let made = w.1 in
    let grown = made.1 in
    let grew = made.2 in
    let row = grew.row in
    let len = entry_length (Name (record { operation = Add; inode = i; time = time; name = other })) in
    let less = less_row old grown name time in
    inr (
      w.0,
      (
        made.0,
        added_row less other i (grown.tail - len) time,
        moves_within i name other time same grew {less = less} {new = added_row less other i (grown.tail - len) time} len refl
            (record { rest = record { inode = refl; kind = refl; head = refl; tail = refl; pages = refl; index = refl }; numbers = refl; names = λ q. found_without old.names.names name q ∙ ap (λ (o : Option (ℕ × ℕ)). cond (pointwise nat_eq q name) None o) (sym (ap (λ (m : Names). name_at m q) row.names ∙ same.names q)) })
            (once_without old.names.names name once)
            (record { rest = record { inode = refl; kind = refl; head = refl; tail = refl; pages = refl; index = refl }; numbers = refl; names = λ q. refl })
            (named_once less other i (grown.tail - len) (once_without old.names.names name once) (absent_without old.names.names name other absent)) once,
      ),
    )
