-- A directory's log behind which an entry of a name stands: the directory's row is of it.
use Rattle.std.proofs.Common.{◌≡◌, ℕ, ◌%◌, cond, nat_eq, List, ◌++◌, length, take, take_all, ap, sym, ◌∙◌, arith, Option, Some, None}
use Rattle.std.specs.Cmp.Lexicographic.{pointwise}
use Rattle.nv_super.specs.Layout.{Layout}
use Rattle.nv_super.specs.declared.kind.Kind.TheVariants.{Directory}
use Rattle.nv_entry.specs.declared.entry.Entry.{Entry}
use Rattle.nv_entry.specs.declared.entry.Entry.TheVariants.{Name}
use Rattle.nv_entry.specs.declared.entry.Operation.{Operation}
use Rattle.nv_entry.specs.declared.entry.Operation.TheVariants.{Add, Remove}
use Rattle.nv_logpage.specs.Append.{end_of, needed, place_of}
use Rattle.nv_names.specs.Names.{name_at}
use Rattle.nv_scan.specs.declared.numbers.Numbers.{Numbers}
use Rattle.nv_scan.specs.declared.piece.Row.{Row}
use Rattle.nv_scan.specs.Rows.{AreNumbers}
use Rattle.nv_mounted.specs.Held.{Held, good_in}
use Rattle.nv_mounted.specs.Grows.{SameFile}
use Rattle.nv_mounted.specs.Mounted.{KeepsRow}
use Rattle.nv_graph.specs.Step.{IsGoodName}
use Rattle.nv_commit.specs.Extends.{extended}
use Rattle.nv_steps.specs.LessNames.{HasLost}
use Rattle.nv_steps.specs.NameEntries.{name_entries}
use Rattle.nv_steps.specs.NewNames.{HasNamed, place_named}
use Rattle.nv_steps.proofs.NameEntries.{name_added, name_file, name_lost, name_numbers}

module _ (l : Layout) (i : ℕ) (name : List ℕ) (time : ℕ) (fresh : List ℕ) {h : Held} {row : Row} (told : KeepsRow l h row) (is_directory : row.kind ≡ Directory) (good : IsGoodName l.sup i name) where
  of_kind : h.kind ≡ Directory
  of_kind = sym told.kind ∙ is_directory

  module _ (o : Operation) where
    abbrev entries : List Entry
    entries = name_entries o i name time

    abbrev at : ℕ
    at = place_of fresh 0 h.tail (Name (record { operation = o; inode = i; time = time; name = name }))

    abbrev end : ℕ
    end = end_of fresh 0 h.tail entries

    abbrev pages : List ℕ
    pages = take (needed (h.tail % 4096) entries) fresh

    -- The blocks of its file stay.
    pub named_file : SameFile l h (extended h entries fresh)
    named_file = name_file l h of_kind o i name good at time end pages

    numbers_then : (now : Numbers) → now ≡ record row.numbers { time = time } → AreNumbers h.created (good_in l (extended h entries fresh)) now
    numbers_then now is = name_numbers l h of_kind o i name good at time end pages row.numbers now told.numbers is

    pages_then : length fresh ≡ needed (row.tail % 4096) entries → row.pages.items ++ fresh ≡ h.pages ++ pages
    pages_then count =
        let counted : length fresh ≡ needed (h.tail % 4096) entries = count ∙ ap (λ (t : ℕ). needed (t % 4096) entries) told.tail in
        let all : pages ≡ fresh = take_all (needed (h.tail % 4096) entries) fresh (omega (arith, counted)) in
        ap (λ (ps : List ℕ). ps ++ fresh) told.pages ∙ ap (λ (ps : List ℕ). h.pages ++ ps) (sym all)

  -- Where the name was added, the row that has it is of the log.
  pub named_told : {now : Row} → length fresh ≡ needed (row.tail % 4096) (name_entries Add i name time) → HasNamed row fresh (end_of fresh 0 row.tail (name_entries Add i name time)) name i (place_named fresh row.tail i name time) time now
      → KeepsRow l (extended h (name_entries Add i name time) fresh) now
  named_told {now} count named = record {
    kind = named.kind ∙ told.kind;
    numbers = numbers_then Add now.numbers named.numbers;
    head = named.head ∙ told.head;
    tail = named.tail ∙ ap (λ (t : ℕ). end_of fresh 0 t (name_entries Add i name time)) told.tail;
    pages = named.pages ∙ pages_then Add count;
    index = λ p. named.index p ∙ told.index p ∙ sym (named_file Add p);
    names = λ q. named.names q ∙ ap (λ (t : ℕ). cond (pointwise nat_eq q name) (Some (i, place_named fresh t i name time)) (name_at row.names q)) told.tail
        ∙ ap (λ (x : Option (ℕ × ℕ)). cond (pointwise nat_eq q name) (Some (i, at Add)) x) (told.names q) ∙ sym (name_added l h of_kind i name good (at Add) time (end Add) (pages Add) q);
  }

  -- Where it was removed, the row that lost it is.
  pub lost_told : {now : Row} → length fresh ≡ needed (row.tail % 4096) (name_entries Remove i name time) → HasLost row fresh (end_of fresh 0 row.tail (name_entries Remove i name time)) name time now
      → KeepsRow l (extended h (name_entries Remove i name time) fresh) now
  lost_told {now} count lost = record {
    kind = lost.kind ∙ told.kind;
    numbers = numbers_then Remove now.numbers lost.numbers;
    head = lost.head ∙ told.head;
    tail = lost.tail ∙ ap (λ (t : ℕ). end_of fresh 0 t (name_entries Remove i name time)) told.tail;
    pages = lost.pages ∙ pages_then Remove count;
    index = λ p. lost.index p ∙ told.index p ∙ sym (named_file Remove p);
    names = λ q. lost.names q ∙ ap (λ (x : Option (ℕ × ℕ)). cond (pointwise nat_eq q name) None x) (told.names q) ∙ sym (name_lost l h of_kind i name good (at Remove) time (end Remove) (pages Remove) q);
  }
