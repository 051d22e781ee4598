-- A name that is given to another inode: what its entries make of the directory's log, by the row that stands for it.
use Rattle.std.proofs.Common.{◌≡◌, ℕ, ◌+◌, ◌%◌, cond, nat_eq, List, ◌++◌, length, take, take_all, ap, sym, ◌∙◌, arith, Option, Some, None}
use Rattle.std.specs.Cmp.Lexicographic.{pointwise}
use Rattle.nv_super.specs.declared.kind.Kind.TheVariants.{Directory}
use Rattle.nv_super.specs.Layout.{Layout}
use Rattle.nv_entry.specs.declared.entry.Entry.{Entry}
use Rattle.nv_entry.specs.declared.entry.Entry.TheVariants.{Name}
use Rattle.nv_entry.specs.declared.entry.Operation.TheVariants.{Remove}
use Rattle.nv_entry.specs.Spelling.{entry_length}
use Rattle.nv_logpage.specs.Append.{end_of, needed, pages_after, place_of}
use Rattle.nv_names.specs.Names.{name_at}
use Rattle.nv_scan.specs.declared.piece.Row.{Row}
use Rattle.nv_mounted.specs.Held.{Held}
use Rattle.nv_mounted.specs.Grows.{SameFile}
use Rattle.nv_mounted.specs.Mounted.{KeepsRow}
use Rattle.nv_graph.specs.Step.{IsGoodName}
use Rattle.nv_commit.specs.Extends.{extended}
use Rattle.nv_steps.specs.Moves.{HasMoved}
use Rattle.nv_steps.specs.Takes.{take_entries, take_place}
use Rattle.nv_calls.proofs.TakenEntries.{taken_file, taken_names, taken_numbers}

module _ (l : Layout) (i j : ℕ) (name other : List ℕ) (time : ℕ) (fresh : List ℕ) {h : Held} {row : Row} (told : KeepsRow l h row) (is_directory : row.kind ≡ Directory) (good : IsGoodName l.sup i name) (good_there : IsGoodName l.sup j other) (good_other : IsGoodName l.sup i other) where
  abbrev entries : List Entry
  entries = take_entries i j name other time

  -- where the three entries stand
  abbrev pub first_place : ℕ
  first_place = place_of fresh 0 h.tail (Name (record { operation = Remove; inode = i; time = time; name = name }))

  abbrev pub second_place : ℕ
  second_place =
      let first = Name (record { operation = Remove; inode = i; time = time; name = name }) in
      place_of fresh (pages_after 0 h.tail first) (place_of fresh 0 h.tail first + entry_length first) (Name (record { operation = Remove; inode = j; time = time; name = other }))

  abbrev pub third_place : ℕ
  third_place = take_place fresh h.tail i j name other time

  abbrev end : ℕ
  end = end_of fresh 0 h.tail entries

  abbrev pages : List ℕ
  pages = take (needed (h.tail % 4096) entries) fresh

  of_kind : h.kind ≡ Directory
  of_kind = sym told.kind ∙ is_directory

  pub takes_file : SameFile l h (extended h entries fresh)
  takes_file = taken_file l h of_kind i j name other good good_there good_other first_place second_place third_place time end pages

  -- The row is of its log.
  pub takes_told : {new : Row} → length fresh ≡ needed (row.tail % 4096) entries → HasMoved row fresh (end_of fresh 0 row.tail entries) name other i (take_place fresh row.tail i j name other time) time new → KeepsRow l (extended h entries fresh) new
  takes_told {new} count has =
      let enough : length fresh ≡ needed (h.tail % 4096) entries = count ∙ ap (λ (t : ℕ). needed (t % 4096) entries) told.tail in
      record {
        kind = has.kind ∙ told.kind;
        numbers = taken_numbers l h of_kind i j name other good good_there good_other first_place second_place third_place time end pages row.numbers new.numbers told.numbers has.numbers;
        head = has.head ∙ told.head;
        tail = has.tail ∙ ap (λ (t : ℕ). end_of fresh 0 t entries) told.tail;
        pages = has.pages ∙ ap (λ (ps : List ℕ). ps ++ fresh) told.pages ∙ sym (ap (λ (ps : List ℕ). h.pages ++ ps) (take_all (needed (h.tail % 4096) entries) fresh (omega (arith, enough))));
        index = λ p. has.index p ∙ told.index p ∙ sym (takes_file p);
        names = λ q. has.names q ∙ ap (λ (t : ℕ). cond (pointwise nat_eq q other) (Some (i, take_place fresh t i j name other time)) (name_at has.between q)) told.tail
            ∙ ap (λ (o : Option (ℕ × ℕ)). cond (pointwise nat_eq q other) (Some (i, third_place)) o) (has.lost q ∙ ap (λ (o : Option (ℕ × ℕ)). cond (pointwise nat_eq q name) None o) (told.names q))
            ∙ sym (taken_names l h of_kind i j name other good good_there good_other first_place second_place third_place time end pages q);
      }
