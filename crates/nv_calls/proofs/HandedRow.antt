-- A name that goes from a directory's log, and one that comes for the same inode or another: what the two entries make of the log, by
-- the row that stands for it.
use Rattle.std.proofs.Common.{◌≡◌, ℕ, ◌+◌, ◌%◌, cond, nat_eq, List, [], ◌∷◌, ◌++◌, length, take, take_all, ap, sym, ◌∙◌, arith, Option, Some, None}
use Rattle.std.specs.Cmp.Lexicographic.{pointwise}
use Rattle.nv_super.specs.declared.kind.Kind.TheVariants.{Directory}
use Rattle.nv_super.specs.Layout.{Layout}
use Rattle.nv_entry.specs.declared.entry.Entry.{Entry}
use Rattle.nv_entry.specs.declared.entry.Entry.TheVariants.{Name}
use Rattle.nv_entry.specs.declared.entry.Operation.TheVariants.{Add, Remove}
use Rattle.nv_entry.specs.Spelling.{entry_length}
use Rattle.nv_logpage.specs.Append.{end_of, needed, pages_after, place_of}
use Rattle.nv_names.specs.Names.{name_at}
use Rattle.nv_scan.specs.declared.piece.Row.{Row}
use Rattle.nv_mounted.specs.Held.{Held}
use Rattle.nv_mounted.specs.Grows.{SameFile}
use Rattle.nv_mounted.specs.Mounted.{KeepsRow}
use Rattle.nv_graph.specs.Step.{IsGoodName}
use Rattle.nv_commit.specs.Extends.{extended}
use Rattle.nv_steps.specs.Moves.{HasMoved}
use Rattle.nv_calls.proofs.MovedEntries.{moved_file, moved_names, moved_numbers}

module _ (l : Layout) (i j : ℕ) (name other : List ℕ) (time : ℕ) (more : List ℕ) {k : Held} {row : Row} (told : KeepsRow l k row) (is_directory : row.kind ≡ Directory) (good : IsGoodName l.sup j name) (good_other : IsGoodName l.sup i other) where
  abbrev cut : Entry
  cut = Name (record { operation = Remove; inode = j; time = time; name = name })

  abbrev given : Entry
  given = Name (record { operation = Add; inode = i; time = time; name = other })

  abbrev entries : List Entry
  entries = cut ∷ given ∷ []

  -- where the two entries stand
  abbrev pub cut_place : ℕ
  cut_place = place_of more 0 k.tail cut

  abbrev behind : ℕ → ℕ
  behind tail = place_of more (pages_after 0 tail cut) (place_of more 0 tail cut + entry_length cut) given

  abbrev pub given_place : ℕ
  given_place = behind k.tail

  abbrev end : ℕ
  end = end_of more 0 k.tail entries

  abbrev pages : List ℕ
  pages = take (needed (k.tail % 4096) entries) more

  of_kind : k.kind ≡ Directory
  of_kind = sym told.kind ∙ is_directory

  pub handed_file : SameFile l k (extended k entries more)
  handed_file = moved_file l k of_kind j i name other good good_other cut_place given_place time end pages

  -- The row is of its log.
  pub handed_told : {new : Row} → length more ≡ needed (row.tail % 4096) entries → HasMoved row more (end_of more 0 row.tail entries) name other i (behind row.tail) time new → KeepsRow l (extended k entries more) new
  handed_told {new} count has =
      let enough : length more ≡ needed (k.tail % 4096) entries = count ∙ ap (λ (t : ℕ). needed (t % 4096) entries) told.tail in
      record {
        kind = has.kind ∙ told.kind;
        numbers = moved_numbers l k of_kind j i name other good good_other cut_place given_place time end pages row.numbers new.numbers told.numbers has.numbers;
        head = has.head ∙ told.head;
        tail = has.tail ∙ ap (λ (t : ℕ). end_of more 0 t entries) told.tail;
        pages = has.pages ∙ ap (λ (ps : List ℕ). ps ++ more) told.pages ∙ sym (ap (λ (ps : List ℕ). k.pages ++ ps) (take_all (needed (k.tail % 4096) entries) more (omega (arith, enough))));
        index = λ p. has.index p ∙ told.index p ∙ sym (handed_file p);
        names = λ q. has.names q ∙ ap (λ (t : ℕ). cond (pointwise nat_eq q other) (Some (i, behind t)) (name_at has.between q)) told.tail
            ∙ ap (λ (o : Option (ℕ × ℕ)). cond (pointwise nat_eq q other) (Some (i, given_place)) o) (has.lost q ∙ ap (λ (o : Option (ℕ × ℕ)). cond (pointwise nat_eq q name) None o) (told.names q))
            ∙ sym (moved_names l k of_kind j i name other good good_other cut_place given_place time end pages q);
      }
