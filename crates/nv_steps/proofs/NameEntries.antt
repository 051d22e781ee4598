-- A name entry behind a directory's log, and the log of a new inode: what each makes of a row.
use Rattle.std.proofs.Common.{◌≡◌, ℕ, ◌*◌, ◌%◌, Bool, true, false, cond, nat_eq, not, List, [], ◌∷◌, ◌++◌, refl, ap, sym, ◌∙◌, subst, arith, Option, Some, None, unwrap_or}
use Rattle.std.specs.Cmp.Lexicographic.{pointwise}
use Rattle.std.proofs.lemmas.List.Elements.{All-cons, All-nil}
use Rattle.nv_super.specs.declared.superblock.Super.{Super}
use Rattle.nv_super.specs.declared.kind.Kind.{Kind}
use Rattle.nv_super.specs.declared.kind.Kind.TheVariants.{Directory}
use Rattle.nv_super.specs.Layout.{Layout}
use Rattle.nv_entry.specs.declared.entry.AttrEntry.{AttrEntry}
use Rattle.nv_entry.specs.declared.entry.Operation.{Operation}
use Rattle.nv_entry.specs.declared.entry.Operation.TheVariants.{Add, Remove}
use Rattle.nv_entry.specs.declared.entry.Entry.TheVariants.{Attr}
use Rattle.nv_entry.specs.Content.{is_attr_out_of_range, is_good}
use Rattle.nv_logpage.specs.declared.found.Placed.{Placed}
use Rattle.nv_logpage.specs.Append.{place_of}
use Rattle.nv_logpage.specs.Reads.{placed}
use Rattle.nv_scan.specs.State.{named, says_group, says_links, says_mode, says_name, says_owner, says_size, says_time}
use Rattle.nv_scan.specs.declared.numbers.Numbers.{Numbers}
use Rattle.nv_scan.specs.Rows.{AreNumbers}
use Rattle.nv_scan.proofs.Blocks.{in_range}
use Rattle.nv_scan.proofs.Words.{good_entries-more, last_word-more}
use Rattle.nv_mounted.specs.Held.{Held, good_in}
use Rattle.nv_mounted.specs.Grows.{SameFile, grown}
use Rattle.nv_graph.specs.Step.{IsGoodName, name_entry}
use Rattle.nv_commit.specs.Pages.{MapsNothing, SaysNoPage}
use Rattle.nv_commit.proofs.BlocksOf.{attributes_map_nothing, same_file}
use Rattle.nv_steps.specs.NameEntries.{new_held}
use Rattle.nv_steps.proofs.AttrEntries.{attr_good}

-- ---- an entry of a name

entry_good : (s : Super) (kind : Kind) (o : Operation) (j : ℕ) (name : List ℕ) (time at : ℕ) → kind ≡ Directory → IsGoodName s j name → (let x = name_entry at o j name time in is_good s kind x.entry ≡ true)
entry_good s kind o j name time at directory good = subst (λ (k : Kind). is_good s k (name_entry at o j name time).entry ≡ true) (sym directory) (ap not good)

module _ (l : Layout) (h : Held) (directory : h.kind ≡ Directory) (o : Operation) (j : ℕ) (name : List ℕ) (good : IsGoodName l.sup j name) (at time tail : ℕ) (fresh : List ℕ) where
  abbrev x : Placed
  x = name_entry at o j name time

  abbrev new : Held
  new = grown h tail (x ∷ []) fresh

  pub grown_good : good_in l new ≡ good_in l h ++ x ∷ []
  grown_good = good_entries-more l.sup h.kind h.entries x (entry_good l.sup h.kind o j name time at directory good)

  -- the file's blocks stay
  pub name_file : SameFile l h new
  name_file = same_file l h tail (x ∷ []) fresh (All-cons SaysNoPage x [] (λ p. refl) (All-nil SaysNoPage))

  -- the time is that of the entry
  pub name_numbers : (old now : Numbers) → AreNumbers h.created (good_in l h) old → now ≡ record old { time = time } → AreNumbers h.created (good_in l new) now
  name_numbers old now are is = subst (λ (es : List Placed). AreNumbers h.created es now) (sym grown_good) (subst (λ (m : Numbers). AreNumbers h.created (good_in l h ++ x ∷ []) m) (sym is) (record {
    size = are.size ∙ sym (last_word-more says_size 0 (good_in l h) x);
    mode = are.mode ∙ sym (last_word-more says_mode 0 (good_in l h) x);
    owner = are.owner ∙ sym (last_word-more says_owner 0 (good_in l h) x);
    group = are.group ∙ sym (last_word-more says_group 0 (good_in l h) x);
    links = are.links ∙ sym (last_word-more says_links 1 (good_in l h) x);
    time = sym (last_word-more says_time h.created (good_in l h) x);
  }))

module _ (l : Layout) (h : Held) (directory : h.kind ≡ Directory) (j : ℕ) (name : List ℕ) (good : IsGoodName l.sup j name) (at time tail : ℕ) (fresh : List ℕ) where
  -- a name that is added is there, and the others are as before
  pub name_added : (q : List ℕ) → named (good_in l (grown h tail (name_entry at Add j name time ∷ []) fresh)) q ≡ cond (pointwise nat_eq q name) (Some (j, at)) (named (good_in l h) q)
  name_added q =
      ap (λ (es : List Placed). named es q) (grown_good l h directory Add j name good at time tail fresh)
      ∙ last_word-more (says_name q) None (good_in l h) (name_entry at Add j name time) ∙ by (pointwise nat_eq q name) (named (good_in l h) q)
    where
      by : (b : Bool) (o : Option (ℕ × ℕ)) → unwrap_or (cond {A = Option (Option (ℕ × ℕ))} b (Some (Some (j, at))) None) o ≡ cond b (Some (j, at)) o
      by true o = refl
      by false o = refl

  -- one that is removed isn't, and the others are as before
  pub name_lost : (q : List ℕ) → named (good_in l (grown h tail (name_entry at Remove j name time ∷ []) fresh)) q ≡ cond (pointwise nat_eq q name) None (named (good_in l h) q)
  name_lost q =
      ap (λ (es : List Placed). named es q) (grown_good l h directory Remove j name good at time tail fresh)
      ∙ last_word-more (says_name q) None (good_in l h) (name_entry at Remove j name time) ∙ by (pointwise nat_eq q name) (named (good_in l h) q)
    where
      by : (b : Bool) (o : Option (ℕ × ℕ)) → unwrap_or (cond {A = Option (Option (ℕ × ℕ))} b (Some None) None) o ≡ cond b None o
      by true o = refl
      by false o = refl

-- ---- a new log

abbrev pub first : ℕ → ℕ → AttrEntry
first mode time = record { mode = mode % 4096; size = 0; time = time; owner = 0; group = 0 }

pub first_good : (s : Super) (kind : Kind) (mode time : ℕ) → is_good s kind (Attr (first mode time)) ≡ true
first_good s kind mode time = attr_good s kind [] (first mode time) (omega arith) refl

-- its entry is in range
pub first_in_range : (s : Super) (kind : Kind) (mode time : ℕ) → is_attr_out_of_range kind (first mode time) ≡ false
first_in_range s kind mode time = in_range s kind (Attr (first mode time)) (first_good s kind mode time)

module _ (l : Layout) (kind : Kind) (mode time page : ℕ) where
  abbrev begun : Held
  begun = new_held kind mode time page

  abbrev pub at_page : ℕ
  at_page = place_of [] 0 (4096 * page) (Attr (first mode time))

  abbrev only : Placed
  only = placed at_page (Attr (first mode time))

  first_alone : good_in l begun ≡ only ∷ []
  first_alone = good_entries-more l.sup kind [] only (first_good l.sup kind mode time)

  pub new_maps_nothing : MapsNothing l begun
  new_maps_nothing = attributes_map_nothing l begun at_page (first mode time) refl

  pub new_numbers : AreNumbers time (good_in l begun) (record { size = 0; mode = mode % 4096; owner = 0; group = 0; links = 1; time = time })
  new_numbers = subst (λ (es : List Placed). AreNumbers time es (record { size = 0; mode = mode % 4096; owner = 0; group = 0; links = 1; time = time })) (sym first_alone) (record {
    size = sym (last_word-more says_size 0 [] only);
    mode = sym (last_word-more says_mode 0 [] only);
    owner = sym (last_word-more says_owner 0 [] only);
    group = sym (last_word-more says_group 0 [] only);
    links = sym (last_word-more says_links 1 [] only);
    time = sym (last_word-more says_time time [] only);
  })

  pub new_names : (q : List ℕ) → named (good_in l begun) q ≡ None
  new_names q = ap (λ (es : List Placed). named es q) first_alone ∙ last_word-more (says_name q) None [] only
