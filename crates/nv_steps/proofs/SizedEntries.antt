-- Entries that write blocks and set a file's size: they are counted whole, name nothing, and nothing is wrong with them.
use Rattle.std.proofs.Common.{◌≡◌, ℕ, Bool, true, false, cond, not, ◌&&◌, List, [], ◌∷◌, ◌++◌, append_assoc, refl, ap, sym, ◌∙◌, subst, Option, Some, None, unwrap_or}
use Rattle.std.specs.List.{Contains}
use Rattle.std.proofs.lemmas.List.{append-nil}
use Rattle.std.proofs.lemmas.Option.{none-some}
use Rattle.nv_super.specs.declared.superblock.Super.{Super}
use Rattle.nv_super.specs.declared.kind.Kind.{Kind}
use Rattle.nv_super.specs.Layout.{Layout}
use Rattle.nv_super.proofs.Rising.{Contains-head, Contains-tail}
use Rattle.nv_entry.specs.declared.content.ContentFault.TheVariants.{OutOfRange, WrongKind}
use Rattle.nv_entry.specs.declared.entry.AttrEntry.{AttrEntry}
use Rattle.nv_entry.specs.declared.entry.Entry.{Entry}
use Rattle.nv_entry.specs.declared.entry.Entry.TheVariants.{NextPage, Write, Attr, Name, Links}
use Rattle.nv_entry.specs.Content.{content_fault, is_good, is_out_of_range, is_wrong_kind}
use Rattle.nv_logpage.specs.declared.found.Placed.{Placed}
use Rattle.nv_logpage.specs.Good.{good_entries}
use Rattle.nv_scan.specs.Fold.{entry_fault, fault_with, name_fault}
use Rattle.nv_scan.specs.LastWord.{last_word}
use Rattle.nv_scan.specs.State.{group_of, links_of, mode_of, named, owner_of, says_group, says_links, says_mode, says_name, says_owner, says_size, says_time, size_in, size_of, time_of}
use Rattle.nv_scan.specs.Rows.{AreNumbers}
use Rattle.nv_scan.specs.declared.numbers.Numbers.{Numbers}
use Rattle.nv_scan.proofs.Words.{good_entries-more, last_word-append, last_word-cons}
use Rattle.nv_mounted.specs.Held.{Held, Store, good_in}
use Rattle.nv_mounted.specs.Grows.{NoEntryFault, SameNames, grown}
use Rattle.nv_mounted.specs.Writes.{WritesData}
use Rattle.nv_mounted.proofs.Faultless.{clean_more}

-- good entries behind others count with them
pub good_more : (s : Super) (k : Kind) (es more : List Placed) → ((x : Placed) → Contains more x → is_good s k x.entry ≡ true) → good_entries s k (es ++ more) ≡ good_entries s k es ++ more
good_more s k es [] good = ap (good_entries s k) (append-nil es) ∙ sym (append-nil (good_entries s k es))
good_more s k es (x ∷ more) good =
    ap (good_entries s k) (sym (append_assoc es (x ∷ []) more))
    ∙ good_more s k (es ++ x ∷ []) more (λ y c. good y (Contains-tail x more y c))
    ∙ ap (λ (ys : List Placed). ys ++ more) (good_entries-more s k es x (good x (Contains-head x more)))
    ∙ append_assoc (good_entries s k es) (x ∷ []) more

-- an entry with a size names nothing and says no links
no_name : (q : List ℕ) (x : Placed) (size : ℕ) → says_size x ≡ Some size → says_name q x ≡ None
no_name q x size h = by x.entry h where
  by : (e : Entry) → size_in e ≡ Some size → says_name q (record x { entry = e }) ≡ None
  by (Write e) s = refl
  by (Attr e) s = refl
  by NextPage s = absurd (none-some size s)
  by (Name e) s = absurd (none-some size s)
  by (Links e) s = absurd (none-some size s)

no_links : (x : Placed) (size : ℕ) → says_size x ≡ Some size → says_links x ≡ None
no_links x size h = by x.entry h where
  by : (e : Entry) → size_in e ≡ Some size → says_links (record x { entry = e }) ≡ None
  by (Write e) s = refl
  by (Attr e) s = refl
  by NextPage s = absurd (none-some size s)
  by (Name e) s = absurd (none-some size s)
  by (Links e) s = absurd (none-some size s)

-- entries that say nothing on a subject leave its last word
unsaid : {V : Type 0} (says : Placed → Option V) (d : V) (xs : List Placed) → ((x : Placed) → Contains xs x → says x ≡ None) → last_word says d xs ≡ d
unsaid says d [] none = refl
unsaid {V} says d (x ∷ xs) none = last_word-cons says d x xs ∙ ap (λ (o : Option V). last_word says (unwrap_or o d) xs) (none x (Contains-head x xs)) ∙ unsaid says d xs (λ y c. none y (Contains-tail x xs y c))

-- ---- what is wrong with them

right_content : (s : Super) (k : Kind) (e : Entry) → is_good s k e ≡ true → content_fault s k e ≡ None
right_content s k e good = by (is_wrong_kind e k) (is_out_of_range s k e) good where
  by : (wrong out : Bool) → (not wrong && not out) ≡ true → cond wrong (Some WrongKind) (cond out (Some OutOfRange) None) ≡ None
  by true out h = absurd (cc)
  by false true h = absurd (cc)
  by false false h = refl

fits : (s : Super) (k : Kind) (i : ℕ) (known : List ℕ → Option (ℕ × ℕ)) (x : Placed) (size : ℕ) → is_good s k x.entry ≡ true → says_size x ≡ Some size → entry_fault s k i known x ≡ None
fits s k i known x size good h = ap (fault_with i known x) (right_content s k x.entry good) ∙ by x.entry h where
  by : (e : Entry) → size_in e ≡ Some size → name_fault i known x.at e ≡ None
  by (Write e) s = refl
  by (Attr e) s = refl
  by NextPage s = absurd (none-some size s)
  by (Name e) s = absurd (none-some size s)
  by (Links e) s = absurd (none-some size s)

clean_all : (s : Super) (k : Kind) (i size : ℕ) (es more : List Placed) → NoEntryFault s k i es → ((x : Placed) → Contains more x → is_good s k x.entry ≡ true) → ((x : Placed) → Contains more x → says_size x ≡ Some size) → NoEntryFault s k i (es ++ more)
clean_all s k i size es [] clean good sized = subst (λ (ys : List Placed). NoEntryFault s k i ys) (sym (append-nil es)) clean
clean_all s k i size es (x ∷ more) clean good sized =
    subst (λ (ys : List Placed). NoEntryFault s k i ys) (append_assoc es (x ∷ []) more)
    (clean_all s k i size (es ++ x ∷ []) more (clean_more s k i es x clean (fits s k i (named (good_entries s k es)) x size (good x (Contains-head x more)) (sized x (Contains-head x more))))
    (λ y c. good y (Contains-tail x more y c)) (λ y c. sized y (Contains-tail x more y c)))

-- the last word of each subject is the attributes'
pub record EndsWith (more : List Placed) (x : AttrEntry) : Type 0 where
  pub size : (d : ℕ) → last_word says_size d more ≡ x.size
  pub mode : (d : ℕ) → last_word says_mode d more ≡ x.mode
  pub owner : (d : ℕ) → last_word says_owner d more ≡ x.owner
  pub group : (d : ℕ) → last_word says_group d more ≡ x.group
  pub links : (d : ℕ) → last_word says_links d more ≡ d
  pub time : (d : ℕ) → last_word says_time d more ≡ x.time

-- ---- a log that grew by them

module _ (l : Layout) (held : Store) (h : Held) (tail : ℕ) (more : List Placed) (fresh : List ℕ) (size : ℕ) (w : WritesData l held h more fresh size) where
  pub good_now : good_in l (grown h tail more fresh) ≡ good_in l h ++ more
  good_now = good_more l.sup h.kind h.entries more w.good

  -- Names and link counts stay.
  pub data_names : SameNames l h (grown h tail more fresh)
  data_names = record {
    kind = refl;
    names = λ q. ap (λ (es : List Placed). named es q) good_now ∙ last_word-append (says_name q) None (good_in l h) more ∙ unsaid (says_name q) (named (good_in l h) q) more (λ x c. no_name q x size (w.sized x c));
    links = ap links_of good_now ∙ last_word-append says_links 1 (good_in l h) more ∙ unsaid says_links (links_of (good_in l h)) more (λ x c. no_links x size (w.sized x c));
  }

  pub data_clean : (i : ℕ) → NoEntryFault l.sup h.kind i h.entries → NoEntryFault l.sup h.kind i (h.entries ++ more)
  data_clean i clean = clean_all l.sup h.kind i size h.entries more clean w.good w.sized

  -- The numbers after them, where the last words are an attributes entry's.
  pub data_numbers : (x : AttrEntry) → EndsWith more x → (old now : Numbers) → AreNumbers h.created (good_in l h) old → now.size ≡ x.size → now.mode ≡ x.mode → now.owner ≡ x.owner → now.group ≡ x.group → now.links ≡ old.links → now.time ≡ x.time
      → AreNumbers h.created (good_in l (grown h tail more fresh)) now
  data_numbers x ends old now are size_is mode owner group links time = subst (λ (es : List Placed). AreNumbers h.created es now) (sym good_now) (record {
    size = size_is ∙ sym (last_word-append says_size 0 (good_in l h) more ∙ ends.size (size_of (good_in l h)));
    mode = mode ∙ sym (last_word-append says_mode 0 (good_in l h) more ∙ ends.mode (mode_of (good_in l h)));
    owner = owner ∙ sym (last_word-append says_owner 0 (good_in l h) more ∙ ends.owner (owner_of (good_in l h)));
    group = group ∙ sym (last_word-append says_group 0 (good_in l h) more ∙ ends.group (group_of (good_in l h)));
    links = links ∙ are.links ∙ sym (last_word-append says_links 1 (good_in l h) more ∙ ends.links (links_of (good_in l h)));
    time = time ∙ sym (last_word-append says_time h.created (good_in l h) more ∙ ends.time (time_of h.created (good_in l h)));
  })
