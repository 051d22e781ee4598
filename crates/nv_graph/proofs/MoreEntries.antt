-- What entries more make of a number's node and names.
use Rattle.std.proofs.Common.{◌≡◌, ℕ, ◌<◌, ◌≤◌, Bool, true, false, cond, nat_eq, Option, Some, None, List, [], ◌∷◌, ◌++◌, refl, ap, sym, ◌∙◌, append_assoc, append-nil, unwrap_or}
use Rattle.std.specs.List.{All, Contains}
use Rattle.std.specs.Option.{option_map}
use Rattle.std.specs.Cmp.Lexicographic.{pointwise}
use Rattle.std.proofs.lemmas.List.Elements.{All-contains}
use Rattle.nv_region.specs.Region.{Region}
use Rattle.nv_super.specs.declared.superblock.Super.{Super}
use Rattle.nv_super.specs.declared.kind.Kind.{Kind}
use Rattle.nv_super.specs.declared.kind.Kind.TheVariants.{File, Directory}
use Rattle.nv_super.specs.Layout.{Layout, most_links}
use Rattle.nv_super.proofs.Options.{some_is}
use Rattle.nv_super.proofs.Rising.{Contains-head, Contains-tail}
use Rattle.nv_entry.specs.Content.{is_good}
use Rattle.nv_entry.specs.declared.entry.AttrEntry.{AttrEntry}
use Rattle.nv_entry.specs.declared.entry.Entry.TheVariants as entries
use Rattle.nv_entry.specs.declared.entry.Operation.{Operation}
use Rattle.nv_entry.specs.declared.entry.Operation.TheVariants.{Add, Remove}
use Rattle.nv_logpage.specs.declared.found.Placed.{Placed}
use Rattle.nv_logpage.specs.Good.{good_entries}
use Rattle.nv_scan.specs.LastWord.{last_word}
use Rattle.nv_scan.specs.Fold.{word_after}
use Rattle.nv_scan.specs.State.{named, named_by, links_of, says_name, says_links}
use Rattle.nv_scan.specs.Inode.{Log, IsInode, good_of}
use Rattle.nv_scan.proofs.Words.{word-more}
use Rattle.nv_graph.specs.Graph.{Node}
use Rattle.nv_graph.specs.Step.{name_entry, links_entry, IsGoodName, Grows, IsQuiet}
use Rattle.nv_graph.proofs.Shown.{ShowsAt, node_of, inode_of, names_by, shows_by, log_shows, names_are}
use Rattle.nv_graph.proofs.GoodEntries.{good_name, good_links}

-- ---- entries that say nothing

-- an entry that says nothing leaves the last word
pub quiet_entry : {V : Type 0} (says : Placed → Option V) (d : V) (s : Super) (k : Kind) (es : List Placed) (x : Placed) → says x ≡ None → last_word says d (good_entries s k (es ++ x ∷ [])) ≡ last_word says d (good_entries s k es)
quiet_entry {V} says d s k es x none =
    word-more says d s k es x (is_good s k x.entry) refl
    ∙ ap (λ (o : Option V). word_after (is_good s k x.entry) o (last_word says d (good_entries s k es))) none
    ∙ stays (is_good s k x.entry) where
      stays : (good : Bool) → word_after good None (last_word says d (good_entries s k es)) ≡ last_word says d (good_entries s k es)
      stays true = refl
      stays false = refl

-- so it is with several
pub quiet_entries : {V : Type 0} (says : Placed → Option V) (d : V) (s : Super) (k : Kind) (es more : List Placed) → ((x : Placed) → Contains more x → says x ≡ None)
    → last_word says d (good_entries s k (es ++ more)) ≡ last_word says d (good_entries s k es)
quiet_entries says d s k es [] none = ap (λ (xs : List Placed). last_word says d (good_entries s k xs)) (append-nil es)
quiet_entries says d s k es (x ∷ more) none =
    ap (λ (xs : List Placed). last_word says d (good_entries s k xs)) (sym (append_assoc es (x ∷ []) more))
    ∙ quiet_entries says d s k (es ++ x ∷ []) more (λ y c. none y (Contains-tail x more y c))
    ∙ quiet_entry says d s k es x (none x (Contains-head x more))

-- ---- a name entry

-- what an entry makes of a name
abbrev pub target : Operation → ℕ → Option ℕ
target Add i = Some i
target Remove i = None

-- what one name entry more makes of the names
pub name_more : (s : Super) (es : List Placed) (at : ℕ) (operation : Operation) (i : ℕ) (name : List ℕ) (time : ℕ) → IsGoodName s i name → (q : List ℕ)
    → names_by (good_entries s Directory (es ++ name_entry at operation i name time ∷ [])) q ≡ cond (pointwise nat_eq q name) (target operation i) (names_by (good_entries s Directory es) q)
name_more s es at operation i name time good q =
    ap (option_map inode_of) (word-more (says_name q) None s Directory es (name_entry at operation i name time) true (good_name s at operation i name time good))
    ∙ said (pointwise nat_eq q name) operation where
      said : (t : Bool) (operation : Operation) → option_map inode_of (unwrap_or (cond t (Some (named_by at i operation)) None) (named (good_entries s Directory es) q))
          ≡ cond t (target operation i) (names_by (good_entries s Directory es) q)
      said true Add = refl
      said true Remove = refl
      said false operation = refl

-- it says nothing of links
pub links_kept : (s : Super) (k : Kind) (es : List Placed) (at : ℕ) (operation : Operation) (i : ℕ) (name : List ℕ) (time : ℕ) → links_of (good_entries s k (es ++ name_entry at operation i name time ∷ [])) ≡ links_of (good_entries s k es)
links_kept s k es at operation i name time = quiet_entry says_links 1 s k es (name_entry at operation i name time) refl

module _ {R S : Region} {l : Layout} {d : ℕ} {o : Option Node} {names : List ℕ → Option ℕ} (s : ShowsAt R l d o names) where
  -- entries more that say nothing of links
  grown_shows : {more : List Placed} → Grows R S l d more → ((n : Node) → o ≡ Some n → n.kind ≡ Directory) → (F : Option ℕ → List ℕ → Option ℕ)
      → ((k : Kind) (es : List Placed) → links_of (good_entries l.sup k (es ++ more)) ≡ links_of (good_entries l.sup k es))
      → ((es : List Placed) (q : List ℕ) → names_by (good_entries l.sup Directory (es ++ more)) q ≡ F (names_by (good_entries l.sup Directory es) q) q)
      → ShowsAt S l d o (λ q. F (names q) q)
  grown_shows {more} w dir F links says = shows_by (log_shows w.is) node after where
    was : o ≡ Some (node_of l w.old)
    was = s.node w.a w.old w.was

    directory : w.old.kind ≡ Directory
    directory = dir (node_of l w.old) was

    node : Some (node_of l w.new) ≡ o
    node =
        let e = w.kind in let f = w.entries in
        (λ k. Some (record { kind = e k; links = links_of (good_entries l.sup (e k) (f k)) }))
        ∙ ap (λ (m : ℕ). Some (record { kind = w.old.kind; links = m })) (links w.old.kind w.old.entries)
        ∙ sym was

    after : (q : List ℕ) → names_by (good_of l w.new) q ≡ F (names q) q
    after q =
        let e = w.kind ∙ directory in let f = w.entries in
        (λ k. names_by (good_entries l.sup (e k) (f k)) q)
        ∙ says w.old.entries q
        ∙ ap (λ (k : Kind). F (names_by (good_entries l.sup k w.old.entries) q) q) (sym directory)
        ∙ ap (λ (v : Option ℕ). F v q) (sym (names_are s w.was q))

  -- one name entry more
  pub name_shows : (at : ℕ) (operation : Operation) (i : ℕ) (name : List ℕ) (time : ℕ) → IsGoodName l.sup i name → ((n : Node) → o ≡ Some n → n.kind ≡ Directory)
      → Grows R S l d (name_entry at operation i name time ∷ []) → ShowsAt S l d o (λ q. cond (pointwise nat_eq q name) (target operation i) (names q))
  name_shows at operation i name time good dir w = grown_shows w dir (λ v q. cond (pointwise nat_eq q name) (target operation i) v)
      (λ k es. links_kept l.sup k es at operation i name time)
      (λ es q. name_more l.sup es at operation i name time good q)

  -- a name removed and one added
  pub move_shows : (at next i : ℕ) (name new : List ℕ) (time : ℕ) → IsGoodName l.sup i name → IsGoodName l.sup i new → ((n : Node) → o ≡ Some n → n.kind ≡ Directory)
      → Grows R S l d (name_entry at Remove i name time ∷ name_entry next Add i new time ∷ []) → ShowsAt S l d o (λ q. cond (pointwise nat_eq q new) (Some i) (cond (pointwise nat_eq q name) None (names q)))
  move_shows at next i name new time good good_new dir w = grown_shows w dir (λ v q. cond (pointwise nat_eq q new) (Some i) (cond (pointwise nat_eq q name) None v))
      (λ k es. ap (λ (xs : List Placed). links_of (good_entries l.sup k xs)) (split es) ∙ links_kept l.sup k (es ++ x ∷ []) next Add i new time ∙ links_kept l.sup k es at Remove i name time)
      (λ es q. ap (λ (xs : List Placed). names_by (good_entries l.sup Directory xs) q) (split es)
      ∙ name_more l.sup (es ++ x ∷ []) next Add i new time good_new q
      ∙ ap (cond (pointwise nat_eq q new) (Some i)) (name_more l.sup es at Remove i name time good q)) where
        x : Placed
        x = name_entry at Remove i name time

        y : Placed
        y = name_entry next Add i new time

        split : (es : List Placed) → es ++ x ∷ y ∷ [] ≡ (es ++ x ∷ []) ++ y ∷ []
        split es = sym (append_assoc es (x ∷ []) (y ∷ []))

-- ---- a links entry

pub links_shows : {R S : Region} {l : Layout} {i : ℕ} {n : Node} {names : List ℕ → Option ℕ} → ShowsAt R l i (Some n) names → n.kind ≡ File → (at count time : ℕ) → 0 < count → count ≤ most_links
    → Grows R S l i (links_entry at count time ∷ []) → ShowsAt S l i (Some (record { kind = n.kind; links = count })) names
links_shows {R} {S} {l} {i} {n} {names} s file at count time some few w = shows_by (log_shows w.is) node after where
  same : n ≡ node_of l w.old
  same = some_is n (node_of l w.old) (Some n) refl (s.node w.a w.old w.was)

  kind : w.old.kind ≡ n.kind
  kind = ap (λ (m : Node). m.kind) (sym same)

  x : Placed
  x = links_entry at count time

  node : Some (node_of l w.new) ≡ Some (record { kind = n.kind; links = count })
  node =
      let e = w.kind ∙ kind in let f = w.entries in
      (λ k. Some (record { kind = e k; links = links_of (good_entries l.sup (e k) (f k)) }))
      ∙ ap (λ (m : Kind). Some (record { kind = n.kind; links = links_of (good_entries l.sup m (w.old.entries ++ x ∷ [])) })) file
      ∙ ap (λ (m : ℕ). Some (record { kind = n.kind; links = m })) (word-more says_links 1 l.sup File w.old.entries x true (good_links l.sup at count time some few))

  after : (q : List ℕ) → names_by (good_of l w.new) q ≡ names q
  after q =
      let e = w.kind ∙ kind ∙ file in let f = w.entries in
      (λ k. names_by (good_entries l.sup (e k) (f k)) q)
      ∙ ap (option_map inode_of) (word-more (says_name q) None l.sup File w.old.entries x true (good_links l.sup at count time some few))
      ∙ ap (λ (k : Kind). names_by (good_entries l.sup k w.old.entries) q) (sym (kind ∙ file))
      ∙ sym (names_are s w.was q)

-- ---- attributes entries, and others that say nothing of names and links

-- a new log of one attributes entry
pub new_shows : {S : Region} {l : Layout} {i a : ℕ} {log : Log} (kind : Kind) (at : ℕ) (e : AttrEntry) → IsInode S l i a log → log.kind ≡ kind → log.entries ≡ record { at = at; entry = entries.Attr e } ∷ []
    → ShowsAt S l i (Some (record { kind = kind; links = 1 })) (λ name. None)
new_shows {S} {l} {i} {a} {log} kind at e is of_kind has = shows_by (log_shows is)
    ((λ k. Some (record { kind = of_kind k; links = links_of (good_entries l.sup (of_kind k) (has k)) }))
    ∙ ap (λ (m : ℕ). Some (record { kind = kind; links = m })) (quiet_entry says_links 1 l.sup kind [] x refl))
    (λ q. (λ k. names_by (good_entries l.sup (of_kind k) (has k)) q) ∙ ap (option_map inode_of) (quiet_entry (says_name q) None l.sup kind [] x refl)) where
      x : Placed
      x = record { at = at; entry = entries.Attr e }

-- entries more that say nothing of either
pub quiet_shows : {R S : Region} {l : Layout} {i : ℕ} {o : Option Node} {names : List ℕ → Option ℕ} (more : List Placed) → ShowsAt R l i o names → All IsQuiet more → Grows R S l i more → ShowsAt S l i o names
quiet_shows {R} {S} {l} {i} {o} {names} more s quiet w = shows_by (log_shows w.is) node after where
  node : Some (node_of l w.new) ≡ o
  node =
      let e = w.kind in let f = w.entries in
      (λ k. Some (record { kind = e k; links = links_of (good_entries l.sup (e k) (f k)) }))
      ∙ ap (λ (m : ℕ). Some (record { kind = w.old.kind; links = m }))
      (quiet_entries says_links 1 l.sup w.old.kind w.old.entries more (λ x c. (All-contains IsQuiet more x quiet c).links))
      ∙ sym (s.node w.a w.old w.was)

  after : (q : List ℕ) → names_by (good_of l w.new) q ≡ names q
  after q =
      let e = w.kind in let f = w.entries in
      (λ k. names_by (good_entries l.sup (e k) (f k)) q)
      ∙ ap (option_map inode_of) (quiet_entries (says_name q) None l.sup w.old.kind w.old.entries more (λ x c. (All-contains IsQuiet more x quiet c).name q))
      ∙ sym (names_are s w.was q)
