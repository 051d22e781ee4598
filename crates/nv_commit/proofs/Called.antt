-- Nothing is wrong with what is held once a call on two inodes is done.
use Rattle.std.proofs.Common.{◌≡◌, ◌≢◌, ℕ, ◌<◌, ◌≤◌, Bool, true, false, cond, List, [], ◌∷◌, ◌+◌, ◌-◌, append_assoc, refl, ap, sym, ◌∙◌, subst, Option, Some, None, arith}
use Rattle.std.specs.List.{Contains}
use Rattle.std.specs.Option.{option_map, option_and_then}
use Rattle.nv_super.specs.declared.superblock.Super.{Super}
use Rattle.nv_super.specs.declared.kind.Kind.{Kind}
use Rattle.nv_super.specs.declared.kind.Kind.TheVariants.{File, Directory}
use Rattle.nv_super.specs.declared.faults.Fault.{Fault}
use Rattle.nv_super.specs.declared.owners.Owner.{Owner}
use Rattle.nv_super.specs.Layout.{Layout, most_links}
use Rattle.nv_super.proofs.Options.{some_is}
use Rattle.nv_entry.specs.Content.{content_fault, is_attr_out_of_range}
use Rattle.nv_entry.specs.declared.content.ContentFault.TheVariants.{OutOfRange}
use Rattle.nv_entry.specs.declared.entry.AttrEntry.{AttrEntry}
use Rattle.nv_entry.specs.declared.entry.Operation.TheVariants.{Add, Remove}
use Rattle.nv_entry.specs.declared.entry.Entry.TheVariants as entries
use Rattle.nv_logpage.specs.declared.found.Placed.{Placed}
use Rattle.nv_logpage.specs.Reads.{placed}
use Rattle.nv_logpage.specs.Good.{good_entries}
use Rattle.nv_scan.specs.State.{named}
use Rattle.nv_scan.specs.Fold.{clash, entry_fault, fault_with}
use Rattle.nv_scan.proofs.Blocks.{in_range}
use Rattle.nv_scan.proofs.EntryFaults.{found-none}
use Rattle.nv_graph.specs.Graph.{Graph, IsOfKind, NoCrossFaults, passed, walked}
use Rattle.nv_graph.specs.Calls.{SameGraph, linked, made, removed, renamed, unlinked, with_name, with_node}
use Rattle.nv_graph.proofs.Changes.{directory_removed_sound, last_removed_sound, linked_sound, made_sound, unlinked_sound}
use Rattle.nv_graph.proofs.Renamed.{renamed_by_path}
use Rattle.nv_graph.proofs.Sound.{faultless, sound}
use Rattle.nv_graph.proofs.Root.{name_follows, node_follows, same_faultless}
use Rattle.nv_graph.specs.Step.{IsGoodName, links_entry, name_entry}
use Rattle.nv_graph.proofs.GoodEntries.{good_links}
use Rattle.nv_mounted.specs.Held.{Held, Store, good_in, with_inode}
use Rattle.nv_mounted.specs.Blocks.{IsOf, OwnsIn, OwnsNew, by_table, by_log, by_page}
use Rattle.nv_mounted.specs.Graph.{graph_in, node_in}
use Rattle.nv_mounted.specs.Grows.{FitsBehind, NoEntryFault, grown}
use Rattle.nv_mounted.specs.Mounted.{AreClean, IsFaultless}
use Rattle.nv_mounted.proofs.Faultless.{clean_more, still_clean}
use Rattle.nv_mounted.proofs.Graphs.{attributes_came, file_went, linked_to, moved, one_name, went}
use Rattle.nv_mounted.proofs.Owning.{other_held, same_held, still_undoubled}

-- ---- entries that fit

-- what is said of an entry in which nothing is out of range
sound_entry : (s : Super) (kind : Kind) (i : ℕ) (known : List ℕ → Option (ℕ × ℕ)) (x : Placed) → content_fault s kind x.entry ≡ None → entry_fault s kind i known x ≡ fault_with i known x None
sound_entry s kind i known x sound = ap (fault_with i known x) sound

attr_sound : (s : Super) (kind : Kind) (e : AttrEntry) → is_attr_out_of_range kind e ≡ false → content_fault s kind (entries.Attr e) ≡ None
attr_sound s File e right = ap (λ (b : Bool). cond b (Some OutOfRange) None) right
attr_sound s Directory e right = ap (λ (b : Bool). cond b (Some OutOfRange) None) right

-- an attributes entry in range
pub attr_fits : (s : Super) (kind : Kind) (i : ℕ) (es : List Placed) (at : ℕ) (e : AttrEntry) → is_attr_out_of_range kind e ≡ false → FitsBehind s kind i es (placed at (entries.Attr e))
attr_fits s kind i es at e right = sound_entry s kind i (named (good_entries s kind es)) (placed at (entries.Attr e)) (attr_sound s kind e right)

-- the inode and the place that a directory's log tells of a name
abbrev told_in : Layout → Held → List ℕ → Option (ℕ × ℕ)
told_in l h name = named (good_in l h) name

-- nothing, either way
pub either_none : {A : Type 0} (b : Bool) (o : Option A) → o ≡ None → cond b None o ≡ None
either_none true o e = refl
either_none false o e = e

first_none : (o : Option (ℕ × ℕ)) → option_map (λ (x : ℕ × ℕ). x.0) o ≡ None → o ≡ None
first_none None e = refl
first_none (Some x) e = absurd (cc)

-- where there is a first part, there are both
pub first_some : (o : Option (ℕ × ℕ)) (i : ℕ) → option_map (λ (x : ℕ × ℕ). x.0) o ≡ Some i → (x : ℕ × ℕ) × (o ≡ Some x)
first_some None i e = absurd (cc)
first_some (Some x) i e = (x, refl)

module _ (l : Layout) (held : Store) (d : ℕ) (h : Held) (is : held d ≡ Some h) where
  name_was : (q : List ℕ) → (graph_in l held).name d q ≡ option_map (λ (x : ℕ × ℕ). x.0) (told_in l h q)
  name_was q = ap (option_and_then (λ (g : Held). option_map (λ (x : ℕ × ℕ). x.0) (told_in l g q))) is

  module _ (directory : h.kind ≡ Directory) (at j : ℕ) (name : List ℕ) (time : ℕ) (good : IsGoodName l.sup j name) where
    name_sound : content_fault l.sup Directory (name_entry at Add j name time).entry ≡ None
    name_sound = ap (λ (b : Bool). cond b (Some OutOfRange) None) good

    removal_sound : content_fault l.sup Directory (name_entry at Remove j name time).entry ≡ None
    removal_sound = ap (λ (b : Bool). cond b (Some OutOfRange) None) good

    -- the entry that adds a name that the directory doesn't have
    pub add_fits : (graph_in l held).name d name ≡ None → FitsBehind l.sup h.kind d h.entries (name_entry at Add j name time)
    add_fits absent =
        let none : told_in l h name ≡ None = first_none (told_in l h name) (sym (name_was name) ∙ absent) in
        sound_entry l.sup h.kind d (told_in l h) (name_entry at Add j name time) (subst (λ (k : Kind). content_fault l.sup k (name_entry at Add j name time).entry ≡ None) (sym directory) name_sound)
        ∙ ap (clash Add d at) none

    -- the entry that removes one that it has
    pub removal_fits : (i : ℕ) → (graph_in l held).name d name ≡ Some i → FitsBehind l.sup h.kind d h.entries (name_entry at Remove j name time)
    removal_fits i there =
        let some = first_some (told_in l h name) i (sym (name_was name) ∙ there) in
        sound_entry l.sup h.kind d (told_in l h) (name_entry at Remove j name time) (subst (λ (k : Kind). content_fault l.sup k (name_entry at Remove j name time).entry ≡ None) (sym directory) removal_sound)
        ∙ ap (clash Remove d at) some.1

  -- a link count in range
  pub links_fit : h.kind ≡ File → (at count time : ℕ) → 0 < count → count ≤ most_links → FitsBehind l.sup h.kind d h.entries (links_entry at count time)
  links_fit file at count time some few =
      sound_entry l.sup h.kind d (told_in l h) (links_entry at count time)
      (subst (λ (k : Kind). content_fault l.sup k (links_entry at count time).entry ≡ None) (sym file)
      (ap (λ (b : Bool). cond b (Some OutOfRange) None) (in_range l.sup File (links_entry at count time).entry (good_links l.sup at count time some few))))

  -- one entry more brings no fault
  pub grown_clean : AreClean l held → (tail : ℕ) (x : Placed) (fresh : List ℕ) → FitsBehind l.sup h.kind d h.entries x → AreClean l (with_inode held d (Some (grown h tail (x ∷ []) fresh)))
  grown_clean clean tail x fresh fits = still_clean l held d (Some (grown h tail (x ∷ []) fresh))
      (λ new e. subst (λ (g : Held). NoEntryFault l.sup g.kind d g.entries) (some_is (grown h tail (x ∷ []) fresh) new (Some (grown h tail (x ∷ []) fresh)) refl e) (clean_more l.sup h.kind d h.entries x (λ f fault. clean d h f is fault) fits)) clean

-- what went brings none either
pub gone_clean : (l : Layout) (held : Store) (i : ℕ) → AreClean l held → AreClean l (with_inode held i None)
gone_clean l held i clean = still_clean l held i None (λ new e. absurd (cc)) clean

-- what went owns nothing
pub none_owns : (l : Layout) (held : Store) (i : ℕ) → OwnsNew l held i None
none_owns l held i = record { each = λ b o owns mine. absurd (nothing b o owns mine); once = λ b o other owns owns' mine mine'. absurd (nothing b o owns mine) } where
  empty : (j : ℕ) (h : Held) → with_inode held i None j ≡ Some h → j ≡ i → ⊥
  empty j h e same = let clash : None ≡ Some h = sym (same_held held i None) ∙ ap (with_inode held i None) (sym same) ∙ e in cc

  nothing : (b : ℕ) (o : Owner) → OwnsIn l (with_inode held i None) b o → IsOf i o → ⊥
  nothing b o (by_table has) mine = mine
  nothing b o (by_log {i = j} {h = h} e page) mine = empty j h e mine
  nothing b o (by_page {i = j} {h = h} e maps) mine = empty j h e mine

-- ---- two inodes that changed

module _ (l : Layout) (held : Store) (i : ℕ) (new : Held) (at : ℕ) (e : AttrEntry) (out : held i ≡ None) (one : new.entries ≡ placed at (entries.Attr e) ∷ []) (right : is_attr_out_of_range new.kind e ≡ false) where
  -- a new inode brings no fault
  pub begun_clean : AreClean l held → AreClean l (with_inode held i (Some new))
  begun_clean clean = still_clean l held i (Some new)
      (λ g same. subst (λ (x : Held). NoEntryFault l.sup x.kind i x.entries) (some_is new g (Some new) refl same)
      (subst (λ (es : List Placed). NoEntryFault l.sup new.kind i es) (sym one) (clean_more l.sup new.kind i [] (placed at (entries.Attr e)) (λ f fault. nothing f ((found-none l.sup new.kind i).all f fault)) (attr_fits l.sup new.kind i [] at e right)))) clean
    where
      nothing : (f : Fault) → Contains [] f → ⊥
      nothing f c = let below = c.1 in omega (arith, below)

-- a file with a name more or less, and a directory with one, together
module _ (l : Layout) (held : Store) (was : IsFaultless l held) (d : ℕ) (h : Held) (is : held d ≡ Some h) (directory : h.kind ≡ Directory) (i : ℕ) (name : List ℕ) (good : IsGoodName l.sup i name) (at time tail : ℕ) (fresh : List ℕ) where
  abbrev g : Graph
  g = graph_in l held

  -- a new inode and its name
  pub created_faultless : (new : Held) (place : ℕ) (e : AttrEntry) → held i ≡ None → new.entries ≡ placed place (entries.Attr e) ∷ [] → is_attr_out_of_range new.kind e ≡ false → g.name d name ≡ None
      → OwnsNew l held i (Some new) → OwnsNew l (with_inode held i (Some new)) d (Some (grown h tail (name_entry at Add i name time ∷ []) fresh))
      → IsFaultless l (with_inode (with_inode held i (Some new)) d (Some (grown h tail (name_entry at Add i name time ∷ []) fresh)))
  created_faultless new place e out one right absent first then = record {
    clean = grown_clean l mid d h there (begun_clean l held i new place e out one right was.clean) tail (name_entry at Add i name time) fresh (add_fits l mid d h there directory at i name time good (first_graph.name d name ∙ absent));
    undoubled = still_undoubled l mid d (Some (grown h tail (name_entry at Add i name time ∷ []) fresh)) then (still_undoubled l held i (Some new) first was.undoubled);
    named = same_faultless (made g new.kind d name i) (graph_in l (with_inode mid d (Some (grown h tail (name_entry at Add i name time ∷ []) fresh))))
        (name_follows (with_node g i (Some (record { kind = new.kind; links = 1 }))) (graph_in l mid) _ d name (Some i) first_graph (one_name l mid d h there directory tail fresh at Add i name time good))
        (faultless _ (made_sound g new.kind d name i (sound g was.named) (node_in l h, ap (option_map (node_in l)) is, directory) absent (ap (option_map (node_in l)) out)));
  } where
    mid : Store
    mid = with_inode held i (Some new)

    differ : d ≢ i
    differ same = let clash : Some h ≡ None = sym is ∙ ap held same ∙ out in cc

    there : mid d ≡ Some h
    there = other_held held i d (Some new) differ ∙ is

    first_graph : SameGraph (with_node g i (Some (record { kind = new.kind; links = 1 }))) (graph_in l mid)
    first_graph = attributes_came l held i new out place e one

  -- ---- the name and its inode less

  module _ (f : Held) (there : held i ≡ Some f) (named_there : g.name d name ≡ Some i) (own : OwnsNew l held d (Some (grown h tail (name_entry at Remove i name time ∷ []) fresh))) where
    abbrev less : Store
    less = with_inode held d (Some (grown h tail (name_entry at Remove i name time ∷ []) fresh))

    less_graph : SameGraph (with_name g d name None) (graph_in l less)
    less_graph = one_name l held d h is directory tail fresh at Remove i name time good

    gone_faultless : NoCrossFaults (removed g d name i) → SameGraph (removed g d name i) (graph_in l (with_inode less i None)) → IsFaultless l (with_inode less i None)
    gone_faultless right same = record {
      clean = gone_clean l less i (grown_clean l held d h is was.clean tail (name_entry at Remove i name time) fresh (removal_fits l held d h is directory at i name time good i named_there));
      undoubled = still_undoubled l less i None (none_owns l less i) (still_undoubled l held d (Some (grown h tail (name_entry at Remove i name time ∷ []) fresh)) own was.undoubled);
      named = same_faultless (removed g d name i) (graph_in l (with_inode less i None)) same right;
    }

    kept : i ≢ d → less i ≡ Some f
    kept differs = other_held held d i (Some (grown h tail (name_entry at Remove i name time ∷ []) fresh)) differs ∙ there

    -- a file with its last name
    pub file_gone_faultless : f.kind ≡ File → (node_in l f).links ≤ 1 → IsFaultless l (with_inode less i None)
    file_gone_faultless file last = gone_faultless
        (faultless _ (last_removed_sound g d name i (node_in l f) (sound g was.named) named_there (ap (option_map (node_in l)) there) file last))
        (node_follows (with_name g d name None) (graph_in l less) (graph_in l (with_inode less i None)) i None less_graph (file_went l less i f (kept differs) file))
      where
        differs : i ≢ d
        differs same = let one : f ≡ h = some_is f h (held i) there (ap held same ∙ is) in let clash : File ≡ Directory = sym file ∙ ap (λ (x : Held). x.kind) one ∙ directory in cc

    -- a directory without names
    pub directory_gone_faultless : f.kind ≡ Directory → ((q : List ℕ) → g.name i q ≡ None) → IsFaultless l (with_inode less i None)
    directory_gone_faultless is_one empty = gone_faultless
        (faultless _ (directory_removed_sound g d name i (sound g was.named) named_there (node_in l f, ap (option_map (node_in l)) there, is_one) empty))
        (node_follows (with_name g d name None) (graph_in l less) (graph_in l (with_inode less i None)) i None less_graph (went l less i f (kept differs) empty_still))
      where
        differs : i ≢ d
        differs same = let clash : None ≡ Some i = sym (empty name) ∙ ap (λ (k : ℕ). g.name k name) same ∙ named_there in cc

        empty_still : (q : List ℕ) → (graph_in l less).name i q ≡ None
        empty_still q = less_graph.name i q ∙ either_none _ (g.name i q) (empty q)

  -- ---- a file with a name more or less

  module _ (f : Held) (there : held i ≡ Some f) (file : f.kind ≡ File) (file_at file_tail : ℕ) (file_fresh : List ℕ) where
    abbrev links : ℕ
    links = (node_in l f).links

    file_node : g.node i ≡ Some (node_in l f)
    file_node = ap (option_map (node_in l)) there

    apart : i ≢ d
    apart same = let one : f ≡ h = some_is f h (held i) there (ap held same ∙ is) in let clash : File ≡ Directory = sym file ∙ ap (λ (x : Held). x.kind) one ∙ directory in cc

    abbrev more_links : Held
    more_links = grown f file_tail (links_entry file_at (links + 1) time ∷ []) file_fresh

    pub linked_faultless : links < most_links → g.name d name ≡ None → OwnsNew l held i (Some more_links) → OwnsNew l (with_inode held i (Some more_links)) d (Some (grown h tail (name_entry at Add i name time ∷ []) fresh))
        → IsFaultless l (with_inode (with_inode held i (Some more_links)) d (Some (grown h tail (name_entry at Add i name time ∷ []) fresh)))
    linked_faultless few absent first then = record {
      clean = grown_clean l mid d h dir_there (grown_clean l held i f there was.clean file_tail (links_entry file_at (links + 1) time) file_fresh (links_fit l held i f there file file_at (links + 1) time (omega arith) (omega (arith, few))))
          tail (name_entry at Add i name time) fresh (add_fits l mid d h dir_there directory at i name time good (first_graph.name d name ∙ absent));
      undoubled = still_undoubled l mid d (Some (grown h tail (name_entry at Add i name time ∷ []) fresh)) then (still_undoubled l held i (Some more_links) first was.undoubled);
      named = same_faultless (linked g d name i (node_in l f)) (graph_in l (with_inode mid d (Some (grown h tail (name_entry at Add i name time ∷ []) fresh))))
          (name_follows (with_node g i (Some (record { kind = f.kind; links = links + 1 }))) (graph_in l mid) _ d name (Some i) first_graph (one_name l mid d h dir_there directory tail fresh at Add i name time good))
          (faultless _ (linked_sound g d name i (node_in l f) (sound g was.named) (node_in l h, ap (option_map (node_in l)) is, directory) absent file_node file));
    } where
      mid : Store
      mid = with_inode held i (Some more_links)

      dir_there : mid d ≡ Some h
      dir_there = other_held held i d (Some more_links) (λ e. apart (sym e)) ∙ is

      first_graph : SameGraph (with_node g i (Some (record { kind = f.kind; links = links + 1 }))) (graph_in l mid)
      first_graph = linked_to l held i f there file file_tail file_fresh file_at (links + 1) time (omega arith) (omega (arith, few))

    abbrev less_links : Held
    less_links = grown f file_tail (links_entry file_at (links - 1) time ∷ []) file_fresh

    pub unlinked_faultless : 1 < links → links ≤ most_links → g.name d name ≡ Some i → OwnsNew l held d (Some (grown h tail (name_entry at Remove i name time ∷ []) fresh))
        → OwnsNew l (with_inode held d (Some (grown h tail (name_entry at Remove i name time ∷ []) fresh))) i (Some less_links)
        → IsFaultless l (with_inode (with_inode held d (Some (grown h tail (name_entry at Remove i name time ∷ []) fresh))) i (Some less_links))
    unlinked_faultless some few named_there first then = record {
      clean = grown_clean l mid i f file_there (grown_clean l held d h is was.clean tail (name_entry at Remove i name time) fresh (removal_fits l held d h is directory at i name time good i named_there))
          file_tail (links_entry file_at (links - 1) time) file_fresh (links_fit l mid i f file_there file file_at (links - 1) time (omega (arith, some)) (omega (arith, few)));
      undoubled = still_undoubled l mid i (Some less_links) then (still_undoubled l held d (Some (grown h tail (name_entry at Remove i name time ∷ []) fresh)) first was.undoubled);
      named = same_faultless (unlinked g d name i (node_in l f)) (graph_in l (with_inode mid i (Some less_links)))
          (node_follows (with_name g d name None) (graph_in l mid) _ i (Some (record { kind = f.kind; links = links - 1 })) (one_name l held d h is directory tail fresh at Remove i name time good)
          (linked_to l mid i f file_there file file_tail file_fresh file_at (links - 1) time (omega (arith, some)) (omega (arith, few))))
          (faultless _ (unlinked_sound g d name i (node_in l f) (sound g was.named) named_there file_node file some));
    } where
      mid : Store
      mid = with_inode held d (Some (grown h tail (name_entry at Remove i name time ∷ []) fresh))

      file_there : mid i ≡ Some f
      file_there = other_held held d i (Some (grown h tail (name_entry at Remove i name time ∷ []) fresh)) apart ∙ there

  -- ---- the name moved

  module _ (e : ℕ) (other : List ℕ) (good_other : IsGoodName l.sup i other) (path : List (List ℕ)) (named_there : g.name d name ≡ Some i) (leads : walked g 1 path ≡ Some e) (absent : g.name e other ≡ None)
      (outside : IsOfKind g i Directory → Contains (passed g 1 path) i → ⊥) where
    -- to another directory
    pub moved_faultless : (k : Held) → held e ≡ Some k → k.kind ≡ Directory → e ≢ d → (next end : ℕ) (pages : List ℕ) → OwnsNew l held d (Some (grown h tail (name_entry at Remove i name time ∷ []) fresh))
        → OwnsNew l (with_inode held d (Some (grown h tail (name_entry at Remove i name time ∷ []) fresh))) e (Some (grown k end (name_entry next Add i other time ∷ []) pages))
        → IsFaultless l (with_inode (with_inode held d (Some (grown h tail (name_entry at Remove i name time ∷ []) fresh))) e (Some (grown k end (name_entry next Add i other time ∷ []) pages)))
    moved_faultless k to to_directory apart next end pages first then = record {
      clean = grown_clean l mid e k to_there (grown_clean l held d h is was.clean tail (name_entry at Remove i name time) fresh (removal_fits l held d h is directory at i name time good i named_there))
          end (name_entry next Add i other time) pages (add_fits l mid e k to_there to_directory next i other time good_other (first_graph.name e other ∙ either_none _ (g.name e other) absent));
      undoubled = still_undoubled l mid e (Some (grown k end (name_entry next Add i other time ∷ []) pages)) then (still_undoubled l held d (Some (grown h tail (name_entry at Remove i name time ∷ []) fresh)) first was.undoubled);
      named = same_faultless (renamed g d name e other i) (graph_in l (with_inode mid e (Some (grown k end (name_entry next Add i other time ∷ []) pages))))
          (name_follows (with_name g d name None) (graph_in l mid) _ e other (Some i) first_graph (one_name l mid e k to_there to_directory end pages next Add i other time good_other))
          (faultless _ (renamed_by_path g d name path e other i (sound g was.named) named_there leads (node_in l k, ap (option_map (node_in l)) to, to_directory) absent outside));
    } where
      mid : Store
      mid = with_inode held d (Some (grown h tail (name_entry at Remove i name time ∷ []) fresh))

      to_there : mid e ≡ Some k
      to_there = other_held held d e (Some (grown h tail (name_entry at Remove i name time ∷ []) fresh)) apart ∙ to

      first_graph : SameGraph (with_name g d name None) (graph_in l mid)
      first_graph = one_name l held d h is directory tail fresh at Remove i name time good

    -- within one directory
    pub moved_here_faultless : e ≡ d → (next : ℕ) → OwnsNew l held d (Some (grown h tail (name_entry at Remove i name time ∷ name_entry next Add i other time ∷ []) fresh))
        → IsFaultless l (with_inode held d (Some (grown h tail (name_entry at Remove i name time ∷ name_entry next Add i other time ∷ []) fresh)))
    moved_here_faultless same next own = record {
      clean = still_clean l held d (Some both) (λ new z. subst (λ (x : Held). NoEntryFault l.sup x.kind d x.entries) (some_is both new (Some both) refl z) both_clean) was.clean;
      undoubled = still_undoubled l held d (Some both) own was.undoubled;
      named = same_faultless (renamed g d name d other i) (graph_in l (with_inode held d (Some both))) (moved l held d h is directory tail fresh at next i name other time good good_other)
          (faultless _ (renamed_by_path g d name path d other i (sound g was.named) named_there (leads ∙ ap Some same) (node_in l h, ap (option_map (node_in l)) is, directory) absent_here outside));
    } where
      both : Held
      both = grown h tail (name_entry at Remove i name time ∷ name_entry next Add i other time ∷ []) fresh

      once : Held
      once = grown h tail (name_entry at Remove i name time ∷ []) fresh

      mid : Store
      mid = with_inode held d (Some once)

      absent_here : g.name d other ≡ None
      absent_here = ap (λ (x : ℕ). g.name x other) (sym same) ∙ absent

      first_graph : SameGraph (with_name g d name None) (graph_in l mid)
      first_graph = one_name l held d h is directory tail fresh at Remove i name time good

      first_clean : AreClean l mid
      first_clean = grown_clean l held d h is was.clean tail (name_entry at Remove i name time) fresh (removal_fits l held d h is directory at i name time good i named_there)

      there : mid d ≡ Some once
      there = same_held held d (Some once)

      both_clean : NoEntryFault l.sup h.kind d both.entries
      both_clean = subst (λ (es : List Placed). NoEntryFault l.sup h.kind d es) (append_assoc h.entries (name_entry at Remove i name time ∷ []) (name_entry next Add i other time ∷ []))
          (clean_more l.sup h.kind d once.entries (name_entry next Add i other time) (λ fault wrong. first_clean d once fault there wrong)
          (add_fits l mid d once there directory next i other time good_other (first_graph.name d other ∙ either_none _ (g.name d other) absent_here)))
