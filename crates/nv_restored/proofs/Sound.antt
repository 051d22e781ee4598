-- Each tree of rows that a region shows without faults is one that an archive gives back.
use Rattle.std.proofs.Common.{◌≡◌, ◌≢◌, ℕ, ◌<◌, Bool, true, false, cond, not, ◌&&◌, ◌||◌, nat_eq, List, [], ◌∷◌, length, get_or, Option, Some, None, refl, sym, ◌∙◌, ap, subst, inl, inr, arith}
use Rattle.std.specs.Cmp.Lexicographic.{pointwise}
use Rattle.std.specs.List.{All, Contains, slice_get}
use Rattle.std.specs.Option.{option_and_then, option_map}
use Rattle.std.proofs.lemmas.List.Elements.{All-contains, All-filter, filter_passes}
use Rattle.std.proofs.lemmas.Option.{slice_get-get_or, slice_get_within}
use Rattle.nv_region.specs.Region.{Region}
use Rattle.nv_super.specs.Layout.{Layout, is_name_number}
use Rattle.nv_super.specs.declared.kind.Kind.{Kind}
use Rattle.nv_super.specs.declared.kind.Kind.TheVariants as inodes
use Rattle.nv_super.specs.declared.superblock.Super.{Super}
use Rattle.nv_super.proofs.Members.{none_in}
use Rattle.nv_super.proofs.Rising.{Contains-cons}
use Rattle.nv_super.proofs.Sorted.{same_keys}
use Rattle.nv_super.proofs.RisingPlaces.{one_place}
use Rattle.nv_super.specs.Order.{Rises}
use Rattle.nv_entry.specs.Content.{has_bad_byte, is_dots, is_good, is_wrong_kind}
use Rattle.nv_entry.specs.Spelling.{Stands}
use Rattle.nv_entry.specs.declared.entry.NameEntry.{NameEntry}
use Rattle.nv_entry.specs.declared.entry.Entry.{Entry}
use Rattle.nv_entry.specs.declared.entry.Entry.TheVariants.{NextPage, Write, Attr, Name, Links}
use Rattle.nv_logpage.specs.declared.found.Placed.{Placed}
use Rattle.nv_scan.specs.Inode.{Log, good_of}
use Rattle.nv_scan.specs.Rows.{HasRows, IsRow}
use Rattle.nv_scan.specs.State.{mode_in, name_in as entry_name, named_by, says_mode, says_name}
use Rattle.nv_scan.specs.declared.piece.Row.{Row}
use Rattle.nv_scan.proofs.Blocks.{last_word-all}
use Rattle.nv_names.specs.Names.{name_at}
use Rattle.nv_rows.specs.Rows.{row_of}
use Rattle.nv_graph.specs.Graph.{IsOfKind, NoCrossFaults, pair_key}
use Rattle.nv_graph.specs.Read.{graph_of}
use Rattle.nv_tree.specs.Path.{IsPathName}
use Rattle.nv_tree.specs.Tree.{Node, name_in}
use Rattle.nv_paths.specs.Seen.{node_of, tree_of}
use Rattle.nv_roundtrip.proofs.Shown.{IsThere, log_there, low_mode, name_behind, row_behind, row_there}
use Rattle.nv_restored.specs.Links.{IsOnce, LinksAreNames}
use Rattle.nv_restored.specs.Orderly.{IsOrderly}

-- ---- what entries say

mode_fits : (s : Super) (kind : Kind) (e : Entry) (v : ℕ) → is_good s kind e ≡ true → mode_in e ≡ Some v → v < 4096
mode_fits s kind NextPage v good is = absurd (cc)
mode_fits s kind (Write e) v good is = absurd (cc)
mode_fits s kind (Attr e) v good is = (let same : e.mode ≡ v = cc in omega (arith, low_mode s kind e good, same))
mode_fits s kind (Name e) v good is = absurd (cc)
mode_fits s kind (Links e) v good is = absurd (cc)

-- a name that stands for an inode is one that a path can say
abbrev IsSaid : List ℕ → Option (ℕ × ℕ) → Type 0
IsSaid name None = Unit {0}
IsSaid name (Some x) = IsPathName name

said_so : (name : List ℕ) (o : Option (ℕ × ℕ)) → IsPathName name → IsSaid name o
said_so name None good = tt
said_so name (Some x) good = good

neither : (a b c d : Bool) → (a && not (b || c || d)) ≡ true → (b ≡ false) × (c ≡ false)
neither false b c d is = absurd (cc)
neither true true c d is = absurd (cc)
neither true false true d is = absurd (cc)
neither true false false d is = (refl, refl)

good_name : (R : Region) (s : Super) (kind : Kind) (at : ℕ) (e : NameEntry) → Stands R at (Name e) → is_good s kind (Name e) ≡ true → IsPathName e.name
good_name R s kind at e stands good =
    let both = neither (not (is_wrong_kind (Name e) kind)) (has_bad_byte e.name) (is_dots e.name) (not (is_name_number s e.inode)) good in
    record { fits = stands.is_name; bytes = both.0; no_dots = both.1 }

name_said : (R : Region) (s : Super) (kind : Kind) (name : List ℕ) (at : ℕ) (e : Entry) (v : Option (ℕ × ℕ)) → Stands R at e → is_good s kind e ≡ true → entry_name name at e ≡ Some v → IsSaid name v
name_said R s kind name at NextPage v stands good is = absurd (cc)
name_said R s kind name at (Write e) v stands good is = absurd (cc)
name_said R s kind name at (Attr e) v stands good is = absurd (cc)
name_said R s kind name at (Name e) v stands good is = by_test (pointwise nat_eq name e.name) refl is where
  by_test : (b : Bool) → pointwise nat_eq name e.name ≡ b → cond b (Some (named_by at e.inode e.operation)) None ≡ Some v → IsSaid name v
  by_test true same is = said_so name v (subst IsPathName (sym (same_keys name e.name same)) (good_name R s kind at e stands good))
  by_test false other is = absurd (cc)
name_said R s kind name at (Links e) v stands good is = absurd (cc)

-- ---- a row

module _ (S : Region) (l : Layout) (a : ℕ) (log : Log) (row : Row) (is : IsRow S l a log row) where
  there : All (IsThere S) (good_of l log)
  there = All-filter (λ (x : Placed). is_good l.sup log.kind x.entry) (IsThere S) log.entries (log_there is.inode)

  fine : All (λ (x : Placed). is_good l.sup log.kind x.entry ≡ true) (good_of l log)
  fine = filter_passes (λ (x : Placed). is_good l.sup log.kind x.entry) log.entries

  row_mode : row.numbers.mode < 4096
  row_mode = subst (λ n. n < 4096) (sym is.numbers.mode) (last_word-all says_mode (λ v. v < 4096) 0 (good_of l log) (omega arith)
      (λ x v here says. mode_fits l.sup log.kind x.entry v (All-contains (λ (y : Placed). is_good l.sup log.kind y.entry ≡ true) (good_of l log) x fine here) says))

  row_names : (name : List ℕ) (i : ℕ) → option_map (λ (x : ℕ × ℕ). x.0) (name_at row.names name) ≡ Some i → IsPathName name
  row_names name i shows =
      let said : IsSaid name (name_at row.names name) = subst (λ (o : Option (ℕ × ℕ)). IsSaid name o) (sym (is.names name))
      (last_word-all (says_name name) (IsSaid name) None (good_of l log) tt
      (λ x v here says. name_said S l.sup log.kind name x.at x.entry v (All-contains (IsThere S) (good_of l log) x there here) (All-contains (λ (y : Placed). is_good l.sup log.kind y.entry ≡ true) (good_of l log) x fine here) says)) in
      by (name_at row.names name) shows said
    where
      by : (o : Option (ℕ × ℕ)) → option_map (λ (x : ℕ × ℕ). x.0) o ≡ Some i → IsSaid name o → IsPathName name
      by None is said = absurd (cc)
      by (Some x) is said = said

-- ---- names in the graph

-- what a list with at most one element holds is one
one_listed : {A : Type 0} (xs : List A) (x y : A) → length xs ≡ 1 → Contains xs x → Contains xs y → x ≡ y
one_listed [] x y one here there = absurd (none_in x here)
one_listed (z ∷ []) x y one here there = elim (Contains-cons z [] x here) [
  | inl w ↦ elim (Contains-cons z [] y there) [ inl v ↦ w ∙ sym v | inr v ↦ absurd (none_in y v) ]
  | inr w ↦ absurd (none_in x w)
]
one_listed (z ∷ w ∷ xs) x y one here there = absurd (omega (arith, one))

none_listed : {A : Type 0} (xs : List A) (x : A) → length xs ≡ 0 → Contains xs x → ⊥
none_listed [] x none here = none_in x here
none_listed (z ∷ xs) x none here = absurd (omega (arith, none))

-- no element of a rising list stands twice
rising_once : (key : ℕ × List ℕ → List ℕ) (xs : List (ℕ × List ℕ)) → Rises key xs → IsOnce xs
rising_once key xs rises j k x here there =
    let low = slice_get_within xs j x here in
    let high = slice_get_within xs k x there in
    one_place key xs j k x rises low high (ap key (sym (at j low here) ∙ at k high there))
  where
    at : (n : ℕ) → n < length xs → slice_get xs n ≡ Some x → x ≡ get_or xs n x
    at n below is = (let same : Some x ≡ Some (get_or xs n x) = sym is ∙ slice_get-get_or xs n x below in cc)

module _ (R : Region) (rows : List Row) (sound : NoCrossFaults (graph_of rows)) where
  pub in_graph : (d i : ℕ) (name : List ℕ) → name_in (tree_of R rows) d name ≡ Some i → (graph_of rows).name d name ≡ Some i
  in_graph d i name shows =
      let row = name_behind R rows d i name shows in
      ap (option_and_then (λ (r : Row). option_map (λ (x : ℕ × ℕ). x.0) (name_at r.names name))) row.1 ∙ row.2

  pub no_root_name : (d : ℕ) (name : List ℕ) → name_in (tree_of R rows) d name ≢ Some 1
  no_root_name d name shows =
      let names = sound.root_unnamed in
      none_listed names.0 (d, name) names.2 (names.1.all (d, name) (in_graph d 1 name shows))

  one_name : (d e i : ℕ) (name other : List ℕ) (node : Node) → tree_of R rows i ≡ Some node → node.kind ≡ inodes.Directory → name_in (tree_of R rows) d name ≡ Some i → name_in (tree_of R rows) e other ≡ Some i → (d ≡ e) × (name ≡ other)
  one_name d e i name other node shows kind here there =
      let row = row_behind R rows i node shows in
      let is : IsOfKind (graph_of rows) i inodes.Directory = (
        record { kind = row.0.kind; links = row.0.numbers.links },
        ap (option_map (λ (r : Row). record { kind = r.kind; links = r.numbers.links })) row.1,
        ap (λ (n : Node). n.kind) row.2 ∙ kind,
      ) in
      let differs : i ≢ 1 = λ same. no_root_name d name (here ∙ ap (λ (x : ℕ). Some x) same) in
      let names = sound.directories i is differs in
      let same = one_listed names.0 (d, name) (e, other) names.2 (names.1.all (d, name) (in_graph d i name here)) (names.1.all (e, other) (in_graph e i other there)) in
      (ap (λ (x : ℕ × List ℕ). x.0) same, ap (λ (x : ℕ × List ℕ). x.1) same)

  pub root_is : (node : Node) × (tree_of R rows 1 ≡ Some node) × (node.kind ≡ inodes.Directory)
  root_is =
      let r = sound.root in
      by (row_of rows 1) refl r.1
    where
      by : (o : Option Row) → row_of rows 1 ≡ o → option_map (λ (row : Row). record { kind = row.kind; links = row.numbers.links }) o ≡ Some sound.root.0 → (node : Node) × (tree_of R rows 1 ≡ Some node) × (node.kind ≡ inodes.Directory)
      by None is shows = absurd (cc)
      by (Some row) is shows =
          let same : record { kind = row.kind; links = row.numbers.links } ≡ sound.root.0 = cc in
          (node_of R row, ap (option_map (node_of R)) is, ap (λ n. n.kind) same ∙ sound.root.2)

  -- ---- link counts

  in_tree : (d i : ℕ) (name : List ℕ) → (graph_of rows).name d name ≡ Some i → name_in (tree_of R rows) d name ≡ Some i
  in_tree d i name shows = by (row_of rows d) shows
    where
      by : (o : Option Row) → option_and_then (λ (r : Row). option_map (λ (x : ℕ × ℕ). x.0) (name_at r.names name)) o ≡ Some i → option_and_then (λ (node : Node). node.names name) (option_map (node_of R) o) ≡ Some i
      by None is = is
      by (Some row) is = is

  pub links_are_names : LinksAreNames (tree_of R rows)
  links_are_names i node shows kind =
      let row = row_behind R rows i node shows in
      let names = sound.files i (record { kind = row.0.kind; links = row.0.numbers.links }) (ap (option_map (λ (r : Row). record { kind = r.kind; links = r.numbers.links })) row.1) (ap (λ (n : Node). n.kind) row.2 ∙ kind) in (
        names.0,
        record {
          once = rising_once pair_key names.0 names.1.rising;
          each = λ x here. in_tree x.0 i x.1 (names.1.each x here);
          all = λ x is. names.1.all x (in_graph x.0 i x.1 is);
        },
        names.2 ∙ ap (λ (n : Node). n.links) row.2,
      )

pub rows_are_orderly : (R S : Region) (l : Layout) (rows : List Row) → HasRows S l rows → NoCrossFaults (graph_of rows) → IsOrderly (tree_of R rows)
rows_are_orderly R S l rows are sound = record {
  root = root_is R rows sound;
  top = no_root_name R rows sound;
  single = one_name R rows sound;
  names = λ d i name shows.
      let row = name_behind R rows d i name shows in
      let each = are.each row.0 (row_there rows d row.0 row.1) in
      row_names S l each.0 each.1 row.0 each.2 name i row.2;
  modes = λ i node shows.
      let row = row_behind R rows i node shows in
      let each = are.each row.0 (row_there rows i row.0 row.1) in
      subst (λ (n : Node). n.mode < 4096) row.2 (row_mode S l each.0 each.1 row.0 each.2);
}
