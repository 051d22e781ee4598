-- A region that was just formatted shows an empty tree.
use Rattle.std.proofs.Common.{◌≡◌, ◌≢◌, ℕ, ◌==◌, if◌then◌else◌, List, Option, Some, None, refl, sym, ◌∙◌, ap, inl, inr}
use Rattle.std.specs.Option.{option_and_then, option_map}
use Rattle.std.proofs.lemmas.Bool.{cases_eq}
use Rattle.nv_region.specs.Region.{Region, word}
use Rattle.nv_super.specs.Layout.{fixed_layout, slot_of}
use Rattle.nv_super.specs.declared.kind.Kind.{Kind}
use Rattle.nv_super.specs.declared.kind.Kind.TheVariants as inodes
use Rattle.nv_super.specs.declared.superblock.Super.{Super}
use Rattle.nv_super.proofs.Slots.{slot_is}
use Rattle.nv_inode.specs.Slot.{kind_at, kind_of, slot_at}
use Rattle.nv_inode.specs.declared.slot.Slot.{Slot}
use Rattle.nv_format.specs.Format.{IsFormatted}
use Rattle.nv_scan.specs.Inode.{IsInode, Log, right, wrong}
use Rattle.nv_scan.specs.Rows.{HasRows, IsRow}
use Rattle.nv_scan.specs.declared.piece.Row.{Row}
use Rattle.nv_rows.specs.Rows.{row_of}
use Rattle.nv_rows.proofs.Places.{numbered}
use Rattle.nv_graph.specs.Graph.{NoCrossFaults, Node as GraphNode}
use Rattle.nv_graph.specs.Read.{graph_of}
use Rattle.nv_outcome.proofs.Tickets.{slot_number}
use Rattle.nv_tree.specs.Tree.{Node, name_in}
use Rattle.nv_paths.specs.Seen.{node_of, tree_of}
use Rattle.nv_roundtrip.proofs.Shown.{row_there}
use Rattle.nv_restored.specs.Orderly.{IsEmpty}
use Rattle.nv_restored.proofs.Sound.{in_graph, no_root_name, root_is}

no_kind : (slot : Slot) → slot.valid ≡ 0 → kind_of slot ≡ None
no_kind slot unused = ap (λ (n : ℕ). if n == 1 then (if slot.kind == 1 then Some inodes.File else if slot.kind == 2 then Some inodes.Directory else None) else None) unused

module _ (old R : Region) (s : Super) (time : ℕ) (formatted : IsFormatted old R s time) (rows : List Row) (are : HasRows R (fixed_layout s) rows) where
  -- no slot but the root's is in use
  slot_one : (i a : ℕ) (kind : Kind) → slot_of (fixed_layout s) i ≡ Some a → kind_at R a ≡ Some kind → i ≡ 1
  slot_one i a kind at is = elim (cases_eq i 1) [
    | inl same ↦ same
    | inr differs ↦ absurd (
        let unused : word R a ≡ 0 = ap (word R) (slot_is s i a at).is ∙ formatted.unused i (slot_number s i a formatted.layout at).1 differs in
        let never : None ≡ Some kind = sym (no_kind (slot_at R a) unused) ∙ is in
        cc)
  ]

  inode_one : (i a : ℕ) (log : Log) → IsInode R (fixed_layout s) i a log → i ≡ 1
  inode_one i a log (right at kind is read) = slot_one i a log.kind at kind
  inode_one i a log (wrong at kind is) = slot_one i a _ at kind

  row_one : (i : ℕ) (row : Row) → row_of rows i ≡ Some row → i ≡ 1
  row_one i row at =
      let each = are.each row (row_there rows i row at) in
      sym (numbered rows i row at) ∙ inode_one row.inode each.0 each.1 each.2.inode

  used_one : (j : ℕ) (n : GraphNode) → (graph_of rows).node j ≡ Some n → j ≡ 1
  used_one j n = by (row_of rows j) refl
    where
      by : (o : Option Row) → row_of rows j ≡ o → option_map (λ (r : Row). record { kind = r.kind; links = r.numbers.links }) o ≡ Some n → j ≡ 1
      by None at is = absurd (cc)
      by (Some row) at is = row_one j row at

  pub formatted_is_empty : (shown : Region) → NoCrossFaults (graph_of rows) → IsEmpty (tree_of shown rows)
  formatted_is_empty shown sound =
      let root = root_is shown rows sound in
      record { root = (root.0, root.1, root.2, λ name. unnamed root.0 root.1 name (root.0.names name) refl); alone = λ i differs. none i differs (row_of rows i) refl }
    where
      none : (i : ℕ) → i ≢ 1 → (o : Option Row) → row_of rows i ≡ o → option_map (node_of shown) o ≡ None
      none i differs None at = refl
      none i differs (Some row) at = absurd (differs (row_one i row at))

      unnamed : (node : Node) → tree_of shown rows 1 ≡ Some node → (name : List ℕ) (o : Option ℕ) → node.names name ≡ o → o ≡ None
      unnamed node shows name None is = refl
      unnamed node shows name (Some j) is =
          let named : name_in (tree_of shown rows) 1 name ≡ Some j = ap (option_and_then (λ (n : Node). n.names name)) shows ∙ is in
          let there = sound.in_use 1 name j (in_graph shown rows sound 1 j name named) in
          absurd (no_root_name shown rows sound 1 name (named ∙ ap (λ (x : ℕ). Some x) (used_one j there.0 there.1)))
