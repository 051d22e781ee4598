-- A file that its inode's number names, written in pieces: what was written so far is a front of its bytes.
use Rattle.std.proofs.Common.{◌≡◌, ◌≤◌, ◌+◌, ℕ, List, ◌++◌, map, Option, Some, inr, refl, sym, ap, subst, ◌∙◌, arith}
use Rattle.std.specs.Io.KnownBytes.{Appends}
use Rattle.std.specs.List.{range_with_len}
use Rattle.nv_tree.specs.Tree.{Tree, Node}
use Rattle.nv_tree.specs.Calls.{bytes_read}
use Rattle.nv_calls.specs.ByNumber.{IsInodeRead}
use Rattle.nv_stream.specs.Streams.{AppendsFront}
use Rattle.nv_stream.proofs.StreamLemmas.{appends_both, appends_front, front_of_whole}
use Rattle.nv_looks.specs.LookingByNumber.{IsInodeSized, IsWholeInode, WritesInode, FailsInode}
use Rattle.nv_tar.proofs.FileFronts.{first_bytes, front_of_node, joins, all_bytes, a_piece}
use Rattle.nv_stream.specs.declared.fault.ScriptError.TheVariants as errors

one_node : (t : Tree) (i : ℕ) (a b : Node) → t i ≡ Some a → t i ≡ Some b → a ≡ b
one_node t i a b p q = cc

module _ (t : Tree) (i size : ℕ) (s : IsInodeSized t i size) where
  abbrev node : Node
  node = s.0

  read_piece : (at count : ℕ) (piece : List ℕ) → IsInodeRead t i at count piece → at + count ≤ size → piece ≡ map node.bytes (range_with_len at count)
  read_piece at count piece read within =
      let of : piece ≡ bytes_read at count node = rw (← one_node t i read.0 node read.1 s.1) read.2 in
      of ∙ a_piece node at count (let is = s.2 in omega arith)

  whole : IsWholeInode t i (bytes_read 0 node.size node)
  whole = (node, s.1, refl)

  module _ (old now : Option (List ℕ)) (at : ℕ) (within : at ≤ size) (so_far : Appends old now (first_bytes node at)) where
    pub fails_between : FailsInode t i errors.Memory old now
    fails_between = inr (bytes_read 0 node.size node, whole, front_of_node node size s.2 old now at within (front_of_whole old now (first_bytes node at) so_far))

    pub ends_file : size ≤ at → WritesInode t i old now
    ends_file behind =
        let same : at ≡ node.size = (let is = s.2 in omega arith) in
        (bytes_read 0 node.size node, whole, subst (λ (xs : List ℕ). Appends old now xs) (sym (all_bytes node)) (subst (λ (k : ℕ). Appends old now (first_bytes node k)) same so_far))

    module _ (count : ℕ) (piece : List ℕ) (read : IsInodeRead t i at count piece) (room : at + count ≤ size) (then : Option (List ℕ)) where
      pub piece_more : Appends now then piece → Appends old then (first_bytes node (at + count))
      piece_more added =
          let is = read_piece at count piece read room in
          subst (λ (xs : List ℕ). Appends old then xs) (sym (joins node.bytes at count))
          (appends_both old now then (first_bytes node at) (map node.bytes (range_with_len at count)) so_far (rw is at added))

      pub fails_inside : AppendsFront now then piece → FailsInode t i errors.Write old then
      fails_inside added =
          let is = read_piece at count piece read room in
          let front : AppendsFront old then (first_bytes node (at + count)) =
          subst (λ (xs : List ℕ). AppendsFront old then xs) (sym (joins node.bytes at count))
          (appends_front old now then (first_bytes node at) (map node.bytes (range_with_len at count)) so_far (rw is at added)) in
          (bytes_read 0 node.size node, whole, front_of_node node size s.2 old then (at + count) room front)
