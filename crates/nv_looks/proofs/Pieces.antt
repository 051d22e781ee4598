-- A file that is written in pieces: what was written so far is a front of its bytes.
use Rattle.std.proofs.Common.{◌≡◌, ◌≤◌, ◌+◌, ℕ, List, map, Option, Some, inr, refl, sym, subst, ◌∙◌, arith}
use Rattle.std.specs.Io.KnownBytes.{Appends}
use Rattle.std.specs.List.{range_with_len}
use Rattle.nv_tree.specs.Tree.{Tree, Node}
use Rattle.nv_tree.specs.Calls.{bytes_read}
use Rattle.nv_paths.specs.Seen.{LeadsTo}
use Rattle.nv_calls.specs.Reading.{IsRead}
use Rattle.nv_session.proofs.FileParts.{one_node}
use Rattle.nv_stream.specs.Streams.{AppendsFront}
use Rattle.nv_stream.proofs.StreamLemmas.{appends_none, appends_both, appends_front, front_of_whole}
use Rattle.nv_tar.proofs.FileFronts.{a_piece, all_bytes, first_bytes, front_of_node, joins}
use Rattle.nv_looks.specs.Looking.{IsSized, IsWholeFile, WritesFile, FailsFile}
use Rattle.nv_stream.specs.declared.fault.ScriptError.TheVariants as errors

module _ (t : Tree) (names : List (List ℕ)) (size : ℕ) (s : IsSized t names size) where
  read_piece : (at count : ℕ) (piece : List ℕ) → IsRead t names at count piece → at + count ≤ size → piece ≡ map s.node.bytes (range_with_len at count)
  read_piece at count piece read within =
      let same : read.node ≡ s.node = one_node t names read.inode s.inode read.node s.node read.leads s.leads in
      let of : piece ≡ bytes_read at count s.node = rw (← same) read.is in
      of ∙ a_piece s.node at count (let is = s.is in omega arith)

  whole : IsWholeFile t names (bytes_read 0 s.node.size s.node)
  whole = record { inode = s.inode; node = s.node; leads = s.leads; is = refl }

  -- the first bytes are a front of all
  front_of_file : (old now : Option (List ℕ)) (at : ℕ) → at ≤ size → AppendsFront old now (first_bytes s.node at) → AppendsFront old now (bytes_read 0 s.node.size s.node)
  front_of_file old now at within added = front_of_node s.node size s.is old now at within added

  -- nothing yet
  pub none_yet : (old : Option (List ℕ)) → Appends old old (first_bytes s.node 0)
  none_yet old = appends_none old

  module _ (old now : Option (List ℕ)) (at : ℕ) (within : at ≤ size) (so_far : Appends old now (first_bytes s.node at)) where
    pub fails_between : FailsFile t names errors.Memory old now
    fails_between = inr (bytes_read 0 s.node.size s.node, whole, front_of_file old now at within (front_of_whole old now (first_bytes s.node at) so_far))

    pub ends_file : size ≤ at → WritesFile t names old now
    ends_file behind =
        let same : at ≡ s.node.size = (let is = s.is in omega arith) in
        (bytes_read 0 s.node.size s.node, whole, subst (λ (xs : List ℕ). Appends old now xs) (sym (all_bytes s.node)) (subst (λ (k : ℕ). Appends old now (first_bytes s.node k)) same so_far))

    module _ (count : ℕ) (piece : List ℕ) (read : IsRead t names at count piece) (room : at + count ≤ size) (then : Option (List ℕ)) where
      pub piece_more : Appends now then piece → Appends old then (first_bytes s.node (at + count))
      piece_more added =
          let is = read_piece at count piece read room in
          subst (λ (xs : List ℕ). Appends old then xs) (sym (joins s.node.bytes at count)) (appends_both old now then (first_bytes s.node at) (map s.node.bytes (range_with_len at count)) so_far (rw is at added))

      pub fails_inside : AppendsFront now then piece → FailsFile t names errors.Write old then
      fails_inside added =
          let is = read_piece at count piece read room in
          let front : AppendsFront old then (first_bytes s.node (at + count)) =
          subst (λ (xs : List ℕ). AppendsFront old then xs) (sym (joins s.node.bytes at count)) (appends_front old now then (first_bytes s.node at) (map s.node.bytes (range_with_len at count)) so_far (rw is at added)) in
          (bytes_read 0 s.node.size s.node, whole, front_of_file old then (at + count) room front)
