use Rattle.std.proofs.Common.{ℕ, List, ◌++◌, ◌∙◌, ap, length, append_assoc}
use Rattle.byteorder.specs.Endian.{little_bytes}
use Rattle.nova_c.specs.Told.{line_bytes}
use Rattle.nova_c.proofs.listing.push_name.Goals as goal

pub returns : goal.returns
unfolding line_bytes
returns c =
    let old : List ℕ = c.args.out.now.items in
    let inode : List ℕ = little_bytes 8 c.args.named.now.inode in
    let name : List ℕ = c.args.named.now.name.now in
    let count : List ℕ = little_bytes 8 (length name) in
    c.in_ok-extend_from_slice.ensures.items
    ∙ ap (λ (l : List ℕ). l ++ name) (c.in_ok-push_word-2.ensures ∙ ap (λ (l : List ℕ). l ++ count) c.in_ok-push_word.ensures ∙ append_assoc old inode count)
    ∙ append_assoc old (inode ++ count) name
