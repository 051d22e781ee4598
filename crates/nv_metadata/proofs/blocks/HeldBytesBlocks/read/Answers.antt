use Rattle.std.proofs.Common.{◌≡◌, ℕ, List, length, take, drop, ap, ◌∙◌, subst, arith}
use Rattle.std.proofs.lemmas.Option.{same_Some}
use Rattle.nv_metadata.specs.Blocks.{AreBytesAt}
use Rattle.nv_metadata.proofs.blocks.HeldBytesBlocks.read.Goals as goal

pub returns-clause-read : goal.returns-clause-read
returns-clause-read c image known =
    let held : c.self.inside.bytes.now ≡ image = c.self.view_is ∙ same_Some c.args.self.now image known in
    let copied = c.copy_from_slice.ensures in
    subst (λ (l : List ℕ). AreBytesAt l c.args.at c.copy_from_slice.new.self) held (record {
      within = omega (arith, copied.len, c.if-at-length.false, c.if-count-length.false);
      same = copied.after ∙ ap (λ (n : ℕ). take n (drop c.args.at c.self.inside.bytes.now)) (omega (arith, copied.len));
    })

pub returns-then-at-length-clause-known : goal.returns-then-at-length-clause-known
returns-then-at-length-clause-known c image known within =
    let held : c.self.inside.bytes.now ≡ image = c.self.view_is ∙ same_Some c.args.self.now image known in
    absurd (let long = ap length held in omega (arith, long, within, c.if-at-length.true))

pub returns-then-count-length-clause-known : goal.returns-then-count-length-clause-known
returns-then-count-length-clause-known c image known within =
    let held : c.self.inside.bytes.now ≡ image = c.self.view_is ∙ same_Some c.args.self.now image known in
    absurd (let long = ap length held in omega (arith, long, within, c.if-at-length.false, c.if-count-length.true))
