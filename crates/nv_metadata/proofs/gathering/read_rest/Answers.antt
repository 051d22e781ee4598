use Rattle.std.proofs.Common.{◌≡◌, ◌∙◌, ◌*◌, List, ℕ, length, take, ap, sym, subst, arith}
use Rattle.std.proofs.lemmas.List.{take_at}
use Rattle.nv_metadata.specs.Blocks.{AreBytesAt}
use Rattle.nv_metadata.proofs.Shown.{first_of_more}
use Rattle.nv_metadata.proofs.gathering.read_rest.Goals as goal

pub returns-clause-begins : goal.returns-clause-begins
returns-clause-begins g c =
    let lent = c.deref_mut.ensures.value in
    let back = take_at c.read_behind.new.front _ c.resize.new.self.len (omega (arith, c.read_behind.ensures.as_long, ap length lent, c.resize.new.self.ok)) in
    let copied : c.in_ok-front.front.items ≡ c.args.first.items = c.in_ok-front.ensures ∙ c.deref.ensures.value in
    let first : take 4096 c.deref_mut.result.now ≡ c.args.first.items = first_of_more c.in_ok-front.front.items _ c.deref_mut.result.now (c.args.blocks * 4096) (lent ∙ c.in_ok-resize.ensures.items) (ap length copied ∙ c.requires.first) (let some = c.requires.some in omega (arith, some)) ∙ copied in
    ap (take 4096) back ∙ c.read_behind.ensures.begins ∙ first

pub returns-clause-read : goal.returns-clause-read
returns-clause-read g c image known begins =
    let lent = c.deref_mut.ensures.value in
    let back = take_at c.read_behind.new.front _ c.resize.new.self.len (omega (arith, c.read_behind.ensures.as_long, ap length lent, c.resize.new.self.ok)) in
    let copied : c.in_ok-front.front.items ≡ c.args.first.items = c.in_ok-front.ensures ∙ c.deref.ensures.value in
    let first : take 4096 c.deref_mut.result.now ≡ c.args.first.items = first_of_more c.in_ok-front.front.items _ c.deref_mut.result.now (c.args.blocks * 4096) (lent ∙ c.in_ok-resize.ensures.items) (ap length copied ∙ c.requires.first) (let some = c.requires.some in omega (arith, some)) ∙ copied in
    subst (λ (l : List ℕ). AreBytesAt image 0 l) (sym back) (c.in_ok-read_behind.ensures.read image known (subst (λ (l : List ℕ). AreBytesAt image 0 l) (sym first) begins))
