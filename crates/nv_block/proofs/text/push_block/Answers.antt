use Rattle.std.proofs.Common.{◌≡◌, ◌≤◌, ◌∙◌, ◌++◌, ℕ, List, refl, ap, subst, string_bytes}
use Rattle.std.proofs.lemmas.Result.{on_ok_weaker}
use Rattle.nv_super.specs.declared.owners.Owner.{Owner}
use Rattle.nv_super.specs.Layout.{system_blocks}
use Rattle.nv_block.specs.Block.{owners_text}
use Rattle.nv_block.proofs.Told.{tells_owners}
use Rattle.nv_block.proofs.text.push_block.Goals as goal

pub returns : goal.returns
returns c region are =
    let l = c.args.tables.now.layout in
    let b = c.args.block in
    let owners = c.in_ok-owners.owners.items in
    let count : c.system_blocks.result ≡ system_blocks l.sup = c.system_blocks.ensures ∙ ap system_blocks c.sup-sup.ensures in
    let from = subst (λ (n : ℕ). n ≤ b) count c.if-block-system_blocks.false in
    on_ok_weaker c.push_owners.result (λ e. (
      owners_text b owners,
      tells_owners region l b (owners_text b owners) from (owners, c.in_ok-owners.ensures region are, refl),
      e ∙ ap (λ (os : List Owner). string_bytes c.args.out.now ++ owners_text b os) c.deref.ensures.value,
    )) c.push_owners.ensures
