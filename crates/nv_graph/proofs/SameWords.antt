-- An inode whose words are the same is read the same.
use Rattle.std.proofs.Common.{◌≡◌, ℕ, refl, sym, ◌∙◌, subst}
use Rattle.nv_region.specs.Region.{Region}
use Rattle.nv_super.specs.Layout.{Layout}
use Rattle.nv_inode.specs.Slot.{kind_at}
use Rattle.nv_scan.specs.Scanned.{SameSlot}
use Rattle.nv_scan.specs.Inode.{Log, IsInode}
use Rattle.nv_scan.proofs.Alone.{IsInode-same}
use Rattle.nv_scan.proofs.InUse.{by_slot}
use Rattle.nv_scan.proofs.Only.{IsInode-only, slot_in_use, kind_in_use}
use Rattle.nv_graph.specs.Step.{SameInode, SameWords}

pub words_same : {R S : Region} {l : Layout} {j : ℕ} → SameWords R S l j → SameInode R S l j
words_same {R} {S} {l} {j} w a log = (there a log, back) where
  there : (a : ℕ) (log : Log) → IsInode R l j a log → IsInode S l j a log
  there a log h = IsInode-same S (w.slot a (slot_in_use h)) (λ b c at whole here _. w.pages a log h b c at whole here) h

  kind_same : SameSlot R S a → kind_at S a ≡ kind_at R a
  kind_same slot = rw (slot.valid, slot.kind) refl

  back : IsInode S l j a log → IsInode R l j a log
  back h =
      let at = slot_in_use h in
      let u = (by_slot R l j).1 (a, log.kind, at, sym (kind_same (w.slot a at)) ∙ kind_in_use h) in
      let one = IsInode-only (there u.0 u.1 u.2) h in
      subst (λ (b : ℕ). IsInode R l j b log) one.0 (subst (λ (v : Log). IsInode R l j u.0 v) one.1 u.2)
