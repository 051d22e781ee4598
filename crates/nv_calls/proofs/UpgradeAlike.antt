-- Alike regions that are upgraded are alike.
use Rattle.std.proofs.Common.{◌≡◌, ℕ, ◌/◌, ◌<◌, List, ap, sym, ◌∙◌, subst, Some}
use Rattle.std.proofs.Math.Logic.{∥∥₁_map}
use Rattle.nv_region.specs.Region.{Region}
use Rattle.nv_super.specs.declared.superblock.Super.{Super}
use Rattle.nv_super.specs.Layout.{Layout}
use Rattle.nv_super.specs.Super.{IsSuper}
use Rattle.nv_inode.specs.Upgraded.{IsUpgraded, upgraded_layout}
use Rattle.nv_logpage.specs.declared.found.Placed.{Placed}
use Rattle.nv_scan.specs.State.{block_of, size_of}
use Rattle.nv_outcome.proofs.SuperOf.{one_super}
use Rattle.nv_mounted.specs.Held.{Held, Store, good_in}
use Rattle.nv_mounted.specs.Bytes.{byte_in, byte_of}
use Rattle.nv_mounted.proofs.BytesKept.{data_behind}
use Rattle.nv_mounted.proofs.Upgraded.{good_alike, upgraded_behind, upgraded_sound}
use Rattle.nv_calls.specs.Alike.{AreAlike, ShowAlike}

module _ (R S T U : Region) (l : Layout) (held : Store) (one : l.sup.version ≡ 1) (up : IsUpgraded R l.sup.cpus T) (other : IsUpgraded S l.sup.cpus U) (alike : ShowAlike l held R S) where
  bytes_alike : (i x : ℕ) (h : Held) → held i ≡ Some h → x < size_of (good_in (upgraded_layout l) h) → byte_of U (upgraded_layout l) h x ≡ byte_of T (upgraded_layout l) h x
  bytes_alike i x h is small =
      let first = alike.first in
      let good : good_in (upgraded_layout l) h ≡ good_in l h = good_alike l held one first.faultless i h is in
      ap (λ (es : List Placed). byte_in U (block_of es (x / 4096)) x) good
      ∙ data_behind l S U h (upgraded_behind S U l other) x
      ∙ alike.bytes i x h is (subst (λ (es : List Placed). x < size_of es) good small)
      ∙ sym (data_behind l R T h (upgraded_behind R T l up) x)
      ∙ ap (λ (es : List Placed). byte_in T (block_of es (x / 4096)) x) (sym good)

  shown_alike : ShowAlike (upgraded_layout l) held T U
  shown_alike = record { first = upgraded_sound R T l one up held alike.first; second = upgraded_sound S U l one other held alike.second; bytes = bytes_alike }

pub upgraded_alike : (R S T U : Region) (s : Super) → AreAlike R S → IsSuper R s → s.version ≡ 1 → IsUpgraded R s.cpus T → IsUpgraded S s.cpus U → AreAlike T U
upgraded_alike R S T U s alike sup one up other = ∥∥₁_map alike (λ w. (upgraded_layout w.0, w.1, by w.0 w.1 w.2)) where
  by : (l : Layout) (held : Store) → ShowAlike l held R S → ShowAlike (upgraded_layout l) held T U
  by l held shown =
      let first = shown.first in
      let same : l.sup ≡ s = one_super R s l.sup sup first.sup in
      shown_alike R S T U l held (ap (λ (t : Super). t.version) same ∙ one) (subst (λ (t : Super). IsUpgraded R t.cpus T) (sym same) up) (subst (λ (t : Super). IsUpgraded S t.cpus U) (sym same) other) shown
