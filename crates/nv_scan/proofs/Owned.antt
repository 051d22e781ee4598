-- Owned blocks are data blocks.
use Rattle.std.proofs.Common.{◌≡◌, ℕ, ◌+◌, ◌<◌, ◌≤◌, List, Some, slice_get}
use Rattle.std.specs.List.{Contains}
use Rattle.std.proofs.lemmas.Option.{slice_get_within, get_or_from_slice_get}
use Rattle.nv_region.specs.Region.{Region, word}
use Rattle.nv_super.specs.Layout.{Layout, system_blocks}
use Rattle.nv_super.specs.declared.owners.Owner.{Owner}
use Rattle.nv_super.specs.declared.owners.Owner.TheVariants as owners
use Rattle.nv_inode.specs.Chains.{IsLaid}
use Rattle.nv_logpage.specs.DataBlocks.{AreDataBlocks}
use Rattle.nv_logpage.proofs.DataBlocks.{one_page, pages_are}
use Rattle.nv_logpage.proofs.RightLogs.{head_starts}
use Rattle.nv_scan.specs.Inode.{Log, IsInode, right, wrong}
use Rattle.nv_scan.specs.Owners.{Owns}
use Rattle.nv_scan.proofs.Blocks.{data_pages}
use Rattle.nv_scan.proofs.Only.{owned_table, owned_log, owned_page}

stands : (xs : List ℕ) (k b : ℕ) → slice_get xs k ≡ Some b → Contains xs b
stands xs k b h = (k, slice_get_within xs k b h, get_or_from_slice_get xs k b b h)

-- the pages of an inode's log are data blocks
log_block : {R : Region} {l : Layout} {i a : ℕ} {log : Log} (k b : ℕ) → IsInode R l i a log → slice_get log.pages k ≡ Some b → (system_blocks l.sup ≤ b) × (b < l.sup.blocks)
log_block {R} {l} {i} {a} {log} k b (right s kind t r) h =
    let are : AreDataBlocks l.sup log.pages = pages_are (one_page l.sup (word R (a + 16)) (head_starts l.sup (word R (a + 16)) (word R (a + 24)) t)) r in
    (are.behind b (stands log.pages k b h), are.within b (stands log.pages k b h))
log_block k b (wrong s kind t) h = absurd (cc)

pub owned_block : (R : Region) (l : Layout) (b : ℕ) (o : Owner) → IsLaid l → Owns R l b o → (system_blocks l.sup ≤ b) × (b < l.sup.blocks)
owned_block R l b (owners.Table c k) laid h = laid.inside c k b (owned_table h)
owned_block R l b (owners.Log i k) laid h = let w = owned_log h in log_block k b w.is w.page
owned_block R l b (owners.Data i p) laid h = let w = owned_page h in let d = data_pages l.sup w.log.kind w.log.entries p b w.maps in (d.1, d.2)
