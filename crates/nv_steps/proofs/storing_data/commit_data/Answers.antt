use Rattle.std.proofs.Common.{◌∙◌, List, ℕ, refl, sym, subst}
use Rattle.nv_mounted.proofs.BytesKept.{mixed_size}
use Rattle.nv_bytes.specs.Bytes.{byte_after, file_byte}
use Rattle.nv_bytes.specs.Storing.{AreFresh}
use Rattle.nv_region.specs.Region.{Region}
use Rattle.nv_steps.specs.Written.{AreSmall, Commits, entry_blocks}
use Rattle.nv_steps.proofs.Committed.{commits}
use Rattle.nv_steps.proofs.Stopped.{commit_left, data_left}
use Rattle.nv_alloc.specs.Taking.{HasBlock}
use Rattle.nv_entry.specs.declared.entry.Entry.{Entry}
use Rattle.nv_commit.specs.Extends.{CanExtend}
use Rattle.nv_steps.specs.Stores.{one_log}
use Rattle.nv_steps.proofs.Stores.{data_stores, data_then_log}
use Rattle.nv_steps.proofs.storing_data.commit_data.Goals as goal
use Rattle.nv_bytes.specs.Data.{data_bytes}

pub store_data-requires : goal.store_data-requires
store_data-requires g c =
    record {
      mapped = c.requires.given.mapped;
      fresh = subst (λ (es : List Entry). AreFresh (g.P.Pmem.region c.args.memory.now) c.args.index.now (entry_blocks es)) (sym c.deref.ensures.value) c.requires.given.fresh;
      pages = subst AreSmall (sym c.deref.ensures.value) c.requires.given.pages;
      small = c.requires.given.small;
    }

pub returns-clause-commits : goal.returns-clause-commits
returns-clause-commits g c l inode =
    let bytes : ℕ → ℕ = byte_after c.args.change.now.offset (data_bytes c.args.change.now.content) c.args.change.now.size (file_byte (g.P.Pmem.region c.args.memory.now) c.args.index.now) in
    commits (g.P.Pmem.region c.args.memory.now) (g.P.Pmem.region c.store_data.new.memory) (g.P.Pmem.region c.extend_log.new.memory) l inode c.args.slot c.args.tail bytes c.args.log.now.entries.items c.args.log.now.fresh.items c.deref.result.now c.deref-2.result.now c.deref-3.result.now
    c.deref.ensures.value c.deref-2.ensures.value c.deref-3.ensures.value c.extend_log.result c.store_data.ensures.wrote.mixed c.in_ok-store_data.ensures.stored c.extend_log.ensures.kept.wrote.mixed (λ held h can. c.extend_log.ensures.shows l held inode h can)

pub returns-clause-length : goal.returns-clause-length
returns-clause-length g c = mixed_size c.extend_log.ensures.kept.wrote.mixed ∙ mixed_size c.store_data.ensures.wrote.mixed

pub returns-in_err-store_data-clause-any_stop : goal.returns-in_err-store_data-clause-any_stop
returns-in_err-store_data-clause-any_stop g c l held inode h can free settled =
    data_left (byte_after c.args.change.now.offset (data_bytes c.args.change.now.content) c.args.change.now.size (file_byte (g.P.Pmem.region c.args.memory.now) c.args.index.now)) c.args.log.now.entries.items c.deref.result.now c.args.log.now.entries.items c.args.log.now.fresh.items c.args.log.now.fresh.items
    c.deref.ensures.value refl refl can free _ settled _ _
    (λ (S : Region). Commits (g.P.Pmem.region c.args.memory.now) S l inode c.args.slot c.args.tail (byte_after c.args.change.now.offset (data_bytes c.args.change.now.content) c.args.change.now.size (file_byte (g.P.Pmem.region c.args.memory.now) c.args.index.now)) c.args.log.now.entries.items c.args.log.now.fresh.items) c.store_data.ensures.wrote

pub returns-clause-any_stop : goal.returns-clause-any_stop
returns-clause-any_stop g c l held inode h can free settled =
    commit_left (byte_after c.args.change.now.offset (data_bytes c.args.change.now.content) c.args.change.now.size (file_byte (g.P.Pmem.region c.args.memory.now) c.args.index.now)) c.args.log.now.entries.items c.deref.result.now c.deref-2.result.now c.args.log.now.fresh.items c.deref-3.result.now
    c.deref.ensures.value c.deref-2.ensures.value c.deref-3.ensures.value can free _ settled _ c.store_data.ensures.wrote c.in_ok-store_data.ensures.stored _ _ (λ there pending. c.extend_log.ensures.loose_stop l held inode h there pending)

pub returns-in_err-store_data-clause-wrote : goal.returns-in_err-store_data-clause-wrote
returns-in_err-store_data-clause-wrote g c l held inode h can free =
    data_stores l held (one_log l inode) (HasBlock (entry_blocks c.deref.result.now)) (λ b w. free b (subst (λ (es : List Entry). HasBlock (entry_blocks es) b) c.deref.ensures.value w)) c.store_data.ensures.wrote.mixed

pub returns-clause-wrote : goal.returns-clause-wrote
returns-clause-wrote g c l held inode h can free =
    data_then_log (HasBlock (entry_blocks c.deref.result.now))
    (subst (λ (es : List Entry). CanExtend (g.P.Pmem.region c.args.memory.now) l held inode h c.args.slot c.args.tail es c.deref-3.result.now) (sym c.deref-2.ensures.value) (subst (λ (bs : List ℕ). CanExtend (g.P.Pmem.region c.args.memory.now) l held inode h c.args.slot c.args.tail c.args.log.now.entries.items bs) (sym c.deref-3.ensures.value) can))
    (λ b w. free b (subst (λ (es : List Entry). HasBlock (entry_blocks es) b) c.deref.ensures.value w)) c.store_data.ensures.wrote.mixed c.extend_log.ensures.kept.wrote.mixed
