use Rattle.std.proofs.Common.{◌+◌, ◌*◌, ◌/◌, ◌∷◌, [], ℕ, List, drop, subst, sym, ap, ◌∙◌, is_err, arith}
use Rattle.nv_region.specs.Stops.{IsMixed}
use Rattle.nv_region.proofs.Fuses.{keeps_more}
use Rattle.nv_region.proofs.Wordwise.{stores_more}
use Rattle.nv_super.proofs.Rising.{Contains-head}
use Rattle.nv_logpage.proofs.Placing.{entries_from}
use Rattle.nv_alloc.specs.Taking.{HasBlock}
use Rattle.nv_entry.specs.declared.entry.Entry.{Entry}
use Rattle.nv_entry.specs.declared.entry.Entry.TheVariants.{Write}
use Rattle.nv_mounted.proofs.BytesKept.{mixed_size}
use Rattle.nv_bytes.specs.Bytes.{byte_after, file_byte}
use Rattle.nv_bytes.specs.Storing.{AreFresh, HoldPages, InBlocks}
use Rattle.nv_bytes.proofs.StoredPages.{same_pages}
use Rattle.nv_steps.specs.Written.{entry_blocks}
use Rattle.nv_steps.proofs.StoredEntries.{Storing, blocks_of, entry_block, entry_fresh, run_holds, storing_goes_on, storing_skips, writes_from}
use Rattle.nv_steps.proofs.storing_data.store_data.Goals as goal
use Rattle.nv_steps.proofs.storing_data.store_data.Goals.{in-Write+in_ok-store_pages, in_default}
use Rattle.nv_bytes.specs.Data.{data_bytes}

pub store_pages-requires-clause-fresh : goal.store_pages-requires-clause-fresh
store_pages-requires-clause-fresh g c =
    let entries = c.args.entries.now in
    let i = c.loop-entry.entry-index in
    let e = c.in-Write.write in
    let left = writes_from entries i c.entry-item.result e c.loop-entry-test.true c.entry-item.is c.in-Write.is in
    subst (λ (n : ℕ). AreFresh (g.P.Pmem.region c.loop-entry.memory) c.args.index.now (record { start = e.block; count = n } ∷ [])) (sym c.from.ensures)
    (entry_fresh (g.P.Pmem.region c.args.memory.now) (g.P.Pmem.region c.loop-entry.memory) c.args.index.now e (drop (i + 1) entries) (mixed_size c.loop-entry.invariant.wrote.mixed)
    (subst (λ (xs : List Entry). AreFresh (g.P.Pmem.region c.args.memory.now) c.args.index.now (entry_blocks xs)) left c.loop-entry.invariant.storing.fresh))

pub store_pages-requires-clause-pages : goal.store_pages-requires-clause-pages
store_pages-requires-clause-pages g c =
    let entries = c.args.entries.now in
    let i = c.loop-entry.entry-index in
    let e = c.in-Write.write in
    let left = writes_from entries i c.entry-item.result e c.loop-entry-test.true c.entry-item.is c.in-Write.is in
    let storing = subst (Storing (g.P.Pmem.region c.args.memory.now) c.args.index.now (byte_after c.args.change.now.offset (data_bytes c.args.change.now.content) c.args.change.now.size (file_byte (g.P.Pmem.region c.args.memory.now) c.args.index.now)) entries (g.P.Pmem.region c.loop-entry.memory)) left c.loop-entry.invariant.storing in
    let small = c.requires.pages e (storing.among e (Contains-head (Write e) (drop (i + 1) entries))) in
    omega (arith, small, c.from.ensures)

pub returns-in_err-store_pages-clause-wrote : goal.returns-in_err-store_pages-clause-wrote
returns-in_err-store_pages-clause-wrote g c =
    let entries = c.args.entries.now in
    let i = c.loop-entry.entry-index in
    let e = c.in-Write.write in
    let left = writes_from entries i c.entry-item.result e c.loop-entry-test.true c.entry-item.is c.in-Write.is in
    let storing = subst (Storing (g.P.Pmem.region c.args.memory.now) c.args.index.now (byte_after c.args.change.now.offset (data_bytes c.args.change.now.content) c.args.change.now.size (file_byte (g.P.Pmem.region c.args.memory.now) c.args.index.now)) entries (g.P.Pmem.region c.loop-entry.memory)) left c.loop-entry.invariant.storing in
    stores_more _ _ _ _ _ _ _ _ (λ k v of. storing.within (8 * k / 4096) (entry_block e (drop (i + 1) entries) (8 * k / 4096) (subst (λ (n : ℕ). HasBlock (record { start = e.block; count = n } ∷ []) (8 * k / 4096)) c.from.ensures of))) c.loop-entry.invariant.wrote c.store_pages.ensures.wrote

pub loop-entry-preserved : goal.loop-entry-preserved
loop-entry-preserved g c =
    let R0 = g.P.Pmem.region c.args.memory.now in
    let R = g.P.Pmem.region c.loop-entry.memory in
    let n = c.args.change.now in
    let m = c.args.index.now in
    let entries = c.args.entries.now in
    let i = c.loop-entry.entry-index in
    let rest = drop (i + 1) entries in
    let bytes : ℕ → ℕ = byte_after n.offset (data_bytes n.content) n.size (file_byte R0 m) in
    let kept = c.loop-entry.invariant in
    elim c.match-entry.branch [
      | in-Write+in_ok-store_pages w ↦
          let S = g.P.Pmem.region w.store_pages.new.memory in
          let e = w.in-Write.write in
          let left = writes_from entries i c.entry-item.result e c.loop-entry-test.true c.entry-item.is w.in-Write.is in
          let storing = subst (Storing R0 m bytes entries R) left kept.storing in
          let large = mixed_size kept.wrote.mixed in
          let wrote = w.store_pages.ensures.wrote in
          let mixed : IsMixed R (InBlocks (HasBlock (blocks_of e ∷ []))) S = subst (λ (k : ℕ). IsMixed R (InBlocks (HasBlock (record { start = e.block; count = k } ∷ []))) S) w.from.ensures wrote.mixed in
          let held = subst (λ (k : ℕ). HoldPages S (byte_after n.offset (data_bytes n.content) n.size (file_byte R m)) e.offset (record { start = e.block; count = k } ∷ [])) w.from.ensures w.in_ok-store_pages.ensures.stored in
          record {
            storing = rw w.memory-is (storing_goes_on R0 m bytes entries R S e rest storing mixed
                (λ k low. same_pages R0 R S m (InBlocks (HasBlock (entry_blocks entries))) n.offset n.size (data_bytes n.content) (e.block + k) (e.offset + k) kept.wrote.mixed
                (λ p b at j v w' h. c.requires.fresh.apart p b at (subst (HasBlock (entry_blocks entries)) w' h)) (run_holds S (byte_after n.offset (data_bytes n.content) n.size (file_byte R m)) e held k low)));
            wrote = rw w.memory-is (stores_more _ _ _ _ _ _ _ _ (λ k v of. storing.within (8 * k / 4096) (entry_block e rest (8 * k / 4096) (subst (λ (j : ℕ). HasBlock (record { start = e.block; count = j } ∷ []) (8 * k / 4096)) w.from.ensures of))) kept.wrote wrote);
            quiet = λ was. rw w.memory-is (sym (w.store_pages.ensures.stopped (kept.quiet was)) ∙ ap is_err w.in_ok-store_pages.was);
            keeps_fuse = rw w.memory-is (keeps_more (λ limit end. omega (arith, end, large)) kept.keeps_fuse w.store_pages.ensures.keeps_fuse);
          }
      | in_default w ↦
          let left = entries_from entries i c.entry-item.result c.loop-entry-test.true c.entry-item.is in
          record {
            storing = rw w.memory-is (storing_skips R0 m bytes entries R c.entry-item.result rest w.in_default.not-Write (subst (Storing R0 m bytes entries R) left kept.storing));
            wrote = rw w.memory-is kept.wrote;
            quiet = λ was. rw w.memory-is (kept.quiet was);
            keeps_fuse = rw w.memory-is kept.keeps_fuse;
          }
    ]
