use Rattle.std.proofs.Common.{◌∙◌, arith, refl}
use Rattle.nv_region.proofs.RecentStores.{none_noted, one_noted}
use Rattle.nv_region.proofs.recent.note_each.Goals as goal

pub loop-store-init : goal.loop-store-init
loop-store-init c = record { total = refl; each = none_noted c.args.stores.now c.args.stored.now.rows c.args.stored.now.kept c.args.words.now }

pub note-requires-clause-within : goal.note-requires-clause-within
note-requires-clause-within c = omega (arith, c.requires.within c.loop-store.store-index c.loop-store-test.true)

pub loop-store-preserved : goal.loop-store-preserved
loop-store-preserved c = record {
  total = c.note.ensures.total ∙ c.loop-store.invariant.total;
  each =
      one_noted c.args.stores.now c.args.stored.now.rows c.args.stored.now.kept c.loop-store.stored.rows c.loop-store.stored.kept c.note.new.self.rows c.note.new.self.kept c.args.words.now c.loop-store.store-index c.note.ensures.here c.note.ensures.others
      c.loop-store.invariant.each;
}
