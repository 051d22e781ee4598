use Rattle.std.proofs.Common.{rules, arith, ◌≡◌, ◌*◌, ◌-◌, length-append, min}
use Rattle.nv_entry.proofs.Words.{length-low_bytes}
use Rattle.nv_entry.proofs.Texts.{text_next, text_none, text_whole}
use Rattle.nv_entry.proofs.light.read_text.Goals as goal

pub loop-k-init : goal.loop-k-init
loop-k-init g c = record {
  len = search rules;
  text = text_none (g.P.Pmem.region c.args.memory.now) c.args.at c.args.count c.args.bytes.now.items c.requires.empty;
}

pub loop-k-preserved : goal.loop-k-preserved
loop-k-preserved g c =
    let e : c.min-part.result ≡ min (c.args.count - 8 * c.loop-k.k) 8 = search rules in
    record {
      len = rw c.push_word.ensures (simp (length-append, length-low_bytes) (omega arith));
      text = text_next (g.P.Pmem.region c.args.memory.now) c.args.at c.args.count c.loop-k.k c.min-part.result c.load.result _ _ (omega arith) c.loop-k.invariant.text e c.load.ensures c.push_word.ensures;
    }

pub returns : goal.returns
returns g c = text_whole (g.P.Pmem.region c.args.memory.now) c.args.at c.args.count c.loop-k.k _ (omega arith) c.loop-k.invariant.text
