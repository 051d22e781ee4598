use Rattle.nv_metadata.proofs.Put.{words_put_at}
use Rattle.nv_metadata.proofs.memory.put_word.Goals as goal

pub returns-clause-words : goal.returns-clause-words
returns-clause-words c = words_put_at c.args.at c.args.bytes.now c.args.value c.write_u64.new.buf c.ranges.value.fits c.requires.aligned c.requires.within c.write_u64.ensures
