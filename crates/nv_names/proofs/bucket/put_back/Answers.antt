use Rattle.nv_names.proofs.First.{keyed-asked}
use Rattle.nv_names.proofs.bucket.put_back.Goals as goal

pub returns-clause-keyed : goal.returns-clause-keyed
returns-clause-keyed c =
    keyed-asked c.insert-other.result c.args.first.now.entries c.insert-other.new.self.entries c.args.key c.args.before c.insert-other.ensures.entries c.insert-other.ensures.err c.requires.keyed c.requires.key
