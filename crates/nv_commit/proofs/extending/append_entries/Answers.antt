use Rattle.std.proofs.Common.{length}
use Rattle.nv_commit.proofs.Extends.{appends_where_done, burnt_where_refused}
use Rattle.nv_commit.proofs.extending.append_entries.Goals as goal

pub append-requires : goal.append-requires
append-requires g c = c.requires

pub returns-clause-appends : goal.returns-clause-appends
returns-clause-appends g c = appends_where_done (g.P.Pmem.region c.args.memory.now) (g.P.Pmem.region c.append.new.memory) c.args.tail c.args.entries.now c.args.fresh.now c.append.result c.append.ensures.reads c.append.ensures.right c.append.ensures.kept.wrote.mixed

pub returns-clause-end : goal.returns-clause-end
returns-clause-end g c = c.append.ensures.end

pub returns-clause-wrote : goal.returns-clause-wrote
returns-clause-wrote g c = c.append.ensures.kept.wrote

pub returns-clause-len : goal.returns-clause-len
returns-clause-len g c = c.append.ensures.kept.len

pub returns-clause-stopped : goal.returns-clause-stopped
returns-clause-stopped g c = burnt_where_refused c.append.result (length c.args.entries.now) (g.P.Pmem.fuse c.append.new.memory).has_burnt c.append.ensures.kept.stopped (λ none. (c.append.ensures.kept.nothing none).0)

pub returns-clause-keeps_fuse : goal.returns-clause-keeps_fuse
returns-clause-keeps_fuse g c = c.append.ensures.kept.keeps_fuse
