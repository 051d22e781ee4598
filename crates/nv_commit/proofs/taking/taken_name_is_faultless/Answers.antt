use Rattle.std.proofs.Common.{refl}
use Rattle.nv_commit.proofs.Takes.{gone_across, gone_within, less_across, less_within}
use Rattle.nv_commit.proofs.taking.taken_name_is_faultless.Goals as goal

pub returns-clause-gone : goal.returns-clause-gone
returns-clause-gone c = λ l held d h name path e k other i j f at time tail fresh next last end pages can apart go one two. gone_across l held d h name path e k other i j f can at time tail fresh next last end pages apart one two go

pub returns-clause-less : goal.returns-clause-less
returns-clause-less c = λ l held d h name path e k other i j f at time tail fresh next last end pages file_at file_tail file_fresh can apart file some few one two own. less_across l held d h name path e k other i j f can at time tail fresh next last end pages apart one two file some few file_at file_tail file_fresh own

pub returns-clause-gone_here : goal.returns-clause-gone_here
returns-clause-gone_here c = λ l held d h name path other i j f at time tail fresh next last can go one. gone_within l held d h name path d h other i j f can at time tail fresh next last refl one go

pub returns-clause-less_here : goal.returns-clause-less_here
returns-clause-less_here c = λ l held d h name path other i j f at time tail fresh next last file_at file_tail file_fresh can file some few one own. less_within l held d h name path d h other i j f can at time tail fresh next last refl one file some few file_at file_tail file_fresh own
