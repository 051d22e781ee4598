use Rattle.nv_graph.proofs.TreeCalls.{create_keeps, link_keeps, rename_keeps, rmdir_keeps, unlink_keeps}
use Rattle.nv_graph.proofs.TreeReplaces.{replace_keeps}
use Rattle.nv_graph.proofs.trees.no_call_makes_a_fault.Goals as goal

pub returns-clause-create : goal.returns-clause-create
returns-clause-create c = λ w t kind cpu names needed mode time f unused none. create_keeps t f w kind cpu names needed mode time unused none

pub returns-clause-link : goal.returns-clause-link
returns-clause-link c = λ w t cpu old new needed time f none. link_keeps t f w cpu old new needed time none

pub returns-clause-unlink : goal.returns-clause-unlink
returns-clause-unlink c = λ w t cpu names needed time f none. unlink_keeps t f w cpu names needed time none

pub returns-clause-rmdir : goal.returns-clause-rmdir
returns-clause-rmdir c = λ w t cpu names needed time f counts none. rmdir_keeps t f w cpu names needed time counts none

pub returns-clause-rename : goal.returns-clause-rename
returns-clause-rename c = λ w t cpu old new needed time f none. rename_keeps t f w cpu old new needed time none

pub returns-clause-replace : goal.returns-clause-replace
returns-clause-replace c = λ w t cpu old new needed time f counts none. replace_keeps t f counts time w cpu old new needed none
