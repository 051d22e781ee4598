use Rattle.std.proofs.Common.{◌-◌, sym, ◌∙◌, Some, None}
use Rattle.std.proofs.lemmas.Option.{none-some}
use Rattle.nv_graph.proofs.Changes.{directory_removed_sound, file_leaf, last_removed_sound, unlinked_sound}
use Rattle.nv_graph.proofs.Replaced.{replaced_faultless}
use Rattle.nv_graph.proofs.Sound.{sound}
use Rattle.nv_graph.proofs.faultless_calls.replace_keeps.Goals as goal

pub returns-clause-last : goal.returns-clause-last
returns-clause-last c = λ g d name path e new i j n f named leads there differ clear is file last. (
    let s = sound g f in
    replaced_faultless path s named leads there differ clear (file_leaf s j n is file) None (last_removed_sound g e new j n s there is file last))

pub returns-clause-more_left : goal.returns-clause-more_left
returns-clause-more_left c = λ g d name path e new i j n f named leads there differ clear is file more. (
    let s = sound g f in
    replaced_faultless path s named leads there differ clear (file_leaf s j n is file) (Some (record { kind = n.kind; links = n.links - 1 })) (unlinked_sound g e new j n s there is file more))

pub returns-clause-directory : goal.returns-clause-directory
returns-clause-directory c = λ g d name path e new i j f named leads there differ clear dir empty. (
    let s = sound g f in
    replaced_faultless path s named leads there differ clear (λ q k is. none-some k (sym (empty q) ∙ is)) None (directory_removed_sound g e new j s there dir empty))
