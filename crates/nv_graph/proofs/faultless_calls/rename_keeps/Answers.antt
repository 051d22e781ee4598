use Rattle.nv_graph.proofs.Sound.{sound, faultless}
use Rattle.nv_graph.proofs.Renamed.{renamed_sound, node_past, renamed_by_path}
use Rattle.nv_graph.proofs.faultless_calls.rename_keeps.Goals as goal

pub returns-clause-past : goal.returns-clause-past
returns-clause-past c = λ g d name e new i f named dir absent clear. (let s = sound g f in faultless _ (renamed_sound s named dir absent (node_past g d name e i s named dir clear)))

pub returns-clause-by_path : goal.returns-clause-by_path
returns-clause-by_path c = λ g d name path e new i f named walked dir absent clear. faultless _ (renamed_by_path g d name path e new i (sound g f) named walked dir absent clear)
