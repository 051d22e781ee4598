use Rattle.nv_entry.proofs.Texts.{text_is_name}
use Rattle.nv_entry.proofs.light.LightName.read_name.Goals as goal

pub returns-clause-is_name : goal.returns-clause-is_name
returns-clause-is_name g c = rw c.read_text.ensures (text_is_name _ _ _ c.requires.some c.requires.fits)
