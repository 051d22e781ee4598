use Rattle.std.proofs.Common.{ap, sym, ◌∙◌, length}
use Rattle.nv_recover.proofs.MadeMaps.{length_back, maps_back, maps_same, within_same}
use Rattle.nv_recover.proofs.sets.Sets.claim_all.Goals as goal

pub fill-requires : goal.fill-requires
fill-requires c = record { within = within_same c.args.claims.now.items c.deref_mut.ensures.value c.deref_mut-2.ensures.value c.requires.within }

pub returns : goal.returns
returns c =
    let first = c.fill.ensures.as_long.0 ∙ c.deref_mut.ensures.len in
    let second = c.fill.ensures.as_long.1 ∙ c.deref_mut-2.ensures.len in record {
      maps = λ before maps. maps_back _ _ _ c.fill.new.first c.fill.new.second _ _ (c.fill.ensures.maps before (maps_same before c.deref_mut.ensures.value c.deref_mut-2.ensures.value maps)) first second;
      as_long = (
        length_back _ c.fill.new.first _ first ∙ sym (ap length (sym c.deref_mut.ensures.value) ∙ c.deref_mut.ensures.len),
        length_back _ c.fill.new.second _ second ∙ sym (ap length (sym c.deref_mut-2.ensures.value) ∙ c.deref_mut-2.ensures.len),
      );
    }
