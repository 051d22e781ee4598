use Rattle.std.proofs.Common.{◌++◌, ◌∙◌, refl}
use Rattle.nv_scan.specs.ChainBlocks.{table_claims}
use Rattle.nv_scan.specs.Claims.{log_claims, data_claims}
use Rattle.nv_scan.proofs.Runs.{claims_split}
use Rattle.nv_recover.specs.Scanned.{Fits}
use Rattle.nv_recover.proofs.MadeMaps.{fits_as_long}
use Rattle.nv_recover.proofs.TwoSets.{maps_on}
use Rattle.nv_recover.proofs.sets.fill.Goals as goal

pub fill_table-requires : goal.fill_table-requires
fill_table-requires c = record { within = (claims_split (Fits c.args.first.now c.args.second.now) c.parts-table.result.0 c.parts-table.result.1 c.args.claims.now.items c.parts-table.result.2.now c.parts-table.result.3.now c.parts-table.ensures.claims c.requires.within).0 }

pub fill_pages-requires : goal.fill_pages-requires
fill_pages-requires c = record {
  within = fits_as_long (log_claims c.parts-table.result.1 0 c.parts-table.result.2.now) c.args.first.now c.args.second.now c.fill_table.new.first c.fill_table.new.second c.fill_table.ensures.as_long
      (claims_split (Fits c.args.first.now c.args.second.now) c.parts-table.result.0 c.parts-table.result.1 c.args.claims.now.items c.parts-table.result.2.now c.parts-table.result.3.now c.parts-table.ensures.claims c.requires.within).1.0;
}

pub fill_runs-requires : goal.fill_runs-requires
fill_runs-requires c = record {
  within = fits_as_long (data_claims c.parts-table.result.1 c.parts-table.result.3.now) c.args.first.now c.args.second.now c.fill_pages.new.first c.fill_pages.new.second
      (c.fill_pages.ensures.as_long.0 ∙ c.fill_table.ensures.as_long.0, c.fill_pages.ensures.as_long.1 ∙ c.fill_table.ensures.as_long.1)
      (claims_split (Fits c.args.first.now c.args.second.now) c.parts-table.result.0 c.parts-table.result.1 c.args.claims.now.items c.parts-table.result.2.now c.parts-table.result.3.now c.parts-table.ensures.claims c.requires.within).1.1;
  small = c.parts-table.ensures.small;
}

pub returns : goal.returns
returns c =
    let table = table_claims c.parts-table.result.0 in
    let log = log_claims c.parts-table.result.1 0 c.parts-table.result.2.now in
    let file = data_claims c.parts-table.result.1 c.parts-table.result.3.now in record {
      maps = λ before maps. maps_on before table (log ++ file) c.args.claims.now.items c.parts-table.ensures.claims
          (maps_on (before ++ table) log file (log ++ file) refl (c.fill_runs.ensures.maps ((before ++ table) ++ log) (c.fill_pages.ensures.maps (before ++ table) (c.fill_table.ensures.maps before maps))));
      as_long = (
        c.fill_runs.ensures.as_long.0 ∙ c.fill_pages.ensures.as_long.0 ∙ c.fill_table.ensures.as_long.0,
        c.fill_runs.ensures.as_long.1 ∙ c.fill_pages.ensures.as_long.1 ∙ c.fill_table.ensures.as_long.1,
      );
    }
