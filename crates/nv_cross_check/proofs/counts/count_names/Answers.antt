use Rattle.std.proofs.Common.{ℕ, ◌≤◌, ◌<◌, List, [], length, subst, sym}
use Rattle.std.proofs.lemmas.List.{take_all}
use Rattle.nv_cross_check.specs.Listing.{Listing}
use Rattle.nv_cross_check.specs.Listings.{targets}
use Rattle.nv_cross_check.specs.Steps.{IsTable, AreCounts, unused_of}
use Rattle.nv_cross_check.proofs.Counting.{flats}
use Rattle.nv_cross_check.proofs.Follow.{is_table, numbers_of_names, some_row}
use Rattle.nv_cross_check.proofs.NamesCounted.{row_counted}
use Rattle.nv_cross_check.proofs.counts.count_names.Goals as goal

pub loop-place-preserved : goal.loop-place-preserved
loop-place-preserved c =
    let within = subst (λ n. c.loop-place.place < n) c.len-place-end.ensures c.loop-place-test.true in
    let row = some_row c.args.listings.now c.loop-place.place within in
    record {
      counts = row_counted c.args.listings.now c.args.places.now c.loop-place.counts.items c.loop-place.place row.0 within (sym row.1.1) c.loop-place.invariant.counts _ (c.in_ok-count_names_of.ensures.counts row.0 row.1);
      unused = flats (unused_of c.args.places.now) c.args.listings.now c.loop-place.place row.0 [] _ _ within (sym row.1.1) (c.in_ok-count_names_of.ensures.unused row.0 row.1) c.loop-place.invariant.unused;
    }

pub count_names_of-requires-clause-table : goal.count_names_of-requires-clause-table
count_names_of-requires-clause-table c =
    subst (λ (n : ℕ). IsTable n c.args.places.now) (sym c.loop-place.invariant.counts.same) (is_table c.args.listings.now c.args.places.now c.requires)

pub returns-clause-counts : goal.returns-clause-counts
returns-clause-counts c =
    let listings = c.args.listings.now in let table = c.args.places.now in let counts = c.loop-place.counts.items in
    let past = subst (λ n. n ≤ c.loop-place.place) c.len-place-end.ensures c.loop-place-test.false in
    numbers_of_names listings table c.requires counts (subst (λ (ls : List Listing). AreCounts (length listings) table (targets ls) counts) (take_all c.loop-place.place listings past) c.loop-place.invariant.counts)
