use Rattle.std.proofs.Common.{◌≡◌, ◌∙◌, ℕ, ◌+◌, ◌-◌, ◌*◌, ◌≤◌, Bool, true, false, cond, nat_le, ap, Option, Some, None, unwrap_or, arith}
use Rattle.std.proofs.lemmas.Bool.Decides.{nat_tests}
use Rattle.std.proofs.lemmas.Result.{on_ok_weaker}
use Rattle.nv_super.specs.declared.superblock.Super.{Super}
use Rattle.nv_entry.specs.declared.entry.WriteEntry.{WriteEntry}
use Rattle.nv_entry.specs.Content.{is_write_out_of_range}
use Rattle.nv_radix.specs.Pages.{in_run}
use Rattle.nv_radix.specs.Runs.{block_by}
use Rattle.nv_scan.proofs.pages.write_pages.Goals as goal

-- a page after the cut and the run
by_tests : (run cut test : Bool) (b : ℕ) (old new : Option ℕ) → test ≡ cut → new ≡ cond run (Some b) (cond test None old) → new ≡ unwrap_or (cond run (Some (Some b)) (cond cut (Some None) None)) old
by_tests true cut test b old new same is = is
by_tests false true test b old new same is = is ∙ ap (λ (t : Bool). cond t None old) same
by_tests false false test b old new same is = is ∙ ap (λ (t : Bool). cond t None old) same

-- the pages and the blocks of a write that is in range
fits : (s : Super) (e : WriteEntry) → is_write_out_of_range s e ≡ false → (e.offset + e.count ≤ 262144) × (e.block + e.count ≤ s.blocks)
fits s e good =
    let pages : e.offset + e.count ≤ 262144 = grind (arith, nat_tests) in
    let blocks : e.block + e.count ≤ s.blocks = grind (arith, nat_tests) in
    (pages, blocks)

pub write_run-requires-clause-pages : goal.write_run-requires-clause-pages
write_run-requires-clause-pages c = λ some. (let f = (fits c.args.sup.now c.args.e.now c.requires.good).0 in omega (arith, f))

pub write_run-requires-clause-blocks : goal.write_run-requires-clause-blocks
write_run-requires-clause-blocks c = λ some. (let f = (fits c.args.sup.now c.args.e.now c.requires.good).1 in let most = c.requires.areas.blocks_to in omega (arith, f, most))

pub returns : goal.returns
returns c =
    let e = c.args.e.now in
    let old = c.args.extents.now in
    on_ok_weaker c.write_run.result
    (λ h p. by_tests (in_run e.offset e.count p) (nat_le e.size (p * 4096)) (nat_le c.first_page_past.result p) (e.block + (p - e.offset)) (block_by old p) _ (c.first_page_past.ensures p) (h p)) c.write_run.ensures
