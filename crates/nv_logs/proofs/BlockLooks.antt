-- What a look at a block tells, by what was recovered.
use Rattle.std.proofs.Common.{◌≡◌, ◌∙◌, ◌*◌, ◌^◌, ◌≤◌, inl, inr, Bool, ℕ, List, length, drop, min, refl, Result, Ok, Err, ap, sym, subst, arith, length-take, string_bytes}
use Rattle.std.specs.Prelude.{IfOk}
use Rattle.nv_region.specs.Region.{region_of}
use Rattle.nv_region.specs.ImageState.{ImageState}
use Rattle.nv_super.specs.Layout.{Layout}
use Rattle.nv_inode.specs.Chains.{layout_of}
use Rattle.nv_journal.specs.Undo.{undone}
use Rattle.nv_outcome.specs.Answer.{outcome_of}
use Rattle.nv_outcome.specs.Outcome.{AreRows}
use Rattle.nv_outcome.specs.declared.recovered.Recovered.{Recovered}
use Rattle.nv_outcome.proofs.Tabled.{tables_laid}
use Rattle.nv_block.specs.Hex.{block_bytes}
use Rattle.nv_text.specs.Refusals.{refusal_name}
use Rattle.nv_text.specs.declared.refusals.Refusal as texts
use Rattle.nv_region.specs.Region.{Region}
use Rattle.nv_image_check.specs.Checking.{IsRefusal}
use Rattle.nv_image_check.specs.Recovering.{IsRecovered, IsSuperRefused}
use Rattle.nv_image_check.specs.declared.answered.Answered.{Answered}
use Rattle.nv_image_check.specs.declared.imaging.Image.TheVariants as images
use Rattle.nv_logs.specs.Block.{IsBlockLook, TellsBlock}
use Rattle.nv_logs.specs.declared.looking.Look.{Look}

-- the superblock isn't accepted
pub refused_block : (bytes : List ℕ) (b : ℕ) (hex : Bool) (refusal : texts.Refusal) (text : List ℕ) (answered : Answered) → IsSuperRefused (region_of bytes) refusal
    → IsRefusal (refusal_name refusal) text answered.status × (answered.faults ≡ 0) → IsBlockLook bytes b hex text answered
refused_block bytes b hex refusal text answered is said = inl ((is.0, is.1, subst (λ (x : texts.Refusal). IsRefusal (refusal_name x) text answered.status) is.2 said.0), said.1)

-- the tables that were found are those of the region
pub found_tables : (R : Region) (memory : ImageState) (r : Recovered) → IsRecovered R (images.Recovered memory r) → r.tables.layout ≡ layout_of r.sup (undone r.sup R)
found_tables R memory r is = tables_laid R (outcome_of r) r.tables.layout is.0 is.4 refl

-- the rows are those of the tables
pub found_rows : (R : Region) (memory : ImageState) (r : Recovered) → IsRecovered R (images.Recovered memory r) → AreRows (undone r.sup R) r.tables.layout r.rows.items
found_rows R memory r is = subst (λ (l : Layout). AreRows (undone r.sup R) l r.rows.items) (sym (found_tables R memory r is)) is.0.rows

-- what was found tells of the block
pub found_block : {E : Type 0} (bytes : List ℕ) (memory : ImageState) (r : Recovered) → IsRecovered (region_of bytes) (images.Recovered memory r) → (b : ℕ) (hex : Bool) (result : Result Look E)
    → ((R : Region) → AreRows R r.tables.layout r.rows.items → IfOk result (λ look. TellsBlock R r.tables.layout bytes b hex (string_bytes look.text) look.answered.status))
    → IfOk result (λ look. look.answered.faults ≡ length r.faults.items) → IfOk result (λ look. IsBlockLook bytes b hex (string_bytes look.text) look.answered)
found_block bytes memory r is b hex (Ok look) told faults =
    let R = region_of bytes in
    inr (outcome_of r, is.0, subst (λ (l : Layout). TellsBlock (undone r.sup R) l bytes b hex (string_bytes look.text) look.answered.status) (found_tables R memory r is) (told (undone r.sup R) (found_rows R memory r is)), faults)
found_block bytes memory r is b hex (Err e) told faults = tt

-- a block has few bytes
pub few_bytes : (bytes row : List ℕ) (b : ℕ) → row ≡ block_bytes bytes b → length row ≤ 2 ^ 62
few_bytes bytes row b is = let n : length row ≡ min 4096 (length (drop (4096 * b) bytes)) = ap length is ∙ length-take 4096 (drop (4096 * b) bytes) in omega (arith, n)
