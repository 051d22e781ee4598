use Rattle.std.proofs.Common.{◌≡◌, ◌≢◌, ◌⊎◌, inl, inr, ◌<◌, ◌+◌, ◌/◌, ◌%◌, ℕ, List, length, drop, refl, sym, ap, ◌∙◌, subst, arith}
use Rattle.std.proofs.lemmas.Bool.{true≢false}
use Rattle.std.proofs.lemmas.Result.{err_from_is_err_and}
use Rattle.byteorder.specs.Endian.{little_number}
use Rattle.nv_region.specs.Region.{region_of, word}
use Rattle.nv_region.proofs.Bytes.{size_of_bytes}
use Rattle.nv_super.specs.Layout.{most_blocks}
use Rattle.nv_metadata.proofs.Refused.{length_refused, refused_there}
use Rattle.nv_metadata.proofs.Ready.{says}
use Rattle.nv_metadata.proofs.HandedOn.{passed_on}
use Rattle.nv_metadata.proofs.Shown.{word_read}
use Rattle.nv_metadata.proofs.gathering.read_front_on.Goals as goal

pub returns-then-size-ne0-clause-read : goal.returns-then-size-ne0-clause-read
returns-then-size-ne0-clause-read g c image known =
    let P : ℕ → Type 0 = λ n. (n % 4096 ≢ 0) ⊎ ((n / 4096 < 8) ⊎ (most_blocks < n / 4096)) in
    length_refused (region_of image) (subst P (c.in_ok-size.ensures.count image known ∙ sym (size_of_bytes image)) (elim c.then-size-ne0.either [
      | inl cut ↦ inl cut
      | inr other ↦ elim other [ inl few ↦ inr (inl few.1) | inr many ↦ inr (inr many.2) ]
    ]))

pub read_accepted_on-requires-clause-says : goal.read_accepted_on-requires-clause-says
read_accepted_on-requires-clause-says g c lifetimes lives =
    let made = c.new-alone.ensures in
    let items = c.deref.ensures.value in
    says c.in-Ok.sup c.in_ok-first.first.items c.new-alone.result.region c.in_ok-first.ensures.count c.in-Ok.ensures.blocks
    (λ at aligned within. made.front at aligned (omega (arith, within, ap length items)) ∙ ap (λ (l : List ℕ). little_number 8 (drop at l)) items) c.in-Ok.ensures.accepted

pub returns-in-Ok-clause-read : goal.returns-in-Ok-clause-read
returns-in-Ok-clause-read g c image known =
    let as_long : c.in_ok-size.size ≡ length image = c.in_ok-size.ensures.count image known in
    let words = c.in-Ok.ensures.blocks.0 in
    let same_words = c.new-alone.ensures.blocks.0 in
    c.read_accepted_on.ensures.read image known (omega (arith, as_long, words, same_words, c.if-size-ne0.false)) (c.in_ok-first.ensures.read image known)

pub returns-in-Ok-clause-known : goal.returns-in-Ok-clause-known
returns-in-Ok-clause-known g c image known =
    let as_long : c.in_ok-size.size ≡ length image = c.in_ok-size.ensures.count image known in
    let words = c.in-Ok.ensures.blocks.0 in
    let same_words = c.new-alone.ensures.blocks.0 in
    c.read_accepted_on.ensures.known image known (omega (arith, as_long, words, same_words, c.if-size-ne0.false))

pub returns-in-Err-clause-read : goal.returns-in-Err-clause-read
returns-in-Err-clause-read g c image known =
    let as_long : c.in_ok-size.size ≡ length image = c.in_ok-size.ensures.count image known in
    let made = c.new-alone.ensures in
    let words = made.blocks.0 in
    let rest = made.blocks.1 in
    let items = c.deref.ensures.value in
    let count : length c.deref.result.now ≡ 4096 = omega (arith, ap length items, c.in_ok-first.ensures.count) in
    refused_there (region_of image) c.new-alone.result.region (omega (arith, as_long, words, rest, size_of_bytes image, c.if-size-ne0.false))
    (λ at aligned low. made.front at aligned (omega (arith, low, aligned, count)) ∙ ap (λ (l : List ℕ). little_number 8 (drop at l)) items
    ∙ word_read image c.in_ok-first.first.items 0 at (c.in_ok-first.ensures.read image known) refl aligned (omega (arith, low, aligned, c.in_ok-first.ensures.count)) ∙ ap (word (region_of image)) (let same : 0 + at ≡ at = omega arith in same))
    c.in-Err.fault c.in-Err.ensures.refused

pub returns-in_err-size-clause-known : goal.returns-in_err-size-clause-known
returns-in_err-size-clause-known g c image known = absurd (true≢false (c.in_err-size.ensures.known image known))

pub returns-in_err-first-clause-known : goal.returns-in_err-first-clause-known
returns-in_err-first-clause-known g c image known =
    let as_long : c.in_ok-size.size ≡ length image = c.in_ok-size.ensures.count image known in
    let error = err_from_is_err_and c.from_residual-in_err-first.result c.from_residual-in_err-first.ensures.1 in
    passed_on c.from_residual-in_err-first.result c.in_err-first.field-0.0 error.0 error.1 error.2 (c.in_err-first.ensures.known image known (omega (arith, as_long, c.if-blocks-lt-LEAST_BLOCKS.false)))
