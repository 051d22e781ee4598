use Rattle.std.proofs.Common.{◌≡◌, ◌∙◌, ◌<◌, ◌+◌, ℕ, List, sym, ap, arith, length, get_or, subst}
use Rattle.std.proofs.Math.ListN.{set, length-set}
use Rattle.std.proofs.lemmas.List.{length-replicate}
use Rattle.std.proofs.lemmas.Result.{IfOk-from_err}
use Rattle.nv_cross_check.specs.Listings.{inodes_of}
use Rattle.nv_cross_check.specs.Words.{places_in}
use Rattle.nv_cross_check.specs.Steps.{ArePlacesTo}
use Rattle.nv_cross_check.proofs.PlaceTable.{words_more, words_none, vacant_next, small_place}
use Rattle.nv_cross_check.proofs.Follow.{inodes_len, head_at, head_below}
use Rattle.nv_cross_check.proofs.places.places_of.Goals as goal

pub returns-in_err-words : goal.returns-in_err-words
returns-in_err-words c = IfOk-from_err c.from_residual.result _ c.from_residual.ensures.0

pub loop-place-init : goal.loop-place-init
loop-place-init c =
    let e = c.in_ok-words.ensures.items in
    let P : List ℕ → Type 0 = λ words. ArePlacesTo (inodes_of c.args.listings.now) 0 (places_in words) in (
      ap length e ∙ length-replicate c.args.end 0,
      subst P (sym e) (words_none (inodes_of c.args.listings.now) c.args.end),
      omega (arith, c.in_ok-words.ensures.ready, c.len.ensures, c.len-place-end.ensures),
    )

pub insert-requires-clause-within : goal.insert-requires-clause-within
insert-requires-clause-within c =
    let small = head_below _ c.args.listings.now c.loop-place.place c.head.result c.requires.apart c.head.ensures in
    omega (arith, small, c.loop-place.invariant.0)

pub insert-requires-clause-vacant : goal.insert-requires-clause-vacant
insert-requires-clause-vacant c =
    let inodes = inodes_of c.args.listings.now in
    let n = c.loop-place.place in
    let words = c.loop-place.words.items in
    let len = inodes_len c.args.listings.now in
    let here : get_or inodes n 0 ≡ c.head.result.inode = head_at c.args.listings.now n c.head.result c.head.ensures in
    ap (λ (i : ℕ). get_or words i 0) (sym here) ∙ vacant_next inodes n words c.requires.apart.once (omega (arith, c.head.ensures.1.0, len)) c.loop-place.invariant.1

pub overflow_cast-place : goal.overflow_cast-place
overflow_cast-place c =
    let small = small_place c.args.end (inodes_of c.args.listings.now) c.loop-place.place c.requires.small c.requires.apart (omega (arith, c.loop-place-test.true, c.len-place-end.ensures, inodes_len c.args.listings.now)) in omega (arith, small)

pub overflow_add-place : goal.overflow_add-place
overflow_add-place c =
    let small = small_place c.args.end (inodes_of c.args.listings.now) c.loop-place.place c.requires.small c.requires.apart (omega (arith, c.loop-place-test.true, c.len-place-end.ensures, inodes_len c.args.listings.now)) in omega (arith, small)

pub loop-place-preserved : goal.loop-place-preserved
loop-place-preserved c =
    let inodes = inodes_of c.args.listings.now in let h = c.head.result in let n = c.loop-place.place in
    let words = c.loop-place.words.items in
    let len = inodes_len c.args.listings.now in
    let here : get_or inodes n 0 ≡ h.inode = head_at c.args.listings.now n h c.head.ensures in
    let small : h.inode < c.args.end = head_below _ c.args.listings.now n h c.requires.apart c.head.ensures in
    let within : get_or inodes n 0 < length words = omega (arith, here, small, c.loop-place.invariant.0) in
    let P : ℕ → Type 0 = λ i. ArePlacesTo inodes (n + 1) (places_in (set words i (n + 1))) in
    let Q : List ℕ → Type 0 = λ xs. ArePlacesTo inodes (n + 1) (places_in xs) in (
      ap length c.insert.ensures.items ∙ length-set words h.inode (n + 1) ∙ c.loop-place.invariant.0,
      subst Q (sym c.insert.ensures.items) (subst P here (words_more inodes n words c.requires.apart.once (omega (arith, c.head.ensures.1.0, len)) within c.loop-place.invariant.1)),
      omega (arith, c.loop-place.invariant.2, c.insert.ensures.room),
    )

pub returns : goal.returns
returns c =
    let e : c.loop-place.place ≡ length c.args.listings.now = omega arith in
    let P : ℕ → Type 0 = λ n. ArePlacesTo (inodes_of c.args.listings.now) n (places_in c.loop-place.words.items) in subst P e c.loop-place.invariant.1
