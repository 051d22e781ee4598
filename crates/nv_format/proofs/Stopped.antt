-- What a stop may leave of format, at each of its steps.
use Rattle.std.proofs.Common.{◌≡◌, ◌⊎◌, inl, inr, ℕ, ◌*◌, ◌<◌, refl, ap, sym, ◌∙◌, subst, arith}
use Rattle.nv_region.specs.Region.{Region, HasBlocks, size, word, put}
use Rattle.nv_region.specs.Stops.{Choices, IsMixed, LeavesOnly, NothingPending}
use Rattle.nv_region.specs.Stored.{StoresOnly}
use Rattle.nv_region.proofs.Stops.{mixed_left, mixed_same}
use Rattle.nv_super.specs.declared.superblock.Super.{Super}
use Rattle.nv_super.specs.declared.superblock.SuperFault.{SuperFault}
use Rattle.nv_super.specs.declared.superblock.SuperFault.TheVariants.{Length, Magic, Version, Cpus, Blocks, Tables, State}
use Rattle.nv_super.specs.Layout.{IsLayout}
use Rattle.nv_super.specs.Super.{Applies, IsRefused, rank, magic}
use Rattle.nv_format.specs.Format.{AnyAt, IsSystemWord, IsRootWord, IsFormatted, FormatLeaves}
use Rattle.nv_format.proofs.Kept.{put_blocks, kept_at}
use Rattle.nv_region.proofs.Puts.{blocks_stay, put_here}
use Rattle.nv_format.proofs.Tables.{no_pointer, no_valid_word, no_root_word}

-- a region of a right length whose first word is 0 is refused for its magic
no_magic : (s : Super) (R : Region) → IsLayout s → HasBlocks R s.blocks → word R 0 ≡ 0 → IsRefused R Magic
no_magic s R layout blocks zero_word = record { applies = λ e. clash (sym e ∙ zero_word); first = first }
  where
    clash : magic ≡ 0 → ⊥
    clash e = omega (arith, e)

    long : size R ≡ 4096 * s.blocks
    long = let words = blocks.0 in let rest = blocks.1 in omega (arith, words, rest)

    first : (other : SuperFault) → rank other < rank Magic → Applies R other → ⊥
    first Length before applies = let e = long in let from = layout.blocks_from in let to = layout.blocks_to in elim applies [
      | inl part ↦ part (omega (arith, e))
      | inr other ↦ elim other [ inl few ↦ omega (arith, e, few, from) | inr many ↦ omega (arith, e, many, to) ]
    ]
    first Magic before applies = absurd (omega (arith, before))
    first Version before applies = absurd (omega (arith, before))
    first Cpus before applies = absurd (omega (arith, before))
    first Blocks before applies = absurd (omega (arith, before))
    first Tables before applies = absurd (omega (arith, before))
    first State before applies = absurd (omega (arith, before))

module _ (s : Super) (time : ℕ) (layout : IsLayout s) (old : Region) (blocks : HasBlocks old s.blocks) where
  not_first : IsSystemWord s 0 ⊎ IsRootWord s 0 → ⊥
  not_first laid = elim laid [
    | inl system ↦ elim system [
      | inl number ↦ (let from = number.0 in omega (arith, from))
      | inr area ↦ elim area [ inl pointer ↦ no_pointer s 0 (omega arith) pointer | inr valid ↦ no_valid_word s 0 (omega arith) valid ]
    ]
    | inr root ↦ no_root_word s 0 layout (omega arith) root
  ]

  -- while the layout is stored, the first word is 0
  pub mixed_refused : (left : Region) → IsMixed (put old 0 0) (AnyAt (λ a. IsSystemWord s a ⊎ IsRootWord s a)) left → IsRefused left Magic
  mixed_refused left mixed =
      no_magic s left layout (blocks_stay (put old 0 0) left (AnyAt (λ a. IsSystemWord s a ⊎ IsRootWord s a)) s.blocks mixed (put_blocks old 0 0 s.blocks blocks))
      (kept_at (put old 0 0) left (λ a. IsSystemWord s a ⊎ IsRootWord s a) 0 refl not_first mixed ∙ put_here old 0 0 (let words = blocks.0 in let from = layout.blocks_from in omega (arith, words, from)))

  pub taken_leaves : (left : Region) → (left ≡ old) ⊎ (left ≡ put old 0 0) → FormatLeaves old s time left
  taken_leaves left (inl before) = inl before
  taken_leaves left (inr gone) = inr (inl (subst (λ (r : Region). IsRefused r Magic) (sym gone) (mixed_refused (put old 0 0) (mixed_same (put old 0 0) (AnyAt (λ a. IsSystemWord s a ⊎ IsRootWord s a))))))

  pub laying_leaves : (R Q : Region) (before after : Choices) → R ≡ put old 0 0 → NothingPending R before → StoresOnly (AnyAt (λ a. IsSystemWord s a ⊎ IsRootWord s a)) R Q before after
      → LeavesOnly Q after (FormatLeaves old s time)
  laying_leaves R Q before after gone settled wrote left may =
      inr (inl (mixed_refused left (subst (λ (r : Region). IsMixed r (AnyAt (λ a. IsSystemWord s a ⊎ IsRootWord s a)) left) gone
      (mixed_left R Q (AnyAt (λ a. IsSystemWord s a ⊎ IsRootWord s a)) before after wrote.mixed.as_long wrote.mixed.same_rest settled wrote.adds left may))))

  pub magic_leaves : (R Q S left : Region) → R ≡ put old 0 0 → IsMixed R (AnyAt (λ a. IsSystemWord s a ⊎ IsRootWord s a)) Q → S ≡ Q → IsFormatted old (put Q 0 magic) s time
      → (left ≡ S) ⊎ (left ≡ put S 0 magic) → FormatLeaves old s time left
  magic_leaves R Q S left gone mixed same formatted (inl before) =
      inr (inl (subst (λ (r : Region). IsRefused r Magic) (sym (before ∙ same)) (mixed_refused Q (subst (λ (r : Region). IsMixed r (AnyAt (λ a. IsSystemWord s a ⊎ IsRootWord s a)) Q) gone mixed))))
  magic_leaves R Q S left gone mixed same formatted (inr after) =
      inr (inr (subst (λ (r : Region). IsFormatted old r s time) (sym (after ∙ ap (λ (r : Region). put r 0 magic) same)) formatted))
