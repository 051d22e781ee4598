use Rattle.std.proofs.Common.{◌*◌, ◌/◌, refl, ◌∙◌, arith, inl, inr}
use Rattle.std.proofs.lemmas.Bool.{cases_eq}
use Rattle.nv_radix.proofs.Halves.{or_kept, or_here, first_ready}
use Rattle.nv_radix.proofs.index.FileIndex.reserve.Goals as goal
use Rattle.nv_radix.proofs.index.FileIndex.reserve.Goals.{then-page-lt64+in_ok-make_first_ready, else-page-lt64}

pub loop-leaf-init : goal.loop-leaf-init
loop-leaf-init c = elim c.if-page-lt64.branch [
  | then-page-lt64+in_ok-make_first_ready w ↦ rw w.self-is (
    λ p. w.make_first_ready.ensures.blocks p,
    λ p h. w.in_ok-make_first_ready.ensures.ready p ∙ or_kept _ _ h,
    λ p l k m. w.in_ok-make_first_ready.ensures.ready p ∙ first_ready w.min.result p _ (omega (arith, k, m, w.min.ensures, c.max-leaf.ensures, w.if-page-lt64.true)),
  )
  | else-page-lt64 w ↦ rw w.self-is (
    λ p. refl,
    λ p h. h,
    λ p l k m. absurd (omega (arith, l, m, c.max-leaf.ensures, w.if-page-lt64.false)),
  )
]

pub returns-in_err-make_leaf_ready-clause-blocks : goal.returns-in_err-make_leaf_ready-clause-blocks
returns-in_err-make_leaf_ready-clause-blocks c = λ p. c.make_leaf_ready.ensures.blocks p ∙ c.loop-leaf.invariant.0 p

pub returns-in_err-make_leaf_ready-clause-keeps : goal.returns-in_err-make_leaf_ready-clause-keeps
returns-in_err-make_leaf_ready-clause-keeps c = λ p h. c.in_err-make_leaf_ready.ensures.err p ∙ c.loop-leaf.invariant.1 p h

pub loop-leaf-preserved : goal.loop-leaf-preserved
loop-leaf-preserved c = (
  λ p. c.make_leaf_ready.ensures.blocks p ∙ c.loop-leaf.invariant.0 p,
  λ p h. c.in_ok-make_leaf_ready.ensures.ready p ∙ or_kept _ _ (c.loop-leaf.invariant.1 p h),
  λ p l k h. c.in_ok-make_leaf_ready.ensures.ready p ∙ elim (cases_eq (p / 64) c.loop-leaf.leaf) [ inl e ↦ or_here (p / 64) (c.loop-leaf.leaf * 64 / 64) _ (omega (arith, e)) | inr n ↦ or_kept _ _ (c.loop-leaf.invariant.2 p l k (omega (arith, h, n))) ],
)

pub returns-clause-blocks : goal.returns-clause-blocks
returns-clause-blocks c = c.loop-leaf.invariant.0

pub returns-clause-keeps : goal.returns-clause-keeps
returns-clause-keeps c = c.loop-leaf.invariant.1

pub returns-clause-ready : goal.returns-clause-ready
returns-clause-ready c = λ p l h. c.loop-leaf.invariant.2 p l h (omega (arith, h, c.loop-leaf-test.false))
