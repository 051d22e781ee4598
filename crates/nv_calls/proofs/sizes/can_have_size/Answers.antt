use Rattle.std.proofs.Common.{◌≡◌, ℕ, ◌<◌, ◌≤◌, nat_lt, true, false, cond, [], ◌∷◌, Some, None, arith, rules}
use Rattle.std.proofs.lemmas.Bool.Decides.{nat_tests}
use Rattle.nv_super.specs.declared.kind.Kind.{Kind}
use Rattle.nv_tree.specs.declared.refusal.Refusal.TheVariants.{IsDirectory, TooLarge}
use Rattle.nv_tree.specs.Tree.{is_directory}
use Rattle.nv_tree.specs.Refusals.{first_refusal, is_too_large}
use Rattle.nv_calls.proofs.sizes.can_have_size.Goals as goal

too_large : (k : Kind) (size : ℕ) → is_directory k ≡ false → 1073741824 < size → first_refusal ((is_directory k, IsDirectory) ∷ is_too_large size ∷ []) ≡ Some TooLarge
too_large k size file above = λ i. cond (file i) (Some IsDirectory) (cond (over i) (Some TooLarge) None) where
  over : nat_lt 1073741824 size ≡ true
  over = grind (arith, nat_tests)

none_refuses : (k : Kind) (size : ℕ) → is_directory k ≡ false → size ≤ 1073741824 → first_refusal ((is_directory k, IsDirectory) ∷ is_too_large size ∷ []) ≡ None
none_refuses k size file within = λ i. cond (file i) (Some IsDirectory) (cond (under i) (Some TooLarge) None) where
  under : nat_lt 1073741824 size ≡ false
  under = grind (arith, nat_tests)

pub returns-then-size-gt-MOST_FILE_BYTES : goal.returns-then-size-gt-MOST_FILE_BYTES
returns-then-size-gt-MOST_FILE_BYTES c =
    let file : is_directory c.args.row.now.kind ≡ false = search rules in
    too_large c.args.row.now.kind c.args.size file c.if-size-gt-MOST_FILE_BYTES.true

pub returns : goal.returns
returns c =
    let file : is_directory c.args.row.now.kind ≡ false = search rules in
    none_refuses c.args.row.now.kind c.args.size file (omega (arith, c.if-size-gt-MOST_FILE_BYTES.false))
