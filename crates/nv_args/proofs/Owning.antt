-- Words that are no owner with a group, and checks that print nothing.
use Rattle.std.proofs.Common.{rules, ◌≡◌, ◌∙◌, ◌<◌, ℕ, List, length, map, ap, sym, subst, arith, Option, Some, None, Bor, codes}
use Rattle.std.proofs.lemmas.List.{length-map}
use Rattle.std.proofs.lemmas.Str.Pattern.{IsSplitOnceResult, split_once_first}
use Rattle.clap.specs.Walk.{Row, Text, all_of}
use Rattle.nv_args.specs.Changes.{AreOwners, IsId}
use Rattle.nv_args.specs.Words.{Asks, IsOutput}
use Rattle.nv_args.specs.declared.todo.CheckOutput.{CheckOutput}
use Rattle.nv_args.specs.declared.todo.Todo.{Todo}
use Rattle.nv_args.specs.declared.todo.Todo.TheVariants.{Check}

ascii-58 : 58 < 128
ascii-58 = search rules

-- where the number of the owner can't be read, nothing is an owner with a group
pub no_owner : (text : Text) (x y : Bor Text) → IsSplitOnceResult 58 text (Some (x, y)) → ((number : ℕ) → ¬ IsId x.now number) → (owner : ℕ) (group : Option ℕ) → ¬ AreOwners text owner group
no_owner text x y split none owner None asks = (let parts = split_once_first 58 text (Some (x, y)) split ascii-58 in omega (arith, parts.0, asks.0))
no_owner text x y split none owner (Some group) asks = (let parts = split_once_first 58 text (Some (x, y)) split ascii-58 in none owner (subst (λ (l : Text). IsId l owner) (sym parts.1) asks.1))

-- and so where that of the group can't
pub no_group : (text : Text) (x y : Bor Text) → IsSplitOnceResult 58 text (Some (x, y)) → ((number : ℕ) → ¬ IsId y.now number) → (owner : ℕ) (group : Option ℕ) → ¬ AreOwners text owner group
no_group text x y split none owner None asks = (let parts = split_once_first 58 text (Some (x, y)) split ascii-58 in omega (arith, parts.0, asks.0))
no_group text x y split none owner (Some group) asks = (let parts = split_once_first 58 text (Some (x, y)) split ascii-58 in none group (subst (λ (l : Text). IsId l group) (sym parts.2) asks.2))

one_list : (a b : List Text) → Some a ≡ Some b → a ≡ b
one_list a b same = cc

-- a check that is to print several things asks for nothing
pub no_check : (values : List Row) (paths : List (Bor Text)) (n : ℕ) → all_of (codes "path") values ≡ Some (map (λ path. path.now) paths) → n ≡ length paths
    → ((output : CheckOutput) → ¬ IsOutput values n output) → (todo : Todo) → ¬ Asks (codes "check") values todo
no_check values paths n given long none (Check others workers output) asks =
    let same = one_list (map (λ (path : Bor Text). path.now) paths) (map (λ (path : Bor Text). path.now) others.items) (sym given ∙ asks.1.0) in
    let count : length others.items ≡ n = sym (length-map others.items (λ (path : Bor Text). path.now)) ∙ sym (ap length same) ∙ length-map paths (λ (path : Bor Text). path.now) ∙ sym long in
    none output (subst (λ (k : ℕ). IsOutput values k output) count asks.1.2)
no_check values paths n given long none _ asks = search rules
