-- What a parse of the program's command line tells of its words.
use Rattle.std.proofs.Common.{◌≡◌, ◌⊎◌, inl, inr, true, refl, sym, subst, List, [], Option, Some, None, Result, Ok, Err, IfOk, IfErr, IfSome, IsNone, IsTrue}
use Rattle.clap.specs.Walk.{Text}
use Rattle.clap.specs.Simple.{App, HasMatchesOf, is_simple, subcommand_rows_of}
use Rattle.clap.specs.Faults.{fault_of, is_simple_and_free}
use Rattle.clap.specs.Kinds.{HasKind, IsAmong, Kinds}
use Rattle.clap.specs.Values.{kind_of}
use Rattle.clap.specs.declared.error.Error.{Error}
use Rattle.clap.specs.declared.error.kind.ErrorKind.{ErrorKind}
use Rattle.clap.specs.declared.error.kind.ErrorKind.TheVariants.{OutOfMemory}
use Rattle.clap.specs.declared.parser.matches.ArgMatches.{ArgMatches}
use Rattle.nv_args.specs.CommandLine.{nova_app}
use Rattle.nv_args.specs.UsageValue.{is_memory}
use Rattle.nv_args.specs.Words.{Says, CommandSays}
use Rattle.nv_args.specs.declared.todo.Todo.{Todo}

-- `clap` tells in full what it takes
nova_is_simple : is_simple nova_app ≡ true
nova_is_simple = refl

nova_is_free : is_simple_and_free nova_app ≡ true
nova_is_free = refl

by_kinds : (k : ErrorKind) (kinds : Kinds) → (k ≡ OutOfMemory) ⊎ IsAmong k kinds → kinds ≡ [] → IsTrue (is_memory k)
by_kinds k kinds (inl memory) none = subst (λ k. IsTrue (is_memory k)) (sym memory) refl
by_kinds k kinds (inr among) none = absurd (subst (IsAmong k) none among)

-- words without fault are refused only for want of memory
pub only_memory : (app : App) (words : List Text) (e : Error) → app ≡ nova_app → (is_simple_and_free app ≡ true → HasKind (fault_of app words) e)
    → fault_of nova_app words ≡ [] → IsTrue (is_memory (kind_of e))
only_memory app words e is kinds none =
    by_kinds (kind_of e) (fault_of nova_app words) (subst (λ app. is_simple_and_free app ≡ true → HasKind (fault_of app words) e) is kinds nova_is_free) none

-- words that are taken ask for what the command that was met asks for
pub taken_say : (app : App) (words : List Text) (m : ArgMatches) → app ≡ nova_app → (is_simple_and_free app ≡ true → fault_of app words ≡ [])
    → HasMatchesOf app words m → (todo : Todo) → Says (subcommand_rows_of m) todo → CommandSays words todo
taken_say app words m is kinds matches todo says =
    let none = subst (λ app. is_simple_and_free app ≡ true → fault_of app words ≡ []) is kinds nova_is_free in
    let rows = subst (λ app. HasMatchesOf app words m) is matches nova_is_simple in
    (none, subst (λ met. Says met todo) rows.1 says)

-- and for nothing else
pub say_taken : (app : App) (words : List Text) (m : ArgMatches) → app ≡ nova_app → HasMatchesOf app words m
    → (todo : Todo) → CommandSays words todo → Says (subcommand_rows_of m) todo
say_taken app words m is matches todo says =
    let rows = subst (λ app. HasMatchesOf app words m) is matches nova_is_simple in
    subst (λ met. Says met todo) (sym rows.1) says.1

-- what is asked for is what was found
pub asked_is_found : {T E U : Type 0} (found : Result (Option T) E) (r : Result T U) (P : T → Type 0) → IfOk r (λ x. found ≡ Ok (Some x))
    → IfOk found (λ o. IfSome o P) → IfOk r P
asked_is_found found (Ok x) P is holds = subst (λ f. IfOk f (λ o. IfSome o P)) is holds
asked_is_found found (Err u) P is holds = tt

-- where nothing is asked for, nothing was found, or memory was refused
pub none_is_asked : {T E U : Type 0} (found : Result (Option T) E) (r : Result T U) (Q : T → Type 0) (P : U → Type 0) → IfErr r (λ u. (found ≡ Ok None) ⊎ P u)
    → IfOk found (λ o. IsNone o → (t : T) → Q t → ⊥) → IfErr r (λ u. (t : T) → Q t → P u)
none_is_asked found (Ok x) Q P h none = tt
none_is_asked found (Err u) Q P h none = elim h [
  | inl is ↦ λ t q. (let nothing = subst (λ f. IfOk f (λ o. IsNone o → (t : _) → Q t → ⊥)) is none in absurd (nothing refl t q))
  | inr memory ↦ λ t q. memory
]

some_weaker : {T : Type 0} (found : Option T) (P Q : T → Type 0) → ((x : T) → P x → Q x) → IfSome found P → IfSome found Q
some_weaker (Some x) P Q weaker holds = weaker x holds
some_weaker None P Q weaker holds = tt

pub ok_weaker : {T E : Type 0} (found : Result (Option T) E) (P Q : T → Type 0) → ((x : T) → P x → Q x) → IfOk found (λ o. IfSome o P) → IfOk found (λ o. IfSome o Q)
ok_weaker (Ok o) P Q weaker holds = some_weaker o P Q weaker holds
ok_weaker (Err e) P Q weaker holds = tt

pub none_weaker : {T E : Type 0} (found : Result (Option T) E) (P Q : T → Type 0) → ((x : T) → Q x → P x) → IfOk found (λ o. IsNone o → (t : T) → P t → ⊥)
    → IfOk found (λ o. IsNone o → (t : T) → Q t → ⊥)
none_weaker (Ok o) P Q stronger holds = λ none t q. holds none t (stronger t q)
none_weaker (Err e) P Q stronger holds = tt
