-- What is made of a table row by row, and what a command is once it has the arguments or commands that were made.
use Rattle.std.proofs.Common.{◌≡◌, ◌∙◌, ℕ, ◌+◌, ◌<◌, ◌≤◌, refl, sym, ap, subst, List, [], ◌∷◌, ◌++◌, length, slice_index_or, map, drop, add-one, drop-cons, append_assoc, append-nil}
use Rattle.std.specs.List.{AllByRecursion, fold}
use Rattle.std.proofs.lemmas.List.{drop_all, map-append}
use Rattle.clap.specs.Walk.{rule_of}
use Rattle.clap.specs.Simple.{app_of, with_rule}
use Rattle.clap.specs.Built.{AddsArg, AddsInTurn, AddsSubcommand}
use Rattle.clap.specs.declared.builder.arg.Arg.{Arg}
use Rattle.clap.specs.declared.builder.command.Command.{Command}
use Rattle.nv_args.specs.CommandLine.{with_commands}
use Rattle.nv_args.specs.Tables.{HasLocals, IsLocal}

one_more_behind : {X : Type 0} (P : X → Type 0) (xs : List X) (x : X) → AllByRecursion P xs → P x → AllByRecursion P (xs ++ x ∷ [])
one_more_behind P [] x all one = (one, tt)
one_more_behind P (y ∷ ys) x all one = (all.0, one_more_behind P ys x all.1 one)

pub and_one_more : {X : Type 0} (P : X → Type 0) (made : List X) (x : X) (new : List X) → new ≡ made ++ x ∷ []
    → AllByRecursion P made → P x → AllByRecursion P new
and_one_more P made x new grown all one = subst (AllByRecursion P) (sym grown) (one_more_behind P made x all one)

drop-next : {A : Type 0} (l : List A) (i : ℕ) (d : A) → i < length l → drop i l ≡ slice_index_or l i d ∷ drop (i + 1) l
drop-next l i d here = rw add-one (drop-cons l i d here)

-- What is made so far, before what is left of the table, with one row of it made.
pub one_further : {A B C : Type 0} (of : A → C) (by : B → C) (made : List A) (x : A) (new : List A) → new ≡ made ++ x ∷ []
    → (table : List B) (i : ℕ) (d : B) (all : List C) → i < length table → of x ≡ by (slice_index_or table i d)
    → map of made ++ map by (drop i table) ≡ all → map of new ++ map by (drop (i + 1) table) ≡ all
one_further of by made x new grown table i d all here is so_far =
    let left = map by (drop (i + 1) table) in
    let rest : map of made ++ by (slice_index_or table i d) ∷ left ≡ all = rw (drop-next table i d here) at so_far in
    ap (λ l. map of l ++ left) grown ∙ ap (λ l. l ++ left) (map-append of made (x ∷ [])) ∙ append_assoc (map of made) (of x ∷ []) left
    ∙ ap (λ o. map of made ++ o ∷ left) is ∙ rest

pub all_made : {A B C : Type 0} (of : A → C) (by : B → C) (made : List A) (table : List B) (i : ℕ) (all : List C)
    → length table ≤ i → map of made ++ map by (drop i table) ≡ all → map of made ≡ all
all_made of by made table i all past so_far =
    let done : map of made ++ [] ≡ all = rw (drop_all i table past) at so_far in
    sym (append-nil (map of made)) ∙ done

pub with_arguments : (old new : Command) (xs : List Arg) → AddsInTurn AddsArg old xs new → AllByRecursion IsLocal xs
    → app_of new ≡ fold with_rule (app_of old) (map rule_of xs)
with_arguments old new [] adds local = ap app_of (sym adds)
with_arguments old new (x ∷ xs) adds local =
    with_arguments adds.0 new xs adds.2 local.1 ∙ ap (λ app. fold with_rule app (map rule_of xs)) (adds.1.shape local.0)

pub stays_local : (old new : Command) (xs : List Arg) → AddsInTurn AddsArg old xs new → AllByRecursion IsLocal xs → HasLocals old → HasLocals new
stays_local old new [] adds local before = subst HasLocals adds before
stays_local old new (x ∷ xs) adds local before = stays_local adds.0 new xs adds.2 local.1 (rw (adds.1.globals, before, local.0) refl)

pub with_subcommands : (old new : Command) (xs : List Command) → AddsInTurn AddsSubcommand old xs new → AllByRecursion HasLocals xs
    → app_of new ≡ with_commands (app_of old) (map app_of xs)
with_subcommands old new [] adds local = ap app_of (sym adds)
with_subcommands old new (x ∷ xs) adds local =
    with_subcommands adds.0 new xs adds.2 local.1 ∙ ap (λ app. with_commands app (map app_of xs)) (adds.1.shape local.0)
