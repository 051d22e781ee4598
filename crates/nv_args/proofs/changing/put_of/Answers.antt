use Rattle.std.proofs.Common.{rules, ◌∙◌, sym, codes}
use Rattle.std.proofs.lemmas.Bool.{true≢false}
use Rattle.clap.specs.Walk.{rows_of}
use Rattle.clap.specs.Matches.{found_of}
use Rattle.nv_args.specs.Words.{Asks}
use Rattle.nv_args.specs.declared.todo.Todo.{Todo}
use Rattle.nv_args.specs.declared.todo.Todo.TheVariants.{Change, PutTree, View}
use Rattle.nv_args.specs.declared.views.View.TheVariants.{Logs, Block, Usage, Folders, Difference}
use Rattle.nv_args.proofs.changing.put_of.Goals as goal

-- what asks for a file asks for no tree
pub returns-else-is_given-clause-none : goal.returns-else-is_given-clause-none
returns-else-is_given-clause-none c none = other
  where
    other : (todo : Todo) → ¬ Asks (codes "put") (rows_of (found_of c.args.values.now)) todo
    other (Change image change cpu time) asks = c.change_of.ensures.none none image change cpu time asks
    other (PutTree image host path cpu time) asks = true≢false (sym (c.is_given.ensures.1 asks.1.5) ∙ c.if-is_given.false)
    other (View (Logs image)) asks = search rules
    other (View (Block image block hex)) asks = search rules
    other (View (Usage image which)) asks = search rules
    other (View (Folders image which long)) asks = search rules
    other (View (Difference image second)) asks = search rules
    other _ asks = search rules
