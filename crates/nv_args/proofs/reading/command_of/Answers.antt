use Rattle.clap.specs.Walk.{rows_of}
use Rattle.clap.specs.Matches.{found_of}
use Rattle.nv_args.specs.Words.{Asks}
use Rattle.nv_args.specs.declared.todo.Todo.{Todo}
use Rattle.nv_args.specs.declared.todo.Todo.TheVariants.{Version, Run, Shell, Check, Mkfs, Clean, Change, PutTree, Untar, Recover, Ls, Stat, Cat, Tar, Log, View, Explain, Map}
use Rattle.nv_args.specs.declared.views.View.TheVariants.{Logs, Block, Usage, Folders, Difference}
use Rattle.nv_args.proofs.reading.command_of.Goals as goal

-- what has another name than each of the commands is a change
pub returns-in_default-clause-none : goal.returns-in_default-clause-none
returns-in_default-clause-none c none check = other
  where
    other : (todo : Todo) → ¬ Asks c.args.name.now (rows_of (found_of c.args.values.now)) todo
    other Version asks = asks.1
    other (Run script image save force strict) asks = c.in_default.not-run asks.0
    other (Shell image force) asks = c.in_default.not-shell asks.0
    other (Check paths workers output) asks = check asks.0
    other (Mkfs image blocks cpus tables layout force) asks = c.in_default.not-mkfs asks.0
    other (Clean image path) asks = c.in_default.not-clean asks.0
    other (Change image change cpu time) asks = c.change_of.ensures.none none image change cpu time asks
    other (PutTree image host path cpu time) asks = c.in_default.not-put asks.0
    other (Untar image path cpu) asks = c.in_default.not-untar asks.0
    other (Recover image dry_run) asks = c.in_default.not-recover asks.0
    other (Ls image which long) asks = c.in_default.not-ls asks.0
    other (Stat image which) asks = c.in_default.not-stat asks.0
    other (Cat image which) asks = c.in_default.not-cat asks.0
    other (Tar image which lost) asks = c.in_default.not-tar asks.0
    other (Log image which) asks = c.in_default.not-log asks.0
    other (View (Logs image)) asks = c.in_default.not-log asks.0
    other (View (Block image block hex)) asks = c.in_default.not-block asks.0
    other (View (Usage image which)) asks = c.in_default.not-du asks.0
    other (View (Folders image which long)) asks = c.in_default.not-ls asks.0
    other (View (Difference image second)) asks = c.in_default.not-diff asks.0
    other (Explain class) asks = c.in_default.not-explain asks.0
    other (Map image svg force) asks = c.in_default.not-map asks.0
