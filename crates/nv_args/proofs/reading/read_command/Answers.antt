use Rattle.std.proofs.Common.{map}
use Rattle.clap.specs.Simple.{subcommand_rows_of}
use Rattle.nv_args.specs.Words.{Says, WantsMemory, CommandSays}
use Rattle.nv_args.proofs.Line.{only_memory, taken_say, say_taken, asked_is_found, none_is_asked, ok_weaker, none_weaker}
use Rattle.nv_args.proofs.reading.read_command.Goals as goal

pub returns-in-Ok-try_get_matches_from-clause-ok : goal.returns-in-Ok-try_get_matches_from-clause-ok
returns-in-Ok-try_get_matches_from-clause-ok c =
    let taken = c.in-Ok-try_get_matches_from in
    let words = map (λ word. word.now) c.args.words.now in
    asked_is_found c.todo_of.result c.asked.result (λ todo. CommandSays words todo) c.asked.ensures.ok
    (ok_weaker c.todo_of.result (λ todo. Says (subcommand_rows_of taken.matches) todo) (λ todo. CommandSays words todo)
    (taken_say _ words taken.matches c.in-Ok.ensures taken.ensures.kinds taken.ensures.matches) c.todo_of.ensures.some)

pub returns-in-Ok-try_get_matches_from-clause-err : goal.returns-in-Ok-try_get_matches_from-clause-err
returns-in-Ok-try_get_matches_from-clause-err c =
    let taken = c.in-Ok-try_get_matches_from in
    let words = map (λ word. word.now) c.args.words.now in
    none_is_asked c.todo_of.result c.asked.result (λ todo. CommandSays words todo) WantsMemory c.asked.ensures.err
    (none_weaker c.todo_of.result (λ todo. Says (subcommand_rows_of taken.matches) todo) (λ todo. CommandSays words todo)
    (say_taken _ words taken.matches c.in-Ok.ensures taken.ensures.matches) c.todo_of.ensures.none)

pub returns-in-Err-clause-err : goal.returns-in-Err-clause-err
returns-in-Err-clause-err c = λ todo says. only_memory _ _ c.in-Err.error c.in-Ok.ensures c.in-Err.ensures.kinds says.0
