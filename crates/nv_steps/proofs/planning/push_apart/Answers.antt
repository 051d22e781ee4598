use Rattle.std.proofs.Common.{◌≡◌, ◌+◌, ◌-◌, ◌∷◌, [], ◌++◌, ◌∙◌, List, Vec, Global, drop, take, take_all, length, get_or, sym, ap, arith}
use Rattle.nv_super.specs.declared.owners.Run.{Run}
use Rattle.std.proofs.lemmas.List.Elements.{Contains-get_or}
use Rattle.nv_alloc.specs.Taking.{left, taken}
use Rattle.nv_entry.specs.declared.entry.Entry.{Entry}
use Rattle.std.proofs.lemmas.List.{length-drop}
use Rattle.nv_bytes.proofs.StoredPages.{runs_from}
use Rattle.nv_steps.specs.Writes.{run_entries}
use Rattle.nv_steps.proofs.RunEntries.{pushed_three, pushed_two}
use Rattle.nv_steps.proofs.planning.push_apart.Goals as goal
use Rattle.nv_steps.proofs.planning.push_apart.Goals.{then-count-gt1, else-count-gt1}

abbrev none : Run
none = record { start = 0; count = 0 }

pub overflow_add-rest : goal.overflow_add-rest
overflow_add-rest c = let known = c.requires.blocks (get_or c.args.runs.now 0 none) (Contains-get_or c.args.runs.now 0 none c.requires.some) in omega (arith, known.1)

pub overflow_sub-plan : goal.overflow_sub-plan
overflow_sub-plan c = let known = c.requires.blocks (get_or c.args.runs.now 0 none) (Contains-get_or c.args.runs.now 0 none c.requires.some) in omega (arith, known.0)

pub returns : goal.returns
returns c =
    let runs = c.args.runs.now in
    let plan = c.args.plan.now in
    let old = c.args.entries.now.items in
    let r = get_or runs 0 none in
    let rest = take (length runs - 1) (drop 1 runs) in
    let others : rest ≡ drop (0 + 1) runs = take_all (length runs - 1) (drop 1 runs) (omega (arith, length-drop 1 runs)) in
    let known = c.requires.blocks r (Contains-get_or runs 0 none c.requires.some) in
    let whole : r ∷ rest ≡ runs = ap (λ (xs : List Run). r ∷ xs) others ∙ sym (runs_from runs 0 none c.requires.some) in
    let goes : List Entry → List Entry = λ xs. xs ++ run_entries plan (plan.first + r.count - 1) rest in
    let said : List Run → List Entry = λ xs. old ++ run_entries plan c.args.page (taken 1 xs) ++ run_entries plan plan.first (left 1 xs) in
    elim c.if-count-gt1.branch [
      | then-count-gt1 w ↦
          c.push_entries-2.ensures.items ∙ ap goes (ap (λ (v : Vec Entry Global). v.items) w.entries-is ∙ w.push_entries-then-count-gt1.ensures.items ∙ ap (λ (xs : List Entry). xs ++ run_entries plan plan.first (record { start = r.start + 1; count = r.count - 1 } ∷ [])) c.push_entries.ensures.items)
          ∙ pushed_three plan c.args.page r rest old w.if-count-gt1.true ∙ ap said whole
      | else-count-gt1 w ↦
          c.push_entries-2.ensures.items ∙ ap goes (ap (λ (v : Vec Entry Global). v.items) w.entries-is ∙ c.push_entries.ensures.items)
          ∙ pushed_two plan c.args.page r rest old (omega (arith, known.0, w.if-count-gt1.false)) ∙ ap said whole
    ]
