use Rattle.std.proofs.Common.{◌∙◌, ◌==◌, ℕ, ap}
use Rattle.nv_calls.proofs.Mounted.{open_kept, told_faults}
use Rattle.nv_calls.proofs.fs.Fs.open.Goals as goal

pub invariant_of-result : goal.invariant_of-result
invariant_of-result g c =
    let found = c.args.recovered in
    let empty = c.is_empty-read_only.ensures ∙ ap (λ (n : ℕ). n == 0) found.faults.ok.0 in (
      open_kept _ found c.requires.outcome c.requires.tables c.requires.lists c.requires.own _ (told_faults _ found.faults.items empty),
      c.requires.numbers,
      λ _. c.requires.settled,
    )
