use Rattle.std.proofs.Common.{◌≡◌, ◌-◌, ◌++◌, ℕ, List, [], length, take, drop, sym, ap, ◌∙◌, subst, arith, append-nil, length-drop, length-take}
use Rattle.std.proofs.lemmas.List.{drop_all}
use Rattle.std.proofs.lemmas.Slice.{take-put_mid_below}
use Rattle.nv_metadata.specs.Blocks.{AreBytesAt}
use Rattle.nv_metadata.proofs.Shown.{read_on}
use Rattle.nv_metadata.proofs.gathering.read_behind_on.Goals as goal

pub returns-in_err-read_quarters-clause-begins : goal.returns-in_err-read_quarters-clause-begins
returns-in_err-read_quarters-clause-begins g c = take-put_mid_below 4096 (length c.args.front.now - 4096) c.args.front.now c.read_quarters.new.into 4096 (omega arith) (omega (arith, c.requires.begins))

pub returns-clause-begins : goal.returns-clause-begins
returns-clause-begins g c = take-put_mid_below 4096 (length c.args.front.now - 4096) c.args.front.now c.read_quarters.new.into 4096 (omega arith) (omega (arith, c.requires.begins))

pub returns-clause-read : goal.returns-clause-read
returns-clause-read g c image known begins =
    let front = c.args.front.now in
    let into = c.read_quarters.new.into in
    let none : drop (length front - 4096) (drop 4096 front) ≡ [] = drop_all (length front - 4096) (drop 4096 front) (omega (arith, length-drop 4096 front)) in
    subst (λ (l : List ℕ). AreBytesAt image 0 l) (sym (ap (λ (l : List ℕ). take 4096 front ++ (into ++ l)) none ∙ ap (λ (l : List ℕ). take 4096 front ++ l) (append-nil into)))
    (read_on image (take 4096 front) into 0 4096 begins (c.in_ok-read_quarters.ensures.read image known) (omega (arith, length-take 4096 front, c.requires.begins)))
