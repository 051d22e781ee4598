use Rattle.std.proofs.Common.{◌≡◌, ◌∙◌, ℕ, if◌then◌else◌, true, sym, refl, subst}
use Rattle.nv_inspect.specs.declared.pieces.Piece.{Piece}
use Rattle.nv_inspect.specs.Held.{is_among, is_before, piece_at}
use Rattle.nv_inspect.proofs.Stretches.{all_said, before_to, next_ahead, none_said, said_all, said_more}
use Rattle.nv_inspect.proofs.pages.say.Goals as goal

pub loop-end-init : goal.loop-end-init
loop-end-init c = none_said c.args.first c.args.end c.args.shift c.args.by c.args.pieces.now.entries c.args.pieces.now.entries c.args.first refl refl

pub set-requires : goal.set-requires
set-requires c =
    let here = c.stretch_at-here.result in
    before_to here.end c.args.end c.earlier-to.result c.loop-end.page c.stretch_at-here.ensures.ahead (sym c.is_before.ensures ∙ c.loop-end-test.true) (c.earlier-to.ensures c.loop-end.page)

pub loop-end-preserved : goal.loop-end-preserved
loop-end-preserved c =
    let here = c.stretch_at-here.result in
    let to = c.earlier-to.result in
    let before : is_before to c.loop-end.page ≡ true = before_to here.end c.args.end to c.loop-end.page c.stretch_at-here.ensures.ahead (sym c.is_before.ensures ∙ c.loop-end-test.true) (c.earlier-to.ensures c.loop-end.page) in
    let set = subst (λ (x : Piece). (p : ℕ) → piece_at c.set.new.pieces.entries p ≡ (if is_among c.loop-end.page to p then x else piece_at c.loop-end.pieces.entries p)) c.said.ensures c.in_ok-set.ensures in
    said_more c.args.first c.args.end c.args.shift c.args.by c.args.pieces.now.entries c.loop-end.pieces.entries c.loop-end.page c.set.new.pieces.entries here.end to here.piece c.loop-end.invariant c.stretch_at-here.ensures.piece c.stretch_at-here.ensures.same
    c.earlier-to.ensures set c.in-Some.next c.in-Some.is (next_ahead to c.loop-end.page c.in-Some.next c.in-Some.is before)

pub returns-in-None : goal.returns-in-None
returns-in-None c =
    let here = c.stretch_at-here.result in
    let to = c.earlier-to.result in
    let set = subst (λ (x : Piece). (p : ℕ) → piece_at c.set.new.pieces.entries p ≡ (if is_among c.loop-end.page to p then x else piece_at c.loop-end.pieces.entries p)) c.said.ensures c.in_ok-set.ensures in
    said_all c.args.first c.args.end c.args.shift c.args.by c.args.pieces.now.entries c.loop-end.pieces.entries c.loop-end.page c.set.new.pieces.entries here.end to here.piece c.loop-end.invariant c.stretch_at-here.ensures.piece c.stretch_at-here.ensures.same
    c.earlier-to.ensures set c.in-None.is

pub returns : goal.returns
returns c = all_said c.args.first c.args.end c.args.shift c.args.by c.args.pieces.now.entries c.loop-end.pieces.entries c.loop-end.page c.loop-end.invariant (sym c.is_before.ensures ∙ c.loop-end-test.false)
