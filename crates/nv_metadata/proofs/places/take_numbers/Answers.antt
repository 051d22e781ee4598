use Rattle.std.proofs.Common.{get_or, refl, sym, ap, ◌∙◌, ℕ, inl, inr, arith}
use Rattle.std.proofs.lemmas.Bool.{cases_lt}
use Rattle.std.proofs.lemmas.List.{get_or_past}
use Rattle.nv_metadata.specs.Places.{numbered}
use Rattle.nv_metadata.proofs.Numbered.{number_early, number_none}
use Rattle.nv_metadata.proofs.places.take_numbers.Goals as goal

pub loop-block-init : goal.loop-block-init
loop-block-init c = record {
  as_many = refl;
  done = λ b early. sym (number_early c.args.from c.args.base b c.args.here.now c.args.there.now (get_or c.args.numbers.now b 0) (get_or c.args.others.now b 0) early);
  rest = λ b late. refl;
}

pub returns-clause-taken : goal.returns-clause-taken
returns-clause-taken c b = elim (cases_lt b c.loop-block.block) [
  | inl early ↦ c.loop-block.invariant.done b early
  | inr late ↦ (
      let other = get_or_past c.args.others.now b 0 (omega (arith, late, c.loop-block-test.false, c.requires.as_many, c.loop-block.auto.block-end, c.loop-block.invariant.as_many)) in
      c.loop-block.invariant.rest b late
      ∙ sym (number_none c.args.from c.args.base b c.args.here.now c.args.there.now (get_or c.args.numbers.now b 0) (get_or c.args.others.now b 0) (ap (λ (n : ℕ). (numbered c.args.there.now n).known) other ∙ c.requires.none)))
]
