use Rattle.std.proofs.Common.{◌≡◌, ◌<◌, ◌++◌, ◌∷◌, [], ◌∙◌, take, ℕ, List, length, get_or, ap, subst, sym}
use Rattle.std.proofs.lemmas.List.{take_all, take_more}
use Rattle.nv_inode.specs.Numbers.{sizes_of}
use Rattle.nv_rows.specs.InUse.{HasUsed}
use Rattle.nv_super.specs.Layout.{Layout}
use Rattle.nv_inode.specs.Chains.{IsLaid}
use Rattle.nv_rows.specs.Unused.{HaveSlots, IsTableNumber}
use Rattle.nv_inode.proofs.NumberEnds.{sizes_long}
use Rattle.nv_rows.proofs.UsedPlaces.{HasUsed-none, HasUsed-more}
use Rattle.nv_rows.proofs.UsedRows.{number_by}
use Rattle.nv_rows.proofs.rows.used_by.Goals as goal

pub loop-number-init : goal.loop-number-init
loop-number-init c = record { sizes = c.in_ok-used.ensures.sizes; used = HasUsed-none c.in_ok-used.used.sets c.in_ok-used.ensures.none }

-- a given number is one of the tables
number_there : (l : Layout) → IsLaid l → (sizes : List ℕ) → sizes ≡ sizes_of l → (numbers : List ℕ) → HaveSlots l numbers → (k : ℕ) → k < length numbers → (i : ℕ) → i ≡ get_or numbers k 0 → IsTableNumber (length sizes) sizes i
number_there l laid sizes same numbers slotted k inside i is =
    subst (λ (sizes : List ℕ). IsTableNumber (length sizes) sizes i) (sym same)
    (subst (λ (n : ℕ). IsTableNumber n (sizes_of l) i) (sym (sizes_long l)) (subst (IsTableNumber l.sup.cpus (sizes_of l)) (sym is) (number_by l laid (get_or numbers k 0) (slotted.each k inside))))

pub insert-requires : goal.insert-requires
insert-requires c = number_there c.args.tables.now.layout c.are_laid.ensures c.loop-number.used.sizes c.loop-number.invariant.sizes c.args.numbers.now c.requires c.loop-number.number-index c.loop-number-test.true c.from.result c.from.ensures

pub loop-number-preserved : goal.loop-number-preserved
loop-number-preserved c =
    let numbers = c.args.numbers.now in
    let k = c.loop-number.number-index in
    record {
      sizes = c.insert.ensures.sizes ∙ c.loop-number.invariant.sizes;
      used = subst (λ (given : List ℕ). HasUsed given c.insert.new.self.sets) (ap (λ (i : ℕ). take k numbers ++ i ∷ []) c.from.ensures ∙ sym (take_more numbers k 0 c.loop-number-test.true))
          (HasUsed-more (take k numbers) c.from.result c.loop-number.used.sets c.insert.new.self.sets c.insert.ensures.there c.insert.ensures.others c.loop-number.invariant.used);
    }

pub returns-clause-numbers : goal.returns-clause-numbers
returns-clause-numbers c = subst (λ (numbers : List ℕ). HasUsed numbers c.loop-number.used.sets) (take_all c.loop-number.number-index c.args.numbers.now c.loop-number-test.false) c.loop-number.invariant.used
