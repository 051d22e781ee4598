-- Which cells a run of blocks stands in, and what marking them tells.
use Rattle.std.proofs.Common.{◌≡◌, ◌⊎◌, inl, inr, ℕ, suc, ◌+◌, ◌*◌, ◌/◌, ◌<◌, ◌≤◌, Bool, cond, get_or, ap, sym, ◌∙◌, subst, arith, mul_comm}
use Rattle.std.proofs.Math.Nat.{div-mul-le_self, lt-div-mul-add, mul-le-mul_right, lt_of_mul-lt-mul_right}
use Rattle.std.proofs.lemmas.Bool.{cases_lt, lt-ltb, le-ltb}
use Rattle.std.proofs.lemmas.Grind.{div_ceil_times}
use Rattle.std.specs.Int.{div_ceil}
use Rattle.nv_map.specs.declared.uses.BlockUse.{BlockUse}
use Rattle.nv_map.specs.declared.uses.BlockUse.TheVariants.{Free}
use Rattle.nv_map.specs.declared.marks.Marks.{Marks}
use Rattle.nv_map.specs.Map.{InCell}
use Rattle.nv_map.specs.Rank.{rank}
use Rattle.nv_map.specs.Marks.{raised, AreRaised, AreUsed, IsIn, IsRaised, Raises}

-- a cell in front of a run's first has none of its blocks
pub cell_before : (each start place b : ℕ) → place < start / each → InCell each place b → b < start
cell_before each start place b before at =
    let one = mul-le-mul_right {m = suc place} {n = start / each} each before in
    let two = div-mul-le_self start each in
    let three = at.1 in
    omega (arith, one, two, three)

-- nor has one behind its last
pub cell_behind : (each end place b : ℕ) → 0 < each → div_ceil end each ≤ place → InCell each place b → end ≤ b
cell_behind each end place b some behind at =
    let one = mul-le-mul_right {m = div_ceil end each} {n = place} each behind in
    let two = (div_ceil_times end each some).0 in
    let three = at.0 in
    omega (arith, one, two, three)

-- and each cell from the first to the last has one
pub cell_within : (each start end place : ℕ) → 0 < each → start < end → start / each ≤ place → place < div_ceil end each
    → (b : ℕ) × (start ≤ b) × (b < end) × InCell each place b
cell_within each start end place some full from to =
    let one = mul-le-mul_right {m = start / each} {n = place} each from in
    let two = mul-le-mul_right {m = suc place} {n = div_ceil end each} each to in
    let three = (div_ceil_times end each some).1 in
    let four = lt-div-mul-add {a = start} {b = each} some in
    let below : place * each < end = omega (arith, two, three) in
    let reach : start < place * each + each = omega (arith, one, four) in
    elim (cases_lt start (place * each)) [
      | inl later ↦ (place * each, omega (arith, later), below, (omega arith, omega (arith, some)))
      | inr sooner ↦ (start, omega arith, full, (sooner, reach))
    ]

-- what a cell tells after one use more
pub raised_cases : (other kind : BlockUse) → ((rank other < rank kind) × (raised other kind ≡ kind)) ⊎ ((rank kind ≤ rank other) × (raised other kind ≡ other))
raised_cases other kind = elim (cases_lt (rank other) (rank kind)) [
  | inl lt ↦ inl (lt, ap (λ (t : Bool). cond t kind other) (lt-ltb (rank other) (rank kind) lt))
  | inr ge ↦ inr (ge, ap (λ (t : Bool). cond t kind other) (le-ltb (rank other) (rank kind) ge))
]

-- a cell without such a block stays
cell_stays : (has : ℕ → BlockUse → Type 0) (blocks each place : ℕ) (u v : BlockUse) → ((b : ℕ) (other : BlockUse) → b < blocks → InCell each place b → has b other → ⊥) → v ≡ u → IsRaised has blocks each place u v
cell_stays has blocks each place u v none same = record {
  had = inl same;
  later = subst (λ (x : BlockUse). rank u ≤ rank x) (sym same) (omega arith);
  last = λ b other below at h. absurd (none b other below at h);
}

-- one with such a block tells one use more
cell_tells : (start count blocks each place : ℕ) (kind u v : BlockUse) → (b : ℕ) → b < blocks → InCell each place b → IsIn start count b → v ≡ raised u kind → IsRaised (AreUsed start count kind) blocks each place u v
cell_tells start count blocks each place kind u v b below at in' is = elim (raised_cases u kind) [
  | inl (lt, new) ↦ (let e : v ≡ kind = is ∙ new in record {
    had = inr (b, below, at, (in', e));
    later = subst (λ (x : BlockUse). rank u ≤ rank x) (sym e) (omega (arith, lt));
    last = λ n other lt' at' h. subst (λ (x : BlockUse). rank other ≤ rank x) (h.1 ∙ sym e) (omega arith);
  })
  | inr (ge, old) ↦ (let e : v ≡ u = is ∙ old in record {
    had = inl e;
    later = subst (λ (x : BlockUse). rank u ≤ rank x) (sym e) (omega arith);
    last = λ n other lt' at' h. subst (λ (x : BlockUse). rank other ≤ rank x) (sym e) (subst (λ (x : BlockUse). rank x ≤ rank u) (sym h.1) ge);
  })
]

-- The cells of a run of blocks are told of it.
pub raises_run : (start count end : ℕ) (kind : BlockUse) (a b : Marks) → 0 < a.each → start < end → end ≤ a.blocks → end ≤ start + count → ((n : ℕ) → n < a.blocks → n < start + count → n < end)
    → AreRaised (start / a.each) (div_ceil end a.each) kind a b → Raises (AreUsed start count kind) a b
raises_run start count end kind a b some full inside short all r = record {
  blocks = r.blocks;
  each = r.each;
  count = r.count;
  cells = λ place within. elim (cases_lt place (start / a.each)) [
    | inl before ↦ cell_stays (AreUsed start count kind) a.blocks a.each place (get_or a.uses.items place Free) (get_or b.uses.items place Free)
        (λ n other below at h. let lt = cell_before a.each start place n before at in let ge = h.0.0 in omega (arith, lt, ge)) (r.before place before)
    | inr from ↦ elim (cases_lt place (div_ceil end a.each)) [
      | inl to ↦ (let w = cell_within a.each start end place some full from to in
          cell_tells start count a.blocks a.each place kind (get_or a.uses.items place Free) (get_or b.uses.items place Free) w.0
          (let lt = w.2 in omega (arith, lt, inside)) w.3 (w.1, (let lt = w.2 in omega (arith, lt, short))) (r.within place within from to))
      | inr behind ↦ cell_stays (AreUsed start count kind) a.blocks a.each place (get_or a.uses.items place Free) (get_or b.uses.items place Free)
          (λ n other below at h. let ge = cell_behind a.each end place n some behind at in let lt = all n below h.0.1 in omega (arith, lt, ge)) (r.behind place behind)
    ]
  ];
}

-- one cell more
pub raised_more : (from to : ℕ) (kind : BlockUse) (a b c : Marks) → from ≤ to → AreRaised from to kind a b → AreRaised to (suc to) kind b c → AreRaised from (suc to) kind a c
raised_more from to kind a b c le r s = record {
  blocks = s.blocks ∙ r.blocks;
  each = s.each ∙ r.each;
  count = s.count ∙ r.count;
  within = λ place inside ge lt. elim (cases_lt place to) [
    | inl old ↦ s.before place old ∙ r.within place inside ge old
    | inr new ↦ (s.within place (let e = r.count in omega (arith, inside, e)) new lt ∙ ap (λ (x : BlockUse). raised x kind) (r.behind place new))
  ];
  before = λ place lt. s.before place (omega (arith, lt, le)) ∙ r.before place lt;
  behind = λ place ge. s.behind place ge ∙ r.behind place (omega (arith, ge));
}

-- each cell of a run of blocks is there
pub cell_reached : (each end count place : ℕ) → 0 < each → end ≤ count * each → place < div_ceil end each → place < count
cell_reached each end count place some inside to =
    let one = mul-le-mul_right {m = suc place} {n = div_ceil end each} each to in
    let two = (div_ceil_times end each some).1 in
    lt_of_mul-lt-mul_right each {m = place} {n = count} (omega (arith, one, two, inside))

-- the first cell of a run of blocks isn't behind its last
pub first_reached : (each start end : ℕ) → 0 < each → start < end → start / each ≤ div_ceil end each
first_reached each start end some full =
    let one = div-mul-le_self start each in
    let two = (div_ceil_times end each some).0 in
    let lt = lt_of_mul-lt-mul_right each {m = start / each} {n = div_ceil end each} (omega (arith, one, two, full)) in
    omega (arith, lt)

-- cells that hold all blocks if there are so many are at most so many
pub few_cells : (blocks most each : ℕ) → 0 < each → blocks ≤ each * most → div_ceil blocks each ≤ most
few_cells blocks most each some room =
    let one = (div_ceil_times blocks each some).1 in
    let two = mul_comm each most in
    let three = subst (λ (n : ℕ). blocks ≤ n) two room in
    let lt = lt_of_mul-lt-mul_right each {m = div_ceil blocks each} {n = suc most} (omega (arith, one, three, some)) in
    omega (arith, lt)
