-- The blocks of a log that are given back, and then those of a file.
use Rattle.std.proofs.Common.{◌≡◌, ℕ, zero, suc, ◌+◌, ◌<◌, ◌≤◌, ◌⊎◌, inl, inr, List, [], ◌∷◌, ◌++◌, length, get_or, map, take, ap, sym, ◌∙◌, subst, arith, Some}
use Rattle.std.specs.Int.{div_ceil}
use Rattle.std.specs.List.{Contains}
use Rattle.std.proofs.Math.Seq.{take-suc}
use Rattle.std.proofs.lemmas.List.{get_or_default, map-append}
use Rattle.nv_super.specs.declared.superblock.Super.{Super}
use Rattle.nv_super.specs.declared.owners.Run.{Run}
use Rattle.nv_super.specs.Layout.{system_blocks}
use Rattle.nv_super.specs.Runs.{InRun}
use Rattle.nv_super.proofs.Members.{none_in}
use Rattle.nv_super.proofs.Rising.{Contains-cons, Contains-head, Contains-tail}
use Rattle.nv_alloc.specs.FreeValue.{FreeLists}
use Rattle.nv_alloc.specs.FreeLists.{CanJoin, JoinAll, Joins}
use Rattle.nv_alloc.specs.Taking.{HasBlock, block_run}
use Rattle.nv_alloc.proofs.Leaving.{block_left, block_right, block_sides}
use Rattle.nv_alloc.proofs.Singly.{block_is}
use Rattle.nv_radix.specs.Pages.{block_at}
use Rattle.nv_scan.specs.declared.piece.Row.{Row}
use Rattle.nv_steps.specs.Given.{GivesPages, MapsOwn}
use Rattle.nv_steps.specs.LessNames.{AreOwn, GivesBlocks, GivesRow, OwnsBlocks}
use Rattle.nv_steps.proofs.CutFile.{before_end}
use Rattle.nv_steps.proofs.GivenPages.{joined_from, joined_more, joined_sup}

-- ---- blocks as runs

pub in_runs : (blocks : List ℕ) (b : ℕ) → HasBlock (map block_run blocks) b → Contains blocks b
in_runs [] b w = absurd (none_in w.0 w.1)
in_runs (a ∷ blocks) b w = elim (Contains-cons (block_run a) (map block_run blocks) w.0 w.1) [
  | inl e ↦ (let inside = subst (λ (r : Run). InRun r b) e (w.2, w.3) in subst (λ (n : ℕ). Contains (a ∷ blocks) n) (sym (block_is a b inside)) (Contains-head a blocks))
  | inr rest ↦ Contains-tail a blocks b (in_runs blocks b (w.0, rest, w.2, w.3))
]

pub as_runs : (blocks : List ℕ) (b : ℕ) → Contains blocks b → HasBlock (map block_run blocks) b
as_runs [] b c = absurd (none_in b c)
as_runs (a ∷ blocks) b c = elim (Contains-cons a blocks b c) [
  | inl same ↦ (block_run a, Contains-head (block_run a) (map block_run blocks), omega (arith, same), omega (arith, same))
  | inr rest ↦ (let w = as_runs blocks b rest in (w.0, Contains-tail (block_run a) (map block_run blocks) w.0 w.1, w.2, w.3))
]

-- ---- one block more

-- a block in front of a place stands in front of it
front_has : (blocks : List ℕ) (k b : ℕ) → Contains (take k blocks) b → (j : ℕ) × (j < k) × (j < length blocks) × (get_or blocks j b ≡ b)
front_has [] k b c = absurd (front_none k c) where
  front_none : (k : ℕ) → Contains (take k []) b → ⊥
  front_none zero c = none_in b c
  front_none (suc k) c = none_in b c
front_has (a ∷ blocks) zero b c = absurd (none_in b c)
front_has (a ∷ blocks) (suc k) b c = elim (Contains-cons a (take k blocks) b c) [
  | inl same ↦ (zero, omega arith, omega arith, sym same)
  | inr rest ↦ (let w = front_has blocks k b rest in let low = w.1 in let inside = w.2 in (suc w.0, omega (arith, low), omega (arith, inside), w.3))
]

block_there : (blocks : List ℕ) (k b : ℕ) → k < length blocks → b ≡ get_or blocks k 0 → Contains blocks b
block_there blocks k b inside is = (k, inside, get_or_default blocks k b 0 inside ∙ sym is)

module _ (old now : FreeLists) (blocks : List ℕ) (k b : ℕ) (inside : k < length blocks) (is : b ≡ get_or blocks k 0) where
  -- the next block can be given back
  pub next_block : AreOwn old blocks → GivesBlocks old (take k blocks) now → CanJoin now (block_run b)
  next_block own given = record {
    «data» = λ c here. (let same = block_is b c here in subst (λ (s : Super). (system_blocks s ≤ c) × (c < s.blocks)) (sym (joined_sup old now (map block_run (take k blocks)) given)) (own.in_data c (subst (λ (n : ℕ). Contains blocks n) (sym same) (block_there blocks k b inside is))));
    used = λ cpu c here free_now. (
        let same = block_is b c here in
        elim (joined_from old now (map block_run (take k blocks)) given cpu c free_now) [
          | inl was ↦ own.used c cpu (subst (λ (n : ℕ). Contains blocks n) (sym same) (block_there blocks k b inside is)) was
          | inr gave ↦ (
              let w = front_has blocks k c (in_runs (take k blocks) c gave) in
              let first : get_or blocks w.0 0 ≡ c = get_or_default blocks w.0 0 c w.2 ∙ w.3 in
              own.once w.0 k w.1 inside (first ∙ same ∙ is))
        ]);
  }

  -- once it was
  pub gives_more : (next : FreeLists) → GivesBlocks old (take k blocks) now → Joins now (block_run b) next → GivesBlocks old (take (k + 1) blocks) next
  gives_more next given joins =
      let next_is : k + 1 ≡ suc k = omega arith in
      let front : take (k + 1) blocks ≡ take k blocks ++ b ∷ [] = ap (λ (n : ℕ). take n blocks) next_is ∙ take-suc blocks k 0 inside ∙ ap (λ (n : ℕ). take k blocks ++ n ∷ []) (sym is) in
      let all : map block_run (take (k + 1) blocks) ≡ map block_run (take k blocks) ++ block_run b ∷ [] = ap (λ (bs : List ℕ). map block_run bs) front ∙ map-append block_run (take k blocks) (b ∷ []) in
      subst (λ (runs : List Run). JoinAll old runs next) (sym all) (joined_more old now next (map block_run (take k blocks)) (block_run b) given joins)

-- ---- both

joined_both : (old mid new : FreeLists) (runs more : List Run) → JoinAll old runs mid → JoinAll mid more new → JoinAll old (runs ++ more) new
joined_both old mid new [] more same w = subst (λ (a : FreeLists). JoinAll a more new) (sym same) w
joined_both old mid new (run ∷ runs) more v w = (v.0, v.1, joined_both v.0 mid new runs more v.2 w)

module _ {old mid : FreeLists} {row : Row} (own : OwnsBlocks old row) (given : GivesBlocks old row.pages.items mid) where
  -- The blocks of the file are in use once those of the log are free.
  pub maps_still : MapsOwn mid row.index
  maps_still =
      let maps = own.maps in
      record {
        in_data = λ p b at. subst (λ (s : Super). (system_blocks s ≤ b) × (b < s.blocks)) (sym (joined_sup old mid (map block_run row.pages.items) given)) (maps.in_data p b at);
        used = λ p b cpu at there. elim (joined_from old mid (map block_run row.pages.items) given cpu b there) [
          | inl was ↦ maps.used p b cpu at was
          | inr gave ↦ own.apart p b at (in_runs row.pages.items b gave)
        ];
        once = maps.once;
      }

  -- Then they were given back too.
  pub gives_row : {new : FreeLists} {end : ℕ} → end ≡ div_ceil row.numbers.size 4096 → GivesPages mid row.index 0 end new → GivesRow old row new
  gives_row {new} {end} ends pages = record {
    runs = map block_run row.pages.items ++ pages.runs;
    joined = joined_both old mid new (map block_run row.pages.items) pages.runs given pages.joined;
    blocks = λ b. (to b, from b);
  } where
    to : (b : ℕ) → HasBlock (map block_run row.pages.items ++ pages.runs) b → Contains row.pages.items b ⊎ ((p : ℕ) × (block_at row.index p ≡ Some b))
    to b w = elim (block_sides (map block_run row.pages.items) pages.runs b w) [
      | inl log ↦ inl (in_runs row.pages.items b log)
      | inr later ↦ inr (let v = (pages.blocks b).0 later in (v.0, v.3))
    ]

    from : (b : ℕ) → Contains row.pages.items b ⊎ ((p : ℕ) × (block_at row.index p ≡ Some b)) → HasBlock (map block_run row.pages.items ++ pages.runs) b
    from b (inl log) = block_left (map block_run row.pages.items) pages.runs b (as_runs row.pages.items b log)
    from b (inr w) =
        let low : w.0 < end = subst (λ (n : ℕ). w.0 < n) (sym ends) (before_end row.numbers.size w.0 (own.below w.0 b w.1)) in
        block_right (map block_run row.pages.items) pages.runs b ((pages.blocks b).1 (w.0, omega arith, low, w.1))
