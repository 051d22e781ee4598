-- What a chain of a table, a row, a page, an extent and a claim of a doubled block say of blocks.
use Rattle.std.proofs.Common.{◌≡◌, ◌⊎◌, inl, inr, ℕ, suc, ◌+◌, ◌-◌, ◌<◌, ◌≤◌, List, [], ◌∷◌, ◌++◌, length, get_or, take, Some, IsSome, refl, ap, sym, ◌∙◌, subst, arith, add-one, Option}
use Rattle.std.proofs.Math.Seq.{take-suc}
use Rattle.std.specs.List.{Contains}
use Rattle.std.proofs.lemmas.List.Elements.{All-contains}
use Rattle.std.proofs.lemmas.Option.{same_Some}
use Rattle.nv_super.specs.declared.owners.Owner.{Owner}
use Rattle.nv_radix.specs.declared.extent.Extent.{Extent}
use Rattle.nv_radix.specs.Pages.{block_at}
use Rattle.nv_radix.specs.Extents.{AreExtents, IsMapped}
use Rattle.nv_scan.specs.declared.piece.Row.{Row}
use Rattle.nv_map.specs.declared.uses.BlockUse.{BlockUse}
use Rattle.nv_map.specs.declared.marks.Marks.{Marks}
use Rattle.nv_map.specs.Map.{IsUsedBy, for_file, for_log, IsUsedForTables, IsUsedTwice}
use Rattle.nv_map.specs.Marks.{Raises, SaysOne, SaysChain, SaysPage, SaysExtent, SaysClaim}
use Rattle.nv_map.proofs.Raising.{raises_as, raises_both, says_more}

-- one more of a slice is heard
pub says_next : {X : Type 0} (says : X → ℕ → BlockUse → Type 0) (xs : List X) (k : ℕ) (d : X) (a b c : Marks) → k < length xs → Raises (SaysOne says (take k xs)) a b → Raises (says (get_or xs k d)) b c → Raises (SaysOne says (take (k + 1) xs)) a c
says_next {X} says xs k d a b c lt p q =
    let more : take (suc k) xs ≡ take k xs ++ get_or xs k d ∷ [] = take-suc xs k d lt in
    rw (add-one, more) (says_more says (take k xs) (get_or xs k d) a b c p q)

-- the one block of a run of one
only_block : (b n : ℕ) → b ≤ n → n < b + 1 → n ≡ b
only_block b n le lt = omega (arith, le, lt)

module _ (row : Row) (extents : List Extent) (are : AreExtents row.index extents) where
  page_says : (b : ℕ) (kind : BlockUse) → SaysOne SaysPage row.pages.items b kind → IsUsedBy row b kind
  page_says b kind (page, stands, (in', is)) =
      let e : b ≡ page = only_block page b in'.0 in'.1 in
      subst (λ (k : BlockUse). IsUsedBy row b k) (sym is) (for_log (subst (λ (n : ℕ). Contains row.pages.items n) (sym e) stands))

  extent_says : (b : ℕ) (kind : BlockUse) → SaysOne SaysExtent extents b kind → IsUsedBy row b kind
  extent_says b kind (x, stands, (in', is)) =
      let j = b - x.block in
      let le = in'.0 in
      let lt = in'.1 in
      let e : x.block + j ≡ b = omega (arith, le) in
      let at = All-contains (IsMapped row.index) extents x are.mapped stands j (omega (arith, le, lt)) in
      subst (λ (k : BlockUse). IsUsedBy row b k) (sym is) (for_file (x.page + j) (at ∙ ap Some e))

  row_says : (b : ℕ) (kind : BlockUse) → IsUsedBy row b kind → SaysOne SaysPage row.pages.items b kind ⊎ SaysOne SaysExtent extents b kind
  row_says b _ (for_log stands) = inl (b, stands, ((omega arith, omega arith), refl))
  row_says b _ (for_file page is) =
      let w = are.whole page (subst (λ (o : Option ℕ). IsSome o) (sym is) refl) in
      let x = w.0 in
      let from = w.2.0 in
      let to = w.2.1 in
      let j = page - x.page in
      let lt : j < x.count = omega (arith, from, to) in
      let at = All-contains (IsMapped row.index) extents x are.mapped w.1 j lt in
      let p : x.page + j ≡ page = omega (arith, from) in
      let e : b ≡ x.block + j = same_Some b (x.block + j) (sym is ∙ ap (block_at row.index) (sym p) ∙ at) in
      inr (x, w.1, ((omega (arith, e), omega (arith, e, lt)), refl))

  -- the pages of its log and the extents of its file say what a row says
  pub raises_row : (a b c : Marks) → Raises (SaysOne SaysPage row.pages.items) a b → Raises (SaysOne SaysExtent extents) b c → Raises (IsUsedBy row) a c
  raises_row a b c p q = raises_both (SaysOne SaysPage row.pages.items) (SaysOne SaysExtent extents) (IsUsedBy row) page_says extent_says row_says a b c p q

chain_says : (chains : List (List ℕ)) (b : ℕ) (kind : BlockUse) → SaysOne SaysChain chains b kind → IsUsedForTables chains b kind
chain_says chains b kind (chain, has, (x, stands, (in', is))) = ((chain, has, subst (λ (n : ℕ). Contains chain n) (sym (only_block x b in'.0 in'.1)) stands), is)

says_chain : (chains : List (List ℕ)) (b : ℕ) (kind : BlockUse) → IsUsedForTables chains b kind → SaysOne SaysChain chains b kind
says_chain chains b kind h = (h.0.0, h.0.1, (b, h.0.2, ((omega arith, omega arith), h.1)))

-- the chains say which blocks they have
pub raises_chains : (chains : List (List ℕ)) (a b : Marks) → Raises (SaysOne SaysChain chains) a b → Raises (IsUsedForTables chains) a b
raises_chains chains a b p = raises_as (SaysOne SaysChain chains) (IsUsedForTables chains) a b (chain_says chains) (says_chain chains) p

claim_says : (doubled : List (ℕ × Owner)) (b : ℕ) (kind : BlockUse) → SaysOne SaysClaim doubled b kind → IsUsedTwice doubled b kind
claim_says doubled b kind (x, stands, (in', is)) =
    let e : x.0 ≡ b = sym (only_block x.0 b in'.0 in'.1) in
    ((x.1, subst (λ (n : ℕ). Contains doubled (n, x.1)) e stands), is)

says_claim : (doubled : List (ℕ × Owner)) (b : ℕ) (kind : BlockUse) → IsUsedTwice doubled b kind → SaysOne SaysClaim doubled b kind
says_claim doubled b kind h = ((b, h.0.0), h.0.1, ((omega arith, omega arith), h.1))

-- the claims say which blocks are doubled
pub raises_doubled : (doubled : List (ℕ × Owner)) (a b : Marks) → Raises (SaysOne SaysClaim doubled) a b → Raises (IsUsedTwice doubled) a b
raises_doubled doubled a b p = raises_as (SaysOne SaysClaim doubled) (IsUsedTwice doubled) a b (claim_says doubled) (says_claim doubled) p
