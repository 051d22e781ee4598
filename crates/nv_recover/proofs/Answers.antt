-- From what was scanned to the outcome.
use Rattle.std.proofs.Common.{◌≡◌, ℕ, ◌*◌, ◌≤◌, List, ◌++◌, length, map, ap, sym, ◌∙◌, subst, arith, append_assoc}
use Rattle.std.specs.List.Sorted.{IsPermutation}
use Rattle.std.proofs.lemmas.List.Sorted.{Contains-permutation, IsPermutation-sym, IsPermutation-append_left, IsPermutation-append_right}
use Rattle.std.specs.Prelude.{Vec}
use Rattle.std.specs.declared.alloc.Global.{Global}
use Rattle.nv_region.specs.Region.{HasBlocks, Region}
use Rattle.nv_super.specs.declared.superblock.Super.{Super}
use Rattle.nv_super.specs.declared.owners.Owner.{Owner}
use Rattle.nv_super.specs.declared.faults.Fault.{Fault}
use Rattle.nv_super.specs.Layout.{Layout}
use Rattle.nv_super.specs.Order.{fault_key, SortedOf}
use Rattle.nv_inode.specs.Chains.{chain_faults, chains_in, layout_of}
use Rattle.nv_inode.specs.Tables.{TableChains}
use Rattle.nv_journal.specs.Undo.{undone}
use Rattle.nv_alloc.specs.FreeLists.{AreOutside}
use Rattle.nv_scan.specs.declared.piece.Row.{Row}
use Rattle.nv_rows.specs.RowList.{HasNumbersOf}
use Rattle.nv_rows.specs.Rows.{row_key}
use Rattle.nv_cross_check.specs.Doubled.{AreDoubled}
use Rattle.nv_outcome.specs.Outcome.{IsOutcome}
use Rattle.nv_outcome.specs.Parts.{ArePieces, AreParts, rows_in, faults_in, double_fault}
use Rattle.nv_outcome.specs.Shared.{SharesAll}
use Rattle.nv_outcome.proofs.RowsOf.{rows_are}
use Rattle.nv_outcome.proofs.Whole.{parts_outcome}
use Rattle.nv_outcome.proofs.Shared.{shares_all}
use Rattle.nv_cross_check.proofs.SameCross.{same_cross}
use Rattle.nv_rows.proofs.InOrder.{rising_stay}
use Rattle.nv_recover.specs.declared.starting.Started.{Started}
use Rattle.nv_recover.specs.declared.scanned.Scanned.{Scanned}
use Rattle.nv_outcome.specs.declared.recovered.Recovered.{Recovered}
use Rattle.nv_outcome.specs.Answer.{outcome_of, IsAnswer}
use Rattle.nv_recover.specs.Started.{IsStarted}
use Rattle.nv_recover.specs.Scanned.{IsScanned, all_told}

-- what is in order of a list is so of the list in another order
sorted_otherwise : {A : Type 0} (key : A → List ℕ) (given others sorted : List A) → IsPermutation others given → SortedOf key given sorted → SortedOf key others sorted
sorted_otherwise key given others sorted moved are = record {
  rising = are.rising;
  from = λ x c. Contains-permutation given others x (IsPermutation-sym others given moved) (are.from x c);
  kept = λ x c. are.kept x (Contains-permutation others given x moved c);
}

-- faults that are told in another order are the same in order
told_otherwise : (journal chained own others cross : List Fault) (doubled : List (ℕ × Owner)) (faults : List Fault) → IsPermutation others own → SortedOf fault_key (all_told journal chained own cross doubled) faults → SortedOf fault_key (all_told journal chained others cross doubled) faults
told_otherwise journal chained own others cross doubled faults moved = sorted_otherwise fault_key (all_told journal chained own cross doubled) (all_told journal chained others cross doubled) faults
    (IsPermutation-append_right journal (chained ++ (others ++ rest)) (chained ++ (own ++ rest)) (IsPermutation-append_right chained (others ++ rest) (own ++ rest) (IsPermutation-append_left rest others own moved)))
  where
    rest : List Fault
    rest = cross ++ map double_fault doubled

-- words that cover some blocks, under another name
pub covers_same : (blocks : ℕ) {here words : List ℕ} → here ≡ words → blocks ≤ 64 * length words → blocks ≤ 64 * length here
covers_same blocks same covers = subst (λ (w : List ℕ). blocks ≤ 64 * length w) (sym same) covers

-- the same, told of what is the same
pub told_same : (journal : List Fault) {chained chained' own own' cross cross' faults : List Fault} {doubled doubled' : List (ℕ × Owner)} → chained ≡ chained' → own ≡ own' → cross ≡ cross' → doubled ≡ doubled' → SortedOf fault_key (all_told journal chained own cross doubled) faults → SortedOf fault_key (all_told journal chained' own' cross' doubled') faults
told_same journal {faults = faults} zero one two three are = subst (λ (told : List Fault). SortedOf fault_key told faults) (λ i. all_told journal (zero i) (one i) (two i) (three i)) are

grouped : (a b c d e : List Fault) → (((a ++ b) ++ c) ++ d) ++ e ≡ a ++ (b ++ (c ++ (d ++ e)))
grouped a b c d e = grind (arith, append_assoc)

pub told_of : (journal chained own cross : List Fault) (doubled : List (ℕ × Owner)) {one two three four : List Fault} → one ≡ journal ++ chained → two ≡ one ++ own → three ≡ two ++ cross → four ≡ three ++ map double_fault doubled
    → four ≡ all_told journal chained own cross doubled
told_of journal chained own cross doubled p q r s =
    s ∙ (ap (λ (xs : List Fault). xs ++ map double_fault doubled) (r ∙ ap (λ (xs : List Fault). xs ++ cross) (q ∙ ap (λ (xs : List Fault). xs ++ own) p)) ∙ grouped journal chained own cross (map double_fault doubled))

-- What is made of what was scanned: the tables that were read, the rows in order, the blocks that nobody owns, the claims of doubled blocks, and all faults in order.
pub record IsMade (o : Started) (x : Scanned) (r : Recovered) : Type 0 where
  pub sup : r.sup ≡ o.sup
  pub tables : r.tables ≡ o.tables
  pub rows : SortedOf row_key x.inodes.rows.items r.rows.items
  pub numbers : HasNumbersOf o.tables.layout r.rows
  pub outside : AreOutside x.owned.blocks.items o.sup r.free
  pub owned_twice : r.doubled ≡ x.owned.doubled
  pub all : SortedOf fault_key (all_told o.journal.items o.tables.faults x.inodes.faults.items x.cross.items r.doubled.items) r.faults.items

-- the tables are those of the superblock
pub tables_sup : {old new : Region} {o : Started} → IsStarted old new o → o.tables.layout.sup ≡ o.sup
tables_sup started = ap (λ (l : Layout). l.sup) started.tables

pub tables_blocks : {old new : Region} {o : Started} → IsStarted old new o → HasBlocks new o.tables.layout.sup.blocks
tables_blocks {new = new} started = subst (λ (s : Super). HasBlocks new s.blocks) (sym (tables_sup started)) started.blocks

module _ {old new : Region} {o : Started} {x : Scanned} {r : Recovered} (started : IsStarted old new o) (scanned : IsScanned new o.tables.layout x) (made : IsMade o x r) where
  chained : o.tables.faults ≡ chain_faults o.sup (undone o.sup old)
  chained = started.chained ∙ ap (chain_faults o.sup) started.rolled_back

  parts : AreParts old o.sup scanned.pieces scanned.owned.claims x.owned.blocks.items scanned.owned.second r.free r.doubled.items o.journal.items x.cross.items r.faults.items
  parts = record {
    scanned = subst (λ (R : Region). ArePieces R (layout_of o.sup R) scanned.pieces) started.rolled_back (subst (λ (l : Layout). ArePieces new l scanned.pieces) started.tables scanned.inodes.pieces_are);
    claimed = scanned.owned.claimed;
    maps = scanned.owned.maps;
    outside = made.outside;
    owned_twice = subst (λ (v : Vec (ℕ × Owner) Global). AreDoubled scanned.owned.claims scanned.owned.second v.items) (sym made.owned_twice) scanned.owned.doubled;
    in_journals = started.in_journals;
    between = same_cross (rows_in scanned.pieces) x.inodes.rows.items x.cross.items scanned.inodes.rows scanned.cross;
    all = subst (λ (told : List Fault). SortedOf fault_key (all_told o.journal.items told (faults_in scanned.pieces) x.cross.items r.doubled.items) r.faults.items) chained
        (told_otherwise o.journal.items o.tables.faults x.inodes.faults.items (faults_in scanned.pieces) x.cross.items r.doubled.items r.faults.items scanned.inodes.faults made.all);
  }

  -- the rows of the pieces rise, so in order they are that list
  rows : r.rows.items ≡ rows_in scanned.pieces
  rows = rising_stay r.rows.items (rows_in scanned.pieces) (rows_are scanned.pieces scanned.inodes.pieces_are).rising
      (sorted_otherwise row_key x.inodes.rows.items (rows_in scanned.pieces) r.rows.items scanned.inodes.rows made.rows)

  -- the tables are those of the region
  layout : r.tables.layout ≡ layout_of r.sup new
  layout = ap (λ (t : TableChains). t.layout) made.tables ∙ started.tables ∙ ap (λ (s : Super). layout_of s new) (sym made.sup)

  chains : r.tables.layout.chains ≡ chains_in o.sup (undone o.sup old)
  chains = ap (λ (l : Layout). l.chains) (ap (λ (t : TableChains). t.layout) made.tables ∙ started.tables) ∙ ap (chains_in o.sup) started.rolled_back

  outcome : IsOutcome old (outcome_of r)
  outcome = subst (λ (s : Super). IsOutcome old (record { sup = s; tables = r.tables.layout.chains; rows = r.rows.items; free = r.free.pools; doubled = r.doubled.items; faults = r.faults.items })) (sym made.sup)
      (subst (λ (rows : List Row). IsOutcome old (record { sup = o.sup; tables = r.tables.layout.chains; rows = rows; free = r.free.pools; doubled = r.doubled.items; faults = r.faults.items })) (sym rows)
      (subst (λ (chains : List (List ℕ)). IsOutcome old (record { sup = o.sup; tables = chains; rows = rows_in scanned.pieces; free = r.free.pools; doubled = r.doubled.items; faults = r.faults.items })) (sym chains) (parts_outcome started.sup parts)))

  rolled_back : new ≡ undone r.sup old
  rolled_back = started.rolled_back ∙ ap (λ (s : Super). undone s old) (sym made.sup)

  pub answer_of : IsAnswer old new r
  answer_of = record {
    ok = outcome;
    rolled_back = rolled_back;
    once = λ none. subst (λ (l : Layout). SharesAll new l r.free.pools) (sym layout) (subst (λ (R : Region). SharesAll R (layout_of r.sup R) r.free.pools) (sym rolled_back) (shares_all outcome none));
    lists = made.outside.sup ∙ sym made.sup;
    tables = ap (λ (l : Layout). l.sup) layout;
    numbers = subst (λ (l : Layout). HasNumbersOf l r.rows) (ap (λ (t : TableChains). t.layout) (sym made.tables)) made.numbers;
  }
