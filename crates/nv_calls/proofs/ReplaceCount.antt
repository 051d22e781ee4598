-- How many blocks a name takes that an inode gets, by what stands there.
use Rattle.std.proofs.Common.{◌≡◌, ◌≢◌, ℕ, cond, nat_eq, Bool, List, ap, sym, ◌∙◌, Option, Some}
use Rattle.std.specs.Option.{option_and_then}
use Rattle.std.proofs.lemmas.Bool.{eq-eqb, ne_eqb}
use Rattle.nv_scan.specs.declared.piece.Row.{Row}
use Rattle.nv_rows.specs.Rows.{row_of}
use Rattle.nv_calls.specs.ReplaceCalls.{replace_count, replace_here_blocks, replace_over_blocks}

-- the row of the inode that has the new name
pub row_there : (rows : List Row) (there : Option ℕ) (k : ℕ) (had : Row) → there ≡ Some k → row_of rows k ≡ Some had → option_and_then (row_of rows) there ≡ Some had
row_there rows there k had is at = ap (λ (o : Option ℕ). option_and_then (row_of rows) o) is ∙ at

module _ (place end : ℕ) (from to had : Row) (i : ℕ) (name other : List ℕ) (time : ℕ) where
  pub count_one : had.inode ≡ i → replace_count place end from to (Some had) i name other time ≡ 0
  count_one same = ap (λ (b : Bool). cond b 0 (cond (nat_eq place end) (replace_here_blocks from had i name other time) (replace_over_blocks from to had i name other time))) (eq-eqb had.inode i same)

  module _ (apart : had.inode ≢ i) where
    other_inode : replace_count place end from to (Some had) i name other time ≡ cond (nat_eq place end) (replace_here_blocks from had i name other time) (replace_over_blocks from to had i name other time)
    other_inode = ap (λ (b : Bool). cond b 0 (cond (nat_eq place end) (replace_here_blocks from had i name other time) (replace_over_blocks from to had i name other time))) (ne_eqb had.inode i apart)

    pub count_here : place ≡ end → replace_here_blocks from had i name other time ≡ replace_count place end from to (Some had) i name other time
    count_here same = sym (other_inode ∙ ap (λ (b : Bool). cond b (replace_here_blocks from had i name other time) (replace_over_blocks from to had i name other time)) (eq-eqb place end same))

    pub count_over : place ≢ end → replace_over_blocks from to had i name other time ≡ replace_count place end from to (Some had) i name other time
    count_over differ = sym (other_inode ∙ ap (λ (b : Bool). cond b (replace_here_blocks from had i name other time) (replace_over_blocks from to had i name other time)) (ne_eqb place end differ))
