-- How a call leaves the chains of the tables.
use Rattle.std.proofs.Common.{◌≡◌, inl, inr, ℕ, zero, suc, ◌≤◌, ◌==◌, true, false, List, [], ◌∷◌, ◌++◌, set, length, slice_get, unwrap_or, Some, refl, sym, ap, ◌∙◌, subst, arith}
use Rattle.std.proofs.lemmas.Bool.{cases_eq, cases_lt}
use Rattle.nv_super.specs.declared.superblock.Super.{Super}
use Rattle.nv_super.specs.Layout.{Layout, chain_of}
use Rattle.nv_inode.specs.Growing.{with_block}
use Rattle.nv_inode.proofs.GrownTables.{other_chain, own_chain}
use Rattle.nv_calls.specs.Mount.{Mount}
use Rattle.nv_calls.specs.Same.{GrowsWhereFull}
use Rattle.nv_history.specs.Keeping.{IsLaidBy, MayBeLaid}
use Rattle.nv_history.specs.Making.{ChainsGrow, grows_tables, is_upgrade}
use Rattle.nv_history.specs.Said.{Said, Create, MakeDirectory, Write, SetSize, SetAttributes, Link, Unlink, RemoveDirectory, Rename, Clean, Upgrade}

-- ---- chains

pub chains_same : (l k : Layout) → k.chains ≡ l.chains → ChainsGrow l k
chains_same l k same cpu n block at = ap (λ (chains : List (List ℕ)). slice_get (unwrap_or (slice_get chains cpu) []) n) same ∙ at

pub chains_then : (l k m : Layout) → ChainsGrow l k → ChainsGrow k m → ChainsGrow l m
chains_then l k m first second cpu n block at = second cpu n block (first cpu n block at)

set_past : (chains : List (List ℕ)) (c : ℕ) (x : List ℕ) → length chains ≤ c → set chains c x ≡ chains
set_past [] c x past = refl
set_past (y ∷ ys) zero x past = absurd (omega (arith, past))
set_past (y ∷ ys) (suc c) x past = ap (λ (rest : List (List ℕ)). y ∷ rest) (set_past ys c x (omega (arith, past)))

front_stays : (xs ys : List ℕ) (k block : ℕ) → slice_get xs k ≡ Some block → slice_get (xs ++ ys) k ≡ Some block
front_stays [] ys k block at = absurd (cc)
front_stays (x ∷ xs) ys zero block at = at
front_stays (x ∷ xs) ys (suc k) block at = front_stays xs ys k block at

one_block : (l : Layout) (c b : ℕ) → ChainsGrow l (with_block l c b)
one_block l c b cpu k block at = elim (cases_lt c (length l.chains)) [
  | inl below ↦ elim (cases_eq cpu c) [
    | inl same ↦ (
        let own : chain_of (with_block l c b) cpu ≡ chain_of l c ++ b ∷ [] = ap (chain_of (with_block l c b)) same ∙ own_chain l c b below in
        ap (λ (blocks : List ℕ). slice_get blocks k) own ∙ front_stays (chain_of l c) (b ∷ []) k block (subst (λ (q : ℕ). slice_get (chain_of l q) k ≡ Some block) same at))
    | inr differs ↦ ap (λ (blocks : List ℕ). slice_get blocks k) (other_chain l c b below cpu differs) ∙ at
  ]
  | inr past ↦ chains_same l (with_block l c b) (set_past l.chains c (chain_of l c ++ b ∷ []) past) cpu k block at
]

-- ---- a call

-- A call may leave tables so: the chains of before, which may have grown where it makes an inode in version 2.
pub record MayHave {P : Type 0} (m : Mount P) (call : Said) (k : Layout) : Type 0 where
  pub chains : ChainsGrow m.layout k
  pub stays : grows_tables m.sup call ≡ false → k.chains ≡ m.layout.chains
  pub same : is_upgrade call ≡ false → grows_tables m.sup call ≡ false → k ≡ m.layout

module _ {P : Type 0} (m : Mount P) (sup : m.layout.sup ≡ m.sup) (k : Layout) where
  as_before : (call : Said) → k ≡ m.layout → MayHave m call k
  as_before call is = record { chains = chains_same m.layout k (ap (λ (l : Layout). l.chains) is); stays = λ off. ap (λ (l : Layout). l.chains) is; same = λ no off. is }

  grown : (call : Said) (cpu : ℕ) → grows_tables m.sup call ≡ (m.sup.version == 2) → GrowsWhereFull m cpu k → MayHave m call k
  grown call cpu tells (inl is) = as_before call is
  grown call cpu tells (inr (two, none, b, is)) = record {
    chains = subst (λ (l : Layout). ChainsGrow m.layout l) (sym is) (one_block m.layout cpu b);
    stays = λ off. absurd (never off);
    same = λ no off. absurd (never off);
  } where
    on : (m.sup.version == 2) ≡ true
    on = ap (λ (s : Super). s.version == 2) (sym sup) ∙ ap (λ (v : ℕ). v == 2) two

    never : grows_tables m.sup call ≡ false → ⊥
    never off = let clash : true ≡ false = sym on ∙ sym tells ∙ off in cc

  -- where it is refused
  pub before_laid : (call : Said) → MayBeLaid call m k → MayHave m call k
  before_laid (Create cpu path mode time) may = grown (Create cpu path mode time) cpu refl may
  before_laid (MakeDirectory cpu path mode time) may = grown (MakeDirectory cpu path mode time) cpu refl may
  before_laid (Write cpu path offset bytes time) is = as_before (Write cpu path offset bytes time) is
  before_laid (SetSize cpu path size time) is = as_before (SetSize cpu path size time) is
  before_laid (SetAttributes cpu path mode owner group time) is = as_before (SetAttributes cpu path mode owner group time) is
  before_laid (Link cpu old new time) is = as_before (Link cpu old new time) is
  before_laid (Unlink cpu path time) is = as_before (Unlink cpu path time) is
  before_laid (RemoveDirectory cpu path time) is = as_before (RemoveDirectory cpu path time) is
  before_laid (Rename cpu old new time) is = as_before (Rename cpu old new time) is
  before_laid (Clean path) is = as_before (Clean path) is
  before_laid Upgrade is = as_before Upgrade is

  -- where it is made
  pub made_laid : (call : Said) → IsLaidBy call m k → MayHave m call k
  made_laid (Create cpu path mode time) may = grown (Create cpu path mode time) cpu refl may.0
  made_laid (MakeDirectory cpu path mode time) may = grown (MakeDirectory cpu path mode time) cpu refl may.0
  made_laid (Write cpu path offset bytes time) is = as_before (Write cpu path offset bytes time) is
  made_laid (SetSize cpu path size time) is = as_before (SetSize cpu path size time) is
  made_laid (SetAttributes cpu path mode owner group time) is = as_before (SetAttributes cpu path mode owner group time) is
  made_laid (Link cpu old new time) is = as_before (Link cpu old new time) is
  made_laid (Unlink cpu path time) is = as_before (Unlink cpu path time) is
  made_laid (RemoveDirectory cpu path time) is = as_before (RemoveDirectory cpu path time) is
  made_laid (Rename cpu old new time) is = as_before (Rename cpu old new time) is
  made_laid (Clean path) is = as_before (Clean path) is
  made_laid Upgrade is = (
      let chains : k.chains ≡ m.layout.chains = ap (λ (l : Layout). l.chains) is in
      record { chains = chains_same m.layout k chains; stays = λ off. chains; same = λ no off. absurd (cc) })
