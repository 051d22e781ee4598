-- A region holds one thing of each inode.
use Rattle.std.proofs.Common.{◌≡◌, ℕ, ◌+◌, true, false, ap, sym, ◌∙◌, subst, Some, slice_get}
use Rattle.std.proofs.lemmas.Bool.{true≢false}
use Rattle.nv_region.specs.Region.{Region, word}
use Rattle.nv_super.specs.Layout.{Layout, slot_of, chain_of}
use Rattle.nv_super.specs.declared.owners.Owner.{Owner}
use Rattle.nv_super.specs.declared.owners.Owner.TheVariants as owners
use Rattle.nv_super.proofs.Options.{some_is}
use Rattle.nv_inode.specs.Slot.{kind_at, is_right_log}
use Rattle.nv_logpage.specs.Reads.{Reads}
use Rattle.nv_logpage.proofs.Once.{ReadsOn-only}
use Rattle.nv_scan.specs.State.{block_of}
use Rattle.nv_scan.specs.Inode.{Log, IsInode, right, wrong, empty_log, good_of}
use Rattle.nv_scan.specs.Owners.{Owns, by_table, by_log, by_page}
use Rattle.nv_scan.specs.ChainBlocks.{IsChainless}
use Rattle.nv_scan.proofs.ChainBlocks.{no_place}

same_log : (a b : Log) → a.kind ≡ b.kind → a.entries ≡ b.entries → a.pages ≡ b.pages → a.fault ≡ b.fault → a ≡ b
same_log a b p q r s = λ i. record { kind = p i; entries = q i; pages = r i; fault = s i }

-- one address and one log of an inode
pub IsInode-only : {R : Region} {l : Layout} {i a b : ℕ} {x y : Log} → IsInode R l i a x → IsInode R l i b y → (a ≡ b) × (x ≡ y)
IsInode-only {R} {l} {i} {a} {b} {x} {y} (right s k t r) (right s' k' t' r') =
    let ab : b ≡ a = some_is b a (slot_of l i) s' s in
    let kind : x.kind ≡ y.kind = some_is x.kind y.kind (kind_at R a) k (subst (λ (z : ℕ). kind_at R z ≡ Some y.kind) ab k') in
    let one = ReadsOn-only r (subst (λ (z : ℕ). Reads R l.sup (word R (z + 16)) (word R (z + 24)) y.entries y.pages y.fault) ab r') in
    (sym ab, same_log x y kind one.0 one.1 one.2)
IsInode-only {R} {l} {i} {a} {b} (right s k t r) (wrong s' k' t') =
    let ab : b ≡ a = some_is b a (slot_of l i) s' s in
    absurd (true≢false (sym t ∙ subst (λ (z : ℕ). is_right_log l.sup (word R (z + 16)) (word R (z + 24)) ≡ false) ab t'))
IsInode-only {R} {l} {i} {a} {b} (wrong s k t) (right s' k' t' r') =
    let ab : b ≡ a = some_is b a (slot_of l i) s' s in
    absurd (true≢false (sym (subst (λ (z : ℕ). is_right_log l.sup (word R (z + 16)) (word R (z + 24)) ≡ true) ab t') ∙ t))
IsInode-only {R} {l} {i} {a} {b} {x} {y} (wrong {kind = u} s k t) (wrong {kind = v} s' k' t') =
    let ab : b ≡ a = some_is b a (slot_of l i) s' s in
    let kind : u ≡ v = some_is u v (kind_at R a) k (subst (λ (z : ℕ). kind_at R z ≡ Some v) ab k') in
    (sym ab, ap empty_log kind)

-- an inode in use has a slot, and is of a kind
pub slot_in_use : {R : Region} {l : Layout} {i a : ℕ} {log : Log} → IsInode R l i a log → slot_of l i ≡ Some a
slot_in_use (right s k t r) = s
slot_in_use (wrong s k t) = s

pub kind_in_use : {R : Region} {l : Layout} {i a : ℕ} {log : Log} → IsInode R l i a log → kind_at R a ≡ Some log.kind
kind_in_use (right s k t r) = k
kind_in_use (wrong s k t) = k

-- the owner of a log page
pub record OwnsLog (R : Region) (l : Layout) (i k b : ℕ) : Type 0 where
  pub a : ℕ
  pub log : Log
  pub is : IsInode R l i a log
  pub page : slice_get log.pages k ≡ Some b

-- the owner of a file's page
pub record OwnsPage (R : Region) (l : Layout) (i p b : ℕ) : Type 0 where
  pub a : ℕ
  pub log : Log
  pub is : IsInode R l i a log
  pub maps : block_of (good_of l log) p ≡ Some b

pub owned_log : {R : Region} {l : Layout} {i k b : ℕ} → Owns R l b (owners.Log i k) → OwnsLog R l i k b
owned_log (by_log {a = a} {log = x} h e) = record { a = a; log = x; is = h; page = e }

pub owned_page : {R : Region} {l : Layout} {i p b : ℕ} → Owns R l b (owners.Data i p) → OwnsPage R l i p b
owned_page (by_page {a = a} {log = x} h e) = record { a = a; log = x; is = h; maps = e }

-- the block of a chain
pub owned_table : {R : Region} {l : Layout} {c k b : ℕ} → Owns R l b (owners.Table c k) → slice_get (chain_of l c) k ≡ Some b
owned_table (by_table e) = e

-- without chains no table owns a block
pub no_table : {R : Region} {l : Layout} {c k b : ℕ} → IsChainless l → Owns R l b (owners.Table c k) → ⊥
no_table {l = l} {c = c} {k = k} {b = b} none h = no_place l c k b none (owned_table h)

-- each owner has one block
pub one_block : (R : Region) (l : Layout) (o : Owner) (b c : ℕ) → Owns R l b o → Owns R l c o → b ≡ c
one_block R l (owners.Table n k) b c h q = some_is b c (slice_get (chain_of l n) k) (owned_table h) (owned_table q)
one_block R l (owners.Log i k) b c h q =
    let u = owned_log h in let v = owned_log q in
    let same : u.log ≡ v.log = (IsInode-only u.is v.is).1 in
    some_is b c (slice_get v.log.pages k) (subst (λ (z : Log). slice_get z.pages k ≡ Some b) same u.page) v.page
one_block R l (owners.Data i p) b c h q =
    let u = owned_page h in let v = owned_page q in
    let same : u.log ≡ v.log = (IsInode-only u.is v.is).1 in
    some_is b c (block_of (good_of l v.log) p) (subst (λ (z : Log). block_of (good_of l z) p ≡ Some b) same u.maps) v.maps
