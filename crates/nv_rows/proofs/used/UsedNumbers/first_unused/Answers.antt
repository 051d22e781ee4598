use Rattle.std.proofs.Common.{◌≡◌, ◌<◌, ◌*◌, ◌+◌, ◌∙◌, ℕ, List, ap, sym, subst, length, get_or, arith}
use Rattle.std.specs.Global.{Vec}
use Rattle.std.proofs.lemmas.List.{get_or_default}
use Rattle.nv_blockset.specs.BlockSet.{has}
use Rattle.nv_inode.specs.Tables.{lists_of}
use Rattle.nv_inode.proofs.TicketBlocks.{lists_long}
use Rattle.nv_rows.specs.InUse.{has_number, HaveRoom, UsedSets}
use Rattle.nv_rows.proofs.UsedPlaces.{bit_there, set_found}
use Rattle.nv_rows.proofs.used.UsedNumbers.first_unused.Goals as goal

-- the bit of a place in the words that are looked at
bit_of : (sizes : List ℕ) (sets : List (Vec ℕ)) (had : HaveRoom sizes (lists_of sets)) (seen : UsedSets) → record { sizes = sizes; sets = lists_of sets } ≡ seen → (cpu : ℕ) → cpu < length seen.sizes → (v : Vec ℕ) → v ≡ get_or sets cpu v
    → (words : List ℕ) → words ≡ v.items → (place : ℕ) → has_number seen.sets (place * length seen.sizes + cpu) ≡ has words place
bit_of sizes sets had seen same cpu below v at words are place =
    sym (ap (λ (u : UsedSets). has_number u.sets (place * length u.sizes + cpu)) same)
    ∙ bit_there sizes (lists_of sets) cpu place had.as_many inside
    ∙ ap (λ (w : List ℕ). has w place) (set_found sets cpu v at (let long = lists_long sets in let many = had.as_many in let e = inside in omega (arith, long, many, e)) ∙ sym are)
  where
    inside : cpu < length sizes
    inside = subst (λ (u : UsedSets). cpu < length u.sizes) (sym same) below

size_read : (sizes : List ℕ) (sets : List (List ℕ)) (seen : UsedSets) → record { sizes = sizes; sets = sets } ≡ seen → (cpu : ℕ) → cpu < length seen.sizes → (size : ℕ) → size ≡ get_or sizes cpu size → get_or seen.sizes cpu 0 ≡ size
size_read sizes sets seen same cpu below size at =
    sym (ap (λ (u : UsedSets). get_or u.sizes cpu 0) same) ∙ get_or_default sizes cpu 0 size (subst (λ (u : UsedSets). cpu < length u.sizes) (sym same) below) ∙ sym at

pub returns-clause-used : goal.returns-clause-used
returns-clause-used c place behind before =
    bit_of c.self.inside.sizes.items c.self.inside.sets.items c.self.invariant c.args.self.now c.self.view_is c.args.cpu c.requires.cpu c.index.result.now c.index.ensures c.deref.result.now c.deref.ensures.value place
    ∙ c.first_clear.ensures.set place behind before

pub returns-clause-unused : goal.returns-clause-unused
returns-clause-unused c before =
    bit_of c.self.inside.sizes.items c.self.inside.sets.items c.self.invariant c.args.self.now c.self.view_is c.args.cpu c.requires.cpu c.index.result.now c.index.ensures c.deref.result.now c.deref.ensures.value c.first_clear.result
    ∙ c.first_clear.ensures.clear (subst (λ (n : ℕ). c.first_clear.result < n) (size_read c.self.inside.sizes.items (lists_of c.self.inside.sets.items) c.args.self.now c.self.view_is c.args.cpu c.requires.cpu c.index-2.result.now c.index-2.ensures) before)
