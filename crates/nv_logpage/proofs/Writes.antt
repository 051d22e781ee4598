-- A write entry that is found, and where the entries of its page end.
use Rattle.std.proofs.Common.{◌≡◌, ◌≢◌, ℕ, ◌+◌, ◌/◌, ◌%◌, ◌≤◌, false, List, inl, inr, refl, arith}
use Rattle.std.proofs.lemmas.Bool.Decides.{eqb_tells, nat_tests}
use Rattle.nv_region.specs.Region.{Region}
use Rattle.nv_super.specs.declared.superblock.Super.{Super}
use Rattle.nv_entry.specs.declared.entry.WriteEntry.{WriteEntry}
use Rattle.nv_entry.specs.declared.entry.Entry.TheVariants.{Write}
use Rattle.nv_entry.specs.Spelling.{IsWriteAt}
use Rattle.nv_logpage.specs.Reads.{Finds, found_write, passes_tail, placed, room_at}
use Rattle.nv_logpage.specs.Steps.{end_of_entries}
use Rattle.nv_logpage.proofs.Longer.{got_entry, entry_found, other_page, before_tail}

-- an entry that ends by the end of the entries has room in its page
end_has_room : (tail p : ℕ) → p + 40 ≤ end_of_entries tail p → 40 ≤ room_at p
end_has_room tail p fits = elim (eqb_tells (p / 4096) (tail / 4096)) [
  | inl w ↦ (let k = rw w.0 at fits in omega arith)
  | inr w ↦ (let k = rw w.0 at fits in omega arith)
]

-- and doesn't pass the tail
end_stays : (tail p : ℕ) (e : WriteEntry) → p + 40 ≤ end_of_entries tail p → passes_tail tail p (Write e) ≡ false
end_stays tail p e fits = elim (eqb_tells (p / 4096) (tail / 4096)) [
  | inl w ↦ (let k = rw w.0 at fits in before_tail tail p (Write e) refl (omega arith))
  | inr w ↦ other_page tail p (Write e) w.1
]

-- one that has room and doesn't pass the tail ends by there
ends_by : (tail p : ℕ) (e : WriteEntry) → 40 ≤ room_at p → passes_tail tail p (Write e) ≡ false → p + 40 ≤ end_of_entries tail p
ends_by tail p e room stays = elim (eqb_tells (p / 4096) (tail / 4096)) [
  | inl w ↦ rw w.0 (let k = rw w.0 at stays in grind (arith, nat_tests))
  | inr w ↦ rw w.0 (omega arith)
]

no_link : (p : ℕ) → 40 ≤ room_at p → p % 4096 ≢ 4064
no_link p room link = omega (arith, room, link)

-- one at the tail would pass it
no_tail : (tail p : ℕ) (e : WriteEntry) → passes_tail tail p (Write e) ≡ false → p ≢ tail
no_tail tail p e stays at = grind (arith, nat_tests)

-- one that stands there and ends by the end of the entries is found
pub write_found : (R : Region) (s : Super) (tail : ℕ) (pages : List ℕ) (p : ℕ) (e : WriteEntry) → p + 40 ≤ end_of_entries tail p → IsWriteAt R p e → Finds R s tail pages p (found_write p e)
write_found R s tail pages p e fits stands =
    let room = end_has_room tail p fits in
    let stays = end_stays tail p e fits in
    entry_found R s tail pages p (placed p (Write e)) (record { place = refl; not_tail = no_tail tail p e stays; not_link = no_link p room; here = (stands, room); stays = stays; inner = refl })

module _ (R : Region) (s : Super) (tail : ℕ) (pages : List ℕ) (p : ℕ) (e : WriteEntry) (found : Finds R s tail pages p (found_write p e)) where
  -- one that is found stands there
  pub write_stands : IsWriteAt R p e
  write_stands = (got_entry R s tail pages p (placed p (Write e)) found).here.0

  -- and ends by the end of the entries
  pub write_ends : p + 40 ≤ end_of_entries tail p
  write_ends = let g = got_entry R s tail pages p (placed p (Write e)) found in ends_by tail p e g.here.1 g.stays
