-- An entry is of the kind that its first word names.
use Rattle.std.proofs.Common.{◌≡◌, ℕ, ◌%◌, ◌<◌, ◌≤◌, arith}
use Rattle.nv_region.specs.Region.{Region, word}
use Rattle.nv_entry.specs.Spelling.{operation_code, IsWriteAt, IsAttrAt, IsLinksAt, Stands, entry_length}
use Rattle.nv_entry.specs.declared.entry.Operation.{Operation}
use Rattle.nv_entry.specs.declared.entry.Operation.TheVariants.{Add, Remove}
use Rattle.nv_entry.specs.declared.entry.WriteEntry.{WriteEntry}
use Rattle.nv_entry.specs.declared.entry.AttrEntry.{AttrEntry}
use Rattle.nv_entry.specs.declared.entry.LinksEntry.{LinksEntry}
use Rattle.nv_entry.specs.declared.entry.Entry.{Entry}
use Rattle.nv_entry.specs.declared.entry.Entry.TheVariants.{NextPage, Write, Attr, Name, Links}

pub small_operation : (o : Operation) → operation_code o < 256
small_operation Add = omega arith
small_operation Remove = omega arith

-- the type in an entry's first word
abbrev pub kind_of : Entry → ℕ
kind_of NextPage = 0
kind_of (Write _) = 1
kind_of (Attr _) = 2
kind_of (Name _) = 3
kind_of (Links _) = 4

pub Stands-kind : (R : Region) (at : ℕ) (e : Entry) → Stands R at e → word R at % 256 ≡ kind_of e
Stands-kind R at NextPage s = omega arith
Stands-kind R at (Write e) s = omega (arith, s.first)
Stands-kind R at (Attr e) s = omega (arith, s.first)
Stands-kind R at (Name e) s = omega (arith, s.first, small_operation e.operation)
Stands-kind R at (Links e) s = omega (arith, s.first)

-- Where no entry of the first word's kind stands, none does.
pub no_write : (R : Region) (at room : ℕ) → word R at % 256 ≡ 1 → ((e : WriteEntry) → IsWriteAt R at e → 40 ≤ room → ⊥) → (e : Entry) → Stands R at e → entry_length e ≤ room → ⊥
no_write R at room k h NextPage s r = omega (arith, Stands-kind R at NextPage s)
no_write R at room k h (Write e) s r = h e s r
no_write R at room k h (Attr e) s r = omega (arith, Stands-kind R at (Attr e) s)
no_write R at room k h (Name e) s r = omega (arith, Stands-kind R at (Name e) s)
no_write R at room k h (Links e) s r = omega (arith, Stands-kind R at (Links e) s)

pub no_attr : (R : Region) (at room : ℕ) → word R at % 256 ≡ 2 → ((e : AttrEntry) → IsAttrAt R at e → 32 ≤ room → ⊥) → (e : Entry) → Stands R at e → entry_length e ≤ room → ⊥
no_attr R at room k h NextPage s r = omega (arith, Stands-kind R at NextPage s)
no_attr R at room k h (Write e) s r = omega (arith, Stands-kind R at (Write e) s)
no_attr R at room k h (Attr e) s r = h e s r
no_attr R at room k h (Name e) s r = omega (arith, Stands-kind R at (Name e) s)
no_attr R at room k h (Links e) s r = omega (arith, Stands-kind R at (Links e) s)

pub no_links : (R : Region) (at room : ℕ) → word R at % 256 ≡ 4 → ((e : LinksEntry) → IsLinksAt R at e → 24 ≤ room → ⊥) → (e : Entry) → Stands R at e → entry_length e ≤ room → ⊥
no_links R at room k h NextPage s r = omega (arith, Stands-kind R at NextPage s)
no_links R at room k h (Write e) s r = omega (arith, Stands-kind R at (Write e) s)
no_links R at room k h (Attr e) s r = omega (arith, Stands-kind R at (Attr e) s)
no_links R at room k h (Name e) s r = omega (arith, Stands-kind R at (Name e) s)
no_links R at room k h (Links e) s r = h e s r
