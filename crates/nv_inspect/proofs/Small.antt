-- An entry that counts has small numbers.
use Rattle.std.proofs.Common.{◌≡◌, ◌+◌, ◌≤◌, ◌^◌, Bool, true, false, not, refl, rules, arith}
use Rattle.std.proofs.lemmas.Bool.Decides.{nat_tests}
use Rattle.nv_super.specs.declared.superblock.Super.{Super}
use Rattle.nv_super.specs.declared.kind.Kind.{Kind}
use Rattle.nv_super.specs.declared.kind.Kind.TheVariants.{File, Directory}
use Rattle.nv_super.specs.Layout.{HasAreas}
use Rattle.nv_entry.specs.declared.entry.WriteEntry.{WriteEntry}
use Rattle.nv_entry.specs.declared.entry.Entry.{Entry}
use Rattle.nv_entry.specs.declared.entry.Entry.TheVariants.{NextPage, Write, Attr, Name, Links}
use Rattle.nv_entry.specs.Content.{is_good, is_write_out_of_range}
use Rattle.nv_inspect.specs.Entry.{IsSmallEntry}

fits : (s : Super) → HasAreas s → (e : WriteEntry) → is_write_out_of_range s e ≡ false → (e.offset + e.count ≤ 2 ^ 32) × (e.block + e.count ≤ 2 ^ 32)
fits s areas e good =
    let pages : e.offset + e.count ≤ 262144 = grind (arith, nat_tests) in
    let blocks : e.block + e.count ≤ s.blocks = grind (arith, nat_tests) in
    let most = areas.blocks_to in
    (omega (arith, pages), omega (arith, blocks, most))

right : (out : Bool) → true ≡ not out → out ≡ false
right true same = same
right false same = refl

pub good_is_small : (s : Super) → HasAreas s → (kind : Kind) (e : Entry) → true ≡ is_good s kind e → IsSmallEntry e
good_is_small s areas File (Write e) good = fits s areas e (right (is_write_out_of_range s e) good)
good_is_small s areas Directory (Write e) good = search rules
good_is_small s areas kind NextPage good = tt
good_is_small s areas kind (Attr e) good = tt
good_is_small s areas kind (Name e) good = tt
good_is_small s areas kind (Links e) good = tt
