-- Light entries, whose names stand in the region: what each says there.
use Rattle.std.specs.Prelude.{◌≡◌, ℕ, ◌+◌, ◌*◌, ◌%◌, ◌<◌, ◌≤◌, List, take}
use Rattle.std.specs.List.{flat_map, range_with_len}
use Rattle.nv_region.specs.Region.{Region, size, word}
use Rattle.nv_entry.specs.Digits.{low_bytes}
use Rattle.nv_entry.specs.Spelling.{words_for}
use Rattle.nv_entry.specs.declared.entry.NameEntry.{NameEntry}
use Rattle.nv_entry.specs.declared.entry.Entry.{Entry}
use Rattle.nv_entry.specs.declared.entry.Entry.TheVariants as values
use Rattle.nv_entry.specs.declared.light.LightName.{LightName}
use Rattle.nv_entry.specs.declared.light.LightEntry.{LightEntry}
use Rattle.nv_entry.specs.declared.light.LightEntry.TheVariants as light

-- the first n bytes of the words from the address a on
unfoldable pub text_at : Region → ℕ → ℕ → List ℕ
text_at region a n = take n (flat_map (λ k. low_bytes 8 (word region (a + 8 * k))) (range_with_len 0 (words_for n)))

-- the name entry that a light one would be with this name
abbrev pub with_name : LightName → List ℕ → NameEntry
with_name e name = record { operation = e.operation; inode = e.inode; time = e.time; name = name }

-- the name entry that a light one stands for
abbrev pub name_in : Region → LightName → NameEntry
name_in region e = with_name e (text_at region e.at e.count)

-- the entry that a light one stands for
abbrev pub entry_in : Region → LightEntry → Entry
entry_in region light.NextPage = values.NextPage
entry_in region (light.Write e) = values.Write e
entry_in region (light.Attr e) = values.Attr e
entry_in region (light.Name e) = values.Name (name_in region e)
entry_in region (light.Links e) = values.Links e

-- a name of 1 to 255 bytes lies there within the region
pub record HasName (region : Region) (e : LightName) : Type 0 where
  pub aligned : e.at % 8 ≡ 0
  pub inside : e.at + 8 * words_for e.count ≤ size region
  pub some : 0 < e.count
  pub fits : e.count ≤ 255

-- the entry's name, if it has one, can be read
abbrev pub CanBeRead : Region → LightEntry → Type 0
CanBeRead region light.NextPage = Unit {0}
CanBeRead region (light.Write e) = Unit {0}
CanBeRead region (light.Attr e) = Unit {0}
CanBeRead region (light.Name e) = HasName region e
CanBeRead region (light.Links e) = Unit {0}

-- the entry that a light one is by itself: one with a name says nothing
abbrev pub bare : LightEntry → Entry
bare light.NextPage = values.NextPage
bare (light.Write e) = values.Write e
bare (light.Attr e) = values.Attr e
bare (light.Name e) = values.NextPage
bare (light.Links e) = values.Links e
