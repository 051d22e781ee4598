-- What `set_attr` makes of a row and of the tree.
use Rattle.std.proofs.Common.{◌≡◌, ℕ, ◌%◌, ◌≤◌, List, [], ◌∷◌, ◌++◌, take, refl, ap, sym, ◌∙◌, arith, Option}
use Rattle.nv_region.specs.Region.{Region}
use Rattle.nv_super.specs.Layout.{Layout}
use Rattle.nv_alloc.specs.FreeValue.{FreeLists}
use Rattle.nv_entry.specs.declared.entry.AttrEntry.{AttrEntry}
use Rattle.nv_entry.specs.declared.entry.Entry.TheVariants.{Attr}
use Rattle.nv_logpage.specs.Append.{end_of, needed, place_of}
use Rattle.nv_radix.specs.Pages.{block_at}
use Rattle.nv_names.specs.Names.{Names, name_at}
use Rattle.nv_scan.specs.State.{size_of}
use Rattle.nv_scan.specs.declared.piece.Row.{Row}
use Rattle.nv_scan.specs.declared.numbers.Numbers.{Numbers}
use Rattle.nv_mounted.specs.Held.{Held, Store, good_in}
use Rattle.nv_mounted.specs.Mounted.{KeepsRow}
use Rattle.nv_commit.specs.Extends.{extended}
use Rattle.nv_steps.specs.Attributes.{HasAttributes}
use Rattle.nv_steps.specs.Grown.{HasGrown}
use Rattle.nv_steps.specs.Steps.{AppendsLog, LogFollows, ShowsRow}
use Rattle.nv_steps.proofs.AttrEntries.{attr_clean, attr_file, attr_names, attr_numbers}
use Rattle.nv_steps.proofs.LogGrows.{can_extend, log_follows, pages_now}

-- the numbers with what an attributes entry says
abbrev pub numbers_with : Numbers → AttrEntry → Numbers
numbers_with n x = record { size = x.size; mode = x.mode; owner = x.owner; group = x.group; links = n.links; time = x.time }

-- The row has what the entry says, and there is nothing else new but of the log.
pub has_attributes : {row mid : Row} {fresh : List ℕ} {end : ℕ} (x : AttrEntry) {n : Numbers} → HasGrown row fresh end mid → n ≡ numbers_with mid.numbers x → x.size ≡ row.numbers.size → HasAttributes row x (record mid { numbers = n })
has_attributes {row} {mid} {fresh} {end} x {n} grown says size = record {
  inode = grown.inode;
  kind = grown.kind;
  size = ap (λ (m : Numbers). m.size) says ∙ size;
  mode = ap (λ (m : Numbers). m.mode) says;
  owner = ap (λ (m : Numbers). m.owner) says;
  group = ap (λ (m : Numbers). m.group) says;
  links = ap (λ (m : Numbers). m.links) says ∙ ap (λ (m : Numbers). m.links) grown.numbers;
  time = ap (λ (m : Numbers). m.time) says;
  index = grown.index;
  names = grown.names;
}

module _ {R S : Region} {l : Layout} {held : Store} {h : Held} {row mid : Row} {free after : FreeLists} {cpu : ℕ} (x : AttrEntry) (shows : ShowsRow R l held h row free) (lists : free.sup ≡ l.sup) (a : AppendsLog R S l free after cpu row mid (Attr x ∷ [])) (mode : x.mode ≤ 4095) (size : x.size ≡ row.numbers.size) where
  abbrev now : Held
  now = extended h (Attr x ∷ []) a.fresh

  size_held : x.size ≡ size_of (good_in l h)
  size_held = let told = shows.told in let numbers = told.numbers in size ∙ numbers.size

  abbrev at : ℕ
  at = place_of a.fresh 0 h.tail (Attr x)

  abbrev pages : List ℕ
  pages = take (needed (h.tail % 4096) (Attr x ∷ [])) a.fresh

  tails : row.tail ≡ h.tail
  tails = let told = shows.told in told.tail

  abbrev new : Row
  new = record mid { numbers = numbers_with mid.numbers x }

  kept : KeepsRow l now new
  kept =
      let told = shows.told in
      let grown = a.row in
      record {
        kind = grown.kind ∙ told.kind;
        numbers = attr_numbers l h x mode size_held (end_of a.fresh 0 h.tail (Attr x ∷ [])) at pages row.numbers (numbers_with mid.numbers x) told.numbers refl refl refl refl (ap (λ (n : Numbers). n.links) grown.numbers) refl;
        head = grown.head ∙ told.head;
        tail = grown.tail ∙ ap (λ (t : ℕ). end_of a.fresh 0 t (Attr x ∷ [])) tails;
        pages = grown.pages ∙ ap (λ (ps : List ℕ). ps ++ a.fresh) told.pages ∙ sym (pages_now (Attr x ∷ []) shows lists a.taken a.count (refl, tt) (omega arith));
        index = λ p. ap (λ (ix : List (ℕ × Option ℕ)). block_at ix p) grown.index ∙ told.index p ∙ sym (attr_file l h x mode size_held (end_of a.fresh 0 h.tail (Attr x ∷ [])) at pages p);
        names = λ q. (let same = attr_names l h x mode size_held (end_of a.fresh 0 h.tail (Attr x ∷ [])) at pages in ap (λ (n : Names). name_at n q) grown.names ∙ told.names q ∙ sym (same.names q));
      }

  -- The log has the entry, and the row what it says.
  pub attributes_follow : LogFollows R S l held h (Attr x ∷ []) free.pools cpu row new after
  attributes_follow =
      let sound = shows.sound in
      let right = sound.faultless in
      let grown = a.row in
      log_follows (Attr x ∷ []) shows lists a.taken a.count (refl, tt) (omega arith) (a.moved held h (can_extend (Attr x ∷ []) shows lists a.taken a.count (refl, tt) (omega arith))) a.mixed
      (attr_names l h x mode size_held (end_of a.fresh 0 h.tail (Attr x ∷ [])) at pages)
      (attr_file l h x mode size_held (end_of a.fresh 0 h.tail (Attr x ∷ [])) at pages)
      (attr_clean l h x mode size_held (end_of a.fresh 0 h.tail (Attr x ∷ [])) at pages row.inode (λ f fault. right.clean row.inode h f shows.holds fault))
      new grown.inode kept
