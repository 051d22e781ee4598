-- A reader that goes on behind what it found.
use Rattle.std.proofs.Common.{Fits, w64, false, eqb, Option, ◌≡◌, ℕ, ◌+◌, ◌-◌, ◌*◌, ◌/◌, ◌%◌, ◌<◌, ◌≤◌, List, [], ◌∷◌, ◌++◌, length, length-append, IsTrue, ap, sym, ◌∙◌, subst, arith}
use Rattle.std.specs.List.{list_any}
use Rattle.nv_region.specs.Region.{Region}
use Rattle.nv_blockset.specs.Listed.{Listed}
use Rattle.nv_super.specs.Layout.{is_page_start}
use Rattle.nv_entry.specs.Spelling.{entry_length}
use Rattle.nv_entry.specs.Light.{entry_in}
use Rattle.nv_entry.proofs.Same.{entry_length_words, entry_length_positive}
use Rattle.nv_logpage.specs.declared.found.LogEnd.{LogEnd}
use Rattle.nv_logpage.specs.declared.found.Placed.{Placed}
use Rattle.nv_logpage.specs.declared.light.LightPlaced.{LightPlaced}
use Rattle.nv_logpage.specs.declared.light.LightFinding.{LightFinding}
use Rattle.nv_logpage.specs.declared.light.LightFinding.TheVariants.{Entry, Page, End}
use Rattle.nv_logpage.specs.declared.reader.LogReader.TheInside.{Inside}
use Rattle.nv_logpage.specs.Light.{finding_in}
use Rattle.nv_logpage.specs.Progress.{Falls, Leads, Continues, Progress, after, remaining}
use Rattle.nv_logpage.specs.Reading.{IsReading}
use Rattle.nv_logpage.specs.Reads.{Finds, room_at}
use Rattle.nv_logpage.specs.Steps.{GoesOn}
use Rattle.nv_logpage.proofs.Progress.{continues_to}
use Rattle.nv_logpage.proofs.Steps.{start_inside, start_whole}

-- what a reader shows
abbrev pub shown : Inside → Progress
shown s = record { sup = s.sup; tail = s.tail; place = s.place; pages = s.read.blocks }

-- an entry that ends within the entries of its page leaves less
less_in_page : (at place n blocks pages : ℕ) → at ≡ place → n ≤ 4064 - place % 4096 → 8 ≤ n → 4096 * (blocks - pages) + (4096 - (at + n) % 4096) < 4096 * (blocks - pages) + (4096 - place % 4096)
less_in_page at place n blocks pages is room some = omega arith

-- and so does a page more, at whose start the place is
less_by_page : (place a blocks pages more : ℕ) → a % 4096 ≡ 0 → place % 4096 ≤ 4064 → more ≡ pages + 1 → more ≤ blocks → 4096 * (blocks - more) + (4096 - a % 4096) < 4096 * (blocks - pages) + (4096 - place % 4096)
less_by_page place a blocks pages more start offset is few = omega arith

entry_inside : (at place n blocks : ℕ) → at ≡ place → n ≤ 4064 - place % 4096 → 8 ≤ n → place / 4096 < blocks → (at + n) / 4096 < blocks
entry_inside at place n blocks is room some inside = omega arith

entry_offset : (at place n : ℕ) → at ≡ place → n ≤ 4064 - place % 4096 → 8 ≤ n → (at + n) % 4096 ≤ 4064
entry_offset at place n is room some = omega arith

entry_aligned : (at place n : ℕ) → at ≡ place → place % 8 ≡ 0 → n % 8 ≡ 0 → (at + n) % 8 ≡ 0
entry_aligned at place n is whole words = omega arith

entry_fits : (at place n blocks : ℕ) → at ≡ place → n ≤ 4064 - place % 4096 → 8 ≤ n → place / 4096 < blocks → blocks ≤ 262144 → Fits w64 (at + n)
entry_fits at place n blocks is room some inside few = omega arith

start_aligned : (a : ℕ) → a % 4096 ≡ 0 → a % 8 ≡ 0
start_aligned a start = omega arith

start_offset : (a : ℕ) → a % 4096 ≡ 0 → a % 4096 ≤ 4064
start_offset a start = omega arith

module _ (R : Region) (s : Inside) (now : Progress) (found : LightFinding) (is : IsReading s) (view : shown s ≡ now) where
  pub finds_so : Finds R s.sup s.tail s.read.blocks s.place (finding_in R found) → Finds R now.sup now.tail now.pages now.place (finding_in R found)
  finds_so f = subst (λ (r : Progress). Finds R r.sup r.tail r.pages r.place (finding_in R found)) view f

  pub goes_so : GoesOn s.sup s.read.blocks s.place (finding_in R found) → GoesOn now.sup now.pages now.place (finding_in R found)
  goes_so o = subst (λ (r : Progress). GoesOn r.sup r.pages r.place (finding_in R found)) view o

  pub same_log : (s.sup ≡ now.sup) × (s.tail ≡ now.tail)
  same_log = (ap (λ (r : Progress). r.sup) view, ap (λ (r : Progress). r.tail) view)

  -- to a place that was reached by the finding it comes with what was read
  pub leads_so : (to : Progress) → to ≡ after now (finding_in R found) → Finds R s.sup s.tail s.read.blocks s.place (finding_in R found) → (head : ℕ) (es : List Placed) → Leads R head now es → Continues R head to es (finding_in R found)
  leads_so to moves f head es l = continues_to R head now to es (finding_in R found) moves (finds_so f) l

  -- behind an entry
  module _ (x : LightPlaced) (n : ℕ) (entry : found ≡ Entry x) (long : n ≡ entry_length (entry_in R x.entry)) (goes : GoesOn s.sup s.read.blocks s.place (finding_in R found)) where
    here : (x.at ≡ s.place) × (entry_length (entry_in R x.entry) ≤ room_at s.place)
    here = subst (λ (f : LightFinding). GoesOn s.sup s.read.blocks s.place (finding_in R f)) entry goes

    room : n ≤ 4064 - s.place % 4096
    room = subst (λ (m : ℕ). m ≤ 4064 - s.place % 4096) (sym long) here.1

    some : 8 ≤ n
    some = subst (λ (m : ℕ). 8 ≤ m) (sym long) (entry_length_positive (entry_in R x.entry))

    pub behind_fits : Fits w64 (x.at + n)
    behind_fits = entry_fits x.at s.place n s.sup.blocks here.0 room some is.place.inside is.areas.blocks_to

    pub behind_reading : IsReading (record s { place = x.at + n })
    behind_reading = record {
      areas = is.areas;
      blocks = is.blocks;
      few = is.few;
      place = record {
        inside = entry_inside x.at s.place n s.sup.blocks here.0 room some is.place.inside;
        aligned = entry_aligned x.at s.place n here.0 is.place.aligned (subst (λ (m : ℕ). m % 8 ≡ 0) (sym long) (entry_length_words (entry_in R x.entry)));
        offset = entry_offset x.at s.place n here.0 room some;
      };
    }

    pub behind_moves : shown (record s { place = x.at + n }) ≡ after now (finding_in R found)
    behind_moves = ap (λ (m : ℕ). record (shown s) { place = x.at + m }) long ∙ ap (λ (r : Progress). after r (finding_in R (Entry x))) view ∙ sym (ap (λ (f : LightFinding). after now (finding_in R f)) entry)

    pub behind_less : Falls now (shown (record s { place = x.at + n })) (finding_in R found)
    behind_less =
        subst (λ (f : LightFinding). Falls now (shown (record s { place = x.at + n })) (finding_in R f)) (sym entry)
        (subst (λ (r : Progress). remaining (shown (record s { place = x.at + n })) < remaining r) view
        (less_in_page x.at s.place n s.sup.blocks (length s.read.blocks) here.0 room some))

  -- at the start of a page
  module _ (a : ℕ) (page : found ≡ Page a) (goes : GoesOn s.sup s.read.blocks s.place (finding_in R found)) where
    turned : IsTrue (is_page_start s.sup a) × (list_any (eqb (a / 4096)) s.read.blocks ≡ false)
    turned = subst (λ (f : LightFinding). GoesOn s.sup s.read.blocks s.place (finding_in R f)) page goes

    pub page_below : a / 4096 < s.read.bound
    page_below = subst (λ (n : ℕ). a / 4096 < n) (sym is.blocks) (start_inside s.sup a turned.0)

    pub page_fresh : list_any (eqb (a / 4096)) s.read.blocks ≡ false
    page_fresh = turned.1

    module _ (read : Listed) (pushed : read ≡ record { bound = s.read.bound; blocks = s.read.blocks ++ a / 4096 ∷ [] }) (few : length read.blocks ≤ read.bound) where
      same_bound : read.bound ≡ s.sup.blocks
      same_bound = ap (λ (l : Listed). l.bound) pushed ∙ is.blocks

      pub page_reading : IsReading (record s { place = a; read = read })
      page_reading = record {
        areas = is.areas;
        blocks = same_bound;
        few = few;
        place = record {
          inside = start_inside s.sup a turned.0;
          aligned = start_aligned a (start_whole s.sup a turned.0);
          offset = start_offset a (start_whole s.sup a turned.0);
        };
      }

      pub page_moves : shown (record s { place = a; read = read }) ≡ after now (finding_in R found)
      page_moves = ap (λ (l : Listed). record (shown s) { place = a; pages = l.blocks }) pushed ∙ ap (λ (r : Progress). after r (finding_in R (Page a))) view ∙ sym (ap (λ (f : LightFinding). after now (finding_in R f)) page)

      pub page_less : Falls now (shown (record s { place = a; read = read })) (finding_in R found)
      page_less =
          subst (λ (f : LightFinding). Falls now (shown (record s { place = a; read = read })) (finding_in R f)) (sym page)
          (subst (λ (r : Progress). remaining (shown (record s { place = a; read = read })) < remaining r) view
          (less_by_page s.place a s.sup.blocks (length s.read.blocks) (length read.blocks) (start_whole s.sup a turned.0) is.place.offset
          (ap (λ (l : Listed). length l.blocks) pushed ∙ length-append s.read.blocks (a / 4096 ∷ [])) (subst (λ (n : ℕ). length read.blocks ≤ n) same_bound few)))

    -- where the page is refused, all stays
    pub refused_reading : (read : Listed) → read ≡ s.read → IsReading (record s { read = read })
    refused_reading read same = subst (λ (l : Listed). IsReading (record s { read = l })) (sym same) is

  -- at the end
  pub end_moves : (fault : Option LogEnd) → found ≡ End fault → now ≡ after now (finding_in R found)
  end_moves fault end = sym (ap (λ (f : LightFinding). after now (finding_in R f)) end)

  pub end_less : (fault : Option LogEnd) → found ≡ End fault → Falls now now (finding_in R found)
  end_less fault end = subst (λ (f : LightFinding). Falls now now (finding_in R f)) (sym end) tt
