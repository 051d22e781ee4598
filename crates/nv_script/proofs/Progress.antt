-- How far a script has come: whatever the other lines show from here on, it completes what was written so far.
--
-- `shows` is the transcript from the first line on, `here` and `next` from the lines that are reached on.
use Rattle.std.proofs.Common.{◌≡◌, ℕ, ◌+◌, List, [], ◌∷◌, ◌++◌, length, take, Option, refl, sym, ap, ◌∙◌, append_assoc, append-nil}
use Rattle.std.proofs.Math.Seq.{take-append-add, take-append_seam}
use Rattle.std.specs.Io.KnownBytes.{Appends}
use Rattle.nv_stream.specs.Streams.{AppendsShort}
use Rattle.nv_stream.proofs.StreamLemmas.{appends_none, appends_both, appends_short}

-- the lines were `done`, then `rest`, and `written` was added
pub record Progress (shows here : List (List ℕ) → List ℕ → ℕ → Type 0) (lines rest : List (List ℕ)) (old now : Option (List ℕ)) : Type 0 where
  pub done : List (List ℕ)
  pub written : List ℕ
  pub whole : lines ≡ done ++ rest
  pub added : Appends old now written
  pub completes : (more : List (List ℕ)) (text : List ℕ) (status : ℕ) → here more text status → shows (done ++ more) (written ++ text) status

-- before the first line
pub begins : (shows : List (List ℕ) → List ℕ → ℕ → Type 0) (lines : List (List ℕ)) (old : Option (List ℕ)) → Progress shows shows lines lines old old
begins shows lines old = record { done = []; written = []; whole = refl; added = appends_none old; completes = λ more text status shown. shown }

module _ (shows here : List (List ℕ) → List ℕ → ℕ → Type 0) (lines rest : List (List ℕ)) (old now : Option (List ℕ)) where
  -- one more line, which printed `first`
  pub goes_on : (next : List (List ℕ) → List ℕ → ℕ → Type 0) (l first : List ℕ) (then : Option (List ℕ)) → Progress shows here lines (l ∷ rest) old now → Appends now then first
      → ((more : List (List ℕ)) (text : List ℕ) (status : ℕ) → next more text status → here (l ∷ more) (first ++ text) status)
      → Progress shows next lines rest old then
  goes_on next l first then p added step = record {
    done = p.done ++ l ∷ [];
    written = p.written ++ first;
    whole = p.whole ∙ sym (append_assoc p.done (l ∷ []) rest);
    added = appends_both old now then p.written first p.added added;
    completes = λ more text status shown.
        let whole = p.completes (l ∷ more) (first ++ text) status (step more text status shown) in
        rw (append_assoc p.done (l ∷ []) more, append_assoc p.written first text) whole;
  }

  -- the other lines show this text, which was added
  pub all_here : (then : Option (List ℕ)) (text : List ℕ) (status : ℕ) → Progress shows here lines rest old now → here rest text status → Appends now then text
      → (text : List ℕ) × Appends old then text × shows lines text status
  all_here then text status p shown added = (p.written ++ text, appends_both old now then p.written text p.added added, rw p.whole (p.completes rest text status shown))

  -- the lines so far are a transcript of their own
  pub whole_here : (status : ℕ) → Progress shows here lines rest old now → here [] [] status
      → (count : ℕ) × (text : List ℕ) × (status : ℕ) × Appends old now text × shows (take count lines) text status
  whole_here status p ended =
      let first : take (length p.done) lines ≡ p.done ++ [] = ap (take (length p.done)) p.whole ∙ take-append_seam p.done rest ∙ sym (append-nil p.done) in
      (length p.done, p.written ++ [], status, rw (append-nil) p.added, rw first (p.completes [] [] status ended))

  -- the next line shows this text, of which a front was added, and not all
  pub short_there : (l : List ℕ) (then : Option (List ℕ)) (text : List ℕ) (status : ℕ) → Progress shows here lines (l ∷ rest) old now → here (l ∷ []) text status → AppendsShort now then text
      → (count : ℕ) × (text : List ℕ) × (status : ℕ) × AppendsShort old then text × shows (take count lines) text status
  short_there l then text status p shown added =
      let first : take (length p.done + 1) lines ≡ p.done ++ l ∷ [] = ap (take (length p.done + 1)) p.whole ∙ take-append-add p.done (l ∷ rest) 1 in
      (length p.done + 1, p.written ++ text, status, appends_short old now then p.written text p.added added, rw first (p.completes (l ∷ []) text status shown))
