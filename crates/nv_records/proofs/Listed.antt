-- Records that are told one after the other, and journals one after the other.
use Rattle.std.proofs.Common.{◌≡◌, ◌∙◌, ◌+◌, ℕ, Bool, true, false, cond, List, [], ◌∷◌, ◌++◌, map, ap, sym, refl, subst, arith, add-one, append_assoc, append-nil}
use Rattle.std.specs.List.{range_with_len}
use Rattle.std.proofs.lemmas.List.FromFn.{map-range_with_len_more}
use Rattle.nv_region.specs.Region.{Region}
use Rattle.nv_super.specs.Layout.{Layout}
use Rattle.nv_journal.specs.Undo.{is_sound, number_of, pending_count, pending_of}
use Rattle.nv_records.specs.declared.records.PendingRecord.{PendingRecord}
use Rattle.nv_records.specs.Records.{AreTold, TellsRecord, all_places, places_in}

abbrev pub places_from : Region → ℕ → ℕ → List (ℕ × ℕ)
places_from R cpu n = map (λ j. (cpu, number_of (pending_of R cpu) j)) (range_with_len 0 n)

pub told_more : (l : Layout) (R : Region) (places : List (ℕ × ℕ)) (records : List PendingRecord) (place : ℕ × ℕ) (told : PendingRecord)
    → AreTold l R places records → TellsRecord l R place.0 place.1 told → AreTold l R (places ++ place ∷ []) (records ++ told ∷ [])
told_more l R [] [] place told are one = (one, tt)
told_more l R [] (x ∷ records) place told are one = absurd are
told_more l R (p ∷ places) [] place told are one = absurd are
told_more l R (p ∷ places) (x ∷ records) place told are one = (are.0, told_more l R places records place told are.1 one)

module _ (l : Layout) (R : Region) (cpu : ℕ) where
  -- one record more
  pub one_further : (places : List (ℕ × ℕ)) (n : ℕ) (records new : List PendingRecord) (told : PendingRecord) → new ≡ records ++ told ∷ []
      → AreTold l R (places ++ places_from R cpu n) records → TellsRecord l R cpu (number_of (pending_of R cpu) n) told
      → AreTold l R (places ++ places_from R cpu (n + 1)) new
  one_further places n records new told grown are one =
      let more : places_from R cpu (n + 1) ≡ places_from R cpu n ++ (cpu, number_of (pending_of R cpu) n) ∷ [] = map-range_with_len_more (λ j. (cpu, number_of (pending_of R cpu) j)) 0 n n (omega arith) in
      let here = told_more l R (places ++ places_from R cpu n) records (cpu, number_of (pending_of R cpu) n) told are one in
      let where_is : (places ++ places_from R cpu n) ++ (cpu, number_of (pending_of R cpu) n) ∷ [] ≡ places ++ places_from R cpu (n + 1) =
      append_assoc places (places_from R cpu n) ((cpu, number_of (pending_of R cpu) n) ∷ []) ∙ ap (λ (ps : List (ℕ × ℕ)). places ++ ps) (sym more) in
      subst (λ (rs : List PendingRecord). AreTold l R (places ++ places_from R cpu (n + 1)) rs) (sym grown)
      (subst (λ (ps : List (ℕ × ℕ)). AreTold l R ps (records ++ told ∷ [])) where_is here)

  -- all records of a sound journal
  pub sound_told : (places : List (ℕ × ℕ)) (n : ℕ) (records : List PendingRecord) → is_sound R cpu ≡ true → n ≡ pending_count R cpu
      → AreTold l R (places ++ places_from R cpu n) records → AreTold l R (places ++ places_in R cpu) records
  sound_told places n records sound all are =
      let same : places_from R cpu n ≡ places_in R cpu = ap (places_from R cpu) all ∙ sym (ap (λ (b : Bool). cond b (places_from R cpu (pending_count R cpu)) []) sound) in
      subst (λ (ps : List (ℕ × ℕ)). AreTold l R (places ++ ps) records) same are

  -- and none of another
  pub unsound_told : (places : List (ℕ × ℕ)) (records : List PendingRecord) → is_sound R cpu ≡ false
      → AreTold l R places records → AreTold l R (places ++ places_in R cpu) records
  unsound_told places records unsound are =
      let none : places_in R cpu ≡ [] = ap (λ (b : Bool). cond b (places_from R cpu (pending_count R cpu)) []) unsound in
      subst (λ (ps : List (ℕ × ℕ)). AreTold l R ps records) (sym (ap (λ (ps : List (ℕ × ℕ)). places ++ ps) none ∙ append-nil places)) are

-- one journal more
pub all_more : (R : Region) (n : ℕ) → all_places R (n + 1) ≡ all_places R n ++ places_in R n
all_more R n = rw add-one refl
