-- Where the entries of a log stand, at its head, at the next page and after one entry more.
use Rattle.std.proofs.Common.{◌≡◌, ◌≢◌, inl, inr, ℕ, ◌+◌, ◌/◌, ◌≤◌, false, List, [], ◌∷◌, ◌++◌, ap, sym, ◌∙◌, subst, arith}
use Rattle.std.specs.List.{Contains, list_any}
use Rattle.std.proofs.Math.Dec.{eqb}
use Rattle.std.proofs.lemmas.List.Elements.{Contains-append_left, Contains-append_cases}
use Rattle.nv_super.specs.declared.superblock.Super.{Super}
use Rattle.nv_super.proofs.Members.{no_member, none_in}
use Rattle.nv_super.proofs.Rising.{Contains-cons, Contains-head}
use Rattle.nv_entry.specs.Spelling.{entry_length}
use Rattle.nv_logpage.specs.declared.found.Placed.{Placed}
use Rattle.nv_logpage.specs.declared.found.Finding.TheVariants as finds
use Rattle.nv_logpage.specs.Reads.{room_at}
use Rattle.nv_logpage.specs.Progress.{Progress, at_head, after}
use Rattle.nv_logpage.proofs.Local.{Contains-last}
use Rattle.nv_deadpages.specs.Standing.{Stand}

pub stand_none : (s : Super) (head tail : ℕ) → Stand (at_head s head tail) []
stand_none s head tail = record { each = λ x c. absurd (none_in x c); here = Contains-head (head / 4096) [] }

-- at a page that is turned
pub stand_turned : (r : Progress) (es : List Placed) (a : ℕ) → Stand r es → Stand (after r (finds.Page a)) es
stand_turned r es a stand = record {
  each = λ x c. Contains-append_left r.pages (a / 4096 ∷ []) (x.at / 4096) (stand.each x c);
  here = Contains-last r.pages (a / 4096);
}

-- no entry that was read stands in that page
pub none_turned : (r : Progress) (es : List Placed) (a : ℕ) → Stand r es → list_any (eqb (a / 4096)) r.pages ≡ false → (x : Placed) → Contains es x → x.at / 4096 ≢ a / 4096
none_turned r es a stand unread x c same = no_member r.pages (a / 4096) unread (subst (Contains r.pages) same (stand.each x c))

-- an entry ends in the page where it begins
pub stays_in : (r : Progress) (x : Placed) → x.at ≡ r.place → entry_length x.entry ≤ room_at r.place → (x.at + entry_length x.entry) / 4096 ≡ r.place / 4096
stays_in r x here fits = ap (λ (n : ℕ). (n + entry_length x.entry) / 4096) here ∙ inside r.place (entry_length x.entry) fits where
  inside : (p n : ℕ) → n ≤ room_at p → (p + n) / 4096 ≡ p / 4096
  inside p n low = omega arith

-- behind an entry
pub stand_more : (r : Progress) (es : List Placed) (x : Placed) → x.at ≡ r.place → entry_length x.entry ≤ room_at r.place → Stand r es → Stand (after r (finds.Entry x)) (es ++ x ∷ [])
stand_more r es x here fits stand = record {
  each = λ y c. elim (Contains-append_cases es (x ∷ []) y c) [
    | inl w ↦ stand.each y w
    | inr w ↦ elim (Contains-cons x [] y w) [
      | inl same ↦ subst (λ (n : ℕ). Contains r.pages (n / 4096)) (sym (ap (λ (z : Placed). z.at) same ∙ here)) stand.here
      | inr none ↦ absurd (none_in y none)
    ]
  ];
  here = subst (Contains r.pages) (sym (stays_in r x here fits)) stand.here;
}
