-- The entries of a log stand in its pages, page after page.
use Rattle.std.proofs.Common.{◌≡◌, ◌≢◌, inl, inr, ℕ, zero, suc, ◌/◌, ◌%◌, ◌<◌, ◌≤◌, IsTrue, List, [], ◌∷◌, ◌++◌, length, get_or, append_assoc, append-nil, length-append, refl, ap, sym, ◌∙◌, subst, arith, None}
use Rattle.std.specs.List.{Contains, remove}
use Rattle.std.proofs.lemmas.List.{append_cancel_left}
use Rattle.std.proofs.lemmas.List.Elements.{Contains-append_cases, Contains-append_right, Contains-get_or}
use Rattle.nv_region.specs.Region.{Region}
use Rattle.nv_super.specs.declared.superblock.Super.{Super}
use Rattle.nv_super.specs.Layout.{is_page_start}
use Rattle.nv_super.proofs.Members.{none_in}
use Rattle.nv_super.proofs.Rising.{Contains-cons, Contains-head, Contains-tail}
use Rattle.nv_logpage.specs.declared.found.Placed.{Placed}
use Rattle.nv_logpage.specs.Reads.{Reads, ReadsOn}
use Rattle.nv_logpage.specs.Unlinked.{without_page}
use Rattle.nv_logpage.proofs.Steps.{start_whole}
use Rattle.nv_logpage.proofs.Local.{Contains-last}
use Rattle.nv_logpage.proofs.Turning.{onward, leaves}
use Rattle.nv_logpage.proofs.Unlinked.{gone_all, kept_all, without-append}

-- The entries of the first page, and what stands in the others.
pub record FirstPage (p : ℕ) (ps : List ℕ) (Rest : List Placed → Type 0) (es : List Placed) : Type 0 where
  pub apart : Contains ps p → ⊥
  pub here : List Placed
  pub rest : List Placed
  pub split : es ≡ here ++ rest
  pub in_page : (x : Placed) → Contains here x → x.at / 4096 ≡ p
  pub others : Rest rest

abbrev pub InPages : List ℕ → List Placed → Type 0
InPages [] es = es ≡ []
InPages (p ∷ ps) es = FirstPage p ps (InPages ps) es

longer_than : (xs ys : List ℕ) (y : ℕ) → xs ≡ xs ++ (y ∷ ys) → ⊥
longer_than xs ys y e = let n = ap length e ∙ length-append xs (y ∷ ys) in omega (arith, n)

module _ {R : Region} {s : Super} {tail : ℕ} where
  read_in_pages : (more : List ℕ) {read : List ℕ} {p : ℕ} {es : List Placed} {all : List ℕ} → p % 8 ≡ 0 → p % 4096 ≤ 4064 → Contains read (p / 4096) → ReadsOn R s tail read p es all None → all ≡ read ++ more → InPages (p / 4096 ∷ more) es
  read_in_pages [] {read} {p} {es} {all} whole offset in_read r all_is =
      let o = onward refl whole offset r in
      let none : o.more ≡ [] = append_cancel_left read o.more [] (sym o.all_is ∙ all_is) in
      record {
        apart = λ c. none_in (p / 4096) c;
        here = es;
        rest = [];
        split = sym (append-nil es);
        in_page = λ x c. elim (o.stand x c) [ inl w ↦ w | inr w ↦ absurd (none_in (x.at / 4096) (subst (λ (bs : List ℕ). Contains bs (x.at / 4096)) none w)) ];
        others = refl;
      }
  read_in_pages (q ∷ more) {read} {p} {es} {all} whole offset in_read r all_is = elim (leaves refl whole offset r) [
    | inl none ↦ absurd (longer_than read more q (sym none ∙ all_is))
    | inr v ↦ (
        let start : v.next % 4096 ≡ 0 = start_whole s v.next v.start in
        let o = onward refl whole offset r in
        let same : o.more ≡ q ∷ more = append_cancel_left read o.more (q ∷ more) (sym o.all_is ∙ all_is) in
        let later = onward refl (omega (arith, start)) (omega (arith, start)) v.goes in
        let pages : v.next / 4096 ∷ later.more ≡ q ∷ more = append_cancel_left read (v.next / 4096 ∷ later.more) (q ∷ more) (sym (append_assoc read (v.next / 4096 ∷ []) later.more) ∙ sym later.all_is ∙ all_is) in
        let next_is : v.next / 4096 ≡ q = cc in
        let more_is : later.more ≡ more = cc in
        record {
          apart = λ c. o.apart (p / 4096) (subst (λ (bs : List ℕ). Contains bs (p / 4096)) (sym same) c) in_read;
          here = v.here;
          rest = v.rest;
          split = v.es_is;
          in_page = v.in_page;
          others = subst (λ (n : ℕ). InPages (n ∷ more) v.rest) next_is
              (read_in_pages more (omega (arith, start)) (omega (arith, start)) (Contains-last read (v.next / 4096)) v.goes (later.all_is ∙ ap (λ (bs : List ℕ). (read ++ v.next / 4096 ∷ []) ++ bs) more_is));
        })
  ]

  -- of a whole log
  pub log_in_pages : {head : ℕ} {es : List Placed} {pages : List ℕ} → IsTrue (is_page_start s head) → Reads R s head tail es pages None → InPages pages es
  log_in_pages {head} {es} {pages} starts r =
      let start : head % 4096 ≡ 0 = start_whole s head starts in
      let o = onward refl (omega (arith, start)) (omega (arith, start)) r in
      subst (λ (bs : List ℕ). InPages bs es) (sym o.all_is) (read_in_pages o.more (omega (arith, start)) (omega (arith, start)) (Contains-head (head / 4096) []) r o.all_is)

-- each entry stands in one of the pages
pub stand_in : (pages : List ℕ) (es : List Placed) → InPages pages es → (x : Placed) → Contains es x → Contains pages (x.at / 4096)
stand_in [] es none x c = absurd (none_in x (subst (λ (xs : List Placed). Contains xs x) none c))
stand_in (p ∷ ps) es is x c = elim (Contains-append_cases is.here is.rest x (subst (λ (xs : List Placed). Contains xs x) is.split c)) [
  | inl w ↦ subst (Contains (p ∷ ps)) (sym (is.in_page x w)) (Contains-head p ps)
  | inr w ↦ Contains-tail p ps (x.at / 4096) (stand_in ps is.rest is.others x w)
]

-- The entries before the page of a place, in it, and behind it.
pub record AtPlace (pages : List ℕ) (k : ℕ) (es : List Placed) : Type 0 where
  pub front : List Placed
  pub here : List Placed
  pub behind : List Placed
  pub split : es ≡ front ++ (here ++ behind)
  pub in_page : (x : Placed) → Contains here x → x.at / 4096 ≡ get_or pages k 0
  pub before : (x : Placed) → Contains front x → (j : ℕ) → k ≤ j → j < length pages → x.at / 4096 ≢ get_or pages j 0
  pub after : (x : Placed) → Contains behind x → (j : ℕ) → j ≤ k → x.at / 4096 ≢ get_or pages j 0

pub at_place : (pages : List ℕ) (k : ℕ) (es : List Placed) → k < length pages → InPages pages es → AtPlace pages k es
at_place [] k es below is = absurd (omega (arith, below))
at_place (p ∷ ps) zero es below is = record {
  front = [];
  here = is.here;
  behind = is.rest;
  split = is.split;
  in_page = is.in_page;
  before = λ x c. absurd (none_in x c);
  after = λ x c j low same. is.apart (subst (Contains ps) (same ∙ ap (λ (n : ℕ). get_or (p ∷ ps) n 0) (let first : j ≡ 0 = omega (arith, low) in first)) (stand_in ps is.rest is.others x c));
}
at_place (p ∷ ps) (suc k) es below is =
    let r = at_place ps k is.rest (omega (arith, below)) is.others in
    record {
      front = is.here ++ r.front;
      here = r.here;
      behind = r.behind;
      split = is.split ∙ ap (λ (xs : List Placed). is.here ++ xs) r.split ∙ sym (append_assoc is.here r.front (r.here ++ r.behind));
      in_page = r.in_page;
      before = λ x c j. elim (Contains-append_cases is.here r.front x c) [
        | inl w ↦ not_here x w j
        | inr w ↦ not_front r x w j
      ];
      after = λ x c j. not_behind r x c j;
    }
  where
    not_here : (x : Placed) → Contains is.here x → (j : ℕ) → suc k ≤ j → j < length (p ∷ ps) → x.at / 4096 ≢ get_or (p ∷ ps) j 0
    not_here x w zero high low same = absurd (omega (arith, high))
    not_here x w (suc j) high low same = is.apart (subst (Contains ps) (sym same ∙ is.in_page x w) (Contains-get_or ps j 0 (omega (arith, low))))

    not_front : (r : AtPlace ps k is.rest) (x : Placed) → Contains r.front x → (j : ℕ) → suc k ≤ j → j < length (p ∷ ps) → x.at / 4096 ≢ get_or (p ∷ ps) j 0
    not_front r x w zero high low same = absurd (omega (arith, high))
    not_front r x w (suc j) high low same = r.before x w j (omega (arith, high)) (omega (arith, low)) same

    in_rest : (r : AtPlace ps k is.rest) (x : Placed) → Contains r.behind x → Contains is.rest x
    in_rest r x c = subst (λ (xs : List Placed). Contains xs x) (sym r.split) (Contains-append_right r.front (r.here ++ r.behind) x (Contains-append_right r.here r.behind x c))

    not_behind : (r : AtPlace ps k is.rest) (x : Placed) → Contains r.behind x → (j : ℕ) → j ≤ suc k → x.at / 4096 ≢ get_or (p ∷ ps) j 0
    not_behind r x c zero low same = is.apart (subst (Contains ps) same (stand_in ps is.rest is.others x (in_rest r x c)))
    not_behind r x c (suc j) low same = r.after x c j (omega (arith, low)) same

-- ---- without a page

removed_stands : (xs : List ℕ) (k q : ℕ) → Contains (remove xs k) q → Contains xs q
removed_stands [] zero q c = c
removed_stands [] (suc k) q c = c
removed_stands (x ∷ xs) zero q c = Contains-tail x xs q c
removed_stands (x ∷ xs) (suc k) q c = elim (Contains-cons x (remove xs k) q c) [
  | inl same ↦ subst (Contains (x ∷ xs)) (sym same) (Contains-head x xs)
  | inr w ↦ Contains-tail x xs q (removed_stands xs k q w)
]

-- the others stand in the other pages
pub in_pages_without : (pages : List ℕ) (k : ℕ) (es : List Placed) → k < length pages → InPages pages es → InPages (remove pages k) (without_page (get_or pages k 0) es)
in_pages_without [] k es below is = absurd (omega (arith, below))
in_pages_without (p ∷ ps) zero es below is = subst (InPages ps)
    (sym (ap (without_page p) is.split ∙ without-append p is.here is.rest ∙ ap (λ (xs : List Placed). xs ++ without_page p is.rest) (gone_all p is.here is.in_page)
    ∙ kept_all p is.rest (λ x c same. is.apart (subst (Contains ps) same (stand_in ps is.rest is.others x c)))))
    is.others
in_pages_without (p ∷ ps) (suc k) es below is =
    let b = get_or ps k 0 in
    record {
      apart = λ c. is.apart (removed_stands ps k p c);
      here = is.here;
      rest = without_page b is.rest;
      split = ap (without_page b) is.split ∙ without-append b is.here is.rest ∙ ap (λ (xs : List Placed). xs ++ without_page b is.rest)
          (kept_all b is.here (λ x c same. is.apart (subst (Contains ps) (sym same ∙ is.in_page x c) (Contains-get_or ps k 0 (omega (arith, below))))));
      in_page = is.in_page;
      others = in_pages_without ps k is.rest (omega (arith, below)) is.others;
    }
