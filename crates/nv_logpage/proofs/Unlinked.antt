-- A log from which a page is unlinked is read without that page and its entries.
use Rattle.std.proofs.Common.{◌≡◌, ◌≢◌, ◌⊎◌, inl, inr, Result, Ok, Err, OnOk, ℕ, zero, suc, ◌+◌, ◌-◌, ◌*◌, ◌/◌, ◌%◌, ◌<◌, ◌≤◌, false, IsTrue, List, [], ◌∷◌, ◌++◌, length, get_or, take, drop, append_assoc, length-append, refl, ap, sym, ◌∙◌, subst, arith, not, None}
use Rattle.std.specs.List.{Contains}
use Rattle.std.proofs.lemmas.Bool.{ne_eqb}
use Rattle.std.proofs.lemmas.List.{append_cancel_left}
use Rattle.std.proofs.lemmas.List.Elements.{Contains-append_left, Contains-append_right, filter-append}
use Rattle.std.proofs.Math.Dec.{eqb}
use Rattle.nv_region.specs.Region.{Region, put, size, word}
use Rattle.nv_region.specs.Stored.{Stored}
use Rattle.nv_region.proofs.Wordwise.{put_stored}
use Rattle.nv_super.specs.declared.superblock.Super.{Super}
use Rattle.nv_super.specs.Layout.{is_page_start}
use Rattle.nv_super.proofs.Members.{no_member}
use Rattle.nv_super.proofs.Rising.{Contains-cons, Contains-head, Contains-tail}
use Rattle.nv_logpage.specs.declared.found.Placed.{Placed}
use Rattle.nv_logpage.specs.Grows.{SamePage}
use Rattle.nv_logpage.specs.Reads.{ReadsOn, Reads, link_of}
use Rattle.nv_logpage.specs.Unlinked.{Without, head_without, page_behind, without_page, word_to}
use Rattle.nv_logpage.proofs.Steps.{start_whole}
use Rattle.nv_logpage.proofs.Local.{Contains-last, ReadsOn-same}
use Rattle.nv_logpage.proofs.Longer.{eqb_yes}
use Rattle.nv_logpage.proofs.DataBlocks.{contains_snoc}
use Rattle.nv_logpage.proofs.Grown.{not_any}
use Rattle.nv_logpage.proofs.Turning.{SameEntries, onward, Leaves, leaves}

-- ---- entries

pub kept_all : (b : ℕ) (xs : List Placed) → ((x : Placed) → Contains xs x → x.at / 4096 ≢ b) → without_page b xs ≡ xs
kept_all b [] apart = refl
kept_all b (x ∷ xs) apart = rw (ne_eqb (x.at / 4096) b (apart x (Contains-head x xs))) (ap (λ (q : List Placed). x ∷ q) (kept_all b xs (λ y c. apart y (Contains-tail x xs y c))))

pub gone_all : (b : ℕ) (xs : List Placed) → ((x : Placed) → Contains xs x → x.at / 4096 ≡ b) → without_page b xs ≡ []
gone_all b [] there = refl
gone_all b (x ∷ xs) there = rw (eqb_yes (x.at / 4096) b (there x (Contains-head x xs))) (gone_all b xs (λ y c. there y (Contains-tail x xs y c)))

pub without-append : (b : ℕ) (xs ys : List Placed) → without_page b (xs ++ ys) ≡ without_page b xs ++ without_page b ys
without-append b xs ys = filter-append (λ (x : Placed). not (eqb (x.at / 4096) b)) xs ys

-- ---- lists of pages

-- the last of these pages, or d where there is none
abbrev pub last_page : ℕ → List ℕ → ℕ
last_page d [] = d
last_page d (x ∷ xs) = last_page x xs

last_in : (d : ℕ) (xs : List ℕ) → Contains (d ∷ xs) (last_page d xs)
last_in d [] = Contains-head d []
last_in d (x ∷ xs) = Contains-tail d (x ∷ xs) (last_page x xs) (last_in x xs)

longer_than : (xs ys : List ℕ) (y : ℕ) → xs ≡ xs ++ (y ∷ ys) → ⊥
longer_than xs ys y e = let n = ap length e ∙ length-append xs (y ∷ ys) in omega (arith, n)

-- what two ways to say the same pages behind those that were read tell of the next one
next_page : (read more others : List ℕ) (all : List ℕ) (q x : ℕ) → all ≡ (read ++ q ∷ []) ++ more → all ≡ read ++ (x ∷ others) → (q ≡ x) × (more ≡ others)
next_page read more others all q x first second =
    let same : q ∷ more ≡ x ∷ others = append_cancel_left read (q ∷ more) (x ∷ others) (sym (append_assoc read (q ∷ []) more) ∙ sym first ∙ second) in
    (cc, cc)

-- a page start is the address of its block
start_is : (s : Super) (a b : ℕ) → IsTrue (is_page_start s a) → a / 4096 ≡ b → a ≡ 4096 * b
start_is s a b start e = let whole = start_whole s a start in omega (arith, whole, e)

-- ---- a page behind others

module _ {R S : Region} (at : ℕ) (value : ℕ) (stored : Stored R at value S) where
  -- the words of another page
  other_page : (b c : ℕ) → at ≡ 4096 * c + 4064 → b ≢ c → SamePage R S b
  other_page b c is differs a whole page = stored.others a whole (λ e. differs (omega (arith, e, is, page)))

  all_entries : (b c : ℕ) → at ≡ 4096 * c + 4064 → SameEntries R S b
  all_entries b c is a whole page low = stored.others a whole (λ e. omega (arith, e, is, low))

module _ {R S : Region} {s : Super} {tail : ℕ} (at : ℕ) (value : ℕ) (stored : Stored R at value S) where
  -- The page behind the place's own is unlinked.
  module _ {read : List ℕ} {p : ℕ} {es : List Placed} {all : List ℕ} (b n : ℕ) (rest : List ℕ) (whole : p % 8 ≡ 0) (offset : p % 4096 ≤ 4064) (in_read : Contains read (p / 4096)) (r : ReadsOn R s tail read p es all None) (all_is : all ≡ read ++ (b ∷ n ∷ rest)) (at_is : at ≡ 4096 * (p / 4096) + 4064) (value_is : value ≡ 4096 * n) where
    by_leaving : (v : Leaves R s tail read p es all) → Leaves R s tail (read ++ v.next / 4096 ∷ []) v.next v.rest all → ReadsOn S s tail read p (without_page b es) (read ++ (n ∷ rest)) None
    by_leaving v u =
        let v_start : v.next % 4096 ≡ 0 = start_whole s v.next v.start in
        let u_start : u.next % 4096 ≡ 0 = start_whole s u.next u.start in
        let o = onward refl (omega (arith, v_start)) (omega (arith, v_start)) v.goes in
        let first = next_page read o.more (n ∷ rest) all (v.next / 4096) b o.all_is all_is in
        let o2 = onward refl (omega (arith, u_start)) (omega (arith, u_start)) u.goes in
        let read_b : List ℕ = read ++ v.next / 4096 ∷ [] in
        let second = next_page read_b o2.more rest all (u.next / 4096) n o2.all_is (o.all_is ∙ ap (λ (q : List ℕ). read_b ++ q) first.1) in
        let not_read : (q : ℕ) → Contains read q → q ≢ u.next / 4096 = λ q c e. no_member read_b (u.next / 4096) u.unread (Contains-append_left read (v.next / 4096 ∷ []) (u.next / 4096) (subst (Contains read) e c)) in
        let later_unread : (q : ℕ) → Contains o2.more q → Contains read q → ⊥ = λ q later c. o2.apart q later (Contains-append_left read_b (u.next / 4096 ∷ []) q (Contains-append_left read (v.next / 4096 ∷ []) q c)) in
        let same : (q : ℕ) → (q ≡ u.next / 4096) ⊎ Contains o2.more q → SamePage R S q = λ q w. other_page at value stored q (p / 4096) at_is (elim w [
          | inl e ↦ λ is. not_read (p / 4096) in_read (sym is ∙ e)
          | inr later ↦ λ is. later_unread q later (subst (Contains read) (sym is) in_read)
        ]) in
        let apart : (q : ℕ) → Contains o2.more q → Contains (read ++ u.next / 4096 ∷ []) q → ⊥ = λ q later c. elim (contains_snoc read (u.next / 4096) q c) [
          | inl old ↦ later_unread q later old
          | inr is ↦ o2.apart q later (subst (Contains (read_b ++ u.next / 4096 ∷ [])) (sym is) (Contains-last read_b (u.next / 4096)))
        ] in
        let behind : ReadsOn S s tail (read ++ u.next / 4096 ∷ []) u.next u.rest ((read ++ u.next / 4096 ∷ []) ++ o2.more) None = o2.again S (read ++ u.next / 4096 ∷ []) same apart in
        let to : value ≡ u.next = value_is ∙ sym (start_is s u.next n u.start second.0) in
        let leads : word S (link_of p) ≡ u.next = (let here : link_of p ≡ at = omega (arith, at_is) in ap (word S) here ∙ stored.here ∙ to) in
        let whole_log : ReadsOn S s tail read p (v.here ++ u.rest) ((read ++ u.next / 4096 ∷ []) ++ o2.more) None =
        v.back S read u.next u.rest ((read ++ u.next / 4096 ∷ []) ++ o2.more) (all_entries at value stored (p / 4096) (p / 4096) at_is) leads u.start (not_any (u.next / 4096) read (λ c. not_read (u.next / 4096) c refl)) behind in
        let pages : (read ++ u.next / 4096 ∷ []) ++ o2.more ≡ read ++ (n ∷ rest) =
        append_assoc read (u.next / 4096 ∷ []) o2.more ∙ ap (λ (q : List ℕ). read ++ q) (ap (λ (q : ℕ). q ∷ o2.more) second.0 ∙ ap (λ (q : List ℕ). n ∷ q) second.1) in
        let b_unread : Contains read b → ⊥ = λ c. no_member read (v.next / 4096) v.unread (subst (Contains read) (sym first.0) c) in
        let kept_here : without_page b v.here ≡ v.here = kept_all b v.here (λ x c e. b_unread (subst (Contains read) (sym (v.in_page x c) ∙ e) in_read)) in
        let gone : without_page b u.here ≡ [] = gone_all b u.here (λ x c. u.in_page x c ∙ first.0) in
        let kept_rest : without_page b u.rest ≡ u.rest = kept_all b u.rest (λ x c e. elim (o2.stand x c) [
          | inl w ↦ no_member read_b (u.next / 4096) u.unread (subst (Contains read_b) (first.0 ∙ sym e ∙ w) (Contains-last read (v.next / 4096)))
          | inr w ↦ o2.apart b (subst (Contains o2.more) e w) (Contains-append_left read_b (u.next / 4096 ∷ []) b (subst (Contains read_b) first.0 (Contains-last read (v.next / 4096))))
        ]) in
        let entries : without_page b es ≡ v.here ++ u.rest =
        ap (without_page b) (v.es_is ∙ ap (λ (q : List Placed). v.here ++ q) u.es_is) ∙ without-append b v.here (u.here ++ u.rest)
        ∙ ap (λ (q : List Placed). without_page b v.here ++ q) (without-append b u.here u.rest ∙ ap (λ (q : List Placed). q ++ without_page b u.rest) gone)
        ∙ ap (λ (q : List Placed). q ++ without_page b u.rest) kept_here ∙ ap (λ (q : List Placed). v.here ++ q) kept_rest in
        subst (λ (q : List Placed). ReadsOn S s tail read p q (read ++ (n ∷ rest)) None) (sym entries)
        (subst (λ (q : List ℕ). ReadsOn S s tail read p (v.here ++ u.rest) q None) pages whole_log)

    pub next_unlinked : ReadsOn S s tail read p (without_page b es) (read ++ (n ∷ rest)) None
    next_unlinked = elim (leaves refl whole offset r) [
      | inl none ↦ absurd (longer_than read (n ∷ rest) b (sym none ∙ all_is))
      | inr v ↦ (
          let v_start : v.next % 4096 ≡ 0 = start_whole s v.next v.start in
          let o = onward refl (omega (arith, v_start)) (omega (arith, v_start)) v.goes in
          let first = next_page read o.more (n ∷ rest) all (v.next / 4096) b o.all_is all_is in
          elim (leaves refl (omega (arith, v_start)) (omega (arith, v_start)) v.goes) [
            | inl none ↦ absurd (longer_than (read ++ v.next / 4096 ∷ []) rest n (sym none ∙ o.all_is ∙ ap (λ (q : List ℕ). (read ++ v.next / 4096 ∷ []) ++ q) first.1))
            | inr u ↦ by_leaving v u
          ])
    ]

  -- A page further on is unlinked: one behind these.
  pub later_unlinked : (front : List ℕ) {read : List ℕ} {p : ℕ} {es : List Placed} {all : List ℕ} (b n : ℕ) (rest : List ℕ) → p % 8 ≡ 0 → p % 4096 ≤ 4064 → Contains read (p / 4096) → ReadsOn R s tail read p es all None
      → all ≡ read ++ (front ++ (b ∷ n ∷ rest)) → at ≡ 4096 * last_page (p / 4096) front + 4064 → value ≡ 4096 * n → ReadsOn S s tail read p (without_page b es) (read ++ (front ++ (n ∷ rest))) None
  later_unlinked [] b n rest whole offset in_read r all_is at_is value_is = next_unlinked b n rest whole offset in_read r all_is at_is value_is
  later_unlinked (c ∷ front) {read} {p} {es} {all} b n rest whole offset in_read r all_is at_is value_is = elim (leaves refl whole offset r) [
    | inl none ↦ absurd (longer_than read (front ++ (b ∷ n ∷ rest)) c (sym none ∙ all_is))
    | inr v ↦ (
        let v_start : v.next % 4096 ≡ 0 = start_whole s v.next v.start in
        let o = onward refl (omega (arith, v_start)) (omega (arith, v_start)) v.goes in
        let first = next_page read o.more (front ++ (b ∷ n ∷ rest)) all (v.next / 4096) c o.all_is all_is in
        let read_c : List ℕ = read ++ v.next / 4096 ∷ [] in
        let here : c ≡ v.next / 4096 = sym first.0 in
        let deeper : ReadsOn S s tail read_c v.next (without_page b v.rest) (read_c ++ (front ++ (n ∷ rest))) None =
        later_unlinked front b n rest (omega (arith, v_start)) (omega (arith, v_start)) (Contains-last read (v.next / 4096)) v.goes (o.all_is ∙ ap (λ (q : List ℕ). read_c ++ q) first.1)
        (at_is ∙ ap (λ (q : ℕ). 4096 * last_page q front + 4064) here) value_is in
        let among : (q : ℕ) → Contains (c ∷ (front ++ (b ∷ n ∷ rest))) q → Contains read q → ⊥ = λ q w old. elim (Contains-cons c (front ++ (b ∷ n ∷ rest)) q w) [
          | inl e ↦ no_member read (v.next / 4096) v.unread (subst (Contains read) (e ∙ here) old)
          | inr w' ↦ o.apart q (subst (λ (xs : List ℕ). Contains xs q) (sym first.1) w') (Contains-append_left read (v.next / 4096 ∷ []) q old)
        ] in
        let last_there : Contains (c ∷ (front ++ (b ∷ n ∷ rest))) (last_page c front) = Contains-append_left (c ∷ front) (b ∷ n ∷ rest) (last_page c front) (last_in c front) in
        let other : p / 4096 ≢ last_page c front = λ e. among (last_page c front) last_there (subst (Contains read) e in_read) in
        let same : SamePage R S (p / 4096) = other_page at value stored (p / 4096) (last_page c front) at_is other in
        let leads : word S (link_of p) ≡ v.next = same (link_of p) (omega arith) (omega arith) ∙ v.link in
        let whole_log : ReadsOn S s tail read p (v.here ++ without_page b v.rest) (read_c ++ (front ++ (n ∷ rest))) None =
        v.back S read v.next (without_page b v.rest) (read_c ++ (front ++ (n ∷ rest))) (λ a whole_a page low. same a whole_a page) leads v.start v.unread deeper in
        let pages : read_c ++ (front ++ (n ∷ rest)) ≡ read ++ ((c ∷ front) ++ (n ∷ rest)) = append_assoc read (v.next / 4096 ∷ []) (front ++ (n ∷ rest)) ∙ ap (λ (q : ℕ). read ++ (q ∷ (front ++ (n ∷ rest)))) first.0 in
        let b_there : Contains (c ∷ (front ++ (b ∷ n ∷ rest))) b = Contains-append_right (c ∷ front) (b ∷ n ∷ rest) b (Contains-head b (n ∷ rest)) in
        let kept_here : without_page b v.here ≡ v.here = kept_all b v.here (λ x w e. among b b_there (subst (Contains read) (sym (v.in_page x w) ∙ e) in_read)) in
        let entries : without_page b es ≡ v.here ++ without_page b v.rest = ap (without_page b) v.es_is ∙ without-append b v.here v.rest ∙ ap (λ (q : List Placed). q ++ without_page b v.rest) kept_here in
        subst (λ (q : List Placed). ReadsOn S s tail read p q (read ++ ((c ∷ front) ++ (n ∷ rest))) None) (sym entries)
        (subst (λ (q : List ℕ). ReadsOn S s tail read p (v.here ++ without_page b v.rest) q None) pages whole_log))
  ]

-- ---- the whole log

-- A page behind the first is unlinked.
pub inner_unlinked : {R S : Region} {s : Super} {head tail : ℕ} {es : List Placed} (front : List ℕ) (b n : ℕ) (rest : List ℕ) → IsTrue (is_page_start s head) → Reads R s head tail es (head / 4096 ∷ (front ++ (b ∷ n ∷ rest))) None
    → Stored R (4096 * last_page (head / 4096) front + 4064) (4096 * n) S → Reads S s head tail (without_page b es) (head / 4096 ∷ (front ++ (n ∷ rest))) None
inner_unlinked {R} {S} {s} {head} {tail} front b n rest starts r stored =
    let start : head % 4096 ≡ 0 = start_whole s head starts in
    later_unlinked (4096 * last_page (head / 4096) front + 4064) (4096 * n) stored front b n rest (omega (arith, start)) (omega (arith, start)) (Contains-head (head / 4096) []) r refl refl refl

-- The first page is left out: the log begins with the second one.
pub first_unlinked : {R : Region} {s : Super} {head tail : ℕ} {es : List Placed} (n : ℕ) (rest : List ℕ) → IsTrue (is_page_start s head) → Reads R s head tail es (head / 4096 ∷ n ∷ rest) None
    → Reads R s (4096 * n) tail (without_page (head / 4096) es) (n ∷ rest) None × IsTrue (is_page_start s (4096 * n))
first_unlinked {R} {s} {head} {tail} {es} n rest starts r =
    let start : head % 4096 ≡ 0 = start_whole s head starts in
    elim (leaves refl (omega (arith, start)) (omega (arith, start)) r) [
      | inl none ↦ absurd (longer_than (head / 4096 ∷ []) rest n (sym none))
      | inr v ↦ (
          let v_start : v.next % 4096 ≡ 0 = start_whole s v.next v.start in
          let o = onward refl (omega (arith, v_start)) (omega (arith, v_start)) v.goes in
          let first = next_page (head / 4096 ∷ []) o.more rest (head / 4096 ∷ n ∷ rest) (v.next / 4096) n o.all_is refl in
          let to : v.next ≡ 4096 * n = start_is s v.next n v.start first.0 in
          let apart : (q : ℕ) → Contains o.more q → Contains (v.next / 4096 ∷ []) q → ⊥ = λ q later c. o.apart q later (Contains-append_right (head / 4096 ∷ []) (v.next / 4096 ∷ []) q c) in
          let again : Reads R s v.next tail v.rest (v.next / 4096 ∷ o.more) None = o.again R (v.next / 4096 ∷ []) (λ q w a whole page. refl) apart in
          let gone : without_page (head / 4096) v.here ≡ [] = gone_all (head / 4096) v.here v.in_page in
          let kept : without_page (head / 4096) v.rest ≡ v.rest = kept_all (head / 4096) v.rest (λ x c e. elim (o.stand x c) [
            | inl w ↦ no_member (head / 4096 ∷ []) (v.next / 4096) v.unread (subst (Contains (head / 4096 ∷ [])) (sym e ∙ w) (Contains-head (head / 4096) []))
            | inr w ↦ o.apart (head / 4096) (subst (Contains o.more) e w) (Contains-head (head / 4096) (v.next / 4096 ∷ []))
          ]) in
          let entries : without_page (head / 4096) es ≡ v.rest = ap (without_page (head / 4096)) v.es_is ∙ without-append (head / 4096) v.here v.rest ∙ ap (λ (q : List Placed). q ++ without_page (head / 4096) v.rest) gone ∙ kept in
          let pages : v.next / 4096 ∷ o.more ≡ n ∷ rest = ap (λ (q : ℕ). q ∷ o.more) first.0 ∙ ap (λ (q : List ℕ). n ∷ q) first.1 in (
            subst (λ (q : List Placed). Reads R s (4096 * n) tail q (n ∷ rest) None) (sym entries)
                (subst (λ (q : List ℕ). Reads R s (4096 * n) tail v.rest q None) pages
                (subst (λ (a : ℕ). Reads R s a tail v.rest (v.next / 4096 ∷ o.more) None) to again)),
            subst (λ (a : ℕ). IsTrue (is_page_start s a)) to v.start,
          ))
    ]

-- ---- by the place of the page

two_from : (xs : List ℕ) (j : ℕ) → suc j < length xs → xs ≡ take j xs ++ (get_or xs j 0 ∷ get_or xs (suc j) 0 ∷ drop (suc (suc j)) xs)
two_from [] j inside = absurd (omega (arith, inside))
two_from (x ∷ []) j inside = absurd (omega (arith, inside))
two_from (x ∷ y ∷ xs) zero inside = refl
two_from (x ∷ y ∷ xs) (suc j) inside = ap (λ (q : List ℕ). x ∷ q) (two_from (y ∷ xs) j (omega (arith, inside)))

last_before : (d : ℕ) (xs : List ℕ) (j : ℕ) → j ≤ length xs → last_page d (take j xs) ≡ get_or (d ∷ xs) j 0
last_before d xs zero inside = refl
last_before d [] (suc j) inside = absurd (omega (arith, inside))
last_before d (x ∷ xs) (suc j) inside = last_before x xs j (omega (arith, inside))

behind_one : (xs : List ℕ) (j : ℕ) → suc j < length xs → drop (suc j) xs ≡ get_or xs (suc j) 0 ∷ drop (suc (suc j)) xs
behind_one [] j inside = absurd (omega (arith, inside))
behind_one (x ∷ []) j inside = absurd (omega (arith, inside))
behind_one (x ∷ y ∷ xs) zero inside = refl
behind_one (x ∷ y ∷ xs) (suc j) inside = behind_one (y ∷ xs) j (omega (arith, inside))

first_page : {R : Region} {s : Super} {head tail : ℕ} {es : List Placed} {pages : List ℕ} → IsTrue (is_page_start s head) → Reads R s head tail es pages None → (more : List ℕ) × (pages ≡ head / 4096 ∷ more)
first_page {R} {s} {head} starts r =
    let start : head % 4096 ≡ 0 = start_whole s head starts in
    let o = onward refl (omega (arith, start)) (omega (arith, start)) r in
    (o.more, o.all_is)

module _ {R S : Region} {s : Super} {head tail : ℕ} {es : List Placed} (head_at : ℕ) (starts : IsTrue (is_page_start s head)) where
  at_first : (more : List ℕ) → 0 < length more → ((b : ℕ) → Contains (head / 4096 ∷ more) b → head_at / 4096 ≢ b) → Reads R s head tail es (head / 4096 ∷ more) None
      → Stored R (word_to head_at (head / 4096 ∷ more) 0) (page_behind (head / 4096 ∷ more) 0) S → Without S s (head_without head (head / 4096 ∷ more) 0) tail es (head / 4096 ∷ more) 0
  at_first [] some apart r stored = absurd (omega (arith, some))
  at_first (n ∷ rest) some apart r stored =
      let w = first_unlinked n rest starts r in
      let whole : 4096 * n % 8 ≡ 0 = omega arith in
      let low : 4096 * n % 4096 ≤ 4064 = omega arith in
      (w.1, ReadsOn-same S (λ b c a whole_a page. stored.others a whole_a (λ e. apart b (Contains-tail (head / 4096) (n ∷ rest) b c) (ap (λ (q : ℕ). q / 4096) (sym e) ∙ page))) (Contains-head (4096 * n / 4096) []) whole low w.0)

  at_later : (more : List ℕ) (j : ℕ) → suc j < length more → Reads R s head tail es (head / 4096 ∷ more) None
      → Stored R (4096 * get_or (head / 4096 ∷ more) j 0 + 4064) (4096 * get_or more (suc j) 0) S → Reads S s head tail (without_page (get_or more j 0) es) (head / 4096 ∷ (take j more ++ drop (suc j) more)) None
  at_later more j inside r stored =
      let log : Reads R s head tail es (head / 4096 ∷ (take j more ++ (get_or more j 0 ∷ get_or more (suc j) 0 ∷ drop (suc (suc j)) more))) None =
      subst (λ (q : List ℕ). Reads R s head tail es (head / 4096 ∷ q) None) (two_from more j inside) r in
      let word_is : Stored R (4096 * last_page (head / 4096) (take j more) + 4064) (4096 * get_or more (suc j) 0) S =
      subst (λ (q : ℕ). Stored R (4096 * q + 4064) (4096 * get_or more (suc j) 0) S) (sym (last_before (head / 4096) more j (omega (arith, inside)))) stored in
      subst (λ (q : List ℕ). Reads S s head tail (without_page (get_or more j 0) es) (head / 4096 ∷ (take j more ++ q)) None) (sym (behind_one more j inside))
      (inner_unlinked (take j more) (get_or more j 0) (get_or more (suc j) 0) (drop (suc (suc j)) more) starts log word_is)

  by_place : (more : List ℕ) (k : ℕ) → k + 1 < length (head / 4096 ∷ more) → ((b : ℕ) → Contains (head / 4096 ∷ more) b → head_at / 4096 ≢ b) → Reads R s head tail es (head / 4096 ∷ more) None
      → Stored R (word_to head_at (head / 4096 ∷ more) k) (page_behind (head / 4096 ∷ more) k) S → Without S s (head_without head (head / 4096 ∷ more) k) tail es (head / 4096 ∷ more) k
  by_place more zero inside apart r stored = at_first more (omega (arith, inside)) apart r stored
  by_place more (suc j) inside apart r stored =
      let some : eqb (suc j) 0 ≡ false = ne_eqb (suc j) 0 (λ e. omega (arith, e)) in
      let one_less : suc j - 1 ≡ j = omega arith in
      let word_is : word_to head_at (head / 4096 ∷ more) (suc j) ≡ 4096 * get_or (head / 4096 ∷ more) j 0 + 4064 = rw (some, one_less) refl in
      let one_more : suc j + 1 ≡ suc (suc j) = omega arith in
      let behind_is : page_behind (head / 4096 ∷ more) (suc j) ≡ 4096 * get_or more (suc j) 0 = ap (λ (q : ℕ). 4096 * get_or (head / 4096 ∷ more) q 0) one_more in
      let head_is : head ≡ head_without head (head / 4096 ∷ more) (suc j) = rw some refl in
      let log : Reads S s head tail (without_page (get_or more j 0) es) (head / 4096 ∷ (take j more ++ drop (suc j) more)) None =
      at_later more j (omega (arith, inside)) r (subst (λ (q : ℕ). Stored R q (4096 * get_or more (suc j) 0) S) word_is (subst (λ (q : ℕ). Stored R (word_to head_at (head / 4096 ∷ more) (suc j)) q S) behind_is stored)) in (
        subst (λ (q : ℕ). IsTrue (is_page_start s q)) head_is starts,
        subst (λ (q : ℕ). Reads S s q tail (without_page (get_or more j 0) es) (head / 4096 ∷ (take j more ++ drop (suc j) more)) None) head_is log,
      )

-- A log from which the page of a place is unlinked is read without it.
pub unlinked : {R S : Region} {s : Super} {head tail : ℕ} {es : List Placed} {pages : List ℕ} (head_at k : ℕ) → k + 1 < length pages → IsTrue (is_page_start s head) → ((b : ℕ) → Contains pages b → head_at / 4096 ≢ b)
    → Reads R s head tail es pages None → Stored R (word_to head_at pages k) (page_behind pages k) S → Without S s (head_without head pages k) tail es pages k
unlinked {R} {S} {s} {head} {tail} {es} {pages} head_at k inside starts apart r stored =
    let w = first_page starts r in
    let P : List ℕ → Type 0 = λ xs. k + 1 < length xs → ((b : ℕ) → Contains xs b → head_at / 4096 ≢ b) → Reads R s head tail es xs None → Stored R (word_to head_at xs k) (page_behind xs k) S → Without S s (head_without head xs k) tail es xs k in
    let all : P (head / 4096 ∷ w.0) = by_place head_at starts w.0 k in
    (subst P (sym w.1) all) inside apart r stored

-- the word that leads to a page
pub first_word : (head_at k : ℕ) (pages : List ℕ) → k ≡ 0 → head_at ≡ word_to head_at pages k
first_word head_at k pages first = rw first refl

pub later_word : (head_at k : ℕ) (pages : List ℕ) → k ≢ 0 → get_or pages (k - 1) 0 * 4096 + 4064 ≡ word_to head_at pages k
later_word head_at k pages later = rw (ne_eqb k 0 later) (omega arith)

-- what the commit of that word promises
pub unlinked_where_done : {T E : Type 0} (result : Result T E) (R S : Region) (pages : List ℕ) (head_at k at value : ℕ) → k + 1 < length pages → at ≡ word_to head_at pages k → value ≡ page_behind pages k → at % 8 ≡ 0 → at + 8 ≤ size R → length R.rest < 8 → OnOk result (S ≡ put R at value)
    → (s : Super) (head tail : ℕ) (es : List Placed) → IsTrue (is_page_start s head) → ((b : ℕ) → Contains pages b → head_at / 4096 ≢ b) → Reads R s head tail es pages None → OnOk result (Without S s (head_without head pages k) tail es pages k)
unlinked_where_done (Ok done) R S pages head_at k at value more at_is value_is whole inside short is s head tail es starts apart r =
    let stored : Stored R at value S = subst (Stored R at value) (sym is) (put_stored R at value whole inside short) in
    unlinked head_at k more starts apart r (subst (λ (q : ℕ). Stored R q (page_behind pages k) S) at_is (subst (λ (q : ℕ). Stored R at q S) value_is stored))
unlinked_where_done (Err e) R S pages head_at k at value more at_is value_is whole inside short is s head tail es starts apart r = tt
