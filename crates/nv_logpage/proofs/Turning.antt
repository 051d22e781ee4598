-- What is read of a log from a place on, told page by page, and read again where other pages were read before.
use Rattle.std.proofs.Common.{◌≡◌, ◌⊎◌, inl, inr, ℕ, ◌+◌, ◌*◌, ◌/◌, ◌%◌, ◌<◌, ◌≤◌, Bool, true, false, IsTrue, List, [], ◌∷◌, ◌++◌, append-nil, append_assoc, refl, ap, sym, ◌∙◌, subst, arith, cond, Option, Some, None}
use Rattle.std.specs.List.{Contains, list_any}
use Rattle.std.proofs.lemmas.Bool.{ne_eqb}
use Rattle.std.proofs.lemmas.List.Elements.{Contains-append_left}
use Rattle.std.proofs.Math.Dec.{eqb}
use Rattle.nv_region.specs.Region.{Region, word}
use Rattle.nv_super.specs.declared.superblock.Super.{Super}
use Rattle.nv_super.specs.Layout.{is_page_start}
use Rattle.nv_super.proofs.Members.{no_member, none_in}
use Rattle.nv_super.proofs.Rising.{Contains-cons, Contains-head, Contains-tail}
use Rattle.nv_entry.specs.declared.entry.Entry.{Entry}
use Rattle.nv_entry.specs.Spelling.{entry_length}
use Rattle.nv_entry.proofs.Same.{Stands-same, SameWords, entry_length_words, entry_length_positive}
use Rattle.nv_logpage.specs.declared.found.LogEnd.{LogEnd}
use Rattle.nv_logpage.specs.declared.found.Placed.{Placed}
use Rattle.nv_logpage.specs.declared.found.Finding.TheVariants as finds
use Rattle.nv_logpage.specs.declared.found.LogFault.TheVariants as logs
use Rattle.nv_logpage.specs.Grows.{SamePage}
use Rattle.nv_logpage.specs.Reads.{EntryAt, Finds, ReadsOn, ended, ends, followed, link_of, reads, room_at, turns}
use Rattle.nv_logpage.proofs.Steps.{start_whole, Finds-entry, Finds-onward}
use Rattle.nv_logpage.proofs.Local.{Contains-last}
use Rattle.nv_logpage.proofs.Longer.{at_the_tail, entry_found, eqb_yes, got_entry, got_page}
use Rattle.nv_logpage.proofs.DataBlocks.{contains_snoc}
use Rattle.nv_logpage.proofs.Grown.{not_any}

-- the regions have the same words in this page but for its link
abbrev pub SameEntries : Region → Region → ℕ → Type 0
SameEntries R S b = (a : ℕ) → a % 8 ≡ 0 → a / 4096 ≡ b → a % 4096 < 4064 → word S a ≡ word R a

pub but_link : (R S : Region) (b : ℕ) → SamePage R S b → SameEntries R S b
but_link R S b same a whole page low = same a whole page

entry_words : (R S : Region) (p n : ℕ) → SameEntries R S (p / 4096) → p % 8 ≡ 0 → p % 4096 ≤ 4064 → n ≤ room_at p → SameWords R p S p n
entry_words R S p n same whole offset fits d d_whole below = same (p + d) (omega arith) (omega arith) (omega arith)

entry_stays : (R S : Region) (p : ℕ) (e : Entry) → SameEntries R S (p / 4096) → p % 8 ≡ 0 → p % 4096 ≤ 4064 → EntryAt R p (Some e) → EntryAt S p (Some e)
entry_stays R S p e same whole offset h = (Stands-same R S p p e (entry_words R S p (entry_length e) same whole offset h.1) h.0, h.1)

-- ---- one finding, where other pages were read before

-- the same entry is found
entry_again : (R S : Region) (s : Super) (tail : ℕ) (read other : List ℕ) (p : ℕ) (x : Placed) → SameEntries R S (p / 4096) → p % 8 ≡ 0 → p % 4096 ≤ 4064 → Finds R s tail read p (finds.Entry x) → Finds S s tail other p (finds.Entry x)
entry_again R S s tail read other p x same whole offset f =
    let got = got_entry R s tail read p x f in
    entry_found S s tail other p x (record {
      place = got.place;
      not_tail = got.not_tail;
      not_link = got.not_link;
      here = entry_stays R S p x.entry same whole offset got.here;
      stays = got.stays;
      inner = got.inner;
    })

leads_by : (w at next : ℕ) (b c : Bool) → finds.Page next ≡ cond b (cond c (ended logs.L2 at) (finds.Page w)) (ended logs.L1 at) → next ≡ w
leads_by w at next true true h = absurd (cc)
leads_by w at next true false h = cc
leads_by w at next false c h = absurd (cc)

-- a page that is found is where the link leads
link_leads : (R : Region) (s : Super) (tail : ℕ) (read : List ℕ) (p next : ℕ) → Finds R s tail read p (finds.Page next) → word R (link_of p) ≡ next
link_leads R s tail read p next f =
    let got = got_page R s tail read p next f in
    sym (leads_by (word R (link_of p)) (link_of p) next (is_page_start s (word R (link_of p))) (list_any (eqb (word R (link_of p) / 4096)) read) got.link)

leads : (S : Region) (s : Super) (other : List ℕ) (at to : ℕ) → word S at ≡ to → is_page_start s to ≡ true → list_any (eqb (to / 4096)) other ≡ false → finds.Page to ≡ followed S s other at
leads S s other at to is start unread = rw (is, start, unread) refl

-- where the link leads to another page, that is found
page_again : (R S : Region) (s : Super) (tail : ℕ) (read other : List ℕ) (p next to : ℕ) → SameEntries R S (p / 4096) → p % 8 ≡ 0 → p % 4096 ≤ 4064
    → word S (link_of p) ≡ to → IsTrue (is_page_start s to) → list_any (eqb (to / 4096)) other ≡ false → Finds R s tail read p (finds.Page next) → Finds S s tail other p (finds.Page to)
page_again R S s tail read other p next to same whole offset is start unread f =
    let got = got_page R s tail read p next f in
    let follows : finds.Page to ≡ followed S s other (link_of p) = leads S s other (link_of p) to is start unread in
    elim got.why [
      | inl at_link ↦ rw (ne_eqb p tail got.not_tail, eqb_yes (p % 4096) 4064 at_link) follows
      | inr w ↦ Finds-entry S s tail other p (finds.Page to) got.not_tail w.1 (Some w.0, entry_stays R S p w.0 same whole offset w.2, rw (w.3, w.4) follows)
    ]

-- ---- a place and the one behind its entry

record Behind (p : ℕ) (x : Placed) : Type 0 where
  at : x.at ≡ p
  page : (x.at + entry_length x.entry) / 4096 ≡ p / 4096
  whole : (x.at + entry_length x.entry) % 8 ≡ 0
  low : (x.at + entry_length x.entry) % 4096 ≤ 4064

behind : (p : ℕ) (x : Placed) → x.at ≡ p → entry_length x.entry ≤ room_at p → p % 8 ≡ 0 → p % 4096 ≤ 4064 → Behind p x
behind p x here fits whole low =
    let words : entry_length x.entry % 8 ≡ 0 = entry_length_words x.entry in
    let some : 8 ≤ entry_length x.entry = entry_length_positive x.entry in
    record { at = here; page = omega arith; whole = omega arith; low = omega arith }

-- ---- the whole rest of a log

-- What is read from a place on: the pages that are turned to, which weren't read before, and the entries, which stand in the
-- place's page or in these. It is read again where other pages were read before, none of them one of these.
pub record Onward (R : Region) (s : Super) (tail : ℕ) (read : List ℕ) (p : ℕ) (es : List Placed) (all : List ℕ) : Type 0 where
  pub more : List ℕ
  pub all_is : all ≡ read ++ more
  pub apart : (b : ℕ) → Contains more b → Contains read b → ⊥
  pub stand : (x : Placed) → Contains es x → (x.at / 4096 ≡ p / 4096) ⊎ Contains more (x.at / 4096)
  pub again : (S : Region) (other : List ℕ) → ((b : ℕ) → (b ≡ p / 4096) ⊎ Contains more b → SamePage R S b) → ((b : ℕ) → Contains more b → Contains other b → ⊥)
      → ReadsOn S s tail other p es (other ++ more) None

end_again : (S : Region) (s : Super) (tail p : ℕ) (other : List ℕ) → p ≡ tail → ReadsOn S s tail other p [] (other ++ []) None
end_again S s tail p other is = subst (λ (q : List ℕ). ReadsOn S s tail other p [] q None) (sym (append-nil other)) (ends (rw (eqb_yes p tail is) refl))

in_more : (next : ℕ) (more : List ℕ) (q : ℕ) → (q ≡ next / 4096) ⊎ Contains more q → Contains (next / 4096 ∷ more) q
in_more next more q (inl e) = subst (Contains (next / 4096 ∷ more)) (sym e) (Contains-head (next / 4096) more)
in_more next more q (inr c) = Contains-tail (next / 4096) more q c

pub onward : {R : Region} {s : Super} {tail : ℕ} {read : List ℕ} {p : ℕ} {es : List Placed} {all : List ℕ} {fault : Option LogEnd} → fault ≡ None → p % 8 ≡ 0 → p % 4096 ≤ 4064
    → ReadsOn R s tail read p es all fault → Onward R s tail read p es all
onward {R} {s} {tail} {read} {p} none whole offset (ends f) =
    let is : p ≡ tail = at_the_tail R s tail read p (subst (λ (x : Option LogEnd). Finds R s tail read p (finds.End x)) none f) in
    record {
      more = [];
      all_is = sym (append-nil read);
      apart = λ b c. absurd (none_in b c);
      stand = λ x c. absurd (none_in x c);
      again = λ S other same apart. end_again S s tail p other is;
    }
onward {R} {s} {tail} {read} {p} none whole offset (reads {x = x} {es = es} f r) =
    let goes = Finds-onward R s tail read p (finds.Entry x) f in
    let b = behind p x goes.0 goes.1 whole offset in
    let o = onward none b.whole b.low r in
    record {
      more = o.more;
      all_is = o.all_is;
      apart = o.apart;
      stand = λ y c. elim (Contains-cons x es y c) [
        | inl is ↦ inl (ap (λ (z : Placed). z.at / 4096) is ∙ ap (λ (n : ℕ). n / 4096) b.at)
        | inr later ↦ elim (o.stand y later) [ inl w ↦ inl (w ∙ b.page) | inr w ↦ inr w ]
      ];
      again = λ S other same apart.
          reads (entry_again R S s tail read other p x (but_link R S (p / 4096) (same (p / 4096) (inl refl))) whole offset f)
          (o.again S other (λ q w. same q (elim w [ inl e ↦ inl (e ∙ b.page) | inr c ↦ inr c ])) apart);
    }
onward {R} {s} {tail} {read} {p} none whole offset (turns {next = next} {es = es} f r) =
    let goes = Finds-onward R s tail read p (finds.Page next) f in
    let start : next % 4096 ≡ 0 = start_whole s next goes.0 in
    let o = onward none (omega arith) (omega arith) r in
    record {
      more = next / 4096 ∷ o.more;
      all_is = o.all_is ∙ append_assoc read (next / 4096 ∷ []) o.more;
      apart = λ b c in_read. elim (Contains-cons (next / 4096) o.more b c) [
        | inl is ↦ no_member read (next / 4096) goes.1 (subst (Contains read) is in_read)
        | inr later ↦ o.apart b later (Contains-append_left read (next / 4096 ∷ []) b in_read)
      ];
      stand = λ y c. inr (in_more next o.more (y.at / 4096) (o.stand y c));
      again = λ S other same apart. (
          let unread : list_any (eqb (next / 4096)) other ≡ false = not_any (next / 4096) other (apart (next / 4096) (Contains-head (next / 4096) o.more)) in
          let link : word S (link_of p) ≡ next = same (p / 4096) (inl refl) (link_of p) (omega arith) (omega arith) ∙ link_leads R s tail read p next f in
          turns (page_again R S s tail read other p next next (but_link R S (p / 4096) (same (p / 4096) (inl refl))) whole offset link goes.0 unread f)
          (subst (λ (q : List ℕ). ReadsOn S s tail (other ++ next / 4096 ∷ []) next es q None) (append_assoc other (next / 4096 ∷ []) o.more)
          (o.again S (other ++ next / 4096 ∷ []) (λ q w. same q (inr (in_more next o.more q w))) (λ q later in_other. elim (contains_snoc other (next / 4096) q in_other) [
            | inl old ↦ apart q (Contains-tail (next / 4096) o.more q later) old
            | inr is ↦ o.apart q later (subst (Contains (read ++ next / 4096 ∷ [])) (sym is) (Contains-last read (next / 4096)))
          ]))));
    }

-- ---- up to the end of a page

-- The entries of the place's page, the next page, and what is read from there on. Where the link of this page leads elsewhere,
-- the same entries are read, and then what follows there.
pub record Leaves (R : Region) (s : Super) (tail : ℕ) (read : List ℕ) (p : ℕ) (es : List Placed) (all : List ℕ) : Type 0 where
  pub here : List Placed
  pub rest : List Placed
  pub next : ℕ
  pub es_is : es ≡ here ++ rest
  pub in_page : (x : Placed) → Contains here x → x.at / 4096 ≡ p / 4096
  pub start : IsTrue (is_page_start s next)
  pub unread : list_any (eqb (next / 4096)) read ≡ false
  pub link : word R (link_of p) ≡ next
  pub goes : ReadsOn R s tail (read ++ next / 4096 ∷ []) next rest all None
  pub back : (S : Region) (other : List ℕ) (to : ℕ) (after : List Placed) (bll : List ℕ) → SameEntries R S (p / 4096) → word S (link_of p) ≡ to → IsTrue (is_page_start s to) → list_any (eqb (to / 4096)) other ≡ false
      → ReadsOn S s tail (other ++ to / 4096 ∷ []) to after bll None → ReadsOn S s tail other p (here ++ after) bll None

-- a log ends in the place's page, or leaves it
pub leaves : {R : Region} {s : Super} {tail : ℕ} {read : List ℕ} {p : ℕ} {es : List Placed} {all : List ℕ} {fault : Option LogEnd} → fault ≡ None → p % 8 ≡ 0 → p % 4096 ≤ 4064
    → ReadsOn R s tail read p es all fault → (all ≡ read) ⊎ Leaves R s tail read p es all
leaves none whole offset (ends f) = inl refl
leaves {R} {s} {tail} {read} {p} none whole offset (reads {x = x} {es = es} f r) =
    let goes = Finds-onward R s tail read p (finds.Entry x) f in
    let b = behind p x goes.0 goes.1 whole offset in
    let same_link : link_of (x.at + entry_length x.entry) ≡ link_of p = ap (λ (n : ℕ). n * 4096 + 4064) b.page in
    elim (leaves none b.whole b.low r) [
      | inl e ↦ inl e
      | inr v ↦ inr (record {
        here = x ∷ v.here;
        rest = v.rest;
        next = v.next;
        es_is = ap (λ (q : List Placed). x ∷ q) v.es_is;
        in_page = λ y c. elim (Contains-cons x v.here y c) [
          | inl is ↦ ap (λ (z : Placed). z.at / 4096) is ∙ ap (λ (n : ℕ). n / 4096) b.at
          | inr later ↦ v.in_page y later ∙ b.page
        ];
        start = v.start;
        unread = v.unread;
        link = ap (word R) (sym same_link) ∙ v.link;
        goes = v.goes;
        back = λ S other to after bll same link start unread rest.
            reads (entry_again R S s tail read other p x same whole offset f)
            (v.back S other to after bll (subst (SameEntries R S) (sym b.page) same) (ap (word S) same_link ∙ link) start unread rest);
      })
    ]
leaves {R} {s} {tail} {read} {p} {all = all} none whole offset (turns {next = next} {es = es} f r) =
    let goes = Finds-onward R s tail read p (finds.Page next) f in
    inr (record {
      here = [];
      rest = es;
      next = next;
      es_is = refl;
      in_page = λ y c. absurd (none_in y c);
      start = goes.0;
      unread = goes.1;
      link = link_leads R s tail read p next f;
      goes = subst (λ (x : Option LogEnd). ReadsOn R s tail (read ++ next / 4096 ∷ []) next es all x) none r;
      back = λ S other to after bll same link start unread rest. turns (page_again R S s tail read other p next to same whole offset link start unread f) rest;
    })
