-- The entries of a log that are dead, by what holds each subject, and one entry further.
use Rattle.std.proofs.Common.{◌≡◌, ◌∙◌, ◌+◌, ◌<◌, ◌≤◌, ℕ, Bool, true, false, List, [], ◌∷◌, ◌++◌, length, get_or, take, drop, Option, Some, None, unwrap_or, refl, ap, sym, zero, suc, append-nil, subst, arith, inl, inr, ◌⊎◌, append_assoc}
use Rattle.std.specs.Prelude.{replicate, slice_get}
use Rattle.std.specs.Option.{IsSome}
use Rattle.std.specs.List.{remove}
use Rattle.std.proofs.lemmas.Bool.{cases_lt}
use Rattle.std.proofs.Math.Seq.{take-append_seam}
use Rattle.std.proofs.lemmas.List.{take-append-drop, take-append-le, take_all, take_more, length-take, length-take-le, get_or_past}
use Rattle.std.proofs.lemmas.Option.{slice_get_cases}
use Rattle.nv_super.specs.declared.superblock.Super.{Super}
use Rattle.nv_super.specs.declared.kind.Kind.{Kind}
use Rattle.nv_entry.specs.Content.{is_good}
use Rattle.nv_logpage.specs.declared.found.Placed.{Placed}
use Rattle.nv_logpage.specs.Good.{good_entries}
use Rattle.nv_scan.specs.Fold.{word_after}
use Rattle.nv_scan.proofs.Words.{word-more}
use Rattle.nv_deadpages.specs.Dead.{SameState}
use Rattle.nv_inspect.specs.declared.fate.Fate.{Fate}
use Rattle.nv_inspect.specs.declared.fate.Fate.TheVariants.{Stands}
use Rattle.nv_names.specs.Names.{name_at}
use Rattle.nv_inspect.specs.declared.held.Held.{Held}
use Rattle.nv_inspect.specs.declared.word.Word.{Word}
use Rattle.nv_inspect.specs.declared.pieces.Piece.{Piece}
use Rattle.nv_inspect.specs.Dead.{AreFates, IsDead, IsDeadFrom, IsFate}
use Rattle.nv_inspect.specs.Held.{Subject, the_size, the_mode, the_owner, the_group, the_links, the_time, the_page, the_name, Value, says, unsaid, word_on, value_in, holder_in, IsHeld, Marks, HoldsAll, HoldsOne, LosesOne, TakesGood, IsTaker, AreTakers, fate_with, fate_by, killed_by, piece_at, no_piece, block_held, page_holder, block_by_shift, name_holder}
use Rattle.nv_inspect.proofs.Holders.{held_more, still_held, inner_or_last, one_longer, remove_inner}

-- what was written to the front of a list, where it fills it
pub front_only : {A : Type 0} (n : ℕ) (xs ys : List A) → n ≡ length xs → take n (xs ++ ys) ≡ xs
front_only n xs ys is = ap (λ (m : ℕ). take m (xs ++ ys)) is ∙ take-append_seam xs ys

some_there : (es : List Placed) (m : ℕ) → m < length es → slice_get es m ≡ None → ⊥
some_there es m less none = elim (slice_get_cases es m).1 [
  | inl w ↦ (let is = w.2 in cc)
  | inr w ↦ (let past = w.0 in omega (arith, past, less))
]

abbrev unmarked_one : Option ℕ
unmarked_one = None

pub length_unmarked : (n : ℕ) → length (replicate n unmarked_one) ≡ n
length_unmarked zero = refl
length_unmarked (suc n) = ap suc (length_unmarked n)

get_or_unmarked : (n k : ℕ) → get_or (replicate n unmarked_one) k unmarked_one ≡ unmarked_one
get_or_unmarked zero k = refl
get_or_unmarked (suc n) zero = refl
get_or_unmarked (suc n) (suc k) = get_or_unmarked n k

module _ (s : Super) (kind : Kind) (created : ℕ) where
  abbrev Dead : List Placed → ℕ → Type 0
  Dead es k = IsDead s kind created es k

  abbrev word : (subject : Subject) → List Placed → Value subject
  word subject es = word_on s kind created subject es

  -- the last word, with one entry more
  law : (subject : Subject) (es : List Placed) (x : Placed) (good : Bool) → is_good s kind x.entry ≡ good → word subject (es ++ x ∷ []) ≡ word_after good (says subject x) (word subject es)
  law subject es x good h = word-more (says subject) (unsaid created subject) s kind es x good h

  -- ---- the state by its subjects

  same_state : (es new : List Placed) → ((subject : Subject) → word subject new ≡ word subject es) → SameState created (good_entries s kind es) (good_entries s kind new)
  same_state es new same = record {
    size = same the_size;
    mode = same the_mode;
    owner = same the_owner;
    group = same the_group;
    links = same the_links;
    time = same the_time;
    blocks = λ p. same (the_page p);
    names = λ q. same (the_name q);
  }

  same_words : (es new : List Placed) → SameState created (good_entries s kind es) (good_entries s kind new) → (subject : Subject) → word subject new ≡ word subject es
  same_words es new same the_size = same.size
  same_words es new same the_mode = same.mode
  same_words es new same the_owner = same.owner
  same_words es new same the_group = same.group
  same_words es new same the_links = same.links
  same_words es new same the_time = same.time
  same_words es new same (the_page p) = same.blocks p
  same_words es new same (the_name q) = same.names q

  -- ---- what is held

  pub hold_more : (es : List Placed) (x : Placed) (h new : Held) → is_good s kind x.entry ≡ true → HoldsAll s kind created es h → TakesGood (length es) x h new → HoldsAll s kind created (es ++ x ∷ []) new
  hold_more es x h new good all takes subject = held_more (word subject) es x (says subject x) (λ ys. law subject ys x true good) (value_in h subject) (holder_in h subject) (value_in new subject) (holder_in new subject) (all subject) (takes subject)

  pub hold_skip : (es : List Placed) (x : Placed) (h : Held) → is_good s kind x.entry ≡ false → HoldsAll s kind created es h → HoldsAll s kind created (es ++ x ∷ []) h
  hold_skip es x h bad all subject = record {
    is = (all subject).is ∙ sym (law subject es x false bad);
    holds = still_held (word subject) es x (λ ys. law subject ys x false bad) (holder_in h subject) (all subject).holds;
  }

  -- an entry that holds a subject stands
  pub held_stands : (es : List Placed) (h : Held) (k : ℕ) → HoldsAll s kind created es h → HoldsOne h k → Dead es k → ⊥
  held_stands es h k all one dead = ((all one.0).holds.by k one.1).1 (same_words es (remove es k) dead.same one.0)

  -- and one that holds none is dead
  pub unheld_dead : (es : List Placed) (h : Held) (k : ℕ) → HoldsAll s kind created es h → k < length es → (HoldsOne h k → ⊥) → Dead es k
  unheld_dead es h k all there never = record {
    there = there;
    same = same_state es (remove es k) (λ subject. (all subject).holds.others k there (λ e. never (subject, e)));
  }

  -- ---- dead entries stay dead

  dead_more : (es : List Placed) (x : Placed) (k : ℕ) → Dead es k → Dead (es ++ x ∷ []) k
  dead_more es x k dead = record {
    there = (let there = dead.there in let long = one_longer es x in omega (arith, there, long));
    same = same_state (es ++ x ∷ []) (remove (es ++ x ∷ []) k) (λ subject.
        ap (word subject) (remove_inner es x k dead.there) ∙ law subject (remove es k) x (is_good s kind x.entry) refl
        ∙ ap (word_after (is_good s kind x.entry) (says subject x)) (same_words es (remove es k) dead.same subject) ∙ sym (law subject es x (is_good s kind x.entry) refl));
  }

  dead_longer : (es more : List Placed) (k : ℕ) → Dead es k → Dead (es ++ more) k
  dead_longer es [] k dead = subst (λ (ys : List Placed). Dead ys k) (sym (append-nil es)) dead
  dead_longer es (x ∷ more) k dead = subst (λ (ys : List Placed). Dead ys k) (append_assoc es (x ∷ []) more) (dead_longer (es ++ x ∷ []) more k (dead_more es x k dead))

  -- among more of the first entries
  dead_later : (es : List Placed) (i j k : ℕ) → i ≤ j → j ≤ length es → Dead (take i es) k → Dead (take j es) k
  dead_later es i j k more in_es dead =
      let front : take i (take j es) ≡ take i es = sym (take-append-le i (take j es) (drop j es) (let long = length-take j es in omega (arith, more, in_es, long))) ∙ ap (take i) (take-append-drop j es) in
      subst (λ (ys : List Placed). Dead ys k) (take-append-drop i (take j es)) (dead_longer (take i (take j es)) (drop i (take j es)) k (subst (λ (ys : List Placed). Dead ys k) (sym front) dead))

  -- ---- what an entry more leaves dead

  -- of a subject of which a good entry says nothing
  silent_one : (subject : Subject) (es : List Placed) (x : Placed) (said : Option (Value subject)) → said ≡ None → ((ys : List Placed) → word subject (ys ++ x ∷ []) ≡ unwrap_or said (word subject ys)) → (k : ℕ) → k < length es
      → word subject (remove (es ++ x ∷ []) k) ≡ word subject (es ++ x ∷ []) → word subject (remove es k) ≡ word subject es
  silent_one subject es x None none law_of k below same = sym (law_of (remove es k)) ∙ sym (ap (word subject) (remove_inner es x k below)) ∙ same ∙ law_of es
  silent_one subject es x (Some v) none law_of k below same = absurd (cc)

  said_or_not : {V : Type 0} (said : Option V) → IsSome said ⊎ (said ≡ None)
  said_or_not None = inr refl
  said_or_not (Some v) = inl refl

  kept : (es : List Placed) (x : Placed) (h : Held) (k : ℕ) → is_good s kind x.entry ≡ true → HoldsAll s kind created es h → k < length es → (LosesOne x h k → ⊥) → Dead (es ++ x ∷ []) k → Dead es k
  kept es x h k good all below keeps dead = unheld_dead es h k all below (λ one. elim (said_or_not (says one.0 x)) [
    | inl some ↦ keeps (one.0, (some, one.1))
    | inr none ↦ ((all one.0).holds.by k one.1).1 (silent_one one.0 es x (says one.0 x) none (λ ys. law one.0 ys x true good) k below (same_words (es ++ x ∷ []) (remove (es ++ x ∷ []) k) dead.same one.0))
  ])

  kept_bad : (es : List Placed) (x : Placed) (k : ℕ) → is_good s kind x.entry ≡ false → k < length es → Dead (es ++ x ∷ []) k → Dead es k
  kept_bad es x k bad below dead = record {
    there = below;
    same = same_state es (remove es k) (λ subject. silent_one subject es x None refl (λ ys. law subject ys x false bad) k below (same_words (es ++ x ∷ []) (remove (es ++ x ∷ []) k) dead.same subject));
  }

  -- ---- the takers

  inner_take : (es : List Placed) (x : Placed) (n : ℕ) → n ≤ length es → take n (es ++ x ∷ []) ≡ take n es
  inner_take es x n fits = take-append-le n es (x ∷ []) fits

  whole_take : (es : List Placed) (x : Placed) → take (length es + 1) (es ++ x ∷ []) ≡ es ++ x ∷ []
  whole_take es x = take_all (length es + 1) (es ++ x ∷ []) (let long = one_longer es x in omega (arith, long))

  front_take : (es : List Placed) (x : Placed) → take (length es) (es ++ x ∷ []) ≡ es
  front_take es x = inner_take es x (length es) (omega arith) ∙ take_all (length es) es (omega arith)

  abbrev Taker : List Placed → ℕ → Option ℕ → Type 0
  Taker es k taker = IsTaker s kind created es k taker

  -- of an entry from which nothing was taken
  taker_kept : (es : List Placed) (x : Placed) (k : ℕ) → k < length es → (Dead (es ++ x ∷ []) k → Dead es k) → (taker : Option ℕ) → Taker es k taker → Taker (es ++ x ∷ []) k taker
  taker_kept es x k below back None was = λ dead. subst (λ (ys : List Placed). Dead ys k) (sym (inner_take es x (k + 1) (omega arith))) (was (back dead))
  taker_kept es x k below back (Some m) was = (
    was.0,
    (let inside = was.1 in let long = one_longer es x in omega (arith, inside, long)),
    (λ dead. subst (λ (ys : List Placed). Dead ys k) (sym (inner_take es x (m + 1) (let inside = was.1 in omega (arith, inside)))) (was.2 (back dead))),
    (λ dead. was.3 (subst (λ (ys : List Placed). Dead ys k) (inner_take es x m (let inside = was.1 in omega (arith, inside))) dead)),
  )

  -- of an entry from which this one takes something
  taker_now : (es : List Placed) (x : Placed) (h : Held) (k : ℕ) → HoldsAll s kind created es h → k < length es → HoldsOne h k → Taker (es ++ x ∷ []) k (Some (length es))
  taker_now es x h k all below one = (
    below,
    (let long = one_longer es x in omega (arith, long)),
    (λ dead. subst (λ (ys : List Placed). Dead ys k) (sym (whole_take es x)) dead),
    (λ dead. held_stands es h k all one (subst (λ (ys : List Placed). Dead ys k) (front_take es x) dead)),
  )

  -- of the entry itself
  taker_last : (es : List Placed) (x : Placed) (k : ℕ) → k ≡ length es → Taker (es ++ x ∷ []) k None
  taker_last es x k last = λ dead. subst (λ (n : ℕ). Dead (take (n + 1) (es ++ x ∷ [])) k) (sym last) (subst (λ (ys : List Placed). Dead ys k) (sym (whole_take es x)) dead)

  pub takers_more : (es : List Placed) (x : Placed) (h : Held) (old new : List (Option ℕ)) → is_good s kind x.entry ≡ true → HoldsAll s kind created es h → length es < length old
      → Marks (length es) (LosesOne x h) old new → AreTakers s kind created es old → AreTakers s kind created (es ++ x ∷ []) new
  takers_more es x h old new good all room marks were = record {
    each = λ k below. elim (inner_or_last es x k below) [
      | inl less ↦ elim (marks.each k (omega (arith, less, room))) [
        | inl taken ↦ subst (λ (o : Option ℕ). Taker (es ++ x ∷ []) k o) (sym taken.1) (taker_now es x h k all less (taken.0.0, taken.0.1.1))
        | inr same ↦ subst (λ (o : Option ℕ). Taker (es ++ x ∷ []) k o) (sym same.1) (taker_kept es x k less (kept es x h k good all less same.0) (get_or old k None) (were.each k less))
      ]
      | inr last ↦ subst (λ (o : Option ℕ). Taker (es ++ x ∷ []) k o) (sym (unmarked k (omega (arith, last)))) (taker_last es x k last)
    ];
    later = λ k past. unmarked k (let long = one_longer es x in omega (arith, past, long));
  } where
    unmarked : (k : ℕ) → length es ≤ k → get_or new k None ≡ None
    unmarked k past = elim (cases_lt k (length old)) [
      | inl less ↦ elim (marks.each k less) [
        | inl taken ↦ absurd (let inside = ((all taken.0.0).holds.by k taken.0.1.1).0 in omega (arith, inside, past))
        | inr same ↦ same.1 ∙ were.later k past
      ]
      | inr over ↦ get_or_past new k None (let long = marks.long in omega (arith, over, long))
    ]

  pub takers_skip : (es : List Placed) (x : Placed) (takers : List (Option ℕ)) → is_good s kind x.entry ≡ false → AreTakers s kind created es takers → AreTakers s kind created (es ++ x ∷ []) takers
  takers_skip es x takers bad were = record {
    each = λ k below. elim (inner_or_last es x k below) [
      | inl less ↦ taker_kept es x k less (kept_bad es x k bad less) (get_or takers k None) (were.each k less)
      | inr last ↦ subst (λ (o : Option ℕ). Taker (es ++ x ∷ []) k o) (sym (were.later k (omega (arith, last)))) (taker_last es x k last)
    ];
    later = λ k past. were.later k (let long = one_longer es x in omega (arith, past, long));
  }

  -- ---- the fates

  -- dead from its taker on
  from_itself : (es : List Placed) (k : ℕ) → k < length es → Dead (take (k + 1) es) k → IsDeadFrom s kind created es k k
  from_itself es k there dead = record {
    to = there;
    dead = dead;
    first = λ j less early. (let inside = early.there in let long = length-take (j + 1) es in omega (arith, inside, long, less));
  }

  from_taker : (es : List Placed) (k m : ℕ) → m < length es → Dead (take (m + 1) es) k → (Dead (take m es) k → ⊥) → IsDeadFrom s kind created es k m
  from_taker es k m inside dead alive = record {
    to = inside;
    dead = dead;
    first = λ j less early. alive (dead_later es (j + 1) m k (omega (arith, less)) (omega (arith, inside)) early);
  }

  fate_of_dead : (es : List Placed) (k : ℕ) → k < length es → Dead es k → (taker : Option ℕ) → Taker es k taker → IsFate s kind created es k (fate_by es taker)
  fate_of_dead es k there dead None taker = (dead, from_itself es k there (taker dead))
  fate_of_dead es k there dead (Some m) taker =
      elim (slice_get es m) as (λ (o : Option Placed). slice_get es m ≡ o → IsFate s kind created es k (killed_by o)) [
        | None ↦ λ none. absurd (some_there es m taker.1 none)
        | Some y ↦ λ is. (dead, record { by = m; later = taker.0; from = from_taker es k m taker.1 (taker.2 dead) taker.3; killer = y; is = is; place = refl })
      ] refl

  pub fate_is : (es : List Placed) (h : Held) (takers holders : List (Option ℕ)) (n : ℕ) → HoldsAll s kind created es h → AreTakers s kind created es takers → Marks 0 (HoldsOne h) (replicate n None) holders → length es ≤ n
      → (k : ℕ) → k < length es → IsFate s kind created es k (fate_with es (get_or takers k None) (get_or holders k None))
  fate_is es h takers holders n all were marks fits k there = elim (marks.each k (let long = length_unmarked n in omega (arith, there, fits, long))) [
    | inl one ↦ rw one.1 (λ dead. held_stands es h k all one.0 dead)
    | inr none ↦ rw (none.1 ∙ get_or_unmarked n k) (fate_of_dead es k there (unheld_dead es h k all there none.0) (get_or takers k None) (were.each k there))
  ]

  -- ---- as the entries are taken

  pub takers_none : (n : ℕ) → AreTakers s kind created [] (replicate n None)
  takers_none n = record { each = λ k below. absurd (omega (arith, below)); later = λ k past. get_or_unmarked n k }

  module _ (entries : List Placed) (place : ℕ) (x : Placed) (below : place < length entries) (is : x ≡ get_or entries place x) where
    one_further : take place entries ++ x ∷ [] ≡ take (place + 1) entries
    one_further = ap (λ (y : Placed). take place entries ++ y ∷ []) is ∙ sym (take_more entries place x below)

    so_far : place ≡ length (take place entries)
    so_far = sym (length-take-le place entries (omega (arith, below)))

    pub good_held : (h new : Held) → is_good s kind x.entry ≡ true → HoldsAll s kind created (take place entries) h → TakesGood place x h new → HoldsAll s kind created (take (place + 1) entries) new
    good_held h new good all takes = subst (λ (ys : List Placed). HoldsAll s kind created ys new) one_further
        (hold_more (take place entries) x h new good all (subst (λ (n : ℕ). TakesGood n x h new) so_far takes))

    pub good_takers : (h : Held) (old new : List (Option ℕ)) → is_good s kind x.entry ≡ true → HoldsAll s kind created (take place entries) h → length old ≡ length entries → Marks place (LosesOne x h) old new
        → AreTakers s kind created (take place entries) old → AreTakers s kind created (take (place + 1) entries) new
    good_takers h old new good all long marks were = subst (λ (ys : List Placed). AreTakers s kind created ys new) one_further
        (takers_more (take place entries) x h old new good all (let front = so_far in omega (arith, front, long, below)) (subst (λ (n : ℕ). Marks n (LosesOne x h) old new) so_far marks) were)

    pub bad_held : (h : Held) → is_good s kind x.entry ≡ false → HoldsAll s kind created (take place entries) h → HoldsAll s kind created (take (place + 1) entries) h
    bad_held h bad all = subst (λ (ys : List Placed). HoldsAll s kind created ys h) one_further (hold_skip (take place entries) x h bad all)

    pub bad_takers : (takers : List (Option ℕ)) → is_good s kind x.entry ≡ false → AreTakers s kind created (take place entries) takers → AreTakers s kind created (take (place + 1) entries) takers
    bad_takers takers bad were = subst (λ (ys : List Placed). AreTakers s kind created ys takers) one_further (takers_skip (take place entries) x takers bad were)

  pub all_held : (entries : List Placed) (place : ℕ) (h : Held) → length entries ≤ place → HoldsAll s kind created (take place entries) h → HoldsAll s kind created entries h
  all_held entries place h past all = subst (λ (ys : List Placed). HoldsAll s kind created ys h) (take_all place entries past) all

  pub all_takers : (entries : List Placed) (place : ℕ) (takers : List (Option ℕ)) → length entries ≤ place → AreTakers s kind created (take place entries) takers → AreTakers s kind created entries takers
  all_takers entries place takers past were = subst (λ (ys : List Placed). AreTakers s kind created ys takers) (take_all place entries past) were

  pub are_fates : (es : List Placed) (h : Held) (takers holders : List (Option ℕ)) (fates : List Fate) → HoldsAll s kind created es h → AreTakers s kind created es takers → Marks 0 (HoldsOne h) (replicate (length es) None) holders
      → length fates ≡ length es → ((k : ℕ) → k < length es → get_or fates k Stands ≡ fate_with es (get_or takers k None) (get_or holders k None)) → AreFates s kind created es fates
  are_fates es h takers holders fates all were marks long each = record {
    long = long;
    each = λ k below. subst (λ (f : Fate). IsFate s kind created es k f) (sym (each k below)) (fate_is es h takers holders (length es) all were marks (omega arith) k below);
  }

-- nothing was said before the first entry
pub none_held : (s : Super) (kind : Kind) (created : ℕ) (h : Held) → h.size ≡ record { value = 0; holder = None } → h.mode ≡ record { value = 0; holder = None } → h.owner ≡ record { value = 0; holder = None }
    → h.group ≡ record { value = 0; holder = None } → h.links ≡ record { value = 1; holder = None } → h.time ≡ record { value = created; holder = None }
    → ((p : ℕ) → piece_at h.pages.entries p ≡ no_piece) → ((q : List ℕ) → name_at h.names.targets q ≡ None) → ((q : List ℕ) → name_holder h.names q ≡ None) → HoldsAll s kind created [] h
none_held s kind created h size mode owner group links time pages names holders = all where
  free : {V : Type 0} (word : List Placed → V) (value : V) (holder : Option ℕ) → value ≡ word [] → holder ≡ None → IsHeld word [] value holder
  free word value holder is none = record {
    is = is;
    holds = record { by = λ k h. absurd (cc); others = λ k below never. absurd (omega (arith, below)) };
  }

  of_word : (word : List Placed → ℕ) (w : Word) (value : ℕ) → w ≡ record { value = value; holder = None } → value ≡ word [] → IsHeld word [] w.value w.holder
  of_word word w value is same = free word w.value w.holder (ap (λ (x : Word). x.value) is ∙ same) (ap (λ (x : Word). x.holder) is)

  all : (subject : Subject) → IsHeld (word_on s kind created subject) [] (value_in h subject) (holder_in h subject)
  all the_size = of_word (word_on s kind created the_size) h.size 0 size refl
  all the_mode = of_word (word_on s kind created the_mode) h.mode 0 mode refl
  all the_owner = of_word (word_on s kind created the_owner) h.owner 0 owner refl
  all the_group = of_word (word_on s kind created the_group) h.group 0 group refl
  all the_links = of_word (word_on s kind created the_links) h.links 1 links refl
  all the_time = of_word (word_on s kind created the_time) h.time created time refl
  all (the_page p) = free (word_on s kind created (the_page p)) (block_held h.pages.entries p) (page_holder h.pages.entries p) (ap (λ (x : Piece). block_by_shift p x.shift) (pages p)) (ap (λ (x : Piece). x.holder) (pages p))
  all (the_name q) = free (word_on s kind created (the_name q)) (name_at h.names.targets q) (name_holder h.names q) (names q) (holders q)
