-- A script has one transcript, and one list of hints.
use Rattle.std.proofs.Common.{◌≡◌, ◌⊎◌, Bool, true, false, cond, ◌+◌, inl, inr, ℕ, List, [], ◌∷◌, ◌++◌, length, Option, Some, None, refl, ap, sym, ◌∙◌, subst, arith}
use Rattle.std.specs.Prelude.{◌≤◌, bytes_eq}
use Rattle.std.specs.Option.{option_map}
use Rattle.nv_stream.specs.Lines.{line_limit}
use Rattle.nv_region.specs.Region.{Region, size}
use Rattle.nv_super.specs.declared.superblock.SuperFault.TheVariants as SuperFault
use Rattle.nv_super.specs.FaultText.{super_fault_name}
use Rattle.nv_line.specs.Request.{Request, Format, Time, Poke, Cut, Recover, Replay, ListNames, Stat, Read, Create, MakeDirectory, Write, SetSize, SetAttributes, Link, Unlink, RemoveDirectory, Rename, Clean, Upgrade, Tree, Free, Faults, Report, Peek, Stop}
use Rattle.nv_region.specs.declared.memory.Fuse.{Fuse}
use Rattle.nv_region.specs.declared.memory.Keep.{Keep}
use Rattle.nv_line.specs.Spelling.{Says}
use Rattle.nv_line.specs.Lines.{IsSkipped, IsBad}
use Rattle.nv_line.proofs.Grammar.{one_request, skipped_says}
use Rattle.nv_text.specs.Answers.{refused_line}
use Rattle.nv_report.specs.Last.{status_of}
use Rattle.nv_calls.proofs.OneOutcome.{alike_size}
use Rattle.nv_session.specs.Alike.{AlikeStates, SeemSame, handles_words}
use Rattle.nv_session.specs.Machine.{State, Step, writes}
use Rattle.nv_session.proofs.AlikeSteps.{step_itself, steps_alike}
use Rattle.nv_session.proofs.OneStep.{step_one, does_unarmed}
use Rattle.nv_script.specs.Hints.{Hinted, answer_hint, length_hint}
use Rattle.nv_script.specs.Script.{CallsToWrite, HandlesNoWords, HandlesWordsFirst, Runs, SetsNoStop, Shows}

-- regions that seem the same are as long
seen_length : (region other : Option Region) → SeemSame region other → option_map size region ≡ option_map size other
seen_length None None seem = refl
seen_length None (Some S) seem = absurd seem
seen_length (Some R) None seem = absurd seem
seen_length (Some R) (Some S) (inl same) = ap (λ (Q : Region). Some (size Q)) same
seen_length (Some R) (Some S) (inr alike) = ap (λ (n : ℕ). Some n) (alike_size R S alike)

-- a file call that writes handles no words
no_words : (request : Request) → writes request ≡ true → handles_words request ≡ false
no_words (Create cpu path) is = refl
no_words (MakeDirectory cpu path) is = refl
no_words (Write cpu path offset count byte) is = refl
no_words (SetSize cpu path bytes) is = refl
no_words (SetAttributes cpu path mode owner group) is = refl
no_words (Link cpu path other) is = refl
no_words (Unlink cpu path) is = refl
no_words (RemoveDirectory cpu path) is = refl
no_words (Rename cpu path other) is = refl
no_words (Clean path) is = refl
no_words Upgrade is = refl
no_words (Format cpus blocks tables) is = absurd (cc)
no_words (Time time) is = absurd (cc)
no_words (Poke at value) is = absurd (cc)
no_words (Cut length) is = absurd (cc)
no_words (Recover workers) is = absurd (cc)
no_words (Replay workers schedule) is = absurd (cc)
no_words (ListNames path) is = absurd (cc)
no_words (Stat path) is = absurd (cc)
no_words (Read path offset count) is = absurd (cc)
no_words Tree is = absurd (cc)
no_words Free is = absurd (cc)
no_words Faults is = absurd (cc)
no_words Report is = absurd (cc)
no_words (Peek at) is = absurd (cc)
no_words (Stop fuse keep) is = absurd (cc)

-- what a line's command prints and leaves, of one state
runs_one : (line : List ℕ) (old m n : State) (s t : List ℕ) → old.armed ≡ false → (p : Runs line old s m) → Runs line old t n → writes p.0 ≡ false → (s ≡ t) × (m ≡ n)
runs_one line old m n s t unarmed p q reads =
    let same : q.0 ≡ p.0 = one_request line q.0 p.0 q.1 p.1 in
    step_one old p.0 unarmed reads s t m n p.2 (subst (λ (r : Request). Step old r t n) same q.2)

-- and of states that are alike
runs_alike : (line : List ℕ) (old other m n : State) (s t : List ℕ) → AlikeStates old other → old.armed ≡ false → (p : Runs line old s m) → Runs line other t n → handles_words p.0 ≡ false → (s ≡ t) × AlikeStates m n
runs_alike line old other m n s t states unarmed p q words =
    let same : q.0 ≡ p.0 = one_request line q.0 p.0 q.1 p.1 in
    steps_alike old other m n p.0 s t states unarmed words p.2 (subst (λ (r : Request). Step other r t n) same q.2)

runs_itself : (line : List ℕ) (old m : State) (s : List ℕ) → AlikeStates old old → old.armed ≡ false → Runs line old s m → AlikeStates m m
runs_itself line old m s states unarmed p = step_itself old m p.0 s states unarmed p.2

-- a line that sets no stop arms nothing
runs_unarmed : (line : List ℕ) (old m : State) (s : List ℕ) → ((fuse : Fuse) (keep : Keep) → Says line (Stop fuse keep) → ⊥) → Runs line old s m → m.armed ≡ false
runs_unarmed line old m s none p = does_unarmed old.armed p.0 (λ fuse keep is. none fuse keep (subst (λ (r : Request). Says line r) is p.1)) (record old { armed = false }) m s p.2

-- a bad line isn't skipped
bad_skipped : (line : List ℕ) → length line ≤ line_limit → IsSkipped line → IsBad line → ⊥
bad_skipped line short skipped (inl long) = absurd (omega (arith, short, long))
bad_skipped line short skipped (inr neither) = neither.0 skipped

-- and says nothing
bad_says : (line : List ℕ) (request : Request) → length line ≤ line_limit → Says line request → IsBad line → ⊥
bad_says line request short says (inl long) = absurd (omega (arith, short, long))
bad_says line request short says (inr neither) = neither.1 request says

-- ---- lines that handle no words, from states that are alike

pub shows_alike : (number : ℕ) (old other : State) (lines : List (List ℕ)) → SetsNoStop lines → HandlesNoWords lines → AlikeStates old other → old.armed ≡ false → (s t : List ℕ) (x y : ℕ) → Shows number old lines s x → Shows number other lines t y → (s ≡ t) × (x ≡ y)
shows_alike number old other [] none words states unarmed s t x y p q = (p.0 ∙ sym q.0, p.1 ∙ ap status_of states.last ∙ sym q.1)
shows_alike number old other (line ∷ lines) none words states unarmed s t x y (inl p) (inl q) = shows_alike (number + 1) old other lines none.1 words.1 states unarmed s t x y p.2 q.2
shows_alike number old other (line ∷ lines) none words states unarmed s t x y (inl p) (inr (inl q)) = absurd (skipped_says line q.4.0 p.1 q.4.1)
shows_alike number old other (line ∷ lines) none words states unarmed s t x y (inl p) (inr (inr q)) = absurd (bad_skipped line p.0 p.1 q.0)
shows_alike number old other (line ∷ lines) none words states unarmed s t x y (inr (inl p)) (inl q) = absurd (skipped_says line p.4.0 q.1 p.4.1)
shows_alike number old other (line ∷ lines) none words states unarmed s t x y (inr (inl p)) (inr (inl q)) =
    let one = runs_alike line old other p.3 q.3 p.1 q.1 states unarmed p.4 q.4 (words.0 p.4.0 p.4.1) in
    let rest = shows_alike (number + 1) p.3 q.3 lines none.1 words.1 one.1 (runs_unarmed line old p.3 p.1 none.0 p.4) p.2 q.2 x y p.5 q.5 in
    (p.6 ∙ (λ i. one.0 i ++ rest.0 i) ∙ sym q.6, rest.1)
shows_alike number old other (line ∷ lines) none words states unarmed s t x y (inr (inl p)) (inr (inr q)) = absurd (bad_says line p.4.0 p.0 p.4.1 q.0)
shows_alike number old other (line ∷ lines) none words states unarmed s t x y (inr (inr p)) (inl q) = absurd (bad_skipped line q.0 q.1 p.0)
shows_alike number old other (line ∷ lines) none words states unarmed s t x y (inr (inr p)) (inr (inl q)) = absurd (bad_says line q.4.0 q.0 q.4.1 p.0)
shows_alike number old other (line ∷ lines) none words states unarmed s t x y (inr (inr p)) (inr (inr q)) = (p.1 ∙ sym q.1, p.2 ∙ sym q.2)

-- what stands behind an answer, of states that are alike
hint_alike : (m n : State) (s t : List ℕ) → s ≡ t → AlikeStates m n → answer_hint s m ≡ answer_hint t n
hint_alike m n s t same states = λ i. cond (bytes_eq (same i) (refused_line (super_fault_name SuperFault.Length))) (length_hint (seen_length m.region n.region states.region i)) []

pub hinted_alike : (number : ℕ) (old other : State) (lines : List (List ℕ)) → SetsNoStop lines → HandlesNoWords lines → AlikeStates old other → old.armed ≡ false → (s t : List ℕ) → Hinted number old lines s → Hinted number other lines t → s ≡ t
hinted_alike number old other [] none words states unarmed s t p q = p ∙ sym q
hinted_alike number old other (line ∷ lines) none words states unarmed s t (inl p) (inl q) = hinted_alike (number + 1) old other lines none.1 words.1 states unarmed s t p.2 q.2
hinted_alike number old other (line ∷ lines) none words states unarmed s t (inl p) (inr (inl q)) = absurd (skipped_says line q.4.0 p.1 q.4.1)
hinted_alike number old other (line ∷ lines) none words states unarmed s t (inl p) (inr (inr q)) = absurd (bad_skipped line p.0 p.1 q.0)
hinted_alike number old other (line ∷ lines) none words states unarmed s t (inr (inl p)) (inl q) = absurd (skipped_says line p.4.0 q.1 p.4.1)
hinted_alike number old other (line ∷ lines) none words states unarmed s t (inr (inl p)) (inr (inl q)) =
    let one = runs_alike line old other p.3 q.3 p.1 q.1 states unarmed p.4 q.4 (words.0 p.4.0 p.4.1) in
    let rest = hinted_alike (number + 1) p.3 q.3 lines none.1 words.1 one.1 (runs_unarmed line old p.3 p.1 none.0 p.4) p.2 q.2 p.5 q.5 in
    let said = hint_alike p.3 q.3 p.1 q.1 one.0 one.1 in
    p.6 ∙ (λ i. said i ++ rest i) ∙ sym q.6
hinted_alike number old other (line ∷ lines) none words states unarmed s t (inr (inl p)) (inr (inr q)) = absurd (bad_says line p.4.0 p.0 p.4.1 q.0)
hinted_alike number old other (line ∷ lines) none words states unarmed s t (inr (inr p)) (inl q) = absurd (bad_skipped line q.0 q.1 p.0)
hinted_alike number old other (line ∷ lines) none words states unarmed s t (inr (inr p)) (inr (inl q)) = absurd (bad_says line q.4.0 q.0 q.4.1 p.0)
hinted_alike number old other (line ∷ lines) none words states unarmed s t (inr (inr p)) (inr (inr q)) = p.1 ∙ sym q.1

-- ---- one state, up to the first line that is a file call which writes

-- What a line's command prints and leaves of one state: one text and one state, or, where it is a file call that writes,
-- alike states.
runs_either : (line : List ℕ) (old m n : State) (s t : List ℕ) → AlikeStates old old → old.armed ≡ false → Runs line old s m → Runs line old t n → (s ≡ t) × ((m ≡ n) ⊎ (CallsToWrite line × AlikeStates m n))
runs_either line old m n s t states unarmed p q = by (writes p.0) refl where
  by : (b : Bool) → writes p.0 ≡ b → (s ≡ t) × ((m ≡ n) ⊎ (CallsToWrite line × AlikeStates m n))
  by true is = (let one = runs_alike line old old m n s t states unarmed p q (no_words p.0 is) in (one.0, inr ((p.0, p.1, is), one.1)))
  by false is = (let one = runs_one line old m n s t unarmed p q is in (one.0, inl one.1))

-- what a whole script prints, and its status
pub shows_one : (number : ℕ) (old : State) (lines : List (List ℕ)) → SetsNoStop lines → HandlesWordsFirst lines → AlikeStates old old → old.armed ≡ false → (s t : List ℕ) (x y : ℕ) → Shows number old lines s x → Shows number old lines t y → (s ≡ t) × (x ≡ y)
shows_one number old [] none words states unarmed s t x y p q = (p.0 ∙ sym q.0, p.1 ∙ sym q.1)
shows_one number old (line ∷ lines) none words states unarmed s t x y (inl p) (inl q) = shows_one (number + 1) old lines none.1 words.1 states unarmed s t x y p.2 q.2
shows_one number old (line ∷ lines) none words states unarmed s t x y (inl p) (inr (inl q)) = absurd (skipped_says line q.4.0 p.1 q.4.1)
shows_one number old (line ∷ lines) none words states unarmed s t x y (inl p) (inr (inr q)) = absurd (bad_skipped line p.0 p.1 q.0)
shows_one number old (line ∷ lines) none words states unarmed s t x y (inr (inl p)) (inl q) = absurd (skipped_says line p.4.0 q.1 p.4.1)
shows_one number old (line ∷ lines) none words states unarmed s t x y (inr (inl p)) (inr (inl q)) =
    let one = runs_either line old p.3 q.3 p.1 q.1 states unarmed p.4 q.4 in
    let then = runs_unarmed line old p.3 p.1 none.0 p.4 in
    let rest = by then one.1 (λ r. shows_one (number + 1) p.3 lines none.1 words.1 (runs_itself line old p.3 p.1 states unarmed p.4) then p.2 q.2 x y p.5 r) in
    (p.6 ∙ (λ i. one.0 i ++ rest.0 i) ∙ sym q.6, rest.1)
  where
    by : p.3.armed ≡ false → (p.3 ≡ q.3) ⊎ (CallsToWrite line × AlikeStates p.3 q.3) → (Shows (number + 1) p.3 lines q.2 y → (p.2 ≡ q.2) × (x ≡ y)) → (p.2 ≡ q.2) × (x ≡ y)
    by then (inl same) on = on (subst (λ (m : State). Shows (number + 1) m lines q.2 y) (sym same) q.5)
    by then (inr wrote) on = shows_alike (number + 1) p.3 q.3 lines none.1 (words.0 wrote.0) wrote.1 then p.2 q.2 x y p.5 q.5
shows_one number old (line ∷ lines) none words states unarmed s t x y (inr (inl p)) (inr (inr q)) = absurd (bad_says line p.4.0 p.0 p.4.1 q.0)
shows_one number old (line ∷ lines) none words states unarmed s t x y (inr (inr p)) (inl q) = absurd (bad_skipped line q.0 q.1 p.0)
shows_one number old (line ∷ lines) none words states unarmed s t x y (inr (inr p)) (inr (inl q)) = absurd (bad_says line q.4.0 q.0 q.4.1 p.0)
shows_one number old (line ∷ lines) none words states unarmed s t x y (inr (inr p)) (inr (inr q)) = (p.1 ∙ sym q.1, p.2 ∙ sym q.2)

-- the hints behind its lines
pub hinted_one : (number : ℕ) (old : State) (lines : List (List ℕ)) → SetsNoStop lines → HandlesWordsFirst lines → AlikeStates old old → old.armed ≡ false → (s t : List ℕ) → Hinted number old lines s → Hinted number old lines t → s ≡ t
hinted_one number old [] none words states unarmed s t p q = p ∙ sym q
hinted_one number old (line ∷ lines) none words states unarmed s t (inl p) (inl q) = hinted_one (number + 1) old lines none.1 words.1 states unarmed s t p.2 q.2
hinted_one number old (line ∷ lines) none words states unarmed s t (inl p) (inr (inl q)) = absurd (skipped_says line q.4.0 p.1 q.4.1)
hinted_one number old (line ∷ lines) none words states unarmed s t (inl p) (inr (inr q)) = absurd (bad_skipped line p.0 p.1 q.0)
hinted_one number old (line ∷ lines) none words states unarmed s t (inr (inl p)) (inl q) = absurd (skipped_says line p.4.0 q.1 p.4.1)
hinted_one number old (line ∷ lines) none words states unarmed s t (inr (inl p)) (inr (inl q)) =
    let one = runs_either line old p.3 q.3 p.1 q.1 states unarmed p.4 q.4 in
    let then = runs_unarmed line old p.3 p.1 none.0 p.4 in
    let rest = by then one.0 one.1 (λ r. hinted_one (number + 1) p.3 lines none.1 words.1 (runs_itself line old p.3 p.1 states unarmed p.4) then p.2 q.2 p.5 r) in
    p.6 ∙ (λ i. rest.0 i ++ rest.1 i) ∙ sym q.6
  where
    by : p.3.armed ≡ false → p.1 ≡ q.1 → (p.3 ≡ q.3) ⊎ (CallsToWrite line × AlikeStates p.3 q.3) → (Hinted (number + 1) p.3 lines q.2 → p.2 ≡ q.2) → (answer_hint p.1 p.3 ≡ answer_hint q.1 q.3) × (p.2 ≡ q.2)
    by then said (inl same) on = ((λ i. answer_hint (said i) (same i)), on (subst (λ (m : State). Hinted (number + 1) m lines q.2) (sym same) q.5))
    by then said (inr wrote) on = (hint_alike p.3 q.3 p.1 q.1 said wrote.1, hinted_alike (number + 1) p.3 q.3 lines none.1 (words.0 wrote.0) wrote.1 then p.2 q.2 p.5 q.5)
hinted_one number old (line ∷ lines) none words states unarmed s t (inr (inl p)) (inr (inr q)) = absurd (bad_says line p.4.0 p.0 p.4.1 q.0)
hinted_one number old (line ∷ lines) none words states unarmed s t (inr (inr p)) (inl q) = absurd (bad_skipped line q.0 q.1 p.0)
hinted_one number old (line ∷ lines) none words states unarmed s t (inr (inr p)) (inr (inl q)) = absurd (bad_says line q.4.0 q.0 q.4.1 p.0)
hinted_one number old (line ∷ lines) none words states unarmed s t (inr (inr p)) (inr (inr q)) = p.1 ∙ sym q.1
