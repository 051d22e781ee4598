-- What a call leaves is decided: the blocks that it takes are.
use Rattle.std.proofs.Common.{◌≡◌, inl, inr, ℕ, suc, true, false, List, [], ◌∷◌, ◌++◌, length, get_or, remove, ap, sym, ◌∙◌, subst, arith, refl, Option, Some, None, is_some}
use Rattle.std.specs.Prelude.{⊤}
use Rattle.std.proofs.Math.Logic.{∥∥₁_elim, ∥∥₁_map, ∥∥₁_prop}
use Rattle.nv_region.specs.Region.{Region}
use Rattle.nv_super.specs.declared.owners.Run.{Run}
use Rattle.nv_super.specs.declared.kind.Kind.{Kind}
use Rattle.nv_super.specs.Layout.{Layout}
use Rattle.nv_alloc.specs.Taking.{TakesSingly}
use Rattle.nv_alloc.proofs.Singly.{single_takes_are_one, singly_cut, takes_once}
use Rattle.nv_entry.specs.declared.entry.Entry.{Entry}
use Rattle.nv_mounted.specs.Held.{Held, Store}
use Rattle.nv_mounted.specs.Mounted.{ShowsSound}
use Rattle.nv_commit.specs.Extends.{with_log}
use Rattle.nv_tree.specs.Tree.{Node}
use Rattle.nv_steps.specs.Across.{with_three_logs, with_two_gone}
use Rattle.nv_steps.specs.declared.planning.Plan.{Plan}
use Rattle.nv_steps.specs.NameEntries.{with_gone, with_named}
use Rattle.nv_steps.specs.Sizes.{copied_to, resizing, sized}
use Rattle.nv_steps.specs.Writes.{data_blocks, data_entries}
use Rattle.nv_inode.specs.Growing.{with_block}
use Rattle.nv_calls.specs.Decided.{IsDecided, IsDecidedBy, ShowSame}
use Rattle.nv_calls.specs.Growing.{GivesSlot}
use Rattle.nv_calls.specs.GrownLogs.{LogGrew, ShowsGrownLog}
use Rattle.nv_calls.specs.LinkCalls.{BothGrew, ShowsBothGrew}
use Rattle.nv_calls.specs.Mount.{Mount}
use Rattle.nv_calls.specs.NameCalls.{ShowsCreated, WasCreated}
use Rattle.nv_calls.specs.RemoveCalls.{ShowsRemoved, WasRemoved}
use Rattle.nv_calls.specs.ReplaceLogs.{BothLess, ShowsBothLess, ShowsThreeGrew, ThreeGrew}
use Rattle.nv_calls.specs.SizeCall.{LogResized, ShowsResizedLog}
use Rattle.nv_calls.specs.WriteCall.{LogsWrite, ShowsLogWrite}

-- both show the same
abbrev Same : Layout → Region → Region → Type 0
Same l S T = (held : Store) × ShowsSound S l held × ShowsSound T l held

-- what holds of two regions by what is known of them
by_both : (l : Layout) (S T : Region) {A B : Type 0} → ∥ A ∥₁ → ∥ B ∥₁ → (A → B → Same l S T) → ShowSame l S T
by_both l S T first second same = ∥∥₁_elim first ∥∥₁_prop (λ a. ∥∥₁_map second (λ b. same a b))

-- ---- one log

grew_same : {S T : Region} {l : Layout} {pools : List (List Run)} {cpu : ℕ} {held : Store} {i : ℕ} {h : Held} {entries : List Entry} → LogGrew S l pools cpu held i h entries → LogGrew T l pools cpu held i h entries → Same l S T
grew_same {S} {T} {l} {pools} {cpu} {held} {i} {h} {entries} a b =
    let one = single_takes_are_one pools cpu a.fresh b.fresh a.rest b.rest (a.count ∙ sym b.count) a.taken b.taken in
    (with_log held i h entries a.fresh, a.sound, subst (λ (blocks : List ℕ). ShowsSound T l (with_log held i h entries blocks)) (sym one.0) b.sound)

pub grown_decided : (l : Layout) (pools : List (List Run)) (cpu : ℕ) (held : Store) (i : ℕ) (h : Held) (entries : List Entry) → IsDecided l (λ S. ShowsGrownLog S l pools cpu held i h entries)
grown_decided l pools cpu held i h entries S T first second = by_both l S T first second (λ a b. grew_same a b)

-- ---- two logs

both_same : {S T : Region} {l : Layout} {pools : List (List Run)} {cpu : ℕ} {held : Store} {i : ℕ} {h : Held} {entries : List Entry} {j : ℕ} {g : Held} {others : List Entry}
    → BothGrew S l pools cpu held i h entries j g others → BothGrew T l pools cpu held i h entries j g others → Same l S T
both_same {S} {T} {l} {pools} {cpu} {held} {i} {h} {entries} {j} {g} {others} a b =
    let c = singly_cut pools cpu a.fresh a.more a.rest a.taken in
    let d = singly_cut pools cpu b.fresh b.more b.rest b.taken in
    let one = single_takes_are_one pools cpu a.fresh b.fresh c.0 d.0 (a.count ∙ sym b.count) c.1 d.1 in
    let two = single_takes_are_one c.0 cpu a.more b.more a.rest b.rest (a.more_count ∙ sym b.more_count) c.2 (subst (λ (ps : List (List Run)). TakesSingly ps cpu b.more b.rest) (sym one.1) d.2) in
    let first = subst (λ (blocks : List ℕ). ShowsSound T l (with_log (with_log held i h entries b.fresh) j g others blocks)) (sym two.0) b.sound in
    (with_log (with_log held i h entries a.fresh) j g others a.more, a.sound, subst (λ (blocks : List ℕ). ShowsSound T l (with_log (with_log held i h entries blocks) j g others a.more)) (sym one.0) first)

pub both_decided : (l : Layout) (pools : List (List Run)) (cpu : ℕ) (held : Store) (i : ℕ) (h : Held) (entries : List Entry) (j : ℕ) (g : Held) (others : List Entry) → IsDecided l (λ S. ShowsBothGrew S l pools cpu held i h entries j g others)
both_decided l pools cpu held i h entries j g others S T first second = by_both l S T first second (λ a b. both_same a b)

-- ---- a new inode

created_same : {S T : Region} {l : Layout} {pools : List (List Run)} {cpu : ℕ} {held : Store} {kind : Kind} {mode time j d : ℕ} {h : Held} {name : List ℕ}
    → WasCreated S l pools cpu held kind mode time j d h name → WasCreated T l pools cpu held kind mode time j d h name → Same l S T
created_same {S} {T} {l} {pools} {cpu} {held} {kind} {mode} {time} {j} {d} {h} {name} a b =
    let count : length a.fresh ≡ length b.fresh = a.count ∙ sym b.count in
    let one = single_takes_are_one pools cpu (a.page ∷ a.fresh) (b.page ∷ b.fresh) a.rest b.rest (ap suc count) a.taken b.taken in
    (with_named held kind mode time j d h name a.page a.fresh, a.sound, subst (λ (blocks : List ℕ). ShowsSound T l (with_named held kind mode time j d h name (get_or blocks 0 0) (remove blocks 0))) (sym one.0) b.sound)

-- the tables and pools are decided too
abbrev AreGiven : Layout → List (List Run) → ℕ → ℕ → Layout × List (List Run) → Type 0
AreGiven l pools cpu j x = GivesSlot l pools cpu j x.0 x.1

given_once : (l : Layout) (pools : List (List Run)) (cpu j : ℕ) (x y : Layout × List (List Run)) → AreGiven l pools cpu j x → AreGiven l pools cpu j y → y ≡ x
given_once l pools cpu j x y (inl a) (inl b) = λ i. ((b.1 ∙ sym a.1) i, (b.2 ∙ sym a.2) i)
given_once l pools cpu j x y (inl a) (inr b) = absurd (let clash : false ≡ true = sym (ap (λ (o : Option ℕ). is_some o) b.0) ∙ a.0 in cc)
given_once l pools cpu j x y (inr a) (inl b) = absurd (let clash : false ≡ true = sym (ap (λ (o : Option ℕ). is_some o) a.0) ∙ b.0 in cc)
given_once l pools cpu j x y (inr a) (inr b) =
    let v = a.1 in
    let w = b.1 in
    let one = single_takes_are_one pools cpu (w.0 ∷ []) (v.0 ∷ []) y.1 x.1 refl w.2 v.2 in
    let block : w.0 ≡ v.0 = ap (λ (xs : List ℕ). get_or xs 0 0) one.0 in
    λ i. ((w.1 ∙ ap (with_block l cpu) block ∙ sym v.1) i, one.1 i)

pub created_decided : (l : Layout) (pools : List (List Run)) (cpu : ℕ) (held : Store) (kind : Kind) (mode time j d : ℕ) (h : Held) (name : List ℕ)
    → IsDecidedBy (λ grown. (rest : List (List Run)) × GivesSlot l pools cpu j grown rest) (λ S. ShowsCreated S l pools cpu held kind mode time j d h name)
created_decided l pools cpu held kind mode time j d h name S T first second = ∥∥₁_elim first ∥∥₁_prop (λ a. ∥∥₁_map second (λ b.
    let same = given_once l pools cpu j (a.0, a.1) (b.0, b.1) a.2 b.2 in
    let there = subst (λ (x : Layout × List (List Run)). WasCreated T x.0 x.1 cpu held kind mode time j d h name) same b.3 in
    (a.0, (a.1, a.2), ∣ created_same a.3 there ∣₁)))

-- ---- an inode less

removed_same : {S T : Region} {l : Layout} {pools : List (List Run)} {cpu : ℕ} {held : Store} {d : ℕ} {h : Held} {entries : List Entry} {i : ℕ} → WasRemoved S l pools cpu held d h entries i → WasRemoved T l pools cpu held d h entries i → Same l S T
removed_same {S} {T} {l} {pools} {cpu} {held} {d} {h} {entries} {i} a b =
    let one = single_takes_are_one pools cpu a.fresh b.fresh a.rest b.rest (a.count ∙ sym b.count) a.taken b.taken in
    (with_gone held d h entries a.fresh i, a.sound, subst (λ (blocks : List ℕ). ShowsSound T l (with_gone held d h entries blocks i)) (sym one.0) b.sound)

pub removed_decided : (l : Layout) (pools : List (List Run)) (cpu : ℕ) (held : Store) (d : ℕ) (h : Held) (entries : List Entry) (i : ℕ) → IsDecided l (λ S. ShowsRemoved S l pools cpu held d h entries i)
removed_decided l pools cpu held d h entries i S T first second = by_both l S T first second (λ a b. removed_same a b)

-- ---- two logs and an inode less, and three logs

less_same : {S T : Region} {l : Layout} {pools : List (List Run)} {cpu : ℕ} {held : Store} {i : ℕ} {h : Held} {entries : List Entry} {e : ℕ} {g : Held} {others : List Entry} {j : ℕ}
    → BothLess S l pools cpu held i h entries e g others j → BothLess T l pools cpu held i h entries e g others j → Same l S T
less_same {S} {T} {l} {pools} {cpu} {held} {i} {h} {entries} {e} {g} {others} {j} a b =
    let c = singly_cut pools cpu a.fresh a.more a.rest a.taken in
    let d = singly_cut pools cpu b.fresh b.more b.rest b.taken in
    let one = single_takes_are_one pools cpu a.fresh b.fresh c.0 d.0 (a.count ∙ sym b.count) c.1 d.1 in
    let two = single_takes_are_one c.0 cpu a.more b.more a.rest b.rest (a.more_count ∙ sym b.more_count) c.2 (subst (λ (ps : List (List Run)). TakesSingly ps cpu b.more b.rest) (sym one.1) d.2) in
    let first = subst (λ (blocks : List ℕ). ShowsSound T l (with_two_gone held i h entries b.fresh e g others blocks j)) (sym two.0) b.sound in
    (with_two_gone held i h entries a.fresh e g others a.more j, a.sound, subst (λ (blocks : List ℕ). ShowsSound T l (with_two_gone held i h entries blocks e g others a.more j)) (sym one.0) first)

pub less_decided : (l : Layout) (pools : List (List Run)) (cpu : ℕ) (held : Store) (i : ℕ) (h : Held) (entries : List Entry) (e : ℕ) (g : Held) (others : List Entry) (j : ℕ) → IsDecided l (λ S. ShowsBothLess S l pools cpu held i h entries e g others j)
less_decided l pools cpu held i h entries e g others j S T first second = by_both l S T first second (λ a b. less_same a b)

three_same : {S T : Region} {l : Layout} {pools : List (List Run)} {cpu : ℕ} {held : Store} {i : ℕ} {h : Held} {entries : List Entry} {e : ℕ} {g : Held} {others : List Entry} {j : ℕ} {f : Held} {lasts : List Entry}
    → ThreeGrew S l pools cpu held i h entries e g others j f lasts → ThreeGrew T l pools cpu held i h entries e g others j f lasts → Same l S T
three_same {S} {T} {l} {pools} {cpu} {held} {i} {h} {entries} {e} {g} {others} {j} {f} {lasts} a b =
    let c = singly_cut pools cpu (a.fresh ++ a.more) a.last a.rest a.taken in
    let d = singly_cut pools cpu (b.fresh ++ b.more) b.last b.rest b.taken in
    let inner = singly_cut pools cpu a.fresh a.more c.0 c.1 in
    let inner_there = singly_cut pools cpu b.fresh b.more d.0 d.1 in
    let one = single_takes_are_one pools cpu a.fresh b.fresh inner.0 inner_there.0 (a.count ∙ sym b.count) inner.1 inner_there.1 in
    let two = single_takes_are_one inner.0 cpu a.more b.more c.0 d.0 (a.more_count ∙ sym b.more_count) inner.2 (subst (λ (ps : List (List Run)). TakesSingly ps cpu b.more d.0) (sym one.1) inner_there.2) in
    let three = single_takes_are_one c.0 cpu a.last b.last a.rest b.rest (a.last_count ∙ sym b.last_count) c.2 (subst (λ (ps : List (List Run)). TakesSingly ps cpu b.last b.rest) (sym two.1) d.2) in
    let blocks : (b.fresh, b.more, b.last) ≡ (a.fresh, a.more, a.last) = λ x. (sym one.0 x, sym two.0 x, sym three.0 x) in (
      with_three_logs held i h entries a.fresh e g others a.more j f lasts a.last,
      a.sound,
      subst (λ (w : List ℕ × List ℕ × List ℕ). ShowsSound T l (with_three_logs held i h entries w.0 e g others w.1 j f lasts w.2)) blocks b.sound,
    )

pub three_decided : (l : Layout) (pools : List (List Run)) (cpu : ℕ) (held : Store) (i : ℕ) (h : Held) (entries : List Entry) (e : ℕ) (g : Held) (others : List Entry) (j : ℕ) (f : Held) (lasts : List Entry) → IsDecided l (λ S. ShowsThreeGrew S l pools cpu held i h entries e g others j f lasts)
three_decided l pools cpu held i h entries e g others j f lasts S T first second = by_both l S T first second (λ a b. three_same a b)

-- ---- another size

-- a page is copied or not
as_many : (a b : Option ℕ) → is_some a ≡ is_some b → length (copied_to a) ≡ length (copied_to b)
as_many None None same = refl
as_many None (Some y) same = absurd (cc)
as_many (Some x) None same = absurd (cc)
as_many (Some x) (Some y) same = refl

same_copy : (a b : Option ℕ) → copied_to a ≡ copied_to b → a ≡ b
same_copy None None same = refl
same_copy None (Some y) same = absurd (let n = ap (λ (xs : List ℕ). length xs) same in omega (arith, n))
same_copy (Some x) None same = absurd (let n = ap (λ (xs : List ℕ). length xs) same in omega (arith, n))
same_copy (Some x) (Some y) same = ap (λ (xs : List ℕ). Some (get_or xs 0 0)) same

resized_same : {S T : Region} {l : Layout} {pools : List (List Run)} {cpu : ℕ} {held : Store} {i : ℕ} {h : Held} {node : Node} {size time : ℕ}
    → LogResized S l pools cpu held i h node size time → LogResized T l pools cpu held i h node size time → Same l S T
resized_same {S} {T} {l} {pools} {cpu} {held} {i} {h} {node} {size} {time} a b =
    let one = single_takes_are_one pools cpu (copied_to a.to) (copied_to b.to) a.between b.between (as_many a.to b.to (a.copied ∙ sym b.copied)) a.taken b.taken in
    let to = same_copy a.to b.to one.0 in
    let grew = subst (λ (ps : List (List Run)). LogGrew T l ps cpu held i h (resizing node.size (sized node size time) b.to)) (sym one.1) b.grew in
    grew_same a.grew (subst (λ (o : Option ℕ). LogGrew T l a.between cpu held i h (resizing node.size (sized node size time) o)) (sym to) grew)

pub resized_decided : (l : Layout) (pools : List (List Run)) (cpu : ℕ) (held : Store) (i : ℕ) (h : Held) (node : Node) (size time : ℕ) → IsDecided l (λ S. ShowsResizedLog S l pools cpu held i h node size time)
resized_decided l pools cpu held i h node size time S T first second = by_both l S T first second (λ a b. resized_same a b)

-- ---- new bytes

written_same : {P : Type 0} {S T : Region} {m : Mount P} {cpu : ℕ} {held : Store} {i : ℕ} {h : Held} {plan : Plan} → LogsWrite S m cpu held i h plan → LogsWrite T m cpu held i h plan → ShowSame m.layout S T
written_same {P} {S} {T} {m} {cpu} {held} {i} {h} {plan} a b =
    let one = takes_once m.free.pools cpu (data_blocks plan) a.runs b.runs a.rest b.rest a.taken b.taken in
    let grew = subst (λ (ps : List (List Run)). ShowsGrownLog T m.layout ps cpu held i h (data_entries plan b.runs)) (sym one.1) b.grew in
    grown_decided m.layout a.rest cpu held i h (data_entries plan a.runs) S T a.grew (subst (λ (runs : List Run). ShowsGrownLog T m.layout a.rest cpu held i h (data_entries plan runs)) (sym one.0) grew)

pub written_decided : (m : Mount ⊤) (cpu : ℕ) (held : Store) (i : ℕ) (h : Held) (plan : Plan) → IsDecided m.layout (λ S. ShowsLogWrite S m cpu held i h plan)
written_decided m cpu held i h plan S T first second = ∥∥₁_elim first ∥∥₁_prop (λ a. ∥∥₁_elim second ∥∥₁_prop (λ b. written_same {S = S} {T = T} {m = m} a b))
