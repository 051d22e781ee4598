-- `into_words` lends what was handed over for as long as the caller asks. Assumes `Logic`.
use Rattle.std.proofs.Common.{◌≡◌, ℕ, ◌∙◌, ◌<◌, ◌^◌, List, [], ◌∷◌, ◌++◌, refl, sym, ap, arith}
use mir.Syntax.{Fn, named}
use mir.Val.{Val}
use base.Logic.{SProp, emp, id⊢}
use base.Fml.{ftrue, flent}
use prog.Wp.{Env, WpFn}
use contract.Monad.{fact, fact_i}
use contract.Running.{tables}
use lib.ListN.{length}
use types.Kit.{‵, raw, ◌⊛◌, some, later, at_ret, prop, ◌$◌, ◌∵◌, !, qed, by, move, keep, drop, use0, use1, split, regoal, rewrite, fsplit, fjoin, fpick, pick, await}
use types.Part.{agg, whole, sub}
use types.Run.{no_more, and_then, of_opd, stop, fld, first, blocks, exec, returns, enter}
use types.ByLocal.{alloc_all, pass_all, free_all, look_at, get, get_in, sets, sets_last, env}
use denote.Builtin.{u64}
use denote.Lend.{lends_slice, Held}
use denote.RattleType.{owns}
use denote.RawPtr.{Ptr, block_ptr, in_a_block}
use denote.Signature.{types_at}
use denote.Slice.{MutSlice, slice_val}
use denote.Steps.{nothing}
use denote.Triple.Entry.{alive}
use denote.Triple.Walked.{Stays, stay_dropped, walk_of}
use Rattle.core.proofs.alloc.Calls.{Goes-blank}
use Rattle.std_alloc.proofs.VecSteps.Shapes.{after}
use Rattle.std.proofs.raw_atomic.Walks.{proved_at, leaves}
use Rattle.nova_c.specs.Image.{words_at}
use Rattle.nova_c.proofs.Values.{sized_val, sized_told}
use Rattle.nova_c.proofs.Walks.{slot_at}
use Rattle.nova_c.specs.contracts.image.NovaImage.into_words.{ended, clauses}
use Rattle.nova_c.specs.contracts.image.NovaImage.into_words.Key.{name as #self}
use Rattle.nova_c.proofs.image.NovaImage.into_words.Statement.{statement}
use Rattle.nova_c.proofs.image.NovaImage.into_words.Code as compiled

pub into_words_spec : {M : Type 1} → statement M
into_words_spec 𝓤 𝓛 𝓜 𝓡 wired =
    let H = 𝓛.H in
    let En₀ = ended in
    let c = clauses 𝓛 𝓜.mem 𝓡.returns in
    let fn : Fn = compiled.function in
    let stays : Stays En₀.signature.params En₀.kept = (stay_dropped (slot_at 0 En₀.signature.params) En₀.kept.0, tt) in
    let C = (tables 𝓤 H 𝓜 𝓡 𝓡.env).C in
    let Λ = (tables 𝓤 H 𝓜 𝓡 𝓡.env).Λ in
    proved_at 𝓛 En₀ stays c 𝓜 𝓡 (Goes-blank 𝓛 1 (slot_at 0 En₀.signature.params) En₀.kept.0 (λ κs x f. tt), tt) #self fn (compiled.unfolded 𝓤 H 𝓜 𝓡 wired) (λ z are.
    let Post : Val → SProp 𝓤 = (walk_of 𝓛 En₀ stays c).post z in
    let κ = z.0.0.0 in
    let x = z.0.3.0 in
    let n = x.count in
    let ws : List ℕ = x.words in
    let told = sized_told x.at n z.0.4.0 are.0.0 in
    let fits : n < 2 ^ 64 = told.1 in
    qed 𝓛 ((raw (alive 𝓛 En₀.signature z.0.0 z.0.1) ⊛ ‵ (owns (types_at En₀.signature.params z.0.0) z.0.3 z.0.4)) ∷ ‵ ftrue ∷ []) ∵ move ! (1 ∷ []) $ drop ! $ split ! $ move ! (1 ∷ []) $
    fsplit ! $ fsplit ! $ drop ! $
    -- [the words; nothing; the tokens]
    in_a_block ! x.at (λ p. words_at p n ws) (id⊢ 𝓤 _) (λ b o e. fpick ! (λ many. keep ! (0 ∷ 2 ∷ []) $
    regoal ! (λ (us : List Val). prop (WpFn 𝓤 H C Λ fn us Post)) ((λ i. told.0 i ++ []) ∙ ap (λ (p : Ptr). sized_val p n ∷ []) e) refl $
    enter ! C Λ fn (sized_val (block_ptr b o) n ∷ []) Post $
    alloc_all ! (λ l. pass_all ! refl ((tt, (tt, (record { fits = fits }, tt))), tt) $ let En : Env 𝓤 H = env fn.locals l in
    sets ! (of_opd ! (get_in ! (fld ! refl (stop !)) (sub ! 0 refl (whole !)))) refl (tt, tt) $
    sets ! (of_opd ! (get_in ! (fld ! refl (stop !)) (sub ! 1 refl (whole !)))) refl (tt, record { fits = fits }) $
    first ! $ blocks ! $ sets_last ! (agg ! (and_then ! (get ! refl) (and_then ! (get ! refl) (no_more !)))) refl (tt, (tt, (record { fits = fits }, tt))) $
    exec ! C Λ En (after 3 fn.body) (at_ret En Post) $
    use1 𝓛 (later (some (λ (γ : ℕ). ‵ ((MutSlice (named 0) κ u64).own_val (record { ref_ptr = (b, o); ghost_name = γ; now = ws }) (slice_val (b, o) (length ws) ∷ [])) ⊛ ‵ (flent κ (Held u64 (length ws) b o γ)))))
    (lends_slice 𝓛 u64 (named 0) κ ws b o ((let same = many.0 in omega (arith, same, fits)), many.1)) $ await ! tt $ pick ! (λ γ. split ! $
    rewrite ! 0 (λ (j : ℕ). ‵ ((MutSlice (named 0) κ u64).own_val (record { ref_ptr = (b, o); ghost_name = γ; now = ws }) (slice_val (b, o) j ∷ []))) (sym many.0) refl $
    sets ! (of_opd ! (get ! refl)) refl (tt, (tt, (record { fits = fits }, tt))) $
    returns ! (look_at ! 0 refl) $ free_all ! refl $ keep ! (0 ∷ 2 ∷ []) $
    use0 𝓛 (raw (fact 𝓤 (ws ≡ ws))) (fact_i 𝓤 (ws ≡ ws) (emp 𝓤) refl) $ nothing ! $ nothing ! $ fjoin ! $ move ! (3 ∷ 0 ∷ 2 ∷ 1 ∷ []) $
    by ! (leaves 𝓛 En₀ stays c z (slice_val (b, o) n) (record { ref_ptr = (b, o); ghost_name = γ; now = ws }) (tt, tt) (tt, tt)))))))
