-- What a word spells, by itself or between `<` and `>`.
use Rattle.std.proofs.Common.{rules, ◌≡◌, ◌∙◌, ◌+◌, ◌-◌, ◌<◌, inl, inr, ℕ, refl, sym, ap, subst, [], ◌∷◌, ◌++◌, length, take, drop, Option, Some, None, IfSome, IsNone, option_map, Bor}
use Rattle.std.proofs.lemmas.List.{append_cancel_left, append_cancel_right}
use Rattle.std.proofs.lemmas.Bool.{true≢false}
use Rattle.std.specs.Option.{MatchOption}
use Rattle.std.specs.Str.Pattern.{FindsCharPrefix, FindsCharSuffix}
use Rattle.std.proofs.lemmas.Str.Pattern.{strip_prefix_char, strip_suffix_char}
use Rattle.clap.specs.Walk.{Text}
use Rattle.nv_args.specs.Words.{IsBetween, IsNumber, SpellsNumber}

-- what strips a character from the front leaves of a text, and from the end
abbrev IsBehind : ℕ → Text → Text → Type 0
IsBehind c word rest = (n : ℕ) × FindsCharPrefix c word (Some n) × (rest ≡ drop n word) × (length rest + n ≡ length word)

abbrev pub IsBefore : ℕ → Text → Text → Type 0
IsBefore c word rest = (n : ℕ) × FindsCharSuffix c word (Some n) × (rest ≡ take (length word - n) word) × (length rest + n ≡ length word)

abbrev pub Strips : ℕ → Text → Option (Bor Text) → Type 0
Strips c word r = MatchOption r (FindsCharSuffix c word None) (λ x. IsBefore c word x.now)

ascii-60 : 60 < 128
ascii-60 = search rules

ascii-62 : 62 < 128
ascii-62 = search rules

pub none_before : (word : Text) → FindsCharPrefix 60 word None → (inside : Text) → ¬ IsBetween word inside
none_before word finds inside is = strip_prefix_char 60 word None finds ascii-60 (inside ++ 62 ∷ []) is

pub some_between : (word : Text) (rest : Bor Text) (r : Option (Bor Text)) → IsBehind 60 word rest.now → Strips 62 rest.now r
    → IfSome r (λ inside. IsBetween word inside.now)
some_between word rest (Some inside) behind strips =
    strip_prefix_char 60 word (Some rest) behind ascii-60 ∙ ap (λ l. 60 ∷ l) (strip_suffix_char 62 rest.now (Some inside) strips ascii-62)
some_between word rest None behind strips = tt

pub none_behind : (word : Text) (rest : Bor Text) (r : Option (Bor Text)) → IsBehind 60 word rest.now → Strips 62 rest.now r
    → IsNone r → (inside : Text) → ¬ IsBetween word inside
none_behind word rest (Some x) behind strips none inside is = absurd (true≢false none)
none_behind word rest None behind strips none inside is =
    let front = strip_prefix_char 60 word (Some rest) behind ascii-60 in
    strip_suffix_char 62 rest.now None strips ascii-62 inside (append_cancel_left (60 ∷ []) _ _ (sym front ∙ is))

-- a word that spells no number by itself spells the one between its ends
pub no_other : (word : Text) (r : Option (Bor Text)) → ((number : ℕ) → ¬ IsNumber (Some word) number) → IfSome r (λ inside. IsBetween word inside.now)
    → (IsNone r → (inside : Text) → ¬ IsBetween word inside) → ((number : ℕ) → ¬ IsNumber (option_map (λ text. text.now) r) number)
    → (number : ℕ) → ¬ SpellsNumber word number
no_other word r bare some none inner number (inl is) = bare number is
no_other word None bare some none inner number (inr is) = none refl is.0 is.1
no_other word (Some x) bare some none inner number (inr is) =
    let same = append_cancel_right _ _ (62 ∷ []) (append_cancel_left (60 ∷ []) _ _ (sym is.1 ∙ some)) in
    inner number (subst (λ inside. IsNumber (Some inside) number) same is.2)
