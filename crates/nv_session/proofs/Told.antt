-- What a file call that reads answers, as its text.
use Rattle.std.proofs.Common.{◌≡◌, ◌≢◌, ◌⊎◌, inl, inr, ℕ, List, Some, None, Bool, true, is_some, refl}
use Rattle.nv_tree.specs.Path.{IsPath, Says}
use Rattle.nv_tree.specs.Tree.{Tree}
use Rattle.nv_tree.specs.Refusals.{Path, Tests, first_refusal, refusal_word, list_tests, stat_tests, read_tests, IsReadRefusedBy}
use Rattle.nv_tree.specs.declared.refusal.Refusal.{Refusal}
use Rattle.nv_tree.specs.declared.refusal.Refusal.TheVariants.{BadName, Memory}
use Rattle.nv_text.specs.Answers.{refused_line}
use Rattle.nv_text.specs.Report.{stat_line}
use Rattle.nv_text.specs.Names.{data_line}
use Rattle.nv_tree.specs.Stat.{IsStat}
use Rattle.nv_calls.specs.Listing.{ListsNamesIn}
use Rattle.nv_calls.specs.Reading.{IsRead}
use Rattle.nv_tree.specs.declared.stat.Stat.{Stat}
use Rattle.nv_session.specs.Machine.{list_lines, TellsRefusal, TellsNames, TellsStat, TellsBytes}

-- a refusal that isn't want of memory
pub refusal_told : (tests : Tests) (e : Refusal) (text : List ℕ) → e ≢ Memory → IsReadRefusedBy (first_refusal tests) e → text ≡ refused_line (refusal_word e) → TellsRefusal tests text
refusal_told tests e text other (inl want) said = absurd (other want.0)
refusal_told tests e text other (inr first) said = (e, first, said)

-- and says that it is one
pub refusal_is_some : (tests : Tests) (e : Refusal) (is_refused : Bool) → e ≢ Memory → IsReadRefusedBy (first_refusal tests) e → is_refused ≡ true → is_refused ≡ is_some (first_refusal tests)
refusal_is_some tests e is_refused other (inl want) told = absurd (other want.0)
refusal_is_some tests e is_refused other (inr first) told = rw (told, first) refl

module _ (t : Tree) (path : List ℕ) (text : List ℕ) where
  pub names_told : (lines : List (List ℕ × ℕ)) → ((names : List (List ℕ)) → IsPath path names → ListsNamesIn t names lines) → ((p : Path) → Says path p → first_refusal (list_tests t p) ≡ None)
      → text ≡ list_lines lines → (p : Path) → Says path p → TellsNames t p text
  names_told lines lists allowed said None says = absurd (let bad : Some BadName ≡ None = allowed None says in cc)
  names_told lines lists allowed said (Some names) says = inr (names, refl, allowed (Some names) says, lines, lists names says, said)

  pub stat_told : (s : Stat) → ((names : List (List ℕ)) → IsPath path names → IsStat t names s) → ((p : Path) → Says path p → first_refusal (stat_tests t p) ≡ None)
      → text ≡ stat_line s → (p : Path) → Says path p → TellsStat t p text
  stat_told s shows allowed said None says = absurd (let bad : Some BadName ≡ None = allowed None says in cc)
  stat_told s shows allowed said (Some names) says = inr (names, refl, allowed (Some names) says, s, shows names says, said)

  pub bytes_told : (offset count : ℕ) (bytes : List ℕ) → ((names : List (List ℕ)) → IsPath path names → IsRead t names offset count bytes) → ((p : Path) → Says path p → first_refusal (read_tests t p) ≡ None)
      → text ≡ data_line bytes → (p : Path) → Says path p → TellsBytes offset count t p text
  bytes_told offset count bytes reads allowed said None says = absurd (let bad : Some BadName ≡ None = allowed None says in cc)
  bytes_told offset count bytes reads allowed said (Some names) says = inr (names, refl, allowed (Some names) says, bytes, reads names says, said)
