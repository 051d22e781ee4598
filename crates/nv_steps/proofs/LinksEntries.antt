-- A links entry behind a file's log: what it makes of a row.
use Rattle.std.proofs.Common.{◌≡◌, ℕ, ◌<◌, ◌≤◌, true, List, [], ◌∷◌, ◌++◌, refl, ap, sym, ◌∙◌, subst, None}
use Rattle.std.proofs.lemmas.List.Elements.{All-cons, All-nil}
use Rattle.nv_super.specs.declared.kind.Kind.{Kind}
use Rattle.nv_super.specs.declared.kind.Kind.TheVariants.{File}
use Rattle.nv_super.specs.Layout.{Layout, most_links}
use Rattle.nv_entry.specs.Content.{is_good}
use Rattle.nv_logpage.specs.declared.found.Placed.{Placed}
use Rattle.nv_scan.specs.State.{named, says_group, says_links, says_mode, says_name, says_owner, says_size, says_time}
use Rattle.nv_scan.specs.declared.numbers.Numbers.{Numbers}
use Rattle.nv_scan.specs.Rows.{AreNumbers}
use Rattle.nv_scan.proofs.Words.{good_entries-more, last_word-more}
use Rattle.nv_mounted.specs.Held.{Held, good_in}
use Rattle.nv_mounted.specs.Grows.{SameFile, grown}
use Rattle.nv_graph.specs.Step.{links_entry}
use Rattle.nv_graph.proofs.GoodEntries.{good_links}
use Rattle.nv_commit.specs.Pages.{SaysNoPage}
use Rattle.nv_commit.proofs.BlocksOf.{same_file}

module _ (l : Layout) (h : Held) (file : h.kind ≡ File) (at count time tail : ℕ) (fresh : List ℕ) (some : 0 < count) (few : count ≤ most_links) where
  abbrev x : Placed
  x = links_entry at count time

  abbrev new : Held
  new = grown h tail (x ∷ []) fresh

  grown_good : good_in l new ≡ good_in l h ++ x ∷ []
  grown_good = good_entries-more l.sup h.kind h.entries x (subst (λ (k : Kind). is_good l.sup k x.entry ≡ true) (sym file) (good_links l.sup at count time some few))

  -- the file's blocks stay
  pub links_file : SameFile l h new
  links_file = same_file l h tail (x ∷ []) fresh (All-cons SaysNoPage x [] (λ p. refl) (All-nil SaysNoPage))

  -- the count and the time are those of the entry
  pub links_numbers : (old now : Numbers) → AreNumbers h.created (good_in l h) old → now ≡ record old { links = count; time = time } → AreNumbers h.created (good_in l new) now
  links_numbers old now are is = subst (λ (es : List Placed). AreNumbers h.created es now) (sym grown_good) (subst (λ (m : Numbers). AreNumbers h.created (good_in l h ++ x ∷ []) m) (sym is) (record {
    size = are.size ∙ sym (last_word-more says_size 0 (good_in l h) x);
    mode = are.mode ∙ sym (last_word-more says_mode 0 (good_in l h) x);
    owner = are.owner ∙ sym (last_word-more says_owner 0 (good_in l h) x);
    group = are.group ∙ sym (last_word-more says_group 0 (good_in l h) x);
    links = sym (last_word-more says_links 1 (good_in l h) x);
    time = sym (last_word-more says_time h.created (good_in l h) x);
  }))

  -- the names are as before
  pub links_names : (q : List ℕ) → named (good_in l new) q ≡ named (good_in l h) q
  links_names q = ap (λ (es : List Placed). named es q) grown_good ∙ last_word-more (says_name q) None (good_in l h) x
