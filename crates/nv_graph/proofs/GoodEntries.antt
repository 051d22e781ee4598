-- What good entries say is in range: a link count is small, and a name is good.
use Rattle.std.proofs.Common.{◌≡◌, ℕ, ◌<◌, ◌≤◌, true, nat_eq, nat_lt, Option, Some, None, List, sym, subst, arith}
use Rattle.std.specs.Prelude.{◌||◌, ◌==◌}
use Rattle.std.specs.Cmp.Lexicographic.{pointwise, bytes_decides}
use Rattle.std.proofs.lemmas.Bool.{or_parts, or_from, ltb-false, le-ltb, ne_eqb, not_from_false}
use Rattle.std.proofs.lemmas.Option.{none-some, same_Some, cond_some}
use Rattle.nv_region.specs.Region.{Region}
use Rattle.nv_super.specs.declared.superblock.Super.{Super}
use Rattle.nv_super.specs.declared.kind.Kind.{Kind}
use Rattle.nv_super.specs.declared.kind.Kind.TheVariants.{File, Directory}
use Rattle.nv_super.specs.Layout.{Layout, most_links}
use Rattle.nv_entry.specs.Content.{is_good}
use Rattle.nv_entry.specs.declared.entry.Entry.{Entry}
use Rattle.nv_entry.specs.declared.entry.Entry.TheVariants as entries
use Rattle.nv_entry.specs.declared.entry.NameEntry.{NameEntry}
use Rattle.nv_entry.specs.declared.entry.Operation.{Operation}
use Rattle.nv_entry.specs.declared.entry.Operation.TheVariants.{Add, Remove}
use Rattle.nv_logpage.specs.declared.found.Placed.{Placed}
use Rattle.nv_logpage.specs.Good.{good_entries}
use Rattle.nv_scan.specs.State.{named_by, name_in, links_in, links_of, says_name, says_links}
use Rattle.nv_scan.proofs.Blocks.{last_word-all, good_is_good, in_range}
use Rattle.nv_outcome.specs.Outcome.{HasName}
use Rattle.nv_graph.specs.Step.{name_entry, links_entry, IsGoodName}

-- ---- links

few_links : (s : Super) (k : Kind) (e : Entry) (v : ℕ) → is_good s k e ≡ true → links_in e ≡ Some v → v ≤ most_links
few_links s k (entries.Links e) v good h =
    let small = ltb-false most_links e.count (or_parts (e.count == 0) (nat_lt most_links e.count) (in_range s k (entries.Links e) good)).1 in
    subst (λ (m : ℕ). m ≤ most_links) (same_Some e.count v h) small
few_links s k entries.NextPage v good h = absurd (none-some v h)
few_links s k (entries.Write e) v good h = absurd (none-some v h)
few_links s k (entries.Attr e) v good h = absurd (none-some v h)
few_links s k (entries.Name e) v good h = absurd (none-some v h)

-- a link count is small
pub links_small : (s : Super) (k : Kind) (es : List Placed) → links_of (good_entries s k es) ≤ most_links
links_small s k es = last_word-all says_links (λ (v : ℕ). v ≤ most_links) 1 (good_entries s k es) (omega arith) (λ x v c h. few_links s k x.entry v (good_is_good s k es x c) h)

pub good_links : (s : Super) (at count time : ℕ) → 0 < count → count ≤ most_links → is_good s File (links_entry at count time).entry ≡ true
good_links s at count time some few =
    not_from_false (count == 0 || nat_lt most_links count) (or_from (count == 0) (nat_lt most_links count) (ne_eqb count 0 (λ e. omega (arith, some, e))) (le-ltb most_links count few))

-- ---- names

pub good_name : (s : Super) (at : ℕ) (operation : Operation) (i : ℕ) (name : List ℕ) (time : ℕ) → IsGoodName s i name → is_good s Directory (name_entry at operation i name time).entry ≡ true
good_name s at operation i name time good = not_from_false _ good

-- a good name, where what is said is one
IsGoodTarget : Super → List ℕ → Option (ℕ × ℕ) → Type 0
IsGoodTarget s q o = (i at : ℕ) → o ≡ Some (i, at) → IsGoodName s i q

added : (s : Super) (q : List ℕ) (at : ℕ) (e : NameEntry) (operation : Operation) → IsGoodName s e.inode q → IsGoodTarget s q (named_by at e.inode operation)
unfolding IsGoodTarget
added s q at e Remove good = λ i p z. absurd (none-some (i, p) z)
added s q at e Add good = λ i p z. (let same = same_Some (e.inode, at) (i, p) z in subst (λ (x : ℕ × ℕ). IsGoodName s x.0 q) same good)

good_target : (s : Super) (k : Kind) (q : List ℕ) (at : ℕ) (e : Entry) (v : Option (ℕ × ℕ)) → is_good s k e ≡ true → name_in q at e ≡ Some v → IsGoodTarget s q v
good_target s k q at (entries.Name e) v good h =
    let w = cond_some (pointwise nat_eq q e.name) (named_by at e.inode e.operation) v h in
    let same = (bytes_decides q e.name).0 w.0 in
    subst (IsGoodTarget s q) w.1 (added s q at e e.operation (subst (IsGoodName s e.inode) (sym same) (in_range s k (entries.Name e) good)))
good_target s k q at entries.NextPage v good h = absurd (none-some v h)
good_target s k q at (entries.Write e) v good h = absurd (none-some v h)
good_target s k q at (entries.Attr e) v good h = absurd (none-some v h)
good_target s k q at (entries.Links e) v good h = absurd (none-some v h)

-- a name that a directory has is good
pub name_good : (R : Region) (l : Layout) (d : ℕ) (name : List ℕ) (i at : ℕ) → HasName R l d name i at → IsGoodName l.sup i name
unfolding IsGoodTarget
name_good R l d name i at h =
    last_word-all (says_name name) (IsGoodTarget l.sup name) None (good_entries l.sup h.1.kind h.1.entries)
    (λ i at z. absurd (none-some (i, at) z))
    (λ x v c says. good_target l.sup h.1.kind name x.at x.entry v (good_is_good l.sup h.1.kind h.1.entries x c) says) i at h.4
