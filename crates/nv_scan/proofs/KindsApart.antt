-- A file has no names, and a directory no pages.
use Rattle.std.proofs.Common.{◌≡◌, ℕ, ◌*◌, Bool, true, false, cond, List, Option, Some, None, refl, nat_le}
use Rattle.nv_super.specs.declared.superblock.Super.{Super}
use Rattle.nv_super.specs.declared.kind.Kind.TheVariants.{File, Directory}
use Rattle.nv_entry.specs.declared.entry.Entry.{Entry}
use Rattle.nv_entry.specs.declared.entry.Entry.TheVariants.{NextPage, Write, Attr, Name, Links}
use Rattle.nv_entry.specs.Content.{is_good}
use Rattle.nv_logpage.specs.declared.found.Placed.{Placed}
use Rattle.nv_logpage.specs.Good.{good_entries}
use Rattle.nv_scan.specs.State.{block_in, name_in, says_block, says_name, block_of, named}
use Rattle.nv_scan.proofs.Blocks.{last_word-all, good_is_good}

no_name : (s : Super) (q : List ℕ) (at : ℕ) (e : Entry) (v : Option (ℕ × ℕ)) → is_good s File e ≡ true → name_in q at e ≡ Some v → v ≡ None
no_name s q at (Name e) v good h = absurd (cc)
no_name s q at NextPage v good h = absurd (cc)
no_name s q at (Write e) v good h = absurd (cc)
no_name s q at (Attr e) v good h = absurd (cc)
no_name s q at (Links e) v good h = absurd (cc)

pub file_names : (s : Super) (es : List Placed) (q : List ℕ) → named (good_entries s File es) q ≡ None
file_names s es q = last_word-all (says_name q) (λ (o : Option (ℕ × ℕ)). o ≡ None) None (good_entries s File es) refl
    (λ x v c h. no_name s q x.at x.entry v (good_is_good s File es x c) h)

cut_only : (t : Bool) (v : Option ℕ) → cond t (Some None) None ≡ Some v → v ≡ None
cut_only true v h = cc
cut_only false v h = absurd (cc)

no_page : (s : Super) (p : ℕ) (e : Entry) (v : Option ℕ) → is_good s Directory e ≡ true → block_in p e ≡ Some v → v ≡ None
no_page s p (Write e) v good h = absurd (cc)
no_page s p (Attr e) v good h = cut_only (nat_le e.size (p * 4096)) v h
no_page s p NextPage v good h = absurd (cc)
no_page s p (Name e) v good h = absurd (cc)
no_page s p (Links e) v good h = absurd (cc)

pub directory_pages : (s : Super) (es : List Placed) (p : ℕ) → block_of (good_entries s Directory es) p ≡ None
directory_pages s es p = last_word-all (says_block p) (λ (o : Option ℕ). o ≡ None) None (good_entries s Directory es) refl
    (λ x v c h. no_page s p x.entry v (good_is_good s Directory es x c) h)
