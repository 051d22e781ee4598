-- What is gathered of a region has all of its metadata, and the same outcome.
use Rattle.std.proofs.Common.{◌≡◌, ℕ, ◌+◌, ◌*◌, ◌/◌, ◌%◌, ◌≤◌, ◌<◌, inl, inr, true, Some, refl, ap, sym, ◌∙◌, subst, arith}
use Rattle.std.proofs.lemmas.Bool.{true≢false}
use Rattle.std.proofs.lemmas.Bool.Decides.{nat_tests}
use Rattle.std.specs.List.{Contains}
use Rattle.std.proofs.lemmas.Option.{slice_get-get_or}
use Rattle.nv_region.specs.Region.{Region, size, word}
use Rattle.nv_super.specs.declared.superblock.Super.{Super}
use Rattle.nv_super.specs.declared.owners.Owner.TheVariants as owners
use Rattle.nv_super.specs.Layout.{Layout, IsLayout, fixed_layout, is_page_start, slot_of, system_blocks}
use Rattle.nv_super.specs.Super.{IsSuper}
use Rattle.nv_super.proofs.Accepted.{super_stays}
use Rattle.nv_inode.specs.Chains.{in_chains, layout_of}
use Rattle.nv_inode.specs.Slot.{is_right_log}
use Rattle.nv_inode.proofs.FixedLayout.{layout_fixed, none_in as no_chain_has}
use Rattle.nv_inode.proofs.LayoutWords.{chain_block, end_least}
use Rattle.nv_inode.proofs.ReadChains.{region_laid}
use Rattle.nv_journal.specs.Undo.{undone}
use Rattle.nv_journal.specs.Undone.{SameBefore}
use Rattle.nv_journal.proofs.High.{data_word}
use Rattle.nv_logpage.specs.ToTail.{SameToTail}
use Rattle.nv_scan.specs.Inode.{Log, IsInode, right, wrong}
use Rattle.nv_outcome.specs.Outcome.{Outcome, IsOutcome}
use Rattle.nv_outcome.specs.Metadata.{SameMetadata}
use Rattle.nv_outcome.proofs.Metadata.{end_two, from_S, metadata_alone, same_inodes, tables_there, to_R}
use Rattle.nv_outcome.proofs.SameInodes.{SameInodes}
use Rattle.nv_scan.specs.Owners.{by_log}
use Rattle.nv_scan.proofs.Only.{slot_in_use}
use Rattle.nv_scan.proofs.Owned.{owned_block}
use Rattle.nv_outcome.proofs.SuperOf.{layout_of_super, version_of_super}
use Rattle.nv_super.proofs.Members.{none_in}
use Rattle.nv_metadata.specs.Linked.{IsLinked, first, next, link_in}
use Rattle.nv_metadata.specs.Gathered.{IsGathered}
use Rattle.nv_metadata.proofs.Linked.{log_pages_linked}

right_head : (s : Super) (head tail : ℕ) → is_right_log s head tail ≡ true → head % 4096 ≡ 0
right_head s head tail h = grind (arith, nat_tests)

pub right_head_behind : (s : Super) (head tail : ℕ) → is_right_log s head tail ≡ true → system_blocks s ≤ head / 4096
right_head_behind s head tail h = grind (arith, nat_tests)

right_tail : (s : Super) (head tail : ℕ) → is_right_log s head tail ≡ true → tail % 4096 ≤ 4064
right_tail s head tail h = grind (arith, nat_tests)

pub start_behind : (s : Super) (a : ℕ) → is_page_start s a ≡ true → system_blocks s ≤ a / 4096
start_behind s a h = grind (arith, nat_tests)

-- a linked block is a data block
pub linked_behind : (R : Region) (s : Super) (head tail b : ℕ) → system_blocks s ≤ head / 4096 → IsLinked R s head tail b → system_blocks s ≤ b
linked_behind R s head tail _ low first = low
linked_behind R s head tail _ low (next {b} linked apart start) = start_behind s (link_in R b) start

-- links are words of data blocks, which stay where journals are rolled back
linked_before : (R : Region) (s : Super) → IsLayout s → s.version ≡ 1 → (head tail b : ℕ) → system_blocks s ≤ head / 4096 → IsLinked (undone s R) s head tail b → IsLinked R s head tail b
linked_before R s layout version head tail _ low first = first
linked_before R s layout version head tail _ low (next {b} linked apart start) =
    let behind = linked_behind (undone s R) s head tail b low linked in
    let same : link_in (undone s R) b ≡ link_in R b = data_word s R layout version (4096 * b + 4064) (omega arith) (omega (arith, behind)) in
    subst (λ (w : ℕ). IsLinked R s head tail (w / 4096)) (sym same) (next (linked_before R s layout version head tail b low linked) apart (ap (is_page_start s) (sym same) ∙ start))

module _ (s : Super) (R S : Region) (is : IsSuper R s) (g : IsGathered s R S) where
  layout : IsLayout s
  layout = layout_of_super R s is

  -- in version 1 the pages of a log are linked
  linked_page : s.version ≡ 1 → {i a : ℕ} {log : Log} → IsInode (undone s R) (fixed_layout s) i a log → (b : ℕ) → Contains log.pages b → SameToTail (word (undone s R) (a + 24)) R S b
  linked_page version {i} {a} {log} (right slot used ok read) b c =
      let head : ℕ = word (undone s R) (a + 16) in
      let tail : ℕ = word (undone s R) (a + 24) in
      let linked = log_pages_linked (undone s R) s head tail (right_tail s head tail ok) (right_head s head tail ok) read b c in
      g.logs head tail b (i, a, record { kind = log.kind; slot = slot; used = used; head_is = refl; tail_is = refl; right = ok }) (linked_before R s layout version head tail b (right_head_behind s head tail ok) linked)
  linked_page version (wrong slot used bad) b c = absurd (none_in b c)

  -- in version 2 all words are the same
  page : {i a : ℕ} {log : Log} → IsInode (undone s R) (layout_of s (undone s R)) i a log → (b : ℕ) → Contains log.pages b → SameToTail (word (undone s R) (a + 24)) R S b
  page {i} {a} {log} h b c at aligned here below = elim (version_of_super R s is) [
    | inl one ↦ linked_page one (subst (λ (l : Layout). IsInode (undone s R) l i a log) (layout_fixed s (undone s R) one) h) b c at aligned here below
    | inr two ↦ (
        let inside : b < s.blocks = (owned_block (undone s R) (layout_of s (undone s R)) b (owners.Log i c.0) (region_laid s (undone s R) layout) (by_log h (slice_get-get_or log.pages c.0 b c.1 ∙ ap Some c.2))).1 in
        let end = end_two s two in
        g.front at aligned (omega (arith, here, inside, end)))
  ]

  -- in front of the data blocks
  front_word : SameBefore (4096 * system_blocks s) R S
  front_word at aligned low = g.front at aligned (let end = end_least s layout in omega (arith, low, end))

  -- in a block of a chain
  chain_word : (at : ℕ) → at % 8 ≡ 0 → in_chains (layout_of s R).chains (at / 4096) ≡ true → word S at ≡ word R at
  chain_word at aligned marked = elim (version_of_super R s is) [
    | inl one ↦ absurd (true≢false (sym marked ∙ ap (λ (l : Layout). in_chains l.chains (at / 4096)) (layout_fixed s R one) ∙ no_chain_has s.cpus (at / 4096)))
    | inr two ↦ (
        let inside = (chain_block (layout_of s R) (at / 4096) (region_laid s R layout) marked).1 in
        let end = end_two s two in
        g.front at aligned (omega (arith, inside, end)))
  ]

  pub has_metadata : SameMetadata s R S
  has_metadata = record { as_long = g.as_long; rest_as_long = g.rest_as_long; front = front_word; chains = chain_word; pages = λ i a log b h c. page h b c }

  size_same : size S ≡ size R
  size_same = λ i. 8 * g.as_long i + g.rest_as_long i

  pub gathered_super : IsSuper S s
  gathered_super = super_stays R S size_same (λ at aligned low. front_word at aligned (omega (arith, low))) s is

  inodes : SameInodes (layout_of s R) (undone s R) (undone s S)
  inodes = same_inodes s R S is has_metadata

  tail_same : (i a : ℕ) → slot_of (layout_of s R) i ≡ Some a → word (undone s S) (a + 24) ≡ word (undone s R) (a + 24)
  tail_same i a slot = (inodes.slots i a slot).tail

  -- the other way round
  back : SameMetadata s S R
  back = record {
    as_long = sym g.as_long;
    rest_as_long = sym g.rest_as_long;
    front = λ at aligned low. sym (front_word at aligned low);
    chains = λ at aligned marked. sym (chain_word at aligned (ap (λ (l : Layout). in_chains l.chains (at / 4096)) (sym (tables_there s R S is has_metadata)) ∙ marked));
    pages = λ i a log b h c at aligned here before. (
        let there : IsInode (undone s S) (layout_of s R) i a log = from_S s R S is has_metadata (λ x. IsInode (undone s S) x i a log) h in
        let tail = tail_same i a (slot_in_use there) in
        sym (page (to_R s R S is has_metadata (λ x. IsInode (undone s R) x i a log) (inodes.back there)) b c at aligned here (λ in_tail. (let low = before (in_tail ∙ ap (λ (t : ℕ). t / 4096) (sym tail)) in omega (arith, low, tail)))));
  }

  pub whole_outcome : (o : Outcome) → o.sup ≡ s → IsOutcome S o → IsOutcome R o
  whole_outcome o same h = metadata_alone S R o (subst (λ (x : Super). SameMetadata x S R) (sym same) back) h

pub gathered_outcome : (R S : Region) (o : Outcome) → IsGathered o.sup R S → IsOutcome R o → IsOutcome S o
gathered_outcome R S o g h = metadata_alone R S o (has_metadata o.sup R S h.sup g) h
