-- A mounted file system in which a number got a slot: what it shows and keeps, by the tables and free lists of then.
use Rattle.std.proofs.Common.{◌≡◌, ◌≢◌, ℕ, ◌+◌, ◌*◌, ◌/◌, ◌%◌, ◌<◌, ◌≤◌, inl, inr, Bool, false, IsTrue, List, [], refl, ap, sym, ◌∙◌, subst, arith, is_some, Option, Some}
use Rattle.std.proofs.Math.Logic.{∥∥₁_elim, ∥∥₁_map}
use Rattle.std.proofs.Math.Nat.{ℕ_set}
use Rattle.std.proofs.Props.{props}
use Rattle.nv_region.specs.Region.{Region, word}
use Rattle.nv_super.specs.declared.superblock.Super.{Super}
use Rattle.nv_super.specs.declared.faults.Fault.{Fault}
use Rattle.nv_super.specs.Layout.{Layout, chain_of, system_blocks}
use Rattle.nv_super.proofs.Rising.{Contains-head}
use Rattle.nv_inode.specs.Chains.{first_link, link_behind}
use Rattle.nv_inode.specs.Numbers.{has_slot}
use Rattle.nv_inode.proofs.GrownTables.{end_at}
use Rattle.nv_alloc.specs.FreeValue.{FreeLists}
use Rattle.nv_scan.specs.declared.piece.Row.{Row}
use Rattle.nv_graph.specs.Read.{row_of}
use Rattle.nv_mounted.specs.Held.{Held, Store}
use Rattle.nv_mounted.specs.Bytes.{byte_of}
use Rattle.nv_mounted.specs.Mounted.{IsMounted}
use Rattle.nv_mounted.proofs.Fronts.{tables_laid}
use Rattle.nv_tree.specs.Tree.{SameTree}
use Rattle.nv_paths.specs.Seen.{tree_of}
use Rattle.nv_steps.specs.GrownTables.{GrowsTable, ShowsGrown}
use Rattle.nv_steps.proofs.OneByOne.{by_rule}
use Rattle.nv_steps.proofs.TakenBlocks.{each_in_data, taken_sup}
use Rattle.nv_calls.specs.Growing.{GivesSlot, GotSlot}
use Rattle.nv_calls.specs.Mount.{IsKept}
use Rattle.nv_calls.proofs.Mounts.{bytes_stay, kept_of_mounted, mounted_of_kept}
use Rattle.nv_calls.proofs.RowChange.{unchanged}

module _ {R S : Region} {l grown : Layout} {free after : FreeLists} {cpu j : ℕ} where
  -- The number has a slot then.
  pub got_has : GotSlot R S l grown free after cpu j → IsTrue (has_slot grown j)
  got_has (inl w) = subst (λ (k : Layout). IsTrue (has_slot k j)) (sym w.2) w.0
  got_has (inr g) = subst (λ (o : Option ℕ). IsTrue (is_some o)) (sym g.slot) refl

  pub got_sup : GotSlot R S l grown free after cpu j → grown.sup ≡ l.sup
  got_sup (inl w) = ap (λ (k : Layout). k.sup) w.2
  got_sup (inr g) = ap (λ (k : Layout). k.sup) g.layout

  got_lists : GotSlot R S l grown free after cpu j → after.sup ≡ free.sup
  got_lists (inl w) = ap (λ (f : FreeLists). f.sup) w.3
  got_lists (inr g) = taken_sup g.taken

  -- Tables and pools are as before, or have grown for it.
  pub got_gives : GotSlot R S l grown free after cpu j → GivesSlot l free.pools cpu j grown after.pools
  got_gives (inl w) = inl (w.0, w.2, ap (λ (f : FreeLists). f.pools) w.3)
  got_gives (inr g) = inr (g.none_before, (g.block, g.layout, by_rule g.taken))

  module _ {held : Store} {rows : List Row} (m : IsMounted R l held rows free.pools) where
    showing : (g : GrowsTable R S l grown free after cpu j) → ShowsGrown R S l grown held after j
    showing g = let keeps = m.keeps in g.shows held (record { sound = m.sound; lists = keeps.in_lists })

    -- The same is mounted.
    pub got_mounted : GotSlot R S l grown free after cpu j → IsMounted S grown held rows after.pools
    got_mounted (inl w) =
        subst (λ (T : Region). IsMounted T grown held rows after.pools) (sym w.1)
        (subst (λ (k : Layout). IsMounted R k held rows after.pools) (sym w.2) (subst (λ (f : FreeLists). IsMounted R l held rows f.pools) (sym w.3) m))
    got_mounted (inr g) =
        let shown = showing g in
        let now = shown.shows in
        let keeps = m.keeps in
        let in_rows = keeps.in_rows in
        record {
          sound = now.sound;
          keeps = record {
            in_rows = record {
              rising = in_rows.rising;
              each = λ row c. (let w = in_rows.each row c in (w.0, w.1, shown.rows w.0 row w.2));
              all = in_rows.all;
            };
            in_lists = now.lists;
          };
        }

    bytes_by : GotSlot R S l grown free after cpu j → (i : ℕ) (h : Held) → held i ≡ Some h → (x : ℕ) → byte_of S l h x ≡ byte_of R l h x
    bytes_by (inl w) i h is x = ap (λ (T : Region). byte_of T l h x) w.1
    bytes_by (inr g) i h is x = subst (λ (k : Layout). byte_of S k h x ≡ byte_of R l h x) g.layout (let shown = showing g in shown.bytes i h is x)

    -- The front of the region is as it was, but for the journal of the CPU.
    got_front : GotSlot R S l grown free after cpu j → cpu < l.sup.cpus → free.sup ≡ l.sup → (at : ℕ) → at % 8 ≡ 0 → at < (1 + l.sup.cpus) * 4096 → at / 4096 ≢ 1 + cpu → word S at ≡ word R at
    got_front (inl w) below lists at whole low other = ap (λ (T : Region). word T at) w.1
    got_front (inr g) below lists at whole low other = (let linked = g.linked in linked.others at whole differs (inl (omega (arith, low, from)))) where
      from : system_blocks l.sup ≤ g.block
      from = subst (λ (s : Super). system_blocks s ≤ g.block) lists (each_in_data g.taken g.block (Contains-head g.block [])).0

      differs : at ≢ link_behind (first_link cpu) (chain_of l cpu)
      differs same = elim (end_at (first_link cpu) (chain_of l cpu)) [
        | inl first ↦ other (omega (arith, same, first))
        | inr w ↦ (let sound = m.sound in let data_from = ((tables_laid sound.tables).inside cpu w.0 w.1 w.2).0 in let there = w.3 in omega (arith, same, there, low, data_from))
      ]

module _ {R S : Region} {s : Super} {l grown : Layout} {rows : List Row} {free after : FreeLists} {faults : List Fault} {read_only stopped : Bool} {cpu j : ℕ} (kept : IsKept R s l rows free faults read_only stopped) (runs : stopped ≡ false) (writes : read_only ≡ false)
    (got : GotSlot R S l grown free after cpu j) where
  pub got_kept : (now : Bool) → IsKept S s grown rows after faults read_only now
  got_kept now = kept_of_mounted S s grown rows after faults read_only now (got_sup got ∙ kept.tables) kept.writes writes (got_lists got ∙ kept.lists ∙ sym (got_sup got)) (∥∥₁_map (mounted_of_kept kept runs writes) (λ w. (w.0, got_mounted w.1 got)))

  -- The tree is the same.
  pub got_tree : SameTree (tree_of S rows) (tree_of R rows)
  got_tree i = unchanged R S rows (bytes_stay kept runs writes S (λ held m. bytes_by m got)) i (row_of rows i) refl

  pub got_words : cpu < l.sup.cpus → (at : ℕ) → at % 8 ≡ 0 → at < (1 + l.sup.cpus) * 4096 → at / 4096 ≢ 1 + cpu → word S at ≡ word R at
  got_words below at whole low other = ∥∥₁_elim (mounted_of_kept kept runs writes) (hlevel (props, ℕ_set)) (λ w. got_front w.1 got below kept.lists at whole low other)
