-- Each block of slots is small.
use Rattle.std.proofs.Common.{◌≡◌, ◌≤◌, ◌<◌, ◌+◌, ◌*◌, ◌/◌, ◌%◌, ℕ, inl, inr, Some, map, sym, subst, arith}
use Rattle.std.specs.Prelude.{slice_get}
use Rattle.std.specs.List.{Contains, range_with_len}
use Rattle.std.proofs.Math.Nat.{mul-le-mul}
use Rattle.std.proofs.lemmas.Nat.{div_below, mod_below}
use Rattle.std.proofs.lemmas.List.Elements.{Contains-append_cases}
use Rattle.std.proofs.lemmas.Option.{slice_get_within}
use Rattle.nv_super.specs.Layout.{Layout, chain_of}
use Rattle.nv_inode.specs.declared.blocks.SlotBlock.{SlotBlock}
use Rattle.nv_inode.specs.Chains.{IsLaid}
use Rattle.nv_inode.specs.SlotBlocks.{fixed_block, extra_block, extra_blocks, slot_blocks, IsSmallBlock}
use Rattle.nv_inode.proofs.BlocksOfSlots.{fixed_case, extra_case}
use Rattle.nv_inode.proofs.TicketBlocks.{chain_small}

fixed_small : (l : Layout) (t : ℕ) → IsLaid l → t < l.sup.cpus * l.sup.table_blocks → IsSmallBlock l.sup (fixed_block l.sup t)
fixed_small l t laid below = record {
  few = omega arith;
  whole = omega arith;
  inside = (let room = laid.layout.areas.room in omega (arith, room, below));
  first = (
      let cpus = laid.layout.areas.cpus_to in
      let tables = laid.layout.areas.tables_to in
      let some : 0 < l.sup.table_blocks = (let from = laid.layout.tables_from in omega (arith, from)) in
      let cpu : t / l.sup.table_blocks < l.sup.cpus = div_below t l.sup.table_blocks l.sup.cpus some below in
      let row : t % l.sup.table_blocks < l.sup.table_blocks = mod_below t l.sup.table_blocks some in
      let rows : 32 * (t % l.sup.table_blocks) ≤ 2048 = omega (arith, row, tables) in
      let most : 32 * (t % l.sup.table_blocks) * l.sup.cpus ≤ 2048 * 64 = mul-le-mul rows cpus in
      omega (arith, most, cpu, cpus));
}

extra_small : (l : Layout) (c k b : ℕ) → IsLaid l → c < l.sup.cpus → k < 262144 → b < l.sup.blocks → IsSmallBlock l.sup (extra_block l.sup c k b)
extra_small l c k b laid cpu place below = record {
  few = omega arith;
  whole = omega arith;
  inside = omega (arith, below);
  first = (
      let cpus = laid.layout.areas.cpus_to in
      let tables = laid.layout.areas.tables_to in
      let rows : 32 * l.sup.table_blocks + 31 * k ≤ 8130000 = omega (arith, place, tables) in
      let most : (32 * l.sup.table_blocks + 31 * k) * l.sup.cpus ≤ 8130000 * 64 = mul-le-mul rows cpus in
      omega (arith, most, cpu, cpus));
}

place_below : (l : Layout) (c k b : ℕ) → IsLaid l → slice_get (chain_of l c) k ≡ Some b → k < 262144
place_below l c k b laid at = let within = slice_get_within (chain_of l c) k b at in let few = chain_small l laid c in let most = laid.layout.areas.blocks_to in omega (arith, within, few, most)

pub small_block : (l : Layout) (x : SlotBlock) → IsLaid l → Contains (slot_blocks l) x → IsSmallBlock l.sup x
small_block l x laid has = elim (Contains-append_cases (map (fixed_block l.sup) (range_with_len 0 (l.sup.cpus * l.sup.table_blocks))) (extra_blocks l.sup 0 l.chains) x has) [
  | inl fixed ↦ (let at = fixed_case l.sup (l.sup.cpus * l.sup.table_blocks) x fixed in subst (IsSmallBlock l.sup) (sym at.2) (fixed_small l at.0 laid at.1))
  | inr extra ↦ (let at = extra_case l.sup 0 l.chains x extra in
      let each = laid.each in
      let inside = laid.inside at.0 at.1 at.2 at.4 in
      subst (IsSmallBlock l.sup) (sym at.5) (extra_small l (0 + at.0) at.1 at.2 laid (omega (arith, at.3, each)) (place_below l at.0 at.1 at.2 laid at.4) inside.1))
]
