-- Words that were stored in a row spell an entry.
use Rattle.std.proofs.Common.{◌≡◌, ℕ, ◌+◌, ◌*◌, ◌<◌, ◌^◌, [], ◌∷◌, ap, ◌∙◌, arith}
use Rattle.nv_region.specs.Region.{Region, word}
use Rattle.nv_entry.specs.Spelling.{IsWriteAt, IsAttrAt, IsLinksAt, first_word}
use Rattle.nv_entry.specs.Written.{HoldsWords}
use Rattle.nv_entry.specs.declared.entry.WriteEntry.{WriteEntry}
use Rattle.nv_entry.specs.declared.entry.AttrEntry.{AttrEntry}
use Rattle.nv_entry.specs.declared.entry.LinksEntry.{LinksEntry}

first_here : (R : Region) (at n : ℕ) → word R (at + 8 * 0) ≡ n → word R at ≡ n
first_here R at n is = ap (word R) (let start : at ≡ at + 8 * 0 = omega arith in start) ∙ is

pub next_held : (R : Region) (at first : ℕ) → HoldsWords R at (first ∷ []) → first ≡ first_word 0 0 8 0 → word R at ≡ first_word 0 0 8 0
next_held R at first held is = first_here R at (first_word 0 0 8 0) (held 0 (omega arith) ∙ is)

pub write_held : (R : Region) (at first : ℕ) (e : WriteEntry) → HoldsWords R at (first ∷ e.offset ∷ e.block ∷ e.size ∷ e.time ∷ []) → first ≡ first_word 1 0 40 e.count → IsWriteAt R at e
write_held R at first e held is = record {
  first = first_here R at (first_word 1 0 40 e.count) (held 0 (omega arith) ∙ is);
  offset = held 1 (omega arith);
  block = held 2 (omega arith);
  size = held 3 (omega arith);
  time = held 4 (omega arith);
}

pub attr_held : (R : Region) (at first : ℕ) (e : AttrEntry) → e.owner < 2 ^ 32 → HoldsWords R at (first ∷ e.size ∷ e.time ∷ (e.owner + 4294967296 * e.group) ∷ []) → first ≡ first_word 2 0 32 e.mode → IsAttrAt R at e
attr_held R at first e short held is = record {
  first = first_here R at (first_word 2 0 32 e.mode) (held 0 (omega arith) ∙ is);
  size = held 1 (omega arith);
  time = held 2 (omega arith);
  owners = held 3 (omega arith);
  owner = short;
}

pub links_held : (R : Region) (at first : ℕ) (e : LinksEntry) → HoldsWords R at (first ∷ e.time ∷ 0 ∷ []) → first ≡ first_word 4 0 24 e.count → IsLinksAt R at e
links_held R at first e held is = record {
  first = first_here R at (first_word 4 0 24 e.count) (held 0 (omega arith) ∙ is);
  time = held 1 (omega arith);
  zero_word = held 2 (omega arith);
}
