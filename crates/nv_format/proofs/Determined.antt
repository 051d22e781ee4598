-- What format leaves is one region: each word is either stored by it, with one value, or as before.
use Rattle.std.proofs.Common.{◌≡◌, ◌⊎◌, inl, inr, ℕ, zero, suc, ◌+◌, ◌*◌, ◌/◌, ◌%◌, ◌<◌, ◌≤◌, get_or, refl, ap, sym, ◌∙◌, subst, arith}
use Rattle.std.proofs.lemmas.Bool.{cases_lt, cases_eq}
use Rattle.nv_region.specs.Region.{Region, word}
use Rattle.nv_region.proofs.Stops.{same_region}
use Rattle.nv_super.specs.declared.superblock.Super.{Super}
use Rattle.nv_super.specs.declared.superblock.SuperFault.TheVariants.{Magic}
use Rattle.nv_super.specs.Layout.{slot_address, inode_limit}
use Rattle.nv_super.specs.Super.{IsSuper, magic}
use Rattle.nv_inode.specs.declared.slot.Slot.{Slot}
use Rattle.nv_format.specs.Format.{IsPointer, IsValidWord, IsSystemWord, IsRootWord, IsFormatWord, IsFormatted, FormatIsDetermined, root_page}
use Rattle.nv_inode.proofs.Places.{slot_aligned}

-- whether some number below n has a property that can be told
some_below : (P : ℕ → Type 0) → ((k : ℕ) → P k ⊎ (P k → ⊥)) → (n : ℕ) → ((k : ℕ) × (k < n) × P k) ⊎ ((k : ℕ) → k < n → P k → ⊥)
some_below P tells zero = inr (λ k below. absurd (omega (arith, below)))
some_below P tells (suc n) = elim (tells n) [
  | inl here ↦ inl (n, omega arith, here)
  | inr not ↦ elim (some_below P tells n) [
    | inl found ↦ inl (found.0, (let below = found.1 in omega (arith, below)), found.2)
    | inr none ↦ inr (λ k below holds. elim (cases_lt k n) [
      | inl less ↦ none k less holds
      | inr more ↦ (let same : k ≡ n = omega (arith, below, more) in not (subst P same holds))
    ])
  ]
]

either : {A B : Type 0} → A ⊎ (A → ⊥) → B ⊎ (B → ⊥) → (A ⊎ B) ⊎ ((A ⊎ B) → ⊥)
either a b = elim a [
  | inl x ↦ inl (inl x)
  | inr not_a ↦ elim b [ inl y ↦ inl (inr y) | inr not_b ↦ inr (λ h. elim h [ inl x ↦ not_a x | inr y ↦ not_b y ]) ]
]

between : (low a end : ℕ) → ((low ≤ a) × (a < end)) ⊎ ((low ≤ a) × (a < end) → ⊥)
between low a end = elim (cases_lt a low) [
  | inl under ↦ inr (λ h. let from = h.0 in omega (arith, under, from))
  | inr from ↦ elim (cases_lt a end) [ inl to ↦ inl (from, to) | inr over ↦ inr (λ h. let to = h.1 in omega (arith, over, to)) ]
]

pointer_told : (s : Super) (a : ℕ) → IsPointer s a ⊎ (IsPointer s a → ⊥)
pointer_told s a = elim (some_below (λ cpu. (a ≡ 4096 * (1 + cpu)) ⊎ (a ≡ 4096 * (1 + cpu) + 8)) (λ cpu. either (cases_eq a (4096 * (1 + cpu))) (cases_eq a (4096 * (1 + cpu) + 8))) s.cpus) [
  | inl found ↦ inl found
  | inr none ↦ inr (λ h. none h.0 h.1 h.2)
]

valid_told : (s : Super) (a : ℕ) → IsValidWord s a ⊎ (IsValidWord s a → ⊥)
valid_told s a = elim (some_below (λ i. a ≡ slot_address s i) (λ i. cases_eq a (slot_address s i)) (inode_limit s)) [
  | inl found ↦ inl found
  | inr none ↦ inr (λ h. none h.0 h.1 h.2)
]

-- whether format stores a word can be told
told : (s : Super) (a : ℕ) → IsFormatWord s a ⊎ (IsFormatWord s a → ⊥)
told s a =
    either (cases_eq a 0)
    (either (either (between 8 a 48) (either (pointer_told s a) (valid_told s a)))
    (either (between (slot_address s 1) a (slot_address s 1 + 40)) (between (root_page s) a (root_page s + 32))))

-- one of five words, one behind the other
data IsOneOf (at a : ℕ) : Type 0 where
  at0 : a ≡ at → IsOneOf at a
  at8 : a ≡ at + 8 → IsOneOf at a
  at16 : a ≡ at + 16 → IsOneOf at a
  at24 : a ≡ at + 24 → IsOneOf at a
  at32 : a ≡ at + 32 → IsOneOf at a

one_of : (at a : ℕ) → at % 8 ≡ 0 → a % 8 ≡ 0 → at ≤ a → a < at + 40 → IsOneOf at a
one_of at a whole_at whole from to = elim (cases_lt a (at + 8)) [
  | inl h ↦ at0 (omega arith)
  | inr k ↦ elim (cases_lt a (at + 16)) [
    | inl h ↦ at8 (omega arith)
    | inr k ↦ elim (cases_lt a (at + 24)) [
      | inl h ↦ at16 (omega arith)
      | inr k ↦ elim (cases_lt a (at + 32)) [ inl h ↦ at24 (omega arith) | inr k ↦ at32 (omega arith) ]
    ]
  ]
]

module _ (old new other : Region) (s : Super) (time : ℕ) (one : IsFormatted old new s time) (two : IsFormatted old other s time) where
  Same : ℕ → Type 0
  Same a = word new a ≡ word other a

  moved : (a b : ℕ) → a ≡ b → word new b ≡ word other b → Same a
  unfolding Same
  moved a b e same = subst (λ (n : ℕ). word new n ≡ word other n) (sym e) same

  magic_of : (R : Region) → IsSuper R s → word R 0 ≡ magic
  magic_of R super = elim (cases_eq (word R 0) magic) [ inl e ↦ e | inr differ ↦ absurd (super.sound Magic differ) ]

  numbers : (a : ℕ) → IsOneOf 8 a → Same a
  numbers a (at0 e) = moved a 8 e (sym one.super.version ∙ two.super.version)
  numbers a (at8 e) = moved a 16 e (sym one.super.cpus ∙ two.super.cpus)
  numbers a (at16 e) = moved a 24 e (sym one.super.blocks ∙ two.super.blocks)
  numbers a (at24 e) = moved a 32 e (sym one.super.table_blocks ∙ two.super.table_blocks)
  numbers a (at32 e) = moved a 40 e (sym one.super.state ∙ two.super.state)

  slot : (a : ℕ) → IsOneOf (slot_address s 1) a → Same a
  slot a (at0 e) = moved a (slot_address s 1) e (ap (λ (t : Slot). t.valid) one.root ∙ sym (ap (λ (t : Slot). t.valid) two.root))
  slot a (at8 e) = moved a (slot_address s 1 + 8) e (ap (λ (t : Slot). t.kind) one.root ∙ sym (ap (λ (t : Slot). t.kind) two.root))
  slot a (at16 e) = moved a (slot_address s 1 + 16) e (ap (λ (t : Slot). t.head) one.root ∙ sym (ap (λ (t : Slot). t.head) two.root))
  slot a (at24 e) = moved a (slot_address s 1 + 24) e (ap (λ (t : Slot). t.tail) one.root ∙ sym (ap (λ (t : Slot). t.tail) two.root))
  slot a (at32 e) = moved a (slot_address s 1 + 32) e (ap (λ (t : Slot). t.created) one.root ∙ sym (ap (λ (t : Slot). t.created) two.root))

  entry : (a : ℕ) → a < root_page s + 32 → IsOneOf (root_page s) a → Same a
  entry a to (at0 e) = moved a (root_page s) e (one.entry.attributes ∙ sym two.entry.attributes)
  entry a to (at8 e) = moved a (root_page s + 8) e (one.entry.empty ∙ sym two.entry.empty)
  entry a to (at16 e) = moved a (root_page s + 16) e (one.entry.made ∙ sym two.entry.made)
  entry a to (at24 e) = moved a (root_page s + 24) e (one.entry.owner ∙ sym two.entry.owner)
  entry a to (at32 e) = absurd (omega (arith, e, to))

  pointer : (a : ℕ) → IsPointer s a → Same a
  pointer a found = elim found.2 [
    | inl e ↦ moved a (4096 * (1 + found.0)) e ((one.journals found.0 found.1).0 ∙ sym (two.journals found.0 found.1).0)
    | inr e ↦ moved a (4096 * (1 + found.0) + 8) e ((one.journals found.0 found.1).1 ∙ sym (two.journals found.0 found.1).1)
  ]

  valid : (a : ℕ) → IsValidWord s a → Same a
  valid a found = elim (cases_eq found.0 1) [
    | inl root ↦ slot a (at0 (found.2 ∙ ap (λ (i : ℕ). slot_address s i) root))
    | inr differ ↦ moved a (slot_address s found.0) found.2 (one.unused found.0 found.1 differ ∙ sym (two.unused found.0 found.1 differ))
  ]

  system : (a : ℕ) → a % 8 ≡ 0 → IsSystemWord s a → Same a
  system a whole found = elim found [
    | inl number ↦ numbers a (one_of 8 a refl whole number.0 number.1)
    | inr area ↦ elim area [ inl p ↦ pointer a p | inr v ↦ valid a v ]
  ]

  root : (a : ℕ) → a % 8 ≡ 0 → IsRootWord s a → Same a
  root a whole found = elim found [
    | inl range ↦ slot a (one_of (slot_address s 1) a (slot_aligned s 1) whole range.0 range.1)
    | inr range ↦ (let to = range.1 in entry a to (one_of (root_page s) a (omega arith) whole range.0 (omega (arith, to))))
  ]

  stored : (a : ℕ) → a % 8 ≡ 0 → IsFormatWord s a → Same a
  stored a whole found = elim found [
    | inl e ↦ moved a 0 e (magic_of new one.super ∙ sym (magic_of other two.super))
    | inr area ↦ elim area [ inl part ↦ system a whole part | inr part ↦ root a whole part ]
  ]

  each : (a : ℕ) → a % 8 ≡ 0 → word new a ≡ word other a
  unfolding Same
  each a whole = elim (told s a) [
    | inl found ↦ stored a whole found
    | inr away ↦ one.others a whole away ∙ sym (two.others a whole away)
  ]

  pub same : new ≡ other
  same = same_region new other (one.as_long ∙ sym two.as_long) (one.same_rest ∙ sym two.same_rest)
      (λ i inside. let at : 8 * i / 8 ≡ i = omega arith in subst (λ (k : ℕ). get_or new.words k 0 ≡ get_or other.words k 0) at (each (8 * i) (omega arith)))

pub formatted_only : FormatIsDetermined
formatted_only old new other s time one two = same old new other s time one two
