use Rattle.std.proofs.Common.{◌≡◌, ◌&&◌, ◌||◌, ◌∙◌, ℕ, Bool, true, sym, subst, IsTrue, ap}
use Rattle.nv_super.specs.Layout.{Layout}
use Rattle.nv_inode.specs.Chains.{IsLaid}
use Rattle.nv_inode.specs.Permitted.{is_key_offset, in_fixed, in_extra, is_permitted_by, IsSlotWord}
use Rattle.nv_inode.proofs.LayoutWords.{permitted_names, permitted_lies}
use Rattle.nv_inode.proofs.chains.Tables.permits.Goals as goal

lies : (l : Layout) (at : ℕ) (test : Bool) → IsLaid l → test ≡ is_permitted_by l at → IsTrue test → IsSlotWord l.sup at
lies l at test laid same on = permitted_lies l at laid (subst (λ (b : Bool). IsTrue b) same on)

same_test : (l : Layout) (at : ℕ) (key around : Bool) → key ≡ is_key_offset at → key ≡ true → around ≡ (in_fixed l.sup at || in_extra l at) → around ≡ is_permitted_by l at
same_test l at key around is on within = within ∙ sym (ap (λ (b : Bool). b && (in_fixed l.sup at || in_extra l at)) (sym is ∙ on))

pub returns-then-is_key-clause-names : goal.returns-then-is_key-clause-names
returns-then-is_key-clause-names c = permitted_names c.args.self.now.layout c.args.at c.has_slot_around.result c.are_laid.ensures (same_test c.args.self.now.layout c.args.at c.is_key_offset-is_key.result c.has_slot_around.result c.is_key_offset-is_key.ensures c.if-is_key.true c.has_slot_around.ensures)

pub returns-then-is_key-clause-lies : goal.returns-then-is_key-clause-lies
returns-then-is_key-clause-lies c = lies c.args.self.now.layout c.args.at c.has_slot_around.result c.are_laid.ensures (same_test c.args.self.now.layout c.args.at c.is_key_offset-is_key.result c.has_slot_around.result c.is_key_offset-is_key.ensures c.if-is_key.true c.has_slot_around.ensures)
