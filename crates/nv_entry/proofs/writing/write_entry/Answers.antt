use Rattle.std.proofs.Common.{◌+◌, ◌*◌, ◌≤◌, ℕ, OnOk, arith, length, subst, sym}
use Rattle.std.proofs.lemmas.Result.{on_ok_weaker}
use Rattle.nv_region.specs.Region.{size}
use Rattle.nv_region.specs.Fuses.{KeepsFuse}
use Rattle.nv_region.specs.Stored.{SameOutside, StoresOnly, Within}
use Rattle.nv_region.proofs.Fuses.{keeps_within}
use Rattle.nv_entry.specs.Spelling.{Stands, entry_length, words_for}
use Rattle.nv_entry.specs.declared.entry.Entry.{Entry}
use Rattle.nv_entry.proofs.Spelled.{next_held, write_held, attr_held, links_held}
use Rattle.nv_entry.proofs.writing.write_entry.Goals as goal

pub store_words-requires-clause-inside : goal.store_words-requires-clause-inside
store_words-requires-clause-inside g c = subst (λ (e : Entry). c.args.at + entry_length e ≤ size (g.P.Pmem.region c.args.memory.now)) c.in-NextPage.is c.requires.inside

pub returns-in-NextPage-clause-spelled : goal.returns-in-NextPage-clause-spelled
returns-in-NextPage-clause-spelled g c =
    subst (λ (e : Entry). OnOk c.store_words.result (Stands (g.P.Pmem.region c.store_words.new.memory) c.args.at e)) (sym c.in-NextPage.is)
    (on_ok_weaker c.store_words.result (λ held. next_held (g.P.Pmem.region c.store_words.new.memory) c.args.at c.first_word_of-first.result held c.first_word_of-first.ensures) c.store_words.ensures.held)

pub returns-in-NextPage-clause-rest : goal.returns-in-NextPage-clause-rest
returns-in-NextPage-clause-rest g c = subst (λ (e : Entry). SameOutside (g.P.Pmem.region c.args.memory.now) c.args.at (entry_length e) (g.P.Pmem.region c.store_words.new.memory)) (sym c.in-NextPage.is) c.store_words.ensures.rest

pub returns-in-NextPage-clause-wrote : goal.returns-in-NextPage-clause-wrote
returns-in-NextPage-clause-wrote g c =
    subst (λ (e : Entry). StoresOnly (Within c.args.at (entry_length e)) (g.P.Pmem.region c.args.memory.now) (g.P.Pmem.region c.store_words.new.memory) (g.P.Pmem.may_hold c.args.memory.now) (g.P.Pmem.may_hold c.store_words.new.memory)) (sym c.in-NextPage.is) c.store_words.ensures.wrote

pub returns-in-NextPage-clause-stopped : goal.returns-in-NextPage-clause-stopped
returns-in-NextPage-clause-stopped g c = c.store_words.ensures.stopped

pub returns-in-NextPage-clause-keeps_fuse : goal.returns-in-NextPage-clause-keeps_fuse
returns-in-NextPage-clause-keeps_fuse g c =
    subst (λ (e : Entry). KeepsFuse (λ (limit : ℕ). c.args.at + entry_length e ≤ limit) (g.P.Pmem.fuse c.args.memory.now) (g.P.Pmem.fuse c.store_words.new.memory)) (sym c.in-NextPage.is)
    c.store_words.ensures.keeps_fuse

pub store_words-requires-in-Write-clause-inside : goal.store_words-requires-in-Write-clause-inside
store_words-requires-in-Write-clause-inside g c = subst (λ (e : Entry). c.args.at + entry_length e ≤ size (g.P.Pmem.region c.args.memory.now)) c.in-Write.is c.requires.inside

pub returns-in-Write-clause-spelled : goal.returns-in-Write-clause-spelled
returns-in-Write-clause-spelled g c =
    subst (λ (e : Entry). OnOk c.store_words-in-Write.result (Stands (g.P.Pmem.region c.store_words-in-Write.new.memory) c.args.at e)) (sym c.in-Write.is)
    (on_ok_weaker c.store_words-in-Write.result (λ held. write_held (g.P.Pmem.region c.store_words-in-Write.new.memory) c.args.at c.first_word_of-first-in-Write.result c.in-Write.e held c.first_word_of-first-in-Write.ensures) c.store_words-in-Write.ensures.held)

pub returns-in-Write-clause-rest : goal.returns-in-Write-clause-rest
returns-in-Write-clause-rest g c = subst (λ (e : Entry). SameOutside (g.P.Pmem.region c.args.memory.now) c.args.at (entry_length e) (g.P.Pmem.region c.store_words-in-Write.new.memory)) (sym c.in-Write.is) c.store_words-in-Write.ensures.rest

pub returns-in-Write-clause-wrote : goal.returns-in-Write-clause-wrote
returns-in-Write-clause-wrote g c =
    subst (λ (e : Entry). StoresOnly (Within c.args.at (entry_length e)) (g.P.Pmem.region c.args.memory.now) (g.P.Pmem.region c.store_words-in-Write.new.memory) (g.P.Pmem.may_hold c.args.memory.now) (g.P.Pmem.may_hold c.store_words-in-Write.new.memory)) (sym c.in-Write.is) c.store_words-in-Write.ensures.wrote

pub returns-in-Write-clause-stopped : goal.returns-in-Write-clause-stopped
returns-in-Write-clause-stopped g c = c.store_words-in-Write.ensures.stopped

pub returns-in-Write-clause-keeps_fuse : goal.returns-in-Write-clause-keeps_fuse
returns-in-Write-clause-keeps_fuse g c =
    subst (λ (e : Entry). KeepsFuse (λ (limit : ℕ). c.args.at + entry_length e ≤ limit) (g.P.Pmem.fuse c.args.memory.now) (g.P.Pmem.fuse c.store_words-in-Write.new.memory)) (sym c.in-Write.is)
    c.store_words-in-Write.ensures.keeps_fuse

pub store_words-requires-in-Attr-clause-inside : goal.store_words-requires-in-Attr-clause-inside
store_words-requires-in-Attr-clause-inside g c = subst (λ (e : Entry). c.args.at + entry_length e ≤ size (g.P.Pmem.region c.args.memory.now)) c.in-Attr.is c.requires.inside

pub returns-in-Attr-clause-spelled : goal.returns-in-Attr-clause-spelled
returns-in-Attr-clause-spelled g c =
    subst (λ (e : Entry). OnOk c.store_words-in-Attr.result (Stands (g.P.Pmem.region c.store_words-in-Attr.new.memory) c.args.at e)) (sym c.in-Attr.is)
    (on_ok_weaker c.store_words-in-Attr.result (λ held. attr_held (g.P.Pmem.region c.store_words-in-Attr.new.memory) c.args.at c.first_word_of-first-in-Attr.result c.in-Attr.e (omega arith) held c.first_word_of-first-in-Attr.ensures) c.store_words-in-Attr.ensures.held)

pub returns-in-Attr-clause-rest : goal.returns-in-Attr-clause-rest
returns-in-Attr-clause-rest g c = subst (λ (e : Entry). SameOutside (g.P.Pmem.region c.args.memory.now) c.args.at (entry_length e) (g.P.Pmem.region c.store_words-in-Attr.new.memory)) (sym c.in-Attr.is) c.store_words-in-Attr.ensures.rest

pub returns-in-Attr-clause-wrote : goal.returns-in-Attr-clause-wrote
returns-in-Attr-clause-wrote g c =
    subst (λ (e : Entry). StoresOnly (Within c.args.at (entry_length e)) (g.P.Pmem.region c.args.memory.now) (g.P.Pmem.region c.store_words-in-Attr.new.memory) (g.P.Pmem.may_hold c.args.memory.now) (g.P.Pmem.may_hold c.store_words-in-Attr.new.memory)) (sym c.in-Attr.is) c.store_words-in-Attr.ensures.wrote

pub returns-in-Attr-clause-stopped : goal.returns-in-Attr-clause-stopped
returns-in-Attr-clause-stopped g c = c.store_words-in-Attr.ensures.stopped

pub returns-in-Attr-clause-keeps_fuse : goal.returns-in-Attr-clause-keeps_fuse
returns-in-Attr-clause-keeps_fuse g c =
    subst (λ (e : Entry). KeepsFuse (λ (limit : ℕ). c.args.at + entry_length e ≤ limit) (g.P.Pmem.fuse c.args.memory.now) (g.P.Pmem.fuse c.store_words-in-Attr.new.memory)) (sym c.in-Attr.is)
    c.store_words-in-Attr.ensures.keeps_fuse

pub store_name_entry-requires-clause-inside : goal.store_name_entry-requires-clause-inside
store_name_entry-requires-clause-inside g c = let inside : c.args.at + (24 + 8 * words_for (length c.in-Name.e.name)) ≤ size (g.P.Pmem.region c.args.memory.now) = subst (λ (e : Entry). c.args.at + entry_length e ≤ size (g.P.Pmem.region c.args.memory.now)) c.in-Name.is c.requires.inside in omega (arith, inside)

pub returns-in-Name-clause-spelled : goal.returns-in-Name-clause-spelled
returns-in-Name-clause-spelled g c =
    subst (λ (e : Entry). OnOk c.store_name_entry.result (Stands (g.P.Pmem.region c.store_name_entry.new.memory) c.args.at e)) (sym c.in-Name.is)
    c.store_name_entry.ensures.spelled

pub returns-in-Name-clause-rest : goal.returns-in-Name-clause-rest
returns-in-Name-clause-rest g c = subst (λ (e : Entry). SameOutside (g.P.Pmem.region c.args.memory.now) c.args.at (entry_length e) (g.P.Pmem.region c.store_name_entry.new.memory)) (sym c.in-Name.is) c.store_name_entry.ensures.rest

pub returns-in-Name-clause-wrote : goal.returns-in-Name-clause-wrote
returns-in-Name-clause-wrote g c =
    subst (λ (e : Entry). StoresOnly (Within c.args.at (entry_length e)) (g.P.Pmem.region c.args.memory.now) (g.P.Pmem.region c.store_name_entry.new.memory) (g.P.Pmem.may_hold c.args.memory.now) (g.P.Pmem.may_hold c.store_name_entry.new.memory)) (sym c.in-Name.is) c.store_name_entry.ensures.wrote

pub returns-in-Name-clause-stopped : goal.returns-in-Name-clause-stopped
returns-in-Name-clause-stopped g c = c.store_name_entry.ensures.stopped

pub returns-in-Name-clause-keeps_fuse : goal.returns-in-Name-clause-keeps_fuse
returns-in-Name-clause-keeps_fuse g c =
    subst (λ (e : Entry). KeepsFuse (λ (limit : ℕ). c.args.at + entry_length e ≤ limit) (g.P.Pmem.fuse c.args.memory.now) (g.P.Pmem.fuse c.store_name_entry.new.memory)) (sym c.in-Name.is)
    (keeps_within (λ limit past. omega (arith, past)) c.store_name_entry.ensures.keeps_fuse)

pub store_words-requires-in-Links-clause-inside : goal.store_words-requires-in-Links-clause-inside
store_words-requires-in-Links-clause-inside g c = subst (λ (e : Entry). c.args.at + entry_length e ≤ size (g.P.Pmem.region c.args.memory.now)) c.in-Links.is c.requires.inside

pub returns-in-Links-clause-spelled : goal.returns-in-Links-clause-spelled
returns-in-Links-clause-spelled g c =
    subst (λ (e : Entry). OnOk c.store_words-in-Links.result (Stands (g.P.Pmem.region c.store_words-in-Links.new.memory) c.args.at e)) (sym c.in-Links.is)
    (on_ok_weaker c.store_words-in-Links.result (λ held. links_held (g.P.Pmem.region c.store_words-in-Links.new.memory) c.args.at c.first_word_of-first-in-Links.result c.in-Links.e held c.first_word_of-first-in-Links.ensures) c.store_words-in-Links.ensures.held)

pub returns-in-Links-clause-rest : goal.returns-in-Links-clause-rest
returns-in-Links-clause-rest g c = subst (λ (e : Entry). SameOutside (g.P.Pmem.region c.args.memory.now) c.args.at (entry_length e) (g.P.Pmem.region c.store_words-in-Links.new.memory)) (sym c.in-Links.is) c.store_words-in-Links.ensures.rest

pub returns-in-Links-clause-wrote : goal.returns-in-Links-clause-wrote
returns-in-Links-clause-wrote g c =
    subst (λ (e : Entry). StoresOnly (Within c.args.at (entry_length e)) (g.P.Pmem.region c.args.memory.now) (g.P.Pmem.region c.store_words-in-Links.new.memory) (g.P.Pmem.may_hold c.args.memory.now) (g.P.Pmem.may_hold c.store_words-in-Links.new.memory)) (sym c.in-Links.is) c.store_words-in-Links.ensures.wrote

pub returns-in-Links-clause-stopped : goal.returns-in-Links-clause-stopped
returns-in-Links-clause-stopped g c = c.store_words-in-Links.ensures.stopped

pub returns-in-Links-clause-keeps_fuse : goal.returns-in-Links-clause-keeps_fuse
returns-in-Links-clause-keeps_fuse g c =
    subst (λ (e : Entry). KeepsFuse (λ (limit : ℕ). c.args.at + entry_length e ≤ limit) (g.P.Pmem.fuse c.args.memory.now) (g.P.Pmem.fuse c.store_words-in-Links.new.memory)) (sym c.in-Links.is)
    c.store_words-in-Links.ensures.keeps_fuse
