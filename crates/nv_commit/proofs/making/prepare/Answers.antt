use Rattle.std.proofs.Common.{ℕ, ◌≡◌, ◌+◌, ◌≤◌, ◌*◌, ◌/◌, ◌∙◌, [], ◌∷◌, ap, arith, inl, inr, is_err, subst, sym}
use Rattle.std.proofs.lemmas.Result.{err_from_is_err_and}
use Rattle.nv_region.proofs.Fuses.{keeps_more, keeps_within}
use Rattle.nv_region.specs.Stored.{Within}
use Rattle.nv_region.proofs.Wordwise.{stores_more, stores_within}
use Rattle.nv_inode.specs.Slot.{with_slot}
use Rattle.nv_logpage.specs.Append.{AppendWords, EndBy}
use Rattle.nv_commit.specs.Makes.{PrepareWords, head_of}
use Rattle.nv_commit.proofs.making.prepare.Goals as goal

-- the page of the place where the log begins is its page
page_of : (page limit : ℕ) → EndBy (page ∷ []) limit → EndBy (4096 * page / 4096 ∷ []) limit
page_of page limit end = let same : page ≡ 4096 * page / 4096 = omega arith in subst (λ (n : ℕ). EndBy (n ∷ []) limit) same end

pub append_entries-requires-2 : goal.append_entries-requires-2
append_entries-requires-2 g c =
    let can = c.requires.directory in
    record {
      whole = can.whole;
      offset = can.offset;
      given = can.given;
      enough = can.enough;
      differ = can.differ;
      inside = λ j below. (let inside = can.inside j below in omega (arith, inside, c.append_entries.ensures.len));
    }

pub returns-in_err-tail-clause-wrote : goal.returns-in_err-tail-clause-wrote
returns-in_err-tail-clause-wrote g c =
    stores_within (PrepareWords c.args.inode.now c.args.directory.now) (AppendWords (head_of c.args.inode.now) []) _ _ _ _ (λ k v w. inl (inl w)) c.append_entries.ensures.wrote

pub returns-in_err-tail-clause-stopped : goal.returns-in_err-tail-clause-stopped
returns-in_err-tail-clause-stopped g c =
    let error = err_from_is_err_and c.from_residual.result c.from_residual.ensures.1 in
    ap is_err error.1 ∙ sym c.in_err-tail.ensures.stopped

pub returns-in_err-tail-clause-keeps_fuse : goal.returns-in_err-tail-clause-keeps_fuse
returns-in_err-tail-clause-keeps_fuse g c = keeps_within (λ limit past. page_of c.args.inode.now.page limit past.0) c.append_entries.ensures.keeps_fuse

pub returns-in_err-end-clause-wrote : goal.returns-in_err-end-clause-wrote
returns-in_err-end-clause-wrote g c =
    stores_more (PrepareWords c.args.inode.now c.args.directory.now) (AppendWords c.args.directory.now.tail c.args.directory.now.fresh.now) _ _ _ _ _ _ (λ k v w. inr w)
    (stores_within (PrepareWords c.args.inode.now c.args.directory.now) (AppendWords (head_of c.args.inode.now) []) _ _ _ _ (λ k v w. inl (inl w)) c.append_entries.ensures.wrote) c.append_entries-2.ensures.wrote

pub returns-in_err-end-clause-stopped : goal.returns-in_err-end-clause-stopped
returns-in_err-end-clause-stopped g c =
    let error = err_from_is_err_and c.from_residual-in_err-end.result c.from_residual-in_err-end.ensures.1 in
    ap is_err error.1 ∙ sym c.in_err-end.ensures.stopped

pub returns-in_err-end-clause-keeps_fuse : goal.returns-in_err-end-clause-keeps_fuse
returns-in_err-end-clause-keeps_fuse g c = keeps_more (λ limit past. past.1) (keeps_within (λ limit past. page_of c.args.inode.now.page limit past.0) c.append_entries.ensures.keeps_fuse) c.append_entries-2.ensures.keeps_fuse

pub returns-in_err-write_slot-clause-keeps_fuse : goal.returns-in_err-write_slot-clause-keeps_fuse
returns-in_err-write_slot-clause-keeps_fuse g c =
    keeps_more (λ limit past. past.2) (keeps_more (λ limit past. past.1) (keeps_within (λ limit past. page_of c.args.inode.now.page limit past.0) c.append_entries.ensures.keeps_fuse) c.append_entries-2.ensures.keeps_fuse) c.write_slot.ensures.keeps_fuse

pub returns-clause-keeps_fuse : goal.returns-clause-keeps_fuse
returns-clause-keeps_fuse g c =
    keeps_more (λ limit past. past.2) (keeps_more (λ limit past. past.1) (keeps_within (λ limit past. page_of c.args.inode.now.page limit past.0) c.append_entries.ensures.keeps_fuse) c.append_entries-2.ensures.keeps_fuse) c.write_slot.ensures.keeps_fuse

pub returns-clause-prepared : goal.returns-clause-prepared
returns-clause-prepared g c =
    let n = c.args.inode.now in
    let x = c.args.directory.now in
    let L = g.P.Pmem.region c.append_entries.new.memory in
    let N = g.P.Pmem.region c.append_entries-2.new.memory in
    record {
      logged = L;
      named = N;
      log = c.in_ok-tail.ensures.appends;
      parent = c.in_ok-end.ensures.appends;
      slot = c.in_ok-write_slot.ensures.done ∙ ap (λ (k : ℕ). with_slot N n.slot (record { valid = 0; kind = k; head = head_of n; tail = c.in_ok-tail.tail; created = n.created })) c.number.ensures;
      slot_alone = c.write_slot.ensures.wrote.mixed;
      first_end = c.in_ok-tail.ensures.end;
      last_end = c.in_ok-end.ensures.end;
    }

pub returns-in_err-write_slot-clause-wrote : goal.returns-in_err-write_slot-clause-wrote
returns-in_err-write_slot-clause-wrote g c =
    stores_more (PrepareWords c.args.inode.now c.args.directory.now) (Within (c.args.inode.now.slot + 8) 32) _ _ _ _ _ _ (λ k v w. inl (inr w))
    (stores_more (PrepareWords c.args.inode.now c.args.directory.now) (AppendWords c.args.directory.now.tail c.args.directory.now.fresh.now) _ _ _ _ _ _ (λ k v w. inr w)
    (stores_within (PrepareWords c.args.inode.now c.args.directory.now) (AppendWords (head_of c.args.inode.now) []) _ _ _ _ (λ k v w. inl (inl w)) c.append_entries.ensures.wrote) c.append_entries-2.ensures.wrote) c.write_slot.ensures.wrote

pub returns-clause-wrote : goal.returns-clause-wrote
returns-clause-wrote g c =
    stores_more (PrepareWords c.args.inode.now c.args.directory.now) (Within (c.args.inode.now.slot + 8) 32) _ _ _ _ _ _ (λ k v w. inl (inr w))
    (stores_more (PrepareWords c.args.inode.now c.args.directory.now) (AppendWords c.args.directory.now.tail c.args.directory.now.fresh.now) _ _ _ _ _ _ (λ k v w. inr w)
    (stores_within (PrepareWords c.args.inode.now c.args.directory.now) (AppendWords (head_of c.args.inode.now) []) _ _ _ _ (λ k v w. inl (inl w)) c.append_entries.ensures.wrote) c.append_entries-2.ensures.wrote) c.write_slot.ensures.wrote

pub append_entries-requires : goal.append_entries-requires
append_entries-requires g c = c.requires.inode

pub returns-clause-settled : goal.returns-clause-settled
returns-clause-settled g c = c.in_ok-write_slot.ensures.settled

pub returns-clause-stopped : goal.returns-clause-stopped
returns-clause-stopped g c = sym (ap is_err c.in_ok-write_slot.was) ∙ c.write_slot.ensures.stopped

pub returns-in_err-write_slot-clause-stopped : goal.returns-in_err-write_slot-clause-stopped
returns-in_err-write_slot-clause-stopped g c =
    let error = err_from_is_err_and c.from_residual-in_err-write_slot.result c.from_residual-in_err-write_slot.ensures.1 in
    ap is_err error.1 ∙ sym (ap is_err c.in_err-write_slot.was) ∙ c.write_slot.ensures.stopped

pub write_slot-requires-clause-whole : goal.write_slot-requires-clause-whole
write_slot-requires-clause-whole g c = c.requires.whole

pub write_slot-requires-clause-inside : goal.write_slot-requires-clause-inside
write_slot-requires-clause-inside g c = subst (λ (n : ℕ). c.args.inode.now.slot + 40 ≤ n) (sym (c.append_entries-2.ensures.len ∙ c.append_entries.ensures.len)) c.requires.inside
