use Rattle.std.proofs.Common.{length, refl, ◌≤◌, ◌≡◌, Bool, true, false, true≢false, IsTrue, ℕ, ◌∙◌, ap, is_err, ◌/◌, ◌∷◌, subst, sym, ◌%◌, ◌++◌, take, inl, inr, None}
use Rattle.std.proofs.lemmas.Result.{IfOk-from_err}
use Rattle.nv_region.proofs.Fuses.{keeps_more}
use Rattle.nv_logpage.specs.Append.{needed, EndBy, Linked, appended}
use Rattle.nv_logpage.specs.Reads.{Reads}
use Rattle.nv_logpage.proofs.Written.{settled_links, entries_within, links_too}
use Rattle.nv_logpage.proofs.Placing.{none_needed}
use Rattle.nv_inode.specs.Slot.{is_right_log}
use Rattle.nv_logpage.proofs.Grown.{grown, left_unread, right_after, unread}
use Rattle.nv_logpage.proofs.appending.append.Goals as goal

not_both : {A : Type 0} {b : Bool} → b ≡ true → b ≡ false → A
not_both is off = absurd (true≢false (sym is ∙ off))

pub write_entries-requires-clause-can : goal.write_entries-requires-clause-can
write_entries-requires-clause-can g c = c.requires

pub link_pages-requires-clause-inside : goal.link_pages-requires-clause-inside
link_pages-requires-clause-inside g c = subst (EndBy (c.args.tail / 4096 ∷ c.args.fresh.now)) (sym c.write_entries.ensures.kept.len) c.requires.inside

pub returns-in_err-end-clause-moments : goal.returns-in_err-end-clause-moments
returns-in_err-end-clause-moments g c s head es all start free read = record {
  reads = unread (g.P.Pmem.region c.args.memory.now) _ s head c.args.tail c.args.fresh.now all es c.requires.differ c.requires.offset start (entries_within c.args.tail c.args.fresh.now _ _ _ _ c.write_entries.ensures.kept.wrote).mixed free read;
  any_stop = left_unread (g.P.Pmem.region c.args.memory.now) _ _ _ s head c.args.tail c.args.fresh.now all es c.requires.differ c.requires.offset start (entries_within c.args.tail c.args.fresh.now _ _ _ _ c.write_entries.ensures.kept.wrote) free read;
}

pub returns-in_err-end-clause-kept : goal.returns-in_err-end-clause-kept
returns-in_err-end-clause-kept g c = record {
  stores = record {
    wrote = entries_within c.args.tail c.args.fresh.now _ _ _ _ c.write_entries.ensures.kept.wrote;
    len = c.write_entries.ensures.kept.len;
    keeps_fuse = c.write_entries.ensures.kept.keeps_fuse;
  };
  nothing = λ none. not_both (ap is_err c.in_err-end.was) (c.write_entries.ensures.kept.nothing none).0;
  stopped = λ some. c.from_residual.ensures.0 ∙ sym (ap is_err c.in_err-end.was) ∙ (c.write_entries.ensures.kept.stopped some);
}

pub returns-in_err-link_pages-clause-moments : goal.returns-in_err-link_pages-clause-moments
returns-in_err-link_pages-clause-moments g c s head es all start free read = record {
  reads = let wrote = links_too c.args.tail c.in_ok-end.used c.args.fresh.now (g.P.Pmem.region c.args.memory.now) _ _ (g.P.Pmem.may_hold c.args.memory.now) _ _ c.requires.offset (subst (λ (n : ℕ). n ≤ length c.args.fresh.now) (sym c.in_ok-end.ensures.end.1) c.requires.enough) c.write_entries.ensures.kept.wrote c.link_pages.ensures.kept.wrote in
      unread (g.P.Pmem.region c.args.memory.now) _ s head c.args.tail c.args.fresh.now all es c.requires.differ c.requires.offset start wrote.mixed free read;
  any_stop = let wrote = links_too c.args.tail c.in_ok-end.used c.args.fresh.now (g.P.Pmem.region c.args.memory.now) _ _ (g.P.Pmem.may_hold c.args.memory.now) _ _ c.requires.offset (subst (λ (n : ℕ). n ≤ length c.args.fresh.now) (sym c.in_ok-end.ensures.end.1) c.requires.enough) c.write_entries.ensures.kept.wrote c.link_pages.ensures.kept.wrote in
      left_unread (g.P.Pmem.region c.args.memory.now) _ _ _ s head c.args.tail c.args.fresh.now all es c.requires.differ c.requires.offset start wrote free read;
}

pub returns-in_err-link_pages-clause-kept : goal.returns-in_err-link_pages-clause-kept
returns-in_err-link_pages-clause-kept g c = record {
  stores = record {
    wrote = links_too c.args.tail c.in_ok-end.used c.args.fresh.now _ _ _ _ _ _ c.requires.offset (subst (λ (n : ℕ). n ≤ length c.args.fresh.now) (sym c.in_ok-end.ensures.end.1) c.requires.enough) c.write_entries.ensures.kept.wrote c.link_pages.ensures.kept.wrote;
    len = c.link_pages.ensures.kept.len ∙ c.write_entries.ensures.kept.len;
    keeps_fuse = keeps_more (λ limit end. end) c.write_entries.ensures.kept.keeps_fuse c.link_pages.ensures.kept.keeps_fuse;
  };
  nothing = λ none. not_both (ap is_err c.in_err-link_pages.was) (c.link_pages.ensures.nothing (c.in_ok-end.ensures.end.1 ∙ none_needed (c.args.tail % 4096) c.args.entries.now none)).0;
  stopped = λ some. c.from_residual-in_err-link_pages.ensures.0 ∙ sym (ap is_err c.in_err-link_pages.was) ∙ (c.link_pages.ensures.stopped (sym (c.write_entries.ensures.kept.stopped some) ∙ ap is_err c.in_ok-end.was));
}

pub returns-clause-moments : goal.returns-clause-moments
returns-clause-moments g c s head es all start free read = record {
  reads = let wrote = links_too c.args.tail c.in_ok-end.used c.args.fresh.now (g.P.Pmem.region c.args.memory.now) _ _ (g.P.Pmem.may_hold c.args.memory.now) _ _ c.requires.offset (subst (λ (n : ℕ). n ≤ length c.args.fresh.now) (sym c.in_ok-end.ensures.end.1) c.requires.enough) c.write_entries.ensures.kept.wrote c.link_pages.ensures.kept.wrote in
      unread (g.P.Pmem.region c.args.memory.now) _ s head c.args.tail c.args.fresh.now all es c.requires.differ c.requires.offset start wrote.mixed free read;
  any_stop = let wrote = links_too c.args.tail c.in_ok-end.used c.args.fresh.now (g.P.Pmem.region c.args.memory.now) _ _ (g.P.Pmem.may_hold c.args.memory.now) _ _ c.requires.offset (subst (λ (n : ℕ). n ≤ length c.args.fresh.now) (sym c.in_ok-end.ensures.end.1) c.requires.enough) c.write_entries.ensures.kept.wrote c.link_pages.ensures.kept.wrote in
      left_unread (g.P.Pmem.region c.args.memory.now) _ _ _ s head c.args.tail c.args.fresh.now all es c.requires.differ c.requires.offset start wrote free read;
}

pub returns-clause-kept : goal.returns-clause-kept
returns-clause-kept g c = record {
  stores = record {
    wrote = links_too c.args.tail c.in_ok-end.used c.args.fresh.now _ _ _ _ _ _ c.requires.offset (subst (λ (n : ℕ). n ≤ length c.args.fresh.now) (sym c.in_ok-end.ensures.end.1) c.requires.enough) c.write_entries.ensures.kept.wrote c.link_pages.ensures.kept.wrote;
    len = c.link_pages.ensures.kept.len ∙ c.write_entries.ensures.kept.len;
    keeps_fuse = keeps_more (λ limit end. end) c.write_entries.ensures.kept.keeps_fuse c.link_pages.ensures.kept.keeps_fuse;
  };
  nothing = λ none. (refl, (c.link_pages.ensures.nothing (c.in_ok-end.ensures.end.1 ∙ none_needed (c.args.tail % 4096) c.args.entries.now none)).1 ∙ (c.write_entries.ensures.kept.nothing none).1);
  stopped = λ some. sym (ap is_err c.in_ok-link_pages.was) ∙ c.link_pages.ensures.stopped (sym (c.write_entries.ensures.kept.stopped some) ∙ ap is_err c.in_ok-end.was);
}

pub returns-clause-laid : goal.returns-clause-laid
returns-clause-laid g c = c.in_ok-end.ensures.laid (g.P.Pmem.region c.link_pages.new.memory) (settled_links _ _ (c.args.tail / 4096 ∷ c.args.fresh.now) c.in_ok-end.used c.in_ok-end.used c.in_ok-end.end c.link_pages.ensures.kept.wrote.mixed)

pub returns-clause-reads : goal.returns-clause-reads
returns-clause-reads g c s head es all start free read =
    let wrote = links_too c.args.tail c.in_ok-end.used c.args.fresh.now (g.P.Pmem.region c.args.memory.now) _ _ (g.P.Pmem.may_hold c.args.memory.now) _ _ c.requires.offset (subst (λ (n : ℕ). n ≤ length c.args.fresh.now) (sym c.in_ok-end.ensures.end.1) c.requires.enough) c.write_entries.ensures.kept.wrote c.link_pages.ensures.kept.wrote in
    let laid = c.in_ok-end.ensures.laid (g.P.Pmem.region c.link_pages.new.memory) (settled_links _ _ (c.args.tail / 4096 ∷ c.args.fresh.now) c.in_ok-end.used c.in_ok-end.used c.in_ok-end.end c.link_pages.ensures.kept.wrote.mixed) in
    let linked = subst (λ (n : ℕ). Linked (g.P.Pmem.region c.link_pages.new.memory) (c.args.tail / 4096 ∷ c.args.fresh.now) n) c.in_ok-end.ensures.end.1 c.in_ok-link_pages.ensures.linked in
    subst (λ (n : ℕ). Reads (g.P.Pmem.region c.link_pages.new.memory) s head n (es ++ appended c.args.fresh.now 0 c.args.tail c.args.entries.now) (all ++ take (needed (c.args.tail % 4096) c.args.entries.now) c.args.fresh.now) None)
    (sym c.in_ok-end.ensures.end.0)
    (grown (g.P.Pmem.region c.args.memory.now) (g.P.Pmem.region c.link_pages.new.memory) s head c.args.tail c.args.entries.now c.args.fresh.now all es c.requires.differ c.in_ok-end.ensures.fit c.requires.enough c.requires.whole c.requires.offset start wrote.mixed laid linked free read)

pub returns-clause-right : goal.returns-clause-right
returns-clause-right g c s head start in_data starts either =
    subst (λ (n : ℕ). IsTrue (is_right_log s head n)) (sym c.in_ok-end.ensures.end.0)
    (right_after s head c.args.tail c.args.entries.now c.args.fresh.now c.in_ok-end.ensures.fit c.requires.enough c.requires.whole c.requires.offset start in_data starts either)

pub returns-in_err-end-clause-order : goal.returns-in_err-end-clause-order
returns-in_err-end-clause-order g c = inl c.write_entries.ensures.kept.wrote

pub returns-in_err-link_pages-clause-order : goal.returns-in_err-link_pages-clause-order
returns-in_err-link_pages-clause-order g c = inr (c.in_ok-end.ensures.laid (g.P.Pmem.region c.link_pages.new.memory) (settled_links _ _ (c.args.tail / 4096 ∷ c.args.fresh.now) c.in_ok-end.used c.in_ok-end.used c.in_ok-end.end c.link_pages.ensures.kept.wrote.mixed))

pub returns-clause-order : goal.returns-clause-order
returns-clause-order g c = inr (c.in_ok-end.ensures.laid (g.P.Pmem.region c.link_pages.new.memory) (settled_links _ _ (c.args.tail / 4096 ∷ c.args.fresh.now) c.in_ok-end.used c.in_ok-end.used c.in_ok-end.end c.link_pages.ensures.kept.wrote.mixed))

pub returns-in_err-end-clause-end : goal.returns-in_err-end-clause-end
returns-in_err-end-clause-end g c = IfOk-from_err c.from_residual.result _ c.from_residual.ensures.0

pub returns-in_err-end-clause-laid : goal.returns-in_err-end-clause-laid
returns-in_err-end-clause-laid g c = IfOk-from_err c.from_residual.result _ c.from_residual.ensures.0

pub returns-in_err-end-clause-linked : goal.returns-in_err-end-clause-linked
returns-in_err-end-clause-linked g c = IfOk-from_err c.from_residual.result _ c.from_residual.ensures.0

pub returns-in_err-end-clause-reads : goal.returns-in_err-end-clause-reads
returns-in_err-end-clause-reads g c s head es all start free read = IfOk-from_err c.from_residual.result _ c.from_residual.ensures.0

pub returns-in_err-end-clause-right : goal.returns-in_err-end-clause-right
returns-in_err-end-clause-right g c s head start in_data starts either = IfOk-from_err c.from_residual.result _ c.from_residual.ensures.0

pub returns-in_err-link_pages-clause-end : goal.returns-in_err-link_pages-clause-end
returns-in_err-link_pages-clause-end g c = IfOk-from_err c.from_residual-in_err-link_pages.result _ c.from_residual-in_err-link_pages.ensures.0

pub returns-in_err-link_pages-clause-laid : goal.returns-in_err-link_pages-clause-laid
returns-in_err-link_pages-clause-laid g c = IfOk-from_err c.from_residual-in_err-link_pages.result _ c.from_residual-in_err-link_pages.ensures.0

pub returns-in_err-link_pages-clause-linked : goal.returns-in_err-link_pages-clause-linked
returns-in_err-link_pages-clause-linked g c = IfOk-from_err c.from_residual-in_err-link_pages.result _ c.from_residual-in_err-link_pages.ensures.0

pub returns-in_err-link_pages-clause-reads : goal.returns-in_err-link_pages-clause-reads
returns-in_err-link_pages-clause-reads g c s head es all start free read = IfOk-from_err c.from_residual-in_err-link_pages.result _ c.from_residual-in_err-link_pages.ensures.0

pub returns-in_err-link_pages-clause-right : goal.returns-in_err-link_pages-clause-right
returns-in_err-link_pages-clause-right g c s head start in_data starts either = IfOk-from_err c.from_residual-in_err-link_pages.result _ c.from_residual-in_err-link_pages.ensures.0

pub link_pages-requires-clause-count : goal.link_pages-requires-clause-count
link_pages-requires-clause-count g c = subst (λ (n : ℕ). n ≤ length c.args.fresh.now) (sym c.in_ok-end.ensures.end.1) c.requires.enough

pub link_pages-requires-clause-differ : goal.link_pages-requires-clause-differ
link_pages-requires-clause-differ g c = c.requires.differ

pub returns-clause-end : goal.returns-clause-end
returns-clause-end g c = c.in_ok-end.ensures.end.0

pub returns-clause-linked : goal.returns-clause-linked
returns-clause-linked g c = subst (λ (n : ℕ). Linked (g.P.Pmem.region c.link_pages.new.memory) (c.args.tail / 4096 ∷ c.args.fresh.now) n) c.in_ok-end.ensures.end.1 c.in_ok-link_pages.ensures.linked
