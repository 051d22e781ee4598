use Rattle.std.proofs.Common.{◌≡◌, ◌++◌, ℕ, List, ap, refl, subst, sym, ◌∙◌, Some}
use Rattle.std.proofs.lemmas.Option.{get_or_from_slice_get}
use Rattle.nv_super.specs.declared.faults.Fault.{Fault}
use Rattle.nv_radix.specs.Runs.{block_by}
use Rattle.nv_scan.specs.Claims.{AreClaimsBy}
use Rattle.nv_scan.specs.declared.piece.Row.{Row}
use Rattle.nv_scan.proofs.Scanning.{last_row, last_set}
use Rattle.nv_scan.proofs.scan.keep.Goals as goal

pub returns-in-Ok-clause-kept : goal.returns-in-Ok-clause-kept
returns-in-Ok-clause-kept c =
    let used = c.args.used.now in
    let blank = c.row_without_pages.result in
    let row = c.fill_row.new.row in
    let claims = c.fill_row.new.claims in
    let filled = c.in-Ok.ensures in
    let end = c.len-rows.ensures in
    let read = sym (get_or_from_slice_get c.push.new.self.rows.items c.len-rows.result c.at_mut.result.now c.at_mut.result.now c.at_mut.ensures.value) in
    let was : c.at_mut.result.now ≡ blank = last_row _ c.args.inodes.now.rows.items blank _ c.in_ok-push.ensures.rows end read in
    let is = c.row_without_pages.ensures.row in
    let inode : row.inode ≡ used.inode = filled.same.0 ∙ ap (λ (r : Row). r.inode) was ∙ is.0 in
    let told : c.deref.result.now ≡ c.push_fault.new.faults.items = c.deref.ensures.value ∙ ap (λ v. v.items) c.row_without_pages.ensures.others.1 in
    record {
      piece = record { inode = used.inode; row = Some row; claims = claims; faults = c.push_fault.new.faults };
      is = record {
        inode = refl;
        row = row;
        has_row = refl;
        is_row = (
          inode,
          filled.same.1 ∙ ap (λ (r : Row). r.kind) was ∙ is.1,
          filled.same.2 ∙ ap (λ (r : Row). r.numbers) was ∙ is.2,
          filled.same.3 ∙ ap (λ (r : Row). r.head) was ∙ is.3,
          filled.same.4 ∙ ap (λ (r : Row). r.tail) was ∙ is.4,
          filled.pages_are,
          λ p. filled.index p ∙ ap (λ extents. block_by extents p) c.row_without_pages.ensures.others.0,
          filled.same.5 ∙ ap (λ (r : Row). r.names) was ∙ is.5,
        );
        claims = subst (λ (i : ℕ). AreClaimsBy used.table i c.args.pages.now row.index claims.items) inode filled.claims_are;
        faults = c.in_ok-push_fault.ensures.pushed;
      };
      rows = last_set _ c.args.inodes.now.rows.items blank row c.in_ok-push.ensures.rows end;
      faults = c.in_ok-push.ensures.faults ∙ ap (λ (fs : List Fault). c.args.inodes.now.faults.items ++ fs) told;
      claims_are = refl;
    }
