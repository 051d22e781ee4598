use Rattle.std.proofs.Common.{◌≡◌, Some, set, sym, subst, ap, ◌∙◌}
use Rattle.nv_rows.specs.Rows.{row_of, place_in, IsInUse}
use Rattle.nv_rows.proofs.Places.{numbered}
use Rattle.nv_rows.proofs.rows.Rows.lend.Goals as goal

pub exchange-requires : goal.exchange-requires
exchange-requires c = subst (IsInUse c.args.self.now.items) (sym c.blank_row-row.ensures) c.requires

pub returns : goal.returns
returns c =
    let rows = c.args.self.now.items in
    let blank = c.blank_row-row.result in
    let number = c.blank_row-row.ensures in
    let at : row_of rows c.args.inode ≡ Some c.exchange.new.row = ap (row_of rows) (sym number) ∙ c.exchange.ensures.row in
    record {
      row = at;
      number = numbered rows c.args.inode c.exchange.new.row at;
      lent = record { blank = blank; number = number; all = c.exchange.ensures.rows ∙ ap (λ k. set rows (place_in rows k) blank) number };
      rising = c.exchange.ensures.rising;
      sup = c.exchange.ensures.sup;
      sizes = c.exchange.ensures.sizes;
      room = c.exchange.ensures.room;
      space = c.exchange.ensures.space;
    }
