use Rattle.std.proofs.Common.{◌≡◌, ◌≢◌, ℕ, ◌+◌, ◌*◌, ◌<◌, ◌≤◌, IfSome, arith, ap, refl, sym, ◌∙◌, subst, is_err, length}
use Rattle.std.proofs.lemmas.Result.{err_from_is_err_and}
use Rattle.nv_region.specs.Region.{Region, size, word}
use Rattle.nv_region.proofs.Fuses.{keeps_more}
use Rattle.nv_region.proofs.Wordwise.{stores_more, stores_none}
use Rattle.nv_region.specs.Lines.{put_words}
use Rattle.nv_region.proofs.Lines.{put_words_size}
use Rattle.nv_region.proofs.RowStores.{row_stores}
use Rattle.nv_mounted.specs.Bytes.{byte_in}
use Rattle.nv_bytes.specs.Bytes.{byte_after, byte_of_word}
use Rattle.nv_bytes.specs.Storing.{InBlocks}
use Rattle.nv_mounted.proofs.BytesKept.{byte_stays}
use Rattle.nv_bytes.proofs.StoredPages.{at_some, words_more, words_hold, none_below}
use Rattle.nv_bytes.proofs.storing.store_mixed_page.Goals as goal
use Rattle.nv_bytes.specs.Data.{data_bytes}

pub loop-k-preserved : goal.loop-k-preserved
loop-k-preserved g c =
    let eight : length c.next_line-line.result ≡ 8 = omega arith in
    let short : length (g.P.Pmem.region c.loop-k.memory).rest < 8 = omega (arith, c.len-length.ensures.short, ap length c.loop-k.invariant.wrote.mixed.same_rest) in
    record {
      made =
          words_more (g.P.Pmem.region c.loop-k.memory) (g.P.Pmem.region c.store_words.new.self) (byte_after c.args.change.now.offset (data_bytes c.args.change.now.content) c.args.change.now.size (byte_in (g.P.Pmem.region c.args.memory.now) c.args.from))
          c.args.to c.args.page c.loop-k.k c.next_line-line.result c.loop-k.invariant.made (c.in_ok-store_words.ensures.stored ∙ ap (put_words (g.P.Pmem.region c.loop-k.memory) (c.args.to * 4096 + 64 * c.loop-k.k) c.next_line-line.result) eight) (omega (arith, c.requires.to, c.loop-k.invariant.len, c.loop-k-test.true)) short
          (λ j i low few. c.next_line-line.ensures j i low few
          ∙ ap (λ (b : ℕ). byte_after c.args.change.now.offset (data_bytes c.args.change.now.content) c.args.change.now.size (λ y. b) (c.args.page * 4096 + 64 * c.loop-k.k + 8 * j + i))
          (byte_stays (g.P.Pmem.region c.args.memory.now) (g.P.Pmem.region c.loop-k.memory) (InBlocks (λ b. b ≡ c.args.to)) c.args.from (c.args.page * 4096 + 64 * c.loop-k.k + 8 * j + i) c.loop-k.invariant.wrote.mixed
          (λ b is n v w t. at_some (λ x. x ≢ c.args.to) c.args.from b c.requires.apart is (sym w ∙ t))));
      wrote = stores_more _ _ _ _ _ _ _ _ (λ i v t. omega (arith, t.0, t.1, c.loop-k-test.true, eight)) c.loop-k.invariant.wrote
          (row_stores c.store_words.result _ _ (c.args.to * 4096 + 64 * c.loop-k.k) _ _ _ _ (omega arith) c.store_words.ensures.stored c.store_words.ensures.may_keep c.store_words.ensures.refused);
      len = ap (λ (R : Region). size R) c.in_ok-store_words.ensures.stored ∙ put_words_size (g.P.Pmem.region c.loop-k.memory) (c.args.to * 4096 + 64 * c.loop-k.k) c.next_line-line.result (length c.next_line-line.result) ∙ c.loop-k.invariant.len;
      quiet = λ some. sym c.store_words.ensures.stopped ∙ ap is_err c.in_ok-store_words.was;
      keeps_fuse = keeps_more (λ limit end. omega (arith, end, c.loop-k-test.true, eight)) c.loop-k.invariant.keeps_fuse c.store_words.ensures.keeps_fuse;
    }

pub returns-in_err-store_words-clause-wrote : goal.returns-in_err-store_words-clause-wrote
returns-in_err-store_words-clause-wrote g c =
    let eight : length c.next_line-line.result ≡ 8 = omega arith in
    stores_more _ _ _ _ _ _ _ _ (λ i v t. omega (arith, t.0, t.1, c.loop-k-test.true, eight)) c.loop-k.invariant.wrote
    (row_stores c.store_words.result _ _ (c.args.to * 4096 + 64 * c.loop-k.k) _ _ _ _ (omega arith) c.store_words.ensures.stored c.store_words.ensures.may_keep c.store_words.ensures.refused)

pub returns-clause-stored : goal.returns-clause-stored
returns-clause-stored g c =
    words_hold (g.P.Pmem.region c.loop-k.memory) (byte_after c.args.change.now.offset (data_bytes c.args.change.now.content) c.args.change.now.size (byte_in (g.P.Pmem.region c.args.memory.now) c.args.from)) c.args.to c.args.page
    (λ j i below few. c.loop-k.invariant.made j i (omega (arith, below, c.loop-k-test.false)) few)

pub returns-in_err-store_words-clause-stopped : goal.returns-in_err-store_words-clause-stopped
returns-in_err-store_words-clause-stopped g c =
    let error = err_from_is_err_and c.from_residual.result c.from_residual.ensures.1 in
    ap is_err error.1 ∙ sym (ap is_err c.in_err-store_words.was) ∙ c.store_words.ensures.stopped

pub returns-clause-wrote : goal.returns-clause-wrote
returns-clause-wrote g c = c.loop-k.invariant.wrote

pub returns-clause-keeps_fuse : goal.returns-clause-keeps_fuse
returns-clause-keeps_fuse g c = c.loop-k.invariant.keeps_fuse

pub next_line-line-requires-clause-inside : goal.next_line-line-requires-clause-inside
next_line-line-requires-clause-inside g c = subst (λ (n : ℕ). IfSome c.args.from (λ b. b * 4096 + 4096 ≤ n)) (sym c.loop-k.invariant.len) c.requires.from

pub next_line-line-requires-clause-small : goal.next_line-line-requires-clause-small
next_line-line-requires-clause-small g c = c.requires.small

pub loop-k-init : goal.loop-k-init
loop-k-init g c = record {
  made = λ j i low few. none_below (λ (j : ℕ). byte_of_word (word (g.P.Pmem.region c.args.memory.now) (c.args.to * 4096 + 8 * j)) i ≡ byte_after c.args.change.now.offset (data_bytes c.args.change.now.content) c.args.change.now.size (byte_in (g.P.Pmem.region c.args.memory.now) c.args.from) (c.args.page * 4096 + 8 * j + i)) j low;
  wrote = stores_none (InBlocks (λ b. b ≡ c.args.to)) (g.P.Pmem.region c.args.memory.now) (g.P.Pmem.may_hold c.args.memory.now);
  len = refl;
  quiet = λ some. absurd (omega (arith, some));
  keeps_fuse = record { burnt = λ was. was; steady = λ was. was; stays_open = λ limit past was. was };
}
