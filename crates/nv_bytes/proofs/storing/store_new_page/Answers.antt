use Rattle.std.proofs.Common.{◌≡◌, ◌*◌, length, arith}
use Rattle.nv_region.proofs.Fuses.{keeps_within}
use Rattle.nv_region.proofs.Wordwise.{stores_within}
use Rattle.nv_region.proofs.RowStores.{row_stores}
use Rattle.nv_bytes.specs.Bytes.{byte_after}
use Rattle.nv_bytes.proofs.StoredPages.{page_stored}
use Rattle.nv_bytes.proofs.storing.store_new_page.Goals as goal
use Rattle.nv_bytes.specs.Data.{data_bytes}

pub returns-clause-stored : goal.returns-clause-stored
returns-clause-stored g c old =
    page_stored c.store_words.result (g.P.Pmem.region c.args.memory.now) _ (byte_after c.args.change.now.offset (data_bytes c.args.change.now.content) c.args.change.now.size old) c.args.to c.args.page c.read.new.words (omega (arith, c.read.ensures.as_long)) c.requires.to
    c.len-length.ensures.short (λ j i low few. c.read.ensures.read j i old low few) c.store_words.ensures.stored

pub returns-clause-wrote : goal.returns-clause-wrote
returns-clause-wrote g c =
    let all : length c.read.new.words ≡ 512 = omega (arith, c.read.ensures.as_long) in
    stores_within _ _ _ _ _ _ (λ i v t. omega (arith, t.0, t.1, all))
    (row_stores c.store_words.result _ _ (c.args.to * 4096) _ _ _ _ (omega arith) c.store_words.ensures.stored c.store_words.ensures.may_keep c.store_words.ensures.refused)

pub returns-clause-keeps_fuse : goal.returns-clause-keeps_fuse
returns-clause-keeps_fuse g c = keeps_within (λ limit past. omega (arith, past, c.read.ensures.as_long)) c.store_words.ensures.keeps_fuse
