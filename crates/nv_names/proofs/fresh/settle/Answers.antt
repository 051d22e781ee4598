use Rattle.std.proofs.Common.{◌≡◌, ◌-◌, ◌∙◌, length, map, take, slice_get, ap, sym, arith}
use Rattle.nv_names.specs.Table.{fresh_line}
use Rattle.nv_names.proofs.Beside.{FindSame-front}
use Rattle.nv_names.proofs.Calls.{last_settled}
use Rattle.nv_names.proofs.fresh.settle.Goals as goal

pub returns-in_err-_had-clause-names : goal.returns-in_err-_had-clause-names
returns-in_err-_had-clause-names c = λ q. FindSame-front c.loop-entry.buckets c.put.new.self (map fresh_line c.loop-entry.fresh.items) c.in_err-_had.ensures.err q ∙ c.loop-entry.invariant.same q

pub loop-entry-preserved : goal.loop-entry-preserved
loop-entry-preserved c =
    let all = ap length c.deref.ensures.value in
    let lent = c.deref.ensures.len in
    let told = c.len.ensures in
    let same : c.len.result ≡ length c.loop-entry.fresh.items = omega (arith, all, lent, told) in
    let both =
    last_settled c.loop-entry.buckets c.put.new.self c.loop-entry.fresh.items c.truncate.new.self.items c.in-Some.entry.now
    (sym (c.in-Some.ensures.value ∙ ap (λ xs. slice_get xs (length xs - 1)) c.deref.ensures.value))
    (c.truncate.ensures.items ∙ ap (λ n. take (n - 1) c.loop-entry.fresh.items) same)
    c.loop-entry.invariant.beside
    (rw c.as_bytes.ensures.bytes at c.in_ok-_had.ensures.ok) in
    let cut = c.truncate.ensures.len in
    let before = c.loop-entry.invariant.len in
    record {
      beside = both.0;
      same = λ q. both.1 q ∙ c.loop-entry.invariant.same q;
      len = omega (arith, cut, before);
      capacity = c.truncate.ensures.capacity ∙ c.loop-entry.invariant.capacity;
    }
