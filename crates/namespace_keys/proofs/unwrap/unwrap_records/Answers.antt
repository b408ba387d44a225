use Rattle.std.proofs.lemmas.Result.{err_from_is_err_and}
use Rattle.proxy_model.specs.Unwrapped.{record_without}
use Rattle.namespace_keys.proofs.Turns.{each_more, each_fails}
use Rattle.namespace_keys.proofs.unwrap.unwrap_records.Goals as goal

pub returns-in_err-unwrap_record : goal.returns-in_err-unwrap_record
returns-in_err-unwrap_record c =
    let p = err_from_is_err_and c.from_residual.result c.from_residual.ensures.1 in
    rw (p.1, p.2) (each_fails (record_without c.args.prefix.now) c.args.records.now c.as_slice-record-items.result.now c.loop-record.unwrapped c.loop-record.record-index c.record-item.result c.in_err-unwrap_record.field-0.0 c.as_slice-record-items.ensures c.loop-record-test.true c.record-item.is c.loop-record.invariant c.in_err-unwrap_record.ensures)

pub loop-record-preserved : goal.loop-record-preserved
loop-record-preserved c =
    rw c.in_ok-push.ensures.ok (each_more (record_without c.args.prefix.now) c.args.records.now c.as_slice-record-items.result.now c.loop-record.unwrapped c.loop-record.record-index c.record-item.result c.in_ok-unwrap_record.field-0 c.as_slice-record-items.ensures c.loop-record-test.true c.record-item.is c.loop-record.invariant c.in_ok-unwrap_record.ensures)
