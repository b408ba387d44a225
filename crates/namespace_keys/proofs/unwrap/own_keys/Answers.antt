use Rattle.namespace_keys.proofs.Keys.{own_added, own_left_out}
use Rattle.namespace_keys.proofs.unwrap.own_keys.Goals as goal
use Rattle.namespace_keys.proofs.unwrap.own_keys.Goals.{in-Some+in_ok-from_slice-in-Some+in_ok-push-in-Some, in-None}

pub loop-key-preserved : goal.loop-key-preserved
loop-key-preserved c =
    elim c.match-without.branch [
      | in-Some+in_ok-from_slice-in-Some+in_ok-push-in-Some w ↦
          let added = own_added c.args.prefix.now c.args.keys.now c.as_slice-key-items.result.now c.loop-key.key-index c.key-item.result w.in-Some.rest.now c.loop-key.own c.as_slice-key-items.ensures c.loop-key-test.true c.key-item.is w.in-Some.ensures c.loop-key.invariant in
          cc (w.own-is, w.in_ok-push-in-Some.ensures.ok, w.in_ok-from_slice-in-Some.ensures, added)
      | in-None w ↦
          let left = own_left_out c.args.prefix.now c.args.keys.now c.as_slice-key-items.result.now c.loop-key.key-index c.key-item.result c.loop-key.own c.as_slice-key-items.ensures c.loop-key-test.true c.key-item.is w.in-None.ensures c.loop-key.invariant in
          cc (w.own-is, left)
    ]
