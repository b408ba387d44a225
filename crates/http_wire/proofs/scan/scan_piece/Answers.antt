use Rattle.std.proofs.Common.{ℕ, List, ◌≡◌, ◌-◌, length, take, drop, subst, arith, length-drop}
use Rattle.std.proofs.lemmas.List.{take_all}
use Rattle.http_wire.specs.declared.scan.Feed.TheVariants.{Ended}
use Rattle.http_wire.specs.Places.{Feeds}
use Rattle.http_wire.proofs.Scanning.{seen_more}
use Rattle.http_wire.proofs.scan.scan_piece.Goals as goal

pub loop-count-preserved : goal.loop-count-preserved
loop-count-preserved c =
    let bytes = c.args.bytes.now in
    let seen = c.loop-count.seen in
    let count = c.in-Ended.count in
    let before = c.loop-count.invariant in
    let left : take (length bytes - seen) (drop seen bytes) ≡ drop seen bytes =
    take_all (length bytes - seen) (drop seen bytes) (omega (arith, length-drop seen bytes)) in
    let feed = subst (λ (l : List ℕ). Feeds c.loop-count.place l (Ended count)) left c.in-Ended.ensures in
    record {
      seen = omega (arith, feed.1, length-drop seen bytes, before.seen);
      pending = seen_more c.args.first c.loop-count.place bytes seen count before.pending feed;
    }
