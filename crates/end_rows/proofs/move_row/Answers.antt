-- The part turns by one place, and the row goes in at its end.
use Rattle.std.proofs.Common.{◌≤◌, arith}
use Rattle.end_rows.proofs.Moves.{left_to, right_to}
use Rattle.end_rows.proofs.move_row.Goals as goal
use Rattle.end_rows.proofs.move_row.Goals.{then-from-to, else-from-to}

pub returns : goal.returns
returns g c =
    elim c.if-from-to.branch [
      | then-from-to w ↦
          let l : c.args.from ≤ c.args.to = let e = w.if-from-to.true in omega (arith, e) in
          left_to c.args.from c.args.to c.args.rows.now _ _ c.args.row l c.requires.to w.rotate_left.ensures.after w.rows-is
      | else-from-to w ↦
          let l : c.args.to ≤ c.args.from = let e = w.if-from-to.false in omega (arith, e) in
          right_to c.args.from c.args.to c.args.rows.now _ _ c.args.row l c.requires.from w.rotate_right.ensures.after w.rows-is
    ]
