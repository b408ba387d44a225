-- Those at lower places are left.
use Rattle.sockets.proofs.tallies.Known.settle_ended.Given as goal

abbrev pub decreases-loop-left : goal.decreases-loop-left
decreases-loop-left l = l.left
