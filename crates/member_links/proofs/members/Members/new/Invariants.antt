-- Each host that was read is a member.
use Rattle.std.proofs.Common.{◌≡◌, vec_len}
use Rattle.member_links.proofs.members.Members.new.Given as goal

abbrev pub invariant-loop-host : goal.invariant-loop-host
invariant-loop-host g l = vec_len l.all ≡ l.host-index
