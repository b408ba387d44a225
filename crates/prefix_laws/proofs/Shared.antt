-- Behind each prefix of a script keepalives of one lease share a call, since every proxy is sound.
use Rattle.std.proofs.Common.{None, Some}
use Rattle.prefix_laws.specs.Shared.{ScriptsShareKeepalives}
use Rattle.prefix_laws.proofs.Idle.{each_is_sound}

pub scripts_share : ScriptsShareKeepalives
scripts_share lines None s e = tt
scripts_share lines (Some w) s e = λ p x at. (each_is_sound lines w p x s e at).parts_agree.agrees.groups
