-- Behind each prefix of a script every proxy is sound, and no request and no watch of any of them waits for nothing.
use Rattle.std.proofs.Common.{None, Some}
use Rattle.waiting_laws.specs.Sound.{IsSound}
use Rattle.waiting_laws.proofs.Sound.{starts_sound, steps_stay_sound, sound_not_idle}
use Rattle.prefix_laws.specs.Idle.{EachProxyIsSound, ScriptsLeaveNoneIdle}
use Rattle.prefix_laws.proofs.Places.{OfPlaces, Lasts, places_kept}
use Rattle.prefix_laws.proofs.Prefixes.{every_told}

sound_lasts : Lasts IsSound
sound_lasts = record { start = starts_sound; step = λ c e now heard ok h. steps_stay_sound c e now heard h }

pub each_is_sound : EachProxyIsSound
each_is_sound lines w p x s e at = (every_told (OfPlaces IsSound) lines (places_kept IsSound sound_lasts lines) w s e).so p x at

pub scripts_leave_none : ScriptsLeaveNoneIdle
scripts_leave_none lines None s e = tt
scripts_leave_none lines (Some w) s e = λ p x at. sound_not_idle x.core (each_is_sound lines w p x s e at)
