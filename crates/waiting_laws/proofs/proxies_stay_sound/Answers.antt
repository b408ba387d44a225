use Rattle.waiting_laws.proofs.Sound.{starts_sound, steps_stay_sound, clock_stays_sound, sound_not_idle}
use Rattle.waiting_laws.proofs.proxies_stay_sound.Goals as goal

pub returns : goal.returns
returns c = record { starts = starts_sound; steps = steps_stay_sound; clock = clock_stays_sound; idle = sound_not_idle }
