use Rattle.store_laws.proofs.Lives.Histories.{records_are_made}
use Rattle.store_laws.proofs.Lives.LifeProofs.{lives_are_sound}
use Rattle.store_laws.proofs.Lives.SoundProofs.{starts_sound, requests_keep_sound, expiries_keep_sound, applies_keep_sound, openings_keep_sound, messages_keep_sound}
use Rattle.store_laws.proofs.laws_of_lives.stores_are_sound.Goals as goal

pub returns : goal.returns
returns c = record {
  made = records_are_made;
  starts = starts_sound;
  requests = requests_keep_sound;
  expiries = expiries_keep_sound;
  applies = applies_keep_sound;
  openings = openings_keep_sound;
  messages = messages_keep_sound;
  lives = lives_are_sound;
}
