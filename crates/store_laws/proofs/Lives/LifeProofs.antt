-- A store is sound through its life.
use Rattle.std.proofs.Common.{◌≡◌, List, [], ◌∷◌, Result, Ok, Err, refl, inl, inr}
use Rattle.etcd_types.specs.declared.watch.WatchItem.{WatchItem}
use Rattle.store_model.specs.declared.store_fault.StoreFault.{StoreFault}
use Rattle.store_model.specs.State.{State, starting}
use Rattle.store_model.specs.Leases.{expired}
use Rattle.store_model.specs.Members.{applied}
use Rattle.store_model.specs.Watches.{Pushed, pushed, progressed}
use Rattle.store_laws.specs.Lives.Lives.{StoreStep, executes, expires, applies, opens, pushes, progresses, state_or, pushed_or, stepped, lived, LivesAreSound}
use Rattle.store_laws.specs.Lives.Sound.{Sound}
use Rattle.store_laws.proofs.Lives.SoundProofs.{starts_sound, requests_keep_sound, expiries_keep_sound, applies_keep_sound, openings_keep_sound, messages_keep_sound}

sound_or : (s : State) (r : Result State StoreFault) → ((t : State) → r ≡ Ok t → Sound t) → Sound s → Sound (state_or s r)
sound_or s (Ok t) f h = f t refl
sound_or s (Err fault) f h = h

sound_pushed : (s : State) (p : Pushed) → ((t : State) (i : WatchItem) → p ≡ Ok (t, i) → Sound t) → Sound s → Sound (pushed_or s p)
sound_pushed s (Ok p) f h = f p.0 p.1 refl
sound_pushed s (Err fault) f h = h

pub step_sound : (s : State) (e : StoreStep) → Sound s → Sound (stepped s e)
step_sound s (executes member q) h = requests_keep_sound s member q h
step_sound s (expires lease) h = sound_or s (expired s lease) (λ t e. expiries_keep_sound s t lease e h) h
step_sound s (applies member revision) h = sound_or s (applied s member revision) (λ t e. applies_keep_sound s t member revision e h) h
step_sound s (opens member ask) h = openings_keep_sound s member ask h
step_sound s (pushes number) h = sound_pushed s (pushed s number) (λ t i e. messages_keep_sound s t i number (inl e) h) h
step_sound s (progresses number) h = sound_pushed s (progressed s number) (λ t i e. messages_keep_sound s t i number (inr e) h) h

life_sound : (s : State) (es : List StoreStep) → Sound s → Sound (lived s es)
life_sound s [] h = h
life_sound s (e ∷ es) h = life_sound (stepped s e) es (step_sound s e h)

pub lives_are_sound : LivesAreSound
lives_are_sound members es = life_sound (starting members) es (starts_sound members)
