-- A turn of a proxy that sends no call leaves a world that is shown.
use Rattle.std.specs.Prelude.{◌≡◌, ℕ, ◌+◌, ◌<◌, List, Some, Ok}
use Rattle.core_model.specs.declared.event.CoreEvent.{CoreEvent}
use Rattle.core_model.specs.declared.event.Outcome.{Outcome}
use Rattle.core_model.specs.Step.{stepped}
use Rattle.proxy_model.specs.declared.session.TheConstants.{FIRST_SESSION}
use Rattle.script_text.specs.declared.item.Item.{Item}
use Rattle.script_text.specs.declared.line.Line.{Line}
use Rattle.script_text.specs.declared.line.Line.TheVariants as line
use Rattle.world_model.specs.Gains.{Replies}
use Rattle.world_model.specs.Places.{nth, place_at, with_core, with_place}
use Rattle.world_model.specs.State.{Place, World, word}
use Rattle.world_laws.proofs.Effects.{Turn, ticks, asks_it, posts_it, calls, opens, closes, answers, loses, delivers, cuts, takes, waits, leaves}
use Rattle.renewed_laws.proofs.Worlds.{WorldOk}
use Rattle.bridge_laws.specs.Holder.{holder_of}
use Rattle.bridge_laws.specs.Shown.{Shown}
use Rattle.turn_laws.specs.Known.{WorldKnown}

-- It sends no call; a tick is that of the world's next line, and a call that is answered is of this proxy since its last start.
abbrev pub IsQuiet : (lines : List Line) (w : World) (p : ℕ) (x : Place) (e : CoreEvent) (o : Outcome) (v : World) (y : Place) (own : List Item) (told : Replies) → Turn w p x e o v y own told → Type 0
IsQuiet lines w p x _ _ _ _ _ _ (ticks o) = (nth lines (word w) ≡ Some (line.Tick p)) × (word w < FIRST_SESSION)
IsQuiet lines w p x _ _ _ _ _ _ (asks_it ticket q o n) = Unit {0}
IsQuiet lines w p x _ _ _ _ _ _ (posts_it ticket path body q o n) = Unit {0}
IsQuiet lines w p x _ _ _ _ _ _ (calls own member ticket q) = ⊥
IsQuiet lines w p x _ _ _ _ _ _ (opens own member ask) = Unit {0}
IsQuiet lines w p x _ _ _ _ _ _ (closes own number e) = Unit {0}
IsQuiet lines w p x _ _ _ _ _ _ (answers number call a o e f) = (call.proxy ≡ p) × (call.life ≡ x.life)
IsQuiet lines w p x _ _ _ _ _ _ (loses number call o e) = Unit {0}
IsQuiet lines w p x _ _ _ _ _ _ (delivers number s i rest o e f g h k) = Unit {0}
IsQuiet lines w p x _ _ _ _ _ _ (cuts number s o e f g h) = Unit {0}
IsQuiet lines w p x _ _ _ _ _ _ (takes ticket i) = Unit {0}
IsQuiet lines w p x _ _ _ _ _ _ (waits ticket o n) = Unit {0}
IsQuiet lines w p x _ _ _ _ _ _ (leaves ticket o) = Unit {0}

-- `x` is the place before; the world's line is counted then
abbrev pub TurnsStay : Type 0
TurnsStay =
    (lines : List Line) (items : List Item) (w : World) (p : ℕ) (x : Place) (e : CoreEvent) (o : Outcome) (v : World) (y : Place) (own : List Item) (told : Replies)
    → (t : Turn w p (with_core x (stepped x.core e x.clock).core) e o v y own told) → IsQuiet lines w p (with_core x (stepped x.core e x.clock).core) e o v y own told t
    → place_at w p ≡ Some x → (stepped x.core e x.clock).outcome ≡ Ok o → WorldOk w.namespace items w → WorldKnown w
    → Shown (holder_of lines) w → Shown (holder_of lines) (record (with_place v p y) { lines = w.lines + 1 })
