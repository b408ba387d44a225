-- What is known of the world behind a script. The store numbers its watches as the world its streams; each proxy's numbers of its streams
-- since its last start were given by it, and no client stream has the leasing stream's; and each record that an answer shows was put
-- into the store, so that it has a create revision.
use Rattle.std.specs.Prelude.{◌≡◌, ℕ, ◌<◌, ◌≤◌, ◌^◌, nat_lt, Bool, true, List, length, Some, Ok}
use Rattle.std.specs.List.{list_all}
use Rattle.etcd_types.specs.declared.answer.Answer.{Answer}
use Rattle.etcd_types.specs.declared.answer.Answer.TheVariants.{Done}
use Rattle.etcd_types.specs.declared.answer.Body.{Body}
use Rattle.etcd_types.specs.declared.answer.Reply.{Reply}
use Rattle.etcd_types.specs.declared.record.Kv.{Kv}
use Rattle.proxy_model.specs.Fits.{branch_of}
use Rattle.core_model.specs.Heard.{heard}
use Rattle.script_text.specs.declared.line.Line.{Line}
use Rattle.core_laws.specs.Writes.Laws.{shown_records}
use Rattle.watch_model.specs.Lookups.{numbered}
use Rattle.world_model.specs.declared.sent_call.SentCall.{SentCall}
use Rattle.world_model.specs.Places.{nth, place_at}
use Rattle.world_model.specs.State.{Place, OpenedStream, World}
use Rattle.world_model.specs.Transcript.{world_behind}
use Rattle.core_laws.proofs.Watches.Touches.{side}
use Rattle.held_laws.proofs.Holding.{IsApart}

pub record StreamsKnown (w : World) : Type 0 where
  pub many : length w.store.watches ≡ length w.streams
  pub given : (number : ℕ) (s : OpenedStream) (x : Place) → nth w.streams number ≡ Some s → place_at w s.proxy ≡ Some x → s.life ≡ x.life → s.own ≤ x.core.watches.given
  pub apart : (p : ℕ) (x : Place) → place_at w p ≡ Some x → IsApart (side x.core).leasing x.core.watches
  pub numbers : (p : ℕ) (x : Place) → place_at w p ≡ Some x → numbered 0 x.core.watches.given x.core.watches.streams ≡ true

-- the records that a transaction's answer shows have create revisions

abbrev pub is_created : Kv → Bool
is_created kv = nat_lt 0 kv.create

abbrev pub shows_created : Body → Bool
shows_created b = list_all is_created (shown_records (branch_of b))

abbrev pub AnswersKnown : World → Type 0
AnswersKnown w = (number : ℕ) (call : SentCall) (a : Answer) (reply : Reply) → nth w.calls number ≡ Some call → call.executed ≡ Some a → heard w.namespace a ≡ Some (Done reply) → shows_created reply.body ≡ true

pub record WorldKnown (w : World) : Type 0 where
  pub streams : StreamsKnown w
  pub answers : AnswersKnown w

-- so it is behind each script of fewer than 2^60 lines
abbrev pub WorldsAreKnown : Type 0
WorldsAreKnown = (lines : List Line) (w : World) → length lines < 2 ^ 60 → world_behind lines ≡ Ok (Some w) → WorldKnown w
