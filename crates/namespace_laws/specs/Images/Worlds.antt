-- Of every script: all calls and streams of the world go out under its namespace, and its store is the image, under the namespace,
-- of a store of bare keys that began empty, to which the same was done and nothing with an empty key.
use Rattle.std.specs.Prelude.{◌≡◌, ℕ, true, not, List, Some, Ok}
use Rattle.std.specs.List.{list_all}
use Rattle.etcd_types.specs.declared.answer.Answer.{Answer}
use Rattle.etcd_types.specs.declared.answer.Answer.TheVariants.{Done}
use Rattle.etcd_types.specs.declared.answer.Reply.{Reply}
use Rattle.etcd_types.specs.declared.request.Request.{Request}
use Rattle.etcd_types.specs.declared.request.WatchAsk.{WatchAsk}
use Rattle.core_model.specs.Heard.{heard}
use Rattle.script_text.specs.declared.line.Line.{Line}
use Rattle.store_model.specs.declared.watch.OpenWatch.{OpenWatch}
use Rattle.store_model.specs.State.{starting}
use Rattle.store_model.specs.Step.{exec}
use Rattle.store_laws.specs.Lives.Lives.{StoreStep, lived}
use Rattle.proxy_model.specs.Wrapped.{request_under, watch_under}
use Rattle.namespace_laws.specs.Stored.Lives.{step_lacks}
use Rattle.namespace_laws.specs.Stored.Stored.{stored, stored_answer}
use Rattle.world_model.specs.declared.sent_call.SentCall.{SentCall}
use Rattle.world_model.specs.Places.{nth, place_at}
use Rattle.world_model.specs.State.{Place, World}
use Rattle.world_model.specs.Transcript.{world_behind}
use Rattle.namespace_laws.specs.Images.Named.{CallUnder, CoreNamed}

-- A proxy has the world's namespace and leasing prefix, and nothing that it may send has an empty key.
pub record ProxyUnder (w : World) (x : Place) : Type 0 where
  pub namespace : x.core.settings.namespace ≡ w.namespace
  pub named : CoreNamed w.leasing x.core

abbrev pub ProxiesStayUnder : Type 0
ProxiesStayUnder = (lines : List Line) (w : World) (p : ℕ) (x : Place) → world_behind lines ≡ Ok (Some w) → place_at w p ≡ Some x → ProxyUnder w x

abbrev pub CallsGoUnder : Type 0
CallsGoUnder =
    (lines : List Line) (w : World) (number : ℕ) (call : SentCall) → world_behind lines ≡ Ok (Some w) → nth w.calls number ≡ Some call
    → CallUnder w.namespace call.request

-- the store numbers its watches as the world its streams
abbrev pub StreamsGoUnder : Type 0
StreamsGoUnder =
    (lines : List Line) (w : World) (number : ℕ) (watch : OpenWatch) → world_behind lines ≡ Ok (Some w) → nth w.store.watches number ≡ Some watch
    → (bare : WatchAsk) × (watch.ask ≡ watch_under w.namespace bare)

-- what was done to the store of the bare keys, and that the world's store is its image
pub record IsImage (w : World) : Type 0 where
  pub steps : List StoreStep
  pub keys : list_all (λ e. not (step_lacks e)) steps ≡ true
  pub store : w.store ≡ stored w.namespace (lived (starting w.members) steps)

abbrev pub StoresAreImages : Type 0
StoresAreImages = (lines : List Line) (w : World) → world_behind lines ≡ Ok (Some w) → IsImage w

-- What an executed call was answered: the image of what the bare store, to which this had been done, answers to the bare request.
pub record IsBareAnswer (w : World) (call : SentCall) (a : Answer) : Type 0 where
  pub bare : Request
  pub under : call.request ≡ request_under w.namespace bare
  pub before : List StoreStep
  pub keys : list_all (λ e. not (step_lacks e)) before ≡ true
  pub answer : a ≡ stored_answer w.namespace (exec (lived (starting w.members) before) call.member bare).1

abbrev pub AnswersAreImages : Type 0
AnswersAreImages =
    (lines : List Line) (w : World) (number : ℕ) (call : SentCall) (a : Answer) → world_behind lines ≡ Ok (Some w) → nth w.calls number ≡ Some call → call.executed ≡ Some a
    → IsBareAnswer w call a

-- so what a proxy hears of it is the answer with bare keys
abbrev pub RepliesAreHeardBare : Type 0
RepliesAreHeardBare = (namespace : List ℕ) (reply : Reply) → heard namespace (stored_answer namespace (Done reply)) ≡ Some (Done reply)
