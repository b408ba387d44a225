-- Keepalives that clients ask of a proxy. Those of one lease share a call, and still each ok reply is the answer to a keepalive that was
-- sent after the request was asked, as a caller of the etcd API's LeaseKeepAlive takes it to be.
use Rattle.std.specs.Prelude.{◌≡◌, ℕ, List, ◌∷◌, ◌++◌, Some, Ok}
use Rattle.etcd_types.specs.declared.answer.Answer.{Answer}
use Rattle.etcd_types.specs.declared.answer.Answer.TheVariants.{Done}
use Rattle.etcd_types.specs.declared.answer.Reply.{Reply}
use Rattle.etcd_types.specs.declared.request.Request.TheVariants as request
use Rattle.read_model.specs.declared.asked.Asked.{Asked}
use Rattle.read_model.specs.declared.asked.Stage.TheVariants as stage
use Rattle.read_model.specs.declared.asked.Verdict.TheVariants as verdict
use Rattle.core_model.specs.declared.event.CoreEvent.TheVariants as event
use Rattle.core_model.specs.declared.event.Job.TheVariants as job
use Rattle.core_model.specs.declared.event.Outcome.TheVariants as outcome
use Rattle.core_model.specs.declared.settings.Settings.{Settings}
use Rattle.core_model.specs.Heard.{heard}
use Rattle.core_model.specs.Lookups.{ask_at}
use Rattle.core_model.specs.State.{Core, first_core}
use Rattle.core_model.specs.Step.{stepped}
use Rattle.core_laws.specs.Steps.Kept.{Timed, ran, AllHeard}

-- a client asks for a keepalive of the lease
pub record IsAsked (x : Timed) (ticket lease : ℕ) : Type 0 where
  pub word : ℕ
  pub event : x.event ≡ event.Ask ticket (request.KeepAlive lease) word

-- a keepalive of the lease is sent, under this number
pub record IsSent (c : Core) (x : Timed) (call lease : ℕ) : Type 0 where
  pub member : ℕ
  pub named : ℕ
  pub event : x.event ≡ event.Work
  pub job : (stepped c x.event x.now).outcome ≡ Ok (outcome.Job (Some (job.Call call member named (request.KeepAlive lease))))

-- the call of this number is answered so, as it is heard in the namespace
pub record IsAnswered (namespace : List ℕ) (x : Timed) (call : ℕ) (reply : Reply) : Type 0 where
  pub answer : Answer
  pub event : x.event ≡ event.Answer call answer
  pub heard : heard namespace answer ≡ Some (Done reply)

-- among these steps of a proxy the request was asked, and then the keepalive was sent
pub record SentLater (settings : Settings) (xs : List Timed) (ticket lease call : ℕ) : Type 0 where
  pub before : List Timed
  pub asks : Timed
  pub between : List Timed
  pub sends : Timed
  pub after : List Timed
  pub steps : xs ≡ (before ++ asks ∷ between) ++ sends ∷ after
  pub asked : IsAsked asks ticket lease
  pub sent : IsSent (ran (first_core settings) (before ++ asks ∷ between)) sends call lease

-- and it was answered so
pub record Renews (settings : Settings) (xs : List Timed) (ticket lease : ℕ) (reply : Reply) : Type 0 where
  pub call : ℕ
  pub sent : SentLater settings xs ticket lease call
  pub before : List Timed
  pub answers : Timed
  pub after : List Timed
  pub steps : xs ≡ before ++ answers ∷ after
  pub answered : IsAnswered settings.namespace answers call reply

-- After any steps from a proxy's start: what a client's keepalive is replied with is the answer to a keepalive of its lease that was sent
-- behind it.
abbrev pub RunsRenew : Type 0
RunsRenew =
    (settings : Settings) (xs : List Timed) → AllHeard (first_core settings) xs
    → (ticket lease : ℕ) (a : Asked) (reply : Reply) → ask_at ticket (ran (first_core settings) xs).asks ≡ Some a
    → a.request ≡ request.KeepAlive lease → a.stage ≡ stage.Replied (verdict.Said (Done reply)) → Renews settings xs ticket lease reply
