-- The first due job is sent, as moves of the view: a call goes out under the next number, in its form.
use Rattle.std.specs.Prelude.{◌≡◌, ◌+◌, ◌++◌, ℕ, Bool, true, false, not, [], ◌∷◌, Option, None, Some, Result, Ok}
use Rattle.etcd_types.specs.declared.request.Request.{Request}
use Rattle.etcd_types.specs.declared.request.Request.TheVariants as request
use Rattle.etcd_types.specs.Keys.{is_empty}
use Rattle.proxy_model.specs.Keyed.{is_in_order}
use Rattle.proxy_model.specs.Wrapped.{request_under}
use Rattle.read_model.specs.declared.asked.Stage.{Stage}
use Rattle.read_model.specs.declared.asked.Stage.TheVariants as stage
use Rattle.core_model.specs.declared.event.Job.TheVariants as sent
use Rattle.core_model.specs.declared.event.Outcome.{Outcome}
use Rattle.core_model.specs.declared.event.Outcome.TheVariants as outcome
use Rattle.core_model.specs.declared.event.StepFault.{StepFault}
use Rattle.core_model.specs.declared.out_call.OutJob.{OutJob}
use Rattle.core_model.specs.Fits.{CoreOk}
use Rattle.core_model.specs.Kinds.{writes_keys}
use Rattle.core_model.specs.Sending.{next_call, out_call, on_work}
use Rattle.core_model.specs.State.{Core}
use Rattle.core_model.specs.Stepped.{Stepped}
use Rattle.cache_laws.specs.Moves.View.{Call, View, put}
use Rattle.cache_laws.specs.Moves.Invariant.{Inv}
use Rattle.call_laws.specs.Forms.{Form, asked_by, IsFormed}
use Rattle.core_fits.specs.Fits.{EachOf, CoreFits}
use Rattle.owner_fits.specs.Laws.{OwnersFit, NamesIn}
use Rattle.core_moves.specs.Answers.{form_of_job}
use Rattle.core_moves.specs.Sees.{Sees, Alike, Moves}

-- the request of a call that goes out, under the namespace
abbrev pub call_in : Result Outcome StepFault → Option Request
call_in (Ok (outcome.Job (Some (sent.Call call member ticket q)))) = Some q
call_in _ = None

-- the view with a call more, behind all others
abbrev pub with_call : View → Call → View
with_call v call = record v { sent = v.sent + 1; calls = put v.calls (v.sent + 1) call }

-- The view has the call behind all others, in its form; its proxy is seen as it is then, and nothing else is changed. `c` is the proxy
-- before, and `d` behind the sending.
pub record SendsOut (holder : ℕ → ℕ) (v : View) (p now : ℕ) (own : ℕ → ℕ) (c d : Core) (q : Request) : Type 0 where
  pub form : Form
  pub call : Call
  pub after : View
  pub asked : q ≡ request_under c.settings.namespace (asked_by c.own.waits.prefix form)
  pub formed : IsFormed c.own.waits.prefix form call
  pub by : call.proxy ≡ p
  pub at : call.at ≡ now
  pub inv : Inv holder after
  pub sees : Sees after p now own d
  pub alike : Alike p (with_call v call) after
  -- what it is out for has this form
  pub job : OutJob
  pub out : d.out ≡ c.out ++ out_call now job c ∷ []
  pub suits : form_of_job d (next_call c) form job

abbrev pub WorkMoved : (ℕ → ℕ) → View → ℕ → ℕ → (ℕ → ℕ) → Core → Core → Option Request → Type 0
WorkMoved holder v p now own c d None = Moves holder v p now own d
WorkMoved holder v p now own c d (Some q) = SendsOut holder v p now own c d q

abbrev pub Worked : (ℕ → ℕ) → View → ℕ → ℕ → (ℕ → ℕ) → Core → Stepped → Type 0
Worked holder v p now own c x = WorkMoved holder v p now own c x.core (call_in x.outcome)

-- What goes out as a client's own call writes no key and is no watch: with leasing on, a write is sent behind the ownership keys, and
-- a watch joins a stream.

abbrev pub is_calling : Stage → Bool
is_calling (stage.Calling s) = true
is_calling _ = false

abbrev pub is_called : Request → Bool
is_called (request.Watch ask) = false
is_called q = not (writes_keys q)

abbrev pub ClientsFit : Core → Type 0
ClientsFit c = EachOf (λ a. is_calling a.stage ≡ true → is_called a.request ≡ true) c.asks

-- what holds of the proxy that sends; leasing is on, and entries stand in the order of their keys
pub record MaySend (c : Core) : Type 0 where
  pub leases : is_empty c.own.waits.prefix ≡ false
  pub ok : CoreOk c
  pub fits : CoreFits c
  pub owners : OwnersFit c
  pub names : NamesIn c
  pub in_order : is_in_order c.own.entries ≡ true
  pub clients : ClientsFit c

-- the proxy's own number of the call is already known to be the view's next
abbrev pub WorkMoves : Type 0
WorkMoves =
    (holder : ℕ → ℕ) (v : View) (p now : ℕ) (own : ℕ → ℕ) (c : Core) → MaySend c → own (next_call c) ≡ v.sent + 1 → Sees v p now own c → Inv holder v → Worked holder v p now own c (on_work now c)
