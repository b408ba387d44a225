-- A world is shown by the view of true caches: its store is that of the bare keys under the namespace, whose moves the view follows; each
-- call has its form; and each proxy is seen as it is.
use Rattle.std.specs.Prelude.{◌≡◌, ℕ, ◌+◌, ◌<◌, true, false, List, length, Option, None, Some, is_some}
use Rattle.etcd_types.specs.declared.answer.Answer.{Answer}
use Rattle.etcd_types.specs.Keys.{is_empty}
use Rattle.proxy_model.specs.declared.session.TheConstants.{FIRST_SESSION}
use Rattle.proxy_model.specs.RequestRefusals.{is_session}
use Rattle.proxy_model.specs.Wrapped.{request_under}
use Rattle.store_model.specs.State.{State}
use Rattle.namespace_laws.specs.Stored.Laws.{request_lacks}
use Rattle.namespace_laws.specs.Stored.Stored.{stored, stored_answer}
use Rattle.cache_laws.specs.Moves.View.{no_slot, no_term, Call, Outcome, View}
use Rattle.cache_laws.specs.Store.StoreView.{Stands}
use Rattle.core_model.specs.declared.out_call.OutCall.{OutCall}
use Rattle.core_model.specs.State.{Core}
use Rattle.call_laws.specs.Forms.{Form, Grants, asked_by, IsFormed, Tells}
use Rattle.core_fits.specs.Fits.{EachOf}
use Rattle.core_moves.specs.Answers.{form_of_job}
use Rattle.core_moves.specs.Sees.{Sees}
use Rattle.step_moves.specs.Work.{MaySend}
use Rattle.world_model.specs.declared.sent_call.SentCall.{SentCall}
use Rattle.world_model.specs.Places.{nth, place_at}
use Rattle.world_model.specs.State.{Place, OpenedStream, World, word}
use Rattle.bridge_laws.specs.Messages.{StreamShown, LeasingWatched}
use Rattle.bridge_laws.specs.Floors.{FloorsOk}

-- Calls: `ns` is the namespace, and `p` the leasing prefix.

-- a session's grant is sent by the proxy that drew its number
abbrev pub GrantedBy : (ℕ → ℕ) → Form → ℕ → Type 0
GrantedBy holder form proxy = (ttl number : ℕ) → form ≡ Grants ttl number → is_session number ≡ true → holder number ≡ proxy

-- what the view has of a call and of what came of it
pub record CallShown (holder : ℕ → ℕ) (ns p : List ℕ) (c : Call) (o : Outcome) (form : Form) (call : SentCall) : Type 0 where
  pub asked : call.request ≡ request_under ns (asked_by p form)
  pub keys : request_lacks (asked_by p form) ≡ false
  pub formed : IsFormed p form c
  pub proxy : c.proxy ≡ call.proxy
  pub clock : c.at ≡ call.clock
  pub granted : GrantedBy holder form call.proxy
  pub done : o.done ≡ is_some call.executed
  pub tells : (a : Answer) → call.executed ≡ Some a → (b : Answer) × (a ≡ stored_answer ns b) × Tells p form o b

-- Proxies.

abbrev pub or_zero : Option ℕ → ℕ
or_zero None = 0
or_zero (Some n) = n

-- the world's number of a proxy's call, by its own; 0 of none
abbrev pub numbers : List ℕ → ℕ → ℕ
numbers ns n = or_zero (nth ns n)

-- a call that is out has the form that it is out for, and was sent when the proxy has it
abbrev pub OutShown : (ℕ → Call) → (ℕ → Form) → (ℕ → ℕ) → Core → OutCall → Type 0
OutShown calls forms own c o = form_of_job c o.call (forms (own o.call)) o.job × ((calls (own o.call)).at ≡ o.sent_at)

pub record PlaceShown (ns leasing : List ℕ) (v : View) (forms : ℕ → Form) (p : ℕ) (x : Place) : Type 0 where
  pub sees : Sees v p x.clock (numbers x.calls) x.core
  pub may : MaySend x.core
  pub namespace : x.core.settings.namespace ≡ ns
  pub prefix : x.core.own.waits.prefix ≡ leasing
  pub out : EachOf (OutShown v.calls forms (numbers x.calls) x.core) x.core.out

-- of a proxy that wasn't started yet the view has nothing
pub record IsUnseen (v : View) (p : ℕ) : Type 0 where
  pub clock : v.clocks p ≡ 0
  pub term : v.terms p ≡ no_term
  pub slots : (k : List ℕ) → v.slots p k ≡ no_slot

-- Leasing is on. `holder` says which proxy draws a session's number; no line changes it.
pub record Shown (holder : ℕ → ℕ) (w : World) : Type 0 where
  pub leases : is_empty w.leasing ≡ false
  pub bare : State
  pub store : w.store ≡ stored w.namespace bare
  pub view : View
  pub stands : Stands holder w.leasing bare view
  pub forms : ℕ → Form
  pub count : view.sent ≡ length w.calls
  pub calls : (i : ℕ) (call : SentCall) → nth w.calls i ≡ Some call → CallShown holder w.namespace w.leasing (view.calls i) (view.outcomes i) (forms i) call
  pub places : (p : ℕ) (x : Place) → place_at w p ≡ Some x → PlaceShown w.namespace w.leasing view forms p x
  pub absent : (p : ℕ) → place_at w p ≡ None → IsUnseen view p
  pub floors : FloorsOk holder view.floors view.leases w.floors w.places
  -- the numbers of sessions were drawn with the words of lines before
  pub drawn : (n : ℕ) → view.drawn n ≡ true → n < FIRST_SESSION + word w
  pub streams : (number : ℕ) (s : OpenedStream) → nth w.streams number ≡ Some s → StreamShown w.namespace bare number s
  pub watched : (p : ℕ) (x : Place) (number : ℕ) (s : OpenedStream) → place_at w p ≡ Some x → nth w.streams number ≡ Some s → LeasingWatched w.leasing bare p number s x
