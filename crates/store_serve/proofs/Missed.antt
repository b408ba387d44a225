-- A call for a step that gave nothing, and what a connection then ends with.
use Rattle.std.proofs.Common.{◌≡◌, ℕ, Bool, false, List, [], ◌∷◌, ◌++◌, Option, None, Some, Ok, IfSome, sym, subst}
use Rattle.std.specs.Io.KnownBytes.{Appends}
use Rattle.http_talk.specs.declared.form.RefusalForm.TheVariants.{Mapping}
use Rattle.http_talk.specs.declared.received.Received.{Received}
use Rattle.http_talk.specs.Receiving.{Receives}
use Rattle.http_talk.specs.Replies.{go_on_of}
use Rattle.http_talk.specs.Requests.{Ahead, IsRequest}
use Rattle.etcd_types.specs.declared.request.Request.{Request}
use Rattle.etcd_types.specs.declared.request.Request.TheVariants as request
use Rattle.etcd_types.specs.declared.request.WatchAsk.{WatchAsk}
use Rattle.etcd_types.specs.declared.watch.WatchItem.{WatchItem}
use Rattle.turn_hub.specs.declared.fault.HubFault.{HubFault}
use Rattle.turn_hub.specs.declared.fault.HubFault.TheVariants as hub
use Rattle.turn_hub.specs.History.{entry_of}
use Rattle.turn_hub.specs.Known.{made}
use Rattle.shop_model.specs.declared.event.StoreEvent.TheVariants.{Exec, Open, Push}
use Rattle.shop_model.specs.declared.event.StoreOutcome.TheVariants as outcome
use Rattle.shop_model.specs.declared.event.StoreStepFault.{StoreStepFault}
use Rattle.shop_dialog.specs.declared.ends.StoreEnd.{StoreEnd}
use Rattle.shop_dialog.specs.declared.progress.Stop.{Stop}
use Rattle.shop_dialog.specs.declared.progress.Stop.TheVariants as stop
use Rattle.shop_dialog.specs.Steps.{Step, IsFull}
use Rattle.shop_dialog.specs.Exchanges.{Asks, Stopped, end_in}
use Rattle.shop_dialog.proofs.Pushing.{push_failed, push_late}
use Rattle.shop_dialog.proofs.Replying.{unexecuted, unopened, unwatched, late}
use Rattle.store_serve.specs.Missing.{Misses, brought, end_of}
use Rattle.store_serve.proofs.Fitting.{Seen}

-- the same by another name
pub brought_as : (a b : List Step) (n now : ℕ) (x y : Option WatchItem) → x ≡ y → b ≡ a ++ entry_of (Push n) now (Ok (brought x)) ∷ [] → b ≡ a ++ entry_of (Push n) now (Ok (brought y)) ∷ []
brought_as a b n now x y e m = subst (λ (z : Option WatchItem). b ≡ a ++ entry_of (Push n) now (Ok (brought z)) ∷ []) e m

pub push_missed : (before after : Seen) (n now : ℕ) (begun : Bool) (w : Option (List ℕ)) (fault : HubFault StoreStepFault) (e : StoreEnd) → e ≡ end_of fault → Misses (Push n) now before after fault
    → Stopped (IsFull after) n begun (made before) (made after) w w (stop.Unanswered e)
push_missed before after n now begun w hub.Worn e is m =
    subst (λ (x : StoreEnd). Stopped (IsFull after) n begun (made before) (made after) w w (stop.Unanswered x)) (sym is) (push_late (IsFull after) n begun (made before) (made after) w m.1 m.0)
push_missed before after n now begun w (hub.Machine f) e is m = push_failed (IsFull after) n now begun (made before) (made after) w f e is m.1 m.0

pub exec_missed : (before after : Seen) (q : Request) (now : ℕ) (w : Option (List ℕ)) (fault : HubFault StoreStepFault) (e : StoreEnd) → e ≡ end_of fault → Misses (Exec q) now before after fault
    → Asks (IsFull after) q (made before) (made after) w w (Some e)
exec_missed before after q now w hub.Worn e is m =
    subst (λ (x : StoreEnd). Asks (IsFull after) q (made before) (made after) w w (Some x)) (sym is) (late (IsFull after) q (made before) (made after) w m.1 m.0)
exec_missed before after q now w (hub.Machine f) e is m = unexecuted (IsFull after) q now f (made before) (made after) w e is m.1 m.0

pub open_missed : (before after : Seen) (ask : WatchAsk) (now : ℕ) (w : Option (List ℕ)) (fault : HubFault StoreStepFault) (e : StoreEnd) → e ≡ end_of fault → Misses (Open ask) now before after fault
    → Asks (IsFull after) (request.Watch ask) (made before) (made after) w w (Some e)
open_missed before after ask now w hub.Worn e is m =
    subst (λ (x : StoreEnd). Asks (IsFull after) (request.Watch ask) (made before) (made after) w w (Some x)) (sym is) (late (IsFull after) (request.Watch ask) (made before) (made after) w m.1 m.0)
open_missed before after ask now w (hub.Machine f) e is m = unopened (IsFull after) ask now f (made before) (made after) w e is m.1 m.0

-- no more was pushed of a watch that was opened
pub unwatched_as : (worn : Type 0) (ask : WatchAsk) (number now : ℕ) (a b d : List Step) (u v : Option (List ℕ)) (why : Stop) (e : StoreEnd) → e ≡ end_in why
    → b ≡ a ++ entry_of (Open ask) now (Ok (outcome.Opened number)) ∷ [] → Stopped worn number false b d u v why → Asks worn (request.Watch ask) a d u v (Some e)
unwatched_as worn ask number now a b d u v why e is m s =
    subst (λ (x : StoreEnd). Asks worn (request.Watch ask) a d u v (Some x)) (sym is) (unwatched worn ask number now a b d u v why m s)

-- ---- what was received

pub none_received : (left left' old new : Option (List ℕ)) (r : Option Received) → r ≡ None → Receives Mapping left left' old new (Ok r) → IfSome left (λ all. all ≡ []) × (new ≡ old)
none_received left left' old new r e h = subst (λ (x : Option Received). Receives Mapping left left' old new (Ok x)) e h

pub some_received : (left left' old new : Option (List ℕ)) (r : Option Received) (x : Received) → r ≡ Some x → Receives Mapping left left' old new (Ok r)
    → Ahead (IsRequest x.head x.body) left left' × Appends old new (go_on_of x.head)
some_received left left' old new r x e h = subst (λ (y : Option Received). Receives Mapping left left' old new (Ok y)) e h
