-- Each line makes a revision and a lease at most.
use Rattle.std.proofs.Common.{◌≡◌, ◌⊎◌, inl, inr, ◌≤◌, ℕ, ◌+◌, ◌-◌, ◌==◌, ◌||◌, not, set, cond, List, [], ◌∷◌, length, Option, None, Some, Result, Ok, Err, refl, sym, subst, arith}
use Rattle.std.specs.Prelude.{nat_lt}
use Rattle.etcd_types.specs.declared.request.Request.{Request}
use Rattle.etcd_types.specs.declared.watch.WatchItem.{WatchItem}
use Rattle.script_text.specs.declared.item.Item.{Item}
use Rattle.script_text.specs.declared.line.Line.{Line}
use Rattle.script_text.specs.declared.line.Line.TheVariants as line
use Rattle.store_model.specs.declared.lease.Lease.{Lease}
use Rattle.store_model.specs.declared.store_fault.StoreFault.{StoreFault}
use Rattle.store_model.specs.declared.store_fault.StoreFault.TheVariants as fault
use Rattle.store_model.specs.declared.watch.OpenWatch.{OpenWatch}
use Rattle.store_model.specs.History.{newest}
use Rattle.store_model.specs.Leases.{with_lease, without_lease, ended, expired}
use Rattle.store_model.specs.Members.{lacks_member, applied}
use Rattle.store_model.specs.State.{State, applied_by}
use Rattle.store_model.specs.Step.{exec}
use Rattle.store_model.specs.Transactions.{has_lease}
use Rattle.store_model.specs.Watches.{Pushed, watch_of, events_for, push_events, push_to, for_watch, pushed, is_synced, progress_to, progressed}
use Rattle.etcd_types.specs.declared.watch.Event.{Event}
use Rattle.store_laws.proofs.Requests.StepCases.{StepCases, exec_by}
use Rattle.text_laws.proofs.Values.Alls.{either}
use Rattle.text_laws.specs.Stores.Stores.{changes, HasRoom}
use Rattle.text_laws.proofs.Stores.Histories.{length-with}
use Rattle.core_model.specs.declared.event.CoreEvent.{CoreEvent}
use Rattle.core_model.specs.declared.event.Outcome.{Outcome}
use Rattle.core_model.specs.Step.{stepped}
use Rattle.world_model.specs.declared.fault.LineRefusal.{LineRefusal}
use Rattle.world_model.specs.Gains.{Replies}
use Rattle.world_model.specs.Places.{nth, with_core}
use Rattle.world_model.specs.Sends.{closed_in}
use Rattle.world_model.specs.State.{Place, OpenedStream, World}
use Rattle.world_model.specs.Transcript.{Taken, done, counted_as, begun, taken}
use Rattle.world_laws.proofs.Effects.{Turn, ticks, asks_it, posts_it, calls, opens, closes, answers, loses, delivers, cuts, takes, waits, leaves, Effect, starts, sets, refuses_post, executes, expires, applies, pushes, turns, effect}
use Rattle.text_laws.specs.Scripts.Growth.{FewFrom, StoresStaySmall, SmallScriptsSpeakInTexts}
use Rattle.text_laws.specs.Scripts.Room.{GoesOnWithRoom, RoomFrom}
use Rattle.text_laws.proofs.Scripts.Asked.{scripts_speak}

-- so many revisions and leases at most
pub record Counts (k : ℕ) (s : State) : Type 0 where
  pub revisions : length s.history ≤ k
  pub leases : length s.leases ≤ k

same_counts : (k : ℕ) (s t : State) → length t.history ≤ length s.history → length t.leases ≤ length s.leases → Counts k s → Counts k t
same_counts k s t a b h = let c = h.revisions in let d = h.leases in record { revisions = omega (arith, a, c); leases = omega (arith, b, d) }

grows : (k : ℕ) (s t : State) → length t.history ≤ length s.history + 1 → length t.leases ≤ length s.leases + 1 → Counts k s → Counts (k + 1) t
grows k s t a b h = let c = h.revisions in let d = h.leases in record { revisions = omega (arith, a, c); leases = omega (arith, b, d) }

-- ---- requests

record Grown (s t : State) : Type 0 where
  revisions : length t.history ≤ length s.history + 1
  leases : length t.leases ≤ length s.leases + 1

still : (s t : State) → t.history ≡ s.history → t.leases ≡ s.leases → Grown s t
still s t h l = record { revisions = subst (λ x. length x ≤ length s.history + 1) (sym h) (omega arith); leases = subst (λ x. length x ≤ length s.leases + 1) (sym l) (omega arith) }

lease_put : (lease : Lease) (leases : List Lease) → length (with_lease lease leases) ≤ length leases + 1
lease_put lease [] = omega arith
lease_put lease (other ∷ others) =
    let r = lease_put lease others in
    either (λ (xs : List Lease). length xs ≤ length (other ∷ others) + 1) (nat_lt other.number lease.number) (other ∷ with_lease lease others) (lease ∷ other ∷ others) (omega (arith, r)) (omega arith)

lease_gone : (number : ℕ) (leases : List Lease) → length (without_lease number leases) ≤ length leases
lease_gone number [] = omega arith
lease_gone number (lease ∷ leases) =
    let r = lease_gone number leases in
    either (λ (xs : List Lease). length xs ≤ length (lease ∷ leases)) (lease.number == number) leases (lease ∷ without_lease number leases) (omega arith) (omega (arith, r))

ended_grows : (s : State) (number : ℕ) → Grown s (ended s number)
ended_grows s number = let l = lease_gone number s.leases in record { revisions = length-with s.history _; leases = omega (arith, l) }

cases : (s : State) (member : ℕ) → StepCases s member (λ q x. Grown s x.0)
cases s member = record {
  refuses = λ q r k. still s s refl refl;
  runs = λ q o made b e n f g. record { revisions = length-with s.history made; leases = omega arith };
  reads = λ ask b e. still s s refl refl;
  compacts = λ revision physical a b. still s (record s { compacted = revision }) refl refl;
  grants = λ ttl number e. record { revisions = omega arith; leases = lease_put _ s.leases };
  revokes = λ number e. ended_grows s number;
  keeps_alive = λ number. still s s refl refl;
  tells = λ number keys. still s s refl refl;
  lists = still s s refl refl;
}

exec_grows : (s : State) (member : ℕ) (q : Request) → Grown s (exec s member q).0
exec_grows s member q = exec_by s member (λ q x. Grown s x.0) (cases s member) q

-- ---- what else is done to a store

abbrev LeftGrown : State → Result State StoreFault → Type 0
LeftGrown s (Ok t) = Grown s t
LeftGrown s (Err why) = Unit {0}

expired_grows : (s t : State) (lease : ℕ) → expired s lease ≡ Ok t → Grown s t
unfolding expired
expired_grows s t lease e = subst (LeftGrown s) e (either (LeftGrown s) (has_lease s.leases lease) (Ok (ended s lease)) (Err (fault.NoSuchLease lease)) (ended_grows s lease) tt)

applied_grows : (s t : State) (member revision : ℕ) → applied s member revision ≡ Ok t → Grown s t
unfolding applied
applied_grows s t member revision e =
    let done : State = record s { applied = set s.applied (member - 1) revision } in
    let bad : Result State StoreFault = Err (fault.BadApply (applied_by s member) (newest s.history)) in
    let is_bad = nat_lt revision (applied_by s member) || nat_lt (newest s.history) revision in
    subst (LeftGrown s) e
    (either (LeftGrown s) (lacks_member s member) (Err (fault.NoSuchMember member)) (cond is_bad bad (Ok done)) tt (either (LeftGrown s) is_bad bad (Ok done) tt (still s done refl refl)))

abbrev PushedGrown : State → Pushed → Type 0
PushedGrown s (Ok p) = Grown s p.0
PushedGrown s (Err why) = Unit {0}

events_grow : (s : State) (number : ℕ) (w : OpenWatch) (es : List Event) → PushedGrown s (push_events s number w es)
events_grow s number w [] = tt
events_grow s number w (e ∷ es) = still s _ refl refl

push_grows : (s : State) (number : ℕ) (w : OpenWatch) → PushedGrown s (push_to s number w)
push_grows s number w =
    either (PushedGrown s) (w.next == 0) _ _ (still s _ refl refl) (either (PushedGrown s) (nat_lt w.next s.compacted) _ _ (still s s refl refl) (events_grow s number w (events_for s w)))

progress_grows : (s : State) (number : ℕ) (w : OpenWatch) → PushedGrown s (progress_to s number w)
progress_grows s number w = either (PushedGrown s) (not w.ask.progress) _ _ tt (either (PushedGrown s) (is_synced s w) _ _ (still s _ refl refl) tt)

for_grows : (s : State) (number : ℕ) (o : Option OpenWatch) (f : OpenWatch → Pushed) → ((w : OpenWatch) → PushedGrown s (f w)) → PushedGrown s (for_watch number o f)
for_grows s number None f h = tt
for_grows s number (Some w) f h = h w

pushed_grows : (s t : State) (i : WatchItem) (number : ℕ) → (pushed s number ≡ Ok (t, i)) ⊎ (progressed s number ≡ Ok (t, i)) → Grown s t
unfolding pushed progressed
pushed_grows s t i number (inl e) = subst (PushedGrown s) e (for_grows s number (watch_of s number) (push_to s number) (push_grows s number))
pushed_grows s t i number (inr e) = subst (PushedGrown s) e (for_grows s number (watch_of s number) (progress_to s number) (progress_grows s number))

-- ---- lines

turn_grows : (w v : World) (p : ℕ) (x y : Place) (e : CoreEvent) (o : Outcome) (own : List Item) (told : Replies) → Turn w p x e o v y own told → Grown w.store v.store
turn_grows w v p x y e o own told (ticks z) = still w.store w.store refl refl
turn_grows w v p x y e o own told (asks_it t q z f) = still w.store w.store refl refl
turn_grows w v p x y e o own told (posts_it t path body q z f) = still w.store w.store refl refl
turn_grows w v p x y e o own told (calls n member t q) = still w.store w.store refl refl
turn_grows w v p x y e o own told (opens n member ask) = still w.store _ refl refl
turn_grows w v p x y e o own told (closes n stream at) = closed_grows (nth w.streams stream)
  where
    closed_grows : (o : Option OpenedStream) → Grown w.store (closed_in w stream o).store
    closed_grows None = still w.store w.store refl refl
    closed_grows (Some s) = still w.store w.store refl refl
turn_grows w v p x y e o own told (answers n call a z f g) = still w.store w.store refl refl
turn_grows w v p x y e o own told (loses n call z f) = still w.store w.store refl refl
turn_grows w v p x y e o own told (delivers n s i rest z f g a b r) = still w.store w.store refl refl
turn_grows w v p x y e o own told (cuts n s z f g a b) = still w.store w.store refl refl
turn_grows w v p x y e o own told (takes t i) = still w.store w.store refl refl
turn_grows w v p x y e o own told (waits t z f) = still w.store w.store refl refl
turn_grows w v p x y e o own told (leaves t z) = still w.store w.store refl refl

effect_grows : (w after : World) (items : List Item) → Effect w after items → Grown w.store after.store
effect_grows w after items (starts p clock life i b) = still w.store w.store refl refl
effect_grows w after items (sets p millis x e forward) = still w.store w.store refl refl
effect_grows w after items (refuses_post p t path body a x e) = still w.store w.store refl refl
effect_grows w after items (executes n call e fresh) = exec_grows w.store call.member call.request
effect_grows w after items (expires lease t e due) = expired_grows w.store t lease e
effect_grows w after items (applies member revision t e) = applied_grows w.store t member revision e
effect_grows w after items (pushes n s t i e a b f) = pushed_grows w.store t i n f
effect_grows w after items (turns p x e o v y own told at is t) = turn_grows w v p (with_core x (stepped x.core e x.clock).core) y e o own told t

abbrev pub TakenCounts : ℕ → Taken → Type 0
TakenCounts k (Ok gained) = Counts k gained.0.store
TakenCounts k (Err why) = Unit {0}

pub counted_grows : (k : ℕ) (w : World) (l : Line) (r : Result (List Item) LineRefusal) → (done w l).gained ≡ r → Counts k w.store → TakenCounts (k + 1) (counted_as (done w l).world r)
counted_grows k w l (Ok items) e h =
    let g = effect_grows w (done w l).world items (effect w l items e) in
    let c = grows k w.store (done w l).world.store g.revisions g.leases h in
    record { revisions = c.revisions; leases = c.leases }
counted_grows k w l (Err why) e h = tt

pub room_of : (most k : ℕ) (w : World) → k + 2 ≤ most → changes w.store.history ≤ most → Counts k w.store → HasRoom most w.store
room_of most k w l c h = let a = h.revisions in let b = h.leases in record { revisions = omega (arith, a, l); changes = c; leases = omega (arith, b, l) }

goes_on : (k most : ℕ) (lines : List Line) (t : Taken) → TakenCounts k t → GoesOnWithRoom (λ after. FewFrom most after lines) t → ((w : World) → Counts k w.store → FewFrom most w lines → RoomFrom most w lines)
    → GoesOnWithRoom (λ after. RoomFrom most after lines) t
goes_on k most lines (Ok gained) c f h = h gained.0 c f
goes_on k most lines (Err why) c f h = tt

from_small : (k most : ℕ) (w : World) (lines : List Line) → k + length lines + 2 ≤ most → Counts k w.store → FewFrom most w lines → RoomFrom most w lines
from_small k most w [] l c f = room_of most k w (omega (arith, l)) f c
from_small k most w (x ∷ lines) l c f = (
  room_of most k w (omega (arith, l)) f.0 c,
  goes_on (k + 1) most lines (taken w x) (counted_grows k w x (done w x).gained refl c) f.1 (λ v d g. from_small (k + 1) most v lines (omega (arith, l)) d g),
)

pub begun_counts : (l : Line) → TakenCounts 0 (begun l)
begun_counts (line.World members namespace leasing) = record { revisions = omega arith; leases = omega arith }
begun_counts _ = tt

pub stores_stay_small : StoresStaySmall
stores_stay_small most [] l f = tt
stores_stay_small most (x ∷ lines) l f = goes_on 0 most lines (begun x) (begun_counts x) f (λ v d g. from_small 0 most v lines (omega (arith, l)) d g)

pub small_scripts_speak : SmallScriptsSpeakInTexts
small_scripts_speak most lines r h l small f = scripts_speak most lines r (omega (arith, l, small)) h (omega (arith, l)) small (stores_stay_small most lines l f)
