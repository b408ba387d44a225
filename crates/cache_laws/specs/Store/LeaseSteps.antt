-- Leases that are granted, kept alive, revoked and that expire, as moves of the view. A session expires only once the clock of its
-- holder has reached its floor, and nobody revokes one.
use Rattle.std.specs.Prelude.{◌≡◌, ◌≢◌, ℕ, ◌≤◌, true, false, ◌⊎◌, List, Ok}
use Rattle.etcd_types.specs.declared.answer.Answer.TheVariants as answer
use Rattle.etcd_types.specs.declared.answer.Reply.{Reply}
use Rattle.etcd_types.specs.declared.request.Request.TheVariants as request
use Rattle.store_model.specs.History.{newest}
use Rattle.store_model.specs.Leases.{expired, granted, granted_ttl}
use Rattle.store_model.specs.State.{State}
use Rattle.store_model.specs.Step.{exec}
use Rattle.proxy_model.specs.RequestRefusals.{is_session}
use Rattle.cache_laws.specs.Moves.View.{Outcome, View}
use Rattle.cache_laws.specs.Moves.StoreMoves.{executed, termed, lease_ended}
use Rattle.cache_laws.specs.Store.StoreView.{owner_at, kv_at, Stands}
use Rattle.cache_laws.specs.Store.CallSteps.{IsOut, IsOther, outcome}

-- answered with this time to live, in seconds
abbrev pub timed_outcome : State → List ℕ → ℕ → Outcome
timed_outcome t p ttl = record (outcome t p true) { ttl = ttl }

abbrev pub GrantsStep : Type 0
GrantsStep =
    (holder : ℕ → ℕ) (s : State) (member : ℕ) (p : List ℕ) (ttl lease : ℕ) (reply : Reply) (v : View) (i : ℕ) → lease ≢ 0
    → (exec s member (request.Grant ttl lease)).1 ≡ answer.Done reply → IsOut v i → IsOther (v.calls i) → (v.calls i).session ≡ lease → Stands holder p s v
    → let t = (exec s member (request.Grant ttl lease)).0 in
    Stands holder p t (termed v i (timed_outcome t p (granted_ttl ttl)))

-- a keepalive of a lease that isn't there is answered 0
abbrev pub KeepAlivesStep : Type 0
KeepAlivesStep =
    (holder : ℕ → ℕ) (s : State) (member : ℕ) (p : List ℕ) (lease : ℕ) (v : View) (i : ℕ) → IsOut v i → IsOther (v.calls i) → (v.calls i).session ≡ lease → Stands holder p s v
    → let t = (exec s member (request.KeepAlive lease)).0 in
    Stands holder p t (termed v i (timed_outcome t p (granted s.leases lease)))

abbrev pub lease_gone : View → State → List ℕ → ℕ → View
lease_gone v t p lease = lease_ended v lease (newest t.history) (owner_at t.history p) (kv_at t.history p)

abbrev pub ExpiriesStep : Type 0
ExpiriesStep =
    (holder : ℕ → ℕ) (s t : State) (p : List ℕ) (lease : ℕ) (v : View) → expired s lease ≡ Ok t → (is_session lease ≡ false) ⊎ (v.floors lease ≤ v.clocks (holder lease))
    → Stands holder p s v → Stands holder p t (lease_gone v t p lease)

abbrev pub RevocationsStep : Type 0
RevocationsStep =
    (holder : ℕ → ℕ) (s : State) (member : ℕ) (p : List ℕ) (lease : ℕ) (reply : Reply) (v : View) (i : ℕ) → is_session lease ≡ false
    → (exec s member (request.Revoke lease)).1 ≡ answer.Done reply → IsOut v i → IsOther (v.calls i) → Stands holder p s v
    → let t = (exec s member (request.Revoke lease)).0 in
    Stands holder p t (executed (lease_gone v t p lease) i (outcome t p true) (newest t.history))
