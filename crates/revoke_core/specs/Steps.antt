-- What the programs' steps are, where the rules speak of all at once.
use Rattle.std.specs.Prelude.{◌≡◌, ℕ, zero, suc, Bool, true, false, ◌&&◌, ◌==◌, if◌then◌else◌, List, [], ◌∷◌, take, drop, Option, None, Some}
use Rattle.std.specs.List.{list_any}
use Rattle.etcd_types.specs.Keys.{same}
use Rattle.etcd_types.specs.declared.request.Request.{Request}
use Rattle.proxy_model.specs.declared.lease.Entry.{Entry}
use Rattle.proxy_model.specs.Keyed.{Keyed}
use Rattle.wait_model.specs.declared.wait.WaitCall.{WaitCall}
use Rattle.wait_model.specs.declared.wait.Settled.{Settled}
use Rattle.wait_model.specs.declared.wait.Settled.TheVariants as settled
use Rattle.wait_model.specs.declared.write.Write.{Write}
use Rattle.wait_model.specs.Covers.{shares, leased}
use Rattle.wait_model.specs.Stages.{is_waiting, stage_on}
use Rattle.wait_model.specs.Phases.{begun, let_go}
use Rattle.wait_model.specs.Writes.{has_ticket, sends, asks}
use Rattle.revoke_core.specs.declared.places.By.{By}
use Rattle.revoke_core.specs.declared.places.By.TheVariants as by
use Rattle.revoke_calls.specs.declared.entries.Fate.{Fate}
use Rattle.revoke_calls.specs.Fates.{fate_of, settled_entries}

-- the first of these waits for its turn, and shares a key with one of those before
abbrev pub first_blocked : List Write → List Write → Bool
first_blocked earlier [] = false
first_blocked earlier (w ∷ ws) = is_waiting (stage_on w.stage) && list_any (shares w) earlier

abbrev pub is_blocked : List Write → ℕ → Bool
is_blocked writes i = first_blocked (take i writes) (drop i writes)

-- the change of one key
abbrev pub begun_at : List ℕ → List ℕ → Entry → Entry
begun_at key k e = if same k key then begun e else e

abbrev pub let_go_at : Request → List ℕ → List ℕ → Entry → Entry
let_go_at ask key k e = if same k key && leased ask k then let_go e else e

-- Where something is that is looked for.

-- the write passes the test by which it is looked for
abbrev pub passes : By → Write → Bool
passes (by.Ticket ticket) w = has_ticket ticket w
passes (by.Sends call) w = sends call w
passes (by.Asks call) w = asks call w

-- the i-th is the first that passes
abbrev pub IsFirst : (Write → Bool) → List Write → ℕ → Type 0
IsFirst p [] i = ⊥
IsFirst p (w ∷ ws) zero = p w ≡ true
IsFirst p (w ∷ ws) (suc i) = (p w ≡ false) × IsFirst p ws i

abbrev pub is_call : ℕ → WaitCall → Bool
is_call call c = c.call == call

-- the i-th is the first of this number
abbrev pub IsCall : ℕ → List WaitCall → ℕ → Type 0
IsCall call [] i = ⊥
IsCall call (c ∷ cs) zero = is_call call c ≡ true
IsCall call (c ∷ cs) (suc i) = (is_call call c ≡ false) × IsCall call cs i

-- The entries of a write, where there is one.

abbrev pub settled_if : Fate → Option Write → Keyed Entry → Keyed Entry
settled_if f None es = es
settled_if f (Some w) es = settled_entries f w es

-- A lost call.

abbrev pub failed_of : Option Write → Settled
failed_of None = settled.Nothing
failed_of (Some w) = settled.Failed w.ticket

abbrev pub given_back_if : Option Write → Keyed Entry → Keyed Entry
given_back_if None es = es
given_back_if (Some w) es = settled_entries (fate_of w.stage) w es
