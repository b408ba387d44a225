-- The order of due jobs: rescinds come first, by key. The others come in the order of the steps in which they became due; of one
-- step, first revoke calls by key, then the writes' own calls by ticket.
use Rattle.std.specs.Prelude.{ℕ, Bool, ◌&&◌, ◌||◌, ◌==◌, nat_lt, if◌then◌else◌, List, [], ◌∷◌, Option, None, Some, map}
use Rattle.std.specs.List.{flat_map}
use Rattle.etcd_types.specs.Keys.{same, before}
use Rattle.proxy_model.specs.declared.lease.Entry.{Entry}
use Rattle.proxy_model.specs.Keyed.{Keyed}
use Rattle.wait_model.specs.declared.due.DueCall.{DueCall}
use Rattle.wait_model.specs.declared.due.JobKind.{JobKind}
use Rattle.wait_model.specs.declared.due.JobKind.TheVariants.{Revoke, Call, Close, Open}
use Rattle.wait_model.specs.declared.due.Place.{Place}
use Rattle.wait_model.specs.declared.sending.Sending.{Sending}
use Rattle.wait_model.specs.declared.sending.Sending.TheVariants as sending
use Rattle.wait_model.specs.declared.write.Write.{Write}
use Rattle.wait_model.specs.declared.found.Found.{Found}
use Rattle.wait_model.specs.declared.found.Asking.{Asking}
use Rattle.wait_model.specs.declared.found.Asking.TheVariants as asking
use Rattle.wait_model.specs.declared.write.WriteStage.{WriteStage}
use Rattle.wait_model.specs.declared.write.WriteStage.TheVariants.{Waiting, Sends, Finds}
use Rattle.wait_model.specs.Phases.{is_rescind_due}

-- Places.

abbrev pub kind_rank : JobKind → ℕ
kind_rank Revoke = 0
kind_rank Call = 1
kind_rank Close = 2
kind_rank Open = 3

-- the first of two tests that tells numbers apart decides
abbrev pub less_then : ℕ → ℕ → Bool → Bool
less_then a b rest = nat_lt a b || ((a == b) && rest)

abbrev pub is_earlier : Place → Place → Bool
is_earlier p q = less_then p.since q.since (less_then (kind_rank p.kind) (kind_rank q.kind) (nat_lt p.number q.number))

-- Due calls of writes.

abbrev pub is_sooner : DueCall → DueCall → Bool
is_sooner c d =
    less_then c.place.since d.place.since (less_then (kind_rank c.place.kind) (kind_rank d.place.kind) (before c.key d.key || (same c.key d.key && nat_lt c.place.number d.place.number)))

abbrev pub place_at : ℕ → JobKind → ℕ → Place
place_at since kind number = record { since = since; kind = kind; number = number }

abbrev pub call_at : ℕ → ℕ → DueCall
call_at ticket since = record { place = place_at since Call ticket; key = []; create = 0 }

abbrev pub revoke_at : ℕ → ℕ → Found → DueCall
revoke_at ticket since f = record { place = place_at since Revoke ticket; key = f.key; create = f.create }

abbrev pub due_own : ℕ → Sending → List DueCall
due_own ticket (sending.Due since) = call_at ticket since ∷ []
due_own ticket (sending.Out call) = []

abbrev pub due_asking : ℕ → Found → Asking → List DueCall
due_asking ticket f (asking.Due since) = revoke_at ticket since f ∷ []
due_asking ticket f (asking.Out call) = []
due_asking ticket f asking.Done = []

abbrev pub due_found : ℕ → Found → List DueCall
due_found ticket f = due_asking ticket f f.revoke

abbrev pub due_in : ℕ → WriteStage → List DueCall
due_in ticket Waiting = []
due_in ticket (Sends owner s) = due_own ticket s
due_in ticket (Finds found) = flat_map (due_found ticket) found

abbrev pub due_of : Write → List DueCall
due_of w = due_in w.ticket w.stage

abbrev pub due_calls : List Write → List DueCall
due_calls ws = flat_map due_of ws

-- The first one.

abbrev pub sooner : Option DueCall → DueCall → DueCall
sooner None d = d
sooner (Some c) d = if is_sooner d c then d else c

abbrev pub soonest : Option DueCall → List DueCall → Option DueCall
soonest first [] = first
soonest first (d ∷ ds) = soonest (Some (sooner first d)) ds

abbrev pub first_call : List Write → Option DueCall
first_call ws = soonest None (due_calls ws)

abbrev pub earlier : Option Place → Place → Place
earlier None p = p
earlier (Some q) p = if is_earlier p q then p else q

abbrev pub earliest : Option Place → List Place → Option Place
earliest first [] = first
earliest first (p ∷ ps) = earliest (Some (earlier first p)) ps

-- where these calls stand among all due jobs
abbrev pub first_place : List Write → Option Place
first_place ws = earliest None (map (λ d. d.place) (due_calls ws))

-- Rescinds.

abbrev pub first_rescind : Keyed Entry → Option (List ℕ × Entry)
first_rescind [] = None
first_rescind (e ∷ es) = if is_rescind_due e.1 then Some e else first_rescind es
