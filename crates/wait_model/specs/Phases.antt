-- The phases of an entry, and what a write's turn, a lost rescind or an owner found does to them.
use Rattle.std.specs.Prelude.{ℕ, Bool, true, false, ◌==◌, ◌&&◌, if◌then◌else◌, Option, None, Some}
use Rattle.proxy_model.specs.declared.lease.Entry.{Entry}
use Rattle.proxy_model.specs.declared.lease.Phase.{Phase}
use Rattle.proxy_model.specs.declared.lease.Phase.TheVariants.{Held, Writing, Leaving}
use Rattle.proxy_model.specs.LeaseTable.{is_writing_phase}

abbrev pub is_leaving_phase : Phase → Bool
is_leaving_phase Held = false
is_leaving_phase (Writing revoked) = false
is_leaving_phase (Leaving sent) = true

abbrev pub is_leaving : Option Entry → Bool
is_leaving None = false
is_leaving (Some e) = is_leaving_phase e.phase

-- it leaves, and its rescind is to be sent
abbrev pub is_rescind_due_phase : Phase → Bool
is_rescind_due_phase Held = false
is_rescind_due_phase (Writing revoked) = false
is_rescind_due_phase (Leaving sent) = if sent then false else true

abbrev pub is_rescind_due : Entry → Bool
is_rescind_due e = is_rescind_due_phase e.phase

abbrev pub phase_let_go : Phase → Phase
phase_let_go Held = Leaving false
phase_let_go (Writing revoked) = Writing revoked
phase_let_go (Leaving sent) = Leaving sent

-- a held entry is given up
abbrev pub let_go : Entry → Entry
let_go e = record e { phase = phase_let_go e.phase }

abbrev pub phase_begun : Phase → Phase
phase_begun Held = Writing false
phase_begun (Writing revoked) = Writing revoked
phase_begun (Leaving sent) = Leaving sent

-- a held entry is written
abbrev pub begun : Entry → Entry
begun e = record e { phase = phase_begun e.phase }

abbrev pub phase_sent : Bool → Phase → Phase
phase_sent b Held = Held
phase_sent b (Writing revoked) = Writing revoked
phase_sent b (Leaving sent) = Leaving b

-- its rescind was sent, or was lost and is due again
abbrev pub rescind_sent : Bool → Entry → Entry
rescind_sent b e = record e { phase = phase_sent b e.phase }

-- an entry for an ownership key that this proxy has and didn't know of: it is given up
abbrev pub own_entry : ℕ → Entry
own_entry create = record { create = create; kv = None; phase = Leaving false }

-- the entry is of this create revision
abbrev pub is_of : ℕ → Option Entry → Bool
is_of create None = false
is_of create (Some e) = e.create == create

-- the lease is that of the live session, where there is one
abbrev pub is_session : Option ℕ → ℕ → Bool
is_session None lease = false
is_session (Some n) lease = n == lease

-- a change that an owner's answer makes at the entries that it writes, and at no other
abbrev pub if_written : Bool → (Entry → Entry) → Entry → Entry
if_written b f e = if b && is_writing_phase e.phase then f e else e
