-- The lease table: an entry for each key that the proxy owns, or is giving up. Beside it `spare`, the number of entries
-- for which there is room already.
use Rattle.std.specs.Prelude.{ℕ, ◌+◌, ◌-◌, Bool, true, false, List, [], length, map, Option, None, Some, if◌then◌else◌}
use Rattle.etcd_types.specs.declared.key_range.KeyRange.{KeyRange}
use Rattle.etcd_types.specs.declared.record.Kv.{Kv}
use Rattle.etcd_types.specs.Ranges.{contains}
use Rattle.proxy_model.specs.declared.lease.Entry.{Entry}
use Rattle.proxy_model.specs.declared.lease.Phase.{Phase}
use Rattle.proxy_model.specs.declared.lease.Phase.TheVariants.{Held, Writing, Leaving}
use Rattle.proxy_model.specs.Keyed.{Keyed, with_at, changed_at}

pub record Table : Type 0 where
  pub entries : Keyed Entry
  pub spare : ℕ

abbrev pub empty_table : Table
empty_table = record { entries = []; spare = 0 }

-- all that there is room for, taken or not
abbrev pub room : Table → ℕ
room t = t.spare + length t.entries

-- An entry's phases.

abbrev pub is_held_phase : Phase → Bool
is_held_phase Held = true
is_held_phase (Writing revoked) = false
is_held_phase (Leaving sent) = false

abbrev pub is_writing_phase : Phase → Bool
is_writing_phase Held = false
is_writing_phase (Writing revoked) = true
is_writing_phase (Leaving sent) = false

abbrev pub is_held : Option Entry → Bool
is_held None = false
is_held (Some e) = is_held_phase e.phase

abbrev pub is_writing : Option Entry → Bool
is_writing None = false
is_writing (Some e) = is_writing_phase e.phase

-- after the owner write: held again, or given up where it was marked meanwhile
abbrev pub phase_after_write : Phase → Phase
phase_after_write Held = Held
phase_after_write (Writing revoked) = if revoked then Leaving false else Held
phase_after_write (Leaving sent) = Leaving sent

abbrev pub in_phase : Phase → Entry → Entry
in_phase phase e = record e { phase = phase }

abbrev pub writing : Entry → Entry
writing = in_phase (Writing false)

abbrev pub written : Option Kv → Entry → Entry
written kv e = record e { kv = kv; phase = phase_after_write e.phase }

abbrev pub unwritten : Entry → Entry
unwritten e = record e { phase = phase_after_write e.phase }

abbrev pub marked : Entry → Entry
marked = in_phase (Writing true)

abbrev pub phase_left : Phase → Phase
phase_left Held = Leaving false
phase_left (Writing revoked) = Leaving false
phase_left (Leaving sent) = Leaving sent

abbrev pub leaving : Entry → Entry
leaving e = record e { phase = phase_left e.phase }

-- to be given up: at once where it is held, else when its write is answered
abbrev pub phase_given_up : Phase → Phase
phase_given_up Held = Leaving false
phase_given_up (Writing revoked) = Writing true
phase_given_up (Leaving sent) = Leaving sent

abbrev pub given_up : Entry → Entry
given_up e = record e { phase = phase_given_up e.phase }

-- The table's changes.

abbrev pub hold : Table → List ℕ → Entry → Table
hold t k e = record { entries = with_at t.entries k (Some e); spare = t.spare - 1 }

abbrev pub change : Table → List ℕ → (Entry → Entry) → Table
change t k f = record t { entries = changed_at t.entries k f }

abbrev pub given_up_in : KeyRange → List ℕ × Entry → List ℕ × Entry
given_up_in r (k, e) = (k, (if contains r k then given_up e else e))

abbrev pub leave_range : Table → KeyRange → Table
leave_range t r = record t { entries = map (given_up_in r) t.entries }
