-- One stream of watch messages from a member, and its next revision: all events of the range below it were delivered.
use Rattle.std.specs.Prelude.{ℕ, ◌+◌, max, Bool, true, false, ◌==◌, Option, None, Some, if◌then◌else◌}
use Rattle.etcd_types.specs.declared.key_range.KeyRange.{KeyRange}
use Rattle.proxy_model.specs.Limits.{capped}

pub record Upstream : Type 0 where
  pub range : KeyRange
  -- where it is to begin if it is opened again; 0 as long as only the created message can tell
  pub next : ℕ
  -- its created message came, and it wasn't cut or cancelled since
  pub created : Bool

abbrev pub opened : KeyRange → ℕ → Upstream
opened range start = record { range = range; next = start; created = false }

-- opened from 0 it begins behind the revision of the created message
abbrev pub created : Upstream → ℕ → Upstream
created u revision = record u { next = (if u.next == 0 then capped (revision + 1) else u.next); created = true }

-- behind the last event of a batch, or behind the revision of a message without events where that is greater
abbrev pub advance : Upstream → ℕ → Upstream
advance u last = record u { next = max u.next (capped (last + 1)) }

-- a cut stream begins again at its next
abbrev pub cut : Upstream → Upstream
cut u = record u { created = false }

-- what a compaction took can't be told any more, so all begins anew; a cancellation without one is a cut
abbrev pub cancelled : Upstream → ℕ → Upstream
cancelled u compaction = if compaction == 0 then cut u else record u { next = 0; created = false }

abbrev pub known_next : Upstream → Option ℕ
known_next u = if u.next == 0 then None else Some u.next
