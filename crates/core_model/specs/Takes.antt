-- A client takes its reply or the next message of its watch, or leaves. After either its ticket is unknown; a client that leaves is as one that timed out, but that
-- there is no reply.
use Rattle.std.specs.Prelude.{ℕ, nat_le, if◌then◌else◌, List, [], ◌∷◌, Option, None, Some}
use Rattle.etcd_types.specs.declared.record.Kv.{Kv}
use Rattle.proxy_model.specs.declared.lease.Entry.{Entry}
use Rattle.proxy_model.specs.Keyed.{at}
use Rattle.read_model.specs.declared.asked.Asked.{Asked}
use Rattle.read_model.specs.declared.asked.Stage.{Stage}
use Rattle.read_model.specs.declared.asked.Stage.TheVariants as stage
use Rattle.read_model.specs.TakingOff.{taken_off}
use Rattle.core_model.specs.declared.event.Outcome.TheVariants as outcome
use Rattle.core_model.specs.declared.event.StepFault.TheVariants as fault
use Rattle.core_model.specs.Asking.{held_record}
use Rattle.core_model.specs.ClockWork.{is_replied, writes_go_on}
use Rattle.core_model.specs.Lookups.{live_number, moment, reads_of, with_reads, has_ticket, ask_at, without_ask}
use Rattle.core_model.specs.State.{Core}
use Rattle.core_model.specs.Stepped.{Stepped, gives, faults, noted, replies}
use Rattle.core_model.specs.Verdicts.{reply_of}
use Rattle.core_model.specs.Watching.{watch_taken, watch_left}
use Rattle.watch_model.specs.Lookups.{watch_at}
use Rattle.watch_model.specs.State.{Watch}

abbrev pub gone : ℕ → Core → Core
gone ticket c = record c { asks = without_ask ticket c.asks }

abbrev pub taken_from : ℕ → Stage → Core → Stepped
taken_from ticket (stage.Replied v) c = replies (gone ticket c) (reply_of v)
taken_from ticket _ c = gives c outcome.Pending

abbrev pub item_taken : ℕ → Option Watch → Core → Stepped
item_taken ticket None c = faults c (fault.NoSuchTicket ticket)
item_taken ticket (Some w) c = watch_taken w c

abbrev pub taken : ℕ → Option Asked → Core → Stepped
taken ticket None c = item_taken ticket (watch_at ticket c.watches.watches) c
taken ticket (Some a) c = taken_from ticket a.stage c

unfoldable pub on_take : ℕ → Core → Stepped
on_take ticket c = taken ticket (ask_at ticket c.asks) c

abbrev pub has_left : ℕ → ℕ → Core → Core
has_left now ticket c =
    with_reads c (taken_off (moment c now) (has_ticket ticket) (without_ask ticket c.asks) (reads_of c))

abbrev pub watcher_left : ℕ → Option Watch → Core → Stepped
watcher_left ticket None c = faults c (fault.NoSuchTicket ticket)
watcher_left ticket (Some w) c = noted (watch_left ticket c)

abbrev pub left : ℕ → ℕ → Option Asked → Core → Stepped
left now ticket None c = watcher_left ticket (watch_at ticket c.watches.watches) c
left now ticket (Some a) c = noted (writes_go_on (has_left now ticket c))

unfoldable pub on_leave : ℕ → ℕ → Core → Stepped
on_leave now ticket c = left now ticket (ask_at ticket c.asks) c

-- The least ticket whose reply stands.

abbrev pub lesser : Option ℕ → ℕ → ℕ
lesser None n = n
lesser (Some m) n = if nat_le m n then m else n

abbrev pub least_ready : Option ℕ → List Asked → Option ℕ
least_ready least [] = least
least_ready least (a ∷ rest) = least_ready (if is_replied a.stage then Some (lesser least a.ticket) else least) rest

abbrev pub ready : Core → Option ℕ
ready c = least_ready None c.asks

-- The record that is held of a key under a session that is live at this reading.

abbrev pub record_if : Option (Option Kv) → Option Kv
record_if None = None
record_if (Some kv) = kv

abbrev pub peek_by : Option ℕ → Option Entry → Option Kv
peek_by None e = None
peek_by (Some number) e = record_if (held_record e)

abbrev pub peek : Core → List ℕ → ℕ → Option Kv
peek c k now = peek_by (live_number c.seat now) (at c.own.entries k)
