-- One step of a proxy: its clock work, and then what the event does. Nothing comes before the fault of a worn proxy, which does no
-- clock work; every other fault leaves what stood before it, but for that.
use Rattle.std.specs.Prelude.{ℕ, ◌^◌, Bool, ◌==◌, ◌||◌, nat_le, if◌then◌else◌, Option, None, Some}
use Rattle.etcd_types.specs.declared.watch.WatchItem.{WatchItem}
use Rattle.core_model.specs.declared.event.CoreEvent.{CoreEvent}
use Rattle.core_model.specs.declared.event.CoreEvent.TheVariants as event
use Rattle.core_model.specs.declared.event.StepFault.TheVariants as fault
use Rattle.core_model.specs.Asking.{on_ask}
use Rattle.core_model.specs.ClockWork.{writes_go_on, clock_work}
use Rattle.core_model.specs.Ends.{on_answer, on_lost}
use Rattle.core_model.specs.LeasingStream.{leasing_ticked, leasing_item, leasing_cut}
use Rattle.core_model.specs.Lookups.{leases}
use Rattle.core_model.specs.Sending.{on_work}
use Rattle.core_model.specs.Sessions.{seat_ticked}
use Rattle.core_model.specs.State.{Opening, Core}
use Rattle.core_model.specs.Stepped.{Stepped, faults, noted, counted}
use Rattle.core_model.specs.Takes.{on_take, on_leave}
use Rattle.core_model.specs.Watching.{stream_item, stream_cut}
use Rattle.watch_model.specs.Lookups.{stream_at}
use Rattle.watch_model.specs.State.{Stream}

-- A tick: a session and a leasing stream where there is none, and a keepalive in time.

abbrev pub ticked : ℕ → ℕ → Core → Core
ticked now word c =
    leasing_ticked c.leasing (record c { seat = Some (seat_ticked word c.settings.ttl c.own.waits.step now c.seat) })

unfoldable pub on_tick : ℕ → ℕ → Core → Stepped
on_tick now word c = noted (if leases c then ticked now word c else c)

-- A stream is the one that has this number now: the leasing stream, or a client stream.

abbrev pub if_number : ℕ → Opening → Option Opening
if_number number o = if o.number == number then Some o else None

abbrev pub opening_at : ℕ → Option Opening → Option Opening
opening_at number None = None
opening_at number (Some o) = if_number number o

abbrev pub client_item : ℕ → WatchItem → Option Stream → Core → Stepped
client_item number x None c = faults c (fault.NoSuchStream number)
client_item number x (Some s) c = noted (writes_go_on (stream_item s x c))

abbrev pub item_of : ℕ → ℕ → WatchItem → Option Opening → Core → Stepped
item_of now number x None c = client_item number x (stream_at number c.watches.streams) c
item_of now number x (Some o) c = noted (writes_go_on (leasing_item now o x c))

unfoldable pub on_item : ℕ → ℕ → WatchItem → Core → Stepped
on_item now number x c = item_of now number x (opening_at number c.leasing) c

abbrev pub client_cut : ℕ → Option Stream → Core → Stepped
client_cut number None c = faults c (fault.NoSuchStream number)
client_cut number (Some s) c = noted (stream_cut s c)

abbrev pub cut_of : ℕ → Option Opening → Core → Stepped
cut_of number None c = client_cut number (stream_at number c.watches.streams) c
cut_of number (Some o) c = noted (leasing_cut o c)

unfoldable pub on_cut : ℕ → Core → Stepped
on_cut number c = cut_of number (opening_at number c.leasing) c

abbrev pub happened : ℕ → CoreEvent → Core → Stepped
happened now (event.Ask ticket q word) c = on_ask now ticket q word c
happened now (event.Answer call a) c = on_answer now call a c
happened now (event.Lost call) c = on_lost now call c
happened now (event.Tick word) c = on_tick now word c
happened now (event.Item stream x) c = on_item now stream x c
happened now (event.Cut stream) c = on_cut stream c
happened now (event.Take ticket) c = on_take ticket c
happened now (event.Leave ticket) c = on_leave now ticket c
happened now event.Work c = on_work now c

-- The numbers of steps and of streams end at 2^62; there are no more calls than steps.

abbrev pub last_number : ℕ
last_number = 2 ^ 62

abbrev pub is_worn : Core → Bool
is_worn c = nat_le last_number c.steps || nat_le last_number c.watches.given

unfoldable pub stepped : Core → CoreEvent → ℕ → Stepped
stepped c event now = if is_worn c then faults c fault.Worn else counted (happened now event (clock_work now c))
