-- Release: a read whose acquire or owner write is no more is decided again, or becomes a call of its own.
use Rattle.std.specs.Prelude.{ℕ, Bool, true, false, not, ◌==◌, ◌||◌, ◌&&◌, if◌then◌else◌, List, [], ◌∷◌, map, Option, None, Some, is_some}
use Rattle.etcd_types.specs.declared.record.Header.{Header}
use Rattle.proxy_model.specs.declared.lease.Entry.{Entry}
use Rattle.proxy_model.specs.Keyed.{at}
use Rattle.proxy_model.specs.LeaseTable.{is_writing}
use Rattle.read_model.specs.declared.asked.Asked.{Asked}
use Rattle.read_model.specs.declared.acquire.Acquire.{Acquire}
use Rattle.read_model.specs.declared.asked.Stage.{Stage}
use Rattle.read_model.specs.declared.asked.Stage.TheVariants as stage
use Rattle.read_model.specs.State.{Reads, Moment, Ground, ground_of, on}
use Rattle.read_model.specs.PlainRead.{ask_key, decided_ground, decided_ask, in_stage, called, read_turn, is_written}

-- it is this ticket's acquire
abbrev pub names : ℕ → Option Acquire → Bool
names ticket None = false
names ticket (Some c) = c.ticket == ticket

-- what a read waits for stands at its key
abbrev pub stands : ℕ → Option Entry → Option Acquire → Stage → Bool
stands ticket e c stage.Acquiring = names ticket c
stands ticket e c stage.Joined = is_some c
stands ticket e c stage.Behind = is_writing e
stands ticket e c _ = true

abbrev pub ask_stands : Ground → Asked → Bool
ask_stands g a = stands a.ticket (at g.own.entries (ask_key a)) (at g.acquires (ask_key a)) a.stage

-- Released: each, in order of asking, is decided again, or becomes a plain call.

abbrev pub released_ground : Bool → Moment → Ground → Asked → Ground
released_ground again m g a = if ask_stands g a || not again then g else decided_ground m g a

abbrev pub released_ask : Bool → Moment → Ground → Asked → Asked
released_ask again m g a = if ask_stands g a then a else if again then decided_ask m g a else in_stage (called g.own.waits.step) a

pub record Released : Type 0 where
  pub ground : Ground
  pub asks : List Asked

unfoldable pub released_from : Bool → Moment → Ground → List Asked → Released
released_from again m g [] = record { ground = g; asks = [] }
released_from again m g (a ∷ rest) =
    let r = released_from again m (released_ground again m g a) rest in
    record { ground = r.ground; asks = released_ask again m g a ∷ r.asks }

abbrev pub after_release : Released → Reads
after_release x = on x.ground x.asks

abbrev pub released : Bool → Moment → Reads → Reads
released again m r = after_release (released_from again m (ground_of r) r.asks)

-- The same in place: no acquire is made.

abbrev pub in_place : Bool → Header → Ground → Asked → Asked
in_place again h g a =
    if ask_stands g a then a
    else if again then in_stage (read_turn h g.own.waits.step (at g.own.entries (ask_key a)) false None).stage a
    else in_stage (called g.own.waits.step) a

abbrev pub released_in_place : Bool → Header → Reads → Reads
released_in_place again h r = record r { asks = map (in_place again h (ground_of r)) r.asks }

-- nobody acquires_at the key now, and nobody can: it has an entry, or a write is over it
abbrev pub is_taken : Ground → List ℕ → Bool
is_taken g k = not (is_some (at g.acquires k)) && (is_some (at g.own.entries k) || is_written g.own k)

-- where a read needn't be released, or its key is taken, no acquire is made by its release
abbrev pub makes_none : Ground → Asked → Bool
makes_none g a = ask_stands g a || is_taken g (ask_key a)
