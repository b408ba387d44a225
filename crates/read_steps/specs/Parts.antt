-- The parts of what reads stand on, and what a step does to each.
use Rattle.std.specs.Prelude.{ℕ, false, List, Option, None, Some}
use Rattle.proxy_model.specs.declared.lease.Entry.{Entry}
use Rattle.proxy_model.specs.Keyed.{Keyed, with_at}
use Rattle.wait_model.specs.declared.sending.Sending.TheVariants as sending
use Rattle.wait_model.specs.State.{Waits, owned}
use Rattle.read_model.specs.declared.acquire.Acquire.{Acquire}
use Rattle.read_model.specs.declared.asked.Asked.{Asked}
use Rattle.read_model.specs.State.{Reads, Ground}

abbrev pub ground : Keyed Entry → Waits → Keyed Acquire → Ground
ground es w acquires = record { own = owned es w; acquires = acquires }

abbrev pub reads : Keyed Entry → Waits → Keyed Acquire → List Asked → Reads
reads es w acquires asks = record { own = owned es w; acquires = acquires; asks = asks }

-- an acquire of the key is due, where there is a session for it

abbrev pub begun_waits : List ℕ → Option ℕ → Waits → Waits
begun_waits k None w = w
begun_waits k (Some session) w = record w { spoiled = with_at w.spoiled k (Some false) }

abbrev pub begun_acquires : ℕ → List ℕ → Option ℕ → ℕ → Keyed Acquire → Keyed Acquire
begun_acquires ticket k None step acquires = acquires
begun_acquires ticket k (Some session) step acquires = with_at acquires k (Some (record { ticket = ticket; session = session; sending = sending.Due step }))

-- the key has this entry, where there is one
abbrev pub held_entries : List ℕ → Option Entry → Keyed Entry → Keyed Entry
held_entries k None es = es
held_entries k (Some e) es = with_at es k (Some e)
