-- Reads whose acquire or owner write is no more, by what stands in the lease table and among the acquires.
use Rattle.std.specs.Prelude.{◌≡◌, ℕ, Bool, true, false, not, cond, ◌||◌, if◌then◌else◌, List, [], Option, None, Some, refl}
use Rattle.std.specs.List.{list_all}
use Rattle.etcd_types.specs.declared.record.Header.{Header}
use Rattle.etcd_types.specs.Keys.{same}
use Rattle.proxy_model.specs.declared.lease.Entry.{Entry}
use Rattle.proxy_model.specs.Keyed.{Keyed, at}
use Rattle.wait_model.specs.State.{owned, first_waits}
use Rattle.read_model.specs.declared.acquire.Acquire.{Acquire}
use Rattle.read_model.specs.declared.asked.Asked.{Asked}
use Rattle.read_model.specs.declared.asked.Stage.{Stage}
use Rattle.read_model.specs.PlainRead.{ask_key, called, in_stage, read_turn}
use Rattle.read_model.specs.Release.{stands, in_place}
use Rattle.read_model.specs.State.{Ground}

-- what reads wait on, with nothing else of the writes but the count of steps
abbrev pub ground_at : ℕ → Keyed Entry → Keyed Acquire → Ground
ground_at step es acquires = record { own = owned es (record (first_waits []) { step = step }); acquires = acquires }

-- what the request waits for stands
abbrev pub stands_on : Keyed Entry → Keyed Acquire → Asked → Bool
stands_on es acquires a = stands a.ticket (at es (ask_key a)) (at acquires (ask_key a)) a.stage

-- it becomes a call where that doesn't stand
abbrev pub fallen : ℕ → Keyed Entry → Keyed Acquire → Asked → Asked
fallen step es acquires a = if stands_on es acquires a then a else in_stage (called step) a

-- which is a release in place by which no read is decided again
pub fallen-in_place : (h : Header) (g : Ground) (a : Asked) → in_place false h g a ≡ fallen g.own.waits.step g.own.entries g.acquires a
fallen-in_place h g a = refl

pub fallen-ticket : (step : ℕ) (es : Keyed Entry) (acquires : Keyed Acquire) (a : Asked) → (fallen step es acquires a).ticket ≡ a.ticket
fallen-ticket step es acquires a =
    elim (stands_on es acquires a) as (λ b. (cond b a (in_stage (called step) a)).ticket ≡ a.ticket) [ true ↦ refl | false ↦ refl ]

-- What ended stood at one key: what each other waits for stands, and those of the key alone can fall.

abbrev pub stand_elsewhere : List ℕ → Keyed Entry → Keyed Acquire → List Asked → Bool
stand_elsewhere k es acquires xs = list_all (λ a. same (ask_key a) k || stands_on es acquires a) xs

abbrev pub stays_at : List ℕ → Keyed Entry → Keyed Acquire → Asked → Bool
stays_at k es acquires a = not (same (ask_key a) k) || stands_on es acquires a

abbrev pub fallen_at : List ℕ → ℕ → Keyed Entry → Keyed Acquire → Asked → Asked
fallen_at k step es acquires a = if stays_at k es acquires a then a else in_stage (called step) a

pub fallen_at-ticket : (k : List ℕ) (step : ℕ) (es : Keyed Entry) (acquires : Keyed Acquire) (a : Asked) → (fallen_at k step es acquires a).ticket ≡ a.ticket
fallen_at-ticket k step es acquires a =
    elim (stays_at k es acquires a) as (λ b. (cond b a (in_stage (called step) a)).ticket ≡ a.ticket) [ true ↦ refl | false ↦ refl ]

-- the stage that it comes into where that doesn't stand and it is decided by the entry of its key
abbrev pub again_stage : Header → ℕ → Keyed Entry → Keyed Acquire → Asked → Option Stage
again_stage h step es acquires a =
    if stands_on es acquires a then None else Some (read_turn h step (at es (ask_key a)) false None).stage
