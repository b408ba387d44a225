-- Small runs of the machine from its start, each event with the reading of the clock, and what is answered: leases and reads.
use Rattle.std.specs.Prelude.{◌≡◌, ℕ, true, false, List, [], ◌∷◌, None, Result, Ok}
use Rattle.etcd_types.specs.declared.record.Kv.{Kv}
use Rattle.etcd_types.specs.declared.request.Request.TheVariants as request
use Rattle.etcd_types.specs.declared.answer.Answer.TheVariants as answer
use Rattle.etcd_types.specs.declared.answer.Body.{Body}
use Rattle.etcd_types.specs.declared.answer.Body.TheVariants as body
use Rattle.store_model.specs.Refusals.{lease_exists}
use Rattle.store_model.specs.State.{header}
use Rattle.store_model.specs.Worked.{key_a, value_x, only, ask, put}
use Rattle.shop_model.specs.declared.event.StoreEvent.{StoreEvent}
use Rattle.shop_model.specs.declared.event.StoreEvent.TheVariants.{Exec}
use Rattle.shop_model.specs.declared.event.StoreOutcome.{StoreOutcome}
use Rattle.shop_model.specs.declared.event.StoreOutcome.TheVariants as outcome
use Rattle.shop_model.specs.declared.event.StoreStepFault.{StoreStepFault}
use Rattle.shop_model.specs.Shop.{Shop, first_shop, settled}
use Rattle.shop_model.specs.Steps.{does}

abbrev pub Told : Type 0
Told = Result StoreOutcome StoreStepFault

-- what is answered to these events
abbrev pub told_from : Shop → List (ℕ × StoreEvent) → List Told
told_from s [] = []
told_from s (e ∷ es) = let d = does e.0 e.1 (settled e.0 s) in d.1 ∷ told_from d.0 es

abbrev pub told : List (ℕ × StoreEvent) → List Told
told events = told_from first_shop events

abbrev pub grants : ℕ → ℕ → ℕ → ℕ × StoreEvent
grants now ttl lease = (now, Exec (request.Grant ttl lease))

abbrev pub puts : ℕ → List ℕ → List ℕ → ℕ → ℕ × StoreEvent
puts now key value lease = (now, Exec (request.Put (record (put key value lease) { prev_kv = false })))

abbrev pub gets : ℕ → List ℕ → ℕ × StoreEvent
gets now key = (now, Exec (request.Range (ask (only key) 0)))

abbrev pub keeps : ℕ → ℕ → ℕ × StoreEvent
keeps now lease = (now, Exec (request.KeepAlive lease))

abbrev pub lists : ℕ → ℕ × StoreEvent
lists now = (now, Exec request.Leases)

abbrev pub done : ℕ → Body → Told
done revision b = Ok (outcome.Answer (answer.Done (record { header = header 1 revision; body = b })))

abbrev pub a_under_7 : Kv
a_under_7 = record { key = key_a; value = value_x; create = 2; modified = 2; version = 1; lease = 7 }

-- a key under a lease is there until the lease's last millisecond is over
abbrev pub KeptToTheDeadline : Type 0
KeptToTheDeadline =
    told (grants 0 30 7 ∷ puts 0 key_a value_x 7 ∷ gets 29999 key_a ∷ [])
    ≡ done 1 (body.Grant 7 30) ∷ done 2 (body.Put None) ∷ done 2 (body.Range 1 false (a_under_7 ∷ [])) ∷ []

abbrev pub GoneAtTheDeadline : Type 0
GoneAtTheDeadline =
    told (grants 0 30 7 ∷ puts 0 key_a value_x 7 ∷ gets 30000 key_a ∷ [])
    ≡ done 1 (body.Grant 7 30) ∷ done 2 (body.Put None) ∷ done 3 (body.Range 0 false []) ∷ []

-- the last one comes as its deadline does
abbrev pub KeptAlive : Type 0
KeptAlive =
    told (grants 0 30 7 ∷ keeps 29999 7 ∷ keeps 59998 7 ∷ keeps 89998 7 ∷ [])
    ≡ done 1 (body.Grant 7 30) ∷ done 1 (body.KeepAlive 7 30) ∷ done 1 (body.KeepAlive 7 30) ∷ done 1 (body.KeepAlive 7 0) ∷ []

-- a grant that is refused changes no deadline
abbrev pub GrantedOnce : Type 0
GrantedOnce =
    told (grants 0 60 7 ∷ grants 0 30 7 ∷ lists 59999 ∷ lists 60000 ∷ [])
    ≡ done 1 (body.Grant 7 60) ∷ Ok (outcome.Answer (answer.Refused lease_exists)) ∷ done 1 (body.Leases (7 ∷ [])) ∷ done 1 (body.Leases []) ∷ []

-- the number is granted again with a deadline of its own
abbrev pub RevokedLosesDeadline : Type 0
RevokedLosesDeadline =
    told (grants 0 30 7 ∷ puts 0 key_a value_x 7 ∷ (0, Exec (request.Revoke 7)) ∷ grants 0 60 7 ∷ lists 30000 ∷ [])
    ≡ done 1 (body.Grant 7 30) ∷ done 2 (body.Put None) ∷ done 3 body.Revoke ∷ done 3 (body.Grant 7 60) ∷ done 3 (body.Leases (7 ∷ [])) ∷ []

-- where the clock reads the last number of 64 bits, a lease ends as it begins
abbrev pub EndsBeyondSixtyFourBits : Type 0
EndsBeyondSixtyFourBits =
    told (grants 0xffff_ffff_ffff_ffff 30 7 ∷ lists 0xffff_ffff_ffff_ffff ∷ []) ≡ done 1 (body.Grant 7 30) ∷ done 1 (body.Leases []) ∷ []

-- a lease of no time is one of a second, and the store gives it a number
abbrev pub LastsASecond : Type 0
LastsASecond =
    told (grants 0 0 0 ∷ lists 999 ∷ lists 1000 ∷ []) ≡ done 1 (body.Grant 1 1) ∷ done 1 (body.Leases (1 ∷ [])) ∷ done 1 (body.Leases []) ∷ []

-- a serializable read shows what was put
abbrev pub ReadsAsApplied : Type 0
ReadsAsApplied =
    told (puts 0 key_a value_x 0 ∷ (0, Exec (request.Range (record (ask (only key_a) 0) { serializable = true }))) ∷ [])
    ≡ done 2 (body.Put None) ∷ done 2 (body.Range 1 false (record a_under_7 { lease = 0 } ∷ [])) ∷ []
