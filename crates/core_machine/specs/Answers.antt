-- What is heard with an answer, field by field.
use Rattle.std.specs.Prelude.{◌≡◌, ℕ, Bool, true, false, List, Option, None, Some}
use Rattle.etcd_types.specs.declared.answer.Answer.{Answer}
use Rattle.etcd_types.specs.declared.answer.Answer.TheVariants.{Done, Refused}
use Rattle.etcd_types.specs.declared.record.Header.{Header}
use Rattle.proxy_model.specs.Members.{Members, take_seen}
use Rattle.core_model.specs.declared.out_call.OutCall.{OutCall}
use Rattle.core_model.specs.declared.out_call.OutJob.{OutJob}
use Rattle.core_model.specs.declared.out_call.OutJob.TheVariants as job
use Rattle.core_model.specs.Ends.{heard_call, lost_call, call_gone}
use Rattle.core_model.specs.Fits.{passes}
use Rattle.core_model.specs.Heard.{later_header}
use Rattle.core_model.specs.Lookups.{out_at}
use Rattle.core_model.specs.State.{Core}
use Rattle.core_machine.specs.Keeping.{Kept, on}

-- the header that came with it, where one did
abbrev pub delivered : Answer → Option Header
delivered (Done reply) = Some reply.header
delivered (Refused r) = None

abbrev pub members_told : Option Header → Members → Members
members_told None m = m
members_told (Some h) m = take_seen m h.revision

abbrev pub header_told : Option Header → Header → Header
header_told None cached = cached
header_told (Some h) cached = later_header cached h

abbrev pub heard_in : Option Header → Core → Core
heard_in d c = record c { members = members_told d c.members; header = header_told d c.header }

-- the call is out no more, and its header was heard
abbrev pub ended_in : ℕ → Option Header → Core → Core
ended_in call d c = heard_in d (call_gone call c)

-- What the call that is out is for.

abbrev pub is_acquire : OutJob → Bool
is_acquire (job.Acquire k) = true
is_acquire _ = false

abbrev pub is_wait : OutJob → Bool
is_wait job.Wait = true
is_wait _ = false

abbrev pub is_group_for : ℕ → OutJob → Type 0
is_group_for lease (job.Group n) = n ≡ lease
is_group_for lease _ = ⊥

-- of the session, or a client's own
abbrev pub is_other : OutJob → Bool
is_other (job.Grant lease) = true
is_other (job.Keep lease) = true
is_other (job.Ask kind) = true
is_other _ = false

abbrev pub CallIs : (OutJob → Bool) → ℕ → List OutCall → Type 0
CallIs p call out = passes (λ o. p o.job) (out_at call out) ≡ true

abbrev pub GroupIs : ℕ → Option OutCall → Type 0
GroupIs lease None = ⊥
GroupIs lease (Some o) = is_group_for lease o.job

-- this was heard of the call, and its header was delivered
abbrev pub Hears : Kept → ℕ → ℕ → Option Answer → Option Header → Kept → Type 0
Hears old now call heard d new =
    (o : OutCall) → out_at call old.core.out ≡ Some o → new ≡ on old (heard_call now o heard (ended_in call d old.core))

-- it counts as lost
abbrev pub Loses : Kept → ℕ → ℕ → Option Header → Kept → Type 0
Loses old now call d new =
    (o : OutCall) → out_at call old.core.out ≡ Some o → new ≡ on old (lost_call now o (ended_in call d old.core))

abbrev pub without_seat_if : Bool → Core → Core
without_seat_if true c = record c { seat = None }
without_seat_if false c = c

-- the answer was taken as one to its call, or can't be one
abbrev pub Answers : Kept → Option Core → Bool → Kept → Type 0
Answers old None taken new = (taken ≡ false) × (new ≡ old)
Answers old (Some c) taken new = (taken ≡ true) × (new ≡ on old c)
