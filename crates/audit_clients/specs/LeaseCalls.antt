-- What is kept of the calls that ask for sessions or keep them alive, in place of the items that send them: what floors read of a call.
use Rattle.std.specs.Prelude.{◌≡◌, ℕ, Bool, true, false, ◌==◌, if◌then◌else◌, List, Option, None, Some}
use Rattle.etcd_types.specs.declared.answer.Answer.{Answer}
use Rattle.etcd_types.specs.declared.request.Request.{Request}
use Rattle.etcd_types.specs.declared.request.Request.TheVariants as request
use Rattle.script_text.specs.declared.item.Item.{Item}
use Rattle.world_model.specs.declared.floor.Floor.{Floor}
use Rattle.world_model.specs.declared.sent_call.SentCall.{SentCall}
use Rattle.world_model.specs.Floors.{floors_after}
use Rattle.world_model.specs.Places.{kept_at}
use Rattle.world_model.specs.State.{Numbered}
use Rattle.audit_model.specs.Calls.{sent_as}
use Rattle.audit_clients.specs.declared.floors.LeaseCall.{LeaseCall}

-- whether it asks for a lease, or keeps one alive
abbrev pub lease_kind : Request → Option Bool
lease_kind (request.Grant ttl lease) = Some true
lease_kind (request.KeepAlive lease) = Some false
lease_kind _ = None

abbrev pub lease_sent : ℕ → ℕ → Option Bool → Option LeaseCall
lease_sent p clock None = None
lease_sent p clock (Some grants) = Some (record { proxy = p; clock = clock; grants = grants })

abbrev pub lease_of : Option SentCall → Option LeaseCall
lease_of None = None
lease_of (Some call) = lease_sent call.proxy call.clock (lease_kind call.request)

abbrev pub KeepsLeases : Numbered LeaseCall → List Item → Type 0
KeepsLeases kept items = (call : ℕ) → kept_at kept call ≡ lease_of (sent_as call items)

-- this is kept of the call, where it is something
abbrev pub noted : Option LeaseCall → Option LeaseCall → Option LeaseCall
noted None old = old
noted (Some lease) old = Some lease

abbrev pub Notes : ℕ → Option LeaseCall → Numbered LeaseCall → Numbered LeaseCall → Type 0
Notes call lease old new = (k : ℕ) → kept_at new k ≡ (if call == k then noted lease (kept_at old k) else kept_at old k)

-- a call of which floors read the same
abbrev pub request_of : Bool → Request
request_of true = request.Grant 0 0
request_of false = request.KeepAlive 0

abbrev pub call_of : LeaseCall → SentCall
call_of l =
    record { proxy = l.proxy; life = 0; own = 0; member = 0; request = request_of l.grants; clock = l.clock; executed = None; settled = false }

abbrev pub floors_by_lease : Option LeaseCall → Answer → Numbered Floor → Numbered Floor
floors_by_lease None answer floors = floors
floors_by_lease (Some l) answer floors = floors_after (call_of l) answer floors
