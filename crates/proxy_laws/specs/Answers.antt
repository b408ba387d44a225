-- What the store's answers to a proxy's own transactions tell, whatever the store holds.
use Rattle.std.specs.Prelude.{◌≡◌, ℕ, true, if◌then◌else◌, List, [], ◌++◌, map, Option, Some, Ok, Err}
use Rattle.std.specs.List.{flat_map}
use Rattle.std.specs.Option.{option_map}
use Rattle.etcd_types.specs.declared.key_range.KeyRange.{KeyRange}
use Rattle.etcd_types.specs.declared.record.Kv.{Kv}
use Rattle.etcd_types.specs.declared.record.Header.{Header}
use Rattle.etcd_types.specs.declared.operation.TxnAsk.{TxnAsk}
use Rattle.etcd_types.specs.declared.operation.Op.{Op}
use Rattle.etcd_types.specs.declared.request.Request.{Request}
use Rattle.etcd_types.specs.declared.answer.Body.{Body}
use Rattle.etcd_types.specs.declared.answer.Reply.{Reply}
use Rattle.store_model.specs.Records.{record_now}
use Rattle.store_model.specs.Ranges.{records_now}
use Rattle.store_model.specs.State.{State}
use Rattle.store_model.specs.Transactions.{RanAll, run_all}
pub use Rattle.store_laws.specs.Requests.Branches.{Answers, holds_now}
use Rattle.proxy_model.specs.declared.ownership.Claim.{Claim}
use Rattle.proxy_model.specs.declared.ownership.Claim.TheVariants.{Acquired, OwnedBy}
use Rattle.proxy_model.specs.declared.ownership.Owner.{Owner}
use Rattle.proxy_model.specs.declared.ownership.Written.{Written}
use Rattle.proxy_model.specs.declared.ownership.Written.TheVariants.{Wrote, Blocked}
use Rattle.proxy_model.specs.Acquire.{acquire, claimed}
use Rattle.proxy_model.specs.Fits.{fits_txn}
use Rattle.proxy_model.specs.Foreign.{owner_of, ask_revoke}
use Rattle.proxy_model.specs.Guarded.{guarded, write_ops, answer_of, written}
use Rattle.proxy_model.specs.Leaving.{rescind, guard_held}
use Rattle.proxy_model.specs.Prefixes.{under}
use Rattle.proxy_model.specs.SeveralKeys.{written_ranges}
use Rattle.proxy_model.specs.Snapshot.{Held, snapshot}

-- every answer is one that the transaction can have
abbrev pub AnswersFit : Type 0
AnswersFit = (s : State) (member : ℕ) (t : TxnAsk) (reply : Reply) → Answers s member t reply → fits_txn t reply.body ≡ true

-- an acquire's answer tells whether its compares held, and shows the record and the ownership key as the store has them
abbrev pub claim_now : State → List ℕ → List ℕ → ℕ → ℕ → Claim
claim_now s p k lease revision =
    if holds_now s (acquire p k lease) then Acquired revision (record_now s.history k)
    else OwnedBy (record_now s.history k) (option_map (owner_of p) (record_now s.history (p ++ k)))

abbrev pub ClaimsAreTrue : Type 0
ClaimsAreTrue =
    (s : State) (member : ℕ) (p k : List ℕ) (lease : ℕ) (reply : Reply) → Answers s member (acquire p k lease) reply
    → claimed p k reply ≡ Some (claim_now s p k lease reply.header.revision)

-- the bodies of these operations, run by themselves
abbrev pub bodies_in : RanAll → List Body
bodies_in (Ok ran) = ran.1
bodies_in (Err refusal) = []

abbrev pub bodies_now : State → List Op → List Body
bodies_now s ops = bodies_in (run_all s ops [])

-- the owner that each ownership key shows which the store has for what the write writes
abbrev pub owned_now : State → List ℕ → KeyRange → List Kv
owned_now s p r = records_now s.history (under p r)

abbrev pub owners_now : State → List ℕ → Request → List Owner
owners_now s p write = map (owner_of p) (flat_map (owned_now s p) (written_ranges write))

-- a guarded write's answer tells whether its compares held; if so it has what the write was answered, else all owners
abbrev pub written_now : State → List ℕ → Request → (List ℕ → ℕ) → Header → Written
written_now s p write created header =
    if holds_now s (guarded p write created) then Wrote (record { header = header; body = answer_of write (bodies_now s (write_ops p write)) })
    else Blocked (owners_now s p write)

abbrev pub WritesAreTrue : Type 0
WritesAreTrue =
    (s : State) (member : ℕ) (p : List ℕ) (write : Request) (created : List ℕ → ℕ) (reply : Reply) → Answers s member (guarded p write created) reply
    → written p write reply ≡ Some (written_now s p write created reply.header)

-- the answers to a rescind and to a revoke call tell whether their guards held
abbrev pub RescindsAreTrue : Type 0
RescindsAreTrue =
    (s : State) (member : ℕ) (p k : List ℕ) (create : ℕ) (reply : Reply) → Answers s member (rescind p k create) reply
    → guard_held reply.body ≡ Some (holds_now s (rescind p k create))

abbrev pub RevokesAreTrue : Type 0
RevokesAreTrue =
    (s : State) (member : ℕ) (p k : List ℕ) (create : ℕ) (reply : Reply) → Answers s member (ask_revoke p k create) reply
    → guard_held reply.body ≡ Some (holds_now s (ask_revoke p k create))

-- what is held are the store's records
abbrev pub AreRecordsOf : Held → State → Type 0
AreRecordsOf held s = (k : List ℕ) (kv : Option Kv) → held k ≡ Some kv → record_now s.history k ≡ kv

-- a transaction answered from what is held has the body that the store gives
abbrev pub SnapshotsAreTrue : Type 0
SnapshotsAreTrue =
    (s : State) (member : ℕ) (held : Held) (t : TxnAsk) (body : Body) (reply : Reply) → AreRecordsOf held s → snapshot held t ≡ Some body
    → Answers s member t reply → reply.body ≡ body
