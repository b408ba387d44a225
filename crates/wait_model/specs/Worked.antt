-- Worked steps of writes and their answers, under the leasing prefix L/. The proxy holds `a` with create revision 2 and no record, or
-- nothing. Its session is lease 9.
use Rattle.std.specs.Prelude.{◌≡◌, ℕ, Bool, true, false, codes, List, [], ◌∷◌, Option, None, Some}
use Rattle.etcd_types.specs.declared.record.Kv.{Kv}
use Rattle.etcd_types.specs.declared.operation.Op.{Op}
use Rattle.etcd_types.specs.declared.operation.Op.TheVariants as op
use Rattle.etcd_types.specs.declared.request.Request.{Request}
use Rattle.etcd_types.specs.declared.request.Request.TheVariants as request
use Rattle.etcd_types.specs.declared.answer.Body.{Body}
use Rattle.etcd_types.specs.declared.answer.Body.TheVariants as body
use Rattle.etcd_types.specs.declared.answer.Answer.{Answer}
use Rattle.etcd_types.specs.declared.answer.Answer.TheVariants as answer
use Rattle.proxy_model.specs.declared.lease.Entry.{Entry}
use Rattle.proxy_model.specs.declared.lease.Phase.{Phase}
use Rattle.proxy_model.specs.declared.lease.Phase.TheVariants.{Held, Writing, Leaving}
use Rattle.proxy_model.specs.Keyed.{Keyed}
use Rattle.proxy_model.specs.Prefixes.{only}
use Rattle.proxy_model.specs.Asks.{created_at}
use Rattle.wait_model.specs.declared.sending.Sending.TheVariants as sending
use Rattle.wait_model.specs.declared.write.Write.{Write}
use Rattle.wait_model.specs.declared.found.Found.{Found}
use Rattle.wait_model.specs.declared.found.Asking.{Asking}
use Rattle.wait_model.specs.declared.found.Asking.TheVariants as asking
use Rattle.wait_model.specs.declared.write.WriteStage.{WriteStage}
use Rattle.wait_model.specs.declared.write.WriteStage.TheVariants.{Waiting, Sends, Finds}
use Rattle.wait_model.specs.declared.wait.WaitCall.{WaitCall}
use Rattle.wait_model.specs.declared.wait.WaitJob.TheVariants as job
use Rattle.wait_model.specs.declared.wait.Settled.TheVariants as settled
use Rattle.wait_model.specs.State.{Ownership}
use Rattle.wait_model.specs.Asked.{submitted}
use Rattle.wait_model.specs.Endings.{answered}
use Rattle.wait_model.specs.Leaving.{rescinded}
use Rattle.wait_model.specs.Notices.{put_noticed, delete_noticed}
use Rattle.wait_model.specs.Passes.{proceeded}
use Rattle.wait_model.specs.Sent.{write_txn}
use Rattle.wait_model.specs.SessionEnd.{session_ended}

abbrev pub own : Keyed Entry → List Write → List WaitCall → Keyed ℕ → Ownership
own es ws calls quiet = record { entries = es; waits = record { prefix = codes "L/"; step = 7; writes = ws; spoiled = []; quiet = quiet; out = calls } }

abbrev pub a_in : Option Kv → Phase → Keyed Entry
a_in kv phase = (codes "a", record { create = 2; kv = kv; phase = phase }) ∷ []

abbrev pub record_a : Kv
record_a = record { key = codes "a"; value = codes "x"; create = 3; modified = 3; version = 1; lease = 0 }

abbrev pub put_a : ℕ → Request
put_a lease = request.Put (record { key = codes "a"; value = codes "x"; lease = lease; prev_kv = false; ignore_lease = false })

abbrev pub op_put : List ℕ → List ℕ → Op
op_put k v = op.Put (record { key = k; value = v; lease = 0; prev_kv = false; ignore_lease = false })

abbrev pub both : Request
both = request.Txn (record { compare = []; success = op_put (codes "a") (codes "x") ∷ []; failure = op_put (codes "b") (codes "y") ∷ [] })

abbrev pub of_a : ℕ → Request → WriteStage → Write
of_a ticket ask stage = record { ticket = ticket; request = ask; ranges = only (codes "a") ∷ []; stage = stage }

abbrev pub of_both : ℕ → WriteStage → Write
of_both ticket stage = record { ticket = ticket; request = both; ranges = only (codes "a") ∷ only (codes "b") ∷ []; stage = stage }

abbrev pub done_at : ℕ → Body → Answer
done_at revision b = answer.Done (record { header = record { cluster = 1; member = 1; revision = revision; term = 1 }; body = b })

abbrev pub asked : ℕ → Request → Ownership → Ownership
asked ticket ask o = proceeded (submitted ticket ask o)

-- the owner writes a held key
abbrev pub OwnerIsDue : Type 0
OwnerIsDue = asked 3 (put_a 0) (own (a_in None Held) [] [] []) ≡ own (a_in None (Writing false)) (of_a 3 (put_a 0) (Sends true (sending.Due 7)) ∷ []) [] []

-- its compare is of the entry's create revision
abbrev pub OwnerCompares : Type 0
OwnerCompares = (write_txn (codes "L/") (a_in None (Writing false)) (of_a 3 (put_a 0) (Sends true (sending.Due 7)))).compare ≡ created_at (only (codes "L/a")) 2 ∷ []

abbrev pub OwnerIsAnswered : Type 0
OwnerIsAnswered =
    answered 4 (done_at 3 (body.Txn true (body.Put None ∷ []))) (Some 9) 100 (own (a_in None (Writing false)) (of_a 3 (put_a 0) (Sends true (sending.Out 4)) ∷ []) ((record { call = 4; job = job.Write }) ∷ []) [])
    ≡ Some (record { own = own (a_in (Some record_a) Held) [] [] []; settled = settled.Reply 3 (done_at 3 (body.Put None)) })

-- the owner finds its key owned no more, and goes on as a guest
abbrev pub OwnerFails : Type 0
OwnerFails =
    answered 4 (done_at 3 (body.Txn false (body.Range 0 false [] ∷ []))) (Some 9) 100 (own (a_in None (Writing false)) (of_a 3 (put_a 0) (Sends true (sending.Out 4)) ∷ []) ((record { call = 4; job = job.Write }) ∷ []) [])
    ≡ Some (record { own = own [] (of_a 3 (put_a 0) (Sends false (sending.Due 7)) ∷ []) [] []; settled = settled.Nothing })

-- a put with a lease gives the key up first
abbrev pub LeasedWaits : Type 0
LeasedWaits = asked 3 (put_a 5) (own (a_in None Held) [] [] []) ≡ own (a_in None (Leaving false)) (of_a 3 (put_a 5) Waiting ∷ []) [] []

abbrev pub LeasedGoes : Type 0
LeasedGoes =
    proceeded (rescinded (codes "a") 2 100 (own (a_in None (Leaving true)) (of_a 3 (put_a 5) Waiting ∷ []) [] []))
    ≡ own [] (of_a 3 (put_a 5) (Sends false (sending.Due 7)) ∷ []) [] ((codes "a", 2100) ∷ [])

-- a second write of the key waits for the first
abbrev pub SecondWaits : Type 0
SecondWaits =
    asked 4 (put_a 0) (asked 3 (put_a 0) (own (a_in None Held) [] [] []))
    ≡ own (a_in None (Writing false)) (of_a 3 (put_a 0) (Sends true (sending.Due 7)) ∷ of_a 4 (put_a 0) Waiting ∷ []) [] []

-- a transaction keeps what it owns
abbrev pub SharedIsDue : Type 0
SharedIsDue = asked 3 both (own (a_in None Held) [] [] []) ≡ own (a_in None (Writing false)) (of_both 3 (Sends true (sending.Due 7)) ∷ []) [] []

abbrev pub SharedCompares : Type 0
SharedCompares =
    (write_txn (codes "L/") (a_in None (Writing false)) (of_both 3 (Sends true (sending.Due 7)))).compare
    ≡ created_at (only (codes "L/a")) 2 ∷ created_at (only (codes "L/b")) 0 ∷ []

-- the branch that ran updates the record
abbrev pub SharedIsAnswered : Type 0
SharedIsAnswered =
    answered 4 (done_at 3 (body.Txn true (body.Txn true (body.Put None ∷ []) ∷ []))) (Some 9) 100 (own (a_in None (Writing false)) (of_both 3 (Sends true (sending.Out 4)) ∷ []) ((record { call = 4; job = job.Write }) ∷ []) [])
    ≡ Some (record { own = own (a_in (Some record_a) Held) [] [] []; settled = settled.Reply 3 (done_at 3 (body.Txn true (body.Put None ∷ []))) })

-- and the other one leaves it
abbrev pub OtherBranch : Type 0
OtherBranch =
    answered 5 (done_at 4 (body.Txn true (body.Txn false (body.Put None ∷ []) ∷ []))) (Some 9) 100 (own (a_in (Some record_a) (Writing false)) (of_both 5 (Sends true (sending.Out 5)) ∷ []) ((record { call = 5; job = job.Write }) ∷ []) [])
    ≡ Some (record { own = own (a_in (Some record_a) Held) [] [] []; settled = settled.Reply 5 (done_at 4 (body.Txn false (body.Put None ∷ []))) })

abbrev pub foreign : List ℕ → ℕ → Kv
foreign k lease = record { key = k; value = []; create = 2; modified = 2; version = 1; lease = lease }

abbrev pub found_a : Bool → Asking → Found
found_a gone revoke = record { key = codes "a"; create = 2; gone = gone; revoke = revoke }

-- a guest finds a foreign owner, which is asked
abbrev pub GuestIsBlocked : Type 0
GuestIsBlocked =
    answered 4 (done_at 3 (body.Txn false (body.Range 1 false (foreign (codes "L/a") 8 ∷ []) ∷ []))) (Some 9) 100 (own [] (of_a 3 (put_a 0) (Sends false (sending.Out 4)) ∷ []) ((record { call = 4; job = job.Write }) ∷ []) [])
    ≡ Some (record { own = own [] (of_a 3 (put_a 0) (Finds (found_a false (asking.Due 7) ∷ [])) ∷ []) [] []; settled = settled.Nothing })

-- it finds an ownership of its own proxy, which leaves
abbrev pub GuestFindsOwn : Type 0
GuestFindsOwn =
    answered 4 (done_at 3 (body.Txn false (body.Range 1 false (foreign (codes "L/a") 9 ∷ []) ∷ []))) (Some 9) 100 (own [] (of_a 3 (put_a 0) (Sends false (sending.Out 4)) ∷ []) ((record { call = 4; job = job.Write }) ∷ []) [])
    ≡ Some (record { own = own (a_in None (Leaving false)) (of_a 3 (put_a 0) (Finds []) ∷ []) [] []; settled = settled.Nothing })

-- the owner's deletion makes it due again; an answer to the revoke call alone doesn't
abbrev pub DeletionFrees : Type 0
DeletionFrees =
    proceeded (delete_noticed (codes "a") 6 (own [] (of_a 3 (put_a 0) (Finds (found_a false asking.Done ∷ [])) ∷ []) [] []))
    ≡ own [] (of_a 3 (put_a 0) (Sends false (sending.Due 7)) ∷ []) [] []

abbrev pub RevokedWaits : Type 0
RevokedWaits =
    answered 5 (done_at 4 (body.Txn true (body.Put None ∷ []))) (Some 9) 100 (own [] (of_a 3 (put_a 0) (Finds (found_a false (asking.Out 5) ∷ [])) ∷ []) ((record { call = 5; job = job.Revoke (codes "a") }) ∷ []) [])
    ≡ Some (record { own = own [] (of_a 3 (put_a 0) (Finds (found_a false asking.Done ∷ [])) ∷ []) [] []; settled = settled.Nothing })

-- the end of the session
abbrev pub OwnerIsGuest : Type 0
OwnerIsGuest =
    session_ended (own (a_in None (Writing false)) (of_a 3 (put_a 0) (Sends true (sending.Due 7)) ∷ []) [] [])
    ≡ own [] (of_a 3 (put_a 0) (Sends false (sending.Due 7)) ∷ []) [] []

abbrev pub SharedWaits : Type 0
SharedWaits =
    session_ended (own (a_in None (Writing false)) (of_both 3 (Sends true (sending.Due 7)) ∷ []) [] [])
    ≡ own [] (of_both 3 Waiting ∷ []) [] []

-- a marked entry leaves at the answer
abbrev pub MarkedLeaves : Type 0
MarkedLeaves =
    put_noticed (Some 9) (codes "a") 2 9 (own (a_in None (Writing false)) [] [] []) ≡ own (a_in None (Writing true)) [] [] []
