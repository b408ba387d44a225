-- Worked sendings, losses and revocations, under the leasing prefix L/ with session 9: which transaction is sent, and what comes of it.
use Rattle.std.specs.Prelude.{◌≡◌, ℕ, true, false, codes, List, [], ◌∷◌, None, Some}
use Rattle.etcd_types.specs.declared.key_range.KeyRange.{KeyRange}
use Rattle.etcd_types.specs.declared.operation.Op.TheVariants as op
use Rattle.etcd_types.specs.declared.operation.TxnAsk.{TxnAsk}
use Rattle.etcd_types.specs.declared.request.Request.{Request}
use Rattle.etcd_types.specs.declared.request.Request.TheVariants as request
use Rattle.etcd_types.specs.declared.answer.Body.TheVariants as body
use Rattle.proxy_model.specs.declared.lease.Phase.TheVariants.{Held, Writing, Leaving}
use Rattle.proxy_model.specs.Prefixes.{only}
use Rattle.proxy_model.specs.Asks.{created_at, read_op, put_op, delete_op}
use Rattle.wait_model.specs.declared.due.Due.{Due}
use Rattle.wait_model.specs.declared.due.DueKind.{DueKind}
use Rattle.wait_model.specs.declared.due.DueKind.TheVariants as kind
use Rattle.wait_model.specs.declared.sending.Sending.TheVariants as sending
use Rattle.wait_model.specs.declared.write.Write.{Write}
use Rattle.wait_model.specs.declared.found.Asking.TheVariants as asking
use Rattle.wait_model.specs.declared.write.WriteStage.{WriteStage}
use Rattle.wait_model.specs.declared.write.WriteStage.TheVariants.{Sends, Finds}
use Rattle.wait_model.specs.declared.wait.WaitCall.{WaitCall}
use Rattle.wait_model.specs.declared.wait.WaitJob.{WaitJob}
use Rattle.wait_model.specs.declared.wait.WaitJob.TheVariants as job
use Rattle.wait_model.specs.declared.wait.Settled.TheVariants as settled
use Rattle.wait_model.specs.Asked.{acquire_begun, acquire_spoiled}
use Rattle.wait_model.specs.Endings.{answered, lost, forgotten}
use Rattle.wait_model.specs.LeasingStream.{resynced}
use Rattle.wait_model.specs.Notices.{put_noticed}
use Rattle.wait_model.specs.Passes.{proceeded}
use Rattle.wait_model.specs.Sent.{job_sent}
use Rattle.wait_model.specs.SessionEnd.{session_ended}
use Rattle.wait_model.specs.Worked.{own, a_in, put_a, of_a, done_at, asked, foreign, found_a}

abbrev out : ℕ → WaitJob → WaitCall
out call j = record { call = call; job = j }

abbrev to_send : DueKind → ℕ → TxnAsk → Due
to_send k ticket txn = record { kind = k; ticket = ticket; request = request.Txn txn }

-- a write of `a` behind its ownership key, which was created at this revision
abbrev put_of_a : ℕ → TxnAsk
put_of_a create =
    record { compare = created_at (only (codes "L/a")) create ∷ []; success = put_op (codes "a") (codes "x") 0 false ∷ []; failure = read_op (only (codes "L/a")) ∷ [] }

abbrev rescind_of_a : TxnAsk
rescind_of_a =
    record { compare = created_at (only (codes "L/a")) 2 ∷ []; success = delete_op (only (codes "L/a")) ∷ []; failure = [] }

abbrev ask_of_a : TxnAsk
ask_of_a =
    record { compare = created_at (only (codes "L/a")) 2 ∷ []; success = put_op (codes "L/a") (codes "REVOKE") 0 true ∷ []; failure = [] }

-- a held key is written by its owner
abbrev pub OwnerIsSent : Type 0
OwnerIsSent =
    job_sent 4 (asked 3 (put_a 0) (own (a_in None Held) [] [] []))
    ≡ Some (record {
      own = own (a_in None (Writing false)) (of_a 3 (put_a 0) (Sends true (sending.Out 4)) ∷ []) (out 4 job.Write ∷ []) [];
      due = to_send kind.Owner 3 (put_of_a 2);
    })

-- its call is lost, and so the entry leaves
abbrev pub OwnerIsLost : Type 0
OwnerIsLost =
    lost 4 (own (a_in None (Writing false)) (of_a 2 (put_a 0) (Sends true (sending.Out 4)) ∷ []) (out 4 job.Write ∷ []) [])
    ≡ record { own = own (a_in None (Leaving false)) [] [] []; settled = settled.Failed 2 }

-- the same where its request timed out while the call is out; where it is due, the key is held again
abbrev pub OwnerIsForgotten : Type 0
OwnerIsForgotten =
    forgotten 2 (own (a_in None (Writing false)) (of_a 2 (put_a 0) (Sends true (sending.Out 4)) ∷ []) (out 4 job.Write ∷ []) [])
    ≡ own (a_in None (Leaving false)) [] (out 4 job.Write ∷ []) []

abbrev pub DueOwnerIsForgotten : Type 0
DueOwnerIsForgotten =
    forgotten 2 (own (a_in None (Writing false)) (of_a 2 (put_a 0) (Sends true (sending.Due 7)) ∷ []) [] []) ≡ own (a_in None Held) [] [] []

abbrev pub RescindIsSent : Type 0
RescindIsSent =
    job_sent 5 (own (a_in None (Leaving false)) [] [] [])
    ≡ Some (record {
      own = own (a_in None (Leaving true)) [] (out 5 (job.Rescind (codes "a") 2) ∷ []) [];
      due = to_send kind.Rescind 0 rescind_of_a;
    })

-- any answer to it removes the entry, and the key rests for two seconds
abbrev pub RescindIsAnswered : Type 0
RescindIsAnswered =
    answered 5 (done_at 3 (body.Txn true (body.Delete 1 [] ∷ []))) (Some 9) 100 (own (a_in None (Leaving true)) [] (out 5 (job.Rescind (codes "a") 2) ∷ []) [])
    ≡ Some (record { own = own [] [] [] ((codes "a", 2100) ∷ []); settled = settled.Nothing })

-- of this create revision alone: an answer to a rescind of an earlier one leaves the entry
abbrev pub OlderRescind : Type 0
OlderRescind =
    answered 5 (done_at 3 (body.Txn false [])) (Some 9) 100 (own (a_in None Held) [] (out 5 (job.Rescind (codes "a") 1) ∷ []) [])
    ≡ Some (record { own = own (a_in None Held) [] [] []; settled = settled.Nothing })

abbrev pub RescindIsLost : Type 0
RescindIsLost =
    lost 5 (own (a_in None (Leaving true)) [] (out 5 (job.Rescind (codes "a") 2) ∷ []) [])
    ≡ record { own = own (a_in None (Leaving false)) [] [] []; settled = settled.Nothing }

-- at the session's end a held entry goes
abbrev pub HeldEnds : Type 0
HeldEnds = session_ended (own (a_in None Held) [] [] []) ≡ own [] [] [] []

-- nobody is known to own the key
abbrev pub GuestIsSent : Type 0
GuestIsSent =
    job_sent 4 (asked 2 (put_a 0) (own [] [] [] []))
    ≡ Some (record {
      own = own [] (of_a 2 (put_a 0) (Sends false (sending.Out 4)) ∷ []) (out 4 job.Write ∷ []) [];
      due = to_send kind.Guest 2 (put_of_a 0);
    })

abbrev range_of : List ℕ → List ℕ → KeyRange
range_of k end = record { key = k; end = end }

abbrev delete_all : List ℕ → List ℕ → Request
delete_all k end = request.Delete (record { range = range_of k end; prev_kv = false })

abbrev of_range : ℕ → List ℕ → List ℕ → WriteStage → Write
of_range ticket k end stage = record { ticket = ticket; request = delete_all k end; ranges = range_of k end ∷ []; stage = stage }

-- a delete of a range goes round the leasing range, behind all ownership keys of the range
abbrev pub RangeIsSent : Type 0
RangeIsSent =
    job_sent 5 (asked 1 (delete_all (codes "A") (codes "Z")) (own [] [] [] []))
    ≡ Some (record {
      own = own [] (of_range 1 (codes "A") (codes "Z") (Sends false (sending.Out 5)) ∷ []) (out 5 job.Write ∷ []) [];
      due = to_send kind.Several 1 (record {
        compare = created_at (range_of (codes "L/A") (codes "L/Z")) 0 ∷ [];
        success = op.Delete (record { range = range_of (codes "A") (codes "L/"); prev_kv = false }) ∷ op.Delete (record { range = range_of (codes "L0") (codes "Z"); prev_kv = false }) ∷ [];
        failure = read_op (range_of (codes "L/A") (codes "L/Z")) ∷ [];
      });
    })

-- its reply has the sum of its parts
abbrev pub RangeIsAnswered : Type 0
RangeIsAnswered =
    answered 5 (done_at 4 (body.Txn true (body.Delete 1 [] ∷ body.Delete 0 [] ∷ []))) (Some 9) 100 (own [] (of_range 1 (codes "A") (codes "Z") (Sends false (sending.Out 5)) ∷ []) (out 5 job.Write ∷ []) [])
    ≡ Some (record { own = own [] [] [] []; settled = settled.Reply 1 (done_at 4 (body.Delete 1 [])) })

-- all keys from the zero byte on: the owner of `a` is found, and is asked
abbrev pub AllFindOwner : Type 0
AllFindOwner =
    answered 6 (done_at 4 (body.Txn false (body.Range 1 false (foreign (codes "L/a") 8 ∷ []) ∷ []))) (Some 9) 100 (own [] (of_range 2 (0 ∷ []) (0 ∷ []) (Sends false (sending.Out 6)) ∷ []) (out 6 job.Write ∷ []) [])
    ≡ Some (record { own = own [] (of_range 2 (0 ∷ []) (0 ∷ []) (Finds (found_a false (asking.Due 7) ∷ [])) ∷ []) [] []; settled = settled.Nothing })

abbrev pub OwnerIsAsked : Type 0
OwnerIsAsked =
    job_sent 7 (own [] (of_range 2 (0 ∷ []) (0 ∷ []) (Finds (found_a false (asking.Due 7) ∷ [])) ∷ []) [] [])
    ≡ Some (record {
      own = own [] (of_range 2 (0 ∷ []) (0 ∷ []) (Finds (found_a false (asking.Out 7) ∷ [])) ∷ []) (out 7 (job.Revoke (codes "a")) ∷ []) [];
      due = to_send kind.AskRevoke 2 ask_of_a;
    })

-- an ownership key that the proxy has and doesn't know of is given up when it is asked for
abbrev pub OrphanLeaves : Type 0
OrphanLeaves = put_noticed (Some 9) (codes "a") 2 9 (own [] [] [] []) ≡ own (a_in None (Leaving false)) [] [] []

-- one under another lease isn't
abbrev pub StrangerStays : Type 0
StrangerStays = put_noticed (Some 9) (codes "a") 2 8 (own [] [] [] []) ≡ own [] [] [] []

-- while an acquire of the key is out it is spoiled instead
abbrev pub AcquireIsSpoiled : Type 0
AcquireIsSpoiled =
    put_noticed (Some 9) (codes "a") 2 9 (acquire_begun (codes "a") (own [] [] [] [])) ≡ acquire_spoiled (codes "a") (acquire_begun (codes "a") (own [] [] [] []))

-- a client's transaction as a guest: its own body is the reply
abbrev put_if_new : TxnAsk
put_if_new = record { compare = []; success = put_op (codes "a") (codes "x") 0 false ∷ []; failure = read_op (only (codes "a")) ∷ [] }

abbrev pub TransactionIsSent : Type 0
TransactionIsSent =
    job_sent 3 (asked 1 (request.Txn put_if_new) (own [] [] [] []))
    ≡ Some (record {
      own = own [] (of_a 1 (request.Txn put_if_new) (Sends false (sending.Out 3)) ∷ []) (out 3 job.Write ∷ []) [];
      due = to_send kind.Several 1 (record {
        compare = created_at (only (codes "L/a")) 0 ∷ [];
        success = op.Txn put_if_new ∷ [];
        failure = read_op (only (codes "L/a")) ∷ [];
      });
    })

abbrev pub TransactionIsAnswered : Type 0
TransactionIsAnswered =
    answered 3 (done_at 2 (body.Txn true (body.Txn true (body.Put None ∷ []) ∷ []))) (Some 9) 100 (own [] (of_a 1 (request.Txn put_if_new) (Sends false (sending.Out 3)) ∷ []) (out 3 job.Write ∷ []) [])
    ≡ Some (record { own = own [] [] [] []; settled = settled.Reply 1 (done_at 2 (body.Txn true (body.Put None ∷ []))) })

-- after the stream began anew what was found counts as gone; a revoke call that is out is awaited
abbrev pub ResyncFrees : Type 0
ResyncFrees =
    proceeded (resynced (own [] (of_a 3 (put_a 0) (Finds (found_a false (asking.Due 7) ∷ [])) ∷ []) [] []))
    ≡ own [] (of_a 3 (put_a 0) (Sends false (sending.Due 7)) ∷ []) [] []

abbrev pub ResyncAwaits : Type 0
ResyncAwaits =
    proceeded (resynced (own [] (of_a 3 (put_a 0) (Finds (found_a false (asking.Out 5) ∷ [])) ∷ []) (out 5 (job.Revoke (codes "a")) ∷ []) []))
    ≡ own [] (of_a 3 (put_a 0) (Finds (found_a true (asking.Out 5) ∷ [])) ∷ []) (out 5 (job.Revoke (codes "a")) ∷ []) []

-- a body that a rescind can't have is no answer to it
abbrev pub RescindRefusesOthers : Type 0
RescindRefusesOthers =
    answered 5 (done_at 3 (body.Put None)) (Some 9) 100 (own (a_in None (Leaving true)) [] (out 5 (job.Rescind (codes "a") 2) ∷ []) []) ≡ None

-- nothing is due
abbrev pub NothingIsDue : Type 0
NothingIsDue = job_sent 5 (own (a_in None Held) [] [] []) ≡ None
