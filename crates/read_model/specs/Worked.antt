-- Worked steps, under the leasing prefix L/, session 9.
use Rattle.std.specs.Prelude.{◌≡◌, ℕ, Bool, true, false, codes, List, [], ◌∷◌, None, Some}
use Rattle.etcd_types.specs.declared.record.Header.{Header}
use Rattle.etcd_types.specs.declared.request.Request.TheVariants as request
use Rattle.etcd_types.specs.declared.answer.Body.TheVariants as body
use Rattle.etcd_types.specs.declared.answer.Answer.{Answer}
use Rattle.etcd_types.specs.declared.answer.Answer.TheVariants as answer
use Rattle.proxy_model.specs.declared.lease.Entry.{Entry}
use Rattle.proxy_model.specs.declared.lease.Phase.{Phase}
use Rattle.proxy_model.specs.declared.lease.Phase.TheVariants.{Held, Leaving}
use Rattle.proxy_model.specs.Keyed.{Keyed}
use Rattle.proxy_model.specs.Asks.{range_ask}
use Rattle.proxy_model.specs.Prefixes.{only}
use Rattle.wait_model.specs.declared.sending.Sending.{Sending}
use Rattle.wait_model.specs.declared.sending.Sending.TheVariants as sending
use Rattle.wait_model.specs.declared.write.Write.{Write}
use Rattle.wait_model.specs.declared.wait.WaitCall.{WaitCall}
use Rattle.read_model.specs.declared.asked.Asked.{Asked}
use Rattle.read_model.specs.declared.acquire.Acquire.{Acquire}
use Rattle.read_model.specs.declared.asked.Stage.{Stage}
use Rattle.read_model.specs.declared.asked.Stage.TheVariants as stage
use Rattle.read_model.specs.State.{Reads, Moment}
use Rattle.read_model.specs.PlainRead.{shown}
use Rattle.read_model.specs.Acquires.{read_asked, acquire_answered, acquire_lost}
use Rattle.read_model.specs.SessionEnd.{session_over}

abbrev head : ℕ → Header
head n = record { cluster = 1; member = 1; revision = n; term = 1 }

abbrev now : Moment
now = record { now = 100; session = Some 9; created = true; header = head 2 }

abbrev read : ℕ → Stage → Asked
read ticket s = record {
  ticket = ticket;
  request = request.Range (range_ask (only (codes "a")));
  word = 0;
  asked = 100;
  losses = 0;
  stales = 0;
  stage = s;
}

abbrev fresh : ℕ → Asked
fresh ticket = read ticket stage.Joined

abbrev reads : Keyed Entry → Keyed Bool → List Write → List WaitCall → Keyed Acquire → List Asked → Reads
reads es ss ws calls cs xs = record { own = record { entries = es; waits = record { prefix = codes "L/"; step = 7; writes = ws; spoiled = ss; quiet = []; out = calls } }; acquires = cs; asks = xs }

abbrev claim : ℕ → Sending → Acquire
claim ticket s = record { ticket = ticket; session = 9; sending = s }

abbrev a_in : Phase → Keyed Entry
a_in phase = (codes "a", record { create = 2; kv = None; phase = phase }) ∷ []

abbrev at_a : {A : Type 0} → A → Keyed A
at_a x = (codes "a", x) ∷ []

-- a first read acquires_at, a second joins
abbrev pub SecondJoins : Type 0
SecondJoins =
    read_asked now (fresh 2) (read_asked now (fresh 1) (reads [] [] [] [] [] []))
    ≡ reads [] (at_a false) [] [] (at_a (claim 1 (sending.Due 7))) (read 1 stage.Acquiring ∷ read 2 stage.Joined ∷ [])

abbrev taken : Answer
taken = answer.Done (record { header = head 2; body = body.Txn true (body.Range 0 false [] ∷ body.Put None ∷ []) })

-- the answer holds the key; both are replied
abbrev pub BothAreReplied : Type 0
BothAreReplied =
    acquire_answered now (codes "a") taken (reads [] (at_a false) [] [] (at_a (claim 1 (sending.Out 4))) (read 1 stage.Acquiring ∷ read 2 stage.Joined ∷ []))
    ≡ Some (record { reads = reads (a_in Held) [] [] [] [] (read 1 (shown (head 2) None) ∷ read 2 (shown (head 2) None) ∷ []); ends = false })

-- spoiled: the entry leaves, its ticket is replied, the other is called
abbrev pub SpoiledLeaves : Type 0
SpoiledLeaves =
    acquire_answered now (codes "a") taken (reads [] (at_a true) [] [] (at_a (claim 1 (sending.Out 4))) (read 1 stage.Acquiring ∷ read 2 stage.Joined ∷ []))
    ≡ Some (record { reads = reads (a_in (Leaving false)) [] [] [] [] (read 1 (shown (head 2) None) ∷ read 2 (stage.Calling (sending.Due 7)) ∷ []); ends = false })

-- the end of the session: a due acquire falls, and both are called
abbrev pub DueFalls : Type 0
DueFalls =
    session_over now (reads [] (at_a false) [] [] (at_a (claim 1 (sending.Due 5))) (read 1 stage.Acquiring ∷ read 2 stage.Joined ∷ []))
    ≡ reads [] [] [] [] [] (read 1 (stage.Calling (sending.Due 7)) ∷ read 2 (stage.Calling (sending.Due 7)) ∷ [])

-- one that is out stays, and so do they
abbrev pub OutStays : Type 0
OutStays =
    session_over now (reads [] (at_a false) [] [] (at_a (claim 1 (sending.Out 4))) (read 1 stage.Acquiring ∷ read 2 stage.Joined ∷ []))
    ≡ reads [] (at_a false) [] [] (at_a (claim 1 (sending.Out 4))) (read 1 stage.Acquiring ∷ read 2 stage.Joined ∷ [])

-- lost, with two members: its ticket and the other are called, and one loss counts
abbrev pub LostIsCalled : Type 0
LostIsCalled =
    acquire_lost 2 now (codes "a") (reads [] (at_a false) [] [] (at_a (claim 1 (sending.Out 4))) (read 1 stage.Acquiring ∷ read 2 stage.Joined ∷ []))
    ≡ reads [] [] [] [] [] (record (read 1 (stage.Calling (sending.Due 7))) { losses = 1 } ∷ read 2 (stage.Calling (sending.Due 7)) ∷ [])
