-- Worked transcripts: a key that a proxy owns is written by requests of its own. It isn't owned while one of them isn't answered, and is owned
-- again once the last was done or refused, also where one is a transaction of several keys, or was asked before the acquire was answered or
-- sent; not where a call was lost, found another owner or was answered too late, nor where one puts it with a lease, deletes a range with it,
-- overtakes another, goes before the acquire or under no client's ticket, or is left.
use Rattle.std.specs.Prelude.{◌≡◌, ℕ, true, false, if◌then◌else◌, codes, List, [], ◌∷◌, ◌++◌, None, Some}
use Rattle.etcd_types.specs.declared.answer.Answer.{Answer}
use Rattle.etcd_types.specs.declared.answer.Answer.TheVariants as answer
use Rattle.etcd_types.specs.declared.answer.Body.TheVariants as body
use Rattle.etcd_types.specs.declared.operation.Op.TheVariants as op
use Rattle.etcd_types.specs.declared.request.Request.{Request}
use Rattle.etcd_types.specs.declared.request.Request.TheVariants as request
use Rattle.proxy_model.specs.declared.session.TheConstants.{FIRST_SESSION}
use Rattle.etcd_types.specs.Keys.{same}
use Rattle.proxy_model.specs.Guarded.{guarded}
use Rattle.proxy_model.specs.Wrapped.{request_under}
use Rattle.script_text.specs.declared.item.Item.{Item}
use Rattle.script_text.specs.declared.item.Item.TheVariants as item
use Rattle.owned_laws.specs.OwnWrites.{OwnWrite}
use Rattle.owned_laws.specs.Owned.{sends, owns, write_asked, write_sent, owned}
use Rattle.owned_laws.specs.Worked.{head, reading, acquires, acquiring, acquired, won}

-- of the key `a`, put under this lease
abbrev pub put : ℕ → Request
put lease = request.Put (record { key = codes "a"; value = codes "x"; lease = lease; prev_kv = false; ignore_lease = false })

abbrev pub asked : ℕ → ℕ → Item
asked ticket lease = item.Asked 1 ticket (put lease)

-- a transaction that writes `a` and `b`, where `a` is there; it puts `b` with a lease, and `a` under this one
abbrev pub both : ℕ → Request
both lease =
    request.Txn (record {
      compare = [];
      success = op.Put (record { key = codes "a"; value = codes "y"; lease = lease; prev_kv = false; ignore_lease = false }) ∷ [];
      failure = op.Put (record { key = codes "b"; value = codes "y"; lease = 9; prev_kv = false; ignore_lease = false }) ∷ [];
    })

-- one that deletes `b` and what is behind it in the branch that runs, and puts `a` in the other
abbrev pub with_range : Request
with_range =
    request.Txn (record {
      compare = [];
      success = op.Delete (record { range = record { key = codes "b"; end = codes "d" }; prev_kv = false }) ∷ [];
      failure = op.Put (record { key = codes "a"; value = codes "y"; lease = 0; prev_kv = false; ignore_lease = false }) ∷ [];
    })

-- the call of the write of this ticket
abbrev pub sent_for : ℕ → ℕ → Item
sent_for ticket call = item.Sent 1 call 1 ticket (request_under (codes "n/") (request.Txn (guarded (codes "L/") (put 0) (λ k. 7))))

abbrev pub sent : ℕ → Item
sent call = sent_for 6 call

abbrev pub done : Answer
done = answer.Done (record { header = head 8; body = body.Txn true (body.Put None ∷ []) })

-- another owner is found
abbrev pub blocked : Answer
blocked = answer.Done (record { header = head 8; body = body.Txn false (body.Range 0 false [] ∷ []) })

abbrev pub refused : ℕ → Answer
refused code = answer.Refused (record { code = code; text = [] })

-- the transaction's one call, which is done in its success branch
abbrev pub sent_both : ℕ → ℕ → Item
sent_both ticket call = item.Sent 1 call 1 ticket (request_under (codes "n/") (request.Txn (guarded (codes "L/") (both 0) (λ k. if same k (codes "a") then 7 else 0))))

abbrev pub both_done : Answer
both_done = answer.Done (record { header = head 8; body = body.Txn true (body.Txn true (body.Put None ∷ []) ∷ []) })

abbrev pub answered : Answer → List Item
answered a = won ++ asked 6 0 ∷ sent 3 ∷ item.Executed 3 a ∷ item.Answered 3 ∷ []

abbrev pub Told : List Item → Type 0
Told items = owned (codes "n/") (codes "L/") (codes "a") 1 5 items ≡ Some (owns FIRST_SESSION 7)

abbrev pub Untold : List Item → Type 0
Untold items = owned (codes "n/") (codes "L/") (codes "a") 1 5 items ≡ None

abbrev pub write : ℕ → OwnWrite
write ticket = record { ticket = ticket; request = put 0; since = 0 }

-- it is called as this, done and answered
abbrev pub does : ℕ → ℕ → List Item
does ticket call = sent_for ticket call ∷ item.Executed call done ∷ item.Answered call ∷ []

abbrev pub AreWorked : Type 0
AreWorked =
    Told won × (owned (codes "n/") (codes "L/") (codes "a") 1 5 (won ++ asked 6 0 ∷ []) ≡ Some (write_asked FIRST_SESSION 7 (write 6) []))
    × (owned (codes "n/") (codes "L/") (codes "a") 1 5 (won ++ asked 6 0 ∷ sent 3 ∷ asked 7 0 ∷ []) ≡ Some (write_sent FIRST_SESSION 7 (write 6) (write 7 ∷ []) 3))
    × (owned (codes "n/") (codes "L/") (codes "a") 1 5 (acquiring ++ asked 6 0 ∷ []) ≡ Some (sends 2 FIRST_SESSION (write 6 ∷ [])))

abbrev pub WritesKeepIt : Type 0
WritesKeepIt = Told (answered done) × Told (answered (refused 9)) × Told (answered done ++ asked 7 0 ∷ does 7 4)

-- two at a time, and one that is asked before the acquire is answered
abbrev pub TheyWait : Type 0
TheyWait =
    (owned (codes "n/") (codes "L/") (codes "a") 1 5 (won ++ asked 6 0 ∷ asked 7 0 ∷ does 6 3) ≡ Some (write_asked FIRST_SESSION 7 (write 7) []))
    × Told (won ++ asked 6 0 ∷ asked 7 0 ∷ does 6 3 ++ does 7 4) × Told (acquiring ++ asked 6 0 ∷ acquired ++ does 6 3)

-- a transaction that names it, alone, between other writes, and asked before the acquire is sent
abbrev pub TransactionsKeepIt : Type 0
TransactionsKeepIt =
    Told (won ++ item.Asked 1 6 (both 0) ∷ sent_both 6 3 ∷ item.Executed 3 both_done ∷ item.Answered 3 ∷ [])
    × Told (won ++ item.Asked 1 6 (both 0) ∷ asked 7 0 ∷ sent_both 6 3 ∷ item.Executed 3 both_done ∷ item.Answered 3 ∷ does 7 4)
    × Told (reading ++ item.Asked 1 6 (both 0) ∷ acquires ∷ acquired ++ sent_both 6 3 ∷ item.Executed 3 both_done ∷ item.Answered 3 ∷ [])
    × Told (reading ++ asked 6 0 ∷ acquires ∷ asked 7 0 ∷ acquired ++ does 6 3 ++ does 7 4)
    × Untold (won ++ item.Asked 1 6 (both 5) ∷ []) × Untold (won ++ item.Asked 1 6 with_range ∷ [])
    × Untold (won ++ item.Asked 1 6 (both 0) ∷ sent_both 6 3 ∷ item.Executed 3 blocked ∷ item.Answered 3 ∷ []) × Untold (reading ++ asked 6 0 ∷ sent 2 ∷ [])
    × Untold (reading ++ asked 6 0 ∷ item.Left 1 6 ∷ [])

abbrev pub OthersTakeIt : Type 0
OthersTakeIt =
    Untold (answered blocked) × Untold (answered (refused 14)) × Untold (won ++ asked 6 0 ∷ sent 3 ∷ item.Lost 3 ∷ []) × Untold (won ++ asked 6 5 ∷ []) × Untold (won ++ asked 0 0 ∷ [])
    × Untold (won ++ asked 6 0 ∷ asked 7 5 ∷ []) × Untold (won ++ asked 6 0 ∷ asked 7 0 ∷ sent_for 7 3 ∷ []) × Untold (won ++ asked 6 0 ∷ sent 3 ∷ sent 4 ∷ []) × Untold (won ++ asked 6 0 ∷ asked 7 0 ∷ item.Left 1 7 ∷ [])
    × Untold (won ++ asked 6 0 ∷ sent 3 ∷ item.Executed 3 done ∷ item.Clock 1 5000 ∷ item.Answered 3 ∷ [])
