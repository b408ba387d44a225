-- Worked runs of plain reads: cached, acquired, given up, timed out.
use Rattle.std.specs.Prelude.{◌≡◌, codes, [], ◌∷◌, ◌++◌, None}
use Rattle.etcd_types.specs.declared.answer.Answer.TheVariants as answer
use Rattle.etcd_types.specs.declared.answer.Body.TheVariants as body
use Rattle.proxy_model.specs.PassingOn.{call_lost}
use Rattle.core_model.specs.Verdicts.{timed_out}
use Rattle.core_model.specs.WorkedRuns.{outcomes, plain_proxy, leasing_proxy, opening, opened, opened_core, acquiring_a, acquired_a, holding_core, asks, asks_at, works, works_at, takes, takes_at, answers, answers_at, loses, tells, done, waits, notes, replies, sends, sends_nothing, get_a, put_a, none_there, one_there, record_a, guarded_put, put_done, taken_at, acquire_of_a, rescind_of_a, rescind_done, is_asked, session}

abbrev pub Opens : Type 0
Opens = outcomes leasing_proxy opening ≡ opened

-- an absent key is read, and the second read is cached
abbrev pub SecondIsCached : Type 0
SecondIsCached =
    outcomes opened_core (acquiring_a ++ asks 2 get_a ∷ []) ≡ acquired_a ++ replies (done 2 none_there) ∷ []

-- the owner writes twice, and reads its own record
abbrev pub OwnerWrites : Type 0
OwnerWrites =
    outcomes
    holding_core
    (asks 3 (put_a (codes "x"))
    ∷ works
    ∷ answers 3 3 put_done
    ∷ takes 3
    ∷ asks 4 (put_a (codes "y"))
    ∷ works
    ∷ answers 4 4 put_done
    ∷ takes 4
    ∷ asks 5 get_a
    ∷ [])
    ≡ waits
    ∷ sends 3 3 (guarded_put (codes "x") 2)
    ∷ notes
    ∷ replies (done 3 (body.Put None))
    ∷ waits
    ∷ sends 4 4 (guarded_put (codes "y") 2)
    ∷ notes
    ∷ replies (done 4 (body.Put None))
    ∷ replies (done 4 (one_there (record_a (codes "y") 4 2)))
    ∷ []

-- a read that comes behind an owner write is answered with what that wrote
abbrev pub ReadWaitsForOwner : Type 0
ReadWaitsForOwner =
    outcomes
    holding_core
    (asks 3 (put_a (codes "x")) ∷ asks 4 get_a ∷ works ∷ answers 3 3 put_done ∷ takes 4 ∷ takes 3 ∷ works ∷ [])
    ≡ waits
    ∷ waits
    ∷ sends 3 3 (guarded_put (codes "x") 2)
    ∷ notes
    ∷ replies (done 3 (one_there (record_a (codes "x") 3 1)))
    ∷ replies (done 3 (body.Put None))
    ∷ sends_nothing
    ∷ []

-- the key was asked for while its acquire is out: its reader has the record, and the key is given up
abbrev pub SpoiledIsGivenUp : Type 0
SpoiledIsGivenUp =
    outcomes opened_core (asks 1 get_a ∷ works ∷ tells 3 (is_asked session ∷ []) ∷ answers 2 2 (taken_at none_there) ∷ takes 1 ∷ works ∷ [])
    ≡ waits ∷ sends 2 1 acquire_of_a ∷ notes ∷ notes ∷ replies (done 2 none_there) ∷ sends 3 0 rescind_of_a ∷ []

-- a lost acquire, with one member
abbrev pub LostAcquireIsLost : Type 0
LostAcquireIsLost =
    outcomes opened_core (asks 1 get_a ∷ works ∷ loses 2 ∷ takes 1 ∷ [])
    ≡ waits ∷ sends 2 1 acquire_of_a ∷ notes ∷ replies (answer.Refused call_lost) ∷ []

-- the session is live below its deadline
abbrev pub HeldToTheDeadline : Type 0
HeldToTheDeadline =
    outcomes holding_core (asks_at 59999 2 get_a ∷ asks_at 60000 3 get_a ∷ works_at 60000 ∷ [])
    ≡ replies (done 2 none_there) ∷ waits ∷ sends 3 3 get_a ∷ []

-- given up, the key rests for two seconds
abbrev pub RestsBeforeAcquire : Type 0
RestsBeforeAcquire =
    outcomes
    holding_core
    (asks 2 (put_a (codes "x"))
    ∷ works
    ∷ loses 3
    ∷ takes 2
    ∷ works
    ∷ answers 4 3 rescind_done
    ∷ asks_at 1999 3 get_a
    ∷ works_at 1999
    ∷ asks_at 2000 4 get_a
    ∷ works_at 2000
    ∷ [])
    ≡ waits
    ∷ sends 3 2 (guarded_put (codes "x") 2)
    ∷ notes
    ∷ replies (answer.Refused call_lost)
    ∷ sends 4 0 rescind_of_a
    ∷ notes
    ∷ waits
    ∷ sends 5 3 get_a
    ∷ waits
    ∷ sends 6 4 acquire_of_a
    ∷ []

-- five seconds without a reply; the answer that comes then is too late
abbrev pub TimesOut : Type 0
TimesOut =
    outcomes plain_proxy (asks 1 get_a ∷ works ∷ answers_at 5000 1 1 none_there ∷ takes_at 5000 1 ∷ [])
    ≡ waits ∷ sends 1 1 get_a ∷ notes ∷ replies (answer.Refused timed_out) ∷ []

abbrev pub JustInTime : Type 0
JustInTime =
    outcomes plain_proxy (asks 1 get_a ∷ works ∷ answers_at 4999 1 1 none_there ∷ takes_at 5000 1 ∷ [])
    ≡ waits ∷ sends 1 1 get_a ∷ notes ∷ replies (done 1 none_there) ∷ []
