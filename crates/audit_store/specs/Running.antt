-- What a call that runs operations tells: the answer, and the changes that the request has then made.
use Rattle.std.specs.Prelude.{◌≡◌, List, ◌++◌, Result, Ok, Err}
use Rattle.etcd_types.specs.declared.answer.Body.{Body}
use Rattle.etcd_types.specs.declared.answer.Refusal.{Refusal}
use Rattle.store_model.specs.declared.history.KeyChange.{KeyChange}
use Rattle.store_model.specs.Transactions.{Ran, RanAll}

abbrev pub Runs : Result Body Refusal → List KeyChange → Ran → Type 0
Runs (Ok body) made ran = ran ≡ Ok (made, body)
Runs (Err refusal) made ran = ran ≡ Err refusal

-- the same, from the changes and the answer
abbrev pub ran_of : List KeyChange → Result Body Refusal → Ran
ran_of made (Ok body) = Ok (made, body)
ran_of made (Err refusal) = Err refusal

abbrev pub RunsAll : Result (List Body) Refusal → List KeyChange → RanAll → Type 0
RunsAll (Ok bodies) made ran = ran ≡ Ok (made, bodies)
RunsAll (Err refusal) made ran = ran ≡ Err refusal

-- with bodies before those of the rest
abbrev pub with_bodies : List Body → RanAll → RanAll
with_bodies bodies (Ok ran) = Ok (ran.0, bodies ++ ran.1)
with_bodies bodies (Err refusal) = Err refusal
