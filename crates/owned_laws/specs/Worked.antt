-- A worked transcript: a proxy's session is granted, a read of `a` is asked and sent as its acquire, and that is won at revision 7. So the
-- proxy owns `a`, until a write of it and of other keys is asked.
use Rattle.std.specs.Prelude.{◌≡◌, ℕ, true, false, codes, List, [], ◌∷◌, ◌++◌, None, Some}
use Rattle.etcd_types.specs.declared.answer.Answer.TheVariants as answer
use Rattle.etcd_types.specs.declared.answer.Body.TheVariants as body
use Rattle.etcd_types.specs.declared.record.Header.{Header}
use Rattle.etcd_types.specs.declared.request.Request.TheVariants as request
use Rattle.proxy_model.specs.declared.session.TheConstants.{FIRST_SESSION}
use Rattle.proxy_model.specs.Acquire.{acquire}
use Rattle.proxy_model.specs.Asks.{range_ask}
use Rattle.proxy_model.specs.Prefixes.{only}
use Rattle.proxy_model.specs.Wrapped.{request_under}
use Rattle.script_text.specs.declared.item.Item.{Item}
use Rattle.script_text.specs.declared.item.Item.TheVariants as item
use Rattle.owned_laws.specs.Owned.{asks, owns, owned}

abbrev pub head : ℕ → Header
head n = record { cluster = 1; member = 1; revision = n; term = 1 }

abbrev pub granted : List Item
granted =
    item.World 1 (codes "n/") (codes "L/") ∷ item.Started 1 ∷ item.Ticked 1 ∷ item.Sent 1 1 1 0 (request.Grant 10 FIRST_SESSION)
    ∷ item.Executed 1 (answer.Done (record { header = head 1; body = body.Grant FIRST_SESSION 10 })) ∷ item.Answered 1 ∷ []

abbrev pub reading : List Item
reading = granted ++ item.Asked 1 5 (request.Range (range_ask (only (codes "a")))) ∷ []

abbrev pub acquires : Item
acquires = item.Sent 1 2 1 5 (request_under (codes "n/") (request.Txn (acquire (codes "L/") (codes "a") FIRST_SESSION)))

abbrev pub acquiring : List Item
acquiring = reading ++ acquires ∷ []

abbrev pub acquired : List Item
acquired = item.Executed 2 (answer.Done (record { header = head 7; body = body.Txn true (body.Range 0 false [] ∷ body.Put None ∷ []) })) ∷ item.Answered 2 ∷ []

abbrev pub won : List Item
won = acquiring ++ acquired

abbrev pub TheKeyIsOwned : Type 0
TheKeyIsOwned = owned (codes "n/") (codes "L/") (codes "a") 1 5 won ≡ Some (owns FIRST_SESSION 7)

-- but no other key
abbrev pub NoOtherIsOwned : Type 0
NoOtherIsOwned = owned (codes "n/") (codes "L/") (codes "b") 1 5 won ≡ Some (asks [])

-- nor once it is asked to delete it with other keys
abbrev pub AWriteTakesIt : Type 0
AWriteTakesIt =
    owned (codes "n/") (codes "L/") (codes "a") 1 5 (won ++ item.Asked 1 6 (request.Delete (record { range = record { key = codes "a"; end = codes "c" }; prev_kv = false })) ∷ []) ≡ None
