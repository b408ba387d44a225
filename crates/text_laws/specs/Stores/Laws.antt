-- What a store answers and tells has a text, where what it was asked has, as long as its numbers are those of texts.
use Rattle.std.specs.Prelude.{◌≡◌, ◌⊎◌, ℕ, ◌≤◌, Ok}
use Rattle.text_model.specs.Words.{max_number}
use Rattle.etcd_types.specs.declared.request.Request.{Request}
use Rattle.etcd_types.specs.declared.watch.WatchItem.{WatchItem}
use Rattle.etcd_types.specs.declared.request.WatchAsk.{WatchAsk}
use Rattle.store_model.specs.Leases.{expired}
use Rattle.store_model.specs.Members.{applied}
use Rattle.store_model.specs.State.{State, starting}
use Rattle.store_model.specs.Step.{exec}
use Rattle.store_model.specs.Watches.{opened, pushed, progressed}
use Rattle.text_laws.specs.Values.Fits.{Number, AnswerFits, MessageFits, RequestFits, WatchFits}
use Rattle.text_laws.specs.Stores.Stores.{StoreFits, HasRoom}

abbrev pub AnswersFit : Type 0
AnswersFit =
    (most : ℕ) (s : State) (member : ℕ) (q : Request) → most ≤ max_number → Number member → RequestFits 127 q → StoreFits most s → HasRoom most s → HasRoom most (exec s member q).0
    → StoreFits most (exec s member q).0 × AnswerFits most (exec s member q).1

abbrev pub MessagesFit : Type 0
MessagesFit =
    (most : ℕ) (s t : State) (i : WatchItem) (number : ℕ) → most ≤ max_number → (pushed s number ≡ Ok (t, i)) ⊎ (progressed s number ≡ Ok (t, i)) → StoreFits most s → HasRoom most s
    → StoreFits most t × MessageFits most i

abbrev pub ExpiriesFit : Type 0
ExpiriesFit = (most : ℕ) (s t : State) (lease : ℕ) → most ≤ max_number → expired s lease ≡ Ok t → StoreFits most s → HasRoom most s → StoreFits most t

abbrev pub AppliesFit : Type 0
AppliesFit = (most : ℕ) (s t : State) (member revision : ℕ) → applied s member revision ≡ Ok t → StoreFits most s → HasRoom most s → StoreFits most t

abbrev pub OpeningsFit : Type 0
OpeningsFit = (most : ℕ) (s : State) (member : ℕ) (ask : WatchAsk) → Number member → WatchFits ask → StoreFits most s → StoreFits most (opened s member ask).0

abbrev pub StartsFit : Type 0
StartsFit = (most members : ℕ) → 1 ≤ most → StoreFits most (starting members)
