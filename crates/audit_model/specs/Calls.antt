-- What a transcript tells of a call: who sent it, and whether it has ended. Calls are numbered from 1 in the order in which they are
-- sent, whichever proxy sends them.
use Rattle.std.specs.Prelude.{ℕ, Bool, true, false, ◌==◌, if◌then◌else◌, List, [], ◌∷◌, ◌++◌, length, filter, Option, None, Some}
use Rattle.std.specs.List.{list_any}
use Rattle.script_text.specs.declared.item.Item.{Item}
use Rattle.script_text.specs.declared.item.Item.TheVariants as item
use Rattle.world_model.specs.declared.sent_call.SentCall.{SentCall}
use Rattle.world_model.specs.Lives.{clock_of, life, sent_it}

abbrev pub is_sending : Item → Bool
is_sending (item.Sent p call member ticket q) = true
is_sending _ = false

-- how many calls were sent
abbrev pub calls_sent : List Item → ℕ
calls_sent items = length (filter is_sending items)

-- the proxy that sent the call
abbrev pub sender_of : ℕ → List Item → Option ℕ
sender_of call [] = None
sender_of call (item.Sent p number member ticket q ∷ items) = if number == call then Some p else sender_of call items
sender_of call (i ∷ items) = sender_of call items

-- it was sent by this proxy in the life that the proxy has now
abbrev pub is_own_call : ℕ → Option ℕ → List Item → Bool
is_own_call call None items = false
is_own_call call (Some p) items = sent_it p call (life p items)

abbrev pub settles : ℕ → Item → Bool
settles call (item.Answered number) = number == call
settles call (item.Lost number) = number == call
settles call _ = false

-- it was answered or lost
abbrev pub is_settled : ℕ → List Item → Bool
is_settled call items = list_any (settles call) items

-- What floors read of a call: its sender, the sender's clock when it was sent, and the request. The sender's own number of it and the
-- sender's lives are nothing to them.
abbrev pub sent_from : ℕ → List Item → List Item → Option SentCall
sent_from call before [] = None
sent_from call before (item.Sent p number member ticket q ∷ items) =
    if number == call
    then Some (record { proxy = p; life = 0; own = 0; member = member; request = q; clock = clock_of p before; executed = None; settled = false })
    else sent_from call (before ++ item.Sent p number member ticket q ∷ []) items
sent_from call before (i ∷ items) = sent_from call (before ++ i ∷ []) items

abbrev pub sent_as : ℕ → List Item → Option SentCall
sent_as call items = sent_from call [] items
