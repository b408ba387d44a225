-- The lines that are about one proxy, as turns of it.
use Rattle.std.proofs.Common.{◌≡◌, ℕ, ◌+◌, Bool, true, false, not, cond, List, [], ◌∷◌, None, Some, Result, Ok, Err, refl, sym, ◌∙◌, ap}
use Rattle.core_model.specs.declared.event.CoreEvent.TheVariants as event
use Rattle.core_model.specs.Lookups.{is_known}
use Rattle.etcd_types.specs.declared.request.Request.{Request}
use Rattle.json_model.specs.declared.extra.Reading.TheVariants.{Client}
use Rattle.json_model.specs.declared.fault.ApiFault.{ApiFault}
use Rattle.json_model.specs.Mapping.{request_of}
use Rattle.replay_world.proofs.Turns.{goes, stops}
use Rattle.replay_places.specs.declared.turn.Turn.TheVariants as turn
use Rattle.replay_world.specs.Refusals.{ticket_fault, watch_fault, known_fault}
use Rattle.replay_places.specs.Turns.{turned, posted_as as posting}
use Rattle.script_text.specs.declared.item.Item.{Item}
use Rattle.script_text.specs.declared.item.Item.TheVariants as item
use Rattle.world_model.specs.Asks.{asked, asked_at, posted, posted_at, posted_as}
use Rattle.world_model.specs.declared.fault.WorldFault.{WorldFault}
use Rattle.world_model.specs.declared.fault.WorldFault.TheVariants as fault
use Rattle.world_model.specs.Places.{is_among, place_at}
use Rattle.world_model.specs.Starts.{ticked}
use Rattle.world_model.specs.State.{Place, World}
use Rattle.world_model.specs.Steps.{Step, refuses, at_place}
use Rattle.world_model.specs.Takes.{is_watch, message_taken, taken_at, taken_if, left, left_at, left_if}

pub ticked_turn : (w : World) (p word : ℕ) → word ≡ w.lines + 2 → ticked w p ≡ at_place w p (turned w w p (turn.Step (event.Tick word) (fault.NoSuchProxy p) (item.Ticked p)))
ticked_turn w p word e =
    ap (λ n. at_place w p (turned w w p (turn.Step (event.Tick n) (fault.NoSuchProxy p) (item.Ticked p)))) (sym e)

-- Asking.

abbrev tickets_used : ℕ → Place → Bool
tickets_used ticket x = is_among x.tickets ticket

by_test : (b : Bool) (c : Bool) (x y : Step) → b ≡ c → cond b x y ≡ cond c x y
by_test b c x y e = ap (λ t. cond t x y) e

pub asked_turn : (w : World) (p ticket : ℕ) (q : Request) (word : ℕ) → word ≡ w.lines + 2 → ticket_fault p ticket (place_at w p) ≡ None → asked w p ticket q ≡ at_place w p (turned w w p (turn.Ask ticket q word))
asked_turn w p ticket q word e free =
    goes w p (tickets_used ticket) (fault.TicketUsed ticket) (asked_at w p ticket q) (turned w w p (turn.Ask ticket q (w.lines + 2))) (place_at w p)
    (λ x f. by_test (tickets_used ticket x) false _ _ f)
    free
    ∙ ap (λ n. at_place w p (turned w w p (turn.Ask ticket q n))) (sym e)

pub asked_refused : (w : World) (p ticket : ℕ) (q : Request) (why : WorldFault) → ticket_fault p ticket (place_at w p) ≡ Some why → asked w p ticket q ≡ refuses w why
asked_refused w p ticket q why used =
    stops w p (tickets_used ticket) (fault.TicketUsed ticket) why (asked_at w p ticket q) (place_at w p) (λ x f. by_test (tickets_used ticket x) true _ _ f) used

-- what was posted goes by what it is read as
posted_same : (w : World) (p ticket : ℕ) (items : List Item) (x : Place) (r : Result Request ApiFault) → posted_as w p ticket items x r ≡ posting w w p ticket (w.lines + 2) items x r
posted_same w p ticket items x (Ok q) = refl
posted_same w p ticket items x (Err why) = refl

pub posted_turn : (w : World) (p ticket : ℕ) (path body : List ℕ) (word : ℕ) → word ≡ w.lines + 2 → ticket_fault p ticket (place_at w p) ≡ None → posted w p ticket path body ≡ at_place w p (turned w w p (turn.Post ticket path body word))
posted_turn w p ticket path body word e free =
    goes w p (tickets_used ticket) (fault.TicketUsed ticket) (posted_at w p ticket path body) (turned w w p (turn.Post ticket path body (w.lines + 2))) (place_at w p)
    (λ x f. by_test (tickets_used ticket x) false _ _ f ∙ posted_same w p ticket (item.Posted p ticket path body ∷ []) x (request_of Client path body))
    free
    ∙ ap (λ n. at_place w p (turned w w p (turn.Post ticket path body n))) (sym e)

pub posted_refused : (w : World) (p ticket : ℕ) (path body : List ℕ) (why : WorldFault) → ticket_fault p ticket (place_at w p) ≡ Some why → posted w p ticket path body ≡ refuses w why
posted_refused w p ticket path body why used =
    stops w p (tickets_used ticket) (fault.TicketUsed ticket) why (posted_at w p ticket path body) (place_at w p) (λ x f. by_test (tickets_used ticket x) true _ _ f) used

-- Taking and leaving.

turned_true : (b : Bool) → not b ≡ false → b ≡ true
turned_true true e = refl
turned_true false e = cc

turned_false : (b : Bool) → not b ≡ true → b ≡ false
turned_false true e = cc
turned_false false e = refl

pub taken_turn : (w : World) (p ticket : ℕ) → watch_fault p ticket (place_at w p) ≡ None → message_taken w p ticket ≡ at_place w p (turned w w p (turn.Take ticket))
taken_turn w p ticket free =
    goes w p (λ x. not (is_watch ticket x)) (fault.NoSuchTicket ticket) (taken_at w p ticket) (turned w w p (turn.Take ticket)) (place_at w p)
    (λ x f. ap (taken_if w p ticket x) (turned_true (is_watch ticket x) f))
    free

pub taken_refused : (w : World) (p ticket : ℕ) (why : WorldFault) → watch_fault p ticket (place_at w p) ≡ Some why → message_taken w p ticket ≡ refuses w why
taken_refused w p ticket why e =
    stops w p (λ x. not (is_watch ticket x)) (fault.NoSuchTicket ticket) why (taken_at w p ticket) (place_at w p)
    (λ x f. ap (taken_if w p ticket x) (turned_false (is_watch ticket x) f))
    e

pub left_turn : (w : World) (p ticket : ℕ) → known_fault p ticket (place_at w p) ≡ None → left w p ticket ≡ at_place w p (turned w w p (turn.Step (event.Leave ticket) (fault.NoSuchTicket ticket) (item.Left p ticket)))
left_turn w p ticket free =
    goes w p (λ x. not (is_known ticket x.core)) (fault.NoSuchTicket ticket) (left_at w p ticket) (turned w w p (turn.Step (event.Leave ticket) (fault.NoSuchTicket ticket) (item.Left p ticket))) (place_at w p)
    (λ x f. ap (left_if w p ticket x) (turned_true (is_known ticket x.core) f))
    free

pub left_refused : (w : World) (p ticket : ℕ) (why : WorldFault) → known_fault p ticket (place_at w p) ≡ Some why → left w p ticket ≡ refuses w why
left_refused w p ticket why e =
    stops w p (λ x. not (is_known ticket x.core)) (fault.NoSuchTicket ticket) why (left_at w p ticket) (place_at w p)
    (λ x f. ap (left_if w p ticket x) (turned_false (is_known ticket x.core) f))
    e
