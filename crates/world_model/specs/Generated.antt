-- The generated script of a number: three proxies before a store of two members, and for each number up to that one a read, a put or
-- a deletion of one of eight keys at one of the proxies, each followed by all that it makes due. Which one it is comes from a
-- linear congruential generator: its multiplier and increment are those of Knuth's MMIX.
use Rattle.std.specs.Prelude.{ℕ, zero, suc, ◌+◌, ◌*◌, ◌/◌, ◌%◌, ◌^◌, ◌==◌, Bool, true, false, ◌&&◌, not, if◌then◌else◌, List, [], ◌∷◌, ◌++◌, length, filter, codes, Option, None, Some, Ok, Err}
use Rattle.std.specs.Fmt.{decimal}
use Rattle.etcd_types.specs.declared.request.Request.{Request}
use Rattle.etcd_types.specs.declared.request.Request.TheVariants as request
use Rattle.proxy_model.specs.Asks.{range_ask}
use Rattle.proxy_model.specs.Prefixes.{only}
use Rattle.proxy_model.specs.Snapshot.{is_plain}
use Rattle.script_text.specs.declared.item.Item.{Item}
use Rattle.script_text.specs.declared.item.Item.TheVariants as item
use Rattle.script_text.specs.declared.line.Line.{Line}
use Rattle.script_text.specs.declared.line.Line.TheVariants as line
use Rattle.store_model.specs.History.{newest}
use Rattle.world_model.specs.Answers.{seen}
use Rattle.world_model.specs.Lives.{asked_as, is_named}
use Rattle.world_model.specs.Questions.{has_due, streams, can_push}
use Rattle.world_model.specs.State.{World}
use Rattle.world_model.specs.Transcript.{Taken, next}

-- The lines so far with what they gained, the world that they left, and the state of the generator.
pub record Making : Type 0 where
  pub lines : List Line
  pub items : List Item
  pub world : Option World
  pub state : ℕ

-- a line that isn't taken isn't added
abbrev pub added_as : Making → Line → Taken → Making
added_as m l (Ok gained) =
    record m { lines = m.lines ++ l ∷ []; items = m.items ++ gained.1; world = Some gained.0 }
added_as m l (Err why) = m

abbrev pub add : Line → Making → Making
add l m = added_as m l (next m.world l)

-- the number of the call that was sent last, where the last line sent one
abbrev pub call_in : List Item → Option ℕ
call_in [] = None
call_in (item.Sent p call member ticket q ∷ items) = Some call
call_in (i ∷ items) = call_in items

-- Settling: what is due is sent, executed and answered, and what streams have is delivered, until nothing more comes of it.

abbrev pub of_world : {A : Type 0} → A → (World → A) → Option World → A
of_world otherwise ask None = otherwise
of_world otherwise ask (Some w) = ask w

abbrev pub ended : Option ℕ → Making → Making
ended None m = m
ended (Some call) m = add (line.Answer call) (add (line.Exec call) m)

abbrev pub gained_by : Taken → List Item
gained_by (Ok gained) = gained.1
gained_by (Err why) = []

abbrev pub send_one : ℕ → Making → Making
send_one p m = ended (call_in (gained_by (next m.world (line.Send p)))) (add (line.Send p) m)

abbrev pub sends_if : Bool → (Making → Making) → ℕ → Making → Making
sends_if false more p m = m
sends_if true more p m = more (send_one p m)

-- at most so many
abbrev pub sends : ℕ → ℕ → Making → Making
sends zero p m = m
sends (suc n) p m = sends_if (of_world false (λ w. has_due w p) m.world) (sends n p) p m

abbrev pub pushes_if : Bool → ℕ → Making → Making
pushes_if false number m = m
pushes_if true number m = add (line.Deliver number) (add (line.Push number) m)

abbrev pub push_one : ℕ → Making → Making
push_one number m = pushes_if (of_world false (λ w. can_push w number) m.world) number m

-- the streams from this number on, so many of them
abbrev pub pushes : ℕ → ℕ → Making → Making
pushes zero number m = m
pushes (suc n) number m = pushes n (number + 1) (push_one number m)

abbrev pub all_pushes : Making → Making
all_pushes m = pushes (of_world 0 streams m.world) 1 m

abbrev pub turn : Making → Making
turn m = all_pushes (sends 64 3 (sends 64 2 (sends 64 1 m)))

-- a turn that adds no line is the last one
abbrev pub settles_if : Bool → (Making → Making) → Making → Making
settles_if true more m = m
settles_if false more m = more m

abbrev pub settles : ℕ → Making → Making
settles zero m = m
settles (suc n) m =
    let after = turn m in settles_if (length after.lines == length m.lines) (settles n) after

abbrev pub settle : Making → Making
settle m = settles 64 m

-- Draws.

abbrev pub drawn : ℕ → ℕ
drawn state = (state * 6364136223846793005 + 1442695040888963407) % 2 ^ 64

abbrev pub key : ℕ → List ℕ
key x = codes "k" ++ decimal ((x / 3) % 8)

abbrev pub value : ℕ → List ℕ
value number = codes "v" ++ decimal number

abbrev pub a_read : List ℕ → Request
a_read k = request.Range (range_ask (only k))

abbrev pub a_put : List ℕ → ℕ → Request
a_put k number =
    request.Put (record { key = k; value = value number; lease = 0; prev_kv = false; ignore_lease = false })

abbrev pub a_deletion : List ℕ → Request
a_deletion k = request.Delete (record { range = only k; prev_kv = false })

-- of four choices two are reads
abbrev pub chosen : ℕ → List ℕ → ℕ → Request
chosen choice k number =
    if choice == 2 then a_put k number
    else if choice == 3 then a_deletion k
    else a_read k

abbrev pub asking : ℕ → ℕ → Line
asking x number = line.Ask (1 + x % 3) number (chosen ((x / 24) % 4) (key x) number)

abbrev pub on_time : ℕ → ℕ → Making → Making
on_time number p m = add (line.Tick p) (add (line.Clock p (200 * number)) m)

-- every tenth time the clocks go on by two seconds
abbrev pub on_times : Bool → ℕ → Making → Making
on_times false number m = m
on_times true number m = on_time number 3 (on_time number 2 (on_time number 1 m))

abbrev pub asks_once : ℕ → ℕ → Making → Making
asks_once state number m = settle (add (asking (state / 2 ^ 33) number) (record m { state = state }))

abbrev pub round : ℕ → Making → Making
round number m = asks_once (drawn m.state) number (on_times (number % 10 == 0) number m)

abbrev pub rounds : ℕ → ℕ → Making → Making
rounds zero number m = m
rounds (suc n) number m = rounds n (number + 1) (round number m)

abbrev pub opening : List Line
opening =
    line.World 2 [] (codes "L/")
    ∷ line.Start 1
    ∷ line.Start 2
    ∷ line.Start 3
    ∷ line.Tick 1
    ∷ line.Tick 2
    ∷ line.Tick 3
    ∷ []

abbrev pub add_all : List Line → Making → Making
add_all [] m = m
add_all (l ∷ lines) m = add_all lines (add l m)

abbrev pub made : ℕ → Making
made n =
    rounds n 1 (settle (add_all opening (record { lines = []; items = []; world = None; state = n })))

-- the script, for numbers from 1 to 20,000
abbrev pub generated : ℕ → List Line
generated n = (made n).lines

-- What is told of a generated script: how much was asked and replied, how many plain reads were replied with no call that names
-- them, and the newest revision.

pub record Summary : Type 0 where
  pub asked : ℕ
  pub replied : ℕ
  pub unsent : ℕ
  pub revision : ℕ

abbrev pub is_asked : Item → Bool
is_asked (item.Asked p ticket q) = true
is_asked _ = false

abbrev pub is_reply : Item → Bool
is_reply (item.Reply p ticket a) = true
is_reply _ = false

abbrev pub is_plain_read : Option Request → Bool
is_plain_read (Some (request.Range ask)) = is_plain ask
is_plain_read _ = false

abbrev pub is_unsent : List Item → Item → Bool
is_unsent items (item.Reply p ticket a) = is_plain_read (asked_as p ticket items) && not (is_named p ticket items)
is_unsent items _ = false

abbrev pub summary : List Item → Summary
summary items =
    record {
      asked = length (filter is_asked items);
      replied = length (filter is_reply items);
      unsent = length (filter (is_unsent items) items);
      revision = newest (seen items).store.history;
    }
