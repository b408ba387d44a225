-- Looking things up in the world, and putting them back.
use Rattle.std.specs.Prelude.{ℕ, ◌-◌, Bool, true, false, ◌==◌, if◌then◌else◌, List, [], set, slice_get, Option, None, Some}
use Rattle.std.specs.Ordering.{nat_cmp}
use Rattle.std.specs.BTreeSet.{BTreeSet, contains, insert_key}
use Rattle.std.specs.FinMap.{find, put}
use Rattle.core_model.specs.State.{Core}
use Rattle.world_model.specs.declared.sent_call.SentCall.{SentCall}
use Rattle.world_model.specs.State.{Numbered, Place, OpenedStream, World}

-- What is kept by number, and what is numbered from 1.

abbrev pub kept_at : {A : Type 0} → Numbered A → ℕ → Option A
kept_at kept number = find nat_cmp number kept

abbrev pub with_kept : {A : Type 0} → Numbered A → ℕ → A → Numbered A
with_kept kept number x = put nat_cmp number x kept

abbrev pub is_among : BTreeSet ℕ → ℕ → Bool
is_among numbers number = contains nat_cmp numbers number

abbrev pub with_number : BTreeSet ℕ → ℕ → BTreeSet ℕ
with_number numbers number = record { keys = insert_key nat_cmp numbers.keys number }

abbrev pub nth : {A : Type 0} → List A → ℕ → Option A
nth xs number = if number == 0 then None else slice_get xs (number - 1)

abbrev pub with_nth : {A : Type 0} → List A → ℕ → A → List A
with_nth xs number x = set xs (number - 1) x

-- Proxies.

abbrev pub place_at : World → ℕ → Option Place
place_at w p = kept_at w.places p

abbrev pub with_place : World → ℕ → Place → World
with_place w p x = record w { places = with_kept w.places p x }

abbrev pub with_core : Place → Core → Place
with_core x c = record x { core = c }

abbrev pub with_ticket : ℕ → Place → Place
with_ticket ticket x = record x { tickets = with_number x.tickets ticket }

-- its reply is told as JSON, too
abbrev pub with_posted : ℕ → Place → Place
with_posted ticket x = record x { tickets = with_number x.tickets ticket; posted = with_number x.posted ticket }

-- Calls and streams.

abbrev pub with_call : World → ℕ → SentCall → World
with_call w number call = record w { calls = with_nth w.calls number call }

abbrev pub with_stream : World → ℕ → OpenedStream → World
with_stream w number s = record w { streams = with_nth w.streams number s }

-- no message comes of it any more
abbrev pub ended : OpenedStream → OpenedStream
ended s = record s { waiting = []; ended = true }

-- of its proxy, where that wasn't started since
abbrev pub if_life : ℕ → Option Place → Option Place
if_life life None = None
if_life life (Some x) = if x.life == life then Some x else None

abbrev pub place_in : World → ℕ → ℕ → Option Place
place_in w p life = if_life life (place_at w p)

abbrev pub unless : {A : Type 0} → Bool → Option A → Option A
unless true x = None
unless false x = x

-- where a call is to end: at its proxy, where it wasn't answered or lost
abbrev pub call_place : World → SentCall → Option Place
call_place w call = unless call.settled (place_in w call.proxy call.life)

-- where a stream's messages are to come, as long as it is neither cut nor closed
abbrev pub stream_place : World → OpenedStream → Option Place
stream_place w s = unless s.ended (place_in w s.proxy s.life)
