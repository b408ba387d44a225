-- What one item tells of what is looked for.
use Rattle.std.specs.Prelude.{ℕ, Bool, false, ◌==◌, ◌&&◌, if◌then◌else◌, List, slice_get, Option, None, Some, is_some}
use Rattle.etcd_types.specs.declared.request.Request.{Request}
use Rattle.script_text.specs.declared.item.Item.{Item}
use Rattle.script_text.specs.declared.item.Item.TheVariants as item
use Rattle.audit_model.specs.Calls.{sender_of}
use Rattle.audit_model.specs.Streams.{opener_of}

abbrev pub members_in : Item → Option ℕ
members_in (item.World members namespace leasing) = Some members
members_in _ = None

abbrev pub asked_in : ℕ → ℕ → Item → Option Request
asked_in p ticket (item.Asked q t r) = if q == p && t == ticket then Some r else None
asked_in p ticket _ = None

abbrev pub sender_in : ℕ → Item → Option ℕ
sender_in call (item.Sent p number member ticket q) = if number == call then Some p else None
sender_in call _ = None

abbrev pub opener_in : ℕ → Item → Option ℕ
opener_in stream (item.Opened p number member q) = if number == stream then Some p else None
opener_in stream _ = None

abbrev pub executes : ℕ → Item → Bool
executes call (item.Executed number answer) = number == call
executes call _ = false

abbrev pub pushes_into : ℕ → Item → Bool
pushes_into stream (item.Pushed number message) = number == stream
pushes_into stream _ = false

-- the first of what is found
abbrev pub found_or : {A : Type 0} → Option A → Option A → Option A
found_or None later = later
found_or (Some x) later = Some x

-- what the item at a place tells
abbrev pub told_of : {A : Type 0} → (Item → Option A) → Option Item → Option A
told_of f None = None
told_of f (Some i) = f i

abbrev pub told_by : {A : Type 0} → (Item → Option A) → List Item → Option ℕ → Option A
told_by f items None = None
told_by f items (Some place) = told_of f (slice_get items place)

-- a stream that was opened before is opened again
abbrev pub opened_again : List Item → Item → Bool
opened_again items (item.Opened p stream member q) = is_some (opener_of stream items)
opened_again items _ = false

-- a call that was sent before is sent again
abbrev pub sent_again : List Item → Item → Bool
sent_again items (item.Sent p call member ticket q) = is_some (sender_of call items)
sent_again items _ = false

-- a call that is sent, with its member
abbrev pub call_in : Item → Option (ℕ × Request)
call_in (item.Sent p call member ticket q) = Some (member, q)
call_in _ = None
