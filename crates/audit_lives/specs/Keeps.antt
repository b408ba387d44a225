-- What is kept of the items, each in its place: what is looked up of them later, and no more.
use Rattle.std.specs.Prelude.{ℕ, ◌==◌, ◌&&◌, if◌then◌else◌, List, [], ◌∷◌, map, slice_get, Option, None, Some}
use Rattle.etcd_types.specs.declared.request.Request.{Request}
use Rattle.script_text.specs.declared.item.Item.{Item}
use Rattle.script_text.specs.declared.item.Item.TheVariants as item
use Rattle.audit_lives.specs.Finds.{found_or}
use Rattle.audit_lives.specs.Given.{message_revision, reply_revision}
use Rattle.audit_lives.specs.declared.kept.Kept.{Kept}
use Rattle.audit_lives.specs.declared.kept.Kept.TheVariants as kept

abbrev pub keep_of : Item → Kept
keep_of (item.World members namespace leasing) = kept.World members namespace
keep_of (item.Asked p ticket q) = kept.Asked p ticket (q ∷ [])
keep_of (item.Sent p call member ticket q) = kept.Sent p call ((member, q) ∷ [])
keep_of (item.Opened p stream member q) = kept.Opened p stream
keep_of (item.Executed call answer) = kept.Executed call (reply_revision answer)
keep_of (item.Pushed stream message) = kept.Pushed stream (message_revision message)
keep_of _ = kept.Other

abbrev pub keeps : List Item → List Kept
keeps items = map keep_of items

-- what is kept at the place
abbrev pub kept_of : List Kept → Option ℕ → Option Kept
kept_of ks None = None
kept_of ks (Some place) = slice_get ks place

abbrev pub kept_in : {A : Type 0} → (Kept → Option A) → Option Kept → Option A
kept_in f None = None
kept_in f (Some k) = f k

abbrev pub kept_by : {A : Type 0} → (Kept → Option A) → List Kept → Option ℕ → Option A
kept_by f ks place = kept_in f (kept_of ks place)

-- ---- what one of them tells

abbrev pub request_in : ℕ → ℕ → Kept → Option Request
request_in p ticket (kept.Asked q t rs) = if q == p && t == ticket then slice_get rs 0 else None
request_in p ticket _ = None

abbrev pub sender_in : ℕ → Kept → Option ℕ
sender_in call (kept.Sent p number sent) = if number == call then Some p else None
sender_in call _ = None

abbrev pub call_in : Kept → Option (ℕ × Request)
call_in (kept.Sent p number sent) = slice_get sent 0
call_in _ = None

abbrev pub opener_in : ℕ → Kept → Option ℕ
opener_in stream (kept.Opened p number) = if number == stream then Some p else None
opener_in stream _ = None

abbrev pub answer_in : ℕ → Kept → Option ℕ
answer_in call (kept.Executed number revision) = if number == call then Some revision else None
answer_in call _ = None

abbrev pub message_in : ℕ → Kept → Option ℕ
message_in stream (kept.Pushed number revision) = if number == stream then Some revision else None
message_in stream _ = None

abbrev pub members_in : Kept → Option ℕ
members_in (kept.World members namespace) = Some members
members_in _ = None

abbrev pub namespace_in : Kept → Option (List ℕ)
namespace_in (kept.World members namespace) = Some namespace
namespace_in _ = None

-- the first of what is kept that tells it
abbrev pub first_kept : {A : Type 0} → (Kept → Option A) → List Kept → Option A
first_kept f [] = None
first_kept f (k ∷ ks) = found_or (f k) (first_kept f ks)
