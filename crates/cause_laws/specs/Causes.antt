-- Each refusal that a client is told has its cause in the items before it: the request's own fields, a body that is no request, the time that is
-- over, or a call of the request that ended just before, refused, lost, or answered from before what had been told.
use Rattle.std.specs.Prelude.{◌≡◌, ℕ, ◌+◌, ◌≤◌, nat_lt, Bool, true, false, not, ◌==◌, ◌&&◌, if◌then◌else◌, List, [], ◌∷◌, ◌++◌, Option, None, Some, Err, is_some}
use Rattle.std.specs.List.{list_any, list_all}
use Rattle.etcd_types.specs.declared.answer.Answer.{Answer}
use Rattle.etcd_types.specs.declared.answer.Answer.TheVariants.{Done, Refused}
use Rattle.etcd_types.specs.declared.answer.Refusal.{Refusal}
use Rattle.etcd_types.specs.declared.answer.Reply.{Reply}
use Rattle.etcd_types.specs.declared.request.Request.{Request}
use Rattle.etcd_types.specs.declared.request.Request.TheVariants as request
use Rattle.json_model.specs.declared.extra.Reading.TheVariants.{Client}
use Rattle.json_model.specs.declared.fault.ApiFault.{ApiFault}
use Rattle.json_model.specs.Mapping.{request_of}
use Rattle.proxy_model.specs.Acquire.{claimed}
use Rattle.proxy_model.specs.PassingOn.{call_lost}
use Rattle.read_model.specs.PlainRead.{key_of}
use Rattle.core_model.specs.Ends.{stales_limit}
use Rattle.core_model.specs.Groups.{keeps}
use Rattle.core_model.specs.Heard.{is_known, heard}
use Rattle.core_model.specs.Kinds.{kind_of, is_read, is_ordered, is_body_of}
use Rattle.core_model.specs.Refusals.{refusal_of}
use Rattle.core_model.specs.Verdicts.{timed_out, no_greater_revision}
use Rattle.script_text.specs.declared.item.Item.{Item}
use Rattle.script_text.specs.declared.item.Item.TheVariants as item
use Rattle.world_model.specs.Lives.{begins, world_of, life, asked_as, is_call_of, executed_to}
use Rattle.world_model.specs.PostRefusals.{post_refusal}
use Rattle.world_model.specs.Reads.{given}
use Rattle.cause_laws.specs.Timeouts.{is_told, TimesOut}

-- the proxy sent this call for the ticket
abbrev pub is_call_for : ℕ → ℕ → ℕ → Item → Bool
is_call_for p ticket number (item.Sent n call member t sent) = n == p && (call == number && t == ticket)
is_call_for p ticket number _ = false

-- how many of these items are so, each read behind those before it
abbrev pub count : (List Item → Item → Bool) → List Item → List Item → ℕ
count f before [] = 0
count f before (i ∷ items) = (if f before i then 1 else 0) + count f (before ++ i ∷ []) items

-- a refusal that says that nothing was done is an answer
abbrev pub is_answer : Answer → Bool
is_answer (Refused r) = is_known r.code
is_answer (Done reply) = false

-- of what is heard of an answer: nothing, or a reply that doesn't pass
abbrev pub is_no_reply : (Reply → Bool) → Option Answer → Bool
is_no_reply passes None = true
is_no_reply passes (Some (Done reply)) = not (passes reply)
is_no_reply passes (Some (Refused r)) = false

-- a range that a transaction asks for: the acquire of its key
abbrev pub is_acquire_of : Request → Request → Bool
is_acquire_of (request.Range ask) (request.Txn t) = true
is_acquire_of q sent = false

-- of what was sent for a read: it has the read's body, or, to the acquire of its key, it tells the record
abbrev pub fits_read : List ℕ → Request → Request → Reply → Bool
fits_read prefix q sent reply = if is_acquire_of q sent then is_some (claimed prefix (key_of q) reply) else is_body_of (kind_of q) reply.body

-- an answer that counts as a loss: it is a refusal that doesn't say that nothing was done, or isn't heard under the namespace, or is no reply to
-- what was sent
abbrev pub is_lost_answer : List ℕ × List ℕ → Option Request → Request → Option Answer → Bool
is_lost_answer names (Some q) sent (Some a) = is_no_reply (fits_read names.1 q sent) (heard names.0 a)
is_lost_answer names q sent a = false

-- the proxy sent this call for the ticket, and what was sent passes
abbrev pub is_call_with : ℕ → ℕ → ℕ → (Request → Bool) → Item → Bool
is_call_with p ticket number passes (item.Sent n call member t sent) = n == p && (call == number && (t == ticket && passes sent))
is_call_with p ticket number passes _ = false

-- up to the sending of this call
abbrev pub before_sent : ℕ → ℕ → List Item → List Item
before_sent p call [] = []
before_sent p call (i ∷ items) = if is_call_of p call i then [] else i ∷ before_sent p call items

-- a reply that is older than one of these revisions
abbrev pub is_older : List ℕ → Option Answer → Bool
is_older revisions (Some (Done reply)) = list_any (λ r. nat_lt reply.header.revision r) revisions
is_older revisions _ = false

-- a call that names the ticket of a read is lost, or has an answer that counts as a loss
abbrev pub is_loss : ℕ → ℕ → List Item → Item → Bool
is_loss p ticket before (item.Lost call) = list_any (is_call_for p ticket call) before
is_loss p ticket before (item.Answered call) = list_any (is_call_with p ticket call (λ sent. is_lost_answer (world_of before) (asked_as p ticket (life p before)) sent (executed_to call before))) before
is_loss p ticket before _ = false

-- it is answered with a reply that is older than a header that the proxy was given in this life before it sent the call
abbrev pub is_stale_for : ℕ → ℕ → List Item → Item → Bool
is_stale_for p ticket before (item.Answered call) = list_any (is_call_for p ticket call) before && is_older (given p (before_sent p call before)) (executed_to call before)
is_stale_for p ticket before _ = false

-- Since this request of the ticket was asked, which is in this life of the proxy, so many items were so; behind them there are replies alone.
pub record Often (f : ℕ → ℕ → List Item → Item → Bool) (items : List Item) (p ticket : ℕ) (asked : Request) (limit : ℕ) : Type 0 where
  pub before : List Item
  pub since : List Item
  pub told : List Item
  pub story : items ≡ (before ++ item.Asked p ticket asked ∷ since) ++ told
  pub stays : list_any (begins p) since ≡ false
  pub often : limit ≤ count (f p ticket) (before ++ item.Asked p ticket asked ∷ []) since
  pub replies : list_all is_told told ≡ true

-- how many members the store has
abbrev pub members_of : List Item → ℕ
members_of [] = 0
members_of (item.World members namespace leasing ∷ items) = members
members_of (i ∷ items) = members_of items

-- it is a keepalive of this lease
abbrev pub is_keepalive_call : ℕ → ℕ → ℕ → Item → Bool
is_keepalive_call p lease number (item.Sent n call member t sent) = n == p && (call == number && keeps lease sent)
is_keepalive_call p lease number _ = false

-- A call of the request, as these items tell it: it names the request's ticket; or it is the keepalive that clients of one lease share.
pub data IsCallOf (items : List Item) (p ticket number : ℕ) (q : Request) : Type 0 where
  names : list_any (is_call_for p ticket number) items ≡ true → IsCallOf items p ticket number q
  shares : (lease : ℕ) → q ≡ request.KeepAlive lease → list_any (is_keepalive_call p lease number) items ≡ true → IsCallOf items p ticket number q

-- A call of the request of this ticket, which was asked in this life of the proxy, ended with this item; behind it there are replies alone.
pub record Ended (items : List Item) (p ticket : ℕ) (ends : ℕ → Item) : Type 0 where
  pub asked : Request
  pub was_asked : asked_as p ticket (life p items) ≡ Some asked
  pub call : ℕ
  pub before : List Item
  pub told : List Item
  pub story : items ≡ before ++ ends call ∷ told
  pub of : IsCallOf before p ticket call asked
  pub replies : list_all is_told told ≡ true

-- it was answered so
pub record AnsweredSo (items : List Item) (p ticket : ℕ) (a : Answer) : Type 0 where
  pub ended : Ended items p ticket (λ call. item.Answered call)
  pub answer : executed_to ended.call ended.before ≡ Some a

pub data Cause (members : ℕ) (namespace prefix : List ℕ) (items : List Item) (p ticket : ℕ) (r : Refusal) : Type 0 where
  -- by its fields, in the line that asks it
  by_fields : (q : Request) (before told : List Item) → items ≡ before ++ item.Asked p ticket q ∷ told → list_all is_told told ≡ true → refusal_of prefix q ≡ Some r → Cause members namespace prefix items p ticket r
  no_request : (before told : List Item) (path body : List ℕ) (why : ApiFault) → items ≡ before ++ item.Posted p ticket path body ∷ told → list_all is_told told ≡ true → request_of Client path body ≡ Err why → r ≡ post_refusal why → Cause members namespace prefix items p ticket r
  too_late : r ≡ timed_out → TimesOut items p ticket → Cause members namespace prefix items p ticket r
  -- the store's refusal of a call
  passed_on : (a : Answer) → AnsweredSo items p ticket a → heard namespace a ≡ Some (Refused r) → Cause members namespace prefix items p ticket r
  -- a call was lost, or answered with what is no answer to it; the request is no read
  lost : r ≡ call_lost → (e : Ended items p ticket (λ call. item.Lost call)) → is_read (kind_of e.asked) ≡ false → Cause members namespace prefix items p ticket r
  unheard : r ≡ call_lost → (a : Answer) → (s : AnsweredSo items p ticket a) → is_answer a ≡ false → is_read (kind_of s.ended.asked) ≡ false → Cause members namespace prefix items p ticket r
  -- a read's calls, one for each member
  lost_often : r ≡ call_lost → (q : Request) → is_read (kind_of q) ≡ true → Often is_loss items p ticket q members → Cause members namespace prefix items p ticket r
  -- a read's calls were answered with older replies than what was given before, five for each member
  stale : r ≡ no_greater_revision → (a : Answer) (reply : Reply) → (s : AnsweredSo items p ticket a) → heard namespace a ≡ Some (Done reply) → is_ordered (kind_of s.ended.asked) ≡ true → Often is_stale_for items p ticket s.ended.asked (stales_limit members)
      → Cause members namespace prefix items p ticket r

-- of each refusal
abbrev pub EachReplyHasACause : List Item → Type 0
EachReplyHasACause items =
    (earlier later : List Item) (p ticket : ℕ) (r : Refusal)
    → items ≡ earlier ++ item.Reply p ticket (Refused r) ∷ later → Cause (members_of earlier) (world_of earlier).0 (world_of earlier).1 earlier p ticket r
