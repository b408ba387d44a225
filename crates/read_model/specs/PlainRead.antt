-- Plain read: a range of one key as it is now. A held key is answered at once; one that is being written, or acquired, is waited
-- for; one that may be acquired is acquired; any other is asked of the cluster (the leasing cache of etcd's clientv3).
use Rattle.std.specs.Prelude.{ℕ, Bool, not, ◌&&◌, nat_le, unwrap_or, is_some, if◌then◌else◌, List, [], Option, None, Some}
use Rattle.std.specs.List.{list_any}
use Rattle.std.specs.Option.{option_to_list}
use Rattle.etcd_types.specs.declared.record.Header.{Header}
use Rattle.etcd_types.specs.declared.record.Kv.{Kv}
use Rattle.etcd_types.specs.declared.answer.Answer.TheVariants as answer
use Rattle.etcd_types.specs.declared.request.Request.{Request}
use Rattle.etcd_types.specs.declared.request.Request.TheVariants as request
use Rattle.etcd_types.specs.Keys.{is_empty}
use Rattle.etcd_types.specs.Ranges.{contains}
use Rattle.proxy_model.specs.declared.lease.Entry.{Entry}
use Rattle.proxy_model.specs.declared.lease.Phase.{Phase}
use Rattle.proxy_model.specs.declared.lease.Phase.TheVariants.{Held, Writing, Leaving}
use Rattle.proxy_model.specs.Keyed.{at, with_at}
use Rattle.proxy_model.specs.Prefixes.{leasing_range}
use Rattle.proxy_model.specs.Snapshot.{plain_body}
use Rattle.wait_model.specs.declared.sending.Sending.TheVariants as sending
use Rattle.wait_model.specs.State.{Ownership}
use Rattle.wait_model.specs.Covers.{covers}
use Rattle.wait_model.specs.Asked.{acquire_begun}
use Rattle.read_model.specs.declared.asked.Asked.{Asked}
use Rattle.read_model.specs.declared.asked.Stage.{Stage}
use Rattle.read_model.specs.declared.asked.Stage.TheVariants as stage
use Rattle.read_model.specs.declared.asked.Verdict.TheVariants as verdict
use Rattle.read_model.specs.State.{Moment, Ground}

abbrev pub key_of : Request → List ℕ
key_of (request.Range ask) = ask.range.key
key_of _ = []

abbrev pub ask_key : Asked → List ℕ
ask_key a = key_of a.request

-- the record of one key, as a plain read is answered
abbrev pub shown : Header → Option Kv → Stage
shown h kv = stage.Replied (verdict.Said (answer.Done (record { header = h; body = plain_body (option_to_list kv) })))

abbrev pub called : ℕ → Stage
called step = stage.Calling (sending.Due step)

-- Acquirable: the session under which the key may be acquired.

abbrev pub is_ownable : List ℕ → List ℕ → Bool
is_ownable prefix k = not (is_empty prefix) && not (is_empty k) && not (contains (leasing_range prefix) k)

abbrev pub is_restful : Ownership → ℕ → List ℕ → Bool
is_restful own now k = nat_le (unwrap_or (at own.waits.quiet k) 0) now

abbrev pub is_written : Ownership → List ℕ → Bool
is_written own k = list_any (λ w. covers w k) own.waits.writes

abbrev pub is_free : Moment → Ownership → List ℕ → Bool
is_free m own k = not (is_written own k) && (is_ownable own.waits.prefix k && m.created && is_restful own m.now k)

-- for a key without entry and acquire
abbrev pub acquirable : Moment → Ownership → List ℕ → Option ℕ
acquirable m own k = if is_free m own k then m.session else None

-- What a read comes to: its stage, and the session of the acquire that it makes due.
pub record Decision : Type 0 where
  pub stage : Stage
  pub under : Option ℕ

abbrev pub stay : Stage → Decision
stay s = record { stage = s; under = None }

abbrev pub held_turn : Header → ℕ → Option Kv → Phase → Stage
held_turn h step kv Held = shown h kv
held_turn h step kv (Writing revoked) = stage.Behind
held_turn h step kv (Leaving sent) = called step

abbrev pub free_turn : ℕ → Option ℕ → Decision
free_turn step None = stay (called step)
free_turn step (Some n) = record { stage = stage.Acquiring; under = Some n }

abbrev pub read_turn : Header → ℕ → Option Entry → Bool → Option ℕ → Decision
read_turn h step (Some e) claimed under = stay (held_turn h step e.kv e.phase)
read_turn h step None claimed under = if claimed then stay stage.Joined else free_turn step under

abbrev pub decision : Moment → Ground → List ℕ → Decision
decision m g k = read_turn m.header g.own.waits.step (at g.own.entries k) (is_some (at g.acquires k)) (acquirable m g.own k)

abbrev pub begun_under : ℕ → List ℕ → Option ℕ → Ground → Ground
begun_under ticket k None g = g
begun_under ticket k (Some n) g = record {
  own = acquire_begun k g.own;
  acquires = with_at g.acquires k (Some (record { ticket = ticket; session = n; sending = sending.Due g.own.waits.step }));
}

abbrev pub in_stage : Stage → Asked → Asked
in_stage s a = record a { stage = s }

-- a read is decided: what it waits on then, and it
abbrev pub decided_ground : Moment → Ground → Asked → Ground
decided_ground m g a = begun_under a.ticket (ask_key a) (decision m g (ask_key a)).under g

abbrev pub decided_ask : Moment → Ground → Asked → Asked
decided_ask m g a = in_stage (decision m g (ask_key a)).stage a
