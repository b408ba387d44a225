-- What holds of the names in calls of a proxy's own: no entry is of the empty key, and each owner that a write found has a key and
-- a create revision above 0. It holds where answers and events name owners so, as a store does.
use Rattle.std.specs.Prelude.{◌≡◌, ℕ, Bool, true, false, not, ◌&&◌, ◌||◌, nat_lt, List, Ok, Option, None, Some, is_some}
use Rattle.std.specs.List.{list_all}
use Rattle.etcd_types.specs.declared.answer.Answer.{Answer}
use Rattle.etcd_types.specs.declared.answer.Answer.TheVariants as answer
use Rattle.etcd_types.specs.declared.record.Header.{Header}
use Rattle.etcd_types.specs.declared.watch.Change.{Change}
use Rattle.etcd_types.specs.declared.watch.Change.TheVariants as change
use Rattle.etcd_types.specs.declared.watch.Event.{Event}
use Rattle.etcd_types.specs.declared.watch.WatchItem.{WatchItem}
use Rattle.etcd_types.specs.declared.watch.WatchItem.TheVariants as item
use Rattle.etcd_types.specs.Keys.{is_empty, same}
use Rattle.proxy_model.specs.declared.lease.Entry.{Entry}
use Rattle.proxy_model.specs.declared.ownership.Owner.{Owner}
use Rattle.proxy_model.specs.declared.ownership.Written.{Written}
use Rattle.proxy_model.specs.declared.ownership.Written.TheVariants.{Wrote, Blocked}
use Rattle.proxy_model.specs.Foreign.{revoke_word}
use Rattle.proxy_model.specs.Guarded.{written}
use Rattle.proxy_model.specs.Keyed.{Keyed, at}
use Rattle.proxy_model.specs.Unwrapped.{item_without}
use Rattle.wait_model.specs.declared.found.Found.{Found}
use Rattle.wait_model.specs.declared.write.Write.{Write}
use Rattle.wait_model.specs.declared.write.WriteStage.{WriteStage}
use Rattle.wait_model.specs.declared.write.WriteStage.TheVariants.{Waiting, Sends, Finds}
use Rattle.wait_model.specs.Notices.{owned_key}
use Rattle.wait_model.specs.State.{Ownership}
use Rattle.wait_model.specs.Writes.{first_by, sends}
use Rattle.core_model.specs.declared.event.CoreEvent.{CoreEvent}
use Rattle.core_model.specs.declared.event.CoreEvent.TheVariants as event
use Rattle.core_model.specs.Heard.{heard}
use Rattle.core_model.specs.State.{Opening, Core}
use Rattle.core_model.specs.Step.{opening_at}

-- a key, and the create revision of its ownership key
abbrev pub is_named : List ℕ → ℕ → Bool
is_named k create = nat_lt 0 create && not (is_empty k)

abbrev pub found_named : Found → Bool
found_named f = is_named f.key f.create

abbrev pub stage_named : WriteStage → Bool
stage_named Waiting = true
stage_named (Sends owner s) = true
stage_named (Finds found) = list_all found_named found

pub record NamesFit (entries : Keyed Entry) (writes : List Write) : Type 0 where
  -- each entry's key isn't empty
  pub keys : (k : List ℕ) → is_some (at entries k) ≡ true → is_empty k ≡ false
  -- each owner that a write found has a key and a create revision
  pub found : list_all (λ w. stage_named w.stage) writes ≡ true

-- What answers and events are to name.

abbrev pub owner_named : Owner → Bool
owner_named o = is_named o.key o.create

-- an answer to a write's own call
abbrev pub written_named : Option Written → Bool
written_named None = true
written_named (Some (Wrote reply)) = true
written_named (Some (Blocked owners)) = list_all owner_named owners

abbrev pub answer_named : List ℕ → Answer → Write → Bool
answer_named prefix (answer.Done reply) w = written_named (written prefix w.request reply)
answer_named prefix (answer.Refused r) w = true

abbrev pub AnswerNames : Ownership → ℕ → Option Answer → Type 0
AnswerNames own call None = Unit {0}
AnswerNames own call (Some a) = (w : Write) → first_by (sends call) own.waits.writes ≡ Some w → answer_named own.waits.prefix a w ≡ true

-- a put of the revoking word on the leasing stream
abbrev pub change_named : List ℕ → Change → Bool
change_named prefix (change.Put kv) = not (same kv.value revoke_word) || not (is_empty (owned_key prefix kv.key))
change_named prefix (change.Delete k revision) = true

abbrev pub events_named : List ℕ → List Event → Bool
events_named prefix events = list_all (λ e. change_named prefix e.change) events

abbrev pub ItemNames : Core → ℕ → WatchItem → Type 0
ItemNames c number x =
    (o : Opening) (h : Header) (events : List Event) → opening_at number c.leasing ≡ Some o → o.due ≡ None → item_without c.settings.namespace x ≡ Ok (item.Events h events)
    → events_named c.own.waits.prefix events ≡ true

-- what comes to a proxy names owners by their keys, as far as it is about them
abbrev pub NamesOwners : Core → CoreEvent → Type 0
NamesOwners c (event.Answer call a) = AnswerNames c.own call (heard c.settings.namespace a)
NamesOwners c (event.Item number x) = ItemNames c number x
NamesOwners c _ = Unit {0}
