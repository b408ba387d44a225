-- What a message of the leasing stream shows is what the view was told, and names owners by their keys.
use Rattle.std.proofs.Common.{◌≡◌, ℕ, ◌+◌, ◌-◌, Bool, true, false, not, ◌||◌, List, [], ◌∷◌, ◌++◌, take, drop, length, Option, None, Some, refl, sym, ◌∙◌, ap}
use Rattle.std.proofs.lemmas.List.{take-append-drop}
use Rattle.std.proofs.lemmas.List.Folds.{list_all-append}
use Rattle.std.specs.List.{list_all, Contains}
use Rattle.etcd_types.proofs.Bools.{and_first, and_second, not_true}
use Rattle.etcd_types.specs.declared.record.Kv.{Kv}
use Rattle.etcd_types.specs.declared.watch.Change.{Change}
use Rattle.etcd_types.specs.declared.watch.Change.TheVariants as event
use Rattle.etcd_types.specs.declared.watch.Event.{Event}
use Rattle.etcd_types.specs.Keys.{is_empty, same}
use Rattle.etcd_types.specs.Ranges.{contains}
use Rattle.etcd_types.specs.Records.{after_put}
use Rattle.namespace_keys.proofs.Keys.{unwrapped_keys_were_wrapped}
use Rattle.proxy_model.specs.Foreign.{revoke_word}
use Rattle.proxy_model.specs.Prefixes.{leasing_range, without}
use Rattle.store_model.specs.declared.history.KeyChange.{KeyChange}
use Rattle.store_model.specs.declared.history.KeyChange.TheVariants as change
use Rattle.store_model.specs.Events.{event_of, events_of_changes, events_after, events}
use Rattle.store_model.specs.History.{History, newest, with_revision, changed_key}
use Rattle.store_model.specs.Records.{record_now}
use Rattle.store_model.specs.State.{State}
use Rattle.store_laws.specs.Lives.TestedKeys.{keys_pass}
use Rattle.cache_laws.proofs.Guards.Elements.{Each, each_append, of_each}
use Rattle.cache_laws.specs.Guards.OwnershipKeys.{is_key, has_owner}
use Rattle.cache_laws.specs.Moves.View.{View}
use Rattle.cache_laws.specs.Moves.Answers.{in_event}
use Rattle.cache_laws.specs.Store.StoreView.{Stands}
use Rattle.cache_laws.specs.Store.ToldAnswers.{TellsEvent}
use Rattle.cache_laws.proofs.Store.ToldProofs.{events_tell}
use Rattle.wait_model.specs.Notices.{owned_key}
use Rattle.core_laws.proofs.Steps.Comes.{by_test}
use Rattle.owner_fits.specs.Names.{change_named}
use Rattle.row_laws.specs.Notices.{TellsChange}

-- ---- a put that is told in the leasing range is of an ownership key

abbrev IsOwners : List ℕ → Change → Type 0
IsOwners p (event.Put kv) = is_key (without p kv.key) ≡ true
IsOwners p (event.Delete key modified) = Unit {0}

abbrev OfOwner : List ℕ → Event → Type 0
OfOwner p e = IsOwners p e.change

one_of : (a b : Bool) → a ≡ true → not a || b ≡ true → b ≡ true
one_of true b e h = h
one_of false b e h = absurd (cc)

put_owned : (p : List ℕ) (revision : ℕ) (old : Option Kv) (key value : List ℕ) (lease : ℕ) → is_key (without p key) ≡ true → is_key (without p (after_put old key value lease revision).key) ≡ true
put_owned p revision None key value lease h = h
put_owned p revision (Some kv) key value lease h = h

event_owned : (p : List ℕ) (revision : ℕ) (old : Option Kv) (c : KeyChange) → contains (leasing_range p) (changed_key c) ≡ true → has_owner p (changed_key c) ≡ true → OfOwner p (event_of revision old c)
event_owned p revision old (change.Put key value lease) i h = put_owned p revision old key value lease (one_of (contains (leasing_range p) key) (is_key (without p key)) i h)
event_owned p revision old (change.Delete key) i h = tt

changes_owned : (p : List ℕ) (before : History) (made cs : List KeyChange) → keys_pass (has_owner p) cs ≡ true → Each (OfOwner p) (events_of_changes (leasing_range p) before made cs)
unfolding Each
changes_owned p before made [] h = tt
changes_owned p before made (c ∷ cs) h =
    let rest = changes_owned p before (made ++ c ∷ []) cs (and_second (has_owner p (changed_key c)) _ h) in
    by_test (Each (OfOwner p)) (contains (leasing_range p) (changed_key c)) _ _
    (λ i. (event_owned p (newest before + 1) (record_now (with_revision before made) (changed_key c)) c i (and_first (has_owner p (changed_key c)) _ h), rest)) (λ i. rest)

history_owned : (p : List ℕ) (before rest : History) → list_all (keys_pass (has_owner p)) rest ≡ true → Each (OfOwner p) (events_after (leasing_range p) before rest)
unfolding Each
history_owned p before [] h = tt
history_owned p before (cs ∷ rest) h =
    each_append (OfOwner p) (events_of_changes (leasing_range p) before [] cs) (events_after (leasing_range p) (before ++ cs ∷ []) rest) (changes_owned p before [] cs (and_first (keys_pass (has_owner p) cs) _ h))
    (history_owned p (before ++ cs ∷ []) rest (and_second (keys_pass (has_owner p) cs) _ h))

owned : (p : List ℕ) (h : History) (from : ℕ) (e : Event) → list_all (keys_pass (has_owner p)) h ≡ true → Contains (events h (leasing_range p) from) e → OfOwner p e
owned p h from e all c =
    let before = take (from - 2) h in
    let rest = drop (from - 2) h in
    let whole : before ++ rest ≡ h = take-append-drop (from - 2) h in
    let later = and_second (list_all (keys_pass (has_owner p)) before) _ (sym (list_all-append (keys_pass (has_owner p)) before rest) ∙ ap (list_all (keys_pass (has_owner p))) whole ∙ all) in
    of_each (OfOwner p) (events_after (leasing_range p) before rest) e (history_owned p before rest later) c

-- ---- so it names its owner, whom the view was told of

rest_of : (p x : List ℕ) → drop (length p) (p ++ x) ≡ x
rest_of [] x = refl
rest_of (b ∷ bs) x = rest_of bs x

record IsNamed (p key : List ℕ) : Type 0 where
  whole : key ≡ p ++ owned_key p key
  some : is_empty (owned_key p key) ≡ false

named : (p key : List ℕ) (o : Option (List ℕ)) → without p key ≡ o → is_key o ≡ true → IsNamed p key
named p key None e s = absurd (cc)
named p key (Some rest) e s =
    let is = unwrapped_keys_were_wrapped p key rest e in
    let own : owned_key p key ≡ rest = ap (owned_key p) is ∙ rest_of p rest in
    record { whole = is ∙ ap (λ (k : List ℕ). p ++ k) (sym own); some = ap is_empty own ∙ not_true (is_empty rest) s }

-- what is asked of a change
pub record ChangeFits (v : View) (p : List ℕ) (c : Change) : Type 0 where
  pub told : TellsChange v p c
  pub named : change_named p c ≡ true

or_so : (a b : Bool) → b ≡ false → not a || not b ≡ true
or_so true b e = ap not e
or_so false b e = refl

change_fits : (v : View) (p : List ℕ) (c : Change) → TellsEvent p v c → IsOwners p c → ChangeFits v p c
change_fits v p (event.Put kv) t i =
    let n = named p kv.key (without p kv.key) refl i in
    let k = owned_key p kv.key in
    let s = t k n.some n.whole in
    record { told = λ e. in_event kv.modified s.0 (sym s.1); named = or_so (same kv.value revoke_word) (is_empty k) n.some }
change_fits v p (event.Delete key modified) t i = record { told = tt; named = refl }

-- an event of the store's
pub event_fits : (holder : ℕ → ℕ) (p : List ℕ) (s : State) (v : View) (from : ℕ) (e : Event) → Stands holder p s v → Contains (events s.history (leasing_range p) from) e → ChangeFits v p e.change
event_fits holder p s v from e h c = change_fits v p e.change (events_tell holder p s v from e h c) (owned p s.history from e h.orderly.owned c)
