-- Line by line: of a key that items tell as new to a proxy, the proxy has nothing.
use Rattle.std.proofs.Common.{◌≡◌, ℕ, ◌==◌, nat_le, Bool, true, false, cond, not, ◌&&◌, ◌||◌, List, [], ◌∷◌, ◌++◌, length, filter, slice_get, Option, None, Some, Ok, Err, refl, sym, ◌∙◌, ap, subst}
use Rattle.std.specs.List.{list_all, list_any}
use Rattle.etcd_types.specs.declared.operation.RangeAsk.{RangeAsk}
use Rattle.etcd_types.specs.declared.record.Header.{Header}
use Rattle.etcd_types.specs.declared.request.Request.{Request}
use Rattle.etcd_types.specs.declared.request.Request.TheVariants as request
use Rattle.etcd_types.specs.declared.watch.Change.{Change}
use Rattle.etcd_types.specs.declared.watch.Change.TheVariants as change
use Rattle.etcd_types.specs.declared.watch.Event.{Event}
use Rattle.etcd_types.specs.declared.watch.WatchItem.{WatchItem}
use Rattle.etcd_types.specs.declared.watch.WatchItem.TheVariants as watch
use Rattle.etcd_types.specs.Keys.{same}
use Rattle.etcd_types.specs.Ranges.{is_one, contains}
use Rattle.etcd_types.proofs.Bools.{and_first, and_second, and_both}
use Rattle.etcd_types.proofs.KeyOrder.{same-equal, same-itself}
use Rattle.proxy_model.specs.Foreign.{revoke_word}
use Rattle.proxy_model.specs.Prefixes.{leasing_range}
use Rattle.proxy_model.specs.SeveralKeys.{written_ranges}
use Rattle.proxy_model.specs.Unwrapped.{Unwrapped, item_without}
use Rattle.proxy_model.specs.Upstream.{Upstream}
use Rattle.wait_model.specs.Covers.{covered}
use Rattle.wait_model.specs.Notices.{owned_key}
use Rattle.store_model.specs.Events.{event_revision}
use Rattle.watch_model.specs.Delivery.{changed_key, is_batch}
use Rattle.read_model.specs.PlainRead.{key_of}
use Rattle.core_model.specs.declared.event.CoreEvent.{CoreEvent}
use Rattle.core_model.specs.declared.event.CoreEvent.TheVariants as event
use Rattle.core_model.specs.declared.event.Outcome.{Outcome}
use Rattle.core_model.specs.Asking.{is_leased_read}
use Rattle.core_model.specs.Fits.{CoreOk}
use Rattle.core_model.specs.LeasingStream.{is_readable}
use Rattle.core_model.specs.State.{Opening, Core}
use Rattle.core_model.specs.Step.{opening_at, stepped}
use Rattle.core_fits.specs.Fits.{IsOfLeasing}
use Rattle.core_laws.specs.Steps.Kept.{IsHeard}
use Rattle.core_laws.proofs.Steps.Lists.{number_itself}
use Rattle.script_text.specs.declared.item.Item.{Item}
use Rattle.script_text.specs.declared.item.Item.TheVariants as item
use Rattle.world_model.specs.Gains.{Replies, taken_items, line_if}
use Rattle.world_model.specs.Lives.{opened_it, next_message, delivers}
use Rattle.world_model.specs.Places.{nth, is_among}
use Rattle.world_model.specs.State.{Place, OpenedStream, World}
use Rattle.world_laws.proofs.Effects.{Turn, ticks, asks_it, posts_it, calls, opens, closes, answers, loses, delivers as delivered, cuts, takes, waits, leaves}
use Rattle.truth_laws.proofs.Facts.{told_of as facts_of, waits_in, Facts}
use Rattle.cached_laws.specs.NewKeys.{is_of_key, names_owner, told_names, touches, is_new_key}
use Rattle.cached_laws.specs.Untouched.{IsUntouched, Misses, Spares, AllSpare, SparesIn, Passes}
use Rattle.cached_laws.proofs.Steps.{new_keys_stay_new}
use Rattle.cached_laws.proofs.Telling.{is_going, new_front, new_one}

-- ---- a request of another key

turned : (a b : List ℕ) → same a b ≡ false → same b a ≡ false
turned a b h = by (same b a) refl
  where
    by : (c : Bool) → same b a ≡ c → c ≡ false
    by true e = absurd (let f : true ≡ false = sym (same-itself b) ∙ ap (λ (x : List ℕ). same x b) (same-equal b a e) ∙ h in cc)
    by false e = refl

first_test : (b : Bool) (k r : List ℕ) (rest : Bool) → b ≡ true → cond b (same k r) rest ≡ false → same k r ≡ false
first_test true k r rest e h = h
first_test false k r rest e h = absurd (cc)

reads_other : (k prefix : List ℕ) (q : Request) → is_of_key k q ≡ false → is_leased_read prefix q ≡ true → same (key_of q) k ≡ false
reads_other k prefix (request.Range ask) n e =
    let plain = and_first (Rattle.proxy_model.specs.Snapshot.is_plain ask) (not (contains (leasing_range prefix) ask.range.key)) e in
    turned k ask.range.key (first_test (is_one ask.range) k ask.range.key (cond (Rattle.etcd_types.specs.Keys.is_zero ask.range.end) (Rattle.etcd_types.specs.Keys.is_zero ask.range.key || Rattle.etcd_types.specs.Keys.up_to ask.range.key k) (Rattle.etcd_types.specs.Keys.up_to ask.range.key k && Rattle.etcd_types.specs.Keys.before k ask.range.end)) (is_one_of plain) n)
  where
    is_one_of : Rattle.proxy_model.specs.Snapshot.is_plain ask ≡ true → is_one ask.range ≡ true
    is_one_of h =
        and_first (is_one ask.range) (ask.revision == 0)
        (and_first (is_one ask.range && ask.revision == 0) (not ask.serializable)
        (and_first (is_one ask.range && ask.revision == 0 && not ask.serializable) (not ask.keys_only)
        (and_first (is_one ask.range && ask.revision == 0 && not ask.serializable && not ask.keys_only) (not ask.count_only)
        (and_first (is_one ask.range && ask.revision == 0 && not ask.serializable && not ask.keys_only && not ask.count_only) (Rattle.proxy_model.specs.Snapshot.is_unsorted ask.sort) h))))
reads_other k prefix (request.Put ask) n e = absurd (cc)
reads_other k prefix (request.Delete ask) n e = absurd (cc)
reads_other k prefix (request.Txn t) n e = absurd (cc)
reads_other k prefix (request.Compact revision physical) n e = absurd (cc)
reads_other k prefix (request.Grant ttl lease) n e = absurd (cc)
reads_other k prefix (request.Revoke lease) n e = absurd (cc)
reads_other k prefix (request.KeepAlive lease) n e = absurd (cc)
reads_other k prefix (request.TimeToLive lease keys) n e = absurd (cc)
reads_other k prefix request.Leases n e = absurd (cc)
reads_other k prefix (request.Watch ask) n e = absurd (cc)

writes_other : (k : List ℕ) (q : Request) → is_of_key k q ≡ false → covered (written_ranges q) k ≡ false
writes_other k (request.Range ask) n = refl
writes_other k (request.Put ask) n = n
writes_other k (request.Delete ask) n = n
writes_other k (request.Txn t) n = n
writes_other k (request.Compact revision physical) n = n
writes_other k (request.Grant ttl lease) n = n
writes_other k (request.Revoke lease) n = n
writes_other k (request.KeepAlive lease) n = n
writes_other k (request.TimeToLive lease keys) n = n
writes_other k request.Leases n = n
writes_other k (request.Watch ask) n = n

misses : (k prefix : List ℕ) (q : Request) → is_of_key k q ≡ false → Misses k prefix q
misses k prefix q n = record { reads = reads_other k prefix q n; writes = writes_other k q n }

-- ---- a message that names other keys

or_none : (a b : Bool) → a || b ≡ false → (a ≡ false) × (b ≡ false)
or_none true b h = absurd (cc)
or_none false b h = (refl, h)

second_off : (a b : Bool) → a ≡ true → a && b ≡ false → b ≡ false
second_off true b e h = h
second_off false b e h = absurd (cc)

one_spares : (k prefix : List ℕ) (x : Change) → contains (leasing_range prefix) (changed_key x) ≡ true → contains (leasing_range prefix) (changed_key x) && same (owned_key prefix (changed_key x)) k ≡ false → Spares k prefix x
one_spares k prefix (change.Put kv) c n = λ e. second_off (contains (leasing_range prefix) kv.key) (same (owned_key prefix kv.key) k) c n
one_spares k prefix (change.Delete j revision) c n = tt

all_spare : (k prefix : List ℕ) (from : ℕ) (es : List Event) → is_batch (leasing_range prefix) from es ≡ true → list_any (names_owner prefix k) es ≡ false → AllSpare k prefix es
all_spare k prefix from [] b n = tt
all_spare k prefix from (e ∷ es) b n =
    let o = or_none (names_owner prefix k e) (list_any (names_owner prefix k) es) n in
    let front = and_first (nat_le from (event_revision e) && contains (leasing_range prefix) (changed_key e.change)) (is_batch (leasing_range prefix) (event_revision e) es) b in (
      one_spares k prefix e.change (and_second (nat_le from (event_revision e)) (contains (leasing_range prefix) (changed_key e.change)) front) o.0,
      all_spare k prefix (event_revision e) es (and_second (nat_le from (event_revision e) && contains (leasing_range prefix) (changed_key e.change)) (is_batch (leasing_range prefix) (event_revision e) es) b) o.1,
    )

readable : (u : Upstream) (es : List Event) → is_readable u es ≡ true → is_batch u.range u.next es ≡ true
readable u es h = by (u.next == 0) (is_batch u.range u.next es) h
  where
    by : (z b : Bool) → not (z || not b) ≡ true → b ≡ true
    by true b h = absurd (cc)
    by false true h = refl
    by false false h = absurd (cc)

opening_range : (prefix : List ℕ) (number : ℕ) (l : Option Opening) (o : Opening) → IsOfLeasing prefix l → opening_at number l ≡ Some o → o.stream.range ≡ leasing_range prefix
opening_range prefix number None o h e = absurd (cc)
opening_range prefix number (Some x) o h e = by (x.number == number) e
  where
    one : (a b : Opening) → Some a ≡ Some b → a ≡ b
    one a b e = cc

    by : (b : Bool) → cond b (Some x) None ≡ Some o → o.stream.range ≡ leasing_range prefix
    by true e = ap (λ (y : Opening). y.stream.range) (sym (one x o e)) ∙ h
    by false e = absurd (cc)

spares_in : (k : List ℕ) (namespace : List ℕ) (c : Core) (number : ℕ) (x : WatchItem) → c.settings.namespace ≡ namespace → IsOfLeasing c.own.waits.prefix c.leasing → told_names namespace c.own.waits.prefix k (Some x) ≡ false → SparesIn k c number x
spares_in k namespace c number x ns range n o h es f g r =
    let is : item_without namespace x ≡ Ok (watch.Events h es) = ap (λ (y : List ℕ). item_without y x) (sym ns) ∙ g in
    let none : list_any (names_owner c.own.waits.prefix k) es ≡ false = sym (ap (Rattle.cached_laws.specs.NewKeys.read_names c.own.waits.prefix k) is) ∙ n in
    all_spare k c.own.waits.prefix o.stream.next es (subst (λ (y : Rattle.etcd_types.specs.declared.key_range.KeyRange.KeyRange). is_batch y o.stream.next es ≡ true) (opening_range c.own.waits.prefix number c.leasing o range f) (readable o.stream es r)) none

-- ---- the message that is delivered next

get_behind : (xs ys : List WatchItem) (y : WatchItem) (k : ℕ) → length xs ≡ k → slice_get (xs ++ y ∷ ys) k ≡ Some y
get_behind xs ys y k e = ap (slice_get (xs ++ y ∷ ys)) (sym e) ∙ by xs
  where
    by : (zs : List WatchItem) → slice_get (zs ++ y ∷ ys) (length zs) ≡ Some y
    by [] = refl
    by (z ∷ zs) = by zs

pub next_is : (items : List Item) (w : World) (number : ℕ) (s : OpenedStream) (i : WatchItem) (rest : List WatchItem) → Facts items (facts_of w) → nth w.streams number ≡ Some s → s.ended ≡ false → s.waiting ≡ i ∷ rest → next_message number items ≡ Some i
next_is items w number s i rest h at goes_on there =
    let q = h.queued number (i ∷ rest) (ap waits_in at ∙ ap (λ b. cond b None (Some s.waiting)) goes_on ∙ ap (λ (l : List WatchItem). Some l) there) in
    ap (λ (l : List WatchItem). slice_get l (length (filter (delivers number) items))) q.pushed ∙ get_behind q.taken rest i (length (filter (delivers number) items)) q.count

-- ---- a turn

abbrev pub NewOk : List ℕ → List ℕ → List Item → ℕ → Core → Type 0
NewOk namespace leasing items p c = (k : List ℕ) → is_new_key namespace leasing k p items ≡ true → IsUntouched k c

pub new_more : (namespace leasing : List ℕ) (items more : List Item) (p : ℕ) (c : Core) → list_all (is_going p) more ≡ true → NewOk namespace leasing items p c → NewOk namespace leasing (items ++ more) p c
new_more namespace leasing items more p c g h k e = h k (new_front namespace leasing k p items more g e)

-- what is known of the turning proxy
pub record Turning (namespace leasing : List ℕ) (items : List Item) (w : World) (p : ℕ) (x : Place) : Type 0 where
  pub namespace_is : x.core.settings.namespace ≡ namespace
  pub prefix_is : x.core.own.waits.prefix ≡ leasing
  pub range : IsOfLeasing x.core.own.waits.prefix x.core.leasing
  pub facts : Facts items (facts_of w)
  pub opened : (number : ℕ) (s : OpenedStream) → nth w.streams number ≡ Some s → opened_it s.proxy number items ≡ true

taken_going : (q p : ℕ) (b : Bool) (ticket : ℕ) (i : WatchItem) → list_all (is_going q) (item.Taken p ticket i ∷ line_if b p ticket i) ≡ true
taken_going q p true ticket i = refl
taken_going q p false ticket i = refl

pub turn_going : (q : ℕ) (w : World) (p : ℕ) (z : Place) (e : CoreEvent) (o : Outcome) (v : World) (y : Place) (own : List Item) (told : Replies) → Turn w p z e o v y own told → list_all (is_going q) own ≡ true
turn_going q' w p z _ _ _ _ _ _ (ticks o) = refl
turn_going q' w p z _ _ _ _ _ _ (asks_it ticket q o n) = refl
turn_going q' w p z _ _ _ _ _ _ (posts_it ticket path body q o n) = refl
turn_going q' w p z _ _ _ _ _ _ (calls own member ticket q) = refl
turn_going q' w p z _ _ _ _ _ _ (opens own member ask) = refl
turn_going q' w p z _ _ _ _ _ _ (closes own number e) = refl
turn_going q' w p z _ _ _ _ _ _ (answers number call a o e f) = refl
turn_going q' w p z _ _ _ _ _ _ (loses number call o e) = refl
turn_going q' w p z _ _ _ _ _ _ (delivered number s i rest o a b c d e) = refl
turn_going q' w p z _ _ _ _ _ _ (cuts number s o a b c d) = refl
turn_going q' w p z _ _ _ _ _ _ (takes ticket i) = taken_going q' p (is_among z.posted ticket) ticket i
turn_going q' w p z _ _ _ _ _ _ (waits ticket o n) = refl
turn_going q' w p z _ _ _ _ _ _ (leaves ticket o) = refl

turn_passes : (namespace leasing : List ℕ) (items : List Item) (w : World) (p : ℕ) (x z : Place) (e : CoreEvent) (o : Outcome) (v : World) (y : Place) (own : List Item) (told : Replies) (k : List ℕ) → Turning namespace leasing items w p x → Turn w p z e o v y own told
    → is_new_key namespace leasing k p (items ++ own) ≡ true → Passes k x.core e
turn_passes namespace leasing items w p x z _ _ _ _ _ _ k h (ticks o) n = tt
turn_passes namespace leasing items w p x z _ _ _ _ _ _ k h (asks_it ticket q o f) n =
    misses k x.core.own.waits.prefix q (second_off (p == p) (is_of_key k q) (number_itself p) (new_one namespace leasing k p items (item.Asked p ticket q) refl n))
turn_passes namespace leasing items w p x z _ _ _ _ _ _ k h (posts_it ticket path body q o f) n =
    misses k x.core.own.waits.prefix q
    (second_off (p == p) (is_of_key k q) (number_itself p)
    (new_one namespace leasing k p (items ++ item.Posted p ticket path body ∷ []) (item.Asked p ticket q) refl
    (ap (λ (xs : List Item). is_new_key namespace leasing k p xs) (Rattle.std.proofs.Common.append_assoc items (item.Posted p ticket path body ∷ []) (item.Asked p ticket q ∷ [])) ∙ n)))
turn_passes namespace leasing items w p x z _ _ _ _ _ _ k h (calls own member ticket q) n = tt
turn_passes namespace leasing items w p x z _ _ _ _ _ _ k h (opens own member ask) n = tt
turn_passes namespace leasing items w p x z _ _ _ _ _ _ k h (closes own number e) n = tt
turn_passes namespace leasing items w p x z _ _ _ _ _ _ k h (answers number call a o e f) n = tt
turn_passes namespace leasing items w p x z _ _ _ _ _ _ k h (loses number call o e) n = tt
turn_passes namespace leasing items w p x z _ _ _ _ _ _ k h (delivered number s i rest o a b c d e) n =
    let open_here : opened_it p number items ≡ true = ap (λ (q : ℕ). opened_it q number items) (sym b) ∙ h.opened number s a in
    let none : told_names namespace leasing k (next_message number items) ≡ false = second_off (opened_it p number items) (told_names namespace leasing k (next_message number items)) open_here (new_one namespace leasing k p items (item.Delivered number) refl n) in
    spares_in k namespace x.core s.own i h.namespace_is h.range
    (ap (λ (y : List ℕ). told_names namespace y k (Some i)) h.prefix_is ∙ ap (told_names namespace leasing k) (sym (next_is items w number s i rest h.facts a c e)) ∙ none)
turn_passes namespace leasing items w p x z _ _ _ _ _ _ k h (cuts number s o a b c d) n = tt
turn_passes namespace leasing items w p x z _ _ _ _ _ _ k h (takes ticket i) n = tt
turn_passes namespace leasing items w p x z _ _ _ _ _ _ k h (waits ticket o f) n = tt
turn_passes namespace leasing items w p x z _ _ _ _ _ _ k h (leaves ticket o) n = tt

pub new_turn : (namespace leasing : List ℕ) (items : List Item) (w : World) (p : ℕ) (x z : Place) (e : CoreEvent) (o : Outcome) (v : World) (y : Place) (own : List Item) (told : Replies) → Turning namespace leasing items w p x → IsHeard x.core e → CoreOk x.core
    → Turn w p z e o v y own told → NewOk namespace leasing items p x.core → NewOk namespace leasing (items ++ own) p (stepped x.core e x.clock).core
new_turn namespace leasing items w p x z e o v y own told h b ok t n k new =
    new_keys_stay_new k x.core e x.clock b ok (turn_passes namespace leasing items w p x z e o v y own told k h t new) (n k (new_front namespace leasing k p items own (turn_going p w p z e o v y own told t) new))
