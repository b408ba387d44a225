-- A reply that a line tells with no call of its own: it is true, at the store of the items before it.
use Rattle.std.proofs.Common.{◌≡◌, ℕ, ◌≤◌, true, false, not, cond, nat_le, List, [], ◌∷◌, ◌++◌, append_assoc, append-nil, Option, None, Some, refl, sym, ◌∙◌, ap, subst, arith}
use Rattle.std.specs.List.{list_all}
use Rattle.std.specs.Option.{option_to_list}
use Rattle.std.proofs.lemmas.List.Folds.{list_any-append}
use Rattle.etcd_types.proofs.Bools.{and_first, and_second, or_left}
use Rattle.etcd_types.specs.declared.answer.Answer.{Answer}
use Rattle.etcd_types.specs.declared.answer.Reply.{Reply}
use Rattle.etcd_types.specs.declared.operation.RangeAsk.{RangeAsk}
use Rattle.etcd_types.specs.declared.operation.TxnAsk.{TxnAsk}
use Rattle.etcd_types.specs.declared.record.Header.{Header}
use Rattle.etcd_types.specs.declared.record.Kv.{Kv}
use Rattle.etcd_types.specs.declared.request.Request.{Request}
use Rattle.etcd_types.specs.declared.request.Request.TheVariants as request
use Rattle.proxy_model.specs.Snapshot.{is_plain, plain_body}
use Rattle.proxy_model.specs.Unwrapped.{reply_without}
use Rattle.proxy_model.specs.Wrapped.{request_under}
use Rattle.core_model.specs.declared.event.CoreEvent.{CoreEvent}
use Rattle.core_model.specs.Kinds.{writes_keys}
use Rattle.core_model.specs.Step.{stepped}
use Rattle.script_text.specs.declared.item.Item.{Item}
use Rattle.script_text.specs.declared.item.Item.TheVariants as item
use Rattle.namespace_laws.specs.Stored.Stored.{stored}
use Rattle.store_model.specs.History.{newest}
use Rattle.store_model.specs.Records.{record_now}
use Rattle.store_model.specs.State.{State}
use Rattle.store_model.specs.Step.{exec}
use Rattle.cache_laws.specs.Store.StoreView.{Shows}
use Rattle.held_laws.proofs.Items.{asked_still}
use Rattle.world_model.specs.Answers.{Seen, unseen, saw, saw_all, seen}
use Rattle.world_model.specs.Lives.{begins, names, life_from, life, namespace_of, asked_as, is_named}
use Rattle.world_model.specs.Reads.{given, shown, TrueNow}
use Rattle.world_model.specs.State.{Place, World}
use Rattle.world_laws.proofs.Quiet.{saw_all-append}
use Rattle.prefix_laws.proofs.Told.{is_told}
use Rattle.prefix_laws.proofs.Turning.{named_by}
use Rattle.renewed_laws.proofs.Lives.{Lives, life_on}
use Rattle.middle_laws.specs.Cached.{IsCachedRead, IsCachedSnapshot, header_after}
use Rattle.middle_laws.specs.Laws.{with_key}
use Rattle.middle_laws.proofs.Shown.{cached_reads_unwrap, cached_snapshots_unwrap}
use Rattle.truth_laws.specs.Snapshots.{TrueSnapshot}
use Rattle.truth_laws.proofs.Giving.{AreUpTo, nothing_given}
use Rattle.truth_laws.proofs.Heads.{HeadBehind}
use Rattle.truth_laws.proofs.Showing.{PlaceSeen, WorldSeen}
use Rattle.truth_laws.proofs.Telling.{TellsNothing, nothing_told, nothing-append, reply_nothing, body_nothing}
use Rattle.truth_laws.proofs.Unsent.{is_read_only, decides, From, is_sent, is_other, is_cached, is_snapshot}

-- ---- what is to hold of it

pub record ReadsTrue (earlier : List Item) (p ticket : ℕ) (reply : Reply) : Type 0 where
  pub reads : (ask : RangeAsk) → asked_as p ticket (life p earlier) ≡ Some (request.Range ask) → (is_plain ask ≡ true) × TrueNow earlier p ask.range.key reply
  pub snapshots : (t : TxnAsk) → asked_as p ticket (life p earlier) ≡ Some (request.Txn t) → writes_keys (request.Txn t) ≡ false → TrueSnapshot earlier p t reply

-- where no call named it so far
abbrev pub TrueAt : List Item → ℕ → ℕ → Reply → Type 0
TrueAt earlier p ticket reply = is_named p ticket (life p earlier) ≡ false → ReadsTrue earlier p ticket reply

-- ---- replies that were told before it in the same line

-- a reply, or its JSON
data IsReply : Item → Type 0 where
  a_reply : (p ticket : ℕ) (a : Answer) → IsReply (item.Reply p ticket a)
  its_text : (p ticket status : ℕ) (text : List ℕ) → IsReply (item.Body p ticket status text)

told_is : (i : Item) → is_told i ≡ true → IsReply i
told_is (item.Reply q t a) h = a_reply q t a
told_is (item.Body q t s b) h = its_text q t s b
told_is (item.World m n l) h = absurd (cc)
told_is (item.Started q) h = absurd (cc)
told_is (item.Restarted q) h = absurd (cc)
told_is (item.Clock q m) h = absurd (cc)
told_is (item.Asked q t r) h = absurd (cc)
told_is (item.Posted q t a b) h = absurd (cc)
told_is (item.Ticked q) h = absurd (cc)
told_is (item.Sent q c m t r) h = absurd (cc)
told_is (item.Opened q c m r) h = absurd (cc)
told_is (item.Closed q c) h = absurd (cc)
told_is (item.Executed c a) h = absurd (cc)
told_is (item.Answered c) h = absurd (cc)
told_is (item.Lost c) h = absurd (cc)
told_is (item.Pushed s i) h = absurd (cc)
told_is (item.Delivered s) h = absurd (cc)
told_is (item.Cut s) h = absurd (cc)
told_is (item.Taken q t i) h = absurd (cc)
told_is (item.Pending q t) h = absurd (cc)
told_is (item.Left q t) h = absurd (cc)
told_is (item.Expired l) h = absurd (cc)
told_is (item.Applied m r) h = absurd (cc)

not_begins : (p : ℕ) (i : Item) → IsReply i → begins p i ≡ false
not_begins p _ (a_reply q t a) = refl
not_begins p _ (its_text q t s b) = refl

one_nothing : (i : Item) → IsReply i → TellsNothing (i ∷ [])
one_nothing _ (a_reply q t a) = reply_nothing q t a
one_nothing _ (its_text q t s b) = body_nothing q t s b

one_seen : (s : Seen) (i : Item) → IsReply i → saw s i ≡ s
one_seen s _ (a_reply q t a) = refl
one_seen s _ (its_text q t z b) = refl

first_is : (i : Item) (told : List Item) → list_all is_told (i ∷ told) ≡ true → IsReply i
first_is i told h = told_is i (and_first (is_told i) (list_all is_told told) h)

told_lives : (p : ℕ) (told : List Item) → list_all is_told told ≡ true → Lives p told
told_lives p [] h so_far = sym (append-nil so_far)
told_lives p (i ∷ told) h so_far =
    ap (λ b. cond b (life_from p [] told) (life_from p (so_far ++ i ∷ []) told)) (not_begins p i (first_is i told h))
    ∙ told_lives p told (and_second (is_told i) (list_all is_told told) h) (so_far ++ i ∷ []) ∙ append_assoc so_far (i ∷ []) told

told_nothing : (told : List Item) → list_all is_told told ≡ true → TellsNothing told
told_nothing [] h = nothing_told
told_nothing (i ∷ told) h = nothing-append (i ∷ []) told (one_nothing i (first_is i told h)) (told_nothing told (and_second (is_told i) (list_all is_told told) h))

told_seen : (s : Seen) (told : List Item) → list_all is_told told ≡ true → saw_all s told ≡ s
told_seen s [] h = refl
told_seen s (i ∷ told) h = ap (λ (t : Seen). saw_all t told) (one_seen s i (first_is i told h)) ∙ told_seen s told (and_second (is_told i) (list_all is_told told) h)

-- ---- bodies

body_shown : (key : List ℕ) (o : Option Kv) → plain_body (option_to_list (with_key key o)) ≡ shown key o
body_shown key None = refl
body_shown key (Some kv) = refl

same_asked : (q r : Request) → Some q ≡ Some r → q ≡ r
same_asked q r e = cc

same_range : (a b : RangeAsk) → request.Range a ≡ request.Range b → a ≡ b
same_range a b e = cc

same_txn : (s t : TxnAsk) → request.Txn s ≡ request.Txn t → s ≡ t
same_txn s t e = cc

-- ---- a step of a proxy, and the items behind it

-- what is known of the step
pub record Stepping (items own : List Item) (w : World) (p : ℕ) (x : Place) (e : CoreEvent) (k : WorldSeen w) : Type 0 where
  pub lives : Lives p own
  pub place : PlaceSeen k.holder w.leasing k.view w p x
  pub head : HeadBehind items own w p (stepped x.core e x.clock).core
  -- nothing changes the store where reads are decided
  pub store : decides e ≡ true → (seen (items ++ own)).store ≡ w.store
  pub namespace : (more : List Item) → namespace_of (items ++ more) ≡ w.namespace

module _ (items own : List Item) (w : World) (p : ℕ) (x : Place) (e : CoreEvent) (k : WorldSeen w) (h : Stepping items own w p x e k) (told : List Item) (is : list_all is_told told ≡ true) where
  life_is : life p ((items ++ own) ++ told) ≡ (life p items ++ own) ++ told
  life_is = life_on p (items ++ own) told (told_lives p told is) ∙ ap (λ (l : List Item). l ++ told) (life_on p items own h.lives)

  store_is : decides e ≡ true → (seen ((items ++ own) ++ told)).store ≡ stored w.namespace k.bare
  store_is d = ap (λ (s : Seen). s.store) (saw_all-append unseen (items ++ own) told ∙ told_seen (seen (items ++ own)) told is) ∙ h.store d ∙ k.store

  namespace_is : namespace_of ((items ++ own) ++ told) ≡ w.namespace
  namespace_is = ap namespace_of (append_assoc items own told) ∙ h.namespace (own ++ told)

  shows_is : Shows x.core.own.waits.prefix k.bare k.view
  shows_is = subst (λ (l : List ℕ). Shows l k.bare k.view) (sym h.place.prefix) k.stands.shows

  not_below : (reply : Reply) → reply.header ≡ header_after x.core e x.clock → list_all (λ r. nat_le r reply.header.revision) (given p ((items ++ own) ++ told)) ≡ true
  not_below reply i =
      subst (λ (t : Header). list_all (λ r. nat_le r t.revision) (given p ((items ++ own) ++ told)) ≡ true) (sym i)
      (subst (AreUpTo (header_after x.core e x.clock).revision) (sym (nothing_given p (items ++ own) told (told_nothing told is))) h.head.given)

  not_above : (reply : Reply) → decides e ≡ true → reply.header ≡ header_after x.core e x.clock → reply.header.revision ≤ newest (seen ((items ++ own) ++ told)).store.history
  not_above reply d i =
      let l = h.head.below in
      let r = ap (λ (t : Header). t.revision) i in
      let s : newest (seen ((items ++ own) ++ told)).store.history ≡ newest w.store.history = ap (λ (t : State). newest t.history) (store_is d ∙ sym k.store) in
      omega (arith, l, r, s)

  true_now : (q : Request) (reply : Reply) → decides e ≡ true → (c : IsCachedRead k.view x.core.own.waits.prefix (header_after x.core e x.clock) q reply) → TrueNow ((items ++ own) ++ told) p c.ask.range.key reply
  true_now q reply d c =
      let key = c.ask.range.key in
      let u = cached_reads_unwrap w.namespace x.core.own.waits.prefix k.bare k.view (header_after x.core e x.clock) q reply shows_is c in
      let i = ap (λ (r : Reply). r.header) u in
      record {
        shows =
            ap (λ (r : Reply). r.body) u ∙ body_shown key (record_now (stored w.namespace k.bare).history (w.namespace ++ key))
            ∙ (λ j. shown key (record_now (sym (store_is d) j).history (sym namespace_is j ++ key)));
        not_below = not_below reply i;
        not_above = not_above reply d i;
      }

  true_snapshot : (q : Request) (reply : Reply) → decides e ≡ true → (c : IsCachedSnapshot k.view x.core.own.waits.prefix (header_after x.core e x.clock) q reply) → TrueSnapshot ((items ++ own) ++ told) p c.txn reply
  true_snapshot q reply d c =
      let (wrapped, bare, answered, unwrapped, body) = cached_snapshots_unwrap w.namespace x.core.own.waits.prefix k.bare 0 k.view (header_after x.core e x.clock) q reply k.stands.orderly.sound.keys shows_is c in
      let i = ap (λ (r : Reply). r.header) c.told in
      record {
        member = 0;
        stored = wrapped;
        bare = bare;
        answered = (λ j. (exec (store_is d j) 0 (request_under (namespace_is j) (request.Txn c.txn))).1) ∙ answered;
        unwrapped = ap (λ (n : List ℕ). reply_without n wrapped) namespace_is ∙ unwrapped;
        body = body;
        not_below = not_below reply i;
        not_above = not_above reply d i;
      }

  pub reply_true : (ticket : ℕ) (q : Request) (reply : Reply) → asked_as p ticket (life p items ++ own) ≡ Some q → From (named_by p (life p items)) k.view x.core e x.clock ticket q reply → TrueAt ((items ++ own) ++ told) p ticket reply
  reply_true ticket q reply asked from unsent = by from
    where
      asked_so : asked_as p ticket (life p ((items ++ own) ++ told)) ≡ Some q
      asked_so = ap (asked_as p ticket) life_is ∙ asked_still p ticket (life p items ++ own) told q asked

      asked_is : (r : Request) → asked_as p ticket (life p ((items ++ own) ++ told)) ≡ Some r → q ≡ r
      asked_is r i = same_asked q r (sym asked_so ∙ i)

      named_so : is_named p ticket (life p items) ≡ true → is_named p ticket (life p ((items ++ own) ++ told)) ≡ true
      named_so n =
          ap (is_named p ticket) (life_is ∙ append_assoc (life p items) own told) ∙ list_any-append (names p ticket) (life p items) (own ++ told)
          ∙ or_left (is_named p ticket (life p items)) (is_named p ticket (own ++ told)) n

      no_way : {A : Type 0} → true ≡ false → A
      no_way i = absurd (cc)

      no_txn : {A : Type 0} (a : RangeAsk) (t : TxnAsk) → request.Range a ≡ request.Txn t → A
      no_txn a t i = absurd (cc)

      by : From (named_by p (life p items)) k.view x.core e x.clock ticket q reply → ReadsTrue ((items ++ own) ++ told) p ticket reply
      by (is_sent n) = no_way (sym (named_so n) ∙ unsent)
      by (is_other n) = record {
        reads = λ ask i. no_way (sym (ap is_read_only (asked_is (request.Range ask) i)) ∙ n);
        snapshots = λ t i r. no_way (sym (ap is_read_only (asked_is (request.Txn t) i) ∙ ap not r) ∙ n);
      }
      by (is_cached d c) = record {
        reads = λ ask i.
            let same : c.ask ≡ ask = same_range c.ask ask (sym c.range ∙ asked_is (request.Range ask) i) in
            subst (λ (a : RangeAsk). (is_plain a ≡ true) × TrueNow ((items ++ own) ++ told) p a.range.key reply) same (c.plain, true_now q reply d c);
        snapshots = λ t i r. no_txn c.ask t (sym c.range ∙ asked_is (request.Txn t) i);
      }
      by (is_snapshot d c) = record {
        reads = λ ask i. no_txn ask c.txn (sym (asked_is (request.Range ask) i) ∙ c.asked);
        snapshots = λ t i r. subst (λ (a : TxnAsk). TrueSnapshot ((items ++ own) ++ told) p a reply) (same_txn c.txn t (sym c.asked ∙ asked_is (request.Txn t) i)) (true_snapshot q reply d c);
      }
