-- Behind each prefix of a script, line by line, and must cache of every script.
use Rattle.std.proofs.Common.{◌≡◌, ℕ, ◌+◌, ◌<◌, ◌^◌, Bool, true, false, List, [], ◌∷◌, ◌++◌, append_assoc, length, Some, Ok, refl, sym, ◌∙◌, ap, subst, arith}
use Rattle.std.proofs.lemmas.List.Folds.{list_all-append}
use Rattle.std.specs.Prelude.{flat_map}
use Rattle.std.specs.List.{list_all}
use Rattle.std.specs.BTreeSet.{BTreeSet}
use Rattle.etcd_types.specs.declared.answer.Answer.{Answer}
use Rattle.etcd_types.specs.declared.answer.Answer.TheVariants as answer
use Rattle.etcd_types.specs.declared.operation.Compare.{Compare}
use Rattle.etcd_types.specs.declared.operation.Op.{Op}
use Rattle.etcd_types.specs.declared.operation.Op.TheVariants as op
use Rattle.etcd_types.specs.Keys.{is_empty}
use Rattle.proxy_model.specs.Snapshot.{is_snapshot, names_nothing}
use Rattle.etcd_types.specs.declared.request.Request.{Request}
use Rattle.etcd_types.specs.declared.request.Request.TheVariants as request
use Rattle.etcd_types.specs.declared.watch.WatchItem.{WatchItem}
use Rattle.etcd_types.proofs.Bools.{and_first, and_second, and_both}
use Rattle.core_model.specs.declared.event.CoreEvent.{CoreEvent}
use Rattle.core_model.specs.declared.event.CoreEvent.TheVariants as event
use Rattle.core_model.specs.declared.event.Outcome.{Outcome}
use Rattle.core_model.specs.Asking.{is_leased_read}
use Rattle.core_model.specs.Refusals.{refusal_of}
use Rattle.core_model.specs.Step.{stepped}
use Rattle.script_text.specs.declared.item.Item.{Item}
use Rattle.script_text.specs.declared.item.Item.TheVariants as item
use Rattle.script_text.specs.declared.line.Line.{Line}
use Rattle.world_model.specs.Asks.{told_at_once}
use Rattle.world_model.specs.Gains.{Replies, all_fetched, body_if, reply_items, line_if}
use Rattle.world_model.specs.Lives.{world_of, clock_of}
use Rattle.world_model.specs.LiveSessions.{Session, session_of, is_live, is_live_at}
use Rattle.world_model.specs.Places.{place_at, with_posted, is_among}
use Rattle.world_model.specs.Sends.{next_call, next_stream}
use Rattle.world_model.specs.State.{Place, World}
use Rattle.world_model.specs.Transcript.{done}
use Rattle.world_laws.proofs.Effects.{Turn, ticks, asks_it, posts_it, calls, opens, closes, answers, loses, delivers, cuts, takes, waits, leaves, Begins, first, again, Effect, starts, sets, executes, expires, applies, pushes, turns}
use Rattle.world_laws.proofs.Effects as effects
use Rattle.world_laws.proofs.Lines.{taken_keeps}
use Rattle.held_laws.proofs.Worlds.{no_place}
use Rattle.renewed_laws.proofs.Gains.{is_other, stepped_to, Gain, gain}
use Rattle.renewed_laws.proofs.Gains as gains
use Rattle.prefix_laws.proofs.Prefixes.{IsKept}
use Rattle.session_laws.specs.Told.{sets_clock_below}
use Rattle.session_laws.proofs.Items.{session_next, clock-append}
use Rattle.session_laws.proofs.Turns.{bound_of}
use Rattle.cached_laws.specs.Reads.{is_served}
use Rattle.cached_laws.proofs.Worlds.{AllTold, Beside, replies_plain}
use Rattle.acquired_laws.proofs.Whole.{AllKnown, all_kept, beside}
use Rattle.owned_laws.specs.Owned.{Owns}
use Rattle.owned_laws.specs.Caches.{IsRepliedAtOnce, OwnsCompared, OwnsRead, OwnsReads, OwnsNamed, EachScriptCaches, EachScriptAnswersSnapshots}
use Rattle.owned_laws.proofs.Replied.{read_replied, snapshot_replied}
use Rattle.owned_laws.proofs.Tails.{OfItems, AllTails, Grows, AreTailed, every_tail}
use Rattle.owned_laws.proofs.Told.{told_calm}
use Rattle.owned_laws.proofs.Carrying.{ProxyOwned, AllOwned}
use Rattle.owned_laws.proofs.Worlds.{lived_gain, lived_owned}

-- ---- each item

abbrev CachesAs : List Item → ℕ → ℕ → Request → List Item → Type 0
CachesAs before p ticket (request.Range ask) behind =
    is_leased_read (world_of before).1 (request.Range ask) ≡ true → is_served (refusal_of (world_of before).1 (request.Range ask)) ≡ true
    → (s : Session) → session_of p before ≡ Some s → is_live p before ≡ true → Owns (world_of before).0 (world_of before).1 ask.range.key p s.number before → IsRepliedAtOnce p ticket behind
CachesAs before p ticket (request.Txn t) behind =
    is_empty (world_of before).1 ≡ false → is_served (refusal_of (world_of before).1 (request.Txn t)) ≡ true → is_snapshot t ≡ true → names_nothing t ≡ false
    → (s : Session) → session_of p before ≡ Some s → is_live p before ≡ true → OwnsNamed (world_of before).0 (world_of before).1 p s.number before t → IsRepliedAtOnce p ticket behind
CachesAs before p ticket q behind = Unit {0}

abbrev Caches : OfItems
Caches before (item.Asked p ticket q) behind = CachesAs before p ticket q behind
Caches before _ behind = Unit {0}

more_replied : (p ticket : ℕ) (items more : List Item) → IsRepliedAtOnce p ticket items → IsRepliedAtOnce p ticket (items ++ more)
more_replied p ticket items more r = record {
  before = r.before;
  reply = r.reply;
  rest = r.rest ++ more;
  split = ap (λ (xs : List Item). xs ++ more) r.split ∙ append_assoc r.before (item.Reply p ticket (answer.Done r.reply) ∷ r.rest) more;
  replies = r.replies;
}

as_grows : (before : List Item) (p ticket : ℕ) (q : Request) (items more : List Item) → CachesAs before p ticket q items → CachesAs before p ticket q (items ++ more)
as_grows before p ticket (request.Range ask) items more h = λ a c s e l o. more_replied p ticket items more (h a c s e l o)
as_grows before p ticket (request.Put ask) items more h = tt
as_grows before p ticket (request.Delete ask) items more h = tt
as_grows before p ticket (request.Txn t) items more h = λ a c k n s e l o. more_replied p ticket items more (h a c k n s e l o)
as_grows before p ticket (request.Compact revision physical) items more h = tt
as_grows before p ticket (request.Grant ttl lease) items more h = tt
as_grows before p ticket (request.Revoke lease) items more h = tt
as_grows before p ticket (request.KeepAlive lease) items more h = tt
as_grows before p ticket (request.TimeToLive lease keys) items more h = tt
as_grows before p ticket request.Leases items more h = tt
as_grows before p ticket (request.Watch ask) items more h = tt

abbrev is_unasked : Item → Bool
is_unasked (item.Asked p ticket q) = false
is_unasked _ = true

one_unasked : (before : List Item) (i : Item) (behind : List Item) → is_unasked i ≡ true → Caches before i behind
one_unasked before (item.Asked q ticket r) behind h = absurd (cc)
one_unasked before (item.Started q) behind h = tt
one_unasked before (item.Restarted q) behind h = tt
one_unasked before (item.World members namespace leasing) behind h = tt
one_unasked before (item.Clock q millis) behind h = tt
one_unasked before (item.Posted q ticket path body) behind h = tt
one_unasked before (item.Ticked q) behind h = tt
one_unasked before (item.Sent q call member ticket r) behind h = tt
one_unasked before (item.Opened q stream member r) behind h = tt
one_unasked before (item.Closed q stream) behind h = tt
one_unasked before (item.Executed call a) behind h = tt
one_unasked before (item.Answered call) behind h = tt
one_unasked before (item.Lost call) behind h = tt
one_unasked before (item.Pushed stream i) behind h = tt
one_unasked before (item.Delivered stream) behind h = tt
one_unasked before (item.Cut stream) behind h = tt
one_unasked before (item.Taken q ticket i) behind h = tt
one_unasked before (item.Pending q ticket) behind h = tt
one_unasked before (item.Left q ticket) behind h = tt
one_unasked before (item.Reply q ticket a) behind h = tt
one_unasked before (item.Body q ticket status text) behind h = tt
one_unasked before (item.Expired lease) behind h = tt
one_unasked before (item.Applied member revision) behind h = tt

grows : Grows Caches
grows before i items more h = by (is_unasked i) refl
  where
    as_asked : (i : Item) → is_unasked i ≡ false → Caches before i items → Caches before i (items ++ more)
    as_asked (item.Asked p ticket q) e k = as_grows before p ticket q items more k
    as_asked (item.Started q) e k = tt
    as_asked (item.Restarted q) e k = tt
    as_asked (item.World members namespace leasing) e k = tt
    as_asked (item.Clock q millis) e k = tt
    as_asked (item.Posted q ticket path body) e k = tt
    as_asked (item.Ticked q) e k = tt
    as_asked (item.Sent q call member ticket r) e k = tt
    as_asked (item.Opened q stream member r) e k = tt
    as_asked (item.Closed q stream) e k = tt
    as_asked (item.Executed call a) e k = tt
    as_asked (item.Answered call) e k = tt
    as_asked (item.Lost call) e k = tt
    as_asked (item.Pushed stream j) e k = tt
    as_asked (item.Delivered stream) e k = tt
    as_asked (item.Cut stream) e k = tt
    as_asked (item.Taken q ticket j) e k = tt
    as_asked (item.Pending q ticket) e k = tt
    as_asked (item.Left q ticket) e k = tt
    as_asked (item.Reply q ticket a) e k = tt
    as_asked (item.Body q ticket status text) e k = tt
    as_asked (item.Expired lease) e k = tt
    as_asked (item.Applied member revision) e k = tt

    by : (b : Bool) → is_unasked i ≡ b → Caches before i (items ++ more)
    by true e = one_unasked before i (items ++ more) e
    by false e = as_asked i e h

all_unasked : (before xs : List Item) → list_all is_unasked xs ≡ true → AllTails Caches before xs
all_unasked before [] h = tt
all_unasked before (x ∷ xs) h = (one_unasked before x xs (and_first (is_unasked x) (list_all is_unasked xs) h), all_unasked (before ++ x ∷ []) xs (and_second (is_unasked x) (list_all is_unasked xs) h))

replies_unasked : (p : ℕ) (posted : BTreeSet ℕ) (rs : Replies) → list_all is_unasked (flat_map (reply_items p posted) rs) ≡ true
replies_unasked p posted rs = replies_plain is_unasked (λ a c d. refl) (λ a c d i. refl) p posted rs

-- ---- a line

module _ (namespace : List ℕ) (items : List Item) (w : World) (b : Beside namespace items w) (h : AllTold items w (bound_of w)) (g : AllOwned items w (bound_of w)) where
  quiet_own : (own : List Item) (p : ℕ) (posted : BTreeSet ℕ) (rs : Replies) → list_all is_unasked own ≡ true → AllTails Caches items (own ++ flat_map (reply_items p posted) rs)
  quiet_own own p posted rs e =
      all_unasked items (own ++ flat_map (reply_items p posted) rs) (list_all-append is_unasked own (flat_map (reply_items p posted) rs) ∙ and_both (list_all is_unasked own) (list_all is_unasked (flat_map (reply_items p posted) rs)) e (replies_unasked p posted rs))

  taken_unasked : (p : ℕ) (c : Bool) (ticket : ℕ) (i : WatchItem) → list_all is_unasked (item.Taken p ticket i ∷ line_if c p ticket i) ≡ true
  taken_unasked p true ticket i = refl
  taken_unasked p false ticket i = refl

  -- a request, behind items that tell of owned keys and the session what those tell
  pub record IsSame (p : ℕ) (before : List Item) : Type 0 where
    pub world : world_of before ≡ (w.namespace, w.leasing)
    pub session : session_of p before ≡ session_of p items
    pub clock : clock_of p before ≡ clock_of p items
    pub owned_it : (k : List ℕ) (t : ℕ) → Rattle.owned_laws.specs.Owned.owned w.namespace w.leasing k p t before ≡ Rattle.owned_laws.specs.Owned.owned w.namespace w.leasing k p t items

  same_itself : (p : ℕ) → IsSame p items
  same_itself p = record { world = ap world_of h.names.2; session = refl; clock = refl; owned_it = λ k t. refl }

  same_posted : (p ticket : ℕ) (path body : List ℕ) → IsSame p (items ++ item.Posted p ticket path body ∷ [])
  same_posted p ticket path body =
      let i = item.Posted p ticket path body in
      record {
        world = ap (λ (xs : List Item). world_of (xs ++ i ∷ [])) h.names.2;
        session = session_next p items i;
        clock = clock-append p 0 items (i ∷ []);
        owned_it = λ k t. told_calm w.namespace w.leasing k p t items (i ∷ []) refl;
      }

  module _ (p : ℕ) (x : Place) (at : place_at w p ≡ Some x) where
    same_owns : (before : List Item) → IsSame p before → (k : List ℕ) (n : ℕ) → Owns (world_of before).0 (world_of before).1 k p n before → Owns w.namespace w.leasing k p n items
    same_owns before s k n owns = record {
      ticket = owns.ticket;
      create = owns.create;
      told = sym (s.owned_it k owns.ticket) ∙ (λ i. Rattle.owned_laws.specs.Owned.owned ((sym s.world) i).0 ((sym s.world) i).1 k p owns.ticket before) ∙ owns.told;
    }

    same_compared : (before : List Item) → IsSame p before → (n : ℕ) (cs : List Compare) → OwnsCompared (world_of before).0 (world_of before).1 p n before cs → OwnsCompared w.namespace w.leasing p n items cs
    same_compared before s n [] o = tt
    same_compared before s n (c ∷ cs) o = (same_owns before s c.range.key n o.0, same_compared before s n cs o.1)

    same_reads : (before : List Item) → IsSame p before → (n : ℕ) (os : List Op) → OwnsReads (world_of before).0 (world_of before).1 p n before os → OwnsReads w.namespace w.leasing p n items os
    same_reads before s n [] o = tt
    same_reads before s n (x' ∷ os) o = (one x' o.0, same_reads before s n os o.1)
      where
        one : (z : Op) → OwnsRead (world_of before).0 (world_of before).1 p n before z → OwnsRead w.namespace w.leasing p n items z
        one (op.Range ask) r = same_owns before s ask.range.key n r
        one (op.Put ask) r = tt
        one (op.Delete ask) r = tt
        one (op.Txn' compare m success n' failure) r = tt

    asked_caches : (before : List Item) (ticket : ℕ) (q : Request) (o : Outcome) (y : Place) → IsSame p before → (stepped x.core (event.Ask ticket q (Rattle.world_model.specs.State.word w)) x.clock).outcome ≡ Ok o → y.core ≡ (stepped x.core (event.Ask ticket q (Rattle.world_model.specs.State.word w)) x.clock).core
        → let f = all_fetched y (told_at_once ticket o) in CachesAs before p ticket q (flat_map (reply_items p f.place.posted) f.replies)
    asked_caches before ticket (request.Range ask) o y s is same = λ plain served session told live owns.
        read_replied namespace items w b h g p x at session (sym s.session ∙ told) ((λ i. is_live_at ((sym s.clock) i) ((sym s.session) i)) ∙ live) ask
        (ap (λ (l : List ℕ × List ℕ). is_leased_read l.1 (request.Range ask)) (sym s.world) ∙ plain)
        (ap (λ (l : List ℕ × List ℕ). is_served (refusal_of l.1 (request.Range ask))) (sym s.world) ∙ served)
        (same_owns before s ask.range.key session.number owns) ticket (Rattle.world_model.specs.State.word w) o y is same
    asked_caches before ticket (request.Txn t) o y s is same = λ leased served snap named session told live owns.
        snapshot_replied namespace items w b h g p x at session (sym s.session ∙ told) ((λ i. is_live_at ((sym s.clock) i) ((sym s.session) i)) ∙ live) t
        (ap (λ (l : List ℕ × List ℕ). is_empty l.1) (sym s.world) ∙ leased)
        (ap (λ (l : List ℕ × List ℕ). is_served (refusal_of l.1 (request.Txn t))) (sym s.world) ∙ served) snap named
        (record { compared = same_compared before s session.number t.compare owns.compared; success = same_reads before s session.number t.success owns.success; failure = same_reads before s session.number t.failure owns.failure })
        ticket (Rattle.world_model.specs.State.word w) o y is same
    asked_caches before ticket (request.Put ask) o y s is same = tt
    asked_caches before ticket (request.Delete ask) o y s is same = tt
    asked_caches before ticket (request.Compact revision physical) o y s is same = tt
    asked_caches before ticket (request.Grant ttl lease) o y s is same = tt
    asked_caches before ticket (request.Revoke lease) o y s is same = tt
    asked_caches before ticket (request.KeepAlive lease) o y s is same = tt
    asked_caches before ticket (request.TimeToLive lease keys) o y s is same = tt
    asked_caches before ticket request.Leases o y s is same = tt
    asked_caches before ticket (request.Watch ask) o y s is same = tt

    turn_items : (e : CoreEvent) (o : Outcome) (v : World) (y : Place) (own : List Item) (told : Replies) → (stepped x.core e x.clock).outcome ≡ Ok o → Turn w p (stepped_to x e) e o v y own told
        → let f = all_fetched y told in AllTails Caches items (own ++ flat_map (reply_items p f.place.posted) f.replies)
    turn_items _ _ _ y _ told is (asks_it ticket q o n) = (asked_caches items ticket q o y (same_itself p) is refl, all_unasked _ _ (replies_unasked p (all_fetched y told).place.posted (all_fetched y told).replies))
    turn_items _ _ _ y _ told is (posts_it ticket path body q o n) = (tt, (asked_caches (items ++ item.Posted p ticket path body ∷ []) ticket q o y (same_posted p ticket path body) is refl, all_unasked _ _ (replies_unasked p (all_fetched y told).place.posted (all_fetched y told).replies)))
    turn_items _ _ _ y _ told is (calls own member ticket q) = quiet_own (item.Sent p (next_call w) member ticket q ∷ []) p (all_fetched y told).place.posted (all_fetched y told).replies refl
    turn_items _ _ _ y _ told is (ticks o) = quiet_own (item.Ticked p ∷ []) p (all_fetched y told).place.posted (all_fetched y told).replies refl
    turn_items _ _ _ y _ told is (opens own member ask) = quiet_own (item.Opened p (next_stream w) member (request.Watch ask) ∷ []) p (all_fetched y told).place.posted (all_fetched y told).replies refl
    turn_items _ _ _ y _ told is (closes own number e) = quiet_own (item.Closed p number ∷ []) p (all_fetched y told).place.posted (all_fetched y told).replies refl
    turn_items _ _ _ y _ told is (answers number call a o e f) = quiet_own (item.Answered number ∷ []) p (all_fetched y told).place.posted (all_fetched y told).replies refl
    turn_items _ _ _ y _ told is (loses number call o e) = quiet_own (item.Lost number ∷ []) p (all_fetched y told).place.posted (all_fetched y told).replies refl
    turn_items _ _ _ y _ told is (delivers number s i rest o a c d e f) = quiet_own (item.Delivered number ∷ []) p (all_fetched y told).place.posted (all_fetched y told).replies refl
    turn_items _ _ _ y _ told is (cuts number s o a c d e) = quiet_own (item.Cut number ∷ []) p (all_fetched y told).place.posted (all_fetched y told).replies refl
    turn_items _ _ _ y _ told is (takes ticket i) = quiet_own (item.Taken p ticket i ∷ line_if (is_among x.posted ticket) p ticket i) p (all_fetched y told).place.posted (all_fetched y told).replies (taken_unasked p (is_among x.posted ticket) ticket i)
    turn_items _ _ _ y _ told is (waits ticket o n) = quiet_own (item.Pending p ticket ∷ []) p (all_fetched y told).place.posted (all_fetched y told).replies refl
    turn_items _ _ _ y _ told is (leaves ticket o) = quiet_own (item.Left p ticket ∷ []) p (all_fetched y told).place.posted (all_fetched y told).replies refl

  effect_items : (after : World) (gained : List Item) → Effect w after gained → is_other gained ≡ true → AllTails Caches items gained
  effect_items _ _ (starts p clock life i c) other = started c
    where
      started : {k l : ℕ} {j : Item} → Begins w p k l j → AllTails Caches items (j ∷ [])
      started (first e) = (tt, tt)
      started (again x e) = (tt, tt)
  effect_items _ _ (sets p millis x at forward) other = (tt, tt)
  effect_items _ _ (effects.refuses_post p ticket path body a x at) other = absurd (cc)
  effect_items _ _ (executes number call e fresh) other = (tt, tt)
  effect_items _ _ (expires lease t e due) other = (tt, tt)
  effect_items _ _ (applies member revision t e) other = (tt, tt)
  effect_items _ _ (pushes number s t i at e f k) other = (tt, tt)
  effect_items _ _ (turns p x e o v y own told at is t) other = turn_items p x at e o v y own told is t

  gain_items : (after : World) (gained : List Item) → Gain w after gained → AllTails Caches items gained
  gain_items _ _ (gains.answers number call x a o there is at lived out) = quiet_own (item.Answered number ∷ []) call.proxy (all_fetched (stepped_to x (event.Answer call.own a)) []).place.posted (all_fetched (stepped_to x (event.Answer call.own a)) []).replies refl
  gain_items _ _ (gains.refuses_post p ticket path body r x at) = all_unasked items (item.Posted p ticket path body ∷ item.Reply p ticket (answer.Refused r) ∷ body_if (is_among (with_posted ticket x).posted ticket) p ticket (answer.Refused r)) (by (answer.Refused r) (is_among (with_posted ticket x).posted ticket))
    where
      by : (a : Answer) (c : Bool) → list_all is_unasked (item.Posted p ticket path body ∷ item.Reply p ticket a ∷ body_if c p ticket a) ≡ true
      by a true = refl
      by a false = refl
  gain_items _ _ (gains.other after gained e o) = effect_items after gained e o

-- ---- a script

abbrev pub AllCached : List Item → World → Type 0
AllCached items w = AllKnown items w × AllOwned items w (bound_of w)

module _ (script : List Line) (fits : list_all sets_clock_below script ≡ true) (few : length script < 2 ^ 60) where
  lined : (w v : World) (items : List Item) → v.lines ≡ w.lines → AllOwned items v (bound_of w + 1) → AllOwned items (record v { lines = v.lines + 1 }) (bound_of (record v { lines = v.lines + 1 }))
  lined w v items e h p x at =
      let same : bound_of w + 1 ≡ bound_of (record v { lines = v.lines + 1 }) = omega (arith, e) in
      subst (λ (b : ℕ). ProxyOwned v.namespace v.leasing b items v.calls p x) same (h p x at)

  pub cached_kept : IsKept script AllCached
  cached_kept = record {
    begins = λ members namespace leasing. ((all_kept script fits few).begins members namespace leasing, λ p x e. no_place x e);
    goes_on = λ namespace items w l gained n e ok h. (
      (all_kept script fits few).goes_on namespace items w l gained n e ok h.0,
      lined w (done w l).world (items ++ gained) (taken_keeps w l gained e).lines (lived_owned namespace items w (beside script fits few namespace items w l n ok h.0.0) h.0.1 h.1 (done w l).world gained (lived_gain w l gained e)),
    );
  }

  cached_told : AreTailed script AllCached Caches
  cached_told = record {
    grows = grows;
    first = λ members namespace leasing items. tt;
    line = λ namespace items w l gained n e ok h. gain_items namespace items w (beside script fits few namespace items w l n ok h.0.0) h.0.1 h.1 (done w l).world gained (gain w l gained e);
  }

pub each_script_caches : EachScriptCaches
each_script_caches lines fits few shown earlier later p ticket ask s e plain served told live owns =
    every_tail AllCached Caches lines (cached_kept lines fits few) (cached_told lines fits few) shown earlier later (item.Asked p ticket (request.Range ask)) e plain served s told live owns

pub each_script_answers_snapshots : EachScriptAnswersSnapshots
each_script_answers_snapshots lines fits few shown earlier later p ticket t s e leased served snap named told live owns =
    every_tail AllCached Caches lines (cached_kept lines fits few) (cached_told lines fits few) shown earlier later (item.Asked p ticket (request.Txn t)) e leased served snap named s told live owns
