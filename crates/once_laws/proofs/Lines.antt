-- Each line keeps what is known of the writes of each proxy of a world.
use Rattle.std.proofs.Common.{◌≡◌, ◌≢◌, ℕ, ◌+◌, ◌==◌, ◌||◌, Bool, true, false, cond, List, [], ◌∷◌, ◌++◌, append_assoc, length, Option, None, Some, is_some, Result, Ok, Err, refl, sym, ◌∙◌, ap, subst}
use Rattle.std.specs.Prelude.{flat_map}
use Rattle.std.specs.List.{list_all}
use Rattle.std.proofs.lemmas.List.Folds.{list_all-append}
use Rattle.etcd_types.proofs.Bools.{and_both}
use Rattle.etcd_types.specs.declared.answer.Answer.{Answer}
use Rattle.etcd_types.specs.declared.answer.Answer.TheVariants.{Refused}
use Rattle.etcd_types.specs.declared.request.Request.{Request}
use Rattle.etcd_types.specs.declared.request.Request.TheVariants as request
use Rattle.core_model.specs.declared.event.CoreEvent.{CoreEvent}
use Rattle.core_model.specs.declared.event.CoreEvent.TheVariants as event
use Rattle.core_model.specs.declared.event.Job.TheVariants as job
use Rattle.core_model.specs.declared.event.Outcome.{Outcome}
use Rattle.core_model.specs.declared.event.Outcome.TheVariants as outcome
use Rattle.core_model.specs.Fits.{CoreOk}
use Rattle.core_model.specs.State.{Core}
use Rattle.core_model.specs.Step.{is_worn, stepped}
use Rattle.core_laws.proofs.Steps.Stepping.{steps_keep}
use Rattle.owner_fits.specs.Laws.{OwnersFit}
use Rattle.owner_fits.proofs.Runs.{steps_fit}
use Rattle.read_model.specs.declared.asked.Asked.{Asked}
use Rattle.store_model.specs.Step.{exec}
use Rattle.script_text.specs.declared.item.Item.{Item}
use Rattle.script_text.specs.declared.item.Item.TheVariants as item
use Rattle.script_text.specs.declared.line.Line.{Line}
use Rattle.world_model.specs.declared.sent_call.SentCall.{SentCall}
use Rattle.world_model.specs.Gains.{Replies, all_fetched, reply_items}
use Rattle.world_model.specs.Lives.{life, asked_as, is_named}
use Rattle.world_model.specs.Places.{nth, with_nth, is_among, kept_at, place_at, with_place, with_posted, with_call}
use Rattle.world_model.specs.Sends as sends
use Rattle.world_model.specs.Starts.{new_place}
use Rattle.world_model.specs.State.{Numbered, Place, World}
use Rattle.world_model.specs.Transcript.{done}
use Rattle.world_laws.proofs.Effects.{Turn, ticks, asks_it, posts_it, calls, opens, closes, answers, loses, delivers, cuts, takes, waits, leaves, Begins, first, again, Effect, starts, sets, executes, expires, applies, pushes, turns}
use Rattle.world_laws.proofs.Effects as effects
use Rattle.held_laws.proofs.Items.{asked-append, or_later, reply_silent, reply_unasking}
use Rattle.held_laws.proofs.Kept.{nth_itself}
use Rattle.held_laws.proofs.Lines.{start_silent, started_life}
use Rattle.held_laws.proofs.Opens.{last_nth}
use Rattle.held_laws.proofs.Worlds.{equal, no_place, one_place, placed_itself, placed_other, asked_asks, posted_asks}
use Rattle.keep_laws.proofs.Rows.{All, all_kept}
use Rattle.prefix_laws.proofs.Prefixes.{IsKept}
use Rattle.renewed_laws.proofs.Calls.{Counts, work_counts}
use Rattle.renewed_laws.proofs.Gains.{is_other, stepped_to, Gain, gain}
use Rattle.renewed_laws.proofs.Gains as gains
use Rattle.renewed_laws.proofs.Lives.{Lives, IsStill, life_on, lives-append, replies_still, still-append}
use Rattle.renewed_laws.proofs.Lines.{ran_executes}
use Rattle.renewed_laws.proofs.Replies.{Each}
use Rattle.renewed_laws.proofs.Rows.{Row}
use Rattle.renewed_laws.proofs.Stories.{later, Executed, IsExecuted, executed_on, one_more}
use Rattle.renewed_laws.proofs.Turns.{answer_turned, turned}
use Rattle.renewed_laws.proofs.Worlds.{answer_by, answers_of, life_of, WorldOk, Executes, executes_on, same_executes, come_executes, Turned}
use Rattle.executed_laws.proofs.Keeping.{PlaceSent, turn_rows}
use Rattle.executed_laws.proofs.Naming.{Unnamed, Unnaming, unnamed_on, unnaming-append, replies_unnaming, reply_unnaming, taken_unnaming, turn_names, turn_others}
use Rattle.executed_laws.proofs.Sends.{stepped_so, clock_sent, sent_more}
use Rattle.executed_laws.proofs.Worlds.{AllKept, all_kept as kept_all}
use Rattle.once_laws.proofs.Answers.{Holds}
use Rattle.once_laws.proofs.FreeSends.{all_go}
use Rattle.once_laws.proofs.Holds.{NoneOf, DidOf, MostOf, OnlyOf, StillExecuted, still_appended, goes_on, most_still}
use Rattle.once_laws.proofs.OfKinds.{KindsOk, step_kinds}
use Rattle.once_laws.proofs.Sending.{Off, On, IsItself, IsBehind, FreeIn}
use Rattle.once_laws.proofs.Turning.{Before, Behind, quiet, unsent, asked_turn, answered_turn, lost_turn, sent_turn}
use Rattle.once_laws.proofs.Worlds.{Ordered, Stands, Fetches, Told, fetched_holds, PlaceOnce, KnownCall, WorldOnce, Lasting, is_plain, plain_front, replies_plain, turn_plain, same_lasting, changed_lasting, turn_lasting}

-- ---- a proxy that stays

pub later_free : (namespace prefix : List ℕ) (p : ℕ) (items after told more : List Item) (own own' : ℕ → Option ℕ) (c : Core) → StillExecuted namespace prefix p items after → ((n m : ℕ) → own n ≡ Some m → own' n ≡ Some m) → Unnamed p told → Unnaming p more
    → FreeIn namespace prefix p items told own c → FreeIn namespace prefix p after (told ++ more) own' c
later_free namespace prefix p items after told more own own' c s grows u silent h =
    all_go (NoneOf namespace prefix p items told) (DidOf namespace prefix p items told) (MostOf namespace prefix p items told) (OnlyOf namespace prefix p items told own (IsItself prefix)) (OnlyOf namespace prefix p items told own (IsBehind namespace prefix))
    (NoneOf namespace prefix p after (told ++ more)) (DidOf namespace prefix p after (told ++ more)) (MostOf namespace prefix p after (told ++ more)) (OnlyOf namespace prefix p after (told ++ more) own' (IsItself prefix)) (OnlyOf namespace prefix p after (told ++ more) own' (IsBehind namespace prefix))
    (Off prefix) (On prefix) (λ t. goes_on namespace prefix p items after told more own own' s grows t (silent t) (IsItself prefix) (IsBehind namespace prefix) (Off prefix) (On prefix) u) c h

pub later_place : (namespace prefix : List ℕ) (items more : List Item) (q : ℕ) (x : Place) → Lives q more → Unnaming q more → Unnamed q (life q items) → PlaceOnce namespace prefix items q x → PlaceOnce namespace prefix (items ++ more) q x
later_place namespace prefix items more q x l silent u h = record {
  free = subst (λ (told : List Item). FreeIn namespace prefix q (items ++ more) told (nth x.calls) x.core) (sym (life_on q items more l))
      (later_free namespace prefix q items (items ++ more) (life q items) more (nth x.calls) (nth x.calls) x.core (still_appended namespace prefix q items more) (λ n m e. e) u silent h.free);
  kinds = h.kinds;
}

pub later_most : (namespace prefix : List ℕ) (items more : List Item) (q t : ℕ) → IsStill q more → is_named q t more ≡ false → MostOf namespace prefix q items (life q items) t → MostOf namespace prefix q (items ++ more) (life q (items ++ more)) t
later_most namespace prefix items more q t s silent h =
    subst (λ (told : List Item). MostOf namespace prefix q (items ++ more) told t) (sym (life_on q items more s.0)) (most_still namespace prefix q items (items ++ more) (life q items) more t (still_appended namespace prefix q items more) silent s.1 h)

-- ---- what a turn leaves

-- of the proxy that made it, once its replies are fetched
module _ (namespace prefix : List ℕ) (items own : List Item) (w v : World) (p : ℕ) (x y : Place) (e : CoreEvent) (told : Replies) (b : Before namespace prefix items w p x) (t : Turned namespace items own w v p x y e told) (k : Behind namespace prefix items own p x y e told) where
  abbrev z : Place
  z = (all_fetched y told).place

  abbrev rest : List Item
  rest = flat_map (reply_items p (all_fetched y told).place.posted) (all_fetched y told).replies

  stepped_stands : Stands namespace prefix p items (life p items ++ own) (nth y.calls) (stepped x.core e x.clock).core
  stepped_stands =
      let ok = (b.world.places p x b.at).core in
      let order = (clock_sent _ _ _ x.clock x.core b.sent.sent).acquires.order in
      record {
        ok = steps_keep x.core e x.clock t.heard ok;
        owners = steps_fit x.core e x.clock t.heard ok b.owners;
        ordered = stepped_so (λ t n. Unit {0}) (λ t n. Unit {0}) (λ t n. Unit {0}) x.core e x.clock ok (λ w. record { ask = λ a f s. tt; acquire = λ i a f d s. tt; write = λ i u f s. tt })
            (sent_more _ _ _ (λ t n. Unit {0}) (λ t n. Unit {0}) (λ t n. Unit {0}) (λ t n h. tt) (λ t n h. tt) (λ t n h. tt) x.core b.sent.sent);
        kinds = step_kinds x.core e x.clock t.heard ok b.owners order b.kinds;
        free = k.free;
        known = all_kept (Row (later (life_of namespace w.calls items p x) (nth y.calls) (answers_of v.calls) own)) (λ a. asked_as p a.ticket (life p items ++ own) ≡ Some a.request) (λ a r. r.asked) (stepped x.core e x.clock).core.asks (turn_rows namespace items own w v p x y e told b.world t);
      }

  pub fetches : Fetches namespace prefix p items (life p items ++ own) (nth y.calls) y (all_fetched y told).place (all_fetched y told).replies
  fetches = fetched_holds namespace prefix p items (life p items ++ own) (nth y.calls) (length y.core.asks) y told (subst (Stands namespace prefix p items (life p items ++ own) (nth y.calls)) (sym t.core) stepped_stands) k.tells

  now_unnamed : ((i : ℕ) → i ≢ 0 → asked_as p i (life p items) ≡ None → is_named p i own ≡ false) → Unnamed p (life p items ++ own)
  now_unnamed n = unnamed_on p (life p items) own b.sent.unnamed n

  still : life p (items ++ (own ++ rest)) ≡ (life p items ++ own) ++ rest
  still = life_on p items (own ++ rest) (lives-append p own rest (t.lives p) (replies_still p p (all_fetched y told).place.posted (all_fetched y told).replies).0) ∙ sym (append_assoc (life p items) own rest)

  pub own_place : ((i : ℕ) → i ≢ 0 → asked_as p i (life p items) ≡ None → is_named p i own ≡ false) → PlaceOnce namespace prefix (items ++ (own ++ rest)) p (all_fetched y told).place
  own_place n =
      let f = fetches in
      record {
        free = subst (λ (xs : List Item). FreeIn namespace prefix p (items ++ (own ++ rest)) xs (nth z.calls) z.core) (sym still)
            (later_free namespace prefix p items (items ++ (own ++ rest)) (life p items ++ own) rest (nth y.calls) (nth z.calls) z.core (still_appended namespace prefix p items (own ++ rest)) (λ i m g. ap (λ (ns : List ℕ). nth ns i) f.calls ∙ g) (now_unnamed n)
            (replies_unnaming p p (all_fetched y told).place.posted (all_fetched y told).replies) f.core.free);
        kinds = f.core.kinds;
      }

  -- with the executions before the turn
  pub own_most : (i : ℕ) → MostOf namespace prefix p items (life p items) i → MostOf namespace prefix p items (life p items ++ (own ++ rest)) i
  own_most i m =
      subst (λ (xs : List Item). MostOf namespace prefix p items xs i) (append_assoc (life p items) own rest)
      (most_still namespace prefix p items items (life p items ++ own) rest i (λ call a e. e) (replies_unnaming p p (all_fetched y told).place.posted (all_fetched y told).replies i)
      (replies_still p p (all_fetched y told).place.posted (all_fetched y told).replies).1 (k.most i m))

-- of another
pub other_most : (namespace prefix : List ℕ) (items more : List Item) (q i : ℕ) → IsStill q more → Unnaming q more → MostOf namespace prefix q items (life q items) i → MostOf namespace prefix q items (life q items ++ more) i
other_most namespace prefix items more q i s silent m = most_still namespace prefix q items items (life q items) more i (λ call a e. e) (silent i) s.1 m

pub most_appended : (namespace prefix : List ℕ) (q : ℕ) (items more told : List Item) (i : ℕ) → MostOf namespace prefix q items told i → MostOf namespace prefix q (items ++ more) told i
most_appended namespace prefix q items more told i m =
    subst (λ (xs : List Item). MostOf namespace prefix q (items ++ more) xs i) (Rattle.std.proofs.Common.append-nil told)
    (most_still namespace prefix q items (items ++ more) told [] i (still_appended namespace prefix q items more) refl (λ j. refl) m)

-- what a turn leaves of every proxy, by the executions before it
pub record Leaves (namespace prefix : List ℕ) (items gained : List Item) : Type 0 where
  pub lives : (q : ℕ) → Lives q gained
  pub most : (q i : ℕ) → MostOf namespace prefix q items (life q items ++ gained) i

pub most_now : (namespace prefix : List ℕ) (items gained : List Item) → Leaves namespace prefix items gained → (q i : ℕ) → MostOf namespace prefix q (items ++ gained) (life q (items ++ gained)) i
most_now namespace prefix items gained l q i =
    subst (λ (told : List Item). MostOf namespace prefix q (items ++ gained) told i) (sym (life_on q items gained (l.lives q))) (most_appended namespace prefix q items gained (life q items ++ gained) i (l.most q i))

pub once_on : (items gained : List Item) (w v : World) → list_all is_plain gained ≡ true → Lasting w v → ((call : ℕ) (a : Answer) → Executed call a items → KnownCall w call) → (call : ℕ) (a : Answer) → Executed call a (items ++ gained) → KnownCall v call
once_on items gained w v plain last h call a e = last call (h call a (plain_front items gained call a plain e))

-- the names of a turn's items
pub record TurnOk (namespace prefix : List ℕ) (items own : List Item) (w v : World) (p : ℕ) (x y : Place) (e : CoreEvent) (told : Replies) : Type 0 where
  pub before : Before namespace prefix items w p x
  pub turned : Turned namespace items own w v p x y e told
  pub behind : Behind namespace prefix items own p x y e told
  pub names : (i : ℕ) → i ≢ 0 → asked_as p i (life p items) ≡ None → is_named p i own ≡ false
  pub others : (q : ℕ) → (q == p) ≡ false → Unnaming q own
  pub plain : list_all is_plain own ≡ true
  pub lasting : Lasting w v

pub turn_leaves : (namespace prefix : List ℕ) (items own : List Item) (w v : World) (p : ℕ) (x y : Place) (e : CoreEvent) (told : Replies) → TurnOk namespace prefix items own w v p x y e told → WorldOnce namespace prefix items w
    → let f = all_fetched y told in Leaves namespace prefix items (own ++ flat_map (reply_items p f.place.posted) f.replies)
turn_leaves namespace prefix items own w v p x y e told t h =
    let f = all_fetched y told in
    let rest = flat_map (reply_items p f.place.posted) f.replies in
    record {
      lives = λ q. lives-append q own rest (t.turned.lives q) (replies_still q p f.place.posted f.replies).0;
      most = λ q i. by q (q == p) refl i;
    }
  where
    by : (q : ℕ) (b : Bool) → (q == p) ≡ b → (i : ℕ) → MostOf namespace prefix q items (life q items ++ (own ++ flat_map (reply_items p (all_fetched y told).place.posted) (all_fetched y told).replies)) i
    by q true n i =
        subst (λ (j : ℕ). MostOf namespace prefix j items (life j items ++ (own ++ flat_map (reply_items p (all_fetched y told).place.posted) (all_fetched y told).replies)) i) (sym (equal q p n))
        (own_most namespace prefix items own w v p x y e told t.before t.turned t.behind i (h.most p i))
    by q false n i =
        other_most namespace prefix items (own ++ flat_map (reply_items p (all_fetched y told).place.posted) (all_fetched y told).replies) q i
        (still-append q own (flat_map (reply_items p (all_fetched y told).place.posted) (all_fetched y told).replies) (t.turned.lives q, t.turned.unasking q n) (replies_still q p (all_fetched y told).place.posted (all_fetched y told).replies))
        (unnaming-append q own (flat_map (reply_items p (all_fetched y told).place.posted) (all_fetched y told).replies) (t.others q n) (replies_unnaming q p (all_fetched y told).place.posted (all_fetched y told).replies)) (h.most q i)

pub turn_once : (namespace prefix : List ℕ) (items own : List Item) (w v : World) (p : ℕ) (x y : Place) (e : CoreEvent) (told : Replies) → TurnOk namespace prefix items own w v p x y e told → ((q : ℕ) (a : Place) → place_at w q ≡ Some a → Unnamed q (life q items)) → WorldOnce namespace prefix items w
    → let f = all_fetched y told in WorldOnce namespace prefix (items ++ (own ++ flat_map (reply_items p f.place.posted) f.replies)) (with_place v p f.place)
turn_once namespace prefix items own w v p x y e told t unnamed h = record {
  places = λ q a at. by q a at (q == p) refl;
  most = most_now namespace prefix items gained (turn_leaves namespace prefix items own w v p x y e told t h);
  executed = λ call. executes_on w.calls v.calls own rest (come_executes w.calls v.calls p x.life y.calls own t.turned.calls) call items (h.executed call);
  once = λ call a k.
      let known = once_on items gained w v (list_all-append is_plain own rest ∙ and_both (list_all is_plain own) (list_all is_plain rest) t.plain (replies_plain p (all_fetched y told).place.posted (all_fetched y told).replies)) t.lasting h.once call a k in
      record { sent = known.sent; there = known.there; done = known.done };
}
  where
    rest : List Item
    rest = flat_map (reply_items p (all_fetched y told).place.posted) (all_fetched y told).replies

    gained : List Item
    gained = own ++ flat_map (reply_items p (all_fetched y told).place.posted) (all_fetched y told).replies

    by : (q : ℕ) (a : Place) → place_at (with_place v p (all_fetched y told).place) q ≡ Some a → (b : Bool) → (q == p) ≡ b → PlaceOnce namespace prefix (items ++ (own ++ flat_map (reply_items p (all_fetched y told).place.posted) (all_fetched y told).replies)) q a
    by q a at true n =
        let there : q ≡ p = equal q p n in
        let one : (all_fetched y told).place ≡ a = one_place (all_fetched y told).place a (sym (placed_itself w v p (all_fetched y told).place) ∙ ap (place_at (with_place v p (all_fetched y told).place)) (sym there) ∙ at) in
        subst (λ (j : ℕ). PlaceOnce namespace prefix (items ++ (own ++ flat_map (reply_items p (all_fetched y told).place.posted) (all_fetched y told).replies)) j a) (sym there)
        (subst (PlaceOnce namespace prefix (items ++ (own ++ flat_map (reply_items p (all_fetched y told).place.posted) (all_fetched y told).replies)) p) one (own_place namespace prefix items own w v p x y e told t.before t.turned t.behind t.names))
    by q a at false n =
        let there : place_at w q ≡ Some a = sym (placed_other w v p q (all_fetched y told).place t.turned.places n) ∙ at in
        later_place namespace prefix items (own ++ flat_map (reply_items p (all_fetched y told).place.posted) (all_fetched y told).replies) q a
        (lives-append q own (flat_map (reply_items p (all_fetched y told).place.posted) (all_fetched y told).replies) (t.turned.lives q) (replies_still q p (all_fetched y told).place.posted (all_fetched y told).replies).0)
        (unnaming-append q own (flat_map (reply_items p (all_fetched y told).place.posted) (all_fetched y told).replies) (t.others q n) (replies_unnaming q p (all_fetched y told).place.posted (all_fetched y told).replies)) (unnamed q a there) (h.places q a there)
