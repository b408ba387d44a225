-- What is out at each proxy of a world was sent for the request that it names, by the items that told of it: each line keeps that.
use Rattle.std.proofs.Common.{◌≡◌, ◌≢◌, ℕ, ◌+◌, ◌==◌, Bool, true, false, List, [], ◌∷◌, ◌++◌, append_assoc, length, Option, None, Some, Ok, refl, sym, ◌∙◌, ap, subst}
use Rattle.std.specs.Prelude.{flat_map}
use Rattle.etcd_types.specs.declared.answer.Answer.{Answer}
use Rattle.etcd_types.specs.declared.request.Request.{Request}
use Rattle.etcd_types.specs.declared.request.Request.TheVariants as request
use Rattle.core_model.specs.declared.event.CoreEvent.{CoreEvent}
use Rattle.core_model.specs.declared.event.CoreEvent.TheVariants as event
use Rattle.core_model.specs.declared.event.Job.TheVariants as job
use Rattle.core_model.specs.declared.event.Outcome.{Outcome}
use Rattle.core_model.specs.declared.event.Outcome.TheVariants as outcome
use Rattle.core_model.specs.ClockWork.{clock_work}
use Rattle.core_model.specs.Fits.{CoreOk}
use Rattle.core_model.specs.State.{Core}
use Rattle.core_model.specs.Step.{stepped}
use Rattle.core_laws.proofs.Steps.Staying.{steps_stay}
use Rattle.core_laws.proofs.Steps.Stepping.{steps_keep}
use Rattle.core_fits.specs.Fits.{WritesAreAsked}
use Rattle.script_text.specs.declared.item.Item.{Item}
use Rattle.world_model.specs.declared.sent_call.SentCall.{SentCall}
use Rattle.world_model.specs.Gains.{Replies, all_fetched, reply_items}
use Rattle.world_model.specs.Lives.{life, asked_as, is_named}
use Rattle.world_model.specs.Places.{nth, kept_at, place_at, with_place}
use Rattle.world_model.specs.Sends.{next_call, new_call}
use Rattle.world_model.specs.Starts.{new_place}
use Rattle.world_model.specs.State.{Numbered, Place, World}
use Rattle.world_laws.proofs.Effects.{Turn, ticks, asks_it, posts_it, calls, opens, closes, answers, loses, delivers, cuts, takes, waits, leaves}
use Rattle.held_laws.proofs.Opens.{last_nth}
use Rattle.held_laws.proofs.Worlds.{equal, one_place, placed_itself, placed_other}
use Rattle.keep_laws.proofs.Rows.{All}
use Rattle.prefix_laws.proofs.Places.{fetched_so}
use Rattle.renewed_laws.proofs.Calls.{Counts, work_counts}
use Rattle.renewed_laws.proofs.Fetching.{FetchedOk, all_fetched_ok}
use Rattle.renewed_laws.proofs.Gains.{stepped_to}
use Rattle.renewed_laws.proofs.Lives.{Lives, IsStill, life_on, lives-append, replies_still, still-append}
use Rattle.renewed_laws.proofs.Rows.{Row, rows_step}
use Rattle.renewed_laws.proofs.Stories.{Life, later, GoesOn, executed_on}
use Rattle.renewed_laws.proofs.Worlds.{answer_by, answers_of, life_of, WorldOk, Executes, executes_on, same_executes, come_executes, Turned}
use Rattle.executed_laws.proofs.Naming.{Unnamed, Unnaming, unnamed_on, unnaming-append, replies_unnaming}
use Rattle.executed_laws.proofs.Reading.{WaitsSo}
use Rattle.executed_laws.proofs.Turning.{NamedWait, later_wait, turn_wait, take_wait}
use Rattle.executed_laws.proofs.Sends.{AllSent, sent_more, SendsSo, stepped_so}
use Rattle.executed_laws.proofs.Stories.{SentFor, sent_on}
use Rattle.executed_laws.proofs.Turns.{IsPassedOn, IsAcquire, IsGuarded, Sent, none_sent, begin_no_call, close_no_call, call_sends}

-- ---- a life goes on

pub life_sent : (prefix : List ℕ) (l : Life) (own : ℕ → Option ℕ) (answers : ℕ → Option Answer) (more : List Item) (c : Core) → GoesOn l own answers more → Sent prefix l c → Sent prefix (later l own answers more) c
life_sent prefix l own to more c g h =
    let m = later l own to more in
    sent_more (SentFor (IsPassedOn l.namespace) l) (SentFor (IsAcquire l.namespace prefix) l) (SentFor (IsGuarded l.namespace prefix) l)
    (SentFor (IsPassedOn l.namespace) m) (SentFor (IsAcquire l.namespace prefix) m) (SentFor (IsGuarded l.namespace prefix) m)
    (sent_on (IsPassedOn l.namespace) l own to more g) (sent_on (IsAcquire l.namespace prefix) l own to more g) (sent_on (IsGuarded l.namespace prefix) l own to more g) c h

-- of a proxy that stays
later_sent : (prefix namespace : List ℕ) (calls after : List SentCall) (items more : List Item) (p : ℕ) (x : Place) → IsStill p more → Executes calls after more → Sent prefix (life_of namespace calls items p x) x.core
    → Sent prefix (life_of namespace after (items ++ more) p x) x.core
later_sent prefix namespace sent after items more p x s g h =
    subst (λ (told : List Item). Sent prefix (record { namespace = namespace; proxy = p; own = nth x.calls; answers = answers_of after; told = told }) x.core) (sym (life_on p items more s.0))
    (life_sent prefix (life_of namespace sent items p x) (nth x.calls) (answers_of after) more x.core (record { numbered = λ n m e. e; executed = g }) h)

-- ---- a turn of the proxy

pub turn_sends : (prefix namespace : List ℕ) (items : List Item) (w : World) (p : ℕ) (x : Place) (e : CoreEvent) (o : Outcome) (v : World) (y : Place) (own : List Item) (told : Replies) → WorldOk namespace items w → place_at w p ≡ Some x
    → (stepped x.core e x.clock).outcome ≡ Ok o → WritesAreAsked x.core → x.core.own.waits.prefix ≡ prefix → Turn w p (stepped_to x e) e o v y own told → e ≡ event.Work
    → let m = later (life_of namespace w.calls items p x) (nth y.calls) (answers_of v.calls) own in
    SendsSo (SentFor (IsPassedOn namespace) m) (SentFor (IsAcquire namespace prefix) m) (SentFor (IsGuarded namespace prefix) m) (clock_work x.clock x.core) (stepped x.core e x.clock).outcome
turn_sends prefix namespace items w p x _ _ _ _ _ _ h at is fits n (ticks o) f = absurd (cc)
turn_sends prefix namespace items w p x _ _ _ _ _ _ h at is fits n (asks_it ticket q o t) f = absurd (cc)
turn_sends prefix namespace items w p x _ _ _ _ _ _ h at is fits n (posts_it ticket path body q o t) f = absurd (cc)
turn_sends prefix namespace items w p x _ _ _ _ _ _ h at is fits n (calls own member ticket q) f =
    let k = h.places p x at in
    let sent = new_call p (stepped_to x event.Work) own member q in
    let counts : Counts x.core (stepped x.core event.Work x.clock).core (Ok (outcome.Job (Some (job.Call own member ticket q)))) = subst (Counts x.core (stepped x.core event.Work x.clock).core) is (work_counts x.core x.clock) in
    let own_is : own ≡ length x.calls + 1 = counts.0 ∙ ap (λ (i : ℕ). i + 1) (sym k.count) in
    let placed : nth (x.calls ++ next_call w ∷ []) own ≡ Some (next_call w) = ap (nth (x.calls ++ next_call w ∷ [])) own_is ∙ last_nth x.calls (next_call w) in
    call_sends prefix (life_of namespace w.calls items p x) (nth (x.calls ++ next_call w ∷ [])) (answers_of (w.calls ++ sent ∷ [])) x.core x.clock (next_call w) own member ticket q _ is k.core fits k.namespace_is n k.rows placed
    (ap answer_by (last_nth w.calls sent))
turn_sends prefix namespace items w p x _ _ _ _ _ _ h at is fits n (opens own member ask) f = none_sent _ _ _ (clock_work x.clock x.core) _ _ is (begin_no_call own member (request.Watch ask))
turn_sends prefix namespace items w p x _ _ _ _ _ _ h at is fits n (closes own number e) f = none_sent _ _ _ (clock_work x.clock x.core) _ _ is (close_no_call own)
turn_sends prefix namespace items w p x _ _ _ _ _ _ h at is fits n (answers number call a o e k) f = absurd (cc)
turn_sends prefix namespace items w p x _ _ _ _ _ _ h at is fits n (loses number call o e) f = absurd (cc)
turn_sends prefix namespace items w p x _ _ _ _ _ _ h at is fits n (delivers number s i more o a b c d e) f = absurd (cc)
turn_sends prefix namespace items w p x _ _ _ _ _ _ h at is fits n (cuts number s o a b c d) f = absurd (cc)
turn_sends prefix namespace items w p x _ _ _ _ _ _ h at is fits n (takes ticket i) f = absurd (cc)
turn_sends prefix namespace items w p x _ _ _ _ _ _ h at is fits n (waits ticket o t) f = absurd (cc)
turn_sends prefix namespace items w p x _ _ _ _ _ _ h at is fits n (leaves ticket o) f = absurd (cc)

pub turn_goes_on : (namespace : List ℕ) (items own : List Item) (w v : World) (p : ℕ) (x y : Place) (e : CoreEvent) (told : Replies) → Turned namespace items own w v p x y e told
    → GoesOn (life_of namespace w.calls items p x) (nth y.calls) (answers_of v.calls) own
turn_goes_on namespace items own w v p x y e told t = record { numbered = t.grows; executed = come_executes w.calls v.calls p x.life y.calls own t.calls }

-- what is known of the requests behind the step
pub turn_rows : (namespace : List ℕ) (items own : List Item) (w v : World) (p : ℕ) (x y : Place) (e : CoreEvent) (told : Replies) → WorldOk namespace items w → Turned namespace items own w v p x y e told
    → All (Row (later (life_of namespace w.calls items p x) (nth y.calls) (answers_of v.calls) own)) (stepped x.core e x.clock).core.asks
turn_rows namespace items own w v p x y e told h t =
    let k = h.places p x t.at in
    rows_step (life_of namespace w.calls items p x) (nth y.calls) (answers_of v.calls) own e x.clock x.core (turn_goes_on namespace items own w v p x y e told t) k.core t.brings k.rows

take_no_work : (ticket : ℕ) → event.Take ticket ≡ event.Work → ⊥
take_no_work ticket e = absurd (cc)

-- a call that the step sends is sent for the request that it names
abbrev pub Sending : List ℕ → Life → Core → CoreEvent → ℕ → Type 0
Sending prefix m c e now =
    e ≡ event.Work → SendsSo (SentFor (IsPassedOn m.namespace) m) (SentFor (IsAcquire m.namespace prefix) m) (SentFor (IsGuarded m.namespace prefix) m) (clock_work now c) (stepped c e now).outcome

turn_sent : (prefix namespace : List ℕ) (items own : List Item) (w v : World) (p : ℕ) (x y : Place) (e : CoreEvent) (told : Replies) → WorldOk namespace items w → (t : Turned namespace items own w v p x y e told)
    → Sending prefix (later (life_of namespace w.calls items p x) (nth y.calls) (answers_of v.calls) own) x.core e x.clock → Sent prefix (life_of namespace w.calls items p x) x.core
    → let z = (all_fetched y told).place in Sent prefix (life_of namespace v.calls (items ++ (own ++ flat_map (reply_items p z.posted) (all_fetched y told).replies)) p z) z.core
turn_sent prefix namespace items own w v p x y e told h t sends s =
    let z = (all_fetched y told).place in
    let rest = flat_map (reply_items p z.posted) (all_fetched y told).replies in
    let quiet = replies_still p p z.posted (all_fetched y told).replies in
    let k = h.places p x t.at in
    let l = life_of namespace w.calls items p x in
    let m = later l (nth y.calls) (answers_of v.calls) own in
    let A = SentFor (IsPassedOn namespace) m in
    let K = SentFor (IsAcquire namespace prefix) m in
    let W = SentFor (IsGuarded namespace prefix) m in
    let ok = steps_keep x.core e x.clock t.heard k.core in
    let rows = turn_rows namespace items own w v p x y e told h t in
    let f : FetchedOk m y (all_fetched y told) = all_fetched_ok m y told (subst CoreOk (sym t.core) ok) (subst (λ (c : Core). All (Row m) c.asks) (sym t.core) rows) t.replies in
    let more : AllSent A K W x.core = life_sent prefix l (nth y.calls) (answers_of v.calls) own x.core (turn_goes_on namespace items own w v p x y e told t) s in
    let after : AllSent A K W (stepped x.core e x.clock).core = stepped_so A K W x.core e x.clock k.core sends more in
    let both = fetched_so (λ c. CoreOk c × AllSent A K W c) (λ c ticket now b. (steps_keep c (event.Take ticket) now tt b.0, stepped_so A K W c (event.Take ticket) now b.0 (λ g. absurd (take_no_work ticket g)) b.1)) (length y.core.asks) y told
    (subst (λ (c : Core). CoreOk c × AllSent A K W c) (sym t.core) (ok, after)) in
    let still : life p (items ++ (own ++ rest)) ≡ (life p items ++ own) ++ rest = life_on p items (own ++ rest) (lives-append p own rest (t.lives p) quiet.0) ∙ sym (append_assoc (life p items) own rest) in
    subst (λ (told : List Item). Sent prefix (record { namespace = namespace; proxy = p; own = nth z.calls; answers = answers_of v.calls; told = told }) z.core) (sym still)
    (life_sent prefix m (nth z.calls) (answers_of v.calls) rest z.core
    (record { numbered = λ n i g. ap (λ (ns : List ℕ). nth ns n) f.calls ∙ g; executed = λ n xs g. executed_on n (answers_of v.calls n) xs rest g }) both.1)

-- ---- places

pub record PlaceSent (namespace prefix : List ℕ) (calls : List SentCall) (items : List Item) (p : ℕ) (x : Place) : Type 0 where
  pub prefixed : x.core.own.waits.prefix ≡ prefix
  pub sent : Sent prefix (life_of namespace calls items p x) x.core
  pub unnamed : Unnamed p (life p items)
  pub waits : NamedWait p (life p items) x.core

abbrev pub PlacesSent : List ℕ → List ℕ → List SentCall → List Item → World → Type 0
PlacesSent namespace prefix sent items w = (p : ℕ) (x : Place) → place_at w p ≡ Some x → PlaceSent namespace prefix sent items p x

later_unnamed : (items more : List Item) (q : ℕ) → Lives q more → Unnaming q more → Unnamed q (life q items) → Unnamed q (life q (items ++ more))
later_unnamed items more q l silent h = subst (Unnamed q) (sym (life_on q items more l)) (unnamed_on q (life q items) more h (λ t n e. silent t))

-- one is put anew
pub placed_sent : (namespace prefix : List ℕ) (items more : List Item) (w v : World) (p : ℕ) (z : Place) → v.places ≡ w.places → ((q : ℕ) → (q == p) ≡ false → IsStill q more) → ((q : ℕ) → (q == p) ≡ false → Unnaming q more)
    → Executes w.calls v.calls more → PlacesSent namespace prefix w.calls items w → PlaceSent namespace prefix v.calls (items ++ more) p z → PlacesSent namespace prefix v.calls (items ++ more) (with_place v p z)
placed_sent namespace prefix items more w v p z same quiet silent g h k q y e = by (q == p) refl
  where
    by : (b : Bool) → (q == p) ≡ b → PlaceSent namespace prefix v.calls (items ++ more) q y
    by true n =
        let there : q ≡ p = equal q p n in
        let one : z ≡ y = one_place z y (sym (placed_itself w v p z) ∙ ap (place_at (with_place v p z)) (sym there) ∙ e) in
        subst (λ (j : ℕ). PlaceSent namespace prefix v.calls (items ++ more) j y) (sym there) (subst (PlaceSent namespace prefix v.calls (items ++ more) p) one k)
    by false n =
        let was = h q y (sym (placed_other w v p q z same n) ∙ e) in
        record { prefixed = was.prefixed; sent = later_sent prefix namespace w.calls v.calls items more q y (quiet q n) g was.sent; unnamed = later_unnamed items more q (quiet q n).0 (silent q n) was.unnamed; waits = later_wait items more q y.core (quiet q n).0 (silent q n) was.waits }

-- none is
pub stay_sent : (namespace prefix : List ℕ) (items more : List Item) (w after : World) → after.places ≡ w.places → ((q : ℕ) → IsStill q more) → ((q : ℕ) → Unnaming q more) → Executes w.calls after.calls more → PlacesSent namespace prefix w.calls items w
    → PlacesSent namespace prefix after.calls (items ++ more) after
stay_sent namespace prefix items more w after same quiet silent g h q y e =
    let was = h q y (ap (λ (ps : Numbered Place). kept_at ps q) (sym same) ∙ e) in
    record { prefixed = was.prefixed; sent = later_sent prefix namespace w.calls after.calls items more q y (quiet q) g was.sent; unnamed = later_unnamed items more q (quiet q).0 (silent q) was.unnamed; waits = later_wait items more q y.core (quiet q).0 (silent q) was.waits }

-- one changes in nothing that is known
pub same_sent : (namespace prefix : List ℕ) (items more : List Item) (w : World) (p : ℕ) (x z : Place) → place_at w p ≡ Some x → z.core ≡ x.core → z.calls ≡ x.calls → ((q : ℕ) → IsStill q more) → ((q : ℕ) → Unnaming q more) → PlacesSent namespace prefix w.calls items w
    → PlacesSent namespace prefix w.calls (items ++ more) (with_place w p z)
same_sent namespace prefix items more w p x z at core sent quiet silent h =
    let was = h p x at in
    let now = later_sent prefix namespace w.calls w.calls items more p x (quiet p) (same_executes w.calls more) was.sent in
    placed_sent namespace prefix items more w w p z refl (λ q n. quiet q) (λ q n. silent q) (same_executes w.calls more) h (record {
      prefixed = ap (λ (c : Core). c.own.waits.prefix) core ∙ was.prefixed;
      sent = subst (λ (c : Core). Sent prefix (life_of namespace w.calls (items ++ more) p z) c) (sym core)
          (subst (λ (ns : List ℕ). Sent prefix (record { namespace = namespace; proxy = p; own = nth ns; answers = answers_of w.calls; told = life p (items ++ more) }) x.core) (sym sent) now);
      unnamed = later_unnamed items more p (quiet p).0 (silent p) was.unnamed;
      waits = subst (NamedWait p (life p (items ++ more))) (sym core) (later_wait items more p x.core (quiet p).0 (silent p) was.waits);
    })

-- a start
pub new_sent_place : (namespace : List ℕ) (items : List Item) (w : World) (p clock life' : ℕ) → life p items ≡ [] → PlaceSent namespace w.leasing w.calls items p (new_place w clock life')
new_sent_place namespace items w p clock life' e = record {
  prefixed = refl;
  sent = record { asks = tt; acquires = record { order = refl; sent = λ k number x e o. absurd (cc) }; writes = tt };
  unnamed = λ t n none. ap (is_named p t) e;
  waits = λ t n named. tt;
}

-- a turn
pub turn_placed : (prefix namespace : List ℕ) (items own : List Item) (w v : World) (p : ℕ) (x y : Place) (e : CoreEvent) (told : Replies) → WorldOk namespace items w → (t : Turned namespace items own w v p x y e told)
    → Sending prefix (later (life_of namespace w.calls items p x) (nth y.calls) (answers_of v.calls) own) x.core e x.clock
    → ((t : ℕ) → t ≢ 0 → asked_as p t (life p items) ≡ None → is_named p t own ≡ false) → ((q : ℕ) → (q == p) ≡ false → Unnaming q own)
    → ((ticket word : ℕ) (q : Request) → e ≡ event.Ask ticket q word → asked_as p ticket (life p items) ≡ None) → ((t : ℕ) → t ≢ 0 → is_named p t own ≡ true → WaitsSo t (stepped x.core e x.clock).core)
    → PlacesSent namespace prefix w.calls items w
    → let f = all_fetched y told in PlacesSent namespace prefix v.calls (items ++ (own ++ flat_map (reply_items p f.place.posted) f.replies)) (with_place v p f.place)
turn_placed prefix namespace items own w v p x y e told h t sends names others free new s =
    let z = (all_fetched y told).place in
    let rest = flat_map (reply_items p z.posted) (all_fetched y told).replies in
    let was = s p x t.at in
    let k = h.places p x t.at in
    let named = life p items ++ own in
    let waited : NamedWait p named (stepped x.core e x.clock).core = turn_wait p (life p items) own x.core e x.clock k.core was.unnamed free new was.waits in
    let both = fetched_so (λ c. CoreOk c × NamedWait p named c) (λ c ticket now b. (steps_keep c (event.Take ticket) now tt b.0, take_wait p named c ticket now b.0 b.1)) (length y.core.asks) y told
    (subst (λ (c : Core). CoreOk c × NamedWait p named c) (sym t.core) (steps_keep x.core e x.clock t.heard k.core, waited)) in
    let prefixed : y.core.own.waits.prefix ≡ prefix = ap (λ (c : Core). c.own.waits.prefix) t.core ∙ (steps_stay x.core e x.clock).prefix ∙ was.prefixed in
    placed_sent namespace prefix items (own ++ rest) w v p z t.places (λ q n. still-append q own rest (t.lives q, t.unasking q n) (replies_still q p z.posted (all_fetched y told).replies))
    (λ q n. unnaming-append q own rest (others q n) (replies_unnaming q p z.posted (all_fetched y told).replies))
    (executes_on w.calls v.calls own rest (come_executes w.calls v.calls p x.life y.calls own t.calls)) s
    (record {
      prefixed = fetched_so (λ c. c.own.waits.prefix ≡ prefix) (λ c ticket now k. (steps_stay c (event.Take ticket) now).prefix ∙ k) (length y.core.asks) y told prefixed;
      sent = turn_sent prefix namespace items own w v p x y e told h t sends was.sent;
      unnamed = subst (λ (xs : List Item). Unnamed p (life p xs)) (append_assoc items own rest)
          (later_unnamed (items ++ own) rest p (replies_still p p z.posted (all_fetched y told).replies).0 (replies_unnaming p p z.posted (all_fetched y told).replies)
          (subst (Unnamed p) (sym (life_on p items own (t.lives p))) (unnamed_on p (life p items) own was.unnamed names)));
      waits = subst (λ (xs : List Item). NamedWait p (life p xs) z.core) (append_assoc items own rest)
          (later_wait (items ++ own) rest p z.core (replies_still p p z.posted (all_fetched y told).replies).0 (replies_unnaming p p z.posted (all_fetched y told).replies)
          (subst (λ (xs : List Item). NamedWait p xs z.core) (sym (life_on p items own (t.lives p))) both.1));
    })
