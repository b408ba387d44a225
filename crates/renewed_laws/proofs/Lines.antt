-- Every line of a script keeps what is known of its proxies' requests, and tells only right replies.
use Rattle.std.proofs.Common.{◌≡◌, ◌⊎◌, inl, inr, ℕ, ◌+◌, ◌-◌, ◌==◌, Bool, true, false, cond, List, [], ◌∷◌, ◌++◌, length, slice_get, Option, None, Some, Result, Ok, Err, refl, sym, ◌∙◌, ap, subst, arith}
use Rattle.std.specs.Prelude.{flat_map}
use Rattle.etcd_types.specs.declared.answer.Answer.{Answer}
use Rattle.etcd_types.specs.declared.answer.Answer.TheVariants.{Refused}
use Rattle.etcd_types.specs.declared.answer.Refusal.{Refusal}
use Rattle.etcd_types.proofs.Bools.{and_first}
use Rattle.store_model.specs.Step.{exec}
use Rattle.core_laws.specs.Steps.Kept.{HeardBytes}
use Rattle.core_laws.proofs.Steps.Start.{start_fits}
use Rattle.core_model.specs.declared.event.CoreEvent.TheVariants as event
use Rattle.core_model.specs.Fits.{CoreOk}
use Rattle.core_model.specs.Heard.{heard}
use Rattle.core_model.specs.State.{Core}
use Rattle.script_text.specs.declared.item.Item.{Item}
use Rattle.script_text.specs.declared.item.Item.TheVariants as item
use Rattle.script_text.specs.declared.line.Line.{Line}
use Rattle.script_text.specs.declared.line.Line.TheVariants as line
use Rattle.world_model.specs.declared.fault.LineRefusal.{LineRefusal}
use Rattle.world_model.specs.declared.sent_call.SentCall.{SentCall}
use Rattle.world_model.specs.Gains.{all_fetched, reply_items}
use Rattle.world_model.specs.Lives.{life, asked_as, namespace_of}
use Rattle.world_model.specs.Places.{nth, with_nth, kept_at, place_at, is_among, with_place, with_posted, with_call}
use Rattle.world_model.specs.Starts.{settings, new_place}
use Rattle.world_model.specs.State.{Numbered, Place, World, starting_world}
use Rattle.world_model.specs.Transcript.{Taken, done, counted_as, taken, items_and_then, transcript_from, transcript}
use Rattle.world_laws.proofs.Effects.{Begins, first, again, Effect, starts, sets, refuses_post as refuses, executes, expires, applies, pushes, turns}
use Rattle.held_laws.proofs.Items.{reply_silent, reply_unasking}
use Rattle.held_laws.proofs.Kept.{nth_itself, nth_other, not_among}
use Rattle.held_laws.proofs.Lines.{start_silent, started_life}
use Rattle.held_laws.proofs.Worlds.{equal, no_place, placed_other, nth_changed}
use Rattle.keep_laws.proofs.Rows.{All}
use Rattle.renewed_laws.specs.Renewals.{answer_shows, AnswersShowBytes}
use Rattle.renewed_laws.specs.Laws.{EachScriptsKeepalivesRenew}
use Rattle.renewed_laws.proofs.Gains.{is_other, stepped_to, Gain, answers, refuses_post, other, gain}
use Rattle.renewed_laws.proofs.Lives.{IsStill, still-append}
use Rattle.renewed_laws.proofs.Replies.{ReplyOk}
use Rattle.renewed_laws.proofs.Rows.{Row}
use Rattle.renewed_laws.proofs.Stories.{IsExecuted, executed_on}
use Rattle.renewed_laws.proofs.Hearing.{heard_bytes, show-split}
use Rattle.renewed_laws.proofs.Telling.{AllTell, told-append, reply_tells, all_renew}
use Rattle.renewed_laws.proofs.Turns.{answer_turned, turned}
use Rattle.renewed_laws.proofs.Worlds.{answer_by, answers_of, life_of, PlaceOk, CallKnown, WorldOk, Executes, same_executes, later_ok, places_after, known_after, Kept, turn_kept}

-- ---- starts

new_ok : (namespace : List ℕ) (items : List Item) (w : World) (p clock life' : ℕ) → w.namespace ≡ namespace → life p items ≡ [] → PlaceOk namespace w.calls items p (new_place w clock life')
new_ok namespace items w p clock life' n e = record {
  namespace_is = n;
  core = start_fits (settings w);
  count = refl;
  unasked = λ t out. ap (asked_as p t) e;
  rows = tt;
}

-- calls of another proxy, where this one is started for the first time
first_known : (namespace : List ℕ) (w : World) (p : ℕ) (z : Place) (number : ℕ) (s : SentCall) → place_at w p ≡ None → CallKnown namespace w number s → CallKnown namespace (with_place w p z) number s
first_known namespace w p z number s e k = by (s.proxy == p) refl
  where
    by : (b : Bool) → (s.proxy == p) ≡ b → CallKnown namespace (with_place w p z) number s
    by true q = no_place k.place (sym e ∙ sym (ap (place_at w) (equal s.proxy p q)) ∙ k.at)
    by false q = record { place = k.place; at = placed_other w w p s.proxy z refl q ∙ k.at; life = k.life; own = k.own; heard = k.heard }

started_known : (namespace : List ℕ) (w : World) (p clock life' : ℕ) (i : Item) (number : ℕ) (s : SentCall) → Begins w p clock life' i → CallKnown namespace w number s → CallKnown namespace (with_place w p (new_place w clock life')) number s
started_known namespace w p _ _ _ number s (first e) k = first_known namespace w p (new_place w 0 1) number s e k
started_known namespace w p _ _ _ number s (again x e) k =
    known_after namespace w w p x (new_place w x.clock (x.life + 1)) number s s e (omega arith) refl refl refl refl refl (λ l le o. absurd (omega (arith, l, le))) k

start_kept : (namespace : List ℕ) (items : List Item) (w : World) (p clock life' : ℕ) (i : Item) → WorldOk namespace items w → Begins w p clock life' i → AllTell namespace items (i ∷ []) → Kept namespace items (i ∷ []) (with_place w p (new_place w clock life'))
start_kept namespace items w p clock life' i h b tells = record {
  ok = record {
    namespace_is = h.namespace_is;
    calls = λ number s g. started_known namespace w p clock life' i number s b (h.calls number s g);
    places = places_after namespace items (i ∷ []) w w p (new_place w clock life') refl (λ q n. let s = start_silent p clock life' w i q n b in (s.0.lives, s.1)) (same_executes w.calls (i ∷ [])) h
        (new_ok namespace (items ++ i ∷ []) w p clock life' h.namespace_is (started_life items p clock life' w i b));
  };
  tells = tells;
}

start_tells : (namespace : List ℕ) (items : List Item) (w : World) (p clock life' : ℕ) (i : Item) → Begins w p clock life' i → AllTell namespace items (i ∷ [])
start_tells namespace items w p _ _ _ (first e) = (tt, tt)
start_tells namespace items w p _ _ _ (again x e) = (tt, tt)

-- ---- a place that changes in nothing that is known, with items that stay silent

placed_kept : (namespace : List ℕ) (items more : List Item) (w : World) (p : ℕ) (x z : Place) → WorldOk namespace items w → place_at w p ≡ Some x → z.core ≡ x.core → z.life ≡ x.life → z.calls ≡ x.calls
    → ((t : ℕ) → is_among z.tickets t ≡ false → is_among x.tickets t ≡ false) → ((q : ℕ) → IsStill q more) → AllTell namespace items more → Kept namespace items more (with_place w p z)
placed_kept namespace items more w p x z h at core lived sent tickets quiet tells =
    let k = later_ok namespace w.calls w.calls items more p x (quiet p) (same_executes w.calls more) (h.places p x at) in
    record {
      ok = record {
        namespace_is = h.namespace_is;
        calls = λ number s g. known_after namespace w w p x z number s s at (omega (arith, lived)) refl refl refl refl refl (λ l le o. ap (λ (ns : List ℕ). nth ns s.own) sent ∙ o (l ∙ lived)) (h.calls number s g);
        places = places_after namespace items more w w p z refl (λ q n. quiet q) (same_executes w.calls more) h (record {
          namespace_is = ap (λ (c : Core). c.settings.namespace) core ∙ k.namespace_is;
          core = subst CoreOk (sym core) k.core;
          count = ap length sent ∙ k.count ∙ ap (λ (c : Core). c.calls) (sym core);
          unasked = λ t out. k.unasked t (tickets t out);
          rows = subst (λ (c : Core). All (Row (life_of namespace w.calls (items ++ more) p z)) c.asks) (sym core)
              (subst (λ (ns : List ℕ). All (Row (record { namespace = namespace; proxy = p; own = nth ns; answers = answers_of w.calls; told = life p (items ++ more) })) x.core.asks) (sym sent) k.rows);
        });
      };
      tells = tells;
    }

-- ---- the store makes a step

-- where the calls stay
stored_kept : (namespace : List ℕ) (items : List Item) (i : Item) (w after : World) → WorldOk namespace items w → after.namespace ≡ w.namespace → after.calls ≡ w.calls → after.places ≡ w.places → ((q : ℕ) → IsStill q (i ∷ [])) → AllTell namespace items (i ∷ [])
    → Kept namespace items (i ∷ []) after
stored_kept namespace items i w after h n c p quiet tells = record {
  ok = record {
    namespace_is = n ∙ h.namespace_is;
    calls = λ number s g. let k = h.calls number s (ap (λ (cs : List SentCall). nth cs number) (sym c) ∙ g) in
        record { place = k.place; at = ap (λ (ps : Numbered Place). kept_at ps s.proxy) p ∙ k.at; life = k.life; own = k.own; heard = k.heard };
    places = λ q x e. subst (λ (cs : List SentCall). PlaceOk namespace cs (items ++ i ∷ []) q x) (sym c)
        (later_ok namespace w.calls w.calls items (i ∷ []) q x (quiet q) (same_executes w.calls (i ∷ [])) (h.places q x (ap (λ (ps : Numbered Place). kept_at ps q) (sym p) ∙ e)));
  };
  tells = tells;
}

-- a call is executed
abbrev pub ran : List SentCall → ℕ → SentCall → Answer → List SentCall
ran calls number call a = with_nth calls number (record call { executed = Some a })

pub ran_executes : (calls : List SentCall) (number : ℕ) (call : SentCall) (a : Answer) → nth calls number ≡ Some call → Executes calls (ran calls number call a) (item.Executed number a ∷ [])
ran_executes calls number call a at n items h = by (n == number) refl
  where
    by : (b : Bool) → (n == number) ≡ b → IsExecuted n (answers_of (ran calls number call a) n) (items ++ item.Executed number a ∷ [])
    by true e =
        let same : n ≡ number = equal n number e in
        let now : answers_of (ran calls number call a) number ≡ Some a = ap answer_by (nth_itself calls number call (record call { executed = Some a }) at) in
        subst (λ (m : ℕ). IsExecuted m (answers_of (ran calls number call a) m) (items ++ item.Executed number a ∷ [])) (sym same)
        (subst (λ (o : Option Answer). IsExecuted number o (items ++ item.Executed number a ∷ [])) (sym now) (record { before = items; after = []; story = refl }))
    by false e =
        let same : answers_of (ran calls number call a) n ≡ answers_of calls n = ap answer_by (nth_other calls number n call (record call { executed = Some a }) at e) in
        subst (λ (o : Option Answer). IsExecuted n o (items ++ item.Executed number a ∷ [])) (sym same) (executed_on n (answers_of calls n) items (item.Executed number a ∷ []) h)

ran_kept : (namespace : List ℕ) (items : List Item) (w after : World) (number : ℕ) (call : SentCall) (a : Answer) → WorldOk namespace items w → nth w.calls number ≡ Some call → HeardBytes (heard namespace a)
    → after.namespace ≡ w.namespace → after.places ≡ w.places → after.calls ≡ ran w.calls number call a → Kept namespace items (item.Executed number a ∷ []) after
ran_kept namespace items w after number call a h there bytes n p c = record {
  ok = record {
    namespace_is = n ∙ h.namespace_is;
    calls = λ m t g. by m t (nth_changed w.calls number m call (record call { executed = Some a }) t there (ap (λ (cs : List SentCall). nth cs m) (sym c) ∙ g));
    places = λ q x e. subst (λ (cs : List SentCall). PlaceOk namespace cs (items ++ item.Executed number a ∷ []) q x) (sym c)
        (later_ok namespace w.calls (ran w.calls number call a) items (item.Executed number a ∷ []) q x (λ xs. refl, λ t. refl)
        (ran_executes w.calls number call a there) (h.places q x (ap (λ (ps : Numbered Place). kept_at ps q) (sym p) ∙ e)));
  };
  tells = (tt, tt);
}
  where
    same_answer : (b : Answer) → Some a ≡ Some b → a ≡ b
    same_answer b e = cc

    here : (m : ℕ) (s : SentCall) → nth w.calls m ≡ Some s → CallKnown namespace after m s
    here m s g = let k = h.calls m s g in record { place = k.place; at = ap (λ (ps : Numbered Place). kept_at ps s.proxy) p ∙ k.at; life = k.life; own = k.own; heard = k.heard }

    changed : CallKnown namespace after number (record call { executed = Some a })
    changed = let k = here number call there in record { place = k.place; at = k.at; life = k.life; own = k.own; heard = λ b e. subst (λ (x : Answer). HeardBytes (heard namespace x)) (same_answer b e) bytes }

    by : (m : ℕ) (t : SentCall) → ((m ≡ number) × (record call { executed = Some a } ≡ t)) ⊎ (((m == number) ≡ false) × (nth w.calls m ≡ Some t)) → CallKnown namespace after m t
    by m t (inl g) = subst (λ (n : ℕ). CallKnown namespace after n t) (sym g.0) (subst (CallKnown namespace after number) g.1 changed)
    by m t (inr g) = here m t g.1

-- ---- a body is refused

refused_tells : (namespace : List ℕ) (told : List Item) (p ticket : ℕ) (r : Refusal) → ReplyOk namespace told p (ticket, Refused r)
refused_tells namespace told p ticket r lease reply e asked = absurd (cc)

refused_kept : (namespace : List ℕ) (items : List Item) (w : World) (p ticket : ℕ) (path body : List ℕ) (r : Refusal) (x : Place) → WorldOk namespace items w → place_at w p ≡ Some x
    → Kept namespace items (item.Posted p ticket path body ∷ reply_items p (with_posted ticket x).posted (ticket, Refused r)) (with_place w p (with_posted ticket x))
refused_kept namespace items w p ticket path body r x h at =
    let posted = (with_posted ticket x).posted in
    let rest = reply_items p posted (ticket, Refused r) in
    placed_kept namespace items (item.Posted p ticket path body ∷ rest) w p x (with_posted ticket x) h at refl refl refl (λ t e. not_among x.tickets ticket t e)
    (λ q. still-append q (item.Posted p ticket path body ∷ []) rest (λ xs. refl, λ t. refl) ((reply_silent q p posted (ticket, Refused r)).lives, reply_unasking q p posted (ticket, Refused r)))
    (tt, reply_tells namespace (items ++ item.Posted p ticket path body ∷ []) p posted (ticket, Refused r) (refused_tells namespace _ p ticket r))

-- ---- all lines

effect_kept : (namespace : List ℕ) (items : List Item) (w after : World) (gained : List Item) → WorldOk namespace items w → Effect w after gained → is_other gained ≡ true → AnswersShowBytes gained → Kept namespace items gained after
effect_kept namespace items w _ _ h (starts p clock life' i b) o s = start_kept namespace items w p clock life' i h b (start_tells namespace items w p clock life' i b)
effect_kept namespace items w _ _ h (sets p millis x e forward) o s = placed_kept namespace items (item.Clock p millis ∷ []) w p x (record x { clock = millis }) h e refl refl refl (λ t g. g) (λ q. (λ xs. refl, λ t. refl)) (tt, tt)
effect_kept namespace items w _ _ h (refuses p ticket path body a x e) o s = absurd (cc)
effect_kept namespace items w _ _ h (executes number call e fresh) o s = ran_kept namespace items w _ number call (exec w.store call.member call.request).1 h e (heard_bytes namespace (exec w.store call.member call.request).1 (and_first (answer_shows (exec w.store call.member call.request).1) true s)) refl refl refl
effect_kept namespace items w _ _ h (expires lease t e due) o s = stored_kept namespace items (item.Expired lease) w _ h refl refl refl (λ q. (λ xs. refl, λ t. refl)) (tt, tt)
effect_kept namespace items w _ _ h (applies member revision t e) o s = stored_kept namespace items (item.Applied member revision) w _ h refl refl refl (λ q. (λ xs. refl, λ t. refl)) (tt, tt)
effect_kept namespace items w _ _ h (pushes number st t i e a b k) o s = stored_kept namespace items (item.Pushed number i) w _ h refl refl refl (λ q. (λ xs. refl, λ t. refl)) (tt, tt)
effect_kept namespace items w _ _ h (turns p x e out v y own told at is t) o s =
    let z = (all_fetched y told).place in
    turn_kept namespace items own w v p x y e told h (turned namespace items (flat_map (reply_items p z.posted) (all_fetched y told).replies) w p x e out v y own told h at is t o)

gain_kept : (namespace : List ℕ) (items : List Item) (w after : World) (gained : List Item) → WorldOk namespace items w → Gain w after gained → AnswersShowBytes gained → Kept namespace items gained after
gain_kept namespace items w _ _ h (answers number call x a o there is at lived out) s =
    turn_kept namespace items (item.Answered number ∷ []) w (with_call w number (record call { settled = true })) call.proxy x (stepped_to x (event.Answer call.own a)) (event.Answer call.own a) [] h
    (answer_turned namespace items w number call x a h there is at lived)
gain_kept namespace items w _ _ h (refuses_post p ticket path body r x at) s = refused_kept namespace items w p ticket path body r x h at
gain_kept namespace items w _ _ h (other after gained e o) s = effect_kept namespace items w after gained h e o s

recounted : (namespace : List ℕ) (items : List Item) (w : World) (n : ℕ) → WorldOk namespace items w → WorldOk namespace items (record w { lines = n })
recounted namespace items w n h = record {
  namespace_is = h.namespace_is;
  calls = λ number s g. let k = h.calls number s g in record { place = k.place; at = k.at; life = k.life; own = k.own; heard = k.heard };
  places = h.places;
}

-- what a line that is taken leaves and gains
abbrev pub TakenSo : List ℕ → List Item → Taken → Type 0
TakenSo namespace items (Ok gained) = AnswersShowBytes gained.1 → WorldOk namespace (items ++ gained.1) gained.0 × AllTell namespace items gained.1
TakenSo namespace items (Err why) = Unit {0}

pub taken_so : (namespace : List ℕ) (items : List Item) (w : World) (l : Line) → WorldOk namespace items w → TakenSo namespace items (taken w l)
taken_so namespace items w l h = by (done w l).gained refl
  where
    by : (r : Result (List Item) LineRefusal) → (done w l).gained ≡ r → TakenSo namespace items (counted_as (done w l).world r)
    by (Ok gained) e = λ s.
        let k = gain_kept namespace items w (done w l).world gained h (gain w l gained e) s in
        (recounted namespace (items ++ gained) (done w l).world ((done w l).world.lines + 1) k.ok, k.tells)
    by (Err why) e = tt

-- by induction over the lines
lines_tell : (namespace : List ℕ) (lines : List Line) (items : List Item) (w : World) → WorldOk namespace items w → AnswersShowBytes (transcript_from (Some w) lines) → AllTell namespace items (transcript_from (Some w) lines)
lines_tell namespace [] items w h s = tt
lines_tell namespace (l ∷ lines) items w h s = by (taken w l) (taken_so namespace items w l h) s (λ items w h s. lines_tell namespace lines items w h s)
  where
    by : (t : Taken) → TakenSo namespace items t → AnswersShowBytes (items_and_then t (λ after. transcript_from (Some after) lines))
        → ((items : List Item) (w : World) → WorldOk namespace items w → AnswersShowBytes (transcript_from (Some w) lines) → AllTell namespace items (transcript_from (Some w) lines))
        → AllTell namespace items (items_and_then t (λ after. transcript_from (Some after) lines))
    by (Ok gained) g s ih =
        let rest = transcript_from (Some gained.0) lines in
        let both = show-split gained.1 rest s in
        let k = g both.0 in
        told-append namespace items gained.1 rest k.1 (ih (items ++ gained.1) gained.0 k.0 both.1)
    by (Err why) g s ih = tt

no_calls : {A : Type 0} (number : ℕ) (call : SentCall) → nth [] number ≡ Some call → A
no_calls number call e = by (number == 0) e
  where
    by : {A : Type 0} (b : Bool) → cond b None (slice_get [] (number - 1)) ≡ Some call → A
    by true e = absurd (cc)
    by false e = absurd (cc)

pub begun_ok : (members : ℕ) (namespace leasing : List ℕ) → WorldOk namespace (item.World members namespace leasing ∷ []) (starting_world members namespace leasing)
begun_ok members namespace leasing = record {
  namespace_is = refl;
  calls = λ number call e. no_calls number call e;
  places = λ p x e. no_place x e;
}

transcript_tells : (lines : List Line) → AnswersShowBytes (transcript lines) → AllTell (namespace_of (transcript lines)) [] (transcript lines)
transcript_tells [] s = tt
transcript_tells (line.World members namespace leasing ∷ lines) s =
    let start = item.World members namespace leasing ∷ [] in
    let w = starting_world members namespace leasing in
    told-append namespace [] start (transcript_from (Some w) lines) (tt, tt) (lines_tell namespace lines start w (begun_ok members namespace leasing) s)
transcript_tells (line.Start p ∷ lines) s = tt
transcript_tells (line.Clock p millis ∷ lines) s = tt
transcript_tells (line.Ask p ticket q ∷ lines) s = tt
transcript_tells (line.Post p ticket path body ∷ lines) s = tt
transcript_tells (line.Tick p ∷ lines) s = tt
transcript_tells (line.Send p ∷ lines) s = tt
transcript_tells (line.Exec number ∷ lines) s = tt
transcript_tells (line.Answer number ∷ lines) s = tt
transcript_tells (line.Lose number ∷ lines) s = tt
transcript_tells (line.Push number ∷ lines) s = tt
transcript_tells (line.Progress number ∷ lines) s = tt
transcript_tells (line.Deliver number ∷ lines) s = tt
transcript_tells (line.Cut number ∷ lines) s = tt
transcript_tells (line.Take p ticket ∷ lines) s = tt
transcript_tells (line.Leave p ticket ∷ lines) s = tt
transcript_tells (line.Expire lease ∷ lines) s = tt
transcript_tells (line.Apply member revision ∷ lines) s = tt

pub keepalives_renew : EachScriptsKeepalivesRenew
keepalives_renew lines h = all_renew (transcript lines) (transcript_tells lines h)
