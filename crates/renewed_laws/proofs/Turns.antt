-- Each turn of a proxy keeps what is known.
use Rattle.std.proofs.Common.{◌≡◌, ◌⊎◌, inl, inr, ℕ, zero, suc, ◌+◌, ◌-◌, ◌==◌, Bool, true, false, cond, List, [], ◌∷◌, ◌++◌, append_assoc, length, length-append, slice_get, Option, None, Some, Result, Ok, refl, sym, ◌∙◌, ap, subst, arith}
use Rattle.std.specs.BTreeSet.{BTreeSet}
use Rattle.etcd_types.specs.declared.answer.Answer.{Answer}
use Rattle.etcd_types.specs.declared.request.Request.{Request}
use Rattle.etcd_types.specs.declared.request.Request.TheVariants as request
use Rattle.core_laws.specs.Steps.Kept.{HeardBytes, IsHeard}
use Rattle.core_laws.proofs.Steps.Comes.{by_test}
use Rattle.core_model.specs.declared.event.CoreEvent.{CoreEvent}
use Rattle.core_model.specs.declared.event.CoreEvent.TheVariants as event
use Rattle.core_model.specs.declared.event.Job.TheVariants as job
use Rattle.core_model.specs.declared.event.Outcome.{Outcome}
use Rattle.core_model.specs.declared.event.Outcome.TheVariants as outcome
use Rattle.core_model.specs.declared.event.StepFault.{StepFault}
use Rattle.core_model.specs.declared.settings.Settings.{Settings}
use Rattle.core_model.specs.ClockWork.{clock_work, begun}
use Rattle.core_model.specs.Heard.{heard}
use Rattle.core_model.specs.Sending.{on_work}
use Rattle.core_model.specs.Sessions.{seat_is_over, without_session}
use Rattle.core_model.specs.State.{Core}
use Rattle.core_model.specs.Step.{stepped}
use Rattle.script_text.specs.declared.item.Item.{Item}
use Rattle.script_text.specs.declared.item.Item.TheVariants as item
use Rattle.world_model.specs.declared.sent_call.SentCall.{SentCall}
use Rattle.world_model.specs.Asks.{told_at_once}
use Rattle.world_model.specs.Gains.{Replies}
use Rattle.world_model.specs.Lives.{life, asked_as}
use Rattle.world_model.specs.Places.{nth, with_nth, place_at, is_among, with_number, with_call}
use Rattle.world_model.specs.Sends.{next_call, next_stream, new_call, closed_in}
use Rattle.world_model.specs.State.{Place, OpenedStream, World}
use Rattle.world_laws.proofs.Effects.{Turn, ticks, asks_it, posts_it, calls, opens, closes, answers, loses, delivers, cuts, takes, waits, leaves}
use Rattle.held_laws.proofs.Items.{IsUnasking, asked-append, or_later}
use Rattle.held_laws.proofs.Kept.{among_new, not_among}
use Rattle.held_laws.proofs.Opens.{nth_push, last_nth}
use Rattle.held_laws.proofs.Places.{Asking}
use Rattle.held_laws.proofs.Worlds.{equal, one_place, nth_changed, asked_unasking, asked_asks, posted_asks, take_unasking}
use Rattle.keep_laws.proofs.Steps.{Brings, Tells}
use Rattle.renewed_laws.proofs.Calls.{Counts, work_counts, is_work, other_counts}
use Rattle.renewed_laws.proofs.Gains.{is_other, stepped_to}
use Rattle.renewed_laws.proofs.Lives.{Lives, IsStill, unasked_on, taken_lives}
use Rattle.renewed_laws.proofs.Replies.{has_given, told_ask}
use Rattle.renewed_laws.proofs.Rows.{Row, fresh_ok, told_ok, sent_ok, not_sent}
use Rattle.renewed_laws.proofs.Stories.{Life, later}
use Rattle.renewed_laws.proofs.Telling.{AllTell, taken_tell}
use Rattle.renewed_laws.proofs.Worlds.{answer_by, answers_of, life_of, WorldOk, Comes, was, new, Turned}

-- ---- calls

same_comes : (sent after : List SentCall) (p life : ℕ) (own : List ℕ) → after ≡ sent → (number : ℕ) (t : SentCall) → nth after number ≡ Some t → Comes sent p life own number t
same_comes sent after p life own e number t g = was t (ap (λ (cs : List SentCall). nth cs number) (sym e) ∙ g) refl refl refl refl

-- one of them is answered or lost
settled_comes : (sent : List SentCall) (p life : ℕ) (own : List ℕ) (n : ℕ) (call : SentCall) → nth sent n ≡ Some call
    → (number : ℕ) (t : SentCall) → nth (with_nth sent n (record call { settled = true })) number ≡ Some t → Comes sent p life own number t
settled_comes sent p life own n call at number t g = by (nth_changed sent n number call (record call { settled = true }) t at g)
  where
    by : ((number ≡ n) × (record call { settled = true } ≡ t)) ⊎ (((number == n) ≡ false) × (nth sent number ≡ Some t)) → Comes sent p life own number t
    by (inl h) =
        was call (ap (nth sent) h.0 ∙ at) (ap (λ (c : SentCall). c.proxy) (sym h.1)) (ap (λ (c : SentCall). c.life) (sym h.1)) (ap (λ (c : SentCall). c.own) (sym h.1))
        (ap (λ (c : SentCall). c.executed) (sym h.1))
    by (inr h) = was t h.1 refl refl refl refl

-- ---- a turn in which no request changes by what is known

quiet_turned : (namespace : List ℕ) (items own : List Item) (w v : World) (p : ℕ) (x y : Place) (e : CoreEvent) → WorldOk namespace items w → place_at w p ≡ Some x → v.namespace ≡ w.namespace → v.places ≡ w.places
    → ((number : ℕ) (t : SentCall) → nth v.calls number ≡ Some t → Comes w.calls p x.life x.calls number t) → y.core ≡ (stepped x.core e x.clock).core → y.life ≡ x.life → y.calls ≡ x.calls → y.tickets ≡ x.tickets
    → (stepped x.core e x.clock).core.calls ≡ x.core.calls → IsHeard x.core e
    → Brings (Row (life_of namespace w.calls items p x)) (Row (later (life_of namespace w.calls items p x) (nth y.calls) (answers_of v.calls) own)) e x.clock (clock_work x.clock x.core)
    → ((q : ℕ) → IsStill q own) → AllTell namespace items own → Turned namespace items own w v p x y e []
quiet_turned namespace items own w v p x y e h at name places comes core lived sent tickets count heard brings quiet tells =
    let k = h.places p x at in
    record {
      at = at;
      namespace_is = name;
      places = places;
      core = core;
      lived = lived;
      count = ap length sent ∙ k.count ∙ sym count;
      grows = λ n m g. ap (λ (ns : List ℕ). nth ns n) sent ∙ g;
      calls = λ number t g. subst (λ (ns : List ℕ). Comes w.calls p x.life ns number t) (sym sent) (comes number t g);
      heard = heard;
      brings = brings;
      unasked = λ t out. unasked_on p t (life p items) own (k.unasked t (ap (λ (s : BTreeSet ℕ). is_among s t) (sym tickets) ∙ out)) ((quiet p).1 t);
      lives = λ q. (quiet q).0;
      unasking = λ q n. (quiet q).1;
      replies = tt;
      tells = tells;
    }

-- ---- a request is asked

other_ticket : (tickets : BTreeSet ℕ) (ticket t : ℕ) → is_among (with_number tickets ticket) t ≡ false → (ticket == t) ≡ false
other_ticket tickets ticket t e = by (ticket == t) refl
  where
    by : (b : Bool) → (ticket == t) ≡ b → (ticket == t) ≡ false
    by false q = q
    by true q =
        let there : is_among (with_number tickets ticket) t ≡ true = ap (is_among (with_number tickets ticket)) (sym (equal ticket t q)) ∙ among_new tickets ticket in
        absurd (let no' : true ≡ false = sym there ∙ e in cc)

ask_turned : (namespace : List ℕ) (items front : List Item) (w : World) (p : ℕ) (x y : Place) (ticket : ℕ) (q : Request) (word : ℕ) (o : Outcome) → WorldOk namespace items w → place_at w p ≡ Some x
    → (stepped x.core (event.Ask ticket q word) x.clock).outcome ≡ Ok o → is_among x.tickets ticket ≡ false
    → y.core ≡ (stepped x.core (event.Ask ticket q word) x.clock).core → y.life ≡ x.life → y.calls ≡ x.calls → y.tickets ≡ with_number x.tickets ticket
    → ((n : ℕ) → Lives n (front ++ item.Asked p ticket q ∷ [])) → ((n : ℕ) → (n == p) ≡ false → IsUnasking n (front ++ item.Asked p ticket q ∷ [])) → Asking p ticket q (front ++ item.Asked p ticket q ∷ [])
    → AllTell namespace items (front ++ item.Asked p ticket q ∷ [])
    → Turned namespace items (front ++ item.Asked p ticket q ∷ []) w w p x y (event.Ask ticket q word) (told_at_once ticket o)
ask_turned namespace items front w p x y ticket q word o h at out free core lived sent tickets lives unasking asks tells =
    let k = h.places p x at in
    let own = front ++ item.Asked p ticket q ∷ [] in
    let l = life_of namespace w.calls items p x in
    let asked : asked_as p ticket (life p items ++ own) ≡ Some q = asked-append p ticket (life p items) own ∙ ap (λ (a : Option Request). or_later a (asked_as p ticket own)) (k.unasked ticket free) ∙ asks.asks in
    record {
      at = at;
      namespace_is = refl;
      places = refl;
      core = core;
      lived = lived;
      count = ap length sent ∙ k.count ∙ sym (other_counts x.core (event.Ask ticket q word) x.clock refl);
      grows = λ n m g. ap (λ (ns : List ℕ). nth ns n) sent ∙ g;
      calls = same_comes w.calls w.calls p x.life y.calls refl;
      heard = tt;
      brings = fresh_ok l (nth y.calls) (answers_of w.calls) front ticket q asked;
      unasked = λ t e.
          let gone : is_among (with_number x.tickets ticket) t ≡ false = ap (λ (s : BTreeSet ℕ). is_among s t) (sym tickets) ∙ e in
          unasked_on p t (life p items) own (k.unasked t (not_among x.tickets ticket t gone)) (asks.only t (other_ticket x.tickets ticket t gone));
      lives = lives;
      unasking = unasking;
      replies = told_ask (later l (nth y.calls) (answers_of w.calls) own) x.core ticket q word x.clock o out asked;
      tells = tells;
    }

-- ---- a call is sent

get_front : {A : Type 0} (xs : List A) (y : A) (i : ℕ) (z : A) → slice_get xs i ≡ Some z → slice_get (xs ++ y ∷ []) i ≡ Some z
get_front [] y i z e = absurd (cc)
get_front (x ∷ xs) y zero z e = e
get_front (x ∷ xs) y (suc i) z e = get_front xs y i z e

nth_front : {A : Type 0} (xs : List A) (y : A) (number : ℕ) (z : A) → nth xs number ≡ Some z → nth (xs ++ y ∷ []) number ≡ Some z
nth_front xs y number z e = by (number == 0) e
  where
    by : (b : Bool) → cond b None (slice_get xs (number - 1)) ≡ Some z → cond b None (slice_get (xs ++ y ∷ []) (number - 1)) ≡ Some z
    by true e = absurd (cc)
    by false e = get_front xs y (number - 1) z e

pub call_turned : (namespace : List ℕ) (items : List Item) (w : World) (p : ℕ) (x : Place) (own member ticket : ℕ) (q : Request) → WorldOk namespace items w → place_at w p ≡ Some x
    → (stepped x.core event.Work x.clock).outcome ≡ Ok (outcome.Job (Some (job.Call own member ticket q)))
    → Turned namespace items (item.Sent p (next_call w) member ticket q ∷ []) w (record w { calls = w.calls ++ new_call p (stepped_to x event.Work) own member q ∷ [] }) p x
    (record (stepped_to x event.Work) { calls = x.calls ++ next_call w ∷ [] }) event.Work []
call_turned namespace items w p x own member ticket q h at out =
    let k = h.places p x at in
    let d = (stepped x.core event.Work x.clock).core in
    let l = life_of namespace w.calls items p x in
    let sent = new_call p (stepped_to x event.Work) own member q in
    let calls' = x.calls ++ next_call w ∷ [] in
    let counts : Counts x.core d (Ok (outcome.Job (Some (job.Call own member ticket q)))) = subst (Counts x.core d) out (work_counts x.core x.clock) in
    let own_is : own ≡ length x.calls + 1 = counts.0 ∙ ap (λ (n : ℕ). n + 1) (sym k.count) in
    let numbered : nth calls' own ≡ Some (next_call w) = ap (nth calls') own_is ∙ last_nth x.calls (next_call w) in
    let longer = length-append x.calls (next_call w ∷ []) in
    let counted = k.count in
    let gone = counts.1 in
    record {
      at = at;
      namespace_is = refl;
      places = refl;
      core = refl;
      lived = refl;
      count = omega (arith, longer, counted, gone);
      grows = λ n m g. nth_front x.calls (next_call w) n m g;
      calls = λ number t g. by_push number t (nth_push w.calls sent number t g) numbered;
      heard = tt;
      brings = sent_ok l (nth calls') (answers_of (w.calls ++ sent ∷ [])) own (next_call w) member ticket q (on_work x.clock (clock_work x.clock x.core)) (has_given x.core event.Work x.clock _ out) numbered (ap answer_by (last_nth w.calls sent));
      unasked = λ t e. unasked_on p t (life p items) (item.Sent p (next_call w) member ticket q ∷ []) (k.unasked t e) refl;
      lives = λ n xs. refl;
      unasking = λ n e t. refl;
      replies = tt;
      tells = (tt, tt);
    }
  where
    by_push : (number : ℕ) (t : SentCall) → (nth w.calls number ≡ Some t) ⊎ ((number ≡ length w.calls + 1) × (new_call p (stepped_to x event.Work) own member q ≡ t)) → nth (x.calls ++ next_call w ∷ []) own ≡ Some (next_call w)
        → Comes w.calls p x.life (x.calls ++ next_call w ∷ []) number t
    by_push number t (inl g) n = was t g refl refl refl refl
    by_push number t (inr g) n =
        new (ap (λ (c : SentCall). c.proxy) (sym g.1)) (ap (λ (c : SentCall). c.life) (sym g.1))
        (ap (λ (c : SentCall). nth (x.calls ++ next_call w ∷ []) c.own) (sym g.1) ∙ n ∙ ap (λ (i : ℕ). Some i) (sym g.0)) (ap (λ (c : SentCall). c.executed) (sym g.1))

-- another job than a call
no_call : (l m : Life) (now : ℕ) (c : Core) (o : Outcome) → (stepped c event.Work now).outcome ≡ Ok o
    → ((own member named : ℕ) (q : Request) → ◌≡◌ {A = Result Outcome StepFault} (Ok o) (Ok (outcome.Job (Some (job.Call own member named q)))) → ⊥) → Brings (Row l) (Row m) event.Work now (clock_work now c)
no_call l m now c o out n = not_sent l m (on_work now (clock_work now c)) (λ own member named q g. n own member named q (sym (has_given c event.Work now o out) ∙ g))

-- ---- a call is answered

clock_settings : (now : ℕ) (c : Core) → (clock_work now c).settings ≡ c.settings
unfolding clock_work
clock_settings now c = by_test (λ (d : Core). d.settings ≡ c.settings) (seat_is_over c.seat now) (without_session now (begun c)) (begun c) (λ t. refl) (λ t. refl)

pub answer_turned : (namespace : List ℕ) (items : List Item) (w : World) (number : ℕ) (call : SentCall) (x : Place) (a : Answer) → WorldOk namespace items w → nth w.calls number ≡ Some call → call.executed ≡ Some a
    → place_at w call.proxy ≡ Some x → call.life ≡ x.life
    → Turned namespace items (item.Answered number ∷ []) w (with_call w number (record call { settled = true })) call.proxy x (stepped_to x (event.Answer call.own a)) (event.Answer call.own a) []
answer_turned namespace items w number call x a h there is at lived =
    let p = call.proxy in
    let e = event.Answer call.own a in
    let k = h.places p x at in
    let known = h.calls number call there in
    let l = life_of namespace w.calls items p x in
    let after = with_nth w.calls number (record call { settled = true }) in
    let one : known.place ≡ x = one_place known.place x (sym known.at ∙ at) in
    let own : nth x.calls call.own ≡ Some number = ap (λ (y : Place). nth y.calls call.own) (sym one) ∙ known.own (lived ∙ ap (λ (y : Place). y.life) (sym one)) in
    let bytes : HeardBytes (heard namespace a) = known.heard a is in
    let settings : namespace ≡ (clock_work x.clock x.core).settings.namespace = sym k.namespace_is ∙ ap (λ (s : Settings). s.namespace) (sym (clock_settings x.clock x.core)) in
    let brings = told_ok l (nth x.calls) (answers_of after) call.own number a own (ap answer_by there ∙ is) in
    quiet_turned namespace items (item.Answered number ∷ []) w (with_call w number (record call { settled = true })) p x (stepped_to x e) e h at refl refl (settled_comes w.calls p x.life x.calls number call there) refl refl refl refl
    (other_counts x.core e x.clock refl) (subst (λ (n : List ℕ). HeardBytes (heard n a)) (sym k.namespace_is) bytes)
    (subst (λ (n : List ℕ). Tells (Row l) (Row (later l (nth x.calls) (answers_of after) (item.Answered number ∷ []))) call.own (heard n a)) settings brings)
    (λ q. (λ xs. refl, λ t. refl)) (tt, tt)

-- ---- all turns

append_two : (l : List Item) (a b : Item) → (l ++ a ∷ []) ++ b ∷ [] ≡ l ++ a ∷ b ∷ []
append_two l a b = append_assoc l (a ∷ []) (b ∷ [])

closed_calls : (w : World) (number : ℕ) (o : Option OpenedStream) → (closed_in w number o).calls ≡ w.calls
closed_calls w number None = refl
closed_calls w number (Some s) = refl

closed_places : (w : World) (number : ℕ) (o : Option OpenedStream) → (closed_in w number o).places ≡ w.places
closed_places w number None = refl
closed_places w number (Some s) = refl

closed_namespace : (w : World) (number : ℕ) (o : Option OpenedStream) → (closed_in w number o).namespace ≡ w.namespace
closed_namespace w number None = refl
closed_namespace w number (Some s) = refl

-- of a step that isn't an ask, an answer or a send, where the world's calls are known
plain_turned : (namespace : List ℕ) (items own : List Item) (w v : World) (p : ℕ) (x : Place) (e : CoreEvent) → is_work e ≡ false → WorldOk namespace items w → place_at w p ≡ Some x → v.namespace ≡ w.namespace → v.places ≡ w.places
    → ((number : ℕ) (t : SentCall) → nth v.calls number ≡ Some t → Comes w.calls p x.life x.calls number t) → IsHeard x.core e
    → Brings (Row (life_of namespace w.calls items p x)) (Row (later (life_of namespace w.calls items p x) (nth x.calls) (answers_of v.calls) own)) e x.clock (clock_work x.clock x.core)
    → ((q : ℕ) → IsStill q own) → AllTell namespace items own → Turned namespace items own w v p x (stepped_to x e) e []
plain_turned namespace items own w v p x e n h at name places comes heard brings quiet tells =
    quiet_turned namespace items own w v p x (stepped_to x e) e h at name places comes refl refl refl refl (other_counts x.core e x.clock n) heard brings quiet tells

-- what a job that is no call leaves
job_counts : (c d : Core) (o : Outcome) (now : ℕ) → d ≡ (stepped c event.Work now).core → (stepped c event.Work now).outcome ≡ Ok o → Counts c d (Ok o)
job_counts c d o now e out = subst (λ (b : Core). Counts c b (Ok o)) (sym e) (subst (Counts c (stepped c event.Work now).core) out (work_counts c now))

begin_no_call : (own member : ℕ) (q : Request) (a b t : ℕ) (r : Request) → ◌≡◌ {A = Result Outcome StepFault} (Ok (outcome.Job (Some (job.Begin own member q)))) (Ok (outcome.Job (Some (job.Call a b t r)))) → ⊥
begin_no_call own member q a b t r e = absurd (cc)

close_no_call : (own : ℕ) (a b t : ℕ) (r : Request) → ◌≡◌ {A = Result Outcome StepFault} (Ok (outcome.Job (Some (job.Close own)))) (Ok (outcome.Job (Some (job.Call a b t r)))) → ⊥
close_no_call own a b t r e = absurd (cc)

-- of each turn but that of an answer
pub turned : (namespace : List ℕ) (items rest : List Item) (w : World) (p : ℕ) (x : Place) (e : CoreEvent) (o : Outcome) (v : World) (y : Place) (own : List Item) (told : Replies) → WorldOk namespace items w → place_at w p ≡ Some x
    → (stepped x.core e x.clock).outcome ≡ Ok o → Turn w p (stepped_to x e) e o v y own told → is_other (own ++ rest) ≡ true → Turned namespace items own w v p x y e told
turned namespace items rest w p x _ _ _ _ _ _ h at out (ticks o) other =
    plain_turned namespace items (item.Ticked p ∷ []) w w p x _ refl h at refl refl (same_comes w.calls w.calls p x.life x.calls refl) tt tt (λ q. (λ xs. refl, λ t. refl)) (tt, tt)
turned namespace items rest w p x _ _ _ _ _ _ h at out (asks_it ticket q o n) other =
    ask_turned namespace items [] w p x _ ticket q _ o h at out n refl refl refl refl (λ n xs. refl) (asked_unasking p ticket q) (asked_asks p ticket q) (tt, tt)
turned namespace items rest w p x _ _ _ _ _ _ h at out (posts_it ticket path body q o n) other =
    ask_turned namespace items (item.Posted p ticket path body ∷ []) w p x _ ticket q _ o h at out n refl refl refl refl (λ n xs. append_two xs (item.Posted p ticket path body) (item.Asked p ticket q)) (λ n d t. asked_unasking p ticket q n d t)
    (posted_asks p ticket path body q) (tt, (tt, tt))
turned namespace items rest w p x _ _ _ _ _ _ h at out (calls own member ticket q) other = call_turned namespace items w p x own member ticket q h at out
turned namespace items rest w p x _ _ _ _ _ _ h at out (opens own member ask) other =
    let told = item.Opened p (next_stream w) member (request.Watch ask) ∷ [] in
    let l = life_of namespace w.calls items p x in
    let o = outcome.Job (Some (job.Begin own member (request.Watch ask))) in
    quiet_turned namespace items told w _ p x _ event.Work h at refl refl (same_comes w.calls w.calls p x.life x.calls refl) refl refl refl refl
    (job_counts x.core (stepped x.core event.Work x.clock).core o x.clock refl out) tt
    (no_call l (later l (nth x.calls) (answers_of w.calls) told) x.clock x.core o out (begin_no_call own member (request.Watch ask))) (λ q. (λ xs. refl, λ t. refl)) (tt, tt)
turned namespace items rest w p x _ _ _ _ _ _ h at out (closes own number e) other =
    let told = item.Closed p number ∷ [] in
    let l = life_of namespace w.calls items p x in
    let v = closed_in w number (nth w.streams number) in
    let o = outcome.Job (Some (job.Close own)) in
    quiet_turned namespace items told w v p x (stepped_to x event.Work) event.Work h at (closed_namespace w number (nth w.streams number)) (closed_places w number (nth w.streams number))
    (same_comes w.calls v.calls p x.life x.calls (closed_calls w number (nth w.streams number))) refl refl refl refl
    (job_counts x.core (stepped x.core event.Work x.clock).core o x.clock refl out) tt
    (no_call l (later l (nth x.calls) (answers_of v.calls) told) x.clock x.core o out (close_no_call own)) (λ q. (λ xs. refl, λ t. refl)) (tt, tt)
turned namespace items rest w p x _ _ _ _ _ _ h at out (answers number call a o e f) other = absurd (cc)
turned namespace items rest w p x _ _ _ _ _ _ h at out (loses number call o e) other =
    plain_turned namespace items (item.Lost number ∷ []) w _ p x _ refl h at refl refl (settled_comes w.calls p x.life x.calls number call e) tt tt (λ q. (λ xs. refl, λ t. refl)) (tt, tt)
turned namespace items rest w p x _ _ _ _ _ _ h at out (delivers number s i more o e f g k l) other =
    plain_turned namespace items (item.Delivered number ∷ []) w _ p x _ refl h at refl refl (same_comes w.calls w.calls p x.life x.calls refl) tt tt (λ q. (λ xs. refl, λ t. refl)) (tt, tt)
turned namespace items rest w p x _ _ _ _ _ _ h at out (cuts number s o e f g k) other =
    plain_turned namespace items (item.Cut number ∷ []) w _ p x _ refl h at refl refl (same_comes w.calls w.calls p x.life x.calls refl) tt tt (λ q. (λ xs. refl, λ t. refl)) (tt, tt)
turned namespace items rest w p x _ _ _ _ _ _ h at out (takes ticket i) other =
    plain_turned namespace items _ w w p x _ refl h at refl refl (same_comes w.calls w.calls p x.life x.calls refl) tt tt (λ q. (taken_lives q p _ ticket i, take_unasking p _ ticket i q)) (taken_tell namespace items p _ ticket i)
turned namespace items rest w p x _ _ _ _ _ _ h at out (waits ticket o n) other =
    plain_turned namespace items (item.Pending p ticket ∷ []) w w p x _ refl h at refl refl (same_comes w.calls w.calls p x.life x.calls refl) tt tt (λ q. (λ xs. refl, λ t. refl)) (tt, tt)
turned namespace items rest w p x _ _ _ _ _ _ h at out (leaves ticket o) other =
    plain_turned namespace items (item.Left p ticket ∷ []) w w p x _ refl h at refl refl (same_comes w.calls w.calls p x.life x.calls refl) tt tt (λ q. (λ xs. refl, λ t. refl)) (tt, tt)
