-- Each ok reply of a transcript comes from an executed call, or from none that names its request, by the items before it.
use Rattle.std.proofs.Common.{◌≡◌, ℕ, ◌||◌, Bool, true, false, cond, List, [], ◌∷◌, ◌++◌, append_assoc, append-nil, Option, None, Some, Result, Ok, Err, refl, sym, ◌∙◌, ap, subst}
use Rattle.std.specs.Prelude.{flat_map}
use Rattle.std.specs.List.{list_all}
use Rattle.std.specs.BTreeSet.{BTreeSet}
use Rattle.etcd_types.proofs.Bools.{and_first, and_second}
use Rattle.etcd_types.specs.declared.answer.Answer.{Answer}
use Rattle.etcd_types.specs.declared.answer.Answer.TheVariants.{Done, Refused}
use Rattle.etcd_types.specs.declared.answer.Refusal.{Refusal}
use Rattle.etcd_types.specs.declared.answer.Reply.{Reply}
use Rattle.etcd_types.specs.declared.request.Request.{Request}
use Rattle.core_model.specs.declared.event.CoreEvent.{CoreEvent}
use Rattle.core_model.specs.declared.event.CoreEvent.TheVariants as event
use Rattle.core_model.specs.declared.event.Outcome.{Outcome}
use Rattle.core_model.specs.declared.event.StepFault.{StepFault}
use Rattle.core_model.specs.declared.event.StepFault.TheVariants as fault
use Rattle.core_model.specs.State.{Core}
use Rattle.core_model.specs.Step.{is_worn, stepped}
use Rattle.core_model.specs.Stepped.{Stepped}
use Rattle.core_laws.proofs.Steps.Outcomes.{worn_does_nothing}
use Rattle.script_text.specs.declared.item.Item.{Item}
use Rattle.script_text.specs.declared.item.Item.TheVariants as item
use Rattle.script_text.specs.declared.line.Line.{Line}
use Rattle.script_text.specs.declared.line.Line.TheVariants as line
use Rattle.world_model.specs.Gains.{Replies, all_fetched, body_if, line_if, reply_items}
use Rattle.world_model.specs.Lives.{begins, names, world_of, life_from, life, asked_as, is_named}
use Rattle.world_model.specs.Places.{nth, is_among, place_at, with_posted, with_call}
use Rattle.world_model.specs.State.{Place, World, starting_world}
use Rattle.world_model.specs.Transcript.{transcript_from, done, transcript}
use Rattle.world_laws.proofs.Effects.{Turn, ticks, asks_it, posts_it, calls, opens, closes, answers, loses, delivers, cuts, takes, waits, leaves, Begins, first, again, Effect, starts, sets, executes, expires, applies, pushes, turns}
use Rattle.world_laws.proofs.Effects as effects
use Rattle.held_laws.proofs.Items.{asked-append, asked_still, or_later}
use Rattle.held_laws.proofs.Worlds.{one_place, asked_asks, posted_asks}
use Rattle.prefix_laws.specs.Comes.{Comes, at_once, fetched, AllCome}
use Rattle.prefix_laws.proofs.Fetched.{turn_comes}
use Rattle.prefix_laws.proofs.Told.{AllItems, items-append, IsTold, every_item, is_told, replies_told}
use Rattle.renewed_laws.proofs.Gains.{is_other, stepped_to, Gain, gain}
use Rattle.renewed_laws.proofs.Gains as gains
use Rattle.renewed_laws.proofs.Lives.{Lives, life_on}
use Rattle.renewed_laws.proofs.Replies.{Each}
use Rattle.renewed_laws.proofs.Stories.{later, renews_on}
use Rattle.renewed_laws.proofs.Turns.{answer_turned, turned}
use Rattle.renewed_laws.proofs.Worlds.{answer_by, answers_of, life_of, WorldOk, Turned}
use Rattle.executed_laws.specs.Executed.{Source, IsExecuted, RepliesAreExecuted}
use Rattle.executed_laws.specs.Executed as executed
use Rattle.executed_laws.specs.Laws.{EachScriptsRepliesAreExecuted}
use Rattle.executed_laws.proofs.Keeping.{turn_rows}
use Rattle.executed_laws.proofs.Naming.{Unnamed, Unnaming, named-append}
use Rattle.executed_laws.proofs.Sources.{Answered, Steps, ready_executed}
use Rattle.executed_laws.proofs.Stories.{story_on}
use Rattle.executed_laws.proofs.Worlds.{BeginsAs, begins_on, AllKept, all_kept}

-- ---- the life goes on

source_on : (namespace prefix : List ℕ) (told more : List Item) (p ticket : ℕ) (q : Request) (reply : Reply) → Unnaming p more → Source namespace prefix told p ticket q reply → Source namespace prefix (told ++ more) p ticket q reply
source_on namespace prefix told more p ticket q reply u (executed.called c) = executed.called (record { word = c.word; answer = c.answer; story = story_on told more p ticket q _ c.answer c.story; heard = c.heard })
source_on namespace prefix told more p ticket q reply u (executed.acquired c) =
    executed.acquired (record { session = c.session; answer = c.answer; transaction = c.transaction; claim = c.claim; story = story_on told more p ticket q _ c.answer c.story; heard = c.heard; claimed = c.claimed; is = c.is })
source_on namespace prefix told more p ticket q reply u (executed.wrote c) =
    executed.wrote (record { created = c.created; answer = c.answer; transaction = c.transaction; story = story_on told more p ticket q _ c.answer c.story; heard = c.heard; wrote = c.wrote })
source_on namespace prefix told more p ticket q reply u (executed.kept lease e r) = executed.kept lease e (renews_on namespace told more p ticket lease reply r)
source_on namespace prefix told more p ticket q reply u (executed.unsent n) = executed.unsent (λ k. named-append p ticket told more ∙ (λ i. n k i || u ticket i))

executed_on : (namespace prefix : List ℕ) (told more : List Item) (p ticket : ℕ) (reply : Reply) → Unnaming p more → IsExecuted namespace prefix told p ticket reply → IsExecuted namespace prefix (told ++ more) p ticket reply
executed_on namespace prefix told more p ticket reply u x =
    record { request = x.request; asked = asked_still p ticket told more x.request x.asked; source = source_on namespace prefix told more p ticket x.request reply u x.source }

-- replies and their JSON

record IsQuiet (p : ℕ) (i : Item) : Type 0 where
  lives : begins p i ≡ false
  names : (t : ℕ) → names p t i ≡ false

its_quiet : (p : ℕ) (i : Item) → is_told i ≡ true → IsQuiet p i
its_quiet p (item.Reply n t a) h = record { lives = refl; names = λ t. refl }
its_quiet p (item.Body n t status text) h = record { lives = refl; names = λ t. refl }
its_quiet p (item.World members namespace leasing) h = absurd (cc)
its_quiet p (item.Started n) h = absurd (cc)
its_quiet p (item.Restarted n) h = absurd (cc)
its_quiet p (item.Clock n millis) h = absurd (cc)
its_quiet p (item.Asked n t q) h = absurd (cc)
its_quiet p (item.Posted n t path body) h = absurd (cc)
its_quiet p (item.Ticked n) h = absurd (cc)
its_quiet p (item.Sent n call member t q) h = absurd (cc)
its_quiet p (item.Opened n stream member q) h = absurd (cc)
its_quiet p (item.Closed n stream) h = absurd (cc)
its_quiet p (item.Executed call a) h = absurd (cc)
its_quiet p (item.Answered call) h = absurd (cc)
its_quiet p (item.Lost call) h = absurd (cc)
its_quiet p (item.Pushed stream i) h = absurd (cc)
its_quiet p (item.Delivered stream) h = absurd (cc)
its_quiet p (item.Cut stream) h = absurd (cc)
its_quiet p (item.Taken n t i) h = absurd (cc)
its_quiet p (item.Pending n t) h = absurd (cc)
its_quiet p (item.Left n t) h = absurd (cc)
its_quiet p (item.Expired lease) h = absurd (cc)
its_quiet p (item.Applied member revision) h = absurd (cc)

told_lives : (p : ℕ) (xs : List Item) → list_all is_told xs ≡ true → Lives p xs
told_lives p [] h l = sym (append-nil l)
told_lives p (x ∷ xs) h l =
    ap (λ b. cond b (life_from p [] xs) (life_from p (l ++ x ∷ []) xs)) (its_quiet p x (and_first (is_told x) (list_all is_told xs) h)).lives
    ∙ told_lives p xs (and_second (is_told x) (list_all is_told xs) h) (l ++ x ∷ []) ∙ append_assoc l (x ∷ []) xs

told_unnaming : (p : ℕ) (xs : List Item) → list_all is_told xs ≡ true → Unnaming p xs
told_unnaming p [] h t = refl
told_unnaming p (x ∷ xs) h t =
    ap (λ b. b || is_named p t xs) ((its_quiet p x (and_first (is_told x) (list_all is_told xs) h)).names t) ∙ told_unnaming p xs (and_second (is_told x) (list_all is_told xs) h) t

-- ---- an item, by those before it

abbrev pub Tells : List Item → Item → Type 0
Tells before (item.Reply p ticket a) = (reply : Reply) → a ≡ Done reply → IsExecuted (world_of before).0 (world_of before).1 (life p before) p ticket reply
Tells before _ = Unit {0}

names_are : (items : List Item) (namespace prefix : List ℕ) → BeginsAs items namespace prefix → world_of items ≡ (namespace, prefix)
names_are items namespace prefix b = ap world_of b.is

-- ---- the replies of a turn

-- the request that a turn asks
record AsksNow (p : ℕ) (told own : List Item) (ticket : ℕ) (q : Request) : Type 0 where
  free : asked_as p ticket told ≡ None
  asked : asked_as p ticket (told ++ own) ≡ Some q
  silent : Unnaming p own

same_ask : (t t' word word' : ℕ) (q q' : Request) → event.Ask t q word ≡ event.Ask t' q' word' → (t ≡ t') × (q ≡ q')
same_ask t t' word word' q q' e = (cc, cc)

asks_now : (p : ℕ) (told own : List Item) (t t' word word' : ℕ) (q q' : Request) → event.Ask t q word ≡ event.Ask t' q' word' → AsksNow p told own t q → AsksNow p told own t' q'
asks_now p told own t t' word word' q q' e a = let s = same_ask t t' word word' q q' e in subst (λ (n : ℕ). AsksNow p told own n q') s.0 (subst (AsksNow p told own t) s.1 a)

turn_asks : (namespace : List ℕ) (items : List Item) (w : World) (p : ℕ) (x : Place) (e : CoreEvent) (o : Outcome) (v : World) (y : Place) (own : List Item) (told : Replies) → WorldOk namespace items w → place_at w p ≡ Some x
    → Turn w p (stepped_to x e) e o v y own told → (ticket word : ℕ) (q : Request) → e ≡ event.Ask ticket q word → AsksNow p (life p items) own ticket q
turn_asks namespace items w p x _ _ _ _ _ _ h at (asks_it t r o n) ticket word q f =
    let free = (h.places p x at).unasked t n in
    asks_now p (life p items) (item.Asked p t r ∷ []) t ticket (Rattle.world_model.specs.State.word w) word r q f (record {
      free = free;
      asked = asked-append p t (life p items) (item.Asked p t r ∷ []) ∙ ap (λ (a : Option Request). or_later a (asked_as p t (item.Asked p t r ∷ []))) free ∙ (asked_asks p t r).asks;
      silent = λ k. refl;
    })
turn_asks namespace items w p x _ _ _ _ _ _ h at (posts_it t path body r o n) ticket word q f =
    let free = (h.places p x at).unasked t n in
    let own = item.Posted p t path body ∷ item.Asked p t r ∷ [] in
    asks_now p (life p items) own t ticket (Rattle.world_model.specs.State.word w) word r q f (record {
      free = free;
      asked = asked-append p t (life p items) own ∙ ap (λ (a : Option Request). or_later a (asked_as p t own)) free ∙ (posted_asks p t path body r).asks;
      silent = λ k. refl;
    })
turn_asks namespace items w p x _ _ _ _ _ _ h at (ticks o) ticket word q f = absurd (cc)
turn_asks namespace items w p x _ _ _ _ _ _ h at (calls own member t r) ticket word q f = absurd (cc)
turn_asks namespace items w p x _ _ _ _ _ _ h at (opens own member ask) ticket word q f = absurd (cc)
turn_asks namespace items w p x _ _ _ _ _ _ h at (closes own number e) ticket word q f = absurd (cc)
turn_asks namespace items w p x _ _ _ _ _ _ h at (answers number call a o e k) ticket word q f = absurd (cc)
turn_asks namespace items w p x _ _ _ _ _ _ h at (loses number call o e) ticket word q f = absurd (cc)
turn_asks namespace items w p x _ _ _ _ _ _ h at (delivers number s i more o a b c d e) ticket word q f = absurd (cc)
turn_asks namespace items w p x _ _ _ _ _ _ h at (cuts number s o a b c d) ticket word q f = absurd (cc)
turn_asks namespace items w p x _ _ _ _ _ _ h at (takes t i) ticket word q f = absurd (cc)
turn_asks namespace items w p x _ _ _ _ _ _ h at (waits t o n) ticket word q f = absurd (cc)
turn_asks namespace items w p x _ _ _ _ _ _ h at (leaves t o) ticket word q f = absurd (cc)

-- a turn that hears no answer
hears_none : (l : Rattle.renewed_laws.proofs.Stories.Life) (w : World) (p : ℕ) (x : Place) (e : CoreEvent) (o : Outcome) (v : World) (y : Place) (own rest : List Item) (told : Replies) → Turn w p x e o v y own told → is_other (own ++ rest) ≡ true
    → (call : ℕ) (a : Answer) → e ≡ event.Answer call a → Answered l call a own
hears_none l w p x _ _ _ _ _ rest _ (ticks o) other call a f = absurd (cc)
hears_none l w p x _ _ _ _ _ rest _ (asks_it t r o n) other call a f = absurd (cc)
hears_none l w p x _ _ _ _ _ rest _ (posts_it t path body r o n) other call a f = absurd (cc)
hears_none l w p x _ _ _ _ _ rest _ (calls own member t r) other call a f = absurd (cc)
hears_none l w p x _ _ _ _ _ rest _ (opens own member ask) other call a f = absurd (cc)
hears_none l w p x _ _ _ _ _ rest _ (closes own number e) other call a f = absurd (cc)
hears_none l w p x _ _ _ _ _ rest _ (answers number c b o e k) other call a f = absurd (cc)
hears_none l w p x _ _ _ _ _ rest _ (loses number c o e) other call a f = absurd (cc)
hears_none l w p x _ _ _ _ _ rest _ (delivers number s i more o a' b c d e) other call a f = absurd (cc)
hears_none l w p x _ _ _ _ _ rest _ (cuts number s o a' b c d) other call a f = absurd (cc)
hears_none l w p x _ _ _ _ _ rest _ (takes t i) other call a f = absurd (cc)
hears_none l w p x _ _ _ _ _ rest _ (waits t o n) other call a f = absurd (cc)
hears_none l w p x _ _ _ _ _ rest _ (leaves t o) other call a f = absurd (cc)

-- the turn's own items are no replies
own_tells : (before : List Item) (w : World) (p : ℕ) (x : Place) (e : CoreEvent) (o : Outcome) (v : World) (y : Place) (own : List Item) (told : Replies) → Turn w p x e o v y own told → AllItems Tells before own
own_tells before w p x _ _ _ _ _ _ (ticks o) = (tt, tt)
own_tells before w p x _ _ _ _ _ _ (asks_it t r o n) = (tt, tt)
own_tells before w p x _ _ _ _ _ _ (posts_it t path body r o n) = (tt, (tt, tt))
own_tells before w p x _ _ _ _ _ _ (calls own member t r) = (tt, tt)
own_tells before w p x _ _ _ _ _ _ (opens own member ask) = (tt, tt)
own_tells before w p x _ _ _ _ _ _ (closes own number e) = (tt, tt)
own_tells before w p x _ _ _ _ _ _ (answers number c b o e k) = (tt, tt)
own_tells before w p x _ _ _ _ _ _ (loses number c o e) = (tt, tt)
own_tells before w p x _ _ _ _ _ _ (delivers number s i more o a b c d e) = (tt, tt)
own_tells before w p x _ _ _ _ _ _ (cuts number s o a b c d) = (tt, tt)
own_tells before w p x _ _ _ _ _ _ (takes t i) = (tt, by (is_among x.posted t))
  where
    by : (b : Bool) → AllItems Tells (before ++ item.Taken p t i ∷ []) (line_if b p t i)
    by false = tt
    by true = (tt, tt)
own_tells before w p x _ _ _ _ _ _ (waits t o n) = (tt, tt)
own_tells before w p x _ _ _ _ _ _ (leaves t o) = (tt, tt)

not_worn : (c : Core) (e : CoreEvent) (now : ℕ) (o : Outcome) → (stepped c e now).outcome ≡ Ok o → is_worn c ≡ false
not_worn c e now o is = by (is_worn c) refl
  where
    by : (b : Bool) → is_worn c ≡ b → b ≡ false
    by false u = refl
    by true u = absurd (let f : ◌≡◌ {A = Result Outcome StepFault} (Err fault.Worn) (Ok o) = sym (ap (λ (s : Stepped). s.outcome) (worn_does_nothing c e now u)) ∙ is in cc)

-- a reply that comes of the step
comes_executed : (prefix namespace : List ℕ) (items own : List Item) (w v : World) (p : ℕ) (x y : Place) (e : CoreEvent) (told : Replies) → Steps prefix (life_of namespace w.calls items p x) (nth y.calls) (answers_of v.calls) own x.core e x.clock
    → ((ticket word : ℕ) (q : Request) → e ≡ event.Ask ticket q word → AsksNow p (life p items) own ticket q) → Unnamed p (life p items) → (ticket : ℕ) (reply : Reply) → Comes x.core e x.clock ticket reply
    → IsExecuted namespace prefix (life p items ++ own) p ticket reply
comes_executed prefix namespace items own w v p x y e told s asks unnamed ticket reply (fetched r) = ready_executed prefix (life_of namespace w.calls items p x) (nth y.calls) (answers_of v.calls) own x.core e x.clock s ticket reply r
comes_executed prefix namespace items own w v p x y e told s asks unnamed ticket reply (at_once q word f is) =
    let a = asks ticket word q f in
    record {
      request = q;
      asked = a.asked;
      source = executed.unsent (λ n. named-append p ticket (life p items) own ∙ (λ i. unnamed ticket n a.free i || a.silent ticket i));
    }

all_executed : (prefix namespace : List ℕ) (items own : List Item) (w v : World) (p : ℕ) (x y : Place) (e : CoreEvent) (told : Replies) → BeginsAs items namespace prefix → Lives p own
    → Steps prefix (life_of namespace w.calls items p x) (nth y.calls) (answers_of v.calls) own x.core e x.clock → ((ticket word : ℕ) (q : Request) → e ≡ event.Ask ticket q word → AsksNow p (life p items) own ticket q) → Unnamed p (life p items)
    → (rs : Replies) → AllCome x.core e x.clock rs → Each (λ r. (told : List Item) → list_all is_told told ≡ true → Tells ((items ++ own) ++ told) (item.Reply p r.0 r.1)) rs
all_executed prefix namespace items own w v p x y e told b quiet s asks unnamed [] c = tt
all_executed prefix namespace items own w v p x y e told b quiet s asks unnamed (r ∷ rs) c = (one, all_executed prefix namespace items own w v p x y e told b quiet s asks unnamed rs c.1)
  where
    one : (more : List Item) → list_all is_told more ≡ true → Tells ((items ++ own) ++ more) (item.Reply p r.0 r.1)
    one more h reply is =
        let k = executed_on namespace prefix (life p items ++ own) more p r.0 reply (told_unnaming p more h) (comes_executed prefix namespace items own w v p x y e told s asks unnamed r.0 reply (c.0 reply is)) in
        let still : life p ((items ++ own) ++ more) ≡ (life p items ++ own) ++ more = life_on p (items ++ own) more (told_lives p more h) ∙ ap (λ (xs : List Item). xs ++ more) (life_on p items own quiet) in
        let named = names_are ((items ++ own) ++ more) namespace prefix (begins_on (items ++ own) more namespace prefix (begins_on items own namespace prefix b)) in
        subst (λ (n : List ℕ × List ℕ). IsExecuted n.0 n.1 (life p ((items ++ own) ++ more)) p r.0 reply) (sym named) (subst (λ (xs : List Item). IsExecuted namespace prefix xs p r.0 reply) (sym still) k)

turn_tells : (items own : List Item) (w v : World) (p : ℕ) (x y : Place) (e : CoreEvent) (o : Outcome) (told : Replies) → WorldOk w.namespace items w → AllKept items w → Turned w.namespace items own w v p x y e told
    → place_at w p ≡ Some x → (stepped x.core e x.clock).outcome ≡ Ok o → Turn w p (stepped_to x e) e o v y own told → ((call : ℕ) (a : Answer) → e ≡ event.Answer call a → Answered (life_of w.namespace w.calls items p x) call a own)
    → AllItems Tells items (own ++ flat_map (reply_items p (all_fetched y told).place.posted) (all_fetched y told).replies)
turn_tells items own w v p x y e o told h k t at is turn hears =
    let f = all_fetched y told in
    let place = h.places p x at in
    let sent = k.sent.places p x at in
    let working = not_worn x.core e x.clock o is in
    let s : Steps w.leasing (life_of w.namespace w.calls items p x) (nth y.calls) (answers_of v.calls) own x.core e x.clock = record {
      ok = place.core;
      fits = k.fits p x at;
      owners = k.owners p x at;
      working = working;
      none = k.none p x at working;
      named = place.namespace_is;
      prefixed = sent.prefixed;
      sent = sent.sent;
      waits = sent.waits;
      rows = turn_rows w.namespace items own w v p x y e told h t;
      answered = hears;
    } in
    items-append Tells items own (flat_map (reply_items p f.place.posted) f.replies) (own_tells items w p (stepped_to x e) e o v y own told turn)
    (subst (λ (xs : List Item). AllItems Tells xs (flat_map (reply_items p f.place.posted) f.replies)) (append-nil (items ++ own))
    (replies_told Tells (items ++ own) p f.place.posted (λ told ticket status text all. tt) [] f.replies refl
    (all_executed w.leasing w.namespace items own w v p x y e told k.sent.begins (t.lives p) s (turn_asks w.namespace items w p x e o v y own told h at turn) sent.unnamed f.replies (turn_comes w.namespace items w p x e o v y own told h at is turn))))

-- ---- all lines

refused_tells : (before : List Item) (p : ℕ) (posted : BTreeSet ℕ) (ticket : ℕ) (r : Refusal) → AllItems Tells before (reply_items p posted (ticket, Refused r))
refused_tells before p posted ticket r = (λ reply is. no_reply reply is, by (is_among posted ticket))
  where
    no_reply : {A : Type 0} (reply : Reply) → Refused r ≡ Done reply → A
    no_reply reply e = absurd (cc)

    by : (b : Bool) → AllItems Tells (before ++ item.Reply p ticket (Refused r) ∷ []) (body_if b p ticket (Refused r))
    by false = tt
    by true = (tt, tt)

start_tells : (items : List Item) (w : World) (p clock life' : ℕ) (i : Item) → Begins w p clock life' i → AllItems Tells items (i ∷ [])
start_tells items w p _ _ _ (first e) = (tt, tt)
start_tells items w p _ _ _ (again x e) = (tt, tt)

effect_tells : (items : List Item) (w after : World) (gained : List Item) → WorldOk w.namespace items w → AllKept items w → Effect w after gained → is_other gained ≡ true → AllItems Tells items gained
effect_tells items w _ _ h k (starts p clock life' i b) o = start_tells items w p clock life' i b
effect_tells items w _ _ h k (sets p millis x e forward) o = (tt, tt)
effect_tells items w _ _ h k (effects.refuses_post p ticket path body a x e) o = absurd (cc)
effect_tells items w _ _ h k (executes number call e fresh) o = (tt, tt)
effect_tells items w _ _ h k (expires lease t e due) o = (tt, tt)
effect_tells items w _ _ h k (applies member revision t e) o = (tt, tt)
effect_tells items w _ _ h k (pushes number st t i e a b c) o = (tt, tt)
effect_tells items w _ _ h k (turns p x e out v y own told at is t) o =
    let f = all_fetched y told in
    let rest = flat_map (reply_items p f.place.posted) f.replies in
    turn_tells items own w v p x y e out told h k (turned w.namespace items rest w p x e out v y own told h at is t o) at is t (hears_none (life_of w.namespace w.calls items p x) w p (stepped_to x e) e out v y own rest told t o)

same_answer : (a b : ℕ) (x y : Answer) → event.Answer a x ≡ event.Answer b y → (a ≡ b) × (x ≡ y)
same_answer a b x y e = (cc, cc)

gain_tells : (items : List Item) (w after : World) (gained : List Item) → WorldOk w.namespace items w → AllKept items w → Gain w after gained → AllItems Tells items gained
gain_tells items w _ _ h k (gains.answers number call x a o there is at lived out) =
    let p = call.proxy in
    let e = event.Answer call.own a in
    let known = h.calls number call there in
    let one : known.place ≡ x = one_place known.place x (sym known.at ∙ at) in
    let own : nth x.calls call.own ≡ Some number = ap (λ (y : Place). nth y.calls call.own) (sym one) ∙ known.own (lived ∙ ap (λ (y : Place). y.life) (sym one)) in
    let l = life_of w.namespace w.calls items p x in
    let its : Answered l call.own a (item.Answered number ∷ []) = record { number = number; own = own; is = ap answer_by there ∙ is; tells = refl } in
    turn_tells items (item.Answered number ∷ []) w (with_call w number (record call { settled = true })) p x (stepped_to x e) e o [] h k (answer_turned w.namespace items w number call x a h there is at lived) at out
    (answers number call a o there is)
    (λ n b f. let s = same_answer call.own n a b f in subst (λ (i : ℕ). Answered l i b (item.Answered number ∷ [])) s.0 (subst (λ (z : Answer). Answered l call.own z (item.Answered number ∷ [])) s.1 its))
gain_tells items w _ _ h k (gains.refuses_post p ticket path body r x e) = (tt, refused_tells (items ++ item.Posted p ticket path body ∷ []) p (with_posted ticket x).posted ticket r)
gain_tells items w _ _ h k (gains.other after gained e o) = effect_tells items w after gained h k e o

lines_tell : (script : List Line) → IsTold script AllKept Tells
lines_tell script = record {
  first = λ members namespace leasing. tt;
  line = λ namespace items w l gained n e ok h. gain_tells items w (done w l).world gained (subst (λ (ns : List ℕ). WorldOk ns items w) (sym ok.namespace_is) ok) h (gain w l gained e);
}

-- ---- a whole transcript

-- it is empty, or begins with its world's item
data Starts (items : List Item) : Type 0 where
  empty : items ≡ [] → Starts items
  first_is : (members : ℕ) (namespace leasing : List ℕ) (rest : List Item) → items ≡ item.World members namespace leasing ∷ rest → Starts items

it_starts : (lines : List Line) → Starts (transcript lines)
it_starts [] = empty refl
it_starts (line.World members namespace leasing ∷ lines) = first_is members namespace leasing (transcript_from (Some (starting_world members namespace leasing)) lines) refl
it_starts (line.Start p ∷ lines) = empty refl
it_starts (line.Clock p millis ∷ lines) = empty refl
it_starts (line.Ask p ticket q ∷ lines) = empty refl
it_starts (line.Post p ticket path body ∷ lines) = empty refl
it_starts (line.Tick p ∷ lines) = empty refl
it_starts (line.Send p ∷ lines) = empty refl
it_starts (line.Exec number ∷ lines) = empty refl
it_starts (line.Answer number ∷ lines) = empty refl
it_starts (line.Lose number ∷ lines) = empty refl
it_starts (line.Push number ∷ lines) = empty refl
it_starts (line.Progress number ∷ lines) = empty refl
it_starts (line.Deliver number ∷ lines) = empty refl
it_starts (line.Cut number ∷ lines) = empty refl
it_starts (line.Take p ticket ∷ lines) = empty refl
it_starts (line.Leave p ticket ∷ lines) = empty refl
it_starts (line.Expire lease ∷ lines) = empty refl
it_starts (line.Apply member revision ∷ lines) = empty refl

no_items : {A : Type 0} (earlier later : List Item) (i : Item) → [] ≡ earlier ++ i ∷ later → A
no_items [] later i e = absurd (cc)
no_items (j ∷ earlier) later i e = absurd (cc)

same_first : (i j : Item) (xs ys : List Item) → i ∷ xs ≡ j ∷ ys → i ≡ j
same_first i j xs ys e = cc

names_stay : (items earlier later : List Item) (p ticket : ℕ) (a : Answer) → Starts items → items ≡ earlier ++ item.Reply p ticket a ∷ later → world_of earlier ≡ world_of items
names_stay items earlier later p ticket a (empty n) e = no_items earlier later (item.Reply p ticket a) (sym n ∙ e)
names_stay items [] later p ticket a (first_is members namespace leasing rest n) e = absurd (no_world (same_first _ _ rest later (sym n ∙ e)))
  where
    no_world : item.World members namespace leasing ≡ item.Reply p ticket a → ⊥
    no_world f = absurd (cc)
names_stay items (i ∷ earlier) later p ticket a (first_is members namespace leasing rest n) e =
    ap (λ (j : Item). world_of (j ∷ earlier)) (sym (same_first _ i rest (earlier ++ item.Reply p ticket a ∷ later) (sym n ∙ e))) ∙ ap world_of (sym n)

pub replies_executed : EachScriptsRepliesAreExecuted
replies_executed lines shows earlier later p ticket reply e =
    let t = every_item AllKept Tells lines (all_kept lines) (lines_tell lines) shows earlier later (item.Reply p ticket (Done reply)) e in
    subst (λ (n : List ℕ × List ℕ). IsExecuted n.0 n.1 (life p earlier) p ticket reply) (names_stay (transcript lines) earlier later p ticket (Done reply) (it_starts lines) e) (t reply refl)
