-- With leasing off each item that tells an ok reply to a request, but to a keepalive, stands behind one that names its ticket.
use Rattle.std.proofs.Common.{◌≡◌, ℕ, Bool, true, false, List, [], ◌∷◌, ◌++◌, append_assoc, append-nil, Some, refl, sym, ◌∙◌, ap, subst}
use Rattle.std.specs.Prelude.{flat_map}
use Rattle.std.specs.List.{list_all}
use Rattle.std.specs.BTreeSet.{BTreeSet}
use Rattle.etcd_types.specs.declared.answer.Answer.{Answer}
use Rattle.etcd_types.specs.declared.answer.Answer.TheVariants.{Done, Refused}
use Rattle.etcd_types.specs.declared.answer.Reply.{Reply}
use Rattle.etcd_types.specs.declared.request.Request.{Request}
use Rattle.etcd_types.specs.declared.request.Request.TheVariants as request
use Rattle.etcd_types.specs.Keys.{is_empty}
use Rattle.etcd_types.proofs.Bools.{and_first, and_second}
use Rattle.core_model.specs.declared.event.CoreEvent.{CoreEvent}
use Rattle.core_model.specs.declared.event.CoreEvent.TheVariants as event
use Rattle.core_model.specs.declared.event.Outcome.{Outcome}
use Rattle.core_model.specs.Fits.{is_keepalive}
use Rattle.core_model.specs.State.{Core}
use Rattle.core_laws.proofs.Steps.Lists.{same_number}
use Rattle.core_model.specs.Step.{stepped}
use Rattle.script_text.specs.declared.item.Item.{Item}
use Rattle.script_text.specs.declared.item.Item.TheVariants as item
use Rattle.script_text.specs.declared.line.Line.{Line}
use Rattle.world_model.specs.Gains.{Replies, all_fetched, reply_items, line_if, body_if}
use Rattle.world_model.specs.Lives.{life, rest_of_life, asked_as, is_named}
use Rattle.world_model.specs.Places.{nth, is_among, with_posted, with_call}
use Rattle.world_model.specs.State.{Place, World}
use Rattle.world_model.specs.Transcript.{done}
use Rattle.world_laws.proofs.Effects.{Turn, ticks, asks_it, posts_it, calls, opens, closes, answers, loses, delivers, cuts, takes, waits, leaves, Begins, first, again, Effect, starts, sets, executes, expires, applies, pushes, turns}
use Rattle.world_laws.proofs.Effects as effects
use Rattle.held_laws.proofs.Items.{asked_still}
use Rattle.keep_laws.proofs.Rows.{All}
use Rattle.keep_laws.proofs.Runs.{found}
use Rattle.renewed_laws.proofs.Gains.{is_other, stepped_to, Gain, gain}
use Rattle.renewed_laws.proofs.Gains as gains
use Rattle.renewed_laws.proofs.Lives.{Lives, lives-append, life_on}
use Rattle.renewed_laws.proofs.Replies.{Each}
use Rattle.renewed_laws.proofs.Rows.{Row, rows_step}
use Rattle.renewed_laws.proofs.Stories.{Life, later}
use Rattle.renewed_laws.proofs.Turns.{answer_turned, turned}
use Rattle.renewed_laws.proofs.Worlds.{answers_of, life_of, WorldOk, come_executes, Turned}
use Rattle.prefix_laws.specs.Comes.{IsReady, Comes, AllCome}
use Rattle.prefix_laws.proofs.Fetched.{turn_comes}
use Rattle.prefix_laws.proofs.Places.{named_front}
use Rattle.prefix_laws.proofs.Told.{AllItems, items-append, IsTold, every_item, is_told, replies_told}
use Rattle.plain_laws.specs.Laws.{leasing_of, LeasingOffNamesReplies, LeasingOffReadsAreTrue}
use Rattle.plain_laws.proofs.Cores.{comes_ready}
use Rattle.plain_laws.proofs.Keeping.{PlainWorld, step_ready, plain_kept}

-- ---- what an item tells

abbrev TellsNamed : List Item → ℕ → ℕ → Type 0
TellsNamed earlier p ticket =
    (more : List Item) → is_empty (leasing_of (earlier ++ more)) ≡ true → (q : Request) → asked_as p ticket (life p earlier) ≡ Some q → is_keepalive q ≡ false → is_named p ticket (life p earlier) ≡ true

abbrev AnswerTells : List Item → ℕ → ℕ → Answer → Type 0
AnswerTells earlier p ticket (Done reply) = TellsNamed earlier p ticket
AnswerTells earlier p ticket (Refused r) = Unit {0}

abbrev Tells : List Item → Item → Type 0
Tells earlier (item.Reply p ticket a) = AnswerTells earlier p ticket a
Tells earlier _ = Unit {0}

-- replies and their JSON begin no life
told_lives : (p : ℕ) (told : List Item) → list_all is_told told ≡ true → Lives p told
told_lives p [] h = λ l. sym (append-nil l)
told_lives p (i ∷ told) h = lives-append p (i ∷ []) told (one i (and_first (is_told i) (list_all is_told told) h)) (told_lives p told (and_second (is_told i) (list_all is_told told) h))
  where
    one : (i : Item) → is_told i ≡ true → Lives p (i ∷ [])
    one (item.Reply q t a) h = λ l. refl
    one (item.Body q t s b) h = λ l. refl
    one (item.World m k l) h = absurd (cc)
    one (item.Started q) h = absurd (cc)
    one (item.Restarted q) h = absurd (cc)
    one (item.Clock q m) h = absurd (cc)
    one (item.Asked q t r) h = absurd (cc)
    one (item.Posted q t a b) h = absurd (cc)
    one (item.Ticked q) h = absurd (cc)
    one (item.Sent q c m t r) h = absurd (cc)
    one (item.Opened q c m r) h = absurd (cc)
    one (item.Closed q c) h = absurd (cc)
    one (item.Executed c a) h = absurd (cc)
    one (item.Answered c) h = absurd (cc)
    one (item.Lost c) h = absurd (cc)
    one (item.Pushed s i) h = absurd (cc)
    one (item.Delivered s) h = absurd (cc)
    one (item.Cut s) h = absurd (cc)
    one (item.Taken q t i) h = absurd (cc)
    one (item.Pending q t) h = absurd (cc)
    one (item.Left q t) h = absurd (cc)
    one (item.Expired l) h = absurd (cc)
    one (item.Applied m r) h = absurd (cc)

-- ---- the replies of a turn

some_is : (a b : Request) → Some a ≡ Some b → a ≡ b
some_is a b e = cc

each_comes : (c : Core) (e : CoreEvent) (now : ℕ) (Q : ℕ × Answer → Type 0) → ((r : ℕ × Answer) → ((reply : Reply) → r.1 ≡ Done reply → Comes c e now r.0 reply) → Q r) → (rs : Replies) → AllCome c e now rs → Each Q rs
each_comes c e now Q f [] h = tt
each_comes c e now Q f (r ∷ rs) h = (f r h.0, each_comes c e now Q f rs h.1)

turn_tells : (namespace : List ℕ) (items own : List Item) (w v : World) (p : ℕ) (x y : Place) (e : CoreEvent) (told : Replies) → WorldOk namespace items w → PlainWorld items w → Turned namespace items own w v p x y e told
    → AllCome x.core e x.clock (all_fetched y told).replies → AllItems Tells items own
    → AllItems Tells items (own ++ flat_map (reply_items p (all_fetched y told).place.posted) (all_fetched y told).replies)
turn_tells namespace items own w v p x y e told h so t comes mine =
    items-append Tells items own (flat_map (reply_items p posted) replies) mine
    (subst (λ (b : List Item). AllItems Tells b (flat_map (reply_items p posted) replies)) (append-nil (items ++ own))
    (replies_told Tells (items ++ own) p posted (λ more ticket status text k. tt) [] replies refl
    (each_comes x.core e x.clock (λ r. (more : List Item) → list_all is_told more ≡ true → Tells ((items ++ own) ++ more) (item.Reply p r.0 r.1)) (λ r c more k. by_answer r.0 r.1 more c k) replies comes)))
  where
    posted : BTreeSet ℕ
    posted = (all_fetched y told).place.posted

    replies : Replies
    replies = (all_fetched y told).replies

    m : Life
    m = later (life_of namespace w.calls items p x) (nth y.calls) (answers_of v.calls) own

    rows : All (Row (later (life_of namespace w.calls items p x) (nth y.calls) (answers_of v.calls) own)) (stepped x.core e x.clock).core.asks
    rows =
        rows_step (life_of namespace w.calls items p x) (nth y.calls) (answers_of v.calls) own e x.clock x.core
        (record { numbered = t.grows; executed = come_executes w.calls v.calls p x.life y.calls own t.calls }) (h.places p x t.at).core t.brings (h.places p x t.at).rows

    -- the leasing prefix is told by the first item
    off_there : (more rest : List Item) → is_empty (leasing_of (((items ++ own) ++ more) ++ rest)) ≡ true → is_empty w.leasing ≡ true
    off_there more rest o =
        let same : ((items ++ own) ++ more) ++ rest ≡ items ++ (own ++ (more ++ rest)) = append_assoc (items ++ own) more rest ∙ append_assoc items own (more ++ rest) in
        ap (λ (n : List ℕ × List ℕ). is_empty n.1) (sym (so.front (own ++ (more ++ rest)))) ∙ ap (λ (xs : List Item). is_empty (leasing_of xs)) (sym same) ∙ o

    named : (ticket : ℕ) (reply : Reply) (more : List Item) → Comes x.core e x.clock ticket reply → list_all is_told more ≡ true → TellsNamed ((items ++ own) ++ more) p ticket
    named ticket reply more c k rest o q asked alive =
        let stood = so.ready (off_there more rest o) p x t.at in
        let ok = (h.places p x t.at).core in
        let r : IsReady (stepped x.core e x.clock).core ticket reply = comes_ready x.core e x.clock ticket reply ok stood.plain c in
        let f = found (Row (later (life_of namespace w.calls items p x) (nth y.calls) (answers_of v.calls) own)) ticket (stepped x.core e x.clock).core.asks r.ask r.there rows in
        let lived : life p ((items ++ own) ++ more) ≡ life p (items ++ own) ++ more = life_on p (items ++ own) more (told_lives p more k) in
        let there : asked_as p ticket (life p (items ++ own)) ≡ Some r.ask.request = ap (asked_as p ticket) (life_on p items own (t.lives p)) ∙ ap (λ (n : ℕ). asked_as p n (life p items ++ own)) (sym (same_number r.ask.ticket ticket f.1)) ∙ f.0.asked in
        let same : r.ask.request ≡ q = some_is r.ask.request q (sym (asked_still p ticket (life p (items ++ own)) more r.ask.request there) ∙ ap (asked_as p ticket) (sym lived) ∙ asked) in
        let ready = (step_ready p items own x.core e x.clock ok (t.lives p) (so.named p x t.at) stood).ready in
        ap (is_named p ticket) lived ∙ named_front p ticket (life p (items ++ own)) more (ready ticket reply r (ap is_keepalive same ∙ alive))

    by_answer : (ticket : ℕ) (a : Answer) (more : List Item) → ((reply : Reply) → a ≡ Done reply → Comes x.core e x.clock ticket reply) → list_all is_told more ≡ true → Tells ((items ++ own) ++ more) (item.Reply p ticket a)
    by_answer ticket (Done reply) more c k = named ticket reply more (c reply refl) k
    by_answer ticket (Refused r) more c k = tt

-- ---- the own items of a turn tell no reply

own_tells : (items : List Item) (w : World) (p : ℕ) (x : Place) (e : CoreEvent) (o : Outcome) (v : World) (y : Place) (own : List Item) (told : Replies) → Turn w p x e o v y own told → AllItems Tells items own
own_tells items w p x _ _ _ _ _ _ (ticks o) = (tt, tt)
own_tells items w p x _ _ _ _ _ _ (asks_it ticket q o n) = (tt, tt)
own_tells items w p x _ _ _ _ _ _ (posts_it ticket path body q o n) = (tt, (tt, tt))
own_tells items w p x _ _ _ _ _ _ (calls own member ticket q) = (tt, tt)
own_tells items w p x _ _ _ _ _ _ (opens own member ask) = (tt, tt)
own_tells items w p x _ _ _ _ _ _ (closes own number e) = (tt, tt)
own_tells items w p x _ _ _ _ _ _ (answers number call a o e k) = (tt, tt)
own_tells items w p x _ _ _ _ _ _ (loses number call o e) = (tt, tt)
own_tells items w p x _ _ _ _ _ _ (delivers number s i more o a b c d e) = (tt, tt)
own_tells items w p x _ _ _ _ _ _ (cuts number s o a b c d) = (tt, tt)
own_tells items w p x _ _ _ _ _ _ (takes ticket i) = (tt, by (is_among x.posted ticket))
  where
    by : (b : Bool) → AllItems Tells (items ++ item.Taken p ticket i ∷ []) (line_if b p ticket i)
    by false = tt
    by true = (tt, tt)
own_tells items w p x _ _ _ _ _ _ (waits ticket o n) = (tt, tt)
own_tells items w p x _ _ _ _ _ _ (leaves ticket o) = (tt, tt)

-- ---- all lines

start_tells : (items : List Item) (w : World) (p clock life' : ℕ) (i : Item) → Begins w p clock life' i → AllItems Tells items (i ∷ [])
start_tells items w p _ _ _ (first e) = (tt, tt)
start_tells items w p _ _ _ (again x e) = (tt, tt)

effect_tells : (namespace : List ℕ) (items : List Item) (w after : World) (gained : List Item) → WorldOk namespace items w → PlainWorld items w → Effect w after gained → is_other gained ≡ true → AllItems Tells items gained
effect_tells namespace items w _ _ h so (starts p clock life' i b) o = start_tells items w p clock life' i b
effect_tells namespace items w _ _ h so (sets p millis x e forward) o = (tt, tt)
effect_tells namespace items w _ _ h so (effects.refuses_post p ticket path body a x e) o = absurd (cc)
effect_tells namespace items w _ _ h so (executes number call e fresh) o = (tt, tt)
effect_tells namespace items w _ _ h so (expires lease t e due) o = (tt, tt)
effect_tells namespace items w _ _ h so (applies member revision t e) o = (tt, tt)
effect_tells namespace items w _ _ h so (pushes number st t i e a b k) o = (tt, tt)
effect_tells namespace items w _ _ h so (turns p x e out v z own told at is t) o =
    turn_tells namespace items own w v p x z e told h so (turned namespace items (flat_map (reply_items p (all_fetched z told).place.posted) (all_fetched z told).replies) w p x e out v z own told h at is t o)
    (turn_comes namespace items w p x e out v z own told h at is t) (own_tells items w p (stepped_to x e) e out v z own told t)

gain_tells : (namespace : List ℕ) (items : List Item) (w after : World) (gained : List Item) → WorldOk namespace items w → PlainWorld items w → Gain w after gained → AllItems Tells items gained
gain_tells namespace items w _ _ h so (gains.answers number call x a o there is at lived out) =
    let v = with_call w number (record call { settled = true }) in
    turn_tells namespace items (item.Answered number ∷ []) w v call.proxy x (stepped_to x (event.Answer call.own a)) (event.Answer call.own a) [] h so (answer_turned namespace items w number call x a h there is at lived)
    (turn_comes namespace items w call.proxy x (event.Answer call.own a) o v (stepped_to x (event.Answer call.own a)) (item.Answered number ∷ []) [] h at out (answers number call a o there is)) (tt, tt)
gain_tells namespace items w _ _ h so (gains.refuses_post p ticket path body r x e) = (tt, (tt, by (is_among (with_posted ticket x).posted ticket)))
  where
    by : (b : Bool) → AllItems Tells ((items ++ item.Posted p ticket path body ∷ []) ++ item.Reply p ticket (Refused r) ∷ []) (body_if b p ticket (Refused r))
    by false = tt
    by true = (tt, tt)
gain_tells namespace items w _ _ h so (gains.other after gained e o) = effect_tells namespace items w after gained h so e o

plain_told : (script : List Line) → IsTold script PlainWorld Tells
plain_told script = record {
  first = λ members namespace leasing. tt;
  line = λ namespace items w l gained n e h so. gain_tells namespace items w (done w l).world gained h so (gain w l gained e);
}

pub leasing_off : LeasingOffNamesReplies
leasing_off lines s off earlier behind p ticket q reply e asked k =
    every_item PlainWorld Tells lines (plain_kept lines) (plain_told lines) s earlier behind (item.Reply p ticket (Done reply)) e (item.Reply p ticket (Done reply) ∷ behind)
    (ap (λ (xs : List Item). is_empty (leasing_of xs)) (sym e) ∙ off) q asked k

pub off_reads_are_true : LeasingOffReadsAreTrue
off_reads_are_true lines s off earlier behind p ticket ask reply e u =
    let n = named_front p ticket (life p earlier) (rest_of_life p behind) (leasing_off lines s off earlier behind p ticket (request.Range ask) reply e u.asked refl) in
    absurd (let f : true ≡ false = sym n ∙ u.unsent in cc)
