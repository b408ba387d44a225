-- Of the calls that name a write's ticket one at most did it, by the items of a transcript alone.
use Rattle.std.proofs.Common.{◌≡◌, ◌≢◌, ◌⊎◌, inl, inr, ℕ, suc, ◌||◌, ◌&&◌, Bool, true, false, not, cond, List, [], ◌∷◌, ◌++◌, append_assoc, append-nil, length, Option, None, Some, Result, Ok, Err, refl, sym, ◌∙◌, ap, subst}
use Rattle.std.specs.Prelude.{flat_map}
use Rattle.std.specs.List.{list_all}
use Rattle.std.specs.BTreeSet.{BTreeSet}
use Rattle.std.proofs.lemmas.List.Folds.{list_all-append}
use Rattle.etcd_types.proofs.Bools.{and_both, and_first, and_second}
use Rattle.etcd_types.specs.declared.answer.Answer.{Answer}
use Rattle.etcd_types.specs.declared.answer.Answer.TheVariants.{Done, Refused}
use Rattle.etcd_types.specs.declared.answer.Refusal.{Refusal}
use Rattle.etcd_types.specs.declared.answer.Reply.{Reply}
use Rattle.etcd_types.specs.declared.request.Request.{Request}
use Rattle.core_model.specs.declared.event.CoreEvent.{CoreEvent}
use Rattle.core_model.specs.declared.event.CoreEvent.TheVariants as event
use Rattle.core_model.specs.declared.event.Outcome.{Outcome}
use Rattle.core_model.specs.Heard.{is_known}
use Rattle.core_model.specs.Kinds.{writes_keys}
use Rattle.core_model.specs.Step.{stepped}
use Rattle.script_text.specs.declared.item.Item.{Item}
use Rattle.script_text.specs.declared.item.Item.TheVariants as item
use Rattle.script_text.specs.declared.line.Line.{Line}
use Rattle.script_text.specs.declared.line.Line.TheVariants as line
use Rattle.world_model.specs.declared.sent_call.SentCall.{SentCall}
use Rattle.world_model.specs.Gains.{Replies, all_fetched, body_if, line_if, reply_items}
use Rattle.world_model.specs.Lives.{begins, life_from, life, asked_as, is_named, names, world_of}
use Rattle.world_model.specs.Places.{nth, is_among, place_at, with_posted, with_call}
use Rattle.world_model.specs.State.{Place, World, starting_world}
use Rattle.world_model.specs.Transcript.{transcript_from, done, transcript}
use Rattle.world_laws.proofs.Effects.{Turn, ticks, asks_it, posts_it, calls, opens, closes, answers, loses, delivers, cuts, takes, waits, leaves, Begins, first, again, Effect, starts, sets, executes, expires, applies, pushes, turns}
use Rattle.world_laws.proofs.Effects as effects
use Rattle.held_laws.proofs.Items.{asked_still}
use Rattle.prefix_laws.proofs.Told.{AllItems, items-append, IsTold, every_item, is_told, replies_told}
use Rattle.renewed_laws.specs.Renewals.{AnswersShowBytes}
use Rattle.renewed_laws.proofs.Gains.{is_other, stepped_to, Gain, gain}
use Rattle.renewed_laws.proofs.Gains as gains
use Rattle.renewed_laws.proofs.Lives.{Lives, IsStill, life_on}
use Rattle.renewed_laws.proofs.Replies.{Each}
use Rattle.renewed_laws.proofs.Stories.{Executed}
use Rattle.renewed_laws.proofs.Worlds.{answer_by, WorldOk}
use Rattle.executed_laws.proofs.Naming.{Unnamed, Unnaming}
use Rattle.executed_laws.proofs.Worlds.{AllKept}
use Rattle.once_laws.specs.Once.{Did, Run, RanOnce}
use Rattle.once_laws.specs.Laws.{EachScriptsWritesRunOnce}
use Rattle.once_laws.proofs.Answers.{Holds}
use Rattle.once_laws.proofs.Holds.{NotDid, never, spared, Most, NoneOf, DidOf, MostOf, Asks, StillExecuted, still_appended, goes_on}
use Rattle.once_laws.proofs.Lines.{Leaves, most_appended, turn_leaves, TurnOk, fetches, other_most}
use Rattle.once_laws.proofs.Named.{AllNamed, all_front, of_named}
use Rattle.once_laws.proofs.Script.{OnceKept, once_kept, turn_ok, answer_ok, unnamed_of, names_are, gain_once}
use Rattle.once_laws.proofs.Worlds.{WorldOnce, KnownCall, Fetches, is_plain}

-- ---- what an item tells

-- at the moment behind an item, of every write
abbrev pub MostNow : List Item → Type 0
MostNow items = (p t : ℕ) → MostOf (world_of items).0 (world_of items).1 p items (life p items) t

abbrev pub Tells : List Item → Item → Type 0
Tells before (item.Reply p t a) = Holds (world_of before).0 (world_of before).1 p before (life p before) t a
Tells before (item.Executed call a) = (b : Answer) → Executed call b before → ⊥
Tells before _ = Unit {0}

abbrev pub Both : List Item → Item → Type 0
Both before i = MostNow (before ++ i ∷ []) × Tells before i

pub zipped : (A B : List Item → Item → Type 0) (before xs : List Item) → AllItems A before xs → AllItems B before xs → AllItems (λ b i. A b i × B b i) before xs
zipped A B before [] a b = tt
zipped A B before (x ∷ xs) a b = ((a.0, b.0), zipped A B (before ++ x ∷ []) xs a.1 b.1)

-- ---- every moment of a line

-- no item begins a life of the proxy
abbrev pub Calm : ℕ → List Item → Type 0
Calm p xs = list_all (λ i. not (begins p i)) xs ≡ true

calm_lives : (p : ℕ) (xs : List Item) → Calm p xs → Lives p xs
calm_lives p [] h l = sym (append-nil l)
calm_lives p (x ∷ xs) h l =
    by (begins p x) (and_first (not (begins p x)) (list_all (λ i. not (begins p i)) xs) h) (calm_lives p xs (and_second (not (begins p x)) (list_all (λ i. not (begins p i)) xs) h) (l ++ x ∷ []) ∙ append_assoc l (x ∷ []) xs)
  where
    by : (b : Bool) → not b ≡ true → life_from p (l ++ x ∷ []) xs ≡ l ++ x ∷ xs → cond b (life_from p [] xs) (life_from p (l ++ x ∷ []) xs) ≡ l ++ x ∷ xs
    by true e more = absurd (cc)
    by false e more = more

all_cuts : (T : List Item → Item → Type 0) (before xs : List Item) → ((done rest : List Item) (i : Item) → xs ≡ done ++ i ∷ rest → T (before ++ done) i) → AllItems T before xs
all_cuts T before [] f = tt
all_cuts T before (x ∷ xs) f = (
  subst (λ (b : List Item). T b x) (append-nil before) (f [] xs x refl),
  all_cuts T (before ++ x ∷ []) xs (λ done rest i e. subst (λ (b : List Item). T b i) (sym (append_assoc before (x ∷ []) done)) (f (x ∷ done) rest i (ap (λ (ys : List Item). x ∷ ys) e))),
)

-- a moment within
cut_most : (namespace prefix : List ℕ) (p t : ℕ) (items part rest : List Item) → Calm p part → MostOf namespace prefix p items (life p items ++ (part ++ rest)) t → MostOf namespace prefix p (items ++ part) (life p (items ++ part)) t
cut_most namespace prefix p t items part rest calm m =
    subst (λ (told : List Item). MostOf namespace prefix p (items ++ part) told t) (sym (life_on p items part (calm_lives p part calm)))
    (most_appended namespace prefix p items part (life p items ++ part) t front)
  where
    same : (life p items ++ part) ++ rest ≡ life p items ++ (part ++ rest)
    same = append_assoc (life p items) part rest

    front : MostOf namespace prefix p items (life p items ++ part) t
    front q n e w =
        let k = m q n (ap (asked_as p t) (sym same) ∙ asked_still p t (life p items ++ part) rest q e) w in
        record { call = k.call; others = all_front p t (λ c r. (c ≡ k.call) ⊎ NotDid namespace prefix p items q c r) (life p items ++ part) rest (subst (AllNamed p t (λ c r. (c ≡ k.call) ⊎ NotDid namespace prefix p items q c r)) (sym same) k.others) }

pub line_most : (namespace prefix : List ℕ) (items gained : List Item) → ((p : ℕ) → Calm p gained) → ((part : List Item) → world_of (items ++ part) ≡ (namespace, prefix)) → ((p t : ℕ) → MostOf namespace prefix p items (life p items ++ gained) t)
    → AllItems (λ b i. MostNow (b ++ i ∷ [])) items gained
line_most namespace prefix items gained calm named m =
    all_cuts (λ b i. MostNow (b ++ i ∷ [])) items gained (λ done rest i e. subst MostNow (sym (append_assoc items done (i ∷ []))) (λ p t.
    subst (λ (n : List ℕ × List ℕ). MostOf n.0 n.1 p (items ++ (done ++ i ∷ [])) (life p (items ++ (done ++ i ∷ []))) t) (sym (named (done ++ i ∷ [])))
    (cut_most namespace prefix p t items (done ++ i ∷ []) rest (front p done rest i e) (subst (λ (xs : List Item). MostOf namespace prefix p items (life p items ++ xs) t) (e ∙ sym (append_assoc done (i ∷ []) rest)) (m p t)))))
  where
    front : (p : ℕ) (done rest : List Item) (i : Item) → gained ≡ done ++ i ∷ rest → Calm p (done ++ i ∷ [])
    front p done rest i e =
        and_first (list_all (λ j. not (begins p j)) (done ++ i ∷ [])) (list_all (λ j. not (begins p j)) rest)
        (sym (list_all-append (λ j. not (begins p j)) (done ++ i ∷ []) rest) ∙ ap (list_all (λ j. not (begins p j))) (append_assoc done (i ∷ []) rest ∙ sym e) ∙ calm p)

-- ---- calm items

pub body_calm : (q : ℕ) (b : Bool) (p t : ℕ) (a : Answer) → Calm q (body_if b p t a)
body_calm q true p t a = refl
body_calm q false p t a = refl

replies_calm : (q p : ℕ) (posted : BTreeSet ℕ) (rs : Replies) → Calm q (flat_map (reply_items p posted) rs)
replies_calm q p posted [] = refl
replies_calm q p posted (r ∷ rs) =
    list_all-append (λ i. not (begins q i)) (reply_items p posted r) (flat_map (reply_items p posted) rs)
    ∙ and_both (list_all (λ i. not (begins q i)) (reply_items p posted r)) (list_all (λ i. not (begins q i)) (flat_map (reply_items p posted) rs)) (body_calm q (is_among posted r.0) p r.0 r.1) (replies_calm q p posted rs)

calm-append : (q : ℕ) (xs ys : List Item) → Calm q xs → Calm q ys → Calm q (xs ++ ys)
calm-append q xs ys h k = list_all-append (λ i. not (begins q i)) xs ys ∙ and_both (list_all (λ i. not (begins q i)) xs) (list_all (λ i. not (begins q i)) ys) h k

pub turn_calm : (q : ℕ) (w : World) (p : ℕ) (x : Place) (e : CoreEvent) (o : Outcome) (v : World) (y : Place) (own : List Item) (told : Replies) → Turn w p x e o v y own told → Calm q own
turn_calm q w p x _ _ _ _ _ _ (ticks o) = refl
turn_calm q w p x _ _ _ _ _ _ (asks_it t r o f) = refl
turn_calm q w p x _ _ _ _ _ _ (posts_it t path body r o f) = refl
turn_calm q w p x _ _ _ _ _ _ (calls own member t r) = refl
turn_calm q w p x _ _ _ _ _ _ (opens own member ask) = refl
turn_calm q w p x _ _ _ _ _ _ (closes own number e) = refl
turn_calm q w p x _ _ _ _ _ _ (answers number call a o e k) = refl
turn_calm q w p x _ _ _ _ _ _ (loses number call o e) = refl
turn_calm q w p x _ _ _ _ _ _ (delivers number s i more o a b c d e) = refl
turn_calm q w p x _ _ _ _ _ _ (cuts number s o a b c d) = refl
turn_calm q w p x _ _ _ _ _ _ (takes t i) = by (is_among x.posted t)
  where
    by : (b : Bool) → Calm q (line_if b p t i)
    by true = refl
    by false = refl
turn_calm q w p x _ _ _ _ _ _ (waits t o f) = refl
turn_calm q w p x _ _ _ _ _ _ (leaves t o) = refl

-- ---- a turn's items

pub own_tells : (before : List Item) (w : World) (p : ℕ) (x : Place) (e : CoreEvent) (o : Outcome) (v : World) (y : Place) (own : List Item) (told : Replies) → Turn w p x e o v y own told → AllItems Tells before own
own_tells before w p x _ _ _ _ _ _ (ticks o) = (tt, tt)
own_tells before w p x _ _ _ _ _ _ (asks_it t r o n) = (tt, tt)
own_tells before w p x _ _ _ _ _ _ (posts_it t path body r o n) = (tt, (tt, tt))
own_tells before w p x _ _ _ _ _ _ (calls own member t r) = (tt, tt)
own_tells before w p x _ _ _ _ _ _ (opens own member ask) = (tt, tt)
own_tells before w p x _ _ _ _ _ _ (closes own number e) = (tt, tt)
own_tells before w p x _ _ _ _ _ _ (answers number c b o e k) = (tt, tt)
own_tells before w p x _ _ _ _ _ _ (loses number c o e) = (tt, tt)
own_tells before w p x _ _ _ _ _ _ (delivers number s i more o a b c d e) = (tt, tt)
own_tells before w p x _ _ _ _ _ _ (cuts number s o a b c d) = (tt, tt)
own_tells before w p x _ _ _ _ _ _ (takes t i) = (tt, by (is_among x.posted t))
  where
    by : (b : Bool) → AllItems Tells (before ++ item.Taken p t i ∷ []) (line_if b p t i)
    by false = tt
    by true = (tt, tt)
own_tells before w p x _ _ _ _ _ _ (waits t o n) = (tt, tt)
own_tells before w p x _ _ _ _ _ _ (leaves t o) = (tt, tt)

-- replies and their JSON name no ticket, and begin no life
record IsQuiet (p : ℕ) (i : Item) : Type 0 where
  calm : begins p i ≡ false
  silent : (t : ℕ) → names p t i ≡ false

its_quiet : (p : ℕ) (i : Item) → is_told i ≡ true → IsQuiet p i
its_quiet p (item.Reply n t a) h = record { calm = refl; silent = λ t. refl }
its_quiet p (item.Body n t status text) h = record { calm = refl; silent = λ t. refl }
its_quiet p (item.World members namespace leasing) h = absurd (cc)
its_quiet p (item.Started n) h = absurd (cc)
its_quiet p (item.Restarted n) h = absurd (cc)
its_quiet p (item.Clock n millis) h = absurd (cc)
its_quiet p (item.Asked n t q) h = absurd (cc)
its_quiet p (item.Posted n t path body) h = absurd (cc)
its_quiet p (item.Ticked n) h = absurd (cc)
its_quiet p (item.Sent n call member t q) h = absurd (cc)
its_quiet p (item.Opened n stream member q) h = absurd (cc)
its_quiet p (item.Closed n stream) h = absurd (cc)
its_quiet p (item.Executed call a) h = absurd (cc)
its_quiet p (item.Answered call) h = absurd (cc)
its_quiet p (item.Lost call) h = absurd (cc)
its_quiet p (item.Pushed stream i) h = absurd (cc)
its_quiet p (item.Delivered stream) h = absurd (cc)
its_quiet p (item.Cut stream) h = absurd (cc)
its_quiet p (item.Taken n t i) h = absurd (cc)
its_quiet p (item.Pending n t) h = absurd (cc)
its_quiet p (item.Left n t) h = absurd (cc)
its_quiet p (item.Expired lease) h = absurd (cc)
its_quiet p (item.Applied member revision) h = absurd (cc)

told_calm : (p : ℕ) (xs : List Item) → list_all is_told xs ≡ true → Calm p xs
told_calm p [] h = refl
told_calm p (x ∷ xs) h =
    and_both (not (begins p x)) (list_all (λ i. not (begins p i)) xs) (ap not (its_quiet p x (and_first (is_told x) (list_all is_told xs) h)).calm) (told_calm p xs (and_second (is_told x) (list_all is_told xs) h))

told_unnaming : (p : ℕ) (xs : List Item) → list_all is_told xs ≡ true → Unnaming p xs
told_unnaming p [] h t = refl
told_unnaming p (x ∷ xs) h t = ap (λ b. b || is_named p t xs) ((its_quiet p x (and_first (is_told x) (list_all is_told xs) h)).silent t) ∙ told_unnaming p xs (and_second (is_told x) (list_all is_told xs) h) t

-- what holds of a reply still holds behind others
holds_on : (namespace prefix : List ℕ) (p : ℕ) (items after told more : List Item) (t : ℕ) (a : Answer) → StillExecuted namespace prefix p items after → Unnamed p told → Unnaming p more → Holds namespace prefix p items told t a → Holds namespace prefix p after (told ++ more) t a
holds_on namespace prefix p items after told more t (Done reply) s u silent h = (goes_on namespace prefix p items after told more (λ n. None) (λ n. None) s (λ n c e. e) t (silent t) (λ q r. Unit {0}) (λ q r. Unit {0}) (Unit {0}) (Unit {0}) u).did h
holds_on namespace prefix p items after told more t (Refused r) s u silent h = λ k. (goes_on namespace prefix p items after told more (λ n. None) (λ n. None) s (λ n c e. e) t (silent t) (λ q r. Unit {0}) (λ q r. Unit {0}) (Unit {0}) (Unit {0}) u).none (h k)

pub turn_tells : (items own : List Item) (w v : World) (p : ℕ) (x y : Place) (e : CoreEvent) (told : Replies) → AllKept items w → TurnOk w.namespace w.leasing items own w v p x y e told → WorldOnce w.namespace w.leasing items w → ((q : ℕ) → Calm q own) → AllItems Tells items own
    → AllItems Both items (own ++ flat_map (reply_items p (all_fetched y told).place.posted) (all_fetched y told).replies)
turn_tells items own w v p x y e told k t h calm tells =
    let f = all_fetched y told in
    let rest = flat_map (reply_items p f.place.posted) f.replies in
    zipped (λ b i. MostNow (b ++ i ∷ [])) Tells items (own ++ rest)
    (line_most w.namespace w.leasing items (own ++ rest) (λ q. calm-append q own rest (calm q) (replies_calm q p f.place.posted f.replies)) (λ part. names_are (items ++ part) w.namespace w.leasing (begins part)) (turn_leaves w.namespace w.leasing items own w v p x y e told t h).most)
    (items-append Tells items own rest tells
    (subst (λ (xs : List Item). AllItems Tells xs rest) (append-nil (items ++ own)) (replies_told Tells (items ++ own) p f.place.posted (λ told ticket status text all. tt) [] f.replies refl (each f.replies (fetches w.namespace w.leasing items own w v p x y e told t.before t.turned t.behind).replies))))
  where
    begins : (part : List Item) → Rattle.executed_laws.proofs.Worlds.BeginsAs (items ++ part) w.namespace w.leasing
    begins part = Rattle.executed_laws.proofs.Worlds.begins_on items part w.namespace w.leasing k.sent.begins

    behind : Unnamed p (life p items ++ own)
    behind = Rattle.executed_laws.proofs.Naming.unnamed_on p (life p items) own t.before.sent.unnamed t.names

    each : (rs : Replies) → Each (λ r. Holds w.namespace w.leasing p items (life p items ++ own) r.0 r.1) rs → Each (λ r. (more : List Item) → list_all is_told more ≡ true → Tells ((items ++ own) ++ more) (item.Reply p r.0 r.1)) rs
    each [] c = tt
    each (r ∷ rs) c = (one, each rs c.1)
      where
        one : (more : List Item) → list_all is_told more ≡ true → Holds (world_of ((items ++ own) ++ more)).0 (world_of ((items ++ own) ++ more)).1 p ((items ++ own) ++ more) (life p ((items ++ own) ++ more)) r.0 r.1
        one more all =
            let still : life p ((items ++ own) ++ more) ≡ (life p items ++ own) ++ more = life_on p (items ++ own) more (calm_lives p more (told_calm p more all)) ∙ ap (λ (xs : List Item). xs ++ more) (life_on p items own (t.turned.lives p)) in
            let named = names_are ((items ++ own) ++ more) w.namespace w.leasing (Rattle.executed_laws.proofs.Worlds.begins_on (items ++ own) more w.namespace w.leasing (begins own)) in
            let executed : StillExecuted w.namespace w.leasing p items ((items ++ own) ++ more) = λ call a g. still_appended w.namespace w.leasing p (items ++ own) more call a (still_appended w.namespace w.leasing p items own call a g) in
            subst (λ (n : List ℕ × List ℕ). Holds n.0 n.1 p ((items ++ own) ++ more) (life p ((items ++ own) ++ more)) r.0 r.1) (sym named)
            (subst (λ (xs : List Item). Holds w.namespace w.leasing p ((items ++ own) ++ more) xs r.0 r.1) (sym still)
            (holds_on w.namespace w.leasing p items ((items ++ own) ++ more) (life p items ++ own) more r.0 r.1 executed behind (told_unnaming p more all) c.0))
