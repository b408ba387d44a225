-- The own items of a line at whose proxy a step is made: one of them is that step, at the proxy's clock, and no other proxy makes one.
use Rattle.std.proofs.Common.{◌≡◌, ℕ, ◌==◌, Bool, true, false, List, [], ◌∷◌, ◌++◌, append-nil, Some, refl, sym, ◌∙◌, ap}
use Rattle.std.specs.List.{list_all}
use Rattle.etcd_types.specs.declared.answer.Answer.{Answer}
use Rattle.etcd_types.specs.declared.request.Request.{Request}
use Rattle.etcd_types.specs.declared.request.Request.TheVariants as request
use Rattle.etcd_types.specs.declared.watch.WatchItem.{WatchItem}
use Rattle.core_model.specs.declared.event.CoreEvent.{CoreEvent}
use Rattle.core_model.specs.declared.event.CoreEvent.TheVariants as event
use Rattle.core_model.specs.declared.event.Outcome.{Outcome}
use Rattle.core_laws.proofs.Steps.Lists.{number_itself, number_turned}
use Rattle.script_text.specs.declared.item.Item.{Item}
use Rattle.script_text.specs.declared.item.Item.TheVariants as item
use Rattle.world_model.specs.declared.sent_call.SentCall.{SentCall}
use Rattle.world_model.specs.Gains.{Replies, line_if}
use Rattle.world_model.specs.Lives.{begins, clock_of, opened_it, sent_it, executed_to}
use Rattle.world_model.specs.LiveSessions.{is_step_of}
use Rattle.world_model.specs.Places.{nth, is_among}
use Rattle.world_model.specs.State.{Place, OpenedStream, World, word}
use Rattle.world_laws.proofs.Effects.{Turn, ticks, asks_it, posts_it, calls, opens, closes, answers, loses, delivers, cuts, takes, waits, leaves}
use Rattle.renewed_laws.proofs.Gains.{is_other}
use Rattle.session_laws.proofs.Calls.{ran_to, is_sent_by}
use Rattle.session_laws.proofs.Items.{clock-append}
use Rattle.session_laws.proofs.Worlds.{CallsTold}
use Rattle.cause_laws.specs.Timeouts.{is_told}
use Rattle.cause_laws.proofs.Gains.{is_kept}
use Rattle.cause_laws.proofs.Items.{Quiet}
use Rattle.cause_laws.proofs.Streams.{StreamsTold, is_opened_by, same_owners, changed_owners, closed_owners, streams_on, streams_opened}

-- with the step a call ends, which has this number of the proxy's own
pub record EndItem (items pre : List Item) (numbers : List ℕ) (p : ℕ) (step : Item) (call : ℕ) (ends : ℕ → Item) : Type 0 where
  pub number : ℕ
  pub bare : pre ≡ []
  pub numbered : nth numbers call ≡ Some number
  pub is : step ≡ ends number
  pub sent : sent_it p number items ≡ true

-- and it is executed to this answer
pub record AnswerItem (items pre : List Item) (numbers : List ℕ) (p : ℕ) (step : Item) (call : ℕ) (a : Answer) : Type 0 where
  pub item : EndItem items pre numbers p step call (λ number. item.Answered number)
  pub executed : executed_to item.number items ≡ Some a

pub record OwnStep (items own : List Item) (numbers : List ℕ) (p : ℕ) (e : CoreEvent) : Type 0 where
  pub pre : List Item
  pub step : Item
  pub post : List Item
  pub split : own ≡ pre ++ step ∷ post
  pub quiet : (q : ℕ) → Quiet q items pre
  pub steps : is_step_of p (items ++ pre) step ≡ true
  pub clock : clock_of p (items ++ pre) ≡ clock_of p items
  pub begins : (q : ℕ) → begins q step ≡ false
  pub others : (q : ℕ) → (q == p) ≡ false → is_step_of q (items ++ pre) step ≡ false
  pub json : list_all is_told post ≡ true
  pub asks : (ticket word : ℕ) (q : Request) → e ≡ event.Ask ticket q word → step ≡ item.Asked p ticket q
  pub lost : (call : ℕ) → e ≡ event.Lost call → EndItem items pre numbers p step call (λ number. item.Lost number)
  pub answered : (call : ℕ) (a : Answer) → e ≡ event.Answer call a → AnswerItem items pre numbers p step call a

-- one item, and JSON behind it
one_step : (items : List Item) (i : Item) (post : List Item) (numbers : List ℕ) (p : ℕ) (e : CoreEvent) → is_step_of p items i ≡ true → ((q : ℕ) → begins q i ≡ false) → ((q : ℕ) → (q == p) ≡ false → is_step_of q items i ≡ false) → list_all is_told post ≡ true
    → ((ticket word : ℕ) (q : Request) → e ≡ event.Ask ticket q word → i ≡ item.Asked p ticket q)
    → ((call : ℕ) → e ≡ event.Lost call → EndItem items [] numbers p i call (λ number. item.Lost number)) → ((call : ℕ) (a : Answer) → e ≡ event.Answer call a → AnswerItem items [] numbers p i call a) → OwnStep items (i ∷ post) numbers p e
one_step items i post numbers p e steps lives others json asks lost answered = record {
  pre = [];
  step = i;
  post = post;
  split = refl;
  quiet = λ q. refl;
  steps = ap (λ (xs : List Item). is_step_of p xs i) (append-nil items) ∙ steps;
  clock = ap (clock_of p) (append-nil items);
  begins = lives;
  others = λ q n. ap (λ (xs : List Item). is_step_of q xs i) (append-nil items) ∙ others q n;
  json = json;
  asks = asks;
  lost = lost;
  answered = answered;
}

-- of a call, and of a stream
pub call_step : (items : List Item) (all : List SentCall) (number : ℕ) (call : SentCall) (q : ℕ) → CallsTold items all → nth all number ≡ Some call → sent_it q number items ≡ (call.proxy == q)
call_step items all number call q told at = (told number).sent q ∙ ap (is_sent_by q) at

pub stream_step : (items : List Item) (all : List OpenedStream) (number : ℕ) (s : OpenedStream) (q : ℕ) → StreamsTold items all → nth all number ≡ Some s → opened_it q number items ≡ (s.proxy == q)
stream_step items all number s q told at = told number q ∙ ap (is_opened_by q) at

same_lost : (a b : ℕ) → event.Lost a ≡ event.Lost b → a ≡ b
same_lost a b e = cc

same_answer : (a b : ℕ) (x y : Answer) → event.Answer a x ≡ event.Answer b y → (a ≡ b) × (x ≡ y)
same_answer a b x y e = (cc, cc)

pub lost_step : (items : List Item) (numbers : List ℕ) (all : List SentCall) (number : ℕ) (call : SentCall) → CallsTold items all → nth all number ≡ Some call → nth numbers call.own ≡ Some number → OwnStep items (item.Lost number ∷ []) numbers call.proxy (event.Lost call.own)
lost_step items numbers all number call told at own =
    let sent = call_step items all number call call.proxy told at ∙ number_itself call.proxy in
    one_step items (item.Lost number) [] numbers call.proxy (event.Lost call.own) sent (λ q. refl)
    (λ q n. call_step items all number call q told at ∙ number_turned q call.proxy n) refl (λ t w q f. absurd (cc))
    (λ n f. record { number = number; bare = refl; numbered = ap (nth numbers) (sym (same_lost call.own n f)) ∙ own; is = refl; sent = sent }) (λ n a f. absurd (cc))

pub answered_step : (items : List Item) (numbers : List ℕ) (all : List SentCall) (number : ℕ) (call : SentCall) (a : Answer) → CallsTold items all → nth all number ≡ Some call → call.executed ≡ Some a → nth numbers call.own ≡ Some number
    → OwnStep items (item.Answered number ∷ []) numbers call.proxy (event.Answer call.own a)
answered_step items numbers all number call a told at ran own =
    let sent = call_step items all number call call.proxy told at ∙ number_itself call.proxy in
    one_step items (item.Answered number) [] numbers call.proxy (event.Answer call.own a) sent (λ q. refl)
    (λ q n. call_step items all number call q told at ∙ number_turned q call.proxy n) refl (λ t w q f. absurd (cc)) (λ n f. absurd (cc))
    (λ n x f.
    let same = same_answer call.own n a x f in
    record { item = record { number = number; bare = refl; numbered = ap (nth numbers) (sym same.0) ∙ own; is = refl; sent = sent }; executed = (told number).ran ∙ ap ran_to at ∙ ran ∙ ap (λ (z : Answer). Some z) same.1 })

same_asked : (p t t' word word' : ℕ) (q q' : Request) → event.Ask t q word ≡ event.Ask t' q' word' → item.Asked p t q ≡ item.Asked p t' q'
same_asked p t t' word word' q q' e = let a : t ≡ t' = cc in let b : q ≡ q' = cc in (λ i. item.Asked p (a i) (b i))

line_told : (b : Bool) (p ticket : ℕ) (i : WatchItem) → list_all is_told (line_if b p ticket i) ≡ true
line_told true p ticket i = refl
line_told false p ticket i = refl

pub turn_step : (items : List Item) (numbers : List ℕ) (w : World) (p : ℕ) (z : Place) (e : CoreEvent) (o : Outcome) (v : World) (y : Place) (own rest : List Item) (told : Replies) → StreamsTold items w.streams → is_other (own ++ rest) ≡ true → is_kept (own ++ rest) ≡ true
    → Turn w p z e o v y own told → OwnStep items own numbers p e
turn_step items numbers w p z _ _ _ _ _ rest _ h other kept (ticks o) = one_step items (item.Ticked p) [] numbers p _ (number_itself p) (λ q. refl) (λ q n. number_turned q p n) refl (λ t k q f. absurd (cc)) (λ c f. absurd (cc)) (λ c a f. absurd (cc))
turn_step items numbers w p z _ _ _ _ _ rest _ h other kept (asks_it ticket r o n) = one_step items (item.Asked p ticket r) [] numbers p _ (number_itself p) (λ q. refl) (λ q n. number_turned q p n) refl (λ t k q f. same_asked p ticket t (word w) k r q f) (λ c f. absurd (cc)) (λ c a f. absurd (cc))
turn_step items numbers w p z _ _ _ _ _ rest _ h other kept (posts_it ticket path body r o n) = record {
  pre = item.Posted p ticket path body ∷ [];
  step = item.Asked p ticket r;
  post = [];
  split = refl;
  quiet = λ q. refl;
  steps = number_itself p;
  clock = clock-append p 0 items (item.Posted p ticket path body ∷ []);
  begins = λ q. refl;
  others = λ q n. number_turned q p n;
  json = refl;
  asks = λ t k q f. same_asked p ticket t (word w) k r q f;
  lost = λ c f. absurd (cc);
  answered = λ c a f. absurd (cc);
}
turn_step items numbers w p z _ _ _ _ _ rest _ h other kept (calls own member ticket r) = one_step items _ [] numbers p _ (number_itself p) (λ q. refl) (λ q n. number_turned q p n) refl (λ t k q f. absurd (cc)) (λ c f. absurd (cc)) (λ c a f. absurd (cc))
turn_step items numbers w p z _ _ _ _ _ rest _ h other kept (opens own member ask) = one_step items _ [] numbers p _ (number_itself p) (λ q. refl) (λ q n. number_turned q p n) refl (λ t k q f. absurd (cc)) (λ c f. absurd (cc)) (λ c a f. absurd (cc))
turn_step items numbers w p z _ _ _ _ _ rest _ h other kept (closes own number e) = one_step items _ [] numbers p _ (number_itself p) (λ q. refl) (λ q n. number_turned q p n) refl (λ t k q f. absurd (cc)) (λ c f. absurd (cc)) (λ c a f. absurd (cc))
turn_step items numbers w p z _ _ _ _ _ rest _ h other kept (answers number call a o e f) = absurd (cc)
turn_step items numbers w p z _ _ _ _ _ rest _ h other kept (loses number call o e) = absurd (cc)
turn_step items numbers w p z _ _ _ _ _ rest _ h other kept (delivers number s i more o a b c d e) =
    let its : (q : ℕ) → opened_it q number items ≡ (p == q) = λ q. stream_step items w.streams number s q h a ∙ ap (λ (n : ℕ). n == q) b in
    one_step items (item.Delivered number) [] numbers p _ (its p ∙ number_itself p) (λ q. refl) (λ q n. its q ∙ number_turned q p n) refl (λ t k q f. absurd (cc)) (λ c f. absurd (cc)) (λ c a f. absurd (cc))
turn_step items numbers w p z _ _ _ _ _ rest _ h other kept (cuts number s o a b c d) =
    let its : (q : ℕ) → opened_it q number items ≡ (p == q) = λ q. stream_step items w.streams number s q h a ∙ ap (λ (n : ℕ). n == q) b in
    one_step items (item.Cut number) [] numbers p _ (its p ∙ number_itself p) (λ q. refl) (λ q n. its q ∙ number_turned q p n) refl (λ t k q f. absurd (cc)) (λ c f. absurd (cc)) (λ c a f. absurd (cc))
turn_step items numbers w p z _ _ _ _ _ rest _ h other kept (takes ticket i) = one_step items (item.Taken p ticket i) (line_if (is_among z.posted ticket) p ticket i) numbers p _ (number_itself p) (λ q. refl) (λ q n. number_turned q p n) (line_told (is_among z.posted ticket) p ticket i) (λ t k q f. absurd (cc)) (λ c f. absurd (cc)) (λ c a f. absurd (cc))
turn_step items numbers w p z _ _ _ _ _ rest _ h other kept (waits ticket o n) = one_step items (item.Pending p ticket) [] numbers p _ (number_itself p) (λ q. refl) (λ q n. number_turned q p n) refl (λ t k q f. absurd (cc)) (λ c f. absurd (cc)) (λ c a f. absurd (cc))
turn_step items numbers w p z _ _ _ _ _ rest _ h other kept (leaves ticket o) = one_step items (item.Left p ticket) [] numbers p _ (number_itself p) (λ q. refl) (λ q n. number_turned q p n) refl (λ t k q f. absurd (cc)) (λ c f. absurd (cc)) (λ c a f. absurd (cc))

-- ---- what it leaves of streams and of clocks

line_opens : (b : Bool) (p ticket number q : ℕ) (i : WatchItem) → opened_it q number (item.Taken p ticket i ∷ line_if b p ticket i) ≡ false
line_opens true p ticket number q i = refl
line_opens false p ticket number q i = refl

pub turn_streams : (items : List Item) (w : World) (p : ℕ) (z : Place) (e : CoreEvent) (o : Outcome) (v : World) (y : Place) (own : List Item) (told : Replies) → StreamsTold items w.streams → Turn w p z e o v y own told → StreamsTold (items ++ own) v.streams
turn_streams items w p z _ _ _ _ _ _ h (ticks o) = streams_on items (item.Ticked p ∷ []) w.streams w.streams (λ n q. refl) (same_owners w.streams) h
turn_streams items w p z _ _ _ _ _ _ h (asks_it ticket r o n) = streams_on items (item.Asked p ticket r ∷ []) w.streams w.streams (λ n q. refl) (same_owners w.streams) h
turn_streams items w p z _ _ _ _ _ _ h (posts_it ticket path body r o n) = streams_on items (item.Posted p ticket path body ∷ item.Asked p ticket r ∷ []) w.streams w.streams (λ n q. refl) (same_owners w.streams) h
turn_streams items w p z _ _ _ _ _ _ h (calls own member ticket r) = streams_on items _ w.streams w.streams (λ n q. refl) (same_owners w.streams) h
turn_streams items w p z _ _ _ _ _ _ h (opens own member ask) = streams_opened items w.streams _ p member (request.Watch ask) refl h
turn_streams items w p z _ _ _ _ _ _ h (closes own number e) = streams_on items (item.Closed p number ∷ []) w.streams _ (λ n q. refl) (closed_owners w number (nth w.streams number) refl) h
turn_streams items w p z _ _ _ _ _ _ h (answers number call a o e f) = streams_on items (item.Answered number ∷ []) w.streams w.streams (λ n q. refl) (same_owners w.streams) h
turn_streams items w p z _ _ _ _ _ _ h (loses number call o e) = streams_on items (item.Lost number ∷ []) w.streams w.streams (λ n q. refl) (same_owners w.streams) h
turn_streams items w p z _ _ _ _ _ _ h (delivers number s i rest o a b c d e) = streams_on items (item.Delivered number ∷ []) w.streams _ (λ n q. refl) (changed_owners w.streams number s _ a refl) h
turn_streams items w p z _ _ _ _ _ _ h (cuts number s o a b c d) = streams_on items (item.Cut number ∷ []) w.streams _ (λ n q. refl) (changed_owners w.streams number s _ a refl) h
turn_streams items w p z _ _ _ _ _ _ h (takes ticket i) = streams_on items _ w.streams w.streams (λ n q. line_opens (is_among z.posted ticket) p ticket n q i) (same_owners w.streams) h
turn_streams items w p z _ _ _ _ _ _ h (waits ticket o n) = streams_on items (item.Pending p ticket ∷ []) w.streams w.streams (λ n q. refl) (same_owners w.streams) h
turn_streams items w p z _ _ _ _ _ _ h (leaves ticket o) = streams_on items (item.Left p ticket ∷ []) w.streams w.streams (λ n q. refl) (same_owners w.streams) h

pub turn_clock : (w : World) (p : ℕ) (z : Place) (e : CoreEvent) (o : Outcome) (v : World) (y : Place) (own : List Item) (told : Replies) → Turn w p z e o v y own told → y.clock ≡ z.clock
turn_clock w p z _ _ _ _ _ _ (ticks o) = refl
turn_clock w p z _ _ _ _ _ _ (asks_it ticket r o n) = refl
turn_clock w p z _ _ _ _ _ _ (posts_it ticket path body r o n) = refl
turn_clock w p z _ _ _ _ _ _ (calls own member ticket r) = refl
turn_clock w p z _ _ _ _ _ _ (opens own member ask) = refl
turn_clock w p z _ _ _ _ _ _ (closes own number e) = refl
turn_clock w p z _ _ _ _ _ _ (answers number call a o e f) = refl
turn_clock w p z _ _ _ _ _ _ (loses number call o e) = refl
turn_clock w p z _ _ _ _ _ _ (delivers number s i rest o a b c d e) = refl
turn_clock w p z _ _ _ _ _ _ (cuts number s o a b c d) = refl
turn_clock w p z _ _ _ _ _ _ (takes ticket i) = refl
turn_clock w p z _ _ _ _ _ _ (waits ticket o n) = refl
turn_clock w p z _ _ _ _ _ _ (leaves ticket o) = refl

pub turn_core : (w : World) (p : ℕ) (z : Place) (e : CoreEvent) (o : Outcome) (v : World) (y : Place) (own : List Item) (told : Replies) → Turn w p z e o v y own told → y.core ≡ z.core
turn_core w p z _ _ _ _ _ _ (ticks o) = refl
turn_core w p z _ _ _ _ _ _ (asks_it ticket r o n) = refl
turn_core w p z _ _ _ _ _ _ (posts_it ticket path body r o n) = refl
turn_core w p z _ _ _ _ _ _ (calls own member ticket r) = refl
turn_core w p z _ _ _ _ _ _ (opens own member ask) = refl
turn_core w p z _ _ _ _ _ _ (closes own number e) = refl
turn_core w p z _ _ _ _ _ _ (answers number call a o e f) = refl
turn_core w p z _ _ _ _ _ _ (loses number call o e) = refl
turn_core w p z _ _ _ _ _ _ (delivers number s i rest o a b c d e) = refl
turn_core w p z _ _ _ _ _ _ (cuts number s o a b c d) = refl
turn_core w p z _ _ _ _ _ _ (takes ticket i) = refl
turn_core w p z _ _ _ _ _ _ (waits ticket o n) = refl
turn_core w p z _ _ _ _ _ _ (leaves ticket o) = refl
