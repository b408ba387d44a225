-- What each line makes of what a world has of its calls and streams.
use Rattle.std.proofs.Common.{◌≡◌, ◌⊎◌, inl, inr, ℕ, ◌≤◌, Bool, true, false, cond, ◌==◌, ◌&&◌, ◌||◌, List, [], ◌∷◌, ◌++◌, append-nil, length, filter, Option, None, Some, refl, sym, ◌∙◌, ap, arith}
use Rattle.etcd_types.proofs.Bools.{and_first, and_second, or_false}
use Rattle.etcd_types.specs.declared.answer.Answer.{Answer}
use Rattle.etcd_types.specs.declared.answer.Answer.TheVariants.{Done}
use Rattle.etcd_types.specs.declared.answer.Reply.{Reply}
use Rattle.etcd_types.specs.declared.request.Request.{Request}
use Rattle.etcd_types.specs.declared.request.Request.TheVariants as request
use Rattle.etcd_types.specs.declared.watch.WatchItem.{WatchItem}
use Rattle.core_fits.specs.Fits.{EachOf}
use Rattle.core_model.specs.declared.event.CoreEvent.{CoreEvent}
use Rattle.core_model.specs.declared.event.Outcome.{Outcome}
use Rattle.core_laws.proofs.Steps.Lists.{same_number, number_itself, number_turned}
use Rattle.script_text.specs.declared.item.Item.{Item}
use Rattle.script_text.specs.declared.item.Item.TheVariants as item
use Rattle.store_model.specs.History.{newest}
use Rattle.store_model.specs.State.{State}
use Rattle.store_model.specs.Step.{exec}
use Rattle.store_model.specs.Watches.{opened}
use Rattle.store_laws.specs.Lives.Sound.{Sound}
use Rattle.world_model.specs.declared.sent_call.SentCall.{SentCall}
use Rattle.world_model.specs.Gains.{Replies}
use Rattle.world_model.specs.Lives.{pushed_into, delivers}
use Rattle.world_model.specs.Places.{nth, with_nth, with_call, with_stream, ended}
use Rattle.world_model.specs.Sends.{next_call, next_stream, new_call, new_stream, closed_in}
use Rattle.world_model.specs.State.{Place, OpenedStream, World}
use Rattle.world_model.specs.Streams.{with_message}
use Rattle.world_laws.proofs.Effects.{Turn, ticks, asks_it, posts_it, calls, opens, closes, answers, loses, delivers as delivers_it, cuts, takes, waits, leaves, IsPushed}
use Rattle.generated_laws.proofs.Numbers.{nth_still}
use Rattle.held_laws.proofs.Growing.{message_leaves, exec_leaves}
use Rattle.held_laws.proofs.Kept.{nth_itself, nth_other}
use Rattle.held_laws.proofs.Opens.{nth_push, last_nth}
use Rattle.held_laws.proofs.Worlds.{equal}
use Rattle.renewed_laws.proofs.Worlds.{answer_by, answers_of}
use Rattle.truth_laws.proofs.Facts.{Told, sender_of, opener_of, waits_in, told_of, IsUpTo, QueueGoes, Goes, Stays, stays_itself, mute_goes}
use Rattle.truth_laws.proofs.Stores.{grown, answer_up_to, message_is_newest}
use Rattle.truth_laws.proofs.Telling.{mute-append, answered_mute, ticked_nothing, asked_nothing, posted_nothing, lost_nothing, cut_nothing, closed_nothing, pending_nothing, left_nothing, taken_nothing}

-- ---- numbered lists

-- one is put anew, and looks the same
nth_same : {A B : Type 0} (f : Option A → B) (xs : List A) (number q : ℕ) (x y : A) → nth xs number ≡ Some x → f (Some y) ≡ f (Some x) → f (nth (with_nth xs number y) q) ≡ f (nth xs q)
nth_same f xs number q x y at same = by (q == number) refl
  where
    by : (b : Bool) → (q == number) ≡ b → f (nth (with_nth xs number y) q) ≡ f (nth xs q)
    by true n =
        let there : q ≡ number = equal q number n in
        ap (λ (i : ℕ). f (nth (with_nth xs number y) i)) there ∙ ap f (nth_itself xs number x y at) ∙ same ∙ sym (ap f at) ∙ ap (λ (i : ℕ). f (nth xs i)) (sym there)
    by false n = ap f (nth_other xs number q x y at n)

-- ---- calls and streams end

pub settled_stays : (w : World) (number : ℕ) (call : SentCall) → nth w.calls number ≡ Some call → Stays (told_of w) (told_of (with_call w number (record call { settled = true })))
settled_stays w number call at = record {
  rises = omega arith;
  senders = λ n. nth_same sender_of w.calls number n call (record call { settled = true }) at refl;
  answers = λ n. nth_same answer_by w.calls number n call (record call { settled = true }) at refl;
  openers = λ n. refl;
  waiting = λ n is e. e;
}

ended_stays : (w : World) (number : ℕ) (s : OpenedStream) → nth w.streams number ≡ Some s → Stays (told_of w) (told_of (with_stream w number (ended s)))
ended_stays w number s at = record {
  rises = omega arith;
  senders = λ n. refl;
  answers = λ n. refl;
  openers = λ n. nth_same opener_of w.streams number n s (ended s) at refl;
  waiting = λ n is e. by n is (n == number) refl e;
}
  where
    by : (n : ℕ) (is : List WatchItem) (b : Bool) → (n == number) ≡ b → waits_in (nth (with_nth w.streams number (ended s)) n) ≡ Some is → waits_in (nth w.streams n) ≡ Some is
    by n is true q e =
        let there = ap (λ (i : ℕ). waits_in (nth (with_nth w.streams number (ended s)) i)) (equal n number q) ∙ ap waits_in (nth_itself w.streams number s (ended s) at) in
        absurd (let no_way : ◌≡◌ {A = Option (List WatchItem)} None (Some is) = sym there ∙ e in cc)
    by n is false q e = ap waits_in (sym (nth_other w.streams number n s (ended s) at q)) ∙ e

closed_stays : (w : World) (number : ℕ) (o : Option OpenedStream) → nth w.streams number ≡ o → Stays (told_of w) (told_of (closed_in w number o))
closed_stays w number None e = stays_itself (told_of w)
closed_stays w number (Some s) e = ended_stays w number s e

-- ---- a queue as it was

queue_stays : (n : ℕ) (t : Told) (more : List Item) (is : List WatchItem) → t.waiting n ≡ Some is → pushed_into n more ≡ [] → filter (delivers n) more ≡ [] → QueueGoes n t more is
queue_stays n t more is e p d = record { before = is; was = e; taken = []; pushed = ap (λ (l : List WatchItem). is ++ l) p ∙ append-nil is; count = ap length (sym d) }

pub no_answer : {A : Type 0} (a : Answer) → ◌≡◌ {A = Option Answer} None (Some a) → A
no_answer a e = absurd (cc)

no_number : {A : Type 0} (n : ℕ) → ◌≡◌ {A = Option ℕ} None (Some n) → A
no_number n e = absurd (cc)

pub untrue : {A : Type 0} → false ≡ true → A
untrue e = absurd (cc)

pub same_items : (a b : List WatchItem) → Some a ≡ Some b → a ≡ b
same_items a b e = cc

-- ---- a call is sent

more_calls : {B : Type 0} (f : Option SentCall → Option B) (cs : List SentCall) (new : SentCall) (n : ℕ) (x : B) → ((y : B) → f None ≡ Some y → ⊥) → f (nth cs n) ≡ Some x → f (nth (cs ++ new ∷ []) n) ≡ Some x
more_calls f cs new n x none e = by (nth cs n) refl
  where
    by : (o : Option SentCall) → nth cs n ≡ o → f (nth (cs ++ new ∷ []) n) ≡ Some x
    by None q = absurd (none x (sym (ap f q) ∙ e))
    by (Some c) q = ap f (nth_still cs new n c q) ∙ sym (ap f q) ∙ e

sent_goes : (w : World) (p : ℕ) (x : Place) (own member ticket : ℕ) (q : Request) → let v = record w { calls = w.calls ++ new_call p x own member q ∷ [] } in Goes (item.Sent p (next_call w) member ticket q ∷ []) (told_of w) (told_of v)
sent_goes w p x own member ticket q = record {
  rises = omega arith;
  sent = λ r n e. elim e [ inl a ↦ more_calls sender_of w.calls new n r (λ y f. no_number y f) a | inr b ↦ by_sent r n b ];
  executed = λ n a e. elim e [ inl b ↦ more_calls answer_by w.calls new n a (λ y f. no_answer y f) b | inr b ↦ no_answer a b ];
  opened = λ r n e. elim e [ inl a ↦ a | inr b ↦ untrue b ];
  queued = λ n is e. queue_stays n (told_of w) (item.Sent p (next_call w) member ticket q ∷ []) is e refl refl;
  answers = λ n reply e. by_answer n reply (nth (w.calls ++ new ∷ []) n) refl e;
  pushed = λ n. tt;
}
  where
    new : SentCall
    new = new_call p x own member q

    by_sent : (r n : ℕ) → ((p == r && next_call w == n) || false) ≡ true → sender_of (nth (w.calls ++ new ∷ []) n) ≡ Some r
    by_sent r n b =
        let both = sym (or_false (p == r && next_call w == n)) ∙ b in
        let number = same_number (next_call w) n (and_second (p == r) (next_call w == n) both) in
        let proxy = same_number p r (and_first (p == r) (next_call w == n) both) in
        ap (λ (i : ℕ). sender_of (nth (w.calls ++ new ∷ []) i)) (sym number) ∙ ap sender_of (last_nth w.calls new) ∙ ap (λ (i : ℕ). Some i) proxy

    by_answer : (n : ℕ) (reply : Reply) (o : Option SentCall) → nth (w.calls ++ new ∷ []) n ≡ o → answer_by (nth (w.calls ++ new ∷ []) n) ≡ Some (Done reply)
        → (answers_of w.calls n ≡ Some (Done reply)) ⊎ (reply.header.revision ≤ (told_of w).newest)
    by_answer n reply None at e = no_answer (Done reply) (sym (ap answer_by at) ∙ e)
    by_answer n reply (Some c) at e = elim (nth_push w.calls new n c at) [
      | inl h ↦ inl (ap answer_by h ∙ sym (ap answer_by at) ∙ e)
      | inr h ↦ no_answer (Done reply) (ap (λ (z : SentCall). z.executed) h.1 ∙ sym (ap answer_by at) ∙ e)
    ]

-- ---- a stream is opened

opened_goes : (w : World) (p : ℕ) (x : Place) (own member : ℕ) (q : Request) (t : State) → t.history ≡ w.store.history
    → let v = record w { streams = w.streams ++ new_stream p x own ∷ []; store = t } in Goes (item.Opened p (next_stream w) member q ∷ []) (told_of w) (told_of v)
opened_goes w p x own member q t same = record {
  rises = (let e : newest t.history ≡ newest w.store.history = ap newest same in omega (arith, e));
  sent = λ r n e. elim e [ inl a ↦ a | inr b ↦ untrue b ];
  executed = λ n a e. elim e [ inl b ↦ b | inr b ↦ no_answer a b ];
  opened = λ r n e. elim e [ inl a ↦ by_old r n (nth w.streams n) refl a | inr b ↦ by_new r n b ];
  queued = λ n is e. by_queue n is (nth w.streams n) refl e;
  answers = λ n reply e. inl e;
  pushed = λ n. tt;
}
  where
    new : OpenedStream
    new = new_stream p x own

    by_old : (r n : ℕ) (o : Option OpenedStream) → nth w.streams n ≡ o → opener_of (nth w.streams n) ≡ Some r → opener_of (nth (w.streams ++ new ∷ []) n) ≡ Some r
    by_old r n None at a = no_number r (sym (ap opener_of at) ∙ a)
    by_old r n (Some s) at a = ap opener_of (nth_still w.streams new n s at) ∙ sym (ap opener_of at) ∙ a

    by_new : (r n : ℕ) → ((p == r && next_stream w == n) || false) ≡ true → opener_of (nth (w.streams ++ new ∷ []) n) ≡ Some r
    by_new r n b =
        let both = sym (or_false (p == r && next_stream w == n)) ∙ b in
        let number = same_number (next_stream w) n (and_second (p == r) (next_stream w == n) both) in
        let proxy = same_number p r (and_first (p == r) (next_stream w == n) both) in
        ap (λ (i : ℕ). opener_of (nth (w.streams ++ new ∷ []) i)) (sym number) ∙ ap opener_of (last_nth w.streams new) ∙ ap (λ (i : ℕ). Some i) proxy

    none_before : (n : ℕ) (is : List WatchItem) (o : Option OpenedStream) → nth w.streams n ≡ None → nth (w.streams ++ new ∷ []) n ≡ o → waits_in o ≡ Some is → [] ≡ is
    none_before n is None none at e = same_items [] is e
    none_before n is (Some s) none at e = elim (nth_push w.streams new n s at) [
      | inl h ↦ absurd (let no_way : ◌≡◌ {A = Option OpenedStream} None (Some s) = sym none ∙ h in cc)
      | inr h ↦ same_items [] is (ap (λ (z : OpenedStream). waits_in (Some z)) h.1 ∙ e)
    ]

    by_queue : (n : ℕ) (is : List WatchItem) (o : Option OpenedStream) → nth w.streams n ≡ o → waits_in (nth (w.streams ++ new ∷ []) n) ≡ Some is → QueueGoes n (told_of w) (item.Opened p (next_stream w) member q ∷ []) is
    by_queue n is None at e =
        queue_stays n (told_of w) (item.Opened p (next_stream w) member q ∷ []) is (ap waits_in at ∙ ap (λ (l : List WatchItem). Some l) (none_before n is (nth (w.streams ++ new ∷ []) n) at refl e)) refl refl
    by_queue n is (Some s) at e =
        queue_stays n (told_of w) (item.Opened p (next_stream w) member q ∷ []) is (ap waits_in at ∙ sym (ap waits_in (nth_still w.streams new n s at)) ∙ e) refl refl

-- ---- a message is delivered

delivered_goes : (w : World) (number : ℕ) (s : OpenedStream) (i : WatchItem) (rest : List WatchItem) → nth w.streams number ≡ Some s → s.ended ≡ false → s.waiting ≡ i ∷ rest
    → Goes (item.Delivered number ∷ []) (told_of w) (told_of (with_stream w number (record s { waiting = rest })))
delivered_goes w number s i rest at goes_on there = record {
  rises = omega arith;
  sent = λ r n e. elim e [ inl a ↦ a | inr b ↦ untrue b ];
  executed = λ n a e. elim e [ inl b ↦ b | inr b ↦ no_answer a b ];
  opened = λ r n e. elim e [ inl a ↦ nth_same opener_of w.streams number n s next at refl ∙ a | inr b ↦ untrue b ];
  queued = λ n is e. by n is (n == number) refl e;
  answers = λ n reply e. inl e;
  pushed = λ n. tt;
}
  where
    next : OpenedStream
    next = record s { waiting = rest }

    one : (b : Bool) → b ≡ true → length (cond b (item.Delivered number ∷ []) []) ≡ 1
    one b e = ap (λ c. length (cond c (item.Delivered number ∷ []) [])) e

    by : (n : ℕ) (is : List WatchItem) (b : Bool) → (n == number) ≡ b → waits_in (nth (with_nth w.streams number next) n) ≡ Some is → QueueGoes n (told_of w) (item.Delivered number ∷ []) is
    by n is true q e =
        let here = equal n number q in
        let waits_here : waits_in (nth (with_nth w.streams number next) n) ≡ Some rest =
        ap (λ (k : ℕ). waits_in (nth (with_nth w.streams number next) k)) here ∙ ap waits_in (nth_itself w.streams number s next at) ∙ ap (λ b. cond b None (Some rest)) goes_on in
        let same = same_items rest is (sym waits_here ∙ e) in
        record {
          before = s.waiting;
          was = ap (λ (k : ℕ). waits_in (nth w.streams k)) here ∙ ap waits_in at ∙ ap (λ b. cond b None (Some s.waiting)) goes_on;
          taken = i ∷ [];
          pushed = append-nil s.waiting ∙ there ∙ ap (λ (l : List WatchItem). i ∷ l) same;
          count = sym (one (number == n) (ap (λ (k : ℕ). number == k) here ∙ number_itself number));
        }
    by n is false q e =
        queue_stays n (told_of w) (item.Delivered number ∷ []) is (ap waits_in (sym (nth_other w.streams number n s next at q)) ∙ e) refl
        (ap (λ b. cond b (item.Delivered number ∷ []) []) (number_turned n number q))

-- ---- what each step of a proxy does

pub turn_goes : (w : World) (p : ℕ) (x : Place) (e : CoreEvent) (o : Outcome) (v : World) (y : Place) (own : List Item) (told : Replies) → Turn w p x e o v y own told → Goes own (told_of w) (told_of v)
turn_goes w p x _ _ _ _ _ _ (ticks o) = mute_goes _ (told_of w) (told_of w) (ticked_nothing p).mute (stays_itself (told_of w))
turn_goes w p x _ _ _ _ _ _ (asks_it ticket q o u) = mute_goes _ (told_of w) (told_of w) (asked_nothing p ticket q).mute (stays_itself (told_of w))
turn_goes w p x _ _ _ _ _ _ (posts_it ticket path body q o u) =
    mute_goes _ (told_of w) (told_of w) (mute-append (item.Posted p ticket path body ∷ []) (item.Asked p ticket q ∷ []) (posted_nothing p ticket path body).mute (asked_nothing p ticket q).mute) (stays_itself (told_of w))
turn_goes w p x _ _ _ _ _ _ (calls own member ticket q) = sent_goes w p x own member ticket q
turn_goes w p x _ _ _ _ _ _ (opens own member ask) = opened_goes w p x own member (request.Watch ask) (opened w.store member ask).0 refl
turn_goes w p x _ _ _ _ _ _ (closes own number e) = mute_goes _ (told_of w) _ (closed_nothing p number).mute (closed_stays w number (nth w.streams number) refl)
turn_goes w p x _ _ _ _ _ _ (answers number call a o e f) = mute_goes _ (told_of w) _ (answered_mute number) (settled_stays w number call e)
turn_goes w p x _ _ _ _ _ _ (loses number call o e) = mute_goes _ (told_of w) _ (lost_nothing number).mute (settled_stays w number call e)
turn_goes w p x _ _ _ _ _ _ (delivers_it number s i rest o e f g h k) = delivered_goes w number s i rest e g k
turn_goes w p x _ _ _ _ _ _ (cuts number s o e f g h) = mute_goes _ (told_of w) _ (cut_nothing number).mute (ended_stays w number s e)
turn_goes w p x _ _ _ _ _ _ (takes ticket i) = mute_goes _ (told_of w) (told_of w) (taken_nothing p x.posted ticket i).mute (stays_itself (told_of w))
turn_goes w p x _ _ _ _ _ _ (waits ticket o u) = mute_goes _ (told_of w) (told_of w) (pending_nothing p ticket).mute (stays_itself (told_of w))
turn_goes w p x _ _ _ _ _ _ (leaves ticket o) = mute_goes _ (told_of w) (told_of w) (left_nothing p ticket).mute (stays_itself (told_of w))

-- ---- a call is executed

pub executed_goes : (w v : World) (number : ℕ) (call : SentCall) → Sound w.store → nth w.calls number ≡ Some call → call.executed ≡ None
    → v.calls ≡ with_nth w.calls number (record call { executed = Some (exec w.store call.member call.request).1 }) → v.streams ≡ w.streams → v.store ≡ (exec w.store call.member call.request).0
    → Goes (item.Executed number (exec w.store call.member call.request).1 ∷ []) (told_of w) (told_of v)
executed_goes w v number call sound at fresh calls' streams store = record {
  rises = (let g = grown w.store (exec w.store call.member call.request).0 (exec_leaves w.store call.member call.request).grown in omega (arith, g, up));
  sent = λ r n e. elim e [ inl b ↦ ap (λ (cs : List SentCall). sender_of (nth cs n)) calls' ∙ nth_same sender_of w.calls number n call done at refl ∙ b | inr b ↦ untrue b ];
  executed = λ n x e. elim e [ inl b ↦ by_old n x (n == number) refl b | inr b ↦ by_new n x (number == n) refl b ];
  opened = λ r n e. elim e [ inl b ↦ ap (λ (ss : List OpenedStream). opener_of (nth ss n)) streams ∙ b | inr b ↦ untrue b ];
  queued = λ n is e. queue_stays n (told_of w) _ is (ap (λ (ss : List OpenedStream). waits_in (nth ss n)) (sym streams) ∙ e) refl refl;
  answers = λ n reply e. by_answer n reply (n == number) refl (ap (λ (cs : List SentCall). answer_by (nth cs n)) (sym calls') ∙ e);
  pushed = λ n. tt;
}
  where
    a : Answer
    a = (exec w.store call.member call.request).1

    done : SentCall
    done = record call { executed = Some a }

    up : newest v.store.history ≡ newest (exec w.store call.member call.request).0.history
    up = ap (λ (s : State). newest s.history) store

    by_old : (n : ℕ) (x : Answer) (b : Bool) → (n == number) ≡ b → answers_of w.calls n ≡ Some x → answers_of v.calls n ≡ Some x
    by_old n x true q e = no_answer x (sym fresh ∙ sym (ap (λ (k : ℕ). answers_of w.calls k) (equal n number q) ∙ ap answer_by at) ∙ e)
    by_old n x false q e = ap (λ (cs : List SentCall). answer_by (nth cs n)) calls' ∙ ap answer_by (nth_other w.calls number n call done at q) ∙ e

    by_new : (n : ℕ) (x : Answer) (b : Bool) → (number == n) ≡ b → cond b (Some a) None ≡ Some x → answers_of v.calls n ≡ Some x
    by_new n x true q e = ap (λ (cs : List SentCall). answer_by (nth cs n)) calls' ∙ ap (λ (k : ℕ). answer_by (nth (with_nth w.calls number done) k)) (sym (same_number number n q)) ∙ ap answer_by (nth_itself w.calls number call done at) ∙ e
    by_new n x false q e = no_answer x e

    one_answer : (x y : Answer) → Some x ≡ Some y → x ≡ y
    one_answer x y e = cc

    by_answer : (n : ℕ) (reply : Reply) (b : Bool) → (n == number) ≡ b → answer_by (nth (with_nth w.calls number done) n) ≡ Some (Done reply)
        → (answers_of w.calls n ≡ Some (Done reply)) ⊎ (reply.header.revision ≤ newest v.store.history)
    by_answer n reply true q e =
        let here : Some a ≡ Some (Done reply) = sym (ap (λ (k : ℕ). answer_by (nth (with_nth w.calls number done) k)) (equal n number q) ∙ ap answer_by (nth_itself w.calls number call done at)) ∙ e in
        let l = answer_up_to w.store call.member call.request reply sound (one_answer a (Done reply) here) in
        inr (omega (arith, l, up))
    by_answer n reply false q e = inl (ap answer_by (sym (nth_other w.calls number n call done at q)) ∙ e)

-- ---- a message is pushed

pub pushed_goes : (w : World) (number : ℕ) (s : OpenedStream) (t : State) (i : WatchItem) → nth w.streams number ≡ Some s → s.ended ≡ false → IsPushed w.store number t i
    → Goes (item.Pushed number i ∷ []) (told_of w) (told_of (record w { streams = with_nth w.streams number (with_message i s); store = t }))
pushed_goes w number s t i at goes_on k = record {
  rises = omega (arith, up);
  sent = λ r n e. elim e [ inl b ↦ b | inr b ↦ untrue b ];
  executed = λ n x e. elim e [ inl b ↦ b | inr b ↦ no_answer x b ];
  opened = λ r n e. elim e [ inl b ↦ nth_same opener_of w.streams number n s next at refl ∙ b | inr b ↦ untrue b ];
  queued = λ n is e. by n is (n == number) refl e;
  answers = λ n reply e. inl e;
  pushed = λ n. newest_if (number == n);
}
  where
    next : OpenedStream
    next = with_message i s

    up : newest t.history ≡ newest w.store.history
    up = ap newest (message_leaves w.store t i number k).history

    newest_if : (b : Bool) → EachOf (IsUpTo (newest t.history)) (cond b (i ∷ []) [] ++ [])
    newest_if true = (let l = message_is_newest w.store t number i k in omega (arith, l, up), tt)
    newest_if false = tt

    by : (n : ℕ) (is : List WatchItem) (b : Bool) → (n == number) ≡ b → waits_in (nth (with_nth w.streams number next) n) ≡ Some is → QueueGoes n (told_of w) (item.Pushed number i ∷ []) is
    by n is true q e =
        let here = equal n number q in
        let waits_here : waits_in (nth (with_nth w.streams number next) n) ≡ Some (s.waiting ++ i ∷ []) =
        ap (λ (k : ℕ). waits_in (nth (with_nth w.streams number next) k)) here ∙ ap waits_in (nth_itself w.streams number s next at) ∙ ap (λ b. cond b None (Some (s.waiting ++ i ∷ []))) goes_on in
        record {
          before = s.waiting;
          was = ap (λ (k : ℕ). waits_in (nth w.streams k)) here ∙ ap waits_in at ∙ ap (λ b. cond b None (Some s.waiting)) goes_on;
          taken = [];
          pushed = ap (λ b. s.waiting ++ (cond b (i ∷ []) [] ++ [])) (ap (λ (k : ℕ). number == k) here ∙ number_itself number) ∙ same_items (s.waiting ++ i ∷ []) is (sym waits_here ∙ e);
          count = refl;
        }
    by n is false q e =
        queue_stays n (told_of w) (item.Pushed number i ∷ []) is (ap waits_in (sym (nth_other w.streams number n s next at q)) ∙ e)
        (ap (λ b. cond b (i ∷ []) [] ++ []) (number_turned n number q)) refl
