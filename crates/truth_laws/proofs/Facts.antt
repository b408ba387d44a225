-- What a world has of the calls and streams that its items tell of, as far as headers are given by them, and that each of these headers
-- is no newer than the store.
use Rattle.std.proofs.Common.{◌≡◌, ◌⊎◌, inl, inr, ℕ, ◌+◌, ◌≤◌, Bool, true, false, cond, List, [], ◌∷◌, ◌++◌, append_assoc, append-nil, length, filter, Option, None, Some, refl, sym, ◌∙◌, ap, subst, arith}
use Rattle.std.specs.Option.{option_map}
use Rattle.std.proofs.lemmas.List.{length-append}
use Rattle.std.proofs.lemmas.List.Elements.{filter-append}
use Rattle.std.proofs.lemmas.List.Folds.{list_any-append}
use Rattle.etcd_types.proofs.Bools.{or_either}
use Rattle.etcd_types.specs.declared.answer.Answer.{Answer}
use Rattle.etcd_types.specs.declared.answer.Answer.TheVariants.{Done}
use Rattle.etcd_types.specs.declared.answer.Reply.{Reply}
use Rattle.etcd_types.specs.declared.watch.WatchItem.{WatchItem}
use Rattle.core_fits.specs.Fits.{EachOf}
use Rattle.core_model.specs.LeasingStream.{item_header}
use Rattle.script_text.specs.declared.item.Item.{Item}
use Rattle.store_model.specs.History.{newest}
use Rattle.world_model.specs.declared.sent_call.SentCall.{SentCall}
use Rattle.world_model.specs.Lives.{is_call_of, sent_it, executed_to, is_stream_of, opened_it, pushed_into, delivers}
use Rattle.world_model.specs.Places.{nth}
use Rattle.world_model.specs.State.{OpenedStream, World}
use Rattle.renewed_laws.proofs.Worlds.{answers_of}
use Rattle.truth_laws.proofs.Telling.{or_later, executed-append, pushed-append, IsMute}

-- ---- what is told of a world

pub record Told : Type 0 where
  -- of the calls by their numbers: by which proxy they were sent, and to what they were executed
  pub senders : ℕ → Option ℕ
  pub answers : ℕ → Option Answer
  -- of the streams: by which proxy they were opened, and what waits in those that go on
  pub openers : ℕ → Option ℕ
  pub waiting : ℕ → Option (List WatchItem)
  pub newest : ℕ

abbrev pub sender_of : Option SentCall → Option ℕ
sender_of o = option_map (λ c. c.proxy) o

abbrev pub opener_of : Option OpenedStream → Option ℕ
opener_of o = option_map (λ s. s.proxy) o

-- none wait in one that isn't opened yet
abbrev pub waits_in : Option OpenedStream → Option (List WatchItem)
waits_in None = Some []
waits_in (Some s) = cond s.ended None (Some s.waiting)

abbrev pub told_of : World → Told
told_of w = record {
  senders = λ n. sender_of (nth w.calls n);
  answers = answers_of w.calls;
  openers = λ n. opener_of (nth w.streams n);
  waiting = λ n. waits_in (nth w.streams n);
  newest = newest w.store.history;
}

-- ---- what the items tell of it

-- these wait in the stream: they were pushed behind those that were delivered
pub record Queued (n : ℕ) (items : List Item) (is : List WatchItem) : Type 0 where
  pub taken : List WatchItem
  pub pushed : pushed_into n items ≡ taken ++ is
  pub count : length taken ≡ length (filter (delivers n) items)

abbrev pub IsUpTo : ℕ → WatchItem → Type 0
IsUpTo most i = (item_header i).revision ≤ most

pub record Facts (items : List Item) (t : Told) : Type 0 where
  pub sent : (p n : ℕ) → sent_it p n items ≡ true → t.senders n ≡ Some p
  pub executed : (n : ℕ) (a : Answer) → executed_to n items ≡ Some a → t.answers n ≡ Some a
  pub opened : (p n : ℕ) → opened_it p n items ≡ true → t.openers n ≡ Some p
  pub queued : (n : ℕ) (is : List WatchItem) → t.waiting n ≡ Some is → Queued n items is
  pub answers : (n : ℕ) (reply : Reply) → t.answers n ≡ Some (Done reply) → reply.header.revision ≤ t.newest
  pub messages : (n : ℕ) (is : List WatchItem) → t.waiting n ≡ Some is → EachOf (IsUpTo t.newest) is

-- ---- how a line goes on with it

pub record QueueGoes (n : ℕ) (t : Told) (more : List Item) (is : List WatchItem) : Type 0 where
  pub before : List WatchItem
  pub was : t.waiting n ≡ Some before
  pub taken : List WatchItem
  pub pushed : before ++ pushed_into n more ≡ taken ++ is
  pub count : length taken ≡ length (filter (delivers n) more)

pub record Goes (more : List Item) (t u : Told) : Type 0 where
  pub rises : t.newest ≤ u.newest
  pub sent : (p n : ℕ) → (t.senders n ≡ Some p) ⊎ (sent_it p n more ≡ true) → u.senders n ≡ Some p
  pub executed : (n : ℕ) (a : Answer) → (t.answers n ≡ Some a) ⊎ (executed_to n more ≡ Some a) → u.answers n ≡ Some a
  pub opened : (p n : ℕ) → (t.openers n ≡ Some p) ⊎ (opened_it p n more ≡ true) → u.openers n ≡ Some p
  pub queued : (n : ℕ) (is : List WatchItem) → u.waiting n ≡ Some is → QueueGoes n t more is
  pub answers : (n : ℕ) (reply : Reply) → u.answers n ≡ Some (Done reply) → (t.answers n ≡ Some (Done reply)) ⊎ (reply.header.revision ≤ u.newest)
  pub pushed : (n : ℕ) → EachOf (IsUpTo u.newest) (pushed_into n more)

-- ---- so it goes on

either_answer : (o r : Option Answer) (a : Answer) → or_later o r ≡ Some a → (o ≡ Some a) ⊎ (r ≡ Some a)
either_answer None r a e = inr e
either_answer (Some b) r a e = inl e

each_up_to : (most more : ℕ) (is : List WatchItem) → most ≤ more → EachOf (IsUpTo most) is → EachOf (IsUpTo more) is
each_up_to most more [] l h = tt
each_up_to most more (i ∷ is) l h = (let k = h.0 in omega (arith, k, l), each_up_to most more is l h.1)

each-append : {A : Type 0} (P : A → Type 0) (xs ys : List A) → EachOf P xs → EachOf P ys → EachOf P (xs ++ ys)
each-append P [] ys h k = k
each-append P (x ∷ xs) ys h k = (h.0, each-append P xs ys h.1 k)

each_behind : {A : Type 0} (P : A → Type 0) (xs ys : List A) → EachOf P (xs ++ ys) → EachOf P ys
each_behind P [] ys h = h
each_behind P (x ∷ xs) ys h = each_behind P xs ys h.1

queue_on : (items more : List Item) (t : Told) (n : ℕ) (is : List WatchItem) → Facts items t → QueueGoes n t more is → Queued n (items ++ more) is
queue_on items more t n is h g =
    let q = h.queued n g.before g.was in
    record {
      taken = q.taken ++ g.taken;
      pushed =
          pushed-append n items more ∙ ap (λ (l : List WatchItem). l ++ pushed_into n more) q.pushed ∙ append_assoc q.taken g.before (pushed_into n more)
          ∙ ap (λ (l : List WatchItem). q.taken ++ l) g.pushed ∙ sym (append_assoc q.taken g.taken is);
      count =
          length-append q.taken g.taken ∙ (λ i. q.count i + g.count i) ∙ sym (length-append (filter (delivers n) items) (filter (delivers n) more)) ∙ ap length (sym (filter-append (delivers n) items more));
    }

pub facts_on : (items more : List Item) (t u : Told) → Facts items t → Goes more t u → Facts (items ++ more) u
facts_on items more t u h g = record {
  sent = λ p n e. g.sent p n (elim (or_either (sent_it p n items) (sent_it p n more) (sym (list_any-append (is_call_of p n) items more) ∙ e)) [ inl a ↦ inl (h.sent p n a) | inr b ↦ inr b ]);
  executed = λ n a e. g.executed n a (elim (either_answer (executed_to n items) (executed_to n more) a (sym (executed-append n items more) ∙ e)) [ inl x ↦ inl (h.executed n a x) | inr y ↦ inr y ]);
  opened = λ p n e. g.opened p n (elim (or_either (opened_it p n items) (opened_it p n more) (sym (list_any-append (is_stream_of p n) items more) ∙ e)) [ inl a ↦ inl (h.opened p n a) | inr b ↦ inr b ]);
  queued = λ n is e. queue_on items more t n is h (g.queued n is e);
  answers = λ n reply e. elim (g.answers n reply e) [ inl a ↦ (let k = h.answers n reply a in let l = g.rises in omega (arith, k, l)) | inr l ↦ l ];
  messages = λ n is e.
      let q = g.queued n is e in
      let all = each-append (IsUpTo u.newest) q.before (pushed_into n more) (each_up_to t.newest u.newest q.before g.rises (h.messages n q.before q.was)) (g.pushed n) in
      each_behind (IsUpTo u.newest) q.taken is (subst (EachOf (IsUpTo u.newest)) q.pushed all);
}

-- where the items tell nothing of these
pub record Stays (t u : Told) : Type 0 where
  pub rises : t.newest ≤ u.newest
  pub senders : (n : ℕ) → u.senders n ≡ t.senders n
  pub answers : (n : ℕ) → u.answers n ≡ t.answers n
  pub openers : (n : ℕ) → u.openers n ≡ t.openers n
  -- a stream may end
  pub waiting : (n : ℕ) (is : List WatchItem) → u.waiting n ≡ Some is → t.waiting n ≡ Some is

false_true : {A : Type 0} (b : Bool) → b ≡ false → b ≡ true → A
false_true b e f = absurd (let no_way : false ≡ true = sym e ∙ f in cc)

none_some : {A : Type 0} (o : Option Answer) (a : Answer) → o ≡ None → o ≡ Some a → A
none_some o a e f = absurd (let no_way : ◌≡◌ {A = Option Answer} None (Some a) = sym e ∙ f in cc)

pub mute_goes : (more : List Item) (t u : Told) → IsMute more → Stays t u → Goes more t u
mute_goes more t u q s = record {
  rises = s.rises;
  sent = λ p n e. elim e [ inl a ↦ s.senders n ∙ a | inr b ↦ false_true (sent_it p n more) (q.sent p n) b ];
  executed = λ n a e. elim e [ inl x ↦ s.answers n ∙ x | inr y ↦ none_some (executed_to n more) a (q.executed n) y ];
  opened = λ p n e. elim e [ inl a ↦ s.openers n ∙ a | inr b ↦ false_true (opened_it p n more) (q.opened p n) b ];
  queued = λ n is e. record {
    before = is;
    was = s.waiting n is e;
    taken = [];
    pushed = ap (λ (l : List WatchItem). is ++ l) (q.pushed n) ∙ append-nil is;
    count = ap length (sym (q.delivered n));
  };
  answers = λ n reply e. inl (sym (s.answers n) ∙ e);
  pushed = λ n. subst (EachOf (IsUpTo u.newest)) (sym (q.pushed n)) tt;
}

pub stays_itself : (t : Told) → Stays t t
stays_itself t = record { rises = omega arith; senders = λ n. refl; answers = λ n. refl; openers = λ n. refl; waiting = λ n is e. e }
