-- A client stream's opening: at the store it is a watch of the stream's range under the namespace, from its next.
use Rattle.std.proofs.Common.{◌≡◌, ◌⊎◌, inl, inr, ℕ, zero, suc, ◌+◌, ◌-◌, ◌≤◌, Bool, true, false, cond, ◌==◌, List, [], ◌∷◌, ◌++◌, length, slice_get, Option, None, Some, Result, Ok, refl, ap, sym, subst, ◌∙◌, arith}
use Rattle.std.proofs.lemmas.Bool.Decides.{nat_tests}
use Rattle.etcd_types.specs.declared.request.Request.TheVariants as request
use Rattle.etcd_types.specs.declared.request.WatchAsk.{WatchAsk}
use Rattle.proxy_model.specs.Prefixes.{under}
use Rattle.store_model.specs.State.{State}
use Rattle.store_model.specs.Watches.{opened, watch_of}
use Rattle.watch_model.specs.declared.stream.StreamPhase.{StreamPhase}
use Rattle.watch_model.specs.declared.stream.StreamPhase.TheVariants as phase
use Rattle.watch_model.specs.Due.{begun, sent}
use Rattle.watch_model.specs.Lookups.{stream_at, is_begun, is_closing}
use Rattle.watch_model.specs.State.{Stream}
use Rattle.watch_model.proofs.Streams.{at-with_stream}
use Rattle.core_model.specs.declared.event.CoreEvent.TheVariants as event
use Rattle.core_model.specs.declared.event.Outcome.{Outcome}
use Rattle.core_model.specs.declared.event.Outcome.TheVariants as outcome
use Rattle.core_model.specs.declared.event.Job.TheVariants as job
use Rattle.core_model.specs.declared.event.StepFault.{StepFault}
use Rattle.core_model.specs.Watching.{stream_job, with_watches}
use Rattle.world_model.specs.Places.{kept_at, with_kept, nth}
use Rattle.world_model.specs.State.{Numbered, OpenedStream}
use Rattle.etcd_types.specs.declared.watch.WatchItem.{WatchItem}
use Rattle.held_laws.proofs.Pushes.{Whole, SaysAll}
use Rattle.held_laws.proofs.Kept.{kept_itself, kept_other}
use Rattle.held_laws.proofs.Holding.{IsApart}
use Rattle.held_laws.proofs.Links.{waits, Linked, StreamOk}
use Rattle.held_laws.proofs.Stories.{PassesAll}
use Rattle.held_laws.proofs.Streams.{nothing_there, apart_none, found_is}
use Rattle.core_laws.proofs.Watches.Touches.{Side, is_plain, Touch, leaves, opens_leasing, sends}
use Rattle.watch_model.specs.Lookups.{numbered}

-- ---- the lists grow by one

get_push : {A : Type 0} (xs : List A) (y : A) (j : ℕ) (z : A) → slice_get (xs ++ y ∷ []) j ≡ Some z → (slice_get xs j ≡ Some z) ⊎ ((j ≡ length xs) × (y ≡ z))
get_push [] y zero z e = inr (refl, cc)
get_push [] y (suc j) z e = absurd (cc)
get_push (x ∷ xs) y zero z e = inl e
get_push (x ∷ xs) y (suc j) z e = elim (get_push xs y j z e) [ inl h ↦ inl h | inr h ↦ inr (let k = h.0 in omega (arith, k), h.1) ]

pub nth_push : {A : Type 0} (xs : List A) (y : A) (number : ℕ) (z : A) → nth (xs ++ y ∷ []) number ≡ Some z → (nth xs number ≡ Some z) ⊎ ((number ≡ length xs + 1) × (y ≡ z))
nth_push xs y number z e = by (number == 0) refl e
  where
    one_more : (n k : ℕ) → (n == 0) ≡ false → n - 1 ≡ k → n ≡ k + 1
    one_more n k e f = grind (arith, nat_tests)

    by : (b : Bool) → (number == 0) ≡ b → cond b None (slice_get (xs ++ y ∷ []) (number - 1)) ≡ Some z → (cond b None (slice_get xs (number - 1)) ≡ Some z) ⊎ ((number ≡ length xs + 1) × (y ≡ z))
    by true q e = absurd (cc)
    by false q e = elim (get_push xs y (number - 1) z e) [ inl h ↦ inl h | inr h ↦ inr (one_more number (length xs) q h.0, h.1) ]

last_get : {A : Type 0} (xs : List A) (y : A) → slice_get (xs ++ y ∷ []) (length xs) ≡ Some y
last_get [] y = refl
last_get (x ∷ xs) y = last_get xs y

pub last_nth : {A : Type 0} (xs : List A) (y : A) → nth (xs ++ y ∷ []) (length xs + 1) ≡ Some y
last_nth xs y =
    ap (λ b. cond b None (slice_get (xs ++ y ∷ []) (length xs + 1 - 1))) (more (length xs)) ∙ ap (slice_get (xs ++ y ∷ [])) (less (length xs)) ∙ last_get xs y
  where
    more : (n : ℕ) → (n + 1 == 0) ≡ false
    more n = grind (arith, nat_tests)

    less : (n : ℕ) → n + 1 - 1 ≡ n
    less n = omega arith

pub opened_there : (s : State) (member : ℕ) (ask : WatchAsk) (number : ℕ) → number ≡ length s.watches + 1 → watch_of (opened s member ask).0 number ≡ Some (record { member = member; ask = ask; next = 0 })
opened_there s member ask number e = ap (λ (n : ℕ). watch_of (opened s member ask).0 n) e ∙ last_nth s.watches (record { member = member; ask = ask; next = 0 })

-- ---- what the step tells of it

-- the stream that was begun
pub record Opening (namespace : List ℕ) (a : Side) (d : Side) (own : ℕ) (ask : WatchAsk) : Type 0 where
  pub stream : Stream
  pub number : stream.number ≡ own
  pub found : stream_at stream.number a.broadcasts.streams ≡ Some stream
  pub due : is_begun stream.phase ≡ false
  pub unclosed : is_closing stream.phase ≡ false
  pub behind : stream_at stream.number d.broadcasts.streams ≡ Some (begun stream)
  pub range : ask.range ≡ under namespace stream.stream.range
  pub passes : PassesAll ask
  pub start : ask.start ≡ stream.stream.next

-- or the leasing stream
abbrev pub Opens : List ℕ → Side → Side → ℕ → WatchAsk → Type 0
Opens namespace a d own ask = Opening namespace a d own ask ⊎ ((a.leasing ≡ Some own) × (d ≡ a))

ask_is : (a b : WatchAsk) → request.Watch a ≡ request.Watch b → a ≡ b
ask_is a b e = cc

begin_is : (n m k l : ℕ) (a b : WatchAsk) → ◌≡◌ {A = Result Outcome StepFault} (Ok (outcome.Job (Some (job.Begin n m (request.Watch a))))) (Ok (outcome.Job (Some (job.Begin k l (request.Watch b))))) → (n ≡ k) × (a ≡ b)
begin_is n m k l a b e = (cc, cc)

pub opens_so : (namespace : List ℕ) (a d : Side) (own member : ℕ) (ask : WatchAsk) (o : Result Outcome StepFault) → o ≡ Ok (outcome.Job (Some (job.Begin own member (request.Watch ask)))) → numbered 0 a.broadcasts.given a.broadcasts.streams ≡ true
    → Touch namespace a event.Work d o → Opens namespace a d own ask
opens_so namespace a _ own member ask _ e n (leaves w o p) = absurd (let no' : is_plain event.Work (Ok (outcome.Job (Some (job.Begin own member (request.Watch ask))))) ≡ true = subst (λ (x : Result Outcome StepFault). is_plain event.Work x ≡ true) e p in cc)
opens_so namespace a _ own member ask _ e n (opens_leasing number m q l) = inr (l ∙ ap (λ (k : ℕ). Some k) number_is, refl)
  where
    number_is : number ≡ own
    number_is = cc
opens_so namespace a _ own member ask _ e n (sends c u m is f) = by u.phase refl e
  where
    found : stream_at u.number a.broadcasts.streams ≡ Some u
    found = found_is a u n f

    by : (p : StreamPhase) → u.phase ≡ p → (stream_job (sent c.watches u p).1 (with_watches c (sent c.watches u p).0)).outcome ≡ Ok (outcome.Job (Some (job.Begin own member (request.Watch ask))))
        → Opens namespace a (record a { broadcasts = (sent a.broadcasts u p).0 }) own ask
    by (phase.Closing since) e g = absurd (cc)
    by phase.Begun e g = absurd (cc)
    by (phase.Due since) e g =
        let same = begin_is _ _ _ _ _ _ g in
        inl (record {
          stream = u;
          number = same.0;
          found = found;
          due = ap is_begun e;
          unclosed = ap is_closing e;
          behind = at-with_stream u.number begun (λ s. refl) a.broadcasts.streams u found;
          range = sym (ap (λ (x : WatchAsk). x.range) same.1) ∙ ap (λ (n : List ℕ). under n u.stream.range) m;
          passes = record { puts = sym (ap (λ (x : WatchAsk). x.no_put) same.1); deletes = sym (ap (λ (x : WatchAsk). x.no_delete) same.1); records = sym (ap (λ (x : WatchAsk). x.prev_kv) same.1) };
          start = sym (ap (λ (x : WatchAsk). x.start) same.1);
        })

-- ---- what fits then

equal : (x y : ℕ) → (x == y) ≡ true → x ≡ y
equal x y e = grind (arith, nat_tests)

some_is : (s t : Stream) → Some s ≡ Some t → s ≡ t
some_is s t e = cc

none_here : {A : Type 0} (t : Stream) → ◌≡◌ {A = Option Stream} None (Some t) → A
none_here t e = absurd (cc)

begun_open : (s : Stream) → is_begun (begun s).phase ≡ true
begun_open s = refl

-- the stream that is opened
pub opened_itself : (namespace : List ℕ) (whole : Whole) (store : State) (number : ℕ) (s : OpenedStream) (a d : Side) (kept : Numbered ℕ) (own member : ℕ) (ask : WatchAsk) → IsApart a.leasing a.broadcasts → s.own ≡ own → s.waiting ≡ []
    → own ≤ d.broadcasts.given → watch_of store number ≡ Some (record { member = member; ask = ask; next = 0 }) → Opens namespace a d own ask → StreamOk namespace whole store number s d (with_kept kept own number)
opened_itself namespace whole store number s a d kept own member ask ap' is empty g at (inr l) =
    nothing_there namespace whole store number s d (with_kept kept own number) (omega (arith, g, is))
    (ap (λ (j : ℕ). stream_at j d.broadcasts.streams) is ∙ ap (λ (x : Side). stream_at own x.broadcasts.streams) l.1 ∙ apart_none a.leasing a.broadcasts own l.0 ap')
opened_itself namespace whole store number s a d kept own member ask ap' is empty g at (inl o) = record {
  given = omega (arith, g, is);
  mine = λ t e c. ap (kept_at (with_kept kept own number)) is ∙ kept_itself kept own number;
  begun = λ t e c. ap (λ (x : Stream). is_begun x.phase) (sym (it t e));
  link = λ q t e c. subst (Linked namespace whole store number s.waiting) (it t e) (record {
    watch = record { member = member; ask = ask; next = 0 };
    at = at;
    range = o.range;
    passes = o.passes;
    next = 0;
    chain = subst (λ (is' : List WatchItem). SaysAll whole ask 0 is' 0) (sym empty) refl;
    stands = waits refl o.start;
  });
}
  where
    it : (t : Stream) → stream_at s.own d.broadcasts.streams ≡ Some t → begun o.stream ≡ t
    it t e = some_is (begun o.stream) t (sym o.behind ∙ ap (λ (j : ℕ). stream_at j d.broadcasts.streams) (o.number ∙ sym is) ∙ e)

-- any other
pub opened_others : (namespace : List ℕ) (whole : Whole) (store : State) (number other : ℕ) (s : OpenedStream) (a d : Side) (kept : Numbered ℕ) (own : ℕ) (ask : WatchAsk) → IsApart a.leasing a.broadcasts → Opens namespace a d own ask
    → StreamOk namespace whole store other s a kept → StreamOk namespace whole store other s d kept → StreamOk namespace whole store other s d (with_kept kept own number)
opened_others namespace whole store number other s a d kept own ask ap' o before h = record {
  given = h.given;
  mine = λ t e c. by (s.own == own) refl t e c;
  begun = h.begun;
  link = h.link;
}
  where
    not_own : {A : Type 0} → s.own ≡ own → (t : Stream) → stream_at s.own d.broadcasts.streams ≡ Some t → (Opens namespace a d own ask) → A
    not_own q t e (inr l) = none_here t (sym (ap (λ (j : ℕ). stream_at j d.broadcasts.streams) q ∙ ap (λ (x : Side). stream_at own x.broadcasts.streams) l.1 ∙ apart_none a.leasing a.broadcasts own l.0 ap') ∙ e)
    not_own q t e (inl o) =
        let there : stream_at s.own a.broadcasts.streams ≡ Some o.stream = ap (λ (j : ℕ). stream_at j a.broadcasts.streams) (q ∙ sym o.number) ∙ o.found in
        absurd (let yes' : true ≡ false = sym (before.begun o.stream there o.unclosed) ∙ o.due in cc)

    by : (b : Bool) → (s.own == own) ≡ b → (t : Stream) → stream_at s.own d.broadcasts.streams ≡ Some t → is_closing t.phase ≡ false → kept_at (with_kept kept own number) s.own ≡ Some other
    by true q t e c = not_own (equal s.own own q) t e o
    by false q t e c = kept_other kept s.own own number q ∙ h.mine t e c
