-- What holds of each acquire that is out, by its key, its call and its session, lasts: a step brings none but the one that it sends.
use Rattle.std.proofs.Common.{◌≡◌, ℕ, Bool, true, false, not, cond, List, [], ◌∷◌, Option, None, Some, refl, sym, ◌∙◌, ap, subst}
use Rattle.std.specs.Cmp.Lexicographic.{slice_cmp}
use Rattle.std.specs.FinMap.Entries.{is_sorted-where_key}
use Rattle.std.specs.Option.{option_map}
use Rattle.std.specs.Ordering.{nat_cmp}
use Rattle.etcd_types.specs.Keys.{same}
use Rattle.etcd_types.proofs.KeyOrder.{same-equal}
use Rattle.proxy_model.specs.Keyed.{Keyed, at, changed_at, is_in_order}
use Rattle.proxy_model.proofs.KeyedLaws.{to_T, from_T, at-with_at, in_order-with_at}
use Rattle.wait_model.specs.declared.sending.Sending.{Sending}
use Rattle.wait_model.specs.declared.sending.Sending.TheVariants as sending
use Rattle.wait_model.specs.Sent.{JobSent, job_sent}
use Rattle.wait_model.proofs.Tables.{at-without}
use Rattle.read_model.specs.declared.acquire.Acquire.{Acquire}
use Rattle.read_model.specs.declared.asked.Asked.{Asked}
use Rattle.read_model.specs.Acquires.{sent_out}
use Rattle.read_model.specs.SessionEnd.{is_due}
use Rattle.watch_model.specs.declared.stream.StreamJob.{StreamJob}
use Rattle.watch_model.specs.declared.stream.StreamJob.TheVariants as stream
use Rattle.watch_model.specs.Due.{next_job}
use Rattle.core_model.specs.declared.event.CoreEvent.{CoreEvent}
use Rattle.core_model.specs.declared.event.CoreEvent.TheVariants as event
use Rattle.core_model.specs.ClockWork.{clock_work}
use Rattle.core_model.specs.DueJobs.{DueJob, ForSession, ForWrites, ForAcquire, ForAsk, ForGroup, ToOpen, ForStream, first_job}
use Rattle.core_model.specs.Sending.{next_call, writes_sent, sent_by, on_work}
use Rattle.core_model.specs.State.{Core}
use Rattle.core_model.specs.Step.{happened}
use Rattle.core_model.specs.Watching.{with_watches, stream_job}
use Rattle.keep_laws.proofs.Rows.{All}
use Rattle.reply_laws.proofs.Lasting.{Lasts, clock_so, answered_so, lost_so, asked_so, take_so, leave_so, tick_so, item_so, cut_so}

-- by its key, the number of its call, and its session
abbrev pub OfAcquire : Type 1
OfAcquire = List ℕ → ℕ → ℕ → Type 0

pub record AcquiresKnown (T : OfAcquire) (xs : Keyed Acquire) : Type 0 where
  pub order : is_in_order xs ≡ true
  pub out : (k : List ℕ) (number : ℕ) (x : Acquire) → at xs k ≡ Some x → x.sending ≡ sending.Out number → T k number x.session

pub acquires_more : (T U : OfAcquire) → ((k : List ℕ) (number session : ℕ) → T k number session → U k number session) → (xs : Keyed Acquire) → AcquiresKnown T xs → AcquiresKnown U xs
acquires_more T U g xs h = record { order = h.order; out = λ k number x e o. g k number x.session (h.out k number x e o) }

same_acquire : (x y : Acquire) → Some x ≡ Some y → x ≡ y
same_acquire x y e = cc

due_not_out : (s : Sending) (number : ℕ) → is_due s ≡ true → s ≡ sending.Out number → ⊥
due_not_out s number d e = let f : false ≡ true = sym (ap is_due e) ∙ d in absurd (cc)

abbrev Any : Asked → Type 0
Any a = Unit {0}

any : (xs : List Asked) → All Any xs
any [] = tt
any (x ∷ xs) = (tt, any xs)

module _ (T : OfAcquire) where
  last : Lasts Any (AcquiresKnown T)
  last = record {
    uncalled = λ y u. tt;
    gone = λ xs k h. record { order = in_order-with_at xs k None h.order; out = λ j number x e o. gone_at (same k j) j number x h (sym (at-with_at xs k j None) ∙ e) o };
    due = λ xs k y d h. record { order = in_order-with_at xs k (Some y) h.order; out = λ j number x e o. due_at (same k j) y j number x d h (sym (at-with_at xs k j (Some y)) ∙ e) o };
    less = λ xs p h. record { order = from_T _ (is_sorted-where_key (slice_cmp nat_cmp) (λ x. not (p x)) xs (to_T _ h.order)); out = λ j number x e o. gone_at (p j) j number x h (sym (at-without p xs j) ∙ e) o };
  }
    where
      gone_at : {xs : Keyed Acquire} (b : Bool) (j : List ℕ) (number : ℕ) (x : Acquire) → AcquiresKnown T xs → cond b None (at xs j) ≡ Some x → x.sending ≡ sending.Out number → T j number x.session
      gone_at true j number x h e o = absurd (cc)
      gone_at false j number x h e o = h.out j number x e o

      due_at : {xs : Keyed Acquire} (b : Bool) (y : Acquire) (j : List ℕ) (number : ℕ) (x : Acquire) → is_due y.sending ≡ true → AcquiresKnown T xs → cond b (Some y) (at xs j) ≡ Some x → x.sending ≡ sending.Out number → T j number x.session
      due_at true y j number x d h e o = absurd (due_not_out y.sending number d (ap (λ (z : Acquire). z.sending) (same_acquire y x e) ∙ o))
      due_at false y j number x d h e o = h.out j number x e o

  pub clock_acquires : (now : ℕ) (c : Core) → AcquiresKnown T c.acquires → AcquiresKnown T (clock_work now c).acquires
  clock_acquires now c h = (clock_so Any (AcquiresKnown T) last now c (any c.asks, h)).1

  acquire_sent : (number : ℕ) (k : List ℕ) (x : Acquire) (xs : Keyed Acquire) → at xs k ≡ Some x → T k number x.session → AcquiresKnown T xs → AcquiresKnown T (changed_at xs k (sent_out number))
  acquire_sent number k x xs f t h = record {
    order = in_order-with_at xs k (option_map (sent_out number) (at xs k)) h.order;
    out = λ j n y e o. by (same k j) j refl n y (sym (at-with_at xs k j (option_map (sent_out number) (at xs k))) ∙ e) o;
  }
    where
      this : (j : List ℕ) (n : ℕ) (y : Acquire) → k ≡ j → sent_out number x ≡ y → y.sending ≡ sending.Out n → T j n y.session
      this j n y i g o =
          let number_is : number ≡ n = let p : sending.Out number ≡ sending.Out n = ap (λ (z : Acquire). z.sending) g ∙ o in cc in
          subst (λ (l : List ℕ). T l n y.session) i (subst (λ (m : ℕ). T k m y.session) number_is (subst (λ (z : Acquire). T k number z.session) g t))

      by : (b : Bool) (j : List ℕ) → same k j ≡ b → (n : ℕ) (y : Acquire) → cond b (option_map (sent_out number) (at xs k)) (at xs j) ≡ Some y → y.sending ≡ sending.Out n → T j n y.session
      by true j i n y e o = this j n y (same-equal k j i) (same_acquire (sent_out number x) y (sym (ap (option_map (sent_out number)) f) ∙ e)) o
      by false j i n y e o = h.out j n y e o

  abbrev pub Stand : Core → Option DueJob → Type 0
  Stand c (Some (ForAcquire k x)) = (at c.acquires k ≡ Some x) × T k (next_call c) x.session
  Stand c _ = Unit {0}

  sent_acquires : (now : ℕ) (c : Core) (j : Option DueJob) → Stand c j → AcquiresKnown T c.acquires → AcquiresKnown T (sent_by now j c).core.acquires
  sent_acquires now c None s h = h
  sent_acquires now c (Some (ForSession x)) s h = h
  sent_acquires now c (Some ForWrites) s h = by (job_sent (next_call c) c.own)
    where
      by : (x : Option JobSent) → AcquiresKnown T (writes_sent now x c).core.acquires
      by None = h
      by (Some x) = h
  sent_acquires now c (Some (ForAcquire k x)) s h = acquire_sent (next_call c) k x c.acquires s.0 s.1 h
  sent_acquires now c (Some (ForAsk a)) s h = h
  sent_acquires now c (Some (ForGroup lease ticket)) s h = h
  sent_acquires now c (Some (ToOpen o)) s h = h
  sent_acquires now c (Some (ForStream x)) s h = by (next_job c.watches (Some x)).1
    where
      by : (o : Option StreamJob) → AcquiresKnown T (stream_job o (with_watches c (next_job c.watches (Some x)).0)).core.acquires
      by None = h
      by (Some (stream.Close number)) = h
      by (Some (stream.Open number range start)) = h

  pub happened_acquires : (now : ℕ) (e : CoreEvent) (c : Core) → (e ≡ event.Work → Stand c (first_job c)) → AcquiresKnown T c.acquires → AcquiresKnown T (happened now e c).core.acquires
  unfolding on_work
  happened_acquires now (event.Ask ticket q word) c s h = (asked_so Any (AcquiresKnown T) last now ticket q word c (any c.asks, h)).1
  happened_acquires now (event.Answer call a) c s h = (answered_so Any (AcquiresKnown T) last now call a c (any c.asks, h)).1
  happened_acquires now (event.Lost call) c s h = (lost_so Any (AcquiresKnown T) last now call c (any c.asks, h)).1
  happened_acquires now (event.Tick word) c s h = (tick_so Any (AcquiresKnown T) last now word c (any c.asks, h)).1
  happened_acquires now (event.Item number x) c s h = (item_so Any (AcquiresKnown T) last now number x c (any c.asks, h)).1
  happened_acquires now (event.Cut number) c s h = (cut_so Any (AcquiresKnown T) last number c (any c.asks, h)).1
  happened_acquires now (event.Take ticket) c s h = (take_so Any (AcquiresKnown T) last ticket c (any c.asks, h)).1
  happened_acquires now (event.Leave ticket) c s h = (leave_so Any (AcquiresKnown T) last now ticket c (any c.asks, h)).1
  happened_acquires now event.Work c s h = sent_acquires now c (first_job c) (s refl) h
