-- What becomes of one request that a call names, where it waits for the acquire of its key: it is told what came with the acquire's answer,
-- becomes a call of its own, or waits on; it is not decided again.
use Rattle.std.proofs.Common.{◌≡◌, ℕ, ◌+◌, ◌==◌, Bool, true, false, not, cond, ◌&&◌, ◌||◌, List, [], ◌∷◌, map, Option, None, Some, refl, sym, ◌∙◌, ap}
use Rattle.std.specs.List.{list_all}
use Rattle.etcd_types.proofs.Bools.{and_first, and_second}
use Rattle.etcd_types.proofs.KeyOrder.{same-equal, same-itself}
use Rattle.etcd_types.specs.declared.answer.Answer.{Answer}
use Rattle.etcd_types.specs.declared.answer.Answer.TheVariants.{Done, Refused}
use Rattle.etcd_types.specs.declared.answer.Body.{Body}
use Rattle.etcd_types.specs.declared.answer.Body.TheVariants as body
use Rattle.etcd_types.specs.declared.answer.Reply.{Reply}
use Rattle.etcd_types.specs.declared.record.Header.{Header}
use Rattle.etcd_types.specs.declared.record.Kv.{Kv}
use Rattle.etcd_types.specs.declared.code.TheConstants.{NOT_FOUND}
use Rattle.etcd_types.specs.Keys.{same}
use Rattle.proxy_model.specs.declared.ownership.Claim.{Claim}
use Rattle.proxy_model.specs.declared.ownership.Claim.TheVariants.{Acquired, OwnedBy}
use Rattle.proxy_model.specs.declared.lease.Entry.{Entry}
use Rattle.proxy_model.specs.Acquire.{claimed}
use Rattle.proxy_model.specs.Keyed.{Keyed, at}
use Rattle.proxy_model.proofs.KeyedLaws.{at-with_at}
use Rattle.wait_model.specs.declared.sending.Sending.TheVariants as sending
use Rattle.wait_model.specs.declared.wait.Settled.{Settled}
use Rattle.wait_model.specs.declared.wait.Settled.TheVariants as settled
use Rattle.wait_model.specs.declared.write.Write.{Write}
use Rattle.wait_model.specs.Endings.{answered, lost, without_out}
use Rattle.wait_model.specs.GuardedAnswers.{Ending}
use Rattle.wait_model.specs.Phases.{is_session}
use Rattle.read_model.specs.declared.acquire.Acquire.{Acquire}
use Rattle.read_model.specs.declared.asked.Asked.{Asked}
use Rattle.read_model.specs.declared.asked.Stage.{Stage}
use Rattle.read_model.specs.declared.asked.Stage.TheVariants as stage
use Rattle.read_model.specs.declared.asked.Verdict.{Verdict}
use Rattle.read_model.specs.declared.asked.Verdict.TheVariants as verdict
use Rattle.read_model.specs.Acquires.{AfterAcquire, is_acquiring, acquires_at, told, told_lost, lost_once, acquire_gone, acquired, owned_by, acquire_done, done_by, acquire_refused, answered_acquire, is_to_be_held, acquire_lost, acquire_answered}
use Rattle.read_model.specs.PlainRead.{ask_key, shown, called, in_stage, decided_ask, decided_ground}
use Rattle.read_model.specs.Release.{names, stands, ask_stands, released_ground, released_from}
use Rattle.read_model.specs.SessionEnd.{session_over}
use Rattle.read_model.specs.State.{Reads, Moment, Ground, ground_of, on}
use Rattle.read_model.specs.TakingOff.{is_writes}
use Rattle.read_model.specs.WriteAnswers.{settled_ask, ending, answered_by, wait_answered}
use Rattle.core_laws.proofs.PlainReads.Grounds.{Grows, grown_stands, decided_grows, grows_itself}
use Rattle.core_model.specs.declared.out_call.CallKind.{CallKind}
use Rattle.core_model.specs.declared.out_call.OutCall.{OutCall}
use Rattle.core_model.specs.declared.out_call.OutJob.{OutJob}
use Rattle.core_model.specs.declared.out_call.OutJob.TheVariants as job
use Rattle.core_model.specs.Ends.{with_caller, member_failed, stale_once, stales_limit, said, is_stale_reply, ask_done, ask_answered, lost_ask, lost_job, acquire_if, reads_if, answered_job, or_lost, heard_call, answered_call, call_gone, answer_of, on_answer}
use Rattle.core_model.specs.Ends.{is_keepalive as answers_keepalive}
use Rattle.core_model.specs.Fits.{AsksOk, WritesOk, has_number, writing_tickets, write_tickets}
use Rattle.core_model.specs.Groups.{keeps, is_out_stage, waits_next, group_ended}
use Rattle.core_model.specs.Heard.{heard, header_taken}
use Rattle.core_model.specs.Kinds.{is_read, is_body_of}
use Rattle.core_model.specs.Lookups.{moment, reads_of, stage_calls, calls_as, out_at}
use Rattle.core_model.specs.Sessions.{without_session, seat_calls, granted_by, grant_failed, keep_failed, kept, kept_by}
use Rattle.core_model.specs.State.{Core}
use Rattle.core_laws.proofs.Steps.Comes.{by_test}
use Rattle.core_laws.proofs.Steps.WaitEnds.{IsRemoved, EndsAs, EndedIf, answered_ends, lost_ends, found_ticket}
use Rattle.core_fits.specs.Fits.{is_reading}
use Rattle.keep_laws.proofs.Rows.{All, all_mapped, all_kept, Settles, all_write}
use Rattle.reply_laws.proofs.Before.{is_quiet}

-- what is known of a request by its stage
pub record Class (J : Asked → Type 0) : Type 0 where
  -- it is due as a call of its own, or ended without an ok reply
  pub quiet : (y : Asked) → is_quiet y.stage ≡ true → J y
  -- as a read it waits for nothing but its acquire
  pub waits : (y : Asked) → J y → is_reading y.stage ≡ true → y.stage ≡ stage.Acquiring
  -- its own call, its write, or the call that it shares is answered
  pub said : (x : Asked) (call : ℕ) (a : Answer) → J x → stage_calls call x.stage ≡ true → J (in_stage (stage.Replied (verdict.Said a)) x)
  pub wrote : (x : Asked) (a : Answer) → J x → is_writes x.stage ≡ true → J (in_stage (stage.Replied (verdict.Said a)) x)
  pub shared : (x : Asked) (call : ℕ) (v : Verdict) → J x → is_out_stage call x.stage ≡ true → J (in_stage (stage.Replied v) x)
  pub next : (x : Asked) (step : ℕ) → J x → waits_next x.stage ≡ true → J (in_stage (stage.Grouped (Some (sending.Due step))) x)

unmet : (ticket : ℕ) (e : Option Entry) (x : Option Acquire) (s : Stage) → stands ticket e x s ≡ false → is_reading s ≡ true
unmet ticket e x stage.Acquiring h = refl
unmet ticket e x stage.Joined h = refl
unmet ticket e x stage.Behind h = refl
unmet ticket e x (stage.Calling s) h = absurd (cc)
unmet ticket e x stage.Writes h = absurd (cc)
unmet ticket e x (stage.Grouped s) h = absurd (cc)
unmet ticket e x (stage.Replied v) h = absurd (cc)

pub not_both : {A : Type 0} (b : Bool) → b ≡ true → b ≡ false → A
not_both b t f = absurd (let e : true ≡ false = sym t ∙ f in cc)

-- with its stage known, it stands where its acquire does
stands_by : (g : Ground) (y : Asked) → (is_reading y.stage ≡ true → y.stage ≡ stage.Acquiring) → (y.stage ≡ stage.Acquiring → names y.ticket (at g.acquires (ask_key y)) ≡ true) → ask_stands g y ≡ true
stands_by g y w n = by (ask_stands g y) refl
  where
    by : (b : Bool) → ask_stands g y ≡ b → b ≡ true
    by true e = refl
    by false e =
        let acquiring = w (unmet y.ticket (at g.own.entries (ask_key y)) (at g.acquires (ask_key y)) y.stage e) in
        not_both (ask_stands g y) (ap (stands y.ticket (at g.own.entries (ask_key y)) (at g.acquires (ask_key y))) acquiring ∙ n acquiring) e

-- an acquire that stands, read off a request that waits for it
named_by : (g : Ground) (y : Asked) → ask_stands g y ≡ true → y.stage ≡ stage.Acquiring → names y.ticket (at g.acquires (ask_key y)) ≡ true
named_by g y s a = sym (ap (stands y.ticket (at g.own.entries (ask_key y)) (at g.acquires (ask_key y))) a) ∙ s

of_all : (p : Asked → Bool) (xs : List Asked) → list_all p xs ≡ true → All (λ x. p x ≡ true) xs
of_all p [] h = tt
of_all p (x ∷ xs) h = (and_first (p x) (list_all p xs) h, of_all p xs (and_second (p x) (list_all p xs) h))

module _ (t : ℕ) (J : Asked → Type 0) (l : Class J) where
  -- of the request of this ticket
  abbrev pub Of : Asked → Type 0
  Of y = y.ticket ≡ t → J y

  abbrev StandsIn : Ground → Asked → Type 0
  StandsIn g y = y.ticket ≡ t → ask_stands g y ≡ true

  abbrev pub CoreSo : Core → Type 0
  CoreSo c = All Of c.asks

  abbrev ReadsSo : Reads → Type 0
  ReadsSo r = All Of r.asks

  quiet_of : (y : Asked) → is_quiet y.stage ≡ true → Of y
  quiet_of y q e = l.quiet y q

  -- releases

  pub released_false : (m : Moment) (g : Ground) (xs : List Asked) → All Of xs → All Of (released_from false m g xs).asks
  unfolding released_from
  released_false m g [] h = tt
  released_false m g (x ∷ xs) h = (by_test Of (ask_stands g x) x (in_stage (called g.own.waits.step) x) (λ e. h.0) (λ e. quiet_of (in_stage (called g.own.waits.step) x) refl), released_false m (released_ground false m g x) xs h.1)

  ground_grows : (again : Bool) (m : Moment) (g : Ground) (x : Asked) → Grows g (released_ground again m g x)
  ground_grows again m g x = by_test (Grows g) (ask_stands g x || not again) g (decided_ground m g x) (λ e. grows_itself g) (λ e. decided_grows m g x)

  stand_on : (g h : Ground) → Grows g h → (xs : List Asked) → All (StandsIn g) xs → All (StandsIn h) xs
  stand_on g h w xs s = all_kept (StandsIn g) (StandsIn h) (λ x k e. grown_stands g h w x (k e)) xs s

  released_so : (again : Bool) (m : Moment) (g : Ground) (xs : List Asked) → All (StandsIn g) xs → All Of xs → All Of (released_from again m g xs).asks
  unfolding released_from
  released_so again m g [] s h = tt
  released_so again m g (x ∷ xs) s h = (
    by_test Of (ask_stands g x) x (cond again (decided_ask m g x) (in_stage (called g.own.waits.step) x)) (λ e. h.0)
        (λ e. by_test Of again (decided_ask m g x) (in_stage (called g.own.waits.step) x) (λ f n. not_both (ask_stands g x) (s.0 n) e) (λ f. quiet_of (in_stage (called g.own.waits.step) x) refl)),
    released_so again m (released_ground again m g x) xs (stand_on g (released_ground again m g x) (ground_grows again m g x) xs s.1) h.1,
  )

  over_so : (m : Moment) (r : Reads) → ReadsSo r → ReadsSo (session_over m r)
  over_so m r h = released_false m _ r.asks h

  -- an acquire

  told_of : (k : List ℕ) (s : Stage) → ((x : Asked) → J x → acquires_at k x ≡ true → J (in_stage s x)) → (x : Asked) → Of x → Of (told k s x)
  told_of k s f x h = by_test Of (acquires_at k x) (in_stage s x) x (λ e n. f x (h n) e) (λ e. h)

  -- a request that isn't told waits for another acquire
  away : (k : List ℕ) (x : Asked) → x.stage ≡ stage.Acquiring → acquires_at k x ≡ false → same k (ask_key x) ≡ false
  away k x a n = by (same k (ask_key x)) refl
    where
      by : (b : Bool) → same k (ask_key x) ≡ b → b ≡ false
      by false e = refl
      by true e =
          let there : same (ask_key x) k ≡ true = ap (λ (i : List ℕ). same i k) (sym (same-equal k (ask_key x) e)) ∙ same-itself k in
          not_both (acquires_at k x) ((λ i. is_acquiring (a i) && there i)) n

  told_stands : (k : List ℕ) (h : Header) (kv : Option Kv) (e : Option Entry) (g : Ground) (x : Asked) → Of x → ask_stands g x ≡ true → StandsIn (Rattle.read_model.specs.Acquires.with_entry k e (acquire_gone k g)) (told k (shown h kv) x)
  told_stands k h kv e g x o s = by (acquires_at k x) refl
    where
      g' : Ground
      g' = Rattle.read_model.specs.Acquires.with_entry k e (acquire_gone k g)

      by : (b : Bool) → acquires_at k x ≡ b → StandsIn (Rattle.read_model.specs.Acquires.with_entry k e (acquire_gone k g)) (cond b (in_stage (shown h kv) x) x)
      by true f n = refl
      by false f n =
          stands_by g' x (l.waits x (o n))
          (λ a. ap (names x.ticket) (at-with_at g.acquires k (ask_key x) None ∙ ap (λ b. cond b None (at g.acquires (ask_key x))) (away k x a f)) ∙ named_by g x s a)

  both_stand : (k : List ℕ) (h : Header) (kv : Option Kv) (e : Option Entry) (g : Ground) (xs : List Asked) → All Of xs → All (λ x. ask_stands g x ≡ true) xs
      → All (StandsIn (Rattle.read_model.specs.Acquires.with_entry k e (acquire_gone k g))) (map (told k (shown h kv)) xs)
  both_stand k h kv e g [] o s = tt
  both_stand k h kv e g (x ∷ xs) o s = (told_stands k h kv e g x o.0 s.0, both_stand k h kv e g xs o.1 s.1)

  abbrev TellsIt : List ℕ → Stage → Type 0
  TellsIt k s = (x : Asked) → J x → acquires_at k x ≡ true → J (in_stage s x)

  claim_so : (m : Moment) (k : List ℕ) (held : Bool) (h : Header) (c : Claim) (r : Reads) → TellsIt k (shown h (Rattle.reply_laws.specs.Sources.claimed_record c)) → All (λ x. ask_stands (ground_of r) x ≡ true) r.asks → ReadsSo r → ReadsSo (acquire_done m k held h c r)
  claim_so m k held h (Acquired create kv) r f s o =
      released_so held m _ (map (told k (shown h kv)) r.asks) (both_stand k h kv (Some (Rattle.read_model.specs.Acquires.won held create kv)) (ground_of r) r.asks o s) (all_mapped Of Of (told k (shown h kv)) (told_of k (shown h kv) f) r.asks o)
  claim_so m k held h (OwnedBy kv owner) r f s o = released_false m _ (map (told k (shown h kv)) r.asks) (all_mapped Of Of (told k (shown h kv)) (told_of k (shown h kv) f) r.asks o)

  abbrev AfterSo : Option AfterAcquire → Type 0
  AfterSo None = Unit {0}
  AfterSo (Some x) = ReadsSo x.reads

  refused_so : (m : Moment) (k : List ℕ) (ends : Bool) (r : Reads) → ReadsSo r → ReadsSo (acquire_refused m k ends r).reads
  refused_so m k true r o = over_so m (on (acquire_gone k (ground_of r)) r.asks) o
  refused_so m k false r o = released_false m (acquire_gone k (ground_of r)) r.asks o

  lost_of : (members step : ℕ) (k : List ℕ) (x : Asked) → Of x → Of (told_lost members step k x)
  lost_of members step k x o = by_test Of (acquires_at k x) (lost_once members step x) x (λ e. quiet_of (lost_once members step x) (once_quiet members step x)) (λ e. o)
    where
      once_quiet : (members step : ℕ) (x : Asked) → is_quiet (lost_once members step x).stage ≡ true
      once_quiet members step x = by_test (λ (s : Stage). is_quiet s ≡ true) (Rattle.std.specs.Prelude.nat_le members (Rattle.proxy_model.specs.Limits.capped (x.losses + 1))) (stage.Replied verdict.Lost) (called step) (λ e. refl) (λ e. refl)

  -- writes

  settled_of : (s : Settled) (x : Asked) → Settles s x → Of x → Of (settled_ask s x)
  settled_of settled.Nothing x w o = o
  settled_of (settled.Reply ticket a) x w o = by_test Of (x.ticket == ticket) (in_stage (stage.Replied (verdict.Said a)) x) x (λ e n. l.wrote x a (o n) (w e)) (λ e. o)
  settled_of (settled.Failed ticket) x w o = by_test Of (x.ticket == ticket) (in_stage (stage.Replied verdict.Lost) x) x (λ e. quiet_of (in_stage (stage.Replied verdict.Lost) x) refl) (λ e. o)

  all_settled : (s : Settled) (xs : List Asked) → All (Settles s) xs → All Of xs → All Of (map (settled_ask s) xs)
  all_settled s [] w o = tt
  all_settled s (x ∷ xs) w o = (settled_of s x w.0 o.0, all_settled s xs w.1 o.1)

  settled_stands : (s : Settled) (g h : Ground) (x : Asked) → h.acquires ≡ g.acquires → Of x → ask_stands g x ≡ true → StandsIn h (settled_ask s x)
  settled_stands s g h x same o k = by s
    where
      stays : StandsIn h x
      stays n = stands_by h x (l.waits x (o n)) (λ a. ap (λ (ks : Keyed Acquire). names x.ticket (at ks (ask_key x))) same ∙ named_by g x k a)

      by : (s : Settled) → StandsIn h (settled_ask s x)
      by settled.Nothing = stays
      by (settled.Reply ticket a) = by_test (StandsIn h) (x.ticket == ticket) (in_stage (stage.Replied (verdict.Said a)) x) x (λ e n. refl) (λ e. stays)
      by (settled.Failed ticket) = by_test (StandsIn h) (x.ticket == ticket) (in_stage (stage.Replied verdict.Lost) x) x (λ e n. refl) (λ e. stays)

  all_stand : (s : Settled) (g h : Ground) (xs : List Asked) → h.acquires ≡ g.acquires → All Of xs → All (λ x. ask_stands g x ≡ true) xs → All (StandsIn h) (map (settled_ask s) xs)
  all_stand s g h [] same o k = tt
  all_stand s g h (x ∷ xs) same o k = (settled_stands s g h x same o.0 k.0, all_stand s g h xs same o.1 k.1)

  abbrev ReadsIf : Option Reads → Type 0
  ReadsIf None = Unit {0}
  ReadsIf (Some r) = ReadsSo r

  removed_named : (ticket : ℕ) (xs : List Asked) (ws vs : List Write) → AsksOk xs ws → IsRemoved ticket ws vs → has_number (writing_tickets xs) ticket ≡ true
  removed_named ticket xs ws vs h e = sym (ap (λ (ns : List ℕ). has_number ns ticket) h.writes) ∙ ap (has_number (write_tickets ws)) e.named ∙ found_ticket e.test e.write ws e.first

  settles_so : (xs : List Asked) (ws vs : List Write) (s : Settled) → AsksOk xs ws → EndsAs ws s vs → All (Settles s) xs
  settles_so xs ws vs settled.Nothing h e = every xs
    where
      every : (ys : List Asked) → All (Settles settled.Nothing) ys
      every [] = tt
      every (y ∷ ys) = (tt, every ys)
  settles_so xs ws vs (settled.Reply ticket a) h e = all_write ticket xs h.once (removed_named ticket xs ws vs h e)
  settles_so xs ws vs (settled.Failed ticket) h e = all_write ticket xs h.once (removed_named ticket xs ws vs h e)

  ending_so : (m : Moment) (call : ℕ) (r : Reads) (q : Option Ending) → EndedIf call (without_out call r.own) q → AsksOk r.asks r.own.waits.writes → All (λ x. ask_stands (ground_of r) x ≡ true) r.asks → ReadsSo r → ReadsIf (answered_by m q r)
  ending_so m call r None e k s o = tt
  ending_so m call r (Some x) e k s o =
      let settles = settles_so r.asks r.own.waits.writes x.own.waits.writes x.settled k e.how in
      released_so true m (ground_of (ending x r)) (map (settled_ask x.settled) r.asks) (all_stand x.settled (ground_of r) (ground_of (ending x r)) r.asks refl o s) (all_settled x.settled r.asks settles o)

  -- all that a call can be for

  abbrev IfSo : Option Core → Type 0
  IfSo None = Unit {0}
  IfSo (Some c) = CoreSo c

  either : (b : Bool) (x y : Core) → CoreSo x → CoreSo y → CoreSo (cond b x y)
  either b x y h i = by_test CoreSo b x y (λ e. h) (λ e. i)

  ends_so : (now : ℕ) (c : Core) → CoreSo c → CoreSo (without_session now c)
  ends_so now c h = over_so (moment (record c { seat = None }) now) (reads_of (record c { seat = None })) h

  kept_so : (now : ℕ) (o : OutCall) (b : Body) (c : Core) → CoreSo c → IfSo (kept_by now o b c)
  kept_so now o (body.KeepAlive lease ttl) c h = either (seat_calls o.call c.seat) (kept now o ttl c) c (by_test CoreSo (ttl == 0) (without_session now c) _ (λ e. ends_so now c h) (λ e. h)) h
  kept_so now o (body.Range count more kvs) c h = tt
  kept_so now o (body.Put prev) c h = tt
  kept_so now o (body.Delete deleted prevs) c h = tt
  kept_so now o (body.Txn' succeeded n bodies) c h = tt
  kept_so now o body.Compact c h = tt
  kept_so now o (body.Grant lease ttl) c h = tt
  kept_so now o body.Revoke c h = tt
  kept_so now o (body.TimeToLive lease ttl granted keys) c h = tt
  kept_so now o (body.Leases leases) c h = tt

  granted_so : (o : OutCall) (b : Body) (c : Core) → CoreSo c → IfSo (granted_by o b c)
  granted_so o (body.Grant lease ttl) c h = by_test CoreSo (seat_calls o.call c.seat) _ c (λ e. h) (λ e. h)
  granted_so o (body.Range count more kvs) c h = tt
  granted_so o (body.Put prev) c h = tt
  granted_so o (body.Delete deleted prevs) c h = tt
  granted_so o (body.Txn' succeeded n bodies) c h = tt
  granted_so o body.Compact c h = tt
  granted_so o (body.KeepAlive lease ttl) c h = tt
  granted_so o body.Revoke c h = tt
  granted_so o (body.TimeToLive lease ttl granted keys) c h = tt
  granted_so o (body.Leases leases) c h = tt

  grant_fails_so : (o : OutCall) (c : Core) → CoreSo c → CoreSo (grant_failed o c)
  grant_fails_so o c h = by_test CoreSo (seat_calls o.call c.seat) _ c (λ e. h) (λ e. h)

  keep_fails_so : (o : OutCall) (c : Core) → CoreSo c → CoreSo (keep_failed o c)
  keep_fails_so o c h = by_test CoreSo (seat_calls o.call c.seat) _ c (λ e. h) (λ e. h)

  called_of : (call : ℕ) (a : Answer) (x : Asked) → Of x → Of (cond (calls_as call x) (said a x) x)
  called_of call a x o = by_test Of (calls_as call x) (said a x) x (λ e n. l.said x call a (o n) e) (λ e. o)

  stale_of : (call members step : ℕ) (x : Asked) → Of x → Of (cond (calls_as call x) (stale_once members step x) x)
  stale_of call members step x o =
      by_test Of (calls_as call x) (stale_once members step x) x
      (λ e. quiet_of (stale_once members step x) (by_test (λ (s : Stage). is_quiet s ≡ true) (Rattle.std.specs.Prelude.nat_le (stales_limit members) (Rattle.proxy_model.specs.Limits.capped (x.stales + 1))) (stage.Replied verdict.Stale) (called step) (λ e. refl) (λ e. refl))) (λ e. o)

  ask_so : (k : CallKind) (o : OutCall) (a : Answer) (c : Core) → CoreSo c → IfSo (ask_answered k o a c)
  ask_so k o (Done reply) c h =
      by_test IfSo (is_body_of k reply.body) (Some (ask_done k o reply c)) None
      (λ e. by_test CoreSo (is_stale_reply k o reply) (with_caller o.call (stale_once c.members.count c.own.waits.step) (member_failed o c)) (with_caller o.call (said (Done reply)) c)
      (λ u. all_mapped Of Of _ (stale_of o.call c.members.count c.own.waits.step) c.asks h) (λ u. all_mapped Of Of _ (called_of o.call (Done reply)) c.asks h)) (λ e. tt)
  ask_so k o (Refused r) c h = all_mapped Of Of _ (called_of o.call (Refused r)) c.asks h

  group_of : (step call lease : ℕ) (v : Verdict) (x : Asked) → Of x → Of (group_ended step call lease v x)
  group_of step call lease v x o =
      by_test Of (is_out_stage call x.stage) (in_stage (stage.Replied v) x) _ (λ e n. l.shared x call v (o n) e)
      (λ e. by_test Of (keeps lease x.request && waits_next x.stage) (in_stage (stage.Grouped (Some (sending.Due step))) x) x (λ f n. l.next x step (o n) (and_second (keeps lease x.request) (waits_next x.stage) f)) (λ f. o))

  lost_ask_of : (k : CallKind) (o : OutCall) (c : Core) (x : Asked) → Of x → Of (cond (calls_as o.call x) (lost_ask k o c x) x)
  lost_ask_of k o c x h =
      by_test Of (calls_as o.call x) (lost_ask k o c x) x
      (λ e. quiet_of (lost_ask k o c x) (by_test (λ (y : Asked). is_quiet y.stage ≡ true) (is_read k) (lost_once c.members.count c.own.waits.step x) (in_stage (stage.Replied verdict.Lost) x)
      (λ f. by_test (λ (s : Stage). is_quiet s ≡ true) (Rattle.std.specs.Prelude.nat_le c.members.count (Rattle.proxy_model.specs.Limits.capped (x.losses + 1))) (stage.Replied verdict.Lost) (called c.own.waits.step) (λ e. refl) (λ e. refl)) (λ f. refl)))
      (λ e. h)

  pub lost_job_so : (now : ℕ) (o : OutCall) (j : OutJob) (c : Core) → AsksOk c.asks c.own.waits.writes → WritesOk c.own.waits.writes c.own.waits.out → CoreSo c → CoreSo (lost_job now o j c)
  lost_job_so now o (job.Grant lease) c k w h = grant_fails_so o c h
  lost_job_so now o (job.Keep lease) c k w h = keep_fails_so o c h
  lost_job_so now o (job.Acquire i) c k w h = released_false (moment c now) (acquire_gone i (ground_of (reads_of c))) (map (told_lost c.members.count c.own.waits.step i) c.asks) (all_mapped Of Of _ (lost_of c.members.count c.own.waits.step i) c.asks h)
  lost_job_so now o job.Wait c k w h =
      let x = lost o.call c.own in
      let e = lost_ends o.call c.own w in
      released_false (moment c now) (ground_of (ending x (reads_of c))) (map (settled_ask x.settled) c.asks) (all_settled x.settled c.asks (settles_so c.asks c.own.waits.writes x.own.waits.writes x.settled k e.how) h)
  lost_job_so now o (job.Ask i) c k w h = all_mapped Of Of _ (lost_ask_of i o c) c.asks h
  lost_job_so now o (job.Group lease) c k w h = all_mapped Of Of _ (group_of c.own.waits.step o.call lease verdict.Lost) c.asks h

  -- what the acquire's own read is told
  abbrev pub TellsOf : Core → OutJob → Answer → Type 0
  TellsOf c j a = (k : List ℕ) (reply : Reply) (claim : Claim) → j ≡ job.Acquire k → a ≡ Done reply → claimed c.own.waits.prefix k reply ≡ Some claim → TellsIt k (shown reply.header (Rattle.reply_laws.specs.Sources.claimed_record claim))

  done_so : (m : Moment) (k : List ℕ) (held : Bool) (reply : Reply) (q : Option Claim) (r : Reads) → ((claim : Claim) → q ≡ Some claim → TellsIt k (shown reply.header (Rattle.reply_laws.specs.Sources.claimed_record claim))) → All (λ x. ask_stands (ground_of r) x ≡ true) r.asks
      → ReadsSo r → AfterSo (done_by m k held reply.header q r)
  done_so m k held reply None r f s o = tt
  done_so m k held reply (Some claim) r f s o = claim_so m k held reply.header claim r (f claim refl) s o

  acquire_so : (m : Moment) (k : List ℕ) (q : Option Acquire) (a : Answer) (r : Reads) → ((reply : Reply) (claim : Claim) → a ≡ Done reply → claimed r.own.waits.prefix k reply ≡ Some claim → TellsIt k (shown reply.header (Rattle.reply_laws.specs.Sources.claimed_record claim)))
      → All (λ x. ask_stands (ground_of r) x ≡ true) r.asks → ReadsSo r → AfterSo (answered_acquire m k q a r)
  acquire_so m k None a r f s o = o
  acquire_so m k (Some c) (Done reply) r f s o = done_so m k (is_to_be_held m k c r) reply (claimed r.own.waits.prefix k reply) r (λ claim e. f reply claim refl e) s o
  acquire_so m k (Some c) (Refused x) r f s o = refused_so m k (is_session m.session c.session && (x.code == NOT_FOUND)) r o

  job_so : (now : ℕ) (o : OutCall) (j : OutJob) (a : Answer) (c : Core) → TellsOf c j a → All (λ x. ask_stands (ground_of (reads_of c)) x ≡ true) c.asks → AsksOk c.asks c.own.waits.writes → WritesOk c.own.waits.writes c.own.waits.out → CoreSo c
      → IfSo (answered_job now o j a c)
  job_so now o (job.Grant lease) (Done reply) c f s k w h = granted_so o reply.body c h
  job_so now o (job.Grant lease) (Refused r) c f s k w h = grant_fails_so o c h
  job_so now o (job.Keep lease) (Done reply) c f s k w h = kept_so now o reply.body c h
  job_so now o (job.Keep lease) (Refused r) c f s k w h = keep_fails_so o c h
  job_so now o (job.Acquire i) a c f s k w h = by (acquire_answered (moment c now) i a (reads_of c)) (acquire_so (moment c now) i (at c.acquires i) a (reads_of c) (λ reply claim e g. f i reply claim refl e g) s h)
    where
      by : (q : Option AfterAcquire) → AfterSo q → IfSo (acquire_if c q)
      by None h = tt
      by (Some x) h = h
  job_so now o job.Wait a c f s k w h =
      by (wait_answered (moment c now) o.call a (reads_of c)) (ending_so (moment c now) o.call (reads_of c) (answered o.call a (moment c now).session now c.own) (answered_ends o.call a (moment c now).session now c.own w) k s h)
    where
      by : (q : Option Reads) → ReadsIf q → IfSo (reads_if c q)
      by None h = tt
      by (Some r) h = h
  job_so now o (job.Ask i) a c f s k w h = ask_so i o a c h
  job_so now o (job.Group lease) a c f s k w h =
      by_test IfSo (answers_keepalive a) (Some (record c { asks = map (group_ended c.own.waits.step o.call lease (verdict.Said a)) c.asks })) None (λ e. all_mapped Of Of _ (group_of c.own.waits.step o.call lease (verdict.Said a)) c.asks h) (λ e. tt)

  heard_so : (now : ℕ) (o : OutCall) (q : Option Answer) (c : Core) → ((a : Answer) → q ≡ Some a → TellsOf c o.job a) → All (λ x. ask_stands (ground_of (reads_of c)) x ≡ true) c.asks → AsksOk c.asks c.own.waits.writes → WritesOk c.own.waits.writes c.own.waits.out
      → CoreSo c → CoreSo (heard_call now o q c)
  heard_so now o None c f s k w h = lost_job_so now o o.job (member_failed o c) k w h
  heard_so now o (Some a) c f s k w h = by (answered_job now o o.job a c) (job_so now o o.job a c (f a refl) s k w h)
    where
      by : (q : Option Core) → IfSo q → CoreSo (or_lost now o c q)
      by None x = lost_job_so now o o.job (member_failed o c) k w h
      by (Some d) x = x

  -- an answer comes; what it tells is said of the proxy as the clock's work left it
  pub answered_so : (now call : ℕ) (a : Answer) (c : Core) → ((o : OutCall) (x : Answer) → out_at call c.out ≡ Some o → heard c.settings.namespace a ≡ Some x → TellsOf c o.job x)
      → list_all (ask_stands (ground_of (reads_of c))) c.asks ≡ true → AsksOk c.asks c.own.waits.writes → WritesOk c.own.waits.writes c.own.waits.out → CoreSo c → CoreSo (on_answer now call a c).core
  unfolding on_answer
  answered_so now call a c f s k w h = by (out_at call c.out) refl
    where
      each : All (λ x. ask_stands (ground_of (reads_of c)) x ≡ true) c.asks
      each = of_all (ask_stands (ground_of (reads_of c))) c.asks s

      by_answer : (o : OutCall) → out_at call c.out ≡ Some o → (b : Answer) → a ≡ b → CoreSo (answered_call now o b (call_gone call c))
      by_answer o e (Done reply) same = heard_so now o (heard c.settings.namespace (Done reply)) (header_taken reply.header (call_gone call c)) (λ x g. f o x e (ap (heard c.settings.namespace) same ∙ g)) each k w h
      by_answer o e (Refused r) same = heard_so now o (heard c.settings.namespace (Refused r)) (call_gone call c) (λ x g. f o x e (ap (heard c.settings.namespace) same ∙ g)) each k w h

      by : (q : Option OutCall) → out_at call c.out ≡ q → CoreSo (answer_of now call a q c).core
      by None e = h
      by (Some o) e = by_answer o e a refl
