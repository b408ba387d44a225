-- What is sent as a call, by what is due first: no key of it is empty, a session's number is asked for by a grant of the session's own,
-- and the leasing stream is left.
use Rattle.std.proofs.Common.{◌≡◌, ℕ, ◌+◌, ◌-◌, ◌%◌, ◌<◌, ◌==◌, nat_le, Bool, true, false, not, cond, ◌&&◌, List, [], ◌∷◌, Option, None, Some, refl, sym, ◌∙◌, ap, subst, arith}
use Rattle.std.proofs.Math.Nat.{mod-lt}
use Rattle.std.proofs.lemmas.Bool.Decides.{nat_tests}
use Rattle.etcd_types.specs.Keys.{is_empty}
use Rattle.etcd_types.specs.Ranges.{contains}
use Rattle.etcd_types.specs.declared.request.Request.{Request}
use Rattle.etcd_types.specs.declared.request.Request.TheVariants as request
use Rattle.etcd_types.proofs.Bools.{and_first, and_both, false_not, not_true}
use Rattle.proxy_model.specs.declared.lease.Entry.{Entry}
use Rattle.proxy_model.specs.declared.session.Standing.{Standing}
use Rattle.proxy_model.specs.declared.session.TheConstants.{FIRST_SESSION}
use Rattle.proxy_model.specs.Acquire.{acquire}
use Rattle.proxy_model.specs.Foreign.{ask_revoke}
use Rattle.proxy_model.specs.Guarded.{guarded}
use Rattle.proxy_model.specs.Leaving.{rescind}
use Rattle.proxy_model.specs.PassingOn.{chosen_lease, numbered}
use Rattle.proxy_model.specs.RequestRefusals.{first_of, given, is_session, reserved_lease}
use Rattle.proxy_model.specs.Prefixes.{leasing_range}
use Rattle.proxy_model.specs.Session.{Session}
use Rattle.proxy_model.specs.Wrapped.{request_under}
use Rattle.wait_model.specs.declared.due.DueCall.{DueCall}
use Rattle.wait_model.specs.declared.write.Write.{Write}
use Rattle.wait_model.specs.DueOrder.{first_call, first_rescind}
use Rattle.wait_model.specs.Sent.{is_revoke, revoke_job, write_job, call_of, call_sent, job_sent_after, job_sent, compared}
use Rattle.wait_model.specs.Writes.{first_by, has_ticket}
use Rattle.watch_model.specs.declared.stream.StreamJob.{StreamJob}
use Rattle.watch_model.specs.declared.stream.StreamJob.TheVariants as stream
use Rattle.watch_model.specs.Due.{next_job}
use Rattle.watch_model.specs.State.{Broadcasts}
use Rattle.read_model.specs.declared.acquire.Acquire.{Acquire}
use Rattle.read_model.specs.declared.asked.Asked.{Asked}
use Rattle.read_model.specs.PlainRead.{is_ownable}
use Rattle.core_model.specs.DueJobs.{DueJob, ForSession, ForWrites, ForAcquire, ForAsk, ForGroup, ToOpen, ForStream, first_job}
use Rattle.core_model.specs.Refusals.{reserved_range, refusal_of}
use Rattle.core_model.specs.Sending.{next_call, writes_sent, sent_by, on_work}
use Rattle.core_model.specs.Sessions.{session_request}
use Rattle.core_model.specs.State.{Seat, Core}
use Rattle.core_model.specs.Stepped.{Stepped}
use Rattle.core_model.specs.Watching.{streams_sent}
use Rattle.store_model.specs.Refusals.{too_many_operations}
use Rattle.core_laws.proofs.Steps.Due.{DueIf, DueOk, first_due}
use Rattle.namespace_laws.specs.Stored.Laws.{request_lacks}
use Rattle.namespace_laws.specs.Images.Named.{has_keys, is_leasing}
use Rattle.namespace_laws.proofs.Images.Bare.{acquire_bare, rescind_bare, revoke_bare, guarded_bare, served_keys, numbered_bare}
use Rattle.core_fits.proofs.Found.{each_write}
use Rattle.owner_fits.proofs.Runs.{due_acquires_stand}
use Rattle.step_moves.specs.Work.{call_in, MaySend}
use Rattle.step_moves.proofs.Acquires.{owned_client}
use Rattle.step_moves.proofs.Asks.{due_ask_fits}

-- a session that is asked for: it isn't granted yet
pub record IsAsked (c : Core) (number : ℕ) : Type 0 where
  pub seat : Seat
  pub stands : c.seat ≡ Some seat
  pub number_is : seat.session.number ≡ number
  pub ungranted : seat.session.standing ≡ None

-- a call that goes out with this request
pub record IsSent (c d : Core) (q : Request) : Type 0 where
  pub bare : Request
  pub under : q ≡ request_under c.settings.namespace bare
  pub keys : request_lacks bare ≡ false
  pub grants : (ttl number : ℕ) → q ≡ request.Grant ttl number → is_session number ≡ true → IsAsked c number
  pub leasing : d.leasing ≡ c.leasing

abbrev pub SendsIf : Core → Core → Option Request → Type 0
SendsIf c d None = Unit {0}
SendsIf c d (Some q) = IsSent c d q

abbrev pub Sends : Core → Stepped → Type 0
Sends c x = SendsIf c x.core (call_in x.outcome)

lacks_none : (q : Request) → has_keys q ≡ true → request_lacks q ≡ false
lacks_none q h = not_true (request_lacks q) h

-- a client's grant that is served names no session

grant_served : (p : List ℕ) (ttl lease : ℕ) → refusal_of p (request.Grant ttl lease) ≡ None → is_session lease ≡ false
grant_served p ttl lease e = by (is_empty p) (is_session lease) e
  where
    by : (b s : Bool) → first_of (None ∷ None ∷ given (not b && false) reserved_range ∷ given s reserved_lease ∷ given (not b && false) too_many_operations ∷ []) ≡ None → s ≡ false
    by b false e = refl
    by true true e = absurd (cc)
    by false true e = absurd (cc)

-- a number that was chosen for a client's lease is no session's
chosen_below : (word : ℕ) → is_session (chosen_lease word) ≡ false
chosen_below word = above (word % (FIRST_SESSION - 1)) (mod-lt word (omega arith))
  where
    above : (n : ℕ) → n < FIRST_SESSION - 1 → nat_le FIRST_SESSION (1 + n) ≡ false
    above n l = grind (arith, nat_tests)

client_lease : (lease word : ℕ) → is_session lease ≡ false → is_session (cond (lease == 0) (chosen_lease word) lease) ≡ false
client_lease lease word h = by (lease == 0)
  where
    by : (b : Bool) → is_session (cond b (chosen_lease word) lease) ≡ false
    by true = chosen_below word
    by false = h

grant_number : (ttl number ttl' number' : ℕ) → request.Grant ttl number ≡ request.Grant ttl' number' → number ≡ number'
grant_number ttl number ttl' number' e = cc

module _ (now : ℕ) (c : Core) (m : MaySend c) where
  leasing_on : is_leasing c.own.waits.prefix ≡ true
  leasing_on = false_not (is_empty c.own.waits.prefix) m.leases

  session_goes : (x : Session) → DueOk c (ForSession x) → Sends c (sent_by now (Some (ForSession x)) c)
  session_goes x due = by x.standing refl
    where
      by : (t : Option Standing) → x.standing ≡ t → IsSent c (sent_by now (Some (ForSession x)) c).core (request_under c.settings.namespace (session_request c.settings.ttl x t))
      by None i = record {
        bare = request.Grant c.settings.ttl x.number;
        under = refl;
        keys = refl;
        grants = λ ttl number e s. record {
          seat = due.0;
          stands = due.1;
          number_is = ap (λ (y : Session). y.number) due.2 ∙ grant_number c.settings.ttl x.number ttl number e;
          ungranted = ap (λ (y : Session). y.standing) due.2 ∙ i;
        };
        leasing = refl;
      }
      by (Some y) i = record { bare = request.KeepAlive x.number; under = refl; keys = refl; grants = λ ttl number e s. absurd (cc); leasing = refl }

  writes_go : Sends c (writes_sent now (job_sent (next_call c) c.own) c)
  unfolding job_sent
  writes_go = by_rescind (first_rescind c.own.entries)
    where
      by_kind : (d : DueCall) (w : Write) → request_lacks w.request ≡ false → (b : Bool) → Sends c (writes_sent now (Some (cond b (revoke_job (next_call c) d w c.own) (write_job (next_call c) d w c.own))) c)
      by_kind d w k true = record { bare = request.Txn (ask_revoke c.own.waits.prefix d.key d.create); under = refl; keys = revoke_bare c.own.waits.prefix d.key d.create leasing_on; grants = λ ttl number e s. absurd (cc); leasing = refl }
      by_kind d w k false = record { bare = request.Txn (guarded c.own.waits.prefix w.request (compared w c.own.entries)); under = refl; keys = guarded_bare c.own.waits.prefix w.request (compared w c.own.entries) leasing_on k; grants = λ ttl number e s. absurd (cc); leasing = refl }

      by_write : (d : DueCall) (o : Option Write) → first_by (has_ticket d.place.number) c.own.waits.writes ≡ o → Sends c (writes_sent now (call_of (next_call c) d o c.own) c)
      by_write d None f = tt
      by_write d (Some w) f =
          by_kind d w
          (lacks_none w.request (served_keys c.own.waits.prefix w.request (each_write (λ v. refusal_of c.own.waits.prefix v.request ≡ None) (has_ticket d.place.number) c.own.waits.writes w m.fits.served.writes f)))
          (is_revoke d.place.kind)

      by_call : (o : Option DueCall) → Sends c (writes_sent now (call_sent (next_call c) o c.own) c)
      by_call None = tt
      by_call (Some d) = by_write d (first_by (has_ticket d.place.number) c.own.waits.writes) refl

      by_rescind : (o : Option (List ℕ × Entry)) → Sends c (writes_sent now (job_sent_after (next_call c) o c.own) c)
      by_rescind None = by_call (first_call c.own.waits.writes)
      by_rescind (Some x) = record { bare = request.Txn (rescind c.own.waits.prefix x.0 x.1.create); under = refl; keys = rescind_bare c.own.waits.prefix x.0 x.1.create leasing_on; grants = λ ttl number e s. absurd (cc); leasing = refl }

  ask_goes : (a : Asked) → refusal_of c.own.waits.prefix a.request ≡ None → Sends c (sent_by now (Some (ForAsk a)) c)
  ask_goes a served =
      record {
        bare = numbered a.word a.request;
        under = refl;
        keys = numbered_bare a.word a.request (lacks_none a.request (served_keys c.own.waits.prefix a.request served));
        grants = λ ttl number e s. by a.request served ttl number e s;
        leasing = refl;
      }
    where
      no_client : {A : Type 0} (n : ℕ) → is_session n ≡ false → is_session n ≡ true → A
      no_client n f t = absurd (let x : true ≡ false = sym t ∙ f in cc)

      by : (q : Request) → refusal_of c.own.waits.prefix q ≡ None → (ttl number : ℕ) → request_under c.settings.namespace (numbered a.word q) ≡ request.Grant ttl number → is_session number ≡ true → IsAsked c number
      by (request.Grant t lease) n ttl number e s =
          let x = cond (lease == 0) (chosen_lease a.word) lease in
          no_client x (client_lease lease a.word (grant_served c.own.waits.prefix t lease n)) (ap is_session (grant_number t x ttl number e) ∙ s)
      by (request.Range ask) n ttl number e s = absurd (cc)
      by (request.Put ask) n ttl number e s = absurd (cc)
      by (request.Delete ask) n ttl number e s = absurd (cc)
      by (request.Txn x) n ttl number e s = absurd (cc)
      by (request.Compact revision physical) n ttl number e s = absurd (cc)
      by (request.Revoke lease) n ttl number e s = absurd (cc)
      by (request.KeepAlive lease) n ttl number e s = absurd (cc)
      by (request.TimeToLive lease keys) n ttl number e s = absurd (cc)
      by request.Leases n ttl number e s = absurd (cc)
      by (request.Watch ask) n ttl number e s = absurd (cc)

  acquire_goes : (k : List ℕ) (a : Acquire) → is_ownable c.own.waits.prefix k ≡ true → Sends c (sent_by now (Some (ForAcquire k a)) c)
  acquire_goes k a owned =
      let p = c.own.waits.prefix in
      record {
        bare = request.Txn (acquire p k a.session);
        under = refl;
        keys = acquire_bare p k a.session (and_both (is_leasing p) (not (is_empty k)) leasing_on (and_first (not (is_empty k)) (not (contains (leasing_range p) k)) (owned_client p k owned)));
        grants = λ ttl number e s. absurd (cc);
        leasing = refl;
      }

  stream_goes : (x : Broadcasts × Option StreamJob) → Sends c (streams_sent c x)
  stream_goes (b, None) = tt
  stream_goes (b, Some (stream.Close n)) = tt
  stream_goes (b, Some (stream.Open n range start)) = tt

  job_goes : (o : Option DueJob) → first_job c ≡ o → Sends c (sent_by now o c)
  job_goes None e = tt
  job_goes (Some (ForSession x)) e = session_goes x (subst (DueIf c) e (first_due c m.ok.agrees))
  job_goes (Some ForWrites) e = writes_go
  job_goes (Some (ForAcquire k a)) e = acquire_goes k a (m.owners.acquires.acquired k a (due_acquires_stand c k a m.owners e).stands)
  job_goes (Some (ForAsk a)) e = ask_goes a (due_ask_fits c a m.fits m.clients e).0
  job_goes (Some (ForGroup lease ticket)) e = record { bare = request.KeepAlive lease; under = refl; keys = refl; grants = λ ttl number e s. absurd (cc); leasing = refl }
  job_goes (Some (ToOpen o)) e = tt
  job_goes (Some (ForStream x)) e = stream_goes (next_job c.watches (Some x))

pub work_sends : (now : ℕ) (c : Core) → MaySend c → Sends c (on_work now c)
unfolding on_work
work_sends now c m = job_goes now c m (first_job c) refl
