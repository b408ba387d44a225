-- A step of a proxy: what is known of its session and its calls lasts, with what its item tells.
use Rattle.std.proofs.Common.{◌≡◌, ℕ, ◌+◌, ◌*◌, ◌==◌, ◌<◌, ◌≤◌, nat_lt, nat_le, Bool, true, false, ◌&&◌, ◌||◌, cond, List, [], ◌∷◌, Option, None, Some, Result, Ok, Err, refl, sym, ◌∙◌, ap, subst, arith}
use Rattle.std.proofs.lemmas.Bool.Decides.{nat_tests}
use Rattle.etcd_types.specs.declared.answer.Answer.{Answer}
use Rattle.etcd_types.specs.declared.answer.Answer.TheVariants.{Done, Refused}
use Rattle.etcd_types.specs.declared.answer.Body.{Body}
use Rattle.etcd_types.specs.declared.answer.Body.TheVariants as body
use Rattle.etcd_types.specs.declared.answer.Refusal.{Refusal}
use Rattle.etcd_types.specs.declared.answer.Reply.{Reply}
use Rattle.etcd_types.specs.declared.code.TheConstants.{INVALID_ARGUMENT, NOT_FOUND, PERMISSION_DENIED, FAILED_PRECONDITION, OUT_OF_RANGE, UNIMPLEMENTED}
use Rattle.etcd_types.specs.declared.request.Request.{Request}
use Rattle.etcd_types.specs.declared.request.Request.TheVariants as request
use Rattle.etcd_types.specs.declared.watch.WatchItem.{WatchItem}
use Rattle.etcd_types.proofs.Bools.{or_first, or_second, or_false}
use Rattle.proxy_model.specs.Keyed.{at}
use Rattle.proxy_model.specs.RequestRefusals.{is_session, names_session}
use Rattle.proxy_model.specs.Unwrapped.{Unwrapped, ◌>>=◌, body_without, reply_without}
use Rattle.wait_model.specs.declared.sending.Sending.{Sending}
use Rattle.read_model.specs.declared.acquire.Acquire.{Acquire}
use Rattle.core_model.specs.declared.event.CoreEvent.{CoreEvent}
use Rattle.core_model.specs.declared.event.CoreEvent.TheVariants as event
use Rattle.core_model.specs.declared.event.Outcome.{Outcome}
use Rattle.core_model.specs.declared.event.StepFault.{StepFault}
use Rattle.core_model.specs.declared.event.StepFault.TheVariants as fault
use Rattle.core_model.specs.declared.out_call.OutCall.{OutCall}
use Rattle.core_model.specs.declared.out_call.OutJob.{OutJob}
use Rattle.core_model.specs.declared.out_call.OutJob.TheVariants as job
use Rattle.core_model.specs.ClockWork.{clock_work}
use Rattle.core_model.specs.DueJobs.{DueJob, ForSession, ForWrites, ForAcquire, ForAsk, ForGroup, ToOpen, ForStream, first_job}
use Rattle.core_model.specs.Ends.{call_gone, loss_of, on_lost, answer_of, on_answer}
use Rattle.core_model.specs.Fits.{CoreOk, job_at}
use Rattle.core_model.specs.Heard.{is_known, heard_reply, heard, answer_taken}
use Rattle.core_model.specs.Lookups.{out_at, without_out}
use Rattle.core_model.specs.Sending.{next_call, sent_by, on_work}
use Rattle.core_model.specs.Sessions.{drawn_session, drawn_seat, call_ticked, seat_ticked, seat_is_over, is_sent_as, seat_calls}
use Rattle.core_model.specs.State.{Seat, Core}
use Rattle.core_model.specs.Step.{is_worn, happened, stepped}
use Rattle.core_model.specs.Stepped.{Stepped, faults, counted, counted_by}
use Rattle.world_model.specs.LiveSessions.{Session, ended_if, granted_until, kept_until, done_with, heard_answer, refused_with, session_at}
use Rattle.core_laws.proofs.Steps.Comes.{by_test}
use Rattle.core_laws.proofs.Steps.Outcomes.{worn_does_nothing}
use Rattle.core_laws.proofs.Steps.Whole.{of_ok}
use Rattle.core_fits.specs.Fits.{EachOf, IsSeatsCall, SeatHasItsJob, SeatIsNumbered, CoreFits}
use Rattle.core_fits.proofs.Eachs.{each_kept}
use Rattle.core_fits.proofs.Found.{each_out, out_number}
use Rattle.owner_fits.specs.Acquires.{IsOutAs}
use Rattle.owner_fits.specs.Laws.{OwnersFit}
use Rattle.owner_fits.proofs.Ending.{CoreFit, clock_fits}
use Rattle.owner_fits.proofs.Runs.{due_acquires_stand}
use Rattle.session_laws.specs.Told.{last_reading}
use Rattle.session_laws.proofs.Acquires.{AcquiresKnown, acquires_more, Stand, happened_acquires}
use Rattle.session_laws.proofs.Answers.{AnswerFits, apart_alike, refused_alike, same_alike, still_alike}
use Rattle.session_laws.proofs.Ended as ended
use Rattle.session_laws.proofs.Ended.{lost_seat, heard_job}
use Rattle.session_laws.proofs.Firsts.{AreApart, apart_behind}
use Rattle.session_laws.proofs.Jobs as jobs
use Rattle.session_laws.proofs.Known.{OfCall, JobKnown, OutKnown, IsBelow, acquire_call, IsAcquireCall, AreAlike, Known, grant_unseated, seats_calls, clock_seat, known_behind, its_job}
use Rattle.session_laws.proofs.Passing.{seat_after, tick_so, item_so, cut_so, take_so, leave_so, asked_so}
use Rattle.session_laws.proofs.Works.{SendsKnown, work_leaves}

-- ---- with more calls, and a higher bound

below_more : (n bound next : ℕ) → nat_lt n bound ≡ true → bound ≤ next → nat_lt n next ≡ true
below_more n bound next h l = grind (arith, nat_tests)

module _ (E F : OfCall) (bound next : ℕ) (g : (n : ℕ) (q : Request) (at : ℕ) → E n q at → F n q at) (l : bound ≤ next) where
  job_more : (seat : Option Seat) (o : OutCall) (j : OutJob) → JobKnown E bound seat o j → JobKnown F next seat o j
  job_more seat o (job.Grant lease) h = ((h.0.0, g o.call (request.Grant h.0.0 lease) o.sent_at h.0.1), h.1)
  job_more seat o (job.Keep lease) h = (g o.call (request.KeepAlive lease) o.sent_at h.0, below_more lease bound next h.1 l, h.2)
  job_more seat o (job.Acquire k) h = h
  job_more seat o job.Wait h = (h.0, g o.call h.0 o.sent_at h.1, h.2)
  job_more seat o (job.Ask kind) h = (h.0, g o.call h.0 o.sent_at h.1, h.2)
  job_more seat o (job.Group lease) h = (h.0, g o.call h.0 o.sent_at h.1, h.2)

  pub known_more : (namespace prefix : List ℕ) (now : ℕ) (told : Option Session) (c : Core) → Known E namespace prefix bound now told c → Known F namespace prefix next now told c
  known_more namespace prefix now told c h = record {
    live = h.live;
    calls = each_kept (OutKnown E bound c.seat) (OutKnown F next c.seat) (λ o k. job_more c.seat o o.job k) c.out h.calls;
    below = λ s e. below_more s.session.number bound next (h.below s e) l;
    acquires = acquires_more (IsAcquireCall E namespace prefix) (IsAcquireCall F namespace prefix) (λ k number session t. (t.0, g number (acquire_call namespace prefix k session) t.0 t.1)) c.acquires h.acquires;
  }

-- at a later reading, with what is told as live then
pub known_later : (E : OfCall) (namespace prefix : List ℕ) (bound now later : ℕ) (told next : Option Session) (c : Core) → AreAlike later next c.seat → Known E namespace prefix bound now told c → Known E namespace prefix bound later next c
known_later E namespace prefix bound now later told next c a h = record { live = a; calls = h.calls; below = h.below; acquires = h.acquires }

-- ---- the clock's work done

pub record Ready (now : ℕ) (d : Core) : Type 0 where
  pub its : SeatHasItsJob d.seat d.out
  pub numbered : SeatIsNumbered d.seat
  pub over : seat_is_over d.seat now ≡ false
  pub owners : OwnersFit d
  pub apart : AreApart d

over_after : (now : ℕ) (s : Option Seat) → seat_is_over (seat_after now s) now ≡ false
over_after now s = by (seat_is_over s now) refl
  where
    by : (b : Bool) → seat_is_over s now ≡ b → seat_is_over (cond b None s) now ≡ false
    by true e = refl
    by false e = e

numbered_after : (now : ℕ) (s : Option Seat) → SeatIsNumbered s → SeatIsNumbered (seat_after now s)
numbered_after now s h = by (seat_is_over s now)
  where
    by : (b : Bool) → SeatIsNumbered (cond b None s)
    by true = tt
    by false = h

pub ready : (now : ℕ) (c : Core) → CoreOk c → CoreFits c → OwnersFit c → Ready now (clock_work now c)
ready now c ok f o =
    let t = clock_seat now c in
    let none : CoreFit false c = record { acquires = o.acquires; entries = o.entries; names = λ e. absurd (cc) } in
    let fit = clock_fits false now c (of_ok c ok).mid none in
    record {
      its = subst (λ (xs : List OutCall). SeatHasItsJob (clock_work now c).seat xs) (sym t.out_is) (subst (λ (s : Option Seat). SeatHasItsJob s c.out) (sym t.seat_is) (its_job now c.seat c.out f.seat_job));
      numbered = subst SeatIsNumbered (sym t.seat_is) (numbered_after now c.seat f.numbered);
      over = ap (λ (s : Option Seat). seat_is_over s now) t.seat_is ∙ over_after now c.seat;
      owners = record { acquires = fit.acquires; entries = fit.entries };
      apart = apart_behind now c f;
    }

-- ---- a tick

abbrev Triple : OfCall → ℕ → ℕ → Option Session → Option Seat → List OutCall → Type 0
Triple E bound now told seat out = AreAlike now told seat × (EachOf (OutKnown E bound seat) out × IsBelow bound seat)

not_below : {A : Type 0} (lease bound drawn : ℕ) → nat_lt lease bound ≡ true → nat_le bound drawn ≡ true → drawn ≡ lease → A
not_below lease bound drawn h k e = absurd (let f : nat_le bound lease ≡ true = ap (nat_le bound) (sym e) ∙ k in impossible lease bound h f)
  where
    impossible : (lease bound : ℕ) → nat_lt lease bound ≡ true → nat_le bound lease ≡ true → ⊥
    impossible lease bound h f = grind (arith, nat_tests)

ticked_call : (call step now : ℕ) (s : Rattle.proxy_model.specs.Session.Session) (o : Option Sending) → is_sent_as call o ≡ true → is_sent_as call (call_ticked step now s o) ≡ true
ticked_call call step now s None h = absurd (cc)
ticked_call call step now s (Some x) h = h

ticked_so : (E : OfCall) (bound next now : ℕ) (told : Option Session) (word ttl step : ℕ) (seat : Option Seat) (out : List OutCall) → nat_le bound (drawn_session word) ≡ true → nat_lt (drawn_session word) next ≡ true → bound ≤ next
    → Triple E bound now told seat out → Triple E next now told (Some (seat_ticked word ttl step now seat)) out
ticked_so E bound next now told word ttl step None out low high l h = (
  h.0,
  (
    each_kept (OutKnown E bound None) (OutKnown E next drawn) (λ o k. goes o o.job k) out h.1.0,
    λ r e. let one : drawn_seat word ttl step ≡ r = cc in ap (λ (y : Seat). nat_lt y.session.number next) (sym one) ∙ high,
  ),
)
  where
    drawn : Option Seat
    drawn = Some (drawn_seat word ttl step)

    goes : (o : OutCall) (j : OutJob) → JobKnown E bound None o j → JobKnown E next drawn o j
    goes o (job.Grant lease) k = absurd (let f = k.1 in cc)
    goes o (job.Keep lease) k = (
      k.0,
      below_more lease bound next k.1 l,
      λ r e m. not_below lease bound (drawn_session word) k.1 low ((let one : drawn_seat word ttl step ≡ r = cc in ap (λ (y : Seat). y.session.number) one) ∙ m),
    )
    goes o (job.Acquire i) k = k
    goes o job.Wait k = k
    goes o (job.Ask kind) k = k
    goes o (job.Group lease) k = k
ticked_so E bound next now told word ttl step (Some s) out low high l h = (
  h.0,
  (
    each_kept (OutKnown E bound (Some s)) (OutKnown E next later) (λ o k. goes o o.job k) out h.1.0,
    λ r e. let one : seat_ticked word ttl step now (Some s) ≡ r = cc in ap (λ (y : Seat). nat_lt y.session.number next) (sym one) ∙ below_more s.session.number bound next (h.1.1 s refl) l,
  ),
)
  where
    later : Option Seat
    later = Some (seat_ticked word ttl step now (Some s))

    goes : (o : OutCall) (j : OutJob) → JobKnown E bound (Some s) o j → JobKnown E next later o j
    goes o (job.Grant lease) k = (k.0, ticked_call o.call step now s.session s.call k.1)
    goes o (job.Keep lease) k = (
      k.0,
      below_more lease bound next k.1 l,
      λ r e m. let one : seat_ticked word ttl step now (Some s) ≡ r = cc in
          subst (λ (y : Seat). is_sent_as o.call y.call ≡ true) one (ticked_call o.call step now s.session s.call (k.2 s refl (ap (λ (y : Seat). y.session.number) one ∙ m))),
    )
    goes o (job.Acquire i) k = k
    goes o job.Wait k = k
    goes o (job.Ask kind) k = k
    goes o (job.Group lease) k = k

-- ---- what is heard

heard_body : (namespace : List ℕ) (reply : Reply) (b : Body) → reply.body ≡ b → heard namespace (Done reply) ≡ heard_reply (body_without namespace b >>= λ x. Ok (record reply { body = x }))
heard_body namespace reply b e = ap (λ (y : Body). heard_reply (body_without namespace y >>= λ x. Ok (record reply { body = x }))) e

-- a refusal that isn't known doesn't say that the lease isn't there
unknown_code : (code : ℕ) → is_known code ≡ false → (code == NOT_FOUND) ≡ false
unknown_code code h =
    let a = code == INVALID_ARGUMENT in
    let b = code == NOT_FOUND in
    let c = code == PERMISSION_DENIED in
    let d = code == FAILED_PRECONDITION in
    let e = code == OUT_OF_RANGE in
    or_second a b (or_first (a || b) c (or_first (a || b || c) d (or_first (a || b || c || d) e (or_first (a || b || c || d || e) (code == UNIMPLEMENTED) h))))

unknown_leaves : (code : ℕ) (q : Request) (s : Option Session) → (code == NOT_FOUND) ≡ false → refused_with code q s ≡ s
unknown_leaves code q None e = refl
unknown_leaves code q (Some x) e =
    λ i. Some (record x { ended = (ap (λ (b : Bool). x.ended || (b && Rattle.world_model.specs.LiveSessions.acquires_under x.number q)) e ∙ or_false x.ended) i })

job_here : (call : ℕ) (out : List OutCall) (o : OutCall) → out_at call out ≡ Some o → job_at call out ≡ Some o.job
job_here call [] o e = absurd (cc)
job_here call (x ∷ out) o e = by (x.call == call) e (λ k. job_here call out o k)
  where
    by : (b : Bool) → cond b (Some x) (out_at call out) ≡ Some o → (out_at call out ≡ Some o → job_at call out ≡ Some o.job) → cond b (Some x.job) (job_at call out) ≡ Some o.job
    by true k more = let one : x ≡ o = cc in ap (λ (y : OutCall). Some y.job) one
    by false k more = more k

-- ---- a step, its clock's work done

module _ (E : OfCall) (namespace prefix : List ℕ) (bound now : ℕ) (told : Option Session) (d : Core) (h : Known E namespace prefix bound now told d) (fits : now < last_reading) (r : Ready now d) where
  abbrev Same : Option Session → Option Seat → List OutCall → Type 0
  Same later seat out = Triple E bound now later seat out

  triple : Same told d.seat d.out
  triple = (h.live, (h.calls, h.below))

  its : EachOf (λ x. (s : Seat) → d.seat ≡ Some s → IsSeatsCall s.session s.call x) d.out
  its = seats_calls d.seat d.out r.its

  -- a call that is out ends

  module _ (call : ℕ) (o : OutCall) (found : out_at call d.out ≡ Some o) where
    number : o.call ≡ call
    number = out_number call d.out o found

    own : (s : Seat) → d.seat ≡ Some s → IsSeatsCall s.session s.call o
    own = each_out (λ x. (s : Seat) → d.seat ≡ Some s → IsSeatsCall s.session s.call x) call d.out o its found

    this : OutKnown E bound d.seat o
    this = each_out (OutKnown E bound d.seat) call d.out o h.calls found

    stays : (later : Option Session) → AreAlike now later d.seat → Same later d.seat (without_out call d.out)
    stays = jobs.stays E bound now call told d.seat d.out o h.live fits h.calls h.below r.numbered number its own r.over

    grant_lost : (lease : ℕ) → o.job ≡ job.Grant lease → seat_calls o.call d.seat ≡ true → (later : Option Session) → AreAlike now later d.seat → Same later (lost_seat o (job.Grant lease) d.seat) (without_out call d.out)
    grant_lost = jobs.grant_lost E bound now call told d.seat d.out o h.live fits h.calls h.below r.numbered number its own r.over

    keep_lost : (lease : ℕ) → (later : Option Session) → AreAlike now later d.seat → Same later (lost_seat o (job.Keep lease) d.seat) (without_out call d.out)
    keep_lost = jobs.keep_lost E bound now call told d.seat d.out o h.live fits h.calls h.below r.numbered number its own r.over

    lost_triple : (j : OutJob) → o.job ≡ j → JobKnown E bound d.seat o j → Same told (lost_seat o j d.seat) (without_out call d.out)
    lost_triple (job.Grant lease) e k = grant_lost lease e k.1 told h.live
    lost_triple (job.Keep lease) e k = keep_lost lease told h.live
    lost_triple (job.Acquire i) e k = stays told h.live
    lost_triple job.Wait e k = stays told h.live
    lost_triple (job.Ask kind) e k = stays told h.live
    lost_triple (job.Group lease) e k = stays told h.live

    lost_so : Same told (on_lost now call d).core.seat (on_lost now call d).core.out
    lost_so = ended.lost_goes_on (Same told) now call o o.job d found refl (lost_triple o.job refl this)

    -- with what is told of the session then, by what the call asked for

    abbrev Hears : Option Session → Answer → Type 0
    Hears later x = (q : Request) (at : ℕ) → E call q at → (later ≡ heard_answer at q (Some x) (session_at now told)) × AnswerFits q x

    abbrev HeardSo : Option Session → OutJob → Option Answer → Answer → Type 0
    HeardSo later j a x = ended.EndSo (Same later) (heard_job now o j a (answer_taken x (call_gone call d)))

    by_call : (later : Option Session) (x : Answer) → Hears later x → (q : Request) → E o.call q o.sent_at → (later ≡ heard_answer o.sent_at q (Some x) (session_at now told)) × AnswerFits q x
    by_call later x hears q e = hears q o.sent_at (subst (λ (n : ℕ). E n q o.sent_at) number e)

    refused_by : (later : Option Session) (j : OutJob) (c : Refusal) → (is_known c.code ≡ true → HeardSo later j (Some (Refused c)) (Refused c)) → (is_known c.code ≡ false → HeardSo later j None (Refused c))
        → HeardSo later j (heard d.settings.namespace (Refused c)) (Refused c)
    refused_by later j c f g = by_test (λ (a : Option Answer). HeardSo later j a (Refused c)) (is_known c.code) (Some (Refused c)) None f g

    lost_as : (later : Option Session) (j : OutJob) (x : Answer) → Same later (lost_seat o j d.seat) (without_out call d.out) → HeardSo later j None x
    lost_as later j (Done reply) t = ended.unheard_goes (Same later) now o j (answer_taken (Done reply) (call_gone call d)) t
    lost_as later j (Refused c) t = ended.unheard_goes (Same later) now o j (answer_taken (Refused c) (call_gone call d)) t

    -- what is told at it, where the session stays
    told_by : (later : Option Session) (x : Answer) (q : Request) → later ≡ heard_answer o.sent_at q (Some x) (session_at now told) → AreAlike now (heard_answer o.sent_at q (Some x) (session_at now told)) d.seat → AreAlike now later d.seat
    told_by later x q e a = subst (λ (y : Option Session). AreAlike now y d.seat) (sym e) a

    grant_session : (lease : ℕ) → o.job ≡ job.Grant lease → seat_calls o.call d.seat ≡ true → is_session lease ≡ true
    grant_session lease e t =
        let s = jobs.sits_for o.call d.seat t in
        ap is_session (grant_unseated lease s.sits.session.number s.sits.session.standing (sym e ∙ own s.sits s.seat_is s.calls)).1 ∙ subst SeatIsNumbered s.seat_is r.numbered

    granted_so : (lease : ℕ) → o.job ≡ job.Grant lease → JobKnown E bound d.seat o (job.Grant lease) → (later : Option Session) (reply : Reply) → Hears later (Done reply) → HeardSo later (job.Grant lease) (heard d.settings.namespace (Done reply)) (Done reply)
    granted_so lease e k later reply hears =
        let f = by_call later (Done reply) hears (request.Grant k.0.0 lease) k.0.1 in
        let i = grant_session lease e k.1 in
        let got = f.1 i in
        let now' : Option Session = Some (record { number = lease; deadline = o.sent_at + 1000 * got.0; ended = false }) in
        let same : later ≡ now' =
        f.0 ∙ ap (λ (b : Body). done_with o.sent_at (request.Grant k.0.0 lease) b (session_at now told)) got.1 ∙ ap (λ (b : Bool). cond b now' (session_at now told)) i in
        subst (λ (a : Option Answer). HeardSo later (job.Grant lease) a (Done reply)) (sym (heard_body d.settings.namespace reply (body.Grant lease got.0) got.1))
        (ended.grant_done (Same later) now o lease lease got.0 reply (answer_taken (Done reply) (call_gone call d))
        (subst (λ (l : Option Session). Same l (ended.granted_seat o got.0 d.seat) (without_out call d.out)) (sym same) (jobs.grant_kept E bound now call told d.seat d.out o h.live fits h.calls h.below r.numbered number its own r.over lease got.0 e k.1)))

    kept_so : (lease : ℕ) → o.job ≡ job.Keep lease → JobKnown E bound d.seat o (job.Keep lease) → (later : Option Session) (reply : Reply) → Hears later (Done reply) → HeardSo later (job.Keep lease) (heard d.settings.namespace (Done reply)) (Done reply)
    kept_so lease e k later reply hears =
        let f = by_call later (Done reply) hears (request.KeepAlive lease) k.0 in
        let got = f.1 in
        let same : later ≡ kept_until o.sent_at lease got.0 (session_at now told) = f.0 ∙ ap (λ (b : Body). done_with o.sent_at (request.KeepAlive lease) b (session_at now told)) got.1 in
        subst (λ (a : Option Answer). HeardSo later (job.Keep lease) a (Done reply)) (sym (heard_body d.settings.namespace reply (body.KeepAlive lease got.0) got.1))
        (ended.keep_done (Same later) now o lease lease got.0 reply (answer_taken (Done reply) (call_gone call d))
        (subst (λ (l : Option Session). Same l (ended.kept_seat o got.0 d.seat) (without_out call d.out)) (sym same) (jobs.keep_kept E bound now call told d.seat d.out o h.live fits h.calls h.below r.numbered number its own r.over lease got.0 e k)))

    acquire_so : (k : List ℕ) → o.job ≡ job.Acquire k → (later : Option Session) (x : Answer) → Hears later x → HeardSo later (job.Acquire k) (heard d.settings.namespace x) x
    acquire_so k e later x hears = by x hears
      where
        out : IsOutAs call (at d.acquires k)
        out = r.owners.acquires.awaits call k (job_here call d.out o found ∙ ap (λ (j : OutJob). Some j) e)

        q : Request
        q = acquire_call namespace prefix k out.acquire.session

        asked : IsAcquireCall E namespace prefix k call out.acquire.session
        asked = h.acquires.out k call out.acquire out.stands out.out

        heard_done : (reply : Reply) → AreAlike now later d.seat → (u : Unwrapped Reply) → HeardSo later (job.Acquire k) (heard_reply u) (Done reply)
        heard_done reply a (Ok y) = ended.acquire_done (Same later) now o k y (answer_taken (Done reply) (call_gone call d)) (stays later a)
        heard_done reply a (Err foreign) = lost_as later (job.Acquire k) (Done reply) (stays later a)

        by : (x : Answer) → Hears later x → HeardSo later (job.Acquire k) (heard d.settings.namespace x) x
        by (Done reply) hears = heard_done reply (subst (λ (y : Option Session). AreAlike now y d.seat) (sym (hears q asked.0 asked.1).0) (still_alike now told d.seat h.live fits)) (reply_without d.settings.namespace reply)
        by (Refused c) hears =
            let f = (hears q asked.0 asked.1).0 in
            refused_by later (job.Acquire k) c
            (λ t. ended.acquire_refused (Same later) now o k out.acquire c (answer_taken (Refused c) (call_gone call d)) out.stands
            (subst (λ (l : Option Session). Same l (ended.refused_seat now c out.acquire.session d.seat) (without_out call d.out)) (sym f)
            (jobs.acquire_refused E bound now call told d.seat d.out o h.live fits h.calls h.below r.numbered number its own r.over namespace prefix k out.acquire.session c)))
            (λ t. lost_as later (job.Acquire k) (Refused c)
            (stays later (same_alike now told d.seat h.live fits later (f ∙ unknown_leaves c.code q (session_at now told) (unknown_code c.code t)))))

    -- a call that names no session
    apart_so : (later : Option Session) (x : Answer) → Hears later x → (q : Request) → E o.call q o.sent_at → names_session q ≡ false → AreAlike now later d.seat
    apart_so later x hears q e n = told_by later x q (by_call later x hears q e).0 (apart_alike now told d.seat h.live fits r.numbered o.sent_at q x n)

    heard_as : (later : Option Session) (j : OutJob) (x : Answer) → HeardSo later j None x → ((a : Answer) → HeardSo later j (Some a) x) → HeardSo later j (heard d.settings.namespace x) x
    heard_as later j x f g = by (heard d.settings.namespace x)
      where
        by : (a : Option Answer) → HeardSo later j a x
        by None = f
        by (Some a) = g a

    left_as : (later : Option Session) (x : Answer) → AreAlike now later d.seat → Same later (answer_taken x (call_gone call d)).seat (answer_taken x (call_gone call d)).out
    left_as later (Done reply) a = stays later a
    left_as later (Refused c) a = stays later a

    goes : (j : OutJob) → o.job ≡ j → JobKnown E bound d.seat o j → (later : Option Session) (x : Answer) → Hears later x → HeardSo later j (heard d.settings.namespace x) x
    goes (job.Grant lease) e k later (Done reply) hears = granted_so lease e k later reply hears
    goes (job.Grant lease) e k later (Refused c) hears =
        let q = request.Grant k.0.0 lease in
        let t = grant_lost lease e k.1 later (told_by later (Refused c) q (by_call later (Refused c) hears q k.0.1).0 (refused_alike now told d.seat h.live fits o.sent_at q c (λ n. refl))) in
        refused_by later (job.Grant lease) c (λ i. ended.grant_refused (Same later) now o lease c (answer_taken (Refused c) (call_gone call d)) t) (λ i. lost_as later (job.Grant lease) (Refused c) t)
    goes (job.Keep lease) e k later (Done reply) hears = kept_so lease e k later reply hears
    goes (job.Keep lease) e k later (Refused c) hears =
        let q = request.KeepAlive lease in
        let t = keep_lost lease later (told_by later (Refused c) q (by_call later (Refused c) hears q k.0).0 (refused_alike now told d.seat h.live fits o.sent_at q c (λ n. refl))) in
        refused_by later (job.Keep lease) c (λ i. ended.keep_refused (Same later) now o lease c (answer_taken (Refused c) (call_gone call d)) t) (λ i. lost_as later (job.Keep lease) (Refused c) t)
    goes (job.Acquire i) e k later x hears = acquire_so i e later x hears
    goes job.Wait e k later x hears =
        let a = apart_so later x hears k.0 k.1 k.2 in
        heard_as later job.Wait x (lost_as later job.Wait x (stays later a)) (λ y. ended.wait_goes (Same later) now o y (answer_taken x (call_gone call d)) (left_as later x a))
    goes (job.Ask kind) e k later x hears =
        let a = apart_so later x hears k.0 k.1 k.2 in
        heard_as later (job.Ask kind) x (lost_as later (job.Ask kind) x (stays later a)) (λ y. ended.ask_goes (Same later) now o kind y (answer_taken x (call_gone call d)) (left_as later x a))
    goes (job.Group lease) e k later x hears =
        let a = apart_so later x hears k.0 k.1 k.2 in
        heard_as later (job.Group lease) x (lost_as later (job.Group lease) x (stays later a)) (λ y. ended.group_goes (Same later) now o lease y (answer_taken x (call_gone call d)) (left_as later x a))

    answered_so : (later : Option Session) (x : Answer) → Hears later x → Same later (on_answer now call x d).core.seat (on_answer now call x d).core.out
    answered_so later x hears = ended.answered_goes (Same later) now call x o o.job d found refl (goes o.job refl this later x hears)

  as_known : (next : ℕ) (later : Option Session) (c : Core) → Triple E next now later c.seat c.out → AcquiresKnown (IsAcquireCall E namespace prefix) c.acquires → Known E namespace prefix next now later c
  as_known next later c t a = record { live = t.0; calls = t.1.0; below = t.1.1; acquires = a }

  abbrev T : List ℕ → ℕ → ℕ → Type 0
  T = IsAcquireCall E namespace prefix

  abbrev Ends : CoreEvent → Type 0
  Ends e = Known E namespace prefix bound now told (happened now e d).core

  acquires_by : (e : CoreEvent) → (e ≡ event.Work → Stand T d (first_job d)) → AcquiresKnown T (happened now e d).core.acquires
  acquires_by e s = happened_acquires T now e d s h.acquires

  pub asks : (ticket : ℕ) (q : Request) (word : ℕ) → Ends (event.Ask ticket q word)
  asks ticket q word = as_known bound told (happened now (event.Ask ticket q word) d).core (asked_so (Same told) now ticket q word d triple) (acquires_by (event.Ask ticket q word) (λ e. absurd (cc)))

  pub items : (number : ℕ) (x : WatchItem) → Ends (event.Item number x)
  items number x = as_known bound told (happened now (event.Item number x) d).core (item_so (Same told) now number x d triple) (acquires_by (event.Item number x) (λ e. absurd (cc)))

  pub cuts : (number : ℕ) → Ends (event.Cut number)
  cuts number = as_known bound told (happened now (event.Cut number) d).core (cut_so (Same told) number d triple) (acquires_by (event.Cut number) (λ e. absurd (cc)))

  pub takes : (ticket : ℕ) → Ends (event.Take ticket)
  takes ticket = as_known bound told (happened now (event.Take ticket) d).core (take_so (Same told) ticket d triple) (acquires_by (event.Take ticket) (λ e. absurd (cc)))

  pub leaves : (ticket : ℕ) → Ends (event.Leave ticket)
  leaves ticket = as_known bound told (happened now (event.Leave ticket) d).core (leave_so (Same told) now ticket d triple) (acquires_by (event.Leave ticket) (λ e. absurd (cc)))

  pub loses : (call : ℕ) → Ends (event.Lost call)
  unfolding on_lost
  loses call = as_known bound told (happened now (event.Lost call) d).core (by (out_at call d.out) refl) (acquires_by (event.Lost call) (λ e. absurd (cc)))
    where
      by : (x : Option OutCall) → out_at call d.out ≡ x → Same told (loss_of now call (out_at call d.out) d).core.seat (loss_of now call (out_at call d.out) d).core.out
      by None e = subst (λ (x : Option OutCall). Same told (loss_of now call x d).core.seat (loss_of now call x d).core.out) (sym e) triple
      by (Some o) e = lost_so call o e

  pub answers : (call : ℕ) (o : OutCall) → out_at call d.out ≡ Some o → (later : Option Session) (x : Answer)
      → ((q : Request) (at : ℕ) → E call q at → (later ≡ heard_answer at q (Some x) (session_at now told)) × AnswerFits q x) → Known E namespace prefix bound now later (happened now (event.Answer call x) d).core
  answers call o e later x hears = as_known bound later (happened now (event.Answer call x) d).core (answered_so call o e later x hears) (acquires_by (event.Answer call x) (λ f. absurd (cc)))

  pub ticks : (next word : ℕ) → bound ≤ next → nat_le bound (drawn_session word) ≡ true → nat_lt (drawn_session word) next ≡ true → Known E namespace prefix next now told (happened now (event.Tick word) d).core
  ticks next word l low high =
      let m = known_more E E bound next (λ n q at e. e) l namespace prefix now told d h in
      as_known next told (happened now (event.Tick word) d).core
      (tick_so (λ seat out. Triple E next now told seat out) now word d (m.live, (m.calls, m.below)) (λ e. ticked_so E bound next now told word d.settings.ttl d.own.waits.step d.seat d.out low high l triple))
      (acquires_by (event.Tick word) (λ e. absurd (cc)))

  -- what is due is sent
  module _ (settings : d.settings.namespace ≡ namespace) (leasing : d.own.waits.prefix ≡ prefix) (sends : SendsKnown E now (on_work now d)) where
    acquire_known : (k : List ℕ) (x : Acquire) → first_job d ≡ Some (ForAcquire k x) → T k (next_call d) x.session
    unfolding on_work
    acquire_known k x e = (
      now,
      subst (λ (p : List ℕ). E (next_call d) (acquire_call namespace p k x.session) now) leasing
          (subst (λ (n : List ℕ). E (next_call d) (acquire_call n d.own.waits.prefix k x.session) now) settings
          (sends (next_call d) d.members.current x.ticket (acquire_call d.settings.namespace d.own.waits.prefix k x.session) (ap (λ (j : Option DueJob). (sent_by now j d).outcome) e))),
    )

    stand : (j : Option DueJob) → first_job d ≡ j → Stand T d j
    stand None e = tt
    stand (Some (ForSession x)) e = tt
    stand (Some ForWrites) e = tt
    stand (Some (ForAcquire k x)) e = ((due_acquires_stand d k x r.owners e).stands, acquire_known k x e)
    stand (Some (ForAsk a)) e = tt
    stand (Some (ForGroup lease ticket)) e = tt
    stand (Some (ToOpen x)) e = tt
    stand (Some (ForStream x)) e = tt

    pub works : Ends event.Work
    works = as_known bound told (happened now event.Work d).core (work_leaves E bound now told d h.live h.calls h.below r.apart sends) (acquires_by event.Work (λ e. stand (first_job d) refl))

-- an answer that gives an outcome is to a call that is out
pub found_out : (now call : ℕ) (x : Answer) (d : Core) (out : Outcome) → (happened now (event.Answer call x) d).outcome ≡ Ok out → (o : OutCall) × (out_at call d.out ≡ Some o)
unfolding on_answer
found_out now call x d out e = by (out_at call d.out) refl e
  where
    by : (o : Option OutCall) → out_at call d.out ≡ o → (answer_of now call x o d).outcome ≡ Ok out → (o : OutCall) × (out_at call d.out ≡ Some o)
    by None f g = absurd (cc)
    by (Some o) f g = (o, f)

-- ---- the step is counted

counted_known : (E : OfCall) (namespace prefix : List ℕ) (bound now : ℕ) (told : Option Session) (c : Core) (r : Result Outcome StepFault) → Known E namespace prefix bound now told c → Known E namespace prefix bound now told (counted_by c r).core
counted_known E namespace prefix bound now told c (Ok o) h = record { live = h.live; calls = h.calls; below = h.below; acquires = h.acquires }
counted_known E namespace prefix bound now told c (Err f) h = h

-- of a proxy that isn't worn
pub stepped_known : (E : OfCall) (namespace prefix : List ℕ) (bound now : ℕ) (told : Option Session) (c : Core) (e : CoreEvent) → is_worn c ≡ false → Known E namespace prefix bound now told (happened now e (clock_work now c)).core
    → Known E namespace prefix bound now told (stepped c e now).core
unfolding stepped
stepped_known E namespace prefix bound now told c e w h =
    subst (λ (b : Bool). Known E namespace prefix bound now told (cond b (faults c fault.Worn) (counted (happened now e (clock_work now c)))).core) (sym w)
    (counted_known E namespace prefix bound now told (happened now e (clock_work now c)).core (happened now e (clock_work now c)).outcome h)

-- one that is worn gives a fault, and else the outcome is that of the event
pub gave : (c : Core) (e : CoreEvent) (now : ℕ) (o : Outcome) → (stepped c e now).outcome ≡ Ok o → (is_worn c ≡ false) × ((happened now e (clock_work now c)).outcome ≡ Ok o)
unfolding stepped
gave c e now o h = by (is_worn c) refl h
  where
    counted_is : (d : Core) (r : Result Outcome StepFault) → (counted_by d r).outcome ≡ r
    counted_is d (Ok x) = refl
    counted_is d (Err f) = refl

    by : (b : Bool) → is_worn c ≡ b → (cond b (faults c fault.Worn) (counted (happened now e (clock_work now c)))).outcome ≡ Ok o → (is_worn c ≡ false) × ((happened now e (clock_work now c)).outcome ≡ Ok o)
    by true w k = absurd (cc)
    by false w k = (w, sym (counted_is (happened now e (clock_work now c)).core (happened now e (clock_work now c)).outcome) ∙ k)

-- a fetch of a reply
pub fetch_known : (E : OfCall) (namespace prefix : List ℕ) (bound now : ℕ) (told : Option Session) (c : Core) (ticket : ℕ) → now < last_reading → CoreOk c → CoreFits c → OwnersFit c → Known E namespace prefix bound now told c
    → Known E namespace prefix bound now told (stepped c (event.Take ticket) now).core
fetch_known E namespace prefix bound now told c ticket f ok fit owners h = by (is_worn c) refl
  where
    by : (b : Bool) → is_worn c ≡ b → Known E namespace prefix bound now told (stepped c (event.Take ticket) now).core
    by true w = subst (λ (s : Stepped). Known E namespace prefix bound now told s.core) (sym (worn_does_nothing c (event.Take ticket) now w)) h
    by false w = stepped_known E namespace prefix bound now told c (event.Take ticket) w (takes E namespace prefix bound now told (clock_work now c) (known_behind E namespace prefix bound now told c fit.seat_job h) f (ready now c ok fit owners) ticket)
