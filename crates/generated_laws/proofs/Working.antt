-- What is due first is sent: a call, or the opening of the leasing stream, where there are no client streams.
use Rattle.std.proofs.Common.{◌≡◌, ◌⊎◌, inl, inr, ℕ, ◌==◌, Bool, true, false, not, ◌&&◌, ◌||◌, List, [], ◌∷◌, ◌++◌, map, Option, None, Some, is_some, Ok, refl, sym, ◌∙◌, ap, subst, arith}
use Rattle.std.proofs.lemmas.Bool.Decides.{nat_tests}
use Rattle.std.specs.List.{list_any, list_all, flat_map}
use Rattle.etcd_types.proofs.Bools.{and_first, and_second, and_both, or_first, or_second, or_none, or_either, not_true}
use Rattle.etcd_types.specs.declared.request.Request.{Request}
use Rattle.etcd_types.specs.declared.request.Request.TheVariants as request
use Rattle.proxy_model.specs.declared.session.Standing.{Standing}
use Rattle.proxy_model.specs.Keyed.{Keyed}
use Rattle.proxy_model.specs.Session.{Session}
use Rattle.proxy_model.specs.Wrapped.{request_under}
use Rattle.wait_model.specs.declared.due.Place.{Place}
use Rattle.wait_model.specs.declared.sending.Sending.{Sending}
use Rattle.wait_model.specs.declared.sending.Sending.TheVariants as sending
use Rattle.wait_model.specs.DueOrder.{is_earlier, first_place, first_rescind}
use Rattle.wait_model.specs.Sent.{JobSent, job_sent}
use Rattle.read_model.specs.declared.acquire.Acquire.{Acquire}
use Rattle.read_model.specs.declared.asked.Asked.{Asked}
use Rattle.read_model.specs.declared.asked.Stage.{Stage}
use Rattle.read_model.specs.declared.asked.Stage.TheVariants as stage
use Rattle.read_model.specs.PlainRead.{in_stage}
use Rattle.watch_model.specs.State.{Stream}
use Rattle.core_model.specs.declared.event.Job.TheVariants as sent
use Rattle.core_model.specs.declared.event.Outcome.TheVariants as outcome
use Rattle.core_model.specs.declared.out_call.OutCall.{OutCall}
use Rattle.core_model.specs.declared.out_call.OutJob.{OutJob}
use Rattle.core_model.specs.declared.out_call.OutJob.TheVariants as job
use Rattle.core_model.specs.ClockWork.{is_replied}
use Rattle.core_model.specs.DueJobs.{DueJob, ForSession, ForWrites, ForAcquire, ForAsk, ForGroup, ToOpen, ForStream, Placed, if_due, due_writes, due_acquire, due_ask, due_stage, due_at, due_opening, due_stream, due_jobs, earlier, earliest, job_of, session_job_of, session_job, rescind_or, or_else, first_job}
use Rattle.core_model.specs.Fits.{has_number, once, ask_tickets, goes_on}
use Rattle.core_model.specs.Groups.{group_sent}
use Rattle.core_model.specs.Kinds.{kind_of}
use Rattle.proxy_model.specs.Acquire.{acquire}
use Rattle.proxy_model.specs.PassingOn.{numbered}
use Rattle.core_model.specs.Lookups.{has_ticket}
use Rattle.core_model.specs.LeasingStream.{watch_of, opening_sent}
use Rattle.core_model.specs.Sending.{next_call, out_call, session_out, called_as, writes_sent, sent_by, on_work}
use Rattle.core_model.specs.Sessions.{session_request}
use Rattle.core_model.specs.State.{Seat, Opening, Core}
use Rattle.core_model.specs.Stepped.{Stepped}
use Rattle.generated_laws.proofs.Passing.{some_place, write_job_sent, rescind_job_sent, SentGoes, sent_goes}
use Rattle.generated_laws.proofs.Requests.{Goes, goes_itself, AllGo, all_itself, all_mapped, group_sent_goes}
use Rattle.generated_laws.proofs.Ending.{Lives}
use Rattle.core_laws.proofs.Steps.Comes.{by_test}

-- ---- the first of all that is due

abbrev pub is_called : Stage → Bool
is_called (stage.Calling (sending.Due since)) = true
is_called _ = false

-- that a job can be sent
abbrev pub CanBeSent : Core → DueJob → Type 0
CanBeSent c (ForSession s) = (x : Seat) × (c.seat ≡ Some x) × (x.session ≡ s)
CanBeSent c ForWrites = is_some (job_sent (next_call c) c.own) ≡ true
CanBeSent c (ForAcquire k x) = Unit {0}
CanBeSent c (ForAsk a) = list_any (λ b. has_ticket a.ticket b && is_called b.stage) c.asks ≡ true
CanBeSent c (ForGroup lease ticket) = Unit {0}
CanBeSent c (ToOpen o) = (c.leasing ≡ Some o) × (is_some o.due ≡ true)
CanBeSent c (ForStream s) = ⊥

abbrev AllCan : Core → List Placed → Type 0
AllCan c [] = Unit {0}
AllCan c (p ∷ ps) = CanBeSent c p.job × AllCan c ps

can-append : (c : Core) (ps qs : List Placed) → AllCan c ps → AllCan c qs → AllCan c (ps ++ qs)
can-append c [] qs h k = k
can-append c (p ∷ ps) qs h k = (h.0, can-append c ps qs h.1 k)

writes_can : (c : Core) → AllCan c (due_writes (first_place c.own.waits.writes))
writes_can c = by (first_place c.own.waits.writes) (λ t. write_job_sent (next_call c) c.own (some_place c.own.waits.writes t))
  where
    by : (o : Option Place) → (is_some o ≡ true → CanBeSent c ForWrites) → AllCan c (due_writes o)
    by None f = tt
    by (Some p) f = (f refl, tt)

if_due_can : (c : Core) (s : Sending) (f : ℕ → Placed) → ((since : ℕ) → CanBeSent c (f since).job) → AllCan c (if_due s f)
if_due_can c (sending.Due since) f h = (h since, tt)
if_due_can c (sending.Out call) f h = tt

acquires_can : (c : Core) (xs : Keyed Acquire) → AllCan c (flat_map due_acquire xs)
acquires_can c [] = tt
acquires_can c (x ∷ xs) = can-append c (due_acquire x) (flat_map due_acquire xs) (if_due_can c x.1.sending _ (λ since. tt)) (acquires_can c xs)

itself : (n : ℕ) → (n == n) ≡ true
itself n = grind (arith, nat_tests)

stage_can : (c : Core) (a : Asked) (s : Stage) → a.stage ≡ s → ((q : Asked → Bool) → q a ≡ true → list_any q c.asks ≡ true) → AllCan c (due_stage a s)
stage_can c a (stage.Calling (sending.Due since)) e f = (f (λ b. has_ticket a.ticket b && is_called b.stage) (and_both (a.ticket == a.ticket) (is_called a.stage) (itself a.ticket) (ap is_called e)), tt)
stage_can c a (stage.Calling (sending.Out call)) e f = tt
stage_can c a stage.Acquiring e f = tt
stage_can c a stage.Joined e f = tt
stage_can c a stage.Behind e f = tt
stage_can c a stage.Writes e f = tt
stage_can c a (stage.Grouped None) e f = tt
stage_can c a (stage.Grouped (Some (sending.Due since))) e f = (tt, tt)
stage_can c a (stage.Grouped (Some (sending.Out call))) e f = tt
stage_can c a (stage.Replied v) e f = tt

or_there : (a b : Bool) → a ≡ true → (a || b) ≡ true
or_there a b e = ap (λ x. x || b) e

or_later : (a b : Bool) → b ≡ true → (a || b) ≡ true
or_later true b e = refl
or_later false b e = e

asks_can : (c : Core) (xs : List Asked) → ((q : Asked → Bool) → list_any q xs ≡ true → list_any q c.asks ≡ true) → AllCan c (flat_map due_ask xs)
asks_can c [] f = tt
asks_can c (a ∷ xs) f =
    can-append c (due_ask a) (flat_map due_ask xs) (stage_can c a a.stage refl (λ q t. f q (or_there (q a) (list_any q xs) t))) (asks_can c xs (λ q t. f q (or_later (q a) (list_any q xs) t)))

opening_can : (c : Core) (o : Option Opening) → c.leasing ≡ o → AllCan c (due_opening o)
opening_can c None e = tt
opening_can c (Some o) e = by o.due refl
  where
    by : (s : Option ℕ) → o.due ≡ s → AllCan c (due_at o s)
    by None f = tt
    by (Some since) f = ((e, ap is_some f), tt)

all_can : (c : Core) → c.watches.streams ≡ [] → AllCan c (due_jobs c)
all_can c none =
    let writes = due_writes (first_place c.own.waits.writes) in
    let acquires = flat_map due_acquire c.acquires in
    let asks = flat_map due_ask c.asks in
    can-append c (writes ++ acquires ++ asks ++ due_opening c.leasing) (flat_map due_stream c.watches.streams)
    (can-append c (writes ++ acquires ++ asks) (due_opening c.leasing)
    (can-append c (writes ++ acquires) asks (can-append c writes acquires (writes_can c) (acquires_can c c.acquires)) (asks_can c c.asks (λ q t. t)))
    (opening_can c c.leasing refl))
    (subst (λ (ss : List Stream). AllCan c (flat_map due_stream ss)) (sym none) tt)

abbrev PlacedCan : Core → Option Placed → Type 0
PlacedCan c None = Unit {0}
PlacedCan c (Some p) = CanBeSent c p.job

earliest_can : (c : Core) (o : Option Placed) (ps : List Placed) → PlacedCan c o → AllCan c ps → PlacedCan c (earliest o ps)
earliest_can c o [] h i = h
earliest_can c o (p ∷ ps) h i = earliest_can c (Some (earlier o p)) ps (chosen o h) i.1
  where
    chosen : (x : Option Placed) → PlacedCan c x → CanBeSent c (earlier x p).job
    chosen None t = i.0
    chosen (Some q) t = by_test (λ (z : Placed). CanBeSent c z.job) (is_earlier p.place q.place) p q (λ u. i.0) (λ u. t)

abbrev pub CanIf : Core → Option DueJob → Type 0
CanIf c None = Unit {0}
CanIf c (Some j) = CanBeSent c j

job_can : (c : Core) (o : Option Placed) → PlacedCan c o → CanIf c (job_of o)
job_can c None h = tt
job_can c (Some p) h = h

rescind_can : (c : Core) (b : Bool) (o : Option DueJob) → (b ≡ true → CanBeSent c ForWrites) → CanIf c o → CanIf c (rescind_or b o)
rescind_can c true o f h = f refl
rescind_can c false o f h = h

session_can : (c : Core) (s : Option Seat) → c.seat ≡ s → CanIf c (session_job s)
session_can c None e = tt
session_can c (Some s) e = by s.call
  where
    by : (o : Option Sending) → CanIf c (session_job_of s.session o)
    by None = tt
    by (Some (sending.Due since)) = (s, e, refl)
    by (Some (sending.Out call)) = tt

pub first_can : (c : Core) → c.watches.streams ≡ [] → CanIf c (first_job c)
first_can c none = by (session_job c.seat) (session_can c c.seat refl)
  where
    others : CanIf c (rescind_or (is_some (first_rescind c.own.entries)) (job_of (earliest None (due_jobs c))))
    others = rescind_can c (is_some (first_rescind c.own.entries)) (job_of (earliest None (due_jobs c))) (rescind_job_sent (next_call c) c.own) (job_can c (earliest None (due_jobs c)) (earliest_can c None (due_jobs c) tt (all_can c none)))

    by : (o : Option DueJob) → CanIf c o → CanIf c (or_else o (rescind_or (is_some (first_rescind c.own.entries)) (job_of (earliest None (due_jobs c)))))
    by None t = others
    by (Some j) t = t

-- ---- a request whose own call is sent

none_due : (ticket : ℕ) (ys : List Asked) → has_number (ask_tickets ys) ticket ≡ false → list_any (λ b. has_ticket ticket b && is_called b.stage) ys ≡ false
none_due ticket [] n = refl
none_due ticket (y ∷ ys) n =
    or_none ((y.ticket == ticket) && is_called y.stage) (list_any (λ b. has_ticket ticket b && is_called b.stage) ys)
    (ap (λ b. b && is_called y.stage) (or_first (y.ticket == ticket) (has_number (ask_tickets ys) ticket) n)) (none_due ticket ys (or_second (y.ticket == ticket) (has_number (ask_tickets ys) ticket) n))

called_open : (s : Stage) → is_called s ≡ true → is_replied s ≡ false
called_open (stage.Calling s) h = refl
called_open stage.Acquiring h = refl
called_open stage.Joined h = refl
called_open stage.Behind h = refl
called_open stage.Writes h = refl
called_open (stage.Grouped s) h = refl
called_open (stage.Replied v) h = absurd (cc)

same_number : (n m : ℕ) → (n == m) ≡ true → n ≡ m
same_number n m e = grind (arith, nat_tests)

called_goes : (call ticket : ℕ) (x : Asked) → ((x.ticket == ticket) ≡ true → is_called x.stage ≡ true) → Goes x (called_as call ticket x)
called_goes call ticket x h =
    by_test (Goes x) (x.ticket == ticket) (in_stage (stage.Calling (sending.Out call)) x) x
    (λ t. record { ticket = refl; asked = refl; replied = λ r. absurd (let e : true ≡ false = sym r ∙ called_open x.stage (h t) in cc) }) (λ t. goes_itself x)

-- none has this ticket
unnamed_go : (call ticket : ℕ) (xs : List Asked) → has_number (ask_tickets xs) ticket ≡ false → AllGo xs (map (called_as call ticket) xs)
unnamed_go call ticket [] n = tt
unnamed_go call ticket (x ∷ xs) n =
    (called_goes call ticket x (λ t. absurd (let e : true ≡ false = sym t ∙ or_first (x.ticket == ticket) (has_number (ask_tickets xs) ticket) n in cc)), unnamed_go call ticket xs (or_second (x.ticket == ticket) (has_number (ask_tickets xs) ticket) n))

pub called_go : (call ticket : ℕ) (xs : List Asked) → once (ask_tickets xs) ≡ true → list_any (λ b. has_ticket ticket b && is_called b.stage) xs ≡ true → AllGo xs (map (called_as call ticket) xs)
called_go call ticket [] u h = tt
called_go call ticket (x ∷ xs) u h = by (x.ticket == ticket) refl (called_go call ticket xs (and_second (not (has_number (ask_tickets xs) x.ticket)) (once (ask_tickets xs)) u))
  where
    alone : has_number (ask_tickets xs) x.ticket ≡ false
    alone = not_true (has_number (ask_tickets xs) x.ticket) (and_first (not (has_number (ask_tickets xs) x.ticket)) (once (ask_tickets xs)) u)

    here : has_number (ask_tickets xs) ticket ≡ false → (((x.ticket == ticket) && is_called x.stage) ≡ true) ⊎ (list_any (λ b. has_ticket ticket b && is_called b.stage) xs ≡ true) → is_called x.stage ≡ true
    here n (inl t) = and_second (x.ticket == ticket) (is_called x.stage) t
    here n (inr t) = absurd (let e : true ≡ false = sym t ∙ none_due ticket xs n in cc)

    later : (x.ticket == ticket) ≡ false → list_any (λ b. has_ticket ticket b && is_called b.stage) xs ≡ true
    later e = sym (ap (λ b. (b && is_called x.stage) || list_any (λ y. has_ticket ticket y && is_called y.stage) xs) e) ∙ h

    by : (b : Bool) → (x.ticket == ticket) ≡ b → (list_any (λ y. has_ticket ticket y && is_called y.stage) xs ≡ true → AllGo xs (map (called_as call ticket) xs)) → AllGo (x ∷ xs) (map (called_as call ticket) (x ∷ xs))
    by true e more =
        let n : has_number (ask_tickets xs) ticket ≡ false = subst (λ (i : ℕ). has_number (ask_tickets xs) i ≡ false) (same_number x.ticket ticket e) alone in
        (called_goes call ticket x (λ t. here n (or_either ((x.ticket == ticket) && is_called x.stage) (list_any (λ b. has_ticket ticket b && is_called b.stage) xs) h)), unnamed_go call ticket xs n)
    by false e more = (called_goes call ticket x (λ t. absurd (let f : true ≡ false = sym t ∙ e in cc)), more (later e))

-- ---- what is sent

-- of a call for a grant it asks for one
abbrev pub AsksFor : OutJob → Request → Type 0
AsksFor (job.Grant lease) q = (ttl : ℕ) × (number : ℕ) × (q ≡ request.Grant ttl number)
AsksFor _ q = Unit {0}

-- the call that is out last is the one that was sent at this reading
pub record CallSent (now : ℕ) (c : Core) (s : Stepped) : Type 0 where
  pub call : OutCall
  pub ticket : ℕ
  pub request : Request
  pub outcome : s.outcome ≡ Ok (outcome.Job (Some (sent.Call call.call call.member ticket (request_under c.settings.namespace request))))
  pub out : s.core.out ≡ c.out ++ call ∷ []
  pub sent : call.sent_at ≡ now
  pub asks_for : AsksFor call.job request
  pub settings : s.core.settings ≡ c.settings
  pub leasing : s.core.leasing ≡ c.leasing
  pub watches : s.core.watches ≡ c.watches
  pub steps : s.core.steps ≡ c.steps
  pub asks : AllGo c.asks s.core.asks
  pub seat : Lives now c.seat → Lives now s.core.seat
  pub writes : list_all goes_on c.own.waits.writes ≡ true → list_all goes_on s.core.own.waits.writes ≡ true

-- the opening of the leasing stream is sent
pub record StreamOpened (c : Core) (s : Stepped) : Type 0 where
  pub opening : Opening
  pub leasing : c.leasing ≡ Some opening
  pub due : is_some opening.due ≡ true
  pub outcome : s.outcome ≡ Ok (outcome.Job (Some (sent.Begin opening.number c.members.current (request_under c.settings.namespace (watch_of opening.stream)))))
  pub core : s.core ≡ record c { leasing = Some (opening_sent opening) }

pub data Works (now : ℕ) (c : Core) (s : Stepped) : Type 0 where
  by_call : CallSent now c s → Works now c s
  by_opening : StreamOpened c s → Works now c s

session_asks : (ttl : ℕ) (s : Session) (x : Option Standing) → AsksFor (session_out s.number x) (session_request ttl s x)
session_asks ttl s None = (ttl, s.number, refl)
session_asks ttl s (Some x) = tt

sent_works : (now : ℕ) (c : Core) → once (ask_tickets c.asks) ≡ true → (j : DueJob) → CanBeSent c j → Works now c (sent_by now (Some j) c)
sent_works now c u (ForSession s) (x, at, is) = by_call (record {
  call = out_call now (session_out s.number s.standing) c;
  ticket = 0;
  request = session_request c.settings.ttl s s.standing;
  outcome = refl;
  out = refl;
  sent = refl;
  asks_for = session_asks c.settings.ttl s s.standing;
  settings = refl;
  leasing = refl;
  watches = refl;
  steps = refl;
  asks = all_itself c.asks;
  seat = λ h. subst (λ (y : Session). Lives now (Some (record { session = y; call = Some (sending.Out (next_call c)) }))) is (subst (Lives now) at h);
  writes = λ h. h;
})
sent_works now c u ForWrites h = by (job_sent (next_call c) c.own) h (sent_goes (next_call c) c.own)
  where
    by : (o : Option JobSent) → is_some o ≡ true → (list_all goes_on c.own.waits.writes ≡ true → SentGoes o) → Works now c (writes_sent now o c)
    by None t g = absurd (cc)
    by (Some x) t g = by_call (record {
      call = out_call now job.Wait c;
      ticket = x.due.ticket;
      request = x.due.request;
      outcome = refl;
      out = refl;
      sent = refl;
      asks_for = tt;
      settings = refl;
      leasing = refl;
      watches = refl;
      steps = refl;
      asks = all_itself c.asks;
      seat = λ h. h;
      writes = g;
    })
sent_works now c u (ForAcquire k x) h = by_call (record {
  call = out_call now (job.Acquire k) c;
  ticket = x.ticket;
  request = request.Txn (acquire c.own.waits.prefix k x.session);
  outcome = refl;
  out = refl;
  sent = refl;
  asks_for = tt;
  settings = refl;
  leasing = refl;
  watches = refl;
  steps = refl;
  asks = all_itself c.asks;
  seat = λ h. h;
  writes = λ h. h;
})
sent_works now c u (ForAsk a) h = by_call (record {
  call = out_call now (job.Ask (kind_of a.request)) c;
  ticket = a.ticket;
  request = numbered a.word a.request;
  outcome = refl;
  out = refl;
  sent = refl;
  asks_for = tt;
  settings = refl;
  leasing = refl;
  watches = refl;
  steps = refl;
  asks = called_go (next_call c) a.ticket c.asks u h;
  seat = λ h. h;
  writes = λ h. h;
})
sent_works now c u (ForGroup lease ticket) h = by_call (record {
  call = out_call now (job.Group lease) c;
  ticket = ticket;
  request = request.KeepAlive lease;
  outcome = refl;
  out = refl;
  sent = refl;
  asks_for = tt;
  settings = refl;
  leasing = refl;
  watches = refl;
  steps = refl;
  asks = all_mapped (group_sent (next_call c) lease) (group_sent_goes (next_call c) lease) c.asks;
  seat = λ h. h;
  writes = λ h. h;
})
sent_works now c u (ToOpen o) h = by_opening (record { opening = o; leasing = h.0; due = h.1; outcome = refl; core = refl })
sent_works now c u (ForStream s) h = absurd h

pub work_sends : (now : ℕ) (c : Core) → once (ask_tickets c.asks) ≡ true → c.watches.streams ≡ [] → is_some (first_job c) ≡ true → Works now c (on_work now c)
unfolding on_work
work_sends now c u none h = by (first_job c) (first_can c none) h
  where
    by : (o : Option DueJob) → CanIf c o → is_some o ≡ true → Works now c (sent_by now o c)
    by None k t = absurd (cc)
    by (Some j) k t = sent_works now c u j k
