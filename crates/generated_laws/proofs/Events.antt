-- How sends, answers, messages and takes leave a proxy of a generated script.
use Rattle.std.proofs.Common.{◌≡◌, ℕ, ◌+◌, ◌≤◌, ◌==◌, true, false, not, cond, List, [], ◌∷◌, ◌++◌, length, Option, None, Some, is_some, Result, Ok, Err, refl, sym, ◌∙◌, ap, subst, arith}
use Rattle.std.proofs.lemmas.Bool.Decides.{nat_tests}
use Rattle.std.specs.List.{list_all}
use Rattle.etcd_types.specs.declared.answer.Answer.{Answer}
use Rattle.etcd_types.specs.declared.request.Request.{Request}
use Rattle.etcd_types.specs.declared.watch.WatchItem.{WatchItem}
use Rattle.etcd_types.specs.declared.watch.WatchItem.TheVariants as item
use Rattle.proxy_model.specs.Unwrapped.{Unwrapped, item_without}
use Rattle.proxy_model.specs.Upstream.{Upstream, created, advance}
use Rattle.proxy_model.specs.Wrapped.{request_under}
use Rattle.read_model.specs.declared.asked.Asked.{Asked}
use Rattle.read_model.specs.declared.asked.Stage.{Stage}
use Rattle.read_model.specs.declared.asked.Stage.TheVariants as stage
use Rattle.watch_model.specs.Lookups.{watch_at}
use Rattle.watch_model.specs.State.{Watch, Broadcasts}
use Rattle.core_model.specs.declared.event.CoreEvent.{CoreEvent}
use Rattle.core_model.specs.declared.event.CoreEvent.TheVariants as event
use Rattle.core_model.specs.declared.event.Job.TheVariants as sent
use Rattle.core_model.specs.declared.event.Outcome.{Outcome}
use Rattle.core_model.specs.declared.event.Outcome.TheVariants as outcome
use Rattle.core_model.specs.declared.event.StepFault.{StepFault}
use Rattle.core_model.specs.declared.event.StepFault.TheVariants as fault
use Rattle.core_model.specs.declared.out_call.OutCall.{OutCall}
use Rattle.core_model.specs.declared.settings.Settings.{Settings}
use Rattle.core_model.specs.ClockWork.{writes_go_on, clock_work}
use Rattle.core_model.specs.DueJobs.{has_job}
use Rattle.core_model.specs.Ends.{call_gone, answered_call, answer_of, on_answer}
use Rattle.core_model.specs.Heard.{heard, header_taken}
use Rattle.core_model.specs.LeasingStream.{opening_of, due_anew, leasing_cut, stream_is, own_created, leasing_created, leasing_cancelled, told_revision, is_readable, leasing_told, leasing_message, message_if_sent, item_header, leasing_item, watch_of, opening_sent}
use Rattle.core_model.specs.LeasingStream as leasing
use Rattle.wait_model.specs.Notices.{all_noticed}
use Rattle.core_model.specs.Lookups.{live_number, ask_at, without_ask, out_at, without_out}
use Rattle.core_model.specs.State.{Opening, Core}
use Rattle.core_model.specs.Step.{opening_at, item_of, on_item, happened, is_worn, stepped}
use Rattle.core_model.specs.Stepped.{Stepped, gives, faults, counted}
use Rattle.core_model.specs.Takes.{item_taken, taken_from, taken, on_take}
use Rattle.generated_laws.specs.OnTime.{is_in_time}
use Rattle.generated_laws.proofs.Clock.{clock_stays, job_stays}
use Rattle.generated_laws.proofs.Ending.{Lives, IsEarly, GrantsIf, call_answered_leaves}
use Rattle.generated_laws.proofs.Requests.{as_many, in_time_all, few_on, few_filtered, one_fewer}
use Rattle.generated_laws.proofs.Stepping.{more_stands, clock_leaves, clock_stands, IsSmall, not_worn, counted_stands, Step, step_of}
use Rattle.core_laws.proofs.Steps.Lists.{all_filtered}
use Rattle.core_laws.proofs.Steps.Comes.{by_test, passed_goes}
use Rattle.generated_laws.proofs.Working.{AsksFor, CallSent, StreamOpened, Works, by_call, by_opening, work_sends}
use Rattle.generated_laws.specs.Proxies.{AreFew, IsFresh, Rests, Stands}

-- ---- what is due is sent

-- a call, which is the only one that is out then
pub record CallOut (now next most : ℕ) (c : Core) : Type 0 where
  pub core : Core
  pub call : OutCall
  pub ticket : ℕ
  pub request : Request
  pub step : Step now next most (call ∷ []) c event.Work core (outcome.Job (Some (sent.Call call.call call.member ticket (request_under c.settings.namespace request))))
  pub sent : call.sent_at ≡ now
  pub asks_for : AsksFor call.job request
  pub leasing : core.leasing ≡ c.leasing

-- the opening of the leasing stream
pub record Begun (now next most : ℕ) (c : Core) : Type 0 where
  pub core : Core
  pub opening : Opening
  pub member : ℕ
  pub at : c.leasing ≡ Some opening
  pub due : is_some opening.due ≡ true
  pub step : Step now next most [] c event.Work core (outcome.Job (Some (sent.Begin opening.number member (request_under c.settings.namespace (watch_of opening.stream)))))
  pub leasing : core.leasing ≡ Some (opening_sent opening)

pub data Sends (now next most : ℕ) (c : Core) : Type 0 where
  a_call : CallOut now next most c → Sends now next most c
  an_opening : Begun now next most c → Sends now next most c

pub work_step : (now next most : ℕ) (c : Core) → IsSmall most → Stands now next most [] c → has_job c ≡ true → Sends now next (most + 1) c
work_step now next most c s h j = by (work_sends now d k.rests.asks.once k.rests.streams (job_stays c d (clock_stays now c h.on_time) j))
  where
    d : Core
    d = clock_work now c

    k : Stands now next most [] d
    k = clock_stands now next most [] c h.rests

    t : Stepped
    t = happened now event.Work d

    namespace_is : d.settings.namespace ≡ c.settings.namespace
    namespace_is = ap (λ (x : Settings). x.namespace) (clock_leaves now c).settings

    of_call : CallSent now d t → Sends now next (most + 1) c
    of_call x = a_call (record {
      core = record t.core { steps = t.core.steps + 1 };
      call = x.call;
      ticket = x.ticket;
      request = x.request;
      step = step_of now next most (x.call ∷ []) c event.Work _ (not_worn next most [] c s h.rests)
          (x.outcome ∙ ap (λ (n : List ℕ). Ok (outcome.Job (Some (sent.Call x.call.call x.call.member x.ticket (request_under n x.request))))) namespace_is)
          (record {
            rests = record {
              asks = few_on next d.asks t.core.asks x.asks k.rests.asks;
              out = x.out ∙ ap (λ (os : List OutCall). os ++ x.call ∷ []) k.rests.out;
              streams = ap (λ (b : Broadcasts). b.streams) x.watches ∙ k.rests.streams;
              watches = ap (λ (b : Broadcasts). b.watches) x.watches ∙ k.rests.watches;
              steps = (let a = x.steps in let n = as_many d.asks t.core.asks x.asks in let i = k.rests.steps in omega (arith, a, n, i));
              given = (let g = ap (λ (b : Broadcasts). b.given) x.watches in let i = k.rests.given in omega (arith, g, i));
              namespace = ap (λ (y : Settings). y.namespace) x.settings ∙ k.rests.namespace;
              fresh = subst IsFresh (sym x.leasing) k.rests.fresh;
            };
            on_time = record { session = x.seat k.on_time.session; asks = in_time_all now d.asks t.core.asks x.asks k.on_time.asks; writes = x.writes k.on_time.writes };
          });
      sent = x.sent;
      asks_for = x.asks_for;
      leasing = x.leasing ∙ (clock_leaves now c).leasing;
    })

    of_opening : StreamOpened d t → Sends now next (most + 1) c
    of_opening x = an_opening (record {
      core = record t.core { steps = t.core.steps + 1 };
      opening = x.opening;
      member = d.members.current;
      at = sym (clock_leaves now c).leasing ∙ x.leasing;
      due = x.due;
      step = step_of now next most [] c event.Work _ (not_worn next most [] c s h.rests)
          (x.outcome ∙ ap (λ (n : List ℕ). Ok (outcome.Job (Some (sent.Begin x.opening.number d.members.current (request_under n (watch_of x.opening.stream)))))) namespace_is)
          (subst (Stands now next most []) (sym x.core) (record {
            rests = record { asks = k.rests.asks; out = k.rests.out; streams = k.rests.streams; watches = k.rests.watches; steps = k.rests.steps; given = k.rests.given; namespace = k.rests.namespace; fresh = λ t. absurd (cc) };
            on_time = record { session = k.on_time.session; asks = k.on_time.asks; writes = k.on_time.writes };
          }));
      leasing = ap (λ (e : Core). e.leasing) x.core;
    })

    by : Works now d t → Sends now next (most + 1) c
    by (by_call x) = of_call x
    by (by_opening x) = of_opening x

-- ---- it is answered

itself : (n : ℕ) → (n == n) ≡ true
itself n = grind (arith, nat_tests)

only_out : (o : OutCall) (out : List OutCall) → out ≡ o ∷ [] → out_at o.call out ≡ Some o
only_out o out e = ap (out_at o.call) e ∙ ap (λ b. cond b (Some o) None) (itself o.call)

none_out : (o : OutCall) (out : List OutCall) → out ≡ o ∷ [] → without_out o.call out ≡ []
none_out o out e = ap (without_out o.call) e ∙ ap (λ b. cond (not b) (o ∷ []) []) (itself o.call)

pub record Answered (now next most : ℕ) (c : Core) (call : ℕ) (a : Answer) : Type 0 where
  pub core : Core
  pub step : Step now next most [] c (event.Answer call a) core outcome.Noted
  pub leasing : core.leasing ≡ c.leasing

-- of the one call that is out, and was sent at this reading
pub answer_step : (now next most : ℕ) (o : OutCall) (a : Answer) (c : Core) → IsSmall most → IsEarly now → o.sent_at ≡ now → GrantsIf o.job (heard c.settings.namespace a) → Rests next most (o ∷ []) c
    → Answered now next (most + 1) c o.call a
unfolding on_answer
answer_step now next most o a c s e t g h =
    let d = clock_work now c in
    let k = clock_stands now next most (o ∷ []) c h in
    let f = call_gone o.call d in
    let there : happened now (event.Answer o.call a) d ≡ answer_of now o.call a (Some o) d = ap (λ x. answer_of now o.call a x d) (only_out o d.out k.rests.out) in
    let x = writes_go_on (answered_call now o a f) in
    let l = call_answered_leaves now o a f e t (subst (λ (n : List ℕ). GrantsIf o.job (heard n a)) (sym (ap (λ (y : Settings). y.namespace) (clock_leaves now c).settings)) g) in
    let i = step_of now next most [] c (event.Answer o.call a) outcome.Noted (not_worn next most (o ∷ []) c s h) (ap (λ (y : Stepped). y.outcome) there)
    (subst (λ (y : Stepped). Stands now next most [] y.core) (sym there) (record {
      rests = record {
        asks = few_on next d.asks x.asks l.asks k.rests.asks;
        out = l.out ∙ none_out o d.out k.rests.out;
        streams = ap (λ (b : Broadcasts). b.streams) l.watches ∙ k.rests.streams;
        watches = ap (λ (b : Broadcasts). b.watches) l.watches ∙ k.rests.watches;
        steps = (let p = l.steps in let n = as_many d.asks x.asks l.asks in let j = k.rests.steps in omega (arith, p, n, j));
        given = (let p = ap (λ (b : Broadcasts). b.given) l.watches in let j = k.rests.given in omega (arith, p, j));
        namespace = ap (λ (y : Settings). y.namespace) l.settings ∙ k.rests.namespace;
        fresh = subst IsFresh (sym l.leasing) k.rests.fresh;
      };
      on_time = record { session = l.seat k.on_time.session; asks = in_time_all now d.asks x.asks l.asks k.on_time.asks; writes = passed_goes _ [] _ _ _ };
    })) in
    record {
      core = _;
      step = i;
      leasing = ap (λ (y : Stepped). y.core.leasing) there ∙ l.leasing ∙ (clock_leaves now c).leasing;
    }

-- ---- a message of the leasing stream comes

-- that it can be told by what stands of the stream
abbrev pub CanTell : Upstream → WatchItem → Type 0
CanTell u (item.Created h) = u.created ≡ false
CanTell u (item.Events h es) = is_readable u es ≡ true
CanTell u (item.Canceled h compaction) = Unit {0}

-- what stands of it behind the message
abbrev pub Tells : Opening → WatchItem → Option Opening → Type 0
Tells o (item.Created h) l = l ≡ Some (record o { stream = created o.stream h.revision })
Tells o (item.Events h es) l = l ≡ Some (record o { stream = advance o.stream (told_revision h es) })
Tells o (item.Canceled h compaction) l = Unit {0}

pub record Told (now next most : ℕ) (c : Core) (o : Opening) (x y : WatchItem) : Type 0 where
  pub core : Core
  pub step : Step now next most [] c (event.Item o.number x) core outcome.Noted
  pub leasing : Tells o y core.leasing

-- before waiting writes go on
record Hears (c d : Core) (o : Opening) (y : WatchItem) : Type 0 where
  settings : d.settings ≡ c.settings
  out : d.out ≡ c.out
  steps : d.steps ≡ c.steps
  asks : d.asks ≡ c.asks
  seat : d.seat ≡ c.seat
  streams : d.watches.streams ≡ c.watches.streams
  watches : d.watches.watches ≡ c.watches.watches
  given : d.watches.given ≤ c.watches.given + 1
  leasing : Tells o y d.leasing
  fresh : IsFresh d.leasing

one_more : (n : ℕ) → n ≤ n + 1
one_more n = omega (arith)

message_hears : (now : ℕ) (o : Opening) (y : WatchItem) (c : Core) → o.due ≡ None → CanTell o.stream y → Hears c (leasing_message now o y c) o y
message_hears now o (item.Created h) c n t =
    subst (λ b. Hears c (cond b c (record (stream_is o (created o.stream h.revision) c) { own = own_created o.stream.next c.own })) o (item.Created h)) (sym t)
    (record { settings = refl; out = refl; steps = refl; asks = refl; seat = refl; streams = refl; watches = refl; given = one_more c.watches.given; leasing = refl; fresh = λ d. absurd (let e : false ≡ true = sym (ap is_some n) ∙ d in cc) })
message_hears now o (item.Events h es) c n t =
    subst (λ b. Hears c (cond b (record (stream_is o (advance o.stream (told_revision h es)) c) { own = all_noticed (live_number c.seat now) es c.own }) (leasing_cut o c)) o (item.Events h es)) (sym t)
    (record { settings = refl; out = refl; steps = refl; asks = refl; seat = refl; streams = refl; watches = refl; given = one_more c.watches.given; leasing = refl; fresh = λ d. absurd (let e : false ≡ true = sym (ap is_some n) ∙ d in cc) })
message_hears now o (item.Canceled h compaction) c n t =
    by_test (λ (d : Core). Hears c d o (item.Canceled h compaction)) (compaction == 0) (leasing_cut o c) _
    (λ e. record { settings = refl; out = refl; steps = refl; asks = refl; seat = refl; streams = refl; watches = refl; given = same (c.watches.given + 1); leasing = tt; fresh = λ d. refl })
    (λ e. record { settings = refl; out = refl; steps = refl; asks = refl; seat = refl; streams = refl; watches = refl; given = same (c.watches.given + 1); leasing = tt; fresh = λ d. refl })
  where
    same : (n : ℕ) → n ≤ n
    same n = omega (arith)

item_hears : (now : ℕ) (o : Opening) (x y : WatchItem) (c : Core) → o.due ≡ None → item_without c.settings.namespace x ≡ Ok y → CanTell o.stream y → Hears c (leasing_item now o x c) o y
item_hears now o x y c n u t =
    let d = header_taken (item_header x) c in
    let k = message_hears now o y d n t in
    subst (λ (s : Option ℕ). Hears c (message_if_sent now o s x d) o y) (sym n)
    (subst (λ (v : Unwrapped WatchItem). Hears c (leasing.unwrapped_message now o v d) o y) (sym u)
    (record { settings = k.settings; out = k.out; steps = k.steps; asks = k.asks; seat = k.seat; streams = k.streams; watches = k.watches; given = k.given; leasing = k.leasing; fresh = k.fresh }))

the_leasing : (o : Opening) (l : Option Opening) → l ≡ Some o → opening_at o.number l ≡ Some o
the_leasing o l e = ap (opening_at o.number) e ∙ ap (λ b. cond b (Some o) None) (itself o.number)

pub item_step : (now next most : ℕ) (o : Opening) (x y : WatchItem) (c : Core) → IsSmall most → c.leasing ≡ Some o → o.due ≡ None → item_without c.settings.namespace x ≡ Ok y → CanTell o.stream y → Rests next most [] c
    → Told now next (most + 2) c o x y
unfolding on_item
item_step now next most o x y c s at n u t h =
    let d = clock_work now c in
    let k = clock_stands now next most [] c h in
    let l = clock_leaves now c in
    let there : happened now (event.Item o.number x) d ≡ item_of now o.number x (Some o) d = ap (λ z. item_of now o.number x z d) (the_leasing o d.leasing (l.leasing ∙ at)) in
    let e = writes_go_on (leasing_item now o x d) in
    let m = item_hears now o x y d n (ap (λ (z : Settings). item_without z.namespace x) l.settings ∙ u) t in
    let i = step_of now next (most + 1) [] c (event.Item o.number x) outcome.Noted (not_worn next most [] c s h) (ap (λ (z : Stepped). z.outcome) there)
    (subst (λ (z : Stepped). Stands now next (most + 1) [] z.core) (sym there) (record {
      rests = record {
        asks = subst (AreFew next) (sym m.asks) k.rests.asks;
        out = m.out ∙ k.rests.out;
        streams = m.streams ∙ k.rests.streams;
        watches = m.watches ∙ k.rests.watches;
        steps = (let p = m.steps in let q = ap length m.asks in let j = k.rests.steps in omega (arith, p, q, j));
        given = (let p = m.given in let j = k.rests.given in omega (arith, p, j));
        namespace = ap (λ (z : Settings). z.namespace) m.settings ∙ k.rests.namespace;
        fresh = m.fresh;
      };
      on_time = record { session = subst (Lives now) (sym m.seat) k.on_time.session; asks = subst (λ (xs : List Asked). list_all (is_in_time now) xs ≡ true) (sym m.asks) k.on_time.asks; writes = passed_goes _ [] _ _ _ };
    })) in
    record {
      core = _;
      step = record { step = i.step; stands = more_stands now next (most + 1 + 1) (most + 2) [] _ (omega (arith)) i.stands };
      leasing = subst (λ (z : Stepped). Tells o y z.core.leasing) (sym there) m.leasing;
    }

-- ---- a reply that stands ready is taken

-- a reply that is taken is one request less; whatever else comes of it is one step more
pub data Took (now next most : ℕ) (calls : List OutCall) (c : Core) (s : Stepped) : Type 0 where
  a_reply : (a : Answer) (d : Core) → s ≡ gives d (outcome.Replied a) → Stands now next most calls d → d.leasing ≡ c.leasing → Took now next most calls c s
  nothing : (d : Core) (o : Result Outcome StepFault) → ((a : Answer) → o ≡ Ok (outcome.Replied a) → ⊥) → s ≡ record { core = d; outcome = o } → Stands now next (most + 1) calls d → d.leasing ≡ c.leasing → Took now next most calls c s

counted_step : (c : Core) (e : CoreEvent) (now : ℕ) → is_worn c ≡ false → stepped c e now ≡ counted (happened now e (clock_work now c))
unfolding stepped
counted_step c e now n = ap (λ b. cond b (faults c fault.Worn) (counted (happened now e (clock_work now c)))) n

pub take_step : (now next most : ℕ) (out : List OutCall) (ticket : ℕ) (c : Core) → IsSmall most → Rests next most out c → Took now next most out c (stepped c (event.Take ticket) now)
unfolding on_take
take_step now next most out ticket c s h =
    subst (Took now next most out c) (sym (counted_step c (event.Take ticket) now (not_worn next most out c s h))) (by (ask_at ticket d.asks) refl)
  where
    d : Core
    d = clock_work now c

    k : Stands now next most out d
    k = clock_stands now next most out c h

    l : d.leasing ≡ c.leasing
    l = (clock_leaves now c).leasing

    none : watch_at ticket d.watches.watches ≡ None
    none = ap (watch_at ticket) k.rests.watches

    pending : Took now next most out c (counted (gives d outcome.Pending))
    pending = nothing (record d { steps = d.steps + 1 }) (Ok outcome.Pending) (λ a q. absurd (cc)) refl (counted_stands now next most out d k) l

    taken_off : (a : Asked) → ask_at ticket d.asks ≡ Some a → Stands now next most out (record d { asks = without_ask ticket d.asks; steps = d.steps + 1 })
    taken_off a e = record {
      rests = record {
        asks = few_filtered next _ d.asks k.rests.asks;
        out = k.rests.out;
        streams = k.rests.streams;
        watches = k.rests.watches;
        steps = (let f = one_fewer ticket d.asks a e in let g = k.rests.steps in omega (arith, f, g));
        given = k.rests.given;
        namespace = k.rests.namespace;
        fresh = k.rests.fresh;
      };
      on_time = record { session = k.on_time.session; asks = all_filtered (is_in_time now) _ d.asks k.on_time.asks; writes = k.on_time.writes };
    }

    by_stage : (a : Asked) → ask_at ticket d.asks ≡ Some a → (st : Stage) → Took now next most out c (counted (taken_from ticket st d))
    by_stage a e (stage.Replied v) = a_reply _ (record d { asks = without_ask ticket d.asks; steps = d.steps + 1 }) refl (taken_off a e) l
    by_stage a e (stage.Calling st) = pending
    by_stage a e stage.Acquiring = pending
    by_stage a e stage.Joined = pending
    by_stage a e stage.Behind = pending
    by_stage a e stage.Writes = pending
    by_stage a e (stage.Grouped st) = pending

    by : (o : Option Asked) → ask_at ticket d.asks ≡ o → Took now next most out c (counted (taken ticket o d))
    by None e = subst (λ (w : Option Watch). Took now next most out c (counted (item_taken ticket w d))) (sym none) (nothing d (Err (fault.NoSuchTicket ticket)) (λ a q. absurd (cc)) refl (more_stands now next most (most + 1) out d (one_more most) k) l)
    by (Some a) e = by_stage a e a.stage
