-- The requests that a proxy knows, by their tickets: a ticket comes with its asking alone, and is gone with its reply.
use Rattle.std.proofs.Common.{◌≡◌, ℕ, ◌+◌, ◌==◌, Bool, true, false, not, cond, List, [], ◌∷◌, Option, None, Some, Result, Ok, Err, refl, sym, subst}
use Rattle.etcd_types.specs.declared.answer.Answer.{Answer}
use Rattle.etcd_types.specs.declared.answer.Body.{Body}
use Rattle.etcd_types.specs.declared.answer.Refusal.{Refusal}
use Rattle.etcd_types.specs.declared.request.Request.{Request}
use Rattle.etcd_types.specs.declared.request.Request.TheVariants as request
use Rattle.etcd_types.specs.declared.watch.WatchItem.{WatchItem}
use Rattle.core_laws.proofs.Steps.Comes.{by_test}
use Rattle.core_laws.proofs.Steps.Lists.{same_number}
use Rattle.core_model.specs.declared.event.CoreEvent.{CoreEvent}
use Rattle.core_model.specs.declared.event.CoreEvent.TheVariants as event
use Rattle.core_model.specs.declared.event.Outcome.{Outcome}
use Rattle.core_model.specs.declared.event.Outcome.TheVariants as outcome
use Rattle.core_model.specs.declared.event.StepFault.{StepFault}
use Rattle.core_model.specs.declared.event.StepFault.TheVariants as fault
use Rattle.core_model.specs.Asking.{asked_at, is_leased_read, read_by, read_is_asked, write_is_asked, held_body, if_live, call_is_asked, answered_or_called, leased_ask, taken_in, request_asked, refused_or_taken, on_ask}
use Rattle.core_model.specs.ClockWork.{clock_work}
use Rattle.core_model.specs.Fits.{CoreOk}
use Rattle.core_model.specs.Kinds.{writes_keys}
use Rattle.core_model.specs.Lookups.{leases, moment, reads_of, with_reads, ask_at, without_ask, is_known}
use Rattle.core_model.specs.Refusals.{refusal_of}
use Rattle.core_model.specs.State.{Core}
use Rattle.core_model.specs.Step.{happened, is_worn, stepped}
use Rattle.core_model.specs.Stepped.{Stepped, faults, counted, counted_by}
use Rattle.core_model.specs.Takes.{item_taken, taken, taken_from, on_take}
use Rattle.core_model.specs.Watching.{taken_item}
use Rattle.keep_laws.proofs.Rows.{All, stays, hushes, Lasts}
use Rattle.keep_laws.proofs.Runs.{found}
use Rattle.keep_laws.proofs.Steps.{Turns, clock_all, stepped_all}
use Rattle.read_model.specs.declared.asked.Asked.{Asked}
use Rattle.read_model.specs.declared.asked.Stage.{Stage}
use Rattle.read_model.specs.declared.asked.Stage.TheVariants as stage
use Rattle.read_model.specs.Acquires.{read_asked}
use Rattle.read_model.specs.PlainRead.{decided_ask}
use Rattle.read_model.specs.State.{Moment, ground_of}
use Rattle.watch_model.specs.Lookups.{watch_at}
use Rattle.watch_model.specs.State.{Watch, Broadcasts}
use Rattle.watch_model.specs.Takes as watches

-- of the tickets of all of them
abbrev pub Each : (ℕ → Type 0) → Core → Type 0
Each P c = All (λ a. P a.ticket) c.asks

-- none has this ticket
abbrev pub NotIn : ℕ → Core → Type 0
NotIn t c = Each (λ n. (n == t) ≡ false) c

pub ticket_lasts : (P : ℕ → Type 0) → Lasts (λ a. P a.ticket)
ticket_lasts P x _ (stays e) h = subst (λ (a : Asked). P a.ticket) (sym e) h
ticket_lasts P x y (hushes t q g) h = subst P (sym t) h

ticket_turns : (P : ℕ → Type 0) → Turns (λ a. P a.ticket) (λ a. P a.ticket)
ticket_turns P = record { turns = λ x h. h; lasts = ticket_lasts P }

-- what an event asks has it
abbrev pub NewSo : (ℕ → Type 0) → CoreEvent → Type 0
NewSo P (event.Ask ticket q word) = P ticket
NewSo P _ = Unit {0}

-- of each step
pub each_stepped : (P : ℕ → Type 0) (c : Core) (e : CoreEvent) (now : ℕ) → CoreOk c → NewSo P e → Each P c → Each P (stepped c e now).core
each_stepped P c (event.Ask ticket q word) now ok n h = stepped_all (λ a. P a.ticket) (λ a. P a.ticket) (ticket_lasts P) (ticket_turns P) (event.Ask ticket q word) now c ok (λ w y t r s. subst P (sym t) n) h
each_stepped P c (event.Answer call a) now ok n h = stepped_all (λ a. P a.ticket) (λ a. P a.ticket) (ticket_lasts P) (ticket_turns P) (event.Answer call a) now c ok (λ w x reply e b s p. p) h
each_stepped P c (event.Lost call) now ok n h = stepped_all (λ a. P a.ticket) (λ a. P a.ticket) (ticket_lasts P) (ticket_turns P) (event.Lost call) now c ok (λ w. tt) h
each_stepped P c (event.Tick word) now ok n h = stepped_all (λ a. P a.ticket) (λ a. P a.ticket) (ticket_lasts P) (ticket_turns P) (event.Tick word) now c ok (λ w. tt) h
each_stepped P c (event.Item number x) now ok n h = stepped_all (λ a. P a.ticket) (λ a. P a.ticket) (ticket_lasts P) (ticket_turns P) (event.Item number x) now c ok (λ w. tt) h
each_stepped P c (event.Cut number) now ok n h = stepped_all (λ a. P a.ticket) (λ a. P a.ticket) (ticket_lasts P) (ticket_turns P) (event.Cut number) now c ok (λ w. tt) h
each_stepped P c (event.Take ticket) now ok n h = stepped_all (λ a. P a.ticket) (λ a. P a.ticket) (ticket_lasts P) (ticket_turns P) (event.Take ticket) now c ok (λ w. tt) h
each_stepped P c (event.Leave ticket) now ok n h = stepped_all (λ a. P a.ticket) (λ a. P a.ticket) (ticket_lasts P) (ticket_turns P) (event.Leave ticket) now c ok (λ w. tt) h
each_stepped P c event.Work now ok n h = stepped_all (λ a. P a.ticket) (λ a. P a.ticket) (ticket_lasts P) (ticket_turns P) event.Work now c ok (λ w x own member ticket lease e k p. p) h

-- ---- a reply is taken

abbrev IsReply : Result Outcome StepFault → Type 0
IsReply (Ok (outcome.Replied a)) = Unit {0}
IsReply _ = ⊥

-- of a step that gave a reply
abbrev IfReplied : (Core → Type 0) → Stepped → Type 0
IfReplied Q s = IsReply s.outcome → Q s.core

counted_so : (Q : Core → Type 0) → ((c : Core) (n : ℕ) → Q c → Q (record c { steps = n })) → (s : Stepped) → IfReplied Q s → IfReplied Q (counted s)
counted_so Q k s h = by s.outcome h
  where
    by : (o : Result Outcome StepFault) → (IsReply o → Q s.core) → IfReplied Q (counted_by s.core o)
    by (Ok o) h = λ r. k s.core (s.core.steps + 1) (h r)
    by (Err f) h = λ r. absurd r

stepped_so : (Q : Core → Type 0) → ((c : Core) (n : ℕ) → Q c → Q (record c { steps = n })) → (c : Core) (e : CoreEvent) (now : ℕ) → IfReplied Q (happened now e (clock_work now c)) → IfReplied Q (stepped c e now)
unfolding stepped
stepped_so Q k c e now h = by_test (IfReplied Q) (is_worn c) (faults c fault.Worn) (counted (happened now e (clock_work now c))) (λ w r. absurd r) (λ w. counted_so Q k (happened now e (clock_work now c)) h)

without_it : (t : ℕ) (xs : List Asked) → All (λ a. (a.ticket == t) ≡ false) (without_ask t xs)
without_it t [] = tt
without_it t (x ∷ xs) = by (x.ticket == t) refl (without_it t xs)
  where
    by : (b : Bool) → (x.ticket == t) ≡ b → All (λ a. (a.ticket == t) ≡ false) (without_ask t xs) → All (λ a. (a.ticket == t) ≡ false) (cond (not b) (x ∷ without_ask t xs) (without_ask t xs))
    by true e h = h
    by false e h = (e, h)

-- it was the reply of a request that was known, and is known no more
pub record Taken (P : ℕ → Type 0) (t : ℕ) (d : Core) : Type 0 where
  pub known : P t
  pub gone : NotIn t d

reply_taken : (P : ℕ → Type 0) (t : ℕ) (d : Core) → Each P d → IfReplied (Taken P t) (on_take t d)
unfolding on_take
reply_taken P t d h = by (ask_at t d.asks) refl
  where
    by_pair : (x : Broadcasts × Option WatchItem) → IfReplied (Taken P t) (taken_item d x)
    by_pair (b, None) = λ r. absurd r
    by_pair (b, Some x) = λ r. absurd r

    by_watch : (w : Option Watch) → IfReplied (Taken P t) (item_taken t w d)
    by_watch None = λ r. absurd r
    by_watch (Some w) = by_pair (watches.taken_from d.watches d.header w w.queue)

    by_stage : (s : Stage) (a : Asked) → ask_at t d.asks ≡ Some a → IfReplied (Taken P t) (taken_from t s d)
    by_stage (stage.Replied v) a e = λ r.
        let k = found (λ (x : Asked). P x.ticket) t d.asks a e h in
        record { known = subst P (same_number a.ticket t k.1) k.0; gone = without_it t d.asks }
    by_stage (stage.Calling s) a e = λ r. absurd r
    by_stage stage.Acquiring a e = λ r. absurd r
    by_stage stage.Joined a e = λ r. absurd r
    by_stage stage.Behind a e = λ r. absurd r
    by_stage stage.Writes a e = λ r. absurd r
    by_stage (stage.Grouped s) a e = λ r. absurd r

    by : (o : Option Asked) → ask_at t d.asks ≡ o → IfReplied (Taken P t) (taken t o d)
    by None e = by_watch (watch_at t d.watches.watches)
    by (Some a) e = by_stage a.stage a e

replied_so : (r : Result Outcome StepFault) (a : Answer) → r ≡ Ok (outcome.Replied a) → IsReply r
replied_so r a e = subst IsReply (sym e) tt

pub take_replies : (P : ℕ → Type 0) (c : Core) (t now : ℕ) (a : Answer) → Each P c → (stepped c (event.Take t) now).outcome ≡ Ok (outcome.Replied a) → Taken P t (stepped c (event.Take t) now).core
take_replies P c t now a h e =
    stepped_so (Taken P t) (λ d n k. record { known = k.known; gone = k.gone }) c (event.Take t) now (reply_taken P t (clock_work now c) (clock_all (λ x. P x.ticket) (ticket_lasts P) now c h)) (replied_so (stepped c (event.Take t) now).outcome a e)

-- ---- a request is replied at once

-- what is replied at once is not kept
read_at_once : (t : ℕ) (m : Moment) (a : Asked) (d : Core) → NotIn t d → IfReplied (NotIn t) (read_is_asked m a d)
read_at_once t m a d h = by (decided_ask m (ground_of (reads_of d)) a).stage
  where
    by : (s : Stage) → IfReplied (NotIn t) (read_by s d (with_reads d (read_asked m a (reads_of d))))
    by (stage.Replied v) = λ r. h
    by (stage.Calling s) = λ r. absurd r
    by stage.Acquiring = λ r. absurd r
    by stage.Joined = λ r. absurd r
    by stage.Behind = λ r. absurd r
    by stage.Writes = λ r. absurd r
    by (stage.Grouped s) = λ r. absurd r

body_at_once : (t : ℕ) (o : Option Body) (a : Asked) (d : Core) → NotIn t d → IfReplied (NotIn t) (answered_or_called o a d)
body_at_once t None a d h = λ r. absurd r
body_at_once t (Some b) a d h = λ r. h

taken_at_once : (t : ℕ) (m : Moment) (a : Asked) (d : Core) → NotIn t d → IfReplied (NotIn t) (taken_in m a d)
taken_at_once t m a d h =
    let body = answered_or_called (if_live m.session (held_body d.own.entries a.request)) a d in
    by_test (IfReplied (NotIn t)) (leases d) (leased_ask m a d) (call_is_asked a d)
    (λ l. by_test (IfReplied (NotIn t)) (is_leased_read d.own.waits.prefix a.request) (read_is_asked m a d) (cond (writes_keys a.request) (write_is_asked a d) body)
    (λ e. read_at_once t m a d h)
    (λ e. by_test (IfReplied (NotIn t)) (writes_keys a.request) (write_is_asked a d) body (λ f r. absurd r) (λ f. body_at_once t (if_live m.session (held_body d.own.entries a.request)) a d h)))
    (λ l r. absurd r)

request_at_once : (t : ℕ) (q : Request) (m : Moment) (a : Asked) (d : Core) → NotIn t d → IfReplied (NotIn t) (request_asked q m a d)
request_at_once t (request.Watch ask) m a d h = λ r. absurd r
request_at_once t (request.Range ask) m a d h = taken_at_once t m a d h
request_at_once t (request.Put ask) m a d h = taken_at_once t m a d h
request_at_once t (request.Delete ask) m a d h = taken_at_once t m a d h
request_at_once t (request.Txn x) m a d h = taken_at_once t m a d h
request_at_once t (request.Compact revision physical) m a d h = taken_at_once t m a d h
request_at_once t (request.Grant ttl lease) m a d h = taken_at_once t m a d h
request_at_once t (request.Revoke lease) m a d h = taken_at_once t m a d h
request_at_once t (request.KeepAlive lease) m a d h = taken_at_once t m a d h
request_at_once t (request.TimeToLive lease keys) m a d h = taken_at_once t m a d h
request_at_once t request.Leases m a d h = taken_at_once t m a d h

ask_at_once : (t now ticket : ℕ) (q : Request) (word : ℕ) (d : Core) → NotIn t d → IfReplied (NotIn t) (on_ask now ticket q word d)
unfolding on_ask
ask_at_once t now ticket q word d h =
    by_test (IfReplied (NotIn t)) (is_known ticket d) (faults d (fault.TicketUsed ticket)) (refused_or_taken (refusal_of d.own.waits.prefix q) (moment d now) (asked_at now ticket q word) d)
    (λ k r. absurd r) (λ k. by (refusal_of d.own.waits.prefix q))
  where
    by : (o : Option Refusal) → IfReplied (NotIn t) (refused_or_taken o (moment d now) (asked_at now ticket q word) d)
    by None = request_at_once t q (moment d now) (asked_at now ticket q word) d h
    by (Some x) = λ r. h

pub ask_replies : (c : Core) (t now ticket : ℕ) (q : Request) (word : ℕ) (a : Answer) → NotIn t c → (stepped c (event.Ask ticket q word) now).outcome ≡ Ok (outcome.Replied a) → NotIn t (stepped c (event.Ask ticket q word) now).core
ask_replies c t now ticket q word a h e =
    stepped_so (NotIn t) (λ d n k. k) c (event.Ask ticket q word) now
    (ask_at_once t now ticket q word (clock_work now c) (clock_all (λ x. (x.ticket == t) ≡ false) (ticket_lasts (λ n. (n == t) ≡ false)) now c h)) (replied_so (stepped c (event.Ask ticket q word) now).outcome a e)
