-- What a step of a proxy did to its streams and watches, by its event and its outcome.
use Rattle.std.proofs.Common.{◌≡◌, ◌⊎◌, inl, inr, ℕ, true, List, [], Some, Result, Ok, refl, ap, sym, subst, ◌∙◌}
use Rattle.etcd_types.specs.declared.answer.Answer.{Answer}
use Rattle.etcd_types.specs.declared.request.Request.{Request}
use Rattle.etcd_types.specs.declared.request.Request.TheVariants as request
use Rattle.etcd_types.specs.declared.request.WatchAsk.{WatchAsk}
use Rattle.etcd_types.specs.declared.watch.WatchItem.{WatchItem}
use Rattle.proxy_model.specs.Prefixes.{under}
use Rattle.watch_model.specs.declared.stream.StreamPhase.{StreamPhase}
use Rattle.watch_model.specs.declared.stream.StreamPhase.TheVariants as phase
use Rattle.watch_model.specs.Due.{begun, sent}
use Rattle.watch_model.specs.Lookups.{stream_at, with_stream, without_stream, is_closing, numbered}
use Rattle.watch_model.specs.State.{Stream}
use Rattle.core_model.specs.declared.event.CoreEvent.TheVariants as event
use Rattle.core_model.specs.declared.event.Job.TheVariants as job
use Rattle.core_model.specs.declared.event.Outcome.{Outcome}
use Rattle.core_model.specs.declared.event.Outcome.TheVariants as outcome
use Rattle.core_model.specs.declared.event.StepFault.{StepFault}
use Rattle.core_model.specs.Watching.{stream_job, with_watches}
use Rattle.held_laws.proofs.Streams.{found_is}
use Rattle.core_laws.proofs.Watches.Touches.{Side, is_plain, Touch, leaves, hears, ticks, took, opens_leasing, sends}

-- the streams and the watches are as they were
abbrev pub Same : Side → Side → Type 0
Same a d = (d.broadcasts.streams ≡ a.broadcasts.streams) × (d.broadcasts.watches ≡ a.broadcasts.watches)

pub tick_same : (namespace : List ℕ) (a d : Side) (word : ℕ) (o : Result Outcome StepFault) → Touch namespace a (event.Tick word) d o → Same a d
tick_same namespace a _ word _ (leaves e o p) = (refl, refl)
tick_same namespace a _ word _ (ticks word') = (refl, refl)

pub answer_same : (namespace : List ℕ) (a d : Side) (call : ℕ) (x : Answer) (o : Result Outcome StepFault) → Touch namespace a (event.Answer call x) d o → Same a d
answer_same namespace a _ call _ _ (leaves e o p) = (refl, refl)
answer_same namespace a _ call _ _ (hears call' reply o p) = (refl, refl)

pub lost_same : (namespace : List ℕ) (a d : Side) (call : ℕ) (o : Result Outcome StepFault) → Touch namespace a (event.Lost call) d o → Same a d
lost_same namespace a _ call _ (leaves e o p) = (refl, refl)

pub pending_same : (namespace : List ℕ) (a d : Side) (ticket : ℕ) (o : Outcome) → ((i : WatchItem) → o ≡ outcome.Item i → ⊥) → Touch namespace a (event.Take ticket) d (Ok o) → Same a d
pending_same namespace a _ ticket _ n (leaves e o p) = (refl, refl)
pending_same namespace a _ ticket _ n (took ticket' w i is f q) = absurd (n i refl)

-- ---- jobs

pub call_same : (namespace : List ℕ) (a d : Side) (own member ticket : ℕ) (q : Request) (o : Result Outcome StepFault) → o ≡ Ok (outcome.Job (Some (job.Call own member ticket q))) → Touch namespace a event.Work d o → Same a d
call_same namespace a _ own member ticket q _ e (leaves w o p) = (refl, refl)
call_same namespace a _ own member ticket q _ e (opens_leasing number m r l) = absurd (cc)
call_same namespace a _ own member ticket q _ e (sends c u m is f) = by u.phase refl e
  where
    by : (p : StreamPhase) → u.phase ≡ p → (stream_job (sent c.watches u p).1 (with_watches c (sent c.watches u p).0)).outcome ≡ Ok (outcome.Job (Some (job.Call own member ticket q)))
        → Same a (record a { broadcasts = (sent a.broadcasts u p).0 })
    by (phase.Closing since) e g = absurd (cc)
    by phase.Begun e g = (refl, refl)
    by (phase.Due since) e g = absurd (cc)

-- a stream was begun
pub record Begins (namespace : List ℕ) (a d : Side) (own : ℕ) (ask : WatchAsk) : Type 0 where
  pub stream : Stream
  pub since : ℕ
  pub due : stream.phase ≡ phase.Due since
  pub number : stream.number ≡ own
  pub found : stream_at stream.number a.broadcasts.streams ≡ Some stream
  pub streams : d.broadcasts.streams ≡ with_stream stream.number begun a.broadcasts.streams
  pub watches : d.broadcasts.watches ≡ a.broadcasts.watches
  pub range : ask.range ≡ under namespace stream.stream.range
  pub start : ask.start ≡ stream.stream.next

begin_is : (n m k l : ℕ) (a b : WatchAsk) → ◌≡◌ {A = Result Outcome StepFault} (Ok (outcome.Job (Some (job.Begin n m (request.Watch a))))) (Ok (outcome.Job (Some (job.Begin k l (request.Watch b))))) → (n ≡ k) × (a ≡ b)
begin_is n m k l a b e = (cc, cc)

pub begin_so : (namespace : List ℕ) (a d : Side) (own member : ℕ) (ask : WatchAsk) (o : Result Outcome StepFault) → o ≡ Ok (outcome.Job (Some (job.Begin own member (request.Watch ask)))) → numbered 0 a.broadcasts.given a.broadcasts.streams ≡ true
    → Touch namespace a event.Work d o → Begins namespace a d own ask ⊎ (a.leasing ≡ Some own) × Same a d
begin_so namespace a _ own member ask _ e n (leaves w o p) = absurd (let no : is_plain event.Work (Ok (outcome.Job (Some (job.Begin own member (request.Watch ask))))) ≡ true = subst (λ (x : Result Outcome StepFault). is_plain event.Work x ≡ true) e p in cc)
begin_so namespace a _ own member ask _ e n (opens_leasing number m q l) = inr (l ∙ ap (λ (k : ℕ). Some k) number_is, (refl, refl))
  where
    number_is : number ≡ own
    number_is = cc
begin_so namespace a _ own member ask _ e n (sends c u m is f) = by u.phase refl e
  where
    by : (p : StreamPhase) → u.phase ≡ p → (stream_job (sent c.watches u p).1 (with_watches c (sent c.watches u p).0)).outcome ≡ Ok (outcome.Job (Some (job.Begin own member (request.Watch ask))))
        → Begins namespace a (record a { broadcasts = (sent a.broadcasts u p).0 }) own ask ⊎ (a.leasing ≡ Some own) × Same a (record a { broadcasts = (sent a.broadcasts u p).0 })
    by (phase.Closing since) e g = absurd (cc)
    by phase.Begun e g = absurd (cc)
    by (phase.Due since) e g =
        let same = begin_is _ _ _ _ _ _ g in
        inl (record {
          stream = u;
          since = since;
          due = e;
          number = same.0;
          found = found_is a u n f;
          streams = refl;
          watches = refl;
          range = sym (ap (λ (x : WatchAsk). x.range) same.1) ∙ ap (λ (n : List ℕ). under n u.stream.range) m;
          start = sym (ap (λ (x : WatchAsk). x.start) same.1);
        })

-- a stream was closed
pub record Closes (a d : Side) : Type 0 where
  pub stream : Stream
  pub closing : is_closing stream.phase ≡ true
  pub found : stream_at stream.number a.broadcasts.streams ≡ Some stream
  pub streams : d.broadcasts.streams ≡ without_stream stream.number a.broadcasts.streams
  pub watches : d.broadcasts.watches ≡ a.broadcasts.watches

pub close_so : (namespace : List ℕ) (a d : Side) (own : ℕ) (o : Result Outcome StepFault) → o ≡ Ok (outcome.Job (Some (job.Close own))) → numbered 0 a.broadcasts.given a.broadcasts.streams ≡ true → Touch namespace a event.Work d o → Closes a d
close_so namespace a _ own _ e n (leaves w o p) = absurd (let no : is_plain event.Work (Ok (outcome.Job (Some (job.Close own)))) ≡ true = subst (λ (x : Result Outcome StepFault). is_plain event.Work x ≡ true) e p in cc)
close_so namespace a _ own _ e n (opens_leasing number m q l) = absurd (cc)
close_so namespace a _ own _ e n (sends c u m is f) = by u.phase refl e
  where
    by : (p : StreamPhase) → u.phase ≡ p → (stream_job (sent c.watches u p).1 (with_watches c (sent c.watches u p).0)).outcome ≡ Ok (outcome.Job (Some (job.Close own))) → Closes a (record a { broadcasts = (sent a.broadcasts u p).0 })
    by (phase.Closing since) e g = record { stream = u; closing = ap is_closing e; found = found_is a u n f; streams = refl; watches = refl }
    by phase.Begun e g = absurd (cc)
    by (phase.Due since) e g = absurd (cc)
