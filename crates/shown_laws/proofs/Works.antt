-- A step of a proxy that sends a call, its clock work before, as moves of the view.
use Rattle.std.proofs.Common.{◌≡◌, ℕ, ◌+◌, true, false, List, [], ◌∷◌, ◌++◌, Option, Some, Result, Ok, refl, sym, ◌∙◌, ap, subst}
use Rattle.etcd_types.specs.declared.request.Request.{Request}
use Rattle.proxy_model.specs.declared.session.Standing.{Standing}
use Rattle.proxy_model.specs.RequestRefusals.{is_session}
use Rattle.proxy_model.specs.Wrapped.{request_under}
use Rattle.core_model.specs.declared.event.CoreEvent.TheVariants as event
use Rattle.core_model.specs.declared.event.Job.TheVariants as sent
use Rattle.core_model.specs.declared.event.Outcome.{Outcome}
use Rattle.core_model.specs.declared.event.Outcome.TheVariants as outcome
use Rattle.core_model.specs.declared.event.StepFault.{StepFault}
use Rattle.core_model.specs.declared.out_call.OutCall.{OutCall}
use Rattle.core_model.specs.declared.out_call.OutJob.{OutJob}
use Rattle.core_model.specs.declared.out_call.OutJob.TheVariants as job
use Rattle.core_model.specs.ClockWork.{clock_work}
use Rattle.core_model.specs.Fits.{is_standing}
use Rattle.core_model.specs.Sending.{next_call, out_call, on_work}
use Rattle.core_model.specs.State.{Seat, Core}
use Rattle.core_model.specs.Step.{stepped}
use Rattle.core_model.specs.Stepped.{Stepped, counted_by, counted}
use Rattle.namespace_laws.specs.Stored.Laws.{request_lacks}
use Rattle.cache_laws.specs.Moves.View.{Term, Call, View, put}
use Rattle.cache_laws.specs.Moves.Invariant.{Inv}
use Rattle.call_laws.specs.Forms.{Form, asked_by, IsFormed}
use Rattle.core_moves.specs.Answers.{form_of_job}
use Rattle.core_moves.specs.Sees.{term_by, term_of, Sees, Alike, Moves}
use Rattle.core_moves.proofs.Clocks.{clocks_move}
use Rattle.step_moves.specs.Work.{call_in, with_call, SendsOut, WorkMoved, MaySend}
use Rattle.step_moves.proofs.Sessions.{not_zero}
use Rattle.step_moves.proofs.Working.{work_moves}
use Rattle.bridge_laws.specs.Shown.{GrantedBy}
use Rattle.turn_laws.proofs.Clocked.{not_worn}
use Rattle.turn_laws.proofs.Jobs.{is_step, gave}
use Rattle.shown_laws.proofs.Clock.{clock_leaves, clock_may}
use Rattle.shown_laws.proofs.Lacks.{lack_alike}
use Rattle.shown_laws.proofs.Sent.{IsAsked, IsSent, SendsIf, work_sends}

-- ---- what a step is that gave an outcome

counted_ok : (s : Stepped) (o : Outcome) → s.outcome ≡ Ok o → (counted s).core ≡ record s.core { steps = s.core.steps + 1 }
counted_ok s o e = ap (λ (r : Result Outcome StepFault). (counted_by s.core r).core) e

works_so : (c : Core) (now : ℕ) (o : Outcome) → (stepped c event.Work now).outcome ≡ Ok o → (stepped c event.Work now).core ≡ record (on_work now (clock_work now c)).core { steps = (on_work now (clock_work now c)).core.steps + 1 }
works_so c now o e = ap (λ (s : Stepped). s.core) (is_step c now o e) ∙ counted_ok (on_work now (clock_work now c)) o (gave c now o e)

-- ---- the call

-- it goes out of the proxy `c`, which is `d` then
pub record CallGoes (holder : ℕ → ℕ) (v : View) (p now : ℕ) (own : ℕ → ℕ) (c d : Core) (q : Request) : Type 0 where
  pub form : Form
  pub call : Call
  pub after : View
  pub asked : q ≡ request_under c.settings.namespace (asked_by c.own.waits.prefix form)
  pub keys : request_lacks (asked_by c.own.waits.prefix form) ≡ false
  pub formed : IsFormed c.own.waits.prefix form call
  pub by : call.proxy ≡ p
  pub at : call.at ≡ now
  pub granted : GrantedBy holder form p
  pub inv : Inv holder after
  pub sees : Sees after p now own d
  pub alike : Alike p (with_call v call) after
  -- it is out there
  pub there : OutCall
  pub out : d.out ≡ c.out ++ there ∷ []
  pub number : there.call ≡ next_call c
  pub sent_at : there.sent_at ≡ now
  pub suits : form_of_job d there.call form there.job
  pub leasing : d.leasing ≡ c.leasing

-- how often it was stepped isn't read
steps_suit : (d : Core) (n steps : ℕ) (form : Form) (j : OutJob) → form_of_job d n form j → form_of_job (record d { steps = steps }) n form j
steps_suit d n steps form (job.Grant number) h = h
steps_suit d n steps form (job.Keep number) h = h
steps_suit d n steps form (job.Acquire k) h = h
steps_suit d n steps form job.Wait h = h
steps_suit d n steps form (job.Ask kind) h = h
steps_suit d n steps form (job.Group lease) h = h

-- moves before the sending
alike_sent : (p : ℕ) (v u t : View) (call : Call) → Alike p v u → Alike p (with_call u call) t → Alike p (with_call v call) t
alike_sent p v u t call a b = record {
  rev = b.rev ∙ a.rev;
  made = b.made ∙ a.made;
  owners = b.owners ∙ a.owners;
  kvs = b.kvs ∙ a.kvs;
  told = b.told ∙ a.told;
  leases = b.leases ∙ a.leases;
  floors = b.floors ∙ a.floors;
  drawn = b.drawn ∙ a.drawn;
  sent = b.sent ∙ ap (λ (n : ℕ). n + 1) a.sent;
  calls = b.calls ∙ (λ i. put (a.calls i) (a.sent i + 1) call);
  outcomes = b.outcomes ∙ a.outcomes;
  clocks = b.clocks ∙ a.clocks;
  terms = λ q n. b.terms q n ∙ a.terms q n;
  slots = λ q n. b.slots q n ∙ a.slots q n;
}

module _ (holder : ℕ → ℕ) (v : View) (p now : ℕ) (own : ℕ → ℕ) (c : Core) (may : MaySend c) (number : own (next_call c) ≡ v.sent + 1) (s : Sees v p now own c) (h : Inv holder v) (call member ticket : ℕ) (q : Request) where
  abbrev given : Outcome
  given = outcome.Job (Some (sent.Call call member ticket q))

  abbrev k : Core
  k = clock_work now c

  abbrev e : Core
  e = (on_work now k).core

  m : Moves holder v p now own k
  m = clocks_move holder v p now own (is_standing c.seat) c may.ok.reads.ground s h

  next_number : own (next_call k) ≡ m.after.sent + 1
  next_number = ap (λ (n : ℕ). own (n + 1)) (clock_leaves now c).calls ∙ number ∙ sym (ap (λ (n : ℕ). n + 1) m.alike.sent)

  drawn_here : (n : ℕ) → is_session n ≡ true → IsAsked k n → holder n ≡ p
  drawn_here n t a =
      let is : (m.after.terms p).asked ≡ n =
      ap (λ (x : Term). x.asked) m.sees.term ∙ ap (λ (o : Option Seat). (term_of o).asked) a.stands ∙ ap (λ (o : Option Standing). (term_by a.seat.session.number o).asked) a.ungranted ∙ a.number_is in
      ap holder (sym is) ∙ ((m.inv.terms p).drew (λ z. not_zero n t (sym is ∙ z))).by

  goes : SendsOut holder m.after p now own k e q → IsSent k e q → CallGoes holder v p now own c (record e { steps = e.steps + 1 }) q
  goes x y =
      let l = clock_leaves now c in
      record {
        form = x.form;
        call = x.call;
        after = x.after;
        asked = x.asked ∙ (λ i. request_under (l.settings i).namespace (asked_by (l.prefix i) x.form));
        keys = ap (λ (prefix : List ℕ). request_lacks (asked_by prefix x.form)) (sym l.prefix) ∙ lack_alike k.settings.namespace (asked_by k.own.waits.prefix x.form) y.bare (sym x.asked ∙ y.under) ∙ y.keys;
        formed = subst (λ (prefix : List ℕ). IsFormed prefix x.form x.call) l.prefix x.formed;
        by = x.by;
        at = x.at;
        granted = λ ttl n i t. drawn_here n t (y.grants ttl n (x.asked ∙ ap (λ (f : Form). request_under k.settings.namespace (asked_by k.own.waits.prefix f)) i) t);
        inv = x.inv;
        sees = record { clock = x.sees.clock; term = x.sees.term; row = x.sees.row };
        alike = alike_sent p v m.after x.after x.call m.alike x.alike;
        there = out_call now x.job k;
        out = x.out ∙ ap (λ (xs : List OutCall). xs ++ out_call now x.job k ∷ []) l.out;
        number = ap (λ (n : ℕ). n + 1) l.calls;
        sent_at = refl;
        suits = steps_suit e (next_call k) (e.steps + 1) x.form x.job x.suits;
        leasing = y.leasing ∙ l.leasing;
      }

  pub call_goes : (stepped c event.Work now).outcome ≡ Ok given → CallGoes holder v p now own c (stepped c event.Work now).core q
  call_goes out =
      let r = clock_may now c (not_worn c event.Work now given out) may in
      let so = gave c now given out in
      let x : SendsOut holder m.after p now own k e q = subst (λ (o : Result Outcome StepFault). WorkMoved holder m.after p now own k e (call_in o)) so (work_moves holder m.after p now own k r next_number m.sees m.inv) in
      let y : IsSent k e q = subst (λ (o : Result Outcome StepFault). SendsIf k e (call_in o)) so (work_sends now k r) in
      subst (λ (d : Core). CallGoes holder v p now own c d q) (sym (works_so c now given out)) (goes x y)
