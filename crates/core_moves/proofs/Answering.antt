-- A call is answered.
use Rattle.std.proofs.Common.{◌≡◌, ◌≢◌, ℕ, Bool, true, false, cond, List, Option, None, Some, refl, sym, ◌∙◌, subst}
use Rattle.etcd_types.specs.declared.answer.Answer.{Answer}
use Rattle.etcd_types.specs.declared.answer.Answer.TheVariants as answer
use Rattle.etcd_types.specs.declared.answer.Reply.{Reply}
use Rattle.core_model.specs.declared.out_call.CallKind.{CallKind}
use Rattle.core_model.specs.declared.out_call.OutCall.{OutCall}
use Rattle.core_model.specs.declared.out_call.OutJob.{OutJob}
use Rattle.core_model.specs.declared.out_call.OutJob.TheVariants as job
use Rattle.core_model.specs.Ends.{with_caller, member_failed, stale_once, said, answered_job, ask_answered, ask_done, group_answered, is_stale_reply, is_keepalive}
use Rattle.read_model.specs.declared.asked.Verdict.TheVariants as verdict
use Rattle.core_model.specs.Groups.{groups_ended}
use Rattle.core_model.specs.Kinds.{is_body_of}
use Rattle.core_model.specs.State.{Seat, Core}
use Rattle.cache_laws.specs.Moves.View.{View}
use Rattle.cache_laws.specs.Moves.Invariant.{Inv}
use Rattle.call_laws.specs.Forms.{Form, Acquires, Grants, Keeps, IsFormed, Tells}
use Rattle.core_moves.specs.Answers.{form_of_job, HasAnswer, SeatCalls, Hears, MovesIf, AnswersMove}
use Rattle.core_moves.specs.Losses.{AwaitsIt}
use Rattle.core_moves.specs.Sees.{ground_in, Sees, Moves}
use Rattle.core_moves.proofs.Clocks.{stays_so}
use Rattle.core_moves.specs.Terms.{HasNumber}
use Rattle.core_moves.proofs.Terms.{seat_is_live}
use Rattle.core_moves.proofs.Granting.{grant_moves, keep_moves}
use Rattle.core_moves.proofs.Acquiring.{acquire_moves}
use Rattle.core_moves.proofs.Settling.{wait_moves}

has_number : (s : Option Seat) (o : OutCall) → SeatCalls s o → HasNumber s
has_number None o c = tt
has_number (Some s) o c = c.0

-- a client's call changes requests and the current member alone
ask_moves : (holder : ℕ → ℕ) (v : View) (p now : ℕ) (own : ℕ → ℕ) (k : CallKind) (o : OutCall) (a : Answer) (c : Core) → Sees v p now own c → Inv holder v → MovesIf holder v p now own (ask_answered k o a c)
ask_moves holder v p now own k o (answer.Refused r) c s h = stays_so holder v p now own (with_caller o.call (said (answer.Refused r)) c) (record { clock = s.clock; term = s.term; row = s.row }) h
ask_moves holder v p now own k o (answer.Done reply) c s h = by (is_body_of k reply.body)
  where
    by_stale : (b : Bool) → Moves holder v p now own (cond b (with_caller o.call (stale_once c.members.count c.own.waits.step) (member_failed o c)) (with_caller o.call (said (answer.Done reply)) c))
    by_stale true = stays_so holder v p now own (with_caller o.call (stale_once c.members.count c.own.waits.step) (member_failed o c)) (record { clock = s.clock; term = s.term; row = s.row }) h
    by_stale false = stays_so holder v p now own (with_caller o.call (said (answer.Done reply)) c) (record { clock = s.clock; term = s.term; row = s.row }) h

    by : (b : Bool) → MovesIf holder v p now own (cond b (Some (ask_done k o reply c)) None)
    by true = by_stale (is_stale_reply k o reply)
    by false = tt

group_moves : (holder : ℕ → ℕ) (v : View) (p now : ℕ) (own : ℕ → ℕ) (o : OutCall) (lease : ℕ) (a : Answer) (c : Core) → Sees v p now own c → Inv holder v → MovesIf holder v p now own (group_answered o lease a c)
group_moves holder v p now own o lease a c s h = by (is_keepalive a)
  where
    d : Core
    d = record c { asks = groups_ended c.own.waits.step o.call lease (verdict.Said a) c.asks }

    by : (b : Bool) → MovesIf holder v p now own (cond b (Some d) None)
    by true = stays_so holder v p now own d (record { clock = s.clock; term = s.term; row = s.row }) h
    by false = tt

pub answers_move : AnswersMove
answers_move holder v p now own o a form c q formed has s h = by o.job refl formed q.awaits
  where
    i : ℕ
    i = own o.call

    by : (j : OutJob) → o.job ≡ j → form_of_job c o.call form j → AwaitsIt c.acquires o.call j → MovesIf holder v p now own (answered_job now o j a c)
    by (job.Grant n) e f w =
        grant_moves holder v p now own o c.own.waits.prefix c s h n c.settings.ttl a e q.ground q.seat (subst (λ (x : Form). IsFormed c.own.waits.prefix x (v.calls i)) f has.formed) has.at
        (subst (λ (x : Form). Tells c.own.waits.prefix x (v.outcomes i) a) f has.tells)
    by (job.Keep n) e f w =
        keep_moves holder v p now own o c.own.waits.prefix c s h n a e q.seat q.live (subst (λ (x : Form). IsFormed c.own.waits.prefix x (v.calls i)) f has.formed) has.at
        (subst (λ (x : Form). Tells c.own.waits.prefix x (v.outcomes i) a) f has.tells)
    by (job.Acquire k) e f w =
        let x = f w.acquire w.stands in
        acquire_moves holder v p now own o.call k c w.acquire _ q.ground (seat_is_live v p now own c (has_number c.seat o q.seat) s) w.stands w.out has.some has.done (subst (λ (y : Form). IsFormed c.own.waits.prefix y (v.calls i)) x has.formed) s h a
        (subst (λ (y : Form). Tells c.own.waits.prefix y (v.outcomes i) a) x has.tells)
    by job.Wait e f w =
        wait_moves holder v p now own o.call a form _ c q.ground (seat_is_live v p now own c (has_number c.seat o q.seat) s) q.proper q.written q.covered f has.some has.done has.tells s h
    by (job.Ask kind) e f w = ask_moves holder v p now own kind o a c s h
    by (job.Group lease) e f w = group_moves holder v p now own o lease a c s h
