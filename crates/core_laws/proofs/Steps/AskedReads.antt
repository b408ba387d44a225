-- A plain read at its own step.
use Rattle.std.proofs.Common.{◌≡◌, ℕ, Bool, cond, List, [], ◌∷◌, ◌++◌, Option, Some, ◌∙◌, ap}
use Rattle.etcd_types.specs.declared.answer.Refusal.{Refusal}
use Rattle.etcd_types.specs.declared.operation.RangeAsk.{RangeAsk}
use Rattle.etcd_types.specs.declared.request.Request.TheVariants as request
use Rattle.etcd_types.proofs.KeyOrder.{same-itself}
use Rattle.proxy_model.specs.Keyed.{at}
use Rattle.proxy_model.proofs.KeyedLaws.{at-with_at}
use Rattle.wait_model.specs.declared.sending.Sending.TheVariants as sending
use Rattle.read_model.specs.declared.acquire.Acquire.{Acquire}
use Rattle.read_model.specs.declared.asked.Asked.{Asked}
use Rattle.read_model.specs.PlainRead.{Decision, begun_under, in_stage}
use Rattle.read_model.specs.State.{Moment, ground_of, on}
use Rattle.core_laws.proofs.PlainReads.Waiting.{held_decision, free_decision}
use Rattle.core_model.specs.Asking.{asked_at, read_by, read_is_asked, write_is_asked, call_is_asked, held_body, if_live, answered_or_called, leased_ask, refused_or_taken, if_unknown, on_ask}
use Rattle.core_model.specs.Kinds.{writes_keys}
use Rattle.core_model.specs.Lookups.{moment, reads_of, with_reads}
use Rattle.core_model.specs.Refusals.{refusal_of}
use Rattle.core_model.specs.State.{Core}
use Rattle.core_model.specs.Stepped.{Stepped}
use Rattle.core_laws.specs.Steps.Laws.{IsLeasedRead, HeldReadIsReplied, AcquirableReadAcquires}

-- it goes by its key
reaches : (c : Core) (now ticket word : ℕ) (ask : RangeAsk) → IsLeasedRead c ticket ask → on_ask now ticket (request.Range ask) word c ≡ read_is_asked (moment c now) (asked_at now ticket (request.Range ask) word) c
unfolding on_ask
reaches c now ticket word ask h =
    let q = request.Range ask in
    let m = moment c now in
    let a = asked_at now ticket q word in
    let other = cond (writes_keys q) (write_is_asked a c) (answered_or_called (if_live m.session (held_body c.own.entries q)) a c) in
    ap (λ (b : Bool). if_unknown b ticket c (refused_or_taken (refusal_of c.own.waits.prefix q) m a c)) h.unknown
    ∙ ap (λ (r : Option Refusal). refused_or_taken r m a c) h.served
    ∙ ap (λ (b : Bool). cond b (leased_ask m a c) (call_is_asked a c)) h.leasing
    ∙ ap (λ (b : Bool). cond b (read_is_asked m a c) other) h.plain

-- what stands by its decision
decided_by : (c : Core) (m : Moment) (a : Asked) → List ℕ → Decision → Stepped
decided_by c m a k d =
    read_by d.stage c (with_reads c (on (begun_under a.ticket k d.under (ground_of (reads_of c))) (c.asks ++ in_stage d.stage a ∷ [])))

pub held_read_is_replied : HeldReadIsReplied
unfolding decided_by
held_read_is_replied c now ticket word ask e h q p =
    let m = moment c now in
    let a = asked_at now ticket (request.Range ask) word in
    reaches c now ticket word ask h ∙ ap (decided_by c m a ask.range.key) (held_decision m (ground_of (reads_of c)) ask.range.key e q p)

pub acquirable_read_acquires : AcquirableReadAcquires
unfolding decided_by
acquirable_read_acquires c now ticket word ask n h e f u =
    let m = moment c now in
    let a = asked_at now ticket (request.Range ask) word in
    let k = ask.range.key in
    let x : Acquire = record { ticket = ticket; session = n; sending = sending.Due c.own.waits.step } in
    ap (λ (s : Stepped). at s.core.acquires k) (reaches c now ticket word ask h ∙ ap (decided_by c m a k) (free_decision m (ground_of (reads_of c)) k n e f u))
    ∙ at-with_at c.acquires k k (Some x)
    ∙ ap (λ b. cond b (Some x) (at c.acquires k)) (same-itself k)
