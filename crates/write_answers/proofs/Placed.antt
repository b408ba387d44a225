-- What stands once what was read of an answer is taken is what the definition leaves, with the release in place.
use Rattle.std.proofs.Common.{◌≡◌, ℕ, Bool, true, false, cond, ◌==◌, List, [], ◌∷◌, map, Option, None, Some, Result, Err, refl, sym, ◌∙◌, ap, subst}
use Rattle.etcd_types.specs.declared.answer.Answer.{Answer}
use Rattle.etcd_types.specs.declared.record.Header.{Header}
use Rattle.known_asks.specs.Changes.{stage_or, staged_by}
use Rattle.lease_txn.specs.declared.not_shape.NotShape.{NotShape}
use Rattle.lease_txn.specs.declared.not_shape.NotShape.TheVariants.{Shape, NoMemory}
use Rattle.proxy_model.specs.Keyed.{at}
use Rattle.read_core.specs.Falls.{again_stage}
use Rattle.core_laws.specs.PlainReads.InPlace.{placed_by}
use Rattle.core_laws.proofs.PlainReads.InPlace.{answers_in_place}
use Rattle.read_model.specs.declared.asked.Asked.{Asked}
use Rattle.read_model.specs.declared.asked.Stage.{Stage}
use Rattle.read_model.specs.declared.asked.Stage.TheVariants as stage
use Rattle.read_model.specs.declared.asked.Verdict.{Verdict}
use Rattle.read_model.specs.declared.asked.Verdict.TheVariants as verdict
use Rattle.read_model.specs.Fits.{ReadsOk}
use Rattle.read_model.specs.PlainRead.{ask_key, in_stage, read_turn}
use Rattle.read_model.specs.Release.{ask_stands, in_place}
use Rattle.read_model.specs.State.{Reads, Moment, Ground}
use Rattle.read_model.specs.WriteAnswers.{settled_ask, wait_answered}
use Rattle.revoke_core.specs.declared.answers.ReadAnswer.{ReadAnswer}
use Rattle.revoke_core.specs.Readings.{IsRead, taken}
use Rattle.wait_model.specs.Endings.{answered}
use Rattle.wait_model.specs.GuardedAnswers.{Ending}
use Rattle.wait_model.specs.declared.wait.Settled.{Settled}
use Rattle.wait_model.specs.declared.wait.Settled.TheVariants as settled
use Rattle.write_answers.specs.declared.steps.When.{When}
use Rattle.write_answers.specs.Answered.{parts, moment, after_asks, Leaves}

-- One request.

abbrev stage_on : Header → Ground → Asked → Option Stage
stage_on h g = again_stage h g.own.waits.step g.own.entries g.acquires

again_one : (h : Header) (g : Ground) (a : Asked) → in_place true h g a ≡ staged_by (stage_on h g) a
again_one h g a = of (ask_stands g a) (read_turn h g.own.waits.step (at g.own.entries (ask_key a)) false None).stage
  where
    of : (b : Bool) (s : Stage) → cond b a (in_stage s a) ≡ stage_or (cond b None (Some s)) a
    of true s = refl
    of false s = refl

-- its reply is written over
replied_one : (h : Header) (g : Ground) (a : Asked) (ticket : ℕ) (v : Verdict) (o : Option Stage) → in_place true h g a ≡ stage_or o a → in_place true h g (cond (a.ticket == ticket) (in_stage (stage.Replied v) a) a) ≡ cond ((stage_or o a).ticket == ticket) (in_stage (stage.Replied v) (stage_or o a)) (stage_or o a)
replied_one h g a ticket v None e = of (a.ticket == ticket)
  where
    of : (b : Bool) → in_place true h g (cond b (in_stage (stage.Replied v) a) a) ≡ cond b (in_stage (stage.Replied v) a) a
    of true = refl
    of false = e
replied_one h g a ticket v (Some s) e = of (a.ticket == ticket)
  where
    of : (b : Bool) → in_place true h g (cond b (in_stage (stage.Replied v) a) a) ≡ cond b (in_stage (stage.Replied v) a) (in_stage s a)
    of true = refl
    of false = e

settled_one : (h : Header) (g : Ground) (x : Settled) (a : Asked) → in_place true h g (settled_ask x a) ≡ settled_ask x (staged_by (stage_on h g) a)
settled_one h g (settled.Reply ticket y) a = replied_one h g a ticket (verdict.Said y) (stage_on h g a) (again_one h g a)
settled_one h g (settled.Failed ticket) a = replied_one h g a ticket verdict.Lost (stage_on h g a) (again_one h g a)
settled_one h g settled.Nothing a = again_one h g a

-- All.

settled_all : (h : Header) (g : Ground) (x : Settled) (xs : List Asked) → map (in_place true h g) (map (settled_ask x) xs) ≡ map (settled_ask x) (map (staged_by (stage_on h g)) xs)
settled_all h g x [] = refl
settled_all h g x (a ∷ xs) = λ i. settled_one h g x a i ∷ settled_all h g x xs i

-- what is left where it is taken
abbrev left_by : When → ℕ → ReadAnswer → Reads → Reads
left_by w call read r =
    let x = taken call read w.session w.now r.own in
    parts x.own.entries x.own.waits r.acquires (after_asks w call read r)

left_is : (created : Bool) (w : When) (call : ℕ) (read : ReadAnswer) (r : Reads) → w.step ≡ r.own.waits.step → placed_by (moment created w) (Some (taken call read w.session w.now r.own)) r ≡ Some (left_by w call read r)
left_is created w call read r e =
    let x = taken call read w.session w.now r.own in
    let g : Ground = record { own = x.own; acquires = r.acquires } in
    let all : map (in_place true w.header g) (map (settled_ask x.settled) r.asks) ≡ after_asks w call read r =
    settled_all w.header g x.settled r.asks ∙ ap (λ (n : ℕ). map (settled_ask x.settled) (map (staged_by (again_stage w.header n x.own.entries r.acquires)) r.asks)) (sym e) in
    ap (λ xs. Some (parts x.own.entries x.own.waits r.acquires xs)) all

pub taken_leaves : (created : Bool) (w : When) (call : ℕ) (a : Answer) (read : ReadAnswer) (r next : Reads) → w.step ≡ r.own.waits.step → answered call a w.session w.now r.own ≡ Some (taken call read w.session w.now r.own) → left_by w call read r ≡ next → placed_by (moment created w) (answered call a w.session w.now r.own) r ≡ Some next
taken_leaves created w call a read r next e f l =
    ap (λ (x : Option Ending). placed_by (moment created w) x r) f ∙ left_is created w call read r e ∙ ap (λ (x : Reads). Some x) l

pub unread_leaves : (m : Moment) (fault : NotShape) (does : ReadAnswer → Ending) (x : Option Ending) (r : Reads) → IsRead (Err fault) does x → Leaves (Err fault) r (placed_by m x r)
unread_leaves m Shape does x r h = ap (λ (y : Option Ending). placed_by m y r) h
unread_leaves m NoMemory does x r h = tt

-- The definition, where reads and entries fit.

pub placed_answers : (result : Result (Unit {0}) NotShape) (standing : Bool) (m : Moment) (call : ℕ) (a : Answer) (r next : Reads) → ReadsOk standing r → Leaves result next (placed_by m (answered call a m.session m.now r.own) r) → Leaves result next (wait_answered m call a r)
placed_answers result standing m call a r next o h = subst (λ (x : Option Reads). Leaves result next x) (sym (answers_in_place standing m call a r o)) h
