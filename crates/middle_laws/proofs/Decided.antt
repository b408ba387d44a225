-- The ground on which waiting reads are decided again in the middle of a step: the view comes to see it by turns of the proxy's rows, and
-- so what is held there is what the store has.
use Rattle.std.proofs.Common.{◌≡◌, ◌≢◌, ℕ, Bool, true, false, not, ◌&&◌, cond, List, Option, None, Some, is_some, refl, sym, ◌∙◌, ap, subst}
use Rattle.etcd_types.specs.declared.answer.Answer.{Answer}
use Rattle.etcd_types.specs.declared.answer.Answer.TheVariants.{Done, Refused}
use Rattle.etcd_types.specs.Keys.{same}
use Rattle.etcd_types.proofs.Bools.{and_first}
use Rattle.etcd_types.proofs.KeyOrder.{same-equal}
use Rattle.proxy_model.specs.declared.lease.Entry.{Entry}
use Rattle.proxy_model.specs.declared.lease.Phase.TheVariants.{Held}
use Rattle.proxy_model.specs.declared.ownership.Claim.TheVariants.{Acquired}
use Rattle.proxy_model.specs.Acquire.{claimed}
use Rattle.proxy_model.specs.Keyed.{Keyed, at, with_at}
use Rattle.proxy_model.proofs.KeyedLaws.{at-with_at}
use Rattle.wait_model.specs.Asked.{is_spoiled}
use Rattle.wait_model.specs.Endings.{answered}
use Rattle.wait_model.specs.GuardedAnswers.{Ending}
use Rattle.wait_model.specs.Phases.{is_session}
use Rattle.wait_model.specs.State.{Ownership}
use Rattle.read_model.specs.declared.acquire.Acquire.{Acquire}
use Rattle.read_model.specs.Acquires.{won, acquire_gone, with_entry}
use Rattle.read_model.specs.Fits.{is_owned}
use Rattle.read_model.specs.State.{Ground}
use Rattle.core_laws.proofs.PlainReads.Owned.{CalmIf, answered_calm}
use Rattle.core_model.specs.declared.event.CoreEvent.{CoreEvent}
use Rattle.core_model.specs.declared.event.CoreEvent.TheVariants as event
use Rattle.core_model.specs.declared.out_call.OutCall.{OutCall}
use Rattle.core_model.specs.declared.out_call.OutJob.{OutJob}
use Rattle.core_model.specs.declared.out_call.OutJob.TheVariants as job
use Rattle.core_model.specs.declared.settings.Settings.{Settings}
use Rattle.core_model.specs.ClockWork.{clock_work}
use Rattle.core_model.specs.Heard.{heard}
use Rattle.core_model.specs.Lookups.{live_number, out_at}
use Rattle.core_model.specs.State.{Core}
use Rattle.core_laws.specs.Steps.Kept.{HeardBytes, IsHeard}
use Rattle.core_laws.proofs.Steps.Agreeing.{to_written}
use Rattle.core_laws.proofs.Steps.Calls.{found_is}
use Rattle.core_fits.proofs.Prefix.{clock_prefix}
use Rattle.core_laws.specs.Writes.Written.{ShowsBytes}
use Rattle.owner_fits.proofs.Hearing.{still_heard}
use Rattle.cache_laws.specs.Moves.View.{View, live}
use Rattle.row_laws.specs.Laws.{Rows, Won, is_held_then, with_own}
use Rattle.row_laws.proofs.Wins.{wins_turn}
use Rattle.cache_laws.specs.Store.StoreView.{is_client}
use Rattle.cache_laws.specs.Store.ToldAnswers.{TellsClaim}
use Rattle.call_laws.specs.Forms.{Form, Acquires, IsFormed, Tells}
use Rattle.core_moves.specs.Answers.{form_of_job}
use Rattle.core_moves.specs.Losses.{AwaitsIt}
use Rattle.core_moves.specs.Sees.{ground_in, Moves}
use Rattle.core_moves.proofs.Settling.{RowsIf, settled_rows}
use Rattle.event_moves.specs.Events.{HasEvent, IsAnswered}
use Rattle.event_moves.proofs.Behind.{IsBehind}
use Rattle.event_moves.proofs.Ends.{awaits_it, covered}
use Rattle.reply_laws.specs.Sources.{Hears, hearing, Wins, Settles, wins, settles}
use Rattle.reply_laws.proofs.Before.{clock_leaves}
use Rattle.middle_laws.specs.Seen.{IsSeen, HoldsTrue}
use Rattle.middle_laws.specs.Laws.{DecidedRecordsAreTrue}
use Rattle.middle_laws.proofs.Grounds.{turned_same, is_live_in, held_owned, ownable_client}
use Rattle.middle_laws.proofs.Clocked.{clocked, behind, session_lives, event_had, records_stay, owned_lives, owned_client}

-- What the answer meets, as far as the ground goes, is what the clock work left.

hearing_own : (now call : ℕ) (a : Answer) (c : Core) → (hearing now call a c).own ≡ (clock_work now c).own
hearing_own now call (Done reply) c = refl
hearing_own now call (Refused r) c = refl

hearing_acquires : (now call : ℕ) (a : Answer) (c : Core) → (hearing now call a c).acquires ≡ (clock_work now c).acquires
hearing_acquires now call (Done reply) c = refl
hearing_acquires now call (Refused r) c = refl

hearing_seat : (now call : ℕ) (a : Answer) (c : Core) → (hearing now call a c).seat ≡ (clock_work now c).seat
hearing_seat now call (Done reply) c = refl
hearing_seat now call (Refused r) c = refl

-- the session that an acquire is under is there
some_session : (o : Option ℕ) (n : ℕ) → is_session o n ≡ true → is_some o ≡ true
some_session None n t = absurd (cc)
some_session (Some m) n t = refl

both_held : (a b : Bool) → cond a (cond b false true) false ≡ a && not b
both_held true true = refl
both_held true false = refl
both_held false b = refl

same_acquire : (x y : Acquire) → Some x ≡ Some y → x ≡ y
same_acquire x y e = cc

calm_of : (own : Ownership) (o : Option Ending) (x : Ending) → o ≡ Some x → CalmIf own o → CalmIf own (Some x)
calm_of own o x e h = subst (CalmIf own) e h

module _ (holder : ℕ → ℕ) (v : View) (p now : ℕ) (own : ℕ → ℕ) (c : Core) (e : CoreEvent) (s : IsSeen holder v p now own c e) where
  abbrev m : Moves holder v p now own (clock_work now c)
  m = clocked holder v p now own c e s

  abbrev r : IsBehind now (clock_work now c)
  r = behind holder v p now own c e s

  -- What the view has of the answer that is heard.

  module _ (o : OutCall) (a : Answer) (h : Hears c e o a) where
    its_out : out_at o.call (clock_work now c).out ≡ Some o
    its_out = ap (λ (os : List OutCall). out_at o.call os) (clock_leaves now c).out ∙ h.out

    is_heard : heard (clock_work now c).settings.namespace h.answer ≡ Some a
    is_heard = ap (λ (t : Settings). heard t.namespace h.answer) (clock_leaves now c).settings ∙ h.heard

    has : IsAnswered m.after own (clock_work now c) o a
    has =
        let of_event : HasEvent holder m.after p own (clock_work now c) (event.Answer o.call h.answer) = subst (HasEvent holder m.after p own (clock_work now c)) h.event (event_had holder v p now own c e s) in
        of_event o a its_out is_heard

    bytes : ShowsBytes a
    bytes =
        let of_event : IsHeard (clock_work now c) (event.Answer o.call h.answer) = subst (IsHeard (clock_work now c)) h.event (still_heard now e c s.heard) in
        subst HeardBytes is_heard of_event

    awaits : AwaitsIt (clock_work now c).acquires o.call o.job
    awaits =
        let found = found_is o.call o (clock_work now c).out its_out in
        awaits_it _ _ (clock_work now c).acquires (clock_work now c).out o.call o.job r.owners.acquires found.job

    formed : (j : OutJob) → o.job ≡ j → form_of_job (clock_work now c) o.call has.form j
    formed j f = subst (form_of_job (clock_work now c) o.call has.form) f has.suits

  -- A write's, a revoke call's or a rescind's.

  module _ (o : OutCall) (g : Ground) (t : Settles c e now o g) where
    settles_as : answered o.call t.heard (live_number (clock_work now c).seat now) now (clock_work now c).own ≡ Some t.ending
    settles_as = (λ i. answered o.call t.heard (live_number (sym (hearing_seat now o.call t.hears.answer c) i) now) now (sym (hearing_own now o.call t.hears.answer c) i)) ∙ t.answered

    rows : Rows m.after p own (ground_in (clock_work now c)) (with_own (ground_in (clock_work now c)) t.ending.own)
    rows =
        let d = clock_work now c in
        let a = has o t.heard t.hears in
        let ranges = to_written d.own.waits.writes r.ok.agrees.writes.ranges in
        subst (RowsIf m.after p own (ground_in d)) settles_as
        (settled_rows m.after p own (live_number d.seat now) now o.call t.heard a.form d (session_lives holder v p now own c e s) r.ok.reads.ground.marks r.ok.reads.ground.keys r.ok.agrees.writes.proper ranges
        (covered d.own o.call t.heard ranges (bytes o t.heard t.hears)) (formed o t.heard t.hears job.Wait t.job) a.has.some a.has.done a.has.tells)

    -- what is held then was owned before
    was_owned : (k : List ℕ) → is_owned (at t.ending.own.entries k) ≡ true → is_owned (at (clock_work now c).own.entries k) ≡ true
    was_owned k = (calm_of (clock_work now c).own _ t.ending settles_as (answered_calm o.call t.heard (live_number (clock_work now c).seat now) now (clock_work now c).own)).owns k

    settled_true : HoldsTrue v c.own.waits.prefix g
    settled_true k x f h =
        let f' : at t.ending.own.entries k ≡ Some x = ap (λ (y : Ground). at y.own.entries k) (sym t.ground) ∙ f in
        let before = was_owned k (held_owned (at t.ending.own.entries k) x f' h) in
        record {
          same = records_stay holder v p now own c e s k x.kv (turned_same holder m.after p own (ground_in (clock_work now c)) (with_own (ground_in (clock_work now c)) t.ending.own) m.inv m.sees.row rows (owned_lives holder v p now own c e s k before) k x f' h);
          client = owned_client holder v p now own c e s k before;
        }

  -- An acquire that succeeded.

  module _ (o : OutCall) (g : Ground) (t : Wins c e now o g) where
    stands : at (clock_work now c).acquires t.key ≡ Some t.acquire
    stands = ap (λ (xs : Keyed Acquire). at xs t.key) (sym (hearing_acquires now o.call t.hears.answer c)) ∙ t.stands

    to_be_held : is_session (live_number (clock_work now c).seat now) t.acquire.session && not (is_spoiled t.key (clock_work now c).own) ≡ true
    to_be_held = (λ i. is_session (live_number (sym (hearing_seat now o.call t.hears.answer c) i) now) t.acquire.session && not (is_spoiled t.key (sym (hearing_own now o.call t.hears.answer c) i))) ∙ t.held

    claims : claimed (clock_work now c).own.waits.prefix t.key t.reply ≡ Some (Acquired t.create t.kv)
    claims = ap (λ (w : Ownership). claimed w.waits.prefix t.key t.reply) (sym (hearing_own now o.call t.hears.answer c)) ∙ t.claimed

    abbrev taken : Ground
    taken = with_entry t.key (Some (won true t.create t.kv)) (acquire_gone t.key (ground_in (clock_work now c)))

    entries_are : g.own.entries ≡ taken.own.entries
    entries_are =
        ap (λ (y : Ground). y.own.entries) t.ground
        ∙ ap (λ (w : Ownership). with_at w.entries t.key (Some (won true t.create t.kv))) (hearing_own now o.call t.hears.answer c)

    its_form : (has o (Done t.reply) t.hears).form ≡ Acquires t.key t.acquire.session
    its_form = formed o (Done t.reply) t.hears (job.Acquire t.key) t.job t.acquire stands

    has_won : Won m.after p (own o.call) t.acquire.session t.key t.create t.kv
    has_won =
        let d = clock_work now c in
        let a = (has o (Done t.reply) t.hears).has in
        let told : TellsClaim (m.after.outcomes (own o.call)) t.key (claimed d.own.waits.prefix t.key t.reply) = subst (λ (y : Form). Tells d.own.waits.prefix y (m.after.outcomes (own o.call)) (Done t.reply)) its_form a.tells in
        let t' : TellsClaim (m.after.outcomes (own o.call)) t.key (Some (Acquired t.create t.kv)) = subst (TellsClaim (m.after.outcomes (own o.call)) t.key) claims told in
        let f : IsFormed d.own.waits.prefix (Acquires t.key t.acquire.session) (m.after.calls (own o.call)) = subst (λ (y : Form). IsFormed d.own.waits.prefix y (m.after.calls (own o.call))) its_form a.formed in
        record { some = a.some; done = a.done; ok = t'.0; created = sym t'.1; same = sym t'.2; under = f.1.session }

    won_rows : Rows m.after p own (ground_in (clock_work now c)) taken
    won_rows =
        let d = clock_work now c in
        let q = subst (λ (j : OutJob). AwaitsIt d.acquires o.call j) t.job (awaits o (Done t.reply) t.hears) in
        let same = same_acquire q.acquire t.acquire (sym q.stands ∙ stands) in
        let held : is_held_then (live_number d.seat now) t.acquire t.key (ground_in d) ≡ true = both_held (is_session (live_number d.seat now) t.acquire.session) (is_spoiled t.key d.own) ∙ to_be_held in
        subst (λ (b : Bool). Rows m.after p own (ground_in d) (with_entry t.key (Some (won b t.create t.kv)) (acquire_gone t.key (ground_in d)))) held
        (wins_turn m.after p own (live_number d.seat now) t.key o.call t.create t.kv t.acquire (ground_in d) (session_lives holder v p now own c e s) r.ok.reads.ground.marks r.ok.reads.ground.keys stands
        (ap (λ (y : Acquire). y.sending) (sym same) ∙ q.out) has_won)

    lives : live m.after p ≢ 0
    lives = is_live_in m.after p (live_number (clock_work now c).seat now) (session_lives holder v p now own c e s) (some_session _ t.acquire.session (and_first _ _ to_be_held))

    -- the key that was acquired may be owned, and the others were owned before
    clients : (k : List ℕ) (x : Entry) → at taken.own.entries k ≡ Some x → x.phase ≡ Held → is_client c.own.waits.prefix k ≡ true
    clients k x f h = by (same t.key k) refl (sym (at-with_at (clock_work now c).own.entries t.key k (Some (won true t.create t.kv))) ∙ f)
      where
        by : (b : Bool) → same t.key k ≡ b → cond b (Some (won true t.create t.kv)) (at (clock_work now c).own.entries k) ≡ Some x → is_client c.own.waits.prefix k ≡ true
        by true is f = subst (λ (j : List ℕ). is_client c.own.waits.prefix j ≡ true) (same-equal t.key k is) (subst (λ (y : List ℕ). is_client y t.key ≡ true) (clock_prefix now c) (ownable_client _ t.key (r.owners.acquires.acquired t.key t.acquire stands)))
        by false is f = owned_client holder v p now own c e s k (held_owned (at (clock_work now c).own.entries k) x f h)

    won_true : HoldsTrue v c.own.waits.prefix g
    won_true k x f h =
        let f' : at taken.own.entries k ≡ Some x = ap (λ (es : Keyed Entry). at es k) (sym entries_are) ∙ f in
        record {
          same = records_stay holder v p now own c e s k x.kv (turned_same holder m.after p own (ground_in (clock_work now c)) taken m.inv m.sees.row won_rows lives k x f' h);
          client = clients k x f' h;
        }

pub decided_records_are_true : DecidedRecordsAreTrue
decided_records_are_true holder v p now own c e g s (wins o t) = won_true holder v p now own c e s o g t
decided_records_are_true holder v p now own c e g s (settles o t) = settled_true holder v p now own c e s o g t
