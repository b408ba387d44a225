-- What an answer names it names still once the clock work of its step is done: that sends no write, and changes the request of none.
use Rattle.std.proofs.Common.{◌≡◌, ℕ, Bool, true, false, not, cond, ◌&&◌, ◌||◌, List, [], ◌∷◌, map, Option, None, Some, refl, sym, ◌∙◌, ap, subst}
use Rattle.std.specs.List.{list_any, list_all}
use Rattle.etcd_types.specs.declared.answer.Answer.{Answer}
use Rattle.etcd_types.specs.declared.answer.Answer.TheVariants as answer
use Rattle.etcd_types.proofs.Bools.{and_first, and_second, and_both, or_first, or_second, not_true}
use Rattle.wait_model.specs.declared.write.Write.{Write}
use Rattle.wait_model.specs.Covers.{is_single}
use Rattle.wait_model.specs.Endings.{forgotten_by, forgotten}
use Rattle.wait_model.specs.SessionEnd.{write_ended}
use Rattle.wait_model.specs.State.{Ownership}
use Rattle.wait_model.specs.Writes.{first_by, sends, has_ticket}
use Rattle.core_laws.proofs.Writes.FoundWrite.{head_found, rest_found}
use Rattle.core_laws.proofs.Writes.Kept.{first_passes}
use Rattle.read_model.specs.declared.asked.Asked.{Asked}
use Rattle.read_model.specs.SessionEnd.{dropped, over, session_over}
use Rattle.read_model.specs.State.{Reads, Moment, ground_of, on}
use Rattle.read_model.specs.TakingOff.{is_writes, forgotten_all, falls, taken_off}
use Rattle.core_laws.proofs.PlainReads.InPlace.{plain_in_place}
use Rattle.core_model.specs.declared.event.CoreEvent.{CoreEvent}
use Rattle.core_model.specs.declared.event.CoreEvent.TheVariants as event
use Rattle.core_model.specs.ClockWork.{begun, times_out, timed_out_ask, requests_timed_out, clock_work}
use Rattle.core_model.specs.Fits.{Agrees}
use Rattle.core_model.specs.Heard.{heard}
use Rattle.core_model.specs.Lookups.{moment, reads_of}
use Rattle.core_model.specs.Sessions.{without_session, seat_is_over, deadline_passed}
use Rattle.core_model.specs.declared.settings.Settings.{Settings}
use Rattle.core_model.specs.Step.{opening_at}
use Rattle.proxy_model.specs.Unwrapped.{item_without}
use Rattle.core_model.specs.State.{Opening, Core}
use Rattle.core_laws.specs.Steps.Kept.{HeardBytes, IsHeard}
use Rattle.core_laws.proofs.Steps.Comes.{by_test, stage_ended_calms}
use Rattle.core_laws.proofs.Steps.Lists.{all_mapped, one, one_is}
use Rattle.core_laws.proofs.Steps.Prefixes.{session_over_same, taken_off_same}
use Rattle.owner_fits.specs.Names.{answer_named, AnswerNames, events_named, NamesOwners}
use Rattle.owner_fits.proofs.Going.{implies, implied, all_but}
use Rattle.owner_fits.proofs.Passing.{Rests, passes_rest}

-- A test of the first that passes another is one of all.

none_passes : (p q : Write → Bool) (ws : List Write) → list_any p ws ≡ false → list_all (λ w. not (p w) || q w) ws ≡ true
none_passes p q [] h = refl
none_passes p q (w ∷ ws) h = and_both (not (p w) || q w) (list_all (λ v. not (p v) || q v) ws) (ap (λ b. not b || q w) (or_first (p w) (list_any p ws) h)) (none_passes p q ws (or_second (p w) (list_any p ws) h))

all_by_first : (p q : Write → Bool) (ws : List Write) → one p ws ≡ true → ((w : Write) → first_by p ws ≡ Some w → q w ≡ true) → list_all (λ w. not (p w) || q w) ws ≡ true
all_by_first p q [] o f = refl
all_by_first p q (w ∷ ws) o f =
    elim (p w) as (λ b. p w ≡ b → cond b (not (list_any p ws)) (one p ws) ≡ true → list_all (λ v. not (p v) || q v) (w ∷ ws) ≡ true) [
      | true ↦ λ e t. and_both (not (p w) || q w) (list_all (λ v. not (p v) || q v) ws) (ap (λ b. not b || q w) e ∙ f w (ap (λ b. cond b (Some w) (first_by p ws)) e)) (none_passes p q ws (not_true (list_any p ws) t))
      | false ↦ λ e t. and_both (not (p w) || q w) (list_all (λ v. not (p v) || q v) ws) (ap (λ b. not b || q w) e) (all_by_first p q ws t (λ v g. f v (ap (λ b. cond b (Some w) (first_by p ws)) e ∙ g)))
    ] refl o

pub first_has : (p q : Write → Bool) (w : Write) (ws : List Write) → list_all q ws ≡ true → first_by p ws ≡ Some w → q w ≡ true
first_has p q w [] h f = absurd (cc)
first_has p q w (v ∷ vs) h f =
    elim (p v) as (λ b. p v ≡ b → q w ≡ true) [
      | true ↦ λ e. subst (λ (x : Write). q x ≡ true) (head_found p v w vs e f) (and_first (q v) (list_all q vs) h)
      | false ↦ λ e. first_has p q w vs (and_second (q v) (list_all q vs) h) (rest_found p v w vs e f)
    ] refl

-- Clock work.

over_own : (m : Moment) (r : Reads) → (session_over m r).own ≡ (over (ground_of r)).own
over_own m r = ap (λ (x : Reads). x.own) (plain_in_place m (on (over (ground_of r)) r.asks))

off_own : (m : Moment) (p : Asked → Bool) (xs : List Asked) (r : Reads) → (taken_off m p xs r).own ≡ (dropped (falls p r) (record { own = forgotten_all p r.asks r.own; acquires = r.acquires })).own
off_own m p xs r = ap (λ (x : Reads). x.own) (plain_in_place m (on (dropped (falls p r) (record { own = forgotten_all p r.asks r.own; acquires = r.acquires })) xs))

forgotten_all_but : (q : Write → Bool) (ticket : ℕ) (own : Ownership) → list_all q own.waits.writes ≡ true → list_all q (forgotten ticket own).waits.writes ≡ true
unfolding forgotten
forgotten_all_but q ticket own h = by (first_by (has_ticket ticket) own.waits.writes)
  where
    by : (o : Option Write) → list_all q (forgotten_by (has_ticket ticket) o own).waits.writes ≡ true
    by None = h
    by (Some w) = all_but q (has_ticket ticket) own.waits.writes h

each_forgotten : (q : Write → Bool) (p : Asked → Bool) (xs : List Asked) (own : Ownership) → list_all q own.waits.writes ≡ true → list_all q (forgotten_all p xs own).waits.writes ≡ true
each_forgotten q p [] own h = h
each_forgotten q p (a ∷ xs) own h =
    each_forgotten q p xs (cond (p a && is_writes a.stage) (forgotten a.ticket own) own)
    (by_test (λ (o : Ownership). list_all q o.waits.writes ≡ true) (p a && is_writes a.stage) (forgotten a.ticket own) own (λ t. forgotten_all_but q a.ticket own h) (λ t. h))

clock_writes : (q : Write → Bool) → Rests q → ((w : Write) → q w ≡ true → q (write_ended w) ≡ true) → (now : ℕ) (c : Core) → list_all q c.own.waits.writes ≡ true → list_all q (clock_work now c).own.waits.writes ≡ true
unfolding clock_work
clock_writes q r e now c h =
    let d = deadline_passed now (begun c) in
    let f = requests_timed_out now d in
    passes_rest q r f.own (times d (by_test (λ (x : Core). list_all q x.own.waits.writes ≡ true) (seat_is_over c.seat now) (without_session now (begun c)) (begun c) (λ t. over_writes (begun c) h) (λ t. h)))
  where
    over_writes : (c : Core) → list_all q c.own.waits.writes ≡ true → list_all q (without_session now c).own.waits.writes ≡ true
    over_writes c h = ap (λ (o : Ownership). list_all q o.waits.writes) (over_own (moment (record c { seat = None }) now) (reads_of c)) ∙ all_mapped q q write_ended e c.own.waits.writes h

    times : (d : Core) → list_all q d.own.waits.writes ≡ true → list_all q (requests_timed_out now d).own.waits.writes ≡ true
    times d h = ap (λ (o : Ownership). list_all q o.waits.writes) (off_own (moment d now) (times_out now) (map (timed_out_ask now) d.asks) (reads_of d)) ∙ each_forgotten q (times_out now) d.asks d.own h

pub clock_prefix : (now : ℕ) (c : Core) → (clock_work now c).own.waits.prefix ≡ c.own.waits.prefix
unfolding clock_work
clock_prefix now c =
    let d = deadline_passed now (begun c) in
    taken_off_same (moment d now) (times_out now) (map (timed_out_ask now) d.asks) (reads_of d)
    ∙ by_test (λ (x : Core). x.own.waits.prefix ≡ c.own.waits.prefix) (seat_is_over c.seat now) (without_session now (begun c)) (begun c) (λ t. session_over_same (moment (record (begun c) { seat = None }) now) (reads_of (begun c))) (λ t. refl)

-- it leaves the settings and the leasing stream
record Alike (c d : Core) : Type 0 where
  leasing : d.leasing ≡ c.leasing
  settings : d.settings ≡ c.settings

clock_alike : (now : ℕ) (c : Core) → Alike c (clock_work now c)
unfolding clock_work
clock_alike now c =
    let P = λ (x : Core). Alike c x in
    let a : P (deadline_passed now (begun c)) = by_test P (seat_is_over c.seat now) (without_session now (begun c)) (begun c) (λ t. record { leasing = refl; settings = refl }) (λ t. record { leasing = refl; settings = refl }) in
    record { leasing = a.leasing; settings = a.settings }

-- its request is the same
ended_named : (prefix : List ℕ) (a : Answer) (w : Write) → answer_named prefix a (write_ended w) ≡ answer_named prefix a w
ended_named prefix (answer.Done reply) w = refl
ended_named prefix (answer.Refused r) w = refl

answer_names : (now call : ℕ) (x : Option Answer) (c : Core) → Agrees c → AnswerNames c.own call x → AnswerNames (clock_work now c).own call x
answer_names now call None c h n = tt
answer_names now call (Some a) c h n = λ w f.
    let prefix = c.own.waits.prefix in
    let q = λ (v : Write). not (sends call v) || answer_named prefix a v in
    let before = all_by_first (sends call) (answer_named prefix a) c.own.waits.writes (sym (one_is (sends call) c.own.waits.writes) ∙ h.writes.sends_once call) n in
    let after = clock_writes q (record { waits = λ v t. refl; due = λ v owner step t. refl }) ended now c before in
    ap (λ (p : List ℕ). answer_named p a w) (clock_prefix now c) ∙ implied (sends call w) (answer_named prefix a w) (first_has (sends call) q w (clock_work now c).own.waits.writes after f) (first_passes (sends call) (clock_work now c).own.waits.writes w f)
  where
    ended : (v : Write) → not (sends call v) || answer_named c.own.waits.prefix a v ≡ true → not (sends call (write_ended v)) || answer_named c.own.waits.prefix a (write_ended v) ≡ true
    ended v t = implies (sends call (write_ended v)) (answer_named c.own.waits.prefix a (write_ended v)) (λ u. ended_named c.own.waits.prefix a v ∙ implied (sends call v) (answer_named c.own.waits.prefix a v) t ((stage_ended_calms (is_single v.request) v.stage).sends call u))

pub still_named : (now : ℕ) (e : CoreEvent) (c : Core) → Agrees c → NamesOwners c e → NamesOwners (clock_work now c) e
still_named now (event.Ask ticket q word) c h n = tt
still_named now (event.Answer call a) c h n = subst (λ (namespace : List ℕ). AnswerNames (clock_work now c).own call (heard namespace a)) (sym (ap (λ (s : Settings). s.namespace) (clock_alike now c).settings)) (answer_names now call (heard c.settings.namespace a) c h n)
still_named now (event.Lost call) c h n = tt
still_named now (event.Tick word) c h n = tt
still_named now (event.Item number x) c h n = λ o header events f d i.
    let a = clock_alike now c in
    ap (λ (p : List ℕ). events_named p events) (clock_prefix now c)
    ∙ n o header events (sym (ap (λ (l : Option Opening). opening_at number l) a.leasing) ∙ f) d (sym (ap (λ (s : Settings). item_without s.namespace x) a.settings) ∙ i)
still_named now (event.Cut number) c h n = tt
still_named now (event.Take ticket) c h n = tt
still_named now (event.Leave ticket) c h n = tt
still_named now event.Work c h n = tt

pub still_heard : (now : ℕ) (e : CoreEvent) (c : Core) → IsHeard c e → IsHeard (clock_work now c) e
still_heard now (event.Ask ticket q word) c b = tt
still_heard now (event.Answer call a) c b = subst (λ (s : Settings). HeardBytes (heard s.namespace a)) (sym (clock_alike now c).settings) b
still_heard now (event.Lost call) c b = tt
still_heard now (event.Tick word) c b = tt
still_heard now (event.Item number x) c b = tt
still_heard now (event.Cut number) c b = tt
still_heard now (event.Take ticket) c b = tt
still_heard now (event.Leave ticket) c b = tt
still_heard now event.Work c b = tt
