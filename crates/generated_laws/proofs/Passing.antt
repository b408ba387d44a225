-- Waiting writes go on, and what is due of the entries and the writes stays due.
use Rattle.std.proofs.Common.{◌≡◌, ◌⊎◌, inl, inr, ℕ, ◌==◌, Bool, true, false, not, cond, ◌&&◌, List, [], ◌∷◌, ◌++◌, map, Option, None, Some, is_some, refl, sym, ap, subst, arith}
use Rattle.std.proofs.lemmas.Bool.Decides.{nat_tests}
use Rattle.std.specs.List.{list_any, list_all, flat_map}
use Rattle.etcd_types.specs.Keys.{same}
use Rattle.etcd_types.proofs.Bools.{and_first, and_second, and_both, not_true}
use Rattle.proxy_model.specs.declared.lease.Entry.{Entry}
use Rattle.proxy_model.specs.declared.lease.Phase.{Phase}
use Rattle.proxy_model.specs.declared.lease.Phase.TheVariants.{Held, Writing, Leaving}
use Rattle.proxy_model.specs.Keyed.{Keyed, at}
use Rattle.proxy_model.specs.LeaseTable.{phase_given_up}
use Rattle.wait_model.specs.declared.due.DueCall.{DueCall}
use Rattle.wait_model.specs.declared.due.Place.{Place}
use Rattle.wait_model.specs.declared.found.Asking.{Asking}
use Rattle.wait_model.specs.declared.found.Asking.TheVariants as asking
use Rattle.wait_model.specs.declared.found.Found.{Found}
use Rattle.wait_model.specs.declared.sending.Sending.{Sending}
use Rattle.wait_model.specs.declared.sending.Sending.TheVariants as sending
use Rattle.wait_model.specs.declared.write.Write.{Write}
use Rattle.wait_model.specs.declared.write.WriteStage.{WriteStage}
use Rattle.wait_model.specs.declared.write.WriteStage.TheVariants.{Waiting, Sends, Finds}
use Rattle.wait_model.specs.Covers.{covers, leased, shares, is_by_keys}
use Rattle.wait_model.specs.DueOrder.{due_own, due_asking, due_found, due_in, due_of, due_calls, is_sooner, sooner, soonest, first_call, earlier, earliest, first_place, first_rescind}
use Rattle.wait_model.specs.Edits.{each}
use Rattle.wait_model.specs.Passes.{goes, turn, passed}
use Rattle.wait_model.specs.Phases.{is_leaving, is_rescind_due_phase, is_rescind_due, phase_let_go, phase_begun}
use Rattle.wait_model.specs.Sent.{JobSent, is_asking_due, found_sent, stage_revoking, revoke_job, stage_sent, write_job, is_revoke, call_job, call_of, call_sent, job_sent_after, job_sent}
use Rattle.wait_model.specs.SeveralKeys.{by_ranges, given_up_over}
use Rattle.wait_model.specs.SingleKeys.{Turn, any_key, keys_begun, by_keys, let_go_leased, begun_over}
use Rattle.wait_model.specs.Stages.{staged, is_waiting, is_over, is_found_over, stage_on}
use Rattle.wait_model.specs.State.{Ownership}
use Rattle.wait_model.specs.Writes.{first_by, with_first, has_ticket}
use Rattle.core_model.specs.Fits.{goes_on}
use Rattle.core_model.specs.Kinds.{has_some}
use Rattle.core_laws.proofs.Steps.Comes.{by_test}

-- ---- lists with something in them

pub some_first : {A : Type 0} (xs ys : List A) → has_some xs ≡ true → has_some (xs ++ ys) ≡ true
some_first [] ys h = absurd (cc)
some_first (x ∷ xs) ys h = refl

pub some_second : {A : Type 0} (xs ys : List A) → has_some ys ≡ true → has_some (xs ++ ys) ≡ true
some_second [] ys h = h
some_second (x ∷ xs) ys h = refl

pub some_either : {A : Type 0} (xs ys : List A) → has_some (xs ++ ys) ≡ true → (has_some xs ≡ true) ⊎ (has_some ys ≡ true)
some_either [] ys h = inr h
some_either (x ∷ xs) ys h = inl refl

-- ---- rescinds

each_rescinds : (f : List ℕ → Entry → Entry) → ((k : List ℕ) (e : Entry) → is_rescind_due e ≡ true → is_rescind_due (f k e) ≡ true) → (es : Keyed Entry) → is_some (first_rescind es) ≡ true → is_some (first_rescind (each f es)) ≡ true
each_rescinds f h [] t = t
each_rescinds f h (e ∷ es) t = by (each_rescinds f h es) (is_rescind_due e.1) refl t
  where
    by : (is_some (first_rescind es) ≡ true → is_some (first_rescind (each f es)) ≡ true) → (b : Bool) → is_rescind_due e.1 ≡ b → is_some (cond b (Some e) (first_rescind es)) ≡ true
        → is_some (cond (is_rescind_due (f e.0 e.1)) (Some (e.0, f e.0 e.1)) (first_rescind (each f es))) ≡ true
    by more true d u = ap (λ b. is_some (cond b (Some (e.0, f e.0 e.1)) (first_rescind (each f es)))) (h e.0 e.1 d)
    by more false d u =
        by_test (λ (o : Option (List ℕ × Entry)). is_some o ≡ true) (is_rescind_due (f e.0 e.1)) (Some (e.0, f e.0 e.1)) (first_rescind (each f es)) (λ x. refl) (λ x. more u)

let_go_due : (p : Phase) → is_rescind_due_phase p ≡ true → is_rescind_due_phase (phase_let_go p) ≡ true
let_go_due Held h = refl
let_go_due (Writing revoked) h = h
let_go_due (Leaving sent) h = h

begun_due : (p : Phase) → is_rescind_due_phase p ≡ true → is_rescind_due_phase (phase_begun p) ≡ true
begun_due Held h = h
begun_due (Writing revoked) h = h
begun_due (Leaving sent) h = h

given_up_due : (p : Phase) → is_rescind_due_phase p ≡ true → is_rescind_due_phase (phase_given_up p) ≡ true
given_up_due Held h = refl
given_up_due (Writing revoked) h = h
given_up_due (Leaving sent) h = h

let_go_rescinds : (w : Write) (k : List ℕ) (e : Entry) → is_rescind_due e ≡ true → is_rescind_due (let_go_leased w k e) ≡ true
let_go_rescinds w k e h = by_test (λ (x : Entry). is_rescind_due x ≡ true) (covers w k && leased w.request k) _ e (λ t. let_go_due e.phase h) (λ t. h)

begun_rescinds : (w : Write) (k : List ℕ) (e : Entry) → is_rescind_due e ≡ true → is_rescind_due (begun_over w k e) ≡ true
begun_rescinds w k e h = by_test (λ (x : Entry). is_rescind_due x ≡ true) (covers w k) _ e (λ t. begun_due e.phase h) (λ t. h)

given_up_rescinds : (w : Write) (k : List ℕ) (e : Entry) → is_rescind_due e ≡ true → is_rescind_due (given_up_over w k e) ≡ true
given_up_rescinds w k e h = by_test (λ (x : Entry). is_rescind_due x ≡ true) (covers w k) _ e (λ t. given_up_due e.phase h) (λ t. h)

abbrev Rescinds : Turn → Type 0
Rescinds t = is_some (first_rescind t.entries) ≡ true

keys_rescind : (step : ℕ) (es : Keyed Entry) (ss : Keyed Bool) (w : Write) → is_some (first_rescind es) ≡ true → Rescinds (keys_begun step es ss w)
keys_rescind step es ss w h =
    by_test Rescinds (any_key w (λ j. is_leaving (at es j))) _ _ (λ t. h) (λ t. each_rescinds (begun_over w) (begun_rescinds w) es h)

by_keys_rescind : (step : ℕ) (es : Keyed Entry) (ss : Keyed Bool) (w : Write) → is_some (first_rescind es) ≡ true → Rescinds (by_keys step es ss w)
by_keys_rescind step es ss w h =
    by_test Rescinds (any_key w (λ j. is_some (at ss j))) _ _ (λ t. h) (λ t. keys_rescind step (each (let_go_leased w) es) ss w (each_rescinds (let_go_leased w) (let_go_rescinds w) es h))

goes_rescind : (step : ℕ) (es : Keyed Entry) (ss : Keyed Bool) (w : Write) → is_some (first_rescind es) ≡ true → Rescinds (goes step es ss w)
goes_rescind step es ss w h =
    by_test Rescinds (is_by_keys w) (by_keys step es ss w) (by_ranges step es ss w) (λ t. by_keys_rescind step es ss w h) (λ t. each_rescinds (given_up_over w) (given_up_rescinds w) es h)

turn_rescinds : (step : ℕ) (before : List Write) (es : Keyed Entry) (ss : Keyed Bool) (w : Write) → is_some (first_rescind es) ≡ true → Rescinds (turn step before es ss w)
turn_rescinds step before es ss w h =
    let v = staged w (stage_on w.stage) in
    by_test Rescinds (is_waiting v.stage && not (list_any (shares w) before)) (goes step es ss v) _ (λ t. goes_rescind step es ss v h) (λ t. h)

pub passed_rescinds : (step : ℕ) (before : List Write) (es : Keyed Entry) (ss : Keyed Bool) (ws : List Write) → is_some (first_rescind es) ≡ true → is_some (first_rescind (passed step before es ss ws).entries) ≡ true
unfolding passed
passed_rescinds step before es ss [] h = h
passed_rescinds step before es ss (w ∷ ws) h =
    let t = turn step before es ss w in
    passed_rescinds step (t.write ∷ before) t.entries t.spoiled ws (turn_rescinds step before es ss w h)

-- ---- calls of writes

turn_due : (step : ℕ) (before : List Write) (es : Keyed Entry) (ss : Keyed Bool) (w : Write) → goes_on w ≡ true → has_some (due_of w) ≡ true → has_some (due_of (turn step before es ss w).write) ≡ true
turn_due step before es ss w = by w.stage
  where
    at_stage : WriteStage → Turn
    at_stage s = cond (is_waiting s && not (list_any (shares w) before)) (goes step es ss (staged w s)) (record { entries = es; spoiled = ss; write = staged w s })

    by : (s : WriteStage) → not (is_found_over s) ≡ true → has_some (due_in w.ticket s) ≡ true → has_some (due_of (at_stage (stage_on s)).write) ≡ true
    by Waiting g t = absurd (cc)
    by (Sends owner x) g t = t
    by (Finds found) g t = subst (λ b. has_some (due_of (at_stage (cond b Waiting (Finds found))).write) ≡ true) (sym (not_true (list_all is_over found) g)) t

pub passed_due : (step : ℕ) (before : List Write) (es : Keyed Entry) (ss : Keyed Bool) (ws : List Write) → list_all goes_on ws ≡ true → has_some (due_calls ws) ≡ true → has_some (due_calls (passed step before es ss ws).writes) ≡ true
unfolding passed
passed_due step before es ss [] g h = h
passed_due step before es ss (w ∷ ws) g h =
    let t = turn step before es ss w in
    let later = passed step (t.write ∷ before) t.entries t.spoiled ws in
    by later.writes (passed_due step (t.write ∷ before) t.entries t.spoiled ws (and_second (goes_on w) (list_all goes_on ws) g)) (some_either (due_of w) (due_calls ws) h)
  where
    t : Turn
    t = turn step before es ss w

    by : (vs : List Write) → (has_some (due_calls ws) ≡ true → has_some (due_calls vs) ≡ true) → (has_some (due_of w) ≡ true) ⊎ (has_some (due_calls ws) ≡ true) → has_some (due_of t.write ++ due_calls vs) ≡ true
    by vs more (inl x) = some_first (due_of t.write) (due_calls vs) (turn_due step before es ss w (and_first (goes_on w) (list_all goes_on ws) g) x)
    by vs more (inr x) = some_second (due_of t.write) (due_calls vs) (more x)

-- ---- a due write is found, and its call is sent

abbrev AllNamed : List Write → List DueCall → Type 0
AllNamed all [] = Unit {0}
AllNamed all (d ∷ ds) = (is_some (first_by (has_ticket d.place.number) all) ≡ true) × AllNamed all ds

named-append : (all : List Write) (ds es : List DueCall) → AllNamed all ds → AllNamed all es → AllNamed all (ds ++ es)
named-append all [] es h k = k
named-append all (d ∷ ds) es h k = (h.0, named-append all ds es h.1 k)

own_named : (all : List Write) (ticket : ℕ) (s : Sending) → is_some (first_by (has_ticket ticket) all) ≡ true → AllNamed all (due_own ticket s)
own_named all ticket (sending.Due since) h = (h, tt)
own_named all ticket (sending.Out call) h = tt

asking_named : (all : List Write) (ticket : ℕ) (f : Found) (a : Asking) → is_some (first_by (has_ticket ticket) all) ≡ true → AllNamed all (due_asking ticket f a)
asking_named all ticket f (asking.Due since) h = (h, tt)
asking_named all ticket f (asking.Out call) h = tt
asking_named all ticket f asking.Done h = tt

found_named : (all : List Write) (ticket : ℕ) (fs : List Found) → is_some (first_by (has_ticket ticket) all) ≡ true → AllNamed all (flat_map (due_found ticket) fs)
found_named all ticket [] h = tt
found_named all ticket (f ∷ fs) h = named-append all (due_found ticket f) (flat_map (due_found ticket) fs) (asking_named all ticket f f.revoke h) (found_named all ticket fs h)

stage_named : (all : List Write) (ticket : ℕ) (s : WriteStage) → is_some (first_by (has_ticket ticket) all) ≡ true → AllNamed all (due_in ticket s)
stage_named all ticket Waiting h = tt
stage_named all ticket (Sends owner s) h = own_named all ticket s h
stage_named all ticket (Finds found) h = found_named all ticket found h

itself : (n : ℕ) → (n == n) ≡ true
itself n = grind (arith, nat_tests)

calls_named : (all ws : List Write) → ((p : Write → Bool) → is_some (first_by p ws) ≡ true → is_some (first_by p all) ≡ true) → AllNamed all (due_calls ws)
calls_named all [] f = tt
calls_named all (w ∷ ws) f =
    named-append all (due_of w) (due_calls ws)
    (stage_named all w.ticket w.stage (f (has_ticket w.ticket) (ap (λ b. is_some (cond b (Some w) (first_by (has_ticket w.ticket) ws))) (itself w.ticket))))
    (calls_named all ws (λ p h. f p (by_test (λ (o : Option Write). is_some o ≡ true) (p w) (Some w) (first_by p ws) (λ t. refl) (λ t. h))))

abbrev NamedIf : List Write → Option DueCall → Type 0
NamedIf all None = Unit {0}
NamedIf all (Some d) = is_some (first_by (has_ticket d.place.number) all) ≡ true

soonest_named : (all : List Write) (o : Option DueCall) (ds : List DueCall) → NamedIf all o → AllNamed all ds → NamedIf all (soonest o ds)
soonest_named all o [] h k = h
soonest_named all o (d ∷ ds) h k = soonest_named all (Some (sooner o d)) ds (chosen o h) k.1
  where
    chosen : (x : Option DueCall) → NamedIf all x → NamedIf all (Some (sooner x d))
    chosen None t = k.0
    chosen (Some c) t = by_test (λ (y : DueCall). NamedIf all (Some y)) (is_sooner d c) d c (λ u. k.0) (λ u. t)

some_soonest : (o : Option DueCall) (ds : List DueCall) → is_some o ≡ true → is_some (soonest o ds) ≡ true
some_soonest o [] h = h
some_soonest o (d ∷ ds) h = some_soonest (Some (sooner o d)) ds refl

first_some : (ds : List DueCall) → has_some ds ≡ true → is_some (soonest None ds) ≡ true
first_some [] h = h
first_some (d ∷ ds) h = some_soonest (Some d) ds refl

call_some : (call : ℕ) (own : Ownership) (o : Option DueCall) → is_some o ≡ true → NamedIf own.waits.writes o → is_some (call_sent call o own) ≡ true
call_some call own None h k = h
call_some call own (Some d) h k = by (first_by (has_ticket d.place.number) own.waits.writes) k
  where
    by : (w : Option Write) → is_some w ≡ true → is_some (call_of call d w own) ≡ true
    by None t = t
    by (Some w) t = refl

pub write_job_sent : (call : ℕ) (own : Ownership) → has_some (due_calls own.waits.writes) ≡ true → is_some (job_sent call own) ≡ true
unfolding job_sent
write_job_sent call own h = by (first_rescind own.entries)
  where
    by : (o : Option (List ℕ × Entry)) → is_some (job_sent_after call o own) ≡ true
    by None = call_some call own (first_call own.waits.writes) (first_some (due_calls own.waits.writes) h) (soonest_named own.waits.writes None (due_calls own.waits.writes) tt (calls_named own.waits.writes own.waits.writes (λ p t. t)))
    by (Some e) = refl

pub rescind_job_sent : (call : ℕ) (own : Ownership) → is_some (first_rescind own.entries) ≡ true → is_some (job_sent call own) ≡ true
unfolding job_sent
rescind_job_sent call own h = by (first_rescind own.entries) h
  where
    by : (o : Option (List ℕ × Entry)) → is_some o ≡ true → is_some (job_sent_after call o own) ≡ true
    by None t = absurd (cc)
    by (Some e) t = refl

-- ---- none waits behind it for owners that are all gone

first_goes : (p : Write → Bool) (w : Write) (s : WriteStage) (ws : List Write) → first_by p ws ≡ Some w → (goes_on w ≡ true → not (is_found_over s) ≡ true) → list_all goes_on ws ≡ true → list_all goes_on (with_first p s ws) ≡ true
first_goes p w s [] e f h = refl
first_goes p w s (v ∷ vs) e f h = by (p v) e (λ d. first_goes p w s vs d f rest)
  where
    here : goes_on v ≡ true
    here = and_first (goes_on v) (list_all goes_on vs) h

    rest : list_all goes_on vs ≡ true
    rest = and_second (goes_on v) (list_all goes_on vs) h

    one : (x y : Write) → Some x ≡ Some y → x ≡ y
    one x y d = cc

    by : (b : Bool) → cond b (Some v) (first_by p vs) ≡ Some w → (first_by p vs ≡ Some w → list_all goes_on (with_first p s vs) ≡ true) → list_all goes_on (cond b (staged v s ∷ vs) (v ∷ with_first p s vs)) ≡ true
    by true d more = and_both (not (is_found_over s)) (list_all goes_on vs) (f (subst (λ (x : Write). goes_on x ≡ true) (one v w d) here)) rest
    by false d more = and_both (goes_on v) (list_all goes_on (with_first p s vs)) here (more d)

sent_stage : (call : ℕ) (s : WriteStage) → not (is_found_over s) ≡ true → not (is_found_over (stage_sent call s)) ≡ true
sent_stage call Waiting h = refl
sent_stage call (Sends owner s) h = refl
sent_stage call (Finds found) h = h

over_before : (call : ℕ) (k : List ℕ) (f : Found) → is_over (found_sent call k f) ≡ true → is_over f ≡ true
over_before call k f =
    by_test (λ (g : Found). is_over g ≡ true → is_over f ≡ true) (same k f.key && is_asking_due f.revoke) (record f { revoke = asking.Out call }) f (λ t u. absurd (let v = and_second f.gone false u in cc)) (λ t u. u)

all_over_before : (call : ℕ) (k : List ℕ) (fs : List Found) → list_all is_over (map (found_sent call k) fs) ≡ true → list_all is_over fs ≡ true
all_over_before call k [] h = refl
all_over_before call k (f ∷ fs) h =
    and_both (is_over f) (list_all is_over fs) (over_before call k f (and_first (is_over (found_sent call k f)) (list_all is_over (map (found_sent call k) fs)) h)) (all_over_before call k fs (and_second (is_over (found_sent call k f)) (list_all is_over (map (found_sent call k) fs)) h))

unless_over : (a b : Bool) → (b ≡ true → a ≡ true) → not a ≡ true → not b ≡ true
unless_over true b f h = absurd (cc)
unless_over false true f h = absurd (let e = f refl in cc)
unless_over false false f h = refl

revoking_stage : (call : ℕ) (k : List ℕ) (s : WriteStage) → not (is_found_over s) ≡ true → not (is_found_over (stage_revoking call k s)) ≡ true
revoking_stage call k Waiting h = refl
revoking_stage call k (Sends owner s) h = refl
revoking_stage call k (Finds found) h = unless_over (list_all is_over found) (list_all is_over (map (found_sent call k) found)) (all_over_before call k found) h

abbrev pub SentGoes : Option JobSent → Type 0
SentGoes None = Unit {0}
SentGoes (Some x) = list_all goes_on x.own.waits.writes ≡ true

call_goes : (call : ℕ) (own : Ownership) (d : DueCall) (w : Write) → first_by (has_ticket d.place.number) own.waits.writes ≡ Some w → list_all goes_on own.waits.writes ≡ true → SentGoes (Some (call_job call d w own))
call_goes call own d w e h =
    by_test (λ (x : JobSent). SentGoes (Some x)) (is_revoke d.place.kind) (revoke_job call d w own) (write_job call d w own)
    (λ t. first_goes (has_ticket d.place.number) w (stage_revoking call d.key w.stage) own.waits.writes e (revoking_stage call d.key w.stage) h)
    (λ t. first_goes (has_ticket d.place.number) w (stage_sent call w.stage) own.waits.writes e (sent_stage call w.stage) h)

pub sent_goes : (call : ℕ) (own : Ownership) → list_all goes_on own.waits.writes ≡ true → SentGoes (job_sent call own)
unfolding job_sent
sent_goes call own h = by (first_rescind own.entries)
  where
    by_write : (d : DueCall) (o : Option Write) → first_by (has_ticket d.place.number) own.waits.writes ≡ o → SentGoes (call_of call d o own)
    by_write d None e = tt
    by_write d (Some w) e = call_goes call own d w e h

    by_call : (o : Option DueCall) → SentGoes (call_sent call o own)
    by_call None = tt
    by_call (Some d) = by_write d (first_by (has_ticket d.place.number) own.waits.writes) refl

    by : (o : Option (List ℕ × Entry)) → SentGoes (job_sent_after call o own)
    by None = by_call (first_call own.waits.writes)
    by (Some e) = h

-- ---- the place of the first of them

some_earliest : (o : Option Place) (ps : List Place) → is_some o ≡ true → is_some (earliest o ps) ≡ true
some_earliest o [] h = h
some_earliest o (p ∷ ps) h = some_earliest (Some (earlier o p)) ps refl

pub place_some : (ws : List Write) → has_some (due_calls ws) ≡ true → is_some (first_place ws) ≡ true
place_some ws = by (due_calls ws)
  where
    by : (ds : List DueCall) → has_some ds ≡ true → is_some (earliest None (map (λ (d : DueCall). d.place) ds)) ≡ true
    by [] h = h
    by (d ∷ ds) h = some_earliest (Some d.place) (map (λ (e : DueCall). e.place) ds) refl

pub some_place : (ws : List Write) → is_some (first_place ws) ≡ true → has_some (due_calls ws) ≡ true
some_place ws = by (due_calls ws)
  where
    by : (ds : List DueCall) → is_some (earliest None (map (λ (d : DueCall). d.place) ds)) ≡ true → has_some ds ≡ true
    by [] h = h
    by (d ∷ ds) h = refl
