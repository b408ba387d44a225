-- What is to be added is taken, step by step.
use Rattle.std.proofs.Common.{◌≡◌, ◌≢◌, ℕ, suc, ◌+◌, ◌-◌, ◌*◌, ◌/◌, ◌%◌, ◌^◌, ◌<◌, ◌≤◌, ◌==◌, Bool, true, false, not, List, length, Option, Some, is_ok, refl, sym, ◌∙◌, ap, subst, arith}
use Rattle.script_text.specs.declared.item.Item.{Item}
use Rattle.script_text.specs.declared.line.Line.{Line}
use Rattle.script_text.specs.declared.line.Line.TheVariants as line
use Rattle.world_model.specs.declared.fault.WorldFault.{WorldFault}
use Rattle.world_model.specs.declared.fault.WorldFault.TheVariants as fault
use Rattle.world_model.specs.Generated.{Making, add, of_world, send_one, sends, push_one, turn, settle, drawn, asking, on_time, on_times, round}
use Rattle.world_model.specs.Questions.{can_push}
use Rattle.world_model.specs.State.{World}
use Rattle.world_model.specs.Transcript.{Done, counted, next}
use Rattle.generated_laws.specs.Laws as laws
use Rattle.generated_laws.specs.Laws.{EndTaken, SendTaken, SendsIf, SendsTaken, PushIf, PushTaken, PushesTaken, AllPushesTaken, TurnTaken, SettlesIf, SettlesTaken, SettleTaken, OnTimeTaken, OnTimesTaken, AskTaken, RoundTaken, RoundsTaken, AllTaken}
use Rattle.generated_laws.proofs.Begun.{none_is_refused}
use Rattle.replay_generated.proofs.Pushing.{can_push_so}
use Rattle.replay_generated.specs.Made.{all_started, begun, starting, Made, IsOf, Makes, makes, Takes, takes, Refuses, Sends, sends as sends_it, Turns, turns, IsDue, is_due, HasStreams, has_streams}
use Rattle.replay_generated.specs.Taken.{CanMake, can_make, CanAdd}

-- ---- a line that is taken isn't refused

known : (why : WorldFault) → ((why ≢ fault.NoMemory) → ⊥) → why ≡ fault.NoMemory
known fault.NoMemory h = refl
known (fault.NoSuchProxy n) h = absurd (h (λ e. cc))
known (fault.NoSuchMember n) h = absurd (h (λ e. cc))
known (fault.NoSuchCall n) h = absurd (h (λ e. cc))
known (fault.NotExecuted n) h = absurd (h (λ e. cc))
known (fault.NoSuchStream n) h = absurd (h (λ e. cc))
known (fault.NothingToPush n) h = absurd (h (λ e. cc))
known (fault.NothingToDeliver n) h = absurd (h (λ e. cc))
known (fault.NotAsked n) h = absurd (h (λ e. cc))
known (fault.NotSynced n m) h = absurd (h (λ e. cc))
known (fault.NoSuchLease n) h = absurd (h (λ e. cc))
known (fault.NotDue n m) h = absurd (h (λ e. cc))
known (fault.TicketUsed n) h = absurd (h (λ e. cc))
known (fault.NoSuchTicket n) h = absurd (h (λ e. cc))
known (fault.NothingToSend n) h = absurd (h (λ e. cc))
known (fault.ClockBack n m) h = absurd (h (λ e. cc))
known (fault.BadApply n m) h = absurd (h (λ e. cc))
known (fault.Worn n) h = absurd (h (λ e. cc))

refused_not : (x y : Made) (m : Making) (l : Line) (why : WorldFault) → IsOf x m → laws.Takes m l → why ≢ fault.NoMemory → Refuses l why x y → ⊥
refused_not x y m l why h t n r =
    let g = r.steps h.world h.stands n in
    let so : is_ok (next m.world l) ≡ false = ap (λ (o : Option World). is_ok (next o l)) h.made ∙ ap (λ (d : Done). is_ok (counted d)) g.so in
    let e : true ≡ false = sym t ∙ so in cc

pub wanting : {x y : Made} {l : Line} (why : WorldFault) → CanAdd l x → (why ≢ fault.NoMemory → Refuses l why x y) → why ≡ fault.NoMemory
wanting {x} {y} {l} why (can_make m h t) r = known why (λ n. refused_not x y m l why h t n (r n))

-- ---- calls that are sent

pub end_first : {x : Made} (call : Option ℕ) (number : ℕ) → call ≡ Some number → CanMake (EndTaken call) x → CanAdd (line.Exec number) x
end_first call number e (can_make m h t) = let u = subst (λ (o : Option ℕ). EndTaken o m) e t in can_make m h u.0

pub end_second : {x y : Made} (call : Option ℕ) (number : ℕ) → call ≡ Some number → CanMake (EndTaken call) x → Makes (add (line.Exec number)) x y → CanAdd (line.Answer number) y
end_second call number e (can_make m h t) (makes f) = let u = subst (λ (o : Option ℕ). EndTaken o m) e t in can_make (add (line.Exec number) m) (f m h) u.1

pub send_first : {x : Made} {p : ℕ} → CanMake (SendTaken p) x → CanAdd (line.Send p) x
send_first (can_make m h t) = can_make m h t.0

pub send_end : {x y : Made} {p : ℕ} {call : Option ℕ} → CanMake (SendTaken p) x → Sends p call x y → CanMake (EndTaken call) y
send_end {x} {y} {p} (can_make m h t) (sends_it f) =
    can_make (add (line.Send p) m) (f m h).is (subst (λ (o : Option ℕ). EndTaken o (add (line.Send p) m)) (f m h).call_is t.1)

one_less : (most counter : ℕ) → counter < most → most - counter ≡ suc (most - (counter + 1))
one_less most counter h = omega arith

all_left : (most : ℕ) → most ≡ most - 0
all_left most = omega arith

pub sends_start : {x : Made} (most p : ℕ) → CanMake (SendsTaken most p) x → CanMake (SendsTaken (most - 0) p) x
sends_start most p (can_make m h t) = can_make m h (subst (λ (n : ℕ). SendsTaken n p m) (all_left most) t)

due_taken : (n p : ℕ) (due : Bool) (x : Made) (m : Making) → due ≡ true → IsDue p due x → IsOf x m → SendsTaken (suc n) p m → SendTaken p m × SendsTaken n p (send_one p m)
due_taken n p due x m e (is_due f) h t = subst (λ (b : Bool). SendsIf b (SendsTaken n p) p m) (f m h ∙ e) t

pub sends_now : {y : Made} (most counter p : ℕ) (due : Bool) → counter < most → due ≡ true → IsDue p due y → CanMake (SendsTaken (most - counter) p) y → CanMake (SendTaken p) y
sends_now {y} most counter p due h e d (can_make m i t) =
    let u = due_taken (most - (counter + 1)) p due y m e d i (subst (λ (n : ℕ). SendsTaken n p m) (one_less most counter h) t) in can_make m i u.0

pub sends_then : {y z : Made} (most counter p : ℕ) (due : Bool) → counter < most → due ≡ true → IsDue p due y → CanMake (SendsTaken (most - counter) p) y → Makes (send_one p) y z → CanMake (SendsTaken (most - (counter + 1)) p) z
sends_then {y} most counter p due h e d (can_make m i t) (makes f) =
    let u = due_taken (most - (counter + 1)) p due y m e d i (subst (λ (n : ℕ). SendsTaken n p m) (one_less most counter h) t) in can_make (send_one p m) (f m i) u.1

-- ---- pushes

pub push_second : {x y : Made} {number : ℕ} {items : List Item} → CanMake (PushTaken number) x → Takes (line.Push number) items x y → CanAdd (line.Deliver number) y
push_second {x} {y} {number} (can_make m h t) (takes f) =
    let g = f m h in
    let here = sym (ap (λ (o : Option World). next o (line.Push number)) h.made) ∙ g.so in
    let can : of_world false (λ w. can_push w number) m.world ≡ true = ap (of_world false (λ w. can_push w number)) h.made ∙ can_push_so h.world number (g.after, _) here in
    let both = subst (λ (b : Bool). PushIf b number m) can t in
    can_make (add (line.Push number) m) g.is both.1

pub pushes_start : {x : Made} (count : ℕ) → CanMake (PushesTaken count 1) x → CanMake (PushesTaken (count - 0) 1) x
pushes_start count (can_make m h t) = can_make m h (subst (λ (n : ℕ). PushesTaken n 1 m) (all_left count) t)

pub pushes_now : {y : Made} (count at : ℕ) → at < count → CanMake (PushesTaken (count - at) (at + 1)) y → CanMake (PushTaken (at + 1)) y
pushes_now count at h (can_make m i t) =
    let u : PushTaken (at + 1) m × PushesTaken (count - (at + 1)) (at + 1 + 1) (push_one (at + 1) m) = subst (λ (n : ℕ). PushesTaken n (at + 1) m) (one_less count at h) t in can_make m i u.0

pub pushes_then : {y z : Made} (count at : ℕ) → at < count → CanMake (PushesTaken (count - at) (at + 1)) y → Makes (push_one (at + 1)) y z → CanMake (PushesTaken (count - (at + 1)) (at + 1 + 1)) z
pushes_then count at h (can_make m i t) (makes f) =
    let u : PushTaken (at + 1) m × PushesTaken (count - (at + 1)) (at + 1 + 1) (push_one (at + 1) m) = subst (λ (n : ℕ). PushesTaken n (at + 1) m) (one_less count at h) t in can_make (push_one (at + 1) m) (f m i) u.1

pub count_taken : {x : Made} {n : ℕ} → HasStreams n x → CanMake AllPushesTaken x → CanMake (PushesTaken n 1) x
count_taken (has_streams f) (can_make m h t) = can_make m h (subst (λ (k : ℕ). PushesTaken k 1 m) (f m h) t)

-- ---- turns, and settling

pub turn_first : {x : Made} → CanMake TurnTaken x → CanMake (SendsTaken 64 1) x
turn_first (can_make m h t) = can_make m h t.0

pub turn_second : {x y : Made} → CanMake TurnTaken x → Makes (sends 64 1) x y → CanMake (SendsTaken 64 2) y
turn_second (can_make m h t) (makes f) = can_make (sends 64 1 m) (f m h) t.1

pub turn_third : {x y z : Made} → CanMake TurnTaken x → Makes (sends 64 1) x y → Makes (sends 64 2) y z → CanMake (SendsTaken 64 3) z
turn_third (can_make m h t) (makes f) (makes g) = can_make (sends 64 2 (sends 64 1 m)) (g _ (f m h)) t.2

pub turn_last : {w x y z : Made} → CanMake TurnTaken w → Makes (sends 64 1) w x → Makes (sends 64 2) x y → Makes (sends 64 3) y z → CanMake AllPushesTaken z
turn_last (can_make m h t) (makes f) (makes g) (makes k) = can_make (sends 64 3 (sends 64 2 (sends 64 1 m))) (k _ (g _ (f m h))) t.3

pub settles_start : {x : Made} (most : ℕ) → CanMake (SettlesTaken most) x → CanMake (SettlesTaken (most - 0)) x
settles_start most (can_make m h t) = can_make m h (subst (λ (n : ℕ). SettlesTaken n m) (all_left most) t)

pub settles_now : {y : Made} (most counter : ℕ) → counter < most → CanMake (SettlesTaken (most - counter)) y → CanMake TurnTaken y
settles_now most counter h (can_make m i t) =
    let u : TurnTaken m × SettlesIf (length (turn m).lines == length m.lines) (SettlesTaken (most - (counter + 1))) (turn m) = subst (λ (n : ℕ). SettlesTaken n m) (one_less most counter h) t in can_make m i u.0

pub settles_then : {y z : Made} (most counter : ℕ) (more : Bool) → counter < most → more ≡ true → Turns more y z → CanMake (SettlesTaken (most - counter)) y → CanMake (SettlesTaken (most - (counter + 1))) z
settles_then most counter more h e (turns f) (can_make m i t) =
    let u : TurnTaken m × SettlesIf (length (turn m).lines == length m.lines) (SettlesTaken (most - (counter + 1))) (turn m) = subst (λ (n : ℕ). SettlesTaken n m) (one_less most counter h) t in
    can_make (turn m) (f m i).is (subst (λ (b : Bool). SettlesIf b (SettlesTaken (most - (counter + 1))) (turn m)) ((f m i).more_is ∙ ap not e) u.1)

-- ---- rounds

pub time_first : {x : Made} (number p : ℕ) → CanMake (OnTimeTaken number p) x → CanAdd (line.Clock p (200 * number)) x
time_first number p (can_make m h t) = can_make m h t.0

pub time_second : {x y : Made} (number p : ℕ) → CanMake (OnTimeTaken number p) x → Makes (add (line.Clock p (200 * number))) x y → CanAdd (line.Tick p) y
time_second number p (can_make m h t) (makes f) = can_make (add (line.Clock p (200 * number)) m) (f m h) t.1

on_times_taken : (b : Bool) (number : ℕ) (m : Making) → b ≡ true → OnTimesTaken b number m → OnTimesTaken true number m
on_times_taken b number m e t = subst (λ (c : Bool). OnTimesTaken c number m) e t

pub times_first : {x : Made} (number : ℕ) (b : Bool) → b ≡ true → CanMake (OnTimesTaken b number) x → CanMake (OnTimeTaken number 1) x
times_first number b e (can_make m h t) = can_make m h (on_times_taken b number m e t).0

pub times_second : {x y : Made} (number : ℕ) (b : Bool) → b ≡ true → CanMake (OnTimesTaken b number) x → Makes (on_time number 1) x y → CanMake (OnTimeTaken number 2) y
times_second number b e (can_make m h t) (makes f) = can_make (on_time number 1 m) (f m h) (on_times_taken b number m e t).1

pub times_third : {x y z : Made} (number : ℕ) (b : Bool) → b ≡ true → CanMake (OnTimesTaken b number) x → Makes (on_time number 1) x y → Makes (on_time number 2) y z → CanMake (OnTimeTaken number 3) z
times_third number b e (can_make m h t) (makes f) (makes g) = can_make (on_time number 2 (on_time number 1 m)) (g _ (f m h)) (on_times_taken b number m e t).2

with_state : (x : Made) (m : Making) (state : ℕ) → IsOf x m → IsOf (record x { state = state }) (record m { state = state })
with_state x m state h = record { world = h.world; made = h.made; stands = h.stands; tally = h.tally; state = refl; lines = h.lines }

pub ask_first : {x y : Made} (l : Line) (state number : ℕ) → y ≡ record x { state = state } → l ≡ asking (state / 2 ^ 33) number → CanMake (AskTaken state number) x → CanAdd l y
ask_first {x} {y} l state number put is (can_make m h t) =
    can_make (record m { state = state }) (subst (λ (v : Made). IsOf v (record m { state = state })) (sym put) (with_state x m state h)) (subst (λ (k : Line). laws.Takes (record m { state = state }) k) (sym is) t.0)

pub ask_then : {x y z : Made} (l : Line) (state number : ℕ) → y ≡ record x { state = state } → l ≡ asking (state / 2 ^ 33) number → CanMake (AskTaken state number) x → Makes (add l) y z → CanMake SettleTaken z
ask_then {x} {y} {z} l state number put is (can_make m h t) (makes f) =
    can_make (add l (record m { state = state })) (f _ (subst (λ (v : Made). IsOf v (record m { state = state })) (sym put) (with_state x m state h))) (subst (λ (k : Line). SettleTaken (add k (record m { state = state }))) (sym is) t.1)

pub round_first : {x : Made} (number : ℕ) → CanMake (RoundTaken number) x → CanMake (OnTimesTaken (number % 10 == 0) number) x
round_first number (can_make m h t) = can_make m h t.0

pub round_then : {x y : Made} (number state : ℕ) → state ≡ drawn x.state → CanMake (RoundTaken number) x → Makes (on_times (number % 10 == 0) number) x y → CanMake (AskTaken state number) y
round_then number state is (can_make m h t) (makes f) =
    can_make (on_times (number % 10 == 0) number m) (f m h) (subst (λ (s : ℕ). AskTaken s number (on_times (number % 10 == 0) number m)) (ap drawn h.state ∙ sym is) t.1)

pub rounds_start : {x : Made} (count : ℕ) → CanMake (RoundsTaken count 1) x → CanMake (RoundsTaken (count - 0) 1) x
rounds_start count (can_make m h t) = can_make m h (subst (λ (n : ℕ). RoundsTaken n 1 m) (all_left count) t)

pub rounds_now : {y : Made} (count at : ℕ) → at < count → CanMake (RoundsTaken (count - at) (at + 1)) y → CanMake (RoundTaken (at + 1)) y
rounds_now count at h (can_make m i t) =
    let u : RoundTaken (at + 1) m × RoundsTaken (count - (at + 1)) (at + 1 + 1) (round (at + 1) m) = subst (λ (n : ℕ). RoundsTaken n (at + 1) m) (one_less count at h) t in can_make m i u.0

pub rounds_then : {y z : Made} (count at : ℕ) → at < count → CanMake (RoundsTaken (count - at) (at + 1)) y → Makes (round (at + 1)) y z → CanMake (RoundsTaken (count - (at + 1)) (at + 1 + 1)) z
rounds_then count at h (can_make m i t) (makes f) =
    let u : RoundTaken (at + 1) m × RoundsTaken (count - (at + 1)) (at + 1 + 1) (round (at + 1) m) = subst (λ (n : ℕ). RoundsTaken n (at + 1) m) (one_less count at h) t in can_make (round (at + 1) m) (f m i) u.1

-- ---- the opening

pub start_1 : {x0 : Made} → CanMake (AllTaken starting) x0 → CanAdd (line.Start 1) x0
start_1 (can_make m h t) = can_make m h t.0

pub start_2 : {x0 x1 : Made} → CanMake (AllTaken starting) x0 → Makes (add (line.Start 1)) x0 x1 → CanAdd (line.Start 2) x1
start_2 (can_make m h t) (makes f0) = can_make (add (line.Start 1) m) (f0 _ h) t.1.0

pub start_3 : {x0 x1 x2 : Made} → CanMake (AllTaken starting) x0 → Makes (add (line.Start 1)) x0 x1 → Makes (add (line.Start 2)) x1 x2 → CanAdd (line.Start 3) x2
start_3 (can_make m h t) (makes f0) (makes f1) = can_make (add (line.Start 2) (add (line.Start 1) m)) (f1 _ (f0 _ h)) t.1.1.0

pub start_4 : {x0 x1 x2 x3 : Made} → CanMake (AllTaken starting) x0 → Makes (add (line.Start 1)) x0 x1 → Makes (add (line.Start 2)) x1 x2 → Makes (add (line.Start 3)) x2 x3 → CanAdd (line.Tick 1) x3
start_4 (can_make m h t) (makes f0) (makes f1) (makes f2) = can_make (add (line.Start 3) (add (line.Start 2) (add (line.Start 1) m))) (f2 _ (f1 _ (f0 _ h))) t.1.1.1.0

pub start_5 : {x0 x1 x2 x3 x4 : Made} → CanMake (AllTaken starting) x0 → Makes (add (line.Start 1)) x0 x1 → Makes (add (line.Start 2)) x1 x2 → Makes (add (line.Start 3)) x2 x3 → Makes (add (line.Tick 1)) x3 x4 → CanAdd (line.Tick 2) x4
start_5 (can_make m h t) (makes f0) (makes f1) (makes f2) (makes f3) = can_make (add (line.Tick 1) (add (line.Start 3) (add (line.Start 2) (add (line.Start 1) m)))) (f3 _ (f2 _ (f1 _ (f0 _ h)))) t.1.1.1.1.0

pub start_6 : {x0 x1 x2 x3 x4 x5 : Made} → CanMake (AllTaken starting) x0 → Makes (add (line.Start 1)) x0 x1 → Makes (add (line.Start 2)) x1 x2 → Makes (add (line.Start 3)) x2 x3 → Makes (add (line.Tick 1)) x3 x4 → Makes (add (line.Tick 2)) x4 x5 → CanAdd (line.Tick 3) x5
start_6 (can_make m h t) (makes f0) (makes f1) (makes f2) (makes f3) (makes f4) = can_make (add (line.Tick 2) (add (line.Tick 1) (add (line.Start 3) (add (line.Start 2) (add (line.Start 1) m))))) (f4 _ (f3 _ (f2 _ (f1 _ (f0 _ h))))) t.1.1.1.1.1.0

pub whole_starts : {x : Made} (number : ℕ) → number ≤ 20000 → IsOf x (begun number) → CanMake (AllTaken starting) x
unfolding begun
whole_starts number n h = can_make (begun number) h (none_is_refused number n).begun.1

pub whole_settles : {x y : Made} (number : ℕ) → number ≤ 20000 → IsOf x (begun number) → Makes all_started x y → CanMake SettleTaken y
unfolding begun
whole_settles number n h (makes f) = can_make (all_started (begun number)) (f _ h) (none_is_refused number n).settled

pub whole_rounds : {x y z : Made} (number : ℕ) → number ≤ 20000 → IsOf x (begun number) → Makes all_started x y → Makes settle y z → CanMake (RoundsTaken number 1) z
unfolding begun
whole_rounds number n h (makes f) (makes g) = can_make (settle (all_started (begun number))) (g _ (f _ h)) (none_is_refused number n).rounds
