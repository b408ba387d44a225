-- A generated script: its items are its transcript, and each of its lines is taken.
use Rattle.std.proofs.Common.{◌≡◌, ℕ, zero, suc, ◌+◌, ◌*◌, ◌/◌, ◌%◌, ◌^◌, ◌==◌, Bool, true, false, List, [], ◌∷◌, ◌++◌, length, Option, None, Some, Result, Ok, Err, refl, sym, ◌∙◌, ap, subst, append-nil, codes}
use Rattle.script_text.specs.declared.item.Item.{Item}
use Rattle.script_text.specs.declared.line.Line.{Line}
use Rattle.script_text.specs.declared.line.Line.TheVariants as line
use Rattle.store_model.specs.History.{newest}
use Rattle.store_model.specs.State.{State}
use Rattle.world_model.specs.Answers.{Seen, saw_all, seen, unseen}
use Rattle.world_model.specs.declared.fault.LineRefusal.{LineRefusal}
use Rattle.world_model.specs.Generated.{Making, added_as, add, call_in, gained_by, ended, send_one, sends_if, sends, pushes_if, push_one, pushes, all_pushes, turn, settles_if, settles, settle, asking, on_time, on_times, asks_once, round, rounds, add_all, of_world, drawn, summary}
use Rattle.world_model.specs.Questions.{has_due, streams, can_push}
use Rattle.world_model.specs.State.{World, starting_world}
use Rattle.world_model.specs.Transcript.{Taken, next, taken, and_then, items_and_then, world_from, world_behind, transcript, transcript_from}
use Rattle.world_laws.proofs.Counting.{goes_on}
use Rattle.world_laws.proofs.Quiet.{AreTrue, saw_all-append}
use Rattle.world_laws.proofs.TrueAnswers.{Tells as Sees, taken_goes}
use Rattle.replay_generated.proofs.Begun.{script_is}
use Rattle.replay_generated.specs.Made.{script, begun, all_started, Tells}
use Rattle.replay_generated.specs.declared.summary.Summary.{Summary}
use Rattle.etcd_proxy.specs.Generated.{IsSummaryOf}

record IsTaken (m : Making) : Type 0 where
  pub items : m.items ≡ transcript m.lines
  pub behind : world_behind m.lines ≡ Ok m.world
  pub world : World
  pub there : m.world ≡ Some world
  pub sees : Sees (seen m.items) world

-- ---- a line more

abbrev ends_in : Taken → Result (Option World) LineRefusal
ends_in t = and_then t (λ after. Ok (Some after))

same_world : (w v : Option World) → ◌≡◌ {A = Result (Option World) LineRefusal} (Ok w) (Ok v) → w ≡ v
same_world w v e = cc

on_by : (t : Taken) (lines : List Line) (l : Line) (v : Option World)
    → ((w : World) → world_from (Some w) lines ≡ Ok v → world_from (Some w) (lines ++ l ∷ []) ≡ ends_in (next v l))
    → and_then t (λ after. world_from (Some after) lines) ≡ Ok v
    → and_then t (λ after. world_from (Some after) (lines ++ l ∷ [])) ≡ ends_in (next v l)
on_by (Ok gained) lines l v h e = h gained.0 e
on_by (Err why) lines l v h e = absurd (cc)

world_on : (w : Option World) (lines : List Line) (l : Line) (v : Option World) → world_from w lines ≡ Ok v
    → world_from w (lines ++ l ∷ []) ≡ ends_in (next v l)
world_on w [] l v e = ap (λ (u : Option World). ends_in (next u l)) (same_world w v e)
world_on w (x ∷ lines) l v e = on_by (next w x) lines l v (λ u. world_on (Some u) lines l v) e

abbrev Goes : Seen → Taken → Type 0
Goes s (Ok gained) = AreTrue s gained.1 × Sees (saw_all s gained.1) gained.0
Goes s (Err why) = Unit {0}

-- the store of the items is the world's behind the line, too
added_sees : (l : Line) (m : Making) (gained : World × List Item) → next m.world l ≡ Ok gained → IsTaken m → Sees (seen (m.items ++ gained.1)) gained.0
added_sees l m gained e h =
    let so : taken h.world l ≡ Ok gained = sym (ap (λ (w : Option World). next w l) h.there) ∙ e in
    let goes : Goes (seen m.items) (Ok gained) = subst (λ (t : Taken). Goes (seen m.items) t) so (taken_goes (seen m.items) h.world l h.sees) in
    subst (λ (s : Seen). Sees s gained.0) (sym (saw_all-append unseen m.items gained.1)) goes.1

added_keeps : (m : Making) (l : Line) (t : Taken) → next m.world l ≡ t → IsTaken m → IsTaken (added_as m l t)
added_keeps m l (Ok gained) e h = record {
  items = ap (λ (items : List Item). items ++ gained.1) h.items
      ∙ sym (goes_on m.lines (l ∷ []) m.world h.behind
      ∙ ap (λ (t : Taken). transcript m.lines ++ items_and_then t (λ after. transcript_from (Some after) [])) e
      ∙ ap (λ (items : List Item). transcript m.lines ++ items) (append-nil gained.1));
  behind = world_on None m.lines l m.world h.behind ∙ ap ends_in e;
  world = gained.0;
  there = refl;
  sees = added_sees l m gained e h;
}
added_keeps m l (Err why) e h = h

add_keeps : (l : Line) (m : Making) → IsTaken m → IsTaken (add l m)
add_keeps l m h = added_keeps m l (next m.world l) refl h

-- ---- settling

ended_keeps : (call : Option ℕ) (m : Making) → IsTaken m → IsTaken (ended call m)
ended_keeps None m h = h
ended_keeps (Some call) m h = add_keeps (line.Answer call) (add (line.Exec call) m) (add_keeps (line.Exec call) m h)

send_one_keeps : (p : ℕ) (m : Making) → IsTaken m → IsTaken (send_one p m)
send_one_keeps p m h =
    ended_keeps (call_in (gained_by (next m.world (line.Send p)))) (add (line.Send p) m) (add_keeps (line.Send p) m h)

sends_if_keeps : (b : Bool) (more : Making → Making) (p : ℕ) (m : Making) → ((x : Making) → IsTaken x → IsTaken (more x)) → IsTaken m → IsTaken (sends_if b more p m)
sends_if_keeps false more p m k h = h
sends_if_keeps true more p m k h = k (send_one p m) (send_one_keeps p m h)

sends_keep : (n p : ℕ) (m : Making) → IsTaken m → IsTaken (sends n p m)
sends_keep zero p m h = h
sends_keep (suc n) p m h =
    sends_if_keeps (of_world false (λ w. has_due w p) m.world) (sends n p) p m (λ x. sends_keep n p x) h

pushes_if_keeps : (b : Bool) (number : ℕ) (m : Making) → IsTaken m → IsTaken (pushes_if b number m)
pushes_if_keeps false number m h = h
pushes_if_keeps true number m h = add_keeps (line.Deliver number) (add (line.Push number) m) (add_keeps (line.Push number) m h)

push_one_keeps : (number : ℕ) (m : Making) → IsTaken m → IsTaken (push_one number m)
push_one_keeps number m h = pushes_if_keeps (of_world false (λ w. can_push w number) m.world) number m h

pushes_keep : (n number : ℕ) (m : Making) → IsTaken m → IsTaken (pushes n number m)
pushes_keep zero number m h = h
pushes_keep (suc n) number m h = pushes_keep n (number + 1) (push_one number m) (push_one_keeps number m h)

all_pushes_keep : (m : Making) → IsTaken m → IsTaken (all_pushes m)
all_pushes_keep m h = pushes_keep (of_world 0 streams m.world) 1 m h

turn_keeps : (m : Making) → IsTaken m → IsTaken (turn m)
turn_keeps m h =
    all_pushes_keep (sends 64 3 (sends 64 2 (sends 64 1 m)))
    (sends_keep 64 3 (sends 64 2 (sends 64 1 m)) (sends_keep 64 2 (sends 64 1 m) (sends_keep 64 1 m h)))

settles_if_keeps : (b : Bool) (more : Making → Making) (m : Making) → ((x : Making) → IsTaken x → IsTaken (more x)) → IsTaken m → IsTaken (settles_if b more m)
settles_if_keeps true more m k h = h
settles_if_keeps false more m k h = k m h

settles_keep : (n : ℕ) (m : Making) → IsTaken m → IsTaken (settles n m)
settles_keep zero m h = h
settles_keep (suc n) m h =
    settles_if_keeps (length (turn m).lines == length m.lines) (settles n) (turn m) (λ x. settles_keep n x) (turn_keeps m h)

-- ---- rounds

on_time_keeps : (number p : ℕ) (m : Making) → IsTaken m → IsTaken (on_time number p m)
on_time_keeps number p m h =
    add_keeps (line.Tick p) (add (line.Clock p (200 * number)) m) (add_keeps (line.Clock p (200 * number)) m h)

on_times_keep : (b : Bool) (number : ℕ) (m : Making) → IsTaken m → IsTaken (on_times b number m)
on_times_keep false number m h = h
on_times_keep true number m h =
    on_time_keeps number 3 (on_time number 2 (on_time number 1 m)) (on_time_keeps number 2 (on_time number 1 m) (on_time_keeps number 1 m h))

state_keeps : (state : ℕ) (m : Making) → IsTaken m → IsTaken (record m { state = state })
state_keeps state m h = record { items = h.items; behind = h.behind; world = h.world; there = h.there; sees = h.sees }

asks_once_keeps : (state number : ℕ) (m : Making) → IsTaken m → IsTaken (asks_once state number m)
asks_once_keeps state number m h =
    settles_keep 64 (add (asking (state / 2 ^ 33) number) (record m { state = state }))
    (add_keeps (asking (state / 2 ^ 33) number) (record m { state = state }) (state_keeps state m h))

round_keeps : (number : ℕ) (m : Making) → IsTaken m → IsTaken (round number m)
round_keeps number m h =
    asks_once_keeps (drawn m.state) number (on_times (number % 10 == 0) number m) (on_times_keep (number % 10 == 0) number m h)

rounds_keep : (n number : ℕ) (m : Making) → IsTaken m → IsTaken (rounds n number m)
rounds_keep zero number m h = h
rounds_keep (suc n) number m h = rounds_keep n (number + 1) (round number m) (round_keeps number m h)

add_all_keeps : (lines : List Line) (m : Making) → IsTaken m → IsTaken (add_all lines m)
add_all_keeps [] m h = h
add_all_keeps (l ∷ lines) m h = add_all_keeps lines (add l m) (add_keeps l m h)

begun_is : (number : ℕ) → IsTaken (begun number)
unfolding begun
begun_is number = record {
  items = refl;
  behind = refl;
  world = starting_world 2 [] (codes "L/");
  there = refl;
  sees = record { stored = refl; called = refl };
}

all_started_keep : (m : Making) → IsTaken m → IsTaken (all_started m)
all_started_keep m h =
    add_all_keeps (line.Start 1 ∷ line.Start 2 ∷ line.Start 3 ∷ line.Tick 1 ∷ line.Tick 2 ∷ line.Tick 3 ∷ []) m h

script_taken : (number : ℕ) → IsTaken (script number)
script_taken number =
    subst (λ (m : Making). IsTaken m) (script_is number)
    (rounds_keep number 1 (settle (all_started (begun number)))
    (settles_keep 64 (all_started (begun number)) (all_started_keep (begun number) (begun_is number))))

-- what is told of it is told of its transcript
pub is_summary : (number : ℕ) (s : Summary) → Tells s (script number) → IsSummaryOf number s
is_summary number s t =
    let h = script_taken number in
    record {
      asked = t.asked ∙ ap (λ (items : List Item). (summary items).asked) h.items;
      replied = t.replied ∙ ap (λ (items : List Item). (summary items).replied) h.items;
      unsent = t.unsent ∙ ap (λ (items : List Item). (summary items).unsent) h.items;
      world = h.world;
      taken = h.behind ∙ ap (λ (w : Option World). Ok w) h.there;
      revision =
          t.revision h.world h.there ∙ ap (λ (x : State). newest x.history) (sym h.sees.stored)
          ∙ ap (λ (items : List Item). (summary items).revision) h.items;
    }
