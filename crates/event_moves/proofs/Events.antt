-- Each event, behind its clock work.
use Rattle.std.proofs.Common.{◌≡◌, ◌≢◌, ℕ, ◌+◌, Bool, true, ◌⊎◌, inl, inr, Option, None, Some, Result, Ok, Err, refl, sym, ◌∙◌, ap}
use Rattle.core_model.specs.declared.event.CoreEvent.{CoreEvent}
use Rattle.core_model.specs.declared.event.CoreEvent.TheVariants as event
use Rattle.core_model.specs.declared.event.Outcome.{Outcome}
use Rattle.core_model.specs.declared.event.StepFault.{StepFault}
use Rattle.core_model.specs.declared.event.StepFault.TheVariants as fault
use Rattle.core_model.specs.ClockWork.{clock_work}
use Rattle.core_model.specs.Fits.{is_standing}
use Rattle.core_model.specs.State.{Core}
use Rattle.core_model.specs.Step.{happened, is_worn, stepped}
use Rattle.core_model.specs.Stepped.{Stepped, faults, counted_by, counted}
use Rattle.core_laws.specs.Steps.Kept.{IsHeard}
use Rattle.core_laws.proofs.Steps.Comes.{by_test}
use Rattle.owner_fits.proofs.Hearing.{still_heard}
use Rattle.cache_laws.specs.Moves.Invariant.{Inv}
use Rattle.cache_laws.specs.Moves.View.{View}
use Rattle.core_moves.specs.Sees.{Sees, Moves}
use Rattle.core_moves.proofs.Clients.{asks_move, takes_move, leaves_move, cuts_move}
use Rattle.core_moves.proofs.Clocks.{stays_so, moves_on, clocks_move}
use Rattle.core_moves.proofs.Messages.{items_move, ticks_move}
use Rattle.event_moves.specs.Events.{HasEvent, word_in, EventMoved, EventsMove}
use Rattle.event_moves.proofs.Behind.{IsBehind, clock_behind, has_number}
use Rattle.event_moves.proofs.Ends.{answer_moves, lost_moves}
use Rattle.event_moves.proofs.Has.{still_has}

module _ (holder : ℕ → ℕ) (v : View) (p now : ℕ) (own : ℕ → ℕ) where
  -- nothing is moved
  event_stays : (o : Option ℕ) (c : Core) → Sees v p now own c → Inv holder v → EventMoved holder v p now own o c
  event_stays None c s h = stays_so holder v p now own c s h
  event_stays (Some word) c s h = record {
    after = v;
    inv = h;
    sees = s;
    alike = record { rev = refl; made = refl; owners = refl; kvs = refl; told = refl; leases = refl; floors = refl; drawn = refl; sent = refl; calls = refl; outcomes = refl; clocks = refl; terms = λ q n. refl; slots = λ q n. refl };
    drawn = λ n e. inl e;
  }

  -- moves and then the event's
  event_on : (o : Option ℕ) (c d : Core) → (m : Moves holder v p now own c) → EventMoved holder m.after p now own o d → EventMoved holder v p now own o d
  event_on None c d m n = moves_on holder v p now own c d m n
  event_on (Some word) c d m n =
      let a = m.alike in
      let b = n.alike in
      record {
        after = n.after;
        inv = n.inv;
        sees = n.sees;
        alike = record {
          rev = b.rev ∙ a.rev;
          made = b.made ∙ a.made;
          owners = b.owners ∙ a.owners;
          kvs = b.kvs ∙ a.kvs;
          told = b.told ∙ a.told;
          leases = b.leases ∙ a.leases;
          floors = b.floors ∙ a.floors;
          drawn = refl;
          sent = b.sent ∙ a.sent;
          calls = b.calls ∙ a.calls;
          outcomes = b.outcomes ∙ a.outcomes;
          clocks = b.clocks ∙ a.clocks;
          terms = λ q t. b.terms q t ∙ a.terms q t;
          slots = λ q t. b.slots q t ∙ a.slots q t;
        };
        drawn = λ i e. before i (n.drawn i e);
      }
    where
      before : (i : ℕ) {word : ℕ} → (m.after.drawn i ≡ true) ⊎ (i ≡ word) → (v.drawn i ≡ true) ⊎ (i ≡ word)
      before i (inl e) = inl (ap (λ (f : ℕ → Bool). f i) (sym m.alike.drawn) ∙ e)
      before i (inr e) = inr e

  -- the number of steps isn't seen
  event_counts : (o : Option ℕ) (s : Stepped) → EventMoved holder v p now own o s.core → EventMoved holder v p now own o (counted s).core
  event_counts o s m = by_outcome s.outcome
    where
      by_word : (o : Option ℕ) (c : Core) → EventMoved holder v p now own o c → EventMoved holder v p now own o (record c { steps = c.steps + 1 })
      by_word None c m = record { after = m.after; inv = m.inv; sees = record { clock = m.sees.clock; term = m.sees.term; row = m.sees.row }; alike = m.alike }
      by_word (Some word) c m = record { after = m.after; inv = m.inv; sees = record { clock = m.sees.clock; term = m.sees.term; row = m.sees.row }; alike = m.alike; drawn = m.drawn }

      by_outcome : (x : Result Outcome StepFault) → EventMoved holder v p now own o (counted_by s.core x).core
      by_outcome (Ok x) = by_word o s.core m
      by_outcome (Err x) = m

  happens : (e : CoreEvent) (c : Core) → e ≢ event.Work → IsHeard c e → IsBehind now c → HasEvent holder v p own c e → Sees v p now own c → Inv holder v → EventMoved holder v p now own (word_in e) (happened now e c).core
  happens (event.Ask ticket q word) c n b r has s h = asks_move holder v p now own ticket q word c r.ok s h
  happens (event.Answer call a) c n b r has s h = answer_moves holder v p now own c r call s h a b has
  happens (event.Lost call) c n b r has s h = lost_moves holder v p now own c r call s h
  happens (event.Tick word) c n b r has s h = ticks_move holder v p now own word c has s h
  happens (event.Item number x) c n b r has s h = items_move holder v p now own number x c r.ok (has_number c.seat r.seat.1) has s h
  happens (event.Cut number) c n b r has s h = cuts_move holder v p now own number c s h
  happens (event.Take ticket) c n b r has s h = takes_move holder v p now own ticket c s h
  happens (event.Leave ticket) c n b r has s h = leaves_move holder v p now own ticket c r.ok s h
  happens event.Work c n b r has s h = absurd (n refl)

pub events_move : EventsMove
unfolding stepped
events_move holder v p now own e c n b k f g has s h =
    let d = clock_work now c in
    let m = clocks_move holder v p now own (is_standing c.seat) c k.reads.ground s h in
    by_test (λ (x : Stepped). EventMoved holder v p now own (word_in e) x.core) (is_worn c) (faults c fault.Worn) (counted (happened now e d)) (λ t. event_stays holder v p now own (word_in e) c s h)
    (λ t.
    event_counts holder v p now own (word_in e) (happened now e d)
    (event_on holder v p now own (word_in e) d (happened now e d).core m
    (happens holder m.after p now own e d n (still_heard now e c b) (clock_behind now c k f g) (still_has holder v m.after p m.alike own d e has) m.sees m.inv)))
