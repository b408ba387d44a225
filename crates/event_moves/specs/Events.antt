-- What comes to a proxy, as moves of the view: its clock work and then the event, where the view has what the event says.
use Rattle.std.specs.Prelude.{◌≡◌, ◌≢◌, ℕ, Option, None, Some}
use Rattle.etcd_types.specs.declared.answer.Answer.{Answer}
use Rattle.core_model.specs.declared.event.CoreEvent.{CoreEvent}
use Rattle.core_model.specs.declared.event.CoreEvent.TheVariants as event
use Rattle.core_model.specs.declared.out_call.OutCall.{OutCall}
use Rattle.core_model.specs.ClockWork.{clock_work}
use Rattle.core_model.specs.Fits.{CoreOk}
use Rattle.core_model.specs.Heard.{heard}
use Rattle.core_model.specs.Lookups.{out_at}
use Rattle.core_model.specs.Sessions.{drawn_session}
use Rattle.core_model.specs.State.{Core}
use Rattle.core_model.specs.Step.{stepped}
use Rattle.core_laws.specs.Steps.Kept.{IsHeard}
use Rattle.core_fits.specs.Fits.{CoreFits}
use Rattle.owner_fits.specs.Laws.{OwnersFit}
use Rattle.cache_laws.specs.Moves.Invariant.{Inv}
use Rattle.cache_laws.specs.Moves.Sessions.{Draws}
use Rattle.cache_laws.specs.Moves.View.{View}
use Rattle.call_laws.specs.Forms.{Form}
use Rattle.core_moves.specs.Answers.{form_of_job, HasAnswer}
use Rattle.core_moves.specs.Clients.{TellsItem, TickMoves}
use Rattle.core_moves.specs.Sees.{Sees, Moves}

-- an answer that the view has: the call that it is to was sent in a form, and was executed
pub record IsAnswered (v : View) (own : ℕ → ℕ) (c : Core) (o : OutCall) (a : Answer) : Type 0 where
  pub form : Form
  pub suits : form_of_job c o.call form o.job
  pub has : HasAnswer v c.own.waits.prefix (own o.call) form o.sent_at a

-- What the view has of an event that comes to a proxy whose clock work is done: of an answer that is heard, of a message of the leasing
-- stream, and of the number that a tick draws where there is no session.
abbrev pub HasEvent : (ℕ → ℕ) → View → ℕ → (ℕ → ℕ) → Core → CoreEvent → Type 0
HasEvent holder v p own c (event.Answer call a) = (o : OutCall) (x : Answer) → out_at call c.out ≡ Some o → heard c.settings.namespace a ≡ Some x → IsAnswered v own c o x
HasEvent holder v p own c (event.Item number x) = TellsItem v c number x
HasEvent holder v p own c (event.Tick word) = c.seat ≡ None → Draws holder v p (drawn_session word)
HasEvent holder v p own c _ = Unit {0}

-- the word by which a session may be drawn
abbrev pub word_in : CoreEvent → Option ℕ
word_in (event.Tick word) = Some word
word_in _ = None

-- What becomes of the view: a tick may draw a session, and everything else leaves all but the proxy as it was.
abbrev pub EventMoved : (ℕ → ℕ) → View → ℕ → ℕ → (ℕ → ℕ) → Option ℕ → Core → Type 0
EventMoved holder v p now own None d = Moves holder v p now own d
EventMoved holder v p now own (Some word) d = TickMoves holder v p now own word d

-- each event but the sending of a job
abbrev pub EventsMove : Type 0
EventsMove =
    (holder : ℕ → ℕ) (v : View) (p now : ℕ) (own : ℕ → ℕ) (e : CoreEvent) (c : Core) → e ≢ event.Work → IsHeard c e → CoreOk c → CoreFits c → OwnersFit c → HasEvent holder v p own (clock_work now c) e
    → Sees v p now own c → Inv holder v → EventMoved holder v p now own (word_in e) (stepped c e now).core
