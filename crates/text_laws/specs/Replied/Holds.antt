-- What a proxy keeps of the answers and messages that it heard is as the texts of its replies need it: records whose numbers are at
-- most so much, and the answers and messages that wait to be taken.
use Rattle.std.specs.Prelude.{ℕ, ◌+◌, ◌≤◌, Result, Ok}
use Rattle.text_model.specs.Words.{max_number}
use Rattle.proxy_model.specs.declared.lease.Entry.{Entry}
use Rattle.proxy_model.specs.Keyed.{Keyed}
use Rattle.watch_model.specs.State.{Watch}
use Rattle.read_model.specs.declared.asked.Asked.{Asked}
use Rattle.read_model.specs.declared.asked.Stage.{Stage}
use Rattle.read_model.specs.declared.asked.Stage.TheVariants as stage
use Rattle.read_model.specs.declared.asked.Verdict.{Verdict}
use Rattle.read_model.specs.declared.asked.Verdict.TheVariants as verdict
use Rattle.core_model.specs.declared.event.CoreEvent.{CoreEvent}
use Rattle.core_model.specs.declared.event.CoreEvent.TheVariants as event
use Rattle.core_model.specs.declared.event.Outcome.{Outcome}
use Rattle.core_model.specs.declared.event.Outcome.TheVariants as outcome
use Rattle.core_model.specs.declared.event.StepFault.{StepFault}
use Rattle.core_model.specs.State.{Core}
use Rattle.text_laws.specs.Values.Fits.{AllOf, Number, HeaderFits, PrevFits, AnswerFits, MessageFits}

-- ---- what is kept

-- what holds of all that is kept by key, whatever the keys are
abbrev pub AllAt : {A : Type 0} → (A → Type 0) → Keyed A → Type 0
AllAt P es = AllOf (λ e. P e.1) es

abbrev pub EntryHolds : ℕ → Entry → Type 0
EntryHolds most e = PrevFits most e.kv

abbrev pub EntriesHold : ℕ → Keyed Entry → Type 0
EntriesHold most es = AllAt (EntryHolds most) es

abbrev pub VerdictHolds : Verdict → Type 0
VerdictHolds (verdict.Said a) = AnswerFits max_number a
VerdictHolds _ = Unit {0}

abbrev pub StageHolds : Stage → Type 0
StageHolds (stage.Replied v) = VerdictHolds v
StageHolds _ = Unit {0}

-- a ticket of a text is above 0
abbrev pub IsTicket : ℕ → Type 0
IsTicket ticket = (1 ≤ ticket) × Number ticket

pub record AskHolds (a : Asked) : Type 0 where
  pub ticket : IsTicket a.ticket
  pub stage : StageHolds a.stage

pub record WatchHolds (w : Watch) : Type 0 where
  pub start : Number w.start
  pub queue : AllOf (MessageFits max_number) w.queue

-- the records that are kept have numbers up to `most`
pub record CoreHolds (most : ℕ) (c : Core) : Type 0 where
  pub header : HeaderFits max_number c.header
  pub entries : EntriesHold most c.own.entries
  pub asks : AllOf AskHolds c.asks
  pub watches : AllOf WatchHolds c.watches.watches

-- ---- what comes to it, and what it answers

abbrev pub IsTicketed : CoreEvent → Type 0
IsTicketed (event.Ask ticket q word) = 1 ≤ ticket
IsTicketed _ = Unit {0}

abbrev pub OutcomeHolds : Result Outcome StepFault → Type 0
OutcomeHolds (Ok (outcome.Replied a)) = AnswerFits max_number a
OutcomeHolds (Ok (outcome.Item x)) = MessageFits max_number x
OutcomeHolds _ = Unit {0}

-- only an answer gives the records that are kept greater versions: one more for each of the 128 operations at most that a write has
abbrev pub risen : CoreEvent → ℕ → ℕ
risen (event.Answer call a) most = most + 128
risen _ most = most

-- What is heard has numbers up to `heard`, of which two are added where the parts of a deletion are joined; each record that is kept has
-- numbers up to `most`, and there is room for one more answer.
pub record Bounds (heard most : ℕ) : Type 0 where
  pub kept : heard ≤ most
  pub twice : heard + heard ≤ max_number
  pub room : most + 128 ≤ max_number
