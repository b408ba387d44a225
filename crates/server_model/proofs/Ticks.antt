-- A ticker's steps, one after the other.
use Rattle.std.proofs.Common.{◌≡◌, ℕ, true, false, List, [], ◌∷◌, ◌++◌, Option, None, Some, Result, Ok, Err, refl, sym, ap, ◌∙◌, append_assoc, append-nil, subst}
use Rattle.outside.specs.Draw.{Gives}
use Rattle.turn_hub.specs.History.{entry_of}
use Rattle.core_model.specs.declared.event.CoreEvent.TheVariants.{Tick}
use Rattle.core_model.specs.declared.event.Outcome.{Outcome}
use Rattle.core_model.specs.declared.event.Outcome.TheVariants as outcome
use Rattle.core_model.specs.declared.event.StepFault.{StepFault}
use Rattle.core_model.specs.declared.event.StepFault.TheVariants as step
use Rattle.server_model.specs.declared.fault.TurnFault.{TurnFault}
use Rattle.server_model.specs.declared.fault.TurnFault.TheVariants as turn
use Rattle.server_model.specs.Steps.{Step, Adds, MadeBy, Fits, FitsOutcome, FitsFault}
use Rattle.server_model.proofs.Steps.{adds_then, adds_none}
use Rattle.server_model.specs.Ticking.{noted, LastTick, OneTick, Ticks, SoFar, Ticking}

gives_none : (a : Option (List ℕ)) → Gives a a []
gives_none None = tt
gives_none (Some a) = sym (append-nil a)

gives_then : (a b c : Option (List ℕ)) (xs ys : List ℕ) → Gives a b xs → Gives b c ys → Gives a c (xs ++ ys)
gives_then a b None xs ys p q = tt
gives_then a None (Some c) xs ys p q = absurd q
gives_then None (Some b) (Some c) xs ys p q = absurd p
gives_then (Some a) (Some b) (Some c) xs ys p q = q ∙ ap (λ (l : List ℕ). l ++ ys) p ∙ append_assoc a xs ys

-- ---- one tick

module _ (worn : Type 0) where
  pub was_ticked : (word now : ℕ) (o : Outcome) (a b : Option (List Step)) (g h : Option (List ℕ)) → Gives g h (word ∷ []) → MadeBy a b (Tick word) now (Ok o)
      → FitsOutcome (Tick word) o → OneTick worn a b g h (Ok tt)
  was_ticked word now outcome.Noted a b g h d m f = record { word = word; steps = noted word now ∷ []; does = (now, refl); drawn = d; adds = m }
  was_ticked word now (outcome.Replied answer) a b g h d m f = absurd f
  was_ticked word now outcome.Waiting a b g h d m f = absurd f
  was_ticked word now outcome.Pending a b g h d m f = absurd f
  was_ticked word now (outcome.Item item) a b g h d m f = absurd f
  was_ticked word now (outcome.Job job) a b g h d m f = absurd f

  pub not_ticked : (word now : ℕ) (fault : TurnFault) (a b : Option (List Step)) (g h : Option (List ℕ)) → Gives g h (word ∷ []) → MadeBy a b (Tick word) now (Err fault)
      → Fits (Tick word) (Err fault) → (fault ≡ turn.Worn → worn) → OneTick worn a b g h (Err fault)
  not_ticked word now turn.Worn a b g h d m f l = record { word = word; steps = []; does = LastTick.late (l refl); drawn = d; adds = m }
  not_ticked word now (turn.Core step.Worn) a b g h d m f l =
      record { word = word; steps = entry_of (Tick word) now (Err step.Worn) ∷ []; does = LastTick.refused now; drawn = d; adds = m }
  not_ticked word now (turn.Core step.NoMemory) a b g h d m f l = absurd (cc)
  not_ticked word now (turn.Core (step.TicketUsed ticket)) a b g h d m f l = absurd f
  not_ticked word now (turn.Core (step.NoSuchTicket ticket)) a b g h d m f l = absurd f
  not_ticked word now (turn.Core (step.NoSuchCall call)) a b g h d m f l = absurd f
  not_ticked word now (turn.Core (step.NoSuchStream stream)) a b g h d m f l = absurd f

-- ---- all of them

pub none_ticked : (a : Option (List Step)) (g : Option (List ℕ)) → SoFar a a g g
none_ticked a g = record { steps = []; words = []; ticks = Ticks.none; drawn = gives_none g; adds = adds_none a }

pub ticked_more : (worn : Type 0) (a b c : Option (List Step)) (g h k : Option (List ℕ)) → SoFar a b g h → OneTick worn b c h k (Ok tt) → SoFar a c g k
ticked_more worn a b c g h k s o = record {
  steps = s.steps ++ noted o.word o.does.0 ∷ [];
  words = s.words ++ o.word ∷ [];
  ticks = Ticks.more s.steps s.words o.word o.does.0 s.ticks;
  drawn = gives_then g h k s.words (o.word ∷ []) s.drawn o.drawn;
  adds = adds_then a b c s.steps (noted o.word o.does.0 ∷ []) s.adds (subst (Adds b c) o.does.1 o.adds);
}

pub ticked_last : (worn : Type 0) (a b c : Option (List Step)) (g h k : Option (List ℕ)) (fault : TurnFault) → SoFar a b g h → OneTick worn b c h k (Err fault) → Ticking worn a c g k
ticked_last worn a b c g h k fault s o = record {
  steps = s.steps;
  words = s.words;
  ticks = s.ticks;
  last = o.steps;
  word = o.word;
  why = fault;
  ends = o.does;
  drawn = gives_then g h k s.words (o.word ∷ []) s.drawn o.drawn;
  adds = adds_then a b c s.steps o.steps s.adds o.adds;
}
