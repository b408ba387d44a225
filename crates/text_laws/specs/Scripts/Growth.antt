-- Each line makes a revision and a lease at most; so of a store's numbers only its changes aren't counted by the lines.
use Rattle.std.specs.Prelude.{◌≤◌, ◌+◌, ℕ, List, [], ◌∷◌, length, None, Some}
use Rattle.text_model.specs.Words.{max_number}
use Rattle.script_text.specs.declared.line.Line.{Line}
use Rattle.text_laws.specs.Stores.Stores.{changes}
use Rattle.world_model.specs.State.{World}
use Rattle.world_model.specs.Transcript.{next, transcript}
use Rattle.text_laws.specs.Items.Texts.{Each, AreRead}
use Rattle.text_laws.specs.Scripts.Room.{GoesOnWithRoom, StaysSmall}
use Rattle.text_laws.specs.Scripts.Spoken.{SpokenHasText}
use Rattle.text_laws.specs.Scripts.Asked.{PostHasText}

-- the store's history has few changes at each world of the script
abbrev pub FewFrom : ℕ → World → List Line → Type 0
FewFrom most w [] = changes w.store.history ≤ most
FewFrom most w (l ∷ lines) = (changes w.store.history ≤ most) × GoesOnWithRoom (λ after. FewFrom most after lines) (next (Some w) l)

abbrev pub HasFewChanges : ℕ → List Line → Type 0
HasFewChanges most [] = Unit {0}
HasFewChanges most (l ∷ lines) = GoesOnWithRoom (λ after. FewFrom most after lines) (next None l)

abbrev pub StoresStaySmall : Type 0
StoresStaySmall = (most : ℕ) (lines : List Line) → length lines + 2 ≤ most → HasFewChanges most lines → StaysSmall most lines

abbrev pub SmallScriptsSpeakInTexts : Type 0
SmallScriptsSpeakInTexts =
    (most : ℕ) (lines : List Line) → AreRead 1 lines → Each PostHasText lines → length lines + 2 ≤ most → most + 1 ≤ max_number → HasFewChanges most lines
    → Each SpokenHasText (transcript lines)
