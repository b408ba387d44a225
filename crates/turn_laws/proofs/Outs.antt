-- What is out at a proxy behind a step that sends no call was out before, for the same.
use Rattle.std.proofs.Common.{◌≡◌, ◌≢◌, ℕ, ◌+◌, List, [], ◌∷◌, sym, ◌∙◌, ap}
use Rattle.std.specs.List.{Contains}
use Rattle.cache_laws.proofs.Guards.Elements.{Each, each_of, of_each}
use Rattle.core_model.specs.declared.event.CoreEvent.{CoreEvent}
use Rattle.core_model.specs.declared.out_call.OutCall.{OutCall}
use Rattle.core_model.specs.Fits.{CoreOk}
use Rattle.core_model.specs.Sending.{next_call}
use Rattle.core_model.specs.State.{Core}
use Rattle.core_model.specs.Step.{stepped}
use Rattle.core_laws.specs.Steps.Kept.{IsHeard}
use Rattle.core_laws.proofs.Steps.Stepping.{steps_keep}
use Rattle.core_fits.specs.Fits.{EachOf}
use Rattle.cache_laws.specs.Moves.View.{Call}
use Rattle.call_laws.specs.Forms.{Form}
use Rattle.owner_fits.specs.Laws.{OwnersFit}
use Rattle.bridge_laws.specs.Shown.{OutShown}
use Rattle.turn_laws.proofs.Clocked.{given}
use Rattle.out_laws.proofs.Outs.{out_stays}

to_each : {A : Type 0} (P : A → Type 0) (xs : List A) → EachOf P xs → Each P xs
unfolding Each
to_each P [] h = tt
to_each P (x ∷ xs) h = (h.0, to_each P xs h.1)

from_each : {A : Type 0} (P : A → Type 0) (xs : List A) → Each P xs → EachOf P xs
unfolding Each
from_each P [] h = tt
from_each P (x ∷ xs) h = (h.0, from_each P xs h.1)

pub outs_kept : (c : Core) (e : CoreEvent) (now : ℕ) (calls : ℕ → Call) (forms : ℕ → Form) (own : ℕ → ℕ) → IsHeard c e → CoreOk c → OwnersFit c → (stepped c e now).core.calls ≡ c.calls
    → EachOf (OutShown calls forms own c) c.out → EachOf (OutShown calls forms own (stepped c e now).core) (stepped c e now).core.out
outs_kept c e now calls forms own heard k g same h =
    let d = (stepped c e now).core in
    from_each (OutShown calls forms own d) d.out (each_of (OutShown calls forms own d) d.out one)
  where
    unsent : (o : OutCall) → Contains (stepped c e now).core.out o → o.call ≢ next_call c
    unsent o there is =
        let d = (stepped c e now).core in
        given d.calls d.out o (steps_keep c e now heard k).agrees.numbers.given there (is ∙ ap (λ (n : ℕ). n + 1) (sym same))

    one : (o : OutCall) → Contains (stepped c e now).core.out o → OutShown calls forms own (stepped c e now).core o
    one o there =
        let s = out_stays c e now o (forms (own o.call)) heard k g there (unsent o there) in
        let before = of_each (OutShown calls forms own c) c.out o (to_each (OutShown calls forms own c) c.out h) s.0 in
        (s.1 before.0, before.1)
