-- What a proxy keeps behind a step that sends no call, beside what the view sees.
use Rattle.std.proofs.Common.{◌≡◌, ◌⊎◌, inl, inr, ℕ, ◌+◌, ◌≤◌, List, Some, sym, ◌∙◌, ap, subst, arith}
use Rattle.proxy_model.specs.Prefixes.{leasing_range}
use Rattle.core_model.specs.declared.event.CoreEvent.{CoreEvent}
use Rattle.core_model.specs.declared.settings.Settings.{Settings}
use Rattle.core_model.specs.State.{Opening, Core}
use Rattle.core_model.specs.Step.{opening_at, stepped}
use Rattle.core_laws.specs.Steps.Kept.{IsHeard}
use Rattle.core_laws.proofs.Steps.Staying.{steps_stay}
use Rattle.core_fits.specs.Fits.{EachOf}
use Rattle.owner_fits.specs.Names.{NamesOwners}
use Rattle.step_moves.specs.Work.{MaySend}
use Rattle.world_model.specs.Places.{nth, place_at}
use Rattle.world_model.specs.State.{Place, OpenedStream, World}
use Rattle.bridge_laws.specs.Messages.{LeasingWatched}
use Rattle.bridge_laws.specs.Shown.{numbers, OutShown, PlaceShown, Shown}
use Rattle.bridge_laws.specs.Turns.{KeepsPlace}
use Rattle.bridge_laws.proofs.Senders.{senders_last}
use Rattle.turn_laws.specs.Known.{StreamsKnown}
use Rattle.turn_laws.proofs.Numbers.{leasing_before}
use Rattle.turn_laws.proofs.Outs.{outs_kept}

-- the place `y` is `x` with this core, but for its tickets and the numbers of its streams
pub record Beside (x y : Place) (d : Core) : Type 0 where
  pub core : y.core ≡ d
  pub clock : y.clock ≡ x.clock
  pub calls : y.calls ≡ x.calls
  pub life : y.life ≡ x.life

new_number : {A : Type 0} (own given : ℕ) → own ≤ given → own ≡ given + 1 → A
new_number own given l e = absurd (omega (arith, l, e))

pub keeps_place : (holder : ℕ → ℕ) (w : World) (h : Shown holder w) (p : ℕ) (x y : Place) (e : CoreEvent) → place_at w p ≡ Some x → StreamsKnown w → IsHeard x.core e → NamesOwners x.core e
    → (stepped x.core e x.clock).core.calls ≡ x.core.calls → Beside x y (stepped x.core e x.clock).core → KeepsPlace holder w h p x y
keeps_place holder w h p x y e at known heard names same b = record {
  clock = b.clock;
  calls = b.calls;
  may = subst MaySend (sym b.core) (senders_last x.core e x.clock heard names k.may);
  namespace = ap (λ (c : Core). c.settings.namespace) b.core ∙ ap (λ (s : Settings). s.namespace) (steps_stay x.core e x.clock).settings ∙ k.namespace;
  prefix = ap (λ (c : Core). c.own.waits.prefix) b.core ∙ (steps_stay x.core e x.clock).prefix ∙ k.prefix;
  out = subst (λ (ns : List ℕ). EachOf (OutShown h.view.calls h.forms (numbers ns) y.core) y.core.out) (sym b.calls)
      (subst (λ (c : Core). EachOf (OutShown h.view.calls h.forms (numbers x.calls) c) c.out) (sym b.core)
      (outs_kept x.core e x.clock h.view.calls h.forms (numbers x.calls) heard k.may.ok k.may.owners same k.out));
  watched = still;
}
  where
    k : PlaceShown w.namespace w.leasing h.view h.forms p x
    k = h.places p x at

    still : (number : ℕ) (s : OpenedStream) → nth w.streams number ≡ Some s → LeasingWatched w.leasing h.bare p number s y
    still number s there o watch mine lives lasts opens found =
        by (leasing_before x.core e x.clock s.own o (ap (λ (c : Core). opening_at s.own c.leasing) (sym b.core) ∙ opens))
      where
        by : ((z : Opening) × (opening_at s.own x.core.leasing ≡ Some z)) ⊎ (s.own ≡ x.core.watches.given + 1) → watch.ask.range ≡ leasing_range w.leasing
        by (inl z) = h.watched p x number s at there z.0 watch mine (lives ∙ b.life) lasts z.1 found
        by (inr new) = new_number s.own x.core.watches.given (known.given number s x there (ap (place_at w) mine ∙ at) (lives ∙ b.life)) new
