-- What is known behind each prefix of a script.
use Rattle.std.proofs.Common.{◌≡◌, ℕ, nat_le, true, List, ◌∷◌, ◌++◌, length, Some, Ok, refl, sym, ◌∙◌, ap, subst}
use Rattle.etcd_types.proofs.Bools.{and_both}
use Rattle.core_model.specs.declared.event.CoreEvent.{CoreEvent}
use Rattle.core_model.specs.declared.event.CoreEvent.TheVariants as event
use Rattle.core_model.specs.Fits.{CoreOk}
use Rattle.core_model.specs.State.{Core}
use Rattle.core_model.specs.Step.{stepped}
use Rattle.core_laws.specs.Steps.Kept.{IsHeard}
use Rattle.core_laws.proofs.Steps.Start.{start_fits}
use Rattle.core_laws.proofs.Steps.Stepping.{steps_keep}
use Rattle.held_laws.proofs.Worlds.{no_place}
use Rattle.prefix_laws.proofs.Places.{fetched_so}
use Rattle.prefix_laws.proofs.Prefixes.{IsKept}
use Rattle.prefix_laws.proofs.Fetched.{turn_heard}
use Rattle.renewed_laws.proofs.Worlds.{WorldOk}
use Rattle.script_text.specs.declared.item.Item.{Item}
use Rattle.script_text.specs.declared.item.Item.TheVariants as item
use Rattle.script_text.specs.declared.line.Line.{Line}
use Rattle.truth_laws.proofs.Heads.{HeadsOk, heads_kept}
use Rattle.truth_laws.proofs.Reached.{Reached, reached_kept}
use Rattle.world_laws.proofs.Effects.{effect}
use Rattle.world_model.specs.Places.{place_at}
use Rattle.world_model.specs.Starts.{settings}
use Rattle.world_model.specs.State.{Place, World}
use Rattle.world_model.specs.Transcript.{done}
use Rattle.ledger_laws.proofs.Members.{MembersOk, members_stay, GoesTo, work_goes}
use Rattle.ledger_laws.proofs.NoWatches.{NoneWatches, none_watches, CallSo, work_sends}
use Rattle.ledger_laws.proofs.Places.{Stepped, PlaceAfter, stays, sets_it, marks, begins_it, steps_it, effect_places}
use Rattle.ledger_laws.proofs.Told.{NoneTwice}
use Rattle.ledger_laws.proofs.Twice.{step_facts, twice_on}
use Rattle.ledger_laws.proofs.Worlds.{Begun, Ledger, ledger_kept}
use Rattle.audited_replays.proofs.Orders.{SendsSo, Behind}

-- ---- what each proxy knows of the members, and that it knows no watch as a request

pub record CoreSo (n : ℕ) (c : Core) : Type 0 where
  pub core : CoreOk c
  pub members : MembersOk n c.members
  pub watches : NoneWatches c

core_on : (n : ℕ) (c : Core) (e : CoreEvent) (now : ℕ) → nat_le 1 n ≡ true → IsHeard c e → CoreSo n c → CoreSo n (stepped c e now).core
core_on n c e now some heard h = record {
  core = steps_keep c e now heard h.core;
  members = members_stay c e now n some h.members;
  watches = none_watches c e now h.core h.watches;
}

-- where there is a member at all
abbrev pub CoresOk : World → Type 0
CoresOk w = nat_le 1 w.members ≡ true → (p : ℕ) (x : Place) → place_at w p ≡ Some x → CoreSo w.members x.core

module _ (namespace : List ℕ) (items : List Item) (w : World) (ok : WorldOk namespace items w) (h : Ledger items w) (none : NoneTwice items w) (some : nat_le 1 w.members ≡ true) (each : (p : ℕ) (x : Place) → place_at w p ≡ Some x → CoreSo w.members x.core) where
  stepped_core : (gained : List Item) (q : ℕ) (y : Place) (s : Stepped w gained q y) → CoreSo w.members y.core
  stepped_core gained q y s =
      let heard = turn_heard namespace items w q s.place s.event s.outcome s.world s.behind s.own s.told ok s.at s.turn in
      let stood : CoreSo w.members s.behind.core =
      subst (CoreSo w.members) (sym (step_facts namespace items w ok h none gained q y s).core) (core_on w.members s.place.core s.event s.place.clock some heard (each q s.place s.at)) in
      subst (λ (z : Place). CoreSo w.members z.core) (sym s.is)
      (fetched_so (CoreSo w.members) (λ c ticket now k. core_on w.members c (event.Take ticket) now some tt k) (length s.behind.core.asks) s.behind s.told stood)

  core_after : (after : World) (gained : List Item) (q : ℕ) (y : Place) → PlaceAfter w after gained q y → CoreSo w.members y.core
  core_after after gained q y (stays at u b) = each q y at
  core_after after gained q y (sets_it x millis at f u b) = subst (λ (z : Place). CoreSo w.members z.core) (sym f) (record { core = (each q x at).core; members = (each q x at).members; watches = (each q x at).watches })
  core_after after gained q y (marks x ticket path body a at f g b) = subst (λ (z : Place). CoreSo w.members z.core) (sym f) (record { core = (each q x at).core; members = (each q x at).members; watches = (each q x at).watches })
  core_after after gained q y (begins_it clock life' i b f g c d) = subst (λ (z : Place). CoreSo w.members z.core) (sym f) (record { core = start_fits (settings w); members = record { count = refl; low = refl; high = some }; watches = tt })
  core_after after gained q y (steps_it s c d) = stepped_core gained q y s

members_same : (items gained : List Item) (w after : World) → Begun items w → Begun (items ++ gained) after → w.members ≡ after.members
members_same items gained w after b c = by (sym (ap (λ (xs : List Item). xs ++ gained) b.is) ∙ c.is)
  where
    by : item.World w.members w.namespace w.leasing ∷ (b.rest ++ gained) ≡ item.World after.members after.namespace after.leasing ∷ c.rest → w.members ≡ after.members
    by e = cc

cores_on : (namespace : List ℕ) (items : List Item) (w : World) (l : Line) (gained : List Item) → WorldOk namespace items w → Ledger items w → NoneTwice items w → Begun (items ++ gained) (done w l).world → (done w l).gained ≡ Ok gained → CoresOk w → CoresOk (done w l).world
cores_on namespace items w l gained ok h none begun e each some q y at =
    let same = members_same items gained w (done w l).world h.begun begun in
    let few : nat_le 1 w.members ≡ true = ap (nat_le 1) same ∙ some in
    subst (λ (n : ℕ). CoreSo n y.core) same
    (core_after namespace items w ok h none few (each few) (done w l).world gained q y (effect_places w (done w l).world gained (λ p x f. (h.lives p x f).kept) (effect w l gained e) q y at))

-- ---- all that is kept

pub record Kept (items : List Item) (w : World) : Type 0 where
  pub heads : HeadsOk items w
  pub reached : Reached items w
  pub ledger : Ledger items w
  pub none : NoneTwice items w
  pub cores : CoresOk w

pub kept : (script : List Line) → IsKept script Kept
kept script = record {
  begins = λ members namespace leasing. record {
    heads = (heads_kept script).begins members namespace leasing;
    reached = (reached_kept script).begins members namespace leasing;
    ledger = (ledger_kept script).begins members namespace leasing;
    none = λ p x e. no_place x e;
    cores = λ some p x e. no_place x e;
  };
  goes_on = λ namespace items w l gained n e ok h.
      let ledger = (ledger_kept script).goes_on namespace items w l gained n e ok h.ledger in
      record {
        heads = (heads_kept script).goes_on namespace items w l gained n e ok h.heads;
        reached = (reached_kept script).goes_on namespace items w l gained n e ok h.reached;
        ledger = ledger;
        none = twice_on namespace items w l gained ok h.ledger h.none e;
        cores = cores_on namespace items w l gained ok h.ledger h.none (record { rest = ledger.begun.rest; is = ledger.begun.is }) e h.cores;
      };
}

-- ---- what is used

sends_so : (n : ℕ) (x : Place) → nat_le 1 n ≡ true → CoreSo n x.core → SendsSo n x
sends_so n x some h = record {
  calls = λ own member ticket q e.
      let g = subst (GoesTo n) e (work_goes x.core x.clock n some h.members) in
      (and_both (nat_le 1 member) (nat_le member n) g.0 g.1, subst CallSo e (work_sends x.core x.clock h.watches));
  opens = λ own member q e. let g = subst (GoesTo n) e (work_goes x.core x.clock n some h.members) in and_both (nat_le 1 member) (nat_le member n) g.0 g.1;
}

pub behind_so : (items : List Item) (w : World) → nat_le 1 w.members ≡ true → Kept items w → Behind items w
behind_so items w some h = record {
  ledger = h.ledger;
  store = h.reached.seen.store;
  facts = h.heads.facts;
  sends = λ p x at. sends_so w.members x some (h.cores some p x at);
}
