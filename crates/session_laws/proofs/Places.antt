-- The place of a proxy, line by line: what is told of its session and its calls lasts.
use Rattle.std.proofs.Common.{◌≡◌, ℕ, zero, suc, ◌<◌, ◌≤◌, List, ◌++◌, length, Option, None, Some, Result, Ok, Err, refl, sym, ◌∙◌, ap, subst, arith}
use Rattle.etcd_types.specs.declared.request.Request.{Request}
use Rattle.core_model.specs.declared.event.CoreEvent.{CoreEvent}
use Rattle.core_model.specs.declared.event.CoreEvent.TheVariants as event
use Rattle.core_model.specs.declared.event.Outcome.{Outcome}
use Rattle.core_model.specs.declared.event.Outcome.TheVariants as outcome
use Rattle.core_model.specs.declared.event.StepFault.{StepFault}
use Rattle.core_model.specs.declared.settings.Settings.{Settings}
use Rattle.core_model.specs.ClockWork.{clock_work}
use Rattle.core_model.specs.Fits.{CoreOk}
use Rattle.core_model.specs.State.{Core}
use Rattle.core_model.specs.Step.{happened, stepped}
use Rattle.core_model.specs.Takes.{ready}
use Rattle.core_laws.specs.Steps.Kept.{IsHeard}
use Rattle.core_laws.proofs.Steps.Staying.{steps_stay}
use Rattle.core_laws.proofs.Steps.Stepping.{steps_keep}
use Rattle.core_fits.specs.Fits.{CoreFits}
use Rattle.core_fits.proofs.Fit.{fits_step}
use Rattle.owner_fits.specs.Laws.{OwnersFit}
use Rattle.owner_fits.proofs.Runs.{steps_fit}
use Rattle.script_text.specs.declared.item.Item.{Item}
use Rattle.world_model.specs.declared.sent_call.SentCall.{SentCall}
use Rattle.world_model.specs.Gains.{Replies, with_reply, fetched_as, fetched_if, fetched, all_fetched}
use Rattle.world_model.specs.Lives.{clock_of}
use Rattle.world_model.specs.LiveSessions.{session_of}
use Rattle.world_model.specs.Places.{nth, with_core}
use Rattle.world_model.specs.State.{Place}
use Rattle.renewed_laws.proofs.Gains.{stepped_to}
use Rattle.session_laws.specs.Told.{told_live, last_reading}
use Rattle.session_laws.proofs.Items.{AreQuiet, AreQuietTo}
use Rattle.session_laws.proofs.Known.{Known, known_behind}
use Rattle.session_laws.proofs.Steps as steps
use Rattle.session_laws.proofs.Steps.{Ready, known_more, known_later, stepped_known, fetch_known, gave}

-- a call of this proxy, by its own number of it
pub record CallOf (calls : List SentCall) (p : ℕ) (own : List ℕ) (n : ℕ) (q : Request) (at : ℕ) : Type 0 where
  pub number : ℕ
  pub call : SentCall
  pub there : nth own n ≡ Some number
  pub is : nth calls number ≡ Some call
  pub asked : call.request ≡ q
  pub clock : call.clock ≡ at
  pub proxy : call.proxy ≡ p

pub record PlaceTold (calls : List SentCall) (bound : ℕ) (items : List Item) (p : ℕ) (x : Place) : Type 0 where
  pub clock : clock_of p items ≡ x.clock
  pub below : x.clock < last_reading
  pub namespace : List ℕ
  pub prefix : List ℕ
  pub namespace_is : x.core.settings.namespace ≡ namespace
  pub prefix_is : x.core.own.waits.prefix ≡ prefix
  pub known : Known (CallOf calls p x.calls) namespace prefix bound x.clock (session_of p items) x.core
  pub fit : CoreFits x.core
  pub owners : OwnersFit x.core

-- the call of a number goes on being asked for the same, at the same reading
pub record GoesOn (after : List SentCall) (number : ℕ) (call : SentCall) : Type 0 where
  pub next : SentCall
  pub is : nth after number ≡ Some next
  pub request : next.request ≡ call.request
  pub clock : next.clock ≡ call.clock
  pub proxy : next.proxy ≡ call.proxy

abbrev pub Grow : List SentCall → List SentCall → Type 0
Grow calls after = (number : ℕ) (call : SentCall) → nth calls number ≡ Some call → GoesOn after number call

abbrev pub GrowOwn : List ℕ → List ℕ → Type 0
GrowOwn own after = (n m : ℕ) → nth own n ≡ Some m → nth after n ≡ Some m

pub grow_itself : (calls : List SentCall) → Grow calls calls
grow_itself calls number call e = record { next = call; is = e; request = refl; clock = refl; proxy = refl }

call_on : (calls after : List SentCall) (p : ℕ) (own next : List ℕ) → Grow calls after → GrowOwn own next → (n : ℕ) (q : Request) (at : ℕ) → CallOf calls p own n q at → CallOf after p next n q at
call_on calls after p own next g o n q at h =
    let t = g h.number h.call h.is in
    record { number = h.number; call = t.next; there = o n h.number h.there; is = t.is; asked = t.request ∙ h.asked; clock = t.clock ∙ h.clock; proxy = t.proxy ∙ h.proxy }

-- at a place whose core, clock and earlier calls are the same
pub place_later : (calls after : List SentCall) (bound next : ℕ) (items later : List Item) (p : ℕ) (x y : Place) → y.core ≡ x.core → y.clock ≡ x.clock → GrowOwn x.calls y.calls → AreQuietTo p items later → Grow calls after → bound ≤ next
    → PlaceTold calls bound items p x → PlaceTold after next later p y
place_later calls after bound next items later p x y same lock own quiet g l h = record {
  clock = quiet.clock ∙ h.clock ∙ sym lock;
  below = subst (λ (n : ℕ). n < last_reading) (sym lock) h.below;
  namespace = h.namespace;
  prefix = h.prefix;
  namespace_is = ap (λ (c : Core). c.settings.namespace) same ∙ h.namespace_is;
  prefix_is = ap (λ (c : Core). c.own.waits.prefix) same ∙ h.prefix_is;
  known = subst (λ (n : ℕ). Known (CallOf after p y.calls) h.namespace h.prefix next n (session_of p later) y.core) (sym lock)
      (subst (λ (c : Core). Known (CallOf after p y.calls) h.namespace h.prefix next x.clock (session_of p later) c) (sym same)
      (known_more (CallOf calls p x.calls) (CallOf after p y.calls) bound next (call_on calls after p x.calls y.calls g own) l h.namespace h.prefix x.clock (session_of p later) x.core
      (known_later (CallOf calls p x.calls) h.namespace h.prefix bound x.clock x.clock (session_of p items) (session_of p later) x.core
      (λ t i f. quiet.live t (subst (λ (n : ℕ). n ≤ t) (sym h.clock) i) ∙ h.known.live t i f) h.known)));
  fit = subst CoreFits (sym same) h.fit;
  owners = subst OwnersFit (sym same) h.owners;
}

-- a later reading of its clock
pub place_set : (calls : List SentCall) (bound : ℕ) (items more : List Item) (p millis : ℕ) (x : Place) → clock_of p (items ++ more) ≡ millis → millis < last_reading → x.clock ≤ millis
    → ((t : ℕ) → millis ≤ t → told_live t (session_of p (items ++ more)) ≡ told_live t (session_of p items)) → PlaceTold calls bound items p x → PlaceTold calls bound (items ++ more) p (record x { clock = millis })
place_set calls bound items more p millis x c b l quiet h = record {
  clock = c;
  below = b;
  namespace = h.namespace;
  prefix = h.prefix;
  namespace_is = h.namespace_is;
  prefix_is = h.prefix_is;
  known = known_later (CallOf calls p x.calls) h.namespace h.prefix bound x.clock millis (session_of p items) (session_of p (items ++ more)) x.core
      (λ t i f. quiet t i ∙ h.known.live t (omega (arith, l, i)) f) h.known;
  fit = h.fit;
  owners = h.owners;
}

-- what is known of the event, its clock's work done, is known of the step; the items tell no more yet, or tell of its answer
pub place_steps : (calls : List SentCall) (bound next : ℕ) (items after : List Item) (p : ℕ) (x : Place) (e : CoreEvent) (o : Outcome) → CoreOk x.core → IsHeard x.core e → (stepped x.core e x.clock).outcome ≡ Ok o → clock_of p after ≡ x.clock
    → (h : PlaceTold calls bound items p x)
    → (Known (CallOf calls p x.calls) h.namespace h.prefix bound x.clock (session_of p items) (clock_work x.clock x.core) → Ready x.clock (clock_work x.clock x.core)
    → Known (CallOf calls p x.calls) h.namespace h.prefix next x.clock (session_of p after) (happened x.clock e (clock_work x.clock x.core)).core)
    → PlaceTold calls next after p (stepped_to x e)
place_steps calls bound next items after p x e o ok heard is c h goes =
    let stay = steps_stay x.core e x.clock in
    record {
      clock = c;
      below = h.below;
      namespace = h.namespace;
      prefix = h.prefix;
      namespace_is = ap (λ (s : Settings). s.namespace) stay.settings ∙ h.namespace_is;
      prefix_is = stay.prefix ∙ h.prefix_is;
      known = stepped_known (CallOf calls p x.calls) h.namespace h.prefix next x.clock (session_of p after) x.core e (gave x.core e x.clock o is).0
          (goes (known_behind (CallOf calls p x.calls) h.namespace h.prefix bound x.clock (session_of p items) x.core h.fit.seat_job h.known) (steps.ready x.clock x.core ok h.fit h.owners));
      fit = fits_step x.core e x.clock ok h.fit;
      owners = steps_fit x.core e x.clock heard ok h.owners;
    }

-- an event whose items tell nothing of the session
pub quiet_place : (calls : List SentCall) (bound next : ℕ) (items more : List Item) (p : ℕ) (x : Place) (e : CoreEvent) (o : Outcome) → CoreOk x.core → IsHeard x.core e → (stepped x.core e x.clock).outcome ≡ Ok o → AreQuiet p items more
    → (h : PlaceTold calls bound items p x)
    → (Known (CallOf calls p x.calls) h.namespace h.prefix bound x.clock (session_of p items) (clock_work x.clock x.core) → Ready x.clock (clock_work x.clock x.core)
    → Known (CallOf calls p x.calls) h.namespace h.prefix next x.clock (session_of p items) (happened x.clock e (clock_work x.clock x.core)).core)
    → PlaceTold calls next (items ++ more) p (stepped_to x e)
quiet_place calls bound next items more p x e o ok heard is quiet h goes =
    place_steps calls bound next items (items ++ more) p x e o ok heard is (quiet.clock ∙ h.clock) h
    (λ k r. let g = goes k r in
    known_later (CallOf calls p x.calls) h.namespace h.prefix next x.clock x.clock (session_of p items) (session_of p (items ++ more)) (happened x.clock e (clock_work x.clock x.core)).core
    (λ t i f. quiet.live t (subst (λ (n : ℕ). n ≤ t) (sym h.clock) i) ∙ g.live t i f) g)

-- ---- replies are fetched

fetched_so : (R : Place → Type 0) → ((x : Place) (ticket : ℕ) → R x → R (with_core x (stepped x.core (event.Take ticket) x.clock).core)) → (n : ℕ) (x : Place) (got : Replies) → R x → R (fetched n x got).place
fetched_so R k zero x got h = h
fetched_so R k (suc n) x got h = by (ready x.core) (λ y g t. fetched_so R k n y g t)
  where
    by_outcome : (ticket : ℕ) (y : Place) (r : Result Outcome StepFault) → R y → ((y : Place) (g : Replies) → R y → R (fetched n y g).place) → R (fetched_as (fetched n) y ticket got r).place
    by_outcome ticket y (Ok (outcome.Replied a)) t more = more y (with_reply ticket a got) t
    by_outcome ticket y (Ok outcome.Waiting) t more = t
    by_outcome ticket y (Ok outcome.Pending) t more = t
    by_outcome ticket y (Ok outcome.Noted) t more = t
    by_outcome ticket y (Ok (outcome.Item i)) t more = t
    by_outcome ticket y (Ok (outcome.Job j)) t more = t
    by_outcome ticket y (Err f) t more = t

    by : (o : Option ℕ) → ((y : Place) (g : Replies) → R y → R (fetched n y g).place) → R (fetched_if (fetched n) x got o).place
    by None more = h
    by (Some ticket) more = by_outcome ticket (with_core x (stepped x.core (event.Take ticket) x.clock).core) (stepped x.core (event.Take ticket) x.clock).outcome (k x ticket h) more

fetch_one : (calls : List SentCall) (bound : ℕ) (items : List Item) (p : ℕ) (x : Place) (ticket : ℕ) → CoreOk x.core × PlaceTold calls bound items p x
    → CoreOk (stepped x.core (event.Take ticket) x.clock).core × PlaceTold calls bound items p (with_core x (stepped x.core (event.Take ticket) x.clock).core)
fetch_one calls bound items p x ticket (ok, h) =
    let stay = steps_stay x.core (event.Take ticket) x.clock in (
      steps_keep x.core (event.Take ticket) x.clock tt ok,
      record {
        clock = h.clock;
        below = h.below;
        namespace = h.namespace;
        prefix = h.prefix;
        namespace_is = ap (λ (s : Settings). s.namespace) stay.settings ∙ h.namespace_is;
        prefix_is = stay.prefix ∙ h.prefix_is;
        known = fetch_known (CallOf calls p x.calls) h.namespace h.prefix bound x.clock (session_of p items) x.core ticket h.below ok h.fit h.owners h.known;
        fit = fits_step x.core (event.Take ticket) x.clock ok h.fit;
        owners = steps_fit x.core (event.Take ticket) x.clock tt ok h.owners;
      },
    )

pub place_fetched : (calls : List SentCall) (bound : ℕ) (items : List Item) (p : ℕ) (x : Place) (told : Replies) → CoreOk x.core → PlaceTold calls bound items p x → PlaceTold calls bound items p (all_fetched x told).place
place_fetched calls bound items p x told ok h =
    (fetched_so (λ y. CoreOk y.core × PlaceTold calls bound items p y) (λ y ticket k. fetch_one calls bound items p y ticket k) (length x.core.asks) x told (ok, h)).1
