-- What holds of each proxy behind each prefix of a script.
use Rattle.std.proofs.Common.{◌≡◌, ℕ, zero, suc, ◌+◌, ◌≤◌, Bool, true, false, ◌||◌, List, [], ◌∷◌, ◌++◌, append_assoc, length, Option, None, Some, Result, Ok, Err, refl, sym, ◌∙◌, ap, subst, arith}
use Rattle.core_model.specs.declared.event.CoreEvent.{CoreEvent}
use Rattle.core_model.specs.declared.event.CoreEvent.TheVariants as event
use Rattle.core_model.specs.declared.event.Outcome.{Outcome}
use Rattle.core_model.specs.declared.event.Outcome.TheVariants as outcome
use Rattle.core_model.specs.declared.event.StepFault.{StepFault}
use Rattle.core_model.specs.declared.settings.Settings.{Settings}
use Rattle.core_model.specs.Fits.{CoreOk}
use Rattle.core_model.specs.State.{Core, first_core}
use Rattle.core_model.specs.Step.{is_worn, stepped}
use Rattle.core_model.specs.Stepped.{Stepped}
use Rattle.core_model.specs.Takes.{ready}
use Rattle.core_laws.specs.Steps.Kept.{IsHeard}
use Rattle.core_laws.proofs.Steps.Outcomes.{worn_does_nothing}
use Rattle.core_laws.proofs.Steps.Stepping.{steps_keep}
use Rattle.core_fits.specs.Fits.{CoreFits}
use Rattle.core_fits.specs.Ready.{TakesReply}
use Rattle.core_fits.proofs.Fit.{fits_start, fits_step}
use Rattle.core_fits.proofs.Ready.{nothing_ready, ready_is_taken}
use Rattle.script_text.specs.declared.item.Item.{Item}
use Rattle.script_text.specs.declared.line.Line.{Line}
use Rattle.world_model.specs.Gains.{Replies, with_reply, fetched_as, fetched_if, fetched}
use Rattle.world_model.specs.Lives.{names, life, is_named}
use Rattle.world_model.specs.Places.{place_at, with_core}
use Rattle.world_model.specs.State.{Place, World}
use Rattle.held_laws.proofs.Worlds.{no_place}
use Rattle.renewed_laws.proofs.Lives.{Lives, life_on}
use Rattle.renewed_laws.proofs.Worlds.{WorldOk}
use Rattle.prefix_laws.specs.Prefixes.{EachProxyAgrees, EachProxyFits, WhatIsOutIsNamed, NoReplyIsLeft}
use Rattle.reply_laws.specs.Named.{AreNamed, NamesCall}
use Rattle.reply_laws.proofs.Naming.{starts_named, steps_name}
use Rattle.prefix_laws.proofs.Prefixes.{IsKept, every_told}
use Rattle.prefix_laws.proofs.Turning.{named_by, PlaceGoes, stays, begins, steps, line_goes}

-- ---- replies are fetched

-- what each fetch of a proxy keeps
pub fetched_so : (P : Core → Type 0) → ((c : Core) (ticket now : ℕ) → P c → P (stepped c (event.Take ticket) now).core) → (n : ℕ) (x : Place) (got : Replies) → P x.core → P (fetched n x got).place.core
fetched_so P k zero x got h = h
fetched_so P k (suc n) x got h = by (ready x.core) (λ y g t. fetched_so P k n y g t)
  where
    by_outcome : (ticket : ℕ) (y : Place) (r : Result Outcome StepFault) → P y.core → ((y : Place) (g : Replies) → P y.core → P (fetched n y g).place.core) → P (fetched_as (fetched n) y ticket got r).place.core
    by_outcome ticket y (Ok (outcome.Replied a)) t more = more y (with_reply ticket a got) t
    by_outcome ticket y (Ok outcome.Waiting) t more = t
    by_outcome ticket y (Ok outcome.Pending) t more = t
    by_outcome ticket y (Ok outcome.Noted) t more = t
    by_outcome ticket y (Ok (outcome.Item i)) t more = t
    by_outcome ticket y (Ok (outcome.Job j)) t more = t
    by_outcome ticket y (Err f) t more = t

    by : (o : Option ℕ) → ((y : Place) (g : Replies) → P y.core → P (fetched n y g).place.core) → P (fetched_if (fetched n) x got o).place.core
    by None more = h
    by (Some ticket) more = by_outcome ticket (with_core x (stepped x.core (event.Take ticket) x.clock).core) (stepped x.core (event.Take ticket) x.clock).outcome (k x.core ticket x.clock h) more

-- ---- facts that each step keeps

-- of each place
abbrev pub OfPlaces : (Core → Type 0) → List Item → World → Type 0
OfPlaces P items w = (q : ℕ) (x : Place) → place_at w q ≡ Some x → P x.core

-- with what holds of every proxy
pub record Lasts (P : Core → Type 0) : Type 0 where
  pub start : (s : Settings) → P (first_core s)
  pub step : (c : Core) (e : CoreEvent) (now : ℕ) → IsHeard c e → CoreOk c → P c → P (stepped c e now).core

abbrev Whole : (Core → Type 0) → Core → Type 0
Whole P c = CoreOk c × P c

whole_step : (P : Core → Type 0) → Lasts P → (c : Core) (e : CoreEvent) (now : ℕ) → IsHeard c e → Whole P c → Whole P (stepped c e now).core
whole_step P l c e now b h = (steps_keep c e now b h.0, l.step c e now b h.0 h.1)

place_so : (P : Core → Type 0) → Lasts P → (namespace : List ℕ) (items : List Item) (w : World) (gained : List Item) → WorldOk namespace items w → OfPlaces P items w → (q : ℕ) (y : Place) → PlaceGoes w gained q y → P y.core
place_so P l namespace items w gained h so q y (stays x at same quiet) = subst P (sym same) (so q x at)
place_so P l namespace items w gained h so q y (begins s same) = subst P (sym same) (l.start s)
place_so P l namespace items w gained h so q y (steps x z e told own rest at heard core is split a b sends) =
    let stood : Whole P z.core = subst (Whole P) (sym core) (whole_step P l x.core e x.clock heard ((h.places q x at).core, so q x at)) in
    let t = fetched_so (Whole P) (λ c ticket now k. whole_step P l c (event.Take ticket) now tt k) (length z.core.asks) z told stood in
    subst (λ (v : Place). P v.core) (sym is) t.1

pub places_kept : (P : Core → Type 0) → Lasts P → (script : List Line) → IsKept script (OfPlaces P)
places_kept P l script = record {
  begins = λ members namespace leasing q x e. no_place x e;
  goes_on = λ namespace items w line gained n e h so q y at. place_so P l namespace items w gained h so q y (line_goes namespace items w line gained e h q y at);
}

pub each_agrees : EachProxyAgrees
each_agrees lines w p x s e at = ((every_told (λ items w. Unit {0}) lines (record { begins = λ members namespace leasing. tt; goes_on = λ namespace items w l gained n e h so. tt }) w s e).ok.places p x at).core

pub each_fits : EachProxyFits
each_fits lines w p x s e at = (every_told (OfPlaces CoreFits) lines (places_kept CoreFits (record { start = fits_start; step = λ c e now b ok h. fits_step c e now ok h }) lines) w s e).so p x at

-- ---- what is out is named

abbrev pub AllNamed : List Item → World → Type 0
AllNamed items w = (q : ℕ) (x : Place) → place_at w q ≡ Some x → AreNamed (named_by q (life q items)) x.core

pub named_front : (q ticket : ℕ) (xs ys : List Item) → is_named q ticket xs ≡ true → is_named q ticket (xs ++ ys) ≡ true
named_front q ticket [] ys h = absurd (cc)
named_front q ticket (x ∷ xs) ys h = by (names q ticket x) h (named_front q ticket xs ys)
  where
    by : (b : Bool) → b || is_named q ticket xs ≡ true → (is_named q ticket xs ≡ true → is_named q ticket (xs ++ ys) ≡ true) → b || is_named q ticket (xs ++ ys) ≡ true
    by true h more = refl
    by false h more = more h

named_back : (q ticket : ℕ) (xs ys : List Item) → is_named q ticket ys ≡ true → is_named q ticket (xs ++ ys) ≡ true
named_back q ticket [] ys h = h
named_back q ticket (x ∷ xs) ys h = by (names q ticket x) (named_back q ticket xs ys h)
  where
    by : (b : Bool) → is_named q ticket (xs ++ ys) ≡ true → b || is_named q ticket (xs ++ ys) ≡ true
    by true t = refl
    by false t = t

-- where the life goes on
pub named_on : (q : ℕ) (items more : List Item) (c : Core) → Lives q more → AreNamed (named_by q (life q items)) c → AreNamed (named_by q (life q (items ++ more))) c
named_on q items more c quiet h = record { rising = h.rising; asks = λ t n a f e. grow t (h.asks t n a f e); acquires = λ k n x f e. grow x.ticket (h.acquires k n x f e) }
  where
    grow : (t : ℕ) → is_named q t (life q items) ≡ true → is_named q t (life q (items ++ more)) ≡ true
    grow t n = ap (is_named q t) (life_on q items more quiet) ∙ named_front q t (life q items) more n

take_not_work : (ticket : ℕ) → event.Take ticket ≡ event.Work → ⊥
take_not_work ticket e = absurd (cc)

-- a step, and then its items
pub step_named : (q : ℕ) (items own : List Item) (c : Core) (e : CoreEvent) (now : ℕ) → CoreOk c → Lives q own → (e ≡ event.Work → NamesCall (named_by q own) (stepped c e now).outcome) → AreNamed (named_by q (life q items)) c
    → AreNamed (named_by q (life q (items ++ own))) (stepped c e now).core
step_named q items own c e now ok quiet sends h =
    let on = life_on q items own quiet in
    steps_name (named_by q (life q items)) (named_by q (life q (items ++ own))) c e now ok
    (record {
      stays = λ t n. ap (is_named q t) on ∙ named_front q t (life q items) own n;
      sends = λ f own' member ticket r g. ap (is_named q ticket) on ∙ named_back q ticket (life q items) own (sends f own' member ticket r g);
    }) h

-- a fetch names nothing
pub fetch_named : (named : ℕ → Bool) (c : Core) (ticket now : ℕ) → CoreOk c × AreNamed named c → CoreOk (stepped c (event.Take ticket) now).core × AreNamed named (stepped c (event.Take ticket) now).core
fetch_named named c ticket now h = (
  steps_keep c (event.Take ticket) now tt h.0,
  steps_name named named c (event.Take ticket) now h.0 (record { stays = λ t n. n; sends = λ f. absurd (take_not_work ticket f) }) h.1,
)

place_named : (namespace : List ℕ) (items gained : List Item) (w : World) → WorldOk namespace items w → AllNamed items w → (q : ℕ) (y : Place) → PlaceGoes w gained q y → AreNamed (named_by q (life q (items ++ gained))) y.core
place_named namespace items gained w h so q y (stays x at same quiet) = named_on q items gained y.core quiet (subst (AreNamed (named_by q (life q items))) (sym same) (so q x at))
place_named namespace items gained w h so q y (begins s same) = subst (AreNamed (named_by q (life q (items ++ gained)))) (sym same) (starts_named (named_by q (life q (items ++ gained))) s)
place_named namespace items gained w h so q y (steps x z e told own rest at heard core is split a b sends) =
    let n = named_by q (life q (items ++ own)) in
    let ok = (h.places q x at).core in
    let stood : CoreOk z.core × AreNamed n z.core = subst (λ (c : Core). CoreOk c × AreNamed n c) (sym core) (steps_keep x.core e x.clock heard ok, step_named q items own x.core e x.clock ok a sends (so q x at)) in
    let t = fetched_so (λ c. CoreOk c × AreNamed n c) (fetch_named n) (length z.core.asks) z told stood in
    let same : (items ++ own) ++ rest ≡ items ++ gained = append_assoc items own rest ∙ ap (λ (xs : List Item). items ++ xs) (sym split) in
    subst (λ (xs : List Item). AreNamed (named_by q (life q xs)) y.core) same
    (named_on q (items ++ own) rest y.core b (subst (λ (v : Place). AreNamed n v.core) (sym is) t.1))

pub named_kept : (script : List Line) → IsKept script AllNamed
named_kept script = record {
  begins = λ members namespace leasing q x e. no_place x e;
  goes_on = λ namespace items w l gained n e h so q y at. place_named namespace items gained w h so q y (line_goes namespace items w l gained e h q y at);
}

pub out_is_named : WhatIsOutIsNamed
out_is_named lines w p x s e at = (every_told AllNamed lines (named_kept lines) w s e).so p x at

-- ---- no reply is left

-- once it isn't worn
abbrev pub NoneLeft : Core → Type 0
NoneLeft c = is_worn c ≡ false → ready c ≡ None

fewer : (n m k : ℕ) → m + 1 ≡ k → k ≤ suc n → m ≤ n
fewer n m k e h = omega (arith, e, h)

no_asks : (c : Core) → length c.asks ≤ 0 → ready c ≡ None
no_asks c h = by c.asks h
  where
    by : (xs : List Rattle.read_model.specs.declared.asked.Asked.Asked) → length xs ≤ 0 → Rattle.core_model.specs.Takes.least_ready None xs ≡ None
    by [] h = refl
    by (x ∷ xs) h = absurd (omega (arith, h))

fetched_none : (n : ℕ) (x : Place) (got : Replies) → CoreOk x.core → length x.core.asks ≤ n → NoneLeft (fetched n x got).place.core
fetched_none zero x got ok few = λ u. no_asks x.core few
fetched_none (suc n) x got ok few = by (ready x.core) refl (λ y g k t. fetched_none n y g k t)
  where
    worn_left : (ticket : ℕ) → is_worn x.core ≡ true → NoneLeft (fetched_as (fetched n) (with_core x (stepped x.core (event.Take ticket) x.clock).core) ticket got (stepped x.core (event.Take ticket) x.clock).outcome).place.core
    worn_left ticket w =
        subst (λ (s : Stepped). NoneLeft (fetched_as (fetched n) (with_core x s.core) ticket got s.outcome).place.core) (sym (worn_does_nothing x.core (event.Take ticket) x.clock w))
        (λ u. absurd (let e : true ≡ false = sym w ∙ u in cc))

    taken_left : (ticket : ℕ) → TakesReply x.core ticket x.clock → ((y : Place) (g : Replies) → CoreOk y.core → length y.core.asks ≤ n → NoneLeft (fetched n y g).place.core)
        → NoneLeft (fetched_as (fetched n) (with_core x (stepped x.core (event.Take ticket) x.clock).core) ticket got (stepped x.core (event.Take ticket) x.clock).outcome).place.core
    taken_left ticket t more =
        let y = with_core x (stepped x.core (event.Take ticket) x.clock).core in
        subst (λ (r : Result Outcome StepFault). NoneLeft (fetched_as (fetched n) y ticket got r).place.core) (sym t.replied)
        (more y (with_reply ticket t.answer got) (steps_keep x.core (event.Take ticket) x.clock tt ok) (fewer n (length y.core.asks) (length x.core.asks) t.fewer few))

    by_worn : (ticket : ℕ) → ready x.core ≡ Some ticket → (b : Bool) → is_worn x.core ≡ b → ((y : Place) (g : Replies) → CoreOk y.core → length y.core.asks ≤ n → NoneLeft (fetched n y g).place.core)
        → NoneLeft (fetched_as (fetched n) (with_core x (stepped x.core (event.Take ticket) x.clock).core) ticket got (stepped x.core (event.Take ticket) x.clock).outcome).place.core
    by_worn ticket e true w more = worn_left ticket w
    by_worn ticket e false w more = taken_left ticket (ready_is_taken x.core x.clock ticket ok w e) more

    by : (o : Option ℕ) → ready x.core ≡ o → ((y : Place) (g : Replies) → CoreOk y.core → length y.core.asks ≤ n → NoneLeft (fetched n y g).place.core) → NoneLeft (fetched_if (fetched n) x got o).place.core
    by None e more = λ u. e
    by (Some ticket) e more = by_worn ticket e (is_worn x.core) refl more

place_none : (namespace : List ℕ) (items : List Item) (w : World) (gained : List Item) → WorldOk namespace items w → OfPlaces NoneLeft items w → (q : ℕ) (y : Place) → PlaceGoes w gained q y → NoneLeft y.core
place_none namespace items w gained h so q y (stays x at same quiet) = subst NoneLeft (sym same) (so q x at)
place_none namespace items w gained h so q y (begins s same) = subst NoneLeft (sym same) (λ u. refl)
place_none namespace items w gained h so q y (steps x z e told own rest at heard core is split a b sends) =
    let ok : CoreOk z.core = subst CoreOk (sym core) (steps_keep x.core e x.clock heard (h.places q x at).core) in
    subst (λ (v : Place). NoneLeft v.core) (sym is) (fetched_none (length z.core.asks) z told ok (omega arith))

pub none_kept : (script : List Line) → IsKept script (OfPlaces NoneLeft)
none_kept script = record {
  begins = λ members namespace leasing q x e. no_place x e;
  goes_on = λ namespace items w l gained n e h so q y at. place_none namespace items w gained h so q y (line_goes namespace items w l gained e h q y at);
}

pub none_is_left : NoReplyIsLeft
none_is_left lines w p x s e at u = nothing_ready x.core ((every_told (OfPlaces NoneLeft) lines (none_kept lines) w s e).so p x at u)
