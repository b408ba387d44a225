-- Each ticket of a proxy's life has one reply at most: what was replied is known no more, and what is told by a line are the replies of
-- requests that were known, each once.
use Rattle.std.proofs.Common.{◌≡◌, ℕ, zero, suc, ◌==◌, Bool, true, false, [], ◌∷◌, Option, None, Some, Result, Ok, Err, refl, sym, ◌∙◌}
use Rattle.std.specs.declared.cmp.Ordering.{Ordering}
use Rattle.std.specs.declared.cmp.Ordering.TheVariants.{Less, Equal, Greater}
use Rattle.std.specs.FinMap.{put}
use Rattle.std.specs.FinMap.Entries.{by_order}
use Rattle.std.specs.Ordering.{nat_cmp}
use Rattle.etcd_types.specs.declared.answer.Answer.{Answer}
use Rattle.core_laws.proofs.Steps.Lists.{number_itself, number_turned}
use Rattle.core_laws.proofs.Steps.Stepping.{steps_keep}
use Rattle.core_model.specs.declared.event.CoreEvent.TheVariants as event
use Rattle.core_model.specs.declared.event.Outcome.{Outcome}
use Rattle.core_model.specs.declared.event.Outcome.TheVariants as outcome
use Rattle.core_model.specs.declared.event.StepFault.{StepFault}
use Rattle.core_model.specs.Fits.{CoreOk}
use Rattle.core_model.specs.Step.{stepped}
use Rattle.core_model.specs.Takes.{ready}
use Rattle.script_text.specs.declared.item.Item.{Item}
use Rattle.world_model.specs.Gains.{Replies, with_reply, fetched_as, fetched_if, fetched}
use Rattle.world_model.specs.Places.{with_core}
use Rattle.world_model.specs.State.{Place}
use Rattle.ledger_laws.proofs.Tickets.{Each, NotIn, each_stepped, take_replies}

-- ---- lists of replies

-- each of them
abbrev pub EachReply : (ℕ → Type 0) → Replies → Type 0
EachReply P [] = Unit {0}
EachReply P (r ∷ rs) = P r.0 × EachReply P rs

-- no ticket twice
abbrev pub AreApart : Replies → Type 0
AreApart [] = Unit {0}
AreApart (r ∷ rs) = EachReply (λ n. (n == r.0) ≡ false) rs × AreApart rs

pub each_along : (P Q : ℕ → Type 0) → ((n : ℕ) → P n → Q n) → (rs : Replies) → EachReply P rs → EachReply Q rs
each_along P Q k [] h = tt
each_along P Q k (r ∷ rs) h = (k r.0 h.0, each_along P Q k rs h.1)

each_put : (P : ℕ → Type 0) (t : ℕ) (a : Answer) (rs : Replies) → P t → EachReply P rs → EachReply P (with_reply t a rs)
each_put P t a [] p h = (p, tt)
each_put P t a (r ∷ rs) p h = by (nat_cmp t r.0) refl (each_put P t a rs p h.1)
  where
    by : (o : Ordering) → nat_cmp t r.0 ≡ o → EachReply P (put nat_cmp t a rs) → EachReply P (by_order o ((t, a) ∷ r ∷ rs) ((r.0, a) ∷ rs) (r ∷ put nat_cmp t a rs))
    by Less f k = (p, h)
    by Equal f k = (h.0, h.1)
    by Greater f k = (h.0, k)

apart_put : (t : ℕ) (a : Answer) (rs : Replies) → EachReply (λ n. (n == t) ≡ false) rs → AreApart rs → AreApart (with_reply t a rs)
apart_put t a [] n h = (tt, tt)
apart_put t a (r ∷ rs) n h = by (nat_cmp t r.0) refl (apart_put t a rs n.1 h.1)
  where
    by : (o : Ordering) → nat_cmp t r.0 ≡ o → AreApart (put nat_cmp t a rs) → AreApart (by_order o ((t, a) ∷ r ∷ rs) ((r.0, a) ∷ rs) (r ∷ put nat_cmp t a rs))
    by Less f k = (n, h)
    by Equal f k = (h.0, h.1)
    by Greater f k = (each_put (λ m. (m == r.0) ≡ false) t a rs (number_turned r.0 t n.0) h.0, k)

-- ---- fetching

-- `Known` is what holds of each ticket of the requests; `Old` says that a ticket was replied before
pub record FetchOk (Known : ℕ → Type 0) (Old : ℕ → Type 0) (x : Place) (got : Replies) : Type 0 where
  pub core : CoreOk x.core
  pub known : Each Known x.core
  pub before : (t : ℕ) → Old t → NotIn t x.core
  pub told : EachReply (λ t. Known t × ((Old t → ⊥) × NotIn t x.core)) got
  pub apart : AreApart got

contrary : {A : Type 0} (b : Bool) → b ≡ true → b ≡ false → A
contrary b t f = absurd (let no_way : true ≡ false = sym t ∙ f in cc)

-- no step but an asking brings a ticket
take_brings : (P : ℕ → Type 0) (x : Place) (ticket : ℕ) → CoreOk x.core → Each P x.core → Each P (stepped x.core (event.Take ticket) x.clock).core
take_brings P x ticket ok h = each_stepped P x.core (event.Take ticket) x.clock ok tt h

taken_ok : (Known Old : ℕ → Type 0) (x : Place) (ticket : ℕ) (got : Replies) → FetchOk Known Old x got → FetchOk Known Old (with_core x (stepped x.core (event.Take ticket) x.clock).core) got
taken_ok Known Old x ticket got h = record {
  core = steps_keep x.core (event.Take ticket) x.clock tt h.core;
  known = take_brings Known x ticket h.core h.known;
  before = λ t o. take_brings (λ n. (n == t) ≡ false) x ticket h.core (h.before t o);
  told = each_along (λ t. Known t × ((Old t → ⊥) × NotIn t x.core)) (λ t. Known t × ((Old t → ⊥) × NotIn t (stepped x.core (event.Take ticket) x.clock).core))
      (λ t k. (k.0, (k.1.0, take_brings (λ n. (n == t) ≡ false) x ticket h.core k.1.1))) got h.told;
  apart = h.apart;
}

one_more : (Known Old : ℕ → Type 0) (x : Place) (ticket : ℕ) (a : Answer) (got : Replies) → (stepped x.core (event.Take ticket) x.clock).outcome ≡ Ok (outcome.Replied a) → FetchOk Known Old x got
    → FetchOk Known Old (with_core x (stepped x.core (event.Take ticket) x.clock).core) (with_reply ticket a got)
one_more Known Old x ticket a got e h =
    let k = taken_ok Known Old x ticket got h in
    let t = take_replies Known x.core ticket x.clock a h.known e in
    record {
      core = k.core;
      known = k.known;
      before = k.before;
      told = each_put (λ n. Known n × ((Old n → ⊥) × NotIn n (stepped x.core (event.Take ticket) x.clock).core)) ticket a got (t.known, (unreplied, t.gone)) k.told;
      apart = apart_put ticket a got (each_along (λ n. Known n × ((Old n → ⊥) × NotIn n x.core)) (λ n. (n == ticket) ≡ false) (λ n m. number_turned ticket n (other n m.1.1)) got h.told) h.apart;
    }
  where
    -- it is none that isn't known
    other : (n : ℕ) → NotIn n x.core → (ticket == n) ≡ false
    other n m = (take_replies (λ t. (t == n) ≡ false) x.core ticket x.clock a m e).known

    unreplied : Old ticket → ⊥
    unreplied o = contrary (ticket == ticket) (number_itself ticket) (other ticket (h.before ticket o))

pub fetch_ok : (Known Old : ℕ → Type 0) (n : ℕ) (x : Place) (got : Replies) → FetchOk Known Old x got → FetchOk Known Old (fetched n x got).place (fetched n x got).replies
fetch_ok Known Old zero x got h = h
fetch_ok Known Old (suc n) x got h = by (ready x.core) (λ y g k. fetch_ok Known Old n y g k)
  where
    by_outcome : (ticket : ℕ) (r : Result Outcome StepFault) → (stepped x.core (event.Take ticket) x.clock).outcome ≡ r → ((y : Place) (g : Replies) → FetchOk Known Old y g → FetchOk Known Old (fetched n y g).place (fetched n y g).replies)
        → let f = fetched_as (fetched n) (with_core x (stepped x.core (event.Take ticket) x.clock).core) ticket got r in FetchOk Known Old f.place f.replies
    by_outcome ticket (Ok (outcome.Replied a)) e more = more (with_core x (stepped x.core (event.Take ticket) x.clock).core) (with_reply ticket a got) (one_more Known Old x ticket a got e h)
    by_outcome ticket (Ok outcome.Waiting) e more = taken_ok Known Old x ticket got h
    by_outcome ticket (Ok outcome.Pending) e more = taken_ok Known Old x ticket got h
    by_outcome ticket (Ok outcome.Noted) e more = taken_ok Known Old x ticket got h
    by_outcome ticket (Ok (outcome.Item i)) e more = taken_ok Known Old x ticket got h
    by_outcome ticket (Ok (outcome.Job j)) e more = taken_ok Known Old x ticket got h
    by_outcome ticket (Err f) e more = taken_ok Known Old x ticket got h

    by : (o : Option ℕ) → ((y : Place) (g : Replies) → FetchOk Known Old y g → FetchOk Known Old (fetched n y g).place (fetched n y g).replies)
        → FetchOk Known Old (fetched_if (fetched n) x got o).place (fetched_if (fetched n) x got o).replies
    by None more = h
    by (Some ticket) more = by_outcome ticket (stepped x.core (event.Take ticket) x.clock).outcome refl more
