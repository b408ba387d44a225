-- By the items: a request that was asked in the life of a proxy, and whose client waits, stands there under its ticket. A turn keeps that, with the
-- fetches behind it.
use Rattle.std.proofs.Common.{◌≡◌, ◌⊎◌, inl, inr, ℕ, zero, suc, ◌==◌, ◌&&◌, ◌||◌, Bool, true, false, cond, Less, Equal, Greater, List, [], ◌∷◌, ◌++◌, append_assoc, length, Option, None, Some, Result, Ok, Err, refl, sym, ◌∙◌, ap, subst}
use Rattle.std.specs.Prelude.{not, flat_map}
use Rattle.std.specs.declared.cmp.Ordering.{Ordering}
use Rattle.std.specs.FinMap.{put, nat_cmp-IsAntisymmetric}
use Rattle.std.specs.FinMap.Entries.{by_order}
use Rattle.std.specs.List.{list_any}
use Rattle.std.specs.BTreeSet.{BTreeSet}
use Rattle.std.specs.Ordering.{nat_cmp}
use Rattle.std.proofs.lemmas.List.Folds.{list_any-append}
use Rattle.etcd_types.proofs.Bools.{and_first, and_second, or_first, or_second, not_true}
use Rattle.etcd_types.specs.declared.answer.Answer.{Answer}
use Rattle.etcd_types.specs.declared.request.Request.{Request}
use Rattle.etcd_types.specs.declared.watch.WatchItem.{WatchItem}
use Rattle.core_model.specs.declared.event.CoreEvent.{CoreEvent}
use Rattle.core_model.specs.declared.event.CoreEvent.TheVariants as event
use Rattle.core_model.specs.declared.event.Outcome.{Outcome}
use Rattle.core_model.specs.declared.event.Outcome.TheVariants as outcome
use Rattle.core_model.specs.declared.event.StepFault.{StepFault}
use Rattle.core_model.specs.State.{Core}
use Rattle.core_model.specs.Step.{is_worn, stepped}
use Rattle.core_model.specs.Stepped.{Stepped}
use Rattle.core_model.specs.Takes.{ready}
use Rattle.core_laws.proofs.Steps.Lists.{number_itself, number_turned, same_number}
use Rattle.core_laws.proofs.Steps.Outcomes.{worn_does_nothing}
use Rattle.script_text.specs.declared.item.Item.{Item}
use Rattle.script_text.specs.declared.item.Item.TheVariants as item
use Rattle.world_model.specs.Asks.{told_at_once}
use Rattle.world_model.specs.Gains.{Replies, Fetched, with_reply, fetched_as, fetched_if, fetched, all_fetched, body_if, line_if, reply_items}
use Rattle.world_model.specs.Lives.{begins, life, asked_as}
use Rattle.world_model.specs.LiveSessions.{is_step_of}
use Rattle.world_model.specs.Places.{is_among, with_core}
use Rattle.world_model.specs.State.{Place, World, word}
use Rattle.world_laws.proofs.Effects.{Turn, ticks, asks_it, posts_it, calls, opens, closes, answers, loses, delivers, cuts, takes, waits, leaves}
use Rattle.held_laws.proofs.Items.{asked-append, or_later}
use Rattle.renewed_laws.proofs.Gains.{stepped_to}
use Rattle.renewed_laws.proofs.Lives.{life_on}
use Rattle.cause_laws.specs.Timeouts.{none, is_call, ends_it}
use Rattle.cause_laws.proofs.Items.{or_true, stirs, Quiet, quiet_lives}
use Rattle.cause_laws.proofs.Named.{lives_on}
use Rattle.cause_laws.proofs.Staying.{Has, is_beside, beside_has, asked_has, new_has, take_has, leave_has}

abbrev pub Standing : List Item → ℕ → Core → Type 0
Standing items p c = (ticket : ℕ) (q : Request) → asked_as p ticket (life p items) ≡ Some q → is_call q ≡ true → list_any (ends_it p ticket) (life p items) ≡ false → Has ticket c.asks

-- ---- the proxy does nothing

later_none : (o : Option Request) → or_later o None ≡ o
later_none None = refl
later_none (Some r) = refl

asked_first : (p ticket : ℕ) (before : List Item) (i : Item) (items : List Item) → is_step_of p before i ≡ false → asked_as p ticket (i ∷ items) ≡ asked_as p ticket items
asked_first p ticket before (item.Asked q t r) items h = ap (λ (b : Bool). cond (b && t == ticket) (Some r) (asked_as p ticket items)) h
asked_first p ticket before (item.World members namespace leasing) items h = refl
asked_first p ticket before (item.Started n) items h = refl
asked_first p ticket before (item.Restarted n) items h = refl
asked_first p ticket before (item.Clock n millis) items h = refl
asked_first p ticket before (item.Posted n t path body) items h = refl
asked_first p ticket before (item.Ticked n) items h = refl
asked_first p ticket before (item.Sent n call member t r) items h = refl
asked_first p ticket before (item.Opened n stream member r) items h = refl
asked_first p ticket before (item.Closed n stream) items h = refl
asked_first p ticket before (item.Executed call a) items h = refl
asked_first p ticket before (item.Answered call) items h = refl
asked_first p ticket before (item.Lost call) items h = refl
asked_first p ticket before (item.Pushed stream i) items h = refl
asked_first p ticket before (item.Delivered stream) items h = refl
asked_first p ticket before (item.Cut stream) items h = refl
asked_first p ticket before (item.Taken n t i) items h = refl
asked_first p ticket before (item.Pending n t) items h = refl
asked_first p ticket before (item.Left n t) items h = refl
asked_first p ticket before (item.Reply n t a) items h = refl
asked_first p ticket before (item.Body n t status text) items h = refl
asked_first p ticket before (item.Expired lease) items h = refl
asked_first p ticket before (item.Applied member revision) items h = refl

pub quiet_unasked : (p ticket : ℕ) (before more : List Item) → Quiet p before more → asked_as p ticket more ≡ None
quiet_unasked p ticket before [] h = refl
quiet_unasked p ticket before (i ∷ more) h =
    let still = or_second (begins p i) (is_step_of p before i) (not_true (stirs p before i) (and_first (not (stirs p before i)) (none (stirs p) (before ++ i ∷ []) more) h)) in
    asked_first p ticket before i more still ∙ quiet_unasked p ticket (before ++ i ∷ []) more (and_second (not (stirs p before i)) (none (stirs p) (before ++ i ∷ []) more) h)

-- what was asked, and not ended, behind more items, was so before them
pub asked_before : (p ticket : ℕ) (told more : List Item) (q : Request) → asked_as p ticket more ≡ None → asked_as p ticket (told ++ more) ≡ Some q → asked_as p ticket told ≡ Some q
asked_before p ticket told more q n e = sym (asked-append p ticket told more ∙ ap (or_later (asked_as p ticket told)) n ∙ later_none (asked_as p ticket told)) ∙ e

pub open_before : (p ticket : ℕ) (told more : List Item) → list_any (ends_it p ticket) (told ++ more) ≡ false → list_any (ends_it p ticket) told ≡ false
open_before p ticket told more h = or_first (list_any (ends_it p ticket) told) (list_any (ends_it p ticket) more) (sym (list_any-append (ends_it p ticket) told more) ∙ h)

open_behind : (p ticket : ℕ) (told more : List Item) → list_any (ends_it p ticket) (told ++ more) ≡ false → list_any (ends_it p ticket) more ≡ false
open_behind p ticket told more h = or_second (list_any (ends_it p ticket) told) (list_any (ends_it p ticket) more) (sym (list_any-append (ends_it p ticket) told more) ∙ h)

pub life_more : (p : ℕ) (items more : List Item) → list_any (begins p) more ≡ false → life p (items ++ more) ≡ life p items ++ more
life_more p items more n = life_on p items more (lives_on p more n)

pub standing_on : (items more : List Item) (p : ℕ) (c : Core) → Quiet p items more → Standing items p c → Standing (items ++ more) p c
standing_on items more p c quiet s ticket q asked call free =
    let same = life_more p items more (quiet_lives p items more quiet) in
    s ticket q (asked_before p ticket (life p items) more q (quiet_unasked p ticket items more quiet) (sym (ap (asked_as p ticket) same) ∙ asked)) call
    (open_before p ticket (life p items) more (sym (ap (list_any (ends_it p ticket)) same) ∙ free))

-- ---- a turn

abbrev pub HasReply : ℕ → Replies → Type 0
HasReply ticket rs = list_any (λ r. r.0 == ticket) rs ≡ true

-- behind the step, before its replies are told
abbrev pub StepStands : List Item → List Item → ℕ → Core → Replies → Type 0
StepStands items own p c told =
    (ticket : ℕ) (q : Request) → asked_as p ticket (life p items ++ own) ≡ Some q → is_call q ≡ true → list_any (ends_it p ticket) (life p items ++ own) ≡ false → Has ticket c.asks ⊎ HasReply ticket told

module _ (items : List Item) (p : ℕ) (x : Place) (w : is_worn x.core ≡ false) (s : Standing items p x.core) where
  -- nothing is asked
  still : (own : List Item) (ticket : ℕ) (q : Request) → asked_as p ticket own ≡ None → asked_as p ticket (life p items ++ own) ≡ Some q → is_call q ≡ true → list_any (ends_it p ticket) (life p items ++ own) ≡ false → Has ticket x.core.asks
  still own ticket q n asked call free = s ticket q (asked_before p ticket (life p items) own q n asked) call (open_before p ticket (life p items) own free)

  pub beside_stands : (own : List Item) (e : CoreEvent) (told : Replies) → is_beside e ≡ true → ((ticket : ℕ) → asked_as p ticket own ≡ None) → StepStands items own p (stepped x.core e x.clock).core told
  beside_stands own e told b n ticket q asked call free = inl (beside_has x.core e x.clock ticket w b (still own ticket q (n ticket) asked call free))

  ask_stands : (own : List Item) (t draw : ℕ) (r : Request) (o : Outcome) → ((ticket : ℕ) → asked_as p ticket own ≡ asked_as p ticket (item.Asked p t r ∷ [])) → (stepped x.core (event.Ask t r draw) x.clock).outcome ≡ Ok o
      → StepStands items own p (stepped x.core (event.Ask t r draw) x.clock).core (told_at_once t o)
  ask_stands own t draw r o own_is is ticket q asked call free = by (asked_as p ticket (life p items)) refl
    where
      both : or_later (asked_as p ticket (life p items)) (cond (p == p && t == ticket) (Some r) None) ≡ Some q
      both = sym (asked-append p ticket (life p items) own ∙ ap (or_later (asked_as p ticket (life p items))) (own_is ticket)) ∙ asked

      told_it : (a : Answer) → o ≡ outcome.Replied a → t ≡ ticket → HasReply ticket (told_at_once t o)
      told_it a e f = ap (λ (z : Outcome). list_any (λ i. i.0 == ticket) (told_at_once t z)) e ∙ ap (λ (b : Bool). b || false) (ap (λ (m : ℕ). m == ticket) f ∙ number_itself ticket)

      same_request : Some r ≡ Some q → r ≡ q
      same_request f = cc

      new : (b : Bool) → (t == ticket) ≡ b → cond b (Some r) None ≡ Some q → Has ticket (stepped x.core (event.Ask t r draw) x.clock).core.asks ⊎ HasReply ticket (told_at_once t o)
      new true f g =
          let its = same_number t ticket f in
          by_either its (new_has x.core x.clock t draw r o w is (ap is_call (same_request g) ∙ call))
        where
          by_either : t ≡ ticket → Has t (stepped x.core (event.Ask t r draw) x.clock).core.asks ⊎ ((a : Answer) × (o ≡ outcome.Replied a)) → Has ticket (stepped x.core (event.Ask t r draw) x.clock).core.asks ⊎ HasReply ticket (told_at_once t o)
          by_either e (inl h) = inl (subst (λ (n : ℕ). Has n (stepped x.core (event.Ask t r draw) x.clock).core.asks) e h)
          by_either e (inr h) = inr (told_it h.0 h.1 e)
      new false f g = absurd (cc)

      by : (a : Option Request) → asked_as p ticket (life p items) ≡ a → Has ticket (stepped x.core (event.Ask t r draw) x.clock).core.asks ⊎ HasReply ticket (told_at_once t o)
      by (Some y) e =
          let same : Some y ≡ Some q = sym (ap (λ (a : Option Request). or_later a (cond (p == p && t == ticket) (Some r) None)) e) ∙ both in
          inl (asked_has x.core x.clock t ticket draw r w (s ticket q (e ∙ same) call (open_before p ticket (life p items) own free)))
      by None e =
          new (t == ticket) refl
          (sym (ap (λ (b : Bool). cond (b && t == ticket) (Some r) None) (number_itself p)) ∙ sym (ap (λ (a : Option Request). or_later a (cond (p == p && t == ticket) (Some r) None)) e) ∙ both)

  -- its own item names another ticket
  apart : (t ticket : ℕ) (rest : List Item) (i : Item) → ends_it p ticket i ≡ (p == p && t == ticket) → list_any (ends_it p ticket) (life p items ++ i ∷ rest) ≡ false → (t == ticket) ≡ false
  apart t ticket rest i is free =
      let here = or_first (ends_it p ticket i) (list_any (ends_it p ticket) rest) (open_behind p ticket (life p items) (i ∷ rest) free) in
      sym (ap (λ (b : Bool). b && t == ticket) (number_itself p)) ∙ sym is ∙ here

  take_stands : (t : ℕ) (i : Item) (rest : List Item) → ((ticket : ℕ) → ends_it p ticket i ≡ (p == p && t == ticket)) → ((ticket : ℕ) → asked_as p ticket (i ∷ rest) ≡ None) → StepStands items (i ∷ rest) p (stepped x.core (event.Take t) x.clock).core []
  take_stands t i rest is n ticket q asked call free = by (take_has x.core x.clock t ticket w (still (i ∷ rest) ticket q (n ticket) asked call free))
    where
      by : Has ticket (stepped x.core (event.Take t) x.clock).core.asks ⊎ (((ticket == t) ≡ true) × (a : Answer) × ((stepped x.core (event.Take t) x.clock).outcome ≡ Ok (outcome.Replied a))) → Has ticket (stepped x.core (event.Take t) x.clock).core.asks ⊎ HasReply ticket []
      by (inl h) = inl h
      by (inr h) = absurd (let f : true ≡ false = sym (number_itself ticket) ∙ ap (λ (m : ℕ). m == ticket) (same_number ticket t h.0) ∙ apart t ticket rest i (is ticket) free in cc)

  taken_unasked : (b : Bool) (t ticket : ℕ) (i : WatchItem) → asked_as p ticket (item.Taken p t i ∷ line_if b p t i) ≡ None
  taken_unasked true t ticket i = refl
  taken_unasked false t ticket i = refl

  pub turn_stands : (v : World) (e : CoreEvent) (o : Outcome) (u : World) (y : Place) (own : List Item) (told : Replies) → (stepped x.core e x.clock).outcome ≡ Ok o → Turn v p (stepped_to x e) e o u y own told → StepStands items own p (stepped x.core e x.clock).core told
  turn_stands v _ _ _ _ _ _ is (ticks o) = beside_stands _ _ [] refl (λ t. refl)
  turn_stands v _ _ _ _ _ _ is (asks_it ticket q o n) = ask_stands _ ticket (word v) q o (λ t. refl) is
  turn_stands v _ _ _ _ _ _ is (posts_it ticket path body q o n) = ask_stands _ ticket (word v) q o (λ t. refl) is
  turn_stands v _ _ _ _ _ _ is (calls own member ticket q) = beside_stands _ _ [] refl (λ t. refl)
  turn_stands v _ _ _ _ _ _ is (opens own member ask) = beside_stands _ _ [] refl (λ t. refl)
  turn_stands v _ _ _ _ _ _ is (closes own number e) = beside_stands _ _ [] refl (λ t. refl)
  turn_stands v _ _ _ _ _ _ is (answers number call a o e f) = beside_stands _ _ [] refl (λ t. refl)
  turn_stands v _ _ _ _ _ _ is (loses number call o e) = beside_stands _ _ [] refl (λ t. refl)
  turn_stands v _ _ _ _ _ _ is (delivers number st i rest o a b c d f) = beside_stands _ _ [] refl (λ t. refl)
  turn_stands v _ _ _ _ _ _ is (cuts number st o a b c d) = beside_stands _ _ [] refl (λ t. refl)
  turn_stands v _ _ _ _ _ _ is (takes ticket i) = take_stands ticket (item.Taken p ticket i) _ (λ t. refl) (λ t. taken_unasked (is_among x.posted ticket) ticket t i)
  turn_stands v _ _ _ _ _ _ is (waits ticket o n) = take_stands ticket (item.Pending p ticket) [] (λ t. refl) (λ t. refl)
  turn_stands v _ _ _ _ _ _ is (leaves t o) = λ ticket q asked call free.
      inl (leave_has x.core x.clock t ticket w (number_turned t ticket (apart t ticket [] (item.Left p t) refl free)) (still (item.Left p t ∷ []) ticket q refl asked call free))

-- ---- replies are fetched

has_put : (ticket : ℕ) (a : Answer) (rs : Replies) → HasReply ticket (with_reply ticket a rs)
has_put ticket a [] = ap (λ (b : Bool). b || false) (number_itself ticket)
has_put ticket a (r ∷ rs) = by (nat_cmp ticket r.0) refl (has_put ticket a rs)
  where
    by : (o : Ordering) → nat_cmp ticket r.0 ≡ o → HasReply ticket (put nat_cmp ticket a rs) → HasReply ticket (by_order o ((ticket, a) ∷ r ∷ rs) ((r.0, a) ∷ rs) (r ∷ put nat_cmp ticket a rs))
    by Less e k = ap (λ (b : Bool). b || ((r.0 == ticket) || list_any (λ i. i.0 == ticket) rs)) (number_itself ticket)
    by Equal e k = ap (λ (b : Bool). b || list_any (λ i. i.0 == ticket) rs) (ap (λ (m : ℕ). m == ticket) (sym (nat_cmp-IsAntisymmetric ticket r.0 e)) ∙ number_itself ticket)
    by Greater e k = ap (λ (b : Bool). (r.0 == ticket) || b) k ∙ or_true (r.0 == ticket)

put_has : (ticket t : ℕ) (a : Answer) (rs : Replies) → HasReply ticket rs → HasReply ticket (with_reply t a rs)
put_has ticket t a [] h = absurd (cc)
put_has ticket t a (r ∷ rs) h = by (nat_cmp t r.0) (put_has ticket t a rs)
  where
    behind : (b : Bool) → b || list_any (λ i. i.0 == ticket) rs ≡ true → (HasReply ticket rs → HasReply ticket (put nat_cmp t a rs)) → b || list_any (λ i. i.0 == ticket) (put nat_cmp t a rs) ≡ true
    behind true k more = refl
    behind false k more = more k

    by : (o : Ordering) → (HasReply ticket rs → HasReply ticket (put nat_cmp t a rs)) → HasReply ticket (by_order o ((t, a) ∷ r ∷ rs) ((r.0, a) ∷ rs) (r ∷ put nat_cmp t a rs))
    by Less more = ap (λ (b : Bool). (t == ticket) || b) h ∙ or_true (t == ticket)
    by Equal more = h
    by Greater more = behind (r.0 == ticket) h more

-- it stays, or is taken with its reply
abbrev GoesBy : ℕ → Place → ℕ → Type 0
GoesBy ticket x t = Has ticket (stepped x.core (event.Take t) x.clock).core.asks ⊎ (((ticket == t) ≡ true) × (a : Answer) × ((stepped x.core (event.Take t) x.clock).outcome ≡ Ok (outcome.Replied a)))

fetched_stands : (ticket n : ℕ) (x : Place) (got : Replies) → Has ticket x.core.asks ⊎ HasReply ticket got → Has ticket (fetched n x got).place.core.asks ⊎ HasReply ticket (fetched n x got).replies
fetched_stands ticket zero x got h = h
fetched_stands ticket (suc n) x got h = by (ready x.core) (λ y g k. fetched_stands ticket n y g k)
  where
    goes : (t : ℕ) → Has ticket x.core.asks → GoesBy ticket x t
    goes t k = by_worn (is_worn x.core) refl
      where
        by_worn : (b : Bool) → is_worn x.core ≡ b → GoesBy ticket x t
        by_worn true u = inl (subst (λ (s : Stepped). Has ticket s.core.asks) (sym (worn_does_nothing x.core (event.Take t) x.clock u)) k)
        by_worn false u = take_has x.core x.clock t ticket u k

    -- a reply is put
    replied : (t : ℕ) (a : Answer) → Has ticket x.core.asks ⊎ HasReply ticket got → Has ticket (stepped x.core (event.Take t) x.clock).core.asks ⊎ HasReply ticket (with_reply t a got)
    replied t a (inr k) = inr (put_has ticket t a got k)
    replied t a (inl k) = by_goes (goes t k)
      where
        by_goes : GoesBy ticket x t → Has ticket (stepped x.core (event.Take t) x.clock).core.asks ⊎ HasReply ticket (with_reply t a got)
        by_goes (inl m) = inl m
        by_goes (inr m) = inr (subst (λ (z : ℕ). HasReply ticket (with_reply z a got)) (same_number ticket t m.0) (has_put ticket a got))

    -- none is
    other : (t : ℕ) (r : Result Outcome StepFault) → (stepped x.core (event.Take t) x.clock).outcome ≡ r → ((a : Answer) → r ≡ Ok (outcome.Replied a) → ⊥) → Has ticket x.core.asks ⊎ HasReply ticket got → Has ticket (stepped x.core (event.Take t) x.clock).core.asks ⊎ HasReply ticket got
    other t r is none' (inr k) = inr k
    other t r is none' (inl k) = by_goes (goes t k)
      where
        by_goes : GoesBy ticket x t → Has ticket (stepped x.core (event.Take t) x.clock).core.asks ⊎ HasReply ticket got
        by_goes (inl m) = inl m
        by_goes (inr m) = absurd (none' m.1 (sym is ∙ m.2))

    by_outcome : (t : ℕ) (r : Result Outcome StepFault) → (stepped x.core (event.Take t) x.clock).outcome ≡ r
        → ((y : Place) (g : Replies) → Has ticket y.core.asks ⊎ HasReply ticket g → Has ticket (fetched n y g).place.core.asks ⊎ HasReply ticket (fetched n y g).replies)
        → let y = with_core x (stepped x.core (event.Take t) x.clock).core in Has ticket (fetched_as (fetched n) y t got r).place.core.asks ⊎ HasReply ticket (fetched_as (fetched n) y t got r).replies
    by_outcome t (Ok (outcome.Replied a)) is more = more (with_core x (stepped x.core (event.Take t) x.clock).core) (with_reply t a got) (replied t a h)
    by_outcome t (Ok outcome.Waiting) is more = other t _ is (λ a e. absurd (cc)) h
    by_outcome t (Ok outcome.Pending) is more = other t _ is (λ a e. absurd (cc)) h
    by_outcome t (Ok outcome.Noted) is more = other t _ is (λ a e. absurd (cc)) h
    by_outcome t (Ok (outcome.Item i)) is more = other t _ is (λ a e. absurd (cc)) h
    by_outcome t (Ok (outcome.Job j)) is more = other t _ is (λ a e. absurd (cc)) h
    by_outcome t (Err f) is more = other t _ is (λ a e. absurd (cc)) h

    by : (o : Option ℕ) → ((y : Place) (g : Replies) → Has ticket y.core.asks ⊎ HasReply ticket g → Has ticket (fetched n y g).place.core.asks ⊎ HasReply ticket (fetched n y g).replies)
        → Has ticket (fetched_if (fetched n) x got o).place.core.asks ⊎ HasReply ticket (fetched_if (fetched n) x got o).replies
    by None more = h
    by (Some t) more = by_outcome t (stepped x.core (event.Take t) x.clock).outcome refl more

-- a reply is told
replied_ends : (p ticket : ℕ) (posted : BTreeSet ℕ) (rs : Replies) → HasReply ticket rs → list_any (ends_it p ticket) (flat_map (reply_items p posted) rs) ≡ true
replied_ends p ticket posted [] h = absurd (cc)
replied_ends p ticket posted (r ∷ rs) h = by (r.0 == ticket) refl h (replied_ends p ticket posted rs)
  where
    behind : (b : Bool) → list_any (ends_it p ticket) (flat_map (reply_items p posted) rs) ≡ true → list_any (ends_it p ticket) (body_if b p r.0 r.1 ++ flat_map (reply_items p posted) rs) ≡ true
    behind true k = k
    behind false k = k

    by : (b : Bool) → (r.0 == ticket) ≡ b → b || list_any (λ i. i.0 == ticket) rs ≡ true → (HasReply ticket rs → list_any (ends_it p ticket) (flat_map (reply_items p posted) rs) ≡ true)
        → list_any (ends_it p ticket) (item.Reply p r.0 r.1 ∷ (body_if (is_among posted r.0) p r.0 r.1 ++ flat_map (reply_items p posted) rs)) ≡ true
    by true e k more = (λ i. (number_itself p i && e i) || list_any (ends_it p ticket) (body_if (is_among posted r.0) p r.0 r.1 ++ flat_map (reply_items p posted) rs))
    by false e k more = ap (λ (b : Bool). ((p == p) && (r.0 == ticket)) || b) (behind (is_among posted r.0) (more k)) ∙ or_true ((p == p) && (r.0 == ticket))

-- behind the replies
pub line_stands : (items own : List Item) (p : ℕ) (y : Place) (told : Replies) → list_any (begins p) own ≡ false → StepStands items own p y.core told
    → let f = all_fetched y told in Quiet p (items ++ own) (flat_map (reply_items p f.place.posted) f.replies) → Standing (items ++ (own ++ flat_map (reply_items p f.place.posted) f.replies)) p f.place.core
line_stands items own p y told lives s quiet ticket q asked call free =
    let f = all_fetched y told in
    let rest = flat_map (reply_items p f.place.posted) f.replies in
    let mine = life p items ++ own in
    let same : life p (items ++ (own ++ rest)) ≡ mine ++ rest =
    ap (life p) (sym (append_assoc items own rest)) ∙ life_more p (items ++ own) rest (quiet_lives p (items ++ own) rest quiet) ∙ ap (λ (xs : List Item). xs ++ rest) (life_more p items own lives) in
    let asked' = asked_before p ticket mine rest q (quiet_unasked p ticket (items ++ own) rest quiet) (sym (ap (asked_as p ticket) same) ∙ asked) in
    let free' : list_any (ends_it p ticket) (mine ++ rest) ≡ false = sym (ap (list_any (ends_it p ticket)) same) ∙ free in
    by f (fetched_stands ticket (length y.core.asks) y told (s ticket q asked' call (open_before p ticket mine rest free'))) (open_behind p ticket mine rest free')
  where
    by : (f : Fetched) → Has ticket f.place.core.asks ⊎ HasReply ticket f.replies → list_any (ends_it p ticket) (flat_map (reply_items p f.place.posted) f.replies) ≡ false → Has ticket f.place.core.asks
    by f (inl h) n = h
    by f (inr h) n = absurd (let e : true ≡ false = sym (replied_ends p ticket f.place.posted f.replies h) ∙ n in cc)
