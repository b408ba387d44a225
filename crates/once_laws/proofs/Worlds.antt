-- What is known of the writes of each proxy behind each prefix of a script: each line keeps it.
use Rattle.std.proofs.Common.{◌≡◌, ◌≢◌, ◌⊎◌, inl, inr, ℕ, zero, suc, ◌+◌, ◌-◌, ◌==◌, ◌||◌, ◌&&◌, Bool, true, false, not, cond, List, [], ◌∷◌, ◌++◌, append_assoc, length, slice_get, Option, None, Some, is_some, Result, Ok, Err, refl, sym, ◌∙◌, ap, subst}
use Rattle.std.specs.Prelude.{flat_map}
use Rattle.std.specs.List.{list_all}
use Rattle.std.proofs.lemmas.List.Folds.{list_all-append}
use Rattle.std.specs.BTreeSet.{BTreeSet}
use Rattle.etcd_types.proofs.Bools.{and_both, and_first, and_second}
use Rattle.etcd_types.specs.declared.answer.Answer.{Answer}
use Rattle.etcd_types.specs.declared.answer.Answer.TheVariants.{Refused}
use Rattle.etcd_types.specs.declared.answer.Refusal.{Refusal}
use Rattle.etcd_types.specs.declared.request.Request.{Request}
use Rattle.proxy_model.specs.Keyed.{is_in_order}
use Rattle.read_model.specs.declared.asked.Asked.{Asked}
use Rattle.core_model.specs.declared.event.CoreEvent.{CoreEvent}
use Rattle.core_model.specs.declared.event.CoreEvent.TheVariants as event
use Rattle.core_model.specs.declared.event.Outcome.{Outcome}
use Rattle.core_model.specs.declared.event.Outcome.TheVariants as outcome
use Rattle.core_model.specs.declared.event.StepFault.{StepFault}
use Rattle.core_model.specs.ClockWork.{clock_work}
use Rattle.core_model.specs.Fits.{CoreOk}
use Rattle.core_model.specs.State.{Core}
use Rattle.core_model.specs.Step.{is_worn, stepped}
use Rattle.core_model.specs.Takes.{ready}
use Rattle.core_laws.proofs.Steps.Stepping.{steps_keep}
use Rattle.owner_fits.specs.Laws.{OwnersFit}
use Rattle.owner_fits.proofs.Runs.{steps_fit}
use Rattle.store_model.specs.Step.{exec}
use Rattle.script_text.specs.declared.item.Item.{Item}
use Rattle.script_text.specs.declared.item.Item.TheVariants as item
use Rattle.script_text.specs.declared.line.Line.{Line}
use Rattle.world_model.specs.declared.sent_call.SentCall.{SentCall}
use Rattle.world_model.specs.Gains.{Replies, with_reply, fetched_as, fetched_if, fetched, all_fetched, body_if, line_if, reply_items}
use Rattle.world_model.specs.Lives.{life, asked_as, is_named}
use Rattle.world_model.specs.Places.{nth, with_nth, is_among, kept_at, place_at, with_core, with_place, with_posted, with_call}
use Rattle.world_model.specs.Sends as sends
use Rattle.world_model.specs.Sends.{closed_in}
use Rattle.world_model.specs.Starts.{new_place}
use Rattle.world_model.specs.State.{Numbered, Place, OpenedStream, World}
use Rattle.world_model.specs.Transcript.{done}
use Rattle.world_laws.proofs.Effects.{Turn, ticks, asks_it, posts_it, calls, opens, closes, answers, loses, delivers, cuts, takes, waits, leaves, Begins, first, again, Effect, starts, sets, executes, expires, applies, pushes, turns}
use Rattle.world_laws.proofs.Effects as effects
use Rattle.held_laws.proofs.Items.{reply_silent, reply_unasking}
use Rattle.held_laws.proofs.Kept.{nth_itself, nth_other}
use Rattle.held_laws.proofs.Lines.{start_silent, started_life}
use Rattle.held_laws.proofs.Opens.{last_nth}
use Rattle.held_laws.proofs.Worlds.{equal, no_place, one_place, placed_itself, placed_other}
use Rattle.keep_laws.proofs.Rows.{All, all_kept, Goes as AskGoes, stays, hushes}
use Rattle.keep_laws.proofs.Steps.{clock_all, stepped_all}
use Rattle.prefix_laws.proofs.Prefixes.{IsKept}
use Rattle.prefix_laws.proofs.Places.{OfPlaces, NoneLeft}
use Rattle.renewed_laws.proofs.Gains.{is_other, stepped_to, Gain, gain}
use Rattle.renewed_laws.proofs.Gains as gains
use Rattle.renewed_laws.proofs.Lives.{Lives, IsStill, life_on, lives-append, replies_still, still-append}
use Rattle.renewed_laws.proofs.Lines.{ran_executes}
use Rattle.renewed_laws.proofs.Replies.{Each, each_put, has_given}
use Rattle.renewed_laws.proofs.Rows.{Row}
use Rattle.renewed_laws.proofs.Stories.{Executed, IsExecuted, executed_on}
use Rattle.renewed_laws.proofs.Turns.{answer_turned, turned}
use Rattle.renewed_laws.proofs.Worlds.{answer_by, answers_of, life_of, WorldOk, Executes, executes_on, same_executes, come_executes, Turned}
use Rattle.executed_laws.proofs.Keeping.{PlaceSent, turn_rows}
use Rattle.executed_laws.proofs.Naming.{Unnamed, Unnaming, unnamed_on, unnaming-append, replies_unnaming, reply_unnaming, taken_unnaming, turn_names, turn_others}
use Rattle.executed_laws.proofs.Sends.{AllSent, stepped_so, clock_sent, sent_more}
use Rattle.once_laws.proofs.Answers.{Holds, Known, taken_holds}
use Rattle.once_laws.proofs.FreeCore.{CoreFree, clock_free}
use Rattle.once_laws.proofs.FreeSends.{all_go}
use Rattle.once_laws.proofs.FreeSteps.{stepped_free}
use Rattle.once_laws.proofs.Holds.{NoneOf, DidOf, MostOf, OnlyOf, StillExecuted, still_appended, goes_on, most_still}
use Rattle.once_laws.proofs.OfKinds.{KindsOk, step_kinds}
use Rattle.once_laws.proofs.Sending.{Off, On, IsItself, IsBehind, FreeIn}
use Rattle.once_laws.proofs.Turning.{Before, Behind, quiet, unsent, asked_turn, answered_turn, lost_turn, sent_turn}

-- ---- replies are fetched

abbrev pub Ordered : Core → Type 0
Ordered c = AllSent (λ t n. Unit {0}) (λ t n. Unit {0}) (λ t n. Unit {0}) c

-- of a core whose parts agree
pub record Stands (namespace prefix : List ℕ) (p : ℕ) (items told : List Item) (own : ℕ → Option ℕ) (c : Core) : Type 0 where
  pub ok : CoreOk c
  pub owners : OwnersFit c
  pub ordered : Ordered c
  pub kinds : KindsOk c
  pub free : FreeIn namespace prefix p items told own c
  pub known : All (λ x. asked_as p x.ticket told ≡ Some x.request) c.asks

module _ (namespace prefix : List ℕ) (p : ℕ) (items told : List Item) (own : ℕ → Option ℕ) where
  abbrev KnownAt : Asked → Type 0
  KnownAt x = asked_as p x.ticket told ≡ Some x.request

  known_lasts : (x y : Asked) → AskGoes x y → KnownAt x → KnownAt y
  known_lasts x y (stays e) h = subst KnownAt (sym e) h
  known_lasts x y (hushes t q s) h = ap (λ (n : ℕ). asked_as p n told) t ∙ h ∙ ap (λ (r : Request). Some r) (sym q)

  abbrev pub St : Core → Type 0
  St c = Stands namespace prefix p items told own c

  order_of : (now : ℕ) (c : Core) → Ordered c → is_in_order (clock_work now c).acquires ≡ true
  order_of now c h = (clock_sent (λ t n. Unit {0}) (λ t n. Unit {0}) (λ t n. Unit {0}) now c h).acquires.order

  take_no_work : (ticket : ℕ) → event.Take ticket ≡ event.Work → ⊥
  take_no_work ticket e = absurd (cc)

  take_stands : (c : Core) (ticket now : ℕ) → St c → St (stepped c (event.Take ticket) now).core
  take_stands c ticket now h = record {
    ok = steps_keep c (event.Take ticket) now tt h.ok;
    owners = steps_fit c (event.Take ticket) now tt h.ok h.owners;
    ordered = stepped_so (λ t n. Unit {0}) (λ t n. Unit {0}) (λ t n. Unit {0}) c (event.Take ticket) now h.ok (λ g. absurd (take_no_work ticket g)) h.ordered;
    kinds = step_kinds c (event.Take ticket) now tt h.ok h.owners (order_of now c h.ordered) h.kinds;
    free = stepped_free (NoneOf namespace prefix p items told) (DidOf namespace prefix p items told) (OnlyOf namespace prefix p items told own (IsItself prefix)) (OnlyOf namespace prefix p items told own (IsBehind namespace prefix)) (Off prefix) (On prefix) c (event.Take ticket) now tt h.free;
    known = stepped_all KnownAt KnownAt known_lasts (record { turns = λ x k. k; lasts = known_lasts }) (event.Take ticket) now c h.ok (λ w. tt) h.known;
  }

  take_holds : (c : Core) (ticket now : ℕ) (a : Answer) → St c → (stepped c (event.Take ticket) now).outcome ≡ Ok (outcome.Replied a) → Holds namespace prefix p items told ticket a
  take_holds c ticket now a h e =
      taken_holds namespace prefix p items told own ticket (clock_work now c) a
      (clock_free (NoneOf namespace prefix p items told) (DidOf namespace prefix p items told) (OnlyOf namespace prefix p items told own (IsItself prefix)) (OnlyOf namespace prefix p items told own (IsBehind namespace prefix)) (Off prefix) (On prefix) now c h.free).0
      (clock_all KnownAt known_lasts now c h.known) (has_given c (event.Take ticket) now (outcome.Replied a) e)

  abbrev pub Told : ℕ × Answer → Type 0
  Told r = Holds namespace prefix p items told r.0 r.1

  pub record Fetches (x z : Place) (rs : Replies) : Type 0 where
    pub core : St z.core
    pub calls : z.calls ≡ x.calls
    pub replies : Each Told rs

  on : (x y z : Place) (rs : Replies) → y.calls ≡ x.calls → Fetches y z rs → Fetches x z rs
  on x y z rs c h = record { core = h.core; calls = h.calls ∙ c; replies = h.replies }

  pub fetched_holds : (n : ℕ) (x : Place) (got : Replies) → St x.core → Each Told got → Fetches x (fetched n x got).place (fetched n x got).replies
  fetched_holds zero x got h t = record { core = h; calls = refl; replies = t }
  fetched_holds (suc n) x got h t = by (ready x.core) (λ y g k u. fetched_holds n y g k u)
    where
      by_outcome : (ticket : ℕ) (y : Place) (r : Result Outcome StepFault) → (stepped x.core (event.Take ticket) x.clock).outcome ≡ r → y.calls ≡ x.calls → St y.core
          → ((y : Place) (g : Replies) → St y.core → Each Told g → Fetches y (fetched n y g).place (fetched n y g).replies) → Fetches x (fetched_as (fetched n) y ticket got r).place (fetched_as (fetched n) y ticket got r).replies
      by_outcome ticket y (Ok (outcome.Replied a)) e c k more =
          on x y (fetched n y (with_reply ticket a got)).place (fetched n y (with_reply ticket a got)).replies c (more y (with_reply ticket a got) k (each_put Told ticket a got (take_holds x.core ticket x.clock a h e) t))
      by_outcome ticket y (Ok outcome.Waiting) e c k more = record { core = k; calls = c; replies = t }
      by_outcome ticket y (Ok outcome.Pending) e c k more = record { core = k; calls = c; replies = t }
      by_outcome ticket y (Ok outcome.Noted) e c k more = record { core = k; calls = c; replies = t }
      by_outcome ticket y (Ok (outcome.Item i)) e c k more = record { core = k; calls = c; replies = t }
      by_outcome ticket y (Ok (outcome.Job j)) e c k more = record { core = k; calls = c; replies = t }
      by_outcome ticket y (Err f) e c k more = record { core = k; calls = c; replies = t }

      by : (o : Option ℕ) → ((y : Place) (g : Replies) → St y.core → Each Told g → Fetches y (fetched n y g).place (fetched n y g).replies) → Fetches x (fetched_if (fetched n) x got o).place (fetched_if (fetched n) x got o).replies
      by None more = record { core = h; calls = refl; replies = t }
      by (Some ticket) more =
          by_outcome ticket (with_core x (stepped x.core (event.Take ticket) x.clock).core) (stepped x.core (event.Take ticket) x.clock).outcome refl refl (take_stands x.core ticket x.clock h) more

-- ---- what is known behind a prefix

pub record PlaceOnce (namespace prefix : List ℕ) (items : List Item) (p : ℕ) (x : Place) : Type 0 where
  pub free : FreeIn namespace prefix p items (life p items) (nth x.calls) x.core
  pub kinds : KindsOk x.core

-- a call that was executed is known to be
pub record KnownCall (w : World) (call : ℕ) : Type 0 where
  pub sent : SentCall
  pub there : nth w.calls call ≡ Some sent
  pub done : is_some sent.executed ≡ true

pub record WorldOnce (namespace prefix : List ℕ) (items : List Item) (w : World) : Type 0 where
  pub places : (p : ℕ) (x : Place) → place_at w p ≡ Some x → PlaceOnce namespace prefix items p x
  pub most : (p t : ℕ) → MostOf namespace prefix p items (life p items) t
  pub executed : (call : ℕ) → IsExecuted call (answers_of w.calls call) items
  pub once : (call : ℕ) (a : Answer) → Executed call a items → KnownCall w call

-- calls that were executed stay so
abbrev pub Lasting : World → World → Type 0
Lasting w v = (call : ℕ) → KnownCall w call → KnownCall v call

-- ---- items that tell of no execution

abbrev pub is_plain : Item → Bool
is_plain (item.Executed call a) = false
is_plain _ = true

pub plain_front : (items more : List Item) (call : ℕ) (a : Answer) → list_all is_plain more ≡ true → Executed call a (items ++ more) → Executed call a items
plain_front items more call a plain e = by items e.before e.story
  where
    one : (i : Item) (xs ys : List Item) (j : Item) → i ∷ xs ≡ j ∷ ys → (i ≡ j) × (xs ≡ ys)
    one i xs ys j f = (cc, cc)

    none : (xs before after : List Item) → list_all is_plain xs ≡ true → xs ≡ before ++ item.Executed call a ∷ after → ⊥
    none [] [] after h f = absurd (cc)
    none [] (j ∷ before) after h f = absurd (cc)
    none (i ∷ xs) [] after h f = absurd (let g : false ≡ true = ap is_plain (sym (one i xs after (item.Executed call a) f).0) ∙ and_first (is_plain i) (list_all is_plain xs) h in cc)
    none (i ∷ xs) (j ∷ before) after h f = none xs before after (and_second (is_plain i) (list_all is_plain xs) h) (one i xs (before ++ item.Executed call a ∷ after) j f).1

    by : (xs before : List Item) → xs ++ more ≡ before ++ item.Executed call a ∷ e.after → Executed call a xs
    by [] before f = absurd (none more before e.after plain f)
    by (i ∷ xs) [] f = record { before = []; after = xs; story = ap (λ (j : Item). j ∷ xs) (one i (xs ++ more) e.after (item.Executed call a) f).0 }
    by (i ∷ xs) (j ∷ before) f =
        let k = by xs before (one i (xs ++ more) (before ++ item.Executed call a ∷ e.after) j f).1 in
        record { before = i ∷ k.before; after = k.after; story = ap (λ (ys : List Item). i ∷ ys) k.story }

body_plain : (b : Bool) (p t : ℕ) (a : Answer) → list_all is_plain (body_if b p t a) ≡ true
body_plain true p t a = refl
body_plain false p t a = refl

pub replies_plain : (p : ℕ) (posted : BTreeSet ℕ) (rs : Replies) → list_all is_plain (flat_map (reply_items p posted) rs) ≡ true
replies_plain p posted [] = refl
replies_plain p posted (r ∷ rs) =
    list_all-append is_plain (reply_items p posted r) (flat_map (reply_items p posted) rs)
    ∙ and_both (list_all is_plain (reply_items p posted r)) (list_all is_plain (flat_map (reply_items p posted) rs)) (body_plain (is_among posted r.0) p r.0 r.1) (replies_plain p posted rs)

pub turn_plain : (w : World) (p : ℕ) (x : Place) (e : CoreEvent) (o : Outcome) (v : World) (y : Place) (own : List Item) (told : Replies) → Turn w p x e o v y own told → list_all is_plain own ≡ true
turn_plain w p x _ _ _ _ _ _ (ticks o) = refl
turn_plain w p x _ _ _ _ _ _ (asks_it t r o f) = refl
turn_plain w p x _ _ _ _ _ _ (posts_it t path body r o f) = refl
turn_plain w p x _ _ _ _ _ _ (calls own member t r) = refl
turn_plain w p x _ _ _ _ _ _ (opens own member ask) = refl
turn_plain w p x _ _ _ _ _ _ (closes own number e) = refl
turn_plain w p x _ _ _ _ _ _ (answers number call a o e k) = refl
turn_plain w p x _ _ _ _ _ _ (loses number call o e) = refl
turn_plain w p x _ _ _ _ _ _ (delivers number s i more o a b c d e) = refl
turn_plain w p x _ _ _ _ _ _ (cuts number s o a b c d) = refl
turn_plain w p x _ _ _ _ _ _ (takes t i) = by (is_among x.posted t)
  where
    by : (b : Bool) → list_all is_plain (line_if b p t i) ≡ true
    by true = refl
    by false = refl
turn_plain w p x _ _ _ _ _ _ (waits t o f) = refl
turn_plain w p x _ _ _ _ _ _ (leaves t o) = refl

-- ---- calls that were executed stay so

get_front : {A : Type 0} (xs : List A) (y : A) (i : ℕ) (z : A) → slice_get xs i ≡ Some z → slice_get (xs ++ y ∷ []) i ≡ Some z
get_front [] y i z e = absurd (cc)
get_front (x ∷ xs) y zero z e = e
get_front (x ∷ xs) y (suc i) z e = get_front xs y i z e

nth_front : {A : Type 0} (xs : List A) (y : A) (number : ℕ) (z : A) → nth xs number ≡ Some z → nth (xs ++ y ∷ []) number ≡ Some z
nth_front xs y number z e = by (number == 0) e
  where
    by : (b : Bool) → cond b None (slice_get xs (number - 1)) ≡ Some z → cond b None (slice_get (xs ++ y ∷ []) (number - 1)) ≡ Some z
    by true e = absurd (cc)
    by false e = get_front xs y (number - 1) z e

pub same_lasting : (w v : World) → v.calls ≡ w.calls → Lasting w v
same_lasting w v e call k = record { sent = k.sent; there = ap (λ (cs : List SentCall). nth cs call) e ∙ k.there; done = k.done }

same_sent : (a b : SentCall) → Some a ≡ Some b → a ≡ b
same_sent a b e = cc

-- one of them is put anew, and is executed where it was
pub changed_lasting : (w v : World) (number : ℕ) (s t : SentCall) → nth w.calls number ≡ Some s → v.calls ≡ with_nth w.calls number t → (is_some s.executed ≡ true → is_some t.executed ≡ true) → Lasting w v
changed_lasting w v number s t there e f call k = by (call == number) refl
  where
    by : (b : Bool) → (call == number) ≡ b → KnownCall v call
    by true n =
        let same = equal call number n in
        record {
          sent = t;
          there = ap (λ (cs : List SentCall). nth cs call) e ∙ ap (nth (with_nth w.calls number t)) same ∙ nth_itself w.calls number s t there;
          done = f (ap (λ (c : SentCall). is_some c.executed) (sym (same_sent k.sent s (sym k.there ∙ ap (nth w.calls) same ∙ there))) ∙ k.done);
        }
    by false n = record { sent = k.sent; there = ap (λ (cs : List SentCall). nth cs call) e ∙ nth_other w.calls number call s t there n ∙ k.there; done = k.done }

closed_calls : (w : World) (number : ℕ) (o : Option OpenedStream) → (closed_in w number o).calls ≡ w.calls
closed_calls w number None = refl
closed_calls w number (Some s) = refl

pub turn_lasting : (w : World) (p : ℕ) (x : Place) (e : CoreEvent) (o : Outcome) (v : World) (y : Place) (own : List Item) (told : Replies) → Turn w p x e o v y own told → Lasting w v
turn_lasting w p x _ _ _ _ _ _ (ticks o) = same_lasting w w refl
turn_lasting w p x _ _ _ _ _ _ (asks_it t r o f) = same_lasting w w refl
turn_lasting w p x _ _ _ _ _ _ (posts_it t path body r o f) = same_lasting w w refl
turn_lasting w p x _ _ v _ _ _ (calls own member t r) = λ call k. record { sent = k.sent; there = nth_front w.calls _ call k.sent k.there; done = k.done }
turn_lasting w p x _ _ v _ _ _ (opens own member ask) = same_lasting w _ refl
turn_lasting w p x _ _ _ _ _ _ (closes own number e) = same_lasting w (closed_in w number (nth w.streams number)) (closed_calls w number (nth w.streams number))
turn_lasting w p x _ _ _ _ _ _ (answers number call a o e k) = changed_lasting w (with_call w number (record call { settled = true })) number call (record call { settled = true }) e refl (λ d. d)
turn_lasting w p x _ _ _ _ _ _ (loses number call o e) = changed_lasting w (with_call w number (record call { settled = true })) number call (record call { settled = true }) e refl (λ d. d)
turn_lasting w p x _ _ v _ _ _ (delivers number s i more o a b c d e) = same_lasting w _ refl
turn_lasting w p x _ _ v _ _ _ (cuts number s o a b c d) = same_lasting w _ refl
turn_lasting w p x _ _ _ _ _ _ (takes t i) = same_lasting w w refl
turn_lasting w p x _ _ _ _ _ _ (waits t o f) = same_lasting w w refl
turn_lasting w p x _ _ _ _ _ _ (leaves t o) = same_lasting w w refl
