-- What is known of the requests of each proxy of a world, by the items that told of it so far, and how a turn of one proxy keeps it.
use Rattle.std.proofs.Common.{◌≡◌, ℕ, ◌≤◌, ◌==◌, Bool, true, false, List, ◌++◌, append_assoc, length, Option, None, Some, refl, sym, ◌∙◌, ap, subst, arith}
use Rattle.std.specs.Prelude.{flat_map}
use Rattle.std.specs.BTreeSet.{BTreeSet}
use Rattle.etcd_types.specs.declared.answer.Answer.{Answer}
use Rattle.core_laws.specs.Steps.Kept.{HeardBytes, IsHeard}
use Rattle.core_laws.proofs.Steps.Staying.{steps_stay}
use Rattle.core_laws.proofs.Steps.Stepping.{steps_keep}
use Rattle.core_model.specs.declared.event.CoreEvent.{CoreEvent}
use Rattle.core_model.specs.declared.settings.Settings.{Settings}
use Rattle.core_model.specs.ClockWork.{clock_work}
use Rattle.core_model.specs.Fits.{CoreOk}
use Rattle.core_model.specs.Heard.{heard}
use Rattle.core_model.specs.State.{Core}
use Rattle.core_model.specs.Step.{stepped}
use Rattle.script_text.specs.declared.item.Item.{Item}
use Rattle.world_model.specs.declared.sent_call.SentCall.{SentCall}
use Rattle.world_model.specs.Gains.{Replies, all_fetched, reply_items}
use Rattle.world_model.specs.Lives.{life, asked_as}
use Rattle.world_model.specs.Places.{nth, place_at, is_among, with_place}
use Rattle.world_model.specs.State.{Place, World}
use Rattle.held_laws.proofs.Items.{IsUnasking}
use Rattle.held_laws.proofs.Places.{all_so}
use Rattle.held_laws.proofs.Worlds.{equal, one_place, placed_itself, placed_other}
use Rattle.keep_laws.proofs.Rows.{All, all_kept}
use Rattle.keep_laws.proofs.Steps.{Brings}
use Rattle.renewed_laws.proofs.Fetching.{FetchedOk, all_fetched_ok}
use Rattle.renewed_laws.proofs.Lives.{Lives, IsStill, lives-append, life_on, unasked_on, asked_on, replies_still, still-append}
use Rattle.renewed_laws.proofs.Replies.{ReplyOk, Each, RepliesOk}
use Rattle.renewed_laws.proofs.Rows.{Row, row_on, rows_step}
use Rattle.renewed_laws.proofs.Stories.{Life, later, IsExecuted, executed_on}
use Rattle.renewed_laws.proofs.Telling.{AllTell, told-append, replies_tell}

-- ---- what is known

abbrev pub answer_by : Option SentCall → Option Answer
answer_by None = None
answer_by (Some call) = call.executed

-- to what the call of this number was executed
abbrev pub answers_of : List SentCall → ℕ → Option Answer
answers_of calls number = answer_by (nth calls number)

abbrev pub life_of : List ℕ → List SentCall → List Item → ℕ → Place → Life
life_of namespace calls items p x = record { namespace = namespace; proxy = p; own = nth x.calls; answers = answers_of calls; told = life p items }

pub record PlaceOk (namespace : List ℕ) (calls : List SentCall) (items : List Item) (p : ℕ) (x : Place) : Type 0 where
  pub namespace_is : x.core.settings.namespace ≡ namespace
  pub core : CoreOk x.core
  -- its own numbers of its calls are the places at which they stand
  pub count : length x.calls ≡ x.core.calls
  -- of a ticket that was neither asked nor posted
  pub unasked : (ticket : ℕ) → is_among x.tickets ticket ≡ false → asked_as p ticket (life p items) ≡ None
  pub rows : All (Row (life_of namespace calls items p x)) x.core.asks

-- of a call: its proxy stands, and where that wasn't started since, the call stands at its own number there
pub record CallKnown (namespace : List ℕ) (w : World) (number : ℕ) (call : SentCall) : Type 0 where
  pub place : Place
  pub at : place_at w call.proxy ≡ Some place
  pub life : call.life ≤ place.life
  pub own : call.life ≡ place.life → nth place.calls call.own ≡ Some number
  pub heard : (a : Answer) → call.executed ≡ Some a → HeardBytes (heard namespace a)

pub record WorldOk (namespace : List ℕ) (items : List Item) (w : World) : Type 0 where
  pub namespace_is : w.namespace ≡ namespace
  pub calls : (number : ℕ) (call : SentCall) → nth w.calls number ≡ Some call → CallKnown namespace w number call
  pub places : (p : ℕ) (x : Place) → place_at w p ≡ Some x → PlaceOk namespace w.calls items p x

-- ---- calls, as they become executed

-- what becomes executed is told by these items
abbrev pub Executes : List SentCall → List SentCall → List Item → Type 0
Executes calls after more = (number : ℕ) (items : List Item) → IsExecuted number (answers_of calls number) items → IsExecuted number (answers_of after number) (items ++ more)

pub executes_on : (calls after : List SentCall) (more rest : List Item) → Executes calls after more → Executes calls after (more ++ rest)
executes_on calls after more rest h number items k =
    subst (IsExecuted number (answers_of after number)) (append_assoc items more rest) (executed_on number (answers_of after number) (items ++ more) rest (h number items k))

pub same_executes : (calls : List SentCall) (more : List Item) → Executes calls calls more
same_executes calls more number items h = executed_on number (answers_of calls number) items more h

-- each of these calls was there before, as far as it is to be known, or is the one that was sent by the place `y` of this proxy
pub data Comes (calls : List SentCall) (p life : ℕ) (own : List ℕ) (number : ℕ) (t : SentCall) : Type 0 where
  was : (s : SentCall) → nth calls number ≡ Some s → t.proxy ≡ s.proxy → t.life ≡ s.life → t.own ≡ s.own → t.executed ≡ s.executed → Comes calls p life own number t
  new : t.proxy ≡ p → t.life ≡ life → nth own t.own ≡ Some number → t.executed ≡ None → Comes calls p life own number t

pub come_executes : (calls after : List SentCall) (p life : ℕ) (own : List ℕ) (more : List Item) → ((number : ℕ) (t : SentCall) → nth after number ≡ Some t → Comes calls p life own number t) → Executes calls after more
come_executes calls after p life own more h number items k = by (nth after number) refl
  where
    by_comes : (t : SentCall) → Comes calls p life own number t → IsExecuted number t.executed (items ++ more)
    by_comes t (was s at a b c e) =
        let same : answers_of calls number ≡ t.executed = ap answer_by at ∙ sym e in
        executed_on number t.executed items more (subst (λ (o : Option Answer). IsExecuted number o items) same k)
    by_comes t (new a b c e) = subst (λ (o : Option Answer). IsExecuted number o (items ++ more)) (sym e) tt

    by : (o : Option SentCall) → nth after number ≡ o → IsExecuted number (answer_by o) (items ++ more)
    by None e = tt
    by (Some t) e = by_comes t (h number t e)

-- ---- the places, where one of them is put anew

pub later_ok : (namespace : List ℕ) (calls after : List SentCall) (items more : List Item) (p : ℕ) (x : Place) → IsStill p more → Executes calls after more → PlaceOk namespace calls items p x → PlaceOk namespace after (items ++ more) p x
later_ok namespace calls after items more p x s g h =
    let l = life_of namespace calls items p x in
    record {
      namespace_is = h.namespace_is;
      core = h.core;
      count = h.count;
      unasked = λ t e. ap (asked_as p t) (life_on p items more s.0) ∙ asked_on p t (life p items) more s.1 ∙ h.unasked t e;
      rows = subst (λ (told : List Item). All (Row (record { namespace = namespace; proxy = p; own = nth x.calls; answers = answers_of after; told = told })) x.core.asks) (sym (life_on p items more s.0))
          (all_kept (Row l) (Row (later l (nth x.calls) (answers_of after) more)) (row_on l (nth x.calls) (answers_of after) more (record { numbered = λ n m e. e; executed = g })) x.core.asks h.rows);
    }

pub places_after : (namespace : List ℕ) (items more : List Item) (w v : World) (p : ℕ) (z : Place) → v.places ≡ w.places → ((q : ℕ) → (q == p) ≡ false → IsStill q more) → Executes w.calls v.calls more
    → WorldOk namespace items w → PlaceOk namespace v.calls (items ++ more) p z → (q : ℕ) (y : Place) → place_at (with_place v p z) q ≡ Some y → PlaceOk namespace v.calls (items ++ more) q y
places_after namespace items more w v p z same quiet g h k q y e = by (q == p) refl
  where
    by : (b : Bool) → (q == p) ≡ b → PlaceOk namespace v.calls (items ++ more) q y
    by true n =
        let there : q ≡ p = equal q p n in
        let one : z ≡ y = one_place z y (sym (placed_itself w v p z) ∙ ap (place_at (with_place v p z)) (sym there) ∙ e) in
        subst (λ (j : ℕ). PlaceOk namespace v.calls (items ++ more) j y) (sym there) (subst (PlaceOk namespace v.calls (items ++ more) p) one k)
    by false n =
        later_ok namespace w.calls v.calls items more q y (quiet q n) g (h.places q y (sym (placed_other w v p q z same n) ∙ e))

-- ---- the calls, where one of the places is put anew

pub known_after : (namespace : List ℕ) (w v : World) (p : ℕ) (x z : Place) (number : ℕ) (s t : SentCall) → place_at w p ≡ Some x → x.life ≤ z.life → v.places ≡ w.places → t.proxy ≡ s.proxy → t.life ≡ s.life → t.own ≡ s.own → t.executed ≡ s.executed
    → (s.life ≡ z.life → s.life ≤ x.life → (s.life ≡ x.life → nth x.calls s.own ≡ Some number) → nth z.calls s.own ≡ Some number) → CallKnown namespace w number s → CallKnown namespace (with_place v p z) number t
known_after namespace w v p x z number s t at older same proxy lived own executed goes h = by (s.proxy == p) refl
  where
    by : (b : Bool) → (s.proxy == p) ≡ b → CallKnown namespace (with_place v p z) number t
    by true n =
        let there : s.proxy ≡ p = equal s.proxy p n in
        let one : h.place ≡ x = one_place h.place x (sym h.at ∙ ap (place_at w) there ∙ at) in
        let le : s.life ≤ x.life = subst (λ (y : Place). s.life ≤ y.life) one h.life in
        let was_there : s.life ≡ x.life → nth x.calls s.own ≡ Some number = λ d. ap (λ (y : Place). nth y.calls s.own) (sym one) ∙ h.own (d ∙ ap (λ (y : Place). y.life) (sym one)) in
        record {
          place = z;
          at = ap (place_at (with_place v p z)) (proxy ∙ there) ∙ placed_itself w v p z;
          life = omega (arith, le, older, lived);
          own = λ e. ap (nth z.calls) own ∙ goes (sym lived ∙ e) le was_there;
          heard = λ a e. h.heard a (sym executed ∙ e);
        }
    by false n = record {
      place = h.place;
      at = ap (place_at (with_place v p z)) proxy ∙ placed_other w v p s.proxy z same n ∙ h.at;
      life = (let k = h.life in omega (arith, k, lived));
      own = λ e. ap (nth h.place.calls) own ∙ h.own (sym lived ∙ e);
      heard = λ a e. h.heard a (sym executed ∙ e);
    }

-- the same place, with at least the same calls
calls_after : (namespace : List ℕ) (w v : World) (p : ℕ) (x z : Place) (own : List ℕ) → place_at w p ≡ Some x → z.life ≡ x.life → z.calls ≡ own → v.places ≡ w.places → ((n m : ℕ) → nth x.calls n ≡ Some m → nth own n ≡ Some m)
    → ((number : ℕ) (call : SentCall) → nth w.calls number ≡ Some call → CallKnown namespace w number call)
    → (number : ℕ) (t : SentCall) → Comes w.calls p x.life own number t → CallKnown namespace (with_place v p z) number t
calls_after namespace w v p x z own at lived calls places grows h number t (was s there a b c e) =
    known_after namespace w v p x z number s t at (omega (arith, lived)) places a b c e
    (λ l le k. ap (λ (ns : List ℕ). nth ns s.own) calls ∙ grows s.own number (k (l ∙ lived))) (h number s there)
calls_after namespace w v p x z own at lived calls places grows h number t (new proxy life' own' none) = record {
  place = z;
  at = ap (place_at (with_place v p z)) proxy ∙ placed_itself w v p z;
  life = omega (arith, life', lived);
  own = λ e. ap (λ (ns : List ℕ). nth ns t.own) calls ∙ own';
  heard = λ a e. unheard a (sym none ∙ e);
}
  where
    unheard : {A : Type 0} (a : Answer) → ◌≡◌ {A = Option Answer} None (Some a) → A
    unheard a e = absurd (cc)

-- ---- a turn of a proxy

-- The proxy `p` stood at `x` in the world `w`, and a step of it left the world `v`, its place at `y` with the replies `told`, and these items.
pub record Turned (namespace : List ℕ) (items own : List Item) (w v : World) (p : ℕ) (x y : Place) (e : CoreEvent) (told : Replies) : Type 0 where
  pub at : place_at w p ≡ Some x
  pub namespace_is : v.namespace ≡ w.namespace
  pub places : v.places ≡ w.places
  pub core : y.core ≡ (stepped x.core e x.clock).core
  pub lived : y.life ≡ x.life
  pub count : length y.calls ≡ (stepped x.core e x.clock).core.calls
  pub grows : (n m : ℕ) → nth x.calls n ≡ Some m → nth y.calls n ≡ Some m
  pub calls : (number : ℕ) (t : SentCall) → nth v.calls number ≡ Some t → Comes w.calls p x.life y.calls number t
  pub heard : IsHeard x.core e
  pub brings : Brings (Row (life_of namespace w.calls items p x)) (Row (later (life_of namespace w.calls items p x) (nth y.calls) (answers_of v.calls) own)) e x.clock (clock_work x.clock x.core)
  pub unasked : (ticket : ℕ) → is_among y.tickets ticket ≡ false → asked_as p ticket (life p items ++ own) ≡ None
  pub lives : (q : ℕ) → Lives q own
  pub unasking : (q : ℕ) → (q == p) ≡ false → IsUnasking q own
  pub replies : RepliesOk (later (life_of namespace w.calls items p x) (nth y.calls) (answers_of v.calls) own) told
  pub tells : AllTell namespace items own

-- what the line leaves and gains
pub record Kept (namespace : List ℕ) (items gained : List Item) (after : World) : Type 0 where
  pub ok : WorldOk namespace (items ++ gained) after
  pub tells : AllTell namespace items gained

-- the place, once the replies were fetched
turned_place : (namespace : List ℕ) (items own : List Item) (w v : World) (p : ℕ) (x y : Place) (e : CoreEvent) (told : Replies) → WorldOk namespace items w → (t : Turned namespace items own w v p x y e told)
    → FetchedOk (later (life_of namespace w.calls items p x) (nth y.calls) (answers_of v.calls) own) y (all_fetched y told)
    → let z = (all_fetched y told).place in PlaceOk namespace v.calls (items ++ (own ++ flat_map (reply_items p z.posted) (all_fetched y told).replies)) p z
turned_place namespace items own w v p x y e told h t f =
    let z = (all_fetched y told).place in
    let rest = flat_map (reply_items p z.posted) (all_fetched y told).replies in
    let quiet = replies_still p p z.posted (all_fetched y told).replies in
    let k = h.places p x t.at in
    let fetched = all_so y told in
    let l = later (life_of namespace w.calls items p x) (nth y.calls) (answers_of v.calls) own in
    let still : life p (items ++ (own ++ rest)) ≡ (life p items ++ own) ++ rest = life_on p items (own ++ rest) (lives-append p own rest (t.lives p) quiet.0) ∙ sym (append_assoc (life p items) own rest) in
    record {
      namespace_is = ap (λ (s : Settings). s.namespace) (fetched.settings ∙ ap (λ (c : Core). c.settings) t.core ∙ (steps_stay x.core e x.clock).settings) ∙ k.namespace_is;
      core = f.core;
      count = ap length f.calls ∙ t.count ∙ sym (f.count ∙ ap (λ (c : Core). c.calls) t.core);
      unasked = λ ticket out.
          ap (asked_as p ticket) still
          ∙ unasked_on p ticket (life p items ++ own) rest (t.unasked ticket (ap (λ (s : BTreeSet ℕ). is_among s ticket) (sym fetched.tickets) ∙ out)) (quiet.1 ticket);
      rows = subst (λ (told : List Item). All (Row (record { namespace = namespace; proxy = p; own = nth z.calls; answers = answers_of v.calls; told = told })) z.core.asks) (sym still)
          (all_kept (Row l) (Row (later l (nth z.calls) (answers_of v.calls) rest))
          (row_on l (nth z.calls) (answers_of v.calls) rest (record { numbered = λ n m g. ap (λ (ns : List ℕ). nth ns n) f.calls ∙ g; executed = λ n xs g. executed_on n (answers_of v.calls n) xs rest g })) z.core.asks f.rows);
    }

pub turn_kept : (namespace : List ℕ) (items own : List Item) (w v : World) (p : ℕ) (x y : Place) (e : CoreEvent) (told : Replies) → WorldOk namespace items w → Turned namespace items own w v p x y e told
    → let z = (all_fetched y told).place in Kept namespace items (own ++ flat_map (reply_items p z.posted) (all_fetched y told).replies) (with_place v p z)
turn_kept namespace items own w v p x y e told h t =
    let z = (all_fetched y told).place in
    let rest = flat_map (reply_items p z.posted) (all_fetched y told).replies in
    let k = h.places p x t.at in
    let l = life_of namespace w.calls items p x in
    let m = later l (nth y.calls) (answers_of v.calls) own in
    let executes = come_executes w.calls v.calls p x.life y.calls own t.calls in
    let rows : All (Row m) (stepped x.core e x.clock).core.asks = rows_step l (nth y.calls) (answers_of v.calls) own e x.clock x.core (record { numbered = t.grows; executed = executes }) k.core t.brings k.rows in
    let f : FetchedOk m y (all_fetched y told) = all_fetched_ok m y told (subst CoreOk (sym t.core) (steps_keep x.core e x.clock t.heard k.core)) (subst (λ (c : Core). All (Row m) c.asks) (sym t.core) rows) t.replies in
    let fetched = all_so y told in
    record {
      ok = record {
        namespace_is = t.namespace_is ∙ h.namespace_is;
        calls = λ number call g. calls_after namespace w v p x z y.calls t.at (fetched.life ∙ t.lived) f.calls t.places t.grows h.calls number call (t.calls number call g);
        places = places_after namespace items (own ++ rest) w v p z t.places (λ q n. still-append q own rest (t.lives q, t.unasking q n) (replies_still q p z.posted (all_fetched y told).replies))
            (executes_on w.calls v.calls own rest executes) h (turned_place namespace items own w v p x y e told h t f);
      };
      tells = told-append namespace items own rest t.tells
          (replies_tell namespace (items ++ own) p z.posted (all_fetched y told).replies
          (subst (λ (xs : List Item). Each (ReplyOk namespace xs p) (all_fetched y told).replies) (sym (life_on p items own (t.lives p))) f.replies));
    }
