-- Behind each line: what was replied to in a proxy's life is no request of it any more. And each reply that a line tells is of a ticket that
-- was given in that life, and had no reply in it.
use Rattle.std.proofs.Common.{◌≡◌, ◌⊎◌, inl, inr, ℕ, ◌+◌, ◌==◌, Bool, true, false, cond, ◌&&◌, ◌||◌, List, [], ◌∷◌, ◌++◌, Option, None, Some, Ok, refl, sym, ◌∙◌, ap, subst}
use Rattle.std.specs.Prelude.{flat_map}
use Rattle.std.specs.BTreeSet.{BTreeSet}
use Rattle.std.proofs.lemmas.List.Folds.{list_any-append}
use Rattle.etcd_types.proofs.Bools.{or_either, or_left, or_right}
use Rattle.etcd_types.specs.declared.answer.Answer.{Answer}
use Rattle.etcd_types.specs.declared.request.Request.{Request}
use Rattle.core_laws.specs.Steps.Kept.{IsHeard}
use Rattle.core_laws.proofs.Steps.Lists.{number_itself, same_number}
use Rattle.core_laws.proofs.Steps.Stepping.{steps_keep}
use Rattle.core_model.specs.declared.event.CoreEvent.{CoreEvent}
use Rattle.core_model.specs.declared.event.CoreEvent.TheVariants as event
use Rattle.core_model.specs.declared.event.Outcome.{Outcome}
use Rattle.core_model.specs.declared.event.Outcome.TheVariants as outcome
use Rattle.core_model.specs.Fits.{CoreOk}
use Rattle.core_model.specs.Step.{stepped}
use Rattle.keep_laws.proofs.Rows.{all_kept}
use Rattle.renewed_laws.proofs.Gains.{stepped_to}
use Rattle.renewed_laws.proofs.Rows.{Row}
use Rattle.renewed_laws.proofs.Worlds.{life_of, WorldOk}
use Rattle.read_model.specs.declared.asked.Asked.{Asked}
use Rattle.script_text.specs.declared.item.Item.{Item}
use Rattle.script_text.specs.declared.item.Item.TheVariants as item
use Rattle.world_laws.proofs.Effects.{Turn, ticks, asks_it, posts_it, calls, opens, closes, answers, loses, delivers, cuts, takes, waits, leaves}
use Rattle.world_model.specs.Asks.{told_at_once}
use Rattle.world_model.specs.Gains.{Replies, body_if, reply_items}
use Rattle.world_model.specs.Lives.{life, asked_as}
use Rattle.world_model.specs.Places.{is_among, place_at}
use Rattle.world_model.specs.State.{Place, World, word}
use Rattle.audit_model.specs.Order.{gives_ticket, is_given_ticket, replies_to, is_replied}
use Rattle.held_laws.proofs.Worlds.{equal}
use Rattle.ledger_laws.proofs.Replying.{EachReply, AreApart, FetchOk}
use Rattle.ledger_laws.proofs.Tickets.{Each, NotIn, NewSo, each_stepped, ask_replies}

-- ---- what was asked was given

pub asked_given : (p t : ℕ) (items : List Item) (q : Request) → asked_as p t items ≡ Some q → is_given_ticket p t items ≡ true
asked_given p t [] q e = absurd (cc)
asked_given p t (item.Asked r ticket a ∷ items) q e = by (r == p && ticket == t) e (λ f. asked_given p t items q f)
  where
    by : (b : Bool) → cond b (Some a) (asked_as p t items) ≡ Some q → (asked_as p t items ≡ Some q → is_given_ticket p t items ≡ true) → (b || is_given_ticket p t items) ≡ true
    by true e more = refl
    by false e more = more e
asked_given p t (item.Posted r ticket path body ∷ items) q e = or_right (r == p && ticket == t) (is_given_ticket p t items) (asked_given p t items q e)
asked_given p t (item.World members namespace leasing ∷ items) q e = asked_given p t items q e
asked_given p t (item.Started r ∷ items) q e = asked_given p t items q e
asked_given p t (item.Restarted r ∷ items) q e = asked_given p t items q e
asked_given p t (item.Clock r millis ∷ items) q e = asked_given p t items q e
asked_given p t (item.Ticked r ∷ items) q e = asked_given p t items q e
asked_given p t (item.Sent r call member ticket n ∷ items) q e = asked_given p t items q e
asked_given p t (item.Opened r stream member n ∷ items) q e = asked_given p t items q e
asked_given p t (item.Closed r stream ∷ items) q e = asked_given p t items q e
asked_given p t (item.Executed call answer ∷ items) q e = asked_given p t items q e
asked_given p t (item.Answered call ∷ items) q e = asked_given p t items q e
asked_given p t (item.Lost call ∷ items) q e = asked_given p t items q e
asked_given p t (item.Pushed stream message ∷ items) q e = asked_given p t items q e
asked_given p t (item.Delivered stream ∷ items) q e = asked_given p t items q e
asked_given p t (item.Cut stream ∷ items) q e = asked_given p t items q e
asked_given p t (item.Taken r ticket message ∷ items) q e = asked_given p t items q e
asked_given p t (item.Pending r ticket ∷ items) q e = asked_given p t items q e
asked_given p t (item.Left r ticket ∷ items) q e = asked_given p t items q e
asked_given p t (item.Expired lease ∷ items) q e = asked_given p t items q e
asked_given p t (item.Applied member nevision ∷ items) q e = asked_given p t items q e
asked_given p t (item.Reply r ticket a ∷ items) q e = asked_given p t items q e
asked_given p t (item.Body r ticket status text ∷ items) q e = asked_given p t items q e

-- ---- of each place

-- what was replied was given, and is no request any more
abbrev pub RepliedOk : List Item → ℕ → Place → Type 0
RepliedOk items p x = (t : ℕ) → is_replied p t (life p items) ≡ true → (is_among x.tickets t ≡ true) × NotIn t x.core

abbrev pub NoneTwice : List Item → World → Type 0
NoneTwice items w = (p : ℕ) (x : Place) → place_at w p ≡ Some x → RepliedOk items p x

-- a ticket that wasn't given is no request's
pub unknown : (namespace : List ℕ) (items : List Item) (w : World) (p : ℕ) (x : Place) (t : ℕ) → WorldOk namespace items w → place_at w p ≡ Some x → is_among x.tickets t ≡ false → NotIn t x.core
unknown namespace items w p x t ok at free =
    all_kept (Row (life_of namespace w.calls items p x)) (λ a. (a.ticket == t) ≡ false) (λ a r. by a r (a.ticket == t) refl) x.core.asks (ok.places p x at).rows
  where
    by : (a : Asked) → Row (life_of namespace w.calls items p x) a → (b : Bool) → (a.ticket == t) ≡ b → b ≡ false
    by a r false e = refl
    by a r true e = absurd (let no_way : ◌≡◌ {A = Option Request} None (Some a.request) = sym ((ok.places p x at).unasked t free) ∙ ap (λ (n : ℕ). asked_as p n (life p items)) (sym (equal a.ticket t e)) ∙ r.asked in cc)

-- each request's ticket was given
known : (namespace : List ℕ) (items : List Item) (w : World) (p : ℕ) (x : Place) (more : List Item) → WorldOk namespace items w → place_at w p ≡ Some x → Each (λ t. is_given_ticket p t (life p items ++ more) ≡ true) x.core
known namespace items w p x more ok at =
    all_kept (Row (life_of namespace w.calls items p x)) (λ a. is_given_ticket p a.ticket (life p items ++ more) ≡ true)
    (λ a r. list_any-append (gives_ticket p a.ticket) (life p items) more ∙ or_left (is_given_ticket p a.ticket (life p items)) (is_given_ticket p a.ticket more) (asked_given p a.ticket (life p items) a.request r.asked)) x.core.asks
    (ok.places p x at).rows

-- ---- a step of a proxy

module _ (namespace : List ℕ) (items : List Item) (w : World) (p : ℕ) (x : Place) (ok : WorldOk namespace items w) (at : place_at w p ≡ Some x) (h : RepliedOk items p x) where
  abbrev pub GivenIn : List Item → ℕ → Type 0
  GivenIn own t = is_given_ticket p t (life p items ++ own) ≡ true

  abbrev pub OldOne : ℕ → Type 0
  OldOne t = is_replied p t (life p items) ≡ true

  core_ok : CoreOk x.core
  core_ok = (ok.places p x at).core

  -- by a step that asks nothing
  plain_fetch : (own : List Item) (e : CoreEvent) (z : Place) → IsHeard x.core e → z.core ≡ (stepped x.core e x.clock).core → ((P : ℕ → Type 0) → NewSo P e) → FetchOk (GivenIn own) OldOne z []
  plain_fetch own e z heard core new = record {
    core = subst CoreOk (sym core) (steps_keep x.core e x.clock heard core_ok);
    known = subst (Each (GivenIn own)) (sym core) (each_stepped (GivenIn own) x.core e x.clock core_ok (new (GivenIn own)) (known namespace items w p x own ok at));
    before = λ t o. subst (NotIn t) (sym core) (each_stepped (λ n. (n == t) ≡ false) x.core e x.clock core_ok (new (λ n. (n == t) ≡ false)) (h t o).1);
    told = tt;
    apart = tt;
  }

  -- where the ticket wasn't given, and is by these items
  ask_fetch : (own : List Item) (ticket : ℕ) (q : Request) (n : ℕ) (o : Outcome) (z : Place) → is_among x.tickets ticket ≡ false → GivenIn own ticket → z.core ≡ (stepped x.core (event.Ask ticket q n) x.clock).core
      → (stepped x.core (event.Ask ticket q n) x.clock).outcome ≡ Ok o → FetchOk (GivenIn own) OldOne z (told_at_once ticket o)
  ask_fetch own ticket q n o z free gives core out =
      let e = event.Ask ticket q n in record {
        core = subst CoreOk (sym core) (steps_keep x.core e x.clock tt core_ok);
        known = subst (Each (GivenIn own)) (sym core) (each_stepped (GivenIn own) x.core e x.clock core_ok gives (known namespace items w p x own ok at));
        before = λ t old. subst (NotIn t) (sym core) (each_stepped (λ m. (m == t) ≡ false) x.core e x.clock core_ok (other t old) (h t old).1);
        told = by_told o out;
        apart = by_apart o;
      }
    where
      other : (t : ℕ) → OldOne t → (ticket == t) ≡ false
      other t old = by (ticket == t) refl
        where
          by : (b : Bool) → (ticket == t) ≡ b → b ≡ false
          by false g = refl
          by true g = absurd (let no_way : true ≡ false = sym (h t old).0 ∙ ap (is_among x.tickets) (sym (equal ticket t g)) ∙ free in cc)

      unreplied : OldOne ticket → ⊥
      unreplied old = absurd (let no_way : true ≡ false = sym (h ticket old).0 ∙ free in cc)

      by_told : (o : Outcome) → (stepped x.core (event.Ask ticket q n) x.clock).outcome ≡ Ok o → EachReply (λ t. GivenIn own t × ((OldOne t → ⊥) × NotIn t z.core)) (told_at_once ticket o)
      by_told (outcome.Replied a) out = ((gives, (unreplied, subst (NotIn ticket) (sym core) (ask_replies x.core ticket x.clock ticket q n a (unknown namespace items w p x ticket ok at free) out))), tt)
      by_told outcome.Waiting out = tt
      by_told outcome.Pending out = tt
      by_told outcome.Noted out = tt
      by_told (outcome.Item i) out = tt
      by_told (outcome.Job j) out = tt

      by_apart : (o : Outcome) → AreApart (told_at_once ticket o)
      by_apart (outcome.Replied a) = (tt, tt)
      by_apart outcome.Waiting = tt
      by_apart outcome.Pending = tt
      by_apart outcome.Noted = tt
      by_apart (outcome.Item i) = tt
      by_apart (outcome.Job j) = tt

  -- the ticket of an item of these is given by them
  own_given : (own : List Item) (t : ℕ) → is_given_ticket p t own ≡ true → GivenIn own t
  own_given own t g = list_any-append (gives_ticket p t) (life p items) own ∙ or_right (is_given_ticket p t (life p items)) (is_given_ticket p t own) g

  pub turn_fetch : (e : CoreEvent) (o : Outcome) (v : World) (z : Place) (own : List Item) (told : Replies) → (stepped x.core e x.clock).outcome ≡ Ok o → Turn w p (stepped_to x e) e o v z own told → IsHeard x.core e
      → FetchOk (GivenIn own) OldOne z told
  turn_fetch _ _ _ _ _ _ out (ticks o) heard = plain_fetch (item.Ticked p ∷ []) (event.Tick (word w)) _ heard refl (λ P. tt)
  turn_fetch _ _ _ _ _ _ out (asks_it ticket q o u) heard = ask_fetch (item.Asked p ticket q ∷ []) ticket q (word w) o _ u (own_given (item.Asked p ticket q ∷ []) ticket (here ticket)) refl out
    where
      here : (t : ℕ) → ((p == p) && (t == t)) || false ≡ true
      here t = ap (λ b. (b && (t == t)) || false) (number_itself p) ∙ ap (λ b. b || false) (number_itself t)
  turn_fetch _ _ _ _ _ _ out (posts_it ticket path body q o u) heard =
      ask_fetch (item.Posted p ticket path body ∷ item.Asked p ticket q ∷ []) ticket q (word w) o _ u (own_given (item.Posted p ticket path body ∷ item.Asked p ticket q ∷ []) ticket (here ticket)) refl out
    where
      here : (t : ℕ) → ((p == p) && (t == t)) || (((p == p) && (t == t)) || false) ≡ true
      here t = ap (λ b. (b && (t == t)) || ((b && (t == t)) || false)) (number_itself p) ∙ ap (λ b. b || (b || false)) (number_itself t)
  turn_fetch _ _ _ _ _ _ out (calls own member ticket q) heard = plain_fetch _ event.Work _ heard refl (λ P. tt)
  turn_fetch _ _ _ _ _ _ out (opens own member ask) heard = plain_fetch _ event.Work _ heard refl (λ P. tt)
  turn_fetch _ _ _ _ _ _ out (closes own number e) heard = plain_fetch _ event.Work _ heard refl (λ P. tt)
  turn_fetch _ _ _ _ _ _ out (answers number call a o e f) heard = plain_fetch _ (event.Answer call.own a) _ heard refl (λ P. tt)
  turn_fetch _ _ _ _ _ _ out (loses number call o e) heard = plain_fetch _ (event.Lost call.own) _ heard refl (λ P. tt)
  turn_fetch _ _ _ _ _ _ out (delivers number s i rest o a b c f g) heard = plain_fetch _ (event.Item s.own i) _ heard refl (λ P. tt)
  turn_fetch _ _ _ _ _ _ out (cuts number s o a b c f) heard = plain_fetch _ (event.Cut s.own) _ heard refl (λ P. tt)
  turn_fetch _ _ _ _ _ _ out (takes ticket i) heard = plain_fetch _ (event.Take ticket) _ heard refl (λ P. tt)
  turn_fetch _ _ _ _ _ _ out (waits ticket o u) heard = plain_fetch _ (event.Take ticket) _ heard refl (λ P. tt)
  turn_fetch _ _ _ _ _ _ out (leaves ticket o) heard = plain_fetch _ (event.Leave ticket) _ heard refl (λ P. tt)

-- ---- the replies of a line

-- what is replied by these is one of them
pub replied_among : (P : ℕ → Type 0) (p : ℕ) (posted : BTreeSet ℕ) (rs : Replies) (t : ℕ) → EachReply P rs → is_replied p t (flat_map (reply_items p posted) rs) ≡ true → P t
replied_among P p posted [] t h e = absurd (cc)
replied_among P p posted (r ∷ rs) t h e =
    by (or_either (is_replied p t (reply_items p posted r)) (is_replied p t (flat_map (reply_items p posted) rs)) (sym (list_any-append (replies_to p t) (reply_items p posted r) (flat_map (reply_items p posted) rs)) ∙ e)) (λ g. replied_among P p posted rs t h.1 g)
  where
    one : (b : Bool) → is_replied p t (item.Reply p r.0 r.1 ∷ body_if b p r.0 r.1) ≡ true → P t
    one true g = here (r.0 == t) refl (sym (ap (λ c. (c && (r.0 == t)) || (false || false)) (number_itself p)) ∙ g)
      where
        here : (c : Bool) → (r.0 == t) ≡ c → c || (false || false) ≡ true → P t
        here true q g = subst P (same_number r.0 t q) h.0
        here false q g = absurd (cc)
    one false g = here (r.0 == t) refl (sym (ap (λ c. (c && (r.0 == t)) || false) (number_itself p)) ∙ g)
      where
        here : (c : Bool) → (r.0 == t) ≡ c → c || false ≡ true → P t
        here true q g = subst P (same_number r.0 t q) h.0
        here false q g = absurd (cc)

    by : (is_replied p t (reply_items p posted r) ≡ true) ⊎ (is_replied p t (flat_map (reply_items p posted) rs) ≡ true) → (is_replied p t (flat_map (reply_items p posted) rs) ≡ true → P t) → P t
    by (inl g) more = one (is_among posted r.0) g
    by (inr g) more = more g
