-- No ticket of a proxy's life has two replies, line by line.
use Rattle.std.proofs.Common.{◌≡◌, ◌⊎◌, inl, inr, ℕ, ◌+◌, ◌==◌, Bool, true, false, cond, ◌&&◌, ◌||◌, List, [], ◌∷◌, ◌++◌, append_assoc, length, Option, None, Some, Ok, refl, sym, ◌∙◌, ap, subst}
use Rattle.std.specs.Prelude.{flat_map}
use Rattle.std.specs.BTreeSet.{BTreeSet}
use Rattle.std.proofs.lemmas.List.Folds.{list_any-append}
use Rattle.etcd_types.proofs.Bools.{or_either}
use Rattle.etcd_types.specs.declared.answer.Answer.{Answer}
use Rattle.core_laws.proofs.Steps.Lists.{number_itself, same_number}
use Rattle.core_model.specs.declared.event.CoreEvent.{CoreEvent}
use Rattle.core_model.specs.declared.event.Outcome.{Outcome}
use Rattle.core_model.specs.Step.{stepped}
use Rattle.held_laws.proofs.Items.{reply_silent, replies_silent}
use Rattle.held_laws.proofs.Kept.{among_new, among_still}
use Rattle.held_laws.proofs.Lines.{started_life}
use Rattle.held_laws.proofs.Places.{all_so}
use Rattle.prefix_laws.proofs.Fetched.{turn_heard}
use Rattle.renewed_laws.proofs.Gains.{stepped_to}
use Rattle.renewed_laws.proofs.Lives.{Lives, life_on, lives-append}
use Rattle.renewed_laws.proofs.Worlds.{WorldOk}
use Rattle.script_text.specs.declared.item.Item.{Item}
use Rattle.script_text.specs.declared.item.Item.TheVariants as item
use Rattle.script_text.specs.declared.line.Line.{Line}
use Rattle.script_text.specs.declared.line.Line.TheVariants as line
use Rattle.world_laws.specs.Laws.{IsOwn}
use Rattle.world_laws.proofs.Effects.{Turn, ticks, asks_it, posts_it, calls, opens, closes, answers, loses, delivers, cuts, takes, waits, leaves, effect}
use Rattle.world_laws.proofs.Lines.{gains_own}
use Rattle.world_model.specs.Asks.{posted_as, posted_at, posted}
use Rattle.world_model.specs.Gains.{Replies, all_fetched, body_if, reply_items, line_if}
use Rattle.world_model.specs.Lives.{life}
use Rattle.world_model.specs.Places.{is_among, place_at, with_number, with_posted}
use Rattle.world_model.specs.State.{Place, World}
use Rattle.world_model.specs.Steps.{refuses, at_place_of}
use Rattle.world_model.specs.declared.fault.WorldFault.TheVariants as fault
use Rattle.json_model.specs.Mapping.{request_of}
use Rattle.json_model.specs.declared.extra.Reading.TheVariants.{Client}
use Rattle.world_model.specs.Transcript.{step, done}
use Rattle.audit_model.specs.Order.{gives_ticket, is_given_ticket, replies_to, is_replied}
use Rattle.ledger_laws.proofs.Places.{Stepped, PlaceAfter, stays, sets_it, marks, begins_it, steps_it, effect_places}
use Rattle.ledger_laws.proofs.Quiet.{Quiet}
use Rattle.ledger_laws.proofs.Replying.{FetchOk, fetch_ok}
use Rattle.ledger_laws.proofs.Tickets.{NotIn}
use Rattle.ledger_laws.proofs.Told.{RepliedOk, NoneTwice, unknown, turn_fetch, replied_among}
use Rattle.ledger_laws.proofs.Turning.{TurnFacts, turn_facts}
use Rattle.ledger_laws.proofs.Worlds.{Ledger, turn_live}

-- ---- a posted ticket wasn't given before

first_is : (x y : Item) (xs ys : List Item) → x ∷ xs ≡ y ∷ ys → x ≡ y
first_is x y xs ys e = cc

-- what the line posts, it posts under a ticket that is free
posts_free : (w : World) (p ticket : ℕ) (path body : List ℕ) (gained : List Item) (o : Option Place) → place_at w p ≡ o → (step (at_place_of w p o (posted_at w p ticket path body))).gained ≡ Ok gained → (x : Place) → o ≡ Some x → is_among x.tickets ticket ≡ false
posts_free w p ticket path body gained None at e x f = absurd (cc)
posts_free w p ticket path body gained (Some y) at e x f = by (is_among y.tickets ticket) refl e
  where
    same : y ≡ x
    same = cc

    by : (b : Bool) → is_among y.tickets ticket ≡ b → (step (cond b (refuses w (fault.TicketUsed ticket)) (posted_as w p ticket (item.Posted p ticket path body ∷ []) y (request_of Client path body)))).gained ≡ Ok gained
        → is_among x.tickets ticket ≡ false
    by true g e = absurd (cc)
    by false g e = ap (λ (z : Place). is_among z.tickets ticket) (sym same) ∙ g

pub free_post : (w : World) (l : Line) (gained : List Item) (q ticket : ℕ) (path body : List ℕ) (rest : List Item) (x : Place) → (done w l).gained ≡ Ok gained → gained ≡ item.Posted q ticket path body ∷ rest → place_at w q ≡ Some x
    → is_among x.tickets ticket ≡ false
free_post w l gained q ticket path body rest x e g at =
    let k = gains_own w l gained e in
    by l e (subst (IsOwn l) (first_is k.own (item.Posted q ticket path body) k.rest rest (sym k.gained ∙ g)) k.repeats)
  where
    by : (l : Line) → (done w l).gained ≡ Ok gained → IsOwn l (item.Posted q ticket path body) → is_among x.tickets ticket ≡ false
    by (line.Post p t a b) e o =
        let free = posts_free w p t a b gained (place_at w p) refl e x (ap (place_at w) (sym o.0) ∙ at) in
        ap (is_among x.tickets) o.1 ∙ free
    by (line.World members namespace leasing) e o = absurd o
    by (line.Start p) e o = absurd o
    by (line.Clock p millis) e o = absurd o
    by (line.Ask p t r) e o = absurd o
    by (line.Tick p) e o = absurd o
    by (line.Send p) e o = absurd o
    by (line.Exec number) e o = absurd o
    by (line.Answer number) e o = absurd o
    by (line.Lose number) e o = absurd o
    by (line.Push number) e o = absurd o
    by (line.Progress number) e o = absurd o
    by (line.Deliver number) e o = absurd o
    by (line.Cut number) e o = absurd o
    by (line.Take p t) e o = absurd o
    by (line.Leave p t) e o = absurd o
    by (line.Expire lease) e o = absurd o
    by (line.Apply member revision) e o = absurd o

-- ---- the place of each proxy

-- a turn's own items are no replies
turn_unreplied : (w : World) (p : ℕ) (x : Place) (e : CoreEvent) (o : Outcome) (v : World) (y : Place) (own : List Item) (told : Replies) → Turn w p x e o v y own told → (t : ℕ) → is_replied p t own ≡ false
turn_unreplied w p x _ _ _ _ _ _ (takes ticket i) t = by (is_among x.posted ticket)
  where
    by : (b : Bool) → is_replied p t (item.Taken p ticket i ∷ line_if b p ticket i) ≡ false
    by true = refl
    by false = refl
turn_unreplied w p x _ _ _ _ _ _ (ticks o) t = refl
turn_unreplied w p x _ _ _ _ _ _ (asks_it ticket q o u) t = refl
turn_unreplied w p x _ _ _ _ _ _ (posts_it ticket path body q o u) t = refl
turn_unreplied w p x _ _ _ _ _ _ (calls own member ticket q) t = refl
turn_unreplied w p x _ _ _ _ _ _ (opens own member ask) t = refl
turn_unreplied w p x _ _ _ _ _ _ (closes own number e) t = refl
turn_unreplied w p x _ _ _ _ _ _ (answers number call a o e f) t = refl
turn_unreplied w p x _ _ _ _ _ _ (loses number call o e) t = refl
turn_unreplied w p x _ _ _ _ _ _ (delivers number s i rest o a b c f g) t = refl
turn_unreplied w p x _ _ _ _ _ _ (cuts number s o a b c f) t = refl
turn_unreplied w p x _ _ _ _ _ _ (waits ticket o u) t = refl
turn_unreplied w p x _ _ _ _ _ _ (leaves ticket o) t = refl

-- what more items reply to
replied_either : (items more : List Item) (p t : ℕ) (P : Type 0) → Lives p more → (is_replied p t (life p items) ≡ true → P) → (is_replied p t more ≡ true → P) → is_replied p t (life p (items ++ more)) ≡ true → P
replied_either items more p t P lives f g e =
    by (or_either (is_replied p t (life p items)) (is_replied p t more) (sym (list_any-append (replies_to p t) (life p items) more) ∙ sym (ap (is_replied p t) (life_on p items more lives)) ∙ e))
  where
    by : (is_replied p t (life p items) ≡ true) ⊎ (is_replied p t more ≡ true) → P
    by (inl a) = f a
    by (inr a) = g a

no_way : {A : Type 0} (b : Bool) → b ≡ false → b ≡ true → A
no_way b f t = absurd (let e : true ≡ false = sym t ∙ f in cc)

quiet_replied : (items gained : List Item) (p : ℕ) (x y : Place) → Quiet p gained → y.tickets ≡ x.tickets → y.core ≡ x.core → RepliedOk items p x → RepliedOk (items ++ gained) p y
quiet_replied items gained p x y u tickets core h t e =
    replied_either items gained p t ((is_among y.tickets t ≡ true) × NotIn t y.core) u.lives
    (λ f. (ap (λ (ts : BTreeSet ℕ). is_among ts t) tickets ∙ (h t f).0, subst (NotIn t) (sym core) (h t f).1)) (λ f. no_way (is_replied p t gained) (u.replied t) f) e

-- where the reply items are of one reply
one_replied : (p ticket t : ℕ) (path body : List ℕ) (posted : BTreeSet ℕ) (a : Answer) → is_replied p t (item.Posted p ticket path body ∷ reply_items p posted (ticket, a)) ≡ true → (ticket == t) ≡ true
one_replied p ticket t path body posted a = by (is_among posted ticket)
  where
    by : (b : Bool) → is_replied p t (item.Posted p ticket path body ∷ item.Reply p ticket a ∷ body_if b p ticket a) ≡ true → (ticket == t) ≡ true
    by true e = here (ticket == t) (sym (ap (λ c. (c && (ticket == t)) || (false || false)) (number_itself p)) ∙ e)
      where
        here : (c : Bool) → c || (false || false) ≡ true → c ≡ true
        here true g = refl
        here false g = absurd (cc)
    by false e = here (ticket == t) (sym (ap (λ c. (c && (ticket == t)) || false) (number_itself p)) ∙ e)
      where
        here : (c : Bool) → c || false ≡ true → c ≡ true
        here true g = refl
        here false g = absurd (cc)

module _ (namespace : List ℕ) (items : List Item) (w : World) (ok : WorldOk namespace items w) (h : Ledger items w) (none : NoneTwice items w) where
  -- what a step leaves behind its own items, once its replies were fetched
  pub step_fetch : (gained : List Item) (q : ℕ) (y : Place) (s : Stepped w gained q y)
      → FetchOk (λ t. is_given_ticket q t (life q items ++ s.own) ≡ true) (λ t. is_replied q t (life q items) ≡ true) (all_fetched s.behind s.told).place (all_fetched s.behind s.told).replies
  step_fetch gained q y s =
      fetch_ok _ _ (length s.behind.core.asks) s.behind s.told
      (turn_fetch namespace items w q s.place ok s.at (none q s.place s.at) s.event s.outcome s.world s.behind s.own s.told s.out s.turn
      (turn_heard namespace items w q s.place s.event s.outcome s.world s.behind s.own s.told ok s.at s.turn))

  -- own items are no replies
  pub own_unreplied : (gained : List Item) (q : ℕ) (y : Place) (s : Stepped w gained q y) (t : ℕ) → is_replied q t s.own ≡ false
  own_unreplied gained q y s t = turn_unreplied w q (stepped_to s.place s.event) s.event s.outcome s.world s.behind s.own s.told s.turn t

  pub step_facts : (gained : List Item) (q : ℕ) (y : Place) (s : Stepped w gained q y) → TurnFacts items s.own w.calls s.world.calls w.streams s.world.streams q s.place s.behind s.event (stepped s.place.core s.event s.place.clock).core
  step_facts gained q y s = turn_facts items w q s.place s.event s.outcome s.world s.behind s.own s.told (ok.places q s.place s.at).unasked s.out (h.lives q s.place s.at) s.turn

  stepped_replied : (gained : List Item) (q : ℕ) (y : Place) (s : Stepped w gained q y) → RepliedOk (items ++ gained) q y
  stepped_replied gained q y s =
      let f = all_fetched s.behind s.told in
      let rest = flat_map (reply_items q f.place.posted) f.replies in
      let k = step_fetch gained q y s in
      let facts = step_facts gained q y s in
      let own_lives = turn_live w q (stepped_to s.place s.event) s.event s.outcome s.world s.behind s.own s.told s.turn q in
      let tickets = (all_so s.behind s.told).tickets in
      subst (RepliedOk (items ++ gained) q) (sym s.is) (subst (λ (xs : List Item). RepliedOk (items ++ xs) q f.place) (sym s.gains)
      (λ t e. subst (λ (xs : List Item). is_replied q t (life q xs) ≡ true → (is_among f.place.tickets t ≡ true) × NotIn t f.place.core) (append_assoc items s.own rest)
      (replied_either (items ++ s.own) rest q t ((is_among f.place.tickets t ≡ true) × NotIn t f.place.core) (replies_silent q q f.place.posted f.replies).lives
      (λ g. replied_either items s.own q t ((is_among f.place.tickets t ≡ true) × NotIn t f.place.core) own_lives
      (λ o. (ap (λ (ts : BTreeSet ℕ). is_among ts t) tickets ∙ facts.grows t (none q s.place s.at t o).0, k.before t o))
      (λ o. no_way (is_replied q t s.own) (own_unreplied gained q y s t) o) g)
      (λ g. let told = replied_among (λ n. (is_given_ticket q n (life q items ++ s.own) ≡ true) × (((is_replied q n (life q items) ≡ true) → ⊥) × NotIn n f.place.core)) q f.place.posted f.replies t k.told g in
      (ap (λ (ts : BTreeSet ℕ). is_among ts t) tickets ∙ given t (or_either (is_given_ticket q t (life q items)) (is_given_ticket q t s.own) (sym (list_any-append (gives_ticket q t) (life q items) s.own) ∙ told.0)), told.1.1))) e))
    where
      given : (t : ℕ) → (is_given_ticket q t (life q items) ≡ true) ⊎ (is_given_ticket q t s.own ≡ true) → is_among s.behind.tickets t ≡ true
      given t (inl g) = (step_facts gained q y s).grows t ((h.lives q s.place s.at).tickets t g)
      given t (inr g) = (step_facts gained q y s).given t g

  replied_after : (after : World) (l : Line) (gained : List Item) → (done w l).gained ≡ Ok gained → (q : ℕ) (y : Place) → PlaceAfter w after gained q y → RepliedOk (items ++ gained) q y
  replied_after after l gained e q y (stays at u b) = quiet_replied items gained q y y u refl refl (none q y at)
  replied_after after l gained e q y (sets_it x millis at f u b) = subst (RepliedOk (items ++ gained) q) (sym f) (quiet_replied items gained q x (record x { clock = millis }) u refl refl (none q x at))
  replied_after after l gained e q y (marks x ticket path body a at f g b) =
      let rest = reply_items q (with_posted ticket x).posted (ticket, a) in
      let more = item.Posted q ticket path body ∷ rest in
      let free = free_post w l gained q ticket path body rest x e g at in
      let lives = lives-append q (item.Posted q ticket path body ∷ []) rest (λ l. refl) (reply_silent q q (with_posted ticket x).posted (ticket, a)).lives in
      subst (RepliedOk (items ++ gained) q) (sym f) (subst (λ (xs : List Item). RepliedOk (items ++ xs) q (with_posted ticket x)) (sym g)
      (λ t r. replied_either items more q t ((is_among (with_number x.tickets ticket) t ≡ true) × NotIn t x.core) lives
      (λ o. (among_still x.tickets ticket t (none q x at t o).0, (none q x at t o).1))
      (λ o. let here = same_number ticket t (one_replied q ticket t path body (with_posted ticket x).posted a o) in
      subst (λ (n : ℕ). (is_among (with_number x.tickets ticket) n ≡ true) × NotIn n x.core) here (among_new x.tickets ticket, unknown namespace items w q x ticket ok at free)) r))
  replied_after after l gained e q y (begins_it clock life' i b f g c d) =
      λ t r. no_way false refl (sym (ap (is_replied q t) (ap (λ (xs : List Item). life q (items ++ xs)) g ∙ started_life items q clock life' w i b)) ∙ r)
  replied_after after l gained e q y (steps_it s c d) = stepped_replied gained q y s

pub twice_on : (namespace : List ℕ) (items : List Item) (w : World) (l : Line) (gained : List Item) → WorldOk namespace items w → Ledger items w → NoneTwice items w → (done w l).gained ≡ Ok gained → NoneTwice (items ++ gained) (done w l).world
twice_on namespace items w l gained ok h none e q y at =
    replied_after namespace items w ok h none (done w l).world l gained e q y (effect_places w (done w l).world gained (λ p x f. (h.lives p x f).kept) (effect w l gained e) q y at)
