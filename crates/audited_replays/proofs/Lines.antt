-- All items that a line gains are in order, and no session expires below its floor.
use Rattle.std.proofs.Common.{◌≡◌, ℕ, ◌==◌, nat_lt, Bool, true, false, not, cond, ◌&&◌, ◌||◌, List, [], ◌∷◌, ◌++◌, append-nil, Option, None, Some, is_some, Ok, refl, sym, ◌∙◌, ap, subst}
use Rattle.std.specs.Prelude.{flat_map}
use Rattle.std.specs.List.{list_all}
use Rattle.std.specs.BTreeSet.{BTreeSet}
use Rattle.std.proofs.lemmas.List.Folds.{list_any-append, list_all-append}
use Rattle.etcd_types.proofs.Bools.{and_both, and_first, and_second, or_left, or_right, or_none}
use Rattle.etcd_types.specs.declared.answer.Answer.{Answer}
use Rattle.etcd_types.specs.declared.request.Request.{Request}
use Rattle.json_model.specs.WrittenReplies.{answer_status, answer_text, item_text}
use Rattle.core_laws.proofs.Steps.Lists.{number_itself, number_turned}
use Rattle.core_model.specs.declared.event.CoreEvent.{CoreEvent}
use Rattle.core_model.specs.declared.event.Outcome.{Outcome}
use Rattle.held_laws.proofs.Items.{reply_silent}
use Rattle.prefix_laws.proofs.Told.{AllItems, items-append}
use Rattle.renewed_laws.proofs.Gains.{stepped_to}
use Rattle.renewed_laws.proofs.Lives.{life_on, unasked_on}
use Rattle.renewed_laws.proofs.Worlds.{WorldOk}
use Rattle.script_text.specs.declared.item.Item.{Item}
use Rattle.script_text.specs.declared.item.Item.TheVariants as item
use Rattle.script_text.specs.declared.line.Line.{Line}
use Rattle.watch_model.specs.Queues.{is_nil}
use Rattle.world_laws.proofs.Effects.{Turn, ticks, asks_it, posts_it, calls, opens, closes, answers, loses, delivers, cuts, takes, waits, leaves, Begins, first, again, Effect, starts, sets, refuses_post, executes, expires, applies, pushes, turns, effect}
use Rattle.world_model.specs.declared.fault.WorldFault.TheVariants as world
use Rattle.world_model.specs.declared.floor.Floor.{Floor}
use Rattle.world_model.specs.Answers.{seen}
use Rattle.world_model.specs.Gains.{Replies, all_fetched, body_if, reply_items, line_if}
use Rattle.world_model.specs.Lives.{begins, clock_of, life, asked_as}
use Rattle.world_model.specs.Places.{kept_at, place_at, is_among, with_posted}
use Rattle.world_model.specs.State.{Numbered, Place, World}
use Rattle.world_model.specs.StoreLines.{below_floor, not_due_by, not_due}
use Rattle.world_model.specs.Transcript.{done}
use Rattle.audit_model.specs.declared.fault.AuditFault.TheVariants as fault
use Rattle.audit_model.specs.Floors.{too_early_at, too_early_by, too_early}
use Rattle.audit_model.specs.Order.{has_started, gives_ticket, is_given_ticket, replies_to, is_replied, is_watch_of, knows_watch, knows_ticket, fits_behind, store_takes, is_first, in_order}
use Rattle.ledger_laws.proofs.Places.{Stepped}
use Rattle.ledger_laws.proofs.Replying.{EachReply, AreApart, each_along}
use Rattle.ledger_laws.proofs.Starts.{StartSays}
use Rattle.ledger_laws.proofs.Tickets.{NotIn}
use Rattle.ledger_laws.proofs.Told.{NoneTwice, asked_given}
use Rattle.ledger_laws.proofs.Twice.{step_fetch, own_unreplied, free_post}
use Rattle.ledger_laws.proofs.Worlds.{turn_live}
use Rattle.audited_replays.proofs.Orders.{Behind, line_fits}

abbrev pub InTime : List Item → Item → Type 0
InTime before i = too_early before i ≡ None

abbrev pub InOrder : List Item → Item → Type 0
InOrder before i = in_order before i ≡ true

-- what stands behind others is in order where it fits and the store takes it
in_order_so : (before : List Item) (i : Item) → is_nil before ≡ false → fits_behind before i ≡ true → store_takes (seen before).store i ≡ true → InOrder before i
in_order_so before i n f s = ap (λ b. cond b (is_first i) (fits_behind before i && store_takes (seen before).store i)) n ∙ and_both (fits_behind before i) (store_takes (seen before).store i) f s

some_front : (xs ys : List Item) → is_nil xs ≡ false → is_nil (xs ++ ys) ≡ false
some_front [] ys e = absurd (cc)
some_front (x ∷ xs) ys e = refl

started_more : (p : ℕ) (items more : List Item) → has_started p items ≡ true → has_started p (items ++ more) ≡ true
started_more p items more e = list_any-append (begins p) items more ∙ or_left (has_started p items) (has_started p more) e

given_more : (p t : ℕ) (items more : List Item) → is_given_ticket p t items ≡ true → is_given_ticket p t (items ++ more) ≡ true
given_more p t items more e = list_any-append (gives_ticket p t) items more ∙ or_left (is_given_ticket p t items) (is_given_ticket p t more) e

-- ---- replies

-- a ticket that was given and has no reply
pub record Open (p : ℕ) (before : List Item) (t : ℕ) : Type 0 where
  pub given : is_given_ticket p t (life p before) ≡ true
  pub unreplied : is_replied p t (life p before) ≡ false

open_behind : (p : ℕ) (before : List Item) (posted : BTreeSet ℕ) (r : ℕ × Answer) (t : ℕ) → (t == r.0) ≡ false → Open p before t → Open p (before ++ reply_items p posted r) t
open_behind p before posted r t n h = record {
  given = ap (is_given_ticket p t) on ∙ given_more p t (life p before) (reply_items p posted r) h.given;
  unreplied = ap (is_replied p t) on ∙ list_any-append (replies_to p t) (life p before) (reply_items p posted r) ∙ or_none (is_replied p t (life p before)) (is_replied p t (reply_items p posted r)) h.unreplied (none (is_among posted r.0));
}
  where
    on : life p (before ++ reply_items p posted r) ≡ life p before ++ reply_items p posted r
    on = life_on p before (reply_items p posted r) (reply_silent p p posted r).lives

    none : (b : Bool) → is_replied p t (item.Reply p r.0 r.1 ∷ body_if b p r.0 r.1) ≡ false
    none true = ap (λ c. (c && (r.0 == t)) || (false || false)) (number_itself p) ∙ ap (λ c. c || (false || false)) (number_turned t r.0 n)
    none false = ap (λ c. (c && (r.0 == t)) || false) (number_itself p) ∙ ap (λ c. c || false) (number_turned t r.0 n)

each_open : (p : ℕ) (before : List Item) (posted : BTreeSet ℕ) (r : ℕ × Answer) (rs : Replies) → EachReply (λ n. (n == r.0) ≡ false) rs → EachReply (Open p before) rs → EachReply (Open p (before ++ reply_items p posted r)) rs
each_open p before posted r [] n h = tt
each_open p before posted r (s ∷ rs) n h = (open_behind p before posted r s.0 n.0 h.0, each_open p before posted r rs n.1 h.1)

pub replies_fit : (p : ℕ) (before : List Item) (posted : BTreeSet ℕ) (rs : Replies) → is_nil before ≡ false → has_started p before ≡ true → EachReply (Open p before) rs → AreApart rs → AllItems InOrder before (flat_map (reply_items p posted) rs)
replies_fit p before posted [] some started h a = tt
replies_fit p before posted (r ∷ rs) some started h a =
    items-append InOrder before (reply_items p posted r) (flat_map (reply_items p posted) rs) (
      in_order_so before (item.Reply p r.0 r.1) some
          (and_both (knows_ticket p r.0 before) (not (is_replied p r.0 (life p before))) (and_both (has_started p before) (is_given_ticket p r.0 (life p before)) started h.0.given) (ap not h.0.unreplied)) refl,
      body (is_among posted r.0),
    )
    (replies_fit p (before ++ reply_items p posted r) posted rs (some_front before (reply_items p posted r) some) (started_more p before (reply_items p posted r) started) (each_open p before posted r rs a.0 h.1) a.1)
  where
    reply : List Item
    reply = item.Reply p r.0 r.1 ∷ []

    body : (b : Bool) → AllItems InOrder (before ++ item.Reply p r.0 r.1 ∷ []) (body_if b p r.0 r.1)
    body false = tt
    body true = (
      in_order_so (before ++ reply) (item.Body p r.0 (answer_status r.1) (answer_text r.1)) (some_front before reply some)
          (and_both (has_started p (before ++ reply)) (is_given_ticket p r.0 (life p (before ++ reply))) (started_more p before reply started)
          (ap (is_given_ticket p r.0) (life_on p before reply (λ l. refl)) ∙ given_more p r.0 (life p before) reply h.0.given)) refl,
      tt,
    )

-- ---- no item but an expiry can be too early

abbrev is_no_expiry : Item → Bool
is_no_expiry (item.Expired lease) = false
is_no_expiry _ = true

in_time : (before : List Item) (i : Item) → is_no_expiry i ≡ true → too_early before i ≡ None
in_time before (item.Expired lease) e = absurd (cc)
in_time before _ e = refl

all_in_time : (before items : List Item) → list_all is_no_expiry items ≡ true → AllItems (λ b i. too_early b i ≡ None) before items
all_in_time before [] e = tt
all_in_time before (i ∷ items) e = (in_time before i (and_first (is_no_expiry i) (list_all is_no_expiry items) e), all_in_time (before ++ i ∷ []) items (and_second (is_no_expiry i) (list_all is_no_expiry items) e))

reply_no_expiry : (p : ℕ) (posted : BTreeSet ℕ) (r : ℕ × Answer) → list_all is_no_expiry (reply_items p posted r) ≡ true
reply_no_expiry p posted r = by (is_among posted r.0)
  where
    by : (b : Bool) → list_all is_no_expiry (item.Reply p r.0 r.1 ∷ body_if b p r.0 r.1) ≡ true
    by true = refl
    by false = refl

replies_no_expiry : (p : ℕ) (posted : BTreeSet ℕ) (rs : Replies) → list_all is_no_expiry (flat_map (reply_items p posted) rs) ≡ true
replies_no_expiry p posted [] = refl
replies_no_expiry p posted (r ∷ rs) =
    list_all-append is_no_expiry (reply_items p posted r) (flat_map (reply_items p posted) rs)
    ∙ and_both (list_all is_no_expiry (reply_items p posted r)) (list_all is_no_expiry (flat_map (reply_items p posted) rs)) (reply_no_expiry p posted r) (replies_no_expiry p posted rs)

turn_no_expiry : (w : World) (p : ℕ) (x : Place) (e : CoreEvent) (o : Outcome) (v : World) (y : Place) (own : List Item) (told : Replies) → Turn w p x e o v y own told → list_all is_no_expiry own ≡ true
turn_no_expiry w p x _ _ _ _ _ _ (takes ticket i) = by (is_among x.posted ticket)
  where
    by : (b : Bool) → list_all is_no_expiry (item.Taken p ticket i ∷ line_if b p ticket i) ≡ true
    by true = refl
    by false = refl
turn_no_expiry w p x _ _ _ _ _ _ (ticks o) = refl
turn_no_expiry w p x _ _ _ _ _ _ (asks_it ticket q o u) = refl
turn_no_expiry w p x _ _ _ _ _ _ (posts_it ticket path body q o u) = refl
turn_no_expiry w p x _ _ _ _ _ _ (calls own member ticket q) = refl
turn_no_expiry w p x _ _ _ _ _ _ (opens own member ask) = refl
turn_no_expiry w p x _ _ _ _ _ _ (closes own number e) = refl
turn_no_expiry w p x _ _ _ _ _ _ (answers number call a o e g) = refl
turn_no_expiry w p x _ _ _ _ _ _ (loses number call o e) = refl
turn_no_expiry w p x _ _ _ _ _ _ (delivers number s i rest o a c d g k) = refl
turn_no_expiry w p x _ _ _ _ _ _ (cuts number s o a c d g) = refl
turn_no_expiry w p x _ _ _ _ _ _ (waits ticket o u) = refl
turn_no_expiry w p x _ _ _ _ _ _ (leaves ticket o) = refl

begun_no_expiry : (w : World) (p clock life' : ℕ) (i : Item) → Begins w p clock life' i → is_no_expiry i ≡ true
begun_no_expiry w p _ _ _ (first e) = refl
begun_no_expiry w p _ _ _ (again x e) = refl

-- ---- each line

module _ (namespace : List ℕ) (items : List Item) (w : World) (ok : WorldOk namespace items w) (b : Behind items w) (none : NoneTwice items w) where
  some : is_nil items ≡ false
  some = ap is_nil b.ledger.begun.is

  started_at : (p : ℕ) (x : Place) → place_at w p ≡ Some x → has_started p items ≡ true
  started_at p x at = (b.ledger.starts_say p).started ∙ ap is_some at

  -- the first one
  abbrev FirstOk : List Item → Type 0
  FirstOk [] = Unit {0}
  FirstOk (i ∷ rest) = InOrder items i

  -- behind the first, of a turn's own items
  turn_fits : (p : ℕ) (x : Place) (e : CoreEvent) (o : Outcome) (v : World) (y : Place) (own : List Item) (told : Replies) → place_at w p ≡ Some x → Turn w p (stepped_to x e) e o v y own told → FirstOk own → AllItems InOrder items own
  turn_fits p x _ _ _ _ _ _ at (ticks o) f = (f, tt)
  turn_fits p x _ _ _ _ _ _ at (asks_it ticket q o u) f = (f, tt)
  turn_fits p x _ _ _ _ _ _ at (posts_it ticket path body q o u) f =
      let posted = item.Posted p ticket path body ∷ [] in (
        f,
        (
          in_order_so (items ++ posted) (item.Asked p ticket q) (some_front items posted some)
              (and_both (has_started p (items ++ posted)) (not (is_some (asked_as p ticket (life p (items ++ posted))))) (started_more p items posted (started_at p x at))
              (ap (λ (l : List Item). not (is_some (asked_as p ticket l))) (life_on p items posted (λ l. refl)) ∙ unasked (asked_as p ticket (life p items ++ posted)) (unasked_on p ticket (life p items) posted ((ok.places p x at).unasked ticket u) refl))) refl,
          tt,
        ),
      )
    where
      unasked : (o : Option Request) → o ≡ None → not (is_some o) ≡ true
      unasked None e = refl
      unasked (Some q) e = absurd (cc)
  turn_fits p x _ _ _ _ _ _ at (calls own member ticket q) f = (f, tt)
  turn_fits p x _ _ _ _ _ _ at (opens own member ask) f = (f, tt)
  turn_fits p x _ _ _ _ _ _ at (closes own number e) f = (f, tt)
  turn_fits p x _ _ _ _ _ _ at (answers number call a o e g) f = (f, tt)
  turn_fits p x _ _ _ _ _ _ at (loses number call o e) f = (f, tt)
  turn_fits p x _ _ _ _ _ _ at (delivers number s i rest o a c d g k) f = (f, tt)
  turn_fits p x _ _ _ _ _ _ at (cuts number s o a c d g) f = (f, tt)
  turn_fits p x _ _ _ _ _ _ at (takes ticket i) f = (f, by (is_among x.posted ticket))
    where
      taken : List Item
      taken = item.Taken p ticket i ∷ []

      known : is_watch_of (asked_as p ticket (life p items)) ≡ true
      known =
          let k = ap (λ c. cond c (is_first (item.Taken p ticket i)) (knows_watch p ticket items && true)) (sym some) ∙ f in
          and_second (has_started p items) (is_watch_of (asked_as p ticket (life p items))) (and_first (knows_watch p ticket items) true k)

      given : (o : Option Request) → asked_as p ticket (life p items) ≡ o → is_watch_of o ≡ true → is_given_ticket p ticket (life p items) ≡ true
      given None e g = absurd (cc)
      given (Some q) e g = asked_given p ticket (life p items) q e

      by : (c : Bool) → AllItems InOrder (items ++ item.Taken p ticket i ∷ []) (line_if c p ticket i)
      by false = tt
      by true = (
        in_order_so (items ++ taken) (item.Body p ticket 200 (item_text i)) (some_front items taken some)
            (and_both (has_started p (items ++ taken)) (is_given_ticket p ticket (life p (items ++ taken))) (started_more p items taken (started_at p x at))
            (ap (is_given_ticket p ticket) (life_on p items taken (λ l. refl)) ∙ given_more p ticket (life p items) taken (given (asked_as p ticket (life p items)) refl known))) refl,
        tt,
      )
  turn_fits p x _ _ _ _ _ _ at (waits ticket o u) f = (f, tt)
  turn_fits p x _ _ _ _ _ _ at (leaves ticket o) f = (f, tt)

  first_own : (own rest : List Item) → is_nil own ≡ false → FirstOk (own ++ rest) → FirstOk own
  first_own [] rest n f = tt
  first_own (i ∷ own) rest n f = f

  -- the replies behind a step
  told_fits : (gained : List Item) (q : ℕ) (y : Place) (s : Stepped w gained q y) → AllItems InOrder (items ++ s.own) (flat_map (reply_items q (all_fetched s.behind s.told).place.posted) (all_fetched s.behind s.told).replies)
  told_fits gained q y s =
      let f = all_fetched s.behind s.told in
      let k = step_fetch namespace items w ok b.ledger none gained q y s in
      let on = life_on q items s.own (turn_live w q (stepped_to s.place s.event) s.event s.outcome s.world s.behind s.own s.told s.turn q) in
      replies_fit q (items ++ s.own) f.place.posted f.replies (some_front items s.own some) (started_more q items s.own (started_at q s.place s.at))
      (each_along (λ t. (is_given_ticket q t (life q items ++ s.own) ≡ true) × (((is_replied q t (life q items) ≡ true) → ⊥) × NotIn t f.place.core)) (Open q (items ++ s.own))
      (λ t m. record {
        given = ap (is_given_ticket q t) on ∙ m.0;
        unreplied = ap (is_replied q t) on ∙ list_any-append (replies_to q t) (life q items) s.own
            ∙ or_none (is_replied q t (life q items)) (is_replied q t s.own) (not_so (is_replied q t (life q items)) m.1.0) (own_unreplied namespace items w ok b.ledger none gained q y s t);
      }) f.replies k.told) k.apart
    where
      not_so : (c : Bool) → (c ≡ true → ⊥) → c ≡ false
      not_so false n = refl
      not_so true n = absurd (n refl)

  posted_fits : (l : Line) (p ticket : ℕ) (path body : List ℕ) (a : Answer) (x : Place) → place_at w p ≡ Some x → (done w l).gained ≡ Ok (item.Posted p ticket path body ∷ reply_items p (with_posted ticket x).posted (ticket, a))
      → InOrder items (item.Posted p ticket path body) → AllItems InOrder items (item.Posted p ticket path body ∷ reply_items p (with_posted ticket x).posted (ticket, a))
  posted_fits l p ticket path body a x at e f =
      let posted = item.Posted p ticket path body ∷ [] in
      let set = (with_posted ticket x).posted in
      let free = free_post w l _ p ticket path body (reply_items p set (ticket, a)) x e refl at in (
        f,
        subst (λ (is : List Item). AllItems InOrder (items ++ posted) is) (append-nil (reply_items p set (ticket, a)))
            (replies_fit p (items ++ posted) set ((ticket, a) ∷ []) (some_front items posted some) (started_more p items posted (started_at p x at)) (
              record {
                given = ap (is_given_ticket p ticket) (life_on p items posted (λ l. refl)) ∙ list_any-append (gives_ticket p ticket) (life p items) posted
                    ∙ or_right (is_given_ticket p ticket (life p items)) (((p == p) && (ticket == ticket)) || false) (ap (λ c. (c && (ticket == ticket)) || false) (number_itself p) ∙ ap (λ c. c || false) (number_itself ticket));
                unreplied = ap (is_replied p ticket) (life_on p items posted (λ l. refl)) ∙ list_any-append (replies_to p ticket) (life p items) posted
                    ∙ or_none (is_replied p ticket (life p items)) false (unreplied free (is_replied p ticket (life p items)) refl) refl;
              },
              tt,
            ) (tt, tt)),
      )
    where
      unreplied : is_among x.tickets ticket ≡ false → (c : Bool) → is_replied p ticket (life p items) ≡ c → c ≡ false
      unreplied free false e = refl
      unreplied free true e = absurd (let no_way : true ≡ false = sym (none p x at ticket e).0 ∙ free in cc)

  own_some : (p : ℕ) (x : Place) (e : CoreEvent) (o : Outcome) (v : World) (y : Place) (own : List Item) (told : Replies) → Turn w p x e o v y own told → is_nil own ≡ false
  own_some p x _ _ _ _ _ _ (ticks o) = refl
  own_some p x _ _ _ _ _ _ (asks_it ticket q o u) = refl
  own_some p x _ _ _ _ _ _ (posts_it ticket path body q o u) = refl
  own_some p x _ _ _ _ _ _ (calls own member ticket q) = refl
  own_some p x _ _ _ _ _ _ (opens own member ask) = refl
  own_some p x _ _ _ _ _ _ (closes own number e) = refl
  own_some p x _ _ _ _ _ _ (answers number call a o e g) = refl
  own_some p x _ _ _ _ _ _ (loses number call o e) = refl
  own_some p x _ _ _ _ _ _ (delivers number s i rest o a c d g k) = refl
  own_some p x _ _ _ _ _ _ (cuts number s o a c d g) = refl
  own_some p x _ _ _ _ _ _ (takes ticket i) = refl
  own_some p x _ _ _ _ _ _ (waits ticket o u) = refl
  own_some p x _ _ _ _ _ _ (leaves ticket o) = refl

  effect_fits : (l : Line) (after : World) (gained : List Item) → (done w l).gained ≡ Ok gained → FirstOk gained → Effect w after gained → AllItems InOrder items gained
  effect_fits l _ _ e f (starts p clock life' i k) = (f, tt)
  effect_fits l _ _ e f (sets p millis x at forward) = (f, tt)
  effect_fits l _ _ e f (refuses_post p ticket path body a x at) = posted_fits l p ticket path body a x at e f
  effect_fits l _ _ e f (executes number call at fresh) = (f, tt)
  effect_fits l _ _ e f (expires lease t at due) = (f, tt)
  effect_fits l _ _ e f (applies member revision t at) = (f, tt)
  effect_fits l _ _ e f (pushes number s t i at a c k) = (f, tt)
  effect_fits l _ _ e f (turns p x ev o v y own told at out t) =
      let fetched = all_fetched y told in
      let rest = flat_map (reply_items p fetched.place.posted) fetched.replies in
      items-append InOrder items own rest (turn_fits p x ev o v y own told at t (first_own own rest (own_some p (stepped_to x ev) ev o v y own told t) f))
      (told_fits (own ++ rest) p fetched.place (record { place = x; event = ev; outcome = o; world = v; behind = y; own = own; told = told; at = at; out = out; turn = t; is = refl; gains = refl }))

  pub line_in_order : (l : Line) (gained : List Item) → (done w l).gained ≡ Ok gained → AllItems InOrder items gained
  line_in_order l gained e = effect_fits l (done w l).world gained e (by gained e) (effect w l gained e)
    where
      by : (is : List Item) → (done w l).gained ≡ Ok is → FirstOk is
      by [] e = tt
      by (i ∷ rest) e = let k = line_fits namespace items w ok b l i rest e in in_order_so items i some k.0 k.1

  -- ---- floors

  late : (c now floor : ℕ) → c ≡ now → nat_lt now floor ≡ false → too_early_at c floor ≡ None
  late c now floor e n = ap (λ b. cond b (Some (fault.Early c floor)) None) (ap (λ (k : ℕ). nat_lt k floor) e ∙ n)

  due_so : (f : Floor) (x : Place) → below_floor f (Some x) ≡ None → nat_lt x.clock f.floor ≡ false
  due_so f x e = by (nat_lt x.clock f.floor) refl e
    where
      by : (c : Bool) → nat_lt x.clock f.floor ≡ c → cond c (Some (world.NotDue x.clock f.floor)) None ≡ None → c ≡ false
      by false g h = refl
      by true g h = absurd (cc)

  expired_in_time : (lease : ℕ) → not_due w lease ≡ None → InTime items (item.Expired lease)
  expired_in_time lease e = ap (λ (fs : Numbered Floor). too_early_by items (kept_at fs lease)) b.ledger.floors_say ∙ by (kept_at w.floors lease) refl e
    where
      by : (o : Option Floor) → kept_at w.floors lease ≡ o → not_due_by w o ≡ None → too_early_by items o ≡ None
      by None g h = refl
      by (Some f) g h =
          let k = b.ledger.floors_of lease f g in
          let clock : clock_of f.proxy items ≡ k.0.clock = (subst (StartSays items f.proxy) k.1 (b.ledger.starts_say f.proxy)).clock in
          late (clock_of f.proxy items) k.0.clock f.floor clock (due_so f k.0 (sym (ap (below_floor f) k.1) ∙ h))

  pub effect_in_time : (after : World) (gained : List Item) → Effect w after gained → AllItems InTime items gained
  effect_in_time _ _ (starts p clock life' i k) = (in_time items i (begun_no_expiry w p clock life' i k), tt)
  effect_in_time _ _ (sets p millis x at forward) = (refl, tt)
  effect_in_time _ _ (refuses_post p ticket path body a x at) = (refl, all_in_time (items ++ item.Posted p ticket path body ∷ []) (reply_items p (with_posted ticket x).posted (ticket, a)) (reply_no_expiry p (with_posted ticket x).posted (ticket, a)))
  effect_in_time _ _ (executes number call at fresh) = (refl, tt)
  effect_in_time _ _ (expires lease t at due) = (expired_in_time lease due, tt)
  effect_in_time _ _ (applies member revision t at) = (refl, tt)
  effect_in_time _ _ (pushes number s t i at a c k) = (refl, tt)
  effect_in_time _ _ (turns p x ev o v y own told at out t) =
      let fetched = all_fetched y told in
      let rest = flat_map (reply_items p fetched.place.posted) fetched.replies in
      all_in_time items (own ++ rest)
      (list_all-append is_no_expiry own rest ∙ and_both (list_all is_no_expiry own) (list_all is_no_expiry rest) (turn_no_expiry w p (stepped_to x ev) ev o v y own told t) (replies_no_expiry p fetched.place.posted fetched.replies))
