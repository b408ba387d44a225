-- What is told of each reply of a line: the time that is over, its cause, and that it comes in time.
use Rattle.std.proofs.Common.{◌≡◌, ℕ, ◌==◌, Bool, true, false, not, ◌&&◌, List, [], ◌∷◌, ◌++◌, append_assoc, Option, None, Some, Ok, refl, sym, ◌∙◌, ap, subst}
use Rattle.std.specs.Prelude.{flat_map}
use Rattle.std.specs.List.{list_all}
use Rattle.std.specs.Option.{option_map}
use Rattle.std.specs.BTreeSet.{BTreeSet}
use Rattle.std.proofs.lemmas.List.Folds.{list_all-append}
use Rattle.etcd_types.proofs.Bools.{and_both}
use Rattle.etcd_types.specs.declared.answer.Answer.{Answer}
use Rattle.etcd_types.specs.declared.answer.Refusal.{Refusal}
use Rattle.etcd_types.specs.declared.code.TheConstants.{DEADLINE_EXCEEDED}
use Rattle.etcd_types.specs.declared.request.Request.{Request}
use Rattle.etcd_types.specs.Keys.{is_empty}
use Rattle.json_model.specs.declared.fault.ApiFault.{ApiFault}
use Rattle.json_model.specs.declared.fault.ApiFault.TheVariants as api
use Rattle.proxy_model.specs.declared.unserved.Unserved.{Unserved}
use Rattle.proxy_model.specs.RequestRefusals.{first_of, unserved, unsupported, given, request_lacks_key, names_session, reserved_lease}
use Rattle.proxy_model.specs.Prefixes.{leasing_range}
use Rattle.store_model.specs.Refusals.{key_not_provided, too_many_operations}
use Rattle.core_model.specs.declared.event.CoreEvent.{CoreEvent}
use Rattle.core_model.specs.declared.event.CoreEvent.TheVariants as event
use Rattle.core_model.specs.declared.event.Outcome.{Outcome}
use Rattle.core_model.specs.declared.event.Outcome.TheVariants as outcome
use Rattle.core_model.specs.ClockWork.{clock_work}
use Rattle.core_model.specs.Refusals.{touches, reserved_range, writes_too_much, refusal_of}
use Rattle.core_model.specs.State.{Core}
use Rattle.core_model.specs.Step.{stepped}
use Rattle.script_text.specs.declared.item.Item.{Item}
use Rattle.script_text.specs.declared.item.Item.TheVariants as item
use Rattle.world_model.specs.Asks.{told_at_once}
use Rattle.world_model.specs.Gains.{Replies, body_if, line_if, reply_items}
use Rattle.world_model.specs.Lives.{world_of, life, asked_as, opened_it}
use Rattle.world_model.specs.Places.{is_among}
use Rattle.world_model.specs.PostRefusals.{post_code}
use Rattle.world_model.specs.State.{Place, World, word}
use Rattle.world_laws.proofs.Effects.{Turn, ticks, asks_it, posts_it, calls, opens, closes, answers, loses, delivers, cuts, takes, waits, leaves}
use Rattle.executed_laws.proofs.Worlds.{BeginsAs, begins_on}
use Rattle.prefix_laws.proofs.Told.{AllItems}
use Rattle.prefix_laws.proofs.Told as told
use Rattle.renewed_laws.proofs.Gains.{stepped_to}
use Rattle.renewed_laws.proofs.Replies.{Each}
use Rattle.cause_laws.specs.Timeouts.{is_told}
use Rattle.cause_laws.specs.Causes.{members_of}
use Rattle.cause_laws.proofs.Caused.{Causing, cause_on, asked_caused}
use Rattle.cause_laws.proofs.Items.{in_time_on, times_on, all_told, replies_quiet}
use Rattle.cause_laws.proofs.Replies.{asked_refusal}
use Rattle.cause_laws.proofs.Streams.{OpensNone}
use Rattle.cause_laws.proofs.Turns.{OwnStep}
use Rattle.cause_laws.proofs.Waits.{Due, Timely, other_due}

-- ---- replies of a line

pub replies_all : (p : ℕ) (posted : BTreeSet ℕ) (rs : Replies) → list_all is_told (flat_map (reply_items p posted) rs) ≡ true
replies_all p posted [] = refl
replies_all p posted (r ∷ rs) =
    list_all-append is_told (item.Reply p r.0 r.1 ∷ body_if (is_among posted r.0) p r.0 r.1) (flat_map (reply_items p posted) rs)
    ∙ and_both (list_all is_told (body_if (is_among posted r.0) p r.0 r.1)) (list_all is_told (flat_map (reply_items p posted) rs)) (by (is_among posted r.0)) (replies_all p posted rs)
  where
    by : (b : Bool) → list_all is_told (body_if b p r.0 r.1) ≡ true
    by true = refl
    by false = refl

pub replies_open : (p : ℕ) (posted : BTreeSet ℕ) (rs : Replies) → OpensNone (flat_map (reply_items p posted) rs)
replies_open p posted [] n q = refl
replies_open p posted (r ∷ rs) n q = by (is_among posted r.0) (replies_open p posted rs n q)
  where
    by : (b : Bool) → opened_it q n (flat_map (reply_items p posted) rs) ≡ false → opened_it q n (item.Reply p r.0 r.1 ∷ (body_if b p r.0 r.1 ++ flat_map (reply_items p posted) rs)) ≡ false
    by true h = h
    by false h = h

-- an item, by those before it
abbrev pub Tells : List Item → Item → Type 0
Tells before (item.Reply p ticket a) =
    Due before p ticket a × Causing (members_of before) (world_of before).0 (world_of before).1 before p ticket a × ((q : Request) → asked_as p ticket (life p before) ≡ Some q → Timely before p ticket a)
Tells before _ = Unit {0}

-- of a reply, under the world's names
abbrev pub Both : ℕ → List ℕ → List ℕ → List Item → ℕ → ℕ × Answer → Type 0
Both members namespace prefix items p r = Due items p r.0 r.1 × Causing members namespace prefix items p r.0 r.1 × Timely items p r.0 r.1

pub due_on : (items more : List Item) (p ticket : ℕ) (a : Answer) → list_all is_told more ≡ true → Due items p ticket a → Due (items ++ more) p ticket a
due_on items more p ticket a all d r e c = let k = d r e c in (k.0, times_on items more p ticket all k.1)

pub names_are : (items : List Item) (namespace prefix : List ℕ) → BeginsAs items namespace prefix → world_of items ≡ (namespace, prefix)
names_are items namespace prefix b = ap world_of b.is

pub both_tell : (members : ℕ) (namespace prefix : List ℕ) (items : List Item) (p ticket : ℕ) (a : Answer) → BeginsAs items namespace prefix → members_of items ≡ members → Due items p ticket a → Causing members namespace prefix items p ticket a
    → ((q : Request) → asked_as p ticket (life p items) ≡ Some q → Timely items p ticket a) → Tells items (item.Reply p ticket a)
both_tell members namespace prefix items p ticket a b m d k t =
    (d, subst (λ (z : ℕ). Causing z (world_of items).0 (world_of items).1 items p ticket a) (sym m) (subst (λ (n : List ℕ × List ℕ). Causing members n.0 n.1 items p ticket a) (sym (names_are items namespace prefix b)) k), t)

pub all_due : (members : ℕ) (namespace prefix : List ℕ) (items : List Item) (p : ℕ) → BeginsAs items namespace prefix → ((more : List Item) → members_of (items ++ more) ≡ members) → (rs : Replies) → Each (Both members namespace prefix items p) rs → Each (λ r. (more : List Item) → list_all told.is_told more ≡ true → Tells (items ++ more) (item.Reply p r.0 r.1)) rs
all_due members namespace prefix items p b m [] h = tt
all_due members namespace prefix items p b m (r ∷ rs) h = (
  λ more all.
      let told = all_told more all in
      both_tell members namespace prefix (items ++ more) p r.0 r.1 (begins_on items more namespace prefix b) (m more) (due_on items more p r.0 r.1 told h.0.0)
      (λ z e. cause_on members namespace prefix items more p r.0 z told (h.0.1 z e)) (λ q e n. in_time_on items more p r.0 (replies_quiet p items more told) (h.0.2 n)),
  all_due members namespace prefix items p b m rs h.1,
)

pub each_both : (members : ℕ) (namespace prefix : List ℕ) (items : List Item) (p : ℕ) (rs : Replies) → Each (λ r. Due items p r.0 r.1) rs → Each (λ r. Causing members namespace prefix items p r.0 r.1) rs → Each (λ r. Timely items p r.0 r.1) rs → Each (Both members namespace prefix items p) rs
each_both members namespace prefix items p [] h k t = tt
each_both members namespace prefix items p (r ∷ rs) h k t = ((h.0, k.0, t.0), each_both members namespace prefix items p rs h.1 k.1 t.1)

-- ---- refusals of other codes

abbrev pub Other : Option Refusal → Type 0
Other None = Unit {0}
Other (Some r) = (r.code == DEADLINE_EXCEEDED) ≡ false

abbrev pub AllOther : List (Option Refusal) → Type 0
AllOther [] = Unit {0}
AllOther (o ∷ os) = Other o × AllOther os

pub first_other : (os : List (Option Refusal)) → AllOther os → Other (first_of os)
first_other [] h = tt
first_other (None ∷ os) h = first_other os h.1
first_other (Some r ∷ os) h = h.0

pub given_other : (b : Bool) (r : Refusal) → (r.code == DEADLINE_EXCEEDED) ≡ false → Other (given b r)
given_other true r h = h
given_other false r h = tt

pub unserved_other : (o : Option Unserved) → Other (option_map unsupported o)
unserved_other None = tt
unserved_other (Some x) = refl

pub refusal_other : (prefix : List ℕ) (q : Request) → Other (refusal_of prefix q)
refusal_other prefix q =
    first_other (option_map unsupported (unserved q) ∷ given (request_lacks_key q) key_not_provided ∷ given (not (is_empty prefix) && touches (leasing_range prefix) q) reserved_range ∷ given (names_session q) reserved_lease ∷ given (not (is_empty prefix) && writes_too_much q) too_many_operations ∷ []) (
      unserved_other (unserved q),
      (
        given_other (request_lacks_key q) key_not_provided refl,
        (
          given_other (not (is_empty prefix) && touches (leasing_range prefix) q) reserved_range refl,
          (
            given_other (names_session q) reserved_lease refl,
            (given_other (not (is_empty prefix) && writes_too_much q) too_many_operations refl, tt),
          ),
        ),
      ),
    )

pub post_other : (why : ApiFault) → (post_code why == DEADLINE_EXCEEDED) ≡ false
post_other api.NoSuchPath = refl
post_other api.NotJson = refl
post_other (api.Unsupported name) = refl
post_other (api.Field why) = refl
post_other api.NoMemory = refl

pub asked_due : (items : List Item) (p : ℕ) (c : Core) (now ticket word : ℕ) (q : Request) (o : Outcome) → (stepped c (event.Ask ticket q word) now).outcome ≡ Ok o → Each (λ r. Due items p r.0 r.1) (told_at_once ticket o)
asked_due items p c now ticket word q (outcome.Replied a) e = (due, tt)
  where
    due : Due items p ticket a
    due r is code =
        let its : refusal_of (clock_work now c).own.waits.prefix q ≡ Some r = asked_refusal c now ticket word q r (e ∙ ap (λ (x : Answer). Ok (outcome.Replied x)) is) in
        let other : Other (Some r) = subst Other its (refusal_other (clock_work now c).own.waits.prefix q) in
        other_due items p ticket r other r refl code
asked_due items p c now ticket word q outcome.Waiting e = tt
asked_due items p c now ticket word q outcome.Pending e = tt
asked_due items p c now ticket word q outcome.Noted e = tt
asked_due items p c now ticket word q (outcome.Item i) e = tt
asked_due items p c now ticket word q (outcome.Job j) e = tt

pub turn_due : (items : List Item) (w : World) (p : ℕ) (x : Place) (e : CoreEvent) (o : Outcome) (v : World) (y : Place) (own : List Item) (told : Replies) → (stepped x.core e x.clock).outcome ≡ Ok o → Turn w p (stepped_to x e) e o v y own told → Each (λ r. Due items p r.0 r.1) told
turn_due items w p x _ _ _ _ _ _ is (asks_it ticket q o n) = asked_due items p x.core x.clock ticket (word w) q o is
turn_due items w p x _ _ _ _ _ _ is (posts_it ticket path body q o n) = asked_due items p x.core x.clock ticket (word w) q o is
turn_due items w p x _ _ _ _ _ _ is (ticks o) = tt
turn_due items w p x _ _ _ _ _ _ is (calls own member ticket q) = tt
turn_due items w p x _ _ _ _ _ _ is (opens own member ask) = tt
turn_due items w p x _ _ _ _ _ _ is (closes own number e) = tt
turn_due items w p x _ _ _ _ _ _ is (answers number call a o e k) = tt
turn_due items w p x _ _ _ _ _ _ is (loses number call o e) = tt
turn_due items w p x _ _ _ _ _ _ is (delivers number s i more o a b c d e) = tt
turn_due items w p x _ _ _ _ _ _ is (cuts number s o a b c d) = tt
turn_due items w p x _ _ _ _ _ _ is (takes ticket i) = tt
turn_due items w p x _ _ _ _ _ _ is (waits ticket o n) = tt
turn_due items w p x _ _ _ _ _ _ is (leaves ticket o) = tt

pub turn_caused : (members : ℕ) (namespace prefix : List ℕ) (items : List Item) (w : World) (p : ℕ) (x : Place) (e : CoreEvent) (o : Outcome) (v : World) (y : Place) (own : List Item) (told : Replies) → OwnStep items own x.calls p e → (clock_work x.clock x.core).own.waits.prefix ≡ prefix
    → (stepped x.core e x.clock).outcome ≡ Ok o → Turn w p (stepped_to x e) e o v y own told → Each (λ r. Causing members namespace prefix (items ++ own) p r.0 r.1) told
turn_caused m ns pre items w p x _ _ _ _ _ _ s n is (asks_it ticket q o f) = asked_caused m ns pre items _ x.calls p x.core x.clock ticket (word w) q o s n is
turn_caused m ns pre items w p x _ _ _ _ _ _ s n is (posts_it ticket path body q o f) = asked_caused m ns pre items _ x.calls p x.core x.clock ticket (word w) q o s n is
turn_caused m ns pre items w p x _ _ _ _ _ _ s n is (ticks o) = tt
turn_caused m ns pre items w p x _ _ _ _ _ _ s n is (calls own member ticket q) = tt
turn_caused m ns pre items w p x _ _ _ _ _ _ s n is (opens own member ask) = tt
turn_caused m ns pre items w p x _ _ _ _ _ _ s n is (closes own number e) = tt
turn_caused m ns pre items w p x _ _ _ _ _ _ s n is (answers number call a o e k) = tt
turn_caused m ns pre items w p x _ _ _ _ _ _ s n is (loses number call o e) = tt
turn_caused m ns pre items w p x _ _ _ _ _ _ s n is (delivers number st i more o a b c d e) = tt
turn_caused m ns pre items w p x _ _ _ _ _ _ s n is (cuts number st o a b c d) = tt
turn_caused m ns pre items w p x _ _ _ _ _ _ s n is (takes ticket i) = tt
turn_caused m ns pre items w p x _ _ _ _ _ _ s n is (waits ticket o f) = tt
turn_caused m ns pre items w p x _ _ _ _ _ _ s n is (leaves ticket o) = tt

-- a request that is replied at once is just asked
pub at_once : (items : List Item) (p ticket : ℕ) (q : Request) (o : Outcome) → Each (λ r. Timely (items ++ item.Asked p ticket q ∷ []) p r.0 r.1) (told_at_once ticket o)
at_once items p ticket q (outcome.Replied a) = ((λ n. record { before = items; asked = q; since = []; story = refl; stays = refl; in_time = refl }), tt)
at_once items p ticket q outcome.Waiting = tt
at_once items p ticket q outcome.Pending = tt
at_once items p ticket q outcome.Noted = tt
at_once items p ticket q (outcome.Item i) = tt
at_once items p ticket q (outcome.Job j) = tt

pub turn_timely : (items : List Item) (w : World) (p : ℕ) (x : Place) (e : CoreEvent) (o : Outcome) (v : World) (y : Place) (own : List Item) (told : Replies) → Turn w p x e o v y own told → Each (λ r. Timely (items ++ own) p r.0 r.1) told
turn_timely items w p x _ _ _ _ _ _ (asks_it ticket q o n) = at_once items p ticket q o
turn_timely items w p x _ _ _ _ _ _ (posts_it ticket path body q o n) =
    subst (λ (xs : List Item). Each (λ r. Timely xs p r.0 r.1) (told_at_once ticket o)) (append_assoc items (item.Posted p ticket path body ∷ []) (item.Asked p ticket q ∷ [])) (at_once (items ++ item.Posted p ticket path body ∷ []) p ticket q o)
turn_timely items w p x _ _ _ _ _ _ (ticks o) = tt
turn_timely items w p x _ _ _ _ _ _ (calls own member ticket q) = tt
turn_timely items w p x _ _ _ _ _ _ (opens own member ask) = tt
turn_timely items w p x _ _ _ _ _ _ (closes own number e) = tt
turn_timely items w p x _ _ _ _ _ _ (answers number call a o e k) = tt
turn_timely items w p x _ _ _ _ _ _ (loses number call o e) = tt
turn_timely items w p x _ _ _ _ _ _ (delivers number st i more o a b c d e) = tt
turn_timely items w p x _ _ _ _ _ _ (cuts number st o a b c d) = tt
turn_timely items w p x _ _ _ _ _ _ (takes ticket i) = tt
turn_timely items w p x _ _ _ _ _ _ (waits ticket o n) = tt
turn_timely items w p x _ _ _ _ _ _ (leaves ticket o) = tt

pub turn_tells : (before : List Item) (w : World) (p : ℕ) (x : Place) (e : CoreEvent) (o : Outcome) (v : World) (y : Place) (own : List Item) (told : Replies) → Turn w p x e o v y own told → AllItems Tells before own
turn_tells before w p x _ _ _ _ _ _ (ticks o) = (tt, tt)
turn_tells before w p x _ _ _ _ _ _ (asks_it t r o n) = (tt, tt)
turn_tells before w p x _ _ _ _ _ _ (posts_it t path body r o n) = (tt, (tt, tt))
turn_tells before w p x _ _ _ _ _ _ (calls own member t r) = (tt, tt)
turn_tells before w p x _ _ _ _ _ _ (opens own member ask) = (tt, tt)
turn_tells before w p x _ _ _ _ _ _ (closes own number e) = (tt, tt)
turn_tells before w p x _ _ _ _ _ _ (answers number c b o e k) = (tt, tt)
turn_tells before w p x _ _ _ _ _ _ (loses number c o e) = (tt, tt)
turn_tells before w p x _ _ _ _ _ _ (delivers number s i more o a b c d e) = (tt, tt)
turn_tells before w p x _ _ _ _ _ _ (cuts number s o a b c d) = (tt, tt)
turn_tells before w p x _ _ _ _ _ _ (takes t i) = (tt, by (is_among x.posted t))
  where
    by : (b : Bool) → AllItems Tells (before ++ item.Taken p t i ∷ []) (line_if b p t i)
    by false = tt
    by true = (tt, tt)
turn_tells before w p x _ _ _ _ _ _ (waits t o n) = (tt, tt)
turn_tells before w p x _ _ _ _ _ _ (leaves t o) = (tt, tt)
