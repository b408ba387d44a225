-- A request that was named in a life waits as a read for nothing but the acquire that is for it: a turn keeps that.
use Rattle.std.proofs.Common.{◌≡◌, ◌≢◌, ℕ, ◌==◌, ◌||◌, Bool, true, false, List, [], ◌∷◌, ◌++◌, None, Some, Ok, refl, sym, ◌∙◌, ap}
use Rattle.etcd_types.specs.declared.request.Request.{Request}
use Rattle.proxy_model.specs.Keyed.{is_in_order}
use Rattle.core_model.specs.declared.event.CoreEvent.{CoreEvent}
use Rattle.core_model.specs.declared.event.CoreEvent.TheVariants as event
use Rattle.core_model.specs.declared.event.Outcome.{Outcome}
use Rattle.core_model.specs.ClockWork.{clock_work}
use Rattle.core_model.specs.Fits.{CoreOk}
use Rattle.core_model.specs.State.{Core}
use Rattle.core_model.specs.Step.{stepped}
use Rattle.script_text.specs.declared.item.Item.{Item}
use Rattle.world_model.specs.Gains.{Replies}
use Rattle.world_model.specs.Lives.{life, asked_as, is_named}
use Rattle.world_model.specs.Places.{place_at}
use Rattle.world_model.specs.Sends.{next_call}
use Rattle.world_model.specs.State.{Place, World, word}
use Rattle.world_laws.proofs.Effects.{Turn, ticks, asks_it, posts_it, calls, opens, closes, answers, loses, delivers, cuts, takes, waits, leaves}
use Rattle.renewed_laws.proofs.Gains.{stepped_to}
use Rattle.renewed_laws.proofs.Lives.{Lives, life_on}
use Rattle.renewed_laws.proofs.Worlds.{WorldOk}
use Rattle.executed_laws.proofs.Naming.{Unnamed, Unnaming, named-append, taken_unnaming, call_names}
use Rattle.executed_laws.proofs.Newly.{sends_waits}
use Rattle.executed_laws.proofs.Reading.{WaitsSo, step_waits}
use Rattle.executed_laws.proofs.Waiting.{not_both}

abbrev pub NamedWait : ℕ → List Item → Core → Type 0
NamedWait p told c = (t : ℕ) → t ≢ 0 → is_named p t told ≡ true → WaitsSo t c

but_second : (a b : Bool) → b ≡ false → a || b ≡ true → a ≡ true
but_second true b f h = refl
but_second false b f h = not_both b h f

but_first : (a b : Bool) → a ≡ false → a || b ≡ true → b ≡ true
but_first true b f h = absurd (cc)
but_first false b f h = h

pub later_wait : (items more : List Item) (q : ℕ) (c : Core) → Lives q more → Unnaming q more → NamedWait q (life q items) c → NamedWait q (life q (items ++ more)) c
later_wait items more q c l silent h t n e =
    h t n (but_second (is_named q t (life q items)) (is_named q t more) (silent t) (sym (ap (is_named q t) (life_on q items more l) ∙ named-append q t (life q items) more) ∙ e))

pub turn_wait : (p : ℕ) (told own : List Item) (c : Core) (e : CoreEvent) (now : ℕ) → CoreOk c → Unnamed p told → ((ticket word : ℕ) (q : Request) → e ≡ event.Ask ticket q word → asked_as p ticket told ≡ None)
    → ((t : ℕ) → t ≢ 0 → is_named p t own ≡ true → WaitsSo t (stepped c e now).core) → NamedWait p told c → NamedWait p (told ++ own) (stepped c e now).core
turn_wait p told own c e now ok unnamed free new h t n named = by (is_named p t told) refl
  where
    by : (b : Bool) → is_named p t told ≡ b → WaitsSo t (stepped c e now).core
    by true f = step_waits t c e now ok (λ ticket word q is same. not_both (is_named p t told) f (unnamed t n (ap (λ (i : ℕ). asked_as p i told) (sym same) ∙ free ticket word q is))) (h t n f)
    by false f = new t n (but_first (is_named p t told) (is_named p t own) f (sym (named-append p t told own) ∙ named))

take_no_ask : (t ticket word : ℕ) (q : Request) → event.Take t ≡ event.Ask ticket q word → ⊥
take_no_ask t ticket word q e = absurd (cc)

pub take_wait : (p : ℕ) (told : List Item) (c : Core) (ticket now : ℕ) → CoreOk c → NamedWait p told c → NamedWait p told (stepped c (event.Take ticket) now).core
take_wait p told c ticket now ok h t n e = step_waits t c (event.Take ticket) now ok (λ i word q is same. take_no_ask ticket i word q is) (h t n e)

-- what a turn asks, and what it sends

same_ticket : (t t' word word' : ℕ) (q q' : Request) → event.Ask t q word ≡ event.Ask t' q' word' → t ≡ t'
same_ticket t t' word word' q q' e = cc

pub turn_free : (namespace : List ℕ) (items : List Item) (w : World) (p : ℕ) (x : Place) (e : CoreEvent) (o : Outcome) (v : World) (y : Place) (own : List Item) (told : Replies) → WorldOk namespace items w → place_at w p ≡ Some x
    → Turn w p (stepped_to x e) e o v y own told → (ticket word : ℕ) (q : Request) → e ≡ event.Ask ticket q word → asked_as p ticket (life p items) ≡ None
turn_free namespace items w p x _ _ _ _ _ _ h at (asks_it t r o n) ticket k q f = ap (λ (i : ℕ). asked_as p i (life p items)) (sym (same_ticket t ticket (word w) k r q f)) ∙ (h.places p x at).unasked t n
turn_free namespace items w p x _ _ _ _ _ _ h at (posts_it t path body r o n) ticket k q f = ap (λ (i : ℕ). asked_as p i (life p items)) (sym (same_ticket t ticket (word w) k r q f)) ∙ (h.places p x at).unasked t n
turn_free namespace items w p x _ _ _ _ _ _ h at (ticks o) ticket k q f = absurd (cc)
turn_free namespace items w p x _ _ _ _ _ _ h at (calls own member t r) ticket k q f = absurd (cc)
turn_free namespace items w p x _ _ _ _ _ _ h at (opens own member ask) ticket k q f = absurd (cc)
turn_free namespace items w p x _ _ _ _ _ _ h at (closes own number e) ticket k q f = absurd (cc)
turn_free namespace items w p x _ _ _ _ _ _ h at (answers number call a o e g) ticket k q f = absurd (cc)
turn_free namespace items w p x _ _ _ _ _ _ h at (loses number call o e) ticket k q f = absurd (cc)
turn_free namespace items w p x _ _ _ _ _ _ h at (delivers number s i more o a b c d e) ticket k q f = absurd (cc)
turn_free namespace items w p x _ _ _ _ _ _ h at (cuts number s o a b c d) ticket k q f = absurd (cc)
turn_free namespace items w p x _ _ _ _ _ _ h at (takes t i) ticket k q f = absurd (cc)
turn_free namespace items w p x _ _ _ _ _ _ h at (waits t o n) ticket k q f = absurd (cc)
turn_free namespace items w p x _ _ _ _ _ _ h at (leaves t o) ticket k q f = absurd (cc)

pub turn_new : (w : World) (p : ℕ) (x : Place) (e : CoreEvent) (o : Outcome) (v : World) (y : Place) (own : List Item) (told : Replies) → CoreOk x.core → is_in_order (clock_work x.clock x.core).acquires ≡ true → (stepped x.core e x.clock).outcome ≡ Ok o
    → Turn w p (stepped_to x e) e o v y own told → (t : ℕ) → t ≢ 0 → is_named p t own ≡ true → WaitsSo t (stepped x.core e x.clock).core
turn_new w p x _ _ _ _ _ _ ok order is (calls own member ticket q) t n named =
    let its = call_names p (next_call w) member ticket q t named in
    Rattle.std.proofs.Common.subst (λ (i : ℕ). WaitsSo i (stepped x.core event.Work x.clock).core) its (sends_waits ticket x.core x.clock own member q ok order is (λ z. n (sym its ∙ z)))
turn_new w p x _ _ _ _ _ _ ok order is (takes ticket i) t n named = not_both _ named (taken_unnaming p p _ ticket i t)
turn_new w p x _ _ _ _ _ _ ok order is (asks_it ticket r o f) t n named = absurd (cc)
turn_new w p x _ _ _ _ _ _ ok order is (posts_it ticket path body r o f) t n named = absurd (cc)
turn_new w p x _ _ _ _ _ _ ok order is (ticks o) t n named = absurd (cc)
turn_new w p x _ _ _ _ _ _ ok order is (opens own member ask) t n named = absurd (cc)
turn_new w p x _ _ _ _ _ _ ok order is (closes own number e) t n named = absurd (cc)
turn_new w p x _ _ _ _ _ _ ok order is (answers number call a o e g) t n named = absurd (cc)
turn_new w p x _ _ _ _ _ _ ok order is (loses number call o e) t n named = absurd (cc)
turn_new w p x _ _ _ _ _ _ ok order is (delivers number s i more o a b c d e) t n named = absurd (cc)
turn_new w p x _ _ _ _ _ _ ok order is (cuts number s o a b c d) t n named = absurd (cc)
turn_new w p x _ _ _ _ _ _ ok order is (waits ticket o f) t n named = absurd (cc)
turn_new w p x _ _ _ _ _ _ ok order is (leaves ticket o) t n named = absurd (cc)
