-- Each step of a proxy that a line makes, as the truth of its replies needs it: what it hears is what the view has, what it asks is an item
-- of the line, and where reads are decided it leaves the store.
use Rattle.std.proofs.Common.{◌≡◌, ℕ, Bool, true, false, cond, ◌&&◌, List, [], ◌∷◌, ◌++◌, None, Some, Result, Ok, Err, refl, sym, ◌∙◌, ap}
use Rattle.etcd_types.specs.declared.request.Request.{Request}
use Rattle.core_model.specs.declared.event.CoreEvent.{CoreEvent}
use Rattle.core_model.specs.declared.event.CoreEvent.TheVariants as event
use Rattle.core_model.specs.declared.event.Outcome.{Outcome}
use Rattle.core_model.specs.declared.event.StepFault.{StepFault}
use Rattle.core_model.specs.declared.event.StepFault.TheVariants as fault
use Rattle.core_model.specs.ClockWork.{clock_work}
use Rattle.core_model.specs.Step.{is_worn, stepped}
use Rattle.core_model.specs.Stepped.{Stepped}
use Rattle.core_laws.proofs.Steps.Lists.{number_itself}
use Rattle.core_laws.proofs.Steps.Outcomes.{worn_does_nothing}
use Rattle.cache_laws.specs.Moves.View.{View}
use Rattle.event_moves.specs.Events.{HasEvent}
use Rattle.script_text.specs.declared.item.Item.{Item}
use Rattle.script_text.specs.declared.item.Item.TheVariants as item
use Rattle.held_laws.proofs.Items.{asked-append, or_later}
use Rattle.held_laws.proofs.Seen.{SeenOk}
use Rattle.world_model.specs.Answers.{Seen, unseen, saw_all, seen}
use Rattle.world_model.specs.Gains.{Replies}
use Rattle.world_model.specs.Lives.{life, asked_as}
use Rattle.world_model.specs.State.{Place, World}
use Rattle.world_laws.proofs.Effects.{Turn, ticks, asks_it, posts_it, calls, opens, closes, answers, loses, delivers, cuts, takes, waits, leaves}
use Rattle.world_laws.proofs.Quiet.{saw_all-append}
use Rattle.renewed_laws.proofs.Gains.{is_other, stepped_to}
use Rattle.renewed_laws.proofs.Worlds.{PlaceOk}
use Rattle.truth_laws.proofs.Showing.{PlaceSeen}
use Rattle.truth_laws.proofs.Unsent.{decides}

-- one that is worn gives no outcome
pub gave_unworn : (x : Place) (e : CoreEvent) (o : Outcome) → (stepped x.core e x.clock).outcome ≡ Ok o → is_worn x.core ≡ false
gave_unworn x e o is = by (is_worn x.core) refl
  where
    by : (b : Bool) → is_worn x.core ≡ b → is_worn x.core ≡ false
    by false w = w
    by true w = absurd (let no_way : ◌≡◌ {A = Result Outcome StepFault} (Err fault.Worn) (Ok o) = sym (ap (λ (s : Stepped). s.outcome) (worn_does_nothing x.core e x.clock w)) ∙ is in cc)

-- ---- what the view has of the event

pub turn_event : (holder : ℕ → ℕ) (leasing : List ℕ) (w : World) (p : ℕ) (x : Place) (e : CoreEvent) (o : Outcome) (v : World) (y : Place) (own rest : List Item) (told : Replies) (view : View)
    → Turn w p (stepped_to x e) e o v y own told → is_other (own ++ rest) ≡ true → (k : PlaceSeen holder leasing view w p x) → decides e ≡ true → HasEvent holder view p k.own (clock_work x.clock x.core) e
turn_event holder leasing w p x _ _ _ _ _ rest _ view (asks_it ticket q o n) other k d = tt
turn_event holder leasing w p x _ _ _ _ _ rest _ view (posts_it ticket path body q o n) other k d = tt
turn_event holder leasing w p x _ _ _ _ _ rest _ view (answers number call a o e f) other k d = absurd (cc)
turn_event holder leasing w p x _ _ _ _ _ rest _ view (ticks o) other k d = absurd (cc)
turn_event holder leasing w p x _ _ _ _ _ rest _ view (calls own member ticket q) other k d = absurd (cc)
turn_event holder leasing w p x _ _ _ _ _ rest _ view (opens own member ask) other k d = absurd (cc)
turn_event holder leasing w p x _ _ _ _ _ rest _ view (closes own number e) other k d = absurd (cc)
turn_event holder leasing w p x _ _ _ _ _ rest _ view (loses number call o e) other k d = absurd (cc)
turn_event holder leasing w p x _ _ _ _ _ rest _ view (delivers number s i more o a b c f g) other k d = absurd (cc)
turn_event holder leasing w p x _ _ _ _ _ rest _ view (cuts number s o a b c f) other k d = absurd (cc)
turn_event holder leasing w p x _ _ _ _ _ rest _ view (takes ticket i) other k d = absurd (cc)
turn_event holder leasing w p x _ _ _ _ _ rest _ view (waits ticket o n) other k d = absurd (cc)
turn_event holder leasing w p x _ _ _ _ _ rest _ view (leaves ticket o) other k d = absurd (cc)

-- ---- the store

store_on : (items own : List Item) (w : World) → SeenOk (seen items) w → saw_all (seen items) own ≡ seen items → (seen (items ++ own)).store ≡ w.store
store_on items own w h q = ap (λ (s : Seen). s.store) (saw_all-append unseen items own ∙ q) ∙ h.store

pub turn_store : (items : List Item) (w : World) (p : ℕ) (x : Place) (e : CoreEvent) (o : Outcome) (v : World) (y : Place) (own : List Item) (told : Replies) → SeenOk (seen items) w → Turn w p x e o v y own told → decides e ≡ true
    → (seen (items ++ own)).store ≡ w.store
turn_store items w p x _ _ _ _ _ _ h (asks_it ticket q o n) d = store_on items (item.Asked p ticket q ∷ []) w h refl
turn_store items w p x _ _ _ _ _ _ h (posts_it ticket path body q o n) d = store_on items (item.Posted p ticket path body ∷ item.Asked p ticket q ∷ []) w h refl
turn_store items w p x _ _ _ _ _ _ h (answers number call a o e f) d = store_on items (item.Answered number ∷ []) w h refl
turn_store items w p x _ _ _ _ _ _ h (ticks o) d = absurd (cc)
turn_store items w p x _ _ _ _ _ _ h (calls own member ticket q) d = absurd (cc)
turn_store items w p x _ _ _ _ _ _ h (opens own member ask) d = absurd (cc)
turn_store items w p x _ _ _ _ _ _ h (closes own number e) d = absurd (cc)
turn_store items w p x _ _ _ _ _ _ h (loses number call o e) d = absurd (cc)
turn_store items w p x _ _ _ _ _ _ h (delivers number s i more o a b c f g) d = absurd (cc)
turn_store items w p x _ _ _ _ _ _ h (cuts number s o a b c f) d = absurd (cc)
turn_store items w p x _ _ _ _ _ _ h (takes ticket i) d = absurd (cc)
turn_store items w p x _ _ _ _ _ _ h (waits ticket o n) d = absurd (cc)
turn_store items w p x _ _ _ _ _ _ h (leaves ticket o) d = absurd (cc)

-- ---- what it asks

asked_new : (p ticket : ℕ) (q : Request) (told front : List Item) → asked_as p ticket told ≡ None → ((items : List Item) → asked_as p ticket (front ++ items) ≡ asked_as p ticket items) → asked_as p ticket (told ++ (front ++ item.Asked p ticket q ∷ [])) ≡ Some q
asked_new p ticket q told front n quiet =
    asked-append p ticket told (front ++ item.Asked p ticket q ∷ []) ∙ ap (λ o. or_later o (asked_as p ticket (front ++ item.Asked p ticket q ∷ []))) n ∙ quiet (item.Asked p ticket q ∷ [])
    ∙ ap (λ b. cond b (Some q) None) ((λ i. number_itself p i && number_itself ticket i))

same_ticket : (t : ℕ) (r : Request) (w ticket : ℕ) (q : Request) (word : ℕ) → event.Ask t r w ≡ event.Ask ticket q word → t ≡ ticket
same_ticket t r w ticket q word k = cc

same_asked : (t : ℕ) (r : Request) (w ticket : ℕ) (q : Request) (word : ℕ) → event.Ask t r w ≡ event.Ask ticket q word → r ≡ q
same_asked t r w ticket q word k = cc

pub turn_asks : (namespace : List ℕ) (items : List Item) (w : World) (p : ℕ) (x : Place) (e : CoreEvent) (o : Outcome) (v : World) (y : Place) (own : List Item) (told : Replies) → PlaceOk namespace w.calls items p x → Turn w p (stepped_to x e) e o v y own told
    → (ticket : ℕ) (q : Request) (word : ℕ) → e ≡ event.Ask ticket q word → asked_as p ticket (life p items ++ own) ≡ Some q
turn_asks namespace items w p x _ _ _ _ _ _ h (asks_it t r o n) ticket q word e =
    let i = same_ticket t r _ ticket q word e in
    let j = same_asked t r _ ticket q word e in
    (λ k. asked_as p (sym i k) (life p items ++ item.Asked p t r ∷ [])) ∙ asked_new p t r (life p items) [] (h.unasked t n) (λ xs. refl) ∙ ap (λ (s : Request). Some s) j
turn_asks namespace items w p x _ _ _ _ _ _ h (posts_it t path body r o n) ticket q word e =
    let i = same_ticket t r _ ticket q word e in
    let j = same_asked t r _ ticket q word e in
    (λ k. asked_as p (sym i k) (life p items ++ item.Posted p t path body ∷ item.Asked p t r ∷ [])) ∙ asked_new p t r (life p items) (item.Posted p t path body ∷ []) (h.unasked t n) (λ xs. refl) ∙ ap (λ (s : Request). Some s) j
turn_asks namespace items w p x _ _ _ _ _ _ h (answers number call a o e f) ticket q word i = absurd (cc)
turn_asks namespace items w p x _ _ _ _ _ _ h (ticks o) ticket q word i = absurd (cc)
turn_asks namespace items w p x _ _ _ _ _ _ h (calls own member t r) ticket q word i = absurd (cc)
turn_asks namespace items w p x _ _ _ _ _ _ h (opens own member ask) ticket q word i = absurd (cc)
turn_asks namespace items w p x _ _ _ _ _ _ h (closes own number e) ticket q word i = absurd (cc)
turn_asks namespace items w p x _ _ _ _ _ _ h (loses number call o e) ticket q word i = absurd (cc)
turn_asks namespace items w p x _ _ _ _ _ _ h (delivers number s m more o a b c f g) ticket q word i = absurd (cc)
turn_asks namespace items w p x _ _ _ _ _ _ h (cuts number s o a b c f) ticket q word i = absurd (cc)
turn_asks namespace items w p x _ _ _ _ _ _ h (takes t m) ticket q word i = absurd (cc)
turn_asks namespace items w p x _ _ _ _ _ _ h (waits t o n) ticket q word i = absurd (cc)
turn_asks namespace items w p x _ _ _ _ _ _ h (leaves t o) ticket q word i = absurd (cc)
