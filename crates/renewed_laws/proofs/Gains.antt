-- What a line that is taken does, as far as keepalives go: beside its effect, that a call which is answered is one of the life that its proxy has,
-- and that a body which isn't a request is refused.
use Rattle.std.proofs.Common.{◌≡◌, ℕ, ◌==◌, Bool, true, false, cond, List, [], ◌∷◌, ◌++◌, Option, None, Some, Result, Ok, Err, refl, sym, ◌∙◌, ap, subst}
use Rattle.std.specs.Prelude.{flat_map}
use Rattle.etcd_types.specs.declared.answer.Answer.{Answer}
use Rattle.etcd_types.specs.declared.answer.Answer.TheVariants.{Refused}
use Rattle.etcd_types.specs.declared.answer.Refusal.{Refusal}
use Rattle.etcd_types.specs.declared.request.Request.{Request}
use Rattle.json_model.specs.declared.extra.Reading.TheVariants.{Client}
use Rattle.json_model.specs.declared.fault.ApiFault.{ApiFault}
use Rattle.json_model.specs.Mapping.{request_of}
use Rattle.core_model.specs.declared.event.CoreEvent.{CoreEvent}
use Rattle.core_model.specs.declared.event.CoreEvent.TheVariants as event
use Rattle.core_model.specs.declared.event.Outcome.{Outcome}
use Rattle.core_model.specs.declared.event.StepFault.{StepFault}
use Rattle.core_model.specs.Step.{stepped}
use Rattle.script_text.specs.declared.line.Line.{Line}
use Rattle.script_text.specs.declared.line.Line.TheVariants as line
use Rattle.script_text.specs.declared.item.Item.{Item}
use Rattle.script_text.specs.declared.item.Item.TheVariants as item
use Rattle.world_model.specs.declared.fault.LineRefusal.{LineRefusal}
use Rattle.world_model.specs.declared.fault.WorldFault.{WorldFault}
use Rattle.world_model.specs.declared.sent_call.SentCall.{SentCall}
use Rattle.world_model.specs.Asks.{was_asked, posted_as, posted_at, posted}
use Rattle.world_model.specs.Calls.{was_answered, answered_as, answered_at, answered_of, answered}
use Rattle.world_model.specs.Gains.{all_fetched, reply_items}
use Rattle.world_model.specs.Places.{nth, place_at, if_life, unless, call_place, is_among, with_core, with_place, with_posted, with_call}
use Rattle.world_model.specs.PostRefusals.{post_refusal}
use Rattle.world_model.specs.State.{Place, World, word}
use Rattle.world_model.specs.Steps.{Step, at_place_of, by_outcome, steps}
use Rattle.world_model.specs.Transcript.{step, done}
use Rattle.world_laws.specs.Laws.{IsOwn}
use Rattle.world_laws.proofs.Effects.{posts_it, Effect, turns, effect}
use Rattle.world_laws.proofs.Lines.{gains_own}
use Rattle.core_laws.proofs.Steps.Lists.{same_number}

-- neither an answer nor a refused body
abbrev pub is_other : List Item → Bool
is_other (item.Answered number ∷ items) = false
is_other (item.Posted p ticket path body ∷ item.Reply q t a ∷ items) = false
is_other _ = true

-- the place behind the step
abbrev pub stepped_to : Place → CoreEvent → Place
stepped_to x e = with_core x (stepped x.core e x.clock).core

pub data Gain (w : World) : World → List Item → Type 0 where
  answers : (number : ℕ) (call : SentCall) (x : Place) (a : Answer) (o : Outcome) → nth w.calls number ≡ Some call → call.executed ≡ Some a → place_at w call.proxy ≡ Some x → call.life ≡ x.life
      → (stepped x.core (event.Answer call.own a) x.clock).outcome ≡ Ok o
      → Gain w (with_place (with_call w number (record call { settled = true })) call.proxy (all_fetched (stepped_to x (event.Answer call.own a)) []).place)
      ((item.Answered number ∷ []) ++ flat_map (reply_items call.proxy (all_fetched (stepped_to x (event.Answer call.own a)) []).place.posted) (all_fetched (stepped_to x (event.Answer call.own a)) []).replies)
  refuses_post : (p ticket : ℕ) (path body : List ℕ) (r : Refusal) (x : Place) → place_at w p ≡ Some x
      → Gain w (with_place w p (with_posted ticket x)) (item.Posted p ticket path body ∷ reply_items p (with_posted ticket x).posted (ticket, Refused r))
  other : (after : World) (items : List Item) → Effect w after items → is_other items ≡ true → Gain w after items

abbrev Goes : World → World → Result (List Item) WorldFault → Type 0
Goes w after (Ok items) = Gain w after items
Goes w after (Err why) = Unit {0}

abbrev Does : World → Step → Type 0
Does w x = Goes w x.world x.gained

outcome_does : (w : World) (p : ℕ) (x : Place) (e : CoreEvent) (why : WorldFault) (next : Place → Outcome → Step) (r : Result Outcome StepFault) → (stepped x.core e x.clock).outcome ≡ r
    → ((o : Outcome) → (stepped x.core e x.clock).outcome ≡ Ok o → Does w (next (stepped_to x e) o)) → Does w (by_outcome w p (stepped_to x e) why next r)
outcome_does w p x e why next (Ok o) is h = h o is
outcome_does w p x e why next (Err f) is h = tt

steps_does : (w : World) (p : ℕ) (x : Place) (e : CoreEvent) (why : WorldFault) (next : Place → Outcome → Step)
    → ((o : Outcome) → (stepped x.core e x.clock).outcome ≡ Ok o → Does w (next (stepped_to x e) o)) → Does w (steps w p x e why next)
steps_does w p x e why next h = outcome_does w p x e why next (stepped x.core e x.clock).outcome refl h

at_does : (w : World) (p : ℕ) (o : Option Place) (f : Place → Step) → place_at w p ≡ o → ((x : Place) → place_at w p ≡ Some x → Does w (f x)) → Does w (at_place_of w p o f)
at_does w p None f e h = tt
at_does w p (Some x) f e h = h x e

choice : (w : World) (b : Bool) (x y : Step) → (b ≡ true → Does w x) → (b ≡ false → Does w y) → Does w (cond b x y)
choice w true x y f g = f refl
choice w false x y f g = g refl

-- ---- a call is answered

unless_is : (b : Bool) (o : Option Place) (x : Place) → unless b o ≡ Some x → o ≡ Some x
unless_is true o x e = absurd (cc)
unless_is false o x e = e

life_is : (life : ℕ) (o : Option Place) (x : Place) → if_life life o ≡ Some x → (x.life ≡ life) × (o ≡ Some x)
life_is life None x e = absurd (cc)
life_is life (Some y) x e = by (y.life == life) refl e
  where
    by : (b : Bool) → (y.life == life) ≡ b → cond b (Some y) None ≡ Some x → (x.life ≡ life) × (Some y ≡ Some x)
    by true is h = let same : y ≡ x = cc in (ap (λ (z : Place). z.life) (sym same) ∙ same_number y.life life is, h)
    by false is h = absurd (cc)

answered_by : (w : World) (number : ℕ) (call : SentCall) (x : Place) (o : Option Answer) → nth w.calls number ≡ Some call → place_at w call.proxy ≡ Some x → call.life ≡ x.life → call.executed ≡ o
    → Does w (answered_as w number call x o)
answered_by w number call x None e f l is = tt
answered_by w number call x (Some a) e f l is =
    steps_does w call.proxy x (event.Answer call.own a) _ (was_answered w number call) (λ o k. answers number call x a o e is f l k)

answered_in : (w : World) (number : ℕ) (call : SentCall) (o : Option Place) → nth w.calls number ≡ Some call → call_place w call ≡ o → Does w (answered_at w number call o)
answered_in w number call None e f = tt
answered_in w number call (Some x) e f =
    let l = life_is call.life (place_at w call.proxy) x (unless_is call.settled _ x f) in
    answered_by w number call x call.executed e l.1 (sym l.0) refl

answered_does : (w : World) (number : ℕ) (o : Option SentCall) → nth w.calls number ≡ o → Does w (answered_of w number o)
answered_does w number None e = tt
answered_does w number (Some call) e = answered_in w number call (call_place w call) e refl

-- ---- a body is posted

posted_by : (w : World) (p ticket : ℕ) (path body : List ℕ) (x : Place) (r : Result Request ApiFault) → place_at w p ≡ Some x → is_among x.tickets ticket ≡ false
    → Does w (posted_as w p ticket (item.Posted p ticket path body ∷ []) x r)
posted_by w p ticket path body x (Ok q) e b =
    steps_does w p x (event.Ask ticket q (word w)) _ (was_asked w p ticket q (item.Posted p ticket path body ∷ []) (with_posted ticket))
    (λ o k. other _ _ (turns p x (event.Ask ticket q (word w)) o w _ _ _ e k (posts_it ticket path body q o b)) refl)
posted_by w p ticket path body x (Err why) e b = refuses_post p ticket path body (post_refusal why) x e

posted_does : (w : World) (p ticket : ℕ) (path body : List ℕ) → Does w (posted w p ticket path body)
posted_does w p ticket path body =
    at_does w p (place_at w p) (posted_at w p ticket path body) refl
    (λ x e. choice w (is_among x.tickets ticket) _ _ (λ b. tt) (λ b. posted_by w p ticket path body x (request_of Client path body) e b))

-- ---- all lines

plain : (l : Line) (own : Item) (rest : List Item) → IsOwn l own → ((number : ℕ) → IsOwn l (item.Answered number) → ⊥) → ((p ticket : ℕ) (path body : List ℕ) → IsOwn l (item.Posted p ticket path body) → ⊥)
    → is_other (own ∷ rest) ≡ true
plain l (item.Answered number) rest h a b = absurd (a number h)
plain l (item.Posted p ticket path body) rest h a b = absurd (b p ticket path body h)
plain l _ rest h a b = refl

other_gain : (w : World) (l : Line) (items : List Item) → (done w l).gained ≡ Ok items → ((number : ℕ) → IsOwn l (item.Answered number) → ⊥) → ((p ticket : ℕ) (path body : List ℕ) → IsOwn l (item.Posted p ticket path body) → ⊥)
    → Gain w (done w l).world items
other_gain w l items e a b = let g = gains_own w l items e in other (done w l).world items (effect w l items e) (ap is_other g.gained ∙ plain l g.own g.rest g.repeats a b)

abbrev Went : World → World → Result (List Item) LineRefusal → Type 0
Went w after (Ok items) = Gain w after items
Went w after (Err why) = Unit {0}

step_by : (w after : World) (r : Result (List Item) WorldFault) → Goes w after r → Went w (step (record { world = after; gained = r })).world (step (record { world = after; gained = r })).gained
step_by w after (Ok items) h = h
step_by w after (Err why) h = tt

went : (w : World) (x : Step) → Does w x → Went w (step x).world (step x).gained
went w x h = step_by w x.world x.gained h

pub gain : (w : World) (l : Line) (items : List Item) → (done w l).gained ≡ Ok items → Gain w (done w l).world items
gain w (line.Answer number) items e = subst (Went w (answered w number).world) e (went w (answered w number) (answered_does w number (nth w.calls number) refl))
gain w (line.Post p ticket path body) items e = subst (Went w (posted w p ticket path body).world) e (went w (posted w p ticket path body) (posted_does w p ticket path body))
gain w l items e = other_gain w l items e (λ number h. h) (λ p ticket path body h. h)
