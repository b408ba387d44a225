-- What a line that is taken does, as far as calls that are lost go: a call that is lost is one of the life that its proxy has.
use Rattle.std.proofs.Common.{◌≡◌, ℕ, ◌==◌, Bool, true, false, cond, List, [], ◌∷◌, ◌++◌, Option, None, Some, Result, Ok, Err, refl, sym, ◌∙◌, ap, subst}
use Rattle.std.specs.Prelude.{flat_map}
use Rattle.etcd_types.specs.declared.answer.Answer.TheVariants.{Refused}
use Rattle.etcd_types.specs.declared.request.Request.{Request}
use Rattle.json_model.specs.declared.extra.Reading.TheVariants.{Client}
use Rattle.json_model.specs.declared.fault.ApiFault.{ApiFault}
use Rattle.json_model.specs.Mapping.{request_of}
use Rattle.core_model.specs.declared.event.CoreEvent.{CoreEvent}
use Rattle.core_model.specs.declared.event.CoreEvent.TheVariants as event
use Rattle.core_model.specs.declared.event.Outcome.{Outcome}
use Rattle.core_model.specs.declared.event.StepFault.{StepFault}
use Rattle.core_model.specs.Step.{stepped}
use Rattle.core_laws.proofs.Steps.Lists.{same_number}
use Rattle.script_text.specs.declared.item.Item.{Item}
use Rattle.script_text.specs.declared.item.Item.TheVariants as item
use Rattle.script_text.specs.declared.line.Line.{Line}
use Rattle.script_text.specs.declared.line.Line.TheVariants as line
use Rattle.world_model.specs.declared.fault.LineRefusal.{LineRefusal}
use Rattle.world_model.specs.declared.fault.WorldFault.{WorldFault}
use Rattle.world_model.specs.declared.fault.WorldFault.TheVariants as fault
use Rattle.world_model.specs.declared.sent_call.SentCall.{SentCall}
use Rattle.world_model.specs.Asks.{was_asked, posted_as, posted_at, posted}
use Rattle.world_model.specs.Calls.{was_lost, lost_at, lost_of, lost}
use Rattle.world_model.specs.Gains.{all_fetched, reply_items}
use Rattle.world_model.specs.Places.{nth, place_at, if_life, unless, call_place, is_among, with_place, with_posted, with_call}
use Rattle.world_model.specs.PostRefusals.{post_refusal}
use Rattle.world_model.specs.State.{Place, World, word}
use Rattle.world_model.specs.Steps.{Step, refuses as refuses_line, at_place_of, by_outcome}
use Rattle.world_model.specs.Transcript.{step, done}
use Rattle.world_laws.specs.Laws.{IsOwn}
use Rattle.world_laws.proofs.Effects.{posts_it, turns}
use Rattle.world_laws.proofs.Lines.{gains_own}
use Rattle.renewed_laws.proofs.Gains.{stepped_to, Gain, gain}
use Rattle.renewed_laws.proofs.Gains as renewed

-- neither a loss nor a refused body
abbrev pub is_kept : List Item → Bool
is_kept (item.Lost number ∷ items) = false
is_kept (item.Posted p ticket path body ∷ item.Reply q t a ∷ items) = false
is_kept _ = true

pub data Gained (w : World) : World → List Item → Type 0 where
  loses : (number : ℕ) (call : SentCall) (x : Place) (o : Outcome) → nth w.calls number ≡ Some call → place_at w call.proxy ≡ Some x → call.life ≡ x.life → (stepped x.core (event.Lost call.own) x.clock).outcome ≡ Ok o
      → Gained w (with_place (with_call w number (record call { settled = true })) call.proxy (all_fetched (stepped_to x (event.Lost call.own)) []).place)
      ((item.Lost number ∷ []) ++ flat_map (reply_items call.proxy (all_fetched (stepped_to x (event.Lost call.own)) []).place.posted) (all_fetched (stepped_to x (event.Lost call.own)) []).replies)
  refuses : (p ticket : ℕ) (path body : List ℕ) (why : ApiFault) (x : Place) → place_at w p ≡ Some x → is_among x.tickets ticket ≡ false → request_of Client path body ≡ Err why
      → Gained w (with_place w p (with_posted ticket x)) (item.Posted p ticket path body ∷ reply_items p (with_posted ticket x).posted (ticket, Refused (post_refusal why)))
  gains : (after : World) (items : List Item) → Gain w after items → is_kept items ≡ true → Gained w after items

abbrev Goes : World → World → Result (List Item) WorldFault → Type 0
Goes w after (Ok items) = Gained w after items
Goes w after (Err why) = Unit {0}

abbrev Does : World → Step → Type 0
Does w x = Goes w x.world x.gained

outcome_does : (w : World) (p : ℕ) (x : Place) (e : CoreEvent) (why : WorldFault) (next : Place → Outcome → Step) (r : Result Outcome StepFault) → (stepped x.core e x.clock).outcome ≡ r
    → ((o : Outcome) → (stepped x.core e x.clock).outcome ≡ Ok o → Does w (next (stepped_to x e) o)) → Does w (by_outcome w p (stepped_to x e) why next r)
outcome_does w p x e why next (Ok o) is h = h o is
outcome_does w p x e why next (Err f) is h = tt

unless_is : (b : Bool) (o : Option Place) (x : Place) → unless b o ≡ Some x → o ≡ Some x
unless_is true o x e = absurd (cc)
unless_is false o x e = e

life_is : (life : ℕ) (o : Option Place) (x : Place) → if_life life o ≡ Some x → (x.life ≡ life) × (o ≡ Some x)
life_is life None x e = absurd (cc)
life_is life (Some y) x e = by (y.life == life) refl e
  where
    by : (b : Bool) → (y.life == life) ≡ b → cond b (Some y) None ≡ Some x → (x.life ≡ life) × (Some y ≡ Some x)
    by true is h = let same : y ≡ x = cc in (ap (λ (z : Place). z.life) (sym same) ∙ same_number y.life life is, h)
    by false is h = absurd (cc)

lost_in : (w : World) (number : ℕ) (call : SentCall) (o : Option Place) → nth w.calls number ≡ Some call → call_place w call ≡ o → Does w (lost_at w number call o)
lost_in w number call None e f = tt
lost_in w number call (Some x) e f =
    let l = life_is call.life (place_at w call.proxy) x (unless_is call.settled _ x f) in
    outcome_does w call.proxy x (event.Lost call.own) _ (was_lost w number call) (stepped x.core (event.Lost call.own) x.clock).outcome refl (λ o k. loses number call x o e l.1 (sym l.0) k)

lost_does : (w : World) (number : ℕ) (o : Option SentCall) → nth w.calls number ≡ o → Does w (lost_of w number o)
lost_does w number None e = tt
lost_does w number (Some call) e = lost_in w number call (call_place w call) e refl

-- a body is posted

posted_by : (w : World) (p ticket : ℕ) (path body : List ℕ) (x : Place) (r : Result Request ApiFault) → place_at w p ≡ Some x → request_of Client path body ≡ r → is_among x.tickets ticket ≡ false → Does w (posted_as w p ticket (item.Posted p ticket path body ∷ []) x r)
posted_by w p ticket path body x (Ok q) e is b =
    outcome_does w p x (event.Ask ticket q (word w)) _ (was_asked w p ticket q (item.Posted p ticket path body ∷ []) (with_posted ticket)) (stepped x.core (event.Ask ticket q (word w)) x.clock).outcome refl
    (λ o k. gains _ _ (renewed.other _ _ (turns p x (event.Ask ticket q (word w)) o w _ _ _ e k (posts_it ticket path body q o b)) refl) refl)
posted_by w p ticket path body x (Err why) e is b = refuses p ticket path body why x e b is

posted_in : (w : World) (p ticket : ℕ) (path body : List ℕ) (o : Option Place) → place_at w p ≡ o → Does w (at_place_of w p o (posted_at w p ticket path body))
posted_in w p ticket path body None e = tt
posted_in w p ticket path body (Some x) e = by (is_among x.tickets ticket) refl
  where
    by : (b : Bool) → is_among x.tickets ticket ≡ b → Does w (cond b (refuses_line w (fault.TicketUsed ticket)) (posted_as w p ticket (item.Posted p ticket path body ∷ []) x (request_of Client path body)))
    by true f = tt
    by false f = posted_by w p ticket path body x (request_of Client path body) e refl f

plain : (l : Line) (own : Item) (rest : List Item) → IsOwn l own → ((number : ℕ) → IsOwn l (item.Lost number) → ⊥) → ((p ticket : ℕ) (path body : List ℕ) → IsOwn l (item.Posted p ticket path body) → ⊥) → is_kept (own ∷ rest) ≡ true
plain l (item.Lost number) rest h a b = absurd (a number h)
plain l (item.Posted p ticket path body) rest h a b = absurd (b p ticket path body h)
plain l _ rest h a b = refl

other_gained : (w : World) (l : Line) (items : List Item) → (done w l).gained ≡ Ok items → ((number : ℕ) → IsOwn l (item.Lost number) → ⊥) → ((p ticket : ℕ) (path body : List ℕ) → IsOwn l (item.Posted p ticket path body) → ⊥) → Gained w (done w l).world items
other_gained w l items e a b = let g = gains_own w l items e in gains (done w l).world items (gain w l items e) (ap is_kept g.gained ∙ plain l g.own g.rest g.repeats a b)

abbrev Went : World → World → Result (List Item) LineRefusal → Type 0
Went w after (Ok items) = Gained w after items
Went w after (Err why) = Unit {0}

step_by : (w after : World) (r : Result (List Item) WorldFault) → Goes w after r → Went w (step (record { world = after; gained = r })).world (step (record { world = after; gained = r })).gained
step_by w after (Ok items) h = h
step_by w after (Err why) h = tt

pub line_gains : (w : World) (l : Line) (items : List Item) → (done w l).gained ≡ Ok items → Gained w (done w l).world items
line_gains w (line.Lose number) items e = subst (Went w (lost w number).world) e (step_by w (lost w number).world (lost w number).gained (lost_does w number (nth w.calls number) refl))
line_gains w (line.Post p ticket path body) items e = subst (Went w (posted w p ticket path body).world) e (step_by w (posted w p ticket path body).world (posted w p ticket path body).gained (posted_in w p ticket path body (place_at w p) refl))
line_gains w l items e = other_gained w l items e (λ number h. h) (λ p ticket path body h. h)
