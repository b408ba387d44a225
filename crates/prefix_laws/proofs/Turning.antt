-- What each line that is taken makes of a proxy's place, by the items that it gains.
use Rattle.std.proofs.Common.{◌≡◌, ℕ, ◌==◌, Bool, true, false, ◌&&◌, ◌||◌, List, [], ◌∷◌, ◌++◌, Some, Result, Ok, refl, sym, ◌∙◌, ap, subst}
use Rattle.std.specs.Prelude.{flat_map}
use Rattle.etcd_types.specs.declared.request.Request.{Request}
use Rattle.etcd_types.specs.declared.request.Request.TheVariants as request
use Rattle.store_model.specs.Step.{exec}
use Rattle.core_model.specs.declared.event.CoreEvent.{CoreEvent}
use Rattle.core_model.specs.declared.event.CoreEvent.TheVariants as event
use Rattle.core_model.specs.declared.event.Job.TheVariants as job
use Rattle.core_model.specs.declared.event.Outcome.{Outcome}
use Rattle.core_model.specs.declared.event.Outcome.TheVariants as outcome
use Rattle.core_model.specs.declared.event.StepFault.{StepFault}
use Rattle.core_model.specs.declared.settings.Settings.{Settings}
use Rattle.core_model.specs.State.{first_core}
use Rattle.core_model.specs.Step.{stepped}
use Rattle.core_laws.specs.Steps.Kept.{IsHeard}
use Rattle.core_laws.proofs.Steps.Lists.{number_itself}
use Rattle.script_text.specs.declared.item.Item.{Item}
use Rattle.script_text.specs.declared.item.Item.TheVariants as item
use Rattle.script_text.specs.declared.line.Line.{Line}
use Rattle.world_model.specs.Gains.{Replies, all_fetched, reply_items}
use Rattle.world_model.specs.Lives.{is_named}
use Rattle.world_model.specs.Places.{place_at, with_place, with_posted, with_call}
use Rattle.world_model.specs.Sends.{next_call, next_stream}
use Rattle.world_model.specs.Starts.{settings, new_place}
use Rattle.world_model.specs.State.{Place, World}
use Rattle.world_model.specs.Transcript.{done}
use Rattle.world_laws.proofs.Effects.{Turn, ticks, asks_it, posts_it, calls, opens, closes, answers, loses, delivers, cuts, takes, waits, leaves, Begins, first, again, Effect, starts, sets, executes, expires, applies, pushes, turns}
use Rattle.world_laws.proofs.Effects as effects
use Rattle.held_laws.proofs.Items.{reply_silent, replies_silent}
use Rattle.held_laws.proofs.Lines.{start_silent}
use Rattle.held_laws.proofs.Worlds.{equal, one_place, placed_itself, placed_other}
use Rattle.renewed_laws.proofs.Gains.{is_other, stepped_to, Gain, gain}
use Rattle.renewed_laws.proofs.Gains as gains
use Rattle.renewed_laws.proofs.Lives.{Lives, lives-append}
use Rattle.renewed_laws.proofs.Turns.{answer_turned, turned}
use Rattle.renewed_laws.proofs.Worlds.{WorldOk, Turned}
use Rattle.reply_laws.specs.Named.{NamesCall}

-- these items say that a call names the ticket
abbrev pub named_by : ℕ → List Item → ℕ → Bool
named_by q items ticket = is_named q ticket items

-- The place of a proxy behind a line: it is as it was; or new; or it made a step, and then its ready replies were fetched.
pub data PlaceGoes (w : World) (gained : List Item) (q : ℕ) (y : Place) : Type 0 where
  stays : (x : Place) → place_at w q ≡ Some x → y.core ≡ x.core → Lives q gained → PlaceGoes w gained q y
  begins : (s : Settings) → y.core ≡ first_core s → PlaceGoes w gained q y
  steps : (x z : Place) (e : CoreEvent) (told : Replies) (own rest : List Item) → place_at w q ≡ Some x → IsHeard x.core e → z.core ≡ (stepped x.core e x.clock).core → y ≡ (all_fetched z told).place
      → gained ≡ own ++ rest → Lives q own → Lives q rest → (e ≡ event.Work → NamesCall (named_by q own) (stepped x.core e x.clock).outcome) → PlaceGoes w gained q y

-- ---- the calls that a turn sends are named by its items

abbrev IsTurnsCall : Result Outcome StepFault → ℕ → ℕ → ℕ → Request → Type 0
IsTurnsCall r own member ticket q = r ≡ Ok (outcome.Job (Some (job.Call own member ticket q)))

sent_named : (p number own member ticket : ℕ) (q : Request) (r : Result Outcome StepFault) → IsTurnsCall r own member ticket q → NamesCall (named_by p (item.Sent p number member ticket q ∷ [])) r
sent_named p number own member ticket q r is own' member' ticket' q' f =
    let both : IsTurnsCall (Ok (outcome.Job (Some (job.Call own member ticket q)))) own' member' ticket' q' = sym is ∙ f in
    let same : ticket ≡ ticket' = cc in
    ap (λ b. (b && (ticket == ticket')) || false) (number_itself p) ∙ ap (λ b. b || false) (ap (λ (n : ℕ). n == ticket') same ∙ number_itself ticket')

no_call : (p : ℕ) (own : List Item) (o : Outcome) (r : Result Outcome StepFault) → r ≡ Ok o → ((a b t : ℕ) (q : Request) → IsTurnsCall (Ok o) a b t q → ⊥) → NamesCall (named_by p own) r
no_call p own o r is n a b t q f = absurd (n a b t q (sym is ∙ f))

begin_no_call : (own member : ℕ) (q : Request) (a b t : ℕ) (r : Request) → IsTurnsCall (Ok (outcome.Job (Some (job.Begin own member q)))) a b t r → ⊥
begin_no_call own member q a b t r e = absurd (cc)

close_no_call : (own : ℕ) (a b t : ℕ) (r : Request) → IsTurnsCall (Ok (outcome.Job (Some (job.Close own)))) a b t r → ⊥
close_no_call own a b t r e = absurd (cc)

turn_sends : (w : World) (p : ℕ) (x : Place) (e : CoreEvent) (o : Outcome) (v : World) (y : Place) (own : List Item) (told : Replies) (r : Result Outcome StepFault) → r ≡ Ok o → Turn w p x e o v y own told → e ≡ event.Work → NamesCall (named_by p own) r
turn_sends w p x _ _ _ _ _ _ r is (ticks o) f = absurd (cc)
turn_sends w p x _ _ _ _ _ _ r is (asks_it ticket q o n) f = absurd (cc)
turn_sends w p x _ _ _ _ _ _ r is (posts_it ticket path body q o n) f = absurd (cc)
turn_sends w p x _ _ _ _ _ _ r is (calls own member ticket q) f = sent_named p (next_call w) own member ticket q r is
turn_sends w p x _ _ _ _ _ _ r is (opens own member ask) f = no_call p (item.Opened p (next_stream w) member (request.Watch ask) ∷ []) _ r is (begin_no_call own member (request.Watch ask))
turn_sends w p x _ _ _ _ _ _ r is (closes own number e) f = no_call p (item.Closed p number ∷ []) _ r is (close_no_call own)
turn_sends w p x _ _ _ _ _ _ r is (answers number call a o e k) f = absurd (cc)
turn_sends w p x _ _ _ _ _ _ r is (loses number call o e) f = absurd (cc)
turn_sends w p x _ _ _ _ _ _ r is (delivers number s i more o a b c d e) f = absurd (cc)
turn_sends w p x _ _ _ _ _ _ r is (cuts number s o a b c d) f = absurd (cc)
turn_sends w p x _ _ _ _ _ _ r is (takes ticket i) f = absurd (cc)
turn_sends w p x _ _ _ _ _ _ r is (waits ticket o n) f = absurd (cc)
turn_sends w p x _ _ _ _ _ _ r is (leaves ticket o) f = absurd (cc)

-- ---- the places

-- one place is put anew, and the lives of the others go on
placed_goes : (w v : World) (gained : List Item) (p : ℕ) (z : Place) → v.places ≡ w.places → ((q : ℕ) → (q == p) ≡ false → Lives q gained) → PlaceGoes w gained p z
    → (q : ℕ) (y : Place) → place_at (with_place v p z) q ≡ Some y → PlaceGoes w gained q y
placed_goes w v gained p z same quiet g q y at = by (q == p) refl
  where
    by : (b : Bool) → (q == p) ≡ b → PlaceGoes w gained q y
    by true n =
        let there : q ≡ p = equal q p n in
        let one : z ≡ y = one_place z y (sym (placed_itself w v p z) ∙ ap (place_at (with_place v p z)) (sym there) ∙ at) in
        subst (λ (i : ℕ). PlaceGoes w gained i y) (sym there) (subst (PlaceGoes w gained p) one g)
    by false n = stays y (sym (placed_other w v p q z same n) ∙ at) refl (quiet q n)

-- the places stay
kept_goes : (w : World) (gained : List Item) → ((q : ℕ) → Lives q gained) → (q : ℕ) (y : Place) → place_at w q ≡ Some y → PlaceGoes w gained q y
kept_goes w gained quiet q y at = stays y at refl (quiet q)

-- a proxy made a step
step_goes : (namespace : List ℕ) (items own : List Item) (w v : World) (p : ℕ) (x z : Place) (e : CoreEvent) (told : Replies) → Turned namespace items own w v p x z e told
    → (e ≡ event.Work → NamesCall (named_by p own) (stepped x.core e x.clock).outcome)
    → (q : ℕ) (y : Place) → place_at (with_place v p (all_fetched z told).place) q ≡ Some y
    → PlaceGoes w (own ++ flat_map (reply_items p (all_fetched z told).place.posted) (all_fetched z told).replies) q y
step_goes namespace items own w v p x z e told t sends =
    let f = all_fetched z told in
    let rest = flat_map (reply_items p f.place.posted) f.replies in
    let quiet : (q : ℕ) → Lives q rest = λ q. (replies_silent q p f.place.posted f.replies).lives in
    placed_goes w v (own ++ rest) p f.place t.places (λ q n. lives-append q own rest (t.lives q) (quiet q)) (steps x z e told own rest t.at t.heard t.core refl refl (t.lives p) (quiet p) sends)

effect_goes : (namespace : List ℕ) (items : List Item) (w after : World) (gained : List Item) → WorldOk namespace items w → Effect w after gained → is_other gained ≡ true → (q : ℕ) (y : Place) → place_at after q ≡ Some y → PlaceGoes w gained q y
effect_goes namespace items w _ _ h (starts p clock life' i b) o =
    placed_goes w w (i ∷ []) p (new_place w clock life') refl (λ q n. (start_silent p clock life' w i q n b).0.lives) (begins (settings w) refl)
effect_goes namespace items w _ _ h (sets p millis x e forward) o = placed_goes w w (item.Clock p millis ∷ []) p (record x { clock = millis }) refl (λ q n xs. refl) (stays x e refl (λ xs. refl))
effect_goes namespace items w _ _ h (effects.refuses_post p ticket path body a x e) o = λ q y at. absurd (cc)
effect_goes namespace items w _ _ h (executes number call e fresh) o = kept_goes w (item.Executed number (exec w.store call.member call.request).1 ∷ []) (λ q xs. refl)
effect_goes namespace items w _ _ h (expires lease t e due) o = kept_goes w (item.Expired lease ∷ []) (λ q xs. refl)
effect_goes namespace items w _ _ h (applies member revision t e) o = kept_goes w (item.Applied member revision ∷ []) (λ q xs. refl)
effect_goes namespace items w _ _ h (pushes number st t i e a b k) o = kept_goes w (item.Pushed number i ∷ []) (λ q xs. refl)
effect_goes namespace items w _ _ h (turns p x e out v z own told at is t) o =
    let f = all_fetched z told in
    step_goes namespace items own w v p x z e told (turned namespace items (flat_map (reply_items p f.place.posted) f.replies) w p x e out v z own told h at is t o)
    (turn_sends w p (stepped_to x e) e out v z own told (stepped x.core e x.clock).outcome is t)

answer_not_work : (call : ℕ) (a : Rattle.etcd_types.specs.declared.answer.Answer.Answer) → event.Answer call a ≡ event.Work → ⊥
answer_not_work call a e = absurd (cc)

gain_goes : (namespace : List ℕ) (items : List Item) (w after : World) (gained : List Item) → WorldOk namespace items w → Gain w after gained → (q : ℕ) (y : Place) → place_at after q ≡ Some y → PlaceGoes w gained q y
gain_goes namespace items w _ _ h (gains.answers number call x a o there is at lived out) =
    step_goes namespace items (item.Answered number ∷ []) w (with_call w number (record call { settled = true })) call.proxy x (stepped_to x (event.Answer call.own a)) (event.Answer call.own a) []
    (answer_turned namespace items w number call x a h there is at lived) (λ f. absurd (answer_not_work call.own a f))
gain_goes namespace items w _ _ h (gains.refuses_post p ticket path body r x e) =
    let rest = reply_items p (with_posted ticket x).posted (ticket, Rattle.etcd_types.specs.declared.answer.Answer.TheVariants.Refused r) in
    let quiet : (q : ℕ) → Lives q (item.Posted p ticket path body ∷ rest) = λ q. lives-append q (item.Posted p ticket path body ∷ []) rest (λ xs. refl) (reply_silent q p (with_posted ticket x).posted (ticket, Rattle.etcd_types.specs.declared.answer.Answer.TheVariants.Refused r)).lives in
    placed_goes w w (item.Posted p ticket path body ∷ rest) p (with_posted ticket x) refl (λ q n. quiet q) (stays x e refl (quiet p))
gain_goes namespace items w _ _ h (gains.other after gained e o) = effect_goes namespace items w after gained h e o

pub line_goes : (namespace : List ℕ) (items : List Item) (w : World) (l : Line) (gained : List Item) → (done w l).gained ≡ Ok gained → WorldOk namespace items w → (q : ℕ) (y : Place) → place_at (done w l).world q ≡ Some y → PlaceGoes w gained q y
line_goes namespace items w l gained e h = gain_goes namespace items w (done w l).world gained h (gain w l gained e)
