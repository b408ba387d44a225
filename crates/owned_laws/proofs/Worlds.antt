-- Line by line: what items tell of owned keys is so at every proxy.
use Rattle.std.proofs.Common.{◌≡◌, ℕ, ◌+◌, ◌==◌, ◌≤◌, nat_lt, Bool, true, false, cond, not, ◌&&◌, List, [], ◌∷◌, ◌++◌, append_assoc, length, Option, None, Some, Result, Ok, Err, refl, sym, ◌∙◌, ap, subst, arith}
use Rattle.std.proofs.lemmas.Bool.Decides.{nat_tests}
use Rattle.std.specs.Prelude.{flat_map}
use Rattle.std.specs.List.{list_all}
use Rattle.std.specs.BTreeSet.{BTreeSet}
use Rattle.etcd_types.specs.declared.answer.Answer.{Answer}
use Rattle.etcd_types.specs.declared.answer.Answer.TheVariants as answer
use Rattle.etcd_types.specs.declared.request.Request.TheVariants as request
use Rattle.etcd_types.specs.declared.watch.WatchItem.{WatchItem}
use Rattle.store_model.specs.Step.{exec}
use Rattle.core_model.specs.declared.event.CoreEvent.{CoreEvent}
use Rattle.core_model.specs.declared.event.CoreEvent.TheVariants as event
use Rattle.core_model.specs.declared.event.Outcome.{Outcome}
use Rattle.core_model.specs.declared.event.StepFault.{StepFault}
use Rattle.core_model.specs.ClockWork.{clock_work}
use Rattle.core_model.specs.DueJobs.{first_job}
use Rattle.core_model.specs.Fits.{CoreOk}
use Rattle.core_model.specs.State.{Core}
use Rattle.core_model.specs.Step.{stepped}
use Rattle.core_fits.proofs.Prefix.{clock_prefix}
use Rattle.core_laws.specs.Steps.Kept.{IsHeard}
use Rattle.core_laws.proofs.Steps.Lists.{same_number, number_itself, number_turned}
use Rattle.core_laws.proofs.Steps.Middle.{clock_whole}
use Rattle.core_laws.proofs.Steps.Staying.{steps_stay}
use Rattle.core_laws.proofs.Steps.Stepping.{steps_keep}
use Rattle.core_laws.proofs.Steps.Whole.{of_ok}
use Rattle.owner_fits.specs.Laws.{OwnersFit}
use Rattle.owner_fits.proofs.Runs.{steps_fit}
use Rattle.step_moves.proofs.Walk.{CoreFit, stepped_fit}
use Rattle.script_text.specs.declared.item.Item.{Item}
use Rattle.script_text.specs.declared.item.Item.TheVariants as item
use Rattle.script_text.specs.declared.line.Line.{Line}
use Rattle.script_text.specs.declared.line.Line.TheVariants as line
use Rattle.world_model.specs.declared.fault.LineRefusal.{LineRefusal}
use Rattle.world_model.specs.declared.fault.WorldFault.{WorldFault}
use Rattle.world_model.specs.declared.sent_call.SentCall.{SentCall}
use Rattle.world_model.specs.Calls.{was_lost, lost_at, lost_of, lost}
use Rattle.world_model.specs.Floors.{floors_after}
use Rattle.world_model.specs.Gains.{Replies, all_fetched, body_if, reply_items, line_if}
use Rattle.world_model.specs.Lives.{begins}
use Rattle.world_model.specs.Places.{nth, with_nth, place_at, with_place, with_core, with_posted, with_call, if_life, unless, call_place, is_among}
use Rattle.world_model.specs.Sends.{next_call as next_number, new_call, closed_in}
use Rattle.world_model.specs.Starts.{new_place}
use Rattle.world_model.specs.State.{Place, OpenedStream, World}
use Rattle.world_model.specs.Steps.{Step, by_outcome}
use Rattle.world_model.specs.Transcript.{done, step}
use Rattle.world_laws.specs.Laws.{IsOwn}
use Rattle.world_laws.proofs.Effects.{Turn, ticks, asks_it, posts_it, calls, opens, closes, answers, loses, delivers, cuts, takes, waits, leaves, Begins, first, again, Effect, starts, sets, executes, expires, applies, pushes, turns}
use Rattle.world_laws.proofs.Effects as effects
use Rattle.world_laws.proofs.Lines.{gains_own}
use Rattle.held_laws.proofs.Places.{all_so}
use Rattle.held_laws.proofs.Worlds.{equal, one_place, placed_itself, placed_other}
use Rattle.renewed_laws.proofs.Gains.{is_other, stepped_to, Gain, gain}
use Rattle.renewed_laws.proofs.Gains as gains
use Rattle.prefix_laws.proofs.Fetched.{turn_heard}
use Rattle.shown_laws.proofs.Fetches.{fetched_keeps}
use Rattle.session_laws.proofs.Turns.{bound_of}
use Rattle.cached_laws.proofs.Steps.{owners_behind}
use Rattle.cached_laws.proofs.Worlds.{AllTold, Beside, replies_plain, turn_goes}
use Rattle.owned_laws.specs.Owned.{Owning, asks, sends, owns, write_asked, write_sent, owned}
use Rattle.owned_laws.proofs.Cores.{Stands}
use Rattle.owned_laws.proofs.Steps.{steps_so, stands}
use Rattle.owned_laws.proofs.Kept.{Kept, KeysOk, Rescinded, OutsOk, asking_steps, sending_steps, writing_steps}
use Rattle.owned_laws.proofs.Late.{all_other}
use Rattle.owned_laws.proofs.Told.{AnsweredAs, wins_it, settles_it, answers_other, told_calm, told_answered, told_lost, told_delivered, told_begun, is_calm}
use Rattle.owned_laws.proofs.Carrying.{Carry, carry_itself, carry_pushed, carry_changed, kept_on, ProxyOwned, AllOwned, outs_more}
use Rattle.owned_laws.proofs.Standing.{Before}
use Rattle.owned_laws.proofs.Turning.{Behind, IsEnd, turn_owned, lost_owned, answered_owned}
use Rattle.owned_laws.proofs.Ways.{plain, holds}

-- ---- a call is lost in the life that sent it

pub data LivedGain (w : World) : World → List Item → Type 0 where
  lose : (number : ℕ) (call : SentCall) (x : Place) (o : Outcome) → nth w.calls number ≡ Some call → place_at w call.proxy ≡ Some x → call.life ≡ x.life → (stepped x.core (event.Lost call.own) x.clock).outcome ≡ Ok o
      → LivedGain w (with_place (with_call w number (record call { settled = true })) call.proxy (all_fetched (stepped_to x (event.Lost call.own)) []).place)
      ((item.Lost number ∷ []) ++ flat_map (reply_items call.proxy (all_fetched (stepped_to x (event.Lost call.own)) []).place.posted) (all_fetched (stepped_to x (event.Lost call.own)) []).replies)
  kept : (after : World) (items : List Item) → Gain w after items → ((number : ℕ) (rest : List Item) → items ≡ item.Lost number ∷ rest → ⊥) → LivedGain w after items

abbrev Goes : World → World → Result (List Item) WorldFault → Type 0
Goes w after (Ok items) = LivedGain w after items
Goes w after (Err why) = Unit {0}

abbrev Does : World → Step → Type 0
Does w x = Goes w x.world x.gained

outcome_does : (w : World) (p : ℕ) (x : Place) (e : CoreEvent) (why : WorldFault) (next : Place → Outcome → Step) (r : Result Outcome StepFault) → (stepped x.core e x.clock).outcome ≡ r
    → ((o : Outcome) → (stepped x.core e x.clock).outcome ≡ Ok o → Does w (next (stepped_to x e) o)) → Does w (by_outcome w p (stepped_to x e) why next r)
outcome_does w p x e why next (Ok o) is h = h o is
outcome_does w p x e why next (Err f) is h = tt

unless_is : (b : Bool) (o : Option Place) (x : Place) → unless b o ≡ Some x → o ≡ Some x
unless_is true o x e = absurd (cc)
unless_is false o x e = e

life_is : (life : ℕ) (o : Option Place) (x : Place) → if_life life o ≡ Some x → (x.life ≡ life) × (o ≡ Some x)
life_is life None x e = absurd (cc)
life_is life (Some y) x e = by (y.life == life) refl e
  where
    by : (b : Bool) → (y.life == life) ≡ b → cond b (Some y) None ≡ Some x → (x.life ≡ life) × (Some y ≡ Some x)
    by true is h = let same : y ≡ x = cc in (ap (λ (z : Place). z.life) (sym same) ∙ same_number y.life life is, h)
    by false is h = absurd (cc)

lost_in : (w : World) (number : ℕ) (call : SentCall) (o : Option Place) → nth w.calls number ≡ Some call → call_place w call ≡ o → Does w (lost_at w number call o)
lost_in w number call None e f = tt
lost_in w number call (Some x) e f =
    let l = life_is call.life (place_at w call.proxy) x (unless_is call.settled _ x f) in
    outcome_does w call.proxy x (event.Lost call.own) _ (was_lost w number call) (stepped x.core (event.Lost call.own) x.clock).outcome refl (λ o k. lose number call x o e l.1 (sym l.0) k)

lost_does : (w : World) (number : ℕ) (o : Option SentCall) → nth w.calls number ≡ o → Does w (lost_of w number o)
lost_does w number None e = tt
lost_does w number (Some call) e = lost_in w number call (call_place w call) e refl

abbrev Went : World → World → Result (List Item) LineRefusal → Type 0
Went w after (Ok items) = LivedGain w after items
Went w after (Err why) = Unit {0}

step_by : (w after : World) (r : Result (List Item) WorldFault) → Goes w after r → Went w (step (record { world = after; gained = r })).world (step (record { world = after; gained = r })).gained
step_by w after (Ok items) h = h
step_by w after (Err why) h = tt

went : (w : World) (x : Step) → Does w x → Went w (step x).world (step x).gained
went w x h = step_by w x.world x.gained h

head_is : (x y : Item) (xs ys : List Item) → x ∷ xs ≡ y ∷ ys → x ≡ y
head_is x y xs ys e = cc

other_gain : (w : World) (l : Line) (items : List Item) → (done w l).gained ≡ Ok items → ((number : ℕ) → IsOwn l (item.Lost number) → ⊥) → LivedGain w (done w l).world items
other_gain w l items e n =
    let o = gains_own w l items e in
    kept (done w l).world items (gain w l items e) (λ number rest f. n number (subst (IsOwn l) (head_is o.own (item.Lost number) o.rest rest (sym o.gained ∙ f)) o.repeats))

pub lived_gain : (w : World) (l : Line) (items : List Item) → (done w l).gained ≡ Ok items → LivedGain w (done w l).world items
lived_gain w (line.Lose number) items e = subst (Went w (lost w number).world) e (went w (lost w number) (lost_does w number (nth w.calls number) refl))
lived_gain w l items e = other_gain w l items e (λ number h. h)

-- ---- fetches

pub order_step : (c : Core) (e : CoreEvent) (now : ℕ) → CoreOk c → CoreFit c.own.waits.prefix c → CoreFit (stepped c e now).core.own.waits.prefix (stepped c e now).core
order_step c e now ok h =
    subst (λ (l : List ℕ). CoreFit l (stepped c e now).core) (sym (steps_stay c e now).prefix)
    (stepped_fit c.own.waits.prefix e now c (clock_whole 0 now c (of_ok c ok).mid).mid.agrees (clock_prefix now c) h)

due_at : (now : ℕ) (c : Core) → CoreOk c → OwnersFit c → Stands (clock_work now c) (first_job (clock_work now c))
due_at now c ok o = stands (clock_work now c) (clock_whole 0 now c (of_ok c ok).mid).mid.agrees (owners_behind now c ok o)

fetch_one : (all : List SentCall) (bound p life : ℕ) (k : List ℕ) (t : ℕ) (o : Owning) (c : Core) (ticket now : ℕ) → CoreOk c → OwnersFit c → Kept all bound p life now k t o c → Kept all bound p life now k t o (stepped c (event.Take ticket) now).core
fetch_one all bound p life k t (asks vs) c ticket now ok f s = record { clients = s.clients; so = asking_steps k t vs c (event.Take ticket) now ok (due_at now c ok f) (all_other (event.Take ticket) (λ i. tt) vs) (λ a u. tt) (λ u. tt) s.so }
fetch_one all bound p life k t (sends number n vs) c ticket now ok f s = record {
  own = s.own;
  call = s.call;
  below = s.below;
  clients = s.clients;
  so = sending_steps k s.own n vs c (event.Take ticket) now ok (due_at now c ok f) (all_other (event.Take ticket) (λ i. tt) vs) (λ a u. tt) s.so;
}
fetch_one all bound p life k t (owns n create) c ticket now ok f s = (
  s.0,
  record { entry = s.1.entry; held = s.1.held; created = s.1.created; so = steps_so (holds k n s.1.entry s.1.held) ((λ c. refl), refl) c (event.Take ticket) now (due_at now c ok f) (λ z. tt) s.1.so },
)
fetch_one all bound p life k t (write_asked n create v vs) c ticket now ok f s = record {
  below = s.below;
  clients = s.clients;
  so = writing_steps k n create v vs None c (event.Take ticket) now ok (due_at now c ok f) (all_other (event.Take ticket) (λ i. tt) (v ∷ vs)) (λ a e i u. tt) s.so;
}
fetch_one all bound p life k t (write_sent n create v vs number) c ticket now ok f s = record {
  own = s.own;
  call = s.call;
  below = s.below;
  clients = s.clients;
  so = writing_steps k n create v vs (Some s.own) c (event.Take ticket) now ok (due_at now c ok f) (all_other (event.Take ticket) (λ i. tt) (v ∷ vs)) (λ a e i u. tt) s.so;
}

-- a turn leaves the clock
turn_clock : (w : World) (p : ℕ) (z : Place) (e : CoreEvent) (o : Outcome) (v : World) (y : Place) (own : List Item) (told : Replies) → Turn w p z e o v y own told → y.clock ≡ z.clock
turn_clock w p z _ _ _ _ _ _ (ticks o) = refl
turn_clock w p z _ _ _ _ _ _ (asks_it ticket q o n) = refl
turn_clock w p z _ _ _ _ _ _ (posts_it ticket path body q o n) = refl
turn_clock w p z _ _ _ _ _ _ (calls own member ticket q) = refl
turn_clock w p z _ _ _ _ _ _ (opens own member ask) = refl
turn_clock w p z _ _ _ _ _ _ (closes own number e) = refl
turn_clock w p z _ _ _ _ _ _ (answers number call a o e f) = refl
turn_clock w p z _ _ _ _ _ _ (loses number call o e) = refl
turn_clock w p z _ _ _ _ _ _ (delivers number s i rest o a b c d e) = refl
turn_clock w p z _ _ _ _ _ _ (cuts number s o a b c d) = refl
turn_clock w p z _ _ _ _ _ _ (takes ticket i) = refl
turn_clock w p z _ _ _ _ _ _ (waits ticket o n) = refl
turn_clock w p z _ _ _ _ _ _ (leaves ticket o) = refl

same_clock : (n : ℕ) → n ≤ n
same_clock n = omega arith

not_before : (a b : ℕ) → nat_lt b a ≡ false → a ≤ b
not_before a b e = grind (arith, nat_tests, e)

module _ (namespace : List ℕ) (items : List Item) (w : World) (b : Beside namespace items w) (h : AllTold items w (bound_of w)) (g : AllOwned items w (bound_of w)) where
  abbrev next : ℕ
  next = bound_of w + 1

  abbrev lea : List ℕ
  lea = w.leasing

  abbrev nsp : List ℕ
  nsp = w.namespace

  later : bound_of w ≤ next
  later = omega arith

  -- at a place whose core and life are as they were, and whose clock doesn't go back
  aside : (more : List Item) (all : List SentCall) (q : ℕ) (x y : Place) → y.core ≡ x.core → y.life ≡ x.life → x.clock ≤ y.clock → ((k : List ℕ) (t : ℕ) (o : Owning) → owned nsp lea k q t (items ++ more) ≡ Some o → owned nsp lea k q t items ≡ Some o) → Carry w.calls all
      → ProxyOwned nsp lea (bound_of w) items w.calls q x → ProxyOwned nsp lea next (items ++ more) all q y
  aside more all q x y same life rises told c s = record {
    order = subst (λ (z : Core). CoreFit z.own.waits.prefix z) (sym same) s.order;
    outs = subst (OutsOk nsp lea (items ++ more) q) (sym same) (outs_more nsp lea items more q x.core.own.waits.out s.outs);
    keys = λ k t o f.
        subst (λ (n : ℕ). Kept all next q n y.clock k t o y.core) (sym life)
        (subst (Kept all next q x.life y.clock k t o) (sym same) (kept_on w.calls all (bound_of w) next q x.life x.clock y.clock k t o x.core c later rises (s.keys k t o (told k t o f))));
  }

  calm_told : (more : List Item) (q : ℕ) → list_all (is_calm q) more ≡ true → (k : List ℕ) (t : ℕ) (o : Owning) → owned nsp lea k q t (items ++ more) ≡ Some o → owned nsp lea k q t items ≡ Some o
  calm_told more q e k t o f = sym (told_calm nsp lea k q t items more e) ∙ f

  replies_calm : (q p : ℕ) (posted : BTreeSet ℕ) (rs : Replies) → list_all (is_calm q) (flat_map (reply_items p posted) rs) ≡ true
  replies_calm q p posted rs = replies_plain (is_calm q) (λ a c d. refl) (λ a c d i. refl) p posted rs

  -- ---- a proxy turns

  module _ (p : ℕ) (x : Place) (at : place_at w p ≡ Some x) where
    abbrev known : Before namespace items w p x
    known = record { beside = b; proxies = h; keys = g; there = at }

    core_ok : CoreOk x.core
    core_ok = (b.ok.places p x at).core

    pub record Now (xs : List Item) (all : List SentCall) (c : Core) : Type 0 where
      pub ok : CoreOk c
      pub owners : OwnersFit c
      pub order : CoreFit c.own.waits.prefix c
      pub outs : OutsOk nsp lea xs p c
      pub keys : KeysOk nsp lea next all xs p x.life x.clock c

    fetch_now : (xs : List Item) (all : List SentCall) (c : Core) (ticket : ℕ) → Now xs all c → Now xs all (stepped c (event.Take ticket) x.clock).core
    fetch_now xs all c ticket s = record {
      ok = steps_keep c (event.Take ticket) x.clock tt s.ok;
      owners = steps_fit c (event.Take ticket) x.clock tt s.ok s.owners;
      order = order_step c (event.Take ticket) x.clock s.ok s.order;
      outs = (steps_so (plain [] (Rescinded nsp lea xs p)) ((λ c. refl), refl) c (event.Take ticket) x.clock (due_at x.clock c s.ok s.owners) (λ z. tt) (λ y i. (record { case = tt; outs = s.outs; there = tt; over = λ v. no_true v; mark = λ v. no_true v; entry = λ v. no_true v }, tt)) tt tt).0.outs;
      keys = λ k t o f. fetch_one all next p x.life k t o c ticket x.clock s.ok s.owners (s.keys k t o f);
    }
      where
        no_true : {A : Type 0} → false ≡ true → A
        no_true e = absurd (cc)

    abbrev NowAt : List Item → List SentCall → Place → Type 0
    NowAt xs all z = (z.clock ≡ x.clock) × Now xs all z.core

    fetch_at : (xs : List Item) (all : List SentCall) (ticket : ℕ) (z : Place) → NowAt xs all z → NowAt xs all (with_core z (stepped z.core (event.Take ticket) z.clock).core)
    fetch_at xs all ticket z h = (h.0, subst (λ (n : ℕ). Now xs all (stepped z.core (event.Take ticket) n).core) (sym h.0) (fetch_now xs all z.core ticket h.1))

    pub turned_owned : (e : CoreEvent) (o : Outcome) (v : World) (y : Place) (own : List Item) (told : Replies) → IsHeard x.core e → Turn w p (stepped_to x e) e o v y own told → Behind known own v (stepped x.core e x.clock).core
        → let f = all_fetched y told in ProxyOwned nsp lea next (items ++ (own ++ flat_map (reply_items p f.place.posted) f.replies)) v.calls p f.place
    turned_owned e o v y own told heard t s =
        let f = all_fetched y told in
        let rest = flat_map (reply_items p f.place.posted) f.replies in
        let goes = turn_goes w p (stepped_to x e) e o v y own told t in
        let stood : Now (items ++ own) v.calls (stepped x.core e x.clock).core = record {
          ok = steps_keep x.core e x.clock heard core_ok;
          owners = steps_fit x.core e x.clock heard core_ok (b.owners p x at);
          order = order_step x.core e x.clock core_ok (g p x at).order;
          outs = s.outs;
          keys = s.keys;
        } in
        let n = fetched_keeps (NowAt (items ++ own) v.calls) (fetch_at (items ++ own) v.calls) (length y.core.asks) y told (turn_clock w p (stepped_to x e) e o v y own told t, subst (Now (items ++ own) v.calls) (sym goes.core) stood) in
        let k = n.1 in
        let life : f.place.life ≡ x.life = (all_so y told).life ∙ goes.life in
        subst (λ (xs : List Item). ProxyOwned nsp lea next xs v.calls p f.place) (append_assoc items own rest) (record {
          order = k.order;
          outs = outs_more nsp lea (items ++ own) rest p f.place.core.own.waits.out k.outs;
          keys = λ l i j e.
              subst (λ (m : ℕ). Kept v.calls next p f.place.life m l i j f.place.core) (sym n.0)
              (subst (λ (m : ℕ). Kept v.calls next p m x.clock l i j f.place.core) (sym life)
              (k.keys l i j (sym (told_calm nsp lea l p i (items ++ own) rest (replies_calm p p f.place.posted f.replies)) ∙ e)));
        })

    -- what the turn's own items tell of another proxy
    abbrev pub Others : List Item → Type 0
    Others own = (q : ℕ) (z : Place) → (q == p) ≡ false → place_at w q ≡ Some z → (k : List ℕ) (t : ℕ) (o : Owning) → owned nsp lea k q t (items ++ own) ≡ Some o → owned nsp lea k q t items ≡ Some o

    pub all_turned : (e : CoreEvent) (o : Outcome) (v : World) (y : Place) (own : List Item) (told : Replies) → IsHeard x.core e → Turn w p (stepped_to x e) e o v y own told → Behind known own v (stepped x.core e x.clock).core → Others own → Carry w.calls v.calls
        → let f = all_fetched y told in AllOwned (items ++ (own ++ flat_map (reply_items p f.place.posted) f.replies)) (with_place v p f.place) next
    all_turned e o v y own told heard t s others carry q z k =
        let f = all_fetched y told in
        let rest = flat_map (reply_items p f.place.posted) f.replies in
        let goes = turn_goes w p (stepped_to x e) e o v y own told t in
        subst (λ (l : List ℕ). ProxyOwned v.namespace l next (items ++ (own ++ rest)) v.calls q z) (sym goes.leasing)
        (subst (λ (l : List ℕ). ProxyOwned l lea next (items ++ (own ++ rest)) v.calls q z) (sym goes.namespace) (by q z k (q == p) refl))
      where
        by : (q : ℕ) (z : Place) → place_at (with_place v p (all_fetched y told).place) q ≡ Some z → (c : Bool) → (q == p) ≡ c
            → ProxyOwned nsp lea next (items ++ (own ++ flat_map (reply_items p (all_fetched y told).place.posted) (all_fetched y told).replies)) v.calls q z
        by q z k true n =
            let f = all_fetched y told in
            let there : q ≡ p = equal q p n in
            let one : f.place ≡ z = one_place f.place z (sym (placed_itself w v p f.place) ∙ ap (place_at (with_place v p f.place)) (sym there) ∙ k) in
            subst (λ (i : ℕ). ProxyOwned nsp lea next (items ++ (own ++ flat_map (reply_items p f.place.posted) f.replies)) v.calls i z) (sym there)
            (subst (ProxyOwned nsp lea next (items ++ (own ++ flat_map (reply_items p f.place.posted) f.replies)) v.calls p) one (turned_owned e o v y own told heard t s))
        by q z k false n =
            let f = all_fetched y told in
            let rest = flat_map (reply_items p f.place.posted) f.replies in
            let goes = turn_goes w p (stepped_to x e) e o v y own told t in
            let was : place_at w q ≡ Some z = sym (placed_other w v p q f.place goes.places n) ∙ k in
            aside (own ++ rest) v.calls q z z refl refl (same_clock z.clock)
            (λ l i j e. others q z n was l i j (sym (told_calm nsp lea l q i (items ++ own) rest (replies_calm q p f.place.posted f.replies)) ∙ ap (owned nsp lea l q i) (append_assoc items own rest) ∙ e)) carry (g q z was)

    off : (q : ℕ) → (q == p) ≡ false → not (p == q) ≡ true
    off q n = ap not (number_turned q p n)

    taken_calm : (q : ℕ) (c : Bool) (ticket : ℕ) (i : WatchItem) → list_all (is_calm q) (item.Taken p ticket i ∷ line_if c p ticket i) ≡ true
    taken_calm q true ticket i = refl
    taken_calm q false ticket i = refl

    turn_others : (z' : Place) (e : CoreEvent) (o : Outcome) (v : World) (y : Place) (own : List Item) (told : Replies) → IsEnd known own → Turn w p z' e o v y own told → Others own
    turn_others z' _ _ _ _ _ _ n (ticks o) q z m at' = calm_told (item.Ticked p ∷ []) q refl
    turn_others z' _ _ _ _ _ _ n (asks_it ticket r o f) q z m at' = calm_told (item.Asked p ticket r ∷ []) q (ap (λ (c : Bool). c && true) (off q m))
    turn_others z' _ _ _ _ _ _ n (posts_it ticket path body r o f) q z m at' = calm_told (item.Posted p ticket path body ∷ item.Asked p ticket r ∷ []) q (ap (λ (c : Bool). c && true) (off q m))
    turn_others z' _ _ _ _ _ _ n (calls own member ticket r) q z m at' = calm_told (item.Sent p (next_number w) member ticket r ∷ []) q (ap (λ (c : Bool). c && true) (off q m))
    turn_others z' _ _ _ _ _ _ n (opens own member ask) q z m at' = calm_told (item.Opened p _ member (request.Watch ask) ∷ []) q refl
    turn_others z' _ _ _ _ _ _ n (closes own number e) q z m at' = calm_told (item.Closed p number ∷ []) q refl
    turn_others z' _ _ _ _ _ _ n (answers number call a o e f) q z m at' = absurd n
    turn_others z' _ _ _ _ _ _ n (loses number call o e) q z m at' = absurd n
    turn_others z' _ _ _ _ _ _ n (delivers number s i rest o a c d e f) q z m at' = λ k t j u. (told_delivered nsp lea k q t items number j u).0
    turn_others z' _ _ _ _ _ _ n (cuts number s o a c d e) q z m at' = calm_told (item.Cut number ∷ []) q refl
    turn_others z' _ _ _ _ _ _ n (takes ticket i) q z m at' = calm_told (item.Taken p ticket i ∷ line_if (is_among z'.posted ticket) p ticket i) q (taken_calm q (is_among z'.posted ticket) ticket i)
    turn_others z' _ _ _ _ _ _ n (waits ticket o f) q z m at' = calm_told (item.Pending p ticket ∷ []) q refl
    turn_others z' _ _ _ _ _ _ n (leaves ticket o) q z m at' = calm_told (item.Left p ticket ∷ []) q (ap (λ (c : Bool). c && true) (off q m))

    closed_carries : (number : ℕ) (o : Option OpenedStream) → Carry w.calls (closed_in w number o).calls
    closed_carries number None = carry_itself w.calls
    closed_carries number (Some s) = carry_itself w.calls

    turn_carries : (z' : Place) (e : CoreEvent) (o : Outcome) (v : World) (y : Place) (own : List Item) (told : Replies) → Turn w p z' e o v y own told → Carry w.calls v.calls
    turn_carries z' _ _ _ _ _ _ (ticks o) = carry_itself w.calls
    turn_carries z' _ _ _ _ _ _ (asks_it ticket r o f) = carry_itself w.calls
    turn_carries z' _ _ _ _ _ _ (posts_it ticket path body r o f) = carry_itself w.calls
    turn_carries z' _ _ _ _ _ _ (calls own member ticket r) = carry_pushed w.calls (new_call p z' own member r)
    turn_carries z' _ _ _ _ _ _ (opens own member ask) = carry_itself w.calls
    turn_carries z' _ _ _ _ _ _ (closes own number e) = closed_carries number (nth w.streams number)
    turn_carries z' _ _ _ _ _ _ (answers number call a o e f) = carry_changed w.calls number call (record call { settled = true }) e refl refl refl
    turn_carries z' _ _ _ _ _ _ (loses number call o e) = carry_changed w.calls number call (record call { settled = true }) e refl refl refl
    turn_carries z' _ _ _ _ _ _ (delivers number s i rest o a c d e f) = carry_itself w.calls
    turn_carries z' _ _ _ _ _ _ (cuts number s o a c d e) = carry_itself w.calls
    turn_carries z' _ _ _ _ _ _ (takes ticket i) = carry_itself w.calls
    turn_carries z' _ _ _ _ _ _ (waits ticket o f) = carry_itself w.calls
    turn_carries z' _ _ _ _ _ _ (leaves ticket o) = carry_itself w.calls

    pub plain_turned : (e : CoreEvent) (o : Outcome) (v : World) (y : Place) (own : List Item) (told : Replies) → IsEnd known own → (stepped x.core e x.clock).outcome ≡ Ok o → Turn w p (stepped_to x e) e o v y own told
        → let f = all_fetched y told in AllOwned (items ++ (own ++ flat_map (reply_items p f.place.posted) f.replies)) (with_place v p f.place) next
    plain_turned e o v y own told n is t =
        all_turned e o v y own told (turn_heard namespace items w p x e o v y own told b.ok at t) t (turn_owned known e o v y own told n is t) (turn_others (stepped_to x e) e o v y own told n t) (turn_carries (stepped_to x e) e o v y own told t)

  some_call : (a b : SentCall) → Some a ≡ Some b → a ≡ b
  some_call a b e = cc

  -- an answer to a call of one proxy tells nothing of another
  answered_others : (number : ℕ) (call : SentCall) (x : Place) (at : place_at w call.proxy ≡ Some x) → nth w.calls number ≡ Some call → Others call.proxy x at (item.Answered number ∷ [])
  answered_others number call x at e q z n was k t o f = by (told_answered nsp lea k q t items number o f)
    where
      others : {A : Type 0} (s : SentCall) → nth w.calls number ≡ Some s → s.proxy ≡ q → A
      others s there its =
          let one = some_call s call (sym there ∙ e) in
          let same : call.proxy ≡ q = ap (λ (y : SentCall). y.proxy) (sym one) ∙ its in
          absurd (let y : true ≡ false = sym (number_itself q) ∙ ap (λ (m : ℕ). q == m) (sym same) ∙ n in cc)

      by : AnsweredAs nsp lea k q t items number o → owned nsp lea k q t items ≡ Some o
      by (wins_it v) = let s = (g q z was).keys k t (sends number v.n v.writes) v.sent in others s.call.call s.call.there s.call.mine
      by (settles_it v) = let s = (g q z was).keys k t (write_sent v.n v.create v.write v.behind number) v.sent in others s.call.call s.call.there s.call.mine
      by (answers_other u m) = u

  -- ---- lines of no turn

  -- items that tell nothing of any proxy, where the places stay
  plain_world : (more : List Item) (v : World) → v.namespace ≡ nsp → v.leasing ≡ lea → v.places ≡ w.places → Carry w.calls v.calls → ((q : ℕ) → list_all (is_calm q) more ≡ true) → AllOwned (items ++ more) v next
  plain_world more v n l ps c quiet q z k =
      let was : place_at w q ≡ Some z = ap (λ (xs : Rattle.world_model.specs.State.Numbered Place). Rattle.world_model.specs.Places.kept_at xs q) (sym ps) ∙ k in
      subst (λ (y : List ℕ). ProxyOwned v.namespace y next (items ++ more) v.calls q z) (sym l)
      (subst (λ (y : List ℕ). ProxyOwned y lea next (items ++ more) v.calls q z) (sym n) (aside more v.calls q z z refl refl (same_clock z.clock) (calm_told more q (quiet q)) c (g q z was)))

  -- one place is put anew, whose core stays
  placed_world : (more : List Item) (p : ℕ) (x y : Place) → place_at w p ≡ Some x → y.core ≡ x.core → y.life ≡ x.life → x.clock ≤ y.clock → ((q : ℕ) → list_all (is_calm q) more ≡ true) → AllOwned (items ++ more) (with_place w p y) next
  placed_world more p x y at same life rises quiet q z k = by q z k (q == p) refl
    where
      by : (q : ℕ) (z : Place) → place_at (with_place w p y) q ≡ Some z → (c : Bool) → (q == p) ≡ c → ProxyOwned nsp lea next (items ++ more) w.calls q z
      by q z k true n =
          let there : q ≡ p = equal q p n in
          let one : y ≡ z = one_place y z (sym (placed_itself w w p y) ∙ ap (place_at (with_place w p y)) (sym there) ∙ k) in
          aside more w.calls q x z (ap (λ (v : Place). v.core) (sym one) ∙ same) (ap (λ (v : Place). v.life) (sym one) ∙ life) (subst (λ (v : Place). x.clock ≤ v.clock) one rises) (calm_told more q (quiet q)) (carry_itself w.calls) (g q x (ap (place_at w) there ∙ at))
      by q z k false n = aside more w.calls q z z refl refl (same_clock z.clock) (calm_told more q (quiet q)) (carry_itself w.calls) (g q z (sym (placed_other w w p q y refl n) ∙ k))

  -- a proxy starts
  start_world : (p clock life : ℕ) (i : Item) → begins p i ≡ true → ((q : ℕ) → is_calm q i ≡ not (p == q)) → AllOwned (items ++ i ∷ []) (with_place w p (new_place w clock life)) next
  start_world p clock life i begun calm q z k = by q z k (q == p) refl
    where
      none : {A : Type 0} (o : Owning) → ◌≡◌ {A = Option Owning} None (Some o) → A
      none o e = absurd (cc)

      fresh : ProxyOwned nsp lea next (items ++ i ∷ []) w.calls p (new_place w clock life)
      fresh = record { order = (refl, tt); outs = tt; keys = λ k t o e. none o (sym (told_begun nsp lea k p t items i begun) ∙ e) }

      by : (q : ℕ) (z : Place) → place_at (with_place w p (new_place w clock life)) q ≡ Some z → (c : Bool) → (q == p) ≡ c → ProxyOwned nsp lea next (items ++ i ∷ []) w.calls q z
      by q z k true n =
          let there : q ≡ p = equal q p n in
          let one : new_place w clock life ≡ z = one_place (new_place w clock life) z (sym (placed_itself w w p (new_place w clock life)) ∙ ap (place_at (with_place w p (new_place w clock life))) (sym there) ∙ k) in
          subst (λ (j : ℕ). ProxyOwned nsp lea next (items ++ i ∷ []) w.calls j z) (sym there) (subst (ProxyOwned nsp lea next (items ++ i ∷ []) w.calls p) one fresh)
      by q z k false n =
          aside (i ∷ []) w.calls q z z refl refl (same_clock z.clock) (calm_told (i ∷ []) q (ap (λ (c : Bool). c && true) (calm q ∙ ap not (number_turned q p n)))) (carry_itself w.calls) (g q z (sym (placed_other w w p q (new_place w clock life) refl n) ∙ k))

  one_calm : (q p ticket : ℕ) (path body : List ℕ) (posted : BTreeSet ℕ) (r : ℕ × Answer) → list_all (is_calm q) (item.Posted p ticket path body ∷ reply_items p posted r) ≡ true
  one_calm q p ticket path body posted r = by (is_among posted r.0)
    where
      by : (c : Bool) → list_all (is_calm q) (item.Posted p ticket path body ∷ item.Reply p r.0 r.1 ∷ body_if c p r.0 r.1) ≡ true
      by true = refl
      by false = refl

  -- ---- a line

  effect_owned : (after : World) (gained : List Item) → Effect w after gained → is_other gained ≡ true → ((number : ℕ) (rest : List Item) → gained ≡ item.Lost number ∷ rest → ⊥) → AllOwned (items ++ gained) after next
  effect_owned _ _ (starts p clock life i c) other n = started c
    where
      started : {k l : ℕ} {j : Item} → Begins w p k l j → AllOwned (items ++ j ∷ []) (with_place w p (new_place w k l)) next
      started (first e) = start_world p 0 1 (item.Started p) (number_itself p) (λ q. refl)
      started (again x e) = start_world p x.clock (x.life + 1) (item.Restarted p) (number_itself p) (λ q. refl)
  effect_owned _ _ (sets p millis x at forward) other n = placed_world (item.Clock p millis ∷ []) p x (record x { clock = millis }) at refl refl (not_before x.clock millis forward) (λ q. refl)
  effect_owned _ _ (effects.refuses_post p ticket path body a x at) other n = absurd (cc)
  effect_owned _ _ (executes number call e fresh) other n = plain_world (item.Executed number (exec w.store call.member call.request).1 ∷ []) (record w { calls = with_nth w.calls number (record call { executed = Some (exec w.store call.member call.request).1 }); store = (exec w.store call.member call.request).0; floors = floors_after call (exec w.store call.member call.request).1 w.floors }) refl refl refl (carry_changed w.calls number call (record call { executed = Some (exec w.store call.member call.request).1 }) e refl refl refl) (λ q. refl)
  effect_owned _ _ (expires lease t e due) other n = plain_world (item.Expired lease ∷ []) (record w { store = t }) refl refl refl (carry_itself w.calls) (λ q. refl)
  effect_owned _ _ (applies member revision t e) other n = plain_world (item.Applied member revision ∷ []) (record w { store = t }) refl refl refl (carry_itself w.calls) (λ q. refl)
  effect_owned _ _ (pushes number s t i at e f k) other n = plain_world (item.Pushed number i ∷ []) (record w { streams = with_nth w.streams number (Rattle.world_model.specs.Streams.with_message i s); store = t }) refl refl refl (carry_itself w.calls) (λ q. refl)
  effect_owned _ _ (turns p x e o v y own told at is t) other n = plain_turned p x at e o v y own told (ends own (flat_map (reply_items p (all_fetched y told).place.posted) (all_fetched y told).replies) other n) is t
    where
      ends : (own rest : List Item) → is_other (own ++ rest) ≡ true → ((number : ℕ) (more : List Item) → own ++ rest ≡ item.Lost number ∷ more → ⊥) → IsEnd (known p x at) own
      ends [] rest a c = tt
      ends (item.Answered number ∷ own) rest a c = absurd (cc)
      ends (item.Lost number ∷ own) rest a c = c number (own ++ rest) refl
      ends (item.World members ns l ∷ own) rest a c = tt
      ends (item.Started q ∷ own) rest a c = tt
      ends (item.Restarted q ∷ own) rest a c = tt
      ends (item.Clock q millis ∷ own) rest a c = tt
      ends (item.Asked q i r ∷ own) rest a c = tt
      ends (item.Posted q i path body ∷ own) rest a c = tt
      ends (item.Ticked q ∷ own) rest a c = tt
      ends (item.Sent q call member i r ∷ own) rest a c = tt
      ends (item.Opened q stream member r ∷ own) rest a c = tt
      ends (item.Closed q stream ∷ own) rest a c = tt
      ends (item.Executed call j ∷ own) rest a c = tt
      ends (item.Pushed stream j ∷ own) rest a c = tt
      ends (item.Delivered stream ∷ own) rest a c = tt
      ends (item.Cut stream ∷ own) rest a c = tt
      ends (item.Taken q i j ∷ own) rest a c = tt
      ends (item.Pending q i ∷ own) rest a c = tt
      ends (item.Left q i ∷ own) rest a c = tt
      ends (item.Reply q i j ∷ own) rest a c = tt
      ends (item.Body q i status text ∷ own) rest a c = tt
      ends (item.Expired lease ∷ own) rest a c = tt
      ends (item.Applied member revision ∷ own) rest a c = tt

  gain_owned : (after : World) (gained : List Item) → Gain w after gained → ((number : ℕ) (rest : List Item) → gained ≡ item.Lost number ∷ rest → ⊥) → AllOwned (items ++ gained) after next
  gain_owned _ _ (gains.answers number call x a o there is at lived out) n =
      let e = event.Answer call.own a in
      let v = with_call w number (record call { settled = true }) in
      let t : Turn w call.proxy (stepped_to x e) e o v (stepped_to x e) (item.Answered number ∷ []) [] = answers number call a o there is in
      all_turned call.proxy x at e o v (stepped_to x e) (item.Answered number ∷ []) [] (turn_heard namespace items w call.proxy x e o v (stepped_to x e) (item.Answered number ∷ []) [] b.ok at t) t
      (answered_owned (known call.proxy x at) number call a o v refl there refl lived is out) (answered_others number call x at there) (carry_changed w.calls number call (record call { settled = true }) there refl refl refl)
  gain_owned _ _ (gains.refuses_post p ticket path body r x at) n =
      placed_world _ p x (with_posted ticket x) at refl refl (same_clock x.clock) (λ q. one_calm q p ticket path body (with_posted ticket x).posted (ticket, answer.Refused r))
  gain_owned _ _ (gains.other after gained e o) n = effect_owned after gained e o n

  pub lived_owned : (after : World) (gained : List Item) → LivedGain w after gained → AllOwned (items ++ gained) after next
  lived_owned _ _ (lose number call x o there at lived is) =
      let e = event.Lost call.own in
      let v = with_call w number (record call { settled = true }) in
      let t : Turn w call.proxy (stepped_to x e) e o v (stepped_to x e) (item.Lost number ∷ []) [] = loses number call o there in
      all_turned call.proxy x at e o v (stepped_to x e) (item.Lost number ∷ []) [] tt t
      (lost_owned (known call.proxy x at) number call v refl there refl lived) (λ q z n was k i j f. (told_lost nsp lea k q i items number j f).0) (carry_changed w.calls number call (record call { settled = true }) there refl refl refl)
  lived_owned _ _ (kept after gained e n) = gain_owned after gained e n
