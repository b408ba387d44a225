-- Behind each prefix of a script what is told of sessions is what the proxies have.
use Rattle.std.proofs.Common.{◌≡◌, ℕ, ◌+◌, ◌-◌, ◌==◌, ◌<◌, ◌≤◌, ◌^◌, nat_lt, Bool, true, false, cond, ◌&&◌, List, [], ◌∷◌, ◌++◌, length, slice_get, Option, None, Some, refl, sym, ◌∙◌, ap, subst, arith}
use Rattle.std.proofs.lemmas.Bool.Decides.{nat_tests}
use Rattle.std.proofs.lemmas.List.Folds.{list_all-append}
use Rattle.std.proofs.lemmas.Option.{slice_get_within}
use Rattle.std.specs.Prelude.{flat_map}
use Rattle.std.specs.List.{list_all}
use Rattle.std.specs.BTreeSet.{BTreeSet}
use Rattle.etcd_types.specs.declared.answer.Answer.{Answer}
use Rattle.etcd_types.specs.declared.answer.Answer.TheVariants.{Refused}
use Rattle.etcd_types.specs.declared.answer.Refusal.{Refusal}
use Rattle.etcd_types.proofs.Bools.{and_first, and_second, false_not}
use Rattle.proxy_model.specs.declared.session.TheConstants.{FIRST_SESSION}
use Rattle.store_model.specs.Step.{exec}
use Rattle.core_model.specs.declared.event.CoreEvent.TheVariants as event
use Rattle.core_model.specs.Heard.{heard}
use Rattle.core_laws.specs.Steps.Kept.{HeardBytes, IsHeard}
use Rattle.core_laws.proofs.Steps.Lists.{number_itself, number_turned}
use Rattle.core_fits.proofs.Fit.{fits_start}
use Rattle.owner_fits.proofs.Runs.{starts_fit}
use Rattle.script_text.specs.declared.item.Item.{Item}
use Rattle.script_text.specs.declared.item.Item.TheVariants as item
use Rattle.script_text.specs.declared.line.Line.{Line}
use Rattle.script_text.specs.declared.line.Line.TheVariants as line
use Rattle.world_model.specs.declared.sent_call.SentCall.{SentCall}
use Rattle.world_model.specs.Gains.{all_fetched, body_if, reply_items}
use Rattle.world_model.specs.Lives.{begins, clock_of, clock_by}
use Rattle.world_model.specs.LiveSessions.{is_step_of, session_heard, session_at, session_of, session_by}
use Rattle.world_model.specs.Places.{nth, with_nth, kept_at, place_at, is_among, with_place, with_posted, with_call}
use Rattle.world_model.specs.Starts.{settings, new_place}
use Rattle.world_model.specs.State.{Numbered, Place, World, word}
use Rattle.world_model.specs.Transcript.{done}
use Rattle.world_laws.specs.Laws.{IsOwn}
use Rattle.world_laws.proofs.Lines.{gains_own, taken_keeps}
use Rattle.world_laws.proofs.Effects.{Begins, first, again, Effect, starts, sets, executes, expires, applies, pushes, turns}
use Rattle.world_laws.proofs.Effects as effects
use Rattle.held_laws.proofs.Worlds.{no_place}
use Rattle.renewed_laws.proofs.Gains.{is_other, stepped_to, Gain, gain}
use Rattle.renewed_laws.proofs.Gains as gains
use Rattle.renewed_laws.proofs.Worlds.{WorldOk}
use Rattle.prefix_laws.proofs.Fetched.{turn_heard}
use Rattle.prefix_laws.proofs.Prefixes.{IsNext, IsKept, next_word, every_told}
use Rattle.session_laws.specs.Told.{told_live, last_reading, sets_clock_below, SessionsAreTold}
use Rattle.session_laws.proofs.Answers.{AnswerFits}
use Rattle.session_laws.proofs.Calls.{CallTold, is_beside, executed_on, executed_other, untold_on}
use Rattle.session_laws.proofs.Items.{is_still, AreQuiet, still_quiet, session_next, clock-append, by_quiet}
use Rattle.session_laws.proofs.Places.{PlaceTold, Grow, grow_itself, place_later, place_set}
use Rattle.session_laws.proofs.Turns.{bound_of, turn_told, answer_told}
use Rattle.session_laws.proofs.Worlds.{CallsTold, AnswersFit, WorldTold, told_beside, changed_calls, IfThere, if_there, there_if, fits_as, grow_changed, exec_fits, put_places, put_unset, keep_places, turn_world}

-- ---- lines of no turn

-- a line that leaves the calls and the places
same_world : (items more : List Item) (w v : World) → v.places ≡ w.places → v.calls ≡ w.calls → ((q : ℕ) → list_all (is_still q) more ≡ true) → list_all is_beside more ≡ true → WorldTold items w (bound_of w) → WorldTold (items ++ more) v (bound_of w + 1)
same_world items more w v places calls still told h = record {
  calls = subst (CallsTold (items ++ more)) (sym calls) (told_beside items more w.calls told h.calls);
  answers = subst AnswersFit (sym calls) h.answers;
  places = λ q y at.
      keep_places w.calls v.calls (bound_of w) (bound_of w + 1) items more w (λ i. still_quiet i items more (still i)) (subst (Grow w.calls) (sym calls) (grow_itself w.calls)) (omega arith) h.places q y
      (ap (λ (ps : Numbered Place). kept_at ps q) (sym places) ∙ at);
  unset = λ q at. (still_quiet q items more (still q)).clock ∙ h.unset q (ap (λ (ps : Numbered Place). kept_at ps q) (sym places) ∙ at);
}

-- a call is executed
executed_world : (items : List Item) (w v : World) (number : ℕ) (call : SentCall) → nth w.calls number ≡ Some call → call.executed ≡ None → v.places ≡ w.places
    → v.calls ≡ with_nth w.calls number (record call { executed = Some (exec w.store call.member call.request).1 }) → WorldTold items w (bound_of w) → WorldTold (items ++ item.Executed number (exec w.store call.member call.request).1 ∷ []) v (bound_of w + 1)
executed_world items w v number call at fresh places calls h =
    let a = (exec w.store call.member call.request).1 in
    let next = record call { executed = Some a } in
    let more = item.Executed number a ∷ [] in
    let after = with_nth w.calls number next in
    record {
      calls = subst (CallsTold (items ++ more)) (sym calls)
          (changed_calls (CallTold (items ++ more)) w.calls number call next at (executed_on items number call a fresh (subst (CallTold items number) at (h.calls number))) (λ other e. untold_on items more other (nth w.calls other) (executed_other number other a e) (h.calls other)));
      answers = subst AnswersFit (sym calls) (λ other c b e r.
          there_if fits_as (nth after other) c
          (changed_calls (λ n o. IfThere fits_as o) w.calls number call next at (λ b i. let same : a ≡ b = cc in subst (λ (y : Answer). AnswerFits call.request y) same (exec_fits w.store call.member call.request)) (λ n i. if_there fits_as (nth w.calls n) (λ d j b k. h.answers n d b j k)) other) e b r);
      places = λ q y i.
          keep_places w.calls v.calls (bound_of w) (bound_of w + 1) items more w (λ j. still_quiet j items more refl) (subst (Grow w.calls) (sym calls) (grow_changed w.calls number call next at refl refl refl)) (omega arith) h.places q y
          (ap (λ (ps : Numbered Place). kept_at ps q) (sym places) ∙ i);
      unset = λ q i. (still_quiet q items more refl).clock ∙ h.unset q (ap (λ (ps : Numbered Place). kept_at ps q) (sym places) ∙ i);
    }

-- the clock of a proxy is set
clock_world : (items : List Item) (w : World) (p millis : ℕ) (x : Place) → place_at w p ≡ Some x → nat_lt millis x.clock ≡ false → millis < last_reading → WorldTold items w (bound_of w) → WorldTold (items ++ item.Clock p millis ∷ []) (with_place w p (record x { clock = millis })) (bound_of w + 1)
clock_world items w p millis x at forward below h =
    let more = item.Clock p millis ∷ [] in
    record {
      calls = told_beside items more w.calls refl h.calls;
      answers = h.answers;
      places = put_places w.calls w.calls (bound_of w) (bound_of w + 1) items more w w p (record x { clock = millis }) refl (λ q n. still_quiet q items more (still q n)) (grow_itself w.calls) (omega arith) h.places
          (raised (place_set w.calls (bound_of w) items more p millis x set below (not_less millis x.clock forward)
          (λ t l. ap (told_live t) (session_next p items (item.Clock p millis)) ∙ by_quiet p items (item.Clock p millis) (session_of p items) t refl (λ r. refl) (le (h.places p x at).clock l)) (h.places p x at)));
      unset = put_unset items more w w p (record x { clock = millis }) refl (λ q n. still_quiet q items more (still q n)) h.unset;
    }
  where
    not_less : (a b : ℕ) → nat_lt a b ≡ false → b ≤ a
    not_less a b e = grind (arith, nat_tests)

    still : (q : ℕ) → (q == p) ≡ false → list_all (is_still q) (item.Clock p millis ∷ []) ≡ true
    still q n = ap (λ (b : Bool). b && true) (false_not (p == q) (number_turned q p n))

    set : clock_of p (items ++ item.Clock p millis ∷ []) ≡ millis
    set = clock-append p 0 items (item.Clock p millis ∷ []) ∙ ap (λ (b : Bool). cond b millis (clock_of p items)) (number_itself p)

    le : {t : ℕ} → clock_of p items ≡ x.clock → millis ≤ t → clock_of p items ≤ t
    le {t} e l = let k = not_less millis x.clock forward in omega (arith, e, l, k)

    raised : PlaceTold w.calls (bound_of w) (items ++ item.Clock p millis ∷ []) p (record x { clock = millis }) → PlaceTold w.calls (bound_of w + 1) (items ++ item.Clock p millis ∷ []) p (record x { clock = millis })
    raised k = place_later w.calls w.calls (bound_of w) (bound_of w + 1) (items ++ item.Clock p millis ∷ []) (items ++ item.Clock p millis ∷ []) p (record x { clock = millis }) (record x { clock = millis }) refl refl (λ a b i. i)
        (record { clock = refl; live = λ t l. refl }) (grow_itself w.calls) (omega arith) k

-- a proxy starts
start_world : (items : List Item) (w : World) (p clock life : ℕ) (i : Item) → Begins w p clock life i → clock_of p items ≡ clock → clock < last_reading → WorldTold items w (bound_of w) → WorldTold (items ++ i ∷ []) (with_place w p (new_place w clock life)) (bound_of w + 1)
start_world items w p clock life i b lock below h = record {
  calls = told_beside items (i ∷ []) w.calls (beside b) h.calls;
  answers = h.answers;
  places = put_places w.calls w.calls (bound_of w) (bound_of w + 1) items (i ∷ []) w w p (new_place w clock life) refl (λ q n. still_quiet q items (i ∷ []) (still q n b)) (grow_itself w.calls) (omega arith) h.places (record {
    clock = clock-append p 0 items (i ∷ []) ∙ clocked b ∙ lock;
    below = below;
    namespace = w.namespace;
    prefix = w.leasing;
    namespace_is = refl;
    prefix_is = refl;
    known = record {
      live = λ t l f. ap (told_live t) (session_next p items i ∙ begun b);
      calls = tt;
      below = λ s e. absurd (cc);
      acquires = record { order = refl; out = λ k n y e o. absurd (cc) };
    };
    fit = fits_start (settings w);
    owners = starts_fit (settings w);
  });
  unset = put_unset items (i ∷ []) w w p (new_place w clock life) refl (λ q n. still_quiet q items (i ∷ []) (still q n b)) h.unset;
}
  where
    beside : Begins w p clock life i → list_all is_beside (i ∷ []) ≡ true
    beside b = by b
      where
        by : {c l : ℕ} {j : Item} → Begins w p c l j → list_all is_beside (j ∷ []) ≡ true
        by (first e) = refl
        by (again x e) = refl

    still : (q : ℕ) → (q == p) ≡ false → Begins w p clock life i → list_all (is_still q) (i ∷ []) ≡ true
    still q n b = by b
      where
        by : {c l : ℕ} {j : Item} → Begins w p c l j → list_all (is_still q) (j ∷ []) ≡ true
        by (first e) = ap (λ (b : Bool). b && true) (false_not (p == q) (number_turned q p n))
        by (again x e) = ap (λ (b : Bool). b && true) (false_not (p == q) (number_turned q p n))

    clocked : Begins w p clock life i → clock_by p (clock_of p items) i ≡ clock_of p items
    clocked b = by b
      where
        by : {c l : ℕ} {j : Item} → Begins w p c l j → clock_by p (clock_of p items) j ≡ clock_of p items
        by (first e) = refl
        by (again x e) = refl

    begun : Begins w p clock life i → session_by p items i (session_of p items) ≡ None
    begun b = by b
      where
        yes : (j : Item) → begins p j ≡ true → session_by p items j (session_of p items) ≡ None
        yes j e = ap (λ (c : Bool). cond c None (session_heard p items j (cond (is_step_of p items j) (session_at (clock_of p items) (session_of p items)) (session_of p items)))) e

        by : {c l : ℕ} {j : Item} → Begins w p c l j → session_by p items j (session_of p items) ≡ None
        by (first e) = yes (item.Started p) (number_itself p)
        by (again x e) = yes (item.Restarted p) (number_itself p)

-- ---- a line

-- what a line gains
effect_told : (namespace : List ℕ) (items : List Item) (w after : World) (gained : List Item) → WorldOk namespace items w → word w < FIRST_SESSION → ((p millis : ℕ) → gained ≡ item.Clock p millis ∷ [] → millis < last_reading) → WorldTold items w (bound_of w)
    → Effect w after gained → is_other gained ≡ true → WorldTold (items ++ gained) after (bound_of w + 1)
effect_told namespace items w _ _ ok small clocks h (starts p clock life i b) other = started b
  where
    started : {c l : ℕ} {j : Item} → Begins w p c l j → WorldTold (items ++ j ∷ []) (with_place w p (new_place w c l)) (bound_of w + 1)
    started (first e) = start_world items w p 0 1 (item.Started p) (first e) (h.unset p e) (omega arith) h
    started (again x e) = start_world items w p x.clock (x.life + 1) (item.Restarted p) (again x e) (h.places p x e).clock (h.places p x e).below h
effect_told namespace items w _ _ ok small clocks h (sets p millis x at forward) other = clock_world items w p millis x at forward (clocks p millis refl) h
effect_told namespace items w _ _ ok small clocks h (effects.refuses_post p ticket path body a x at) other = absurd (cc)
effect_told namespace items w _ _ ok small clocks h (executes number call e fresh) other = executed_world items w _ number call e fresh refl refl h
effect_told namespace items w _ _ ok small clocks h (expires lease t e due) other = same_world items (item.Expired lease ∷ []) w _ refl refl (λ q. refl) refl h
effect_told namespace items w _ _ ok small clocks h (applies member revision t e) other = same_world items (item.Applied member revision ∷ []) w _ refl refl (λ q. refl) refl h
effect_told namespace items w _ _ ok small clocks h (pushes number st t i e a b k) other = same_world items (item.Pushed number i ∷ []) w _ refl refl (λ q. refl) refl h
effect_told namespace items w _ _ ok small clocks h (turns p x e out v z own told at is t) other =
    let heard = turn_heard namespace items w p x e out v z own told ok at t in
    turn_world namespace items own w v p x z e told (bound_of w) (bound_of w + 1) ok at heard (omega arith) h
    (turn_told namespace items w p x ok at h e out v z own told small heard is
    (λ number g. let f : true ≡ false = sym other ∙ ap (λ (xs : List Item). is_other (xs ++ flat_map (reply_items p (all_fetched z told).place.posted) (all_fetched z told).replies)) g in cc) t)

one_still : (q p ticket : ℕ) (path body : List ℕ) (posted : BTreeSet ℕ) (r : ℕ × Answer)
    → (list_all (is_still q) (item.Posted p ticket path body ∷ reply_items p posted r) ≡ true) × (list_all is_beside (item.Posted p ticket path body ∷ reply_items p posted r) ≡ true)
one_still q p ticket path body posted r = by (is_among posted r.0)
  where
    by : (b : Bool) → (list_all (is_still q) (item.Posted p ticket path body ∷ item.Reply p r.0 r.1 ∷ body_if b p r.0 r.1) ≡ true) × (list_all is_beside (item.Posted p ticket path body ∷ item.Reply p r.0 r.1 ∷ body_if b p r.0 r.1) ≡ true)
    by true = (refl, refl)
    by false = (refl, refl)

posted_told : (items : List Item) (w : World) (p ticket : ℕ) (path body : List ℕ) (r : Refusal) (x : Place) → place_at w p ≡ Some x → WorldTold items w (bound_of w)
    → WorldTold (items ++ (item.Posted p ticket path body ∷ reply_items p (with_posted ticket x).posted (ticket, Refused r))) (with_place w p (with_posted ticket x)) (bound_of w + 1)
posted_told items w p ticket path body r x at h =
    let posted = (with_posted ticket x).posted in
    let more = item.Posted p ticket path body ∷ reply_items p posted (ticket, Refused r) in
    let quiet : (q : ℕ) → AreQuiet q items more = λ q. still_quiet q items more (one_still q p ticket path body posted (ticket, Refused r)).0 in
    record {
      calls = told_beside items more w.calls (one_still 0 p ticket path body posted (ticket, Refused r)).1 h.calls;
      answers = h.answers;
      places = put_places w.calls w.calls (bound_of w) (bound_of w + 1) items more w w p (with_posted ticket x) refl (λ q n. quiet q) (grow_itself w.calls) (omega arith) h.places
          (place_later w.calls w.calls (bound_of w) (bound_of w + 1) items (items ++ more) p x (with_posted ticket x) refl refl (λ a b i. i) (quiet p) (grow_itself w.calls) (omega arith) (h.places p x at));
      unset = put_unset items more w w p (with_posted ticket x) refl (λ q n. quiet q) h.unset;
    }

gain_told : (namespace : List ℕ) (items : List Item) (w after : World) (gained : List Item) → WorldOk namespace items w → word w < FIRST_SESSION → ((p millis : ℕ) → gained ≡ item.Clock p millis ∷ [] → millis < last_reading) → WorldTold items w (bound_of w)
    → Gain w after gained → WorldTold (items ++ gained) after (bound_of w + 1)
gain_told namespace items w _ _ ok small clocks h (gains.answers number call x a o there is at lived out) =
    let heard : IsHeard x.core (event.Answer call.own a) = subst (λ (n : List ℕ). HeardBytes (heard n a)) (sym (ok.places call.proxy x at).namespace_is) ((ok.calls number call there).heard a is) in
    turn_world namespace items (item.Answered number ∷ []) w (with_call w number (record call { settled = true })) call.proxy x (stepped_to x (event.Answer call.own a)) (event.Answer call.own a) [] (bound_of w) (bound_of w + 1) ok at heard (omega arith) h
    (answer_told namespace items w call.proxy x ok at h number call a o refl lived there is heard out)
gain_told namespace items w _ _ ok small clocks h (gains.refuses_post p ticket path body r x e) = posted_told items w p ticket path body r x e h
gain_told namespace items w _ _ ok small clocks h (gains.other after gained e o) = effect_told namespace items w after gained ok small clocks h e o

-- ---- a script

nth_in : {A : Type 0} (xs : List A) (n : ℕ) (x : A) → nth xs n ≡ Some x → n ≤ length xs
nth_in xs n x e = by (n == 0) refl e
  where
    back : (n m : ℕ) → (n == 0) ≡ false → n - 1 < m → n ≤ m
    back n m z l = grind (arith, nat_tests)

    by : (b : Bool) → (n == 0) ≡ b → cond b None (slice_get xs (n - 1)) ≡ Some x → n ≤ length xs
    by true z f = absurd (cc)
    by false z f = back n (length xs) z (slice_get_within xs (n - 1) x f)

clock_below : (l : Line) (p millis : ℕ) → IsOwn l (item.Clock p millis) → sets_clock_below l ≡ true → millis < last_reading
clock_below (line.Clock q m) p millis o b = less millis (ap (λ (n : ℕ). nat_lt n last_reading) o.1 ∙ b)
  where
    less : (n : ℕ) → nat_lt n last_reading ≡ true → n < last_reading
    less n e = grind (arith, nat_tests)
clock_below (line.World members namespace leasing) p millis o b = absurd (o)
clock_below (line.Start q) p millis o b = absurd (o)
clock_below (line.Ask q ticket asked) p millis o b = absurd (o)
clock_below (line.Post q ticket path body) p millis o b = absurd (o)
clock_below (line.Tick q) p millis o b = absurd (o)
clock_below (line.Send q) p millis o b = absurd (o)
clock_below (line.Exec call) p millis o b = absurd (o)
clock_below (line.Answer call) p millis o b = absurd (o)
clock_below (line.Lose call) p millis o b = absurd (o)
clock_below (line.Push stream) p millis o b = absurd (o)
clock_below (line.Progress stream) p millis o b = absurd (o)
clock_below (line.Deliver stream) p millis o b = absurd (o)
clock_below (line.Cut stream) p millis o b = absurd (o)
clock_below (line.Take q ticket) p millis o b = absurd (o)
clock_below (line.Leave q ticket) p millis o b = absurd (o)
clock_below (line.Expire lease) p millis o b = absurd (o)
clock_below (line.Apply member revision) p millis o b = absurd (o)

line_fits : (script : List Line) (w : World) (l : Line) → list_all sets_clock_below script ≡ true → IsNext script w l → sets_clock_below l ≡ true
line_fits script w l h n =
    let both : list_all sets_clock_below n.before && (sets_clock_below l && list_all sets_clock_below n.after) ≡ true = sym (list_all-append sets_clock_below n.before (l ∷ n.after)) ∙ ap (list_all sets_clock_below) (sym n.split) ∙ h in
    and_first (sets_clock_below l) (list_all sets_clock_below n.after) (and_second (list_all sets_clock_below n.before) (sets_clock_below l && list_all sets_clock_below n.after) both)

nth_nothing : (number : ℕ) → nth {A = SentCall} [] number ≡ None
nth_nothing number = by (number == 0)
  where
    by : (b : Bool) → ◌≡◌ {A = Option SentCall} (cond b None (slice_get [] (number - 1))) None
    by true = refl
    by false = refl

head_is : (x y : Item) (xs ys : List Item) → x ∷ xs ≡ y ∷ ys → x ≡ y
head_is x y xs ys e = cc

pub told_kept : (script : List Line) → list_all sets_clock_below script ≡ true → length script < 2 ^ 60 → IsKept script (λ items w. WorldTold items w (bound_of w))
told_kept script fits few = record {
  begins = λ members namespace leasing. record {
    calls = none members namespace leasing;
    answers = λ number call a e r. absurd (no_call number call e);
    places = λ p x e. no_place x e;
    unset = λ p e. refl;
  };
  goes_on = λ namespace items w l gained n e ok h.
      let own = gains_own w l gained e in
      let small : word w < FIRST_SESSION = (let k = nth_in script (word w) l (next_word script w l n) in omega (arith, k, few)) in
      lined w (done w l).world (items ++ gained) (taken_keeps w l gained e).lines
      (gain_told namespace items w (done w l).world gained ok small
      (λ p millis g. clock_below l p millis (subst (IsOwn l) (head_is own.own (item.Clock p millis) own.rest [] (sym own.gained ∙ g)) own.repeats) (line_fits script w l fits n)) h (gain w l gained e));
}
  where
    none : (members : ℕ) (namespace leasing : List ℕ) (number : ℕ) → CallTold (item.World members namespace leasing ∷ []) number (nth [] number)
    none members namespace leasing number = subst (CallTold (item.World members namespace leasing ∷ []) number) (sym (nth_nothing number)) (record { asked = refl; ran = refl; sent = λ p. refl; clock = λ c e. absurd (cc) })

    no_call : (number : ℕ) (call : SentCall) → nth [] number ≡ Some call → ⊥
    no_call number call e = absurd (let f : None ≡ Some call = sym (nth_nothing number) ∙ e in cc)

    lined : (w v : World) (items : List Item) → v.lines ≡ w.lines → WorldTold items v (bound_of w + 1) → WorldTold items (record v { lines = v.lines + 1 }) (bound_of (record v { lines = v.lines + 1 }))
    lined w v items e h =
        let same : bound_of w + 1 ≡ bound_of (record v { lines = v.lines + 1 }) = omega (arith, e) in
        record { calls = h.calls; answers = h.answers; places = λ p x at. subst (λ (b : ℕ). PlaceTold v.calls b items p x) same (h.places p x at); unset = h.unset }

pub sessions_told : SessionsAreTold
sessions_told lines w p x fits few shown behind at =
    let k = (every_told (λ items w. WorldTold items w (bound_of w)) lines (told_kept lines fits few) w shown behind).so in
    let t = k.places p x at in
    record { clock = t.clock; live = t.known.live }
