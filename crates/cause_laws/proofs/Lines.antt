-- What each line leaves of it.
use Rattle.std.proofs.Common.{◌≡◌, inl, ℕ, ◌==◌, Bool, true, false, not, ◌&&◌, ◌||◌, List, [], ◌∷◌, ◌++◌, Option, None, Some, refl, sym, ◌∙◌, ap, subst}
use Rattle.std.specs.Prelude.{flat_map}
use Rattle.etcd_types.specs.declared.answer.Answer.TheVariants.{Refused}
use Rattle.core_model.specs.declared.event.CoreEvent.{CoreEvent}
use Rattle.core_model.specs.declared.event.CoreEvent.TheVariants as event
use Rattle.core_model.specs.declared.event.Outcome.{Outcome}
use Rattle.core_model.specs.Heard.{heard}
use Rattle.core_model.specs.State.{Core}
use Rattle.core_laws.specs.Steps.Kept.{HeardBytes}
use Rattle.core_laws.proofs.Steps.Lists.{number_itself, number_turned}
use Rattle.script_text.specs.declared.item.Item.{Item}
use Rattle.script_text.specs.declared.item.Item.TheVariants as item
use Rattle.world_model.specs.declared.sent_call.SentCall.{SentCall}
use Rattle.world_model.specs.Gains.{Replies, all_fetched, body_if, reply_items}
use Rattle.world_model.specs.Lives.{life, asked_as}
use Rattle.world_model.specs.Places.{nth, place_at, is_among, with_place, with_posted, with_call}
use Rattle.world_model.specs.PostRefusals.{post_refusal}
use Rattle.world_model.specs.Sends.{closed_in}
use Rattle.world_model.specs.Starts.{new_place}
use Rattle.world_model.specs.State.{Place, OpenedStream, World}
use Rattle.world_laws.proofs.Effects.{Turn, ticks, asks_it, posts_it, calls, opens, closes, answers, loses, delivers, cuts, takes, waits, leaves, Begins, first, again, Effect, starts, sets, executes, expires, applies, pushes, turns}
use Rattle.world_laws.proofs.Effects as effects
use Rattle.held_laws.proofs.Lines.{started_life}
use Rattle.held_laws.proofs.Worlds.{one_place}
use Rattle.core_fits.proofs.Prefix.{clock_prefix}
use Rattle.executed_laws.proofs.Worlds.{begins_on}
use Rattle.prefix_laws.proofs.Fetched.{turn_heard}
use Rattle.prefix_laws.proofs.Told.{AllItems}
use Rattle.renewed_laws.proofs.Calls.{other_counts}
use Rattle.renewed_laws.proofs.Gains.{is_other, stepped_to, Gain}
use Rattle.renewed_laws.proofs.Gains as renewed
use Rattle.renewed_laws.proofs.Turns.{turned}
use Rattle.renewed_laws.proofs.Worlds.{WorldOk}
use Rattle.session_laws.proofs.Calls.{ran_to}
use Rattle.cause_laws.specs.Causes.{no_request}
use Rattle.cause_laws.proofs.Gains.{is_kept, Gained}
use Rattle.cause_laws.proofs.Gains as gains
use Rattle.cause_laws.proofs.Items.{Quiet}
use Rattle.cause_laws.proofs.Knows.{Knows, knows_start, quiet_known, turn_known, answer_gives, turn_gives, next_unsent}
use Rattle.cause_laws.proofs.Standing.{StepStands, asked_before, life_more, beside_stands, turn_stands}
use Rattle.cause_laws.proofs.Streams.{StreamsTold, OpensNone, same_owners, changed_owners, streams_on}
use Rattle.cause_laws.proofs.Turns.{call_step, stream_step, lost_step, answered_step, turn_step, turn_streams, turn_clock, turn_core}
use Rattle.cause_laws.proofs.Waits.{same_refusal, other_due}
use Rattle.cause_laws.proofs.Known.{members_on, PlaceTold, AllDue, posted_told, fit_of, told_on, put_waits, keep_waits, put_counts, keep_counts}
use Rattle.cause_laws.proofs.Answers.{Tells, both_tell, post_other, turn_due, turn_caused, turn_timely, turn_tells}
use Rattle.cause_laws.proofs.Turned.{not_worn, own_lives, Leaves, quiet_rests, start_rests, turn_leaves}

-- ---- a line

pub start_quiet : (items : List Item) (w : World) (p clock life' : ℕ) (i : Item) → Begins w p clock life' i → (q : ℕ) → (q == p) ≡ false → Quiet q items (i ∷ [])
start_quiet items w p _ _ _ (first e) q n = ap (λ (b : Bool). not (b || false) && true) (number_turned q p n)
start_quiet items w p _ _ _ (again x e) q n = ap (λ (b : Bool). not (b || false) && true) (number_turned q p n)

pub start_opens : (w : World) (p clock life' : ℕ) (i : Item) → Begins w p clock life' i → OpensNone (i ∷ [])
start_opens w p _ _ _ (first e) n q = refl
start_opens w p _ _ _ (again x e) n q = refl

pub start_tells : (items : List Item) (w : World) (p clock life' : ℕ) (i : Item) → Begins w p clock life' i → AllItems Tells items (i ∷ [])
start_tells items w p _ _ _ (first e) = (tt, tt)
start_tells items w p _ _ _ (again x e) = (tt, tt)

pub new_waits : (items : List Item) (w : World) (p clock life' : ℕ) → life p items ≡ [] → PlaceTold items p (new_place w clock life')
new_waits items w p clock life' gone = record {
  waits = λ ticket a f o. absurd (cc);
  knows = knows_start items p [] _;
  stands = λ ticket q asked call free. absurd (let f : None ≡ Some q = sym (ap (asked_as p ticket) gone) ∙ asked in cc);
}

-- the store makes a step
pub store_leaves : (items : List Item) (i : Item) (w after : World) → after.places ≡ w.places → ((q : ℕ) → Quiet q items (i ∷ [])) → StreamsTold (items ++ i ∷ []) after.streams → AllItems Tells items (i ∷ []) → AllDue items w → after.members ≡ w.members → Leaves w items (i ∷ []) after
store_leaves items i w after same quiet streams tells h m = record { members = m; counts = keep_counts w after same h.members; streams = streams; waits = keep_waits items (i ∷ []) w after same quiet h.waits; tells = tells; rests = quiet_rests items (i ∷ []) quiet }

pub closed_same : (w : World) (number : ℕ) (o : Option OpenedStream) → (closed_in w number o).places ≡ w.places
closed_same w number None = refl
closed_same w number (Some s) = refl

pub turn_places : (w : World) (p : ℕ) (z : Place) (e : CoreEvent) (o : Outcome) (v : World) (y : Place) (own : List Item) (told : Replies) → Turn w p z e o v y own told → v.places ≡ w.places
turn_places w p z _ _ _ _ _ _ (ticks o) = refl
turn_places w p z _ _ _ _ _ _ (asks_it ticket r o n) = refl
turn_places w p z _ _ _ _ _ _ (posts_it ticket path body r o n) = refl
turn_places w p z _ _ _ _ _ _ (calls own member ticket r) = refl
turn_places w p z _ _ _ _ _ _ (opens own member ask) = refl
turn_places w p z _ _ _ _ _ _ (closes own number e) = closed_same w number (nth w.streams number)
turn_places w p z _ _ _ _ _ _ (answers number call a o e f) = refl
turn_places w p z _ _ _ _ _ _ (loses number call o e) = refl
turn_places w p z _ _ _ _ _ _ (delivers number s i rest o a b c d e) = refl
turn_places w p z _ _ _ _ _ _ (cuts number s o a b c d) = refl
turn_places w p z _ _ _ _ _ _ (takes ticket i) = refl
turn_places w p z _ _ _ _ _ _ (waits ticket o n) = refl
turn_places w p z _ _ _ _ _ _ (leaves ticket o) = refl

pub closed_members : (w : World) (number : ℕ) (o : Option OpenedStream) → (closed_in w number o).members ≡ w.members
closed_members w number None = refl
closed_members w number (Some s) = refl

pub turn_members : (w : World) (p : ℕ) (z : Place) (e : CoreEvent) (o : Outcome) (v : World) (y : Place) (own : List Item) (told : Replies) → Turn w p z e o v y own told → v.members ≡ w.members
turn_members w p z _ _ _ _ _ _ (ticks o) = refl
turn_members w p z _ _ _ _ _ _ (asks_it ticket r o n) = refl
turn_members w p z _ _ _ _ _ _ (posts_it ticket path body r o n) = refl
turn_members w p z _ _ _ _ _ _ (calls own member ticket r) = refl
turn_members w p z _ _ _ _ _ _ (opens own member ask) = refl
turn_members w p z _ _ _ _ _ _ (closes own number e) = closed_members w number (nth w.streams number)
turn_members w p z _ _ _ _ _ _ (answers number call a o e f) = refl
turn_members w p z _ _ _ _ _ _ (loses number call o e) = refl
turn_members w p z _ _ _ _ _ _ (delivers number s i rest o a b c d e) = refl
turn_members w p z _ _ _ _ _ _ (cuts number s o a b c d) = refl
turn_members w p z _ _ _ _ _ _ (takes ticket i) = refl
turn_members w p z _ _ _ _ _ _ (waits ticket o n) = refl
turn_members w p z _ _ _ _ _ _ (leaves ticket o) = refl

pub effect_leaves : (items : List Item) (w after : World) (gained : List Item) → WorldOk w.namespace items w → AllDue items w → Effect w after gained → is_other gained ≡ true → is_kept gained ≡ true → Leaves w items gained after
effect_leaves items w _ _ ok h (starts p clock life' i b) other kept = record {
  members = refl;
  counts = put_counts w w p (new_place w clock life') refl h.members refl;
  streams = streams_on items (i ∷ []) w.streams w.streams (start_opens w p clock life' i b) (same_owners w.streams) h.streams;
  waits = put_waits items (i ∷ []) w w p (new_place w clock life') refl (start_quiet items w p clock life' i b) h.waits (new_waits (items ++ i ∷ []) w p clock life' (started_life items p clock life' w i b));
  tells = start_tells items w p clock life' i b;
  rests = start_rests items w p clock life' i b;
}
effect_leaves items w _ _ ok h (sets p millis x e forward) other kept = record {
  members = refl;
  counts = put_counts w w p (record x { clock = millis }) refl h.members (h.members p x e);
  streams = streams_on items (item.Clock p millis ∷ []) w.streams w.streams (λ n q. refl) (same_owners w.streams) h.streams;
  waits = put_waits items (item.Clock p millis ∷ []) w w p (record x { clock = millis }) refl (λ q n. refl) h.waits (let k = told_on items (item.Clock p millis ∷ []) p x refl (h.waits p x e) in record { waits = k.waits; knows = k.knows; stands = k.stands });
  tells = (tt, tt);
  rests = quiet_rests items (item.Clock p millis ∷ []) (λ q. refl);
}
effect_leaves items w _ _ ok h (effects.refuses_post p ticket path body a x e) other kept = absurd (cc)
effect_leaves items w _ _ ok h (executes number call e fresh) other kept = store_leaves items (item.Executed number _) w _ refl (λ q. refl) (streams_on items (item.Executed number _ ∷ []) w.streams w.streams (λ n q. refl) (same_owners w.streams) h.streams) (tt, tt) h refl
effect_leaves items w _ _ ok h (expires lease t e due) other kept = store_leaves items (item.Expired lease) w _ refl (λ q. refl) (streams_on items (item.Expired lease ∷ []) w.streams w.streams (λ n q. refl) (same_owners w.streams) h.streams) (tt, tt) h refl
effect_leaves items w _ _ ok h (applies member revision t e) other kept = store_leaves items (item.Applied member revision) w _ refl (λ q. refl) (streams_on items (item.Applied member revision ∷ []) w.streams w.streams (λ n q. refl) (same_owners w.streams) h.streams) (tt, tt) h refl
effect_leaves items w _ _ ok h (pushes number st t i e a b k) other kept =
    store_leaves items (item.Pushed number i) w _ refl (λ q. refl) (streams_on items (item.Pushed number i ∷ []) w.streams _ (λ n q. refl) (changed_owners w.streams number st _ e refl) h.streams) (tt, tt) h refl
effect_leaves items w _ _ ok h (turns p x e out v y own told at is t) other kept =
    let rest = flat_map (reply_items p (all_fetched y told).place.posted) (all_fetched y told).replies in
    turn_leaves items own w v p x y e out told ok h (record {
      at = at;
      is = is;
      step = turn_step items x.calls w p (stepped_to x e) e out v y own rest told h.streams other kept t;
      heard = turn_heard w.namespace items w p x e out v y own told ok at t;
      places = turn_places w p (stepped_to x e) e out v y own told t;
      members = turn_members w p (stepped_to x e) e out v y own told t;
      core = turn_core w p (stepped_to x e) e out v y own told t;
      clock = turn_clock w p (stepped_to x e) e out v y own told t;
      streams = turn_streams items w p (stepped_to x e) e out v y own told h.streams t;
      due = turn_due (items ++ own) w p x e out v y own told is t;
      caused = turn_caused w.members w.namespace w.leasing items w p x e out v y own told (turn_step items x.calls w p (stepped_to x e) e out v y own rest told h.streams other kept t) (clock_prefix x.clock x.core ∙ (h.kept.sent.places p x at).prefixed) is t;
      timely = turn_timely items w p (stepped_to x e) e out v y own told t;
      tells = turn_tells items w p (stepped_to x e) e out v y own told t;
      knows =
          subst (Knows (items ++ own) p y.calls) (sym (turn_core w p (stepped_to x e) e out v y own told t))
          (turn_known items w p x (fit_of items w p x ok h at) (ok.places p x at).count (h.waits p x at).knows e out v y own told
          (record {
            heard = turn_heard w.namespace items w p x e out v y own told ok at t;
            lives = own_lives items own x.calls p e (turn_step items x.calls w p (stepped_to x e) e out v y own rest told h.streams other kept t);
            gives = turn_gives items w p (stepped_to x e) e out v y own rest told h.heads.facts (λ n s there same. stream_step items w.streams n s p h.streams there ∙ ap (λ (i : ℕ). i == p) same ∙ number_itself p) other t;
          })
          (turned w.namespace items rest w p x e out v y own told ok at is t other).grows (next_unsent items w p h.told.calls) is t);
      stands = subst (λ (c : Core). StepStands items own p c told) (sym (turn_core w p (stepped_to x e) e out v y own told t)) (turn_stands items p x (not_worn x.core e x.clock out is) (h.waits p x at).stands w e out v y own told is t);
    })

-- a call of a proxy's life stands at its own number there
pub own_number : {namespace : List ℕ} {items : List Item} {w : World} → WorldOk namespace items w → (number : ℕ) (call : SentCall) (x : Place) → nth w.calls number ≡ Some call → place_at w call.proxy ≡ Some x → call.life ≡ x.life → nth x.calls call.own ≡ Some number
own_number {namespace} {items} {w} ok number call x there at lived =
    let known = ok.calls number call there in
    let one : known.place ≡ x = one_place known.place x (sym known.at ∙ at) in
    ap (λ (y : Place). nth y.calls call.own) (sym one) ∙ known.own (lived ∙ ap (λ (y : Place). y.life) (sym one))

pub gain_leaves : (items : List Item) (w after : World) (gained : List Item) → WorldOk w.namespace items w → AllDue items w → Gain w after gained → is_kept gained ≡ true → Leaves w items gained after
gain_leaves items w _ _ ok h (renewed.answers number call x a o there is at lived out) kept =
    turn_leaves items (item.Answered number ∷ []) w (with_call w number (record call { settled = true })) call.proxy x (stepped_to x (event.Answer call.own a)) (event.Answer call.own a) o [] ok h (record {
      at = at;
      is = out;
      step = answered_step items x.calls w.calls number call a h.told.calls there is (own_number ok number call x there at lived);
      heard = subst (λ (n : List ℕ). HeardBytes (heard n a)) (sym (ok.places call.proxy x at).namespace_is) ((ok.calls number call there).heard a is);
      places = refl;
      members = refl;
      core = refl;
      clock = refl;
      streams = streams_on items (item.Answered number ∷ []) w.streams w.streams (λ n q. refl) (same_owners w.streams) h.streams;
      due = tt;
      caused = tt;
      timely = tt;
      tells = (tt, tt);
      knows =
          quiet_known items w call.proxy x (fit_of items w call.proxy x ok h at) (ok.places call.proxy x at).count (h.waits call.proxy x at).knows (item.Answered number ∷ []) (event.Answer call.own a)
          (record { heard = subst (λ (n : List ℕ). HeardBytes (heard n a)) (sym (ok.places call.proxy x at).namespace_is) ((ok.calls number call there).heard a is); lives = refl; gives = answer_gives items call.proxy number call.own a (call_step items w.calls number call call.proxy h.told.calls there ∙ number_itself call.proxy) ((h.told.calls number).ran ∙ ap ran_to there ∙ is) }) (λ f. absurd (cc)) (other_counts x.core (event.Answer call.own a) x.clock refl);
      stands = beside_stands items call.proxy x (not_worn x.core (event.Answer call.own a) x.clock o out) (h.waits call.proxy x at).stands (item.Answered number ∷ []) (event.Answer call.own a) [] refl (λ t. refl);
    })
gain_leaves items w _ _ ok h (renewed.refuses_post p ticket path body r x e) kept = absurd (cc)
gain_leaves items w _ _ ok h (renewed.other after gained e other) kept = effect_leaves items w after gained ok h e other kept

pub line_leaves : (items : List Item) (w after : World) (gained : List Item) → WorldOk w.namespace items w → AllDue items w → Gained w after gained → Leaves w items gained after
line_leaves items w _ _ ok h (gains.loses number call x o there at lived out) =
    turn_leaves items (item.Lost number ∷ []) w (with_call w number (record call { settled = true })) call.proxy x (stepped_to x (event.Lost call.own)) (event.Lost call.own) o [] ok h (record {
      at = at;
      is = out;
      step = lost_step items x.calls w.calls number call h.told.calls there (own_number ok number call x there at lived);
      heard = tt;
      places = refl;
      members = refl;
      core = refl;
      clock = refl;
      streams = streams_on items (item.Lost number ∷ []) w.streams w.streams (λ n q. refl) (same_owners w.streams) h.streams;
      due = tt;
      caused = tt;
      timely = tt;
      tells = (tt, tt);
      knows =
          quiet_known items w call.proxy x (fit_of items w call.proxy x ok h at) (ok.places call.proxy x at).count (h.waits call.proxy x at).knows (item.Lost number ∷ []) (event.Lost call.own)
          (record { heard = tt; lives = refl; gives = λ m. inl tt }) (λ f. absurd (cc)) (other_counts x.core (event.Lost call.own) x.clock refl);
      stands = beside_stands items call.proxy x (not_worn x.core (event.Lost call.own) x.clock o out) (h.waits call.proxy x at).stands (item.Lost number ∷ []) (event.Lost call.own) [] refl (λ t. refl);
    })
line_leaves items w _ _ ok h (gains.refuses p ticket path body why x at new is) = by (is_among (with_posted ticket x).posted ticket)
  where
    its : Tells (items ++ item.Posted p ticket path body ∷ []) (item.Reply p ticket (Refused (post_refusal why)))
    its =
        both_tell w.members w.namespace w.leasing (items ++ item.Posted p ticket path body ∷ []) p ticket (Refused (post_refusal why)) (begins_on items (item.Posted p ticket path body ∷ []) w.namespace w.leasing h.kept.sent.begins)
        (members_on items (item.Posted p ticket path body ∷ []) w h.first)
        (other_due (items ++ item.Posted p ticket path body ∷ []) p ticket (post_refusal why) (post_other why))
        (λ r e. no_request items [] path body why refl refl is (sym (same_refusal (post_refusal why) r e)))
        (λ q e.
        let before = asked_before p ticket (life p items) (item.Posted p ticket path body ∷ []) q refl (sym (ap (asked_as p ticket) (life_more p items (item.Posted p ticket path body ∷ []) refl)) ∙ e) in
        absurd (let f : None ≡ Some q = sym ((ok.places p x at).unasked ticket new) ∙ before in cc))

    by : (b : Bool) → Leaves w items (item.Posted p ticket path body ∷ item.Reply p ticket (Refused (post_refusal why)) ∷ body_if b p ticket (Refused (post_refusal why))) (with_place w p (with_posted ticket x))
    by true = record {
      members = refl;
      counts = put_counts w w p (with_posted ticket x) refl h.members (h.members p x at);
      streams = streams_on items (item.Posted p ticket path body ∷ item.Reply p ticket (Refused (post_refusal why)) ∷ body_if true p ticket (Refused (post_refusal why))) w.streams w.streams (λ n q. refl) (same_owners w.streams) h.streams;
      waits = put_waits items (item.Posted p ticket path body ∷ item.Reply p ticket (Refused (post_refusal why)) ∷ body_if true p ticket (Refused (post_refusal why))) w w p (with_posted ticket x) refl (λ q n. refl) h.waits (posted_told (items ++ (item.Posted p ticket path body ∷ item.Reply p ticket (Refused (post_refusal why)) ∷ body_if true p ticket (Refused (post_refusal why)))) p ticket x (told_on items (item.Posted p ticket path body ∷ item.Reply p ticket (Refused (post_refusal why)) ∷ body_if true p ticket (Refused (post_refusal why))) p x refl (h.waits p x at)));
      tells = (tt, (its, (tt, tt)));
      rests = quiet_rests items (item.Posted p ticket path body ∷ item.Reply p ticket (Refused (post_refusal why)) ∷ body_if true p ticket (Refused (post_refusal why))) (λ q. refl);
    }
    by false = record {
      members = refl;
      counts = put_counts w w p (with_posted ticket x) refl h.members (h.members p x at);
      streams = streams_on items (item.Posted p ticket path body ∷ item.Reply p ticket (Refused (post_refusal why)) ∷ body_if false p ticket (Refused (post_refusal why))) w.streams w.streams (λ n q. refl) (same_owners w.streams) h.streams;
      waits = put_waits items (item.Posted p ticket path body ∷ item.Reply p ticket (Refused (post_refusal why)) ∷ body_if false p ticket (Refused (post_refusal why))) w w p (with_posted ticket x) refl (λ q n. refl) h.waits (posted_told (items ++ (item.Posted p ticket path body ∷ item.Reply p ticket (Refused (post_refusal why)) ∷ body_if false p ticket (Refused (post_refusal why)))) p ticket x (told_on items (item.Posted p ticket path body ∷ item.Reply p ticket (Refused (post_refusal why)) ∷ body_if false p ticket (Refused (post_refusal why))) p x refl (h.waits p x at)));
      tells = (tt, (its, tt));
      rests = quiet_rests items (item.Posted p ticket path body ∷ item.Reply p ticket (Refused (post_refusal why)) ∷ body_if false p ticket (Refused (post_refusal why))) (λ q. refl);
    }
line_leaves items w _ _ ok h (gains.gains after gained g kept) = gain_leaves items w after gained ok h g kept
