-- Line by line: what items tell of calls and of every proxy's session is what the world has.
use Rattle.std.proofs.Common.{◌≡◌, ℕ, ◌+◌, ◌==◌, ◌≤◌, Bool, true, false, cond, List, [], ◌∷◌, ◌++◌, append_assoc, length, Option, None, Some, refl, sym, ◌∙◌, ap, subst, arith}
use Rattle.std.proofs.lemmas.Bool.Decides.{nat_tests}
use Rattle.std.proofs.lemmas.List.Folds.{list_all-append}
use Rattle.std.specs.Prelude.{flat_map}
use Rattle.std.specs.List.{list_all}
use Rattle.std.specs.BTreeSet.{BTreeSet}
use Rattle.etcd_types.specs.declared.answer.Answer.{Answer}
use Rattle.etcd_types.specs.declared.request.Request.{Request}
use Rattle.etcd_types.specs.declared.request.Request.TheVariants as request
use Rattle.etcd_types.specs.declared.watch.WatchItem.{WatchItem}
use Rattle.etcd_types.proofs.Bools.{and_both}
use Rattle.proxy_model.specs.RequestRefusals.{is_session}
use Rattle.store_model.specs.State.{State}
use Rattle.store_model.specs.Transactions.{has_lease}
use Rattle.store_model.specs.Leases.{with_lease, granted_lease, asked_number, granted_ttl, granted, least_free}
use Rattle.store_model.specs.Refusals.{lease_exists}
use Rattle.store_model.specs.Step.{exec, refused, done as store_done}
use Rattle.etcd_types.specs.declared.answer.Body.TheVariants as body
use Rattle.core_model.specs.declared.event.CoreEvent.{CoreEvent}
use Rattle.core_model.specs.Fits.{CoreOk}
use Rattle.core_model.specs.Step.{stepped}
use Rattle.core_laws.specs.Steps.Kept.{IsHeard}
use Rattle.core_laws.proofs.Steps.Lists.{number_itself, number_turned, same_number}
use Rattle.core_laws.proofs.Steps.Stepping.{steps_keep}
use Rattle.script_text.specs.declared.item.Item.{Item}
use Rattle.script_text.specs.declared.item.Item.TheVariants as item
use Rattle.world_model.specs.declared.sent_call.SentCall.{SentCall}
use Rattle.world_model.specs.Gains.{Replies, all_fetched, body_if, reply_items, line_if, taken_items}
use Rattle.world_model.specs.Lives.{clock_of, sent_it, executed_to}
use Rattle.world_model.specs.LiveSessions.{session_of, session_at, heard_answer, heard_of, request_of_call, sent_clock}
use Rattle.world_model.specs.Places.{nth, with_nth, place_at, is_among, with_place}
use Rattle.world_model.specs.State.{Place, World}
use Rattle.held_laws.proofs.Kept.{nth_itself, nth_other}
use Rattle.held_laws.proofs.Opens.{last_nth}
use Rattle.held_laws.proofs.Worlds.{equal, one_place, placed_itself, placed_other, no_place}
use Rattle.renewed_laws.proofs.Worlds.{WorldOk}
use Rattle.session_laws.proofs.Answers.{AnswerFits}
use Rattle.session_laws.proofs.Calls.{CallTold, is_beside, beside_untold, untold_on}
use Rattle.session_laws.proofs.Items.{is_still, AreQuiet, quiet_one, quiet-append, still_quiet, session_next}
use Rattle.session_laws.proofs.Lists.{nth_front, nth_pushed}
use Rattle.session_laws.proofs.Places.{PlaceTold, GoesOn, Grow, GrowOwn, grow_itself, place_later, place_fetched}

-- ---- what is told behind a prefix

abbrev pub CallsTold : List Item → List SentCall → Type 0
CallsTold items calls = (number : ℕ) → CallTold items number (nth calls number)

abbrev pub AnswersFit : List SentCall → Type 0
AnswersFit calls = (number : ℕ) (call : SentCall) (a : Answer) → nth calls number ≡ Some call → call.executed ≡ Some a → AnswerFits call.request a

-- sessions' numbers that were drawn are below the bound
pub record WorldTold (items : List Item) (w : World) (bound : ℕ) : Type 0 where
  pub calls : CallsTold items w.calls
  pub answers : AnswersFit w.calls
  pub places : (p : ℕ) (x : Place) → place_at w p ≡ Some x → PlaceTold w.calls bound items p x
  -- the clock of a proxy that was never started wasn't set
  pub unset : (p : ℕ) → place_at w p ≡ None → clock_of p items ≡ 0

-- ---- calls

pub told_beside : (items more : List Item) (calls : List SentCall) → list_all is_beside more ≡ true → CallsTold items calls → CallsTold (items ++ more) calls
told_beside items more calls b h number = untold_on items more number (nth calls number) (beside_untold number more b) (h number)

-- one is changed
pub changed_calls : (R : ℕ → Option SentCall → Type 0) (calls : List SentCall) (number : ℕ) (call next : SentCall) → nth calls number ≡ Some call → R number (Some next) → ((other : ℕ) → (other == number) ≡ false → R other (nth calls other))
    → (other : ℕ) → R other (nth (with_nth calls number next) other)
changed_calls R calls number call next at this others other = by (other == number) refl
  where
    by : (b : Bool) → (other == number) ≡ b → R other (nth (with_nth calls number next) other)
    by true e = subst (λ (n : ℕ). R n (nth (with_nth calls number next) n)) (sym (same_number other number e)) (subst (R number) (sym (nth_itself calls number call next at)) this)
    by false e = subst (R other) (sym (nth_other calls number other call next at e)) (others other e)

-- one is pushed
pub pushed_calls : (R : ℕ → Option SentCall → Type 0) (calls : List SentCall) (next : SentCall) → R (length calls + 1) (Some next) → ((other : ℕ) → (other == length calls + 1) ≡ false → R other (nth calls other)) → (other : ℕ) → R other (nth (calls ++ next ∷ []) other)
pushed_calls R calls next this others other = by (other == length calls + 1) refl
  where
    by : (b : Bool) → (other == length calls + 1) ≡ b → R other (nth (calls ++ next ∷ []) other)
    by true e = subst (λ (n : ℕ). R n (nth (calls ++ next ∷ []) n)) (sym (same_number other (length calls + 1) e)) (subst (R (length calls + 1)) (sym (last_nth calls next)) this)
    by false e = subst (R other) (sym (nth_pushed calls next other e)) (others other e)

-- what is asked of a call that is there
abbrev pub IfThere : (SentCall → Type 0) → Option SentCall → Type 0
IfThere P None = Unit {0}
IfThere P (Some call) = P call

pub if_there : (P : SentCall → Type 0) (o : Option SentCall) → ((call : SentCall) → o ≡ Some call → P call) → IfThere P o
if_there P None f = tt
if_there P (Some call) f = f call refl

pub there_if : (P : SentCall → Type 0) (o : Option SentCall) (call : SentCall) → IfThere P o → o ≡ Some call → P call
there_if P o call h e = subst (IfThere P) e h

abbrev pub fits_as : SentCall → Type 0
fits_as call = (a : Answer) → call.executed ≡ Some a → AnswerFits call.request a

-- a call of the same request, reading and proxy
pub grow_changed : (calls : List SentCall) (number : ℕ) (call next : SentCall) → nth calls number ≡ Some call → next.request ≡ call.request → next.clock ≡ call.clock → next.proxy ≡ call.proxy → Grow calls (with_nth calls number next)
grow_changed calls number call next at r c p other was e = by (other == number) refl
  where
    same : other ≡ number → call ≡ was
    same i = let f : Some call ≡ Some was = sym at ∙ ap (nth calls) (sym i) ∙ e in cc

    by : (b : Bool) → (other == number) ≡ b → GoesOn (with_nth calls number next) other was
    by true i = let s = same (same_number other number i) in record {
      next = next;
      is = ap (nth (with_nth calls number next)) (same_number other number i) ∙ nth_itself calls number call next at;
      request = r ∙ ap (λ (x : SentCall). x.request) s;
      clock = c ∙ ap (λ (x : SentCall). x.clock) s;
      proxy = p ∙ ap (λ (x : SentCall). x.proxy) s;
    }
    by false i = record { next = was; is = nth_other calls number other call next at i ∙ e; request = refl; clock = refl; proxy = refl }

pub grow_pushed : (calls : List SentCall) (next : SentCall) → Grow calls (calls ++ next ∷ [])
grow_pushed calls next number call e = record { next = call; is = nth_front calls next number call e; request = refl; clock = refl; proxy = refl }

-- what a call was told as doesn't see that it is settled
settled_told : (items : List Item) (number : ℕ) (call : SentCall) → CallTold items number (Some call) → CallTold items number (Some (record call { settled = true }))
settled_told items number call h = record {
  asked = h.asked;
  ran = h.ran;
  sent = h.sent;
  clock = λ c e. let same : record call { settled = true } ≡ c = cc in subst (λ (x : SentCall). sent_clock x.proxy number items ≡ x.clock) same (h.clock call refl);
}

pub settled_calls : (items : List Item) (calls : List SentCall) (number : ℕ) (call : SentCall) → nth calls number ≡ Some call → CallsTold items calls → CallsTold items (with_nth calls number (record call { settled = true }))
settled_calls items calls number call at h =
    changed_calls (CallTold items) calls number call (record call { settled = true }) at (settled_told items number call (subst (CallTold items number) at (h number))) (λ other e. h other)

pub settled_answers : (calls : List SentCall) (number : ℕ) (call : SentCall) → nth calls number ≡ Some call → AnswersFit calls → AnswersFit (with_nth calls number (record call { settled = true }))
settled_answers calls number call at h other c a e r =
    there_if fits_as (nth (with_nth calls number (record call { settled = true })) other) c
    (changed_calls (λ n o. IfThere fits_as o) calls number call (record call { settled = true }) at (λ b i. h number call b at i) (λ n i. if_there fits_as (nth calls n) (λ d j b k. h n d b j k)) other) e a r

-- what the store answers to a session's grant, and to a keepalive
not_zero : (lease : ℕ) → is_session lease ≡ true → (lease == 0) ≡ false
not_zero lease h = grind (arith, nat_tests)

pub exec_fits : (s : State) (member : ℕ) (q : Request) → AnswerFits q (exec s member q).1
unfolding exec
exec_fits s member (request.Grant ttl lease) = by (has_lease s.leases lease)
  where
    by : (b : Bool) → AnswerFits (request.Grant ttl lease) (cond b (refused s lease_exists) (store_done (record s { leases = with_lease (granted_lease (asked_number s.leases lease) ttl) s.leases }) member (body.Grant (asked_number s.leases lease) (granted_ttl ttl)))).1
    by true = tt
    by false = λ i. (granted_ttl ttl, ap (λ (b : Bool). body.Grant (cond b (least_free s.leases) lease) (granted_ttl ttl)) (not_zero lease i))
exec_fits s member (request.KeepAlive lease) = (granted s.leases lease, refl)
exec_fits s member (request.Range ask) = tt
exec_fits s member (request.Put ask) = tt
exec_fits s member (request.Delete ask) = tt
exec_fits s member (request.Txn t) = tt
exec_fits s member (request.Compact revision physical) = tt
exec_fits s member (request.Revoke lease) = tt
exec_fits s member (request.TimeToLive lease keys) = tt
exec_fits s member request.Leases = tt
exec_fits s member (request.Watch ask) = tt

-- ---- items that are replies

pub replies_still : (q p : ℕ) (posted : BTreeSet ℕ) (rs : Replies) → (list_all (is_still q) (flat_map (reply_items p posted) rs) ≡ true) × (list_all is_beside (flat_map (reply_items p posted) rs) ≡ true)
replies_still q p posted [] = (refl, refl)
replies_still q p posted (r ∷ rs) =
    let more = replies_still q p posted rs in
    let rest = flat_map (reply_items p posted) rs in
    let body = body_if (is_among posted r.0) p r.0 r.1 in (
      list_all-append (is_still q) (item.Reply p r.0 r.1 ∷ body) rest ∙ and_both (list_all (is_still q) body) (list_all (is_still q) rest) (still (is_among posted r.0)) more.0,
      list_all-append is_beside (item.Reply p r.0 r.1 ∷ body) rest ∙ and_both (list_all is_beside body) (list_all is_beside rest) (beside (is_among posted r.0)) more.1,
    )
  where
    still : (b : Bool) → list_all (is_still q) (body_if b p r.0 r.1) ≡ true
    still true = refl
    still false = refl

    beside : (b : Bool) → list_all is_beside (body_if b p r.0 r.1) ≡ true
    beside true = refl
    beside false = refl

pub taken_still : (q p : ℕ) (posted : BTreeSet ℕ) (ticket : ℕ) (i : WatchItem) → (list_all (is_still q) (taken_items p posted ticket i) ≡ true) × (list_all is_beside (taken_items p posted ticket i) ≡ true)
taken_still q p posted ticket i = by (is_among posted ticket)
  where
    by : (b : Bool) → (list_all (is_still q) (item.Taken p ticket i ∷ line_if b p ticket i) ≡ true) × (list_all is_beside (item.Taken p ticket i ∷ line_if b p ticket i) ≡ true)
    by true = (refl, refl)
    by false = (refl, refl)

-- ---- places

-- one is put anew
pub put_places : (calls after : List SentCall) (bound next : ℕ) (items more : List Item) (w v : World) (p : ℕ) (z : Place) → v.places ≡ w.places → ((q : ℕ) → (q == p) ≡ false → AreQuiet q items more) → Grow calls after → bound ≤ next
    → ((q : ℕ) (y : Place) → place_at w q ≡ Some y → PlaceTold calls bound items q y) → PlaceTold after next (items ++ more) p z → (q : ℕ) (y : Place) → place_at (with_place v p z) q ≡ Some y → PlaceTold after next (items ++ more) q y
put_places calls after bound next items more w v p z same quiet g l h k q y at = by (q == p) refl
  where
    by : (b : Bool) → (q == p) ≡ b → PlaceTold after next (items ++ more) q y
    by true n =
        let there : q ≡ p = equal q p n in
        let one : z ≡ y = one_place z y (sym (placed_itself w v p z) ∙ ap (place_at (with_place v p z)) (sym there) ∙ at) in
        subst (λ (i : ℕ). PlaceTold after next (items ++ more) i y) (sym there) (subst (PlaceTold after next (items ++ more) p) one k)
    by false n = place_later calls after bound next items (items ++ more) q y y refl refl (λ a b e. e) (quiet q n) g l (h q y (sym (placed_other w v p q z same n) ∙ at))

-- all stay
pub keep_places : (calls after : List SentCall) (bound next : ℕ) (items more : List Item) (w : World) → ((q : ℕ) → AreQuiet q items more) → Grow calls after → bound ≤ next → ((q : ℕ) (y : Place) → place_at w q ≡ Some y → PlaceTold calls bound items q y)
    → (q : ℕ) (y : Place) → place_at w q ≡ Some y → PlaceTold after next (items ++ more) q y
keep_places calls after bound next items more w quiet g l h q y at = place_later calls after bound next items (items ++ more) q y y refl refl (λ a b e. e) (quiet q) g l (h q y at)

pub put_unset : (items more : List Item) (w v : World) (p : ℕ) (z : Place) → v.places ≡ w.places → ((q : ℕ) → (q == p) ≡ false → AreQuiet q items more) → ((q : ℕ) → place_at w q ≡ None → clock_of q items ≡ 0)
    → (q : ℕ) → place_at (with_place v p z) q ≡ None → clock_of q (items ++ more) ≡ 0
put_unset items more w v p z same quiet h q at = by (q == p) refl
  where
    by : (b : Bool) → (q == p) ≡ b → clock_of q (items ++ more) ≡ 0
    by true n = no_place z (sym at ∙ ap (place_at (with_place v p z)) (equal q p n) ∙ placed_itself w v p z)
    by false n = (quiet q n).clock ∙ h q (sym (placed_other w v p q z same n) ∙ at)

-- what stands in these fields alone
pub place_as : (calls : List SentCall) (bound : ℕ) (items : List Item) (p : ℕ) (x y : Place) → y.core ≡ x.core → y.clock ≡ x.clock → GrowOwn x.calls y.calls → PlaceTold calls bound items p x → PlaceTold calls bound items p y
place_as calls bound items p x y same lock own h = place_later calls calls bound bound items items p x y same lock own (record { clock = refl; live = λ t l. refl }) (grow_itself calls) (omega arith) h

-- ---- a turn of a proxy

-- what a turn leaves at its proxy, before replies are fetched
pub record TurnTold (items own : List Item) (w v : World) (p : ℕ) (x z : Place) (e : CoreEvent) (next : ℕ) : Type 0 where
  pub places : v.places ≡ w.places
  pub grow : Grow w.calls v.calls
  pub quiet : (q : ℕ) → (q == p) ≡ false → AreQuiet q items own
  pub place : PlaceTold v.calls next (items ++ own) p z
  pub core : z.core ≡ (stepped x.core e x.clock).core
  pub calls : CallsTold (items ++ own) v.calls
  pub answers : AnswersFit v.calls

-- with the replies
pub turn_world : (namespace : List ℕ) (items own : List Item) (w v : World) (p : ℕ) (x z : Place) (e : CoreEvent) (told : Replies) (bound next : ℕ) → WorldOk namespace items w → place_at w p ≡ Some x → IsHeard x.core e → bound ≤ next → WorldTold items w bound
    → TurnTold items own w v p x z e next
    → let f = all_fetched z told in WorldTold (items ++ (own ++ flat_map (reply_items p f.place.posted) f.replies)) (with_place v p f.place) next
turn_world namespace items own w v p x z e told bound next ok at heard l h t =
    let f = all_fetched z told in
    let rest = flat_map (reply_items p f.place.posted) f.replies in
    let core : CoreOk z.core = subst CoreOk (sym t.core) (steps_keep x.core e x.clock heard (ok.places p x at).core) in
    let more : (q : ℕ) → AreQuiet q (items ++ own) rest = λ q. still_quiet q (items ++ own) rest (replies_still q p f.place.posted f.replies).0 in
    let same : (items ++ own) ++ rest ≡ items ++ (own ++ rest) = append_assoc items own rest in
    record {
      calls = subst (λ (xs : List Item). CallsTold xs v.calls) same (told_beside (items ++ own) rest v.calls (replies_still 0 p f.place.posted f.replies).1 t.calls);
      answers = t.answers;
      places = put_places w.calls v.calls bound next items (own ++ rest) w v p f.place t.places (λ q n. quiet-append q items own rest (t.quiet q n) (more q)) t.grow l h.places
          (subst (λ (xs : List Item). PlaceTold v.calls next xs p f.place) same
          (place_later v.calls v.calls next next (items ++ own) ((items ++ own) ++ rest) p f.place f.place refl refl (λ a b i. i) (more p) (grow_itself v.calls) (omega arith) (place_fetched v.calls next (items ++ own) p z told core t.place)));
      unset = put_unset items (own ++ rest) w v p f.place t.places (λ q n. quiet-append q items own rest (t.quiet q n) (more q)) h.unset;
    }

-- ---- a call is answered

pub answered_quiet : (items : List Item) (number : ℕ) (call : SentCall) (q : ℕ) → CallTold items number (Some call) → (q == call.proxy) ≡ false → AreQuiet q items (item.Answered number ∷ [])
answered_quiet items number call q t n =
    quiet_one q items (item.Answered number) refl (λ s. ap (λ (b : Bool). cond b (heard_of (sent_clock q number items) (request_of_call number items) (executed_to number items) s) s) (t.sent q ∙ number_turned q call.proxy n)) (λ now. refl)

-- what is told of the session then
pub answered_told : (items : List Item) (number : ℕ) (call : SentCall) (a : Answer) (now : ℕ) → call.executed ≡ Some a → clock_of call.proxy items ≡ now → CallTold items number (Some call)
    → session_of call.proxy (items ++ item.Answered number ∷ []) ≡ heard_answer call.clock call.request (Some a) (session_at now (session_of call.proxy items))
answered_told items number call a now ran lock t =
    let p = call.proxy in
    let s = session_of p items in
    let yes : sent_it p number items ≡ true = t.sent p ∙ number_itself p in
    session_next p items (item.Answered number)
    ∙ ap (λ (b : Bool). cond b (heard_of (sent_clock p number items) (request_of_call number items) (executed_to number items) (cond b (session_at (clock_of p items) s) s)) (cond b (session_at (clock_of p items) s) s)) yes
    ∙ ap (λ (c : ℕ). heard_of c (request_of_call number items) (executed_to number items) (session_at (clock_of p items) s)) (t.clock call refl)
    ∙ ap (λ (o : Option Request). heard_of call.clock o (executed_to number items) (session_at (clock_of p items) s)) t.asked
    ∙ ap (λ (o : Option Answer). heard_of call.clock (Some call.request) o (session_at (clock_of p items) s)) (t.ran ∙ ran)
    ∙ ap (λ (c : ℕ). heard_of call.clock (Some call.request) (Some a) (session_at c s)) lock
