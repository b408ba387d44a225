-- What items tell of calls is what the world has of them: what was asked for, at which reading of the proxy's clock, and what it was
-- executed to.
use Rattle.std.proofs.Common.{◌≡◌, ℕ, ◌==◌, Bool, true, false, ◌&&◌, ◌||◌, cond, List, [], ◌∷◌, ◌++◌, Option, None, Some, refl, sym, ◌∙◌, ap, subst}
use Rattle.std.specs.List.{list_all}
use Rattle.std.proofs.lemmas.List.Folds.{list_any-append}
use Rattle.etcd_types.specs.declared.answer.Answer.{Answer}
use Rattle.etcd_types.specs.declared.request.Request.{Request}
use Rattle.etcd_types.proofs.Bools.{and_true, and_false, or_false, or_second, or_first}
use Rattle.script_text.specs.declared.item.Item.{Item}
use Rattle.script_text.specs.declared.item.Item.TheVariants as item
use Rattle.world_model.specs.declared.sent_call.SentCall.{SentCall}
use Rattle.world_model.specs.Lives.{clock_by, clock_from, clock_of, is_call_of, sent_it, executed_to}
use Rattle.world_model.specs.LiveSessions.{request_of_call, sent_clock_from, sent_clock}
use Rattle.core_laws.proofs.Steps.Lists.{number_itself, number_turned}

abbrev pub asked_by : Option SentCall → Option Request
asked_by None = None
asked_by (Some call) = Some call.request

abbrev pub ran_to : Option SentCall → Option Answer
ran_to None = None
ran_to (Some call) = call.executed

abbrev pub is_sent_by : ℕ → Option SentCall → Bool
is_sent_by p None = false
is_sent_by p (Some call) = call.proxy == p

-- of the call of this number, or of there being none
pub record CallTold (items : List Item) (number : ℕ) (o : Option SentCall) : Type 0 where
  pub asked : request_of_call number items ≡ asked_by o
  pub ran : executed_to number items ≡ ran_to o
  pub sent : (p : ℕ) → sent_it p number items ≡ is_sent_by p o
  pub clock : (call : SentCall) → o ≡ Some call → sent_clock call.proxy number items ≡ call.clock

-- ---- items, one behind the other

abbrev or_later : {A : Type 0} → Option A → Option A → Option A
or_later None y = y
or_later (Some x) y = Some x

later_none : {A : Type 0} (o : Option A) → or_later o None ≡ o
later_none None = refl
later_none (Some x) = refl

later_by : {A : Type 0} (b : Bool) (x : A) (o y : Option A) → cond b (Some x) (or_later o y) ≡ or_later (cond b (Some x) o) y
later_by true x o y = refl
later_by false x o y = refl

asked-append : (number : ℕ) (xs ys : List Item) → request_of_call number (xs ++ ys) ≡ or_later (request_of_call number xs) (request_of_call number ys)
asked-append number [] ys = refl
asked-append number (item.Sent q call member ticket r ∷ xs) ys =
    ap (cond (call == number) (Some r)) (asked-append number xs ys) ∙ later_by (call == number) r (request_of_call number xs) (request_of_call number ys)
asked-append number (item.World members namespace leasing ∷ xs) ys = asked-append number xs ys
asked-append number (item.Started q ∷ xs) ys = asked-append number xs ys
asked-append number (item.Restarted q ∷ xs) ys = asked-append number xs ys
asked-append number (item.Clock q millis ∷ xs) ys = asked-append number xs ys
asked-append number (item.Asked q ticket r ∷ xs) ys = asked-append number xs ys
asked-append number (item.Posted q ticket path body ∷ xs) ys = asked-append number xs ys
asked-append number (item.Ticked q ∷ xs) ys = asked-append number xs ys
asked-append number (item.Opened q stream member r ∷ xs) ys = asked-append number xs ys
asked-append number (item.Closed q stream ∷ xs) ys = asked-append number xs ys
asked-append number (item.Executed call answer ∷ xs) ys = asked-append number xs ys
asked-append number (item.Answered call ∷ xs) ys = asked-append number xs ys
asked-append number (item.Lost call ∷ xs) ys = asked-append number xs ys
asked-append number (item.Pushed stream message ∷ xs) ys = asked-append number xs ys
asked-append number (item.Delivered stream ∷ xs) ys = asked-append number xs ys
asked-append number (item.Cut stream ∷ xs) ys = asked-append number xs ys
asked-append number (item.Taken q ticket message ∷ xs) ys = asked-append number xs ys
asked-append number (item.Pending q ticket ∷ xs) ys = asked-append number xs ys
asked-append number (item.Left q ticket ∷ xs) ys = asked-append number xs ys
asked-append number (item.Expired lease ∷ xs) ys = asked-append number xs ys
asked-append number (item.Applied member revision ∷ xs) ys = asked-append number xs ys
asked-append number (item.Reply q ticket a ∷ xs) ys = asked-append number xs ys
asked-append number (item.Body q ticket status text ∷ xs) ys = asked-append number xs ys

ran-append : (number : ℕ) (xs ys : List Item) → executed_to number (xs ++ ys) ≡ or_later (executed_to number xs) (executed_to number ys)
ran-append number [] ys = refl
ran-append number (item.Executed call answer ∷ xs) ys =
    ap (cond (call == number) (Some answer)) (ran-append number xs ys) ∙ later_by (call == number) answer (executed_to number xs) (executed_to number ys)
ran-append number (item.World members namespace leasing ∷ xs) ys = ran-append number xs ys
ran-append number (item.Started q ∷ xs) ys = ran-append number xs ys
ran-append number (item.Restarted q ∷ xs) ys = ran-append number xs ys
ran-append number (item.Clock q millis ∷ xs) ys = ran-append number xs ys
ran-append number (item.Asked q ticket r ∷ xs) ys = ran-append number xs ys
ran-append number (item.Posted q ticket path body ∷ xs) ys = ran-append number xs ys
ran-append number (item.Ticked q ∷ xs) ys = ran-append number xs ys
ran-append number (item.Sent q call member ticket r ∷ xs) ys = ran-append number xs ys
ran-append number (item.Opened q stream member r ∷ xs) ys = ran-append number xs ys
ran-append number (item.Closed q stream ∷ xs) ys = ran-append number xs ys
ran-append number (item.Answered call ∷ xs) ys = ran-append number xs ys
ran-append number (item.Lost call ∷ xs) ys = ran-append number xs ys
ran-append number (item.Pushed stream message ∷ xs) ys = ran-append number xs ys
ran-append number (item.Delivered stream ∷ xs) ys = ran-append number xs ys
ran-append number (item.Cut stream ∷ xs) ys = ran-append number xs ys
ran-append number (item.Taken q ticket message ∷ xs) ys = ran-append number xs ys
ran-append number (item.Pending q ticket ∷ xs) ys = ran-append number xs ys
ran-append number (item.Left q ticket ∷ xs) ys = ran-append number xs ys
ran-append number (item.Expired lease ∷ xs) ys = ran-append number xs ys
ran-append number (item.Applied member revision ∷ xs) ys = ran-append number xs ys
ran-append number (item.Reply q ticket a ∷ xs) ys = ran-append number xs ys
ran-append number (item.Body q ticket status text ∷ xs) ys = ran-append number xs ys

-- once it is sent, its clock stays
clock_stays : (p now number : ℕ) (xs ys : List Item) → sent_it p number xs ≡ true → sent_clock_from p now number (xs ++ ys) ≡ sent_clock_from p now number xs
clock_stays p now number [] ys h = absurd (cc)
clock_stays p now number (x ∷ xs) ys h = by (is_call_of p number x) h (λ n k. clock_stays p n number xs ys k)
  where
    by : (b : Bool) → b || sent_it p number xs ≡ true → ((n : ℕ) → sent_it p number xs ≡ true → sent_clock_from p n number (xs ++ ys) ≡ sent_clock_from p n number xs)
        → cond (b || false) now (sent_clock_from p (clock_by p now x) number (xs ++ ys)) ≡ cond (b || false) now (sent_clock_from p (clock_by p now x) number xs)
    by true h more = refl
    by false h more = more (clock_by p now x) h

-- and where it wasn't sent before, it is the reading then
clock_sent : (p now number : ℕ) (xs : List Item) (i : Item) → sent_it p number xs ≡ false → is_call_of p number i ≡ true → sent_clock_from p now number (xs ++ i ∷ []) ≡ clock_from p now xs
clock_sent p now number [] i h k = ap (λ (b : Bool). cond (b || false) now (clock_by p now i)) k
clock_sent p now number (x ∷ xs) i h k =
    ap (λ (b : Bool). cond (b || false) now (sent_clock_from p (clock_by p now x) number (xs ++ i ∷ []))) (or_first (is_call_of p number x) (sent_it p number xs) h)
    ∙ clock_sent p (clock_by p now x) number xs i (or_second (is_call_of p number x) (sent_it p number xs) h) k

-- ---- what tells nothing of calls

-- it is neither a sending nor an execution
abbrev pub is_beside : Item → Bool
is_beside (item.Sent q call member ticket r) = false
is_beside (item.Executed call answer) = false
is_beside _ = true

unasked : (number : ℕ) (xs : List Item) → list_all is_beside xs ≡ true → request_of_call number xs ≡ None
unasked number [] h = refl
unasked number (item.World members namespace leasing ∷ xs) h = unasked number xs h
unasked number (item.Started q ∷ xs) h = unasked number xs h
unasked number (item.Restarted q ∷ xs) h = unasked number xs h
unasked number (item.Clock q millis ∷ xs) h = unasked number xs h
unasked number (item.Asked q ticket r ∷ xs) h = unasked number xs h
unasked number (item.Posted q ticket path body ∷ xs) h = unasked number xs h
unasked number (item.Ticked q ∷ xs) h = unasked number xs h
unasked number (item.Sent q call member ticket r ∷ xs) h = absurd (cc)
unasked number (item.Opened q stream member r ∷ xs) h = unasked number xs h
unasked number (item.Closed q stream ∷ xs) h = unasked number xs h
unasked number (item.Executed call answer ∷ xs) h = absurd (cc)
unasked number (item.Answered call ∷ xs) h = unasked number xs h
unasked number (item.Lost call ∷ xs) h = unasked number xs h
unasked number (item.Pushed stream message ∷ xs) h = unasked number xs h
unasked number (item.Delivered stream ∷ xs) h = unasked number xs h
unasked number (item.Cut stream ∷ xs) h = unasked number xs h
unasked number (item.Taken q ticket message ∷ xs) h = unasked number xs h
unasked number (item.Pending q ticket ∷ xs) h = unasked number xs h
unasked number (item.Left q ticket ∷ xs) h = unasked number xs h
unasked number (item.Expired lease ∷ xs) h = unasked number xs h
unasked number (item.Applied member revision ∷ xs) h = unasked number xs h
unasked number (item.Reply q ticket a ∷ xs) h = unasked number xs h
unasked number (item.Body q ticket status text ∷ xs) h = unasked number xs h

unran : (number : ℕ) (xs : List Item) → list_all is_beside xs ≡ true → executed_to number xs ≡ None
unran number [] h = refl
unran number (item.World members namespace leasing ∷ xs) h = unran number xs h
unran number (item.Started q ∷ xs) h = unran number xs h
unran number (item.Restarted q ∷ xs) h = unran number xs h
unran number (item.Clock q millis ∷ xs) h = unran number xs h
unran number (item.Asked q ticket r ∷ xs) h = unran number xs h
unran number (item.Posted q ticket path body ∷ xs) h = unran number xs h
unran number (item.Ticked q ∷ xs) h = unran number xs h
unran number (item.Sent q call member ticket r ∷ xs) h = absurd (cc)
unran number (item.Opened q stream member r ∷ xs) h = unran number xs h
unran number (item.Closed q stream ∷ xs) h = unran number xs h
unran number (item.Executed call answer ∷ xs) h = absurd (cc)
unran number (item.Answered call ∷ xs) h = unran number xs h
unran number (item.Lost call ∷ xs) h = unran number xs h
unran number (item.Pushed stream message ∷ xs) h = unran number xs h
unran number (item.Delivered stream ∷ xs) h = unran number xs h
unran number (item.Cut stream ∷ xs) h = unran number xs h
unran number (item.Taken q ticket message ∷ xs) h = unran number xs h
unran number (item.Pending q ticket ∷ xs) h = unran number xs h
unran number (item.Left q ticket ∷ xs) h = unran number xs h
unran number (item.Expired lease ∷ xs) h = unran number xs h
unran number (item.Applied member revision ∷ xs) h = unran number xs h
unran number (item.Reply q ticket a ∷ xs) h = unran number xs h
unran number (item.Body q ticket status text ∷ xs) h = unran number xs h

unsent : (p number : ℕ) (xs : List Item) → list_all is_beside xs ≡ true → sent_it p number xs ≡ false
unsent p number [] h = refl
unsent p number (item.World members namespace leasing ∷ xs) h = unsent p number xs h
unsent p number (item.Started q ∷ xs) h = unsent p number xs h
unsent p number (item.Restarted q ∷ xs) h = unsent p number xs h
unsent p number (item.Clock q millis ∷ xs) h = unsent p number xs h
unsent p number (item.Asked q ticket r ∷ xs) h = unsent p number xs h
unsent p number (item.Posted q ticket path body ∷ xs) h = unsent p number xs h
unsent p number (item.Ticked q ∷ xs) h = unsent p number xs h
unsent p number (item.Sent q call member ticket r ∷ xs) h = absurd (cc)
unsent p number (item.Opened q stream member r ∷ xs) h = unsent p number xs h
unsent p number (item.Closed q stream ∷ xs) h = unsent p number xs h
unsent p number (item.Executed call answer ∷ xs) h = absurd (cc)
unsent p number (item.Answered call ∷ xs) h = unsent p number xs h
unsent p number (item.Lost call ∷ xs) h = unsent p number xs h
unsent p number (item.Pushed stream message ∷ xs) h = unsent p number xs h
unsent p number (item.Delivered stream ∷ xs) h = unsent p number xs h
unsent p number (item.Cut stream ∷ xs) h = unsent p number xs h
unsent p number (item.Taken q ticket message ∷ xs) h = unsent p number xs h
unsent p number (item.Pending q ticket ∷ xs) h = unsent p number xs h
unsent p number (item.Left q ticket ∷ xs) h = unsent p number xs h
unsent p number (item.Expired lease ∷ xs) h = unsent p number xs h
unsent p number (item.Applied member revision ∷ xs) h = unsent p number xs h
unsent p number (item.Reply q ticket a ∷ xs) h = unsent p number xs h
unsent p number (item.Body q ticket status text ∷ xs) h = unsent p number xs h

-- these items tell nothing of it
pub record IsUntold (number : ℕ) (more : List Item) : Type 0 where
  pub asked : request_of_call number more ≡ None
  pub ran : executed_to number more ≡ None
  pub sent : (p : ℕ) → sent_it p number more ≡ false

pub beside_untold : (number : ℕ) (more : List Item) → list_all is_beside more ≡ true → IsUntold number more
beside_untold number more h = record { asked = unasked number more h; ran = unran number more h; sent = λ p. unsent p number more h }

sent_on : (p number : ℕ) (items more : List Item) → sent_it p number more ≡ false → sent_it p number (items ++ more) ≡ sent_it p number items
sent_on p number items more h = list_any-append (is_call_of p number) items more ∙ ap (λ (b : Bool). sent_it p number items || b) h ∙ or_false (sent_it p number items)

pub untold_on : (items more : List Item) (number : ℕ) (o : Option SentCall) → IsUntold number more → CallTold items number o → CallTold (items ++ more) number o
untold_on items more number o u h = record {
  asked = asked-append number items more ∙ ap (or_later (request_of_call number items)) u.asked ∙ later_none (request_of_call number items) ∙ h.asked;
  ran = ran-append number items more ∙ ap (or_later (executed_to number items)) u.ran ∙ later_none (executed_to number items) ∙ h.ran;
  sent = λ p. sent_on p number items more (u.sent p) ∙ h.sent p;
  clock = λ call e. clock_stays call.proxy 0 number items more (h.sent call.proxy ∙ ap (is_sent_by call.proxy) e ∙ number_itself call.proxy) ∙ h.clock call e;
}

-- ---- what tells of a call

-- it is executed, for the first time
pub executed_on : (items : List Item) (number : ℕ) (call : SentCall) (a : Answer) → call.executed ≡ None → CallTold items number (Some call) → CallTold (items ++ item.Executed number a ∷ []) number (Some (record call { executed = Some a }))
executed_on items number call a fresh h = record {
  asked = asked-append number items (item.Executed number a ∷ []) ∙ later_none (request_of_call number items) ∙ h.asked;
  ran = ran-append number items (item.Executed number a ∷ []) ∙ ap (λ (o : Option Answer). or_later o (cond (number == number) (Some a) None)) (h.ran ∙ fresh) ∙ ap (λ (b : Bool). cond b (Some a) None) (number_itself number);
  sent = λ p. sent_on p number items (item.Executed number a ∷ []) refl ∙ h.sent p;
  clock = λ c e. clock_stays c.proxy 0 number items (item.Executed number a ∷ []) (h.sent c.proxy ∙ by_call c e) ∙ told c e;
}
  where
    by_call : (c : SentCall) → Some (record call { executed = Some a }) ≡ Some c → (call.proxy == c.proxy) ≡ true
    by_call c e = let same : record call { executed = Some a } ≡ c = cc in ap (λ (x : SentCall). call.proxy == x.proxy) (sym same) ∙ number_itself call.proxy

    told : (c : SentCall) → Some (record call { executed = Some a }) ≡ Some c → sent_clock c.proxy number items ≡ c.clock
    told c e = let same : record call { executed = Some a } ≡ c = cc in subst (λ (x : SentCall). sent_clock x.proxy number items ≡ x.clock) same (h.clock call refl)

other_number : (number other : ℕ) → (other == number) ≡ false → (number == other) ≡ false
other_number number other e = number_turned other number e

pub executed_other : (number other : ℕ) (a : Answer) → (other == number) ≡ false → IsUntold other (item.Executed number a ∷ [])
executed_other number other a e = record { asked = refl; ran = ap (λ (b : Bool). cond b (Some a) None) (other_number number other e); sent = λ p. refl }

-- it is sent
pub sent_new : (items : List Item) (number member ticket : ℕ) (call : SentCall) → call.executed ≡ None → clock_of call.proxy items ≡ call.clock → CallTold items number None
    → CallTold (items ++ item.Sent call.proxy number member ticket call.request ∷ []) number (Some call)
sent_new items number member ticket call fresh reading h = record {
  asked = asked-append number items (i ∷ []) ∙ ap (λ (o : Option Request). or_later o (cond (number == number) (Some call.request) None)) h.asked ∙ ap (λ (b : Bool). cond b (Some call.request) None) (number_itself number);
  ran = ran-append number items (i ∷ []) ∙ later_none (executed_to number items) ∙ h.ran ∙ sym fresh;
  sent = λ p. list_any-append (is_call_of p number) items (i ∷ []) ∙ ap (λ (b : Bool). b || (((call.proxy == p) && (number == number)) || false)) (h.sent p)
      ∙ or_false ((call.proxy == p) && (number == number)) ∙ ap (λ (b : Bool). (call.proxy == p) && b) (number_itself number) ∙ and_true (call.proxy == p);
  clock = λ c e. clock_of_it c e;
}
  where
    i : Item
    i = item.Sent call.proxy number member ticket call.request

    clock_of_it : (c : SentCall) → Some call ≡ Some c → sent_clock c.proxy number (items ++ i ∷ []) ≡ c.clock
    clock_of_it c e =
        let same : call ≡ c = cc in
        subst (λ (x : SentCall). sent_clock x.proxy number (items ++ i ∷ []) ≡ x.clock) same
        (clock_sent call.proxy 0 number items i (h.sent call.proxy) (ap (λ (b : Bool). b && (number == number)) (number_itself call.proxy) ∙ number_itself number) ∙ reading)

pub sent_other : (p number member ticket other : ℕ) (r : Request) → (other == number) ≡ false → IsUntold other (item.Sent p number member ticket r ∷ [])
sent_other p number member ticket other r e = record {
  asked = ap (λ (b : Bool). cond b (Some r) None) (other_number number other e);
  ran = refl;
  sent = λ q. ap (λ (b : Bool). ((p == q) && b) || false) (other_number number other e) ∙ ap (λ (b : Bool). b || false) (and_false (p == q));
}
