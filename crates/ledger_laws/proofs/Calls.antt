-- What the items of a script tell of calls is what its world has of them.
use Rattle.std.proofs.Common.{◌≡◌, ℕ, ◌+◌, ◌-◌, ◌==◌, Bool, true, false, cond, ◌||◌, List, [], ◌∷◌, ◌++◌, length, Option, None, Some, refl, sym, ◌∙◌, ap, subst, arith}
use Rattle.std.proofs.lemmas.List.{length-append, length-set}
use Rattle.std.proofs.lemmas.List.Folds.{list_any-append}
use Rattle.etcd_types.proofs.Bools.{or_false, or_true}
use Rattle.etcd_types.specs.declared.answer.Answer.{Answer}
use Rattle.etcd_types.specs.declared.request.Request.{Request}
use Rattle.script_text.specs.declared.item.Item.{Item}
use Rattle.script_text.specs.declared.item.Item.TheVariants as item
use Rattle.world_model.specs.declared.sent_call.SentCall.{SentCall}
use Rattle.world_model.specs.Lives.{clock_of, executed_to}
use Rattle.world_model.specs.Places.{nth, with_nth}
use Rattle.audit_model.specs.Calls.{is_sending, calls_sent, sender_of, settles, is_settled, sent_from, sent_as}
use Rattle.core_laws.proofs.Steps.Lists.{number_itself, number_turned}
use Rattle.held_laws.proofs.Kept.{nth_itself, nth_other}
use Rattle.held_laws.proofs.Opens.{last_nth}
use Rattle.held_laws.proofs.Worlds.{equal}
use Rattle.renewed_laws.proofs.Worlds.{answer_by}
use Rattle.session_laws.proofs.Lists.{nth_next, nth_pushed}
use Rattle.ledger_laws.proofs.Telling.{or_later, later_none, sender-append, ran-append, as_sent, sent-append, calls-append}

-- ---- lists that are numbered from 1

-- one is pushed
pub pushed_each : {A : Type 0} (R : ℕ → Option A → Type 0) (xs : List A) (next : A) → R (length xs + 1) (Some next) → ((n : ℕ) → (n == length xs + 1) ≡ false → R n (nth xs n)) → (n : ℕ) → R n (nth (xs ++ next ∷ []) n)
pushed_each {A} R xs next this others n = by (n == length xs + 1) refl
  where
    by : (b : Bool) → (n == length xs + 1) ≡ b → R n (nth (xs ++ next ∷ []) n)
    by true e = subst (λ (k : ℕ). R k (nth (xs ++ next ∷ []) k)) (sym (equal n (length xs + 1) e)) (subst (R (length xs + 1)) (sym (last_nth xs next)) this)
    by false e = subst (R n) (sym (nth_pushed xs next n e)) (others n e)

-- one is changed
pub changed_each : {A : Type 0} (R : ℕ → Option A → Type 0) (xs : List A) (number : ℕ) (old next : A) → nth xs number ≡ Some old → R number (Some next) → ((n : ℕ) → (n == number) ≡ false → R n (nth xs n)) → (n : ℕ) → R n (nth (with_nth xs number next) n)
changed_each {A} R xs number old next at this others n = by (n == number) refl
  where
    by : (b : Bool) → (n == number) ≡ b → R n (nth (with_nth xs number next) n)
    by true e = subst (λ (k : ℕ). R k (nth (with_nth xs number next) k)) (sym (equal n number e)) (subst (R number) (sym (nth_itself xs number old next at)) this)
    by false e = subst (R n) (sym (nth_other xs number n old next at e)) (others n e)

-- ---- what is told of one call

abbrev pub proxy_of : Option SentCall → Option ℕ
proxy_of None = None
proxy_of (Some c) = Some c.proxy

abbrev pub settled_by : Option SentCall → Bool
settled_by None = false
settled_by (Some c) = c.settled

-- what floors read of it
abbrev pub bare : SentCall → SentCall
bare c = record { proxy = c.proxy; life = 0; own = 0; member = c.member; request = c.request; clock = c.clock; executed = None; settled = false }

abbrev pub bare_of : Option SentCall → Option SentCall
bare_of None = None
bare_of (Some c) = Some (bare c)

-- of the call of this number, or of there being none
pub record CallSays (items : List Item) (n : ℕ) (o : Option SentCall) : Type 0 where
  pub sender : sender_of n items ≡ proxy_of o
  pub ran : executed_to n items ≡ answer_by o
  pub settled : is_settled n items ≡ settled_by o
  pub sent : sent_as n items ≡ bare_of o

-- of all of them
pub record CallsSay (items : List Item) (calls : List SentCall) : Type 0 where
  pub count : calls_sent items ≡ length calls
  pub each : (n : ℕ) → CallSays items n (nth calls n)

-- ---- an item that tells nothing of it

pub record CallUntold (n : ℕ) (before : List Item) (i : Item) : Type 0 where
  pub sender : sender_of n (i ∷ []) ≡ None
  pub ran : executed_to n (i ∷ []) ≡ None
  pub settled : settles n i ≡ false
  pub sent : sent_from n before (i ∷ []) ≡ None

pub call_on : (items : List Item) (i : Item) (n : ℕ) (o : Option SentCall) → CallUntold n items i → CallSays items n o → CallSays (items ++ i ∷ []) n o
call_on items i n o u h = record {
  sender = sender-append n items (i ∷ []) ∙ ap (or_later (sender_of n items)) u.sender ∙ later_none (sender_of n items) ∙ h.sender;
  ran = ran-append n items (i ∷ []) ∙ ap (or_later (executed_to n items)) u.ran ∙ later_none (executed_to n items) ∙ h.ran;
  settled = list_any-append (settles n) items (i ∷ []) ∙ ap (λ b. is_settled n items || (b || false)) u.settled ∙ or_false (is_settled n items) ∙ h.settled;
  sent = sent-append n [] items (i ∷ []) ∙ ap (or_later (sent_as n items)) u.sent ∙ later_none (sent_as n items) ∙ h.sent;
}

-- it sends, executes and ends no call
abbrev pub is_no_call : Item → Bool
is_no_call (item.Sent p call member ticket q) = false
is_no_call (item.Executed call answer) = false
is_no_call (item.Answered call) = false
is_no_call (item.Lost call) = false
is_no_call _ = true

no_call : (n : ℕ) (before : List Item) (i : Item) → is_no_call i ≡ true → CallUntold n before i × (is_sending i ≡ false)
no_call n before (item.Sent p call member ticket q) e = absurd (cc)
no_call n before (item.Executed call answer) e = absurd (cc)
no_call n before (item.Answered call) e = absurd (cc)
no_call n before (item.Lost call) e = absurd (cc)
no_call n before _ e = (record { sender = refl; ran = refl; settled = refl; sent = refl }, refl)

-- one item more that sends none
more_calls : (items : List Item) (i : Item) (calls : List SentCall) → is_sending i ≡ false → calls_sent items ≡ length calls → calls_sent (items ++ i ∷ []) ≡ length calls
more_calls items i calls e h = calls-append items (i ∷ []) ∙ ap (λ b. calls_sent items + length (cond b (i ∷ []) [])) e ∙ none_more (calls_sent items) ∙ h
  where
    none_more : (k : ℕ) → k + 0 ≡ k
    none_more k = omega arith

pub calls_on : (items : List Item) (i : Item) (calls : List SentCall) → is_no_call i ≡ true → CallsSay items calls → CallsSay (items ++ i ∷ []) calls
calls_on items i calls e h = record {
  count = more_calls items i calls (no_call 0 items i e).1 h.count;
  each = λ n. call_on items i n (nth calls n) (no_call n items i e).0 (h.each n);
}

-- ---- a call is sent

sent_untold : (n number : ℕ) (before : List Item) (p member ticket : ℕ) (q : Request) → (n == number) ≡ false → CallUntold n before (item.Sent p number member ticket q)
sent_untold n number before p member ticket q e =
    let other = number_turned n number e in record {
      sender = ap (λ b. cond b (Some p) None) other;
      ran = refl;
      settled = refl;
      sent = ap (λ b. cond b (Some (as_sent p before member q)) None) other;
    }

pub calls_sent_on : (items : List Item) (calls : List SentCall) (new : SentCall) (ticket : ℕ) → new.executed ≡ None → new.settled ≡ false → clock_of new.proxy items ≡ new.clock → CallsSay items calls
    → CallsSay (items ++ item.Sent new.proxy (length calls + 1) new.member ticket new.request ∷ []) (calls ++ new ∷ [])
calls_sent_on items calls new ticket fresh unended reading h = record {
  count = calls-append items (i ∷ []) ∙ ap (λ (k : ℕ). k + 1) h.count ∙ sym (length-append calls (new ∷ []));
  each = pushed_each (CallSays (items ++ i ∷ [])) calls new itself (λ n e. call_on items i n (nth calls n) (sent_untold n number items new.proxy new.member ticket new.request e) (h.each n));
}
  where
    number : ℕ
    number = length calls + 1

    i : Item
    i = item.Sent new.proxy number new.member ticket new.request

    none : CallSays items number None
    none = subst (CallSays items number) (nth_next calls) (h.each number)

    named : SentCall → SentCall
    named c = as_sent new.proxy items new.member new.request

    same : as_sent new.proxy items new.member new.request ≡ bare new
    same = ap (λ (k : ℕ). record { proxy = new.proxy; life = 0; own = 0; member = new.member; request = new.request; clock = k; executed = None; settled = false }) reading

    itself : CallSays (items ++ i ∷ []) number (Some new)
    itself = record {
      sender = sender-append number items (i ∷ []) ∙ ap (λ (o : Option ℕ). or_later o (cond (number == number) (Some new.proxy) None)) none.sender ∙ ap (λ b. cond b (Some new.proxy) None) (number_itself number);
      ran = ran-append number items (i ∷ []) ∙ later_none (executed_to number items) ∙ none.ran ∙ sym fresh;
      settled = list_any-append (settles number) items (i ∷ []) ∙ ap (λ b. b || (false || false)) none.settled ∙ sym unended;
      sent = sent-append number [] items (i ∷ []) ∙ ap (λ (o : Option SentCall). or_later o (cond (number == number) (Some (as_sent new.proxy items new.member new.request)) None)) none.sent
          ∙ ap (λ b. cond b (Some (as_sent new.proxy items new.member new.request)) None) (number_itself number) ∙ ap (λ (c : SentCall). Some c) same;
    }

-- ---- a call is executed

executed_untold : (n number : ℕ) (before : List Item) (a : Answer) → (n == number) ≡ false → CallUntold n before (item.Executed number a)
executed_untold n number before a e = record { sender = refl; ran = ap (λ b. cond b (Some a) None) (number_turned n number e); settled = refl; sent = refl }

pub calls_executed_on : (items : List Item) (calls : List SentCall) (number : ℕ) (call : SentCall) (a : Answer) → nth calls number ≡ Some call → call.executed ≡ None → CallsSay items calls
    → CallsSay (items ++ item.Executed number a ∷ []) (with_nth calls number (record call { executed = Some a }))
calls_executed_on items calls number call a at fresh h = record {
  count = more_calls items i calls refl h.count ∙ sym (length-set calls (number - 1) (record call { executed = Some a }));
  each = changed_each (CallSays (items ++ i ∷ [])) calls number call (record call { executed = Some a }) at itself (λ n e. call_on items i n (nth calls n) (executed_untold n number items a e) (h.each n));
}
  where
    i : Item
    i = item.Executed number a

    was : CallSays items number (Some call)
    was = subst (CallSays items number) at (h.each number)

    itself : CallSays (items ++ i ∷ []) number (Some (record call { executed = Some a }))
    itself = record {
      sender = sender-append number items (i ∷ []) ∙ later_none (sender_of number items) ∙ was.sender;
      ran = ran-append number items (i ∷ []) ∙ ap (λ (o : Option Answer). or_later o (cond (number == number) (Some a) None)) (was.ran ∙ fresh) ∙ ap (λ b. cond b (Some a) None) (number_itself number);
      settled = list_any-append (settles number) items (i ∷ []) ∙ or_false (is_settled number items) ∙ was.settled;
      sent = sent-append number [] items (i ∷ []) ∙ later_none (sent_as number items) ∙ was.sent;
    }

-- ---- a call ends

-- the item says that it was answered, or lost
pub data Settles (number : ℕ) : Item → Type 0 where
  answers : Settles number (item.Answered number)
  loses : Settles number (item.Lost number)

ends_untold : (n number : ℕ) (before : List Item) (i : Item) → Settles number i → (n == number) ≡ false → CallUntold n before i
ends_untold n number before _ answers e = record { sender = refl; ran = refl; settled = number_turned n number e; sent = refl }
ends_untold n number before _ loses e = record { sender = refl; ran = refl; settled = number_turned n number e; sent = refl }

ends_itself : (items : List Item) (number : ℕ) (call : SentCall) (i : Item) → Settles number i → CallSays items number (Some call) → CallSays (items ++ i ∷ []) number (Some (record call { settled = true }))
ends_itself items number call _ answers was = record {
  sender = sender-append number items (item.Answered number ∷ []) ∙ later_none (sender_of number items) ∙ was.sender;
  ran = ran-append number items (item.Answered number ∷ []) ∙ later_none (executed_to number items) ∙ was.ran;
  settled = list_any-append (settles number) items (item.Answered number ∷ []) ∙ ap (λ b. is_settled number items || (b || false)) (number_itself number) ∙ or_true (is_settled number items);
  sent = sent-append number [] items (item.Answered number ∷ []) ∙ later_none (sent_as number items) ∙ was.sent;
}
ends_itself items number call _ loses was = record {
  sender = sender-append number items (item.Lost number ∷ []) ∙ later_none (sender_of number items) ∙ was.sender;
  ran = ran-append number items (item.Lost number ∷ []) ∙ later_none (executed_to number items) ∙ was.ran;
  settled = list_any-append (settles number) items (item.Lost number ∷ []) ∙ ap (λ b. is_settled number items || (b || false)) (number_itself number) ∙ or_true (is_settled number items);
  sent = sent-append number [] items (item.Lost number ∷ []) ∙ later_none (sent_as number items) ∙ was.sent;
}

ends_none : (number : ℕ) (i : Item) → Settles number i → is_sending i ≡ false
ends_none number _ answers = refl
ends_none number _ loses = refl

pub calls_settled_on : (items : List Item) (calls : List SentCall) (number : ℕ) (call : SentCall) (i : Item) → Settles number i → nth calls number ≡ Some call → CallsSay items calls
    → CallsSay (items ++ i ∷ []) (with_nth calls number (record call { settled = true }))
calls_settled_on items calls number call i s at h = record {
  count = more_calls items i calls (ends_none number i s) h.count ∙ sym (length-set calls (number - 1) (record call { settled = true }));
  each = changed_each (CallSays (items ++ i ∷ [])) calls number call (record call { settled = true }) at (ends_itself items number call i s (subst (CallSays items number) at (h.each number)))
      (λ n e. call_on items i n (nth calls n) (ends_untold n number items i s e) (h.each n));
}
