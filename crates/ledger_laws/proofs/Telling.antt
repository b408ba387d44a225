-- What items tell of calls, one list of items behind another: by whom each was sent, to what it was executed, and whether it has ended.
use Rattle.std.proofs.Common.{◌≡◌, ℕ, ◌+◌, ◌==◌, Bool, true, false, cond, List, [], ◌∷◌, ◌++◌, append_assoc, append-nil, length, filter, Option, None, Some, refl, sym, ◌∙◌, ap}
use Rattle.std.proofs.lemmas.List.{length-append}
use Rattle.std.proofs.lemmas.List.Elements.{filter-append}
use Rattle.etcd_types.specs.declared.request.Request.{Request}
use Rattle.script_text.specs.declared.item.Item.{Item}
use Rattle.script_text.specs.declared.item.Item.TheVariants as item
use Rattle.world_model.specs.declared.sent_call.SentCall.{SentCall}
use Rattle.world_model.specs.Lives.{clock_of, executed_to}
use Rattle.audit_model.specs.Calls.{is_sending, calls_sent, sender_of, sent_from}
use Rattle.audit_model.specs.Streams.{is_opening, streams_opened, opener_of}

abbrev pub or_later : {A : Type 0} → Option A → Option A → Option A
or_later None y = y
or_later (Some x) y = Some x

pub later_none : {A : Type 0} (o : Option A) → or_later o None ≡ o
later_none None = refl
later_none (Some x) = refl

later_by : {A : Type 0} (b : Bool) (x : A) (o y : Option A) → cond b (Some x) (or_later o y) ≡ or_later (cond b (Some x) o) y
later_by true x o y = refl
later_by false x o y = refl

pub sender-append : (n : ℕ) (xs ys : List Item) → sender_of n (xs ++ ys) ≡ or_later (sender_of n xs) (sender_of n ys)
sender-append n [] ys = refl
sender-append n (item.Sent q call member ticket r ∷ xs) ys = ap (cond (call == n) (Some q)) (sender-append n xs ys) ∙ later_by (call == n) q (sender_of n xs) (sender_of n ys)
sender-append n (item.World members namespace leasing ∷ xs) ys = sender-append n xs ys
sender-append n (item.Started q ∷ xs) ys = sender-append n xs ys
sender-append n (item.Restarted q ∷ xs) ys = sender-append n xs ys
sender-append n (item.Clock q millis ∷ xs) ys = sender-append n xs ys
sender-append n (item.Asked q ticket r ∷ xs) ys = sender-append n xs ys
sender-append n (item.Posted q ticket path body ∷ xs) ys = sender-append n xs ys
sender-append n (item.Ticked q ∷ xs) ys = sender-append n xs ys
sender-append n (item.Opened q stream member r ∷ xs) ys = sender-append n xs ys
sender-append n (item.Closed q stream ∷ xs) ys = sender-append n xs ys
sender-append n (item.Executed call answer ∷ xs) ys = sender-append n xs ys
sender-append n (item.Answered call ∷ xs) ys = sender-append n xs ys
sender-append n (item.Lost call ∷ xs) ys = sender-append n xs ys
sender-append n (item.Pushed stream message ∷ xs) ys = sender-append n xs ys
sender-append n (item.Delivered stream ∷ xs) ys = sender-append n xs ys
sender-append n (item.Cut stream ∷ xs) ys = sender-append n xs ys
sender-append n (item.Taken q ticket message ∷ xs) ys = sender-append n xs ys
sender-append n (item.Pending q ticket ∷ xs) ys = sender-append n xs ys
sender-append n (item.Left q ticket ∷ xs) ys = sender-append n xs ys
sender-append n (item.Expired lease ∷ xs) ys = sender-append n xs ys
sender-append n (item.Applied member revision ∷ xs) ys = sender-append n xs ys
sender-append n (item.Reply q ticket a ∷ xs) ys = sender-append n xs ys
sender-append n (item.Body q ticket status text ∷ xs) ys = sender-append n xs ys

pub opener-append : (n : ℕ) (xs ys : List Item) → opener_of n (xs ++ ys) ≡ or_later (opener_of n xs) (opener_of n ys)
opener-append n [] ys = refl
opener-append n (item.Opened q stream member r ∷ xs) ys = ap (cond (stream == n) (Some q)) (opener-append n xs ys) ∙ later_by (stream == n) q (opener_of n xs) (opener_of n ys)
opener-append n (item.World members namespace leasing ∷ xs) ys = opener-append n xs ys
opener-append n (item.Started q ∷ xs) ys = opener-append n xs ys
opener-append n (item.Restarted q ∷ xs) ys = opener-append n xs ys
opener-append n (item.Clock q millis ∷ xs) ys = opener-append n xs ys
opener-append n (item.Asked q ticket r ∷ xs) ys = opener-append n xs ys
opener-append n (item.Posted q ticket path body ∷ xs) ys = opener-append n xs ys
opener-append n (item.Ticked q ∷ xs) ys = opener-append n xs ys
opener-append n (item.Sent q call member ticket r ∷ xs) ys = opener-append n xs ys
opener-append n (item.Closed q stream ∷ xs) ys = opener-append n xs ys
opener-append n (item.Executed call answer ∷ xs) ys = opener-append n xs ys
opener-append n (item.Answered call ∷ xs) ys = opener-append n xs ys
opener-append n (item.Lost call ∷ xs) ys = opener-append n xs ys
opener-append n (item.Pushed stream message ∷ xs) ys = opener-append n xs ys
opener-append n (item.Delivered stream ∷ xs) ys = opener-append n xs ys
opener-append n (item.Cut stream ∷ xs) ys = opener-append n xs ys
opener-append n (item.Taken q ticket message ∷ xs) ys = opener-append n xs ys
opener-append n (item.Pending q ticket ∷ xs) ys = opener-append n xs ys
opener-append n (item.Left q ticket ∷ xs) ys = opener-append n xs ys
opener-append n (item.Expired lease ∷ xs) ys = opener-append n xs ys
opener-append n (item.Applied member revision ∷ xs) ys = opener-append n xs ys
opener-append n (item.Reply q ticket a ∷ xs) ys = opener-append n xs ys
opener-append n (item.Body q ticket status text ∷ xs) ys = opener-append n xs ys

pub ran-append : (n : ℕ) (xs ys : List Item) → executed_to n (xs ++ ys) ≡ or_later (executed_to n xs) (executed_to n ys)
ran-append n [] ys = refl
ran-append n (item.Executed call answer ∷ xs) ys = ap (cond (call == n) (Some answer)) (ran-append n xs ys) ∙ later_by (call == n) answer (executed_to n xs) (executed_to n ys)
ran-append n (item.World members namespace leasing ∷ xs) ys = ran-append n xs ys
ran-append n (item.Started q ∷ xs) ys = ran-append n xs ys
ran-append n (item.Restarted q ∷ xs) ys = ran-append n xs ys
ran-append n (item.Clock q millis ∷ xs) ys = ran-append n xs ys
ran-append n (item.Asked q ticket r ∷ xs) ys = ran-append n xs ys
ran-append n (item.Posted q ticket path body ∷ xs) ys = ran-append n xs ys
ran-append n (item.Ticked q ∷ xs) ys = ran-append n xs ys
ran-append n (item.Sent q call member ticket r ∷ xs) ys = ran-append n xs ys
ran-append n (item.Opened q stream member r ∷ xs) ys = ran-append n xs ys
ran-append n (item.Closed q stream ∷ xs) ys = ran-append n xs ys
ran-append n (item.Answered call ∷ xs) ys = ran-append n xs ys
ran-append n (item.Lost call ∷ xs) ys = ran-append n xs ys
ran-append n (item.Pushed stream message ∷ xs) ys = ran-append n xs ys
ran-append n (item.Delivered stream ∷ xs) ys = ran-append n xs ys
ran-append n (item.Cut stream ∷ xs) ys = ran-append n xs ys
ran-append n (item.Taken q ticket message ∷ xs) ys = ran-append n xs ys
ran-append n (item.Pending q ticket ∷ xs) ys = ran-append n xs ys
ran-append n (item.Left q ticket ∷ xs) ys = ran-append n xs ys
ran-append n (item.Expired lease ∷ xs) ys = ran-append n xs ys
ran-append n (item.Applied member revision ∷ xs) ys = ran-append n xs ys
ran-append n (item.Reply q ticket a ∷ xs) ys = ran-append n xs ys
ran-append n (item.Body q ticket status text ∷ xs) ys = ran-append n xs ys

-- what floors read of a call that is sent behind these items
abbrev pub as_sent : ℕ → List Item → ℕ → Request → SentCall
as_sent p before member q = record { proxy = p; life = 0; own = 0; member = member; request = q; clock = clock_of p before; executed = None; settled = false }

further : (n : ℕ) (before xs ys : List Item) (i : Item) → sent_from n (before ++ i ∷ []) (xs ++ ys) ≡ or_later (sent_from n (before ++ i ∷ []) xs) (sent_from n ((before ++ i ∷ []) ++ xs) ys)
    → sent_from n (before ++ i ∷ []) (xs ++ ys) ≡ or_later (sent_from n (before ++ i ∷ []) xs) (sent_from n (before ++ i ∷ xs) ys)
further n before xs ys i e = e ∙ ap (λ (b : List Item). or_later (sent_from n (before ++ i ∷ []) xs) (sent_from n b ys)) (append_assoc before (i ∷ []) xs)

pub sent-append : (n : ℕ) (before xs ys : List Item) → sent_from n before (xs ++ ys) ≡ or_later (sent_from n before xs) (sent_from n (before ++ xs) ys)
sent-append n before [] ys = ap (λ (b : List Item). sent_from n b ys) (sym (append-nil before))
sent-append n before (item.Sent q call member ticket r ∷ xs) ys =
    let i = item.Sent q call member ticket r in
    ap (cond (call == n) (Some (as_sent q before member r))) (further n before xs ys i (sent-append n (before ++ i ∷ []) xs ys))
    ∙ later_by (call == n) (as_sent q before member r) (sent_from n (before ++ i ∷ []) xs) (sent_from n (before ++ i ∷ xs) ys)
sent-append n before (item.World members namespace leasing ∷ xs) ys = further n before xs ys (item.World members namespace leasing) (sent-append n (before ++ item.World members namespace leasing ∷ []) xs ys)
sent-append n before (item.Started q ∷ xs) ys = further n before xs ys (item.Started q) (sent-append n (before ++ item.Started q ∷ []) xs ys)
sent-append n before (item.Restarted q ∷ xs) ys = further n before xs ys (item.Restarted q) (sent-append n (before ++ item.Restarted q ∷ []) xs ys)
sent-append n before (item.Clock q millis ∷ xs) ys = further n before xs ys (item.Clock q millis) (sent-append n (before ++ item.Clock q millis ∷ []) xs ys)
sent-append n before (item.Asked q ticket r ∷ xs) ys = further n before xs ys (item.Asked q ticket r) (sent-append n (before ++ item.Asked q ticket r ∷ []) xs ys)
sent-append n before (item.Posted q ticket path body ∷ xs) ys = further n before xs ys (item.Posted q ticket path body) (sent-append n (before ++ item.Posted q ticket path body ∷ []) xs ys)
sent-append n before (item.Ticked q ∷ xs) ys = further n before xs ys (item.Ticked q) (sent-append n (before ++ item.Ticked q ∷ []) xs ys)
sent-append n before (item.Opened q stream member r ∷ xs) ys = further n before xs ys (item.Opened q stream member r) (sent-append n (before ++ item.Opened q stream member r ∷ []) xs ys)
sent-append n before (item.Closed q stream ∷ xs) ys = further n before xs ys (item.Closed q stream) (sent-append n (before ++ item.Closed q stream ∷ []) xs ys)
sent-append n before (item.Executed call answer ∷ xs) ys = further n before xs ys (item.Executed call answer) (sent-append n (before ++ item.Executed call answer ∷ []) xs ys)
sent-append n before (item.Answered call ∷ xs) ys = further n before xs ys (item.Answered call) (sent-append n (before ++ item.Answered call ∷ []) xs ys)
sent-append n before (item.Lost call ∷ xs) ys = further n before xs ys (item.Lost call) (sent-append n (before ++ item.Lost call ∷ []) xs ys)
sent-append n before (item.Pushed stream message ∷ xs) ys = further n before xs ys (item.Pushed stream message) (sent-append n (before ++ item.Pushed stream message ∷ []) xs ys)
sent-append n before (item.Delivered stream ∷ xs) ys = further n before xs ys (item.Delivered stream) (sent-append n (before ++ item.Delivered stream ∷ []) xs ys)
sent-append n before (item.Cut stream ∷ xs) ys = further n before xs ys (item.Cut stream) (sent-append n (before ++ item.Cut stream ∷ []) xs ys)
sent-append n before (item.Taken q ticket message ∷ xs) ys = further n before xs ys (item.Taken q ticket message) (sent-append n (before ++ item.Taken q ticket message ∷ []) xs ys)
sent-append n before (item.Pending q ticket ∷ xs) ys = further n before xs ys (item.Pending q ticket) (sent-append n (before ++ item.Pending q ticket ∷ []) xs ys)
sent-append n before (item.Left q ticket ∷ xs) ys = further n before xs ys (item.Left q ticket) (sent-append n (before ++ item.Left q ticket ∷ []) xs ys)
sent-append n before (item.Expired lease ∷ xs) ys = further n before xs ys (item.Expired lease) (sent-append n (before ++ item.Expired lease ∷ []) xs ys)
sent-append n before (item.Applied member revision ∷ xs) ys = further n before xs ys (item.Applied member revision) (sent-append n (before ++ item.Applied member revision ∷ []) xs ys)
sent-append n before (item.Reply q ticket a ∷ xs) ys = further n before xs ys (item.Reply q ticket a) (sent-append n (before ++ item.Reply q ticket a ∷ []) xs ys)
sent-append n before (item.Body q ticket status text ∷ xs) ys = further n before xs ys (item.Body q ticket status text) (sent-append n (before ++ item.Body q ticket status text ∷ []) xs ys)

pub calls-append : (xs ys : List Item) → calls_sent (xs ++ ys) ≡ calls_sent xs + calls_sent ys
calls-append xs ys = ap length (filter-append is_sending xs ys) ∙ length-append (filter is_sending xs) (filter is_sending ys)

pub streams-append : (xs ys : List Item) → streams_opened (xs ++ ys) ≡ streams_opened xs + streams_opened ys
streams-append xs ys = ap length (filter-append is_opening xs ys) ∙ length-append (filter is_opening xs) (filter is_opening ys)
