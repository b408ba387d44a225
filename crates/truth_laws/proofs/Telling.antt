-- What items tell of the header revisions that proxies are given, one list of items behind another: of calls by whom they were sent and
-- to what they were executed, of streams by whom they were opened, what was pushed into them and what was delivered.
use Rattle.std.proofs.Common.{◌≡◌, ℕ, Bool, true, false, cond, ◌==◌, ◌||◌, List, [], ◌∷◌, ◌++◌, append_assoc, append-nil, filter, Option, None, Some, refl, sym, ◌∙◌, ap}
use Rattle.std.specs.Prelude.{flat_map}
use Rattle.std.specs.BTreeSet.{BTreeSet}
use Rattle.std.proofs.lemmas.List.Elements.{filter-append}
use Rattle.std.proofs.lemmas.List.Folds.{list_any-append}
use Rattle.etcd_types.specs.declared.answer.Answer.{Answer}
use Rattle.etcd_types.specs.declared.watch.WatchItem.{WatchItem}
use Rattle.script_text.specs.declared.item.Item.{Item}
use Rattle.script_text.specs.declared.item.Item.TheVariants as item
use Rattle.world_model.specs.Gains.{Replies, body_if, reply_items, line_if, taken_items}
use Rattle.world_model.specs.Lives.{begins, is_call_of, sent_it, executed_to, is_stream_of, opened_it, pushed_by, pushed_into, delivers}
use Rattle.world_model.specs.Places.{is_among}
use Rattle.world_model.specs.Reads.{given_by, given_from}

-- ---- lists of items one behind the other

abbrev pub or_later : Option Answer → Option Answer → Option Answer
or_later (Some a) o = Some a
or_later None o = o

abbrev executed_by : ℕ → Item → Option Answer
executed_by n (item.Executed call answer) = cond (call == n) (Some answer) None
executed_by n _ = None

executed_first : (n : ℕ) (i : Item) (items : List Item) → executed_to n (i ∷ items) ≡ or_later (executed_by n i) (executed_to n items)
executed_first n (item.Executed call answer) items =
    elim (call == n) as (λ b. cond b (Some answer) (executed_to n items) ≡ or_later (cond b (Some answer) None) (executed_to n items)) [ true ↦ refl | false ↦ refl ]
executed_first n (item.Asked p t r) items = refl
executed_first n (item.World m k l) items = refl
executed_first n (item.Started q) items = refl
executed_first n (item.Restarted q) items = refl
executed_first n (item.Clock q m) items = refl
executed_first n (item.Posted q t a b) items = refl
executed_first n (item.Ticked q) items = refl
executed_first n (item.Sent q c m t r) items = refl
executed_first n (item.Opened q c m r) items = refl
executed_first n (item.Closed q c) items = refl
executed_first n (item.Answered c) items = refl
executed_first n (item.Lost c) items = refl
executed_first n (item.Reply q t a) items = refl
executed_first n (item.Body q t s b) items = refl
executed_first n (item.Pushed s i) items = refl
executed_first n (item.Delivered s) items = refl
executed_first n (item.Cut s) items = refl
executed_first n (item.Taken q t i) items = refl
executed_first n (item.Pending q t) items = refl
executed_first n (item.Left q t) items = refl
executed_first n (item.Expired l) items = refl
executed_first n (item.Applied m r) items = refl

or_assoc : (a b c : Option Answer) → or_later (or_later a b) c ≡ or_later a (or_later b c)
or_assoc None b c = refl
or_assoc (Some r) b c = refl

pub executed-append : (n : ℕ) (xs ys : List Item) → executed_to n (xs ++ ys) ≡ or_later (executed_to n xs) (executed_to n ys)
executed-append n [] ys = refl
executed-append n (i ∷ xs) ys =
    executed_first n i (xs ++ ys) ∙ ap (or_later (executed_by n i)) (executed-append n xs ys) ∙ sym (or_assoc (executed_by n i) (executed_to n xs) (executed_to n ys))
    ∙ ap (λ o. or_later o (executed_to n ys)) (sym (executed_first n i xs))

pub pushed-append : (n : ℕ) (xs ys : List Item) → pushed_into n (xs ++ ys) ≡ pushed_into n xs ++ pushed_into n ys
pushed-append n [] ys = refl
pushed-append n (i ∷ xs) ys = ap (λ (l : List WatchItem). pushed_by n i ++ l) (pushed-append n xs ys) ∙ sym (append_assoc (pushed_by n i) (pushed_into n xs) (pushed_into n ys))

pub given-append : (p : ℕ) (before xs ys : List Item) (so_far : List ℕ) → given_from p before so_far (xs ++ ys) ≡ given_from p (before ++ xs) (given_from p before so_far xs) ys
given-append p before [] ys so_far = ap (λ (b : List Item). given_from p b so_far ys) (sym (append-nil before))
given-append p before (i ∷ xs) ys so_far =
    let next = cond (begins p i) [] (so_far ++ given_by p before i) in
    given-append p (before ++ i ∷ []) xs ys next ∙ ap (λ (b : List Item). given_from p b (given_from p (before ++ i ∷ []) next xs) ys) (append_assoc before (i ∷ []) xs)

-- ---- items that tell nothing of these

pub record IsMute (items : List Item) : Type 0 where
  pub sent : (p n : ℕ) → sent_it p n items ≡ false
  pub executed : (n : ℕ) → executed_to n items ≡ None
  pub opened : (p n : ℕ) → opened_it p n items ≡ false
  pub pushed : (n : ℕ) → pushed_into n items ≡ []
  pub delivered : (n : ℕ) → filter (delivers n) items ≡ []

-- nor give any
pub record TellsNothing (items : List Item) : Type 0 where
  pub mute : IsMute items
  pub gives : (p : ℕ) (before : List Item) (so_far : List ℕ) → given_from p before so_far items ≡ so_far

mute : IsMute []
mute = record { sent = λ p n. refl; executed = λ n. refl; opened = λ p n. refl; pushed = λ n. refl; delivered = λ n. refl }

pub nothing_told : TellsNothing []
nothing_told = record { mute = mute; gives = λ p b s. refl }

pub mute-append : (xs ys : List Item) → IsMute xs → IsMute ys → IsMute (xs ++ ys)
mute-append xs ys h k = record {
  sent = λ p n. list_any-append (is_call_of p n) xs ys ∙ ap (λ b. b || sent_it p n ys) (h.sent p n) ∙ k.sent p n;
  executed = λ n. executed-append n xs ys ∙ ap (λ o. or_later o (executed_to n ys)) (h.executed n) ∙ k.executed n;
  opened = λ p n. list_any-append (is_stream_of p n) xs ys ∙ ap (λ b. b || opened_it p n ys) (h.opened p n) ∙ k.opened p n;
  pushed = λ n. pushed-append n xs ys ∙ ap (λ (l : List WatchItem). l ++ pushed_into n ys) (h.pushed n) ∙ k.pushed n;
  delivered = λ n. filter-append (delivers n) xs ys ∙ ap (λ (l : List Item). l ++ filter (delivers n) ys) (h.delivered n) ∙ k.delivered n;
}

pub nothing-append : (xs ys : List Item) → TellsNothing xs → TellsNothing ys → TellsNothing (xs ++ ys)
nothing-append xs ys h k = record {
  mute = mute-append xs ys h.mute k.mute;
  gives = λ p b s. given-append p b xs ys s ∙ k.gives p (b ++ xs) (given_from p b s xs) ∙ h.gives p b s;
}

pub answered_mute : (number : ℕ) → IsMute (item.Answered number ∷ [])
answered_mute number = record { sent = λ p n. refl; executed = λ n. refl; opened = λ p n. refl; pushed = λ n. refl; delivered = λ n. refl }

pub started_mute : (p : ℕ) → IsMute (item.Started p ∷ [])
started_mute p = record { sent = λ p n. refl; executed = λ n. refl; opened = λ p n. refl; pushed = λ n. refl; delivered = λ n. refl }

pub restarted_mute : (p : ℕ) → IsMute (item.Restarted p ∷ [])
restarted_mute p = record { sent = λ p n. refl; executed = λ n. refl; opened = λ p n. refl; pushed = λ n. refl; delivered = λ n. refl }

pub ticked_nothing : (p : ℕ) → TellsNothing (item.Ticked p ∷ [])
ticked_nothing p = record { mute = record { sent = λ p n. refl; executed = λ n. refl; opened = λ p n. refl; pushed = λ n. refl; delivered = λ n. refl }; gives = λ p b s. append-nil s }

pub asked_nothing : (p ticket : ℕ) (q : Rattle.etcd_types.specs.declared.request.Request.Request) → TellsNothing (item.Asked p ticket q ∷ [])
asked_nothing p ticket q = record { mute = record { sent = λ p n. refl; executed = λ n. refl; opened = λ p n. refl; pushed = λ n. refl; delivered = λ n. refl }; gives = λ p b s. append-nil s }

pub posted_nothing : (p ticket : ℕ) (path text : List ℕ) → TellsNothing (item.Posted p ticket path text ∷ [])
posted_nothing p ticket path text = record { mute = record { sent = λ p n. refl; executed = λ n. refl; opened = λ p n. refl; pushed = λ n. refl; delivered = λ n. refl }; gives = λ p b s. append-nil s }

pub lost_nothing : (number : ℕ) → TellsNothing (item.Lost number ∷ [])
lost_nothing number = record { mute = record { sent = λ p n. refl; executed = λ n. refl; opened = λ p n. refl; pushed = λ n. refl; delivered = λ n. refl }; gives = λ p b s. append-nil s }

pub cut_nothing : (number : ℕ) → TellsNothing (item.Cut number ∷ [])
cut_nothing number = record { mute = record { sent = λ p n. refl; executed = λ n. refl; opened = λ p n. refl; pushed = λ n. refl; delivered = λ n. refl }; gives = λ p b s. append-nil s }

pub closed_nothing : (p number : ℕ) → TellsNothing (item.Closed p number ∷ [])
closed_nothing p number = record { mute = record { sent = λ p n. refl; executed = λ n. refl; opened = λ p n. refl; pushed = λ n. refl; delivered = λ n. refl }; gives = λ p b s. append-nil s }

pub pending_nothing : (p ticket : ℕ) → TellsNothing (item.Pending p ticket ∷ [])
pending_nothing p ticket = record { mute = record { sent = λ p n. refl; executed = λ n. refl; opened = λ p n. refl; pushed = λ n. refl; delivered = λ n. refl }; gives = λ p b s. append-nil s }

pub left_nothing : (p ticket : ℕ) → TellsNothing (item.Left p ticket ∷ [])
left_nothing p ticket = record { mute = record { sent = λ p n. refl; executed = λ n. refl; opened = λ p n. refl; pushed = λ n. refl; delivered = λ n. refl }; gives = λ p b s. append-nil s }

pub clock_nothing : (p millis : ℕ) → TellsNothing (item.Clock p millis ∷ [])
clock_nothing p millis = record { mute = record { sent = λ p n. refl; executed = λ n. refl; opened = λ p n. refl; pushed = λ n. refl; delivered = λ n. refl }; gives = λ p b s. append-nil s }

pub expired_nothing : (lease : ℕ) → TellsNothing (item.Expired lease ∷ [])
expired_nothing lease = record { mute = record { sent = λ p n. refl; executed = λ n. refl; opened = λ p n. refl; pushed = λ n. refl; delivered = λ n. refl }; gives = λ p b s. append-nil s }

pub applied_nothing : (member revision : ℕ) → TellsNothing (item.Applied member revision ∷ [])
applied_nothing member revision = record { mute = record { sent = λ p n. refl; executed = λ n. refl; opened = λ p n. refl; pushed = λ n. refl; delivered = λ n. refl }; gives = λ p b s. append-nil s }

pub body_nothing : (p ticket status : ℕ) (text : List ℕ) → TellsNothing (item.Body p ticket status text ∷ [])
body_nothing p ticket status text = record { mute = record { sent = λ p n. refl; executed = λ n. refl; opened = λ p n. refl; pushed = λ n. refl; delivered = λ n. refl }; gives = λ p b s. append-nil s }

pub reply_nothing : (p ticket : ℕ) (a : Answer) → TellsNothing (item.Reply p ticket a ∷ [])
reply_nothing p ticket a = record { mute = record { sent = λ p n. refl; executed = λ n. refl; opened = λ p n. refl; pushed = λ n. refl; delivered = λ n. refl }; gives = λ p b s. append-nil s }

message_nothing : (p ticket : ℕ) (i : WatchItem) → TellsNothing (item.Taken p ticket i ∷ [])
message_nothing p ticket i = record { mute = record { sent = λ p n. refl; executed = λ n. refl; opened = λ p n. refl; pushed = λ n. refl; delivered = λ n. refl }; gives = λ p b s. append-nil s }

pub taken_nothing : (p : ℕ) (posted : BTreeSet ℕ) (ticket : ℕ) (i : WatchItem) → TellsNothing (taken_items p posted ticket i)
taken_nothing p posted ticket i = nothing-append (item.Taken p ticket i ∷ []) (line_if (is_among posted ticket) p ticket i) (message_nothing p ticket i) (by (is_among posted ticket))
  where
    by : (b : Bool) → TellsNothing (line_if b p ticket i)
    by false = nothing_told
    by true = body_nothing p ticket 200 _

pub answer_nothing : (p : ℕ) (posted : BTreeSet ℕ) (r : ℕ × Answer) → TellsNothing (reply_items p posted r)
answer_nothing p posted r = nothing-append (item.Reply p r.0 r.1 ∷ []) (body_if (is_among posted r.0) p r.0 r.1) (reply_nothing p r.0 r.1) (by (is_among posted r.0))
  where
    by : (b : Bool) → TellsNothing (body_if b p r.0 r.1)
    by false = nothing_told
    by true = body_nothing p r.0 _ _

pub replies_nothing : (p : ℕ) (posted : BTreeSet ℕ) (rs : Replies) → TellsNothing (flat_map (reply_items p posted) rs)
replies_nothing p posted [] = nothing_told
replies_nothing p posted (r ∷ rs) = nothing-append (reply_items p posted r) (flat_map (reply_items p posted) rs) (answer_nothing p posted r) (replies_nothing p posted rs)
