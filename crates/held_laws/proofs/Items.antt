-- What the items of a line tell of a proxy's life: nothing of what was taken, unless a message is taken, and no start, unless it is one.
use Rattle.std.proofs.Common.{◌≡◌, ℕ, ◌==◌, Bool, true, false, cond, ◌&&◌, List, [], ◌∷◌, ◌++◌, Option, None, Some, refl, ap, sym, ◌∙◌, append-nil, append_assoc}
use Rattle.std.specs.Prelude.{flat_map}
use Rattle.std.specs.BTreeSet.{BTreeSet}
use Rattle.etcd_types.specs.declared.answer.Answer.{Answer}
use Rattle.etcd_types.specs.declared.request.Request.{Request}
use Rattle.etcd_types.specs.declared.watch.Event.{Event}
use Rattle.etcd_types.specs.declared.watch.WatchItem.{WatchItem}
use Rattle.script_text.specs.declared.item.Item.{Item}
use Rattle.script_text.specs.declared.item.Item.TheVariants as item
use Rattle.watch_model.specs.Queues.{item_events, queued_events}
use Rattle.world_model.specs.Gains.{Replies, body_if, line_if, reply_items}
use Rattle.world_model.specs.Lives.{begins, life_from, life, asked_as}
use Rattle.world_model.specs.Places.{is_among}
use Rattle.world_model.specs.Received.{taken_by, taken_for}

-- ---- lists of items one behind the other

pub life-append : (p : ℕ) (so_far xs ys : List Item) → life_from p so_far (xs ++ ys) ≡ life_from p (life_from p so_far xs) ys
life-append p so_far [] ys = refl
life-append p so_far (i ∷ xs) ys =
    elim (begins p i) as (λ b. cond b (life_from p [] (xs ++ ys)) (life_from p (so_far ++ i ∷ []) (xs ++ ys)) ≡ life_from p (cond b (life_from p [] xs) (life_from p (so_far ++ i ∷ []) xs)) ys) [
      | true ↦ life-append p [] xs ys
      | false ↦ life-append p (so_far ++ i ∷ []) xs ys
    ]

pub taken-append : (p ticket : ℕ) (xs ys : List Item) → taken_for p ticket (xs ++ ys) ≡ taken_for p ticket xs ++ taken_for p ticket ys
taken-append p ticket [] ys = refl
taken-append p ticket (i ∷ xs) ys =
    ap (λ (l : List WatchItem). taken_by p ticket i ++ l) (taken-append p ticket xs ys) ∙ sym (append_assoc (taken_by p ticket i) (taken_for p ticket xs) (taken_for p ticket ys))

pub queued-append : (xs ys : List WatchItem) → queued_events (xs ++ ys) ≡ queued_events xs ++ queued_events ys
queued-append [] ys = refl
queued-append (i ∷ xs) ys = ap (λ (l : List Event). item_events i ++ l) (queued-append xs ys) ∙ sym (append_assoc (item_events i) (queued_events xs) (queued_events ys))

-- what is asked of one item
abbrev pub asked_by : ℕ → ℕ → Item → Option Request
asked_by p ticket (item.Asked q t r) = cond (q == p && t == ticket) (Some r) None
asked_by p ticket _ = None

abbrev pub or_later : Option Request → Option Request → Option Request
or_later (Some r) o = Some r
or_later None o = o

asked_first : (p ticket : ℕ) (i : Item) (items : List Item) → asked_as p ticket (i ∷ items) ≡ or_later (asked_by p ticket i) (asked_as p ticket items)
asked_first p ticket (item.Asked q t r) items =
    elim (q == p && t == ticket) as (λ b. cond b (Some r) (asked_as p ticket items) ≡ or_later (cond b (Some r) None) (asked_as p ticket items)) [ true ↦ refl | false ↦ refl ]
asked_first p ticket (item.World m n l) items = refl
asked_first p ticket (item.Started q) items = refl
asked_first p ticket (item.Restarted q) items = refl
asked_first p ticket (item.Clock q m) items = refl
asked_first p ticket (item.Posted q t a b) items = refl
asked_first p ticket (item.Ticked q) items = refl
asked_first p ticket (item.Sent q c m t r) items = refl
asked_first p ticket (item.Opened q c m r) items = refl
asked_first p ticket (item.Closed q c) items = refl
asked_first p ticket (item.Executed c a) items = refl
asked_first p ticket (item.Answered c) items = refl
asked_first p ticket (item.Lost c) items = refl
asked_first p ticket (item.Reply q t a) items = refl
asked_first p ticket (item.Body q t s b) items = refl
asked_first p ticket (item.Pushed s i) items = refl
asked_first p ticket (item.Delivered s) items = refl
asked_first p ticket (item.Cut s) items = refl
asked_first p ticket (item.Taken q t i) items = refl
asked_first p ticket (item.Pending q t) items = refl
asked_first p ticket (item.Left q t) items = refl
asked_first p ticket (item.Expired l) items = refl
asked_first p ticket (item.Applied m r) items = refl

or_assoc : (a b c : Option Request) → or_later (or_later a b) c ≡ or_later a (or_later b c)
or_assoc None b c = refl
or_assoc (Some r) b c = refl

pub asked-append : (p ticket : ℕ) (xs ys : List Item) → asked_as p ticket (xs ++ ys) ≡ or_later (asked_as p ticket xs) (asked_as p ticket ys)
asked-append p ticket [] ys = refl
asked-append p ticket (i ∷ xs) ys =
    asked_first p ticket i (xs ++ ys) ∙ ap (or_later (asked_by p ticket i)) (asked-append p ticket xs ys) ∙ sym (or_assoc (asked_by p ticket i) (asked_as p ticket xs) (asked_as p ticket ys))
    ∙ ap (λ o. or_later o (asked_as p ticket ys)) (sym (asked_first p ticket i xs))

-- what was asked once stays so
pub asked_still : (p ticket : ℕ) (xs ys : List Item) (r : Request) → asked_as p ticket xs ≡ Some r → asked_as p ticket (xs ++ ys) ≡ Some r
asked_still p ticket xs ys r e = asked-append p ticket xs ys ∙ ap (λ o. or_later o (asked_as p ticket ys)) e

-- ---- items that tell nothing of a proxy's life

pub record IsSilent (p : ℕ) (items : List Item) : Type 0 where
  pub takes : (ticket : ℕ) → taken_for p ticket items ≡ []
  pub lives : (so_far : List Item) → life_from p so_far items ≡ so_far ++ items

pub silent : (p : ℕ) → IsSilent p []
silent p = record { takes = λ t. refl; lives = λ l. sym (append-nil l) }

pub silent-append : (p : ℕ) (xs ys : List Item) → IsSilent p xs → IsSilent p ys → IsSilent p (xs ++ ys)
silent-append p xs ys h k = record {
  takes = λ t. taken-append p t xs ys ∙ (λ i. h.takes t i ++ k.takes t i);
  lives = λ l. life-append p l xs ys ∙ ap (λ (m : List Item). life_from p m ys) (h.lives l) ∙ k.lives (l ++ xs) ∙ append_assoc l xs ys;
}

body_silent : (q : ℕ) (b : Bool) (p ticket : ℕ) (a : Answer) → IsSilent q (body_if b p ticket a)
body_silent q false p ticket a = silent q
body_silent q true p ticket a = record { takes = λ t. refl; lives = λ l. refl }

pub reply_silent : (q p : ℕ) (posted : BTreeSet ℕ) (r : ℕ × Answer) → IsSilent q (reply_items p posted r)
reply_silent q p posted r = silent-append q (item.Reply p r.0 r.1 ∷ []) _ (record { takes = λ t. refl; lives = λ l. refl }) (body_silent q (is_among posted r.0) p r.0 r.1)

pub replies_silent : (q p : ℕ) (posted : BTreeSet ℕ) (got : Replies) → IsSilent q (flat_map (reply_items p posted) got)
replies_silent q p posted [] = silent q
replies_silent q p posted (r ∷ got) = silent-append q (reply_items p posted r) _ (reply_silent q p posted r) (replies_silent q p posted got)

pub line_silent : (q : ℕ) (b : Bool) (p ticket : ℕ) (i : WatchItem) → IsSilent q (line_if b p ticket i)
line_silent q false p ticket i = silent q
line_silent q true p ticket i = record { takes = λ t. refl; lives = λ l. refl }

-- what is behind silent items
pub life_still : (p : ℕ) (before items : List Item) → IsSilent p items → life p (before ++ items) ≡ life p before ++ items
life_still p before items h = life-append p [] before items ∙ h.lives (life p before)

pub taken_still : (p ticket : ℕ) (before items : List Item) → IsSilent p items → taken_for p ticket (life p (before ++ items)) ≡ taken_for p ticket (life p before)
taken_still p ticket before items h =
    ap (taken_for p ticket) (life_still p before items h) ∙ taken-append p ticket (life p before) items ∙ ap (λ (l : List WatchItem). taken_for p ticket (life p before) ++ l) (h.takes ticket) ∙ append-nil (taken_for p ticket (life p before))

-- ---- items that ask nothing at a proxy

abbrev pub IsUnasking : ℕ → List Item → Type 0
IsUnasking p items = (ticket : ℕ) → asked_as p ticket items ≡ None

pub unasking-append : (p : ℕ) (xs ys : List Item) → IsUnasking p xs → IsUnasking p ys → IsUnasking p (xs ++ ys)
unasking-append p xs ys h k ticket = asked-append p ticket xs ys ∙ ap (λ o. or_later o (asked_as p ticket ys)) (h ticket) ∙ k ticket

body_unasking : (q : ℕ) (b : Bool) (p ticket : ℕ) (a : Answer) → IsUnasking q (body_if b p ticket a)
body_unasking q false p ticket a t = refl
body_unasking q true p ticket a t = refl

pub reply_unasking : (q p : ℕ) (posted : BTreeSet ℕ) (r : ℕ × Answer) → IsUnasking q (reply_items p posted r)
reply_unasking q p posted r = unasking-append q (item.Reply p r.0 r.1 ∷ []) (body_if (is_among posted r.0) p r.0 r.1) (λ t. refl) (body_unasking q (is_among posted r.0) p r.0 r.1)

pub replies_unasking : (q p : ℕ) (posted : BTreeSet ℕ) (got : Replies) → IsUnasking q (flat_map (reply_items p posted) got)
replies_unasking q p posted [] = λ t. refl
replies_unasking q p posted (r ∷ got) = unasking-append q (reply_items p posted r) (flat_map (reply_items p posted) got) (reply_unasking q p posted r) (replies_unasking q p posted got)

pub line_unasking : (q : ℕ) (b : Bool) (p ticket : ℕ) (i : WatchItem) → IsUnasking q (line_if b p ticket i)
line_unasking q false p ticket i t = refl
line_unasking q true p ticket i t = refl

-- what was asked behind them
pub asked_same : (p ticket : ℕ) (before items : List Item) → IsSilent p items → IsUnasking p items → asked_as p ticket (life p (before ++ items)) ≡ asked_as p ticket (life p before)
asked_same p ticket before items h k =
    ap (asked_as p ticket) (life_still p before items h) ∙ asked-append p ticket (life p before) items ∙ ap (or_later (asked_as p ticket (life p before))) (k ticket) ∙ none_later (asked_as p ticket (life p before))
  where
    none_later : (o : Option Request) → or_later o None ≡ o
    none_later None = refl
    none_later (Some r) = refl
