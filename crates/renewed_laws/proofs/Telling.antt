-- What the items of a line tell of keepalives: each ok reply is right by the items before it.
use Rattle.std.proofs.Common.{ℕ, Bool, true, false, List, [], ◌∷◌, ◌++◌, append_assoc, append-nil, refl, sym, ◌∙◌, subst}
use Rattle.std.specs.Prelude.{flat_map}
use Rattle.std.specs.BTreeSet.{BTreeSet}
use Rattle.etcd_types.specs.declared.answer.Answer.{Answer}
use Rattle.etcd_types.specs.declared.answer.Answer.TheVariants.{Done}
use Rattle.etcd_types.specs.declared.watch.WatchItem.{WatchItem}
use Rattle.script_text.specs.declared.item.Item.{Item}
use Rattle.script_text.specs.declared.item.Item.TheVariants as item
use Rattle.world_model.specs.Gains.{Replies, body_if, line_if, reply_items, taken_items}
use Rattle.world_model.specs.Lives.{life, namespace_of}
use Rattle.world_model.specs.Places.{is_among}
use Rattle.held_laws.proofs.Items.{IsUnasking, reply_silent, reply_unasking}
use Rattle.renewed_laws.specs.Renewals.{KeepalivesRenew}
use Rattle.renewed_laws.proofs.Lives.{Lives, life_on, asked_on}
use Rattle.renewed_laws.proofs.Replies.{ReplyOk, Each}
use Rattle.renewed_laws.proofs.Stories.{renews_on}

-- ---- replies

-- an item, by those before it
abbrev pub TellsOne : List ℕ → List Item → Item → Type 0
TellsOne namespace before (item.Reply p ticket a) = ReplyOk namespace (life p before) p (ticket, a)
TellsOne namespace before _ = Unit {0}

abbrev pub AllTell : List ℕ → List Item → List Item → Type 0
AllTell namespace before [] = Unit {0}
AllTell namespace before (i ∷ items) = TellsOne namespace before i × AllTell namespace (before ++ i ∷ []) items

pub told-append : (namespace : List ℕ) (before xs ys : List Item) → AllTell namespace before xs → AllTell namespace (before ++ xs) ys → AllTell namespace before (xs ++ ys)
told-append namespace before [] ys h k = subst (λ (b : List Item). AllTell namespace b ys) (append-nil before) k
told-append namespace before (x ∷ xs) ys h k =
    (h.0, told-append namespace (before ++ x ∷ []) xs ys h.1 (subst (λ (b : List Item). AllTell namespace b ys) (sym (append_assoc before (x ∷ []) xs)) k))

told-later : (namespace : List ℕ) (before xs ys : List Item) → AllTell namespace before (xs ++ ys) → AllTell namespace (before ++ xs) ys
told-later namespace before [] ys h = subst (λ (b : List Item). AllTell namespace b ys) (sym (append-nil before)) h
told-later namespace before (x ∷ xs) ys h = subst (λ (b : List Item). AllTell namespace b ys) (append_assoc before (x ∷ []) xs) (told-later namespace (before ++ x ∷ []) xs ys h.1)

-- what all items tell is what is to be shown
pub all_renew : (items : List Item) → AllTell (namespace_of items) [] items → KeepalivesRenew items
all_renew items h earlier later p ticket lease reply e asked =
    let there : AllTell (namespace_of items) [] (earlier ++ item.Reply p ticket (Done reply) ∷ later) = subst (AllTell (namespace_of items) []) e h in
    (told-later (namespace_of items) [] earlier (item.Reply p ticket (Done reply) ∷ later) there).0 lease reply refl asked

-- the same reply behind more items of this proxy, by which nothing is asked
reply_on : (namespace : List ℕ) (told more : List Item) (p : ℕ) (r : ℕ × Answer) → IsUnasking p more → ReplyOk namespace told p r → ReplyOk namespace (told ++ more) p r
reply_on namespace told more p r u h lease reply done asked = renews_on namespace told more p r.0 lease reply (h lease reply done (sym (asked_on p r.0 told more u) ∙ asked))

replies_on : (namespace : List ℕ) (before more : List Item) (p : ℕ) → Lives p more → IsUnasking p more → (rs : Replies) → Each (ReplyOk namespace (life p before) p) rs → Each (ReplyOk namespace (life p (before ++ more)) p) rs
replies_on namespace before more p s u [] h = tt
replies_on namespace before more p s u (r ∷ rs) h = (
  subst (λ (told : List Item). ReplyOk namespace told p r) (sym (life_on p before more s)) (reply_on namespace (life p before) more p r u h.0),
  replies_on namespace before more p s u rs h.1,
)

body_tells : (namespace : List ℕ) (before : List Item) (b : Bool) (p ticket : ℕ) (a : Answer) → AllTell namespace before (body_if b p ticket a)
body_tells namespace before false p ticket a = tt
body_tells namespace before true p ticket a = (tt, tt)

pub reply_tells : (namespace : List ℕ) (before : List Item) (p : ℕ) (posted : BTreeSet ℕ) (r : ℕ × Answer) → ReplyOk namespace (life p before) p r → AllTell namespace before (reply_items p posted r)
reply_tells namespace before p posted r h = (h, body_tells namespace (before ++ item.Reply p r.0 r.1 ∷ []) (is_among posted r.0) p r.0 r.1)

pub replies_tell : (namespace : List ℕ) (before : List Item) (p : ℕ) (posted : BTreeSet ℕ) (rs : Replies) → Each (ReplyOk namespace (life p before) p) rs → AllTell namespace before (flat_map (reply_items p posted) rs)
replies_tell namespace before p posted [] h = tt
replies_tell namespace before p posted (r ∷ rs) h =
    told-append namespace before (reply_items p posted r) (flat_map (reply_items p posted) rs) (reply_tells namespace before p posted r h.0)
    (replies_tell namespace (before ++ reply_items p posted r) p posted rs
    (replies_on namespace before (reply_items p posted r) p (reply_silent p p posted r).lives (reply_unasking p p posted r) rs h.1))

pub taken_tell : (namespace : List ℕ) (before : List Item) (p : ℕ) (posted : BTreeSet ℕ) (ticket : ℕ) (i : WatchItem) → AllTell namespace before (taken_items p posted ticket i)
taken_tell namespace before p posted ticket i = (tt, by (is_among posted ticket))
  where
    by : (b : Bool) → AllTell namespace (before ++ item.Taken p ticket i ∷ []) (line_if b p ticket i)
    by false = tt
    by true = (tt, tt)
