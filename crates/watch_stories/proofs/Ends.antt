-- A watch that was given a cancellation had its next revision below the compaction.
use Rattle.std.proofs.Common.{◌≡◌, ℕ, ◌<◌, List, ◌∷◌, [], ◌++◌, sym, ◌∙◌, subst}
use Rattle.etcd_types.specs.declared.record.Header.{Header}
use Rattle.etcd_types.specs.declared.request.WatchAsk.{WatchAsk}
use Rattle.etcd_types.specs.declared.watch.WatchItem.{WatchItem}
use Rattle.etcd_types.specs.declared.watch.WatchItem.TheVariants.{Canceled}
use Rattle.held_laws.proofs.Places.{taken_of}
use Rattle.script_text.specs.declared.item.Item.{Item}
use Rattle.watch_stories.specs.Stories.{Spot, joins, waits, member, apart, over, Point, Hears, creates, gives, splits, ends, leaves, breaks_off, Goes, rests, hears, cuts, opens, takes, Story, asks, goes, seats, expects, merges, stands}
use Rattle.watch_stories.proofs.Points.{AreUpTo}
use Rattle.watch_stories.proofs.Scripts.{IsStory}

over_is : (g h : Header) (c d : ℕ) → over g c ≡ over h d → c ≡ d
over_is g h c d e = cc

abbrev Ends : Point → Type 0
Ends x = (h : Header) (c : ℕ) → x.spot ≡ over h c → x.next < c

hears_ends : (namespace : List ℕ) (ask : WatchAsk) (items : List Item) (before behind n : ℕ) (x : Point) (m : WatchItem) (y : Point) → x.spot ≡ member n → Hears namespace ask items before behind x m y → Ends y
hears_ends namespace ask items before behind n x _ _ spot (creates g may) h c e = absurd (let no : member n ≡ over h c = sym spot ∙ e in cc)
hears_ends namespace ask items before behind n x _ _ spot (gives g es us f) h c e = absurd (let no : member n ≡ over h c = sym spot ∙ e in cc)
hears_ends namespace ask items before behind n x _ _ spot (splits g es us f some) h c e = absurd (let no : apart ≡ over h c = e in cc)
hears_ends namespace ask items before behind n x _ _ spot (ends g d below) h c e = subst (λ (k : ℕ). x.next < k) (over_is g h d c e) below
hears_ends namespace ask items before behind n x _ _ spot (leaves g d above) h c e = absurd (let no : joins ≡ over h c = e in cc)
hears_ends namespace ask items before behind n x _ _ spot (breaks_off m f) h c e = absurd (let no : waits ≡ over h c = e in cc)

goes_ends : (namespace : List ℕ) (p ticket : ℕ) (ask : WatchAsk) (items now : List Item) (x : Point) (i : Item) (y : Point) → Ends x → Goes namespace p ticket ask items now x i y → Ends y
goes_ends namespace p ticket ask items now x _ _ k (rests i a b) h c e = k h c e
goes_ends namespace p ticket ask items now x _ _ k (hears n m y spot next hear) h c e = hears_ends namespace ask now _ _ n x m y spot hear h c e
goes_ends namespace p ticket ask items now x _ _ k (cuts n spot) h c e = absurd (let no : waits ≡ over h c = e in cc)
goes_ends namespace p ticket ask items now x _ _ k (opens i n spot is over_it behind) h c e = absurd (let no : member n ≡ over h c = e in cc)
goes_ends namespace p ticket ask items now x _ _ k (takes m spot) h c e = absurd (let no : joins ≡ over h c = e in cc)

story_ends : (namespace : List ℕ) (p ticket : ℕ) (ask : WatchAsk) (items : List Item) (x : Point) → Story namespace p ticket ask items x → Ends x
story_ends namespace p ticket ask _ _ (asks items) h c e = absurd (let no : joins ≡ over h c = e in cc)
story_ends namespace p ticket ask _ _ (goes items i x y s b g) h c e = goes_ends namespace p ticket ask items (items ++ i ∷ []) x i y (story_ends namespace p ticket ask items x s) g h c e
story_ends namespace p ticket ask _ _ (seats items n x s spot over_it behind may) h c e = absurd (let no : member n ≡ over h c = e in cc)
story_ends namespace p ticket ask _ _ (expects items next x s spot behind may) h c e = absurd (let no : waits ≡ over h c = e in cc)
story_ends namespace p ticket ask _ _ (merges items n m x s spot over_it same) h c e = absurd (let no : member m ≡ over h c = e in cc)
story_ends namespace p ticket ask _ _ (stands items n x s spot some) h c e = absurd (let no : member n ≡ over h c = sym spot ∙ e in cc)

-- so what was taken before lies below it
pub record IsBelow (p ticket : ℕ) (items : List Item) (i : WatchItem) (c : ℕ) : Type 0 where
  pub next : ℕ
  pub below : next < c
  pub bounded : AreUpTo next (taken_of p items ticket ++ i ∷ [])

pub cancelled_below : (namespace : List ℕ) (p ticket : ℕ) (items : List Item) (h : Header) (c : ℕ) → IsStory namespace p ticket items (Canceled h c) → IsBelow p ticket items (Canceled h c) c
cancelled_below namespace p ticket items h c s = record { next = s.0.point.next; below = story_ends namespace p ticket s.0.ask items s.0.point s.0.story h c s.0.shows; bounded = s.1 }
