-- What the items of a line do to the stories of a proxy's watches, where they are of none of its streams.
use Rattle.std.proofs.Common.{◌≡◌, ℕ, zero, suc, ◌+◌, ◌-◌, Bool, true, false, cond, ◌==◌, List, [], ◌∷◌, ◌++◌, append-nil, append_assoc, slice_get, None, Some, refl, ap, sym, subst, ◌∙◌, arith}
use Rattle.std.proofs.lemmas.Bool.Decides.{nat_tests}
use Rattle.std.specs.Prelude.{flat_map}
use Rattle.std.specs.BTreeSet.{BTreeSet}
use Rattle.etcd_types.specs.declared.answer.Answer.{Answer}
use Rattle.etcd_types.specs.declared.watch.WatchItem.{WatchItem}
use Rattle.script_text.specs.declared.item.Item.{Item}
use Rattle.script_text.specs.declared.item.Item.TheVariants as item
use Rattle.watch_model.specs.Lookups.{place_stream, stream_at}
use Rattle.watch_model.specs.State.{Stream, Watch}
use Rattle.watch_laws.proofs.Seating.{each_along}
use Rattle.world_model.specs.Gains.{Replies, body_if, line_if, reply_items}
use Rattle.world_model.specs.Lives.{begins}
use Rattle.world_model.specs.Places.{nth, with_nth, is_among}
use Rattle.world_model.specs.State.{OpenedStream}
use Rattle.held_laws.proofs.Items.{IsSilent, life_still}
use Rattle.held_laws.proofs.Kept.{nth_itself, nth_other}
use Rattle.watch_stories.specs.Stories.{Spot, concerns}
use Rattle.watch_stories.proofs.Facts.{View, later, IsOfWorld, mute_open, Goes, open_goes}
use Rattle.watch_stories.proofs.Items.{IsMute}
use Rattle.watch_stories.proofs.Points.{Has, rest_has}
use Rattle.watch_stories.proofs.Touching.{Both}

-- ---- items by which no watch of the proxy goes on

pub record IsQuiet (q : ℕ) (i : Item) : Type 0 where
  pub silent : IsSilent q (i ∷ [])
  pub goes_on : begins q i ≡ false
  pub apart : (s : Spot) → concerns i s ≡ false
  pub mute : IsMute (i ∷ [])

abbrev pub AreQuiet : ℕ → List Item → Type 0
AreQuiet q [] = Unit {0}
AreQuiet q (i ∷ is) = IsQuiet q i × AreQuiet q is

pub quiet-append : (q : ℕ) (xs ys : List Item) → AreQuiet q xs → AreQuiet q ys → AreQuiet q (xs ++ ys)
quiet-append q [] ys h k = k
quiet-append q (x ∷ xs) ys h k = (h.0, quiet-append q xs ys h.1 k)

reply_one : (q p ticket : ℕ) (a : Answer) → IsQuiet q (item.Reply p ticket a)
reply_one q p ticket a = record { silent = record { takes = λ t. refl; lives = λ l. refl }; goes_on = refl; apart = λ s. refl; mute = record { pushes = λ n. refl; delivers_none = λ n. refl } }

body_quiet : (q : ℕ) (b : Bool) (p ticket : ℕ) (a : Answer) → AreQuiet q (body_if b p ticket a)
body_quiet q false p ticket a = tt
body_quiet q true p ticket a = (record { silent = record { takes = λ t. refl; lives = λ l. refl }; goes_on = refl; apart = λ s. refl; mute = record { pushes = λ n. refl; delivers_none = λ n. refl } }, tt)

pub line_quiet : (q : ℕ) (b : Bool) (p ticket : ℕ) (i : WatchItem) → AreQuiet q (line_if b p ticket i)
line_quiet q false p ticket i = tt
line_quiet q true p ticket i = (record { silent = record { takes = λ t. refl; lives = λ l. refl }; goes_on = refl; apart = λ s. refl; mute = record { pushes = λ n. refl; delivers_none = λ n. refl } }, tt)

pub reply_quiet : (q p : ℕ) (posted : BTreeSet ℕ) (r : ℕ × Answer) → AreQuiet q (reply_items p posted r)
reply_quiet q p posted r = (reply_one q p r.0 r.1, body_quiet q (is_among posted r.0) p r.0 r.1)

pub replies_quiet : (q p : ℕ) (posted : BTreeSet ℕ) (got : Replies) → AreQuiet q (flat_map (reply_items p posted) got)
replies_quiet q p posted [] = tt
replies_quiet q p posted (r ∷ got) = quiet-append q (reply_items p posted r) (flat_map (reply_items p posted) got) (reply_quiet q p posted r) (replies_quiet q p posted got)

rest_one : (v : View) (streams : List OpenedStream) (ss : List Stream) (ws : List Watch) (i : Item) → IsQuiet v.proxy i → Both v streams ss ws → Both (later v (i ∷ [])) streams ss ws
rest_one v streams ss ws i q h = record {
  known = mute_open v streams (i ∷ []) ss (life_still v.proxy v.items (i ∷ []) q.silent) q.mute h.known;
  watches =
      each_along (λ w. Has v (place_stream ss w.place) w) (λ w. Has (later v (i ∷ [])) (place_stream ss w.place) w)
      (λ w k. rest_has v i (place_stream ss w.place) w q.silent q.goes_on k (q.apart k.point.spot)) ws h.watches;
}

abbrev pub with_items : View → List Item → View
with_items v items = record v { items = items }

pub rest_both : (v : View) (streams : List OpenedStream) (ss : List Stream) (ws : List Watch) (more : List Item) → AreQuiet v.proxy more → Both v streams ss ws → Both (later v more) streams ss ws
rest_both v streams ss ws [] q h = subst (λ (l : List Item). Both (with_items v l) streams ss ws) (sym (append-nil v.items)) (again h)
  where
    again : Both v streams ss ws → Both (with_items v v.items) streams ss ws
    again h = h
rest_both v streams ss ws (i ∷ is) q h =
    subst (λ (l : List Item). Both (with_items v l) streams ss ws) (append_assoc v.items (i ∷ []) is) (rest_both (later v (i ∷ [])) streams ss ws is q.1 (rest_one v streams ss ws i q.0 h))

-- ---- the world's streams change

pub both_goes : (v : View) (streams after : List OpenedStream) (ss : List Stream) (ws : List Watch) → ((own : ℕ) (t : Stream) (h : IsOfWorld v streams own t) → stream_at own ss ≡ Some t → Goes h.world after h.its.number)
    → Both v streams ss ws → Both v after ss ws
both_goes v streams after ss ws g h = record { known = open_goes v streams after ss g h.known; watches = h.watches }

pub nth_more : (xs ys : List OpenedStream) (n : ℕ) (z : OpenedStream) → nth xs n ≡ Some z → nth (xs ++ ys) n ≡ Some z
nth_more xs ys n z e = by (n == 0) e
  where
    get_more : (xs : List OpenedStream) (k : ℕ) → slice_get xs k ≡ Some z → slice_get (xs ++ ys) k ≡ Some z
    get_more [] k e = absurd (cc)
    get_more (x ∷ xs) zero e = e
    get_more (x ∷ xs) (suc k) e = get_more xs k e

    by : (b : Bool) → cond b None (slice_get xs (n - 1)) ≡ Some z → cond b None (slice_get (xs ++ ys) (n - 1)) ≡ Some z
    by true e = absurd (cc)
    by false e = get_more xs (n - 1) e

-- one more is opened
pub goes_push : (xs ys : List OpenedStream) (n : ℕ) (old : OpenedStream) → nth xs n ≡ Some old → Goes old (xs ++ ys) n
goes_push xs ys n old e = record { stream = old; there = nth_more xs ys n old e; own = refl; proxy = refl; live = λ l. (l, refl) }

equal : (a b : ℕ) → (a == b) ≡ true → a ≡ b
equal a b e = grind (arith, nat_tests)

some_world : (a b : OpenedStream) → Some a ≡ Some b → a ≡ b
some_world a b e = cc

-- one ends
pub goes_ended : (xs : List OpenedStream) (k n : ℕ) (s old : OpenedStream) → nth xs k ≡ Some s → nth xs n ≡ Some old → Goes old (with_nth xs k (record s { waiting = []; ended = true })) n
goes_ended xs k n s old e f = by (n == k) refl
  where
    t : OpenedStream
    t = record s { waiting = []; ended = true }

    by : (b : Bool) → (n == k) ≡ b → Goes old (with_nth xs k t) n
    by true q =
        let same : n ≡ k = equal n k q in
        let one : s ≡ old = some_world s old (sym e ∙ ap (nth xs) (sym same) ∙ f) in
        record {
          stream = t;
          there = ap (nth (with_nth xs k t)) same ∙ nth_itself xs k s t e;
          own = ap (λ (x : OpenedStream). x.own) one;
          proxy = ap (λ (x : OpenedStream). x.proxy) one;
          live = λ l. absurd (cc);
        }
    by false q = record { stream = old; there = nth_other xs k n s t e q ∙ f; own = refl; proxy = refl; live = λ l. (l, refl) }

-- another one changes
pub goes_other : (xs : List OpenedStream) (k n : ℕ) (s t old : OpenedStream) → nth xs k ≡ Some s → nth xs n ≡ Some old → (n == k) ≡ false → Goes old (with_nth xs k t) n
goes_other xs k n s t old e f q = record { stream = old; there = nth_other xs k n s t e q ∙ f; own = refl; proxy = refl; live = λ l. (l, refl) }
