-- The watches that a cancelled stream leaves over, one after another: those that went already, and those behind them.
use Rattle.std.proofs.Common.{◌≡◌, ℕ, zero, suc, ◌+◌, ◌≤◌, ◌<◌, List, [], ◌∷◌, ◌++◌, map, take, drop, set, get_or, length, refl, ap, sym, subst, ◌∙◌, arith}
use Rattle.std.proofs.lemmas.List.Sums.{sum_by-cons}
use Rattle.watch_model.specs.State.{Stream, Watch}
use Rattle.watch_model.specs.Cuts.{Left, goes_on}
use Rattle.watch_queue.specs.declared.leaving.Cancellation.{Cancellation}
use Rattle.watch_queue.specs.declared.watching.Watching.{Watching}
use Rattle.watch_queue.specs.Watching.{shown}
use Rattle.watch_queue.specs.Leaving.{IsReady, AllReady}
use Rattle.watch_merge.specs.Leavings.{watch_left, watches_left, seats_for, seats}

abbrev pub with_front : List Watch → Left → Left
with_front ws l = record l { watches = ws ++ l.watches }

-- so many of the watches went: ss are the streams then, and g the numbers given
abbrev pub left_at : Cancellation → ℕ → List Stream → ℕ → ℕ → List Watching → Left
left_at c step ss g at ws = with_front (map shown (take at ws)) (watches_left c step ss g (map shown (drop at ws)))

pub one_left : (c : Cancellation) (step : ℕ) (x : Watching) (ss us : List Stream) (g m at : ℕ) (ws : List Watching) (y : Watching) → at < length ws → y ≡ get_or ws at y
    → watch_left c step ss g (shown y) ≡ record { streams = us; given = m; watch = shown x } → left_at c step ss g at ws ≡ left_at c step us m (suc at) (set ws at x)
one_left c step x ss us g m at [] y l e h = absurd (omega arith)
one_left c step x ss us g m zero (w ∷ ws) y l e h = ap (goes_on (λ us m. watches_left c step us m (map shown ws))) (ap (λ (v : Watching). watch_left c step ss g (shown v)) (sym e) ∙ h)
one_left c step x ss us g m (suc at) (w ∷ ws) y l e h = ap (with_front (shown w ∷ [])) (one_left c step x ss us g m at ws y (omega arith) e h)

pub all_left : (c : Cancellation) (step : ℕ) (ss : List Stream) (g at : ℕ) (ws : List Watching) → length ws ≤ at → left_at c step ss g at ws ≡ record { streams = ss; given = g; watches = map shown ws }
all_left c step ss g zero [] l = refl
all_left c step ss g (suc at) [] l = refl
all_left c step ss g zero (w ∷ ws) l = absurd (omega arith)
all_left c step ss g (suc at) (w ∷ ws) l = ap (with_front (shown w ∷ [])) (all_left c step ss g at ws (omega arith))

pub ready_here : (c : Cancellation) (at : ℕ) (ws : List Watching) (y : Watching) → at < length ws → y ≡ get_or ws at y → AllReady c (drop at ws) → IsReady c y
ready_here c at [] y l e h = absurd (omega arith)
ready_here c zero (w ∷ ws) y l e h = subst (λ (v : Watching). IsReady c v) (sym e) h.0
ready_here c (suc at) (w ∷ ws) y l e h = ready_here c at ws y (omega arith) e h

pub ready_behind : (c : Cancellation) (at : ℕ) (ws : List Watching) (x : Watching) → AllReady c (drop at ws) → AllReady c (drop (suc at) (set ws at x))
ready_behind c zero [] x h = tt
ready_behind c (suc at) [] x h = tt
ready_behind c zero (w ∷ ws) x h = h.1
ready_behind c (suc at) (w ∷ ws) x h = ready_behind c at ws x h

pub same_length : (at : ℕ) (ws : List Watching) (x : Watching) → length (set ws at x) ≡ length ws
same_length zero [] x = refl
same_length (suc at) [] x = refl
same_length zero (w ∷ ws) x = refl
same_length (suc at) (w ∷ ws) x = ap (λ (n : ℕ). suc n) (same_length at ws x)

-- what a loop over the watches keeps
pub record Leaves (c : Cancellation) (step given : ℕ) (first : List Stream) (all : List Watching) (ss : List Stream) (g at : ℕ) (ws : List Watching) : Type 0 where
  pub left : watches_left c step first given (map shown all) ≡ left_at c step ss g at ws
  pub ready : AllReady c (drop at ws)
  pub size : length ws ≡ length all
  pub numbers : g ≤ given + at

pub leaves_more : (c : Cancellation) (step given : ℕ) (first : List Stream) (all : List Watching) (ss us : List Stream) (g m at n : ℕ) (ws : List Watching) (x y : Watching) → n ≡ suc at → at < length ws → y ≡ get_or ws at y
    → watch_left c step ss g (shown y) ≡ record { streams = us; given = m; watch = shown x } → m ≤ g + 1 → Leaves c step given first all ss g at ws → Leaves c step given first all us m n (set ws at x)
leaves_more c step given first all ss us g m at n ws x y k l e h b i =
    subst (λ (n : ℕ). Leaves c step given first all us m n (set ws at x)) (sym k) (record {
      left = i.left ∙ one_left c step x ss us g m at ws y l e h;
      ready = ready_behind c at ws x i.ready;
      size = same_length at ws x ∙ i.size;
      numbers = let a = i.numbers in omega (arith, a, b);
    })

-- The room for those that join again.

seats_behind : (c : Cancellation) (at : ℕ) (ws : List Watching) (x y : Watching) → at < length ws → y ≡ get_or ws at y → seats c (drop at ws) ≡ seats_for c y + seats c (drop (suc at) (set ws at x))
seats_behind c at [] x y l e = absurd (omega arith)
seats_behind c zero (w ∷ ws) x y l e = sum_by-cons (seats_for c) w ws ∙ ap (λ (v : Watching). seats_for c v + seats c ws) (sym e)
seats_behind c (suc at) (w ∷ ws) x y l e = seats_behind c at ws x y (omega arith) e

pub room_here : (c : Cancellation) (n room at : ℕ) (ws : List Watching) (y : Watching) → at < length ws → y ≡ get_or ws at y → n + seats c (drop at ws) ≤ room → n + seats_for c y ≤ room
room_here c n room at ws y l e r = let s = seats_behind c at ws y y l e in omega (arith, s, r)

pub room_behind : (c : Cancellation) (n m room more at next : ℕ) (ws : List Watching) (x y : Watching) → next ≡ suc at → at < length ws → y ≡ get_or ws at y
    → m ≤ n + seats_for c y → room ≤ more → n + seats c (drop at ws) ≤ room → m + seats c (drop next (set ws at x)) ≤ more
room_behind c n m room more at next ws x y k l e f g r =
    let s = seats_behind c at ws x y l e in
    subst (λ (j : ℕ). m + seats c (drop j (set ws at x)) ≤ more) (sym k) (omega (arith, s, f, g, r))
