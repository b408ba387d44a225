-- What is noted of a watch stays true where revisions come or are compacted, and tells where it may be read from.
use Rattle.std.proofs.Common.{◌≡◌, ℕ, zero, suc, ◌+◌, ◌≤◌, ◌<◌, ◌==◌, ◌&&◌, ◌++◌, max, take, get_or, nat_le, true, false, List, [], ◌∷◌, length, refl, sym, ◌∙◌, ap, subst, arith}
use Rattle.std.specs.List.{All}
use Rattle.std.proofs.lemmas.List.Elements.{All-weaker, All-append, All-take}
use Rattle.std.proofs.lemmas.Option.{get_or_from_slice_get, slice_get-get_or}
use Rattle.std.proofs.lemmas.Bool.Decides.{nat_tests}
use Rattle.etcd_types.proofs.Bools.{and_first, and_second}
use Rattle.etcd_types.specs.declared.request.WatchAsk.{WatchAsk}
use Rattle.etcd_types.specs.declared.watch.Event.{Event}
use Rattle.store_model.specs.declared.history.KeyChange.{KeyChange}
use Rattle.store_model.specs.History.{History, with_revision}
use Rattle.store_model.specs.Events.{watch_events}
use Rattle.store_model.specs.Watches.{next_after}
use Rattle.store_index.specs.declared.index.Index.{Index}
use Rattle.store_index.specs.Index.{HoldsKept}
use Rattle.store_world.specs.declared.followed.Looked.{Looked}
use Rattle.store_world.specs.Looked.{IsSilent, IsLooked, tells_of}
use Rattle.store_world.proofs.SilentLemmas.{Begins, begins_itself, begins_with, later_silent, silent_told, silent_of, stays_silent, stays_behind, newest_first}

stays : (i j : Index) (l : Looked) → ((h : History) → HoldsKept i h → (g : History) × HoldsKept j g × Begins h g) → i.compacted ≤ j.compacted → IsLooked i l → IsLooked j l
stays i j l grows up k = record {
  two = k.two;
  within = stays_behind i j l.to grows k.within;
  silent = λ start. stays_silent i j l.ask l.from l.to grows k.two k.within start (k.silent (omega (arith, up, start)));
}

pub all_added : (i j : Index) (cs : List KeyChange) (ls : List Looked) → ((h : History) → HoldsKept i h → HoldsKept j (with_revision h cs)) → j.compacted ≡ i.compacted → All (IsLooked i) ls → All (IsLooked j) ls
all_added i j cs ls holds same a =
    All-weaker (IsLooked i) (IsLooked j) (λ l k. stays i j l (λ h x. (with_revision h cs, holds h x, begins_with h cs)) (omega (arith, same)) k) ls a

pub all_compacted : (i j : Index) (ls : List Looked) → ((h : History) → HoldsKept i h → HoldsKept j h) → i.compacted ≤ j.compacted → All (IsLooked i) ls → All (IsLooked j) ls
all_compacted i j ls holds up a = All-weaker (IsLooked i) (IsLooked j) (λ l k. stays i j l (λ h x. (h, holds h x, begins_itself h)) up k) ls a

-- what is noted anew

pub noted_so : (i : Index) (ask : WatchAsk) (from : ℕ) → ((h : History) → HoldsKept i h → watch_events h i.compacted ask from ≡ [])
    → IsLooked i (record { ask = ask; from = max from 2; to = i.newest + 1 })
noted_so i ask from none = record {
  two = omega arith;
  within = omega arith;
  silent = λ start h holds.
      let latest : i.newest ≡ length h + 1 = holds.same_newest in
      silent_of i.compacted ask h from (i.newest + 1) (omega (arith, latest)) (none h holds);
}

-- a watch that is new

pub none_silent : (ask : WatchAsk) (h : History) (from : ℕ) → IsSilent ask h from from
none_silent ask h from r le lt = absurd (omega (arith, le, lt))

one_looked : (i : Index) (ask : WatchAsk) → IsLooked i (record { ask = ask; from = 2; to = 2 })
one_looked i ask = record {
  two = omega arith;
  within = let first : 1 ≤ i.newest = newest_first i in omega (arith, first);
  silent = λ start h holds. none_silent ask h 2;
}

pub all_followed : (i : Index) (ls : List Looked) (n : ℕ) (ask : WatchAsk) → All (IsLooked i) ls → All (IsLooked i) (take n ls ++ record { ask = ask; from = 2; to = 2 } ∷ [])
all_followed i ls n ask a = All-append (IsLooked i) (take n ls) _ (All-take (IsLooked i) n ls a) (alone (one_looked i ask))
  where
    alone : IsLooked i (record { ask = ask; from = 2; to = 2 }) → All (IsLooked i) (record { ask = ask; from = 2; to = 2 } ∷ [])
    alone k zero d lt = k
    alone k (suc n) d lt = absurd (omega (arith, lt))

-- what stands at a place is one
pub one_row : (ls : List Looked) (place : ℕ) (l m : Looked) → l ≡ get_or ls place l → m ≡ get_or ls place m → place < length ls → l ≡ m
one_row ls place l m e f lt = e ∙ get_or_from_slice_get ls place (get_or ls place m) l (slice_get-get_or ls place m lt) ∙ sym f

-- what it tells

pub silent_so : (i : Index) (l : Looked) (ask : WatchAsk) (from : ℕ) → IsLooked i l → tells_of l i.compacted from ≡ true → l.ask ≡ ask
    → (from ≤ l.to) × ((h : History) → HoldsKept i h → IsSilent ask h from l.to)
silent_so i l ask from k e same =
    let front = and_first (nat_le i.compacted l.from && nat_le l.from from) (nat_le from l.to) e in
    let kept : i.compacted ≤ l.from = up i.compacted l.from (and_first (nat_le i.compacted l.from) (nat_le l.from from) front) in
    let begun : l.from ≤ from = up l.from from (and_second (nat_le i.compacted l.from) (nat_le l.from from) front) in (
      up from l.to (and_second (nat_le i.compacted l.from && nat_le l.from from) (nat_le from l.to) e),
      λ h holds. subst (λ (a : WatchAsk). IsSilent a h from l.to) same (later_silent l.ask h l.from from l.to begun (k.silent kept h holds)),
    )
  where
    up : (a b : ℕ) → nat_le a b ≡ true → a ≤ b
    up a b e = grind (arith, nat_tests)

pub read_from : (h : History) (c : ℕ) (ask : WatchAsk) (from start : ℕ) → max from 2 ≤ start → IsSilent ask h (max from 2) start → watch_events h c ask start ≡ watch_events h c ask from
read_from h c ask from start le silent = sym (silent_told c ask h from start le silent)

pub read_silently : (inside i : Index) (ask : WatchAsk) (from first start : ℕ) (told : List Event) → inside ≡ i → first ≡ max from 2 → first ≤ start → ((h : History) → HoldsKept i h → IsSilent ask h first start)
    → ((h : History) → HoldsKept inside h → told ≡ watch_events h inside.compacted ask start) → (h : History) → HoldsKept i h → told ≡ watch_events h i.compacted ask from
read_silently inside i ask from first start told same begins le silent reads h holds =
    let here : HoldsKept inside h = subst (λ (j : Index). HoldsKept j h) (sym same) holds in
    reads h here
    ∙ ap (λ (j : Index). watch_events h j.compacted ask start) same
    ∙ read_from h i.compacted ask from start (omega (arith, begins, le)) (subst (λ n. IsSilent ask h n start) begins (silent h holds))

pub next_same : (n m : ℕ) (es : List Event) → (length es == 0) ≡ false → next_after n es ≡ next_after m es
next_same n m [] e = absurd (cc)
next_same n m (x ∷ es) e = refl
