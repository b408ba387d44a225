-- What an item tells of new keys and of awaited reads: most tell nothing of them.
use Rattle.std.proofs.Common.{◌≡◌, ℕ, Bool, true, false, cond, not, ◌&&◌, ◌==◌, List, [], ◌∷◌, ◌++◌, Option, None, Some, refl, sym, ◌∙◌, ap, subst}
use Rattle.std.specs.List.{list_all}
use Rattle.etcd_types.specs.declared.request.Request.{Request}
use Rattle.etcd_types.specs.declared.request.Request.TheVariants as request
use Rattle.etcd_types.proofs.Bools.{and_first, and_second, and_both}
use Rattle.script_text.specs.declared.item.Item.{Item}
use Rattle.script_text.specs.declared.item.Item.TheVariants as item
use Rattle.world_model.specs.Lives.{begins}
use Rattle.world_model.specs.LiveSessions.{session_of}
use Rattle.core_laws.proofs.Steps.Lists.{same_number, number_itself}
use Rattle.cached_laws.specs.Folds.{told_from, told_of}
use Rattle.cached_laws.specs.NewKeys.{touches, new_by, is_new_key}
use Rattle.cached_laws.specs.Reads.{Awaited, must_acquire, awaited_under, awaited_by, awaited}
use Rattle.cached_laws.proofs.Folds.{told_next, told_on, told_still}

and_one : (a : Bool) → a && true ≡ a
and_one true = refl
and_one false = refl

-- it doesn't start the proxy
abbrev pub is_going : ℕ → Item → Bool
is_going p i = not (begins p i)

pub going : (p : ℕ) (i : Item) → is_going p i ≡ true → begins p i ≡ false
going p i h = by (begins p i) h
  where
    by : (b : Bool) → not b ≡ true → b ≡ false
    by true e = absurd (cc)
    by false e = refl

module _ (namespace leasing : List ℕ) where
  -- ---- new keys

  module _ (k : List ℕ) (p : ℕ) where
    abbrev New : List Item → Bool
    New items = is_new_key namespace leasing k p items

    -- what is new behind more items was new before them
    pub new_front : (items more : List Item) → list_all (is_going p) more ≡ true → New (items ++ more) ≡ true → New items ≡ true
    new_front items more g h = front items (New items) more g (sym (told_on p true (new_by namespace leasing k p) items more) ∙ h)
      where
        front : (before : List Item) (a : Bool) (xs : List Item) → list_all (is_going p) xs ≡ true → told_from p true (new_by namespace leasing k p) before a xs ≡ true → a ≡ true
        front before a [] g h = h
        front before a (x ∷ xs) g h =
            let first = and_first (is_going p x) (list_all (is_going p) xs) g in
            let one = front (before ++ x ∷ []) (cond (begins p x) true (new_by namespace leasing k p before x a)) xs (and_second (is_going p x) (list_all (is_going p) xs) g) h in
            and_first a (not (touches namespace leasing k p before x)) (sym (ap (λ (b : Bool). cond b true (new_by namespace leasing k p before x a)) (going p x first)) ∙ one)

    -- by one item, which doesn't touch it
    pub new_one : (items : List Item) (i : Item) → is_going p i ≡ true → New (items ++ i ∷ []) ≡ true → touches namespace leasing k p items i ≡ false
    new_one items i g h =
        off (touches namespace leasing k p items i)
        (and_second (New items) (not (touches namespace leasing k p items i)) (sym (ap (λ (b : Bool). cond b true (new_by namespace leasing k p items i (New items))) (going p i g)) ∙ sym (told_next p true (new_by namespace leasing k p) items i) ∙ h))
      where
        off : (b : Bool) → not b ≡ true → b ≡ false
        off true e = absurd (cc)
        off false e = refl

  -- ---- awaited reads

  -- it doesn't start this proxy, and is no request and no call of it
  abbrev pub is_aside : ℕ → Item → Bool
  is_aside p (item.Started q) = not (q == p)
  is_aside p (item.Restarted q) = not (q == p)
  is_aside p (item.Asked q ticket r) = not (q == p)
  is_aside p (item.Sent q call member ticket r) = not (q == p)
  is_aside p _ = true

  module _ (p ticket : ℕ) where
    abbrev Waited : List Item → Option Awaited
    Waited items = awaited namespace leasing p ticket items

    off_it : (b : Bool) → not b ≡ true → b ≡ false
    off_it true e = absurd (cc)
    off_it false e = refl

    aside : (before : List Item) (i : Item) (a : Option Awaited) → is_aside p i ≡ true → (begins p i ≡ false) × (awaited_by namespace leasing p ticket before i a ≡ a)
    aside before (item.Started q) a h = (off_it (q == p) h, refl)
    aside before (item.Restarted q) a h = (off_it (q == p) h, refl)
    aside before (item.Asked q t r) a h = (refl, ap (λ (b : Bool). cond (b && t == ticket) (cond (must_acquire namespace leasing p before r) (awaited_under r (session_of p before)) None) a) (off_it (q == p) h))
    aside before (item.Sent q call member t r) a h = (refl, ap (λ (b : Bool). cond (b && t == ticket) None a) (off_it (q == p) h))
    aside before (item.World members ns l) a h = (refl, refl)
    aside before (item.Clock q millis) a h = (refl, refl)
    aside before (item.Posted q t path body) a h = (refl, refl)
    aside before (item.Ticked q) a h = (refl, refl)
    aside before (item.Opened q stream member r) a h = (refl, refl)
    aside before (item.Closed q stream) a h = (refl, refl)
    aside before (item.Executed call x) a h = (refl, refl)
    aside before (item.Answered call) a h = (refl, refl)
    aside before (item.Lost call) a h = (refl, refl)
    aside before (item.Pushed stream i) a h = (refl, refl)
    aside before (item.Delivered stream) a h = (refl, refl)
    aside before (item.Cut stream) a h = (refl, refl)
    aside before (item.Taken q t i) a h = (refl, refl)
    aside before (item.Pending q t) a h = (refl, refl)
    aside before (item.Left q t) a h = (refl, refl)
    aside before (item.Reply q t x) a h = (refl, refl)
    aside before (item.Body q t status text) a h = (refl, refl)
    aside before (item.Expired lease) a h = (refl, refl)
    aside before (item.Applied member revision) a h = (refl, refl)

    pub waited_aside : (items more : List Item) → list_all (is_aside p) more ≡ true → Waited (items ++ more) ≡ Waited items
    waited_aside items more h = told_still p None (awaited_by namespace leasing p ticket) (is_aside p) aside items more h

    -- a call of the proxy
    pub waited_sent : (items : List Item) (call member t : ℕ) (r : Request) → Waited (items ++ item.Sent p call member t r ∷ []) ≡ cond (t == ticket) None (Waited items)
    waited_sent items call member t r = told_next p None (awaited_by namespace leasing p ticket) items (item.Sent p call member t r) ∙ ap (λ (b : Bool). cond (b && t == ticket) None (Waited items)) (number_itself p)

    -- a request of it
    pub waited_asked : (items : List Item) (t : ℕ) (r : Request)
        → Waited (items ++ item.Asked p t r ∷ []) ≡ cond (t == ticket) (cond (must_acquire namespace leasing p items r) (awaited_under r (session_of p items)) None) (Waited items)
    waited_asked items t r =
        told_next p None (awaited_by namespace leasing p ticket) items (item.Asked p t r)
        ∙ ap (λ (b : Bool). cond (b && t == ticket) (cond (must_acquire namespace leasing p items r) (awaited_under r (session_of p items)) None) (Waited items)) (number_itself p)

    -- at a start
    pub waited_started : (items : List Item) (i : Item) → begins p i ≡ true → Waited (items ++ i ∷ []) ≡ None
    waited_started items i h = told_next p None (awaited_by namespace leasing p ticket) items i ∙ ap (λ (b : Bool). cond b None (awaited_by namespace leasing p ticket items i (Waited items))) h
