-- What the items of a script tell of proxies is what its world has of them: which were started, and how their clocks read. The first item
-- is the one that makes the world.
use Rattle.std.proofs.Common.{◌≡◌, ℕ, ◌==◌, Bool, true, false, cond, ◌||◌, List, [], ◌∷◌, ◌++◌, Option, None, Some, is_some, refl, sym, ◌∙◌, ap, subst}
use Rattle.std.proofs.lemmas.List.Folds.{list_any-append}
use Rattle.etcd_types.proofs.Bools.{or_false, or_true}
use Rattle.script_text.specs.declared.item.Item.{Item}
use Rattle.script_text.specs.declared.item.Item.TheVariants as item
use Rattle.world_model.specs.Lives.{begins, clock_by, clock_from, clock_of}
use Rattle.world_model.specs.Places.{kept_at, with_kept}
use Rattle.world_model.specs.State.{Numbered, Place}
use Rattle.audit_model.specs.Order.{has_started}
use Rattle.core_laws.proofs.Steps.Lists.{number_itself, number_turned}
use Rattle.held_laws.proofs.Kept.{kept_itself, kept_other}
use Rattle.held_laws.proofs.Worlds.{equal}

abbrev pub clock_at : Option Place → ℕ
clock_at None = 0
clock_at (Some x) = x.clock

-- of the proxy of this number, or of there being none
pub record StartSays (items : List Item) (p : ℕ) (o : Option Place) : Type 0 where
  pub started : has_started p items ≡ is_some o
  pub clock : clock_of p items ≡ clock_at o

abbrev pub StartsSay : List Item → Numbered Place → Type 0
StartsSay items places = (p : ℕ) → StartSays items p (kept_at places p)

-- ---- one item more

clock-append : (p now : ℕ) (xs ys : List Item) → clock_from p now (xs ++ ys) ≡ clock_from p (clock_from p now xs) ys
clock-append p now [] ys = refl
clock-append p now (x ∷ xs) ys = clock-append p (clock_by p now x) xs ys

pub clock_next : (p : ℕ) (items : List Item) (i : Item) → clock_of p (items ++ i ∷ []) ≡ clock_by p (clock_of p items) i
clock_next p items i = clock-append p 0 items (i ∷ [])

pub started_next : (p : ℕ) (items : List Item) (i : Item) → has_started p (items ++ i ∷ []) ≡ (has_started p items || begins p i)
started_next p items i = list_any-append (begins p) items (i ∷ []) ∙ ap (λ b. has_started p items || b) (or_false (begins p i))

-- it starts no proxy, and sets no clock
abbrev pub is_no_start : Item → Bool
is_no_start (item.Started p) = false
is_no_start (item.Restarted p) = false
is_no_start (item.Clock p millis) = false
is_no_start _ = true

no_start : (p now : ℕ) (i : Item) → is_no_start i ≡ true → (begins p i ≡ false) × (clock_by p now i ≡ now)
no_start p now (item.Started q) e = absurd (cc)
no_start p now (item.Restarted q) e = absurd (cc)
no_start p now (item.Clock q millis) e = absurd (cc)
no_start p now _ e = (refl, refl)

pub start_on : (items : List Item) (i : Item) (p : ℕ) (o : Option Place) → begins p i ≡ false → clock_by p (clock_of p items) i ≡ clock_of p items → StartSays items p o → StartSays (items ++ i ∷ []) p o
start_on items i p o e f h = record {
  started = started_next p items i ∙ ap (λ b. has_started p items || b) e ∙ or_false (has_started p items) ∙ h.started;
  clock = clock_next p items i ∙ f ∙ h.clock;
}

pub starts_on : (items : List Item) (i : Item) (places : Numbered Place) → is_no_start i ≡ true → StartsSay items places → StartsSay (items ++ i ∷ []) places
starts_on items i places e h p = let n = no_start p (clock_of p items) i e in start_on items i p (kept_at places p) n.0 n.1 (h p)

-- ---- one of them is put anew

pub placed_each : (R : ℕ → Option Place → Type 0) (places : Numbered Place) (p : ℕ) (x : Place) → R p (Some x) → ((q : ℕ) → (q == p) ≡ false → R q (kept_at places q)) → (q : ℕ) → R q (kept_at (with_kept places p x) q)
placed_each R places p x this others q = by (q == p) refl
  where
    by : (b : Bool) → (q == p) ≡ b → R q (kept_at (with_kept places p x) q)
    by true e = subst (λ (k : ℕ). R k (kept_at (with_kept places p x) k)) (sym (equal q p e)) (subst (R p) (sym (kept_itself places p x)) this)
    by false e = subst (R q) (sym (kept_other places q p x e)) (others q e)

-- at the same reading
pub starts_same : (items : List Item) (places : Numbered Place) (p : ℕ) (x y : Place) → kept_at places p ≡ Some x → y.clock ≡ x.clock → StartsSay items places → StartsSay items (with_kept places p y)
starts_same items places p x y at same h =
    placed_each (StartSays items) places p y (let was : StartSays items p (Some x) = subst (StartSays items p) at (h p) in record { started = was.started; clock = was.clock ∙ sym same }) (λ q e. h q)

-- its clock is set
pub starts_set : (items : List Item) (places : Numbered Place) (p millis : ℕ) (x : Place) → kept_at places p ≡ Some x → StartsSay items places → StartsSay (items ++ item.Clock p millis ∷ []) (with_kept places p (record x { clock = millis }))
starts_set items places p millis x at h =
    placed_each (StartSays (items ++ item.Clock p millis ∷ [])) places p (record x { clock = millis })
    (record {
      started = started_next p items (item.Clock p millis) ∙ or_false (has_started p items) ∙ was.started;
      clock = clock_next p items (item.Clock p millis) ∙ ap (λ b. cond b millis (clock_of p items)) (number_itself p);
    })
    (λ q e. start_on items (item.Clock p millis) q (kept_at places q) refl (ap (λ b. cond b millis (clock_of q items)) (number_turned q p e)) (h q))
  where
    was : StartSays items p (Some x)
    was = subst (StartSays items p) at (h p)

-- it is started
pub starts_first : (items : List Item) (places : Numbered Place) (p : ℕ) (x : Place) → kept_at places p ≡ None → x.clock ≡ 0 → StartsSay items places → StartsSay (items ++ item.Started p ∷ []) (with_kept places p x)
starts_first items places p x none zero h =
    placed_each (StartSays (items ++ item.Started p ∷ [])) places p x
    (record {
      started = started_next p items (item.Started p) ∙ ap (λ b. has_started p items || b) (number_itself p) ∙ or_true (has_started p items);
      clock = clock_next p items (item.Started p) ∙ (subst (StartSays items p) none (h p)).clock ∙ sym zero;
    })
    (λ q e. start_on items (item.Started p) q (kept_at places q) (number_turned q p e) refl (h q))

pub starts_again : (items : List Item) (places : Numbered Place) (p : ℕ) (x y : Place) → kept_at places p ≡ Some x → y.clock ≡ x.clock → StartsSay items places → StartsSay (items ++ item.Restarted p ∷ []) (with_kept places p y)
starts_again items places p x y at same h =
    placed_each (StartSays (items ++ item.Restarted p ∷ [])) places p y
    (record {
      started = started_next p items (item.Restarted p) ∙ ap (λ b. has_started p items || b) (number_itself p) ∙ or_true (has_started p items);
      clock = clock_next p items (item.Restarted p) ∙ (subst (StartSays items p) at (h p)).clock ∙ sym same;
    })
    (λ q e. start_on items (item.Restarted p) q (kept_at places q) (number_turned q p e) refl (h q))
