-- What is known behind each prefix of a script of the requests that wait at each proxy, and of its calls.
use Rattle.std.proofs.Common.{◌≡◌, ℕ, ◌==◌, Bool, true, false, List, ◌∷◌, ◌++◌, Some, refl, sym, ◌∙◌, ap, subst}
use Rattle.core_model.specs.State.{Core}
use Rattle.script_text.specs.declared.item.Item.{Item}
use Rattle.script_text.specs.declared.item.Item.TheVariants as item
use Rattle.world_model.specs.Places.{kept_at, place_at, with_place, with_posted}
use Rattle.world_model.specs.State.{Numbered, Place, World}
use Rattle.held_laws.proofs.Worlds.{equal, one_place, placed_itself, placed_other}
use Rattle.executed_laws.proofs.Worlds.{AllKept}
use Rattle.prefix_laws.proofs.Places.{OfPlaces, NoneLeft}
use Rattle.renewed_laws.proofs.Worlds.{WorldOk}
use Rattle.session_laws.proofs.Turns.{bound_of}
use Rattle.session_laws.proofs.Worlds.{WorldTold}
use Rattle.truth_laws.proofs.Heads.{HeadsOk}
use Rattle.cause_laws.specs.Causes.{members_of}
use Rattle.cause_laws.proofs.Items.{Quiet, quiet_lives, told_quiet}
use Rattle.cause_laws.proofs.Knows.{Knows, knows_on}
use Rattle.cause_laws.proofs.AskKinds.{KindsStand}
use Rattle.cause_laws.proofs.Seen.{Fit}
use Rattle.cause_laws.proofs.Standing.{Standing, standing_on}
use Rattle.cause_laws.proofs.Streams.{StreamsTold}
use Rattle.cause_laws.proofs.Waits.{Waits}
use Rattle.cause_laws.proofs.Writing.{WritesAreWrites}

-- ---- what is known

-- the items begin with the world's, of so many members
pub record FirstItem (items : List Item) (members : ℕ) : Type 0 where
  pub namespace : List ℕ
  pub leasing : List ℕ
  pub rest : List Item
  pub is : items ≡ item.World members namespace leasing ∷ rest

pub first_on : (items more : List Item) (members : ℕ) → FirstItem items members → FirstItem (items ++ more) members
first_on items more members f = record { namespace = f.namespace; leasing = f.leasing; rest = f.rest ++ more; is = ap (λ (xs : List Item). xs ++ more) f.is }

pub members_on : (items more : List Item) (w : World) → FirstItem items w.members → members_of (items ++ more) ≡ w.members
members_on items more w f = ap members_of (ap (λ (xs : List Item). xs ++ more) f.is)

-- of the requests that wait at a proxy, and of its calls
pub record PlaceTold (items : List Item) (p : ℕ) (x : Place) : Type 0 where
  pub waits : Waits items p x.core
  pub knows : Knows items p x.calls x.core
  pub stands : Standing items p x.core

pub record AllDue (items : List Item) (w : World) : Type 0 where
  pub told : WorldTold items w (bound_of w)
  pub none : OfPlaces NoneLeft items w
  pub kept : AllKept items w
  pub heads : HeadsOk items w
  pub writing : OfPlaces WritesAreWrites items w
  pub kinds : OfPlaces KindsStand items w
  pub first : FirstItem items w.members
  pub members : (p : ℕ) (x : Place) → place_at w p ≡ Some x → x.core.members.count ≡ w.members
  pub streams : StreamsTold items w.streams
  pub waits : (p : ℕ) (x : Place) → place_at w p ≡ Some x → PlaceTold items p x

-- a ticket that was posted changes none of it
pub posted_told : (items : List Item) (p ticket : ℕ) (x : Place) → PlaceTold items p x → PlaceTold items p (with_posted ticket x)
posted_told items p ticket x h = record { waits = h.waits; knows = h.knows; stands = h.stands }

-- the core of a proxy
pub fit_of : (items : List Item) (w : World) (p : ℕ) (x : Place) → WorldOk w.namespace items w → AllDue items w → place_at w p ≡ Some x → Fit x.core
fit_of items w p x ok h at = (((ok.places p x at).core, h.kept.owners p x at), h.kept.fits p x at)

pub waits_on : (items more : List Item) (q : ℕ) (c : Core) → Quiet q items more → Waits items q c → Waits (items ++ more) q c
waits_on items more q c quiet h ticket a f o = told_quiet items more q a.ticket a.request a.asked a.losses a.stales quiet (h ticket a f o)

pub told_on : (items more : List Item) (q : ℕ) (x : Place) → Quiet q items more → PlaceTold items q x → PlaceTold (items ++ more) q x
told_on items more q x quiet h = record { waits = waits_on items more q x.core quiet h.waits; knows = knows_on items more q x.calls x.core (quiet_lives q items more quiet) h.knows; stands = standing_on items more q x.core quiet h.stands }

-- one place is put anew
pub put_waits : (items more : List Item) (w v : World) (p : ℕ) (z : Place) → v.places ≡ w.places → ((q : ℕ) → (q == p) ≡ false → Quiet q items more) → ((q : ℕ) (x : Place) → place_at w q ≡ Some x → PlaceTold items q x) → PlaceTold (items ++ more) p z
    → (q : ℕ) (y : Place) → place_at (with_place v p z) q ≡ Some y → PlaceTold (items ++ more) q y
put_waits items more w v p z same quiet h k q y e = by (q == p) refl
  where
    by : (b : Bool) → (q == p) ≡ b → PlaceTold (items ++ more) q y
    by true n =
        let there : q ≡ p = equal q p n in
        let one : z ≡ y = one_place z y (sym (placed_itself w v p z) ∙ ap (place_at (with_place v p z)) (sym there) ∙ e) in
        subst (λ (j : ℕ). PlaceTold (items ++ more) j y) (sym there) (subst (λ (x : Place). PlaceTold (items ++ more) p x) one k)
    by false n = told_on items more q y (quiet q n) (h q y (sym (placed_other w v p q z same n) ∙ e))

-- none is
pub keep_waits : (items more : List Item) (w after : World) → after.places ≡ w.places → ((q : ℕ) → Quiet q items more) → ((q : ℕ) (x : Place) → place_at w q ≡ Some x → PlaceTold items q x) → (q : ℕ) (y : Place) → place_at after q ≡ Some y → PlaceTold (items ++ more) q y
keep_waits items more w after same quiet h q y e = told_on items more q y (quiet q) (h q y (ap (λ (ps : Numbered Place). kept_at ps q) (sym same) ∙ e))

-- of each place the members
pub put_counts : (w v : World) (p : ℕ) (z : Place) → v.places ≡ w.places → ((q : ℕ) (x : Place) → place_at w q ≡ Some x → x.core.members.count ≡ w.members) → z.core.members.count ≡ w.members → (q : ℕ) (y : Place) → place_at (with_place v p z) q ≡ Some y → y.core.members.count ≡ w.members
put_counts w v p z same h k q y e = by (q == p) refl
  where
    by : (b : Bool) → (q == p) ≡ b → y.core.members.count ≡ w.members
    by true n =
        let there : q ≡ p = equal q p n in
        let one : z ≡ y = one_place z y (sym (placed_itself w v p z) ∙ ap (place_at (with_place v p z)) (sym there) ∙ e) in
        subst (λ (x : Place). x.core.members.count ≡ w.members) one k
    by false n = h q y (sym (placed_other w v p q z same n) ∙ e)

pub keep_counts : (w after : World) → after.places ≡ w.places → ((q : ℕ) (x : Place) → place_at w q ≡ Some x → x.core.members.count ≡ w.members) → (q : ℕ) (y : Place) → place_at after q ≡ Some y → y.core.members.count ≡ w.members
keep_counts w after same h q y e = h q y (ap (λ (ps : Numbered Place). kept_at ps q) (sym same) ∙ e)
