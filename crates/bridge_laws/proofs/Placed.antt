-- A world in which one proxy's place is put anew.
use Rattle.std.proofs.Common.{◌≡◌, ℕ, ◌==◌, Bool, true, false, List, None, Some, refl, sym, ◌∙◌, ap, subst}
use Rattle.std.specs.BTreeSet.{BTreeSet}
use Rattle.cache_laws.specs.Moves.View.{View}
use Rattle.store_model.specs.State.{State}
use Rattle.cache_laws.specs.Store.StoreView.{Shows}
use Rattle.world_model.specs.declared.floor.Floor.{Floor}
use Rattle.world_model.specs.Places.{nth, place_at, with_place, with_posted}
use Rattle.world_model.specs.State.{Numbered, Place, OpenedStream, World}
use Rattle.held_laws.proofs.Worlds.{equal, one_place, no_place, placed_itself, placed_other}
use Rattle.bridge_laws.specs.Floors.{FloorsOk}
use Rattle.bridge_laws.specs.Laws.{RefusedPostsStayShown}
use Rattle.bridge_laws.specs.Messages.{LeasingWatched}
use Rattle.bridge_laws.specs.Shown.{PlaceShown, IsUnseen, Shown}

-- of each place then
pub each_place : (P : ℕ → Place → Type 0) (w : World) (p : ℕ) (z : Place) → P p z → ((q : ℕ) (y : Place) → (q == p) ≡ false → place_at w q ≡ Some y → P q y)
    → (q : ℕ) (y : Place) → place_at (with_place w p z) q ≡ Some y → P q y
each_place P w p z here others q y e = by (q == p) refl
  where
    by : (b : Bool) → (q == p) ≡ b → P q y
    by true n =
        let there : q ≡ p = equal q p n in
        let one : z ≡ y = one_place z y (sym (placed_itself w w p z) ∙ ap (place_at (with_place w p z)) (sym there) ∙ e) in
        subst (λ (j : ℕ). P j y) (sym there) (subst (P p) one here)
    by false n = others q y n (sym (placed_other w w p q z refl n) ∙ e)

-- and of a number at which none stands
pub none_placed : (P : ℕ → Type 0) (w : World) (p : ℕ) (z : Place) → ((q : ℕ) → (q == p) ≡ false → place_at w q ≡ None → P q) → (q : ℕ) → place_at (with_place w p z) q ≡ None → P q
none_placed P w p z others q e = by (q == p) refl
  where
    by : (b : Bool) → (q == p) ≡ b → P q
    by true n = no_place z (sym e ∙ ap (place_at (with_place w p z)) (equal q p n) ∙ placed_itself w w p z)
    by false n = others q n (sym (placed_other w w p q z refl n) ∙ e)

-- who was started stays so
still_there : (w : World) (p q : ℕ) (z y : Place) → place_at w q ≡ Some y → (x : Place) × (place_at (with_place w p z) q ≡ Some x)
still_there w p q z y e = by (q == p) refl
  where
    by : (b : Bool) → (q == p) ≡ b → (x : Place) × (place_at (with_place w p z) q ≡ Some x)
    by true n = (z, ap (place_at (with_place w p z)) (equal q p n) ∙ placed_itself w w p z)
    by false n = (y, placed_other w w p q z refl n ∙ e)

pub placed_floors : (holder : ℕ → ℕ) (floors : ℕ → ℕ) (leases : ℕ → Bool) (kept : Numbered Floor) (w : World) (p : ℕ) (z : Place) → FloorsOk holder floors leases kept w.places → FloorsOk holder floors leases kept (with_place w p z).places
placed_floors holder floors leases kept w p z h = record {
  kept = λ n s f e.
      let o = h.kept n s f e in
      let t = still_there w p f.proxy z o.place o.at in
      record { by = o.by; above = o.above; place = t.0; at = t.1 };
  there = h.there;
  none = h.none;
}

-- a view that shows the store as this one does
pub shows_as : {p : List ℕ} {s : State} (v u : View) → u.rev ≡ v.rev → u.owners ≡ v.owners → u.kvs ≡ v.kvs → u.told ≡ v.told → u.leases ≡ v.leases → Shows p s v → Shows p s u
shows_as v u rev owners kvs told leases h = record {
  rev = rev ∙ h.rev;
  owners = λ k. ap (λ f. f k) owners ∙ h.owners k;
  kvs = λ k. ap (λ f. f k) kvs ∙ h.kvs k;
  told = λ r k l. ap (λ f. f r k) told ∙ h.told r k l;
  leases = λ n. ap (λ f. f n) leases ∙ h.leases n;
}

-- a place of which only tickets are put anew
pub ticketed_shown : (holder : ℕ → ℕ) (w : World) (p : ℕ) (x : Place) (tickets posted : BTreeSet ℕ) → place_at w p ≡ Some x → Shown holder w → Shown holder (with_place w p (record x { tickets = tickets; posted = posted }))
ticketed_shown holder w p x tickets posted at h =
    let z : Place = record x { tickets = tickets; posted = posted } in
    let k = h.places p x at in
    record {
      leases = h.leases;
      bare = h.bare;
      store = h.store;
      view = h.view;
      stands = h.stands;
      forms = h.forms;
      count = h.count;
      calls = h.calls;
      places = each_place (PlaceShown w.namespace w.leasing h.view h.forms) w p z (record { sees = k.sees; may = k.may; namespace = k.namespace; prefix = k.prefix; out = k.out }) (λ q y n e. h.places q y e);
      absent = none_placed (IsUnseen h.view) w p z (λ q n e. h.absent q e);
      floors = placed_floors holder h.view.floors h.view.leases w.floors w p z h.floors;
      drawn = h.drawn;
      streams = h.streams;
      watched = λ q y number s e f.
          each_place (λ (r : ℕ) (a : Place). (m : ℕ) (t : OpenedStream) → nth w.streams m ≡ Some t → LeasingWatched w.leasing h.bare r m t a) w p z (λ m t g. h.watched p x m t at g) (λ r a n g m t i. h.watched r a m t g i) q y e number s f;
    }

pub posts_stay_shown : RefusedPostsStayShown
posts_stay_shown holder w p ticket x at h = ticketed_shown holder w p x (with_posted ticket x).tickets (with_posted ticket x).posted at h
