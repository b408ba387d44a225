-- A lease expires, a member applies revisions, and lines are counted.
use Rattle.std.proofs.Common.{◌≡◌, ◌⊎◌, inl, inr, ℕ, ◌≤◌, ◌==◌, ◌||◌, nat_lt, Bool, true, false, cond, List, [], Option, None, Some, Result, Ok, Err, refl, sym, ◌∙◌, ap, arith}
use Rattle.std.specs.Prelude.{◌-◌, set}
use Rattle.std.proofs.lemmas.Bool.Decides.{nat_tests}
use Rattle.proxy_model.specs.RequestRefusals.{is_session}
use Rattle.script_text.specs.declared.item.Item.TheVariants as item
use Rattle.store_model.specs.declared.store_fault.StoreFault.{StoreFault}
use Rattle.store_model.specs.declared.store_fault.StoreFault.TheVariants as fault
use Rattle.store_model.specs.History.{newest}
use Rattle.store_model.specs.Leases.{ended, expired}
use Rattle.store_model.specs.Members.{lacks_member, applied}
use Rattle.store_model.specs.State.{State, applied_by}
use Rattle.store_model.specs.Watches.{watch_of}
use Rattle.store_model.specs.Transactions.{has_lease}
use Rattle.store_laws.proofs.Requests.RequestProofs.{expiries_make_one_revision}
use Rattle.store_laws.proofs.Lives.SoundProofs.{applies_keep_sound}
use Rattle.namespace_laws.specs.Stored.Stored.{stored, stored_after}
use Rattle.namespace_laws.proofs.Stored.Steps.{expiries_are_stored}
use Rattle.namespace_laws.proofs.Stored.Watches.{applies_are_stored}
use Rattle.cache_laws.specs.Moves.View.{View, put}
use Rattle.cache_laws.specs.Store.LeaseSteps.{lease_gone}
use Rattle.cache_laws.specs.Store.StoreView.{Stands}
use Rattle.cache_laws.proofs.Store.LeaseProofs.{expiries_step}
use Rattle.cache_laws.proofs.Store.ReadSteps.{unseen_step}
use Rattle.world_model.specs.declared.fault.WorldFault.{WorldFault}
use Rattle.world_model.specs.declared.fault.WorldFault.TheVariants as world
use Rattle.world_model.specs.declared.floor.Floor.{Floor}
use Rattle.world_model.specs.Places.{kept_at, place_at}
use Rattle.world_model.specs.State.{Place, World}
use Rattle.world_model.specs.StoreLines.{too_early, below_floor, not_due_by, not_due, expired_if, expired_by, store_stepped}
use Rattle.bridge_laws.specs.Floors.{FloorsOk}
use Rattle.bridge_laws.specs.Laws.{CountsStayShown, ExpiriesStayShown, AppliesStayShown}
use Rattle.bridge_laws.specs.Shown.{Shown}
use Rattle.bridge_laws.proofs.Growing.{stream_grown}

-- ---- counting

pub counts_stay_shown : CountsStayShown
counts_stay_shown holder w lines more h = record {
  leases = h.leases;
  bare = h.bare;
  store = h.store;
  view = h.view;
  stands = h.stands;
  forms = h.forms;
  count = h.count;
  calls = h.calls;
  places = h.places;
  absent = h.absent;
  floors = h.floors;
  drawn = λ n e. (let l = h.drawn n e in omega (arith, l, more));
  streams = h.streams;
  watched = h.watched;
}

-- ---- what a step of the world's store is of the bare one

-- it is the image of one
pub record IsStep (ns : List ℕ) (t : State) (r : Result State StoreFault) : Type 0 where
  pub bare : State
  pub made : r ≡ Ok bare
  pub image : t ≡ stored ns bare

is_step : (ns : List ℕ) (t : State) (r : Result State StoreFault) → stored_after ns r ≡ Ok t → IsStep ns t r
is_step ns t (Ok b) e = let same : stored ns b ≡ t = cc in record { bare = b; made = refl; image = sym same }
is_step ns t (Err why) e = absurd (cc)

-- ---- a lease expires

expired_watches : (s t : State) (lease : ℕ) → expired s lease ≡ Ok t → t.watches ≡ s.watches
unfolding expired
expired_watches s t lease e = by (has_lease s.leases lease) e
  where
    by : (b : Bool) → cond b (Ok (ended s lease)) (Err (fault.NoSuchLease lease)) ≡ Ok t → t.watches ≡ s.watches
    by true f = let same : ended s lease ≡ t = cc in sym (ap (λ (x : State). x.watches) same)
    by false f = absurd (cc)

reached : (a b : ℕ) → too_early a b ≡ None → b ≤ a
reached a b e = by (nat_lt a b) refl e
  where
    reaches : nat_lt a b ≡ false → b ≤ a
    reaches n = grind (arith, nat_tests)

    by : (t : Bool) → nat_lt a b ≡ t → cond t (Some (world.NotDue a b)) None ≡ None → b ≤ a
    by true n f = absurd (cc)
    by false n f = reaches n

-- the clock of a session's holder has reached its floor
due : (holder : ℕ → ℕ) (w : World) (lease : ℕ) (h : Shown holder w) → not_due w lease ≡ None → (is_session lease ≡ false) ⊎ (h.view.floors lease ≤ h.view.clocks (holder lease))
due holder w lease h e = by_kind (is_session lease) refl
  where
    v : View
    v = h.view

    by_place : (f : Floor) (x : Place) (o : Option Place) → f.proxy ≡ holder lease → v.floors lease ≤ f.floor → place_at w f.proxy ≡ Some x → place_at w f.proxy ≡ o → below_floor f o ≡ None → v.floors lease ≤ v.clocks (holder lease)
    by_place f x None by above at is g = absurd (cc)
    by_place f x (Some y) by above at is g =
        let seen : v.clocks f.proxy ≡ y.clock = (h.places f.proxy y is).sees.clock in
        let there : v.clocks (holder lease) ≡ y.clock = ap v.clocks (sym by) ∙ seen in
        let past : f.floor ≤ y.clock = reached y.clock f.floor g in
        omega (arith, there, past, above)

    by_floor : (o : Option Floor) → is_session lease ≡ true → kept_at w.floors lease ≡ o → not_due_by w o ≡ None → v.floors lease ≤ v.clocks (holder lease)
    by_floor None s k g = let none : v.floors lease ≡ 0 = h.floors.none lease s k in omega (arith, none)
    by_floor (Some f) s k g = let o = h.floors.kept lease s f k in by_place f o.place (place_at w f.proxy) o.by o.above o.at refl g

    by_kind : (b : Bool) → is_session lease ≡ b → (is_session lease ≡ false) ⊎ (v.floors lease ≤ v.clocks (holder lease))
    by_kind true s = inr (by_floor (kept_at w.floors lease) s refl e)
    by_kind false s = inl s

ended_floors : (holder : ℕ → ℕ) (w : World) (v : View) (lease : ℕ) → FloorsOk holder v.floors v.leases w.floors w.places → FloorsOk holder v.floors (put v.leases lease false) w.floors w.places
ended_floors holder w v lease h = record { kept = h.kept; there = λ n s e. h.there n s (by n (n == lease) e); none = h.none }
  where
    by : (n : ℕ) (b : Bool) → cond b false (v.leases n) ≡ true → v.leases n ≡ true
    by n true e = absurd (cc)
    by n false e = e

expired_shown : (holder : ℕ → ℕ) (w : World) (lease : ℕ) (t : State) → expired w.store lease ≡ Ok t → not_due w lease ≡ None → Shown holder w → Shown holder (record w { store = t })
expired_shown holder w lease t e none h =
    let v = h.view in
    let keys = h.stands.orderly.sound.keys in
    let b = is_step w.namespace t (expired h.bare lease) (sym (expiries_are_stored w.namespace h.bare lease keys) ∙ ap (λ (s : State). expired s lease) (sym h.store) ∙ e) in
    let made = expiries_make_one_revision h.bare b.bare lease b.made in
    let watches = expired_watches h.bare b.bare lease b.made in
    let u : View = lease_gone v b.bare w.leasing lease in
    record {
      leases = h.leases;
      bare = b.bare;
      store = b.image;
      view = u;
      stands = expiries_step holder h.bare b.bare w.leasing lease v b.made (due holder w lease h none) h.stands;
      forms = h.forms;
      count = h.count;
      calls = h.calls;
      places = λ p x at. let o = h.places p x at in record { sees = record { clock = o.sees.clock; term = o.sees.term; row = o.sees.row }; may = o.may; namespace = o.namespace; prefix = o.prefix; out = o.out };
      absent = λ p at. let o = h.absent p at in record { clock = o.clock; term = o.term; slots = o.slots };
      floors = ended_floors holder w v lease h.floors;
      drawn = h.drawn;
      streams = λ number s at. stream_grown w.namespace h.bare b.bare made.0 number s made.1 watches (h.streams number s at);
      watched = λ p x number s at there o watch i l d k g. h.watched p x number s at there o watch i l d k (ap (λ ws. watch_of (record h.bare { watches = ws }) number) (sym watches) ∙ g);
    }

pub expiries_stay_shown : ExpiriesStayShown
expiries_stay_shown holder w lease h = by (expired w.store lease) refl
  where
    by_due : (o : Option WorldFault) (t : State) → expired w.store lease ≡ Ok t → not_due w lease ≡ o → Shown holder (expired_if w lease o t).world
    by_due (Some why) t e d = h
    by_due None t e d = expired_shown holder w lease t e d h

    by : (r : Result State StoreFault) → expired w.store lease ≡ r → Shown holder (expired_by w lease r).world
    by (Err why) e = h
    by (Ok t) e = by_due (not_due w lease) t e refl

-- ---- a member applies revisions

-- of which the view sees nothing
pub record Unseen (s t : State) : Type 0 where
  pub history : t.history ≡ s.history
  pub leases : t.leases ≡ s.leases
  pub watches : t.watches ≡ s.watches

applied_unseen : (s t : State) (member revision : ℕ) → applied s member revision ≡ Ok t → Unseen s t
unfolding applied
applied_unseen s t member revision e = by (lacks_member s member) (nat_lt revision (applied_by s member) || nat_lt (newest s.history) revision) e
  where
    after : State
    after = record s { applied = set s.applied (member - 1) revision }

    by : (a b : Bool) → cond a (Err (fault.NoSuchMember member)) (cond b (Err (fault.BadApply (applied_by s member) (newest s.history))) (Ok after)) ≡ Ok t → Unseen s t
    by true b f = absurd (cc)
    by false true f = absurd (cc)
    by false false f = let same : after ≡ t = cc in record { history = sym (ap (λ (x : State). x.history) same); leases = sym (ap (λ (x : State). x.leases) same); watches = sym (ap (λ (x : State). x.watches) same) }

-- the store makes a step of which the view sees nothing
pub unseen_shown : (holder : ℕ → ℕ) (w : World) (h : Shown holder w) (bare : State) (t : State) → t ≡ stored w.namespace bare → Unseen h.bare bare → Stands holder w.leasing bare h.view → Shown holder (record w { store = t })
unseen_shown holder w h bare t image same stands = record {
  leases = h.leases;
  bare = bare;
  store = image;
  view = h.view;
  stands = stands;
  forms = h.forms;
  count = h.count;
  calls = h.calls;
  places = h.places;
  absent = h.absent;
  floors = h.floors;
  drawn = h.drawn;
  streams = λ number s at. stream_grown w.namespace h.bare bare [] number s same.history same.watches (h.streams number s at);
  watched = λ p x number s at there o watch i l d k g. h.watched p x number s at there o watch i l d k (ap (λ ws. watch_of (record h.bare { watches = ws }) number) (sym same.watches) ∙ g);
}

applied_shown : (holder : ℕ → ℕ) (w : World) (member revision : ℕ) (t : State) → applied w.store member revision ≡ Ok t → Shown holder w → Shown holder (record w { store = t })
applied_shown holder w member revision t e h =
    let b = is_step w.namespace t (applied h.bare member revision) (sym (applies_are_stored w.namespace h.bare member revision) ∙ ap (λ (s : State). applied s member revision) (sym h.store) ∙ e) in
    let same = applied_unseen h.bare b.bare member revision b.made in
    unseen_shown holder w h b.bare t b.image same
    (unseen_step holder w.leasing h.bare b.bare h.view same.history same.leases (applies_keep_sound h.bare b.bare member revision b.made h.stands.orderly.sound) h.stands)

pub applies_stay_shown : AppliesStayShown
applies_stay_shown holder w member revision h = by (applied w.store member revision) refl
  where
    by : (r : Result State StoreFault) → applied w.store member revision ≡ r → Shown holder (store_stepped w (item.Applied member revision) r).world
    by (Err why) e = h
    by (Ok t) e = applied_shown holder w member revision t e h
