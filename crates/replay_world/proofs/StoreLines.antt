-- What comes of a step of the store.
use Rattle.std.proofs.Common.{◌≡◌, ◌≢◌, ◌<◌, ℕ, Bool, true, false, cond, ◌==◌, ◌||◌, nat_lt, List, [], ◌∷◌, length, Option, None, Some, Result, Ok, Err, refl, sym, ◌∙◌, ap, arith}
use Rattle.std.proofs.lemmas.Bool.{lt-ltb}
use Rattle.replay_world.proofs.Turns.{seen_so}
use Rattle.replay_world.specs.Refusals.{not_due_at, below_floor_at}
use Rattle.replay_world.specs.World.{Parts, Stands, Leaves}
use Rattle.script_text.specs.declared.item.Item.{Item}
use Rattle.script_text.specs.declared.item.Item.TheVariants as item
use Rattle.store_model.specs.declared.store_fault.StoreFault.{StoreFault}
use Rattle.store_model.specs.declared.store_fault.StoreFault.TheVariants as store
use Rattle.store_model.specs.Leases.{expired, ended}
use Rattle.store_model.specs.Members.{applied, lacks_member}
use Rattle.store_model.specs.State.{State}
use Rattle.store_model.specs.Transactions.{has_lease}
use Rattle.store_world.specs.declared.store.Store.{Store}
use Rattle.store_world.specs.Faults.{StepsTo, IsFault}
use Rattle.store_world.specs.Store as stored
use Rattle.world_model.specs.declared.fault.WorldFault.{WorldFault}
use Rattle.world_model.specs.declared.fault.WorldFault.TheVariants as fault
use Rattle.world_model.specs.declared.floor.Floor.{Floor}
use Rattle.world_model.specs.Places.{kept_at}
use Rattle.world_model.specs.State.{Numbered, Place, World}
use Rattle.world_model.specs.Steps.{gains, refuses, of_store}
use Rattle.world_model.specs.StoreLines.{store_stepped, not_due, not_due_by, expired_if, expired_by, lease_expired, member_applied}

-- A fault of the store is its step's, where memory wasn't wanting.
pub as_fault : {A : Type 0} (number : ℕ) (r : Result A StoreFault) (f : StoreFault) → of_store number f ≢ fault.NoMemory → IsFault f r → r ≡ Err f
as_fault number r (store.NoSuchLease lease) n e = e
as_fault number r (store.BadApply applied newest) n e = e
as_fault number r (store.NoSuchMember member) n e = e
as_fault number r (store.NoSuchWatch watch) n e = e
as_fault number r (store.NothingToPush watch) n e = e
as_fault number r (store.NotAsked watch) n e = e
as_fault number r (store.NotSynced next newest) n e = e
as_fault number r store.NoMemory n e = absurd (n refl)

-- The store alone changes, or stands for the same.

pub with_stored : (x old : Parts) (w : World) (new : Store) (t : State) → x ≡ old → Stands old w → stored.Stands new t → Stands (record x { store = new }) (record w { store = t })
with_stored x old w new t e s is =
    let s' : Stands x w = seen_so x old w e s in
    record {
      members = s'.members;
      namespace = s'.namespace;
      leasing = s'.leasing;
      places = s'.places;
      calls = s'.calls;
      streams = s'.streams;
      floors = s'.floors;
      store = is;
      lines = s'.lines;
    }

-- Expiries.

not_due_same : (w : World) (o : Option Floor) → not_due_by w o ≡ below_floor_at w.places o
not_due_same w None = refl
not_due_same w (Some f) = refl

pub not_due_is : (x old : Parts) (w : World) (lease : ℕ) → x ≡ old → Stands old w → not_due w lease ≡ not_due_at x.places x.floors lease
not_due_is x old w lease e s =
    let s' : Stands x w = seen_so x old w e s in
    not_due_same w (kept_at w.floors lease)
    ∙ ap (λ (places : Numbered Place). not_due_at places w.floors lease) s'.places
    ∙ ap (λ (floors : Numbered Floor). not_due_at x.places floors lease) s'.floors

expired_there : (s : State) (lease : ℕ) → has_lease s.leases lease ≡ true → expired s lease ≡ Ok (ended s lease)
unfolding expired
expired_there s lease e = ap (λ (b : Bool). cond b (Ok (ended s lease)) (Err (store.NoSuchLease lease))) e

expired_nowhere : (s : State) (lease : ℕ) → has_lease s.leases lease ≡ false → expired s lease ≡ Err (store.NoSuchLease lease)
unfolding expired
expired_nowhere s lease e = ap (λ (b : Bool). cond b (Ok (ended s lease)) (Err (store.NoSuchLease lease))) e

pub not_expired : (w : World) (lease : ℕ) (why : WorldFault) → has_lease w.store.leases lease ≡ true → not_due w lease ≡ Some why → lease_expired w lease ≡ refuses w why
not_expired w lease why e n =
    ap (expired_by w lease) (expired_there w.store lease e) ∙ ap (λ (o : Option WorldFault). expired_if w lease o (ended w.store lease)) n

pub no_lease : (w : World) (lease : ℕ) → has_lease w.store.leases lease ≡ false → lease_expired w lease ≡ refuses w (fault.NoSuchLease lease)
no_lease w lease e = ap (expired_by w lease) (expired_nowhere w.store lease e)

pub expired_so : (x old : Parts) (w : World) (lease : ℕ) (new : Store) (items : List Item) → x ≡ old → Stands old w → not_due_at x.places x.floors lease ≡ None → StepsTo new (expired w.store lease) → items ≡ item.Expired lease ∷ [] → Leaves (record x { store = new }) (lease_expired w lease) (Ok items)
expired_so x old w lease new items e s due to told = record {
  after = record w { store = to.0 };
  so =
      ap (expired_by w lease) to.1
      ∙ ap (λ (o : Option WorldFault). expired_if w lease o to.0) (not_due_is x old w lease e s ∙ due)
      ∙ ap (λ (xs : List Item). gains (record w { store = to.0 }) xs) (sym told);
  stands = with_stored x old w new to.0 e s to.2;
}

pub expiry_refused : (w : World) (lease : ℕ) (f : StoreFault) → of_store 0 f ≢ fault.NoMemory → IsFault f (expired w.store lease) → lease_expired w lease ≡ refuses w (of_store 0 f)
expiry_refused w lease f n e = ap (expired_by w lease) (as_fault 0 (expired w.store lease) f n e)

-- Members that apply revisions.

when_true : {A : Type 0} (b : Bool) (x y : A) → b ≡ true → cond b x y ≡ x
when_true b x y e = ap (λ (t : Bool). cond t x y) e

lacking : (s : State) (member revision : ℕ) → lacks_member s member ≡ true → applied s member revision ≡ Err (store.NoSuchMember member)
unfolding applied
lacking s member revision e = when_true (lacks_member s member) _ _ e

pub lacks_zero : (s : State) (member : ℕ) → member ≡ 0 → lacks_member s member ≡ true
lacks_zero s member e = ap (λ (m : ℕ). lacks_member s m) e

pub lacks_above : (s : State) (member members : ℕ) → members ≡ length s.applied → members < member → lacks_member s member ≡ true
lacks_above s member members e below =
    or_second (member == 0) (nat_lt (length s.applied) member) (lt-ltb (length s.applied) member (omega (arith, e)))
  where
    or_second : (a b : Bool) → b ≡ true → (a || b) ≡ true
    or_second true b f = refl
    or_second false b f = f

pub no_member : (w : World) (member revision : ℕ) → lacks_member w.store member ≡ true → member_applied w member revision ≡ refuses w (fault.NoSuchMember member)
no_member w member revision e = ap (store_stepped w (item.Applied member revision)) (lacking w.store member revision e)

pub applied_so : (x old : Parts) (w : World) (member revision : ℕ) (new : Store) (items : List Item) → x ≡ old → Stands old w → StepsTo new (applied w.store member revision) → items ≡ item.Applied member revision ∷ [] → Leaves (record x { store = new }) (member_applied w member revision) (Ok items)
applied_so x old w member revision new items e s to told = record {
  after = record w { store = to.0 };
  so =
      ap (store_stepped w (item.Applied member revision)) to.1
      ∙ ap (λ (xs : List Item). gains (record w { store = to.0 }) xs) (sym told);
  stands = with_stored x old w new to.0 e s to.2;
}

pub apply_refused : (w : World) (member revision : ℕ) (f : StoreFault) → of_store 0 f ≢ fault.NoMemory → IsFault f (applied w.store member revision) → member_applied w member revision ≡ refuses w (of_store 0 f)
apply_refused w member revision f n e =
    ap (store_stepped w (item.Applied member revision)) (as_fault 0 (applied w.store member revision) f n e)
