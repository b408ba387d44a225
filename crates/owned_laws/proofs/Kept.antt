-- What is so of a proxy where items tell how far an acquire, or a write, of a key came.
use Rattle.std.proofs.Common.{◌≡◌, ℕ, ◌==◌, ◌<◌, Bool, true, not, List, [], ◌∷◌, Option, None, Some, refl}
use Rattle.std.specs.List.{list_all}
use Rattle.proxy_model.specs.declared.lease.Entry.{Entry}
use Rattle.core_model.specs.declared.event.CoreEvent.{CoreEvent}
use Rattle.core_model.specs.ClockWork.{clock_work}
use Rattle.core_model.specs.DueJobs.{first_job}
use Rattle.core_model.specs.Fits.{CoreOk}
use Rattle.core_model.specs.State.{Core}
use Rattle.core_model.specs.Step.{stepped}
use Rattle.core_fits.specs.Fits.{EachOf}
use Rattle.script_text.specs.declared.item.Item.{Item}
use Rattle.world_model.specs.declared.sent_call.SentCall.{SentCall}
use Rattle.world_model.specs.Places.{nth}
use Rattle.owned_laws.specs.OwnWrites.{OwnWrite}
use Rattle.owned_laws.specs.Owned.{Owning, asks, sends, owns, write_asked, write_sent, owned_behind, owner_key, gave_up, owned}
use Rattle.owned_laws.proofs.Cores.{CoreSo, Stands}
use Rattle.owned_laws.proofs.Late.{AllAskedAt, AllOther, all_in_time, all_stay, on_time, waits_on_time, asking_on_time, present_on_time}
use Rattle.owned_laws.proofs.Modes.{AllAlone, behind_as}
use Rattle.owned_laws.proofs.Ready.{IsHeldIn, IsBegunIn, IsKeptIn}
use Rattle.owned_laws.proofs.Steps.{Leaves, steps_by}
use Rattle.owned_laws.proofs.Ways.{OfRescind, CallSo, present, asking, sending_as, writes_own}

-- this call of the proxy's life, by its own number
pub record HasCall (calls : List SentCall) (p life number own : ℕ) : Type 0 where
  pub call : SentCall
  pub there : nth calls number ≡ Some call
  pub own_is : call.own ≡ own
  pub mine : call.proxy ≡ p
  pub lives : call.life ≡ life

-- These writes are over the key, and aren't sent; and where an acquire of the key is due for the ticket, those of them wait for it that were
-- asked since it is.
pub record IsAskingIn (k : List ℕ) (t : ℕ) (vs : List OwnWrite) (c : Core) : Type 0 where
  pub alone : AllAlone k (behind_as vs)
  pub asked : AllAskedAt vs c.asks
  pub so : CoreSo (asking k t vs alone) c
  pub there : CoreSo (present k vs) c

-- at this reading of the clock: as long as their requests aren't late
abbrev pub Asks : List ℕ → ℕ → ℕ → List OwnWrite → Core → Type 0
Asks k now t vs c = all_in_time now vs ≡ true → IsAskingIn k t vs c

-- the acquire is out under its own number, and these writes wait for it
pub record IsSendingIn (k : List ℕ) (own n : ℕ) (vs : List OwnWrite) (c : Core) : Type 0 where
  pub alone : AllAlone k (behind_as vs)
  pub asked : AllAskedAt vs c.asks
  pub so : CoreSo (sending_as k own n vs alone) c

abbrev pub Sends : List ℕ → ℕ → ℕ → ℕ → List OwnWrite → Core → Type 0
Sends k now own n vs c = all_in_time now vs ≡ true → IsSendingIn k own n vs c

abbrev pub are_clients : List OwnWrite → Bool
are_clients vs = list_all (λ v. not (v.ticket == 0)) vs

pub record IsAsking (k : List ℕ) (now t : ℕ) (vs : List OwnWrite) (c : Core) : Type 0 where
  pub clients : are_clients vs ≡ true
  pub so : Asks k now t vs c

pub record IsSending (calls : List SentCall) (bound p life : ℕ) (k : List ℕ) (now number n : ℕ) (vs : List OwnWrite) (c : Core) : Type 0 where
  pub own : ℕ
  pub call : HasCall calls p life number own
  pub below : n < bound
  pub clients : are_clients vs ≡ true
  pub so : Sends k now own n vs c

-- the writes of the owner, the call of the first of which is due, or out under its own number
pub record IsWriting (k : List ℕ) (n create : ℕ) (v : OwnWrite) (vs : List OwnWrite) (own : Option ℕ) (c : Core) : Type 0 where
  pub begun : IsBegunIn k n create v vs own c
  pub asked : AllAskedAt (v ∷ vs) c.asks

abbrev pub Writes : List ℕ → ℕ → ℕ → ℕ → OwnWrite → List OwnWrite → Option ℕ → Core → Type 0
Writes k now n create v vs own c = all_in_time now (v ∷ vs) ≡ true → IsWriting k n create v vs own c

pub record IsAsked (bound : ℕ) (k : List ℕ) (now n create : ℕ) (v : OwnWrite) (vs : List OwnWrite) (c : Core) : Type 0 where
  pub below : n < bound
  pub clients : are_clients (v ∷ vs) ≡ true
  pub so : Writes k now n create v vs None c

pub record IsOut (calls : List SentCall) (bound p life : ℕ) (k : List ℕ) (now n create : ℕ) (v : OwnWrite) (vs : List OwnWrite) (number : ℕ) (c : Core) : Type 0 where
  pub own : ℕ
  pub call : HasCall calls p life number own
  pub below : n < bound
  pub clients : are_clients (v ∷ vs) ≡ true
  pub so : Writes k now n create v vs (Some own) c

abbrev pub Kept : List SentCall → ℕ → ℕ → ℕ → ℕ → List ℕ → ℕ → Owning → Core → Type 0
Kept calls bound p life now k t (asks vs) c = IsAsking k now t vs c
Kept calls bound p life now k t (sends number n vs) c = IsSending calls bound p life k now number n vs c
Kept calls bound p life now k t (owns n create) c = (n < bound) × IsHeldIn k n create c
Kept calls bound p life now k t (write_asked n create v vs) c = IsAsked bound k now n create v vs c
Kept calls bound p life now k t (write_sent n create v vs number) c = IsOut calls bound p life k now n create v vs number c

-- the key is owned, or the first of these writes has begun
pub kept_behind : (calls : List SentCall) (bound p life now : ℕ) (k : List ℕ) (t n create : ℕ) (vs : List OwnWrite) (c : Core) → n < bound → are_clients vs ≡ true → (all_in_time now vs ≡ true → IsKeptIn k n create vs c × AllAskedAt vs c.asks)
    → Kept calls bound p life now k t (owned_behind n create vs) c
kept_behind calls bound p life now k t n create [] c l clients f = (l, (f refl).0)
kept_behind calls bound p life now k t n create (v ∷ vs) c l clients f = record { below = l; clients = clients; so = λ early. let r = f early in record { begun = r.0; asked = r.1 } }

abbrev pub KeysOk : List ℕ → List ℕ → ℕ → List SentCall → List Item → ℕ → ℕ → ℕ → Core → Type 0
KeysOk namespace leasing bound calls items p life now c = (k : List ℕ) (t : ℕ) (o : Owning) → owned namespace leasing k p t items ≡ Some o → Kept calls bound p life now k t o c

-- each rescind that is out was told
abbrev pub Rescinded : List ℕ → List ℕ → List Item → ℕ → OfRescind
Rescinded namespace leasing items p call j create = gave_up (owner_key namespace leasing j) create p items ≡ true

abbrev pub OutsOk : List ℕ → List ℕ → List Item → ℕ → Core → Type 0
OutsOk namespace leasing items p c = EachOf (CallSo (Rescinded namespace leasing items p)) c.own.waits.out

-- ---- the writes of the owner, through a step that lets them be

pub asking_steps : (k : List ℕ) (t : ℕ) (vs : List OwnWrite) (c : Core) (e : CoreEvent) (now : ℕ) → CoreOk c → Stands (clock_work now c) (first_job (clock_work now c)) → AllOther e vs
    → ((alone : AllAlone k (behind_as vs)) → CoreSo (asking k t vs alone) (clock_work now c) → Leaves (asking k t vs alone) (clock_work now c) e) → (CoreSo (present k vs) (clock_work now c) → Leaves (present k vs) (clock_work now c) e) → Asks k now t vs c → Asks k now t vs (stepped c e now).core
asking_steps k t vs c e now ok due other l m s early =
    let u = s early in
    record {
      alone = u.alone;
      asked = all_stay vs c e now ok other u.asked;
      so = steps_by (asking k t vs u.alone) c e now (asking_on_time now k t vs u.alone early c u.asked) due (l u.alone) u.so;
      there = steps_by (present k vs) c e now (present_on_time now k vs early c u.asked) due m u.there;
    }

pub sending_steps : (k : List ℕ) (own n : ℕ) (vs : List OwnWrite) (c : Core) (e : CoreEvent) (now : ℕ) → CoreOk c → Stands (clock_work now c) (first_job (clock_work now c)) → AllOther e vs
    → ((alone : AllAlone k (behind_as vs)) → CoreSo (sending_as k own n vs alone) (clock_work now c) → Leaves (sending_as k own n vs alone) (clock_work now c) e) → Sends k now own n vs c → Sends k now own n vs (stepped c e now).core
sending_steps k own n vs c e now ok due other l s early =
    let u = s early in
    record { alone = u.alone; asked = all_stay vs c e now ok other u.asked; so = steps_by (sending_as k own n vs u.alone) c e now (waits_on_time now k own n vs u.alone early c u.asked) due (l u.alone) u.so }

pub writing_steps : (k : List ℕ) (n create : ℕ) (v : OwnWrite) (vs : List OwnWrite) (own : Option ℕ) (c : Core) (e : CoreEvent) (now : ℕ) → CoreOk c → Stands (clock_work now c) (first_job (clock_work now c)) → AllOther e (v ∷ vs)
    → ((alone : AllAlone k (behind_as (v ∷ vs))) (entry : Entry) → entry.create ≡ create → CoreSo (writes_own k n v vs own alone entry) (clock_work now c) → Leaves (writes_own k n v vs own alone entry) (clock_work now c) e) → Writes k now n create v vs own c
    → Writes k now n create v vs own (stepped c e now).core
writing_steps k n create v vs own c e now ok due other l s early =
    let u = s early in
    let b = u.begun in
    let M = writes_own k n v vs own b.alone b.entry in
    record {
      begun = record { entry = b.entry; created = b.created; alone = b.alone; so = steps_by M c e now (on_time now k n v vs own b.alone b.entry early c u.asked) due (l b.alone b.entry b.created) b.so };
      asked = all_stay (v ∷ vs) c e now ok other u.asked;
    }
