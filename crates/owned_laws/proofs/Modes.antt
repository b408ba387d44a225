-- How a key is watched while steps go on: what is known of its acquire, of its entry and of the writes over it, and of the calls that are out.
use Rattle.std.proofs.Common.{◌≡◌, ◌⊎◌, ℕ, ◌==◌, Bool, true, false, not, List, [], ◌∷◌, ◌++◌, append-nil, Option, None, Some, refl, sym, subst}
use Rattle.std.specs.List.{list_all, list_any}
use Rattle.etcd_types.specs.declared.request.Request.{Request}
use Rattle.etcd_types.specs.Ranges.{is_one}
use Rattle.etcd_types.specs.Keys.{same}
use Rattle.proxy_model.specs.declared.lease.Entry.{Entry}
use Rattle.proxy_model.specs.declared.lease.Phase.{Phase}
use Rattle.proxy_model.specs.declared.lease.Phase.TheVariants.{Held, Writing}
use Rattle.proxy_model.specs.LeaseTable.{is_writing_phase}
use Rattle.proxy_model.specs.SeveralKeys.{written_ranges}
use Rattle.wait_model.specs.declared.sending.Sending.TheVariants as sending
use Rattle.wait_model.specs.declared.write.Write.{Write}
use Rattle.wait_model.specs.declared.write.WriteStage.{WriteStage}
use Rattle.wait_model.specs.declared.write.WriteStage.TheVariants.{Waiting, Sends, Finds}
use Rattle.wait_model.specs.Covers.{covered, covers, leased}
use Rattle.wait_model.specs.Phases.{phase_sent}
use Rattle.wait_model.specs.declared.wait.WaitCall.{WaitCall}
use Rattle.wait_model.specs.declared.wait.WaitJob.TheVariants as job
use Rattle.wait_model.specs.Writes.{job_of, without_call}
use Rattle.read_model.specs.declared.acquire.Acquire.{Acquire}
use Rattle.read_model.specs.Acquires.{sent_out}
use Rattle.read_model.specs.SessionEnd.{is_due, is_due_acquire}
use Rattle.core_model.specs.State.{Seat}
use Rattle.owned_laws.specs.OwnWrites.{OwnWrite}
use Rattle.owned_laws.specs.Watched.{seat_is}

abbrev pub Seated : Option ℕ → Option Seat → Type 0
Seated None s = Unit {0}
Seated (Some n) s = seat_is n s ≡ true

-- a write of single keys, this one among them, that puts it without a lease
pub record IsAlone (k : List ℕ) (q : Request) : Type 0 where
  pub singles : list_all is_one (written_ranges q) ≡ true
  pub over : covered (written_ranges q) k ≡ true
  pub unleased : leased q k ≡ false

-- Writes of the key that are the owner's own, in their order: how far each came.
pub data Went : Type 0 where
  waits : Went
  -- its call is due, or out under this number
  is_to_go : Went
  is_out : ℕ → Went

pub record Mine : Type 0 where
  pub ticket : ℕ
  pub request : Request
  pub went : Went

abbrev pub StageIs : Went → WriteStage → Type 0
StageIs waits s = s ≡ Waiting
StageIs is_to_go s = (since : ℕ) × (s ≡ Sends true (sending.Due since))
StageIs (is_out call) s = s ≡ Sends true (sending.Out call)

pub record IsMine (m : Mine) (x : Write) : Type 0 where
  pub ticket : x.ticket ≡ m.ticket
  pub request : x.request ≡ m.request
  pub ranges : x.ranges ≡ written_ranges m.request
  pub stage : StageIs m.went x.stage

abbrev pub is_begun : Went → Bool
is_begun waits = false
is_begun is_to_go = true
is_begun (is_out call) = true

-- the call of one of them is due or out
abbrev pub any_begun : List Mine → Bool
any_begun ms = list_any (λ m. is_begun m.went) ms

-- the first of them waits, for no other write
abbrev pub first_waits : List Mine → Bool
first_waits [] = false
first_waits (m ∷ ms) = not (is_begun m.went)

abbrev pub AllAlone : List ℕ → List Mine → Type 0
AllAlone k [] = Unit {0}
AllAlone k (m ∷ ms) = IsAlone k m.request × AllAlone k ms

-- those that wait
abbrev pub waits_as : OwnWrite → Mine
waits_as v = record { ticket = v.ticket; request = v.request; went = waits }

abbrev pub behind_as : List OwnWrite → List Mine
behind_as [] = []
behind_as (v ∷ vs) = waits_as v ∷ behind_as vs

pub none_begun : (vs : List OwnWrite) → any_begun (behind_as vs) ≡ false
none_begun [] = refl
none_begun (v ∷ vs) = none_begun vs

-- The first of an owner's writes: its call is out under this number; or it isn't, and then it may wait, for what other keys of it wait for,
-- or its call is due.
abbrev pub went_as : Option ℕ → Bool → Went
went_as None false = waits
went_as None true = is_to_go
went_as (Some call) begun = is_out call

abbrev pub first_as : OwnWrite → Option ℕ → Bool → Mine
first_as v own begun = record { ticket = v.ticket; request = v.request; went = went_as own begun }

-- and the phase of its entry
abbrev pub phase_as : Option ℕ → Bool → Phase
phase_as None false = Held
phase_as None true = Writing false
phase_as (Some call) begun = Writing false

-- the list is some front of it, and the rest
pub record Parts (vs : List OwnWrite) : Type 0 where
  pub front : List OwnWrite
  pub rest : List OwnWrite
  pub is : vs ≡ front ++ rest

abbrev pub whole_front : (vs : List OwnWrite) → Parts vs
whole_front vs = record { front = vs; rest = []; is = sym (append-nil vs) }

pub rest_alone : (k : List ℕ) (front rest : List OwnWrite) → AllAlone k (behind_as (front ++ rest)) → AllAlone k (behind_as rest)
rest_alone k [] rest h = h
rest_alone k (v ∷ vs) rest h = rest_alone k vs rest h.1

pub part_alone : (k : List ℕ) (vs : List OwnWrite) (c : Parts vs) → AllAlone k (behind_as vs) → AllAlone k (behind_as c.rest)
part_alone k vs c h = rest_alone k c.front c.rest (subst (λ (ws : List OwnWrite). AllAlone k (behind_as ws)) c.is h)

-- ---- writes that aren't sent

-- it waits, or its call is due
abbrev pub is_unsent : WriteStage → Bool
is_unsent Waiting = true
is_unsent (Sends owner (sending.Due since)) = true
is_unsent (Sends owner (sending.Out call)) = false
is_unsent (Finds found) = false

pub record IsThere (k : List ℕ) (v : OwnWrite) (x : Write) : Type 0 where
  pub ticket : x.ticket ≡ v.ticket
  pub over : covers x k ≡ true
  pub unsent : is_unsent x.stage ≡ true

-- these are there, in their order
abbrev pub ThereOf : List ℕ → List OwnWrite → List Write → Type 0
ThereOf k [] ws = Unit {0}
ThereOf k (v ∷ vs) [] = ⊥
ThereOf k (v ∷ vs) (x ∷ ws) = (IsThere k v x × ThereOf k vs ws) ⊎ ThereOf k (v ∷ vs) ws

-- The first of them waits, while the key is held: in a pass it may begin, and then its entry is being written.
pub record MayBegin (Case : Type 0) (mine : Case → List Mine) (phase : Case → Phase) (hold : Bool) (case : Case) : Type 0 where
  pub to : Case
  pub first : OwnWrite
  pub rest : List Mine
  pub held : hold ≡ true
  pub waits : mine case ≡ waits_as first ∷ rest
  pub goes : mine to ≡ first_as first None true ∷ rest
  pub before : phase case ≡ Held
  pub behind : phase to ≡ Writing false

pub record Mode : Type 1 where
  pub key : List ℕ
  -- of the calls that are out
  pub Outs : List WaitCall → Type 0
  -- the writes over the key are these; an acquire of it is unspoiled; this entry stands, and is held or being written by the first of them
  pub over : Bool
  pub mark : Bool
  pub hold : Bool
  -- which of these cases it is isn't known
  pub Case : Type 0
  pub mine : Case → List Mine
  pub phase : Case → Phase
  pub entry : Entry
  -- these writes are over the key, and aren't sent
  pub there : List OwnWrite
  -- while this session is there, and this holds of the acquire at the key, then also that
  pub session : Option ℕ
  pub If : Option Acquire → Type 0
  pub Then : Option Acquire → Type 0
  -- an acquire of the key may end
  pub free : Bool
  pub marked : mark ≡ true → over ≡ true
  pub holding : hold ≡ true → over ≡ true
  pub alone : (c : Case) → AllAlone key (mine c)
  pub behind : (c : Case) → first_waits (mine c) ≡ true → (mark ≡ true) ⊎ MayBegin Case mine phase hold c
  pub writing : (c : Case) → is_writing_phase (phase c) ≡ any_begun (mine c)
  pub still : (c : Case) (b : Bool) → phase_sent b (phase c) ≡ phase c
  pub writes : (c : Case) → any_begun (mine c) ≡ true → hold ≡ true
  pub seated : hold ≡ true → (n : ℕ) × (session ≡ Some n)
  pub less : (call : ℕ) (xs : List WaitCall) → Outs xs → Outs (without_call call xs)
  pub apart : (xs : List WaitCall) (call : ℕ) (j : List ℕ) (create : ℕ) → Outs xs → job_of call xs ≡ Some (job.Rescind j create) → hold ≡ true → same j key ≡ true → (entry.create == create) ≡ false
  pub gone : free ≡ true → If None → (o : Option Acquire) → If o × ((Then o → Then None) × ((mark ≡ true → ⊥) × (hold ≡ true → ⊥)))
  pub fell : (o : Option Acquire) → is_due_acquire o ≡ true → If None → If o × (Then o → Then None × (mark ≡ true → ⊥))
  pub began : (a : Acquire) → is_due a.sending ≡ true → If (Some a)
      → (If None × (Then None → (hold ≡ true → ⊥) → Then (Some a))) ⊎ (((xs : List WaitCall) → Outs xs) × (Then (Some a) × ((hold ≡ true → ⊥) × ((there ≡ []) × ((c : Case) × (mine c ≡ []))))))
  pub sent : (a : Acquire) (call : ℕ) → is_due a.sending ≡ true → If (Some (sent_out call a)) → If (Some a) × (Then (Some a) → Then (Some (sent_out call a)))
