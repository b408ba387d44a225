-- What the notices of a message do, part by part.
use Rattle.std.specs.Prelude.{ℕ, Bool, true, nat_lt, false, if◌then◌else◌, List, [], ◌∷◌, map, Option, None, Some, is_some}
use Rattle.etcd_types.specs.Keys.{same}
use Rattle.proxy_model.specs.declared.lease.Entry.{Entry}
use Rattle.proxy_model.specs.Keyed.{Keyed, at, with_at, changed_at}
use Rattle.wait_model.specs.declared.write.Write.{Write}
use Rattle.wait_model.specs.ForeignOwnership.{write_gone}
use Rattle.wait_model.specs.Notices.{revoked_turn, deleted_turn}
use Rattle.wait_model.specs.State.{Ownership}
use Rattle.revoke_calls.specs.declared.notices.Notice.{Notice}
use Rattle.revoke_calls.specs.declared.notices.Notice.TheVariants.{Revoked, Deleted}

-- the parts of the state that a notice is about
pub record Told : Type 0 where
  pub entries : Keyed Entry
  pub spoiled : Keyed Bool
  pub writes : List Write

abbrev pub told_of : Ownership → Told
told_of own = record { entries = own.entries; spoiled = own.waits.spoiled; writes = own.waits.writes }

-- the state with these parts
abbrev pub with_told : Ownership → Told → Ownership
with_told own t = record { entries = t.entries; waits = record own.waits { spoiled = t.spoiled; writes = t.writes } }

abbrev pub revoked_spoiled : List ℕ → Keyed Bool → Keyed Bool
revoked_spoiled k ss = if is_some (at ss k) then changed_at ss k (λ s. true) else ss

abbrev pub revoked_entry : Option ℕ → List ℕ → ℕ → ℕ → Keyed Entry → Keyed Entry
revoked_entry session k create lease es = with_at es k (revoked_turn session create lease (at es k))

abbrev pub revoked_entries : Option ℕ → List ℕ → ℕ → ℕ → Keyed Bool → Keyed Entry → Keyed Entry
revoked_entries session k create lease ss es = if is_some (at ss k) then es else revoked_entry session k create lease es

abbrev pub deleted_entries : List ℕ → ℕ → Keyed Entry → Keyed Entry
deleted_entries k revision es = with_at es k (deleted_turn revision (at es k))

abbrev pub told_one : Option ℕ → Notice → Told → Told
told_one session (Revoked k create lease) t =
    record { entries = revoked_entries session k create lease t.spoiled t.entries; spoiled = revoked_spoiled k t.spoiled; writes = t.writes }
told_one session (Deleted k revision) t =
    record { entries = deleted_entries k revision t.entries; spoiled = t.spoiled; writes = map (write_gone (same k)) t.writes }

abbrev pub told_all : Option ℕ → List Notice → Told → Told
told_all session [] t = t
told_all session (n ∷ ns) t = told_all session ns (told_one session n t)

-- Tests of one entry.

-- it was created before
abbrev pub is_older : ℕ → Option Entry → Bool
is_older revision None = false
is_older revision (Some e) = nat_lt e.create revision
