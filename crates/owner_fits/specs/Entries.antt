-- What holds of the keys that one proxy owns: they may be owned, and none of them is being put with a lease (the leasing cache of
-- etcd's clientv3).
use Rattle.std.specs.Prelude.{◌≡◌, ℕ, Bool, true, not, ◌&&◌, List}
use Rattle.std.specs.List.{list_all}
use Rattle.proxy_model.specs.declared.lease.Entry.{Entry}
use Rattle.proxy_model.specs.Keyed.{Keyed, at}
use Rattle.proxy_model.specs.LeaseTable.{is_writing}
use Rattle.wait_model.specs.declared.write.Write.{Write}
use Rattle.wait_model.specs.Covers.{covers, leased}
use Rattle.wait_model.specs.Stages.{is_owner}
use Rattle.read_model.specs.Fits.{is_owned}
use Rattle.read_model.specs.PlainRead.{is_ownable}

-- it doesn't put the key with a lease as its owner
abbrev pub is_unleased : List ℕ → Write → Bool
is_unleased k w = not (is_owner w.stage && (covers w k && leased w.request k))

-- by the leasing prefix
pub record EntriesFit (prefix : List ℕ) (entries : Keyed Entry) (writes : List Write) : Type 0 where
  -- what is held or being written may be owned
  pub owned : (k : List ℕ) → is_owned (at entries k) ≡ true → is_ownable prefix k ≡ true
  -- what is being written isn't put with a lease
  pub unleased : (k : List ℕ) → is_writing (at entries k) ≡ true → list_all (is_unleased k) writes ≡ true
