-- What is asked of the writes and acquires: a write is handed in, behind all others; an acquire begins, is spoiled, and ends.
use Rattle.std.specs.Prelude.{ℕ, Bool, true, false, List, [], ◌∷◌, ◌++◌, Option, None, Some}
use Rattle.etcd_types.specs.declared.request.Request.{Request}
use Rattle.proxy_model.specs.Keyed.{at, with_at, changed_at}
use Rattle.proxy_model.specs.SeveralKeys.{written_ranges}
use Rattle.wait_model.specs.declared.write.Write.{Write}
use Rattle.wait_model.specs.declared.write.WriteStage.TheVariants.{Waiting}
use Rattle.wait_model.specs.State.{Ownership}

abbrev pub new_write : ℕ → Request → Write
new_write ticket ask = record { ticket = ticket; request = ask; ranges = written_ranges ask; stage = Waiting }

abbrev pub submitted : ℕ → Request → Ownership → Ownership
submitted ticket ask own = record own { waits = record own.waits { writes = own.waits.writes ++ new_write ticket ask ∷ [] } }

abbrev pub acquire_begun : List ℕ → Ownership → Ownership
acquire_begun k own = record own { waits = record own.waits { spoiled = with_at own.waits.spoiled k (Some false) } }

abbrev pub acquire_spoiled : List ℕ → Ownership → Ownership
acquire_spoiled k own = record own { waits = record own.waits { spoiled = changed_at own.waits.spoiled k (λ s. true) } }

abbrev pub acquire_ended : List ℕ → Ownership → Ownership
acquire_ended k own = record own { waits = record own.waits { spoiled = with_at own.waits.spoiled k None } }

-- it was spoiled
abbrev pub is_true : Option Bool → Bool
is_true None = false
is_true (Some b) = b

abbrev pub is_spoiled : List ℕ → Ownership → Bool
is_spoiled k own = is_true (at own.waits.spoiled k)
