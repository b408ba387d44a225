-- What a message on the leasing stream says, notice by notice.
use Rattle.std.specs.Prelude.{ℕ, Bool, not, ◌&&◌, if◌then◌else◌, List, [], ◌∷◌, Option, is_some}
use Rattle.std.specs.List.{flat_map}
use Rattle.etcd_types.specs.declared.watch.Event.{Event}
use Rattle.etcd_types.specs.declared.watch.Change.{Change}
use Rattle.etcd_types.specs.declared.watch.Change.TheVariants as change
use Rattle.etcd_types.specs.Keys.{same}
use Rattle.proxy_model.specs.declared.lease.Entry.{Entry}
use Rattle.proxy_model.specs.Foreign.{revoke_word}
use Rattle.wait_model.specs.Notices.{owned_key}
use Rattle.wait_model.specs.Phases.{is_session}
use Rattle.revoke_calls.specs.declared.notices.Notice.{Notice}
use Rattle.revoke_calls.specs.declared.notices.Notice.TheVariants.{Revoked, Deleted}

abbrev pub notice_of : List ℕ → Change → List Notice
notice_of prefix (change.Put kv) = if same kv.value revoke_word then Revoked (owned_key prefix kv.key) kv.create kv.lease ∷ [] else []
notice_of prefix (change.Delete k revision) = Deleted (owned_key prefix k) revision ∷ []

abbrev pub notice_in : List ℕ → Event → List Notice
notice_in prefix e = notice_of prefix e.change

abbrev pub notices_of : List ℕ → List Event → List Notice
notices_of prefix events = flat_map (notice_in prefix) events

-- it isn't known, and stands under the live session
abbrev pub is_unknown : Option ℕ → ℕ → Option Entry → Bool
is_unknown session lease o = is_session session lease && not (is_some o)
