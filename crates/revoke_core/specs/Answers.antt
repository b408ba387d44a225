-- An answer to a rescind, part by part.
use Rattle.std.specs.Prelude.{ℕ, ◌+◌, Bool, false, if◌then◌else◌, List, Option, None, Some}
use Rattle.etcd_types.specs.declared.answer.Answer.{Answer}
use Rattle.etcd_types.specs.declared.answer.Answer.TheVariants as answer
use Rattle.proxy_model.specs.declared.lease.Entry.{Entry}
use Rattle.proxy_model.specs.Keyed.{Keyed, at, with_at}
use Rattle.proxy_model.specs.Leaving.{guard_held}
use Rattle.proxy_model.specs.Limits.{capped}
use Rattle.wait_model.specs.Leaving.{rest}
use Rattle.wait_model.specs.Phases.{is_of}

-- A rescind: what its answer says, and the entry and the rest of the key.

abbrev pub guard_told : Answer → Option Bool
guard_told (answer.Done reply) = guard_held reply.body
guard_told (answer.Refused r) = Some false

abbrev pub rescinded_entries : List ℕ → ℕ → Keyed Entry → Keyed Entry
rescinded_entries k create es = if is_of create (at es k) then with_at es k None else es

abbrev pub rescinded_quiet : List ℕ → ℕ → ℕ → Keyed Entry → Keyed ℕ → Keyed ℕ
rescinded_quiet k create now es qs = if is_of create (at es k) then with_at qs k (Some (capped (now + rest))) else qs
