-- What becomes of the entries of a write that was answered, key after key.
use Rattle.std.specs.Prelude.{ℕ, Bool, true, ◌&&◌, if◌then◌else◌, List, [], ◌∷◌, map, Option, None, Some}
use Rattle.std.specs.List.{list_any, flat_map}
use Rattle.std.specs.Option.{option_map}
use Rattle.etcd_types.specs.declared.answer.Reply.{Reply}
use Rattle.etcd_types.specs.declared.key_range.KeyRange.{KeyRange}
use Rattle.etcd_types.specs.declared.record.Kv.{Kv}
use Rattle.etcd_types.specs.Keys.{same}
use Rattle.proxy_model.specs.declared.lease.Entry.{Entry}
use Rattle.proxy_model.specs.declared.ownership.Owner.{Owner}
use Rattle.proxy_model.specs.Keyed.{Keyed, at, with_at}
use Rattle.proxy_model.specs.LeaseTable.{is_writing, written, unwritten}
use Rattle.store_model.specs.LeftRecords.{left_by}
use Rattle.wait_model.specs.declared.found.Found.{Found}
use Rattle.wait_model.specs.declared.write.Write.{Write}
use Rattle.wait_model.specs.ForeignOwnership.{found_of, is_own}
use Rattle.wait_model.specs.Operations.{operations}
use Rattle.wait_model.specs.Phases.{if_written, is_of}
use Rattle.wait_model.specs.Stages.{is_owner}
use Rattle.revoke_calls.specs.declared.left.Left.{Left}

-- a turn of what stands at the key of each range
abbrev pub turned : (List ℕ → Option Entry → Option Entry) → List KeyRange → Keyed Entry → Keyed Entry
turned t [] es = es
turned t (r ∷ rs) es = turned t rs (with_at es r.key (t r.key (at es r.key)))

-- the ranges whose entries an owner's call compares
abbrev pub owned_ranges : Write → List KeyRange
owned_ranges w = if is_owner w.stage then w.ranges else []

-- an entry that is being written is gone
abbrev pub dropped_turn : List ℕ → Option Entry → Option Entry
dropped_turn k o = if is_writing o then None else o

-- one of these owners is the entry
abbrev pub is_shown_by : List Owner → List ℕ → Option Entry → Bool
is_shown_by os k o = list_any (λ x. same x.key k && is_of x.create o) os

-- an entry that is being written is held again as it was, where it was shown, and else gone
abbrev pub kept_turn : List Owner → List ℕ → Option Entry → Option Entry
kept_turn os k o = if is_writing o then (if is_shown_by os k o then option_map unwritten o else None) else o

-- an entry that is being written takes this record
abbrev pub wrote_turn : Option Kv → Option Entry → Option Entry
wrote_turn kv o = option_map (if_written true (written kv)) o

-- What a write that was done leaves.

abbrev pub left_kv : Write → Reply → List ℕ → Option Entry → Option Kv
left_kv w reply k None = None
left_kv w reply k (Some e) = left_by reply.header.revision k (operations w.request reply.body) e.kv

abbrev pub left_in : Write → Reply → Keyed Entry → KeyRange → Left
left_in w reply es r = record { key = r.key; kv = left_kv w reply r.key (at es r.key) }

abbrev pub lefts_of : Write → Reply → Keyed Entry → List Left
lefts_of w reply es = map (left_in w reply es) (owned_ranges w)

abbrev pub all_wrote : List Left → Keyed Entry → Keyed Entry
all_wrote [] es = es
all_wrote (l ∷ ls) es = all_wrote ls (with_at es l.key (wrote_turn l.kv (at es l.key)))

-- the first of them that is of a key
abbrev pub left_at : List ℕ → List Left → Option Left
left_at k [] = None
left_at k (l ∷ ls) = if same l.key k then Some l else left_at k ls

-- What a write that failed found.

abbrev pub found_if : Option ℕ → ℕ → Keyed Entry → List ℕ × Owner → List Found
found_if session step es o = if is_own session es o then [] else found_of step o ∷ []

abbrev pub found_in : Option ℕ → ℕ → Keyed Entry → Keyed Owner → List Found
found_in session step es os = flat_map (found_if session step es) os
