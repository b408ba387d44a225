-- Keepalives that share a call have one rank and its number; those of a lease that are due have one kind, and those that wait for the
-- next call another.
use Rattle.std.proofs.Common.{◌≡◌, ℕ, Bool, true, false, cond, ◌&&◌, ◌==◌, List, [], ◌∷◌, Option, None, Some, refl, ◌∙◌, ap}
use Rattle.etcd_types.specs.declared.request.Request.{Request}
use Rattle.etcd_types.specs.declared.request.Request.TheVariants as request
use Rattle.wait_model.specs.declared.sending.Sending.TheVariants as sending
use Rattle.read_model.specs.declared.asked.Asked.{Asked}
use Rattle.read_model.specs.declared.asked.Stage.{Stage}
use Rattle.read_model.specs.declared.asked.Stage.TheVariants as stage
use Rattle.core_model.specs.Groups.{keeps, is_due_stage, is_out_stage, waits_next, due_since, group_since, or_else}
use Rattle.ask_tables.specs.Marks.{is_alike, stage_rank, stage_number}
use Rattle.known_asks.specs.OneByOne.{first_of}
use Rattle.ask_tables.specs.RowMarks.{group_kind, group_key, by_group, has_key}

not_out : (call : ℕ) (s : Stage) → (stage_rank s == 3) && (stage_number s == call) ≡ false → is_out_stage call s ≡ false
not_out call (stage.Calling s) e = refl
not_out call stage.Acquiring e = refl
not_out call stage.Joined e = refl
not_out call stage.Behind e = refl
not_out call stage.Writes e = refl
not_out call (stage.Grouped None) e = refl
not_out call (stage.Grouped (Some (sending.Due since))) e = refl
not_out call (stage.Grouped (Some (sending.Out n))) e = e
not_out call (stage.Replied v) e = refl

pub out_alike : (call : ℕ) (a : Asked) → is_alike 3 call a ≡ false → is_out_stage call a.stage ≡ false
out_alike call a e = not_out call a.stage e

turned : (b c : Bool) → b && c ≡ c && b
turned true true = refl
turned true false = refl
turned false true = refl
turned false false = refl

kind_due : (s : Stage) → (group_kind s == 0) ≡ is_due_stage s
kind_due (stage.Calling s) = refl
kind_due stage.Acquiring = refl
kind_due stage.Joined = refl
kind_due stage.Behind = refl
kind_due stage.Writes = refl
kind_due (stage.Grouped None) = refl
kind_due (stage.Grouped (Some (sending.Due since))) = refl
kind_due (stage.Grouped (Some (sending.Out call))) = refl
kind_due (stage.Replied v) = refl

kind_next : (s : Stage) → (group_kind s == 1) ≡ waits_next s
kind_next (stage.Calling s) = refl
kind_next stage.Acquiring = refl
kind_next stage.Joined = refl
kind_next stage.Behind = refl
kind_next stage.Writes = refl
kind_next (stage.Grouped None) = refl
kind_next (stage.Grouped (Some (sending.Due since))) = refl
kind_next (stage.Grouped (Some (sending.Out call))) = refl
kind_next (stage.Replied v) = refl

due_key : (lease : ℕ) (r : Request) (s : Stage) → ((group_key r s).0 == 0) && ((group_key r s).1 == lease) ≡ keeps lease r && is_due_stage s
due_key lease (request.Range a) s = refl
due_key lease (request.Put a) s = refl
due_key lease (request.Delete a) s = refl
due_key lease (request.Txn a) s = refl
due_key lease (request.Compact a b) s = refl
due_key lease (request.Grant a b) s = refl
due_key lease (request.Revoke a) s = refl
due_key lease (request.KeepAlive a) s = ap (λ b. b && (a == lease)) (kind_due s) ∙ turned (is_due_stage s) (a == lease)
due_key lease (request.TimeToLive a b) s = refl
due_key lease request.Leases s = refl
due_key lease (request.Watch a) s = refl

next_key : (lease : ℕ) (r : Request) (s : Stage) → ((group_key r s).0 == 1) && ((group_key r s).1 == lease) ≡ keeps lease r && waits_next s
next_key lease (request.Range a) s = refl
next_key lease (request.Put a) s = refl
next_key lease (request.Delete a) s = refl
next_key lease (request.Txn a) s = refl
next_key lease (request.Compact a b) s = refl
next_key lease (request.Grant a b) s = refl
next_key lease (request.Revoke a) s = refl
next_key lease (request.KeepAlive a) s = ap (λ b. b && (a == lease)) (kind_next s) ∙ turned (waits_next s) (a == lease)
next_key lease (request.TimeToLive a b) s = refl
next_key lease request.Leases s = refl
next_key lease (request.Watch a) s = refl

pub due_is : (lease : ℕ) (a : Asked) → has_key by_group 0 lease a ≡ keeps lease a.request && is_due_stage a.stage
due_is lease a = due_key lease a.request a.stage

pub next_is : (lease : ℕ) (a : Asked) → has_key by_group 1 lease a ≡ keeps lease a.request && waits_next a.stage
next_is lease a = next_key lease a.request a.stage

-- Since when the due group is due.

abbrev pub since_of : Option Asked → Option ℕ
since_of None = None
since_of (Some a) = due_since a.stage

since_if : (b : Bool) (a : Asked) (o : Option Asked) → since_of (cond b (Some a) o) ≡ cond b (due_since a.stage) (since_of o)
since_if true a o = refl
since_if false a o = refl

first_since : (b : Bool) (s : Stage) (x y : Option ℕ) → x ≡ y → cond (b && is_due_stage s) (due_since s) x ≡ cond b (or_else (due_since s) y) y
first_since false s x y e = e
first_since true (stage.Calling s) x y e = e
first_since true stage.Acquiring x y e = e
first_since true stage.Joined x y e = e
first_since true stage.Behind x y e = e
first_since true stage.Writes x y e = e
first_since true (stage.Grouped None) x y e = e
first_since true (stage.Grouped (Some (sending.Due since))) x y e = refl
first_since true (stage.Grouped (Some (sending.Out call))) x y e = e
first_since true (stage.Replied v) x y e = e

pub since_first : (lease : ℕ) (xs : List Asked) → since_of (first_of (has_key by_group 0 lease) xs) ≡ group_since lease xs
since_first lease [] = refl
since_first lease (a ∷ xs) =
    since_if (has_key by_group 0 lease a) a (first_of (has_key by_group 0 lease) xs) ∙ ap (λ b. cond b (due_since a.stage) (since_of (first_of (has_key by_group 0 lease) xs))) (due_is lease a) ∙
    first_since (keeps lease a.request) a.stage (since_of (first_of (has_key by_group 0 lease) xs)) (group_since lease xs) (since_first lease xs)
