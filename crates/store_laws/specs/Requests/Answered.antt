-- What is told of a request by its answer: the codes of refusals (gRPC, and etcd's `rpctypes`) and the revision of a reply's header
-- (etcd API reference, `ResponseHeader`).
use Rattle.std.specs.Prelude.{◌≡◌, ℕ, Bool, true, false, ◌==◌, ◌||◌, if◌then◌else◌}
use Rattle.etcd_types.specs.declared.code.TheConstants.{INVALID_ARGUMENT, NOT_FOUND, PERMISSION_DENIED, FAILED_PRECONDITION, OUT_OF_RANGE, UNIMPLEMENTED}
use Rattle.etcd_types.specs.declared.request.Request.{Request}
use Rattle.etcd_types.specs.declared.request.Request.TheVariants as request
use Rattle.etcd_types.specs.declared.answer.Answer.TheVariants as answer
use Rattle.etcd_types.specs.declared.answer.Refusal.{Refusal}
use Rattle.etcd_types.specs.declared.answer.Reply.{Reply}
use Rattle.store_model.specs.History.{newest}
use Rattle.store_model.specs.State.{State, applied_by}
use Rattle.store_model.specs.Step.{exec}

-- the codes that say that nothing was done
abbrev pub is_known : ℕ → Bool
is_known code =
    code == INVALID_ARGUMENT || code == NOT_FOUND || code == PERMISSION_DENIED || code == FAILED_PRECONDITION || code == OUT_OF_RANGE || code == UNIMPLEMENTED

abbrev pub RefusalsAreKnown : Type 0
RefusalsAreKnown =
    (s : State) (member : ℕ) (q : Request) (refusal : Refusal) → (exec s member q).1 ≡ answer.Refused refusal → is_known refusal.code ≡ true

-- a range that is read as the member has it
abbrev pub is_serializable : Request → Bool
is_serializable (request.Range ask) = ask.serializable
is_serializable _ = false

-- the revision that a reply tells: the newest after the request, or, of a serializable range, the one that the member has applied
abbrev pub told_revision : State → ℕ → Request → ℕ
told_revision s member q = if is_serializable q then applied_by s member else newest (exec s member q).0.history

-- and it names the member that answered
abbrev pub RepliesTellRevisions : Type 0
RepliesTellRevisions =
    (s : State) (member : ℕ) (q : Request) (reply : Reply) → (exec s member q).1 ≡ answer.Done reply
    → (reply.header.revision ≡ told_revision s member q) × (reply.header.member ≡ member)
