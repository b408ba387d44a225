-- Keepalives of one lease share a call: one is out at most, and one due; those that are asked while one is out wait, and share
-- the next. A group is read off the requests: the keepalives of its lease at the same stage.
use Rattle.std.specs.Prelude.{ℕ, Bool, true, false, ◌&&◌, ◌==◌, if◌then◌else◌, List, [], ◌∷◌, map, Option, None, Some}
use Rattle.std.specs.List.{list_any}
use Rattle.etcd_types.specs.declared.request.Request.{Request}
use Rattle.etcd_types.specs.declared.request.Request.TheVariants as request
use Rattle.wait_model.specs.declared.sending.Sending.TheVariants as sending
use Rattle.read_model.specs.declared.asked.Asked.{Asked}
use Rattle.read_model.specs.declared.asked.Stage.{Stage}
use Rattle.read_model.specs.declared.asked.Stage.TheVariants as stage
use Rattle.read_model.specs.declared.asked.Verdict.{Verdict}
use Rattle.read_model.specs.PlainRead.{in_stage}
use Rattle.core_model.specs.declared.out_call.OutCall.{OutCall}
use Rattle.core_model.specs.declared.out_call.OutJob.{OutJob}
use Rattle.core_model.specs.declared.out_call.OutJob.TheVariants as job
use Rattle.core_model.specs.Lookups.{is_out_as}

-- a client's keepalive of this lease
abbrev pub keeps : ℕ → Request → Bool
keeps lease (request.KeepAlive n) = n == lease
keeps lease _ = false

abbrev pub is_group_of : ℕ → OutJob → Bool
is_group_of lease (job.Group n) = n == lease
is_group_of lease _ = false

-- a keepalive of the lease is out for clients, also where they all left
abbrev pub is_out_for : ℕ → List OutCall → Bool
is_out_for lease out = list_any (λ o. is_group_of lease o.job) out

-- since when a group is due
abbrev pub due_since : Stage → Option ℕ
due_since (stage.Grouped (Some (sending.Due since))) = Some since
due_since _ = None

abbrev pub or_else : Option ℕ → Option ℕ → Option ℕ
or_else None second = second
or_else (Some n) second = Some n

abbrev pub group_since : ℕ → List Asked → Option ℕ
group_since lease [] = None
group_since lease (a ∷ rest) = if keeps lease a.request then or_else (due_since a.stage) (group_since lease rest) else group_since lease rest

abbrev pub joining : ℕ → Option ℕ → Stage
joining step None = stage.Grouped (Some (sending.Due step))
joining step (Some since) = stage.Grouped (Some (sending.Due since))

-- a new keepalive waits while one is out, joins the due group, or makes one
abbrev pub group_stage : ℕ → ℕ → List OutCall → List Asked → Stage
group_stage step lease out asks = if is_out_for lease out then stage.Grouped None else joining step (group_since lease asks)

-- The group is sent.

abbrev pub is_due_stage : Stage → Bool
is_due_stage (stage.Grouped (Some (sending.Due since))) = true
is_due_stage _ = false

abbrev pub group_sent : ℕ → ℕ → Asked → Asked
group_sent call lease a =
    if keeps lease a.request && is_due_stage a.stage then in_stage (stage.Grouped (Some (sending.Out call))) a else a

-- Its call has ended: those that are still in it have this reply, and the waiting group is due.

abbrev pub is_out_stage : ℕ → Stage → Bool
is_out_stage call (stage.Grouped (Some s)) = is_out_as call s
is_out_stage call _ = false

abbrev pub waits_next : Stage → Bool
waits_next (stage.Grouped None) = true
waits_next _ = false

abbrev pub group_ended : ℕ → ℕ → ℕ → Verdict → Asked → Asked
group_ended step call lease v a =
    if is_out_stage call a.stage then in_stage (stage.Replied v) a
    else if keeps lease a.request && waits_next a.stage then in_stage (stage.Grouped (Some (sending.Due step))) a
    else a

abbrev pub groups_ended : ℕ → ℕ → ℕ → Verdict → List Asked → List Asked
groups_ended step call lease v asks = map (group_ended step call lease v) asks
