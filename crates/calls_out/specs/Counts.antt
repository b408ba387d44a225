-- How many calls are out for each lease that has one.
use Rattle.std.specs.Prelude.{◌≡◌, ℕ, zero, suc, ◌+◌, ◌-◌, nat_le, if◌then◌else◌, [], ◌∷◌, Option, None, Some}
use Rattle.numbered_rows.specs.Numbered.{Numbered, at, with_at}
use Rattle.core_model.specs.declared.out_call.OutCall.{OutCall}
use Rattle.core_model.specs.declared.out_call.OutJob.{OutJob}
use Rattle.core_model.specs.declared.out_call.OutJob.TheVariants as job
use Rattle.core_model.specs.Groups.{is_group_of}

abbrev pub one_more : Option ℕ → ℕ
one_more None = 1
one_more (Some n) = n + 1

abbrev pub one_less : Option ℕ → Option ℕ
one_less None = None
one_less (Some n) = if nat_le n 1 then None else Some (n - 1)

abbrev pub with_more : ℕ → Numbered ℕ → Numbered ℕ
with_more lease counts = with_at counts lease (Some (one_more (at counts lease)))

abbrev pub with_fewer : ℕ → Numbered ℕ → Numbered ℕ
with_fewer lease counts = with_at counts lease (one_less (at counts lease))

-- a keepalive for clients counts
abbrev pub job_added : OutJob → Numbered ℕ → Numbered ℕ
job_added (job.Group lease) counts = with_more lease counts
job_added _ counts = counts

abbrev pub job_taken : OutJob → Numbered ℕ → Numbered ℕ
job_taken (job.Group lease) counts = with_fewer lease counts
job_taken _ counts = counts

-- how many of the calls are keepalives of the lease for clients
abbrev pub count_of : ℕ → Numbered OutCall → ℕ
count_of lease [] = 0
count_of lease (r ∷ rows) = if is_group_of lease r.1.job then suc (count_of lease rows) else count_of lease rows

-- nothing, or how many
abbrev pub some_count : ℕ → Option ℕ
some_count zero = None
some_count (suc n) = Some (suc n)

abbrev pub Counted : Numbered OutCall → Numbered ℕ → Type 0
Counted rows counts = (lease : ℕ) → at counts lease ≡ some_count (count_of lease rows)
