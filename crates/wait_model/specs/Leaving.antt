-- Leaving: an entry that is given up has a rescind due or out. Any answer to it removes the entry of this key with that create
-- revision and no other, and then the key rests for two seconds, in which no acquire of it begins.
use Rattle.std.specs.Prelude.{ℕ, ◌+◌, Bool, false, ◌==◌, if◌then◌else◌, List, Option, None, Some}
use Rattle.etcd_types.specs.declared.answer.Answer.{Answer}
use Rattle.etcd_types.specs.declared.answer.Answer.TheVariants as answer
use Rattle.proxy_model.specs.Keyed.{at, with_at, changed_at}
use Rattle.proxy_model.specs.Leaving.{guard_held}
use Rattle.proxy_model.specs.Limits.{capped}
use Rattle.wait_model.specs.declared.wait.Settled.TheVariants as settled
use Rattle.wait_model.specs.State.{Ownership}
use Rattle.wait_model.specs.GuardedAnswers.{Ending}
use Rattle.wait_model.specs.Phases.{is_of, rescind_sent}

-- milliseconds
abbrev pub rest : ℕ
rest = 2000

abbrev pub rescinded : List ℕ → ℕ → ℕ → Ownership → Ownership
rescinded k create now own =
    if is_of create (at own.entries k) then record { entries = with_at own.entries k None; waits = record own.waits { quiet = with_at own.waits.quiet k (Some (capped (now + rest))) } }
    else own

-- nothing, where the answer can't be one to a rescind
abbrev pub if_read : Option Bool → Ownership → Option Ending
if_read None own = None
if_read (Some held) own = Some (record { own = own; settled = settled.Nothing })

abbrev pub rescind_answered : Answer → Ownership → Option Ending
rescind_answered (answer.Done reply) own = if_read (guard_held reply.body) own
rescind_answered (answer.Refused r) own = Some (record { own = own; settled = settled.Nothing })

-- it was lost: it is due again, where that entry still stands
abbrev pub rescind_lost : List ℕ → ℕ → Ownership → Ending
rescind_lost k create own =
    record { own = record own { entries = changed_at own.entries k (λ e. if e.create == create then rescind_sent false e else e) }; settled = settled.Nothing }

-- the moment of a key; 0 where it has none
abbrev pub moment_or_zero : Option ℕ → ℕ
moment_or_zero None = 0
moment_or_zero (Some moment) = moment

abbrev pub quiet_of : Ownership → List ℕ → ℕ
quiet_of own k = moment_or_zero (at own.waits.quiet k)
