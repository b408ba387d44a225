-- At which keys a plain read can come upon something else once what was read of an answer is taken: at that of an entry that was given
-- up, at the key of a write of one key, at none where the answer is about no entry, and else at any.
use Rattle.std.specs.Prelude.{ℕ, Bool, true, false, if◌then◌else◌, List, [], ◌∷◌, Option, None, Some}
use Rattle.etcd_types.specs.declared.key_range.KeyRange.{KeyRange}
use Rattle.etcd_types.specs.Keys.{same}
use Rattle.etcd_types.specs.Ranges.{is_one}
use Rattle.read_model.specs.declared.asked.Asked.{Asked}
use Rattle.read_model.specs.declared.asked.Stage.{Stage}
use Rattle.read_model.specs.PlainRead.{ask_key}
use Rattle.revoke_calls.specs.declared.left.Left.{Left}
use Rattle.revoke_core.specs.declared.answers.ReadAnswer.{ReadAnswer}
use Rattle.revoke_core.specs.declared.answers.ReadAnswer.TheVariants as read
use Rattle.wait_model.specs.declared.write.Write.{Write}
use Rattle.write_answers.specs.declared.reach.Reach.{Reach}
use Rattle.write_answers.specs.declared.reach.Reach.TheVariants.{Nowhere, At, Anywhere}

abbrev pub reaches : Reach → List ℕ → Bool
reaches Nowhere k = false
reaches (At key) k = same key.now k
reaches Anywhere k = true

-- by what a write that was done left
abbrev pub lefts_reach : List Left → List ℕ → Bool
lefts_reach [] k = false
lefts_reach (l ∷ []) k = same l.key k
lefts_reach (l ∷ m ∷ ls) k = true

-- by the ranges of a write that wasn't done
abbrev pub ranges_reach : List KeyRange → List ℕ → Bool
ranges_reach [] k = true
ranges_reach (r ∷ []) k = if is_one r then same r.key k else true
ranges_reach (r ∷ s ∷ rs) k = true

abbrev pub write_reaches : Option Write → List ℕ → Bool
write_reaches None k = false
write_reaches (Some w) k = ranges_reach w.ranges k

abbrev pub reached : ReadAnswer → Option Write → List ℕ → Bool
reached read.Nothing o k = false
reached (read.Rescinded key create) o k = same key k
reached (read.Asked held) o k = false
reached (read.AskRefused r) o k = false
reached (read.Refused r) o k = write_reaches o k
reached (read.Wrote reply lefts) o k = lefts_reach lefts k
reached (read.Blocked os) o k = write_reaches o k

-- the rule for the requests of one key alone: any other stays
abbrev pub at_key : List ℕ → (Asked → Option Stage) → Asked → Option Stage
at_key k rule a = if same (ask_key a) k then rule a else None
