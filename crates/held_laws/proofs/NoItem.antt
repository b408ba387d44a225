-- Only a take gives a message of a watch.
use Rattle.std.proofs.Common.{◌≡◌, ℕ, Bool, true, false, List, Option, None, Some, Result, Ok, sym, ap, ◌∙◌}
use Rattle.etcd_types.specs.declared.answer.Answer.TheVariants as answer
use Rattle.etcd_types.specs.declared.watch.WatchItem.{WatchItem}
use Rattle.watch_model.specs.declared.stream.StreamJob.{StreamJob}
use Rattle.watch_model.specs.declared.stream.StreamJob.TheVariants as stream
use Rattle.watch_model.specs.Due.{next_job}
use Rattle.core_model.specs.declared.event.CoreEvent.{CoreEvent}
use Rattle.core_model.specs.declared.event.CoreEvent.TheVariants as event
use Rattle.core_model.specs.declared.event.Outcome.{Outcome}
use Rattle.core_model.specs.declared.event.Outcome.TheVariants as outcome
use Rattle.core_model.specs.declared.event.StepFault.{StepFault}
use Rattle.core_model.specs.State.{Core}
use Rattle.core_model.specs.Watching.{stream_job, with_watches}
use Rattle.core_laws.proofs.Watches.Touches.{Side, is_plain, Touch, leaves, hears, ticks, joins, heard_leasing, broke_leasing, cut_leasing, told, cut, took, left_it, opens_leasing, sends}

abbrev pub is_take : CoreEvent → Bool
is_take (event.Take ticket) = true
is_take _ = false

job_no_item : {A : Type 0} (x : Option StreamJob) (c : Core) (i : WatchItem) → (stream_job x c).outcome ≡ Ok (outcome.Item i) → A
job_no_item None c i e = absurd (cc)
job_no_item (Some (stream.Close number)) c i e = absurd (cc)
job_no_item (Some (stream.Open number range start)) c i e = absurd (cc)

pub no_item : (namespace : List ℕ) (a d : Side) (e : CoreEvent) (o : Result Outcome StepFault) (i : WatchItem) → o ≡ Ok (outcome.Item i) → is_take e ≡ false → Touch namespace a e d o → ⊥
no_item namespace a _ _ _ i f n (leaves e o p) = let no' : true ≡ false = sym p ∙ ap (is_plain e) f in cc
no_item namespace a _ _ _ i f n (hears call reply o p) = let no' : true ≡ false = sym p ∙ ap (is_plain (event.Answer call (answer.Done reply))) f in cc
no_item namespace a _ _ _ i f n (ticks word) = cc
no_item namespace a _ _ _ i f n (joins ticket ask word g) = cc
no_item namespace a _ _ _ i f n (heard_leasing number x l) = cc
no_item namespace a _ _ _ i f n (broke_leasing number x l) = cc
no_item namespace a _ _ _ i f n (cut_leasing number l) = cc
no_item namespace a _ _ _ i f n (told number x s g) = cc
no_item namespace a _ _ _ i f n (cut number s g) = cc
no_item namespace a _ _ _ i f n (took ticket w j is g q) = cc
no_item namespace a _ _ _ i f n (left_it ticket) = cc
no_item namespace a _ _ _ i f n (opens_leasing number member q l) = cc
no_item namespace a _ _ _ i f n (sends c s m is g) = job_no_item (next_job c.watches (Some s)).1 (with_watches c (next_job c.watches (Some s)).0) i f
