-- What a read that is asked comes to, by what is known of it at once; and what else asking stands on.
use Rattle.std.proofs.Common.{◌≡◌, ℕ, true, Option, None, Some, refl, sym, ◌∙◌, ap}
use Rattle.etcd_types.specs.declared.answer.Answer.{Answer}
use Rattle.etcd_types.specs.declared.request.Request.{Request}
use Rattle.etcd_types.specs.declared.request.Request.TheVariants as request
use Rattle.wait_model.specs.Fits.{is_write}
use Rattle.read_model.specs.declared.asked.Asked.{Asked}
use Rattle.read_model.specs.declared.asked.Stage.{Stage}
use Rattle.read_model.specs.declared.asked.Stage.TheVariants as stage
use Rattle.read_model.specs.declared.asked.Verdict.{Verdict}
use Rattle.read_model.specs.Acquires.{read_asked}
use Rattle.read_model.specs.PlainRead.{decided_ask}
use Rattle.read_model.specs.State.{ground_of}
use Rattle.core_model.specs.declared.event.Outcome.TheVariants as outcome
use Rattle.core_model.specs.Asking.{read_by, read_is_asked}
use Rattle.core_model.specs.ClockWork.{writes_go_on}
use Rattle.core_model.specs.Kinds.{writes_keys}
use Rattle.core_model.specs.Lookups.{moment, reads_of, with_reads}
use Rattle.core_model.specs.State.{Core}
use Rattle.core_model.specs.Stepped.{Stepped, gives, replies}
use Rattle.core_model.specs.Verdicts.{reply_of}
use Rattle.read_steps.specs.Steps.{at_once, after_read}
use Rattle.core_machine.specs.Keeping.{Kept, on}

abbrev by_verdict : Option Verdict → Core → Core → Stepped
by_verdict None before after = gives (writes_go_on after) outcome.Waiting
by_verdict (Some v) before after = replies before (reply_of v)

is_by_verdict : (s : Stage) (before after : Core) → read_by s before after ≡ by_verdict (at_once s) before after
is_by_verdict (stage.Calling s) before after = refl
is_by_verdict stage.Acquiring before after = refl
is_by_verdict stage.Joined before after = refl
is_by_verdict stage.Behind before after = refl
is_by_verdict stage.Writes before after = refl
is_by_verdict (stage.Grouped s) before after = refl
is_by_verdict (stage.Replied v) before after = refl

pub read_replies : (s : Stage) (before after : Core) (v : Verdict) → Some v ≡ at_once s → read_by s before after ≡ replies before (reply_of v)
read_replies s before after v e = is_by_verdict s before after ∙ ap (λ o. by_verdict o before after) (sym e)

pub read_waits : (s : Stage) (before after : Core) → None ≡ at_once s → read_by s before after ≡ gives (writes_go_on after) outcome.Waiting
read_waits s before after e = is_by_verdict s before after ∙ ap (λ o. by_verdict o before after) (sym e)

-- The same of a machine, by what its reads answered.

abbrev Decides : ℕ → Asked → Kept → Option Verdict → Type 0
Decides now a k o = o ≡ at_once (decided_ask (moment k.core now) (ground_of (reads_of k.core)) a).stage

abbrev After : ℕ → Asked → Kept → Option Verdict → Kept → Type 0
After now a k o m = m ≡ on k (with_reads k.core (after_read o (moment k.core now) a (reads_of k.core)))

pub is_replied : (now : ℕ) (a : Asked) (k m : Kept) (o : Option Verdict) (v : Verdict) (x : Answer) → o ≡ Some v → Decides now a k o → After now a k o m → x ≡ reply_of v → read_is_asked (moment k.core now) a k.core ≡ replies m.core x
is_replied now a k m o v x p q r t =
    let same : m ≡ k = r ∙ ap (λ (u : Option Verdict). on k (with_reads k.core (after_read u (moment k.core now) a (reads_of k.core)))) p in
    read_replies (decided_ask (moment k.core now) (ground_of (reads_of k.core)) a).stage k.core (with_reads k.core (read_asked (moment k.core now) a (reads_of k.core))) v (sym p ∙ q)
    ∙ ap (λ (y : Kept). replies y.core (reply_of v)) (sym same) ∙ ap (λ (y : Answer). replies m.core y) (sym t)

pub is_waiting : (now : ℕ) (a : Asked) (k m n : Kept) (o : Option Verdict) → o ≡ None → Decides now a k o → After now a k o m → n ≡ on m (writes_go_on m.core) → read_is_asked (moment k.core now) a k.core ≡ gives n.core outcome.Waiting
is_waiting now a k m n o p q r t =
    let after : m ≡ on k (with_reads k.core (read_asked (moment k.core now) a (reads_of k.core))) = r ∙ ap (λ (u : Option Verdict). on k (with_reads k.core (after_read u (moment k.core now) a (reads_of k.core)))) p in
    read_waits (decided_ask (moment k.core now) (ground_of (reads_of k.core)) a).stage k.core (with_reads k.core (read_asked (moment k.core now) a (reads_of k.core))) (sym p ∙ q)
    ∙ ap (λ (y : Kept). gives (writes_go_on y.core) outcome.Waiting) (sym after) ∙ ap (λ (y : Kept). gives y.core outcome.Waiting) (sym t)

-- one that puts or deletes is a put, a delete or a transaction
pub is_a_write : (q : Request) → writes_keys q ≡ true → is_write q ≡ true
is_a_write (request.Put ask) h = refl
is_a_write (request.Delete ask) h = refl
is_a_write (request.Txn t) h = refl
is_a_write (request.Range ask) h = absurd (cc)
is_a_write (request.Compact revision physical) h = absurd (cc)
is_a_write (request.Grant ttl lease) h = absurd (cc)
is_a_write (request.Revoke lease) h = absurd (cc)
is_a_write (request.KeepAlive lease) h = absurd (cc)
is_a_write (request.TimeToLive lease keys) h = absurd (cc)
is_a_write request.Leases h = absurd (cc)
is_a_write (request.Watch ask) h = absurd (cc)
