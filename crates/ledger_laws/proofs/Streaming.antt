-- The numbers of a proxy's streams: each is given once, so where a stream is gone it stays so; and a stream that is closed was there, and
-- is gone then.
use Rattle.std.proofs.Common.{◌≡◌, ℕ, ◌+◌, ◌≤◌, nat_le, nat_lt, Bool, true, false, List, Option, None, Some, Result, Ok, refl, ap, sym, subst, ◌∙◌, arith}
use Rattle.std.proofs.lemmas.Bool.{leb-true, ltb-true}
use Rattle.std.proofs.lemmas.Bool.Decides.{nat_tests}
use Rattle.etcd_types.specs.declared.request.Request.{Request}
use Rattle.core_model.specs.declared.event.CoreEvent.{CoreEvent}
use Rattle.core_model.specs.declared.event.CoreEvent.TheVariants as event
use Rattle.core_model.specs.declared.event.Outcome.{Outcome}
use Rattle.core_model.specs.declared.event.Outcome.TheVariants as outcome
use Rattle.core_model.specs.declared.event.Job.TheVariants as job
use Rattle.core_model.specs.declared.event.StepFault.{StepFault}
use Rattle.core_model.specs.Heard.{later_header}
use Rattle.core_model.specs.LeasingStream.{item_header}
use Rattle.core_model.specs.Watching.{stream_job, with_watches}
use Rattle.watch_model.specs.declared.stream.StreamPhase.{StreamPhase}
use Rattle.watch_model.specs.declared.stream.StreamPhase.TheVariants as phase
use Rattle.watch_model.specs.Cuts.{cut_stream}
use Rattle.watch_model.specs.Due.{sent}
use Rattle.watch_model.specs.Lookups.{stream_at, without_stream, numbered, watch_at}
use Rattle.watch_model.specs.State.{Stream, Broadcasts}
use Rattle.watch_model.proofs.Streams.{at_number, none_above, number_itself}
use Rattle.watch_laws.proofs.Standing.{none_without}
use Rattle.core_laws.proofs.Watches.Touches.{Side, is_plain, Touch, leaves, hears, ticks, joins, heard_leasing, broke_leasing, cut_leasing, told, cut, took, left_it, opens_leasing, sends}
use Rattle.held_laws.proofs.Holding.{IsApart}
use Rattle.held_laws.proofs.StreamSteps.{Stays, cut_stays, cut_gone, cuts_grow, told_stays, told_grows, taken_stays, taken_grows, removed_stays, removed_grows, joined_stays, joined_grows, sent_stays, sent_grows}
use Rattle.held_laws.proofs.Streams.{found_is}

-- no number is given twice
pub record NoneComes (b d : Broadcasts) : Type 0 where
  pub given : b.given ≤ d.given
  pub none : (n : ℕ) → n ≤ b.given → stream_at n b.streams ≡ None → stream_at n d.streams ≡ None

by_stays : (m : ℕ) (b d : Broadcasts) → b.given ≤ d.given → Stays m b.given b.streams d.streams → NoneComes b d
by_stays m b d g s = record { given = g; none = s.none }

none_itself : (b : Broadcasts) → NoneComes b b
none_itself b = record { given = omega arith; none = λ n l e. e }

-- one number more is given, to the leasing stream
one_more : (b : Broadcasts) → NoneComes b (record b { given = b.given + 1 })
one_more b = record { given = omega arith; none = λ n l e. e }

pub touch_none : (namespace : List ℕ) (a d : Side) (e : CoreEvent) (o : Result Outcome StepFault) → Touch namespace a e d o → NoneComes a.broadcasts d.broadcasts
touch_none namespace a _ _ _ (leaves e o p) = none_itself a.broadcasts
touch_none namespace a _ _ _ (hears call reply o p) = none_itself a.broadcasts
touch_none namespace a _ _ _ (ticks word) = one_more a.broadcasts
touch_none namespace a _ _ _ (joins ticket ask word f) = by_stays 0 a.broadcasts _ (joined_grows a.broadcasts ticket ask a.header) (joined_stays 0 a.broadcasts ticket ask a.header)
touch_none namespace a _ _ _ (heard_leasing number x l) = none_itself a.broadcasts
touch_none namespace a _ _ _ (broke_leasing number x l) = one_more a.broadcasts
touch_none namespace a _ _ _ (cut_leasing number l) = one_more a.broadcasts
touch_none namespace a _ _ _ (told number x s f) =
    let h = later_header a.header (item_header x) in
    by_stays s.number a.broadcasts _ (told_grows a.broadcasts s h namespace x) (told_stays a.broadcasts s h namespace x)
touch_none namespace a _ _ _ (cut number s f) = by_stays s.number a.broadcasts _ (cuts_grow a.broadcasts s) (cut_stays s.number a.broadcasts.given a.broadcasts s refl)
touch_none namespace a _ _ _ (took ticket w i is f q) = by_stays 0 a.broadcasts _ (taken_grows a.broadcasts a.header w) (taken_stays 0 a.broadcasts a.header w)
touch_none namespace a _ _ _ (left_it ticket) =
    let o = watch_at ticket a.broadcasts.watches in
    by_stays 0 a.broadcasts _ (removed_grows a.broadcasts ticket o) (removed_stays 0 a.broadcasts ticket o)
touch_none namespace a _ _ _ (opens_leasing number member q l) = none_itself a.broadcasts
touch_none namespace a _ _ _ (sends c s m is f) = by_stays s.number a.broadcasts _ (sent_grows a.broadcasts s) (sent_stays a.broadcasts s)

-- ---- the leasing stream's number

still_apart : (l : Option ℕ) (b d : Broadcasts) → NoneComes b d → IsApart l b → IsApart l d
still_apart None b d k i = tt
still_apart (Some n) b d k i = (let g = k.given in let l = i.0 in omega (arith, g, l), k.none n i.0 i.1)

anew_apart : (b : Broadcasts) → numbered 0 b.given b.streams ≡ true → IsApart (Some (b.given + 1)) (record b { given = b.given + 1 })
anew_apart b n = (omega arith, none_above 0 b.given (b.given + 1) b.streams n (omega arith))

pub touch_apart : (namespace : List ℕ) (a d : Side) (e : CoreEvent) (o : Result Outcome StepFault) → numbered 0 a.broadcasts.given a.broadcasts.streams ≡ true → (t : Touch namespace a e d o) → IsApart a.leasing a.broadcasts → IsApart d.leasing d.broadcasts
touch_apart namespace a _ _ _ n (ticks word) k = anew_apart a.broadcasts n
touch_apart namespace a _ _ _ n (broke_leasing number x l) k = anew_apart a.broadcasts n
touch_apart namespace a _ _ _ n (cut_leasing number l) k = anew_apart a.broadcasts n
touch_apart namespace a _ _ _ n (leaves e o p) k = k
touch_apart namespace a _ _ _ n (hears call reply o p) k = k
touch_apart namespace a _ _ _ n (joins ticket ask word f) k = still_apart a.leasing a.broadcasts _ (touch_none namespace a _ _ _ (joins ticket ask word f)) k
touch_apart namespace a _ _ _ n (heard_leasing number x l) k = k
touch_apart namespace a _ _ _ n (told number x s f) k = still_apart a.leasing a.broadcasts _ (touch_none namespace a _ _ _ (told number x s f)) k
touch_apart namespace a _ _ _ n (cut number s f) k = still_apart a.leasing a.broadcasts _ (touch_none namespace a _ _ _ (cut number s f)) k
touch_apart namespace a _ _ _ n (took ticket w i is f q) k = still_apart a.leasing a.broadcasts _ (touch_none namespace a _ _ _ (took ticket w i is f q)) k
touch_apart namespace a _ _ _ n (left_it ticket) k = still_apart a.leasing a.broadcasts _ (touch_none namespace a _ _ _ (left_it ticket)) k
touch_apart namespace a _ _ _ n (opens_leasing number member q l) k = k
touch_apart namespace a _ _ _ n (sends c s m is f) k = still_apart a.leasing a.broadcasts _ (touch_none namespace a _ _ _ (sends c s m is f)) k

-- ---- a stream is cut

none_some : {A : Type 0} (s : Stream) → ◌≡◌ {A = Option Stream} None (Some s) → A
none_some s e = absurd (cc)

-- a number that a stream has was given
pub number_given : (b : Broadcasts) (n : ℕ) (s : Stream) → numbered 0 b.given b.streams ≡ true → stream_at n b.streams ≡ Some s → n ≤ b.given
number_given b n s k at = by (nat_le n b.given) refl
  where
    above : (n m : ℕ) → nat_le n m ≡ false → nat_lt m n ≡ true
    above n m e = grind (arith, nat_tests)

    by : (c : Bool) → nat_le n b.given ≡ c → n ≤ b.given
    by true e = leb-true n b.given e
    by false e = none_some s (sym (none_above 0 b.given n b.streams k (ltb-true b.given n (above n b.given e))) ∙ at)

apart_none : (l : Option ℕ) (b : Broadcasts) (n : ℕ) → l ≡ Some n → IsApart l b → stream_at n b.streams ≡ None
apart_none None b n e i = absurd (cc)
apart_none (Some m) b n e i = let same : m ≡ n = cc in ap (λ (k : ℕ). stream_at k b.streams) (sym same) ∙ i.1

unplain : {A : Type 0} (n : ℕ) (o : Outcome) → is_plain (event.Cut n) (Ok o) ≡ true → A
unplain n (outcome.Item i) p = absurd (cc)
unplain n (outcome.Replied a) p = absurd (cc)
unplain n outcome.Waiting p = absurd (cc)
unplain n outcome.Pending p = absurd (cc)
unplain n outcome.Noted p = absurd (cc)
unplain n (outcome.Job None) p = absurd (cc)
unplain n (outcome.Job (Some (job.Call own member ticket q))) p = absurd (cc)
unplain n (outcome.Job (Some (job.Begin own member q))) p = absurd (cc)
unplain n (outcome.Job (Some (job.Close own))) p = absurd (cc)

-- it is gone
pub cut_is_gone : (namespace : List ℕ) (a d : Side) (n : ℕ) (o : Outcome) → numbered 0 a.broadcasts.given a.broadcasts.streams ≡ true → IsApart a.leasing a.broadcasts → Touch namespace a (event.Cut n) d (Ok o) → stream_at n d.broadcasts.streams ≡ None
cut_is_gone namespace a _ n o k i (leaves e r p) = unplain n o p
cut_is_gone namespace a _ n o k i (cut_leasing number l) = apart_none a.leasing a.broadcasts n l i
cut_is_gone namespace a _ n o k i (cut number s f) =
    let same : s.number ≡ n = at_number n a.broadcasts.streams s f in
    subst (λ (m : ℕ). stream_at m (cut_stream a.broadcasts s).streams ≡ None) same (cut_gone a.broadcasts s (number_given a.broadcasts s.number s k (ap (λ (m : ℕ). stream_at m a.broadcasts.streams) same ∙ f)))

-- ---- one is opened, or closed

-- what an opening has was given
pub begun_given : (namespace : List ℕ) (a d : Side) (own member : ℕ) (q : Request) (o : Result Outcome StepFault) → o ≡ Ok (outcome.Job (Some (job.Begin own member q))) → numbered 0 a.broadcasts.given a.broadcasts.streams ≡ true
    → IsApart a.leasing a.broadcasts → Touch namespace a event.Work d o → own ≤ a.broadcasts.given
begun_given namespace a _ own member q _ e k i (leaves w o p) = absurd (let no' : is_plain event.Work (Ok (outcome.Job (Some (job.Begin own member q)))) ≡ true = subst (λ (x : Result Outcome StepFault). is_plain event.Work x ≡ true) e p in cc)
begun_given namespace a _ own member q _ e k i (opens_leasing number m r l) = by a.leasing l i
  where
    number_is : number ≡ own
    number_is = cc

    by : (o : Option ℕ) → o ≡ Some number → IsApart o a.broadcasts → own ≤ a.broadcasts.given
    by None f i = absurd (cc)
    by (Some n) f i = let same : n ≡ number = cc in let l = i.0 in omega (arith, l, same, number_is)
begun_given namespace a _ own member q _ e k i (sends c s m is f) = by s.phase e
  where
    given : s.number ≤ a.broadcasts.given
    given = number_given a.broadcasts s.number s k (found_is a s k f)

    number_is : (n m l : ℕ) (p r : Request) → ◌≡◌ {A = Result Outcome StepFault} (Ok (outcome.Job (Some (job.Begin n m p)))) (Ok (outcome.Job (Some (job.Begin own l r)))) → n ≡ own
    number_is n m l p r e = cc

    by : (p : StreamPhase) → (stream_job (sent c.watches s p).1 (with_watches c (sent c.watches s p).0)).outcome ≡ Ok (outcome.Job (Some (job.Begin own member q))) → own ≤ a.broadcasts.given
    by (phase.Closing since) g = absurd (cc)
    by phase.Begun g = absurd (cc)
    by (phase.Due since) g = let same = number_is s.number _ member _ q g in omega (arith, given, same)

-- a closing's stream was there, and is gone
pub record Closing (a d : Side) (own : ℕ) : Type 0 where
  pub stream : Stream
  pub there : stream_at own a.broadcasts.streams ≡ Some stream
  pub gone : stream_at own d.broadcasts.streams ≡ None

pub closing_gone : (namespace : List ℕ) (a d : Side) (own : ℕ) (o : Result Outcome StepFault) → o ≡ Ok (outcome.Job (Some (job.Close own))) → numbered 0 a.broadcasts.given a.broadcasts.streams ≡ true → Touch namespace a event.Work d o → Closing a d own
closing_gone namespace a _ own _ e k (leaves w o p) = absurd (let no' : is_plain event.Work (Ok (outcome.Job (Some (job.Close own)))) ≡ true = subst (λ (x : Result Outcome StepFault). is_plain event.Work x ≡ true) e p in cc)
closing_gone namespace a _ own _ e k (opens_leasing number m r l) = absurd (cc)
closing_gone namespace a _ own _ e k (sends c s m is f) = by s.phase e
  where
    found : stream_at s.number a.broadcasts.streams ≡ Some s
    found = found_is a s k f

    number_is : (n : ℕ) → ◌≡◌ {A = Result Outcome StepFault} (Ok (outcome.Job (Some (job.Close n)))) (Ok (outcome.Job (Some (job.Close own)))) → n ≡ own
    number_is n e = cc

    by : (p : StreamPhase) → (stream_job (sent c.watches s p).1 (with_watches c (sent c.watches s p).0)).outcome ≡ Ok (outcome.Job (Some (job.Close own))) → Closing a (record a { broadcasts = (sent a.broadcasts s p).0 }) own
    by (phase.Due since) g = absurd (cc)
    by phase.Begun g = absurd (cc)
    by (phase.Closing since) g =
        let same = number_is s.number g in record {
          stream = s;
          there = ap (λ (n : ℕ). stream_at n a.broadcasts.streams) (sym same) ∙ found;
          gone = subst (λ (n : ℕ). stream_at n (without_stream s.number a.broadcasts.streams) ≡ None) same (none_without s.number s.number a.broadcasts.streams (number_itself s.number));
        }
