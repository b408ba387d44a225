-- Each step of a proxy holds nothing back of its watches, and keeps the number of its leasing stream apart from those of the others.
use Rattle.std.proofs.Common.{◌≡◌, ℕ, ◌+◌, ◌≤◌, true, List, Option, None, Some, Result, refl, arith}
use Rattle.watch_model.specs.State.{Broadcasts}
use Rattle.watch_model.specs.Lookups.{stream_at, watch_at, numbered}
use Rattle.watch_model.specs.Story.{Story, Received, Rising, Holds}
use Rattle.watch_laws.specs.Closings.{ClosingsAreLeft}
use Rattle.watch_model.proofs.Streams.{none_above}
use Rattle.core_model.specs.declared.event.CoreEvent.{CoreEvent}
use Rattle.core_model.specs.declared.event.Outcome.{Outcome}
use Rattle.core_model.specs.declared.event.StepFault.{StepFault}
use Rattle.core_model.specs.Heard.{later_header}
use Rattle.core_model.specs.LeasingStream.{item_header}
use Rattle.core_laws.specs.Watches.Streams as streams
use Rattle.core_laws.specs.Watches.Streams.{IsNew, received_by}
use Rattle.core_laws.proofs.Watches.Holding.{step_both, touch_both}
use Rattle.core_laws.proofs.Watches.Touches.{Side, with_step, Touch, leaves, hears, ticks, joins, heard_leasing, broke_leasing, cut_leasing, told, cut, took, left_it, opens_leasing, sends}
use Rattle.held_laws.proofs.StreamSteps.{Stays, told_stays, cut_stays, taken_stays, removed_stays, joined_stays, sent_stays, told_grows, cuts_grow, joined_grows, taken_grows, removed_grows, sent_grows}

-- the leasing stream has a number that was given, and to no client stream
abbrev pub IsApart : Option ℕ → Broadcasts → Type 0
IsApart None b = Unit {0}
IsApart (Some n) b = (n ≤ b.given) × (stream_at n b.streams ≡ None)

pub record SideOk (story : Story) (got : Received) (a : Side) : Type 0 where
  pub holds : Holds story got a.broadcasts
  pub closings : ClosingsAreLeft a.broadcasts
  pub apart : IsApart a.leasing a.broadcasts

-- a message of a stream tells what the story has
abbrev pub IsTold : Story → List ℕ → Side → CoreEvent → Type 0
IsTold story namespace a e = streams.IsTold story namespace a.broadcasts e

pub stepped_ok : (story : Story) (got : Received) (a : Side) (n : ℕ) → SideOk story got a → SideOk story got (record a { broadcasts = with_step a.broadcasts n })
stepped_ok story got a n h =
    let k = step_both story got a.broadcasts n (h.holds, h.closings) in
    record { holds = k.0; closings = k.1; apart = still a.leasing h.apart }
  where
    still : (l : Option ℕ) → IsApart l a.broadcasts → IsApart l (with_step a.broadcasts n)
    still None i = tt
    still (Some k) i = i

-- the leasing stream's number stays apart where the numbers that were given are only taken away
still_apart : (m : ℕ) (l : Option ℕ) (b d : Broadcasts) → b.given ≤ d.given → Stays m b.given b.streams d.streams → IsApart l b → IsApart l d
still_apart m None b d g s i = tt
still_apart m (Some n) b d g s i = (let k = i.0 in omega (arith, g, k), s.none n i.0 i.1)

-- the leasing stream's new number is above those of the streams
anew_apart : (a : Side) → numbered 0 a.broadcasts.given a.broadcasts.streams ≡ true → (a.broadcasts.given + 1 ≤ a.broadcasts.given + 1) × (stream_at (a.broadcasts.given + 1) a.broadcasts.streams ≡ None)
anew_apart a n = (omega arith, none_above 0 a.broadcasts.given (a.broadcasts.given + 1) a.broadcasts.streams n (omega arith))

touch_apart : (namespace : List ℕ) (a d : Side) (e : CoreEvent) (o : Result Outcome StepFault) → numbered 0 a.broadcasts.given a.broadcasts.streams ≡ true → IsApart a.leasing a.broadcasts → Touch namespace a e d o → IsApart d.leasing d.broadcasts
touch_apart namespace a _ _ _ n k (leaves e o p) = k
touch_apart namespace a _ _ _ n k (hears call reply o p) = k
touch_apart namespace a _ _ _ n k (ticks word) = anew_apart a n
touch_apart namespace a _ _ _ n k (joins ticket ask word f) = still_apart 0 a.leasing a.broadcasts _ (joined_grows a.broadcasts ticket ask a.header) (joined_stays 0 a.broadcasts ticket ask a.header) k
touch_apart namespace a _ _ _ n k (heard_leasing number x l) = k
touch_apart namespace a _ _ _ n k (broke_leasing number x l) = anew_apart a n
touch_apart namespace a _ _ _ n k (cut_leasing number l) = anew_apart a n
touch_apart namespace a _ _ _ n k (told number x s f) =
    let h = later_header a.header (item_header x) in
    still_apart s.number a.leasing a.broadcasts _ (told_grows a.broadcasts s h namespace x) (told_stays a.broadcasts s h namespace x) k
touch_apart namespace a _ _ _ n k (cut number s f) = still_apart s.number a.leasing a.broadcasts _ (cuts_grow a.broadcasts s) (cut_stays s.number a.broadcasts.given a.broadcasts s refl) k
touch_apart namespace a _ _ _ n k (took ticket w i is f q) = still_apart 0 a.leasing a.broadcasts _ (taken_grows a.broadcasts a.header w) (taken_stays 0 a.broadcasts a.header w) k
touch_apart namespace a _ _ _ n k (left_it ticket) =
    let o = watch_at ticket a.broadcasts.watches in
    still_apart 0 a.leasing a.broadcasts _ (removed_grows a.broadcasts ticket o) (removed_stays 0 a.broadcasts ticket o) k
touch_apart namespace a _ _ _ n k (opens_leasing number member q l) = k
touch_apart namespace a _ _ _ n k (sends c s m is f) = still_apart s.number a.leasing a.broadcasts _ (sent_grows a.broadcasts s) (sent_stays a.broadcasts s) k

pub touch_ok : (story : Story) (got : Received) (namespace : List ℕ) (a d : Side) (e : CoreEvent) (o : Result Outcome StepFault) → Rising story → IsTold story namespace a e → IsNew got e
    → SideOk story got a → Touch namespace a e d o → SideOk story (received_by got e o) d
touch_ok story got namespace a d e o r t n k x =
    let b = touch_both story got namespace a d e o r t n (k.holds, k.closings) x in
    record { holds = b.0; closings = b.1; apart = touch_apart namespace a d e o k.holds.numbers k.apart x }
