-- What is known of a proxy beside what is told of its session: what each call that is out asks for, and which is the session's.
use Rattle.std.proofs.Common.{◌≡◌, ℕ, ◌==◌, ◌<◌, ◌≤◌, nat_lt, Bool, true, false, not, cond, List, [], ◌∷◌, Option, None, Some, refl, sym, ◌∙◌, ap, subst, arith}
use Rattle.std.proofs.lemmas.Bool.Decides.{nat_tests}
use Rattle.etcd_types.specs.declared.request.Request.{Request}
use Rattle.etcd_types.specs.declared.request.Request.TheVariants as request
use Rattle.proxy_model.specs.declared.session.Standing.{Standing}
use Rattle.proxy_model.specs.Acquire.{acquire}
use Rattle.proxy_model.specs.RequestRefusals.{names_session}
use Rattle.proxy_model.specs.Session.{is_live}
use Rattle.proxy_model.specs.Session as proxy
use Rattle.proxy_model.specs.Wrapped.{request_under}
use Rattle.wait_model.specs.declared.sending.Sending.{Sending}
use Rattle.wait_model.specs.declared.sending.Sending.TheVariants as sending
use Rattle.core_model.specs.declared.out_call.OutCall.{OutCall}
use Rattle.core_model.specs.declared.out_call.OutJob.{OutJob}
use Rattle.core_model.specs.declared.out_call.OutJob.TheVariants as job
use Rattle.core_model.specs.ClockWork.{clock_work}
use Rattle.core_model.specs.Lookups.{without_out}
use Rattle.core_model.specs.Sending.{session_out}
use Rattle.core_model.specs.Sessions.{is_over, seat_is_over, is_sent_as, seat_calls}
use Rattle.core_model.specs.State.{Seat, Core}
use Rattle.world_model.specs.LiveSessions.{Session}
use Rattle.core_fits.specs.Fits.{EachOf, IsSeatsCall, SeatHasItsJob}
use Rattle.core_fits.proofs.Eachs.{each_kept}
use Rattle.core_laws.proofs.Steps.Lists.{same_number}
use Rattle.session_laws.specs.Told.{live_if, told_live, standing_live, seat_live, last_reading}
use Rattle.session_laws.proofs.Acquires.{AcquiresKnown, clock_acquires}
use Rattle.session_laws.proofs.Passing.{seat_after, clock_so}

-- of a call: its number, what it asks for, and the reading at which it was sent
abbrev pub OfCall : Type 1
OfCall = ℕ → Request → ℕ → Type 0

-- By what a call is out for. Sessions' numbers stay below the bound, so the call of an earlier session isn't taken for one of this.
abbrev pub JobKnown : OfCall → ℕ → Option Seat → OutCall → OutJob → Type 0
JobKnown E bound seat o (job.Grant lease) = ((ttl : ℕ) × E o.call (request.Grant ttl lease) o.sent_at) × (seat_calls o.call seat ≡ true)
JobKnown E bound seat o (job.Keep lease) =
    E o.call (request.KeepAlive lease) o.sent_at × (nat_lt lease bound ≡ true) × ((s : Seat) → seat ≡ Some s → s.session.number ≡ lease → is_sent_as o.call s.call ≡ true)
JobKnown E bound seat o (job.Acquire k) = Unit {0}
JobKnown E bound seat o job.Wait = (q : Request) × E o.call q o.sent_at × (names_session q ≡ false)
JobKnown E bound seat o (job.Ask kind) = (q : Request) × E o.call q o.sent_at × (names_session q ≡ false)
JobKnown E bound seat o (job.Group lease) = (q : Request) × E o.call q o.sent_at × (names_session q ≡ false)

abbrev pub OutKnown : OfCall → ℕ → Option Seat → OutCall → Type 0
OutKnown E bound seat o = JobKnown E bound seat o o.job

abbrev pub IsBelow : ℕ → Option Seat → Type 0
IsBelow bound seat = (s : Seat) → seat ≡ Some s → nat_lt s.session.number bound ≡ true

-- an acquire is sent under the session that it stands for
abbrev pub acquire_call : List ℕ → List ℕ → List ℕ → ℕ → Request
acquire_call namespace prefix k session = request_under namespace (request.Txn (acquire prefix k session))

abbrev pub IsAcquireCall : OfCall → List ℕ → List ℕ → List ℕ → ℕ → ℕ → Type 0
IsAcquireCall E namespace prefix k number session = (sent : ℕ) × E number (acquire_call namespace prefix k session) sent

-- at this reading of its clock and at each later one the session that is told is live where the proxy's is
abbrev pub AreAlike : ℕ → Option Session → Option Seat → Type 0
AreAlike now told seat = (t : ℕ) → now ≤ t → t < last_reading → told_live t told ≡ seat_live t seat

pub record Known (E : OfCall) (namespace prefix : List ℕ) (bound now : ℕ) (told : Option Session) (c : Core) : Type 0 where
  pub live : AreAlike now told c.seat
  pub calls : EachOf (OutKnown E bound c.seat) c.out
  pub below : IsBelow bound c.seat
  pub acquires : AcquiresKnown (IsAcquireCall E namespace prefix) c.acquires

-- ---- by the clock's work

after_is : (b : Bool) (seat : Option Seat) (s : Seat) → cond b None seat ≡ Some s → seat ≡ Some s
after_is true seat s e = absurd (cc)
after_is false seat s e = e

over_at : (now t : ℕ) (number deadline : ℕ) → now ≤ t → nat_lt now deadline ≡ false → nat_lt t deadline ≡ false
over_at now t number deadline l e = grind (arith, nat_tests)

pub after_live : (now t : ℕ) (seat : Option Seat) → now ≤ t → seat_live t (seat_after now seat) ≡ seat_live t seat
after_live now t None l = refl
after_live now t (Some s) l = by s.session.standing refl
  where
    by : (st : Option Standing) → s.session.standing ≡ st → seat_live t (cond (is_over st now s.session) None (Some s)) ≡ seat_live t (Some s)
    by None e = refl
    by (Some x) e = by_live (nat_lt now x.deadline) (ap (λ (y : Option Standing). proxy.is_live_standing y now) e)
      where
        by_live : (b : Bool) → is_live s.session now ≡ b → seat_live t (cond (cond (is_live s.session now) false true) None (Some s)) ≡ seat_live t (Some s)
        by_live true f = ap (λ (b : Bool). seat_live t (cond (cond b false true) None (Some s))) f
        by_live false f =
            ap (λ (b : Bool). seat_live t (cond (cond b false true) None (Some s))) f
            ∙ sym (ap (standing_live t s.session.number) e ∙ ap (λ (b : Bool). live_if b (record { number = s.session.number; deadline = x.deadline })) (over_at now t s.session.number x.deadline l (sym (ap (λ (y : Option Standing). proxy.is_live_standing y now) e) ∙ f)))

pub grant_unseated : (lease number : ℕ) (st : Option Standing) → job.Grant lease ≡ session_out number st → (st ≡ None) × (lease ≡ number)
grant_unseated lease number None e = (refl, (let f : job.Grant lease ≡ job.Grant number = e in cc))
grant_unseated lease number (Some x) e = absurd (let f : job.Grant lease ≡ job.Keep number = e in cc)

-- a seat whose grant is out isn't over
after_calls : (now : ℕ) (seat : Option Seat) (o : OutCall) (lease : ℕ) → o.job ≡ job.Grant lease → ((s : Seat) → seat ≡ Some s → IsSeatsCall s.session s.call o) → seat_calls o.call seat ≡ true → seat_calls o.call (seat_after now seat) ≡ true
after_calls now None o lease e h t = t
after_calls now (Some s) o lease e h t =
    let n = (grant_unseated lease s.session.number s.session.standing (sym e ∙ h s refl t)).0 in
    ap (λ (st : Option Standing). seat_calls o.call (cond (is_over st now s.session) None (Some s))) n ∙ t

-- of each call, what is known of the session's
pub seats_calls : (seat : Option Seat) (out : List OutCall) → SeatHasItsJob seat out → EachOf (λ o. (s : Seat) → seat ≡ Some s → IsSeatsCall s.session s.call o) out
seats_calls None out h = none out
  where
    none : (xs : List OutCall) → EachOf (λ o. (s : Seat) → None ≡ Some s → IsSeatsCall s.session s.call o) xs
    none [] = tt
    none (x ∷ xs) = (λ s e. absurd (cc), none xs)
seats_calls (Some r) out h = each_kept (IsSeatsCall r.session r.call) (λ o. (s : Seat) → Some r ≡ Some s → IsSeatsCall s.session s.call o) (λ o k s e. let same : r ≡ s = cc in subst (λ (z : Seat). IsSeatsCall z.session z.call o) same k) out h

pub each_both : {A : Type 0} (P Q R : A → Type 0) → ((x : A) → P x → Q x → R x) → (xs : List A) → EachOf P xs → EachOf Q xs → EachOf R xs
each_both P Q R f [] h k = tt
each_both P Q R f (x ∷ xs) h k = (f x h.0 k.0, each_both P Q R f xs h.1 k.1)

after_job : (E : OfCall) (bound now : ℕ) (seat : Option Seat) (o : OutCall) (j : OutJob) → o.job ≡ j → ((s : Seat) → seat ≡ Some s → IsSeatsCall s.session s.call o) → JobKnown E bound seat o j → JobKnown E bound (seat_after now seat) o j
after_job E bound now seat o (job.Grant lease) e h k = (k.0, after_calls now seat o lease e h k.1)
after_job E bound now seat o (job.Keep lease) e h k = (k.0, k.1, λ s i n. k.2 s (after_is (seat_is_over seat now) seat s i) n)
after_job E bound now seat o (job.Acquire k') e h k = k
after_job E bound now seat o job.Wait e h k = k
after_job E bound now seat o (job.Ask kind) e h k = k
after_job E bound now seat o (job.Group lease) e h k = k

-- the session and the calls that are out, of a core behind it
pub record SeatAndOut (seat : Option Seat) (out : List OutCall) (c : Core) : Type 0 where
  pub seat_is : c.seat ≡ seat
  pub out_is : c.out ≡ out

pub clock_seat : (now : ℕ) (c : Core) → SeatAndOut (seat_after now c.seat) c.out (clock_work now c)
clock_seat now c = let t = clock_so (λ s o. (s ≡ seat_after now c.seat) × (o ≡ c.out)) now c (refl, refl) in record { seat_is = t.0; out_is = t.1 }

pub known_as : (E : OfCall) (namespace prefix : List ℕ) (bound now : ℕ) (told : Option Session) (seat : Option Seat) (out : List OutCall) (d : Core) → SeatAndOut seat out d → AreAlike now told seat → EachOf (OutKnown E bound seat) out
    → IsBelow bound seat → AcquiresKnown (IsAcquireCall E namespace prefix) d.acquires → Known E namespace prefix bound now told d
known_as E namespace prefix bound now told seat out d s l c b a = record {
  live = subst (AreAlike now told) (sym s.seat_is) l;
  calls = subst (λ (xs : List OutCall). EachOf (OutKnown E bound d.seat) xs) (sym s.out_is) (subst (λ (i : Option Seat). EachOf (OutKnown E bound i) out) (sym s.seat_is) c);
  below = subst (IsBelow bound) (sym s.seat_is) b;
  acquires = a;
}

pub known_behind : (E : OfCall) (namespace prefix : List ℕ) (bound now : ℕ) (told : Option Session) (c : Core) → SeatHasItsJob c.seat c.out → Known E namespace prefix bound now told c → Known E namespace prefix bound now told (clock_work now c)
known_behind E namespace prefix bound now told c j h =
    known_as E namespace prefix bound now told (seat_after now c.seat) c.out (clock_work now c) (clock_seat now c)
    (λ t l f. h.live t l f ∙ sym (after_live now t c.seat l))
    (each_both (λ o. (s : Seat) → c.seat ≡ Some s → IsSeatsCall s.session s.call o) (OutKnown E bound c.seat) (OutKnown E bound (seat_after now c.seat)) (λ o k i. after_job E bound now c.seat o o.job refl k i) c.out (seats_calls c.seat c.out j) h.calls)
    (λ s e. h.below s (after_is (seat_is_over c.seat now) c.seat s e))
    (clock_acquires (IsAcquireCall E namespace prefix) now c h.acquires)

-- its own call stays the session's
pub its_job : (now : ℕ) (seat : Option Seat) (out : List OutCall) → SeatHasItsJob seat out → SeatHasItsJob (seat_after now seat) out
its_job now None out h = tt
its_job now (Some s) out h = by (seat_is_over (Some s) now)
  where
    by : (b : Bool) → SeatHasItsJob (cond b None (Some s)) out
    by true = tt
    by false = h

-- ---- a call ends that is the session's: no other is

calls_one : (call number : ℕ) (s : Option Sending) → is_sent_as call s ≡ true → is_sent_as number s ≡ true → number ≡ call
calls_one call number None h k = absurd (cc)
calls_one call number (Some (sending.Due since)) h k = absurd (cc)
calls_one call number (Some (sending.Out n)) h k = sym (same_number n number k) ∙ same_number n call h

-- it has another number than this
abbrev pub IsOther : ℕ → OutCall → Type 0
IsOther call o = (o.call == call) ≡ false

-- each number of the later seat is the earlier one's
abbrev pub SameNumber : Option Seat → Option Seat → Type 0
SameNumber seat later = (s : Seat) → later ≡ Some s → (r : Seat) × (seat ≡ Some r) × (r.session.number ≡ s.session.number)

seats_one : (call number : ℕ) (seat : Option Seat) → seat_calls call seat ≡ true → seat_calls number seat ≡ true → number ≡ call
seats_one call number None h k = absurd (cc)
seats_one call number (Some s) h k = calls_one call number s.call h k

not_itself : {A : Type 0} (o : OutCall) (call : ℕ) → IsOther call o → o.call ≡ call → A
not_itself o call n e = absurd (let f : true ≡ false = sym (Rattle.core_laws.proofs.Steps.Lists.number_itself call) ∙ ap (λ (m : ℕ). m == call) (sym e) ∙ n in cc)

pub freed : (E : OfCall) (bound call : ℕ) (seat later : Option Seat) (o : OutCall) (j : OutJob) → seat_calls call seat ≡ true → SameNumber seat later → IsOther call o → JobKnown E bound seat o j → JobKnown E bound later o j
freed E bound call seat later o (job.Grant lease) h n i k = not_itself o call i (seats_one call o.call seat h k.1)
freed E bound call seat later o (job.Keep lease) h n i k =
    (k.0, k.1, λ s e m. let r = n s e in not_itself o call i (calls_one call o.call r.0.call (subst (λ (x : Option Seat). seat_calls call x ≡ true) r.1 h) (k.2 r.0 r.1 (r.2 ∙ m))))
freed E bound call seat later o (job.Acquire k') h n i k = k
freed E bound call seat later o job.Wait h n i k = k
freed E bound call seat later o (job.Ask kind) h n i k = k
freed E bound call seat later o (job.Group lease) h n i k = k

-- the others, where one call is gone
pub without_known : (P : OutCall → Type 0) (call : ℕ) (out : List OutCall) → EachOf P out → EachOf (λ o. IsOther call o × P o) (without_out call out)
without_known P call [] h = tt
without_known P call (o ∷ out) h = by (o.call == call) refl (without_known P call out h.1)
  where
    by : (b : Bool) → (o.call == call) ≡ b → EachOf (λ x. IsOther call x × P x) (without_out call out) → EachOf (λ x. IsOther call x × P x) (cond (not b) (o ∷ without_out call out) (without_out call out))
    by true e t = t
    by false e t = ((e, h.0), t)

-- once the session's call is gone
pub all_freed : (E : OfCall) (bound call : ℕ) (seat later : Option Seat) (out : List OutCall) → seat_calls call seat ≡ true → SameNumber seat later → EachOf (OutKnown E bound seat) out → EachOf (OutKnown E bound later) (without_out call out)
all_freed E bound call seat later out h n k =
    each_kept (λ o. IsOther call o × OutKnown E bound seat o) (OutKnown E bound later) (λ o t. freed E bound call seat later o o.job h n t.0 t.1) (without_out call out) (without_known (OutKnown E bound seat) call out k)

-- and where the session stays
pub all_left : (E : OfCall) (bound call : ℕ) (seat : Option Seat) (out : List OutCall) → EachOf (OutKnown E bound seat) out → EachOf (OutKnown E bound seat) (without_out call out)
all_left E bound call seat out k = each_kept (λ o. IsOther call o × OutKnown E bound seat o) (OutKnown E bound seat) (λ o t. t.1) (without_out call out) (without_known (OutKnown E bound seat) call out k)

-- a session that stands is over: no grant was out
pub over_job : (E : OfCall) (bound : ℕ) (s : Seat) (o : OutCall) (j : OutJob) (x : Standing) → s.session.standing ≡ Some x → o.job ≡ j → IsSeatsCall s.session s.call o → JobKnown E bound (Some s) o j → JobKnown E bound None o j
over_job E bound s o (job.Grant lease) x st e i k =
    absurd (let n = (grant_unseated lease s.session.number s.session.standing (sym e ∙ i k.1)).0 in let f : None ≡ Some x = sym n ∙ st in cc)
over_job E bound s o (job.Keep lease) x st e i k = (k.0, k.1, λ r f m. absurd (cc))
over_job E bound s o (job.Acquire k') x st e i k = k
over_job E bound s o job.Wait x st e i k = k
over_job E bound s o (job.Ask kind) x st e i k = k
over_job E bound s o (job.Group lease) x st e i k = k
