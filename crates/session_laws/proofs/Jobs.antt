-- A call of the session ends, or an acquire: what becomes of the session that is told, and of the calls that are left.
use Rattle.std.proofs.Common.{◌≡◌, ℕ, ◌+◌, ◌*◌, ◌==◌, ◌<◌, max, nat_lt, Bool, true, false, not, ◌&&◌, ◌||◌, cond, List, Option, None, Some, refl, sym, ◌∙◌, ap, subst, arith}
use Rattle.etcd_types.specs.declared.answer.Answer.TheVariants.{Refused}
use Rattle.etcd_types.specs.declared.answer.Refusal.{Refusal}
use Rattle.etcd_types.specs.declared.code.TheConstants.{NOT_FOUND}
use Rattle.etcd_types.proofs.Bools.{or_true, or_false, same_tests}
use Rattle.proxy_model.specs.declared.session.Standing.{Standing}
use Rattle.proxy_model.specs.Limits.{capped}
use Rattle.proxy_model.specs.Session.{expiry, granted, renewed_standing}
use Rattle.wait_model.specs.Phases as phases
use Rattle.core_model.specs.declared.out_call.OutCall.{OutCall}
use Rattle.core_model.specs.declared.out_call.OutJob.TheVariants as job
use Rattle.core_model.specs.Lookups.{number_if, live_number, without_out}
use Rattle.core_model.specs.Sending.{session_out}
use Rattle.core_model.specs.Sessions.{seat_is_over, is_sent_as, seat_calls, seat_granted, seat_free, seat_renewed}
use Rattle.core_model.specs.State.{Seat}
use Rattle.world_model.specs.LiveSessions.{Session, acquires_under, ended_if, kept_until, refused_with, session_at}
use Rattle.core_laws.proofs.Steps.Lists.{same_number, number_itself, and_turned}
use Rattle.core_fits.specs.Fits.{EachOf, IsSeatsCall, SeatIsNumbered}
use Rattle.core_fits.proofs.Eachs.{each_kept}
use Rattle.session_laws.specs.Told.{live_if, told_live, standing_live, seat_live, last_reading}
use Rattle.session_laws.proofs.Answers.{later_deadline, one_deadline, below_cap, IsLive, is_live, gone_none, gone_alike, still_alike, same_alike}
use Rattle.session_laws.proofs.Ended.{lost_seat, granted_seat, kept_seat, refused_seat}
use Rattle.session_laws.proofs.Items.{is_gone, Stands, live, gone, stands, answer_gone}
use Rattle.session_laws.proofs.Known.{OfCall, JobKnown, OutKnown, IsBelow, acquire_call, AreAlike, SameNumber, grant_unseated, all_freed, all_left, over_job, each_both, without_known, IsOther}

-- the seat that this call is of
pub record SitsFor (call : ℕ) (seat : Option Seat) : Type 0 where
  pub sits : Seat
  pub seat_is : seat ≡ Some sits
  pub calls : is_sent_as call sits.call ≡ true

pub sits_for : (call : ℕ) (seat : Option Seat) → seat_calls call seat ≡ true → SitsFor call seat
sits_for call None h = absurd (cc)
sits_for call (Some s) h = record { sits = s; seat_is = refl; calls = h }

-- a seat that isn't over stands live, where it stands
live_standing : (now : ℕ) (s : Seat) (x : Standing) → s.session.standing ≡ Some x → seat_is_over (Some s) now ≡ false → nat_lt now x.deadline ≡ true
live_standing now s x e h = by (nat_lt now x.deadline) refl
  where
    over : seat_is_over (Some s) now ≡ cond (nat_lt now x.deadline) false true
    over =
        ap (λ (st : Option Standing). Rattle.core_model.specs.Sessions.is_over st now s.session) e
        ∙ ap (λ (st : Option Standing). cond (Rattle.proxy_model.specs.Session.is_live_standing st now) false true) e

    by : (b : Bool) → nat_lt now x.deadline ≡ b → b ≡ true
    by true f = refl
    by false f = absurd (let g : false ≡ true = sym h ∙ over ∙ ap (λ (b : Bool). cond b false true) f in cc)

module _ (E : OfCall) (bound now call : ℕ) (told : Option Session) (seat : Option Seat) (out : List OutCall) (o : OutCall) (a : AreAlike now told seat) (fits : now < last_reading) (k : EachOf (OutKnown E bound seat) out) (below : IsBelow bound seat)
    (n : SeatIsNumbered seat) (number : o.call ≡ call) (its : EachOf (λ x. (s : Seat) → seat ≡ Some s → IsSeatsCall s.session s.call x) out) (own : (s : Seat) → seat ≡ Some s → IsSeatsCall s.session s.call o) (over : seat_is_over seat now ≡ false) where
  abbrev pub Goes : Option Session → Option Seat → Type 0
  Goes later next = AreAlike now later next × (EachOf (OutKnown E bound next) (without_out call out) × IsBelow bound next)

  pub stays : (later : Option Session) → AreAlike now later seat → Goes later seat
  stays later l = (l, (all_left E bound call seat out k, below))

  frees : (later : Option Session) (next : Option Seat) → seat_calls o.call seat ≡ true → SameNumber seat next → AreAlike now later next → Goes later next
  frees later next h m l = (
    l,
    (
      all_freed E bound call seat next out (subst (λ (i : ℕ). seat_calls i seat ≡ true) number h) m k,
      λ s e. let r = m s e in subst (λ (i : ℕ). nat_lt i bound ≡ true) r.2 (below r.0 r.1),
    ),
  )

  -- the session's grant, where it is out

  record Grants (lease : ℕ) : Type 0 where
    sits : Seat
    seat_is : seat ≡ Some sits
    unseated : sits.session.standing ≡ None
    number_is : lease ≡ sits.session.number

  grants : (lease : ℕ) → o.job ≡ job.Grant lease → seat_calls o.call seat ≡ true → Grants lease
  grants lease e h =
      let s = sits_for o.call seat h in
      let g = grant_unseated lease s.sits.session.number s.sits.session.standing (sym e ∙ own s.sits s.seat_is s.calls) in
      record { sits = s.sits; seat_is = s.seat_is; unseated = g.0; number_is = g.1 }

  none_live : (lease : ℕ) → Grants lease → (t : ℕ) → seat_live t seat ≡ None
  none_live lease g t = ap (seat_live t) g.seat_is ∙ ap (standing_live t g.sits.session.number) g.unseated

  none_same : SameNumber seat None
  none_same s e = absurd (cc)

  pub grant_lost : (lease : ℕ) → o.job ≡ job.Grant lease → seat_calls o.call seat ≡ true → (later : Option Session) → AreAlike now later seat → Goes later (lost_seat o (job.Grant lease) seat)
  grant_lost lease e h later l =
      subst (λ (b : Bool). Goes later (cond b None seat)) (sym h)
      (frees later None h none_same (λ t i f. l t i f ∙ none_live lease (grants lease e h) t))

  pub grant_kept : (lease got : ℕ) → o.job ≡ job.Grant lease → seat_calls o.call seat ≡ true → Goes (Some (record { number = lease; deadline = o.sent_at + 1000 * got; ended = false })) (granted_seat o got seat)
  grant_kept lease got e h =
      subst (λ (b : Bool). Goes told' (cond b (seat_granted o.sent_at got seat) seat)) (sym h)
      (frees told' (seat_granted o.sent_at got seat) h same (λ t i f. sym (ap (λ (x : Option Seat). seat_live t (seat_granted o.sent_at got x)) g.seat_is ∙ alike t f)))
    where
      g : Grants lease
      g = grants lease e h

      told' : Option Session
      told' = Some (record { number = lease; deadline = o.sent_at + 1000 * got; ended = false })

      alike : (t : ℕ) → t < last_reading → live_if (nat_lt t (expiry o.sent_at got)) (record { number = g.sits.session.number; deadline = expiry o.sent_at got }) ≡ live_if (nat_lt t (o.sent_at + 1000 * got)) (record { number = lease; deadline = capped (o.sent_at + 1000 * got) })
      alike t f =
          let d = one_deadline o.sent_at got in
          ap (λ (x : ℕ). live_if (nat_lt t x) (record { number = g.sits.session.number; deadline = x })) (sym d)
          ∙ ap (λ (x : ℕ). live_if (nat_lt t (capped (o.sent_at + 1000 * got))) (record { number = x; deadline = capped (o.sent_at + 1000 * got) })) (sym g.number_is)
          ∙ ap (λ (b : Bool). live_if b (record { number = lease; deadline = capped (o.sent_at + 1000 * got) })) (sym (below_cap t (o.sent_at + 1000 * got) f))

      same : SameNumber seat (seat_granted o.sent_at got seat)
      same s f = by (sym (ap (seat_granted o.sent_at got) g.seat_is) ∙ f)
        where
          by : Some (record { session = granted g.sits.session o.sent_at got; call = None }) ≡ Some s → (r : Seat) × (seat ≡ Some r) × (r.session.number ≡ s.session.number)
          by i = let one : record { session = granted g.sits.session o.sent_at got; call = None } ≡ s = cc in (g.sits, g.seat_is, ap (λ (x : Seat). x.session.number) one)

  -- its keepalive

  free_live : (t : ℕ) (s : Option Seat) → seat_live t (seat_free s) ≡ seat_live t s
  free_live t None = refl
  free_live t (Some s) = refl

  free_same : (x : Option Seat) (s : Seat) → seat_free x ≡ Some s → (r : Seat) × (x ≡ Some r) × (r.session.number ≡ s.session.number)
  free_same None s e = absurd (cc)
  free_same (Some r) s e = let one : record r { call = None } ≡ s = cc in (r, refl, ap (λ (y : Seat). y.session.number) one)

  renewed_same : (sent ttl : ℕ) (x : Option Seat) (s : Seat) → seat_renewed sent ttl x ≡ Some s → (r : Seat) × (x ≡ Some r) × (r.session.number ≡ s.session.number)
  renewed_same sent ttl None s e = absurd (cc)
  renewed_same sent ttl (Some r) s e = let one : record { session = Rattle.proxy_model.specs.Session.renewed r.session sent ttl; call = None } ≡ s = cc in (r, refl, ap (λ (y : Seat). y.session.number) one)

  pub keep_lost : (lease : ℕ) → (later : Option Session) → AreAlike now later seat → Goes later (lost_seat o (job.Keep lease) seat)
  keep_lost lease later l = by (seat_calls o.call seat) refl
    where
      by : (b : Bool) → seat_calls o.call seat ≡ b → Goes later (cond b (seat_free seat) seat)
      by true h = frees later (seat_free seat) h (free_same seat) (λ t i f. l t i f ∙ sym (free_live t seat))
      by false h = stays later l

  keep_seated : (lease number : ℕ) (st : Option Standing) → job.Keep lease ≡ session_out number st → lease ≡ number
  keep_seated lease number None e = absurd (let f : job.Keep lease ≡ job.Grant number = e in cc)
  keep_seated lease number (Some x) e = let f : job.Keep lease ≡ job.Keep number = e in cc

  live_told : told_live now (session_at now told) ≡ seat_live now seat
  live_told = still_alike now told seat a fits now (omega arith) fits

  seat_none : is_gone (session_at now told) ≡ true → seat_live now seat ≡ None
  seat_none g = sym live_told ∙ Rattle.session_laws.proofs.Items.gone_told now (session_at now told) g

  -- the seat that is called by its keepalive is live
  seat_some : (lease : ℕ) → o.job ≡ job.Keep lease → seat_calls o.call seat ≡ true → seat_live now seat ≡ None → ⊥
  seat_some lease e h none = by s.sits.session.standing refl
    where
      s : SitsFor o.call seat
      s = sits_for o.call seat h

      by : (st : Option Standing) → s.sits.session.standing ≡ st → ⊥
      by None f =
          let g : job.Keep lease ≡ job.Grant s.sits.session.number = sym e ∙ own s.sits s.seat_is s.calls ∙ ap (session_out s.sits.session.number) f in
          absurd (cc)
      by (Some x) f =
          let l = live_standing now s.sits x f (subst (λ (y : Option Seat). seat_is_over y now ≡ false) s.seat_is over) in
          let some : seat_live now seat ≡ Some (record { number = s.sits.session.number; deadline = x.deadline }) =
          ap (seat_live now) s.seat_is ∙ ap (standing_live now s.sits.session.number) f ∙ ap (λ (b : Bool). live_if b (record { number = s.sits.session.number; deadline = x.deadline })) l in
          absurd (let g : None ≡ Some (record { number = s.sits.session.number; deadline = x.deadline }) = sym none ∙ some in cc)

  abbrev Kept : ℕ → ℕ → Option Session
  Kept lease got = kept_until o.sent_at lease got (session_at now told)

  renewed_live : (got : ℕ) (y : Session) → IsLive now told seat a fits y → y.ended ≡ false → (got == 0) ≡ false
      → AreAlike now (Some (ended_if false (record y { deadline = max y.deadline (o.sent_at + 1000 * got) }))) (seat_renewed o.sent_at got seat)
  renewed_live got y l e z t i f =
      ap (λ (b : Bool). live_if (not (b || false) && nat_lt t high) (record { number = y.number; deadline = capped high })) e
      ∙ ap (λ (b : Bool). live_if b (record { number = y.number; deadline = capped high })) (below_cap t high f)
      ∙ ap (λ (x : ℕ). live_if (nat_lt t (capped high)) (record { number = x; deadline = capped high })) l.number
      ∙ ap (λ (x : ℕ). live_if (nat_lt t x) (record { number = l.sits.session.number; deadline = x })) (later_deadline y.deadline o.sent_at got ∙ ap (λ (x : ℕ). max x (expiry o.sent_at got)) l.deadline)
      ∙ sym
      (ap (λ (x : Option Seat). seat_live t (seat_renewed o.sent_at got x)) l.seat_is ∙ ap (λ (st : Option Standing). standing_live t l.sits.session.number (renewed_standing st o.sent_at got)) l.stands
      ∙ ap (λ (b : Bool). live_if (nat_lt t (cond b l.standing.deadline (max l.standing.deadline (expiry o.sent_at got)))) (record { number = l.sits.session.number; deadline = cond b l.standing.deadline (max l.standing.deadline (expiry o.sent_at got)) })) z)
    where
      high : ℕ
      high = max y.deadline (o.sent_at + 1000 * got)

  pub keep_kept : (lease got : ℕ) → o.job ≡ job.Keep lease → JobKnown E bound seat o (job.Keep lease) → Goes (kept_until o.sent_at lease got (session_at now told)) (kept_seat o got seat)
  keep_kept lease got e j = by (seat_calls o.call seat) refl (stands now told)
    where
      by_end : (y : Session) → IsLive now told seat a fits y → y.ended ≡ false → seat_calls o.call seat ≡ true → (b : Bool) → (got == 0) ≡ b
          → Goes (Some (ended_if b (record y { deadline = max y.deadline (o.sent_at + 1000 * got) }))) (cond b None (seat_renewed o.sent_at got seat))
      by_end y l f h true z =
          let later = Some (ended_if true (record y { deadline = max y.deadline (o.sent_at + 1000 * got) })) in
          frees later None h none_same (gone_none now told seat a fits later (or_true y.ended))
      by_end y l f h false z = frees (Some (ended_if false (record y { deadline = max y.deadline (o.sent_at + 1000 * got) }))) (seat_renewed o.sent_at got seat) h (renewed_same o.sent_at got seat) (renewed_live got y l f z)

      this : (y : Session) → IsLive now told seat a fits y → seat_calls o.call seat ≡ true → (y.number == lease) ≡ true
      this y l h =
          let c : is_sent_as o.call l.sits.call ≡ true = subst (λ (x : Option Seat). seat_calls o.call x ≡ true) l.seat_is h in
          let m = keep_seated lease l.sits.session.number l.sits.session.standing (sym e ∙ own l.sits l.seat_is c) in
          ap (λ (x : ℕ). x == lease) (l.number ∙ sym m) ∙ number_itself lease

      other : (y : Session) → IsLive now told seat a fits y → seat_calls o.call seat ≡ false → (b : Bool) → (y.number == lease) ≡ b → b ≡ false
      other y l h true m =
          let c = j.2 l.sits l.seat_is (sym l.number ∙ same_number y.number lease m) in
          absurd (let f : true ≡ false = sym c ∙ sym (ap (seat_calls o.call) l.seat_is) ∙ h in cc)
      other y l h false m = refl

      by : (b : Bool) → seat_calls o.call seat ≡ b → Stands now told → Goes (Kept lease got) (cond b (cond (got == 0) None (seat_renewed o.sent_at got seat)) seat)
      by true h (live y i f l s) =
          subst (λ (x : Option Session). Goes x (cond (got == 0) None (seat_renewed o.sent_at got seat)))
          (sym (ap (kept_until o.sent_at lease got) s ∙ ap (λ (b : Bool). cond b (Some (ended_if (got == 0) (record y { deadline = max y.deadline (o.sent_at + 1000 * got) }))) (Some y)) (this y (is_live now told seat a fits y i f l) h)))
          (by_end y (is_live now told seat a fits y i f l) f h (got == 0) refl)
      by true h (gone g) = absurd (seat_some lease e h (seat_none g))
      by false h (live y i f l s) =
          stays (Kept lease got)
          (same_alike now told seat a fits (Kept lease got)
          (ap (kept_until o.sent_at lease got) s
          ∙ ap (λ (b : Bool). cond b (Some (ended_if (got == 0) (record y { deadline = max y.deadline (o.sent_at + 1000 * got) }))) (Some y)) (other y (is_live now told seat a fits y i f l) h (y.number == lease) refl)
          ∙ sym s))
      by false h (gone g) = stays (Kept lease got) (gone_alike now told seat a fits (Kept lease got) g (kept_gone (session_at now told) g))
        where
          kept_gone : (x : Option Session) → is_gone x ≡ true → is_gone (kept_until o.sent_at lease got x) ≡ true
          kept_gone None t = refl
          kept_gone (Some y) t = by_number (y.number == lease)
            where
              by_number : (b : Bool) → is_gone (cond b (Some (ended_if (got == 0) (record y { deadline = max y.deadline (o.sent_at + 1000 * got) }))) (Some y)) ≡ true
              by_number true = ap (λ (c : Bool). c || got == 0) t
              by_number false = t

  -- an acquire is refused

  ends_goes : (later : Option Session) (s : Seat) (x : Standing) → seat ≡ Some s → s.session.standing ≡ Some x → AreAlike now later None → Goes later None
  ends_goes later s x e st l = (
    l,
    (
      each_kept (λ y. IsOther call y × OutKnown E bound None y) (OutKnown E bound None) (λ y t. t.1) (without_out call out) (without_known (OutKnown E bound None) call out
          (each_both (λ y. (r : Seat) → seat ≡ Some r → IsSeatsCall r.session r.call y) (OutKnown E bound seat) (OutKnown E bound None)
          (λ y i u. over_job E bound s y y.job x st refl (i s e) (subst (λ (z : Option Seat). OutKnown E bound z y) e u)) out its k)),
      λ r f. absurd (cc),
    ),
  )

  live_number_is : (y : Session) → IsLive now told seat a fits y → live_number seat now ≡ Some y.number
  live_number_is y l =
      ap (λ (x : Option Seat). live_number x now) l.seat_is
      ∙ ap (λ (st : Option Standing). number_if (Rattle.proxy_model.specs.Session.is_live_standing st now) l.sits.session.number) l.stands
      ∙ ap (λ (b : Bool). number_if b l.sits.session.number) l.before ∙ ap (λ (x : ℕ). Some x) (sym l.number)

  none_number : seat_live now seat ≡ None → live_number seat now ≡ None
  none_number e = by_seat seat e
    where
      by_standing : (number : ℕ) (st : Option Standing) → standing_live now number st ≡ None → number_if (Rattle.proxy_model.specs.Session.is_live_standing st now) number ≡ None
      by_standing number None f = refl
      by_standing number (Some x) f = by_live (nat_lt now x.deadline) f
        where
          by_live : (b : Bool) → live_if b (record { number = number; deadline = x.deadline }) ≡ None → number_if b number ≡ None
          by_live true g = absurd (cc)
          by_live false g = refl

      by_seat : (s : Option Seat) → seat_live now s ≡ None → live_number s now ≡ None
      by_seat None f = refl
      by_seat (Some s) f = by_standing s.session.number s.session.standing f

  pub acquire_refused : (namespace prefix j : List ℕ) (session : ℕ) (r : Refusal) → Goes (refused_with r.code (acquire_call namespace prefix j session) (session_at now told)) (refused_seat now r session seat)
  acquire_refused namespace prefix j session r = by (stands now told)
    where
      under : (number : ℕ) → acquires_under number (acquire_call namespace prefix j session) ≡ (session == number) || false
      under number = refl

      both : (y : Session) → IsLive now told seat a fits y → session_at now told ≡ Some y → (b : Bool) → Goes (Some (ended_if b y)) (cond b None seat)
      both y l s true = ends_goes (Some (ended_if true y)) l.sits l.standing l.seat_is l.stands (gone_none now told seat a fits (Some (ended_if true y)) (or_true y.ended))
      both y l s false = stays (Some (ended_if false y)) (same_alike now told seat a fits (Some (ended_if false y)) ((λ i. Some (record y { ended = or_false y.ended i })) ∙ sym s))

      flip : (x y : ℕ) → (x == y) ≡ true → (y == x) ≡ true
      flip x y t = ap (λ (z : ℕ). y == z) (same_number x y t) ∙ number_itself y

      tests : (y : Session) → ((r.code == NOT_FOUND) && ((session == y.number) || false)) ≡ ((y.number == session) && (r.code == NOT_FOUND))
      tests y =
          ap (λ (b : Bool). (r.code == NOT_FOUND) && b) (or_false (session == y.number) ∙ same_tests (session == y.number) (y.number == session) (flip session y.number) (flip y.number session))
          ∙ and_turned (r.code == NOT_FOUND) (y.number == session)

      by : Stands now told → Goes (refused_with r.code (acquire_call namespace prefix j session) (session_at now told)) (refused_seat now r session seat)
      by (live y i f l s) =
          let v = is_live now told seat a fits y i f l in
          subst (λ (x : Option Session). Goes (refused_with r.code (acquire_call namespace prefix j session) x) (refused_seat now r session seat)) (sym s)
          (subst (λ (x : Option ℕ). Goes (Some (ended_if ((r.code == NOT_FOUND) && ((session == y.number) || false)) y)) (cond (phases.is_session x session && (r.code == NOT_FOUND)) None seat)) (sym (live_number_is y v))
          (subst (λ (b : Bool). Goes (Some (ended_if b y)) (cond ((y.number == session) && (r.code == NOT_FOUND)) None seat)) (sym (tests y)) (both y v s ((y.number == session) && (r.code == NOT_FOUND)))))
      by (gone g) =
          subst (λ (x : Option ℕ). Goes (refused_with r.code (acquire_call namespace prefix j session) (session_at now told)) (cond (phases.is_session x session && (r.code == NOT_FOUND)) None seat)) (sym (none_number (seat_none g)))
          (stays (refused_with r.code (acquire_call namespace prefix j session) (session_at now told)) (gone_alike now told seat a fits (refused_with r.code (acquire_call namespace prefix j session) (session_at now told)) g (answer_gone o.sent_at (acquire_call namespace prefix j session) (Refused r) (session_at now told) refl g)))
