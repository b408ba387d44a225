-- A call is answered: what the item tells of the session is what the proxy makes of its own.
use Rattle.std.proofs.Common.{◌≡◌, ℕ, ◌+◌, ◌*◌, ◌==◌, ◌<◌, max, nat_lt, Bool, true, false, not, ◌&&◌, ◌||◌, Option, None, Some, refl, sym, ◌∙◌, ap, subst, arith}
use Rattle.std.proofs.lemmas.Bool.Decides.{nat_tests}
use Rattle.etcd_types.specs.declared.answer.Answer.{Answer}
use Rattle.etcd_types.specs.declared.answer.Answer.TheVariants.{Done, Refused}
use Rattle.etcd_types.specs.declared.answer.Body.TheVariants as body
use Rattle.etcd_types.specs.declared.answer.Refusal.{Refusal}
use Rattle.etcd_types.specs.declared.code.TheConstants.{NOT_FOUND}
use Rattle.etcd_types.specs.declared.request.Request.{Request}
use Rattle.etcd_types.specs.declared.request.Request.TheVariants as request
use Rattle.etcd_types.proofs.Bools.{or_false, and_false}
use Rattle.proxy_model.specs.declared.session.Standing.{Standing}
use Rattle.proxy_model.specs.Limits.{capped}
use Rattle.proxy_model.specs.RequestRefusals.{is_session, names_session}
use Rattle.proxy_model.specs.Session.{expiry}
use Rattle.core_model.specs.State.{Seat}
use Rattle.world_model.specs.LiveSessions.{Session, acquires_under, heard_answer, refused_with, session_at}
use Rattle.core_fits.specs.Fits.{SeatIsNumbered}
use Rattle.session_laws.specs.Told.{Live, live_if, live_as, told_live, standing_live, seat_live, last_reading}
use Rattle.session_laws.proofs.Items.{at_later, is_gone, gone_told, Stands, live, gone, stands, grants_session, answer_gone, apart_answer}
use Rattle.session_laws.proofs.Known.{AreAlike}

-- what the store answers to a session's grant and to a keepalive
abbrev pub AnswerFits : Request → Answer → Type 0
AnswerFits (request.Grant ttl lease) (Done reply) = is_session lease ≡ true → (got : ℕ) × (reply.body ≡ body.Grant lease got)
AnswerFits (request.KeepAlive lease) (Done reply) = (got : ℕ) × (reply.body ≡ body.KeepAlive lease got)
AnswerFits _ _ = Unit {0}

grants_apart : (q : Request) → names_session q ≡ false → grants_session q ≡ false
grants_apart (request.Grant ttl lease) n = n
grants_apart (request.Range ask) n = refl
grants_apart (request.Put ask) n = refl
grants_apart (request.Delete ask) n = refl
grants_apart (request.Txn t) n = refl
grants_apart (request.Compact revision physical) n = refl
grants_apart (request.Revoke lease) n = refl
grants_apart (request.KeepAlive lease) n = refl
grants_apart (request.TimeToLive lease keys) n = refl
grants_apart request.Leases n = refl
grants_apart (request.Watch ask) n = refl

-- ---- times

pub later_deadline : (a sent ttl : ℕ) → capped (max a (sent + 1000 * ttl)) ≡ max (capped a) (expiry sent ttl)
later_deadline a sent ttl = grind (arith)

pub one_deadline : (sent ttl : ℕ) → capped (sent + 1000 * ttl) ≡ expiry sent ttl
one_deadline sent ttl = grind (arith)

pub below_cap : (t d : ℕ) → t < last_reading → nat_lt t d ≡ nat_lt t (capped d)
below_cap t d l = grind (arith, nat_tests)

-- ---- the session that stands

-- where it is live by the proxy it is so by the items
seat_number : (now : ℕ) (seat : Option Seat) (l : Live) → seat_live now seat ≡ Some l → (s : Seat) × (x : Standing) × (seat ≡ Some s) × (s.session.standing ≡ Some x) × (nat_lt now x.deadline ≡ true) × (l ≡ record { number = s.session.number; deadline = x.deadline })
seat_number now None l e = absurd (cc)
seat_number now (Some s) l e = by s.session.standing refl e
  where
    by : (st : Option Standing) → s.session.standing ≡ st → standing_live now s.session.number st ≡ Some l
        → (r : Seat) × (x : Standing) × (Some s ≡ Some r) × (r.session.standing ≡ Some x) × (nat_lt now x.deadline ≡ true) × (l ≡ record { number = r.session.number; deadline = x.deadline })
    by None f g = absurd (cc)
    by (Some x) f g = by_live (nat_lt now x.deadline) refl g
      where
        by_live : (b : Bool) → nat_lt now x.deadline ≡ b → live_if b (record { number = s.session.number; deadline = x.deadline }) ≡ Some l
            → (r : Seat) × (x : Standing) × (Some s ≡ Some r) × (r.session.standing ≡ Some x) × (nat_lt now x.deadline ≡ true) × (l ≡ record { number = r.session.number; deadline = x.deadline })
        by_live true h i = let one : record { number = s.session.number; deadline = x.deadline } ≡ l = cc in (s, x, refl, f, h, sym one)
        by_live false h i = absurd (cc)

live_told : (now : ℕ) (x : Session) → x.ended ≡ false → nat_lt now x.deadline ≡ true → told_live now (Some x) ≡ Some (live_as x)
live_told now x e l = ap (λ (b : Bool). live_if (not b && nat_lt now x.deadline) (live_as x)) e ∙ ap (λ (b : Bool). live_if b (live_as x)) l

module _ (now : ℕ) (told : Option Session) (seat : Option Seat) (a : AreAlike now told seat) (fits : now < last_reading) where
  -- the session that is told, where it is live
  pub record IsLive (x : Session) : Type 0 where
    pub sits : Seat
    pub standing : Standing
    pub seat_is : seat ≡ Some sits
    pub stands : sits.session.standing ≡ Some standing
    pub before : nat_lt now standing.deadline ≡ true
    pub number : x.number ≡ sits.session.number
    pub deadline : capped x.deadline ≡ standing.deadline

  pub is_live : (x : Session) → told ≡ Some x → x.ended ≡ false → nat_lt now x.deadline ≡ true → IsLive x
  is_live x e f l =
      let n = seat_number now seat (live_as x) (sym (a now (omega arith) fits) ∙ ap (told_live now) e ∙ live_told now x f l) in
      record { sits = n.0; standing = n.1; seat_is = n.2; stands = n.3; before = n.4; number = ap (λ (y : Live). y.number) n.5; deadline = ap (λ (y : Live). y.deadline) n.5 }

  -- nothing is live
  pub gone_none : (later : Option Session) → is_gone later ≡ true → AreAlike now later None
  gone_none later g t l f = gone_told t later g

  pub gone_alike : (later : Option Session) → is_gone (session_at now told) ≡ true → is_gone later ≡ true → AreAlike now later seat
  gone_alike later g h t l f = gone_told t later h ∙ sym (gone_told t (session_at now told) g) ∙ at_later now t told l ∙ a t l f

  pub still_alike : AreAlike now (session_at now told) seat
  still_alike t l f = at_later now t told l ∙ a t l f

  pub same_alike : (later : Option Session) → later ≡ session_at now told → AreAlike now later seat
  same_alike later e = subst (λ (x : Option Session). AreAlike now x seat) (sym e) still_alike

  numbered : SeatIsNumbered seat → (x : Session) → IsLive x → is_session x.number ≡ true
  numbered n x l = ap is_session l.number ∙ subst SeatIsNumbered l.seat_is n

  -- a call that names no session
  pub apart_alike : SeatIsNumbered seat → (sent : ℕ) (q : Request) (x : Answer) → names_session q ≡ false → AreAlike now (heard_answer sent q (Some x) (session_at now told)) seat
  apart_alike n sent q x m = by (stands now told)
    where
      by : Stands now told → AreAlike now (heard_answer sent q (Some x) (session_at now told)) seat
      by (live y e f l i) = same_alike (heard_answer sent q (Some x) (session_at now told)) (ap (heard_answer sent q (Some x)) i ∙ apart_answer sent q x y m (numbered n y (is_live y e f l)) ∙ sym i)
      by (gone g) = gone_alike (heard_answer sent q (Some x) (session_at now told)) g (answer_gone sent q x (session_at now told) (grants_apart q m) g)

  -- a refusal of what isn't an acquire
  pub refused_alike : (sent : ℕ) (q : Request) (r : Refusal) → ((number : ℕ) → acquires_under number q ≡ false) → AreAlike now (heard_answer sent q (Some (Refused r)) (session_at now told)) seat
  refused_alike sent q r n = same_alike (heard_answer sent q (Some (Refused r)) (session_at now told)) (by (session_at now told))
    where
      by : (s : Option Session) → refused_with r.code q s ≡ s
      by None = refl
      by (Some x) = λ i. Some (record x { ended = (ap (λ (b : Bool). x.ended || ((r.code == NOT_FOUND) && b)) (n x.number) ∙ ap (λ (b : Bool). x.ended || b) (and_false (r.code == NOT_FOUND)) ∙ or_false x.ended) i })
