-- The ways in which a key is watched: of no more than the rescinds that are out; from the request of a ticket; from the sending of its
-- acquire, with the writes that wait for it; as held; and as written by its owner.
use Rattle.std.proofs.Common.{◌≡◌, inl, inr, ℕ, ◌==◌, Bool, true, false, cond, not, ◌&&◌, List, [], ◌∷◌, Option, None, Some, refl, sym, ◌∙◌, ap, subst}
use Rattle.etcd_types.specs.Keys.{same}
use Rattle.proxy_model.specs.declared.lease.Entry.{Entry}
use Rattle.proxy_model.specs.declared.lease.Phase.TheVariants.{Held}
use Rattle.proxy_model.specs.LeaseTable.{is_writing_phase}
use Rattle.wait_model.specs.declared.sending.Sending.TheVariants as sending
use Rattle.wait_model.specs.declared.wait.WaitCall.{WaitCall}
use Rattle.wait_model.specs.declared.wait.WaitJob.{WaitJob}
use Rattle.wait_model.specs.declared.wait.WaitJob.TheVariants as job
use Rattle.wait_model.specs.Phases.{phase_sent}
use Rattle.wait_model.specs.Writes.{job_of, without_call}
use Rattle.read_model.specs.declared.acquire.Acquire.{Acquire}
use Rattle.read_model.specs.SessionEnd.{is_due, is_due_acquire}
use Rattle.core_fits.specs.Fits.{EachOf}
use Rattle.core_laws.proofs.Steps.Lists.{same_number}
use Rattle.cached_laws.specs.Awaited.{is_due_for}
use Rattle.owned_laws.specs.OwnWrites.{OwnWrite}
use Rattle.owned_laws.proofs.Modes.{AllAlone, is_begun, any_begun, behind_as, none_begun, went_as, first_as, phase_as, Parts, whole_front, part_alone, MayBegin, Mode}

pub no_true : {A : Type 0} → false ≡ true → A
no_true e = absurd (cc)

-- ---- of the rescinds that are out

abbrev pub OfRescind : Type 1
OfRescind = ℕ → List ℕ → ℕ → Type 0

abbrev pub JobSo : OfRescind → ℕ → WaitJob → Type 0
JobSo T call (job.Rescind j create) = T call j create
JobSo T call _ = Unit {0}

abbrev pub CallSo : OfRescind → WaitCall → Type 0
CallSo T o = JobSo T o.call o.job

pub less_each : (P : WaitCall → Type 0) (call : ℕ) (xs : List WaitCall) → EachOf P xs → EachOf P (without_call call xs)
less_each P call [] h = tt
less_each P call (x ∷ xs) h = by (x.call == call) (less_each P call xs h.1)
  where
    by : (b : Bool) → EachOf P (without_call call xs) → EachOf P (cond b xs (x ∷ without_call call xs))
    by true t = h.1
    by false t = (h.0, t)

pub job_each : (T : OfRescind) (call : ℕ) (j : List ℕ) (create : ℕ) (xs : List WaitCall) → EachOf (CallSo T) xs → job_of call xs ≡ Some (job.Rescind j create) → T call j create
job_each T call j create [] h e = absurd (cc)
job_each T call j create (x ∷ xs) h e = by (x.call == call) refl e (job_each T call j create xs h.1)
  where
    same_job : (a b : WaitJob) → Some a ≡ Some b → a ≡ b
    same_job a b e = cc

    by : (b : Bool) → (x.call == call) ≡ b → cond b (Some x.job) (job_of call xs) ≡ Some (job.Rescind j create) → (job_of call xs ≡ Some (job.Rescind j create) → T call j create) → T call j create
    by true f g more = subst (λ (n : ℕ). T n j create) (same_number x.call call f) (subst (JobSo T x.call) (same_job x.job (job.Rescind j create) g) h.0)
    by false f g more = more g

abbrev unheld : Entry
unheld = record { create = 0; kv = None; phase = Held }

abbrev pub plain : List ℕ → OfRescind → Mode
plain k T = record {
  key = k;
  Outs = EachOf (CallSo T);
  over = false;
  mark = false;
  hold = false;
  Case = Unit {0};
  mine = λ c. [];
  phase = λ c. Held;
  entry = unheld;
  there = [];
  alone = λ c. tt;
  behind = λ c y. no_true y;
  session = None;
  If = λ o. Unit {0};
  Then = λ o. Unit {0};
  free = true;
  marked = λ y. no_true y;
  holding = λ y. no_true y;
  writing = λ c. refl;
  still = λ c b. refl;
  writes = λ c y. no_true y;
  seated = λ y. no_true y;
  less = less_each (CallSo T);
  apart = λ xs call j create q f y. no_true y;
  gone = λ f i o. (tt, ((λ x. tt), ((λ y. no_true y), (λ y. no_true y))));
  fell = λ o d i. (tt, (λ x. (tt, (λ y. no_true y))));
  began = λ a d i. inl (tt, (λ x y. tt));
  sent = λ a call d i. (tt, (λ x. tt));
}

-- ---- of writes of the key that aren't sent

abbrev pub present : List ℕ → List OwnWrite → Mode
present k vs = record {
  key = k;
  Outs = λ xs. Unit {0};
  over = false;
  mark = false;
  hold = false;
  Case = Unit {0};
  mine = λ c. [];
  phase = λ c. Held;
  entry = unheld;
  there = vs;
  alone = λ c. tt;
  behind = λ c y. no_true y;
  session = None;
  If = λ o. Unit {0};
  Then = λ o. Unit {0};
  free = true;
  marked = λ y. no_true y;
  holding = λ y. no_true y;
  writing = λ c. refl;
  still = λ c b. refl;
  writes = λ c y. no_true y;
  seated = λ y. no_true y;
  less = λ call xs q. tt;
  apart = λ xs call j create q f y. no_true y;
  gone = λ f i o. (tt, ((λ x. tt), ((λ y. no_true y), (λ y. no_true y))));
  fell = λ o d i. (tt, (λ x. (tt, (λ y. no_true y))));
  began = λ a d i. inl (tt, (λ x y. tt));
  sent = λ a call d i. (tt, (λ x. tt));
}

-- ---- from the request

pub due_out : (b : Bool) → b && false ≡ true → ⊥
due_out true e = no_true e
due_out false e = no_true e

-- its acquire is due, and some of these writes, the last ones, wait for it: all that were asked since it is
abbrev pub asking : (k : List ℕ) → ℕ → (vs : List OwnWrite) → AllAlone k (behind_as vs) → Mode
asking k t vs alone = record {
  key = k;
  Outs = λ xs. Unit {0};
  over = true;
  mark = true;
  hold = false;
  Case = Parts vs;
  mine = λ c. behind_as c.rest;
  phase = λ c. Held;
  entry = unheld;
  there = [];
  alone = λ c. part_alone k vs c alone;
  behind = λ c y. inl refl;
  session = None;
  If = λ o. is_due_for t o ≡ true;
  Then = λ o. Unit {0};
  free = true;
  marked = λ y. refl;
  holding = λ y. refl;
  writing = λ c. sym (none_begun c.rest);
  still = λ c b. refl;
  writes = λ c y. no_true (sym (none_begun c.rest) ∙ y);
  seated = λ y. no_true y;
  less = λ call xs q. tt;
  apart = λ xs call j create q f y. no_true y;
  gone = λ f i o. no_true i;
  fell = λ o d i. no_true i;
  began = λ a d i. inr ((λ xs. tt), (tt, ((λ y. no_true y), (refl, (whole_front vs, refl)))));
  sent = λ a call d i. absurd (due_out (a.ticket == t) i);
}

-- ---- from the sending

pub record IsOutIn (call n : ℕ) (o : Option Acquire) : Type 0 where
  pub acquire : Acquire
  pub stands : o ≡ Some acquire
  pub out : acquire.sending ≡ sending.Out call
  pub session : acquire.session ≡ n

pub not_due : {A : Type 0} (call n : ℕ) (o : Option Acquire) → IsOutIn call n o → is_due_acquire o ≡ true → A
not_due call n o h d = no_true (sym (ap is_due_acquire h.stands ∙ ap is_due h.out) ∙ d)

pub not_none : {A : Type 0} (call n : ℕ) → IsOutIn call n None → A
not_none call n h = absurd (let f : None ≡ Some h.acquire = h.stands in cc)

-- these writes wait for it
abbrev pub sending_as : (k : List ℕ) → ℕ → ℕ → (vs : List OwnWrite) → AllAlone k (behind_as vs) → Mode
sending_as k m n vs alone = record {
  key = k;
  Outs = λ xs. Unit {0};
  over = true;
  mark = true;
  hold = false;
  Case = Unit {0};
  mine = λ c. behind_as vs;
  phase = λ c. Held;
  entry = unheld;
  there = [];
  alone = λ c. alone;
  behind = λ c y. inl refl;
  session = None;
  If = λ o. Unit {0};
  Then = IsOutIn m n;
  free = false;
  marked = λ y. refl;
  holding = λ y. refl;
  writing = λ c. sym (none_begun vs);
  still = λ c b. refl;
  writes = λ c y. no_true (sym (none_begun vs) ∙ y);
  seated = λ y. no_true y;
  less = λ call xs q. tt;
  apart = λ xs call j create q f y. no_true y;
  gone = λ f i o. no_true f;
  fell = λ o d i. (tt, (λ x. not_due m n o x d));
  began = λ a d i. inl (tt, (λ x y. not_none m n x));
  sent = λ a call d i. (tt, (λ x. not_due m n (Some a) x d));
}

-- ---- as held

-- no rescind of this ownership
abbrev pub NotOf : List ℕ → ℕ → OfRescind
NotOf k create call j other = same j k ≡ true → (create == other) ≡ false

pub some_none : {A : Type 0} (a : Acquire) → ◌≡◌ {A = Option Acquire} (Some a) None → A
some_none a e = absurd (cc)

abbrev pub holds : List ℕ → ℕ → (e : Entry) → e.phase ≡ Held → Mode
holds k n e held = record {
  key = k;
  Outs = EachOf (CallSo (NotOf k e.create));
  over = true;
  mark = false;
  hold = true;
  Case = Unit {0};
  mine = λ c. [];
  phase = λ c. e.phase;
  entry = e;
  there = [];
  alone = λ c. tt;
  behind = λ c y. no_true y;
  session = Some n;
  If = λ o. Unit {0};
  Then = λ o. o ≡ None;
  free = false;
  marked = λ y. refl;
  holding = λ y. refl;
  writing = λ c. ap is_writing_phase held;
  still = λ c b. ap (phase_sent b) held ∙ sym held;
  writes = λ c y. no_true y;
  seated = λ y. (n, refl);
  less = less_each (CallSo (NotOf k e.create));
  apart = λ xs call j create q f y s. job_each (NotOf k e.create) call j create xs q f s;
  gone = λ f i o. no_true f;
  fell = λ o d i. (tt, (λ x. (refl, (λ y. no_true y))));
  began = λ a d i. inl (tt, (λ x y. absurd (y refl)));
  sent = λ a call d i. (tt, (λ x. some_none a x));
}

-- ---- as written by its owner

pub writing_as : (v : OwnWrite) (vs : List OwnWrite) (own : Option ℕ) (c : Bool) → is_writing_phase (phase_as own c) ≡ any_begun (first_as v own c ∷ behind_as vs)
writing_as v vs None false = sym (none_begun vs)
writing_as v vs None true = refl
writing_as v vs (Some call) c = refl

pub still_as : (own : Option ℕ) (c b : Bool) → phase_sent b (phase_as own c) ≡ phase_as own c
still_as None false b = refl
still_as None true b = refl
still_as (Some call) c b = refl

pub begins_as : (v : OwnWrite) (vs : List OwnWrite) (own : Option ℕ) (c : Bool) → not (is_begun (went_as own c)) ≡ true → MayBegin Bool (λ c. first_as v own c ∷ behind_as vs) (phase_as own) true c
begins_as v vs None false y = record { to = true; first = v; rest = behind_as vs; held = refl; waits = refl; goes = refl; before = refl; behind = refl }
begins_as v vs None true y = no_true y
begins_as v vs (Some call) c y = no_true y

-- the entry is as the first of the writes found it, but for its phase; the others wait behind that
abbrev pub writes_own : (k : List ℕ) → ℕ → (v : OwnWrite) → (vs : List OwnWrite) → (own : Option ℕ) → AllAlone k (behind_as (v ∷ vs)) → (e : Entry) → Mode
writes_own k n v vs own alone e = record {
  key = k;
  Outs = EachOf (CallSo (NotOf k e.create));
  over = true;
  mark = false;
  hold = true;
  Case = Bool;
  mine = λ c. first_as v own c ∷ behind_as vs;
  phase = phase_as own;
  entry = e;
  there = [];
  alone = λ c. alone;
  behind = λ c y. inr (begins_as v vs own c y);
  session = Some n;
  If = λ o. Unit {0};
  Then = λ o. o ≡ None;
  free = false;
  marked = λ y. refl;
  holding = λ y. refl;
  writing = writing_as v vs own;
  still = still_as own;
  writes = λ c y. refl;
  seated = λ y. (n, refl);
  less = less_each (CallSo (NotOf k e.create));
  apart = λ xs call j create q f y s. job_each (NotOf k e.create) call j create xs q f s;
  gone = λ f i o. no_true f;
  fell = λ o d i. (tt, (λ x. (refl, (λ y. no_true y))));
  began = λ a d i. inl (tt, (λ x y. absurd (y refl)));
  sent = λ a call d i. (tt, (λ x. some_none a x));
}

-- ---- not at all: the session isn't there

abbrev pub absent : List ℕ → ℕ → Mode
absent k n = record {
  key = k;
  Outs = λ xs. Unit {0};
  over = false;
  mark = false;
  hold = false;
  Case = Unit {0};
  mine = λ c. [];
  phase = λ c. Held;
  entry = unheld;
  there = [];
  alone = λ c. tt;
  behind = λ c y. no_true y;
  session = Some n;
  If = λ o. Unit {0};
  Then = λ o. ⊥;
  free = false;
  marked = λ y. no_true y;
  holding = λ y. no_true y;
  writing = λ c. refl;
  still = λ c b. refl;
  writes = λ c y. no_true y;
  seated = λ y. no_true y;
  less = λ call xs q. tt;
  apart = λ xs call j create q f y. no_true y;
  gone = λ f i o. no_true f;
  fell = λ o d i. (tt, (λ x. absurd x));
  began = λ a d i. inl (tt, (λ x y. x));
  sent = λ a call d i. (tt, (λ x. x));
}
