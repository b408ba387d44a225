-- Which requests come to which stage: only plain reads wait for an acquire or an owner write, and only what writes nothing goes out
-- as a client's own call.
use Rattle.std.proofs.Common.{◌≡◌, ℕ, ◌+◌, ◌==◌, nat_le, Bool, true, false, not, cond, ◌&&◌, ◌||◌, List, [], ◌∷◌, map, Option, Some, refl, ap}
use Rattle.std.specs.List.{list_any}
use Rattle.etcd_types.specs.declared.request.Request.{Request}
use Rattle.etcd_types.specs.declared.request.Request.TheVariants as request
use Rattle.etcd_types.specs.Keys.{is_empty}
use Rattle.etcd_types.proofs.Bools.{and_first, and_both, false_not}
use Rattle.proxy_model.specs.declared.lease.Entry.{Entry}
use Rattle.proxy_model.specs.Keyed.{at}
use Rattle.proxy_model.specs.Limits.{capped}
use Rattle.wait_model.specs.declared.sending.Sending.TheVariants as sending
use Rattle.wait_model.specs.declared.wait.Settled.{Settled}
use Rattle.wait_model.specs.declared.wait.Settled.TheVariants as settled
use Rattle.read_model.specs.declared.acquire.Acquire.{Acquire}
use Rattle.read_model.specs.declared.asked.Asked.{Asked}
use Rattle.read_model.specs.declared.asked.Stage.{Stage}
use Rattle.read_model.specs.declared.asked.Stage.TheVariants as stage
use Rattle.read_model.specs.declared.asked.Verdict.{Verdict}
use Rattle.read_model.specs.declared.asked.Verdict.TheVariants as verdict
use Rattle.read_model.specs.Acquires.{is_acquiring, acquires_at, told, lost_once, told_lost}
use Rattle.read_model.specs.PlainRead.{ask_key, in_stage, called, decided_ask, decision}
use Rattle.read_model.specs.Release.{stands, ask_stands, released_ask, released_ground, released_from}
use Rattle.read_model.specs.State.{Moment, Ground}
use Rattle.read_model.specs.WriteAnswers.{settled_ask}
use Rattle.core_model.specs.declared.out_call.CallKind.{CallKind}
use Rattle.core_model.specs.declared.out_call.OutCall.{OutCall}
use Rattle.core_model.specs.Asking.{is_leased_read}
use Rattle.core_model.specs.ClockWork.{times_out, timed_out_ask}
use Rattle.core_model.specs.Ends.{stales_limit, stale_once, lost_ask}
use Rattle.core_model.specs.Fits.{once, ask_tickets}
use Rattle.core_model.specs.Groups.{keeps, is_out_stage, is_due_stage, waits_next, group_sent, group_ended}
use Rattle.core_model.specs.Kinds.{is_read, writes_keys}
use Rattle.core_model.specs.Lookups.{has_ticket, stage_calls, calls_as}
use Rattle.core_model.specs.Sending.{called_as}
use Rattle.core_model.specs.State.{Core}
use Rattle.core_laws.proofs.Steps.Comes.{by_test}
use Rattle.core_laws.proofs.Steps.Due.{is_called_due}
use Rattle.core_laws.proofs.Steps.TakenOff.{never_both}
use Rattle.core_fits.specs.Fits.{EachOf, is_reading}
use Rattle.core_fits.proofs.Eachs.{each_mapped}
use Rattle.step_moves.specs.Work.{is_calling, is_called}

module _ (prefix : List ℕ) where
  pub record Fit (s : Stage) (q : Request) : Type 0 where
    pub reads : is_reading s ≡ true → is_leased_read prefix q ≡ true
    pub calls : is_empty prefix ≡ false → is_calling s ≡ true → is_called q ≡ true

  abbrev pub Fits : Asked → Type 0
  Fits a = Fit a.stage a.request

  -- at a stage that neither waits nor calls
  pub at_rest : (s : Stage) (q : Request) → is_reading s ≡ false → is_calling s ≡ false → Fit s q
  at_rest s q r c = record { reads = λ h. absurd (cc); calls = λ e h. absurd (cc) }

  pub replied_fits : (v : Verdict) (q : Request) → Fit (stage.Replied v) q
  replied_fits v q = at_rest (stage.Replied v) q refl refl

  read_called : (q : Request) → is_leased_read prefix q ≡ true → is_called q ≡ true
  read_called (request.Range ask) h = refl
  read_called (request.Put ask) h = absurd (cc)
  read_called (request.Delete ask) h = absurd (cc)
  read_called (request.Txn t) h = absurd (cc)
  read_called (request.Compact revision physical) h = absurd (cc)
  read_called (request.Grant ttl lease) h = absurd (cc)
  read_called (request.Revoke lease) h = absurd (cc)
  read_called (request.KeepAlive lease) h = absurd (cc)
  read_called (request.TimeToLive lease keys) h = absurd (cc)
  read_called request.Leases h = absurd (cc)
  read_called (request.Watch ask) h = absurd (cc)

  -- a plain read fits at every stage
  pub read_fits : (q : Request) → is_leased_read prefix q ≡ true → (s : Stage) → Fit s q
  read_fits q l s = record { reads = λ h. l; calls = λ e h. read_called q l }

  -- a read or a call that is called again
  pub again_fits : (s t : Stage) (q : Request) → is_reading s || is_calling s ≡ true → Fit s q → is_reading t ≡ false → Fit t q
  again_fits s t q o f n = by (is_reading s) refl o
    where
      by : (b : Bool) → is_reading s ≡ b → b || is_calling s ≡ true → Fit t q
      by true e h = read_fits q (f.reads e) t
      by false e h = record { reads = λ i. absurd (cc); calls = λ l i. f.calls l h }

  fits_if : (b : Bool) (x y : Asked) → (b ≡ true → Fits y) → Fits x → Fits (cond b y x)
  fits_if b x y h f = by_test Fits b y x h (λ t. f)

  -- Each change of one request.

  pub times_fit : (now : ℕ) (a : Asked) → Fits a → Fits (timed_out_ask now a)
  times_fit now a f = fits_if (times_out now a) a (in_stage (stage.Replied verdict.TimedOut) a) (λ t. replied_fits verdict.TimedOut a.request) f

  pub told_fits : (k : List ℕ) (v : Verdict) (a : Asked) → Fits a → Fits (told k (stage.Replied v) a)
  told_fits k v a f = fits_if (acquires_at k a) a (in_stage (stage.Replied v) a) (λ t. replied_fits v a.request) f

  pub lost_fits : (members step : ℕ) (a : Asked) → is_reading a.stage || is_calling a.stage ≡ true → Fits a → Fits (lost_once members step a)
  lost_fits members step a o f =
      by_test (λ (s : Stage). Fit s a.request) (nat_le members (capped (a.losses + 1))) (stage.Replied verdict.Lost) (called step) (λ t. replied_fits verdict.Lost a.request) (λ t. again_fits a.stage (called step) a.request o f refl)

  pub stale_fits : (members step : ℕ) (a : Asked) → is_reading a.stage || is_calling a.stage ≡ true → Fits a → Fits (stale_once members step a)
  stale_fits members step a o f =
      by_test (λ (s : Stage). Fit s a.request) (nat_le (stales_limit members) (capped (a.stales + 1))) (stage.Replied verdict.Stale) (called step) (λ t. replied_fits verdict.Stale a.request) (λ t. again_fits a.stage (called step) a.request o f refl)

  acquiring_reads : (s : Stage) → is_acquiring s ≡ true → is_reading s || is_calling s ≡ true
  acquiring_reads stage.Acquiring h = refl
  acquiring_reads stage.Joined h = absurd (cc)
  acquiring_reads stage.Behind h = absurd (cc)
  acquiring_reads stage.Writes h = absurd (cc)
  acquiring_reads (stage.Calling s) h = absurd (cc)
  acquiring_reads (stage.Grouped s) h = absurd (cc)
  acquiring_reads (stage.Replied v) h = absurd (cc)

  pub told_lost_fits : (members step : ℕ) (k : List ℕ) (a : Asked) → Fits a → Fits (told_lost members step k a)
  told_lost_fits members step k a f = fits_if (acquires_at k a) a (lost_once members step a) (λ t. lost_fits members step a (acquiring_reads a.stage (and_first (is_acquiring a.stage) _ t)) f) f

  -- the one whose call it is
  calling_calls : (n : ℕ) (s : Stage) → stage_calls n s ≡ true → is_reading s || is_calling s ≡ true
  calling_calls n (stage.Calling s) h = refl
  calling_calls n stage.Acquiring h = refl
  calling_calls n stage.Joined h = refl
  calling_calls n stage.Behind h = refl
  calling_calls n stage.Writes h = absurd (cc)
  calling_calls n (stage.Grouped s) h = absurd (cc)
  calling_calls n (stage.Replied v) h = absurd (cc)

  pub caller_fits : (n : ℕ) (f : Asked → Asked) → ((x : Asked) → is_reading x.stage || is_calling x.stage ≡ true → Fits x → Fits (f x)) → (x : Asked) → Fits x → Fits (cond (calls_as n x) (f x) x)
  caller_fits n f k x h = fits_if (calls_as n x) x (f x) (λ t. k x (calling_calls n x.stage t) h) h

  pub lost_ask_fits : (k : CallKind) (o : OutCall) (c : Core) (x : Asked) → is_reading x.stage || is_calling x.stage ≡ true → Fits x → Fits (lost_ask k o c x)
  lost_ask_fits k o c x h f = by_test Fits (is_read k) (lost_once c.members.count c.own.waits.step x) (in_stage (stage.Replied verdict.Lost) x) (λ t. lost_fits c.members.count c.own.waits.step x h f) (λ t. replied_fits verdict.Lost x.request)

  pub settled_fits : (s : Settled) (x : Asked) → Fits x → Fits (settled_ask s x)
  settled_fits settled.Nothing x f = f
  settled_fits (settled.Reply ticket a) x f = fits_if (x.ticket == ticket) x (in_stage (stage.Replied (verdict.Said a)) x) (λ t. replied_fits (verdict.Said a) x.request) f
  settled_fits (settled.Failed ticket) x f = fits_if (x.ticket == ticket) x (in_stage (stage.Replied verdict.Lost) x) (λ t. replied_fits verdict.Lost x.request) f

  pub group_fits : (step call lease : ℕ) (v : Verdict) (x : Asked) → Fits x → Fits (group_ended step call lease v x)
  group_fits step call lease v x f =
      by_test Fits (is_out_stage call x.stage) (in_stage (stage.Replied v) x) (cond (keeps lease x.request && waits_next x.stage) (in_stage (stage.Grouped (Some (sending.Due step))) x) x) (λ t. replied_fits v x.request)
      (λ t. fits_if (keeps lease x.request && waits_next x.stage) x (in_stage (stage.Grouped (Some (sending.Due step))) x) (λ w. at_rest (stage.Grouped (Some (sending.Due step))) x.request refl refl) f)

  pub group_sent_fits : (call lease : ℕ) (x : Asked) → Fits x → Fits (group_sent call lease x)
  group_sent_fits call lease x f = fits_if (keeps lease x.request && is_due_stage x.stage) x (in_stage (stage.Grouped (Some (sending.Out call))) x) (λ t. at_rest (stage.Grouped (Some (sending.Out call))) x.request refl refl) f

  -- A release: only what waits so is released.

  unstood_reads : (ticket : ℕ) (e : Option Entry) (c : Option Acquire) (s : Stage) → stands ticket e c s ≡ false → is_reading s ≡ true
  unstood_reads ticket e c stage.Acquiring h = refl
  unstood_reads ticket e c stage.Joined h = refl
  unstood_reads ticket e c stage.Behind h = refl
  unstood_reads ticket e c stage.Writes h = absurd (cc)
  unstood_reads ticket e c (stage.Calling s) h = absurd (cc)
  unstood_reads ticket e c (stage.Grouped s) h = absurd (cc)
  unstood_reads ticket e c (stage.Replied v) h = absurd (cc)

  released_fits : (again : Bool) (m : Moment) (g : Ground) (a : Asked) → Fits a → Fits (released_ask again m g a)
  released_fits again m g a f =
      by_test Fits (ask_stands g a) a (cond again (decided_ask m g a) (in_stage (called g.own.waits.step) a)) (λ t. f)
      (λ t.
      let l = f.reads (unstood_reads a.ticket (at g.own.entries (ask_key a)) (at g.acquires (ask_key a)) a.stage t) in
      by_test Fits again (decided_ask m g a) (in_stage (called g.own.waits.step) a) (λ u. read_fits a.request l (decision m g (ask_key a)).stage) (λ u. read_fits a.request l (called g.own.waits.step)))

  pub released_each : (again : Bool) (m : Moment) (g : Ground) (xs : List Asked) → EachOf Fits xs → EachOf Fits (released_from again m g xs).asks
  unfolding released_from
  released_each again m g [] t = tt
  released_each again m g (x ∷ xs) t = (released_fits again m g x t.0, released_each again m (released_ground again m g x) xs t.1)

  pub each_fits : (f : Asked → Asked) → ((x : Asked) → Fits x → Fits (f x)) → (xs : List Asked) → EachOf Fits xs → EachOf Fits (map f xs)
  each_fits f g xs t = each_mapped Fits Fits f g xs t

  -- A call that is sent is that of the one request of its ticket, which was due.

  neither : (a : Asked) → is_called_due a.stage && not (is_called_due a.stage) ≡ false
  neither a = by (is_called_due a.stage)
    where
      by : (b : Bool) → b && not b ≡ false
      by true = refl
      by false = refl

  due_calls : (s : Stage) → is_called_due s ≡ true → is_calling s ≡ true
  due_calls (stage.Calling s) h = refl
  due_calls stage.Acquiring h = absurd (cc)
  due_calls stage.Joined h = absurd (cc)
  due_calls stage.Behind h = absurd (cc)
  due_calls stage.Writes h = absurd (cc)
  due_calls (stage.Grouped s) h = absurd (cc)
  due_calls (stage.Replied v) h = absurd (cc)

  pub called_fits : (call ticket : ℕ) (all : List Asked) → once (ask_tickets all) ≡ true → list_any (λ b. has_ticket ticket b && is_called_due b.stage) all ≡ true → EachOf Fits all → EachOf Fits (map (called_as call ticket) all)
  called_fits call ticket all u due h = by all (λ q t. t) h
    where
      of_ticket : (x : Asked) → ((q : Asked → Bool) → q x ≡ true → list_any q all ≡ true) → has_ticket ticket x ≡ true → Fits x → (b : Bool) → is_called_due x.stage ≡ b → Fit (stage.Calling (sending.Out call)) x.request
      of_ticket x m t f true e = record { reads = λ i. absurd (cc); calls = λ l i. f.calls l (due_calls x.stage e) }
      of_ticket x m t f false e =
          absurd (never_both (λ b. is_called_due b.stage) (λ b. not (is_called_due b.stage)) neither ticket all u due (m (λ b. has_ticket ticket b && not (is_called_due b.stage)) (and_both (has_ticket ticket x) (not (is_called_due x.stage)) t (false_not (is_called_due x.stage) e))))

      by : (xs : List Asked) → ((q : Asked → Bool) → list_any q xs ≡ true → list_any q all ≡ true) → EachOf Fits xs → EachOf Fits (map (called_as call ticket) xs)
      by [] m f = tt
      by (x ∷ xs) m f =
          (fits_if (has_ticket ticket x) x (in_stage (stage.Calling (sending.Out call)) x) (λ t. of_ticket x (λ q i. m q (ap (λ b. b || list_any q xs) i)) t f.0 (is_called_due x.stage) refl) f.0, by xs (λ q i. m q (right (q x) (list_any q xs) i)) f.1)
        where
          right : (a b : Bool) → b ≡ true → a || b ≡ true
          right true b i = refl
          right false b i = i

  -- A request that is new and no watch: with leasing on, what isn't handed in as a write writes nothing.

  abbrev pub is_watch : Request → Bool
  is_watch (request.Watch ask) = true
  is_watch _ = false

  pub written_or_called : (q : Request) → is_watch q ≡ false → writes_keys q ≡ false → is_called q ≡ true
  written_or_called (request.Range ask) n w = refl
  written_or_called (request.Put ask) n w = false_not (writes_keys (request.Put ask)) w
  written_or_called (request.Delete ask) n w = false_not (writes_keys (request.Delete ask)) w
  written_or_called (request.Txn t) n w = false_not (writes_keys (request.Txn t)) w
  written_or_called (request.Compact revision physical) n w = refl
  written_or_called (request.Grant ttl lease) n w = refl
  written_or_called (request.Revoke lease) n w = refl
  written_or_called (request.KeepAlive lease) n w = refl
  written_or_called (request.TimeToLive lease keys) n w = refl
  written_or_called request.Leases n w = refl
  written_or_called (request.Watch ask) n w = absurd (cc)
