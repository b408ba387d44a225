-- What a request that is asked makes of the requests and writes of a proxy: it comes behind the others, if it isn't refused.
use Rattle.std.proofs.Common.{◌≡◌, ℕ, true, false, List, [], ◌∷◌, ◌++◌, Option, None, Some, refl, sym, subst}
use Rattle.etcd_types.specs.declared.answer.Body.{Body}
use Rattle.etcd_types.specs.declared.answer.Refusal.{Refusal}
use Rattle.etcd_types.specs.declared.request.Request.{Request}
use Rattle.etcd_types.specs.declared.request.Request.TheVariants as request
use Rattle.wait_model.specs.declared.write.Write.{Write}
use Rattle.wait_model.specs.Asked.{new_write}
use Rattle.read_model.specs.declared.asked.Asked.{Asked}
use Rattle.read_model.specs.declared.asked.Stage.{Stage}
use Rattle.read_model.specs.declared.asked.Stage.TheVariants as stage
use Rattle.read_model.specs.Acquires.{read_asked}
use Rattle.read_model.specs.PlainRead.{in_stage, decided_ask, decision, ask_key}
use Rattle.read_model.specs.State.{Moment, ground_of}
use Rattle.core_model.specs.Asking.{asked_at, is_leased_read, read_by, read_is_asked, with_ask, write_is_asked, held_body, if_live, call_stage, call_is_asked, answered_or_called, leased_ask, taken_in, request_asked, refused_or_taken, on_ask}
use Rattle.core_model.specs.ClockWork.{writes_go_on}
use Rattle.core_model.specs.Groups.{is_out_for, group_since, joining}
use Rattle.core_model.specs.Kinds.{writes_keys}
use Rattle.core_model.specs.Lookups.{leases, is_known, moment, reads_of, with_reads}
use Rattle.core_model.specs.Refusals.{refusal_of}
use Rattle.core_model.specs.State.{Core}
use Rattle.core_laws.proofs.Steps.Comes.{by_test}
use Rattle.core_fits.specs.Fits.{EachOf, Serves, is_reading}
use Rattle.core_fits.proofs.Eachs.{each_pushed}
use Rattle.core_fits.proofs.ReadRows.{decided_writes}
use Rattle.core_fits.proofs.WriteRows.{passed_has}
use Rattle.core_fits.proofs.CallRows.{CoreHas, StepHas, Last, go_on}

-- ---- a request is asked

-- what holds of a request that is new: it waits for an acquire or for an owner write only as a plain read
pub record Fresh (P : Asked → Type 0) (W : Write → Type 0) (prefix : List ℕ) (a : Asked) : Type 0 where
  pub other : (s : Stage) → is_reading s ≡ false → P (in_stage s a)
  pub read : is_leased_read prefix a.request ≡ true → (s : Stage) → P (in_stage s a)
  pub write : W (new_write a.ticket a.request)

joining_calls : (step : ℕ) (o : Option ℕ) → is_reading (joining step o) ≡ false
joining_calls step None = refl
joining_calls step (Some since) = refl

call_calls : (q : Request) (c : Core) → is_reading (call_stage q c) ≡ false
call_calls (request.KeepAlive lease) c = by_test (λ (s : Stage). is_reading s ≡ false) (is_out_for lease c.out) (stage.Grouped None) (joining c.own.waits.step (group_since lease c.asks)) (λ t. refl) (λ t. joining_calls c.own.waits.step (group_since lease c.asks))
call_calls (request.Range ask) c = refl
call_calls (request.Put ask) c = refl
call_calls (request.Delete ask) c = refl
call_calls (request.Txn t) c = refl
call_calls (request.Compact revision physical) c = refl
call_calls (request.Grant ttl lease) c = refl
call_calls (request.Revoke lease) c = refl
call_calls (request.TimeToLive lease keys) c = refl
call_calls request.Leases c = refl
call_calls (request.Watch ask) c = refl

call_asked : (P : Asked → Type 0) (W : Write → Type 0) → Last P W → (prefix : List ℕ) (a : Asked) (c : Core) → Fresh P W prefix a → CoreHas P W c → StepHas P W (call_is_asked a c)
call_asked P W l prefix a c f t =
    go_on P W l (with_ask (call_stage a.request c) a c) (each_pushed P (in_stage (call_stage a.request c) a) c.asks t.0 (f.other (call_stage a.request c) (call_calls a.request c)), t.1)

read_asked_has : (P : Asked → Type 0) (W : Write → Type 0) → Last P W → (m : Moment) (a : Asked) (c : Core) → ((s : Stage) → P (in_stage s a)) → CoreHas P W c → StepHas P W (read_is_asked m a c)
read_asked_has P W l m a c f t = by_stage (decided_ask m (ground_of (reads_of c)) a).stage
  where
    d : Core
    d = with_reads c (read_asked m a (reads_of c))

    pushed : CoreHas P W (writes_go_on (with_reads c (read_asked m a (reads_of c))))
    pushed =
        go_on P W l (with_reads c (read_asked m a (reads_of c)))
        (each_pushed P (decided_ask m (ground_of (reads_of c)) a) c.asks t.0 (f (decision m (ground_of (reads_of c)) (ask_key a)).stage), subst (EachOf W) (sym (decided_writes m (ground_of (reads_of c)) a)) t.1)

    by_stage : (s : Stage) → StepHas P W (read_by s c (with_reads c (read_asked m a (reads_of c))))
    by_stage (stage.Replied v) = t
    by_stage (stage.Calling s) = pushed
    by_stage stage.Acquiring = pushed
    by_stage stage.Joined = pushed
    by_stage stage.Behind = pushed
    by_stage stage.Writes = pushed
    by_stage (stage.Grouped s) = pushed

write_asked_has : (P : Asked → Type 0) (W : Write → Type 0) → Last P W → (prefix : List ℕ) (a : Asked) (c : Core) → Fresh P W prefix a → CoreHas P W c → StepHas P W (write_is_asked a c)
write_asked_has P W l prefix a c f t =
    let asks = each_pushed P (in_stage stage.Writes a) c.asks t.0 (f.other stage.Writes refl) in
    let ws = each_pushed W (new_write a.ticket a.request) c.own.waits.writes t.1 f.write in
    (asks, passed_has W l.writes c.own.waits.step [] c.own.entries c.own.waits.spoiled (c.own.waits.writes ++ new_write a.ticket a.request ∷ []) ws)

leased_has : (P : Asked → Type 0) (W : Write → Type 0) → Last P W → (m : Moment) (a : Asked) (c : Core) → Fresh P W c.own.waits.prefix a → CoreHas P W c → StepHas P W (leased_ask m a c)
leased_has P W l m a c f t =
    by_test (StepHas P W) (is_leased_read c.own.waits.prefix a.request) _ _
    (λ e. read_asked_has P W l m a c (f.read e) t)
    (λ e. by_test (StepHas P W) (writes_keys a.request) _ _ (λ u. write_asked_has P W l c.own.waits.prefix a c f t) (λ u. by_body (if_live m.session (held_body c.own.entries a.request))))
  where
    by_body : (b : Option Body) → StepHas P W (answered_or_called b a c)
    by_body None = call_asked P W l c.own.waits.prefix a c f t
    by_body (Some b) = t

taken_in_has : (P : Asked → Type 0) (W : Write → Type 0) → Last P W → (m : Moment) (a : Asked) (c : Core) → Fresh P W c.own.waits.prefix a → CoreHas P W c → StepHas P W (taken_in m a c)
taken_in_has P W l m a c f t = by_test (StepHas P W) (leases c) _ _ (λ e. leased_has P W l m a c f t) (λ e. call_asked P W l c.own.waits.prefix a c f t)

request_has : (P : Asked → Type 0) (W : Write → Type 0) → Last P W → (q : Request) (m : Moment) (a : Asked) (c : Core) → Fresh P W c.own.waits.prefix a → CoreHas P W c → StepHas P W (request_asked q m a c)
request_has P W l (request.Watch ask) m a c f t = t
request_has P W l (request.KeepAlive lease) m a c f t = taken_in_has P W l m a c f t
request_has P W l (request.Range ask) m a c f t = taken_in_has P W l m a c f t
request_has P W l (request.Put ask) m a c f t = taken_in_has P W l m a c f t
request_has P W l (request.Delete ask) m a c f t = taken_in_has P W l m a c f t
request_has P W l (request.Txn x) m a c f t = taken_in_has P W l m a c f t
request_has P W l (request.Compact revision physical) m a c f t = taken_in_has P W l m a c f t
request_has P W l (request.Grant ttl lease) m a c f t = taken_in_has P W l m a c f t
request_has P W l (request.Revoke lease) m a c f t = taken_in_has P W l m a c f t
request_has P W l (request.TimeToLive lease keys) m a c f t = taken_in_has P W l m a c f t
request_has P W l request.Leases m a c f t = taken_in_has P W l m a c f t

-- a new ticket, of a request that isn't refused
abbrev pub IsNew : (Asked → Type 0) → (Write → Type 0) → ℕ → ℕ → Request → ℕ → Core → Type 0
IsNew P W now ticket q word c = is_known ticket c ≡ false → Serves c.own.waits.prefix q → Fresh P W c.own.waits.prefix (asked_at now ticket q word)

pub asked_has : (P : Asked → Type 0) (W : Write → Type 0) → Last P W → (now ticket : ℕ) (q : Request) (word : ℕ) (c : Core) → IsNew P W now ticket q word c → CoreHas P W c → StepHas P W (on_ask now ticket q word c)
unfolding on_ask
asked_has P W l now ticket q word c f t =
    by_test (StepHas P W) (is_known ticket c) _ _ (λ e. t) (λ e. by_refusal e (refusal_of c.own.waits.prefix q) refl)
  where
    by_refusal : is_known ticket c ≡ false → (o : Option Refusal) → refusal_of c.own.waits.prefix q ≡ o → StepHas P W (refused_or_taken o (moment c now) (asked_at now ticket q word) c)
    by_refusal e None r = request_has P W l q (moment c now) (asked_at now ticket q word) c (f e r) t
    by_refusal e (Some x) r = t
