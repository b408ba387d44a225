-- What a step makes of the requests: most leave each as it is, or with nothing out; and what that keeps.
use Rattle.std.proofs.Common.{◌≡◌, ℕ, ◌==◌, Bool, true, false, not, cond, ◌&&◌, ◌||◌, List, [], ◌∷◌, map, filter, Option, None, Some, refl, sym, ◌∙◌, ap, subst}
use Rattle.std.specs.List.{list_any, list_all}
use Rattle.etcd_types.specs.declared.request.Request.{Request}
use Rattle.etcd_types.specs.Keys.{same}
use Rattle.etcd_types.specs.declared.record.Header.{Header}
use Rattle.etcd_types.proofs.KeyOrder.{same-equal}
use Rattle.etcd_types.proofs.Bools.{and_first, and_second, and_both, and_false, and_true, or_first, or_second, or_none}
use Rattle.proxy_model.specs.declared.lease.Entry.{Entry}
use Rattle.proxy_model.specs.declared.lease.Phase.{Phase}
use Rattle.proxy_model.specs.declared.lease.Phase.TheVariants.{Held, Writing, Leaving}
use Rattle.proxy_model.specs.Keyed.{Keyed, at}
use Rattle.wait_model.specs.declared.sending.Sending.{Sending}
use Rattle.wait_model.specs.declared.sending.Sending.TheVariants as sending
use Rattle.wait_model.specs.declared.wait.Settled.{Settled}
use Rattle.wait_model.specs.declared.wait.Settled.TheVariants as settled
use Rattle.wait_model.specs.declared.write.Write.{Write}
use Rattle.read_model.specs.declared.acquire.Acquire.{Acquire}
use Rattle.read_model.specs.declared.asked.Asked.{Asked}
use Rattle.read_model.specs.declared.asked.Stage.{Stage}
use Rattle.read_model.specs.declared.asked.Stage.TheVariants as stage
use Rattle.read_model.specs.declared.asked.Verdict.{Verdict}
use Rattle.read_model.specs.declared.asked.Verdict.TheVariants as verdict
use Rattle.read_model.specs.Acquires.{is_acquiring, acquires_at}
use Rattle.read_model.specs.PlainRead.{ask_key, in_stage, called, held_turn, read_turn}
use Rattle.read_model.specs.Release.{names, stands, ask_stands, in_place}
use Rattle.read_model.specs.State.{Ground}
use Rattle.read_model.specs.TakingOff.{is_writes}
use Rattle.read_model.specs.WriteAnswers.{settled_ask}
use Rattle.core_model.specs.declared.out_call.OutCall.{OutCall}
use Rattle.core_model.specs.declared.out_call.OutJob.{OutJob}
use Rattle.core_model.specs.Fits.{has_number, once, job_at, is_ask_job, is_stage_out, group_stands, ask_tickets, writing_tickets, write_tickets, AsksOk, awaits, is_awaited, AreAwaited, GroupsOk}
use Rattle.core_model.specs.Lookups.{has_ticket, stage_calls, calls_as, without_out}
use Rattle.core_laws.proofs.Steps.Lists.{and_turned, same_number, number_itself, all_mapped, any_kept, any_mapped, any_filtered, none_kept, one_of_map, both_of_one, once_is_one, once_filtered, same_numbers, but, but_numbers}
use Rattle.core_laws.proofs.Steps.Calls.{out_left, not_its}
use Rattle.core_laws.proofs.Steps.Comes.{by_test, come_tickets}
use Rattle.core_laws.proofs.Steps.WaitEnds.{none_by, IsRemoved, EndsAs, removed_tickets, found_ticket}

-- Stages with nothing out, of a request that is no write and no keepalive.

abbrev pub is_free : Stage → Bool
is_free (stage.Calling (sending.Due since)) = true
is_free (stage.Calling (sending.Out call)) = false
is_free stage.Acquiring = true
is_free stage.Joined = true
is_free stage.Behind = true
is_free stage.Writes = false
is_free (stage.Grouped s) = false
is_free (stage.Replied v) = true

pub free_out : (out : List OutCall) (s : Stage) → is_free s ≡ true → is_stage_out out s ≡ true
free_out out (stage.Calling (sending.Due since)) h = refl
free_out out (stage.Calling (sending.Out call)) h = absurd (cc)
free_out out stage.Acquiring h = refl
free_out out stage.Joined h = refl
free_out out stage.Behind h = refl
free_out out stage.Writes h = refl
free_out out (stage.Grouped s) h = refl
free_out out (stage.Replied v) h = refl

pub free_group : (out : List OutCall) (q : Request) (s : Stage) → is_free s ≡ true → group_stands out q s ≡ true
free_group out q (stage.Calling s) h = refl
free_group out q stage.Acquiring h = refl
free_group out q stage.Joined h = refl
free_group out q stage.Behind h = refl
free_group out q stage.Writes h = refl
free_group out q (stage.Grouped s) h = absurd (cc)
free_group out q (stage.Replied v) h = refl

pub free_calls : (n : ℕ) (s : Stage) → is_free s ≡ true → stage_calls n s ≡ false
free_calls n (stage.Calling (sending.Due since)) h = refl
free_calls n (stage.Calling (sending.Out call)) h = absurd (cc)
free_calls n stage.Acquiring h = refl
free_calls n stage.Joined h = refl
free_calls n stage.Behind h = refl
free_calls n stage.Writes h = refl
free_calls n (stage.Grouped s) h = refl
free_calls n (stage.Replied v) h = refl

pub free_writes : (s : Stage) → is_free s ≡ true → is_writes s ≡ false
free_writes (stage.Calling s) h = refl
free_writes stage.Acquiring h = refl
free_writes stage.Joined h = refl
free_writes stage.Behind h = refl
free_writes stage.Writes h = absurd (cc)
free_writes (stage.Grouped s) h = refl
free_writes (stage.Replied v) h = refl

-- One request: it stays, or nothing of it is out.
pub data Moves (x y : Asked) : Type 0 where
  stays : y ≡ x → Moves x y
  frees : y.ticket ≡ x.ticket → is_free y.stage ≡ true → Moves x y

pub moved_ticket : (x y : Asked) → Moves x y → y.ticket ≡ x.ticket
moved_ticket x y (stays e) = ap (λ (a : Asked). a.ticket) e
moved_ticket x y (frees t f) = t

pub moved_out : (out : List OutCall) (x y : Asked) → Moves x y → is_stage_out out x.stage ≡ true → is_stage_out out y.stage ≡ true
moved_out out x y (stays e) h = ap (λ (a : Asked). is_stage_out out a.stage) e ∙ h
moved_out out x y (frees t f) h = free_out out y.stage f

moved_group : (out : List OutCall) (x y : Asked) → Moves x y → group_stands out x.request x.stage ≡ true → group_stands out y.request y.stage ≡ true
moved_group out x y (stays e) h = ap (λ (a : Asked). group_stands out a.request a.stage) e ∙ h
moved_group out x y (frees t f) h = free_group out y.request y.stage f

pub moved_calls : (n : ℕ) (x y : Asked) → Moves x y → calls_as n y ≡ true → calls_as n x ≡ true
moved_calls n x y (stays e) h = sym (ap (calls_as n) e) ∙ h
moved_calls n x y (frees t f) h = absurd (let u = free_calls n y.stage f in cc)

-- All of them.

pub all_out : (out : List OutCall) (f : Asked → Asked) → ((x : Asked) → Moves x (f x)) → (xs : List Asked) → list_all (λ a. is_stage_out out a.stage) xs ≡ true → list_all (λ a. is_stage_out out a.stage) (map f xs) ≡ true
all_out out f m xs h = all_mapped (λ (a : Asked). is_stage_out out a.stage) (λ (a : Asked). is_stage_out out a.stage) f (λ x t. moved_out out x (f x) (m x) t) xs h

pub all_groups : (out : List OutCall) (f : Asked → Asked) → ((x : Asked) → Moves x (f x)) → (xs : List Asked) → GroupsOk out xs → GroupsOk out (map f xs)
all_groups out f m xs h = record { one = h.one; stand = all_mapped (λ (a : Asked). group_stands out a.request a.stage) (λ (a : Asked). group_stands out a.request a.stage) f (λ x t. moved_group out x (f x) (m x) t) xs h.stand }

pub same_tickets : (f : Asked → Asked) → ((x : Asked) → (f x).ticket ≡ x.ticket) → (xs : List Asked) → ask_tickets (map f xs) ≡ ask_tickets xs
same_tickets f e [] = refl
same_tickets f e (x ∷ xs) = ap (λ n. n ∷ ask_tickets (map f xs)) (e x) ∙ ap (λ l. x.ticket ∷ l) (same_tickets f e xs)

-- of a change that keeps the calls, and leaves these writes
pub asks_changed : (f : Asked → Asked) → ((x : Asked) → (f x).ticket ≡ x.ticket) → ((n : ℕ) (x : Asked) → calls_as n (f x) ≡ true → calls_as n x ≡ true) → (xs : List Asked) (ws vs : List Write) → write_tickets vs ≡ writing_tickets (map f xs) → AsksOk xs ws → AsksOk (map f xs) vs
asks_changed f t c xs ws vs w h = record {
  once = ap once (same_tickets f t xs) ∙ h.once;
  writes = w;
  calls_once = λ n. one_of_map (calls_as n) (calls_as n) f (c n) xs (h.calls_once n);
}

pub asks_moved : (f : Asked → Asked) → ((x : Asked) → Moves x (f x)) → ((x : Asked) → is_writes (f x).stage ≡ is_writes x.stage) → (xs : List Asked) (ws vs : List Write) → write_tickets vs ≡ write_tickets ws → AsksOk xs ws → AsksOk (map f xs) vs
asks_moved f m w xs ws vs e h =
    asks_changed f (λ x. moved_ticket x (f x) (m x)) (λ n x. moved_calls n x (f x) (m x)) xs ws vs (e ∙ h.writes ∙ sym (same_numbers (λ (a : Asked). a.ticket) (λ (a : Asked). a.ticket) (λ (a : Asked). is_writes a.stage) (λ (a : Asked). is_writes a.stage) f (λ x. moved_ticket x (f x) (m x)) w xs)) h

-- none has a call then that none had
pub none_moved : (n : ℕ) (f : Asked → Asked) → ((x : Asked) → Moves x (f x)) → (xs : List Asked) → list_any (calls_as n) xs ≡ false → list_any (calls_as n) (map f xs) ≡ false
none_moved n f m xs h = any_mapped (calls_as n) f xs ∙ none_kept (calls_as n) (λ x. calls_as n (f x)) (λ x t. moved_calls n x (f x) (m x) t) xs h

-- A call that ends is none of theirs.

stage_left : (n : ℕ) (out : List OutCall) (s : Stage) → stage_calls n s ≡ false → is_stage_out out s ≡ true → is_stage_out (without_out n out) s ≡ true
stage_left n out (stage.Calling s) e h = out_left is_ask_job n out s e h
stage_left n out stage.Acquiring e h = refl
stage_left n out stage.Joined e h = refl
stage_left n out stage.Behind e h = refl
stage_left n out stage.Writes e h = refl
stage_left n out (stage.Grouped s) e h = refl
stage_left n out (stage.Replied v) e h = refl

pub all_left : (n : ℕ) (out : List OutCall) (xs : List Asked) → list_any (calls_as n) xs ≡ false → list_all (λ a. is_stage_out out a.stage) xs ≡ true → list_all (λ a. is_stage_out (without_out n out) a.stage) xs ≡ true
all_left n out [] e h = refl
all_left n out (x ∷ xs) e h =
    and_both (is_stage_out (without_out n out) x.stage) (list_all (λ a. is_stage_out (without_out n out) a.stage) xs)
    (stage_left n out x.stage (or_first (calls_as n x) (list_any (calls_as n) xs) e) (and_first (is_stage_out out x.stage) (list_all (λ a. is_stage_out out a.stage) xs) h))
    (all_left n out xs (or_second (calls_as n x) (list_any (calls_as n) xs) e) (and_second (is_stage_out out x.stage) (list_all (λ a. is_stage_out out a.stage) xs) h))

stage_other : (n : ℕ) (j : OutJob) (out : List OutCall) (s : Stage) → job_at n out ≡ Some j → is_ask_job j ≡ false → is_stage_out out s ≡ true → stage_calls n s ≡ false
stage_other n j out (stage.Calling s) f e h = not_its is_ask_job n j out s f e h
stage_other n j out stage.Acquiring f e h = refl
stage_other n j out stage.Joined f e h = refl
stage_other n j out stage.Behind f e h = refl
stage_other n j out stage.Writes f e h = refl
stage_other n j out (stage.Grouped s) f e h = refl
stage_other n j out (stage.Replied v) f e h = refl

pub nobody_calls : (n : ℕ) (j : OutJob) (out : List OutCall) (xs : List Asked) → job_at n out ≡ Some j → is_ask_job j ≡ false → list_all (λ a. is_stage_out out a.stage) xs ≡ true → list_any (calls_as n) xs ≡ false
nobody_calls n j out xs f e h = none_by (λ (a : Asked). is_stage_out out a.stage) (calls_as n) (λ a t u. absurd (let v = stage_other n j out a.stage f e t in cc)) xs h

-- The release in place.

held_free : (h : Header) (step : ℕ) (e : Entry) (p : Phase) → is_free (held_turn h step e.kv p) ≡ true
held_free h step e Held = refl
held_free h step e (Writing revoked) = refl
held_free h step e (Leaving sent) = refl

pub turn_free : (h : Header) (step : ℕ) (e : Option Entry) (claimed : Bool) (under : Option ℕ) → is_free (read_turn h step e claimed under).stage ≡ true
turn_free h step (Some e) claimed under = held_free h step e e.phase
turn_free h step None true under = refl
turn_free h step None false None = refl
turn_free h step None false (Some n) = refl

pub placed_moves : (again : Bool) (h : Header) (g : Ground) (x : Asked) → Moves x (in_place again h g x)
placed_moves again h g x =
    by_test (Moves x) (ask_stands g x) x (cond again (in_stage (read_turn h g.own.waits.step (at g.own.entries (ask_key x)) false None).stage x) (in_stage (called g.own.waits.step) x))
    (λ t. stays refl)
    (λ t. by_test (Moves x) again (in_stage (read_turn h g.own.waits.step (at g.own.entries (ask_key x)) false None).stage x) (in_stage (called g.own.waits.step) x) (λ u. frees refl (turn_free h g.own.waits.step (at g.own.entries (ask_key x)) false None)) (λ u. frees refl refl))

read_waits : (ticket : ℕ) (e : Option Entry) (c : Option Acquire) (s : Stage) → stands ticket e c s ≡ false → is_writes s ≡ false
read_waits ticket e c (stage.Calling s) h = refl
read_waits ticket e c stage.Acquiring h = refl
read_waits ticket e c stage.Joined h = refl
read_waits ticket e c stage.Behind h = refl
read_waits ticket e c stage.Writes h = absurd (cc)
read_waits ticket e c (stage.Grouped s) h = refl
read_waits ticket e c (stage.Replied v) h = refl

pub placed_writes : (again : Bool) (h : Header) (g : Ground) (x : Asked) → is_writes (in_place again h g x).stage ≡ is_writes x.stage
placed_writes again h g x =
    let again_ask = in_stage (read_turn h g.own.waits.step (at g.own.entries (ask_key x)) false None).stage x in
    let plain_ask = in_stage (called g.own.waits.step) x in
    by_test (λ (y : Asked). is_writes y.stage ≡ is_writes x.stage) (ask_stands g x) x (cond again again_ask plain_ask)
    (λ t. refl)
    (λ t.
    let n = read_waits x.ticket (at g.own.entries (ask_key x)) (at g.acquires (ask_key x)) x.stage t in
    by_test (λ (y : Asked). is_writes y.stage ≡ is_writes x.stage) again again_ask plain_ask (λ u. free_writes again_ask.stage (turn_free h g.own.waits.step (at g.own.entries (ask_key x)) false None) ∙ sym n) (λ u. sym n))

-- A read whose acquire is due stands, and so it stays.

pub acquires_is : (k : List ℕ) (x : Asked) → acquires_at k x ≡ true → (x.stage ≡ stage.Acquiring) × (same (ask_key x) k ≡ true)
acquires_is k x h = by_stage x.stage refl h
  where
    by_stage : (s : Stage) → x.stage ≡ s → is_acquiring s && same (ask_key x) k ≡ true → (x.stage ≡ stage.Acquiring) × (same (ask_key x) k ≡ true)
    by_stage stage.Acquiring e h = (e, h)
    by_stage (stage.Calling s) e h = absurd (cc)
    by_stage stage.Joined e h = absurd (cc)
    by_stage stage.Behind e h = absurd (cc)
    by_stage stage.Writes e h = absurd (cc)
    by_stage (stage.Grouped s) e h = absurd (cc)
    by_stage (stage.Replied v) e h = absurd (cc)

-- those stay that a due acquire is for
pub awaited_changed : (f : Asked → Asked) (xs : List Asked) (acquires : Keyed Acquire) → ((k : List ℕ) (c : Acquire) (x : Asked) → at acquires k ≡ Some c → list_any (λ a. has_ticket c.ticket a && acquires_at k a) xs ≡ true → has_ticket c.ticket x && acquires_at k x ≡ true → f x ≡ x) → AreAwaited xs acquires → AreAwaited (map f xs) acquires
awaited_changed f xs acquires g h k = by_claim (at acquires k) refl (h k)
  where
    by_sending : (c : Acquire) (s : Sending) → at acquires k ≡ Some c → awaits c.ticket k xs s ≡ true → awaits c.ticket k (map f xs) s ≡ true
    by_sending c (sending.Due since) e t =
        any_mapped (λ (a : Asked). has_ticket c.ticket a && acquires_at k a) f xs
        ∙ any_kept (λ (a : Asked). has_ticket c.ticket a && acquires_at k a) (λ a. has_ticket c.ticket (f a) && acquires_at k (f a)) (λ a u. ap (λ (b : Asked). has_ticket c.ticket b && acquires_at k b) (g k c a e t u) ∙ u) xs t
    by_sending c (sending.Out call) e t = refl

    by_claim : (o : Option Acquire) → at acquires k ≡ o → is_awaited xs k o ≡ true → is_awaited (map f xs) k o ≡ true
    by_claim None e t = refl
    by_claim (Some c) e t = by_sending c c.sending e t

pub placed_awaited : (again : Bool) (h : Header) (g : Ground) (xs : List Asked) → AreAwaited xs g.acquires → AreAwaited (map (in_place again h g) xs) g.acquires
placed_awaited again h g xs w = awaited_changed (in_place again h g) xs g.acquires kept w
  where
    kept : (k : List ℕ) (c : Acquire) (x : Asked) → at g.acquires k ≡ Some c → list_any (λ a. has_ticket c.ticket a && acquires_at k a) xs ≡ true → has_ticket c.ticket x && acquires_at k x ≡ true → in_place again h g x ≡ x
    kept k c x e t u =
        let t2 = and_second (has_ticket c.ticket x) (acquires_at k x) u in
        let a = acquires_is k x t2 in
        let n = and_first (has_ticket c.ticket x) (acquires_at k x) u in
        let s : ask_stands g x ≡ true = ap (λ (y : Stage). stands x.ticket (at g.own.entries (ask_key x)) (at g.acquires (ask_key x)) y) a.0 ∙ ap (λ (j : List ℕ). names x.ticket (at g.acquires j)) (same-equal (ask_key x) k a.1) ∙ ap (names x.ticket) e ∙ ap (λ m. m == x.ticket) (sym (same_number x.ticket c.ticket n)) ∙ number_itself x.ticket in
        ap (λ b. cond b x (cond again (in_stage (read_turn h g.own.waits.step (at g.own.entries (ask_key x)) false None).stage x) (in_stage (called g.own.waits.step) x))) s

-- A request that is settled.

pub settled_moves : (s : Settled) (x : Asked) → Moves x (settled_ask s x)
settled_moves settled.Nothing x = stays refl
settled_moves (settled.Reply ticket a) x = by_test (Moves x) (x.ticket == ticket) (in_stage (stage.Replied (verdict.Said a)) x) x (λ t. frees refl refl) (λ t. stays refl)
settled_moves (settled.Failed ticket) x = by_test (Moves x) (x.ticket == ticket) (in_stage (stage.Replied verdict.Lost) x) x (λ t. frees refl refl) (λ t. stays refl)

pub once_writing : (xs : List Asked) (ws : List Write) → AsksOk xs ws → once (write_tickets ws) ≡ true
once_writing xs ws h = ap once h.writes ∙ once_filtered (λ (a : Asked). a.ticket) (λ (a : Asked). is_writes a.stage) xs h.once

replied_tickets : (ticket : ℕ) (v : Verdict) (xs : List Asked) → writing_tickets (map (λ x. cond (x.ticket == ticket) (in_stage (stage.Replied v) x) x) xs) ≡ but ticket (writing_tickets xs)
replied_tickets ticket v xs =
    same_numbers (λ (a : Asked). a.ticket) (λ (a : Asked). a.ticket) (λ (a : Asked). is_writes a.stage && not (a.ticket == ticket)) (λ (a : Asked). is_writes a.stage) (λ x. cond (x.ticket == ticket) (in_stage (stage.Replied v) x) x)
    (λ x. by_test (λ (y : Asked). y.ticket ≡ x.ticket) (x.ticket == ticket) (in_stage (stage.Replied v) x) x (λ t. refl) (λ t. refl))
    (λ x. by_test (λ (y : Asked). is_writes y.stage ≡ is_writes x.stage && not (x.ticket == ticket)) (x.ticket == ticket) (in_stage (stage.Replied v) x) x (λ t. sym (ap (λ b. is_writes x.stage && not b) t ∙ and_false (is_writes x.stage))) (λ t. sym (ap (λ b. is_writes x.stage && not b) t ∙ and_true (is_writes x.stage))))
    xs
    ∙ sym (but_numbers (λ (a : Asked). a.ticket) ticket (λ (a : Asked). is_writes a.stage) xs)

removed_writing : (ticket : ℕ) (ws vs : List Write) (xs : List Asked) → IsRemoved ticket ws vs → AsksOk xs ws → write_tickets vs ≡ but ticket (writing_tickets xs)
removed_writing ticket ws vs xs e h =
    ap write_tickets e.rest ∙ removed_tickets e.test e.write ws e.first (once_writing xs ws h) ∙ ap (λ n. but n (write_tickets ws)) (sym e.named) ∙ ap (but ticket) h.writes

pub settled_asks : (s : Settled) (ws vs : List Write) (xs : List Asked) → EndsAs ws s vs → AsksOk xs ws → AsksOk (map (settled_ask s) xs) vs
settled_asks settled.Nothing ws vs xs e h = asks_moved (settled_ask settled.Nothing) (settled_moves settled.Nothing) (λ x. refl) xs ws vs (come_tickets ws vs e) h
settled_asks (settled.Reply ticket a) ws vs xs e h =
    let s = settled.Reply ticket a in
    asks_changed (settled_ask s) (λ x. moved_ticket x (settled_ask s x) (settled_moves s x)) (λ n x. moved_calls n x (settled_ask s x) (settled_moves s x)) xs ws vs (removed_writing ticket ws vs xs e h ∙ sym (replied_tickets ticket (verdict.Said a) xs)) h
settled_asks (settled.Failed ticket) ws vs xs e h =
    let s = settled.Failed ticket in
    asks_changed (settled_ask s) (λ x. moved_ticket x (settled_ask s x) (settled_moves s x)) (λ n x. moved_calls n x (settled_ask s x) (settled_moves s x)) xs ws vs (removed_writing ticket ws vs xs e h ∙ sym (replied_tickets ticket verdict.Lost xs)) h

-- the read that a due acquire is for is no write

pub is_writing : (ticket : ℕ) (xs : List Asked) → has_number (writing_tickets xs) ticket ≡ true → list_any (λ a. has_ticket ticket a && is_writes a.stage) xs ≡ true
is_writing ticket xs h = sym (any_turned xs) ∙ h
  where
    any_turned : (ys : List Asked) → has_number (writing_tickets ys) ticket ≡ list_any (λ a. has_ticket ticket a && is_writes a.stage) ys
    any_turned ys = any_mapped (λ m. m == ticket) (λ (a : Asked). a.ticket) (filter (λ (a : Asked). is_writes a.stage) ys) ∙ any_filtered (λ (a : Asked). a.ticket == ticket) (λ (a : Asked). is_writes a.stage) ys ∙ each ys
      where
        each : (zs : List Asked) → list_any (λ (a : Asked). is_writes a.stage && (a.ticket == ticket)) zs ≡ list_any (λ a. has_ticket ticket a && is_writes a.stage) zs
        each [] = refl
        each (z ∷ zs) = ap (λ b. b || list_any (λ (a : Asked). is_writes a.stage && (a.ticket == ticket)) zs) (and_turned (is_writes z.stage) (z.ticket == ticket)) ∙ ap (λ b. (has_ticket ticket z && is_writes z.stage) || b) (each zs)

reads_no_write : (ticket : ℕ) (k : List ℕ) (xs : List Asked) → once (ask_tickets xs) ≡ true → list_any (λ a. has_ticket ticket a && acquires_at k a) xs ≡ true → has_number (writing_tickets xs) ticket ≡ true → ⊥
reads_no_write ticket k xs u r w =
    let b = both_of_one (has_ticket ticket) (acquires_at k) (λ (a : Asked). is_writes a.stage) xs (once_is_one (λ (a : Asked). a.ticket) ticket xs u) r (is_writing ticket xs w) in
    let n = none xs in
    absurd (cc)
  where
    never : (a : Asked) → acquires_at k a && is_writes a.stage ≡ false
    never a = by_stage a.stage refl
      where
        by_stage : (s : Stage) → a.stage ≡ s → (is_acquiring s && same (ask_key a) k) && is_writes s ≡ false
        by_stage (stage.Calling s) e = refl
        by_stage stage.Acquiring e = and_false (same (ask_key a) k)
        by_stage stage.Joined e = refl
        by_stage stage.Behind e = refl
        by_stage stage.Writes e = refl
        by_stage (stage.Grouped s) e = refl
        by_stage (stage.Replied v) e = refl

    none : (ys : List Asked) → list_any (λ a. has_ticket ticket a && (acquires_at k a && is_writes a.stage)) ys ≡ false
    none [] = refl
    none (y ∷ ys) = or_none (has_ticket ticket y && (acquires_at k y && is_writes y.stage)) (list_any (λ a. has_ticket ticket a && (acquires_at k a && is_writes a.stage)) ys) (ap (λ b. has_ticket ticket y && b) (never y) ∙ and_false (has_ticket ticket y)) (none ys)

replied_awaited : (ticket : ℕ) (v : Verdict) (xs : List Asked) (acquires : Keyed Acquire) → once (ask_tickets xs) ≡ true → has_number (writing_tickets xs) ticket ≡ true → AreAwaited xs acquires → AreAwaited (map (λ x. cond (x.ticket == ticket) (in_stage (stage.Replied v) x) x) xs) acquires
replied_awaited ticket v xs acquires u w h = awaited_changed (λ x. cond (x.ticket == ticket) (in_stage (stage.Replied v) x) x) xs acquires kept h
  where
    kept : (k : List ℕ) (c : Acquire) (x : Asked) → at acquires k ≡ Some c → list_any (λ a. has_ticket c.ticket a && acquires_at k a) xs ≡ true → has_ticket c.ticket x && acquires_at k x ≡ true → cond (x.ticket == ticket) (in_stage (stage.Replied v) x) x ≡ x
    kept k c x e r t =
        by_test (λ (y : Asked). y ≡ x) (x.ticket == ticket) (in_stage (stage.Replied v) x) x
        (λ b.
        let n : c.ticket ≡ ticket = sym (same_number x.ticket c.ticket (and_first (has_ticket c.ticket x) (acquires_at k x) t)) ∙ same_number x.ticket ticket b in
        absurd (reads_no_write ticket k xs u (subst (λ (m : ℕ). list_any (λ a. has_ticket m a && acquires_at k a) xs ≡ true) n r) w))
        (λ b. refl)

removed_is : (ticket : ℕ) (ws vs : List Write) (xs : List Asked) → IsRemoved ticket ws vs → AsksOk xs ws → has_number (writing_tickets xs) ticket ≡ true
removed_is ticket ws vs xs e h = sym (ap (λ (ns : List ℕ). has_number ns ticket) h.writes) ∙ ap (has_number (write_tickets ws)) e.named ∙ found_ticket e.test e.write ws e.first

pub settled_awaited : (s : Settled) (ws vs : List Write) (xs : List Asked) (acquires : Keyed Acquire) → EndsAs ws s vs → AsksOk xs ws → AreAwaited xs acquires → AreAwaited (map (settled_ask s) xs) acquires
settled_awaited settled.Nothing ws vs xs acquires e h w = awaited_changed (settled_ask settled.Nothing) xs acquires (λ k c x a r t. refl) w
settled_awaited (settled.Reply ticket a) ws vs xs acquires e h w = replied_awaited ticket (verdict.Said a) xs acquires h.once (removed_is ticket ws vs xs e h) w
settled_awaited (settled.Failed ticket) ws vs xs acquires e h w = replied_awaited ticket verdict.Lost xs acquires h.once (removed_is ticket ws vs xs e h) w

-- The request whose own call this is, which goes on with nothing out.

abbrev pub caller : ℕ → (Asked → Asked) → Asked → Asked
caller n f a = cond (calls_as n a) (f a) a

calls_no_write : (n : ℕ) (s : Stage) → stage_calls n s ≡ true → is_writes s ≡ false
calls_no_write n (stage.Calling s) h = refl
calls_no_write n stage.Acquiring h = refl
calls_no_write n stage.Joined h = refl
calls_no_write n stage.Behind h = refl
calls_no_write n stage.Writes h = absurd (cc)
calls_no_write n (stage.Grouped s) h = refl
calls_no_write n (stage.Replied v) h = refl

pub record Frees (f : Asked → Asked) : Type 0 where
  pub ticket : (x : Asked) → (f x).ticket ≡ x.ticket
  pub free : (x : Asked) → is_free (f x).stage ≡ true

caller_moves : (n : ℕ) (f : Asked → Asked) → Frees f → (x : Asked) → Moves x (caller n f x)
caller_moves n f h x = by_test (Moves x) (calls_as n x) (f x) x (λ t. frees (h.ticket x) (h.free x)) (λ t. stays refl)

pub record CallerOk (n : ℕ) (f : Asked → Asked) (xs : List Asked) (ws : List Write) (acquires : Keyed Acquire) (out : List OutCall) : Type 0 where
  pub asks : AsksOk (map (caller n f) xs) ws
  pub awaited : AreAwaited (map (caller n f) xs) acquires
  pub stages : list_all (λ a. is_stage_out out a.stage) (map (caller n f) xs) ≡ true
  pub none : list_any (calls_as n) (map (caller n f) xs) ≡ false
  pub groups : GroupsOk out (map (caller n f) xs)

pub caller_ok : (n : ℕ) (f : Asked → Asked) (xs : List Asked) (ws : List Write) (acquires : Keyed Acquire) (out : List OutCall) → Frees f → AsksOk xs ws → AreAwaited xs acquires → list_all (λ a. is_stage_out out a.stage) xs ≡ true → GroupsOk out xs → CallerOk n f xs ws acquires out
caller_ok n f xs ws acquires out h a w o g = record {
  asks = asks_moved (caller n f) (caller_moves n f h) (λ x. by_test (λ (y : Asked). is_writes y.stage ≡ is_writes x.stage) (calls_as n x) (f x) x (λ t. free_writes (f x).stage (h.free x) ∙ sym (calls_no_write n x.stage t)) (λ t. refl)) xs ws ws refl a;
  awaited = awaited_changed (caller n f) xs acquires (λ k c x e r t. stays_read k x (and_second (has_ticket c.ticket x) (acquires_at k x) t)) w;
  stages = all_out out (caller n f) (caller_moves n f h) xs o;
  none = nothing xs;
  groups = all_groups out (caller n f) (caller_moves n f h) xs g;
}
  where
    stays_read : (k : List ℕ) (x : Asked) → acquires_at k x ≡ true → cond (calls_as n x) (f x) x ≡ x
    stays_read k x t = ap (λ (s : Stage). cond (stage_calls n s) (f x) x) (acquires_is k x t).0

    nothing : (ys : List Asked) → list_any (calls_as n) (map (caller n f) ys) ≡ false
    nothing [] = refl
    nothing (y ∷ ys) = or_none (calls_as n (caller n f y)) (list_any (calls_as n) (map (caller n f) ys)) (by_test (λ (z : Asked). calls_as n z ≡ false) (calls_as n y) (f y) y (λ t. free_calls n (f y).stage (h.free y)) (λ t. t)) (nothing ys)
