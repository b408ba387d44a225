-- A request is asked: what agrees then.
use Rattle.std.proofs.Common.{◌≡◌, ℕ, ◌==◌, Bool, true, false, not, cond, ◌&&◌, ◌||◌, List, [], ◌∷◌, ◌++◌, map, filter, Option, None, Some, is_some, refl, sym, ◌∙◌, ap}
use Rattle.std.specs.List.{list_any}
use Rattle.etcd_types.specs.declared.record.Header.{Header}
use Rattle.etcd_types.specs.declared.request.Request.{Request}
use Rattle.etcd_types.specs.declared.request.Request.TheVariants as request
use Rattle.etcd_types.specs.Keys.{same}
use Rattle.etcd_types.proofs.Bools.{and_both, or_left, or_right, or_true}
use Rattle.proxy_model.specs.declared.lease.Entry.{Entry}
use Rattle.proxy_model.specs.Keyed.{at}
use Rattle.proxy_model.proofs.KeyedLaws.{at-with_at}
use Rattle.wait_model.specs.declared.sending.Sending.{Sending}
use Rattle.wait_model.specs.declared.sending.Sending.TheVariants as sending
use Rattle.wait_model.specs.declared.wait.WaitCall.{WaitCall}
use Rattle.wait_model.specs.declared.write.Write.{Write}
use Rattle.wait_model.specs.Asked.{new_write, submitted}
use Rattle.wait_model.specs.Covers.{is_by_keys}
use Rattle.wait_model.specs.Fits.{is_write, is_proper}
use Rattle.wait_model.specs.Writes.{sends, asks}
use Rattle.core_laws.proofs.Writes.Steps as steps
use Rattle.core_laws.proofs.Writes.WrittenKept.{ranges_stay}
use Rattle.read_model.specs.declared.acquire.Acquire.{Acquire}
use Rattle.read_model.specs.declared.asked.Asked.{Asked}
use Rattle.read_model.specs.declared.asked.Stage.{Stage}
use Rattle.read_model.specs.declared.asked.Stage.TheVariants as stage
use Rattle.read_model.specs.Acquires.{is_acquiring, acquires_at, read_asked}
use Rattle.read_model.specs.PlainRead.{Decision, ask_key, acquirable, read_turn, decision, begun_under, in_stage, called}
use Rattle.read_model.specs.Release.{stands, ask_stands}
use Rattle.read_model.specs.State.{Moment, ground_of, on}
use Rattle.read_model.specs.TakingOff.{is_writes}
use Rattle.core_laws.proofs.PlainReads.Kept as kept
use Rattle.core_model.specs.declared.out_call.OutCall.{OutCall}
use Rattle.core_model.specs.Asking.{with_ask, call_stage}
use Rattle.core_model.specs.Fits.{has_number, once, is_acquire_out, is_stage_out, group_stands, ask_tickets, writing_tickets, write_tickets, WritesOk, AsksOk, awaits, is_awaited, GroupsOk, Agrees, HaveRanges, is_standing, is_write_out}
use Rattle.core_model.specs.Groups.{is_out_for, group_since, joining, group_stage}
use Rattle.core_model.specs.Kinds.{writes_keys}
use Rattle.core_model.specs.Lookups.{reads_of, with_reads, has_ticket, stage_calls, calls_as, ask_at}
use Rattle.core_model.specs.State.{Core}
use Rattle.core_laws.proofs.Steps.Agreeing.{to_written, from_written}
use Rattle.core_laws.proofs.Steps.Comes.{by_test}
use Rattle.core_laws.proofs.Steps.Lists.{nothing_more, number_itself, all_pushed, any_pushed, once_pushed, one_of_push, map_pushed}
use Rattle.core_laws.proofs.Steps.Requests.{is_free, free_out, free_group, free_calls, free_writes, turn_free}
use Rattle.core_laws.proofs.Steps.Whole.{Mid}

-- its ticket is new
pub unknown : (ticket : ℕ) (xs : List Asked) → is_some (ask_at ticket xs) ≡ false → has_number (ask_tickets xs) ticket ≡ false
unknown ticket [] h = refl
unknown ticket (x ∷ xs) h = by_head (λ t. unknown ticket xs t) (x.ticket == ticket) h
  where
    by_head : (is_some (ask_at ticket xs) ≡ false → has_number (ask_tickets xs) ticket ≡ false) → (b : Bool) → is_some (cond b (Some x) (ask_at ticket xs)) ≡ false → b || has_number (ask_tickets xs) ticket ≡ false
    by_head i true h = absurd (cc)
    by_head i false h = i h

writing_pushed : (x : Asked) (xs : List Asked) → writing_tickets (xs ++ x ∷ []) ≡ writing_tickets xs ++ cond (is_writes x.stage) (x.ticket ∷ []) []
writing_pushed x [] = by_writes (is_writes x.stage)
  where
    by_writes : (b : Bool) → map (λ (a : Asked). a.ticket) (cond b (x ∷ []) []) ≡ cond b (x.ticket ∷ []) []
    by_writes true = refl
    by_writes false = refl
writing_pushed x (y ∷ ys) = by_writes (writing_pushed x ys) (is_writes y.stage)
  where
    by_writes : writing_tickets (ys ++ x ∷ []) ≡ writing_tickets ys ++ cond (is_writes x.stage) (x.ticket ∷ []) [] → (b : Bool) → map (λ (a : Asked). a.ticket) (cond b (y ∷ filter (λ (a : Asked). is_writes a.stage) (ys ++ x ∷ [])) (filter (λ (a : Asked). is_writes a.stage) (ys ++ x ∷ []))) ≡ map (λ (a : Asked). a.ticket) (cond b (y ∷ filter (λ (a : Asked). is_writes a.stage) ys) (filter (λ (a : Asked). is_writes a.stage) ys)) ++ cond (is_writes x.stage) (x.ticket ∷ []) []
    by_writes i true = ap (λ l. y.ticket ∷ l) i
    by_writes i false = i

asks_pushed : (x : Asked) (xs : List Asked) (ws vs : List Write) → has_number (ask_tickets xs) x.ticket ≡ false → ((n : ℕ) → calls_as n x ≡ false) → write_tickets vs ≡ write_tickets ws ++ cond (is_writes x.stage) (x.ticket ∷ []) [] → AsksOk xs ws → AsksOk (xs ++ x ∷ []) vs
asks_pushed x xs ws vs n c w h = record {
  once = ap once (map_pushed (λ (a : Asked). a.ticket) x xs) ∙ once_pushed x.ticket (ask_tickets xs) h.once n;
  writes = w ∙ ap (λ l. l ++ cond (is_writes x.stage) (x.ticket ∷ []) []) h.writes ∙ sym (writing_pushed x xs);
  calls_once = λ m. one_of_push (calls_as m) x xs (h.calls_once m) (c m);
}

awaits_pushed : (x : Asked) (xs : List Asked) (k : List ℕ) (o : Option Acquire) → is_awaited xs k o ≡ true → is_awaited (xs ++ x ∷ []) k o ≡ true
awaits_pushed x xs k None h = refl
awaits_pushed x xs k (Some y) h = by_sending y.sending h
  where
    by_sending : (s : Sending) → awaits y.ticket k xs s ≡ true → awaits y.ticket k (xs ++ x ∷ []) s ≡ true
    by_sending (sending.Due since) h = any_pushed (λ a. has_ticket y.ticket a && acquires_at k a) x xs ∙ or_left (list_any (λ a. has_ticket y.ticket a && acquires_at k a) xs) (has_ticket y.ticket x && acquires_at k x) h
    by_sending (sending.Out call) h = refl

groups_asked : (x : Asked) (out : List OutCall) (xs : List Asked) → group_stands out x.request x.stage ≡ true → GroupsOk out xs → GroupsOk out (xs ++ x ∷ [])
groups_asked x out xs g h = record { one = h.one; stand = all_pushed (λ (a : Asked). group_stands out a.request a.stage) x xs h.stand g }

-- A request that waits for a call, its own or one that it shares.

pub called_agrees : (c : Core) (x : Asked) → has_number (ask_tickets c.asks) x.ticket ≡ false → is_writes x.stage ≡ false → is_stage_out c.out x.stage ≡ true → group_stands c.out x.request x.stage ≡ true → ((n : ℕ) → calls_as n x ≡ false) → Agrees c → Agrees (record c { asks = c.asks ++ x ∷ [] })
called_agrees c x n w o g k h = record {
  writes = h.writes;
  asks = asks_pushed x c.asks c.own.waits.writes c.own.waits.writes n k (sym (ap (λ b. write_tickets c.own.waits.writes ++ cond b (x.ticket ∷ []) []) w ∙ nothing_more (write_tickets c.own.waits.writes))) h.asks;
  awaited = λ i. awaits_pushed x c.asks i (at c.acquires i) (h.awaited i);
  out = record { seat = h.out.seat; acquires = h.out.acquires; asks = all_pushed (λ (a : Asked). is_stage_out c.out a.stage) x c.asks h.out.asks o };
  numbers = h.numbers;
  groups = groups_asked x c.out c.asks g h.groups;
  seated = h.seated;
}

-- nothing of it is out, and it is no write
record Waits (sent : List OutCall) (q : Request) (s : Stage) : Type 0 where
  writes : is_writes s ≡ false
  out : is_stage_out sent s ≡ true
  group : group_stands sent q s ≡ true
  calls : (n : ℕ) → stage_calls n s ≡ false
  stands : (ticket : ℕ) (e : Option Entry) (a : Option Acquire) → stands ticket e a s ≡ true

due_waits : (out : List OutCall) (q : Request) (step : ℕ) → Waits out q (called step)
due_waits out q step = record { writes = refl; out = refl; group = refl; calls = λ n. refl; stands = λ ticket e a. refl }

group_waits : (out : List OutCall) (step lease : ℕ) (xs : List Asked) → Waits out (request.KeepAlive lease) (group_stage step lease out xs)
group_waits out step lease xs = by_test (Waits out (request.KeepAlive lease)) (is_out_for lease out) (stage.Grouped None) (joining step (group_since lease xs)) (λ t. record { writes = refl; out = refl; group = t; calls = λ n. refl; stands = λ ticket e a. refl }) (λ t. by_since (group_since lease xs) t)
  where
    by_since : (o : Option ℕ) → is_out_for lease out ≡ false → Waits out (request.KeepAlive lease) (joining step o)
    by_since None t = record { writes = refl; out = refl; group = ap not t; calls = λ n. refl; stands = λ ticket e a. refl }
    by_since (Some since) t = record { writes = refl; out = refl; group = ap not t; calls = λ n. refl; stands = λ ticket e a. refl }

call_waits : (q : Request) (c : Core) → Waits c.out q (call_stage q c)
call_waits (request.KeepAlive lease) c = group_waits c.out c.own.waits.step lease c.asks
call_waits (request.Range ask) c = due_waits c.out (request.Range ask) c.own.waits.step
call_waits (request.Put ask) c = due_waits c.out (request.Put ask) c.own.waits.step
call_waits (request.Delete ask) c = due_waits c.out (request.Delete ask) c.own.waits.step
call_waits (request.Txn t) c = due_waits c.out (request.Txn t) c.own.waits.step
call_waits (request.Compact revision physical) c = due_waits c.out (request.Compact revision physical) c.own.waits.step
call_waits (request.Grant ttl lease) c = due_waits c.out (request.Grant ttl lease) c.own.waits.step
call_waits (request.Revoke lease) c = due_waits c.out (request.Revoke lease) c.own.waits.step
call_waits (request.TimeToLive lease keys) c = due_waits c.out (request.TimeToLive lease keys) c.own.waits.step
call_waits request.Leases c = due_waits c.out request.Leases c.own.waits.step
call_waits (request.Watch ask) c = due_waits c.out (request.Watch ask) c.own.waits.step

pub call_mid : (most : ℕ) (c : Core) (a : Asked) → has_number (ask_tickets c.asks) a.ticket ≡ false → Mid most c → Mid most (with_ask (call_stage a.request c) a c)
call_mid most c a n h =
    let w = call_waits a.request c in
    record {
      given = h.given;
      reads = record { ground = h.reads.ground; asks = all_pushed (ask_stands (ground_of (reads_of c))) (in_stage (call_stage a.request c) a) c.asks h.reads.asks (w.stands a.ticket (at c.own.entries (ask_key a)) (at c.acquires (ask_key a))) };
      agrees = called_agrees c (in_stage (call_stage a.request c) a) n w.writes w.out w.group w.calls h.agrees;
    }

-- A write.

is_a_write : (q : Request) → writes_keys q ≡ true → is_write q ≡ true
is_a_write (request.Put ask) h = refl
is_a_write (request.Delete ask) h = refl
is_a_write (request.Txn t) h = refl
is_a_write (request.Range ask) h = absurd (cc)
is_a_write (request.Compact revision physical) h = absurd (cc)
is_a_write (request.Grant ttl lease) h = absurd (cc)
is_a_write (request.Revoke lease) h = absurd (cc)
is_a_write (request.KeepAlive lease) h = absurd (cc)
is_a_write (request.TimeToLive lease keys) h = absurd (cc)
is_a_write request.Leases h = absurd (cc)
is_a_write (request.Watch ask) h = absurd (cc)

writes_pushed : (ticket : ℕ) (q : Request) (ws : List Write) (waiting : List WaitCall) → writes_keys q ≡ true → HaveRanges (ws ++ new_write ticket q ∷ []) → WritesOk ws waiting → WritesOk (ws ++ new_write ticket q ∷ []) waiting
writes_pushed ticket q ws waiting w r h =
    let x = new_write ticket q in
    record {
      proper = all_pushed is_proper x ws h.proper (and_both (is_write q) (is_by_keys x || true) (is_a_write q w) (or_true (is_by_keys x)));
      ranges = r;
      out = all_pushed (λ (v : Write). is_write_out waiting v.stage) x ws h.out refl;
      sends_once = λ n. one_of_push (sends n) x ws (h.sends_once n) refl;
      asks_once = λ n. one_of_push (asks n) x ws (h.asks_once n) refl;
    }

pub write_mid : (most : ℕ) (c : Core) (a : Asked) → has_number (ask_tickets c.asks) a.ticket ≡ false → writes_keys a.request ≡ true → Mid most c → Mid most (with_ask stage.Writes a (record c { own = submitted a.ticket a.request c.own }))
write_mid most c a n w h =
    let x = in_stage stage.Writes a in
    let next = submitted a.ticket a.request c.own in
    record {
      given = h.given;
      reads = record {
        ground = record { keys = steps.asks_keep c.own a.ticket a.request h.reads.ground.keys; marks = h.reads.ground.marks; owned = h.reads.ground.owned };
        asks = all_pushed (ask_stands (ground_of (reads_of c))) x c.asks h.reads.asks refl;
      };
      agrees = record {
        writes = writes_pushed a.ticket a.request c.own.waits.writes c.own.waits.out w (from_written next.waits.writes ((ranges_stay c.own (to_written c.own.waits.writes h.agrees.writes.ranges)).asks a.ticket a.request)) h.agrees.writes;
        asks = asks_pushed x c.asks c.own.waits.writes next.waits.writes n (λ m. refl) (map_pushed (λ (v : Write). v.ticket) (new_write a.ticket a.request) c.own.waits.writes) h.agrees.asks;
        awaited = λ i. awaits_pushed x c.asks i (at c.acquires i) (h.agrees.awaited i);
        out = record { seat = h.agrees.out.seat; acquires = h.agrees.out.acquires; asks = all_pushed (λ (b : Asked). is_stage_out c.out b.stage) x c.asks h.agrees.out.asks refl };
        numbers = h.agrees.numbers;
        groups = groups_asked x c.out c.asks refl h.agrees.groups;
        seated = h.agrees.seated;
      };
    }

-- A plain read.

under_acquires : (h : Header) (step : ℕ) (e : Option Entry) (claimed : Bool) (under : Option ℕ) (n : ℕ) → (read_turn h step e claimed under).under ≡ Some n → (read_turn h step e claimed under).stage ≡ stage.Acquiring
under_acquires h step (Some e) claimed under n t = absurd (cc)
under_acquires h step None true under n t = absurd (cc)
under_acquires h step None false None n t = absurd (cc)
under_acquires h step None false (Some m) n t = refl

read_agrees : (m : Moment) (c : Core) (a : Asked) → has_number (ask_tickets c.asks) a.ticket ≡ false → Agrees c → Agrees (with_reads c (read_asked m a (reads_of c)))
read_agrees m c a n h = by_under d.under refl
  where
    k : List ℕ
    k = ask_key a

    d : Decision
    d = decision m (ground_of (reads_of c)) (ask_key a)

    x : Asked
    x = in_stage (decision m (ground_of (reads_of c)) (ask_key a)).stage a

    free : is_free (decision m (ground_of (reads_of c)) (ask_key a)).stage ≡ true
    free = turn_free m.header c.own.waits.step (at c.own.entries (ask_key a)) (is_some (at c.acquires (ask_key a))) (acquirable m c.own (ask_key a))

    plain : Agrees (record c { asks = c.asks ++ in_stage (decision m (ground_of (reads_of c)) (ask_key a)).stage a ∷ [] })
    plain = called_agrees c x n (free_writes x.stage free) (free_out c.out x.stage free) (free_group c.out a.request x.stage free) (λ i. free_calls i x.stage free) h

    by_under : (o : Option ℕ) → (decision m (ground_of (reads_of c)) (ask_key a)).under ≡ o → Agrees (with_reads c (on (begun_under a.ticket (ask_key a) o (ground_of (reads_of c))) (c.asks ++ in_stage (decision m (ground_of (reads_of c)) (ask_key a)).stage a ∷ [])))
    by_under None e = plain
    by_under (Some s) e = record {
      writes = h.writes;
      asks = plain.asks;
      awaited = λ i. ap (is_awaited (c.asks ++ x ∷ []) i) (at-with_at c.acquires (ask_key a) i (Some new)) ∙ awaited_at i (same (ask_key a) i) refl;
      out = record { seat = h.out.seat; acquires = λ i. ap (is_acquire_out c.out i) (at-with_at c.acquires (ask_key a) i (Some new)) ∙ out_at i (same (ask_key a) i); asks = plain.out.asks };
      numbers = h.numbers;
      groups = plain.groups;
      seated = h.seated;
    }
      where
        new : Acquire
        new = record { ticket = a.ticket; session = s; sending = sending.Due c.own.waits.step }

        acquiring : (decision m (ground_of (reads_of c)) (ask_key a)).stage ≡ stage.Acquiring
        acquiring = under_acquires m.header c.own.waits.step (at c.own.entries (ask_key a)) (is_some (at c.acquires (ask_key a))) (acquirable m c.own (ask_key a)) s e

        out_at : (i : List ℕ) (b : Bool) → is_acquire_out c.out i (cond b (Some (record { ticket = a.ticket; session = s; sending = sending.Due c.own.waits.step })) (at c.acquires i)) ≡ true
        out_at i true = refl
        out_at i false = h.out.acquires i

        awaited_at : (i : List ℕ) (b : Bool) → same (ask_key a) i ≡ b → is_awaited (c.asks ++ x ∷ []) i (cond b (Some (record { ticket = a.ticket; session = s; sending = sending.Due c.own.waits.step })) (at c.acquires i)) ≡ true
        awaited_at i true t =
            any_pushed (λ y. has_ticket a.ticket y && acquires_at i y) x c.asks
            ∙ or_right (list_any (λ y. has_ticket a.ticket y && acquires_at i y) c.asks) (has_ticket a.ticket x && acquires_at i x)
            (and_both (a.ticket == a.ticket) (acquires_at i x) (number_itself a.ticket) (ap (λ (z : Stage). is_acquiring z && same (ask_key a) i) acquiring ∙ t))
        awaited_at i false t = awaits_pushed x c.asks i (at c.acquires i) (h.awaited i)

pub read_mid : (most : ℕ) (m : Moment) (c : Core) (a : Asked) → has_number (ask_tickets c.asks) a.ticket ≡ false → Mid most c → Mid most (with_reads c (read_asked m a (reads_of c)))
read_mid most m c a n h = record { given = h.given; reads = kept.asks_keep (is_standing c.seat) m a (reads_of c) h.reads; agrees = read_agrees m c a n h.agrees }
