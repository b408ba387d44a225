-- Requests that end without an answer, by time or since the client left, and replies that are taken: what agrees after them.
use Rattle.std.proofs.Common.{◌≡◌, ℕ, ◌==◌, Bool, true, false, not, cond, ◌&&◌, ◌||◌, List, [], ◌∷◌, ◌++◌, map, filter, Option, None, Some, refl, sym, ◌∙◌, ap, subst, append_assoc}
use Rattle.std.specs.List.{list_any, list_all}
use Rattle.etcd_types.proofs.Bools.{and_first, and_second, and_both, and_false, and_true, or_first, or_second, or_none, or_left, or_right, not_true, false_not}
use Rattle.proxy_model.specs.Keyed.{at}
use Rattle.wait_model.specs.declared.sending.Sending.{Sending}
use Rattle.wait_model.specs.declared.sending.Sending.TheVariants as sending
use Rattle.wait_model.specs.declared.wait.WaitCall.{WaitCall}
use Rattle.wait_model.specs.Endings.{forgotten}
use Rattle.wait_model.specs.State.{Ownership}
use Rattle.wait_model.proofs.Tables.{at-without}
use Rattle.core_laws.proofs.Writes.WrittenKept.{ranges_stay}
use Rattle.read_model.specs.declared.acquire.Acquire.{Acquire}
use Rattle.read_model.specs.declared.asked.Asked.{Asked}
use Rattle.read_model.specs.declared.asked.Stage.{Stage}
use Rattle.read_model.specs.declared.asked.Stage.TheVariants as stage
use Rattle.read_model.specs.declared.asked.Verdict.TheVariants as verdict
use Rattle.read_model.specs.Acquires.{acquires_at}
use Rattle.read_model.specs.PlainRead.{in_stage}
use Rattle.read_model.specs.SessionEnd.{is_due, is_due_acquire, dropped}
use Rattle.read_model.specs.State.{Moment, on}
use Rattle.read_model.specs.TakingOff.{is_writes, forgotten_all, falls, taken_off}
use Rattle.core_model.specs.declared.out_call.OutCall.{OutCall}
use Rattle.core_model.specs.ClockWork.{is_replied, times_out, timed_out_ask, requests_timed_out}
use Rattle.core_model.specs.Fits.{has_number, once, at_most_one, is_stage_out, group_stands, ask_tickets, writing_tickets, write_tickets, WritesOk, awaits, is_awaited, GroupsOk, NumbersOk, Agrees}
use Rattle.core_model.specs.Lookups.{reads_of, with_reads, moment, has_ticket, calls_as, ask_at, without_ask}
use Rattle.core_model.specs.State.{Core}
use Rattle.core_model.specs.Takes.{gone, has_left}
use Rattle.core_laws.proofs.Steps.Agreeing.{to_written, from_written, released_agrees, acquires_without}
use Rattle.core_laws.proofs.Steps.Comes.{by_test}
use Rattle.core_laws.proofs.Steps.Lists.{and_turned, number_itself, number_turned, all_filtered, any_mapped, any_pushed, any_filtered, none_kept, both_of_one, once_is_one, once_filtered, one_of_map, one_of_filter, same_numbers, filtered_again, but, but_none, but_numbers}
use Rattle.core_laws.proofs.Steps.Requests.{Moves, stays, frees, moved_ticket, moved_calls, all_out, all_groups, same_tickets, is_writing, acquires_is, once_writing}
use Rattle.core_laws.proofs.Steps.WaitEnds.{Forgets, forgets}

-- Those that are forgotten.

pub same_filters : {A : Type 0} (p q : A → Bool) → ((x : A) → p x ≡ q x) → (xs : List A) → filter p xs ≡ filter q xs
same_filters p q e [] = refl
same_filters p q e (x ∷ xs) = ap (λ b. cond b (x ∷ filter p xs) (filter p xs)) (e x) ∙ ap (λ l. cond (q x) (x ∷ l) l) (same_filters p q e xs)

but_append : (n : ℕ) (ms ns : List ℕ) → but n (ms ++ ns) ≡ but n ms ++ but n ns
but_append n [] ns = refl
but_append n (m ∷ ms) ns = by_head (but_append n ms ns) (m == n)
  where
    by_head : but n (ms ++ ns) ≡ but n ms ++ but n ns → (b : Bool) → cond (not b) (m ∷ but n (ms ++ ns)) (but n (ms ++ ns)) ≡ cond (not b) (m ∷ but n ms) (but n ms) ++ but n ns
    by_head i true = i
    by_head i false = ap (λ l. m ∷ l) i

once_but : (n : ℕ) (ns : List ℕ) → once ns ≡ true → once (but n ns) ≡ true
once_but n [] h = refl
once_but n (m ∷ ns) h = by_head (once_but n ns (and_second (not (has_number ns m)) (once ns) h)) (not (m == n))
  where
    by_head : once (but n ns) ≡ true → (b : Bool) → once (cond b (m ∷ but n ns) (but n ns)) ≡ true
    by_head i true = and_both (not (has_number (but n ns) m)) (once (but n ns)) (false_not (has_number (but n ns) m) (any_filtered (λ i. i == m) (λ i. not (i == n)) ns ∙ none_kept (λ i. i == m) (λ i. not (i == n) && (i == m)) (λ i t. and_second (not (i == n)) (i == m) t) ns (not_true (has_number ns m) (and_first (not (has_number ns m)) (once ns) h)))) i
    by_head i false = i

writing_less : (n : ℕ) (xs : List Asked) → has_number (ask_tickets xs) n ≡ false → has_number (writing_tickets xs) n ≡ false
writing_less n xs h =
    any_mapped (λ m. m == n) (λ (a : Asked). a.ticket) (filter (λ (a : Asked). is_writes a.stage) xs) ∙ any_filtered (λ (a : Asked). a.ticket == n) (λ (a : Asked). is_writes a.stage) xs
    ∙ none_kept (λ (a : Asked). a.ticket == n) (λ (a : Asked). is_writes a.stage && (a.ticket == n)) (λ a t. and_second (is_writes a.stage) (a.ticket == n) t) xs (sym (any_mapped (λ m. m == n) (λ (a : Asked). a.ticket) xs) ∙ h)

-- the writes that stay
staying : (Asked → Bool) → List Asked → List ℕ
staying p xs = map (λ (a : Asked). a.ticket) (filter (λ (a : Asked). is_writes a.stage && not (p a)) xs)

record AllForgot (p : Asked → Bool) (done : List ℕ) (xs : List Asked) (own next : Ownership) : Type 0 where
  writes : WritesOk next.waits.writes next.waits.out
  tickets : write_tickets next.waits.writes ≡ done ++ staying p xs
  out : next.waits.out ≡ own.waits.out

-- none of them is among these numbers
apart : List ℕ → List Asked → Bool
apart done xs = list_all (λ a. not (has_number done a.ticket)) xs

forgets_all : (p : Asked → Bool) (xs : List Asked) (done : List ℕ) (own : Ownership) → WritesOk own.waits.writes own.waits.out → once (write_tickets own.waits.writes) ≡ true → write_tickets own.waits.writes ≡ done ++ writing_tickets xs → once (ask_tickets xs) ≡ true → apart done xs ≡ true → AllForgot p done xs own (forgotten_all p xs own)
unfolding staying apart
forgets_all p [] done own h u e o d = record { writes = h; tickets = e; out = refl }
forgets_all p (a ∷ xs) done own h u e o d = by_both (λ next g v t. forgets_all p xs done next g v t rest fewer) (λ t. forgets_all p xs (done ++ a.ticket ∷ []) own h u t rest more) (is_writes a.stage) refl (p a) refl e
  where
    rest : once (ask_tickets xs) ≡ true
    rest = and_second (not (has_number (ask_tickets xs) a.ticket)) (once (ask_tickets xs)) o

    new : has_number (ask_tickets xs) a.ticket ≡ false
    new = not_true (has_number (ask_tickets xs) a.ticket) (and_first (not (has_number (ask_tickets xs) a.ticket)) (once (ask_tickets xs)) o)

    fewer : list_all (λ (b : Asked). not (has_number done b.ticket)) xs ≡ true
    fewer = and_second (not (has_number done a.ticket)) (list_all (λ (b : Asked). not (has_number done b.ticket)) xs) d

    each_more : (ys : List Asked) → has_number (ask_tickets ys) a.ticket ≡ false → list_all (λ (b : Asked). not (has_number done b.ticket)) ys ≡ true → list_all (λ (b : Asked). not (has_number (done ++ a.ticket ∷ []) b.ticket)) ys ≡ true
    each_more [] n t = refl
    each_more (y ∷ ys) n t =
        and_both (not (has_number (done ++ a.ticket ∷ []) y.ticket)) (list_all (λ (b : Asked). not (has_number (done ++ a.ticket ∷ []) b.ticket)) ys)
        (false_not (has_number (done ++ a.ticket ∷ []) y.ticket) (any_pushed (λ i. i == y.ticket) a.ticket done ∙ or_none (has_number done y.ticket) (a.ticket == y.ticket) (not_true (has_number done y.ticket) (and_first (not (has_number done y.ticket)) (list_all (λ (b : Asked). not (has_number done b.ticket)) ys) t)) (number_turned y.ticket a.ticket (or_first (y.ticket == a.ticket) (has_number (ask_tickets ys) a.ticket) n))))
        (each_more ys (or_second (y.ticket == a.ticket) (has_number (ask_tickets ys) a.ticket) n) (and_second (not (has_number done y.ticket)) (list_all (λ (b : Asked). not (has_number done b.ticket)) ys) t))

    more : list_all (λ (b : Asked). not (has_number (done ++ a.ticket ∷ []) b.ticket)) xs ≡ true
    more = each_more xs new fewer

    ranges : (ticket : ℕ) → Forgets ticket own (forgotten ticket own)
    ranges ticket = forgets ticket own h u (from_written (forgotten ticket own).waits.writes ((ranges_stay own (to_written own.waits.writes h.ranges)).forgetting ticket))

    left : write_tickets own.waits.writes ≡ done ++ a.ticket ∷ writing_tickets xs → but a.ticket (write_tickets own.waits.writes) ≡ done ++ writing_tickets xs
    left t =
        ap (but a.ticket) t ∙ but_append a.ticket done (a.ticket ∷ writing_tickets xs)
        ∙ ap (λ l. l ++ but a.ticket (a.ticket ∷ writing_tickets xs)) (but_none a.ticket done (not_true (has_number done a.ticket) (and_first (not (has_number done a.ticket)) (list_all (λ (b : Asked). not (has_number done b.ticket)) xs) d)))
        ∙ ap (λ b. done ++ cond (not b) (a.ticket ∷ but a.ticket (writing_tickets xs)) (but a.ticket (writing_tickets xs))) (number_itself a.ticket)
        ∙ ap (λ l. done ++ l) (but_none a.ticket (writing_tickets xs) (writing_less a.ticket xs new))

    by_both : ((next : Ownership) → WritesOk next.waits.writes next.waits.out → once (write_tickets next.waits.writes) ≡ true → write_tickets next.waits.writes ≡ done ++ writing_tickets xs → AllForgot p done xs next (forgotten_all p xs next)) → (write_tickets own.waits.writes ≡ (done ++ a.ticket ∷ []) ++ writing_tickets xs → AllForgot p (done ++ a.ticket ∷ []) xs own (forgotten_all p xs own)) → (w : Bool) → is_writes a.stage ≡ w → (q : Bool) → p a ≡ q → write_tickets own.waits.writes ≡ done ++ map (λ (b : Asked). b.ticket) (cond w (a ∷ filter (λ (b : Asked). is_writes b.stage) xs) (filter (λ (b : Asked). is_writes b.stage) xs)) → AllForgot p done (a ∷ xs) own (forgotten_all p xs (cond (p a && is_writes a.stage) (forgotten a.ticket own) own))
    by_both i j true w true q e =
        let f = ranges a.ticket in
        let r = i (forgotten a.ticket own) f.writes (ap once f.tickets ∙ once_but a.ticket (write_tickets own.waits.writes) u) (f.tickets ∙ left e) in
        let both : p a && is_writes a.stage ≡ true = and_both (p a) (is_writes a.stage) q w in
        let none : is_writes a.stage && not (p a) ≡ false = ap (λ b. is_writes a.stage && not b) q ∙ and_false (is_writes a.stage) in
        subst (λ b. AllForgot p done (a ∷ xs) own (forgotten_all p xs (cond b (forgotten a.ticket own) own))) (sym both)
        (record { writes = r.writes; tickets = r.tickets ∙ ap (λ b. done ++ map (λ (x : Asked). x.ticket) (cond b (a ∷ filter (λ (x : Asked). is_writes x.stage && not (p x)) xs) (filter (λ (x : Asked). is_writes x.stage && not (p x)) xs))) (sym none); out = r.out ∙ f.out })
    by_both i j true w false q e =
        let r = j (e ∙ sym (append_assoc done (a.ticket ∷ []) (writing_tickets xs))) in
        let both : p a && is_writes a.stage ≡ false = ap (λ b. b && is_writes a.stage) q in
        let kept : is_writes a.stage && not (p a) ≡ true = and_both (is_writes a.stage) (not (p a)) w (ap not q) in
        subst (λ b. AllForgot p done (a ∷ xs) own (forgotten_all p xs (cond b (forgotten a.ticket own) own))) (sym both)
        (record { writes = r.writes; tickets = r.tickets ∙ append_assoc done (a.ticket ∷ []) (staying p xs) ∙ ap (λ b. done ++ map (λ (x : Asked). x.ticket) (cond b (a ∷ filter (λ (x : Asked). is_writes x.stage && not (p x)) xs) (filter (λ (x : Asked). is_writes x.stage && not (p x)) xs))) (sym kept); out = r.out })
    by_both i j false w q v e =
        let r = i own h u e in
        let both : p a && is_writes a.stage ≡ false = ap (λ b. p a && b) w ∙ and_false (p a) in
        let none : is_writes a.stage && not (p a) ≡ false = ap (λ b. b && not (p a)) w in
        subst (λ b. AllForgot p done (a ∷ xs) own (forgotten_all p xs (cond b (forgotten a.ticket own) own))) (sym both)
        (record { writes = r.writes; tickets = r.tickets ∙ ap (λ b. done ++ map (λ (x : Asked). x.ticket) (cond b (a ∷ filter (λ (x : Asked). is_writes x.stage && not (p x)) xs) (filter (λ (x : Asked). is_writes x.stage && not (p x)) xs))) (sym none); out = r.out })

nothing_apart : (xs : List Asked) → apart [] xs ≡ true
unfolding apart
nothing_apart [] = refl
nothing_apart (x ∷ xs) = nothing_apart xs

-- What stands then of the requests.
pub record TakenOff (p : Asked → Bool) (xs ys : List Asked) : Type 0 where
  pub once : once (ask_tickets ys) ≡ true
  pub writes : map (λ (a : Asked). a.ticket) (filter (λ (a : Asked). is_writes a.stage && not (p a)) xs) ≡ writing_tickets ys
  pub calls : (n : ℕ) → at_most_one (filter (calls_as n) ys) ≡ true
  pub reads : (ticket : ℕ) (k : List ℕ) → list_any (λ a. p a && acquires_at k a) xs ≡ false → list_any (λ a. has_ticket ticket a && acquires_at k a) xs ≡ true → list_any (λ a. has_ticket ticket a && acquires_at k a) ys ≡ true
  pub stages : (out : List OutCall) → list_all (λ a. is_stage_out out a.stage) xs ≡ true → list_all (λ a. is_stage_out out a.stage) ys ≡ true
  pub groups : (out : List OutCall) → GroupsOk out xs → GroupsOk out ys

pub off_agrees : (m : Moment) (p : Asked → Bool) (ys : List Asked) (c : Core) → TakenOff p c.asks ys → Agrees c → Agrees (with_reads c (taken_off m p ys (reads_of c)))
unfolding staying
off_agrees m p ys c t h = released_agrees m (with_reads c (on (dropped (falls p (reads_of c)) (record { own = forgotten_all p c.asks c.own; acquires = c.acquires })) ys)) base
  where
    f : AllForgot p [] c.asks c.own (forgotten_all p c.asks c.own)
    f = forgets_all p c.asks [] c.own h.writes (once_writing c.asks c.own.waits.writes h.asks) h.asks.writes h.asks.once (nothing_apart c.asks)

    by_claim : (k : List ℕ) (o : Option Acquire) → at c.acquires k ≡ o → falls p (reads_of c) k ≡ false → is_awaited c.asks k o ≡ true → is_awaited ys k o ≡ true
    by_claim k None e n w = refl
    by_claim k (Some x) e n w = by_sending x.sending refl w
      where
        second : (a b : Bool) → b ≡ true → a && b ≡ false → a ≡ false
        second true b e n = absurd (cc)
        second false b e n = refl

        by_sending : (s : Sending) → x.sending ≡ s → awaits x.ticket k c.asks s ≡ true → awaits x.ticket k ys s ≡ true
        by_sending (sending.Due since) q w = t.reads x.ticket k (second (list_any (λ a. p a && acquires_at k a) c.asks) (is_due_acquire (at c.acquires k)) (ap is_due_acquire e ∙ ap is_due q) n) w
        by_sending (sending.Out call) q w = refl

    base : Agrees (with_reads c (on (dropped (falls p (reads_of c)) (record { own = forgotten_all p c.asks c.own; acquires = c.acquires })) ys))
    base = record {
      writes = f.writes;
      asks = record { once = t.once; writes = f.tickets ∙ t.writes; calls_once = t.calls };
      awaited = λ k. ap (is_awaited ys k) (at-without (falls p (reads_of c)) c.acquires k) ∙ by_test (λ (o : Option Acquire). is_awaited ys k o ≡ true) (falls p (reads_of c) k) None (at c.acquires k) (λ e. refl) (λ e. by_claim k (at c.acquires k) refl e (h.awaited k));
      out = record { seat = h.out.seat; acquires = acquires_without (falls p (reads_of c)) c.out c.acquires h.out.acquires; asks = t.stages c.out h.out.asks };
      numbers = subst (λ (waiting : List WaitCall). NumbersOk c.calls c.out waiting) (sym f.out) h.numbers;
      groups = t.groups c.out h.groups;
      seated = h.seated;
    }

-- By time.

timed_moves : (now : ℕ) (x : Asked) → Moves x (timed_out_ask now x)
timed_moves now x = by_test (Moves x) (times_out now x) (in_stage (stage.Replied verdict.TimedOut) x) x (λ t. frees refl refl) (λ t. stays refl)

timed_off : (now : ℕ) (c : Core) → Agrees c → TakenOff (times_out now) c.asks (map (timed_out_ask now) c.asks)
timed_off now c h = record {
  once = ap once (same_tickets (timed_out_ask now) ticket c.asks) ∙ h.asks.once;
  writes = sym (same_numbers (λ (a : Asked). a.ticket) (λ (a : Asked). a.ticket) (λ (a : Asked). is_writes a.stage && not (times_out now a)) (λ (a : Asked). is_writes a.stage) (timed_out_ask now) ticket written c.asks);
  calls = λ n. one_of_map (calls_as n) (calls_as n) (timed_out_ask now) (λ x. moved_calls n x (timed_out_ask now x) (timed_moves now x)) c.asks (h.asks.calls_once n);
  reads = λ ticket k n r. standing ticket k c.asks n r;
  stages = λ out s. all_out out (timed_out_ask now) (timed_moves now) c.asks s;
  groups = λ out g. all_groups out (timed_out_ask now) (timed_moves now) c.asks g;
}
  where
    ticket : (x : Asked) → (timed_out_ask now x).ticket ≡ x.ticket
    ticket x = moved_ticket x (timed_out_ask now x) (timed_moves now x)

    written : (x : Asked) → is_writes (timed_out_ask now x).stage ≡ is_writes x.stage && not (times_out now x)
    written x =
        by_test (λ (y : Asked). is_writes y.stage ≡ is_writes x.stage && not (times_out now x)) (times_out now x) (in_stage (stage.Replied verdict.TimedOut) x) x
        (λ t. sym (ap (λ b. is_writes x.stage && not b) t ∙ and_false (is_writes x.stage)))
        (λ t. sym (ap (λ b. is_writes x.stage && not b) t ∙ and_true (is_writes x.stage)))

    standing : (ticket : ℕ) (k : List ℕ) (xs : List Asked) → list_any (λ a. times_out now a && acquires_at k a) xs ≡ false → list_any (λ a. has_ticket ticket a && acquires_at k a) xs ≡ true → list_any (λ a. has_ticket ticket a && acquires_at k a) (map (timed_out_ask now) xs) ≡ true
    standing ticket k [] n r = r
    standing ticket k (x ∷ xs) n r = by_head (λ t. standing ticket k xs (or_second (times_out now x && acquires_at k x) (list_any (λ a. times_out now a && acquires_at k a) xs) n) t) (has_ticket ticket x && acquires_at k x) refl r
      where
        stays_so : has_ticket ticket x && acquires_at k x ≡ true → timed_out_ask now x ≡ x
        stays_so t = by_test (λ (y : Asked). y ≡ x) (times_out now x) (in_stage (stage.Replied verdict.TimedOut) x) x (λ u. absurd (let v = and_both (times_out now x) (acquires_at k x) u (and_second (has_ticket ticket x) (acquires_at k x) t) in let w = or_first (times_out now x && acquires_at k x) (list_any (λ a. times_out now a && acquires_at k a) xs) n in cc)) (λ u. refl)

        by_head : (list_any (λ a. has_ticket ticket a && acquires_at k a) xs ≡ true → list_any (λ a. has_ticket ticket a && acquires_at k a) (map (timed_out_ask now) xs) ≡ true) → (b : Bool) → has_ticket ticket x && acquires_at k x ≡ b → b || list_any (λ a. has_ticket ticket a && acquires_at k a) xs ≡ true → (has_ticket ticket (timed_out_ask now x) && acquires_at k (timed_out_ask now x)) || list_any (λ a. has_ticket ticket a && acquires_at k a) (map (timed_out_ask now) xs) ≡ true
        by_head i true t r = or_left (has_ticket ticket (timed_out_ask now x) && acquires_at k (timed_out_ask now x)) (list_any (λ a. has_ticket ticket a && acquires_at k a) (map (timed_out_ask now) xs)) (ap (λ (y : Asked). has_ticket ticket y && acquires_at k y) (stays_so t) ∙ t)
        by_head i false t r = or_right (has_ticket ticket (timed_out_ask now x) && acquires_at k (timed_out_ask now x)) (list_any (λ a. has_ticket ticket a && acquires_at k a) (map (timed_out_ask now) xs)) (i r)

pub times_agree : (now : ℕ) (c : Core) → Agrees c → Agrees (requests_timed_out now c)
times_agree now c h = off_agrees (moment c now) (times_out now) (map (timed_out_ask now) c.asks) c (timed_off now c h) h

-- By leaving, and by taking.

groups_filtered : (q : Asked → Bool) (out : List OutCall) (xs : List Asked) → GroupsOk out xs → GroupsOk out (filter q xs)
groups_filtered q out xs h = record { one = h.one; stand = all_filtered (λ (a : Asked). group_stands out a.request a.stage) q xs h.stand }

left_off : (ticket : ℕ) (c : Core) → Agrees c → TakenOff (has_ticket ticket) c.asks (without_ask ticket c.asks)
left_off ticket c h = record {
  once = once_filtered (λ (a : Asked). a.ticket) (λ a. not (has_ticket ticket a)) c.asks h.asks.once;
  writes = ap (map (λ (a : Asked). a.ticket)) (same_filters (λ (a : Asked). is_writes a.stage && not (has_ticket ticket a)) (λ (a : Asked). not (has_ticket ticket a) && is_writes a.stage) (λ a. and_turned (is_writes a.stage) (not (has_ticket ticket a))) c.asks ∙ sym (filtered_again (λ (a : Asked). is_writes a.stage) (λ a. not (has_ticket ticket a)) c.asks));
  calls = λ n. one_of_filter (calls_as n) (λ a. not (has_ticket ticket a)) c.asks (h.asks.calls_once n);
  reads = λ other k n r. any_filtered (λ a. has_ticket other a && acquires_at k a) (λ a. not (has_ticket ticket a)) c.asks ∙ standing other k c.asks n r;
  stages = λ out s. all_filtered (λ (a : Asked). is_stage_out out a.stage) (λ a. not (has_ticket ticket a)) c.asks s;
  groups = λ out g. groups_filtered (λ a. not (has_ticket ticket a)) out c.asks g;
}
  where
    standing : (other : ℕ) (k : List ℕ) (xs : List Asked) → list_any (λ a. has_ticket ticket a && acquires_at k a) xs ≡ false → list_any (λ a. has_ticket other a && acquires_at k a) xs ≡ true → list_any (λ a. not (has_ticket ticket a) && (has_ticket other a && acquires_at k a)) xs ≡ true
    standing other k [] n r = r
    standing other k (x ∷ xs) n r = by_head (λ t. standing other k xs (or_second (has_ticket ticket x && acquires_at k x) (list_any (λ a. has_ticket ticket a && acquires_at k a) xs) n) t) (has_ticket other x) (acquires_at k x) (has_ticket ticket x) (or_first (has_ticket ticket x && acquires_at k x) (list_any (λ a. has_ticket ticket a && acquires_at k a) xs) n) r
      where
        by_head : (list_any (λ a. has_ticket other a && acquires_at k a) xs ≡ true → list_any (λ a. not (has_ticket ticket a) && (has_ticket other a && acquires_at k a)) xs ≡ true) → (b q l : Bool) → l && q ≡ false → (b && q) || list_any (λ a. has_ticket other a && acquires_at k a) xs ≡ true → (not l && (b && q)) || list_any (λ a. not (has_ticket ticket a) && (has_ticket other a && acquires_at k a)) xs ≡ true
        by_head i true true true n r = absurd (cc)
        by_head i true true false n r = refl
        by_head i true false l n r = or_right (not l && false) (list_any (λ a. not (has_ticket ticket a) && (has_ticket other a && acquires_at k a)) xs) (i r)
        by_head i false q l n r = or_right (not l && false) (list_any (λ a. not (has_ticket ticket a) && (has_ticket other a && acquires_at k a)) xs) (i r)

pub left_agrees : (now ticket : ℕ) (c : Core) → Agrees c → Agrees (has_left now ticket c)
left_agrees now ticket c h = off_agrees (moment c now) (has_ticket ticket) (without_ask ticket c.asks) c (left_off ticket c h) h

-- a replied request is no write and no read that waits

found_replied : (ticket : ℕ) (a : Asked) (xs : List Asked) → ask_at ticket xs ≡ Some a → is_replied a.stage ≡ true → list_any (λ b. has_ticket ticket b && is_replied b.stage) xs ≡ true
found_replied ticket a [] e r = absurd (cc)
found_replied ticket a (x ∷ xs) e r = by_head (λ t. found_replied ticket a xs t r) (has_ticket ticket x) e
  where
    or_head : Asked → Option Asked → Asked
    or_head d None = d
    or_head d (Some y) = y

    by_head : (ask_at ticket xs ≡ Some a → list_any (λ b. has_ticket ticket b && is_replied b.stage) xs ≡ true) → (b : Bool) → cond b (Some x) (ask_at ticket xs) ≡ Some a → (b && is_replied x.stage) || list_any (λ b. has_ticket ticket b && is_replied b.stage) xs ≡ true
    by_head i true e = or_left (is_replied x.stage) (list_any (λ b. has_ticket ticket b && is_replied b.stage) xs) (ap (λ (y : Asked). is_replied y.stage) (ap (or_head x) e) ∙ r)
    by_head i false e = i e

pub never_both : (p q : Asked → Bool) → ((a : Asked) → p a && q a ≡ false) → (ticket : ℕ) (xs : List Asked) → once (ask_tickets xs) ≡ true → list_any (λ b. has_ticket ticket b && p b) xs ≡ true → list_any (λ b. has_ticket ticket b && q b) xs ≡ true → ⊥
never_both p q n ticket xs u e f =
    let b = both_of_one (has_ticket ticket) p q xs (once_is_one (λ (a : Asked). a.ticket) ticket xs u) e f in
    let z = none xs in
    absurd (cc)
  where
    none : (ys : List Asked) → list_any (λ a. has_ticket ticket a && (p a && q a)) ys ≡ false
    none [] = refl
    none (y ∷ ys) = or_none (has_ticket ticket y && (p y && q y)) (list_any (λ a. has_ticket ticket a && (p a && q a)) ys) (ap (λ b. has_ticket ticket y && b) (n y) ∙ and_false (has_ticket ticket y)) (none ys)

replied_no_write : (a : Asked) → is_replied a.stage && is_writes a.stage ≡ false
replied_no_write a = by_stage a.stage
  where
    by_stage : (s : Stage) → is_replied s && is_writes s ≡ false
    by_stage (stage.Calling s) = refl
    by_stage stage.Acquiring = refl
    by_stage stage.Joined = refl
    by_stage stage.Behind = refl
    by_stage stage.Writes = refl
    by_stage (stage.Grouped s) = refl
    by_stage (stage.Replied v) = refl

replied_no_read : (k : List ℕ) (a : Asked) → is_replied a.stage && acquires_at k a ≡ false
replied_no_read k a = by_value (acquires_at k a) refl
  where
    by_value : (b : Bool) → acquires_at k a ≡ b → is_replied a.stage && b ≡ false
    by_value true t = ap (λ (s : Stage). is_replied s && true) (acquires_is k a t).0
    by_value false t = and_false (is_replied a.stage)

pub gone_agrees : (ticket : ℕ) (a : Asked) (c : Core) → ask_at ticket c.asks ≡ Some a → is_replied a.stage ≡ true → Agrees c → Agrees (gone ticket c)
gone_agrees ticket a c e r h =
    let t = left_off ticket c h in
    let f = found_replied ticket a c.asks e r in
    record {
      writes = h.writes;
      asks = record { once = t.once; writes = h.asks.writes ∙ sym (but_none ticket (writing_tickets c.asks) (no_write f)) ∙ but_numbers (λ (b : Asked). b.ticket) ticket (λ (b : Asked). is_writes b.stage) c.asks ∙ t.writes; calls_once = t.calls };
      awaited = λ k. by_claim f k (at c.acquires k) (h.awaited k);
      out = record { seat = h.out.seat; acquires = h.out.acquires; asks = t.stages c.out h.out.asks };
      numbers = h.numbers;
      groups = t.groups c.out h.groups;
      seated = h.seated;
    }
  where
    no_write : list_any (λ b. has_ticket ticket b && is_replied b.stage) c.asks ≡ true → has_number (writing_tickets c.asks) ticket ≡ false
    no_write f = by_value (has_number (writing_tickets c.asks) ticket) refl
      where
        by_value : (b : Bool) → has_number (writing_tickets c.asks) ticket ≡ b → has_number (writing_tickets c.asks) ticket ≡ false
        by_value true t = absurd (never_both (λ (b : Asked). is_replied b.stage) (λ (b : Asked). is_writes b.stage) replied_no_write ticket c.asks h.asks.once f (is_writing ticket c.asks t))
        by_value false t = t

    by_sending : list_any (λ b. has_ticket ticket b && is_replied b.stage) c.asks ≡ true → (k : List ℕ) (other : ℕ) (s : Sending) → awaits other k c.asks s ≡ true → awaits other k (without_ask ticket c.asks) s ≡ true
    by_sending f k other (sending.Due since) w = (left_off ticket c h).reads other k (by_value (list_any (λ b. has_ticket ticket b && acquires_at k b) c.asks) refl) w
      where
        by_value : (b : Bool) → list_any (λ b. has_ticket ticket b && acquires_at k b) c.asks ≡ b → list_any (λ b. has_ticket ticket b && acquires_at k b) c.asks ≡ false
        by_value true t = absurd (never_both (λ (b : Asked). is_replied b.stage) (acquires_at k) (replied_no_read k) ticket c.asks h.asks.once f t)
        by_value false t = t
    by_sending f k other (sending.Out call) w = refl

    by_claim : list_any (λ b. has_ticket ticket b && is_replied b.stage) c.asks ≡ true → (k : List ℕ) (o : Option Acquire) → is_awaited c.asks k o ≡ true → is_awaited (without_ask ticket c.asks) k o ≡ true
    by_claim f k None w = refl
    by_claim f k (Some x) w = by_sending f k x.ticket x.sending w
