-- One of those whose time has passed ends before the others: what ends with all of them stays the same.
use Rattle.std.proofs.Common.{◌≡◌, ℕ, Bool, true, false, not, cond, ◌&&◌, ◌||◌, ◌==◌, List, [], ◌∷◌, Option, None, Some, refl, sym, ◌∙◌, ap, arith}
use Rattle.std.specs.List.{list_any}
use Rattle.std.specs.Option.{option_map}
use Rattle.std.proofs.lemmas.Bool.Decides.{nat_tests}
use Rattle.etcd_types.proofs.Bools.{and_first, and_second}
use Rattle.proxy_model.specs.Keyed.{Keyed, at}
use Rattle.wait_model.specs.Edits.{without}
use Rattle.wait_model.specs.Endings.{forgotten}
use Rattle.wait_model.specs.State.{Ownership}
use Rattle.wait_model.proofs.Tables.{at-without}
use Rattle.read_model.specs.declared.acquire.Acquire.{Acquire}
use Rattle.read_model.specs.declared.asked.Asked.{Asked}
use Rattle.read_model.specs.declared.asked.Stage.TheVariants as stage
use Rattle.read_model.specs.declared.asked.Verdict.TheVariants as verdict
use Rattle.read_model.specs.Acquires.{acquires_at}
use Rattle.read_model.specs.PlainRead.{in_stage}
use Rattle.read_model.specs.SessionEnd.{is_due_acquire, dropped}
use Rattle.read_model.specs.State.{Reads, ground_of, on}
use Rattle.read_model.specs.TakingOff.{is_writes, forgotten_all, falls}
use Rattle.core_model.specs.ClockWork.{times_out, timed_out_ask}
use Rattle.core_model.specs.Fits.{once, has_number, ask_tickets}
use Rattle.core_model.specs.Lookups.{has_ticket, ask_at}
use Rattle.known_asks.specs.Asks.{one_changed}
use Rattle.known_asks.proofs.Late.{times_out-Settles}
use Rattle.read_steps.specs.Over.{OneOwner, forgot, falls_with, ended, ended_with}
use Rattle.read_steps.proofs.Ending.{NonePass, not_true, others_pass}
use Rattle.read_steps.proofs.Forgetting.{marked, forgot_if, if_both, if_kept, if_marks, all_marks, all_marked}
use Rattle.read_steps.proofs.Without.{without_same, without_twice}

pub late_one : (g : Asked → Bool) (o : Option Asked) → option_map g o ≡ Some true → (a : Asked) × (o ≡ Some a) × (g a ≡ true)
late_one g None e = absurd (cc)
late_one g (Some a) e = (a, refl, cc)

found_ticket : (t : ℕ) (a : Asked) (xs : List Asked) → ask_at t xs ≡ Some a → (a.ticket == t) ≡ true
found_ticket t a [] e = absurd (cc)
found_ticket t a (x ∷ xs) e = one (has_ticket t x) refl e (found_ticket t a xs)
  where
    one : (b : Bool) → has_ticket t x ≡ b → cond b (Some x) (ask_at t xs) ≡ Some a → (ask_at t xs ≡ Some a → (a.ticket == t) ≡ true) → (a.ticket == t) ≡ true
    one true s g k = let is : x ≡ a = cc in ap (has_ticket t) (sym is) ∙ s
    one false s g k = k g

unchanged : (t : ℕ) (f : Asked → Asked) (xs : List Asked) → NonePass (has_ticket t) xs → one_changed t f xs ≡ xs
unchanged t f [] h = refl
unchanged t f (x ∷ xs) h = λ i. cond (h.0 i) (f x) x ∷ unchanged t f xs h.1 i

apart : (m n t : ℕ) → (m == t) ≡ false → (n == t) ≡ true → ((m == n) ≡ false) × ((n == m) ≡ false)
apart m n t e f = (one, two)
  where
    one : (m == n) ≡ false
    one = grind (arith, nat_tests)

    two : (n == m) ≡ false
    two = grind (arith, nat_tests)

alone : (x : Asked) (xs : List Asked) → once (ask_tickets (x ∷ xs)) ≡ true → has_number (ask_tickets xs) x.ticket ≡ false
alone x xs o = not_true (has_number (ask_tickets xs) x.ticket) (and_first (not (has_number (ask_tickets xs) x.ticket)) (once (ask_tickets xs)) o)

others : (x : Asked) (xs : List Asked) → once (ask_tickets (x ∷ xs)) ≡ true → once (ask_tickets xs) ≡ true
others x xs o = and_second (not (has_number (ask_tickets xs) x.ticket)) (once (ask_tickets xs)) o

-- it has its reply, as one that is late has
pub one_replied : (now t : ℕ) (a : Asked) (xs : List Asked) → once (ask_tickets xs) ≡ true → ask_at t xs ≡ Some a → times_out now a ≡ true → one_changed t (in_stage (stage.Replied verdict.TimedOut)) xs ≡ one_changed t (timed_out_ask now) xs
one_replied now t a [] o e l = absurd (cc)
one_replied now t a (x ∷ xs) o e l = one (has_ticket t x) refl e (λ (g : ask_at t xs ≡ Some a). one_replied now t a xs (others x xs o) g l)
  where
    one : (b : Bool) → has_ticket t x ≡ b → cond b (Some x) (ask_at t xs) ≡ Some a → (ask_at t xs ≡ Some a → one_changed t (in_stage (stage.Replied verdict.TimedOut)) xs ≡ one_changed t (timed_out_ask now) xs) →
        cond b (in_stage (stage.Replied verdict.TimedOut) x) x ∷ one_changed t (in_stage (stage.Replied verdict.TimedOut)) xs ≡ cond b (timed_out_ask now x) x ∷ one_changed t (timed_out_ask now) xs
    one true s g k =
        let is : x ≡ a = cc in
        let late : times_out now x ≡ true = ap (times_out now) is ∙ l in
        let n = others_pass t x.ticket xs s (alone x xs o) in
        (λ i. cond (sym late i) (in_stage (stage.Replied verdict.TimedOut) x) x ∷ (unchanged t (in_stage (stage.Replied verdict.TimedOut)) xs n ∙ sym (unchanged t (timed_out_ask now) xs n)) i)
    one false s g k = ap (λ (ys : List Asked). x ∷ ys) (k g)

-- its write is forgotten first
own_gone : (now t : ℕ) (a : Asked) (xs : List Asked) (own : Ownership) → OneOwner own → once (ask_tickets xs) ≡ true → ask_at t xs ≡ Some a → times_out now a ≡ true → forgotten_all (times_out now) (one_changed t (timed_out_ask now) xs) (forgot a own) ≡ forgotten_all (times_out now) xs own
own_gone now t a [] own h o e l = absurd (cc)
own_gone now t a (x ∷ xs) own h o e l = one (has_ticket t x) refl e (λ (own' : Ownership). λ (h' : OneOwner own'). λ (g : ask_at t xs ≡ Some a). own_gone now t a xs own' h' (others x xs o) g l)
  where
    p : Asked → Bool
    p b = times_out now b

    f : Asked → Asked
    f b = timed_out_ask now b

    one : (b : Bool) → has_ticket t x ≡ b → cond b (Some x) (ask_at t xs) ≡ Some a → ((own' : Ownership) → OneOwner own' → ask_at t xs ≡ Some a → forgotten_all (times_out now) (one_changed t (timed_out_ask now) xs) (forgot a own') ≡ forgotten_all (times_out now) xs own') →
        forgotten_all (times_out now) (cond b (timed_out_ask now x) x ∷ one_changed t (timed_out_ask now) xs) (forgot a own) ≡ forgotten_all (times_out now) (x ∷ xs) own
    one true s g k =
        let is : x ≡ a = cc in
        let n = others_pass t x.ticket xs s (alone x xs o) in
        ap (λ b. forgotten_all (times_out now) (one_changed t (timed_out_ask now) xs) (cond (b && is_writes (timed_out_ask now x).stage) (forgotten (timed_out_ask now x).ticket (forgot a own)) (forgot a own))) ((times_out-Settles now).done x)
        ∙ ap (λ (ys : List Asked). forgotten_all (times_out now) ys (forgot a own)) (unchanged t (timed_out_ask now) xs n)
        ∙ ap (λ (y : Asked). forgotten_all (times_out now) xs (forgot y own)) (sym is)
        ∙ sym (ap (λ b. forgotten_all (times_out now) xs (cond (b && is_writes x.stage) (forgotten x.ticket own) own)) (ap (times_out now) is ∙ l))
    one false s g k =
        let n = apart x.ticket a.ticket t s (found_ticket t a xs g) in
        ap (λ (y : Ownership). forgotten_all (times_out now) (one_changed t (timed_out_ask now) xs) y) (if_both (times_out now x) true x a own n.0 n.1 h)
        ∙ k (forgot_if (times_out now x) x own) (if_kept (times_out now x) x own h) g

-- and its acquire falls first
any_gone : (now t : ℕ) (a : Asked) (xs : List Asked) (k : List ℕ) → once (ask_tickets xs) ≡ true → ask_at t xs ≡ Some a → times_out now a ≡ true → acquires_at k a || list_any (λ b. times_out now b && acquires_at k b) (one_changed t (timed_out_ask now) xs) ≡ list_any (λ b. times_out now b && acquires_at k b) xs
any_gone now t a [] k o e l = absurd (cc)
any_gone now t a (x ∷ xs) k o e l = one (has_ticket t x) refl e (λ (g : ask_at t xs ≡ Some a). any_gone now t a xs k (others x xs o) g l)
  where
    swap : (b c d : Bool) → b || (c || d) ≡ c || (b || d)
    swap true true d = refl
    swap true false d = refl
    swap false c d = refl

    any : List Asked → Bool
    any ys = list_any (λ b. times_out now b && acquires_at k b) ys

    one : (b : Bool) → has_ticket t x ≡ b → cond b (Some x) (ask_at t xs) ≡ Some a → (ask_at t xs ≡ Some a → acquires_at k a || list_any (λ b. times_out now b && acquires_at k b) (one_changed t (timed_out_ask now) xs) ≡ list_any (λ b. times_out now b && acquires_at k b) xs) →
        acquires_at k a || list_any (λ b. times_out now b && acquires_at k b) (cond b (timed_out_ask now x) x ∷ one_changed t (timed_out_ask now) xs) ≡ list_any (λ b. times_out now b && acquires_at k b) (x ∷ xs)
    one true s g r =
        let is : x ≡ a = cc in
        let n = others_pass t x.ticket xs s (alone x xs o) in
        ap (λ b. acquires_at k a || ((b && acquires_at k (timed_out_ask now x)) || list_any (λ c. times_out now c && acquires_at k c) (one_changed t (timed_out_ask now) xs))) ((times_out-Settles now).done x)
        ∙ ap (λ (ys : List Asked). acquires_at k a || list_any (λ c. times_out now c && acquires_at k c) ys) (unchanged t (timed_out_ask now) xs n)
        ∙ ap (λ (y : Asked). acquires_at k y || list_any (λ c. times_out now c && acquires_at k c) xs) (sym is)
        ∙ sym (ap (λ b. (b && acquires_at k x) || list_any (λ c. times_out now c && acquires_at k c) xs) (ap (times_out now) is ∙ l))
    one false s g r =
        swap (acquires_at k a) (times_out now x && acquires_at k x) (list_any (λ c. times_out now c && acquires_at k c) (one_changed t (timed_out_ask now) xs))
        ∙ ap (λ b. (times_out now x && acquires_at k x) || b) (r g)

due_either : (b c : Bool) (o : Option Acquire) → (b && is_due_acquire o) || (c && is_due_acquire (cond (b && is_due_acquire o) None o)) ≡ (b || c) && is_due_acquire o
due_either false c o = refl
due_either true c o = of_due (is_due_acquire o) refl
  where
    neither : (b : Bool) → b && false ≡ false
    neither true = refl
    neither false = refl

    of_due : (d : Bool) → is_due_acquire o ≡ d → d || (c && is_due_acquire (cond d None o)) ≡ d
    of_due true e = refl
    of_due false e = ap (λ b. c && b) e ∙ neither c

-- what reads wait on then, with the other requests
abbrev after_one : ℕ → ℕ → Asked → Reads → Reads
after_one now t a r = on (ended_with a (ground_of r)) (one_changed t (timed_out_ask now) r.asks)

fall_gone : (now t : ℕ) (a : Asked) (r : Reads) → once (ask_tickets r.asks) ≡ true → ask_at t r.asks ≡ Some a → times_out now a ≡ true → (k : List ℕ) → falls_with a r.acquires k || falls (times_out now) (after_one now t a r) k ≡ falls (times_out now) r k
fall_gone now t a r o e l k =
    let any = list_any (λ b. times_out now b && acquires_at k b) (one_changed t (timed_out_ask now) r.asks) in
    ap (λ (c : Option Acquire). falls_with a r.acquires k || (any && is_due_acquire c)) (at-without (falls_with a r.acquires) r.acquires k)
    ∙ due_either (acquires_at k a) any (at r.acquires k)
    ∙ ap (λ b. b && is_due_acquire (at r.acquires k)) (any_gone now t a r.asks k o e l)

without_gone : {A : Type 0} (now t : ℕ) (a : Asked) (r : Reads) (es : Keyed A) → once (ask_tickets r.asks) ≡ true → ask_at t r.asks ≡ Some a → times_out now a ≡ true → without (falls (times_out now) (after_one now t a r)) (without (falls_with a r.acquires) es) ≡ without (falls (times_out now) r) es
without_gone now t a r es o e l =
    without_twice (falls_with a r.acquires) (falls (times_out now) (after_one now t a r)) es
    ∙ without_same (λ k. falls_with a r.acquires k || falls (times_out now) (after_one now t a r) k) (falls (times_out now) r) es (fall_gone now t a r o e l)

pub one_less : (now t : ℕ) (a : Asked) (r : Reads) → OneOwner r.own → once (ask_tickets r.asks) ≡ true → ask_at t r.asks ≡ Some a → times_out now a ≡ true → ended (times_out now) (on (ended_with a (ground_of r)) (one_changed t (timed_out_ask now) r.asks)) ≡ ended (times_out now) r
one_less now t a r h o e l =
    let p = times_out now in
    let after = after_one now t a r in
    let marks = without (falls_with a r.acquires) (forgot a r.own).waits.spoiled in
    let rest = forgotten_all (times_out now) r.asks r.own in
    let own = all_marked (times_out now) after.asks marks (forgot a r.own) ∙ ap (marked marks) (own_gone now t a r.asks r.own h o e l) in
    let left =
    ap (λ (ss : Keyed Bool). without (falls (times_out now) after) (without (falls_with a r.acquires) ss)) (if_marks true a r.own)
    ∙ without_gone now t a r r.own.waits.spoiled o e l
    ∙ ap (λ (ss : Keyed Bool). without (falls (times_out now) r) ss) (sym (all_marks (times_out now) r.asks r.own)) in
    ap (λ (x : Ownership). dropped (falls (times_out now) after) (record (ground_of after) { own = x })) own
    ∙ (λ i. record { own = marked (left i) rest; acquires = without_gone now t a r r.acquires o e l i })
