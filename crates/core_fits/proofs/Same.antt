-- A request and a write of one ticket are the same request: neither changes, and a new ticket is of neither before.
use Rattle.std.proofs.Common.{◌≡◌, ℕ, ◌==◌, Bool, true, false, cond, ◌||◌, List, [], ◌∷◌, ◌++◌, filter, is_some, refl, sym, ◌∙◌, ap}
use Rattle.etcd_types.specs.declared.request.Request.{Request}
use Rattle.etcd_types.proofs.Bools.{or_first, or_second}
use Rattle.wait_model.specs.declared.write.Write.{Write}
use Rattle.wait_model.specs.Asked.{new_write}
use Rattle.read_model.specs.declared.asked.Asked.{Asked}
use Rattle.read_model.specs.PlainRead.{in_stage}
use Rattle.read_model.specs.TakingOff.{is_writes}
use Rattle.core_model.specs.declared.event.CoreEvent.{CoreEvent}
use Rattle.core_model.specs.declared.event.CoreEvent.TheVariants as event
use Rattle.core_model.specs.declared.event.StepFault.TheVariants as fault
use Rattle.core_model.specs.Asking.{asked_at}
use Rattle.core_model.specs.ClockWork.{clock_work}
use Rattle.core_model.specs.Fits.{has_number, ask_tickets, writing_tickets, write_tickets, AsksOk}
use Rattle.core_model.specs.Lookups.{is_known, ask_at}
use Rattle.core_model.specs.State.{Core}
use Rattle.core_model.specs.Step.{happened, is_worn, stepped}
use Rattle.core_model.specs.Stepped.{Stepped, faults, counted}
use Rattle.watch_model.specs.Lookups.{watch_at}
use Rattle.core_laws.proofs.Steps.Asks.{unknown}
use Rattle.core_laws.proofs.Steps.Comes.{by_test}
use Rattle.core_laws.proofs.Steps.Lists.{number_itself}
use Rattle.core_laws.proofs.Steps.Middle.{clock_whole}
use Rattle.core_laws.proofs.Steps.Whole.{of_ok}
use Rattle.core_fits.specs.Fits.{EachOf, IsSame, WritesAreAsked}
use Rattle.core_fits.specs.Laws.{Starts, Lasts}
use Rattle.core_fits.proofs.Eachs.{each_kept, each_pushed, each_before}
use Rattle.core_fits.proofs.CallRows.{CoreHas, Last, clock_has}
use Rattle.core_fits.proofs.CoreRows.{Brings, happened_has, counted_has}

-- an ask agrees with all of these writes
abbrev Agrees : List Write → Asked → Type 0
Agrees ws a = EachOf (IsSame a) ws

-- each ask that agrees with all of these writes agrees with this one
abbrev Among : List Write → Write → Type 0
Among ws w = (a : Asked) → Agrees ws a → IsSame a w

all_among : (ws : List Write) → EachOf (Among ws) ws
all_among [] = tt
all_among (w ∷ ws) = (λ a h. h.0, each_kept (Among ws) (Among (w ∷ ws)) (λ v g a h. g a h.1) ws (all_among ws))

among_lasts : (ws : List Write) → Last (Agrees ws) (Among ws)
among_lasts ws = record {
  asks = λ x y g h. each_kept (IsSame x) (IsSame y) (λ w s t. s (t ∙ g.ticket) ∙ sym g.request) ws h;
  writes = λ w s h. h;
}

-- of a list that agrees and comes from it, so do all
all_agree : (ws : List Write) (c : Core) → CoreHas (Agrees ws) (Among ws) c → WritesAreAsked c
all_agree ws c h = each_kept (Agrees ws) (λ a. EachOf (IsSame a) c.own.waits.writes) (λ a t. each_kept (Among ws) (IsSame a) (λ w g. g a t) c.own.waits.writes h.1) c.asks h.0

has_same : (c : Core) → WritesAreAsked c → CoreHas (Agrees c.own.waits.writes) (Among c.own.waits.writes) c
has_same c h = (h, all_among c.own.waits.writes)

pub clock_same : (now : ℕ) (c : Core) → WritesAreAsked c → WritesAreAsked (clock_work now c)
clock_same now c h = all_agree c.own.waits.writes (clock_work now c) (clock_has (Agrees c.own.waits.writes) (Among c.own.waits.writes) (among_lasts c.own.waits.writes) now c (has_same c h))

-- A new ticket.

-- no number of the list is this one
absent_ticket : (ticket n : ℕ) → (n == ticket) ≡ false → n ≡ ticket → ⊥
absent_ticket ticket n e s = let t : (ticket == ticket) ≡ false = ap (λ (i : ℕ). i == ticket) (sym s) ∙ e in let u = number_itself ticket in cc

-- the requests that wait agree with a write of a new ticket
apart : (w : Write) (ws : List Write) (xs : List Asked) → has_number (ask_tickets xs) w.ticket ≡ false → EachOf (Agrees ws) xs → EachOf (Agrees (ws ++ w ∷ [])) xs
apart w ws [] n h = tt
apart w ws (x ∷ xs) n h = (
  each_pushed (IsSame x) w ws h.0 (λ t. absurd (absent_ticket w.ticket x.ticket (or_first (x.ticket == w.ticket) (has_number (ask_tickets xs) w.ticket) n) (sym t))),
  apart w ws xs (or_second (x.ticket == w.ticket) (has_number (ask_tickets xs) w.ticket) n) h.1,
)

-- as many tickets of writes as requests wait as writes
none_writing : (ticket : ℕ) (xs : List Asked) → has_number (ask_tickets xs) ticket ≡ false → has_number (writing_tickets xs) ticket ≡ false
none_writing ticket [] h = refl
none_writing ticket (x ∷ xs) h = by_writes (is_writes x.stage) (or_first (x.ticket == ticket) (has_number (ask_tickets xs) ticket) h) (none_writing ticket xs (or_second (x.ticket == ticket) (has_number (ask_tickets xs) ticket) h))
  where
    by_writes : (b : Bool) → (x.ticket == ticket) ≡ false → has_number (writing_tickets xs) ticket ≡ false → has_number (ask_tickets (cond b (x ∷ filter (λ a. is_writes a.stage) xs) (filter (λ a. is_writes a.stage) xs))) ticket ≡ false
    by_writes true e rest = ap (λ c. c || has_number (writing_tickets xs) ticket) e ∙ rest
    by_writes false e rest = rest

other_writes : (a : Asked) (ws : List Write) → has_number (write_tickets ws) a.ticket ≡ false → Agrees ws a
other_writes a [] n = tt
other_writes a (w ∷ ws) n = (λ t. absurd (absent_ticket a.ticket w.ticket (or_first (w.ticket == a.ticket) (has_number (write_tickets ws) a.ticket) n) t), other_writes a ws (or_second (w.ticket == a.ticket) (has_number (write_tickets ws) a.ticket) n))

-- Each event.

same_same : (ws : List Write) (now : ℕ) (e : CoreEvent) (c : Core) → Brings (Agrees ws) (Among ws) e now c → CoreHas (Agrees ws) (Among ws) c → WritesAreAsked (happened now e c).core
same_same ws now e c b h = all_agree ws (happened now e c).core (happened_has (Agrees ws) (Among ws) (among_lasts ws) now e c b h)

asked_same : (now ticket : ℕ) (q : Request) (word : ℕ) (c : Core) → AsksOk c.asks c.own.waits.writes → WritesAreAsked c → WritesAreAsked (happened now (event.Ask ticket q word) c).core
asked_same now ticket q word c k h = by_known (is_known ticket c) refl
  where
    w : Write
    w = new_write ticket q

    ws : List Write
    ws = c.own.waits.writes ++ new_write ticket q ∷ []

    -- a ticket that is known changes nothing
    by_known : (b : Bool) → is_known ticket c ≡ b → WritesAreAsked (happened now (event.Ask ticket q word) c).core
    by_known true e = same_same c.own.waits.writes now (event.Ask ticket q word) c (λ n s. absurd (cc)) (has_same c h)
    by_known false e =
        let n : has_number (ask_tickets c.asks) ticket ≡ false = unknown ticket c.asks (or_first (is_some (ask_at ticket c.asks)) (is_some (watch_at ticket c.watches.watches)) e) in
        let m : has_number (write_tickets c.own.waits.writes) ticket ≡ false = ap (λ (ns : List ℕ). has_number ns ticket) k.writes ∙ none_writing ticket c.asks n in
        same_same ws now (event.Ask ticket q word) c
        (λ o s. record { other = λ s r. fresh (in_stage s (asked_at now ticket q word)) refl refl m; read = λ r s. fresh (in_stage s (asked_at now ticket q word)) refl refl m; write = λ a t. (each_before (IsSame a) w c.own.waits.writes t).1 })
        (apart w c.own.waits.writes c.asks n h, (each_before (Among ws) w c.own.waits.writes (all_among ws)).0)
      where
        fresh : (a : Asked) → a.ticket ≡ ticket → a.request ≡ q → has_number (write_tickets c.own.waits.writes) ticket ≡ false → Agrees ws a
        fresh a t r m =
            each_pushed (IsSame a) w c.own.waits.writes (other_writes a c.own.waits.writes (ap (has_number (write_tickets c.own.waits.writes)) t ∙ m)) (λ s. sym r)

happened_same : (now : ℕ) (e : CoreEvent) (c : Core) → AsksOk c.asks c.own.waits.writes → WritesAreAsked c → WritesAreAsked (happened now e c).core
happened_same now (event.Ask ticket q word) c k h = asked_same now ticket q word c k h
happened_same now (event.Answer call a) c k h = same_same c.own.waits.writes now (event.Answer call a) c tt (has_same c h)
happened_same now (event.Lost call) c k h = same_same c.own.waits.writes now (event.Lost call) c tt (has_same c h)
happened_same now (event.Tick word) c k h = same_same c.own.waits.writes now (event.Tick word) c tt (has_same c h)
happened_same now (event.Item number x) c k h = same_same c.own.waits.writes now (event.Item number x) c tt (has_same c h)
happened_same now (event.Cut number) c k h = same_same c.own.waits.writes now (event.Cut number) c tt (has_same c h)
happened_same now (event.Take ticket) c k h = same_same c.own.waits.writes now (event.Take ticket) c tt (has_same c h)
happened_same now (event.Leave ticket) c k h = same_same c.own.waits.writes now (event.Leave ticket) c tt (has_same c h)
happened_same now event.Work c k h = same_same c.own.waits.writes now event.Work c tt (has_same c h)

counted_same : (s : Stepped) → WritesAreAsked s.core → WritesAreAsked (counted s).core
counted_same s h = all_agree s.core.own.waits.writes (counted s).core (counted_has (Agrees s.core.own.waits.writes) (Among s.core.own.waits.writes) s (has_same s.core h))

pub same_starts : Starts WritesAreAsked
same_starts settings = tt

pub same_steps : Lasts WritesAreAsked
unfolding stepped
same_steps c e now k h =
    let d = clock_work now c in
    by_test (λ (s : Stepped). WritesAreAsked s.core) (is_worn c) (faults c fault.Worn) (counted (happened now e d)) (λ w. h)
    (λ w. counted_same (happened now e d) (happened_same now e d (clock_whole 0 now c (of_ok c k).mid).mid.agrees.asks (clock_same now c h)))
