-- What waits is served, and only plain reads wait for acquires and owner writes: requests never change, and one that is refused isn't
-- taken in.
use Rattle.std.proofs.Common.{◌≡◌, ℕ, true, List, [], ◌∷◌, sym, ◌∙◌, ap, subst}
use Rattle.wait_model.specs.declared.write.Write.{Write}
use Rattle.read_model.specs.declared.asked.Asked.{Asked}
use Rattle.core_model.specs.declared.event.CoreEvent.{CoreEvent}
use Rattle.core_model.specs.declared.event.CoreEvent.TheVariants as event
use Rattle.core_model.specs.Asking.{is_leased_read}
use Rattle.core_model.specs.ClockWork.{clock_work}
use Rattle.core_model.specs.Refusals.{refusal_of}
use Rattle.core_model.specs.State.{Core}
use Rattle.core_model.specs.Step.{stepped}
use Rattle.core_laws.proofs.Steps.Staying.{steps_stay}
use Rattle.core_fits.specs.Fits.{EachOf, Serves, AreServed, is_reading, ReadsAlone}
use Rattle.core_fits.specs.Laws.{Starts, Lasts}
use Rattle.core_fits.proofs.CallRows.{CoreHas, Last, clock_has}
use Rattle.core_fits.proofs.CoreRows.{Brings, stepped_has}
use Rattle.core_fits.proofs.Prefix.{clock_prefix}

-- Served requests.

abbrev AskServed : List ℕ → Asked → Type 0
AskServed p a = Serves p a.request

abbrev WriteServed : List ℕ → Write → Type 0
WriteServed p w = Serves p w.request

served_lasts : (p : List ℕ) → Last (AskServed p) (WriteServed p)
served_lasts p = record { asks = λ x y g h. ap (refusal_of p) g.request ∙ h; writes = λ w s h. h }

served_brings : (p : List ℕ) (e : CoreEvent) (now : ℕ) (c : Core) → c.own.waits.prefix ≡ p → Brings (AskServed p) (WriteServed p) e now c
served_brings p (event.Ask ticket q word) now c e = λ k s. let t : Serves p q = ap (λ (i : List ℕ). refusal_of i q) (sym e) ∙ s in record { other = λ s n. t; read = λ r s. t; write = t }
served_brings p (event.Answer call a) now c e = tt
served_brings p (event.Lost call) now c e = tt
served_brings p (event.Tick word) now c e = tt
served_brings p (event.Item number x) now c e = tt
served_brings p (event.Cut number) now c e = tt
served_brings p (event.Take ticket) now c e = tt
served_brings p (event.Leave ticket) now c e = tt
served_brings p event.Work now c e = tt

pub served_starts : Starts AreServed
served_starts settings = record { asks = tt; writes = tt }

pub served_steps : Lasts AreServed
served_steps c e now k h =
    let p = c.own.waits.prefix in
    let d = (stepped c e now).core in
    let t : CoreHas (AskServed p) (WriteServed p) d = stepped_has (AskServed p) (WriteServed p) (served_lasts p) e now c (served_brings p e now (clock_work now c) (clock_prefix now c)) (h.asks, h.writes) in
    let s : p ≡ d.own.waits.prefix = sym (steps_stay c e now).prefix in
    record { asks = subst (λ (i : List ℕ). EachOf (AskServed i) d.asks) s t.0; writes = subst (λ (i : List ℕ). EachOf (WriteServed i) d.own.waits.writes) s t.1 }

pub served_clock : (now : ℕ) (c : Core) → AreServed c → AreServed (clock_work now c)
served_clock now c h =
    let p = c.own.waits.prefix in
    let d = clock_work now c in
    let t : CoreHas (AskServed p) (WriteServed p) d = clock_has (AskServed p) (WriteServed p) (served_lasts p) now c (h.asks, h.writes) in
    let s : p ≡ d.own.waits.prefix = sym (clock_prefix now c) in
    record { asks = subst (λ (i : List ℕ). EachOf (AskServed i) d.asks) s t.0; writes = subst (λ (i : List ℕ). EachOf (WriteServed i) d.own.waits.writes) s t.1 }

-- Plain reads.

abbrev ReadsSo : List ℕ → Asked → Type 0
ReadsSo p a = is_reading a.stage ≡ true → is_leased_read p a.request ≡ true

abbrev Any : Write → Type 0
Any w = Unit {0}

reads_last : (p : List ℕ) → Last (ReadsSo p) Any
reads_last p = record { asks = λ x y g h r. ap (is_leased_read p) g.request ∙ h (g.reads r); writes = λ w s h. tt }

reads_bring : (p : List ℕ) (e : CoreEvent) (now : ℕ) (c : Core) → c.own.waits.prefix ≡ p → Brings (ReadsSo p) Any e now c
reads_bring p (event.Ask ticket q word) now c e = λ k s. record { other = λ s n r. absurd (cc); read = λ t s r. ap (λ (i : List ℕ). is_leased_read i q) (sym e) ∙ t; write = tt }
reads_bring p (event.Answer call a) now c e = tt
reads_bring p (event.Lost call) now c e = tt
reads_bring p (event.Tick word) now c e = tt
reads_bring p (event.Item number x) now c e = tt
reads_bring p (event.Cut number) now c e = tt
reads_bring p (event.Take ticket) now c e = tt
reads_bring p (event.Leave ticket) now c e = tt
reads_bring p event.Work now c e = tt

any_write : (ws : List Write) → EachOf Any ws
any_write [] = tt
any_write (w ∷ ws) = (tt, any_write ws)

pub reads_start : Starts ReadsAlone
reads_start settings = tt

pub reads_step : Lasts ReadsAlone
reads_step c e now k h =
    let p = c.own.waits.prefix in
    let d = (stepped c e now).core in
    let t : CoreHas (ReadsSo p) Any d = stepped_has (ReadsSo p) Any (reads_last p) e now c (reads_bring p e now (clock_work now c) (clock_prefix now c)) (h, any_write c.own.waits.writes) in
    subst (λ (i : List ℕ). EachOf (ReadsSo i) d.asks) (sym (steps_stay c e now).prefix) t.0

pub reads_clock : (now : ℕ) (c : Core) → ReadsAlone c → ReadsAlone (clock_work now c)
reads_clock now c h =
    let p = c.own.waits.prefix in
    let d = clock_work now c in
    let t : CoreHas (ReadsSo p) Any d = clock_has (ReadsSo p) Any (reads_last p) now c (h, any_write c.own.waits.writes) in
    subst (λ (i : List ℕ). EachOf (ReadsSo i) d.asks) (sym (clock_prefix now c)) t.0
