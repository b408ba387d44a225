-- No request waits for nothing: a read by what stands at its key, a write by its stage, a keepalive by its group.
use Rattle.std.proofs.Common.{◌≡◌, ◌⊎◌, inl, inr, ℕ, ◌==◌, Bool, true, false, not, cond, ◌||◌, List, [], ◌∷◌, ◌++◌, map, filter, None, Some, refl, sym, ◌∙◌, ap, append_assoc}
use Rattle.std.specs.List.{list_any, list_all}
use Rattle.etcd_types.proofs.Bools.{and_first, and_second, or_left, or_right, not_true}
use Rattle.wait_model.specs.declared.write.Write.{Write}
use Rattle.wait_model.specs.declared.write.WriteStage.{WriteStage}
use Rattle.wait_model.specs.declared.write.WriteStage.TheVariants.{Waiting, Sends, Finds}
use Rattle.wait_model.specs.Covers.{shares}
use Rattle.wait_model.specs.Fits.{HasCause, AllHaveCause}
use Rattle.wait_model.specs.Stages.{is_waiting, is_found_over}
use Rattle.wait_model.specs.State.{Ownership}
use Rattle.wait_model.proofs.Bools.{or_cases}
use Rattle.read_model.specs.declared.asked.Asked.{Asked}
use Rattle.read_model.specs.declared.asked.Stage.{Stage}
use Rattle.read_model.specs.declared.asked.Stage.TheVariants as stage
use Rattle.read_model.specs.State.{ground_of}
use Rattle.read_model.specs.TakingOff.{is_writes}
use Rattle.core_laws.specs.PlainReads.Laws as reads
use Rattle.core_laws.proofs.PlainReads.Waiting.{no_read_is_idle}
use Rattle.core_model.specs.DueJobs.{lease_of}
use Rattle.core_model.specs.Fits.{CoreOk, has_number, group_stands, is_keepalive, is_standing, goes_on, write_tickets}
use Rattle.core_model.specs.Groups.{is_out_for}
use Rattle.core_model.specs.Lookups.{reads_of}
use Rattle.core_model.specs.State.{Core}
use Rattle.core_model.specs.WaitsFor.{HeldBack, WriteWaits, WriteOf, StageWaits, AllWaitFor}
use Rattle.core_laws.specs.Steps.Laws.{NoRequestIsIdle}
use Rattle.core_laws.proofs.Steps.Lists.{same_number, number_itself}

-- The write of a ticket, and what it waits for.

-- `before` are those before it, the last one first, and `earlier` the same in order
stage_waits : (before earlier : List Write) (own : Ownership) (w : Write) (s : WriteStage) → w.stage ≡ s → (list_any (shares w) before ≡ true → list_any (shares w) earlier ≡ true) → HasCause before own.entries own.waits.spoiled w → not (is_found_over s) ≡ true → WriteWaits earlier own w s
stage_waits before earlier own w Waiting e f h u = by_share (list_any (shares w) before) refl
  where
    by_share : (b : Bool) → list_any (shares w) before ≡ b → (list_any (shares w) earlier ≡ true) ⊎ HeldBack own w
    by_share true q = inl (f q)
    by_share false q = let x = h (ap is_waiting e) q in inr (record { key = x.0; covered = x.1; held_back = x.2 })
stage_waits before earlier own w (Sends owner s) e f h u = tt
stage_waits before earlier own w (Finds found) e f h u = not_true (is_found_over (Finds found)) u

any_grown : (p : Write → Bool) (w : Write) (earlier : List Write) → p w ≡ true → list_any p (earlier ++ w ∷ []) ≡ true
any_grown p w [] e = or_left (p w) false e
any_grown p w (v ∷ vs) e = or_right (p v) (list_any p (vs ++ w ∷ [])) (any_grown p w vs e)

any_kept : (p : Write → Bool) (w : Write) (earlier : List Write) → list_any p earlier ≡ true → list_any p (earlier ++ w ∷ []) ≡ true
any_kept p w [] e = absurd (cc)
any_kept p w (v ∷ vs) e =
    or_cases (p v) (list_any p vs) (p v || list_any p (vs ++ w ∷ [])) e (λ t. or_left (p v) (list_any p (vs ++ w ∷ [])) t) (λ t. or_right (p v) (list_any p (vs ++ w ∷ [])) (any_kept p w vs t))

-- each that stood before stands among the earlier ones
Among : List Write → List Write → Type 0
Among before earlier = (p : Write → Bool) → list_any p before ≡ true → list_any p earlier ≡ true

grown : (before earlier : List Write) (w : Write) → Among before earlier → Among (w ∷ before) (earlier ++ w ∷ [])
unfolding Among
grown before earlier w f p e =
    or_cases (p w) (list_any p before) (list_any p (earlier ++ w ∷ [])) e (λ t. any_grown p w earlier t) (λ t. any_kept p w earlier (f p t))

write_of : (own : Ownership) (ticket : ℕ) (before earlier ws : List Write) → own.waits.writes ≡ earlier ++ ws → Among before earlier → AllHaveCause before own.entries own.waits.spoiled ws → list_all goes_on ws ≡ true → has_number (map (λ w. w.ticket) ws) ticket ≡ true → WriteOf own ticket
unfolding Among
write_of own ticket before earlier [] e f h u t = absurd (cc)
write_of own ticket before earlier (w ∷ ws) e f h u t = by_ticket (λ t. write_of own ticket (w ∷ before) (earlier ++ w ∷ []) ws (e ∙ sym (append_assoc earlier (w ∷ []) ws)) (grown before earlier w f) h.1 (and_second (goes_on w) (list_all goes_on ws) u) t) (w.ticket == ticket) refl t
  where
    by_ticket : (has_number (map (λ w. w.ticket) ws) ticket ≡ true → WriteOf own ticket) → (b : Bool) → (w.ticket == ticket) ≡ b → b || has_number (map (λ w. w.ticket) ws) ticket ≡ true → WriteOf own ticket
    by_ticket i true q t =
        record {
          earlier = earlier;
          write = w;
          later = ws;
          stands = e;
          named = same_number w.ticket ticket q;
          waits = stage_waits before earlier own w w.stage refl (f (shares w)) h.0 (and_first (goes_on w) (list_all goes_on ws) u);
        }
    by_ticket i false q t = i t

-- Each request.

writing : List Asked → List ℕ
writing asks = map (λ a. a.ticket) (filter (λ a. is_writes a.stage) asks)

head_writes : (a : Asked) (asks : List Asked) → is_writes a.stage ≡ true → has_number (writing (a ∷ asks)) a.ticket ≡ true
unfolding writing
head_writes a asks e = by_test (is_writes a.stage) e
  where
    by_test : (b : Bool) → b ≡ true → has_number (map (λ (x : Asked). x.ticket) (cond b (a ∷ filter (λ (x : Asked). is_writes x.stage) asks) (filter (λ (x : Asked). is_writes x.stage) asks))) a.ticket ≡ true
    by_test true t = or_left (a.ticket == a.ticket) (has_number (writing asks) a.ticket) (number_itself a.ticket)
    by_test false t = absurd (cc)

tail_writes : (a : Asked) (asks : List Asked) (n : ℕ) → has_number (writing asks) n ≡ true → has_number (writing (a ∷ asks)) n ≡ true
unfolding writing
tail_writes a asks n e = by_test (is_writes a.stage)
  where
    by_test : (b : Bool) → has_number (map (λ (x : Asked). x.ticket) (cond b (a ∷ filter (λ (x : Asked). is_writes x.stage) asks) (filter (λ (x : Asked). is_writes x.stage) asks))) n ≡ true
    by_test true = or_right (a.ticket == n) (has_number (writing asks) n) e
    by_test false = e

ask_waits : (c : Core) (a : Asked) (s : Stage) → reads.HasCause (ground_of (reads_of c)) a s → (is_writes s ≡ true → WriteOf c.own a.ticket) → group_stands c.out a.request s ≡ true → StageWaits c a s
ask_waits c a (stage.Calling s) h w g = tt
ask_waits c a stage.Acquiring h w g = record { acquire = h.0; stands = h.1; named = same_number h.0.ticket a.ticket h.2 }
ask_waits c a stage.Joined h w g = record { acquire = h.0; stands = h.1 }
ask_waits c a stage.Behind h w g = record { write = h.0; first = h.1; owner = h.2 }
ask_waits c a stage.Writes h w g = w refl
ask_waits c a (stage.Grouped None) h w g = and_second (is_keepalive a.request) (is_out_for (lease_of a.request) c.out) g
ask_waits c a (stage.Grouped (Some s)) h w g = tt
ask_waits c a (stage.Replied v) h w g = tt

-- the requests from one on: their writes are the proxy's
all_wait : (c : Core) → CoreOk c → (asks : List Asked) → ((n : ℕ) → has_number (writing asks) n ≡ true → has_number (write_tickets c.own.waits.writes) n ≡ true) → reads.AllHaveCause (ground_of (reads_of c)) asks → list_all (λ a. group_stands c.out a.request a.stage) asks ≡ true → AllWaitFor c asks
unfolding Among
all_wait c ok [] f h g = tt
all_wait c ok (a ∷ asks) f h g =
    let one = group_stands c.out a.request a.stage in
    let rest = list_all (λ x. group_stands c.out x.request x.stage) asks in
    (ask_waits c a a.stage h.0 (λ t. write_of c.own a.ticket [] [] c.own.waits.writes refl (λ p e. e) ok.settled ok.unfinished (f a.ticket (head_writes a asks t))) (and_first one rest g), all_wait c ok asks (λ n t. f n (tail_writes a asks n t)) h.1 (and_second one rest g))

pub none_is_idle : NoRequestIsIdle
unfolding writing
none_is_idle c ok =
    all_wait c ok c.asks (λ n t. ap (λ (ns : List ℕ). has_number ns n) ok.agrees.asks.writes ∙ t) (no_read_is_idle (is_standing c.seat) (reads_of c) ok.reads) ok.agrees.groups.stand
