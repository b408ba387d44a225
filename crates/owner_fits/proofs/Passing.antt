-- What a pass over the waiting writes keeps: of a key that it begins to write, no owner's write puts it with a lease, since what is put
-- so was let go before.
use Rattle.std.proofs.Common.{◌≡◌, ℕ, Bool, true, false, not, cond, ◌&&◌, ◌||◌, List, [], ◌∷◌, Option, None, Some, is_some, refl, sym, ◌∙◌, ap}
use Rattle.std.specs.List.{list_any, list_all}
use Rattle.std.specs.Option.{option_map}
use Rattle.etcd_types.proofs.Bools.{and_first, and_second, and_both, and_false, or_left}
use Rattle.proxy_model.specs.declared.lease.Entry.{Entry}
use Rattle.proxy_model.specs.declared.lease.Phase.{Phase}
use Rattle.proxy_model.specs.declared.lease.Phase.TheVariants.{Held, Writing, Leaving}
use Rattle.proxy_model.specs.Keyed.{Keyed, at}
use Rattle.proxy_model.specs.LeaseTable.{is_writing, is_writing_phase}
use Rattle.wait_model.specs.declared.write.Write.{Write}
use Rattle.wait_model.specs.declared.write.WriteStage.{WriteStage}
use Rattle.wait_model.specs.declared.write.WriteStage.TheVariants.{Waiting}
use Rattle.wait_model.specs.Covers.{covers, shares, is_by_keys, leased}
use Rattle.wait_model.specs.Edits.{each}
use Rattle.wait_model.specs.Fits.{is_quiet, StageOk, KeyOk, Fits}
use Rattle.wait_model.specs.Passes.{goes, turn, passed, proceeded}
use Rattle.wait_model.specs.Phases.{is_leaving, let_go}
use Rattle.wait_model.specs.SeveralKeys.{given_up_over, spoiled_over, any_covered, by_ranges}
use Rattle.wait_model.specs.SingleKeys.{Turn, let_go_leased, begun_over, any_key, keys_begun, by_keys}
use Rattle.wait_model.specs.Stages.{staged, gone_on, is_waiting, is_owner, is_found_over, stage_on}
use Rattle.wait_model.specs.State.{Ownership}
use Rattle.wait_model.proofs.Covering.{none_key}
use Rattle.wait_model.proofs.Tables.{at-each}
use Rattle.core_laws.proofs.Writes.Passes.{any_over, key_first, key_later, moved_key, same_cover, quiet_first, quiet_later, covered_pass}
use Rattle.core_laws.proofs.Writes.Phases.{some-mapped, some-writing, waiting_owns_nothing}
use Rattle.core_laws.proofs.Writes.Turns.{is_free, turn_ok, owner-stage_on}
use Rattle.core_laws.proofs.Steps.Comes.{by_test}
use Rattle.owner_fits.specs.Entries.{is_unleased}

-- Of one write.

-- that is no owner's
pub unowned : (k : List ℕ) (w : Write) → is_owner w.stage ≡ false → is_unleased k w ≡ true
unowned k w o = ap (λ b. not (b && (covers w k && leased w.request k))) o

-- that doesn't cover the key
pub uncovered : (k : List ℕ) (w : Write) → covers w k ≡ false → is_unleased k w ≡ true
uncovered k w c = ap (λ b. not (is_owner w.stage && (b && leased w.request k))) c ∙ ap not (and_false (is_owner w.stage))

-- that doesn't put the key with a lease
pub plain : (k : List ℕ) (w : Write) → leased w.request k ≡ false → is_unleased k w ≡ true
plain k w l = ap (λ b. not (is_owner w.stage && (covers w k && b))) l ∙ ap (λ b. not (is_owner w.stage && b)) (and_false (covers w k)) ∙ ap not (and_false (is_owner w.stage))

quiet_unleased : (k : List ℕ) (ws : List Write) → is_quiet k ws ≡ true → list_all (is_unleased k) ws ≡ true
quiet_unleased k [] q = refl
quiet_unleased k (w ∷ ws) q =
    elim (covers w k) as (λ b. covers w k ≡ b → list_all (is_unleased k) (w ∷ ws) ≡ true) [
      | true ↦ λ c. let x = quiet_first w ws k c q in and_both (is_unleased k w) (list_all (is_unleased k) ws) (unowned k w (waiting_owns_nothing w.stage x.0)) (quiet_unleased k ws x.1)
      | false ↦ λ c. and_both (is_unleased k w) (list_all (is_unleased k) ws) (uncovered k w c) (quiet_unleased k ws (quiet_later w ws k c q))
    ] refl

-- Of its turn at a key that it covers.

abbrev Leaves : List ℕ → Turn → Type 0
Leaves k t = is_writing (at t.entries k) ≡ true → is_unleased k t.write ≡ true

-- what isn't being written, and would leave if it were let go, isn't there where nothing leaves
nothing_there : (e : Option Entry) → is_writing e ≡ false → is_leaving (option_map let_go e) ≡ false → is_some e ≡ false
nothing_there None w l = refl
nothing_there (Some e) w l = by_phase e.phase w l
  where
    by_phase : (p : Phase) → is_writing_phase p ≡ false → is_leaving (Some (let_go (record e { phase = p }))) ≡ false → true ≡ false
    by_phase Held w l = absurd (cc)
    by_phase (Writing revoked) w l = absurd (cc)
    by_phase (Leaving sent) w l = absurd (cc)

keys_leave : (step : ℕ) (es : Keyed Entry) (ss : Keyed Bool) (v : Write) (k : List ℕ) → is_by_keys v ≡ true → covers v k ≡ true → is_waiting v.stage ≡ true → is_writing (at es k) ≡ false → Leaves k (by_keys step es ss v)
keys_leave step es ss v k a c w n =
    by_test (Leaves k) (any_key v (λ j. is_some (at ss j))) (record { entries = es; spoiled = ss; write = v }) (keys_begun step fs ss v)
    (λ t u. waits)
    (λ t. by_test (Leaves k) (any_key v (λ j. is_leaving (at fs j))) (record { entries = fs; spoiled = ss; write = v }) (record { entries = each (begun_over v) fs; spoiled = ss; write = gone_on step owner v })
    (λ u x. waits)
    (λ u x. by_lease (leased v.request k) refl u x))
  where
    fs : Keyed Entry
    fs = each (let_go_leased v) es

    owner : Bool
    owner = any_key v (λ j. is_some (at (each (let_go_leased v) es) j))

    waits : is_unleased k v ≡ true
    waits = unowned k v (waiting_owns_nothing v.stage w)

    let_go_here : leased v.request k ≡ true → at (each (let_go_leased v) es) k ≡ option_map let_go (at es k)
    let_go_here l = at-each (let_go_leased v) es k ∙ ap (λ b. option_map (λ (e : Entry). cond (b && leased v.request k) (let_go e) e) (at es k)) c ∙ ap (λ b. option_map (λ (e : Entry). cond b (let_go e) e) (at es k)) l

    by_lease : (l : Bool) → leased v.request k ≡ l → any_key v (λ j. is_leaving (at (each (let_go_leased v) es) j)) ≡ false → is_writing (at (each (begun_over v) (each (let_go_leased v) es)) k) ≡ true → is_unleased k (gone_on step (any_key v (λ j. is_some (at (each (let_go_leased v) es) j))) v) ≡ true
    by_lease false l u x = plain k (gone_on step owner v) l
    by_lease true l u x =
        let g = let_go_here l in
        let none : is_leaving (at fs k) ≡ false = none_key (λ j. is_leaving (at (each (let_go_leased v) es) j)) v.ranges k a u c in
        let gone : is_some (at es k) ≡ false = nothing_there (at es k) n (sym (ap is_leaving g) ∙ none) in
        let there : is_some (at es k) ≡ true = sym (some-mapped let_go (at es k)) ∙ sym (ap is_some g) ∙ sym (some-mapped (begun_over v k) (at fs k)) ∙ sym (ap is_some (at-each (begun_over v) fs k)) ∙ some-writing (at (each (begun_over v) fs) k) x in
        absurd (cc)

ranges_leave : (step : ℕ) (es : Keyed Entry) (ss : Keyed Bool) (v : Write) (k : List ℕ) → is_waiting v.stage ≡ true → is_unleased k (by_ranges step es ss v).write ≡ true
ranges_leave step es ss v k w =
    by_test (λ (u : Write). is_unleased k u ≡ true) (any_covered v (each (given_up_over v) es) || any_covered v (each (spoiled_over v) ss)) v (gone_on step false v) (λ t. unowned k v (waiting_owns_nothing v.stage w)) (λ t. unowned k (gone_on step false v) refl)

turn_leaves : (step : ℕ) (earlier : List Write) (es : Keyed Entry) (ss : Keyed Bool) (w : Write) (k : List ℕ) → covers w k ≡ true → StageOk (at es k) (at ss k) w.stage → (is_writing (at es k) ≡ true → is_unleased k w ≡ true) → Leaves k (turn step earlier es ss w)
turn_leaves step earlier es ss w k c s h =
    by_test (Leaves k) (is_free earlier v) (goes step es ss v) (record { entries = es; spoiled = ss; write = v })
    (λ t.
    let waits = and_first (is_waiting v.stage) (not (list_any (shares w) earlier)) t in
    by_test (Leaves k) (is_by_keys v) (by_keys step es ss v) (by_ranges step es ss v)
    (λ a. keys_leave step es ss v k a c waits (unwritten (is_writing (at es k)) refl waits))
    (λ a x. ranges_leave step es ss v k waits))
    (λ t x. by_same (h x))
  where
    v : Write
    v = staged w (stage_on w.stage)

    by_same : is_unleased k w ≡ true → is_unleased k (staged w (stage_on w.stage)) ≡ true
    by_same t = ap (λ b. not (b && (covers w k && leased w.request k))) (owner-stage_on w.stage) ∙ t

    unwritten : (b : Bool) → is_writing (at es k) ≡ b → is_waiting (stage_on w.stage) ≡ true → is_writing (at es k) ≡ false
    unwritten false e t = e
    unwritten true e t = absurd (let o = s.writer e in let m = waiting_owns_nothing (stage_on w.stage) t in let i = owner-stage_on w.stage in cc)

-- Of all of them.

abbrev pub Unleased : List ℕ → Option Entry → List Write → Type 0
Unleased k e ws = is_writing e ≡ true → list_all (is_unleased k) ws ≡ true

pass_unleased : (step : ℕ) (earlier : List Write) (es : Keyed Entry) (ss : Keyed Bool) (ws : List Write) (k : List ℕ) → KeyOk (at es k) (at ss k) ws k → Unleased k (at es k) ws → Unleased k (at (passed step earlier es ss ws).entries k) (passed step earlier es ss ws).writes
unfolding passed
pass_unleased step earlier es ss [] k h u = u
pass_unleased step earlier es ss (w ∷ ws) k h u =
    let t = turn step earlier es ss w in
    let p = passed step (t.write ∷ earlier) t.entries t.spoiled ws in
    let a = turn_ok step earlier es ss w in
    let x = a.at_key k in
    elim (covers w k) as (λ b. covers w k ≡ b → Unleased k (at p.entries k) (t.write ∷ p.writes)) [
      | true ↦ λ c y.
          let f = key_first (at es k) (at ss k) w ws k c h in
          let d = same_cover t.write w k a.ranges ∙ c in
          let l = covered_pass step (t.write ∷ earlier) t.entries t.spoiled ws k (or_left (covers t.write k) (any_over k earlier) d) f.0 in
          let r = turn_leaves step earlier es ss w k c f.1 (λ z. and_first (is_unleased k w) (list_all (is_unleased k) ws) (u z)) (sym (ap is_writing l.entry) ∙ y) in
          and_both (is_unleased k t.write) (list_all (is_unleased k) p.writes) r (quiet_unleased k p.writes l.quiet)
      | false ↦ λ c y.
          let n = uncovered k t.write (same_cover t.write w k a.ranges ∙ c) in
          let e = x.entry_away c in
          let i = pass_unleased step (t.write ∷ earlier) t.entries t.spoiled ws k (moved_key (at es k) (at t.entries k) (at ss k) (at t.spoiled k) ws k e (x.spoiled_away c) (key_later (at es k) (at ss k) w ws k c h)) (λ z. and_second (is_unleased k w) (list_all (is_unleased k) ws) (u (sym (ap is_writing e) ∙ z))) in
          and_both (is_unleased k t.write) (list_all (is_unleased k) p.writes) n (i y)
    ] refl

pub passes_unleased : (own : Ownership) (k : List ℕ) → Fits own → Unleased k (at own.entries k) own.waits.writes → Unleased k (at (proceeded own).entries k) (proceeded own).waits.writes
passes_unleased own k f u = pass_unleased own.waits.step [] own.entries own.waits.spoiled own.waits.writes k (f k) u

-- No entry comes or goes, and a write comes to wait, or its call is due.

some_each : (f : List ℕ → Entry → Entry) (es : Keyed Entry) (k : List ℕ) → is_some (at (each f es) k) ≡ is_some (at es k)
some_each f es k = ap is_some (at-each f es k) ∙ some-mapped (f k) (at es k)

turn_some : (step : ℕ) (earlier : List Write) (es : Keyed Entry) (ss : Keyed Bool) (w : Write) (k : List ℕ) → is_some (at (turn step earlier es ss w).entries k) ≡ is_some (at es k)
turn_some step earlier es ss w k =
    let v = staged w (stage_on w.stage) in
    let P = λ (t : Turn). is_some (at t.entries k) ≡ is_some (at es k) in
    let fs = each (let_go_leased v) es in
    by_test P (is_free earlier v) (goes step es ss v) (record { entries = es; spoiled = ss; write = v })
    (λ t. by_test P (is_by_keys v) (by_keys step es ss v) (by_ranges step es ss v)
    (λ a. by_test P (any_key v (λ j. is_some (at ss j))) (record { entries = es; spoiled = ss; write = v }) (keys_begun step fs ss v)
    (λ b. refl)
    (λ b. by_test P (any_key v (λ j. is_leaving (at fs j))) (record { entries = fs; spoiled = ss; write = v }) (record { entries = each (begun_over v) fs; spoiled = ss; write = gone_on step (any_key v (λ j. is_some (at fs j))) v })
    (λ d. some_each (let_go_leased v) es k)
    (λ d. some_each (begun_over v) fs k ∙ some_each (let_go_leased v) es k)))
    (λ a. some_each (given_up_over v) es k))
    (λ t. refl)

pass_some : (step : ℕ) (earlier : List Write) (es : Keyed Entry) (ss : Keyed Bool) (ws : List Write) (k : List ℕ) → is_some (at (passed step earlier es ss ws).entries k) ≡ is_some (at es k)
unfolding passed
pass_some step earlier es ss [] k = refl
pass_some step earlier es ss (w ∷ ws) k = let t = turn step earlier es ss w in pass_some step (t.write ∷ earlier) t.entries t.spoiled ws k ∙ turn_some step earlier es ss w k

pub passes_some : (own : Ownership) (k : List ℕ) → is_some (at (proceeded own).entries k) ≡ is_some (at own.entries k)
passes_some own k = pass_some own.waits.step [] own.entries own.waits.spoiled own.waits.writes k

-- a test that lasts where a write comes to wait, or its call is due
pub record Rests (p : Write → Bool) : Type 0 where
  pub waits : (w : Write) → p w ≡ true → p (staged w Waiting) ≡ true
  pub due : (w : Write) (owner : Bool) (step : ℕ) → p w ≡ true → p (gone_on step owner w) ≡ true

turn_rests : (p : Write → Bool) → Rests p → (step : ℕ) (earlier : List Write) (es : Keyed Entry) (ss : Keyed Bool) (w : Write) → p w ≡ true → p (turn step earlier es ss w).write ≡ true
turn_rests p r step earlier es ss w h =
    let v = staged w (stage_on w.stage) in
    let P = λ (t : Turn). p t.write ≡ true in
    let fs = each (let_go_leased v) es in
    let on : p v ≡ true = by_test (λ (s : WriteStage). p (staged w s) ≡ true) (is_found_over w.stage) Waiting w.stage (λ t. r.waits w h) (λ t. h) in
    by_test P (is_free earlier v) (goes step es ss v) (record { entries = es; spoiled = ss; write = v })
    (λ t. by_test P (is_by_keys v) (by_keys step es ss v) (by_ranges step es ss v)
    (λ a. by_test P (any_key v (λ j. is_some (at ss j))) (record { entries = es; spoiled = ss; write = v }) (keys_begun step fs ss v)
    (λ b. on)
    (λ b. by_test P (any_key v (λ j. is_leaving (at fs j))) (record { entries = fs; spoiled = ss; write = v }) (record { entries = each (begun_over v) fs; spoiled = ss; write = gone_on step (any_key v (λ j. is_some (at fs j))) v })
    (λ d. on)
    (λ d. r.due v (any_key v (λ j. is_some (at fs j))) step on)))
    (λ a. by_test (λ (u : Write). p u ≡ true) (any_covered v (each (given_up_over v) es) || any_covered v (each (spoiled_over v) ss)) v (gone_on step false v) (λ b. on) (λ b. r.due v false step on)))
    (λ t. on)

pass_rests : (p : Write → Bool) → Rests p → (step : ℕ) (earlier : List Write) (es : Keyed Entry) (ss : Keyed Bool) (ws : List Write) → list_all p ws ≡ true → list_all p (passed step earlier es ss ws).writes ≡ true
unfolding passed
pass_rests p r step earlier es ss [] h = refl
pass_rests p r step earlier es ss (w ∷ ws) h =
    let t = turn step earlier es ss w in
    and_both (p t.write) (list_all p (passed step (t.write ∷ earlier) t.entries t.spoiled ws).writes) (turn_rests p r step earlier es ss w (and_first (p w) (list_all p ws) h)) (pass_rests p r step (t.write ∷ earlier) t.entries t.spoiled ws (and_second (p w) (list_all p ws) h))

pub passes_rest : (p : Write → Bool) → Rests p → (own : Ownership) → list_all p own.waits.writes ≡ true → list_all p (proceeded own).waits.writes ≡ true
passes_rest p r own h = pass_rests p r own.waits.step [] own.entries own.waits.spoiled own.waits.writes h
