-- What one write's turn does at each key.
use Rattle.std.proofs.Common.{◌≡◌, ℕ, Bool, true, false, not, cond, ◌&&◌, ◌||◌, List, Option, None, Some, is_some, refl, sym, ◌∙◌, ap}
use Rattle.std.specs.List.{list_any, list_all}
use Rattle.proxy_model.specs.declared.lease.Entry.{Entry}
use Rattle.proxy_model.specs.Keyed.{Keyed, at}
use Rattle.std.specs.Option.{option_map}
use Rattle.proxy_model.specs.LeaseTable.{given_up, is_writing}
use Rattle.wait_model.specs.declared.write.Write.{Write}
use Rattle.wait_model.specs.declared.write.WriteStage.{WriteStage}
use Rattle.wait_model.specs.declared.write.WriteStage.TheVariants.{Waiting, Sends, Finds}
use Rattle.wait_model.specs.Covers.{covers, shares, is_by_keys, leased}
use Rattle.wait_model.specs.Edits.{each}
use Rattle.wait_model.specs.Fits.{StageOk, is_held_back}
use Rattle.wait_model.specs.Passes.{goes, turn}
use Rattle.wait_model.specs.Phases.{is_leaving, let_go, begun}
use Rattle.wait_model.specs.SeveralKeys.{given_up_over, spoiled_over, any_covered, ranges_begun, by_ranges}
use Rattle.wait_model.specs.SingleKeys.{Turn, let_go_leased, begun_over, any_key, keys_begun, by_keys}
use Rattle.wait_model.specs.Stages.{is_waiting, is_owner, staged, stage_on, gone_on, is_over}
use Rattle.etcd_types.proofs.Bools.{or_left, or_right, or_first, or_second, and_first, and_both}
use Rattle.wait_model.proofs.Bools.{or_rest}
use Rattle.wait_model.proofs.Tables.{at-each, none_any, some_any}
use Rattle.wait_model.proofs.Covering.{none_key, some_key}
use Rattle.core_laws.proofs.Writes.Phases.{some-mapped, if_at, writing-let_go, leaving-let_go, leaving-begun, writing-given_up, leaving-given_up, left-given_up, some-writing, waiting_owns_nothing}

-- A turn as seen at one key: what stands there before and after, and the stage of the write, which covers the key or doesn't.
pub record TurnAt (c : Bool) (e : Option Entry) (s : Option Bool) (stage : WriteStage) (f : Option Entry) (t : Option Bool) (next : WriteStage) : Type 0 where
  pub entry_away : c ≡ false → f ≡ e
  pub spoiled_away : c ≡ false → t ≡ s
  pub back : is_held_back e s ≡ true → is_held_back f t ≡ true
  pub ok : c ≡ true → StageOk e s stage → StageOk f t next

pub record TurnOk (es : Keyed Entry) (ss : Keyed Bool) (w : Write) (t : Turn) : Type 0 where
  pub ranges : t.write.ranges ≡ w.ranges
  pub at_key : (k : List ℕ) → TurnAt (covers w k) (at es k) (at ss k) w.stage (at t.entries k) (at t.spoiled k) t.write.stage

pub by_test : {A : Type 0} (P : A → Type 0) (b : Bool) (x y : A) → (b ≡ true → P x) → (b ≡ false → P y) → P (cond b x y)
by_test P true x y f g = f refl
by_test P false x y f g = g refl

-- Nothing done.

stays_at : (c : Bool) (e : Option Entry) (s : Option Bool) (stage : WriteStage) → TurnAt c e s stage e s stage
stays_at c e s stage = record { entry_away = λ _. refl; spoiled_away = λ _. refl; back = λ h. h; ok = λ _ h. h }

-- The leased ones let go, and the write waits.

lets_go_at : (c l : Bool) (e : Option Entry) (s : Option Bool) (stage : WriteStage) → TurnAt c e s stage (option_map (if_at (c && l) let_go) e) s stage
lets_go_at c l e s stage = record {
  entry_away = away c e;
  spoiled_away = λ _. refl;
  back = back s e;
  ok = λ _ h. record {
    apart = λ t. some-mapped (if_at (c && l) let_go) e ∙ h.apart t;
    free = h.free;
    writer = λ t. h.writer (sym (writing-let_go (c && l) e) ∙ t);
  };
}
  where
    away : (c : Bool) (e : Option Entry) → c ≡ false → option_map (if_at (c && l) let_go) e ≡ e
    away true e h = absurd (cc)
    away false None h = refl
    away false (Some x) h = refl

    back : (s : Option Bool) (e : Option Entry) → is_held_back e s ≡ true → is_held_back (option_map (if_at (c && l) let_go) e) s ≡ true
    back None e h = leaving-let_go (c && l) e h
    back (Some x) e h = h

-- What is held is written: no acquire is at a key of the write, and where there is an entry it goes on as the owner.

begins_at : (c : Bool) (e : Option Entry) (s : Option Bool) (stage next : WriteStage) → (c ≡ true → is_some s ≡ false) → (c ≡ true → is_some e ≡ true → is_owner next ≡ true) → TurnAt c e s stage (option_map (if_at c begun) e) s next
begins_at c e s stage next n o = record {
  entry_away = away c e;
  spoiled_away = λ _. refl;
  back = back s e;
  ok = λ h _. record {
    apart = λ t. let u = n h in absurd (cc);
    free = λ _. n h;
    writer = λ t. o h (sym (some-mapped (if_at c begun) e) ∙ some-writing _ t);
  };
}
  where
    away : (c : Bool) (e : Option Entry) → c ≡ false → option_map (if_at c begun) e ≡ e
    away true e h = absurd (cc)
    away false None h = refl
    away false (Some x) h = refl

    back : (s : Option Bool) (e : Option Entry) → is_held_back e s ≡ true → is_held_back (option_map (if_at c begun) e) s ≡ true
    back None e h = leaving-begun c e ∙ h
    back (Some x) e h = h

-- All is given up, and the write waits.

gives_up_at : (c : Bool) (e : Option Entry) (s : Option Bool) (stage : WriteStage) → TurnAt c e s stage (option_map (if_at c given_up) e) (option_map (λ x. c || x) s) stage
gives_up_at c e s stage = record {
  entry_away = away c e;
  spoiled_away = spared c s;
  back = back s e;
  ok = λ _ h. record {
    apart = λ t. some-mapped (if_at c given_up) e ∙ h.apart (sym (some-mapped (λ x. c || x) s) ∙ t);
    free = λ t. some-mapped (λ x. c || x) s ∙ h.free t;
    writer = λ t. h.writer (sym (writing-given_up c e) ∙ t);
  };
}
  where
    away : (c : Bool) (e : Option Entry) → c ≡ false → option_map (if_at c given_up) e ≡ e
    away true e h = absurd (cc)
    away false None h = refl
    away false (Some x) h = refl

    spared : (c : Bool) (s : Option Bool) → c ≡ false → option_map (λ x. c || x) s ≡ s
    spared true s h = absurd (cc)
    spared false None h = refl
    spared false (Some x) h = refl

    back : (s : Option Bool) (e : Option Entry) → is_held_back e s ≡ true → is_held_back (option_map (if_at c given_up) e) (option_map (λ x. c || x) s) ≡ true
    back None e h = leaving-given_up c e h
    back (Some x) e h = h

-- Nothing is left, and it goes on.

goes_on_at : (c : Bool) (e : Option Entry) (s : Option Bool) (stage next : WriteStage) → (c ≡ true → is_some e ≡ false) → (c ≡ true → is_some s ≡ false) → TurnAt c e s stage e s next
goes_on_at c e s stage next m n = record {
  entry_away = λ _. refl;
  spoiled_away = λ _. refl;
  back = λ h. h;
  ok = λ h _. record {
    apart = λ t. m h;
    free = λ _. n h;
    writer = λ t. let a = m h in let b = some-writing e t in absurd (cc);
  };
}

-- One after the other.

then_at : (c : Bool) (e f g : Option Entry) (s t u : Option Bool) (a b d : WriteStage) → TurnAt c e s a f t b → TurnAt c f t b g u d → TurnAt c e s a g u d
then_at c e f g s t u a b d x y = record {
  entry_away = λ h. y.entry_away h ∙ x.entry_away h;
  spoiled_away = λ h. y.spoiled_away h ∙ x.spoiled_away h;
  back = λ h. y.back (x.back h);
  ok = λ h o. y.ok h (x.ok h o);
}

-- The turns.

keys_begun_ok : (step : ℕ) (es : Keyed Entry) (ss : Keyed Bool) (w : Write) → is_by_keys w ≡ true → any_key w (λ k. is_some (at ss k)) ≡ false → TurnOk es ss w (keys_begun step es ss w)
keys_begun_ok step es ss w a n =
    by_test (TurnOk es ss w) (any_key w (λ k. is_leaving (at es k))) (record { entries = es; spoiled = ss; write = w }) (record { entries = each (begun_over w) es; spoiled = ss; write = gone_on step (any_key w (λ k. is_some (at es k))) w })
    (λ _. record { ranges = refl; at_key = λ k. stays_at (covers w k) (at es k) (at ss k) w.stage })
    (λ _. record { ranges = refl; at_key = λ k. rw (at-each (begun_over w) es k) (begins_at (covers w k) (at es k) (at ss k) w.stage _ (none_key (λ j. is_some (at ss j)) w.ranges k a n) (some k)) })
  where
    some : (k : List ℕ) → covers w k ≡ true → is_some (at es k) ≡ true → any_key w (λ j. is_some (at es j)) ≡ true
    some k c h = by_none (any_key w (λ j. is_some (at es j))) (is_some (at es k)) (λ t. none_key (λ j. is_some (at es j)) w.ranges k a t c) h
      where
        by_none : (b d : Bool) → (b ≡ false → d ≡ false) → d ≡ true → b ≡ true
        by_none true d f h = refl
        by_none false d f h = let g = f refl in absurd (cc)

by_keys_ok : (step : ℕ) (es : Keyed Entry) (ss : Keyed Bool) (w : Write) → is_by_keys w ≡ true → TurnOk es ss w (by_keys step es ss w)
by_keys_ok step es ss w a =
    by_test (TurnOk es ss w) (any_key w (λ k. is_some (at ss k))) (record { entries = es; spoiled = ss; write = w }) (keys_begun step (each (let_go_leased w) es) ss w)
    (λ _. record { ranges = refl; at_key = λ k. stays_at (covers w k) (at es k) (at ss k) w.stage })
    (λ n. let t = keys_begun step (each (let_go_leased w) es) ss w in
    let h = keys_begun_ok step (each (let_go_leased w) es) ss w a n in
    record {
      ranges = h.ranges;
      at_key = λ k. then_at (covers w k) (at es k) (at (each (let_go_leased w) es) k) (at t.entries k) (at ss k) (at ss k) (at t.spoiled k) w.stage w.stage t.write.stage (rw (at-each (let_go_leased w) es k) (lets_go_at (covers w k) (leased w.request k) (at es k) (at ss k) w.stage)) (h.at_key k);
    })

ranges_begun_ok : (step : ℕ) (es : Keyed Entry) (ss : Keyed Bool) (w : Write) → TurnOk es ss w (ranges_begun step es ss w)
ranges_begun_ok step es ss w =
    by_test (λ v. TurnOk es ss w (record { entries = es; spoiled = ss; write = v })) (any_covered w es || any_covered w ss) w (gone_on step false w)
    (λ _. record { ranges = refl; at_key = λ k. stays_at (covers w k) (at es k) (at ss k) w.stage })
    (λ n. record { ranges = refl; at_key = λ k. goes_on_at (covers w k) (at es k) (at ss k) w.stage _ (none_any (covers w) es k (or_first _ _ n)) (none_any (covers w) ss k (or_second (any_covered w es) _ n)) })

by_ranges_ok : (step : ℕ) (es : Keyed Entry) (ss : Keyed Bool) (w : Write) → TurnOk es ss w (by_ranges step es ss w)
by_ranges_ok step es ss w =
    let fs = each (given_up_over w) es in
    let ts = each (spoiled_over w) ss in
    let t = ranges_begun step fs ts w in
    let h = ranges_begun_ok step fs ts w in
    record {
      ranges = h.ranges;
      at_key = λ k. then_at (covers w k) (at es k) (at fs k) (at t.entries k) (at ss k) (at ts k) (at t.spoiled k) w.stage w.stage t.write.stage (rw (at-each (given_up_over w) es k, at-each (spoiled_over w) ss k) (gives_up_at (covers w k) (at es k) (at ss k) w.stage)) (h.at_key k);
    }

goes_ok : (step : ℕ) (es : Keyed Entry) (ss : Keyed Bool) (w : Write) → TurnOk es ss w (goes step es ss w)
goes_ok step es ss w =
    by_test (TurnOk es ss w) (is_by_keys w) (by_keys step es ss w) (by_ranges step es ss w) (λ a. by_keys_ok step es ss w a) (λ _. by_ranges_ok step es ss w)

-- A write whose found owners are gone waits again.

pub waiting-stage_on : (s : WriteStage) → is_waiting s ≡ true → is_waiting (stage_on s) ≡ true
waiting-stage_on Waiting h = refl
waiting-stage_on (Sends owner s) h = h
waiting-stage_on (Finds found) h = absurd (cc)

pub active-stage_on : (s : WriteStage) → is_waiting (stage_on s) ≡ false → is_waiting s ≡ false
active-stage_on Waiting h = h
active-stage_on (Sends owner s) h = h
active-stage_on (Finds found) h = refl

pub owner-stage_on : (s : WriteStage) → is_owner (stage_on s) ≡ is_owner s
owner-stage_on Waiting = refl
owner-stage_on (Sends owner s) = refl
owner-stage_on (Finds found) = either (list_all is_over found)
  where
    either : (b : Bool) → is_owner (cond b Waiting (Finds found)) ≡ false
    either true = refl
    either false = refl

restages_at : (c : Bool) (e : Option Entry) (s : Option Bool) (stage : WriteStage) → TurnAt c e s stage e s (stage_on stage)
restages_at c e s stage = record {
  entry_away = λ _. refl;
  spoiled_away = λ _. refl;
  back = λ h. h;
  ok = λ _ h. record {
    apart = h.apart;
    free = λ t. h.free (active-stage_on stage t);
    writer = λ t. owner-stage_on stage ∙ h.writer t;
  };
}

-- the write may have its turn
abbrev pub is_free : List Write → Write → Bool
is_free earlier w = is_waiting w.stage && not (list_any (shares w) earlier)

pub turn_ok : (step : ℕ) (earlier : List Write) (es : Keyed Entry) (ss : Keyed Bool) (w : Write) → TurnOk es ss w (turn step earlier es ss w)
turn_ok step earlier es ss w =
    let v = staged w (stage_on w.stage) in
    by_test (TurnOk es ss w) (is_free earlier v) (goes step es ss v) (record { entries = es; spoiled = ss; write = v })
    (λ _. let h = goes_ok step es ss v in let t = goes step es ss v in
    record {
      ranges = h.ranges;
      at_key = λ k. then_at (covers w k) (at es k) (at es k) (at t.entries k) (at ss k) (at ss k) (at t.spoiled k) w.stage v.stage t.write.stage (restages_at (covers w k) (at es k) (at ss k) w.stage) (h.at_key k);
    })
    (λ _. record { ranges = refl; at_key = λ k. restages_at (covers w k) (at es k) (at ss k) w.stage })

-- A write that an earlier one holds back leaves all as it is.
pub blocked_turn : (step : ℕ) (earlier : List Write) (es : Keyed Entry) (ss : Keyed Bool) (w : Write) → list_any (shares w) earlier ≡ true → turn step earlier es ss w ≡ record { entries = es; spoiled = ss; write = staged w (stage_on w.stage) }
blocked_turn step earlier es ss w b =
    let v = staged w (stage_on w.stage) in
    ap (λ (t : Bool). cond (is_waiting v.stage && not t) (goes step es ss v) (record { entries = es; spoiled = ss; write = v })) b ∙ never (is_waiting v.stage)
  where
    never : (a : Bool) → cond (a && false) (goes step es ss (staged w (stage_on w.stage))) (record { entries = es; spoiled = ss; write = staged w (stage_on w.stage) }) ≡ record { entries = es; spoiled = ss; write = staged w (stage_on w.stage) }
    never true = refl
    never false = refl

-- What a write waits for, that no earlier one holds back.

abbrev pub Cause : Turn → Type 0
Cause t = is_waiting t.write.stage ≡ true → (k : List ℕ) × (covers t.write k ≡ true) × (is_held_back (at t.entries k) (at t.spoiled k) ≡ true)

keys_begun_cause : (step : ℕ) (es : Keyed Entry) (ss : Keyed Bool) (w : Write) → is_by_keys w ≡ true → Cause (keys_begun step es ss w)
keys_begun_cause step es ss w a =
    by_test Cause (any_key w (λ k. is_leaving (at es k))) (record { entries = es; spoiled = ss; write = w }) (record { entries = each (begun_over w) es; spoiled = ss; write = gone_on step (any_key w (λ k. is_some (at es k))) w })
    (λ l h. let f = some_key (λ k. is_leaving (at es k)) w.ranges a l in (f.0, f.1, or_right (is_some (at ss f.0)) (is_leaving (at es f.0)) f.2))
    (λ _ h. absurd (cc))

by_keys_cause : (step : ℕ) (es : Keyed Entry) (ss : Keyed Bool) (w : Write) → is_by_keys w ≡ true → Cause (by_keys step es ss w)
by_keys_cause step es ss w a =
    by_test Cause (any_key w (λ k. is_some (at ss k))) (record { entries = es; spoiled = ss; write = w }) (keys_begun step (each (let_go_leased w) es) ss w)
    (λ l h. let f = some_key (λ k. is_some (at ss k)) w.ranges a l in (f.0, f.1, or_left (is_some (at ss f.0)) (is_leaving (at es f.0)) f.2))
    (λ _. keys_begun_cause step (each (let_go_leased w) es) ss w a)

by_ranges_cause : (step : ℕ) (es : Keyed Entry) (ss : Keyed Bool) (w : Write) → ((k : List ℕ) → covers w k ≡ true → is_writing (at es k) ≡ false) → Cause (by_ranges step es ss w)
by_ranges_cause step es ss w u =
    let fs = each (given_up_over w) es in
    let ts = each (spoiled_over w) ss in
    by_test (λ v. Cause (record { entries = fs; spoiled = ts; write = v })) (any_covered w fs || any_covered w ts) w (gone_on step false w)
    (λ o h. or_cause o)
    (λ _ h. absurd (cc))
  where
    left : (k : List ℕ) → covers w k ≡ true → is_some (at (each (given_up_over w) es) k) ≡ true → is_leaving (at (each (given_up_over w) es) k) ≡ true
    left k c h =
        let e = at es k in
        let s = sym (some-mapped (given_up_over w k) e) ∙ ap is_some (sym (at-each (given_up_over w) es k)) ∙ h in
        ap is_leaving (at-each (given_up_over w) es k) ∙ ap (λ (b : Bool). is_leaving (option_map (if_at b given_up) e)) c ∙ left-given_up e s (u k c)

    or_cause : any_covered w (each (given_up_over w) es) || any_covered w (each (spoiled_over w) ss) ≡ true → (k : List ℕ) × (covers w k ≡ true) × (is_held_back (at (each (given_up_over w) es) k) (at (each (spoiled_over w) ss) k) ≡ true)
    or_cause o =
        elim (any_covered w (each (given_up_over w) es)) as (λ b. any_covered w (each (given_up_over w) es) ≡ b → (k : List ℕ) × (covers w k ≡ true) × (is_held_back (at (each (given_up_over w) es) k) (at (each (spoiled_over w) ss) k) ≡ true)) [
          | true ↦ λ t. let f = some_any (covers w) (each (given_up_over w) es) t in (f.0, f.1, or_right (is_some (at (each (spoiled_over w) ss) f.0)) (is_leaving (at (each (given_up_over w) es) f.0)) (left f.0 f.1 f.2))
          | false ↦ λ t. let f = some_any (covers w) (each (spoiled_over w) ss) (or_rest (any_covered w (each (given_up_over w) es)) (any_covered w (each (spoiled_over w) ss)) t o) in (f.0, f.1, or_left (is_some (at (each (spoiled_over w) ss) f.0)) (is_leaving (at (each (given_up_over w) es) f.0)) f.2)
        ] refl

pub turn_cause : (step : ℕ) (earlier : List Write) (es : Keyed Entry) (ss : Keyed Bool) (w : Write) → list_any (shares w) earlier ≡ false → ((k : List ℕ) → covers w k ≡ true → StageOk (at es k) (at ss k) w.stage) → Cause (turn step earlier es ss w)
turn_cause step earlier es ss w b u =
    let v = staged w (stage_on w.stage) in
    by_test Cause (is_free earlier v) (goes step es ss v) (record { entries = es; spoiled = ss; write = v })
    (λ f. by_test Cause (is_by_keys v) (by_keys step es ss v) (by_ranges step es ss v)
    (λ a. by_keys_cause step es ss v a)
    (λ _. by_ranges_cause step es ss v (λ k c. unwritten (and_first (is_waiting v.stage) _ f) (at es k) (at ss k) (u k c))))
    (λ f h. absurd (let q = and_both (is_waiting v.stage) (not (list_any (shares w) earlier)) h (ap not b) in cc))
  where
    unwritten : is_waiting (stage_on w.stage) ≡ true → (e : Option Entry) (s : Option Bool) → StageOk e s w.stage → is_writing e ≡ false
    unwritten f e s o = none (is_writing e) (is_owner w.stage) o.writer (sym (owner-stage_on w.stage) ∙ waiting_owns_nothing (stage_on w.stage) f)
      where
        none : (a b : Bool) → (a ≡ true → b ≡ true) → b ≡ false → a ≡ false
        none true b g h = let t = g refl in absurd (cc)
        none false b g h = refl
