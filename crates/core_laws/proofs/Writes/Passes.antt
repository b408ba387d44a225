-- One pass over the writes: what holds of each key is kept, and each write that waits has a cause.
use Rattle.std.proofs.Common.{◌≡◌, ℕ, Bool, true, false, cond, ◌&&◌, List, [], ◌∷◌, Option, refl, sym, ◌∙◌, ap, subst}
use Rattle.std.specs.List.{list_any}
use Rattle.etcd_types.specs.declared.key_range.KeyRange.{KeyRange}
use Rattle.proxy_model.specs.declared.lease.Entry.{Entry}
use Rattle.proxy_model.specs.Keyed.{Keyed, at}
use Rattle.wait_model.specs.declared.write.Write.{Write}
use Rattle.wait_model.specs.declared.write.WriteStage.{WriteStage}
use Rattle.wait_model.specs.Covers.{covered, covers, meets, shares}
use Rattle.wait_model.specs.Fits.{is_quiet, only_first, stage_over, StageOk, KeyOk, is_held_back, AllHaveCause}
use Rattle.wait_model.specs.Passes.{turn, Pass, passed}
use Rattle.core_laws.specs.Writes.Laws.{KeepsKeys, Settles}
use Rattle.wait_model.specs.Stages.{is_waiting}
use Rattle.etcd_types.proofs.Bools.{or_left, or_right, or_first, or_second, and_first, and_second, and_both}
use Rattle.wait_model.proofs.Covering.{some_shared, none_shared}
use Rattle.core_laws.proofs.Writes.Turns.{turn_ok, blocked_turn, turn_cause, waiting-stage_on}

-- some write of the list covers the key
abbrev pub any_over : List ℕ → List Write → Bool
any_over k vs = list_any (λ v. covers v k) vs

pub cond_true : {A : Type 0} (b : Bool) (x y : A) → b ≡ true → cond b x y ≡ x
cond_true true x y e = refl
cond_true false x y e = absurd (cc)

pub cond_false : {A : Type 0} (b : Bool) (x y : A) → b ≡ false → cond b x y ≡ y
cond_false true x y e = absurd (cc)
cond_false false x y e = refl

-- What holds of a key over a list, by whether the first of it covers the key.

pub key_first : (e : Option Entry) (s : Option Bool) (w : Write) (ws : List Write) (k : List ℕ) → covers w k ≡ true → KeyOk e s (w ∷ ws) k → (is_quiet k ws ≡ true) × StageOk e s w.stage
key_first e s w ws k c h =
    (sym (cond_true (covers w k) (is_quiet k ws) (only_first k ws) c) ∙ h.only, subst (StageOk e s) (cond_true (covers w k) w.stage (stage_over k ws) c) h.ok)

pub key_later : (e : Option Entry) (s : Option Bool) (w : Write) (ws : List Write) (k : List ℕ) → covers w k ≡ false → KeyOk e s (w ∷ ws) k → KeyOk e s ws k
key_later e s w ws k c h = record {
  only = sym (cond_false (covers w k) (is_quiet k ws) (only_first k ws) c) ∙ h.only;
  ok = subst (StageOk e s) (cond_false (covers w k) w.stage (stage_over k ws) c) h.ok;
}

pub first_key : (e : Option Entry) (s : Option Bool) (w : Write) (ws : List Write) (k : List ℕ) → covers w k ≡ true → is_quiet k ws ≡ true → StageOk e s w.stage → KeyOk e s (w ∷ ws) k
first_key e s w ws k c q h = record {
  only = cond_true (covers w k) (is_quiet k ws) (only_first k ws) c ∙ q;
  ok = subst (StageOk e s) (sym (cond_true (covers w k) w.stage (stage_over k ws) c)) h;
}

pub later_key : (e : Option Entry) (s : Option Bool) (w : Write) (ws : List Write) (k : List ℕ) → covers w k ≡ false → KeyOk e s ws k → KeyOk e s (w ∷ ws) k
later_key e s w ws k c h = record {
  only = cond_false (covers w k) (is_quiet k ws) (only_first k ws) c ∙ h.only;
  ok = subst (StageOk e s) (sym (cond_false (covers w k) w.stage (stage_over k ws) c)) h.ok;
}

-- what stands there being the same
pub moved_key : (e f : Option Entry) (s t : Option Bool) (ws : List Write) (k : List ℕ) → f ≡ e → t ≡ s → KeyOk e s ws k → KeyOk f t ws k
moved_key e f s t ws k p q h = subst (λ (x : Option Entry). KeyOk x t ws k) (sym p) (subst (λ (y : Option Bool). KeyOk e y ws k) (sym q) h)

pub same_cover : (v w : Write) (k : List ℕ) → v.ranges ≡ w.ranges → covers v k ≡ covers w k
same_cover v w k r = ap (λ (rs : List KeyRange). covered rs k) r

-- what holds a write back at a key does so after the pass
pass_back : (step : ℕ) (earlier : List Write) (es : Keyed Entry) (ss : Keyed Bool) (ws : List Write) (k : List ℕ) → is_held_back (at es k) (at ss k) ≡ true → is_held_back (at (passed step earlier es ss ws).entries k) (at (passed step earlier es ss ws).spoiled k) ≡ true
unfolding passed
pass_back step earlier es ss [] k h = h
pass_back step earlier es ss (w ∷ ws) k h =
    let t = turn step earlier es ss w in
    pass_back step (t.write ∷ earlier) t.entries t.spoiled ws k (((turn_ok step earlier es ss w).at_key k).back h)

-- What a pass leaves at a key that an earlier write covers, and whose later writes aren't active.

pub record Left (e : Option Entry) (s : Option Bool) (p : Pass) (k : List ℕ) : Type 0 where
  pub entry : at p.entries k ≡ e
  pub spoiled : at p.spoiled k ≡ s
  pub quiet : is_quiet k p.writes ≡ true

pub quiet_first : (w : Write) (ws : List Write) (k : List ℕ) → covers w k ≡ true → is_quiet k (w ∷ ws) ≡ true → (is_waiting w.stage ≡ true) × (is_quiet k ws ≡ true)
quiet_first w ws k c q =
    let b = sym (cond_true (covers w k) (is_waiting w.stage && is_quiet k ws) (is_quiet k ws) c) ∙ q in
    (and_first (is_waiting w.stage) (is_quiet k ws) b, and_second (is_waiting w.stage) (is_quiet k ws) b)

pub quiet_later : (w : Write) (ws : List Write) (k : List ℕ) → covers w k ≡ false → is_quiet k (w ∷ ws) ≡ true → is_quiet k ws ≡ true
quiet_later w ws k c q = sym (cond_false (covers w k) (is_waiting w.stage && is_quiet k ws) (is_quiet k ws) c) ∙ q

pub first_quiet : (w : Write) (ws : List Write) (k : List ℕ) → covers w k ≡ true → is_waiting w.stage ≡ true → is_quiet k ws ≡ true → is_quiet k (w ∷ ws) ≡ true
first_quiet w ws k c a q = cond_true (covers w k) (is_waiting w.stage && is_quiet k ws) (is_quiet k ws) c ∙ and_both (is_waiting w.stage) (is_quiet k ws) a q

pub later_quiet : (w : Write) (ws : List Write) (k : List ℕ) → covers w k ≡ false → is_quiet k ws ≡ true → is_quiet k (w ∷ ws) ≡ true
later_quiet w ws k c q = cond_false (covers w k) (is_waiting w.stage && is_quiet k ws) (is_quiet k ws) c ∙ q

pub covered_pass : (step : ℕ) (earlier : List Write) (es : Keyed Entry) (ss : Keyed Bool) (ws : List Write) (k : List ℕ) → any_over k earlier ≡ true → is_quiet k ws ≡ true → Left (at es k) (at ss k) (passed step earlier es ss ws) k
unfolding passed
covered_pass step earlier es ss [] k o q = record { entry = refl; spoiled = refl; quiet = refl }
covered_pass step earlier es ss (w ∷ ws) k o q =
    let t = turn step earlier es ss w in
    let a = turn_ok step earlier es ss w in
    let x = a.at_key k in
    let p = passed step (t.write ∷ earlier) t.entries t.spoiled ws in
    let go : is_quiet k ws ≡ true → Left (at t.entries k) (at t.spoiled k) (passed step (t.write ∷ earlier) t.entries t.spoiled ws) k = covered_pass step (t.write ∷ earlier) t.entries t.spoiled ws k (or_right (covers t.write k) (any_over k earlier) o) in
    elim (covers w k) as (λ b. covers w k ≡ b → Left (at es k) (at ss k) (passed step earlier es ss (w ∷ ws)) k) [
      | true ↦ λ c.
          let f = quiet_first w ws k c q in
          let h = go f.1 in
          let b = blocked_turn step earlier es ss w (some_shared w earlier k o c) in
          record {
            entry = h.entry ∙ ap (λ u. at u.entries k) b;
            spoiled = h.spoiled ∙ ap (λ u. at u.spoiled k) b;
            quiet = first_quiet t.write p.writes k (same_cover t.write w k a.ranges ∙ c) (ap (λ u. is_waiting u.write.stage) b ∙ waiting-stage_on w.stage f.0) h.quiet;
          }
      | false ↦ λ c.
          let h = go (quiet_later w ws k c q) in
          record {
            entry = h.entry ∙ x.entry_away c;
            spoiled = h.spoiled ∙ x.spoiled_away c;
            quiet = later_quiet t.write p.writes k (same_cover t.write w k a.ranges ∙ c) h.quiet;
          }
    ] refl

pass_key : (step : ℕ) (earlier : List Write) (es : Keyed Entry) (ss : Keyed Bool) (ws : List Write) (k : List ℕ) → KeyOk (at es k) (at ss k) ws k → KeyOk (at (passed step earlier es ss ws).entries k) (at (passed step earlier es ss ws).spoiled k) (passed step earlier es ss ws).writes k
unfolding passed
pass_key step earlier es ss [] k h = h
pass_key step earlier es ss (w ∷ ws) k h =
    let t = turn step earlier es ss w in
    let p = passed step (t.write ∷ earlier) t.entries t.spoiled ws in
    let a = turn_ok step earlier es ss w in
    let x = a.at_key k in
    elim (covers w k) as (λ b. covers w k ≡ b → KeyOk (at p.entries k) (at p.spoiled k) (t.write ∷ p.writes) k) [
      | true ↦ λ c.
          let f = key_first (at es k) (at ss k) w ws k c h in
          let d = same_cover t.write w k a.ranges ∙ c in
          let l = covered_pass step (t.write ∷ earlier) t.entries t.spoiled ws k (or_left (covers t.write k) (any_over k earlier) d) f.0 in
          first_key (at p.entries k) (at p.spoiled k) t.write p.writes k d l.quiet (moved (at t.entries k) (at p.entries k) (at t.spoiled k) (at p.spoiled k) t.write.stage l.entry l.spoiled (x.ok c f.1))
      | false ↦ λ c.
          later_key (at p.entries k) (at p.spoiled k) t.write p.writes k (same_cover t.write w k a.ranges ∙ c) (pass_key step (t.write ∷ earlier) t.entries t.spoiled ws k (moved_key (at es k) (at t.entries k) (at ss k) (at t.spoiled k) ws k (x.entry_away c) (x.spoiled_away c) (key_later (at es k) (at ss k) w ws k c h)))
    ] refl
  where
    moved : (e f : Option Entry) (s t : Option Bool) (stage : WriteStage) → f ≡ e → t ≡ s → StageOk e s stage → StageOk f t stage
    moved e f s t stage p q h = subst (λ (x : Option Entry). StageOk x t stage) (sym p) (subst (λ (y : Option Bool). StageOk e y stage) (sym q) h)

pub keeps_keys : KeepsKeys
keeps_keys own h k = pass_key own.waits.step [] own.entries own.waits.spoiled own.waits.writes k (h k)

-- Each write that waits after the pass, and that no earlier one holds back, has a cause.

any_shared : (v w : Write) (earlier : List Write) → v.ranges ≡ w.ranges → list_any (shares v) earlier ≡ list_any (shares w) earlier
any_shared v w earlier r = ap (λ (rs : List KeyRange). list_any (λ (u : Write). list_any (meets rs) u.ranges) earlier) r

-- what holds of the keys that no earlier write covers
abbrev pub FreeOk : List Write → Keyed Entry → Keyed Bool → List Write → Type 0
FreeOk earlier es ss ws = (k : List ℕ) → any_over k earlier ≡ false → KeyOk (at es k) (at ss k) ws k

pass_settles : (step : ℕ) (earlier : List Write) (es : Keyed Entry) (ss : Keyed Bool) (ws : List Write) → FreeOk earlier es ss ws → AllHaveCause earlier (passed step earlier es ss ws).entries (passed step earlier es ss ws).spoiled (passed step earlier es ss ws).writes
unfolding passed
pass_settles step earlier es ss [] h = tt
pass_settles step earlier es ss (w ∷ ws) h =
    let t = turn step earlier es ss w in
    let p = passed step (t.write ∷ earlier) t.entries t.spoiled ws in
    let a = turn_ok step earlier es ss w in (
      λ i b.
          let n = sym (any_shared t.write w earlier a.ranges) ∙ b in
          let f = turn_cause step earlier es ss w n (λ k c. (key_first (at es k) (at ss k) w ws k c (h k (none_shared w earlier k n c))).1) i in
          (f.0, f.1, pass_back step (t.write ∷ earlier) t.entries t.spoiled ws f.0 f.2),
      pass_settles step (t.write ∷ earlier) t.entries t.spoiled ws (λ k n. free k n),
    )
  where
    free : (k : List ℕ) → any_over k ((turn step earlier es ss w).write ∷ earlier) ≡ false → KeyOk (at (turn step earlier es ss w).entries k) (at (turn step earlier es ss w).spoiled k) ws k
    free k n =
        let t = turn step earlier es ss w in
        let a = turn_ok step earlier es ss w in
        let x = a.at_key k in
        let c = sym (same_cover t.write w k a.ranges) ∙ or_first (covers t.write k) (any_over k earlier) n in
        moved_key (at es k) (at t.entries k) (at ss k) (at t.spoiled k) ws k (x.entry_away c) (x.spoiled_away c) (key_later (at es k) (at ss k) w ws k c (h k (or_second (covers t.write k) (any_over k earlier) n)))

pub settles : Settles
settles own h = pass_settles own.waits.step [] own.entries own.waits.spoiled own.waits.writes (λ k n. h k)
