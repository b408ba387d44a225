-- What stands at one key of a proxy's ownership, as writes and entries go on: while no write is over the key and no revoking word comes for
-- it, an acquire of it stays unspoiled, and a held entry stays as it is.
use Rattle.std.proofs.Common.{◌≡◌, ◌⊎◌, inl, inr, ℕ, ◌+◌, ◌==◌, Bool, true, false, cond, not, ◌&&◌, ◌||◌, List, [], ◌∷◌, ◌++◌, append-nil, map, Option, None, Some, is_some, refl, sym, ◌∙◌, ap, subst}
use Rattle.std.specs.List.{list_all, list_any}
use Rattle.std.specs.Option.{option_map}
use Rattle.etcd_types.specs.declared.answer.Answer.{Answer}
use Rattle.etcd_types.specs.declared.answer.Answer.TheVariants as answer
use Rattle.etcd_types.specs.declared.key_range.KeyRange.{KeyRange}
use Rattle.etcd_types.specs.declared.request.Request.{Request}
use Rattle.etcd_types.specs.declared.watch.Event.{Event}
use Rattle.etcd_types.specs.declared.watch.Change.{Change}
use Rattle.etcd_types.specs.declared.watch.Change.TheVariants as change
use Rattle.etcd_types.specs.Keys.{same, is_zero, up_to, before}
use Rattle.etcd_types.specs.Ranges.{is_one, contains, overlaps}
use Rattle.etcd_types.proofs.Bools.{and_first, and_second}
use Rattle.etcd_types.proofs.KeyOrder.{same-equal}
use Rattle.etcd_types.proofs.Overlaps.{overlap_in_a_key}
use Rattle.proxy_model.specs.declared.lease.Entry.{Entry}
use Rattle.proxy_model.specs.declared.ownership.Owner.{Owner}
use Rattle.proxy_model.specs.declared.ownership.Written.{Written}
use Rattle.proxy_model.specs.declared.ownership.Written.TheVariants.{Wrote, Blocked}
use Rattle.proxy_model.specs.Foreign.{revoke_word}
use Rattle.proxy_model.specs.Guarded.{written}
use Rattle.proxy_model.specs.Keyed.{Keyed, at, with_at, changed_at}
use Rattle.proxy_model.specs.LeaseTable.{given_up, is_writing, is_writing_phase}
use Rattle.proxy_model.specs.SeveralKeys.{written_ranges}
use Rattle.proxy_model.specs.Leaving.{guard_held}
use Rattle.proxy_model.proofs.KeyedLaws.{at-with_at}
use Rattle.wait_model.specs.declared.sending.Sending.TheVariants as sending
use Rattle.wait_model.specs.declared.write.Write.{Write}
use Rattle.wait_model.specs.declared.write.WriteStage.{WriteStage}
use Rattle.wait_model.specs.declared.write.WriteStage.TheVariants.{Waiting, Sends, Finds}
use Rattle.wait_model.specs.declared.wait.WaitJob.{WaitJob}
use Rattle.wait_model.specs.declared.wait.WaitJob.TheVariants as job
use Rattle.wait_model.specs.declared.due.DueCall.{DueCall}
use Rattle.wait_model.specs.Asked.{new_write, submitted, acquire_spoiled}
use Rattle.wait_model.specs.Covers.{covers, covered, shares, meets, is_by_keys, is_single, leased}
use Rattle.wait_model.specs.DueOrder.{first_call, first_rescind}
use Rattle.wait_model.specs.Edits.{each, without}
use Rattle.wait_model.specs.declared.wait.WaitCall.{WaitCall}
use Rattle.wait_model.specs.Endings.{given_back, revoke_back, revoke_answered, answered_job, without_out, answered, lost_job, lost, forgotten_by, forgotten}
use Rattle.wait_model.specs.ForeignOwnership.{by_key, is_own, owned_left, found_of, finding, stage_asked, stage_gone, found_gone}
use Rattle.wait_model.specs.GuardedAnswers.{left_entries, Ending, ended_by, staged_by, owns, owns_at, change_owned, kept_entries, is_shown, is_gone, unwrote_entries, other_owners, failed, done_if, write_answered, write_lost}
use Rattle.wait_model.specs.Leaving.{rescinded, if_read, rescind_answered}
use Rattle.wait_model.specs.LeasingStream.{resynced, all_given_up}
use Rattle.wait_model.specs.Notices.{revoked_turn, put_noticed, deleted_phase, deleted_turn, owned_key, noticed, all_noticed}
use Rattle.wait_model.specs.Passes.{goes, turn, Pass, passed, proceeded}
use Rattle.wait_model.specs.Phases.{own_entry, is_of, begun, let_go, is_leaving, phase_begun, rescind_sent}
use Rattle.wait_model.specs.SessionEnd.{stage_ended, session_ended}
use Rattle.wait_model.specs.SeveralKeys.{any_covered, given_up_over, spoiled_over, by_ranges}
use Rattle.wait_model.specs.Sent.{JobSent, stage_revoking, stage_sent, revoke_job, write_job, is_revoke, call_of, call_sent, job_sent_after, job_sent}
use Rattle.wait_model.specs.SingleKeys.{Turn, let_go_leased, begun_over, any_key, keys_begun, by_keys}
use Rattle.wait_model.specs.Stages.{staged, gone_on, is_waiting, is_owner, is_due, stage_on}
use Rattle.wait_model.specs.State.{Ownership}
use Rattle.wait_model.specs.Writes.{first_by, with_first, without_first, stage_sends, sends, stage_asks, asks, has_ticket, job_of}
use Rattle.wait_model.proofs.Tables.{at-each, at-without}
use Rattle.core_laws.proofs.Writes.Kept.{first_passes}
use Rattle.core_laws.proofs.Steps.Lists.{same_number}
use Rattle.owned_laws.specs.OwnWrites.{OwnWrite}
use Rattle.owned_laws.specs.Watched.{NoneOver, Spares, AllSpare}
use Rattle.owned_laws.proofs.Modes.{IsAlone, Went, waits, is_to_go, is_out, Mine, StageIs, IsMine, is_begun, any_begun, first_waits, AllAlone, waits_as, behind_as, first_as, is_unsent, IsThere, ThereOf, MayBegin, Mode}

first_of : {A : Type 0} (P : A → Type 0) (b : Bool) (x y : A) → b ≡ true → P x → P (cond b x y)
first_of P true x y e h = h
first_of P false x y e h = absurd (cc)

either : {A : Type 0} (P : A → Type 0) (b : Bool) (x y : A) → P x → P y → P (cond b x y)
either P true x y h i = h
either P false x y h i = i

or_none : (a b : Bool) → a || b ≡ false → (a ≡ false) × (b ≡ false)
or_none true b h = absurd (cc)
or_none false b h = (refl, h)

both_none : (a b : Bool) → a ≡ false → b ≡ false → a || b ≡ false
both_none true b h i = h
both_none false b h i = i

and_false : (b : Bool) → b && false ≡ false
and_false true = refl
and_false false = refl

or_left : (a b : Bool) → a ≡ true → a || b ≡ true
or_left true b e = refl
or_left false b e = absurd (cc)

or_right : (a b : Bool) → b ≡ true → a || b ≡ true
or_right true b e = refl
or_right false b e = e

or_off : (b : Bool) → b || false ≡ b
or_off true = refl
or_off false = refl

-- at another key
pub at_other : {A : Type 0} (k j : List ℕ) (o : Option A) (xs : Keyed A) → same j k ≡ false → at (with_at xs j o) k ≡ at xs k
at_other k j o xs n = at-with_at xs j k o ∙ ap (λ (b : Bool). cond b o (at xs k)) n

-- ---- writes, none of which is over the key

module _ (k : List ℕ) where
  none_append : (ws vs : List Write) → NoneOver k ws → NoneOver k vs → NoneOver k (ws ++ vs)
  none_append [] vs h i = i
  none_append (w ∷ ws) vs h i = let p = or_none (covers w k) (list_any (λ w. covers w k) ws) h in both_none (covers w k) (list_any (λ w. covers w k) (ws ++ vs)) p.0 (none_append ws vs p.1 i)

  none_first : (p : Write → Bool) (s : WriteStage) (ws : List Write) → NoneOver k ws → NoneOver k (with_first p s ws)
  none_first p s [] h = h
  none_first p s (w ∷ ws) h =
      let q = or_none (covers w k) (list_any (λ w. covers w k) ws) h in
      either (NoneOver k) (p w) (staged w s ∷ ws) (w ∷ with_first p s ws) h (both_none (covers w k) (list_any (λ w. covers w k) (with_first p s ws)) q.0 (none_first p s ws q.1))

  none_rest : (p : Write → Bool) (ws : List Write) → NoneOver k ws → NoneOver k (without_first p ws)
  none_rest p [] h = h
  none_rest p (w ∷ ws) h =
      let q = or_none (covers w k) (list_any (λ w. covers w k) ws) h in
      either (NoneOver k) (p w) ws (w ∷ without_first p ws) q.1 (both_none (covers w k) (list_any (λ w. covers w k) (without_first p ws)) q.0 (none_rest p ws q.1))

  none_each : (g : Write → WriteStage) (ws : List Write) → NoneOver k ws → NoneOver k (map (λ w. staged w (g w)) ws)
  none_each g [] h = h
  none_each g (w ∷ ws) h = let q = or_none (covers w k) (list_any (λ w. covers w k) ws) h in both_none (covers w k) (list_any (λ w. covers w k) (map (λ w. staged w (g w)) ws)) q.0 (none_each g ws q.1)

-- ---- writes, those over the key being the owner's own

no_true : {A : Type 0} → false ≡ true → A
no_true e = absurd (cc)

some_write : (x y : Write) → Some x ≡ Some y → x ≡ y
some_write x y e = cc

-- at each stage of one of them

stays_on : (w : Went) (s : WriteStage) → StageIs w s → stage_on s ≡ s
stays_on waits s e = ap stage_on e ∙ sym e
stays_on is_to_go s e = ap stage_on e.1 ∙ sym e.1
stays_on (is_out call) s e = ap stage_on e ∙ sym e

asks_none : (w : Went) (s : WriteStage) (call : ℕ) → StageIs w s → stage_asks call s ≡ false
asks_none waits s call e = ap (stage_asks call) e
asks_none is_to_go s call e = ap (stage_asks call) e.1
asks_none (is_out c) s call e = ap (stage_asks call) e

gone_same : (p : List ℕ → Bool) (w : Went) (s : WriteStage) → StageIs w s → stage_gone p s ≡ s
gone_same p waits s e = ap (stage_gone p) e ∙ sym e
gone_same p is_to_go s e = ap (stage_gone p) e.1 ∙ sym e.1
gone_same p (is_out call) s e = ap (stage_gone p) e ∙ sym e

ended_same : (single : Bool) (w : Went) (s : WriteStage) → is_begun w ≡ false → StageIs w s → stage_ended single s ≡ s
ended_same single waits s n e = ap (stage_ended single) e ∙ sym e
ended_same single is_to_go s n e = absurd (cc)
ended_same single (is_out call) s n e = absurd (cc)

module _ (k : List ℕ) where
  abbrev pub OverOf : List Mine → List Write → Type 0
  OverOf [] ws = NoneOver k ws
  OverOf (m ∷ ms) [] = ⊥
  OverOf (m ∷ ms) (x ∷ ws) = (IsMine m x × ((covers x k ≡ true) × OverOf ms ws)) ⊎ ((covers x k ≡ false) × OverOf (m ∷ ms) ws)

  none_found : (p : Write → Bool) (x : Write) (ws : List Write) → NoneOver k ws → first_by p ws ≡ Some x → covers x k ≡ false
  none_found p x [] n e = absurd (cc)
  none_found p x (y ∷ ws) n e = by (p y) e (none_found p x ws q.1)
    where
      q : (covers y k ≡ false) × NoneOver k ws
      q = or_none (covers y k) (list_any (λ w. covers w k) ws) n

      by : (b : Bool) → cond b (Some y) (first_by p ws) ≡ Some x → (first_by p ws ≡ Some x → covers x k ≡ false) → covers x k ≡ false
      by true f more = ap (λ (z : Write). covers z k) (sym (some_write y x f)) ∙ q.0
      by false f more = more f

  over_behind : (ns : List Mine) (ws vs : List Write) → NoneOver k ws → OverOf ns vs → OverOf ns (ws ++ vs)
  over_behind [] ws vs h i = none_append k ws vs h i
  over_behind (n ∷ ns) [] vs h i = i
  over_behind (n ∷ ns) (x ∷ ws) vs h i = let q = or_none (covers x k) (list_any (λ w. covers w k) ws) h in inr (q.0, over_behind (n ∷ ns) ws vs q.1 i)

  pub over_append : (ms ns : List Mine) (ws vs : List Write) → OverOf ms ws → OverOf ns vs → OverOf (ms ++ ns) (ws ++ vs)
  over_append [] ns ws vs h i = over_behind ns ws vs h i
  over_append (m ∷ ms) ns [] vs h i = absurd h
  over_append (m ∷ ms) ns (x ∷ ws) vs (inl h) i = inl (h.0, (h.1.0, over_append ms ns ws vs h.1.1 i))
  over_append (m ∷ ms) ns (x ∷ ws) vs (inr h) i = inr (h.0, over_append (m ∷ ms) ns ws vs h.1 i)

  over_more : (ms : List Mine) (ws vs : List Write) → OverOf ms ws → NoneOver k vs → OverOf ms (ws ++ vs)
  over_more ms ws vs h i = subst (λ (ns : List Mine). OverOf ns (ws ++ vs)) (append-nil ms) (over_append ms [] ws vs h i)

-- none of them passes the test
abbrev pub MissesOf : List Mine → (Write → Bool) → Type 0
MissesOf [] p = Unit {0}
MissesOf (m ∷ ms) p = ((x : Write) → IsMine m x → p x ≡ false) × MissesOf ms p

-- each keeps its stage
abbrev SparesOf : List Mine → (Write → WriteStage) → Type 0
SparesOf [] g = Unit {0}
SparesOf (m ∷ ms) g = ((x : Write) → IsMine m x → g x ≡ x.stage) × SparesOf ms g

-- nothing is to be missed where there is none
pub no_own : (ms : List Mine) (p : Write → Bool) → ms ≡ [] → MissesOf ms p
no_own ms p e = subst (λ (ns : List Mine). MissesOf ns p) (sym e) tt

pub rest_misses : (p : Write → Bool) (front rest : List OwnWrite) → MissesOf (behind_as (front ++ rest)) p → MissesOf (behind_as rest) p
rest_misses p [] rest n = n
rest_misses p (v ∷ vs) rest n = rest_misses p vs rest n.1

pub asks_misses : (ms : List Mine) (call : ℕ) → MissesOf ms (asks call)
asks_misses [] call = tt
asks_misses (m ∷ ms) call = ((λ x i. asks_none m.went x.stage call i.stage), asks_misses ms call)

-- one that waits isn't sent
pub sends_misses : (call : ℕ) (vs : List OwnWrite) → MissesOf (behind_as vs) (sends call)
sends_misses call [] = tt
sends_misses call (v ∷ vs) = ((λ x i. ap (stage_sends call) i.stage), sends_misses call vs)

gone_spares : (p : List ℕ → Bool) (ms : List Mine) → SparesOf ms (λ x. stage_gone p x.stage)
gone_spares p [] = tt
gone_spares p (m ∷ ms) = ((λ x i. gone_same p m.went x.stage i.stage), gone_spares p ms)

ended_spares : (ms : List Mine) → any_begun ms ≡ false → SparesOf ms (λ x. stage_ended (is_single x.request) x.stage)
ended_spares [] n = tt
ended_spares (m ∷ ms) n = let q = or_none (is_begun m.went) (any_begun ms) n in ((λ x i. ended_same (is_single x.request) m.went x.stage q.0 i.stage), ended_spares ms q.1)

same_stage : (m : Mine) (x : Write) (s : WriteStage) → s ≡ x.stage → IsMine m x → IsMine m (staged x s)
same_stage m x s e i = record { ticket = i.ticket; request = i.request; ranges = i.ranges; stage = subst (StageIs m.went) (sym e) i.stage }

module _ (k : List ℕ) where
  over_with : (ms : List Mine) (p : Write → Bool) (s : WriteStage) (ws : List Write) → MissesOf ms p → OverOf k ms ws → OverOf k ms (with_first p s ws)
  over_with [] p s ws n h = none_first k p s ws h
  over_with (m ∷ ms) p s [] n h = absurd h
  over_with (m ∷ ms) p s (x ∷ ws) n (inl h) = subst (λ (b : Bool). OverOf k (m ∷ ms) (cond b (staged x s ∷ ws) (x ∷ with_first p s ws))) (sym (n.0 x h.0)) (inl (h.0, (h.1.0, over_with ms p s ws n.1 h.1.1)))
  over_with (m ∷ ms) p s (x ∷ ws) n (inr h) = either (OverOf k (m ∷ ms)) (p x) (staged x s ∷ ws) (x ∷ with_first p s ws) (inr h) (inr (h.0, over_with (m ∷ ms) p s ws n h.1))

  pub over_without : (ms : List Mine) (p : Write → Bool) (ws : List Write) → MissesOf ms p → OverOf k ms ws → OverOf k ms (without_first p ws)
  over_without [] p ws n h = none_rest k p ws h
  over_without (m ∷ ms) p [] n h = absurd h
  over_without (m ∷ ms) p (x ∷ ws) n (inl h) = subst (λ (b : Bool). OverOf k (m ∷ ms) (cond b ws (x ∷ without_first p ws))) (sym (n.0 x h.0)) (inl (h.0, (h.1.0, over_without ms p ws n.1 h.1.1)))
  over_without (m ∷ ms) p (x ∷ ws) n (inr h) = either (OverOf k (m ∷ ms)) (p x) ws (x ∷ without_first p ws) h.1 (inr (h.0, over_without (m ∷ ms) p ws n h.1))

  over_each : (ms : List Mine) (g : Write → WriteStage) (ws : List Write) → SparesOf ms g → OverOf k ms ws → OverOf k ms (map (λ w. staged w (g w)) ws)
  over_each [] g ws n h = none_each k g ws h
  over_each (m ∷ ms) g [] n h = absurd h
  over_each (m ∷ ms) g (x ∷ ws) n (inl h) = inl (same_stage m x (g x) (n.0 x h.0) h.0, (h.1.0, over_each ms g ws n.1 h.1.1))
  over_each (m ∷ ms) g (x ∷ ws) n (inr h) = inr (h.0, over_each (m ∷ ms) g ws n h.1)

  pub over_away : (ms : List Mine) (p : Write → Bool) (x : Write) (ws : List Write) → MissesOf ms p → OverOf k ms ws → first_by p ws ≡ Some x → covers x k ≡ false
  over_away [] p x ws n h e = none_found k p x ws h e
  over_away (m ∷ ms) p x [] n h e = absurd h
  over_away (m ∷ ms) p x (y ∷ ws) n (inl h) e = over_away ms p x ws n.1 h.1.1 (ap (λ (b : Bool). cond b (Some y) (first_by p ws)) (sym (n.0 y h.0)) ∙ e)
  over_away (m ∷ ms) p x (y ∷ ws) n (inr h) e = by (p y) e (over_away (m ∷ ms) p x ws n h.1)
    where
      by : (b : Bool) → cond b (Some y) (first_by p ws) ≡ Some x → (first_by p ws ≡ Some x → covers x k ≡ false) → covers x k ≡ false
      by true f more = ap (λ (z : Write). covers z k) (sym (some_write y x f)) ∙ h.0
      by false f more = more f

-- ---- the turn of an own write: it stays as it is, also where it waits behind an earlier one or for an acquire of the key

same_of : {A : Type 0} (b : Bool) (x y z : A) → x ≡ z → y ≡ z → cond b x y ≡ z
same_of true x y z e f = e
same_of false x y z e f = f

-- writes over one key share it
shares_key : (k : List ℕ) (v w : Write) → covers v k ≡ true → covers w k ≡ true → shares v w ≡ true
shares_key k v w c d = in_ranges w.ranges d
  where
    met : (r : KeyRange) (rs : List KeyRange) → covered rs k ≡ true → contains r k ≡ true → meets rs r ≡ true
    met r [] e f = no_true e
    met r (s ∷ rs) e f = by (contains s k) refl e (met r rs)
      where
        by : (b : Bool) → contains s k ≡ b → b || covered rs k ≡ true → (covered rs k ≡ true → contains r k ≡ true → meets rs r ≡ true) → overlaps r s || meets rs r ≡ true
        by true g h more = or_left (overlaps r s) (meets rs r) ((overlap_in_a_key r s).1 (k, f, g))
        by false g h more = or_right (overlaps r s) (meets rs r) (more h f)

    in_ranges : (rs : List KeyRange) → covered rs k ≡ true → list_any (meets v.ranges) rs ≡ true
    in_ranges [] e = no_true e
    in_ranges (r ∷ rs) e = by (contains r k) refl e (in_ranges rs)
      where
        by : (b : Bool) → contains r k ≡ b → b || covered rs k ≡ true → (covered rs k ≡ true → list_any (meets v.ranges) rs ≡ true) → meets v.ranges r || list_any (meets v.ranges) rs ≡ true
        by true g h more = or_left (meets v.ranges r) (list_any (meets v.ranges) rs) (met r v.ranges c g)
        by false g h more = or_right (meets v.ranges r) (list_any (meets v.ranges) rs) (more h)

any_shares : (k : List ℕ) (v : Write) (earlier : List Write) → covers v k ≡ true → list_any (λ w. covers w k) earlier ≡ true → list_any (shares v) earlier ≡ true
any_shares k v [] c e = no_true e
any_shares k v (w ∷ ws) c e = by (covers w k) refl e (any_shares k v ws c)
  where
    by : (b : Bool) → covers w k ≡ b → b || list_any (λ w. covers w k) ws ≡ true → (list_any (λ w. covers w k) ws ≡ true → list_any (shares v) ws ≡ true) → shares v w || list_any (shares v) ws ≡ true
    by true g h more = or_left (shares v w) (list_any (shares v) ws) (shares_key k v w c g)
    by false g h more = or_right (shares v w) (list_any (shares v) ws) (more h)

module _ (step : ℕ) (earlier : List Write) (es : Keyed Entry) (ss : Keyed Bool) (x : Write) where
  abbrev Same : Turn
  Same = record { entries = es; spoiled = ss; write = x }

  abbrev turned : WriteStage → Turn
  turned s = record { entries = es; spoiled = ss; write = staged x s }

  -- it has begun
  turn_begun : (w : Went) → is_begun w ≡ true → StageIs w x.stage → turn step earlier es ss x ≡ Same
  turn_begun waits b e = absurd (cc)
  turn_begun is_to_go b e = ap (λ (s : WriteStage). cond (is_waiting s && not (list_any (shares x) earlier)) (goes step es ss (staged x (stage_on x.stage))) (turned (stage_on x.stage))) (ap stage_on e.1) ∙ ap turned (stays_on is_to_go x.stage e)
  turn_begun (is_out call) b e = ap (λ (s : WriteStage). cond (is_waiting s && not (list_any (shares x) earlier)) (goes step es ss (staged x (stage_on x.stage))) (turned (stage_on x.stage))) (ap stage_on e) ∙ ap turned (stays_on (is_out call) x.stage e)

  -- an earlier one shares a key with it
  turn_behind : x.stage ≡ Waiting → list_any (shares x) earlier ≡ true → turn step earlier es ss x ≡ Same
  turn_behind e s =
      ap (λ (b : Bool). cond (is_waiting (stage_on x.stage) && not b) (goes step es ss (staged x (stage_on x.stage))) (turned (stage_on x.stage))) s
      ∙ ap (λ (i : WriteStage). cond (is_waiting i && false) (goes step es ss (staged x (stage_on x.stage))) (turned (stage_on x.stage))) (ap stage_on e) ∙ ap turned (stays_on waits x.stage e)

  -- an acquire of its one key is due or out
  turn_for_acquire : x.stage ≡ Waiting → is_by_keys x ≡ true → any_key x (λ j. is_some (at ss j)) ≡ true → turn step earlier es ss x ≡ Same
  turn_for_acquire e b m =
      let v = staged x (stage_on x.stage) in
      same_of (is_waiting (stage_on x.stage) && not (list_any (shares x) earlier)) (goes step es ss v) (turned (stage_on x.stage)) Same
      (ap (λ (c : Bool). cond c (by_keys step es ss v) (by_ranges step es ss v)) b ∙ ap (λ (c : Bool). cond c (turned (stage_on x.stage)) (keys_begun step (each (let_go_leased v) es) ss v)) m ∙ ap turned (stays_on waits x.stage e))
      (ap turned (stays_on waits x.stage e))

-- of single keys, this one among them

pub one_contains : (r : KeyRange) (j : List ℕ) → is_one r ≡ true → contains r j ≡ same j r.key
one_contains r j e = ap (λ (b : Bool). cond b (same j r.key) (cond (is_zero r.end) (is_zero r.key || up_to r.key j) (up_to r.key j && before j r.end))) e

pub alone_by_key : (k : List ℕ) (q : Request) (x : Write) → IsAlone k q → x.ranges ≡ written_ranges q → is_by_keys x ≡ true
alone_by_key k q x a r = ap (list_all is_one) r ∙ a.singles

pub alone_over : (k : List ℕ) (q : Request) (x : Write) → IsAlone k q → x.ranges ≡ written_ranges q → covers x k ≡ true
alone_over k q x a r = ap (λ (rs : List KeyRange). covered rs k) r ∙ a.over

-- what holds of this key holds of some key of it
pub alone_any : (k : List ℕ) (q : Request) (x : Write) (p : List ℕ → Bool) → IsAlone k q → x.ranges ≡ written_ranges q → p k ≡ true → any_key x p ≡ true
alone_any k q x p a r h = some_key x.ranges (alone_by_key k q x a r) (alone_over k q x a r)
  where
    some_key : (rs : List KeyRange) → list_all is_one rs ≡ true → covered rs k ≡ true → list_any (λ r. p r.key) rs ≡ true
    some_key [] o c = no_true c
    some_key (i ∷ rs) o c = by (contains i k) refl c (some_key rs (and_second (is_one i) (list_all is_one rs) o))
      where
        by : (b : Bool) → contains i k ≡ b → b || covered rs k ≡ true → (covered rs k ≡ true → list_any (λ r. p r.key) rs ≡ true) → p i.key || list_any (λ r. p r.key) rs ≡ true
        by true e f more = or_left (p i.key) (list_any (λ r. p r.key) rs) (ap p (sym (same-equal k i.key (sym (one_contains i k (and_first (is_one i) (list_all is_one rs) o)) ∙ e))) ∙ h)
        by false e f more = or_right (p i.key) (list_any (λ r. p r.key) rs) (more f)

-- ---- writes over the key that aren't sent

-- the test fails for each of them
abbrev pub ThereMisses : List ℕ → List OwnWrite → (Write → Bool) → Type 0
ThereMisses k [] p = Unit {0}
ThereMisses k (v ∷ vs) p = ((x : Write) → IsThere k v x → p x ≡ false) × ThereMisses k vs p

unsent_asks : (call : ℕ) (s : WriteStage) → is_unsent s ≡ true → stage_asks call s ≡ false
unsent_asks call Waiting e = refl
unsent_asks call (Sends owner i) e = refl
unsent_asks call (Finds found) e = no_true e

unsent_sends : (call : ℕ) (s : WriteStage) → is_unsent s ≡ true → stage_sends call s ≡ false
unsent_sends call Waiting e = refl
unsent_sends call (Sends owner (sending.Due since)) e = refl
unsent_sends call (Sends owner (sending.Out n)) e = no_true e
unsent_sends call (Finds found) e = no_true e

unsent_gone : (p : List ℕ → Bool) (s : WriteStage) → is_unsent s ≡ true → is_unsent (stage_gone p s) ≡ true
unsent_gone p Waiting e = refl
unsent_gone p (Sends owner i) e = e
unsent_gone p (Finds found) e = no_true e

unsent_ended : (single : Bool) (s : WriteStage) → is_unsent s ≡ true → is_unsent (stage_ended single s) ≡ true
unsent_ended single Waiting e = refl
unsent_ended single (Sends false i) e = e
unsent_ended true (Sends true (sending.Due since)) e = refl
unsent_ended false (Sends true (sending.Due since)) e = refl
unsent_ended single (Sends true (sending.Out call)) e = no_true e
unsent_ended single (Finds found) e = no_true e

unsent_on : (s : WriteStage) → is_unsent s ≡ true → is_unsent (stage_on s) ≡ true
unsent_on Waiting e = refl
unsent_on (Sends owner i) e = e
unsent_on (Finds found) e = no_true e

pub there_asks : (k : List ℕ) (call : ℕ) (vs : List OwnWrite) → ThereMisses k vs (asks call)
there_asks k call [] = tt
there_asks k call (v ∷ vs) = ((λ x i. unsent_asks call x.stage i.unsent), there_asks k call vs)

pub there_sends : (k : List ℕ) (call : ℕ) (vs : List OwnWrite) → ThereMisses k vs (sends call)
there_sends k call [] = tt
there_sends k call (v ∷ vs) = ((λ x i. unsent_sends call x.stage i.unsent), there_sends k call vs)

module _ (k : List ℕ) where
  pub there_append : (us vs : List OwnWrite) (ws xs : List Write) → ThereOf k us ws → ThereOf k vs xs → ThereOf k (us ++ vs) (ws ++ xs)
  there_append [] vs [] xs h i = i
  there_append [] [] (x ∷ ws) xs h i = tt
  there_append [] (v ∷ vs) (x ∷ ws) xs h i = inr (there_append [] (v ∷ vs) ws xs tt i)
  there_append (u ∷ us) vs [] xs h i = absurd h
  there_append (u ∷ us) vs (x ∷ ws) xs (inl h) i = inl (h.0, there_append us vs ws xs h.1 i)
  there_append (u ∷ us) vs (x ∷ ws) xs (inr h) i = inr (there_append (u ∷ us) vs ws xs h i)

  pub there_more : (vs : List OwnWrite) (ws xs : List Write) → ThereOf k vs ws → ThereOf k vs (ws ++ xs)
  there_more [] ws xs h = tt
  there_more (v ∷ vs) [] xs h = absurd h
  there_more (v ∷ vs) (x ∷ ws) xs (inl h) = inl (h.0, there_more vs ws xs h.1)
  there_more (v ∷ vs) (x ∷ ws) xs (inr h) = inr (there_more (v ∷ vs) ws xs h)

  there_first : (vs : List OwnWrite) (p : Write → Bool) (s : WriteStage) (ws : List Write) → ThereMisses k vs p → ThereOf k vs ws → ThereOf k vs (with_first p s ws)
  there_first [] p s ws n h = tt
  there_first (v ∷ vs) p s [] n h = absurd h
  there_first (v ∷ vs) p s (x ∷ ws) n (inl h) = subst (λ (b : Bool). ThereOf k (v ∷ vs) (cond b (staged x s ∷ ws) (x ∷ with_first p s ws))) (sym (n.0 x h.0)) (inl (h.0, there_first vs p s ws n.1 h.1))
  there_first (v ∷ vs) p s (x ∷ ws) n (inr h) = either (ThereOf k (v ∷ vs)) (p x) (staged x s ∷ ws) (x ∷ with_first p s ws) (inr h) (inr (there_first (v ∷ vs) p s ws n h))

  there_rest : (vs : List OwnWrite) (p : Write → Bool) (ws : List Write) → ThereMisses k vs p → ThereOf k vs ws → ThereOf k vs (without_first p ws)
  there_rest [] p ws n h = tt
  there_rest (v ∷ vs) p [] n h = absurd h
  there_rest (v ∷ vs) p (x ∷ ws) n (inl h) = subst (λ (b : Bool). ThereOf k (v ∷ vs) (cond b ws (x ∷ without_first p ws))) (sym (n.0 x h.0)) (inl (h.0, there_rest vs p ws n.1 h.1))
  there_rest (v ∷ vs) p (x ∷ ws) n (inr h) = either (ThereOf k (v ∷ vs)) (p x) ws (x ∷ without_first p ws) h (inr (there_rest (v ∷ vs) p ws n h))

  restaged_there : (v : OwnWrite) (x : Write) (s : WriteStage) → is_unsent s ≡ true → IsThere k v x → IsThere k v (staged x s)
  restaged_there v x s u i = record { ticket = i.ticket; over = i.over; unsent = u }

  there_each : (vs : List OwnWrite) (g : Write → WriteStage) (ws : List Write) → ((x : Write) → is_unsent x.stage ≡ true → is_unsent (g x) ≡ true) → ThereOf k vs ws → ThereOf k vs (map (λ w. staged w (g w)) ws)
  there_each [] g ws n h = tt
  there_each (v ∷ vs) g [] n h = absurd h
  there_each (v ∷ vs) g (x ∷ ws) n (inl h) = inl (restaged_there v x (g x) (n x h.0.unsent) h.0, there_each vs g ws n h.1)
  there_each (v ∷ vs) g (x ∷ ws) n (inr h) = inr (there_each (v ∷ vs) g ws n h)

  -- a turn leaves it there
  turn_there : (v : OwnWrite) (step : ℕ) (earlier : List Write) (es : Keyed Entry) (ss : Keyed Bool) (x : Write) → IsThere k v x → IsThere k v (turn step earlier es ss x).write
  turn_there v step earlier es ss x i =
      let new = staged x (stage_on x.stage) in
      let stays = restaged_there v x (stage_on x.stage) (unsent_on x.stage i.unsent) i in
      let At : Turn → Type 0 = λ t. IsThere k v t.write in
      let kept = each (let_go_leased new) es in
      let owner = any_key new (λ j. is_some (at kept j)) in
      either At (is_waiting new.stage && not (list_any (shares x) earlier)) (goes step es ss new) (record { entries = es; spoiled = ss; write = new })
      (either At (is_by_keys new) (by_keys step es ss new) (by_ranges step es ss new)
      (either At (any_key new (λ j. is_some (at ss j))) (record { entries = es; spoiled = ss; write = new }) (keys_begun step kept ss new) stays
      (either At (any_key new (λ j. is_leaving (at kept j))) (record { entries = kept; spoiled = ss; write = new }) (record { entries = each (begun_over new) kept; spoiled = ss; write = gone_on step owner new }) stays
      (restaged_there v new (Sends owner (sending.Due step)) refl stays)))
      (either (IsThere k v) (any_covered new (each (given_up_over new) es) || any_covered new (each (spoiled_over new) ss)) new (gone_on step false new) stays (restaged_there v new (Sends false (sending.Due step)) refl stays))) stays

  pub passed_there : (vs : List OwnWrite) (step : ℕ) (earlier : List Write) (es : Keyed Entry) (ss : Keyed Bool) (ws : List Write) → ThereOf k vs ws → ThereOf k vs (passed step earlier es ss ws).writes
  unfolding passed
  passed_there [] step earlier es ss ws h = tt
  passed_there (v ∷ vs) step earlier es ss [] h = absurd h
  passed_there (v ∷ vs) step earlier es ss (x ∷ ws) (inl h) =
      let u = turn step earlier es ss x in inl (turn_there v step earlier es ss x h.0, passed_there vs step (u.write ∷ earlier) u.entries u.spoiled ws h.1)
  passed_there (v ∷ vs) step earlier es ss (x ∷ ws) (inr h) = let u = turn step earlier es ss x in inr (passed_there (v ∷ vs) step (u.write ∷ earlier) u.entries u.spoiled ws h)

module _ (M : Mode) where
  abbrev k : List ℕ
  k = M.key

  abbrev w : Bool
  w = M.over

  abbrev h : Bool
  h = M.hold

  abbrev pub Misses : (Write → Bool) → Type 0
  Misses p = ((c : M.Case) → MissesOf (M.mine c) p) × ThereMisses k M.there p

  abbrev There : List Write → Type 0
  There ws = ThereOf k M.there ws

  abbrev Mark : Keyed Bool → Type 0
  Mark ss = M.mark ≡ true → at ss k ≡ Some false

  -- in one of the cases
  module _ (c : M.Case) where
    abbrev e : Entry
    e = record M.entry { phase = M.phase c }

    abbrev Over : List Write → Type 0
    Over ws = w ≡ true → OverOf k (M.mine c) ws

    abbrev Stays : Keyed Entry → Type 0
    Stays es = h ≡ true → at es k ≡ Some e

    -- a write that isn't the owner's own
    abbrev Away : Write → Type 0
    Away x = any_begun (M.mine c) ≡ true → covers x k ≡ false

    away_of : (p : Write → Bool) (x : Write) (ws : List Write) → MissesOf (M.mine c) p → Over ws → first_by p ws ≡ Some x → Away x
    away_of p x ws n o f = λ y. over_away k (M.mine c) p x ws n (o (M.holding (M.writes c y))) f

    unowned : (x : Write) → Away x → owns x k && is_writing_phase e.phase ≡ false
    unowned x a = by (any_begun (M.mine c)) (M.writing c) a
      where
        by : (b : Bool) → is_writing_phase e.phase ≡ b → (b ≡ true → covers x k ≡ false) → owns x k && is_writing_phase e.phase ≡ false
        by true f g = ap (λ (c : Bool). (is_owner x.stage && c) && is_writing_phase e.phase) (g refl) ∙ ap (λ (c : Bool). c && is_writing_phase e.phase) (and_false (is_owner x.stage))
        by false f g = ap (λ (c : Bool). owns x k && c) f ∙ and_false (owns x k)

    -- ---- entries

    stays_each : (f : List ℕ → Entry → Entry) (es : Keyed Entry) → (h ≡ true → f k e ≡ e) → Stays es → Stays (each f es)
    stays_each f es g i = λ y. at-each f es k ∙ ap (option_map (f k)) (i y) ∙ ap (λ (x : Entry). Some x) (g y)

    stays_other : (j : List ℕ) (o : Option Entry) (es : Keyed Entry) → same j k ≡ false → Stays es → Stays (with_at es j o)
    stays_other j o es n i = λ y. at_other k j o es n ∙ i y

    -- a change at one key that leaves this entry
    stays_turned : (j : List ℕ) (f : Option Entry → Option Entry) (es : Keyed Entry) → (h ≡ true → same j k ≡ true → f (Some e) ≡ Some e) → Stays es → Stays (with_at es j (f (at es j)))
    stays_turned j f es g i = λ y. at-with_at es j k (f (at es j)) ∙ by y (same j k) refl
      where
        by : (y : h ≡ true) (b : Bool) → same j k ≡ b → cond b (f (at es j)) (at es k) ≡ Some e
        by y true s = ap (λ (l : List ℕ). f (at es l)) (same-equal j k s) ∙ ap f (i y) ∙ g y s
        by y false s = i y

    owned_stays : (x : Write) (f : List ℕ → Entry → Entry) (es : Keyed Entry) → Away x → Stays es → Stays (change_owned x f es)
    owned_stays x f es a i = stays_each _ es (λ y. ap (λ (b : Bool). cond b (f k e) e) (unowned x a)) i

    owns_stays : (x : Write) (es : Keyed Entry) → Away x → Stays es → Stays (without (owns_at x es) es)
    owns_stays x es a i = λ y.
        at-without (owns_at x es) es k
        ∙ ap (λ (o : Option Entry). cond (owns x k && is_writing o) None o) (i y)
        ∙ ap (λ (b : Bool). cond b None (Some e)) (unowned x a)

    kept_stays : (x : Write) (os : List Owner) (es : Keyed Entry) → Away x → Stays es → Stays (kept_entries x os es)
    kept_stays x os es a i =
        owned_stays x _ (without (is_gone x es os) es) a
        (λ y.
        at-without (is_gone x es os) es k
        ∙ ap (λ (o : Option Entry). cond (owns x k && is_writing o && not (is_shown es os k)) None o) (i y)
        ∙ ap (λ (b : Bool). cond (b && not (is_shown es os k)) None (Some e)) (unowned x a))

    not_own : (session : Option ℕ) (es : Keyed Entry) (o : List ℕ × Owner) → Stays es → h ≡ true → is_own session es o ≡ true → same o.0 k ≡ false
    not_own session es o i y t = by (same o.0 k) refl
      where
        second : (a b : Bool) → a && b ≡ true → b ≡ true
        second true b f = f
        second false b f = absurd (cc)

        by : (b : Bool) → same o.0 k ≡ b → b ≡ false
        by true s =
            absurd (let f : false ≡ true = sym (ap (λ (x : Option Entry). not (is_some x)) (ap (at es) (same-equal o.0 k s) ∙ i y)) ∙ second (Rattle.wait_model.specs.Phases.is_session session o.1.lease) (not (is_some (at es o.0))) t in cc)
        by false s = refl

    left_stays : (session : Option ℕ) (os : Keyed Owner) (es : Keyed Entry) → Stays es → Stays (owned_left session os es)
    left_stays session [] es i = i
    left_stays session (o ∷ os) es i = left_stays session os (cond (is_own session es o) (with_at es o.0 (Some (own_entry o.1.create))) es) (by (is_own session es o) refl)
      where
        by : (b : Bool) → is_own session es o ≡ b → Stays (cond b (with_at es o.0 (Some (own_entry o.1.create))) es)
        by true t = λ y. stays_other o.0 (Some (own_entry o.1.create)) es (not_own session es o i y t) i y
        by false t = i

    -- ---- a pass

    abbrev Passes : Write → Type 0
    Passes x = w ≡ true → covers x k ≡ false

    abbrev TurnSo : Turn → Type 0
    TurnSo t = Stays t.entries × (Mark t.spoiled × Passes t.write)

    keys_so : (step : ℕ) (es : Keyed Entry) (ss : Keyed Bool) (x : Write) → Stays es → Mark ss → Passes x → TurnSo (keys_begun step es ss x)
    keys_so step es ss x i m c =
        either TurnSo (any_key x (λ k. Rattle.wait_model.specs.Phases.is_leaving (at es k))) (record { entries = es; spoiled = ss; write = x }) (record { entries = each (begun_over x) es; spoiled = ss; write = gone_on step (any_key x (λ k. is_some (at es k))) x }) (i, (m, c))
        (stays_each (begun_over x) es (λ y. ap (λ (b : Bool). cond b (begun e) e) (c (M.holding y))) i, (m, c))

    by_keys_so : (step : ℕ) (es : Keyed Entry) (ss : Keyed Bool) (x : Write) → Stays es → Mark ss → Passes x → TurnSo (by_keys step es ss x)
    by_keys_so step es ss x i m c =
        either TurnSo (any_key x (λ k. is_some (at ss k))) (record { entries = es; spoiled = ss; write = x }) (keys_begun step (each (let_go_leased x) es) ss x) (i, (m, c))
        (keys_so step (each (let_go_leased x) es) ss x (stays_each (let_go_leased x) es (λ y. ap (λ (b : Bool). cond (b && leased x.request k) (let_go e) e) (c (M.holding y))) i) m c)

    by_ranges_so : (step : ℕ) (es : Keyed Entry) (ss : Keyed Bool) (x : Write) → Stays es → Mark ss → Passes x → TurnSo (by_ranges step es ss x)
    by_ranges_so step es ss x i m c = (
      stays_each (given_up_over x) es (λ y. ap (λ (b : Bool). cond b (given_up e) e) (c (M.holding y))) i,
      (
        λ y. at-each (spoiled_over x) ss k ∙ ap (option_map (spoiled_over x k)) (m y) ∙ ap (λ (b : Bool). Some (b || false)) (c (M.marked y)),
        either Passes (any_covered x (each (given_up_over x) es) || any_covered x (each (spoiled_over x) ss)) x (gone_on step false x) c c,
      ),
    )

    pub turn_so : (step : ℕ) (earlier : List Write) (es : Keyed Entry) (ss : Keyed Bool) (x : Write) → Stays es → Mark ss → Passes x → TurnSo (turn step earlier es ss x)
    turn_so step earlier es ss x i m c =
        let v = staged x (stage_on x.stage) in
        either TurnSo (is_waiting v.stage && not (list_any (shares x) earlier)) (goes step es ss v) (record { entries = es; spoiled = ss; write = v })
        (either TurnSo (is_by_keys v) (by_keys step es ss v) (by_ranges step es ss v) (by_keys_so step es ss v i m c) (by_ranges_so step es ss v i m c)) (i, (m, c))

    -- an own write that waits does so for an acquire of the key, or behind an earlier one
    abbrev Blocks : List Write → Type 0
    Blocks earlier = (M.mark ≡ true) ⊎ (list_any (λ v. covers v k) earlier ≡ true)

    turn_own : (m : Mine) (step : ℕ) (earlier : List Write) (es : Keyed Entry) (ss : Keyed Bool) (x : Write) → IsAlone k m.request → (not (is_begun m.went) ≡ true → Blocks earlier) → Mark ss → IsMine m x → covers x k ≡ true
        → turn step earlier es ss x ≡ record { entries = es; spoiled = ss; write = x }
    turn_own m step earlier es ss x a f t i c = by m.went refl f i.stage
      where
        by_block : x.stage ≡ Waiting → Blocks earlier → turn step earlier es ss x ≡ record { entries = es; spoiled = ss; write = x }
        by_block e (inl y) =
            turn_for_acquire step earlier es ss x e (alone_by_key k m.request x a i.ranges) (alone_any k m.request x (λ j. is_some (at ss j)) a i.ranges (ap is_some (t y)))
        by_block e (inr y) = turn_behind step earlier es ss x e (any_shares k x earlier c y)

        by : (w : Went) → m.went ≡ w → (not (is_begun w) ≡ true → Blocks earlier) → StageIs w x.stage → turn step earlier es ss x ≡ record { entries = es; spoiled = ss; write = x }
        by waits g f e = by_block e (f refl)
        by is_to_go g f e = turn_begun step earlier es ss x is_to_go refl e
        by (is_out call) g f e = turn_begun step earlier es ss x (is_out call) refl e

    abbrev PassSo : List Mine → Pass → Type 0
    PassSo ms p = Stays p.entries × (Mark p.spoiled × OverOf k ms p.writes)

    pub passed_over : w ≡ true → (ms : List Mine) (step : ℕ) (earlier : List Write) (es : Keyed Entry) (ss : Keyed Bool) (ws : List Write) → AllAlone k ms → (first_waits ms ≡ true → Blocks earlier) → Stays es → Mark ss → OverOf k ms ws
        → PassSo ms (passed step earlier es ss ws)
    unfolding passed
    passed_over on [] step earlier es ss [] a f i b o = (i, (b, o))
    passed_over on (m ∷ ms) step earlier es ss [] a f i b o = absurd o
    passed_over on [] step earlier es ss (x ∷ ws) a f i b o =
        let q = or_none (covers x k) (list_any (λ v. covers v k) ws) o in
        let u = turn step earlier es ss x in
        let c = turn_so step earlier es ss x i b (λ y. q.0) in
        let r = passed_over on [] step (u.write ∷ earlier) u.entries u.spoiled ws tt (λ y. no_true y) c.0 c.1.0 q.1 in
        (r.0, (r.1.0, both_none (covers u.write k) (list_any (λ v. covers v k) (passed step (u.write ∷ earlier) u.entries u.spoiled ws).writes) (c.1.1 on) r.1.1))
    passed_over on (m ∷ ms) step earlier es ss (x ∷ ws) a f i b (inl o) =
        let r = passed_over on ms step (x ∷ earlier) es ss ws a.1 (λ y. inr (or_left (covers x k) (list_any (λ v. covers v k) earlier) o.1.0)) i b o.1.1 in
        subst
        (λ (u : Turn).
        let p = passed step (u.write ∷ earlier) u.entries u.spoiled ws in
        PassSo (m ∷ ms) (record { entries = p.entries; spoiled = p.spoiled; writes = u.write ∷ p.writes }))
        (sym (turn_own m step earlier es ss x a.0 f b o.0 o.1.0)) (r.0, (r.1.0, inl (o.0, (o.1.0, r.1.1))))
    passed_over on (m ∷ ms) step earlier es ss (x ∷ ws) a f i b (inr o) =
        let u = turn step earlier es ss x in
        let c = turn_so step earlier es ss x i b (λ y. o.0) in
        let r = passed_over on (m ∷ ms) step (u.write ∷ earlier) u.entries u.spoiled ws a (λ y. behind (f y)) c.0 c.1.0 o.1 in
        (r.0, (r.1.0, inr (c.1.1 on, r.1.1)))
      where
        behind : Blocks earlier → Blocks ((turn step earlier es ss x).write ∷ earlier)
        behind (inl y) = inl y
        behind (inr y) = inr (or_right (covers (turn step earlier es ss x).write k) (list_any (λ v. covers v k) earlier) y)

  -- where the first of them waits while the key is held it may begin
  module _ (c : M.Case) (b : MayBegin M.Case M.mine M.phase M.hold c) where
    began : begun (e c) ≡ e b.to
    began = λ i. record M.entry { phase = (ap phase_begun b.before ∙ sym b.behind) i }

    abbrev FirstSo : Keyed Bool → Turn → Type 0
    FirstSo ss t = (t.spoiled ≡ ss) × (((at t.entries k ≡ Some (e c)) × IsMine (waits_as b.first) t.write) ⊎ ((at t.entries k ≡ Some (e b.to)) × IsMine (first_as b.first None true) t.write))

    first_turn : (step : ℕ) (earlier : List Write) (es : Keyed Entry) (ss : Keyed Bool) (x : Write) → IsAlone k b.first.request → IsMine (waits_as b.first) x → covers x k ≡ true → at es k ≡ Some (e c) → FirstSo ss (turn step earlier es ss x)
    first_turn step earlier es ss x a m over here =
        either (FirstSo ss) (is_waiting new.stage && not (list_any (shares x) earlier)) (goes step es ss new) (record { entries = es; spoiled = ss; write = new })
        (first_of (FirstSo ss) (is_by_keys new) (by_keys step es ss new) (by_ranges step es ss new) (alone_by_key k b.first.request new a m.ranges)
        (either (FirstSo ss) (any_key new (λ j. is_some (at ss j))) (record { entries = es; spoiled = ss; write = new }) (keys_begun step kept ss new) (refl, inl (here, is_new))
        (either (FirstSo ss) (any_key new (λ j. is_leaving (at kept j))) (record { entries = kept; spoiled = ss; write = new }) (record { entries = each (begun_over new) kept; spoiled = ss; write = gone_on step (any_key new (λ j. is_some (at kept j))) new })
        (refl, inl (stays, is_new)) (
          refl,
          inr (
            at-each (begun_over new) kept k ∙ ap (option_map (begun_over new k)) stays ∙ ap (λ (z : Bool). Some (cond z (begun (e c)) (e c))) over ∙ ap (λ (y : Entry). Some y) began,
            record { ticket = m.ticket; request = m.request; ranges = m.ranges; stage = (step, ap (λ (z : Bool). Sends z (sending.Due step)) (alone_any k b.first.request new (λ j. is_some (at kept j)) a m.ranges (ap is_some stays))) },
          ),
        ))))
        (refl, inl (here, is_new))
      where
        new : Write
        new = staged x (stage_on x.stage)

        is_new : IsMine (waits_as b.first) new
        is_new = same_stage (waits_as b.first) x (stage_on x.stage) (stays_on waits x.stage m.stage) m

        kept : Keyed Entry
        kept = each (let_go_leased new) es

        stays : at kept k ≡ Some (e c)
        stays =
            at-each (let_go_leased new) es k ∙ ap (option_map (let_go_leased new k)) here
            ∙ ap (λ (z : Bool). Some (cond z (let_go (e c)) (e c))) (ap (λ (z : Bool). covers x k && z) (ap (λ (q : Request). leased q k) m.request ∙ a.unleased) ∙ and_false (covers x k))

    abbrev MayPass : Pass → Type 0
    MayPass p = PassSo c (waits_as b.first ∷ b.rest) p ⊎ PassSo b.to (first_as b.first None true ∷ b.rest) p

    first_passed : w ≡ true → AllAlone k (waits_as b.first ∷ b.rest) → (step : ℕ) (earlier : List Write) (es : Keyed Entry) (ss : Keyed Bool) (ws : List Write) → at es k ≡ Some (e c) → Mark ss → OverOf k (waits_as b.first ∷ b.rest) ws → MayPass (passed step earlier es ss ws)
    unfolding passed
    first_passed on a step earlier es ss [] here i o = absurd o
    first_passed on a step earlier es ss (x ∷ ws) here i (inl o) = by (first_turn step earlier es ss x a.0 o.0 o.1.0 here)
      where
        u : Turn
        u = turn step earlier es ss x

        marks : u.spoiled ≡ ss → Mark u.spoiled
        marks s = λ y. ap (λ (q : Keyed Bool). at q k) s ∙ i y

        behind : (m : Mine) → m.request ≡ b.first.request → IsMine m u.write → covers u.write k ≡ true
        behind m r n = alone_over k b.first.request u.write a.0 (n.ranges ∙ ap written_ranges r)

        by : FirstSo ss u → let p = passed step (u.write ∷ earlier) u.entries u.spoiled ws in MayPass (record { entries = p.entries; spoiled = p.spoiled; writes = u.write ∷ p.writes })
        by (s, inl t) =
            let over = behind (waits_as b.first) refl t.1 in
            let r = passed_over c on b.rest step (u.write ∷ earlier) u.entries u.spoiled ws a.1 (λ y. inr (or_left (covers u.write k) (list_any (λ v. covers v k) earlier) over)) (λ y. t.0) (marks s) o.1.1 in
            inl (r.0, (r.1.0, inl (t.1, (over, r.1.1))))
        by (s, inr t) =
            let over = behind (first_as b.first None true) refl t.1 in
            let r = passed_over b.to on b.rest step (u.write ∷ earlier) u.entries u.spoiled ws a.1 (λ y. inr (or_left (covers u.write k) (list_any (λ v. covers v k) earlier) over)) (λ y. t.0) (marks s) o.1.1 in
            inr (r.0, (r.1.0, inl (t.1, (over, r.1.1))))
    first_passed on a step earlier es ss (x ∷ ws) here i (inr o) =
        let u = turn step earlier es ss x in
        let t = turn_so c step earlier es ss x (λ y. here) i (λ y. o.0) in
        by (first_passed on a step (u.write ∷ earlier) u.entries u.spoiled ws (t.0 b.held) t.1.0 o.1)
      where
        by : let u = turn step earlier es ss x in let p = passed step (u.write ∷ earlier) u.entries u.spoiled ws in MayPass p → MayPass (record { entries = p.entries; spoiled = p.spoiled; writes = u.write ∷ p.writes })
        by (inl q) = inl (q.0, (q.1.0, inr ((turn_so c step earlier es ss x (λ y. here) i (λ y. o.0)).1.1 on, q.1.1)))
        by (inr q) = inr (q.0, (q.1.0, inr ((turn_so c step earlier es ss x (λ y. here) i (λ y. o.0)).1.1 on, q.1.1)))

  pub record OwnSo (own : Ownership) : Type 0 where
    pub case : M.Case
    pub outs : M.Outs own.waits.out
    pub there : There own.waits.writes
    pub over : Over case own.waits.writes
    pub mark : Mark own.waits.spoiled
    pub entry : Stays case own.entries

  pub pass_so : (own : Ownership) → OwnSo own → OwnSo (proceeded own)
  pass_so own t = by w refl
    where
      clash : {A : Type 0} → w ≡ false → w ≡ true → A
      clash f y = no_true (sym f ∙ y)

      there : There (proceeded own).waits.writes
      there = passed_there k M.there own.waits.step [] own.entries own.waits.spoiled own.waits.writes t.there

      stays : w ≡ true → (first_waits (M.mine t.case) ≡ true → Blocks t.case []) → OwnSo (proceeded own)
      stays y f =
          let r = passed_over t.case y (M.mine t.case) own.waits.step [] own.entries own.waits.spoiled own.waits.writes (M.alone t.case) f t.entry t.mark (t.over y) in
          record { case = t.case; outs = t.outs; there = there; over = λ z. r.1.1; mark = r.1.0; entry = r.0 }

      goes : (b : MayBegin M.Case M.mine M.phase M.hold t.case) → MayPass t.case b (passed own.waits.step [] own.entries own.waits.spoiled own.waits.writes) → OwnSo (proceeded own)
      goes b (inl r) = record { case = t.case; outs = t.outs; there = there; over = λ z. subst (λ (ms : List Mine). OverOf k ms (proceeded own).waits.writes) (sym b.waits) r.1.1; mark = r.1.0; entry = r.0 }
      goes b (inr r) = record { case = b.to; outs = t.outs; there = there; over = λ z. subst (λ (ms : List Mine). OverOf k ms (proceeded own).waits.writes) (sym b.goes) r.1.1; mark = r.1.0; entry = r.0 }

      begins : w ≡ true → (M.mark ≡ true) ⊎ MayBegin M.Case M.mine M.phase M.hold t.case → OwnSo (proceeded own)
      begins y (inl m) = stays y (λ z. inl m)
      begins y (inr b) =
          goes b
          (first_passed t.case b y (subst (AllAlone k) b.waits (M.alone t.case)) own.waits.step [] own.entries own.waits.spoiled own.waits.writes (t.entry b.held) t.mark
          (subst (λ (ms : List Mine). OverOf k ms own.waits.writes) b.waits (t.over y)))

      by_first : w ≡ true → (f : Bool) → first_waits (M.mine t.case) ≡ f → OwnSo (proceeded own)
      by_first y true f = begins y (M.behind t.case f)
      by_first y false f = stays y (λ z. no_true (sym f ∙ z))

      by : (b : Bool) → w ≡ b → OwnSo (proceeded own)
      by true y = by_first y (first_waits (M.mine t.case)) refl
      by false y = record { case = t.case; outs = t.outs; there = there; over = λ z. clash y z; mark = λ z. clash y (M.marked z); entry = λ z. clash y (M.holding z) }

  -- ---- answers

  abbrev pub EndSo : Option Ending → Type 0
  EndSo None = Unit {0}
  EndSo (Some x) = OwnSo x.own

  read_so : (o : Option Bool) (own : Ownership) → OwnSo own → EndSo (if_read o own)
  read_so None own t = tt
  read_so (Some b) own t = t

  rescind_so : (a : Answer) (own : Ownership) → OwnSo own → EndSo (rescind_answered a own)
  rescind_so (answer.Done reply) own t = read_so (guard_held reply.body) own t
  rescind_so (answer.Refused r) own t = t

  rescinded_so : (j : List ℕ) (create now : ℕ) (own : Ownership) → (h ≡ true → same j k ≡ true → (M.entry.create == create) ≡ false) → OwnSo own → OwnSo (rescinded j create now own)
  rescinded_so j create now own f t = by (is_of create (at own.entries j)) refl
    where
      is_this : h ≡ true → same j k ≡ true → is_of create (at own.entries j) ≡ true → (M.entry.create == create) ≡ true
      is_this y s g = sym (ap (is_of create) (ap (at own.entries) (same-equal j k s) ∙ t.entry y)) ∙ g

      none : h ≡ true → is_of create (at own.entries j) ≡ true → same j k ≡ false
      none y g = by_key (same j k) refl
        where
          by_key : (b : Bool) → same j k ≡ b → b ≡ false
          by_key true s = absurd (let x : true ≡ false = sym (is_this y s g) ∙ f y s in cc)
          by_key false s = refl

      by : (b : Bool) → is_of create (at own.entries j) ≡ b → OwnSo (cond b (record { entries = with_at own.entries j None; waits = record own.waits { quiet = with_at own.waits.quiet j (Some (Rattle.proxy_model.specs.Limits.capped (now + Rattle.wait_model.specs.Leaving.rest))) } }) own)
      by true g = record { case = t.case; outs = t.outs; there = t.there; over = t.over; mark = t.mark; entry = λ y. stays_other t.case j None own.entries (none y g) t.entry y }
      by false g = t

  over_first : (c : M.Case) (p : Write → Bool) (s : WriteStage) (ws : List Write) → Misses p → Over c ws → Over c (with_first p s ws)
  over_first c p s ws n o = λ y. over_with k (M.mine c) p s ws (n.0 c) (o y)

  over_rest : (c : M.Case) (p : Write → Bool) (ws : List Write) → Misses p → Over c ws → Over c (without_first p ws)
  over_rest c p ws n o = λ y. over_without k (M.mine c) p ws (n.0 c) (o y)

  -- none of them asks another to give up
  asks_miss : (call : ℕ) → Misses (asks call)
  asks_miss call = ((λ c. asks_misses (M.mine c) call), there_asks k call M.there)

  -- with these entries, and the first that passes in this stage
  staged_so : (p : Write → Bool) (s : WriteStage) (es : Keyed Entry) (own : Ownership) → Misses p → (t : OwnSo own) → Stays t.case es → OwnSo (staged_by own es p s)
  staged_so p s es own n t i = record { case = t.case; outs = t.outs; there = there_first k M.there p s own.waits.writes n.1 t.there; over = over_first t.case p s own.waits.writes n t.over; mark = t.mark; entry = i }

  back_so : (p : Write → Bool) (call : ℕ) (x : Write) (o : Option Bool) (own : Ownership) → Misses p → OwnSo own → EndSo (revoke_back p call x o own)
  back_so p call x None own n t = tt
  back_so p call x (Some b) own n t = staged_so p (stage_asked call b x.stage) own.entries own n t t.entry

  ended_so : (own : Ownership) (es : Keyed Entry) (p : Write → Bool) → Misses p → (t : OwnSo own) → Stays t.case es → OwnSo (ended_by own es p)
  ended_so own es p n t i = record { case = t.case; outs = t.outs; there = there_rest k M.there p own.waits.writes n.1 t.there; over = over_rest t.case p own.waits.writes n t.over; mark = t.mark; entry = i }

  revoke_so : (p : Write → Bool) (call : ℕ) (o : Option Write) (a : Answer) (own : Ownership) → Misses p → OwnSo own → EndSo (revoke_answered p call o a own)
  revoke_so p call None a own n t = t
  revoke_so p call (Some x) (answer.Done reply) own n t = back_so p call x (guard_held reply.body) own n t
  revoke_so p call (Some x) (answer.Refused r) own n t = ended_so own own.entries p n t t.entry

  failed_so : (session : Option ℕ) (p : Write → Bool) (x : Write) (os : List Owner) (own : Ownership) → Misses p → (t : OwnSo own) → Away t.case x → OwnSo (failed session p x os own)
  failed_so session p x os own n t a =
      let others = by_key [] (other_owners x own.entries os) in
      either OwnSo (is_owner x.stage && is_single x.request) (staged_by own (without (owns_at x own.entries) own.entries) p (Sends false (sending.Due own.waits.step))) (finding session p others own (kept_entries x os own.entries))
      (staged_so p (Sends false (sending.Due own.waits.step)) (without (owns_at x own.entries) own.entries) own n t (owns_stays t.case x own.entries a t.entry))
      (staged_so p (Finds (map (found_of own.waits.step) (Rattle.wait_model.specs.ForeignOwnership.others session (kept_entries x os own.entries) others))) (owned_left session others (kept_entries x os own.entries)) own n t
      (left_stays t.case session others (kept_entries x os own.entries) (kept_stays t.case x os own.entries a t.entry)))

  done_so : (session : Option ℕ) (p : Write → Bool) (x : Write) (o : Option Written) (own : Ownership) → Misses p → (t : OwnSo own) → Away t.case x → EndSo (done_if session p x o own)
  done_so session p x None own n t a = tt
  done_so session p x (Some (Wrote reply)) own n t a = ended_so own _ p n t (owned_stays t.case x _ own.entries a t.entry)
  done_so session p x (Some (Blocked os)) own n t a = failed_so session p x os own n t a

  write_so : (session : Option ℕ) (p : Write → Bool) (o : Option Write) (a : Answer) (own : Ownership) → first_by p own.waits.writes ≡ o → Misses p → OwnSo own → EndSo (write_answered session p o a own)
  write_so session p None a own f n t = t
  write_so session p (Some x) (answer.Done reply) own f n t = done_so session p x (written own.waits.prefix x.request reply) own n t (away_of t.case p x own.waits.writes (n.0 t.case) t.over f)
  write_so session p (Some x) (answer.Refused r) own f n t = ended_so own (unwrote_entries x own.entries) p n t (owned_stays t.case x _ own.entries (away_of t.case p x own.waits.writes (n.0 t.case) t.over f) t.entry)

  job_so : (call : ℕ) (a : Answer) (session : Option ℕ) (now : ℕ) (o : Option WaitJob) (own : Ownership) → ((j : List ℕ) (create : ℕ) → o ≡ Some (job.Rescind j create) → h ≡ true → same j k ≡ true → (M.entry.create == create) ≡ false)
      → Misses (sends call) → OwnSo own → EndSo (answered_job call a session now o own)
  job_so call a session now None own f n t = t
  job_so call a session now (Some (job.Rescind j create)) own f n t = rescind_so a (rescinded j create now own) (rescinded_so j create now own (f j create refl) t)
  job_so call a session now (Some (job.Revoke j)) own f n t = revoke_so (asks call) call (first_by (asks call) own.waits.writes) a own (asks_miss call) t
  job_so call a session now (Some job.Write) own f n t = write_so session (sends call) (first_by (sends call) own.waits.writes) a own refl n t

  less_so : (call : ℕ) (own : Ownership) → OwnSo own → OwnSo (without_out call own)
  less_so call own t = record { case = t.case; outs = M.less call own.waits.out t.outs; there = t.there; over = t.over; mark = t.mark; entry = t.entry }

  pub answered_so : (call : ℕ) (a : Answer) (session : Option ℕ) (now : ℕ) (own : Ownership) → Misses (sends call) → OwnSo own → EndSo (answered call a session now own)
  unfolding answered
  answered_so call a session now own n t = job_so call a session now (job_of call own.waits.out) (without_out call own) (λ j create f. M.apart own.waits.out call j create t.outs f) n (less_so call own t)

  -- ---- losses, and what is forgotten

  loss_so : (p : Write → Bool) (o : Option Write) (own : Ownership) → first_by p own.waits.writes ≡ o → Misses p → OwnSo own → OwnSo (write_lost p o own).own
  loss_so p None own f n t = t
  loss_so p (Some x) own f n t = ended_so own _ p n t (owned_stays t.case x _ own.entries (away_of t.case p x own.waits.writes (n.0 t.case) t.over f) t.entry)

  -- a rescind leaves an entry that doesn't leave as it is
  still : (c : M.Case) (b : Bool) → rescind_sent b (e c) ≡ e c
  still c b = λ i. record M.entry { phase = (M.still c b) i }

  rescind_stays : (c : M.Case) (b : Bool) (j : List ℕ) (es : Keyed Entry) → Stays c es → Stays c (changed_at es j (rescind_sent b))
  rescind_stays c b j es i = stays_turned c j (option_map (rescind_sent b)) es (λ y s. ap (λ (x : Entry). Some x) (still c b)) i

  lost_rescind_stays : (c : M.Case) (j : List ℕ) (create : ℕ) (es : Keyed Entry) → Stays c es → Stays c (changed_at es j (λ x. cond (x.create == create) (rescind_sent false x) x))
  lost_rescind_stays c j create es i =
      stays_turned c j (option_map (λ x. cond (x.create == create) (rescind_sent false x) x)) es (λ y s. ap (λ (x : Entry). Some x) (either (λ (x : Entry). x ≡ e c) (M.entry.create == create) (rescind_sent false (e c)) (e c) (still c false) refl)) i

  lost_job_so : (call : ℕ) (o : Option WaitJob) (own : Ownership) → Misses (sends call) → OwnSo own → OwnSo (lost_job call o own).own
  lost_job_so call None own n t = t
  lost_job_so call (Some (job.Rescind j create)) own n t = record { case = t.case; outs = t.outs; there = t.there; over = t.over; mark = t.mark; entry = lost_rescind_stays t.case j create own.entries t.entry }
  lost_job_so call (Some (job.Revoke j)) own n t = loss_so (asks call) (first_by (asks call) own.waits.writes) own refl (asks_miss call) t
  lost_job_so call (Some job.Write) own n t = loss_so (sends call) (first_by (sends call) own.waits.writes) own refl n t

  pub lost_so : (call : ℕ) (own : Ownership) → Misses (sends call) → OwnSo own → OwnSo (lost call own).own
  unfolding lost
  lost_so call own n t = lost_job_so call (job_of call own.waits.out) (without_out call own) n (less_so call own t)

  forgotten_by_so : (p : Write → Bool) (o : Option Write) (own : Ownership) → first_by p own.waits.writes ≡ o → Misses p → OwnSo own → OwnSo (forgotten_by p o own)
  forgotten_by_so p None own f n t = t
  forgotten_by_so p (Some x) own f n t =
      let a = away_of t.case p x own.waits.writes (n.0 t.case) t.over f in
      ended_so own (given_back x own.entries) p n t (either (Stays t.case) (is_due x.stage) (unwrote_entries x own.entries) (left_entries x own.entries) (owned_stays t.case x _ own.entries a t.entry) (owned_stays t.case x _ own.entries a t.entry))

  pub forgotten_so : (ticket : ℕ) (own : Ownership) → Misses (has_ticket ticket) → OwnSo own → OwnSo (forgotten ticket own)
  unfolding forgotten
  forgotten_so ticket own n t = forgotten_by_so (has_ticket ticket) (first_by (has_ticket ticket) own.waits.writes) own refl n t

  -- at a session's end nothing is held
  pub over_so : (own : Ownership) → (h ≡ true → ⊥) → OwnSo own → OwnSo (session_ended own)
  over_so own n t = record {
    case = t.case;
    outs = t.outs;
    there = there_each k M.there (λ x. stage_ended (is_single x.request) x.stage) own.waits.writes (λ x u. unsent_ended (is_single x.request) x.stage u) t.there;
    over = λ y. over_each k (M.mine t.case) (λ x. stage_ended (is_single x.request) x.stage) own.waits.writes (ended_spares (M.mine t.case) (by (any_begun (M.mine t.case)) refl)) (t.over y);
    mark = t.mark;
    entry = λ y. absurd (n y);
  }
    where
      by : (b : Bool) → any_begun (M.mine t.case) ≡ b → b ≡ false
      by true e = absurd (n (M.writes t.case e))
      by false e = refl

  -- what was found is gone
  found_so : (p : List ℕ → Bool) (own : Ownership) (es : Keyed Entry) (t : OwnSo own) → Stays t.case es → OwnSo (found_gone p (record own { entries = es }))
  found_so p own es t i = record {
    case = t.case;
    outs = t.outs;
    there = there_each k M.there (λ x. stage_gone p x.stage) own.waits.writes (λ x u. unsent_gone p x.stage u) t.there;
    over = λ y. over_each k (M.mine t.case) (λ x. stage_gone p x.stage) own.waits.writes (gone_spares p (M.mine t.case)) (t.over y);
    mark = t.mark;
    entry = i;
  }

  -- ---- notices

  mark_other : (j : List ℕ) (f : Bool → Bool) (ss : Keyed Bool) → same j k ≡ false → Mark ss → Mark (changed_at ss j f)
  mark_other j f ss n m = λ y. at_other k j (option_map f (at ss j)) ss n ∙ m y

  put_so : (session : Option ℕ) (j : List ℕ) (create lease : ℕ) (own : Ownership) → (w ≡ true → same j k ≡ false) → OwnSo own → OwnSo (put_noticed session j create lease own)
  put_so session j create lease own n t =
      either OwnSo (is_some (at own.waits.spoiled j)) (acquire_spoiled j own) (record own { entries = with_at own.entries j (revoked_turn session create lease (at own.entries j)) })
      (record { case = t.case; outs = t.outs; there = t.there; over = t.over; mark = λ y. mark_other j (λ s. true) own.waits.spoiled (n (M.marked y)) t.mark y; entry = t.entry })
      (record { case = t.case; outs = t.outs; there = t.there; over = t.over; mark = t.mark; entry = λ y. stays_other t.case j _ own.entries (n (M.holding y)) t.entry y })

  notice_so : (session : Option ℕ) (x : Change) (own : Ownership) → Spares k w h M.entry.create own.waits.prefix x → OwnSo own → OwnSo (noticed session x own)
  notice_so session (change.Put kv) own s t = by (same kv.value revoke_word) refl
    where
      by : (b : Bool) → same kv.value revoke_word ≡ b → OwnSo (cond b (put_noticed session (owned_key own.waits.prefix kv.key) kv.create kv.lease own) own)
      by true g = put_so session (owned_key own.waits.prefix kv.key) kv.create kv.lease own (λ y. s y g) t
      by false g = t
  notice_so session (change.Delete j revision) own s t =
      let i = owned_key own.waits.prefix j in
      found_so (same i) own (with_at own.entries i (deleted_turn revision (at own.entries i))) t
      (stays_turned t.case i (deleted_turn revision) own.entries (λ y g. ap (λ (b : Bool). cond b (deleted_phase (e t.case) (M.phase t.case)) (Some (e t.case))) (s y g)) t.entry)

  notice_prefix : (session : Option ℕ) (x : Change) (own : Ownership) → (noticed session x own).waits.prefix ≡ own.waits.prefix
  notice_prefix session (change.Put kv) own =
      either (λ (o : Ownership). o.waits.prefix ≡ own.waits.prefix) (same kv.value revoke_word) (put_noticed session (owned_key own.waits.prefix kv.key) kv.create kv.lease own) own
      (either (λ (o : Ownership). o.waits.prefix ≡ own.waits.prefix) (is_some (at own.waits.spoiled (owned_key own.waits.prefix kv.key))) (acquire_spoiled (owned_key own.waits.prefix kv.key) own) (record own { entries = with_at own.entries (owned_key own.waits.prefix kv.key) (revoked_turn session kv.create kv.lease (at own.entries (owned_key own.waits.prefix kv.key))) }) refl refl) refl
  notice_prefix session (change.Delete j revision) own = refl

  pub message_so : (session : Option ℕ) (events : List Event) (own : Ownership) → AllSpare k w h M.entry.create own.waits.prefix events → OwnSo own → OwnSo (all_noticed session events own)
  message_so session [] own s t = t
  message_so session (x ∷ xs) own s t =
      message_so session xs (noticed session x.change own) (subst (λ (p : List ℕ). AllSpare k w h M.entry.create p xs) (sym (notice_prefix session x.change own)) s.1) (notice_so session x.change own s.0 t)

  pub resync_so : (own : Ownership) → OwnSo own → OwnSo (resynced own)
  resync_so own t = found_so (λ j. true) own own.entries t t.entry

  pub compaction_so : (own : Ownership) → (w ≡ true → ⊥) → OwnSo own → OwnSo (all_given_up own)
  compaction_so own n t = record { case = t.case; outs = t.outs; there = t.there; over = t.over; mark = λ y. absurd (n (M.marked y)); entry = λ y. absurd (n (M.holding y)) }

  -- ---- a write is handed in, and a job is sent

  pub submitted_so : (ticket : ℕ) (q : Request) (own : Ownership) → (w ≡ true → covered (written_ranges q) k ≡ false) → OwnSo own → OwnSo (submitted ticket q own)
  submitted_so ticket q own c t = record {
    case = t.case;
    outs = t.outs;
    there = there_more k M.there own.waits.writes (new_write ticket q ∷ []) t.there;
    over = λ y. over_more k (M.mine t.case) own.waits.writes (new_write ticket q ∷ []) (t.over y) (both_none (covered (written_ranges q) k) false (c y) refl);
    mark = t.mark;
    entry = t.entry;
  }

  abbrev pub SentSo : Option JobSent → Type 0
  SentSo None = Unit {0}
  SentSo (Some x) = Misses (has_ticket x.due.ticket) → M.Outs x.own.waits.out → OwnSo x.own

  call_so : (call : ℕ) (d : DueCall) (o : Option Write) (own : Ownership) → first_by (has_ticket d.place.number) own.waits.writes ≡ o → OwnSo own → SentSo (call_of call d o own)
  call_so call d None own f t = tt
  call_so call d (Some x) own f t =
      either (λ s. Misses (has_ticket s.due.ticket) → M.Outs s.own.waits.out → OwnSo s.own) (is_revoke d.place.kind) (revoke_job call d x own) (write_job call d x own)
      (λ n q. goes (stage_revoking call d.key x.stage) n q) (λ n q. goes (stage_sent call x.stage) n q)
    where
      is : x.ticket ≡ d.place.number
      is = same_number x.ticket d.place.number (first_passes (has_ticket d.place.number) own.waits.writes x f)

      misses : Misses (has_ticket x.ticket) → Misses (has_ticket d.place.number)
      misses n = subst (λ (i : ℕ). Misses (has_ticket i)) is n

      goes : (s : WriteStage) → Misses (has_ticket x.ticket) → {outs : List WaitCall} → M.Outs outs → OwnSo (record own { waits = record own.waits { writes = with_first (has_ticket d.place.number) s own.waits.writes; out = outs } })
      goes s n q = record {
        case = t.case;
        outs = q;
        there = there_first k M.there (has_ticket d.place.number) s own.waits.writes (misses n).1 t.there;
        over = over_first t.case (has_ticket d.place.number) s own.waits.writes (misses n) t.over;
        mark = t.mark;
        entry = t.entry;
      }

  calls_so : (call : ℕ) (o : Option DueCall) (own : Ownership) → OwnSo own → SentSo (call_sent call o own)
  calls_so call None own t = tt
  calls_so call (Some d) own t = call_so call d (first_by (has_ticket d.place.number) own.waits.writes) own refl t

  sent_so : (call : ℕ) (o : Option (List ℕ × Entry)) (own : Ownership) → OwnSo own → SentSo (job_sent_after call o own)
  sent_so call None own t = calls_so call (first_call own.waits.writes) own t
  sent_so call (Some x) own t = λ n q. record { case = t.case; outs = q; there = t.there; over = t.over; mark = t.mark; entry = rescind_stays t.case true x.0 own.entries t.entry }

  pub job_sent_so : (call : ℕ) (own : Ownership) → OwnSo own → SentSo (job_sent call own)
  unfolding job_sent
  job_sent_so call own t = sent_so call (first_rescind own.entries) own t
