-- Answers, losses, and the end of a session keep what holds of each key.
use Rattle.std.proofs.Common.{◌≡◌, ℕ, Bool, true, false, not, cond, ◌&&◌, List, [], ◌∷◌, filter, Option, None, Some, is_some, refl, ◌∙◌, ap, subst}
use Rattle.std.specs.List.{list_all}
use Rattle.etcd_types.specs.Keys.{same}
use Rattle.etcd_types.proofs.KeyOrder.{same-equal, same-itself}
use Rattle.proxy_model.specs.declared.lease.Entry.{Entry}
use Rattle.proxy_model.specs.declared.lease.Phase.{Phase}
use Rattle.proxy_model.specs.declared.lease.Phase.TheVariants.{Held, Writing, Leaving}
use Rattle.proxy_model.specs.declared.ownership.Owner.{Owner}
use Rattle.proxy_model.specs.Keyed.{Keyed, at, with_at}
use Rattle.std.specs.Option.{option_map}
use Rattle.proxy_model.specs.LeaseTable.{is_writing, is_writing_phase, phase_after_write, phase_left, unwritten, leaving}
use Rattle.proxy_model.specs.LeaseTable as table
use Rattle.proxy_model.proofs.KeyedLaws.{at-with_at}
use Rattle.wait_model.specs.declared.write.Write.{Write}
use Rattle.wait_model.specs.declared.write.WriteStage.{WriteStage}
use Rattle.wait_model.specs.declared.write.WriteStage.TheVariants.{Waiting, Finds}
use Rattle.wait_model.specs.Covers.{covers, is_single}
use Rattle.wait_model.specs.Edits.{without}
use Rattle.wait_model.specs.Fits.{StageOk, KeyOk, Fits}
use Rattle.wait_model.specs.ForeignOwnership.{is_own, owned_left, by_key}
use Rattle.wait_model.specs.GuardedAnswers.{ended_by, staged_by, owns, change_owned, is_gone, is_kept, kept_entries, failed}
use Rattle.wait_model.specs.Phases.{if_written, own_entry}
use Rattle.wait_model.specs.Stages.{is_waiting, is_owner}
use Rattle.wait_model.specs.State.{Ownership}
use Rattle.wait_model.specs.Writes.{first_by, without_first, with_first}
use Rattle.etcd_types.proofs.Bools.{and_both, and_first, and_second}
use Rattle.wait_model.proofs.Tables.{at-each, at-without}
use Rattle.core_laws.proofs.Writes.Phases.{some-mapped}
use Rattle.core_laws.proofs.Writes.Passes.{moved_key}
use Rattle.core_laws.proofs.Writes.FoundWrite.{found_here, found_away}

-- What the end of an active write, or another stage of it, does at a key: nothing where it doesn't cover the key.
pub record EndAt (c : Bool) (e : Option Entry) (s : Option Bool) (stage : WriteStage) (f : Option Entry) (next : WriteStage) : Type 0 where
  pub away : c ≡ false → f ≡ e
  pub ok : c ≡ true → is_waiting stage ≡ false → StageOk e s stage → StageOk f s next

pub ends_keep : (own : Ownership) (es : Keyed Entry) (p : Write → Bool) (w : Write) → first_by p own.waits.writes ≡ Some w → is_waiting w.stage ≡ false → ((k : List ℕ) → EndAt (covers w k) (at own.entries k) (at own.waits.spoiled k) w.stage (at es k) Waiting) → Fits own → Fits (ended_by own es p)
ends_keep own es p w f a x h k =
    let e = at own.entries k in
    let s = at own.waits.spoiled k in
    elim (covers w k) as (λ b. covers w k ≡ b → KeyOk (at es k) s (without_first p own.waits.writes) k) [
      | true ↦ λ c. let i = found_here p w own.waits.writes e s k f c a (h k) in i.removed (at es k) ((x k).ok c a i.ok)
      | false ↦ λ c. moved_key e (at es k) s s (without_first p own.waits.writes) k ((x k).away c) refl (found_away p w own.waits.writes Waiting e s k f c (h k)).1
    ] refl

pub stages_keep : (own : Ownership) (es : Keyed Entry) (p : Write → Bool) (w : Write) (next : WriteStage) → first_by p own.waits.writes ≡ Some w → is_waiting w.stage ≡ false → ((k : List ℕ) → EndAt (covers w k) (at own.entries k) (at own.waits.spoiled k) w.stage (at es k) next) → Fits own → Fits (staged_by own es p next)
stages_keep own es p w next f a x h k =
    let e = at own.entries k in
    let s = at own.waits.spoiled k in
    elim (covers w k) as (λ b. covers w k ≡ b → KeyOk (at es k) s (with_first p next own.waits.writes) k) [
      | true ↦ λ c. let i = found_here p w own.waits.writes e s k f c a (h k) in i.restaged (at es k) next ((x k).ok c a i.ok)
      | false ↦ λ c. moved_key e (at es k) s s (with_first p next own.waits.writes) k ((x k).away c) refl (found_away p w own.waits.writes next e s k f c (h k)).0
    ] refl

-- A change of the entries that an owner's call is about, after which none of them is being written.

abbrev pub Calms : (Entry → Entry) → Type 0
Calms f = (e : Entry) → is_writing_phase (f e).phase ≡ false

calm_after_write : (p : Phase) → is_writing_phase (phase_after_write p) ≡ false
calm_after_write Held = refl
calm_after_write (Writing true) = refl
calm_after_write (Writing false) = refl
calm_after_write (Leaving sent) = refl

calm_left : (p : Phase) → is_writing_phase (phase_left p) ≡ false
calm_left Held = refl
calm_left (Writing revoked) = refl
calm_left (Leaving sent) = refl

pub written_calms : (kv : Entry → Option _) → Calms (λ e. table.written (kv e) e)
written_calms kv e = calm_after_write e.phase

pub unwritten_calms : Calms unwritten
unwritten_calms e = calm_after_write e.phase

pub leaving_calms : Calms leaving
leaving_calms e = calm_left e.phase

calmed : (o : Bool) (f : Entry → Entry) → Calms f → (e : Option Entry) → (is_writing e ≡ true → o ≡ true) → is_writing (option_map (if_written o f) e) ≡ false
calmed o f c None w = refl
calmed o f c (Some x) w = inner o (is_writing_phase x.phase) w refl
  where
    inner : (o b : Bool) → (b ≡ true → o ≡ true) → is_writing_phase x.phase ≡ b → is_writing_phase (cond (o && b) (f x) x).phase ≡ false
    inner true true w e = c x
    inner true false w e = e
    inner false true w e = absurd (let a = w refl in cc)
    inner false false w e = e

not_owned : (o c : Bool) → c ≡ false → o && c ≡ false
not_owned true c e = e
not_owned false c e = refl

owned : (o c : Bool) → c ≡ true → o ≡ true → o && c ≡ true
owned o c e f = and_both o c f e

pub unchanged : (b : Bool) (f : Entry → Entry) (e : Option Entry) → b ≡ false → option_map (if_written b f) e ≡ e
unchanged true f e h = absurd (cc)
unchanged false f None h = refl
unchanged false f (Some x) h = refl

pub calms_at : (f : Entry → Entry) → Calms f → (c : Bool) (e : Option Entry) (s : Option Bool) (stage : WriteStage) → EndAt c e s stage (option_map (if_written (is_owner stage && c) f) e) Waiting
calms_at f q c e s stage = record {
  away = λ h. unchanged (is_owner stage && c) f e (not_owned (is_owner stage) c h);
  ok = λ h a o. record {
    apart = λ t. some-mapped (if_written (is_owner stage && c) f) e ∙ o.apart t;
    free = λ t. absurd (cc);
    writer = λ t. let n = calmed (is_owner stage && c) f q e (λ w. owned (is_owner stage) c h (o.writer w)) in absurd (cc);
  };
}

-- an answer that ends a write, and changes the entries that it owns so, keeps what holds of each key
pub change_keeps : (own : Ownership) (p : Write → Bool) (w : Write) (f : List ℕ → Entry → Entry) → ((k : List ℕ) → Calms (f k)) → first_by p own.waits.writes ≡ Some w → is_waiting w.stage ≡ false → Fits own → Fits (ended_by own (change_owned w f own.entries) p)
change_keeps own p w f q g a h =
    ends_keep own (change_owned w f own.entries) p w g a (λ k. rw (at-each (λ j e. if_written (owns w j) (f j) e) own.entries k) (calms_at (f k) (q k) (covers w k) (at own.entries k) (at own.waits.spoiled k) w.stage)) h

-- and one that leaves the entries alone, where the write owns none
pub ends_at : (c : Bool) (e : Option Entry) (s : Option Bool) (stage : WriteStage) → is_owner stage ≡ false → EndAt c e s stage e Waiting
ends_at c e s stage n = record {
  away = λ _. refl;
  ok = λ h a o. record { apart = o.apart; free = λ t. absurd (cc); writer = λ t. let w = o.writer t in absurd (cc) };
}

-- The write fails as the owner of one key: its entry is gone, and it is sent as a guest's.

gone_at : (c : Bool) (e : Option Entry) (s : Option Bool) (stage next : WriteStage) → EndAt c e s stage (cond ((is_owner stage && c) && is_writing e) None e) next
gone_at c e s stage next = record {
  away = λ h. kept (is_owner stage) (is_writing e) h;
  ok = λ h a o. record {
    apart = λ t. let n = o.free a in absurd (cc);
    free = λ t. o.free a;
    writer = λ t. let n = none (is_owner stage) h o.writer in absurd (cc);
  };
}
  where
    kept : (o b : Bool) → c ≡ false → cond ((o && c) && b) None e ≡ e
    kept true b h = rw h refl
    kept false b h = refl

    none : (o : Bool) → c ≡ true → (is_writing e ≡ true → o ≡ true) → is_writing (cond ((o && c) && is_writing e) None e) ≡ false
    none o h w = rw h (inner o (is_writing e) w refl)
      where
        inner : (o b : Bool) → (b ≡ true → o ≡ true) → is_writing e ≡ b → is_writing (cond ((o && true) && b) None e) ≡ false
        inner true true w q = refl
        inner true false w q = q
        inner false true w q = absurd (let a = w refl in cc)
        inner false false w q = q

-- It fails otherwise: what it owns is held again or gone, and the owners found are handled.

is_none : {A : Type 0} → Option A → Type 0
is_none o = is_some o ≡ false

kept_calm : (o g : Bool) (e : Option Entry) → (is_writing e ≡ true → o ≡ true) → is_writing (option_map (if_written o unwritten) (cond g None e)) ≡ false
kept_calm o true e w = refl
kept_calm o false e w = calmed o unwritten unwritten_calms e w

kept_away : (o c b d : Bool) (e : Option Entry) → c ≡ false → option_map (if_written (o && c) unwritten) (cond ((o && c) && b && d) None e) ≡ e
kept_away true c b d e h = rw h (unchanged false unwritten e refl)
kept_away false c b d e h = unchanged false unwritten e refl

kept_at : (w : Write) (os : List Owner) (es : Keyed Entry) (k : List ℕ) → at (kept_entries w os es) k ≡ option_map (if_written (owns w k) unwritten) (cond (is_gone w es os k) None (at es k))
kept_at w os es k =
    at-each (λ j e. if_written (owns w j) unwritten e) (without (is_gone w es os) es) k ∙ ap (option_map (if_written (owns w k) unwritten)) (at-without (is_gone w es os) es k)

left_here : (b c : Bool) (x : Entry) (e : Option Entry) → is_writing_phase x.phase ≡ false → is_writing e ≡ false → is_writing (cond b (cond c (Some x) e) e) ≡ false
left_here true true x e h w = h
left_here true false x e h w = w
left_here false c x e h w = w

at_cond : (b : Bool) (es fs : Keyed Entry) (k : List ℕ) → at (cond b es fs) k ≡ cond b (at es k) (at fs k)
at_cond true es fs k = refl
at_cond false es fs k = refl

left_step : (session : Option ℕ) (o : List ℕ × Owner) (es : Keyed Entry) (k : List ℕ) → at (cond (is_own session es o) (with_at es o.0 (Some (own_entry o.1.create))) es) k ≡ cond (is_own session es o) (cond (same o.0 k) (Some (own_entry o.1.create)) (at es k)) (at es k)
left_step session o es k =
    at_cond (is_own session es o) _ es k ∙ ap (λ x. cond (is_own session es o) x (at es k)) (at-with_at es o.0 k (Some (own_entry o.1.create)))

-- those that leave aren't being written
left_calm : (session : Option ℕ) (os : Keyed Owner) (es : Keyed Entry) (k : List ℕ) → is_writing (at es k) ≡ false → is_writing (at (owned_left session os es) k) ≡ false
left_calm session [] es k w = w
left_calm session (o ∷ os) es k w =
    left_calm session os (cond (is_own session es o) (with_at es o.0 (Some (own_entry o.1.create))) es) k (ap is_writing (left_step session o es k) ∙ left_here (is_own session es o) (same o.0 k) (own_entry o.1.create) (at es k) refl w)

same_turned : (a b : List ℕ) → same a b ≡ false → same b a ≡ false
same_turned a b h =
    elim (same b a) as (λ c. same b a ≡ c → same b a ≡ false) [
      | true ↦ λ t. let e = subst (λ (x : List ℕ). same x b ≡ true) (same-equal b a t) (same-itself b) in absurd (cc)
      | false ↦ λ t. t
    ] refl

none_here : {A : Type 0} (b : Bool) (x : A) (o : Option A) → is_some (cond b (Some x) o) ≡ false → (b ≡ false) × (is_some o ≡ false)
none_here true x o h = absurd (cc)
none_here false x o h = (refl, h)

-- and where no owner was found at the key, nothing is changed
left_away : (session : Option ℕ) (os : Keyed Owner) (es : Keyed Entry) (k : List ℕ) → is_some (at os k) ≡ false → at (owned_left session os es) k ≡ at es k
left_away session [] es k n = refl
left_away session (o ∷ os) es k n =
    let h = none_here (same k o.0) o.1 (at os k) n in
    left_away session os (cond (is_own session es o) (with_at es o.0 (Some (own_entry o.1.create))) es) k h.1 ∙ left_step session o es k ∙ ap (λ b. cond (is_own session es o) (cond b (Some (own_entry o.1.create)) (at es k)) (at es k)) (same_turned k o.0 h.0) ∙ alike (is_own session es o) (at es k)
  where
    alike : (b : Bool) (e : Option Entry) → cond b e e ≡ e
    alike true e = refl
    alike false e = refl

differs : (q : List ℕ → Bool) (j k : List ℕ) → q j ≡ true → q k ≡ false → same j k ≡ false
differs q j k t n =
    elim (same j k) as (λ c. same j k ≡ c → same j k ≡ false) [
      | true ↦ λ s. let e = subst (λ (x : List ℕ). q x ≡ true) (same-equal j k s) t in absurd (cc)
      | false ↦ λ s. s
    ] refl

by_key_away : (q : List ℕ → Bool) (m : Keyed Owner) (os : List Owner) (k : List ℕ) → is_some (at m k) ≡ false → list_all (λ o. q o.key) os ≡ true → q k ≡ false → is_some (at (by_key m os) k) ≡ false
by_key_away q m [] k n a c = n
by_key_away q m (o ∷ os) k n a c =
    by_key_away q (with_at m o.key (Some o)) os k
    (ap is_some (at-with_at m o.key k (Some o)) ∙ ap (λ b. is_some (cond b (Some o) (at m k))) (differs q o.key k (and_first (q o.key) (list_all (λ x. q x.key) os) a) c) ∙ n)
    (and_second (q o.key) (list_all (λ x. q x.key) os) a) c

all_filtered : {A : Type 0} (q f : A → Bool) (xs : List A) → list_all q xs ≡ true → list_all q (filter f xs) ≡ true
all_filtered q f [] h = h
all_filtered q f (x ∷ xs) h =
    by_kept (f x) (and_first (q x) (list_all q xs) h) (all_filtered q f xs (and_second (q x) (list_all q xs) h))
  where
    by_kept : (b : Bool) → q x ≡ true → list_all q (filter f xs) ≡ true → list_all q (cond b (x ∷ filter f xs) (filter f xs)) ≡ true
    by_kept true h i = and_both (q x) (list_all q (filter f xs)) h i
    by_kept false h i = i

finding_at : (session : Option ℕ) (w : Write) (os : List Owner) (ms : Keyed Owner) (es : Keyed Entry) (k : List ℕ) (s : Option Bool) (found : _) → (covers w k ≡ false → is_some (at ms k) ≡ false) → EndAt (covers w k) (at es k) s w.stage (at (owned_left session ms (kept_entries w os es)) k) (Finds found)
finding_at session w os ms es k s found n = record {
  away = λ c. left_away session ms (kept_entries w os es) k (n c) ∙ kept_at w os es k ∙ kept_away (is_owner w.stage) (covers w k) (is_writing (at es k)) _ (at es k) c;
  ok = λ c a o. record {
    apart = λ t. let x = o.free a in absurd (cc);
    free = λ t. o.free a;
    writer = λ t. let x = left_calm session ms (kept_entries w os es) k (ap is_writing (kept_at w os es k) ∙ kept_calm (owns w k) (is_gone w es os k) (at es k) (λ h. owned (is_owner w.stage) (covers w k) c (o.writer h))) in absurd (cc);
  };
}

pub failed_keeps : (session : Option ℕ) (p : Write → Bool) (w : Write) (os : List Owner) (own : Ownership) → first_by p own.waits.writes ≡ Some w → is_waiting w.stage ≡ false → list_all (λ o. covers w o.key) os ≡ true → Fits own → Fits (failed session p w os own)
failed_keeps session p w os own f a v h =
    let ms = by_key [] (filter (λ o. not (is_kept w own.entries os o.key)) os) in
    by_test (is_owner w.stage && is_single w.request) _ _
    (stages_keep own (without (λ k. owns w k && is_writing (at own.entries k)) own.entries) p w _ f a (λ k. rw (at-without (λ j. owns w j && is_writing (at own.entries j)) own.entries k) (gone_at (covers w k) (at own.entries k) (at own.waits.spoiled k) w.stage _)) h)
    (stages_keep own (owned_left session ms (kept_entries w os own.entries)) p w _ f a (λ k. finding_at session w os ms own.entries k (at own.waits.spoiled k) _ (λ c. by_key_away (covers w) [] (filter (λ o. not (is_kept w own.entries os o.key)) os) k refl (all_filtered (λ o. covers w o.key) (λ o. not (is_kept w own.entries os o.key)) os v) c)) h)
  where
    by_test : (b : Bool) (x y : Ownership) → Fits x → Fits y → Fits (cond b x y)
    by_test true x y i j = i
    by_test false x y i j = j
