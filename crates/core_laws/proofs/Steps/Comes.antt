-- What a step makes of the writes: each keeps its request and its ticket, and no call stands at it that didn't.
use Rattle.std.proofs.Common.{◌≡◌, ℕ, Bool, true, false, not, cond, ◌&&◌, ◌||◌, List, [], ◌∷◌, map, Some, is_some, refl, sym, ◌∙◌, ap, subst}
use Rattle.std.specs.List.{list_any, list_all}
use Rattle.etcd_types.proofs.Bools.{and_first, and_second, and_both, or_left, or_first, or_second, or_none, not_true, false_not}
use Rattle.proxy_model.specs.declared.lease.Entry.{Entry}
use Rattle.proxy_model.specs.Keyed.{Keyed, at}
use Rattle.wait_model.specs.declared.found.Asking.{Asking}
use Rattle.wait_model.specs.declared.found.Asking.TheVariants as asking
use Rattle.wait_model.specs.declared.found.Found.{Found}
use Rattle.wait_model.specs.declared.sending.Sending.{Sending}
use Rattle.wait_model.specs.declared.sending.Sending.TheVariants as sending
use Rattle.wait_model.specs.declared.wait.WaitCall.{WaitCall}
use Rattle.wait_model.specs.declared.write.Write.{Write}
use Rattle.wait_model.specs.declared.write.WriteStage.{WriteStage}
use Rattle.wait_model.specs.declared.write.WriteStage.TheVariants.{Waiting, Sends, Finds}
use Rattle.wait_model.specs.Covers.{shares, is_by_keys}
use Rattle.wait_model.specs.Edits.{each}
use Rattle.wait_model.specs.Fits.{is_write, is_proper}
use Rattle.wait_model.specs.ForeignOwnership.{asked_back, stage_asked, asking_gone, gone_if, stage_gone}
use Rattle.wait_model.specs.Passes.{goes, turn, passed}
use Rattle.wait_model.specs.Phases.{is_leaving}
use Rattle.wait_model.specs.SessionEnd.{due_again, stage_ended}
use Rattle.wait_model.specs.SeveralKeys.{any_covered, by_ranges, given_up_over, spoiled_over}
use Rattle.wait_model.specs.SingleKeys.{Turn, any_key, keys_begun, by_keys, let_go_leased, begun_over}
use Rattle.wait_model.specs.Stages.{staged, gone_on, is_waiting, is_owner, is_found_over, stage_on}
use Rattle.wait_model.specs.Writes.{first_by, with_first, is_asked_as, stage_sends, stage_asks, sends, asks}
use Rattle.core_laws.proofs.Writes.FoundWrite.{head_found, rest_found}
use Rattle.core_model.specs.Fits.{is_found_out, is_write_out, HaveRanges, WritesOk, goes_on, write_tickets}
use Rattle.core_laws.proofs.Steps.Lists.{all_mapped, any_kept, any_mapped, none_is_one, one, one_is}

pub by_test : {A : Type 0} (P : A → Type 0) (b : Bool) (x y : A) → (b ≡ true → P x) → (b ≡ false → P y) → P (cond b x y)
by_test P true x y f g = f refl
by_test P false x y f g = g refl

-- Stages.

-- no call stands at the second that doesn't at the first
pub record Calms (s t : WriteStage) : Type 0 where
  pub out : (waiting : List WaitCall) → is_write_out waiting s ≡ true → is_write_out waiting t ≡ true
  pub sends : (call : ℕ) → stage_sends call t ≡ true → stage_sends call s ≡ true
  pub asks : (call : ℕ) → stage_asks call t ≡ true → stage_asks call s ≡ true

pub calm_itself : (s : WriteStage) → Calms s s
calm_itself s = record { out = λ waiting h. h; sends = λ call h. h; asks = λ call h. h }

pub calm_waiting : (s : WriteStage) → Calms s Waiting
calm_waiting s = record { out = λ waiting h. refl; sends = λ call h. absurd (cc); asks = λ call h. absurd (cc) }

pub calm_due : (s : WriteStage) (owner : Bool) (since : ℕ) → Calms s (Sends owner (sending.Due since))
calm_due s owner since = record { out = λ waiting h. refl; sends = λ call h. absurd (cc); asks = λ call h. absurd (cc) }

-- of what a write finds
pub record FoundCalms (f g : Found) : Type 0 where
  pub out : (waiting : List WaitCall) → is_found_out waiting f ≡ true → is_found_out waiting g ≡ true
  pub asks : (call : ℕ) → is_asked_as call g ≡ true → is_asked_as call f ≡ true

pub calm_found : (h : Found → Found) → ((f : Found) → FoundCalms f (h f)) → (fs : List Found) → Calms (Finds fs) (Finds (map h fs))
calm_found h c fs = record {
  out = λ waiting t. all_mapped (is_found_out waiting) (is_found_out waiting) h (λ f u. (c f).out waiting u) fs t;
  sends = λ call t. absurd (cc);
  asks = λ call t. any_kept (λ f. is_asked_as call (h f)) (is_asked_as call) (λ f u. (c f).asks call u) fs (sym (any_mapped (is_asked_as call) h fs) ∙ t);
}

asking_calms : (k : List ℕ) (create : ℕ) (a b : Bool) (r : Asking) → FoundCalms (record { key = k; create = create; gone = a; revoke = r }) (record { key = k; create = create; gone = b; revoke = asking_gone r })
asking_calms k create a b (asking.Due since) = record { out = λ waiting t. refl; asks = λ call t. absurd (cc) }
asking_calms k create a b (asking.Out call) = record { out = λ waiting t. t; asks = λ call t. t }
asking_calms k create a b asking.Done = record { out = λ waiting t. refl; asks = λ call t. t }

gone_calms : (b : Bool) (f : Found) → FoundCalms f (gone_if b f)
gone_calms true f = asking_calms f.key f.create f.gone true f.revoke
gone_calms false f = record { out = λ waiting t. t; asks = λ call t. t }

pub stage_gone_calms : (p : List ℕ → Bool) (s : WriteStage) → Calms s (stage_gone p s)
stage_gone_calms p Waiting = calm_itself Waiting
stage_gone_calms p (Sends owner s) = calm_itself (Sends owner s)
stage_gone_calms p (Finds found) = calm_found (λ f. gone_if (p f.key) f) (λ f. gone_calms (p f.key) f) found

back_calms : (call : ℕ) (held : Bool) (f : Found) → FoundCalms f (asked_back call held f)
back_calms call held f = by_test (FoundCalms f) (is_asked_as call f) (record f { gone = f.gone || not held; revoke = asking.Done }) f (λ t. record { out = λ waiting u. refl; asks = λ n u. absurd (cc) }) (λ t. record { out = λ waiting u. u; asks = λ n u. u })

pub stage_asked_calms : (call : ℕ) (held : Bool) (s : WriteStage) → Calms s (stage_asked call held s)
stage_asked_calms call held Waiting = calm_itself Waiting
stage_asked_calms call held (Sends owner s) = calm_itself (Sends owner s)
stage_asked_calms call held (Finds found) = calm_found (asked_back call held) (back_calms call held) found

again_calms : (single : Bool) (s : Sending) → Calms (Sends true s) (due_again single s)
again_calms single (sending.Due since) = by_test (Calms (Sends true (sending.Due since))) single (Sends false (sending.Due since)) Waiting (λ t. calm_due (Sends true (sending.Due since)) false since) (λ t. calm_waiting (Sends true (sending.Due since)))
again_calms single (sending.Out call) = calm_itself (Sends true (sending.Out call))

pub stage_ended_calms : (single : Bool) (s : WriteStage) → Calms s (stage_ended single s)
stage_ended_calms single Waiting = calm_itself Waiting
stage_ended_calms single (Sends true s) = again_calms single s
stage_ended_calms single (Sends false s) = calm_itself (Sends false s)
stage_ended_calms single (Finds found) = calm_itself (Finds found)

stage_on_calms : (s : WriteStage) → Calms s (stage_on s)
stage_on_calms s = by_test (Calms s) (is_found_over s) Waiting s (λ t. calm_waiting s) (λ t. calm_itself s)

-- One write.

pub record Comes (w v : Write) : Type 0 where
  pub ticket : v.ticket ≡ w.ticket
  pub proper : is_proper w ≡ true → is_proper v ≡ true
  pub calm : Calms w.stage v.stage

pub comes_itself : (w : Write) → Comes w w
comes_itself w = record { ticket = refl; proper = λ h. h; calm = calm_itself w.stage }

pub comes_on : (w v u : Write) → Comes w v → Comes v u → Comes w u
comes_on w v u a b = record {
  ticket = b.ticket ∙ a.ticket;
  proper = λ h. b.proper (a.proper h);
  calm = record {
    out = λ waiting h. b.calm.out waiting (a.calm.out waiting h);
    sends = λ call h. a.calm.sends call (b.calm.sends call h);
    asks = λ call h. a.calm.asks call (b.calm.asks call h);
  };
}

pub proper_staged : (w : Write) (s : WriteStage) → (is_owner s ≡ true → is_owner w.stage ≡ true) → is_proper w ≡ true → is_proper (staged w s) ≡ true
proper_staged w s o h = and_both (is_write w.request) (is_by_keys w || not (is_owner s)) (and_first (is_write w.request) (is_by_keys w || not (is_owner w.stage)) h) (by_keys (is_by_keys w) (is_owner s) refl (and_second (is_write w.request) (is_by_keys w || not (is_owner w.stage)) h))
  where
    by_keys : (b c : Bool) → is_owner s ≡ c → b || not (is_owner w.stage) ≡ true → b || not c ≡ true
    by_keys true c e h = refl
    by_keys false true e h = absurd (let t = o e in let u = not_true (is_owner w.stage) h in cc)
    by_keys false false e h = refl

pub comes_staged : (w : Write) (s : WriteStage) → (is_owner s ≡ true → is_owner w.stage ≡ true) → Calms w.stage s → Comes w (staged w s)
comes_staged w s o c = record { ticket = refl; proper = λ h. proper_staged w s o h; calm = c }

-- of single keys it may become an owner's
comes_by_keys : (w : Write) (owner : Bool) (step : ℕ) → is_by_keys w ≡ true → Comes w (gone_on step owner w)
comes_by_keys w owner step k = record {
  ticket = refl;
  proper = λ h. and_both (is_write w.request) (is_by_keys w || not owner) (and_first (is_write w.request) (is_by_keys w || not (is_owner w.stage)) h) (or_left (is_by_keys w) (not owner) k);
  calm = calm_due w.stage owner step;
}

pub owner_gone : (p : List ℕ → Bool) (s : WriteStage) → is_owner (stage_gone p s) ≡ true → is_owner s ≡ true
owner_gone p Waiting t = t
owner_gone p (Sends owner s) t = t
owner_gone p (Finds found) t = t

pub owner_ended : (single : Bool) (s : WriteStage) → is_owner (stage_ended single s) ≡ true → is_owner s ≡ true
owner_ended single Waiting t = t
owner_ended single (Sends true s) t = refl
owner_ended single (Sends false s) t = t
owner_ended single (Finds found) t = t

pub owner_asked : (call : ℕ) (held : Bool) (s : WriteStage) → is_owner (stage_asked call held s) ≡ true → is_owner s ≡ true
owner_asked call held Waiting t = t
owner_asked call held (Sends owner s) t = t
owner_asked call held (Finds found) t = t

owner_on : (s : WriteStage) → is_owner (stage_on s) ≡ true → is_owner s ≡ true
owner_on s = by_test (λ (x : WriteStage). is_owner x ≡ true → is_owner s ≡ true) (is_found_over s) Waiting s (λ t u. absurd (cc)) (λ t u. u)

-- All of them.

abbrev pub AllCome : List Write → List Write → Type 0
AllCome [] [] = Unit {0}
AllCome [] (v ∷ vs) = ⊥
AllCome (w ∷ ws) [] = ⊥
AllCome (w ∷ ws) (v ∷ vs) = Comes w v × AllCome ws vs

pub all_itself : (ws : List Write) → AllCome ws ws
all_itself [] = tt
all_itself (w ∷ ws) = (comes_itself w, all_itself ws)

pub all_on : (ws vs us : List Write) → AllCome ws vs → AllCome vs us → AllCome ws us
all_on [] [] us a b = b
all_on [] (v ∷ vs) us a b = absurd a
all_on (w ∷ ws) [] us a b = absurd a
all_on (w ∷ ws) (v ∷ vs) [] a b = absurd b
all_on (w ∷ ws) (v ∷ vs) (u ∷ us) a b = (comes_on w v u a.0 b.0, all_on ws vs us a.1 b.1)

pub all_staged : (g : Write → WriteStage) → ((w : Write) → is_owner (g w) ≡ true → is_owner w.stage ≡ true) → ((w : Write) → Calms w.stage (g w)) → (ws : List Write) → AllCome ws (map (λ w. staged w (g w)) ws)
all_staged g o c [] = tt
all_staged g o c (w ∷ ws) = (comes_staged w (g w) (o w) (c w), all_staged g o c ws)

pub first_staged : (p : Write → Bool) (w : Write) (s : WriteStage) → (is_owner s ≡ true → is_owner w.stage ≡ true) → Calms w.stage s → (ws : List Write) → first_by p ws ≡ Some w → AllCome ws (with_first p s ws)
first_staged p w s o c [] f = absurd (cc)
first_staged p w s o c (v ∷ vs) f =
    by_test (AllCome (v ∷ vs)) (p v) (staged v s ∷ vs) (v ∷ with_first p s vs)
    (λ t. (subst (λ (x : Write). Comes x (staged x s)) (sym (head_found p v w vs t f)) (comes_staged w s o c), all_itself vs))
    (λ t. (comes_itself v, first_staged p w s o c vs (rest_found p v w vs t f)))

pub come_tickets : (ws vs : List Write) → AllCome ws vs → write_tickets vs ≡ write_tickets ws
come_tickets [] [] h = refl
come_tickets [] (v ∷ vs) h = absurd h
come_tickets (w ∷ ws) [] h = absurd h
come_tickets (w ∷ ws) (v ∷ vs) h = ap (λ n. n ∷ write_tickets vs) h.0.ticket ∙ ap (λ l. w.ticket ∷ l) (come_tickets ws vs h.1)

come_all : (P : Write → Bool) → ((w v : Write) → Comes w v → P w ≡ true → P v ≡ true) → (ws vs : List Write) → AllCome ws vs → list_all P ws ≡ true → list_all P vs ≡ true
come_all P f [] [] h a = refl
come_all P f [] (v ∷ vs) h a = absurd h
come_all P f (w ∷ ws) [] h a = absurd h
come_all P f (w ∷ ws) (v ∷ vs) h a = and_both (P v) (list_all P vs) (f w v h.0 (and_first (P w) (list_all P ws) a)) (come_all P f ws vs h.1 (and_second (P w) (list_all P ws) a))

-- what none of them does, none does after
pub come_none : (p : Write → Bool) → ((w v : Write) → Comes w v → p v ≡ true → p w ≡ true) → (ws vs : List Write) → AllCome ws vs → list_any p ws ≡ false → list_any p vs ≡ false
come_none p f [] [] h a = refl
come_none p f [] (v ∷ vs) h a = absurd h
come_none p f (w ∷ ws) [] h a = absurd h
come_none p f (w ∷ ws) (v ∷ vs) h a = or_none (p v) (list_any p vs) (by_value (p v) refl) (come_none p f ws vs h.1 (or_second (p w) (list_any p ws) a))
  where
    by_value : (b : Bool) → p v ≡ b → p v ≡ false
    by_value true t = absurd (let u = f w v h.0 t in let n = or_first (p w) (list_any p ws) a in cc)
    by_value false t = t

come_one : (p : Write → Bool) → ((w v : Write) → Comes w v → p v ≡ true → p w ≡ true) → (ws vs : List Write) → AllCome ws vs → one p ws ≡ true → one p vs ≡ true
come_one p f [] [] h a = refl
come_one p f [] (v ∷ vs) h a = absurd h
come_one p f (w ∷ ws) [] h a = absurd h
come_one p f (w ∷ ws) (v ∷ vs) h a = by_both (λ t. come_one p f ws vs h.1 t) (p v) refl (p w) refl a
  where
    by_both : (one p ws ≡ true → one p vs ≡ true) → (b : Bool) → p v ≡ b → (c : Bool) → p w ≡ c → cond c (not (list_any p ws)) (one p ws) ≡ true → cond b (not (list_any p vs)) (one p vs) ≡ true
    by_both i true t true u a = false_not (list_any p vs) (come_none p f ws vs h.1 (not_true (list_any p ws) a))
    by_both i true t false u a = absurd (let x = f w v h.0 t in cc)
    by_both i false t true u a = i (sym (one_is p ws) ∙ none_is_one p ws (not_true (list_any p ws) a))
    by_both i false t false u a = i a

pub come_writes : (ws vs : List Write) (waiting : List WaitCall) → AllCome ws vs → HaveRanges vs → WritesOk ws waiting → WritesOk vs waiting
come_writes ws vs waiting a r h = record {
  proper = come_all is_proper (λ w v c t. c.proper t) ws vs a h.proper;
  ranges = r;
  out = come_all (λ w. is_write_out waiting w.stage) (λ w v c t. c.calm.out waiting t) ws vs a h.out;
  sends_once = λ call. one_is (sends call) vs ∙ come_one (sends call) (λ w v c t. c.calm.sends call t) ws vs a (sym (one_is (sends call) ws) ∙ h.sends_once call);
  asks_once = λ call. one_is (asks call) vs ∙ come_one (asks call) (λ w v c t. c.calm.asks call t) ws vs a (sym (one_is (asks call) ws) ∙ h.asks_once call);
}

-- A pass.

keys_come : (step : ℕ) (es : Keyed Entry) (ss : Keyed Bool) (w : Write) → is_by_keys w ≡ true → Comes w (keys_begun step es ss w).write
keys_come step es ss w k =
    by_test (λ (t : Turn). Comes w t.write) (any_key w (λ j. is_leaving (at es j))) (record { entries = es; spoiled = ss; write = w }) (record { entries = each (begun_over w) es; spoiled = ss; write = gone_on step (any_key w (λ j. is_some (at es j))) w })
    (λ t. comes_itself w) (λ t. comes_by_keys w (any_key w (λ j. is_some (at es j))) step k)

by_keys_come : (step : ℕ) (es : Keyed Entry) (ss : Keyed Bool) (w : Write) → is_by_keys w ≡ true → Comes w (by_keys step es ss w).write
by_keys_come step es ss w k =
    by_test (λ (t : Turn). Comes w t.write) (any_key w (λ j. is_some (at ss j))) (record { entries = es; spoiled = ss; write = w }) (keys_begun step (each (let_go_leased w) es) ss w)
    (λ t. comes_itself w) (λ t. keys_come step (each (let_go_leased w) es) ss w k)

by_ranges_come : (step : ℕ) (es : Keyed Entry) (ss : Keyed Bool) (w : Write) → Comes w (by_ranges step es ss w).write
by_ranges_come step es ss w =
    by_test (Comes w) (any_covered w (each (given_up_over w) es) || any_covered w (each (spoiled_over w) ss)) w (gone_on step false w)
    (λ t. comes_itself w) (λ t. comes_staged w (Sends false (sending.Due step)) (λ u. absurd (cc)) (calm_due w.stage false step))

goes_come : (step : ℕ) (es : Keyed Entry) (ss : Keyed Bool) (w : Write) → Comes w (goes step es ss w).write
goes_come step es ss w =
    by_test (λ (t : Turn). Comes w t.write) (is_by_keys w) (by_keys step es ss w) (by_ranges step es ss w) (λ t. by_keys_come step es ss w t) (λ t. by_ranges_come step es ss w)

turn_comes : (step : ℕ) (earlier : List Write) (es : Keyed Entry) (ss : Keyed Bool) (w : Write) → Comes w (turn step earlier es ss w).write
turn_comes step earlier es ss w =
    let v = staged w (stage_on w.stage) in
    let c = comes_staged w (stage_on w.stage) (owner_on w.stage) (stage_on_calms w.stage) in
    by_test (λ (t : Turn). Comes w t.write) (is_waiting v.stage && not (list_any (shares w) earlier)) (goes step es ss v) (record { entries = es; spoiled = ss; write = v })
    (λ t. comes_on w v (goes step es ss v).write c (goes_come step es ss v)) (λ t. c)

pub passed_come : (step : ℕ) (earlier : List Write) (es : Keyed Entry) (ss : Keyed Bool) (ws : List Write) → AllCome ws (passed step earlier es ss ws).writes
unfolding passed
passed_come step earlier es ss [] = tt
passed_come step earlier es ss (w ∷ ws) =
    let t = turn step earlier es ss w in
    (turn_comes step earlier es ss w, passed_come step (t.write ∷ earlier) t.entries t.spoiled ws)

-- none waits after it for owners that are gone

stage_goes : (s : WriteStage) → not (is_found_over (stage_on s)) ≡ true
stage_goes s = by_test (λ (x : WriteStage). not (is_found_over x) ≡ true) (is_found_over s) Waiting s (λ t. refl) (λ t. false_not (is_found_over s) t)

turn_goes : (step : ℕ) (earlier : List Write) (es : Keyed Entry) (ss : Keyed Bool) (w : Write) → goes_on (turn step earlier es ss w).write ≡ true
turn_goes step earlier es ss w =
    let v = staged w (stage_on w.stage) in
    let g = stage_goes w.stage in
    by_test (λ (t : Turn). goes_on t.write ≡ true) (is_waiting v.stage && not (list_any (shares w) earlier)) (goes step es ss v) (record { entries = es; spoiled = ss; write = v })
    (λ t. by_test (λ (t : Turn). goes_on t.write ≡ true) (is_by_keys v) (by_keys step es ss v) (by_ranges step es ss v) (λ u. keys_go v g) (λ u. ranges_go v g))
    (λ t. g)
  where
    keys_go : (v : Write) → goes_on v ≡ true → goes_on (by_keys step es ss v).write ≡ true
    keys_go v g =
        by_test (λ (t : Turn). goes_on t.write ≡ true) (any_key v (λ j. is_some (at ss j))) (record { entries = es; spoiled = ss; write = v }) (keys_begun step (each (let_go_leased v) es) ss v)
        (λ t. g)
        (λ t. by_test (λ (t : Turn). goes_on t.write ≡ true) (any_key v (λ j. is_leaving (at (each (let_go_leased v) es) j))) (record { entries = each (let_go_leased v) es; spoiled = ss; write = v }) (record { entries = each (begun_over v) (each (let_go_leased v) es); spoiled = ss; write = gone_on step (any_key v (λ j. is_some (at (each (let_go_leased v) es) j))) v }) (λ u. g) (λ u. refl))

    ranges_go : (v : Write) → goes_on v ≡ true → goes_on (by_ranges step es ss v).write ≡ true
    ranges_go v g =
        by_test (λ (x : Write). goes_on x ≡ true) (any_covered v (each (given_up_over v) es) || any_covered v (each (spoiled_over v) ss)) v (gone_on step false v) (λ t. g) (λ t. refl)

pub passed_goes : (step : ℕ) (earlier : List Write) (es : Keyed Entry) (ss : Keyed Bool) (ws : List Write) → list_all goes_on (passed step earlier es ss ws).writes ≡ true
unfolding passed
passed_goes step earlier es ss [] = refl
passed_goes step earlier es ss (w ∷ ws) =
    let t = turn step earlier es ss w in
    and_both (goes_on t.write) (list_all goes_on (passed step (t.write ∷ earlier) t.entries t.spoiled ws).writes) (turn_goes step earlier es ss w) (passed_goes step (t.write ∷ earlier) t.entries t.spoiled ws)
