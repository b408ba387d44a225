-- A key that is watched, among what reads wait on: releases, ends of sessions and of requests, acquires, and answers leave it so.
use Rattle.std.proofs.Common.{◌≡◌, ◌⊎◌, inl, inr, ℕ, ◌==◌, Bool, true, false, cond, not, ◌&&◌, ◌||◌, List, [], ◌∷◌, map, Option, None, Some, is_some, refl, sym, ◌∙◌, ap, subst}
use Rattle.std.specs.List.{list_any}
use Rattle.etcd_types.specs.declared.answer.Answer.{Answer}
use Rattle.etcd_types.specs.declared.answer.Answer.TheVariants as answer
use Rattle.etcd_types.specs.declared.code.TheConstants.{NOT_FOUND}
use Rattle.etcd_types.specs.declared.record.Header.{Header}
use Rattle.etcd_types.specs.Keys.{same}
use Rattle.etcd_types.proofs.KeyOrder.{same-equal, same-itself}
use Rattle.proxy_model.specs.declared.lease.Entry.{Entry}
use Rattle.proxy_model.specs.declared.ownership.Claim.{Claim}
use Rattle.proxy_model.specs.declared.ownership.Claim.TheVariants.{Acquired, OwnedBy}
use Rattle.proxy_model.specs.Acquire.{claimed}
use Rattle.proxy_model.specs.Keyed.{Keyed, at, with_at, changed_at}
use Rattle.proxy_model.proofs.KeyedLaws.{at-with_at}
use Rattle.wait_model.specs.declared.sending.Sending.TheVariants as sending
use Rattle.wait_model.specs.Asked.{acquire_begun}
use Rattle.wait_model.specs.Edits.{without}
use Rattle.wait_model.specs.Endings.{answered, lost, forgotten}
use Rattle.wait_model.specs.GuardedAnswers.{Ending}
use Rattle.wait_model.specs.Phases.{is_session}
use Rattle.wait_model.specs.State.{Ownership}
use Rattle.wait_model.specs.Writes.{sends, has_ticket}
use Rattle.wait_model.proofs.Tables.{at-without}
use Rattle.read_model.specs.declared.acquire.Acquire.{Acquire}
use Rattle.read_model.specs.declared.asked.Asked.{Asked}
use Rattle.read_model.specs.Acquires.{told, acquire_gone, with_entry, won, found_own, acquired, owned_by, acquire_done, AfterAcquire, done_by, acquire_refused, is_to_be_held, answered_acquire, acquire_answered, told_lost, acquire_lost, sent_out, acquire_sent}
use Rattle.read_model.specs.PlainRead.{ask_key, is_written, is_ownable, is_restful, is_free, acquirable, read_turn, decision, begun_under, decided_ground}
use Rattle.read_model.specs.Release.{ask_stands, released_ground, released_from, released}
use Rattle.read_model.specs.SessionEnd.{is_due_acquire, dropped, over, session_over}
use Rattle.read_model.specs.State.{Reads, Moment, Ground, ground_of, on}
use Rattle.read_model.specs.TakingOff.{is_writes, forgotten_all, falls, taken_off}
use Rattle.read_model.specs.WriteAnswers.{ending, answered_by, wait_answered, wait_lost}
use Rattle.core_fits.specs.Fits.{EachOf}
use Rattle.owned_laws.specs.OwnWrites.{OwnWrite}
use Rattle.owned_laws.specs.Watched.{NoneOver}
use Rattle.owned_laws.proofs.Modes.{Mine, ThereOf, Mode}
use Rattle.owned_laws.proofs.Own.{OverOf, Misses, OwnSo, EndSo, at_other, answered_so, lost_so, forgotten_so, over_so}

either : {A : Type 0} (P : A → Type 0) (b : Bool) (x y : A) → P x → P y → P (cond b x y)
either P true x y h i = h
either P false x y h i = i

-- ---- a read that makes an acquire due

-- of a key without entry and acquire, and no write is over it
pub record IsFree (g : Ground) (j : List ℕ) : Type 0 where
  pub entry : at g.own.entries j ≡ None
  pub acquire : at g.acquires j ≡ None
  pub unwritten : NoneOver j g.own.waits.writes

not_off : (a b : Bool) → not a && b ≡ true → a ≡ false
not_off true b e = absurd (cc)
not_off false b e = refl

pub under_free : (m : Moment) (g : Ground) (j : List ℕ) (n : ℕ) → (decision m g j).under ≡ Some n → IsFree g j
under_free m g j n f = by (at g.own.entries j) refl (at g.acquires j) refl (acquirable m g.own j) refl f
  where
    by_free : (b : Bool) → is_free m g.own j ≡ b → (o : Option ℕ) → cond b m.session None ≡ o → (i : ℕ) → o ≡ Some i → is_written g.own j ≡ false
    by_free true e o is i s = not_off (is_written g.own j) (is_ownable g.own.waits.prefix j && m.created && is_restful g.own m.now j) e
    by_free false e o is i s = absurd (let x : None ≡ Some i = is ∙ s in cc)

    by : (o : Option Entry) → at g.own.entries j ≡ o → (a : Option Acquire) → at g.acquires j ≡ a → (u : Option ℕ) → acquirable m g.own j ≡ u → (read_turn m.header g.own.waits.step o (is_some a) u).under ≡ Some n → IsFree g j
    by (Some x) e a c u is k = absurd (cc)
    by None e (Some a) c u is k = absurd (cc)
    by None e None c None is k = absurd (cc)
    by None e None c (Some i) is k = record { entry = e; acquire = c; unwritten = by_free (is_free m g.own j) refl (Some i) is i refl }

module _ (M : Mode) where
  abbrev k : List ℕ
  k = M.key

  abbrev pub GroundSo : Ground → Type 0
  GroundSo g = M.If (at g.acquires k) → OwnSo M g.own × M.Then (at g.acquires k)

  abbrev pub ReadsSo : Reads → Type 0
  ReadsSo r = GroundSo (ground_of r)

  -- the acquires stand at the key as before
  as_before : (g : Ground) (own : Ownership) (acquires : Keyed Acquire) → at acquires k ≡ at g.acquires k → (OwnSo M g.own → OwnSo M own) → GroundSo g → GroundSo (record { own = own; acquires = acquires })
  as_before g own acquires same_at f t = λ i.
      let r = t (subst M.If same_at i) in
      (f r.0, subst M.Then (sym same_at) r.1)

  -- ---- releases

  begun_other : (ticket : ℕ) (j : List ℕ) (n : ℕ) (g : Ground) → same j k ≡ false → GroundSo g → GroundSo (begun_under ticket j (Some n) g)
  begun_other ticket j n g o t =
      as_before g (acquire_begun j g.own) (with_at g.acquires j (Some (record { ticket = ticket; session = n; sending = sending.Due g.own.waits.step }))) (at_other k j (Some (record { ticket = ticket; session = n; sending = sending.Due g.own.waits.step })) g.acquires o)
      (λ s. record { case = s.case; outs = s.outs; there = s.there; over = s.over; mark = λ y. at_other k j (Some false) g.own.waits.spoiled o ∙ s.mark y; entry = s.entry }) t

  begun_itself : (ticket n : ℕ) (g : Ground) → IsFree g k → GroundSo g → GroundSo (begun_under ticket k (Some n) g)
  begun_itself ticket n g f t = λ i. by (M.began new refl (subst M.If is i))
    where
      new : Acquire
      new = record { ticket = ticket; session = n; sending = sending.Due g.own.waits.step }

      is : at (with_at g.acquires k (Some new)) k ≡ Some new
      is = at-with_at g.acquires k k (Some new) ∙ ap (λ (b : Bool). cond b (Some new) (at g.acquires k)) (same-itself k)

      mark : at (with_at g.own.waits.spoiled k (Some false)) k ≡ Some false
      mark = at-with_at g.own.waits.spoiled k k (Some false) ∙ ap (λ (b : Bool). cond b (Some false) (at g.own.waits.spoiled k)) (same-itself k)

      none : {A : Type 0} (x : Entry) → ◌≡◌ {A = Option Entry} (Some x) None → A
      none x e = absurd (cc)

      by : (M.If None × (M.Then None → (M.hold ≡ true → ⊥) → M.Then (Some new))) ⊎ (((xs : List _) → M.Outs xs) × (M.Then (Some new) × ((M.hold ≡ true → ⊥) × ((M.there ≡ []) × ((c : M.Case) × (M.mine c ≡ [])))))) → OwnSo M (acquire_begun k g.own) × M.Then (at (with_at g.acquires k (Some new)) k)
      by (inl c) =
          let r = t (subst M.If (sym f.acquire) c.0) in
          let unheld : M.hold ≡ true → ⊥ = λ y. none (record M.entry { phase = M.phase r.0.case }) (sym (r.0.entry y) ∙ f.entry) in (
            record { case = r.0.case; outs = r.0.outs; there = r.0.there; over = r.0.over; mark = λ y. mark; entry = r.0.entry },
            subst M.Then (sym is) (c.1 (subst M.Then f.acquire r.1) unheld),
          )
      by (inr c) = (
        record {
          case = c.1.1.1.1.0;
          outs = c.0 g.own.waits.out;
          there = subst (λ (vs : List OwnWrite). ThereOf k vs g.own.waits.writes) (sym c.1.1.1.0) tt;
          over = λ y. subst (λ (ms : List Mine). OverOf k ms g.own.waits.writes) (sym c.1.1.1.1.1) f.unwritten;
          mark = λ y. mark;
          entry = λ y. absurd (c.1.1.0 y);
        },
        subst M.Then (sym is) c.1.0,
      )

  begun_so : (ticket : ℕ) (j : List ℕ) (o : Option ℕ) (g : Ground) → ((n : ℕ) → o ≡ Some n → IsFree g j) → GroundSo g → GroundSo (begun_under ticket j o g)
  begun_so ticket j None g f t = t
  begun_so ticket j (Some n) g f t = by (same j k) refl
    where
      by : (b : Bool) → same j k ≡ b → GroundSo (begun_under ticket j (Some n) g)
      by true e =
          let is = same-equal j k e in
          subst (λ (l : List ℕ). GroundSo (begun_under ticket l (Some n) g)) (sym is) (begun_itself ticket n g (subst (IsFree g) is (f n refl)) t)
      by false e = begun_other ticket j n g e t

  pub decided_so : (m : Moment) (g : Ground) (a : Asked) → GroundSo g → GroundSo (decided_ground m g a)
  decided_so m g a t = begun_so a.ticket (ask_key a) (decision m g (ask_key a)).under g (λ n e. under_free m g (ask_key a) n e) t

  released_one : (again : Bool) (m : Moment) (g : Ground) (a : Asked) → GroundSo g → GroundSo (released_ground again m g a)
  released_one again m g a t = either GroundSo (ask_stands g a || not again) g (decided_ground m g a) t (decided_so m g a t)

  released_all : (again : Bool) (m : Moment) (g : Ground) (xs : List Asked) → GroundSo g → GroundSo (released_from again m g xs).ground
  unfolding released_from
  released_all again m g [] t = t
  released_all again m g (a ∷ rest) t = released_all again m (released_ground again m g a) rest (released_one again m g a t)

  pub released_so : (again : Bool) (m : Moment) (r : Reads) → ReadsSo r → ReadsSo (released again m r)
  released_so again m r t = released_all again m (ground_of r) r.asks t

  -- ---- a session's end, and requests that end

  -- due acquires fall, with their marks
  dropped_so : (p : List ℕ → Bool) (g : Ground) → (p k ≡ true → is_due_acquire (at g.acquires k) ≡ true) → GroundSo g → GroundSo (dropped p g)
  dropped_so p g d t = by (p k) refl
    where
      acquires : (b : Bool) → p k ≡ b → at (without p g.acquires) k ≡ cond b None (at g.acquires k)
      acquires b e = at-without p g.acquires k ∙ ap (λ (c : Bool). cond c None (at g.acquires k)) e

      marks : (b : Bool) → p k ≡ b → at (without p g.own.waits.spoiled) k ≡ cond b None (at g.own.waits.spoiled k)
      marks b e = at-without p g.own.waits.spoiled k ∙ ap (λ (c : Bool). cond c None (at g.own.waits.spoiled k)) e

      by : (b : Bool) → p k ≡ b → GroundSo (dropped p g)
      by true e = λ i.
          let f = M.fell (at g.acquires k) (d e) (subst M.If (acquires true e) i) in
          let r = t f.0 in
          let n = f.1 r.1 in
          (record { case = r.0.case; outs = r.0.outs; there = r.0.there; over = r.0.over; mark = λ y. absurd (n.1 y); entry = r.0.entry }, subst M.Then (sym (acquires true e)) n.0)
      by false e =
          as_before g (dropped p g).own (without p g.acquires) (acquires false e) (λ s. record { case = s.case; outs = s.outs; there = s.there; over = s.over; mark = λ y. marks false e ∙ s.mark y; entry = s.entry }) t

  pub over_reads : (m : Moment) (r : Reads) → (M.hold ≡ true → ⊥) → ReadsSo r → ReadsSo (session_over m r)
  over_reads m r n t =
      released_so false m (on (over (ground_of r)) r.asks)
      (dropped_so (λ j. is_due_acquire (at r.acquires j)) (record (ground_of r) { own = Rattle.wait_model.specs.SessionEnd.session_ended r.own }) (λ e. e) (as_before (ground_of r) (Rattle.wait_model.specs.SessionEnd.session_ended r.own) r.acquires refl (over_so M r.own n) t))

  -- of the requests that end none is the owner's own write
  abbrev pub Spared : (Asked → Bool) → Asked → Type 0
  Spared p a = p a && is_writes a.stage ≡ true → Misses M (has_ticket a.ticket)

  all_forgotten : (p : Asked → Bool) (xs : List Asked) (own : Ownership) → EachOf (Spared p) xs → OwnSo M own → OwnSo M (forgotten_all p xs own)
  all_forgotten p [] own s t = t
  all_forgotten p (a ∷ rest) own s t = all_forgotten p rest (cond (p a && is_writes a.stage) (forgotten a.ticket own) own) s.1 (by (p a && is_writes a.stage) s.0)
    where
      by : (b : Bool) → (b ≡ true → Misses M (has_ticket a.ticket)) → OwnSo M (cond b (forgotten a.ticket own) own)
      by true n = forgotten_so M a.ticket own (n refl) t
      by false n = t

  second : (a b : Bool) → a && b ≡ true → b ≡ true
  second true b e = e
  second false b e = absurd (cc)

  pub taken_off_so : (m : Moment) (p : Asked → Bool) (xs : List Asked) (r : Reads) → EachOf (Spared p) r.asks → ReadsSo r → ReadsSo (taken_off m p xs r)
  taken_off_so m p xs r s t =
      released_so false m (on (dropped (falls p r) (record (ground_of r) { own = forgotten_all p r.asks r.own })) xs)
      (dropped_so (falls p r) (record (ground_of r) { own = forgotten_all p r.asks r.own })
      (second (list_any (λ a. p a && Rattle.read_model.specs.Acquires.acquires_at k a) r.asks) (is_due_acquire (at r.acquires k)))
      (as_before (ground_of r) (forgotten_all p r.asks r.own) r.acquires refl (all_forgotten p r.asks r.own s) t))

  -- ---- acquires

  -- where an acquire may end, or is another key's
  abbrev pub MayEnd : List ℕ → Type 0
  MayEnd j = same j k ≡ true → M.free ≡ true

  gone_other : (j : List ℕ) (g : Ground) → same j k ≡ false → GroundSo g → GroundSo (acquire_gone j g)
  gone_other j g n t =
      as_before g (Rattle.wait_model.specs.Asked.acquire_ended j g.own) (with_at g.acquires j None) (at_other k j None g.acquires n)
      (λ s. record { case = s.case; outs = s.outs; there = s.there; over = s.over; mark = λ y. at_other k j None g.own.waits.spoiled n ∙ s.mark y; entry = s.entry }) t

  none_at : (j : List ℕ) (xs : Keyed Acquire) → same j k ≡ true → at (with_at xs j None) k ≡ None
  none_at j xs e = at-with_at xs j k None ∙ ap (λ (b : Bool). cond b None (at xs k)) e

  gone_itself : (j : List ℕ) (g : Ground) (es : Keyed Entry) → same j k ≡ true → M.free ≡ true → GroundSo g → GroundSo (record { own = record (Rattle.wait_model.specs.Asked.acquire_ended j g.own) { entries = es }; acquires = with_at g.acquires j None })
  gone_itself j g es e f t = λ i.
      let o = M.gone f (subst M.If (none_at j g.acquires e) i) (at g.acquires k) in
      let r = t o.0 in
      (record { case = r.0.case; outs = r.0.outs; there = r.0.there; over = r.0.over; mark = λ y. absurd (o.1.1.0 y); entry = λ y. absurd (o.1.1.1 y) }, subst M.Then (sym (none_at j g.acquires e)) (o.1.0 r.1))

  gone_so : (j : List ℕ) (g : Ground) → MayEnd j → GroundSo g → GroundSo (acquire_gone j g)
  gone_so j g f t = by (same j k) refl
    where
      by : (b : Bool) → same j k ≡ b → GroundSo (acquire_gone j g)
      by true e = gone_itself j g g.own.entries e (f e) t
      by false e = gone_other j g e t

  entry_so : (j : List ℕ) (e : Option Entry) (g : Ground) → MayEnd j → GroundSo g → GroundSo (with_entry j e (acquire_gone j g))
  entry_so j e g f t = by (same j k) refl
    where
      by : (b : Bool) → same j k ≡ b → GroundSo (with_entry j e (acquire_gone j g))
      by true y = gone_itself j g (with_at g.own.entries j e) y (f y) t
      by false n =
          as_before (acquire_gone j g) (with_entry j e (acquire_gone j g)).own (with_at g.acquires j None) refl
          (λ s. record { case = s.case; outs = s.outs; there = s.there; over = s.over; mark = s.mark; entry = λ y. at_other k j e g.own.entries n ∙ s.entry y }) (gone_other j g n t)

  claim_so : (m : Moment) (j : List ℕ) (held : Bool) (h : Header) (c : Claim) (r : Reads) → MayEnd j → ReadsSo r → ReadsSo (acquire_done m j held h c r)
  claim_so m j held h (Acquired create kv) r f t = released_so held m (acquired m j held h create kv r) (entry_so j (Some (won held create kv)) (ground_of r) f t)
  claim_so m j held h (OwnedBy kv owner) r f t = released_so false m (owned_by m j h kv owner r) (entry_so j (found_own m.session owner (at r.own.entries j)) (ground_of r) f t)

  -- where the session ends nothing is held
  abbrev pub AfterSo : Option AfterAcquire → Type 0
  AfterSo None = Unit {0}
  AfterSo (Some x) = (x.ends ≡ true → M.hold ≡ true → ⊥) → ReadsSo x.reads

  claimed_so : (m : Moment) (j : List ℕ) (held : Bool) (h : Header) (o : Option Claim) (r : Reads) → MayEnd j → ReadsSo r → AfterSo (done_by m j held h o r)
  claimed_so m j held h None r f t = tt
  claimed_so m j held h (Some c) r f t = λ n. claim_so m j held h c r f t

  refused_so : (m : Moment) (j : List ℕ) (ends : Bool) (r : Reads) → MayEnd j → ReadsSo r → AfterSo (Some (acquire_refused m j ends r))
  refused_so m j true r f t = λ n. over_reads m (on (acquire_gone j (ground_of r)) r.asks) (n refl) (gone_so j (ground_of r) f t)
  refused_so m j false r f t = λ n. released_so false m (on (acquire_gone j (ground_of r)) r.asks) (gone_so j (ground_of r) f t)

  acquire_so : (m : Moment) (j : List ℕ) (o : Option Acquire) (a : Answer) (r : Reads) → MayEnd j → ReadsSo r → AfterSo (answered_acquire m j o a r)
  acquire_so m j None a r f t = λ n. t
  acquire_so m j (Some c) (answer.Done reply) r f t = claimed_so m j (is_to_be_held m j c r) reply.header (claimed r.own.waits.prefix j reply) r f t
  acquire_so m j (Some c) (answer.Refused x) r f t = refused_so m j (is_session m.session c.session && (x.code == NOT_FOUND)) r f t

  pub acquire_answered_so : (m : Moment) (j : List ℕ) (a : Answer) (r : Reads) → MayEnd j → ReadsSo r → AfterSo (acquire_answered m j a r)
  acquire_answered_so m j a r f t = acquire_so m j (at r.acquires j) a r f t

  pub acquire_lost_so : (members : ℕ) (m : Moment) (j : List ℕ) (r : Reads) → MayEnd j → ReadsSo r → ReadsSo (acquire_lost members m j r)
  acquire_lost_so members m j r f t = released_so false m (on (acquire_gone j (ground_of r)) (map (told_lost members r.own.waits.step j) r.asks)) (gone_so j (ground_of r) f t)

  -- one is sent that is due
  pub acquire_sent_so : (call : ℕ) (j : List ℕ) (x : Acquire) (r : Reads) → at r.acquires j ≡ Some x → Rattle.read_model.specs.SessionEnd.is_due x.sending ≡ true → ReadsSo r → ReadsSo (acquire_sent call j r)
  acquire_sent_so call j x r f d t = by (same j k) refl
    where
      by : (b : Bool) → same j k ≡ b → ReadsSo (acquire_sent call j r)
      by true e =
          let here : at r.acquires k ≡ Some x = ap (at r.acquires) (sym (same-equal j k e)) ∙ f in
          let is : at (changed_at r.acquires j (sent_out call)) k ≡ Some (sent_out call x) = at-with_at r.acquires j k (Rattle.std.specs.Option.option_map (sent_out call) (at r.acquires j)) ∙ ap (λ (b : Bool). cond b (Rattle.std.specs.Option.option_map (sent_out call) (at r.acquires j)) (at r.acquires k)) e ∙ ap (Rattle.std.specs.Option.option_map (sent_out call)) f in
          λ i.
          let s = M.sent x call d (subst M.If is i) in
          let o = t (subst M.If (sym here) s.0) in
          (o.0, subst M.Then (sym is) (s.1 (subst M.Then here o.1)))
      by false n = as_before (ground_of r) r.own (changed_at r.acquires j (sent_out call)) (at_other k j (Rattle.std.specs.Option.option_map (sent_out call) (at r.acquires j)) r.acquires n) (λ s. s) t

  -- ---- writes' answers and losses

  abbrev pub ReadsIf : Option Reads → Type 0
  ReadsIf None = Unit {0}
  ReadsIf (Some r) = ReadsSo r

  abbrev EndIf : (own : Ownership) → Option Ending → Type 0
  EndIf own None = Unit {0}
  EndIf own (Some x) = OwnSo M own → OwnSo M x.own

  ending_so : (m : Moment) (o : Option Ending) (r : Reads) → EndIf r.own o → ReadsSo r → ReadsIf (answered_by m o r)
  ending_so m None r f t = tt
  ending_so m (Some x) r f t = released_so true m (ending x r) (as_before (ground_of r) x.own r.acquires refl f t)

  pub wait_answered_so : (m : Moment) (call : ℕ) (a : Answer) (r : Reads) → Misses M (sends call) → ReadsSo r → ReadsIf (wait_answered m call a r)
  wait_answered_so m call a r n t = ending_so m (answered call a m.session m.now r.own) r (by (answered call a m.session m.now r.own) (answered_so M call a m.session m.now r.own n)) t
    where
      by : (o : Option Ending) → (OwnSo M r.own → EndSo M o) → EndIf r.own o
      by None f = tt
      by (Some x) f = f

  pub wait_lost_so : (m : Moment) (call : ℕ) (r : Reads) → Misses M (sends call) → ReadsSo r → ReadsSo (wait_lost m call r)
  wait_lost_so m call r n t = released_so false m (ending (lost call r.own) r) (as_before (ground_of r) (lost call r.own).own r.acquires refl (lost_so M call r.own n) t)
