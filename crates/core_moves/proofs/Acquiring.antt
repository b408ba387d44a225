-- An acquire is answered.
use Rattle.std.proofs.Common.{◌≡◌, ◌≢◌, ℕ, ◌==◌, Bool, true, false, cond, not, ◌&&◌, List, Option, None, Some, refl, sym, ◌∙◌, ap, subst}
use Rattle.etcd_types.specs.declared.answer.Answer.{Answer}
use Rattle.etcd_types.specs.declared.answer.Answer.TheVariants as answer
use Rattle.etcd_types.specs.declared.answer.Refusal.{Refusal}
use Rattle.etcd_types.specs.declared.code.TheConstants.{NOT_FOUND}
use Rattle.etcd_types.specs.declared.record.Header.{Header}
use Rattle.etcd_types.specs.declared.record.Kv.{Kv}
use Rattle.proxy_model.specs.declared.ownership.Claim.{Claim}
use Rattle.proxy_model.specs.declared.ownership.Claim.TheVariants.{Acquired, OwnedBy}
use Rattle.proxy_model.specs.declared.ownership.Owner.{Owner}
use Rattle.proxy_model.specs.Acquire.{claimed}
use Rattle.proxy_model.specs.Keyed.{at}
use Rattle.wait_model.specs.declared.sending.Sending.TheVariants as sending
use Rattle.wait_model.specs.Asked.{is_spoiled}
use Rattle.wait_model.specs.Phases.{is_session}
use Rattle.read_model.specs.declared.acquire.Acquire.{Acquire}
use Rattle.read_model.specs.Acquires as Entries
use Rattle.read_model.specs.Acquires.{acquire_gone, with_entry, AfterAcquire, acquire_done, done_by, acquire_refused, is_to_be_held, answered_acquire, acquire_answered}
use Rattle.read_model.specs.Fits.{GroundOk}
use Rattle.read_model.specs.State.{Moment, Reads, ground_of, on}
use Rattle.core_model.specs.Ends.{acquire_ended, acquire_if}
use Rattle.core_model.specs.Lookups.{moment, reads_of, with_reads}
use Rattle.core_model.specs.State.{Core}
use Rattle.cache_laws.specs.Store.ToldAnswers.{TellsOwner, TellsClaim}
use Rattle.cache_laws.specs.Moves.View.{Outcome, View}
use Rattle.cache_laws.specs.Moves.Invariant.{Inv}
use Rattle.cache_laws.specs.Moves.Answers.{in_answer, Reaches}
use Rattle.cache_laws.specs.Moves.Sessions.{session_ended}
use Rattle.row_laws.specs.Rows.{row_of}
use Rattle.row_laws.specs.Laws.{IsLive, Won, is_held_then}
use Rattle.row_laws.specs.Endings.{ShowsOwner}
use Rattle.row_laws.proofs.Reaching.{reaches_on}
use Rattle.row_laws.proofs.EndRows.{releases_turn, session_over_turns}
use Rattle.row_laws.proofs.Wins.{wins_turn}
use Rattle.row_laws.proofs.Failed.{fails_turn, acquire_ends_turn}
use Rattle.call_laws.specs.Forms.{Acquires, IsFormed, Tells}
use Rattle.core_moves.specs.Answers.{MovesIf}
use Rattle.core_moves.specs.Losses.{IsOutAs}
use Rattle.core_moves.specs.Sees.{ground_in, Sees, Moves}
use Rattle.core_moves.proofs.Clocks.{rows_move, over_moves}

-- the owner that it shows is one that the view has in the answer
shows_owner : (v : View) (i : ℕ) (k : List ℕ) (o : Option Owner) → TellsOwner (v.outcomes i) k o → ShowsOwner v k o
shows_owner v i k None t = tt
shows_owner v i k (Some o) t = in_answer i (sym t)

both : (a b : Bool) → cond a (cond b false true) false ≡ a && not b
both true true = refl
both true false = refl
both false b = refl

module _ (holder : ℕ → ℕ) (v : View) (p now : ℕ) (own : ℕ → ℕ) (call : ℕ) (k : List ℕ) (c : Core) (a : Acquire) (standing : Bool) (ground : GroundOk standing (ground_in c)) (live : IsLive v p (moment c now).session)
    (stands : at c.acquires k ≡ Some a) (out : a.sending ≡ sending.Out call) (some : own call ≢ 0) (done : (v.outcomes (own call)).done ≡ true) (formed : IsFormed c.own.waits.prefix (Acquires k a.session) (v.calls (own call))) (s : Sees v p now own c) (h : Inv holder v) where
  abbrev m : Moment
  m = moment c now

  abbrev r : Reads
  r = reads_of c

  abbrev MovesAfter : Option AfterAcquire → Type 0
  MovesAfter x = MovesIf holder v p now own (acquire_if c x)

  -- it succeeded, or showed who owns the key
  done_moves : (header : Header) (o : Option Claim) → TellsClaim (v.outcomes (own call)) k o → MovesAfter (done_by m k (is_to_be_held m k a r) header o r)
  done_moves header None t = absurd t
  done_moves header (Some (Acquired create kv)) t =
      let held = is_to_be_held m k a r in
      let is : is_held_then m.session a k (ground_in c) ≡ held = both (is_session m.session a.session) (is_spoiled k c.own) in
      let won : Won v p (own call) a.session k create kv = record { some = some; done = done; ok = t.0; created = sym t.1; same = sym t.2; under = formed.1.session } in
      rows_move holder v p now own c (with_reads c (acquire_done m k held header (Acquired create kv) r)) s h refl
      (λ j. reaches_on (subst (λ (b : Bool). Reaches v p j (row_of own (ground_in c) j) (row_of own (with_entry k (Some (Entries.won b create kv)) (acquire_gone k (ground_in c))) j)) is (wins_turn v p own m.session k call create kv a (ground_in c) live ground.marks ground.keys stands out won j)) (releases_turn v p own held m _ _ j))
  done_moves header (Some (OwnedBy kv owner)) t =
      let held = is_to_be_held m k a r in
      rows_move holder v p now own c (with_reads c (acquire_done m k held header (OwnedBy kv owner) r)) s h refl
      (λ j. reaches_on (fails_turn v p own m.session k call owner a (ground_in c) live ground.marks ground.keys stands out (shows_owner v (own call) k owner t.2) j) (releases_turn v p own false m _ _ j))

  -- it was refused, maybe since the session's lease isn't there any more
  refused_moves : (ends : Bool) → MovesAfter (Some (acquire_refused m k ends r))
  refused_moves true =
      over_moves holder v p now own c (acquire_ended c (acquire_refused m k true r)) s h refl
      (λ j. reaches_on (acquire_ends_turn (session_ended v p) p own k call a (ground_in c) stands out j) (session_over_turns (session_ended v p) p own m (on (acquire_gone k (ground_of r)) r.asks) j))
  refused_moves false =
      rows_move holder v p now own c (acquire_ended c (acquire_refused m k false r)) s h refl
      (λ j. reaches_on (acquire_ends_turn v p own k call a (ground_in c) stands out j) (releases_turn v p own false m _ _ j))

  pub acquire_moves : (b : Answer) → Tells c.own.waits.prefix (Acquires k a.session) (v.outcomes (own call)) b → MovesAfter (acquire_answered m k b r)
  acquire_moves b t = subst (λ (o : Option Acquire). MovesAfter (answered_acquire m k o b r)) (sym stands) (by b t)
    where
      by : (b : Answer) → Tells c.own.waits.prefix (Acquires k a.session) (v.outcomes (own call)) b → MovesAfter (answered_acquire m k (Some a) b r)
      by (answer.Done reply) t = done_moves reply.header (claimed c.own.waits.prefix k reply) t
      by (answer.Refused x) t = refused_moves (is_session m.session a.session && (x.code == NOT_FOUND))
