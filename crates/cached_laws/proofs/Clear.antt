-- A key of which a proxy's ownership has nothing: no entry, no moment of rest, and no write over it. What becomes of writes and entries
-- brings none, but a write over the key, an owner of it that is found, and the revoking word for it.
use Rattle.std.proofs.Common.{◌≡◌, ℕ, ◌+◌, Bool, true, false, cond, not, ◌&&◌, ◌||◌, List, [], ◌∷◌, ◌++◌, map, filter, Option, None, Some, is_some, refl, sym, ◌∙◌, ap, subst}
use Rattle.std.specs.List.{list_all, list_any}
use Rattle.std.proofs.Common.{Ordering, Less, Equal, Greater, nat_cmp}
use Rattle.std.specs.Cmp.Lexicographic.{slice_cmp}
use Rattle.std.specs.FinMap.Entries.{by_order}
use Rattle.std.specs.Option.{option_map}
use Rattle.etcd_types.specs.declared.answer.Answer.{Answer}
use Rattle.etcd_types.specs.declared.answer.Answer.TheVariants as answer
use Rattle.etcd_types.specs.declared.request.Request.{Request}
use Rattle.etcd_types.specs.declared.watch.Event.{Event}
use Rattle.etcd_types.specs.declared.watch.Change.{Change}
use Rattle.etcd_types.specs.declared.watch.Change.TheVariants as change
use Rattle.etcd_types.specs.Keys.{same}
use Rattle.etcd_types.proofs.Bools.{and_first, and_second, and_both as both}
use Rattle.etcd_types.proofs.KeyOrder.{same-equal}
use Rattle.proxy_model.specs.declared.lease.Entry.{Entry}
use Rattle.proxy_model.specs.declared.ownership.Owner.{Owner}
use Rattle.proxy_model.specs.declared.ownership.Written.{Written}
use Rattle.proxy_model.specs.declared.ownership.Written.TheVariants.{Wrote, Blocked}
use Rattle.proxy_model.specs.Foreign.{revoke_word}
use Rattle.proxy_model.specs.Guarded.{written}
use Rattle.proxy_model.specs.Keyed.{Keyed, at, with_at, changed_at}
use Rattle.proxy_model.specs.Limits.{capped}
use Rattle.proxy_model.specs.SeveralKeys.{written_ranges}
use Rattle.proxy_model.proofs.KeyedLaws.{at-with_at}
use Rattle.wait_model.specs.declared.sending.Sending.TheVariants as sending
use Rattle.wait_model.specs.declared.write.Write.{Write}
use Rattle.wait_model.specs.declared.write.WriteStage.{WriteStage}
use Rattle.wait_model.specs.declared.write.WriteStage.TheVariants.{Sends}
use Rattle.wait_model.specs.declared.wait.WaitJob.{WaitJob}
use Rattle.wait_model.specs.declared.wait.WaitJob.TheVariants as job
use Rattle.wait_model.specs.declared.due.DueCall.{DueCall}
use Rattle.wait_model.specs.Asked.{new_write, submitted, acquire_spoiled}
use Rattle.wait_model.specs.Covers.{covers, covered, shares, is_by_keys, is_single}
use Rattle.wait_model.specs.DueOrder.{first_call, first_rescind}
use Rattle.wait_model.specs.Edits.{each, without}
use Rattle.wait_model.specs.Endings.{given_back, revoke_back, revoke_answered, answered_job, without_out, answered, lost_job, lost, forgotten_by, forgotten}
use Rattle.wait_model.specs.ForeignOwnership.{by_key, is_own, owned_left, finding, stage_gone}
use Rattle.wait_model.specs.GuardedAnswers.{left_entries, Ending, ended_by, staged_by, owns_at, kept_entries, is_gone, unwrote_entries, other_owners, failed, done_if, write_answered, write_lost}
use Rattle.wait_model.specs.Leaving.{rest, rescinded, if_read, rescind_answered}
use Rattle.proxy_model.specs.Leaving.{guard_held}
use Rattle.wait_model.specs.LeasingStream.{resynced, all_given_up}
use Rattle.wait_model.specs.Notices.{revoked_turn, put_noticed, deleted_turn, owned_key, noticed, all_noticed}
use Rattle.wait_model.specs.Passes.{goes, turn, passed, proceeded}
use Rattle.wait_model.specs.Phases.{own_entry, is_of}
use Rattle.wait_model.specs.SessionEnd.{stage_ended, session_ended}
use Rattle.wait_model.specs.SeveralKeys.{any_covered, given_up_over, spoiled_over, by_ranges}
use Rattle.wait_model.specs.Sent.{JobSent, revoke_job, write_job, is_revoke, call_of, call_sent, job_sent_after, job_sent}
use Rattle.wait_model.specs.SingleKeys.{Turn, let_go_leased, begun_over, any_key, keys_begun, by_keys}
use Rattle.wait_model.specs.Stages.{staged, gone_on, is_waiting, is_owner, is_due, stage_on}
use Rattle.wait_model.specs.State.{Ownership}
use Rattle.wait_model.specs.Writes.{first_by, with_first, without_first, sends, asks, has_ticket, job_of}
use Rattle.wait_model.proofs.Tables.{at-each, at-without}
use Rattle.cached_laws.specs.Untouched.{Spares, AllSpare}
use Rattle.core_laws.specs.Writes.Laws.{OwnersCovered}

either : {A : Type 0} (P : A → Type 0) (b : Bool) (x y : A) → P x → P y → P (cond b x y)
either P true x y h i = h
either P false x y h i = i

or_none : (a b : Bool) → a || b ≡ false → (a ≡ false) × (b ≡ false)
or_none true b h = absurd (cc)
or_none false b h = (refl, h)

both_none : (a b : Bool) → a ≡ false → b ≡ false → a || b ≡ false
both_none true b h i = h
both_none false b h i = i

module _ (k : List ℕ) where
  -- no write is over the key
  abbrev pub NoneOver : List Write → Type 0
  NoneOver ws = list_any (λ w. covers w k) ws ≡ false

  -- no entry is there, and no write is over it
  abbrev pub Bare : Keyed Entry → List Write → Type 0
  Bare es ws = (at es k ≡ None) × NoneOver ws

  pub record IsClear (own : Ownership) : Type 0 where
    pub bare : Bare own.entries own.waits.writes
    pub quiet : at own.waits.quiet k ≡ None

  -- ---- lists

  none_append : (ws vs : List Write) → NoneOver ws → NoneOver vs → NoneOver (ws ++ vs)
  none_append [] vs h i = i
  none_append (w ∷ ws) vs h i = let p = or_none (covers w k) (list_any (λ w. covers w k) ws) h in both_none (covers w k) (list_any (λ w. covers w k) (ws ++ vs)) p.0 (none_append ws vs p.1 i)

  none_first : (p : Write → Bool) (s : WriteStage) (ws : List Write) → NoneOver ws → NoneOver (with_first p s ws)
  none_first p s [] h = h
  none_first p s (w ∷ ws) h =
      let q = or_none (covers w k) (list_any (λ w. covers w k) ws) h in
      either NoneOver (p w) (staged w s ∷ ws) (w ∷ with_first p s ws) h (both_none (covers w k) (list_any (λ w. covers w k) (with_first p s ws)) q.0 (none_first p s ws q.1))

  none_rest : (p : Write → Bool) (ws : List Write) → NoneOver ws → NoneOver (without_first p ws)
  none_rest p [] h = h
  none_rest p (w ∷ ws) h =
      let q = or_none (covers w k) (list_any (λ w. covers w k) ws) h in
      either NoneOver (p w) ws (w ∷ without_first p ws) q.1 (both_none (covers w k) (list_any (λ w. covers w k) (without_first p ws)) q.0 (none_rest p ws q.1))

  none_each : (g : Write → WriteStage) (ws : List Write) → NoneOver ws → NoneOver (map (λ w. staged w (g w)) ws)
  none_each g [] h = h
  none_each g (w ∷ ws) h = let q = or_none (covers w k) (list_any (λ w. covers w k) ws) h in both_none (covers w k) (list_any (λ w. covers w k) (map (λ w. staged w (g w)) ws)) q.0 (none_each g ws q.1)

  none_found : (p : Write → Bool) (ws : List Write) (w : Write) → NoneOver ws → first_by p ws ≡ Some w → covers w k ≡ false
  none_found p [] w h f = absurd (cc)
  none_found p (v ∷ vs) w h f =
      let q = or_none (covers v k) (list_any (λ w. covers w k) vs) h in
      by (p v) q.0 (λ e. none_found p vs w q.1 e) f
    where
      same_write : (x y : Write) → Some x ≡ Some y → x ≡ y
      same_write x y e = cc

      by : (b : Bool) → covers v k ≡ false → (first_by p vs ≡ Some w → covers w k ≡ false) → cond b (Some v) (first_by p vs) ≡ Some w → covers w k ≡ false
      by true c g e = subst (λ (x : Write). covers x k ≡ false) (same_write v w e) c
      by false c g e = g e

  bare_each : (f : List ℕ → Entry → Entry) (es : Keyed Entry) → at es k ≡ None → at (each f es) k ≡ None
  bare_each f es h = at-each f es k ∙ ap (option_map (f k)) h

  bare_without : (p : List ℕ → Bool) (es : Keyed Entry) → at es k ≡ None → at (without p es) k ≡ None
  bare_without p es h = at-without p es k ∙ either (λ (o : Option Entry). o ≡ None) (p k) None (at es k) refl h

  bare_changed : (j : List ℕ) (f : Entry → Entry) (es : Keyed Entry) → at es k ≡ None → at (changed_at es j f) k ≡ None
  bare_changed j f es h = at-with_at es j k (option_map f (at es j)) ∙ by (same j k) refl
    where
      by : (b : Bool) → same j k ≡ b → cond b (option_map f (at es j)) (at es k) ≡ None
      by true e = ap (λ (i : List ℕ). option_map f (at es i)) (same-equal j k e) ∙ ap (option_map f) h
      by false e = h

  -- at another key
  bare_other : (j : List ℕ) (o : Option Entry) (es : Keyed Entry) → same j k ≡ false → at es k ≡ None → at (with_at es j o) k ≡ None
  bare_other j o es n h = at-with_at es j k o ∙ ap (λ (b : Bool). cond b o (at es k)) n ∙ h

  -- where nothing comes of nothing
  bare_turned : (j : List ℕ) (f : Option Entry → Option Entry) (es : Keyed Entry) → f None ≡ None → at es k ≡ None → at (with_at es j (f (at es j))) k ≡ None
  bare_turned j f es n h = at-with_at es j k (f (at es j)) ∙ by (same j k) refl
    where
      by : (b : Bool) → same j k ≡ b → cond b (f (at es j)) (at es k) ≡ None
      by true e = ap (λ (i : List ℕ). f (at es i)) (same-equal j k e) ∙ ap f h ∙ n
      by false e = h

  -- ---- a pass

  abbrev BareTurn : Turn → Type 0
  BareTurn t = (at t.entries k ≡ None) × (covers t.write k ≡ false)

  keys_bare : (step : ℕ) (es : Keyed Entry) (ss : Keyed Bool) (w : Write) → at es k ≡ None → covers w k ≡ false → BareTurn (keys_begun step es ss w)
  keys_bare step es ss w h c =
      either BareTurn (any_key w (λ k. Rattle.wait_model.specs.Phases.is_leaving (at es k))) (record { entries = es; spoiled = ss; write = w }) (record { entries = each (begun_over w) es; spoiled = ss; write = gone_on step (any_key w (λ k. is_some (at es k))) w }) (h, c) (bare_each (begun_over w) es h, c)

  by_keys_bare : (step : ℕ) (es : Keyed Entry) (ss : Keyed Bool) (w : Write) → at es k ≡ None → covers w k ≡ false → BareTurn (by_keys step es ss w)
  by_keys_bare step es ss w h c =
      either BareTurn (any_key w (λ k. is_some (at ss k))) (record { entries = es; spoiled = ss; write = w }) (keys_begun step (each (let_go_leased w) es) ss w) (h, c) (keys_bare step (each (let_go_leased w) es) ss w (bare_each (let_go_leased w) es h) c)

  by_ranges_bare : (step : ℕ) (es : Keyed Entry) (ss : Keyed Bool) (w : Write) → at es k ≡ None → covers w k ≡ false → BareTurn (by_ranges step es ss w)
  by_ranges_bare step es ss w h c = (
    bare_each (given_up_over w) es h,
    either (λ (v : Write). covers v k ≡ false) (any_covered w (each (given_up_over w) es) || any_covered w (each (spoiled_over w) ss)) w (gone_on step false w) c c,
  )

  turn_bare : (step : ℕ) (earlier : List Write) (es : Keyed Entry) (ss : Keyed Bool) (w : Write) → at es k ≡ None → covers w k ≡ false → BareTurn (turn step earlier es ss w)
  turn_bare step earlier es ss w h c =
      let v = staged w (stage_on w.stage) in
      either BareTurn (is_waiting v.stage && not (list_any (shares w) earlier)) (goes step es ss v) (record { entries = es; spoiled = ss; write = v })
      (either BareTurn (is_by_keys v) (by_keys step es ss v) (by_ranges step es ss v) (by_keys_bare step es ss v h c) (by_ranges_bare step es ss v h c)) (h, c)

  passed_bare : (step : ℕ) (earlier : List Write) (es : Keyed Entry) (ss : Keyed Bool) (ws : List Write) → Bare es ws → Bare (passed step earlier es ss ws).entries (passed step earlier es ss ws).writes
  unfolding passed
  passed_bare step earlier es ss [] h = h
  passed_bare step earlier es ss (w ∷ ws) h =
      let q = or_none (covers w k) (list_any (λ w. covers w k) ws) h.1 in
      let t = turn step earlier es ss w in
      let b = turn_bare step earlier es ss w h.0 q.0 in
      let r = passed_bare step (t.write ∷ earlier) t.entries t.spoiled ws (b.0, q.1) in
      (r.0, both_none (covers t.write k) (list_any (λ w. covers w k) (passed step (t.write ∷ earlier) t.entries t.spoiled ws).writes) b.1 r.1)

  pub pass_clear : (own : Ownership) → IsClear own → IsClear (proceeded own)
  pass_clear own h = record { bare = passed_bare own.waits.step [] own.entries own.waits.spoiled own.waits.writes h.bare; quiet = h.quiet }

  -- ---- answers

  abbrev pub EndClear : Option Ending → Type 0
  EndClear None = Unit {0}
  EndClear (Some x) = IsClear x.own

  read_clear : (o : Option Bool) (own : Ownership) → IsClear own → EndClear (if_read o own)
  read_clear None own h = tt
  read_clear (Some held) own h = h

  rescind_clear : (a : Answer) (own : Ownership) → IsClear own → EndClear (rescind_answered a own)
  rescind_clear (answer.Done reply) own h = read_clear (guard_held reply.body) own h
  rescind_clear (answer.Refused r) own h = h

  rescinded_clear : (j : List ℕ) (create now : ℕ) (own : Ownership) → IsClear own → IsClear (rescinded j create now own)
  rescinded_clear j create now own h = by (is_of create (at own.entries j)) refl
    where
      goes : (b : Bool) → same j k ≡ b → is_of create (at own.entries j) ≡ true → IsClear (record { entries = with_at own.entries j None; waits = record own.waits { quiet = with_at own.waits.quiet j (Some (capped (now + rest))) } })
      goes true e t = absurd (let f : false ≡ true = sym (ap (is_of create) h.bare.0) ∙ ap (λ (i : List ℕ). is_of create (at own.entries i)) (sym (same-equal j k e)) ∙ t in cc)
      goes false e t = record {
        bare = (bare_other j None own.entries e h.bare.0, h.bare.1);
        quiet = at-with_at own.waits.quiet j k (Some (capped (now + rest))) ∙ ap (λ (b : Bool). cond b (Some (capped (now + rest))) (at own.waits.quiet k)) e ∙ h.quiet;
      }

      by : (b : Bool) → is_of create (at own.entries j) ≡ b → IsClear (cond b (record { entries = with_at own.entries j None; waits = record own.waits { quiet = with_at own.waits.quiet j (Some (capped (now + rest))) } }) own)
      by true t = goes (same j k) refl t
      by false t = h

  back_clear : (p : Write → Bool) (call : ℕ) (w : Write) (o : Option Bool) (own : Ownership) → IsClear own → EndClear (revoke_back p call w o own)
  back_clear p call w None own h = tt
  back_clear p call w (Some held) own h = record { bare = (h.bare.0, none_first p _ own.waits.writes h.bare.1); quiet = h.quiet }

  revoke_clear : (p : Write → Bool) (call : ℕ) (o : Option Write) (a : Answer) (own : Ownership) → IsClear own → EndClear (revoke_answered p call o a own)
  revoke_clear p call None a own h = h
  revoke_clear p call (Some w) (answer.Done reply) own h = back_clear p call w (guard_held reply.body) own h
  revoke_clear p call (Some w) (answer.Refused r) own h = record { bare = (h.bare.0, none_rest p own.waits.writes h.bare.1); quiet = h.quiet }

  -- the owners that were found are of other keys

  differs : (w : Write) (j : List ℕ) → covers w j ≡ true → covers w k ≡ false → same j k ≡ false
  differs w j t n = by (same j k) refl
    where
      by : (b : Bool) → same j k ≡ b → b ≡ false
      by true e = absurd (let f : true ≡ false = sym t ∙ ap (covers w) (same-equal j k e) ∙ n in cc)
      by false e = refl

  abbrev NotThere : Keyed Owner → Type 0
  NotThere os = list_all (λ o. not (same o.0 k)) os ≡ true

  off : (b : Bool) → b ≡ false → not b ≡ true
  off b e = ap not e

  on_it : (b : Bool) → not b ≡ true → b ≡ false
  on_it true e = absurd (cc)
  on_it false e = refl

  put_not : (j : List ℕ) (o : Owner) (os : Keyed Owner) → same j k ≡ false → NotThere os → NotThere (with_at os j (Some o))
  put_not j o [] n h = both (not (same j k)) true (off (same j k) n) refl
  put_not j o (x ∷ os) n h = by (slice_cmp nat_cmp j x.0) (put_not j o os n (and_second (not (same x.0 k)) (list_all (λ o. not (same o.0 k)) os) h))
    where
      here : not (same x.0 k) ≡ true
      here = and_first (not (same x.0 k)) (list_all (λ o. not (same o.0 k)) os) h

      by : (c : Ordering) → NotThere (with_at os j (Some o)) → NotThere (by_order c ((j, o) ∷ x ∷ os) ((x.0, o) ∷ os) (x ∷ with_at os j (Some o)))
      by Less i = both (not (same j k)) (list_all (λ o. not (same o.0 k)) (x ∷ os)) (off (same j k) n) h
      by Equal i = h
      by Greater i = both (not (same x.0 k)) (list_all (λ o. not (same o.0 k)) (with_at os j (Some o))) here i

  keyed_not : (w : Write) (found : Keyed Owner) (os : List Owner) → covers w k ≡ false → NotThere found → list_all (λ o. covers w o.key) os ≡ true → NotThere (by_key found os)
  keyed_not w found [] c h i = h
  keyed_not w found (o ∷ os) c h i =
      keyed_not w (with_at found o.key (Some o)) os c
      (put_not o.key o found (differs w o.key (and_first (covers w o.key) (list_all (λ o. covers w o.key) os) i) c) h)
      (and_second (covers w o.key) (list_all (λ o. covers w o.key) os) i)

  left_bare : (session : Option ℕ) (os : Keyed Owner) (es : Keyed Entry) → NotThere os → at es k ≡ None → at (owned_left session os es) k ≡ None
  left_bare session [] es n h = h
  left_bare session (o ∷ os) es n h =
      left_bare session os (cond (is_own session es o) (with_at es o.0 (Some (own_entry o.1.create))) es) (and_second (not (same o.0 k)) (list_all (λ o. not (same o.0 k)) os) n)
      (either (λ (fs : Keyed Entry). at fs k ≡ None) (is_own session es o) (with_at es o.0 (Some (own_entry o.1.create))) es
      (bare_other o.0 (Some (own_entry o.1.create)) es (on_it (same o.0 k) (and_first (not (same o.0 k)) (list_all (λ o. not (same o.0 k)) os) n)) h) h)

  owners_filtered : (q f : Owner → Bool) (os : List Owner) → list_all q os ≡ true → list_all q (filter f os) ≡ true
  owners_filtered q f [] h = h
  owners_filtered q f (o ∷ os) h =
      either (λ (xs : List Owner). list_all q xs ≡ true) (f o) (o ∷ filter f os) (filter f os)
      (both (q o) (list_all q (filter f os)) (and_first (q o) (list_all q os) h) (owners_filtered q f os (and_second (q o) (list_all q os) h))) (owners_filtered q f os (and_second (q o) (list_all q os) h))

  failed_clear : (session : Option ℕ) (p : Write → Bool) (w : Write) (os : List Owner) (own : Ownership) → covers w k ≡ false → list_all (λ o. covers w o.key) os ≡ true → IsClear own → IsClear (failed session p w os own)
  failed_clear session p w os own c v h =
      let kept : at (kept_entries w os own.entries) k ≡ None = bare_each _ (without (is_gone w own.entries os) own.entries) (bare_without (is_gone w own.entries os) own.entries h.bare.0) in
      either IsClear (is_owner w.stage && is_single w.request)
      (staged_by own (without (owns_at w own.entries) own.entries) p (Sends false (sending.Due own.waits.step)))
      (finding session p (by_key [] (other_owners w own.entries os)) own (kept_entries w os own.entries))
      (record { bare = (bare_without (owns_at w own.entries) own.entries h.bare.0, none_first p _ own.waits.writes h.bare.1); quiet = h.quiet })
      (record {
        bare = (
          left_bare session (by_key [] (other_owners w own.entries os)) (kept_entries w os own.entries) (keyed_not w [] (other_owners w own.entries os) c refl (owners_filtered (λ o. covers w o.key) _ os v)) kept,
          none_first p _ own.waits.writes h.bare.1,
        );
        quiet = h.quiet;
      })

  ended_clear : (own : Ownership) (es : Keyed Entry) (p : Write → Bool) → at es k ≡ None → IsClear own → IsClear (ended_by own es p)
  ended_clear own es p e h = record { bare = (e, none_rest p own.waits.writes h.bare.1); quiet = h.quiet }

  done_clear : (session : Option ℕ) (p : Write → Bool) (w : Write) (o : Option Written) (own : Ownership) → covers w k ≡ false → ((os : List Owner) → o ≡ Some (Blocked os) → list_all (λ o. covers w o.key) os ≡ true) → IsClear own → EndClear (done_if session p w o own)
  done_clear session p w None own c v h = tt
  done_clear session p w (Some (Wrote reply)) own c v h = ended_clear own _ p (bare_each _ own.entries h.bare.0) h
  done_clear session p w (Some (Blocked os)) own c v h = failed_clear session p w os own c (v os refl) h

  write_clear : (session : Option ℕ) (p : Write → Bool) (o : Option Write) (a : Answer) (own : Ownership) → first_by p own.waits.writes ≡ o → OwnersCovered p a own → IsClear own → EndClear (write_answered session p o a own)
  write_clear session p None a own f v h = h
  write_clear session p (Some w) (answer.Done reply) own f v h =
      done_clear session p w (written own.waits.prefix w.request reply) own (none_found p own.waits.writes w h.bare.1 f) (λ os e. v w os f e) h
  write_clear session p (Some w) (answer.Refused r) own f v h = ended_clear own (unwrote_entries w own.entries) p (bare_each _ own.entries h.bare.0) h

  job_clear : (call : ℕ) (a : Answer) (session : Option ℕ) (now : ℕ) (o : Option WaitJob) (own : Ownership) → OwnersCovered (sends call) a own → IsClear own → EndClear (answered_job call a session now o own)
  job_clear call a session now None own v h = h
  job_clear call a session now (Some (job.Rescind j create)) own v h = rescind_clear a (rescinded j create now own) (rescinded_clear j create now own h)
  job_clear call a session now (Some (job.Revoke j)) own v h = revoke_clear (asks call) call (first_by (asks call) own.waits.writes) a own h
  job_clear call a session now (Some job.Write) own v h = write_clear session (sends call) (first_by (sends call) own.waits.writes) a own refl v h

  covered_out : (call : ℕ) (a : Answer) (own : Ownership) → OwnersCovered (sends call) a own → OwnersCovered (sends call) a (without_out call own)
  covered_out call (answer.Done reply) own v = v
  covered_out call (answer.Refused r) own v = v

  pub answered_clear : (call : ℕ) (a : Answer) (session : Option ℕ) (now : ℕ) (own : Ownership) → OwnersCovered (sends call) a own → IsClear own → EndClear (answered call a session now own)
  unfolding answered
  answered_clear call a session now own v h = job_clear call a session now (job_of call own.waits.out) (without_out call own) (covered_out call a own v) (record { bare = h.bare; quiet = h.quiet })

  -- ---- losses, and what is forgotten

  loss_clear : (p : Write → Bool) (o : Option Write) (own : Ownership) → IsClear own → IsClear (write_lost p o own).own
  loss_clear p None own h = h
  loss_clear p (Some w) own h = ended_clear own _ p (bare_each _ own.entries h.bare.0) h

  lost_job_clear : (call : ℕ) (o : Option WaitJob) (own : Ownership) → IsClear own → IsClear (lost_job call o own).own
  lost_job_clear call None own h = h
  lost_job_clear call (Some (job.Rescind j create)) own h = record { bare = (bare_changed j _ own.entries h.bare.0, h.bare.1); quiet = h.quiet }
  lost_job_clear call (Some (job.Revoke j)) own h = loss_clear (asks call) (first_by (asks call) own.waits.writes) own h
  lost_job_clear call (Some job.Write) own h = loss_clear (sends call) (first_by (sends call) own.waits.writes) own h

  pub lost_clear : (call : ℕ) (own : Ownership) → IsClear own → IsClear (lost call own).own
  unfolding lost
  lost_clear call own h = lost_job_clear call (job_of call own.waits.out) (without_out call own) (record { bare = h.bare; quiet = h.quiet })

  forgotten_by_clear : (p : Write → Bool) (o : Option Write) (own : Ownership) → IsClear own → IsClear (forgotten_by p o own)
  forgotten_by_clear p None own h = h
  forgotten_by_clear p (Some w) own h =
      ended_clear own (given_back w own.entries) p (either (λ (es : Keyed Entry). at es k ≡ None) (is_due w.stage) (unwrote_entries w own.entries) (left_entries w own.entries) (bare_each _ own.entries h.bare.0) (bare_each _ own.entries h.bare.0)) h

  pub forgotten_clear : (ticket : ℕ) (own : Ownership) → IsClear own → IsClear (forgotten ticket own)
  unfolding forgotten
  forgotten_clear ticket own h = forgotten_by_clear (has_ticket ticket) (first_by (has_ticket ticket) own.waits.writes) own h

  pub over_clear : (own : Ownership) → IsClear own → IsClear (session_ended own)
  over_clear own h = record { bare = (refl, none_each (λ w. stage_ended (is_single w.request) w.stage) own.waits.writes h.bare.1); quiet = h.quiet }

  -- ---- notices

  put_clear : (session : Option ℕ) (j : List ℕ) (create lease : ℕ) (own : Ownership) → same j k ≡ false → IsClear own → IsClear (put_noticed session j create lease own)
  put_clear session j create lease own n h =
      either IsClear (is_some (at own.waits.spoiled j)) (acquire_spoiled j own) (record own { entries = with_at own.entries j (revoked_turn session create lease (at own.entries j)) })
      (record { bare = h.bare; quiet = h.quiet }) (record { bare = (bare_other j _ own.entries n h.bare.0, h.bare.1); quiet = h.quiet })

  notice_clear : (session : Option ℕ) (x : Change) (own : Ownership) → Spares k own.waits.prefix x → IsClear own → IsClear (noticed session x own)
  notice_clear session (change.Put kv) own s h = by (same kv.value revoke_word) refl
    where
      by : (b : Bool) → same kv.value revoke_word ≡ b → IsClear (cond b (put_noticed session (owned_key own.waits.prefix kv.key) kv.create kv.lease own) own)
      by true e = put_clear session (owned_key own.waits.prefix kv.key) kv.create kv.lease own (s e) h
      by false e = h
  notice_clear session (change.Delete j revision) own s h =
      let i = owned_key own.waits.prefix j in
      record { bare = (bare_turned i (deleted_turn revision) own.entries refl h.bare.0, none_each (λ w. stage_gone (same i) w.stage) own.waits.writes h.bare.1); quiet = h.quiet }

  notice_prefix : (session : Option ℕ) (x : Change) (own : Ownership) → (noticed session x own).waits.prefix ≡ own.waits.prefix
  notice_prefix session (change.Put kv) own =
      either (λ (o : Ownership). o.waits.prefix ≡ own.waits.prefix) (same kv.value revoke_word) (put_noticed session (owned_key own.waits.prefix kv.key) kv.create kv.lease own) own
      (either (λ (o : Ownership). o.waits.prefix ≡ own.waits.prefix) (is_some (at own.waits.spoiled (owned_key own.waits.prefix kv.key))) (acquire_spoiled (owned_key own.waits.prefix kv.key) own) (record own { entries = with_at own.entries (owned_key own.waits.prefix kv.key) (revoked_turn session kv.create kv.lease (at own.entries (owned_key own.waits.prefix kv.key))) }) refl refl) refl
  notice_prefix session (change.Delete j revision) own = refl

  pub message_clear : (session : Option ℕ) (events : List Event) (own : Ownership) → AllSpare k own.waits.prefix events → IsClear own → IsClear (all_noticed session events own)
  message_clear session [] own s h = h
  message_clear session (e ∷ es) own s h =
      message_clear session es (noticed session e.change own) (subst (λ (p : List ℕ). AllSpare k p es) (sym (notice_prefix session e.change own)) s.1) (notice_clear session e.change own s.0 h)

  pub resync_clear : (own : Ownership) → IsClear own → IsClear (resynced own)
  resync_clear own h = record { bare = (h.bare.0, none_each (λ w. stage_gone (λ j. true) w.stage) own.waits.writes h.bare.1); quiet = h.quiet }

  pub compaction_clear : (own : Ownership) → IsClear own → IsClear (all_given_up own)
  compaction_clear own h = record { bare = (bare_each _ own.entries h.bare.0, h.bare.1); quiet = h.quiet }

  -- ---- a write is handed in, and a job is sent

  pub submitted_clear : (ticket : ℕ) (q : Request) (own : Ownership) → covered (written_ranges q) k ≡ false → IsClear own → IsClear (submitted ticket q own)
  submitted_clear ticket q own c h =
      record { bare = (h.bare.0, none_append own.waits.writes (new_write ticket q ∷ []) h.bare.1 (both_none (covered (written_ranges q) k) false c refl)); quiet = h.quiet }

  abbrev pub SentClear : Option JobSent → Type 0
  SentClear None = Unit {0}
  SentClear (Some x) = IsClear x.own

  call_clear : (call : ℕ) (d : DueCall) (o : Option Write) (own : Ownership) → IsClear own → SentClear (call_of call d o own)
  call_clear call d None own h = tt
  call_clear call d (Some w) own h =
      either (λ s. IsClear s.own) (is_revoke d.place.kind) (revoke_job call d w own) (write_job call d w own)
      (record { bare = (h.bare.0, none_first (has_ticket d.place.number) _ own.waits.writes h.bare.1); quiet = h.quiet }) (record { bare = (h.bare.0, none_first (has_ticket d.place.number) _ own.waits.writes h.bare.1); quiet = h.quiet })

  calls_clear : (call : ℕ) (o : Option DueCall) (own : Ownership) → IsClear own → SentClear (call_sent call o own)
  calls_clear call None own h = tt
  calls_clear call (Some d) own h = call_clear call d (first_by (has_ticket d.place.number) own.waits.writes) own h

  sent_clear : (call : ℕ) (o : Option (List ℕ × Entry)) (own : Ownership) → IsClear own → SentClear (job_sent_after call o own)
  sent_clear call None own h = calls_clear call (first_call own.waits.writes) own h
  sent_clear call (Some e) own h = record { bare = (bare_changed e.0 _ own.entries h.bare.0, h.bare.1); quiet = h.quiet }

  pub job_sent_clear : (call : ℕ) (own : Ownership) → IsClear own → SentClear (job_sent call own)
  unfolding job_sent
  job_sent_clear call own h = sent_clear call (first_rescind own.entries) own h
