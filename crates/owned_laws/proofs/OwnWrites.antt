-- The first of the owner's own writes of a key, at a proxy's ownership: with its call's answer the key is held again, and the writes behind it
-- wait for their turn.
use Rattle.std.proofs.Common.{◌≡◌, inl, inr, ℕ, Bool, true, false, cond, ◌&&◌, ◌||◌, List, [], ◌∷◌, Option, None, Some, refl, sym, ◌∙◌, ap, subst}
use Rattle.std.specs.List.{list_any}
use Rattle.std.specs.Option.{option_map}
use Rattle.etcd_types.specs.declared.answer.Answer.{Answer}
use Rattle.etcd_types.specs.declared.answer.Answer.TheVariants as answer
use Rattle.etcd_types.specs.declared.request.Request.{Request}
use Rattle.proxy_model.specs.declared.lease.Entry.{Entry}
use Rattle.proxy_model.specs.declared.lease.Phase.TheVariants.{Held, Writing}
use Rattle.proxy_model.specs.declared.ownership.Written.{Written}
use Rattle.proxy_model.specs.declared.ownership.Written.TheVariants.{Wrote, Blocked}
use Rattle.proxy_model.specs.Guarded.{written}
use Rattle.proxy_model.specs.Keyed.{Keyed, at}
use Rattle.proxy_model.specs.LeaseTable.{is_writing_phase}
use Rattle.wait_model.specs.declared.wait.WaitJob.{WaitJob}
use Rattle.wait_model.specs.declared.wait.WaitJob.TheVariants as job
use Rattle.wait_model.specs.declared.write.Write.{Write}
use Rattle.wait_model.specs.Covers.{covers}
use Rattle.wait_model.specs.Endings.{answered_job, without_out, answered}
use Rattle.wait_model.specs.GuardedAnswers.{Ending, ended_by, owns, change_owned, done_if, write_answered}
use Rattle.wait_model.specs.Stages.{is_owner}
use Rattle.wait_model.specs.State.{Ownership}
use Rattle.wait_model.specs.Writes.{first_by, without_first, sends, job_of}
use Rattle.wait_model.proofs.Tables.{at-each}
use Rattle.core_fits.specs.Fits.{EachOf}
use Rattle.owned_laws.specs.OwnWrites.{OwnWrite, is_wrote, settles}
use Rattle.owned_laws.proofs.Modes.{Mine, IsMine, AllAlone, behind_as, first_as}
use Rattle.owned_laws.proofs.Own.{OverOf, MissesOf, sends_misses, over_away, OwnSo}
use Rattle.owned_laws.proofs.Ready.{ReadyIn}
use Rattle.owned_laws.proofs.Ways.{CallSo, NotOf, writes_own}

no_true : {A : Type 0} → false ≡ true → A
no_true e = absurd (cc)

some_write : (x y : Write) → Some x ≡ Some y → x ≡ y
some_write x y e = cc

apart : {A : Type 0} (b : Bool) → b ≡ true → b ≡ false → A
apart true e f = absurd (cc)
apart false e f = absurd (cc)

both_none : (a b : Bool) → a ≡ false → b ≡ false → a || b ≡ false
both_none true b h i = h
both_none false b h i = i

-- ---- the first write over the key, found

over_front : (k : List ℕ) (ms : List Mine) (y : Write) (ws : List Write) → covers y k ≡ false → OverOf k ms ws → OverOf k ms (y ∷ ws)
over_front k [] y ws c o = both_none (covers y k) (list_any (λ v. covers v k) ws) c o
over_front k (m ∷ ms) y ws c o = inr (c, o)

module _ (k : List ℕ) (m : Mine) (ms : List Mine) (p : Write → Bool) (miss : MissesOf ms p) (x : Write) (over : covers x k ≡ true) where
  pub one_found : (ws : List Write) → OverOf k (m ∷ ms) ws → first_by p ws ≡ Some x → IsMine m x
  one_found [] o e = absurd o
  one_found (y ∷ ws) (inl o) e = by (p y) e
    where
      by : (b : Bool) → cond b (Some y) (first_by p ws) ≡ Some x → IsMine m x
      by true f = subst (IsMine m) (some_write y x f) o.0
      by false f = apart (covers x k) over (over_away k ms p x ws miss o.1.1 f)
  one_found (y ∷ ws) (inr o) e = by (p y) e (one_found ws o.1)
    where
      by : (b : Bool) → cond b (Some y) (first_by p ws) ≡ Some x → (first_by p ws ≡ Some x → IsMine m x) → IsMine m x
      by true f more = apart (covers y k) (ap (λ (z : Write). covers z k) (some_write y x f) ∙ over) o.0
      by false f more = more f

  pub one_removed : (ws : List Write) → OverOf k (m ∷ ms) ws → first_by p ws ≡ Some x → OverOf k ms (without_first p ws)
  one_removed [] o e = absurd o
  one_removed (y ∷ ws) (inl o) e = by (p y) e
    where
      by : (b : Bool) → cond b (Some y) (first_by p ws) ≡ Some x → OverOf k ms (cond b ws (y ∷ without_first p ws))
      by true f = o.1.1
      by false f = apart (covers x k) over (over_away k ms p x ws miss o.1.1 f)
  one_removed (y ∷ ws) (inr o) e = by (p y) e (one_removed ws o.1)
    where
      by : (b : Bool) → cond b (Some y) (first_by p ws) ≡ Some x → (first_by p ws ≡ Some x → OverOf k ms (without_first p ws)) → OverOf k ms (cond b ws (y ∷ without_first p ws))
      by true f more = apart (covers y k) (ap (λ (z : Write). covers z k) (some_write y x f) ∙ over) o.0
      by false f more = over_front k ms y (without_first p ws) o.0 (more f)

-- ---- its call is answered

-- held, since the create revision before, and the other writes wait
pub record HeldAgain (k : List ℕ) (create : ℕ) (vs : List OwnWrite) (own : Ownership) : Type 0 where
  pub entry : Entry
  pub held : entry.phase ≡ Held
  pub created : entry.create ≡ create
  pub ready : ReadyIn k entry vs own

module _ (k : List ℕ) (n : ℕ) (v : OwnWrite) (vs : List OwnWrite) (out : ℕ) (alone : AllAlone k (behind_as (v ∷ vs))) (e : Entry) where
  abbrev m : Mine
  m = first_as v (Some out) true

  abbrev Mid : Ownership → Type 0
  Mid own = OwnSo (writes_own k n v vs (Some out) alone e) own

  abbrev pub After : Option Ending → Type 0
  After None = ⊥
  After (Some x) = HeldAgain k e.create vs x.own

  -- as it is being written
  abbrev written_entry : Entry
  written_entry = record e { phase = Writing false }

  -- an entry that its write changes to one that is held
  changed : (x : Write) (f : List ℕ → Entry → Entry) (es : Keyed Entry) → IsMine m x → covers x k ≡ true → at es k ≡ Some written_entry → at (change_owned x f es) k ≡ Some (f k written_entry)
  changed x f es i over here =
      at-each _ es k ∙ ap (option_map (λ (y : Entry). cond (owns x k && is_writing_phase y.phase) (f k y) y)) here
      ∙ ap (λ (b : Bool). Some (cond b (f k written_entry) written_entry)) (ap (λ (c : Bool). (is_owner x.stage && c) && true) over ∙ ap (λ (s : Rattle.wait_model.specs.declared.write.WriteStage.WriteStage). (is_owner s && true) && true) i.stage)

  ended : (p : Write → Bool) (x : Write) (own : Ownership) (f : List ℕ → Entry → Entry) → MissesOf (behind_as vs) p → first_by p own.waits.writes ≡ Some x → covers x k ≡ true → (f k written_entry).phase ≡ Held → (f k written_entry).create ≡ e.create → Mid own
      → HeldAgain k e.create vs (ended_by own (change_owned x f own.entries) p)
  ended p x own f miss is over held same t = record {
    entry = f k written_entry;
    held = held;
    created = same;
    ready = record {
      entry = changed x f own.entries (one_found k m (behind_as vs) p miss x over own.waits.writes (t.over refl) is) over (t.entry refl);
      over = one_removed k m (behind_as vs) p miss x over own.waits.writes (t.over refl) is;
      outs = subst (λ (c : ℕ). EachOf (CallSo (NotOf k c)) own.waits.out) (sym same) t.outs;
    };
  }

  by_written : (session : Option ℕ) (p : Write → Bool) (x : Write) (own : Ownership) (o : Option Written) → MissesOf (behind_as vs) p → first_by p own.waits.writes ≡ Some x → covers x k ≡ true → is_wrote o ≡ true → Mid own → After (done_if session p x o own)
  by_written session p x own None miss is over w t = no_true w
  by_written session p x own (Some (Blocked os)) miss is over w t = no_true w
  by_written session p x own (Some (Wrote reply)) miss is over w t = ended p x own _ miss is over refl refl t

  by_answer : (session : Option ℕ) (p : Write → Bool) (x : Write) (own : Ownership) (a : Answer) → MissesOf (behind_as vs) p → first_by p own.waits.writes ≡ Some x → covers x k ≡ true → settles own.waits.prefix v.request (Some a) ≡ true → Mid own
      → After (write_answered session p (Some x) a own)
  by_answer session p x own (answer.Done reply) miss is over s t =
      let i = one_found k m (behind_as vs) p miss x over own.waits.writes (t.over refl) is in
      by_written session p x own (written own.waits.prefix x.request reply) miss is over (ap (λ (q : Request). is_wrote (written own.waits.prefix q reply)) i.request ∙ s) t
  by_answer session p x own (answer.Refused r) miss is over s t = ended p x own _ miss is over refl refl t

  -- of the call of the first write over the key
  pub own_answered : (call : ℕ) (a : Answer) (session : Option ℕ) (now : ℕ) (x : Write) (own : Ownership) → job_of call own.waits.out ≡ Some job.Write → first_by (sends call) own.waits.writes ≡ Some x → covers x k ≡ true
      → settles own.waits.prefix v.request (Some a) ≡ true → Mid own → After (answered call a session now own)
  unfolding answered
  own_answered call a session now x own j is over s t =
      let M = writes_own k n v vs (Some out) alone e in
      let u = without_out call own in
      let less : Mid u = record { case = t.case; outs = M.less call own.waits.out t.outs; there = tt; over = t.over; mark = t.mark; entry = t.entry } in
      subst (λ (o : Option WaitJob). After (answered_job call a session now o u)) (sym j)
      (subst (λ (o : Option Write). After (write_answered session (sends call) o a u)) (sym is) (by_answer session (sends call) x u a (sends_misses call vs) is over s less))
