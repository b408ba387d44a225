-- What the execution of a call does to floors, in the world as in the view.
use Rattle.std.proofs.Common.{◌≡◌, ◌≢◌, ℕ, ◌+◌, ◌*◌, ◌≤◌, ◌==◌, ◌&&◌, nat_lt, max, Bool, true, false, cond, List, Option, Some, refl, sym, ◌∙◌, ap, subst, arith}
use Rattle.std.proofs.lemmas.Bool.Decides.{nat_tests}
use Rattle.etcd_types.specs.declared.answer.Answer.{Answer}
use Rattle.etcd_types.specs.declared.answer.Answer.TheVariants as answer
use Rattle.etcd_types.specs.declared.answer.Body.{Body}
use Rattle.etcd_types.specs.declared.request.Request.{Request}
use Rattle.etcd_types.specs.declared.request.Request.TheVariants as request
use Rattle.proxy_model.specs.RequestRefusals.{is_session}
use Rattle.proxy_model.specs.Wrapped.{request_under}
use Rattle.namespace_laws.specs.Stored.Stored.{stored_answer, stored_body}
use Rattle.cache_laws.specs.Moves.View.{View, put}
use Rattle.cache_laws.proofs.Moves.Numbers.{same_number, other_number, put_other}
use Rattle.cache_laws.specs.Store.CallSteps.{IsRead}
use Rattle.call_laws.specs.Executions.{HasTerm, NoTerm, TermsGo}
use Rattle.call_laws.specs.Forms.{Form, Writes, Acquires, Rescinds, Revokes, Grants, Keeps, Ends, Reads, asked_by, IsFormed}
use Rattle.world_model.specs.declared.floor.Floor.{Floor}
use Rattle.world_model.specs.declared.sent_call.SentCall.{SentCall}
use Rattle.world_model.specs.Floors.{lives_until, counts, later, granted_floor, raised, kept_floor, floors_by, floors_after}
use Rattle.world_model.specs.Places.{kept_at, with_kept}
use Rattle.world_model.specs.State.{Numbered, Place}
use Rattle.bridge_laws.specs.Floors.{FloorsOk}
use Rattle.bridge_laws.specs.Shown.{GrantedBy}
use Rattle.bridge_laws.proofs.Rising.{floors_rise}

-- of a view in which sessions have these floors, and no other leases
floors_as : (holder f g : ℕ → ℕ) (l m : ℕ → Bool) (all : Numbered Floor) (places : Numbered Place) → ((n : ℕ) → is_session n ≡ true → g n ≡ f n) → ((n : ℕ) → is_session n ≡ true → m n ≡ true → l n ≡ true)
    → FloorsOk holder f l all places → FloorsOk holder g m all places
floors_as holder f g l m all places floors leases h = record {
  kept = λ n s x e. let o = h.kept n s x e in record { by = o.by; above = subst (λ (a : ℕ). a ≤ x.floor) (sym (floors n s)) o.above; place = o.place; at = o.at };
  there = λ n s e. h.there n s (leases n s e);
  none = λ n s e. floors n s ∙ h.none n s e;
}

put_same : {A : Type 0} (f : ℕ → A) (i n : ℕ) → put f i (f i) n ≡ f n
put_same f i n = by (n == i) refl
  where
    by : (b : Bool) → (n == i) ≡ b → cond b (f i) (f n) ≡ f n
    by true e = ap f (sym (same_number n i e))
    by false e = refl

-- whose floors count

above_none : (t : ℕ) → (t == 0) ≡ false → nat_lt 0 t ≡ true
above_none t z = grind (arith, nat_tests)

not_above : (t : ℕ) → (t == 0) ≡ true → nat_lt 0 t ≡ false
not_above t z = grind (arith, nat_tests)

count : (lease t : ℕ) → is_session lease ≡ true → (t == 0) ≡ false → counts lease t ≡ true
count lease t s z = λ j. s j && above_none t z j

no_session_counts : (lease t : ℕ) → is_session lease ≡ false → counts lease t ≡ false
no_session_counts lease t s = ap (λ (b : Bool). b && nat_lt 0 t) s

no_time_counts : (lease t : ℕ) → (t == 0) ≡ true → counts lease t ≡ false
no_time_counts lease t z = ap (λ (b : Bool). is_session lease && b) (not_above t z) ∙ by (is_session lease)
  where
    by : (b : Bool) → b && false ≡ false
    by true = refl
    by false = refl

apart : (n lease : ℕ) → is_session n ≡ true → is_session lease ≡ false → (n == lease) ≡ false
apart n lease s f = by (n == lease) refl
  where
    by : (b : Bool) → (n == lease) ≡ b → b ≡ false
    by true e = sym s ∙ ap is_session (same_number n lease e) ∙ f
    by false e = refl

-- what a time to live above 0 does, by the time until which the lease lives then
record Rises (v u : View) (lease until : ℕ) : Type 0 where
  floors : (n : ℕ) → u.floors n ≡ put v.floors lease (max (v.floors lease) until) n
  leases : (n : ℕ) → u.leases n ≡ put v.leases lease true n

module _ (holder : ℕ → ℕ) (ns p : List ℕ) (v u : View) (i : ℕ) (call : SentCall) (all : Numbered Floor) (places : Numbered Place) (h : FloorsOk holder v.floors v.leases all places) where
  abbrev Behind : Numbered Floor → Type 0
  Behind kept = FloorsOk holder u.floors u.leases kept places

  -- the time to live that was answered
  abbrev time : ℕ
  time = (u.outcomes i).ttl

  abbrev session : ℕ
  session = (v.calls i).session

  stays : NoTerm v u → Behind all
  stays k = floors_as holder v.floors u.floors v.leases u.leases all places (λ n s. k.floors n) (λ n s e. k.leases n e) h

  no_time : HasTerm v u i → (time == 0) ≡ true → Behind all
  no_time k z =
      floors_as holder v.floors u.floors v.leases u.leases all places
      (λ n s. k.floors n ∙ ap (λ (b : Bool). put v.floors session (cond b (v.floors session) (max (v.floors session) ((v.calls i).at + 1000 * time))) n) z ∙ put_same v.floors session n)
      (λ n s e. sym (k.leases n ∙ ap (λ (b : Bool). cond b v.leases (put v.leases session true) n) z) ∙ e) h

  rises : (lease : ℕ) → HasTerm v u i → session ≡ lease → (v.calls i).at ≡ call.clock → (time == 0) ≡ false → Rises v u lease (lives_until call time)
  rises lease k names at z = record {
    floors = λ n. k.floors n ∙ ap (λ (b : Bool). put v.floors session (cond b (v.floors session) (max (v.floors session) ((v.calls i).at + 1000 * time))) n) z
        ∙ (λ j. put v.floors (names j) (max (v.floors (names j)) (at j + 1000 * time)) n);
    leases = λ n. k.leases n ∙ ap (λ (b : Bool). cond b v.leases (put v.leases session true) n) z ∙ (λ j. put v.leases (names j) true n);
  }

  -- of a client's lease no floor is kept
  no_session : (lease : ℕ) → Rises v u lease (lives_until call time) → is_session lease ≡ false → Behind all
  no_session lease r f =
      floors_as holder v.floors u.floors v.leases u.leases all places (λ n s. r.floors n ∙ put_other v.floors lease n (max (v.floors lease) (lives_until call time)) (apart n lease s f))
      (λ n s e. sym (r.leases n ∙ put_other v.leases lease n true (apart n lease s f)) ∙ e) h

  raises : (lease proxy : ℕ) (x : Place) → Rises v u lease (lives_until call time) → proxy ≡ holder lease → kept_at places proxy ≡ Some x → is_session lease ≡ true
      → Behind (with_kept all lease (record { proxy = proxy; floor = later (lives_until call time) (kept_at all lease) }))
  raises lease proxy x r by at s =
      floors_as holder (put v.floors lease (max (v.floors lease) (lives_until call time))) u.floors (put v.leases lease true) u.leases
      (with_kept all lease (record { proxy = proxy; floor = later (lives_until call time) (kept_at all lease) })) places (λ n t. r.floors n) (λ n t e. sym (r.leases n) ∙ e)
      (floors_rise holder v.floors v.leases all places lease (lives_until call time) proxy x by at h s)

  granted_goes : (lease : ℕ) (x : Place) → HasTerm v u i → session ≡ lease → (v.calls i).at ≡ call.clock → (is_session lease ≡ true → holder lease ≡ call.proxy) → kept_at places call.proxy ≡ Some x
      → Behind (granted_floor call lease time all)
  granted_goes lease x k names at mine there = by (is_session lease) (time == 0) refl refl
    where
      new : Numbered Floor
      new = with_kept all lease (record { proxy = call.proxy; floor = later (lives_until call time) (kept_at all lease) })

      where_not : counts lease time ≡ false → Behind all → Behind (granted_floor call lease time all)
      where_not c b = subst (λ (t : Bool). Behind (cond t new all)) (sym c) b

      by : (b c : Bool) → is_session lease ≡ b → (time == 0) ≡ c → Behind (granted_floor call lease time all)
      by true true s z = where_not (no_time_counts lease time z) (no_time k z)
      by false true s z = where_not (no_time_counts lease time z) (no_time k z)
      by false false s z = where_not (no_session_counts lease time s) (no_session lease (rises lease k names at z) s)
      by true false s z = subst (λ (t : Bool). Behind (cond t new all)) (sym (count lease time s z)) (raises lease call.proxy x (rises lease k names at z) (sym (mine s)) there s)

  kept_goes : (lease : ℕ) → HasTerm v u i → session ≡ lease → (v.calls i).at ≡ call.clock → (time ≢ 0 → v.leases lease ≡ true) → Behind (kept_floor call lease time all)
  kept_goes lease k names at was = by (is_session lease) (time == 0) refl refl
    where
      new : Option Floor → Numbered Floor
      new o = raised lease (lives_until call time) all o

      where_not : counts lease time ≡ false → Behind all → Behind (kept_floor call lease time all)
      where_not c b = subst (λ (t : Bool). Behind (cond t (new (kept_at all lease)) all)) (sym c) b

      by_floor : (f : Floor) → kept_at all lease ≡ Some f → is_session lease ≡ true → Rises v u lease (lives_until call time) → Behind (new (kept_at all lease))
      by_floor f e s r =
          let o = h.kept lease s f e in
          subst (λ (a : Option Floor). Behind (new a)) (sym e)
          (subst (λ (a : Option Floor). Behind (with_kept all lease (record { proxy = f.proxy; floor = later (lives_until call time) a }))) e (raises lease f.proxy o.place r o.by o.at s))

      by : (b c : Bool) → is_session lease ≡ b → (time == 0) ≡ c → Behind (kept_floor call lease time all)
      by true true s z = where_not (no_time_counts lease time z) (no_time k z)
      by false true s z = where_not (no_time_counts lease time z) (no_time k z)
      by false false s z = where_not (no_session_counts lease time s) (no_session lease (rises lease k names at z) s)
      by true false s z =
          let f = h.there lease s (was (other_number time 0 z)) in
          subst (λ (t : Bool). Behind (cond t (new (kept_at all lease)) all)) (sym (count lease time s z)) (by_floor f.0 f.1 s (rises lease k names at z))

  -- a request that grants and keeps no lease
  reads_go : (q : Request) (b : Body) → IsRead q → Behind all → Behind (floors_by call (request_under ns q) b all)
  reads_go (request.Range ask) b r h' = h'
  reads_go (request.Txn t) b r h' = h'
  reads_go (request.Compact revision physical) b r h' = h'
  reads_go (request.TimeToLive lease keys) b r h' = h'
  reads_go request.Leases b r h' = h'
  reads_go (request.Put ask) b r h' = absurd r
  reads_go (request.Delete ask) b r h' = absurd r
  reads_go (request.Grant ttl lease) b r h' = absurd r
  reads_go (request.Revoke lease) b r h' = absurd r
  reads_go (request.KeepAlive lease) b r h' = absurd r
  reads_go (request.Watch ask) b r h' = absurd r

  -- by the answer of the store of bare keys
  pub floors_go : (form : Form) (a : Answer) (x : Place) → kept_at places call.proxy ≡ Some x → (v.calls i).at ≡ call.clock → IsFormed p form (v.calls i) → GrantedBy holder form call.proxy → TermsGo v u i form a
      → Behind (floors_after (record call { request = request_under ns (asked_by p form) }) (stored_answer ns a) all)
  floors_go form (answer.Refused r) x there at f g k = stays k
  floors_go (Writes write created) (answer.Done reply) x there at f g k = stays k
  floors_go (Acquires key lease) (answer.Done reply) x there at f g k = stays k
  floors_go (Rescinds key create) (answer.Done reply) x there at f g k = stays k
  floors_go (Revokes key create) (answer.Done reply) x there at f g k = stays k
  floors_go (Grants ttl lease) (answer.Done reply) x there at f g k =
      subst (λ (b : Body). Behind (floors_by call (request.Grant ttl lease) (stored_body ns b) all)) (sym k.0) (granted_goes lease x k.1 f.2 at (λ s. g ttl lease refl s) there)
  floors_go (Keeps lease) (answer.Done reply) x there at f g k = subst (λ (b : Body). Behind (floors_by call (request.KeepAlive lease) (stored_body ns b) all)) (sym k.0) (kept_goes lease k.1 f.1 at k.2)
  floors_go (Ends lease) (answer.Done reply) x there at f g k = stays k
  floors_go (Reads q) (answer.Done reply) x there at f g k = reads_go q (stored_body ns reply.body) f.0 (stays k)
