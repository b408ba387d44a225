-- What the store does keeps the view's invariant.
use Rattle.std.proofs.Common.{◌≡◌, ◌≢◌, ℕ, ◌+◌, ◌*◌, ◌<◌, ◌≤◌, ◌==◌, nat_lt, max, Bool, true, false, cond, List, Option, ◌⊎◌, inl, inr, refl, sym, ◌∙◌, ap, subst, arith}
use Rattle.std.proofs.lemmas.Bool.Decides.{nat_tests}
use Rattle.etcd_types.specs.declared.record.Kv.{Kv}
use Rattle.etcd_types.specs.Keys.{same}
use Rattle.etcd_types.proofs.KeyOrder.{same-equal, same-itself}
use Rattle.proxy_model.specs.RequestRefusals.{is_session}
use Rattle.cache_laws.specs.Moves.View.{Kind, Acquires, Writes, Rescinds, Grants, Keeps, Other, Owner, nobody, Term, Call, Outcome, View, live, put}
use Rattle.cache_laws.specs.Moves.Invariant.{Unsent, OwnerOk, CallOk, OutcomeOk, TermOk, LeaseOk, Inv}
use Rattle.cache_laws.specs.Moves.StoreMoves.{Ran, CallsKeep, made_with, AcquiresKeep, floor_with, leases_with, TermsKeep, Ended, EndsKeep}
use Rattle.cache_laws.proofs.Moves.Numbers.{put_here, put_other, itself, same_number, other_number}
use Rattle.cache_laws.proofs.Moves.SlotRuns.{slot_write, slot_acquire, slot_ends}

-- owners of a later revision

owner_later : {rev : ℕ} {made : ℕ → ℕ} {owner : Owner} (rev' : ℕ) → OwnerOk rev made owner → rev ≤ rev' → OwnerOk rev' made owner
owner_later rev' o l = let past = o.past in record { past = omega arith; maker = o.maker; none = o.none }

pub nobody_ok : (rev : ℕ) (made : ℕ → ℕ) → OwnerOk rev made nobody
nobody_ok rev made = record { past = omega arith; maker = λ n. absurd (n refl); none = λ e. refl }

-- of a new one also where this revision has a maker
owner_made : {rev : ℕ} {made : ℕ → ℕ} {owner : Owner} (rev' : ℕ) (made' : ℕ → ℕ) → OwnerOk rev made owner → rev ≤ rev' → ((c : ℕ) → c ≤ rev → made' c ≡ made c) → OwnerOk rev' made' owner
owner_made {owner = owner} rev' made' o l makes =
    let past = o.past in
    record { past = omega arith; maker = λ n. makes owner.create past ∙ o.maker n; none = o.none }

call_later : {holder : ℕ → ℕ} {rev : ℕ} {made : ℕ → ℕ} {c : Call} {k : List ℕ} (rev' : ℕ) (made' : ℕ → ℕ) → CallOk holder rev made c k → rev ≤ rev' → ((n : ℕ) → n ≤ rev → made' n ≡ made n) → CallOk holder rev' made' c k
call_later {holder = holder} {c = c} {k = k} rev' made' o l makes =
    record { past = λ e. (let past = o.past e in omega arith); own = λ e n. ap holder (makes (c.guards k) (o.past e)) ∙ o.own e n }

-- what is executed was sent
still_unsent : (v : View) (i : ℕ) (o : Outcome) (j : ℕ) → i ≤ v.sent → v.sent < j → Unsent (v.calls j) (v.outcomes j) → Unsent (v.calls j) (put v.outcomes i o j)
still_unsent v i o j l m u =
    let at : put v.outcomes i o j ≡ v.outcomes j = put_other v.outcomes i j o (grind (arith, nat_tests)) in
    record { covers = u.covers; done = ap (λ (x : Outcome). x.done) at ∙ u.done; still = ap (λ (x : Outcome). x.ok) at ∙ u.still; untimed = ap (λ (x : Outcome). x.ttl) at ∙ u.untimed }

-- the owners told at each revision, with those of a next one
told_later : (v : View) (rev : ℕ) (made : ℕ → ℕ) (owners : List ℕ → Owner) → v.rev ≤ rev → rev ≤ v.rev + 1 → ((c : ℕ) → c ≤ v.rev → made c ≡ v.made c)
    → ((r : ℕ) (k : List ℕ) → r ≤ v.rev → OwnerOk v.rev v.made (v.told r k)) → ((k : List ℕ) → OwnerOk rev made (owners k))
    → (r : ℕ) (k : List ℕ) → r ≤ rev → OwnerOk rev made (put v.told rev owners r k)
told_later v rev made owners past next makes old new r k l = by_test (r == rev) refl
  where
    by_test : (t : Bool) → (r == rev) ≡ t → OwnerOk rev made (cond t owners (v.told r) k)
    by_test true e = new k
    by_test false e = owner_made rev made (old r k (let n = other_number r rev e in grind arith)) past makes

-- outcomes of a later revision, and the new one

outcome_later : {rev : ℕ} {made floors : ℕ → ℕ} {c : Call} {o : Outcome} (rev' : ℕ) (made' floors' : ℕ → ℕ) → OutcomeOk rev made floors c o → rev ≤ rev' → ((n : ℕ) → n ≤ rev → made' n ≡ made n)
    → floors c.session ≤ floors' c.session → OutcomeOk rev' made' floors' c o
outcome_later {o = o} rev' made' floors' h l makes rises =
    record {
      owners = λ k. owner_made rev' made' (h.owners k) l makes;
      created = h.created;
      past = λ a ok. (let past = h.past a ok in omega arith);
      maker = λ a ok. makes o.create (h.past a ok) ∙ h.maker a ok;
      floor = λ n. (let f = h.floor n in omega arith);
    }

each_outcome : (rev : ℕ) (made floors : ℕ → ℕ) (calls : ℕ → Call) (outcomes : ℕ → Outcome) (i : ℕ) (o : Outcome) → ((j : ℕ) → OutcomeOk rev made floors (calls j) (outcomes j)) → OutcomeOk rev made floors (calls i) o
    → (j : ℕ) → OutcomeOk rev made floors (calls j) (put outcomes i o j)
each_outcome rev made floors calls outcomes i o old new j = by_test (j == i) refl
  where
    by_test : (t : Bool) → (j == i) ≡ t → OutcomeOk rev made floors (calls j) (cond t o (outcomes j))
    by_test true e = subst (λ (n : ℕ). OutcomeOk rev made floors (calls n) o) (sym (same_number j i e)) new
    by_test false e = old j

no_change : (made : ℕ → ℕ) (rev c : ℕ) → c ≤ rev → made c ≡ made c
no_change made rev c l = refl

untimed_floor : (o : Outcome) (at floor : ℕ) → o.ttl ≡ 0 → o.ttl ≢ 0 → at + 1000 * o.ttl ≤ floor
untimed_floor o at floor e n = absurd (n e)

-- a call that is no acquire

pub calls_keep : CallsKeep
calls_keep holder v i o rev w h =
    record {
      unsent = λ j l. still_unsent v i o j r.sent l (h.unsent j l);
      owners = owners_ok;
      told = told_later v rev v.made o.owners r.past r.next (no_change v.made v.rev) h.told owners_ok;
      calls = λ j k. call_later rev v.made (h.calls j k) r.past (no_change v.made v.rev);
      acquires = h.acquires;
      outcomes = each_outcome rev v.made v.floors v.calls v.outcomes i o (λ j. outcome_later rev v.made v.floors (h.outcomes j) r.past (no_change v.made v.rev) (omega arith))
          (record {
            owners = owners_ok;
            created = λ a. absurd (w.kind a);
            past = λ a. absurd (w.kind a);
            maker = λ a. absurd (w.kind a);
            floor = untimed_floor o (v.calls i).at (v.floors (v.calls i).session) w.untimed;
          });
      terms = h.terms;
      leases = h.leases;
      slots = λ p k. slot_write rev (o.owners k) i o (h.slots p k) r.past r.fresh w.kind r.done (λ ok c. w.guarded ok k c) (w.others k) (w.others_kv k) (λ f. w.failed f k) (λ f. w.failed_kv f k) (λ q. w.kept q k) (λ ok q c g. w.left ok q k c g) (λ ok q c g. w.unleased ok q k c g);
    }
  where
    r : Ran v i o rev
    r = w.ran

    same_owner : (k : List ℕ) → o.owners k ≡ v.owners k → OwnerOk rev v.made (o.owners k)
    same_owner k e = subst (OwnerOk rev v.made) (sym e) (owner_later rev (h.owners k) w.ran.past)

    no_owner : (k : List ℕ) → o.owners k ≡ nobody → OwnerOk rev v.made (o.owners k)
    no_owner k e = subst (OwnerOk rev v.made) (sym e) (nobody_ok rev v.made)

    by_kind : (k : List ℕ) (q : Kind) → (v.calls i).kind ≡ q → (v.calls i).covers k ≡ true → o.ok ≡ true → OwnerOk rev v.made (o.owners k)
    by_kind k Acquires e c f = absurd (w.kind e)
    by_kind k Writes e c f = same_owner k (w.kept e k)
    by_kind k Rescinds e c f = no_owner k (w.gone (λ g. cc) k c f)
    by_kind k Grants e c f = no_owner k (w.gone (λ g. cc) k c f)
    by_kind k Keeps e c f = no_owner k (w.gone (λ g. cc) k c f)
    by_kind k Other e c f = no_owner k (w.gone (λ g. cc) k c f)

    owner_by : (k : List ℕ) (covers ok : Bool) → (v.calls i).covers k ≡ covers → o.ok ≡ ok → OwnerOk rev v.made (o.owners k)
    owner_by k false ok e f = same_owner k (w.others k e)
    owner_by k true false e f = same_owner k (w.failed f k)
    owner_by k true true e f = by_kind k (v.calls i).kind refl e f

    owners_ok : (k : List ℕ) → OwnerOk rev v.made (o.owners k)
    owners_ok k = owner_by k ((v.calls i).covers k) o.ok refl refl

-- an acquire

decided_key : (a b : List ℕ) → (a ≡ b) ⊎ (a ≢ b)
decided_key a b = by_test (same a b) refl
  where
    by_test : (t : Bool) → same a b ≡ t → (a ≡ b) ⊎ (a ≢ b)
    by_test true e = inl (same-equal a b e)
    by_test false e = inr (λ f. (let g : same a b ≡ true = subst (λ (c : List ℕ). same a c ≡ true) f (same-itself a) in absurd (cc)))

pub acquires_keep : AcquiresKeep
acquires_keep holder v i o rev w h =
    record {
      unsent = λ j l. still_unsent v i o j r.sent l (h.unsent j l);
      owners = owners_ok;
      told = told_later v rev (made_with v i o rev) o.owners r.past r.next makes h.told owners_ok;
      calls = λ j k. call_later rev (made_with v i o rev) (h.calls j k) r.past makes;
      acquires = h.acquires;
      outcomes = each_outcome rev (made_with v i o rev) v.floors v.calls v.outcomes i o (λ j. outcome_later rev (made_with v i o rev) v.floors (h.outcomes j) r.past makes (omega arith))
          (record {
            owners = owners_ok;
            created = λ a ok z. (let n = w.newer ok in let c = w.created ok in omega arith);
            past = λ a ok. (let c = w.created ok in omega arith);
            maker = λ a ok. ap (made_with v i o rev) (w.created ok) ∙ newly ok;
            floor = untimed_floor o (v.calls i).at (v.floors (v.calls i).session) w.untimed;
          });
      terms = h.terms;
      leases = h.leases;
      slots = λ p k.
          slot_acquire rev (made_with v i o rev) (o.owners k) i o (h.slots p k) r.past r.fresh w.kind r.done makes (λ j. h.calls j k) (w.same k) (w.others k) (λ f. w.failed f k)
          w.newer w.created (λ ok is. w.free ok k is) (λ ok is. w.unleased ok k is) (λ ok is. w.owned ok k is) (decided_key (v.calls i).key k);
    }
  where
    r : Ran v i o rev
    r = w.ran

    makes_by : (ok : Bool) → o.ok ≡ ok → (c : ℕ) → c ≤ v.rev → cond ok (put v.made rev (v.calls i).session) v.made c ≡ v.made c
    makes_by true e c l = put_other v.made rev c (v.calls i).session (let n = w.newer e in grind (arith, nat_tests))
    makes_by false e c l = refl

    makes : (c : ℕ) → c ≤ v.rev → made_with v i o rev c ≡ v.made c
    makes c l = makes_by o.ok refl c l

    newly : o.ok ≡ true → made_with v i o rev rev ≡ (v.calls i).session
    newly ok = ap (λ (t : Bool). cond t (put v.made rev (v.calls i).session) v.made rev) ok ∙ put_here v.made rev rev (v.calls i).session (itself rev)

    same_owner : (k : List ℕ) → o.owners k ≡ v.owners k → OwnerOk rev (made_with v i o rev) (o.owners k)
    same_owner k e = subst (OwnerOk rev (made_with v i o rev)) (sym e) (owner_made rev (made_with v i o rev) (h.owners k) w.ran.past makes)

    new_owner : (k : List ℕ) → o.ok ≡ true → o.owners k ≡ record { create = rev; session = (v.calls i).session } → OwnerOk rev (made_with v i o rev) (o.owners k)
    new_owner k ok e =
        let n = w.newer ok in
        subst (OwnerOk rev (made_with v i o rev)) (sym e) (record { past = omega arith; maker = λ some. newly ok; none = λ z. absurd (omega arith) })

    owner_by : (k : List ℕ) (ok : Bool) → o.ok ≡ ok → ((v.calls i).key ≡ k) ⊎ ((v.calls i).key ≢ k) → OwnerOk rev (made_with v i o rev) (o.owners k)
    owner_by k true e (inl is) = new_owner k e (w.owned e k is)
    owner_by k true e (inr apart) = same_owner k (w.others k apart)
    owner_by k false e d = same_owner k (w.failed e k)

    owners_ok : (k : List ℕ) → OwnerOk rev (made_with v i o rev) (o.owners k)
    owners_ok k = owner_by k o.ok refl (decided_key (v.calls i).key k)

-- a grant or a keepalive

floor_rises : (v : View) (i : ℕ) (o : Outcome) (number : ℕ) → v.floors number ≤ put v.floors (v.calls i).session (floor_with v i o) number
floor_rises v i o number = by_test (number == (v.calls i).session) refl (o.ttl == 0)
  where
    by_test : (t : Bool) → (number == (v.calls i).session) ≡ t → (z : Bool) → v.floors number ≤ cond t (cond z (v.floors (v.calls i).session) (max (v.floors (v.calls i).session) ((v.calls i).at + 1000 * o.ttl))) (v.floors number)
    by_test true e true = let is = same_number number (v.calls i).session e in let f = ap v.floors is in omega arith
    by_test true e false = let is = same_number number (v.calls i).session e in let f = ap v.floors is in grind arith
    by_test false e z = omega arith

counted : (v : View) (i : ℕ) (o : Outcome) → o.ttl ≢ 0 → (v.calls i).at + 1000 * o.ttl ≤ put v.floors (v.calls i).session (floor_with v i o) (v.calls i).session
counted v i o n =
    subst (λ (f : ℕ). (v.calls i).at + 1000 * o.ttl ≤ f) (sym (put_here v.floors (v.calls i).session (v.calls i).session (floor_with v i o) (itself (v.calls i).session))) (by_test (o.ttl == 0) refl)
  where
    by_test : (z : Bool) → (o.ttl == 0) ≡ z → (v.calls i).at + 1000 * o.ttl ≤ cond z (v.floors (v.calls i).session) (max (v.floors (v.calls i).session) ((v.calls i).at + 1000 * o.ttl))
    by_test true e = absurd (n (same_number o.ttl 0 e))
    by_test false e = grind arith

lease_stands : (holder clocks : ℕ → ℕ) (v : View) (i : ℕ) (o : Outcome) (number : ℕ) → LeaseOk holder v.clocks v.floors v.leases number
    → LeaseOk holder v.clocks (put v.floors (v.calls i).session (floor_with v i o)) (leases_with v i o) number
lease_stands holder clocks v i o number old s l = by_tests (o.ttl == 0) (number == (v.calls i).session) refl refl l
  where
    by_tests : (z t : Bool) → (o.ttl == 0) ≡ z → (number == (v.calls i).session) ≡ t
        → v.clocks (holder number) < cond t (cond z (v.floors (v.calls i).session) (max (v.floors (v.calls i).session) ((v.calls i).at + 1000 * o.ttl))) (v.floors number)
        → cond z v.leases (put v.leases (v.calls i).session true) number ≡ true
    by_tests true true e f g = old s (let is = ap v.floors (same_number number (v.calls i).session f) in omega arith)
    by_tests true false e f g = old s g
    by_tests false true e f g = put_here v.leases (v.calls i).session number true f
    by_tests false false e f g = put_other v.leases (v.calls i).session number true f ∙ old s g

term_later : {holder : ℕ → ℕ} {drawn : ℕ → Bool} {floors : ℕ → ℕ} {calls : ℕ → Call} {p : ℕ} {t : Term} (floors' : ℕ → ℕ) → TermOk holder drawn floors calls p t → floors t.number ≤ floors' t.number → TermOk holder drawn floors' calls p t
term_later floors' h rises = record { standing = h.standing; floor = λ n. (let f = h.floor n in omega arith); drew = h.drew; alone = h.alone; unnamed = h.unnamed }

pub terms_keep : TermsKeep
terms_keep holder v i o w h =
    record {
      unsent = λ j l. still_unsent v i o j w.ran.sent l (h.unsent j l);
      owners = owners_ok;
      told = told_later v v.rev v.made o.owners (omega arith) (omega arith) (no_change v.made v.rev) h.told owners_ok;
      calls = h.calls;
      acquires = h.acquires;
      outcomes = each_outcome v.rev v.made floors v.calls v.outcomes i o (λ j. outcome_later v.rev v.made floors (h.outcomes j) (omega arith) (no_change v.made v.rev) (floor_rises v i o (v.calls j).session))
          (record {
            owners = owners_ok;
            created = λ a. absurd (w.kind a);
            past = λ a. absurd (w.kind a);
            maker = λ a. absurd (w.kind a);
            floor = counted v i o;
          });
      terms = λ p. term_later floors (h.terms p) (floor_rises v i o (v.terms p).number);
      leases = λ number. lease_stands holder v.clocks v i o number (h.leases number);
      slots = λ p k. slot_write v.rev (o.owners k) i o (h.slots p k) (omega arith) w.ran.fresh w.kind w.ran.done (λ ok c. absurd (let u = w.uncovered k in cc)) (λ c. w.owners k) (λ c. w.kvs k) (λ f. w.owners k) (λ f. w.kvs k) (λ q. w.owners k) (λ ok q c. absurd (let u = w.uncovered k in cc)) (λ ok q c. absurd (let u = w.uncovered k in cc));
    }
  where
    floors : ℕ → ℕ
    floors = put v.floors (v.calls i).session (floor_with v i o)

    owners_ok : (k : List ℕ) → OwnerOk v.rev v.made (o.owners k)
    owners_ok k = subst (OwnerOk v.rev v.made) (sym (w.owners k)) (h.owners k)

-- a lease that ends

-- it is no live session
pub not_live : {holder : ℕ → ℕ} {v : View} {lease rev : ℕ} {owners : List ℕ → Owner} {kvs : List ℕ → Option Kv} (p : ℕ) → Ended holder v lease rev owners kvs → Inv holder v → live v p ≢ lease
not_live {holder} {v} {lease} p w h = by_test (nat_lt (v.clocks p) (v.terms p).deadline) refl
  where
    stands : (v.clocks p) < (v.terms p).deadline → (v.terms p).number ≡ lease → ⊥
    stands l e = by_due w.due
      where
        some : (v.terms p).number ≢ 0
        some z = w.some (sym e ∙ z)

        by_due : (is_session lease ≡ false) ⊎ (v.floors lease ≤ v.clocks (holder lease)) → ⊥
        by_due (inl client) = absurd (let r = ap is_session (sym e) ∙ ((h.terms p).standing some).reserved in cc)
        by_due (inr due) =
            absurd
            (let f = (h.terms p).floor some in
            let same_floor : v.floors (v.terms p).number ≡ v.floors lease = ap v.floors e in
            let same_clock : v.clocks (holder lease) ≡ v.clocks p = ap v.clocks (ap holder (sym e) ∙ ((h.terms p).standing some).by) in
            omega arith)

    by_test : (t : Bool) → nat_lt (v.clocks p) (v.terms p).deadline ≡ t → cond t (v.terms p).number 0 ≢ lease
    by_test true e f = stands (grind (arith, nat_tests)) f
    by_test false e f = w.some (sym f)

pub ends_keep : EndsKeep
ends_keep holder v lease rev owners kvs w h =
    record {
      unsent = h.unsent;
      owners = owners_ok;
      told = told_later v rev v.made owners w.past w.next (no_change v.made v.rev) h.told owners_ok;
      calls = λ j k. call_later rev v.made (h.calls j k) w.past (no_change v.made v.rev);
      acquires = h.acquires;
      outcomes = λ j. outcome_later rev v.made v.floors (h.outcomes j) w.past (no_change v.made v.rev) (omega arith);
      terms = h.terms;
      leases = lease_by;
      slots = λ p k. slot_ends rev lease (owners k) (kvs k) (h.slots p k) w.past w.some (not_live p w h) (w.owner_kept k) (w.kept k);
    }
  where
    owner_by : (k : List ℕ) (t : Bool) → ((v.owners k).session == lease) ≡ t → OwnerOk rev v.made (owners k)
    owner_by k true e = subst (OwnerOk rev v.made) (sym (w.owner_gone k (same_number (v.owners k).session lease e))) (nobody_ok rev v.made)
    owner_by k false e = subst (OwnerOk rev v.made) (sym (w.owner_kept k (other_number (v.owners k).session lease e))) (owner_later rev (h.owners k) w.past)

    owners_ok : (k : List ℕ) → OwnerOk rev v.made (owners k)
    owners_ok k = owner_by k ((v.owners k).session == lease) refl

    lease_by : (number : ℕ) → is_session number ≡ true → v.clocks (holder number) < v.floors number → put v.leases lease false number ≡ true
    lease_by number s l = by_test (number == lease) refl
      where
        by_due : number ≡ lease → (is_session lease ≡ false) ⊎ (v.floors lease ≤ v.clocks (holder lease)) → ⊥
        by_due e (inl client) = absurd (let r = ap is_session (sym e) ∙ s in cc)
        by_due e (inr due) =
            absurd
            (let same_floor : v.floors number ≡ v.floors lease = ap v.floors e in
            let same_clock : v.clocks (holder number) ≡ v.clocks (holder lease) = ap (λ (n : ℕ). v.clocks (holder n)) e in
            omega arith)

        by_test : (t : Bool) → (number == lease) ≡ t → cond t false (v.leases number) ≡ true
        by_test true e = absurd (by_due (same_number number lease e) w.due)
        by_test false e = h.leases number s l
