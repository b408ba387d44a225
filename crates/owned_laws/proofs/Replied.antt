-- A read of an owned key is replied by its own line.
use Rattle.std.proofs.Common.{◌≡◌, ◌⊎◌, inl, inr, ℕ, zero, suc, ◌==◌, nat_le, Bool, true, false, cond, not, ◌&&◌, ◌||◌, List, [], ◌∷◌, ◌++◌, append_assoc, length, Option, None, Some, is_some, Result, Ok, Err, refl, sym, ◌∙◌, ap, subst}
use Rattle.std.proofs.Common.{Ordering, Less, Equal, Greater, nat_cmp}
use Rattle.std.proofs.lemmas.List.Folds.{list_all-append}
use Rattle.std.specs.FinMap.{nat_cmp-IsAntisymmetric}
use Rattle.std.specs.FinMap.{put}
use Rattle.std.specs.FinMap.Entries.{by_order}
use Rattle.std.specs.Prelude.{flat_map}
use Rattle.std.specs.List.{list_all}
use Rattle.std.specs.BTreeSet.{BTreeSet}
use Rattle.etcd_types.specs.declared.answer.Answer.{Answer}
use Rattle.etcd_types.specs.declared.answer.Answer.TheVariants.{Done}
use Rattle.etcd_types.specs.declared.answer.Refusal.{Refusal}
use Rattle.etcd_types.specs.declared.answer.Reply.{Reply}
use Rattle.etcd_types.specs.declared.operation.RangeAsk.{RangeAsk}
use Rattle.etcd_types.specs.declared.request.Request.{Request}
use Rattle.etcd_types.specs.declared.request.Request.TheVariants as request
use Rattle.etcd_types.specs.Keys.{is_empty}
use Rattle.etcd_types.specs.Ranges.{contains}
use Rattle.etcd_types.specs.declared.answer.Body.{Body}
use Rattle.etcd_types.specs.declared.key_range.KeyRange.{KeyRange}
use Rattle.etcd_types.specs.declared.operation.Compare.{Compare}
use Rattle.etcd_types.specs.declared.operation.Op.{Op}
use Rattle.etcd_types.specs.declared.operation.Op.TheVariants as op
use Rattle.etcd_types.specs.declared.operation.TxnAsk.{TxnAsk}
use Rattle.etcd_types.proofs.Bools.{and_first, and_second, and_both}
use Rattle.proxy_model.specs.declared.lease.Entry.{Entry}
use Rattle.proxy_model.specs.Prefixes.{leasing_range}
use Rattle.proxy_model.specs.SeveralKeys.{with_all_written}
use Rattle.proxy_model.specs.Snapshot.{is_plain, is_plain_read, compares_one, has_room, is_snapshot, names_nothing, is_compare_held, is_read_held, all_held, snapshot_holds, snapshot_by, plain_body}
use Rattle.read_model.specs.declared.asked.Asked.{Asked}
use Rattle.watch_model.specs.Lookups.{watch_at}
use Rattle.core_model.specs.declared.event.CoreEvent.TheVariants as event
use Rattle.core_model.specs.declared.event.Outcome.{Outcome}
use Rattle.core_model.specs.declared.event.Outcome.TheVariants as outcome
use Rattle.core_model.specs.declared.event.StepFault.{StepFault}
use Rattle.core_model.specs.Asking.{asked_at, is_leased_read, write_is_asked, held_record, held_body, if_live, call_is_asked, answered_or_called, leased_ask, refused_or_taken, if_unknown, on_ask}
use Rattle.core_model.specs.Kinds.{has_some, writes_keys}
use Rattle.core_model.specs.ClockWork.{clock_work, is_replied}
use Rattle.core_model.specs.Lookups.{ask_at, is_known, moment}
use Rattle.core_model.specs.Refusals.{refusal_of}
use Rattle.core_model.specs.State.{Core}
use Rattle.core_model.specs.Step.{stepped}
use Rattle.core_model.specs.Stepped.{Stepped, counted, replies}
use Rattle.core_model.specs.Takes.{lesser, least_ready, ready}
use Rattle.core_fits.specs.Fits.{EachOf}
use Rattle.core_fits.proofs.CoreRows.{stepped_has}
use Rattle.core_fits.proofs.CallRows.{Last}
use Rattle.core_laws.proofs.Steps.AskedReads.{held_read_is_replied}
use Rattle.core_laws.proofs.Steps.Lists.{number_itself}
use Rattle.script_text.specs.declared.item.Item.{Item}
use Rattle.script_text.specs.declared.item.Item.TheVariants as item
use Rattle.world_model.specs.Asks.{told_at_once}
use Rattle.world_model.specs.Gains.{Replies, with_reply, fetched, all_fetched, fetched_as, fetched_if, body_if, reply_items}
use Rattle.world_model.specs.LiveSessions.{Session, session_of, is_live}
use Rattle.world_model.specs.Places.{place_at, with_core, is_among}
use Rattle.world_model.specs.State.{Place, World}
use Rattle.session_laws.proofs.Steps.{gave}
use Rattle.session_laws.proofs.Turns.{bound_of}
use Rattle.cached_laws.specs.Reads.{is_served}
use Rattle.cached_laws.proofs.Steps.{stepped_is}
use Rattle.cached_laws.proofs.WaitTold.{Seated, seated_behind, seated_is}
use Rattle.cached_laws.proofs.Worlds.{AllTold, Beside}
use Rattle.owned_laws.specs.Owned.{owns, owned, is_numbered, Owns}
use Rattle.owned_laws.specs.Caches.{is_reply_of, IsRepliedAtOnce, OwnsCompared, OwnsRead, OwnsReads, OwnsNamed}
use Rattle.owned_laws.proofs.Cores as cores
use Rattle.owned_laws.proofs.Ready.{IsHeldIn}
use Rattle.owned_laws.proofs.Carrying.{AllOwned}
use Rattle.owned_laws.proofs.Standing.{Before, prefix_is}
use Rattle.owned_laws.proofs.OwnKept.{unknown_gives}
use Rattle.owned_laws.proofs.Ending.{seated, seated_number}
use Rattle.owned_laws.proofs.Ways.{holds}

no_true : {A : Type 0} → false ≡ true → A
no_true e = absurd (cc)

-- ---- the reply stays among those that are fetched

module _ (ticket : ℕ) where
  -- an ok reply of the ticket is among them
  abbrev pub HasIn : Replies → Type 0
  HasIn [] = ⊥
  HasIn (x ∷ xs) = ((x.0 ≡ ticket) × ((reply : Reply) × (x.1 ≡ Done reply))) ⊎ HasIn xs

  put_has : (t : ℕ) (a : Answer) (rs : Replies) → (t == ticket) ≡ false → HasIn rs → HasIn (with_reply t a rs)
  put_has t a [] n h = absurd h
  put_has t a (x ∷ xs) n h = by (nat_cmp t x.0) refl h (λ k. put_has t a xs n k)
    where
      not_it : {A : Type 0} → t ≡ x.0 → x.0 ≡ ticket → A
      not_it e f = absurd (let g : true ≡ false = sym (number_itself t) ∙ ap (λ (m : ℕ). t == m) (e ∙ f) ∙ n in cc)

      by : (o : Ordering) → nat_cmp t x.0 ≡ o → HasIn (x ∷ xs) → (HasIn xs → HasIn (put nat_cmp t a xs)) → HasIn (by_order o ((t, a) ∷ x ∷ xs) ((x.0, a) ∷ xs) (x ∷ put nat_cmp t a xs))
      by Less e k more = inr k
      by Equal e (inl k) more = not_it (nat_cmp-IsAntisymmetric t x.0 e) k.0
      by Equal e (inr k) more = inr k
      by Greater e (inl k) more = inl k
      by Greater e (inr k) more = inr (more k)

  abbrev IsOther : Asked → Type 0
  IsOther a = (a.ticket == ticket) ≡ false

  abbrev Free : Core → Type 0
  Free c = EachOf IsOther c.asks

  lesser_other : (m : Option ℕ) (n : ℕ) → ((k : ℕ) → m ≡ Some k → (k == ticket) ≡ false) → (n == ticket) ≡ false → (lesser m n == ticket) ≡ false
  lesser_other None n f g = g
  lesser_other (Some k) n f g = by (nat_le k n)
    where
      by : (b : Bool) → (cond b k n == ticket) ≡ false
      by true = f k refl
      by false = g

  some_number : (a b : ℕ) → ◌≡◌ {A = Option ℕ} (Some a) (Some b) → a ≡ b
  some_number a b e = cc

  least_other : (least : Option ℕ) (xs : List Asked) (t : ℕ) → ((k : ℕ) → least ≡ Some k → (k == ticket) ≡ false) → EachOf IsOther xs → least_ready least xs ≡ Some t → (t == ticket) ≡ false
  least_other least [] t f h e = f t e
  least_other least (a ∷ xs) t f h e = least_other (cond (is_replied a.stage) (Some (lesser least a.ticket)) least) xs t (by (is_replied a.stage)) h.1 e
    where
      by : (b : Bool) (k : ℕ) → cond b (Some (lesser least a.ticket)) least ≡ Some k → (k == ticket) ≡ false
      by true k g = ap (λ (m : ℕ). m == ticket) (sym (some_number (lesser least a.ticket) k g)) ∙ lesser_other least a.ticket f h.0
      by false k g = f k g

  last : Last IsOther (λ w. Unit {0})
  last = record { asks = λ x y g k. ap (λ (m : ℕ). m == ticket) g.ticket ∙ k; writes = λ w s k. k }

  no_writes : (xs : List Rattle.wait_model.specs.declared.write.Write.Write) → EachOf (λ w. Unit {0}) xs
  no_writes [] = tt
  no_writes (x ∷ xs) = (tt, no_writes xs)

  take_free : (c : Core) (t now : ℕ) → Free c → Free (stepped c (event.Take t) now).core
  take_free c t now h = (stepped_has IsOther (λ w. Unit {0}) last (event.Take t) now c tt (h, no_writes c.own.waits.writes)).0

  none_ready : {A : Type 0} (k : ℕ) → ◌≡◌ {A = Option ℕ} None (Some k) → A
  none_ready k e = absurd (cc)

  fetched_has : (n : ℕ) (x : Place) (got : Replies) → Free x.core → HasIn got → HasIn (fetched n x got).replies
  fetched_has zero x got f h = h
  fetched_has (suc n) x got f h = by (ready x.core) refl (λ y g k l. fetched_has n y g k l)
    where
      by_outcome : (t : ℕ) (y : Place) (r : Result Outcome StepFault) → (t == ticket) ≡ false → Free y.core → ((y : Place) (g : Replies) → Free y.core → HasIn g → HasIn (fetched n y g).replies) → HasIn (fetched_as (fetched n) y t got r).replies
      by_outcome t y (Ok (outcome.Replied a)) e k more = more y (with_reply t a got) k (put_has t a got e h)
      by_outcome t y (Ok outcome.Waiting) e k more = h
      by_outcome t y (Ok outcome.Pending) e k more = h
      by_outcome t y (Ok outcome.Noted) e k more = h
      by_outcome t y (Ok (outcome.Item i)) e k more = h
      by_outcome t y (Ok (outcome.Job j)) e k more = h
      by_outcome t y (Err g) e k more = h

      by : (o : Option ℕ) → ready x.core ≡ o → ((y : Place) (g : Replies) → Free y.core → HasIn g → HasIn (fetched n y g).replies) → HasIn (fetched_if (fetched n) x got o).replies
      by None e more = h
      by (Some t) e more = by_outcome t (with_core x (stepped x.core (event.Take t) x.clock).core) (stepped x.core (event.Take t) x.clock).outcome (least_other None x.core.asks t (λ k g. none_ready k g) f e) (take_free x.core t x.clock f) more

  -- and so among the items of the line
  replied_in : (p : ℕ) (posted : BTreeSet ℕ) (rs : Replies) → HasIn rs → IsRepliedAtOnce p ticket (flat_map (reply_items p posted) rs)
  replied_in p posted [] h = absurd h
  replied_in p posted (x ∷ xs) (inl (e, (reply, f))) = record {
    before = [];
    reply = reply;
    rest = body_if (is_among posted x.0) p x.0 x.1 ++ flat_map (reply_items p posted) xs;
    split = λ i. item.Reply p (e i) (f i) ∷ (body_if (is_among posted x.0) p x.0 x.1 ++ flat_map (reply_items p posted) xs);
    replies = refl;
  }
  replied_in p posted (x ∷ xs) (inr h) =
      let r = replied_in p posted xs h in
      let body = body_if (is_among posted x.0) p x.0 x.1 in
      record {
        before = item.Reply p x.0 x.1 ∷ (body ++ r.before);
        reply = r.reply;
        rest = r.rest;
        split = ap (λ (ys : List Item). item.Reply p x.0 x.1 ∷ ys) (ap (λ (ys : List Item). body ++ ys) r.split ∙ sym (append_assoc body r.before (item.Reply p ticket (Done r.reply) ∷ r.rest)));
        replies = and_both (p == p) (list_all (is_reply_of p) (body ++ r.before)) (number_itself p)
            (list_all-append (is_reply_of p) body r.before ∙ and_both (list_all (is_reply_of p) body) (list_all (is_reply_of p) r.before) (bodies (is_among posted x.0)) r.replies);
      }
    where
      bodies : (c : Bool) → list_all (is_reply_of p) (body_if c p x.0 x.1) ≡ true
      bodies true = and_both (p == p) true (number_itself p) refl
      bodies false = refl

  -- no other request has the ticket
  unknown_free : (c : Core) → is_known ticket c ≡ false → Free c
  unknown_free c u = by c.asks (first (is_some (ask_at ticket c.asks)) (is_some (watch_at ticket c.watches.watches)) u)
    where
      first : (a b : Bool) → a || b ≡ false → a ≡ false
      first true b e = absurd (cc)
      first false b e = refl

      by : (xs : List Asked) → is_some (ask_at ticket xs) ≡ false → EachOf IsOther xs
      by [] e = tt
      by (x ∷ xs) e = by_ticket (x.ticket == ticket) refl e (by xs)
        where
          by_ticket : (b : Bool) → (x.ticket == ticket) ≡ b → is_some (cond b (Some x) (ask_at ticket xs)) ≡ false → (is_some (ask_at ticket xs) ≡ false → EachOf IsOther xs) → EachOf IsOther (x ∷ xs)
          by_ticket true f g more = absurd (cc)
          by_ticket false f g more = (f, more g)

-- ---- a read of an owned key

served : (o : Option Refusal) → is_served o ≡ true → o ≡ None
served None h = refl
served (Some r) h = absurd (cc)

everything : (k : List ℕ) → contains (leasing_range []) k ≡ true
everything [] = refl
everything (x ∷ xs) = refl

prefixed : (prefix k : List ℕ) → contains (leasing_range prefix) k ≡ false → not (is_empty prefix) ≡ true
prefixed [] k h = absurd (let f : true ≡ false = sym (everything k) ∙ h in cc)
prefixed (x ∷ xs) k h = refl

outside : (b c : Bool) → b && not c ≡ true → c ≡ false
outside true true e = absurd (cc)
outside true false e = refl
outside false c e = absurd (cc)

-- what reads single keys as they are now writes none
reads_write_none : (os : List Op) (rs : List KeyRange) → list_all is_plain_read os ≡ true → with_all_written os rs ≡ rs
reads_write_none [] rs e = refl
reads_write_none (op.Range ask ∷ os) rs e = reads_write_none os rs (and_second (is_plain ask) (list_all is_plain_read os) e)
reads_write_none (op.Put ask ∷ os) rs e = no_true e
reads_write_none (op.Delete ask ∷ os) rs e = no_true e
reads_write_none (op.Txn' compare m success n failure ∷ os) rs e = no_true e

writes_none : (t : TxnAsk) → list_all is_plain_read t.success ≡ true → list_all is_plain_read t.failure ≡ true → writes_keys (request.Txn t) ≡ false
writes_none t s f = ap has_some (reads_write_none t.failure (with_all_written t.success []) f ∙ reads_write_none t.success [] s)

snapshot_parts : (t : TxnAsk) → is_snapshot t ≡ true → (list_all is_plain_read t.success ≡ true) × (list_all is_plain_read t.failure ≡ true)
snapshot_parts t e =
    let room = has_room t.compare && has_room t.success && has_room t.failure in
    let compared = list_all compares_one t.compare in
    let s = list_all is_plain_read t.success in
    let f = list_all is_plain_read t.failure in
    (and_second (room && compared) s (and_first (room && compared && s) f e), and_second (room && compared && s) f e)

module _ (namespace : List ℕ) (items : List Item) (w : World) (b : Beside namespace items w) (h : AllTold items w (bound_of w)) (g : AllOwned items w (bound_of w)) (p : ℕ) (x : Place) (at : place_at w p ≡ Some x) where
  abbrev d : Core
  d = clock_work x.clock x.core

  known : Before namespace items w p x
  known = record { beside = b; proxies = h; keys = g; there = at }

  pre : d.own.waits.prefix ≡ w.leasing
  pre = prefix_is known

  some_outcome : (a c : Outcome) → ◌≡◌ {A = Result Outcome StepFault} (Ok a) (Ok c) → a ≡ c
  some_outcome a c e = cc

  -- by its own line, with the replies that stand ready
  line_replied : (q : Request) (reply : Reply) (ticket draw : ℕ) (o : Outcome) (y : Place) → (is_known ticket d ≡ false → on_ask x.clock ticket q draw d ≡ replies d (Done reply)) → (stepped x.core (event.Ask ticket q draw) x.clock).outcome ≡ Ok o
      → y.core ≡ (stepped x.core (event.Ask ticket q draw) x.clock).core → let f = all_fetched y (told_at_once ticket o) in IsRepliedAtOnce p ticket (flat_map (reply_items p f.place.posted) f.replies)
  line_replied q reply ticket draw o y answered is same =
      let e = event.Ask ticket q draw in
      let gave' = gave x.core e x.clock o is in
      let u = unknown_gives d x.clock ticket draw q o gave'.1 in
      let a = answered u in
      let given : outcome.Replied (Done reply) ≡ o = some_outcome (outcome.Replied (Done reply)) o (sym (ap (λ (s : Stepped). s.outcome) a) ∙ gave'.1) in
      let core : y.core ≡ (counted (replies d (Done reply))).core = same ∙ ap (λ (s : Stepped). s.core) (stepped_is x.core e x.clock gave'.0) ∙ ap (λ (s : Stepped). (counted s).core) a in
      let free : EachOf (λ z. (z.ticket == ticket) ≡ false) y.core.asks = subst (λ (c : Core). EachOf (λ z. (z.ticket == ticket) ≡ false) c.asks) (sym core) (unknown_free ticket d u) in
      let f = all_fetched y (told_at_once ticket o) in
      replied_in ticket p f.place.posted f.replies (fetched_has ticket (length y.core.asks) y (told_at_once ticket o) free (subst (λ (z : Outcome). HasIn ticket (told_at_once ticket z)) given (inl (refl, (reply, refl)))))

  -- an owned key is held behind the clock's work

  module _ (session : Session) (told : session_of p items ≡ Some session) (live : is_live p items ≡ true) where
    sits : Seated session.number x.clock d.seat
    sits = seated_behind session.number x.clock x.core (seated known session.number (ap (is_numbered session.number) told ∙ number_itself session.number) live)

    pub record IsHeldAt (k : List ℕ) : Type 0 where
      pub entry : Entry
      pub there : Rattle.proxy_model.specs.Keyed.at d.own.entries k ≡ Some entry
      pub held : entry.phase ≡ Rattle.proxy_model.specs.declared.lease.Phase.TheVariants.Held

    holds_owned : (k : List ℕ) → Owns w.namespace w.leasing k p session.number items → IsHeldAt k
    holds_owned k o =
        let held : IsHeldIn k session.number o.create x.core = ((g p x at).keys k o.ticket (owns session.number o.create) o.told).1 in
        record {
          entry = held.entry;
          there = ((cores.clock_so (holds k session.number held.entry held.held) ((λ c. refl), refl) x.clock x.core held.so) (seated_is session.number x.clock d.seat sits) tt).0.entry refl;
          held = held.held;
        }

    out : (ask : RangeAsk) → is_leased_read w.leasing (request.Range ask) ≡ true → contains (leasing_range w.leasing) ask.range.key ≡ false
    out ask plain = outside (is_plain ask) (contains (leasing_range w.leasing) ask.range.key) plain

    pub read_replied : (ask : RangeAsk) → is_leased_read w.leasing (request.Range ask) ≡ true → is_served (refusal_of w.leasing (request.Range ask)) ≡ true → Owns w.namespace w.leasing ask.range.key p session.number items
        → (ticket draw : ℕ) (o : Outcome) (y : Place) → (stepped x.core (event.Ask ticket (request.Range ask) draw) x.clock).outcome ≡ Ok o → y.core ≡ (stepped x.core (event.Ask ticket (request.Range ask) draw) x.clock).core
        → let f = all_fetched y (told_at_once ticket o) in IsRepliedAtOnce p ticket (flat_map (reply_items p f.place.posted) f.replies)
    read_replied ask plain served_it owned ticket draw o y is same =
        let held = holds_owned ask.range.key owned in
        line_replied (request.Range ask) (record { header = d.header; body = plain_body (Rattle.std.specs.Prelude.option_to_list held.entry.kv) }) ticket draw o y
        (λ u. held_read_is_replied d x.clock ticket draw ask held.entry
        (record {
          unknown = u;
          served = ap (λ (l : List ℕ). refusal_of l (request.Range ask)) pre ∙ served (refusal_of w.leasing (request.Range ask)) served_it;
          leasing = ap (λ (l : List ℕ). not (is_empty l)) pre ∙ prefixed w.leasing ask.range.key (out ask plain);
          plain = ap (λ (l : List ℕ). is_leased_read l (request.Range ask)) pre ∙ plain;
        }) held.there held.held) is same

    -- ---- a transaction that only reads

    is_there : (k : List ℕ) → IsHeldAt k → is_some (held_record (Rattle.proxy_model.specs.Keyed.at d.own.entries k)) ≡ true
    is_there k held = ap (λ (o : Option Entry). is_some (held_record o)) held.there ∙ ap (λ (f : Rattle.proxy_model.specs.declared.lease.Phase.Phase). is_some (cond (Rattle.proxy_model.specs.LeaseTable.is_held_phase f) (Some held.entry.kv) None)) held.held

    abbrev Records : Rattle.proxy_model.specs.Snapshot.Held
    Records = λ k. held_record (Rattle.proxy_model.specs.Keyed.at d.own.entries k)

    compared_held : (cs : List Compare) → OwnsCompared w.namespace w.leasing p session.number items cs → list_all (is_compare_held Records) cs ≡ true
    compared_held [] r = refl
    compared_held (c ∷ cs) r = and_both (is_compare_held Records c) (list_all (is_compare_held Records) cs) (is_there c.range.key (holds_owned c.range.key r.0)) (compared_held cs r.1)

    reads_held : (os : List Op) → list_all is_plain_read os ≡ true → OwnsReads w.namespace w.leasing p session.number items os → list_all (is_read_held Records) os ≡ true
    reads_held [] e r = refl
    reads_held (o ∷ os) e r =
        and_both (is_read_held Records o) (list_all (is_read_held Records) os) (one o (and_first (is_plain_read o) (list_all is_plain_read os) e) r.0) (reads_held os (and_second (is_plain_read o) (list_all is_plain_read os) e) r.1)
      where
        one : (o : Op) → is_plain_read o ≡ true → OwnsRead w.namespace w.leasing p session.number items o → is_read_held Records o ≡ true
        one (op.Range ask) e owned = is_there ask.range.key (holds_owned ask.range.key owned)
        one (op.Put ask) e owned = no_true e
        one (op.Delete ask) e owned = no_true e
        one (op.Txn' compare m success n failure) e owned = no_true e

    abbrev snapshot_reply : TxnAsk → Reply
    snapshot_reply t = record { header = d.header; body = snapshot_by Records t (list_all (snapshot_holds Records) t.compare) }

    snapshot_asked : (t : TxnAsk) (ticket draw : ℕ) → is_empty w.leasing ≡ false → refusal_of w.leasing (request.Txn t) ≡ None → is_snapshot t ≡ true → names_nothing t ≡ false → OwnsNamed w.namespace w.leasing p session.number items t → is_known ticket d ≡ false
        → on_ask x.clock ticket (request.Txn t) draw d ≡ replies d (Done (snapshot_reply t))
    unfolding on_ask
    snapshot_asked t ticket draw leased none snap named owned u =
        let q = request.Txn t in
        let m = moment d x.clock in
        let a = asked_at x.clock ticket q draw in
        let parts = snapshot_parts t snap in
        let held : all_held Records t ≡ true = and_both (list_all (is_compare_held Records) t.compare && list_all (is_read_held Records) t.success) (list_all (is_read_held Records) t.failure)
        (and_both (list_all (is_compare_held Records) t.compare) (list_all (is_read_held Records) t.success) (compared_held t.compare owned.compared) (reads_held t.success parts.0 owned.success)) (reads_held t.failure parts.1 owned.failure) in
        let tests : is_snapshot t && not (names_nothing t) && all_held Records t ≡ true =
        and_both (is_snapshot t && not (names_nothing t)) (all_held Records t) (and_both (is_snapshot t) (not (names_nothing t)) snap (ap not named)) held in
        let body : held_body d.own.entries q ≡ Some (snapshot_by Records t (list_all (snapshot_holds Records) t.compare)) = ap (λ (c : Bool). cond c (Some (snapshot_by Records t (list_all (snapshot_holds Records) t.compare))) None) tests in
        ap (λ (c : Bool). if_unknown c ticket d (refused_or_taken (refusal_of d.own.waits.prefix q) m a d)) u
        ∙ ap (λ (o : Option Refusal). refused_or_taken o m a d) (ap (λ (l : List ℕ). refusal_of l q) pre ∙ none)
        ∙ ap (λ (c : Bool). cond c (leased_ask m a d) (call_is_asked a d)) (ap (λ (l : List ℕ). not (is_empty l)) pre ∙ ap not leased)
        ∙ ap (λ (c : Bool). cond c (write_is_asked a d) (answered_or_called (if_live m.session (held_body d.own.entries q)) a d)) (writes_none t parts.0 parts.1)
        ∙ ap (λ (n : Option ℕ). answered_or_called (if_live n (held_body d.own.entries q)) a d) (seated_number known session.number d.seat sits)
        ∙ ap (λ (c : Option Body). answered_or_called c a d) body

    pub snapshot_replied : (t : TxnAsk) → is_empty w.leasing ≡ false → is_served (refusal_of w.leasing (request.Txn t)) ≡ true → is_snapshot t ≡ true → names_nothing t ≡ false → OwnsNamed w.namespace w.leasing p session.number items t
        → (ticket draw : ℕ) (o : Outcome) (y : Place) → (stepped x.core (event.Ask ticket (request.Txn t) draw) x.clock).outcome ≡ Ok o → y.core ≡ (stepped x.core (event.Ask ticket (request.Txn t) draw) x.clock).core
        → let f = all_fetched y (told_at_once ticket o) in IsRepliedAtOnce p ticket (flat_map (reply_items p f.place.posted) f.replies)
    snapshot_replied t leased served_it snap named owned ticket draw o y is same =
        line_replied (request.Txn t) (snapshot_reply t) ticket draw o y (λ u. snapshot_asked t ticket draw leased (served (refusal_of w.leasing (request.Txn t)) served_it) snap named owned u) is same
