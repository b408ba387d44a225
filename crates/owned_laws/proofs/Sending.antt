-- A proxy sends a call: what items tell of its owned keys goes on, and the call that takes a key is its acquire.
use Rattle.std.proofs.Common.{◌≡◌, ℕ, ◌+◌, ◌<◌, ◌==◌, nat_lt, Bool, true, false, not, ◌&&◌, ◌||◌, List, [], ◌∷◌, ◌++◌, Option, None, Some, Result, Ok, Err, refl, sym, ◌∙◌, ap, subst, arith}
use Rattle.std.proofs.lemmas.Bool.Decides.{nat_tests}
use Rattle.std.specs.List.{list_all, list_any}
use Rattle.etcd_types.specs.declared.request.Request.{Request}
use Rattle.etcd_types.specs.declared.request.Request.TheVariants as request
use Rattle.etcd_types.proofs.Bools.{and_first}
use Rattle.proxy_model.specs.declared.lease.Entry.{Entry}
use Rattle.proxy_model.specs.Leaving.{rescind}
use Rattle.proxy_model.specs.RequestRefusals.{is_session, names_session}
use Rattle.proxy_model.specs.Wrapped.{request_under}
use Rattle.wait_model.specs.Sent.{JobSent, job_sent}
use Rattle.wait_model.specs.Writes.{has_ticket}
use Rattle.core_model.specs.declared.event.CoreEvent.TheVariants as event
use Rattle.core_model.specs.declared.event.Job.TheVariants as job
use Rattle.core_model.specs.declared.event.Outcome.{Outcome}
use Rattle.core_model.specs.declared.event.Outcome.TheVariants as outcome
use Rattle.core_model.specs.declared.event.StepFault.{StepFault}
use Rattle.core_model.specs.declared.out_call.OutCall.{OutCall}
use Rattle.core_model.specs.declared.out_call.OutJob.{OutJob}
use Rattle.core_model.specs.declared.out_call.OutJob.TheVariants as outjob
use Rattle.core_model.specs.ClockWork.{clock_work}
use Rattle.core_model.specs.DueJobs.{ForWrites, first_job}
use Rattle.core_model.specs.Sending.{next_call, out_call}
use Rattle.core_model.specs.State.{Seat, Core}
use Rattle.core_model.specs.Step.{happened, is_worn, stepped}
use Rattle.core_model.specs.Stepped.{Stepped, counted, counted_by}
use Rattle.core_fits.specs.Fits.{EachOf}
use Rattle.core_laws.proofs.Steps.Lists.{number_itself}
use Rattle.script_text.specs.declared.item.Item.{Item}
use Rattle.script_text.specs.declared.item.Item.TheVariants as item
use Rattle.world_model.specs.declared.sent_call.SentCall.{SentCall}
use Rattle.world_model.specs.Places.{nth}
use Rattle.world_model.specs.Sends.{next_call as next_number, new_call}
use Rattle.world_model.specs.State.{Place, World}
use Rattle.world_laws.proofs.Effects.{calls}
use Rattle.held_laws.proofs.Opens.{last_nth}
use Rattle.renewed_laws.proofs.Gains.{stepped_to}
use Rattle.renewed_laws.proofs.Turns.{call_turned}
use Rattle.renewed_laws.proofs.Worlds.{Comes, was, new}
use Rattle.session_laws.proofs.Known.{OutKnown, JobKnown}
use Rattle.session_laws.proofs.Lists.{nth_next}
use Rattle.session_laws.proofs.Places.{CallOf}
use Rattle.session_laws.proofs.Steps.{gave}
use Rattle.session_laws.proofs.Turns.{bound_of, turn_told}
use Rattle.cached_laws.proofs.Steps.{stepped_is}
use Rattle.owned_laws.specs.OwnWrites.{OwnWrite}
use Rattle.owned_laws.specs.Owned.{Owning, asks, sends, owns, write_asked, write_sent, owner_key, gave_up, has_write, is_numbered, owned}
use Rattle.owned_laws.proofs.Carrying.{no_true, some_number, some_call, carry_pushed, less_later, gave_back}
use Rattle.owned_laws.proofs.Standing.{Before, later, mine, core_ok, agrees, owners, due, prefix_is, named, order, Lets, keep, outs_by}
use Rattle.owned_laws.proofs.Ending.{seated}
use Rattle.owned_laws.proofs.Cores as cores
use Rattle.owned_laws.proofs.Cores.{CoreSo, GoesOut}
use Rattle.owned_laws.proofs.Kept.{HasCall, Kept, KeysOk, Rescinded, OutsOk}
use Rattle.owned_laws.proofs.Late.{all_other, all_stay, behind_apart, there_apart, part_misses, all_apart, on_time, asking_on_time, present_on_time}
use Rattle.owned_laws.proofs.Modes.{AllAlone, behind_as, first_as}
use Rattle.owned_laws.proofs.Own.{MissesOf, ThereMisses}
use Rattle.owned_laws.proofs.OwnDue.{own_goes}
use Rattle.owned_laws.proofs.OwnWork.{outs_stay}
use Rattle.owned_laws.proofs.Sent.{is_client, ClientsApart, rescind_tells, rescind_due, writes_out, acquire_out}
use Rattle.owned_laws.proofs.Steps.{counted_so, sent_each, holding_out}
use Rattle.owned_laws.proofs.Told.{IsSent, SentAs, takes_it, sends_write, sends_other, told_sent}
use Rattle.owned_laws.proofs.Ways.{present, asking, sending_as, writes_own}

off_it : (b : Bool) → not b ≡ true → b ≡ false
off_it true e = absurd (cc)
off_it false e = refl

module _ {namespace : List ℕ} {items : List Item} {w : World} {p : ℕ} {x : Place} (known : Before namespace items w p x) where
  abbrev next : ℕ
  next = bound_of w + 1

  abbrev lea : List ℕ
  lea = w.leasing

  abbrev nsp : List ℕ
  nsp = w.namespace

  abbrev d : Core
  d = clock_work x.clock x.core

  -- ---- a call is sent

  last_each : (P : OutCall → Type 0) (o : OutCall) (xs : List OutCall) → EachOf P (xs ++ o ∷ []) → P o
  last_each P o [] f = f.0
  last_each P o (y ∷ ys) f = last_each P o ys f.1

  counted_out : (s : Stepped) → (counted s).core.out ≡ s.core.out
  counted_out s = by s.outcome
    where
      by : (r : Result Outcome StepFault) → (counted_by s.core r).core.out ≡ s.core.out
      by (Ok o) = refl
      by (Err f) = refl

  module _ (own member ticket : ℕ) (q : Request) (is : (stepped x.core event.Work x.clock).outcome ≡ Ok (outcome.Job (Some (job.Call own member ticket q)))) where
    abbrev sentItems : List Item
    sentItems = item.Sent p (next_number w) member ticket q ∷ []

    abbrev after : List SentCall
    after = w.calls ++ new_call p (stepped_to x event.Work) own member q ∷ []

    abbrev y : Place
    y = record (stepped_to x event.Work) { calls = x.calls ++ next_number w ∷ [] }

    gave' : (is_worn x.core ≡ false) × ((happened x.clock event.Work d).outcome ≡ Ok (outcome.Job (Some (job.Call own member ticket q))))
    gave' = gave x.core event.Work x.clock (outcome.Job (Some (job.Call own member ticket q))) is

    own_last : nth y.calls own ≡ Some (next_number w)
    own_last = by ((call_turned namespace items w p x own member ticket q known.beside.ok known.there is).calls (next_number w) (new_call p (stepped_to x event.Work) own member q) (last_nth w.calls (new_call p (stepped_to x event.Work) own member q)))
      where
        by : Comes w.calls p x.life y.calls (next_number w) (new_call p (stepped_to x event.Work) own member q) → nth y.calls own ≡ Some (next_number w)
        by (was s e i j k l) = absurd (let f : None ≡ Some s = sym (nth_next w.calls) ∙ e in cc)
        by (new i j k l) = k

    -- what a client's call asks for
    asks_for : (r : Request) (t : ℕ) → CallOf after p y.calls own r t → r ≡ q
    asks_for r t c =
        let same = some_number c.number (next_number w) (sym c.there ∙ own_last) in
        let one = some_call c.call (new_call p (stepped_to x event.Work) own member q) (sym c.is ∙ ap (nth after) same ∙ last_nth w.calls (new_call p (stepped_to x event.Work) own member q)) in
        sym c.asked ∙ ap (λ (z : SentCall). z.request) one

    clients : ClientsApart x.clock own d q
    clients j client number out =
        let t = turn_told namespace items w p x known.beside.ok known.there known.beside.sessions event.Work (outcome.Job (Some (job.Call own member ticket q))) (record w { calls = after }) y sentItems [] known.beside.small tt is (λ n e. absurd (cc)) (calls own member ticket q) in
        let same : y.core.out ≡ d.out ++ out_call x.clock j d ∷ [] = ap (λ (s : Stepped). s.core.out) (stepped_is x.core event.Work x.clock gave'.0) ∙ counted_out (happened x.clock event.Work d) ∙ out in
        by j client (last_each (OutKnown (CallOf after p y.calls) next y.core.seat) (out_call x.clock j d) d.out (subst (EachOf (OutKnown (CallOf after p y.calls) next y.core.seat)) same t.place.known.calls))
      where
        by : (i : OutJob) → is_client i ≡ true → JobKnown (CallOf after p y.calls) next y.core.seat (out_call x.clock j d) i → names_session q ≡ false
        by (outjob.Grant lease) c z = no_true c
        by (outjob.Keep lease) c z = no_true c
        by (outjob.Acquire l) c z = no_true c
        by outjob.Wait c z = ap names_session (sym (asks_for z.0 x.clock (subst (λ (m : ℕ). CallOf after p y.calls m z.0 x.clock) number z.1))) ∙ z.2
        by (outjob.Ask kind) c z = ap names_session (sym (asks_for z.0 x.clock (subst (λ (m : ℕ). CallOf after p y.calls m z.0 x.clock) number z.1))) ∙ z.2
        by (outjob.Group lease) c z = no_true c

    less : (n bound : ℕ) → nat_lt n bound ≡ true → n < bound
    less n bound e = grind (arith, nat_tests)

    seats_number : (s : Option Seat) (r : Seat) → s ≡ Some r → Rattle.core_fits.specs.Fits.SeatIsNumbered s → is_session r.session.number ≡ true
    seats_number None r e f = absurd (cc)
    seats_number (Some z) r e f = let one : z ≡ r = cc in ap (λ (v : Seat). is_session v.session.number) (sym one) ∙ f

    -- the ticket that a call of a write names
    named_by : (s : JobSent) → first_job d ≡ Some ForWrites → job_sent (next_call d) d.own ≡ Some s → s.due.ticket ≡ ticket
    named_by s f j = same_ticket s.due.ticket (next_call d) (request_under d.settings.namespace s.due.request) (sym (writes_out x.clock d s f j) ∙ gave'.1)
      where
        same_ticket : (i n : ℕ) (r : Request) → ◌≡◌ {A = Result Outcome StepFault} (Ok (outcome.Job (Some (job.Call n d.members.current i r)))) (Ok (outcome.Job (Some (job.Call own member ticket q)))) → i ≡ ticket
        same_ticket i n r e = cc

    -- it is another's than the owner's own writes
    write_lets : (k : List ℕ) (n : ℕ) (v : OwnWrite) (vs : List OwnWrite) (c : Option ℕ) (a : AllAlone k (behind_as (v ∷ vs))) (e : Entry) → list_any (λ w. ticket == w.ticket) (v ∷ vs) ≡ false → GoesOut (writes_own k n v vs c a e) (first_job d) d
    write_lets k n v vs c a e other j s is u = (outs_stay k n v vs c a e d (order known) u s is, ((λ b. subst (λ (i : ℕ). MissesOf (first_as v c b ∷ behind_as vs) (has_ticket i)) (sym (named_by s j is)) (all_apart ticket v vs c other b)), tt))

    behind_lets : (vs : List OwnWrite) (z : JobSent) → first_job d ≡ Some ForWrites → job_sent (next_call d) d.own ≡ Some z → list_any (λ w. ticket == w.ticket) vs ≡ false → MissesOf (behind_as vs) (has_ticket z.due.ticket)
    behind_lets vs z j i h = subst (λ (i : ℕ). MissesOf (behind_as vs) (has_ticket i)) (sym (named_by z j i)) (behind_apart ticket vs h)

    work_lets : (k : List ℕ) (t : ℕ) (o : Owning) → has_write ticket o ≡ false → Lets known event.Work k t o
    work_lets k t (asks vs) h = (
      all_other event.Work (λ i. tt) vs,
      (
        (λ a s j z i u. (tt, ((λ c. part_misses (has_ticket z.due.ticket) vs c (behind_lets vs z j i h)), tt))),
        (λ s j z i u. (tt, ((λ c. tt), subst (λ (i : ℕ). ThereMisses k vs (has_ticket i)) (sym (named_by z j i)) (there_apart k ticket vs h)))),
      ),
    )
    work_lets k t (sends c m vs) h = (all_other event.Work (λ i. tt) vs, λ n v a s j z i u. (tt, ((λ c. behind_lets vs z j i h), tt)))
    work_lets k t (owns m create) h = λ e f c u s. holding_out k m e f d (order known)
    work_lets k t (write_asked m create v vs) h = (all_other event.Work (λ i. tt) (v ∷ vs), λ l a e c s. write_lets k m v vs None a e h)
    work_lets k t (write_sent m create v vs number) h = (all_other event.Work (λ i. tt) (v ∷ vs), λ n i l a e c s. write_lets k m v vs (Some n) a e h)

    its_call : HasCall after p x.life (next_number w) own
    its_call = record { call = new_call p (stepped_to x event.Work) own member q; there = last_nth w.calls (new_call p (stepped_to x event.Work) own member q); own_is = refl; mine = refl; lives = refl }

    sending_kept : (k : List ℕ) (t : ℕ) (o : Owning) → IsSent nsp lea k p t items (next_number w) ticket q o → Kept after next p x.life x.clock k t o (stepped x.core event.Work x.clock).core
    sending_kept k t o v =
        let s = seated known v.session.number (ap (is_numbered v.session.number) v.told ∙ number_itself v.session.number) v.live in
        let n = v.session.number in
        let vs = v.writes in
        let was = (mine known).keys k t (asks vs) v.asked in
        let numbered = ap is_session (sym s.number) ∙ seats_number x.core.seat s.its s.there (known.beside.fits p x known.there).numbered in
        subst (λ (z : Owning). Kept after next p x.life x.clock k t z (stepped x.core event.Work x.clock).core) (sym v.sent)
        (record {
          own = own;
          call = its_call;
          below = (let k = less n (bound_of w) (ap (λ (m : ℕ). nat_lt m (bound_of w)) (sym s.number) ∙ (known.beside.sessions.places p x known.there).known.below s.its s.there) in less_later n (bound_of w) next k (later known));
          clients = was.clients;
          so = λ early.
              let u = was.so early in
              let so = cores.clock_by (asking k t vs u.alone) x.clock x.core (asking_on_time x.clock k t vs u.alone early x.core u.asked) u.so in
              let there = cores.clock_by (present k vs) x.clock x.core (present_on_time x.clock k vs early x.core u.asked) u.there in
              let M = sending_as k own n vs u.alone in
              let out = acquire_out nsp lea k n own member t x.clock vs u.alone q d (named known) (prefix_is known) numbered v.takes so there (due known) clients (gave'.1 ∙ ap (λ (m : ℕ). Ok (outcome.Job (Some (job.Call own member m q)))) v.ticket_is) in
              record {
                alone = u.alone;
                asked = all_stay vs x.core event.Work x.clock (core_ok known) (all_other event.Work (λ i. tt) vs) u.asked;
                so = subst (λ (z : Stepped). CoreSo M z.core) (sym (stepped_is x.core event.Work x.clock gave'.0)) (counted_so M (happened x.clock event.Work d) out);
              };
        })

    -- the first write's own call
    writing_kept : (k : List ℕ) (t n create : ℕ) (v : OwnWrite) (vs : List OwnWrite) → owned nsp lea k p t items ≡ Some (write_asked n create v vs) → ticket ≡ v.ticket → Kept after next p x.life x.clock k t (write_sent n create v vs (next_number w)) (stepped x.core event.Work x.clock).core
    writing_kept k t n create v vs told names =
        let s = (mine known).keys k t (write_asked n create v vs) told in
        let client = off_it (v.ticket == 0) (and_first (not (v.ticket == 0)) (list_all (λ v. not (v.ticket == 0)) vs) s.clients) in
        record {
          own = own;
          call = its_call;
          below = less_later n (bound_of w) next s.below (later known);
          clients = s.clients;
          so = λ early.
              let u = s.so early in
              let h = u.begun in
              let M = writes_own k n v vs None h.alone h.entry in
              let N = writes_own k n v vs (Some own) h.alone h.entry in
              let goes = own_goes k v vs n h.alone h.entry d (order known) (agrees known) (owners known).acquires.rising client x.clock own member q (due known) (gave'.1 ∙ ap (λ (m : ℕ). Ok (outcome.Job (Some (job.Call own member m q)))) names)
              (cores.clock_by M x.clock x.core (on_time x.clock k n v vs None h.alone h.entry early x.core u.asked) h.so) in
              record {
                begun = record { entry = h.entry; created = h.created; alone = h.alone; so = subst (λ (z : Stepped). CoreSo N z.core) (sym (stepped_is x.core event.Work x.clock gave'.0)) (counted_so N (happened x.clock event.Work d) goes) };
                asked = all_stay (v ∷ vs) x.core event.Work x.clock (core_ok known) (all_other event.Work (λ i. tt) (v ∷ vs)) u.asked;
              };
        }

    pub sent_keys : KeysOk nsp lea next after (items ++ sentItems) p x.life x.clock (stepped x.core event.Work x.clock).core
    sent_keys k t o f = by (told_sent nsp lea k p t items (next_number w) member ticket q o f)
      where
        by : SentAs nsp lea k p t items (next_number w) ticket q o → Kept after next p x.life x.clock k t o (stepped x.core event.Work x.clock).core
        by (takes_it v) = sending_kept k t o v
        by (sends_write n create v vs told names is) = subst (λ (y : Owning). Kept after next p x.life x.clock k t y (stepped x.core event.Work x.clock).core) (sym is) (writing_kept k t n create v vs told names)
        by (sends_other u h) = keep known event.Work k t o after (carry_pushed w.calls (new_call p (stepped_to x event.Work) own member q)) (work_lets k t o h) ((mine known).keys k t o u)

    same_request : (r : Request) (t n m : ℕ) → ◌≡◌ {A = Result Outcome StepFault} (Ok (outcome.Job (Some (job.Call n m t (request_under d.settings.namespace r))))) (Ok (outcome.Job (Some (job.Call own member ticket q)))) → request_under d.settings.namespace r ≡ q
    same_request r t n m e = cc

    pub sent_outs : OutsOk nsp lea (items ++ sentItems) p (stepped x.core event.Work x.clock).core
    sent_outs = outs_by known event.Work sentItems (λ f s j t. (sent_each (Rescinded nsp lea (items ++ sentItems) p) (next_call d) d.own (first f s j) t.outs s j, ((λ c. tt), tt)))
      where
        first : first_job d ≡ Some Rattle.core_model.specs.DueJobs.ForWrites → (s : JobSent) → job_sent (next_call d) d.own ≡ Some s → (z : List ℕ × Entry) → Rattle.wait_model.specs.DueOrder.first_rescind d.own.entries ≡ Some z
            → gave_up (owner_key nsp lea z.0) z.1.create p (items ++ sentItems) ≡ true
        first f s j z r =
            let asked = same_request s.due.request s.due.ticket (next_call d) d.members.current (sym (writes_out x.clock d s f j) ∙ gave'.1) in
            let is_rescind : request_under nsp (request.Txn (rescind lea z.0 z.1.create)) ≡ q =
            ap (λ (l : List ℕ). request_under l (request.Txn (rescind lea z.0 z.1.create))) (sym (named known)) ∙ ap (λ (l : List ℕ). request_under d.settings.namespace (request.Txn (rescind l z.0 z.1.create))) (sym (prefix_is known))
            ∙ ap (request_under d.settings.namespace) (sym (rescind_due (next_call d) d.own z s r j)) ∙ asked in
            gave_back (owner_key nsp lea z.0) z.1.create p items sentItems
            (ap (λ (c : Bool). (c && Rattle.owned_laws.specs.Owned.rescinds (owner_key nsp lea z.0) z.1.create q) || false) (number_itself p)
            ∙ ap (λ (c : Bool). c || false) (ap (Rattle.owned_laws.specs.Owned.rescinds (owner_key nsp lea z.0) z.1.create) (sym is_rescind) ∙ rescind_tells nsp lea z.0 z.1.create))
