-- A call of a read that is lost with a step, or answered with an older reply than what was seen, is told so by the step's item.
use Rattle.std.proofs.Common.{◌≡◌, refl, ℕ, ◌==◌, nat_lt, Bool, true, false, not, cond, ◌&&◌, List, [], ◌∷◌, ◌++◌, append-nil, Option, None, Some, Ok, Err, sym, ◌∙◌, ap, subst}
use Rattle.std.specs.List.{list_any}
use Rattle.etcd_types.proofs.Bools.{and_second}
use Rattle.std.specs.Prelude.{is_some}
use Rattle.etcd_types.specs.declared.operation.TxnAsk.{TxnAsk}
use Rattle.etcd_types.specs.declared.request.Request.{Request}
use Rattle.etcd_types.specs.declared.request.Request.TheVariants as request
use Rattle.proxy_model.specs.declared.ownership.Claim.{Claim}
use Rattle.proxy_model.specs.Acquire.{claimed, acquire as acquire_of}
use Rattle.proxy_model.specs.Keyed.{at}
use Rattle.proxy_model.specs.PassingOn.{passed_on}
use Rattle.proxy_model.specs.Wrapped.{request_under}
use Rattle.read_model.specs.declared.acquire.Acquire.{Acquire}
use Rattle.read_model.specs.Acquires.{done_by, is_to_be_held, answered_acquire, acquire_answered}
use Rattle.read_model.specs.PlainRead.{key_of}
use Rattle.core_model.specs.declared.out_call.OutJob.{OutJob}
use Rattle.core_model.specs.declared.settings.Settings.{Settings}
use Rattle.core_model.specs.Asking.{is_plain_request}
use Rattle.core_model.specs.Ends.{ask_done, ask_answered, acquire_if, answered_job, call_gone}
use Rattle.core_model.specs.Heard.{answer_taken}
use Rattle.core_model.specs.Kinds.{kind_of, is_body_of}
use Rattle.core_model.specs.Lookups.{moment, reads_of}
use Rattle.core_model.specs.State.{Core}
use Rattle.core_fits.proofs.Prefix.{clock_prefix}
use Rattle.world_model.specs.Lives.{world_of, life, asked_as, executed_to}
use Rattle.etcd_types.specs.declared.answer.Answer.{Answer}
use Rattle.etcd_types.specs.declared.answer.Answer.TheVariants.{Done, Refused}
use Rattle.etcd_types.specs.declared.answer.Body.{Body}
use Rattle.etcd_types.specs.declared.answer.Reply.{Reply}
use Rattle.proxy_model.specs.Members.{is_stale}
use Rattle.proxy_model.specs.Unwrapped.{Unwrapped, ◌>>=◌, body_without}
use Rattle.read_model.specs.declared.asked.Asked.{Asked}
use Rattle.core_model.specs.declared.event.CoreEvent.{CoreEvent}
use Rattle.core_model.specs.declared.event.CoreEvent.TheVariants as event
use Rattle.core_model.specs.declared.out_call.OutCall.{OutCall}
use Rattle.core_model.specs.declared.out_call.CallKind.{CallKind}
use Rattle.core_model.specs.declared.out_call.OutJob.TheVariants as job
use Rattle.core_model.specs.ClockWork.{clock_work}
use Rattle.core_model.specs.Ends.{is_stale_reply}
use Rattle.core_model.specs.Heard.{is_known, heard, heard_reply}
use Rattle.core_model.specs.Kinds.{is_ordered}
use Rattle.core_model.specs.Lookups.{out_at}
use Rattle.core_fits.specs.Fits.{EachOf}
use Rattle.script_text.specs.declared.item.Item.{Item}
use Rattle.script_text.specs.declared.item.Item.TheVariants as item
use Rattle.world_model.specs.Places.{place_at}
use Rattle.world_model.specs.Reads.{given}
use Rattle.world_model.specs.State.{Place, World}
use Rattle.renewed_laws.proofs.Worlds.{WorldOk}
use Rattle.reply_laws.proofs.Before.{clock_leaves}
use Rattle.executed_laws.proofs.Worlds.{AllKept}
use Rattle.cause_laws.specs.Causes.{is_call_for, is_no_reply, is_acquire_of, fits_read, is_lost_answer, before_sent, is_older, is_loss, is_stale_for}
use Rattle.cause_laws.proofs.Walks.{ReadOf}
use Rattle.cause_laws.proofs.Steps.{IsLost, lost, unheard, unread}
use Rattle.cause_laws.proofs.After.{EndsNow}
use Rattle.cause_laws.proofs.Caused.{refused_read}
use Rattle.cause_laws.proofs.AskKinds.{OfKinds}
use Rattle.cause_laws.proofs.Knows.{Knows}
use Rattle.cause_laws.proofs.Named.{read_of, read_with, asked_of, ask_of}
use Rattle.cause_laws.proofs.Seen.{IsGiven}
use Rattle.cause_laws.proofs.Turns.{EndItem, AnswerItem, OwnStep}
use Rattle.cause_laws.proofs.Waits.{Counted}

-- an answer that is heard as a reply has its header
older_is : (namespace : List ℕ) (a : Answer) (reply : Reply) (revisions : List ℕ) → heard namespace a ≡ Some (Done reply) → list_any (λ r. nat_lt reply.header.revision r) revisions ≡ true → is_older revisions (Some a) ≡ true
older_is namespace (Done x) reply revisions e h = by (body_without namespace x.body) e
  where
    same_reply : (y : Reply) → Some (Done y) ≡ Some (Done reply) → y ≡ reply
    same_reply y f = cc

    by : (u : Unwrapped Body) → heard_reply (u >>= λ body. Ok (record x { body = body })) ≡ Some (Done reply) → list_any (λ r. nat_lt x.header.revision r) revisions ≡ true
    by (Ok body) f = ap (λ (y : Reply). list_any (λ r. nat_lt y.header.revision r) revisions) (same_reply (record x { body = body }) f) ∙ h
    by (Err foreign) f = absurd (cc)
older_is namespace (Refused r) reply revisions e h = by (is_known r.code) e
  where
    by : (b : Bool) → cond b (Some (Refused r)) None ≡ Some (Done reply) → false ≡ true
    by true f = absurd (cc)
    by false f = absurd (cc)

-- ---- replies that can't be read

some_none' : {A : Type 0} {B : Type 0} (x : B) → Some x ≡ None → A
some_none' x e = absurd (cc)

own_no_acquire : (namespace : List ℕ) (word : ℕ) (q : Request) → is_acquire_of q (passed_on namespace word q) ≡ false
own_no_acquire namespace word (request.Range ask) = refl
own_no_acquire namespace word (request.Put ask) = refl
own_no_acquire namespace word (request.Delete ask) = refl
own_no_acquire namespace word (request.Txn t) = refl
own_no_acquire namespace word (request.Compact revision physical) = refl
own_no_acquire namespace word (request.Grant ttl lease) = refl
own_no_acquire namespace word (request.Revoke lease) = refl
own_no_acquire namespace word (request.KeepAlive lease) = refl
own_no_acquire namespace word (request.TimeToLive lease keys) = refl
own_no_acquire namespace word request.Leases = refl
own_no_acquire namespace word (request.Watch ask) = refl

acquire_is : (namespace : List ℕ) (t : TxnAsk) (q : Request) → is_plain_request q ≡ true → is_acquire_of q (request_under namespace (request.Txn t)) ≡ true
acquire_is namespace t (request.Range ask) h = refl
acquire_is namespace t (request.Put ask) h = absurd (cc)
acquire_is namespace t (request.Delete ask) h = absurd (cc)
acquire_is namespace t (request.Txn u) h = absurd (cc)
acquire_is namespace t (request.Compact revision physical) h = absurd (cc)
acquire_is namespace t (request.Grant ttl lease) h = absurd (cc)
acquire_is namespace t (request.Revoke lease) h = absurd (cc)
acquire_is namespace t (request.KeepAlive lease) h = absurd (cc)
acquire_is namespace t (request.TimeToLive lease keys) h = absurd (cc)
acquire_is namespace t request.Leases h = absurd (cc)
acquire_is namespace t (request.Watch ask) h = absurd (cc)

unread_body : (k : CallKind) (o : OutCall) (reply : Reply) (c : Core) → ask_answered k o (Done reply) c ≡ None → is_body_of k reply.body ≡ false
unread_body k o reply c e = by (is_body_of k reply.body) e
  where
    by : (b : Bool) → cond b (Some (ask_done k o reply c)) None ≡ None → b ≡ false
    by true f = some_none' _ f
    by false f = refl

unread_claim : (now : ℕ) (key : List ℕ) (a : Answer) (reply : Reply) (c : Core) → acquire_if (answer_taken a c) (acquire_answered (moment (answer_taken a c) now) key (Done reply) (reads_of (answer_taken a c))) ≡ None → claimed c.own.waits.prefix key reply ≡ None
unread_claim now key a reply c e = by_answer a e
  where
    by_read : (d : Core) → d.own.waits.prefix ≡ c.own.waits.prefix → (q : Option Acquire) → acquire_if d (answered_acquire (moment d now) key q (Done reply) (reads_of d)) ≡ None → claimed c.own.waits.prefix key reply ≡ None
    by_read d same None f = some_none' _ f
    by_read d same (Some x) f = ap (λ (n : List ℕ). claimed n key reply) (sym same) ∙ by (claimed d.own.waits.prefix key reply) f
      where
        by : (q : Option Claim) → acquire_if d (done_by (moment d now) key (is_to_be_held (moment d now) key x (reads_of d)) reply.header q (reads_of d)) ≡ None → q ≡ None
        by None g = refl
        by (Some claim) g = some_none' _ g

    by_answer : (b : Answer) → acquire_if (answer_taken b c) (acquire_answered (moment (answer_taken b c) now) key (Done reply) (reads_of (answer_taken b c))) ≡ None → claimed c.own.waits.prefix key reply ≡ None
    by_answer (Done z) f = by_read (answer_taken (Done z) c) refl (at c.acquires key) f
    by_answer (Refused r) f = by_read c refl (at c.acquires key) f

-- a call that is found is one of those that are out
each_out : (P : OutCall → Type 0) (call : ℕ) (out : List OutCall) (o : OutCall) → out_at call out ≡ Some o → EachOf P out → P o
each_out P call [] o e h = absurd (cc)
each_out P call (x ∷ out) o e h = by (x.call == call) e (λ f. each_out P call out o f h.1)
  where
    same_out : Some x ≡ Some o → x ≡ o
    same_out f = cc

    by : (b : Bool) → cond b (Some x) (out_at call out) ≡ Some o → (out_at call out ≡ Some o → P o) → P o
    by true f more = subst P (same_out f) h.0
    by false f more = more f

same_number' : (a b : ℕ) → Some a ≡ Some b → a ≡ b
same_number' a b e = cc

-- before the step there are these items alone
bare_items : (items pre : List Item) → pre ≡ [] → items ++ pre ≡ items
bare_items items pre e = ap (λ (xs : List Item). items ++ xs) e ∙ append-nil items

module _ (items own : List Item) (w : World) (p : ℕ) (x : Place) (ok : WorldOk w.namespace items w) (k : AllKept items w) (there : place_at w p ≡ Some x) (knows : Knows items p x.calls x.core) (kinds : OfKinds x.core x.clock) (e : CoreEvent) (s : OwnStep items own x.calls p e) where
  lost_item : (ticket : ℕ) (o : OutCall) (t : EndItem items s.pre x.calls p s.step o.call (λ number. item.Lost number)) → list_any (is_call_for p ticket t.number) items ≡ true → is_loss p ticket (items ++ s.pre) s.step ≡ true
  lost_item ticket o t h = (λ i. is_loss p ticket (bare_items items s.pre t.bare i) (t.is i)) ∙ h

  stale_item : (ticket : ℕ) (o : OutCall) (a : Answer) (t : AnswerItem items s.pre x.calls p s.step o.call a) → list_any (is_call_for p ticket t.item.number) items ≡ true → is_older (given p (before_sent p t.item.number items)) (Some a) ≡ true → is_stale_for p ticket (items ++ s.pre) s.step ≡ true
  stale_item ticket o a t h n =
      (λ i. is_stale_for p ticket (bare_items items s.pre t.item.bare i) (t.item.is i)) ∙ (λ i. h i && is_older (given p (before_sent p t.item.number items)) (t.executed i)) ∙ n

  staling : (o : OutCall) (y : Asked) (kind : CallKind) (a : Answer) (reply : Reply) → EndsNow x.core x.clock o y → e ≡ event.Answer o.call a → heard (clock_work x.clock x.core).settings.namespace a ≡ Some (Done reply) → o.job ≡ job.Ask kind → is_stale_reply kind o reply ≡ true
      → is_stale_for p y.ticket (items ++ s.pre) s.step ≡ true
  staling o y kind a reply n f h j b =
      let t = s.answered o.call a f in
      let out : out_at o.call x.core.out ≡ Some o = sym (ap (out_at o.call) (clock_leaves x.clock x.core).out) ∙ n.out in
      let g = each_out (IsGiven items p x.calls) o.call x.core.out o out knows.out in
      let same : g.number ≡ t.item.number = same_number' g.number t.item.number (sym g.numbered ∙ t.item.numbered) in
      let older = g.seen reply.header.revision (and_second (is_ordered kind) (is_stale o.seen reply.header.revision) b) in
      stale_item y.ticket o a t (ask_of items w p x ok k there knows o y t.item.number t.item.numbered n kind j)
      (older_is (clock_work x.clock x.core).settings.namespace a reply (given p (before_sent p t.item.number items)) h (subst (λ (m : ℕ). list_any (λ r. nat_lt reply.header.revision r) (given p (before_sent p m items)) ≡ true) same older))

  named : WorldOk w.namespace items w → place_at w p ≡ Some x → (clock_work x.clock x.core).settings.namespace ≡ w.namespace
  named ok there = ap (λ (s : Settings). s.namespace) (clock_leaves x.clock x.core).settings ∙ (ok.places p x there).namespace_is

  -- it is answered so that it counts as a loss
  lost_answer : (o : OutCall) (y : Asked) (a : Answer) → EndsNow x.core x.clock o y → e ≡ event.Answer o.call a → ReadOf o y
      → ((kind : CallKind) → o.job ≡ job.Ask kind → (word : ℕ) → is_no_reply (fits_read w.leasing y.request (passed_on w.namespace word y.request)) (heard w.namespace a) ≡ true)
      → ((key : List ℕ) → o.job ≡ job.Acquire key → (session : ℕ) → is_no_reply (fits_read w.leasing y.request (request_under w.namespace (request.Txn (acquire_of w.leasing (key_of y.request) session)))) (heard w.namespace a) ≡ true)
      → is_loss p y.ticket (items ++ s.pre) s.step ≡ true
  lost_answer o y a n f r own acquire =
      let t = s.answered o.call a f in
      let passes : Request → Bool = λ sent. is_lost_answer (world_of items) (asked_as p y.ticket (life p items)) sent (executed_to t.item.number items) in
      let asked = asked_of items w p x ok k there knows o y t.item.number t.item.numbered n in
      let names : world_of items ≡ (w.namespace, w.leasing) = ap world_of k.sent.begins.is in
      (λ i. is_loss p y.ticket (bare_items items s.pre t.item.bare i) (t.item.is i))
      ∙ read_with items w p x ok k there knows o y t.item.number t.item.numbered n passes r
      (λ kind j word. (λ i. is_lost_answer (names i) (asked i) (passed_on w.namespace word y.request) (t.executed i)) ∙ own kind j word)
      (λ key j session. (λ i. is_lost_answer (names i) (asked i) (request_under w.namespace (request.Txn (acquire_of w.leasing (key_of y.request) session))) (t.executed i)) ∙ acquire key j session)

  losing : (o : OutCall) (y : Asked) → EndsNow x.core x.clock o y → IsLost (clock_work x.clock x.core) e x.clock o → ReadOf o y → is_loss p y.ticket (items ++ s.pre) s.step ≡ true
  losing o y n (lost f) r = let t = s.lost o.call f in lost_item y.ticket o t (read_of items w p x ok k there knows o y t.number t.numbered n r)
  losing o y n (unheard a f h) r = lost_answer o y a n f r (λ kind j word. ap (is_no_reply (fits_read w.leasing y.request _)) (sym named_so ∙ h)) (λ key j session. ap (is_no_reply (fits_read w.leasing y.request _)) (sym named_so ∙ h))
    where
      named_so : heard (clock_work x.clock x.core).settings.namespace a ≡ heard w.namespace a
      named_so = ap (λ (ns : List ℕ). heard ns a) (named ok there)
  losing o y n (unread a (Refused q) f h u) r = absurd (refused_read x.clock o q _ u)
  losing o y n (unread a (Done reply) f h u) r =
      lost_answer o y a n f r
      (λ kind j word.
      ap (is_no_reply (fits_read w.leasing y.request (passed_on w.namespace word y.request))) (sym named_so ∙ h)
      ∙ ap (λ (b : Bool). not (cond b (is_some (claimed w.leasing (key_of y.request) reply)) (is_body_of (kind_of y.request) reply.body))) (own_no_acquire w.namespace word y.request)
      ∙ ap (λ (k : CallKind). not (is_body_of k reply.body)) (kinds.own o y n kind j)
      ∙ ap not (unread_body kind o reply _ (sym (ap (λ (i : OutJob). answered_job x.clock o i (Done reply) (answer_taken a (call_gone o.call (clock_work x.clock x.core)))) j) ∙ u)))
      (λ key j session.
      let q = kinds.plain o y n key j in
      ap (is_no_reply (fits_read w.leasing y.request (request_under w.namespace (request.Txn (acquire_of w.leasing (key_of y.request) session))))) (sym named_so ∙ h)
      ∙ ap (λ (b : Bool). not (cond b (is_some (claimed w.leasing (key_of y.request) reply)) (is_body_of (kind_of y.request) reply.body))) (acquire_is w.namespace (acquire_of w.leasing (key_of y.request) session) y.request q.0)
      ∙ ap (λ (z : Option Claim). not (is_some z))
      ((λ i. claimed (prefixed i) (q.1 i) reply)
      ∙ unread_claim x.clock key a reply (call_gone o.call (clock_work x.clock x.core)) (sym (ap (λ (i : OutJob). answered_job x.clock o i (Done reply) (answer_taken a (call_gone o.call (clock_work x.clock x.core)))) j) ∙ u)))
    where
      named_so : heard (clock_work x.clock x.core).settings.namespace a ≡ heard w.namespace a
      named_so = ap (λ (ns : List ℕ). heard ns a) (named ok there)

      prefixed : w.leasing ≡ (clock_work x.clock x.core).own.waits.prefix
      prefixed = sym (clock_prefix x.clock x.core ∙ (k.sent.places p x there).prefixed)

  pub counted_of : Counted items own x.calls p x.clock x.core e s
  counted_of = record {
    loss = losing;
    reply = staling;
  }
