-- What a turn of a proxy leaves of what is known of its writes: of those that stand, and of those that are replied.
use Rattle.std.proofs.Common.{◌≡◌, ◌≢◌, ℕ, zero, suc, ◌==◌, ◌||◌, Bool, true, false, not, cond, List, [], ◌∷◌, ◌++◌, length, Option, None, Some, Result, Ok, Err, refl, sym, ◌∙◌, ap, subst}
use Rattle.etcd_types.proofs.Bools.{and_first, false_not, not_true}
use Rattle.etcd_types.specs.declared.answer.Answer.{Answer}
use Rattle.etcd_types.specs.declared.answer.Answer.TheVariants.{Done, Refused}
use Rattle.etcd_types.specs.declared.answer.Reply.{Reply}
use Rattle.etcd_types.specs.declared.request.Request.{Request}
use Rattle.etcd_types.specs.declared.request.Request.TheVariants as request
use Rattle.etcd_types.specs.Keys.{is_empty}
use Rattle.proxy_model.specs.Keyed.{is_in_order}
use Rattle.read_model.specs.declared.asked.Asked.{Asked}
use Rattle.core_model.specs.declared.event.CoreEvent.{CoreEvent}
use Rattle.core_model.specs.declared.event.CoreEvent.TheVariants as event
use Rattle.core_model.specs.declared.event.Job.TheVariants as job
use Rattle.core_model.specs.declared.event.Outcome.{Outcome}
use Rattle.core_model.specs.declared.event.Outcome.TheVariants as outcome
use Rattle.core_model.specs.declared.event.StepFault.{StepFault}
use Rattle.core_model.specs.declared.settings.Settings.{Settings}
use Rattle.core_model.specs.Asking.{is_plain_request, is_leased_read}
use Rattle.core_model.specs.ClockWork.{clock_work}
use Rattle.core_model.specs.Fits.{CoreOk}
use Rattle.core_model.specs.Heard.{heard, is_known}
use Rattle.core_model.specs.Kinds.{writes_keys}
use Rattle.core_model.specs.Lookups.{leases}
use Rattle.core_model.specs.Sending.{next_call}
use Rattle.core_model.specs.State.{Core}
use Rattle.core_model.specs.Step.{is_worn, stepped}
use Rattle.core_model.specs.Takes.{ready}
use Rattle.core_laws.proofs.Steps.Lists.{number_turned}
use Rattle.core_laws.proofs.Steps.Stepping.{steps_keep}
use Rattle.core_fits.specs.Fits.{CoreFits}
use Rattle.core_fits.proofs.Prefix.{clock_prefix}
use Rattle.owner_fits.specs.Laws.{OwnersFit}
use Rattle.owner_fits.proofs.Runs.{steps_fit}
use Rattle.script_text.specs.declared.item.Item.{Item}
use Rattle.script_text.specs.declared.item.Item.TheVariants as item
use Rattle.world_model.specs.declared.sent_call.SentCall.{SentCall}
use Rattle.world_model.specs.Asks.{told_at_once}
use Rattle.world_model.specs.Gains.{Replies, with_reply, fetched_as, fetched_if, fetched, all_fetched}
use Rattle.world_model.specs.Lives.{life, asked_as, is_named}
use Rattle.world_model.specs.Places.{nth, place_at, with_core}
use Rattle.world_model.specs.Sends as sends
use Rattle.world_model.specs.State.{Place, World, word}
use Rattle.world_laws.proofs.Effects.{Turn, ticks, asks_it, posts_it, calls, opens, closes, answers, loses, delivers, cuts, takes, waits, leaves}
use Rattle.held_laws.proofs.Items.{asked_still}
use Rattle.keep_laws.proofs.Rows.{All, all_kept, Goes as AskGoes, stays, hushes}
use Rattle.keep_laws.proofs.Steps.{stepped_all}
use Rattle.renewed_laws.proofs.Gains.{is_other, stepped_to}
use Rattle.renewed_laws.proofs.Lives.{Lives}
use Rattle.renewed_laws.proofs.Replies.{Each, each_put, has_given}
use Rattle.renewed_laws.proofs.Rows.{Row}
use Rattle.renewed_laws.proofs.Stories.{Life, later, Executed, IsExecuted}
use Rattle.renewed_laws.proofs.Turns as turns
use Rattle.renewed_laws.proofs.Worlds.{answer_by, answers_of, life_of, WorldOk, Turned}
use Rattle.reply_laws.specs.Sources.{Given, taken, held, snapshot}
use Rattle.reply_laws.proofs.Before.{clock_leaves}
use Rattle.reply_laws.proofs.Given.{given_have_sources}
use Rattle.executed_laws.proofs.Keeping.{PlaceSent, turn_rows}
use Rattle.executed_laws.proofs.Naming.{Unnamed, Unnaming, taken_unnaming}
use Rattle.executed_laws.proofs.Sends.{AllSent, stepped_so, clock_sent, sent_more}
use Rattle.once_laws.proofs.Answers.{ends_now, kinds_at, Holds, Known, taken_holds}
use Rattle.once_laws.proofs.FreeCore.{CoreFree, clock_free}
use Rattle.once_laws.proofs.FreeSends.{Goes, SendsFree, all_go}
use Rattle.once_laws.proofs.FreeSteps.{Brings, stepped_free, worked_free}
use Rattle.once_laws.proofs.Holds.{NotDid, Asks, NoneOf, DidOf, MostOf, OnlyOf, goes_on}
use Rattle.once_laws.proofs.OfKinds.{KindsOk, clock_kinds, step_kinds}
use Rattle.once_laws.proofs.Named.{none_named}
use Rattle.once_laws.proofs.Sending.{Off, On, IsItself, IsBehind, FreeIn, sends_so, call_free}

-- of a proxy's place before a turn
pub record Before (namespace prefix : List ℕ) (items : List Item) (w : World) (p : ℕ) (x : Place) : Type 0 where
  pub world : WorldOk namespace items w
  pub at : place_at w p ≡ Some x
  pub sent : PlaceSent namespace prefix w.calls items p x
  pub fits : CoreFits x.core
  pub owners : OwnersFit x.core
  pub free : FreeIn namespace prefix p items (life p items) (nth x.calls) x.core
  pub kinds : KindsOk x.core
  pub executed : (call : ℕ) → IsExecuted call (answers_of w.calls call) items

-- and behind its step
pub record Behind (namespace prefix : List ℕ) (items own : List Item) (p : ℕ) (x y : Place) (e : CoreEvent) (told : Replies) : Type 0 where
  pub free : FreeIn namespace prefix p items (life p items ++ own) (nth y.calls) (stepped x.core e x.clock).core
  pub most : (t : ℕ) → MostOf namespace prefix p items (life p items) t → MostOf namespace prefix p items (life p items ++ own) t
  pub tells : Each (λ r. Holds namespace prefix p items (life p items ++ own) r.0 r.1) told

module _ (namespace prefix : List ℕ) (items own : List Item) (w v : World) (p : ℕ) (x y : Place) (e : CoreEvent) (told : Replies) (b : Before namespace prefix items w p x) (t : Turned namespace items own w v p x y e told) where
  place : Rattle.renewed_laws.proofs.Worlds.PlaceOk namespace w.calls items p x
  place = b.world.places p x b.at

  order : is_in_order (clock_work x.clock x.core).acquires ≡ true
  order = (clock_sent _ _ _ x.clock x.core b.sent.sent).acquires.order

  names : (clock_work x.clock x.core).settings.namespace ≡ namespace
  names = ap (λ (s : Settings). s.namespace) (clock_leaves x.clock x.core).settings ∙ place.namespace_is

  keyed : (clock_work x.clock x.core).own.waits.prefix ≡ prefix
  keyed = clock_prefix x.clock x.core ∙ b.sent.prefixed

  abbrev GoesAt : ℕ → Type 0
  GoesAt i =
      Goes (NoneOf namespace prefix p items (life p items)) (DidOf namespace prefix p items (life p items)) (MostOf namespace prefix p items (life p items)) (OnlyOf namespace prefix p items (life p items) (nth x.calls) (IsItself prefix))
      (OnlyOf namespace prefix p items (life p items) (nth x.calls) (IsBehind namespace prefix))
      (NoneOf namespace prefix p items (life p items ++ own)) (DidOf namespace prefix p items (life p items ++ own)) (MostOf namespace prefix p items (life p items ++ own)) (OnlyOf namespace prefix p items (life p items ++ own) (nth y.calls) (IsItself prefix))
      (OnlyOf namespace prefix p items (life p items ++ own) (nth y.calls) (IsBehind namespace prefix)) (Off prefix) (On prefix) i

  abbrev BringsNow : CoreEvent → Core → Type 0
  BringsNow e c =
      Brings (NoneOf namespace prefix p items (life p items ++ own)) (DidOf namespace prefix p items (life p items ++ own)) (OnlyOf namespace prefix p items (life p items ++ own) (nth y.calls) (IsItself prefix))
      (OnlyOf namespace prefix p items (life p items ++ own) (nth y.calls) (IsBehind namespace prefix)) (Off prefix) (On prefix) e c

  -- no call goes out
  goes : Unnaming p own → (i : ℕ) → GoesAt i
  goes silent i = goes_on namespace prefix p items items (life p items) own (nth x.calls) (nth y.calls) (λ call a k. k) t.grows i (silent i) (IsItself prefix) (IsBehind namespace prefix) (Off prefix) (On prefix) b.sent.unnamed

  now_free : Unnaming p own → FreeIn namespace prefix p items (life p items ++ own) (nth y.calls) x.core
  now_free silent =
      all_go (NoneOf namespace prefix p items (life p items)) (DidOf namespace prefix p items (life p items)) (MostOf namespace prefix p items (life p items)) (OnlyOf namespace prefix p items (life p items) (nth x.calls) (IsItself prefix))
      (OnlyOf namespace prefix p items (life p items) (nth x.calls) (IsBehind namespace prefix))
      (NoneOf namespace prefix p items (life p items ++ own)) (DidOf namespace prefix p items (life p items ++ own)) (MostOf namespace prefix p items (life p items ++ own)) (OnlyOf namespace prefix p items (life p items ++ own) (nth y.calls) (IsItself prefix))
      (OnlyOf namespace prefix p items (life p items ++ own) (nth y.calls) (IsBehind namespace prefix)) (Off prefix) (On prefix) (goes silent) x.core b.free

  pub quiet : Unnaming p own → BringsNow e (clock_work x.clock x.core) → Each (λ r. Holds namespace prefix p items (life p items ++ own) r.0 r.1) told → Behind namespace prefix items own p x y e told
  quiet silent brings tells = record {
    free = stepped_free (NoneOf namespace prefix p items (life p items ++ own)) (DidOf namespace prefix p items (life p items ++ own)) (OnlyOf namespace prefix p items (life p items ++ own) (nth y.calls) (IsItself prefix))
        (OnlyOf namespace prefix p items (life p items ++ own) (nth y.calls) (IsBehind namespace prefix)) (Off prefix) (On prefix) x.core e x.clock brings (now_free silent);
    most = λ i. (goes silent i).most;
    tells = tells;
  }

  kinds_now : KindsOk (clock_work x.clock x.core)
  kinds_now = clock_kinds x.clock x.core b.kinds

  -- a work that sends no call
  pub unsent : e ≡ event.Work → Unnaming p own → (o : Outcome) → is_worn x.core ≡ false → (stepped x.core event.Work x.clock).outcome ≡ Ok o
      → ((i m j : ℕ) (r : Request) → ◌≡◌ {A = Result Outcome StepFault} (Ok o) (Ok (outcome.Job (Some (job.Call i m j r)))) → ⊥) → told ≡ [] → Behind namespace prefix items own p x y e told
  unsent w' silent o working is n none = subst (λ (f : CoreEvent). Behind namespace prefix items own p x y f told) (sym w') (record {
    free = both.0;
    most = both.1;
    tells = subst (Each (λ r. Holds namespace prefix p items (life p items ++ own) r.0 r.1)) (sym none) tt;
  })
    where
      not_sent : (i m j : ℕ) (r : Request) → (stepped x.core event.Work x.clock).outcome ≡ Ok (outcome.Job (Some (job.Call i m j r))) → ⊥
      not_sent i m j r f = n i m j r (sym is ∙ f)

      both : FreeIn namespace prefix p items (life p items ++ own) (nth y.calls) (stepped x.core event.Work x.clock).core × ((i : ℕ) → MostOf namespace prefix p items (life p items) i → MostOf namespace prefix p items (life p items ++ own) i)
      both =
          worked_free (NoneOf namespace prefix p items (life p items)) (DidOf namespace prefix p items (life p items)) (MostOf namespace prefix p items (life p items)) (OnlyOf namespace prefix p items (life p items) (nth x.calls) (IsItself prefix))
          (OnlyOf namespace prefix p items (life p items) (nth x.calls) (IsBehind namespace prefix))
          (NoneOf namespace prefix p items (life p items ++ own)) (DidOf namespace prefix p items (life p items ++ own)) (MostOf namespace prefix p items (life p items ++ own)) (OnlyOf namespace prefix p items (life p items ++ own) (nth y.calls) (IsItself prefix))
          (OnlyOf namespace prefix p items (life p items ++ own) (nth y.calls) (IsBehind namespace prefix)) (Off prefix) (On prefix) x.core x.clock place.core working order
          (record {
            unsent = λ f. goes silent;
            other = λ i m j r f. absurd (not_sent i m j r f);
            zero = goes silent 0;
            acquire = λ k a f d g. absurd (not_sent _ _ _ _ g);
            group = λ lease j a f d g. absurd (not_sent _ _ _ _ g);
            revoke = λ i u k c f g. absurd (not_sent _ _ _ _ g);
            ask = λ a f u off g none. absurd (not_sent _ _ _ _ g);
            read = λ a f u g. absurd (not_sent _ _ _ _ g);
            write = λ i u f g none. absurd (not_sent _ _ _ _ g);
          }) b.free

  -- ---- a request is asked

  -- it is no write that is answered at once
  plain_none : (q : Request) → is_plain_request q ≡ true → writes_keys q ≡ true → ⊥
  plain_none (request.Range ask) f u = absurd (cc)
  plain_none (request.Put ask) f u = absurd (cc)
  plain_none (request.Delete ask) f u = absurd (cc)
  plain_none (request.Txn s) f u = absurd (cc)
  plain_none (request.Compact revision physical) f u = absurd (cc)
  plain_none (request.Grant ttl lease) f u = absurd (cc)
  plain_none (request.Revoke lease) f u = absurd (cc)
  plain_none (request.KeepAlive lease) f u = absurd (cc)
  plain_none (request.TimeToLive lease keys) f u = absurd (cc)
  plain_none request.Leases f u = absurd (cc)
  plain_none (request.Watch ask) f u = absurd (cc)

  same_asked : (i j : ℕ) (r s : Request) (m n : ℕ) → event.Ask i r m ≡ event.Ask j s n → r ≡ s
  same_asked i j r s m n f = cc

  not_taken : (i j : ℕ) (r : Request) (m : ℕ) → event.Ask i r m ≡ event.Take j → ⊥
  not_taken i j r m f = absurd (cc)

  given_none : (ticket : ℕ) (q : Request) (word : ℕ) (reply : Reply) → e ≡ event.Ask ticket q word → (stepped x.core e x.clock).outcome ≡ Ok (outcome.Replied (Done reply)) → writes_keys q ≡ true → ⊥
  given_none ticket q word reply f is u = by (given_have_sources x.core e x.clock reply place.core is)
    where
      by : Given x.core e x.clock reply → ⊥
      by (taken a g k l) = not_taken ticket a.ticket q word (sym f ∙ g)
      by (held i r s g k) = let same : r ≡ q = same_asked i ticket r q s.word word (sym s.event ∙ f) in plain_none q (ap is_plain_request (sym same) ∙ and_first (is_plain_request r) _ g) u
      by (snapshot i r body s g k l m) = let same : r ≡ q = same_asked i ticket r q s.word word (sym s.event ∙ f) in absurd (let h : true ≡ false = sym u ∙ ap writes_keys (sym same) ∙ g in cc)

  pub asked_turn : (ticket : ℕ) (q : Request) (o : Outcome) → e ≡ event.Ask ticket q (word w) → told ≡ told_at_once ticket o → (stepped x.core e x.clock).outcome ≡ Ok o → asked_as p ticket (life p items) ≡ None → asked_as p ticket (life p items ++ own) ≡ Some q → Unnaming p own
      → Behind namespace prefix items own p x y e told
  asked_turn ticket q o f g is free there silent =
      quiet silent (subst (λ (k : CoreEvent). BringsNow k (clock_work x.clock x.core)) (sym f) (record { none = none; off = λ l. off l; on = λ l. on l })) (subst (Each (λ r. Holds namespace prefix p items (life p items ++ own) r.0 r.1)) (sym g) (by o is))
    where
      none : NoneOf namespace prefix p items (life p items ++ own) ticket
      none r n k u = none_named p ticket (NotDid namespace prefix p items r) (life p items ++ own) (Rattle.executed_laws.proofs.Naming.named-append p ticket (life p items) own ∙ (λ i. b.sent.unnamed ticket n free i || silent ticket i))

      off : leases (clock_work x.clock x.core) ≡ false → Off prefix
      off l = ap is_empty (sym keyed) ∙ unempty (is_empty (clock_work x.clock x.core).own.waits.prefix) l
        where
          unempty : (c : Bool) → not c ≡ false → c ≡ true
          unempty true k = refl
          unempty false k = absurd (cc)

      on : leases (clock_work x.clock x.core) ≡ true → On prefix
      on l = ap is_empty (sym keyed) ∙ not_true (is_empty (clock_work x.clock x.core).own.waits.prefix) l

      did : (reply : Reply) → (stepped x.core e x.clock).outcome ≡ Ok (outcome.Replied (Done reply)) → DidOf namespace prefix p items (life p items ++ own) ticket
      did reply k = record { request = q; asked = there; so = λ n u. absurd (given_none ticket q (word w) reply f k u) }

      by : (o : Outcome) → (stepped x.core e x.clock).outcome ≡ Ok o → Each (λ r. Holds namespace prefix p items (life p items ++ own) r.0 r.1) (told_at_once ticket o)
      by (outcome.Replied (Done reply)) k = (did reply k, tt)
      by (outcome.Replied (Refused r)) k = ((λ c. none), tt)
      by outcome.Waiting k = tt
      by outcome.Pending k = tt
      by outcome.Noted k = tt
      by (outcome.Item i) k = tt
      by (outcome.Job j) k = tt

  -- ---- an answer

  pub answered_turn : (number : ℕ) (call : SentCall) (a : Answer) → e ≡ event.Answer call.own a → own ≡ item.Answered number ∷ [] → told ≡ [] → nth x.calls call.own ≡ Some number → nth w.calls number ≡ Some call → call.executed ≡ Some a → Behind namespace prefix items own p x y e told
  answered_turn number call a f g none placed there is =
      let its : Executed number a items = subst (λ (o : Option Answer). IsExecuted number o items) (ap answer_by there ∙ is) (b.executed number) in
      let heard_is = ap (λ (n : List ℕ). heard n a) (sym names) in
      quiet (λ i. ap (is_named p i) g)
      (subst (λ (k : CoreEvent). BringsNow k (clock_work x.clock x.core)) (sym f)
      (ends_now namespace prefix p items (life p items ++ own) (nth y.calls) call.own number a (t.grows call.own number placed) its (heard (clock_work x.clock x.core).settings.namespace a) heard_is, kinds_at (NoneOf namespace prefix p items (life p items ++ own)) (DidOf namespace prefix p items (life p items ++ own)) (OnlyOf namespace prefix p items (life p items ++ own) (nth y.calls) (IsItself prefix)) (OnlyOf namespace prefix p items (life p items ++ own) (nth y.calls) (IsBehind namespace prefix)) (Off prefix) (On prefix) call.own (clock_work x.clock x.core) kinds_now))
      (subst (Each (λ r. Holds namespace prefix p items (life p items ++ own) r.0 r.1)) (sym none) tt)

  pub lost_turn : (number : ℕ) (call : ℕ) → e ≡ event.Lost call → own ≡ item.Lost number ∷ [] → told ≡ [] → Behind namespace prefix items own p x y e told
  lost_turn number call f g none =
      quiet (λ i. ap (is_named p i) g) (subst (λ (k : CoreEvent). BringsNow k (clock_work x.clock x.core)) (sym f) (kinds_at (NoneOf namespace prefix p items (life p items ++ own)) (DidOf namespace prefix p items (life p items ++ own)) (OnlyOf namespace prefix p items (life p items ++ own) (nth y.calls) (IsItself prefix)) (OnlyOf namespace prefix p items (life p items ++ own) (nth y.calls) (IsBehind namespace prefix)) (Off prefix) (On prefix) call (clock_work x.clock x.core) kinds_now))
      (subst (Each (λ r. Holds namespace prefix p items (life p items ++ own) r.0 r.1)) (sym none) tt)

  -- ---- a call is sent

  pub sent_turn : (n member ticket : ℕ) (q : Request) → e ≡ event.Work → is_worn x.core ≡ false → own ≡ item.Sent p (sends.next_call w) member ticket q ∷ [] → told ≡ [] → nth y.calls n ≡ Some (sends.next_call w)
      → (stepped x.core event.Work x.clock).outcome ≡ Ok (outcome.Job (Some (job.Call n member ticket q))) → Behind namespace prefix items own p x y e told
  sent_turn n member ticket q f working g none placed is =
      let s = sends_so namespace prefix p (life p items) (nth x.calls) (nth y.calls) (life_of namespace w.calls items p x) x.core x.clock (sends.next_call w) n member ticket q place.core b.fits.write working place.namespace_is b.sent.prefixed place.rows refl refl b.sent.unnamed t.grows placed is in
      let k = call_free namespace prefix p items (life p items) (nth x.calls) (nth y.calls) (life_of namespace w.calls items p x) x.core x.clock (sends.next_call w) n member ticket q s order b.free in
      subst (λ (z : CoreEvent). Behind namespace prefix items own p x y z told) (sym f)
      (subst (λ (xs : List Item). Behind namespace prefix items xs p x y event.Work told) (sym g)
      (record { free = k.0; most = k.1; tells = subst (Each (λ r. Holds namespace prefix p items (life p items ++ item.Sent p (sends.next_call w) member ticket q ∷ []) r.0 r.1)) (sym none) tt }))
