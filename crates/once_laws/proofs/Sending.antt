-- What is known of the writes of a proxy's life as it sends a call.
use Rattle.std.specs.List.{list_all}
use Rattle.std.proofs.Common.{◌≡◌, ◌≢◌, ◌⊎◌, inl, inr, ℕ, ◌==◌, ◌&&◌, ◌||◌, Bool, true, false, cond, List, [], ◌∷◌, ◌++◌, Option, None, Some, Result, Ok, Err, refl, sym, ◌∙◌, ap, subst}
use Rattle.etcd_types.proofs.Bools.{and_first, and_second}
use Rattle.etcd_types.specs.declared.request.Request.{Request}
use Rattle.etcd_types.specs.declared.request.Request.TheVariants as request
use Rattle.etcd_types.specs.Keys.{is_empty}
use Rattle.proxy_model.specs.Guarded.{guarded}
use Rattle.proxy_model.specs.Foreign.{ask_revoke}
use Rattle.proxy_model.specs.Keyed.{at, is_in_order}
use Rattle.proxy_model.specs.Wrapped.{request_under}
use Rattle.wait_model.specs.declared.sending.Sending.{Sending}
use Rattle.wait_model.specs.declared.sending.Sending.TheVariants as sending
use Rattle.wait_model.specs.declared.write.Write.{Write}
use Rattle.wait_model.specs.Sent.{compared}
use Rattle.wait_model.specs.Writes as writes
use Rattle.wait_model.specs.Writes.{first_by}
use Rattle.read_model.specs.declared.acquire.Acquire.{Acquire}
use Rattle.read_model.specs.declared.asked.Asked.{Asked}
use Rattle.read_model.specs.declared.asked.Stage.{Stage}
use Rattle.read_model.specs.declared.asked.Stage.TheVariants as stage
use Rattle.read_model.specs.Acquires.{acquires_at, is_acquiring}
use Rattle.read_model.specs.SessionEnd.{is_due}
use Rattle.read_model.specs.TakingOff.{is_writes}
use Rattle.core_model.specs.declared.event.CoreEvent.TheVariants as event
use Rattle.core_model.specs.declared.event.Job.TheVariants as job
use Rattle.core_model.specs.declared.event.Outcome.{Outcome}
use Rattle.core_model.specs.declared.event.Outcome.TheVariants as outcome
use Rattle.core_model.specs.declared.event.StepFault.{StepFault}
use Rattle.core_model.specs.declared.settings.Settings.{Settings}
use Rattle.core_model.specs.ClockWork.{clock_work}
use Rattle.core_model.specs.Fits.{CoreOk, has_number, is_awaited, awaits, writing_tickets, is_keepalive, group_stands, group_sending}
use Rattle.core_model.specs.Groups.{is_due_stage}
use Rattle.core_model.specs.Kinds.{writes_keys}
use Rattle.core_model.specs.Lookups.{ask_at, has_ticket}
use Rattle.core_model.specs.Sending.{next_call}
use Rattle.core_model.specs.State.{Core}
use Rattle.core_model.specs.Step.{is_worn, stepped}
use Rattle.core_laws.proofs.Steps.Lists.{same_number, number_itself, number_turned}
use Rattle.core_laws.proofs.Steps.Middle.{clock_whole}
use Rattle.core_laws.proofs.Steps.WaitEnds.{found_ticket}
use Rattle.core_laws.proofs.Steps.Whole.{Whole, of_ok}
use Rattle.core_fits.specs.Fits.{WritesAreAsked}
use Rattle.core_fits.proofs.Prefix.{clock_prefix}
use Rattle.script_text.specs.declared.item.Item.{Item}
use Rattle.script_text.specs.declared.item.Item.TheVariants as item
use Rattle.world_model.specs.Lives.{names, asked_as, is_named}
use Rattle.held_laws.proofs.Items.{asked_still}
use Rattle.keep_laws.proofs.Rows.{All, all_kept, Writes, all_write}
use Rattle.keep_laws.proofs.Runs.{found}
use Rattle.renewed_laws.proofs.Rows.{Row}
use Rattle.renewed_laws.proofs.Stories.{Life, one_more}
use Rattle.reply_laws.proofs.Before.{Since, clock_since, clock_leaves}
use Rattle.executed_laws.proofs.Naming.{Unnamed}
use Rattle.executed_laws.proofs.Turns.{IsGuarded, Passing, one_passing, ticket_of, one_request, known_since}
use Rattle.once_laws.specs.Once.{IsRevokeCall}
use Rattle.once_laws.proofs.Did.{revoke_did_not}
use Rattle.once_laws.proofs.FreeCore.{AtStage, AskFree, CoreFree, clock_free}
use Rattle.once_laws.proofs.FreeSends.{Goes, SendsFree}
use Rattle.once_laws.proofs.FreeSteps.{worked_free}
use Rattle.once_laws.proofs.Holds.{NotDid, never, Alone, Most, Asks, NoneOf, DidOf, MostOf, OnlyOf, StillExecuted, goes_on, run_on}
use Rattle.once_laws.proofs.Named.{AllNamed, named_more, all-append}

abbrev pub Off : List ℕ → Type 0
Off prefix = is_empty prefix ≡ true

abbrev pub On : List ℕ → Type 0
On prefix = is_empty prefix ≡ false

-- what a write's call is: the request itself, with leasing off; or the write behind its ownership keys, with leasing on
abbrev pub IsItself : List ℕ → Request → Request → Type 0
IsItself prefix q sent = Off prefix

abbrev pub IsBehind : List ℕ → List ℕ → Request → Request → Type 0
IsBehind namespace prefix q sent = On prefix × IsGuarded namespace prefix q sent

abbrev pub FreeIn : (namespace prefix : List ℕ) (p : ℕ) (items told : List Item) (own : ℕ → Option ℕ) → Core → Type 0
FreeIn namespace prefix p items told own c =
    CoreFree (NoneOf namespace prefix p items told) (DidOf namespace prefix p items told) (OnlyOf namespace prefix p items told own (IsItself prefix)) (OnlyOf namespace prefix p items told own (IsBehind namespace prefix)) (Off prefix) (On prefix) c

same_call : (n m t n' m' t' : ℕ) (q q' : Request) → ◌≡◌ {A = Result Outcome StepFault} (Ok (outcome.Job (Some (job.Call n m t q)))) (Ok (outcome.Job (Some (job.Call n' m' t' q')))) → (n ≡ n') × (t ≡ t') × (q ≡ q')
same_call n m t n' m' t' q q' e = (cc, cc, cc)

same_ask : (a b : Request) → Some a ≡ Some b → a ≡ b
same_ask a b e = cc

of_all : (b : Asked → Bool) (xs : List Asked) → list_all b xs ≡ true → All (λ x. b x ≡ true) xs
of_all b [] h = tt
of_all b (x ∷ xs) h = (and_first (b x) (list_all b xs) h, of_all b xs (and_second (b x) (list_all b xs) h))

-- the proxy, in its life so far, and the call that it sends
pub record Sends (namespace prefix : List ℕ) (p : ℕ) (told : List Item) (own own' : ℕ → Option ℕ) (l : Life) (c : Core) (now number n member ticket : ℕ) (q : Request) : Type 0 where
  pub ok : CoreOk c
  pub asked : WritesAreAsked c
  pub working : is_worn c ≡ false
  pub names : c.settings.namespace ≡ namespace
  pub prefixed : c.own.waits.prefix ≡ prefix
  pub rows : All (Row l) c.asks
  pub proxy : l.proxy ≡ p
  pub life : l.told ≡ told
  pub unnamed : Unnamed p told
  pub grows : (i m : ℕ) → own i ≡ Some m → own' i ≡ Some m
  pub placed : own' n ≡ Some number
  pub out : (stepped c event.Work now).outcome ≡ Ok (outcome.Job (Some (job.Call n member ticket q)))

pub sends_so : (namespace prefix : List ℕ) (p : ℕ) (told : List Item) (own own' : ℕ → Option ℕ) (l : Life) (c : Core) (now number n member ticket : ℕ) (q : Request) → CoreOk c → WritesAreAsked c → is_worn c ≡ false → c.settings.namespace ≡ namespace → c.own.waits.prefix ≡ prefix
    → All (Row l) c.asks → l.proxy ≡ p → l.told ≡ told → Unnamed p told → ((i m : ℕ) → own i ≡ Some m → own' i ≡ Some m) → own' n ≡ Some number → (stepped c event.Work now).outcome ≡ Ok (outcome.Job (Some (job.Call n member ticket q)))
    → Sends namespace prefix p told own own' l c now number n member ticket q
sends_so namespace prefix p told own own' l c now number n member ticket q a b d e f g h i j k m o =
    record { ok = a; asked = b; working = d; names = e; prefixed = f; rows = g; proxy = h; life = i; unnamed = j; grows = k; placed = m; out = o }

module _ (namespace prefix : List ℕ) (p : ℕ) (items told : List Item) (own own' : ℕ → Option ℕ) (l : Life) (c : Core) (now number n member ticket : ℕ) (q : Request) (s : Sends namespace prefix p told own own' l c now number n member ticket q) where
  d : Core
  d = clock_work now c

  last : Item
  last = item.Sent p number member ticket q

  told' : List Item
  told' = told ++ item.Sent p number member ticket q ∷ []

  abbrev GoesAt : ℕ → Type 0
  GoesAt t =
      Goes (NoneOf namespace prefix p items told) (DidOf namespace prefix p items told) (MostOf namespace prefix p items told) (OnlyOf namespace prefix p items told own (IsItself prefix)) (OnlyOf namespace prefix p items told own (IsBehind namespace prefix))
      (NoneOf namespace prefix p items (told ++ item.Sent p number member ticket q ∷ [])) (DidOf namespace prefix p items (told ++ item.Sent p number member ticket q ∷ [])) (MostOf namespace prefix p items (told ++ item.Sent p number member ticket q ∷ []))
      (OnlyOf namespace prefix p items (told ++ item.Sent p number member ticket q ∷ []) own' (IsItself prefix)) (OnlyOf namespace prefix p items (told ++ item.Sent p number member ticket q ∷ []) own' (IsBehind namespace prefix)) (Off prefix) (On prefix) t

  still : StillExecuted namespace prefix p items items
  still call a e = e

  -- a ticket that isn't named

  silent : (t : ℕ) → (t == ticket) ≡ false → is_named p t (item.Sent p number member ticket q ∷ []) ≡ false
  silent t e = ap (λ b. (p == p && b) || false) (number_turned t ticket e) ∙ by (p == p)
    where
      by : (b : Bool) → (b && false) || false ≡ false
      by true = refl
      by false = refl

  other_goes : (t : ℕ) → (t == ticket) ≡ false → GoesAt t
  other_goes t e = goes_on namespace prefix p items items told (item.Sent p number member ticket q ∷ []) own own' still s.grows t (silent t e) (IsItself prefix) (IsBehind namespace prefix) (Off prefix) (On prefix) s.unnamed

  -- a ticket of a request that was asked, where the call didn't and can't do it

  module _ (t : ℕ) (r : Request) (there : asked_as p t told ≡ Some r) (newly : t ≢ 0 → writes_keys r ≡ true → NotDid namespace prefix p items r number q) where
    its : (x : Request) → asked_as p t (told ++ item.Sent p number member ticket q ∷ []) ≡ Some x → r ≡ x
    its x e = same_ask r x (sym (asked_still p t told (item.Sent p number member ticket q ∷ []) r there) ∙ e)

    here : (x : Request) → asked_as p t told ≡ Some x → r ≡ x
    here x e = same_ask r x (sym there ∙ e)

    more_named : (P Q : ℕ → Request → Type 0) → ((i : ℕ) (x : Request) → P i x → Q i x) → Q number q → AllNamed p t P told → AllNamed p t Q (told ++ item.Sent p number member ticket q ∷ [])
    more_named P Q f new h = all-append p t Q told (item.Sent p number member ticket q ∷ []) (named_more p t P Q f told h) ((λ e. new), tt)

    alone_goes : (R : Request → Request → Type 0) (i : ℕ) → OnlyOf namespace prefix p items told own R t i → OnlyOf namespace prefix p items (told ++ item.Sent p number member ticket q ∷ []) own' R t i
    alone_goes R i a = record {
      request = a.request;
      asked = asked_still p t told (item.Sent p number member ticket q ∷ []) a.request a.asked;
      so = λ k w.
          let b = a.so k w in
          record {
            call = b.call;
            member = b.member;
            sent = b.sent;
            numbered = s.grows i b.call b.numbered;
            unsent = b.unsent;
            later = b.later ++ item.Sent p number member ticket q ∷ [];
            named = one_more told b.unsent b.later (item.Sent p number member ticket q ∷ []) (item.Sent p b.call b.member t b.sent) b.named;
            is = b.is;
            others = more_named (λ i x. ((i ≡ b.call) × (x ≡ b.sent)) ⊎ NotDid namespace prefix p items a.request i x) (λ i x. ((i ≡ b.call) × (x ≡ b.sent)) ⊎ NotDid namespace prefix p items a.request i x) (λ i x h. h) (inr (subst (λ (x : Request). NotDid namespace prefix p items x number q) (here a.request a.asked) (newly k (ap writes_keys (here a.request a.asked) ∙ w)))) b.others;
          };
    }

    asked_goes : GoesAt t
    asked_goes = record {
      none = λ h x k e w.
          let same = its x e in
          more_named (NotDid namespace prefix p items x) (NotDid namespace prefix p items x) (λ i y g. g) (subst (λ (y : Request). NotDid namespace prefix p items y number q) same (newly k (ap writes_keys same ∙ w))) (h x k (there ∙ ap (λ (y : Request). Some y) same) w);
      did = λ a. record {
        request = a.request;
        asked = asked_still p t told (item.Sent p number member ticket q ∷ []) a.request a.asked;
        so = λ k w. run_on namespace prefix p items items told (item.Sent p number member ticket q ∷ []) t a.request (λ call b xs ys e. record { before = xs; after = ys; story = e }) (a.so k w);
      };
      most = λ h x k e w.
          let same = its x e in
          let m = h x k (there ∙ ap (λ (y : Request). Some y) same) w in
          record { call = m.call; others = more_named (λ i y. (i ≡ m.call) ⊎ NotDid namespace prefix p items x i y) (λ i y. (i ≡ m.call) ⊎ NotDid namespace prefix p items x i y) (λ i y g. g) (inr (subst (λ (y : Request). NotDid namespace prefix p items y number q) same (newly k (ap writes_keys same ∙ w)))) m.others };
      ask = λ i. alone_goes (IsItself prefix) i;
      write = λ i. alone_goes (IsBehind namespace prefix) i;
    }

  -- a ticket of a request that is no write
  barred_goes : (t : ℕ) (r : Request) → asked_as p t told ≡ Some r → (writes_keys r ≡ true → ⊥) → GoesAt t
  barred_goes t r there n = asked_goes t r there (λ k w. absurd (n w))

  zero_goes : GoesAt 0
  zero_goes = record {
    none = λ h x k e w. absurd (k refl);
    did = λ a. record { request = a.request; asked = asked_still p 0 told (item.Sent p number member ticket q ∷ []) a.request a.asked; so = λ k w. absurd (k refl) };
    most = λ h x k e w. absurd (k refl);
    ask = λ i a. record { request = a.request; asked = asked_still p 0 told (item.Sent p number member ticket q ∷ []) a.request a.asked; so = λ k w. absurd (k refl) };
    write = λ i a. record { request = a.request; asked = asked_still p 0 told (item.Sent p number member ticket q ∷ []) a.request a.asked; so = λ k w. absurd (k refl) };
  }

  -- the call is the write's

  its_own : (t : ℕ) (r : Request) (R : Request → Request → Type 0) (m : ℕ) → asked_as p t told ≡ Some r → n ≡ m → ticket ≡ t → (t ≢ 0 → writes_keys r ≡ true → R r q) → NoneOf namespace prefix p items told t
      → OnlyOf namespace prefix p items (told ++ item.Sent p number member ticket q ∷ []) own' R t m × MostOf namespace prefix p items (told ++ item.Sent p number member ticket q ∷ []) t
  its_own t r R m there same named is none = (
    record {
      request = r;
      asked = asked_still p t told (item.Sent p number member ticket q ∷ []) r there;
      so = λ k w. record {
        call = number;
        member = member;
        sent = q;
        numbered = ap own' (sym same) ∙ s.placed;
        unsent = told;
        later = [];
        named = ap (λ (i : ℕ). told ++ item.Sent p number member i q ∷ []) named;
        is = is k w;
        others = all-append p t (λ i x. ((i ≡ number) × (x ≡ q)) ⊎ NotDid namespace prefix p items r i x) told (item.Sent p number member ticket q ∷ []) (named_more p t (NotDid namespace prefix p items r) (λ i x. ((i ≡ number) × (x ≡ q)) ⊎ NotDid namespace prefix p items r i x) (λ i x h. inr h) told (none r k there w)) ((λ e. inl (refl, refl)), tt);
      };
    },
    λ x k e w.
        let one : r ≡ x = same_ask r x (sym (asked_still p t told (item.Sent p number member ticket q ∷ []) r there) ∙ e) in
        record {
          call = number;
          others = all-append p t (λ i y. (i ≡ number) ⊎ NotDid namespace prefix p items x i y) told (item.Sent p number member ticket q ∷ []) (named_more p t (NotDid namespace prefix p items x) (λ i y. (i ≡ number) ⊎ NotDid namespace prefix p items x i y) (λ i y h. inr h) told (none x k (there ∙ ap (λ (y : Request). Some y) one) w)) ((λ e. inl refl), tt);
        },
  )

  -- ---- what is known behind the clock's work

  whole : Whole 0 (clock_work now c)
  whole = clock_whole 0 now c (of_ok c s.ok).mid

  since : All (Since c) (clock_work now c).asks
  since = clock_since c now s.ok.agrees.asks.once

  named : (clock_work now c).settings.namespace ≡ namespace
  named = ap (λ (x : Settings). x.namespace) (clock_leaves now c).settings ∙ s.names

  keyed : (clock_work now c).own.waits.prefix ≡ prefix
  keyed = clock_prefix now c ∙ s.prefixed

  abbrev Known : Asked → Type 0
  Known x = asked_as p x.ticket told ≡ Some x.request

  known_of : (x : Asked) → Since c x → Known x
  known_of x k = (λ i. asked_as (sym s.proxy i) x.ticket (sym s.life i)) ∙ known_since l c x s.rows k

  known : All Known (clock_work now c).asks
  known = all_kept (Since c) Known known_of (clock_work now c).asks since

  module _ (h : FreeIn namespace prefix p items told own (clock_work now c)) where
    abbrev Its : Asked → Type 0
    Its a = AskFree (NoneOf namespace prefix p items told) (DidOf namespace prefix p items told) (OnlyOf namespace prefix p items told own (IsItself prefix)) (OnlyOf namespace prefix p items told own (IsBehind namespace prefix)) (Off prefix) (On prefix) a

    abbrev Whole' : ℕ → Asked → Type 0
    Whole' t a = Its a × (Since c a × Writes t a)

    three : (t : ℕ) (xs : List Asked) → All Its xs → All (Since c) xs → All (Writes t) xs → All (Whole' t) xs
    three t [] a b e = tt
    three t (x ∷ xs) a b e = ((a.0, (b.0, e.0)), three t xs a.1 b.1 e.1)

    -- the request of a write
    writing : (i : ℕ) (w : Write) → first_by (writes.has_ticket i) (clock_work now c).own.waits.writes ≡ Some w → has_number (writing_tickets (clock_work now c).asks) w.ticket ≡ true
    writing i w f = ap (λ (ns : List ℕ). has_number ns w.ticket) (sym whole.mid.agrees.asks.writes) ∙ found_ticket (writes.has_ticket i) w (clock_work now c).own.waits.writes f

    its_ask : (i : ℕ) (w : Write) → first_by (writes.has_ticket i) (clock_work now c).own.waits.writes ≡ Some w → Passing (Whole' w.ticket) (has_ticket w.ticket)
    its_ask i w f = ticket_of (Whole' w.ticket) w.ticket (clock_work now c).asks (three w.ticket (clock_work now c).asks h.0 since (all_write w.ticket (clock_work now c).asks whole.mid.agrees.asks.once (writing i w f))) (writing i w f)

    -- leasing is on where a write waits
    live : (a : Asked) → is_writes a.stage ≡ true → Its a → writes_keys a.request ≡ true → On prefix
    live a e k w = by a.stage e (k w)
      where
        by : (x : Stage) → is_writes x ≡ true → AtStage (NoneOf namespace prefix p items told) (DidOf namespace prefix p items told) (OnlyOf namespace prefix p items told own (IsItself prefix)) (OnlyOf namespace prefix p items told own (IsBehind namespace prefix)) (Off prefix) (On prefix) a.ticket x → On prefix
        by stage.Writes e g = g
        by stage.Acquiring e g = absurd (cc)
        by stage.Joined e g = absurd (cc)
        by stage.Behind e g = absurd (cc)
        by (stage.Calling x) e g = absurd (cc)
        by (stage.Grouped x) e g = absurd (cc)
        by (stage.Replied v) e g = absurd (cc)

    record Asker (w : Write) : Type 0 where
      ask : Asked
      under : ask.ticket ≡ w.ticket
      there : asked_as p w.ticket told ≡ Some ask.request
      same : w.request ≡ ask.request
      on : writes_keys ask.request ≡ true → On prefix

    asker : (i : ℕ) (w : Write) → first_by (writes.has_ticket i) (clock_work now c).own.waits.writes ≡ Some w → Asker w
    asker i w f =
        let one = its_ask i w f in
        let at = same_number one.ask.ticket w.ticket one.passes in
        let before = found (λ x. Unit {0}) one.ask.ticket c.asks one.so.1.0.before one.so.1.0.there (every c.asks) in
        record {
          ask = one.ask;
          under = at;
          there = ap (λ (j : ℕ). asked_as p j told) (sym at) ∙ known_of one.ask one.so.1.0;
          same = one_request c now one.so.1.0.before one.ask.ticket (writes.has_ticket i) w s.asked one.so.1.0.there f (sym at ∙ sym (same_number one.so.1.0.before.ticket one.ask.ticket before.1)) ∙ one.so.1.0.request;
          on = live one.ask (one.so.1.1 one.passes) one.so.0;
        }
      where
        every : (xs : List Asked) → All (λ x. Unit {0}) xs
        every [] = tt
        every (x ∷ xs) = (tt, every xs)

    acquiring_none : (a : Asked) → is_acquiring a.stage ≡ true → Its a → writes_keys a.request ≡ true → ⊥
    acquiring_none a e k w = by a.stage e (k w)
      where
        by : (x : Stage) → is_acquiring x ≡ true → AtStage (NoneOf namespace prefix p items told) (DidOf namespace prefix p items told) (OnlyOf namespace prefix p items told own (IsItself prefix)) (OnlyOf namespace prefix p items told own (IsBehind namespace prefix)) (Off prefix) (On prefix) a.ticket x → ⊥
        by stage.Acquiring e g = g
        by stage.Joined e g = absurd (cc)
        by stage.Behind e g = absurd (cc)
        by (stage.Calling x) e g = absurd (cc)
        by stage.Writes e g = absurd (cc)
        by (stage.Grouped x) e g = absurd (cc)
        by (stage.Replied v) e g = absurd (cc)

    abbrev Acquirer : Asked → Type 0
    Acquirer a = Its a × Known a

    both : (xs : List Asked) → All Its xs → All Known xs → All Acquirer xs
    both [] a b = tt
    both (x ∷ xs) a b = ((a.0, b.0), both xs a.1 b.1)

    acquire_goes : (k : List ℕ) (x : Acquire) → at (clock_work now c).acquires k ≡ Some x → is_due x.sending ≡ true → GoesAt x.ticket
    acquire_goes k x f due = by x.sending due (subst (λ (o : Option Acquire). is_awaited (clock_work now c).asks k o ≡ true) f (whole.mid.agrees.awaited k))
      where
        by : (y : Sending) → is_due y ≡ true → awaits x.ticket k (clock_work now c).asks y ≡ true → GoesAt x.ticket
        by (sending.Due t) u g =
            let one = one_passing Acquirer (λ a. has_ticket x.ticket a && acquires_at k a) (clock_work now c).asks (both (clock_work now c).asks h.0 known) g in
            let at = same_number one.ask.ticket x.ticket (and_first (has_ticket x.ticket one.ask) (acquires_at k one.ask) one.passes) in
            let acquiring = and_first (is_acquiring one.ask.stage) _ (and_second (has_ticket x.ticket one.ask) (acquires_at k one.ask) one.passes) in
            barred_goes x.ticket one.ask.request (ap (λ (j : ℕ). asked_as p j told) (sym at) ∙ one.so.1) (acquiring_none one.ask acquiring one.so.0)
        by (sending.Out call) u g = absurd (cc)

    keepalive_none : (y : Request) → is_keepalive y ≡ true → writes_keys y ≡ true → ⊥
    keepalive_none (request.KeepAlive lease) e w = absurd (cc)
    keepalive_none (request.Range ask) e w = absurd (cc)
    keepalive_none (request.Put ask) e w = absurd (cc)
    keepalive_none (request.Delete ask) e w = absurd (cc)
    keepalive_none (request.Txn t) e w = absurd (cc)
    keepalive_none (request.Compact revision physical) e w = absurd (cc)
    keepalive_none (request.Grant ttl lease) e w = absurd (cc)
    keepalive_none (request.Revoke lease) e w = absurd (cc)
    keepalive_none (request.TimeToLive lease keys) e w = absurd (cc)
    keepalive_none request.Leases e w = absurd (cc)
    keepalive_none (request.Watch ask) e w = absurd (cc)

    group_goes : (t : ℕ) (a : Asked) → ask_at t (clock_work now c).asks ≡ Some a → is_due_stage a.stage ≡ true → GoesAt t
    group_goes t a f due =
        let k = found Known t (clock_work now c).asks a f known in
        let at = same_number a.ticket t k.1 in
        let stands = (found (λ y. group_stands (clock_work now c).out y.request y.stage ≡ true) t (clock_work now c).asks a f (of_all (λ y. group_stands (clock_work now c).out y.request y.stage) (clock_work now c).asks whole.mid.agrees.groups.stand)).0 in
        barred_goes t a.request (ap (λ (j : ℕ). asked_as p j told) (sym at) ∙ k.0) (keepalive_none a.request (by a.stage due stands))
      where
        by : (y : Stage) → is_due_stage y ≡ true → group_stands (clock_work now c).out a.request y ≡ true → is_keepalive a.request ≡ true
        by (stage.Grouped g) e x = and_first (is_keepalive a.request) _ x
        by stage.Acquiring e x = absurd (cc)
        by stage.Joined e x = absurd (cc)
        by stage.Behind e x = absurd (cc)
        by (stage.Calling g) e x = absurd (cc)
        by stage.Writes e x = absurd (cc)
        by (stage.Replied v) e x = absurd (cc)

    revoke_goes : (i : ℕ) (w : Write) (k : List ℕ) (create : ℕ) → first_by (writes.has_ticket i) (clock_work now c).own.waits.writes ≡ Some w → q ≡ request_under (clock_work now c).settings.namespace (request.Txn (ask_revoke (clock_work now c).own.waits.prefix k create)) → GoesAt w.ticket
    revoke_goes i w k create f is =
        let a = asker i w f in
        let revoke : IsRevokeCall namespace prefix q = (k, create, is ∙ (λ j. request_under (named j) (request.Txn (ask_revoke (keyed j) k create)))) in
        asked_goes w.ticket a.ask.request a.there (λ n y. never (λ b. revoke_did_not namespace prefix a.ask.request q b (a.on y) revoke))

    -- by what is sent
    pub sends_free :
        SendsFree (NoneOf namespace prefix p items told) (DidOf namespace prefix p items told) (MostOf namespace prefix p items told) (OnlyOf namespace prefix p items told own (IsItself prefix)) (OnlyOf namespace prefix p items told own (IsBehind namespace prefix))
        (NoneOf namespace prefix p items (told ++ item.Sent p number member ticket q ∷ [])) (DidOf namespace prefix p items (told ++ item.Sent p number member ticket q ∷ [])) (MostOf namespace prefix p items (told ++ item.Sent p number member ticket q ∷ []))
        (OnlyOf namespace prefix p items (told ++ item.Sent p number member ticket q ∷ []) own' (IsItself prefix)) (OnlyOf namespace prefix p items (told ++ item.Sent p number member ticket q ∷ []) own' (IsBehind namespace prefix)) (Off prefix) (On prefix)
        (clock_work now c) (stepped c event.Work now).outcome
    sends_free = record {
      unsent = λ f t. absurd (f n member ticket q s.out);
      other = λ i m t' r e t k. other_goes t (ap (λ (j : ℕ). t == j) (same_call n member ticket i m t' q r (sym s.out ∙ e)).1 ∙ k);
      zero = zero_goes;
      acquire = λ k x f due e. acquire_goes k x f due;
      group = λ lease t a f due e. group_goes t a f due;
      revoke = λ i w k create f e. revoke_goes i w k create f (same_call n member ticket _ _ _ q _ (sym s.out ∙ e)).2;
      ask = λ a f w off e none.
          let k = same_call n member ticket _ _ _ q _ (sym s.out ∙ e) in
          its_own a.ticket a.request (IsItself prefix) (next_call (clock_work now c)) (found Known a.ticket (clock_work now c).asks a f known).0 k.0 k.1 (λ x y. off) none;
      read = λ a f w e. barred_goes a.ticket a.request (found Known a.ticket (clock_work now c).asks a f known).0 (λ y. absurd (let g : true ≡ false = sym y ∙ w in cc));
      write = λ i w f e none.
          let k = same_call n member ticket _ _ _ q _ (sym s.out ∙ e) in
          let a = asker i w f in
          its_own w.ticket a.ask.request (IsBehind namespace prefix) (next_call (clock_work now c)) a.there k.0 k.1
          (λ x y. (a.on y, (compared w (clock_work now c).own.entries, k.2 ∙ (λ j. request_under (named j) (request.Txn (guarded (keyed j) (a.same j) (compared w (clock_work now c).own.entries))))))) none;
    }

  pub call_free : is_in_order (clock_work now c).acquires ≡ true → FreeIn namespace prefix p items told own c
      → FreeIn namespace prefix p items (told ++ item.Sent p number member ticket q ∷ []) own' (stepped c event.Work now).core
      × ((t : ℕ) → MostOf namespace prefix p items told t → MostOf namespace prefix p items (told ++ item.Sent p number member ticket q ∷ []) t)
  call_free order h =
      let more = told ++ item.Sent p number member ticket q ∷ [] in
      let N = NoneOf namespace prefix p items told in
      let D = DidOf namespace prefix p items told in
      let A = OnlyOf namespace prefix p items told own (IsItself prefix) in
      let W = OnlyOf namespace prefix p items told own (IsBehind namespace prefix) in
      worked_free N D (MostOf namespace prefix p items told) A W (NoneOf namespace prefix p items more) (DidOf namespace prefix p items more) (MostOf namespace prefix p items more)
      (OnlyOf namespace prefix p items more own' (IsItself prefix)) (OnlyOf namespace prefix p items more own' (IsBehind namespace prefix)) (Off prefix) (On prefix) c now s.ok s.working order
      (sends_free (clock_free N D A W (Off prefix) (On prefix) now c h)) h
