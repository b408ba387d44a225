-- A call that ends is one of the request that stood for it, by the items of its life.
use Rattle.std.proofs.Common.{◌≡◌, ℕ, ◌==◌, Bool, true, false, cond, ◌&&◌, ◌||◌, List, [], ◌∷◌, ◌++◌, append_assoc, append-nil, Some, refl, sym, ◌∙◌, ap, subst}
use Rattle.std.specs.List.{list_any, list_all}
use Rattle.etcd_types.proofs.Bools.{and_first, and_second, or_first, or_second}
use Rattle.etcd_types.proofs.KeyOrder.{same-equal}
use Rattle.etcd_types.specs.declared.request.Request.{Request}
use Rattle.etcd_types.specs.declared.request.Request.TheVariants as request
use Rattle.etcd_types.specs.Keys.{same}
use Rattle.proxy_model.specs.Acquire.{acquire as acquire_of}
use Rattle.proxy_model.specs.Keyed.{at}
use Rattle.proxy_model.specs.PassingOn.{passed_on}
use Rattle.proxy_model.specs.Wrapped.{request_under}
use Rattle.wait_model.specs.declared.sending.Sending.TheVariants as sending
use Rattle.wait_model.specs.Writes.{sends, asks}
use Rattle.core_laws.proofs.Writes.Kept.{first_passes}
use Rattle.read_model.specs.declared.asked.Asked.{Asked}
use Rattle.read_model.specs.declared.asked.Stage.{Stage}
use Rattle.read_model.specs.declared.asked.Stage.TheVariants as stage
use Rattle.read_model.specs.Acquires.{is_acquiring}
use Rattle.read_model.specs.PlainRead.{ask_key, key_of}
use Rattle.read_model.specs.Release.{names as names_it, stands, ask_stands}
use Rattle.read_model.specs.State.{ground_of}
use Rattle.core_model.specs.declared.out_call.CallKind.{CallKind}
use Rattle.core_model.specs.declared.out_call.OutCall.{OutCall}
use Rattle.core_model.specs.declared.out_call.OutJob.{OutJob}
use Rattle.core_model.specs.declared.out_call.OutJob.TheVariants as job
use Rattle.core_model.specs.ClockWork.{clock_work}
use Rattle.core_model.specs.DueJobs.{lease_of}
use Rattle.core_model.specs.Fits.{job_at, group_stands, group_sending, is_keepalive}
use Rattle.core_model.specs.Groups.{is_out_stage}
use Rattle.core_model.specs.Lookups.{stage_calls, out_at, reads_of}
use Rattle.core_laws.proofs.Steps.Lists.{number_itself, same_number}
use Rattle.script_text.specs.declared.item.Item.{Item}
use Rattle.script_text.specs.declared.item.Item.TheVariants as item
use Rattle.world_model.specs.Lives.{begins, life_from, life, asked_as}
use Rattle.world_model.specs.Places.{nth, place_at}
use Rattle.world_model.specs.State.{Place, World}
use Rattle.keep_laws.proofs.Rows.{All}
use Rattle.keep_laws.proofs.Runs.{found, out_is}
use Rattle.reply_laws.proofs.Before.{is_quiet, clock_leaves}
use Rattle.renewed_laws.proofs.Lives.{Lives}
use Rattle.renewed_laws.proofs.Rows.{Row, KnownAt}
use Rattle.renewed_laws.proofs.Stories.{Life, SentLater}
use Rattle.renewed_laws.proofs.Worlds.{life_of, WorldOk}
use Rattle.executed_laws.proofs.CoreSends as sending_of
use Rattle.executed_laws.proofs.OwnSends.{IsSent, IsAsking, sends_last, asks_last}
use Rattle.executed_laws.proofs.Stories.{SentFor}
use Rattle.executed_laws.proofs.Turns.{IsPassedOn, IsAcquire, IsGuarded, first_each}
use Rattle.executed_laws.proofs.Worlds.{AllKept}
use Rattle.cause_laws.specs.Causes.{is_call_for, is_call_with, is_keepalive_call, IsCallOf, names, shares}
use Rattle.cause_laws.proofs.Walks.{OfWrite, sends_it, asks_for, CallOf, is_own, acquires, writes, ReadOf, own_read, acquire}
use Rattle.cause_laws.proofs.Walks as walks
use Rattle.cause_laws.proofs.After.{EndsNow}
use Rattle.cause_laws.proofs.Items.{any_behind}
use Rattle.cause_laws.proofs.Knows.{NamesIt, Knows}

-- ---- one of the items is so

any_here : (f : Item → Bool) (xs ys : List Item) (i : Item) → f i ≡ true → list_any f (xs ++ i ∷ ys) ≡ true
any_here f xs ys i h = any_behind f xs (i ∷ ys) (λ j. h j || list_any f ys)

-- a life is the last of the items
life_behind : (p : ℕ) (so_far xs : List Item) → (front : List Item) × (so_far ++ xs ≡ front ++ life_from p so_far xs)
life_behind p so_far [] = ([], append-nil so_far)
life_behind p so_far (i ∷ xs) = by (begins p i) (life_behind p [] xs) (life_behind p (so_far ++ i ∷ []) xs)
  where
    by : (b : Bool) → ((front : List Item) × (xs ≡ front ++ life_from p [] xs)) → ((front : List Item) × ((so_far ++ i ∷ []) ++ xs ≡ front ++ life_from p (so_far ++ i ∷ []) xs))
        → (front : List Item) × (so_far ++ i ∷ xs ≡ front ++ cond b (life_from p [] xs) (life_from p (so_far ++ i ∷ []) xs))
    by true h k = (so_far ++ i ∷ h.0, ap (λ (ys : List Item). so_far ++ i ∷ ys) h.1 ∙ sym (append_assoc so_far (i ∷ h.0) (life_from p [] xs)))
    by false h k = (k.0, sym (append_assoc so_far (i ∷ []) xs) ∙ k.1)

any_life : (f : Item → Bool) (p : ℕ) (items : List Item) → list_any f (life p items) ≡ true → list_any f items ≡ true
any_life f p items h = let b = life_behind p [] items in ap (list_any f) b.1 ∙ any_behind f b.0 (life p items) h

-- where the proxy isn't started the life goes on
pub lives_on : (p : ℕ) (more : List Item) → list_any (begins p) more ≡ false → Lives p more
lives_on p [] h l = sym (append-nil l)
lives_on p (i ∷ more) h l =
    ap (λ (b : Bool). cond b (life_from p [] more) (life_from p (l ++ i ∷ []) more)) (or_first (begins p i) (list_any (begins p) more) h)
    ∙ lives_on p more (or_second (begins p i) (list_any (begins p) more) h) (l ++ i ∷ []) ∙ append_assoc l (i ∷ []) more

-- ---- what was sent

same_call : (a b : ℕ) → Some a ≡ Some b → a ≡ b
same_call a b e = cc

is_number : (a b : ℕ) → a ≡ b → (a == b) ≡ true
is_number a b e = ap (λ (m : ℕ). m == b) e ∙ number_itself b

sent_names : (R : Request → Request → Type 0) (l : Life) (ticket n number : ℕ) → l.own n ≡ Some number → SentFor R l ticket n → list_any (is_call_for l.proxy ticket number) l.told ≡ true
sent_names R l ticket n number own s =
    let f = is_call_for l.proxy ticket number in
    let is : s.call ≡ number = same_call s.call number (sym s.numbered ∙ own) in
    ap (list_any f) s.story
    ∙ any_behind f s.before (item.Asked l.proxy ticket s.request ∷ (s.unsent ++ item.Sent l.proxy s.call s.member ticket s.sent ∷ s.after))
    (any_here f s.unsent s.after (item.Sent l.proxy s.call s.member ticket s.sent) (λ i. number_itself l.proxy i && (is_number s.call number is i && number_itself ticket i)))

pub sent_with : (R : Request → Request → Type 0) (l : Life) (ticket n number : ℕ) (passes : Request → Bool) → l.own n ≡ Some number → (s : SentFor R l ticket n) → passes s.sent ≡ true → list_any (is_call_with l.proxy ticket number passes) l.told ≡ true
sent_with R l ticket n number passes own s h =
    let f = is_call_with l.proxy ticket number passes in
    let is : s.call ≡ number = same_call s.call number (sym s.numbered ∙ own) in
    ap (list_any f) s.story
    ∙ any_behind f s.before (item.Asked l.proxy ticket s.request ∷ (s.unsent ++ item.Sent l.proxy s.call s.member ticket s.sent ∷ s.after))
    (any_here f s.unsent s.after (item.Sent l.proxy s.call s.member ticket s.sent) (λ i. number_itself l.proxy i && (is_number s.call number is i && (number_itself ticket i && h i))))

sent_shares : (l : Life) (ticket lease n number : ℕ) → l.own n ≡ Some number → SentLater l ticket lease n → list_any (is_keepalive_call l.proxy lease number) l.told ≡ true
sent_shares l ticket lease n number own s =
    let f = is_keepalive_call l.proxy lease number in
    let is : s.call ≡ number = same_call s.call number (sym s.numbered ∙ own) in
    ap (list_any f) s.story
    ∙ any_behind f s.before (item.Asked l.proxy ticket (request.KeepAlive lease) ∷ (s.unsent ++ item.Sent l.proxy s.call s.member s.named (request.KeepAlive lease) ∷ s.after))
    (any_here f s.unsent s.after (item.Sent l.proxy s.call s.member s.named (request.KeepAlive lease)) (λ i. number_itself l.proxy i && (is_number s.call number is i && number_itself lease i)))

-- ---- stages

pub calls_is : (n : ℕ) (s : Stage) → stage_calls n s ≡ true → s ≡ stage.Calling (sending.Out n)
calls_is n (stage.Calling (sending.Out m)) h = ap (λ (i : ℕ). stage.Calling (sending.Out i)) (same_number m n h)
calls_is n (stage.Calling (sending.Due since)) h = absurd (cc)
calls_is n stage.Acquiring h = absurd (cc)
calls_is n stage.Joined h = absurd (cc)
calls_is n stage.Behind h = absurd (cc)
calls_is n stage.Writes h = absurd (cc)
calls_is n (stage.Grouped s) h = absurd (cc)
calls_is n (stage.Replied v) h = absurd (cc)

pub acquiring_is : (s : Stage) → is_acquiring s ≡ true → s ≡ stage.Acquiring
acquiring_is stage.Acquiring h = refl
acquiring_is (stage.Calling s) h = absurd (cc)
acquiring_is stage.Joined h = absurd (cc)
acquiring_is stage.Behind h = absurd (cc)
acquiring_is stage.Writes h = absurd (cc)
acquiring_is (stage.Grouped s) h = absurd (cc)
acquiring_is (stage.Replied v) h = absurd (cc)

pub job_found : (n : ℕ) (out : List OutCall) (o : OutCall) → out_at n out ≡ Some o → job_at n out ≡ Some o.job
job_found n [] o e = absurd (cc)
job_found n (x ∷ out) o e = by (x.call == n) e (job_found n out o)
  where
    same_out : Some x ≡ Some o → x ≡ o
    same_out f = cc

    by : (b : Bool) → cond b (Some x) (out_at n out) ≡ Some o → (out_at n out ≡ Some o → job_at n out ≡ Some o.job) → cond b (Some x.job) (job_at n out) ≡ Some o.job
    by true f more = ap (λ (y : OutCall). Some y.job) (same_out f)
    by false f more = more f

pub of_all : (p : Asked → Bool) (xs : List Asked) → list_all p xs ≡ true → All (λ x. p x ≡ true) xs
of_all p [] h = tt
of_all p (x ∷ xs) h = (and_first (p x) (list_all p xs) h, of_all p xs (and_second (p x) (list_all p xs) h))

pub keepalive_is : (q : Request) → is_keepalive q ≡ true → (lease : ℕ) × (q ≡ request.KeepAlive lease)
keepalive_is (request.KeepAlive lease) h = (lease, refl)
keepalive_is (request.Range ask) h = absurd (cc)
keepalive_is (request.Put ask) h = absurd (cc)
keepalive_is (request.Delete ask) h = absurd (cc)
keepalive_is (request.Txn t) h = absurd (cc)
keepalive_is (request.Compact revision physical) h = absurd (cc)
keepalive_is (request.Grant ttl lease) h = absurd (cc)
keepalive_is (request.Revoke lease) h = absurd (cc)
keepalive_is (request.TimeToLive lease keys) h = absurd (cc)
keepalive_is request.Leases h = absurd (cc)
keepalive_is (request.Watch ask) h = absurd (cc)

-- ---- the call of a request

module _ (items : List Item) (w : World) (p : ℕ) (x : Place) (ok : WorldOk w.namespace items w) (k : AllKept items w) (there : place_at w p ≡ Some x) (knows : Knows items p x.calls x.core) (o : OutCall) (y : Asked) (number : ℕ) (numbered : nth x.calls o.call ≡ Some number) (ends : EndsNow x.core x.clock o y) where
  abbrev l : Life
  l = life_of w.namespace w.calls items p x

  abbrev b : Asked
  b = ends.behind.before

  named : list_any (is_call_for p b.ticket number) (life p items) ≡ true → list_any (is_call_for p y.ticket number) items ≡ true
  named h = subst (λ (t : ℕ). list_any (is_call_for p t number) items ≡ true) (sym ends.behind.alike.ticket) (any_life (is_call_for p b.ticket number) p items h)

  stage_is : (s : Stage) → y.stage ≡ s → is_quiet s ≡ false → b.stage ≡ s
  stage_is s e q = ends.behind.still (ap is_quiet e ∙ q) ∙ e

  row : Row (life_of w.namespace w.calls items p x) b
  row = (found (Row (life_of w.namespace w.calls items p x)) y.ticket x.core.asks b ends.behind.there (ok.places p x there).rows).0

  by_own : stage_calls o.call y.stage ≡ true → list_any (is_call_for p y.ticket number) items ≡ true
  by_own h =
      let is = stage_is (stage.Calling (sending.Out o.call)) (calls_is o.call y.stage h) refl in
      let s = (found _ y.ticket x.core.asks b ends.behind.there (k.sent.places p x there).sent.asks).0 o.call is in
      named (sent_names (IsPassedOn w.namespace) (life_of w.namespace w.calls items p x) b.ticket o.call number numbered s)

  acquire_sent : (key : List ℕ) → o.job ≡ job.Acquire key → is_acquiring y.stage && same (ask_key y) key ≡ true → SentFor (IsAcquire w.namespace w.leasing) (life_of w.namespace w.calls items p x) b.ticket o.call
  acquire_sent key j h =
      let its : ask_key b ≡ key = ap key_of (sym ends.behind.alike.request) ∙ same-equal (ask_key y) key (and_second (is_acquiring y.stage) (same (ask_key y) key) h) in
      let is = stage_is stage.Acquiring (acquiring_is y.stage (and_first (is_acquiring y.stage) (same (ask_key y) key) h)) refl in
      let leaves = clock_leaves x.clock x.core in
      let outs : out_at o.call x.core.out ≡ Some o = sym (ap (out_at o.call) leaves.out) ∙ ends.out in
      let out = (k.owners p x there).acquires.awaits o.call key (job_found o.call x.core.out o outs ∙ ap (λ (z : OutJob). Some z) j) in
      let s = (k.sent.places p x there).sent.acquires.sent key o.call out.acquire out.stands out.out in
      let stood : ask_stands (ground_of (reads_of x.core)) b ≡ true = (found _ y.ticket x.core.asks b ends.behind.there (of_all (ask_stands (ground_of (reads_of x.core))) x.core.asks (ok.places p x there).core.reads.asks)).0 in
      let waits : names_it b.ticket (at x.core.acquires key) ≡ true = sym (λ i. stands b.ticket (at x.core.own.entries (ask_key b)) (at x.core.acquires (its i)) (is i)) ∙ stood in
      let ticket : out.acquire.ticket ≡ b.ticket = same_number out.acquire.ticket b.ticket (sym (ap (names_it b.ticket) out.stands) ∙ waits) in
      subst (λ (t : ℕ). SentFor (IsAcquire w.namespace w.leasing) (life_of w.namespace w.calls items p x) t o.call) ticket s

  by_acquire : (key : List ℕ) → o.job ≡ job.Acquire key → is_acquiring y.stage && same (ask_key y) key ≡ true → list_any (is_call_for p y.ticket number) items ≡ true
  by_acquire key j h = named (sent_names (IsAcquire w.namespace w.leasing) (life_of w.namespace w.calls items p x) b.ticket o.call number numbered (acquire_sent key j h))

  -- with what was sent for the request

  same_asked : (r q : Request) → Some r ≡ Some q → r ≡ q
  same_asked r q e = cc

  pub asked_of : asked_as p y.ticket (life p items) ≡ Some y.request
  asked_of = ap (λ (t : ℕ). asked_as p t (life p items)) ends.behind.alike.ticket ∙ row.asked ∙ ap (λ (q : Request). Some q) (sym ends.behind.alike.request)

  of_request : (R : Request → Request → Type 0) (s : SentFor R (life_of w.namespace w.calls items p x) b.ticket o.call) → s.request ≡ y.request
  of_request R s = same_asked s.request b.request (sym s.asked ∙ row.asked) ∙ sym ends.behind.alike.request

  with_it : (R : Request → Request → Type 0) (passes : Request → Bool) (s : SentFor R (life_of w.namespace w.calls items p x) b.ticket o.call) → passes s.sent ≡ true → list_any (is_call_with p y.ticket number passes) items ≡ true
  with_it R passes s h =
      subst (λ (t : ℕ). list_any (is_call_with p t number passes) items ≡ true) (sym ends.behind.alike.ticket)
      (any_life (is_call_with p b.ticket number passes) p items (sent_with R (life_of w.namespace w.calls items p x) b.ticket o.call number passes numbered s h))

  own_with : (passes : Request → Bool) → ((word : ℕ) → passes (passed_on w.namespace word y.request) ≡ true) → stage_calls o.call y.stage ≡ true → list_any (is_call_with p y.ticket number passes) items ≡ true
  own_with passes f h =
      let is = stage_is (stage.Calling (sending.Out o.call)) (calls_is o.call y.stage h) refl in
      let s = (found _ y.ticket x.core.asks b ends.behind.there (k.sent.places p x there).sent.asks).0 o.call is in
      with_it (IsPassedOn w.namespace) passes s (ap passes (s.is.1 ∙ ap (passed_on w.namespace s.is.0) (of_request (IsPassedOn w.namespace) s)) ∙ f s.is.0)

  acquire_with : (passes : Request → Bool) → ((session : ℕ) → passes (request_under w.namespace (request.Txn (acquire_of w.leasing (key_of y.request) session))) ≡ true) → (key : List ℕ) → o.job ≡ job.Acquire key → is_acquiring y.stage && same (ask_key y) key ≡ true
      → list_any (is_call_with p y.ticket number passes) items ≡ true
  acquire_with passes f key j h =
      let s = acquire_sent key j h in
      with_it (IsAcquire w.namespace w.leasing) passes s
      (ap passes (s.is.1 ∙ ap (λ (q : Request). request_under w.namespace (request.Txn (acquire_of w.leasing (key_of q) s.is.0))) (of_request (IsAcquire w.namespace w.leasing) s)) ∙ f s.is.0)

  by_write : OfWrite o.call (clock_work x.clock x.core).own.waits.writes y.ticket → list_any (is_call_for p y.ticket number) items ≡ true
  by_write (sends_it v first t) =
      let W = SentFor (IsGuarded w.namespace w.leasing) (life_of w.namespace w.calls items p x) in
      let clocked = sending_of.clock_so (IsSent W) (sends_last W) x.clock x.core (k.sent.places p x there).sent.writes in
      let s = first_each (IsSent W) (sends o.call) (clock_work x.clock x.core).own.waits.writes v first clocked o.call (first_passes (sends o.call) (clock_work x.clock x.core).own.waits.writes v first) in
      named (subst (λ (n : ℕ). list_any (is_call_for p n number) (life p items) ≡ true) (t ∙ ends.behind.alike.ticket) (sent_names (IsGuarded w.namespace w.leasing) (life_of w.namespace w.calls items p x) v.ticket o.call number numbered s))
  by_write (asks_for v first t) =
      let V = NamesIt items p x.calls in
      let clocked = sending_of.clock_so (IsAsking V) (asks_last V) x.clock x.core knows.asking in
      let s = first_each (IsAsking V) (asks o.call) (clock_work x.clock x.core).own.waits.writes v first clocked o.call (first_passes (asks o.call) (clock_work x.clock x.core).own.waits.writes v first) in
      let same : number ≡ s.0 = same_call number s.0 (sym numbered ∙ s.1) in
      (λ i. list_any (is_call_for p (sym t i) (same i)) items) ∙ s.2

  by_group : is_out_stage o.call y.stage ≡ true → IsCallOf items p y.ticket number y.request
  by_group h =
      let is = stage_is (stage.Grouped (Some (sending.Out o.call))) (out_is o.call y.stage h) refl in
      let stood : group_stands x.core.out b.request b.stage ≡ true = (found _ y.ticket x.core.asks b ends.behind.there (of_all (λ z. group_stands x.core.out z.request z.stage) x.core.asks (ok.places p x there).core.agrees.groups.stand)).0 in
      let both : is_keepalive b.request && group_sending x.core.out (lease_of b.request) (Some (sending.Out o.call)) ≡ true = sym (ap (group_stands x.core.out b.request) is) ∙ stood in
      let lease = keepalive_is b.request (and_first (is_keepalive b.request) (group_sending x.core.out (lease_of b.request) (Some (sending.Out o.call))) both) in
      let s : SentLater (life_of w.namespace w.calls items p x) b.ticket lease.0 o.call = subst (KnownAt (life_of w.namespace w.calls items p x) b.ticket lease.0) is (row.keeps lease.0 lease.1).at in
      shares lease.0 (ends.behind.alike.request ∙ lease.1) (any_life (is_keepalive_call p lease.0 number) p items (sent_shares (life_of w.namespace w.calls items p x) b.ticket lease.0 o.call number numbered s))

  pub call_of : IsCallOf items p y.ticket number y.request
  call_of = by ends.of
    where
      by : CallOf (clock_work x.clock x.core).own.waits.writes o y → IsCallOf items p y.ticket number y.request
      by (is_own kind j h) = names (by_own h)
      by (acquires key j h) = names (by_acquire key j h)
      by (writes j h v) = names (by_write v)
      by (walks.shares lease j h) = by_group h

  -- a read's call was sent so
  pub read_with : (passes : Request → Bool) → ReadOf o y → ((kind : CallKind) → o.job ≡ job.Ask kind → (word : ℕ) → passes (passed_on w.namespace word y.request) ≡ true)
      → ((key : List ℕ) → o.job ≡ job.Acquire key → (session : ℕ) → passes (request_under w.namespace (request.Txn (acquire_of w.leasing (key_of y.request) session))) ≡ true) → list_any (is_call_with p y.ticket number passes) items ≡ true
  read_with passes r f g = by ends.of r
    where
      by : CallOf (clock_work x.clock x.core).own.waits.writes o y → ReadOf o y → list_any (is_call_with p y.ticket number passes) items ≡ true
      by (is_own kind j h) r = own_with passes (f kind j) h
      by (acquires key j h) r = acquire_with passes (g key j) key j h
      by (writes j h v) (own_read kind i e) = absurd (no_ask kind (sym j ∙ i))
        where
          no_ask : (kind : CallKind) → job.Wait ≡ job.Ask kind → ⊥
          no_ask kind f = absurd (cc)
      by (writes j h v) (acquire key i) = absurd (no_acquire key (sym j ∙ i))
        where
          no_acquire : (key : List ℕ) → job.Wait ≡ job.Acquire key → ⊥
          no_acquire key f = absurd (cc)
      by (walks.shares lease j h) (own_read kind i e) = absurd (no_ask kind (sym j ∙ i))
        where
          no_ask : (kind : CallKind) → job.Group lease ≡ job.Ask kind → ⊥
          no_ask kind f = absurd (cc)
      by (walks.shares lease j h) (acquire key i) = absurd (no_acquire key (sym j ∙ i))
        where
          no_acquire : (key : List ℕ) → job.Group lease ≡ job.Acquire key → ⊥
          no_acquire key f = absurd (cc)

  -- a read's call names it
  pub read_of : ReadOf o y → list_any (is_call_for p y.ticket number) items ≡ true
  read_of r = by ends.of r
    where
      by : CallOf (clock_work x.clock x.core).own.waits.writes o y → ReadOf o y → list_any (is_call_for p y.ticket number) items ≡ true
      by (is_own kind j h) r = by_own h
      by (acquires key j h) r = by_acquire key j h
      by (writes j h v) (own_read kind i e) = absurd (no_ask kind (sym j ∙ i))
        where
          no_ask : (kind : CallKind) → job.Wait ≡ job.Ask kind → ⊥
          no_ask kind f = absurd (cc)
      by (writes j h v) (acquire key i) = absurd (no_acquire key (sym j ∙ i))
        where
          no_acquire : (key : List ℕ) → job.Wait ≡ job.Acquire key → ⊥
          no_acquire key f = absurd (cc)
      by (walks.shares lease j h) (own_read kind i e) = absurd (no_ask kind (sym j ∙ i))
        where
          no_ask : (kind : CallKind) → job.Group lease ≡ job.Ask kind → ⊥
          no_ask kind f = absurd (cc)
      by (walks.shares lease j h) (acquire key i) = absurd (no_acquire key (sym j ∙ i))
        where
          no_acquire : (key : List ℕ) → job.Group lease ≡ job.Acquire key → ⊥
          no_acquire key f = absurd (cc)

  pub ask_of : (kind : CallKind) → o.job ≡ job.Ask kind → list_any (is_call_for p y.ticket number) items ≡ true
  ask_of kind i = by ends.of
    where
      no_acquire : (key : List ℕ) → job.Acquire key ≡ job.Ask kind → ⊥
      no_acquire key f = absurd (cc)

      no_wait : job.Wait ≡ job.Ask kind → ⊥
      no_wait f = absurd (cc)

      no_group : (lease : ℕ) → job.Group lease ≡ job.Ask kind → ⊥
      no_group lease f = absurd (cc)

      by : CallOf (clock_work x.clock x.core).own.waits.writes o y → list_any (is_call_for p y.ticket number) items ≡ true
      by (is_own other j h) = by_own h
      by (acquires key j h) = absurd (no_acquire key (sym j ∙ i))
      by (writes j h v) = absurd (no_wait (sym j ∙ i))
      by (walks.shares lease j h) = absurd (no_group lease (sym j ∙ i))
