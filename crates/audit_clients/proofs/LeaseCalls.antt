-- What is kept of the calls for sessions, behind one item more, and that floors read no more of a call.
use Rattle.std.proofs.Common.{◌≡◌, ℕ, Bool, true, false, cond, ◌==◌, List, [], ◌∷◌, ◌++◌, append_assoc, append-nil, Option, None, Some, is_some, refl, sym, ◌∙◌, ap, subst, arith, Equal}
use Rattle.std.specs.Cmp.{nat_cmp_total}
use Rattle.std.specs.FinMap.Entries.{find-put}
use Rattle.std.specs.Ordering.{nat_cmp, is_eq}
use Rattle.std.specs.declared.cmp.Ordering.{Ordering}
use Rattle.std.proofs.lemmas.Bool.{eqb-true}
use Rattle.std.proofs.lemmas.Bool.Decides.{nat_tests}
use Rattle.etcd_types.specs.declared.answer.Answer.{Answer}
use Rattle.etcd_types.specs.declared.answer.Answer.TheVariants.{Done, Refused}
use Rattle.etcd_types.specs.declared.answer.Body.{Body}
use Rattle.etcd_types.specs.declared.answer.Body.TheVariants as body
use Rattle.etcd_types.specs.declared.answer.Refusal.{Refusal}
use Rattle.etcd_types.specs.declared.answer.Reply.{Reply}
use Rattle.etcd_types.specs.declared.request.Request.{Request}
use Rattle.etcd_types.specs.declared.request.Request.TheVariants as request
use Rattle.script_text.specs.declared.item.Item.{Item}
use Rattle.script_text.specs.declared.item.Item.TheVariants as item
use Rattle.world_model.specs.declared.floor.Floor.{Floor}
use Rattle.world_model.specs.declared.sent_call.SentCall.{SentCall}
use Rattle.world_model.specs.Floors.{floors_by}
use Rattle.world_model.specs.Lives.{clock_of}
use Rattle.world_model.specs.Places.{kept_at, with_kept}
use Rattle.world_model.specs.State.{Numbered}
use Rattle.audit_lives.specs.Finds.{found_or}
use Rattle.audit_model.specs.Calls.{sender_of, sent_as, sent_from}
use Rattle.audit_model.specs.Floors.{floors_of}
use Rattle.audit_clients.specs.LeaseCalls.{KeepsLeases, Notes, call_of, floors_by_lease, lease_kind, lease_of, lease_sent, noted, request_of}
use Rattle.audit_clients.specs.Sent.{sent_at, sent_in}
use Rattle.audit_clients.specs.declared.floors.LeaseCall.{LeaseCall}
use Rattle.audit_clients.proofs.Sent.{sent_first}

-- ---- what floors read

abbrev by_lease : Option LeaseCall → Body → Numbered Floor → Numbered Floor
by_lease None b floors = floors
by_lease (Some l) b floors = floors_by (call_of l) (request_of l.grants) b floors

same_by : (call : SentCall) (q : Request) (b : Body) (floors : Numbered Floor) → by_lease (lease_sent call.proxy call.clock (lease_kind q)) b floors ≡ floors_by call q b floors
same_by call (request.Grant ttl number) (body.Grant lease asked) floors = refl
same_by call (request.Grant ttl number) b floors = refl
same_by call (request.KeepAlive number) (body.KeepAlive lease ttl) floors = refl
same_by call (request.KeepAlive number) b floors = refl
same_by call q b floors = refl

by_reply : (o : Option LeaseCall) (reply : Reply) (floors : Numbered Floor) → floors_by_lease o (Done reply) floors ≡ by_lease o reply.body floors
by_reply None reply floors = refl
by_reply (Some l) reply floors = refl

by_refusal : (o : Option LeaseCall) (why : Refusal) (floors : Numbered Floor) → floors_by_lease o (Refused why) floors ≡ floors
by_refusal None why floors = refl
by_refusal (Some l) why floors = refl

pub same_floors : (o : Option SentCall) (a : Answer) (floors : Numbered Floor) → floors_by_lease (lease_of o) a floors ≡ floors_of o a floors
same_floors None a floors = refl
same_floors (Some call) (Done reply) floors = by_reply (lease_of (Some call)) reply floors ∙ same_by call call.request reply.body floors
same_floors (Some call) (Refused why) floors = by_refusal (lease_of (Some call)) why floors

-- ---- what is kept at a number

tied : (k : ℕ) → nat_cmp k k ≡ Equal
tied k = grind (arith, nat_tests)

untied : (k q : ℕ) → (k == q) ≡ false → is_eq (nat_cmp q k) ≡ false
untied k q e = grind (arith, nat_tests)

put_at : (kept : Numbered LeaseCall) (k : ℕ) (x : LeaseCall) (q : ℕ) → kept_at (with_kept kept k x) q ≡ cond (k == q) (Some x) (kept_at kept q)
put_at kept k x q = by (k == q) refl
  where
    by : (b : Bool) → (k == q) ≡ b → kept_at (with_kept kept k x) q ≡ cond b (Some x) (kept_at kept q)
    by true e =
        find-put nat_cmp nat_cmp_total q k x kept
        ∙ ap (λ (o : Ordering). cond (is_eq o) (Some x) (kept_at kept q)) (ap (λ (n : ℕ). nat_cmp q n) (eqb-true k q e) ∙ tied q)
    by false e = find-put nat_cmp nat_cmp_total q k x kept ∙ ap (λ (b : Bool). cond b (Some x) (kept_at kept q)) (untied k q e)

pub put_notes : (old new : Numbered LeaseCall) (call : ℕ) (lease : LeaseCall) → new ≡ with_kept old call lease → Notes call (Some lease) old new
put_notes old new call lease e k = ap (λ (kept : Numbered LeaseCall). kept_at kept k) e ∙ put_at old call lease k

either : {A : Type 0} (b : Bool) (x : A) → x ≡ cond b x x
either true x = refl
either false x = refl

pub nothing_notes : (kept : Numbered LeaseCall) (call : ℕ) → Notes call None kept kept
nothing_notes kept call k = either (call == k) (kept_at kept k)

-- ---- one item more

or_none : {A : Type 0} (o : Option A) → found_or o None ≡ o
or_none None = refl
or_none (Some x) = refl

grouped : {A : Type 0} (o a b : Option A) → found_or o (found_or a b) ≡ found_or (found_or o a) b
grouped None a b = refl
grouped (Some x) a b = refl

more_from : (call : ℕ) (before xs : List Item) (x : Item) → sent_from call before (xs ++ x ∷ []) ≡ found_or (sent_from call before xs) (sent_in call (before ++ xs) x)
more_from call before [] x = sent_first call before x [] ∙ or_none (sent_in call before x) ∙ ap (λ (ys : List Item). sent_in call ys x) (sym (append-nil before))
more_from call before (i ∷ xs) x =
    sent_first call before i (xs ++ x ∷ [])
    ∙ ap (found_or (sent_in call before i)) (more_from call (before ++ i ∷ []) xs x)
    ∙ grouped (sent_in call before i) (sent_from call (before ++ i ∷ []) xs) (sent_in call ((before ++ i ∷ []) ++ xs) x)
    ∙ (λ k. found_or (sym (sent_first call before i xs) k) (sent_in call (append_assoc before (i ∷ []) xs k) x))

sent_more : (call : ℕ) (items : List Item) (x : Item) → sent_as call (items ++ x ∷ []) ≡ found_or (sent_as call items) (sent_in call items x)
sent_more call items x = more_from call [] items x

some_from : (call : ℕ) (before items : List Item) → is_some (sent_from call before items) ≡ is_some (sender_of call items)
some_from call before [] = refl
some_from call before (item.Sent p number member ticket q ∷ items) = by (number == call) (some_from call (before ++ item.Sent p number member ticket q ∷ []) items)
  where
    by : (b : Bool) → is_some (sent_from call (before ++ item.Sent p number member ticket q ∷ []) items) ≡ is_some (sender_of call items)
        → is_some (cond b (Some (sent_at p member (clock_of p before) q)) (sent_from call (before ++ item.Sent p number member ticket q ∷ []) items)) ≡ is_some (cond b (Some p) (sender_of call items))
    by true h = refl
    by false h = h
some_from call before (i ∷ items) = some_from call (before ++ i ∷ []) items

none_of : {A : Type 0} (o : Option A) → is_some o ≡ false → o ≡ None
none_of None e = refl
none_of (Some x) e = absurd cc

first_stays : {A : Type 0} (o later : Option A) → is_some o ≡ true → found_or o later ≡ o
first_stays None later e = absurd cc
first_stays (Some x) later e = refl

noted_new : (o : Option LeaseCall) → noted o None ≡ o
noted_new None = refl
noted_new (Some l) = refl

-- a call of a number that was sent before is none to read
pub sent_before : (items : List Item) (x : Item) (p n member ticket : ℕ) (q : Request) (sender : ℕ) (kept : Numbered LeaseCall) → x ≡ item.Sent p n member ticket q → sender_of n items ≡ Some sender → KeepsLeases kept items
    → KeepsLeases kept (items ++ x ∷ [])
sent_before items x p n member ticket q sender kept is s h call =
    h call
    ∙ ap lease_of
    (sym (sent_more call items x ∙ ap (λ (i : Item). found_or (sent_as call items) (sent_in call items i)) is ∙ by (n == call) refl))
  where
    sent : SentCall
    sent = sent_at p member (clock_of p items) q

    by : (b : Bool) → (n == call) ≡ b → found_or (sent_as call items) (cond b (Some sent) None) ≡ sent_as call items
    by true e = first_stays (sent_as call items) (Some sent) (some_from call [] items ∙ ap (λ (k : ℕ). is_some (sender_of k items)) (sym (eqb-true n call e)) ∙ ap is_some s)
    by false e = or_none (sent_as call items)

pub sent_now : (items : List Item) (x : Item) (p n member ticket : ℕ) (q : Request) (old new : Numbered LeaseCall) → x ≡ item.Sent p n member ticket q → sender_of n items ≡ None
    → Notes n (lease_sent p (clock_of p items) (lease_kind q)) old new → KeepsLeases old items → KeepsLeases new (items ++ x ∷ [])
sent_now items x p n member ticket q old new is none notes h call =
    notes call
    ∙ by (n == call) refl
    ∙ ap lease_of (sym (sent_more call items x ∙ ap (λ (i : Item). found_or (sent_as call items) (sent_in call items i)) is))
  where
    sent : SentCall
    sent = sent_at p member (clock_of p items) q

    lease : Option LeaseCall
    lease = lease_sent p (clock_of p items) (lease_kind q)

    by : (b : Bool) → (n == call) ≡ b → cond b (noted lease (kept_at old call)) (kept_at old call) ≡ lease_of (found_or (sent_as call items) (cond b (Some sent) None))
    by true e =
        let first : sent_as call items ≡ None =
        none_of (sent_as call items) (some_from call [] items ∙ ap (λ (k : ℕ). is_some (sender_of k items)) (sym (eqb-true n call e)) ∙ ap is_some none) in
        ap (noted lease) (h call ∙ ap lease_of first) ∙ noted_new lease ∙ sym (ap (λ (o : Option SentCall). lease_of (found_or o (Some sent))) first)
    by false e = h call ∙ sym (ap lease_of (or_none (sent_as call items)))

nothing_sent : (call : ℕ) (items : List Item) (x : Item) → ((p n member ticket : ℕ) (q : Request) → x ≡ item.Sent p n member ticket q → ⊥) → sent_in call items x ≡ None
nothing_sent call items (item.Sent p n member ticket q) f = absurd (f p n member ticket q refl)
nothing_sent call items x f = refl

pub other_keeps : (items : List Item) (x : Item) (kept : Numbered LeaseCall) → ((p n member ticket : ℕ) (q : Request) → x ≡ item.Sent p n member ticket q → ⊥) → KeepsLeases kept items
    → KeepsLeases kept (items ++ x ∷ [])
other_keeps items x kept f h call =
    h call ∙ ap lease_of (sym (sent_more call items x ∙ ap (found_or (sent_as call items)) (nothing_sent call items x f) ∙ or_none (sent_as call items)))
