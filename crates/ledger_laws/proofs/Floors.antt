-- What the items of a script tell of session floors is what its world has of them, and each is of a proxy that was started.
use Rattle.std.proofs.Common.{◌≡◌, ℕ, ◌==◌, Bool, true, false, cond, List, [], ◌∷◌, ◌++◌, append-nil, append_assoc, Option, None, Some, max, refl, sym, ◌∙◌, ap, subst}
use Rattle.etcd_types.specs.declared.answer.Answer.{Answer}
use Rattle.etcd_types.specs.declared.answer.Answer.TheVariants.{Done, Refused}
use Rattle.etcd_types.specs.declared.answer.Body.{Body}
use Rattle.etcd_types.specs.declared.answer.Body.TheVariants as body
use Rattle.etcd_types.specs.declared.request.Request.{Request}
use Rattle.etcd_types.specs.declared.request.Request.TheVariants as request
use Rattle.script_text.specs.declared.item.Item.{Item}
use Rattle.script_text.specs.declared.item.Item.TheVariants as item
use Rattle.world_model.specs.declared.floor.Floor.{Floor}
use Rattle.world_model.specs.declared.sent_call.SentCall.{SentCall}
use Rattle.world_model.specs.Floors.{lives_until, counts, later, granted_floor, raised, kept_floor, floors_after}
use Rattle.world_model.specs.Floors as world
use Rattle.world_model.specs.Places.{kept_at, with_kept}
use Rattle.world_model.specs.State.{Numbered}
use Rattle.audit_model.specs.Calls.{sent_as}
use Rattle.audit_model.specs.Floors.{floors_of, floors_by, floors_from, reported_floors}
use Rattle.held_laws.proofs.Kept.{kept_itself, kept_other}
use Rattle.held_laws.proofs.Worlds.{equal}
use Rattle.ledger_laws.proofs.Calls.{bare}

-- ---- one item more

floors-append : (before : List Item) (floors : Numbered Floor) (xs ys : List Item) → floors_from before floors (xs ++ ys) ≡ floors_from (before ++ xs) (floors_from before floors xs) ys
floors-append before floors [] ys = ap (λ (b : List Item). floors_from b floors ys) (sym (append-nil before))
floors-append before floors (x ∷ xs) ys =
    let next = floors_by before x floors in
    floors-append (before ++ x ∷ []) next xs ys ∙ ap (λ (b : List Item). floors_from b (floors_from (before ++ x ∷ []) next xs) ys) (append_assoc before (x ∷ []) xs)

pub floors_next : (items : List Item) (i : Item) → reported_floors (items ++ i ∷ []) ≡ floors_by items i (reported_floors items)
floors_next items i = floors-append [] [] items (i ∷ [])

-- it executes no call
abbrev pub is_no_execution : Item → Bool
is_no_execution (item.Executed call answer) = false
is_no_execution _ = true

no_floor : (items : List Item) (i : Item) (floors : Numbered Floor) → is_no_execution i ≡ true → floors_by items i floors ≡ floors
no_floor items (item.Executed call answer) floors e = absurd (cc)
no_floor items _ floors e = refl

pub floors_on : (items : List Item) (i : Item) (floors : Numbered Floor) → is_no_execution i ≡ true → reported_floors items ≡ floors → reported_floors (items ++ i ∷ []) ≡ floors
floors_on items i floors e h = floors_next items i ∙ no_floor items i (reported_floors items) e ∙ h

-- ---- a call is executed

-- floors see of a call what is told of it
bare_floors : (call : SentCall) (a : Answer) (floors : Numbered Floor) → floors_after (bare call) a floors ≡ floors_after call a floors
bare_floors call (Refused why) floors = refl
bare_floors call (Done reply) floors = by call.request reply.body
  where
    by : (q : Request) (b : Body) → world.floors_by (bare call) q b floors ≡ world.floors_by call q b floors
    by (request.Grant asked number) (body.Grant lease ttl) = refl
    by (request.KeepAlive number) (body.KeepAlive lease ttl) = refl
    by _ _ = refl

pub floors_executed : (items : List Item) (number : ℕ) (call : SentCall) (a : Answer) (floors : Numbered Floor) → sent_as number items ≡ Some (bare call) → reported_floors items ≡ floors
    → reported_floors (items ++ item.Executed number a ∷ []) ≡ floors_after call a floors
floors_executed items number call a floors sent h =
    floors_next items (item.Executed number a) ∙ ap (λ (o : Option SentCall). floors_of o a (reported_floors items)) sent ∙ ap (floors_after (bare call) a) h ∙ bare_floors call a floors

-- ---- whose floors there are

-- each is of one of these proxies
abbrev pub AreOf : (ℕ → Type 0) → Numbered Floor → Type 0
AreOf P floors = (lease : ℕ) (f : Floor) → kept_at floors lease ≡ Some f → P f.proxy

some_floor : (f g : Floor) → Some f ≡ Some g → f ≡ g
some_floor f g e = cc

put_of : (P : ℕ → Type 0) (floors : Numbered Floor) (lease : ℕ) (f : Floor) → P f.proxy → AreOf P floors → AreOf P (with_kept floors lease f)
put_of P floors lease f this h other g at = by (other == lease) refl
  where
    by : (b : Bool) → (other == lease) ≡ b → P g.proxy
    by true e = subst (λ (x : Floor). P x.proxy) (some_floor f g (sym (kept_itself floors lease f) ∙ ap (kept_at (with_kept floors lease f)) (sym (equal other lease e)) ∙ at)) this
    by false e = h other g (sym (kept_other floors other lease f e) ∙ at)

granted_of : (P : ℕ → Type 0) (call : SentCall) (lease ttl : ℕ) (floors : Numbered Floor) → P call.proxy → AreOf P floors → AreOf P (granted_floor call lease ttl floors)
granted_of P call lease ttl floors this h = by (counts lease ttl)
  where
    by : (b : Bool) → AreOf P (cond b (with_kept floors lease (record { proxy = call.proxy; floor = later (lives_until call ttl) (kept_at floors lease) })) floors)
    by true = put_of P floors lease (record { proxy = call.proxy; floor = later (lives_until call ttl) (kept_at floors lease) }) this h
    by false = h

raised_of : (P : ℕ → Type 0) (lease until : ℕ) (floors : Numbered Floor) (o : Option Floor) → kept_at floors lease ≡ o → AreOf P floors → AreOf P (raised lease until floors o)
raised_of P lease until floors None e h = h
raised_of P lease until floors (Some f) e h = put_of P floors lease (record f { floor = max f.floor until }) (h lease f e) h

kept_of : (P : ℕ → Type 0) (call : SentCall) (lease ttl : ℕ) (floors : Numbered Floor) → AreOf P floors → AreOf P (kept_floor call lease ttl floors)
kept_of P call lease ttl floors h = by (counts lease ttl)
  where
    by : (b : Bool) → AreOf P (cond b (raised lease (lives_until call ttl) floors (kept_at floors lease)) floors)
    by true = raised_of P lease (lives_until call ttl) floors (kept_at floors lease) refl h
    by false = h

pub floors_are_of : (P : ℕ → Type 0) (call : SentCall) (a : Answer) (floors : Numbered Floor) → P call.proxy → AreOf P floors → AreOf P (floors_after call a floors)
floors_are_of P call (Refused why) floors this h = h
floors_are_of P call (Done reply) floors this h = by call.request reply.body
  where
    by : (q : Request) (b : Body) → AreOf P (world.floors_by call q b floors)
    by (request.Grant asked number) (body.Grant lease ttl) = granted_of P call lease ttl floors this h
    by (request.KeepAlive number) (body.KeepAlive lease ttl) = kept_of P call lease ttl floors h
    by _ _ = h
