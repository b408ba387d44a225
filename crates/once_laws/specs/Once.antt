-- How often a client's write runs, in the words of a transcript: of the calls that name its ticket in one life of its proxy at most one did the
-- write, whenever they were executed; where the reply is ok one did, before the reply; and where the reply says that nothing was done none did.
use Rattle.std.specs.Prelude.{◌≡◌, ◌≢◌, ℕ, Bool, true, false, List, ◌∷◌, ◌++◌, length, Option, None, Some}
use Rattle.etcd_types.specs.declared.answer.Answer.{Answer}
use Rattle.etcd_types.specs.declared.answer.Answer.TheVariants.{Done, Refused}
use Rattle.etcd_types.specs.declared.answer.Body.{Body}
use Rattle.etcd_types.specs.declared.answer.Refusal.{Refusal}
use Rattle.etcd_types.specs.declared.answer.Reply.{Reply}
use Rattle.etcd_types.specs.declared.request.Request.{Request}
use Rattle.etcd_types.specs.declared.request.Request.TheVariants as request
use Rattle.etcd_types.specs.Keys.{is_empty}
use Rattle.proxy_model.specs.Fits.{branch_of}
use Rattle.proxy_model.specs.Foreign.{ask_revoke}
use Rattle.proxy_model.specs.Guarded.{guarded}
use Rattle.proxy_model.specs.Wrapped.{request_under}
use Rattle.core_model.specs.Heard.{is_known}
use Rattle.core_model.specs.Kinds.{writes_keys}
use Rattle.script_text.specs.declared.item.Item.{Item}
use Rattle.script_text.specs.declared.item.Item.TheVariants as item
use Rattle.world_model.specs.Lives.{world_of, life, asked_as}

-- it asks the owner of a key to give it up
abbrev pub IsRevokeCall : List ℕ → List ℕ → Request → Type 0
IsRevokeCall namespace prefix sent = (k : List ℕ) × (create : ℕ) × (sent ≡ request_under namespace (request.Txn (ask_revoke prefix k create)))

-- of an answer to a transaction
abbrev pub ran_success : Option (Bool × List Body) → Bool
ran_success None = false
ran_success (Some ran) = ran.0

-- with leasing on: it is no revoke call, and where it is the write behind its ownership keys, these stood as they were compared
pub record GoesThrough (namespace prefix : List ℕ) (q sent : Request) (body : Body) : Type 0 where
  pub other : IsRevokeCall namespace prefix sent → ⊥
  pub held : (created : List ℕ → ℕ) → sent ≡ request_under namespace (request.Txn (guarded prefix q created)) → ran_success (branch_of body) ≡ true

-- what was sent for the write, and executed to this answer, did it
pub record Did (namespace prefix : List ℕ) (q sent : Request) (answer : Answer) : Type 0 where
  pub reply : Reply
  pub done : answer ≡ Done reply
  pub through : is_empty prefix ≡ false → GoesThrough namespace prefix q sent reply.body

-- an executed call that did the write: it was sent in these items of the proxy's life for this ticket, and executed in these of all
pub record Run (namespace prefix : List ℕ) (told items : List Item) (p ticket : ℕ) (q : Request) : Type 0 where
  pub call : ℕ
  pub member : ℕ
  pub sent : Request
  pub unsent : List Item
  pub later : List Item
  pub named : told ≡ unsent ++ item.Sent p call member ticket sent ∷ later
  pub answer : Answer
  pub unexecuted : List Item
  pub rest : List Item
  pub executed : items ≡ unexecuted ++ item.Executed call answer ∷ rest
  pub did : Did namespace prefix q sent answer

-- Of each write that was asked in a life of its proxy. Calls that a proxy makes for itself name 0, which is no ticket of a script that is read.
pub record RanOnce (items : List Item) : Type 0 where
  -- at any moment of the life, of the calls so far two that did it are one, whenever they were executed, in another life too: they are the
  -- same executed item
  pub once :
      (earlier later : List Item) (p ticket : ℕ) (q : Request) → items ≡ earlier ++ later → ticket ≢ 0 → asked_as p ticket (life p earlier) ≡ Some q → writes_keys q ≡ true
      → (a b : Run (world_of items).0 (world_of items).1 (life p earlier) items p ticket q) → length a.unexecuted ≡ length b.unexecuted
  -- where it is replied ok one did, before the reply
  pub ran :
      (earlier later : List Item) (p ticket : ℕ) (q : Request) (reply : Reply) → items ≡ earlier ++ item.Reply p ticket (Done reply) ∷ later → ticket ≢ 0
      → asked_as p ticket (life p earlier) ≡ Some q → writes_keys q ≡ true → Run (world_of items).0 (world_of items).1 (life p earlier) earlier p ticket q
  -- where it is refused with a code that says that nothing was done none did, nor does later
  pub none :
      (earlier later : List Item) (p ticket : ℕ) (q : Request) (r : Refusal) → items ≡ earlier ++ item.Reply p ticket (Refused r) ∷ later → is_known r.code ≡ true → ticket ≢ 0
      → asked_as p ticket (life p earlier) ≡ Some q → writes_keys q ≡ true → Run (world_of items).0 (world_of items).1 (life p earlier) items p ticket q → ⊥
