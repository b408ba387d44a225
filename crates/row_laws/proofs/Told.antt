-- What the leasing stream brings: deletions, whole messages, and a stream that begins anew.
use Rattle.std.proofs.Common.{◌≡◌, ℕ, Bool, true, false, cond, List, [], ◌∷◌, Option, None, Some, is_some, map, nat_lt, refl, sym, ◌∙◌, ap, subst}
use Rattle.std.specs.Option.{option_map}
use Rattle.etcd_types.specs.declared.watch.Change.{Change}
use Rattle.etcd_types.specs.declared.watch.Change.TheVariants as change
use Rattle.etcd_types.specs.declared.watch.Event.{Event}
use Rattle.etcd_types.specs.Keys.{same}
use Rattle.proxy_model.specs.declared.lease.Entry.{Entry}
use Rattle.proxy_model.specs.declared.lease.Phase.{Phase}
use Rattle.proxy_model.specs.declared.lease.Phase.TheVariants.{Held, Writing, Leaving}
use Rattle.proxy_model.specs.Foreign.{revoke_word}
use Rattle.proxy_model.specs.Keyed.{at, with_at}
use Rattle.proxy_model.specs.LeaseTable.{given_up}
use Rattle.wait_model.specs.declared.sending.Sending.TheVariants as sending
use Rattle.wait_model.specs.declared.write.Write.{Write}
use Rattle.wait_model.specs.declared.write.WriteStage.{WriteStage}
use Rattle.wait_model.specs.declared.write.WriteStage.TheVariants.{Waiting, Sends, Finds}
use Rattle.wait_model.specs.Asked.{acquire_spoiled}
use Rattle.wait_model.specs.Covers.{covers}
use Rattle.wait_model.specs.Edits.{each}
use Rattle.wait_model.specs.Fits.{stage_over}
use Rattle.wait_model.specs.ForeignOwnership.{stage_gone, write_gone, found_gone}
use Rattle.wait_model.specs.Notices.{deleted_phase, deleted_turn, put_noticed, delete_noticed, owned_key, noticed, revoked_turn, all_noticed}
use Rattle.wait_model.specs.State.{Ownership}
use Rattle.wait_model.proofs.Tables.{at-each}
use Rattle.read_model.specs.declared.acquire.Acquire.{Acquire}
use Rattle.read_model.specs.State.{Ground}
use Rattle.cache_laws.specs.Moves.View.{View}
use Rattle.cache_laws.specs.Moves.Answers.{IsShown, Reaches}
use Rattle.row_laws.specs.Rows.{write_number, written_by, slot_of, row_of}
use Rattle.row_laws.specs.Laws.{Rows, AreMarked, IsLive, with_own}
use Rattle.row_laws.specs.Notices.{DeletesTurn, TellsChange, AreTold, MessagesTurn, ResyncTurns, CancellationTurns}
use Rattle.row_laws.proofs.Reaching.{same_slot, reaches_on, at_one}
use Rattle.row_laws.proofs.Notices.{spoiled_reach, given_up_reach, notices_turn}
use Rattle.row_laws.proofs.EndRows.{forgets_reach}

-- What writes have found has no place in the view.

stage_over-gone : (q : List ℕ → Bool) (k : List ℕ) (ws : List Write) → stage_over k (map (write_gone q) ws) ≡ stage_gone q (stage_over k ws)
stage_over-gone q k [] = refl
stage_over-gone q k (w ∷ ws) = by (covers w k) (stage_over-gone q k ws)
  where
    by : (b : Bool) → stage_over k (map (write_gone q) ws) ≡ stage_gone q (stage_over k ws)
        → cond b (stage_gone q w.stage) (stage_over k (map (write_gone q) ws)) ≡ stage_gone q (cond b w.stage (stage_over k ws))
    by true r = refl
    by false r = r

gone_number : (own : ℕ → ℕ) (q : List ℕ → Bool) (stage : WriteStage) → write_number own (stage_gone q stage) ≡ write_number own stage
gone_number own q Waiting = refl
gone_number own q (Sends owner s) = refl
gone_number own q (Finds found) = refl

-- a slot has of a stage its number alone
pub renumbered : (own : ℕ → ℕ) (e : Option Entry) (a : Option Acquire) (s : Option Bool) (stage next : WriteStage) → write_number own next ≡ write_number own stage → slot_of own e a s next ≡ slot_of own e a s stage
renumbered own None a s stage next n = refl
renumbered own (Some e) a s stage next n = by e.phase
  where
    by : (phase : Phase) → slot_of own (Some (record e { phase = phase })) a s next ≡ slot_of own (Some (record e { phase = phase })) a s stage
    by Held = refl
    by (Writing revoked) = λ i. record (slot_of own (Some (record e { phase = Writing revoked })) a s next) { write = n i }
    by (Leaving sent) = refl

found_gone_row : (own : ℕ → ℕ) (q : List ℕ → Bool) (g : Ground) (k : List ℕ) → row_of own (with_own g (found_gone q g.own)) k ≡ row_of own g k
found_gone_row own q g k =
    let stage = stage_over k g.own.waits.writes in
    renumbered own (at g.own.entries k) (at g.acquires k) (at g.own.waits.spoiled k) stage (stage_over k (map (write_gone q) g.own.waits.writes)) (ap (write_number own) (stage_over-gone q k g.own.waits.writes) ∙ gone_number own q stage)

-- A deletion.

deleted_reach : (v : View) (p : ℕ) (k : List ℕ) (own : ℕ → ℕ) (revision : ℕ) (e : Option Entry) (a : Option Acquire) (s : Option Bool) (stage : WriteStage) → Reaches v p k (slot_of own e a s stage) (slot_of own (deleted_turn revision e) a s stage)
deleted_reach v p k own revision None a s stage = same_slot refl
deleted_reach v p k own revision (Some e) a s stage = by (nat_lt e.create revision)
  where
    taken : (phase : Phase) → Reaches v p k (slot_of own (Some (record e { phase = phase })) a s stage) (slot_of own (deleted_phase (record e { phase = phase }) phase) a s stage)
    taken Held = forgets_reach v p k own (Some (record e { phase = Held })) a s stage stage
    taken (Writing revoked) = same_slot refl
    taken (Leaving sent) = same_slot refl

    by : (b : Bool) → Reaches v p k (slot_of own (Some e) a s stage) (slot_of own (cond b (deleted_phase e e.phase) (Some e)) a s stage)
    by true = taken e.phase
    by false = same_slot refl

pub deletes_turn : DeletesTurn
deletes_turn v p own k revision g j =
    let h = with_own g (record g.own { entries = with_at g.own.entries k (deleted_turn revision (at g.own.entries k)) }) in
    reaches_on
    (at_one (λ i e. Reaches v p i (row_of own g i) (slot_of own e (at g.acquires i) (at g.own.waits.spoiled i) (stage_over i g.own.waits.writes))) g.own.entries k (deleted_turn revision (at g.own.entries k))
    (deleted_reach v p k own revision (at g.own.entries k) (at g.acquires k) (at g.own.waits.spoiled k) (stage_over k g.own.waits.writes)) (λ i. same_slot refl) j)
    (same_slot (found_gone_row own (same k) h j))

-- A message: the marks stay those of the acquires.

marked_spoiled : (g : Ground) (k : List ℕ) → AreMarked g → AreMarked (with_own g (acquire_spoiled k g.own))
marked_spoiled g k marked =
    at_one (λ j s. is_some s ≡ is_some (at g.acquires j)) g.own.waits.spoiled k (option_map (λ b. true) (at g.own.waits.spoiled k)) (some_still (at g.own.waits.spoiled k) ∙ marked k) marked
  where
    some_still : (s : Option Bool) → is_some (option_map (λ (b : Bool). true) s) ≡ is_some s
    some_still None = refl
    some_still (Some b) = refl

marked_noticed : (session : Option ℕ) (c : Change) (g : Ground) → AreMarked g → AreMarked (with_own g (noticed session c g.own))
marked_noticed session (change.Put kv) g marked = by (same kv.value revoke_word)
  where
    k : List ℕ
    k = owned_key g.own.waits.prefix kv.key

    put : (b : Bool) → AreMarked (with_own g (cond b (acquire_spoiled k g.own) (record g.own { entries = with_at g.own.entries k (revoked_turn session kv.create kv.lease (at g.own.entries k)) })))
    put true = marked_spoiled g k marked
    put false = marked

    by : (b : Bool) → AreMarked (with_own g (cond b (put_noticed session k kv.create kv.lease g.own) g.own))
    by true = put (is_some (at g.own.waits.spoiled k))
    by false = marked
marked_noticed session (change.Delete k revision) g marked = marked

prefix_noticed : (session : Option ℕ) (c : Change) (own : Ownership) → (noticed session c own).waits.prefix ≡ own.waits.prefix
prefix_noticed session (change.Put kv) own = by (same kv.value revoke_word)
  where
    k : List ℕ
    k = owned_key own.waits.prefix kv.key

    put : (b : Bool) → (cond b (acquire_spoiled k own) (record own { entries = with_at own.entries k (revoked_turn session kv.create kv.lease (at own.entries k)) })).waits.prefix ≡ own.waits.prefix
    put true = refl
    put false = refl

    by : (b : Bool) → (cond b (put_noticed session k kv.create kv.lease own) own).waits.prefix ≡ own.waits.prefix
    by true = put (is_some (at own.waits.spoiled k))
    by false = refl
prefix_noticed session (change.Delete k revision) own = refl

change_turns : (v : View) (p : ℕ) (own : ℕ → ℕ) (session : Option ℕ) (c : Change) (g : Ground) → IsLive v p session → AreMarked g → TellsChange v g.own.waits.prefix c → Rows v p own g (with_own g (noticed session c g.own))
change_turns v p own session (change.Put kv) g live marked told j = by (same kv.value revoke_word) told
  where
    by : (b : Bool) → (b ≡ true → IsShown v (owned_key g.own.waits.prefix kv.key) (record { create = kv.create; session = kv.lease })) → Reaches v p j (row_of own g j) (row_of own (with_own g (cond b (put_noticed session (owned_key g.own.waits.prefix kv.key) kv.create kv.lease g.own) g.own)) j)
    by true t = notices_turn v p own session (owned_key g.own.waits.prefix kv.key) kv.create kv.lease g live (t refl) marked j
    by false t = same_slot refl
change_turns v p own session (change.Delete k revision) g live marked told j = deletes_turn v p own (owned_key g.own.waits.prefix k) revision g j

pub messages_turn : MessagesTurn
messages_turn v p own session [] g live marked told k = same_slot refl
messages_turn v p own session (e ∷ es) g live marked told k =
    let h = with_own g (noticed session e.change g.own) in
    reaches_on (change_turns v p own session e.change g live marked told.0 k)
    (messages_turn v p own session es h live (marked_noticed session e.change g marked) (subst (λ (x : List ℕ). AreTold v x es) (sym (prefix_noticed session e.change g.own)) told.1) k)

-- The stream begins anew.

pub resync_turns : ResyncTurns
resync_turns v p own g k = same_slot (found_gone_row own (λ j. true) g k)

all_reach : (v : View) (p : ℕ) (k : List ℕ) (own : ℕ → ℕ) (e : Option Entry) (a : Option Acquire) (s : Option Bool) (stage : WriteStage) → Reaches v p k (slot_of own e a s stage) (slot_of own (option_map given_up e) a (option_map (λ b. true) s) stage)
all_reach v p k own None a s stage = spoiled_reach v p k own None a s stage
all_reach v p k own (Some e) a s stage = reaches_on (given_up_reach v p k own e a s stage) (spoiled_reach v p k own (Some (given_up e)) a s stage)

pub cancellation_turns : CancellationTurns
cancellation_turns v p own g k =
    subst (λ (x : Option Entry). Reaches v p k (row_of own g k) (slot_of own x (at g.acquires k) (at (each (λ j (s : Bool). true) g.own.waits.spoiled) k) (stage_over k g.own.waits.writes))) (sym (at-each (λ j e. given_up e) g.own.entries k))
    (subst (λ (x : Option Bool). Reaches v p k (row_of own g k) (slot_of own (option_map given_up (at g.own.entries k)) (at g.acquires k) x (stage_over k g.own.waits.writes))) (sym (at-each (λ j s. true) g.own.waits.spoiled k))
    (all_reach v p k own (at g.own.entries k) (at g.acquires k) (at g.own.waits.spoiled k) (stage_over k g.own.waits.writes)))
