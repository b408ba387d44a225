-- What a replay answers with no call of its own so far shows what the store holds.
use Rattle.std.proofs.Common.{◌≡◌, inl, inr, ℕ, ◌≤◌, ◌<◌, ◌^◌, nat_le, Bool, true, false, ◌&&◌, ◌||◌, List, [], ◌∷◌, ◌++◌, length, Option, None, Some, Ok, Err, refl, sym, ◌∙◌, ap, arith}
use Rattle.std.specs.List.{list_all}
use Rattle.std.proofs.lemmas.Bool.Decides.{nat_tests}
use Rattle.etcd_types.proofs.Bools.{true_or_false, and_both}
use Rattle.etcd_types.specs.Keys.{is_empty}
use Rattle.etcd_types.specs.declared.answer.Answer.TheVariants.{Done, Refused}
use Rattle.etcd_types.specs.declared.answer.Body.{Body}
use Rattle.etcd_types.specs.declared.answer.Refusal.{Refusal}
use Rattle.etcd_types.specs.declared.answer.Reply.{Reply}
use Rattle.etcd_types.specs.declared.operation.Op.TheVariants.{Txn}
use Rattle.etcd_types.specs.declared.operation.TxnAsk.{TxnAsk}
use Rattle.etcd_types.specs.declared.record.Header.{Header}
use Rattle.etcd_types.specs.declared.request.Request.{Request}
use Rattle.etcd_types.specs.declared.request.Request.TheVariants as request
use Rattle.core_model.specs.Fits.{is_keepalive}
use Rattle.core_model.specs.Kinds.{writes_keys}
use Rattle.equal_values.proofs.Compared.{body-itself}
use Rattle.equal_values.specs.Bodies.{same_body}
use Rattle.plain_laws.specs.Laws.{leasing_of}
use Rattle.plain_laws.proofs.Telling.{leasing_off}
use Rattle.proxy_model.specs.Snapshot.{is_plain}
use Rattle.proxy_model.specs.Unwrapped.{Unwrapped, ◌>>=◌, body_without, reply_without}
use Rattle.proxy_model.specs.Wrapped.{request_under}
use Rattle.renewed_laws.specs.Renewals.{AnswersShowBytes}
use Rattle.script_text.specs.declared.item.Item.{Item}
use Rattle.script_text.specs.declared.item.Item.TheVariants as item
use Rattle.script_text.specs.declared.line.Line.{Line}
use Rattle.store_model.specs.FirstRefusals.{first_refusal}
use Rattle.store_model.specs.History.{newest}
use Rattle.store_model.specs.State.{State}
use Rattle.store_model.specs.Step.{unless, settled, exec}
use Rattle.store_model.specs.Transactions.{Ran, run}
use Rattle.truth_laws.specs.Snapshots.{TrueSnapshot}
use Rattle.truth_laws.proofs.Replies.{ReadsTrue}
use Rattle.truth_laws.proofs.Seeing.{each_world_is_seen}
use Rattle.truth_laws.proofs.Truths.{each_true}
use Rattle.world_model.specs.Answers.{seen}
use Rattle.world_model.specs.Lives.{life, namespace_of, asked_as, is_named}
use Rattle.world_model.specs.Reads.{given, shown_now}
use Rattle.world_model.specs.Transcript.{transcript}
use Rattle.audit_model.specs.Unsent.{is_true_header, is_body_of, is_bare_body, is_true_snapshot, is_true_unsent, replies_so}
use Rattle.audited_replays.specs.Rules.{OfEach, RepliesAreKept}

le_is : (n m : ℕ) → n ≤ m → nat_le n m ≡ true
le_is n m h = grind (arith, nat_tests)

-- ---- the same body from each member

bare_body : (h : Header) (b : Body) (bare : Reply) → ◌≡◌ {A = Unwrapped Reply} (Ok (record { header = h; body = b })) (Ok bare) → b ≡ bare.body
bare_body h b bare e = ap told e
  where
    told : Unwrapped Reply → Body
    told (Ok r) = r.body
    told (Err k) = b

body_so : (h g : Header) (told : Body) (bare : Reply) (u : Unwrapped Body) → told ≡ bare.body → (u >>= λ b. Ok (record { header = h; body = b })) ≡ Ok bare → is_body_of told (u >>= λ b. Ok (record { header = g; body = b })) ≡ true
body_so h g told bare (Ok b) same e = ap (λ (x : Body). same_body x b) (same ∙ sym (bare_body h b bare e)) ∙ body-itself b
body_so h g told bare (Err k) same e = absurd (cc)

done_is : (r s : Reply) → Done r ≡ Done s → r ≡ s
done_is r s e = cc

step_so : (s : State) (namespace : List ℕ) (member : ℕ) (told : Body) (stored bare : Reply) (o : Option Refusal) (r : Ran) → (unless s o (settled s member r)).1 ≡ Done stored → reply_without namespace stored ≡ Ok bare → told ≡ bare.body
    → is_bare_body namespace told (unless s o (settled s 1 r)).1 ≡ true
step_so s namespace member told stored bare (Some why) r e f same = absurd (cc)
step_so s namespace member told stored bare None (Err why) e f same = absurd (cc)
step_so s namespace member told stored bare None (Ok ran) e f same =
    body_so _ _ told bare (body_without namespace ran.1) same (ap (reply_without namespace) (done_is _ stored e) ∙ f)

exec_so : (s : State) (namespace : List ℕ) (member : ℕ) (t : TxnAsk) (told : Body) (stored bare : Reply) → (exec s member (request.Txn t)).1 ≡ Done stored → reply_without namespace stored ≡ Ok bare → told ≡ bare.body
    → is_bare_body namespace told (exec s 1 (request.Txn t)).1 ≡ true
unfolding exec
exec_so s namespace member t told stored bare e f same = step_so s namespace member told stored bare (first_refusal (Txn t)) (run s (Txn t) []) e f same

-- ---- each reply

module _ (lines : List Line) (few : length lines < 2 ^ 60) (shows : AnswersShowBytes (transcript lines)) where
  read_true : (earlier later : List Item) (p ticket : ℕ) (q : Request) (r : Reply) → transcript lines ≡ earlier ++ item.Reply p ticket (Done r) ∷ later → asked_as p ticket (life p earlier) ≡ Some q → is_keepalive q ≡ false
      → is_named p ticket (life p earlier) ≡ false → ReadsTrue earlier p ticket r
  read_true earlier later p ticket q r e asked other unsent = elim (true_or_false (is_empty (leasing_of (transcript lines)))) [
    | inl off ↦ absurd (let no_way : true ≡ false = sym (leasing_off lines shows off earlier later p ticket q r e asked other) ∙ unsent in cc)
    | inr on ↦ each_true each_world_is_seen lines few shows earlier later p ticket r e on unsent
  ]

  header_so : (earlier : List Item) (p : ℕ) (h : Header) → list_all (λ r. nat_le r h.revision) (given p earlier) ≡ true → h.revision ≤ newest (seen earlier).store.history → is_true_header earlier p h ≡ true
  header_so earlier p h low high =
      and_both (list_all (λ r. nat_le r h.revision) (given p earlier)) (nat_le h.revision (newest (seen earlier).store.history)) low (le_is h.revision (newest (seen earlier).store.history) high)

  snapshot_so : (earlier : List Item) (p : ℕ) (t : TxnAsk) (r : Reply) → TrueSnapshot earlier p t r → is_true_snapshot earlier p t r ≡ true
  snapshot_so earlier p t r k =
      and_both (is_bare_body (namespace_of earlier) r.body (exec (seen earlier).store 1 (request_under (namespace_of earlier) (request.Txn t))).1) (is_true_header earlier p r.header)
      (exec_so (seen earlier).store (namespace_of earlier) k.member _ r.body k.stored k.bare k.answered k.unwrapped k.body)
      (header_so earlier p r.header k.not_below k.not_above)

  unsent_so : (earlier later : List Item) (p ticket : ℕ) (r : Reply) → transcript lines ≡ earlier ++ item.Reply p ticket (Done r) ∷ later → is_named p ticket (life p earlier) ≡ false
      → (o : Option Request) → asked_as p ticket (life p earlier) ≡ o → is_true_unsent earlier p o r ≡ true
  unsent_so earlier later p ticket r e unsent (Some (request.Range ask)) asked =
      let k = (read_true earlier later p ticket (request.Range ask) r e asked refl unsent).reads ask asked in
      let body = same_body r.body (shown_now earlier ask.range.key) in
      and_both (is_plain ask && body) (is_true_header earlier p r.header)
      (and_both (is_plain ask) body k.0 (ap (λ (x : Body). same_body x (shown_now earlier ask.range.key)) k.1.shows ∙ body-itself (shown_now earlier ask.range.key)))
      (header_so earlier p r.header k.1.not_below k.1.not_above)
  unsent_so earlier later p ticket r e unsent (Some (request.Txn t)) asked = by (writes_keys (request.Txn t)) refl
    where
      by : (b : Bool) → writes_keys (request.Txn t) ≡ b → b || is_true_snapshot earlier p t r ≡ true
      by true w = refl
      by false w = snapshot_so earlier p t r ((read_true earlier later p ticket (request.Txn t) r e asked refl unsent).snapshots t asked w)
  unsent_so earlier later p ticket r e unsent None asked = refl
  unsent_so earlier later p ticket r e unsent (Some (request.Put ask)) asked = refl
  unsent_so earlier later p ticket r e unsent (Some (request.Delete ask)) asked = refl
  unsent_so earlier later p ticket r e unsent (Some (request.Compact revision physical)) asked = refl
  unsent_so earlier later p ticket r e unsent (Some (request.Grant ttl lease)) asked = refl
  unsent_so earlier later p ticket r e unsent (Some (request.Revoke lease)) asked = refl
  unsent_so earlier later p ticket r e unsent (Some (request.KeepAlive lease)) asked = refl
  unsent_so earlier later p ticket r e unsent (Some (request.TimeToLive lease keys)) asked = refl
  unsent_so earlier later p ticket r e unsent (Some request.Leases) asked = refl
  unsent_so earlier later p ticket r e unsent (Some (request.Watch ask)) asked = refl

  reply_so : OfEach (λ before i. replies_so before i ≡ true) (transcript lines)
  reply_so earlier later (item.Reply p ticket (Done r)) e = by (is_named p ticket (life p earlier)) refl
    where
      by : (b : Bool) → is_named p ticket (life p earlier) ≡ b → b || is_true_unsent earlier p (asked_as p ticket (life p earlier)) r ≡ true
      by true n = refl
      by false n = unsent_so earlier later p ticket r e n (asked_as p ticket (life p earlier)) refl
  reply_so earlier later (item.Reply p ticket (Refused why)) e = refl
  reply_so earlier later _ e = refl

pub replies_kept : RepliesAreKept
replies_kept lines m few s = reply_so lines few s
