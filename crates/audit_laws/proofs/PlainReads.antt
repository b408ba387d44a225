-- An unsent read of a transcript that keeps the rules is plain, and true now.
use Rattle.std.proofs.Common.{◌≡◌, ◌≤◌, ℕ, Bool, true, false, ◌&&◌, ◌||◌, nat_le, List, ◌∷◌, ◌++◌, Option, Some, refl, sym, ◌∙◌, subst}
use Rattle.std.specs.List.{list_all}
use Rattle.std.proofs.lemmas.Bool.{leb-true}
use Rattle.std.proofs.lemmas.List.Folds.{list_any-append}
use Rattle.etcd_types.specs.declared.answer.Answer.TheVariants.{Done}
use Rattle.etcd_types.specs.declared.answer.Reply.{Reply}
use Rattle.etcd_types.specs.declared.operation.RangeAsk.{RangeAsk}
use Rattle.etcd_types.specs.declared.record.Header.{Header}
use Rattle.etcd_types.specs.declared.request.Request.{Request}
use Rattle.etcd_types.specs.declared.request.Request.TheVariants as request
use Rattle.etcd_types.proofs.Bools.{or_first, and_first, and_second}
use Rattle.proxy_model.specs.Snapshot.{is_plain}
use Rattle.script_text.specs.declared.item.Item.{Item}
use Rattle.script_text.specs.declared.item.Item.TheVariants as item
use Rattle.store_model.specs.History.{newest}
use Rattle.world_model.specs.Answers.{seen}
use Rattle.world_model.specs.Lives.{life, rest_of_life, asked_as, names, is_named}
use Rattle.world_model.specs.Reads.{given, shown_now, TrueNow, UnsentReadsAreTrue}
use Rattle.audit_model.specs.Broken.{Meets}
use Rattle.audit_model.specs.Unsent.{is_true_header, is_true_read, is_true_unsent}
use Rattle.equal_values.specs.Bodies.{same_body}
use Rattle.equal_values.proofs.Compared.{body-equal}
use Rattle.audit_laws.proofs.Kept.{kept_at}

-- what no call of the life names, none before names
pub unnamed_before : (p ticket : ℕ) (before after : List Item) → is_named p ticket (before ++ after) ≡ false → is_named p ticket before ≡ false
unnamed_before p ticket before after e =
    or_first (is_named p ticket before) (is_named p ticket after) (sym (list_any-append (names p ticket) before after) ∙ e)

-- so it is one of those that have to be true
pub true_unsent : (items : List Item) → Meets items → (earlier later : List Item) (p ticket : ℕ) (q : Request) (reply : Reply) → items ≡ earlier ++ item.Reply p ticket (Done reply) ∷ later
    → asked_as p ticket (life p earlier) ≡ Some q → is_named p ticket (life p earlier ++ rest_of_life p later) ≡ false → is_true_unsent earlier p (Some q) reply ≡ true
true_unsent items m earlier later p ticket q reply split asked unsent =
    let none : is_named p ticket (life p earlier) ≡ false = unnamed_before p ticket (life p earlier) (rest_of_life p later) unsent in
    let kept = (kept_at items m earlier later (item.Reply p ticket (Done reply)) split).replies in
    subst (λ (o : Option Request). is_true_unsent earlier p o reply ≡ true) asked
    (subst (λ (b : Bool). b || is_true_unsent earlier p (asked_as p ticket (life p earlier)) reply ≡ true) none kept)

pub header_true : (items : List Item) (p : ℕ) (h : Header) → is_true_header items p h ≡ true → (list_all (λ r. nat_le r h.revision) (given p items) ≡ true) × (h.revision ≤ newest (seen items).store.history)
header_true items p h e =
    let low = list_all (λ r. nat_le r h.revision) (given p items) in
    let high = nat_le h.revision (newest (seen items).store.history) in
    (and_first low high e, leb-true h.revision (newest (seen items).store.history) (and_second low high e))

three : (a b c : Bool) → a && b && c ≡ true → (a ≡ true) × (b ≡ true) × (c ≡ true)
three true true true e = (refl, refl, refl)
three true true false e = absurd (cc)
three true false c e = absurd (cc)
three false b c e = absurd (cc)

read_true : (items : List Item) (p : ℕ) (ask : RangeAsk) (reply : Reply) → is_true_read items p ask reply ≡ true → (is_plain ask ≡ true) × TrueNow items p ask.range.key reply
read_true items p ask reply e =
    let parts = three (is_plain ask) (same_body reply.body (shown_now items ask.range.key)) (is_true_header items p reply.header) e in
    let header = header_true items p reply.header parts.2 in
    (parts.0, record { shows = body-equal reply.body (shown_now items ask.range.key) parts.1; not_below = header.0; not_above = header.1 })

pub reads_kept : (items : List Item) → Meets items → UnsentReadsAreTrue items
reads_kept items m earlier later p ticket ask reply split u =
    read_true earlier p ask reply (true_unsent items m earlier later p ticket (request.Range ask) reply split u.asked u.unsent)
