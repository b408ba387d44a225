-- Every script: with leasing on its unsent reads are true, and with leasing off there is none.
use Rattle.std.proofs.Common.{◌≡◌, inl, inr, ℕ, ◌<◌, ◌^◌, true, false, List, ◌∷◌, ◌++◌, length, Some, refl, sym, ◌∙◌}
use Rattle.std.proofs.lemmas.List.Folds.{list_any-append}
use Rattle.etcd_types.proofs.Bools.{true_or_false, or_first}
use Rattle.etcd_types.specs.Keys.{is_empty}
use Rattle.etcd_types.specs.declared.answer.Answer.TheVariants.{Done}
use Rattle.etcd_types.specs.declared.answer.Reply.{Reply}
use Rattle.etcd_types.specs.declared.request.Request.{Request}
use Rattle.etcd_types.specs.declared.request.Request.TheVariants as request
use Rattle.core_model.specs.Fits.{is_keepalive}
use Rattle.script_text.specs.declared.item.Item.{Item}
use Rattle.script_text.specs.declared.item.Item.TheVariants as item
use Rattle.script_text.specs.declared.line.Line.{Line}
use Rattle.world_model.specs.Lives.{names, life, rest_of_life, asked_as, is_named}
use Rattle.world_model.specs.Transcript.{transcript}
use Rattle.renewed_laws.specs.Renewals.{AnswersShowBytes}
use Rattle.plain_laws.specs.Laws.{leasing_of}
use Rattle.plain_laws.proofs.Telling.{leasing_off}
use Rattle.truth_laws.specs.Laws.{EachScriptsUnsentReadsAreTrue, EachScriptsUnsentSnapshotsAreTrue}
use Rattle.truth_laws.proofs.Replies.{ReadsTrue}
use Rattle.truth_laws.proofs.Seeing.{each_world_is_seen}
use Rattle.truth_laws.proofs.Truths.{each_true}

-- no call names the ticket up to the reply
unsent_so_far : (p ticket : ℕ) (earlier later : List Item) → is_named p ticket (life p earlier ++ rest_of_life p later) ≡ false → is_named p ticket (life p earlier) ≡ false
unsent_so_far p ticket earlier later n =
    or_first (is_named p ticket (life p earlier)) (is_named p ticket (rest_of_life p later)) (sym (list_any-append (names p ticket) (life p earlier) (rest_of_life p later)) ∙ n)

all_true : (lines : List Line) → length lines < 2 ^ 60 → AnswersShowBytes (transcript lines) → (earlier later : List Item) (p ticket : ℕ) (q : Request) (reply : Reply) → transcript lines ≡ earlier ++ item.Reply p ticket (Done reply) ∷ later
    → asked_as p ticket (life p earlier) ≡ Some q → is_keepalive q ≡ false → is_named p ticket (life p earlier ++ rest_of_life p later) ≡ false → ReadsTrue earlier p ticket reply
all_true lines few shows earlier later p ticket q reply e asked other unsent = elim (true_or_false (is_empty (leasing_of (transcript lines)))) [
  | inl off ↦ absurd (let no_way : true ≡ false = sym (leasing_off lines shows off earlier later p ticket q reply e asked other) ∙ unsent_so_far p ticket earlier later unsent in cc)
  | inr on ↦ each_true each_world_is_seen lines few shows earlier later p ticket reply e on (unsent_so_far p ticket earlier later unsent)
]

pub unsent_reads : EachScriptsUnsentReadsAreTrue
unsent_reads lines few shows earlier later p ticket ask reply e u =
    (all_true lines few shows earlier later p ticket (request.Range ask) reply e u.asked refl u.unsent).reads ask u.asked

pub unsent_snapshots : EachScriptsUnsentSnapshotsAreTrue
unsent_snapshots lines few shows earlier later p ticket t reply e asked reads unsent =
    (all_true lines few shows earlier later p ticket (request.Txn t) reply e asked refl unsent).snapshots t asked reads
