-- Of every script: the requests that wait at each proxy, and the replies.
use Rattle.std.proofs.Common.{◌≡◌, ℕ, ◌-◌, ◌==◌, ◌<◌, ◌^◌, Bool, true, false, cond, List, [], ◌∷◌, ◌++◌, length, slice_get, None, refl, sym, ◌∙◌, subst}
use Rattle.std.specs.List.{list_all}
use Rattle.etcd_types.specs.declared.answer.Answer.TheVariants.{Refused}
use Rattle.script_text.specs.declared.item.Item.{Item}
use Rattle.script_text.specs.declared.item.Item.TheVariants as item
use Rattle.script_text.specs.declared.line.Line.{Line}
use Rattle.world_model.specs.Places.{nth}
use Rattle.world_model.specs.State.{World}
use Rattle.world_model.specs.Transcript.{done, transcript}
use Rattle.held_laws.proofs.Worlds.{no_place}
use Rattle.executed_laws.proofs.Worlds as executed
use Rattle.prefix_laws.proofs.Places.{none_kept}
use Rattle.prefix_laws.proofs.Prefixes.{IsKept}
use Rattle.prefix_laws.proofs.Told.{IsTold, every_item}
use Rattle.renewed_laws.specs.Renewals.{AnswersShowBytes}
use Rattle.renewed_laws.proofs.Worlds.{WorldOk}
use Rattle.session_laws.specs.Told.{sets_clock_below}
use Rattle.session_laws.proofs.Whole.{told_kept}
use Rattle.truth_laws.proofs.Heads.{heads_kept}
use Rattle.cause_laws.specs.Laws.{EachScriptsTimeoutsAreDue, EachScriptsOtherRepliesAreInTime, EachScriptsRequestsEnd, EachScriptsRepliesHaveCauses}
use Rattle.cause_laws.proofs.Gains.{line_gains}
use Rattle.cause_laws.proofs.AskKinds.{kinds_kept}
use Rattle.cause_laws.proofs.Streams.{is_opened_by}
use Rattle.cause_laws.proofs.Writing.{writing_kept}
use Rattle.cause_laws.proofs.Known.{FirstItem, first_on, AllDue}
use Rattle.cause_laws.proofs.Answers.{Tells}
use Rattle.cause_laws.proofs.Turned.{Rests}
use Rattle.cause_laws.proofs.Lines.{line_leaves}

-- ---- the script

named_ok : (namespace : List ℕ) (items : List Item) (w : World) → WorldOk namespace items w → WorldOk w.namespace items w
named_ok namespace items w ok = subst (λ (ns : List ℕ). WorldOk ns items w) (sym ok.namespace_is) ok

no_stream : (number q : ℕ) → false ≡ is_opened_by q (nth [] number)
no_stream number q = by (number == 0)
  where
    by : (b : Bool) → false ≡ is_opened_by q (cond b None (slice_get [] (number - 1)))
    by true = refl
    by false = refl

pub due_kept : (script : List Line) → list_all sets_clock_below script ≡ true → length script < 2 ^ 60 → IsKept script AllDue
due_kept script fits few = record {
  begins = λ members namespace leasing. record {
    told = (told_kept script fits few).begins members namespace leasing;
    none = λ p x e. no_place x e;
    kept = (executed.all_kept script).begins members namespace leasing;
    heads = (heads_kept script).begins members namespace leasing;
    writing = λ p x e. no_place x e;
    kinds = λ p x e. no_place x e;
    first = record { namespace = namespace; leasing = leasing; rest = []; is = refl };
    members = λ p x e. no_place x e;
    streams = λ number q. no_stream number q;
    waits = λ p x e. no_place x e;
  };
  goes_on = λ namespace items w l gained n e ok h.
      let k = line_leaves items w (done w l).world gained (named_ok namespace items w ok) h (line_gains w l gained e) in
      record {
        told = (told_kept script fits few).goes_on namespace items w l gained n e ok h.told;
        none = (none_kept script).goes_on namespace items w l gained n e ok h.none;
        kept = (executed.all_kept script).goes_on namespace items w l gained n e ok h.kept;
        heads = (heads_kept script).goes_on namespace items w l gained n e ok h.heads;
        writing = (writing_kept script).goes_on namespace items w l gained n e ok h.writing;
        kinds = (kinds_kept script).goes_on namespace items w l gained n e ok h.kinds;
        first = subst (FirstItem (items ++ gained)) (sym k.members) (first_on items gained w.members h.first);
        members = λ p x at. k.counts p x at ∙ sym k.members;
        streams = k.streams;
        waits = k.waits;
      };
}

lines_tell : (script : List Line) → IsTold script AllDue Tells
lines_tell script = record {
  first = λ members namespace leasing. tt;
  line = λ namespace items w l gained n e ok h. (line_leaves items w (done w l).world gained (named_ok namespace items w ok) h (line_gains w l gained e)).tells;
}

lines_rest : (script : List Line) → IsTold script AllDue Rests
lines_rest script = record {
  first = λ members namespace leasing p ticket steps a. absurd (let f : false ≡ true = steps in cc);
  line = λ namespace items w l gained n e ok h. (line_leaves items w (done w l).world gained (named_ok namespace items w ok) h (line_gains w l gained e)).rests;
}

pub requests_end : EachScriptsRequestsEnd
requests_end lines fits few shows earlier later i p ticket e steps a = every_item AllDue Rests lines (due_kept lines fits few) (lines_rest lines) shows earlier later i e p ticket steps a

of_each : (lines : List Line) → list_all sets_clock_below lines ≡ true → length lines < 2 ^ 60 → AnswersShowBytes (transcript lines) → (earlier later : List Item) (i : Item) → transcript lines ≡ earlier ++ i ∷ later → Tells earlier i
of_each lines fits few shows earlier later i e = every_item AllDue Tells lines (due_kept lines fits few) (lines_tell lines) shows earlier later i e

pub timeouts_due : EachScriptsTimeoutsAreDue
timeouts_due lines fits few shows earlier later p ticket r e code = (of_each lines fits few shows earlier later (item.Reply p ticket (Refused r)) e).0 r refl code

pub others_in_time : EachScriptsOtherRepliesAreInTime
others_in_time lines fits few shows earlier later p ticket q a e asked other = (of_each lines fits few shows earlier later (item.Reply p ticket a) e).2 q asked other

pub replies_caused : EachScriptsRepliesHaveCauses
replies_caused lines fits few shows earlier later p ticket r e = (of_each lines fits few shows earlier later (item.Reply p ticket (Refused r)) e).1 r refl
