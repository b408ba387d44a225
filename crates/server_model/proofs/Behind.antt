-- Steps that are told from some place on stand behind those before it.
use Rattle.std.proofs.Common.{◌≡◌, ℕ, List, [], ◌++◌, Option, Some, ap, ◌∙◌}
use Rattle.core_model.specs.declared.event.CoreEvent.{CoreEvent}
use Rattle.http_wire.specs.declared.message.Head.{Head}
use Rattle.http_talk.specs.declared.form.RefusalForm.{RefusalForm}
use Rattle.http_talk.specs.declared.ready.Ready.{Ready}
use Rattle.server_model.specs.declared.ends.SessionEnd.{SessionEnd}
use Rattle.server_model.specs.Steps.{Step, Adds}
use Rattle.server_model.specs.Dialog.{Dialog}
use Rattle.server_model.specs.Numbers.{LastNumbered}
use Rattle.server_model.specs.Complete.{Completes}

-- `b` was told from `m` on, which was nothing; `c` is that behind `a`
module _ (a m b c : List Step) (none : m ≡ []) (parts : c ≡ a ++ b) where
  adds_behind : (steps : List Step) → Adds (Some m) (Some b) steps → Adds (Some a) (Some c) steps
  adds_behind steps p = parts ∙ ap (λ (l : List Step). a ++ l) (p ∙ ap (λ (l : List Step). l ++ steps) none)

  pub dialog_behind : (form : RefusalForm) (gives : Head → List ℕ → Option Ready → Type 0) (rests : CoreEvent → Type 0) (worn : Type 0) (left written written' : Option (List ℕ)) (end : SessionEnd) → Dialog form gives rests worn left (Some m) (Some b) written written' end
      → Dialog form gives rests worn left (Some a) (Some c) written written' end
  dialog_behind form gives rests worn left written written' end d = record {
    whole = d.whole;
    last = d.last;
    read = d.read;
    answered = d.answered;
    suits = d.suits;
    did = record { steps = d.did.steps; adds = adds_behind d.did.steps d.did.adds; mine_are = d.did.mine_are; others = d.did.others };
    said = d.said;
  }

  pub numbered_behind : (end : SessionEnd) (limit from : ℕ) (given given' : Option (List ℕ)) → LastNumbered end limit from given given' (Some m) (Some b)
      → LastNumbered end limit from given given' (Some a) (Some c)
  numbered_behind end limit from given given' n = record {
    pairs = n.pairs;
    to = n.to;
    spare = n.spare;
    asked = record { steps = n.asked.steps; adds = adds_behind n.asked.steps n.asked.adds; are = n.asked.are };
    rises = n.rises;
    below = n.below;
    drawn = n.drawn;
    none_spare = n.none_spare;
    none_left = n.none_left;
  }

  pub completes_behind : (left : Option (List ℕ)) (worn : Type 0) (limit from reads reads' writes writes' : ℕ) (end : SessionEnd)
      → Completes left (Some m) (Some b) worn limit from reads reads' writes writes' end → Completes left (Some a) (Some c) worn limit from reads reads' writes writes' end
  completes_behind left worn limit from reads reads' writes writes' end k h = k (record {
    whole = h.whole;
    no_read_failed = h.no_read_failed;
    no_write_failed = h.no_write_failed;
    not_worn = h.not_worn;
    none_refused = λ steps p. h.none_refused steps (adds_behind steps p);
    tickets_left = λ steps p. h.tickets_left steps (adds_behind steps p);
  })
