-- The key's mark goes when its acquire is sent; where no acquire stands none is sent.
use Rattle.std.proofs.Common.{◌≡◌, List, ℕ, Option, Some, sym, ap, subst, refl, ◌∙◌}
use Rattle.std.specs.Option.{option_map}
use Rattle.proxy_model.specs.Keyed.{Keyed, at, with_at}
use Rattle.read_model.specs.declared.acquire.Acquire.{Acquire}
use Rattle.read_model.specs.Acquires.{sent_out}
use Rattle.acquire_rows.specs.Marks.{AreMarked, unmarked}
use Rattle.acquire_rows.proofs.Marking.{absent_stays, taken_off}
use Rattle.acquire_rows.proofs.acquires.Acquires.send_out.Goals as goal

pub returns-in-None : goal.returns-in-None
returns-in-None c =
    let rows = c.self.inside.rows in
    let k = c.args.key.now in
    let stays : rows ≡ with_at rows k (option_map (sent_out c.args.call) (at rows k)) = sym (ap (λ (o : Option Acquire). with_at rows k (option_map (sent_out c.args.call) o)) (sym c.in-None.ensures) ∙ absent_stays k rows (sym c.in-None.ensures)) in
    subst (λ (r : Keyed Acquire). r ≡ with_at r k (option_map (sent_out c.args.call) (at r k))) c.self.view_is stays

pub invariant_of-self : goal.invariant_of-self
invariant_of-self c =
    let dues = c.self.inside.dues in
    let rows = c.self.inside.rows in
    let k = c.args.key.now in
    let sent = sent_out c.args.call c.in-Some.acquire.now in
    let marks : c.unmark.new.dues ≡ unmarked k (at rows k) dues = c.unmark.ensures ∙ ap (λ (o : Option Acquire). unmarked k o dues) c.find-2.ensures in
    let out : c.replace.new.self ≡ with_at rows k (Some sent) = c.replace.ensures ∙ ap (λ (o : Option Acquire). with_at rows k (option_map (λ old. sent) o)) (sym c.in-Some.ensures) in
    subst (λ (m : Keyed (List ℕ)). AreMarked m c.replace.new.self) (sym marks)
    (subst (λ (r : Keyed Acquire). AreMarked (unmarked k (at rows k) dues) r) (sym out) (taken_off dues rows k (Some sent) refl c.self.invariant))
