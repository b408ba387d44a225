use Rattle.std.proofs.Common.{◌≡◌, ◌++◌, [], ◌∷◌, ◌∙◌, subst}
use Rattle.std.proofs.lemmas.List.{append-nil}
use Rattle.turn_hub.specs.declared.view.View.{View}
use Rattle.turn_hub.specs.History.{entries_at}
use Rattle.turn_hub.specs.Rule.{AllBegin}
use Rattle.turn_hub.proofs.Made.{entries-front}
use Rattle.turn_hub.proofs.meet.meet_as.Goals as goal

pub returns-clause-made : goal.returns-clause-made
returns-clause-made g c =
    let v = c.args.seat.now.me.0 in
    let u = c.look.new.seat.me.0 in
    let first = c.join_seat.ensures.joined in
    let copy = c.split_seat-copy.ensures.newcomer in
    let looked = c.look.ensures.looked in
    let own : u.own ≡ v.own = (λ i. (looked.after i).own) ∙ (λ i. (first i).0.own) ∙ (λ i. v.own ++ (copy i).0.own) ∙ append-nil v.own in
    let Told : View g.row.M.Denot g.row.M-Event.Denot g.row.M-Outcome.Denot g.row.M-Fault.Denot → Type 0 = λ x. AllBegin x.told looked.log in
    let told : AllBegin (v.seen ∷ c.split_seat-copy.result.me.0.seen ∷ []) looked.log = subst Told (λ i. (first i).0) looked.told in
    (λ i. entries_at (looked.after i).seen (own i)) ∙ entries-front v.seen looked.log v.own told.0 c.requires.rests.stands.within
