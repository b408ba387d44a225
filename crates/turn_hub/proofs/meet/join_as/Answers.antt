use Rattle.std.proofs.Common.{◌≡◌, ℕ, ◌≤◌, ◌++◌, List, [], ◌∷◌, sym, refl, ◌∙◌, ap, subst, arith}
use Rattle.turn_hub.specs.declared.history.Entry.{Entry}
use Rattle.turn_hub.specs.declared.view.View.{View}
use Rattle.turn_hub.specs.History.{Begins, times}
use Rattle.turn_hub.specs.Views.{longer}
use Rattle.turn_hub.specs.Rule.{AllBegin}
use Rattle.turn_hub.proofs.Made.{joins-made, joins-stand, stands-at}
use Rattle.turn_hub.proofs.meet.join_as.Goals as goal

pub returns-clause-rests : goal.returns-clause-rests
returns-clause-rests g c =
    let first = c.join_seat.ensures.joined in
    let last = c.recall.ensures.me in
    let v = c.args.seat.now.me.0 in
    let w = c.args.other.me.0 in
    let u = c.recall.new.seat.me.0 in
    let base = c.args.board.now.key.base in
    let one = c.requires.rests in
    let two = c.requires.other_rests in
    let once : (k : ℕ) → times k (v.own ++ w.own) ≤ 1 = λ k. let all = c.recall.ensures.told.once k in let same = ap (λ (l : List ℕ). times k l) (λ i. (first i).0.own) in omega arith in
    let both = joins-stand v.seen w.seen v.own w.own base once (stands-at v.seen v.seen v.own v.own base v.base refl refl (sym one.counts) one.stands) (stands-at w.seen w.seen w.own w.own base w.base refl refl (sym two.counts) two.stands) in
    record {
      carried = (λ i. (last i).1) ∙ (λ i. (first i).1) ∙ one.carried;
      away = (λ i. (last i).0.turn) ∙ (λ i. (first i).0.turn) ∙ one.away;
      opens = c.recall.ensures.sits.opens;
      counts = c.recall.ensures.sits.counts;
      stands = stands-at u.seen (longer v.seen w.seen) u.own (v.own ++ w.own) u.base base ((λ i. (last i).0.seen) ∙ (λ i. (first i).0.seen)) ((λ i. (last i).0.own) ∙ (λ i. (first i).0.own)) c.recall.ensures.sits.counts both;
    }

pub returns-clause-made : goal.returns-clause-made
returns-clause-made g c =
    let first = c.join_seat.ensures.joined in
    let last = c.recall.ensures.me in
    let v = c.args.seat.now.me.0 in
    let w = c.args.other.me.0 in
    let u = c.recall.new.seat.me.0 in
    let Told : View g.row.M.Denot g.row.M-Event.Denot g.row.M-Outcome.Denot g.row.M-Fault.Denot → Type 0 = λ x. AllBegin x.told x.seen in
    let told : AllBegin (v.seen ∷ w.seen ∷ []) (longer v.seen w.seen) = subst Told (λ i. (first i).0) c.recall.ensures.told.told in
    let seen : u.seen ≡ longer v.seen w.seen = (λ i. (last i).0.seen) ∙ (λ i. (first i).0.seen) in
    let One : List (Entry g.row.M-Event.Denot g.row.M-Outcome.Denot g.row.M-Fault.Denot) → Type 0 = λ l. Begins v.seen l in
    let Two : List (Entry g.row.M-Event.Denot g.row.M-Outcome.Denot g.row.M-Fault.Denot) → Type 0 = λ l. Begins w.seen l in
    joins-made v.seen w.seen u.seen v.own w.own u.own ((λ i. (last i).0.own) ∙ (λ i. (first i).0.own)) (subst One (sym seen) told.0) (subst Two (sym seen) told.1.0)
    c.requires.rests.stands.within c.requires.other_rests.stands.within
