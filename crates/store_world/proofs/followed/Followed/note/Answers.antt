-- What is noted anew holds as the rest does.
use Rattle.std.proofs.Common.{◌≡◌, ◌+◌, ◌<◌, [], length, sym, subst, ap, ◌∙◌, arith}
use Rattle.std.proofs.lemmas.List.Elements.{All-set}
use Rattle.store_model.specs.History.{History}
use Rattle.store_model.specs.Events.{watch_events}
use Rattle.store_index.specs.declared.index.Index.{Index}
use Rattle.store_index.specs.Index.{HoldsKept}
use Rattle.store_world.specs.declared.followed.Looked.{Looked}
use Rattle.store_world.specs.Looked.{IsLooked}
use Rattle.store_world.proofs.LookedLemmas.{noted_so, one_row}
use Rattle.store_world.proofs.followed.Followed.note.Goals as goal

pub invariant_of-self : goal.invariant_of-self
invariant_of-self c =
    let index = c.self.inside.index in
    let looked = c.self.inside.looked.items in
    let silent : (h : History) → HoldsKept index h → watch_events h index.compacted c.args.ask.now c.args.from ≡ [] =
    subst (λ (i : Index). (h : History) → HoldsKept i h → watch_events h i.compacted c.args.ask.now c.args.from ≡ []) (sym c.self.view_is) c.requires in
    let within : c.place_of-place.result < length looked = omega (arith, c.len.ensures, c.self.inside.looked.ok.0, c.if-place-len.true) in
    let row : Looked = c.index_mut.result.now in
    let same : row.ask ≡ c.args.ask.now =
    ap (λ (l : Looked). l.ask) (one_row looked c.place_of-place.result row c.index.result.now c.index_mut.ensures.value c.index.ensures within) ∙ c.is_same.ensures c.if-is_same.true in
    let new : IsLooked index c.note_in.new.looked =
    subst (λ (l : Looked). IsLooked index l)
    (sym (c.note_in.ensures ∙ (λ i. record { ask = same i; from = c.max.ensures i; to = index.newest + 1 })))
    (noted_so index c.args.ask.now c.args.from silent) in
    All-set (IsLooked index) looked c.place_of-place.result c.note_in.new.looked new c.self.invariant
