use Rattle.std.proofs.Common.{◌≡◌, ℕ, List, drop, ap, ◌∙◌}
use Rattle.watch_model.specs.Joining.{opening_from_now}
use Rattle.watch_streams.specs.declared.rows.Row.{Row}
use Rattle.watch_streams.specs.Rows.{digest, before, found_in}
use Rattle.watch_streams.proofs.Indexing.{rest_of, found_is, opening_is}
use Rattle.watch_streams.proofs.index.opening_under.Goals as goal

pub returns : goal.returns
returns c =
    let range = c.args.range.now in
    let rows = c.args.rows.now in
    let ss = c.args.streams.now in
    let count : c.before-at.result ≡ before (digest range) rows = c.before-at.ensures.count c.requires.rows.rising ∙ ap (λ (k : ℕ). before k rows) c.digest-digest.ensures.value in
    c.opening_in.ensures ∙ ap (λ (l : List Row). opening_from_now range (found_in c.digest-digest.result l ss)) (rest_of c.before-at.result rows)
    ∙ (λ i. opening_from_now range (found_in (c.digest-digest.ensures.value i) (drop (count i) rows) ss))
    ∙ ap (opening_from_now range) (found_is (digest range) c.requires.numbers.high rows ss c.requires.numbers.numbers c.requires.rows)
    ∙ opening_is range ss
