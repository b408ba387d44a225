use Rattle.std.proofs.Common.{◌≡◌, ℕ, List, drop, None, ap, ◌∙◌}
use Rattle.watch_model.specs.Joining.{best_of}
use Rattle.watch_streams.specs.declared.rows.Row.{Row}
use Rattle.watch_streams.specs.Rows.{digest, before, found_in}
use Rattle.watch_streams.proofs.Indexing.{rest_of, found_is, best_is}
use Rattle.watch_streams.proofs.index.best_under.Goals as goal

pub returns : goal.returns
returns c =
    let range = c.args.range.now in
    let rows = c.args.rows.now in
    let ss = c.args.streams.now in
    let count : c.before-at.result ≡ before (digest range) rows = c.before-at.ensures.count c.requires.rows.rising ∙ ap (λ (k : ℕ). before k rows) c.digest-digest.ensures.value in
    c.best_in.ensures ∙ ap (λ (l : List Row). best_of range c.args.limit None (found_in c.digest-digest.result l ss)) (rest_of c.before-at.result rows)
    ∙ (λ i. best_of range c.args.limit None (found_in (c.digest-digest.ensures.value i) (drop (count i) rows) ss))
    ∙ ap (best_of range c.args.limit None) (found_is (digest range) c.requires.numbers.high rows ss c.requires.numbers.numbers c.requires.rows)
    ∙ best_is range c.args.limit None ss
