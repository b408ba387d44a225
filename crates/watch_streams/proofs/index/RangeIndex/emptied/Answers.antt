use Rattle.std.proofs.Common.{◌≡◌, ℕ, true, false, cond, List, Some, refl, ap, sym, subst, ◌∙◌}
use Rattle.watch_model.specs.State.{Stream}
use Rattle.watch_model.specs.Lookups.{stream_at, is_due, with_stream, without_stream}
use Rattle.watch_model.specs.Splitting.{closed, emptied_as}
use Rattle.watch_streams.specs.Rows.{Backed}
use Rattle.watch_streams.proofs.Indexing.{backed_changed}
use Rattle.watch_streams.proofs.index.RangeIndex.emptied.Goals as goal

pub returns-then-is_due : goal.returns-then-is_due
returns-then-is_due c = λ step h.
    let n = c.args.number in
    let ss = c.args.streams.now in
    let s = c.index-streams-at.result in
    let found : stream_at n ss ≡ Some s = c.in-Some.ensures.found.is s ∙ ap (λ (t : Stream). Some t) (sym c.index-streams-at.is) in
    let due : is_due s.phase ≡ true = ap (λ (t : Stream). is_due t.phase) c.index-streams-at.is ∙ sym c.is_due.ensures ∙ c.if-is_due.true in
    subst (λ (us : List Stream). Backed c.dropped.new.self us) (sym (ap (emptied_as n step ss) found ∙ ap (λ b. cond b (without_stream n ss) (with_stream n (closed step) ss)) due)) (c.dropped.ensures ss h)

pub returns-else-is_due : goal.returns-else-is_due
returns-else-is_due c = λ step h.
    let n = c.args.number in
    let ss = c.args.streams.now in
    let s = c.index-streams-at.result in
    let found : stream_at n ss ≡ Some s = c.in-Some.ensures.found.is s ∙ ap (λ (t : Stream). Some t) (sym c.index-streams-at.is) in
    let due : is_due s.phase ≡ false = ap (λ (t : Stream). is_due t.phase) c.index-streams-at.is ∙ sym c.is_due.ensures ∙ c.if-is_due.false in
    subst (λ (us : List Stream). Backed c.args.self.now us) (sym (ap (emptied_as n step ss) found ∙ ap (λ b. cond b (without_stream n ss) (with_stream n (closed step) ss)) due))
    (backed_changed c.args.self.now n (closed step) (λ t. refl) ss h)
