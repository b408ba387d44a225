use Rattle.std.proofs.Common.{◌≡◌, ℕ, ◌-◌, List, map, length, take, drop, ap, sym, ◌∙◌}
use Rattle.std.proofs.Math.Seq.{take-length}
use Rattle.std.proofs.lemmas.List.{length-drop}
use Rattle.watch_queue.specs.declared.watching.Watching.{Watching}
use Rattle.watch_queue.specs.Watching.{shown}
use Rattle.watch_merge.specs.Members.{members_of, first_from}
use Rattle.watch_merge.proofs.Membership.{behind_gap}
use Rattle.watch_merge.proofs.members.member_from.Goals as goal

pub returns : goal.returns
returns c =
    let n = c.args.number in
    let t = c.args.from in
    let ws = c.args.watches.now in
    let k = c.gap-at.result in
    let here : List Watching → _ = λ (l : List Watching). first_from t (members_of n (map shown l)) in
    let rest : take (length ws - k) (drop k ws) ≡ drop k ws = ap (λ (j : ℕ). take j (drop k ws)) (sym (length-drop k ws)) ∙ take-length (drop k ws) in
    c.first_member.ensures ∙ ap here rest ∙ ap (λ (j : ℕ). here (drop j ws)) c.gap-at.ensures.gap ∙ behind_gap n t ws
