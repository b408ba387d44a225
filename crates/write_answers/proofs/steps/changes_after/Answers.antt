-- The write is the one whose own call this is; what doesn't wait at its key stays, and so does each read of a key that isn't reached.
use Rattle.std.proofs.Common.{map, sym, ◌∙◌, ap}
use Rattle.std.specs.Option.{option_copied}
use Rattle.known_asks.specs.Changes.{restaged, staged_by}
use Rattle.read_core.proofs.Staged.{again_stays}
use Rattle.write_answers.specs.Reach.{reaches}
use Rattle.write_answers.proofs.Unreached.{stage_then, all_wait_on, others_wait_on, at_key_stays}
use Rattle.write_answers.proofs.steps.changes_after.Goals as goal

pub waiting_changes-requires : goal.waiting_changes-requires
waiting_changes-requires c = λ a n. again_stays _ _ _ _ a n

pub waiting_changes_at-requires : goal.waiting_changes_at-requires
waiting_changes_at-requires c =
    let w = c.args.when in
    let rule = stage_then w c.args.read.now (option_copied c.sender-write.result) c.args.table.now.entries c.args.acquires.now in
    λ a n. at_key_stays c.in-At.key.now rule a (λ m. again_stays _ _ _ _ a m) n

pub returns-in-Nowhere : goal.returns-in-Nowhere
returns-in-Nowhere c =
    let w = c.args.when in
    let r = c.args.read.now in
    let es = c.args.table.now.entries in
    let acquires = c.args.acquires.now in
    let asks = c.args.asks.now in
    ap (λ cs. restaged cs asks) c.new.ensures.items
    ∙ all_wait_on w r (option_copied c.sender-write.result) es acquires asks (λ k. ap (λ x. reaches x k) (sym c.in-Nowhere.is) ∙ c.reach_of.ensures k) c.requires
    ∙ ap (λ o. map (staged_by (stage_then w r o es acquires)) asks) c.sender-write.ensures

pub returns-in_ok-waiting_changes_at-in-At : goal.returns-in_ok-waiting_changes_at-in-At
returns-in_ok-waiting_changes_at-in-At c =
    let w = c.args.when in
    let r = c.args.read.now in
    let es = c.args.table.now.entries in
    let acquires = c.args.acquires.now in
    let asks = c.args.asks.now in
    c.in_ok-waiting_changes_at-in-At.ensures
    ∙ others_wait_on w r (option_copied c.sender-write.result) es acquires asks c.in-At.key.now (λ k. ap (λ x. reaches x k) (sym c.in-At.is) ∙ c.reach_of.ensures k) c.requires
    ∙ ap (λ o. map (staged_by (stage_then w r o es acquires)) asks) c.sender-write.ensures

pub returns-in_ok-waiting_changes-in-Anywhere : goal.returns-in_ok-waiting_changes-in-Anywhere
returns-in_ok-waiting_changes-in-Anywhere c =
    let w = c.args.when in
    c.in_ok-waiting_changes-in-Anywhere.ensures ∙ ap (λ o. map (staged_by (stage_then w c.args.read.now o c.args.table.now.entries c.args.acquires.now)) c.args.asks.now) c.sender-write.ensures
