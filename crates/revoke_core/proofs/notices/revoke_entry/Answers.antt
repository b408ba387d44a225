-- An entry of that create revision is given up; one that isn't known, under the live session, becomes one that leaves.
use Rattle.std.proofs.Common.{sym, ◌∙◌, ap}
use Rattle.proxy_model.specs.Keyed.{at, with_at}
use Rattle.wait_model.specs.Notices.{revoked_turn}
use Rattle.wait_model.specs.Phases.{is_of}
use Rattle.revoke_calls.specs.Messages.{is_unknown}
use Rattle.revoke_calls.proofs.TurnedKeys.{stays_at}
use Rattle.revoke_core.proofs.NoticeParts.{revoked_of, revoked_other}
use Rattle.revoke_core.proofs.notices.revoke_entry.Goals as goal

pub returns-then-is_of-clause-entries : goal.returns-then-is_of-clause-entries
returns-then-is_of-clause-entries c =
    let es = c.args.table.now.entries in
    let k = c.args.key in
    ap (λ t. t.entries) c.give_up.ensures ∙ ap (λ o. with_at es k o) (revoked_of c.args.session c.args.create c.args.lease (at es k) (ap (is_of c.args.create) (sym c.find.ensures) ∙ sym c.is_of.ensures ∙ c.if-is_of.true))

pub returns-else-is_unknown-clause-entries : goal.returns-else-is_unknown-clause-entries
returns-else-is_unknown-clause-entries c =
    let es = c.args.table.now.entries in
    let k = c.args.key in
    let other = ap (is_of c.args.create) (sym c.find.ensures) ∙ sym c.is_of.ensures ∙ c.if-is_of.false in
    let known = ap (is_unknown c.args.session c.args.lease) (sym c.find-else-is_of.ensures) ∙ sym c.is_unknown.ensures ∙ c.if-is_unknown.false in
    stays_at es k (revoked_turn c.args.session c.args.create c.args.lease (at es k)) c.len-count.ensures.in_order (revoked_other c.args.session c.args.create c.args.lease (at es k) other known)
