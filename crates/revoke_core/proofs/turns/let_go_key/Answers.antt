-- A held entry of a key put with a lease is given up, another one stays.
use Rattle.std.proofs.Common.{◌≡◌, Bool, true, false, cond, ◌&&◌, refl, sym, ◌∙◌, ap}
use Rattle.etcd_types.specs.Keys.{same}
use Rattle.etcd_types.proofs.KeyOrder.{same-itself}
use Rattle.proxy_model.specs.declared.lease.Entry.{Entry}
use Rattle.proxy_model.specs.Keyed.{at}
use Rattle.proxy_model.specs.LeaseTable.{is_held, leaving}
use Rattle.wait_model.specs.Covers.{leased}
use Rattle.wait_model.specs.Phases.{let_go}
use Rattle.etcd_types.proofs.Bools.{and_both}
use Rattle.revoke_core.specs.Steps.{let_go_at}
use Rattle.revoke_calls.proofs.Keys.{changed_is, unchanged_is, held_let_go, other_let_go, none_let_go}
use Rattle.revoke_core.proofs.turns.let_go_key.Goals.{else-is_held-via-then-is_held+else-is_leased, else-is_held-via-else-is_held}
use Rattle.revoke_core.proofs.turns.let_go_key.Goals as goal

spared : (b l : Bool) (x : Entry) → b ≡ false → cond (b && l) (let_go x) x ≡ x
spared true l x t = absurd (cc)
spared false l x t = refl

unless : (b l : Bool) → l ≡ false → b && l ≡ false
unless true l t = t
unless false l t = refl

pub returns-then-is_leased : goal.returns-then-is_leased
returns-then-is_leased c =
    let es = c.args.table.now.entries in
    let k = c.args.key.now in
    let ask = c.args.request.now in
    ap (λ t. t.entries) c.leave.ensures ∙ changed_is es k leaving (let_go_at ask k) c.len-count.ensures.in_order (λ j x t. spared (same j k) (leased ask j) x t) (held_let_go (same k k && leased ask k) (at es k) (and_both (same k k) (leased ask k) (same-itself k) (sym c.is_leased.ensures ∙ c.if-is_leased.true)) (ap is_held (sym c.find.ensures) ∙ sym c.is_held.ensures ∙ c.if-is_held.true))

pub returns-else-is_held : goal.returns-else-is_held
returns-else-is_held c =
    let es = c.args.table.now.entries in
    let k = c.args.key.now in
    let ask = c.args.request.now in
    unchanged_is es k (let_go_at ask k) c.len-count.ensures.in_order (λ j x t. spared (same j k) (leased ask j) x t) (elim c.else-is_held.branch [
      | else-is_held-via-then-is_held+else-is_leased w ↦ none_let_go (same k k && leased ask k) (at es k) (unless (same k k) (leased ask k) (sym w.is_leased.ensures ∙ w.if-is_leased.false))
      | else-is_held-via-else-is_held w ↦ other_let_go (same k k && leased ask k) (at es k) (ap is_held (sym c.find.ensures) ∙ sym c.is_held.ensures ∙ w.if-is_held.false)
    ])
