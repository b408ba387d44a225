-- The call is added, and its proxy tells that it sent it.
use Rattle.std.proofs.Common.{◌≡◌, ℕ, ◌+◌, List, length, ap, arith}
use Rattle.replay_world.proofs.SendLines.{call_sent_turn, placed_at}
use Rattle.replay_world.proofs.Turns.{gives_same, seen_so}
use Rattle.world_model.specs.declared.sent_call.SentCall.{SentCall}
use Rattle.world_model.specs.Places.{with_place}
use Rattle.replay_world.proofs.world.World.send_call.Goals as goal

pub returns-in-Ok-clause-step : goal.returns-in-Ok-clause-step
returns-in-Ok-clause-step g c w x s =
    let stands = seen_so _ _ (with_place w c.args.proxy x) c.self.view_is s in
    let times = c.life_and_clock-life.ensures x (placed_at _ _ w c.args.proxy x c.self.view_is s) in
    let same : length w.calls ≡ length c.self.inside.calls.items = ap (λ (cs : List SentCall). length cs) stands.calls in
    let number : c.len.result + 1 ≡ length w.calls + 1 = omega (arith, c.len.ensures, c.self.inside.calls.ok.0, same) in
    gives_same _ _ _ _
    (call_sent_turn w c.args.proxy x c.args.own c.args.member c.args.ticket c.args.request _ _ _ c.in-Ok.told
    (ap (λ (t : ℕ × ℕ). t.0) times)
    (ap (λ (t : ℕ × ℕ). t.1) times)
    number
    c.in-Ok.ensures)
    (c.note_sent.ensures.step (with_place w c.args.proxy x) s)
