-- The stream is added and the watch opened, and their proxy tells it.
use Rattle.std.proofs.Common.{◌≡◌, ℕ, ◌+◌, List, length, ap, arith}
use Rattle.etcd_types.specs.declared.request.Request.TheVariants as request
use Rattle.replay_places.specs.declared.turn.Turn.TheVariants as turn
use Rattle.replay_world.proofs.SendLines.{isnt_refused, opened_line, placed_at, stream_begun_as}
use Rattle.replay_world.proofs.Turns.{gives_same, seen_so}
use Rattle.script_text.specs.declared.item.Item.TheVariants as item
use Rattle.store_model.specs.Watches.{opened}
use Rattle.world_model.specs.Places.{with_place}
use Rattle.world_model.specs.State.{OpenedStream}
use Rattle.replay_world.proofs.world.World.open_stream.Goals as goal

pub returns-clause-step : goal.returns-clause-step
returns-clause-step g c w x s =
    let stands = seen_so _ _ (with_place w c.args.proxy x) c.self.view_is s in
    let times = c.life_and_clock-life.ensures x (placed_at _ _ w c.args.proxy x c.self.view_is s) in
    let same : length w.streams ≡ length c.self.inside.streams.items = ap (λ (ss : List OpenedStream). length ss) stands.streams in
    let number : c.len.result + 1 ≡ length w.streams + 1 = omega (arith, c.len.ensures, c.self.inside.streams.ok.0, same) in
    gives_same _ _ _ _
    (stream_begun_as w c.args.proxy x c.args.own c.args.member c.args.ask (opened w.store c.args.member c.args.ask) _ _ c.new.result c.from.result
    (ap (λ (t : ℕ × ℕ). t.0) times)
    number
    c.new.ensures
    c.from.ensures)
    (opened_line _ _ _ _ w c.args.proxy x c.new.result (opened w.store c.args.member c.args.ask).0 c.open_watch.new.store (turn.Opened c.args.own (c.len.result + 1) (item.Opened c.args.proxy (c.len.result + 1) c.from.result (request.Watch c.args.ask))) c.turn.new.self c.turn.result c.self.view_is s (c.in_ok-open_watch.ensures w.store stands.store) c.in_ok-add_stream.ensures.streams c.self-2.view_is (λ v why q. isnt_refused _ v _ why q) c.turn.ensures)
