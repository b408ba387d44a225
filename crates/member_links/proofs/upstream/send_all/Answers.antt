use Rattle.std.proofs.Common.{ℕ, arith, length-take, length-drop}
use Rattle.outside.proofs.Writes.{wrote_more}
use Rattle.member_links.proofs.upstream.send_all.Goals as goal

pub loop-preserved : goal.loop-preserved
loop-preserved g c =
    let told = g.W.Write.contents in
    record {
      within = omega (arith, c.loop.invariant.within, c.in-Ok.ensures.bound, length-take {A = ℕ}, length-drop {A = ℕ});
      taken = wrote_more (told c.args.writer.now) (told c.loop.writer) (told c.write_once.new.writer) c.loop.done c.in-Ok.count c.args.bytes.now c.loop.invariant.taken c.in-Ok.ensures.bytes;
    }
