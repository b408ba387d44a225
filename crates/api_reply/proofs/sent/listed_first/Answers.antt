-- Each round takes a comma and an event.
use Rattle.api_reply.proofs.SentTexts.{listed_next, all_next, some_next, shorter}
use Rattle.api_reply.proofs.sent.listed_first.Goals as goal

pub loop-next-smaller : goal.loop-next-smaller
loop-next-smaller c = shorter c.loop-next.rest.now c.in-Some.next.now c.in_ok-event.event c.in_ok-event.behind.now c.in-Some.ensures c.in_ok-event.ensures.text

pub loop-next-preserved : goal.loop-next-preserved
loop-next-preserved c =
    let held = c.loop-next.invariant in
    let event = c.in_ok-event.event in
    let added = c.in_ok-pushed-2.ensures in
    record {
      text = listed_next c.args.text.now c.loop-next.events _ c.loop-next.rest.now c.in-Some.next.now event c.in_ok-event.behind.now held.text held.some c.in-Some.ensures c.in_ok-event.ensures.text added;
      sent = all_next c.loop-next.events _ event held.sent c.in_ok-event.ensures.sent added;
      some = some_next c.loop-next.events _ event added;
    }
