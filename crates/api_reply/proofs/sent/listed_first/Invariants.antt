-- The text is that of the events so far and what is left.
use Rattle.std.proofs.Common.{◌≡◌, false, length}
use Rattle.std.specs.List.{AllByRecursion}
use Rattle.api_reply.specs.SentTexts.{EventSent, is_none, listed_then}
use Rattle.api_reply.proofs.sent.listed_first.Given as goal

abbrev pub invariant-loop-next : goal.invariant-loop-next
invariant-loop-next l = record {
  text : l.text ≡ listed_then l.events l.rest;
  sent : AllByRecursion EventSent l.events;
  some : is_none l.events ≡ false;
}

abbrev pub decreases-loop-next : goal.decreases-loop-next
decreases-loop-next l = length l.rest
