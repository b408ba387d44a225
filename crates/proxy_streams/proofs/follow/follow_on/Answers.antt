-- Each message, and each end.
use Rattle.std.proofs.Common.{None, refl, sym, ◌∙◌, arith}
use Rattle.server_model.proofs.Follows.{no_wire, not_opened_at, just_opened_at, fed_more, none_came, not_fed, was_over, following_as, rest_as}
use Rattle.proxy_streams.proofs.Faults.{later_as}
use Rattle.proxy_streams.proofs.follow.follow_on.Goals as goal

pub returns-in_default-clause-following : goal.returns-in_default-clause-following
returns-in_default-clause-following g c =
    following_as c.args.most _ c.args.stream _ _ _ _ _ c.cut_at.result _ c.cut_at.ensures (no_wire c.args.most _ c.args.stream _ _ _ _ c.cut.result c.cut.ensures.cut)

pub returns-in-Err-clause-following : goal.returns-in-Err-clause-following
returns-in-Err-clause-following g c =
    later_as c.args.most _ c.args.stream _ _ _ _ _ _ _ _ c.rest_if.ensures.kept
    (not_opened_at c.args.most _ c.args.stream _ None c.in-Ok.wire _ _ _ _ c.in-Err.stop c.cut-end.result c.in-Ok.ensures.held (c.in-Err.ensures.opens c.args.most) c.cut-end.ensures.cut)

pub messages-init : goal.messages-init
messages-init g c = record {
  sound = c.in-Ok-open.ensures.sound;
  reads = c.in-Ok-open.ensures.kept;
  home = refl;
  late = λ w. w;
  allowed = λ a. a;
  fed = just_opened_at c.args.most c.args.stream _ _ c.in-Ok.wire c.in-Ok-open.framing _ c.in-Ok.ensures.held (c.in-Ok-open.ensures.opens c.args.most);
}

pub messages-preserved : goal.messages-preserved
messages-preserved g c = record {
  sound = c.in-Ok-next.ensures.sound;
  reads = let same = c.in-None-feed_from.ensures.kept in let rested = c.rest_if-in-messages.ensures.kept in omega arith;
  home = c.in-None-feed_from.ensures.stays.home ∙ c.messages.invariant.home;
  late = λ w. c.in-None-feed_from.ensures.stays.late (c.messages.invariant.late w);
  allowed = λ a. c.in-None-feed_from.ensures.stays.allowed (c.messages.invariant.allowed a);
  fed = rest_as c.args.most c.args.stream _ _ _ c.next-in-messages.new.wire _ _ _ (c.in-None-feed_from.ensures.bytes ∙ c.rest_if-in-messages.ensures.bytes)
      (fed_more c.args.most c.args.stream _ _ _ _ _ _ _ _ 0 0 c.in-Ok-next.item c.messages.invariant.fed c.in-Ok-next.ensures.nexts (sym c.is_cancel-is_last.ensures ∙ c.if-is_last.false)
      c.in-None-feed_from.ensures.feeds);
}

pub returns-in-Err-next-clause-following : goal.returns-in-Err-next-clause-following
returns-in-Err-next-clause-following g c =
    later_as c.args.most _ c.args.stream _ _ _ _ _ _ _ _ c.rest_if-in-Err-next.ensures.kept
    (none_came c.args.most _ c.args.stream _ _ None _ c.in-Ok-open.framing _ _ _ _ _ _ c.in-Err-next.stop c.cut-end-in-Err-next.result c.messages.invariant.fed c.messages.invariant.reads c.in-Err-next.ensures.nexts
    c.cut-end-in-Err-next.ensures.cut)

pub returns-in-Some-feed_from-clause-following : goal.returns-in-Some-feed_from-clause-following
returns-in-Some-feed_from-clause-following g c =
    following_as c.args.most _ c.args.stream _ _ _ _ _ c.cut_at-in-Some-feed_from.result _ c.cut_at-in-Some-feed_from.ensures
    (not_fed c.args.most _ c.args.stream _ _ _ _ _ _ 0 _ _ _ _ c.in-Ok-next.item c.in-Some-feed_from.end c.messages.invariant.fed c.in-Ok-next.ensures.nexts c.in-Some-feed_from.ensures.feeds)

pub returns-in-None-feed_from-clause-following : goal.returns-in-None-feed_from-clause-following
returns-in-None-feed_from-clause-following g c =
    following_as c.args.most _ c.args.stream _ _ _ _ _ c.cut_at-in-None-feed_from.result _ c.cut_at-in-None-feed_from.ensures
    (was_over c.args.most _ c.args.stream _ _ _ _ _ _ _ 0 0 _ _ _ _ c.in-Ok-next.item c.cut-in-None-feed_from.result c.messages.invariant.fed c.in-Ok-next.ensures.nexts
    (sym c.is_cancel-is_last.ensures ∙ c.if-is_last.true) c.in-None-feed_from.ensures.feeds c.cut-in-None-feed_from.ensures.cut)
