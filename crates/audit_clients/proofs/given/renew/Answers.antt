-- Each kind of item by what it gives.
use Rattle.audit_clients.proofs.Greatest.{answered, delivered, others_give, restarted, started}
use Rattle.audit_clients.proofs.given.renew.Goals as goal

pub returns-in_ok-forget-in-Started : goal.returns-in_ok-forget-in-Started
returns-in_ok-forget-in-Started c = λ items t.
    started c.args.newest.now c.forget.new.newest items c.args.item.now c.in-Started.proxy c.in-Started.is c.in_ok-forget-in-Started.ensures

pub returns-in_ok-forget-in-Restarted : goal.returns-in_ok-forget-in-Restarted
returns-in_ok-forget-in-Restarted c = λ items t.
    restarted c.args.newest.now c.forget-in-Restarted.new.newest items c.args.item.now c.in-Restarted.proxy c.in-Restarted.is c.in_ok-forget-in-Restarted.ensures

pub returns-in_ok-raise_sender-in-Answered : goal.returns-in_ok-raise_sender-in-Answered
returns-in_ok-raise_sender-in-Answered c = λ items t.
    answered c.args.newest.now c.raise_sender.new.newest items c.args.item.now c.in-Answered.call c.answer_revision-revision.result c.in-Answered.is
    (c.answer_revision-revision.ensures items t) (c.in_ok-raise_sender-in-Answered.ensures items t)

pub returns-in_ok-raise_opener-in-Delivered : goal.returns-in_ok-raise_opener-in-Delivered
returns-in_ok-raise_opener-in-Delivered c = λ items t.
    delivered c.args.newest.now c.raise_opener.new.newest items c.args.item.now c.in-Delivered.stream c.message_revision-revision.result c.in-Delivered.is
    (c.message_revision-revision.ensures items t) (c.in_ok-raise_opener-in-Delivered.ensures items t)

pub returns-in_default : goal.returns-in_default
returns-in_default c =
    let o = c.in_default in
    λ items t. others_give c.args.newest.now items c.args.item.now o.not-Started o.not-Restarted o.not-Answered o.not-Delivered
