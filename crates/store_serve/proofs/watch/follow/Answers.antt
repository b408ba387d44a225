-- Each end of the pushes, and each push behind which more is to come.
use Rattle.std.proofs.Common.{refl, ◌∙◌, arith}
use Rattle.shop_dialog.specs.declared.progress.Pushed.TheVariants as pushed
use Rattle.shop_dialog.proofs.Pushing.{taken_as, nothing_yet, nothing_taken, part_taken, last_taken, stopped_then, client_went}
use Rattle.shop_dialog.proofs.Replying.{keeps_then}
use Rattle.http_talk.proofs.Said.{keeps_itself}
use Rattle.store_serve.proofs.watch.follow.Goals as goal

pub pushes-init : goal.pushes-init
pushes-init g c = record {
  home = refl;
  opened = c.requires.opened;
  allowed = λ a. a;
  reads = omega arith;
  writes = omega arith;
  ahead = keeps_itself _;
  partly = nothing_yet c.args.number _ _;
}

pub returns-in-Err-check-clause-follows : goal.returns-in-Err-check-clause-follows
returns-in-Err-check-clause-follows g c =
    rw c.wait.ensures
    (client_went _ c.args.number c.pushes.begun _ _ _ _
    (nothing_taken c.args.number c.pushes.begun _ _ _ _ _ _ c.pushes.invariant.partly
    (taken_as c.args.number c.pushes.begun _ _ _ _ _ pushed.Nothing c.in-Ok-Nothing.field-0-is c.in-Ok-Nothing.ensures.pushes)))

pub returns-in-Ok-Last-clause-follows : goal.returns-in-Ok-Last-clause-follows
returns-in-Ok-Last-clause-follows g c =
    last_taken c.args.number c.pushes.begun _ _ _ _ _ _ c.pushes.invariant.partly
    (taken_as c.args.number c.pushes.begun _ _ _ _ _ pushed.Last c.in-Ok-Last.field-0-is c.in-Ok-Last.ensures.pushes)

pub returns-in-Err-clause-follows : goal.returns-in-Err-clause-follows
returns-in-Err-clause-follows g c =
    stopped_then _ c.args.number c.pushes.begun _ _ _ _ _ _ c.in-Err.why c.pushes.invariant.partly c.in-Err.ensures.pushes

pub pushes-preserved-in-Ok : goal.pushes-preserved-in-Ok
pushes-preserved-in-Ok g c =
    rw c.wait.ensures
    (record {
      home = c.in-Ok-Nothing.ensures.home ∙ c.pushes.invariant.home;
      opened = c.in-Ok-Nothing.ensures.opened;
      allowed = λ a. c.in-Ok-Nothing.ensures.allowed;
      reads = omega arith;
      writes = omega arith;
      ahead = keeps_then _ _ _ c.pushes.invariant.ahead c.check.ensures.bytes;
      partly = nothing_taken c.args.number c.pushes.begun _ _ _ _ _ _ c.pushes.invariant.partly
          (taken_as c.args.number c.pushes.begun _ _ _ _ _ pushed.Nothing c.in-Ok-Nothing.field-0-is c.in-Ok-Nothing.ensures.pushes);
    })

pub pushes-preserved : goal.pushes-preserved
pushes-preserved g c = record {
  home = c.in-Ok-Part.ensures.home ∙ c.pushes.invariant.home;
  opened = c.in-Ok-Part.ensures.opened;
  allowed = λ a. c.in-Ok-Part.ensures.allowed;
  reads = omega arith;
  writes = omega arith;
  ahead = c.pushes.invariant.ahead;
  partly = part_taken c.args.number c.pushes.begun _ _ _ _ _ _ c.pushes.invariant.partly
      (taken_as c.args.number c.pushes.begun _ _ _ _ _ pushed.Part c.in-Ok-Part.field-0-is c.in-Ok-Part.ensures.pushes);
}
