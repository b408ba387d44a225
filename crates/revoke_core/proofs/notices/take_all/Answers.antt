-- One notice more.
use Rattle.std.proofs.Common.{◌≡◌, [], ◌∷◌, sym, ◌∙◌, ap, arith}
use Rattle.std.proofs.lemmas.List.{length_push}
use Rattle.revoke_core.specs.Told.{Told, told_one, told_all}
use Rattle.revoke_core.proofs.NoticeParts.{told_append}
use Rattle.revoke_core.proofs.notices.take_all.Goals as goal

pub loop-notice-preserved : goal.loop-notice-preserved
loop-notice-preserved c =
    let s = c.args.session in
    let n = c.in-Some.notice in
    let first : Told = record { entries = c.args.table.now.entries; spoiled = c.args.spoiled.now; writes = c.args.writes.now.items } in
    let before : record { entries = c.loop-notice.table.entries; spoiled = c.loop-notice.spoiled; writes = c.loop-notice.writes.items } ≡ told_all s c.loop-notice.yielded first =
    λ i. record { entries = c.loop-notice.invariant.entries i; spoiled = c.loop-notice.invariant.spoiled i; writes = c.loop-notice.invariant.writes i } in
    let whole = ap (told_one s n) before ∙ sym (told_append s c.loop-notice.yielded (n ∷ []) first) in
    record {
      entries = c.take_one.ensures.entries ∙ ap (λ (t : Told). t.entries) whole;
      spoiled = c.take_one.ensures.spoiled ∙ ap (λ (t : Told). t.spoiled) whole;
      writes = c.take_one.ensures.writes ∙ ap (λ (t : Told). t.writes) whole;
      room = omega (arith, length_push c.loop-notice.yielded n, c.take_one.ensures.room, c.loop-notice.invariant.room);
    }
