-- Each part is that behind one item more.
use Rattle.std.proofs.Common.{ℕ, ◌+◌, Bool, min, refl, Option, ◌∙◌, ap, cond, subst}
use Rattle.first_places.specs.Firsts.{Tells}
use Rattle.first_places.specs.Places.{value_at}
use Rattle.audit_lives.proofs.Telling.{calls_more}
use Rattle.audit_lives.proofs.calls_told.CallsTold.take.Goals as goal

pub returns : goal.returns
returns c = λ items e t. calls_more c.args.self.now _ c.args.item.now items c.args.place c.requires e t
    (record {
      none = refl;
      sent = subst (λ (o : Option (ℕ × ℕ)). Tells o (value_at c.args.self.now.none) c.args.place c.args.self.now.sent c.tell.new.self) c.sent.ensures c.in_ok-tell.ensures;
      executed = subst (λ (o : Option (ℕ × ℕ)). Tells o (value_at c.args.self.now.none) c.args.place c.args.self.now.executed c.tell-2.new.self) c.executed.ensures c.in_ok-tell-2.ensures;
      settled = subst (λ (o : Option (ℕ × ℕ)). Tells o (value_at c.args.self.now.none) c.args.place c.args.self.now.settled c.tell-3.new.self) c.settled.ensures c.in_ok-tell-3.ensures;
      count = c.counted-self.ensures ∙ ap (λ (b : Bool). cond b (min (c.args.self.now.count + 1) 0xffff_ffff_ffff_ffff) c.args.self.now.count) c.is_sending.ensures;
      order = c.in_ok-put_call.ensures;
    }) (c.is_doubled-self.ensures items t)
