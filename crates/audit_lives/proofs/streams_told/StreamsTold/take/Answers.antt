-- Each part is that behind one item more.
use Rattle.std.proofs.Common.{ℕ, ◌+◌, Bool, min, refl, Option, ◌∙◌, ap, cond, subst}
use Rattle.first_places.specs.Firsts.{Tells}
use Rattle.first_places.specs.Places.{is_number, value_at}
use Rattle.audit_lives.specs.Messages.{Sets, next_key}
use Rattle.audit_lives.proofs.Telling.{streams_more}
use Rattle.audit_lives.proofs.streams_told.StreamsTold.take.Goals as goal

pub returns : goal.returns
returns c = λ items e t. streams_more c.args.self.now _ c.args.item.now items c.args.place c.requires e t
    (record {
      none = refl;
      opened = subst (λ (o : Option (ℕ × ℕ)). Tells o (value_at c.args.self.now.none) c.args.place c.args.self.now.opened c.tell.new.self) c.opened.ensures c.in_ok-tell.ensures;
      ended = subst (λ (o : Option (ℕ × ℕ)). Tells o (value_at c.args.self.now.none) c.args.place c.args.self.now.ended c.tell-2.new.self) c.ended.ensures c.in_ok-tell-2.ensures;
      cancelled = subst (λ (o : Option (ℕ × ℕ)). Tells o (value_at c.args.self.now.none) c.args.place c.args.self.now.cancelled c.tell-3.new.self) c.cancelled.ensures c.in_ok-tell-3.ensures;
      compacted = subst (λ (o : Option (ℕ × ℕ)). Tells o (value_at c.args.self.now.none) c.args.place c.args.self.now.compacted c.tell-4.new.self) c.compacted.ensures c.in_ok-tell-4.ensures;
      count = c.counted-self.ensures ∙ ap (λ (b : Bool). cond b (min (c.args.self.now.count + 1) 0xffff_ffff_ffff_ffff) c.args.self.now.count) c.is_opening.ensures;
      pushed = λ k. c.in_ok-count.ensures k ∙ ap (λ (o : Option ℕ). cond (is_number o k) (min (value_at c.args.self.now.pushed k + 1) 0xffff_ffff_ffff_ffff) (value_at c.args.self.now.pushed k)) c.pushed-2.ensures;
      delivered = λ k. c.in_ok-count-2.ensures k ∙ ap (λ (o : Option ℕ). cond (is_number o k) (min (value_at c.args.self.now.delivered k + 1) 0xffff_ffff_ffff_ffff) (value_at c.args.self.now.delivered k)) c.delivered.ensures;
      messages = subst (λ (o : Option ℕ). Sets (next_key o (value_at c.args.self.now.pushed)) c.args.place c.args.self.now.messages c.set_message.new.messages) c.pushed.ensures c.in_ok-set_message.ensures;
    }) (c.is_doubled-self.ensures items t)
