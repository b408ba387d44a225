-- Each part is that behind one item more.
use Rattle.std.proofs.Common.{ℕ, Option, subst}
use Rattle.first_places.specs.Firsts.{Tells}
use Rattle.first_places.specs.Places.{value_at}
use Rattle.audit_lives.proofs.Telling.{lives_more}
use Rattle.audit_lives.proofs.lives_told.LivesTold.take.Goals as goal

pub returns-clause-lives : goal.returns-clause-lives
returns-clause-lives c = λ items e t. lives_more c.args.self.now _ c.args.item.now items c.args.place e t
    (record {
      starts = c.in_ok-begin.ensures;
      clocks = c.in_ok-set_clock.ensures;
      asked = subst (λ (o : Option (ℕ × ℕ)). Tells o (value_at c.args.self.now.starts) c.args.place c.args.self.now.asked c.tell.new.self) c.asked.ensures c.in_ok-tell.ensures;
      given = subst (λ (o : Option (ℕ × ℕ)). Tells o (value_at c.args.self.now.starts) c.args.place c.args.self.now.given c.tell-2.new.self) c.given.ensures c.in_ok-tell-2.ensures;
      replied = subst (λ (o : Option (ℕ × ℕ)). Tells o (value_at c.args.self.now.starts) c.args.place c.args.self.now.replied c.tell-3.new.self) c.replied.ensures c.in_ok-tell-3.ensures;
      named = subst (λ (o : Option (ℕ × ℕ)). Tells o (value_at c.args.self.now.starts) c.args.place c.args.self.now.named c.tell-4.new.self) c.named.ensures c.in_ok-tell-4.ensures;
      sent = subst (λ (o : Option (ℕ × ℕ)). Tells o (value_at c.args.self.now.starts) c.args.place c.args.self.now.sent c.tell-5.new.self) c.sent_own.ensures c.in_ok-tell-5.ensures;
      opened = subst (λ (o : Option (ℕ × ℕ)). Tells o (value_at c.args.self.now.starts) c.args.place c.args.self.now.opened c.tell-6.new.self) c.opened_own.ensures c.in_ok-tell-6.ensures;
    })

pub returns-clause-starts : goal.returns-clause-starts
returns-clause-starts c = c.in_ok-begin.ensures
