-- Each row keeps its number and its ticket.
use Rattle.std.proofs.Common.{ℕ, nat_le, List, map, ap, ◌∙◌}
use Rattle.read_model.specs.declared.asked.Asked.{Asked}
use Rattle.ask_tables.specs.Marks.{is_narrow}
use Rattle.known_asks.proofs.Alls.{all-each}
use Rattle.known_asks.proofs.Tickets.{fits-each_changed, asks-each_changed}
use Rattle.known_asks.proofs.asks.Asks.change_each.Goals as goal

pub invariant_of-self : goal.invariant_of-self
invariant_of-self g c =
    record {
      marked = c.change_rows.ensures.marked;
      fits = rw c.change_rows.ensures.rows (fits-each_changed _ _ _ (g.R.Rule.changed c.args.rule.now) (g.met.R.Rule.keeps c.args.rule.now) c.self.invariant.fits);
      narrow = rw c.change_rows.ensures.rows (all-each is_narrow (g.R.Rule.changed c.args.rule.now) c.self.inside.rows.items (λ a e. ap (λ (n : ℕ). nat_le n 0xffff_ffff_ffff_ffff) (g.met.R.Rule.keeps c.args.rule.now a) ∙ e) c.self.invariant.narrow);
    }

pub returns : goal.returns
returns g c =
    rw c.change_rows.ensures.rows
    (asks-each_changed (g.R.Rule.changed c.args.rule.now) _ ∙ ap (λ (s : List Asked). map (g.R.Rule.changed c.args.rule.now) s) c.self.view_is)
