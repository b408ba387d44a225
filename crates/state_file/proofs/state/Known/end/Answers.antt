-- What is left is what the closure keeps.
use Rattle.std.proofs.Common.{rules, ◌≡◌, ℕ, List, ◌==◌, not, subst}
use Rattle.std.proofs.lemmas.Fn.{filter_same}
use Rattle.state_file.specs.Numbers.{IsKnown}
use Rattle.state_file.proofs.state.Known.end.Goals as goal

-- src/state.rt:204:5
pub returns : goal.returns
returns c =
    let kept = filter_same _ (λ n. not (n == c.args.number)) _ (λ x b f called. (search rules, search rules)) _ _ c.retain.ensures.filtered in
    record { stays = subst (λ (numbers : List ℕ). IsKnown numbers c.args.self.now.begun.items c.args.self.now.is_closed c.save.new.self) kept c.save.ensures.stays }
