-- They have the key's number.
use Rattle.std.proofs.Common.{◌≡◌, ℕ, List, false, ap, subst, ◌∙◌}
use Rattle.ask_tables.specs.KeyMarks.{by_key, key_number}
use Rattle.ask_tables.specs.RowMarks.{has_key}
use Rattle.known_asks.proofs.KeyWaits.{elsewhere}
use Rattle.known_asks.proofs.waiting.change_waiting_at.Goals as goal

pub change_alike-requires : goal.change_alike-requires
change_alike-requires g c = λ a e.
    let number : c.key_number.result ≡ key_number c.args.key.now = c.key_number.ensures ∙ ap (λ (k : List ℕ). key_number k) c.as_slice.ensures in
    c.requires a (elsewhere c.args.key.now a (subst (λ (n : ℕ). has_key by_key 0 n a ≡ false) number e))
