-- Each is below 256.
use Rattle.std.proofs.Common.{◌≡◌, ℕ, List, true, subst}
use Rattle.proxy_model.specs.Prefixes.{are_bytes}
use Rattle.shown_bytes.proofs.ShownBytes.{bytes_seen}
use Rattle.shown_bytes.proofs.show_key.Goals as goal

pub returns : goal.returns
returns c = subst (λ (bs : List ℕ). are_bytes bs ≡ true) c.as_slice.ensures (bytes_seen c.as_slice.result.now c.show_all.ensures)
