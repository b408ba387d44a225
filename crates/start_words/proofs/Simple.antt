-- The command is one of those whose matches and faults clap defines.
use Rattle.std.proofs.Common.{◌≡◌, refl, true}
use Rattle.clap.specs.Faults.{is_simple_and_free}
use Rattle.clap.specs.Simple.{is_simple}
use Rattle.clap.proofs.OnLiterals.{clap_on_literals}
use Rattle.start_words.specs.Start.{start_app}

pub is_simple_start : is_simple start_app ≡ true
unfolding clap_on_literals
is_simple_start = refl

pub is_free_start : is_simple_and_free start_app ≡ true
unfolding clap_on_literals
is_free_start = refl
