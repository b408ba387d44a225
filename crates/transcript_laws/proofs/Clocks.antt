-- Lines that were read set every clock below the last number of 64 bits.
use Rattle.std.proofs.Common.{◌≡◌, ℕ, ◌+◌, nat_le, nat_lt, true, List, [], ◌∷◌, refl, arith}
use Rattle.std.proofs.lemmas.Bool.Decides.{nat_tests}
use Rattle.std.specs.List.{list_all}
use Rattle.etcd_types.proofs.Bools.{and_second, and_both}
use Rattle.text_model.specs.Words.{max_number}
use Rattle.script_text.specs.declared.line.Line.{Line}
use Rattle.script_text.specs.declared.line.Line.TheVariants as line
use Rattle.script_text.specs.Lines.{is_line}
use Rattle.session_laws.specs.Told.{last_reading, sets_clock_below}
use Rattle.text_laws.specs.Items.Texts.{AreRead}
use Rattle.text_laws.proofs.Items.Parts.{parts_of}

below : (n : ℕ) → nat_le n max_number ≡ true → nat_lt n last_reading ≡ true
below n e = grind (arith, nat_tests)

set_below : (n : ℕ) (l : Line) → is_line n l ≡ true → sets_clock_below l ≡ true
set_below n (line.Clock p millis) e = below millis (and_second (nat_le 0 millis) (nat_le millis max_number) (parts_of n (line.Clock p millis) e).1)
set_below n (line.World members namespace leasing) e = refl
set_below n (line.Start p) e = refl
set_below n (line.Ask p t q) e = refl
set_below n (line.Post p t path body) e = refl
set_below n (line.Tick p) e = refl
set_below n (line.Send p) e = refl
set_below n (line.Exec call) e = refl
set_below n (line.Answer call) e = refl
set_below n (line.Lose call) e = refl
set_below n (line.Push stream) e = refl
set_below n (line.Deliver stream) e = refl
set_below n (line.Cut stream) e = refl
set_below n (line.Take p t) e = refl
set_below n (line.Leave p t) e = refl
set_below n (line.Expire lease) e = refl
set_below n (line.Apply member revision) e = refl
set_below n (line.Progress stream) e = refl

pub clocks_below : (n : ℕ) (lines : List Line) → AreRead n lines → list_all sets_clock_below lines ≡ true
clocks_below n [] h = refl
clocks_below n (l ∷ lines) h = and_both (sets_clock_below l) (list_all sets_clock_below lines) (set_below n l h.0) (clocks_below (n + 1) lines h.1)
