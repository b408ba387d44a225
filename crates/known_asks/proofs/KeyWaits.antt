-- Reads that wait at their key have one rank and one number, and those of one key have its number.
use Rattle.std.proofs.Common.{◌≡◌, ℕ, Bool, true, false, cond, ◌&&◌, ◌==◌, List, refl, sym, ◌∙◌, ap, arith}
use Rattle.std.proofs.lemmas.Bool.Decides.{nat_tests}
use Rattle.etcd_types.specs.Keys.{same}
use Rattle.etcd_types.proofs.KeyOrder.{same-equal}
use Rattle.read_model.specs.PlainRead.{ask_key}
use Rattle.read_model.specs.declared.asked.Asked.{Asked}
use Rattle.read_model.specs.declared.asked.Stage.{Stage}
use Rattle.read_model.specs.declared.asked.Stage.TheVariants as stage
use Rattle.ask_tables.specs.Marks.{is_alike, stage_rank, stage_number}
use Rattle.ask_tables.specs.KeyMarks.{by_key, key_number}
use Rattle.ask_tables.specs.RowMarks.{has_key}
use Rattle.ask_tables.specs.Waiting.{waits_at_key}

waits_not : (s : Stage) → (stage_rank s == 0) && (stage_number s == 0) ≡ false → waits_at_key s ≡ false
waits_not (stage.Calling s) e = refl
waits_not stage.Acquiring e = absurd (cc)
waits_not stage.Joined e = absurd (cc)
waits_not stage.Behind e = absurd (cc)
waits_not stage.Writes e = refl
waits_not (stage.Grouped s) e = refl
waits_not (stage.Replied v) e = refl

-- one of another rank or number doesn't wait so
pub other_waits : (a : Asked) → is_alike 0 0 a ≡ false → waits_at_key a.stage ≡ false
other_waits a e = waits_not a.stage e

its_own : (n : ℕ) → (n == n) ≡ true
its_own n = grind (arith, nat_tests)

abbrev key_if : Bool → ℕ → ℕ × ℕ
key_if b number = cond b (0, number) (1, 0)

-- one that isn't found by the key's number doesn't wait at the key
pub elsewhere : (k : List ℕ) (a : Asked) → has_key by_key 0 (key_number k) a ≡ false → waits_at_key a.stage && same (ask_key a) k ≡ false
elsewhere k a e = one (waits_at_key a.stage) (same (ask_key a) k) refl e
  where
    one : (b c : Bool) → same (ask_key a) k ≡ c → ((key_if b (key_number (ask_key a))).0 == 0) && ((key_if b (key_number (ask_key a))).1 == key_number k) ≡ false → b && c ≡ false
    one false c f g = refl
    one true false f g = refl
    one true true f g =
        absurd (let n : (key_number (ask_key a) == key_number k) ≡ true = ap (λ (j : List ℕ). key_number (ask_key a) == key_number j) (sym (same-equal (ask_key a) k f)) ∙ its_own (key_number (ask_key a)) in cc)
