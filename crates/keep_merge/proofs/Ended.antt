-- The two parts of a group's end are the whole; what each rule for a group leaves.
use Rattle.std.proofs.Common.{◌≡◌, ℕ, Bool, true, false, ◌&&◌, cond, List, [], ◌∷◌, map, Some, None, refl, ap}
use Rattle.read_model.specs.declared.asked.Asked.{Asked}
use Rattle.read_model.specs.declared.asked.Stage.{Stage}
use Rattle.read_model.specs.declared.asked.Stage.TheVariants as stage
use Rattle.read_model.specs.declared.asked.Verdict.{Verdict}
use Rattle.read_model.specs.PlainRead.{in_stage}
use Rattle.wait_model.specs.declared.sending.Sending.TheVariants as sending
use Rattle.core_model.specs.Groups.{keeps, is_due_stage, is_out_stage, waits_next, group_sent, group_ended, groups_ended}
use Rattle.etcd_types.proofs.Bools.{and_false}
use Rattle.known_asks.specs.OneByOne.{Settles}
use Rattle.known_asks.specs.Changes.{stage_or, staged_by}
use Rattle.keep_merge.specs.Ends.{group_over, over_stage, group_next}

over_then_next : (step call lease : ℕ) (v : Verdict) (a : Asked) → group_next step lease (group_over call v a) ≡ group_ended step call lease v a
over_then_next step call lease v a = one (is_out_stage call a.stage)
  where
    one : (b : Bool) → group_next step lease (cond b (in_stage (stage.Replied v) a) a) ≡ cond b (in_stage (stage.Replied v) a) (group_next step lease a)
    one true =
        ap (λ b. cond b (in_stage (stage.Grouped (Some (sending.Due step))) (in_stage (stage.Replied v) a)) (in_stage (stage.Replied v) a)) (and_false (keeps lease a.request))
    one false = refl

pub all_ended : (step call lease : ℕ) (v : Verdict) (xs : List Asked) → map (group_next step lease) (map (group_over call v) xs) ≡ groups_ended step call lease v xs
all_ended step call lease v [] = refl
all_ended step call lease v (a ∷ xs) = λ i. over_then_next step call lease v a i ∷ all_ended step call lease v xs i

staged : (b : Bool) (s : Stage) (a : Asked) → stage_or (cond b (Some s) None) a ≡ cond b (in_stage s a) a
staged true s a = refl
staged false s a = refl

pub all_over : (call : ℕ) (v : Verdict) (xs : List Asked) → map (staged_by (over_stage call v)) xs ≡ map (group_over call v) xs
all_over call v [] = refl
all_over call v (a ∷ xs) = λ i. staged (is_out_stage call a.stage) (stage.Replied v) a i ∷ all_over call v xs i

-- A rule for a group alone leaves the others.

pub over_stays : (call : ℕ) (v : Verdict) (a : Asked) → is_out_stage call a.stage ≡ false → group_over call v a ≡ a
over_stays call v a e = ap (λ b. cond b (in_stage (stage.Replied v) a) a) e

pub over_none : (call : ℕ) (v : Verdict) (a : Asked) → is_out_stage call a.stage ≡ false → over_stage call v a ≡ None
over_none call v a e = ap (λ b. cond b (Some (stage.Replied v)) None) e

-- It waits no more after that; one that is due is so no more when its call is sent.

pub next-Settles : (step lease : ℕ) → Settles (λ a. keeps lease a.request && waits_next a.stage) (group_next step lease)
next-Settles step lease = record {
  stays = λ a e. ap (λ b. cond b (in_stage (stage.Grouped (Some (sending.Due step))) a) a) e;
  done = λ a. one a (keeps lease a.request && waits_next a.stage) refl;
}
  where
    one : (a : Asked) (b : Bool) → keeps lease a.request && waits_next a.stage ≡ b → keeps lease (cond b (in_stage (stage.Grouped (Some (sending.Due step))) a) a).request && waits_next (cond b (in_stage (stage.Grouped (Some (sending.Due step))) a) a).stage ≡ false
    one a true e = and_false (keeps lease a.request)
    one a false e = e

pub sent-Settles : (call lease : ℕ) → Settles (λ a. keeps lease a.request && is_due_stage a.stage) (group_sent call lease)
sent-Settles call lease = record {
  stays = λ a e. ap (λ b. cond b (in_stage (stage.Grouped (Some (sending.Out call))) a) a) e;
  done = λ a. one a (keeps lease a.request && is_due_stage a.stage) refl;
}
  where
    one : (a : Asked) (b : Bool) → keeps lease a.request && is_due_stage a.stage ≡ b → keeps lease (cond b (in_stage (stage.Grouped (Some (sending.Out call))) a) a).request && is_due_stage (cond b (in_stage (stage.Grouped (Some (sending.Out call))) a) a).stage ≡ false
    one a true e = and_false (keeps lease a.request)
    one a false e = e
