-- The entries of a write that is over: key after key is one change at each key.
use Rattle.std.proofs.Common.{◌≡◌, ℕ, Bool, true, false, cond, ◌&&◌, List, Option, None, Some, refl, sym, ap}
use Rattle.proxy_model.specs.declared.lease.Entry.{Entry}
use Rattle.proxy_model.specs.declared.lease.Phase.{Phase}
use Rattle.proxy_model.specs.declared.lease.Phase.TheVariants.{Held, Writing, Leaving}
use Rattle.proxy_model.specs.Keyed.{Keyed}
use Rattle.std.specs.Option.{option_map}
use Rattle.proxy_model.specs.LeaseTable.{is_writing, is_writing_phase, phase_after_write, phase_left}
use Rattle.wait_model.specs.declared.write.Write.{Write}
use Rattle.wait_model.specs.Covers.{covered, covers}
use Rattle.wait_model.specs.Edits.{each}
use Rattle.wait_model.specs.Endings.{given_back}
use Rattle.wait_model.specs.GuardedAnswers.{change_owned}
use Rattle.wait_model.specs.Phases.{if_written}
use Rattle.wait_model.specs.Stages.{is_owner, is_due}
use Rattle.revoke_calls.specs.declared.entries.Fate.{Fate}
use Rattle.revoke_calls.specs.declared.entries.Fate.TheVariants as fate
use Rattle.revoke_calls.specs.Fates.{after, fate_of, settled_entries}
use Rattle.revoke_calls.proofs.Keys.{each_same, each_none, Idle}

-- the entry is written no more
pub calm_back : (p : Phase) → is_writing_phase (phase_after_write p) ≡ false
calm_back Held = refl
calm_back (Writing true) = refl
calm_back (Writing false) = refl
calm_back (Leaving sent) = refl

calm_left : (p : Phase) → is_writing_phase (phase_left p) ≡ false
calm_left Held = refl
calm_left (Writing revoked) = refl
calm_left (Leaving sent) = refl

pub calm : (f : Fate) (e : Entry) → is_writing_phase (after f e).phase ≡ false
calm fate.Back e = calm_back e.phase
calm fate.Left e = calm_left e.phase

-- a change that leaves no entry being written does nothing a second time
pub written_idle : (g : Entry → Entry) → ((e : Entry) → is_writing_phase (g e).phase ≡ false) → Idle (if_written true g)
written_idle g c e = inner (is_writing_phase e.phase) refl
  where
    once : (b : Bool) (x : Entry) → b ≡ false → cond b (g x) x ≡ x
    once true x h = absurd (cc)
    once false x h = refl

    inner : (b : Bool) → is_writing_phase e.phase ≡ b → if_written true g (cond b (g e) e) ≡ cond b (g e) e
    inner true h = once (is_writing_phase (g e).phase) (g e) (c e)
    inner false h = once (is_writing_phase e.phase) e h

pub settled_idle : (f : Fate) → Idle (if_written true (after f))
settled_idle f = written_idle (after f) (calm f)

abbrev pub if_here : Bool → (Entry → Entry) → Entry → Entry
if_here b g e = cond b (if_written true g e) e

pub written_here : (g : Entry → Entry) (b : Bool) (o : Option Entry) → b ≡ true → is_writing o ≡ true → option_map g o ≡ option_map (if_here b g) o
written_here g true None t h = refl
written_here g true (Some x) t h = ap Some (of (is_writing_phase x.phase) h)
  where
    of : (c : Bool) → c ≡ true → g x ≡ cond c (g x) x
    of true h = refl
    of false h = absurd (cc)
written_here g false o t h = absurd (cc)

pub other_here : (g : Entry → Entry) (b : Bool) (o : Option Entry) → is_writing o ≡ false → o ≡ option_map (if_here b g) o
other_here g b None h = refl
other_here g true (Some x) h = ap Some (of (is_writing_phase x.phase) h)
  where
    of : (c : Bool) → c ≡ false → x ≡ cond c (g x) x
    of true h = absurd (cc)
    of false h = refl
other_here g false (Some x) h = refl

-- over the ranges of an owner, and nothing where it is none
pub owner_settled : (g : List ℕ → Entry → Entry) (w : Write) (es : Keyed Entry) → is_owner w.stage ≡ true → each (λ k e. cond (covered w.ranges k) (if_written true (g k) e) e) es ≡ change_owned w g es
owner_settled g w es o = each_same _ _ (λ k e. of (is_owner w.stage) (covers w k) (g k) e o) es
  where
    of : (a c : Bool) (h : Entry → Entry) (e : Entry) → a ≡ true → cond c (if_written true h e) e ≡ if_written (a && c) h e
    of true true h e t = refl
    of true false h e t = refl
    of false c h e t = absurd (cc)

pub none_settled : (g : List ℕ → Entry → Entry) (w : Write) (es : Keyed Entry) → is_owner w.stage ≡ false → es ≡ change_owned w g es
none_settled g w es o = sym (each_none _ (λ k e. of (is_owner w.stage) (covers w k) (g k) e o) es)
  where
    of : (a c : Bool) (h : Entry → Entry) (e : Entry) → a ≡ false → if_written (a && c) h e ≡ e
    of true c h e t = absurd (cc)
    of false c h e t = refl

pub given_back-fate : (w : Write) (es : Keyed Entry) → given_back w es ≡ settled_entries (fate_of w.stage) w es
given_back-fate w es = of (is_due w.stage)
  where
    of : (b : Bool) → cond b (settled_entries fate.Back w es) (settled_entries fate.Left w es) ≡ settled_entries (cond b fate.Back fate.Left) w es
    of true = refl
    of false = refl
