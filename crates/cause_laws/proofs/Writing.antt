-- Only requests that put or delete keys stand at the stage of writes.
use Rattle.std.proofs.Common.{◌≡◌, inl, inr, ℕ, Bool, true, false, List, refl, sym, ◌∙◌, ap, subst}
use Rattle.read_model.specs.declared.asked.Asked.{Asked}
use Rattle.read_model.specs.declared.asked.Stage.{Stage}
use Rattle.read_model.specs.declared.asked.Stage.TheVariants as stage
use Rattle.read_model.specs.declared.asked.Verdict.{Verdict}
use Rattle.read_model.specs.TakingOff.{is_writes}
use Rattle.core_model.specs.declared.event.CoreEvent.{CoreEvent}
use Rattle.core_model.specs.Fits.{CoreOk}
use Rattle.core_model.specs.Kinds.{writes_keys}
use Rattle.core_model.specs.State.{Core}
use Rattle.core_model.specs.Step.{is_worn, stepped}
use Rattle.core_model.specs.Stepped.{Stepped}
use Rattle.core_laws.proofs.Steps.Outcomes.{worn_does_nothing}
use Rattle.script_text.specs.declared.line.Line.{Line}
use Rattle.keep_laws.proofs.Rows.{All, all_kept}
use Rattle.keep_laws.proofs.Runs.{found}
use Rattle.prefix_laws.proofs.Places.{OfPlaces, Lasts, places_kept}
use Rattle.prefix_laws.proofs.Prefixes.{IsKept}
use Rattle.reply_laws.proofs.Before.{is_quiet}
use Rattle.cause_laws.proofs.Steps.{plain_unwritten}
use Rattle.cause_laws.proofs.After.{After, kept, goes, asked, tells, fails, loses, stales, all_after}

abbrev pub IsWrite : Asked → Type 0
IsWrite a = is_writes a.stage ≡ true → writes_keys a.request ≡ true

abbrev pub WritesAreWrites : Core → Type 0
WritesAreWrites c = All IsWrite c.asks

pub writes_loud : (s : Stage) → is_writes s ≡ true → is_quiet s ≡ false
writes_loud stage.Writes h = refl
writes_loud (stage.Calling s) h = absurd (cc)
writes_loud stage.Acquiring h = absurd (cc)
writes_loud stage.Joined h = absurd (cc)
writes_loud stage.Behind h = absurd (cc)
writes_loud (stage.Grouped s) h = absurd (cc)
writes_loud (stage.Replied v) h = absurd (cc)

-- one that is replied is at no such stage
replied_write : (y : Asked) (v : Verdict) → y.stage ≡ stage.Replied v → IsWrite y
replied_write y v e h = absurd (let f : false ≡ true = sym (ap is_writes e) ∙ h in cc)

after_write : (c : Core) (e : CoreEvent) (now : ℕ) → WritesAreWrites c → (y : Asked) → After c e now y → IsWrite y
after_write c e now w y (kept k) h =
    let same = k.still (writes_loud y.stage h) in
    ap writes_keys k.alike.request ∙ (found IsWrite y.ticket c.asks k.before k.there w).0 (ap is_writes same ∙ h)
after_write c e now w y (goes x k o l plain) h = plain_unwritten y.stage plain h
after_write c e now w y (asked ticket word q f l (inl plain)) h = plain_unwritten y.stage plain h
after_write c e now w y (asked ticket word q f l (inr t)) h = ap writes_keys l.request ∙ t.1 h
after_write c e now w y (tells o x a r k f g l t) h = replied_write y _ t h
after_write c e now w y (fails o x k i r l t) h = replied_write y _ t h
after_write c e now w y (loses o x k i r l (inl t)) h = plain_unwritten y.stage t.0 h
after_write c e now w y (loses o x k i r l (inr t)) h = replied_write y _ t.0 h
after_write c e now w y (stales o x kind a reply k f g j b l (inl t)) h = plain_unwritten y.stage t.0 h
after_write c e now w y (stales o x kind a reply k f g j b l (inr t)) h = replied_write y _ t.0 h

step_writes : (c : Core) (e : CoreEvent) (now : ℕ) → CoreOk c → WritesAreWrites c → WritesAreWrites (stepped c e now).core
step_writes c e now ok w = by (is_worn c) refl
  where
    by : (b : Bool) → is_worn c ≡ b → WritesAreWrites (stepped c e now).core
    by true u = subst (λ (s : Stepped). WritesAreWrites s.core) (sym (worn_does_nothing c e now u)) w
    by false u = all_kept (After c e now) IsWrite (after_write c e now w) (stepped c e now).core.asks (all_after c e now ok u)

writes_last : Lasts WritesAreWrites
writes_last = record { start = λ s. tt; step = λ c e now b ok h. step_writes c e now ok h }

pub writing_kept : (script : List Line) → IsKept script (OfPlaces WritesAreWrites)
writing_kept script = places_kept WritesAreWrites writes_last script
