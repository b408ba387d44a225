-- A script whose lines can all be taken is never refused.
use Rattle.std.proofs.Common.{◌≡◌, ◌≢◌, ℕ, Bool, true, false, cond, List, [], ◌++◌, length, Result, Ok, Err, IfOk, inl, inr, refl, sym, ◌∙◌, ap, subst, append-nil, add-zero, arith}
use Rattle.std.specs.Prelude.{Option, None, Some}
use Rattle.std.specs.Io.KnownBytes.{Consumes, IsAtEnd}
use Rattle.etcd_types.specs.Keys.{is_empty}
use Rattle.script_text.specs.declared.line.Line.{Line}
use Rattle.script_text.specs.Lines.{line_at}
use Rattle.world_model.specs.Transcript.{Taken, next}
use Rattle.world_model.specs.declared.fault.LineRefusal.{LineRefusal}
use Rattle.replay_model.specs.Endings.{is_open}
use Rattle.replay_model.specs.Progress.{Progress, progress, finished, on_line, after_reading, after_step, passes_limit, size_of, next_number, HasPassed}
use Rattle.replay_model.specs.Script.{begun_line}
use Rattle.replay_model.specs.declared.ending.Ending.{Ending}
use Rattle.replay_model.specs.declared.ending.Ending.TheVariants as ending
use Rattle.replay_model.proofs.Growing.{is_open-true, progress_stays, finished_stays, passed_more, finished_passed}
use Rattle.replay_model.proofs.Progresses.{on_open, finished-begun}
use Rattle.replay_input.specs.Replays.{Replays, Refuses}
use Rattle.replay_input.specs.declared.stop.Stop.{Stop}
use Rattle.replay_input.specs.declared.stop.Stop.TheVariants as stop
use Rattle.etcd_proxy.specs.Run.{IsWholeScript, status_of}

-- what is left behind the bytes that were read
rest_of : (left left' : Option (List ℕ)) (read bytes : List ℕ) → left ≡ Some bytes → Consumes left left' read
    → (rest : List ℕ) × (left' ≡ Some rest) × (bytes ≡ read ++ rest)
rest_of left None read bytes e c = absurd (subst (λ (l : Option (List ℕ)). Consumes l None read) e c)
rest_of left (Some rest) read bytes e c = (rest, refl, subst (λ (l : Option (List ℕ)). Consumes l (Some rest) read) e c)

-- where no line of more bytes is refused, none of these is
front_open : (read rest : List ℕ) → (progress (read ++ rest)).ending ≡ ending.Open → (progress read).ending ≡ ending.Open
front_open read rest h = by (is_open (progress read).ending) refl
  where
    by : (b : Bool) → is_open (progress read).ending ≡ b → (progress read).ending ≡ ending.Open
    by true e = is_open-true (progress read).ending e
    by false e = ap (λ (p : Progress). p.ending) (sym (progress_stays read rest e)) ∙ h

whole_open : (bytes : List ℕ) → (finished bytes).ending ≡ ending.Open → (progress bytes).ending ≡ ending.Open
whole_open bytes h = by (is_open (progress bytes).ending) refl
  where
    by : (b : Bool) → is_open (progress bytes).ending ≡ b → (progress bytes).ending ≡ ending.Open
    by true e = is_open-true (progress bytes).ending e
    by false e = ap (λ (p : Progress). p.ending) (sym (finished_stays bytes e)) ∙ h

-- a line within the limits passes none
step_not_past : (p : Progress) (size : ℕ) (line : Line) (t : Taken) → (after_step p size line t).ending ≡ ending.PastLimit → ⊥
step_not_past p size line (Ok gained) e = cc
step_not_past p size line (Err why) e = cc

reading_not_past : (p : Progress) (size : ℕ) (r : Result Line ℕ) → (after_reading p size r).ending ≡ ending.PastLimit → ⊥
reading_not_past p size (Ok line) e = step_not_past p size line (next p.world line) e
reading_not_past p size (Err place) e = cc

abbrev line_by : Bool → Progress → List ℕ → Progress
line_by limit p line =
    cond limit (record p { ending = ending.PastLimit }) (after_reading p (size_of line false) (line_at (next_number p) line))

begun_past : (limit : Bool) (p : Progress) (line : List ℕ) → passes_limit p (length line) (size_of line false) ≡ limit
    → (line_by limit p line).ending ≡ ending.PastLimit → passes_limit p (length line) (length line) ≡ true
begun_past true p line e h = ap (passes_limit p (length line)) (omega (arith, add-zero)) ∙ e
begun_past false p line e h = absurd (reading_not_past p (size_of line false) (line_at (next_number p) line) h)

-- the end of a script is past a limit only where a line of it is
past_by : (bytes : List ℕ) → (finished bytes).ending ≡ ending.PastLimit → HasPassed bytes
past_by bytes h = by (is_empty (begun_line bytes)) refl (is_open (progress bytes).ending) refl
  where
    by : (none : Bool) → is_empty (begun_line bytes) ≡ none → (opened : Bool) → is_open (progress bytes).ending ≡ opened → HasPassed bytes
    by none n false o = inl (ap (λ (p : Progress). p.ending) (sym (finished_stays bytes o)) ∙ h)
    by true n true o =
        inl (ap (λ (b : Bool). (cond b (progress bytes) (on_line (progress bytes) (begun_line bytes) false)).ending) (sym n) ∙ h)
    by false n true o =
        let opened = is_open-true (progress bytes).ending o in
        inr (record {
          taken = opened;
          begun = n;
          past = begun_past (passes_limit (progress bytes) (length (begun_line bytes)) (size_of (begun_line bytes) false)) (progress bytes) (begun_line bytes) refl
              (ap (λ (p : Progress). p.ending) (sym (finished-begun bytes n ∙ on_open (progress bytes) (begun_line bytes) false opened)) ∙ h);
        })

abbrev ends_open : List ℕ → Type 0
ends_open bytes = (finished bytes).ending ≡ ending.Open

-- no line of it is refused for its words or its step
none_refused : (left left' written written' : Option (List ℕ)) (number : ℕ) (why : LineRefusal) → IsWholeScript left
    → Refuses left left' written written' (ending.Refused number why) → ⊥
none_refused left left' written written' number why s r =
    let read = r.before ++ r.piece in
    let rest = rest_of left left' read s.bytes s.told r.consumed in
    let taken : ends_open (read ++ rest.0) = subst ends_open rest.2 s.taken in
    elim r.whole [
      | inl refused ↦
          let opened = front_open read rest.0 (whole_open (read ++ rest.0) taken) in
          let both : ◌≡◌ {A = Ending} ending.Open (ending.Refused number why) = sym opened ∙ refused in
          cc
      | inr at_end ↦
          let none : rest.0 ≡ [] = subst IsAtEnd rest.1 at_end in
          let opened : ends_open read = subst ends_open (ap (λ (bs : List ℕ). read ++ bs) none ∙ append-nil read) taken in
          let both : ◌≡◌ {A = Ending} ending.Open (ending.Refused number why) = sym opened ∙ r.ended in
          cc
    ]

-- and none passes a limit
none_past : (left left' written written' : Option (List ℕ)) → IsWholeScript left → Refuses left left' written written' ending.PastLimit → ⊥
none_past left left' written written' s r =
    let read = r.before ++ r.piece in
    let rest = rest_of left left' read s.bytes s.told r.consumed in
    let taken : ends_open (read ++ rest.0) = subst ends_open rest.2 s.taken in
    let past = finished_passed (read ++ rest.0) (passed_more read rest.0 (past_by read r.ended)) in
    let both : ◌≡◌ {A = Ending} ending.Open ending.PastLimit = sym taken ∙ past in
    cc

pub never_refused : (left left' written written' : Option (List ℕ)) (outcome : Result Ending Stop) → IfOk outcome (Replays left left' written written')
    → IsWholeScript left → (status_of outcome ≢ 1) × (status_of outcome ≢ 6)
never_refused left left' written written' (Ok ending.Open) r s = (λ e. omega arith, λ e. omega arith)
never_refused left left' written written' (Ok (ending.Refused number why)) r s =
    absurd (none_refused left left' written written' number why s r)
never_refused left left' written written' (Ok ending.PastLimit) r s = absurd (none_past left left' written written' s r)
never_refused left left' written written' (Err stop.ReadFault) r s = (λ e. omega arith, λ e. omega arith)
never_refused left left' written written' (Err stop.WriteFault) r s = (λ e. omega arith, λ e. omega arith)
never_refused left left' written written' (Err stop.NoMemory) r s = (λ e. omega arith, λ e. omega arith)
