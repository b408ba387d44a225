-- A transcript of which no line is refused is read to its end.
use Rattle.std.proofs.Common.{◌≡◌, ℕ, Bool, true, false, cond, List, [], ◌++◌, length, Result, Ok, Err, inl, inr, refl, sym, ◌∙◌, ap, subst, append-nil, add-zero, arith}
use Rattle.std.specs.Prelude.{Option, None, Some}
use Rattle.std.specs.Io.KnownBytes.{Consumes, IsAtEnd}
use Rattle.etcd_types.specs.Keys.{is_empty}
use Rattle.script_text.specs.declared.item.Item.{Item}
use Rattle.script_text.specs.Items.{item_at}
use Rattle.replay_model.specs.Progress.{size_of}
use Rattle.replay_model.specs.Script.{begun_line}
use Rattle.audit_model.specs.Audited.{Audited, after_item, after_reading, audited, audited_lines, is_open, on_line}
use Rattle.audit_model.specs.Broken.{broken}
use Rattle.audit_model.specs.declared.ending.AuditEnding.{AuditEnding}
use Rattle.audit_model.specs.declared.ending.AuditEnding.TheVariants as ending
use Rattle.audit_model.specs.declared.fault.AuditFault.{AuditFault}
use Rattle.audit_model.specs.declared.fault.AuditRefusal.{AuditRefusal}
use Rattle.audit_model.specs.declared.summary.Summary.{Summary}
use Rattle.audit_input.specs.Audits.{Audits, IsKeptTranscript, Refuses}
use Rattle.audit_input.specs.Refused.{HasPassed, passes_limit}
use Rattle.audit_input.proofs.Growing.{audited-begun, audited_stays, has_ended, is_open-true, lines_stay, none_by_end, on_open, refused_more}

-- what is left behind the bytes that were read
rest_of : (left left' : Option (List ℕ)) (read bytes : List ℕ) → left ≡ Some bytes → Consumes left left' read
    → (rest : List ℕ) × (left' ≡ Some rest) × (bytes ≡ read ++ rest)
rest_of left None read bytes e c = absurd (subst (λ (l : Option (List ℕ)). Consumes l None read) e c)
rest_of left (Some rest) read bytes e c = (rest, refl, subst (λ (l : Option (List ℕ)). Consumes l (Some rest) read) e c)

-- where no line of more bytes is refused, none of these is
front_open : (read rest : List ℕ) → (audited_lines (read ++ rest)).ending ≡ ending.Open → (audited_lines read).ending ≡ ending.Open
front_open read rest h = by (is_open (audited_lines read).ending) refl
  where
    by : (b : Bool) → is_open (audited_lines read).ending ≡ b → (audited_lines read).ending ≡ ending.Open
    by true e = is_open-true (audited_lines read).ending e
    by false e = ap (λ (a : Audited). a.ending) (sym (lines_stay read rest e)) ∙ h

-- a line within the limits passes none
item_not_past : (a : Audited) (size : ℕ) (i : Item) (f : Option AuditFault) → (after_item a size i f).ending ≡ ending.PastLimit → ⊥
item_not_past a size i None e = cc
item_not_past a size i (Some f) e = cc

reading_not_past : (a : Audited) (size : ℕ) (r : Result Item ℕ) → (after_reading a size r).ending ≡ ending.PastLimit → ⊥
reading_not_past a size (Ok i) e = item_not_past a size i (broken a.items i) e
reading_not_past a size (Err place) e = cc

abbrev line_by : Bool → Audited → List ℕ → Audited
line_by limit a line = cond limit (record a { ending = ending.PastLimit }) (after_reading a (size_of line false) (item_at line))

begun_past : (limit : Bool) (a : Audited) (line : List ℕ) → passes_limit a (length line) (size_of line false) ≡ limit
    → (line_by limit a line).ending ≡ ending.PastLimit → passes_limit a (length line) (length line) ≡ true
begun_past true a line e h = ap (passes_limit a (length line)) (omega (arith, add-zero)) ∙ e
begun_past false a line e h = absurd (reading_not_past a (size_of line false) (item_at line) h)

-- the end of a transcript is past a limit only where a line of it is
past_by : (bytes : List ℕ) → (audited bytes).ending ≡ ending.PastLimit → HasPassed bytes
past_by bytes h = by (is_empty (begun_line bytes)) refl (is_open (audited_lines bytes).ending) refl
  where
    by : (none : Bool) → is_empty (begun_line bytes) ≡ none → (opened : Bool) → is_open (audited_lines bytes).ending ≡ opened → HasPassed bytes
    by none n false o = inl (ap (λ (a : Audited). a.ending) (sym (audited_stays bytes o)) ∙ h)
    by true n true o =
        inl (ap (λ (b : Bool). (cond b (audited_lines bytes) (on_line (audited_lines bytes) (begun_line bytes) false)).ending) (sym n) ∙ h)
    by false n true o =
        let opened = is_open-true (audited_lines bytes).ending o in
        inr (record {
          taken = opened;
          begun = n;
          past = begun_past (passes_limit (audited_lines bytes) (length (begun_line bytes)) (size_of (begun_line bytes) false)) (audited_lines bytes) (begun_line bytes) refl
              (ap (λ (a : Audited). a.ending) (sym (audited-begun bytes n ∙ on_open (audited_lines bytes) (begun_line bytes) false opened)) ∙ h);
        })

abbrev ends_open : List ℕ → Type 0
ends_open bytes = (audited bytes).ending ≡ ending.Open

-- no line of it is refused for its words or for a rule
none_refused : (left left' : Option (List ℕ)) (number : ℕ) (why : AuditRefusal) → IsKeptTranscript left → Refuses left left' (ending.Refused number why) → ⊥
none_refused left left' number why s r =
    let read = r.before ++ r.piece in
    let rest = rest_of left left' read s.bytes s.told r.consumed in
    let taken : ends_open (read ++ rest.0) = subst ends_open rest.2 s.taken in
    elim r.whole [
      | inl refused ↦
          let opened = front_open read rest.0 (none_by_end (read ++ rest.0) taken).whole in
          let both : ◌≡◌ {A = AuditEnding} ending.Open (ending.Refused number why) = sym opened ∙ refused in
          cc
      | inr at_end ↦
          let none : rest.0 ≡ [] = subst IsAtEnd rest.1 at_end in
          let opened : ends_open read = subst ends_open (ap (λ (bs : List ℕ). read ++ bs) none ∙ append-nil read) taken in
          let both : ◌≡◌ {A = AuditEnding} ending.Open (ending.Refused number why) = sym opened ∙ r.ended in
          cc
    ]

-- and none passes a limit
none_past : (left left' : Option (List ℕ)) → IsKeptTranscript left → Refuses left left' ending.PastLimit → ⊥
none_past left left' s r =
    let read = r.before ++ r.piece in
    let rest = rest_of left left' read s.bytes s.told r.consumed in
    let taken : ends_open (read ++ rest.0) = subst ends_open rest.2 s.taken in
    let past = has_ended ending.PastLimit (read ++ rest.0) (refused_more ending.PastLimit read rest.0 (past_by read r.ended)) in
    let both : ◌≡◌ {A = AuditEnding} ending.Open ending.PastLimit = sym taken ∙ past in
    cc

pub never_refused : (left left' : Option (List ℕ)) (e : AuditEnding) (counts : Summary) → Audits left left' e counts → IsKeptTranscript left → e ≡ ending.Open
never_refused left left' ending.Open counts r s = refl
never_refused left left' (ending.Refused number why) counts r s = absurd (none_refused left left' number why s r)
never_refused left left' ending.PastLimit counts r s = absurd (none_past left left' s r)
