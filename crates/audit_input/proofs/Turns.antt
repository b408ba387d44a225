-- A turn of the audit, at each of its ends.
use Rattle.std.proofs.Common.{◌≡◌, ◌≤◌, ℕ, Bool, true, false, List, [], ◌++◌, length, take, inl, inr, refl, sym, ◌∙◌, ap, subst, append-nil, arith}
use Rattle.std.specs.Prelude.{Option}
use Rattle.std.proofs.KnownBytes.{Consumes-trans, Consumes-kept, Consumes-nil}
use Rattle.std.specs.Io.KnownBytes.{Consumes, Keeps, IsAtEnd}
use Rattle.outside.specs.Faults.{Rose}
use Rattle.replay_model.specs.declared.limits.TheConstants.{MOST_BYTES}
use Rattle.audit_model.specs.Audited.{audited, is_open}
use Rattle.audit_model.specs.declared.ending.AuditEnding.{AuditEnding}
use Rattle.audit_model.specs.declared.ending.AuditEnding.TheVariants as ending
use Rattle.audit_model.specs.declared.summary.Summary.{Summary}
use Rattle.audit_input.specs.Audits.{Audits, BreaksOff, Interrupts, IsWhole, Refuses, most_at_once}
use Rattle.audit_input.specs.Reading.{Ends, Follows, Has, TakesEnd, TakesSo, taken_of}
use Rattle.audit_input.specs.Refused.{HasRefused, NoneIsRefused}
use Rattle.audit_input.specs.declared.reading.Reading.{Reading}
use Rattle.audit_input.proofs.Growing.{has_ended, none_by_end}
use Rattle.audit_input.proofs.Taking.{closed_refused, open_follows}

none_refused : (left l : Option (List ℕ)) (r : Reading) (read : List ℕ) → Has left l r read → NoneIsRefused read
none_refused left l r read h = record { whole = h.follows.stands.ending; within = h.follows.within }

-- the input failed
pub read_failed : (left l l' : Option (List ℕ)) (r : Reading) (read : List ℕ) → Has left l r read → Keeps l l' → Interrupts left l'
read_failed left l l' r read h k =
    record { read = read; consumed = Consumes-kept left l l' read h.consumed k; none_refused = none_refused left l r read h }

-- memory was wanting, for a piece or for the last line
pub piece_stopped : (left l l' : Option (List ℕ)) (r : Reading) (read piece : List ℕ) → Has left l r read → length piece ≤ most_at_once → Consumes l l' piece → BreaksOff left l'
piece_stopped left l l' r read piece h small c = record {
  before = read;
  piece = piece;
  consumed = Consumes-trans left l l' read piece h.consumed c;
  none_before = none_refused left l r read h;
  one_piece = small;
}

pub end_stopped : (left l l' : Option (List ℕ)) (r : Reading) (read : List ℕ) → Has left l r read → Consumes l l' [] → BreaksOff left l'
end_stopped left l l' r read h c = piece_stopped left l l' r read [] h (omega arith) c

is_whole : (e : AuditEnding) (left : Option (List ℕ)) (bytes : List ℕ) → HasRefused bytes e → IsWhole left bytes e
is_whole ending.Open left bytes h = absurd h
is_whole (ending.Refused number refusal) left bytes h = inl h
is_whole ending.PastLimit left bytes h = tt

is_whole_at_end : (e : AuditEnding) (left : Option (List ℕ)) (bytes : List ℕ) → IsAtEnd left → IsWhole left bytes e
is_whole_at_end ending.Open left bytes at_end = tt
is_whole_at_end (ending.Refused number refusal) left bytes at_end = inr at_end
is_whole_at_end ending.PastLimit left bytes at_end = tt

refused_by : (left l' : Option (List ℕ)) (e : AuditEnding) (counts : Summary) → is_open e ≡ false → Refuses left l' e → Audits left l' e counts
refused_by left l' ending.Open counts c r = absurd (cc)
refused_by left l' (ending.Refused number refusal) counts c r = r
refused_by left l' ending.PastLimit counts c r = r

-- the input ended: at its end the last piece is empty
pub end_reached : (left l l' : Option (List ℕ)) (r new : Reading) (read : List ℕ) (e : AuditEnding) → Has left l r read → Consumes l l' [] → IsAtEnd l' → TakesEnd new read e → Ends left l' new e
end_reached left l l' r new read e h c at_end t counts counted = by (is_open e) refl
  where
    consumed : Consumes left l' (read ++ [])
    consumed = Consumes-trans left l l' read [] h.consumed c

    refused : is_open e ≡ false → Audits left l' e counts
    refused closed = refused_by left l' e counts closed (record {
      before = read;
      piece = [];
      consumed = consumed;
      none_before = none_refused left l r read h;
      one_piece = omega arith;
      ended = ap (λ (bs : List ℕ). (audited bs).ending) (append-nil read) ∙ t.ended;
      whole = is_whole_at_end e l' (read ++ []) at_end;
    })

    all : (x : AuditEnding) → e ≡ x → is_open x ≡ true → Audits left l' x counts
    all ending.Open same o = record {
      read = read;
      consumed = subst (Consumes left l') (append-nil read) consumed;
      at_end = at_end;
      ended = t.ended ∙ same;
      counted = counted (audited read).items (t.stands same);
    }
    all (ending.Refused number refusal) same o = absurd (cc)
    all ending.PastLimit same o = absurd (cc)

    by : (b : Bool) → is_open e ≡ b → Audits left l' e counts
    by true o = all e refl o
    by false closed = refused closed

-- a line of the piece is refused
pub refuses : (left l l' : Option (List ℕ)) (r new : Reading) (read piece : List ℕ) (e : AuditEnding) → Has left l r read → length piece ≤ most_at_once → Consumes l l' piece
    → is_open e ≡ false → TakesSo new (read ++ piece) e → Ends left l' new e
refuses left l l' r new read piece e h small c closed t counts counted =
    let refused = closed_refused new (read ++ piece) e closed t in
    refused_by left l' e counts closed (record {
      before = read;
      piece = piece;
      consumed = Consumes-trans left l l' read piece h.consumed c;
      none_before = none_refused left l r read h;
      one_piece = small;
      ended = has_ended e (read ++ piece) refused;
      whole = is_whole e l' (read ++ piece) refused;
    })

-- a piece was taken, and no line is refused
pub goes_on : (left l l' : Option (List ℕ)) (r new : Reading) (read piece : List ℕ) (e : AuditEnding) → Has left l r read → Consumes l l' piece → is_open e ≡ true
    → TakesSo new (read ++ piece) e → Has left l' new (read ++ piece)
goes_on left l l' r new read piece e h c o t =
    record { consumed = Consumes-trans left l l' read piece h.consumed c; follows = open_follows new (read ++ piece) e o t }

-- a read of no bytes takes nothing
pub none_read : (l l' : Option (List ℕ)) (count : ℕ) (room : List ℕ) → count ≡ 0 → Consumes l l' (take count room) → Consumes l l' []
none_read l l' count room e c = subst (λ n. Consumes l l' (take n room)) e c

-- nothing was read
pub nothing_done : (left : Option (List ℕ)) → BreaksOff left left
nothing_done left = record {
  before = [];
  piece = [];
  consumed = Consumes-nil left;
  none_before = record { whole = refl; within = λ some. absurd (cc) };
  one_piece = omega arith;
}

pub at_start : (left : Option (List ℕ)) (r : Reading) → Follows r [] → Has left left r []
at_start left r f = record { consumed = Consumes-nil left; follows = f }

pub nothing_taken : (r : Reading) → Follows r [] → taken_of r ≤ MOST_BYTES
nothing_taken r f = omega (arith, f.stands.bytes, ap length f.begun)

pub rose_since : (a b n : ℕ) → a ≤ b → Rose b n → Rose a n
rose_since a b n le rose = omega (arith, rose)

-- what a whole audit leaves is that no line was refused before its last piece
pub left_off : (left left' : Option (List ℕ)) (e : AuditEnding) (counts : Summary) → Audits left left' e counts → BreaksOff left left'
left_off left left' ending.Open counts r = record {
  before = r.read;
  piece = [];
  consumed = subst (Consumes left left') (sym (append-nil r.read)) r.consumed;
  none_before = none_by_end r.read r.ended;
  one_piece = omega arith;
}
left_off left left' (ending.Refused number refusal) counts r =
    record { before = r.before; piece = r.piece; consumed = r.consumed; none_before = r.none_before; one_piece = r.one_piece }
left_off left left' ending.PastLimit counts r =
    record { before = r.before; piece = r.piece; consumed = r.consumed; none_before = r.none_before; one_piece = r.one_piece }
