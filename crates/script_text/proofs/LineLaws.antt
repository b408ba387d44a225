-- The form of lines keeps the laws of forms.
use Rattle.std.proofs.Common.{◌≡◌, ℕ, ◌+◌, ◌-◌, ◌<◌, Bool, true, false, List, [], ◌∷◌, length, ◌⊎◌, inl, inr, Result, Ok, Err, refl, sym, ap, ◌∙◌, arith}
use Rattle.std.specs.Prelude.{codes, ◌==◌}
use Rattle.text_model.specs.Forms.{Word, Form, both, via, after, named, either}
use Rattle.text_model.specs.Texts.{words, text, text_at, IsFirstWrong}
use Rattle.text_model.specs.Words.{number, number_within, max_number, bytes}
use Rattle.text_model.proofs.Laws.{IsForm, IsChoice, both-IsForm, via-IsForm, after-IsForm, either-IsForm, named-IsChoice, after-IsChoice}
use Rattle.text_model.proofs.WordLaws.{number_within-IsForm}
use Rattle.text_model.proofs.TextLaws.{HasWords, text_takes, text_again, text_first_wrong}
use Rattle.message_text.proofs.RequestLaws.{a_number, some_bytes, request-IsForm}
use Rattle.message_text.specs.Requests.{request}
use Rattle.script_text.specs.declared.line.Line.{Line}
use Rattle.script_text.specs.declared.line.Line.TheVariants as line
use Rattle.script_text.specs.Lines.{space, proxy, ticket, world, from_apply, from_expire, from_cut, from_deliver, from_push, from_lose, from_answer, OtherLine, other_line, other_to, from_leave, from_take, from_send, from_tick, from_post, from_ask, from_clock, LaterLine, later_line, later_to, LineWords, line_to, line_from, line_form, line_text, is_line, line_at}

pub proxy-IsForm : IsForm space proxy
proxy-IsForm = number_within-IsForm space 1 64 (omega arith) (omega arith) (omega arith)

pub ticket-IsForm : IsForm space ticket
ticket-IsForm = number_within-IsForm space 1 max_number (omega arith) (omega arith) (omega arith)

pub world-IsForm : IsForm space world
unfolding world
world-IsForm = both-IsForm _ _ _ (number_within-IsForm space 1 9 (omega arith) (omega arith) (omega arith)) (both-IsForm _ _ _ some_bytes some_bytes)

abbrev other_names : List Word
other_names = codes "exec" ∷ codes "answer" ∷ codes "lose" ∷ codes "push" ∷ codes "deliver" ∷ codes "cut" ∷ codes "expire" ∷ codes "apply" ∷ codes "progress" ∷ []

pub other_line-IsChoice : IsChoice space other_names other_line
unfolding other_line
other_line-IsChoice =
    named-IsChoice space (codes "exec") _ number from_answer refl refl a_number
    (named-IsChoice space (codes "answer") _ number from_lose refl refl a_number
    (named-IsChoice space (codes "lose") _ number from_push refl refl a_number
    (named-IsChoice space (codes "push") _ number from_deliver refl refl a_number
    (named-IsChoice space (codes "deliver") _ number from_cut refl refl a_number
    (named-IsChoice space (codes "cut") _ number from_expire refl refl a_number
    (named-IsChoice space (codes "expire") _ number from_apply refl refl a_number
    (named-IsChoice space (codes "apply") _ (both number number) (after (codes "progress") number) refl refl (both-IsForm _ _ _ a_number a_number)
    (after-IsChoice space (codes "progress") number refl a_number))))))))

abbrev later_names : List Word
later_names = codes "start" ∷ codes "clock" ∷ codes "ask" ∷ codes "post" ∷ codes "tick" ∷ codes "send" ∷ codes "take" ∷ codes "leave" ∷ other_names

pub later_line-IsChoice : IsChoice space later_names later_line
unfolding later_line
later_line-IsChoice =
    named-IsChoice space (codes "start") _ proxy from_clock refl refl proxy-IsForm
    (named-IsChoice space (codes "clock") _ (both proxy number) from_ask refl refl (both-IsForm _ _ _ proxy-IsForm a_number)
    (named-IsChoice space (codes "ask") _ (both proxy (both ticket request)) from_post refl refl (both-IsForm _ _ _ proxy-IsForm (both-IsForm _ _ _ ticket-IsForm request-IsForm))
    (named-IsChoice space (codes "post") _ (both proxy (both ticket (both bytes bytes))) from_tick refl refl (both-IsForm _ _ _ proxy-IsForm (both-IsForm _ _ _ ticket-IsForm (both-IsForm _ _ _ some_bytes some_bytes)))
    (named-IsChoice space (codes "tick") _ proxy from_send refl refl proxy-IsForm
    (named-IsChoice space (codes "send") _ proxy from_take refl refl proxy-IsForm
    (named-IsChoice space (codes "take") _ (both proxy ticket) from_leave refl refl (both-IsForm _ _ _ proxy-IsForm ticket-IsForm)
    (named-IsChoice space (codes "leave") _ (both proxy ticket) other_line refl refl (both-IsForm _ _ _ proxy-IsForm ticket-IsForm) other_line-IsChoice)))))))

pub later_line-IsForm : IsForm space later_line
unfolding later_line
later_line-IsForm = record { part = later_line-IsChoice.part; some = (inl proxy-IsForm.some.0, proxy-IsForm.some.1) }

line_back : (w : LineWords) → line_from (line_to w) ≡ w
line_back (inl x) = refl
line_back (inr (inl x)) = refl
line_back (inr (inr (inl x))) = refl
line_back (inr (inr (inr (inl x)))) = refl
line_back (inr (inr (inr (inr (inl x))))) = refl
line_back (inr (inr (inr (inr (inr (inl x)))))) = refl
line_back (inr (inr (inr (inr (inr (inr (inl x))))))) = refl
line_back (inr (inr (inr (inr (inr (inr (inr (inl x)))))))) = refl
line_back (inr (inr (inr (inr (inr (inr (inr (inr (inl x))))))))) = refl
line_back (inr (inr (inr (inr (inr (inr (inr (inr (inr (inl x)))))))))) = refl
line_back (inr (inr (inr (inr (inr (inr (inr (inr (inr (inr (inl x))))))))))) = refl
line_back (inr (inr (inr (inr (inr (inr (inr (inr (inr (inr (inr (inl x)))))))))))) = refl
line_back (inr (inr (inr (inr (inr (inr (inr (inr (inr (inr (inr (inr (inl x))))))))))))) = refl
line_back (inr (inr (inr (inr (inr (inr (inr (inr (inr (inr (inr (inr (inr (inl x)))))))))))))) = refl
line_back (inr (inr (inr (inr (inr (inr (inr (inr (inr (inr (inr (inr (inr (inr (inl x))))))))))))))) = refl
line_back (inr (inr (inr (inr (inr (inr (inr (inr (inr (inr (inr (inr (inr (inr (inr (inl x)))))))))))))))) = refl
line_back (inr (inr (inr (inr (inr (inr (inr (inr (inr (inr (inr (inr (inr (inr (inr (inr (inl x))))))))))))))))) = refl
line_back (inr (inr (inr (inr (inr (inr (inr (inr (inr (inr (inr (inr (inr (inr (inr (inr (inr x))))))))))))))))) = refl

line_forth : (l : Line) → line_to (line_from l) ≡ l
line_forth (line.World a b c) = refl
line_forth (line.Start a) = refl
line_forth (line.Clock a b) = refl
line_forth (line.Ask a b c) = refl
line_forth (line.Post a b c d) = refl
line_forth (line.Tick a) = refl
line_forth (line.Send a) = refl
line_forth (line.Exec a) = refl
line_forth (line.Answer a) = refl
line_forth (line.Lose a) = refl
line_forth (line.Push a) = refl
line_forth (line.Deliver a) = refl
line_forth (line.Cut a) = refl
line_forth (line.Take a b) = refl
line_forth (line.Leave a b) = refl
line_forth (line.Expire a) = refl
line_forth (line.Apply a b) = refl
line_forth (line.Progress a) = refl

pub line_form-IsForm : (n : ℕ) → IsForm space (line_form n)
unfolding line_form
line_form-IsForm n =
    via-IsForm space line_to line_from (either (n == 1) (after (codes "world") world) later_line) (λ w fits. line_back w) line_forth
    (either-IsForm space (n == 1) (after (codes "world") world) later_line (after-IsForm space (codes "world") world refl world-IsForm) later_line-IsForm)

line_form-HasWords : (n : ℕ) → HasWords (line_form n)
unfolding line_form later_line other_line
line_form-HasWords n (line.World a b c) = omega arith
line_form-HasWords n (line.Start a) = omega arith
line_form-HasWords n (line.Clock a b) = omega arith
line_form-HasWords n (line.Ask a b c) = omega arith
line_form-HasWords n (line.Post a b c d) = omega arith
line_form-HasWords n (line.Tick a) = omega arith
line_form-HasWords n (line.Send a) = omega arith
line_form-HasWords n (line.Exec a) = omega arith
line_form-HasWords n (line.Answer a) = omega arith
line_form-HasWords n (line.Lose a) = omega arith
line_form-HasWords n (line.Push a) = omega arith
line_form-HasWords n (line.Deliver a) = omega arith
line_form-HasWords n (line.Cut a) = omega arith
line_form-HasWords n (line.Take a b) = omega arith
line_form-HasWords n (line.Leave a b) = omega arith
line_form-HasWords n (line.Expire a) = omega arith
line_form-HasWords n (line.Apply a b) = omega arith
line_form-HasWords n (line.Progress a) = omega arith

-- the text of a line is the same at each number
text_is : (n : ℕ) (l : Line) → text space (line_form n) l ≡ line_text l
unfolding line_form line_text
text_is n l = refl

-- what is read as a line is its text
pub line_takes : (n : ℕ) (bytes : List ℕ) (l : Line) → line_at n bytes ≡ Ok l → (bytes ≡ line_text l) × (is_line n l ≡ true)
unfolding line_at is_line
line_takes n bytes l e =
    let t = text_takes space (line_form n) (line_form-IsForm n) bytes l e in
    (t.0 ∙ text_is n l, t.1)

-- a line's text is read as it
pub line_again : (n : ℕ) (l : Line) → is_line n l ≡ true → line_at n (line_text l) ≡ Ok l
unfolding line_at is_line
line_again n l fits =
    ap (text_at space (line_form n)) (sym (text_is n l)) ∙ text_again space (line_form n) (line_form-IsForm n) (line_form-HasWords n) l fits

-- the place of a fault
pub line_placed : (n : ℕ) (bytes : List ℕ) (place : ℕ) → line_at n bytes ≡ Err place → IsFirstWrong (line_form n) (words space bytes) place
unfolding line_at
line_placed n bytes place e = text_first_wrong space (line_form n) (line_form-IsForm n) bytes place e
