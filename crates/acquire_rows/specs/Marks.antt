-- Where a due acquire stands among all that are due: the one that is due longest comes first, of one step the one of the lower ticket,
-- and of equal ones that of the lower key.
use Rattle.std.specs.Prelude.{◌≡◌, ℕ, ◌==◌, ◌&&◌, if◌then◌else◌, List, [], ◌∷◌, Option, None, Some}
use Rattle.proxy_model.specs.Keyed.{Keyed, at, with_at}
use Rattle.wait_model.specs.declared.sending.Sending.{Sending}
use Rattle.wait_model.specs.declared.sending.Sending.TheVariants as sending
use Rattle.read_model.specs.declared.acquire.Acquire.{Acquire}

-- the step since which it is due; nothing is told of one that is out
abbrev pub since_of : Sending → ℕ
since_of (sending.Due since) = since
since_of (sending.Out call) = 0

abbrev pub mark_of : List ℕ × Acquire → List ℕ
mark_of e = since_of e.1.sending ∷ e.1.ticket ∷ e.0

-- the key, where it is due since the step
abbrev pub key_due : ℕ → ℕ → List ℕ → ℕ → Sending → Option (List ℕ)
key_due s t k ticket (sending.Due since) = if (since == s) && (ticket == t) then Some k else None
key_due s t k ticket (sending.Out call) = None

abbrev pub key_if : ℕ → ℕ → List ℕ → Option Acquire → Option (List ℕ)
key_if s t k None = None
key_if s t k (Some a) = key_due s t k a.ticket a.sending

-- the key whose due acquire has this mark
abbrev pub due_at : Keyed Acquire → List ℕ → Option (List ℕ)
due_at rows [] = None
due_at rows (s ∷ []) = None
due_at rows (s ∷ t ∷ k) = key_if s t k (at rows k)

-- at each mark stands the key whose due acquire has it, and nothing else
abbrev pub AreMarked : Keyed (List ℕ) → Keyed Acquire → Type 0
AreMarked marks rows = (m : List ℕ) → at marks m ≡ due_at rows m

-- without the mark of the key's acquire, where that is due

abbrev pub unmarked_sending : List ℕ → ℕ → Sending → Keyed (List ℕ) → Keyed (List ℕ)
unmarked_sending k ticket (sending.Due since) marks = with_at marks (since ∷ ticket ∷ k) None
unmarked_sending k ticket (sending.Out call) marks = marks

abbrev pub unmarked : List ℕ → Option Acquire → Keyed (List ℕ) → Keyed (List ℕ)
unmarked k None marks = marks
unmarked k (Some a) marks = unmarked_sending k a.ticket a.sending marks

-- what stands first
abbrev pub first_of : {A : Type 0} → Keyed A → Option A
first_of [] = None
first_of (e ∷ es) = Some e.1
