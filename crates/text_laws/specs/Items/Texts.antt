-- Which items have a text: those that `write_item` writes so that `read_item` reads them back (`script_text` states both).
use Rattle.std.specs.Prelude.{◌≡◌, ℕ, ◌+◌, Bool, true, ◌&&◌, List, [], ◌∷◌}
use Rattle.text_model.specs.Words.{number, bytes}
use Rattle.message_text.specs.Requests.{request}
use Rattle.message_text.specs.Answers.{answer}
use Rattle.message_text.specs.WatchItems.{watch_item}
use Rattle.script_text.specs.declared.item.Item.{Item}
use Rattle.script_text.specs.declared.item.Item.TheVariants as item
use Rattle.script_text.specs.declared.line.Line.{Line}
use Rattle.script_text.specs.Lines.{ticket, is_line}
use Rattle.script_text.specs.Items.{is_item}

abbrev pub Each : {A : Type 0} → (A → Type 0) → List A → Type 0
Each P [] = Unit {0}
Each P (x ∷ xs) = P x × Each P xs

-- the lines from this number on were read: each has a text at its number
abbrev pub AreRead : ℕ → List Line → Type 0
AreRead n [] = Unit {0}
AreRead n (l ∷ lines) = (is_line n l ≡ true) × AreRead (n + 1) lines

-- What of an item a proxy or the store made, and no line or count has, has a text: a request, an answer, a message, a JSON text, and
-- which member, which ticket, which stream. Most items have nothing of that.
abbrev pub made_fits : Item → Bool
made_fits (item.Asked p t q) = request.fits q
made_fits (item.Sent p call member t q) = number.fits member && (number.fits t && request.fits q)
made_fits (item.Opened p stream member q) = number.fits member && request.fits q
made_fits (item.Closed p stream) = number.fits stream
made_fits (item.Executed call a) = answer.fits a
made_fits (item.Pushed stream message) = watch_item.fits message
made_fits (item.Taken p t message) = watch_item.fits message
made_fits (item.Reply p t a) = ticket.fits t && answer.fits a
made_fits (item.Body p t status text) = ticket.fits t && (number.fits status && bytes.fits text)
made_fits _ = true

-- it has a text exactly where what was made of it has
abbrev pub HasTextAsMade : Item → Type 0
HasTextAsMade i = is_item i ≡ made_fits i

abbrev pub HaveTextsAsMade : List Item → Type 0
HaveTextsAsMade items = Each HasTextAsMade items
