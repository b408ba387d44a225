-- Each item repeats a line, or is asked, spoken, closed or answered; so it has a text.
use Rattle.std.proofs.Common.{◌≤◌, ◌+◌, ◌*◌, ℕ, List, [], ◌∷◌, length, arith}
use Rattle.text_model.specs.Words.{max_number}
use Rattle.script_text.specs.declared.item.Item.{Item}
use Rattle.script_text.specs.declared.item.Item.TheVariants as item
use Rattle.world_model.specs.Transcript.{transcript}
use Rattle.text_laws.specs.Items.Texts.{Each, HasTextAsMade}
use Rattle.text_laws.proofs.Items.Scripts.{texts_as_made}
use Rattle.text_laws.specs.Scripts.Spoken.{AskedHasText, SpokenHasText}
use Rattle.text_laws.specs.Scripts.Closed.{ClosedHasText}
use Rattle.text_laws.specs.Scripts.Answered.{AnsweredHasText}
use Rattle.text_laws.specs.Scripts.Whole.{HasText, EachItemHasAText}
use Rattle.text_laws.proofs.Scripts.Asked.{asked_fit}
use Rattle.text_laws.proofs.Scripts.Growth.{stores_stay_small, small_scripts_speak}
use Rattle.text_laws.proofs.Scripts.Closed.{closed_fit}
use Rattle.text_laws.proofs.Scripts.Answered.{answered_fit}
use Rattle.text_laws.proofs.Scripts.Posts.{posts_have}

has_text : (i : Item) → HasTextAsMade i → AskedHasText i → SpokenHasText i → ClosedHasText i → AnsweredHasText i → HasText i
has_text (item.World members namespace leasing) e a s c r = e
has_text (item.Started p) e a s c r = e
has_text (item.Restarted p) e a s c r = e
has_text (item.Clock p millis) e a s c r = e
has_text (item.Asked p t q) e a s c r = a
has_text (item.Posted p t path body) e a s c r = e
has_text (item.Ticked p) e a s c r = e
has_text (item.Sent p call member t q) e a s c r = s
has_text (item.Opened p stream member q) e a s c r = s
has_text (item.Closed p stream) e a s c r = c
has_text (item.Executed call b) e a s c r = s
has_text (item.Answered call) e a s c r = e
has_text (item.Lost call) e a s c r = e
has_text (item.Pushed stream message) e a s c r = s
has_text (item.Delivered stream) e a s c r = e
has_text (item.Cut stream) e a s c r = e
has_text (item.Taken p t x) e a s c r = r
has_text (item.Pending p t) e a s c r = e
has_text (item.Left p t) e a s c r = e
has_text (item.Expired lease) e a s c r = e
has_text (item.Applied member revision) e a s c r = e
has_text (item.Reply p t b) e a s c r = r
has_text (item.Body p t status json) e a s c r = r

all_have : (items : List Item) → Each HasTextAsMade items → Each AskedHasText items → Each SpokenHasText items → Each ClosedHasText items → Each AnsweredHasText items → Each HasText items
all_have [] e a s c r = tt
all_have (i ∷ items) e a s c r = (has_text i e.0 a.0 s.0 c.0 r.0, all_have items e.1 a.1 s.1 c.1 r.1)

few_lines : (most n : ℕ) → most + 128 * n + 256 ≤ max_number → n ≤ max_number
few_lines most n l = omega (arith, l)

pub each_has_text : EachItemHasAText
each_has_text most lines read short few two room changes =
    let posts = posts_have lines read short in
    let n = few_lines most (length lines) room in
    let asked = asked_fit lines read n posts.0 in
    all_have (transcript lines) (texts_as_made lines read n) asked (small_scripts_speak most lines read posts.0 few (omega (arith, few, two)) changes) (closed_fit lines read n)
    (answered_fit most lines read (omega (arith, few)) two room posts.1 (stores_stay_small most lines few changes) asked)
