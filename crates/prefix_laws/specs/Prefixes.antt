-- What holds of each proxy behind each prefix of a script, by its items: its parts agree and fit, what it has out is named by an item of its
-- life, and no reply is left in it. The premise is that what the answers show is made of bytes.
use Rattle.std.specs.Prelude.{◌≡◌, ℕ, false, List, Some, Ok}
use Rattle.core_model.specs.Fits.{CoreOk}
use Rattle.core_model.specs.Step.{is_worn}
use Rattle.core_fits.specs.Fits.{CoreFits}
use Rattle.core_fits.specs.Ready.{NoneIsReplied}
use Rattle.script_text.specs.declared.item.Item.{Item}
use Rattle.script_text.specs.declared.line.Line.{Line}
use Rattle.world_model.specs.Lives.{life, is_named}
use Rattle.world_model.specs.Places.{place_at}
use Rattle.world_model.specs.State.{Place, World}
use Rattle.world_model.specs.Transcript.{transcript, world_behind}
use Rattle.renewed_laws.specs.Renewals.{AnswersShowBytes}
use Rattle.reply_laws.specs.Named.{AreNamed}

-- of each proxy's place behind lines that were all taken, with the items that they gained
abbrev pub OfEachProxy : (List Item → ℕ → Place → Type 0) → Type 0
OfEachProxy P =
    (lines : List Line) (w : World) (p : ℕ) (x : Place) → AnswersShowBytes (transcript lines) → world_behind lines ≡ Ok (Some w) → place_at w p ≡ Some x
    → P (transcript lines) p x

abbrev pub EachProxyAgrees : Type 0
EachProxyAgrees = OfEachProxy (λ items p x. CoreOk x.core)

abbrev pub EachProxyFits : Type 0
EachProxyFits = OfEachProxy (λ items p x. CoreFits x.core)

-- a call that was sent in the proxy's life names the ticket
abbrev pub WhatIsOutIsNamed : Type 0
WhatIsOutIsNamed = OfEachProxy (λ items p x. AreNamed (λ ticket. is_named p ticket (life p items)) x.core)

-- one that is worn gives no reply any more
abbrev pub NoReplyIsLeft : Type 0
NoReplyIsLeft = OfEachProxy (λ items p x. is_worn x.core ≡ false → NoneIsReplied x.core)
