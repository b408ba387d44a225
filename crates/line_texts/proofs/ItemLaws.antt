-- The form of items keeps the laws of forms.
use Rattle.std.proofs.Common.{◌≡◌, ◌-◌, List, [], ◌∷◌, inl, inr, refl}
use Rattle.std.specs.Prelude.{codes}
use Rattle.text_model.specs.Forms.{Word, both, after}
use Rattle.text_model.specs.Words.{number, bytes}
use Rattle.text_model.proofs.Laws.{IsForm, IsChoice, both-IsForm, via-IsForm, named-IsChoice, after-IsChoice}
use Rattle.message_text.specs.Requests.{request}
use Rattle.message_text.specs.Answers.{answer}
use Rattle.message_text.specs.WatchItems.{watch_item}
use Rattle.line_texts.proofs.RequestLaws.{space, a_number, some_bytes, request-IsForm}
use Rattle.line_texts.proofs.AnswerLaws.{answer-IsForm}
use Rattle.line_texts.proofs.WatchLaws.{watch_item-IsForm}
use Rattle.script_text.specs.declared.item.Item.{Item}
use Rattle.script_text.specs.declared.item.Item.TheVariants as item
use Rattle.script_text.specs.Lines.{proxy, ticket, world}
use Rattle.script_text.specs.Items.{from_answered, from_lost, from_pushed, from_delivered, from_cut, from_expired, other_item, from_closed, from_taken, from_pending, from_left, from_reply, from_body, stream_item, from_started, from_restarted, from_clock, from_asked, from_posted, from_ticked, from_sent, ItemWords, item_words, item_to, item_from, item_form}
use Rattle.line_texts.proofs.LineLaws.{proxy-IsForm, ticket-IsForm, world-IsForm}

abbrev other_names : List Word
other_names = codes "executed" ∷ codes "answered" ∷ codes "lost" ∷ codes "pushed" ∷ codes "delivered" ∷ codes "cut" ∷ codes "expired" ∷ codes "applied" ∷ []

pub other_item-IsChoice : IsChoice space other_names other_item
unfolding other_item
other_item-IsChoice =
    named-IsChoice space (codes "executed") _ (both number answer) from_answered refl refl (both-IsForm _ _ _ a_number answer-IsForm)
    (named-IsChoice space (codes "answered") _ number from_lost refl refl a_number
    (named-IsChoice space (codes "lost") _ number from_pushed refl refl a_number
    (named-IsChoice space (codes "pushed") _ (both number watch_item) from_delivered refl refl (both-IsForm _ _ _ a_number watch_item-IsForm)
    (named-IsChoice space (codes "delivered") _ number from_cut refl refl a_number
    (named-IsChoice space (codes "cut") _ number from_expired refl refl a_number
    (named-IsChoice space (codes "expired") _ number (after (codes "applied") (both number number)) refl refl a_number
    (after-IsChoice space (codes "applied") (both number number) refl (both-IsForm _ _ _ a_number a_number))))))))

abbrev stream_names : List Word
stream_names = codes "opened" ∷ codes "closed" ∷ codes "taken" ∷ codes "pending" ∷ codes "left" ∷ codes "reply" ∷ codes "body" ∷ other_names

pub stream_item-IsChoice : IsChoice space stream_names stream_item
unfolding stream_item
stream_item-IsChoice =
    named-IsChoice space (codes "opened") _ (both proxy (both number (both number request))) from_closed refl refl (both-IsForm _ _ _ proxy-IsForm (both-IsForm _ _ _ a_number (both-IsForm _ _ _ a_number request-IsForm)))
    (named-IsChoice space (codes "closed") _ (both proxy number) from_taken refl refl (both-IsForm _ _ _ proxy-IsForm a_number)
    (named-IsChoice space (codes "taken") _ (both proxy (both ticket watch_item)) from_pending refl refl (both-IsForm _ _ _ proxy-IsForm (both-IsForm _ _ _ ticket-IsForm watch_item-IsForm))
    (named-IsChoice space (codes "pending") _ (both proxy ticket) from_left refl refl (both-IsForm _ _ _ proxy-IsForm ticket-IsForm)
    (named-IsChoice space (codes "left") _ (both proxy ticket) from_reply refl refl (both-IsForm _ _ _ proxy-IsForm ticket-IsForm)
    (named-IsChoice space (codes "reply") _ (both proxy (both ticket answer)) from_body refl refl (both-IsForm _ _ _ proxy-IsForm (both-IsForm _ _ _ ticket-IsForm answer-IsForm))
    (named-IsChoice space (codes "body") _ (both proxy (both ticket (both number bytes))) other_item refl refl (both-IsForm _ _ _ proxy-IsForm (both-IsForm _ _ _ ticket-IsForm (both-IsForm _ _ _ a_number some_bytes))) other_item-IsChoice))))))

abbrev item_names : List Word
item_names = codes "world" ∷ codes "started" ∷ codes "restarted" ∷ codes "clock" ∷ codes "asked" ∷ codes "posted" ∷ codes "ticked" ∷ codes "sent" ∷ stream_names

pub item_words-IsChoice : IsChoice space item_names item_words
unfolding item_words
item_words-IsChoice =
    named-IsChoice space (codes "world") _ world from_started refl refl world-IsForm
    (named-IsChoice space (codes "started") _ proxy from_restarted refl refl proxy-IsForm
    (named-IsChoice space (codes "restarted") _ proxy from_clock refl refl proxy-IsForm
    (named-IsChoice space (codes "clock") _ (both proxy number) from_asked refl refl (both-IsForm _ _ _ proxy-IsForm a_number)
    (named-IsChoice space (codes "asked") _ (both proxy (both ticket request)) from_posted refl refl (both-IsForm _ _ _ proxy-IsForm (both-IsForm _ _ _ ticket-IsForm request-IsForm))
    (named-IsChoice space (codes "posted") _ (both proxy (both ticket (both bytes bytes))) from_ticked refl refl (both-IsForm _ _ _ proxy-IsForm (both-IsForm _ _ _ ticket-IsForm (both-IsForm _ _ _ some_bytes some_bytes)))
    (named-IsChoice space (codes "ticked") _ proxy from_sent refl refl proxy-IsForm
    (named-IsChoice space (codes "sent") _ (both proxy (both number (both number (both number request)))) stream_item refl refl (both-IsForm _ _ _ proxy-IsForm (both-IsForm _ _ _ a_number (both-IsForm _ _ _ a_number (both-IsForm _ _ _ a_number request-IsForm)))) stream_item-IsChoice)))))))

pub item_words-IsForm : IsForm space item_words
unfolding item_words
item_words-IsForm = record { part = item_words-IsChoice.part; some = (inl world-IsForm.some.0, world-IsForm.some.1) }

item_back : (w : ItemWords) → item_from (item_to w) ≡ w
item_back (inl x) = refl
item_back (inr (inl x)) = refl
item_back (inr (inr (inl x))) = refl
item_back (inr (inr (inr (inl x)))) = refl
item_back (inr (inr (inr (inr (inl x))))) = refl
item_back (inr (inr (inr (inr (inr (inl x)))))) = refl
item_back (inr (inr (inr (inr (inr (inr (inl x))))))) = refl
item_back (inr (inr (inr (inr (inr (inr (inr (inl x)))))))) = refl
item_back (inr (inr (inr (inr (inr (inr (inr (inr (inl x))))))))) = refl
item_back (inr (inr (inr (inr (inr (inr (inr (inr (inr (inl x)))))))))) = refl
item_back (inr (inr (inr (inr (inr (inr (inr (inr (inr (inr (inl x))))))))))) = refl
item_back (inr (inr (inr (inr (inr (inr (inr (inr (inr (inr (inr (inl x)))))))))))) = refl
item_back (inr (inr (inr (inr (inr (inr (inr (inr (inr (inr (inr (inr (inl x))))))))))))) = refl
item_back (inr (inr (inr (inr (inr (inr (inr (inr (inr (inr (inr (inr (inr (inl x)))))))))))))) = refl
item_back (inr (inr (inr (inr (inr (inr (inr (inr (inr (inr (inr (inr (inr (inr (inl x))))))))))))))) = refl
item_back (inr (inr (inr (inr (inr (inr (inr (inr (inr (inr (inr (inr (inr (inr (inr (inl x)))))))))))))))) = refl
item_back (inr (inr (inr (inr (inr (inr (inr (inr (inr (inr (inr (inr (inr (inr (inr (inr (inl x))))))))))))))))) = refl
item_back (inr (inr (inr (inr (inr (inr (inr (inr (inr (inr (inr (inr (inr (inr (inr (inr (inr (inl x)))))))))))))))))) = refl
item_back (inr (inr (inr (inr (inr (inr (inr (inr (inr (inr (inr (inr (inr (inr (inr (inr (inr (inr (inl x))))))))))))))))))) = refl
item_back (inr (inr (inr (inr (inr (inr (inr (inr (inr (inr (inr (inr (inr (inr (inr (inr (inr (inr (inr (inl x)))))))))))))))))))) = refl
item_back (inr (inr (inr (inr (inr (inr (inr (inr (inr (inr (inr (inr (inr (inr (inr (inr (inr (inr (inr (inr (inl x))))))))))))))))))))) = refl
item_back (inr (inr (inr (inr (inr (inr (inr (inr (inr (inr (inr (inr (inr (inr (inr (inr (inr (inr (inr (inr (inr (inl x)))))))))))))))))))))) = refl
item_back (inr (inr (inr (inr (inr (inr (inr (inr (inr (inr (inr (inr (inr (inr (inr (inr (inr (inr (inr (inr (inr (inr x)))))))))))))))))))))) = refl

item_forth : (i : Item) → item_to (item_from i) ≡ i
item_forth (item.World a b c) = refl
item_forth (item.Started a) = refl
item_forth (item.Restarted a) = refl
item_forth (item.Clock a b) = refl
item_forth (item.Asked a b c) = refl
item_forth (item.Posted a b c d) = refl
item_forth (item.Ticked a) = refl
item_forth (item.Sent a b c d e) = refl
item_forth (item.Opened a b c d) = refl
item_forth (item.Closed a b) = refl
item_forth (item.Executed a b) = refl
item_forth (item.Answered a) = refl
item_forth (item.Lost a) = refl
item_forth (item.Pushed a b) = refl
item_forth (item.Delivered a) = refl
item_forth (item.Cut a) = refl
item_forth (item.Taken a b c) = refl
item_forth (item.Pending a b) = refl
item_forth (item.Left a b) = refl
item_forth (item.Expired a) = refl
item_forth (item.Applied a b) = refl
item_forth (item.Reply a b c) = refl
item_forth (item.Body a b c d) = refl

pub item_form-IsForm : IsForm space item_form
unfolding item_form
item_form-IsForm = via-IsForm space item_to item_from item_words (λ w fits. item_back w) item_forth item_words-IsForm
