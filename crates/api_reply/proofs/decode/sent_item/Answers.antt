-- The line without its line feed is the text of the message.
use Rattle.std.proofs.Common.{sym, ◌∙◌}
use Rattle.api_reply.proofs.SentTexts.{text_item}
use Rattle.api_reply.proofs.decode.sent_item.Goals as goal

pub returns : goal.returns
returns c =
    let sent = c.in_ok-header.ensures in
    text_item c.in_ok-header.header c.in_ok-header.events c.args.line.now (sym c.without_line_feed.ensures ∙ sent.text) sent.header sent.events
