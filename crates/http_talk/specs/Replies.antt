-- What is written to a client: replies, messages of a watch as chunks, and the word that it may send its body.
use Rattle.std.specs.Prelude.{ℕ, Bool, true, false, List, [], ◌++◌, if◌then◌else◌}
use Rattle.etcd_types.specs.declared.answer.Answer.{Answer}
use Rattle.etcd_types.specs.declared.watch.WatchItem.{WatchItem}
use Rattle.etcd_types.specs.declared.watch.WatchItem.TheVariants.{Canceled}
use Rattle.json_model.specs.WrittenReplies.{answer_status, item_text}
use Rattle.http_wire.specs.declared.message.Head.{Head}
use Rattle.http_wire.specs.Written.{reply, go_on, chunks_head, chunk, last_chunk}
use Rattle.http_talk.specs.Forms.{body_by}
use Rattle.http_talk.specs.declared.form.RefusalForm.{RefusalForm}

-- the message that ends a watch
abbrev pub is_cancel : WatchItem → Bool
is_cancel (Canceled header compact) = true
is_cancel _ = false

unfoldable pub reply_of : RefusalForm → Answer → List ℕ
reply_of form answer = reply (answer_status answer) (body_by form answer)

-- the head of a reply in chunks, where that isn't written yet
unfoldable pub head_unless : Bool → List ℕ
head_unless begun = if begun then [] else chunks_head

-- the end of a reply in chunks, behind the last one
unfoldable pub end_if : Bool → List ℕ
end_if last = if last then last_chunk else []

-- what a message of a watch says to the client: a chunk, with the head before the first, and the end behind the last
unfoldable pub said_in_chunk : Bool → WatchItem → List ℕ
said_in_chunk begun item = head_unless begun ++ chunk (item_text item) ++ end_if (is_cancel item)

-- a reply says itself, or no more than the end of the chunks that were begun
unfoldable pub said_as_reply : RefusalForm → Bool → Answer → List ℕ
said_as_reply form begun answer = if begun then last_chunk else reply_of form answer

-- where the client waits for it before it sends the body
unfoldable pub go_on_of : Head → List ℕ
go_on_of head = if head.expects then go_on else []
