-- How far an answer could be read, and what it says.
use Rattle.std.proofs.Common.{List, ℕ, subst}
use Rattle.server_model.specs.Calls.{Says}
use Rattle.server_model.proofs.Hears.{nothing_heard, no_head, no_body, heard_whole, cause_of}
use Rattle.proxy_calls.proofs.hear.hear.Goals as goal

pub returns-in_default : goal.returns-in_default
returns-in_default g c = nothing_heard c.args.request.now _ _

pub returns-in-Err : goal.returns-in-Err
returns-in-Err g c =
    no_head c.args.request.now (g.S.Source.left c.args.source.now) (g.S.Source.left c.read_answer.new.source) c.in-Ok.wire c.read_answer.new.self _ _ c.in-Err.fault c.lost_by-why.result
    c.lost_by-why.ensures c.requires.fresh c.in-Ok.ensures.held (cause_of _ c.in-Err.fault _ _ (c.in-Err.ensures.cause c.in-Ok.ensures.fault)) (c.in-Err.ensures.read c.in-Ok.ensures.fault)

pub returns-in-Err-read_whole : goal.returns-in-Err-read_whole
returns-in-Err-read_whole g c =
    no_body c.args.request.now (g.S.Source.left c.args.source.now) _ (g.S.Source.left c.read_whole.new.source) c.in-Ok.wire c.read_whole.new.self _ _ _ c.in-Ok-read_answer.head
    c.in-Err-read_whole.fault c.lost_by-why-in-Err-read_whole.result c.lost_by-why-in-Err-read_whole.ensures c.requires.fresh c.in-Ok-read_answer.ensures.kept c.in-Ok.ensures.held
    (cause_of _ c.in-Err-read_whole.fault _ _ (c.in-Err-read_whole.ensures.cause (c.in-Ok-read_answer.ensures.fault c.in-Ok.ensures.fault)))
    (c.in-Ok-read_answer.ensures.read c.in-Ok.ensures.fault) (c.in-Err-read_whole.ensures.read (c.in-Ok-read_answer.ensures.fault c.in-Ok.ensures.fault))

pub returns : goal.returns
returns g c =
    heard_whole c.args.request.now (g.S.Source.left c.args.source.now) _ (g.S.Source.left c.read_whole.new.source) c.in-Ok.wire c.read_whole.new.self _ c.in-Ok-read_answer.head
    c.in-Ok-read_whole.body c.is_clear.result c.end_of-how.result c.say-said.result c.in-Ok.ensures.held c.is_clear.ensures c.end_of-how.ensures
    (c.in-Ok-read_answer.ensures.read c.in-Ok.ensures.fault) (c.in-Ok-read_whole.ensures.read (c.in-Ok-read_answer.ensures.fault c.in-Ok.ensures.fault))
    (subst (λ (body : List ℕ). Says c.args.request.now c.in-Ok-read_answer.head.status body c.say-said.result) c.as_slice.ensures c.say-said.ensures)
