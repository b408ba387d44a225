-- The header is taken behind the message, since that may want memory.
use Rattle.std.proofs.Common.{◌≡◌, Err, sym, ap, ◌∙◌}
use Rattle.etcd_types.specs.declared.record.Header.{Header}
use Rattle.proxy_model.specs.Unwrapped.{item_without}
use Rattle.core_model.specs.Heard.{header_taken}
use Rattle.core_model.specs.LeasingStream.{leasing_cut, leasing_message}
use Rattle.core_model.specs.State.{Core}
use Rattle.core_machine.specs.Keeping.{Kept, on}
use Rattle.core_machine.proofs.Messages.{header_alone, message_heard, message_foreign}
use Rattle.core_machine.proofs.machine.Machine.hear_leasing.Goals as goal

after : (f : Core → Core) (k h out : Kept) (d : Core) → out ≡ on h (f h.core) → h ≡ on k d → out ≡ on k (f d)
after f k h out d a b = a ∙ ap (λ (v : Kept). on v (f v.core)) b

pub returns-then-is_to_be_opened-clause-ok : goal.returns-then-is_to_be_opened-clause-ok
returns-then-is_to_be_opened-clause-ok c = λ o e.
    let k = c.args.self.now in
    c.take_header.ensures ∙ ap (λ (h : Header). on k (header_taken h k.core)) c.item_header-delivered.ensures
    ∙ ap (on k) (sym (header_alone c.args.now o c.args.item k.core (sym (c.is_to_be_opened.ensures o e) ∙ c.if-is_to_be_opened.true)))

pub returns-in-Ok-clause-ok : goal.returns-in-Ok-clause-ok
returns-in-Ok-clause-ok c = λ o e.
    let k = c.args.self.now in
    let d = leasing_message c.args.now o c.in-Ok.item k.core in
    let read = ap (λ (v : Kept). item_without v.core.settings.namespace c.args.item) (sym c.self.view_is) ∙ c.in-Ok.ensures in
    after (header_taken c.item_header-delivered.result) k c.hear_message.new.self c.take_header-in-Ok.new.self d c.take_header-in-Ok.ensures
    (c.in_ok-hear_message-in-Ok.ensures.ok o e)
    ∙ ap (λ (h : Header). on k (header_taken h d)) c.item_header-delivered.ensures
    ∙ ap (on k) (sym (message_heard c.args.now o c.args.item c.in-Ok.item k.core (sym (c.is_to_be_opened.ensures o e) ∙ c.if-is_to_be_opened.false) read))

pub returns-in-Err-ForeignKey-clause-ok : goal.returns-in-Err-ForeignKey-clause-ok
returns-in-Err-ForeignKey-clause-ok c = λ o e.
    let k = c.args.self.now in
    let heard = c.take_header-in-Err-ForeignKey.ensures in
    let foreign : item_without c.self.inside.namespace c.args.item ≡ Err c.in-Err-ForeignKey.field-0-0 =
    rw c.in-Err-ForeignKey.field-0-is at c.in-Err-ForeignKey.ensures in
    let read = ap (λ (v : Kept). item_without v.core.settings.namespace c.args.item) (sym c.self.view_is) ∙ foreign in
    after (leasing_cut o) k c.take_header-in-Err-ForeignKey.new.self c.cut_leasing.new.self (header_taken c.item_header-delivered.result k.core)
    (c.cut_leasing.ensures o (ap (λ (v : Kept). v.core.leasing) heard ∙ e)) heard
    ∙ ap (λ (h : Header). on k (leasing_cut o (header_taken h k.core))) c.item_header-delivered.ensures
    ∙ ap (on k) (sym (message_foreign c.args.now o c.args.item c.in-Err-ForeignKey.field-0-0 k.core (sym (c.is_to_be_opened.ensures o e) ∙ c.if-is_to_be_opened.false) read))
