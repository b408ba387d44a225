use Rattle.std.specs.Prelude.{string_bytes}
use Rattle.script_text.proofs.Calls.{item_appended}
use Rattle.script_text.proofs.texts.append_item.Goals as goal

pub returns : goal.returns
returns c =
    item_appended c.args.item.now (string_bytes c.args.out.now) (string_bytes c.push_item.new.out) (string_bytes c.pop-space.new.self) _ c.in_ok-push_item.ensures c.push_item.new.out.bytes.ok.0 c.pop-space.ensures.ascii_bytes
