-- By what reading the options gave.
use Rattle.std.proofs.Common.{map, refl, string_bytes}
use Rattle.etcd_proxy.proofs.Started.{served_or_wanting, helped, refused_words, refused_value}
use Rattle.etcd_proxy.proofs.start.start.Goals as goal

pub returns-in-Ok : goal.returns-in-Ok
returns-in-Ok g c = served_or_wanting (map string_bytes c.args.options.now) _ _ _ _ _ _ _ c.in-Ok.settings _ _ c.in-Ok.ensures.reads c.serve_as.ensures

pub returns-in-Err-Help : goal.returns-in-Err-Help
returns-in-Err-Help g c = helped (map string_bytes c.args.options.now) _ _ _ c.in-Err-Help.text c.in-Err-Help.field-0 _ c.as_bytes.ensures.value c.in-Err-Help.field-0-is c.in-Err-Help.ensures.reads refl c.print.ensures

pub returns-in-Err-Usage : goal.returns-in-Err-Usage
returns-in-Err-Usage g c =
    refused_words (map string_bytes c.args.options.now) _ _ _ _ _ _ _ (λ l. l.items) c.in-Err-Usage.text c.in-Err-Usage.field-0 _ c.one_line.result c.in-Err-Usage.field-0-is c.in-Err-Usage.ensures.reads c.one_line.ensures c.refuse.ensures

pub returns-in-Err-Wrong : goal.returns-in-Err-Wrong
returns-in-Err-Wrong g c =
    refused_value (map string_bytes c.args.options.now) _ _ _ _ _ _ _ (λ l. l.items) c.in-Err-Wrong.wrong c.in-Err-Wrong.field-0 _ c.wrong_line.result c.in-Err-Wrong.field-0-is c.in-Err-Wrong.ensures.reads c.wrong_line.ensures c.refuse-in-Err-Wrong.ensures
