-- Replies of the second listener (RFC 9112, section 6.2: the length; section 9.6: the connection ends behind the reply).
use Rattle.std.specs.Prelude.{ℕ, List, [], length, ◌++◌, codes, Bool, nat_eq, if◌then◌else◌}
use Rattle.std.specs.Fmt.{decimal}
use Rattle.metrics_text.specs.Fronts.{type_front, length_front, head_end}
use Rattle.metrics_text.specs.declared.reply.Content.{Content}
use Rattle.metrics_text.specs.declared.reply.Content.TheVariants as content

unfoldable pub type_text : Content → List ℕ
type_text content.Metrics = codes "text/plain; version=0.0.4; charset=utf-8"
type_text content.Page = codes "text/html; charset=utf-8"
type_text content.Json = codes "application/json"

unfoldable pub phrase : ℕ → List ℕ
phrase status =
    if nat_eq status 200 then codes "OK"
    else if nat_eq status 404 then codes "Not Found"
    else if nat_eq status 405 then codes "Method Not Allowed"
    else codes "Service Unavailable"

unfoldable pub status_line : ℕ → List ℕ
status_line status = codes "HTTP/1.1 " ++ decimal status ++ codes " " ++ phrase status

unfoldable pub head_text : ℕ → Content → ℕ → List ℕ
head_text status type size =
    status_line status
    ++ type_front ++ type_text type
    ++ length_front ++ decimal size
    ++ head_end

-- the reply to a HEAD has no body
abbrev pub reply_text : Bool → ℕ → Content → List ℕ → List ℕ
reply_text bodiless status type body = head_text status type (length body) ++ (if bodiless then [] else body)
