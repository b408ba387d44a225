-- Texts that stand as they are: how samples, heads of replies and parts of the page begin.
use Rattle.std.specs.Prelude.{ℕ, List, ◌++◌, codes}

unfoldable pub reply_front : List ℕ
reply_front = codes "etcd_proxy_requests_total{path=\""

unfoldable pub build_front : List ℕ
build_front = codes "etcd_proxy_build_info{version=\""

unfoldable pub up_front : List ℕ
up_front = codes "etcd_proxy_member_up{member=\""

unfoldable pub endpoint_front : List ℕ
endpoint_front = codes "\",endpoint=\""

unfoldable pub type_front : List ℕ
type_front = codes "\r\nContent-Type: "

unfoldable pub length_front : List ℕ
length_front = codes "\r\nContent-Length: "

unfoldable pub head_end : List ℕ
head_end = codes "\r\nCache-Control: no-store\r\nConnection: close\r\n\r\n"

unfoldable pub tiles_front : List ℕ
tiles_front = codes "<div class=\"all\">\n"

unfoldable pub host_front : List ℕ
host_front = codes "<td class=\"t\">"

unfoldable pub state_front : List ℕ
state_front = codes "</td><td class=\"t "

unfoldable pub members_front : List ℕ
members_front =
    codes "<h2>Members</h2><table><tr><th>Member</th><th class=\"t\">Endpoint</th><th class=\"t\">State</th>"
    ++ codes "<th>Calls</th><th>Lost</th><th>Mean, ms</th></tr>\n"

unfoldable pub replies_front : List ℕ
replies_front = codes "<h2>Requests</h2><table><tr><th>Path</th><th>Status</th><th>Replies</th></tr>\n"

unfoldable pub ranges_front : List ℕ
ranges_front = codes "<h2>Busiest ranges</h2><table><tr><th>First key</th><th class=\"t\">End</th><th>Messages</th></tr>\n"

-- how the page begins, and how it looks
unfoldable pub page_front : List ℕ
page_front =
    codes "<!DOCTYPE html>\n<html lang=\"en\"><head><meta charset=\"utf-8\"><meta http-equiv=\"refresh\" content=\"2\">\n"
    ++ codes "<meta name=\"viewport\" content=\"width=device-width\"><title>etcd_proxy</title>\n<style>\n"
    ++ codes "body{font:15px/1.45 system-ui,sans-serif;margin:1.5rem;background:#f6f7f9;color:#1c2330}h1{font-size:1.3rem;margin:0 0 1rem}\n"
    ++ codes "h2{font-size:1rem;margin:1.4rem 0 .5rem}.all{display:grid;grid-template-columns:repeat(auto-fill,minmax(11rem,1fr));gap:.7rem}\n"
    ++ codes ".all div,table{background:#fff;border:1px solid #d9dee6;border-radius:6px}.all div{padding:.6rem .8rem;color:#5b6577}\n"
    ++ codes ".all b{display:block;font-size:1.35rem;color:#1c2330}table{border-collapse:collapse;min-width:32rem}\n"
    ++ codes "td,th{padding:.35rem .8rem;text-align:right;border-top:1px solid #e8ebf0}th{color:#5b6577;font-weight:500;border-top:0}\n"
    ++ codes "td:first-child,th:first-child,.t{text-align:left}.up{color:#14783c}.suspect{color:#9a6700}.down,.barred{color:#b42318}\n"
    ++ codes "@media(prefers-color-scheme:dark){body{background:#14181f;color:#e6e9ef}.all div,table{background:#1d232d;border-color:#323a48}\n"
    ++ codes ".all b{color:#fff}.all div,th{color:#9aa5b8}td,th{border-color:#2a313d}.up{color:#4ac27a}.suspect{color:#e0b040}\n"
    ++ codes ".down,.barred{color:#ff7b6b}}\n"
    ++ codes "</style></head><body><h1>etcd_proxy "
