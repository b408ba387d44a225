-- The page for a browser (HTML Living Standard): one document of its own, which a browser loads anew each two seconds, with no script.
use Rattle.std.specs.Prelude.{ℕ, ◌/◌, List, ◌++◌, codes, flat_map, max}
use Rattle.std.specs.Fmt.{decimal}
use Rattle.metrics_text.specs.declared.figures.Figures.{Figures}
use Rattle.metrics_text.specs.declared.figures.MemberFigure.{MemberFigure}
use Rattle.metrics_text.specs.declared.figures.RangeFigure.{RangeFigure}
use Rattle.metrics_text.specs.declared.figures.ReplyFigure.{ReplyFigure}
use Rattle.metrics_text.specs.Fronts.{page_front, tiles_front, host_front, state_front, members_front, replies_front, ranges_front}
use Rattle.metrics_text.specs.Names.{path_of, state_text}
use Rattle.metrics_text.specs.Pieces.{fraction, shown}

-- a figure with its name
unfoldable pub tile : List ℕ → List ℕ → List ℕ
tile name value = codes "<div><b>" ++ value ++ codes "</b>" ++ name ++ codes "</div>\n"

-- so many of so many
abbrev pub share : ℕ → ℕ → List ℕ
share part whole = decimal part ++ codes " of " ++ decimal whole

unfoldable pub read_tiles : Figures → List ℕ
read_tiles f =
    tile (codes "owned keys") (decimal f.machine.owned)
    ++ tile (codes "reads from memory") (decimal f.clients.cached)
    ++ tile (codes "requests that wait") (decimal f.machine.waiting)

unfoldable pub connections_tile : Figures → List ℕ
connections_tile f = tile (codes "connections") (decimal f.clients.open)

unfoldable pub watches_tile : Figures → List ℕ
watches_tile f = tile (codes "watches") (decimal f.clients.watches)

unfoldable pub messages_tile : Figures → List ℕ
messages_tile f = tile (codes "messages of watches") (decimal f.clients.messages)

unfoldable pub events_tile : Figures → List ℕ
events_tile f = tile (codes "events of watches") (decimal f.clients.events)

unfoldable pub client_tiles : Figures → List ℕ
client_tiles f = connections_tile f ++ watches_tile f ++ messages_tile f ++ events_tile f

unfoldable pub other_tiles : Figures → List ℕ
other_tiles f =
    tile (codes "streams of members") (decimal f.work.streams)
    ++ tile (codes "workers inside calls") (share f.work.busy f.work.workers)
    ++ tile (codes "seconds of the session left") (fraction 1000 f.machine.session)
    ++ tile (codes "revision") (decimal f.machine.revision)
    ++ tile (codes "steps") (decimal f.machine.steps)
    ++ tile (codes "calls that no member took") (decimal f.work.untaken)

unfoldable pub tiles : Figures → List ℕ
tiles f = tiles_front ++ read_tiles f ++ client_tiles f ++ other_tiles f ++ codes "</div>\n"

unfoldable pub cell : List ℕ → List ℕ
cell value = codes "<td>" ++ value ++ codes "</td>"

-- milliseconds of a call in the mean
abbrev pub mean : MemberFigure → List ℕ
mean m = fraction 1000 (m.micros / max m.made 1)

unfoldable pub who : MemberFigure → List ℕ
who m =
    cell (decimal m.number) ++ host_front ++ shown m.host ++ state_front ++ state_text m.state ++ codes "\">" ++ state_text m.state ++ codes "</td>"

unfoldable pub member : MemberFigure → List ℕ
member m = codes "<tr>" ++ who m ++ cell (decimal m.made) ++ cell (decimal m.lost) ++ cell (mean m) ++ codes "</tr>\n"

unfoldable pub members : List MemberFigure → List ℕ
members all = members_front ++ flat_map member all ++ codes "</table>\n"

unfoldable pub reply : ReplyFigure → List ℕ
reply f = codes "<tr><td>" ++ path_of f.kind ++ codes "</td>" ++ cell (decimal f.status) ++ cell (decimal f.count) ++ codes "</tr>\n"

unfoldable pub replies : List ReplyFigure → List ℕ
replies all = replies_front ++ flat_map reply all ++ codes "</table>\n"

-- the keys of a range
unfoldable pub keys : RangeFigure → List ℕ
keys f = codes "<tr><td>" ++ shown f.first ++ codes "</td>" ++ host_front ++ shown f.end ++ codes "</td>"

unfoldable pub range : RangeFigure → List ℕ
range f = keys f ++ cell (decimal f.messages) ++ codes "</tr>\n"

unfoldable pub ranges : List RangeFigure → List ℕ
ranges all = ranges_front ++ flat_map range all ++ codes "</table>\n"

abbrev pub page_text : List ℕ → Figures → List ℕ
page_text version f =
    page_front ++ shown version ++ codes "</h1>\n" ++ tiles f ++ members f.members ++ replies f.replies ++ ranges f.ranges ++ codes "</body></html>\n"
