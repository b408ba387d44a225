-- The figures in the text format of Prometheus (exposition formats, text-based format, version 0.0.4): of each family its help, its type and
-- its samples. Names have base units, and counters end in `_total`.
use Rattle.std.specs.Prelude.{ℕ, List, ◌++◌, codes, flat_map}
use Rattle.std.specs.Fmt.{decimal}
use Rattle.metrics_text.specs.declared.figures.ClientFigures.{ClientFigures}
use Rattle.metrics_text.specs.declared.figures.Figures.{Figures}
use Rattle.metrics_text.specs.declared.figures.MachineFigures.{MachineFigures}
use Rattle.metrics_text.specs.declared.figures.MemberFigure.{MemberFigure}
use Rattle.metrics_text.specs.declared.figures.ReplyFigure.{ReplyFigure}
use Rattle.metrics_text.specs.declared.figures.WorkFigures.{WorkFigures}
use Rattle.metrics_text.specs.Fronts.{build_front, reply_front, up_front, endpoint_front}
use Rattle.metrics_text.specs.Names.{path_of, is_up}
use Rattle.metrics_text.specs.Pieces.{fraction, label_text}

unfoldable pub family : List ℕ → List ℕ → List ℕ → List ℕ
family name type help =
    codes "# HELP " ++ name ++ codes " " ++ help ++ codes "\n# TYPE " ++ name ++ codes " " ++ type ++ codes "\n"

-- a family with one sample
unfoldable pub single : List ℕ → List ℕ → List ℕ → List ℕ → List ℕ
single name type help value = family name type help ++ name ++ codes " " ++ value ++ codes "\n"

unfoldable pub gauge : List ℕ → List ℕ → ℕ → List ℕ
gauge name help value = single name (codes "gauge") help (decimal value)

unfoldable pub counter : List ℕ → List ℕ → ℕ → List ℕ
counter name help value = single name (codes "counter") help (decimal value)

unfoldable pub build_family : List ℕ
build_family = family (codes "etcd_proxy_build_info") (codes "gauge") (codes "The version of the proxy.")

unfoldable pub build : List ℕ → List ℕ
build version = build_family ++ build_front ++ label_text version ++ codes "\"} 1\n"

unfoldable pub open_series : ClientFigures → List ℕ
open_series f = gauge (codes "etcd_proxy_connections") (codes "Connections of clients that are open.") f.open

unfoldable pub opened_series : ClientFigures → List ℕ
opened_series f = counter (codes "etcd_proxy_connections_opened_total") (codes "Connections of clients that were opened.") f.opened

unfoldable pub watches_series : ClientFigures → List ℕ
watches_series f = gauge (codes "etcd_proxy_watches") (codes "Watches that are being served.") f.watches

unfoldable pub messages_series : ClientFigures → List ℕ
messages_series f = counter (codes "etcd_proxy_watch_messages_total") (codes "Messages that watches were sent.") f.messages

unfoldable pub events_series : ClientFigures → List ℕ
events_series f = counter (codes "etcd_proxy_watch_events_total") (codes "Events that watches were sent.") f.events

unfoldable pub cached_series : ClientFigures → List ℕ
cached_series f = counter (codes "etcd_proxy_cached_reads_total") (codes "Reads that were answered from memory.") f.cached

unfoldable pub clients : ClientFigures → List ℕ
clients f = open_series f ++ opened_series f ++ watches_series f ++ messages_series f ++ events_series f ++ cached_series f

unfoldable pub owned_series : MachineFigures → List ℕ
owned_series f = gauge (codes "etcd_proxy_owned_keys") (codes "Keys that the proxy owns.") f.owned

unfoldable pub waiting_series : MachineFigures → List ℕ
waiting_series f = gauge (codes "etcd_proxy_requests_waiting") (codes "Requests that have no reply yet.") f.waiting

unfoldable pub steps_series : MachineFigures → List ℕ
steps_series f = counter (codes "etcd_proxy_steps_total") (codes "Steps of the proxy.") f.steps

unfoldable pub revision_series : MachineFigures → List ℕ
revision_series f = gauge (codes "etcd_proxy_revision") (codes "Highest revision of the store that the proxy was told.") f.revision

unfoldable pub session_series : MachineFigures → List ℕ
session_series f = single (codes "etcd_proxy_session_remaining_seconds") (codes "gauge") (codes "Time until the proxy's session ends.") (fraction 1000 f.session)

unfoldable pub machine : MachineFigures → List ℕ
machine f = owned_series f ++ waiting_series f ++ steps_series f ++ revision_series f ++ session_series f

unfoldable pub workers_series : WorkFigures → List ℕ
workers_series f = gauge (codes "etcd_proxy_workers") (codes "Workers that make calls.") f.workers

unfoldable pub busy_series : WorkFigures → List ℕ
busy_series f = gauge (codes "etcd_proxy_workers_busy") (codes "Workers that are inside a call.") f.busy

unfoldable pub streams_series : WorkFigures → List ℕ
streams_series f = gauge (codes "etcd_proxy_member_streams") (codes "Streams of members that are followed.") f.streams

unfoldable pub untaken_series : WorkFigures → List ℕ
untaken_series f = counter (codes "etcd_proxy_calls_untaken_total") (codes "Calls that no member took.") f.untaken

unfoldable pub work : WorkFigures → List ℕ
work f = workers_series f ++ busy_series f ++ streams_series f ++ untaken_series f

unfoldable pub reply : ReplyFigure → List ℕ
reply f =
    reply_front ++ path_of f.kind ++ codes "\",code=\"" ++ decimal f.status ++ codes "\"} " ++ decimal f.count ++ codes "\n"

unfoldable pub replies_family : List ℕ
replies_family =
    family (codes "etcd_proxy_requests_total") (codes "counter") (codes "Requests of clients that were replied to, by path and status.")

unfoldable pub replies : List ReplyFigure → List ℕ
replies all = replies_family ++ flat_map reply all

-- a sample of a member, up to its value
unfoldable pub labelled : List ℕ → MemberFigure → List ℕ
labelled name m = name ++ codes "{member=\"" ++ decimal m.number ++ codes "\"} "

unfoldable pub sample : List ℕ → MemberFigure → List ℕ → List ℕ
sample name m value = labelled name m ++ value ++ codes "\n"

unfoldable pub up_of : MemberFigure → List ℕ
up_of m = up_front ++ decimal m.number ++ endpoint_front ++ label_text m.host

unfoldable pub up : MemberFigure → List ℕ
up m = up_of m ++ codes "\"} " ++ decimal (is_up m.state) ++ codes "\n"

unfoldable pub made : MemberFigure → List ℕ
made m = sample (codes "etcd_proxy_member_calls_total") m (decimal m.made)

unfoldable pub seconds : MemberFigure → List ℕ
seconds m = sample (codes "etcd_proxy_member_call_seconds_total") m (fraction 1000000 m.micros)

unfoldable pub lost : MemberFigure → List ℕ
lost m = sample (codes "etcd_proxy_member_calls_lost_total") m (decimal m.lost)

unfoldable pub up_family : List ℕ
up_family = family (codes "etcd_proxy_member_up") (codes "gauge") (codes "Whether calls go to a member.")

unfoldable pub made_family : List ℕ
made_family = family (codes "etcd_proxy_member_calls_total") (codes "counter") (codes "Calls to a member that ended.")

unfoldable pub seconds_family : List ℕ
seconds_family = family (codes "etcd_proxy_member_call_seconds_total") (codes "counter") (codes "Time that calls to a member took.")

unfoldable pub lost_family : List ℕ
lost_family = family (codes "etcd_proxy_member_calls_lost_total") (codes "counter") (codes "Calls to a member whose answer was lost.")

unfoldable pub first_families : List MemberFigure → List ℕ
first_families all = up_family ++ flat_map up all ++ made_family ++ flat_map made all

unfoldable pub other_families : List MemberFigure → List ℕ
other_families all = seconds_family ++ flat_map seconds all ++ lost_family ++ flat_map lost all

unfoldable pub members : List MemberFigure → List ℕ
members all = first_families all ++ other_families all

abbrev pub metrics_text : List ℕ → Figures → List ℕ
metrics_text version f = build version ++ clients f.clients ++ machine f.machine ++ work f.work ++ replies f.replies ++ members f.members
