-- What holds of one proxy of all that it may still send: no key of it is empty, and without leasing there are no entries, no
-- acquires, no waiting writes and no leasing stream, so that no key of its own is made of an empty leasing prefix.
use Rattle.std.specs.Prelude.{◌≡◌, ℕ, Bool, true, false, not, ◌&&◌, List, is_some}
use Rattle.std.specs.List.{list_all}
use Rattle.etcd_types.specs.Keys.{is_empty}
use Rattle.etcd_types.specs.declared.request.Request.{Request}
use Rattle.etcd_types.specs.declared.request.Request.TheVariants as request
use Rattle.etcd_types.specs.declared.request.WatchAsk.{WatchAsk}
use Rattle.proxy_model.specs.declared.lease.Entry.{Entry}
use Rattle.proxy_model.specs.Wrapped.{request_under}
use Rattle.wait_model.specs.declared.write.Write.{Write}
use Rattle.wait_model.specs.State.{Ownership}
use Rattle.read_model.specs.declared.acquire.Acquire.{Acquire}
use Rattle.read_model.specs.declared.asked.Asked.{Asked}
use Rattle.read_model.specs.State.{Reads, Ground, ground_of}
use Rattle.core_model.specs.declared.event.Job.{Job}
use Rattle.core_model.specs.declared.event.Job.TheVariants as job
use Rattle.core_model.specs.Lookups.{reads_of}
use Rattle.core_model.specs.State.{Core}
use Rattle.namespace_laws.specs.Stored.Laws.{request_lacks}

-- no key of the request is empty
abbrev pub has_keys : Request → Bool
has_keys q = not (request_lacks q)

-- by the leasing prefix, leasing is on
abbrev pub is_leasing : List ℕ → Bool
is_leasing prefix = not (is_empty prefix)

-- Of each thing by itself, under this leasing prefix.

abbrev pub entry_named : List ℕ → List ℕ × Entry → Bool
entry_named p e = is_leasing p

abbrev pub write_named : List ℕ → Write → Bool
write_named p w = is_leasing p && has_keys w.request

abbrev pub acquire_named : List ℕ → List ℕ × Acquire → Bool
acquire_named p x = is_leasing p && not (is_empty x.0)

abbrev pub ask_named : Asked → Bool
ask_named a = has_keys a.request

-- Of all of them.

pub record OwnNamed (p : List ℕ) (own : Ownership) : Type 0 where
  pub prefix : own.waits.prefix ≡ p
  pub entries : list_all (entry_named p) own.entries ≡ true
  pub writes : list_all (write_named p) own.waits.writes ≡ true

pub record GroundNamed (p : List ℕ) (g : Ground) : Type 0 where
  pub own : OwnNamed p g.own
  pub acquires : list_all (acquire_named p) g.acquires ≡ true

pub record ReadsNamed (p : List ℕ) (r : Reads) : Type 0 where
  pub ground : GroundNamed p (ground_of r)
  pub asks : list_all ask_named r.asks ≡ true

pub record CoreNamed (p : List ℕ) (c : Core) : Type 0 where
  pub reads : ReadsNamed p (reads_of c)
  pub leasing : is_some c.leasing ≡ true → is_leasing p ≡ true

-- What is sent: a request without empty keys, or a watch, under the namespace.

pub record CallUnder (namespace : List ℕ) (q : Request) : Type 0 where
  pub bare : Request
  pub under : q ≡ request_under namespace bare
  pub keys : request_lacks bare ≡ false

pub record WatchUnder (namespace : List ℕ) (q : Request) : Type 0 where
  pub bare : WatchAsk
  pub under : q ≡ request_under namespace (request.Watch bare)

abbrev pub JobUnder : List ℕ → Job → Type 0
JobUnder namespace (job.Call call member ticket q) = CallUnder namespace q
JobUnder namespace (job.Begin stream member q) = WatchUnder namespace q
JobUnder namespace (job.Close stream) = Unit {0}
