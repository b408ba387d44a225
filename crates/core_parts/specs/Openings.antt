-- What becomes of the leasing stream where it broke off, began anew, or was told of something. The machine's definition gives each
-- by the stream's number, the step and what the proxy keeps of it (clientv3's watcher resumes so).
use Rattle.std.specs.Prelude.{ℕ}
use Rattle.proxy_model.specs.Upstream.{Upstream, opened, cut}
use Rattle.core_model.specs.LeasingStream.{opening_of}
use Rattle.core_model.specs.State.{Opening}

-- it goes on from its next revision
abbrev pub reopened : ℕ → ℕ → Opening → Opening
reopened number step o = opening_of number step (cut o.stream)

-- it begins anew, behind the newest revision
abbrev pub renewed : ℕ → ℕ → Opening → Opening
renewed number step o = opening_of number step (opened o.stream.range 0)

abbrev pub with_stream : Upstream → Opening → Opening
with_stream stream o = record o { stream = stream }
