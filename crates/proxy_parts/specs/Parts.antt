-- What a part did that is run once: a connection was served, or a stream was followed.
use Rattle.std.specs.Prelude.{◌≡◌, ℕ, List, Option, Some}
use Rattle.outside.specs.Calls.{LinkCall}
use Rattle.outside.specs.Faults.{Rose}
use Rattle.outside.specs.declared.parts.Follow.{Follow}
use Rattle.outside.specs.declared.parts.TicketRange.{TicketRange}
use Rattle.http_wire.specs.declared.message.Head.{Head}
use Rattle.http_talk.specs.declared.form.RefusalForm.{RefusalForm}
use Rattle.http_talk.specs.declared.ready.Ready.{Ready}
use Rattle.server_model.specs.Complete.{Completes}
use Rattle.server_model.specs.Dialog.{Dialog}
use Rattle.server_model.specs.Numbers.{LastNumbered}
use Rattle.server_model.specs.Steps.{Step, NoEvent}
use Rattle.server_model.specs.declared.ends.SessionEnd.{SessionEnd}
use Rattle.server_model.specs.declared.ends.SessionEnd.TheVariants.{ReadFault, WriteFault}
use Rattle.server_model.specs.StreamParts.{IsFollowed}
use Rattle.server_model.specs.declared.ends.StreamEnd.{StreamEnd}
use Rattle.server_model.specs.declared.ends.PartEnd.{PartEnd}
use Rattle.server_model.specs.declared.ends.PartEnd.TheVariants.{Connection, Follower}

-- A connection was served: its source and sink are given back, and its dialog, its tickets and words, and the causes of its end are as
-- they are of any connection. `left`, `written` and the two counts are what is told of a source and of a sink; `worn` says that the hub
-- has made its last step, `form` how refusals are written, and `gives`
-- which answers with no step may be given to a head and a body.
pub record Served {S K : Type 0} (form : RefusalForm) (left : S → Option (List ℕ)) (reads : S → ℕ) (written : K → Option (List ℕ)) (writes : K → ℕ)
    (gives : Head → List ℕ → Option Ready → Type 0)
    (connection : S × K) (tickets : TicketRange) (worn : Type 0) (made made' : Option (List Step)) (given given' : Option (List ℕ))
    (source' : Option S) (sink' : Option K) (end' : PartEnd) : Type 0 where
  pub source : S
  pub sink : K
  pub end : SessionEnd
  pub gives_source : source' ≡ Some source
  pub gives_sink : sink' ≡ Some sink
  pub ends : end' ≡ Connection end
  pub read_cause : end ≡ ReadFault → Rose (reads connection.0) (reads source)
  pub write_cause : end ≡ WriteFault → Rose (writes connection.1) (writes sink)
  pub numbered : LastNumbered end tickets.end tickets.next given given' made made'
  pub dialog : Dialog form gives NoEvent worn (left connection.0) made made' (written connection.1) (written sink) end
  pub complete : Completes (left connection.0) made made' worn tickets.end tickets.next
      (reads connection.0) (reads source) (writes connection.1) (writes sink) end

-- A stream was followed, by this limit of a message.
pub record Followed (most : ℕ) (follow : Follow) (worn : Type 0) (called called' : Option (List LinkCall)) (faults faults' : ℕ)
    (made made' : Option (List Step)) (end' : PartEnd) : Type 0 where
  pub end : StreamEnd
  pub ends : end' ≡ Follower end
  pub followed : IsFollowed worn most follow called called' faults faults' made made' end
