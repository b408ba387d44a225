-- What `grpc-proxy start` does with its options, and what it tells: the settings that they name are served, and else it is told why not.
-- The command's name is that of etcd's grpc-proxy manual.
use Rattle.std.specs.Prelude.{◌≡◌, ◌==◌, ◌&&◌, if◌then◌else◌, not, Bool, true, ℕ, ◌*◌, ◌++◌, List, [], ◌∷◌, length, Option, None, Some, Ok, Err, String, codes, bytes_eq}
use Rattle.std.specs.List.{list_all}
use Rattle.std.specs.String.{string_bytes}
use Rattle.std.specs.declared.alloc.Global.{Global}
use Rattle.start_words.specs.Reads.{Reads}
use Rattle.start_words.specs.Start.{Names}
use Rattle.start_words.specs.Texts.{serving_text, wrong_text}
use Rattle.start_words.specs.declared.settings.StartSettings.{StartSettings}
use Rattle.start_words.specs.declared.start_fault.StartFault.TheVariants.{Help, Usage}
use Rattle.start_words.specs.declared.wrong.Wrong.{Wrong}
use Rattle.http_talk.specs.declared.form.RefusalForm.{RefusalForm}
use Rattle.http_talk.specs.declared.form.RefusalForm.TheVariants.{Mapping, Etcd}
use Rattle.proxy_service.specs.Service.{Seen, Serves}
use Rattle.proxy_service.specs.declared.ends.ServeEnd.{ServeEnd}
use Rattle.proxy_service.specs.declared.ends.ServeEnd.TheVariants.{Stopped, NoMemory, ListenerFault, SpawnerFault}
use Rattle.proxy_service.specs.declared.service.Service.{Service}
use Rattle.etcd_proxy.specs.Run.{Prints, Tells}
use Rattle.etcd_proxy.specs.Texts.{usage_text}

-- the options behind `grpc-proxy start`, where the words begin so
abbrev pub options_of : List (String Global) → Option (List (String Global))
options_of (program ∷ command ∷ options) =
    if bytes_eq (string_bytes program) (codes "grpc-proxy") && bytes_eq (string_bytes command) (codes "start") then Some options else None
options_of _ = None

-- refusals are the mapping's, but where etcd's own form was asked for
abbrev pub form_of : Bool → RefusalForm
form_of etcd_errors = if etcd_errors then Etcd else Mapping

abbrev pub service_of : StartSettings → Service
service_of s = record {
  core = record { members = length s.endpoints; namespace = s.namespace; leasing = s.leasing; ttl = s.session_ttl };
  hosts = s.endpoints;
  listen = s.listen;
  workers = s.workers;
  message_limit = s.message_limit * 1048576;
  form = form_of s.etcd_errors;
}

abbrev pub status_of_end : ServeEnd → ℕ
status_of_end Stopped = 0
status_of_end NoMemory = 5
status_of_end ListenerFault = 7
status_of_end SpawnerFault = 8

abbrev pub text_of_end : ServeEnd → List ℕ
text_of_end Stopped = []
text_of_end NoMemory = codes "no memory\n"
text_of_end ListenerFault = codes "listener fault\n"
text_of_end SpawnerFault = codes "spawner fault\n"

-- memory was wanting, and that is told
abbrev pub Wants : Option (List ℕ) → Option (List ℕ) → ℕ → ℕ → ℕ → Type 0
Wants told told' faults faults' status = Tells told told' faults faults' (codes "no memory\n") × (status ≡ 5)

-- why the options are refused is told, and then how the command is used
abbrev pub Refuses : Option (List ℕ) → Option (List ℕ) → ℕ → ℕ → List ℕ → ℕ → Type 0
Refuses told told' faults faults' why status = Tells told told' faults faults' (why ++ usage_text) × (status ≡ 2)

-- these settings were served, and it was told what is served where once it listened, and then why no more
pub record ServesAs {C : Type 0} (settings : StartSettings) (told told' : Option (List ℕ)) (faults faults' : ℕ) (before after : Seen C) (status : ℕ) : Type 0 where
  pub end : ServeEnd
  pub begun : Option (List ℕ)
  pub begun_faults : ℕ
  pub serves : Serves (service_of settings) (serving_text settings.listen settings.endpoints) told begun faults begun_faults before after end
  pub ends : Tells begun told' begun_faults faults' (text_of_end end)
  pub status_is : status ≡ status_of_end end

-- what the output, the errors, the host and the spawner tell at a moment, and how often each has failed
pub record Moment (C : Type 0) : Type 0 where
  pub written : Option (List ℕ)
  pub write_faults : ℕ
  pub told : Option (List ℕ)
  pub tell_faults : ℕ
  pub serving : Seen C

abbrev pub moment : {C : Type 0} → Option (List ℕ) → ℕ → Option (List ℕ) → ℕ → Seen C → Moment C
moment written write_faults told tell_faults serving =
    record { written = written; write_faults = write_faults; told = told; tell_faults = tell_faults; serving = serving }

abbrev pub Unwritten : {C : Type 0} → Moment C → Moment C → Type 0
Unwritten before after = (after.written ≡ before.written) × (after.write_faults ≡ before.write_faults)

abbrev pub Unserved : {C : Type 0} → Moment C → Moment C → Type 0
Unserved before after = after.serving ≡ before.serving

-- no byte of it is a line feed
abbrev pub is_one : List ℕ → Bool
is_one bytes = list_all (λ b. not (b == 10)) bytes

-- one line, with its line feed
pub record IsLine (text : List ℕ) : Type 0 where
  pub line : List ℕ
  pub ends : text ≡ line ++ (10 ∷ [])
  pub one : is_one line ≡ true

-- By the options: they name settings, which are served; they ask for help, which is written; a value isn't of its form, or the words aren't
-- the command's, and then it is told why, and how the command is used. Or memory was wanting before anything was called.
pub data Starts {C : Type 0} (options : List (List ℕ)) (before after : Moment C) (status : ℕ) : Type 0 where
  serves : (settings : StartSettings) → Names options (Ok settings) → Unwritten before after
      → ServesAs settings before.told after.told before.tell_faults after.tell_faults before.serving after.serving status → Starts options before after status
  helps : (text : String Global) → Reads options (Err (Help text)) → Unserved before after
      → Prints before.written after.written before.write_faults after.write_faults before.told after.told before.tell_faults after.tell_faults (string_bytes text) status
      → Starts options before after status
  wrong_value : (wrong : Wrong) → Names options (Err wrong) → Unwritten before after → Unserved before after
      → Refuses before.told after.told before.tell_faults after.tell_faults (wrong_text wrong) status → Starts options before after status
  wrong_words : (text : String Global) (why : List ℕ) → Reads options (Err (Usage text)) → IsLine why → Unwritten before after → Unserved before after
      → Refuses before.told after.told before.tell_faults after.tell_faults why status → Starts options before after status
  wanting : Unwritten before after → Unserved before after → Wants before.told after.told before.tell_faults after.tell_faults status → Starts options before after status
