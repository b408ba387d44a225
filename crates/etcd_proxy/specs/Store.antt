-- What `store ADDRESS` does, and what it tells: a store with nothing in it is served at the address.
use Rattle.std.specs.Prelude.{◌≡◌, ◌&&◌, if◌then◌else◌, ℕ, ◌++◌, List, [], ◌∷◌, Option, None, Some, ◌⊎◌, String, codes, bytes_eq}
use Rattle.std.specs.String.{string_bytes}
use Rattle.std.specs.declared.alloc.Global.{Global}
use Rattle.start_words.specs.Values.{is_address}
use Rattle.proxy_service.specs.declared.ends.ServeEnd.{ServeEnd}
use Rattle.shop_service.specs.Service.{Seen, Serves}
use Rattle.etcd_proxy.specs.Run.{Tells}
use Rattle.etcd_proxy.specs.Start.{Wants, status_of_end, text_of_end}

-- the address behind `store`, where the words are these two and it is `host:port`
abbrev pub address_of : List (String Global) → Option (List ℕ)
address_of (command ∷ address ∷ []) =
    if bytes_eq (string_bytes command) (codes "store") && is_address (string_bytes address) then Some (string_bytes address) else None
address_of _ = None

-- what is told once it listens
abbrev pub store_line : List ℕ → List ℕ
store_line address = codes "serving " ++ address ++ codes "\n"

-- a store was served at the address, and that was told once it listened, and then why no more
pub record StoresAt {C : Type 0} (address : List ℕ) (told told' : Option (List ℕ)) (faults faults' : ℕ) (before after : Seen C) (status : ℕ) : Type 0 where
  pub end : ServeEnd
  pub begun : Option (List ℕ)
  pub begun_faults : ℕ
  pub serves : Serves address (store_line address) told begun faults begun_faults before after end
  pub ends : Tells begun told' begun_faults faults' (text_of_end end)
  pub status_is : status ≡ status_of_end end

-- or memory was wanting before anything was called
abbrev pub Stores : {C : Type 0} → List ℕ → Option (List ℕ) → Option (List ℕ) → ℕ → ℕ → Seen C → Seen C → ℕ → Type 0
Stores address told told' faults faults' before after status =
    StoresAt address told told' faults faults' before after status ⊎ (Wants told told' faults faults' status × (after ≡ before))
