-- What `grpc-proxy start` did, by what its options are.
use Rattle.std.proofs.Common.{◌≡◌, ℕ, String, List, Option, Result, Ok, Err, IfOk, inl, inr, refl, subst}
use Rattle.std.specs.Prelude.{◌⊎◌, MatchResult}
use Rattle.std.specs.String.{string_bytes}
use Rattle.std.specs.declared.alloc.Global.{Global}
use Rattle.start_words.specs.Reads.{Reads}
use Rattle.start_words.specs.Start.{Names}
use Rattle.start_words.specs.Texts.{wrong_text}
use Rattle.start_words.specs.declared.settings.StartSettings.{StartSettings}
use Rattle.start_words.specs.declared.start_fault.StartFault.{StartFault}
use Rattle.start_words.specs.declared.start_fault.StartFault.TheVariants.{Help, Usage, Wrong as WrongValue}
use Rattle.start_words.specs.declared.wrong.Wrong.{Wrong}
use Rattle.proxy_service.specs.Service.{Seen}
use Rattle.etcd_proxy.specs.Run.{Prints}
use Rattle.etcd_proxy.specs.Start.{IsLine, Wants, Refuses, ServesAs, Moment, Unserved, Starts, serves, helps, wrong_value, wrong_words, wanting, moment}

-- the fault under another name
read_as : (options : List (List ℕ)) (a b : StartFault) → a ≡ b → Reads options (Err a) → Reads options (Err b)
read_as options a b e r = subst (λ (f : StartFault). Reads options (Err f)) e r

module _ {C : Type 0} (options : List (List ℕ)) (written : Option (List ℕ)) (faults : ℕ) (told told' : Option (List ℕ)) (n m status : ℕ) where
  pub served_or_wanting : (settings : StartSettings) (before after : Seen C) → Names options (Ok settings)
      → ServesAs settings told told' n m before after status ⊎ (Wants told told' n m status × (after ≡ before))
      → Starts options (moment written faults told n before) (moment written faults told' m after) status
  served_or_wanting settings before after named (inl s) = serves settings named (refl, refl) s
  served_or_wanting settings before after named (inr w) = wanting (refl, refl) w.1 w.0

  pub refused_words : {V : Type 0} (items : V → List ℕ) (text : String Global) (fault : StartFault) (seen : Seen C) → {E : Type 0} (line : Result V E) → fault ≡ Usage text → Reads options (Err fault)
      → IfOk line (λ l. IsLine (items l)) → MatchResult line (λ l. Refuses told told' n m (items l) status ⊎ Wants told told' n m status) (λ e. Wants told told' n m status)
      → Starts options (moment written faults told n seen) (moment written faults told' m seen) status
  refused_words items text fault seen (Ok line) e reads is (inl r) = wrong_words text (items line) (read_as options fault (Usage text) e reads) is (refl, refl) refl r
  refused_words items text fault seen (Ok line) e reads is (inr w) = wanting (refl, refl) refl w
  refused_words items text fault seen (Err f) e reads is w = wanting (refl, refl) refl w

  pub refused_value : {V : Type 0} (items : V → List ℕ) (wrong : Wrong) (fault : StartFault) (seen : Seen C) → {E : Type 0} (line : Result V E) → fault ≡ WrongValue wrong → Reads options (Err fault)
      → IfOk line (λ l. items l ≡ wrong_text wrong) → MatchResult line (λ l. Refuses told told' n m (items l) status ⊎ Wants told told' n m status) (λ e. Wants told told' n m status)
      → Starts options (moment written faults told n seen) (moment written faults told' m seen) status
  refused_value items wrong fault seen (Ok line) e reads is (inl r) =
      wrong_value wrong (read_as options fault (WrongValue wrong) e reads) (refl, refl) refl (subst (λ (why : List ℕ). Refuses told told' n m why status) is r)
  refused_value items wrong fault seen (Ok line) e reads is (inr w) = wanting (refl, refl) refl w
  refused_value items wrong fault seen (Err f) e reads is w = wanting (refl, refl) refl w

pub helped : {C : Type 0} (options : List (List ℕ)) (before after : Moment C) (status : ℕ) (text : String Global) (fault : StartFault) (shown : List ℕ) → shown ≡ string_bytes text → fault ≡ Help text → Reads options (Err fault) → Unserved before after
    → Prints before.written after.written before.write_faults after.write_faults before.told after.told before.tell_faults after.tell_faults shown status → Starts options before after status
helped options before after status text fault shown is e reads same p =
    helps text (read_as options fault (Help text) e reads) same
    (subst (λ (t : List ℕ). Prints before.written after.written before.write_faults after.write_faults before.told after.told before.tell_faults after.tell_faults t status) is p)
