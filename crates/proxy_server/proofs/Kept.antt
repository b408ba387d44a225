-- A conversation stays one of the same parts over several steps.
use Rattle.std.proofs.Common.{◌≡◌, ℕ, List, Option, Result, refl, sym, subst}
use Rattle.std.specs.Io.KnownBytes.{Keeps}
use Rattle.core_model.specs.declared.event.CoreEvent.{CoreEvent}
use Rattle.etcd_types.specs.declared.request.Request.{Request}
use Rattle.http_talk.specs.declared.form.RefusalForm.{RefusalForm}
use Rattle.outside.specs.Draw.{Gives}
use Rattle.server_model.specs.Exchanges.{Asks}
use Rattle.server_model.specs.Numbers.{Numbered}
use Rattle.server_model.specs.Steps.{Step}
use Rattle.server_model.specs.declared.ends.SessionEnd.{SessionEnd}
use Rattle.server_model.specs.declared.progress.Attempt.{Attempt}
use Rattle.proxy_server.specs.declared.talk.Talk.{Talk}
use Rattle.proxy_server.specs.Kept.{IsSame}

module _ {T C S K D : Type 0} where
  pub same_itself : (a : Talk T C S K D) → IsSame a a
  same_itself a = record { turn = refl; clock = refl; source = refl; sink = refl; draw = refl }

-- what was kept before a source that was left alone is kept behind it
pub keeps_unread : {S : Type 0} (left : S → Option (List ℕ)) (first : Option (List ℕ)) (old new : S) → new ≡ old → Keeps first (left old) → Keeps first (left new)
keeps_unread left first old new e k = subst (λ (s : _). Keeps first (left s)) (sym e) k

-- and what was asked before a sink that was left alone was asked behind it
pub asks_unwritten : {K : Type 0} (written : K → Option (List ℕ)) (form : RefusalForm) (rests : CoreEvent → Type 0) (worn : Type 0) (request : Request) (a b : Option (List Step)) (w : Option (List ℕ)) (old new : K) (result : Result Attempt SessionEnd)
    → new ≡ old → Asks form rests worn request a b w (written old) result → Asks form rests worn request a b w (written new) result
asks_unwritten written form rests worn request a b w old new result e k = subst (λ (s : _). Asks form rests worn request a b w (written s) result) (sym e) k

-- a word that was given before a draw that was left alone was given behind it
pub drawn_as : {D : Type 0} (given : D → Option (List ℕ)) (first : Option (List ℕ)) (words : List ℕ) (old new : D) → new ≡ old → Gives first (given old) words → Gives first (given new) words
drawn_as given first words old new e g = subst (λ (d : _). Gives first (given d) words) (sym e) g

-- the same number under another name
pub numbered_to : (limit from to to' : ℕ) (given given' : Option (List ℕ)) (made made' : Option (List Step)) → to' ≡ to → Numbered limit from to given given' made made' → Numbered limit from to' given given' made made'
numbered_to limit from to to' given given' made made' e n = subst (λ (k : ℕ). Numbered limit from k given given' made made') (sym e) n
