-- What a turn does to one entry, over plain variables.
use Rattle.std.proofs.Common.{◌≡◌, Bool, true, false, cond, Option, None, Some, is_some, refl}
use Rattle.proxy_model.specs.declared.lease.Entry.{Entry}
use Rattle.proxy_model.specs.declared.lease.Phase.{Phase}
use Rattle.proxy_model.specs.declared.lease.Phase.TheVariants.{Held, Writing, Leaving}
use Rattle.std.specs.Option.{option_map}
use Rattle.proxy_model.specs.LeaseTable.{given_up, is_writing, is_writing_phase, phase_given_up}
use Rattle.wait_model.specs.declared.write.WriteStage.{WriteStage}
use Rattle.wait_model.specs.declared.write.WriteStage.TheVariants.{Waiting, Sends, Finds}
use Rattle.wait_model.specs.Phases.{is_leaving, is_leaving_phase, let_go, phase_let_go, begun, phase_begun}
use Rattle.wait_model.specs.Stages.{is_waiting, is_owner}

pub some-mapped : {A B : Type 0} (f : A → B) (o : Option A) → is_some (option_map f o) ≡ is_some o
some-mapped f None = refl
some-mapped f (Some x) = refl

pub not_some : {A : Type 0} (o : Option A) → is_some o ≡ false → o ≡ None
not_some None e = refl
not_some (Some x) e = absurd (cc)

-- A change that may be made, at a test.

abbrev pub if_at : Bool → (Entry → Entry) → Entry → Entry
if_at b f e = cond b (f e) e

writing-let_go_phase : (p : Phase) → is_writing_phase (phase_let_go p) ≡ is_writing_phase p
writing-let_go_phase Held = refl
writing-let_go_phase (Writing revoked) = refl
writing-let_go_phase (Leaving sent) = refl

pub writing-let_go : (b : Bool) (e : Option Entry) → is_writing (option_map (if_at b let_go) e) ≡ is_writing e
writing-let_go b None = refl
writing-let_go true (Some x) = writing-let_go_phase x.phase
writing-let_go false (Some x) = refl

leaving-let_go_phase : (p : Phase) → is_leaving_phase p ≡ true → is_leaving_phase (phase_let_go p) ≡ true
leaving-let_go_phase Held h = refl
leaving-let_go_phase (Writing revoked) h = h
leaving-let_go_phase (Leaving sent) h = h

pub leaving-let_go : (b : Bool) (e : Option Entry) → is_leaving e ≡ true → is_leaving (option_map (if_at b let_go) e) ≡ true
leaving-let_go b None h = h
leaving-let_go true (Some x) h = leaving-let_go_phase x.phase h
leaving-let_go false (Some x) h = h

leaving-begun_phase : (p : Phase) → is_leaving_phase (phase_begun p) ≡ is_leaving_phase p
leaving-begun_phase Held = refl
leaving-begun_phase (Writing revoked) = refl
leaving-begun_phase (Leaving sent) = refl

pub leaving-begun : (b : Bool) (e : Option Entry) → is_leaving (option_map (if_at b begun) e) ≡ is_leaving e
leaving-begun b None = refl
leaving-begun true (Some x) = leaving-begun_phase x.phase
leaving-begun false (Some x) = refl

writing-given_up_phase : (p : Phase) → is_writing_phase (phase_given_up p) ≡ is_writing_phase p
writing-given_up_phase Held = refl
writing-given_up_phase (Writing revoked) = refl
writing-given_up_phase (Leaving sent) = refl

pub writing-given_up : (b : Bool) (e : Option Entry) → is_writing (option_map (if_at b given_up) e) ≡ is_writing e
writing-given_up b None = refl
writing-given_up true (Some x) = writing-given_up_phase x.phase
writing-given_up false (Some x) = refl

leaving-given_up_phase : (p : Phase) → is_leaving_phase p ≡ true → is_leaving_phase (phase_given_up p) ≡ true
leaving-given_up_phase Held h = refl
leaving-given_up_phase (Writing revoked) h = h
leaving-given_up_phase (Leaving sent) h = h

pub leaving-given_up : (b : Bool) (e : Option Entry) → is_leaving e ≡ true → is_leaving (option_map (if_at b given_up) e) ≡ true
leaving-given_up b None h = h
leaving-given_up true (Some x) h = leaving-given_up_phase x.phase h
leaving-given_up false (Some x) h = h

left_phase : (p : Phase) → is_writing_phase p ≡ false → is_leaving_phase (phase_given_up p) ≡ true
left_phase Held h = refl
left_phase (Writing revoked) h = absurd (cc)
left_phase (Leaving sent) h = refl

-- what isn't being written leaves, once it is given up
pub left-given_up : (e : Option Entry) → is_some e ≡ true → is_writing e ≡ false → is_leaving (option_map (if_at true given_up) e) ≡ true
left-given_up None h w = h
left-given_up (Some x) h w = left_phase x.phase w

pub some-writing : (e : Option Entry) → is_writing e ≡ true → is_some e ≡ true
some-writing None h = h
some-writing (Some x) h = refl

pub waiting_owns_nothing : (s : WriteStage) → is_waiting s ≡ true → is_owner s ≡ false
waiting_owns_nothing Waiting h = refl
waiting_owns_nothing (Sends owner s) h = absurd (cc)
waiting_owns_nothing (Finds found) h = refl
