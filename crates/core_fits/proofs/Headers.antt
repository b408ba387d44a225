-- The cached header is of the greatest revision seen: both change by a header that is delivered, and a member that failed leaves them.
use Rattle.std.proofs.Common.{◌≡◌, ℕ, ◌==◌, max, nat_le, true, false, refl, ◌∙◌, ap, arith}
use Rattle.std.proofs.lemmas.Bool.Decides.{nat_tests}
use Rattle.etcd_types.specs.declared.record.Header.{Header}
use Rattle.proxy_model.specs.Members.{Members, next_member, failed}
use Rattle.core_model.specs.Heard.{later_header, header_taken}
use Rattle.core_model.specs.State.{Core}
use Rattle.core_laws.proofs.Steps.Comes.{by_test}
use Rattle.core_fits.specs.Fits.{HeaderIsSeen}

pub failed_seen : (m : Members) (member : ℕ) → (failed m member).seen ≡ m.seen
failed_seen m member = by_test (λ (n : Members). n.seen ≡ m.seen) (member == m.current) (record m { current = next_member m.count m.current }) m (λ t. refl) (λ t. refl)

greater : (a b : ℕ) → nat_le a b ≡ true → b ≡ max a b
greater a b h = grind (arith, nat_tests)

lesser : (a b : ℕ) → nat_le a b ≡ false → a ≡ max a b
lesser a b h = grind (arith, nat_tests)

later_revision : (old new : Header) → (later_header old new).revision ≡ max old.revision new.revision
later_revision old new = by_test (λ (h : Header). h.revision ≡ max old.revision new.revision) (nat_le old.revision new.revision) new old (λ t. greater old.revision new.revision t) (λ t. lesser old.revision new.revision t)

pub taken_seen : (h : Header) (c : Core) → HeaderIsSeen c → HeaderIsSeen (header_taken h c)
taken_seen h c e = later_revision c.header h ∙ ap (λ (n : ℕ). max n h.revision) e
