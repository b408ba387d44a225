-- What holds in the middle of a step, and what holds again once the waiting writes went on.
use Rattle.std.proofs.Common.{◌≡◌, ◌≤◌, ℕ, ◌+◌, nat_le, true, [], Option, ◌∙◌, ap, arith}
use Rattle.std.proofs.lemmas.Bool.Decides.{nat_tests}
use Rattle.std.specs.List.{list_all}
use Rattle.etcd_types.specs.declared.record.Header.{Header}
use Rattle.proxy_model.specs.Members.{Members}
use Rattle.wait_model.specs.Fits.{IsSettled}
use Rattle.core_laws.proofs.Writes.Passes.{settles}
use Rattle.read_model.specs.Fits.{ReadsOk}
use Rattle.core_laws.proofs.PlainReads.Kept.{going_on_keeps}
use Rattle.watch_model.specs.State.{Broadcasts}
use Rattle.core_model.specs.ClockWork.{writes_go_on, begun}
use Rattle.core_model.specs.Fits.{is_standing, goes_on, Agrees, CoreOk}
use Rattle.core_model.specs.Lookups.{reads_of}
use Rattle.core_model.specs.State.{Core, Opening}
use Rattle.core_laws.proofs.Steps.Agreeing.{pass_agrees}
use Rattle.core_laws.proofs.Steps.Comes.{passed_goes}

-- with so many calls at most beyond the steps
pub record Mid (most : ℕ) (c : Core) : Type 0 where
  pub given : nat_le c.calls (c.steps + most) ≡ true
  pub reads : ReadsOk (is_standing c.seat) (reads_of c)
  pub agrees : Agrees c

pub record Whole (most : ℕ) (c : Core) : Type 0 where
  pub mid : Mid most c
  pub settled : IsSettled c.own
  pub unfinished : list_all goes_on c.own.waits.writes ≡ true

pub goes_whole : (most : ℕ) (c : Core) → Mid most c → Whole most (writes_go_on c)
goes_whole most c h = record {
  mid = record { given = h.given; reads = going_on_keeps (is_standing c.seat) (reads_of c) h.reads; agrees = pass_agrees c h.agrees };
  settled = settles c.own h.reads.ground.keys;
  unfinished = passed_goes c.own.waits.step [] c.own.entries c.own.waits.spoiled c.own.waits.writes;
}

-- a step begins
pub begun_mid : (most : ℕ) (c : Core) → Mid most c → Mid most (begun c)
begun_mid most c h = record {
  given = h.given;
  reads = record { ground = record { keys = h.reads.ground.keys; marks = h.reads.ground.marks; owned = h.reads.ground.owned }; asks = h.reads.asks };
  agrees = record { writes = h.agrees.writes; asks = h.agrees.asks; awaited = h.agrees.awaited; out = h.agrees.out; numbers = h.agrees.numbers; groups = h.agrees.groups; seated = h.agrees.seated };
}

-- what was heard of members, the leasing stream and the client watches change
pub beside_mid : (most : ℕ) (c : Core) (members : Members) (header : Header) (leasing : Option Opening) (b : Broadcasts) → Mid most c → Mid most (record c { members = members; header = header; leasing = leasing; watches = b })
beside_mid most c members header leasing b h = record {
  given = h.given;
  reads = h.reads;
  agrees = record { writes = h.agrees.writes; asks = h.agrees.asks; awaited = h.agrees.awaited; out = h.agrees.out; numbers = h.agrees.numbers; groups = h.agrees.groups; seated = h.agrees.seated };
}

pub beside_whole : (most : ℕ) (c : Core) (members : Members) (header : Header) (leasing : Option Opening) (b : Broadcasts) → Whole most c → Whole most (record c { members = members; header = header; leasing = leasing; watches = b })
beside_whole most c members header leasing b h = record { mid = beside_mid most c members header leasing b h.mid; settled = h.settled; unfinished = h.unfinished }

-- What is to hold of a proxy.

pub is_ok : (c : Core) → Whole 0 c → CoreOk c
is_ok c h = record { reads = h.mid.reads; settled = h.settled; unfinished = h.unfinished; agrees = h.mid.agrees; given_steps = ap (nat_le c.calls) (nothing c.steps) ∙ h.mid.given }
  where
    nothing : (n : ℕ) → n ≡ n + 0
    nothing n = omega arith

pub of_ok : (c : Core) → CoreOk c → Whole 0 c
of_ok c h = record { mid = record { given = ap (nat_le c.calls) (nothing c.steps) ∙ h.given_steps; reads = h.reads; agrees = h.agrees }; settled = h.settled; unfinished = h.unfinished }
  where
    nothing : (n : ℕ) → n + 0 ≡ n
    nothing n = omega arith

-- the step is counted
pub counted_ok : (most : ℕ) (c : Core) → most ≤ 1 → Whole most c → CoreOk (record c { steps = c.steps + 1 })
counted_ok most c l h = record {
  reads = h.mid.reads;
  settled = h.settled;
  unfinished = h.unfinished;
  agrees = record { writes = h.mid.agrees.writes; asks = h.mid.agrees.asks; awaited = h.mid.agrees.awaited; out = h.mid.agrees.out; numbers = h.mid.agrees.numbers; groups = h.mid.agrees.groups; seated = h.mid.agrees.seated };
  given_steps = raised c.calls c.steps most l h.mid.given;
}
  where
    raised : (n m k : ℕ) → k ≤ 1 → nat_le n (m + k) ≡ true → nat_le n (m + 1) ≡ true
    raised n m k l t = grind (arith, nat_tests)
