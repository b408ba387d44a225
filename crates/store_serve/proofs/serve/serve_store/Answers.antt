-- The exchanges, one after the other.
use Rattle.std.proofs.Common.{refl, ◌∙◌, arith}
use Rattle.shop_dialog.proofs.Serving.{at_start, goes_on, ends, no_wire}
use Rattle.store_serve.proofs.serve.serve_store.Goals as goal

pub returns-in_default-clause-dialog : goal.returns-in_default-clause-dialog
returns-in_default-clause-dialog g c = no_wire _ _ _ _

pub requests-init : goal.requests-init
requests-init g c = record {
  sound = c.in-Ok.ensures.fault;
  home = refl;
  allowed = λ a. a;
  reads = omega arith;
  writes = omega arith;
  has = at_start (g.S.Source.left c.args.source.now) c.in-Ok.wire _ _ c.in-Ok.ensures.held;
}

pub requests-preserved : goal.requests-preserved
requests-preserved g c = record {
  sound = c.in-None-exchange.ensures.sound;
  home = c.in-None-exchange.ensures.home ∙ c.requests.invariant.home;
  allowed = λ a. c.in-None-exchange.ensures.allowed (c.requests.invariant.allowed a);
  reads = omega arith;
  writes = omega arith;
  has = goes_on _ _ _ _ _ _ _ _ _ c.requests.invariant.has c.in-None-exchange.ensures.turned;
}

pub returns-in-Some-exchange-clause-dialog : goal.returns-in-Some-exchange-clause-dialog
returns-in-Some-exchange-clause-dialog g c =
    ends _ _ _ _ _ _ _ _ _ c.in-Some-exchange.end c.requests.invariant.has c.in-Some-exchange.ensures.turned

pub returns-in-Some-exchange-clause-allowed : goal.returns-in-Some-exchange-clause-allowed
returns-in-Some-exchange-clause-allowed g c = λ a. c.in-Some-exchange.ensures.allowed (c.requests.invariant.allowed a)
