-- What the sending of a job asks for lasts: each step keeps each part of it.
use Rattle.std.proofs.Common.{◌≡◌, ℕ, false, List, ◌∙◌, ap}
use Rattle.etcd_types.specs.Keys.{is_empty}
use Rattle.core_model.specs.Step.{stepped}
use Rattle.core_laws.proofs.Steps.Staying.{steps_stay}
use Rattle.core_laws.proofs.Steps.Stepping.{steps_keep}
use Rattle.core_fits.proofs.Fit.{fits_step}
use Rattle.owner_fits.proofs.Runs.{steps_fit, steps_name}
use Rattle.step_moves.specs.Lasting.{SendingFits}
use Rattle.step_moves.proofs.Lasting.{sending_lasts}
use Rattle.bridge_laws.specs.Turns.{SendersLast}

pub senders_last : SendersLast
senders_last c e now heard names m =
    let leases : is_empty (stepped c e now).core.own.waits.prefix ≡ false = ap (λ (p : List ℕ). is_empty p) (steps_stay c e now).prefix ∙ m.leases in
    let l : SendingFits (stepped c e now).core = sending_lasts c e now m.ok m.fits.read (record { in_order = m.in_order; clients = λ on. m.clients }) in
    record {
      leases = leases;
      ok = steps_keep c e now heard m.ok;
      fits = fits_step c e now m.ok m.fits;
      owners = steps_fit c e now heard m.ok m.owners;
      names = steps_name c e now heard names m.ok m.owners m.names;
      in_order = l.in_order;
      clients = l.clients leases;
    }
