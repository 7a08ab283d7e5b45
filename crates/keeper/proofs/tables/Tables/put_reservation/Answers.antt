use Rattle.std.proofs.Common.{◌≡◌, true}
use Rattle.machine.specs.declared.states.Reservation.{Reservation}
use Rattle.machine.specs.State.{fresh_reservation}
use Rattle.machine.proofs.Stores.{set_keeps}
use Rattle.keeper.specs.Fits.{list_fits}
use Rattle.keeper.proofs.tables.Tables.put_reservation.Goals as goal

pub invariant_of-self-clause-lists : goal.invariant_of-self-clause-lists
invariant_of-self-clause-lists c =
    let s = c.args.self.now in
    set_keeps (λ (x : Reservation). list_fits x.list ≡ true) fresh_reservation s.core.reservations c.args.place.number c.args.reservation s.lists c.requires
