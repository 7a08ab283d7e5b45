use Rattle.std.proofs.Common.{◌≡◌, ◌+◌, ◌-◌, ◌≤◌, true, Some}
use Rattle.machine.specs.Moves.{gained_all, gain}
use Rattle.machine.specs.Walking.{members, all_pooled}
use Rattle.keeper.specs.Fits.{number_fits}
use Rattle.keeper.proofs.tables.Tables.give_back.Given as goal

-- what is left to give brings core, pool and number to what all of it was to
abbrev pub invariant-loop : goal.invariant-loop
invariant-loop g l =
    (l.counter ≤ 2048)
    × (l.given ≤ l.counter)
    × (number_fits l.next ≡ true)
    × (all_pooled l.self.core (members (2048 - l.counter) l.self.core l.next) ≡ all_pooled l.initial.self.core (members 2048 l.initial.self.core (Some l.fn.newest.number)))
    × (gained_all (g.P.Pool.inside l.pool) (members (2048 - l.counter) l.self.core l.next) ≡ gained_all (g.P.Pool.inside l.initial.pool) (members 2048 l.initial.self.core (Some l.fn.newest.number)))
    × (l.given + gain (g.P.Pool.inside l.pool) (members (2048 - l.counter) l.self.core l.next) ≡ gain (g.P.Pool.inside l.initial.pool) (members 2048 l.initial.self.core (Some l.fn.newest.number)))
