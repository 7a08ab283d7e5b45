-- The parts of a keeper: what they are at the making, where each is found, and one of them replaced.
use Rattle.std.specs.Prelude.{ℕ, ◌+◌, ◌*◌, min, Bool, true, false, [], ◌∷◌, replicate, None, Option, slice_index_or, slice_set}
use Rattle.figures.specs.declared.limits.Form.{Form}
use Rattle.machine.specs.declared.states.Standing.{Standing}
use Rattle.machine.specs.declared.states.Standing.TheVariants.{Pooled, Live, Retired}
use Rattle.machine.specs.declared.states.Block.{Block}
use Rattle.machine.specs.declared.states.HungList.TheVariants.{Off}
use Rattle.machine.specs.declared.states.Reservation.{Reservation}
use Rattle.machine.specs.declared.states.Task.{Task}
use Rattle.machine.specs.declared.states.Task.TheVariants.{Idle}
use Rattle.machine.specs.declared.states.Worker.{Worker}
use Rattle.machine.specs.declared.states.Core.{Core}

-- one more, in a kept number of 16 bits, which no run brings to its end
abbrev pub one_more : ℕ → ℕ
one_more n = min (n + 1) 65535

-- a block at the making
abbrev pub fresh_block : Block
fresh_block = record { standing = Pooled; owner = None; birth = 0; links = None ∷ None ∷ []; names = 0; under = None; slot = 0; elder = None; lead = 0; count = 0; newest = 0 }

-- what stands where there is no block
abbrev pub blank_block : Block
blank_block = record { standing = Pooled; owner = None; birth = 0; links = []; names = 0; under = None; slot = 0; elder = None; lead = 0; count = 0; newest = 0 }

-- a reservation at the making, and where there is none
abbrev pub fresh_reservation : Reservation
fresh_reservation = record { list = Off; era = 0 }

-- a worker at the making
abbrev pub fresh_worker : Worker
fresh_worker = record { takings = 0; task = Idle; batch = None; shows = replicate 4 None }

-- what stands where there is no worker
abbrev pub blank_worker : Worker
blank_worker = record { takings = 0; task = Idle; batch = None; shows = [] }

-- a keeper at the making, of a form whose figures are within their limits
abbrev pub fresh : Form → Core
fresh form = record { form = form; era = form.starting_era; live = 0; anchors = replicate 16 None; blocks = record { rows = replicate 2048 fresh_block }; reservations = replicate 32 fresh_reservation; workers = replicate 8 fresh_worker }

-- block b
abbrev pub block : Core → ℕ → Block
block k b = slice_index_or k.blocks.rows b blank_block

-- worker w
abbrev pub worker : Core → ℕ → Worker
worker k w = slice_index_or k.workers w blank_worker

-- the place of the reservation of worker w's hold h: by worker and then by hold
abbrev pub place_of : Core → ℕ → ℕ → ℕ
place_of k w h = w * k.form.holds + h

-- the reservation at place r
abbrev pub reservation : Core → ℕ → Reservation
reservation k r = slice_index_or k.reservations r fresh_reservation

-- another era
abbrev pub with_era : Core → ℕ → Core
with_era k e = record { form = k.form; era = e; live = k.live; anchors = k.anchors; blocks = k.blocks; reservations = k.reservations; workers = k.workers }

-- another number of live blocks
abbrev pub with_live : Core → ℕ → Core
with_live k n = record { form = k.form; era = k.era; live = n; anchors = k.anchors; blocks = k.blocks; reservations = k.reservations; workers = k.workers }

-- another anchor a
abbrev pub with_anchor : Core → ℕ → Option ℕ → Core
with_anchor k a x = record { form = k.form; era = k.era; live = k.live; anchors = slice_set k.anchors a x; blocks = k.blocks; reservations = k.reservations; workers = k.workers }

-- another block b
abbrev pub with_block : Core → ℕ → Block → Core
with_block k b x = record { form = k.form; era = k.era; live = k.live; anchors = k.anchors; blocks = record { rows = slice_set k.blocks.rows b x }; reservations = k.reservations; workers = k.workers }

-- another reservation at place r
abbrev pub with_reservation : Core → ℕ → Reservation → Core
with_reservation k r x = record { form = k.form; era = k.era; live = k.live; anchors = k.anchors; blocks = k.blocks; reservations = slice_set k.reservations r x; workers = k.workers }

-- another worker w
abbrev pub with_worker : Core → ℕ → Worker → Core
with_worker k w x = record { form = k.form; era = k.era; live = k.live; anchors = k.anchors; blocks = k.blocks; reservations = k.reservations; workers = slice_set k.workers w x }

-- worker w at another task
abbrev pub with_task : Core → ℕ → Task → Core
with_task k w t = with_worker k w (record { takings = (worker k w).takings; task = t; batch = (worker k w).batch; shows = (worker k w).shows })

-- worker w with no task
abbrev pub idle : Core → ℕ → Core
idle k w = with_task k w Idle

-- whether a block is live
abbrev pub is_live : Standing → Bool
is_live Pooled = false
is_live Live = true
is_live Retired = false

-- whether block b is live
abbrev pub live_block : Core → ℕ → Bool
live_block k b = is_live (block k b).standing
