-- How many blocks can be retired at once, and how many blocks a box needs.
-- The letters: w workers, h holds each, at most m live blocks, f the taking period, g the trying period.
use Rattle.std.specs.Prelude.{◌≡◌, ℕ, ◌+◌, ◌*◌, ◌<◌, ◌≤◌}
use Rattle.figures.specs.declared.limits.Form.{Form}

-- the most retired blocks that there can be
abbrev pub ceiling : ℕ → ℕ → ℕ → ℕ → ℕ → ℕ
ceiling w h m f g = w * (2 * (h + 1) * (m + w * (f + 1)) + 1) * (w * h + g)

-- the blocks that a box must have, so that a taking is never refused for want of one
abbrev pub needed : ℕ → ℕ → ℕ → ℕ → ℕ → ℕ
needed w h m f g = m + ceiling w h m f g

-- the ceiling of a form's figures
abbrev pub ceiling_of : Form → ℕ
ceiling_of form = ceiling form.workers form.holds form.live form.taking_period form.trying_period

-- the blocks that a form's figures need
abbrev pub needed_of : Form → ℕ
needed_of form = needed form.workers form.holds form.live form.taking_period form.trying_period

-- the worked examples
abbrev pub WorkedExamples : Type 0
WorkedExamples = (ceiling 2 3 14 1 1 ≡ 2030) × (ceiling 1 1 1 1 1 ≡ 26)

-- the most blocks of one batch: one for each reservation, and those of one more trying period
abbrev pub batch_most : ℕ → ℕ → ℕ → ℕ
batch_most w h g = w * h + g

-- the most blocks that hang from one reservation, or from one walk
abbrev pub list_most : ℕ → ℕ → ℕ → ℕ
list_most w m f = 2 * (m + w * (f + 1))

-- where the ceiling comes from: a retired block is in a batch, and a batch is one of w workers' own, or one of its
-- blocks hangs from one of w * h reservations or of w walks
abbrev pub CountsPlaces : Type 0
CountsPlaces = (w h m f g : ℕ) → ceiling w h m f g ≡ (w + (w * h + w) * list_most w m f) * batch_most w h g

-- none of the figures that the ceiling rests on is larger in one form than in another
abbrev pub NoneLarger : Form → Form → Type 0
NoneLarger one other = (one.workers ≤ other.workers) × (one.holds ≤ other.holds) × (one.live ≤ other.live) × (one.taking_period ≤ other.taking_period) × (one.trying_period ≤ other.trying_period)

-- the ceiling and the blocks needed never fall when figures grow
abbrev pub NeverFalls : Type 0
NeverFalls = (one other : Form) → NoneLarger one other → (ceiling_of one ≤ ceiling_of other) × (needed_of one ≤ needed_of other)

-- of that many blocks one is neither live nor retired, as long as fewer are live than may be
abbrev pub LeavesOne : Form → ℕ → Type 0
LeavesOne form blocks = (live retired : ℕ) → live < form.live → retired ≤ ceiling_of form → live + retired < blocks
