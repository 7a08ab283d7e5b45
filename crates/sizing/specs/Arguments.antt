-- What the arguments say.
use Rattle.std.specs.Prelude.{◌≡◌, ℕ, ◌≤◌, List, [], ◌∷◌, Ok, Err, Result}
use Rattle.std.specs.Str.Parse.{IsNumeral, without_leading_plus}
use Rattle.std.specs.Str.Parse as reads
use Rattle.figures.specs.declared.limits.Form.{Form}
use Rattle.figures.specs.declared.limits.Figure.{Figure}
use Rattle.figures.specs.declared.limits.Figure.TheVariants.{Workers, Holds, Blocks, Live, TakingPeriod, TryingPeriod, StartingEra}
use Rattle.figures.specs.declared.checked.Figures.{Figures}
use Rattle.figures.specs.declared.refusals.Refusal.{Refusal}
use Rattle.figures.specs.declared.refusals.Refusal.TheVariants.{Misfit}
use Rattle.figures.specs.Limits.{most}
use Rattle.sizing.specs.declared.complaints.Complaint.{Complaint}
use Rattle.sizing.specs.declared.complaints.Complaint.TheVariants.{Missing, Unfit, Extra}

-- the largest figures that can be asked for, with the starting era that a sizing does not depend on
abbrev pub largest : Form
largest = record { workers = 8; holds = 4; blocks = 2048; live = 2048; taking_period = 64; trying_period = 32; starting_era = 1 }

-- the most that a figure may be asked for
abbrev pub most_asked : Figure → ℕ
most_asked figure = most largest figure

-- a word is a number's decimal digits, perhaps after a plus, and the number is within the figure's limits
abbrev pub Good : List ℕ → Figure → ℕ → Type 0
Good text figure n = IsNumeral 10 (without_leading_plus text) × (n ≡ reads.digits_value 10 (without_leading_plus text)) × (1 ≤ n) × (n ≤ most_asked figure)

-- a word says no such number
abbrev pub Bad : List ℕ → Figure → Type 0
Bad text figure = (n : ℕ) → Good text figure n → ⊥

-- the figure that is refused is complained of
abbrev pub complaint : Refusal → Complaint
complaint (Misfit figure) = Unfit figure

-- five words say the figures of a form, or the first that says none is complained of
abbrev pub Read : List ℕ → List ℕ → List ℕ → List ℕ → List ℕ → Result Figures Complaint → Type 0
Read w h m f g (Ok figures) = Good w Workers figures.form.workers × Good h Holds figures.form.holds × Good m Live figures.form.live × Good f TakingPeriod figures.form.taking_period × Good g TryingPeriod figures.form.trying_period
Read w h m f g (Err (Unfit Workers)) = Bad w Workers
Read w h m f g (Err (Unfit Holds)) = ((n : ℕ) × Good w Workers n) × Bad h Holds
Read w h m f g (Err (Unfit Live)) = ((n : ℕ) × Good w Workers n) × ((n : ℕ) × Good h Holds n) × Bad m Live
Read w h m f g (Err (Unfit TakingPeriod)) = ((n : ℕ) × Good w Workers n) × ((n : ℕ) × Good h Holds n) × ((n : ℕ) × Good m Live n) × Bad f TakingPeriod
Read w h m f g (Err (Unfit TryingPeriod)) = ((n : ℕ) × Good w Workers n) × ((n : ℕ) × Good h Holds n) × ((n : ℕ) × Good m Live n) × ((n : ℕ) × Good f TakingPeriod n) × Bad g TryingPeriod
Read w h m f g (Err (Unfit Blocks)) = ⊥
Read w h m f g (Err (Unfit StartingEra)) = ⊥
Read w h m f g (Err (Missing figure)) = ⊥
Read w h m f g (Err Extra) = ⊥

-- the figures of the worked example
abbrev pub example : Form
example = record { workers = 2; holds = 3; blocks = 2048; live = 14; taking_period = 1; trying_period = 1; starting_era = 1 }

-- none or five arguments are asked for: the example's figures where there is none
abbrev pub Answered : List (List ℕ) → Result Figures Complaint → Type 0
Answered [] (Ok figures) = figures.form ≡ example
Answered [] (Err complaint) = ⊥
Answered (w ∷ []) r = r ≡ Err (Missing Holds)
Answered (w ∷ h ∷ []) r = r ≡ Err (Missing Live)
Answered (w ∷ h ∷ m ∷ []) r = r ≡ Err (Missing TakingPeriod)
Answered (w ∷ h ∷ m ∷ f ∷ []) r = r ≡ Err (Missing TryingPeriod)
Answered (w ∷ h ∷ m ∷ f ∷ g ∷ []) r = Read w h m f g r
Answered (w ∷ h ∷ m ∷ f ∷ g ∷ x ∷ more) r = r ≡ Err Extra
