-- The limits of the figures of a keeper.
use Rattle.std.proofs.Common.{◌≡◌, Bool, true, false, leb, Ok, Err, Result, is_ok, sym, refl, arith}
use Rattle.std.proofs.lemmas.Bool.Decides.{nat_tests}
use Rattle.figures.specs.Limits.{value, most, Fits, Fit, Outside}
use Rattle.std.specs.Result.{MatchResult}
use Rattle.figures.specs.declared.checked.Figures.{Figures}
use Rattle.figures.specs.declared.refusals.Refusal.{Refusal}
use Rattle.figures.specs.declared.refusals.Refusal.TheVariants.{Misfit}
use Rattle.figures.specs.declared.limits.Figure.{Figure}
use Rattle.figures.specs.declared.limits.Figure.TheVariants.{Workers, Holds, Blocks, Live, TakingPeriod, TryingPeriod, StartingEra}
use Rattle.figures.specs.declared.limits.Form.{Form}
use Rattle.machine.specs.Machine.{fits, all_fit}
use Rattle.machine.proofs.Passing.{both_left, both_right}
use Rattle.keeper.proofs.InRange.{seven, together}

-- one figure that a test finds within its limits, and the other way round
figure_fit : (form : Form) (figure : Figure) → fits form figure ≡ true → Fits form figure
figure_fit form figure e =
    let low = both_left (leb 1 (value form figure)) (leb (value form figure) (most form figure)) e in
    let high = both_right (leb 1 (value form figure)) (leb (value form figure) (most form figure)) e in
    (grind (arith, nat_tests, low), grind (arith, nat_tests, high))

figure_test : (form : Form) (figure : Figure) → Fits form figure → fits form figure ≡ true
figure_test form figure h =
    let low : leb 1 (value form figure) ≡ true = grind (arith, nat_tests, h.0) in
    let high : leb (value form figure) (most form figure) ≡ true = grind (arith, nat_tests, h.1) in
    grind (arith, low, high)

-- all of them
pub form_fit : (form : Form) → all_fit form ≡ true → Fit form
form_fit form e =
    let s = seven (fits form Workers) (fits form Holds) (fits form Blocks) (fits form Live) (fits form TakingPeriod) (fits form TryingPeriod) (fits form StartingEra) e in
    (figure_fit form Workers s.0, figure_fit form Holds s.1, figure_fit form Blocks s.2, figure_fit form Live s.3, figure_fit form TakingPeriod s.4, figure_fit form TryingPeriod s.5, figure_fit form StartingEra s.6)

form_test : (form : Form) → Fit form → all_fit form ≡ true
form_test form h =
    together (fits form Workers) (fits form Holds) (fits form Blocks) (fits form Live) (fits form TakingPeriod) (fits form TryingPeriod) (fits form StartingEra)
    (figure_test form Workers h.0) (figure_test form Holds h.1) (figure_test form Blocks h.2) (figure_test form Live h.3) (figure_test form TakingPeriod h.4) (figure_test form TryingPeriod h.5) (figure_test form StartingEra h.6)

-- each of a form that fits
each_fit : (form : Form) → Fit form → (figure : Figure) → Fits form figure
each_fit form h Workers = h.0
each_fit form h Holds = h.1
each_fit form h Blocks = h.2
each_fit form h Live = h.3
each_fit form h TakingPeriod = h.4
each_fit form h TryingPeriod = h.5
each_fit form h StartingEra = h.6

-- a form that is refused does not
outside_test : (form : Form) (r : Refusal) → Outside form r → all_fit form ≡ false
outside_test form (Misfit figure) h = decided (all_fit form) refl
  where
    decided : (b : Bool) → all_fit form ≡ b → b ≡ false
    decided true e = absurd (h.0 (each_fit form (form_fit form e) figure))
    decided false e = refl

-- whether figures are made of a form tells whether all of them are within their limits
pub made_test : (form : Form) (r : Result Figures Refusal) → MatchResult r (λ (figures : Figures). (figures.form ≡ form) × Fit form) (Outside form) → is_ok r ≡ all_fit form
made_test form (Ok figures) h = sym (form_test form h.1)
made_test form (Err refused) h = sym (outside_test form refused h)
