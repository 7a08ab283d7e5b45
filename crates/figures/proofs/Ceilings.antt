-- The arithmetic of the ceiling.
use Rattle.std.proofs.Common.{◌≡◌, ℕ, ◌+◌, ◌*◌, ◌≤◌, sym, ap, ◌∙◌, mul_assoc, mul_comm, mul-add, arith}
use Rattle.std.proofs.lemmas.Nat.{mul-le}
use Rattle.figures.specs.Ceiling.{ceiling, ceiling_of, CountsPlaces, NeverFalls}

-- each product of the ceiling, and the most that it can be
pub record Bounded (w h m f g : ℕ) : Type 0 where
  pub begun : w * (f + 1) ≤ 520
  pub hung : 2 * (h + 1) * (m + w * (f + 1)) ≤ 25680
  pub places : w * (2 * (h + 1) * (m + w * (f + 1)) + 1) ≤ 205448
  pub reservations : w * h ≤ 32
  pub retired : ceiling w h m f g ≤ 13148672

pub bounded : (w h m f g : ℕ) → w ≤ 8 → h ≤ 4 → m ≤ 2048 → f ≤ 64 → g ≤ 32 → Bounded w h m f g
bounded w h m f g w_le h_le m_le f_le g_le =
    let begun : w * (f + 1) ≤ 520 = mul-le w (f + 1) 8 65 w_le (omega arith) in
    let hung : 2 * (h + 1) * (m + w * (f + 1)) ≤ 25680 = mul-le (2 * (h + 1)) (m + w * (f + 1)) 10 2568 (omega arith) (omega arith) in
    let places : w * (2 * (h + 1) * (m + w * (f + 1)) + 1) ≤ 205448 = mul-le w (2 * (h + 1) * (m + w * (f + 1)) + 1) 8 25681 w_le (omega arith) in
    let reservations : w * h ≤ 32 = mul-le w h 8 4 w_le h_le in
    let retired : ceiling w h m f g ≤ 13148672 = mul-le (w * (2 * (h + 1) * (m + w * (f + 1)) + 1)) (w * h + g) 205448 64 places (omega arith) in
    record { begun = begun; hung = hung; places = places; reservations = reservations; retired = retired }

-- one place for each worker's own batch, and those of each reservation and each walk
places_counted : (w h k : ℕ) → w * (2 * (h + 1) * k + 1) ≡ w + (w * h + w) * (2 * k)
places_counted w h k =
    let a : 2 * (h + 1) * k ≡ (h + 1) * (2 * k) = ap (λ (n : ℕ). n * k) (mul_comm 2 (h + 1)) ∙ mul_assoc (h + 1) 2 k in
    let b : w * ((h + 1) * (2 * k)) ≡ w * (h + 1) * (2 * k) = sym (mul_assoc w (h + 1) (2 * k)) in
    let c : w * (h + 1) ≡ w * h + w = omega (arith, mul-add w h 1) in
    let d : w * (2 * (h + 1) * k) ≡ (w * h + w) * (2 * k) = ap (λ (n : ℕ). w * n) a ∙ b ∙ ap (λ (n : ℕ). n * (2 * k)) c in
    omega (arith, mul-add w (2 * (h + 1) * k) 1)

pub counts_places : CountsPlaces
counts_places w h m f g = ap (λ (n : ℕ). n * (w * h + g)) (places_counted w h (m + w * (f + 1)))

pub never_falls : NeverFalls
never_falls one other less =
    let begun = mul-le one.workers (one.taking_period + 1) other.workers (other.taking_period + 1) less.0 (omega arith) in
    let hung = mul-le (2 * (one.holds + 1)) (one.live + one.workers * (one.taking_period + 1)) (2 * (other.holds + 1)) (other.live + other.workers * (other.taking_period + 1)) (omega arith) (omega arith) in
    let places = mul-le one.workers (2 * (one.holds + 1) * (one.live + one.workers * (one.taking_period + 1)) + 1) other.workers (2 * (other.holds + 1) * (other.live + other.workers * (other.taking_period + 1)) + 1) less.0 (omega arith) in
    let reservations = mul-le one.workers one.holds other.workers other.holds less.0 less.1 in
    let retired : ceiling_of one ≤ ceiling_of other = mul-le _ (one.workers * one.holds + one.trying_period) _ (other.workers * other.holds + other.trying_period) places (omega arith) in
    (retired, omega arith)
