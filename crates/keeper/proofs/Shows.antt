-- A block among what holds show.
use Rattle.std.proofs.Common.{◌≡◌, ℕ, ◌||◌, List, [], ◌∷◌, Some, None, Option, refl, ap}
use Rattle.std.specs.List.{list_any}
use Rattle.std.specs.Option.{option_eq}
use Rattle.std.specs.Prelude.{nat_eq}
use Rattle.machine.specs.Hands.{any_shows}

-- that one of them is the block
pub shows_one : (xs : List (Option ℕ)) (b : ℕ) → list_any (λ y. option_eq nat_eq y (Some b)) xs ≡ any_shows xs b
shows_one [] b = refl
shows_one (None ∷ xs) b = shows_one xs b
shows_one (Some x ∷ xs) b = ap (λ t. nat_eq x b || t) (shows_one xs b)
