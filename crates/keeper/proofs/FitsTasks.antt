-- Tasks whose numbers fit.
use Rattle.std.proofs.Common.{◌≡◌, ℕ, ◌+◌, ◌-◌, ◌*◌, ◌<◌, ◌≤◌, Bool, true, ◌&&◌, eqb, ltb, leb, Some, None, Option, unwrap_or, refl, mul-le-mul_right, arith}
use Rattle.std.proofs.lemmas.Bool.Decides.{nat_tests}
use Rattle.machine.specs.declared.states.Batch.{Batch}
use Rattle.machine.specs.declared.states.Task.TheVariants.{TryHang}
use Rattle.machine.specs.declared.states.Core.{Core}
use Rattle.machine.specs.State.{block}
use Rattle.machine.specs.Looking.{look_on}
use Rattle.machine.specs.Dropping.{drop_on}
use Rattle.machine.specs.Machine.{all_fit}
use Rattle.machine.specs.Trying.{places, block_after, visited, hanged}
use Rattle.machine.proofs.Passing.{by_test}
use Rattle.keeper.specs.Fits.{number_fits, task_fits, batch_fits, block_fits}
use Rattle.keeper.proofs.InRange.{block_ranges, batch_ranges}
use Rattle.keeper.proofs.FiguresFit.{form_fit}

-- where a walk goes
pub look_on_fits : (h c : ℕ) (o : Option ℕ) → h < 4 → c < 4112 → number_fits o ≡ true → task_fits (look_on h c o) ≡ true
look_on_fits h c None low lower n = grind (arith, nat_tests, low, lower)
look_on_fits h c (Some b) low lower n = grind (arith, nat_tests, low, lower, n)

pub drop_on_fits : (h : ℕ) (o : Option ℕ) → h < 4 → number_fits o ≡ true → task_fits (drop_on h o) ≡ true
drop_on_fits h None low n = grind (arith, nat_tests, low)
drop_on_fits h (Some b) low n = grind (arith, nat_tests, low, n)

-- the block that comes after one in a batch
pub after_low : (k : Core) (x : Batch) (b : ℕ) → batch_fits (Some x) ≡ true → block_fits (block k b) ≡ true → block_after k x b < 2048
after_low k x b own fits = some_low (block k b).elder x.lead (block_ranges (block k b) fits).3 (batch_ranges x own).0
  where
    some_low : (o : Option ℕ) (d : ℕ) → number_fits o ≡ true → d < 2048 → unwrap_or o d < 2048
    some_low None d h low = low
    some_low (Some n) d h low = grind (arith, nat_tests, h)

-- there are no more places than reservations
few_places : (k : Core) → all_fit k.form ≡ true → places k ≤ 32
few_places k f = let fit = form_fit k.form f in product k.form.workers k.form.holds fit.0.1 fit.1.1
  where
    product : (a b : ℕ) → a ≤ 8 → b ≤ 4 → a * b ≤ 32
    product a b p q = let m : a * b ≤ 8 * b = mul-le-mul_right b p in omega arith

triple : (a b c : Bool) → a ≡ true → b ≡ true → c ≡ true → (a && b && c) ≡ true
triple a b c p q r = grind (arith, p, q, r)

-- what follows a visit
pub visited_fits : (k : Core) (x : Batch) (r b aside : ℕ) → all_fit k.form ≡ true → batch_fits (Some x) ≡ true → r < 32 → b < 2048 → aside ≤ r + 1 → task_fits (visited k x r b aside) ≡ true
visited_fits k x r b aside f hx hr hb ha =
    by_test (λ t. task_fits t ≡ true) (ltb (r + 1) (places k)) _ _
    (λ e. let few = few_places k f in triple (ltb (r + 1) 32) (ltb b 2048) (leb aside (r + 1)) (grind (arith, nat_tests, e, few)) (grind (arith, nat_tests, hb)) (grind (arith, nat_tests, ha)))
    (λ _. by_test (λ t. task_fits t ≡ true) (eqb aside 0) _ _
    (λ _. refl)
    (λ e. let low = (batch_ranges x hx).1 in triple (ltb x.newest 2048) (ltb 0 aside) (leb (0 + aside) 32) (grind (arith, nat_tests, low)) (grind (arith, nat_tests, e)) (grind (arith, nat_tests, ha, hr))))

-- what follows a hanging
pub hanged_fits : (k : Core) (x : Batch) (b left hung m : ℕ) → batch_fits (Some x) ≡ true → block_fits (block k b) ≡ true → task_fits (TryHang b left hung) ≡ true → m ≤ hung + 1 → task_fits (hanged k x b left m) ≡ true
hanged_fits k x b left hung m own fits h hm =
    let q = parts (ltb b 2048) (ltb 0 left) (leb (hung + left) 32) h in
    let some = q.0 in
    let few = q.1 in
    by_test (λ t. task_fits t ≡ true) (ltb 1 left) _ _
    (λ e. let low = after_low k x b own fits in triple (ltb (block_after k x b) 2048) (ltb 0 (left - 1)) (leb (m + (left - 1)) 32) (grind (arith, nat_tests, low)) (grind (arith, nat_tests, e)) (grind (arith, nat_tests, e, few, hm)))
    (λ e. grind (arith, nat_tests, few, some, hm))
  where
    parts : (a b c : Bool) → (a && b && c) ≡ true → (b ≡ true) × (c ≡ true)
    parts a b c h = (grind (arith, h), grind (arith, h))
