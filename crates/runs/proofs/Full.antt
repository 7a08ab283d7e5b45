-- What is so where a making is accepted.
use Rattle.std.proofs.Common.{◌≡◌, Bool, true, false, cond, List, length, replicate, Ok, Err, refl, ap, ◌∙◌, arith}
use Rattle.std.proofs.lemmas.Bool.Decides.{nat_tests}
use Rattle.figures.specs.Limits.{Fit}
use Rattle.figures.specs.declared.limits.Form.{Form}
use Rattle.pools.specs.Counts.{tally}
use Rattle.pools.specs.CountsLemmas.{tally_full}
use Rattle.machine.specs.declared.refusals.KeeperFault.{KeeperFault}
use Rattle.machine.specs.declared.states.Core.{Core}
use Rattle.machine.specs.State.{fresh}
use Rattle.machine.specs.Machine.{make}
use Rattle.keeper.proofs.FiguresFit.{form_fit}

-- what is tested before an acceptance is so
passed : (t : Bool) (x k : Core) (r : KeeperFault) → cond t (Ok x) (Err r) ≡ Ok k → (t ≡ true) × (k ≡ x)
passed true x k r e = (refl, cc)
passed false x k r e = cc

module _ (form : Form) (inside : List Bool) (k : Core) (e : make form inside ≡ Ok k) where
  pub made_fresh : k ≡ fresh form
  made_fresh = (passed _ _ k _ e).1

  pub made_fit : Fit form
  made_fit = let h = (passed _ _ k _ e).0 in form_fit form (grind (arith, h))

  pub made_full : inside ≡ replicate form.blocks true
  made_full =
      let h = (passed _ _ k _ e).0 in
      let long : length inside ≡ form.blocks = grind (arith, nat_tests, h) in
      let many : tally inside ≡ length inside = grind (arith, nat_tests, h) in
      tally_full inside many ∙ ap (λ n. replicate n true) long
