-- The last turn of a try: the batch leaves its worker, and its count is what hangs of it.
use Rattle.std.proofs.Common.{◌≡◌, ℕ, ◌+◌, ◌-◌, ◌*◌, ◌<◌, ◌≤◌, Some, None, sym, refl, ap, arith}
use Rattle.machine.specs.declared.states.Batch.{Batch}
use Rattle.machine.specs.declared.states.Task.TheVariants.{Idle, TryLast}
use Rattle.machine.proofs.Sums.{upd, Σ, tot, is, upd_other, Σ_upd, Σ_upd₂, Σ_upd₂_at, at_upd, at_upd₂}
use Rattle.machine.proofs.Chains.{Chain}
use Rattle.machine.proofs.Mirror.{St, recount, rebatch}
use Rattle.machine.proofs.Sound.{Gh, Sound, next, owns, hung_for, due_of, of, on, to_hang, Lead, Own, TaskRight, Alive, AliveBut}
use Rattle.machine.proofs.Owners.{owns_other, slack_of, own_lead, own_chain}

module _ (N R W : ℕ) (s : St) (g : Gh) (c : Sound N R W s g) (small : R ≤ 32) (w : ℕ) (hw : w < W) (hung : ℕ) (x : Batch) (e : s.task w ≡ TryLast hung) (eb : s.batch w ≡ Some x) where
  -- the state after it
  abbrev pub last : St
  last = rebatch (recount s x.lead (s.count x.lead + hung - 1024) x.newest) w Idle None

  last_owns : (l : ℕ) → Σ (λ v. owns l (upd s.batch w None v)) W + owns l (Some x) ≡ Σ (λ v. owns l (s.batch v)) W
  last_owns l =
      let a = Σ_upd (owns l) s.batch w None W hw in
      let d = ap (owns l) eb in
      omega arith

  last_hung : (l : ℕ) → Σ (λ v. hung_for l (upd s.batch w None v) (upd s.task w Idle v)) W + hung_for l (Some x) (TryLast hung) ≡ Σ (λ v. hung_for l (s.batch v) (s.task v)) W
  last_hung l =
      let a = Σ_upd₂ (hung_for l) s.batch s.task w None Idle W hw in
      let d : hung_for l (s.batch w) (s.task w) ≡ hung_for l (Some x) (TryLast hung) = rw (e, eb) refl in
      omega arith

  last_due : (p : ℕ → ℕ) → to_hang W last g p ≡ to_hang W s g p
  last_due p =
      let a = Σ_upd₂_at (λ j y t. tot p (due_of g.members (g.rest j) y t)) s.batch s.task w None Idle W hw in
      let d : tot p (due_of g.members (g.rest w) (s.batch w) (s.task w)) ≡ 0 = rw (e, eb) refl in
      omega arith

  last_tasks : (v : ℕ) → v < W → TaskRight R s.elder g.members (upd s.batch w None v) (g.rest v) (upd s.task w Idle v)
  last_tasks v hv = at_upd₂ (λ j y t. TaskRight R s.elder g.members y (g.rest j) t) s.batch s.task w None Idle tt v (λ ne. c.tasks v hv)

  last_even : (l : ℕ) → Lead s l
      → upd s.count x.lead (s.count x.lead + hung - 1024) l + Σ (λ v. hung_for l (upd s.batch w None v) (upd s.task w Idle v)) W
      ≡ on R W g (of s.lead l) + 1024 * Σ (λ v. owns l (upd s.batch w None v)) W
  last_even l ll =
      let a = last_owns l in
      let b = last_hung l in
      let o = c.even l ll in
      let m = c.own_once l in
      let z = slack_of R W s.elder g.members (upd s.batch w None) g.rest (upd s.task w Idle) small last_tasks l in
      grind arith

  last_left : (l : ℕ) → Lead s l → Σ (λ v. owns l (upd s.batch w None v)) W ≡ 0 → Chain s.elder (Some (upd s.newest x.lead x.newest l)) (g.members l)
  last_left l ll z =
      at_upd (λ j n. Chain s.elder (Some n) (g.members j)) s.newest x.lead x.newest (own_chain N R W s g c w x hw eb) l
      (λ ne. c.left l ll (let a = last_owns l in let o = owns_other l x (λ i. ne (sym i)) in omega arith))

  -- the batch's lead is one
  pub last_lead : Lead s x.lead
  last_lead = own_lead N R W s g c w x hw eb

  pub last_leads : Lead last x.lead
  last_leads = last_lead

  pub last_sound : Sound N R W last g
  last_sound = record {
    pooled_in = c.pooled_in;
    beyond = c.beyond;
    members_are = c.members_are;
    led = c.led;
    ends_with = c.ends_with;
    own = λ v hv. at_upd (λ j y. Own s g y) s.batch w None tt v (λ ne. c.own v hv);
    own_once = λ l. let a = last_owns l in let o = c.own_once l in omega arith;
    left = last_left;
    hung_chain = c.hung_chain;
    lists_beyond = c.lists_beyond;
    walk_chain = λ v hv. at_upd (λ j t. Chain s.under (next t) (g.walk j)) s.task w Idle
        (rw (ap next (sym e)) (c.walk_chain w hw)) v (λ ne. c.walk_chain v hv);
    once = λ b. let a = last_due (is b) in let o = c.once b in omega arith;
    entries = c.entries;
    tasks = last_tasks;
    even = last_even;
  }

  pub last_alive : Alive s → AliveBut last x.lead
  last_alive al l ne ll = rw (upd_other s.count x.lead (s.count x.lead + hung - 1024) l ne) (al l ll)
