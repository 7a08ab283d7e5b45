-- The clauses hold at the start, and go on to hold where a block is taken from the pool.
use Rattle.std.proofs.Common.{◌≡◌, ℕ, ◌<◌, ◌≤◌, true, false, ◌&&◌, eqb, [], Some, None, Option, sym, refl, ap, ◌∙◌, subst, arith}
use Rattle.machine.specs.declared.states.Batch.{Batch}
use Rattle.machine.specs.declared.states.HungList.TheVariants.{Off}
use Rattle.machine.specs.declared.states.Standing.{Standing}
use Rattle.machine.specs.declared.states.Standing.TheVariants.{Pooled, Live, Retired}
use Rattle.machine.specs.declared.states.Task.TheVariants.{Idle}
use Rattle.machine.proofs.Sums.{upd, Σ, tot, mark, is, Σ_cong, Σ_zero, at_upd, at_upd₂}
use Rattle.machine.proofs.Mirror.{St, enliven}
use Rattle.machine.proofs.Sound.{Gh, Sound, Alive, Lead, Own, TaskRight, head, next, owns, due_of, to_hang}
use Rattle.machine.proofs.Standings.{is_pooled}
use Rattle.machine.specs.Account.{is_retired}

pooled_apart : {A : Type 0} (x : Standing) → x ≡ Pooled → x ≡ Retired → A
pooled_apart x a b = absurd (let z : ◌≡◌ {A = ℕ} 0 1 = cc in omega arith)

live_apart : {A : Type 0} → Live ≡ Retired → A
live_apart e = absurd (let z : ◌≡◌ {A = ℕ} 0 1 = cc in omega arith)

-- only pooled blocks are in the pool
pub is_pooled_is : (x : Standing) → is_pooled x ≡ true → x ≡ Pooled
is_pooled_is Pooled e = refl
is_pooled_is Live e = cc
is_pooled_is Retired e = cc

module _ (N R W : ℕ) (s : St) (ins : (b : ℕ) → b < N → s.inside b ≡ true) (pooled : (b : ℕ) → s.standing b ≡ Pooled) (off : (r : ℕ) → s.list r ≡ Off) (idle : (w : ℕ) → s.task w ≡ Idle) (none : (w : ℕ) → s.batch w ≡ None) where
  no_owner : (l : ℕ) → Σ (λ w. owns l (s.batch w)) W ≡ 0
  no_owner l = Σ_cong (λ w. owns l (s.batch w)) (λ _. 0) W (λ w h. ap (owns l) (none w)) ∙ Σ_zero W

  none_due : (p : ℕ → ℕ) → to_hang W s (record { hung = λ _. []; walk = λ _. []; members = λ _. []; rest = λ _. [] }) p ≡ 0
  none_due p = Σ_cong (λ w. tot p (due_of (λ _. []) [] (s.batch w) (s.task w))) (λ _. 0) W (λ w h. ap (λ o. tot p (due_of (λ _. []) [] o (s.task w))) (none w)) ∙ Σ_zero W

  fresh_parts : Sound N R W s (record { hung = λ _. []; walk = λ _. []; members = λ _. []; rest = λ _. [] }) × Alive s
  fresh_parts =
      let zR = Σ_zero R in
      let zW = Σ_zero W in (
        record {
          pooled_in = λ b h. ap is_pooled (pooled b) ∙ sym (ins b h);
          beyond = λ b h. pooled b;
          members_are = λ b l. sym (ap (λ x. mark (is_retired x && eqb (s.lead b) l)) (pooled b));
          led = λ b e. pooled_apart (s.standing b) (pooled b) e;
          ends_with = λ l ll. pooled_apart (s.standing l) (pooled l) ll.0;
          own = λ w h. subst (Own s (record { hung = λ _. []; walk = λ _. []; members = λ _. []; rest = λ _. [] })) (sym (none w)) tt;
          own_once = λ l. let z = no_owner l in omega arith;
          left = λ l ll z. pooled_apart (s.standing l) (pooled l) ll.0;
          hung_chain = λ r h. ap head (off r);
          lists_beyond = λ r h. off r;
          walk_chain = λ w h. ap next (idle w);
          once = λ b. let d = none_due (is b) in omega arith;
          entries = λ b lo. absurd (omega arith);
          tasks = λ w h. subst (TaskRight R s.elder (λ _. []) (s.batch w) []) (sym (idle w)) tt;
          even = λ l ll. pooled_apart (s.standing l) (pooled l) ll.0;
        },
        λ l ll. pooled_apart (s.standing l) (pooled l) ll.0,
      )

-- a pool that is whole, and nothing else
pub fresh_sound : (N R W : ℕ) (s : St) → ((b : ℕ) → b < N → s.inside b ≡ true) → ((b : ℕ) → s.standing b ≡ Pooled) → ((r : ℕ) → s.list r ≡ Off) → ((w : ℕ) → s.task w ≡ Idle) → ((w : ℕ) → s.batch w ≡ None)
    → Sound N R W s (record { hung = λ _. []; walk = λ _. []; members = λ _. []; rest = λ _. [] }) × Alive s
fresh_sound = fresh_parts

module _ (N R W : ℕ) (s : St) (g : Gh) (c : Sound N R W s g) (n : ℕ) (hn : n < N) (ins : s.inside n ≡ true) where
  was_pooled : s.standing n ≡ Pooled
  was_pooled = is_pooled_is (s.standing n) (c.pooled_in n hn ∙ ins)

  -- taking a block changes no retired one
  still : (y : ℕ) → is_retired (upd s.standing n Live y) ≡ is_retired (s.standing y)
  still y = at_upd (λ j v. is_retired v ≡ is_retired (s.standing j)) s.standing n Live (sym (ap is_retired was_pooled)) y (λ ne. refl)

  same_then : (y : ℕ) → upd s.standing n Live y ≡ Retired → s.standing y ≡ Retired
  same_then y = at_upd (λ j v. v ≡ Retired → s.standing j ≡ Retired) s.standing n Live (λ k. live_apart k) y (λ ne k. k)

  same_back : (y : ℕ) → s.standing y ≡ Retired → upd s.standing n Live y ≡ Retired
  same_back y = at_upd (λ j v. s.standing j ≡ Retired → v ≡ Retired) s.standing n Live (λ k. pooled_apart (s.standing n) was_pooled k) y (λ ne k. k)

  lead_then : (l : ℕ) → Lead (enliven s n) l → Lead s l
  lead_then l ll = (same_then l ll.0, ll.1)

  lead_back : (l : ℕ) → Lead s l → Lead (enliven s n) l
  lead_back l ll = (same_back l ll.0, ll.1)

  own_back : (o : Option Batch) → Own s g o → Own (enliven s n) g o
  own_back None u = tt
  own_back (Some x) u = (lead_back x.lead u.0, u.1)

  pub take_kept : Sound N R W (enliven s n) g × (Alive s → Alive (enliven s n))
  take_kept = (
    record {
      pooled_in = λ b h. at_upd₂ (λ j v u. j < N → is_pooled v ≡ u) s.standing s.inside n Live false (λ _. refl) b (λ ne. c.pooled_in b) h;
      beyond = λ b h. at_upd (λ j v. N ≤ j → v ≡ Pooled) s.standing n Live (λ k. absurd (omega arith)) b (λ ne. c.beyond b) h;
      members_are = λ b l. c.members_are b l ∙ ap (λ v. mark (v && eqb (s.lead b) l)) (sym (still b));
      led = λ b e. lead_back (s.lead b) (c.led b (same_then b e));
      ends_with = λ l ll. c.ends_with l (lead_then l ll);
      own = λ w h. own_back (s.batch w) (c.own w h);
      own_once = c.own_once;
      left = λ l ll. c.left l (lead_then l ll);
      hung_chain = c.hung_chain;
      lists_beyond = c.lists_beyond;
      walk_chain = c.walk_chain;
      once = c.once;
      entries = λ b lo. same_back b (c.entries b lo);
      tasks = c.tasks;
      even = λ l ll. c.even l (lead_then l ll);
    },
    λ al l ll. al l (lead_then l ll),
  )
