-- A batch whose count has come to 0 goes into the pool whole, and all clauses stay.
use Rattle.std.proofs.Common.{◌≡◌, ℕ, suc, ◌+◌, ◌<◌, ◌≤◌, Bool, true, ◌&&◌, eqb, ◌≢◌, List, [], ◌∷◌, length, Some, None, Option, sym, refl, ap, ◌∙◌, subst, arith}
use native.Mathlib.Omega.{by_contra}
use native.Mathlib.Decide.{ℕ_discrete}
use Rattle.machine.specs.declared.states.Batch.{Batch}
use Rattle.machine.specs.declared.states.Standing.{Standing}
use Rattle.machine.specs.declared.states.Standing.TheVariants.{Pooled, Live, Retired}
use Rattle.machine.specs.declared.states.Task.{Task}
use Rattle.machine.specs.declared.states.Task.TheVariants.{Idle, TakeEra, TakeBlock, LookCell, LookEra, LookList, LookWalk, LookAgain, LookWrite, DropList, DropWalk, DropEra, TryVisit, TryHang, TryLast}
use Rattle.machine.proofs.Sums.{upd, Σ, tot, mark, is, Each, each_of, Σ_cong, Σ_mono, Σ_term, upd_same, upd_other, is_self, is_other, tot_mono}
use Rattle.machine.proofs.Chains.{Chain, Ends}
use Rattle.machine.proofs.Mirror.{St, give, give_all}
use Rattle.machine.proofs.Sound.{Gh, Sound, Lead, Own, TaskRight, Alive, AliveBut, owns, due, due_of, of, on, to_hang}
use Rattle.machine.proofs.Standings.{is_pooled}
use Rattle.machine.specs.Account.{is_retired}
use Rattle.machine.proofs.Owners.{slack}

-- s with other standings, and others in the pool
abbrev pub restand : St → (ℕ → Bool) → (ℕ → Standing) → St
restand s inside standing = record { inside = inside; standing = standing; lead = s.lead; under = s.under; elder = s.elder; count = s.count; newest = s.newest; list = s.list; task = s.task; batch = s.batch }

-- blocks that go into the pool change nothing else
pub give_shape : (s : St) (bs : List ℕ) → give_all s bs ≡ restand s (give_all s bs).inside (give_all s bs).standing
give_shape s [] = refl
give_shape s (b ∷ bs) = give_shape (give s b) bs

-- a block not given is as it was
pub give_out : (s : St) (bs : List ℕ) (b : ℕ) → tot (is b) bs ≡ 0 → ((give_all s bs).inside b ≡ s.inside b) × ((give_all s bs).standing b ≡ s.standing b)
give_out s [] b z = (refl, refl)
give_out s (x ∷ xs) b z =
    let ne : b ≢ x = λ e. let k : is b x ≡ 1 = rw e (is_self x) in omega arith in
    let r = give_out (give s x) xs b (omega arith) in
    (r.0 ∙ upd_other s.inside x true b ne, r.1 ∙ upd_other s.standing x Pooled b ne)

-- a block given is in the pool
pub give_in : (s : St) (bs : List ℕ) (b : ℕ) → 1 ≤ tot (is b) bs → ((give_all s bs).inside b ≡ true) × ((give_all s bs).standing b ≡ Pooled)
give_in s [] b h = absurd (omega arith)
give_in s (x ∷ xs) b h = elim (ℕ_discrete (tot (is b) xs) 0) [
  | yes z ↦ (
      let r = give_out (give s x) xs b z in
      let e : b ≡ x = elim (ℕ_discrete x b) [
        | yes i ↦ sym i
        | no ne ↦ absurd (let k = is_other b x ne in omega arith)
      ] in (
        r.0 ∙ subst (λ y. upd s.inside y true b ≡ true) e (upd_same s.inside b true),
        r.1 ∙ subst (λ y. upd s.standing y Pooled b ≡ Pooled) e (upd_same s.standing b Pooled),
      ))
  | no ne ↦ give_in (give s x) xs b (omega arith)
]

-- the entries that are b are among those of b's batch
is_of : (lead : ℕ → ℕ) (b x : ℕ) → is b x ≤ of lead (lead b) x
is_of lead b x = elim (ℕ_discrete x b) [
  | yes e ↦ rw e (grind arith)
  | no ne ↦ let z = is_other b x ne in omega arith
]

pub on_mono : (R W : ℕ) (g : Gh) (p q : ℕ → ℕ) → ((x : ℕ) → p x ≤ q x) → on R W g p ≤ on R W g q
on_mono R W g p q h =
    let a = Σ_mono (λ r. tot p (g.hung r)) (λ r. tot q (g.hung r)) R (λ i _. tot_mono p q (g.hung i) h) in
    let b = Σ_mono (λ w. tot p (g.walk w)) (λ w. tot q (g.walk w)) W (λ i _. tot_mono p q (g.walk i) h) in
    omega arith

-- a block that counts as a member is one
pub marked : (x : Standing) (a l : ℕ) → 1 ≤ mark (is_retired x && eqb a l) → (x ≡ Retired) × (a ≡ l)
marked Pooled a l h = absurd (omega arith)
marked Live a l h = absurd (omega arith)
marked Retired a l h = elim (ℕ_discrete a l) [
  | yes e ↦ (refl, e)
  | no ne ↦ absurd (let k = is_other l a ne in omega arith)
]

clash : Pooled ≡ Retired → ⊥
clash e = let k : ◌≡◌ {A = ℕ} 0 1 = cc in omega arith

unowned : (l : ℕ) (x : Batch) → owns l (Some x) ≡ 0 → x.lead ≢ l
unowned l x z e = let k : is l x.lead ≡ 1 = rw e (is_self l) in omega arith

-- the tasks of a worker see no batch but its own
task_other : (R : ℕ) (elder : ℕ → Option ℕ) (m n : ℕ → List ℕ) (x : Option Batch) (rest : List ℕ) (t : Task) → ((y : Batch) → x ≡ Some y → m y.lead ≡ n y.lead)
    → TaskRight R elder m x rest t → TaskRight R elder n x rest t
task_other R elder m n x rest Idle h r = tt
task_other R elder m n x rest TakeEra h r = tt
task_other R elder m n x rest TakeBlock h r = tt
task_other R elder m n x rest (LookCell k c) h r = tt
task_other R elder m n x rest (LookEra k c seen) h r = tt
task_other R elder m n x rest (LookList k c e) h r = tt
task_other R elder m n x rest (LookWalk k c b) h r = tt
task_other R elder m n x rest (LookAgain k c) h r = tt
task_other R elder m n x rest (LookWrite k c e) h r = tt
task_other R elder m n x rest (DropList k) h r = tt
task_other R elder m n x rest (DropWalk k b) h r = tt
task_other R elder m n x rest (DropEra k) h r = tt
task_other R elder m n x rest (TryVisit k b aside) h r =
    let e = h r.0 r.1 in (
      r.0,
      r.1,
      r.2,
      r.3,
      r.4,
      r.5,
      subst (λ ms. aside + length rest ≡ length ms) e r.6,
      subst (λ ms. (y : ℕ) → tot (is y) rest ≤ tot (is y) ms) e r.7,
    )
task_other R elder m n x rest (TryHang b left hung) h r =
    let e = h r.0 r.1 in (
      r.0,
      r.1,
      r.2,
      r.3,
      r.4,
      r.5,
      subst (λ ms. (y : ℕ) → tot (is y) rest ≤ tot (is y) ms) e r.6,
    )
task_other R elder m n x rest (TryLast hung) h r = r

due_other : (m n : ℕ → List ℕ) (rest : List ℕ) (x : Option Batch) (t : Task) → ((y : Batch) → x ≡ Some y → m y.lead ≡ n y.lead)
    → due_of m rest x t ≡ due_of n rest x t
due_other m n rest None t h = refl
due_other m n rest (Some x) t h = ap (λ ms. due t ms rest) (h x refl)

-- the batch of lead l is no more
abbrev pub disband : Gh → ℕ → Gh
disband g l = record { hung = g.hung; walk = g.walk; members = upd g.members l []; rest = g.rest }

-- a batch with a count of 0
module _ (N R W : ℕ) (s : St) (g : Gh) (c : Sound N R W s g) (small : R ≤ 32) (l : ℕ) (ll : Lead s l) (z : s.count l ≡ 0) where
  -- is no worker's own
  pub spent_left : Σ (λ w. owns l (s.batch w)) W ≡ 0
  spent_left = let e = c.even l ll in let k = slack N R W s g c small l in omega arith

  -- and none of it hangs or is still to be walked
  pub spent_off : on R W g (of s.lead l) ≡ 0
  spent_off = let e = c.even l ll in let k = slack N R W s g c small l in omega arith

  -- a block of it is retired and is one of the N
  pub spent_retired : (b : ℕ) → 1 ≤ tot (is b) (g.members l) → (s.standing b ≡ Retired) × (b < N)
  spent_retired b h =
      let k = marked (s.standing b) (s.lead b) l (let m = c.members_are b l in omega arith) in
      (k.0, by_contra (suc b) N (λ n. clash (sym (c.beyond b (omega arith)) ∙ k.0)))

  -- the same of the list
  pub spent_each : Each (λ b. (s.standing b ≡ Retired) × (b < N)) (g.members l)
  spent_each = each_of (λ b. (s.standing b ≡ Retired) × (b < N)) (g.members l) spent_retired

  -- a retired block that names l is of it
  spent_member : (b : ℕ) → s.standing b ≡ Retired → s.lead b ≡ l → tot (is b) (g.members l) ≡ 1
  spent_member b e k = c.members_are b l ∙ rw (e, k) (is_self l)

  spent_entry : (b : ℕ) → 1 ≤ on R W g (is b) → s.lead b ≢ l
  spent_entry b h k =
      let a = on_mono R W g (is b) (of s.lead (s.lead b)) (is_of s.lead b) in
      let d : on R W g (is b) ≤ on R W g (of s.lead l) = subst (λ j. on R W g (is b) ≤ on R W g (of s.lead j)) k a in
      let o = spent_off in
      omega arith

  spent_own : (w : ℕ) → w < W → (x : Batch) → s.batch w ≡ Some x → x.lead ≢ l
  spent_own w hw x e = unowned l x (
      let t = Σ_term (λ v. owns l (s.batch v)) w W hw in
      let k = ap (owns l) e in
      let o = spent_left in
      omega arith)

  spent_same : (w : ℕ) → w < W → (x : Batch) → s.batch w ≡ Some x → g.members x.lead ≡ upd g.members l [] x.lead
  spent_same w hw x e = sym (upd_other g.members l [] x.lead (spent_own w hw x e))

  -- its blocks, and no others, go into the pool
  module _ (i : ℕ → Bool) (st : ℕ → Standing) (in_now : (b : ℕ) → 1 ≤ tot (is b) (g.members l) → (i b ≡ true) × (st b ≡ Pooled))
      (as_was : (b : ℕ) → tot (is b) (g.members l) ≡ 0 → (i b ≡ s.inside b) × (st b ≡ s.standing b)) where
    was : (b : ℕ) → st b ≡ Retired → (s.standing b ≡ Retired) × (s.lead b ≢ l)
    was b e = elim (ℕ_discrete (tot (is b) (g.members l)) 0) [
      | yes k ↦ (
          let r = sym (as_was b k).1 ∙ e in
          (r, λ n. let m = spent_member b r n in omega arith))
      | no ne ↦ absurd (clash (sym (in_now b (omega arith)).1 ∙ e))
    ]

    stays : (b : ℕ) → s.standing b ≡ Retired → s.lead b ≢ l → st b ≡ Retired
    stays b e n = elim (ℕ_discrete (tot (is b) (g.members l)) 0) [
      | yes k ↦ (as_was b k).1 ∙ e
      | no ne ↦ absurd (n (marked (s.standing b) (s.lead b) l (let m = c.members_are b l in omega arith)).1)
    ]

    was_lead : (k : ℕ) → Lead (restand s i st) k → Lead s k × (k ≢ l)
    was_lead k lk = let r = was k lk.0 in ((r.0, lk.1), λ e. r.1 (lk.1 ∙ e))

    stays_lead : (k : ℕ) → Lead s k → k ≢ l → Lead (restand s i st) k
    stays_lead k lk ne = (stays k lk.0 (λ e. ne (sym lk.1 ∙ e)), lk.1)

    given_own : (x : Option Batch) → ((y : Batch) → x ≡ Some y → y.lead ≢ l) → Own s g x → Own (restand s i st) (disband g l) x
    given_own None n o = tt
    given_own (Some x) n o = (
      stays_lead x.lead o.0 (n x refl),
      subst (Chain s.elder (Some x.newest)) (sym (upd_other g.members l [] x.lead (n x refl))) o.1,
    )

    given_pooled : (b : ℕ) → b < N → is_pooled (st b) ≡ i b
    given_pooled b h = elim (ℕ_discrete (tot (is b) (g.members l)) 0) [
      | yes k ↦ let r = as_was b k in ap is_pooled r.1 ∙ c.pooled_in b h ∙ sym r.0
      | no ne ↦ let r = in_now b (omega arith) in ap is_pooled r.1 ∙ sym r.0
    ]

    given_beyond : (b : ℕ) → N ≤ b → st b ≡ Pooled
    given_beyond b h = elim (ℕ_discrete (tot (is b) (g.members l)) 0) [
      | yes k ↦ (as_was b k).1 ∙ c.beyond b h
      | no ne ↦ (in_now b (omega arith)).1
    ]

    given_members : (b k : ℕ) → tot (is b) (upd g.members l [] k) ≡ mark (is_retired (st b) && eqb (s.lead b) k)
    given_members b k = elim (ℕ_discrete (tot (is b) (g.members l)) 0) [
      | yes z ↦ elim (ℕ_discrete k l) [
        | yes e ↦ subst (λ j. tot (is b) (upd g.members l [] j) ≡ mark (is_retired (st b) && eqb (s.lead b) j)) (sym e)
            (ap (tot (is b)) (upd_same g.members l []) ∙ sym z ∙ c.members_are b l ∙ ap (λ x. mark (is_retired x && eqb (s.lead b) l)) (sym (as_was b z).1))
        | no ne ↦ ap (tot (is b)) (upd_other g.members l [] k ne) ∙ c.members_are b k ∙ ap (λ x. mark (is_retired x && eqb (s.lead b) k)) (sym (as_was b z).1)
      ]
      | no nz ↦ (
          let gone : ◌≡◌ {A = ℕ} 0 (mark (is_retired (st b) && eqb (s.lead b) k)) = ap (λ x. mark (is_retired x && eqb (s.lead b) k)) (sym (in_now b (omega arith)).1) in
          elim (ℕ_discrete k l) [
            | yes e ↦ ap (tot (is b)) (subst (λ j. upd g.members l [] j ≡ []) (sym e) (upd_same g.members l [])) ∙ gone
            | no ne ↦ (
                let r = marked (s.standing b) (s.lead b) l (let m = c.members_are b l in omega arith) in
                let k0 : mark (is_retired (s.standing b) && eqb (s.lead b) k) ≡ 0 = rw (r.0, r.1) (is_other k l (λ j. ne (sym j))) in
                ap (tot (is b)) (upd_other g.members l [] k ne) ∙ c.members_are b k ∙ k0 ∙ gone)
          ])
    ]

    given_due : (p : ℕ → ℕ) → to_hang W (restand s i st) (disband g l) p ≡ to_hang W s g p
    given_due p = Σ_cong (λ w. tot p (due_of (upd g.members l []) (g.rest w) (s.batch w) (s.task w))) (λ w. tot p (due_of g.members (g.rest w) (s.batch w) (s.task w))) W
        (λ w hw. ap (tot p) (sym (due_other g.members (upd g.members l []) (g.rest w) (s.batch w) (s.task w) (spent_same w hw))))

    given_sound : Sound N R W (restand s i st) (disband g l)
    given_sound =
        record {
          pooled_in = given_pooled;
          beyond = given_beyond;
          members_are = given_members;
          led = λ b e. let r = was b e in let m = c.led b r.0 in stays_lead (s.lead b) m r.1;
          ends_with = λ k lk. let r = was_lead k lk in subst (Ends k) (sym (upd_other g.members l [] k r.1)) (c.ends_with k r.0);
          own = λ w hw. given_own (s.batch w) (spent_own w hw) (c.own w hw);
          own_once = c.own_once;
          left = λ k lk o. let r = was_lead k lk in subst (Chain s.elder (Some (s.newest k))) (sym (upd_other g.members l [] k r.1)) (c.left k r.0 o);
          hung_chain = c.hung_chain;
          lists_beyond = c.lists_beyond;
          walk_chain = c.walk_chain;
          once = λ b. let d = given_due (is b) in let o = c.once b in omega arith;
          entries = λ b h. stays b (c.entries b h) (spent_entry b h);
          tasks = λ w hw. task_other R s.elder g.members (upd g.members l []) (s.batch w) (g.rest w) (s.task w) (spent_same w hw) (c.tasks w hw);
          even = λ k lk. c.even k (was_lead k lk).0;
        }

    given_alive : AliveBut s l → Alive (restand s i st)
    given_alive al k lk = let r = was_lead k lk in al k r.1 r.0

  -- it goes into the pool
  pub give_keeps : AliveBut s l → Sound N R W (give_all s (g.members l)) (disband g l) × Alive (give_all s (g.members l))
  give_keeps al =
      let ms = g.members l in
      let a = give_in s ms in
      let b = give_out s ms in
      let i = (give_all s ms).inside in
      let st = (give_all s ms).standing in
      subst (λ x. Sound N R W x (disband g l) × Alive x) (sym (give_shape s ms)) (given_sound i st a b, given_alive i st a b al)

-- a batch with another count stays
pub none_spent : (s : St) (l : ℕ) → s.count l ≢ 0 → AliveBut s l → Alive s
none_spent s l n al k lk = elim (ℕ_discrete k l) [
  | yes e ↦ subst (λ j. 0 < s.count j) (sym e) (omega arith)
  | no ne ↦ al k ne lk
]
