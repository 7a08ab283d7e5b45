-- The clauses go on to hold where a live block is retired and joins its worker's batch.
use Rattle.std.proofs.Common.{◌≡◌, ℕ, ◌+◌, ◌*◌, ◌<◌, ◌≤◌, cond, ◌&&◌, eqb, ◌≢◌, List, [], ◌∷◌, length, Some, None, Option, sym, refl, ap, ◌∙◌, subst, arith}
use native.Mathlib.Decide.{ℕ_discrete}
use Rattle.machine.specs.declared.states.Batch.{Batch}
use Rattle.machine.specs.declared.states.Standing.{Standing}
use Rattle.machine.specs.declared.states.Standing.TheVariants.{Pooled, Live, Retired}
use Rattle.machine.specs.declared.states.Task.{Task}
use Rattle.machine.specs.declared.states.Task.TheVariants.{Idle, TakeEra, TakeBlock, LookCell, LookEra, LookList, LookWalk, LookAgain, LookWrite, DropList, DropWalk, DropEra, TryVisit, TryHang, TryLast}
use Rattle.machine.proofs.Sums.{upd, Σ, tot, mark, is, Σ_cong, Σ_zero, Σ_term, Σ_two, Σ_change_in, Σ_upd, Σ_upd₂, upd_same, upd_other, at_upd, is_self, is_other, tot_on, tot_zero}
use Rattle.machine.proofs.Chains.{Chain, Ends, chain_upd, ends_more}
use Rattle.machine.proofs.Mirror.{St, join, rebatch}
use Rattle.machine.proofs.Sound.{Gh, Sound, Alive, Lead, Own, TaskRight, next, hung_of, owns, hung_for, due, due_of, of, on, to_hang}
use Rattle.machine.proofs.Standings.{is_pooled}
use Rattle.machine.specs.Account.{is_retired}

live_apart : {A : Type 0} (x : Standing) → x ≡ Live → x ≡ Retired → A
live_apart x a b = absurd (let z : ◌≡◌ {A = ℕ} 0 1 = cc in omega arith)

mark_self : (a : ℕ) → mark (eqb a a) ≡ 1
mark_self a = grind arith

mark_other : (a b : ℕ) → a ≢ b → mark (eqb a b) ≡ 0
mark_other a b h = grind arith

hung_none : (a b n : ℕ) → n ≡ 0 → ◌≡◌ {A = ℕ} (cond (eqb a b) n 0) 0
hung_none a b n z = grind arith

empty_of : (xs : List ℕ) → ((y : ℕ) → tot (is y) xs ≡ 0) → xs ≡ []
empty_of [] z = refl
empty_of (x ∷ xs) z = absurd (let i = is_self x in let k = z x in omega arith)

-- weights that agree on what hangs or is still to be walked
pub on_on : (R W : ℕ) (g : Gh) (p q : ℕ → ℕ) → ((x : ℕ) → 1 ≤ on R W g (is x) → p x ≡ q x) → on R W g p ≡ on R W g q
on_on R W g p q h =
    let a = Σ_cong (λ r. tot p (g.hung r)) (λ r. tot q (g.hung r)) R (λ r hr. tot_on p q (g.hung r) (λ x m. h x (let t = Σ_term (λ k. tot (is x) (g.hung k)) r R hr in omega arith))) in
    let b = Σ_cong (λ r. tot p (g.walk r)) (λ r. tot q (g.walk r)) W (λ r hr. tot_on p q (g.walk r) (λ x m. h x (let t = Σ_term (λ k. tot (is x) (g.walk k)) r W hr in omega arith))) in
    omega arith

pub on_zero : (R W : ℕ) (g : Gh) → on R W g (λ _. 0) ≡ 0
on_zero R W g =
    let a = Σ_cong (λ r. tot (λ _. 0) (g.hung r)) (λ _. 0) R (λ r _. tot_zero (g.hung r)) ∙ Σ_zero R in
    let b = Σ_cong (λ r. tot (λ _. 0) (g.walk r)) (λ _. 0) W (λ r _. tot_zero (g.walk r)) ∙ Σ_zero W in
    omega arith

-- what a try has still to come to is of its worker's batch
pub due_within : (R : ℕ) (elder : ℕ → Option ℕ) (members : ℕ → List ℕ) (x : Batch) (rest : List ℕ) (t : Task) → TaskRight R elder members (Some x) rest t
    → (y : ℕ) → tot (is y) (due t (members x.lead) rest) ≤ tot (is y) (members x.lead)
due_within R elder members x rest Idle h y = omega arith
due_within R elder members x rest TakeEra h y = omega arith
due_within R elder members x rest TakeBlock h y = omega arith
due_within R elder members x rest (LookCell a c) h y = omega arith
due_within R elder members x rest (LookEra a c seen) h y = omega arith
due_within R elder members x rest (LookList a c e) h y = omega arith
due_within R elder members x rest (LookWalk a c b) h y = omega arith
due_within R elder members x rest (LookAgain a c) h y = omega arith
due_within R elder members x rest (LookWrite a c e) h y = omega arith
due_within R elder members x rest (DropList a) h y = omega arith
due_within R elder members x rest (DropWalk a b) h y = omega arith
due_within R elder members x rest (DropEra a) h y = omega arith
due_within R elder members x rest (TryVisit r b aside) h y = omega arith
due_within R elder members x rest (TryHang b left hung) (z, e, _, _, _, _, within) y =
    let k : z ≡ x = cc in
    subst (λ (q : Batch). tot (is y) rest ≤ tot (is y) (members q.lead)) k (within y)
due_within R elder members x rest (TryLast hung) h y = omega arith

-- the lists, where the batch of lead l has other blocks and worker w another rest
abbrev pub joined : Gh → ℕ → ℕ → List ℕ → List ℕ → Gh
joined g w l ms rs = record { hung = g.hung; walk = g.walk; members = upd g.members l ms; rest = upd g.rest w rs }

idle_none : (m : ℕ) (o : Option Batch) → hung_for m o Idle ≡ 0
idle_none m None = refl
idle_none m (Some z) = hung_none z.lead m 0 refl

-- of a live block
module _ (N R W : ℕ) (s : St) (g : Gh) (c : Sound N R W s g) (b : ℕ) (live : s.standing b ≡ Live) where
  out : (m : ℕ) → tot (is b) (g.members m) ≡ 0
  out m = c.members_are b m ∙ ap (λ v. mark (is_retired v && eqb (s.lead b) m)) live

  not_live : (y : ℕ) → s.standing y ≡ Retired → y ≢ b
  not_live y r i = live_apart (s.standing b) live (subst (λ j. s.standing j ≡ Retired) i r)

  no_entry : on R W g (is b) ≡ 0
  no_entry = elim (ℕ_discrete (on R W g (is b)) 0) [
    | yes z ↦ z
    | no ne ↦ live_apart (s.standing b) live (c.entries b (omega arith))
  ]

  no_due_at : (o : Option Batch) (rest : List ℕ) (t : Task) → TaskRight R s.elder g.members o rest t → tot (is b) (due_of g.members rest o t) ≡ 0
  no_due_at None rest t h = refl
  no_due_at (Some z) rest t h =
      let d = due_within R s.elder g.members z rest t h b in
      let k = out z.lead in
      omega arith

  no_due : to_hang W s g (is b) ≡ 0
  no_due = Σ_cong (λ v. tot (is b) (due_of g.members (g.rest v) (s.batch v) (s.task v))) (λ _. 0) W (λ v hv. no_due_at (s.batch v) (g.rest v) (s.task v) (c.tasks v hv)) ∙ Σ_zero W

module _ (N R W : ℕ) (s : St) (g : Gh) (c : Sound N R W s g) (w b l : ℕ) (e : Option ℕ) (n : ℕ) (x : Batch) (t : Task) (rs : List ℕ) (hw : w < W) (idle : s.task w ≡ Idle) (live : s.standing b ≡ Live) (hb : b < N)
    (xl : x.lead ≡ l) (xn : x.newest ≡ b) (tn : next t ≡ None) (th : hung_of t ≡ 0) (td : (ms rest : List ℕ) → due t ms rest ≡ ms)
    (right : TaskRight R (upd s.elder b e) (upd g.members l (b ∷ g.members l)) (Some x) rs t)
    (leads : Lead (join s b l e n) l)
    (elsewhere : (m : ℕ) → m ≢ l → owns m (s.batch w) ≡ 0)
    (alone : Σ (λ v. owns l (s.batch v)) W ≡ owns l (s.batch w))
    (ends : Ends l (b ∷ g.members l))
    (chain : Chain s.elder e (g.members l))
    (all_due : due_of g.members (g.rest w) (s.batch w) Idle ≡ g.members l)
    (counted : upd s.count b n l + Σ (λ v. hung_for l (s.batch v) (s.task v)) W ≡ on R W g (of s.lead l) + 1024)
    (positive : Alive s → 0 < upd s.count b n l) where
  others : (v : ℕ) → v < W → v ≢ w → (z : Batch) → s.batch v ≡ Some z → z.lead ≢ l
  others v hv ne z q i =
      let two = Σ_two (λ j. owns l (s.batch j)) w v W hw hv ne in
      let o : owns l (s.batch v) ≡ 1 = ap (owns l) q ∙ ap (λ j. mark (eqb j l)) i ∙ mark_self l in
      let a = alone in
      omega arith

  members_other : (m : ℕ) → m ≢ l → upd g.members l (b ∷ g.members l) m ≡ g.members m
  members_other m ne = upd_other g.members l (b ∷ g.members l) m ne

  members_same : upd g.members l (b ∷ g.members l) l ≡ b ∷ g.members l
  members_same = upd_same g.members l (b ∷ g.members l)

  lead_back : (m : ℕ) → Lead s m → Lead (join s b l e n) m
  lead_back m ll =
      let nb = not_live N R W s g c b live m ll.0 in
      (upd_other s.standing b Retired m nb ∙ ll.0, upd_other s.lead b l m nb ∙ ll.1)

  not_new : (m : ℕ) → m ≢ l → Lead (join s b l e n) m → m ≢ b
  not_new m ne ll i = ne (sym ll.1 ∙ ap (upd s.lead b l) i ∙ upd_same s.lead b l)

  lead_then : (m : ℕ) → m ≢ l → Lead (join s b l e n) m → Lead s m
  lead_then m ne ll =
      let nb = not_new m ne ll in
      (sym (upd_other s.standing b Retired m nb) ∙ ll.0, sym (upd_other s.lead b l m nb) ∙ ll.1)

  -- the new block, and each other
  members_new : (m : ℕ) → tot (is b) (upd g.members l (b ∷ g.members l) m) ≡ mark (eqb l m)
  members_new m =
      at_upd (λ j v. tot (is b) v ≡ mark (eqb l j)) g.members l (b ∷ g.members l)
      (let i = is_self b in let o = out N R W s g c b live l in let k = mark_self l in omega arith)
      m (λ ne. out N R W s g c b live m ∙ sym (mark_other l m (λ i. ne (sym i))))

  members_old : (y m : ℕ) → y ≢ b → tot (is y) (upd g.members l (b ∷ g.members l) m) ≡ mark (is_retired (s.standing y) && eqb (s.lead y) m)
  members_old y m ne =
      at_upd (λ j v. tot (is y) v ≡ mark (is_retired (s.standing y) && eqb (s.lead y) j)) g.members l (b ∷ g.members l)
      (let z = is_other y b (λ i. ne (sym i)) in let k = c.members_are y l in omega arith)
      m (λ _. c.members_are y m)

  members_now : (y m : ℕ) → tot (is y) (upd g.members l (b ∷ g.members l) m) ≡ mark (is_retired (upd s.standing b Retired y) && eqb (upd s.lead b l y) m)
  members_now y m = elim (ℕ_discrete y b) [
    | yes i ↦ rw i (rw (upd_same s.standing b Retired, upd_same s.lead b l) (members_new m))
    | no ne ↦ rw (upd_other s.standing b Retired y ne, upd_other s.lead b l y ne) (members_old y m ne)
  ]

  led_now : (y : ℕ) → upd s.standing b Retired y ≡ Retired → Lead (join s b l e n) (upd s.lead b l y)
  led_now y r = elim (ℕ_discrete y b) [
    | yes i ↦ subst (Lead (join s b l e n)) (sym (ap (upd s.lead b l) i ∙ upd_same s.lead b l)) leads
    | no ne ↦
        subst (Lead (join s b l e n)) (sym (upd_other s.lead b l y ne)) (lead_back (s.lead y) (c.led y (sym (upd_other s.standing b Retired y ne) ∙ r)))
  ]

  ends_now : (m : ℕ) → Lead (join s b l e n) m → Ends m (upd g.members l (b ∷ g.members l) m)
  ends_now m = at_upd (λ j v. Lead (join s b l e n) j → Ends j v) g.members l (b ∷ g.members l) (λ _. ends) m (λ ne ll. c.ends_with m (lead_then m ne ll))

  owned_here : Σ (λ v. owns l (upd s.batch w (Some x) v)) W ≡ 1
  owned_here =
      let a = Σ_upd (owns l) s.batch w (Some x) W hw in
      let k : mark (eqb x.lead l) ≡ 1 = ap (λ j. mark (eqb j l)) xl ∙ mark_self l in
      let o = alone in
      omega arith

  owned_there : (m : ℕ) → m ≢ l → Σ (λ v. owns m (upd s.batch w (Some x) v)) W ≡ Σ (λ v. owns m (s.batch v)) W
  owned_there m ne =
      let a = Σ_upd (owns m) s.batch w (Some x) W hw in
      let k = mark_other x.lead m (λ i. ne (sym i ∙ xl)) in
      let o = elsewhere m ne in
      omega arith

  chain_now : Chain (upd s.elder b e) (Some x.newest) (b ∷ g.members l)
  chain_now = (
    ap Some xn,
    subst (λ o. Chain (upd s.elder b e) o (g.members l)) (sym (upd_same s.elder b e)) (chain_upd s.elder b e e (g.members l) (out N R W s g c b live l) chain),
  )

  own_now : Own (join s b l e n) (joined g w l (b ∷ g.members l) rs) (Some x)
  own_now = subst (λ j. Lead (join s b l e n) j × Chain (upd s.elder b e) (Some x.newest) (upd g.members l (b ∷ g.members l) j)) (sym xl) (leads, subst (Chain (upd s.elder b e) (Some x.newest)) (sym members_same) chain_now)

  own_kept : (o : Option Batch) → ((z : Batch) → o ≡ Some z → z.lead ≢ l) → Own s g o → Own (join s b l e n) (joined g w l (b ∷ g.members l) rs) o
  own_kept None k u = tt
  own_kept (Some z) k u = (
    lead_back z.lead u.0,
    subst (Chain (upd s.elder b e) (Some z.newest)) (sym (members_other z.lead (k z refl))) (chain_upd s.elder b e (Some z.newest) (g.members z.lead) (out N R W s g c b live z.lead) u.1),
  )

  own_once_now : (m : ℕ) → Σ (λ v. owns m (upd s.batch w (Some x) v)) W ≤ 1
  own_once_now m = elim (ℕ_discrete m l) [
    | yes i ↦ rw i (let o = owned_here in omega arith)
    | no ne ↦ let o = owned_there m ne in let k = c.own_once m in omega arith
  ]

  left_now : (m : ℕ) → Lead (join s b l e n) m → Σ (λ v. owns m (upd s.batch w (Some x) v)) W ≡ 0 → Chain (upd s.elder b e) (Some (s.newest m)) (upd g.members l (b ∷ g.members l) m)
  left_now m ll z = elim (ℕ_discrete m l) [
    | yes i ↦ absurd (let o = owned_here in let k = subst (λ j. Σ (λ v. owns j (upd s.batch w (Some x) v)) W ≡ 0) i z in omega arith)
    | no ne ↦
        subst (Chain (upd s.elder b e) (Some (s.newest m))) (sym (members_other m ne))
        (chain_upd s.elder b e (Some (s.newest m)) (g.members m) (out N R W s g c b live m) (c.left m (lead_then m ne ll) (sym (owned_there m ne) ∙ z)))
  ]

  task_kept : (o : Option Batch) (rest : List ℕ) (u : Task) → ((z : Batch) → o ≡ Some z → z.lead ≢ l) → TaskRight R s.elder g.members o rest u → TaskRight R (upd s.elder b e) (upd g.members l (b ∷ g.members l)) o rest u
  task_kept o rest Idle k h = tt
  task_kept o rest TakeEra k h = tt
  task_kept o rest TakeBlock k h = tt
  task_kept o rest (LookCell a d) k h = tt
  task_kept o rest (LookEra a d seen) k h = tt
  task_kept o rest (LookList a d f) k h = tt
  task_kept o rest (LookWalk a d f) k h = tt
  task_kept o rest (LookAgain a d) k h = tt
  task_kept o rest (LookWrite a d f) k h = tt
  task_kept o rest (DropList a) k h = tt
  task_kept o rest (DropWalk a d) k h = tt
  task_kept o rest (DropEra a) k h = tt
  task_kept o rest (TryVisit r a aside) k (z, q, in_r, at_most, along, last, long, within) =
      let same = sym (members_other z.lead (k z q)) in (
        z,
        q,
        in_r,
        at_most,
        chain_upd s.elder b e (Some a) rest (let i = within b in let j = out N R W s g c b live z.lead in omega arith) along,
        last,
        subst (λ ms. aside + length rest ≡ length ms) same long,
        λ y. subst (λ ms. tot (is y) rest ≤ tot (is y) ms) same (within y),
      )
  task_kept o rest (TryHang a left hung) k (z, q, some, fewer, most, along, within) =
      let same = sym (members_other z.lead (k z q)) in (
        z,
        q,
        some,
        fewer,
        most,
        chain_upd s.elder b e (Some a) rest (let i = within b in let j = out N R W s g c b live z.lead in omega arith) along,
        λ y. subst (λ ms. tot (is y) rest ≤ tot (is y) ms) same (within y),
      )
  task_kept o rest (TryLast hung) k h = h

  due_kept : (o : Option Batch) (rest : List ℕ) (u : Task) → ((z : Batch) → o ≡ Some z → z.lead ≢ l) → due_of (upd g.members l (b ∷ g.members l)) rest o u ≡ due_of g.members rest o u
  due_kept None rest u k = refl
  due_kept (Some z) rest u k = ap (λ ms. due u ms rest) (members_other z.lead (k z refl))

  due_now : due_of (upd g.members l (b ∷ g.members l)) rs (Some x) t ≡ b ∷ g.members l
  due_now = td (upd g.members l (b ∷ g.members l) x.lead) rs ∙ ap (upd g.members l (b ∷ g.members l)) xl ∙ members_same

  hang_now : (p : ℕ → ℕ) → to_hang W (rebatch (join s b l e n) w t (Some x)) (joined g w l (b ∷ g.members l) rs) p ≡ to_hang W s g p + p b
  hang_now p =
      let old : ℕ → ℕ = λ v. tot p (due_of g.members (g.rest v) (s.batch v) (s.task v)) in
      let new : ℕ → ℕ = λ v. tot p (due_of (upd g.members l (b ∷ g.members l)) (upd g.rest w rs v) (upd s.batch w (Some x) v) (upd s.task w t v)) in
      let a = Σ_change_in old new w W hw
      (λ v hv ne. rw (upd_other g.rest w rs v ne, upd_other s.batch w (Some x) v ne, upd_other s.task w t v ne) (ap (tot p) (due_kept (s.batch v) (g.rest v) (s.task v) (others v hv ne)))) in
      let o : old w ≡ tot p (g.members l) = ap (λ u. tot p (due_of g.members (g.rest w) (s.batch w) u)) idle ∙ ap (tot p) all_due in
      let k : new w ≡ tot p (b ∷ g.members l) = rw (upd_same g.rest w rs, upd_same s.batch w (Some x), upd_same s.task w t) (ap (tot p) due_now) in
      omega arith

  once_now : (y : ℕ) → on R W g (is y) + to_hang W (rebatch (join s b l e n) w t (Some x)) (joined g w l (b ∷ g.members l) rs) (is y) ≤ 1
  once_now y =
      let a = hang_now (is y) in
      elim (ℕ_discrete y b) [
        | yes i ↦
            let o : on R W g (is y) ≡ 0 = rw i (no_entry N R W s g c b live) in
            let d : to_hang W s g (is y) ≡ 0 = rw i (no_due N R W s g c b live) in
            let k : is y b ≡ 1 = rw i (is_self b) in
            omega arith
        | no ne ↦ let o = c.once y in let k = is_other y b (λ i. ne (sym i)) in omega arith
      ]

  hung_same : (m : ℕ) → Σ (λ v. hung_for m (upd s.batch w (Some x) v) (upd s.task w t v)) W ≡ Σ (λ v. hung_for m (s.batch v) (s.task v)) W
  hung_same m =
      let a = Σ_upd₂ (hung_for m) s.batch s.task w (Some x) t W hw in
      let o : hung_for m (s.batch w) (s.task w) ≡ 0 = ap (hung_for m (s.batch w)) idle ∙ idle_none m (s.batch w) in
      let k = hung_none x.lead m (hung_of t) th in
      omega arith

  on_same : (m : ℕ) → on R W g (of (upd s.lead b l) m) ≡ on R W g (of s.lead m)
  on_same m = on_on R W g (of (upd s.lead b l) m) (of s.lead m) (λ y lo. ap (λ j. mark (eqb j m)) (upd_other s.lead b l y (not_live N R W s g c b live y (c.entries y lo))))

  even_now : (m : ℕ) → Lead (join s b l e n) m
      → upd s.count b n m + Σ (λ v. hung_for m (upd s.batch w (Some x) v) (upd s.task w t v)) W ≡ on R W g (of (upd s.lead b l) m) + 1024 * Σ (λ v. owns m (upd s.batch w (Some x) v)) W
  even_now m ll =
      let h = hung_same m in
      let o = on_same m in
      elim (ℕ_discrete m l) [
        | yes i ↦
            let k : Σ (λ v. owns m (upd s.batch w (Some x) v)) W ≡ 1 = rw i owned_here in
            let f : upd s.count b n m + Σ (λ v. hung_for m (s.batch v) (s.task v)) W ≡ on R W g (of s.lead m) + 1024 = rw i counted in
            omega arith
        | no ne ↦
            let k = owned_there m ne in
            let f = c.even m (lead_then m ne ll) in
            let u = upd_other s.count b n m (not_new m ne ll) in
            omega arith
      ]

  alive_now : Alive s → Alive (rebatch (join s b l e n) w t (Some x))
  alive_now al m ll = elim (ℕ_discrete m l) [
    | yes i ↦ subst (λ j. 0 < upd s.count b n j) (sym i) (positive al)
    | no ne ↦ subst (λ j. 0 < j) (sym (upd_other s.count b n m (not_new m ne ll))) (al m (lead_then m ne ll))
  ]

  join_parts : Sound N R W (rebatch (join s b l e n) w t (Some x)) (joined g w l (b ∷ g.members l) rs) × (Alive s → Alive (rebatch (join s b l e n) w t (Some x)))
  join_parts = (
    record {
      pooled_in = λ y h. at_upd (λ j v. j < N → is_pooled v ≡ s.inside j) s.standing b Retired (λ _. sym (ap is_pooled live) ∙ c.pooled_in b hb) y (λ _. c.pooled_in y) h;
      beyond = λ y h. at_upd (λ j v. N ≤ j → v ≡ Pooled) s.standing b Retired (λ k. absurd (omega arith)) y (λ _. c.beyond y) h;
      members_are = members_now;
      led = led_now;
      ends_with = ends_now;
      own = λ v hv. at_upd (λ _ o. Own (join s b l e n) (joined g w l (b ∷ g.members l) rs) o) s.batch w (Some x) own_now v (λ ne. own_kept (s.batch v) (others v hv ne) (c.own v hv));
      own_once = own_once_now;
      left = left_now;
      hung_chain = c.hung_chain;
      lists_beyond = c.lists_beyond;
      walk_chain = λ v hv. at_upd (λ j u. Chain s.under (next u) (g.walk j)) s.task w t (subst (λ o. Chain s.under o (g.walk w)) (ap next idle ∙ sym tn) (c.walk_chain w hw)) v (λ _. c.walk_chain v hv);
      once = once_now;
      entries = λ y lo. at_upd (λ _ v. v ≡ Retired) s.standing b Retired refl y (λ _. c.entries y lo);
      tasks = λ v hv. elim (ℕ_discrete v w) [
        | yes i ↦ rw i (rw (upd_same s.batch w (Some x), upd_same g.rest w rs, upd_same s.task w t) right)
        | no ne ↦ rw (upd_other s.batch w (Some x) v ne, upd_other g.rest w rs v ne, upd_other s.task w t v ne) (task_kept (s.batch v) (g.rest v) (s.task v) (others v hv ne) (c.tasks v hv))
      ];
      even = even_now;
    },
    alive_now,
  )

unled : (v : Standing) (a b : ℕ) → (v ≡ Retired → a ≢ b) → mark (is_retired v && eqb a b) ≡ 0
unled Pooled a b h = refl
unled Live a b h = refl
unled Retired a b h = mark_other a b (h refl)

hung_other : (a b n : ℕ) → a ≢ b → ◌≡◌ {A = ℕ} (cond (eqb a b) n 0) 0
hung_other a b n h = grind arith

-- a live block leads nothing
module _ (N R W : ℕ) (s : St) (g : Gh) (c : Sound N R W s g) (b : ℕ) (live : s.standing b ≡ Live) where
  leads_none : (y : ℕ) → s.standing y ≡ Retired → s.lead y ≢ b
  leads_none y r = not_live N R W s g c b live (s.lead y) (c.led y r).0

  no_members : g.members b ≡ []
  no_members = empty_of (g.members b) (λ y. c.members_are y b ∙ unled (s.standing y) (s.lead y) b (leads_none y))

  not_owned : (o : Option Batch) → Own s g o → owns b o ≡ 0
  not_owned None u = refl
  not_owned (Some z) u = mark_other z.lead b (not_live N R W s g c b live z.lead u.0.0)

  not_hung : (o : Option Batch) (t : Task) → Own s g o → hung_for b o t ≡ 0
  not_hung None t u = refl
  not_hung (Some z) t u = hung_other z.lead b (hung_of t) (not_live N R W s g c b live z.lead u.0.0)

  no_owner : Σ (λ v. owns b (s.batch v)) W ≡ 0
  no_owner = Σ_cong (λ v. owns b (s.batch v)) (λ _. 0) W (λ v hv. not_owned (s.batch v) (c.own v hv)) ∙ Σ_zero W

  none_hung : Σ (λ v. hung_for b (s.batch v) (s.task v)) W ≡ 0
  none_hung = Σ_cong (λ v. hung_for b (s.batch v) (s.task v)) (λ _. 0) W (λ v hv. not_hung (s.batch v) (s.task v) (c.own v hv)) ∙ Σ_zero W

  none_on : on R W g (of s.lead b) ≡ 0
  none_on = on_on R W g (of s.lead b) (λ _. 0) (λ y lo. mark_other (s.lead y) b (leads_none y (c.entries y lo))) ∙ on_zero R W g

-- the first block of a batch
pub first_kept : (N R W : ℕ) (s : St) (g : Gh) → Sound N R W s g → (w b : ℕ) (x : Batch) (t : Task) (rs : List ℕ) → w < W → s.task w ≡ Idle → s.standing b ≡ Live → b < N → s.batch w ≡ None
    → x.lead ≡ b → x.newest ≡ b → next t ≡ None → hung_of t ≡ 0 → ((ms rest : List ℕ) → due t ms rest ≡ ms)
    → TaskRight R (upd s.elder b None) (upd g.members b (b ∷ [])) (Some x) rs t
    → Sound N R W (rebatch (join s b b None 1024) w t (Some x)) (joined g w b (b ∷ []) rs) × (Alive s → Alive (rebatch (join s b b None 1024) w t (Some x)))
first_kept N R W s g c w b x t rs hw idle live hb none xl xn tn th td right =
    let empty = no_members N R W s g c b live in
    subst (λ ms. Sound N R W (rebatch (join s b b None 1024) w t (Some x)) (joined g w b (b ∷ ms) rs) × (Alive s → Alive (rebatch (join s b b None 1024) w t (Some x)))) empty
    (join_parts N R W s g c w b b None 1024 x t rs hw idle live hb xl xn tn th td
    (subst (λ ms. TaskRight R (upd s.elder b None) (upd g.members b (b ∷ ms)) (Some x) rs t) (sym empty) right)
    (upd_same s.standing b Retired, upd_same s.lead b b)
    (λ m _. ap (owns m) none)
    (no_owner N R W s g c b live ∙ sym (ap (owns b) none))
    (subst (λ ms. Ends b (b ∷ ms)) (sym empty) refl)
    (subst (Chain s.elder None) (sym empty) refl)
    (ap (λ o. due_of g.members (g.rest w) o Idle) none ∙ sym empty)
    (let a = upd_same s.count b 1024 in let h = none_hung N R W s g c b live in let o = none_on N R W s g c b live in omega arith)
    (λ _. let a = upd_same s.count b 1024 in omega arith))

module _ (N R W : ℕ) (s : St) (g : Gh) (c : Sound N R W s g) (w : ℕ) (y : Batch) (hw : w < W) (some : s.batch w ≡ Some y) where
  owned : Own s g (Some y)
  owned = subst (Own s g) some (c.own w hw)

  owned_once : Σ (λ v. owns y.lead (s.batch v)) W ≡ 1
  owned_once =
      let a = Σ_term (λ v. owns y.lead (s.batch v)) w W hw in
      let o : owns y.lead (s.batch w) ≡ 1 = ap (owns y.lead) some ∙ mark_self y.lead in
      let k = c.own_once y.lead in
      omega arith

-- one more block of a batch
pub more_kept : (N R W : ℕ) (s : St) (g : Gh) → Sound N R W s g → (w b : ℕ) (y x : Batch) (t : Task) (rs : List ℕ) → w < W → s.task w ≡ Idle → s.standing b ≡ Live → b < N → s.batch w ≡ Some y
    → x.lead ≡ y.lead → x.newest ≡ b → next t ≡ None → hung_of t ≡ 0 → ((ms rest : List ℕ) → due t ms rest ≡ ms)
    → TaskRight R (upd s.elder b (Some y.newest)) (upd g.members y.lead (b ∷ g.members y.lead)) (Some x) rs t
    → Sound N R W (rebatch (join s b y.lead (Some y.newest) (s.count b)) w t (Some x)) (joined g w y.lead (b ∷ g.members y.lead) rs)
    × (Alive s → Alive (rebatch (join s b y.lead (Some y.newest) (s.count b)) w t (Some x)))
more_kept N R W s g c w b y x t rs hw idle live hb some xl xn tn th td right =
    let own = owned N R W s g c w y hw some in
    let one = owned_once N R W s g c w y hw some in
    let nb = not_live N R W s g c b live y.lead own.0.0 in
    let same = upd_other s.count b (s.count b) y.lead nb in
    join_parts N R W s g c w b y.lead (Some y.newest) (s.count b) x t rs hw idle live hb xl xn tn th td right
    (upd_other s.standing b Retired y.lead nb ∙ own.0.0, upd_other s.lead b y.lead y.lead nb ∙ own.0.1)
    (λ m ne. ap (owns m) some ∙ mark_other y.lead m (λ i. ne (sym i)))
    (one ∙ sym (ap (owns y.lead) some ∙ mark_self y.lead))
    (ends_more y.lead b (g.members y.lead) (c.ends_with y.lead own.0))
    own.1
    (ap (λ o. due_of g.members (g.rest w) o Idle) some)
    (let f = c.even y.lead own.0 in omega arith)
    (λ al. let p = al y.lead own.0 in omega arith)
