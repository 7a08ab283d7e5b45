-- A turn of a try that hangs a block, or passes over it.
use Rattle.std.proofs.Common.{◌≡◌, ℕ, suc, ◌+◌, ◌-◌, ◌*◌, ◌<◌, ◌≤◌, Bool, true, false, cond, eqb, ltb, ◌≢◌, List, [], ◌∷◌, length, Some, None, Option, sym, refl, ap, ◌∙◌, subst, arith}
use native.Mathlib.Decide.{ℕ_discrete}
use Rattle.machine.specs.declared.states.Batch.{Batch}
use Rattle.machine.specs.declared.states.HungList.TheVariants.{Off, Newest}
use Rattle.machine.specs.declared.states.Standing.TheVariants.{Retired}
use Rattle.machine.specs.declared.states.Task.{Task}
use Rattle.machine.specs.declared.states.Task.TheVariants.{TryHang, TryLast}
use Rattle.machine.proofs.Sums.{upd, Σ, tot, mark, is, upd_same, upd_other, is_self, is_other, Σ_term, Σ_upd, Σ_upd_at, Σ_upd₂_at, at_upd, at_upd₂}
use Rattle.machine.proofs.Chains.{Chain, chain_upd, chain_some}
use Rattle.machine.proofs.Mirror.{St, retask, relist, reunder}
use Rattle.machine.proofs.GiveKept.{marked}
use Rattle.machine.proofs.Sound.{Gh, Sound, head, next, owns, hung_of, hung_for, due, due_of, of, on, to_hang, Lead, TaskRight, Alive}

-- b hangs at place r, and bs is what worker w has still to come to
abbrev pub push : Gh → ℕ → ℕ → ℕ → List ℕ → Gh
push g r b w bs = record { hung = upd g.hung r (b ∷ g.hung r); walk = g.walk; members = g.members; rest = upd g.rest w bs }

more_than_none : (n : ℕ) (xs : List ℕ) (f : ℕ → Option ℕ) (o : Option ℕ) → 1 ≤ n → n < suc (length xs) → Chain f o xs → (d : ℕ) × (ds : List ℕ) × (o ≡ Some d) × (xs ≡ d ∷ ds)
more_than_none n [] f o h k ch = absurd (omega arith)
more_than_none n (d ∷ ds) f o h k ch = (d, ds, ch.0, refl)

module _ (N R W : ℕ) (s : St) (g : Gh) (c : Sound N R W s g) (small : R ≤ 32) (w : ℕ) (hw : w < W) (b left hung : ℕ) (e : s.task w ≡ TryHang b left hung) where
  hang_right : TaskRight R s.elder g.members (s.batch w) (g.rest w) (TryHang b left hung)
  hang_right = subst (TaskRight R s.elder g.members (s.batch w) (g.rest w)) e (c.tasks w hw)

  -- what a try that hangs has before it
  pub hang_info : (x : Batch) × (s.batch w ≡ Some x) × (bs : List ℕ) × (g.rest w ≡ b ∷ bs) × Chain s.elder (s.elder b) bs × (left < suc (length bs)) × (1 ≤ left) × (hung + left ≤ R) × ((y : ℕ) → is y b + tot (is y) bs ≤ tot (is y) (g.members x.lead))
  hang_info =
      let o = hang_right in
      let q = chain_some s.elder b (g.rest w) o.5 in
      (o.0, o.1, q.0, q.1, q.2, subst (λ ys. left < length ys) q.1 o.3, o.2, o.4, λ y. subst (λ ys. tot (is y) ys ≤ tot (is y) (g.members o.0.lead)) q.1 (o.6 y))

  pub hang_batch : (x : Batch) × (s.batch w ≡ Some x) × (s.standing b ≡ Retired) × (s.lead b ≡ x.lead)
  hang_batch =
      let i = hang_info in
      let a = i.8 b in
      let d = is_self b in
      let m = c.members_are b i.0.lead in
      let k = marked (s.standing b) (s.lead b) i.0.lead (omega arith) in
      (i.0, i.1, k.0, k.1)

  -- a list that is not off is at a place
  pub hang_place : (r : ℕ) → s.list r ≢ Off → r < R
  hang_place r ne = elim (ℕ_discrete (R - r) 0) [
    | yes z ↦ absurd (ne (c.lists_beyond r (omega arith)))
    | no nz ↦ omega arith
  ]

  module _ (bs : List ℕ) (eb : g.rest w ≡ b ∷ bs) where
    hang_chain : Chain s.elder (s.elder b) bs × (left < suc (length bs)) × ((x : Batch) → s.batch w ≡ Some x → (y : ℕ) → tot (is y) bs ≤ tot (is y) (g.members x.lead))
    hang_chain =
        let i = hang_info in
        let k : i.2 ≡ bs = let z = sym i.3 ∙ eb in cc in (
          subst (Chain s.elder (s.elder b)) k i.4,
          subst (λ ys. left < suc (length ys)) k i.5,
          λ x ex y.
              let j : i.0 ≡ x = let z = sym i.1 ∙ ex in cc in
              subst (λ u. tot (is y) bs ≤ tot (is y) (g.members u.lead)) j
              (subst (λ ys. tot (is y) ys ≤ tot (is y) (g.members i.0.lead)) k (let a = i.8 y in omega arith)),
        )

    -- there is always a block after it
    pub hang_next : (d : ℕ) × (ds : List ℕ) × (s.elder b ≡ Some d) × (bs ≡ d ∷ ds)
    hang_next = more_than_none left bs s.elder (s.elder b) hang_info.6 hang_chain.1 hang_chain.0

    -- t may follow, with n hung
    abbrev pub Follows : Task → ℕ → Type 0
    Follows t n = (next t ≡ None) × (hung_of t ≡ n) × ((p : ℕ → ℕ) → (ms : List ℕ) → tot p (due t ms bs) ≤ tot p bs) × TaskRight R s.elder g.members (s.batch w) bs t

    -- what may follow, with the block hung or passed over
    pub hang_more : (d n : ℕ) → s.elder b ≡ Some d → 1 < left → n ≤ hung + 1 → TaskRight R s.elder g.members (s.batch w) bs (TryHang d (left - 1) n)
    hang_more d n ed more le =
        let i = hang_info in
        let h = i.7 in
        let l = hang_chain.1 in
        (i.0, i.1, omega arith, omega arith, omega arith, subst (λ o. Chain s.elder o bs) ed hang_chain.0, hang_chain.2 i.0 i.1)

    pub hang_end : (n : ℕ) → n ≤ hung + 1 → TaskRight R s.elder g.members (s.batch w) bs (TryLast n)
    hang_end n le = let i = hang_info in let h = i.7 in let l = i.6 in (i.0, i.1, omega arith)

    -- the task that follows, and all that is asked of it below
    pub hang_follows : (d n : ℕ) → s.elder b ≡ Some d → n ≤ hung + 1 → Follows (cond (ltb 1 left) (TryHang d (left - 1) n) (TryLast n)) n
    hang_follows d n ed le = go (ltb 1 left) refl
      where
        go : (y : Bool) → ltb 1 left ≡ y → Follows (cond y (TryHang d (left - 1) n) (TryLast n)) n
        go true i = (refl, refl, λ p ms. omega arith, hang_more d n ed (grind arith) le)
        go false i = (refl, refl, λ p ms. omega arith, hang_end n le)

    module _ (t : Task) (nt : next t ≡ None) (dt : (p : ℕ → ℕ) → (ms : List ℕ) → tot p (due t ms bs) ≤ tot p bs) (right : TaskRight R s.elder g.members (s.batch w) bs t) where
      hang_due : (p : ℕ → ℕ) → Σ (λ v. tot p (due_of g.members (upd g.rest w bs v) (s.batch v) (upd s.task w t v))) W + p b ≤ to_hang W s g p
      hang_due p =
          let x : Batch = hang_info.0 in
          let ex : s.batch w ≡ Some x = hang_info.1 in
          let a = Σ_upd₂_at (λ j y u. tot p (due_of g.members y (s.batch j) u)) g.rest s.task w bs t W hw in
          let d : tot p (due_of g.members (g.rest w) (s.batch w) (s.task w)) ≡ p b + tot p bs = rw (eb, e, ex) refl in
          let f : tot p (due_of g.members bs (s.batch w) t) ≤ tot p bs = rw ex (dt p (g.members x.lead)) in
          omega arith

      hang_tasks : (v : ℕ) → v < W → TaskRight R s.elder g.members (s.batch v) (upd g.rest w bs v) (upd s.task w t v)
      hang_tasks v hv = at_upd₂ (λ j y u. TaskRight R s.elder g.members (s.batch j) y u) g.rest s.task w bs t right v (λ ne. c.tasks v hv)

      hang_walks : (v : ℕ) → v < W → Chain s.under (next (upd s.task w t v)) (g.walk v)
      hang_walks v hv = at_upd (λ j u. Chain s.under (next u) (g.walk j)) s.task w t
          (subst (λ o. Chain s.under o (g.walk w)) (ap next e ∙ sym nt) (c.walk_chain w hw)) v (λ ne. c.walk_chain v hv)

      hang_count : (l : ℕ) → Σ (λ v. hung_for l (s.batch v) (upd s.task w t v)) W + hung_for l (s.batch w) (TryHang b left hung) ≡ Σ (λ v. hung_for l (s.batch v) (s.task v)) W + hung_for l (s.batch w) t
      hang_count l =
          let a = Σ_upd_at (λ j u. hung_for l (s.batch j) u) s.task w t W hw in
          let d = ap (hung_for l (s.batch w)) e in
          omega arith

      -- b is on no list yet
      hang_out : on R W g (is b) ≡ 0
      hang_out =
          let a = hang_due (is b) in
          let d = is_self b in
          let o = c.once b in
          omega arith

      -- the list at its place is off: the block is passed over
      pub skip_sound : hung_of t ≡ hung → Sound N R W (retask s w t) (record { hung = g.hung; walk = g.walk; members = g.members; rest = upd g.rest w bs })
      skip_sound ht = record {
        pooled_in = c.pooled_in;
        beyond = c.beyond;
        members_are = c.members_are;
        led = c.led;
        ends_with = c.ends_with;
        own = c.own;
        own_once = c.own_once;
        left = c.left;
        hung_chain = c.hung_chain;
        lists_beyond = c.lists_beyond;
        walk_chain = hang_walks;
        once = λ y. let a = hang_due (is y) in let o = c.once y in omega arith;
        entries = c.entries;
        tasks = hang_tasks;
        even = λ l ll.
            let a = hang_count l in
            let d : hung_for l (s.batch w) t ≡ hung_for l (s.batch w) (TryHang b left hung) = rw hang_info.1 (ap (λ n. cond (eqb hang_info.0.lead l) n 0) ht) in
            let o = c.even l ll in
            omega arith;
      }

      pub skip_alive : Alive s → Alive (retask s w t)
      skip_alive al = al

      -- the block hangs at place r
      module _ (r : ℕ) (hr : r < R) (ht : hung_of t ≡ hung + 1) where
        -- the state after it
        abbrev pub hanged : St
        hanged = retask (relist (reunder s b (head (s.list r))) r (Newest b)) w t

        on_push : (p : ℕ → ℕ) → on R W (push g r b w bs) p ≡ on R W g p + p b
        on_push p = let a = Σ_upd (tot p) g.hung r (b ∷ g.hung r) R hr in omega arith

        not_hung : (k : ℕ) → k < R → tot (is b) (g.hung k) ≡ 0
        not_hung k h = let a = Σ_term (λ i. tot (is b) (g.hung i)) k R h in let o = hang_out in omega arith

        not_walked : (v : ℕ) → v < W → tot (is b) (g.walk v) ≡ 0
        not_walked v h = let a = Σ_term (λ i. tot (is b) (g.walk i)) v W h in let o = hang_out in omega arith

        hang_even : (l : ℕ) → Lead s l → s.count l + Σ (λ v. hung_for l (s.batch v) (upd s.task w t v)) W ≡ on R W (push g r b w bs) (of s.lead l) + 1024 * Σ (λ v. owns l (s.batch v)) W
        hang_even l ll =
            let i = hang_batch in
            let a = hang_count l in
            let d : hung_for l (s.batch w) t ≡ hung_for l (s.batch w) (TryHang b left hung) + of s.lead l b = rw (i.1, i.3) (go (eqb i.0.lead l)) in
            let o = c.even l ll in
            let n = on_push (of s.lead l) in
            omega arith
          where
            go : (y : Bool) → cond y (hung_of t) 0 ≡ cond y hung 0 + mark y
            go true = ht
            go false = refl

        hang_hung : (k : ℕ) → k < R → Chain (upd s.under b (head (s.list r))) (head (upd s.list r (Newest b) k)) (upd g.hung r (b ∷ g.hung r) k)
        hang_hung k hk =
            at_upd₂ (λ j y z. Chain (upd s.under b (head (s.list r))) (head y) z) s.list g.hung r (Newest b) (b ∷ g.hung r)
            (refl, rw (upd_same s.under b (head (s.list r))) (chain_upd s.under b _ _ _ (not_hung r hr) (c.hung_chain r hr)))
            k (λ ne. chain_upd s.under b _ _ _ (not_hung k hk) (c.hung_chain k hk))

        pub hang_sound : Sound N R W hanged (push g r b w bs)
        hang_sound = record {
          pooled_in = c.pooled_in;
          beyond = c.beyond;
          members_are = c.members_are;
          led = c.led;
          ends_with = c.ends_with;
          own = c.own;
          own_once = c.own_once;
          left = c.left;
          hung_chain = hang_hung;
          lists_beyond = λ k h. rw (upd_other s.list r (Newest b) k (λ i. omega arith)) (c.lists_beyond k h);
          walk_chain = λ v hv. chain_upd s.under b _ _ _ (not_walked v hv) (hang_walks v hv);
          once = λ y. let a = hang_due (is y) in let n = on_push (is y) in let o = c.once y in omega arith;
          entries = λ y h. elim (ℕ_discrete y b) [
            | yes i ↦ rw i hang_batch.2
            | no ne ↦ c.entries y (let n = on_push (is y) in let z = is_other y b (λ i. ne (sym i)) in omega arith)
          ];
          tasks = hang_tasks;
          even = hang_even;
        }

        pub hang_alive : Alive s → Alive hanged
        hang_alive al = al
