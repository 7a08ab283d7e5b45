-- That every turn keeps the keeper and the account of what is shown in agreement, and takes no block that is shown.
use Rattle.std.proofs.Common.{◌≡◌, ℕ, ◌+◌, ◌-◌, ◌<◌, ◌≤◌, Bool, true, false, eqb, ltb, ◌≢◌, List, [], length, get_or, set, Some, None, Ok, Err, Option, Result, sym, refl, ap, ◌∙◌, subst, inr, arith, length-set}
use native.Mathlib.Decide.{ℕ_discrete}
use Rattle.std.proofs.lemmas.Bool.Decides.{nat_tests}
use Rattle.std.proofs.lemmas.Bool.{false≢true}
use Rattle.std.proofs.lemmas.List.{get_or-set_same, get_or-set_other}
use Rattle.std.specs.Option.{option_map}
use Rattle.pools.specs.Counts.{tally}
use Rattle.pools.specs.declared.PoolFault.{PoolFault}
use Rattle.pools.specs.declared.PoolFault.TheVariants.{NoneIn}
use Rattle.machine.specs.declared.calls.Call.TheVariants.{Turn}
use Rattle.machine.specs.declared.calls.Value.TheVariants.{Block}
use Rattle.machine.specs.declared.refusals.Refusal.{Refusal}
use Rattle.machine.specs.declared.refusals.Refusal.TheVariants.{Withdrawn, Full, Dry, EraSpent}
use Rattle.machine.specs.declared.states.Batch.{Batch}
use Rattle.machine.specs.declared.states.Block.{Block as Row}
use Rattle.machine.specs.declared.states.HungList.{HungList}
use Rattle.machine.specs.declared.states.HungList.TheVariants.{Off, Empty, Newest}
use Rattle.machine.specs.declared.states.Task.{Task}
use Rattle.machine.specs.declared.states.Task.TheVariants.{Idle, TakeEra, TakeBlock, LookCell, LookEra, LookList, LookWalk, LookAgain, LookWrite, DropList, DropWalk, DropEra, TryVisit, TryHang, TryLast}
use Rattle.machine.specs.declared.states.Worker.{Worker}
use Rattle.machine.specs.declared.states.Core.{Core}
use Rattle.machine.specs.State.{block, worker, reservation, blank_block, blank_worker, with_era, with_block, with_worker, with_task, idle}
use Rattle.machine.specs.Cells.{home}
use Rattle.machine.specs.Moves.{Move, drawn, gain, counted}
use Rattle.machine.specs.Machine.{State, Reply, told}
use Rattle.machine.specs.Taking.{take_era, took, take_block}
use Rattle.machine.specs.Walking.{all_pooled, due, with_count, count_down, handled}
use Rattle.machine.specs.Looking.{readable, own_reservation, with_list, with_own_era, with_shown, look_era, look_list, look_on}
use Rattle.machine.specs.Dropping.{drop_on, drop_era}
use Rattle.machine.specs.Trying.{passed_over, try_visit, hanged, hang_on, hung_at, try_hang, settled, with_slot, with_under, try_last}
use Rattle.machine.specs.Turns.{step}
use Rattle.machine.specs.Account.{taking, looking, dropping, trying, Account, put, is_taking, doing_of}
use Rattle.machine.specs.Showing.{Sight, now_shows, taken_by, block_of, finished_with, watched}
use Rattle.machine.specs.Protection.{TakesUnshown}
use Rattle.machine.proofs.Passing.{by_test}
use Rattle.machine.proofs.Namings.{set_seen}
use Rattle.machine.proofs.Doings.{put_here, put_there, all_pooled_workers}
use Rattle.machine.proofs.Sights.{Fine, Sees, Loses, loses_self, loses_then, loses_block, loses_pooled, shows_stay, fine_loses, sees_loses}

-- the block of a value that is one
pub value_block : (R : Type 0) (v : Option ℕ) → block_of {R = R} (option_map Block v) ≡ v
value_block R None = refl
value_block R (Some b) = refl

module _ {R : Type 0} (W : ℕ) (s : State R) (a : Account) (e : Sight R) (n w : ℕ) (se : Sees W e s.core s.table) (hw : w < W) (lw : w < length s.core.workers)
    (unshown : 0 < tally s.inside → (v h : ℕ) → e.shows v h ≡ Some n → ⊥) (unnamed : 0 < tally s.inside → 1 ≤ (block s.core n).names → ⊥) (below : 0 < tally s.inside → n < length s.core.blocks.rows)
    (four : (h : ℕ) (x : ℕ) (v : Option ℕ) → (worker s.core w).task ≡ LookEra h x v → h < length (worker s.core w).shows) where
  abbrev k : Core
  k = s.core

  -- what a turn with this answer, and these blocks given back, replies
  abbrev reply : Move → Reply R
  reply m = told w (counted m.answer (gain (drawn m.taken s.inside n) m.given))

  -- the account then
  abbrev then_sees : Move → Sight R
  then_sees m = watched e a (Turn w) (reply m) s.table

  abbrev pub Heard : Move → Type 0
  Heard m = Sees W (then_sees m) m.core s.table × ((b : ℕ) → Fine e k s.table b → (m.taken ≡ true → b ≢ n) → Fine (then_sees m) m.core s.table b) × TakesUnshown e (a.doing w) (reply m)

  -- a turn that shows, takes and links nothing
  plain : (j : Core) (y : Worker) (back : List ℕ) (answer : Result (Bool × Option ℕ) Refusal) → j.workers ≡ k.workers → y.shows ≡ (worker k w).shows → Loses k j
      → then_sees (record { core = with_worker j w y; taken = false; given = back; answer = answer }) ≡ e → TakesUnshown e (a.doing w) (reply (record { core = with_worker j w y; taken = false; given = back; answer = answer }))
      → Heard (record { core = with_worker j w y; taken = false; given = back; answer = answer })
  plain j y back answer ws sh l same untaken = (
    subst (λ u. Sees W u (with_worker j w y) s.table) (sym same) (sees_loses W e k s.table se (with_worker j w y) (shows_stay k j w y ws sh) l),
    λ b f _. subst (λ u. Fine u (with_worker j w y) s.table b) (sym same) (fine_loses W e k s.table se (with_worker j w y) l b f),
    untaken,
  )

  goes : (j : Core) (y : Worker) (back : List ℕ) → j.workers ≡ k.workers → y.shows ≡ (worker k w).shows → Loses k j → Heard (record { core = with_worker j w y; taken = false; given = back; answer = Ok (true, None) })
  goes j y back ws sh l = plain j y back (Ok (true, None)) ws sh l refl (λ _ on. absurd (false≢true (sym on)))

  stops : (j : Core) (y : Worker) (back : List ℕ) → j.workers ≡ k.workers → y.shows ≡ (worker k w).shows → Loses k j → finished_with e w (a.doing w) None ≡ e → is_taking (a.doing w) ≡ false
      → Heard (record { core = with_worker j w y; taken = false; given = back; answer = Ok (false, None) })
  stops j y back ws sh l d none = plain j y back (Ok (false, None)) ws sh l d (λ t. absurd (false≢true (sym none ∙ t)))

  fails : (r : Refusal) → Heard (record { core = idle k w; taken = false; given = []; answer = Err r })
  fails r = plain k _ [] (Err r) refl refl (loses_self k) refl tt

  -- taking
  take_era_heard : Heard (take_era k w)
  take_era_heard =
      by_test Heard (eqb (worker k w).takings 0) _ _
      (λ _. by_test Heard (eqb k.era 4294967295) _ _ (λ _. fails EraSpent) (λ _. goes (with_era k (k.era + 1)) _ [] refl refl (loses_self k)))
      (λ _. goes k _ [] refl refl (loses_self k))

  took_heard : a.doing w ≡ taking → 0 < tally s.inside → Heard (took k w (Ok n))
  took_heard d some =
      let j : Core = (took k w (Ok n)).core in
      let l : Sight R = taken_by e w (Some n) in
      let e' : then_sees (took k w (Ok n)) ≡ l = ap (λ u. finished_with {R = R} e w u (Some (Block n))) d in
      let same : (v : ℕ) → (worker j v).shows ≡ (worker k v).shows = shows_stay k k w _ refl refl in
      let names : (b : ℕ) → (block j b).names ≡ (block k b).names = set_seen (λ (y : Row). y.names) blank_block k.blocks.rows n _ refl in
      let owner : (b : ℕ) → b ≢ n → (block j b).owner ≡ (block k b).owner = λ b ne. ap (λ (y : Row). y.owner) (get_or-set_other k.blocks.rows n b _ blank_block ne) in
      let mine : (block j n).owner ≡ Some w = ap (λ (y : Row). y.owner) (get_or-set_same k.blocks.rows n _ blank_block (below some)) in
      let fine : (b : ℕ) → b ≢ n → Fine e k s.table b → Fine l j s.table b = λ b ne f. (owner b ne ∙ f.0, put_there e.linked n None b ne ∙ f.1) in (
        subst (λ u. Sees W u j s.table) (sym e') (record {
          agree = λ v h. se.agree v h ∙ ap (λ us. get_or us h None) (sym (same v));
          rooms = λ v hv. ap length (same v) ∙ se.rooms v hv;
          owned = λ b v z. elim (ℕ_discrete b n) [
            | yes i ↦
                (let q : ◌≡◌ {A = Option ℕ} (Some w) (Some v) = sym mine ∙ ap (λ u. (block j u).owner) (sym i) ∙ z in
                (ap (put e.taker n (Some w)) i ∙ put_here e.taker n (Some w) ∙ q, ap (put e.linked n None) i ∙ put_here e.linked n None))
            | no ne ↦ (let q = se.owned b v (sym (owner b ne) ∙ z) in (put_there e.taker n (Some w) b ne ∙ q.0, put_there e.linked n None b ne ∙ q.1))
          ];
          named = λ b m. elim (ℕ_discrete b n) [
            | yes i ↦ absurd (unnamed some (let q = names b in let r = ap (λ u. (block k u).names) i in omega arith))
            | no ne ↦ fine b ne (se.named b (let q = names b in omega arith))
          ];
        }),
        λ b f ne. subst (λ u. Fine u j s.table b) (sym e') (fine b (ne refl) f),
        λ _ _. (n, refl, unshown some),
      )

  take_block_heard : a.doing w ≡ taking → Heard (take_block k s.inside n w)
  take_block_heard d =
      by_test Heard (ltb k.live k.form.live) _ _
      (λ _. by_test (λ (r : Result ℕ PoolFault). Heard (took k w r)) (eqb (tally s.inside) 0) _ _ (λ _. fails (Dry NoneIn)) (λ ne. took_heard d (grind (arith, nat_tests))))
      (λ _. fails Full)

  -- looking
  look_era_heard : (h x : ℕ) (v : Option ℕ) → (worker k w).task ≡ LookEra h x v → a.doing w ≡ looking h → Heard (look_era k w h x v)
  look_era_heard h x v te d =
      by_test Heard (eqb k.era (own_reservation k w h).era) _ _
      (λ _.
      let j : Core = with_shown k w h v Idle in
      let l : Sight R = now_shows e w h v in
      let e' : finished_with {R = R} e w (a.doing w) (option_map Block v) ≡ l = ap (λ u. finished_with {R = R} e w u (option_map Block v)) d ∙ ap (now_shows e w h) (value_block R v) in
      let long : h < length (worker k w).shows = four h x v te in
      let own : (worker j w).shows ≡ set (worker k w).shows h v = ap (λ (y : Worker). y.shows) (get_or-set_same k.workers w _ blank_worker lw) in
      let other : (u : ℕ) → u ≢ w → (worker j u).shows ≡ (worker k u).shows = λ u ne. ap (λ (y : Worker). y.shows) (get_or-set_other k.workers w u _ blank_worker ne) in
      let fine : (b : ℕ) → Fine e k s.table b → Fine l j s.table b = λ b f. f in (
        subst (λ u. Sees W u j s.table) (sym e') (record {
          agree = λ u i. elim (ℕ_discrete u w) [
            | yes q ↦ subst (λ z. put e.shows w (put (e.shows w) h v) z i ≡ get_or (worker j z).shows i None) (sym q)
                (ap (λ f. f i) (put_here e.shows w (put (e.shows w) h v)) ∙ at_own long i ∙ ap (λ us. get_or us i None) (sym own))
            | no ne ↦ ap (λ f. f i) (put_there e.shows w (put (e.shows w) h v) u ne) ∙ se.agree u i ∙ ap (λ us. get_or us i None) (sym (other u ne))
          ];
          rooms = λ u hu. elim (ℕ_discrete u w) [
            | yes q ↦ subst (λ z. length (worker j z).shows ≡ 4) (sym q) (ap length own ∙ length-set (worker k w).shows h v ∙ se.rooms w hw)
            | no ne ↦ ap length (other u ne) ∙ se.rooms u hu
          ];
          owned = λ b u z. se.owned b u z;
          named = λ b m. se.named b m;
        }),
        λ b f _. subst (λ u. Fine u j s.table b) (sym e') (fine b f),
        λ t. absurd (false≢true (sym (ap is_taking d) ∙ t)),
      ))
      (λ _. goes k _ [] refl refl (loses_self k))
    where
      at_own : h < length (worker k w).shows → (i : ℕ) → put (e.shows w) h v i ≡ get_or (set (worker k w).shows h v) i None
      at_own long i = elim (ℕ_discrete i h) [
        | yes q ↦ subst (λ z. put (e.shows w) h v z ≡ get_or (set (worker k w).shows h v) z None) (sym q) (put_here (e.shows w) h v ∙ sym (get_or-set_same (worker k w).shows h v None long))
        | no ne ↦ put_there (e.shows w) h v i ne ∙ se.agree w i ∙ sym (get_or-set_other (worker k w).shows h i v None ne)
      ]

  look_list_heard : (h x c : ℕ) (l : HungList) → Heard (look_list k w h x c l)
  look_list_heard h x c Off = goes (with_list k w h Empty) _ [] refl refl (loses_self k)
  look_list_heard h x c Empty = goes k _ [] refl refl (loses_self k)
  look_list_heard h x c (Newest b) = goes (with_list k w h Empty) _ [] refl refl (loses_self k)

  -- walking
  recounted : (l count newest : ℕ) (back : List ℕ) → Loses k (all_pooled (with_block k l (with_count (block k l) count newest)) back)
  recounted l count newest back =
      let j : Core = with_block k l (with_count (block k l) count newest) in
      loses_then k j (all_pooled j back) (loses_block k l (with_count (block k l) count newest) (inr refl) (omega arith)) (loses_pooled back j)

  handled_heard : (b : ℕ) (t : Task) → Heard (handled k w b t)
  handled_heard b t =
      let l = (block k b).lead in
      let back = due (count_down k l) l in
      let ws : (all_pooled (count_down k l) back).workers ≡ k.workers = all_pooled_workers back (count_down k l) in
      goes (all_pooled (count_down k l) back) _ back ws (ap (λ us. (get_or us w blank_worker).shows) ws) (recounted l ((block k l).count - 1) (block k l).newest back)

  -- dropping
  drop_era_heard : (h : ℕ) → a.doing w ≡ dropping → Heard (drop_era k w h)
  drop_era_heard h d =
      by_test Heard (ltb (h + 1) k.form.holds) _ _
      (λ _. goes (with_own_era k w h 0) _ [] refl refl (loses_self k))
      (λ _. stops (with_own_era k w h 0) _ [] refl refl (loses_self k) (ap (λ u. finished_with {R = R} e w u None) d) (ap is_taking d))

  -- trying
  module _ (d : a.doing w ≡ trying) where
    tells_nothing : finished_with e w (a.doing w) None ≡ e
    tells_nothing = ap (λ u. finished_with {R = R} e w u None) d

    try_visit_heard : (r b m : ℕ) (v : Option Batch) → Heard (try_visit k w r b m v)
    try_visit_heard r b m None = stops k _ [] refl refl (loses_self k) tells_nothing (ap is_taking d)
    try_visit_heard r b m (Some y) =
        by_test Heard (passed_over (reservation k r) y.least) _ _
        (λ _. goes k _ [] refl refl (loses_self k))
        (λ _. by_test Heard (eqb b y.lead) _ _
        (λ _. stops k _ [] refl refl (loses_self k) tells_nothing (ap is_taking d))
        (λ _. goes (with_block k b (with_slot (block k b) r)) _ [] refl refl (loses_block k b (with_slot (block k b) r) (inr refl) (omega arith))))

    hung_heard : (b : ℕ) (v : Option ℕ) (t : Task) → Heard (record { core = with_task (hung_at k (block k b).slot b v) w t; taken = false; given = []; answer = Ok (true, None) })
    hung_heard b v t = goes (hung_at k (block k b).slot b v) _ [] refl refl (loses_block k b (with_under (block k b) v) (inr refl) (omega arith))

    hang_on_heard : (y : Batch) (b left hung : ℕ) (l : HungList) → Heard (hang_on k w y b left hung l)
    hang_on_heard y b left hung Off = goes k _ [] refl refl (loses_self k)
    hang_on_heard y b left hung Empty = hung_heard b None (hanged k y b left (hung + 1))
    hang_on_heard y b left hung (Newest x) = hung_heard b (Some x) (hanged k y b left (hung + 1))

    try_hang_heard : (b left hung : ℕ) (v : Option Batch) → Heard (try_hang k w b left hung v)
    try_hang_heard b left hung None = stops k _ [] refl refl (loses_self k) tells_nothing (ap is_taking d)
    try_hang_heard b left hung (Some y) = hang_on_heard y b left hung (reservation k (block k b).slot).list

    try_last_heard : (hung : ℕ) (v : Option Batch) → Heard (try_last k w hung v)
    try_last_heard hung None = stops k _ [] refl refl (loses_self k) tells_nothing (ap is_taking d)
    try_last_heard hung (Some y) =
        let l = y.lead in
        let back = due (settled k y hung) l in
        let ws : (all_pooled (settled k y hung) back).workers ≡ k.workers = all_pooled_workers back (settled k y hung) in
        stops (all_pooled (settled k y hung) back) _ back ws (ap (λ us. (get_or us w blank_worker).shows) ws) (recounted l ((block k l).count + hung - 1024) y.newest back) tells_nothing (ap is_taking d)

  -- a step, by the task
  pub step_heard : (t : Task) → (worker k w).task ≡ t → a.doing w ≡ doing_of t → Heard (step k s.inside n w t)
  step_heard Idle te d = (se, λ b f _. f, tt)
  step_heard TakeEra te d = take_era_heard
  step_heard TakeBlock te d = take_block_heard d
  step_heard (LookCell h x) te d = by_test Heard (readable k (home x)) _ _ (λ _. goes k _ [] refl refl (loses_self k)) (λ _. fails Withdrawn)
  step_heard (LookEra h x v) te d = look_era_heard h x v te d
  step_heard (LookList h x c) te d = look_list_heard h x c (own_reservation k w h).list
  step_heard (LookWalk h x b) te d = handled_heard b (look_on h x (block k b).under)
  step_heard (LookAgain h x) te d = goes k _ [] refl refl (loses_self k)
  step_heard (LookWrite h x c) te d = goes (with_own_era k w h c) _ [] refl refl (loses_self k)
  step_heard (DropList h) te d = goes (with_list k w h Off) _ [] refl refl (loses_self k)
  step_heard (DropWalk h b) te d = handled_heard b (drop_on h (block k b).under)
  step_heard (DropEra h) te d = drop_era_heard h d
  step_heard (TryVisit r b m) te d = try_visit_heard d r b m (worker k w).batch
  step_heard (TryHang b left hung) te d = try_hang_heard d b left hung (worker k w).batch
  step_heard (TryLast hung) te d = try_last_heard d hung (worker k w).batch
