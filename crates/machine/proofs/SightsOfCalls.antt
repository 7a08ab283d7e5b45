-- That the calls but the turn keep the keeper and the account of what is shown in agreement.
use Rattle.std.proofs.Common.{◌≡◌, ℕ, zero, suc, ◌<◌, true, false, ◌&&◌, ◌≢◌, List, [], ◌∷◌, length, get_or, set, replicate, Some, None, Ok, Option, sym, refl, ap, ◌∙◌, subst, inl, arith, length-set}
use native.Mathlib.Decide.{ℕ_discrete}
use Rattle.std.proofs.lemmas.List.{get_or-set_same, get_or-set_other}
use Rattle.std.specs.List.{slice_get}
use Rattle.machine.specs.declared.calls.Call.{Call}
use Rattle.machine.specs.declared.calls.Call.TheVariants.{Take, Look, Drop, Retire, Relink}
use Rattle.machine.specs.declared.states.Batch.{Batch}
use Rattle.machine.specs.declared.states.Task.{Task}
use Rattle.machine.specs.declared.states.Task.TheVariants.{Idle, LookCell, DropList, TryVisit}
use Rattle.machine.specs.declared.states.Worker.{Worker}
use Rattle.machine.specs.declared.states.Core.{Core}
use Rattle.machine.specs.State.{block, worker, blank_worker, with_worker, live_block}
use Rattle.machine.specs.Cells.{home}
use Rattle.machine.specs.Hands.{shown, in_hand}
use Rattle.machine.specs.Moves.{Move, drawn, gain, counted}
use Rattle.machine.specs.Machine.{State, told}
use Rattle.machine.specs.Calls.{is_worker, is_hold, is_cell, or_none, free_checks, take, look_checks, look, drop, joined, try_due, with_batch, unlinked, retired_block, retired, retire_checks, retire, relinked, relink_checks, relink}
use Rattle.machine.specs.Account.{Account, put}
use Rattle.machine.specs.Showing.{Sight, watched}
use Rattle.machine.proofs.Passing.{by_test, both_left, both_right, checked_keeps}
use Rattle.machine.proofs.Stores.{replicate_all}
use Rattle.machine.proofs.Namings.{live_there}
use Rattle.machine.proofs.Doings.{put_here, put_there, relinked_workers, unlinked_workers}
use Rattle.machine.proofs.Sights.{Fine, Sees, Loses, loses_self, loses_then, loses_block, loses_unlinked, shows_stay, fine_loses, sees_loses, relink_none, relink_some}

-- another entry of a table
pub nth_else : {R : Type 0} (xs : List R) (i : ℕ) (x : R) (j : ℕ) → j ≢ i → slice_get (set xs i x) j ≡ slice_get xs j
nth_else [] i x j ne = refl
nth_else (y ∷ ys) zero x zero ne = absurd (ne refl)
nth_else (y ∷ ys) zero x (suc j) ne = refl
nth_else (y ∷ ys) (suc i) x zero ne = refl
nth_else (y ∷ ys) (suc i) x (suc j) ne = nth_else ys i x j (λ e. ne (ap suc e))

module _ {R : Type 0} (W : ℕ) (s : State R) (a : Account) (e : Sight R) (n w : ℕ) (se : Sees W e s.core s.table) (there : is_worker s.core w ≡ true → (w < W) × (w < length s.core.workers))
    (four : (h : ℕ) → is_worker s.core w ≡ true → is_hold s.core h ≡ true → h < length (worker s.core w).shows)
    (kept : (h b : ℕ) → shown s.core w h ≡ Some b → Fine e s.core s.table b) where
  abbrev k : Core
  k = s.core

  -- the account after a call
  abbrev then_sees : Call R → Move → Sight R
  then_sees c m = watched e a c (told w (counted m.answer (gain (drawn m.taken s.inside n) m.given))) s.table

  abbrev pub Heard : Call R → Move → Type 0
  Heard c m = Sees W (then_sees c m) m.core s.table × ((b : ℕ) → Fine e k s.table b → Fine (then_sees c m) m.core s.table b)

  unmoved : Sees W e k s.table × ((b : ℕ) → Fine e k s.table b → Fine e k s.table b)
  unmoved = (se, λ b f. f)

  pub take_heard : Heard (Take w) (take k w)
  take_heard = checked_keeps (Heard (Take w)) k (free_checks k w) _ (λ _. unmoved)
      (λ _. (sees_loses W e k s.table se _ (shows_stay k k w _ refl refl) (loses_self k), λ b f. f))

  -- the holds of worker w show something else
  re_shown : (y : Worker) (f : ℕ → Option ℕ) → w < W → w < length k.workers → ((h : ℕ) → f h ≡ get_or y.shows h None) → length y.shows ≡ 4
      → Sees W (record { shows = put e.shows w f; taker = e.taker; linked = e.linked }) (with_worker k w y) s.table
  re_shown y f hw lw same long =
      let own : worker (with_worker k w y) w ≡ y = get_or-set_same k.workers w y blank_worker lw in
      let other : (v : ℕ) → v ≢ w → worker (with_worker k w y) v ≡ worker k v = λ v ne. get_or-set_other k.workers w v y blank_worker ne in
      record {
        agree = λ v h. elim (ℕ_discrete v w) [
          | yes q ↦ subst (λ z. put e.shows w f z h ≡ get_or (worker (with_worker k w y) z).shows h None) (sym q) (ap (λ g. g h) (put_here e.shows w f) ∙ same h ∙ ap (λ (u : Worker). get_or u.shows h None) (sym own))
          | no ne ↦ ap (λ g. g h) (put_there e.shows w f v ne) ∙ se.agree v h ∙ ap (λ (u : Worker). get_or u.shows h None) (sym (other v ne))
        ];
        rooms = λ v hv. elim (ℕ_discrete v w) [
          | yes q ↦ subst (λ z. length (worker (with_worker k w y) z).shows ≡ 4) (sym q) (ap (λ (u : Worker). length u.shows) own ∙ long)
          | no ne ↦ ap (λ (u : Worker). length u.shows) (other v ne) ∙ se.rooms v hv
        ];
        owned = λ b v z. se.owned b v z;
        named = λ b m. se.named b m;
      }

  pub look_heard : (h x : ℕ) → Heard (Look w h x) (look k w h x)
  look_heard h x = checked_keeps (Heard (Look w h x)) k (look_checks k w h x) _ (λ _. unmoved)
      (λ p.
      let at : is_worker k w ≡ true = both_left (is_worker k w) (is_hold k h) (both_left (is_worker k w && is_hold k h) (is_cell k x) p.0) in
      let held : is_hold k h ≡ true = both_right (is_worker k w) (is_hold k h) (both_left (is_worker k w && is_hold k h) (is_cell k x) p.0) in
      let t = there at in
      (re_shown (record { takings = (worker k w).takings; task = LookCell h x; batch = (worker k w).batch; shows = set (worker k w).shows h None }) (put (e.shows w) h None) t.0 t.1 (at_hold h (four h at held)) (length-set (worker k w).shows h None ∙ se.rooms w t.0), λ b f. f))
    where
      at_hold : (h : ℕ) → h < length (worker k w).shows → (i : ℕ) → put (e.shows w) h None i ≡ get_or (set (worker k w).shows h None) i None
      at_hold h long i = elim (ℕ_discrete i h) [
        | yes q ↦ subst (λ z. put (e.shows w) h None z ≡ get_or (set (worker k w).shows h None) z None) (sym q) (put_here (e.shows w) h None ∙ sym (get_or-set_same (worker k w).shows h None None long))
        | no ne ↦ put_there (e.shows w) h None i ne ∙ se.agree w i ∙ sym (get_or-set_other (worker k w).shows h i None None ne)
      ]

  pub drop_heard : Heard (Drop w) (drop k w)
  drop_heard = checked_keeps (Heard (Drop w)) k (free_checks k w) _ (λ _. unmoved)
      (λ p. let t = there p.0 in
      (re_shown (record { takings = (worker k w).takings; task = DropList 0; batch = (worker k w).batch; shows = replicate 4 None }) (λ _. None) t.0 t.1 (λ h. sym (replicate_all (λ v. v ≡ None) None None 4 refl refl h)) refl, λ b f. f))

  -- retiring
  retired_loses : (b : ℕ) (y : Batch) → Loses k (retired k w b y)
  retired_loses b y = loses_then k (unlinked k b) (retired k w b y) (loses_unlinked k b) (loses_block (unlinked k b) b (retired_block (block (unlinked k b) b) (worker k w).batch y.lead) (inl refl) (omega arith))

  retired_heard : (b : ℕ) (y : Batch) (t : Task) → Sees W e (with_batch (retired k w b y) w y t) s.table × ((i : ℕ) → Fine e k s.table i → Fine e (with_batch (retired k w b y) w y t) s.table i)
  retired_heard b y t =
      let ws : (retired k w b y).workers ≡ k.workers = unlinked_workers k b in (
        sees_loses W e k s.table se (with_batch (retired k w b y) w y t) (shows_stay k (retired k w b y) w _ ws (ap (λ us. (get_or us w blank_worker).shows) ws)) (retired_loses b y),
        fine_loses W e k s.table se (with_batch (retired k w b y) w y t) (retired_loses b y),
      )

  pub retire_heard : (b : ℕ) → Heard (Retire w b) (retire k w b)
  retire_heard b =
      let y = joined (worker k w).batch b (block k b).birth in
      checked_keeps (Heard (Retire w b)) k (retire_checks k w b) _ (λ _. unmoved)
      (λ _. by_test (Heard (Retire w b)) (try_due k y) _ _ (λ _. retired_heard b y (TryVisit 0 b 0)) (λ _. retired_heard b y Idle))

  -- relinking
  relinked_same : (x : ℕ) (new : Option ℕ) (v : ℕ) → (worker (relinked k w x new) v).shows ≡ (worker k v).shows
  relinked_same x new v = ap (λ us. (get_or us v blank_worker).shows) (relinked_workers k w x new)

  pub relink_heard : (x : ℕ) (expected new : Option ℕ) → Heard (Relink w x expected new) (relink k w x expected new)
  relink_heard x expected new = checked_keeps (Heard (Relink w x expected new)) k (relink_checks k w x expected new) _ (λ _. unmoved)
      (λ p. by new (both_right (or_none (in_hand k w) (home x)) (or_none (in_hand k w) new) p.1.1.0) (both_right (or_none (live_block k) (home x)) (or_none (live_block k) new) p.1.1.1.0))
    where
      by : (new : Option ℕ) → or_none (in_hand k w) new ≡ true → or_none (live_block k) new ≡ true
          → Sees W (watched e a (Relink w x expected new) (told w (Ok (false, None, 0))) s.table) (relinked k w x new) s.table × ((b : ℕ) → Fine e k s.table b → Fine (watched e a (Relink w x expected new) (told w (Ok (false, None, 0))) s.table) (relinked k w x new) s.table b)
      by None hand live = relink_none W e k s.table se w x kept (relinked_same x None)
      by (Some b) hand live = relink_some W e k s.table se w x kept b hand (live_there k b live) (relinked_same x (Some b))
