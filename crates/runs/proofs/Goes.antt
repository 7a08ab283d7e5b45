-- A run of the machine, call by call.
use Rattle.std.proofs.Common.{◌≡◌, ℕ, zero, suc, ◌<◌, List, [], ◌∷◌, ◌++◌, length, get_or, take, sym, refl, ap, ◌∙◌, subst, arith}
use Rattle.std.proofs.Math.Seq.{append_snoc}
use Rattle.std.proofs.lemmas.List.{append-nil}
use Rattle.machine.specs.declared.calls.Call.{Call}
use Rattle.machine.specs.Machine.{State, Reply, after}
use Rattle.machine.specs.Runs.{ends, replies, Chosen, Led}
use Rattle.machine.specs.Structure.{Handed}

module _ {R : Type 0} where
  -- the calls lead from one state to another with these answers, where the pool hands out these numbers
  abbrev pub Goes : State R → List (Call R) → List (Reply R) → State R → List ℕ → Type 0
  Goes s cs rs t ns = (length ns ≡ length cs) × Handed s cs ns × (rs ≡ replies s cs ns) × (t ≡ ends s cs ns)

  -- calls from s with the answers so far come to t, and the rest is left: where the rest goes from t to an end, all of them go there from s
  abbrev pub Comes : State R → List (Call R) → List (Reply R) → State R → List (Call R) → Type 0
  Comes s cs answers t rest = (rs : List (Reply R)) (end : State R) (ns : List ℕ) → Goes t rest rs end ns → (all : List ℕ) × Goes s cs (answers ++ rs) end all

  -- one call more
  pub comes_on : (s t later : State R) (cs rest : List (Call R)) (answers more : List (Reply R)) (c : Call R) (n : ℕ) (r : Reply R)
      → Comes s cs answers t (c ∷ rest) → Chosen t.inside n → later ≡ (after t c n).to → r ≡ (after t c n).reply → more ≡ answers ++ r ∷ [] → Comes s cs more later rest
  comes_on s t later cs rest answers more c n r so_far ok to reply e rs end ns goes =
      let on : Goes (after t c n).to rest rs end ns = subst (λ (x : State R). Goes x rest rs end ns) to goes in
      let all = so_far ((after t c n).reply ∷ rs) end (n ∷ ns) (ap suc on.0, (ok, on.1), ap (λ q. (after t c n).reply ∷ q) on.2, on.3) in
      let seam : more ++ rs ≡ answers ++ (after t c n).reply ∷ rs = ap (λ q. q ++ rs) e ∙ append_snoc answers r rs ∙ ap (λ q. answers ++ q ∷ rs) reply in
      (all.0, subst (λ (q : List (Reply R)). Goes s cs q end all.0) (sym seam) all.1)

  -- all calls
  pub comes_all : (s t : State R) (cs : List (Call R)) (answers : List (Reply R)) → Comes s cs answers t [] → (ns : List ℕ) × Goes s cs answers t ns
  comes_all s t cs answers so_far =
      let all = so_far [] t [] (refl, tt, refl, refl) in
      (all.0, subst (λ (q : List (Reply R)). Goes s cs q t all.0) (append-nil answers) all.1)

  handed_at : (s : State R) (cs : List (Call R)) (ns : List ℕ) → length ns ≡ length cs → Handed s cs ns → (k : ℕ) → k < length cs → Chosen (ends s (take k cs) ns).inside (get_or ns k 0)
  handed_at s [] ns e f k l = absurd (omega arith)
  handed_at s (c ∷ cs) [] e f k l = absurd (omega arith)
  handed_at s (c ∷ cs) (n ∷ ns) e f zero l = f.0
  handed_at s (c ∷ cs) (n ∷ ns) e f (suc k) l = handed_at (after s c n).to cs ns (omega arith) f.1 k (omega arith)

  -- they lead there
  pub goes_led : (s : State R) (cs : List (Call R)) (rs : List (Reply R)) (t : State R) (ns : List ℕ) → Goes s cs rs t ns → Led s cs rs t ns
  goes_led s cs rs t ns q = record { many = q.0; chosen = handed_at s cs ns q.0 q.1; answered = q.2; end = q.3 }
