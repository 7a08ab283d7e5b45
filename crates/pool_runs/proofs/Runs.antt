-- One more move of a run.
use Rattle.std.proofs.Common.{◌≡◌, Bool, List, [], ◌∷◌, ◌++◌, sym, refl, ap, ◌∙◌, subst}
use Rattle.pool_runs.specs.declared.moves.Move.{Move}
use Rattle.pool_runs.specs.Runs.{Answer, Right, after, Answered, ends}

pub answered_more : (inside : List Bool) (ms : List Move) (rs : List Answer) (m : Move) (r : Answer)
    → Answered inside ms rs → Right (ends inside ms rs) m r → Answered inside (ms ++ m ∷ []) (rs ++ r ∷ [])
answered_more inside [] [] m r a right = (right, tt)
answered_more inside [] (x ∷ rs) m r a right = absurd a
answered_more inside (y ∷ ms) [] m r a right = absurd a
answered_more inside (y ∷ ms) (x ∷ rs) m r a right = (a.0, answered_more (after inside y x) ms rs m r a.1 right)

pub ends_more : (inside : List Bool) (ms : List Move) (rs : List Answer) (m : Move) (r : Answer)
    → Answered inside ms rs → ends inside (ms ++ m ∷ []) (rs ++ r ∷ []) ≡ after (ends inside ms rs) m r
ends_more inside [] [] m r a = refl
ends_more inside [] (x ∷ rs) m r a = absurd a
ends_more inside (y ∷ ms) [] m r a = absurd a
ends_more inside (y ∷ ms) (x ∷ rs) m r a = ends_more (after inside y x) ms rs m r a.1

-- a run so far: the moves made, their answers, and what is in now
abbrev pub Going : List Bool → List Move → List Answer → List Bool → Type 0
Going inside ms rs now = Answered inside ms rs × (now ≡ ends inside ms rs)

pub going_none : (inside : List Bool) (rs : List Answer) → rs ≡ [] → Going inside [] rs inside
going_none inside rs e = rw e (tt, refl)

-- one more move, as the loop has it
pub going_more : (inside : List Bool) (ms ms' : List Move) (rs rs' : List Answer) (m : Move) (r : Answer) (now now' : List Bool)
    → Going inside ms rs now → ms' ≡ ms ++ m ∷ [] → rs' ≡ rs ++ r ∷ [] → Right now m r → now' ≡ after now m r → Going inside ms' rs' now'
going_more inside ms ms' rs rs' m r now now' g em er right e =
    rw (em, er) (
      answered_more inside ms rs m r g.0 (subst (λ bs. Right bs m r) g.1 right),
      e ∙ ap (λ bs. after bs m r) g.1 ∙ sym (ends_more inside ms rs m r g.0),
    )
