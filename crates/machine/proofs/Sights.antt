-- The agreement of a keeper with the account of what is shown and linked, and what keeps it.
use Rattle.std.proofs.Common.{◌≡◌, ℕ, zero, suc, ◌<◌, ◌≤◌, Bool, true, false, cond, not, ◌&&◌, eqb, ltb, ◌≢◌, ◌⊎◌, List, [], ◌∷◌, length, get_or, set, is_some, Some, None, Option, sym, refl, ap, ◌∙◌, subst, inl, inr, arith, length-set}
use native.Mathlib.Decide.{ℕ_discrete}
use Rattle.std.proofs.lemmas.Bool.Decides.{nat_tests}
use Rattle.std.proofs.lemmas.Bool.{false≢true, or_cases}
use Rattle.std.proofs.lemmas.List.{get_or-set_same, get_or-set_other}
use Rattle.std.specs.List.{slice_get}
use Rattle.machine.specs.declared.states.Block.{Block}
use Rattle.machine.specs.declared.states.Worker.{Worker}
use Rattle.machine.specs.declared.states.Core.{Core}
use Rattle.machine.specs.State.{block, worker, blank_block, blank_worker, with_block, with_worker}
use Rattle.machine.specs.Cells.{held, home_block, with_cell, named_more, named_less, names_it}
use Rattle.machine.specs.Hands.{owns, shown, any_shows, in_hand}
use Rattle.machine.specs.Walking.{pooled, all_pooled}
use Rattle.machine.specs.Calls.{unowned, unlinked, disowned, relinked}
use Rattle.machine.specs.Account.{put}
use Rattle.machine.specs.Showing.{Sight, to_link, linked_by}
use Rattle.machine.proofs.Passing.{by_test}
use Rattle.machine.proofs.Namings.{set_seen}
use Rattle.machine.proofs.StoresByPlace.{set_keeps_at}
use Rattle.machine.proofs.Doings.{put_here, put_there}

-- block b has no owner, and its record is the one that it was linked with
abbrev pub Fine : {R : Type 0} → Sight R → Core → List R → ℕ → Type 0
Fine e k table b = ((block k b).owner ≡ None) × (e.linked b ≡ Some (slice_get table b))

-- the keeper agrees with the account, for W workers
pub record Sees {R : Type 0} (W : ℕ) (e : Sight R) (k : Core) (table : List R) : Type 0 where
  -- the same is shown
  pub agree : (w h : ℕ) → e.shows w h ≡ shown k w h
  pub rooms : (w : ℕ) → w < W → length (worker k w).shows ≡ 4
  -- an owner is the taker, and has not linked the block
  pub owned : (b w : ℕ) → (block k b).owner ≡ Some w → (e.taker b ≡ Some w) × (e.linked b ≡ None)
  -- what a cell names was linked
  pub named : (b : ℕ) → 1 ≤ (block k b).names → Fine e k table b

-- a keeper whose blocks have at most lost owners and names
abbrev pub Loses : Core → Core → Type 0
Loses k j = (b : ℕ) → (((block j b).owner ≡ None) ⊎ ((block j b).owner ≡ (block k b).owner)) × ((block j b).names ≤ (block k b).names)

pub loses_self : (k : Core) → Loses k k
loses_self k b = (inr refl, omega arith)

pub loses_then : (k j i : Core) → Loses k j → Loses j i → Loses k i
loses_then k j i p q b =
    let a = p b in
    let d = q b in
    let n = a.1 in
    let m = d.1 in (
      elim d.0 [
        | inl e ↦ inl e
        | inr e ↦ elim a.0 [ inl f ↦ inl (e ∙ f) | inr f ↦ inr (e ∙ f) ]
      ],
      omega arith,
    )

-- one block replaced
pub loses_block : (k : Core) (i : ℕ) (x : Block) → (x.owner ≡ None) ⊎ (x.owner ≡ (block k i).owner) → x.names ≤ (block k i).names → Loses k (with_block k i x)
loses_block k i x p q = set_keeps_at (λ b y. ((y.owner ≡ None) ⊎ (y.owner ≡ (block k b).owner)) × (y.names ≤ (block k b).names)) blank_block k.blocks.rows i x (loses_self k) (p, q)

pub loses_pooled : (bs : List ℕ) (k : Core) → Loses k (all_pooled k bs)
loses_pooled [] k = loses_self k
loses_pooled (b ∷ bs) k = loses_then k (with_block k b (pooled (block k b))) (all_pooled k (b ∷ bs)) (loses_block k b (pooled (block k b)) (inr refl) (omega arith)) (loses_pooled bs (with_block k b (pooled (block k b))))

loses_less : (k : Core) (x : Option ℕ) → Loses k (named_less k x)
loses_less k None = loses_self k
loses_less k (Some b) = loses_block k b _ (inr refl) (omega arith)

pub loses_unlinked : (k : Core) (b : ℕ) → Loses k (unlinked k b)
loses_unlinked k b = loses_then k (named_less k (get_or (block k b).links 0 None)) (unlinked k b) (loses_less k (get_or (block k b).links 0 None)) (loses_less (named_less k (get_or (block k b).links 0 None)) (get_or (block k b).links 1 None))

loses_disowned : (k : Core) (w : ℕ) (x : Option ℕ) → Loses k (disowned k w x)
loses_disowned k w None = loses_self k
loses_disowned k w (Some b) = by_test (Loses k) (owns k w b) _ _ (λ _. loses_block k b (unowned (block k b)) (inl refl) (omega arith)) (λ _. loses_self k)

loses_cell : (k : Core) (c : ℕ) (x : Option ℕ) → Loses k (with_cell k c x)
loses_cell k c x = by_test (Loses k) (ltb c 16) _ _ (λ _. loses_self k) (λ _. loses_block k (home_block c) _ (inr refl) (omega arith))

-- what every hold shows stays, where worker w's do
pub shows_stay : (k j : Core) (w : ℕ) (y : Worker) → j.workers ≡ k.workers → y.shows ≡ (worker k w).shows → (v : ℕ) → (worker (with_worker j w y) v).shows ≡ (worker k v).shows
shows_stay k j w y e same v = ap (λ us. (get_or (set us w y) v blank_worker).shows) e ∙ set_seen (λ (u : Worker). u.shows) blank_worker k.workers w y same v

module _ {R : Type 0} (W : ℕ) (e : Sight R) (k : Core) (table : List R) (se : Sees W e k table) where
  -- blocks that at most lose owners and names
  pub fine_loses : (j : Core) → Loses k j → (b : ℕ) → Fine e k table b → Fine e j table b
  fine_loses j l b f = (elim (l b).0 [ inl z ↦ z | inr z ↦ z ∙ f.0 ], f.1)

  pub sees_loses : (j : Core) → ((v : ℕ) → (worker j v).shows ≡ (worker k v).shows) → Loses k j → Sees W e j table
  sees_loses j same l = record {
    agree = λ v h. se.agree v h ∙ ap (λ us. get_or us h None) (sym (same v));
    rooms = λ v hv. ap length (same v) ∙ se.rooms v hv;
    owned = λ b v z. elim (l b).0 [
      | inl i ↦ (let f : ◌≡◌ {A = ℕ} 0 1 = cc in absurd (omega arith))
      | inr i ↦ se.owned b v (sym i ∙ z)
    ];
    named = λ b m. fine_loses j l b (se.named b (let q = (l b).1 in omega arith));
  }

  -- where a shown block is shown
  any_at : (xs : List (Option ℕ)) (b : ℕ) → any_shows xs b ≡ true → (h : ℕ) × (get_or xs h None ≡ Some b)
  any_at [] b z = absurd (false≢true z)
  any_at (None ∷ xs) b z = let r = any_at xs b z in (suc r.0, r.1)
  any_at (Some a ∷ xs) b z = elim (or_cases (eqb a b) (any_shows xs b) z) [
    | inl i ↦ (zero, ap (λ u. Some u) (grind (arith, nat_tests)))
    | inr i ↦ (let r = any_at xs b i in (suc r.0, r.1))
  ]

  -- an owner that is named
  owner_of : (v : Option ℕ) (w : ℕ) → names_it v w ≡ true → v ≡ Some w
  owner_of None w z = absurd (false≢true z)
  owner_of (Some a) w z = ap (λ u. Some u) (grind (arith, nat_tests))

  -- a relink by worker w
  module _ (w c : ℕ) (kept : (h b : ℕ) → shown k w h ≡ Some b → Fine e k table b) where
    pub relink_none : ((v : ℕ) → (worker (relinked k w c None) v).shows ≡ (worker k v).shows) → Sees W (linked_by e w None table) (relinked k w c None) table × ((b : ℕ) → Fine e k table b → Fine (linked_by e w None table) (relinked k w c None) table b)
    relink_none same =
        let l = loses_then k (named_less k (held k c)) (relinked k w c None) (loses_less k (held k c)) (loses_cell (named_less k (held k c)) c None) in
        (sees_loses (relinked k w c None) same l, fine_loses (relinked k w c None) l)

    module _ (a : ℕ) (hand : in_hand k w a ≡ true) (below : a < length k.blocks.rows) (same : (v : ℕ) → (worker (relinked k w c (Some a)) v).shows ≡ (worker k v).shows) where
      abbrev less : Core
      less = named_less k (held k c)

      abbrev more : Core
      more = named_more less (Some a)

      abbrev k' : Core
      k' = relinked k w c (Some a)

      -- the owners are as they were before the new block loses its own
      more_owner : (b : ℕ) → (block more b).owner ≡ (block k b).owner
      more_owner b = set_seen (λ (y : Block). y.owner) blank_block less.blocks.rows a _ refl b ∙ less_owner (held k c) b
        where
          less_owner : (x : Option ℕ) (b : ℕ) → (block (named_less k x) b).owner ≡ (block k b).owner
          less_owner None b = refl
          less_owner (Some d) b = set_seen (λ (y : Block). y.owner) blank_block k.blocks.rows d _ refl b

      more_names : (b : ℕ) → b ≢ a → (block more b).names ≤ (block k b).names
      more_names b ne =
          let q = (loses_less k (held k c) b).1 in
          let i : (block more b).names ≡ (block less b).names = ap (λ (y : Block). y.names) (get_or-set_other less.blocks.rows a b _ blank_block ne) in
          omega arith

      after_more : Loses more k'
      after_more = loses_then more (disowned more w (Some a)) k' (loses_disowned more w (Some a)) (loses_cell (disowned more w (Some a)) c (Some a))

      owner_then : (b : ℕ) → ((block k' b).owner ≡ None) ⊎ ((block k' b).owner ≡ (block k b).owner)
      owner_then b = elim (after_more b).0 [ inl z ↦ inl z | inr z ↦ inr (z ∙ more_owner b) ]

      names_then : (b : ℕ) → b ≢ a → (block k' b).names ≤ (block k b).names
      names_then b ne = let q = (after_more b).1 in let r = more_names b ne in omega arith

      -- an owner links the block, and loses it
      disowned_then : owns k w a ≡ true → (block k' a).owner ≡ None
      disowned_then own =
          let owns_more : owns more w a ≡ true = ap (λ v. names_it v w) (more_owner a) ∙ own in
          let gone : (block (disowned more w (Some a)) a).owner ≡ None = subst (λ t. (block (cond t (with_block more a (unowned (block more a))) more) a).owner ≡ None) (sym owns_more)
          (ap (λ (y : Block). y.owner) (get_or-set_same more.blocks.rows a (unowned (block more a)) blank_block (subst (λ m. a < m) (sym long) below))) in
          elim (loses_cell (disowned more w (Some a)) c (Some a) a).0 [ inl z ↦ z | inr z ↦ z ∙ gone ]
        where
          long : length more.blocks.rows ≡ length k.blocks.rows
          long = length-set less.blocks.rows a _ ∙ less_long (held k c)
            where
              less_long : (x : Option ℕ) → length (named_less k x).blocks.rows ≡ length k.blocks.rows
              less_long None = refl
              less_long (Some d) = length-set k.blocks.rows d _

      -- by whether the worker owns the block or one of its holds shows it
      pub relink_some : Sees W (linked_by e w (Some a) table) k' table × ((b : ℕ) → Fine e k table b → Fine (linked_by e w (Some a) table) k' table b)
      relink_some = elim (or_cases (owns k w a) (any_shows (worker k w).shows a) hand) [
        | inl own ↦ links own
        | inr sh ↦ (let i = any_at (worker k w).shows a sh in stays (kept i.0 a i.1))
      ]
        where
          -- shown, so linked before
          stays : Fine e k table a → Sees W (linked_by e w (Some a) table) k' table × ((b : ℕ) → Fine e k table b → Fine (linked_by e w (Some a) table) k' table b)
          stays f =
              let not_now : to_link e w a ≡ false = not_new (names_it (e.taker a) w) (e.linked a) f.1 in
              let l : Sight R = record { shows = e.shows; taker = e.taker; linked = put e.linked a (Some (slice_get table a)) } in
              let e' : linked_by e w (Some a) table ≡ e = ap (λ t. cond t l e) not_now in
              let fine : (b : ℕ) → Fine e k table b → Fine e k' table b = λ b g. (elim (owner_then b) [ inl z ↦ z | inr z ↦ z ∙ g.0 ], g.1) in (
                subst (λ u. Sees W u k' table) (sym e') (record {
                  agree = λ v h. se.agree v h ∙ ap (λ us. get_or us h None) (sym (same v));
                  rooms = λ v hv. ap length (same v) ∙ se.rooms v hv;
                  owned = λ b v z. elim (owner_then b) [
                    | inl i ↦ (let q : ◌≡◌ {A = ℕ} 0 1 = cc in absurd (omega arith))
                    | inr i ↦ se.owned b v (sym i ∙ z)
                  ];
                  named = λ b m. elim (ℕ_discrete b a) [
                    | yes i ↦ subst (Fine e k' table) (sym i) (fine a f)
                    | no ne ↦ fine b (se.named b (let q = names_then b ne in omega arith))
                  ];
                }),
                λ b g. subst (λ u. Fine u k' table b) (sym e') (fine b g),
              )
            where
              not_new : (t : Bool) (v : Option (Option R)) → v ≡ Some (slice_get table a) → (t && not (is_some v)) ≡ false
              not_new true v z = ap (λ u. not (is_some u)) z
              not_new false v z = refl

          -- owned, so linked now
          links : owns k w a ≡ true → Sees W (linked_by e w (Some a) table) k' table × ((b : ℕ) → Fine e k table b → Fine (linked_by e w (Some a) table) k' table b)
          links own =
              let owner : (block k a).owner ≡ Some w = owner_of (block k a).owner w own in
              let o = se.owned a w owner in
              let now : to_link e w a ≡ true = is_new (e.taker a) (e.linked a) o.0 o.1 in
              let l : Sight R = record { shows = e.shows; taker = e.taker; linked = put e.linked a (Some (slice_get table a)) } in
              let e' : linked_by e w (Some a) table ≡ l = ap (λ t. cond t l e) now in
              let gone = disowned_then own in
              let apart : (b : ℕ) → (block k b).owner ≡ None → b ≢ a = λ b z i. let q = ap (λ u. (block k u).owner) i in let r : ◌≡◌ {A = ℕ} 0 1 = cc in omega arith in
              let fine : (b : ℕ) → Fine e k table b → Fine l k' table b = λ b g. (elim (owner_then b) [ inl z ↦ z | inr z ↦ z ∙ g.0 ], put_there e.linked a (Some (slice_get table a)) b (apart b g.0) ∙ g.1) in (
                subst (λ u. Sees W u k' table) (sym e') (record {
                  agree = λ v h. se.agree v h ∙ ap (λ us. get_or us h None) (sym (same v));
                  rooms = λ v hv. ap length (same v) ∙ se.rooms v hv;
                  owned = λ b v z. elim (owner_then b) [
                    | inl i ↦ (let q : ◌≡◌ {A = ℕ} 0 1 = cc in absurd (omega arith))
                    | inr i ↦
                        (let q = se.owned b v (sym i ∙ z) in
                        (q.0, put_there e.linked a (Some (slice_get table a)) b (λ j. let y = ap (λ u. (block k' u).owner) j in let x : ◌≡◌ {A = ℕ} 0 1 = cc in omega arith) ∙ q.1))
                  ];
                  named = λ b m. elim (ℕ_discrete b a) [
                    | yes i ↦ subst (Fine l k' table) (sym i) (gone, put_here e.linked a (Some (slice_get table a)))
                    | no ne ↦ fine b (se.named b (let q = names_then b ne in omega arith))
                  ];
                }),
                λ b g. subst (λ u. Fine u k' table b) (sym e') (fine b g),
              )
            where
              same_number : (i : ℕ) → eqb i i ≡ true
              same_number i = grind (arith, nat_tests)

              is_new : (t : Option ℕ) (v : Option (Option R)) → t ≡ Some w → v ≡ None → (names_it t w && not (is_some v)) ≡ true
              is_new t v p q = ap (λ u. names_it u w && not (is_some v)) p ∙ ap (λ u. eqb w w && not (is_some u)) q ∙ ap (λ u. u && true) (same_number w)
