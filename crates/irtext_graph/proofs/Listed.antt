-- A use list as a list of slots: each slot that uses the definition is in it once.
use Rattle.std.proofs.Common.{◌≡◌, ◌<◌, ◌+◌, ◌++◌, ◌∙◌, ℕ, zero, suc, refl, sym, ap, inl, inr, arith, Option, Some, None, List, [], ◌∷◌, slice_get, subst}
use Rattle.irtext_graph.specs.Chained.{Chained, Among, Lists}
use Rattle.irtext_graph.proofs.Nests.{some_eq}
use Rattle.irtext_graph.proofs.Chains.{Path, path_from, among}

module _ {U D : Type 0} (val : U → Option D) (prv nxt : U → Option U) (d : D) where
  -- a walk over the use list of d: the whole list, and what is left of it from a slot on
  pub record Walk (at : Option U) : Type 0 where
    pub list : List U
    pub lists : Lists (λ u. val u ≡ Some d) list
    pub rest : List U
    pub path : Path val prv nxt d at rest

module _ {U D : Type 0} {val : U → Option D} {prv nxt : U → Option U} {heads : D → Option (Option U)} (c : Chained val prv nxt heads) (d : D) where
  -- an element of a list ranks no higher than its first slot
  ranks : (us : List U) (h : Option U) (n : ℕ) → Path val prv nxt d h us → ((w : U) → h ≡ Some w → c.rank w < n) → (i : ℕ) (w : U) → slice_get us i ≡ Some w → c.rank w < n
  ranks [] h n p low i w e = absurd (cc)
  ranks (u ∷ us) h n p low zero w e = low w (p.0 ∙ e)
  ranks (u ∷ us) h n p low (suc i) w e =
      let r = ranks us (nxt u) (c.rank u) p.2 (λ w f. (c.next_ok u w d p.1 f).2) i w e in
      let l = low u p.0 in
      omega (arith, r, l)

  following : (u : U) (us : List U) → val u ≡ Some d → Path val prv nxt d (nxt u) us → (i : ℕ) → slice_get us i ≡ Some u → ⊥
  following u us used p i e = let r = ranks us (nxt u) (c.rank u) p (λ w f. (c.next_ok u w d used f).2) i u e in omega (arith, r)

  once : (us : List U) (h : Option U) → Path val prv nxt d h us → (i j : ℕ) (w : U) → slice_get us i ≡ Some w → slice_get us j ≡ Some w → i ≡ j
  once [] h p i j w e f = absurd (cc)
  once (u ∷ us) h p zero zero w e f = refl
  once (u ∷ us) h p zero (suc j) w e f = absurd (following u us p.1 p.2 j (f ∙ sym e))
  once (u ∷ us) h p (suc i) zero w e f = absurd (following u us p.1 p.2 i (e ∙ sym f))
  once (u ∷ us) h p (suc i) (suc j) w e f = ap suc (once us (nxt u) p.2 i j w e f)

  only : (us : List U) (h : Option U) → Path val prv nxt d h us → (u : U) → Among u us → val u ≡ Some d
  only [] h p u m = absurd m
  only (x ∷ xs) h p u m = elim m [ inl e ↦ ap val e ∙ p.1 | inr later ↦ only xs (nxt x) p.2 u later ]

  -- the list from the first slot on holds each slot that uses the definition once
  path_lists : (us : List U) (h : Option U) → heads d ≡ Some h → Path val prv nxt d h us → Lists (λ u. val u ≡ Some d) us
  path_lists us h at p = record {
    all = λ u used. among c d us h at p c.bound u (omega arith) used;
    only = only us h p;
    once = once us h p;
  }

  -- the definition has a use list
  listed : (h : Option U) → heads d ≡ Some h → (us : List U) × Path val prv nxt d h us
  listed None at = ([], refl)
  listed (Some x) at = let k = c.head_ok d x at in path_from c d (c.rank x + 1) x (omega arith) k.0

  -- from a slot on: that slot, and the list from the next
  path_on : (us : List U) (h : Option U) (u : U) → h ≡ Some u → Path val prv nxt d h us → (ys : List U) × (us ≡ u ∷ ys) × (val u ≡ Some d) × Path val prv nxt d (nxt u) ys
  path_on [] h u e p = absurd (cc)
  path_on (x ∷ xs) h u e p =
      let s : x ≡ u = some_eq (sym p.0 ∙ e) in
      (xs, ap (λ y. y ∷ xs) s, ap val (sym s) ∙ p.1, rw (← s) p.2)

  -- no slot on: the list ends
  path_ends : (us : List U) (h : Option U) → h ≡ None → Path val prv nxt d h us → us ≡ []
  path_ends [] h e p = refl
  path_ends (x ∷ xs) h e p = absurd (cc)

  -- a walk begins at the first slot, goes on to the next, and ends after the last
  pub walk_begins : (h : Option U) → heads d ≡ Some h → (w : Walk val prv nxt d h) × (w.rest ≡ w.list)
  walk_begins h at = let l = listed h at in (record { list = l.0; lists = path_lists l.0 h at l.1; rest = l.0; path = l.1 }, refl)

  pub walk_on : (at h : Option U) (u : U) → at ≡ Some u → nxt u ≡ h → (w : Walk val prv nxt d at) → (v : Walk val prv nxt d h) × (v.list ≡ w.list) × (w.rest ≡ u ∷ v.rest) × (val u ≡ Some d)
  walk_on at h u is next w = let p = path_on w.rest at u is w.path in (record { list = w.list; lists = w.lists; rest = p.0; path = subst (λ h. Path val prv nxt d h p.0) next p.3 }, refl, p.1, p.2)

  pub walk_ends : (at : Option U) → at ≡ None → (w : Walk val prv nxt d at) → w.rest ≡ []
  walk_ends at is w = path_ends w.rest at is w.path

-- the first of what is left is put at the end of what was visited
pub pushed : {U : Type 0} (met : List U) (u : U) (left rest list : List U) → rest ≡ u ∷ left → met ++ rest ≡ list → (met ++ u ∷ []) ++ left ≡ list
pushed {U} met u left rest list first split = go met ∙ ap (λ r. met ++ r) (sym first) ∙ split
  where
    go : (met : List U) → (met ++ u ∷ []) ++ left ≡ met ++ u ∷ left
    go [] = refl
    go (x ∷ xs) = ap (λ r. x ∷ r) (go xs)

pub all_met : {U : Type 0} (met rest list : List U) → rest ≡ [] → met ++ rest ≡ list → list ≡ met
all_met {U} met rest list none split = sym split ∙ ap (λ r. met ++ r) none ∙ go met
  where
    go : (met : List U) → met ++ [] ≡ met
    go [] = refl
    go (x ∷ xs) = ap (λ r. x ∷ r) (go xs)

-- a list of what is meant by other words
pub lists_alike : {U : Type 0} {P Q : U → Type 0} (us : List U) → ((u : U) → P u → Q u) → ((u : U) → Q u → P u) → Lists P us → Lists Q us
lists_alike us there back l = record { all = λ u q. l.all u (back u q); only = λ u m. there u (l.only u m); once = l.once }
