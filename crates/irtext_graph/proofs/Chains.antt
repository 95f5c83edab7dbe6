use Rattle.std.proofs.Common.{◌≡◌, ◌<◌, ◌≤◌, ◌+◌, ◌⊎◌, ℕ, zero, suc, Option, Some, None, refl, sym, ap, ◌∙◌, inl, inr, arith, Bool, true, false, cond, List, [], ◌∷◌}
use Rattle.irtext_graph.specs.Chained.{Chained, Among}
use Rattle.irtext_graph.proofs.Nests.{Tells, same_or_other, seen, some_eq}

pub is_some_of : {X : Type 0} {eq : X → X → Bool} → Tells eq → (o : Option X) (y : X) → (o ≡ Some y) ⊎ ((o ≡ Some y) → ⊥)
is_some_of t None y = inr (λ p. cc)
is_some_of t (Some z) y = elim (same_or_other t z y) [ inl p ↦ inl (ap Some p) | inr ne ↦ inr (λ p. ne (some_eq p)) ]

module _ {U D : Type 0} where
  -- with an empty list no slot uses the definition
  pub none_left : {val : U → Option D} {prv nxt : U → Option U} {heads : D → Option (Option U)} (c : Chained val prv nxt heads) (d : D) → heads d ≡ Some None → (n : ℕ) (u : U) → c.bound ≤ c.rank u + n → val u ≡ Some d → ⊥
  none_left {val} {prv} {nxt} {heads} c d empty zero u far used = let b = c.below u d used in omega arith
  none_left {val} {prv} {nxt} {heads} c d empty (suc n) u far used =
      elim (seen (prv u)) [
        | inl e ↦ let f = c.first_ok u d used e in cc
        | inr (w, e) ↦
            let back = c.prev_ok u w d used e in
            let up = c.next_ok w u d back.0 back.1 in
            none_left c d empty n w (omega (arith, up.2)) back.0
      ]

  module _ (eqU : U → U → Bool) (tU : Tells eqU) (eqD : D → D → Bool) (tD : Tells eqD) where
    -- slot u leaves the list of d
    pub record Detaches (val val' : U → Option D) (prv prv' nxt nxt' : U → Option U) (heads heads' : D → Option (Option U)) (u : U) (d : D) : Type 0 where
      pub used : val u ≡ Some d
      pub gone : val' u ≡ None
      pub kept : (w : U) → (w ≡ u → ⊥) → val' w ≡ val w
      pub next_back : (w : U) → nxt u ≡ Some w → prv' w ≡ prv u
      pub back : (w : U) → (w ≡ u → ⊥) → (nxt u ≡ Some w → ⊥) → prv' w ≡ prv w
      pub prev_on : (w : U) → prv u ≡ Some w → nxt' w ≡ nxt u
      pub on : (w : U) → (w ≡ u → ⊥) → (prv u ≡ Some w → ⊥) → nxt' w ≡ nxt w
      pub head : prv u ≡ None → heads' d ≡ Some (nxt u)
      pub head_kept : (w : U) → prv u ≡ Some w → heads' d ≡ heads d
      pub heads_kept : (e : D) → (e ≡ d → ⊥) → heads' e ≡ heads e

    module _ {val val' : U → Option D} {prv prv' nxt nxt' : U → Option U} {heads heads' : D → Option (Option U)} {u : U} {d : D} (c : Chained val prv nxt heads) (s : Detaches val val' prv prv' nxt nxt' heads heads' u d) where
      -- a slot that uses e now is another slot, which did before
      was : (x : U) (e : D) → val' x ≡ Some e → (x ≡ u → ⊥) × (val x ≡ Some e)
      was x e used =
          elim (same_or_other tU x u) [
            | inl p ↦ let g = s.gone in let q : val' x ≡ val' u = ap val' p in cc
            | inr ne ↦ let k = s.kept x ne in (ne, cc)
          ]

      now : (x : U) (e : D) → (x ≡ u → ⊥) → val x ≡ Some e → val' x ≡ Some e
      now x e ne used = let k = s.kept x ne in cc

      same_d : (a b : D) (x : U) → val x ≡ Some a → val x ≡ Some b → a ≡ b
      same_d a b x p q = cc

      -- the uses before and after u are of d too, and are others
      between : (a b : U) → prv u ≡ Some a → nxt u ≡ Some b → (val a ≡ Some d) × (val b ≡ Some d) × (a ≡ u → ⊥) × (b ≡ u → ⊥) × (c.rank b < c.rank a)
      between a b pu nu =
          let fb = c.next_ok u b d s.used nu in
          let ba = c.prev_ok u a d s.used pu in
          let fa = c.next_ok a u d ba.0 ba.1 in
          (ba.0, fb.0, λ p. let r : c.rank a ≡ c.rank u = ap c.rank p in omega (arith, fa.2), λ p. let r : c.rank b ≡ c.rank u = ap c.rank p in omega (arith, fb.2), omega (arith, fb.2, fa.2))

      next_over : (x w : U) (e : D) → val x ≡ Some e → prv u ≡ Some x → nxt' x ≡ Some w → (val' w ≡ Some e) × (prv' w ≡ Some x) × (c.rank w < c.rank x)
      next_over x w e vx before nx =
          let nu : nxt u ≡ Some w = sym (s.prev_on x before) ∙ nx in
          let b = between x w before nu in
          (now w e b.3 (b.1 ∙ ap Some (same_d d e x b.0 vx)), s.next_back w nu ∙ before, b.4)

      next_kept : (x w : U) (e : D) → (x ≡ u → ⊥) → val x ≡ Some e → (prv u ≡ Some x → ⊥) → nxt' x ≡ Some w → (val' w ≡ Some e) × (prv' w ≡ Some x) × (c.rank w < c.rank x)
      next_kept x w e ne vx not_before nx =
          let fx = c.next_ok x w e vx (sym (s.on x ne not_before) ∙ nx) in
          let apart : w ≡ u → ⊥ = λ p. not_before (ap prv (sym p) ∙ fx.1) in
          let not_next : nxt u ≡ Some w → ⊥ = λ nu. let fu = c.next_ok u w d s.used nu in ne (some_eq (sym fx.1 ∙ fu.1)) in
          (now w e apart fx.0, s.back w apart not_next ∙ fx.1, fx.2)

      next_ok' : (x w : U) (e : D) → val' x ≡ Some e → nxt' x ≡ Some w → (val' w ≡ Some e) × (prv' w ≡ Some x) × (c.rank w < c.rank x)
      next_ok' x w e vx nx =
          let old = was x e vx in
          elim (is_some_of tU (prv u) x) [ inl before ↦ next_over x w e old.1 before nx | inr away ↦ next_kept x w e old.0 old.1 away nx ]

      prev_over : (x w : U) (e : D) → val x ≡ Some e → nxt u ≡ Some x → prv' x ≡ Some w → (val' w ≡ Some e) × (nxt' w ≡ Some x)
      prev_over x w e vx after px =
          let pu : prv u ≡ Some w = sym (s.next_back x after) ∙ px in
          let b = between w x pu after in
          (now w e b.2 (b.0 ∙ ap Some (same_d d e x b.1 vx)), s.prev_on w pu ∙ after)

      prev_kept : (x w : U) (e : D) → (x ≡ u → ⊥) → val x ≡ Some e → (nxt u ≡ Some x → ⊥) → prv' x ≡ Some w → (val' w ≡ Some e) × (nxt' w ≡ Some x)
      prev_kept x w e ne vx not_after px =
          let bx = c.prev_ok x w e vx (sym (s.back x ne not_after) ∙ px) in
          let apart : w ≡ u → ⊥ = λ p. not_after (ap nxt (sym p) ∙ bx.1) in
          let not_prev : prv u ≡ Some w → ⊥ = λ pu. let bu = c.prev_ok u w d s.used pu in ne (some_eq (sym bx.1 ∙ bu.1)) in
          (now w e apart bx.0, s.on w apart not_prev ∙ bx.1)

      prev_ok' : (x w : U) (e : D) → val' x ≡ Some e → prv' x ≡ Some w → (val' w ≡ Some e) × (nxt' w ≡ Some x)
      prev_ok' x w e vx px =
          let old = was x e vx in
          elim (is_some_of tU (nxt u) x) [ inl after ↦ prev_over x w e old.1 after px | inr away ↦ prev_kept x w e old.0 old.1 away px ]

      head_of : (e : D) → (e ≡ d) ⊎ ((e ≡ d) → ⊥)
      head_of e = same_or_other tD e d

      first_ok' : (x : U) (e : D) → val' x ≡ Some e → prv' x ≡ None → heads' e ≡ Some (Some x)
      first_ok' x e vx px =
          let old = was x e vx in
          elim (is_some_of tU (nxt u) x) [
            | inl after ↦
                let fu = c.next_ok u x d s.used after in
                let ed : d ≡ e = same_d d e x fu.0 old.1 in
                let pu : prv u ≡ None = sym (s.next_back x after) ∙ px in
                ap heads' (sym ed) ∙ s.head pu ∙ ap Some after
            | inr not_after ↦
                let px0 : prv x ≡ None = sym (s.back x old.0 not_after) ∙ px in
                let first = c.first_ok x e old.1 px0 in
                elim (head_of e) [
                  | inr other ↦ s.heads_kept e other ∙ first
                  | inl same ↦ elim (seen (prv u)) [
                    | inl at_head ↦
                        let fu = c.first_ok u d s.used at_head in
                        let clash : x ≡ u = some_eq (some_eq (sym first ∙ ap heads same ∙ fu)) in
                        absurd (old.0 clash)
                    | inr (w, pu) ↦ ap heads' same ∙ s.head_kept w pu ∙ ap heads (sym same) ∙ first
                  ]
                ]
          ]

      head_ok' : (e : D) (x : U) → heads' e ≡ Some (Some x) → (val' x ≡ Some e) × (prv' x ≡ None)
      head_ok' e x h =
          elim (head_of e) [
            | inr other ↦
                let before = c.head_ok e x (sym (s.heads_kept e other) ∙ h) in
                let apart : x ≡ u → ⊥ = λ p. other (some_eq (sym before.0 ∙ ap val p ∙ s.used)) in
                let not_after : nxt u ≡ Some x → ⊥ = λ nu. let f = c.next_ok u x d s.used nu in let g = before.1 in cc in
                (now x e apart before.0, s.back x apart not_after ∙ before.1)
            | inl same ↦ elim (seen (prv u)) [
              | inl at_head ↦
                  let after : nxt u ≡ Some x = some_eq (sym (s.head at_head) ∙ ap heads' (sym same) ∙ h) in
                  let fu = c.next_ok u x d s.used after in
                  let apart : x ≡ u → ⊥ = λ p. let r : c.rank x ≡ c.rank u = ap c.rank p in omega (arith, fu.2) in
                  (now x e apart (fu.0 ∙ ap Some (sym same)), s.next_back x after ∙ at_head)
              | inr (w, pu) ↦
                  let before = c.head_ok e x (ap heads same ∙ sym (s.head_kept w pu) ∙ ap heads' (sym same) ∙ h) in
                  let apart : x ≡ u → ⊥ = λ p. let g : prv u ≡ None = ap prv (sym p) ∙ before.1 in cc in
                  let not_after : nxt u ≡ Some x → ⊥ = λ nu. let f = c.next_ok u x d s.used nu in let g = before.1 in cc in
                  (now x e apart before.0, s.back x apart not_after ∙ before.1)
            ]
          ]

      alive' : (x : U) (e : D) → val' x ≡ Some e → (h : Option U) × (heads' e ≡ Some h)
      alive' x e vx =
          let old = was x e vx in
          let st = c.alive x e old.1 in
          elim (head_of e) [
            | inr other ↦ (st.0, s.heads_kept e other ∙ st.1)
            | inl same ↦ elim (seen (prv u)) [
              | inl at_head ↦ (nxt u, ap heads' same ∙ s.head at_head)
              | inr (w, pu) ↦ (st.0, ap heads' same ∙ s.head_kept w pu ∙ ap heads (sym same) ∙ st.1)
            ]
          ]

      pub detached : Chained val' prv' nxt' heads'
      detached = record {
        rank = c.rank;
        bound = c.bound;
        next_ok = next_ok';
        prev_ok = prev_ok';
        first_ok = first_ok';
        head_ok = head_ok';
        alive = alive';
        below = λ x e vx. c.below x e (was x e vx).1;
      }

    -- slot u, which is in no list, joins the list of d at its head
    pub record Attaches (val val' : U → Option D) (prv prv' nxt nxt' : U → Option U) (heads heads' : D → Option (Option U)) (u : U) (d : D) (h : Option U) : Type 0 where
      pub free : val u ≡ None
      pub first : heads d ≡ Some h
      pub used : val' u ≡ Some d
      pub kept : (w : U) → (w ≡ u → ⊥) → val' w ≡ val w
      pub on_here : nxt' u ≡ h
      pub on : (w : U) → (w ≡ u → ⊥) → nxt' w ≡ nxt w
      pub back_here : prv' u ≡ None
      pub back_old : (w : U) → h ≡ Some w → prv' w ≡ Some u
      pub back : (w : U) → (w ≡ u → ⊥) → (h ≡ Some w → ⊥) → prv' w ≡ prv w
      pub head : heads' d ≡ Some (Some u)
      pub heads_kept : (e : D) → (e ≡ d → ⊥) → heads' e ≡ heads e

    module _ {val val' : U → Option D} {prv prv' nxt nxt' : U → Option U} {heads heads' : D → Option (Option U)} {u : U} {d : D} {h : Option U} (c : Chained val prv nxt heads) (s : Attaches val val' prv prv' nxt nxt' heads heads' u d h) where
      rank_now : U → ℕ
      rank_now w = cond (eqU w u) c.bound (c.rank w)

      rank_here : rank_now u ≡ c.bound
      unfolding rank_now
      rank_here = rw (tU.same u) refl

      rank_other : (w : U) → (w ≡ u → ⊥) → rank_now w ≡ c.rank w
      unfolding rank_now
      rank_other w ne = go (eqU w u) refl
        where
          go : (b : Bool) → eqU w u ≡ b → cond (eqU w u) c.bound (c.rank w) ≡ c.rank w
          go true e = absurd (ne (tU.sound w u e))
          go false e = rw e refl

      is_used : (x : U) (e : D) → (x ≡ u → ⊥) → val' x ≡ Some e → val x ≡ Some e
      is_used x e ne used = sym (s.kept x ne) ∙ used

      used_apart : (x : U) (e : D) → val x ≡ Some e → x ≡ u → ⊥
      used_apart x e used p = let f = s.free in let q : val x ≡ val u = ap val p in cc

      head_used : (w : U) → h ≡ Some w → (val w ≡ Some d) × (prv w ≡ None)
      head_used w p = c.head_ok d w (s.first ∙ ap Some p)

      a_next_ok : (x w : U) (e : D) → val' x ≡ Some e → nxt' x ≡ Some w → (val' w ≡ Some e) × (prv' w ≡ Some x) × (rank_now w < rank_now x)
      a_next_ok x w e vx nx =
          elim (same_or_other tU x u) [
            | inl here ↦
                let hw : h ≡ Some w = sym s.on_here ∙ ap nxt' (sym here) ∙ nx in
                let hu = head_used w hw in
                let ne = used_apart w d hu.0 in
                let ed : d ≡ e = some_eq (sym s.used ∙ ap val' (sym here) ∙ vx) in
                let b = c.below w d hu.0 in
                let rh : rank_now x ≡ c.bound = ap rank_now here ∙ rank_here in
                let ro = rank_other w ne in
                (s.kept w ne ∙ hu.0 ∙ ap Some ed, s.back_old w hw ∙ ap Some (sym here), omega arith)
            | inr ne ↦
                let vx0 = is_used x e ne vx in
                let f = c.next_ok x w e vx0 (sym (s.on x ne) ∙ nx) in
                let nw = used_apart w e f.0 in
                let not_head : h ≡ Some w → ⊥ = λ p. let g = head_used w p in let k = f.1 in let j = g.1 in cc in
                let rx = rank_other x ne in
                let rv = rank_other w nw in
                (s.kept w nw ∙ f.0, s.back w nw not_head ∙ f.1, omega (arith, f.2))
          ]

      a_prev_ok : (x w : U) (e : D) → val' x ≡ Some e → prv' x ≡ Some w → (val' w ≡ Some e) × (nxt' w ≡ Some x)
      a_prev_ok x w e vx px =
          elim (same_or_other tU x u) [
            | inl here ↦ let b = s.back_here in let q : prv' x ≡ prv' u = ap prv' here in cc
            | inr ne ↦
                let vx0 = is_used x e ne vx in
                elim (is_some_of tU h x) [
                  | inl was_head ↦
                      let wu : u ≡ w = some_eq (sym (s.back_old x was_head) ∙ px) in
                      let hu = head_used x was_head in
                      let ed : d ≡ e = some_eq (sym hu.0 ∙ vx0) in
                      (ap val' (sym wu) ∙ s.used ∙ ap Some ed, ap nxt' (sym wu) ∙ s.on_here ∙ was_head)
                  | inr not_head ↦
                      let b = c.prev_ok x w e vx0 (sym (s.back x ne not_head) ∙ px) in
                      let nw = used_apart w e b.0 in
                      (s.kept w nw ∙ b.0, s.on w nw ∙ b.1)
                ]
          ]

      a_first_ok : (x : U) (e : D) → val' x ≡ Some e → prv' x ≡ None → heads' e ≡ Some (Some x)
      a_first_ok x e vx px =
          elim (same_or_other tU x u) [
            | inl here ↦
                let ed : d ≡ e = some_eq (sym s.used ∙ ap val' (sym here) ∙ vx) in
                ap heads' (sym ed) ∙ s.head ∙ ap (λ y. Some (Some y)) (sym here)
            | inr ne ↦
                let vx0 = is_used x e ne vx in
                elim (is_some_of tU h x) [
                  | inl was_head ↦ let b = s.back_old x was_head in cc
                  | inr not_head ↦
                      let first = c.first_ok x e vx0 (sym (s.back x ne not_head) ∙ px) in
                      elim (same_or_other tD e d) [
                        | inr other ↦ s.heads_kept e other ∙ first
                        | inl same ↦ absurd (not_head (some_eq (sym s.first ∙ ap heads (sym same) ∙ first)))
                      ]
                ]
          ]

      a_head_ok : (e : D) (x : U) → heads' e ≡ Some (Some x) → (val' x ≡ Some e) × (prv' x ≡ None)
      a_head_ok e x hx =
          elim (same_or_other tD e d) [
            | inl same ↦
                let xu : u ≡ x = some_eq (some_eq (sym s.head ∙ ap heads' (sym same) ∙ hx)) in
                (ap val' (sym xu) ∙ s.used ∙ ap Some (sym same), ap prv' (sym xu) ∙ s.back_here)
            | inr other ↦
                let before = c.head_ok e x (sym (s.heads_kept e other) ∙ hx) in
                let nx = used_apart x e before.0 in
                let not_head : h ≡ Some x → ⊥ = λ p. let g = head_used x p in other (some_eq (sym before.0 ∙ g.0)) in
                (s.kept x nx ∙ before.0, s.back x nx not_head ∙ before.1)
          ]

      a_has_head : (x : U) (e : D) → val' x ≡ Some e → (k : Option U) × (heads' e ≡ Some k)
      a_has_head x e vx =
          elim (same_or_other tD e d) [
            | inl same ↦ (Some u, ap heads' same ∙ s.head)
            | inr other ↦
                let ne : x ≡ u → ⊥ = λ here. other (some_eq (sym vx ∙ ap val' here ∙ s.used)) in
                let st = c.alive x e (is_used x e ne vx) in
                (st.0, s.heads_kept e other ∙ st.1)
          ]

      a_below : (x : U) (e : D) → val' x ≡ Some e → rank_now x < c.bound + 1
      a_below x e vx =
          elim (same_or_other tU x u) [
            | inl here ↦ let r : rank_now x ≡ c.bound = ap rank_now here ∙ rank_here in omega arith
            | inr ne ↦ let r = rank_other x ne in let b = c.below x e (is_used x e ne vx) in omega arith
          ]

      pub attached : Chained val' prv' nxt' heads'
      attached = record {
        rank = rank_now;
        bound = c.bound + 1;
        next_ok = a_next_ok;
        prev_ok = a_prev_ok;
        first_ok = a_first_ok;
        head_ok = a_head_ok;
        alive = a_has_head;
        below = a_below;
      }

    -- no slot that uses a definition changed, and no definition that was added or removed has a use
    pub record Reframes (val val' : U → Option D) (prv prv' nxt nxt' : U → Option U) (heads heads' : D → Option (Option U)) : Type 0 where
      pub vals : (u : U) → val' u ≡ val u
      pub prevs : (u : U) (d : D) → val u ≡ Some d → prv' u ≡ prv u
      pub nexts : (u : U) (d : D) → val u ≡ Some d → nxt' u ≡ nxt u
      pub same_heads : (d : D) → (heads' d ≡ heads d) ⊎ (((u : U) → val u ≡ Some d → ⊥) × ((u : U) → heads' d ≡ Some (Some u) → ⊥))

    module _ {val val' : U → Option D} {prv prv' nxt nxt' : U → Option U} {heads heads' : D → Option (Option U)} (c : Chained val prv nxt heads) (s : Reframes val val' prv prv' nxt nxt' heads heads') where
      r_used : (x : U) (e : D) → val' x ≡ Some e → val x ≡ Some e
      r_used x e vx = sym (s.vals x) ∙ vx

      r_head : (x : U) (e : D) → val x ≡ Some e → heads' e ≡ heads e
      r_head x e vx = elim (s.same_heads e) [ inl same ↦ same | inr gone ↦ absurd (gone.0 x vx) ]

      pub reframed : Chained val' prv' nxt' heads'
      reframed = record {
        rank = c.rank;
        bound = c.bound;
        next_ok = λ x w e vx nx.
            let v0 = r_used x e vx in
            let k = c.next_ok x w e v0 (sym (s.nexts x e v0) ∙ nx) in
            (s.vals w ∙ k.0, s.prevs w e k.0 ∙ k.1, k.2);
        prev_ok = λ x w e vx px.
            let v0 = r_used x e vx in
            let k = c.prev_ok x w e v0 (sym (s.prevs x e v0) ∙ px) in
            (s.vals w ∙ k.0, s.nexts w e k.0 ∙ k.1);
        first_ok = λ x e vx px.
            let v0 = r_used x e vx in
            r_head x e v0 ∙ c.first_ok x e v0 (sym (s.prevs x e v0) ∙ px);
        head_ok = λ e x hx.
            elim (s.same_heads e) [
              | inl same ↦ let k = c.head_ok e x (sym same ∙ hx) in (s.vals x ∙ k.0, s.prevs x e k.0 ∙ k.1)
              | inr gone ↦ absurd (gone.1 x hx)
            ];
        alive = λ x e vx.
            let v0 = r_used x e vx in
            let k = c.alive x e v0 in (k.0, r_head x e v0 ∙ k.1);
        below = λ x e vx. c.below x e (r_used x e vx);
      }

  -- the slots of a definition's list, from this link on
  abbrev pub Path : (val : U → Option D) (prv nxt : U → Option U) → D → Option U → List U → Type 0
  Path val prv nxt d h [] = h ≡ None
  Path val prv nxt d h (u ∷ us) = (h ≡ Some u) × (val u ≡ Some d) × Path val prv nxt d (nxt u) us

  module _ {val : U → Option D} {prv nxt : U → Option U} {heads : D → Option (Option U)} (c : Chained val prv nxt heads) (d : D) where
    -- from each slot on there is a list
    pub path_from : (n : ℕ) (u : U) → c.rank u < n → val u ≡ Some d → (us : List U) × Path val prv nxt d (Some u) us
    path_from zero u low used = absurd (omega arith)
    path_from (suc n) u low used =
        elim (seen (nxt u)) [
          | inl e ↦ (u ∷ [], (refl, used, e))
          | inr (w, e) ↦
              let k = c.next_ok u w d used e in
              let rest = path_from n w (omega (arith, k.2)) k.0 in
              (u ∷ rest.0, (refl, used, rw e rest.1))
        ]

    next_among : (us : List U) (h : Option U) (u w : U) → Path val prv nxt d h us → Among u us → nxt u ≡ Some w → Among w us
    next_among [] h u w p m e = m
    next_among (x ∷ xs) h u w p m e =
        elim m [
          | inl here ↦ inr (at_front xs (rw (← here) at p.2) e)
          | inr there ↦ inr (next_among xs (nxt x) u w p.2 there e)
        ]
      where
        at_front : (xs : List U) → Path val prv nxt d (nxt u) xs → nxt u ≡ Some w → Among w xs
        at_front [] q e = absurd (cc)
        at_front (y ∷ ys) q e = inl (some_eq (sym e ∙ q.0))

    pub among : (us : List U) → (h : Option U) → heads d ≡ Some h → Path val prv nxt d h us → (n : ℕ) (u : U) → c.bound ≤ c.rank u + n → val u ≡ Some d → Among u us
    among us h at p zero u far used = let b = c.below u d used in absurd (omega arith)
    among us h at p (suc n) u far used =
        elim (seen (prv u)) [
          | inl e ↦ first us h (some_eq (sym at ∙ c.first_ok u d used e)) p
          | inr (w, e) ↦
              let k = c.prev_ok u w d used e in
              let up = c.next_ok w u d k.0 k.1 in
              next_among us h w u p (among us h at p n w (omega (arith, up.2)) k.0) k.1
        ]
      where
        first : (us : List U) (h : Option U) → h ≡ Some u → Path val prv nxt d h us → Among u us
        first [] h e p = absurd (cc)
        first (x ∷ xs) h e p = inl (some_eq (sym e ∙ p.0))
