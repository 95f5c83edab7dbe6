-- Edits of a forest.
use Rattle.std.proofs.Common.{◌≡◌, ◌<◌, ◌+◌, ◌⊎◌, ℕ, zero, suc, Option, Some, None, refl, sym, ap, ◌∙◌, inl, inr, arith, Bool, true, false, List, [], ◌∷◌, ◌++◌, slice_get, length}
use Rattle.std.proofs.lemmas.Option.{slice_get_within}
use Rattle.irtext_graph.specs.Nested.{climb, Within, Nested}

-- a test of equality
pub record Tells {U : Type 0} (eq : U → U → Bool) : Type 0 where
  pub same : (x : U) → eq x x ≡ true
  pub sound : (x y : U) → eq x y ≡ true → x ≡ y

pub same_or_other : {U : Type 0} {eq : U → U → Bool} → Tells eq → (x y : U) → (x ≡ y) ⊎ ((x ≡ y) → ⊥)
same_or_other {U} {eq} t x y = cases (eq x y) refl
  where
    cases : (b : Bool) → eq x y ≡ b → (x ≡ y) ⊎ ((x ≡ y) → ⊥)
    cases true e = inl (t.sound x y e)
    cases false e = inr (λ p. let s : eq x y ≡ true = ap (eq x) (sym p) ∙ t.same x in cc)

pub seen : {X : Type 0} (o : Option X) → (o ≡ None) ⊎ ((x : X) × (o ≡ Some x))
seen None = inl refl
seen (Some x) = inr (x, refl)

pub some_eq : {X : Type 0} {a b : X} → Some a ≡ Some b → a ≡ b
some_eq p = cc

-- the last of a list, and those before it
pub get-last : {X : Type 0} (xs : List X) (x : X) → slice_get (xs ++ x ∷ []) (length xs) ≡ Some x
get-last [] x = refl
get-last (y ∷ ys) x = get-last ys x

pub get-before : {X : Type 0} (xs : List X) (x y : X) (i : ℕ) → slice_get xs i ≡ Some y → slice_get (xs ++ x ∷ []) i ≡ Some y
get-before [] x y i e = absurd (cc)
get-before (z ∷ zs) x y zero e = e
get-before (z ∷ zs) x y (suc i) e = get-before zs x y i e

pub get-either : {X : Type 0} (xs : List X) (x y : X) (i : ℕ) → slice_get (xs ++ x ∷ []) i ≡ Some y → (slice_get xs i ≡ Some y) ⊎ ((i ≡ length xs) × (y ≡ x))
get-either [] x y zero e = inr (refl, sym (some_eq e))
get-either [] x y (suc i) e = absurd (cc)
get-either (z ∷ zs) x y zero e = inl e
get-either (z ∷ zs) x y (suc i) e = elim (get-either zs x y i e) [
  | inl before ↦ inl before
  | inr last ↦ inr (ap suc last.0, last.1)
]

module _ {O : Type 0} where
  pub climb-none : (up : O → Option O) (n : ℕ) → climb up n None ≡ None
  climb-none up zero = refl
  climb-none up (suc n) = refl

  pub climb-add : (up : O → Option O) (n m : ℕ) (o : Option O) → climb up (n + m) o ≡ climb up m (climb up n o)
  climb-add up zero m o = let z : 0 + m ≡ m = omega arith in rw z refl
  climb-add up (suc n) m None = let z : suc n + m ≡ suc (n + m) = omega arith in rw (z, climb-none up m) refl
  climb-add up (suc n) m (Some x) = let z : suc n + m ≡ suc (n + m) = omega arith in rw z (climb-add up n m (up x))

  pub climb-same : (up up' : O → Option O) → ((x : O) → up' x ≡ up x) → (n : ℕ) (o : Option O) → climb up' n o ≡ climb up n o
  climb-same up up' same zero o = refl
  climb-same up up' same (suc n) None = refl
  climb-same up up' same (suc n) (Some x) = ap (climb up' n) (same x) ∙ climb-same up up' same n (up x)

  module _ (eqO : O → O → Bool) (t : Tells eqO) where
    -- x leads to p in n steps at most, or the way does not change
    module _ (up up' : O → Option O) (c : O) (others : (x : O) → (x ≡ c → ⊥) → up' x ≡ up x) where
      -- a way that does not meet c is as before
      pub climb-apart : (n : ℕ) (o : Option O) → ((m : ℕ) → m < n → climb up m o ≡ Some c → ⊥) → climb up' n o ≡ climb up n o
      climb-apart zero o apart = refl
      climb-apart (suc n) None apart = refl
      climb-apart (suc n) (Some x) apart =
          let ne : x ≡ c → ⊥ = λ e. apart zero (omega arith) (ap Some e) in
          ap (climb up' n) (others x ne) ∙ climb-apart n (up x) (λ m low e. apart (suc m) (omega arith) e)

      -- c is among the ancestors within this many steps, or is not
      pub meets : (n : ℕ) (o : Option O) → ((m : ℕ) × (m < n) × (climb up m o ≡ Some c) × (climb up' m o ≡ Some c)) ⊎ ((m : ℕ) → m < n → climb up m o ≡ Some c → ⊥)
      meets zero o = inr (λ m low e. omega arith)
      meets (suc n) None = inr (λ m low e. let k = climb-none up m in cc)
      meets (suc n) (Some x) =
          elim (same_or_other t x c) [
            | inl here ↦ inl (zero, omega arith, ap Some here, ap Some here)
            | inr ne ↦ elim (meets n (up x)) [
              | inl (m, low, e, e') ↦ inl (suc m, omega arith, e, ap (climb up' m) (others x ne) ∙ e')
              | inr apart ↦ inr (λ m low e. later x ne apart m low e)
            ]
          ]
        where
          later : (x : O) → (x ≡ c → ⊥) → ((m : ℕ) → m < n → climb up m (up x) ≡ Some c → ⊥) → (m : ℕ) → m < suc n → climb up m (Some x) ≡ Some c → ⊥
          later x ne apart zero low e = ne (some_eq e)
          later x ne apart (suc m) low e = apart m (omega arith) e

      -- from c the way upwards ends: then it ends from everywhere
      pub ends-on : (n' : ℕ) → climb up' n' (Some c) ≡ None → (n : ℕ) (o : Option O) → climb up n o ≡ None → (m : ℕ) × (climb up' m o ≡ None)
      ends-on n' done n o e =
          elim (meets n o) [
            | inl (m, low, f, f') ↦ (m + n', climb-add up' m n' o ∙ ap (climb up' n') f' ∙ done)
            | inr apart ↦ (n, climb-apart n o apart ∙ e)
          ]

    -- c, which had no parent, is appended to the children of k
    pub record Attaches (kids kids' : O → List O) (up up' : O → Option O) (k c : O) : Type 0 where
      pub free : up c ≡ None
      pub apart : Within up c k → ⊥
      pub here : kids' k ≡ kids k ++ c ∷ []
      pub others : (x : O) → (x ≡ k → ⊥) → kids' x ≡ kids x
      pub up_here : up' c ≡ Some k
      pub ups : (x : O) → (x ≡ c → ⊥) → up' x ≡ up x

    pub attached : {kids kids' : O → List O} {up up' : O → Option O} {k c : O} → Nested kids up → Attaches kids kids' up up' k c → Nested kids' up'
    attached {kids} {kids'} {up} {up'} {k} {c} s a = record { down = down; listed = listed; once = once; ends = ends }
      where
        not_c : (x : O) (j : ℕ) (d : O) → slice_get (kids x) j ≡ Some d → d ≡ c → ⊥
        not_c x j d e here = let u = s.down x j d e in let f = a.free in let g = ap up here in cc

        in_kids : (x : O) (i : ℕ) (d : O) → slice_get (kids' x) i ≡ Some d → (slice_get (kids x) i ≡ Some d) ⊎ ((x ≡ k) × (i ≡ length (kids k)) × (d ≡ c))
        in_kids x i d e = elim (same_or_other t x k) [
          | inr ne ↦ inl (rw (a.others x ne) at e)
          | inl p ↦
              let e' : slice_get (kids k ++ c ∷ []) i ≡ Some d = rw (← a.here, ← p) e in
              elim (get-either (kids k) c d i e') [
                | inl before ↦ inl (rw p before)
                | inr last ↦ inr (p, last.0, last.1)
              ]
        ]

        down : (x : O) (i : ℕ) (d : O) → slice_get (kids' x) i ≡ Some d → up' d ≡ Some x
        down x i d e = elim (in_kids x i d e) [
          | inl before ↦ a.ups d (not_c x i d before) ∙ s.down x i d before
          | inr (p, at, last) ↦ rw (p, last) a.up_here
        ]

        still : (x : O) → x ≡ k → (i : ℕ) (d : O) → slice_get (kids x) i ≡ Some d → slice_get (kids' x) i ≡ Some d
        still x p i d e = let o : slice_get (kids k) i ≡ Some d = rw p at e in rw (p, a.here) (get-before (kids k) c d i o)

        listed : (d x : O) → up' d ≡ Some x → (i : ℕ) × (slice_get (kids' x) i ≡ Some d)
        listed d x e = elim (same_or_other t d c) [
          | inl p ↦
              let kx : k ≡ x = some_eq (sym a.up_here ∙ ap up' (sym p) ∙ e) in
              (length (kids k), rw (← kx, a.here, p) (get-last (kids k) c))
          | inr ne ↦
              let old = s.listed d x (sym (a.ups d ne) ∙ e) in
              elim (same_or_other t x k) [
                | inr nk ↦ (old.0, rw (a.others x nk) old.1)
                | inl p ↦ (old.0, still x p old.0 d old.1)
              ]
        ]

        once : (x : O) (i j : ℕ) (d : O) → slice_get (kids' x) i ≡ Some d → slice_get (kids' x) j ≡ Some d → i ≡ j
        once x i j d e f = elim (in_kids x i d e) [
          | inl ei ↦ elim (in_kids x j d f) [
            | inl ej ↦ s.once x i j d ei ej
            | inr (p, at, last) ↦ absurd (not_c x i d ei last)
          ]
          | inr (p, at, last) ↦ elim (in_kids x j d f) [
            | inl ej ↦ absurd (not_c x j d ej last)
            | inr (q, at', last') ↦ at ∙ sym at'
          ]
        ]

        ends : (x : O) → (n : ℕ) × (climb up' n (Some x) ≡ None)
        ends x =
            let n = s.ends k in
            let way : climb up' n.0 (Some k) ≡ climb up n.0 (Some k) = climb-apart up up' c a.ups n.0 (Some k) (λ m low e. a.apart (m, e)) in
            let from_c : climb up' (suc n.0) (Some c) ≡ None = ap (climb up' n.0) a.up_here ∙ way ∙ n.1 in
            let e = s.ends x in
            ends-on up up' c a.ups (suc n.0) from_c e.0 (Some x) e.1

    -- c, the last child of k, has no parent now
    pub record Detaches (kids kids' : O → List O) (up up' : O → Option O) (k c : O) : Type 0 where
      pub here : kids k ≡ kids' k ++ c ∷ []
      pub others : (x : O) → (x ≡ k → ⊥) → kids' x ≡ kids x
      pub up_here : up' c ≡ None
      pub ups : (x : O) → (x ≡ c → ⊥) → up' x ≡ up x

    pub detached : {kids kids' : O → List O} {up up' : O → Option O} {k c : O} → Nested kids up → Detaches kids kids' up up' k c → Nested kids' up'
    detached {kids} {kids'} {up} {up'} {k} {c} s a = record { down = down; listed = listed; once = once; ends = ends }
      where
        last : slice_get (kids k) (length (kids' k)) ≡ Some c
        last = rw a.here (get-last (kids' k) c)

        was : (x : O) (i : ℕ) (d : O) → slice_get (kids' x) i ≡ Some d → slice_get (kids x) i ≡ Some d
        was x i d e = elim (same_or_other t x k) [
          | inr ne ↦ rw (a.others x ne) at e
          | inl p ↦ let o : slice_get (kids' k) i ≡ Some d = rw (← p) e in rw (p, a.here) (get-before (kids' k) c d i o)
        ]

        not_c : (x : O) (i : ℕ) (d : O) → slice_get (kids' x) i ≡ Some d → d ≡ c → ⊥
        not_c x i d e p =
            let w = was x i d e in
            let u : up c ≡ Some x = rw (← p) (s.down x i d w) in
            let v : up c ≡ Some k = s.down k (length (kids' k)) c last in
            let xk : x ≡ k = some_eq (sym u ∙ v) in
            let o : slice_get (kids' k) i ≡ Some d = rw (← xk) e in
            let low = slice_get_within (kids' k) i d o in
            let at : i ≡ length (kids' k) = s.once k i (length (kids' k)) c (rw (← xk, ← p) w) last in
            omega (arith, low, at)

        down : (x : O) (i : ℕ) (d : O) → slice_get (kids' x) i ≡ Some d → up' d ≡ Some x
        down x i d e = a.ups d (not_c x i d e) ∙ s.down x i d (was x i d e)

        still : (x : O) → x ≡ k → (i : ℕ) (d : O) → (d ≡ c → ⊥) → slice_get (kids x) i ≡ Some d → slice_get (kids' x) i ≡ Some d
        still x p i d ne e =
            let o : slice_get (kids k) i ≡ Some d = rw p at e in
            elim (get-either (kids' k) c d i (rw a.here at o)) [
              | inl before ↦ rw p before
              | inr last ↦ absurd (ne last.1)
            ]

        listed : (d x : O) → up' d ≡ Some x → (i : ℕ) × (slice_get (kids' x) i ≡ Some d)
        listed d x e = elim (same_or_other t d c) [
          | inl p ↦ let q : up' c ≡ Some x = rw (← p) e in let r = a.up_here in absurd (cc)
          | inr ne ↦
              let old = s.listed d x (sym (a.ups d ne) ∙ e) in
              elim (same_or_other t x k) [
                | inr nk ↦ (old.0, rw (a.others x nk) old.1)
                | inl p ↦ (old.0, still x p old.0 d ne old.1)
              ]
        ]

        once : (x : O) (i j : ℕ) (d : O) → slice_get (kids' x) i ≡ Some d → slice_get (kids' x) j ≡ Some d → i ≡ j
        once x i j d e f = s.once x i j d (was x i d e) (was x j d f)

        ends : (x : O) → (n : ℕ) × (climb up' n (Some x) ≡ None)
        ends x =
            let e = s.ends x in
            ends-on up up' c a.ups 1 a.up_here e.0 (Some x) e.1

    -- the same functions at each point
    pub renested : {kids kids' : O → List O} {up up' : O → Option O} → Nested kids up → ((x : O) → kids' x ≡ kids x) → ((x : O) → up' x ≡ up x) → Nested kids' up'
    renested {kids} {kids'} {up} {up'} s k u = record {
      down = λ x i c e. u c ∙ s.down x i c (rw (k x) at e);
      listed = λ c x e. let o = s.listed c x (sym (u c) ∙ e) in (o.0, rw (k x) o.1);
      once = λ x i j c e f. s.once x i j c (rw (k x) at e) (rw (k x) at f);
      ends = λ x. let e = s.ends x in (e.0, climb-same up up' u e.0 (Some x) ∙ e.1);
    }
