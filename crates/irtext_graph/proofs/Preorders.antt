-- Going through all inside an object, each object once.
use Rattle.std.proofs.Common.{◌≡◌, ◌≢◌, ◌<◌, ◌≤◌, ◌+◌, ℕ, zero, suc, Option, Some, None, refl, sym, ap, ◌∙◌, inl, inr, arith, Bool, true, false, cond, List, [], ◌∷◌, ◌++◌, slice_get, subst}
use Rattle.std.proofs.lemmas.List.{append_assoc}
use Rattle.irtext_graph.specs.Nested.{climb, Within, Nested}
use Rattle.irtext_graph.specs.Chained.{Among}
use Rattle.irtext_graph.specs.Preorder.{flat, past, subtree, beside, after_inside, onward}
use Rattle.irtext_graph.proofs.Nests.{Tells, seen, some_eq, climb-add}

module _ {O : Type 0} where
  flat_same : (f g : O → List O) (xs : List O) → ((i : ℕ) (c : O) → slice_get xs i ≡ Some c → f c ≡ g c) → flat f xs ≡ flat g xs
  flat_same f g [] same = refl
  flat_same f g (x ∷ xs) same = rw (same zero x refl, flat_same f g xs (λ i c e. same (suc i) c e)) refl

  pub among_left : (q : O) (xs ys : List O) → Among q xs → Among q (xs ++ ys)
  among_left q [] ys m = absurd m
  among_left q (x ∷ xs) ys m = elim m [ inl e ↦ inl e | inr n ↦ inr (among_left q xs ys n) ]

  pub among_right : (q : O) (xs ys : List O) → Among q ys → Among q (xs ++ ys)
  among_right q [] ys m = m
  among_right q (x ∷ xs) ys m = inr (among_right q xs ys m)

  among_flat : (f : O → List O) (q c : O) (xs : List O) (i : ℕ) → slice_get xs i ≡ Some c → Among q (f c) → Among q (flat f xs)
  among_flat f q c [] i e m = absurd (cc)
  among_flat f q c (x ∷ xs) zero e m = among_left q (f x) (flat f xs) (subst (λ y. Among q (f y)) (sym (some_eq e)) m)
  among_flat f q c (x ∷ xs) (suc i) e m = among_right q (f x) (flat f xs) (among_flat f q c xs i e m)

  -- one step more
  climb_next : (up : O → Option O) (n : ℕ) (s : Option O) (o : O) → climb up n s ≡ Some o → climb up (suc n) s ≡ up o
  climb_next up n s o e =
      let z : suc n ≡ n + 1 = omega arith in
      ap (λ (k : ℕ). climb up k s) z ∙ climb-add up n 1 s ∙ ap (climb up 1) e

  -- all inside an object comes in it
  pub inside_among : {kids : O → List O} {up : O → Option O} → Nested kids up → (n j : ℕ) (q x : O) → climb up j (Some q) ≡ Some x → j < n → Among q (subtree kids n x)
  inside_among s zero j q x e low = absurd (omega (arith, low))
  inside_among s (suc n) zero q x e low = inl (some_eq e)
  inside_among {kids} {up} s (suc n) (suc j) q x e low = elim (seen (climb up j (Some q))) [
    | inl none ↦ absurd (
        let z : suc j ≡ j + 1 = omega arith in
        let f : climb up (suc j) (Some q) ≡ None = ap (λ (k : ℕ). climb up k (Some q)) z ∙ climb-add up j 1 (Some q) ∙ ap (climb up 1) none in
        cc)
    | inr (c, f) ↦
        let at = s.listed c x (sym (climb_next up j (Some q) c f) ∙ e) in
        inr (among_flat (subtree kids n) q c (kids x) at.0 at.1 (inside_among s n j q c f (omega (arith, low))))
  ]

  -- enough levels
  subtree_enough : {kids : O → List O} {up : O → Option O} → Nested kids up → (n : ℕ) (x : O) → ((q : O) (j : ℕ) → climb up j (Some q) ≡ Some x → j < n) → subtree kids n x ≡ subtree kids (suc n) x
  subtree_enough s zero x low = absurd (omega (arith, low x zero refl))
  subtree_enough {kids} {up} s (suc n) x low =
      ap (λ ys. x ∷ ys) (flat_same (subtree kids n) (subtree kids (suc n)) (kids x)
      (λ i c e. subtree_enough s n c (λ q j f. let l = low q (suc j) (climb_next up j (Some q) c f ∙ s.down x i c e) in omega (arith, l))))

  after_enough : (eq : O → O → Bool) (kids : O → List O) (up : O → Option O) (depth : ℕ) (o : O) (n : ℕ) (x : Option O) → climb up n x ≡ None → after_inside eq kids up depth o n x ≡ after_inside eq kids up depth o (suc n) x
  after_enough eq kids up depth o zero None e = refl
  after_enough eq kids up depth o zero (Some x) e = absurd (cc)
  after_enough eq kids up depth o (suc n) None e = refl
  after_enough eq kids up depth o (suc n) (Some x) e = ap (λ ys. cond (eq x o) [] (beside eq kids depth x (up x) ++ ys)) (after_enough eq kids up depth o n (up x) e)

  module _ (eq : O → O → Bool) (t : Tells eq) where
    past_here : (x y : O) (ys : List O) → y ≡ x → past eq x (y ∷ ys) ≡ ys
    past_here x y ys e = ap (λ b. cond b ys (past eq x ys)) (ap (λ z. eq z x) e ∙ t.same x)

    past_other : (x y : O) (ys : List O) → y ≢ x → past eq x (y ∷ ys) ≡ past eq x ys
    past_other x y ys n = go (eq y x) refl
      where
        go : (b : Bool) → eq y x ≡ b → cond b ys (past eq x ys) ≡ past eq x ys
        go true e = absurd (n (t.sound y x e))
        go false e = refl

    abbrev Once : List O → Type 0
    Once xs = (i j : ℕ) (c : O) → slice_get xs i ≡ Some c → slice_get xs j ≡ Some c → i ≡ j

    -- what comes after one element of a list and after the next
    past_next : (c d : O) (xs : List O) (i : ℕ) → slice_get xs i ≡ Some c → slice_get xs (suc i) ≡ Some d → Once xs → past eq c xs ≡ d ∷ past eq d xs
    past_next c d [] i e f once = absurd (cc)
    past_next c d (x ∷ []) zero e f once = absurd (cc)
    past_next c d (x ∷ y ∷ ys) zero e f once =
        let apart : x ≢ d = λ s. let k : 0 ≡ 1 = once 0 1 d (ap Some s) f in omega (arith, k) in
        past_here c x (y ∷ ys) (some_eq e) ∙ ap (λ z. z ∷ ys) (some_eq f) ∙ ap (λ zs. d ∷ zs) (sym (past_other d x (y ∷ ys) apart ∙ past_here d y ys (some_eq f)))
    past_next c d (x ∷ xs) (suc i) e f once =
        let here : x ≢ c = λ s. let k : 0 ≡ suc i = once 0 (suc i) c (ap Some s) e in omega (arith, k) in
        let there : x ≢ d = λ s. let k : 0 ≡ suc (suc i) = once 0 (suc (suc i)) d (ap Some s) f in omega (arith, k) in
        past_other c x xs here ∙ past_next c d xs i e f (λ a b z u v. let k = once (suc a) (suc b) z u v in omega (arith, k)) ∙ ap (λ zs. d ∷ zs) (sym (past_other d x xs there))

    -- nothing comes after the last
    past_last : (c : O) (xs : List O) (i : ℕ) → slice_get xs i ≡ Some c → slice_get xs (suc i) ≡ None → Once xs → past eq c xs ≡ []
    past_last c [] i e f once = absurd (cc)
    past_last c (x ∷ []) zero e f once = past_here c x [] (some_eq e)
    past_last c (x ∷ y ∷ ys) zero e f once = absurd (cc)
    past_last c (x ∷ xs) (suc i) e f once =
        let here : x ≢ c = λ s. let k : 0 ≡ suc i = once 0 (suc i) c (ap Some s) e in omega (arith, k) in
        past_other c x xs here ∙ past_last c xs i e f (λ a b z u v. let k = once (suc a) (suc b) z u v in omega (arith, k))

    module _ {kids : O → List O} {up : O → Option O} (s : Nested kids up) (o : O) (N : ℕ) (short : (n : ℕ) (x z : O) → climb up n (Some x) ≡ Some z → n ≤ N) where
      all_ends : (x : O) → climb up (suc N) (Some x) ≡ None
      all_ends x = elim (seen (climb up (suc N) (Some x))) [
        | inl e ↦ e
        | inr (z, e) ↦ absurd (let k = short (suc N) x z e in omega (arith, k))
      ]

      abbrev below : O → List O
      below x = subtree kids (suc N) x

      abbrev rest : O → List O
      rest x = after_inside eq kids up (suc N) o (suc N) (Some x)

      -- an object, and then its children with all inside
      opened : (x : O) → below x ≡ x ∷ flat below (kids x)
      opened x = ap (λ ys. x ∷ ys) (flat_same (subtree kids N) below (kids x)
          (λ i c e. subtree_enough s N c (λ q j f. let k = short (suc j) q x (climb_next up j (Some q) c f ∙ s.down x i c e) in omega (arith, k))))

      rest_last : rest o ≡ []
      rest_last = ap (λ b. cond b [] (beside eq kids (suc N) o (up o) ++ after_inside eq kids up (suc N) o N (up o))) (t.same o)

      rest_up : (x k : O) → x ≢ o → up x ≡ Some k → rest x ≡ flat below (past eq x (kids k)) ++ rest k
      rest_up x k n e = go (eq x o) refl ∙ ap (λ u. beside eq kids (suc N) x u ++ after_inside eq kids up (suc N) o N u) e
          ∙ ap (λ ys. flat below (past eq x (kids k)) ++ ys) (after_enough eq kids up (suc N) o N (Some k) (ap (climb up N) (sym e) ∙ all_ends x))
        where
          go : (b : Bool) → eq x o ≡ b → cond b [] (beside eq kids (suc N) x (up x) ++ after_inside eq kids up (suc N) o N (up x)) ≡ beside eq kids (suc N) x (up x) ++ after_inside eq kids up (suc N) o N (up x)
          go true f = absurd (n (t.sound x o f))
          go false f = refl

      -- without children an object comes alone
      pub from_leaf : (x : O) → kids x ≡ [] → below x ++ rest x ≡ x ∷ rest x
      from_leaf x e = ap (λ ys. ys ++ rest x) (opened x) ∙ ap (λ ys. x ∷ flat below ys ++ rest x) e

      -- after an object comes its first child
      pub from_first : (x c : O) → slice_get (kids x) 0 ≡ Some c → c ≢ o → below x ++ rest x ≡ x ∷ (below c ++ rest c)
      from_first x c e n = go (kids x) refl
        where
          go : (ys : List O) → kids x ≡ ys → below x ++ rest x ≡ x ∷ (below c ++ rest c)
          go [] f = absurd (let k = ap (λ ys. slice_get ys 0) f in cc)
          go (y ∷ ys) f =
              let same : y ≡ c = some_eq (sym (ap (λ ys. slice_get ys 0) f) ∙ e) in
              let after_c : past eq c (kids x) ≡ ys = ap (past eq c) f ∙ past_here c y ys same in
              ap (λ zs. zs ++ rest x) (opened x) ∙ ap (λ zs. x ∷ flat below zs ++ rest x) f ∙ ap (λ z. x ∷ (below z ++ flat below ys) ++ rest x) same
              ∙ ap (λ zs. x ∷ zs) (append_assoc (below c) (flat below ys) (rest x)
              ∙ ap (λ zs. below c ++ zs) (ap (λ zs. flat below zs ++ rest x) (sym after_c) ∙ sym (rest_up c x n (s.down x 0 c e))))

      -- after all of one child comes the next
      pub from_next : (x k d : O) (i : ℕ) → x ≢ o → d ≢ o → slice_get (kids k) i ≡ Some x → slice_get (kids k) (suc i) ≡ Some d → rest x ≡ below d ++ rest d
      from_next x k d i n m e f =
          rest_up x k n (s.down k i x e) ∙ ap (λ ys. flat below ys ++ rest k) (past_next x d (kids k) i e f (λ a b z u v. s.once k a b z u v))
          ∙ append_assoc (below d) (flat below (past eq d (kids k))) (rest k) ∙ ap (λ ys. below d ++ ys) (sym (rest_up d k m (s.down k (suc i) d f)))

      -- after the last child comes what is after its parent
      pub from_last : (x k : O) (i : ℕ) → x ≢ o → slice_get (kids k) i ≡ Some x → slice_get (kids k) (suc i) ≡ None → rest x ≡ rest k
      from_last x k i n e f =
          rest_up x k n (s.down k i x e) ∙ ap (λ ys. flat below ys ++ rest k) (past_last x (kids k) i e f (λ a b z u v. s.once k a b z u v))

      pub rest_end : rest o ≡ []
      rest_end = rest_last

      -- all inside o comes from o on
      pub comes : (q : O) → Within up o q → Among q (below o ++ rest o)
      comes q w = among_left q (below o) (rest o) (inside_among s (suc N) w.0 q o w.1 (let k = short w.0 q o w.1 in omega (arith, k)))

  -- other functions that are the same at each object
  module _ (eq : O → O → Bool) (kids kids' : O → List O) (up up' : O → Option O) (same_kids : (x : O) → kids' x ≡ kids x) (same_up : (x : O) → up' x ≡ up x) where
    subtree_same : (n : ℕ) (x : O) → subtree kids' n x ≡ subtree kids n x
    subtree_same zero x = refl
    subtree_same (suc n) x = ap (λ ys. x ∷ ys) (flat_same (subtree kids' n) (subtree kids n) (kids' x) (λ i c e. subtree_same n c) ∙ ap (flat (subtree kids n)) (same_kids x))

    beside_same : (n : ℕ) (x : O) (k : Option O) → beside eq kids' n x k ≡ beside eq kids n x k
    beside_same n x None = refl
    beside_same n x (Some k) = flat_same (subtree kids' n) (subtree kids n) (past eq x (kids' k)) (λ i c e. subtree_same n c) ∙ ap (λ ys. flat (subtree kids n) (past eq x ys)) (same_kids k)

    after_same : (depth : ℕ) (o : O) (n : ℕ) (x : Option O) → after_inside eq kids' up' depth o n x ≡ after_inside eq kids up depth o n x
    after_same depth o zero x = refl
    after_same depth o (suc n) None = refl
    after_same depth o (suc n) (Some x) =
        ap (λ u. cond (eq x o) [] (beside eq kids' depth x u ++ after_inside eq kids' up' depth o n u)) (same_up x)
        ∙ ap (λ ys. cond (eq x o) [] (ys ++ after_inside eq kids' up' depth o n (up x))) (beside_same depth x (up x))
        ∙ ap (λ ys. cond (eq x o) [] (beside eq kids depth x (up x) ++ ys)) (after_same depth o n (up x))

    pub onward_same : (depth : ℕ) (o : O) (x : Option O) → onward eq kids' up' depth o x ≡ onward eq kids up depth o x
    onward_same depth o None = refl
    onward_same depth o (Some x) = ap (λ ys. ys ++ after_inside eq kids' up' depth o depth (Some x)) (subtree_same depth x) ∙ ap (λ ys. subtree kids depth x ++ ys) (after_same depth o depth (Some x))
