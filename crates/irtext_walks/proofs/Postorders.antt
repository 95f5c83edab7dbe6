-- Going through all inside an object, each object after what is nested in it.
use Rattle.std.proofs.Common.{◌≡◌, ◌≢◌, ◌<◌, ◌≤◌, ◌+◌, ◌⊎◌, ℕ, zero, suc, Option, Some, None, refl, sym}
use Rattle.std.proofs.Common.{ap, ◌∙◌, inl, inr, arith, Bool, true, false, cond, List, [], ◌∷◌, ◌++◌, slice_get, subst}
use Rattle.std.proofs.lemmas.List.{append_assoc}
use Rattle.irtext_graph.specs.Nested.{climb, Within, Nested}
use Rattle.irtext_graph.specs.Chained.{Among}
use Rattle.irtext_graph.specs.Preorder.{flat, past}
use Rattle.irtext_graph.proofs.Inside.{within_self, within_up, within_on}
use Rattle.irtext_graph.proofs.Nests.{Tells, seen, some_eq, climb-add}
use Rattle.irtext_graph.proofs.Preorders.{among_left, among_right}
use Rattle.irtext_walks.specs.Kinds.{put_first}
use Rattle.irtext_walks.specs.Postorder.{postorder, later, upward}

module _ {O : Type 0} where
  pub flat_same : (f h : O → List O) (xs : List O) → ((i : ℕ) (c : O) → slice_get xs i ≡ Some c → f c ≡ h c) → flat f xs ≡ flat h xs
  flat_same f h [] same = refl
  flat_same f h (x ∷ xs) same = rw (same zero x refl, flat_same f h xs (λ i c e. same (suc i) c e)) refl

  -- what comes for an element comes for the list
  among_flat : (f : O → List O) (q c : O) (xs : List O) (i : ℕ) → slice_get xs i ≡ Some c → Among q (f c) → Among q (flat f xs)
  among_flat f q c [] i e m = absurd (cc)
  among_flat f q c (x ∷ xs) zero e m = among_left q (f x) (flat f xs) (subst (λ y. Among q (f y)) (sym (some_eq e)) m)
  among_flat f q c (x ∷ xs) (suc i) e m = among_right q (f x) (flat f xs) (among_flat f q c xs i e m)

  -- what is in two lists is in one of them
  pub in_either : (q : O) (xs ys : List O) → Among q (xs ++ ys) → Among q xs ⊎ Among q ys
  in_either q [] ys m = inr m
  in_either q (z ∷ xs) ys (inl e) = inl (inl e)
  in_either q (z ∷ xs) ys (inr m) = elim (in_either q xs ys m) [ inl n ↦ inl (inr n) | inr n ↦ inr n ]

  -- what comes for the list comes for one of its elements
  pub from_flat : (f : O → List O) (q : O) (xs : List O) → Among q (flat f xs) → (c : O) × ((i : ℕ) × (slice_get xs i ≡ Some c)) × Among q (f c)
  from_flat f q [] m = absurd m
  from_flat f q (x ∷ xs) m = elim (in_either q (f x) (flat f xs) m) [
    | inl n ↦ (x, (zero, refl), n)
    | inr n ↦ let r = from_flat f q xs n in (r.0, (suc r.1.0, r.1.1), r.2)
  ]

  -- one step more
  pub climb_next : (up : O → Option O) (n : ℕ) (s : Option O) (o : O) → climb up n s ≡ Some o → climb up (suc n) s ≡ up o
  climb_next up n s o e =
      let z : suc n ≡ n + 1 = omega arith in
      ap (λ (k : ℕ). climb up k s) z ∙ climb-add up n 1 s ∙ ap (climb up 1) e

  -- all inside an object comes in it
  pub inside_comes : {kids : O → List O} {up : O → Option O} → Nested kids up → (n j : ℕ) (q x : O) → climb up j (Some q) ≡ Some x → j < n
      → Among q (postorder kids n x)
  inside_comes s zero j q x e low = absurd (omega (arith, low))
  inside_comes {kids} s (suc n) zero q x e low = among_right q (flat (postorder kids n) (kids x)) (x ∷ []) (inl (some_eq e))
  inside_comes {kids} {up} s (suc n) (suc j) q x e low = elim (seen (climb up j (Some q))) [
    | inl none ↦ absurd (
        let z : suc j ≡ j + 1 = omega arith in
        let f : climb up (suc j) (Some q) ≡ None = ap (λ (k : ℕ). climb up k (Some q)) z ∙ climb-add up j 1 (Some q) ∙ ap (climb up 1) none in
        cc)
    | inr (c, f) ↦
        let at = s.listed c x (sym (climb_next up j (Some q) c f) ∙ e) in
        among_left q (flat (postorder kids n) (kids x)) (x ∷ [])
        (among_flat (postorder kids n) q c (kids x) at.0 at.1 (inside_comes s n j q c f (omega (arith, low))))
  ]

  -- nothing else comes in an object
  pub comes_inside : {kids : O → List O} {up : O → Option O} → Nested kids up → (n : ℕ) (q x : O) → Among q (postorder kids n x) → Within up x q
  comes_inside s zero q x m = absurd m
  comes_inside {kids} {up} s (suc n) q x m = elim (in_either q (flat (postorder kids n) (kids x)) (x ∷ []) m) [
    | inl l ↦
        let r = from_flat (postorder kids n) q (kids x) l in
        within_on up x r.0 q (within_up up x r.0 x (s.down x r.1.0 r.0 r.1.1) (within_self up x)) (comes_inside s n q r.0 r.2)
    | inr l ↦ elim l [ inl e ↦ (zero, ap Some e) | inr none ↦ absurd none ]
  ]

  -- enough levels
  post_enough : {kids : O → List O} {up : O → Option O} → Nested kids up → (n : ℕ) (x : O) → ((q : O) (j : ℕ) → climb up j (Some q) ≡ Some x → j < n)
      → postorder kids n x ≡ postorder kids (suc n) x
  post_enough s zero x low = absurd (omega (arith, low x zero refl))
  post_enough {kids} {up} s (suc n) x low =
      ap (λ ys. ys ++ x ∷ []) (flat_same (postorder kids n) (postorder kids (suc n)) (kids x)
      (λ i c e. post_enough s n c (λ q j f. let l = low q (suc j) (climb_next up j (Some q) c f ∙ s.down x i c e) in omega (arith, l))))

  upward_enough : (eq : O → O → Bool) (kids : O → List O) (up : O → Option O) (depth : ℕ) (o : O) (n : ℕ) (x : Option O) → climb up n x ≡ None
      → upward eq kids up depth o n x ≡ upward eq kids up depth o (suc n) x
  upward_enough eq kids up depth o zero None e = refl
  upward_enough eq kids up depth o zero (Some x) e = absurd (cc)
  upward_enough eq kids up depth o (suc n) None e = refl
  upward_enough eq kids up depth o (suc n) (Some x) e = ap (λ ys. cond (eq x o) [] (later eq kids depth x (up x) ++ put_first (up x) ys))
      (upward_enough eq kids up depth o n (up x) e)

  module _ (eq : O → O → Bool) (t : Tells eq) where
    past_here : (x y : O) (ys : List O) → y ≡ x → past eq x (y ∷ ys) ≡ ys
    past_here x y ys e = ap (λ b. cond b ys (past eq x ys)) (ap (λ z. eq z x) e ∙ t.same x)

    past_other : (x y : O) (ys : List O) → y ≢ x → past eq x (y ∷ ys) ≡ past eq x ys
    past_other x y ys n = go (eq y x) refl
      where
        go : (b : Bool) → eq y x ≡ b → cond b ys (past eq x ys) ≡ past eq x ys
        go true e = absurd (n (t.sound y x e))
        go false e = refl

    abbrev Once : List O → Type 0
    Once xs = (i j : ℕ) (c : O) → slice_get xs i ≡ Some c → slice_get xs j ≡ Some c → i ≡ j

    -- what comes after one element of a list and after the next
    past_next : (c d : O) (xs : List O) (i : ℕ) → slice_get xs i ≡ Some c → slice_get xs (suc i) ≡ Some d → Once xs → past eq c xs ≡ d ∷ past eq d xs
    past_next c d [] i e f once = absurd (cc)
    past_next c d (x ∷ []) zero e f once = absurd (cc)
    past_next c d (x ∷ y ∷ ys) zero e f once =
        let apart : x ≢ d = λ s. let k : 0 ≡ 1 = once 0 1 d (ap Some s) f in omega (arith, k) in
        past_here c x (y ∷ ys) (some_eq e) ∙ ap (λ z. z ∷ ys) (some_eq f)
        ∙ ap (λ zs. d ∷ zs) (sym (past_other d x (y ∷ ys) apart ∙ past_here d y ys (some_eq f)))
    past_next c d (x ∷ xs) (suc i) e f once =
        let here : x ≢ c = λ s. let k : 0 ≡ suc i = once 0 (suc i) c (ap Some s) e in omega (arith, k) in
        let there : x ≢ d = λ s. let k : 0 ≡ suc (suc i) = once 0 (suc (suc i)) d (ap Some s) f in omega (arith, k) in
        past_other c x xs here ∙ past_next c d xs i e f (λ a b z u v. let k = once (suc a) (suc b) z u v in omega (arith, k))
        ∙ ap (λ zs. d ∷ zs) (sym (past_other d x xs there))

    -- nothing comes after the last
    past_last : (c : O) (xs : List O) (i : ℕ) → slice_get xs i ≡ Some c → slice_get xs (suc i) ≡ None → Once xs → past eq c xs ≡ []
    past_last c [] i e f once = absurd (cc)
    past_last c (x ∷ []) zero e f once = past_here c x [] (some_eq e)
    past_last c (x ∷ y ∷ ys) zero e f once = absurd (cc)
    past_last c (x ∷ xs) (suc i) e f once =
        let here : x ≢ c = λ s. let k : 0 ≡ suc i = once 0 (suc i) c (ap Some s) e in omega (arith, k) in
        past_other c x xs here ∙ past_last c xs i e f (λ a b z u v. let k = once (suc a) (suc b) z u v in omega (arith, k))

    module _ {kids : O → List O} {up : O → Option O} (s : Nested kids up) (o : O) (N : ℕ)
        (short : (n : ℕ) (x z : O) → climb up n (Some x) ≡ Some z → n ≤ N) where
      all_ends : (x : O) → climb up (suc N) (Some x) ≡ None
      all_ends x = elim (seen (climb up (suc N) (Some x))) [
        | inl e ↦ e
        | inr (z, e) ↦ absurd (let k = short (suc N) x z e in omega (arith, k))
      ]

      abbrev below : O → List O
      below x = postorder kids (suc N) x

      abbrev rest : O → List O
      rest x = upward eq kids up (suc N) o (suc N) (Some x)

      -- the children with all inside, and then the object
      opened : (x : O) → below x ≡ flat below (kids x) ++ x ∷ []
      opened x = ap (λ ys. ys ++ x ∷ []) (flat_same (postorder kids N) below (kids x)
          (λ i c e. post_enough s N c (λ q j f. let k = short (suc j) q x (climb_next up j (Some q) c f ∙ s.down x i c e) in omega (arith, k))))

      -- nothing comes after the outermost object
      pub rest_end : rest o ≡ []
      rest_end = ap (λ b. cond b [] (later eq kids (suc N) o (up o) ++ put_first (up o) (upward eq kids up (suc N) o N (up o)))) (t.same o)

      rest_up : (x k : O) → x ≢ o → up x ≡ Some k → rest x ≡ flat below (past eq x (kids k)) ++ k ∷ rest k
      rest_up x k n e = go (eq x o) refl ∙ ap (λ u. later eq kids (suc N) x u ++ put_first u (upward eq kids up (suc N) o N u)) e
          ∙ ap (λ ys. flat below (past eq x (kids k)) ++ k ∷ ys) (upward_enough eq kids up (suc N) o N (Some k) (ap (climb up N) (sym e) ∙ all_ends x))
        where
          go : (b : Bool) → eq x o ≡ b → cond b [] (later eq kids (suc N) x (up x) ++ put_first (up x) (upward eq kids up (suc N) o N (up x))) ≡ later eq kids
              (suc N) x (up x) ++ put_first (up x) (upward eq kids up (suc N) o N (up x))
          go true f = absurd (n (t.sound x o f))
          go false f = refl

      -- without children an object comes alone
      pub from_leaf : (x : O) → kids x ≡ [] → below x ++ rest x ≡ x ∷ rest x
      from_leaf x e = ap (λ ys. ys ++ rest x) (opened x) ∙ ap (λ ys. (flat below ys ++ x ∷ []) ++ rest x) e

      -- an object begins with its first child
      pub from_first : (x c : O) → slice_get (kids x) 0 ≡ Some c → c ≢ o → below x ++ rest x ≡ below c ++ rest c
      from_first x c e n = go (kids x) refl
        where
          go : (ys : List O) → kids x ≡ ys → below x ++ rest x ≡ below c ++ rest c
          go [] f = absurd (let k = ap (λ ys. slice_get ys 0) f in cc)
          go (y ∷ ys) f =
              let same : y ≡ c = some_eq (sym (ap (λ ys. slice_get ys 0) f) ∙ e) in
              let after_c : past eq c (kids x) ≡ ys = ap (past eq c) f ∙ past_here c y ys same in
              ap (λ zs. zs ++ rest x) (opened x) ∙ ap (λ zs. (flat below zs ++ x ∷ []) ++ rest x) f
              ∙ ap (λ z. ((below z ++ flat below ys) ++ x ∷ []) ++ rest x) same
              ∙ append_assoc (below c ++ flat below ys) (x ∷ []) (rest x) ∙ append_assoc (below c) (flat below ys) (x ∷ rest x)
              ∙ ap (λ zs. below c ++ zs) (ap (λ zs. flat below zs ++ x ∷ rest x) (sym after_c) ∙ sym (rest_up c x n (s.down x 0 c e)))

      -- after a child comes what comes in the next one
      pub from_next : (x k d : O) (i : ℕ) → x ≢ o → d ≢ o → slice_get (kids k) i ≡ Some x → slice_get (kids k) (suc i) ≡ Some d → rest x ≡ below d ++ rest d
      from_next x k d i n m e f =
          rest_up x k n (s.down k i x e) ∙ ap (λ ys. flat below ys ++ k ∷ rest k) (past_next x d (kids k) i e f (λ a b z u v. s.once k a b z u v))
          ∙ append_assoc (below d) (flat below (past eq d (kids k))) (k ∷ rest k) ∙ ap (λ ys. below d ++ ys) (sym (rest_up d k m (s.down k (suc i) d f)))

      -- after the last child comes its parent
      pub from_last : (x k : O) (i : ℕ) → x ≢ o → slice_get (kids k) i ≡ Some x → slice_get (kids k) (suc i) ≡ None → rest x ≡ k ∷ rest k
      from_last x k i n e f =
          rest_up x k n (s.down k i x e) ∙ ap (λ ys. flat below ys ++ k ∷ rest k) (past_last x (kids k) i e f (λ a b z u v. s.once k a b z u v))
