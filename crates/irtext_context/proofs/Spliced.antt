-- Look-up, insertion and removal in a list with one more item.
use Rattle.std.specs.Prelude.{◌≡◌, ℕ, zero, suc, ◌+◌, ◌<◌, ◌≤◌, Bool, true, false, cond, if◌then◌else◌, nat_lt, not, List, [], ◌∷◌, length, Option, Some, None, slice_get, position, refl}
use Rattle.std.specs.Map.{lookup, remove_entry, keys_of}
use Rattle.std.specs.List.{position_or_len}
use Rattle.std.proofs.Common.{ap, sym, ◌∙◌, subst, arith}
use Rattle.std.proofs.lemmas.Bool.{ltb-true}
use Rattle.indexmap.specs.IndexMap.{insert_entry}
use Rattle.std.proofs.lemmas.Option.{cond_some}
use Rattle.irtext_context.specs.Dictionary.{spliced, closed_up, IsAbsent, IsFirstAt}

abbrev some_here : {X : Type 0} → Option X → Type 0
some_here None = ⊥
some_here (Some _) = Unit {0}

none_is_some : {X : Type 0} {x : X} → None ≡ Some x → ⊥
none_is_some {X} {x} e = subst some_here (sym e) tt

module _ {K V : Type 0} (t : K → Bool) where
  pub absent_from_none : (es : List (K × V)) → lookup t es ≡ None → IsAbsent t es
  absent_from_none [] n = tt
  absent_from_none (x ∷ xs) n = go (t x.0) refl n (absent_from_none xs)
    where
      go : (b : Bool) → t x.0 ≡ b → cond b (Some x.1) (lookup t xs) ≡ None → (lookup t xs ≡ None → IsAbsent t xs) → IsAbsent t (x ∷ xs)
      go true p q deeper = absurd (none_is_some (sym q))
      go false p q deeper = (p, deeper q)

  pub lookup-absent : (es : List (K × V)) → IsAbsent t es → lookup t es ≡ None
  lookup-absent [] h = refl
  lookup-absent (x ∷ xs) h = ap (λ b. cond b (Some x.1) (lookup t xs)) h.0 ∙ lookup-absent xs h.1

  pub remove-absent : (es : List (K × V)) → IsAbsent t es → remove_entry t es ≡ es
  remove-absent [] h = refl
  remove-absent (x ∷ xs) h = ap (λ b. cond b xs (x ∷ remove_entry t xs)) h.0 ∙ ap (λ l. x ∷ l) (remove-absent xs h.1)

  pub lookup-spliced-hit : (i : ℕ) (e : K × V) (es : List (K × V)) → t e.0 ≡ true → IsAbsent t es → lookup t (spliced i e es) ≡ Some e.1
  lookup-spliced-hit zero e es h n = ap (λ b. cond b (Some e.1) (lookup t es)) h
  lookup-spliced-hit (suc i) e [] h n = ap (λ b. cond b (Some e.1) None) h
  lookup-spliced-hit (suc i) e (x ∷ xs) h n = ap (λ b. cond b (Some x.1) (lookup t (spliced i e xs))) n.0 ∙ lookup-spliced-hit i e xs h n.1

  pub lookup-spliced-miss : (i : ℕ) (e : K × V) (es : List (K × V)) → t e.0 ≡ false → lookup t (spliced i e es) ≡ lookup t es
  lookup-spliced-miss zero e es h = ap (λ b. cond b (Some e.1) (lookup t es)) h
  lookup-spliced-miss (suc i) e [] h = ap (λ b. cond b (Some e.1) None) h
  lookup-spliced-miss (suc i) e (x ∷ xs) h = ap (λ r. cond (t x.0) (Some x.1) r) (lookup-spliced-miss i e xs h)

  pub remove-spliced-hit : (i : ℕ) (e : K × V) (es : List (K × V)) → t e.0 ≡ true → IsAbsent t es → remove_entry t (spliced i e es) ≡ es
  remove-spliced-hit zero e es h n = ap (λ b. cond b es (e ∷ remove_entry t es)) h
  remove-spliced-hit (suc i) e [] h n = ap (λ b. cond b [] (e ∷ [])) h
  remove-spliced-hit (suc i) e (x ∷ xs) h n =
      ap (λ b. cond b (spliced i e xs) (x ∷ remove_entry t (spliced i e xs))) n.0 ∙ ap (λ l. x ∷ l) (remove-spliced-hit i e xs h n.1)

  pub remove-spliced-absent : (i : ℕ) (e : K × V) (es : List (K × V)) → t e.0 ≡ false → IsAbsent t es → remove_entry t (spliced i e es) ≡ spliced i e es
  remove-spliced-absent zero e es h n = ap (λ b. cond b es (e ∷ remove_entry t es)) h ∙ ap (λ l. e ∷ l) (remove-absent es n)
  remove-spliced-absent (suc i) e [] h n = ap (λ b. cond b [] (e ∷ [])) h
  remove-spliced-absent (suc i) e (x ∷ xs) h n =
      ap (λ b. cond b (spliced i e xs) (x ∷ remove_entry t (spliced i e xs))) n.0 ∙ ap (λ l. x ∷ l) (remove-spliced-absent i e xs h n.1)

  pub remove-spliced-at : (p i : ℕ) (e : K × V) (es : List (K × V)) → t e.0 ≡ false → IsFirstAt t es p → spliced (closed_up p i) e (remove_entry t es) ≡ remove_entry t (spliced i e es)
  remove-spliced-at p i e [] h f = absurd f
  remove-spliced-at p zero e (x ∷ xs) h f = sym (ap (λ b. cond b (x ∷ xs) (e ∷ remove_entry t (x ∷ xs))) h)
  remove-spliced-at zero (suc i) e (x ∷ xs) h f =
      ap (λ b. spliced i e (cond b xs (x ∷ remove_entry t xs))) f ∙ sym (ap (λ b. cond b (spliced i e xs) (x ∷ remove_entry t (spliced i e xs))) f)
  remove-spliced-at (suc p) (suc i) e (x ∷ xs) h f =
      ap (λ b. spliced (suc (closed_up p i)) e (cond b xs (x ∷ remove_entry t xs))) f.0
      ∙ ap (λ l. x ∷ l) (remove-spliced-at p i e xs h f.1)
      ∙ sym (ap (λ b. cond b (spliced i e xs) (x ∷ remove_entry t (spliced i e xs))) f.0)

  pub closed_up-within : (p i : ℕ) (es : List (K × V)) → IsFirstAt t es p → i ≤ length es → closed_up p i ≤ length (remove_entry t es)
  closed_up-within p i [] f w = absurd f
  closed_up-within p zero (x ∷ xs) f w = omega arith
  closed_up-within zero (suc i) (x ∷ xs) f w = subst (λ b. i ≤ length (cond b xs (x ∷ remove_entry t xs))) (sym f) (omega (arith, w))
  closed_up-within (suc p) (suc i) (x ∷ xs) f w =
      let deeper : closed_up p i ≤ length (remove_entry t xs) = closed_up-within p i xs f.1 (omega (arith, w)) in
      subst (λ b. suc (closed_up p i) ≤ length (cond b xs (x ∷ remove_entry t xs))) (sym f.0) (omega (arith, deeper))

  pub absent-removed : (q : K → Bool) (es : List (K × V)) → IsAbsent q es → IsAbsent q (remove_entry t es)
  absent-removed q [] h = tt
  absent-removed q (x ∷ xs) h = go (t x.0) (absent-removed q xs h.1)
    where
      go : (b : Bool) → IsAbsent q (remove_entry t xs) → IsAbsent q (cond b xs (x ∷ remove_entry t xs))
      go true deeper = h.1
      go false deeper = (h.0, deeper)

module _ {K V : Type 0} (t : K → Bool) where
  first : (es : List (K × V)) → position_or_len t (keys_of es) < length (keys_of es) → IsFirstAt t es (position_or_len t (keys_of es))
  first [] h = absurd (omega (arith, h))
  first (x ∷ xs) h = go (t x.0) refl h (first xs)
    where
      go : (b : Bool) → t x.0 ≡ b → cond (not b) (1 + position_or_len t (keys_of xs)) 0 < suc (length (keys_of xs)) → (position_or_len t (keys_of xs) < length (keys_of xs) → IsFirstAt t xs (position_or_len t (keys_of xs))) → IsFirstAt t (x ∷ xs) (cond (not b) (1 + position_or_len t (keys_of xs)) 0)
      go true p l deeper = p
      go false p l deeper =
          let one : suc (position_or_len t (keys_of xs)) ≡ 1 + position_or_len t (keys_of xs) = omega arith in
          subst (IsFirstAt t (x ∷ xs)) one (p, deeper (omega (arith, l)))

  pub first_at : (es : List (K × V)) (i : ℕ) → position t (keys_of es) ≡ Some i → IsFirstAt t es i
  first_at es i e =
      let both = cond_some (nat_lt (position_or_len t (keys_of es)) (length (keys_of es))) (position_or_len t (keys_of es)) i e in
      subst (IsFirstAt t es) both.1 (first es (ltb-true _ _ both.0))

module _ {K V : Type 0} (eq : K → K → Bool) where
  pub insert-spliced-hit : (k : K) (v : V) (i : ℕ) (e : K × V) (es : List (K × V)) → eq k e.0 ≡ true → IsAbsent (eq k) es → spliced i (e.0, v) es ≡ insert_entry eq (spliced i e es) k v
  insert-spliced-hit k v zero e es h n = sym (ap (λ b. if b then (e.0, v) ∷ es else e ∷ insert_entry eq es k v) h)
  insert-spliced-hit k v (suc i) e [] h n = sym (ap (λ b. if b then (e.0, v) ∷ [] else e ∷ insert_entry eq [] k v) h)
  insert-spliced-hit k v (suc i) e (x ∷ xs) h n =
      ap (λ l. x ∷ l) (insert-spliced-hit k v i e xs h n.1)
      ∙ sym (ap (λ b. if b then (x.0, v) ∷ spliced i e xs else x ∷ insert_entry eq (spliced i e xs) k v) n.0)

  pub insert-spliced-miss : (k : K) (v : V) (i : ℕ) (e : K × V) (es : List (K × V)) → eq k e.0 ≡ false → i ≤ length es → spliced i e (insert_entry eq es k v) ≡ insert_entry eq (spliced i e es) k v
  insert-spliced-miss k v zero e es h w = sym (ap (λ b. if b then (e.0, v) ∷ es else e ∷ insert_entry eq es k v) h)
  insert-spliced-miss k v (suc i) e [] h w = absurd (omega (arith, w))
  insert-spliced-miss k v (suc i) e (x ∷ xs) h w = go (eq k x.0) (insert-spliced-miss k v i e xs h (omega (arith, w)))
    where
      go : (b : Bool) → spliced i e (insert_entry eq xs k v) ≡ insert_entry eq (spliced i e xs) k v → spliced (suc i) e (if b then (x.0, v) ∷ xs else x ∷ insert_entry eq xs k v) ≡ (if b then (x.0, v) ∷ spliced i e xs else x ∷ insert_entry eq (spliced i e xs) k v)
      go true deeper = refl
      go false deeper = ap (λ l. x ∷ l) deeper

  pub insert-absent : (k : K) (v : V) (es : List (K × V)) → IsAbsent (eq k) es → spliced (length es) (k, v) es ≡ insert_entry eq es k v
  insert-absent k v [] n = refl
  insert-absent k v (x ∷ xs) n = ap (λ l. x ∷ l) (insert-absent k v xs n.1) ∙ sym (ap (λ b. if b then (x.0, v) ∷ xs else x ∷ insert_entry eq xs k v) n.0)

  pub insert-longer : (k : K) (v : V) (i : ℕ) (es : List (K × V)) → i ≤ length es → i ≤ length (insert_entry eq es k v)
  insert-longer k v i [] w = omega (arith, w)
  insert-longer k v zero (x ∷ xs) w = omega arith
  insert-longer k v (suc i) (x ∷ xs) w = go (eq k x.0) (insert-longer k v i xs (omega (arith, w)))
    where
      go : (b : Bool) → i ≤ length (insert_entry eq xs k v) → suc i ≤ length (if b then (x.0, v) ∷ xs else x ∷ insert_entry eq xs k v)
      go true deeper = w
      go false deeper = omega (arith, deeper)

  pub absent-inserted : (q : K → Bool) (k : K) (v : V) (es : List (K × V)) → q k ≡ false → IsAbsent q es → IsAbsent q (insert_entry eq es k v)
  absent-inserted q k v [] h n = (h, tt)
  absent-inserted q k v (x ∷ xs) h n = go (eq k x.0) (absent-inserted q k v xs h n.1)
    where
      go : (b : Bool) → IsAbsent q (insert_entry eq xs k v) → IsAbsent q (if b then (x.0, v) ∷ xs else x ∷ insert_entry eq xs k v)
      go true deeper = (n.0, n.1)
      go false deeper = (n.0, deeper)

module _ {X : Type 0} where
  pub length_spliced : (i : ℕ) (e : X) (xs : List X) → length (spliced i e xs) ≡ length xs + 1
  length_spliced zero e xs = omega arith
  length_spliced (suc i) e [] = refl
  length_spliced (suc i) e (x ∷ xs) = ap suc (length_spliced i e xs) ∙ omega arith

  pub get-spliced-at : (i : ℕ) (e : X) (xs : List X) → i ≤ length xs → slice_get (spliced i e xs) i ≡ Some e
  get-spliced-at zero e xs w = refl
  get-spliced-at (suc i) e [] w = absurd (omega (arith, w))
  get-spliced-at (suc i) e (x ∷ xs) w = get-spliced-at i e xs (omega (arith, w))

  pub get-spliced-before : (j i : ℕ) (e : X) (xs : List X) → i ≤ length xs → j < i → slice_get (spliced i e xs) j ≡ slice_get xs j
  get-spliced-before j zero e xs w h = absurd (omega (arith, h))
  get-spliced-before j (suc i) e [] w h = absurd (omega (arith, w))
  get-spliced-before zero (suc i) e (x ∷ xs) w h = refl
  get-spliced-before (suc j) (suc i) e (x ∷ xs) w h = get-spliced-before j i e xs (omega (arith, w)) (omega (arith, h))

  pub get-spliced-after : (j i : ℕ) (e : X) (xs : List X) → i ≤ j → slice_get (spliced i e xs) (suc j) ≡ slice_get xs j
  get-spliced-after j zero e xs h = refl
  get-spliced-after j (suc i) e [] h = refl
  get-spliced-after zero (suc i) e (x ∷ xs) h = absurd (omega (arith, h))
  get-spliced-after (suc j) (suc i) e (x ∷ xs) h = get-spliced-after j i e xs (omega (arith, h))
