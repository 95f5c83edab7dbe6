-- Entries that are searched one after the other: look-up, insertion and removal at a place, and keys that differ.
use Rattle.std.specs.Prelude.{◌≡◌, ℕ, zero, suc, ◌≤◌, Bool, true, false, cond, if◌then◌else◌, not, ◌&&◌, ◌||◌, List, [], ◌∷◌, ◌++◌, length, Some, None, Result, Ok, Err, OnOk, OnErr, slice_index_or, slice_set, position, remove, refl}
use Rattle.std.specs.Map.{lookup, remove_entry, keys_of}
use Rattle.std.specs.Str.{bytes_eq}
use Rattle.std.specs.Cmp.Lexicographic.{nat_list_eq_equiv}
use Rattle.std.proofs.Common.{ap, ap₂, sym, ◌∙◌, subst, arith, true≢false}
use Rattle.indexmap.specs.IndexMap.{insert_entry, insert_all}
use Rattle.indexmap.proofs.MapLemmas.{Missing-position}
use Rattle.irtext_base.proofs.Characters.{and_left, and_right}
use Rattle.irtext_context.proofs.Spliced.{absent_from_none}
use Rattle.irtext_context.specs.Dictionary.{IsAbsent, IsFirstAt}
use Rattle.irtext_base.specs.Format.{distinct, has}
use Rattle.irtext_base.specs.Text.{Text}

module _ {K V : Type 0} (t : K → Bool) where
  -- if no key has a place, no key passes the test
  pub absent_from_place : (es : List (K × V)) → position t (keys_of es) ≡ None → IsAbsent t es
  absent_from_place es e = absent_from_none t es (Missing-position t es e).value

  -- it is what a look-up finds
  pub lookup-first : (es : List (K × V)) (i : ℕ) (d : K × V) → IsFirstAt t es i → lookup t es ≡ Some (slice_index_or es i d).1
  lookup-first [] i d h = absurd h
  lookup-first (x ∷ xs) zero d h = ap (λ b. cond b (Some x.1) (lookup t xs)) h
  lookup-first (x ∷ xs) (suc i) d h = ap (λ b. cond b (Some x.1) (lookup t xs)) h.0 ∙ lookup-first xs i d h.1

  -- and what a removal takes out
  pub remove-first : (es : List (K × V)) (i : ℕ) → IsFirstAt t es i → remove_entry t es ≡ remove es i
  remove-first [] i h = absurd h
  remove-first (x ∷ xs) zero h = ap (λ b. cond b xs (x ∷ remove_entry t xs)) h
  remove-first (x ∷ xs) (suc i) h = ap (λ b. cond b xs (x ∷ remove_entry t xs)) h.0 ∙ ap (λ l. x ∷ l) (remove-first xs i h.1)

  -- a removal leaves no more
  pub length-removed : (es : List (K × V)) → length (remove_entry t es) ≤ length es
  length-removed [] = omega arith
  length-removed (x ∷ xs) = go (t x.0) (length-removed xs)
    where
      go : (b : Bool) → length (remove_entry t xs) ≤ length xs → length (cond b xs (x ∷ remove_entry t xs)) ≤ suc (length xs)
      go true h = omega arith
      go false h = omega (arith, h)

module _ {K V : Type 0} (eq : K → K → Bool) (k : K) (v : V) where
  -- a key that is there keeps its place, and takes the value
  pub insert-first : (es : List (K × V)) (i : ℕ) (d : K × V) → IsFirstAt (eq k) es i → slice_set es i ((slice_index_or es i d).0, v) ≡ insert_entry eq es k v
  insert-first [] i d h = absurd h
  insert-first (x ∷ xs) zero d h = sym (ap (λ b. if b then (x.0, v) ∷ xs else x ∷ insert_entry eq xs k v) h)
  insert-first (x ∷ xs) (suc i) d h =
      ap (λ l. x ∷ l) (insert-first xs i d h.1) ∙ sym (ap (λ b. if b then (x.0, v) ∷ xs else x ∷ insert_entry eq xs k v) h.0)

  -- another key is put last
  pub insert-last : (es : List (K × V)) → IsAbsent (eq k) es → es ++ (k, v) ∷ [] ≡ insert_entry eq es k v
  insert-last [] h = refl
  insert-last (x ∷ xs) h = ap (λ l. x ∷ l) (insert-last xs h.1) ∙ sym (ap (λ b. if b then (x.0, v) ∷ xs else x ∷ insert_entry eq xs k v) h.0)

not_had : (b : Bool) → not b ≡ true → b ≡ false
not_had true e = absurd (true≢false (sym e))
not_had false e = refl

module _ {V : Type 0} where
  has_inserted : (q k : Text) (v : V) (es : List (Text × V)) → bytes_eq q k ≡ false → has bytes_eq q (keys_of (insert_entry bytes_eq es k v)) ≡ has bytes_eq q (keys_of es)
  has_inserted q k v [] h = ap (λ b. b || false) h
  has_inserted q k v (x ∷ xs) h = go (bytes_eq k x.0) (has_inserted q k v xs h)
    where
      go : (b : Bool) → has bytes_eq q (keys_of (insert_entry bytes_eq xs k v)) ≡ has bytes_eq q (keys_of xs) → has bytes_eq q (keys_of (if b then (x.0, v) ∷ xs else x ∷ insert_entry bytes_eq xs k v)) ≡ has bytes_eq q (keys_of (x ∷ xs))
      go true e = refl
      go false e = ap (λ b. bytes_eq q x.0 || b) e

  -- keys that differ do so with one more put in
  pub distinct_inserted : (k : Text) (v : V) (es : List (Text × V)) → distinct bytes_eq (keys_of es) ≡ true → distinct bytes_eq (keys_of (insert_entry bytes_eq es k v)) ≡ true
  distinct_inserted k v [] h = refl
  distinct_inserted k v (x ∷ xs) h = go (bytes_eq k x.0) refl (distinct_inserted k v xs later)
    where
      later : distinct bytes_eq (keys_of xs) ≡ true
      later = and_right (not (has bytes_eq x.0 (keys_of xs))) (distinct bytes_eq (keys_of xs)) h

      go : (b : Bool) → bytes_eq k x.0 ≡ b → distinct bytes_eq (keys_of (insert_entry bytes_eq xs k v)) ≡ true → distinct bytes_eq (keys_of (if b then (x.0, v) ∷ xs else x ∷ insert_entry bytes_eq xs k v)) ≡ true
      go true p d = h
      go false p d =
          ap₂ (λ a b. not a && b) (has_inserted x.0 k v xs (nat_list_eq_equiv.symm x.0 k ∙ p)) (d ∙ sym later) ∙ h

  -- and with one for which memory is allocated
  pub differ_after : {X E : Type 0} (r : Result X E) (k : Text) (v : V) (old new : List (Text × V)) → distinct bytes_eq (keys_of old) ≡ true → OnOk r (new ≡ insert_entry bytes_eq old k v) → OnErr r (new ≡ old) → distinct bytes_eq (keys_of new) ≡ true
  differ_after (Ok x) k v old new h ok err = subst (λ es. distinct bytes_eq (keys_of es) ≡ true) (sym ok) (distinct_inserted k v old h)
  differ_after (Err e) k v old new h ok err = subst (λ es. distinct bytes_eq (keys_of es) ≡ true) (sym err) h

  has_removed : (t : Text → Bool) (q : Text) (es : List (Text × V)) → has bytes_eq q (keys_of es) ≡ false → has bytes_eq q (keys_of (remove_entry t es)) ≡ false
  has_removed t q [] h = h
  has_removed t q (x ∷ xs) h = by (bytes_eq q x.0) refl (t x.0) h (has_removed t q xs)
    where
      by : (a : Bool) → bytes_eq q x.0 ≡ a → (b : Bool) → (a || has bytes_eq q (keys_of xs)) ≡ false → (has bytes_eq q (keys_of xs) ≡ false → has bytes_eq q (keys_of (remove_entry t xs)) ≡ false) → has bytes_eq q (keys_of (cond b xs (x ∷ remove_entry t xs))) ≡ false
      by true p b e deeper = absurd (true≢false e)
      by false p true e deeper = e
      by false p false e deeper = ap (λ a. a || has bytes_eq q (keys_of (remove_entry t xs))) p ∙ deeper e

  -- and with one taken out
  pub distinct_removed : (t : Text → Bool) (es : List (Text × V)) → distinct bytes_eq (keys_of es) ≡ true → distinct bytes_eq (keys_of (remove_entry t es)) ≡ true
  distinct_removed t [] h = h
  distinct_removed t (x ∷ xs) h = go (t x.0) (distinct_removed t xs later)
    where
      later : distinct bytes_eq (keys_of xs) ≡ true
      later = and_right (not (has bytes_eq x.0 (keys_of xs))) (distinct bytes_eq (keys_of xs)) h

      first : has bytes_eq x.0 (keys_of xs) ≡ false
      first = not_had _ (and_left (not (has bytes_eq x.0 (keys_of xs))) (distinct bytes_eq (keys_of xs)) h)

      go : (b : Bool) → distinct bytes_eq (keys_of (remove_entry t xs)) ≡ true → distinct bytes_eq (keys_of (cond b xs (x ∷ remove_entry t xs))) ≡ true
      go true d = later
      go false d = ap₂ (λ a b. not a && b) (has_removed t x.0 xs first) d

  has_later : (k : Text) (es fs : List (Text × V)) (e : Text × V) → has bytes_eq k (keys_of (es ++ e ∷ fs)) ≡ false → bytes_eq k e.0 ≡ false
  has_later k [] fs e h = go (bytes_eq k e.0) h
    where
      go : (b : Bool) → (b || has bytes_eq k (keys_of fs)) ≡ false → b ≡ false
      go true h = h
      go false h = refl
  has_later k (x ∷ xs) fs e h = has_later k xs fs e (go (bytes_eq k x.0) h)
    where
      go : (b : Bool) → (b || has bytes_eq k (keys_of (xs ++ e ∷ fs))) ≡ false → has bytes_eq k (keys_of (xs ++ e ∷ fs)) ≡ false
      go true h = absurd (true≢false h)
      go false h = h

  -- a key that a list of keys that differ has later is not among those before it
  absent_before : (es fs : List (Text × V)) (e : Text × V) → distinct bytes_eq (keys_of (es ++ e ∷ fs)) ≡ true → IsAbsent (bytes_eq e.0) es
  absent_before [] fs e h = tt
  absent_before (x ∷ xs) fs e h =
      let all = keys_of (xs ++ e ∷ fs) in (
        nat_list_eq_equiv.symm e.0 x.0 ∙ has_later x.0 xs fs e (not_had _ (and_left (not (has bytes_eq x.0 all)) (distinct bytes_eq all) h)),
        absent_before xs fs e (and_right (not (has bytes_eq x.0 all)) (distinct bytes_eq all) h),
      )

  one_more : (es fs : List (Text × V)) (e : Text × V) → (es ++ e ∷ []) ++ fs ≡ es ++ e ∷ fs
  one_more [] fs e = refl
  one_more (x ∷ xs) fs e = ap (λ l. x ∷ l) (one_more xs fs e)

  none_more : (es : List (Text × V)) → es ++ [] ≡ es
  none_more [] = refl
  none_more (x ∷ xs) = ap (λ l. x ∷ l) (none_more xs)

  put_after : (es fs : List (Text × V)) → distinct bytes_eq (keys_of (es ++ fs)) ≡ true → insert_all bytes_eq es fs ≡ es ++ fs
  put_after es [] h = sym (none_more es)
  put_after es (e ∷ fs) h =
      let last = insert-last bytes_eq e.0 e.1 es (absent_before es fs e h) in
      ap (λ l. insert_all bytes_eq l fs) (sym last)
      ∙ put_after (es ++ e ∷ []) fs (ap (λ l. distinct bytes_eq (keys_of l)) (one_more es fs e) ∙ h)
      ∙ one_more es fs e

  -- entries whose keys differ, put in one after the other, are those entries
  pub all_put : (es : List (Text × V)) → distinct bytes_eq (keys_of es) ≡ true → insert_all bytes_eq [] es ≡ es
  all_put es h = put_after [] es h
