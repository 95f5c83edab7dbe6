-- Lists with the same members.
use Rattle.std.proofs.Common.{◌≡◌, List, [], ◌∷◌, ◌++◌, map, refl, sym, ap, subst, ◌⊎◌, inl, inr, ⊎_elim}
use Rattle.irtext_grammar.specs.Names.Placeholders.{In}

-- a member of the first list is one of both joined
pub in_left : {A : Type 0} (x : A) (xs ys : List A) → In x xs → In x (xs ++ ys)
in_left x [] ys h = absurd h
in_left x (y ∷ xs) ys (inl e) = inl e
in_left x (y ∷ xs) ys (inr h) = inr (in_left x xs ys h)

-- a member of the second list is one of both joined
pub in_right : {A : Type 0} (x : A) (xs ys : List A) → In x ys → In x (xs ++ ys)
in_right x [] ys h = h
in_right x (y ∷ xs) ys h = inr (in_right x xs ys h)

-- a member of two lists joined is one of the first or of the second
pub in_split : {A : Type 0} (x : A) (xs ys : List A) → In x (xs ++ ys) → In x xs ⊎ In x ys
in_split x [] ys h = inr h
in_split x (y ∷ xs) ys (inl e) = inl (inl e)
in_split x (y ∷ xs) ys (inr h) = ⊎_elim (λ k. inl (inr k)) (λ k. inr k) (in_split x xs ys h)

-- the image of a member is a member of the images
pub in_map : {A B : Type 0} (g : A → B) (x : A) (xs : List A) → In x xs → In (g x) (map g xs)
in_map g x [] h = absurd h
in_map g x (y ∷ xs) (inl e) = inl (ap g e)
in_map g x (y ∷ xs) (inr h) = inr (in_map g x xs h)

-- a member of the images is the image of a member
pub in_mapped : {A B : Type 0} (g : A → B) (y : B) (xs : List A) → In y (map g xs) → (x : A) × In x xs × (y ≡ g x)
in_mapped g y [] h = absurd h
in_mapped g y (x ∷ xs) (inl e) = (x, inl refl, e)
in_mapped g y (x ∷ xs) (inr h) = let k = in_mapped g y xs h in (k.0, inr k.1, k.2)

-- the lists have the same members
pub record Same {A : Type 0} (xs ys : List A) : Type 0 where
  pub into : (x : A) → In x xs → In x ys
  pub back : (x : A) → In x ys → In x xs

-- a list has the members of itself
pub same_refl : {A : Type 0} (xs : List A) → Same xs xs
same_refl xs = record { into = λ x h. h; back = λ x h. h }

-- equal lists have the same members
pub same_path : {A : Type 0} (xs ys : List A) → xs ≡ ys → Same xs ys
same_path xs ys e = subst (Same xs) e (same_refl xs)

-- one after the other
pub same_then : {A : Type 0} {xs ys zs : List A} → Same xs ys → Same ys zs → Same xs zs
same_then p q = record { into = λ x h. q.into x (p.into x h); back = λ x h. p.back x (q.back x h) }

-- the other direction
pub same_flip : {A : Type 0} {xs ys : List A} → Same xs ys → Same ys xs
same_flip p = record { into = p.back; back = p.into }

-- lists joined have the same members where their parts do
pub same_both : {A : Type 0} {xs ys us vs : List A} → Same xs us → Same ys vs → Same (xs ++ ys) (us ++ vs)
same_both {xs = xs} {ys = ys} {us = us} {vs = vs} p q = record {
  into = λ x h. ⊎_elim (λ k. in_left x us vs (p.into x k)) (λ k. in_right x us vs (q.into x k)) (in_split x xs ys h);
  back = λ x h. ⊎_elim (λ k. in_left x xs ys (p.back x k)) (λ k. in_right x xs ys (q.back x k)) (in_split x us vs h);
}

-- their images are the same, too
pub same_map : {A B : Type 0} (g : A → B) {xs ys : List A} → Same xs ys → Same (map g xs) (map g ys)
same_map g {xs = xs} {ys = ys} p = record {
  into = λ y h. let k = in_mapped g y xs h in subst (λ z. In z (map g ys)) (sym k.2) (in_map g k.0 ys (p.into k.0 k.1));
  back = λ y h. let k = in_mapped g y ys h in subst (λ z. In z (map g xs)) (sym k.2) (in_map g k.0 xs (p.back k.0 k.1));
}

-- the order of two lists that are joined says nothing
pub same_swap : {A : Type 0} (xs ys : List A) → Same (xs ++ ys) (ys ++ xs)
same_swap xs ys = record {
  into = λ x h. ⊎_elim (λ k. in_right x ys xs k) (λ k. in_left x ys xs k) (in_split x xs ys h);
  back = λ x h. ⊎_elim (λ k. in_right x xs ys k) (λ k. in_left x xs ys k) (in_split x ys xs h);
}
