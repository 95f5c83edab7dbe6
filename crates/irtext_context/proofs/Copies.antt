-- What a copy of a dictionary without its outlined attributes is, and that it is a dictionary.
use Rattle.std.specs.Prelude.{◌≡◌, Bool, true, false, cond, not, ◌&&◌, ◌||◌, List, [], ◌∷◌, filter, refl}
use Rattle.std.specs.List.{list_all}
use Rattle.std.specs.Map.{keys_of}
use Rattle.std.specs.Str.{bytes_eq}
use Rattle.std.proofs.Common.{ap, ap₂, sym, ◌∙◌, true≢false}
use Rattle.indexmap.specs.IndexMap.{insert_all}
use Rattle.irtext_base.proofs.Characters.{and_left, and_right}
use Rattle.irtext_base.specs.Format.{distinct, has, given_names_key}
use Rattle.irtext_base.specs.Text.{Text}
use Rattle.irtext_base.specs.declared.base.attributes.AttrObj.{AttrObj}
use Rattle.irtext_base.specs.declared.base.attributes.AttrObj.TheVariants.{GivenNames, Ident, Own}
use Rattle.irtext_context.proofs.FewEntries.{all_put}
use Rattle.irtext_context.specs.Dictionary.{IsAbsent, are_given_names, is_reserved_for, is_outlined, without_outlined}

module _ {V : Type 0} (p : Text × V → Bool) where
  -- a key that entries do not have, fewer of them do not have
  has_fewer : (k : Text) (es : List (Text × V)) → not (has bytes_eq k (keys_of es)) ≡ true → not (has bytes_eq k (keys_of (filter p es))) ≡ true
  has_fewer k [] h = refl
  has_fewer k (x ∷ xs) h = go (bytes_eq k x.0) refl (p x) h (has_fewer k xs)
    where
      go : (a : Bool) → bytes_eq k x.0 ≡ a → (b : Bool) → not (a || has bytes_eq k (keys_of xs)) ≡ true → (not (has bytes_eq k (keys_of xs)) ≡ true → not (has bytes_eq k (keys_of (filter p xs))) ≡ true) → not (has bytes_eq k (keys_of (cond b (x ∷ filter p xs) (filter p xs)))) ≡ true
      go true e b h deeper = absurd (true≢false (sym h))
      go false e true h deeper = ap (λ a. not (a || has bytes_eq k (keys_of (filter p xs)))) e ∙ deeper h
      go false e false h deeper = deeper h

  -- keys that differ do so among fewer entries
  pub distinct_fewer : (es : List (Text × V)) → distinct bytes_eq (keys_of es) ≡ true → distinct bytes_eq (keys_of (filter p es)) ≡ true
  distinct_fewer [] h = refl
  distinct_fewer (x ∷ xs) h = go (p x) (distinct_fewer xs (and_right (not (has bytes_eq x.0 (keys_of xs))) (distinct bytes_eq (keys_of xs)) h))
    where
      go : (b : Bool) → distinct bytes_eq (keys_of (filter p xs)) ≡ true → distinct bytes_eq (keys_of (cond b (x ∷ filter p xs) (filter p xs))) ≡ true
      go true d = ap₂ ◌&&◌ (has_fewer x.0 xs (and_left (not (has bytes_eq x.0 (keys_of xs))) (distinct bytes_eq (keys_of xs)) h)) d
      go false d = d

module _ {A : Type 0} (q : A → Bool) where
  -- the reserved key is not among what is copied, since only given names are under it
  pub none_reserved : (es : List (Text × AttrObj A)) → list_all (λ e. not (is_reserved_for e.0 e.1)) es ≡ true → IsAbsent (bytes_eq given_names_key) (without_outlined q es)
  none_reserved [] h = tt
  none_reserved (x ∷ xs) h = go (is_outlined q x.1) refl (none_reserved xs (and_right (not (is_reserved_for x.0 x.1)) (list_all (λ e. not (is_reserved_for e.0 e.1)) xs) h))
    where
      other : (a : AttrObj A) → is_outlined q a ≡ false → are_given_names a ≡ false
      other (GivenNames names) e = e
      other (Ident n) e = refl
      other (Own a) e = refl

      free : (b : Bool) → not (b && true) ≡ true → b ≡ false
      free true e = absurd (true≢false (sym e))
      free false e = refl

      first : is_outlined q x.1 ≡ false → bytes_eq given_names_key x.0 ≡ false
      first e =
          free (bytes_eq given_names_key x.0)
          (ap (λ b. not (bytes_eq given_names_key x.0 && not b)) (sym (other x.1 e)) ∙ and_left (not (is_reserved_for x.0 x.1)) (list_all (λ e. not (is_reserved_for e.0 e.1)) xs) h)

      go : (b : Bool) → is_outlined q x.1 ≡ b → IsAbsent (bytes_eq given_names_key) (without_outlined q xs) → IsAbsent (bytes_eq given_names_key) (cond (not b) (x ∷ without_outlined q xs) (without_outlined q xs))
      go true e deeper = deeper
      go false e deeper = (first e, deeper)

  -- all of them are copied
  pub all_copied : (es left new : List (Text × AttrObj A)) → left ≡ [] → distinct bytes_eq (keys_of es) ≡ true → insert_all bytes_eq new (without_outlined q left) ≡ insert_all bytes_eq [] (without_outlined q es) → new ≡ without_outlined q es
  all_copied es left new e d h =
      ap (λ l. insert_all bytes_eq new (without_outlined q l)) (sym e)
      ∙ h
      ∙ all_put (without_outlined q es) (distinct_fewer (λ e. not (is_outlined q e.1)) es d)
