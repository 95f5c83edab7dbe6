-- Copies of dictionaries: entries are put in one after another, where no key occurs twice.
use Rattle.std.proofs.Common.{◌≡◌, ◌∙◌, Bool, true, false, not, cond, ◌||◌, List, [], ◌∷◌, ◌++◌, map, refl, sym, ap, true≢false}
use Rattle.std.specs.Map.{keys_of}
use Rattle.std.specs.Str.{bytes_eq}
use Rattle.irtext_base.specs.Text.{Text}
use Rattle.irtext_base.specs.Format.{same_text, has, distinct}
use Rattle.irtext_base.specs.declared.base.attributes.AttrObj.{AttrObj}
use Rattle.irtext_grammar.specs.Contexts.Held.{entries_of}
use Rattle.irtext_grammar.specs.Graphs.Build.{put, put_all}
use Rattle.irtext_grammar.specs.Grammar.Tree.{Attribute}
use Rattle.irtext_grammar.proofs.Graphs.FitsFormat.{and_left, and_right}
use Rattle.irtext_grammar.proofs.Lists.SameText.{same_text-bytes_eq, same_text_eq, other_text}

-- ---- entries in a row
-- no entry is under the key
abbrev NoneIs : {V : Type 0} → Text → List (Text × V) → Type 0
NoneIs k [] = Unit {0}
NoneIs k (d ∷ ds) = (same_text k d.0 ≡ false) × NoneIs k ds

put_last : {V : Type 0} (e : Text × V) (ds : List (Text × V)) → NoneIs e.0 ds → put e ds ≡ ds ++ e ∷ []
put_last e [] n = refl
put_last e (d ∷ ds) (n, ns) = ap (λ b. cond b (e ∷ ds) (d ∷ put e ds)) n ∙ ap (λ z. d ∷ z) (put_last e ds ns)

or_left : (a b : Bool) → (a || b) ≡ false → a ≡ false
or_left false b e = refl
or_left true b e = absurd (true≢false e)

or_right : (a b : Bool) → (a || b) ≡ false → b ≡ false
or_right false b e = e
or_right true b e = absurd (true≢false e)

not_true : (b : Bool) → not b ≡ true → b ≡ false
not_true false e = refl
not_true true e = absurd (true≢false (sym e))

-- what none of a row is, none in the middle of it is
middle_other : (x k : Text) (xs ks : List Text) → has bytes_eq x (xs ++ k ∷ ks) ≡ false → bytes_eq x k ≡ false
middle_other x k [] ks e = or_left (bytes_eq x k) (has bytes_eq x ks) e
middle_other x k (y ∷ xs) ks e = middle_other x k xs ks (or_right (bytes_eq x y) (has bytes_eq x (xs ++ k ∷ ks)) e)

turned : (x k : Text) → bytes_eq x k ≡ false → same_text k x ≡ false
turned x k n = other_text k x (λ e. true≢false (sym (same_text_eq x k (sym e)) ∙ (same_text-bytes_eq x k ∙ n)))

none_before : {V : Type 0} (done : List (Text × V)) (k : Text) (ks : List Text) → distinct bytes_eq (map (λ e. e.0) done ++ k ∷ ks) ≡ true → NoneIs k done
none_before [] k ks e = tt
none_before (d ∷ ds) k ks e =
    let rest = map (λ e. e.0) ds ++ k ∷ ks in
    let first = not_true (has bytes_eq d.0 rest) (and_left (not (has bytes_eq d.0 rest)) (distinct bytes_eq rest) e) in
    (turned d.0 k (middle_other d.0 k (map (λ e. e.0) ds) ks first), none_before ds k ks (and_right (not (has bytes_eq d.0 rest)) (distinct bytes_eq rest) e))

keys_joined : {V : Type 0} (xs ys : List (Text × V)) → map (λ e. e.0) (xs ++ ys) ≡ map (λ e. e.0) xs ++ map (λ e. e.0) ys
keys_joined [] ys = refl
keys_joined (x ∷ xs) ys = ap (λ z. x.0 ∷ z) (keys_joined xs ys)

keys_seen : {A : Type 0} (es : List (Text × AttrObj A)) → map (λ e. e.0) (entries_of es) ≡ keys_of es
keys_seen [] = refl
keys_seen (e ∷ es) = ap (λ z. e.0 ∷ z) (keys_seen es)

module _ {A : Type 0} (all : List (Text × AttrObj A)) (differ : distinct bytes_eq (keys_of all) ≡ true) where
  -- one entry more is copied
  pub copied_more : (done more left : List (Text × Attribute A)) (e : Text × Attribute A) → done ++ e ∷ left ≡ entries_of all → more ≡ put_all done (e ∷ []) → more ++ left ≡ entries_of all
  copied_more done more left e is put_in =
      let keys : map (λ (e : Text × Attribute A). e.0) done ++ e.0 ∷ map (λ (e : Text × Attribute A). e.0) left ≡ keys_of all
      = sym (keys_joined done (e ∷ left)) ∙ (ap (map (λ (e : Text × Attribute A). e.0)) is ∙ keys_seen all) in
      let none = none_before done e.0 (map (λ (e : Text × Attribute A). e.0) left) (ap (distinct bytes_eq) keys ∙ differ) in
      ap (λ z. z ++ left) (put_in ∙ put_last e done none) ∙ (joined done ∙ is)
    where
      joined : (xs : List (Text × Attribute A)) → (xs ++ e ∷ []) ++ left ≡ xs ++ e ∷ left
      joined [] = refl
      joined (x ∷ xs) = ap (λ z. x ∷ z) (joined xs)
