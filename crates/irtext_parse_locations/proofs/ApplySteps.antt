-- Steps of what is put where it belongs.
use Rattle.std.proofs.Common.{◌≡◌, ℕ, Bool, true, false, ◌==◌, List, [], ◌∷◌, ◌++◌, length, Option, refl, ap, arith, Result, Ok, Err, OnOk, OnErr, sym, true≢false}
use Rattle.std.proofs.lemmas.Bool.Decides.{nat_tests}
use Rattle.irtext_base.specs.Text.{Text}
use Rattle.irtext_base.specs.Format.{same_text, block_label_key}
use Rattle.irtext_base.specs.declared.base.attributes.AttrObj.{AttrObj}
use Rattle.irtext_grammar.specs.Graphs.Build.{put, put_all}
use Rattle.irtext_grammar.specs.Grammar.Tree.{Attribute}
use Rattle.irtext_grammar.specs.declared.parsed.Key.{Key}
use Rattle.irtext_parse_locations.specs.Applied.{all_stored, no_label, label_in}
use Rattle.irtext_parse_locations.specs.declared.said.GivenAttr.{GivenAttr}
use Rattle.std.specs.Result.{is_err}

-- some are put, and then others
pub put_both : {V : Type 0} (es ds fs : List (Text × V)) → put_all es (ds ++ fs) ≡ put_all (put_all es ds) fs
put_both es [] fs = refl
put_both es (d ∷ ds) fs = put_both (put d es) ds fs

module _ {A : Type 0} where
  -- all but labels of two lists
  pub no_label_both : (xs ys : List (Text × Attribute A)) → no_label (xs ++ ys) ≡ no_label xs ++ no_label ys
  no_label_both [] ys = refl
  no_label_both (x ∷ xs) ys = go (same_text x.0 block_label_key) refl (no_label_both xs ys)
    where
      go : (b : Bool) → same_text x.0 block_label_key ≡ b → no_label (xs ++ ys) ≡ no_label xs ++ no_label ys → no_label (x ∷ xs ++ ys) ≡ no_label (x ∷ xs) ++ no_label ys
      go true e h = rw e h
      go false e h = rw e (ap (λ z. x ∷ z) h)

  -- the label that two lists give
  pub label_both : (l : Option Text) (xs ys : List (Text × Attribute A)) → label_in l (xs ++ ys) ≡ label_in (label_in l xs) ys
  label_both l [] ys = refl
  label_both l (x ∷ xs) ys = label_both (label_in l (x ∷ [])) xs ys

-- none is no more than nothing
pub no_length : (n : ℕ) → (n == 0) ≡ true → n ≡ 0
no_length n e = grind (arith, nat_tests)

-- no pairs put nothing
pub none_stored : {A : Type 0} (es : List (Text × Attribute A)) (once : List (ℕ × AttrObj A)) (pairs : List (Key × GivenAttr A)) → length pairs ≡ 0 → es ≡ put_all es (all_stored once pairs)
none_stored es once [] e = refl
none_stored es once (p ∷ pairs) e = absurd (omega (arith, e))

-- what a call promises if it returned no error
pub unless_err : {X E P : Type 0} (r : Result X E) → is_err r ≡ false → OnOk r P → P
unless_err (Ok x) e h = h
unless_err (Err y) e h = absurd (true≢false e)

-- what a call promises if it returned an error
pub where_err : {X E P : Type 0} (r : Result X E) → is_err r ≡ true → OnErr r P → P
where_err (Ok x) e h = absurd (true≢false (sym e))
where_err (Err y) e h = h
