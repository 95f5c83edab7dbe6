-- What is looked for as it is tested whether an operation fits its format, as the code goes through its parts.
use Rattle.std.proofs.Common.{◌≡◌, ◌∙◌, ◌&&◌, not, Bool, true, false, cond, List, [], ◌∷◌, refl, sym, ap, Option, Some, is_some, is_none}
use denote.Ref.{Bor}
use Rattle.std.specs.List.{find, list_all}
use Rattle.std.specs.Option.{option_map}
use Rattle.irtext_base.specs.Text.{Text}
use Rattle.irtext_base.specs.Format.{Directive, keys}
use Rattle.irtext_base.specs.declared.base.attributes.AttrObj.{AttrObj}
use Rattle.irtext_context.specs.Dialects.{Known, known_of}
use Rattle.irtext_context.specs.declared.dialect.OpInfo.{OpInfo}
use Rattle.irtext_grammar.specs.Contexts.Held.{attribute_of, entries_of}
use Rattle.irtext_grammar.specs.Grammar.Tree.{Attribute}
use Rattle.irtext_grammar.specs.Graphs.Graph.{lookup}
use Rattle.irtext_print.specs.Printers.FitFaults.{first_key, missing_key}
use Rattle.irtext_print.specs.Printers.PrintedOperation.{has_named_keys}

-- not true is false, and not false is true
pub not_not : (b : Bool) → not (not b) ≡ b
not_not true = refl
not_not false = refl

-- nothing is found where all values pass the other test
found_none : {X : Type 0} (fails passes : X → Bool) → ((x : X) → not (fails x) ≡ passes x) → (xs : List X) → list_all passes xs ≡ is_none (find fails xs)
found_none fails passes h [] = refl
found_none fails passes h (x ∷ xs) = ap (λ b. b && list_all passes xs) (sym (h x)) ∙ go (fails x) (found_none fails passes h xs)
  where
    go : (b : Bool) → list_all passes xs ≡ is_none (find fails xs) → (not b && list_all passes xs) ≡ is_none (cond b (Some x) (find fails xs))
    go true e = refl
    go false e = e

-- the same of the keys of entries
pub key_none : {X : Type 0} (fails passes : Text × X → Bool) → ((e : Text × X) → not (fails e) ≡ passes e) → (es : List (Text × X)) → list_all passes es ≡ is_none (first_key fails es)
key_none fails passes h [] = refl
key_none fails passes h (e ∷ es) = ap (λ b. b && list_all passes es) (sym (h e)) ∙ go (fails e) (key_none fails passes h es)
  where
    go : (b : Bool) → list_all passes es ≡ is_none (first_key fails es) → (not b && list_all passes es) ≡ is_none (cond b (Some e.0) (first_key fails es))
    go true q = refl
    go false q = q

-- the format of what is known of an operation, where that is found
pub format_found : {o : Option Known} {found info : Option (Bor OpInfo)} → option_map (λ (i : Bor OpInfo). known_of i.now) found ≡ o → found ≡ info
    → option_map (λ (known : Known). known.format) o ≡ option_map (λ (known : Known). known.format) (option_map (λ (i : Bor OpInfo). known_of i.now) info)
format_found f e = ap (option_map (λ (known : Known). known.format)) (sym f ∙ ap (option_map (λ (i : Bor OpInfo). known_of i.now)) e)

module _ {A : Type 0} (es : List (Text × Attribute A)) where
  -- whether the keys that are named are there
  pub named_by : (ds : List Directive) (found : Option Text) → missing_key es ds ≡ found → has_named_keys es ds ≡ is_none found
  named_by ds found h = found_none (λ k. not (is_some (lookup k es))) (λ k. is_some (lookup k es)) (λ k. not_not (is_some (lookup k es))) (keys ds) ∙ ap is_none h

module _ {A : Type 0} (test : Text × Attribute A → Bool) (key : Text) (attr : AttrObj A) (es left : List (Text × AttrObj A)) (all : Option Text) (is : left ≡ (key, attr) ∷ es) (h : first_key test (entries_of left) ≡ all) where
  at_first : (b : Bool) → test (key, attribute_of attr) ≡ b → cond b (Some key) (first_key test (entries_of es)) ≡ all
  at_first b e = ap (λ b. cond b (Some key) (first_key test (entries_of es))) (sym e) ∙ ap (λ z. first_key test (entries_of z)) (sym is) ∙ h

  -- the first of these entries passes the test
  pub key_found : test (key, attribute_of attr) ≡ true → Some key ≡ all
  key_found e = at_first true e

  -- the first of these entries does not
  pub key_later : test (key, attribute_of attr) ≡ false → first_key test (entries_of es) ≡ all
  key_later e = at_first false e
