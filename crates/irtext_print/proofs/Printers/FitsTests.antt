-- What the tests of formats and of attributes say, in the words of the definitions.
use Rattle.std.proofs.Common.{◌≡◌, ◌∙◌, suc, ◌==◌, ◌||◌, ◌++◌, not, Bool, true, false, cond, ℕ, List, [], ◌∷◌, refl, sym, ap, arith}
use Rattle.std.proofs.lemmas.Bool.Decides.{nat_tests}
use Rattle.std.specs.List.{list_any}
use Rattle.irtext_base.specs.Text.{Text}
use Rattle.irtext_base.specs.Format as format
use Rattle.irtext_base.specs.Format.{Directive, count, keys, has, same_text, is_header, sym_name_key}
use Rattle.irtext_grammar.specs.Graphs.Graph.{Printing, written_keys}
use Rattle.irtext_print.specs.Printers.PieceText.{is_key_written}

-- what is counted once is not 0
pub counted : (n : ℕ) → (suc n == 0) ≡ false
counted n = grind (arith, nat_tests)

-- one directive passes where some are counted
pub any_count : (test : Directive → Bool) (ds : List Directive) → list_any test ds ≡ not (count test ds == 0)
any_count test [] = refl
any_count test (d ∷ ds) = go (test d) (any_count test ds)
  where
    go : (b : Bool) → list_any test ds ≡ not (count test ds == 0) → (b || list_any test ds) ≡ not (cond b (suc (count test ds)) (count test ds) == 0)
    go true h = sym (ap not (counted (count test ds)))
    go false h = h

-- a key is in the one list or in the other
has_append : (key : Text) (xs ys : List Text) → has same_text key (xs ++ ys) ≡ (has same_text key xs || has same_text key ys)
has_append key [] ys = refl
has_append key (x ∷ xs) ys = ap (λ b. same_text key x || b) (has_append key xs ys) ∙ or_or (same_text key x) (has same_text key xs) (has same_text key ys)
  where
    or_or : (a b c : Bool) → (a || (b || c)) ≡ ((a || b) || c)
    or_or true b c = refl
    or_or false b c = refl

-- the symbol's key, where directives write it
abbrev symbol_key : List Directive → List Text
symbol_key ds = cond (count is_header ds == 0) [] (sym_name_key ∷ [])

-- the keys that directives write are those that one of them writes
key_written : (key : Text) (ds : List Directive) → (has same_text key (keys ds) || has same_text key (symbol_key ds)) ≡ is_key_written key ds
key_written key [] = refl
key_written key (format.word s ∷ ds) = key_written key ds
key_written key (format.operand i ∷ ds) = key_written key ds
key_written key (format.operands ∷ ds) = key_written key ds
key_written key (format.successor i ∷ ds) = key_written key ds
key_written key (format.successors ∷ ds) = key_written key ds
key_written key (format.attribute k ∷ ds) = go (same_text key k) (key_written key ds)
  where
    go : (b : Bool) → (has same_text key (keys ds) || has same_text key (symbol_key ds)) ≡ is_key_written key ds
        → ((b || has same_text key (keys ds)) || has same_text key (symbol_key ds)) ≡ (b || is_key_written key ds)
    go true h = refl
    go false h = h
key_written key (format.dictionary ∷ ds) = key_written key ds
key_written key (format.result_type i ∷ ds) = key_written key ds
key_written key (format.region i ∷ ds) = key_written key ds
key_written key (format.regions ∷ ds) = key_written key ds
key_written key (format.header ∷ ds) = ap (λ c. has same_text key (keys ds) || has same_text key (cond c [] (sym_name_key ∷ []))) (counted (count is_header ds)) ∙ go (same_text key sym_name_key) refl (count is_header ds == 0) (has same_text key (keys ds)) (is_key_written key ds) (key_written key ds)
  where
    go : (b : Bool) → same_text key sym_name_key ≡ b → (c a w : Bool) → (a || has same_text key (cond c [] (sym_name_key ∷ []))) ≡ w → (a || (b || false)) ≡ (b || w)
    go true e c true w h = refl
    go true e c false w h = refl
    go false e true a w h = h
    go false e false a w h = sym (ap (λ b. a || (b || false)) e) ∙ h

-- the same of all keys that are written
pub written_key : {T A : Type 0} (C : Printing T A) (key : Text) (ds : List Directive) → has same_text key (written_keys C ds) ≡ is_key_written key ds
written_key C key ds = has_append key (keys ds) (symbol_key ds) ∙ key_written key ds
