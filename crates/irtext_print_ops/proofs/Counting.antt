-- What is counted of directives in one pass, and the tests of it.
use Rattle.std.proofs.Common.{◌≡◌, ◌<◌, ◌≤◌, ◌∙◌, ◌+◌, ◌||◌, ◌==◌, ◌^◌, nat_lt, ℕ, suc, arith, not, drop, Bool, true, false, cond, List, [], ◌∷◌, refl, sym, ap, subst, Option, Some, None, is_none, is_some, length, filter_map, true≢false}
use Rattle.std.specs.List.{cons_option, find, list_any}
use Rattle.irtext_base.specs.Format as format
use Rattle.irtext_base.specs.Format.{Directive, count, keys, operand_places, successor_places, type_places, region_places, is_operands, is_successors, is_regions, is_dictionary, is_header}
use Rattle.irtext_base.specs.Text.{Text}
use Rattle.irtext_grammar.specs.Grammar.Tree.{Attribute}
use Rattle.irtext_grammar.specs.Graphs.Graph.{lookup}
use Rattle.irtext_print.specs.Printers.FitFaults.{missing_key}
use Rattle.irtext_print.specs.Printers.PrintedOperation.{symbol_fits, has_symbol}
use Rattle.irtext_print.proofs.Printers.FitsTests.{any_count}
use Rattle.irtext_print_ops.specs.Fits.{counts_fit, counted, counted_on, places_of, no_places, AreFew, first_failed, tests, uncovered_key}
use Rattle.irtext_print_ops.specs.declared.fits.Counts.{Counts}
use Rattle.irtext_print_ops.specs.declared.fits.Places.{Places}

-- ---- numbers

-- what one directive adds
operands_step : (p : Places) (d : Directive) → (counted p d).operands ≡ cond (is_some (elim d [ format.operand i ↦ Some i | _ ↦ None ])) (p.operands + 1) p.operands
operands_step p d = elim d as (λ d. (counted p d).operands ≡ cond (is_some (elim d [ format.operand i ↦ Some i | _ ↦ None ])) (p.operands + 1) p.operands) [ format.word s ↦ refl | _ ↦ refl ]

successors_step : (p : Places) (d : Directive) → (counted p d).successors ≡ cond (is_some (elim d [ format.successor i ↦ Some i | _ ↦ None ])) (p.successors + 1) p.successors
successors_step p d = elim d as (λ d. (counted p d).successors ≡ cond (is_some (elim d [ format.successor i ↦ Some i | _ ↦ None ])) (p.successors + 1) p.successors) [ format.word s ↦ refl | _ ↦ refl ]

types_step : (p : Places) (d : Directive) → (counted p d).types ≡ cond (is_some (elim d [ format.result_type i ↦ Some i | _ ↦ None ])) (p.types + 1) p.types
types_step p d = elim d as (λ d. (counted p d).types ≡ cond (is_some (elim d [ format.result_type i ↦ Some i | _ ↦ None ])) (p.types + 1) p.types) [ format.word s ↦ refl | _ ↦ refl ]

regions_step : (p : Places) (d : Directive) → (counted p d).regions ≡ cond (is_some (elim d [ format.region i ↦ Some i | _ ↦ None ])) (p.regions + 1) p.regions
regions_step p d = elim d as (λ d. (counted p d).regions ≡ cond (is_some (elim d [ format.region i ↦ Some i | _ ↦ None ])) (p.regions + 1) p.regions) [ format.word s ↦ refl | _ ↦ refl ]

-- a number that one kind of directive adds one to
module _ (number : Places → ℕ) (named : Directive → Option ℕ) (step : (p : Places) (d : Directive) → number (counted p d) ≡ cond (is_some (named d)) (number p + 1) (number p)) where
  all_on : (ds : List Directive) (p : Places) → number (counted_on p ds) ≡ number p + length (filter_map named ds)
  all_on [] p = omega arith
  all_on (d ∷ ds) p = all_on ds (counted p d) ∙ ap (λ n. n + length (filter_map named ds)) (step p d) ∙ go (named d)
    where
      go : (o : Option ℕ) → cond (is_some o) (number p + 1) (number p) + length (filter_map named ds) ≡ number p + length (cons_option o (filter_map named ds))
      go None = refl
      go (Some i) =
          let one : (number p + 1) + length (filter_map named ds) ≡ number p + suc (length (filter_map named ds)) = omega arith in
          one

  -- it counts all of that kind
  counts_all : number no_places ≡ 0 → (ds : List Directive) → number (places_of ds) ≡ length (filter_map named ds)
  counts_all z ds =
      let all : number (places_of ds) ≡ number no_places + length (filter_map named ds) = all_on ds no_places in
      omega (arith, all, z)

-- so much was counted of each at most
pub record AtMost (n : ℕ) (p : Places) : Type 0 where
  pub operands : p.operands ≤ n
  pub successors : p.successors ≤ n
  pub types : p.types ≤ n
  pub regions : p.regions ≤ n

-- nothing was counted at first
pub at_first : AtMost 0 no_places
at_first =
    let none : 0 ≤ 0 = omega arith in
    record { operands = none; successors = none; types = none; regions = none }

-- one directive adds one at most
pub one_more : (n : ℕ) (p : Places) (d : Directive) → AtMost n p → AtMost (n + 1) (counted p d)
one_more n p d h = record {
  operands = more_by (λ q. q.operands) (λ d. elim d [ format.operand i ↦ Some i | _ ↦ None ]) (operands_step p d) h.operands;
  successors = more_by (λ q. q.successors) (λ d. elim d [ format.successor i ↦ Some i | _ ↦ None ]) (successors_step p d) h.successors;
  types = more_by (λ q. q.types) (λ d. elim d [ format.result_type i ↦ Some i | _ ↦ None ]) (types_step p d) h.types;
  regions = more_by (λ q. q.regions) (λ d. elim d [ format.region i ↦ Some i | _ ↦ None ]) (regions_step p d) h.regions;
}
  where
    more_by : (number : Places → ℕ) (named : Directive → Option ℕ) → number (counted p d) ≡ cond (is_some (named d)) (number p + 1) (number p) → number p ≤ n → number (counted p d) ≤ n + 1
    more_by number named e k = subst (λ m. m ≤ n + 1) (sym e) (go (named d))
      where
        go : (o : Option ℕ) → cond (is_some o) (number p + 1) (number p) ≤ n + 1
        go None =
            let still : number p ≤ n + 1 = omega (arith, k) in
            still
        go (Some i) =
            let more : number p + 1 ≤ n + 1 = omega (arith, k) in
            more

-- fewer than what fits were counted
pub few : (n size : ℕ) (p : Places) → AtMost n p → n < size → size < 2 ^ 64 → AreFew p
few n size p h before small = record {
  operands = omega (arith, h.operands, before, small);
  successors = omega (arith, h.successors, before, small);
  types = omega (arith, h.types, before, small);
  regions = omega (arith, h.regions, before, small);
}

-- ---- tests

-- a test that one kind of directive passes
module _ (flag : Places → Bool) (test : Directive → Bool) (step : (p : Places) (d : Directive) → flag (counted p d) ≡ cond (test d) true (flag p)) where
  any_on : (ds : List Directive) (p : Places) → flag (counted_on p ds) ≡ (flag p || list_any test ds)
  any_on [] p = go (flag p)
    where
      go : (b : Bool) → b ≡ (b || false)
      go true = refl
      go false = refl
  any_on (d ∷ ds) p = any_on ds (counted p d) ∙ ap (λ b. b || list_any test ds) (step p d) ∙ go (test d) (flag p)
    where
      go : (b c : Bool) → (cond b true c || list_any test ds) ≡ (c || (b || list_any test ds))
      go true true = refl
      go true false = refl
      go false true = refl
      go false false = refl

  -- whether one of that kind is there
  any : flag no_places ≡ false → (ds : List Directive) → flag (places_of ds) ≡ list_any test ds
  any z ds = any_on ds no_places ∙ ap (λ b. b || list_any test ds) z

  -- the same, as they are counted
  any_counted : flag no_places ≡ false → (ds : List Directive) → flag (places_of ds) ≡ not (count test ds == 0)
  any_counted z ds = any z ds ∙ any_count test ds

-- the directive names a key
abbrev pub names_key : Directive → Bool
names_key d = elim d [ format.attribute k ↦ true | _ ↦ false ]

-- no key is named where no directive names one
no_keys : (ds : List Directive) → list_any names_key ds ≡ false → keys ds ≡ []
no_keys [] e = refl
no_keys (format.word s ∷ ds) e = no_keys ds e
no_keys (format.operand i ∷ ds) e = no_keys ds e
no_keys (format.operands ∷ ds) e = no_keys ds e
no_keys (format.successor i ∷ ds) e = no_keys ds e
no_keys (format.successors ∷ ds) e = no_keys ds e
no_keys (format.attribute k ∷ ds) e = absurd (true≢false e)
no_keys (format.dictionary ∷ ds) e = no_keys ds e
no_keys (format.result_type i ∷ ds) e = no_keys ds e
no_keys (format.region i ∷ ds) e = no_keys ds e
no_keys (format.regions ∷ ds) e = no_keys ds e
no_keys (format.header ∷ ds) e = no_keys ds e

-- so none is missing
pub none_missing : {A : Type 0} (es : List (Text × Attribute A)) (ds : List Directive) → (places_of ds).keys ≡ false → missing_key es ds ≡ None
none_missing es ds e =
    let none : list_any names_key ds ≡ false = sym (any (λ p. p.keys) names_key (λ p d. elim d as (λ d. (counted p d).keys ≡ cond (names_key d) true p.keys) [ format.word s ↦ refl | _ ↦ refl ]) refl ds) ∙ e in
    ap (λ ks. find (λ k. not (is_some (lookup k es))) ks) (no_keys ds none)

-- whether the dictionary is written
pub dictionary_counted : (ds : List Directive) → (places_of ds).dictionary ≡ not (count is_dictionary ds == 0)
dictionary_counted ds = any_counted (λ p. p.dictionary) is_dictionary (λ p d. elim d as (λ d. (counted p d).dictionary ≡ cond (is_dictionary d) true p.dictionary) [ format.word s ↦ refl | _ ↦ refl ]) refl ds

-- no attribute is unwritten where it is
pub none_uncovered : (ds : List Directive) (found : Option Text) → (places_of ds).dictionary ≡ true → None ≡ cond (count is_dictionary ds == 0) found None
none_uncovered ds found e = go (count is_dictionary ds == 0) (sym (dictionary_counted ds) ∙ e)
  where
    go : (b : Bool) → not b ≡ true → None ≡ cond b found None
    go true h = absurd (true≢false (sym h))
    go false h = refl

-- the first that is unwritten else
pub some_uncovered : (ds : List Directive) (found : Option Text) → (places_of ds).dictionary ≡ false → found ≡ cond (count is_dictionary ds == 0) found None
some_uncovered ds found e = go (count is_dictionary ds == 0) (sym (dictionary_counted ds) ∙ e)
  where
    go : (b : Bool) → not b ≡ false → found ≡ cond b found None
    go true h = refl
    go false h = absurd (true≢false h)

-- ---- what the code tests

-- parts are written by places of their own and by a list
listed : (places lists n code_places : ℕ) (all result : Bool) → code_places ≡ places → all ≡ not (lists == 0) → result ≡ cond all (not (nat_lt n code_places)) (n == code_places) → counts_fit places lists n ≡ result
listed places lists n code_places all result p q r =
    sym (r ∙ ap (λ k. cond all (not (nat_lt n k)) (n == k)) p ∙ ap (λ b. cond b (not (nat_lt n places)) (n == places)) q ∙ go (lists == 0))
  where
    go : (b : Bool) → cond (not b) (not (nat_lt n places)) (n == places) ≡ cond b (n == places) (not (nat_lt n places))
    go true = refl
    go false = refl

-- the symbol is there, where a directive writes it
symbol_tested : {A : Type 0} (es : List (Text × Attribute A)) (ds : List Directive) (p : Places) (result : Bool) → p ≡ places_of ds → result ≡ (not p.header || has_symbol es) → symbol_fits es ds ≡ result
symbol_tested es ds p result e r =
    sym (r ∙ ap (λ b. not b || has_symbol es) (ap (λ q. q.header) e ∙ any_counted (λ q. q.header) is_header (λ q d. elim d as (λ d. (counted q d).header ≡ cond (is_header d) true q.header) [ format.word s ↦ refl | _ ↦ refl ]) refl ds) ∙ go (count is_header ds == 0))
  where
    go : (b : Bool) → (not (not b) || has_symbol es) ≡ (b || has_symbol es)
    go true = refl
    go false = refl

-- the first test that fails after this many
abbrev pub first_from : {A : Type 0} → (A → Bool) → List Directive → Counts → List (Text × Attribute A) → ℕ → Option ℕ
first_from is_outlined ds counts es k = first_failed (suc k) (drop k (tests is_outlined ds counts es))

-- The code's tests of what was counted are those of the definitions: the first that fails is one of these, or one after it.
pub record Tested {A : Type 0} (is_outlined : A → Bool) (ds : List Directive) (counts : Counts) (es : List (Text × Attribute A)) (p : Places) : Type 0 where
  pub operands : {b : Bool} → b ≡ cond p.all_operands (not (nat_lt counts.operands p.operands)) (counts.operands == p.operands) → first_from is_outlined ds counts es 0 ≡ cond b (first_from is_outlined ds counts es 1) (Some 1)
  pub successors : {b : Bool} → b ≡ cond p.all_successors (not (nat_lt counts.successors p.successors)) (counts.successors == p.successors) → first_from is_outlined ds counts es 1 ≡ cond b (first_from is_outlined ds counts es 2) (Some 2)
  pub results : {b : Bool} → b ≡ cond false (not (nat_lt counts.results p.types)) (counts.results == p.types) → first_from is_outlined ds counts es 2 ≡ cond b (first_from is_outlined ds counts es 3) (Some 3)
  pub regions : {b : Bool} → b ≡ cond p.all_regions (not (nat_lt counts.regions p.regions)) (counts.regions == p.regions) → first_from is_outlined ds counts es 3 ≡ cond b (first_from is_outlined ds counts es 4) (Some 4)
  pub missing : {o : Option Text} → o ≡ missing_key es ds → first_from is_outlined ds counts es 4 ≡ cond (is_none o) (first_from is_outlined ds counts es 5) (Some 5)
  pub symbol : {b : Bool} → b ≡ (not p.header || has_symbol es) → first_from is_outlined ds counts es 5 ≡ cond b (first_from is_outlined ds counts es 6) (Some 6)
  pub uncovered : {o : Option Text} → o ≡ uncovered_key is_outlined ds es → first_from is_outlined ds counts es 6 ≡ cond (is_none o) None (Some 7)

module _ {A : Type 0} (is_outlined : A → Bool) (ds : List Directive) (counts : Counts) (es : List (Text × Attribute A)) (p : Places) (e : p ≡ places_of ds) where
  abbrev after : ℕ → Option ℕ
  after k = first_from is_outlined ds counts es k

  pub tested : Tested is_outlined ds counts es p
  tested = record {
    operands = λ {b} r. ap (λ x. cond x (after 1) (Some 1)) (listed (length (operand_places ds)) (count is_operands ds) counts.operands p.operands p.all_operands b
        (ap (λ q. q.operands) e ∙ counts_all (λ q. q.operands) (λ d. elim d [ format.operand i ↦ Some i | _ ↦ None ]) operands_step refl ds)
        (ap (λ q. q.all_operands) e ∙ any_counted (λ q. q.all_operands) is_operands (λ q d. elim d as (λ d. (counted q d).all_operands ≡ cond (is_operands d) true q.all_operands) [ format.word s ↦ refl | _ ↦ refl ]) refl ds) r);
    successors = λ {b} r. ap (λ x. cond x (after 2) (Some 2)) (listed (length (successor_places ds)) (count is_successors ds) counts.successors p.successors p.all_successors b
        (ap (λ q. q.successors) e ∙ counts_all (λ q. q.successors) (λ d. elim d [ format.successor i ↦ Some i | _ ↦ None ]) successors_step refl ds)
        (ap (λ q. q.all_successors) e ∙ any_counted (λ q. q.all_successors) is_successors (λ q d. elim d as (λ d. (counted q d).all_successors ≡ cond (is_successors d) true q.all_successors) [ format.word s ↦ refl | _ ↦ refl ]) refl ds) r);
    results = λ {b} r. ap (λ x. cond x (after 3) (Some 3)) (sym (r ∙ ap (λ k. counts.results == k)
        (ap (λ q. q.types) e ∙ counts_all (λ q. q.types) (λ d. elim d [ format.result_type i ↦ Some i | _ ↦ None ]) types_step refl ds)));
    regions = λ {b} r. ap (λ x. cond x (after 4) (Some 4)) (listed (length (region_places ds)) (count is_regions ds) counts.regions p.regions p.all_regions b
        (ap (λ q. q.regions) e ∙ counts_all (λ q. q.regions) (λ d. elim d [ format.region i ↦ Some i | _ ↦ None ]) regions_step refl ds)
        (ap (λ q. q.all_regions) e ∙ any_counted (λ q. q.all_regions) is_regions (λ q d. elim d as (λ d. (counted q d).all_regions ≡ cond (is_regions d) true q.all_regions) [ format.word s ↦ refl | _ ↦ refl ]) refl ds) r);
    missing = λ r. ap (λ o. cond (is_none o) (after 5) (Some 5)) (sym r);
    symbol = λ {b} r. ap (λ x. cond x (after 6) (Some 6)) (symbol_tested es ds p b e r);
    uncovered = λ r. ap (λ o. cond (is_none o) None (Some 7)) (sym r);
  }
