-- Whether an operation fits its format: the tests of the code, and what the definitions ask.
use Rattle.std.proofs.Common.{◌≡◌, ◌≤◌, ◌∙◌, ◌+◌, ◌||◌, ◌==◌, ℕ, zero, suc, arith, drop, not, Bool, true, false, cond, List, [], ◌∷◌, refl, sym, ap, subst, Option, Some, None, IsSome, IfSome, Result, Ok, Err, OnOk, IfErr, is_none, map, length, slice_get, filter_map, option_map}
use Rattle.std.proofs.lemmas.Option.{none-some}
use Rattle.std.specs.List.{list_all, cons_option}
use Rattle.std.specs.Option.{option_and_then}
use Rattle.irtext_base.specs.Format as format
use Rattle.irtext_base.specs.Format.{Directive, Id, count, has, same_text, operand_places, successor_places, type_places, is_operands, is_successors, is_dictionary, first_fault}
use Rattle.irtext_base.specs.Text.{Text}
use Rattle.irtext_grammar.specs.Contexts.Held.{known_types}
use Rattle.irtext_grammar.specs.Grammar.Tree.{Attribute}
use Rattle.irtext_grammar.specs.Graphs.Closed.{FitsCustom, FitsFormat}
use Rattle.irtext_grammar.specs.Graphs.Graph.{GraphOp, Printing, outlined, written_keys}
use Rattle.irtext_print.specs.Printers.FitFaults.{missing_key}
use Rattle.irtext_print.proofs.Printers.FitFaults.{not_not, key_none, named_by}
use Rattle.irtext_print.proofs.Printers.FitsTests.{written_key}
use Rattle.irtext_print_ops.specs.Fits.{first_failed, number_of, refused_by, is_covered, first_uncovered, uncovered_key, tests, Names, counts_of, first_reason, NamesIn, FitsOwn, IsFirstReason}
use Rattle.irtext_print_ops.specs.declared.fits.Counts.{Counts}
use Rattle.irtext_print_ops.specs.declared.fits.FitFault.{FitFault}
use Rattle.irtext_print_ops.specs.declared.fits.FitFault.TheVariants as fault
use Rattle.irtext_print_ops.proofs.ListTexts.{none_left}

-- ---- the first test that fails

-- a test that passes, and those after it
record Passing (b : Bool) (others : Type 0) : Type 0 where
  is : b ≡ true
  rest : others

-- all tests pass
abbrev AllPass : List Bool → Type 0
AllPass [] = Unit {0}
AllPass (b ∷ bs) = Passing b (AllPass bs)

none_failed : (k : ℕ) (bs : List Bool) → first_failed k bs ≡ None → AllPass bs
none_failed k [] e = tt
none_failed k (b ∷ bs) e = go b refl e (none_failed (suc k) bs)
  where
    go : (c : Bool) → b ≡ c → cond c (first_failed (suc k) bs) (Some k) ≡ None → (first_failed (suc k) bs ≡ None → AllPass bs) → Passing b (AllPass bs)
    go true i e others = record { is = i; rest = others e }
    go false i e others = absurd (none-some k (sym e))

all_pass : (k : ℕ) (bs : List Bool) → AllPass bs → first_failed k bs ≡ None
all_pass k [] h = refl
all_pass k (b ∷ bs) h = ap (λ c. cond c (first_failed (suc k) bs) (Some k)) h.is ∙ all_pass (suc k) bs h.rest

-- a test that passed is not the first that fails, and one that failed is
pub passes : {b : Bool} {all found : Option ℕ} (others mine : Option ℕ) → all ≡ cond b others mine → b ≡ true → found ≡ others → found ≡ all
passes others mine e is h = h ∙ sym (e ∙ ap (λ c. cond c others mine) is)

pub fails : {b : Bool} {all : Option ℕ} (others mine : Option ℕ) → all ≡ cond b others mine → b ≡ false → mine ≡ all
fails others mine e is = sym (e ∙ ap (λ c. cond c others mine) is)

-- ---- what the definitions ask

module _ {T A : Type 0} (C : Printing T A) (isolated : Id → Bool) (ds : List Directive) (o : GraphOp T A) (n : ℕ) where
  -- all attributes are written if none is found that is not
  covered : (not (count is_dictionary ds == 0) || list_all (λ e. has same_text e.0 (written_keys C ds) || outlined C e.1) o.attributes) ≡ is_none (uncovered_key C.own_outlined ds o.attributes)
  covered =
      go (count is_dictionary ds == 0)
      (key_none (λ e. not (is_covered C.own_outlined ds e)) (λ e. has same_text e.0 (written_keys C ds) || outlined C e.1)
      (λ e. not_not (is_covered C.own_outlined ds e) ∙ ap (λ b. b || outlined C e.1) (sym (written_key C e.0 ds))) o.attributes)
    where
      go : (b : Bool) → list_all (λ e. has same_text e.0 (written_keys C ds) || outlined C e.1) o.attributes ≡ is_none (first_uncovered C.own_outlined ds o.attributes)
          → (not b || list_all (λ e. has same_text e.0 (written_keys C ds) || outlined C e.1) o.attributes) ≡ is_none (cond b (first_uncovered C.own_outlined ds o.attributes) None)
      go true e = e
      go false e = refl

  -- no test of an operation that fits fails
  fits_none : FitsCustom C isolated ds o n → first_failed 1 (tests C.own_outlined ds (counts_of o n) o.attributes) ≡ None
  fits_none f = all_pass 1 (tests C.own_outlined ds (counts_of o n) o.attributes) (record {
    is = f.operands;
    rest = record {
      is = f.successors;
      rest = record {
        is = f.results;
        rest = record {
          is = f.regions;
          rest = record {
            is = sym (named_by o.attributes ds (missing_key o.attributes ds) refl) ∙ f.keys_there;
            rest = record { is = f.symbol; rest = record { is = sym covered ∙ f.others_outlined; rest = tt } };
          };
        };
      };
    };
  })

  -- an operation of which no test fails fits
  none_fits : first_failed 1 (tests C.own_outlined ds (counts_of o n) o.attributes) ≡ None → FitsCustom C isolated ds o n
  none_fits e =
      let p : AllPass (tests C.own_outlined ds (counts_of o n) o.attributes) = none_failed 1 (tests C.own_outlined ds (counts_of o n) o.attributes) e in
      record {
        operands = p.is;
        successors = p.rest.is;
        results = p.rest.rest.is;
        regions = p.rest.rest.rest.is;
        keys_there = named_by o.attributes ds (missing_key o.attributes ds) refl ∙ p.rest.rest.rest.rest.is;
        symbol = p.rest.rest.rest.rest.rest.is;
        others_outlined = covered ∙ p.rest.rest.rest.rest.rest.rest.is;
      }

-- ---- what a check returns

-- what holds of a value that is present
pub given : {X : Type 0} (P : X → Type 0) (o : Option X) (x : X) → o ≡ Some x → IfSome o P → P x
given P o x e h = subst (λ z. IfSome z P) e h

module _ {T A : Type 0} (C : Printing T A) (isolated : Id → Bool) (n : ℕ) where
  -- what a check returns for an operation, if it is live
  pub record Answers {X : Type 0} (seen : Option (GraphOp T A)) (r : Result X FitFault) : Type 0 where
    pub fits : OnOk r (IfSome seen (λ o. FitsOwn C isolated o n))
    pub fault : IfErr r (λ reason. IfSome seen (λ o. IsFirstReason C isolated o n reason))

  -- one that is written as any operation can be fits
  pub canonical_fits : (seen : Option (GraphOp T A)) → IfSome seen (λ o. C.format_of o.id ≡ Some format.canonical) → IfSome seen (λ o. FitsOwn C isolated o n)
  canonical_fits None k = tt
  canonical_fits (Some o) k = subst (λ f. FitsFormat C isolated f o n) (sym k) tt

  -- one that is not registered does not
  pub unregistered : (seen : Option (GraphOp T A)) → IfSome seen (λ o. C.format_of o.id ≡ None) → IfSome seen (λ o. IsFirstReason C isolated o n fault.NotRegistered)
  unregistered None k = tt
  unregistered (Some o) k = record {
    first = ap (first_reason C isolated o n) k;
    names = subst (λ f. NamesIn C isolated o n f fault.NotRegistered) (sym k) tt;
    unfit = λ h. subst (λ f. FitsFormat C isolated f o n) k h;
  }

  module _ (ds : List Directive) (counts : Counts) (es : List (Text × Attribute A)) where
    -- what the code has of an operation
    pub record Had (o : GraphOp T A) : Type 0 where
      pub known : C.format_of o.id ≡ Some (format.custom ds)
      pub counted : counts ≡ counts_of o n
      pub same : es ≡ o.attributes

    -- the same, from each
    pub had : (seen : Option (GraphOp T A)) → IfSome seen (λ o. C.format_of o.id ≡ Some (format.custom ds)) → IfSome seen (λ o. counts ≡ counts_of o n) → IfSome seen (λ o. es ≡ o.attributes) → IfSome seen Had
    had None f k a = tt
    had (Some o) f k a = record { known = f; counted = k; same = a }

    -- what the tests say of it
    pub answered : {X : Type 0} → first_fault (format.custom ds) ≡ 0 → (seen : Option (GraphOp T A)) → IfSome seen Had
        → (r : Result X FitFault) → refused_by r ≡ first_failed 1 (tests C.own_outlined ds counts es) → IfErr r (Names C.own_outlined ds counts es) → Answers seen r
    answered accepted None h (Ok x) p q = record { fits = tt; fault = tt }
    answered accepted None h (Err e) p q = record { fits = tt; fault = tt }
    answered accepted (Some o) h (Ok x) p q = record { fits = subst (λ f. FitsFormat C isolated f o n) (sym h.known) (accepted, none_fits C isolated ds o n (sym (p ∙ same))); fault = tt }
      where
        same : first_failed 1 (tests C.own_outlined ds counts es) ≡ first_failed 1 (tests C.own_outlined ds (counts_of o n) o.attributes)
        same = ap (λ z. first_failed 1 (tests C.own_outlined ds z es)) h.counted ∙ ap (λ z. first_failed 1 (tests C.own_outlined ds (counts_of o n) z)) h.same
    answered accepted (Some o) h (Err e) p q = record {
      fits = tt;
      fault = record {
        first = subst (λ f. first_reason C isolated o n f ≡ Some (number_of e)) (sym h.known) (sym (p ∙ same));
        names = subst (λ f. NamesIn C isolated o n f e) (sym h.known) (subst (λ z. Names C.own_outlined ds (counts_of o n) z e) h.same (subst (λ z. Names C.own_outlined ds z es e) h.counted q));
        unfit = λ f. none-some (number_of e) (sym (fits_none C isolated ds o n (own f).1) ∙ sym (p ∙ same));
      };
    }
      where
        same : first_failed 1 (tests C.own_outlined ds counts es) ≡ first_failed 1 (tests C.own_outlined ds (counts_of o n) o.attributes)
        same = ap (λ z. first_failed 1 (tests C.own_outlined ds z es)) h.counted ∙ ap (λ z. first_failed 1 (tests C.own_outlined ds (counts_of o n) z)) h.same

        own : FitsOwn C isolated o n → (first_fault (format.custom ds) ≡ 0) × FitsCustom C isolated ds o n
        own f = subst (λ g. FitsFormat C isolated g o n) h.known f

-- ---- how many parts there are

-- as many as are there, where all are
pub all_counted : {X Y : Type 0} (f : X → Option Y) (xs : List X) → ((i : ℕ) (x : X) → slice_get xs i ≡ Some x → IsSome (f x)) → length xs ≡ length (filter_map f xs)
all_counted f [] there = refl
all_counted {X = X} {Y = Y} f (x ∷ xs) there = go (f x) (there zero x refl) (all_counted f xs (λ i y e. there (suc i) y e))
  where
    go : (o : Option Y) → IsSome o → length xs ≡ length (filter_map f xs) → suc (length xs) ≡ length (cons_option o (filter_map f xs))
    go None s h = absurd (cc)
    go (Some y) s h = ap suc h

-- as many as are known
pub known_counted : {X Y : Type 0} (f : X → Option Y) (text : Y → Text) (xs : List X) → length (known_types (map (λ x. option_map text (f x)) xs)) ≡ length (filter_map f xs)
known_counted f text [] = refl
known_counted {X = X} {Y = Y} f text (x ∷ xs) = go (f x) (known_counted f text xs)
  where
    go : (o : Option Y) → length (known_types (map (λ x. option_map text (f x)) xs)) ≡ length (filter_map f xs)
        → length (known_types (option_map text o ∷ map (λ x. option_map text (f x)) xs)) ≡ length (cons_option o (filter_map f xs))
    go None h = h
    go (Some y) h = ap suc h

next_some : (xs : List (Option Text)) (i : ℕ) (t : Text) → option_and_then (λ t. t) (slice_get xs i) ≡ Some t → length (known_types (drop i xs)) ≡ suc (length (known_types (drop (suc i) xs)))
next_some [] i t e = absurd (cc)
next_some (None ∷ xs) zero t e = absurd (cc)
next_some (Some u ∷ xs) zero t e = refl
next_some (x ∷ xs) (suc i) t e = next_some xs i t e

next_none : (xs : List (Option Text)) (i : ℕ) → option_and_then (λ t. t) (slice_get xs i) ≡ None → length (known_types (drop i xs)) ≡ length (known_types (drop (suc i) xs))
next_none [] zero e = refl
next_none [] (suc i) e = refl
next_none (None ∷ xs) zero e = refl
next_none (Some u ∷ xs) zero e = absurd (cc)
next_none (x ∷ xs) (suc i) e = next_none xs i e

-- one more is known
pub one_known : (xs : List (Option Text)) (i typed all : ℕ) (t : Text) → option_and_then (λ t. t) (slice_get xs i) ≡ Some t → typed + length (known_types (drop i xs)) ≡ all
    → (typed + 1) + length (known_types (drop (i + 1) xs)) ≡ all
one_known xs i typed all t e h =
    let after : i + 1 ≡ suc i = omega arith in
    let counted : length (known_types (drop i xs)) ≡ suc (length (known_types (drop (suc i) xs))) = next_some xs i t e in
    let more : (typed + 1) + length (known_types (drop (suc i) xs)) ≡ all = omega (arith, counted, h) in
    ap (λ k. (typed + 1) + length (known_types (drop k xs))) after ∙ more

-- the one at an index is not known
pub none_known : (xs : List (Option Text)) (i typed all : ℕ) → option_and_then (λ t. t) (slice_get xs i) ≡ None → typed + length (known_types (drop i xs)) ≡ all
    → typed + length (known_types (drop (i + 1) xs)) ≡ all
none_known xs i typed all e h =
    let after : i + 1 ≡ suc i = omega arith in
    ap (λ k. typed + length (known_types (drop k xs))) after ∙ ap (λ n. typed + n) (sym (next_none xs i e)) ∙ h

-- all were counted
pub all_known : (xs : List (Option Text)) (i typed all : ℕ) → length xs ≤ i → typed + length (known_types (drop i xs)) ≡ all → typed ≡ all
all_known xs i typed all past h =
    let nothing : length (known_types (drop i xs)) ≡ 0 = ap (λ z. length (known_types z)) (none_left xs i past) in
    omega (arith, nothing, h)

-- the parts of an operation, counted one by one
pub counts_are : {T A : Type 0} (o : GraphOp T A) (a b c d n : ℕ) → a ≡ length o.operands → b ≡ length o.successors → c ≡ length o.results → d ≡ n
    → record { operands = a; successors = b; results = c; regions = d } ≡ counts_of o n
counts_are o a b c d n p q r s =
    let first : Counts = record { operands = a; successors = b; results = c; regions = d } in
    let all : first ≡ counts_of o n = cc in
    all
