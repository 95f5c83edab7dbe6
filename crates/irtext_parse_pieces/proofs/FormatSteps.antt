-- The steps of formats: those that the code returns, those that are left, and how many of the front were passed.
use Rattle.std.proofs.Common.{◌≡◌, ℕ, zero, suc, ◌+◌, ◌<◌, ◌≤◌, Bool, true, false, Some, None, option_map, List, [], ◌∷◌, ◌++◌, map, drop, get_or, slice_get, length, length-append, refl, sym, ◌∙◌, ap, arith}
use Rattle.std.proofs.lemmas.Option.{slice_get_read, slice_get_past}
use Rattle.irtext_base.specs.Text.{Text}
use Rattle.irtext_base.specs.Format as format
use Rattle.irtext_base.specs.Format.{Directive}
use Rattle.irtext_base.specs.Answers.{Outcome}
use Rattle.irtext_base.specs.Locations.{AttrView}
use Rattle.irtext_base.specs.declared.format.Directive as code
use Rattle.irtext_base.specs.FormatViews.{directive_of, directives_of}
use Rattle.irtext_grammar.specs.declared.parsed.Setting.{Setting}
use Rattle.irtext_grammar.specs.Heads.{Step, step_of, front_steps, directive_at, piece_at}
use Rattle.irtext_grammar.specs.Resume.{is_flat}
use Rattle.irtext_grammar.proofs.Resume.Front.{in_front, after_front}

-- the step at a place is that of the directive there
custom_step : (ds : List code.Directive) (i : ℕ) → slice_get (map step_of (directives_of ds)) i ≡ option_map (λ d. step_of (directive_of d)) (slice_get ds i)
custom_step [] i = refl
custom_step (d ∷ ds) zero = refl
custom_step (d ∷ ds) (suc i) = custom_step ds i

pub custom_there : (ds cs : List code.Directive) (i : ℕ) (d : code.Directive) → cs ≡ ds → i < length cs → d ≡ get_or cs i d → Some (step_of (directive_of d)) ≡ slice_get (map step_of (directives_of ds)) i
custom_there ds cs i d same l e = sym (custom_step ds i ∙ ap (option_map (λ d. step_of (directive_of d))) (ap (λ xs. slice_get xs i) (sym same) ∙ slice_get_read cs (length cs) i d refl l e))

-- there is none where there is no directive
pub custom_none : (ds cs : List code.Directive) (i : ℕ) → cs ≡ ds → length cs ≤ i → None ≡ slice_get (map step_of (directives_of ds)) i
custom_none ds cs i same l = sym (custom_step ds i ∙ ap (option_map (λ d. step_of (directive_of d))) (ap (λ xs. slice_get xs i) (sym same) ∙ slice_get_past cs i l))

-- what the step of a directive parses is what the directive parses
pub step_reads : {T A : Type 0} (types_at : Text → Outcome T) (attr : Text → Outcome (AttrView A)) (setting : Setting) (d : Directive) → piece_at types_at attr setting (step_of d) ≡ directive_at types_at attr setting d
step_reads types_at attr setting (format.word s) = refl
step_reads types_at attr setting (format.operand i) = refl
step_reads types_at attr setting format.operands = refl
step_reads types_at attr setting (format.successor i) = refl
step_reads types_at attr setting format.successors = refl
step_reads types_at attr setting (format.attribute k) = refl
step_reads types_at attr setting format.dictionary = refl
step_reads types_at attr setting (format.result_type i) = refl
step_reads types_at attr setting (format.region i) = refl
step_reads types_at attr setting format.regions = refl
step_reads types_at attr setting format.header = refl

-- the step at a place is the first of those from there on
pub next_left : {X : Type 0} (steps : List X) (n : ℕ) (step : X) → slice_get steps n ≡ Some step → drop n steps ≡ step ∷ drop (suc n) steps
next_left [] n step e = absurd (cc)
next_left (s ∷ steps) zero step e = let same : s ≡ step = cc in ap (λ z. z ∷ steps) same
next_left (s ∷ steps) (suc n) step e = next_left steps n step e

-- at a place past the end, none is left
pub none_left : {X : Type 0} (steps : List X) (n : ℕ) → slice_get steps n ≡ None → drop n steps ≡ []
none_left [] zero e = refl
none_left [] (suc n) e = refl
none_left (s ∷ steps) zero e = absurd (cc)
none_left (s ∷ steps) (suc n) e = none_left steps n e

-- so many steps of the front were passed, and these are left
abbrev pub Counts : ℕ → List Step → List Step → Type 0
Counts n steps left = length (front_steps steps) ≡ n + length (front_steps left)

-- none was passed
pub count_none : (steps : List Step) → Counts 0 steps steps
count_none steps = omega (arith)

-- none of the front is left
pub count_all : (steps left : List Step) (n : ℕ) → front_steps left ≡ [] → Counts n steps left → n ≡ length (front_steps steps)
count_all steps left n e h = let none : length (front_steps left) ≡ 0 = ap length e in omega (arith, h, none)

-- where no step is left, none of the front is
pub front_over : (left : List Step) → left ≡ [] → front_steps left ≡ []
front_over left e = ap front_steps e

-- nor where a step comes that parses regions
pub front_ended : (left rest : List Step) (step : Step) → left ≡ step ∷ rest → is_flat step ≡ false → front_steps left ≡ []
front_ended left rest step e b = ap front_steps e ∙ (after_front step rest b).0

module _ {X : Type 0} (steps : List Step) (found : List X) (x : X) where
  one_more : suc (length found) ≡ length (found ++ (x ∷ []))
  one_more = omega (arith, length-append found (x ∷ []))

  -- after one more piece, the steps from the next place on are left
  pub left_more : drop (suc (length found)) steps ≡ drop (length (found ++ (x ∷ []))) steps
  left_more = ap (λ n. drop n steps) one_more

  module _ (step : Step) (there : slice_get steps (length found) ≡ Some step) where
    -- a step that parses a piece was passed
    pub count_more : is_flat step ≡ true → Counts (length found) steps (drop (length found) steps) → Counts (length (found ++ (x ∷ []))) steps (drop (length (found ++ (x ∷ []))) steps)
    count_more b h =
        let front : length (front_steps (drop (length found) steps)) ≡ suc (length (front_steps (drop (suc (length found)) steps))) =
        ap (λ ss. length (front_steps ss)) (next_left steps (length found) step there) ∙ ap length (in_front step (drop (suc (length found)) steps) b).0 in
        let same : length (front_steps (drop (suc (length found)) steps)) ≡ length (front_steps (drop (length (found ++ (x ∷ []))) steps)) = ap (λ ss. length (front_steps ss)) left_more in
        omega (arith, h, front, same, one_more)

    -- fewer are left after it
    pub fewer_left : (more : List X) → more ≡ found ++ (x ∷ []) → length (drop (length more) steps) < length (drop (length found) steps)
    fewer_left more e =
        let front : length (drop (length found) steps) ≡ suc (length (drop (suc (length found)) steps)) = ap length (next_left steps (length found) step there) in
        let same : length (drop (suc (length found)) steps) ≡ length (drop (length more) steps) = ap length left_more ∙ ap (λ z. length (drop (length z) steps)) (sym e) in
        omega (arith, front, same)
