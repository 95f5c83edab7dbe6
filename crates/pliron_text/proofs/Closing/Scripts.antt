-- What the script of a graph defines: nothing in it takes a definition away, and it defines what each of its parts does.
use Rattle.std.proofs.Common.{◌≡◌, ◌++◌, ◌⊎◌, inl, inr, ℕ, zero, suc, Bool, true, false, cond, not, ◌==◌, arith, List, [], ◌∷◌, filter_map, length, slice_get, Option, Some, None, option_map, IsSome, refl, sym, ap, subst}
use Rattle.std.specs.Prelude.{⊤, is_some, nat_lt}
use Rattle.std.specs.List.{cons_option}
use Rattle.std.proofs.lemmas.Bool.{eqb-true}
use Rattle.std.proofs.lemmas.Bool.Decides.{nat_tests}
use Rattle.irtext_base.specs.Format as format
use Rattle.irtext_base.specs.Format.{Directive, Format, Id, region_places, count, is_regions}
use Rattle.irtext_graph.specs.Content.{Typed}
use Rattle.irtext_graph.proofs.Nests.{some_eq}
use Rattle.irtext_grammar.specs.Contexts.Nested.{typed_number}
use Rattle.irtext_grammar.specs.Grammar.Forest as forest
use Rattle.irtext_grammar.specs.Grammar.Forest.{Regions, no_regions, Operations, no_operations}
use Rattle.irtext_grammar.specs.Graphs.Closed.{Thing, a_value, a_block, same_thing, spot, uses_of_values, uses_of_blocks, defined_results, defined_arguments, mentions, directives_script, body_script, count_fits, graph_regions, graph_blocks, graph_operations}
use Rattle.irtext_grammar.specs.Graphs.Graph.{GraphOp, GraphBlock, Printing}
use Rattle.irtext_grammar.specs.Names.Acts.{all_of}
use Rattle.irtext_grammar.specs.Names.Scopes.{Fact, uses, defines, Facts, ◌⊕◌, fact_of, facts, lookup, outward}
use Rattle.irtext_grammar.specs.Names.Script.{Path, Place, result, argument, Act, define_value, define_label, Script, does, within, does_all}
use Rattle.irtext_grammar.proofs.Counted.{thing_itself}

-- scripts with their regions, each followed by another script
abbrev pub Parts : Type 0
Parts = List (Script Thing ⊤ → Script Thing ⊤)

-- the format prints so many regions
abbrev pub PrintsAll : {T A : Type 0} → Printing T A → (Id → Bool) → Option Format → ℕ → Type 0
PrintsAll C isolated (Some (format.custom ds)) n = count_fits C isolated (length (region_places ds)) (count is_regions ds) n ≡ true
PrintsAll C isolated _ n = ⊤

-- the values or the labels of the facts
module _ (part : Facts Thing → List (Fact Thing)) (split : (f g : Facts Thing) → part (f ⊕ g) ≡ part f ++ part g) (x : Thing) where
  -- x is defined
  abbrev pub Defines : List (Fact Thing) → Type 0
  Defines fs = is_some (lookup same_thing x fs) ≡ true

  -- x is defined by the script
  pub record Has (s : Script Thing ⊤) : Type 0 where
    pub found : Defines (part (facts same_thing s))

  first_or : (p : Place) (fs gs : List (Fact Thing)) → (Defines fs → Defines gs) → (b : Bool) → is_some (cond b (Some p) (lookup same_thing x fs)) ≡ true → is_some (cond b (Some p) (lookup same_thing x gs)) ≡ true
  first_or p fs gs h true e = refl
  first_or p fs gs h false e = h e

  first_too : (p : Place) (gs : List (Fact Thing)) → Defines gs → (b : Bool) → is_some (cond b (Some p) (lookup same_thing x gs)) ≡ true
  first_too p gs h true = refl
  first_too p gs h false = h

  pub later : (fs gs : List (Fact Thing)) → Defines gs → Defines (fs ++ gs)
  later [] gs h = h
  later (uses n u ∷ fs) gs h = later fs gs h
  later (defines n p ∷ fs) gs h = first_too p (fs ++ gs) (later fs gs h) (same_thing n x)

  pub earlier : (fs gs : List (Fact Thing)) → Defines fs → Defines (fs ++ gs)
  earlier [] gs h = absurd (cc)
  earlier (uses n u ∷ fs) gs h = earlier fs gs h
  earlier (defines n p ∷ fs) gs h = first_or p fs (fs ++ gs) (λ e. earlier fs gs e) (same_thing n x) h

  on : (f g : Facts Thing) → Defines (part g) → Defines (part (f ⊕ g))
  on f g h = subst Defines (sym (split f g)) (later (part f) (part g) h)

  pub acts_keep : (acts : List (Act Thing ⊤)) {s : Script Thing ⊤} → Has s → Has (does_all acts s)
  acts_keep [] h = h
  acts_keep (a ∷ acts) {s = s} h = record { found = on (fact_of a) (facts same_thing (does_all acts s)) (acts_keep acts h).found }

  -- each part keeps what comes after it
  abbrev pub AllKeep : Parts → Type 0
  AllKeep [] = ⊤
  AllKeep (r ∷ rs) = ((s : Script Thing ⊤) → Has s → Has (r s)) × AllKeep rs

  -- some part defines x, whatever comes after it
  abbrev pub SomeGives : Parts → Type 0
  SomeGives [] = ⊥
  SomeGives (r ∷ rs) = ((s : Script Thing ⊤) → Has (r s)) ⊎ SomeGives rs

  all_keep : (rs : Parts) {s : Script Thing ⊤} → AllKeep rs → Has s → Has (all_of rs s)
  all_keep [] k h = h
  all_keep (r ∷ rs) k h = k.0 _ (all_keep rs k.1 h)

  all_give : (rs : Parts) → AllKeep rs → SomeGives rs → (s : Script Thing ⊤) → Has (all_of rs s)
  all_give [] k g s = absurd g
  all_give (r ∷ rs) k (inl g) s = g (all_of rs s)
  all_give (r ∷ rs) k (inr g) s = k.0 _ (all_give rs k.1 g s)

  pub within_keeps : (iso : Bool) (body : Script Thing ⊤) {s : Script Thing ⊤} → Has s → Has (within iso tt body s)
  within_keeps iso body {s = s} h = record { found = on (outward same_thing iso (facts same_thing body)) (facts same_thing s) h.found }

  module _ {T A : Type 0} (C : Printing T A) (isolated : Id → Bool) where
    -- one region less is printed, and one is left out less
    one_less : (places lists n : ℕ) → count_fits C isolated (suc places) lists (suc n) ≡ true → count_fits C isolated places lists n ≡ true
    one_less places lists n e = go (lists == 0) e
      where
        go : (b : Bool) → cond b (suc n == suc places) (not (nat_lt (suc n) (suc places))) ≡ true → cond b (n == places) (not (nat_lt n places)) ≡ true
        go true e = grind (arith, nat_tests)
        go false e = grind (arith, nat_tests)

    module _ (ds : List Directive) (p : Path) (o : GraphOp T A) where
      directives_keep : (rest : List Directive) (rs : Parts) → AllKeep rs → {s : Script Thing ⊤} → Has s → Has (directives_script ds p o rest rs s)
      directives_keep [] rs k h = h
      directives_keep (format.region i ∷ rest) [] k h = directives_keep rest [] k h
      directives_keep (format.region i ∷ rest) (r ∷ rs) k h = k.0 _ (directives_keep rest rs k.1 h)
      directives_keep (format.regions ∷ rest) rs k h = all_keep rs k (directives_keep rest [] tt h)
      directives_keep (d ∷ rest) rs k h = acts_keep (mentions ds p o d) (directives_keep rest rs k h)

      -- if a region is there for each that is printed, and no other
      directives_give : (rest : List Directive) (rs : Parts) → count_fits C isolated (length (region_places rest)) (count is_regions rest) (length rs) ≡ true → AllKeep rs → SomeGives rs → (s : Script Thing ⊤) → Has (directives_script ds p o rest rs s)
      directives_give [] [] fits k g s = absurd g
      directives_give [] (r ∷ rs) fits k g s = absurd (let none = eqb-true (suc (length rs)) 0 fits in cc)
      directives_give (format.region i ∷ rest) [] fits k g s = absurd g
      directives_give (format.region i ∷ rest) (r ∷ rs) fits k (inl g) s = g (directives_script ds p o rest rs s)
      directives_give (format.region i ∷ rest) (r ∷ rs) fits k (inr g) s = k.0 _ (directives_give rest rs (one_less (length (region_places rest)) (count is_regions rest) (length rs) fits) k.1 g s)
      directives_give (format.regions ∷ rest) rs fits k g s = all_give rs k g (directives_script ds p o rest [] s)
      directives_give (d ∷ rest) rs fits k g s = acts_keep (mentions ds p o d) (directives_give rest rs fits k g s)

    pub body_keeps : (f : Option Format) (p : Path) (o : GraphOp T A) (rs : Parts) → AllKeep rs → {s : Script Thing ⊤} → Has s → Has (body_script f p o rs s)
    body_keeps (Some (format.custom ds)) p o rs k h = directives_keep ds p o ds rs k h
    body_keeps (Some format.canonical) p o rs k h = acts_keep (uses_of_values p 0 o.operands) (acts_keep (uses_of_blocks p 0 o.successors) (all_keep rs k h))
    body_keeps None p o rs k h = acts_keep (uses_of_values p 0 o.operands) (acts_keep (uses_of_blocks p 0 o.successors) (all_keep rs k h))

    pub body_gives : (f : Option Format) (p : Path) (o : GraphOp T A) (rs : Parts) → PrintsAll C isolated f (length rs) → AllKeep rs → SomeGives rs → (s : Script Thing ⊤) → Has (body_script f p o rs s)
    body_gives (Some (format.custom ds)) p o rs fits k g s = directives_give ds p o ds rs fits k g s
    body_gives (Some format.canonical) p o rs fits k g s = acts_keep (uses_of_values p 0 o.operands) (acts_keep (uses_of_blocks p 0 o.successors) (all_give rs k g s))
    body_gives None p o rs fits k g s = acts_keep (uses_of_values p 0 o.operands) (acts_keep (uses_of_blocks p 0 o.successors) (all_give rs k g s))

    pub regions_keep : (p : Path) (j : ℕ) (iso : Bool) (rs : Regions (GraphOp T A) (GraphBlock T A) ⊤) → AllKeep (graph_regions C isolated p j iso rs)
    regions_keep p j iso no_regions = tt
    regions_keep p j iso (forest.region r bs rs) = ((λ s h. within_keeps iso (graph_blocks C isolated (j ∷ p) 0 bs) h), regions_keep p (suc j) iso rs)

    -- an operation keeps what comes after it
    pub operation_keeps : (p : Path) (o : GraphOp T A) (rs : Regions (GraphOp T A) (GraphBlock T A) ⊤) {s : Script Thing ⊤} → Has s → Has (body_script (C.format_of o.id) p o (graph_regions C isolated p 0 (isolated o.id) rs) (does_all (defined_results p 0 o.results) s))
    operation_keeps p o rs h = body_keeps (C.format_of o.id) p o (graph_regions C isolated p 0 (isolated o.id) rs) (regions_keep p 0 (isolated o.id) rs) (acts_keep (defined_results p 0 o.results) h)

    pub operations_keep : (p : Path) (i : ℕ) (os : Operations (GraphOp T A) (GraphBlock T A) ⊤) {s : Script Thing ⊤} → Has s → Has (graph_operations C isolated p i os s)
    operations_keep p i no_operations h = h
    operations_keep p i (forest.operation o rs os) h = operation_keeps (i ∷ p) o rs (operations_keep p (suc i) os h)

-- ---- values
abbrev pub values_of : Facts Thing → List (Fact Thing)
values_of f = f.values

abbrev pub labels_of : Facts Thing → List (Fact Thing)
labels_of f = f.labels

-- a value is defined
abbrev pub HasValue : ℕ → Script Thing ⊤ → Type 0
HasValue n s = Has values_of (λ f g. refl) (a_value n) s

-- a block is defined
abbrev pub HasLabel : ℕ × ℕ → Script Thing ⊤ → Type 0
HasLabel b s = Has labels_of (λ f g. refl) (a_block b) s

-- a region that is not isolated defines the values that its body does
pub within_gives : (n : ℕ) (body : Script Thing ⊤) → HasValue n body → (s : Script Thing ⊤) → HasValue n (within false tt body s)
within_gives n body h s = record { found = earlier values_of (λ f g. refl) (a_value n) (facts same_thing body).values (facts same_thing s).values h.found }

-- an act defines its value
pub value_defined : (n : ℕ) (p : Place) (s : Script Thing ⊤) → HasValue n (does (define_value (spot (a_value n)) p) s)
value_defined n p s = record { found = ap (λ b. is_some (cond b (Some p) (lookup same_thing (a_value n) (facts same_thing s).values))) (thing_itself (a_value n)) }

-- an act defines its block
pub block_defined : (b : ℕ × ℕ) (p : Place) (s : Script Thing ⊤) → HasLabel b (does (define_label (spot (a_block b)) p) s)
block_defined b p s = record { found = ap (λ c. is_some (cond c (Some p) (lookup same_thing (a_block b) (facts same_thing s).labels))) (thing_itself (a_block b)) }

-- values of known types are defined, each at its place
module _ {T : Type 0} (at : ℕ → Place) (acts : ℕ → List (ℕ × T) → List (Act Thing ⊤)) (next_acts : (k : ℕ) (r : ℕ × T) (rs : List (ℕ × T)) → acts k (r ∷ rs) ≡ define_value (spot (a_value r.0)) (at k) ∷ acts (suc k) rs) where
  here : (k n : ℕ) (o : Option T) (more : List (ℕ × T)) → IsSome o → (s : Script Thing ⊤) → HasValue n (does_all (acts k (cons_option (option_map (λ (t : T). (n, t)) o) more)) s)
  here k n None more h s = absurd (cc)
  here k n (Some t) more h s = subst (λ done. HasValue n (does_all done s)) (sym (next_acts k (n, t) more)) (value_defined n (at k) (does_all (acts (suc k) more) s))

  there : (n k m : ℕ) (o : Option T) (more : List (ℕ × T)) (s : Script Thing ⊤) → ((j : ℕ) → HasValue n (does_all (acts j more) s)) → HasValue n (does_all (acts k (cons_option (option_map (λ (t : T). (m, t)) o) more)) s)
  there n k m None more s h = h k
  there n k m (Some t) more s h = subst (λ done. HasValue n (does_all done s)) (sym (next_acts k (m, t) more)) (acts_keep values_of (λ f g. refl) (a_value n) (define_value (spot (a_value m)) (at k) ∷ []) (h (suc k)))

  typed_give : (k : ℕ) (vs : List (Typed (Option T))) (i : ℕ) (t : Typed (Option T)) → slice_get vs i ≡ Some t → IsSome t.of_type → (s : Script Thing ⊤) → HasValue t.number (does_all (acts k (filter_map typed_number vs)) s)
  typed_give k [] i t e h s = absurd (cc)
  typed_give k (v ∷ vs) zero t e h s = subst (λ (u : Typed (Option T)). HasValue u.number (does_all (acts k (filter_map typed_number (v ∷ vs))) s)) (some_eq e) (here k v.number v.of_type (filter_map typed_number vs) (subst (λ (u : Typed (Option T)). IsSome u.of_type) (sym (some_eq e)) h) s)
  typed_give k (v ∷ vs) (suc i) t e h s = there t.number k v.number v.of_type (filter_map typed_number vs) s (λ j. typed_give j vs i t e h s)

pub results_give : {T : Type 0} (p : Path) (k : ℕ) (vs : List (Typed (Option T))) (i : ℕ) (t : Typed (Option T)) → slice_get vs i ≡ Some t → IsSome t.of_type → (s : Script Thing ⊤) → HasValue t.number (does_all (defined_results p k (filter_map typed_number vs)) s)
results_give p = typed_give (result p) (defined_results p) (λ k r rs. refl)

pub arguments_give : {T : Type 0} (p : Path) (k : ℕ) (vs : List (Typed (Option T))) (i : ℕ) (t : Typed (Option T)) → slice_get vs i ≡ Some t → IsSome t.of_type → (s : Script Thing ⊤) → HasValue t.number (does_all (defined_arguments p k (filter_map typed_number vs)) s)
arguments_give p = typed_give (argument p) (defined_arguments p) (λ k r rs. refl)
