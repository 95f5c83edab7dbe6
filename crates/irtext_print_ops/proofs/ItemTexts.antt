-- The texts of single items: of values with their types, and of what a list has at an index.
use Rattle.std.proofs.Common.{◌≡◌, ◌≤◌, ◌<◌, ◌∙◌, ◌+◌, ◌++◌, ◌∷◌, ℕ, zero, suc, arith, drop, refl, sym, ap, subst, List, [], Option, Some, None, IsSome, IfSome, Bool, true, false, not, ◌&&◌, is_some, map, length, slice_get, codes, Result, OnOk, IfOk}
use Rattle.std.specs.declared.alloc.Global.{Global}
use Rattle.std.specs.declared.string.String.{String}
use Rattle.std.specs.Option.{option_map, option_and_then}
use Rattle.std.specs.Str.{encode_utf8_all}
use Rattle.std.proofs.lemmas.Option.{slice_get-map}
use Rattle.std.proofs.lemmas.List.{append-nil}
use Rattle.irtext_base.specs.Text.{Text}
use Rattle.irtext_context.specs.Context.{ContextView}
use Rattle.irtext_graph.specs.Content.{Typed}
use Rattle.irtext_graph.specs.Parts.{value_at, operands, successors}
use Rattle.irtext_graph.specs.declared.arena.Ptr.{Ptr}
use Rattle.irtext_graph.specs.declared.object.BasicBlock.{BasicBlock}
use Rattle.irtext_graph.specs.declared.object.Operation.{Operation}
use Rattle.irtext_graph.specs.declared.object.Value.{Value}
use Rattle.irtext_grammar.specs.Contexts.Nested.{number_of}
use Rattle.irtext_grammar.specs.Contexts.Held.{known_types}
use Rattle.irtext_print.specs.Printers.Appended.{AppendsText}
use Rattle.irtext_print.specs.Printers.PieceText.{spaced_if}
use Rattle.irtext_print.proofs.Printers.Locations.{more, worded}
use Rattle.irtext_print_ops.specs.Listed.{facet_text, next_text, operand_type_text, text_at}
use Rattle.irtext_print_ops.specs.Names.{name_of, operand_text, label_text, or_nothing}
use Rattle.irtext_print_ops.specs.declared.lists.Facet.{Facet}
use Rattle.irtext_print_ops.specs.declared.lists.Facet.TheVariants as facet
use Rattle.irtext_print_ops.specs.declared.lists.Listed.{Listed}
use Rattle.irtext_print_ops.specs.declared.lists.Listed.TheVariants as listed

module _ {T A : Type 0} (written : T → Text) (ctx : ContextView T A) (v : Value) where
  -- a value that is there has a name
  pub has_name : IsSome (value_at ctx.graph v) → IsSome (operand_text ctx v)
  has_name h = go (value_at ctx.graph v) h
    where
      go : (o : Option (Typed (Option T))) → IsSome o → IsSome (option_map (name_of ctx) (option_map (λ (t : Typed (Option T)). t.number) o))
      go None h = absurd (cc)
      go (Some t) h = refl

  -- both were written
  pub both_written : (ty : T) (old first second new : List ℕ) → first ≡ old ++ encode_utf8_all (or_nothing (operand_text ctx v)) → second ≡ first ++ codes ": " → new ≡ second ++ encode_utf8_all (written ty)
      → IfSome (number_of ctx v) (λ n. new ≡ old ++ encode_utf8_all (facet_text written ctx facet.Both (n, ty)))
  both_written ty old first second new p q r = go (number_of ctx v) p
    where
      go : (o : Option ℕ) → first ≡ old ++ encode_utf8_all (or_nothing (option_map (name_of ctx) o)) → IfSome o (λ n. new ≡ old ++ encode_utf8_all (name_of ctx n ++ (codes ": " ++ written ty)))
      go None p = tt
      go (Some n) p = more old first new (name_of ctx n) (codes ": " ++ written ty) p (worded first second new (codes ": ") (written ty) refl q r)

  -- the same of what is to be written
  pub facet_written : (x : Facet) (ty : T) (old new : List ℕ) → x ≡ facet.Both → IfSome (number_of ctx v) (λ n. new ≡ old ++ encode_utf8_all (facet_text written ctx facet.Both (n, ty)))
      → IfSome (number_of ctx v) (λ n. new ≡ old ++ encode_utf8_all (facet_text written ctx x (n, ty)))
  facet_written x ty old new e h = subst (λ y. IfSome (number_of ctx v) (λ n. new ≡ old ++ encode_utf8_all (facet_text written ctx y (n, ty)))) (sym e) h

-- what a list has at an index
pub found_at : {X : Type 0} (f : X → Option Text) (xs : List X) (i : ℕ) → option_and_then f (slice_get xs i) ≡ option_and_then (λ t. t) (slice_get (map f xs) i)
found_at {X = X} f xs i = go (slice_get xs i) ∙ ap (option_and_then (λ t. t)) (sym (slice_get-map f xs i))
  where
    go : (o : Option X) → option_and_then f o ≡ option_and_then (λ t. t) (option_map f o)
    go None = refl
    go (Some x) = refl

-- each item of a list has a text if it has one by itself
pub some_at : {X : Type 0} (f : X → Option Text) (xs : List X) (i : ℕ) → ((x : X) → slice_get xs i ≡ Some x → IsSome (f x)) → i < length (map f xs) → IsSome (option_and_then (λ t. t) (slice_get (map f xs) i))
some_at f [] i h less = absurd (omega (arith, less))
some_at f (x ∷ xs) zero h less = h x refl
some_at f (x ∷ xs) (suc i) h less = some_at f xs i h (omega (arith, less))

-- there is none past the end
pub none_at : (xs : List (Option Text)) (i : ℕ) → length xs ≤ i → option_and_then (λ t. t) (slice_get xs i) ≡ None
none_at [] zero h = refl
none_at [] (suc i) h = refl
none_at (x ∷ xs) zero h = absurd (omega (arith, h))
none_at (x ∷ xs) (suc i) h = none_at xs i (omega (arith, h))

-- a text was written after a space
pub spaced_written : (o u : Option Text) → IsSome o → o ≡ u → (old mid new : List ℕ) → mid ≡ old ++ codes " " → new ≡ mid ++ encode_utf8_all (or_nothing o) → new ≡ old ++ encode_utf8_all (spaced_if u)
spaced_written None u h e old mid new p q = absurd (cc)
spaced_written (Some t) u h e old mid new p q = worded old mid new (codes " ") t refl p q ∙ ap (λ z. old ++ encode_utf8_all (spaced_if z)) e

-- the same of a list's first item
pub item_spaced : (o : Option Text) → IsSome o → (old mid new : List ℕ) → mid ≡ old ++ codes " " → new ≡ mid ++ encode_utf8_all (next_text true o) → new ≡ old ++ encode_utf8_all (spaced_if o)
item_spaced None h old mid new p q = absurd (cc)
item_spaced (Some t) h old mid new p q = worded old mid new (codes " ") t refl p q

-- nothing is written where there is no text
pub nothing_written : (u : Option Text) (old : List ℕ) → u ≡ None → old ≡ old ++ encode_utf8_all (spaced_if u)
nothing_written u old e = sym (append-nil old) ∙ ap (λ z. old ++ encode_utf8_all (spaced_if z)) (sym e)

-- ---- the text at an index among those that are there

skip_step : (xs : List (Option Text)) (i left : ℕ) (r : Option Text) → option_and_then (λ t. t) (slice_get xs i) ≡ None → slice_get (known_types (drop i xs)) left ≡ r → slice_get (known_types (drop (suc i) xs)) left ≡ r
skip_step [] zero left r e h = h
skip_step [] (suc i) left r e h = h
skip_step (None ∷ xs) zero left r e h = h
skip_step (Some t ∷ xs) zero left r e h = absurd (cc)
skip_step (x ∷ xs) (suc i) left r e h = skip_step xs i left r e h

-- an item without a text is left out
pub skipped : (xs : List (Option Text)) (i left : ℕ) (r : Option Text) → option_and_then (λ t. t) (slice_get xs i) ≡ None → slice_get (known_types (drop i xs)) left ≡ r → slice_get (known_types (drop (i + 1) xs)) left ≡ r
skipped xs i left r e h = let after : i + 1 ≡ suc i = omega arith in ap (λ n. slice_get (known_types (drop n xs)) left) after ∙ skip_step xs i left r e h

pass_step : (xs : List (Option Text)) (i left : ℕ) (t : Text) (r : Option Text) → option_and_then (λ t. t) (slice_get xs i) ≡ Some t → slice_get (known_types (drop i xs)) (suc left) ≡ r → slice_get (known_types (drop (suc i) xs)) left ≡ r
pass_step [] i left t r e h = absurd (cc)
pass_step (None ∷ xs) zero left t r e h = absurd (cc)
pass_step (Some u ∷ xs) zero left t r e h = h
pass_step (x ∷ xs) (suc i) left t r e h = pass_step xs i left t r e h

-- an item that has one is passed
pub passed : (xs : List (Option Text)) (i left next : ℕ) (t : Text) (r : Option Text) → option_and_then (λ t. t) (slice_get xs i) ≡ Some t → left ≡ suc next → slice_get (known_types (drop i xs)) left ≡ r → slice_get (known_types (drop (i + 1) xs)) next ≡ r
passed xs i left next t r e l h =
    let after : i + 1 ≡ suc i = omega arith in
    ap (λ n. slice_get (known_types (drop n xs)) next) after ∙ pass_step xs i next t r e (ap (λ n. slice_get (known_types (drop i xs)) n) (sym l) ∙ h)

-- it is the one
pub reached : (xs : List (Option Text)) (i left : ℕ) (t : Text) (r : Option Text) → option_and_then (λ t. t) (slice_get xs i) ≡ Some t → left ≡ 0 → slice_get (known_types (drop i xs)) left ≡ r → Some t ≡ r
reached xs i left t r e l h = at xs i e ∙ ap (λ n. slice_get (known_types (drop i xs)) n) (sym l) ∙ h
  where
    at : (xs : List (Option Text)) (i : ℕ) → option_and_then (λ t. t) (slice_get xs i) ≡ Some t → Some t ≡ slice_get (known_types (drop i xs)) 0
    at [] i e = absurd (cc)
    at (None ∷ xs) zero e = absurd (cc)
    at (Some u ∷ xs) zero e = sym e
    at (x ∷ xs) (suc i) e = at xs i e

-- there is none
pub missed : (xs : List (Option Text)) (i left : ℕ) (r : Option Text) → length xs ≤ i → slice_get (known_types (drop i xs)) left ≡ r → r ≡ None
missed [] zero left r h e = sym e
missed [] (suc i) left r h e = sym e
missed (x ∷ xs) zero left r h e = absurd (omega (arith, h))
missed (x ∷ xs) (suc i) left r h e = missed xs i left r (omega (arith, h)) e

-- ---- the text at an index, by what is there

module _ {T A : Type 0} (written : T → Text) (ctx : ContextView T A) where
  -- the name of an operand
  pub operand_at : (p : Ptr Operation) (i : ℕ) (v : Value) → slice_get (operands ctx.graph p) i ≡ Some v → operand_text ctx v ≡ text_at written ctx (listed.Operands p) i
  operand_at p i v e = sym (ap (option_and_then (operand_text ctx)) e) ∙ found_at (operand_text ctx) (operands ctx.graph p) i

  -- the label of a successor
  pub successor_at : (p : Ptr Operation) (i : ℕ) (b : Ptr BasicBlock) → slice_get (successors ctx.graph p) i ≡ Some b → Some (label_text ctx b) ≡ text_at written ctx (listed.Successors p) i
  successor_at p i b e = sym (ap (option_and_then (λ x. Some (label_text ctx x))) e) ∙ found_at (λ x. Some (label_text ctx x)) (successors ctx.graph p) i

  -- the type of an operand
  pub operand_type_at : (p : Ptr Operation) (i : ℕ) (v : Value) → slice_get (operands ctx.graph p) i ≡ Some v → operand_type_text written ctx v ≡ text_at written ctx (listed.OperandTypes p) i
  operand_type_at p i v e = sym (ap (option_and_then (operand_type_text written ctx)) e) ∙ found_at (operand_type_text written ctx) (operands ctx.graph p) i

-- an item that has a text is not the first of those that come after it
not_first : (first : Bool) (o u : Option Text) → IsSome o → o ≡ u → false ≡ (first && not (is_some u))
not_first first o u h e = subst (λ x. false ≡ (first && not (is_some x))) e (go first o h)
  where
    go : (first : Bool) (o : Option Text) → IsSome o → false ≡ (first && not (is_some o))
    go first None h = absurd (cc)
    go true (Some t) h = refl
    go false (Some t) h = refl

-- what was printed of an item is the text at its index, and says whether it was the first
module _ {T A : Type 0} (written : T → Text) (ctx : ContextView T A) {l m : Listed} (i : ℕ) (is : l ≡ m) {o : Option Text} (e : o ≡ text_at written ctx m i) (first : Bool) where
  same_text : o ≡ text_at written ctx l i
  same_text = e ∙ ap (λ z. text_at written ctx z i) (sym is)

  pub item_shown : (old new : String Global) → AppendsText old (next_text first o) new → AppendsText old (next_text first (text_at written ctx l i)) new
  item_shown old new h = subst (λ t. AppendsText old (next_text first t) new) same_text h

  pub item_followed : IsSome o → false ≡ (first && not (is_some (text_at written ctx l i)))
  item_followed h = not_first first o (text_at written ctx l i) h same_text

  module _ {E : Type 0} (r : Result Bool E) where
    pub item_text : (old new : String Global) → OnOk r (AppendsText old (next_text first o) new) → OnOk r (AppendsText old (next_text first (text_at written ctx l i)) new)
    item_text old new h = subst (λ t. OnOk r (AppendsText old (next_text first t) new)) same_text h

    pub item_left : IfOk r (λ left. left ≡ (first && not (is_some o))) → IfOk r (λ left. left ≡ (first && not (is_some (text_at written ctx l i))))
    item_left h = subst (λ t. IfOk r (λ left. left ≡ (first && not (is_some t)))) same_text h

-- an index of a list's texts is one of the list
pub index_in : {X Y : Type 0} (f : X → Y) (xs : List X) (i : ℕ) → i < length (map f xs) → i < length xs
index_in f [] i less = absurd (omega (arith, less))
index_in f (x ∷ xs) zero less = omega arith
index_in f (x ∷ xs) (suc i) less = let inner = index_in f xs i (omega (arith, less)) in omega (arith, inner)

-- there is an item at it
pub item_there : {X Y : Type 0} (f : X → Y) (xs : List X) (i : ℕ) → i < length (map f xs) → IsSome (slice_get xs i)
item_there f [] i less = absurd (omega (arith, less))
item_there f (x ∷ xs) zero less = refl
item_there f (x ∷ xs) (suc i) less = item_there f xs i (omega (arith, less))
