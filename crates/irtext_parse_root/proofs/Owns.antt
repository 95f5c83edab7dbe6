-- What is known of an open operation, from its parts that were parsed.
use Rattle.std.proofs.Common.{◌≡◌, ◌∙◌, ◌+◌, ℕ, suc, zero, true, List, [], ◌∷◌, ◌++◌, map, drop, length, slice_get, Option, Some, None, refl, sym, ap, subst, append-nil, append_assoc, arith}
use Rattle.std.proofs.lemmas.List.Elements.{All-cons}
use Rattle.irtext_base.specs.Text.{Text}
use Rattle.irtext_base.specs.Faults.{id_of}
use Rattle.irtext_base.specs.Format.{Format, Id}
use Rattle.irtext_context.specs.Context.{ContextView}
use Rattle.irtext_grammar.specs.Contexts.Formats.{format_of}
use Rattle.irtext_grammar.specs.Grammar.Tree as tree
use Rattle.irtext_grammar.specs.Grammar.Tree.{Part, Piece, views, parts_of, operand_names, successor_labels}
use Rattle.irtext_grammar.specs.Graphs.Build.{put, put_all, stored, read_names}
use Rattle.irtext_grammar.specs.Names.Acts.{result_types}
use Rattle.irtext_grammar.specs.Heads.{Step, one, all}
use Rattle.irtext_grammar.specs.Naming.{body_of, unmarked}
use Rattle.irtext_grammar.specs.Reached.{steps_in}
use Rattle.irtext_grammar.specs.Resume.{OpenOperation, with_steps, is_flat}
use Rattle.irtext_grammar.specs.Unchanged.{OwnSoFar, own_of}
use Rattle.irtext_parse_nested.specs.declared.frame.BegunOperation.{BegunOperation}
use Rattle.irtext_parse_nested.specs.Beginning.{IsPartOf, ArePartsOf, HasBegun}
use Rattle.irtext_parse_nested.specs.OpenOperation.{HasNoType, ReadNeither, IsBegun}
use Rattle.irtext_parse_pieces.specs.declared.coming.Coming.TheVariants as comes
use Rattle.irtext_parse_pieces.specs.Coming.{IsStep}

put_both : {V : Type 0} (es xs ys : List (Text × V)) → put_all es (xs ++ ys) ≡ put_all (put_all es xs) ys
put_both es [] ys = refl
put_both es (x ∷ xs) ys = put_both (put x es) xs ys

own_same : {T A : Type 0} (x y : OwnSoFar T A) → x.place ≡ y.place → x.id ≡ y.id → x.operands ≡ y.operands → x.successors ≡ y.successors → x.types ≡ y.types → x.entries ≡ y.entries → x ≡ y
own_same x y a b c d e f =
    ap (λ z. record { place = z; id = x.id; operands = x.operands; successors = x.successors; types = x.types; entries = x.entries }) a
    ∙ (ap (λ z. record { place = y.place; id = z; operands = x.operands; successors = x.successors; types = x.types; entries = x.entries }) b
    ∙ (ap (λ z. record { place = y.place; id = y.id; operands = z; successors = x.successors; types = x.types; entries = x.entries }) c
    ∙ (ap (λ z. record { place = y.place; id = y.id; operands = y.operands; successors = z; types = x.types; entries = x.entries }) d
    ∙ (ap (λ z. record { place = y.place; id = y.id; operands = y.operands; successors = y.successors; types = z; entries = x.entries }) e
    ∙ ap (λ z. record { place = y.place; id = y.id; operands = y.operands; successors = y.successors; types = y.types; entries = z }) f))))

module _ {T A : Type 0} (formats : Id → Option Format) (o : OpenOperation T A) (own : OwnSoFar T A) where
  -- all of it was parsed: its own, with the names of its results
  pub own_whole : o.steps ≡ [] → HasBegun formats o own
      → own_of (unmarked o.place o.names o.id (body_of (formats o.id) o.parts)) ≡ record own { entries = put_all own.entries (read_names (map (λ n. n.text) o.names)) }
  own_whole e h =
      let none : ArePartsOf o.steps [] = subst (λ ss. ArePartsOf {T = T} {A = A} ss []) (sym e) tt in
      let types : result_types (body_of (formats o.id) o.parts) ≡ own.types = ap (λ ps. result_types (body_of (formats o.id) ps)) (sym (append-nil o.parts)) ∙ h.types [] none in
      let stores : views stored (parts_of (body_of (formats o.id) o.parts)) ≡ views stored o.parts =
      ap (λ ps. views stored (parts_of (body_of (formats o.id) ps))) (sym (append-nil o.parts)) ∙ (h.stores [] none ∙ ap (views stored) (append-nil o.parts)) in
      let entries : put_all [] (views stored (parts_of (body_of (formats o.id) o.parts)) ++ read_names (map (λ n. n.text) o.names)) ≡ put_all own.entries (read_names (map (λ n. n.text) o.names)) =
      put_both [] (views stored (parts_of (body_of (formats o.id) o.parts))) (read_names (map (λ n. n.text) o.names))
      ∙ (ap (λ z. put_all (put_all [] z) (read_names (map (λ n. n.text) o.names))) stores ∙ ap (λ z. put_all z (read_names (map (λ n. n.text) o.names))) (sym h.entries)) in
      let operands : length (operand_names (unmarked o.place o.names o.id (body_of (formats o.id) o.parts))) ≡ own.operands =
      ap (λ ps. length (operand_names (unmarked o.place o.names o.id (body_of (formats o.id) ps)))) (sym (append-nil o.parts)) ∙ h.operands [] none in
      let successors : length (successor_labels (unmarked o.place o.names o.id (body_of (formats o.id) o.parts))) ≡ own.successors =
      ap (λ ps. length (successor_labels (unmarked o.place o.names o.id (body_of (formats o.id) ps)))) (sym (append-nil o.parts)) ∙ h.successors [] none in
      own_same (own_of (unmarked o.place o.names o.id (body_of (formats o.id) o.parts))) (record own { entries = put_all own.entries (read_names (map (λ n. n.text) o.names)) }) (sym h.place) (sym h.id) operands successors types entries

  -- a region was parsed, which stores nothing
  pub own_region : (step : Step) (ss : List Step) (part : Part ℕ T A) → o.steps ≡ step ∷ ss → IsPartOf step part → views stored (part ∷ []) ≡ [] → HasBegun formats o own
      → HasBegun formats (with_steps o ss (o.parts ++ part ∷ [])) own
  own_region step ss part e is none h = record {
    place = h.place;
    id = h.id;
    entries = h.entries ∙ ap (put_all []) (sym (following o.parts));
    operands = λ later parts. ap (λ ps. length (operand_names (unmarked o.place o.names o.id (body_of (formats o.id) ps)))) (append_assoc o.parts (part ∷ []) later) ∙ h.operands (part ∷ later) (fit later parts);
    successors = λ later parts. ap (λ ps. length (successor_labels (unmarked o.place o.names o.id (body_of (formats o.id) ps)))) (append_assoc o.parts (part ∷ []) later) ∙ h.successors (part ∷ later) (fit later parts);
    types = λ later parts. ap (λ ps. result_types (body_of (formats o.id) ps)) (append_assoc o.parts (part ∷ []) later) ∙ h.types (part ∷ later) (fit later parts);
    stores = λ later parts. ap (λ ps. views stored (parts_of (body_of (formats o.id) ps))) (append_assoc o.parts (part ∷ []) later)
        ∙ (h.stores (part ∷ later) (fit later parts) ∙ ap (views stored) (sym (append_assoc o.parts (part ∷ []) later)));
  }
    where
      fit : (later : List (Part ℕ T A)) → ArePartsOf ss later → ArePartsOf o.steps (part ∷ later)
      fit later parts = subst (λ z. ArePartsOf z (part ∷ later)) (sym e) (is, parts)

      following : (ps : List (Part ℕ T A)) → views stored (ps ++ part ∷ []) ≡ views stored ps
      following [] = none
      following (tree.piece p ∷ ps) = ap (λ z. stored p ++ z) (following ps)
      following (tree.region i ∷ ps) = following ps
      following (tree.regions ∷ ps) = following ps

-- ---- steps
-- the step that comes is the first of those that are left
pub step_first : {X : Type 0} (xs : List X) (n : ℕ) (x : X) → slice_get xs n ≡ Some x → drop n xs ≡ x ∷ drop (n + 1) xs
step_first {X} xs n x e = let m : suc n ≡ n + 1 = omega arith in go xs n e ∙ ap (λ k. x ∷ drop k xs) m
  where
    go : (xs : List X) (n : ℕ) → slice_get xs n ≡ Some x → drop n xs ≡ x ∷ drop (suc n) xs
    go [] zero e = absurd (cc e)
    go [] (suc n) e = absurd (cc e)
    go (y ∷ xs) zero e = let f : y ≡ x = cc e in ap (λ z. z ∷ xs) f
    go (y ∷ xs) (suc n) e = go xs n e

pub step_none : {X : Type 0} (xs : List X) (n : ℕ) → slice_get xs n ≡ None → drop n xs ≡ []
step_none [] zero e = refl
step_none [] (suc n) e = refl
step_none (y ∷ xs) zero e = absurd (cc e)
step_none (y ∷ xs) (suc n) e = step_none xs n e

module _ {T A : Type 0} (names : List Text) (text : Text) (ctx : ContextView T A) (b next : BegunOperation) (o : OpenOperation T A) where
  -- a region was parsed: the operation goes on after it
  pub begun_region : (step : Step) (ss : List Step) (part : Part ℕ T A) → o.steps ≡ step ∷ ss → next ≡ record b { coming = None; step = b.step + 1 } → HasNoType part → IsBegun names text ctx b o
      → IsBegun names text ctx next (with_steps o ss (o.parts ++ part ∷ []))
  begun_region step ss part e is none h = subst (λ z. IsBegun names text ctx z (with_steps o ss (o.parts ++ part ∷ []))) (sym is) (record {
    place = h.place;
    names_are = h.names_are;
    id = h.id;
    known = h.known;
    steps = rest_of (steps_in ctx.dialects o.id) b.step (sym e ∙ h.steps);
    counted = h.counted;
    coming = tt;
    is_isolated = h.is_isolated;
    late = (subst ReadNeither e h.late).1;
    alive = h.alive;
    counts = h.counts;
    typed = λ later untyped. ap (λ ps. length (result_types (body_of (format_of ctx.dialects o.id) ps))) (append_assoc o.parts (part ∷ []) later) ∙ h.typed (part ∷ later) (All-cons HasNoType part later none untyped);
  })
    where
      rest_of : (xs : List Step) (n : ℕ) → step ∷ ss ≡ drop n xs → ss ≡ drop (n + 1) xs
      rest_of xs n e = let m : suc n ≡ n + 1 = omega arith in go xs n e ∙ ap (λ k. drop k xs) m
        where
          go : (xs : List Step) (n : ℕ) → step ∷ ss ≡ drop n xs → ss ≡ drop (suc n) xs
          go [] zero e = absurd (cc e)
          go [] (suc n) e = absurd (cc e)
          go (y ∷ xs) zero e = cc e
          go (y ∷ xs) (suc n) e = go xs n e

-- ---- what comes next
module _ (x : Option Step) where
  pub piece_comes : IsStep comes.Piece x → (s : Step) × (x ≡ Some s) × (is_flat s ≡ true)
  piece_comes h = go x h
    where
      go : (x : Option Step) → IsStep comes.Piece x → (s : Step) × (x ≡ Some s) × (is_flat s ≡ true)
      go None h = absurd h
      go (Some s) h = (s, refl, h)

  pub region_comes : IsStep comes.Region x → (i : ℕ) × (x ≡ Some (one i))
  region_comes h = go x h
    where
      go : (x : Option Step) → IsStep comes.Region x → (i : ℕ) × (x ≡ Some (one i))
      go None h = absurd h
      go (Some s) h = (h.0, ap (λ z. Some z) h.1)

  pub regions_come : IsStep comes.Regions x → x ≡ Some all
  regions_come h = go x h
    where
      go : (x : Option Step) → IsStep comes.Regions x → x ≡ Some all
      go None h = absurd h
      go (Some s) h = ap (λ z. Some z) h

  pub end_comes : IsStep comes.End x → x ≡ None
  end_comes h = go x h
    where
      go : (x : Option Step) → IsStep comes.End x → x ≡ None
      go None h = refl
      go (Some s) h = absurd h

module _ {T A : Type 0} (names : List Text) (text : Text) (ctx : ContextView T A) (b : BegunOperation) (o : OpenOperation T A) (h : IsBegun names text ctx b o) where
  -- the steps that are left are those of the code
  steps_are : o.steps ≡ drop b.step (steps_in ctx.dialects (id_of b.id))
  steps_are = h.steps ∙ ap (λ i. drop b.step (steps_in ctx.dialects i)) (sym h.id)

  pub steps_here : (s : Step) → slice_get (steps_in ctx.dialects (id_of b.id)) b.step ≡ Some s → o.steps ≡ s ∷ drop (b.step + 1) (steps_in ctx.dialects (id_of b.id))
  steps_here s e = steps_are ∙ step_first (steps_in ctx.dialects (id_of b.id)) b.step s e

  pub no_steps_here : slice_get (steps_in ctx.dialects (id_of b.id)) b.step ≡ None → o.steps ≡ []
  no_steps_here e = steps_are ∙ step_none (steps_in ctx.dialects (id_of b.id)) b.step e
