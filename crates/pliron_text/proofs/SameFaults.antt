-- Whether an operation fits its format, and whether its text is refused, asks for no name: it is the same for two contexts in which printing
-- sees the same.
use Rattle.std.proofs.Common.{◌≡◌, ◌∙◌, inl, inr, ℕ, Bool, not, ◌||◌, ◌==◌, ◌+◌, List, [], ◌∷◌, length, Option, Some, None, refl, sym, ap, subst}
use Rattle.std.specs.Prelude.{⊤}
use Rattle.std.specs.List.{list_all}
use Rattle.irtext_base.specs.Format as format
use Rattle.irtext_base.specs.Format.{Format, Id, count, is_dictionary, same_text, has}
use Rattle.irtext_base.specs.Text.{Text}
use Rattle.irtext_grammar.specs.Grammar.Forest.{Regions, no_regions, region, Blocks, no_blocks, block, Operations, no_operations, operation, regions_list}
use Rattle.irtext_grammar.specs.Grammar.Tree.{Attribute}
use Rattle.irtext_grammar.specs.Graphs.Closed.{FitsCustom, FitsFormat}
use Rattle.irtext_grammar.specs.Graphs.Graph.{GraphOp, GraphBlock, Printing, Limit, outlined, written_keys, is_elided, inside}
use Rattle.irtext_print.specs.declared.printable.refusal.Refusal.{Refusal}
use Rattle.irtext_print.specs.declared.printable.refusal.Refusal.TheVariants.{Memory, Depth, Misfit}
use Rattle.irtext_print_ops.specs.Faults.{OperationFault, RegionsFault, BlocksFault, OperationsFault}
use Rattle.pliron_text.proofs.SameText.{C, D, outlined_same, inside_same, is_elided_same}

all_same : {X : Type 0} (f h : X → Bool) → ((x : X) → f x ≡ h x) → (xs : List X) → list_all f xs ≡ list_all h xs
all_same f h e [] = refl
all_same f h e (x ∷ xs) = rw (e x, all_same f h e xs) refl

module _ {T A : Type 0} (own_outlined own_once : A → Bool) (same : A → A → Bool) (formats : Id → Option Format) (given given' : ℕ → Option Text) (label label' : ℕ × ℕ → Option Text) (types types' : ℕ → Option T) (isolated : Id → Bool) where
  -- the one context, and the other
  abbrev c : Printing T A
  c = C own_outlined own_once same formats given given' label label' types types'

  abbrev d : Printing T A
  d = D own_outlined own_once same formats given given' label label' types types'

  covered_same : (ds : List format.Directive) (es : List (Text × Attribute A)) → list_all (λ e. has same_text e.0 (written_keys d ds) || outlined d e.1) es ≡ list_all (λ e. has same_text e.0 (written_keys c ds) || outlined c e.1) es
  covered_same ds es = all_same (λ e. has same_text e.0 (written_keys d ds) || outlined d e.1) (λ e. has same_text e.0 (written_keys c ds) || outlined c e.1)
      (λ e. ap (λ b. has same_text e.0 (written_keys c ds) || b) (outlined_same own_outlined own_once same formats given given' label label' types types' e.1)) es

  fits_custom : (ds : List format.Directive) (o : GraphOp T A) (n : ℕ) → FitsCustom c isolated ds o n → FitsCustom d isolated ds o n
  fits_custom ds o n f = record {
    operands = f.operands;
    successors = f.successors;
    results = f.results;
    regions = f.regions;
    keys_there = f.keys_there;
    symbol = f.symbol;
    others_outlined = ap (λ b. not (count is_dictionary ds == 0) || b) (covered_same ds o.attributes) ∙ f.others_outlined;
  }

  fits_format : (f : Option Format) (o : GraphOp T A) (n : ℕ) → FitsFormat c isolated f o n → FitsFormat d isolated f o n
  fits_format None o n h = absurd h
  fits_format (Some format.canonical) o n h = tt
  fits_format (Some (format.custom ds)) o n h = (h.0, fits_custom ds o n h.1)

  module _ (width : ℕ) where
    pub operation_fault : (e : Refusal) (o : GraphOp T A) (rs : Regions (GraphOp T A) (GraphBlock T A) ⊤) → OperationFault d isolated width e o rs → OperationFault c isolated width e o rs
    operation_fault (Memory m) o rs h = absurd h
    operation_fault Depth o rs h = absurd h
    operation_fault Misfit o rs h = λ f. h (fits_format (formats o.id) o (length (regions_list rs)) f)

    mutual
      pub regions_fault : (e : Refusal) (i : ℕ) (l : Limit) (rs : Regions (GraphOp T A) (GraphBlock T A) ⊤) → RegionsFault d isolated width e i l rs → RegionsFault c isolated width e i l rs
      regions_fault e i l no_regions h = h
      regions_fault e i l (region r bs rs) (inl (shown, h)) = inl (sym elided ∙ shown, elim h [ inl deep ↦ inl deep | inr b ↦ inr (blocks_fault e (i + width) (inside c l) bs (subst (λ k. BlocksFault d isolated width e (i + width) k bs) within b)) ])
        where
          elided : is_elided d l ≡ is_elided c l
          elided = is_elided_same own_outlined own_once same formats given given' label label' types types' l

          within : inside d l ≡ inside c l
          within = inside_same own_outlined own_once same formats given given' label label' types types' l
      regions_fault e i l (region r bs rs) (inr h) = inr (regions_fault e i l rs h)

      blocks_fault : (e : Refusal) (i : ℕ) (l : Limit) (bs : Blocks (GraphOp T A) (GraphBlock T A) ⊤) → BlocksFault d isolated width e i l bs → BlocksFault c isolated width e i l bs
      blocks_fault e i l no_blocks h = h
      blocks_fault e i l (block b os bs) (inl (inl deep)) = inl (inl deep)
      blocks_fault e i l (block b os bs) (inl (inr h)) = inl (inr (operations_fault e (i + width) l os h))
      blocks_fault e i l (block b os bs) (inr h) = inr (blocks_fault e i l bs h)

      operations_fault : (e : Refusal) (i : ℕ) (l : Limit) (os : Operations (GraphOp T A) (GraphBlock T A) ⊤) → OperationsFault d isolated width e i l os → OperationsFault c isolated width e i l os
      operations_fault e i l no_operations h = h
      operations_fault e i l (operation o rs os) (inl (inl h)) = inl (inl (operation_fault e o rs h))
      operations_fault e i l (operation o rs os) (inl (inr h)) = inl (inr (regions_fault e i l rs h))
      operations_fault e i l (operation o rs os) (inr h) = inr (operations_fault e i l os h)
