-- For callers: why an operation does not fit its format, in the order in which the reasons are checked.
use Rattle.std.specs.Prelude.{◌≡◌, ◌<◌, ◌+◌, ◌^◌, ℕ, suc, Bool, true, false, cond, not, ◌||◌, ◌==◌, nat_lt, List, [], ◌∷◌, ◌++◌, length, codes, decimal, Option, Some, None, is_none, Result, Ok, Err, IfSome, ⊤}
use Rattle.irtext_base.specs.Text.{Text}
use Rattle.irtext_base.specs.Format as format
use Rattle.irtext_base.specs.Format.{Format, Directive, Id, count, operand_places, successor_places, type_places, is_operands, is_successors, is_dictionary}
use Rattle.irtext_base.specs.declared.text.AttrText as attr_text
use Rattle.irtext_context.specs.Context.{ContextView}
use Rattle.irtext_graph.specs.Parts.{regions}
use Rattle.irtext_graph.specs.declared.arena.Ptr.{Ptr}
use Rattle.irtext_graph.specs.declared.object.Operation.{Operation}
use Rattle.irtext_grammar.specs.Contexts.Formats.{isolated}
use Rattle.irtext_grammar.specs.Contexts.Nested.{seen_own}
use Rattle.irtext_grammar.specs.Grammar.Tree.{Attribute}
use Rattle.irtext_grammar.specs.Graphs.Closed.{FitsFormat}
use Rattle.irtext_grammar.specs.Graphs.Graph.{GraphOp, Printing, outlined}
use Rattle.irtext_print.specs.Printers.FitFaults.{first_key, missing_key}
use Rattle.irtext_print.specs.Printers.PieceText.{outlining, is_key_written}
use Rattle.irtext_print.specs.Printers.PrintedOperation.{regions_fit, symbol_fits}
use Rattle.irtext_print_ops.specs.Names.{printing_by}
use Rattle.irtext_print_ops.specs.declared.fits.Counts.{Counts}
use Rattle.irtext_print_ops.specs.declared.fits.FitFault.{FitFault}
use Rattle.irtext_print_ops.specs.declared.fits.FitFault.TheVariants as fault
use Rattle.irtext_print_ops.specs.declared.fits.Places.{Places}

-- so many parts fit directives with so many places: at least as many parts as places if a list directive prints the others, otherwise
-- exactly as many
abbrev pub counts_fit : ℕ → ℕ → ℕ → Bool
counts_fit places lists n = cond (lists == 0) (n == places) (not (nat_lt n places))

-- the counts before the first directive
abbrev pub no_places : Places
no_places = record {
  operands = 0;
  successors = 0;
  types = 0;
  regions = 0;
  all_operands = false;
  all_successors = false;
  all_regions = false;
  keys = false;
  header = false;
  dictionary = false;
}

-- the counts after one more directive
abbrev pub counted : Places → Directive → Places
counted p (format.word s) = p
counted p (format.operand i) = record p { operands = p.operands + 1 }
counted p format.operands = record p { all_operands = true }
counted p (format.successor i) = record p { successors = p.successors + 1 }
counted p format.successors = record p { all_successors = true }
counted p (format.attribute k) = record p { keys = true }
counted p format.dictionary = record p { dictionary = true }
counted p (format.result_type i) = record p { types = p.types + 1 }
counted p (format.region i) = record p { regions = p.regions + 1 }
counted p format.regions = record p { all_regions = true }
counted p format.header = record p { header = true }

-- the counts after more directives
abbrev pub counted_on : Places → List Directive → Places
counted_on p [] = p
counted_on p (d ∷ ds) = counted_on (counted p d) ds

-- the counts of these directives
abbrev pub places_of : List Directive → Places
places_of ds = counted_on no_places ds

-- one more can be counted
pub record AreFew (p : Places) : Type 0 where
  pub operands : p.operands + 1 < 2 ^ 64
  pub successors : p.successors + 1 < 2 ^ 64
  pub types : p.types + 1 < 2 ^ 64
  pub regions : p.regions + 1 < 2 ^ 64

-- the number of the first test that fails, if the first test has this number
abbrev pub first_failed : ℕ → List Bool → Option ℕ
first_failed k [] = None
first_failed k (b ∷ bs) = cond b (first_failed (suc k) bs) (Some k)

-- the number of a reason in the order in which reasons are checked
abbrev pub number_of : FitFault → ℕ
number_of fault.NotRegistered = 0
number_of (fault.OperandCount n) = 1
number_of (fault.SuccessorCount n) = 2
number_of (fault.ResultCount n) = 3
number_of (fault.RegionCount n) = 4
number_of (fault.MissingAttribute key) = 5
number_of fault.NoSymbol = 6
number_of (fault.UnwrittenAttribute key) = 7

-- the text of a reason, in bytes
abbrev pub fault_text : FitFault → List ℕ
fault_text fault.NotRegistered = codes "The operation is not registered"
fault_text (fault.OperandCount n) = codes "The format does not write " ++ (decimal n ++ codes " operands")
fault_text (fault.SuccessorCount n) = codes "The format does not write " ++ (decimal n ++ codes " successors")
fault_text (fault.ResultCount n) = codes "The format does not write " ++ (decimal n ++ codes " result types")
fault_text (fault.RegionCount n) = codes "The format does not write " ++ (decimal n ++ codes " regions")
fault_text (fault.MissingAttribute key) = codes "The operation has no attribute " ++ key.now
fault_text fault.NoSymbol = codes "The operation has no symbol"
fault_text (fault.UnwrittenAttribute key) = codes "The format does not write the attribute " ++ key.now

-- the number of the reason, if a check returns one
abbrev pub refused_by : {X : Type 0} → Result X FitFault → Option ℕ
refused_by (Ok x) = None
refused_by (Err reason) = Some (number_of reason)

module _ {A : Type 0} (is_outlined : A → Bool) (ds : List Directive) where
  -- the attribute is printed: by a directive that names its key, or in the section
  abbrev pub is_covered : Text × Attribute A → Bool
  is_covered e = is_key_written e.0 ds || outlined (outlining is_outlined) e.1

  -- the key of the first attribute that is printed in neither way
  abbrev pub first_uncovered : List (Text × Attribute A) → Option Text
  first_uncovered es = first_key (λ e. not (is_covered e)) es

  -- the same, if no directive prints the dictionary
  abbrev pub uncovered_key : List (Text × Attribute A) → Option Text
  uncovered_key es = cond (count is_dictionary ds == 0) (first_uncovered es) None

  module _ (counts : Counts) (es : List (Text × Attribute A)) where
    -- the tests for an operation with so many parts and these attributes, in order
    abbrev pub tests : List Bool
    tests =
        counts_fit (length (operand_places ds)) (count is_operands ds) counts.operands
        ∷ counts_fit (length (successor_places ds)) (count is_successors ds) counts.successors
        ∷ (counts.results == length (type_places ds))
        ∷ regions_fit ds counts.regions
        ∷ is_none (missing_key es ds)
        ∷ symbol_fits es ds
        ∷ is_none (uncovered_key es)
        ∷ []

    -- what a reason names: the number of parts, or the first such key
    abbrev pub Names : FitFault → Type 0
    Names fault.NotRegistered = ⊤
    Names (fault.OperandCount n) = n ≡ counts.operands
    Names (fault.SuccessorCount n) = n ≡ counts.successors
    Names (fault.ResultCount n) = n ≡ counts.results
    Names (fault.RegionCount n) = n ≡ counts.regions
    Names (fault.MissingAttribute key) = missing_key es ds ≡ Some key.now
    Names fault.NoSymbol = ⊤
    Names (fault.UnwrittenAttribute key) = uncovered_key es ≡ Some key.now

-- the format with these directives, or the canonical one if there are none
abbrev pub format_by : Option (List Directive) → Format
format_by None = format.canonical
format_by (Some ds) = format.custom ds

-- the number of parts of an operation with so many regions
abbrev pub counts_of : {T A : Type 0} → GraphOp T A → ℕ → Counts
counts_of o n = record { operands = length o.operands; successors = length o.successors; results = length o.results; regions = n }

module _ {T A : Type 0} (C : Printing T A) (isolated : Id → Bool) (o : GraphOp T A) (n : ℕ) where
  -- the number of the first reason why the operation does not fit this format
  abbrev pub first_reason : Option Format → Option ℕ
  first_reason None = Some 0
  first_reason (Some format.canonical) = None
  first_reason (Some (format.custom ds)) = first_failed 1 (tests C.own_outlined ds (counts_of o n) o.attributes)

  -- what a reason names of the operation
  abbrev pub NamesIn : Option Format → FitFault → Type 0
  NamesIn None reason = ⊤
  NamesIn (Some format.canonical) reason = ⊤
  NamesIn (Some (format.custom ds)) reason = Names C.own_outlined ds (counts_of o n) o.attributes reason

  -- The operation fits its format, with so many regions.
  abbrev pub FitsOwn : Type 0
  FitsOwn = FitsFormat C isolated (C.format_of o.id) o n

  -- The operation does not fit its format, and this is the first reason.
  pub record IsFirstReason (reason : FitFault) : Type 0 where
    pub first : first_reason (C.format_of o.id) ≡ Some (number_of reason)
    pub names : NamesIn (C.format_of o.id) reason
    pub unfit : FitsOwn → ⊥

module _ {T A : Type 0} (written : A → Text) (attributes : attr_text.Ghosts A A) (same : A → A → Bool) (ctx : ContextView T A) (p : Ptr Operation) where
  -- a live operation of a context fits its format
  abbrev pub FitsIn : Type 0
  FitsIn = IfSome (seen_own written ctx p) (λ o. FitsOwn (printing_by attributes same ctx) (isolated ctx.dialects) o (length (regions ctx.graph p)))

  -- a live operation of a context does not fit its format, and this is the first reason
  abbrev pub IsFirstReasonIn : FitFault → Type 0
  IsFirstReasonIn reason = IfSome (seen_own written ctx p) (λ o. IsFirstReason (printing_by attributes same ctx) (isolated ctx.dialects) o (length (regions ctx.graph p)) reason)
