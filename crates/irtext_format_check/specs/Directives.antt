-- The conditions on a list of directives, in the order in which the code checks them.
use Rattle.std.specs.Prelude.{ℕ, Bool, true, false, cond, not, ◌&&◌, ◌||◌, ◌==◌, nat_lt, List, [], ◌∷◌, Option, Some, None}
use Rattle.std.specs.List.{list_all, filter_map}
use Rattle.irtext_base.specs.Format as format
use Rattle.irtext_base.specs.Format.{Format, Directive, has, is_operands, is_successors, is_regions, is_dictionary, is_header, is_any_region, keys, continuings, followers, disjoint, distinct, same_text, given_names_key, c1, c2, c3, c4, c5, c6, c7, c8}
use Rattle.irtext_base.specs.Text.{Text}
use Rattle.irtext_base.specs.declared.format.FormatFault.{FormatFault}
use Rattle.irtext_base.specs.declared.format.FormatFault.TheVariants as condition
use Rattle.irtext_format_check.specs.declared.format.parts.Part.{Part}
use Rattle.irtext_format_check.specs.declared.format.parts.Part.TheVariants as part
use Rattle.irtext_format_check.specs.declared.format.parts.Sole.{Sole}
use Rattle.irtext_format_check.specs.declared.format.parts.Sole.TheVariants as sole
use Rattle.irtext_format_check.specs.declared.format.rules.Rule.{Rule}
use Rattle.irtext_format_check.specs.declared.format.rules.Rule.TheVariants as rule

-- the number of a condition
abbrev pub condition_number : FormatFault → ℕ
condition_number condition.LiteralNotPrintable = 1
condition_number condition.OperandIndices = 2
condition_number condition.SuccessorIndices = 3
condition_number condition.ResultTypeIndices = 4
condition_number condition.RegionOrder = 5
condition_number condition.AttributeKeys = 6
condition_number condition.NameAfterRegion = 7
condition_number condition.AmbiguousList = 8

-- the directives meet a condition
abbrev pub meets : FormatFault → List Directive → Bool
meets condition.LiteralNotPrintable = c1
meets condition.OperandIndices = c2
meets condition.SuccessorIndices = c3
meets condition.ResultTypeIndices = c4
meets condition.RegionOrder = c5
meets condition.AttributeKeys = c6
meets condition.NameAfterRegion = c7
meets condition.AmbiguousList = c8

-- the number of the first of these conditions that the directives fail, or 0 if they fail none
abbrev pub first_of : List FormatFault → List Directive → ℕ
first_of [] ds = 0
first_of (c ∷ cs) ds = cond (meets c ds) (first_of cs ds) (condition_number c)

-- the index that a directive names among the parts of one kind
abbrev pub place_of : Part → Directive → Option ℕ
place_of part.Operand d = elim d [ format.operand i ↦ Some i | _ ↦ None ]
place_of part.Successor d = elim d [ format.successor i ↦ Some i | _ ↦ None ]
place_of part.ResultType d = elim d [ format.result_type i ↦ Some i | _ ↦ None ]
place_of part.Region d = elim d [ format.region i ↦ Some i | _ ↦ None ]

-- the indices that directives name among the parts of one kind
abbrev pub places_of : Part → List Directive → List ℕ
places_of p = filter_map (place_of p)

-- the key that a directive names
abbrev pub key_of : Directive → Option Text
key_of d = elim d [ format.attribute k ↦ Some k | _ ↦ None ]

-- the directive is this one of those that may come only once
abbrev pub is_sole : Sole → Directive → Bool
is_sole sole.Operands = is_operands
is_sole sole.Successors = is_successors
is_sole sole.Regions = is_regions
is_sole sole.Dictionary = is_dictionary
is_sole sole.Header = is_header

-- the directive prints names or a type
abbrev pub is_named : Directive → Bool
is_named d = elim d [ format.operand i ↦ true | format.operands ↦ true | format.successor i ↦ true | format.successors ↦ true | format.result_type i ↦ true | _ ↦ false ]

-- the directive prints one region
abbrev pub is_region : Directive → Bool
is_region d = elim d [ format.region i ↦ true | _ ↦ false ]

-- there is a value, and it is in the list
abbrev pub again : {X : Type 0} → (X → X → Bool) → Option X → List X → Bool
again same None xs = false
again same (Some x) xs = has same x xs

-- there is a value, and it is the same as this one
abbrev pub is_value : {X : Type 0} → (X → X → Bool) → X → Option X → Bool
is_value same x None = false
is_value same x (Some y) = same x y

-- an index, if there is one, is below the number
abbrev pub is_below : ℕ → Option ℕ → Bool
is_below n None = true
is_below n (Some k) = nat_lt k n

-- what a rule demands of a directive and the directives after it
abbrev pub keeps : Rule → Directive → List Directive → Bool
keeps (rule.PlacesDiffer p) d ds = not (again ◌==◌ (place_of p d) (places_of p ds))
keeps rule.KeysDiffer d ds = not (again format.same_text (key_of d) (keys ds))
keeps rule.RegionsBefore d ds = not (is_regions d) || list_all (λ e. not (is_region e)) ds
keeps rule.NamesBefore d ds = not (is_any_region d) || list_all (λ e. not (is_named e)) ds
keeps rule.ListsEnd d ds = disjoint (continuings d) (followers ds)

-- each directive, with those after it, obeys the rule
abbrev pub all_keep : Rule → List Directive → Bool
all_keep r [] = true
all_keep r (d ∷ ds) = keeps r d ds && all_keep r ds

-- no key is named twice, and none is the one of given names
abbrev pub free_keys : List Directive → Bool
free_keys ds = distinct same_text (keys ds) && not (has same_text given_names_key (keys ds))
