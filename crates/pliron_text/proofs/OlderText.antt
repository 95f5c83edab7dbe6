-- A root that is kept is printed as before, and refused for the same reasons.
use Rattle.std.proofs.Common.{◌≡◌, ◌∙◌, ◌++◌, ◌⊎◌, inl, inr, ℕ, Bool, true, List, [], length, Option, Some, None, IsSome, option_map, refl, sym, ap, ap₂, subst}
use Rattle.std.specs.Prelude.{⊤}
use Rattle.irtext_base.specs.Own.{Language, texts_of, unplaced}
use Rattle.irtext_base.specs.Text.{Text}
use Rattle.irtext_base.specs.declared.text.AttrText as attr_text
use Rattle.irtext_base.specs.declared.text.IrText as ir_text
use Rattle.irtext_context.specs.Context.{ContextView, OperationView, operation}
use Rattle.irtext_context.specs.Dialects.{Table}
use Rattle.irtext_graph.specs.Graph.{children, parent, parent_of}
use Rattle.irtext_graph.specs.Nested.{Nested}
use Rattle.irtext_graph.specs.declared.arena.Ptr.{Ptr}
use Rattle.irtext_graph.specs.declared.object.BasicBlock.{BasicBlock}
use Rattle.irtext_graph.specs.declared.object.Operation.{Operation}
use Rattle.irtext_grammar.specs.Contexts.Formats.{format_of, isolated}
use Rattle.irtext_grammar.specs.Contexts.Nested.{pointers, given_to, type_of, label_of, seen_operation, seen_regions, seen_root}
use Rattle.irtext_grammar.specs.Grammar.Forest.{Regions, AllRegions}
use Rattle.irtext_grammar.specs.Graphs.Graph.{Graph, GraphOp, GraphBlock, Printing}
use Rattle.irtext_grammar.specs.Spelling.Section.{text}
use Rattle.irtext_print.proofs.Printers.RootParts.{there}
use Rattle.irtext_print.specs.Items.{section_at}
use Rattle.irtext_print.specs.Printers.PrintedOperation.{levels}
use Rattle.irtext_print.specs.Printers.Shown.{Shown}
use Rattle.irtext_print.specs.declared.printable.refusal.Refusal.{Refusal}
use Rattle.irtext_print.specs.declared.printable.refusal.Refusal.TheVariants.{Memory, Depth, Misfit}
use Rattle.irtext_print_ir.proofs.Printers.Gathered.{text_defined}
use Rattle.irtext_print_ir.specs.Printers.Printed.{block_round, root_items, root_text}
use Rattle.irtext_print_ops.proofs.Depths.{inside_is}
use Rattle.irtext_print_ops.specs.Faults.{OperationFault, RegionsFault}
use Rattle.irtext_print_ops.specs.Heads as heads
use Rattle.irtext_print_ops.specs.Walk.{or_nothing}
use Rattle.pliron_text.specs.Older.{IsOlder}
use Rattle.pliron_text.proofs.Older as older
use Rattle.pliron_text.proofs.SameFaults.{operation_fault, regions_fault}
use Rattle.pliron_text.proofs.SameNames.{op_names, regions_names}
use Rattle.pliron_text.proofs.SameText.{OpSame, HeadSame, under, under_same, text_same}

module _ {T A : Type 0} (types : ir_text.Ghosts T A) (owns : ir_text.Ghosts A A) (attributes : attr_text.Ghosts A A) (same : A → A → Bool) (p : Ptr Operation) (old new : ContextView T A) (is_older : IsOlder p old new) where
  -- what printing asks of a context whose dialects are these
  abbrev asked : ContextView T A → List (Text × Table) → Printing T A
  asked c dialects = record { given = given_to c; label = label_of c; type_of = type_of c; own_outlined = attributes.outlined; own_once = attributes.print_once; same_own = same; format_of = format_of dialects }

  -- and of the texts of the caller's types and attributes
  abbrev spoken : List (Text × Table) → Language ⊤ T A
  spoken dialects = unplaced (texts_of types.reading types.written) (texts_of owns.reading owns.written) (format_of dialects)

  abbrev L : Language ⊤ T A
  L = spoken old.dialects

  abbrev C : Printing T A
  C = asked old old.dialects

  abbrev D : Printing T A
  D = asked new old.dialects

  -- everything nested in the root, as printing sees it
  abbrev nested_in : ContextView T A → Regions (GraphOp T A) (GraphBlock T A) ⊤
  nested_in c = seen_regions owns.written c (pointers c.graph p).regions

  abbrev itself : ContextView T A → GraphOp T A
  itself c = heads.operation_at types owns attributes same c p

  regions_are : nested_in new ≡ nested_in old
  regions_are =
      let kept = is_older.kept in
      let before = is_older.before in
      ap (λ ps. seen_regions owns.written new ps.regions) (older.nested_stays p old new is_older)
      ∙ older.regions_seen old new p kept before.nested owns.written kept.counts.first_place before.used (pointers old.graph p).regions (older.inside p old new is_older) is_older.located.1

  pub view_of : (view : OperationView T A) × (operation old p ≡ Some view)
  view_of = there (operation old p) is_older.there

  pub view_is : operation new p ≡ Some view_of.0
  view_is = older.operation_same old new p is_older.kept is_older.before.nested p (older.own_same p old new is_older) ∙ view_of.1

  itself_is : (c : ContextView T A) → operation c p ≡ Some view_of.0 → itself c ≡ seen_operation owns.written c p view_of.0
  itself_is c e = ap (λ v. or_nothing (option_map (seen_operation owns.written c p) v)) e

  itself_same : itself new ≡ itself old
  itself_same =
      let kept = is_older.kept in
      let before = is_older.before in
      itself_is new view_is
      ∙ older.op_seen old new p kept before.nested owns.written kept.counts.first_place before.used p view_of.0 (older.own_same p old new is_older) (is_older.located.0 view_of.0 view_of.1)
      ∙ sym (itself_is old view_of.1)

  -- the names that it mentions
  abbrev Names : GraphOp T A → Type 0
  Names = OpSame attributes.outlined attributes.print_once same (format_of old.dialects) (given_to old) (given_to new) (label_of old) (label_of new) (type_of old) (type_of new)

  own_names : Names (itself old)
  own_names = subst Names (sym (itself_is old view_of.1)) (op_names old new p is_older.kept is_older.before is_older.after attributes.outlined attributes.print_once same (format_of old.dialects) owns.written p view_of.0)

  -- and those that what is nested in it mentions
  abbrev HeadNames : GraphBlock T A → Type 0
  HeadNames = HeadSame attributes.outlined attributes.print_once same (format_of old.dialects) (given_to old) (given_to new) (label_of old) (label_of new) (type_of old) (type_of new)

  nested_names : AllRegions Names HeadNames (λ r. ⊤) (nested_in old)
  nested_names = regions_names old new p is_older.kept is_older.before is_older.after attributes.outlined attributes.print_once same (format_of old.dialects) owns.written (pointers old.graph p).regions

  -- ---- the text of a root, and of its section
  module _ {U : Type 0} (s : Shown U) where
    -- the text, if this is seen of the operation and what is nested in it
    abbrev shown : Language ⊤ T A → Printing T A → GraphOp T A → Regions (GraphOp T A) (GraphBlock T A) ⊤ → Bool → ℕ → Text
    shown M P o rs marked n = under attributes.outlined attributes.print_once same (format_of old.dialects) (given_to old) (given_to new) (label_of old) (label_of new) (type_of old) (type_of new) M P o rs s.indent s.width (levels s.limit) marked n

    text_is : (c : ContextView T A) → Nested (children c.graph) (parent c.graph) → (marked : Bool) (n : ℕ) → heads.text_under types owns attributes same c p s marked n ≡ shown (spoken c.dialects) (asked c c.dialects) (itself c) (nested_in c) marked n
    text_is c nested marked n = ap (λ ps. shown (spoken c.dialects) (asked c c.dialects) (itself c) (seen_regions owns.written c ps) marked n) (sym (inside_is c.graph nested p))

    pub text_stays : (marked : Bool) (n : ℕ) → heads.text_under types owns attributes same new p s marked n ≡ heads.text_under types owns attributes same old p s marked n
    text_stays marked n =
        text_is new is_older.after.nested marked n
        ∙ ap (λ ds. shown (spoken ds) (asked new ds) (itself new) (nested_in new) marked n) is_older.kept.dialects
        ∙ ap₂ (λ o rs. shown L D o rs marked n) itself_same regions_are
        ∙ under_same attributes.outlined attributes.print_once same (format_of old.dialects) (given_to old) (given_to new) (label_of old) (label_of new) (type_of old) (type_of new) L (itself old) (nested_in old) own_names nested_names s.indent s.width (levels s.limit) marked n
        ∙ sym (text_is old is_older.before.nested marked n)

    -- what follows the text of an operation in this block, or in none
    abbrev after_text : ContextView T A → Option (Ptr BasicBlock) → Text
    after_text c o = elim o [ Some b ↦ [] | None ↦ section_at types owns attributes same c (root_items types owns attributes same c p s) ]

    pub block_same : block_round new p ≡ block_round old p
    block_same = ap parent_of (older.own_same p old new is_older)

    -- the root, as printing sees it
    abbrev pub graph : Graph T A
    graph = record { own = seen_operation owns.written old p view_of.0; regions = nested_in old }

    pub sees_old : seen_root owns.written old p ≡ Some graph
    sees_old =
        let whole : OperationView T A → Graph T A = λ op. record { own = seen_operation owns.written old p op; regions = nested_in old } in
        ap (option_map whole) view_of.1

    -- the text of that graph is the same in both contexts
    pub graph_text_same : text (spoken new.dialects) (asked new new.dialects) graph s.indent s.width (levels s.limit) ≡ text L C graph s.indent s.width (levels s.limit)
    graph_text_same =
        ap (λ ds. text (spoken ds) (asked new ds) graph s.indent s.width (levels s.limit)) is_older.kept.dialects
        ∙ text_same attributes.outlined attributes.print_once same (format_of old.dialects) (given_to old) (given_to new) (label_of old) (label_of new) (type_of old) (type_of new) L graph
        (subst Names (itself_is old view_of.1) own_names) nested_names s.indent s.width (levels s.limit)

    pub sees_new : seen_root owns.written new p ≡ Some graph
    sees_new = older.seen_stays p old new is_older owns.written ∙ sees_old

    pub root_stays : s.gathered ≡ [] → root_text types owns attributes same new p s ≡ root_text types owns attributes same old p s
    root_stays none = go (block_round old p) refl
      where
        go : (o : Option (Ptr BasicBlock)) → block_round old p ≡ o → root_text types owns attributes same new p s ≡ root_text types owns attributes same old p s
        go (Some b) e =
            ap (λ o. heads.text_under types owns attributes same new p s true (length s.gathered) ++ after_text new o) (block_same ∙ e)
            ∙ ap (λ t. t ++ []) (text_stays true (length s.gathered))
            ∙ sym (ap (λ o. heads.text_under types owns attributes same old p s true (length s.gathered) ++ after_text old o) e)
        go None e =
            text_defined types owns attributes same new p s (subst IsSome (sym view_is) refl) is_older.after.nested graph sees_new (block_same ∙ e) none
            ∙ graph_text_same
            ∙ sym (text_defined types owns attributes same old p s is_older.there is_older.before.nested graph sees_old e none)

    -- ---- why it is not printed
    -- the reason, if this is seen of the operation and what is nested in it
    abbrev Refuses : Refusal → Printing T A → List (Text × Table) → GraphOp T A → Regions (GraphOp T A) (GraphBlock T A) ⊤ → Type 0
    Refuses (Memory m) P ds o rs = ⊤
    Refuses Depth P ds o rs = RegionsFault P (isolated ds) s.width Depth s.indent (levels s.limit) rs
    Refuses Misfit P ds o rs = OperationFault P (isolated ds) s.width Misfit o rs ⊎ RegionsFault P (isolated ds) s.width Misfit s.indent (levels s.limit) rs

    refusal_is : (e : Refusal) (c : ContextView T A) → Nested (children c.graph) (parent c.graph) → heads.RefusesUnder types owns attributes same c p s e → Refuses e (asked c c.dialects) c.dialects (itself c) (nested_in c)
    refusal_is e c nested h = subst (λ ps. Refuses e (asked c c.dialects) c.dialects (itself c) (seen_regions owns.written c ps)) (sym (inside_is c.graph nested p)) (as_seen e h)
      where
        as_seen : (e : Refusal) → heads.RefusesUnder types owns attributes same c p s e → Refuses e (asked c c.dialects) c.dialects (itself c) (heads.regions_under types owns attributes same c p)
        as_seen (Memory m) h = tt
        as_seen Depth h = h
        as_seen Misfit h = h

    is_refusal : (e : Refusal) (c : ContextView T A) → Nested (children c.graph) (parent c.graph) → Refuses e (asked c c.dialects) c.dialects (itself c) (nested_in c) → heads.RefusesUnder types owns attributes same c p s e
    is_refusal e c nested h = as_asked e (subst (λ ps. Refuses e (asked c c.dialects) c.dialects (itself c) (seen_regions owns.written c ps)) (inside_is c.graph nested p) h)
      where
        as_asked : (e : Refusal) → Refuses e (asked c c.dialects) c.dialects (itself c) (heads.regions_under types owns attributes same c p) → heads.RefusesUnder types owns attributes same c p s e
        as_asked (Memory m) h = tt
        as_asked Depth h = h
        as_asked Misfit h = h

    -- the reasons of one context are those of the other
    forth : (e : Refusal) (o : GraphOp T A) (rs : Regions (GraphOp T A) (GraphBlock T A) ⊤) → Refuses e D old.dialects o rs → Refuses e C old.dialects o rs
    forth (Memory m) o rs h = tt
    forth Depth o rs h = regions_fault attributes.outlined attributes.print_once same (format_of old.dialects) (given_to old) (given_to new) (label_of old) (label_of new) (type_of old) (type_of new) (isolated old.dialects) s.width Depth s.indent (levels s.limit) rs h
    forth Misfit o rs (inl h) = inl (operation_fault attributes.outlined attributes.print_once same (format_of old.dialects) (given_to old) (given_to new) (label_of old) (label_of new) (type_of old) (type_of new) (isolated old.dialects) s.width Misfit o rs h)
    forth Misfit o rs (inr h) = inr (regions_fault attributes.outlined attributes.print_once same (format_of old.dialects) (given_to old) (given_to new) (label_of old) (label_of new) (type_of old) (type_of new) (isolated old.dialects) s.width Misfit s.indent (levels s.limit) rs h)

    back : (e : Refusal) (o : GraphOp T A) (rs : Regions (GraphOp T A) (GraphBlock T A) ⊤) → Refuses e C old.dialects o rs → Refuses e D old.dialects o rs
    back (Memory m) o rs h = tt
    back Depth o rs h = regions_fault attributes.outlined attributes.print_once same (format_of old.dialects) (given_to new) (given_to old) (label_of new) (label_of old) (type_of new) (type_of old) (isolated old.dialects) s.width Depth s.indent (levels s.limit) rs h
    back Misfit o rs (inl h) = inl (operation_fault attributes.outlined attributes.print_once same (format_of old.dialects) (given_to new) (given_to old) (label_of new) (label_of old) (type_of new) (type_of old) (isolated old.dialects) s.width Misfit o rs h)
    back Misfit o rs (inr h) = inr (regions_fault attributes.outlined attributes.print_once same (format_of old.dialects) (given_to new) (given_to old) (label_of new) (label_of old) (type_of new) (type_of old) (isolated old.dialects) s.width Misfit s.indent (levels s.limit) rs h)

    pub refused_stays : (e : Refusal) → heads.RefusesUnder types owns attributes same new p s e → heads.RefusesUnder types owns attributes same old p s e
    refused_stays e h =
        let now = subst (λ ds. Refuses e (asked new ds) ds (itself new) (nested_in new)) is_older.kept.dialects (refusal_is e new is_older.after.nested h) in
        let seen = subst (λ rs. Refuses e D old.dialects (itself old) rs) regions_are (subst (λ o. Refuses e D old.dialects o (nested_in new)) itself_same now) in
        is_refusal e old is_older.before.nested (forth e (itself old) (nested_in old) seen)

    pub still_refused : (e : Refusal) → heads.RefusesUnder types owns attributes same old p s e → heads.RefusesUnder types owns attributes same new p s e
    still_refused e h =
        let was = back e (itself old) (nested_in old) (refusal_is e old is_older.before.nested h) in
        let seen = subst (λ o. Refuses e D old.dialects o (nested_in new)) (sym itself_same) (subst (λ rs. Refuses e D old.dialects (itself old) rs) (sym regions_are) was) in
        is_refusal e new is_older.after.nested (subst (λ ds. Refuses e (asked new ds) ds (itself new) (nested_in new)) (sym is_older.kept.dialects) seen)
