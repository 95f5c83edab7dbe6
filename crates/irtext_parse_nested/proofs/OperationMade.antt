-- An operation that begins, as a context has it: it was created, as the last of its block if one is given, and all else is unchanged and
-- live; names still match the graph, and wait for the same definitions.
use Rattle.std.proofs.Common.{◌≡◌, ◌≤◌, ◌+◌, ◌∙◌, inl, inr, ℕ, suc, List, [], ◌∷◌, ◌++◌, length, Option, Some, None, IsSome, refl, sym, ap, subst, arith}
use Rattle.std.specs.Prelude.{IfSome}
use Rattle.std.specs.Option.{option_map}
use Rattle.irtext_base.specs.declared.location.Location.{Location}
use Rattle.irtext_context.specs.Context.{ContextView, operation, known}
use Rattle.irtext_context.specs.Made.{made_view}
use Rattle.irtext_context.specs.declared.base.operation.OperationData.{OperationData}
use Rattle.irtext_context.proofs.Contexts.{made_seen}
use Rattle.irtext_graph.specs.Back.{AllOlder}
use Rattle.irtext_graph.specs.Graph.{IsNew, content_of, parent, numbered}
use Rattle.irtext_graph.specs.Parts.{operation_at, results, results_of}
use Rattle.irtext_graph.specs.Erasing.{without_uses}
use Rattle.irtext_graph.proofs.Nests.{same_or_other}
use Rattle.irtext_graph.proofs.Same.{ptr_tells}
use Rattle.irtext_context.specs.declared.base.block.BlockData.{BlockData}
use Rattle.irtext_graph.specs.declared.arena.Ptr.{Ptr}
use Rattle.irtext_graph.specs.declared.object.BasicBlock.{BasicBlock}
use Rattle.irtext_graph.specs.declared.object.Object.{Object}
use Rattle.irtext_graph.specs.declared.object.Object.TheVariants.{TheOperation, TheBlock}
use Rattle.irtext_grammar.specs.Grammar.Tree.{in_order}
use Rattle.irtext_names.specs.Tied.{MatchesGraph, ArePending}
use Rattle.irtext_names.proofs.Added.{added_ties, operation_waits}
use Rattle.irtext_names.proofs.Gained.{operation_added}
use Rattle.irtext_grammar.specs.Grows.{with_last_operation, OperationCame}
use Rattle.irtext_grammar.specs.Unchanged.{OwnSoFar, HasOwn, HasUses, IsThere, ModifiesOnly}
use Rattle.irtext_grammar.proofs.Edits.{operation_made, operation_made_spares, operation_came, operation_came_last, operation_came_spares, operation_placed_spares, spares_then, spares_wider}
use Rattle.irtext_grammar.proofs.Kept.{there_still}
use Rattle.irtext_parse_nested.specs.declared.beginning.ReadFront.{ReadFront}
use Rattle.irtext_parse_nested.specs.declared.frame.BegunOperation.{BegunOperation}
use Rattle.irtext_names.specs.Gathered.{types_made}
use Rattle.irtext_names.specs.Placing.{PlacedIn}
use Rattle.irtext_parse_nested.specs.Beginning.{MakesOf, ComesInto}
use Rattle.irtext_names.specs.Items.{Names, KeepsLive, BlanksDefine}
use Rattle.irtext_names.specs.LosesPlaceholders.{BlanksHaveResults}
use Rattle.irtext_parse_nested.proofs.Blanks.{blanks_on}
use Rattle.irtext_names.proofs.Losing.{blanks_by}
use Rattle.irtext_names.proofs.Steady.{seen_operation}
use Rattle.irtext_parse_nested.proofs.Begins.{operation_placed_ties, operation_placed_waits}
use Rattle.irtext_names.proofs.Lasting.{lasts_then, lasts_itself, data_there}
use Rattle.irtext_parse_nested.proofs.UsedLive.{used_spares, used_lasts, made_new, made_lasts, placed_lasts}
use Rattle.irtext_stream.specs.declared.position.Place.{Place}

count_numbered : {T : Type 0} (n : ℕ) (ts : List T) → length (numbered n ts) ≡ length ts
count_numbered n [] = refl
count_numbered n (t ∷ ts) = ap (λ k. suc k) (count_numbered (n + 1) ts)

count_known : {T : Type 0} (ts : List T) → length (known ts) ≡ length ts
count_known [] = refl
count_known (t ∷ ts) = ap (λ k. suc k) (count_known ts)

module _ {T A : Type 0} {blk : Option (Ptr BasicBlock)} {front : ReadFront T A} {at : Place} {loc : Location A} {before : Names} {old : ContextView T A} {names : Names} {new : ContextView T A} {b : BegunOperation}
    (m : MakesOf blk front at loc before old names new b) (all_older : AllOlder old.graph.made old.graph) where
  abbrev types : List T
  types = types_made m.creates.gathered.types.items m.creates.gathered.listed

  abbrev held : OperationData A
  held = record { id = front.id; attributes = m.creates.gathered.attributes; loc = loc }

  dialects_used : m.creates.used.dialects ≡ old.dialects
  dialects_used = ap (λ c. c.dialects) m.creates.used_is

  spares_used : ModifiesOnly [] old m.creates.used
  spares_used = used_spares old m.creates.used all_older m.creates.steady.kept m.creates.steady.brings dialects_used

  lasts_used : KeepsLive old m.creates.used
  lasts_used = used_lasts old m.creates.used all_older m.creates.steady.kept m.creates.steady.brings dialects_used

  lasts_made : KeepsLive old m.made
  lasts_made = lasts_then old m.creates.used m.made lasts_used (made_lasts m.creates.used m.made b.op held types m.creates.makes)

  placed_on : (o : Option (Ptr BasicBlock)) → PlacedIn o m.made new b.op → KeepsLive m.made new
  placed_on None p = subst (KeepsLive m.made) (sym p) (lasts_itself m.made)
  placed_on (Some k) p = placed_lasts m.made new k b.op p.0 p.2

  -- the open objects are still live
  pub begun_lasts : KeepsLive old new
  begun_lasts = lasts_then old m.made new lasts_made (placed_on blk m.placed)

  -- it is no older than a mark that what was made reached
  pub begun_new : (n : ℕ) → n ≤ old.graph.made → IsNew n new.graph (TheOperation b.op)
  begun_new n le = let up = lasts_used.made in let over = (made_lasts m.creates.used m.made b.op held types m.creates.makes).made in
      (placed_on blk m.placed).newer n (TheOperation b.op) (omega (arith, le, up, over)) (made_new m.creates.used m.made b.op held types m.creates.makes n (omega (arith, le, up)))

  -- what is seen of it
  pub made_is : operation m.made b.op ≡ Some (made_view held types)
  made_is = made_seen m.creates.used m.made b.op held types m.creates.makes

  is_on : (o : Option (Ptr BasicBlock)) → PlacedIn o m.made new b.op → operation new b.op ≡ Some (made_view held types)
  is_on None p = ap (λ c. operation c b.op) p ∙ made_is
  is_on (Some k) p = ((operation_placed_spares m.made new k b.op p.0).spared (TheOperation b.op) (subst IsSome (sym made_is) refl) (λ i. elim i [ inl e ↦ cc e | inr j ↦ j ])).0 ∙ made_is

  pub begun_is : operation new b.op ≡ Some (made_view held types)
  begun_is = is_on blk m.placed

  -- it has so many results
  pub begun_counts : length (results new.graph b.op) ≡ b.results
  begun_counts = (placed_on blk m.placed).results b.op (subst IsSome (sym made_is) refl)
      ∙ (ap (λ e. length (results_of (option_map (λ e. e.content.content) e))) m.creates.makes.graph.operations.updates.changed
      ∙ (count_numbered m.creates.used.graph.values (known types) ∙ (count_known types ∙ sym m.creates.counts)))

  -- ---- names
  module _ where
    ties_made : MatchesGraph names.values names.labels m.made.graph
    ties_made = added_ties (operation_added b.op m.creates.makes.graph) names.values names.labels m.creates.steady.tied

    -- the block still has a parent
    pub inside_made : (k : Ptr BasicBlock) → IsThere old (TheBlock k) → IsSome (parent m.made.graph (TheBlock k))
    inside_made k there = subst IsSome (sym (lasts_made.blocks k there.0 there.1).1) there.1

    ties_on : (o : Option (Ptr BasicBlock)) → IfSome o (λ k. IsThere old (TheBlock k)) → PlacedIn o m.made new b.op → MatchesGraph names.values names.labels new.graph
    ties_on None there p = subst (λ c. MatchesGraph names.values names.labels c.graph) (sym p) ties_made
    ties_on (Some k) there p = let x = data_there m.made b.op (subst IsSome (sym made_is) refl) in operation_placed_ties k b.op p.0 x.0 x.1 (inside_made k there) names.values names.labels ties_made

    waits_made : (n : ℕ) → n ≤ old.graph.made → ArePending n [] before.values before.labels old.graph → ArePending n [] names.values names.labels m.made.graph
    waits_made n le w = operation_waits b.op held (known types) (in_order m.creates.gathered.operands.single.items ++ m.creates.gathered.operands.list.items) (in_order m.creates.gathered.successors.single.items ++ m.creates.gathered.successors.list.items)
        m.creates.makes.graph n [] names.values names.labels m.creates.steady.tied (m.creates.steady.waiting n [] le w)

    waits_on : (n : ℕ) (o : Option (Ptr BasicBlock)) → IfSome o (λ k. IsThere old (TheBlock k)) → PlacedIn o m.made new b.op → ArePending n [] names.values names.labels m.made.graph → ArePending n [] names.values names.labels new.graph
    waits_on n None there p w = subst (λ c. ArePending n [] names.values names.labels c.graph) (sym p) w
    waits_on n (Some k) there p w = let x = data_there m.made b.op (subst IsSome (sym made_is) refl) in operation_placed_waits k b.op p.0 x.0 x.1 (inside_made k there) n [] names.values names.labels w

  pub begun_ties : IfSome blk (λ k. IsThere old (TheBlock k)) → MatchesGraph names.values names.labels new.graph
  begun_ties there = ties_on blk there m.placed

  pub begun_waits : IfSome blk (λ k. IsThere old (TheBlock k)) → (n : ℕ) → n ≤ old.graph.made → ArePending n [] before.values before.labels old.graph → ArePending n [] names.values names.labels new.graph
  begun_waits there n le w = waits_on n blk there m.placed (waits_made n le w)

  -- it has data, and each other operation was there
  blanks_made : (n : ℕ) → BlanksHaveResults n m.creates.used.graph → BlanksHaveResults n m.made.graph
  blanks_made = blanks_by m.creates.used.graph m.made.graph (λ p. elim (same_or_other ptr_tells p b.op) [
    | inl same ↦ inr (λ e. let x = data_there m.made b.op (subst IsSome (sym made_is) refl) in let f = sym x.1 ∙ (ap (λ q. option_map (λ c. c.data_of) (operation_at m.made.graph q)) (sym same) ∙ e) in absurd (cc))
    | inr apart ↦ inl (ap (λ e. option_map without_uses (seen_operation (OperationData A) (BlockData A) (Option T) (content_of e))) (m.creates.makes.graph.operations.updates.others p apart))
  ])

  blanks_placed : (n : ℕ) (o : Option (Ptr BasicBlock)) → PlacedIn o m.made new b.op → BlanksHaveResults n m.made.graph → BlanksHaveResults n new.graph
  blanks_placed n None p h = subst (λ c. BlanksHaveResults n c.graph) (sym p) h
  blanks_placed n (Some k) p h = blanks_by m.made.graph new.graph (λ q. inl (ap (option_map without_uses) (p.0.objects.contents (TheOperation q)))) n h

  -- each operation without data has a result
  pub begun_blanks : (n : ℕ) → BlanksDefine n old → BlanksDefine n new
  begun_blanks = blanks_on old new (λ n h. blanks_placed n blk m.placed (blanks_made n (m.creates.steady.blanks n h)))

  -- ---- what was created
  module _ (IsLocation : ℕ → Location A → Type 0) (own : OwnSoFar T A) (has : HasOwn IsLocation (made_view held types) own)
      (operands_are : length (in_order m.creates.gathered.operands.single.items ++ m.creates.gathered.operands.list.items) ≡ own.operands)
      (successors_are : length (in_order m.creates.gathered.successors.single.items ++ m.creates.gathered.successors.list.items) ≡ own.successors) where
    there_made : OperationCame m.creates.used m.made IsLocation b.op own
    there_made = operation_made m.creates.used m.made IsLocation b.op held types own m.creates.makes has operands_are successors_are

    is_new : IsThere old (TheOperation b.op) → ⊥
    is_new there = there_made.is_new (there_still old m.creates.used (TheOperation b.op) (spares_used.spared (TheOperation b.op) there (λ i. i)) there)

    came : HasUses new b.op own → OperationCame old new IsLocation b.op own
    came uses = record { is_new = is_new; view = made_view held types; is = begun_is; has = has; uses = uses; regions = refl }

    wider_used : (but : List Object) → ModifiesOnly but old m.creates.used
    wider_used but = spares_wider old m.creates.used [] but (λ q i. absurd i) spares_used

    came_on : (o : Option (Ptr BasicBlock)) → IfSome o (λ k. IsThere old (TheBlock k)) → PlacedIn o m.made new b.op → ComesInto IsLocation old new b.op own o
    came_on None there p = (
      came (subst (λ c. HasUses c b.op own) (sym p) there_made.uses),
      subst (ModifiesOnly (TheOperation b.op ∷ []) old) (sym p) (spares_then old m.creates.used m.made (TheOperation b.op ∷ []) (wider_used (TheOperation b.op ∷ [])) (operation_made_spares m.creates.used m.made b.op held types m.creates.makes)),
    )
    came_on (Some k) there p =
        let last = operation_came_last IsLocation m.creates.used m.made new k b.op held types m.creates.makes p.0 in
        let was = spares_used.spared (TheBlock k) there (λ i. i) in (
          came (operation_came IsLocation m.creates.used m.made new k b.op held types m.creates.makes p.0 own has operands_are successors_are).uses,
          record { gains = last.gains ∙ ap (option_map (with_last_operation b.op)) was.0; stays = last.stays ∙ was.1 },
          spares_then old m.creates.used new (TheOperation b.op ∷ TheBlock k ∷ []) (wider_used (TheOperation b.op ∷ TheBlock k ∷ [])) (operation_came_spares IsLocation m.creates.used m.made new k b.op held types m.creates.makes p.0),
        )

    -- it was created, and all else is unchanged
    pub begun_came : IfSome blk (λ k. IsThere old (TheBlock k)) → ComesInto IsLocation old new b.op own blk
    begun_came there = came_on blk there m.placed
