-- The names under which values and blocks of a context are printed are all different.
use Rattle.std.proofs.Common.{◌≡◌, ◌∙◌, ◌+◌, Option, Some, None, option_map, refl, sym, arith}
use Rattle.irtext_base.specs.Text.{Text}
use Rattle.irtext_context.specs.Context.{ContextView, BlockView, block}
use Rattle.irtext_graph.specs.declared.arena.Ptr.{Ptr}
use Rattle.irtext_graph.specs.declared.object.BasicBlock.{BasicBlock}
use Rattle.irtext_graph.specs.declared.object.Value.{Value}
use Rattle.irtext_graph.specs.Content.{Typed}
use Rattle.irtext_graph.specs.Parts.{value_at}
use Rattle.irtext_graph.proofs.Nests.{some_eq}
use Rattle.irtext_graph.proofs.Same.{ptr_same}
use Rattle.irtext_grammar.specs.Spelling.PrintedNames as printed
use Rattle.irtext_grammar.proofs.Names.Injective.{values_differ, blocks_differ, value_no_block}
use Rattle.irtext_grammar.specs.ContextParts.{KeepsAll}
use Rattle.irtext_grammar.proofs.Roots.{number_below, place_small}
use Rattle.irtext_grammar.specs.UniqueNames.{given_name, value_name, block_name}

module _ {T A : Type 0} (ctx : ContextView T A) (kept : KeepsAll ctx) where
  -- of one name is one value
  pub one_value : (v w : Value) (name : Text) → value_name ctx v ≡ Some name → value_name ctx w ≡ Some name → v ≡ w
  one_value v w name e f = go (value_at ctx.graph v) refl (value_at ctx.graph w) refl e f
    where
      go : (a : Option (Typed (Option T))) → value_at ctx.graph v ≡ a → (b : Option (Typed (Option T))) → value_at ctx.graph w ≡ b
          → option_map (λ (t : Typed (Option T)). printed.value_name (given_name ctx v) t.number) a ≡ Some name → option_map (λ (t : Typed (Option T)). printed.value_name (given_name ctx w) t.number) b ≡ Some name → v ≡ w
      go None q b r e f = absurd (cc)
      go (Some t) q None r e f = absurd (cc)
      go (Some t) q (Some u) r e f =
          kept.counters.differ v w t u q r (values_differ (given_name ctx v) (given_name ctx w) t.number u.number (number_below ctx kept v t q) (number_below ctx kept w u r) (some_eq e ∙ sym (some_eq f)))

  -- and one block
  pub one_block : (b d : Ptr BasicBlock) (name : Text) → block_name ctx b ≡ Some name → block_name ctx d ≡ Some name → b ≡ d
  one_block b d name e f = go (block ctx b) refl (block ctx d) refl e f
    where
      go : (x : Option (BlockView T A)) → block ctx b ≡ x → (y : Option (BlockView T A)) → block ctx d ≡ y
          → option_map (λ (z : BlockView T A). printed.block_name z.label (ctx.graph.first_place + b.index, b.generation)) x ≡ Some name
          → option_map (λ (z : BlockView T A). printed.block_name z.label (ctx.graph.first_place + d.index, d.generation)) y ≡ Some name → b ≡ d
      go None q y r e f = absurd (cc)
      go (Some x) q None r e f = absurd (cc)
      go (Some x) q (Some y) r e f =
          let s = place_small ctx kept b x q in
          let t = place_small ctx kept d y r in
          let same = blocks_differ x.label y.label (ctx.graph.first_place + b.index, b.generation) (ctx.graph.first_place + d.index, d.generation) s.0 s.1 t.0 t.1 (some_eq e ∙ sym (some_eq f)) in
          let index = same.0 in
          ptr_same b d (omega (arith, index)) same.1

  -- no value has a block's name
  pub not_both : (v : Value) (b : Ptr BasicBlock) (name : Text) → value_name ctx v ≡ Some name → block_name ctx b ≡ Some name → ⊥
  not_both v b name e f = go (value_at ctx.graph v) refl (block ctx b) refl e f
    where
      go : (a : Option (Typed (Option T))) → value_at ctx.graph v ≡ a → (y : Option (BlockView T A)) → block ctx b ≡ y
          → option_map (λ (t : Typed (Option T)). printed.value_name (given_name ctx v) t.number) a ≡ Some name
          → option_map (λ (z : BlockView T A). printed.block_name z.label (ctx.graph.first_place + b.index, b.generation)) y ≡ Some name → ⊥
      go None q y r e f = cc
      go (Some t) q None r e f = cc
      go (Some t) q (Some y) r e f =
          let s = place_small ctx kept b y r in
          value_no_block (given_name ctx v) y.label t.number (ctx.graph.first_place + b.index, b.generation) (number_below ctx kept v t q) s.0 s.1 (some_eq e ∙ sym (some_eq f))
