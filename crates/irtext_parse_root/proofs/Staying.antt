-- Each live region has the same parent after each turn.
use Rattle.std.proofs.Common.{◌≡◌, ◌∙◌, List, [], ◌∷◌, Some, IsSome, refl, sym, ap, subst, inl, inr}
use Rattle.std.specs.Option.{option_map}
use Rattle.irtext_context.specs.Context.{ContextView, RegionView, region}
use Rattle.irtext_graph.specs.declared.arena.Ptr.{Ptr}
use Rattle.irtext_graph.specs.declared.object.BasicBlock.{BasicBlock}
use Rattle.irtext_graph.specs.declared.object.Operation.{Operation}
use Rattle.irtext_graph.specs.declared.object.Region.{Region}
use Rattle.irtext_graph.specs.declared.object.Object.{Object}
use Rattle.irtext_graph.specs.declared.object.Object.TheVariants.{TheOperation, TheBlock, TheRegion}
use Rattle.irtext_graph.specs.Chained.{Among}
use Rattle.irtext_graph.proofs.Nests.{same_or_other}
use Rattle.irtext_graph.proofs.Same.{ptr_tells}
use Rattle.irtext_grammar.specs.Grows.{with_last_block, RegionCame, RegionGains}
use Rattle.irtext_grammar.specs.Unchanged.{IsThere, ModifiesOnly}
use Rattle.irtext_parse_root.specs.Turned.{RegionsStay}

module _ {T A : Type 0} where
  pub stay_still : (c : ContextView T A) → RegionsStay c c
  stay_still c = record { stay = λ r view e. (view, e, refl) }

  pub stay_both : (a b c : ContextView T A) → RegionsStay a b → RegionsStay b c → RegionsStay a c
  stay_both a b c h k = record { stay = λ r view e. let x = h.stay r view e in let y = k.stay r x.0 x.1 in (y.0, y.1, y.2 ∙ x.2) }

module _ {T A : Type 0} (old new : ContextView T A) where
  -- a region that is none of those that changed
  spared_stays : (but : List Object) → ModifiesOnly but old new → (r : Ptr Region) (view : RegionView) → region old r ≡ Some view → (Among (TheRegion r) but → ⊥) → (now : RegionView) × (region new r ≡ Some now) × (now.parent ≡ view.parent)
  spared_stays but s r view e n = (view, s.spared (TheRegion r) (subst IsSome (sym e) refl) n ∙ e, refl)

  -- no region changed
  pub stay_spared : (but : List Object) → ModifiesOnly but old new → ((r : Ptr Region) → Among (TheRegion r) but → ⊥) → RegionsStay old new
  stay_spared but s none = record { stay = λ r view e. spared_stays but s r view e (none r) }

  -- an operation changed, or was created, or one and its block
  pub stay_operation : (p : Ptr Operation) → ModifiesOnly (TheOperation p ∷ []) old new → RegionsStay old new
  stay_operation p s = stay_spared (TheOperation p ∷ []) s (λ r i. elim i [ inl e ↦ absurd (cc e) | inr j ↦ absurd j ])

  pub stay_placed : (p : Ptr Operation) (b : Ptr BasicBlock) → ModifiesOnly (TheOperation p ∷ TheBlock b ∷ []) old new → RegionsStay old new
  stay_placed p b s = stay_spared (TheOperation p ∷ TheBlock b ∷ []) s (λ r i. elim i [ inl e ↦ absurd (cc e) | inr (inl e) ↦ absurd (cc e) | inr (inr j) ↦ absurd j ])

  -- a region was created, the last of an operation
  pub stay_entered : (q : Ptr Region) (p : Ptr Operation) → RegionCame old new q → ModifiesOnly (TheRegion q ∷ TheOperation p ∷ []) old new → RegionsStay old new
  stay_entered q p came s = record {
    stay = λ r view e. spared_stays (TheRegion q ∷ TheOperation p ∷ []) s r view e (λ i. elim i [
      | inl f ↦ absurd (came.is_new (subst (λ o. IsThere old o) f (subst IsSome (sym e) refl)))
      | inr (inl f) ↦ absurd (cc f)
      | inr (inr j) ↦ absurd j
    ]);
  }

  -- a region has one more block, which was created
  pub stay_gained : (q : Ptr Region) (b : Ptr BasicBlock) → RegionGains old new q b → ModifiesOnly (TheBlock b ∷ TheRegion q ∷ []) old new → RegionsStay old new
  stay_gained q b gains s = record { stay = λ r view e. elim (same_or_other ptr_tells r q) [ inl f ↦ same r view e f | inr n ↦ other r view e n ] }
    where
      same : (r : Ptr Region) (view : RegionView) → region old r ≡ Some view → r ≡ q → (now : RegionView) × (region new r ≡ Some now) × (now.parent ≡ view.parent)
      same r view e f = (
        with_last_block b view,
        ap (region new) f ∙ (gains.gains ∙ ap (option_map (with_last_block b)) (ap (region old) (sym f) ∙ e)),
        refl,
      )

      other : (r : Ptr Region) (view : RegionView) → region old r ≡ Some view → (r ≡ q → ⊥) → (now : RegionView) × (region new r ≡ Some now) × (now.parent ≡ view.parent)
      other r view e n = spared_stays (TheBlock b ∷ TheRegion q ∷ []) s r view e (λ i. elim i [
        | inl f ↦ absurd (cc f)
        | inr (inl f) ↦ let g : r ≡ q = cc f in absurd (n g)
        | inr (inr j) ↦ absurd j
      ])
