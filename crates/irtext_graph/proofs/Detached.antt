-- Uses leave their use lists, one after another.
use Rattle.std.proofs.Common.{◌≡◌, ◌≢◌, ◌<◌, ◌≤◌, ◌+◌, ◌∙◌, inl, inr, ℕ, refl, sym, ap, arith, Option, Some, None}
use Rattle.irtext_graph.specs.Graph.{seen}
use Rattle.irtext_graph.specs.Uses.{use_at, val, def_of, AreUsesLinked}
use Rattle.irtext_graph.specs.declared.object.Defined.{Defined}
use Rattle.irtext_graph.specs.declared.object.Site.{Site}
use Rattle.irtext_graph.specs.declared.objects.Objects.{Objects}
use Rattle.irtext_graph.specs.declared.objects.Use.{Use}
use Rattle.irtext_graph.proofs.Backs.{use_there, not_some}
use Rattle.irtext_graph.proofs.Linked.{site_tells}
use Rattle.irtext_graph.proofs.Moves.{lower}
use Rattle.irtext_graph.proofs.Nests.{same_or_other}
use Rattle.irtext_graph.proofs.Pointers.{equal_or_not}

module _ {O B T : Type 0} where
  -- where no use was, none is in a list
  no_use : (x y : Objects O B T) → seen y ≡ seen x → (u : Site) → use_at x u ≡ None → val y u ≡ None
  no_use x y same u none = go (use_at y u) refl
    where
      go : (o : Option (Use Defined)) → use_at y u ≡ o → val y u ≡ None
      go None e = ap def_of e
      go (Some o) e = absurd (not_some (use_at x u) none (use_there y x (sym same) u (rw e refl)))

  -- the first n of the uses have left their lists
  pub record Detaching (was now : Objects O B T) (site : ℕ → Site) (n : ℕ) : Type 0 where
    pub linked : AreUsesLinked now
    pub gone : (j : ℕ) → j < n → val now (site j) ≡ None
    pub kept : (u : Site) → ((j : ℕ) → u ≢ site j) → val now u ≡ val was u
    pub same : seen now ≡ seen was

  pub detaching_begins : (x : Objects O B T) (site : ℕ → Site) → AreUsesLinked x → Detaching x x site 0
  detaching_begins x site l = record { linked = l; gone = λ j low. absurd (omega (arith, low)); kept = λ u n. refl; same = refl }

  pub detaching_on : (w x y : Objects O B T) (site : ℕ → Site) (n : ℕ) → Detaching w x site n → AreUsesLinked y → val y (site n) ≡ None → ((u : Site) → u ≢ site n → val y u ≡ val x u) → seen y ≡ seen x → Detaching w y site (n + 1)
  detaching_on w x y site n d linked gone kept same = record {
    linked = linked;
    gone = λ j low. elim (same_or_other site_tells (site j) (site n)) [
      | inl here ↦ ap (val y) here ∙ gone
      | inr away ↦ kept (site j) away ∙ d.gone j (elim (equal_or_not j n) [ inl e ↦ absurd (away (ap site e)) | inr ne ↦ omega (arith, low, ne) ])
    ];
    kept = λ u out. kept u (out n) ∙ d.kept u out;
    same = same ∙ d.same;
  }

  pub detaching_ends : (w x : Objects O B T) (site : ℕ → Site) (n : ℕ) → Detaching w x site n → ((j : ℕ) → n ≤ j → use_at w (site j) ≡ None) → (j : ℕ) → val x (site j) ≡ None
  detaching_ends w x site n d none j = elim (lower j n) [ inl low ↦ d.gone j low | inr high ↦ no_use w x d.same (site j) (none j high) ]
