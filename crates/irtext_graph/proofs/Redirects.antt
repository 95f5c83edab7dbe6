-- One use refers to something else: what is seen of it.
use Rattle.std.proofs.Common.{◌≡◌, ◌≢◌, ◌∙◌, ℕ, refl, sym, ap, true, Some, IsSome}
use Rattle.irtext_graph.specs.declared.graph.Counters.{Counters}
use Rattle.irtext_graph.specs.declared.object.Defined.{Defined}
use Rattle.irtext_graph.specs.declared.object.Object.TheVariants.{TheOperation}
use Rattle.irtext_graph.specs.declared.object.Site.{Site}
use Rattle.irtext_graph.specs.declared.objects.Objects.{Objects}
use Rattle.irtext_graph.specs.Edits.{Redirects}
use Rattle.irtext_graph.specs.Graph.{GraphView, graph_of, content, IsNew, KeepsOlder}
use Rattle.irtext_graph.specs.Objects.{is_older}
use Rattle.irtext_graph.specs.Used.{bare, used_at, user}
use Rattle.irtext_graph.specs.Uses.{val, AreAllUsed}
use Rattle.irtext_graph.proofs.Bare.{bare_keeps}
use Rattle.irtext_graph.proofs.UsesSeen.{val_seen}

module _ {O B T : Type 0} where
  pub redirects_seen : (x y : Objects O B T) → bare y ≡ bare x → (made : ℕ) (v : Counters) (u : Site) (e : Defined) → AreAllUsed x → AreAllUsed y → val y u ≡ Some e → ((w : Site) → w ≢ u → val y w ≡ val x w)
      → Redirects (graph_of made v x) (graph_of made v y) u e
  redirects_seen x y same made v u e was all here others = record {
    here = sym (val_seen made v y all u) ∙ here;
    others = λ w ne. sym (val_seen made v y all w) ∙ others w ne ∙ val_seen made v x was w;
    rest = ap (λ (g : GraphView O B T). record g { made = made; values = v.values; first_place = v.first_place }) same;
  }

  -- what is older than the mark is unchanged if the user is not
  pub redirects_keeps : (m : ℕ) (g h : GraphView O B T) (u : Site) (e : Defined) → Redirects g h u e → IsNew m g (TheOperation (user u)) → KeepsOlder m g h
  redirects_keeps m g h u e r new = bare_keeps m g h r.rest (λ w old. r.others w (apart w old))
    where
      apart : (w : Site) → is_older m (content g (TheOperation (user w))) ≡ true → w ≢ u
      apart w old s = let k = ap (λ s. is_older m (content g (TheOperation (user s)))) s in let n = new in cc
