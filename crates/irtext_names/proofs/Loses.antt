-- A graph that lost one placeholder, or nothing: what is defined in it, and what waits.
use Rattle.std.proofs.Common.{◌≡◌, ℕ, refl, sym, ap, Option, Some, None}
use Rattle.std.specs.Option.{option_map}
use Rattle.irtext_graph.specs.declared.object.Defined.{Defined}
use Rattle.irtext_graph.specs.Erasing.{owner}
use Rattle.irtext_graph.specs.Graph.{GraphView, content}
use Rattle.irtext_graph.specs.Objects.{is_older}
use Rattle.irtext_graph.specs.Used.{IsDefined}
use Rattle.irtext_graph.proofs.Nests.{some_eq}
use Rattle.irtext_names.specs.Placeholders.{IsBlank, IsPlaceholder}
use Rattle.irtext_names.proofs.SameBut.{SameBut, same_age, still_defined, not_gone, was_defined, still_blank, was_blank, still_placeholder, was_placeholder}

module _ {O B T : Type 0} where
  -- all definitions are still there, except this placeholder, and none was added
  pub record Loses (g k : GraphView (Option O) B T) (o : Option Defined) : Type 0 where
    pub there : (x : Defined) → IsDefined g x → (o ≡ Some x → ⊥) → IsDefined k x
    pub were : (x : Defined) → IsDefined k x → IsDefined g x
    pub lost : (x : Defined) → IsDefined k x → o ≡ Some x → ⊥
    pub placeholders : (x : Defined) → IsPlaceholder g x → (o ≡ Some x → ⊥) → IsPlaceholder k x
    pub were_placeholders : (x : Defined) → IsPlaceholder k x → IsPlaceholder g x
    pub blanks : (x : Defined) → IsDefined k x → IsBlank g x → IsBlank k x
    pub were_blank : (x : Defined) → IsDefined k x → IsBlank k x → IsBlank g x
    pub ages : (m : ℕ) (x : Defined) → IsDefined k x → is_older m (content k (owner x)) ≡ is_older m (content g (owner x))

  -- the object of a placeholder defines nothing else
  other_owner : (g : GraphView (Option O) B T) (o : Option Defined) → ((d : Defined) → o ≡ Some d → IsPlaceholder g d) → (x : Defined) → IsDefined g x → (o ≡ Some x → ⊥) → option_map owner o ≡ Some (owner x) → ⊥
  other_owner g None p x d n e = cc
  other_owner g (Some y) p x d n e = n (ap Some (sym ((p y refl).alone x d (sym (some_eq e)))))

  pub loses : {g k : GraphView (Option O) B T} (o : Option Defined) → SameBut g k (option_map owner o) → ((d : Defined) → o ≡ Some d → IsPlaceholder g d) → Loses g k o
  loses {g} {k} o s p = record {
    there = λ x d n. still_defined s x (other_owner g o p x d n) d;
    were = λ x d. was_defined s x d;
    lost = λ x d e. not_gone s x d (ap (option_map owner) e);
    placeholders = λ x q n. still_placeholder s x (other_owner g o p x q.alive n) q;
    were_placeholders = λ x q. was_placeholder s x q;
    blanks = λ x d b. still_blank s x (not_gone s x d) b;
    were_blank = λ x d b. was_blank s x (not_gone s x d) b;
    ages = λ m x d. same_age m g k (owner x) (s.contents (owner x) (not_gone s x d));
  }

  -- nothing was lost
  pub loses_none : {g k : GraphView (Option O) B T} → SameBut g k None → Loses g k None
  loses_none s = loses None s (λ d e. cc)

  -- one that was made is what is lost where one looks back
  pub loses_one : {g k : GraphView (Option O) B T} (d : Defined) → IsPlaceholder g d → SameBut g k (Some (owner d)) → Loses g k (Some d)
  loses_one {g} d p s = loses (Some d) s (λ x e. go x e)
    where
      go : (x : Defined) → Some d ≡ Some x → IsPlaceholder g x
      go x e = rw (← some_eq e) p
