-- Tests of equality for uses and values, what a use determines of its place, and lists with another item at one index.
use Rattle.std.proofs.Common.{◌≡◌, ◌≢◌, ◌∙◌, inl, inr, Bool, true, false, refl, sym, ap, Option, Some, None, IsSome, cond, option_map}
use Rattle.std.proofs.lemmas.Bool.{eqb-true, eq-eqb}
use Rattle.irtext_graph.specs.declared.object.Defined.{Defined}
use Rattle.irtext_graph.specs.declared.object.Defined.TheVariants.{OfValue, OfBlock}
use Rattle.irtext_graph.specs.declared.object.Site.{Site}
use Rattle.irtext_graph.specs.declared.object.Site.TheVariants.{AtOperand, AtSuccessor}
use Rattle.irtext_graph.specs.declared.objects.Links.{Links}
use Rattle.irtext_graph.specs.declared.objects.Use.{Use}
use Rattle.irtext_graph.specs.declared.objects.Objects.{Objects}
use Rattle.irtext_graph.specs.declared.object.Value.{Value}
use Rattle.irtext_graph.specs.declared.object.Value.TheVariants.{Result, Argument}
use Rattle.irtext_graph.proofs.Same.{both, all, ptr_tells}
use Rattle.irtext_graph.proofs.Nests.{Tells, same_or_other}
use Rattle.irtext_graph.specs.Uses.{eq_site, eq_value, eq_defined, use_at, def_of, relinked}

site_is : (u : Site) → eq_site u u ≡ true
site_is (AtOperand p i) = all _ _ (ptr_tells.same p) (eq-eqb i i refl)
site_is (AtSuccessor p i) = all _ _ (ptr_tells.same p) (eq-eqb i i refl)

site_sound : (u w : Site) → eq_site u w ≡ true → u ≡ w
site_sound (AtOperand p i) (AtOperand q j) e = let k = both _ _ e in rw (ptr_tells.sound p q k.0, eqb-true i j k.1) refl
site_sound (AtSuccessor p i) (AtSuccessor q j) e = let k = both _ _ e in rw (ptr_tells.sound p q k.0, eqb-true i j k.1) refl
site_sound (AtOperand p i) (AtSuccessor q j) e = absurd (cc)
site_sound (AtSuccessor p i) (AtOperand q j) e = absurd (cc)

pub site_tells : Tells eq_site
site_tells = record { same = site_is; sound = site_sound }

value_sound : (v w : Value) → eq_value v w ≡ true → v ≡ w
value_sound (Result p i) (Result q j) e = let k = both _ _ e in rw (ptr_tells.sound p q k.0, eqb-true i j k.1) refl
value_sound (Argument p i) (Argument q j) e = let k = both _ _ e in rw (ptr_tells.sound p q k.0, eqb-true i j k.1) refl
value_sound (Result p i) (Argument q j) e = absurd (cc)
value_sound (Argument p i) (Result q j) e = absurd (cc)

value_same : (v : Value) → eq_value v v ≡ true
value_same (Result p i) = all _ _ (ptr_tells.same p) (eq-eqb i i refl)
value_same (Argument p i) = all _ _ (ptr_tells.same p) (eq-eqb i i refl)

defined_same : (d : Defined) → eq_defined d d ≡ true
defined_same (OfValue v) = value_same v
defined_same (OfBlock b) = ptr_tells.same b

defined_sound : (d e : Defined) → eq_defined d e ≡ true → d ≡ e
defined_sound (OfValue v) (OfValue w) e = ap OfValue (value_sound v w e)
defined_sound (OfBlock b) (OfBlock c) e = ap OfBlock (ptr_tells.sound b c e)
defined_sound (OfValue v) (OfBlock c) e = absurd (cc)
defined_sound (OfBlock b) (OfValue w) e = absurd (cc)

pub defined_tells : Tells eq_defined
defined_tells = record { same = defined_same; sound = defined_sound }

-- a use that is in a use list is there
pub there : (o : Option (Use Defined)) (d : Defined) → def_of o ≡ Some d → IsSome o
there None d p = absurd (cc)
there (Some o) d p = refl

-- a use that is in a use list uses what it names
pub used_def : (o : Option (Use Defined)) (p : Use Defined) → o ≡ Some p → IsSome (def_of o) → def_of o ≡ Some p.def
used_def o p e h = ap def_of e ∙ go p.links.linked (rw e at h)
  where
    go : (t : Bool) → IsSome (cond t (Some p.def) None) → cond t (Some p.def) None ≡ Some p.def
    go true h = refl
    go false h = absurd (cc)

-- if a use has other links, what does not depend on them is unchanged
pub relinked_same : {O B T V : Type 0} (x y : Objects O B T) (u : Site) (l : Links) (o : Use Defined) (view : Option (Use Defined) → V) → use_at x u ≡ Some o → use_at y u ≡ option_map (relinked l) (use_at x u) → ((w : Site) → w ≢ u → use_at y w ≡ use_at x w)
    → view (Some (relinked l o)) ≡ view (Some o) → (s : Site) → view (use_at y s) ≡ view (use_at x s)
relinked_same x y u l o view read here others same s = elim (same_or_other site_tells s u) [
  | inl e ↦ ap (λ s. view (use_at y s)) e ∙ ap view (here ∙ ap (option_map (relinked l)) read) ∙ same ∙ sym (ap view read) ∙ sym (ap (λ s. view (use_at x s)) e)
  | inr ne ↦ ap view (others s ne)
]
