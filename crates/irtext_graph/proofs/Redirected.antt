-- A use becomes a use of another.
use Rattle.std.proofs.Common.{◌≡◌, ◌≢◌, ◌∙◌, ◌⊎◌, refl, sym, ap, inl, inr, Bool, true, false, cond, Option, Some, None, IsSome, option_map}
use Rattle.irtext_graph.specs.declared.object.Defined.{Defined}
use Rattle.irtext_graph.specs.declared.object.Defined.TheVariants.{OfValue, OfBlock}
use Rattle.irtext_graph.specs.declared.object.Site.{Site}
use Rattle.irtext_graph.specs.declared.object.Site.TheVariants.{AtOperand, AtSuccessor}
use Rattle.irtext_graph.specs.declared.objects.Objects.{Objects}
use Rattle.irtext_graph.specs.declared.objects.Use.{Use}
use Rattle.irtext_graph.specs.Arena.{get}
use Rattle.irtext_graph.specs.Used.{AreAlike, CanName, replaced, bare}
use Rattle.irtext_graph.specs.Uses.{operand_in, successor_in, use_at, head_at, val, def_of, prev_of, next_of, either, renamed, eq_site, eq_defined, AreUsesLinked, AreAllUsed}
use Rattle.irtext_graph.proofs.Chains.{reframed, none_left}
use Rattle.irtext_graph.proofs.Linked.{site_tells, defined_tells}
use Rattle.irtext_graph.proofs.Nests.{same_or_other, some_eq}
use Rattle.irtext_graph.proofs.UsesSeen.{head_bare}
use Rattle.std.proofs.Common.{arith}

pub some_use : (o : Option (Use Defined)) → IsSome o → (p : Use Defined) × (o ≡ Some p)
some_use None h = absurd (cc)
some_use (Some p) h = (p, refl)

-- what is in a use list is there, and names what it uses
pub val_there : (o : Option (Use Defined)) → IsSome (def_of o) → IsSome o
val_there None h = absurd (cc)
val_there (Some o) h = refl

pub val_names : (o : Option (Use Defined)) (d : Defined) → def_of o ≡ Some d → option_map (λ o. o.def) o ≡ Some d
val_names None d e = absurd (cc)
val_names (Some o) d e = go o.links.linked e
  where
    go : (t : Bool) → cond t (Some o.def) None ≡ Some d → Some o.def ≡ Some d
    go true e = e
    go false e = absurd (cc)

pub renamed_there : (e : Defined) (o : Option (Use Defined)) → IsSome o → IsSome (option_map (renamed e) o)
renamed_there e None h = absurd (cc)
renamed_there e (Some o) h = refl

pub renamed_def : (e : Defined) (o : Option (Use Defined)) (p : Use Defined) → option_map (renamed e) o ≡ Some p → p.def ≡ e
renamed_def e None p q = absurd (cc)
renamed_def e (Some o) p q = ap (λ (u : Use Defined). u.def) (sym (some_eq q))

still_free : (e : Defined) (o : Option (Use Defined)) → def_of o ≡ None → def_of (option_map (renamed e) o) ≡ None
still_free e None h = refl
still_free e (Some o) h = go o.links.linked h
  where
    go : (t : Bool) → cond t (Some o.def) None ≡ None → cond t (Some e) None ≡ None
    go true h = absurd (cc)
    go false h = refl

-- a use names a value where it is an operand, and a block where it is a successor
names_none : {X : Type 0} (kind : X → Defined) (d : Defined) → ((x : X) → kind x ≢ d) → (o : Option (Use X)) → def_of (option_map (either kind) o) ≡ Some d → ⊥
names_none kind d apart None e = cc
names_none kind d apart (Some o) e = go o.links.linked e
  where
    go : (t : Bool) → cond t (Some (kind o.def)) None ≡ Some d → ⊥
    go true e = apart o.def (some_eq e)
    go false e = cc

operand_names : (o : Option (Use _)) (b : _) → def_of (option_map (either OfValue) o) ≡ Some (OfBlock b) → ⊥
operand_names o b = names_none OfValue (OfBlock b) (λ v e. absurd (cc)) o

successor_names : (o : Option (Use _)) (v : _) → def_of (option_map (either OfBlock) o) ≡ Some (OfValue v) → ⊥
successor_names o v = names_none OfBlock (OfValue v) (λ b e. absurd (cc)) o

-- what is not d stays where e takes the place of d
pub replaced_kept : (d e : Defined) (o : Option Defined) → (o ≡ Some d → ⊥) → option_map (replaced d e) o ≡ o
replaced_kept d e None ne = refl
replaced_kept d e (Some x) ne = rw (go (eq_defined x d) refl) refl
  where
    go : (t : Bool) → eq_defined x d ≡ t → t ≡ false
    go true s = absurd (ne (ap Some (defined_tells.sound x d s)))
    go false s = refl

module _ {O B T : Type 0} where
  pub can_name : (x : Objects O B T) (u : Site) (d e : Defined) → AreAlike d e → val x u ≡ Some d → CanName u e
  can_name x (AtOperand p i) (OfValue v) (OfValue w) a k = tt
  can_name x (AtOperand p i) (OfValue v) (OfBlock c) a k = absurd a
  can_name x (AtOperand p i) (OfBlock b) e a k = absurd (operand_names (operand_in (get x.operations p) i) b k)
  can_name x (AtSuccessor p i) (OfBlock b) (OfBlock c) a k = tt
  can_name x (AtSuccessor p i) (OfBlock b) (OfValue w) a k = absurd a
  can_name x (AtSuccessor p i) (OfValue v) e a k = absurd (successor_names (successor_in (get x.operations p) i) v k)

  module _ (x y : Objects O B T) (u : Site) (e : Defined) (free : val x u ≡ None) (here : use_at y u ≡ option_map (renamed e) (use_at x u)) where
    pub renamed_free : val y u ≡ None
    renamed_free = ap def_of here ∙ still_free e (use_at x u) free

    pub renamed_linked : AreUsesLinked x → ((w : Site) → w ≢ u → use_at y w ≡ use_at x w) → ((d : Defined) → head_at y d ≡ head_at x d) → AreUsesLinked y
    renamed_linked c others heads = reframed eq_site site_tells eq_defined defined_tells c (record {
      vals = λ w. elim (same_or_other site_tells w u) [ inl s ↦ ap (val y) s ∙ renamed_free ∙ sym free ∙ sym (ap (val x) s) | inr ne ↦ ap def_of (others w ne) ];
      prevs = λ w d is. ap prev_of (others w (apart w d is));
      nexts = λ w d is. ap next_of (others w (apart w d is));
      same_heads = λ d. inl (heads d);
    })
      where
        apart : (w : Site) (d : Defined) → val x w ≡ Some d → w ≢ u
        apart w d is s = let k = ap (val x) s in let f = free in cc

  -- the uses of d become uses of e, one after another
  pub record Replacing (x0 x : Objects O B T) (d e : Defined) : Type 0 where
    pub linked : AreUsesLinked x
    pub all_used : AreAllUsed x
    pub alive : IsSome (head_at x d)
    pub alive_too : IsSome (head_at x e)
    pub rest : bare x ≡ bare x0
    pub vals : (u : Site) → (val x u ≡ val x0 u) ⊎ ((val x0 u ≡ Some d) × (val x u ≡ Some e))

  pub replacing_goes_on : (x0 x y : Objects O B T) (d e : Defined) (u : Site) → d ≢ e → Replacing x0 x d e → val x u ≡ Some d → AreUsesLinked y → AreAllUsed y → val y u ≡ Some e
      → ((w : Site) → w ≢ u → val y w ≡ val x w) → bare y ≡ bare x → Replacing x0 y d e
  replacing_goes_on x0 x y d e u ne r is linked all_used here others same = record {
    linked = linked;
    all_used = all_used;
    alive = head_bare x y same d r.alive;
    alive_too = head_bare x y same e r.alive_too;
    rest = same ∙ r.rest;
    vals = λ w. elim (same_or_other site_tells w u) [
      | inl s ↦ inr (was (r.vals u) w s, ap (val y) s ∙ here)
      | inr apart ↦ elim (r.vals w) [ inl k ↦ inl (others w apart ∙ k) | inr k ↦ inr (k.0, others w apart ∙ k.1) ]
    ];
  }
    where
      was : (val x u ≡ val x0 u) ⊎ ((val x0 u ≡ Some d) × (val x u ≡ Some e)) → (w : Site) → w ≡ u → val x0 w ≡ Some d
      was (inl k) w s = ap (val x0) s ∙ sym k ∙ is
      was (inr k) w s = absurd (ne (some_eq (sym is ∙ k.1)))

  pub replacing_ends : (x0 x : Objects O B T) (d e : Defined) → Replacing x0 x d e → head_at x d ≡ Some None → (u : Site) → val x u ≡ option_map (replaced d e) (val x0 u)
  replacing_ends x0 x d e r empty u = elim (r.vals u) [
    | inl k ↦ k ∙ sym (replaced_kept d e (val x0 u) (λ is. none_left r.linked d empty r.linked.bound u (omega arith) (k ∙ is)))
    | inr k ↦ k.1 ∙ sym (ap (option_map (replaced d e)) k.0 ∙ rw (defined_tells.same d) refl)
  ]
