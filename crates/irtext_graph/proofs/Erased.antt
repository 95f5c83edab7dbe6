-- An object is erased with all objects nested in it, innermost objects first.
use Rattle.std.proofs.Common.{◌≡◌, ◌≢◌, ◌⊎◌, ℕ, zero, suc, Option, Some, None, refl, sym, ap, subst, ◌∙◌, inl, inr, false, [], slice_get, IsSome}
use Rattle.irtext_graph.specs.declared.arena.Ptr.{Ptr}
use Rattle.irtext_graph.specs.declared.arena.Entry.{Entry}
use Rattle.irtext_graph.specs.declared.object.Object.{Object}
use Rattle.irtext_graph.specs.declared.object.Object.TheVariants.{TheOperation, TheBlock, TheRegion}
use Rattle.irtext_graph.specs.declared.objects.Objects.{Objects}
use Rattle.irtext_graph.specs.Nested.{climb, Within}
use Rattle.irtext_graph.proofs.Nests.{same_or_other, seen, some_eq, renested, climb-none}
use Rattle.irtext_graph.proofs.Inside.{within_self, within_on, alone, carried, fewer_ways}
use Rattle.irtext_graph.specs.Objects.{up, kids, what, Lives, SameAt, IsGone, IsForest, Drops, eq_object, SameDatum, Sheds}
use Rattle.irtext_graph.specs.Content.{Content, Content.{AnOperation, ABlock, ARegion}, operation_content, block_content, region_content}
use Rattle.irtext_graph.proofs.Same.{object_tells}
use Rattle.irtext_graph.proofs.Places.{parent_lives}
use Rattle.irtext_graph.proofs.Kept.{datum_self, datum_on, sheds_on, sheds_none, places_self}
use Rattle.std.specs.Option.{option_map}
use Rattle.irtext_graph.specs.Arena.{get}
use Rattle.irtext_graph.specs.Nest.{parent_in, datum_in}
use Rattle.irtext_graph.specs.declared.nest.Nest.{Nest}

lifted : {P C D K : Type 0} (f : Ptr P → Object) (g : ℕ × D → K) (e : Option (Entry (Nest P C D))) (k : Object) → option_map f (parent_in e) ≡ Some k → IsSome (option_map g (datum_in e))
lifted f g None k e = absurd (cc)
lifted f g (Some x) k e = refl

module _ {O B T : Type 0} where
  -- an object with a parent is live
  pub up_lives : (x : Objects O B T) (q k : Object) → up x q ≡ Some k → Lives x q
  up_lives x (TheOperation p) k e = lifted TheBlock (λ d. AnOperation d.0 (operation_content d.1)) (get x.operations p) k e
  up_lives x (TheBlock p) k e = lifted TheRegion (λ d. ABlock d.0 (block_content d.1)) (get x.blocks p) k e
  up_lives x (TheRegion p) k e = lifted TheOperation (λ d. ARegion d.0 (region_content d.1)) (get x.regions p) k e

  pub same_on : {x y z : Objects O B T} {q : Object} → SameAt x y q → SameAt y z q → SameAt x z q
  same_on s t = record { same_up = t.same_up ∙ s.same_up; same_kids = t.same_kids ∙ s.same_kids; same_what = t.same_what ∙ s.same_what }

  pub gone_on : {x y : Objects O B T} {q : Object} → IsGone x q → SameAt x y q → IsGone y q
  gone_on g s = record { gone_up = s.same_up ∙ g.gone_up; gone_kids = s.same_kids ∙ g.gone_kids; gone_what = s.same_what ∙ g.gone_what }

  pub not_gone : (x : Objects O B T) (q : Object) → Lives x q → IsGone x q → ⊥
  not_gone x q l g = go (what x q) g.gone_what l
    where
      go : (o : Option (Content O B T)) → o ≡ None → IsSome o → ⊥
      go None e h = absurd (cc)
      go (Some k) e h = absurd (cc)

  -- what is left of o while its innermost objects go
  pub record Erasing (x0 x : Objects O B T) (o at : Object) : Type 0 where
    pub forest : IsForest x
    pub free : up x o ≡ None
    pub lives : Lives x o
    pub inside : (q : Object) → Within (up x) o q → Within (up x0) o q
    pub done : (q : Object) → Within (up x0) o q → (Within (up x) o q) ⊎ IsGone x q
    pub kept : (q : Object) → (Within (up x0) o q → ⊥) → SameAt x0 x q
    pub kept_data : (q : Object) → (Within (up x0) o q → ⊥) → SameDatum x0 x q
    pub sheds : Sheds x0 x
    pub at_inside : Within (up x) o at
    pub at_lives : Lives x at
    pub leaf : kids x at ≡ []

  pub erasing_begins : (x : Objects O B T) (o at : Object) → IsForest x → up x o ≡ None → Lives x o → Within (up x) o at → Lives x at → kids x at ≡ [] → Erasing x x o at
  erasing_begins x o at s f l w a e = record {
    forest = s;
    free = f;
    lives = l;
    inside = λ q w. w;
    done = λ q w. inl w;
    kept = λ q n. record { same_up = refl; same_kids = refl; same_what = refl };
    kept_data = λ q n. datum_self x q;
    sheds = sheds_none (places_self x);
    at_inside = w;
    at_lives = a;
    leaf = e;
  }

  -- an object inside o, other than o, has a parent inside o
  pub parent_inside : (x : Objects O B T) (o q : Object) → Within (up x) o q → q ≢ o → (k : Object) × (up x q ≡ Some k) × Within (up x) o k
  parent_inside x o q w ne = go w.0 w.1
    where
      go : (n : ℕ) → climb (up x) n (Some q) ≡ Some o → (k : Object) × (up x q ≡ Some k) × Within (up x) o k
      go zero e = absurd (ne (some_eq e))
      go (suc n) e = elim (seen (up x q)) [
        | inl none ↦ absurd (let f : climb (up x) n (up x q) ≡ climb (up x) n None = ap (climb (up x) n) none in let h = climb-none (up x) n in cc)
        | inr (k, f) ↦ (k, f, (n, ap (climb (up x) n) (sym f) ∙ e))
      ]

  -- the parent of what is inside, and is not the outermost, is inside
  pub holder_inside : (x : Objects O B T) (o q k : Object) → Within (up x) o q → q ≢ o → up x q ≡ Some k → Within (up x) o k
  holder_inside x o q k w ne e = let p = parent_inside x o q w ne in subst (Within (up x) o) (some_eq (sym p.1 ∙ e)) p.2

  -- nothing is nested in an object without children
  pub childless : (x : Objects O B T) (c q : Object) → IsForest x → kids x c ≡ [] → up x q ≡ Some c → ⊥
  childless x c q s leaf e =
      let at = s.listed q c e in
      let f : slice_get (kids x c) at.0 ≡ None = ap (λ xs. slice_get xs at.0) leaf in
      cc

  module _ (x0 x y : Objects O B T) (o k c : Object) (v : Erasing x0 x o c) (ne : c ≢ o) (e : up x c ≡ Some k) (d : Drops x y k c) where
    k_inside : Within (up x) o k
    k_inside =
        holder_inside x o c k v.at_inside ne e

    k_lives : Lives x k
    k_lives = parent_lives x c k v.forest e

    pub ups : (q : Object) → q ≢ c → up y q ≡ up x q
    ups q nc = elim (same_or_other object_tells q k) [ inl same ↦ rw same d.parent | inr nk ↦ (d.others q nk nc).same_up ]

    whats : (q : Object) → q ≢ c → what y q ≡ what x q
    whats q nc = elim (same_or_other object_tells q k) [ inl same ↦ rw same d.same | inr nk ↦ (d.others q nk nc).same_what ]

    step : (q p : Object) → up y q ≡ Some p → up x q ≡ Some p
    step q p f = elim (same_or_other object_tells q c) [
      | inl same ↦ let h = ap (up y) same in let z = d.gone.gone_up in absurd (cc)
      | inr nc ↦ sym (ups q nc) ∙ f
    ]

    still : (q : Object) → q ≢ c → Within (up x) o q → Within (up y) o q
    still q nc w = carried (up x) (up y) (λ a. a ≢ c) o (λ a p. inr (ups a p)) (λ a b p f s. childless x c a v.forest v.leaf (f ∙ ap Some s)) w.0 q nc w.1

    k_not_c : k ≢ c
    k_not_c s = childless x c c v.forest v.leaf (e ∙ ap Some s)

    still_gone : (q : Object) → IsGone x q → IsGone y q
    still_gone q h = elim (same_or_other object_tells q c) [
      | inl same ↦ rw same d.gone
      | inr nc ↦
          let nk : q ≢ k = λ s. not_gone x k k_lives (rw (← s) h) in
          gone_on h (d.others q nk nc)
    ]

    pub erasing_goes_on : (at : Object) → Within (up y) k at → Lives y at → kids y at ≡ [] → Erasing x0 y o at
    erasing_goes_on at w l leaf = record {
      forest = d.forest;
      free = ups o (λ s. ne (sym s)) ∙ v.free;
      lives = rw (whats o (λ s. ne (sym s))) v.lives;
      inside = λ q w. v.inside q (fewer_ways (up x) (up y) step o w.0 q w.1);
      done = λ q w. elim (v.done q w) [
        | inr h ↦ inr (still_gone q h)
        | inl there ↦ elim (same_or_other object_tells q c) [
          | inl same ↦ inr (rw same d.gone)
          | inr nc ↦ inl (still q nc there)
        ]
      ];
      kept = λ q out.
          let nc : q ≢ c = λ s. out (rw s (v.inside c v.at_inside)) in
          let nk : q ≢ k = λ s. out (rw s (v.inside k k_inside)) in
          same_on (v.kept q out) (d.others q nk nc);
      kept_data = λ q out. datum_on (v.kept_data q out) (d.kept_data q (λ s. out (rw s (v.inside c v.at_inside))));
      sheds = sheds_on v.sheds d.sheds;
      at_inside = within_on (up y) o k at (still k k_not_c k_inside) w;
      at_lives = l;
      leaf = leaf;
    }

    pub parent_stays : Lives y k
    parent_stays = rw (whats k k_not_c) k_lives

  -- nothing is left in o, and o goes
  module _ (x0 x x4 : Objects O B T) (o : Object) (v : Erasing x0 x o o) (gone : what x4 o ≡ None) (gone_up : up x4 o ≡ None) (gone_kids : kids x4 o ≡ []) (others : (q : Object) → q ≢ o → SameAt x x4 q) where
    pub end_forest : IsForest x4
    end_forest = renested eq_object object_tells v.forest
        (λ q. elim (same_or_other object_tells q o) [ inl e ↦ rw e (gone_kids ∙ sym v.leaf) | inr ne ↦ (others q ne).same_kids ])
        (λ q. elim (same_or_other object_tells q o) [ inl e ↦ rw e (gone_up ∙ sym v.free) | inr ne ↦ (others q ne).same_up ])

    pub end_gone : (q : Object) → Within (up x0) o q → IsGone x4 q
    end_gone q w = elim (same_or_other object_tells q o) [
      | inl e ↦ rw e (record { gone_up = gone_up; gone_kids = gone_kids; gone_what = gone })
      | inr ne ↦ elim (v.done q w) [
        | inl there ↦ absurd (ne (alone v.forest o q v.leaf there))
        | inr h ↦ gone_on h (others q ne)
      ]
    ]

    pub end_data : ((q : Object) → q ≢ o → SameDatum x x4 q) → (q : Object) → (Within (up x0) o q → ⊥) → SameDatum x0 x4 q
    end_data d q out = datum_on (v.kept_data q out) (d q (λ e. out (rw e (within_self (up x0) o))))

    pub end_kept : (q : Object) → (Within (up x0) o q → ⊥) → SameAt x0 x4 q
    end_kept q out = same_on (v.kept q out) (others q (λ e. out (rw e (within_self (up x0) o))))
