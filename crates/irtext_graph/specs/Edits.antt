-- Edits of one place: an object becomes a child of another at an index, and one operand or successor refers to something else.
use Rattle.std.specs.Prelude.{◌≡◌, ◌≢◌, ◌∷◌, ℕ, cond, List, [], Some}
use Rattle.std.specs.List.{insert}
use Rattle.irtext_graph.specs.declared.object.Defined.{Defined}
use Rattle.irtext_graph.specs.declared.object.Object.{Object}
use Rattle.irtext_graph.specs.declared.object.Site.{Site}
use Rattle.irtext_graph.specs.declared.objects.Objects.{Objects}
use Rattle.irtext_graph.specs.Graph.{GraphView, parent, children, KeepsObjects}
use Rattle.irtext_graph.specs.Objects.{eq_object, up, kids, what}
use Rattle.irtext_graph.specs.Used.{used_at, without_uses}

-- these objects in order, except c
abbrev pub without : Object → List Object → List Object
without c [] = []
without c (x ∷ xs) = cond (eq_object x c) (without c xs) (x ∷ without c xs)

module _ {O B T : Type 0} where
  -- c became the child of k with the index i
  pub record Inserts (old new : Objects O B T) (k : Object) (i : ℕ) (c : Object) : Type 0 where
    pub here : kids new k ≡ insert (kids old k) i c
    pub others : (x : Object) → x ≢ k → kids new x ≡ kids old x
    pub up_here : up new c ≡ Some k
    pub ups : (x : Object) → x ≢ c → up new x ≡ up old x
    pub whats : (x : Object) → what new x ≡ what old x

  -- c became the child of k with the index i, and is a child of nothing else
  pub record MovesIn (old new : Objects O B T) (k : Object) (i : ℕ) (c : Object) : Type 0 where
    pub here : kids new k ≡ insert (without c (kids old k)) i c
    pub others : (x : Object) → x ≢ k → kids new x ≡ without c (kids old x)
    pub up_here : up new c ≡ Some k
    pub ups : (x : Object) → x ≢ c → up new x ≡ up old x
    pub whats : (x : Object) → what new x ≡ what old x

  -- c became the child of k with the index i; the children from there on come after it
  pub record InsertsAt (old new : GraphView O B T) (k : Object) (i : ℕ) (c : Object) : Type 0 where
    pub here : children new k ≡ insert (children old k) i c
    pub others : (q : Object) → q ≢ k → children new q ≡ children old q
    pub parent_here : parent new c ≡ Some k
    pub parents : (q : Object) → q ≢ c → parent new q ≡ parent old q
    pub objects : KeepsObjects old new

  -- c left its parent, if it had one, and became the child of k with the index i among the others
  pub record Moves (old new : GraphView O B T) (k : Object) (i : ℕ) (c : Object) : Type 0 where
    pub here : children new k ≡ insert (without c (children old k)) i c
    pub others : (q : Object) → q ≢ k → children new q ≡ without c (children old q)
    pub parent_here : parent new c ≡ Some k
    pub parents : (q : Object) → q ≢ c → parent new q ≡ parent old q
    pub objects : KeepsObjects old new

  -- the operand or successor at a site refers to e, and all else is unchanged
  pub record Redirects (old new : GraphView O B T) (u : Site) (e : Defined) : Type 0 where
    pub here : used_at new u ≡ Some e
    pub others : (w : Site) → w ≢ u → used_at new w ≡ used_at old w
    pub rest : without_uses new ≡ without_uses old
