-- The scopes of a tree's script resolve where those of the tree do, and its claims hold where the tree's counts and keys are right.
use Rattle.std.proofs.Common.{◌≡◌, Bool, true, false, cond, List, [], ◌∷◌, ◌++◌, sym, ap, ◌∙◌, subst}
use Rattle.std.specs.Prelude.{⊤}
use Rattle.irtext_base.specs.Text.{Text}
use Rattle.irtext_base.specs.Format.{Id, same_text, has, distinct}
use Rattle.irtext_grammar.specs.Spelling.Spellable.{Each}
use Rattle.irtext_grammar.specs.Grammar.Forest.{Regions, no_regions, region, Blocks, no_blocks, block, Operations, no_operations, operation}
use Rattle.irtext_grammar.specs.Grammar.Tree as tree
use Rattle.irtext_grammar.specs.Grammar.Tree.{Part, Op, Head, Brace, Tree, parts_of}
use Rattle.irtext_grammar.specs.Names.Script.{Path, Act, Script, done, within, does_all}
use Rattle.irtext_grammar.specs.Names.Scopes.{Fact, facts}
use Rattle.irtext_grammar.specs.Names.Acts.{piece_acts, closing_acts, header_acts, blocks_script, tree_script}
use Rattle.irtext_grammar.specs.Names.Resolves.{Scope, DefinesOnce, DefinesUsed, values_of, labels_of, scopes_in_regions, scopes_in_blocks, scopes_in_operations}
use Rattle.irtext_grammar.proofs.Names.ResolvedScript as script
use Rattle.irtext_grammar.proofs.Names.ResolvedScript.{defined, used, scopes}
use Rattle.irtext_grammar.proofs.Names.InScripts as scripts
use Rattle.irtext_grammar.proofs.Names.InScripts.{Both, WholeBlocks, WholeOperations}
use Rattle.irtext_grammar.proofs.Names.TreeLists as lists
use Rattle.irtext_grammar.proofs.Names.TreeUses as uses
use Rattle.irtext_grammar.proofs.Lists.Each.{each_both, each_left, each_right}

each_two : {X : Type 0} (Q : X → Type 0) (xs ys : List X) {C E : Type 0} → Both C (Each Q xs) → Both E (Each Q ys) → Both (C × E) (Each Q (xs ++ ys))
each_two Q xs ys c e = record { to = λ d. each_both Q xs ys (c.to d.0) (e.to d.1); from = λ d. (c.from (each_left Q xs ys d), e.from (each_right Q xs ys d)) }

-- the scope resolves
abbrev pub Ok : Scope → Type 0
Ok s = DefinesOnce s × DefinesUsed s

scope_same : (fs : List (Fact Text)) (s : Scope) → defined fs ≡ s.defined → ((Q : Text → Type 0) → Both (Each Q (used fs)) (Each Q s.used)) → Both (script.Scope fs) (Ok s)
scope_same fs s e u =
    let Q : List Text → Type 0 = λ names. Each (λ n. has same_text n names ≡ true) (used fs) in
    let b = u (λ n. has same_text n s.defined ≡ true) in record {
      to = λ d. (ap (distinct same_text) (sym e) ∙ d.0, b.to (subst Q e d.1));
      from = λ d. (ap (distinct same_text) e ∙ d.0, subst Q (sym e) (b.from d.1));
    }

-- ---- scopes
module _ {P T A : Type 0} (isolated : Id → Bool) where
  values_same : (p : Path) (bs : Blocks (Op P T A) (Head P T A) (Brace P)) → WholeBlocks bs → Both (script.Scope (facts same_text (blocks_script isolated p 0 bs)).values) (Ok (values_of isolated bs))
  values_same p bs w = scope_same (facts same_text (blocks_script isolated p 0 bs)).values (values_of isolated bs) (lists.values_in_blocks isolated p 0 bs w) (λ Q. uses.values_in_blocks isolated Q p 0 bs w)

  labels_same : (p : Path) (bs : Blocks (Op P T A) (Head P T A) (Brace P)) → WholeBlocks bs → Both (script.Scope (facts same_text (blocks_script isolated p 0 bs)).labels) (Ok (labels_of isolated bs))
  labels_same p bs w = scope_same (facts same_text (blocks_script isolated p 0 bs)).labels (labels_of isolated bs) (lists.labels_in_blocks isolated p 0 bs w) (λ Q. uses.labels_in_blocks isolated Q p 0 bs w)

abbrev Resolved : {P : Type 0} → Script Text P → Type 0
Resolved x = Each script.Scope (scopes x)

same_scopes : {P : Type 0} (acts : List (Act Text P)) (k : Script Text P) → Both (Resolved (does_all acts k)) (⊤ × Resolved k)
same_scopes [] k = record { to = λ d. (tt, d); from = λ d. d.1 }
same_scopes (a ∷ acts) k = same_scopes acts k

module _ {P T A : Type 0} (isolated : Id → Bool) where
  -- the scopes of one region
  abbrev own_scopes : Bool → Blocks (Op P T A) (Head P T A) (Brace P) → List Scope
  own_scopes iso bs = labels_of isolated bs ∷ cond iso (values_of isolated bs ∷ []) []

  abbrev Inside : Bool → Blocks (Op P T A) (Head P T A) (Brace P) → Type 0 → Type 0
  Inside iso bs D = Each Ok (own_scopes iso bs) × D

  within_resolves : (p : Path) (iso : Bool) (place : P) (bs : Blocks (Op P T A) (Head P T A) (Brace P)) (then : Script Text P) (D : Type 0) → WholeBlocks bs → Both (Resolved (blocks_script isolated p 0 bs)) D
      → Both (Resolved (within iso place (blocks_script isolated p 0 bs) then)) (Inside iso bs D × Resolved then)
  within_resolves p true place bs then D w b =
      let body = blocks_script isolated p 0 bs in
      let v = values_same isolated p bs w in
      let l = labels_same isolated p bs w in
      let rest = (facts same_text body).values ∷ (facts same_text body).labels ∷ scopes then in record {
        to = λ d. let x = each_right script.Scope (scopes body) rest d in (((l.to x.1.0, (v.to x.0, tt)), b.to (each_left script.Scope (scopes body) rest d)), x.1.1);
        from = λ d. each_both script.Scope (scopes body) rest (b.from d.0.1) (v.from d.0.0.1.0, (l.from d.0.0.0, d.1));
      }
  within_resolves p false place bs then D w b =
      let body = blocks_script isolated p 0 bs in
      let l = labels_same isolated p bs w in
      let rest = (facts same_text body).labels ∷ scopes then in record {
        to = λ d. let x = each_right script.Scope (scopes body) rest d in (((l.to x.0, tt), b.to (each_left script.Scope (scopes body) rest d)), x.1);
        from = λ d. each_both script.Scope (scopes body) rest (b.from d.0.1) (l.from d.0.0.0, d.1);
      }

  abbrev InParts : List (Part P T A) → Type 0
  InParts ps = scripts.OfParts isolated (λ x. ⊤) (λ o. ⊤) (λ h. ⊤) Inside Resolved tt (λ p k l x then. same_scopes (piece_acts p k l x) then) (λ p o then. same_scopes (closing_acts p o) then) (λ p h then. same_scopes (header_acts p h) then) within_resolves ps

  abbrev InRegions : Bool → Regions (Op P T A) (Head P T A) (Brace P) → Type 0
  InRegions iso rs = scripts.OfRegions isolated (λ x. ⊤) (λ o. ⊤) (λ h. ⊤) Inside Resolved tt (λ p k l x then. same_scopes (piece_acts p k l x) then) (λ p o then. same_scopes (closing_acts p o) then) (λ p h then. same_scopes (header_acts p h) then) within_resolves iso rs

  abbrev InBlocks : Blocks (Op P T A) (Head P T A) (Brace P) → Type 0
  InBlocks bs = scripts.OfBlocks isolated (λ x. ⊤) (λ o. ⊤) (λ h. ⊤) Inside Resolved tt (λ p k l x then. same_scopes (piece_acts p k l x) then) (λ p o then. same_scopes (closing_acts p o) then) (λ p h then. same_scopes (header_acts p h) then) within_resolves bs

  abbrev InOperations : Operations (Op P T A) (Head P T A) (Brace P) → Type 0
  InOperations os = scripts.OfOperations isolated (λ x. ⊤) (λ o. ⊤) (λ h. ⊤) Inside Resolved tt (λ p k l x then. same_scopes (piece_acts p k l x) then) (λ p o then. same_scopes (closing_acts p o) then) (λ p h then. same_scopes (header_acts p h) then) within_resolves os

  no_parts : (ps : List (Part P T A)) → InParts ps
  no_parts [] = tt
  no_parts (tree.piece x ∷ ps) = (tt, no_parts ps)
  no_parts (tree.region i ∷ ps) = no_parts ps
  no_parts (tree.regions ∷ ps) = no_parts ps

  mutual
    regions_scopes : (iso : Bool) (rs : Regions (Op P T A) (Head P T A) (Brace P)) → Both (InRegions iso rs) (Each Ok (scopes_in_regions isolated iso rs))
    regions_scopes iso no_regions = record { to = λ d. tt; from = λ d. tt }
    regions_scopes iso (region brace bs rs) =
        let r = each_two Ok (scopes_in_blocks isolated bs) (scopes_in_regions isolated iso rs) (blocks_scopes bs) (regions_scopes iso rs) in
        let t = each_two Ok (own_scopes iso bs) (scopes_in_blocks isolated bs ++ scopes_in_regions isolated iso rs) (record { to = λ d. d; from = λ d. d }) r in
        record { to = λ d. t.to (d.0.0, (d.0.1, d.1)); from = λ d. let u = t.from d in ((u.0, u.1.0), u.1.1) }

    blocks_scopes : (bs : Blocks (Op P T A) (Head P T A) (Brace P)) → Both (InBlocks bs) (Each Ok (scopes_in_blocks isolated bs))
    blocks_scopes no_blocks = record { to = λ d. tt; from = λ d. tt }
    blocks_scopes (block h os bs) =
        let r = each_two Ok (scopes_in_operations isolated os) (scopes_in_blocks isolated bs) (operations_scopes os) (blocks_scopes bs) in
        record { to = λ d. r.to d.1; from = λ d. (tt, r.from d) }

    operations_scopes : (os : Operations (Op P T A) (Head P T A) (Brace P)) → Both (InOperations os) (Each Ok (scopes_in_operations isolated os))
    operations_scopes no_operations = record { to = λ d. tt; from = λ d. tt }
    operations_scopes (operation o rs os) =
        let r = each_two Ok (scopes_in_regions isolated (isolated o.id) rs) (scopes_in_operations isolated os) (regions_scopes (isolated o.id) rs) (operations_scopes os) in
        record { to = λ d. r.to (d.0.1.0, d.1); from = λ d. let u = r.from d in ((no_parts (parts_of o.body), (u.0, tt)), u.1) }

  -- the scopes of a root's script resolve exactly where those of the root do
  pub root_scopes : (t : Tree P T A) → WholeOperations (operation t.own t.regions no_operations) → Both (Resolved (tree_script isolated t done)) (Each Ok (scopes_in_regions isolated (isolated t.own.id) t.regions))
  root_scopes t w =
      let h = scripts.operation_holds isolated (λ x. ⊤) (λ o. ⊤) (λ h. ⊤) Inside Resolved tt (λ p k l x then. same_scopes (piece_acts p k l x) then) (λ p o then. same_scopes (closing_acts p o) then) (λ p h then. same_scopes (header_acts p h) then) within_resolves [] t.own t.regions done w.0.0 (scripts.regions_hold isolated (λ x. ⊤) (λ o. ⊤) (λ h. ⊤) Inside Resolved tt (λ p k l x then. same_scopes (piece_acts p k l x) then) (λ p o then. same_scopes (closing_acts p o) then) (λ p h then. same_scopes (header_acts p h) then) within_resolves [] 0 (isolated t.own.id) t.regions w.0.1) in
      let r = regions_scopes (isolated t.own.id) t.regions in
      record { to = λ d. r.to (h.to d).0.1.0; from = λ d. h.from ((no_parts (parts_of t.own.body), (r.from d, tt)), tt) }
