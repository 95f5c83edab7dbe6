-- The claims of a tree's script hold where the tree's counts and keys are right; it has no entry; and its regions are isolated where the root is.
use Rattle.std.proofs.Common.{◌≡◌, ℕ, Bool, true, List, [], ◌∷◌, ◌++◌, refl, sym, true≢false}
use Rattle.std.specs.Prelude.{⊤}
use Rattle.irtext_base.specs.Text.{Text}
use Rattle.irtext_base.specs.Format.{Id}
use Rattle.irtext_grammar.specs.Spelling.Spellable.{Each}
use Rattle.irtext_grammar.specs.Grammar.Forest.{Regions, no_regions, region, Blocks, no_blocks, block, Operations, no_operations, operation, AllRegions, AllBlocks, AllOperations}
use Rattle.irtext_grammar.specs.Grammar.Tree as tree
use Rattle.irtext_grammar.specs.Grammar.Tree.{Piece, Part, Op, Head, Brace, Tree, parts_of, views}
use Rattle.irtext_grammar.specs.Names.Script.{Path, Act, entry, claim, Script, done, within, does_all}
use Rattle.irtext_grammar.specs.Names.Acts.{piece_acts, closing_acts, header_acts, blocks_script, tree_script, may_hold}
use Rattle.irtext_grammar.specs.Names.Resolves.{KeysKept, CountsAgree, OpKeysKept, HeadKeysKept}
use Rattle.irtext_grammar.specs.Spelling.Writable.{has_region}
use Rattle.irtext_grammar.proofs.Names.ResolvedScript.{Claims, Entryless, OuterIsolated}
use Rattle.irtext_grammar.proofs.Names.ActsOfTrees.{entries_in, Holds, NoEntry, piece_holds, holds_piece, piece_no_entry, closing_holds, closing_no_entry, header_holds, holds_header, header_no_entry}
use Rattle.irtext_grammar.proofs.Names.InScripts as scripts
use Rattle.irtext_grammar.proofs.Names.InScripts.{Both, WholeBlocks, WholeOperations}
use Rattle.irtext_grammar.proofs.Lists.Each.{each_both, each_left, each_right}

-- ---- acts
claims_acts : {P : Type 0} (acts : List (Act Text P)) (k : Script Text P) → Both (Claims (does_all acts k)) (Each Holds acts × Claims k)
claims_acts [] k = record { to = λ d. (tt, d); from = λ d. d.1 }
claims_acts (claim b x ∷ acts) k = let r = claims_acts acts k in record { to = λ d. let u = r.to d.1 in ((d.0, u.0), u.1); from = λ d. (d.0.0, r.from (d.0.1, d.1)) }
claims_acts (_ ∷ acts) k = let r = claims_acts acts k in record { to = λ d. let u = r.to d in ((tt, u.0), u.1); from = λ d. r.from (d.0.1, d.1) }

none_acts : {P : Type 0} (acts : List (Act Text P)) (k : Script Text P) → Each NoEntry acts → Both (Entryless (does_all acts k)) (⊤ × Entryless k)
none_acts [] k e = record { to = λ d. (tt, d); from = λ d. d.1 }
none_acts (entry i p ∷ acts) k e = absurd e.0
none_acts (_ ∷ acts) k e = none_acts acts k e.1

same_outer : {P : Type 0} (acts : List (Act Text P)) (k : Script Text P) → Both (OuterIsolated (does_all acts k)) (⊤ × OuterIsolated k)
same_outer [] k = record { to = λ d. (tt, d); from = λ d. d.1 }
same_outer (a ∷ acts) k = same_outer acts k

each_two : {X : Type 0} (Q : X → Type 0) (xs ys : List X) {C E : Type 0} → Both C (Each Q xs) → Both E (Each Q ys) → Both (C × E) (Each Q (xs ++ ys))
each_two Q xs ys c e = record { to = λ d. each_both Q xs ys (c.to d.0) (e.to d.1); from = λ d. (c.from (each_left Q xs ys d), e.from (each_right Q xs ys d)) }

-- ---- counts and keys
module _ {P T A : Type 0} where
  pieces_claim : (p : Path) (k l : ℕ) (x : Piece P T A) (then : Script Text P) → Both (Claims (does_all (piece_acts p k l x) then)) (KeysKept may_hold (entries_in x) × Claims then)
  pieces_claim p k l x then = let r = claims_acts (piece_acts p k l x) then in record { to = λ d. let u = r.to d in (holds_piece p k l x u.0, u.1); from = λ d. r.from (piece_holds p k l x d.0, d.1) }

  closes_claim : (p : Path) (o : Op P T A) (then : Script Text P) → Both (Claims (does_all (closing_acts p o) then)) (CountsAgree o × Claims then)
  closes_claim p o then = let r = claims_acts (closing_acts p o) then in record { to = λ d. let u = r.to d in (u.0.0, u.1); from = λ d. r.from (closing_holds p o d.0, d.1) }

  heads_claim : (p : Path) (h : Head P T A) (then : Script Text P) → Both (Claims (does_all (header_acts p h) then)) (HeadKeysKept h × Claims then)
  heads_claim p h then = let r = claims_acts (header_acts p h) then in record { to = λ d. let u = r.to d in (holds_header p h u.0, u.1); from = λ d. r.from (header_holds p h d.0, d.1) }

  pieces_none : (p : Path) (k l : ℕ) (x : Piece P T A) (then : Script Text P) → Both (Entryless (does_all (piece_acts p k l x) then)) (⊤ × Entryless then)
  pieces_none p k l x then = none_acts (piece_acts p k l x) then (piece_no_entry p k l x)

  closes_none : (p : Path) (o : Op P T A) (then : Script Text P) → Both (Entryless (does_all (closing_acts p o) then)) (⊤ × Entryless then)
  closes_none p o then = none_acts (closing_acts p o) then (closing_no_entry p o)

  heads_none : (p : Path) (h : Head P T A) (then : Script Text P) → Both (Entryless (does_all (header_acts p h) then)) (⊤ × Entryless then)
  heads_none p h then = none_acts (header_acts p h) then (header_no_entry p h)

module _ {P T A : Type 0} (isolated : Id → Bool) where
  within_claims : (p : Path) (iso : Bool) (place : P) (bs : Blocks (Op P T A) (Head P T A) (Brace P)) (then : Script Text P) (D : Type 0) → WholeBlocks bs → Both (Claims (blocks_script isolated p 0 bs)) D
      → Both (Claims (within iso place (blocks_script isolated p 0 bs) then)) (D × Claims then)
  within_claims p iso place bs then D w b = record { to = λ d. (b.to d.0, d.1); from = λ d. (b.from d.0, d.1) }

  within_none : (p : Path) (iso : Bool) (place : P) (bs : Blocks (Op P T A) (Head P T A) (Brace P)) (then : Script Text P) (D : Type 0) → WholeBlocks bs → Both (Entryless (blocks_script isolated p 0 bs)) D
      → Both (Entryless (within iso place (blocks_script isolated p 0 bs) then)) (D × Entryless then)
  within_none p iso place bs then D w b = record { to = λ d. (b.to d.0, d.1); from = λ d. (b.from d.0, d.1) }

  abbrev OfParts : List (Part P T A) → Type 0
  OfParts ps = scripts.OfParts isolated (λ x. KeysKept may_hold (entries_in x)) CountsAgree HeadKeysKept (λ iso bs D. D) Claims tt pieces_claim closes_claim heads_claim within_claims ps

  abbrev OfRegions : Bool → Regions (Op P T A) (Head P T A) (Brace P) → Type 0
  OfRegions iso rs = scripts.OfRegions isolated (λ x. KeysKept may_hold (entries_in x)) CountsAgree HeadKeysKept (λ iso bs D. D) Claims tt pieces_claim closes_claim heads_claim within_claims iso rs

  abbrev OfBlocks : Blocks (Op P T A) (Head P T A) (Brace P) → Type 0
  OfBlocks bs = scripts.OfBlocks isolated (λ x. KeysKept may_hold (entries_in x)) CountsAgree HeadKeysKept (λ iso bs D. D) Claims tt pieces_claim closes_claim heads_claim within_claims bs

  abbrev OfOperations : Operations (Op P T A) (Head P T A) (Brace P) → Type 0
  OfOperations os = scripts.OfOperations isolated (λ x. KeysKept may_hold (entries_in x)) CountsAgree HeadKeysKept (λ iso bs D. D) Claims tt pieces_claim closes_claim heads_claim within_claims os

  parts_keys : (ps : List (Part P T A)) → Both (OfParts ps) (KeysKept may_hold (views entries_in ps))
  parts_keys [] = record { to = λ d. tt; from = λ d. tt }
  parts_keys (tree.piece x ∷ ps) = each_two _ (entries_in x) (views entries_in ps) (record { to = λ d. d; from = λ d. d }) (parts_keys ps)
  parts_keys (tree.region i ∷ ps) = parts_keys ps
  parts_keys (tree.regions ∷ ps) = parts_keys ps

  abbrev CountRegions : Regions (Op P T A) (Head P T A) (Brace P) → Type 0
  CountRegions rs = AllRegions CountsAgree (λ h. ⊤) (λ r. ⊤) rs

  abbrev CountBlocks : Blocks (Op P T A) (Head P T A) (Brace P) → Type 0
  CountBlocks bs = AllBlocks CountsAgree (λ h. ⊤) (λ r. ⊤) bs

  abbrev CountOperations : Operations (Op P T A) (Head P T A) (Brace P) → Type 0
  CountOperations os = AllOperations CountsAgree (λ h. ⊤) (λ r. ⊤) os

  abbrev KeyRegions : Regions (Op P T A) (Head P T A) (Brace P) → Type 0
  KeyRegions rs = AllRegions OpKeysKept HeadKeysKept (λ r. ⊤) rs

  abbrev KeyBlocks : Blocks (Op P T A) (Head P T A) (Brace P) → Type 0
  KeyBlocks bs = AllBlocks OpKeysKept HeadKeysKept (λ r. ⊤) bs

  abbrev KeyOperations : Operations (Op P T A) (Head P T A) (Brace P) → Type 0
  KeyOperations os = AllOperations OpKeysKept HeadKeysKept (λ r. ⊤) os

  mutual
    regions_claim : (iso : Bool) (rs : Regions (Op P T A) (Head P T A) (Brace P)) → Both (OfRegions iso rs) (CountRegions rs × KeyRegions rs)
    regions_claim iso no_regions = record { to = λ d. (tt, tt); from = λ d. tt }
    regions_claim iso (region brace bs rs) =
        let r = blocks_claim bs in
        let s = regions_claim iso rs in
        record { to = λ d. let u = r.to d.0 in let v = s.to d.1 in ((tt, u.0, v.0), (tt, u.1, v.1)); from = λ d. (r.from (d.0.1, d.1.1), s.from (d.0.2, d.1.2)) }

    blocks_claim : (bs : Blocks (Op P T A) (Head P T A) (Brace P)) → Both (OfBlocks bs) (CountBlocks bs × KeyBlocks bs)
    blocks_claim no_blocks = record { to = λ d. (tt, tt); from = λ d. tt }
    blocks_claim (block h os bs) =
        let r = operations_claim os in
        let s = blocks_claim bs in
        record { to = λ d. let u = r.to d.1.0 in let v = s.to d.1.1 in ((tt, u.0, v.0), (d.0, u.1, v.1)); from = λ d. (d.1.0, (r.from (d.0.1, d.1.1), s.from (d.0.2, d.1.2))) }

    operations_claim : (os : Operations (Op P T A) (Head P T A) (Brace P)) → Both (OfOperations os) (CountOperations os × KeyOperations os)
    operations_claim no_operations = record { to = λ d. (tt, tt); from = λ d. tt }
    operations_claim (operation o rs os) =
        let k = parts_keys (parts_of o.body) in
        let r = regions_claim (isolated o.id) rs in
        let s = operations_claim os in record {
          to = λ d. let u = r.to d.0.1.0 in let v = s.to d.1 in ((d.0.1.1, u.0, v.0), (k.to d.0.0, u.1, v.1));
          from = λ d. ((k.from d.1.0, (r.from (d.0.1, d.1.1), d.0.0)), s.from (d.0.2, d.1.2));
        }

  -- the claims of a root's script hold exactly where its counts and keys are right
  pub root_claims : (t : Tree P T A) → WholeOperations (operation t.own t.regions no_operations) → Both (Claims (tree_script isolated t done)) ((CountsAgree t.own × CountRegions t.regions) × (OpKeysKept t.own × KeyRegions t.regions))
  root_claims t w =
      let h = scripts.operation_holds isolated (λ x. KeysKept may_hold (entries_in x)) CountsAgree HeadKeysKept (λ iso bs D. D) Claims tt pieces_claim closes_claim heads_claim within_claims [] t.own t.regions done w.0.0 (scripts.regions_hold isolated (λ x. KeysKept may_hold (entries_in x)) CountsAgree HeadKeysKept (λ iso bs D. D) Claims tt pieces_claim closes_claim heads_claim within_claims [] 0 (isolated t.own.id) t.regions w.0.1) in
      let k = parts_keys (parts_of t.own.body) in
      let r = regions_claim (isolated t.own.id) t.regions in record {
        to = λ d. let u = h.to d in let v = r.to u.0.1.0 in ((u.0.1.1, v.0), (k.to u.0.0, v.1));
        from = λ d. h.from ((k.from d.1.0, (r.from (d.0.1, d.1.1), d.0.0)), tt);
      }

  -- ---- no entry
  nothing_asked : (ps : List (Part P T A)) → scripts.OfParts isolated (λ x. ⊤) (λ o. ⊤) (λ h. ⊤) (λ iso bs D. D) Entryless tt pieces_none closes_none heads_none within_none ps
  nothing_asked [] = tt
  nothing_asked (tree.piece x ∷ ps) = (tt, nothing_asked ps)
  nothing_asked (tree.region i ∷ ps) = nothing_asked ps
  nothing_asked (tree.regions ∷ ps) = nothing_asked ps

  mutual
    regions_none : (iso : Bool) (rs : Regions (Op P T A) (Head P T A) (Brace P)) → scripts.OfRegions isolated (λ x. ⊤) (λ o. ⊤) (λ h. ⊤) (λ iso bs D. D) Entryless tt pieces_none closes_none heads_none within_none iso rs
    regions_none iso no_regions = tt
    regions_none iso (region brace bs rs) = (blocks_none bs, regions_none iso rs)

    blocks_none : (bs : Blocks (Op P T A) (Head P T A) (Brace P)) → scripts.OfBlocks isolated (λ x. ⊤) (λ o. ⊤) (λ h. ⊤) (λ iso bs D. D) Entryless tt pieces_none closes_none heads_none within_none bs
    blocks_none no_blocks = tt
    blocks_none (block h os bs) = (tt, (operations_none os, blocks_none bs))

    operations_none : (os : Operations (Op P T A) (Head P T A) (Brace P)) → scripts.OfOperations isolated (λ x. ⊤) (λ o. ⊤) (λ h. ⊤) (λ iso bs D. D) Entryless tt pieces_none closes_none heads_none within_none os
    operations_none no_operations = tt
    operations_none (operation o rs os) = ((nothing_asked (parts_of o.body), (regions_none (isolated o.id) rs, tt)), operations_none os)

  -- a root's script has no entry
  pub root_entryless : (t : Tree P T A) → WholeOperations (operation t.own t.regions no_operations) → Entryless (tree_script isolated t done)
  root_entryless t w =
      let h = scripts.operation_holds isolated (λ x. ⊤) (λ o. ⊤) (λ h. ⊤) (λ iso bs D. D) Entryless tt pieces_none closes_none heads_none within_none [] t.own t.regions done w.0.0 (scripts.regions_hold isolated (λ x. ⊤) (λ o. ⊤) (λ h. ⊤) (λ iso bs D. D) Entryless tt pieces_none closes_none heads_none within_none [] 0 (isolated t.own.id) t.regions w.0.1) in
      h.from ((nothing_asked (parts_of t.own.body), (regions_none (isolated t.own.id) t.regions, tt)), tt)

  -- ---- the root is isolated
  outer_parts : (ps : List (Part P T A)) → scripts.OfParts isolated (λ x. ⊤) (λ o. ⊤) (λ h. ⊤) (λ iso bs D. iso ≡ true) OuterIsolated tt (λ p k l x then. same_outer (piece_acts p k l x) then) (λ p o then. same_outer (closing_acts p o) then) (λ p h then. same_outer (header_acts p h) then) (λ p iso place bs then D w b. record { to = λ d. d; from = λ d. d }) ps
  outer_parts [] = tt
  outer_parts (tree.piece x ∷ ps) = (tt, outer_parts ps)
  outer_parts (tree.region i ∷ ps) = outer_parts ps
  outer_parts (tree.regions ∷ ps) = outer_parts ps

  outer_regions : (iso : Bool) (rs : Regions (Op P T A) (Head P T A) (Brace P)) → iso ≡ true → scripts.OfRegions isolated (λ x. ⊤) (λ o. ⊤) (λ h. ⊤) (λ iso bs D. iso ≡ true) OuterIsolated tt (λ p k l x then. same_outer (piece_acts p k l x) then) (λ p o then. same_outer (closing_acts p o) then) (λ p h then. same_outer (header_acts p h) then) (λ p iso place bs then D w b. record { to = λ d. d; from = λ d. d }) iso rs
  outer_regions iso no_regions e = tt
  outer_regions iso (region brace bs rs) e = (e, outer_regions iso rs e)

  regions_outer : (iso : Bool) (rs : Regions (Op P T A) (Head P T A) (Brace P)) → Both (scripts.OfRegions isolated (λ x. ⊤) (λ o. ⊤) (λ h. ⊤) (λ iso bs D. iso ≡ true) OuterIsolated tt (λ p k l x then. same_outer (piece_acts p k l x) then) (λ p o then. same_outer (closing_acts p o) then) (λ p h then. same_outer (header_acts p h) then) (λ p iso place bs then D w b. record { to = λ d. d; from = λ d. d }) iso rs) (has_region rs ≡ true → iso ≡ true)
  regions_outer iso no_regions = record { to = λ d e. absurd (true≢false (sym e)); from = λ d. tt }
  regions_outer iso (region brace bs rs) = record { to = λ d e. d.0; from = λ d. outer_regions iso (region brace bs rs) (d refl) }

  -- the outermost regions of a root's script are isolated exactly where the root is
  pub root_outer : (t : Tree P T A) → WholeOperations (operation t.own t.regions no_operations) → Both (OuterIsolated (tree_script isolated t done)) (has_region t.regions ≡ true → isolated t.own.id ≡ true)
  root_outer t w =
      let h = scripts.operation_holds isolated (λ x. ⊤) (λ o. ⊤) (λ h. ⊤) (λ iso bs D. iso ≡ true) OuterIsolated tt (λ p k l x then. same_outer (piece_acts p k l x) then) (λ p o then. same_outer (closing_acts p o) then) (λ p h then. same_outer (header_acts p h) then) (λ p iso place bs then D w b. record { to = λ d. d; from = λ d. d }) [] t.own t.regions done w.0.0 (scripts.regions_hold isolated (λ x. ⊤) (λ o. ⊤) (λ h. ⊤) (λ iso bs D. iso ≡ true) OuterIsolated tt (λ p k l x then. same_outer (piece_acts p k l x) then) (λ p o then. same_outer (closing_acts p o) then) (λ p h then. same_outer (header_acts p h) then) (λ p iso place bs then D w b. record { to = λ d. d; from = λ d. d }) [] 0 (isolated t.own.id) t.regions w.0.1) in
      let r = regions_outer (isolated t.own.id) t.regions in
      record { to = λ d. r.to (h.to d).0.1.0; from = λ d. h.from ((outer_parts (parts_of t.own.body), (r.from d, tt)), tt) }
