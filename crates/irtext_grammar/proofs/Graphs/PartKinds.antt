-- What the parts of a body hold of one kind; in a body of an accepted format, operands and successors of their own are numbered as
-- places are, and there is one list of each at most.
use Rattle.std.proofs.Common.{◌≡◌, ℕ, suc, ◌<◌, Bool, true, false, cond, nat_lt, List, [], ◌∷◌, ◌++◌, map, length, filter_map, Option, Some, None, option_map, option_and_then, option_to_list, refl, sym, ap, ap₂, ◌∙◌, subst, arith, flat_map}
use Rattle.std.specs.Prelude.{⊤}
use Rattle.std.specs.List.{cons_option}
use Rattle.std.proofs.lemmas.List.{length-map}
use Rattle.irtext_base.specs.Format as format
use Rattle.irtext_base.specs.Format.{Format, Directive, Accepted, count, operand_places, successor_places, is_operands, is_successors, are_places}
use Rattle.irtext_grammar.specs.Grammar.Tree as tree
use Rattle.irtext_grammar.specs.Grammar.Tree.{Name, Piece, Part, Body, custom, canonical, IsOf, directive_of_piece, directive, views, parts_of}
use Rattle.irtext_grammar.proofs.Graphs.FitsFormat.{meets, and_left, and_right, below}
use Rattle.irtext_grammar.proofs.Lists.InOrder.{firsts}

-- a list if there is a value, and otherwise the empty list
abbrev pub spread_if : {X Y : Type 0} → (Y → List X) → Option Y → List X
spread_if f None = []
spread_if f (Some y) = f y

firsts_mapped : {X : Type 0} (es : List (ℕ × X)) → map (λ e. e.0) es ≡ firsts es
firsts_mapped [] = refl
firsts_mapped (e ∷ es) = ap (λ z. e.0 ∷ z) (firsts_mapped es)

listed : {Z : Type 0} (dsel : Directive → Option Z) (ds : List Directive) → filter_map (option_and_then dsel) (map Some ds) ≡ filter_map dsel ds
listed dsel [] = refl
listed dsel (d ∷ ds) = ap (cons_option (dsel d)) (listed dsel ds)

abbrev passing : (Directive → Bool) → Directive → Option ⊤
passing test d = cond (test d) (Some tt) None

counted : (test : Directive → Bool) (ds : List Directive) → length (filter_map (passing test) ds) ≡ count test ds
counted test [] = refl
counted test (d ∷ ds) = go (test d) ∙ ap (λ n. cond (test d) (suc n) n) (counted test ds)
  where
    go : (b : Bool) → length (cons_option (cond b (Some tt) None) (filter_map (passing test) ds)) ≡ cond b (suc (length (filter_map (passing test) ds))) (length (filter_map (passing test) ds))
    go true = refl
    go false = refl

module _ {P T A : Type 0} where
  -- what the parts hold of one kind
  abbrev pub chosen : {Y : Type 0} → (Piece P T A → Option Y) → List (Part P T A) → List Y
  chosen sel [] = []
  chosen sel (tree.piece x ∷ ps) = option_to_list (sel x) ++ chosen sel ps
  chosen sel (tree.region i ∷ ps) = chosen sel ps
  chosen sel (tree.regions ∷ ps) = chosen sel ps

  -- a view of the parts is what they hold of the kind that it looks at
  pub views_chosen : {X Y : Type 0} (view : Piece P T A → List X) (sel : Piece P T A → Option Y) (f : Y → List X) → ((x : Piece P T A) → view x ≡ spread_if f (sel x)) → (ps : List (Part P T A)) → views view ps ≡ flat_map f (chosen sel ps)
  views_chosen view sel f h [] = refl
  views_chosen view sel f h (tree.piece x ∷ ps) = ap₂ ◌++◌ (h x) (views_chosen view sel f h ps) ∙ go (sel x)
    where
      go : (o : Option _) → spread_if f o ++ flat_map f (chosen sel ps) ≡ flat_map f (option_to_list o ++ chosen sel ps)
      go None = refl
      go (Some y) = refl
  views_chosen view sel f h (tree.region i ∷ ps) = views_chosen view sel f h ps
  views_chosen view sel f h (tree.regions ∷ ps) = views_chosen view sel f h ps

  -- the operand that a piece names, with its number
  abbrev pub single_operand : Piece P T A → Option (ℕ × Name P)
  single_operand x = elim x [ tree.operand i n ↦ Some (i, n) | _ ↦ None ]

  -- the list of operands that a piece is
  abbrev pub operand_list : Piece P T A → Option (List (Name P))
  operand_list x = elim x [ tree.operands ns ↦ Some ns | _ ↦ None ]

  -- the successor that a piece names, with its number
  abbrev pub single_successor : Piece P T A → Option (ℕ × Name P)
  single_successor x = elim x [ tree.successor i n ↦ Some (i, n) | _ ↦ None ]

  -- the list of successors that a piece is
  abbrev pub successor_list : Piece P T A → Option (List (Name P))
  successor_list x = elim x [ tree.successors ns ↦ Some ns | _ ↦ None ]

  -- what is chosen of parts, and of their directives
  chosen_directives : {Y Z : Type 0} (sel : Piece P T A → Option Y) (dsel : Directive → Option Z) (h : Y → Z) → ((x : Piece P T A) → option_map h (sel x) ≡ option_and_then dsel (directive_of_piece x))
      → ((i : ℕ) → dsel (format.region i) ≡ None) → dsel format.regions ≡ None → (ps : List (Part P T A)) → map h (chosen sel ps) ≡ filter_map (option_and_then dsel) (map directive ps)
  chosen_directives sel dsel h agree one all [] = refl
  chosen_directives sel dsel h agree one all (tree.piece x ∷ ps) = go (sel x) ∙ ap₂ cons_option (agree x) (chosen_directives sel dsel h agree one all ps)
    where
      go : (o : Option _) → map h (option_to_list o ++ chosen sel ps) ≡ cons_option (option_map h o) (map h (chosen sel ps))
      go None = refl
      go (Some y) = refl
  chosen_directives sel dsel h agree one all (tree.region i ∷ ps) = chosen_directives sel dsel h agree one all ps ∙ ap (λ o. cons_option o (filter_map (option_and_then dsel) (map directive ps))) (sym (one i))
  chosen_directives sel dsel h agree one all (tree.regions ∷ ps) = chosen_directives sel dsel h agree one all ps ∙ ap (λ o. cons_option o (filter_map (option_and_then dsel) (map directive ps))) (sym all)

  -- operands and successors of their own are numbered from 0 on, each once, and there is one list of each at most
  pub record Numbered (ps : List (Part P T A)) : Type 0 where
    pub operands : are_places (firsts (chosen single_operand ps)) ≡ true
    pub operand_lists : length (chosen operand_list ps) < 2
    pub successors : are_places (firsts (chosen single_successor ps)) ≡ true
    pub successor_lists : length (chosen successor_list ps) < 2

  module _ (ps : List (Part P T A)) (ds : List Directive) (e : map directive ps ≡ map Some ds) where
    chosen_are : {Y Z : Type 0} (sel : Piece P T A → Option Y) (dsel : Directive → Option Z) (h : Y → Z) → ((x : Piece P T A) → option_map h (sel x) ≡ option_and_then dsel (directive_of_piece x))
        → ((i : ℕ) → dsel (format.region i) ≡ None) → dsel format.regions ≡ None → map h (chosen sel ps) ≡ filter_map dsel ds
    chosen_are sel dsel h agree one all = chosen_directives sel dsel h agree one all ps ∙ (ap (filter_map (option_and_then dsel)) e ∙ listed dsel ds)

    few : {Y : Type 0} (sel : Piece P T A → Option Y) (test : Directive → Bool) (h : Y → ⊤) → map h (chosen sel ps) ≡ filter_map (passing test) ds → nat_lt (count test ds) 2 ≡ true → length (chosen sel ps) < 2
    few sel test h k l = subst (λ n. n < 2) (sym (sym (length-map (chosen sel ps) h) ∙ (ap length k ∙ counted test ds))) (below (count test ds) 2 l)

    custom_numbered : Accepted (format.custom ds) → Numbered ps
    custom_numbered a =
        let m = meets ds a in
        record {
          operands = subst (λ ks. are_places ks ≡ true) (sym (sym (firsts_mapped (chosen single_operand ps)) ∙ chosen_are single_operand _ (λ e. e.0) (elim [ tree.operand i n ↦ refl | _ ↦ refl ]) (λ i. refl) refl)) (and_left (are_places (operand_places ds)) (nat_lt (count is_operands ds) 2) m.second);
          operand_lists = few operand_list is_operands (λ ns. tt) (chosen_are operand_list (passing is_operands) (λ ns. tt) (elim [ tree.operands ns ↦ refl | _ ↦ refl ]) (λ i. refl) refl) (and_right (are_places (operand_places ds)) (nat_lt (count is_operands ds) 2) m.second);
          successors = subst (λ ks. are_places ks ≡ true) (sym (sym (firsts_mapped (chosen single_successor ps)) ∙ chosen_are single_successor _ (λ e. e.0) (elim [ tree.successor i n ↦ refl | _ ↦ refl ]) (λ i. refl) refl)) (and_left (are_places (successor_places ds)) (nat_lt (count is_successors ds) 2) m.third);
          successor_lists = few successor_list is_successors (λ ns. tt) (chosen_are successor_list (passing is_successors) (λ ns. tt) (elim [ tree.successors ns ↦ refl | _ ↦ refl ]) (λ i. refl) refl) (and_right (are_places (successor_places ds)) (nat_lt (count is_successors ds) 2) m.third);
        }

  -- of a body that an accepted format parses
  pub formed_numbered : (f : Format) (b : Body P T A) → Accepted f → IsOf f b → Numbered (parts_of b)
  formed_numbered (format.custom ds) (custom ps) a e = custom_numbered ps ds e a
  formed_numbered (format.custom ds) (canonical ns ls es xs ys) a e = absurd e
  formed_numbered format.canonical (custom ps) a e = absurd e
  formed_numbered format.canonical (canonical ns ls es xs ys) a e = record { operands = refl; operand_lists = omega arith; successors = refl; successor_lists = omega arith }
