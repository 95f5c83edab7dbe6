-- What the acts of a tree's items name, ask and mark.
use Rattle.std.proofs.Common.{◌≡◌, ℕ, suc, true, List, [], ◌∷◌, ◌++◌, map, Option, Some, None, refl, sym, ap, ap₂, ◌∙◌, append-nil}
use Rattle.std.specs.Prelude.{⊤, flat_map}
use Rattle.irtext_base.specs.Text.{Text}
use Rattle.irtext_grammar.specs.Spelling.Spellable.{Each}
use Rattle.irtext_grammar.specs.Grammar.Tree as tree
use Rattle.irtext_grammar.specs.Grammar.Tree.{Name, Mark, Attribute, Piece, Op, Head}
use Rattle.irtext_grammar.specs.Names.Script.{Path, block_at, Act, use_value, use_label, define_value, define_label, mark, entry, claim}
use Rattle.irtext_grammar.specs.Names.Acts.{value_uses, label_uses, result_definitions, argument_definitions, mark_acts, key_act, piece_acts, closing_acts, header_acts, entries_if, Rule, may_hold, block_may_hold, marked_as}
use Rattle.irtext_grammar.specs.Names.Resolves.{texts, KeysKept, CountsAgree, HeadKeysKept}
use Rattle.irtext_grammar.proofs.Names.ResolvedSection.{flat_both}
use Rattle.irtext_grammar.proofs.Lists.Each.{each_both, each_left}

-- the values that a piece names, and the blocks
abbrev pub values_in : {P T A : Type 0} → Piece P T A → List (Name P)
values_in p = elim p [ tree.operand i n ↦ n ∷ [] | tree.operands ns ↦ ns | _ ↦ [] ]

-- the labels that a piece names
abbrev pub labels_in : {P T A : Type 0} → Piece P T A → List (Name P)
labels_in p = elim p [ tree.successor i n ↦ n ∷ [] | tree.successors ns ↦ ns | _ ↦ [] ]

-- the entries of a piece's dictionary
abbrev pub entries_in : {P T A : Type 0} → Piece P T A → List (Name P × Attribute A)
entries_in p = elim p [ tree.dictionary es ↦ es | _ ↦ [] ]

module _ {X : Type 0} (uv ul dv dl : Text → List X) (mk : ℕ → List X) where
  -- what one act gives
  abbrev pub act_of : {P : Type 0} → Act Text P → List X
  act_of (use_value w u) = uv w.name
  act_of (use_label w u) = ul w.name
  act_of (define_value w p) = dv w.name
  act_of (define_label w p) = dl w.name
  act_of (mark i p) = mk i
  act_of (entry i p) = []
  act_of (claim b x) = []

  module _ {P : Type 0} where
    flat_values : (p : Path) (k : ℕ) (ns : List (Name P)) → flat_map act_of (value_uses p k ns) ≡ flat_map uv (texts ns)
    flat_values p k [] = refl
    flat_values p k (n ∷ ns) = ap (λ z. uv n.text ++ z) (flat_values p (suc k) ns)

    flat_labels : (p : Path) (k : ℕ) (ns : List (Name P)) → flat_map act_of (label_uses p k ns) ≡ flat_map ul (texts ns)
    flat_labels p k [] = refl
    flat_labels p k (n ∷ ns) = ap (λ z. ul n.text ++ z) (flat_labels p (suc k) ns)

    flat_results : (p : Path) (k : ℕ) (ns : List (Name P)) → flat_map act_of (result_definitions p k ns) ≡ flat_map dv (texts ns)
    flat_results p k [] = refl
    flat_results p k (n ∷ ns) = ap (λ z. dv n.text ++ z) (flat_results p (suc k) ns)

    flat_arguments : {T : Type 0} (p : Path) (k : ℕ) (xs : List (Name P × T)) → flat_map act_of (argument_definitions p k xs) ≡ flat_map dv (texts (map (λ a. a.0) xs))
    flat_arguments p k [] = refl
    flat_arguments p k (x ∷ xs) = ap (λ z. dv x.0.text ++ z) (flat_arguments p (suc k) xs)

    flat_keys : {A : Type 0} (rule : Rule A) (es : List (Name P × Attribute A)) → flat_map act_of (map (key_act rule) es) ≡ []
    flat_keys rule [] = refl
    flat_keys rule (e ∷ es) = flat_keys rule es

    flat_mark : (m : Option (Mark P)) → flat_map act_of (mark_acts m) ≡ flat_map mk (marked_as m)
    flat_mark None = refl
    flat_mark (Some m) = refl

  module _ {P T A : Type 0} where
    -- what a piece's acts give: the values and the labels that it uses
    pub piece_gives : (p : Path) (k l : ℕ) (x : Piece P T A) → flat_map act_of (piece_acts p k l x) ≡ flat_map uv (texts (values_in x)) ++ flat_map ul (texts (labels_in x))
    piece_gives p k l (tree.operand i n) = sym (append-nil (uv n.text ++ []))
    piece_gives p k l (tree.operands ns) = flat_values p k ns ∙ sym (append-nil (flat_map uv (texts ns)))
    piece_gives p k l (tree.successors ns) = flat_labels p l ns
    piece_gives p k l (tree.dictionary es) = flat_keys may_hold es
    piece_gives p k l _ = refl

    -- what the acts at an operation's end give: its results, and its mark
    pub closing_gives : (p : Path) (o : Op P T A) → flat_map act_of (closing_acts p o) ≡ flat_map dv (texts o.names) ++ flat_map mk (marked_as o.mark)
    closing_gives p o = flat_both act_of (result_definitions p 0 o.names) (mark_acts o.mark) ∙ ap₂ ◌++◌ (flat_results p 0 o.names) (flat_mark o.mark)

    -- what the acts of a block's own give: its arguments, its label and its mark
    pub header_gives : (p : Path) (h : Head P T A) → flat_map act_of (header_acts p h) ≡ flat_map dv (texts (map (λ a. a.0) h.arguments)) ++ (flat_map mk (marked_as h.mark) ++ (dl h.label.text ++ []))
    header_gives p h =
        flat_both act_of (map (key_act block_may_hold) (entries_if h.attributes)) _
        ∙ (ap₂ ◌++◌ (flat_keys block_may_hold (entries_if h.attributes)) (flat_both act_of (argument_definitions p 0 h.arguments) _)
        ∙ ap₂ ◌++◌ (flat_arguments p 0 h.arguments) (flat_both act_of (mark_acts h.mark) _ ∙ ap (λ z. z ++ (dl h.label.text ++ [])) (flat_mark h.mark)))

-- ---- what acts ask
abbrev pub Holds : {P : Type 0} → Act Text P → Type 0
Holds (claim b x) = b ≡ true
Holds _ = ⊤

-- the act is no entry
abbrev pub NoEntry : {P : Type 0} → Act Text P → Type 0
NoEntry (entry i p) = ⊥
NoEntry _ = ⊤

-- nothing is required of an act that names or marks nothing, and it is no entry
abbrev Easy : {P : Type 0} → Act Text P → Type 0
Easy a = Holds a × NoEntry a

module _ {P : Type 0} where
  easy_values : (p : Path) (k : ℕ) (ns : List (Name P)) → Each Easy (value_uses p k ns)
  easy_values p k [] = tt
  easy_values p k (n ∷ ns) = ((tt, tt), easy_values p (suc k) ns)

  easy_labels : (p : Path) (k : ℕ) (ns : List (Name P)) → Each Easy (label_uses p k ns)
  easy_labels p k [] = tt
  easy_labels p k (n ∷ ns) = ((tt, tt), easy_labels p (suc k) ns)

  easy_results : (p : Path) (k : ℕ) (ns : List (Name P)) → Each Easy (result_definitions p k ns)
  easy_results p k [] = tt
  easy_results p k (n ∷ ns) = ((tt, tt), easy_results p (suc k) ns)

  easy_arguments : {T : Type 0} (p : Path) (k : ℕ) (xs : List (Name P × T)) → Each Easy (argument_definitions p k xs)
  easy_arguments p k [] = tt
  easy_arguments p k (x ∷ xs) = ((tt, tt), easy_arguments p (suc k) xs)

  easy_mark : (m : Option (Mark P)) → Each Easy (mark_acts m)
  easy_mark None = tt
  easy_mark (Some m) = ((tt, tt), tt)

  easy_holds : (acts : List (Act Text P)) → Each Easy acts → Each Holds acts
  easy_holds [] e = tt
  easy_holds (a ∷ acts) e = (e.0.0, easy_holds acts e.1)

  easy_no_entry : (acts : List (Act Text P)) → Each Easy acts → Each NoEntry acts
  easy_no_entry [] e = tt
  easy_no_entry (a ∷ acts) e = (e.0.1, easy_no_entry acts e.1)

  keys_hold : {A : Type 0} (rule : Rule A) (es : List (Name P × Attribute A)) → KeysKept rule es → Each Holds (map (key_act rule) es)
  keys_hold rule [] h = tt
  keys_hold rule (e ∷ es) h = (h.0, keys_hold rule es h.1)

  hold_keys : {A : Type 0} (rule : Rule A) (es : List (Name P × Attribute A)) → Each Holds (map (key_act rule) es) → KeysKept rule es
  hold_keys rule [] h = tt
  hold_keys rule (e ∷ es) h = (h.0, hold_keys rule es h.1)

  keys_no_entry : {A : Type 0} (rule : Rule A) (es : List (Name P × Attribute A)) → Each NoEntry (map (key_act rule) es)
  keys_no_entry rule [] = tt
  keys_no_entry rule (e ∷ es) = (tt, keys_no_entry rule es)

module _ {P T A : Type 0} where
  -- the claims of a piece hold if its keys are allowed
  pub piece_holds : (p : Path) (k l : ℕ) (x : Piece P T A) → KeysKept may_hold (entries_in x) → Each Holds (piece_acts p k l x)
  piece_holds p k l (tree.operand i n) h = (tt, tt)
  piece_holds p k l (tree.operands ns) h = easy_holds (value_uses p k ns) (easy_values p k ns)
  piece_holds p k l (tree.successor i n) h = (tt, tt)
  piece_holds p k l (tree.successors ns) h = easy_holds (label_uses p l ns) (easy_labels p l ns)
  piece_holds p k l (tree.dictionary es) h = keys_hold may_hold es h
  piece_holds p k l _ h = tt

  -- the keys of a piece are allowed if its claims hold
  pub holds_piece : (p : Path) (k l : ℕ) (x : Piece P T A) → Each Holds (piece_acts p k l x) → KeysKept may_hold (entries_in x)
  holds_piece p k l (tree.dictionary es) h = hold_keys may_hold es h
  holds_piece p k l _ h = tt

  -- no act of a piece is an entry
  pub piece_no_entry : (p : Path) (k l : ℕ) (x : Piece P T A) → Each NoEntry (piece_acts p k l x)
  piece_no_entry p k l (tree.operand i n) = (tt, tt)
  piece_no_entry p k l (tree.operands ns) = easy_no_entry (value_uses p k ns) (easy_values p k ns)
  piece_no_entry p k l (tree.successor i n) = (tt, tt)
  piece_no_entry p k l (tree.successors ns) = easy_no_entry (label_uses p l ns) (easy_labels p l ns)
  piece_no_entry p k l (tree.dictionary es) = keys_no_entry may_hold es
  piece_no_entry p k l _ = tt

  closing_rest : (p : Path) (o : Op P T A) → Each Easy (result_definitions p 0 o.names ++ mark_acts o.mark)
  closing_rest p o = each_both Easy (result_definitions p 0 o.names) (mark_acts o.mark) (easy_results p 0 o.names) (easy_mark o.mark)

  -- the claims at an operation's end hold where its counts agree
  pub closing_holds : (p : Path) (o : Op P T A) → CountsAgree o → Each Holds (closing_acts p o)
  closing_holds p o h = (h, easy_holds (result_definitions p 0 o.names ++ mark_acts o.mark) (closing_rest p o))

  -- no act at an operation's end is an entry
  pub closing_no_entry : (p : Path) (o : Op P T A) → Each NoEntry (closing_acts p o)
  closing_no_entry p o = (tt, easy_no_entry (result_definitions p 0 o.names ++ mark_acts o.mark) (closing_rest p o))

  abbrev rest_of : Path → Head P T A → List (Act Text P)
  rest_of p h = argument_definitions p 0 h.arguments ++ (mark_acts h.mark ++ define_label (record { name = h.label.text; at = h.label.place }) (block_at p) ∷ [])

  header_rest : (p : Path) (h : Head P T A) → Each Easy (rest_of p h)
  header_rest p h = each_both Easy (argument_definitions p 0 h.arguments) _ (easy_arguments p 0 h.arguments) (each_both Easy (mark_acts h.mark) _ (easy_mark h.mark) ((tt, tt), tt))

  -- the claims of a block's header hold if its keys are allowed
  pub header_holds : (p : Path) (h : Head P T A) → HeadKeysKept h → Each Holds (header_acts p h)
  header_holds p h k = each_both Holds (map (key_act block_may_hold) (entries_if h.attributes)) (rest_of p h) (keys_hold block_may_hold (entries_if h.attributes) k) (easy_holds (rest_of p h) (header_rest p h))

  -- the keys of a block's header are allowed if its claims hold
  pub holds_header : (p : Path) (h : Head P T A) → Each Holds (header_acts p h) → HeadKeysKept h
  holds_header p h k = hold_keys block_may_hold (entries_if h.attributes) (each_left Holds (map (key_act block_may_hold) (entries_if h.attributes)) (rest_of p h) k)

  -- no act of a block's own is an entry
  pub header_no_entry : (p : Path) (h : Head P T A) → Each NoEntry (header_acts p h)
  header_no_entry p h = each_both NoEntry (map (key_act block_may_hold) (entries_if h.attributes)) (rest_of p h) (keys_no_entry block_may_hold (entries_if h.attributes)) (easy_no_entry (rest_of p h) (header_rest p h))
