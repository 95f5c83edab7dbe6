-- What the types of an operation's parts keep, put together.
use Rattle.std.proofs.Math.Seq.{drop-cons}
use Rattle.std.proofs.Common.{◌≡◌, ◌∙◌, ◌<◌, ◌≤◌, ◌+◌, Bool, true, false, not, ◌&&◌, ◌||◌, zero, suc, ℕ, List, [], ◌∷◌, length, get_or, drop, map, Option, Some, None, refl, sym, ap, ap₂, subst, true≢false, arith}
use Rattle.std.proofs.lemmas.Option.{same_Some}
use Rattle.std.specs.Cmp.Lexicographic.{nat_list_eq_equiv}
use Rattle.std.specs.List.{list_all}
use Rattle.std.specs.Map.{keys_of}
use Rattle.std.specs.Borrow.{Bor}
use Rattle.std.specs.Option.{option_map}
use Rattle.std.specs.Prelude.{IfSome}
use Rattle.std.specs.Str.{bytes_eq}
use Rattle.irtext_context.specs.Dictionary.{is_reserved_for, are_given_names}
use Rattle.irtext_base.specs.Faults.{id_of}
use Rattle.irtext_base.specs.Format.{Accepted, distinct, has, same_text, given_names_key}
use Rattle.irtext_base.specs.Locations.{LocationsOf}
use Rattle.irtext_base.specs.Text.{Text}
use Rattle.irtext_base.specs.declared.base.attributes.AttrObj.{AttrObj}
use Rattle.irtext_base.specs.declared.base.attributes.AttrObj.TheVariants.{GivenNames, Ident, Own}
use Rattle.irtext_base.specs.declared.base.identifier.OpId.{OpId}
use Rattle.irtext_base.specs.declared.location.Location.{Location}
use Rattle.irtext_context.specs.Context.{ContextView, OperationView, BlockView}
use Rattle.irtext_context.specs.DialectTable.{registered}
use Rattle.irtext_context.specs.Dialects.{Known, Table, known_of}
use Rattle.irtext_base.specs.FormatViews as directives
use Rattle.irtext_context.specs.declared.dialect.OpInfo.{OpInfo}
use Rattle.irtext_grammar.specs.Contexts.Formats.{IsAccepted}
use Rattle.irtext_grammar.specs.Contexts.Held.{attribute_of, entries_of, location_over}
use Rattle.irtext_grammar.specs.Graphs.Identifiers.{EntryHasIdentifiers}
use Rattle.irtext_grammar.specs.Graphs.ReservedKeys.{KeepsKeys}
use Rattle.irtext_grammar.specs.Graphs.RoundTrip.{KeysDiffer}
use Rattle.irtext_grammar.specs.Names.Acts.{may_hold, is_given}
use Rattle.irtext_grammar.specs.Spelling.AttrText.{IsSpellableAttr}
use Rattle.irtext_grammar.specs.Spelling.Spellable.{Each, IsGiven, IsIdentifier}
use Rattle.irtext_grammar.specs.ContextParts.{IsKeptBlock}
use Rattle.irtext_grammar.specs.Promises.KeptRoot.{AllHold, IsKept, RowHold}
use Rattle.irtext_grammar.specs.Promises.LocationsBack.{AllFit, RowFit}
use Rattle.irtext_grammar.proofs.Lists.SameText.{same_text-bytes_eq}

-- if a conclusion follows from a property of all items from a position on, it follows from the property of all items after that position
pub next_kept : {X G : Type 0} (H : X → Type 0) (Q : List X → Type 0) → ((x : X) (xs : List X) → H x → Q xs → Q (x ∷ xs))
    → (items : List X) (i : ℕ) (x : X) → i < length items → x ≡ get_or items i x → H x → (Q (drop i items) → G) → Q (drop (i + 1) items) → G
next_kept H Q cons items i x l e h before rest =
    let after : suc i ≡ i + 1 = omega arith in
    let left : drop i items ≡ x ∷ drop (i + 1) items = drop-cons items i x l ∙ ap (λ z. z ∷ drop (suc i) items) (sym e) ∙ ap (λ n. x ∷ drop n items) after in
    before (subst Q (sym left) (cons x (drop (i + 1) items) h rest))

-- at the end nothing is left, so the conclusion follows
pub none_left : {X G : Type 0} (Q : List X → Type 0) → Q [] → (items : List X) (i : ℕ) → length items ≤ i → (Q (drop i items) → G) → G
none_left Q none [] zero h rest = rest none
none_left Q none [] (suc i) h rest = rest none
none_left Q none (x ∷ items) zero h rest = absurd (omega (arith, h))
none_left Q none (x ∷ items) (suc i) h rest = none_left Q none items i (omega (arith, h)) rest

either : (b g : Bool) → not (b && not g) ≡ true → (not b || g) ≡ true
either true true h = refl
either true false h = h
either false g h = refl

given : {A : Type 0} (a : AttrObj A) → are_given_names a ≡ is_given (attribute_of a)
given (GivenNames names) = refl
given (Ident name) = refl
given (Own a) = refl

may : {A : Type 0} (k : Text) (a : AttrObj A) → not (is_reserved_for k a) ≡ true → may_hold k (attribute_of a) ≡ true
may k a h =
    ap₂ (λ b g. not b || g) (same_text-bytes_eq k given_names_key ∙ nat_list_eq_equiv.symm k given_names_key) (sym (given a))
    ∙ either (bytes_eq given_names_key k) (are_given_names a) h

-- under the reserved key are given names, as definitions speak of a dictionary
pub keeps_reserved : {A : Type 0} (es : List (Text × AttrObj A)) → list_all (λ e. not (is_reserved_for e.0 e.1)) es ≡ true → KeepsKeys (entries_of es)
keeps_reserved [] h = refl
keeps_reserved (e ∷ es) h = go (not (is_reserved_for e.0 e.1)) refl h (keeps_reserved es)
  where
    go : (b : Bool) → not (is_reserved_for e.0 e.1) ≡ b → (b && list_all (λ e. not (is_reserved_for e.0 e.1)) es) ≡ true → (list_all (λ e. not (is_reserved_for e.0 e.1)) es ≡ true → KeepsKeys (entries_of es)) → KeepsKeys (entries_of (e ∷ es))
    go true q k deeper = ap₂ ◌&&◌ (may e.0 e.1 q) (deeper k)
    go false q k deeper = absurd (true≢false (sym k))

has_key : {A : Type 0} (k : Text) (es : List (Text × AttrObj A)) → has same_text k (map (λ e. e.0) (entries_of es)) ≡ has bytes_eq k (keys_of es)
has_key k [] = refl
has_key k (e ∷ es) = ap₂ ◌||◌ (same_text-bytes_eq k e.0) (has_key k es)

-- the keys of a dictionary differ, as definitions speak of it
pub keeps_distinct : {A : Type 0} (es : List (Text × AttrObj A)) → distinct same_text (map (λ e. e.0) (entries_of es)) ≡ distinct bytes_eq (keys_of es)
keeps_distinct [] = refl
keeps_distinct (e ∷ es) = ap₂ (λ h d. not h && d) (has_key e.0 es) (keeps_distinct es)

-- a part of a live object, as a call returns it
pub part_is : {V X : Type 0} (see : V → X) (o : Option V) (v : V) (x : X) → o ≡ Some v → option_map see o ≡ Some x → x ≡ see v
part_is see o v x is e = sym (same_Some (see v) x (sym (ap (option_map see) is) ∙ e))

-- what is known of a row of locations
abbrev pub RowIsKept : {A : Type 0} → LocationsOf (Option (List ℕ)) A → Type 0
RowIsKept ls = RowFit ls × RowHold IsSpellableAttr ls

accepted_in : (r : Option (Bor OpInfo)) → IfSome r (λ info. Accepted (directives.format_of info.now.format)) → IfSome (option_map (λ (known : Known). known.format) (option_map (λ info. known_of info.now) r)) Accepted
accepted_in None h = tt
accepted_in (Some info) h = h

-- the format of an operation, if it is registered, parses uniquely
pub accepted_of : (dialects : List (Text × Table)) (id : OpId) (r : Option (Bor OpInfo)) → option_map (λ info. known_of info.now) r ≡ registered dialects id → IfSome r (λ info. Accepted (directives.format_of info.now.format)) → IsAccepted dialects (id_of id)
accepted_of dialects id r e h = subst (λ o. IfSome (option_map (λ (known : Known). known.format) o) Accepted) e (accepted_in r h)

-- what the parts of an operation keep, it keeps
pub kept_of : {T A : Type 0} (ctx : ContextView T A) (op : OperationView T A) (id : OpId) (attributes : List (Text × AttrObj A)) (loc : Location A) → id ≡ op.id → attributes ≡ op.attributes → loc ≡ op.loc
    → IsIdentifier id.dialect → IsIdentifier id.name → Each EntryHasIdentifiers (entries_of attributes) → distinct bytes_eq (keys_of attributes) ≡ true → list_all (λ e. not (is_reserved_for e.0 e.1)) attributes ≡ true
    → AllFit (location_over ctx.paths loc) → AllHold IsSpellableAttr (location_over ctx.paths loc) → IsAccepted ctx.dialects (id_of id) → IsKept ctx op
kept_of ctx op id attributes loc same_id same_attributes same_loc dialect name entries differ reserved fits holds accepted = record {
  dialect = subst (λ i. IsIdentifier i.dialect) same_id dialect;
  name = subst (λ i. IsIdentifier i.name) same_id name;
  attributes = subst (λ es. Each EntryHasIdentifiers (entries_of es)) same_attributes entries;
  keys = subst (λ es. KeepsKeys (entries_of es)) same_attributes (keeps_reserved attributes reserved);
  differ = subst (λ es. KeysDiffer (entries_of es)) same_attributes (keeps_distinct attributes ∙ differ);
  fits = subst (λ l. AllFit (location_over ctx.paths l)) same_loc fits;
  holds = subst (λ l. AllHold IsSpellableAttr (location_over ctx.paths l)) same_loc holds;
  accepted = subst (λ i. IsAccepted ctx.dialects (id_of i)) same_id accepted;
}

-- what the parts of a block keep, it keeps
pub block_kept_of : {T A : Type 0} (ctx : ContextView T A) (b : BlockView T A) (label : Option Text) (attributes : List (Text × AttrObj A)) (loc : Location A) → label ≡ b.label → attributes ≡ b.attributes → loc ≡ b.loc
    → IsGiven label → Each EntryHasIdentifiers (entries_of attributes) → distinct bytes_eq (keys_of attributes) ≡ true → list_all (λ e. not (is_reserved_for e.0 e.1)) attributes ≡ true
    → AllFit (location_over ctx.paths loc) → AllHold IsSpellableAttr (location_over ctx.paths loc) → IsKeptBlock ctx b
block_kept_of ctx b label attributes loc same_label same_attributes same_loc name entries differ reserved fits holds = record {
  label = subst IsGiven same_label name;
  attributes = subst (λ es. Each EntryHasIdentifiers (entries_of es)) same_attributes entries;
  keys = subst (λ es. KeepsKeys (entries_of es)) same_attributes (keeps_reserved attributes reserved);
  differ = subst (λ es. KeysDiffer (entries_of es)) same_attributes (keeps_distinct attributes ∙ differ);
  fits = subst (λ l. AllFit (location_over ctx.paths l)) same_loc fits;
  holds = subst (λ l. AllHold IsSpellableAttr (location_over ctx.paths l)) same_loc holds;
}
