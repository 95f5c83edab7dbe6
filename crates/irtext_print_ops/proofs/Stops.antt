-- The directive that is read next of an operation: which part is next, and that a region stops the pieces before it.
use Rattle.std.proofs.Common.{◌≡◌, ◌<◌, ◌≤◌, ◌∙◌, ◌∷◌, ◌++◌, ◌+◌, ℕ, List, [], Some, arith, ap, drop, length, sym}
use Rattle.std.proofs.lemmas.List.{length-map}
use Rattle.std.specs.List.{cons_option}
use Rattle.std.specs.Prelude.{⊤}
use Rattle.std.specs.Str.{encode_utf8_all}
use Rattle.irtext_base.specs.Own.{Language}
use Rattle.irtext_base.specs.declared.format.Directive as code
use Rattle.irtext_base.specs.FormatViews.{directive_of, directives_of}
use Rattle.irtext_grammar.specs.Grammar.Tree.{Part}
use Rattle.irtext_grammar.specs.Graphs.Graph.{GraphOp, Printing}
use Rattle.irtext_print_ops.specs.Steps.{custom_directives}
use Rattle.irtext_print_ops.specs.Walk.{after_pieces, directives_in, part_at, parts_left, pieces_text}
use Rattle.irtext_print_ops.proofs.Directives.{all_written, directives_found, parts_step}

module _ {T A : Type 0} (C : Printing T A) (L : Language ⊤ T A) (o : GraphOp T A) (items : List code.Directive) (at : ℕ) (x : code.Directive)
    (known : Some (directives_of items) ≡ custom_directives (C.format_of o.id)) (read : drop at items ≡ x ∷ drop (at + 1) items) where
  -- the directives of the format are those that were found
  pub found : directives_in (C.format_of o.id) ≡ directives_of items
  found = directives_found (C.format_of o.id) (directives_of items) known

  -- the part of the directive, and those after it
  pub next_part : parts_left C o at ≡ cons_option (part_at C o (directive_of x)) (parts_left C o (at + 1))
  next_part = parts_step C o items at x found read

  -- the pieces from a directive on are written, and stop before this part
  pub record StopsAt (from : ℕ) (part : Part ⊤ T A) (now whole : List ℕ) : Type 0 where
    pub text : now ≡ whole
    pub left : after_pieces (parts_left C o from) ≡ part ∷ parts_left C o (at + 1)
    pub past : from < at + 1
    pub within : at + 1 ≤ length (directives_in (C.format_of o.id))

  pub stops_at : (from : ℕ) (part : Part ⊤ T A) (now whole : List ℕ) → at < length items → part_at C o (directive_of x) ≡ Some part → pieces_text L (part ∷ parts_left C o (at + 1)) ≡ [] → after_pieces (part ∷ parts_left C o (at + 1)) ≡ part ∷ parts_left C o (at + 1) →
      now ++ encode_utf8_all (pieces_text L (parts_left C o at)) ≡ whole → after_pieces (parts_left C o at) ≡ after_pieces (parts_left C o from) → from ≤ at → StopsAt from part now whole
  stops_at from part now whole low is none stays text following past =
      let next : parts_left C o at ≡ part ∷ parts_left C o (at + 1) = next_part ∙ ap (λ y. cons_option y (parts_left C o (at + 1))) is in
      let count : length (directives_in (C.format_of o.id)) ≡ length items = ap length found ∙ length-map items directive_of in
      record {
        text = all_written L (parts_left C o at) (part ∷ parts_left C o (at + 1)) now whole next none text;
        left = sym following ∙ ap after_pieces next ∙ stays;
        past = omega (arith, past);
        within = omega (arith, count, low);
      }
